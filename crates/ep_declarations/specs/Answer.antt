-- What the readers of declarations and heads answer.
use Rattle.std.specs.Prelude.{◌≡◌, Bool, true, false, List, [], ◌∷◌, Option, Some, None}
use Rattle.std.specs.Global.{Vec}
use Rattle.ep_ast.specs.Declaration as tree
use Rattle.ep_ast.specs.Declaration.{Spec, Aggregate, Member, Declaration, Head, spec_of, aggregate_of, member_of}
use Rattle.ep_ast.specs.Declaration.{declaration_of, head_of}
use Rattle.ep_ast.specs.DeclarationGrammar as grammar
use Rattle.ep_ast.specs.DeclarationGrammar.{are_named}
use Rattle.ep_ast.specs.Depth.{in_spec, in_aggregate, in_member, in_declaration, in_head}
use Rattle.ep_ast.specs.declared.declarations.AggregateTree.{AggregateTree}
use Rattle.ep_ast.specs.declared.declarations.DeclarationTree.{DeclarationTree}
use Rattle.ep_ast.specs.declared.declarations.MemberTree.{MemberTree}
use Rattle.ep_reading.specs.declared.measured.Measured.{Measured}
use Rattle.ep_reading.specs.Measured.{Shows, ShowsAll}
use Rattle.ep_declarations.specs.declared.specs.Context.{Context}
use Rattle.ep_declarations.specs.declared.specs.Context.TheVariants as contexts
use Rattle.ep_declarations.specs.declared.specs.SpecList.{SpecList}
use Rattle.ep_declarations.specs.declared.heads.Headed.{Headed}

abbrev pub context : Context → grammar.Context
context contexts.FileScope = grammar.at_file_scope
context contexts.Typedef = grammar.in_typedef
context contexts.Aggregate = grammar.in_aggregate
context contexts.Block = grammar.in_block

-- a `struct` or `union` with its members, and nothing else
abbrev pub is_one_body : List Spec → Bool
is_one_body (tree.body a ∷ []) = true
is_one_body _ = false

abbrev pub ShowsSpecs : SpecList → List Spec → Type 0
ShowsSpecs s ss = ShowsAll spec_of in_spec s.tree ss × (s.alone ≡ is_one_body ss)

-- the aggregate, where these words are one `struct` or `union` with its members
abbrev pub TakesBody : Option (Measured AggregateTree) → List Spec → Type 0
TakesBody (Some k) ss = (a : Aggregate) × (ss ≡ tree.body a ∷ []) × Shows aggregate_of in_aggregate k a
TakesBody None ss = is_one_body ss ≡ false

abbrev pub is_body : Spec → Bool
is_body (tree.plain w) = false
is_body (tree.body a) = true

abbrev pub AsAggregate : Option AggregateTree → Spec → Type 0
AsAggregate (Some a) s = s ≡ tree.body (aggregate_of a)
AsAggregate None s = is_body s ≡ false

abbrev pub ShowsMembers : Measured (Vec MemberTree) → List Member → Type 0
ShowsMembers k ms = ShowsAll member_of in_member k ms

abbrev pub ShowsDeclaration : Measured DeclarationTree → Declaration → Type 0
ShowsDeclaration k d = Shows declaration_of in_declaration k d

abbrev pub ShowsHead : Headed → Head → Type 0
ShowsHead h v = Shows head_of in_head h.tree v × (h.named ≡ are_named v.params)
