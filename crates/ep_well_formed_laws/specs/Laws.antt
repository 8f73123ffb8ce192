-- What is proved of meanings and well-formedness.
use Rattle.std.specs.Prelude.{◌≡◌, ℕ, ◌<◌, Bool, false, List, [], length, Option, Ok}
use Rattle.ep_ast.specs.Expression as source
use Rattle.ep_ast.specs.Declaration.{Declaration}
use Rattle.ep_ast.specs.Statement.{Function, Parts}
use Rattle.ep_core.specs.Program as core
use Rattle.ep_typing.specs.declared.types.CType.{CType}
use Rattle.ep_typing.specs.Env.{Env}
use Rattle.ep_typing.specs.Names.{mentioned}
use Rattle.ep_typing.specs.Operand.{Operand}
use Rattle.ep_typing.specs.Typing.{meaning, whole_statement}
use Rattle.ep_elaboration.specs.Declarations.{Line, Made, declaration}
use Rattle.ep_elaboration.specs.Functions.{Defined}
use Rattle.ep_elaboration.specs.FunctionSteps.{function_defined}
use Rattle.ep_elaboration.specs.Statements.{parts, to_core}
use Rattle.ep_well_formed_laws.specs.Environments.{Covers, HasScope, IsEnv}
use Rattle.ep_well_formed_laws.specs.Operands.{OperandFits}
use Rattle.ep_well_formed_laws.specs.Statements.{IsDefined, IsResultOf, StmtsFit, WhatFits}

-- What an expression mentions leaves an environment in which all that is named is there, and can be named.
abbrev pub MentionsKeep : Type 0
MentionsKeep = (G : Env) (seen : List ℕ) (e : source.Expr) → IsEnv G → Covers seen G
    → IsEnv (mentioned G e) × Covers seen (mentioned G e)

-- In such an environment, where some type was declared, an expression computes what its type says.
abbrev pub ExpressionsFit : Type 0
ExpressionsFit = (G : Env) (seen : List ℕ) (e : source.Expr) (x : Operand) → IsEnv G → Covers seen G
    → 0 < length G.types.types → meaning G e ≡ Ok x
    → OperandFits (mentioned G e).types (mentioned G e).blocks (mentioned G e).functions seen x

-- And as a whole statement it comes to one of the core that fits.
abbrev pub WholeStatementsFit : Type 0
WholeStatementsFit = (G : Env) (seen : List ℕ) (e : source.Expr) (may_call : Bool) (w : core.What) → IsEnv G
    → Covers seen G → 0 < length G.types.types → whole_statement (mentioned G e) may_call e ≡ Ok w
    → (result : Option ℕ) (in_loop : Bool)
    → WhatFits (mentioned G e).types (mentioned G e).blocks (mentioned G e).functions result w seen in_loop

-- What a declaration in a function comes to fits, wherever in a function it stands. In the environment behind it all
-- that is named is there.
abbrev pub DeclarationsFit : Type 0
DeclarationsFit = (G : Env) (result : Option ℕ) (may_call : Bool) (d : Declaration) (m : Made × Env) → IsEnv G
    → HasScope G → 0 < length G.types.types → declaration G false may_call d ≡ Ok m
    → IsEnv m.1 × ((seen : List ℕ) (in_loop : Bool) → Covers seen m.1
    → StmtsFit m.1.types m.1.blocks m.1.functions result (to_core m.0.lines) seen in_loop)

-- And so does what the parts of a block come to, in a function with this result, inside of a loop or not.
abbrev pub BlocksFit : Type 0
BlocksFit = (G : Env) (c : CType) (result : Option ℕ) (in_loop : Bool) (ps : Parts) (a : List Line × Env) → IsEnv G
    → HasScope G → 0 < length G.types.types → IsResultOf G.types c result → parts G c in_loop ps ≡ Ok a
    → IsEnv a.1 × ((seen : List ℕ) → Covers seen a.1
    → StmtsFit a.1.types a.1.blocks a.1.functions result (to_core a.0) seen in_loop)

-- A function that is defined fits, where at file scope only global objects are in scope, and so it is behind it.
abbrev pub DefinitionsFit : Type 0
DefinitionsFit = (G : Env) (defined : List ℕ) (f : Function) (d : Defined × Env) → IsEnv G → Covers [] G
    → function_defined G defined f ≡ Ok d
    → IsEnv d.1 × Covers [] d.1 × IsDefined d.1.types d.1.blocks d.1.functions d.0.function
