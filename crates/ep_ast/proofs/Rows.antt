-- The trees in a `Vec`, as a list.
use Rattle.std.proofs.Common.{◌≡◌, List, map, refl, ap, sym, ◌∙◌, Option, Some, None}
use Rattle.std.specs.Option.{option_map}
use mathlib.Core.Former.{Count}
use Rattle.std.specs.Global.{Vec}
use Rattle.ep_ast.specs.declared.expressions.ExprTree.{ExprTree, Row_of-ExprTree, end_of-ExprTree, more_of-ExprTree}
use Rattle.ep_ast.specs.declared.expressions.ExprTree.{items-the_row-ExprTree, items_hidden-the_row-ExprTree-0}
use Rattle.ep_ast.specs.declared.expressions.ExprTree.TheBlock.{hidden-the_row-ExprTree-0}
use Rattle.ep_ast.specs.declared.declarations.ValueTree.{ValueTree, Row_of-ValueTree, end_of-ValueTree}
use Rattle.ep_ast.specs.declared.declarations.ValueTree.{more_of-ValueTree, items-the_row-ValueTree}
use Rattle.ep_ast.specs.declared.declarations.ValueTree.{items_hidden-the_row-ValueTree-0}
use Rattle.ep_ast.specs.declared.declarations.ValueTree.TheBlock.{hidden-the_row-ValueTree-0}
use Rattle.ep_ast.specs.declared.declarations.SpecTree.{SpecTree}
use Rattle.ep_ast.specs.declared.declarations.MemberTree.{MemberTree}
use Rattle.ep_ast.specs.declared.declarations.SpecTree.TheBlock.{Row_of-SpecTree, end_of-SpecTree, more_of-SpecTree}
use Rattle.ep_ast.specs.declared.declarations.SpecTree.TheBlock.{items-the_row-SpecTree, Row_of-MemberTree}
use Rattle.ep_ast.specs.declared.declarations.SpecTree.TheBlock.{end_of-MemberTree, more_of-MemberTree}
use Rattle.ep_ast.specs.declared.declarations.SpecTree.TheBlock.{items-the_row-MemberTree}
use Rattle.ep_ast.specs.declared.declarations.SpecTree.TheBlock.{items_hidden-the_row-MemberTree-1}
use Rattle.ep_ast.specs.declared.declarations.SpecTree.TheBlock.{hidden-the_row-MemberTree-1}
use Rattle.ep_ast.specs.declared.declarations.SpecTree.TheBlock.{items_shown-the_row-SpecTree-0}
use Rattle.ep_ast.specs.declared.declarations.SpecTree.TheBlock.{shown-the_row-SpecTree-0}
use Rattle.ep_ast.specs.declared.statements.StmtTree.{StmtTree}
use Rattle.ep_ast.specs.declared.statements.BlockItemTree.{BlockItemTree}
use Rattle.ep_ast.specs.declared.statements.BlockItemTree.TheBlock.{Row_of-StmtTree, end_of-StmtTree, more_of-StmtTree}
use Rattle.ep_ast.specs.declared.statements.BlockItemTree.TheBlock.{items-the_row-StmtTree}
use Rattle.ep_ast.specs.declared.statements.BlockItemTree.TheBlock.{items_hidden-the_row-StmtTree-0}
use Rattle.ep_ast.specs.declared.statements.BlockItemTree.TheBlock.{hidden-the_row-StmtTree-0, Row_of-BlockItemTree}
use Rattle.ep_ast.specs.declared.statements.BlockItemTree.TheBlock.{end_of-BlockItemTree, more_of-BlockItemTree}
use Rattle.ep_ast.specs.declared.statements.BlockItemTree.TheBlock.{items-the_row-BlockItemTree}
use Rattle.ep_ast.specs.declared.statements.BlockItemTree.TheBlock.{items_hidden-the_row-BlockItemTree-1}
use Rattle.ep_ast.specs.declared.statements.BlockItemTree.TheBlock.{hidden-the_row-BlockItemTree-1}
use Rattle.ep_ast.specs.declared.statements.BlockItemTree.TheBlock.{back-BlockItemTree-Arms-3}
use Rattle.ep_ast.specs.Expression.{Exprs, expr, exprs, to_exprs, more_exprs}
use Rattle.ep_ast.specs.Declaration.{Specs, Members, Values, spec_of, specs_of, to_specs, more_specs, member_of}
use Rattle.ep_ast.specs.Declaration.{members_of, to_members, more_members, member, member_field, value_of, values_of}
use Rattle.ep_ast.specs.Declaration.{to_values, more_values}
use Rattle.ep_ast.specs.Statement.{Stmts, Parts, stmt_of, stmts_of, to_stmts, more_stmts, part_of, parts_of, to_parts}
use Rattle.ep_ast.specs.Statement.{more_parts, statements, held_stmts}

exprs-row : (n : Count) (row : Row_of-ExprTree n) → exprs row ≡ to_exprs (map expr (items-the_row-ExprTree n row))
exprs-row n end_of-ExprTree = refl
exprs-row n (more_of-ExprTree e rest) = ap (λ (es : Exprs). more_exprs (expr e) es) (exprs-row _ rest)

pub exprs-vec : (v : Vec ExprTree) → exprs (hidden-the_row-ExprTree-0 v) ≡ to_exprs (map expr v.items)
exprs-vec v = exprs-row _ (hidden-the_row-ExprTree-0 v) ∙ ap (λ (es : List ExprTree). to_exprs (map expr es))
    (items_hidden-the_row-ExprTree-0 v)

values-row : (n : Count) (row : Row_of-ValueTree n) → values_of row ≡ to_values
    (map value_of (items-the_row-ValueTree n row))
values-row n end_of-ValueTree = refl
values-row n (more_of-ValueTree e rest) = ap (λ (es : Values). more_values (value_of e) es) (values-row _ rest)

pub values-vec : (v : Vec ValueTree) → values_of (hidden-the_row-ValueTree-0 v) ≡ to_values (map value_of v.items)
values-vec v = values-row _ (hidden-the_row-ValueTree-0 v) ∙ ap (λ (es : List ValueTree). to_values (map value_of es))
    (items_hidden-the_row-ValueTree-0 v)

specs-row : (n : Count) (row : Row_of-SpecTree n) → specs_of row ≡ to_specs (map spec_of (items-the_row-SpecTree n row))
specs-row n end_of-SpecTree = refl
specs-row n (more_of-SpecTree e rest) = ap (λ (es : Specs). more_specs (spec_of e) es) (specs-row _ rest)

members-row : (n : Count) (row : Row_of-MemberTree n) → members_of row ≡ to_members
    (map member_of (items-the_row-MemberTree n row))
members-row n end_of-MemberTree = refl
members-row n (more_of-MemberTree l shape ss fs rest) =
    let m : MemberTree = record { line = l; specs = shown-the_row-SpecTree-0 shape ss; fields = fs } in
    ap (λ (xs : Specs). more_members (member l xs (map member_field fs.items)) (members_of rest))
    (specs-row _ ss ∙ ap (λ (xs : List SpecTree). to_specs (map spec_of xs))
    (sym (items_shown-the_row-SpecTree-0 shape ss)))
    ∙ ap (λ (ms : Members). more_members (member_of m) ms) (members-row _ rest)

pub members-vec : (v : Vec MemberTree) → members_of (hidden-the_row-MemberTree-1 v) ≡ to_members (map member_of v.items)
members-vec v = members-row _ (hidden-the_row-MemberTree-1 v)
    ∙ ap (λ (es : List MemberTree). to_members (map member_of es)) (items_hidden-the_row-MemberTree-1 v)

stmts-row : (n : Count) (row : Row_of-StmtTree n) → stmts_of row ≡ to_stmts (map stmt_of (items-the_row-StmtTree n row))
stmts-row n end_of-StmtTree = refl
stmts-row n (more_of-StmtTree e rest) = ap (λ (es : Stmts). more_stmts (stmt_of e) es) (stmts-row _ rest)

pub stmts-vec : (v : Vec StmtTree) → stmts_of (hidden-the_row-StmtTree-0 v) ≡ statements v
stmts-vec v = stmts-row _ (hidden-the_row-StmtTree-0 v) ∙ ap (λ (es : List StmtTree). to_stmts (map stmt_of es))
    (items_hidden-the_row-StmtTree-0 v)

pub stmts-option : (o : Option (Vec StmtTree)) → held_stmts (back-BlockItemTree-Arms-3 o) ≡ option_map statements o
stmts-option None = refl
stmts-option (Some v) = ap (λ (ss : Stmts). Some ss) (stmts-vec v)

parts-row : (n : Count) (row : Row_of-BlockItemTree n)
    → parts_of row ≡ to_parts (map part_of (items-the_row-BlockItemTree n row))
parts-row n end_of-BlockItemTree = refl
parts-row n (more_of-BlockItemTree e rest) = ap (λ (es : Parts). more_parts (part_of e) es) (parts-row _ rest)

pub parts-vec : (v : Vec BlockItemTree) → parts_of (hidden-the_row-BlockItemTree-1 v) ≡ to_parts (map part_of v.items)
parts-vec v = parts-row _ (hidden-the_row-BlockItemTree-1 v)
    ∙ ap (λ (es : List BlockItemTree). to_parts (map part_of es)) (items_hidden-the_row-BlockItemTree-1 v)
