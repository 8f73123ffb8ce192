use Rattle.std.proofs.Common.{Result, subst}
use Rattle.std.proofs.lemmas.Result.{on_ok_weaker}
use Rattle.ep_ast.specs.declared.refusals.Refusal.{Refusal}
use Rattle.ep_layout.specs.declared.types.Ty.TheVariants as rows
use Rattle.ep_layout.specs.Table.{Table}
use Rattle.ep_typing.specs.declared.types.CType.{CType}
use Rattle.ep_declared.specs.Refinement.{RefinesIn}
use Rattle.ep_declared.proofs.ArrayLemmas.{array_of_is, grown_twice, row_known}
use Rattle.ep_declared.proofs.Growth.{IsMore}
use Rattle.ep_declared.proofs.Coming.{grown_behind, grown_by_type}
use Rattle.ep_declared.proofs.arrays.array_of.Goals as goal

pub add_array-requires : goal.add_array-requires
add_array-requires c =
    row_known c.args.types.now c.add_type.new.types c.args.c _ c.args.count c.in_ok-add_type.ensures
    c.type_number-element.ensures c.requires

pub returns-clause-means : goal.returns-clause-means
returns-clause-means c =
    subst (λ (s : Result (CType × Table) Refusal). RefinesIn (λ (d : CType). d) s c.add_array.new.types
    c.add_array.result)
    (array_of_is c.args.line c.args.types.now c.add_type.new.types c.args.c _ c.args.count c.in_ok-add_type.ensures
    c.type_number-element.ensures)
    c.add_array.ensures.means

pub returns-clause-grown : goal.returns-clause-grown
returns-clause-grown c =
    on_ok_weaker c.add_array.result (λ (m : IsMore c.args.types.now c.add_array.new.types). m.grows)
    (grown_twice c.add_array.result c.args.types.now c.add_type.new.types c.add_array.new.types c.args.c (rows.Array
    c.type_number-element.result c.args.count)
    c.in_ok-add_type.ensures c.add_array.ensures.grown)

pub returns-clause-stay : goal.returns-clause-stay
returns-clause-stay c =
    on_ok_weaker c.add_array.result (λ (m : IsMore c.args.types.now c.add_array.new.types). m.stay)
    (grown_twice c.add_array.result c.args.types.now c.add_type.new.types c.add_array.new.types c.args.c (rows.Array
    c.type_number-element.result c.args.count)
    c.in_ok-add_type.ensures c.add_array.ensures.grown)

pub returns-clause-comes : goal.returns-clause-comes
returns-clause-comes c =
    grown_behind c.add_array.result c.args.types.now c.add_type.new.types c.add_array.new.types
    (grown_by_type c.args.types.now c.add_type.new.types c.args.c c.in_ok-add_type.ensures) c.add_array.ensures.comes
