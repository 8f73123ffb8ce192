use Rattle.std.proofs.Common.{◌∙◌, Some, ap, refl}
use Rattle.ep_layout.specs.declared.types.Ty.TheVariants as rows
use Rattle.ep_typing.specs.declared.types.Base.TheVariants as bases
use Rattle.ep_operands.proofs.TypeLemmas.{base_at}
use Rattle.ep_operands.proofs.types.base_of.Goals as goal

pub returns-in-Void : goal.returns-in-Void
returns-in-Void c =
    base_at c.args.types.now c.args.number rows.Void bases.Void (c.ty.ensures ∙ ap Some c.in-Void.is) (λ at. refl)

pub returns-in-Int : goal.returns-in-Int
returns-in-Int c =
    base_at c.args.types.now c.args.number (rows.Int c.in-Int.t) (bases.Int c.in-Int.t) (c.ty.ensures ∙ ap Some c.in-Int.is) (λ at. refl)

pub returns-in-Array : goal.returns-in-Array
returns-in-Array c =
    base_at c.args.types.now c.args.number (rows.Array c.in-Array.field-0 c.in-Array.field-1) (bases.Array c.args.number)
    (c.ty.ensures ∙ ap Some c.in-Array.is) (λ at. refl)

pub returns-in-Aggregate : goal.returns-in-Aggregate
returns-in-Aggregate c =
    base_at c.args.types.now c.args.number (rows.Aggregate c.in-Aggregate.a) (bases.Aggregate c.in-Aggregate.a)
    (c.ty.ensures ∙ ap Some c.in-Aggregate.is) (λ at. refl)
