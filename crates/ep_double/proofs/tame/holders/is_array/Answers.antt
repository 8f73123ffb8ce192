use Rattle.std.proofs.Common.{sym, ap, ◌∙◌, Some}
use Rattle.ep_double.proofs.Insides.{array_is, void_is, number_is, pointer_is, aggregate_is}
use Rattle.ep_double.proofs.tame.holders.is_array.Goals as goal

pub returns-in-Array : goal.returns-in-Array
returns-in-Array c =
    sym (array_is c.args.types.now c.requires.built c.args.ty c.in-Array.field-0 c.in-Array.field-1
    (c.ty.ensures ∙ ap Some c.in-Array.is))

pub returns-in-Void : goal.returns-in-Void
returns-in-Void c =
    sym (void_is c.args.types.now c.requires.built c.args.ty (c.ty.ensures ∙ ap Some c.in-Void.is)).1

pub returns-in-Int : goal.returns-in-Int
returns-in-Int c =
    sym (number_is c.args.types.now c.requires.built c.args.ty c.in-Int.field-0 (c.ty.ensures ∙ ap Some c.in-Int.is)).1

pub returns-in-Ptr : goal.returns-in-Ptr
returns-in-Ptr c =
    sym (pointer_is c.args.types.now c.requires.built c.args.ty c.in-Ptr.field-0 (c.ty.ensures ∙ ap Some c.in-Ptr.is)).1

pub returns-in-Aggregate : goal.returns-in-Aggregate
returns-in-Aggregate c =
    sym (aggregate_is c.args.types.now c.requires.built c.args.ty c.in-Aggregate.field-0
    (c.ty.ensures ∙ ap Some c.in-Aggregate.is))
