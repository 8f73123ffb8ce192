use Rattle.std.proofs.Common.{◌<◌, Some, length, ap, sym, ◌∙◌, arith}
use Rattle.std.proofs.lemmas.Bool.{eqb-true, eqb-false}
use Rattle.ep_layout.specs.declared.types.Member.{Member}
use Rattle.ep_layout.specs.Views.{member_view, members_view}
use Rattle.ep_double.specs.Holders.{is_array}
use Rattle.ep_double.proofs.Insides.{void_is, number_is, pointer_is, element_holds, element_known, element_lower}
use Rattle.ep_double.proofs.Insides.{aggregate_there, has_one, member_lower}
use Rattle.ep_double.proofs.Answered.{row_at, no_members, rows_there, rows_lower, other_found, part_there}
use Rattle.ep_double.proofs.Answered.{part_is_array, as_part, next_spared, next_none, none_all}
use Rattle.ep_double.proofs.tame.holders.+holders.Goals as goal
use Rattle.ep_double.proofs.tame.holders.+holders.Goals.{other_has-else-i-spared-via-then-i-spared+else-has_array}
use Rattle.ep_double.proofs.tame.holders.+holders.Goals.{other_has-else-i-spared-via-else-i-spared}

pub look_at-members-members-requires : goal.look_at-members-members-requires
look_at-members-members-requires t c =
    aggregate_there c.args.types.now c.requires.built c.args.ty c.in-Aggregate.aggregate
    (c.ty.ensures ∙ ap Some c.in-Aggregate.is)

pub look_at-returns-then-is_empty : goal.look_at-returns-then-is_empty
look_at-returns-then-is_empty t c =
    no_members c.args.types.now c.requires.built c.args.ty c.in-Aggregate.aggregate
    (c.ty.ensures ∙ ap Some c.in-Aggregate.is) c.members-members.result.now c.members-members.ensures
    (eqb-true (length c.members-members.result.now) 0 (sym c.is_empty.ensures ∙ c.if-is_empty.true))

pub look_at-widest-widest-requires-clause-there : goal.look_at-widest-widest-requires-clause-there
look_at-widest-widest-requires-clause-there t c =
    rows_there c.args.types.now c.requires.built c.args.ty c.in-Aggregate.aggregate
    (c.ty.ensures ∙ ap Some c.in-Aggregate.is) c.members-members.result.now c.members-members.ensures
    (let d = eqb-false (length c.members-members.result.now) 0 (sym c.is_empty.ensures ∙ c.if-is_empty.false) in
    omega (arith, d))

pub look_at-other_has-requires : goal.look_at-other_has-requires
look_at-other_has-requires t c =
    let some = c.widest-widest.ensures in
    let l : 0 < length c.members-members.result.now = omega (arith, some) in
    let lower = rows_lower c.args.types.now c.requires.built c.args.ty c.in-Aggregate.aggregate
    (c.ty.ensures ∙ ap Some c.in-Aggregate.is) c.members-members.result.now c.members-members.ensures l in
    let d = c.decreases in (
      omega (arith, lower, d),
      (
        c.requires.built,
        rows_there c.args.types.now c.requires.built c.args.ty c.in-Aggregate.aggregate
            (c.ty.ensures ∙ ap Some c.in-Aggregate.is) c.members-members.result.now c.members-members.ensures l,
      ),
    )

pub look_at-returns-then-other_has : goal.look_at-returns-then-other_has
look_at-returns-then-other_has t c =
    let some = c.widest-widest.ensures in
    other_found c.args.types.now c.requires.built c.args.ty c.in-Aggregate.aggregate
    (c.ty.ensures ∙ ap Some c.in-Aggregate.is) c.members-members.result.now c.members-members.ensures
    (omega (arith, some)) c.if-other_has.ensures

pub look_at-is_array-requires-clause-there : goal.look_at-is_array-requires-clause-there
look_at-is_array-requires-clause-there t c =
    let some = c.widest-widest.ensures in
    rw (← c.index-members-widest.is)
    (part_there c.args.types.now c.requires.built c.args.ty c.in-Aggregate.aggregate
    (c.ty.ensures ∙ ap Some c.in-Aggregate.is) c.members-members.result.now c.members-members.ensures
    (omega (arith, some)) c.widest-widest.result c.index-members-widest.result some c.index-members-widest.is)

pub look_at-returns-then-is_array : goal.look_at-returns-then-is_array
look_at-returns-then-is_array t c =
    let some = c.widest-widest.ensures in
    part_is_array c.args.types.now c.requires.built c.args.ty c.in-Aggregate.aggregate
    (c.ty.ensures ∙ ap Some c.in-Aggregate.is) c.members-members.result.now c.members-members.ensures
    (omega (arith, some)) c.widest-widest.result c.index-members-widest.result some c.index-members-widest.is
    (ap (λ (m : Member). is_array c.args.types.now m.ty) c.index-members-widest.is ∙ sym c.is_array.ensures
    ∙ c.if-is_array.true)

pub look_at-returns-else-is_array : goal.look_at-returns-else-is_array
look_at-returns-else-is_array t c =
    let some = c.widest-widest.ensures in
    rw (← c.index-members-widest.is)
    (as_part c.args.types.now c.requires.built c.args.ty c.in-Aggregate.aggregate
    (c.ty.ensures ∙ ap Some c.in-Aggregate.is) c.members-members.result.now c.members-members.ensures
    (omega (arith, some)) c.widest-widest.result c.index-members-widest.result some c.index-members-widest.is
    c.if-other_has.ensures
    (ap (λ (m : Member). is_array c.args.types.now m.ty) c.index-members-widest.is ∙ sym c.is_array.ensures
    ∙ c.if-is_array.false))

pub look_at-returns-in-Void : goal.look_at-returns-in-Void
look_at-returns-in-Void t c =
    (void_is c.args.types.now c.requires.built c.args.ty (c.ty.ensures ∙ ap Some c.in-Void.is)).0

pub look_at-returns-in-Int : goal.look_at-returns-in-Int
look_at-returns-in-Int t c =
    (number_is c.args.types.now c.requires.built c.args.ty c.in-Int.field-0 (c.ty.ensures ∙ ap Some c.in-Int.is)).0

pub look_at-returns-in-Ptr : goal.look_at-returns-in-Ptr
look_at-returns-in-Ptr t c =
    (pointer_is c.args.types.now c.requires.built c.args.ty c.in-Ptr.field-0 (c.ty.ensures ∙ ap Some c.in-Ptr.is)).0

pub look_at-returns-in-Array : goal.look_at-returns-in-Array
look_at-returns-in-Array t c =
    let h = c.ty.ensures ∙ ap Some c.in-Array.is in (
      element_holds c.args.types.now c.requires.built c.args.ty c.in-Array.element c.in-Array.field-1 h,
      element_known c.args.types.now c.requires.built c.args.ty c.in-Array.element c.in-Array.field-1 h,
      element_lower c.args.types.now c.requires.built c.args.ty c.in-Array.element c.in-Array.field-1 h,
    )

pub other_has-has_array-requires : goal.other_has-has_array-requires
other_has-has_array-requires t c =
    let row = row_at c.args.members.now c.loop-i.i c.index-members-i.result c.loop-i-test.true c.index-members-i.is in
    let l = member_lower c.args.types.now c.requires.built (members_view c.args.members.now) c.loop-i.i
    (member_view c.index-members-i.result) row in
    let d = c.decreases in
    (omega (arith, l, d), (c.requires.built, c.requires.there c.loop-i.i (member_view c.index-members-i.result) row))

pub other_has-returns-then-has_array : goal.other_has-returns-then-has_array
other_has-returns-then-has_array t c =
    has_one c.args.types.now c.requires.built (members_view c.args.members.now) c.loop-i.i
    (member_view c.index-members-i.result)
    (row_at c.args.members.now c.loop-i.i c.index-members-i.result c.loop-i-test.true c.index-members-i.is)
    (sym c.has_array.ensures ∙ c.if-has_array.true)

pub other_has-loop-i-preserved : goal.other_has-loop-i-preserved
other_has-loop-i-preserved t c = record {
  built = c.requires.built;
  there = c.requires.there;
  none = elim c.else-i-spared.branch [
    | other_has-else-i-spared-via-then-i-spared+else-has_array w ↦
        next_none c.args.types.now (members_view c.args.members.now) c.args.spared c.loop-i.i c.loop-i.invariant.none
        (member_view c.index-members-i.result)
        (row_at c.args.members.now c.loop-i.i c.index-members-i.result c.loop-i-test.true c.index-members-i.is)
        (sym w.has_array.ensures ∙ w.if-has_array.false)
    | other_has-else-i-spared-via-else-i-spared w ↦
        next_spared c.args.types.now (members_view c.args.members.now) c.args.spared c.loop-i.i
        c.loop-i.invariant.none w.if-i-spared.false
  ];
}

pub other_has-returns : goal.other_has-returns
other_has-returns t c =
    none_all c.args.types.now c.args.members.now c.args.spared c.loop-i.i c.loop-i.invariant.none c.loop-i-test.false
