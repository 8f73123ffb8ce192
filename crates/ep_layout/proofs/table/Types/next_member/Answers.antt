use Rattle.std.proofs.Common.{◌≡◌, ◌<◌, ◌∙◌, ◌+◌, Some, List, ap, sym, arith, length, slice_get, option_map}
use Rattle.std.proofs.lemmas.Bool.Decides.{nat_tests}
use Rattle.std.proofs.lemmas.Option.{slice_get-map, slice_get-get_or}
use Rattle.std.proofs.lemmas.Result.{on_ok_weaker}
use Rattle.ep_layout.specs.declared.table.leaves.Task.TheVariants.{Object, Members}
use Rattle.ep_layout.specs.Table.{MemberRow, members_of}
use Rattle.ep_layout.specs.Views.{member_view}
use Rattle.ep_layout.proofs.Steps.{one_pushed, two_pushed, member_fits, union_instead, struct_step}
use Rattle.ep_layout.proofs.table.Types.next_member.Goals as goal

pub overflow_add-first : goal.overflow_add-first
overflow_add-first c =
    let t = c.args.self.now in
    let below : c.args.next < length c.members.result.now = grind (arith, nat_tests, c.in-Some.ensures.lookup.0) in
    let row : slice_get (members_of t c.args.aggregate) c.args.next ≡ Some (member_view c.in-Some.member.now) = ap (λ (l : List MemberRow). slice_get l c.args.next) (sym c.members.ensures) ∙ slice_get-map member_view c.members.result.now c.args.next ∙ ap (option_map member_view) (slice_get-get_or c.members.result.now c.args.next _ below ∙ ap Some (sym c.in-Some.ensures.lookup.1)) in
    let fits = member_fits t c.args.aggregate c.args.offset c.args.next (member_view c.in-Some.member.now) row c.requires.task in
    omega (arith, fits.end)

pub returns-then-is_union : goal.returns-then-is_union
returns-then-is_union c =
    let t = c.args.self.now in
    let below : c.args.next < length c.members.result.now = grind (arith, nat_tests, c.in-Some.ensures.lookup.0) in
    let row : slice_get (members_of t c.args.aggregate) c.args.next ≡ Some (member_view c.in-Some.member.now) = ap (λ (l : List MemberRow). slice_get l c.args.next) (sym c.members.ensures) ∙ slice_get-map member_view c.members.result.now c.args.next ∙ ap (option_map member_view) (slice_get-get_or c.members.result.now c.args.next _ below ∙ ap Some (sym c.in-Some.ensures.lookup.1)) in
    let i = union_instead t c.args.aggregate c.args.offset c.args.next (member_view c.in-Some.member.now) row (sym c.is_union.ensures ∙ c.if-is_union.true) c.requires.task in
    on_ok_weaker c.push_task.result (λ e. one_pushed t (Members c.args.aggregate c.args.offset c.args.next) (Object c.in-Some.member.now.ty (c.args.offset + c.in-Some.member.now.offset)) c.args.leaves.now.items c.args.tasks.now.items c.push_task.new.tasks.items e i.leaves i.fits i.fewer c.requires.tasks) c.push_task.ensures

pub returns-in_ok-push_task-in-Some : goal.returns-in_ok-push_task-in-Some
returns-in_ok-push_task-in-Some c =
    let t = c.args.self.now in
    let below : c.args.next < length c.members.result.now = grind (arith, nat_tests, c.in-Some.ensures.lookup.0) in
    let row : slice_get (members_of t c.args.aggregate) c.args.next ≡ Some (member_view c.in-Some.member.now) = ap (λ (l : List MemberRow). slice_get l c.args.next) (sym c.members.ensures) ∙ slice_get-map member_view c.members.result.now c.args.next ∙ ap (option_map member_view) (slice_get-get_or c.members.result.now c.args.next _ below ∙ ap Some (sym c.in-Some.ensures.lookup.1)) in
    let s = struct_step t c.args.aggregate c.args.offset c.args.next (member_view c.in-Some.member.now) row (sym c.is_union.ensures ∙ c.if-is_union.false) in
    let there = member_fits t c.args.aggregate c.args.offset c.args.next (member_view c.in-Some.member.now) row c.requires.task in
    on_ok_weaker c.push_task-in-Some-2.result (λ e. two_pushed t (Members c.args.aggregate c.args.offset c.args.next) (Members c.args.aggregate c.args.offset (c.args.next + 1)) (Object c.in-Some.member.now.ty (c.args.offset + c.in-Some.member.now.offset)) c.args.leaves.now.items c.args.tasks.now.items c.push_task-in-Some.new.tasks.items c.push_task-in-Some-2.new.tasks.items
    c.in_ok-push_task-in-Some.ensures e s.0 c.requires.task there s.1 c.requires.tasks) c.push_task-in-Some-2.ensures
