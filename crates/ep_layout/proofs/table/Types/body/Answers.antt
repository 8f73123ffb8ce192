use Rattle.std.proofs.Common.{◌≡◌, ◌∙◌, true, false, is_some, ap, sym, arith, inr, List, ℕ}
use Rattle.std.specs.Global.{Vec}
use Rattle.std.specs.List.{list_all}
use Rattle.ep_layout.specs.Table.{layout_of}
use Rattle.ep_layout.specs.Views.{named_view}
use Rattle.ep_layout.proofs.PlacingLemmas.{all_named, unsized_stop, placed_extent, placed_stop, past_limit}
use Rattle.ep_layout.proofs.PlacingLemmas.{within_limit}
use Rattle.ep_layout.proofs.table.Types.body.Goals as goal

abbrev Item : Type 0
Item = Vec ℕ × ℕ

pub returns-then-not-have_sizes-clause-stop : goal.returns-then-not-have_sizes-clause-stop
returns-then-not-have_sizes-clause-stop c =
    let t = c.args.self.now in
    let ms : List Item = c.args.members.items in
    let no : list_all (λ (m : Item). is_some (layout_of t m.1)) ms ≡ false = ap (list_all (λ (m : Item). is_some (layout_of t m.1))) (sym c.deref.ensures.value) ∙ sym c.have_sizes.ensures ∙ c.if-not-have_sizes.true in
    inr (unsized_stop t c.args.is_union (named_view ms) (all_named (λ n. is_some (layout_of t n)) ms ∙ no))

pub returns-then-size-gt-MOST_BYTES-clause-stop : goal.returns-then-size-gt-MOST_BYTES-clause-stop
returns-then-size-gt-MOST_BYTES-clause-stop c =
    let t = c.args.self.now in
    let ms : List Item = c.args.members.items in
    let all : list_all (λ (m : Item). is_some (layout_of t m.1)) ms ≡ true = ap (list_all (λ (m : Item). is_some (layout_of t m.1))) (sym c.deref.ensures.value) ∙ sym c.have_sizes.ensures ∙ c.if-not-have_sizes.false in
    let stop = placed_stop t c.args.is_union (named_view ms) c.in_ok-placing.placing c.next_multiple_of-size.result c.in_ok-placing.ensures.placed (all_named (λ n. is_some (layout_of t n)) ms ∙ all) c.next_multiple_of-size.ensures.value in
    inr (stop ∙ past_limit c.next_multiple_of-size.result (omega (arith, c.if-size-gt-MOST_BYTES.true)))

pub returns-in-Ok-clause-extent : goal.returns-in-Ok-clause-extent
returns-in-Ok-clause-extent c =
    let t = c.args.self.now in
    let ms : List Item = c.args.members.items in
    let all : list_all (λ (m : Item). is_some (layout_of t m.1)) ms ≡ true = ap (list_all (λ (m : Item). is_some (layout_of t m.1))) (sym c.deref.ensures.value) ∙ sym c.have_sizes.ensures ∙ c.if-not-have_sizes.false in
    placed_extent t c.args.is_union (named_view ms) c.in_ok-placing.placing c.next_multiple_of-size.result c.in_ok-placing.ensures.placed (all_named (λ n. is_some (layout_of t n)) ms ∙ all) c.next_multiple_of-size.ensures.value

pub returns-in-Ok-clause-fits : goal.returns-in-Ok-clause-fits
returns-in-Ok-clause-fits c =
    let t = c.args.self.now in
    let ms : List Item = c.args.members.items in
    let all : list_all (λ (m : Item). is_some (layout_of t m.1)) ms ≡ true = ap (list_all (λ (m : Item). is_some (layout_of t m.1))) (sym c.deref.ensures.value) ∙ sym c.have_sizes.ensures ∙ c.if-not-have_sizes.false in
    let stop = placed_stop t c.args.is_union (named_view ms) c.in_ok-placing.placing c.next_multiple_of-size.result c.in_ok-placing.ensures.placed (all_named (λ n. is_some (layout_of t n)) ms ∙ all) c.next_multiple_of-size.ensures.value in
    stop ∙ within_limit c.next_multiple_of-size.result (omega (arith, c.if-size-gt-MOST_BYTES.false))
