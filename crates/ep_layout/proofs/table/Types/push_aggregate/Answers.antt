use Rattle.std.proofs.Common.{◌≡◌, ◌<◌, ◌∙◌, ◌++◌, sym, ap, refl, subst, arith, length, List, ℕ, append_assoc}
use Rattle.std.proofs.lemmas.List.{length-map}
use Rattle.std.proofs.lemmas.Option.{slice_get_read}
use Rattle.std.proofs.lemmas.Result.{on_ok_weaker}
use Rattle.ep_layout.specs.Table.{Table, MemberRow}
use Rattle.ep_layout.specs.TableInvariant.{entry_view}
use Rattle.ep_layout.specs.Views.{members_view}
use Rattle.ep_layout.specs.Text.{aggregate_text, head_line, members_text}
use Rattle.ep_layout.proofs.Texts.{aggregate_text_is}
use Rattle.ep_layout.proofs.table.Types.push_aggregate.Goals as goal

pub returns-in_ok-push_head-in-Some : goal.returns-in_ok-push_head-in-Some
returns-in_ok-push_head-in-Some c =
    let s = c.self.inside in
    let a = c.args.aggregate in
    let g = c.index-entry.result.now in
    let b = c.in-Some.body in
    let t = c.args.self.now in
    let seen : length t.aggregates ≡ length s.aggregates.items = ap (λ (u : Table). length u.aggregates) (sym c.self.view_is) ∙ length-map s.aggregates.items entry_view in
    let below : a < length s.aggregates.items = omega (arith, c.aggregate_count.ensures, c.if-aggregate-aggregate_count.false, seen) in
    let here = slice_get_read s.aggregates.items _ a g refl below c.index-entry.ensures in
    let text : aggregate_text t a ≡ head_line g.tag.items g.is_union b.extent.size b.extent.align ++ members_text t b.members = subst (λ (u : Table). aggregate_text u a ≡ head_line g.tag.items g.is_union b.extent.size b.extent.align ++ members_text u b.members) c.self.view_is (aggregate_text_is s c.self.invariant a g b here c.in-Some.is) in
    on_ok_weaker c.push_members.result (λ e. e ∙ ap (λ (l : List ℕ). l ++ members_text t (members_view c.all.result.now)) c.in_ok-push_head-in-Some.ensures ∙ ap (λ (ms : List MemberRow). (c.args.text.now.items ++ head_line g.tag.items g.is_union b.extent.size b.extent.align) ++ members_text t ms) c.all.ensures
    ∙ append_assoc c.args.text.now.items (head_line g.tag.items g.is_union b.extent.size b.extent.align) (members_text t b.members) ∙ ap (λ (l : List ℕ). c.args.text.now.items ++ l) (sym text)) c.push_members.ensures
