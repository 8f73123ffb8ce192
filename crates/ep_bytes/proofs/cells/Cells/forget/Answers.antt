use Rattle.std.proofs.Common.{rules, ◌≡◌, ◌<◌, ◌∙◌, length, subst, sym}
use Rattle.std.proofs.lemmas.List.{get_or_default}
use Rattle.ep_bytes.specs.Cells.{nowhere, span_of, IsIn}
use Rattle.ep_bytes.proofs.Noted.{noted_without}
use Rattle.ep_bytes.proofs.cells.Cells.forget.Goals as goal

pub invariant_of-self : goal.invariant_of-self
invariant_of-self c =
    let spans = c.self.inside.spans.items in
    let l : c.args.block < length spans = search rules in
    let e : c.index.result.now ≡ span_of spans c.args.block
    = c.index.ensures ∙ get_or_default spans c.args.block c.index.result.now nowhere l in
    noted_without c.self.inside.bytes.items c.forget_in.new.bytes.items spans c.self.inside.used.items c.args.block
    c.self.invariant l
    (λ i is. c.forget_in.ensures.inside i (subst (λ x. IsIn x i) (sym e) is))
    (λ i out. c.forget_in.ensures.outside i (λ is. out (subst (λ x. IsIn x i) e is)))
