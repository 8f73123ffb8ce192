use Rattle.std.proofs.Common.{◌≡◌, ℕ, ap, slice_index_or, ◌<◌, ◌+◌, ◌==◌, false, length, nat_eq, arith, sym, ◌∙◌}
use Rattle.std.specs.List.{starts_with}
use Rattle.ep_ast.specs.Token.{marks}
use Rattle.ep_lexer.proofs.Firsts.{absent, first_bytes}
use Rattle.ep_lexer.proofs.Numbered.{found_at, passed, passed_at}
use Rattle.ep_lexer.proofs.words.longest_at.Goals as goal
use Rattle.ep_lexer.proofs.words.longest_at.Goals.{then-from-first+else-starts_with, else-from-first}

pub returns-then-starts_with-clause-value : goal.returns-then-starts_with-clause-value
returns-then-starts_with-clause-value c =
    let lt : c.loop-at.at < 45 = omega arith in
    sym (found_at (λ m. starts_with nat_eq c.args.bytes.now m) marks c.loop-at.at lt c.mark_of-mark.ensures
    c.text-text.ensures.value (sym c.starts_with.ensures.value ∙ c.if-starts_with.true))
    ∙ c.loop-at.invariant

pub loop-at-preserved : goal.loop-at-preserved
loop-at-preserved c =
    let lt : c.loop-at.at < 45 = omega arith in
    let some : length c.args.bytes.now == 0 ≡ false = sym c.is_empty.ensures ∙ c.if-is_empty.false in
    elim c.if-from-first.branch [
      | then-from-first+else-starts_with w ↦
          sym (passed_at (λ m. starts_with nat_eq c.args.bytes.now m) marks c.loop-at.at lt w.mark_of-mark.ensures
          w.text-text.ensures.value (sym w.starts_with.ensures.value ∙ w.if-starts_with.false))
          ∙ c.loop-at.invariant
      | else-from-first w ↦
          sym (passed (λ m. starts_with nat_eq c.args.bytes.now m) (c.loop-at.at + 1) c.loop-at.at marks lt
          (absent c.loop-at.at c.args.bytes.now some lt
          (λ e. w.if-from-first.false (ap (λ (k : ℕ). slice_index_or first_bytes k 0) c.from.ensures ∙ e))))
          ∙ c.loop-at.invariant
    ]
