use Rattle.std.proofs.Common.{◌≡◌, ap, false, length, ◌==◌, slice_index, sym, ◌∙◌}
use Rattle.ep_lexer.specs.Shorts.{is_second}
use Rattle.ep_lexer.proofs.ShortLemmas.{short_mark}
use Rattle.ep_lexer.proofs.words.mark_at.Goals as goal

pub returns-in-Some-clause-value : goal.returns-in-Some-clause-value
returns-in-Some-clause-value c =
    let some : length c.args.bytes.now == 0 ≡ false = sym c.is_empty.ensures ∙ c.if-is_empty.false in
    let plain : is_second (slice_index c.args.bytes.now 1) ≡ false =
    ap is_second (sym c.byte.ensures.value) ∙ sym c.is_second.ensures ∙ c.if-is_second.false in
    c.in-Some.ensures.value ∙ sym (short_mark c.args.bytes.now some plain)

pub returns-in-None-clause-value : goal.returns-in-None-clause-value
returns-in-None-clause-value c =
    let some : length c.args.bytes.now == 0 ≡ false = sym c.is_empty.ensures ∙ c.if-is_empty.false in
    let plain : is_second (slice_index c.args.bytes.now 1) ≡ false =
    ap is_second (sym c.byte.ensures.value) ∙ sym c.is_second.ensures ∙ c.if-is_second.false in
    c.in-None.ensures.value ∙ sym (short_mark c.args.bytes.now some plain)
