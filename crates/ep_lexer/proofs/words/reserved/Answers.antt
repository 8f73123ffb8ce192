use Rattle.std.proofs.Common.{◌<◌, arith, sym, ◌∙◌, refl, rules}
use Rattle.std.specs.Str.{bytes_eq}
use Rattle.ep_ast.specs.Token.{reserved_words}
use Rattle.ep_lexer.proofs.Numbered.{found_at, passed_at, reserved_at}
use Rattle.ep_lexer.proofs.ShortLemmas.{no_word}
use Rattle.ep_lexer.proofs.words.reserved.Goals as goal

pub returns-then-eq : goal.returns-then-eq
returns-then-eq c =
    let lt : c.loop-at.at < 22 = omega arith in
    sym (found_at (bytes_eq c.args.text.now) reserved_words c.loop-at.at lt c.reserved_word-word.ensures
    (c.text.ensures ∙ reserved_at c.loop-at.at c.reserved_word-word.ensures) (sym c.eq.ensures ∙ c.if-eq.true))
    ∙ c.loop-at.invariant

pub returns-then-text-lt2 : goal.returns-then-text-lt2
returns-then-text-lt2 c = sym (no_word reserved_words c.args.text.now 1 refl (search rules))

pub loop-at-preserved : goal.loop-at-preserved
loop-at-preserved c =
    let lt : c.loop-at.at < 22 = omega arith in
    sym (passed_at (bytes_eq c.args.text.now) reserved_words c.loop-at.at lt c.reserved_word-word.ensures
    (c.text.ensures ∙ reserved_at c.loop-at.at c.reserved_word-word.ensures) (sym c.eq.ensures ∙ c.if-eq.false))
    ∙ c.loop-at.invariant
