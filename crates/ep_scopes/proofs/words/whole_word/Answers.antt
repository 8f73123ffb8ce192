use Rattle.std.proofs.Common.{◌∙◌, sym}
use Rattle.ep_scopes.proofs.WordLemmas.{is_found, none_found, not_found}
use Rattle.ep_scopes.proofs.words.whole_word.Goals as goal

pub returns-then-is_whole : goal.returns-then-is_whole
returns-then-is_whole c =
    is_found c.loop-word.word-index c.args.all.now c.word-item.result c.loop-word-test.true c.word-item.is c.loop-word.invariant (sym c.is_whole.ensures ∙ c.if-is_whole.true)

pub loop-word-preserved : goal.loop-word-preserved
loop-word-preserved c =
    not_found c.loop-word.word-index c.args.all.now c.word-item.result c.loop-word-test.true c.word-item.is c.loop-word.invariant (sym c.is_whole.ensures ∙ c.if-is_whole.false)

pub returns : goal.returns
returns c = none_found c.loop-word.word-index c.args.all.now c.loop-word-test.false c.loop-word.invariant
