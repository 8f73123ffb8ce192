use Rattle.ep_scopes.specs.View.{env}
use Rattle.ep_scopes.proofs.WordLemmas.{all_mentioned, mentions}
use Rattle.ep_scopes.proofs.names.mention_words.Goals as goal

pub loop-word-preserved : goal.loop-word-preserved
loop-word-preserved c =
    mentions c.loop-word.word-index c.args.all.now c.word-item.result c.loop-word-test.true c.word-item.is (env c.loop-word.env) _ _ c.in_ok-mention_word.ensures c.loop-word.invariant

pub returns : goal.returns
returns c = all_mentioned c.loop-word.word-index c.args.all.now (env c.loop-word.env) _ c.loop-word-test.false c.loop-word.invariant
