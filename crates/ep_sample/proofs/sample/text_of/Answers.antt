use Rattle.ep_sample.specs.Sample.{head_text}
use Rattle.ep_sample.proofs.Pieces.{begun, one_more}
use Rattle.ep_sample.proofs.sample.text_of.Goals as goal

pub loop-init : goal.loop-init
loop-init c = begun head_text c.args.start c.args.fields c.in_ok-text.ensures.items

pub loop-preserved : goal.loop-preserved
loop-preserved c = one_more c.loop.text.items c.loop.seed
    c.loop-test.true c.next_seed-seed.ensures c.in_ok-push_field.ensures c.loop.invariant
