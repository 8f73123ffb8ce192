use Rattle.std.proofs.Common.{◌∙◌}
use Rattle.std.proofs.lemmas.Result.{on_ok_weaker}
use Rattle.ep_scopes.specs.View.{scopes}
use Rattle.ep_scopes.proofs.MarkLemmas.{goes_back, is_back}
use Rattle.ep_scopes.proofs.scopes.Scopes.go_back.Goals as goal

pub loop-preserved : goal.loop-preserved
loop-preserved c = λ ss s f.
    goes_back ss (scopes c.args.self.now) (scopes c.loop.self) _ c.args.count c.loop.counter c.count-end.result c.count-end.ensures
    c.loop-test.true f c.leave.ensures (c.loop.invariant ss s f)

pub returns : goal.returns
returns c = λ ss s f i j.
    on_ok_weaker c.rewind.result (λ e.
    e ∙ is_back ss (scopes c.args.self.now) (scopes c.loop.self) c.args.count c.loop.counter c.count-end.result
    c.args.mark.names c.args.mark.tags c.count-end.ensures c.loop-test.false f i j (c.loop.invariant ss s f))
    c.rewind.ensures
