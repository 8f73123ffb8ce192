use Rattle.std.proofs.Common.{◌∙◌, get_or, refl, sym, ap, arith}
use Rattle.ep_typing.specs.Env as rule
use Rattle.ep_scopes.specs.View.{env}
use Rattle.ep_typer_arms.proofs.PairedHeads.{agree, all_agree, more_agree, more_first, more_second, none_agree}
use Rattle.ep_typer_arms.proofs.Pairs.{alike, all_alike, of_other_length, unlike}
use Rattle.ep_typer_arms.proofs.alike.arms_agree.Goals as goal

pub returns-then-first-second-clause-means : goal.returns-then-first-second-clause-means
returns-then-first-second-clause-means c ds done =
    let G = env c.args.env.now in
    of_other_length (agree G ds) (all_agree G ds) (more_agree G ds) (more_second G ds) (more_first G ds) c.args.first.now
    c.args.second.now c.if-first-second.true

pub returns-then-not-agree-clause-means : goal.returns-then-not-agree-clause-means
returns-then-not-agree-clause-means c ds done =
    let G = env c.args.env.now in
    let d = c.index-second-place.result in
    let f = c.index-first-place.result in
    let g = get_or c.args.second.now c.loop-place.place d in
    let told = c.in_ok-agree.ensures.means ds done ∙ ap (λ (E : rule.Env). agree E ds f g) c.loop-place.invariant.same in
    unlike (agree G ds) (all_agree G ds) (more_agree G ds) c.loop-place.place c.args.first.now c.args.second.now
    f g d _ c.loop-place-test.true (omega arith)
    c.index-first-place.is refl (c.loop-place.invariant.means ds done) (sym told ∙ c.if-not-agree.true)

pub loop-place-preserved : goal.loop-place-preserved
loop-place-preserved c = record {
  means = λ ds done. (
      let G = env c.args.env.now in
      let d = c.index-second-place.result in
      let f = c.index-first-place.result in
      let g = get_or c.args.second.now c.loop-place.place d in
      let told = c.in_ok-agree.ensures.means ds done ∙ ap (λ (E : rule.Env). agree E ds f g) c.loop-place.invariant.same in
      alike (agree G ds) (all_agree G ds) (more_agree G ds) c.loop-place.place c.args.first.now c.args.second.now
      f g d _ c.loop-place-test.true (omega arith)
      c.index-first-place.is refl (c.loop-place.invariant.means ds done) (sym told ∙ c.if-not-agree.false));
  same = c.in_ok-agree.ensures.same ∙ c.loop-place.invariant.same;
}

pub returns-clause-means : goal.returns-clause-means
returns-clause-means c ds done =
    let G = env c.args.env.now in
    all_alike (agree G ds) (all_agree G ds) (more_agree G ds) (none_agree G ds) c.loop-place.place c.args.first.now
    c.args.second.now _ (omega arith) (omega arith) (c.loop-place.invariant.means ds done)
