use Rattle.std.proofs.Common.{rules, ◌≡◌, ◌+◌, ap, ◌∙◌, [], ◌∷◌, ◌++◌, drop}
use Rattle.ep_core.specs.ProgramView.{program_view}
use Rattle.ep_transfer_calls.proofs.Evaluated.{parameter_there, argument_typed, pairs, pairs_more, faults_more}
use Rattle.ep_transfer_calls.proofs.passing.given_all.Goals as goal

pub bounds-params-i : goal.bounds-params-i
bounds-params-i g c =
    parameter_there (program_view c.args.program.now) c.args.params.now c.args.es.now c.requires.typed c.loop-i.i
    c.loop-i-test.true

pub typed_value-requires-clause-typed : goal.typed_value-requires-clause-typed
typed_value-requires-clause-typed g c =
    argument_typed (program_view c.args.program.now) c.args.params.now c.args.es.now c.requires.typed c.loop-i.i
    c.loop-i-test.true _ c.index-es-i.result c.index-es-i.is

pub loop-i-preserved : goal.loop-i-preserved
loop-i-preserved g c =
    let items : c.push.new.self.items ≡ c.loop-i.values.items ++ c.in_ok-v.v ∷ [] = search rules in
    record {
      values = ap (λ vs. vs ++ pairs g.N.Num.ops (program_view c.args.program.now) c.args.mode c.args.state.now
          (drop (c.loop-i.i + 1) c.args.es.now)) items
          ∙ pairs_more g.N.Num.ops (program_view c.args.program.now) c.args.mode c.args.state.now c.args.es.now c.loop-i.i
          c.index-es-i.result c.loop-i-test.true c.index-es-i.is c.loop-i.values.items c.in_ok-v.v
          c.in_ok-v.ensures.value
          ∙ c.loop-i.invariant.values;
      faults = faults_more g.N.Num.ops (program_view c.args.program.now) c.args.mode c.args.state.now c.args.es.now c.loop-i.i
          c.index-es-i.result c.loop-i-test.true c.index-es-i.is c.loop-i.faults.items c.typed_value.new.faults.items
          c.in_ok-v.ensures.faults
          ∙ c.loop-i.invariant.faults;
    }
