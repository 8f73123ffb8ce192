use Rattle.std.proofs.Common.{◌∙◌, subst}
use Rattle.ep_eval_loads.proofs.LoadSteps.{side_is}
use Rattle.ep_transfer_outputs.specs.Bytes.{AreReads}
use Rattle.ep_transfer_outputs.proofs.bytes.byte_reads.Goals as goal

pub returns : goal.returns
returns g c =
    subst (λ qs. AreReads g.N.Num.ops c.args.state.now c.args.side qs c.in_ok-reads.reads)
    (c.deref.ensures.value ∙ c.in_ok-spots.ensures)
    (record {
      side = side_is _ _ c.in_ok-reads.ensures.value c.in_ok-reads.ensures.form;
      unset = c.in_ok-reads.ensures.unset;
      mixed = c.in_ok-reads.ensures.mixed;
      shared = c.in_ok-reads.ensures.shared;
    })
