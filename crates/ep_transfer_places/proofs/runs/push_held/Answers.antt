use Rattle.std.proofs.Common.{arith, ap, ◌-◌, ◌∙◌, ◌++◌, ◌∷◌, [], cond}
use Rattle.ep_transfer_places.proofs.RunSpots.{run_begin, run_more, run_last}
use Rattle.ep_transfer_places.proofs.runs.push_held.Goals as goal

pub loop-i-init : goal.loop-i-init
loop-i-init g c =
    run_begin g.N.Num.ops g.met.N.Num.laws c.args.block c.args.offsets.now c.args.out.now.items
    (c.args.size - c.args.n) c.least.result _ c.least.ensures (omega arith)

pub loop-i-preserved : goal.loop-i-preserved
loop-i-preserved g c =
    run_more g.N.Num.ops g.met.N.Num.laws c.args.block c.args.offsets.now c.args.out.now.items c.loop-i.out.items
    c.push_if.new.out.items c.loop-i.i c.loop-i.invariant
    (c.in_ok-push_if.ensures
    ∙ ap (λ t. c.loop-i.out.items ++ cond t ((c.args.block, c.loop-i.i) ∷ []) []) c.holds_offset.ensures)

pub returns : goal.returns
returns g c =
    c.loop-i.invariant ∙ ap (λ xs. c.args.out.now.items ++ xs)
    (run_last g.N.Num.ops g.met.N.Num.laws c.args.block c.args.offsets.now c.args.n c.args.size c.greatest.result
    c.loop-i.i c.requires c.greatest.ensures (omega arith))
