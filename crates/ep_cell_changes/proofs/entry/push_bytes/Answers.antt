use Rattle.std.proofs.Common.{◌∙◌, ◌++◌, ◌∷◌, [], ap}
use Rattle.ep_cell_changes.proofs.Entries.{byte_turn}
use Rattle.ep_cell_changes.proofs.entry.push_bytes.Goals as goal

pub loop-q-preserved : goal.loop-q-preserved
loop-q-preserved g c =
    byte_turn c.args.side c.args.block c.loop-q.q c.args.to c.loop-q.out.items c.push.new.out.items _ c.loop-q-test.true
    (c.in_ok-push.ensures ∙ ap (λ x. c.loop-q.out.items ++ x ∷ []) c.undefined_cell.ensures) c.loop-q.invariant
