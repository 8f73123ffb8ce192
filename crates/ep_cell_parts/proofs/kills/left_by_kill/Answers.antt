use Rattle.std.proofs.Common.{subst}
use Rattle.ep_shared_parts.specs.Spread.{all_items}
use Rattle.ep_cell_steps.specs.Killed.{AreKilled}
use Rattle.ep_cell_steps.proofs.Killing.{kill_within, kill_done}
use Rattle.ep_cell_parts.proofs.kills.left_by_kill.Goals as goal

pub install-requires : goal.install-requires
install-requires g c =
    kill_within g.N.Num.ops c.args.model c.args.side c.args.block (all_items c.args.uses.now) c.in_ok-left.left.items c.in_ok-edits.edits.items (subst (λ z. AreKilled g.N.Num.ops c.args.model c.args.side c.args.block (all_items c.args.uses.now) z c.in_ok-edits.edits.items) c.deref.ensures.value c.in_ok-edits.ensures)

pub returns-clause-spread : goal.returns-clause-spread
returns-clause-spread g c =
    (kill_done g.N.Num.ops c.args.model c.args.side c.args.block c.args.uses.now c.args.parts.now c.in_ok-left.left.items c.install.new.parts.items c.in_ok-edits.edits.items c.requires c.in_ok-left.ensures.outlines c.in_ok-left.ensures.items (subst (λ z. AreKilled g.N.Num.ops c.args.model c.args.side c.args.block (all_items c.args.uses.now) z c.in_ok-edits.edits.items) c.deref.ensures.value c.in_ok-edits.ensures) c.install.ensures).spread

pub returns-clause-items : goal.returns-clause-items
returns-clause-items g c =
    (kill_done g.N.Num.ops c.args.model c.args.side c.args.block c.args.uses.now c.args.parts.now c.in_ok-left.left.items c.install.new.parts.items c.in_ok-edits.edits.items c.requires c.in_ok-left.ensures.outlines c.in_ok-left.ensures.items (subst (λ z. AreKilled g.N.Num.ops c.args.model c.args.side c.args.block (all_items c.args.uses.now) z c.in_ok-edits.edits.items) c.deref.ensures.value c.in_ok-edits.ensures) c.install.ensures).items

pub returns-clause-short : goal.returns-clause-short
returns-clause-short g c =
    (kill_done g.N.Num.ops c.args.model c.args.side c.args.block c.args.uses.now c.args.parts.now c.in_ok-left.left.items c.install.new.parts.items c.in_ok-edits.edits.items c.requires c.in_ok-left.ensures.outlines c.in_ok-left.ensures.items (subst (λ z. AreKilled g.N.Num.ops c.args.model c.args.side c.args.block (all_items c.args.uses.now) z c.in_ok-edits.edits.items) c.deref.ensures.value c.in_ok-edits.ensures) c.install.ensures).short
