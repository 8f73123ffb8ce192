use Rattle.std.proofs.Common.{◌∙◌}
use Rattle.std.proofs.lemmas.Result.{IfOk-weaker}
use Rattle.ep_transfer_blocks.proofs.Rooms.{found, none, there_killed, lacking_killed, there_room}
use Rattle.ep_transfer_blocks.proofs.blocks.killed_block.Goals as goal

pub killed-requires-in-Some : goal.killed-requires-in-Some
killed-requires-in-Some g c =
    there_room g.N.Num.ops c.args.program.now c.args.number c.in-Some.block.now c.args.state.model
    c.deref-in-Some.result.now (found c.args.program.now.blocks.items c.deref.result.now c.args.number
    c.in-Some.block.now c.deref.ensures.value c.in-Some.ensures.lookup.0 c.in-Some.ensures.lookup.1)
    (c.deref-in-Some.ensures.value ∙ c.in_ok-leaves-in-Some.ensures) c.requires.model

pub returns-in-None : goal.returns-in-None
returns-in-None g c =
    IfOk-weaker c.killed.result _ _
    (λ s h. lacking_killed g.N.Num.ops c.args.program.now c.args.side c.args.number c.args.state s
    (none c.args.program.now.blocks.items c.deref.result.now c.args.number c.deref.ensures.value
    c.in-None.ensures.lookup.3) h)
    c.killed.ensures

pub returns-in_ok-leaves-in-Some : goal.returns-in_ok-leaves-in-Some
returns-in_ok-leaves-in-Some g c =
    IfOk-weaker c.killed-in-Some.result _ _
    (λ s h. there_killed g.N.Num.ops c.args.program.now c.args.side c.args.number c.in-Some.block.now c.args.state s
    c.deref-in-Some.result.now (found c.args.program.now.blocks.items c.deref.result.now c.args.number
    c.in-Some.block.now c.deref.ensures.value c.in-Some.ensures.lookup.0 c.in-Some.ensures.lookup.1)
    (c.deref-in-Some.ensures.value ∙ c.in_ok-leaves-in-Some.ensures) h)
    c.killed-in-Some.ensures
