use Rattle.std.proofs.Common.{arith, ap, sym, ◌∙◌, ◌++◌, ◌∷◌, [], cond, ◌*◌}
use Rattle.ep_eval_places.proofs.Held.{inside, held_begin, held_more, held_last}
use Rattle.ep_eval_places.proofs.places.push_held.Goals as goal

pub loop-i-init : goal.loop-i-init
loop-i-init g c =
    held_begin g.N.Num.ops g.met.N.Num.laws c.args.block c.args.offsets.now c.args.n c.args.out.now.items c.args.size
    c.first_index-first.result _ c.requires.some c.first_index-first.ensures (omega arith)

pub overflow_mul-offset : goal.overflow_mul-offset
overflow_mul-offset g c =
    let i = inside g.N.Num.ops g.met.N.Num.laws c.args.block c.args.offsets.now c.args.n c.args.size c.loop-i.i
    c.requires.some c.requires.room (omega arith) in
    omega (arith, i)

pub loop-i-preserved : goal.loop-i-preserved
loop-i-preserved g c =
    held_more g.N.Num.ops g.met.N.Num.laws c.args.block c.args.offsets.now c.args.n c.args.out.now.items
    c.loop-i.out.items c.push_if.new.out.items c.loop-i.i c.loop-i.invariant
    (c.in_ok-push_if.ensures
    ∙ ap (λ t. c.loop-i.out.items ++ cond t ((c.args.block, c.loop-i.i * c.args.n) ∷ []) []) c.holds_offset.ensures)

pub returns : goal.returns
returns g c =
    c.loop-i.invariant ∙ ap (λ xs. c.args.out.now.items ++ xs)
    (held_last g.N.Num.ops g.met.N.Num.laws c.args.block c.args.offsets.now c.args.n c.args.size
    c.last_index.result c.loop-i.i c.requires.some c.requires.room c.last_index.ensures (omega arith))
