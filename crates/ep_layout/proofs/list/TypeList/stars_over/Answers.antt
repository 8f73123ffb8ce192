use Rattle.std.proofs.Common.{◌≡◌, ◌+◌, ◌-◌, arith, length}
use Rattle.ep_layout.proofs.ChainLists.{place_at, chain_below, depth_within, stars_there}
use Rattle.ep_layout.proofs.list.TypeList.stars_over.Goals as goal

pub index-requires : goal.index-requires
index-requires c =
    let s = c.self.inside in
    let p = c.index-place.result.now in
    let below = chain_below s c.self.invariant c.args.row p
    (place_at s c.args.self.now c.self.view_is c.self.invariant c.args.row p c.requires c.index-place.ensures) in
    omega (arith, below)

pub overflow_sub-result : goal.overflow_sub-result
overflow_sub-result c =
    let d = depth_within c.self.inside c.args.self.now c.self.view_is c.self.invariant c.args.row c.index-place.result.now c.index.result.now c.requires
    c.index-place.ensures c.index.ensures in
    omega (arith, d, c.len.ensures)

pub overflow_sub-result-2 : goal.overflow_sub-result-2
overflow_sub-result-2 c =
    let d = depth_within c.self.inside c.args.self.now c.self.view_is c.self.invariant c.args.row c.index-place.result.now c.index.result.now c.requires
    c.index-place.ensures c.index.ensures in
    omega (arith, d, c.len.ensures)

pub returns : goal.returns
returns c =
    let p = c.index-place.result.now in
    let v = c.index.result.now in
    let d = depth_within c.self.inside c.args.self.now c.self.view_is c.self.invariant c.args.row p v c.requires c.index-place.ensures c.index.ensures in
    let all : p.depth + (c.len.result - 1 - p.depth) + 1 ≡ length v.items = omega (arith, d, c.len.ensures) in
    let t = stars_there c.self.inside c.args.self.now c.self.view_is c.self.invariant c.args.row (c.len.result - 1 - p.depth) p v c.requires
    c.index-place.ensures c.index.ensures all in
    record { there = t.0; last = t.1.0; inside = t.1.1 }
