use Rattle.std.proofs.Common.{refl, arith}
use Rattle.std.proofs.lemmas.Option.{slice_get_read}
use Rattle.ep_layout.proofs.ChainLists.{place_at, chain_below, depth_within, root_there}
use Rattle.ep_layout.proofs.list.TypeList.root_of.Goals as goal

pub index-chain-requires : goal.index-chain-requires
index-chain-requires c =
    let s = c.self.inside in
    let p = c.index-place.result.now in
    let below = chain_below s c.self.invariant c.args.row p
    (place_at s c.args.self.now c.self.view_is c.self.invariant c.args.row p c.requires c.index-place.ensures) in
    omega (arith, below)

pub index-requires : goal.index-requires
index-requires c =
    let within = depth_within c.self.inside c.args.self.now c.self.view_is c.self.invariant c.args.row c.index-place.result.now
    c.index-chain.result.now c.requires c.index-place.ensures c.index-chain.ensures in
    omega (arith, within)

pub returns : goal.returns
returns c =
    let p = c.index-place.result.now in
    let v = c.index-chain.result.now in
    let within = depth_within c.self.inside c.args.self.now c.self.view_is c.self.invariant c.args.row p v c.requires c.index-place.ensures
    c.index-chain.ensures in
    let first = slice_get_read v.items _ 0 c.index.result.now refl (omega (arith, within)) c.index.ensures in
    let t = root_there c.self.inside c.args.self.now c.self.view_is c.self.invariant c.args.row c.index.result.now p v c.requires
    c.index-place.ensures c.index-chain.ensures first in
    record { chain = t.0; root = t.1.0; inside = t.1.1.0; few = t.1.1.1 }
