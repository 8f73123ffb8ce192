use Rattle.std.proofs.Common.{◌≡◌, ◌+◌, ◌-◌, ◌∙◌, ◌<◌, arith, length, ap}
use Rattle.std.proofs.lemmas.Bool.Decides.{nat_tests}
use Rattle.ep_layout.proofs.ChainEnds.{place_below, chain_popped, end_popped}
use Rattle.ep_layout.proofs.list.TypeList.pop.Goals as goal

pub invariant_of-self : goal.invariant_of-self
invariant_of-self c =
    let all : c.len-last.result ≡ length c.args.self.now = c.len-last.ensures.len ∙ ap length c.self.view_is in
    let some : 0 < length c.args.self.now = c.requires.some in
    let last : length c.args.self.now ≡ c.len-last.result - 1 + 1 = omega (arith, all, some) in
    let p = c.index-place.result.now in
    let zeroth : p.depth ≡ 0 = grind (arith, nat_tests, c.if-place-eq0.true) in
    chain_popped c.self.inside c.args.self.now c.self.view_is c.self.invariant c.requires.before (c.len-last.result - 1) last p c.index-place.ensures
    c.truncate.new.self.keys c.truncate-2.new.self.items c.truncate-then-place-eq0.new.self.items c.truncate.ensures.keys c.truncate-2.ensures.items zeroth
    c.truncate-then-place-eq0.ensures.items

pub index_mut-requires : goal.index_mut-requires
index_mut-requires c =
    let all : c.len-last.result ≡ length c.args.self.now = c.len-last.ensures.len ∙ ap length c.self.view_is in
    let some : 0 < length c.args.self.now = c.requires.some in
    let last : length c.args.self.now ≡ c.len-last.result - 1 + 1 = omega (arith, all, some) in
    let below = place_below c.self.inside c.args.self.now c.self.view_is c.self.invariant c.requires.before (c.len-last.result - 1) last
    c.index-place.result.now c.index-place.ensures in
    omega (arith, below)

pub invariant_of-self-else-place-eq0 : goal.invariant_of-self-else-place-eq0
invariant_of-self-else-place-eq0 c =
    let all : c.len-last.result ≡ length c.args.self.now = c.len-last.ensures.len ∙ ap length c.self.view_is in
    let some : 0 < length c.args.self.now = c.requires.some in
    let last : length c.args.self.now ≡ c.len-last.result - 1 + 1 = omega (arith, all, some) in
    let p = c.index-place.result.now in
    let deep : 0 < p.depth = grind (arith, nat_tests, c.if-place-eq0.false) in
    end_popped c.self.inside c.args.self.now c.self.view_is c.self.invariant c.requires.before (c.len-last.result - 1) last p c.index-place.ensures
    c.truncate.new.self.keys c.truncate-2.new.self.items c.index_mut.result.now c.truncate-else-place-eq0.new.self c.truncate.ensures.keys
    c.truncate-2.ensures.items deep c.index_mut.ensures.value c.truncate-else-place-eq0.ensures.items
