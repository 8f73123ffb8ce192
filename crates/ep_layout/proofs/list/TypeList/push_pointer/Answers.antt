use Rattle.std.proofs.Common.{◌∙◌, ◌<◌, ◌^◌, refl, sym, ap, arith, length}
use Rattle.ep_layout.specs.declared.types.Ty.TheVariants.{Ptr}
use Rattle.ep_layout.specs.Chains.{lists, put_behind}
use Rattle.ep_layout.proofs.Results.{if_ok, on_ok, on_err, chosen, other_chosen, is_ok_there, is_err_there}
use Rattle.ep_layout.proofs.ChainLists.{place_at, chain_below, pointer_more, keys_pushed, moved, taken_off}
use Rattle.ep_layout.proofs.list.TypeList.push_pointer.Goals as goal

pub overflow_add-place : goal.overflow_add-place
overflow_add-place c =
    let s = c.self.inside in
    let q = c.index-target.result.now in
    let at = place_at s c.args.self.now c.self.view_is c.self.invariant c.args.to q c.requires.target c.index-target.ensures in
    let low = (c.self.invariant.placed c.args.to q at).low in
    let few : length c.args.self.now < 2 ^ 31 = c.requires.few in
    let inside : c.args.to < length c.args.self.now = c.requires.target in
    omega (arith, low, few, inside)

pub push_behind-requires : goal.push_behind-requires
push_behind-requires c =
    let s = c.self.inside in
    let q = c.index-target.result.now in
    chain_below s c.self.invariant c.args.to q
    (place_at s c.args.self.now c.self.view_is c.self.invariant c.args.to q c.requires.target c.index-target.ensures)

pub invariant_of-self-else-is_err-3 : goal.invariant_of-self-else-is_err-3
invariant_of-self-else-is_err-3 c =
    let s = c.self.inside in
    let q = c.index-target.result.now in
    let keys = if_ok c.insert.result _ (sym c.is_err.ensures.value ∙ c.if-is_err.false) c.insert.ensures.keys in
    let types = keys_pushed s.types.keys c.args.self.now c.insert.new.self.keys (Ptr c.args.to) c.self.view_is c.requires.new keys in
    let places = chosen _ _ _ _ (is_ok_there c.push.result (sym c.is_err-2.ensures.value ∙ c.if-is_err-2.false)) c.push.ensures.items in
    let chains = on_ok c.push_behind.result _ (sym c.is_err-3.ensures.value ∙ c.if-is_err-3.false) c.push_behind.ensures.ok in
    pointer_more s c.args.self.now c.insert.new.self.keys c.push.new.self.items (lists c.push_behind.new.chains.items) c.args.to q c.self.view_is c.self.invariant
    c.requires.target c.index-target.ensures c.requires.new types places
    (chains ∙ ap (put_behind (lists s.chains.items) q.chain) (c.len-count.ensures.len ∙ ap length c.self.view_is))

pub invariant_of-self-then-is_err-2 : goal.invariant_of-self-then-is_err-2
invariant_of-self-then-is_err-2 c =
    let s = c.self.inside in
    let keys = if_ok c.insert.result _ (sym c.is_err.ensures.value ∙ c.if-is_err.false) c.insert.ensures.keys in
    let types = keys_pushed s.types.keys c.args.self.now c.insert.new.self.keys (Ptr c.args.to) c.self.view_is c.requires.new keys in
    let back = taken_off c.args.self.now c.insert.new.self.keys c.truncate.new.self.keys (Ptr c.args.to) c.len-count.result
    (c.len-count.ensures.len ∙ ap length c.self.view_is) types c.truncate.ensures.keys in
    let places = other_chosen _ _ _ _ (is_err_there c.push.result (sym c.is_err-2.ensures.value ∙ c.if-is_err-2.true)) c.push.ensures.items in
    moved s.types.keys c.truncate.new.self.keys s.places.items c.push.new.self.items (lists s.chains.items) (lists s.chains.items)
    (back ∙ sym c.self.view_is) places refl c.self.invariant

pub invariant_of-self-then-is_err-3 : goal.invariant_of-self-then-is_err-3
invariant_of-self-then-is_err-3 c =
    let s = c.self.inside in
    let keys = if_ok c.insert.result _ (sym c.is_err.ensures.value ∙ c.if-is_err.false) c.insert.ensures.keys in
    let types = keys_pushed s.types.keys c.args.self.now c.insert.new.self.keys (Ptr c.args.to) c.self.view_is c.requires.new keys in
    let back = taken_off c.args.self.now c.insert.new.self.keys c.truncate-then-is_err-3-2.new.self.keys (Ptr c.args.to) c.len-count.result
    (c.len-count.ensures.len ∙ ap length c.self.view_is) types c.truncate-then-is_err-3-2.ensures.keys in
    let more = chosen _ _ _ _ (is_ok_there c.push.result (sym c.is_err-2.ensures.value ∙ c.if-is_err-2.false)) c.push.ensures.items in
    let places = taken_off s.places.items c.push.new.self.items c.truncate-then-is_err-3.new.self.items _ c.len-count.result
    (c.len-count.ensures.len ∙ sym c.self.invariant.count) more c.truncate-then-is_err-3.ensures.items in
    let chains = on_err c.push_behind.result _ (sym c.is_err-3.ensures.value ∙ c.if-is_err-3.true) c.push_behind.ensures.err in
    moved s.types.keys c.truncate-then-is_err-3-2.new.self.keys s.places.items c.truncate-then-is_err-3.new.self.items (lists s.chains.items)
    (lists c.push_behind.new.chains.items) (back ∙ sym c.self.view_is) places chains c.self.invariant

pub returns-clause-ok : goal.returns-clause-ok
returns-clause-ok c =
    let keys = if_ok c.insert.result _ (sym c.is_err.ensures.value ∙ c.if-is_err.false) c.insert.ensures.keys in
    keys_pushed c.self.inside.types.keys c.args.self.now c.insert.new.self.keys (Ptr c.args.to) c.self.view_is c.requires.new keys
