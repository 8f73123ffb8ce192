use Rattle.std.proofs.Common.{◌≡◌, ◌∙◌, arith, refl, sym, ap, length, [], ◌∷◌, ℕ, ◌++◌}
use Rattle.ep_layout.specs.Chains.{lists}
use Rattle.ep_layout.proofs.Results.{if_ok, chosen, other_chosen, is_ok_there, is_err_there}
use Rattle.ep_layout.proofs.ChainLists.{other_more, lists_push, keys_pushed, moved, taken_off}
use Rattle.ep_layout.proofs.list.TypeList.push_other.Goals as goal

pub invariant_of-self-else-is_err-3 : goal.invariant_of-self-else-is_err-3
invariant_of-self-else-is_err-3 c =
    let s = c.self.inside in
    let keys = if_ok c.insert.result _ (sym c.is_err.ensures.value ∙ c.if-is_err.false) c.insert.ensures.keys in
    let types = keys_pushed s.types.keys c.args.self.now c.insert.new.self.keys c.args.ty c.self.view_is c.requires.new keys in
    let places = chosen _ _ _ _ (is_ok_there c.push.result (sym c.is_err-2.ensures.value ∙ c.if-is_err-2.false)) c.push.ensures.items in
    let pushed = chosen _ _ _ _ (is_ok_there c.push-2.result (sym c.is_err-3.ensures.value ∙ c.if-is_err-3.false)) c.push-2.ensures.items in
    let chains = lists_push s.chains.items c.push-2.new.self.items c.in_ok-chain.chain c.len-count.result pushed c.in_ok-chain.ensures in
    let chain : c.len.result ≡ length s.chains.items = omega (arith, c.len.ensures) in
    let count = c.len-count.ensures.len ∙ ap length c.self.view_is in
    other_more s c.args.self.now c.insert.new.self.keys c.push.new.self.items (lists c.push-2.new.self.items) c.args.ty c.self.view_is c.self.invariant
    c.requires.other types (places ∙ ap (λ (n : ℕ). s.places.items ++ (record { chain = n; depth = 0 }) ∷ []) chain)
    (chains ∙ ap (λ (n : ℕ). lists s.chains.items ++ (n ∷ []) ∷ []) count)

pub invariant_of-self-then-is_err-2 : goal.invariant_of-self-then-is_err-2
invariant_of-self-then-is_err-2 c =
    let s = c.self.inside in
    let keys = if_ok c.insert.result _ (sym c.is_err.ensures.value ∙ c.if-is_err.false) c.insert.ensures.keys in
    let types = keys_pushed s.types.keys c.args.self.now c.insert.new.self.keys c.args.ty c.self.view_is c.requires.new keys in
    let back = taken_off c.args.self.now c.insert.new.self.keys c.truncate.new.self.keys c.args.ty c.len-count.result
    (c.len-count.ensures.len ∙ ap length c.self.view_is) types c.truncate.ensures.keys in
    let places = other_chosen _ _ _ _ (is_err_there c.push.result (sym c.is_err-2.ensures.value ∙ c.if-is_err-2.true)) c.push.ensures.items in
    moved s.types.keys c.truncate.new.self.keys s.places.items c.push.new.self.items (lists s.chains.items) (lists s.chains.items)
    (back ∙ sym c.self.view_is) places refl c.self.invariant

pub invariant_of-self-then-is_err-3 : goal.invariant_of-self-then-is_err-3
invariant_of-self-then-is_err-3 c =
    let s = c.self.inside in
    let keys = if_ok c.insert.result _ (sym c.is_err.ensures.value ∙ c.if-is_err.false) c.insert.ensures.keys in
    let types = keys_pushed s.types.keys c.args.self.now c.insert.new.self.keys c.args.ty c.self.view_is c.requires.new keys in
    let back = taken_off c.args.self.now c.insert.new.self.keys c.truncate-then-is_err-3-2.new.self.keys c.args.ty c.len-count.result
    (c.len-count.ensures.len ∙ ap length c.self.view_is) types c.truncate-then-is_err-3-2.ensures.keys in
    let more = chosen _ _ _ _ (is_ok_there c.push.result (sym c.is_err-2.ensures.value ∙ c.if-is_err-2.false)) c.push.ensures.items in
    let places = taken_off s.places.items c.push.new.self.items c.truncate-then-is_err-3.new.self.items _ c.len-count.result
    (c.len-count.ensures.len ∙ sym c.self.invariant.count) more c.truncate-then-is_err-3.ensures.items in
    let chains = other_chosen _ _ _ _ (is_err_there c.push-2.result (sym c.is_err-3.ensures.value ∙ c.if-is_err-3.true)) c.push-2.ensures.items in
    moved s.types.keys c.truncate-then-is_err-3-2.new.self.keys s.places.items c.truncate-then-is_err-3.new.self.items (lists s.chains.items)
    (lists c.push-2.new.self.items) (back ∙ sym c.self.view_is) places (ap lists chains) c.self.invariant

pub returns-clause-ok : goal.returns-clause-ok
returns-clause-ok c =
    let keys = if_ok c.insert.result _ (sym c.is_err.ensures.value ∙ c.if-is_err.false) c.insert.ensures.keys in
    keys_pushed c.self.inside.types.keys c.args.self.now c.insert.new.self.keys c.args.ty c.self.view_is c.requires.new keys
