use Rattle.std.proofs.Common.{◌≡◌, ◌+◌, ◌∙◌, ◌<◌, ◌≤◌, ℕ, List, refl, sym, subst, arith, Some, length, get_or}
use Rattle.std.specs.Prelude.{slice_get}
use Rattle.std.proofs.lemmas.Option.{slice_get_past, slice_get_read}
use Rattle.ep_layout.proofs.ChainLists.{place_at, chain_below, row_is, row_within}
use Rattle.ep_layout.proofs.list.TypeList.row_over.Goals as goal

pub index-chain-requires : goal.index-chain-requires
index-chain-requires c =
    let s = c.self.inside in
    let p = c.index-place.result.now in
    let below = chain_below s c.self.invariant c.args.row p
    (place_at s c.args.self.now c.self.view_is c.self.invariant c.args.row p c.requires c.index-place.ensures) in
    omega (arith, below)

pub returns-in-None-clause-row : goal.returns-in-None-clause-row
returns-in-None-clause-row c =
    let s = c.self.inside in
    let p = c.index-place.result.now in
    let v = c.index-chain.result.now in
    let past = slice_get_past v.items (p.depth + c.args.stars)
    (subst (λ (l : List ℕ). length l ≤ p.depth + c.args.stars) c.deref.ensures.value c.in-None.ensures.lookup.3) in
    sym (row_is s c.args.self.now c.self.view_is c.self.invariant c.args.row c.args.stars p v c.requires c.index-place.ensures
    c.index-chain.ensures ∙ past)

found : (xs ys : List ℕ) (i x : ℕ) → ys ≡ xs → i < length ys → x ≡ get_or ys i x → slice_get xs i ≡ Some x
found xs ys i x e l h = subst (λ (zs : List ℕ). slice_get zs i ≡ Some x) e (slice_get_read ys _ i x refl l h)

pub returns-in-Some-clause-row : goal.returns-in-Some-clause-row
returns-in-Some-clause-row c =
    let s = c.self.inside in
    let p = c.index-place.result.now in
    let v = c.index-chain.result.now in
    let there = found v.items c.deref.result.now (p.depth + c.args.stars) c.in-Some.row.now c.deref.ensures.value
    c.in-Some.ensures.lookup.3.0 c.in-Some.ensures.lookup.1 in
    sym (row_is s c.args.self.now c.self.view_is c.self.invariant c.args.row c.args.stars p v c.requires c.index-place.ensures
    c.index-chain.ensures ∙ there)

pub returns-in-Some-clause-inside : goal.returns-in-Some-clause-inside
returns-in-Some-clause-inside c =
    let s = c.self.inside in
    let p = c.index-place.result.now in
    let v = c.index-chain.result.now in
    let there = found v.items c.deref.result.now (p.depth + c.args.stars) c.in-Some.row.now c.deref.ensures.value
    c.in-Some.ensures.lookup.3.0 c.in-Some.ensures.lookup.1 in
    let below = chain_below s c.self.invariant c.args.row p
    (place_at s c.args.self.now c.self.view_is c.self.invariant c.args.row p c.requires c.index-place.ensures) in
    row_within s c.args.self.now c.self.view_is c.self.invariant p.chain (p.depth + c.args.stars) c.in-Some.row.now v below
    c.index-chain.ensures there
