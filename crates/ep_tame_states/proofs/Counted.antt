-- A good state has no more cells than its program has bytes, so its rank is below the number of the last head.
use Rattle.std.proofs.Common.{◌≡◌, ℕ, zero, suc, ◌+◌, ◌-◌, ◌*◌, ◌≤◌, ◌<◌, Bool, true, false, ◌&&◌, ◌||◌, ◌⊎◌, inl, inr}
use Rattle.std.proofs.Common.{⊎_elim, List, [], ◌∷◌, length, sum_by, slice_get, Option, Some, None, refl, sym, ap, ◌∙◌, subst}
use Rattle.std.proofs.Common.{arith, nat_eq, nat_lt}
use Rattle.std.proofs.Math.Nat.{mul_comm, mul_assoc, mul-suc, mul-le-mul_left}
use Rattle.std.proofs.lemmas.Bool.{and_parts, eqb-true, ltb-true, or_cases}
use Rattle.std.proofs.lemmas.List.Sums.{sum_by-cons}
use Rattle.ep_domain.specs.Domain.{Ops, Lawful}
use Rattle.ep_bitslice.specs.declared.cell.Side.TheVariants.{Shared}
use Rattle.ep_bitslice.specs.Bits.{side_number}
use Rattle.ep_cells.specs.declared.cell.Cell.{Cell}
use Rattle.ep_cells.specs.Cells.{IsIn, first, later, key_of, comes_before}
use Rattle.ep_cells.specs.States.{Known, AreApart, EachPair}
use Rattle.ep_cells.proofs.Lists.{each_at, each_from}
use Rattle.ep_core.specs.Program.{Block, Program}
use Rattle.ep_pass.specs.Turns.{cell_rank as rank_of_cells, last_head}
use Rattle.ep_tame_cells.specs.Rank.{cell_rank, rank}
use Rattle.ep_tame_cells.specs.Shape.{IsLeafCell, HasShape}
use Rattle.ep_tame_cells.proofs.Falls.{rank_laws_of}

abbrev bytes : List Block → ℕ
bytes bs = sum_by (λ (x : Block). x.size) bs

-- ---- bytes one after the other, block by block

abbrev start : List Block → ℕ → ℕ
start [] b = 0
start (x ∷ bs) zero = 0
start (x ∷ bs) (suc b) = x.size + start bs b

no_block : {A : Type 0} (x : Block) → None ≡ Some x → A
no_block x h = absurd cc

same_size : (y x : Block) → Some y ≡ Some x → y.size ≡ x.size
same_size y x h = let q : y ≡ x = cc in ap (λ (z : Block). z.size) q

start_below : (bs : List Block) (b : ℕ) (x : Block) (q : ℕ) → slice_get bs b ≡ Some x → q < x.size
    → start bs b + q < bytes bs
start_below [] b x q e l = no_block x e
start_below (y ∷ bs) zero x q e l =
    let s = sum_by-cons (λ (z : Block). z.size) y bs in
    let same = same_size y x e in
    let here : start (y ∷ bs) 0 ≡ 0 = refl in
    omega (arith, s, same, l, here)
start_below (y ∷ bs) (suc b) x q e l =
    let s = sum_by-cons (λ (z : Block). z.size) y bs in
    let k = start_below bs b x q e l in
    let next : start (y ∷ bs) (suc b) ≡ y.size + start bs b = refl in
    omega (arith, s, k, next)

start_rises : (bs : List Block) (b c : ℕ) (x : Block) (q r : ℕ) → b < c → slice_get bs b ≡ Some x → q < x.size
    → start bs b + q < start bs c + r
start_rises [] b c x q r h e l = no_block x e
start_rises (y ∷ bs) zero zero x q r h e l = absurd (omega (arith, h))
start_rises (y ∷ bs) (suc b) zero x q r h e l = absurd (omega (arith, h))
start_rises (y ∷ bs) zero (suc c) x q r h e l =
    let same = same_size y x e in
    let here : start (y ∷ bs) 0 ≡ 0 = refl in
    let next : start (y ∷ bs) (suc c) ≡ y.size + start bs c = refl in
    omega (arith, same, l, here, next)
start_rises (y ∷ bs) (suc b) (suc c) x q r h e l =
    let k = start_rises bs b c x q r (omega (arith, h)) e l in
    let one : start (y ∷ bs) (suc b) ≡ y.size + start bs b = refl in
    let other : start (y ∷ bs) (suc c) ≡ y.size + start bs c = refl in
    omega (arith, k, one, other)

module _ {N : Type 0} where
  -- ---- lists of numbers that rise

  pairs_as : (R S : Cell N → Cell N → Type 0) (cs : List (Cell N))
      → ((x y : Cell N) → IsIn x cs → IsIn y cs → R x y → S x y) → EachPair R cs → EachPair S cs
  pairs_as R S [] go h = tt
  pairs_as R S (x ∷ cs) go h = (
    each_from (S x) cs (λ y i. go x y (first cs) (later x cs i) (each_at (R x) y cs h.0 i)),
    pairs_as R S cs (λ a b i j r. go a b (later x cs i) (later x cs j) r) h.1,
  )

  counted : (place : Cell N → ℕ) (end from : ℕ) (cs : List (Cell N)) → from ≤ end
      → ((c : Cell N) → IsIn c cs → (from ≤ place c) × (place c < end))
      → EachPair (λ x y. place x < place y) cs → from + length cs ≤ end
  counted place end from [] h inside rises = let none : List (Cell N) = [] in let e : length none ≡ 0 = refl in omega (arith, h, e)
  counted place end from (c ∷ cs) h inside rises =
      let own = inside c (first cs) in
      let low = own.0 in
      let high = own.1 in
      let rest = counted place end (suc (place c)) cs (omega (arith, high))
      (λ x i. (omega (arith, each_at (λ y. place c < place y) x cs rises.0 i), (inside x (later c cs i)).1)) rises.1 in
      let e : length (c ∷ cs) ≡ suc (length cs) = refl in
      omega (arith, low, rest, e)

  -- ---- cells of a program

  module _ (p : Program) where
    abbrev place_of : Cell N → ℕ
    place_of c = start p.blocks c.block + c.offset

    rises : (x y : Cell N) → IsLeafCell p x → IsLeafCell p y → comes_before x y ≡ true → place_of x < place_of y
    rises x y a b h =
        ⊎_elim (λ l. start_rises p.blocks x.block y.block a.of_block x.offset y.offset (ltb-true x.block y.block l)
        a.there a.inside)
        (λ r. in_block (and_parts (nat_eq x.block y.block) (nat_lt (key_of x) (key_of y)) r))
        (or_cases (nat_lt x.block y.block) (nat_eq x.block y.block && nat_lt (key_of x) (key_of y)) h)
      where
        in_block : (nat_eq x.block y.block ≡ true) × (nat_lt (key_of x) (key_of y) ≡ true) → place_of x < place_of y
        in_block q =
            let block = ap (start p.blocks) (eqb-true x.block y.block q.0) in
            let key = ltb-true (key_of x) (key_of y) q.1 in
            let left = ap side_number a.side in
            let right = ap side_number b.side in
            let rises : start p.blocks x.block + x.offset < start p.blocks y.block + y.offset =
            omega (arith, block, key, left, right) in
            rises

    few_cells : (cs : List (Cell N)) → HasShape p cs → length cs ≤ bytes p.blocks
    few_cells cs s =
        let k = counted place_of (bytes p.blocks) 0 cs (omega arith)
        (λ c i. (
          omega arith,
          start_below p.blocks c.block (s.leaf c i).of_block c.offset (s.leaf c i).there
              (s.leaf c i).inside,
        ))
        (pairs_as (AreApart p.types.model) (λ x y. place_of x < place_of y) cs
        (λ x y i j r. rises x y (s.leaf x i) (s.leaf y j) r.ordered) s.cells.pairs) in
        omega (arith, k)

module _ {N : Type 0} (D : Ops N) (law : Lawful D) where
  rank_by : (blocks most : ℕ) → ((c : Cell N) → cell_rank D blocks c ≤ most) → (cs : List (Cell N))
      → rank D blocks cs ≤ most * length cs
  rank_by blocks most h [] = omega arith
  rank_by blocks most h (c ∷ cs) =
      let own = h c in
      let rest = rank_by blocks most h cs in
      let e = mul-suc most (length cs) in
      omega (arith, own, rest, e)

  some_blocks : (bs : List Block) → 0 < bytes bs → 0 < length bs
  some_blocks [] h = absurd (let e : bytes [] ≡ 0 = refl in omega (arith, e, h))
  some_blocks (x ∷ bs) h = let e : length (x ∷ bs) ≡ suc (length bs) = refl in omega (arith, e)

  -- 32 times what there is at most
  below_last : (t k r n : ℕ) → 0 < t → 0 < k → r ≤ k → n ≤ r * t → n < 32 * t * k + 1 - 1
  below_last t k r n some more small h =
      let a = mul-le-mul_left t small in
      let b = mul_comm r t in
      let c = mul_assoc 32 t k in
      let d : t * 1 ≤ t * k = mul-le-mul_left t (let q : 1 ≤ k = omega (arith, more) in q) in
      let e : t * 1 ≡ t = omega arith in
      omega (arith, a, b, c, d, e, h, some)

  pub rank_bounded : (p : Program) (cs : List (Cell N)) → HasShape p cs → 0 < bytes p.blocks
      → rank D (length p.blocks) cs < last_head p D.height - 1
  rank_bounded p cs s some =
      let blocks = length p.blocks in
      let most = 4 + blocks * (D.height + 1) in
      let by = rank_by blocks most (λ c. (rank_laws_of D law).bound blocks (some_blocks p.blocks some) c) cs in
      let few = mul-le-mul_left most (few_cells p cs s) in
      let wide : blocks * (D.height + 1) ≤ (blocks + 1) * (D.height + 1) =
      (let u = mul-suc (D.height + 1) blocks in
      let v = mul_comm (D.height + 1) blocks in
      let w = mul_comm (D.height + 1) (suc blocks) in
      let x : suc blocks ≡ blocks + 1 = omega arith in
      let y = ap (λ z. z * (D.height + 1)) x in omega (arith, u, v, w, y)) in
      below_last (bytes p.blocks) (rank_of_cells blocks D.height) most (rank D blocks cs) some
      (omega arith) (omega (arith, wide)) (omega (arith, by, few))
