-- Objects stand at the places of an address.
use Rattle.std.proofs.Common.{◌≡◌, ℕ, zero, suc, ◌+◌, ◌-◌, ◌*◌, ◌/◌, ◌≤◌, ◌<◌, pos, Bool, true, false, cond, List, []}
use Rattle.ep_transfers.proofs.Rooms.{last_end, next_end, one_more}
use Rattle.std.proofs.Common.{◌∷◌, ◌++◌, map, slice_get, Option, Some, None, nat_le, refl, sym, subst, arith}
use Rattle.std.specs.List.{filter}
use Rattle.std.proofs.Math.Nat.{div-mul-le_self}
use Rattle.std.proofs.lemmas.Bool.{leb-true}
use Rattle.ep_layout.specs.Table.{size}
use Rattle.ep_core.specs.Program.{Place, Block, Program}
use Rattle.ep_domain.specs.Domain.{Ops}
use Rattle.ep_pointers.specs.Value.{Target}
use Rattle.ep_cell_ranges.specs.Spots.{Spot}
use Rattle.ep_evaluation.specs.Accesses.{multiples, offsets_in, held_spots, spots}
use Rattle.ep_tame_values.specs.Offsets.{EachTarget}
use Rattle.ep_tame_places.specs.Places.{LiesAt}
use Rattle.ep_tame_places.specs.Laws.{PlaceLaws}
use Rattle.ep_tame_accesses.specs.Laws.{HasObject, EachSpot, AccessesAreOfObjects}

-- ---- offsets at which an access of n bytes ends in the block

abbrev EndAll : (limit n : ℕ) → List ℕ → Type 0
EndAll l n [] = Unit {0}
EndAll l n (q ∷ qs) = (q + n ≤ l) × EndAll l n qs

multiples_end : (l n a q c : ℕ) → q + c * a + n ≤ l → EndAll l n (multiples a q (suc c))
multiples_end l n a q zero h = (omega (arith, h), tt)
multiples_end l n a q (suc c) h = (omega (arith, h), multiples_end l n a (q + a) c (next_end l n a q c h))

offsets_end : (l n a : ℕ) (t : Bool) → nat_le n l ≡ t → EndAll l n (cond t (multiples a 0 ((l - n) / a + 1)) [])
offsets_end l n a true e =
    subst (λ c. EndAll l n (multiples a 0 c)) (one_more ((l - n) / a))
    (multiples_end l n a 0 ((l - n) / a) (last_end l n ((l - n) / a * a) (div-mul-le_self (l - n) a) (leb-true n l e)))
offsets_end l n a false e = tt

sized : (bs : List Block) (i : ℕ) (x : Block) (n : ℕ) → slice_get bs i ≡ Some x
    → slice_get (map (λ (b : Block). b.size) bs) i ≡ Some n → n ≡ x.size
sized [] i x n h e = absurd (let q : None ≡ Some x = h in cc)
sized (y ∷ bs) zero x n h e =
    let q : y ≡ x = (let r : Some y ≡ Some x = h in cc) in
    let m : y.size ≡ n = (let r : Some y.size ≡ Some n = e in cc) in
    subst (λ (z : Block). n ≡ z.size) q (sym m)
sized (y ∷ bs) (suc i) x n h e = sized bs i x n h e

-- ---- places

both_spots : (P : Spot → Type 0) (qs rs : List Spot) → EachSpot P qs → EachSpot P rs → EachSpot P (qs ++ rs)
both_spots P [] rs h k = k
both_spots P (q ∷ qs) rs h k = (h.0, both_spots P qs rs h.1 k)

-- at those offsets that pass a test
some_spots : (P : Spot → Type 0) (b l n : ℕ) (test : ℕ → Bool) → ((q : ℕ) → test q ≡ true → q + n ≤ l → P (b, q))
    → (qs : List ℕ) → EndAll l n qs → EachSpot P (map (λ q. (b, q)) (filter test qs))
some_spots P b l n test go [] h = tt
some_spots P b l n test go (q ∷ qs) h = at (test q) refl (some_spots P b l n test go qs h.1)
  where
    at : (t : Bool) → test q ≡ t → EachSpot P (map (λ q. (b, q)) (filter test qs))
        → EachSpot P (map (λ q. (b, q)) (cond t (q ∷ filter test qs) (filter test qs)))
    at true e rest = (go q e h.0, rest)
    at false e rest = rest

-- of an access of s bytes at an address: what holds where it ends in the block
module _ {N : Type 0} (D : Ops N) (p : Program) (live : List ℕ) (a : Place) (ty s step : ℕ) (P : Spot → Type 0)
    (go : (b q : ℕ) (n : N) (l : LiesAt D p live a ty b n) → D.holds n (pos q) ≡ true → q + s ≤ l.of_block.size
    → P (b, q)) where
  held_have : (t : Target N) (o : Option ℕ) → slice_get (map (λ (b : Block). b.size) p.blocks) t.0 ≡ o
      → LiesAt D p live a ty t.0 t.1 → EachSpot P (held_spots D s step t o)
  held_have t None e l = tt
  held_have t (Some z) e l =
      let same = sized p.blocks t.0 l.of_block z l.there e in
      some_spots P t.0 z s (λ q. D.holds t.1 (pos q)) (λ q h k. go t.0 q t.1 l h (subst (λ x. q + s ≤ x) same k))
      (offsets_in z s step) (offsets_end z s step (nat_le s z) refl)

  pub spots_have : (ts : List (Target N)) → EachTarget (LiesAt D p live a ty) ts
      → EachSpot P (spots D (map (λ (b : Block). b.size) p.blocks) s step ts)
  spots_have [] h = tt
  spots_have (t ∷ ts) h =
      both_spots P (held_spots D s step t (slice_get (map (λ (b : Block). b.size) p.blocks) t.0))
      (spots D (map (λ (b : Block). b.size) p.blocks) s step ts)
      (held_have t (slice_get (map (λ (b : Block). b.size) p.blocks) t.0) refl h.0) (spots_have ts h.1)

module _ {N : Type 0} (D : Ops N) (p : Program) (laws : PlaceLaws D p) (live : List ℕ) (a : Place) (ty s : ℕ)
    (sz : size p.types ty ≡ Some s) (some : 0 < s) where
  object_at : (b q : ℕ) (n : N) (l : LiesAt D p live a ty b n) → D.holds n (pos q) ≡ true → q + s ≤ l.of_block.size
      → HasObject p live ty (b, q)
  object_at b q n l held inside = record {
    of_block = l.of_block;
    there = l.there;
    named = l.named;
    stands = laws.stands live a ty b s q n l sz some held inside;
  }

pub accesses_of : {N : Type 0} (D : Ops N) (p : Program) → PlaceLaws D p → AccessesAreOfObjects D p
accesses_of D p laws live a ty s step ts sz some h =
    spots_have D p live a ty s step (HasObject p live ty) (object_at D p laws live a ty s sz some) ts h
