-- The places of an access end inside their blocks, whose sizes have 32 bits.
use Rattle.std.proofs.Common.{◌≡◌, ℕ, zero, suc, ◌+◌, ◌-◌, ◌*◌, ◌/◌, ◌^◌, ◌<◌, ◌≤◌, pos, Bool, true, false, nat_le}
use Rattle.ep_transfers.proofs.Rooms.{last_end, next_end, one_more}
use Rattle.std.proofs.Common.{cond, List, [], ◌∷◌, ◌++◌, map, slice_get, get_or, Option, Some, None, refl, sym, subst}
use Rattle.std.proofs.Common.{arith}
use Rattle.std.specs.List.{filter}
use Rattle.std.proofs.lemmas.Bool.{leb-true}
use Rattle.std.proofs.Math.Nat.{div-mul-le_self}
use Rattle.ep_domain.specs.Domain.{Ops}
use Rattle.ep_pointers.specs.Value.{Target}
use Rattle.ep_evaluation.specs.Accesses.{multiples, offsets_in, held_spots, spots}
use Rattle.ep_cell_ranges.specs.Spots.{Spot}
use Rattle.ep_transfer_places.specs.Room.{HaveRoom}

-- ---- up to a limit

abbrev EndBy : (limit n : ℕ) → List ℕ → Type 0
EndBy l n [] = Unit {0}
EndBy l n (q ∷ qs) = (q + n ≤ l) × EndBy l n qs

filter_if : (l n q : ℕ) (t : Bool) (qs : List ℕ) → q + n ≤ l → EndBy l n qs → EndBy l n (cond t (q ∷ qs) qs)
filter_if l n q true qs a b = (a, b)
filter_if l n q false qs a b = b

filter_ends : (l n : ℕ) (test : ℕ → Bool) (qs : List ℕ) → EndBy l n qs → EndBy l n (filter test qs)
filter_ends l n test [] h = tt
filter_ends l n test (q ∷ qs) h = filter_if l n q (test q) (filter test qs) h.0 (filter_ends l n test qs h.1)

multiples_end : (l n a q c : ℕ) → q + c * a + n ≤ l → EndBy l n (multiples a q (suc c))
multiples_end l n a q zero h = (omega (arith, h), tt)
multiples_end l n a q (suc c) h = (omega (arith, h), multiples_end l n a (q + a) c (next_end l n a q c h))

offsets_end : (size n a : ℕ) (t : Bool) → nat_le n size ≡ t
    → EndBy size n (cond t (multiples a 0 ((size - n) / a + 1)) [])
offsets_end size n a true e =
    subst (λ c. EndBy size n (multiples a 0 c)) (one_more ((size - n) / a))
    (multiples_end size n a 0 ((size - n) / a)
    (last_end size n ((size - n) / a * a) (div-mul-le_self (size - n) a) (leb-true n size e)))
offsets_end size n a false e = tt

-- ---- in 32 bits

map_room : (l n b : ℕ) (qs : List ℕ) → l < 2 ^ 32 → EndBy l n qs → HaveRoom n (map (λ q. let s : Spot = (b, q) in s) qs)
map_room l n b [] e h = tt
map_room l n b (q ∷ qs) e h = (let i = h.0 in omega (arith, i, e), map_room l n b qs e h.1)

both_room : (n : ℕ) (qs rs : List Spot) → HaveRoom n qs → HaveRoom n rs → HaveRoom n (qs ++ rs)
both_room n [] rs a b = b
both_room n (q ∷ qs) rs a b = (a.0, both_room n qs rs a.1 b)

size_below : (sizes : List ℕ) (b size : ℕ) → ((i : ℕ) → get_or sizes i 0 < 2 ^ 32) → slice_get sizes b ≡ Some size
    → size < 2 ^ 32
size_below [] b size f e = absurd (let q : None ≡ Some size = e in cc)
size_below (s ∷ sizes) zero size f e =
    let q : s ≡ size = (let r : Some s ≡ Some size = e in cc) in subst (λ z. z < 2 ^ 32) q (f 0)
size_below (s ∷ sizes) (suc b) size f e = size_below sizes b size (λ i. f (suc i)) e

module _ {N : Type 0} (D : Ops N) (sizes : List ℕ) (fit : (i : ℕ) → get_or sizes i 0 < 2 ^ 32) (n a : ℕ) where
  held_room : (t : Target N) (o : Option ℕ) → slice_get sizes t.0 ≡ o → HaveRoom n (held_spots D n a t o)
  held_room t None e = tt
  held_room t (Some size) e =
      map_room size n t.0 (filter (λ q. D.holds t.1 (pos q)) (offsets_in size n a)) (size_below sizes t.0 size fit e)
      (filter_ends size n (λ q. D.holds t.1 (pos q)) (offsets_in size n a) (offsets_end size n a (nat_le n size) refl))

  pub spots_room : (ts : List (Target N)) → HaveRoom n (spots D sizes n a ts)
  spots_room [] = tt
  spots_room (t ∷ ts) =
      both_room n (held_spots D n a t (slice_get sizes t.0)) (spots D sizes n a ts)
      (held_room t (slice_get sizes t.0) refl) (spots_room ts)

pub room_is : (n : ℕ) (qs rs : List Spot) → qs ≡ rs → HaveRoom n rs → HaveRoom n qs
room_is n qs rs e h = subst (HaveRoom n) (sym e) h
