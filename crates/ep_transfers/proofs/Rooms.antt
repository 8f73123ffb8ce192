-- The places of an access end inside their blocks, and so below 2 to the 32.
use Rattle.std.proofs.Common.{◌≡◌, ℕ, zero, suc, ◌+◌, ◌-◌, ◌*◌, ◌/◌, ◌≤◌, pos, Bool, true, false, nat_le, cond, List}
use Rattle.std.proofs.Common.{[], ◌∷◌, ◌++◌, map, sum_by, slice_get, Option, Some, None, refl, subst, arith}
use Rattle.std.specs.List.{filter, list_all}
use Rattle.std.proofs.lemmas.Bool.{and_parts, leb-true}
use Rattle.std.proofs.Math.Nat.{div-mul-le_self, suc-mul}
use Rattle.ep_domain.specs.Domain.{Ops}
use Rattle.ep_pointers.specs.Value.{Target}
use Rattle.ep_core.specs.Program.{Block, Program}
use Rattle.ep_core.specs.WellFormed.{block_fits, blocks_fit}
use Rattle.ep_evaluation.specs.Accesses.{multiples, offsets_in, held_spots, spots}
use Rattle.ep_cell_ranges.specs.Spots.{Spot}
use Rattle.ep_evaluation.specs.Laws.{sizes_of}
use Rattle.ep_transfers.proofs.Kills.{in_sum}

-- ---- the sizes of blocks

pub size_at : (bs : List Block) (i size : ℕ) → slice_get (sizes_of bs) i ≡ Some size → (x : Block) ×
    (slice_get bs i ≡ Some x) × (x.size ≡ size)
size_at [] i size h = absurd (let q : None ≡ Some size = h in cc)
size_at (b ∷ bs) zero size h = (b, refl, let q : Some b.size ≡ Some size = h in cc)
size_at (b ∷ bs) (suc i) size h = size_at bs i size h

pub small : (p : Program) → blocks_fit p.types p.blocks ≡ true → (i size : ℕ) → slice_get (sizes_of p.blocks) i ≡ Some
    size → size ≤ 65536
small p fit i size h =
    let q = and_parts (list_all (block_fits p.types) p.blocks)
    (nat_le (sum_by (λ (b : Block). b.size) p.blocks) 65536) fit in
    let x = size_at p.blocks i size h in
    let e = x.2 in
    let l = in_sum p.blocks i x.0 x.1 in
    let t = leb-true (sum_by (λ (b : Block). b.size) p.blocks) 65536 q.1 in
    omega (arith, e, l, t)

-- ---- places with room for n bytes up to a limit

abbrev pub EndBy : (limit n : ℕ) → List Spot → Type 0
EndBy l n [] = Unit {0}
EndBy l n (q ∷ qs) = (q.1 + n ≤ l) × EndBy l n qs

abbrev EndAll : (limit n : ℕ) → List ℕ → Type 0
EndAll l n [] = Unit {0}
EndAll l n (q ∷ qs) = (q + n ≤ l) × EndAll l n qs

both_end : (l n : ℕ) (qs rs : List Spot) → EndBy l n qs → EndBy l n rs → EndBy l n (qs ++ rs)
both_end l n [] rs a b = b
both_end l n (q ∷ qs) rs a b = (a.0, both_end l n qs rs a.1 b)

map_ends : (l n b : ℕ) (qs : List ℕ) → EndAll l n qs → EndBy l n (map (λ q. (b, q)) qs)
map_ends l n b [] h = tt
map_ends l n b (q ∷ qs) h = (h.0, map_ends l n b qs h.1)

filter_if : (l n q : ℕ) (t : Bool) (qs : List ℕ) → q + n ≤ l → EndAll l n qs → EndAll l n (cond t (q ∷ qs) qs)
filter_if l n q true qs a b = (a, b)
filter_if l n q false qs a b = b

filter_ends : (l n : ℕ) (test : ℕ → Bool) (qs : List ℕ) → EndAll l n qs → EndAll l n (filter test qs)
filter_ends l n test [] h = tt
filter_ends l n test (q ∷ qs) h = filter_if l n q (test q) (filter test qs) h.0 (filter_ends l n test qs h.1)

pub next_end : (l n a q c : ℕ) → q + suc c * a + n ≤ l → q + a + c * a + n ≤ l
next_end l n a q c h = let e = suc-mul c a in omega (arith, e, h)

multiples_end : (l n a q c : ℕ) → q + c * a + n ≤ l → EndAll l n (multiples a q (suc c))
multiples_end l n a q zero h = (omega (arith, h), tt)
multiples_end l n a q (suc c) h = (omega (arith, h), multiples_end l n a (q + a) c (next_end l n a q c h))

pub one_more : (c : ℕ) → suc c ≡ c + 1
one_more c = omega arith

pub last_end : (size n x : ℕ) → x ≤ size - n → n ≤ size → 0 + x + n ≤ size
last_end size n x h i = omega (arith, h, i)

offsets_by : (size n a : ℕ) (t : Bool) → nat_le n size ≡ t → EndAll size n
    (cond t (multiples a 0 ((size - n) / a + 1)) [])
offsets_by size n a true e =
    subst (λ c. EndAll size n (multiples a 0 c)) (one_more ((size - n) / a))
    (multiples_end size n a 0 ((size - n) / a)
    (last_end size n ((size - n) / a * a) (div-mul-le_self (size - n) a) (leb-true n size e)))
offsets_by size n a false e = tt

pub wider : (l l' n : ℕ) (qs : List Spot) → l ≤ l' → EndBy l n qs → EndBy l' n qs
wider l l' n [] e h = tt
wider l l' n (q ∷ qs) e h = (let a = h.0 in omega (arith, a, e), wider l l' n qs e h.1)

module _ {N : Type 0} (D : Ops N) (sizes : List ℕ) (limit : ℕ)
    (fit : (b size : ℕ) → slice_get sizes b ≡ Some size → size ≤ limit) (n a : ℕ) where
  held_end : (t : Target N) (o : Option ℕ) → slice_get sizes t.0 ≡ o → EndBy limit n (held_spots D n a t o)
  held_end t None e = tt
  held_end t (Some size) e =
      wider size limit n (held_spots D n a t (Some size)) (fit t.0 size e)
      (map_ends size n t.0 (filter (λ q. D.holds t.1 (pos q)) (offsets_in size n a))
      (filter_ends size n (λ q. D.holds t.1 (pos q)) (offsets_in size n a) (offsets_by size n a (nat_le n size) refl)))

  pub spots_end : (ts : List (Target N)) → EndBy limit n (spots D sizes n a ts)
  spots_end [] = tt
  spots_end (t ∷ ts) =
      both_end limit n (held_spots D n a t (slice_get sizes t.0)) (spots D sizes n a ts)
      (held_end t (slice_get sizes t.0) refl)
      (spots_end ts)
