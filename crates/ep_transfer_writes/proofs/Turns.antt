-- A run of writes, one after the other.
use Rattle.std.proofs.Common.{◌≡◌, ℕ, zero, suc, ◌+◌, ◌-◌, ◌<◌, Bool, List, [], ◌∷◌, refl, sym, ap, ◌∙◌, arith}
use Rattle.ep_transfers.proofs.PieceReads.{no_further}
use Rattle.ep_transfer_writes.proofs.Copying.{further}
use Rattle.ep_transfers.proofs.Located.{next_of, zero_by}
use Rattle.ep_int.specs.declared.types.Scalar.{Scalar}
use Rattle.ep_domain.specs.Domain.{Ops}
use Rattle.ep_equalities.specs.declared.pair.Mode.{Mode}
use Rattle.ep_cell_ranges.specs.Spots.{Spot}
use Rattle.ep_transfers.specs.Places.{Places, moved_spot, moved_spots, moved_places}
use Rattle.ep_transfers.specs.Writes.{Underway, write, write_run}

module _ {N : Type 0} (D : Ops N) (m : Mode) (to : Bool) (w : Scalar) (p : Places) where
  one_less : (n i : ℕ) → i < n → n - i ≡ suc (n - (i + 1))
  one_less n i h = omega (arith, h)

  pub next_turn : (n i : ℕ) (u v all : Underway N) → i < n → v ≡ write D m to w (moved_places i p) u
      → write_run D m to w p i (n - i) u ≡ all → write_run D m to w p (i + 1) (n - (i + 1)) v ≡ all
  next_turn n i u v all h e q =
      ap (write_run D m to w p (i + 1) (n - (i + 1))) e
      ∙ sym (ap (λ c. write_run D m to w p i c u) (one_less n i h)) ∙ q

  none_left : (n i : ℕ) → (i < n → ⊥) → n - i ≡ 0
  none_left n i h = omega (arith, h)

  pub last_turn : (n i : ℕ) (u all : Underway N) → (i < n → ⊥) → write_run D m to w p i (n - i) u ≡ all → u ≡ all
  last_turn n i u all h q = sym (ap (λ c. write_run D m to w p i c u) (none_left n i h)) ∙ q

-- ---- in parts

two_steps : (q i j : ℕ) → q + i + j ≡ q + (i + j)
two_steps q i j = omega arith

moved_twice : (i j : ℕ) (qs : List Spot) → moved_spots j (moved_spots i qs) ≡ moved_spots (i + j) qs
moved_twice i j [] = refl
moved_twice i j (q ∷ qs) =
    ap (λ a. let r : Spot = (q.0, a) in r ∷ moved_spots j (moved_spots i qs)) (two_steps q.1 i j)
    ∙ ap (λ rs. moved_spot (i + j) q ∷ rs) (moved_twice i j qs)

both_moved : (i j : ℕ) (p : Places) → moved_places j (moved_places i p) ≡ moved_places (i + j) p
both_moved i j p =
    ap (λ xs. record { left = xs; right = moved_spots j (moved_spots i p.right) }) (moved_twice i j p.left)
    ∙ ap (λ xs. record { left = moved_spots (i + j) p.left; right = xs }) (moved_twice i j p.right)

suc_more : (a b : ℕ) → suc a + b ≡ suc (a + b)
suc_more a b = omega arith

module _ {N : Type 0} (D : Ops N) (m : Mode) (to : Bool) (w : Scalar) (p : Places) where
  -- from places further on
  from_moved : (i n j : ℕ) (u : Underway N)
      → write_run D m to w p (i + j) n u ≡ write_run D m to w (moved_places i p) j n u
  from_moved i zero j u = refl
  from_moved i (suc n) j u =
      ap (λ q. write_run D m to w p q n (write D m to w (moved_places (i + j) p) u)) (further i j)
      ∙ from_moved i n (j + 1) (write D m to w (moved_places (i + j) p) u)
      ∙ ap (λ ps. write_run D m to w (moved_places i p) (j + 1) n (write D m to w ps u)) (sym (both_moved i j p))

  one_after : (a b i : ℕ) (u : Underway N)
      → write_run D m to w p i (a + b) u ≡ write_run D m to w p (i + a) b (write_run D m to w p i a u)
  one_after zero b i u =
      ap (λ c. write_run D m to w p i c u) (zero_by b) ∙ sym (ap (λ q. write_run D m to w p q b u) (no_further i))
  one_after (suc a) b i u =
      let v = write D m to w (moved_places i p) u in
      ap (λ c. write_run D m to w p i c u) (suc_more a b)
      ∙ one_after a b (i + 1) v
      ∙ ap (λ q. write_run D m to w p q b (write_run D m to w p (i + 1) a v)) (next_of i a)

  -- so many, and then so many more
  pub in_two : (a b : ℕ) (u v x : Underway N) → v ≡ write_run D m to w p 0 a u
      → x ≡ write_run D m to w (moved_places a p) 0 b v → x ≡ write_run D m to w p 0 (a + b) u
  in_two a b u v x e h =
      h
      ∙ sym (from_moved a b 0 v)
      ∙ ap (λ q. write_run D m to w p q b v) (no_further a ∙ sym (zero_by a))
      ∙ ap (write_run D m to w p (0 + a) b) e
      ∙ sym (one_after a b 0 u)

  pub in_two_of : (a b n : ℕ) (u v x : Underway N) → a + b ≡ n → v ≡ write_run D m to w p 0 a u
      → x ≡ write_run D m to w (moved_places a p) 0 b v → x ≡ write_run D m to w p 0 n u
  in_two_of a b n u v x s e h = in_two a b u v x e h ∙ ap (λ c. write_run D m to w p 0 c u) s
