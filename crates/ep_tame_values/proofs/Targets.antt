-- What each target of a pointer has.
use Rattle.std.proofs.Common.{◌≡◌, ℕ, Bool, true, false, if◌then◌else◌, nat_eq, List, [], ◌∷◌, Option, Some, None}
use Rattle.std.proofs.Common.{IfSome, refl, sym, subst, slice_get}
use Rattle.std.specs.Prelude.{nat_lt}
use Rattle.std.proofs.lemmas.Bool.{eqb-true}
use Rattle.ep_domain.specs.Domain.{Ops}
use Rattle.ep_pointers.specs.declared.sum.Move.{Move}
use Rattle.ep_pointers.specs.Value.{Target, with_target, together}
use Rattle.ep_pointers.specs.Sum.{put, moved_offset, moved_targets}
use Rattle.ep_tame_values.specs.Offsets.{EachTarget}

module _ {N : Type 0} (P : ℕ → N → Type 0) where
  with_each : (f : N → N → N) → ((b : ℕ) (n m : N) → P b n → P b m → P b (f n m)) → (ts : List (Target N))
      (u : Target N) → EachTarget P ts → P u.0 u.1 → EachTarget P (with_target f ts u)
  with_each f go [] u h k = (k, tt)
  with_each f go (t ∷ ts) u h k =
      at (nat_lt u.0 t.0) (nat_eq t.0 u.0) refl (with_each f go ts u h.1 k)
    where
      at : (x y : Bool) → nat_eq t.0 u.0 ≡ y → EachTarget P (with_target f ts u) → EachTarget P
          (if x then u ∷ t ∷ ts else if y then (t.0, f t.1 u.1) ∷ ts else t ∷ with_target f ts u)
      at true y e later = (k, h)
      at false true e later = (go t.0 t.1 u.1 h.0 (subst (λ b. P b u.1) (sym (eqb-true t.0 u.0 e)) k), h.1)
      at false false e later = (h.0, later)

  pub together_each : (f : N → N → N) → ((b : ℕ) (n m : N) → P b n → P b m → P b (f n m)) → (ts us : List (Target N))
      → EachTarget P ts → EachTarget P us → EachTarget P (together f ts us)
  together_each f go ts [] h k = h
  together_each f go ts (u ∷ us) h k =
      together_each f go (with_target f ts u) us (with_each f go ts u h k.0) k.1

  pub put_each : (b : ℕ) (o : Option N) (ts : List (Target N)) → IfSome o (P b) → EachTarget P ts
      → EachTarget P (put b o ts)
  put_each b None ts h k = k
  put_each b (Some n) ts h k = (h, k)

pub moved_each : {N : Type 0} (D : Ops N) (P Q : ℕ → N → Type 0) (m : Move N) (sizes : List ℕ)
    → ((b : ℕ) (n : N) → P b n → IfSome (moved_offset D m (slice_get sizes b) n) (Q b)) → (ts : List (Target N))
    → EachTarget P ts → EachTarget Q (moved_targets D m sizes ts)
moved_each D P Q m sizes go [] h = tt
moved_each D P Q m sizes go (t ∷ ts) h =
    put_each Q t.0 (moved_offset D m (slice_get sizes t.0) t.1) (moved_targets D m sizes ts) (go t.0 t.1 h.0)
    (moved_each D P Q m sizes go ts h.1)
