-- What holds of memories that are undefined outside of all blocks holds of the memories of machines: these do the same.
use Rattle.std.proofs.Common.{◌≡◌, ℕ, Bool, List, Option, sym, ◌∙◌, ap, subst}
use Rattle.ep_int.specs.declared.types.Order.{Order}
use Rattle.ep_int.specs.declared.types.Scalar.{Scalar}
use Rattle.ep_int.specs.Memory.{Memory, killed}
use Rattle.ep_core.specs.Program.{Expr, Program}
use Rattle.ep_core.specs.Exec.{State, Way, Outcome, leaves, running, no_input, undefined_at}
use Rattle.ep_core.specs.Runs.{Side, left, right, Run, main_ends}
use Rattle.ep_core.specs.Typed.{StateFits}
use Rattle.ep_pass.specs.States.{Transfer}
use Rattle.ep_pass.specs.Laws.{IsTruth}
use Rattle.ep_closed_laws.specs.Exactly.{IsThere, IfLeft, IfBothLeft, TransferIsExact, SeenFrom, AreOverAlike}
use Rattle.ep_closed_laws.specs.Closely.{ConcretisesOneTyped, ConcretisesOneBeside}
use Rattle.ep_single_restricted.specs.Restricted.{restricted, restricted_state, restricted_outcome}
use Rattle.ep_single_restricted.proofs.Bytes.{restricted_fits}
use Rattle.ep_single_restricted.proofs.Runs.{is_restricted}

module _ (p : Program) {S : Type 0} (C : S → Memory → Memory → Type 0) where
  -- a state stands for what the blocks of two memories have
  abbrev pub Inside : S → Memory → Memory → Type 0
  Inside s m n = C s (restricted p m) (restricted p n)

  abbrev R : Memory → Memory
  R = restricted p

  abbrev Z : State → State
  Z = restricted_state p

  -- ---- into the blocks

  fits_in : (x : State) → StateFits p x → StateFits p (Z x)
  fits_in x h = record { memory = restricted_fits p x.memory h.memory; outputs = h.outputs }

  pub typed_in : (s : S) (x y : State) → ConcretisesOneTyped p Inside s x y → ConcretisesOneTyped p C s (Z x) (Z y)
  typed_in s x y h = record {
    memories = h.memories;
    outputs = h.outputs;
    left_fits = fits_in x h.left_fits;
    right_fits = fits_in y h.right_fits;
  }

  pub seen_in : (i : Side) (s : S) (x y : State) → SeenFrom (ConcretisesOneTyped p Inside) i s x y
      → SeenFrom (ConcretisesOneTyped p C) i s (Z x) (Z y)
  seen_in left s x y h = typed_in s x y h
  seen_in right s x y h = typed_in s y x h

  pub beside_in : (i : Side) (s : S) (m n : Memory) → ConcretisesOneBeside Inside i s m n
      → ConcretisesOneBeside C i s (R m) (R n)
  beside_in left s m n h = h
  beside_in right s m n h = h

  pub truth_in : (o : Order) (e : Expr) (m : Memory) (t : Bool) → IsTruth p o e m t → IsTruth p o e (R m) t
  truth_in o e m t h = record { found = h.found; has = (is_restricted o p).values e m ∙ h.has; is = h.is }

  pub over_in : (a b : Order) (r : Option (ℕ × Scalar)) (l : ℕ) (x y : State)
      → AreOverAlike (main_ends a p r l x) (main_ends b p r l y)
      → AreOverAlike (main_ends a p r l (Z x)) (main_ends b p r l (Z y))
  over_in a b r l x y h =
      let e = (is_restricted a p).ends r l x in
      let f = (is_restricted b p).ends r l y in
      record {
        left_over = ap (λ (z : Run). z.ending) e ∙ h.left_over;
        right_over = ap (λ (z : Run). z.ending) f ∙ h.right_over;
        outputs = ap (λ (z : Run). z.outputs) e ∙ h.outputs ∙ sym (ap (λ (z : Run). z.outputs) f);
      }

  -- ---- out of them

  pub beside_out : (i : Side) (m n : Memory) (u : Option S) → IsThere (λ r. ConcretisesOneBeside C i r (R m) (R n)) u
      → IsThere (λ r. ConcretisesOneBeside Inside i r m n) u
  beside_out left m n u h = h
  beside_out right m n u h = h

  left_out : (i : Side) (k : Way) (g : Transfer S) (y : State) (c : Outcome)
      → IfLeft k (λ r. TransferIsExact (λ t. ConcretisesOneBeside C i t r.memory (R y.memory)) g)
      (restricted_outcome p c)
      → IfLeft k (λ r. TransferIsExact (λ t. ConcretisesOneBeside Inside i t r.memory y.memory) g) c
  left_out left k g y (leaves w n x) h = h
  left_out left k g y (running x) h = h
  left_out left k g y (no_input x) h = h
  left_out left k g y (undefined_at l j x) h = h
  left_out right k g y (leaves w n x) h = h
  left_out right k g y (running x) h = h
  left_out right k g y (no_input x) h = h
  left_out right k g y (undefined_at l j x) h = h

  pub alone_out : (i : Side) (k : Way) (g : Transfer S) (y : State) (c d : Outcome) → d ≡ restricted_outcome p c
      → IfLeft k (λ r. TransferIsExact (λ t. ConcretisesOneBeside C i t r.memory (R y.memory)) g) d
      → IfLeft k (λ r. TransferIsExact (λ t. ConcretisesOneBeside Inside i t r.memory y.memory) g) c
  alone_out i k g y c d e h =
      left_out i k g y c
      (subst (IfLeft k (λ r. TransferIsExact (λ t. ConcretisesOneBeside C i t r.memory (R y.memory)) g)) e h)

  abbrev Reached : (S → Memory → Memory → Type 0) → Transfer S → State → State → Type 0
  Reached K g x y = x.outputs ≡ y.outputs → TransferIsExact (λ t. K t x.memory y.memory) g

  lefts_out : (k : Way) (g : Transfer S) (c d : Outcome)
      → IfBothLeft k (Reached C g) (restricted_outcome p c) (restricted_outcome p d)
      → IfBothLeft k (Reached Inside g) c d
  lefts_out k g (leaves w n x) (leaves v m y) h = h
  lefts_out k g (leaves w n x) (running y) h = h
  lefts_out k g (leaves w n x) (no_input y) h = h
  lefts_out k g (leaves w n x) (undefined_at l j y) h = h
  lefts_out k g (running x) d h = h
  lefts_out k g (no_input x) d h = h
  lefts_out k g (undefined_at l j x) d h = h

  pub both_out : (k : Way) (g : Transfer S) (c d c' d' : Outcome) → c' ≡ restricted_outcome p c
      → d' ≡ restricted_outcome p d
      → IfBothLeft k (λ x y. x.outputs ≡ y.outputs → TransferIsExact (λ t. C t x.memory y.memory) g) c' d'
      → IfBothLeft k (λ x y. x.outputs ≡ y.outputs → TransferIsExact (λ t. Inside t x.memory y.memory) g) c d
  both_out k g c d c' d' e f h =
      lefts_out k g c d
      (subst (λ z. IfBothLeft k (Reached C g) (restricted_outcome p c) z) f
      (subst (λ z. IfBothLeft k (Reached C g) z d') e h))

  pub killed_out : (o : Order) (i : Side) (s : S) (bs : List ℕ) (m n : Memory)
      → ConcretisesOneBeside C i s (killed bs (R m)) (R n) → ConcretisesOneBeside Inside i s (killed bs m) n
  killed_out o left s bs m n h = subst (λ z. C s z (R n)) (sym ((is_restricted o p).blocks bs m)) h
  killed_out o right s bs m n h = subst (λ z. C s (R n) z) (sym ((is_restricted o p).blocks bs m)) h

  pub killed_both : (o : Order) (s : S) (bs : List ℕ) (m n : Memory) → C s (killed bs (R m)) (killed bs (R n))
      → Inside s (killed bs m) (killed bs n)
  killed_both o s bs m n h =
      subst (λ z. C s z (R (killed bs n))) (sym ((is_restricted o p).blocks bs m))
      (subst (λ z. C s (killed bs (R m)) z) (sym ((is_restricted o p).blocks bs n)) h)
