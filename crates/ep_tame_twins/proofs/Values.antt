-- What each target of a value has.
use Rattle.std.proofs.Common.{◌≡◌, ℕ, Bool, false, List, [], ◌∷◌, slice_get, Option, Some, None, IfSome, refl}
use Rattle.std.specs.Prelude.{option_map, option_and_then}
use Rattle.ep_int.specs.declared.types.Scalar.{Scalar}
use Rattle.ep_int.specs.declared.types.Scalar.TheVariants.{Int, Pointer}
use Rattle.ep_domain.specs.Domain.{Ops}
use Rattle.ep_pointers.specs.Value.{Target, Pointers}
use Rattle.ep_pointers.specs.declared.sum.Move.{Move}
use Rattle.ep_pointers.specs.Sum.{of_targets, move, moved_offset, moved_targets}
use Rattle.ep_cells.specs.declared.cell.Value.{Value}
use Rattle.ep_cells.specs.declared.cell.Value.TheVariants.{Num, Ptr}
use Rattle.ep_core.specs.Exec.{greatest_offset}
use Rattle.ep_reads.specs.Read.{converted}
use Rattle.ep_evaluation.specs.Operators.{number_in, pointer_in}
use Rattle.ep_evaluation.specs.Accesses.{element_targets, element_of, index_in, moved_by}
use Rattle.ep_evaluation.specs.Evaluation.{targets_of}
use Rattle.ep_tame_values.specs.Offsets.{EachTarget}
use Rattle.ep_tame_values.proofs.Targets.{put_each, moved_each}
use Rattle.ep_tame_states.specs.States.{ValueHas}

module _ {N : Type 0} where
  each_as : (P Q : ℕ → N → Type 0) → ((b : ℕ) (n : N) → P b n → Q b n) → (ts : List (Target N)) → EachTarget P ts
      → EachTarget Q ts
  each_as P Q go [] h = tt
  each_as P Q go (t ∷ ts) h = (go t.0 t.1 h.0, each_as P Q go ts h.1)

  pub value_as : (P Q : ℕ → N → Type 0) → ((b : ℕ) (n : N) → P b n → Q b n) → (v : Option (Value N)) → ValueHas P v
      → ValueHas Q v
  value_as P Q go None h = tt
  value_as P Q go (Some (Num n)) h = tt
  value_as P Q go (Some (Ptr q)) h = each_as P Q go q.targets h

  pub targets_have : (D : Ops N) (sizes : List ℕ) (P : ℕ → N → Type 0) (v : Option (Value N)) → ValueHas P v
      → EachTarget P (targets_of D sizes (pointer_in v))
  targets_have D sizes P None h = tt
  targets_have D sizes P (Some (Num n)) h = tt
  targets_have D sizes P (Some (Ptr q)) h = h

  of_targets_have : (P : ℕ → N → Type 0) (ts : List (Target N)) → EachTarget P ts
      → ValueHas P (option_map Ptr (of_targets ts))
  of_targets_have P [] h = tt
  of_targets_have P (t ∷ ts) h = h

  pub converted_has : (D : Ops N) (P : ℕ → N → Type 0) (w : Scalar) (v : Option (Value N)) → ValueHas P v
      → ValueHas P (option_map (converted D w) v)
  converted_has D P w None h = tt
  converted_has D P (Int t) (Some (Num n)) h = tt
  converted_has D P Pointer (Some (Num n)) h = tt
  converted_has D P (Int t) (Some (Ptr q)) h = h
  converted_has D P Pointer (Some (Ptr q)) h = h

  -- a pointer that is moved
  pub moved_has : (D : Ops N) (P Q : ℕ → N → Type 0) (sizes : List ℕ) (u : ℕ) (back : Bool)
      (v : Option (Value N)) (o : Option N)
      → ((n : N) → o ≡ Some n → (b : ℕ) (m : N) → P b m
      → IfSome (moved_offset D (move n u back) (slice_get sizes b) m) (Q b))
      → ValueHas P v → ValueHas Q (option_map Ptr (moved_by D sizes u back (pointer_in v) o))
  moved_has D P Q sizes u back None o go h = tt
  moved_has D P Q sizes u back (Some (Num n)) o go h = tt
  moved_has D P Q sizes u back (Some (Ptr q)) None go h = tt
  moved_has D P Q sizes u back (Some (Ptr q)) (Some n) go h =
      of_targets_have Q (moved_targets D (move n u back) sizes q.targets)
      (moved_each D P Q (move n u back) sizes (go n refl) q.targets h)

  -- an element
  elements_each : (D : Ops N) (P Q : ℕ → N → Type 0) (m : Move N)
      → ((b : ℕ) (n : N) → P b n → IfSome (moved_offset D m (Some greatest_offset) n) (Q b)) → (ts : List (Target N))
      → EachTarget P ts → EachTarget Q (element_targets D m ts)
  elements_each D P Q m go [] h = tt
  elements_each D P Q m go (t ∷ ts) h =
      put_each Q t.0 (moved_offset D m (Some greatest_offset) t.1) (element_targets D m ts) (go t.0 t.1 h.0)
      (elements_each D P Q m go ts h.1)

  pub element_has : (D : Ops N) (P Q : ℕ → N → Type 0) (bound u : ℕ) (v w : Option (Value N))
      → ((n i : N) → index_in D bound n ≡ Some i → (b : ℕ) (m : N) → P b m
      → IfSome (moved_offset D (move i u false) (Some greatest_offset) m) (Q b))
      → ValueHas P v → ValueHas Q (option_map Ptr (element_of D bound u (pointer_in v) (number_in w)))
  element_has D P Q bound u None w go h = tt
  element_has D P Q bound u (Some (Num n)) w go h = tt
  element_has D P Q bound u (Some (Ptr q)) None go h = tt
  element_has D P Q bound u (Some (Ptr q)) (Some (Ptr r)) go h = tt
  element_has D P Q bound u (Some (Ptr q)) (Some (Num n)) go h = by_index (index_in D bound n) refl
    where
      by_index : (o : Option N) → index_in D bound n ≡ o
          → ValueHas Q (option_map Ptr (option_and_then (λ i. of_targets (element_targets D (move i u false) q.targets))
          o))
      by_index None e = tt
      by_index (Some i) e =
          of_targets_have Q (element_targets D (move i u false) q.targets)
          (elements_each D P Q (move i u false) (go n i e) q.targets h)
