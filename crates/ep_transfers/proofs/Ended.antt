-- Main's result is compared at its end: without a fault both machines put out the same.
use Rattle.std.proofs.Common.{◌≡◌, ℕ, ℤ, true, false, ◌&&◌, List, [], ◌∷◌, ◌++◌, Option, Some, None, refl, sym}
use Rattle.ep_transfers.proofs.BytesOut.{no_differ}
use Rattle.std.proofs.Common.{ap, ◌∙◌}
use Rattle.std.specs.List.{list_all}
use Rattle.std.proofs.lemmas.Bool.{and_parts}
use Rattle.ep_int.specs.declared.types.IntType.TheVariants.{I32}
use Rattle.ep_int.specs.declared.types.Order.{Order}
use Rattle.ep_int.specs.declared.types.Scalar.{Scalar}
use Rattle.ep_int.specs.declared.types.Scalar.TheVariants.{Int, Pointer}
use Rattle.ep_int.specs.Memory.{int, Found, has}
use Rattle.ep_domain.specs.Domain.{Ops}
use Rattle.ep_cells.specs.States.{Known}
use Rattle.ep_cells.specs.Meaning.{numbers_of}
use Rattle.ep_core.specs.Program.{Function, Program}
use Rattle.ep_core.specs.Exec.{State, Output}
use Rattle.ep_core.specs.Runs.{Side, left, right, result_out, main_ends}
use Rattle.ep_core.specs.WellFormed.{is_int_result, blocks_fit}
use Rattle.ep_core.proofs.Sorts.{same_scalar}
use Rattle.ep_pass.specs.Laws.{ConcretisesTyped, EndAlike}
use Rattle.ep_equalities.specs.declared.pair.Mode.TheVariants.{Both}
use Rattle.ep_equalities.specs.declared.pair.Fault.{Fault}
use Rattle.ep_equalities.specs.Same.{is_same}
use Rattle.ep_equalities.proofs.Equal.{same_values}
use Rattle.ep_evaluation.specs.Laws.{ExpressionsHold, PlacesHold}
use Rattle.ep_evaluation.proofs.General.{is_int, reliable_none}
use Rattle.ep_transfers.specs.Places.{has_values}
use Rattle.ep_transfers.specs.Transfers.{differ_faults}
use Rattle.ep_transfers.specs.Calls.{loaded_result}
use Rattle.ep_transfers.specs.Ends.{is_sure_result, ended_faults}
use Rattle.ep_transfers.specs.Laws.{memories, StandsFor, CellLaws}
use Rattle.ep_transfers.proofs.Evaluated.{kept_both}
use Rattle.ep_transfers.proofs.Results.{result_is}

none_listed : (fs : List Fault) → list_all (λ (f : Fault). false) fs ≡ true → fs ≡ []
none_listed [] e = refl
none_listed (f ∷ fs) e = absurd (cc)

-- both put out one number
same_end : (x y : State) (l : ℕ) (a b : Found) (z : ℤ) → x.outputs ≡ y.outputs → a ≡ has (int z) → b ≡ has (int z)
    → EndAlike (result_out a l x) (result_out b l y)
same_end x y l a b z o ea eb =
    rw (ea, eb)
    (record {
      defined = tt;
      ending = refl;
      outputs = ap (λ (os : List Output). os ++ record { t = I32; value = z } ∷ []) o;
    })

module _ {N : Type 0} (D : Ops N) (laws : CellLaws D) (p : Program) (ord : Side → Order)
    (fit : blocks_fit p.types p.blocks ≡ true)
    (exprs : ExpressionsHold D p ord) (plcs : PlacesHold D p ord) where
  result_ends : (b : ℕ) (w : Scalar) → w ≡ Int I32 → (k : Known N) (x y : State) → ConcretisesTyped p (StandsFor D p ord) k x y
      → differ_faults D (is_sure_result D p (loaded_result D p Both (b, w) k)) (loaded_result D p Both (b, w) k).pair
      ≡ [] → (l : ℕ)
      → EndAlike (main_ends (ord left) p (Some (b, w)) l x) (main_ends (ord right) p (Some (b, w)) l y)
  result_ends b Pointer e k x y kept q l = absurd (cc)
  result_ends b (Int t) e k x y kept q l =
      let m = memories x.memory y.memory in
      let v = loaded_result D p Both (b, Int t) k in
      let s = no_differ D (is_sure_result D p v) v.pair q in
      let h = and_parts (is_same D v.pair) (has_values Both v.pair && list_all (λ (f : Fault). false) v.faults) s in
      let g = and_parts (has_values Both v.pair) (list_all (λ (f : Fault). false) v.faults) h.1 in
      let none = none_listed v.faults g.1 in
      let a = result_is D laws p ord fit exprs plcs (b, Int t) k m (kept_both D p ord k x y kept) Both in
      let fl = a.holds.found none left refl in
      let fr = a.holds.found none right refl in
      let hl = a.holds.held (reliable_none Both v.faults none) left refl fl.0 fl.1 in
      let hr = a.holds.held (reliable_none Both v.faults none) right refl fr.0 fr.1 in
      let equal : fl.0 ≡ fr.0 = same_values D laws.domain v.pair h.0 (numbers_of k.orders m) (Int t) fl.0 fr.0
      (record { left = λ r. hl; right = λ r. hr; equal = λ r z. a.holds.same refl none z fl.0 fr.0 fl.1 fr.1 }) in
      let i = is_int D t v.pair.left.value fl.0 hl.value in
      same_end x y l _ _ i.z kept.stands.outputs (fl.1 ∙ ap has i.datum) (fr.1 ∙ ap has (sym equal ∙ i.datum))

  pub ended_sound : (f : Function) → is_int_result f.result ≡ true → (k : Known N) (x y : State) → ConcretisesTyped p
      (StandsFor D p ord) k x y
      → ended_faults D p f k ≡ [] → EndAlike (main_ends (ord left) p f.result f.line x)
      (main_ends (ord right) p f.result f.line y)
  ended_sound f i k x y kept q = by_result f.result i q
    where
      by_result : (o : Option (ℕ × Scalar)) → is_int_result o ≡ true → ended_faults D p (record f { result = o }) k ≡ []
          → EndAlike (main_ends (ord left) p o f.line x) (main_ends (ord right) p o f.line y)
      by_result None i q = absurd (cc)
      by_result (Some r) i q = result_ends r.0 r.1 (same_scalar r.1 (Int I32) i) k x y kept q f.line
