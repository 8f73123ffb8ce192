-- Bytes that are put out one after another.
use Rattle.std.proofs.Common.{◌≡◌, ℕ, suc, ◌+◌, ◌-◌, ◌<◌, Bool, true, false, ◌&&◌, List, ◌++◌, None, Some, refl, sym}
use Rattle.std.proofs.Common.{ap, ◌∙◌, append_assoc, arith}
use Rattle.std.proofs.lemmas.List.{append-nil}
use Rattle.ep_domain.specs.Domain.{Ops}
use Rattle.ep_alarms.specs.declared.types.AlarmKind.TheVariants.{U4, U10}
use Rattle.ep_cells.specs.States.{Known}
use Rattle.ep_cell_ranges.specs.Spots.{Spot}
use Rattle.ep_core.specs.Runs.{Side, left, right}
use Rattle.ep_equalities.specs.declared.pair.Fault.{Fault}
use Rattle.ep_equalities.specs.declared.pair.Mode.{Mode}
use Rattle.ep_equalities.specs.declared.pair.Mode.TheVariants.{Both, Left, Right}
use Rattle.ep_equalities.specs.declared.pair.PairValue.{PairValue}
use Rattle.ep_evaluation.specs.Given.{cells_of, shown_if, faults_on, pair_on}
use Rattle.ep_evaluation.specs.Accesses.{is_unset, is_mixed}
use Rattle.ep_eval_sides.specs.Sides.{pick}
use Rattle.ep_eval_loads.specs.declared.loads.SideReads.{SideReads}
use Rattle.ep_eval_loads.proofs.LoadSteps.{shown_is}
use Rattle.ep_transfers.specs.Places.{Places, at_side, on_all, moved_spots}
use Rattle.ep_transfers.specs.Transfers.{Stepped, stepped, after_faults, bytes_out, byte_pair, byte_reads}
use Rattle.ep_transfers.specs.Transfers.{byte_faults, differs}
use Rattle.ep_transfer_outputs.specs.Bytes.{AreReads, goes_on, next_faults}

module _ {N : Type 0} (D : Ops N) (m : Mode) (same : Bool) (k : Known N) (p : Places) where
  abbrev pub here : (byte : ℕ) → Side → List Spot
  here i s = moved_spots i (at_side p s)

  -- what both sides read, as a pair
  pub pair_is : (i : ℕ) (x y : SideReads N) → AreReads D k (cells_of left) (here i left) x
      → AreReads D k (cells_of right) (here i right) y → (both : Bool) → both ≡ on_all m (pick x.shared y.shared)
      → (v : PairValue N) → v ≡ pair_on m (pick x.side y.side) (same && both) → v ≡ byte_pair D m same k p i
  pair_is i x y h g both e v f = f ∙ by_mode m e
    where
      by_mode : (n : Mode) → both ≡ on_all n (pick x.shared y.shared)
          → pair_on n (pick x.side y.side) (same && both) ≡ byte_pair D n same k p i
      by_mode Both e = rw (e, h.side, g.side, h.shared, g.shared) refl
      by_mode Left e = rw (e, h.side, h.shared) refl
      by_mode Right e = rw (e, g.side, g.shared) refl

  pub faults_are : (i : ℕ) (x y : SideReads N) → AreReads D k (cells_of left) (here i left) x
      → AreReads D k (cells_of right) (here i right) y
      → faults_on m U4 (pick (shown_if x.unset) (shown_if y.unset))
      ++ faults_on m U10 (pick (shown_if x.mixed) (shown_if y.mixed)) ≡ byte_faults D m k p i
  faults_are i x y h g =
      ap (λ fs. fs ++ faults_on m U10 (pick (shown_if x.mixed) (shown_if y.mixed)))
      (shown_is m U4 (λ s. is_unset (byte_reads D k p i s)) x.unset y.unset h.unset g.unset)
      ∙ ap (λ fs. faults_on m U4 (λ s. shown_if (is_unset (byte_reads D k p i s))) ++ fs)
      (shown_is m U10 (λ s. is_mixed (byte_reads D k p i s)) x.mixed y.mixed h.mixed g.mixed)

  -- ---- in turn

  -- a byte that a side lacks ends it
  pub ends : (i n : ℕ) → goes_on D m same k p i ≡ false
      → bytes_out D m same k p i (suc n) ≡ stepped (next_faults D m same k p i) None
  ends i n e = rw e refl

  -- with one that they have it goes on
  pub goes : (i n : ℕ) → goes_on D m same k p i ≡ true
      → bytes_out D m same k p i (suc n)
      ≡ after_faults (next_faults D m same k p i) (bytes_out D m same k p (i + 1) n)
  goes i n e = rw e (ap (λ fs. stepped fs (bytes_out D m same k p (i + 1) n).next)
      (sym (append_assoc (byte_faults D m k p i) (differs D m (byte_pair D m same k p i))
      (bytes_out D m same k p (i + 1) n).faults)))

  less_one : (i n : ℕ) → i < n → n - i ≡ suc (n - (i + 1))
  less_one i n l = omega (arith, l)

  -- what is left, as faults that are there and what comes of the rest
  abbrev pub Rest : (fs : List Fault) → (i n : ℕ) → Stepped N
  Rest fs i n = after_faults fs (bytes_out D m same k p i (n - i))

  pub more : (fs gs : List Fault) (i n : ℕ) (all : Stepped N) → i < n → goes_on D m same k p i ≡ true
      → gs ≡ fs ++ next_faults D m same k p i → Rest fs i n ≡ all → Rest gs (i + 1) n ≡ all
  more fs gs i n all l e h a =
      ap (λ x. after_faults x (bytes_out D m same k p (i + 1) (n - (i + 1)))) h
      ∙ ap (λ x. stepped x (bytes_out D m same k p (i + 1) (n - (i + 1))).next)
      (append_assoc fs (next_faults D m same k p i) (bytes_out D m same k p (i + 1) (n - (i + 1))).faults)
      ∙ ap (after_faults fs) (sym (goes i (n - (i + 1)) e))
      ∙ ap (λ j. after_faults fs (bytes_out D m same k p i j)) (sym (less_one i n l))
      ∙ a

  pub stops : (fs gs : List Fault) (i n : ℕ) (all : Stepped N) → i < n → goes_on D m same k p i ≡ false
      → gs ≡ fs ++ next_faults D m same k p i → Rest fs i n ≡ all → stepped gs None ≡ all
  stops fs gs i n all l e h a =
      ap (λ x. stepped x None) h
      ∙ ap (after_faults fs) (sym (ends i (n - (i + 1)) e))
      ∙ ap (λ j. after_faults fs (bytes_out D m same k p i j)) (sym (less_one i n l))
      ∙ a

  pub over : (fs : List Fault) (i n : ℕ) (all : Stepped N) → i ≡ n → Rest fs i n ≡ all
      → stepped fs (Some k) ≡ all
  over fs i n all e a =
      ap (λ x. stepped x (Some k)) (sym (append-nil fs))
      ∙ ap (λ j. after_faults fs (bytes_out D m same k p i j)) (let z : 0 ≡ n - i = omega (arith, e) in z)
      ∙ a
