-- What is read at the one place of an access.
use Rattle.std.proofs.Common.{◌≡◌, ℕ, true, false, ◌&&◌, ◌||◌, not, List, [], ◌∷◌, Option, Some, None, refl, sym, ap}
use Rattle.ep_int.proofs.Basics.{size_positive}
use Rattle.std.proofs.Common.{◌∙◌, subst}
use Rattle.std.specs.Option.{option_map_or}
use Rattle.ep_int.specs.declared.types.Scalar.{Scalar}
use Rattle.ep_int.specs.Types.{size_of}
use Rattle.ep_int.specs.Memory.{Value as Datum}
use Rattle.ep_domain.specs.Domain.{Ops, Lawful}
use Rattle.ep_cells.specs.declared.cell.Value.{Value}
use Rattle.ep_cells.specs.States.{Known}
use Rattle.ep_cells.specs.Meaning.{Memories, Allows}
use Rattle.ep_reads.specs.declared.read.ReadValue.{ReadValue}
use Rattle.ep_reads.specs.Read.{read}
use Rattle.ep_core.specs.Runs.{Side, left, right}
use Rattle.ep_equalities.specs.declared.pair.SideValue.{SideValue}
use Rattle.ep_evaluation.specs.Given.{cells_of}
use Rattle.ep_evaluation.specs.Accesses.{reads_of, joined_reads, is_unset, is_mixed}
use Rattle.ep_evaluation.specs.Evaluation.{reads_at, load_side}
use Rattle.ep_singles.specs.Cells.{IsOneValue, IsOne}
use Rattle.ep_singles.specs.Laws.{IsMachine, Finds, IsReadAs, ReadsAreOne}
use Rattle.ep_single_places.specs.Laws.{IsPlaceFor, IsOneInto, IsOneLoad}
use Rattle.ep_single_places.proofs.Places.{accesses_are_one}

machine : (s : Side) → IsMachine (cells_of s)
machine left = tt
machine right = tt

module _ {N : Type 0} (D : Ops N) where
  valued : (o : Option (Value N)) → IsOneValue D o → option_map_or (λ v. false) o true ≡ false
  valued None i = elim i [ ]
  valued (Some v) i = refl

  -- what is read without a doubt
  one_unset : (w : Scalar) (r : ReadValue N) (v : Datum) → IsReadAs D w r v → is_unset (r ∷ []) ≡ false
  one_unset w r v h =
      ap (λ t. (t || (option_map_or (λ v. false) r.value true && not r.mixed)) || false) h.sure
      ∙ ap (λ t. (t && not r.mixed) || false) (valued r.value h.one)

  one_unmixed : (w : Scalar) (r : ReadValue N) (v : Datum) → IsReadAs D w r v → is_mixed (r ∷ []) ≡ false
  one_unmixed w r v h = ap (λ t. t || false) h.unmixed

  pub loads_are_one : Lawful D → ReadsAreOne D → (k : Known N) (m : Memories) → IsOne D k m → (s : Side) (w : Scalar)
      (sizes : List ℕ) (x : SideValue N) (b q : ℕ) → IsOneInto D x.value b q
      → IsPlaceFor sizes b q (size_of k.model w) → (v : Datum) → Finds k m (cells_of s) b q w v
      → IsOneLoad D sizes w k x s v
  loads_are_one law reads k m one s w sizes x b q i at v f =
      let r = reads k m one (cells_of s) (machine s) b q w v f in
      let a = accesses_are_one D law sizes (size_of k.model w) x b q i (size_positive k.model w) at in
      let e : reads_at D sizes w k x s ≡ read D k (cells_of s) b q w ∷ []
      = ap (λ qs. reads_of D k (cells_of s) w qs) a.place in
      let y : (load_side D sizes w k x s).value ≡ (read D k (cells_of s) b q w).value = ap (joined_reads D) e in
      record {
        set = ap is_unset e ∙ one_unset w (read D k (cells_of s) b q w) v r;
        unmixed = ap is_mixed e ∙ one_unmixed w (read D k (cells_of s) b q w) v r;
        one = subst (IsOneValue D) (sym y) r.one;
        allowed = subst (λ (o : Option (Value N)). Allows D w o false (Some v)) (sym y) r.allowed;
      }
