-- A result is loaded, converted, and goes to its place.
use Rattle.std.proofs.Common.{◌≡◌, ℕ, true, List, [], ◌++◌, Option, Some, None, refl, sym, ap, ◌∙◌, subst, append_assoc}
use Rattle.ep_int.specs.declared.types.Scalar.{Scalar}
use Rattle.ep_int.specs.declared.types.Scalar.TheVariants.{Int, Pointer}
use Rattle.ep_domain.specs.Domain.{Ops}
use Rattle.ep_cells.specs.States.{Known, AreCells}
use Rattle.ep_cell_ranges.specs.Ranges.{Form}
use Rattle.ep_cell_ranges.specs.Follow.{FormFits}
use Rattle.ep_core.specs.Program.{Dest, Function, Program}
use Rattle.ep_core.specs.Runs.{Side}
use Rattle.ep_core.specs.WellFormed.{is_well_formed}
use Rattle.ep_equalities.specs.declared.pair.Fault.{Fault}
use Rattle.ep_equalities.specs.declared.pair.Mode.{Mode}
use Rattle.ep_equalities.specs.declared.pair.PairValue.{PairValue}
use Rattle.ep_eval_sides.specs.Sides.{faultless}
use Rattle.ep_evaluation.specs.Evaluation.{place}
use Rattle.ep_evaluation.specs.Given.{Given, on}
use Rattle.ep_evaluation.specs.Laws.{IsState}
use Rattle.ep_transfers.specs.Calls.{loaded_result, received_as, result_step}
use Rattle.ep_transfers.specs.Transfers.{Stepped, stepped, sizes, with_two, assigned}
use Rattle.ep_transfers.specs.Statements.{Each}
use Rattle.ep_transfer_calls.specs.Waiting.{IsWideAs}
use Rattle.ep_transfer_calls.proofs.Found.{order_of}
use Rattle.ep_transfer_stores.specs.Waiting.{SideFits}
use Rattle.ep_transfers.specs.WaitingLaws.{WaitingHolds}
use Rattle.ep_transfers.specs.Taken.{AreTaken}

-- a form that fits is as wide as its type
pub wide_as : {N : Type 0} (k : Known N) (w : Scalar) (f : Form) → FormFits k.cells w f → IsWideAs w f
wide_as k (Int t) None h = tt
wide_as k (Int t) (Some ss) h = sym h.wide
wide_as k Pointer f h = tt

module _ {N : Type 0} (D : Ops N) (p : Program) (m : Mode) where
  pair_as : (old new : Scalar) (x : Given N)
      → (received_as D p old new m (faultless x.pair)).pair ≡ (received_as D p old new m x).pair
  pair_as (Int u) (Int t) x = refl
  pair_as (Int u) Pointer x = refl
  pair_as Pointer (Int t) x = refl
  pair_as Pointer Pointer x = refl

  faults_as : (old new : Scalar) (x : Given N) → (received_as D p old new m x).faults ≡ x.faults
  faults_as (Int u) (Int t) x = refl
  faults_as (Int u) Pointer x = refl
  faults_as Pointer (Int t) x = refl
  faults_as Pointer Pointer x = refl

  module _ (old_type new_type : Scalar) (x : Given N) (given v : PairValue N) (given_is : given ≡ x.pair)
      (v_is : v ≡ (received_as D p old_type new_type m (faultless given)).pair) where
    pub taken_is : v ≡ (received_as D p old_type new_type m x).pair
    taken_is =
        v_is ∙ ap (λ z. (received_as D p old_type new_type m (faultless z)).pair) given_is
        ∙ pair_as old_type new_type x

    module _ (y : Given N) (go : PairValue N → PairValue N → Stepped N) (to : PairValue N) (to_is : to ≡ y.pair) where
      pub taken_next : (r : Option (Known N)) → r ≡ (go v to).next
          → r ≡ (with_two (received_as D p old_type new_type m x) y go).next
      taken_next r h =
          h ∙ ap (λ z. (go z to).next) taken_is
          ∙ ap (λ z. (go (received_as D p old_type new_type m x).pair z).next) to_is

      pub taken_faults : (old one two all : List Fault) → one ≡ old ++ x.faults → two ≡ one ++ y.faults
          → all ≡ two ++ (go v to).faults
          → all ≡ old ++ (with_two (received_as D p old_type new_type m x) y go).faults
      taken_faults old one two all e f h =
          let w = (received_as D p old_type new_type m x).pair in
          h ∙ ap (λ z. two ++ (go z to).faults) taken_is ∙ ap (λ z. two ++ (go w z).faults) to_is
          ∙ ap (λ fs. fs ++ (go w y.pair).faults)
          (f ∙ ap (λ fs. fs ++ y.faults) (e ∙ ap (λ fs. old ++ fs) (sym (faults_as old_type new_type x)))
          ∙ append_assoc old (received_as D p old_type new_type m x).faults y.faults)
          ∙ append_assoc old ((received_as D p old_type new_type m x).faults ++ y.faults) (go w y.pair).faults

  -- what is received may be written
  pub received_fits : Each (WaitingHolds D) → is_well_formed p ≡ true → (r : ℕ × Scalar) (w : Scalar)
      → AreTaken r.1 w → (k : Known N) → k.model ≡ p.types.model → AreCells k.model k.cells → (s : Side)
      → (v : PairValue N) → v ≡ (received_as D p r.1 w m (loaded_result D p m r k)).pair → SideFits k w (on v s)
  received_fits waiting formed r w t k model cells s v e =
      let ord = order_of k.orders in
      let i : IsState D p ord k = record { orders = refl; model = model; cells = cells } in
      let f = (waiting p ord formed).received r.0 r.1 w t k i m s in
      subst (λ (z : PairValue N). SideFits k w (on z s)) (sym e) (record { sort = f.sort; form = f.form })

  -- ---- where there is a place

  module _ (f : Function) (d : Dest) (k : Known N) where
    pub no_result : f.result ≡ None → result_step D p m f (Some d) k ≡ stepped [] None
    no_result e = rw e refl

    pub some_result : (r : ℕ × Scalar) → f.result ≡ Some r
        → result_step D p m f (Some d) k
        ≡ with_two (received_as D p r.1 d.what m (loaded_result D p m r k)) (place D (sizes D p) d.place m k)
        (λ v to. assigned D (sizes D p) m d.what to v k)
    some_result r e = rw e refl
