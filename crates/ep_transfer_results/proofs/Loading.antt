-- What is loaded from the block of a result.
use Rattle.std.proofs.Common.{◌≡◌, ℕ, ◌≤◌, pos, Bool, false, ◌&&◌, List, [], ◌∷◌, ◌++◌, length, arith, refl, sym, ap}
use Rattle.std.proofs.Common.{◌∙◌, subst}
use Rattle.std.specs.List.{list_all}
use Rattle.ep_int.specs.declared.types.Order.{Order}
use Rattle.ep_int.specs.declared.types.Scalar.{Scalar}
use Rattle.ep_domain.specs.Domain.{Ops, Lawful}
use Rattle.ep_pointers.specs.Value.{one_target}
use Rattle.ep_cells.specs.States.{Known, AreCells}
use Rattle.ep_reads.specs.Laws.{ReadLaws}
use Rattle.ep_core.specs.Program.{Program}
use Rattle.ep_core.specs.Runs.{Side, left, right}
use Rattle.ep_equalities.specs.declared.pair.Mode.{Mode}
use Rattle.ep_equalities.specs.declared.pair.Mode.TheVariants.{Both}
use Rattle.ep_equalities.specs.declared.pair.Fault.{Fault}
use Rattle.ep_equalities.specs.declared.pair.PairValue.{PairValue}
use Rattle.ep_equalities.specs.Same.{is_same}
use Rattle.ep_evaluation.specs.Given.{Given, on}
use Rattle.ep_evaluation.specs.Evaluation.{load_given, pointer_given}
use Rattle.ep_evaluation.specs.Laws.{IsState}
use Rattle.ep_evaluation.proofs.LoadCell.{load_fits}
use Rattle.ep_eval_sides.specs.Sides.{faultless}
use Rattle.ep_transfers.specs.Places.{has_values}
use Rattle.ep_transfers.specs.Transfers.{sizes, differ_faults}
use Rattle.ep_transfers.specs.Calls.{loaded_result}
use Rattle.ep_transfers.specs.Ends.{is_sure_result}
use Rattle.ep_transfer_writes.specs.Waiting.{SideFits}

abbrev order_of : Order × Order → Side → Order
order_of os left = os.0
order_of os right = os.1

module _ {N : Type 0} (D : Ops N) (p : Program) (m : Mode) (r : ℕ × Scalar) (k : Known N) where
  abbrev pub place : Given N
  place = pointer_given D (one_target r.0 (D.single (pos 0))) m

  pub loaded_pair : (zs : List ℕ) (x v : PairValue N) → zs ≡ sizes D p → x ≡ place.pair
      → v ≡ (load_given D zs r.1 m k (faultless x)).pair → v ≡ (loaded_result D p m r k).pair
  loaded_pair zs x v e f h =
      h ∙ ap (λ y. (load_given D zs r.1 m k (faultless y)).pair) f
      ∙ ap (λ z. (load_given D z r.1 m k place).pair) e

  pub loaded_faults : (zs : List ℕ) (x : PairValue N) (old new : List Fault) → zs ≡ sizes D p → x ≡ place.pair
      → new ≡ old ++ (load_given D zs r.1 m k (faultless x)).faults
      → new ≡ old ++ (loaded_result D p m r k).faults
  loaded_faults zs x old new e f h =
      h ∙ ap (λ y. old ++ (load_given D zs r.1 m k (faultless y)).faults) f
      ∙ ap (λ z. old ++ (load_given D z r.1 m k place).faults) e

  pub loaded_fits : Lawful D → ReadLaws D → k.model ≡ p.types.model → AreCells k.model k.cells → (s : Side)
      (v : PairValue N) → v ≡ (loaded_result D p m r k).pair → SideFits k r.1 (on v s)
  loaded_fits law reads e c s v h =
      let ord = order_of k.orders in
      let i : IsState D p ord k = record { orders = refl; model = e; cells = c } in
      let f = load_fits D law reads p ord r.1 k i m place s in
      subst (λ (z : PairValue N). SideFits k r.1 (on z s)) (sym h) (record { sort = f.sort; form = f.form })

-- main's result compared
pub compared : {N : Type 0} (D : Ops N) (p : Program) (x : Given N) (v : PairValue N) (own : List Fault) (sure : Bool)
    (old new : List Fault) → v ≡ x.pair → own ≡ x.faults
    → sure ≡ (is_same D v && (has_values Both v && list_all (λ (f : Fault). false) own))
    → new ≡ old ++ differ_faults D sure v
    → new ≡ old ++ differ_faults D (is_sure_result D p x) x.pair
compared D p x v own sure old new e f g h =
    h ∙ ap (λ t. old ++ differ_faults D t v) g
    ∙ ap (λ gs. old ++ differ_faults D (is_same D v && (has_values Both v && list_all (λ (f : Fault). false) gs)) v) f
    ∙ ap (λ z. old ++ differ_faults D
    (is_same D z && (has_values Both z && list_all (λ (f : Fault). false) x.faults)) z) e

pub not_quiet : (fs : List Fault) → 1 ≤ length fs → false ≡ list_all (λ (f : Fault). false) fs
not_quiet [] h = absurd (omega (arith, h))
not_quiet (f ∷ fs) h = refl
