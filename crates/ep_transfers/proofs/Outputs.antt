-- A value that is put out: without a fault each machine puts out one, and both the same.
use Rattle.std.proofs.Common.{◌≡◌, Bool, true, false, List, [], ◌∷◌, ◌++◌, Option, Some, None, is_some, refl, sym, ap}
use Rattle.std.proofs.Common.{◌∙◌}
use Rattle.std.proofs.lemmas.Bool.{and_from}
use Rattle.ep_int.specs.declared.types.Scalar.{Scalar}
use Rattle.ep_int.specs.declared.types.Order.{Order}
use Rattle.ep_int.specs.Memory.{Value as Datum, Found, has}
use Rattle.ep_domain.specs.Domain.{Ops, Lawful}
use Rattle.ep_cells.specs.declared.cell.Value.{Value}
use Rattle.ep_cells.specs.States.{Known}
use Rattle.ep_cells.specs.Meaning.{Memories, Allows, numbers_of}
use Rattle.ep_core.specs.Program.{Program}
use Rattle.ep_core.specs.Runs.{Side, left, right}
use Rattle.ep_equalities.specs.declared.pair.Mode.{Mode}
use Rattle.ep_equalities.specs.declared.pair.Mode.TheVariants.{Both}
use Rattle.ep_equalities.specs.declared.pair.PairValue.{PairValue}
use Rattle.ep_equalities.specs.Same.{is_same}
use Rattle.ep_equalities.proofs.Equal.{same_values}
use Rattle.ep_evaluation.specs.Given.{Given, on, runs}
use Rattle.ep_evaluation.specs.Laws.{Holds}
use Rattle.ep_evaluation.proofs.General.{reliable_none}
use Rattle.ep_transfers.specs.Places.{has_values}
use Rattle.ep_transfers.specs.Transfers.{if_goes_on, differ_faults, differs_if, put_out}

pub none_left : {A : Type 0} (xs ys : List A) → xs ++ ys ≡ [] → (xs ≡ []) × (ys ≡ [])
none_left [] ys e = (refl, e)
none_left (x ∷ xs) ys e = absurd (cc)

module _ {N : Type 0} (D : Ops N) (p : Program) (ord : Side → Order) (w : Scalar) (f : Side → Found) (k : Known N)
    (m : Memories) (mode : Mode)
    (x : Given N) (h : Holds D p ord w f k m mode x) where
  valued : (v : Option (Value N)) (d : Datum) → Allows D w v false (Some d) → is_some v ≡ true
  valued None d a = absurd (let q : Some d ≡ None = a in cc)
  valued (Some v) d a = refl

  -- each running side has a value
  pub side_valued : x.faults ≡ [] → (s : Side) → runs mode s ≡ true → is_some (on x.pair s).value ≡ true
  side_valued e s r =
      let v = h.found e s r in
      valued (on x.pair s).value v.0 (h.held (reliable_none mode x.faults e) s r v.0 v.1).value

  same_by : (t : Bool) (v : PairValue N) → differ_faults D t v ≡ [] → t ≡ true
  same_by true v e = refl
  same_by false v e = absurd (cc)

  faults_by : (t : Bool) → t ≡ true → differs_if D t Both x.pair ≡ [] → differ_faults D (is_same D x.pair) x.pair ≡ []
  faults_by true e h = h
  faults_by false e h = absurd (cc)

module _ {N : Type 0} (D : Ops N) (law : Lawful D) (p : Program) (ord : Side → Order) (w : Scalar) (f : Side → Found)
    (k : Known N) (m : Memories)
    (x : Given N) (h : Holds D p ord w f k m Both x) where
  pub both_valued : x.faults ≡ [] → has_values Both x.pair ≡ true
  both_valued e =
      and_from (is_some x.pair.left.value) (is_some x.pair.right.value)
      (side_valued D p ord w f k m Both x h e left refl)
      (side_valued D p ord w f k m Both x h e right refl)

  pub goes_on : x.faults ≡ [] → (put_out D Both x.pair k).next ≡ Some k
  goes_on e = ap (λ t. if_goes_on t k) (both_valued e)

  -- both put out one value
  pub outputs_alike : x.faults ≡ [] → (put_out D Both x.pair k).faults ≡ [] → (u : Datum) ×
      ((f left ≡ has u) × (f right ≡ has u))
  outputs_alike e q =
      let same : is_same D x.pair ≡ true =
      same_by D p ord w f k m Both x h (is_same D x.pair) x.pair
      (faults_by D p ord w f k m Both x h (has_values Both x.pair) (both_valued e) q) in
      let u = h.found e left refl in
      let v = h.found e right refl in
      let in_left = h.held (reliable_none Both x.faults e) left refl u.0 u.1 in
      let in_right = h.held (reliable_none Both x.faults e) right refl v.0 v.1 in
      let equal : u.0 ≡ v.0 = same_values D law x.pair same (numbers_of k.orders m) w u.0 v.0
      (record { left = λ r. in_left; right = λ r. in_right; equal = λ r t. h.same refl e t u.0 v.0 u.1 v.1 }) in
      (u.0, (u.1, v.1 ∙ ap has (sym equal)))
