-- Statements that store a value, put one out, or only evaluate: what is known after them stands for the machines after
-- them.
use Rattle.std.proofs.Common.{◌≡◌, ℕ, pos, true, ◌&&◌, List, [], ◌++◌, Option, Some, is_some, refl, sym, ap, subst}
use Rattle.std.proofs.lemmas.Bool.{and_parts}
use Rattle.ep_int.specs.declared.types.IntType.{IntType}
use Rattle.ep_int.specs.declared.types.Order.{Order}
use Rattle.ep_int.specs.declared.types.Scalar.{Scalar}
use Rattle.ep_int.specs.declared.types.Scalar.TheVariants.{Int, Pointer}
use Rattle.ep_int.specs.Memory.{Memory, Value as Datum, pointer, has}
use Rattle.ep_domain.specs.Domain.{Ops}
use Rattle.ep_pointers.specs.Value.{one_target}
use Rattle.ep_cells.specs.States.{Known}
use Rattle.ep_cells.specs.Meaning.{Memories}
use Rattle.ep_core.specs.Program.{Expr, Place, eval, assign, output, returns, Program}
use Rattle.ep_core.specs.Exec.{State, on, returned, uncounted, value, address, does}
use Rattle.ep_core.specs.Runs.{Side, left, right}
use Rattle.ep_core.specs.Typed.{scalar_of}
use Rattle.ep_core.specs.WellFormed.{Sort, integer, has_scalar, ty_at, has_sort, has_type, place_has, some_type}
use Rattle.ep_core.specs.WellFormed.{is_tested, int_type_of, blocks_fit}
use Rattle.ep_core.proofs.Sorts.{type_where, typed_where, tested_where, sort_scalar}
use Rattle.ep_pass.specs.Laws.{ConcretisesTyped, ConcretisesTypedBeside, Meets, meet, MeetsAlone, meet_alone}
use Rattle.ep_equalities.specs.declared.pair.Mode.{Mode}
use Rattle.ep_equalities.specs.declared.pair.Mode.TheVariants.{Both, Left, Right}
use Rattle.ep_evaluation.specs.Given.{Given, alone, runs}
use Rattle.ep_evaluation.specs.Given.{on as on_side}
use Rattle.ep_evaluation.specs.Evaluation.{expression, pointer_given}
use Rattle.ep_evaluation.specs.Evaluation.{place as place_means}
use Rattle.ep_evaluation.specs.Laws.{Machine, memory_of, sizes_of, IsKept, ExpressionsHold, PlacesHold}
use Rattle.ep_evaluation.proofs.General.{none_left}
use Rattle.ep_evaluation.proofs.Leaves.{block_sound}
use Rattle.ep_transfers.specs.Places.{has_values}
use Rattle.ep_transfers.specs.Transfers.{if_goes_on, alone_faults, put_out, simple_step}
use Rattle.ep_transfers.specs.Transfers.{returned as returned_step}
use Rattle.ep_transfers.specs.Laws.{memories, StandsFor, CellLaws}
use Rattle.ep_transfers.proofs.Assigned.{on_all_by}
use Rattle.ep_transfers.proofs.Evaluated.{pair_of, kept_both, kept_beside, alike_beside, Evaluated}
use Rattle.ep_transfers.proofs.Evaluated.{sound_evaluated, place_evaluated}
use Rattle.ep_transfers.proofs.Outputs.{side_valued}
use Rattle.ep_transfers.proofs.Plain.{both_put, alone_put}
use Rattle.ep_transfers.proofs.PutsOut.{output_meets}

module _ {N : Type 0} (D : Ops N) (laws : CellLaws D) (p : Program) (ord : Side → Order)
    (fit : blocks_fit p.types p.blocks ≡ true)
    (exprs : ExpressionsHold D p ord) (plcs : PlacesHold D p ord) where
  abbrev In' : Known N → Memory → Memory → Type 0
  In' = StandsFor D p ord

  -- ---- what is typed

  -- of the sort of an expression
  pub expr_is : (seen : List ℕ) (e : Expr) (s : Sort) → has_sort p.types p.blocks seen e s ≡ true → (w : Scalar) → w ≡
      scalar_of s → (k : Known N)
      (m : Memories) → IsKept D p ord k m → (mode : Mode)
      → Evaluated D p ord mode k m w (λ i. value (ord i) p e) ((expression D (sizes_of p.blocks) e).gives mode k)
  expr_is seen e s h w same k m kept mode =
      subst (λ v. Evaluated D p ord mode k m v (λ i. value (ord i) p e)
      ((expression D (sizes_of p.blocks) e).gives mode k)) (sym same)
      (sound_evaluated D p ord (scalar_of s) (λ i. value (ord i) p e) e (exprs fit seen e s h) k m kept mode)

  pub place_is : (seen : List ℕ) (a : Place) (ty : ℕ) → place_has p.types p.blocks seen a ty ≡ true → (k : Known N)
      (m : Memories)
      → IsKept D p ord k m → (mode : Mode)
      → Evaluated D p ord mode k m Pointer (λ i. address (ord i) p a) (place_means D (sizes_of p.blocks) a mode k)
  place_is seen a ty h k m kept mode =
      place_evaluated D p ord (λ i. address (ord i) p a) (place_means D (sizes_of p.blocks) a) (plcs fit seen a ty h)
      k m kept mode

  -- the start of a block
  pub block_is : (b : ℕ) (k : Known N) (m : Memories) → IsKept D p ord k m → (mode : Mode)
      → Evaluated D p ord mode k m Pointer (λ i z. has (pointer b 0))
      (pointer_given D (one_target b (D.single (pos 0))) mode)
  block_is b k m kept mode =
      place_evaluated D p ord (λ i z. has (pointer b 0))
      (λ mode k. pointer_given D (one_target b (D.single (pos 0))) mode)
      (block_sound D laws.domain p ord b (λ i z. has (pointer b 0)) (λ i z. refl)) k m kept mode

  -- a value of the type of a scalar
  pub typed_is : (seen : List ℕ) (e : Expr) (ty : ℕ) (w : Scalar) → has_scalar (ty_at p.types p.blocks seen ty) w ≡ true
      → has_type p.types p.blocks seen e ty ≡ true → (k : Known N) (m : Memories) → IsKept D p ord k m → (mode : Mode)
      → Evaluated D p ord mode k m w (λ i. value (ord i) p e) ((expression D (sizes_of p.blocks) e).gives mode k)
  typed_is seen e ty w h t k m kept mode =
      let s = typed_where p.types p.blocks seen e ty t in
      expr_is seen e s.0 s.2 w (sort_scalar (ty_at p.types p.blocks seen ty) w s.0 h s.1) k m kept mode

  -- ---- evaluation alone

  module _ (r : Option (ℕ × Scalar)) where
    valued : (mode : Mode) (k : Known N) (m : Memories) (w : Scalar) (f : Side → Machine) (v : Given N) → Evaluated D
        p ord mode k m w f v
        → v.faults ≡ [] → has_values mode v.pair ≡ true
    valued mode k m w f v e q =
        on_all_by mode (λ s. is_some (on_side v.pair s).value)
        (side_valued D p ord w (λ s. f s (memory_of s m)) k m mode v e.holds q)

    pub eval_sound : (e : Expr) (seen : List ℕ) → is_tested p.types p.blocks seen e ≡ true → (k : Known N)
        (x y : State) → ConcretisesTyped p In' k x y
        → (simple_step D p Both r (eval e) k).faults ≡ [] → (l n j : ℕ)
        → Meets p In' on (simple_step D p Both r (eval e) k).next n j (does (ord left) p uncounted r (eval e) l n x)
        (does (ord right) p uncounted r (eval e) l j y)
    eval_sound e seen h k x y kept q l n j =
        let m = memories x.memory y.memory in
        let i = kept_both D p ord k x y kept in
        let t = tested_where p.types p.blocks seen (int_type_of e) (has_sort p.types p.blocks seen e) h in
        let v = (expression D (sizes_of p.blocks) e).gives Both k in
        let a = expr_is seen e t.0 t.1 (scalar_of t.0) refl k m i Both in
        let nv = (none_left v.faults [] q).0 in
        let fl = a.holds.found nv left refl in
        let fr = a.holds.found nv right refl in
        let goes : if_goes_on (has_values Both v.pair) k ≡ Some k = ap (λ t. if_goes_on t k)
        (valued Both k m (scalar_of t.0) (λ i. value (ord i) p e) v a nv) in
        subst (λ o. Meets p In' on o n j (does (ord left) p uncounted r (eval e) l n x)
        (does (ord right) p uncounted r (eval e) l j y)) (sym goes)
        (let el : value (ord left) p e x.memory ≡ has fl.0 = fl.1 in let er : value (ord right) p e y.memory ≡ has
        fr.0 = fr.1 in rw (el, er) (meet kept.stands))

    pub eval_alone : (i : Side) (e : Expr) (seen : List ℕ) → is_tested p.types p.blocks seen e ≡ true → (k : Known N)
        (x y : State)
        → ConcretisesTypedBeside p In' i k x y → (simple_step D p (alone i) r (eval e) k).faults ≡ [] → (l n : ℕ)
        → MeetsAlone p In' i on (simple_step D p (alone i) r (eval e) k).next n y
        (does (ord i) p uncounted r (eval e) l n x)
    eval_alone i e seen h k x y kept q l n =
        let m = pair_of i x.memory y.memory in
        let c = kept_beside D p ord i k x y kept in
        let t = tested_where p.types p.blocks seen (int_type_of e) (has_sort p.types p.blocks seen e) h in
        let v = (expression D (sizes_of p.blocks) e).gives (alone i) k in
        let a = expr_is seen e t.0 t.1 (scalar_of t.0) refl k m c (alone i) in
        let nv = (none_left v.faults [] q).0 in
        let goes : if_goes_on (has_values (alone i) v.pair) k ≡ Some k = ap (λ t. if_goes_on t k)
        (valued (alone i) k m (scalar_of t.0) (λ i. value (ord i) p e) v a nv) in
        subst (λ o. MeetsAlone p In' i on o n y (does (ord i) p uncounted r (eval e) l n x)) (sym goes)
        (by_side i kept a.holds.found nv)
      where
        by_side : (i : Side) → ConcretisesTypedBeside p In' i k x y
            → (((expression D (sizes_of p.blocks) e).gives (alone i) k).faults ≡ [] → (s : Side) → runs (alone i) s ≡
            true
            → (v : Datum) × (value (ord s) p e (memory_of s (pair_of i x.memory y.memory)) ≡ has v))
            → ((expression D (sizes_of p.blocks) e).gives (alone i) k).faults ≡ []
            → MeetsAlone p In' i on (Some k) n y (does (ord i) p uncounted r (eval e) l n x)
        by_side left kept found nv = let f = found nv left refl in let g : value (ord left) p e x.memory ≡ has f.0 =
            f.1 in rw g (meet_alone kept.stands)
        by_side right kept found nv = let f = found nv right refl in let g : value (ord right) p e x.memory ≡ has f.0
            = f.1 in rw g (meet_alone kept.stands)

    -- ---- assignments

    pub assign_sound : (w : Scalar) (a : Place) (e : Expr) (seen : List ℕ)
        → some_type p.types p.blocks seen (λ u. has_scalar u w)
        (λ ty. place_has p.types p.blocks seen a ty && has_type p.types p.blocks seen e ty) ≡ true
        → (k : Known N) (x y : State) → ConcretisesTyped p In' k x y → (simple_step D p Both r (assign w a e) k).faults ≡ [] →
        (l n j : ℕ)
        → Meets p In' on (simple_step D p Both r (assign w a e) k).next n j
        (does (ord left) p uncounted r (assign w a e) l n x)
        (does (ord right) p uncounted r (assign w a e) l j y)
    assign_sound w a e seen h k x y kept q l n j =
        let m = memories x.memory y.memory in
        let i = kept_both D p ord k x y kept in
        let t = type_where p.types p.blocks seen (λ u. has_scalar u w)
        (λ ty. place_has p.types p.blocks seen a ty && has_type p.types p.blocks seen e ty) h in
        let s = and_parts (place_has p.types p.blocks seen a t.0) (has_type p.types p.blocks seen e t.0) t.2 in
        let to = place_means D (sizes_of p.blocks) a Both k in
        let v = (expression D (sizes_of p.blocks) e).gives Both k in
        let g = none_left (to.faults ++ v.faults) _ q in
        let f = none_left to.faults v.faults g.0 in
        both_put D laws p ord fit w k (λ i. address (ord i) p a) (λ i. value (ord i) p e) to v f.0 f.1 x y kept.stands i
        (place_is seen a t.0 s.0 k m i Both) (typed_is seen e t.0 w t.1 s.1 k m i Both) g.1 on l n j

    pub assign_alone : (i : Side) (w : Scalar) (a : Place) (e : Expr) (seen : List ℕ)
        → some_type p.types p.blocks seen (λ u. has_scalar u w)
        (λ ty. place_has p.types p.blocks seen a ty && has_type p.types p.blocks seen e ty) ≡ true
        → (k : Known N) (x y : State) → ConcretisesTypedBeside p In' i k x y →
        (simple_step D p (alone i) r (assign w a e) k).faults ≡ [] → (l n : ℕ)
        → MeetsAlone p In' i on (simple_step D p (alone i) r (assign w a e) k).next n y
        (does (ord i) p uncounted r (assign w a e) l n x)
    assign_alone i w a e seen h k x y kept q l n =
        let m = pair_of i x.memory y.memory in
        let c = kept_beside D p ord i k x y kept in
        let t = type_where p.types p.blocks seen (λ u. has_scalar u w)
        (λ ty. place_has p.types p.blocks seen a ty && has_type p.types p.blocks seen e ty) h in
        let s = and_parts (place_has p.types p.blocks seen a t.0) (has_type p.types p.blocks seen e t.0) t.2 in
        let to = place_means D (sizes_of p.blocks) a (alone i) k in
        let v = (expression D (sizes_of p.blocks) e).gives (alone i) k in
        let g = none_left (to.faults ++ v.faults) _ q in
        let f = none_left to.faults v.faults g.0 in
        alone_put D laws p ord fit w k (λ i. address (ord i) p a) (λ i. value (ord i) p e) to v f.0 f.1 i x y
        (alike_beside D p ord i k x y kept) c (place_is seen a t.0 s.0 k m c (alone i))
        (typed_is seen e t.0 w t.1 s.1 k m c (alone i)) g.1 on l n

    -- ---- outputs

    pub output_sound : (t : IntType) (e : Expr) (seen : List ℕ) → has_sort p.types p.blocks seen e (integer t) ≡ true
        → (k : Known N) (x y : State)
        → ConcretisesTyped p In' k x y → (simple_step D p Both r (output t e) k).faults ≡ [] → (l n j : ℕ)
        → Meets p In' on (simple_step D p Both r (output t e) k).next n j
        (does (ord left) p uncounted r (output t e) l n x)
        (does (ord right) p uncounted r (output t e) l j y)
    output_sound t e seen h k x y kept q l n j =
        let m = memories x.memory y.memory in
        let i = kept_both D p ord k x y kept in
        let v = (expression D (sizes_of p.blocks) e).gives Both k in
        let a = expr_is seen e (integer t) h (Int t) refl k m i Both in
        let g = none_left v.faults (put_out D Both v.pair k).faults q in
        output_meets D laws.domain p ord t e r l n j k x y kept.stands (λ s. value (ord s) p e (memory_of s m)) refl
        refl v a.holds g.0 g.1

    pub output_alone : (i : Side) (t : IntType) (e : Expr) (k : Known N) (x y : State) →
        (simple_step D p (alone i) r (output t e) k).faults ≡ [] → ⊥
    output_alone left t e k x y q =
        let v = (expression D (sizes_of p.blocks) e).gives Left k in
        let g = (none_left v.faults (put_out D Left v.pair k).faults q).1 in
        absurd (let h : alone_faults Left ≡ [] = (none_left (alone_faults Left) _ g).0 in cc)
    output_alone right t e k x y q =
        let v = (expression D (sizes_of p.blocks) e).gives Right k in
        let g = (none_left v.faults (put_out D Right v.pair k).faults q).1 in
        absurd (let h : alone_faults Right ≡ [] = (none_left (alone_faults Right) _ g).0 in cc)

    -- ---- what is returned

    module _ (seen : List ℕ) (e : Expr) (b : ℕ) (w : Scalar) (ty : ℕ)
        (scalar : has_scalar (ty_at p.types p.blocks seen ty) w ≡ true)
        (typed : has_type p.types p.blocks seen e ty ≡ true) where
      pub return_sound : (k : Known N) (x y : State) → ConcretisesTyped p In' k x y →
          (returned_step D p Both (Some (b, w)) (Some e) k).faults ≡ [] → (l n j : ℕ)
          → Meets p In' returned (returned_step D p Both (Some (b, w)) (Some e) k).next n j
          (does (ord left) p uncounted (Some (b, w)) (returns (Some e)) l n x)
          (does (ord right) p uncounted (Some (b, w)) (returns (Some e)) l j y)
      return_sound k x y kept q l n j =
          let m = memories x.memory y.memory in
          let i = kept_both D p ord k x y kept in
          let to = pointer_given D (one_target b (D.single (pos 0))) Both in
          let v = (expression D (sizes_of p.blocks) e).gives Both k in
          let g = none_left v.faults _ q in
          both_put D laws p ord fit w k (λ i z. has (pointer b 0)) (λ i. value (ord i) p e) to v refl g.0 x y
          kept.stands i
          (block_is b k m i Both) (typed_is seen e ty w scalar typed k m i Both) g.1 returned l n j

      pub return_alone : (i : Side) (k : Known N) (x y : State) → ConcretisesTypedBeside p In' i k x y
          → (returned_step D p (alone i) (Some (b, w)) (Some e) k).faults ≡ [] → (l n : ℕ)
          → MeetsAlone p In' i returned (returned_step D p (alone i) (Some (b, w)) (Some e) k).next n y
          (does (ord i) p uncounted (Some (b, w)) (returns (Some e)) l n x)
      return_alone i k x y kept q l n =
          let m = pair_of i x.memory y.memory in
          let c = kept_beside D p ord i k x y kept in
          let to = pointer_given D (one_target b (D.single (pos 0))) (alone i) in
          let v = (expression D (sizes_of p.blocks) e).gives (alone i) k in
          let g = none_left v.faults _ q in
          alone_put D laws p ord fit w k (λ i z. has (pointer b 0)) (λ i. value (ord i) p e) to v refl g.0 i x y
          (alike_beside D p ord i k x y kept) c
          (block_is b k m c (alone i)) (typed_is seen e ty w scalar typed k m c (alone i)) g.1 returned l n
