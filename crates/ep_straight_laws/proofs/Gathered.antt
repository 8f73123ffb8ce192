-- The law of straight programs, over what is shown of the output of bytes and of the beginning of main.
use Rattle.std.proofs.Common.{◌≡◌, ℕ, true, ◌&&◌, not, nat_eq, length, List, [], ◌∷◌, arith, refl, sym, ap, subst}
use Rattle.std.proofs.Common.{Option, Some, None, option_to_list, slice_get}
use Rattle.std.specs.List.{list_all}
use Rattle.std.proofs.lemmas.Bool.{and_parts, eqb-true}
use Rattle.ep_int.specs.declared.types.IntType.{IntType}
use Rattle.ep_int.specs.declared.types.IntType.TheVariants.{I32}
use Rattle.ep_int.specs.declared.types.Order.{Order}
use Rattle.ep_int.specs.declared.types.Scalar.{Scalar}
use Rattle.ep_int.specs.declared.types.Scalar.TheVariants.{Int, Pointer}
use Rattle.ep_domain.specs.Domain.{Ops, Lawful}
use Rattle.ep_cells.specs.States.{Known}
use Rattle.ep_core.specs.Program.{Place, Expr, const, null_value, load, addr_of, binary, convert, compare}
use Rattle.ep_core.specs.Program.{ptr_compare, logical_and, logical_or, logical_not, conditional, ptr_add, cast}
use Rattle.ep_core.specs.Program.{Simple, nothing, eval, assign, clear, copy_aggregate, copy_bytes, fill, input}
use Rattle.ep_core.specs.Program.{output, read_bytes, write_bytes, returns, Function, Program}
use Rattle.ep_core.specs.Exec.{State, frame_of, result_in, does, uncounted}
use Rattle.ep_core.specs.Runs.{Side, left, right, start}
use Rattle.ep_core.specs.WellFormed.{Sort, integer, pointer_to, is_sort, sort_of, has_scalar, ty_at, is_int_result}
use Rattle.ep_core.specs.WellFormed.{is_main, holds_scalar, place_has, has_sort, has_type, int_type_of, result_type}
use Rattle.ep_core.specs.WellFormed.{simple_fits, is_well_formed}
use Rattle.ep_core.specs.Typed.{scalar_of}
use Rattle.ep_core.proofs.Operands.{holds_at}
use Rattle.ep_core.proofs.Sorts.{same_scalar, sort_scalar, loaded_scalar, number_scalar, type_where, tested_where}
use Rattle.ep_core.proofs.Sorts.{typed_where}
use Rattle.ep_pass.specs.States.{Both, StateOps}
use Rattle.ep_pass.specs.Laws.{ConcretisesTyped, AreOther}
use Rattle.ep_pass.proofs.Sure.{Sure, Meets}
use Rattle.ep_pass.proofs.Keeping.{sure}
use Rattle.ep_transfers.specs.Cells.{cell_ops}
use Rattle.ep_transfers.specs.Laws.{StandsFor}
use Rattle.ep_cell_states.proofs.Lawful.{cells_lawful}
use Rattle.ep_straight_laws.specs.Straight.{is_variable, is_straight_value, is_straight_step, are_straight}
use Rattle.ep_straight_laws.specs.Laws.{MeetsKeepSingles, IsExact}
use Rattle.ep_straight_laws.proofs.Runs.{AreOnes}
use Rattle.ep_straight_laws.proofs.Rows.{way_on, Steps, exact}
use Rattle.ep_straight_laws.proofs.Evaluates.{variable_at, value_comes}
use Rattle.ep_straight_laws.proofs.Judged.{V, judged_goes, judged_parts}
use Rattle.ep_straight_laws.proofs.Statements.{Judges, judged_nothing, judged_eval, judged_output}
use Rattle.ep_straight_laws.proofs.Assigns.{judged_assign, taken_none, taken_to}

-- main, and the block of its result
pub record Main (p : Program) : Type 0 where
  pub f : Function
  pub here : slice_get p.functions p.main ≡ Some f
  pub no_params : f.params ≡ []
  pub r : ℕ
  pub result : f.result ≡ Some (r, Int I32)
  pub holds : holds_scalar p.types p.blocks (r, Int I32) ≡ true

result_by : (o : Option (ℕ × Scalar)) → is_int_result o ≡ true → (r : ℕ) × (o ≡ Some (r, Int I32))
result_by None h = absurd (cc)
result_by (Some q) h = (q.0, ap (λ (w : Scalar). Some (q.0, w)) (same_scalar q.1 (Int I32) h))

none_long : (xs : List (ℕ × Scalar)) → nat_eq (length xs) 0 ≡ true → xs ≡ []
none_long [] h = refl
none_long (x ∷ xs) h = absurd (let e = eqb-true (length (x ∷ xs)) 0 h in omega (arith, e))

main_by : (p : Program) (formed : is_well_formed p ≡ true) (o : Option Function) → slice_get p.functions p.main ≡ o
    → is_main o ≡ true → Main p
main_by p formed None e h = absurd (cc)
main_by p formed (Some f) e h =
    let a = and_parts (nat_eq (length f.params) 0) (is_int_result f.result) h in
    let q = result_by f.result a.1 in
    let held = (holds_at p formed p.main f e).result in
    record {
      f = f;
      here = e;
      no_params = none_long f.params a.0;
      r = q.0;
      result = q.1;
      holds = (and_parts (holds_scalar p.types p.blocks (q.0, Int I32)) true
          (subst (λ o. list_all (holds_scalar p.types p.blocks) (option_to_list o) ≡ true) q.1 held)).0;
    }

pub main_is : (p : Program) → is_well_formed p ≡ true → Main p
main_is p formed =
    main_by p formed (slice_get p.functions p.main) refl (and_parts _ (is_main
    (slice_get p.functions p.main)) formed).1

module _ (p : Program) (seen : List ℕ) where
  -- a straight value is an integer
  pub value_sort : (e : Expr) (x : Sort) → is_straight_value p e ≡ true → has_sort p.types p.blocks seen e x ≡ true
      → (t : IntType) × (has_sort p.types p.blocks seen e (integer t) ≡ true)
  value_sort e (integer t) g h = (t, h)
  value_sort (const t v) (pointer_to ty) g h = absurd (cc)
  value_sort null_value (pointer_to ty) g h = absurd (cc)
  value_sort (load (Int t) a) (pointer_to ty) g h =
      let q = type_where p.types p.blocks seen (λ u. has_scalar u (Int t) && is_sort (sort_of u) (pointer_to ty))
      (place_has p.types p.blocks seen a) h in
      absurd (let e : Int t ≡ Pointer = loaded_scalar (ty_at p.types p.blocks seen q.0) (Int t)
      (pointer_to ty) q.1 in cc)
  value_sort (load Pointer a) (pointer_to ty) g h = absurd (cc)
  value_sort (addr_of a) (pointer_to ty) g h = absurd (cc)
  value_sort (binary op t a b) (pointer_to ty) g h = absurd (cc)
  value_sort (convert t e) (pointer_to ty) g h = absurd (cc)
  value_sort (compare c t a b) (pointer_to ty) g h = absurd (cc)
  value_sort (ptr_compare c a b) (pointer_to ty) g h = absurd (cc)
  value_sort (logical_and a b) (pointer_to ty) g h = absurd (cc)
  value_sort (logical_or a b) (pointer_to ty) g h = absurd (cc)
  value_sort (logical_not e) (pointer_to ty) g h = absurd (cc)
  value_sort (conditional e a b) (pointer_to ty) g h = absurd (cc)
  value_sort (ptr_add e n u back) (pointer_to ty) g h = absurd (cc)
  value_sort (cast e) (pointer_to ty) g h = absurd (cc)

  scalar_sort : (w : Scalar) (a : Place) (x : Sort) → is_variable p w a ≡ true → w ≡ scalar_of x
      → (t : IntType) × (x ≡ integer t) × (w ≡ Int t)
  scalar_sort w a (integer t) g e = (t, refl, e)
  scalar_sort w a (pointer_to ty) g e =
      absurd (let z : is_variable p Pointer a ≡ true = subst (λ v. is_variable p v a ≡ true) e g in cc)

module _ {N : Type 0} (D : Ops N) (law : Lawful D) (meets : MeetsKeepSingles D) (p : Program)
    (formed : is_well_formed p ≡ true) (ord : Side → Order) (main : Main p) where
  abbrev pub seen : List ℕ
  seen = frame_of main.f

  abbrev pub Holds : Known N → State → State → Type 0
  Holds = V D law p formed ord seen main.r

  abbrev pub JudgesAll : Simple → Type 0
  JudgesAll w = (l n m : ℕ) (k : Known N) (x y : State) → Holds k x y
      → Judges D law p formed ord seen main.r main.f.result w l n m k x y

  -- what is shown of the output of bytes
  abbrev pub BytesJudged : Type 0
  BytesJudged = (e : Expr) (c : ℕ) → is_straight_step p (write_bytes e c) ≡ true
      → simple_fits p p.main (result_type p.blocks main.f.result) (write_bytes e c) seen ≡ true
      → JudgesAll (write_bytes e c)

  module _ (bytes : BytesJudged) where
    judged : (w : Simple) → is_straight_step p w ≡ true
        → simple_fits p p.main (result_type p.blocks main.f.result) w seen ≡ true → JudgesAll w
    judged nothing g h l n m k x y v = judged_nothing D law p formed ord seen main.r main.f.result l n m k x y v
    judged (eval e) g h l n m k x y v =
        let s = tested_where p.types p.blocks seen (int_type_of e) (has_sort p.types p.blocks seen e) h in
        let t = value_sort p seen e s.0 g s.1 in
        let st = v.kept.stands.memories.state in
        judged_eval D law p formed ord seen main.r main.f.result e t.0 l n m k x y v
        (value_comes D law p formed seen ord k st.cells st.model x.memory y.memory v.vars e t.0 g t.1)
    judged (assign w a e) g h l n m k x y v =
        let b = and_parts (is_variable p w a) (is_straight_value p e) g in
        let q = type_where p.types p.blocks seen (λ u. has_scalar u w)
        (λ ty. place_has p.types p.blocks seen a ty && has_type p.types p.blocks seen e ty) h in
        let c = and_parts (place_has p.types p.blocks seen a q.0) (has_type p.types p.blocks seen e q.0) q.2 in
        let s = typed_where p.types p.blocks seen e q.0 c.1 in
        let t = scalar_sort p seen w a s.0 b.0 (sort_scalar (ty_at p.types p.blocks seen q.0) w s.0 q.1 s.1) in
        let st = v.kept.stands.memories.state in
        judged_assign D law meets p formed ord seen main.r main.holds main.f.result w a t.0
        (variable_at D law p formed seen ord w a t.0 q.0 b.0 t.2 c.0) e l n m k x y v
        (value_comes D law p formed seen ord k st.cells st.model x.memory y.memory v.vars e t.0 b.1
        (subst (λ z. has_sort p.types p.blocks seen e z ≡ true) t.1 s.2))
    judged (clear a ty) g h l n m k x y v = absurd (cc)
    judged (copy_aggregate a b ty) g h l n m k x y v = absurd (cc)
    judged (copy_bytes a b c) g h l n m k x y v = absurd (cc)
    judged (fill a e c) g h l n m k x y v = absurd (cc)
    judged (input t None) g h l n m k x y v =
        taken_none D law meets p formed ord seen main.r main.holds main.f.result t l n m k x y v x.inputs y.inputs refl refl
        v.kept.stands.inputs v.ones
    judged (input t (Some d)) g h l n m k x y v =
        let q = type_where p.types p.blocks seen (λ u. has_scalar u d.what && not (has_scalar u Pointer))
        (place_has p.types p.blocks seen d.place) h in
        let s = number_scalar (ty_at p.types p.blocks seen q.0) d.what q.1 in
        taken_to D law meets p formed ord seen main.r main.holds main.f.result d.what d.cast d.place s.0
        (variable_at D law p formed seen ord d.what d.place s.0 q.0 g s.1 q.2) t l n m k x y v x.inputs y.inputs refl refl
        v.kept.stands.inputs v.ones
    judged (output t e) g h l n m k x y v =
        let st = v.kept.stands.memories.state in
        judged_output D law p formed ord seen main.r main.f.result t e t l n m k x y v
        (value_comes D law p formed seen ord k st.cells st.model x.memory y.memory v.vars e t g h)
    judged (read_bytes e c) g h l n m k x y v = absurd (cc)
    judged (write_bytes e c) g h l n m k x y v = bytes e c g h l n m k x y v
    judged (returns e) g h l n m k x y v = absurd (cc)

    abbrev ops : StateOps (Known N)
    ops = cell_ops D p ord

    module _ (other : AreOther ord) where
      laws : Sure p ord ops (ConcretisesTyped p (StandsFor D p ord))
      laws = sure p formed ord ops (StandsFor D p ord) (cells_lawful D law p ord formed other)

      steps : Steps p ord ops main.f.result seen Holds
      steps = record {
        goes = λ w g h l n m k x y v q. judged_goes D law p formed ord seen main.r
            (ops.simple Both main.f.result w k) n m _ _
            (judged w g h l n m k x y v) q
            (subst (λ z. Meets (ConcretisesTyped p (StandsFor D p ord)) z (ops.simple Both main.f.result w k).next n m
            (does (ord left) p uncounted main.f.result w l n x) (does (ord right) p uncounted main.f.result w l m y))
            (way_on p w g) (laws.simple_sound p.main main.f main.here w seen h l n m k x y v.kept q));
        parts = λ w g h l n m k x y v q. judged_parts D law p formed ord seen main.r
            (ops.simple Both main.f.result w k) n m _ _
            (judged w g h l n m k x y v) q;
      }

      -- and what is shown of the beginning and of the end of main
      pub record Ends : Type 0 where
        pub starts : (inputs : List ℕ) → AreOnes inputs
            → Holds ops.entry (start (ord left) p inputs) (start (ord right) p inputs)
        pub ends : (k : Known N) (x y : State) → Holds k x y → ops.ended main.f k ≡ []

      pub exact_by : are_straight p main.f.body ≡ true → Ends → IsExact D p ord
      exact_by g e u limit agree =
          exact p ord ops Holds u limit formed main.f (record {
            here = main.here;
            straight = g;
            steps = subst (λ z. Steps p ord ops (result_in z) seen Holds) (sym main.here) steps;
            starts = e.starts;
            ends = e.ends;
          }) agree
