-- A place of a mover is one place, without a fault.
use Rattle.std.proofs.Common.{◌≡◌, ℕ, ◌+◌, ◌*◌, ◌%◌, ◌^◌, ◌<◌, ◌≤◌, ℤ, pos, negsuc, Bool, true, false, ◌&&◌, ◌||◌, cond, List, []}
use Rattle.std.proofs.Common.{◌++◌, Option, Some, None, Result, Ok, Err, refl, sym, ap, ◌∙◌, subst, arith}
use Rattle.std.specs.Prelude.{int_le, int_lt, nat_le, nat_lt, unsigned_abs, is_some}
use Rattle.std.specs.Option.{option_map}
use Rattle.std.proofs.lemmas.Int.{ints}
use Rattle.std.proofs.lemmas.Bool.{and_parts, and_from, leb-true}
use Rattle.ep_int.specs.declared.types.IntType.TheVariants.{U32}
use Rattle.ep_int.specs.declared.types.Order.{Order}
use Rattle.ep_int.specs.Types.{InRange, residue}
use Rattle.ep_int.specs.Arith.{is_in_range}
use Rattle.ep_int.specs.Memory.{Memory, Value as Datum, int, pointer, has, faults, bounds}
use Rattle.ep_int.proofs.Arithmetic.{in_range_from_true}
use Rattle.ep_int.proofs.Basics.{is_some-some}
use Rattle.ep_alarms.specs.declared.types.AlarmKind.TheVariants.{U5, U6}
use Rattle.ep_domain.specs.Domain.{Ops, Lawful}
use Rattle.ep_pointers.specs.Value.{one_target, only_place}
use Rattle.ep_cells.specs.declared.cell.Value.TheVariants.{Ptr}
use Rattle.ep_cells.specs.States.{Known}
use Rattle.ep_cells.specs.Meaning.{Memories, Allows}
use Rattle.ep_core.specs.Program.{Place, block, deref, member, element, Expr, Program}
use Rattle.ep_core.specs.Exec.{value, address, element_at, with_number}
use Rattle.ep_core.specs.Runs.{Side, left, right}
use Rattle.ep_core.specs.WellFormed.{place_has, has_sort, is_length, is_int, int_type_of, blocks_fit}
use Rattle.ep_core.proofs.Sorts.{int_where}
use Rattle.ep_equalities.specs.declared.pair.Mode.{Mode}
use Rattle.ep_equalities.specs.declared.pair.Mode.TheVariants.{Both, Left, Right}
use Rattle.ep_equalities.specs.declared.pair.Fault.{Fault}
use Rattle.ep_equalities.specs.declared.pair.SideValue.{SideValue}
use Rattle.ep_evaluation.specs.Given.{Given, runs, on, pair_on, shown_if, faults_on}
use Rattle.ep_evaluation.specs.Operators.{number_in}
use Rattle.ep_evaluation.specs.Accesses.{moves_null, index_leaves, element_passes}
use Rattle.ep_evaluation.specs.Evaluation.{formless, pointer as pointer_of, number, same, element_side, expression, place}
use Rattle.ep_evaluation.specs.Laws.{memory_of, sizes_of, IsKept}
use Rattle.ep_evaluation.proofs.Basics.{faults_on-none}
use Rattle.ep_evaluation.proofs.General.{on_running, equal_is, reliable_none}
use Rattle.ep_evaluation.proofs.Gathered.{evaluation_laws}
use Rattle.ep_movers.specs.declared.Stop.{Stop}
use Rattle.ep_movers.specs.declared.Stop.TheVariants.{Faulty}
use Rattle.ep_movers.specs.Forms.{constant, is_moved_place}
use Rattle.ep_movers.specs.Movers.{place_of, offset_of}
use Rattle.ep_mover_cells.proofs.Loaded.{ok_same, went_on}
use Rattle.ep_singles.specs.Cells.{IsOneValue, one_pointer}
use Rattle.ep_single_places.specs.Laws.{IsOneInto}
use Rattle.ep_single_places.specs.MoveLaws.{IsUnit, IsOneNumber, IsOneElement}
use Rattle.ep_single_places.proofs.Elements.{elements_are_one}
use Rattle.ep_mover_values.specs.Laws.{IsAt, PlacesAreAt}
use Rattle.ep_mover_values.proofs.Constants.{or_first, IsOne, constant_found, constant_given_is}
use Rattle.std.proofs.Common.{IsSomeAnd}
use Rattle.std.proofs.Math.Nat.{mul_comm}
use Rattle.ep_int.specs.Arith.{IsOfSomeType}
use Rattle.ep_int.proofs.Basics.{nat_eq-self}
use Rattle.ep_domain.specs.Domain.{Holds}

has_same : (u v : Datum) → has u ≡ has v → u ≡ v
has_same u v e = cc

pub some_runs : (mode : Mode) → (s : Side) × (runs mode s ≡ true)
some_runs Both = (left, refl)
some_runs Left = (left, refl)
some_runs Right = (right, refl)

zero_type : IsOfSomeType (pos 0)
zero_type = record { low = omega (arith, ints); high = omega (arith, ints) }

-- ---- a constant index

record IsIndex (unit q : ℕ) (v : ℤ) : Type 0 where
  index : ℕ
  is : v ≡ pos index
  offset : unit * index ≡ q

natural_of : (v : ℤ) → InRange U32 v → (n : ℕ) × (v ≡ pos n) × (residue (2 ^ 32) v ≡ n)
natural_of (pos n) h = (n, refl, omega (arith, ints, h.high))
natural_of (negsuc n) h = absurd (let z : ⊥ = omega (arith, ints, h.low) in z)

index_by : (bound unit q : ℕ) (v : ℤ) (t u : Bool) → is_in_range U32 v ≡ t
    → cond (t && u) (Ok (unit * residue (2 ^ 32) v)) (Err Faulty) ≡ Ok q → IsIndex unit q v
index_by bound unit q v true true i e =
    let n = natural_of v (in_range_from_true U32 v i) in
    record { index = n.0; is = n.1; offset = ap (λ r. unit * r) (sym n.2) ∙ ok_same (unit * residue (2 ^ 32) v) q e }
index_by bound unit q v true false i e = absurd (let d : Err Faulty ≡ Ok q = e in cc)
index_by bound unit q v false u i e = absurd (let d : Err Faulty ≡ Ok q = e in cc)

index_of : (bound unit q : ℕ) (v : ℤ) → offset_of bound unit (Some v) ≡ Ok q → IsIndex unit q v
index_of bound unit q v e =
    index_by bound unit q v (is_in_range U32 v) (nat_lt (residue (2 ^ 32) v) bound) refl e

-- ---- on machines

element_by : (b bound unit n q : ℕ) (u : Datum) (t : Bool) → unit * n ≡ q
    → cond t (has (pointer b (0 + n * unit))) (faults bounds) ≡ has u → u ≡ pointer b q
element_by b bound unit n q u true f e =
    let z : 0 + n * unit ≡ n * unit = omega arith in
    sym (has_same (pointer b (0 + n * unit)) u e) ∙ ap (λ i. pointer b i) (z ∙ mul_comm n unit ∙ f)
element_by b bound unit n q u false f e = absurd (let d : faults bounds ≡ has u = e in cc)

element_is : (b bound unit q : ℕ) (v : ℤ) (u : Datum) → IsIndex unit q v → element_at b 0 bound unit v ≡ has u
    → u ≡ pointer b q
element_is b bound unit q v u i e =
    element_by b bound unit i.index q u _ i.offset
    (subst (λ (z : ℤ). element_at b 0 bound unit z ≡ has u) i.is e)

pair_first : (a b c d : ℕ) → ◌≡◌ {A = Result (ℕ × ℕ) Stop} (Ok (a, b)) (Ok (c, d)) → a ≡ c
pair_first a b c d e = ap (λ (z : ℕ × ℕ). z.0) (ok_same (a, b) (c, d) e)

pair_second : (a b c d : ℕ) → ◌≡◌ {A = Result (ℕ × ℕ) Stop} (Ok (a, b)) (Ok (c, d)) → b ≡ d
pair_second a b c d e = ap (λ (z : ℕ × ℕ). z.1) (ok_same (a, b) (c, d) e)

record IsElementOf (o : Order) (p : Program) (m : Memory) (c bound unit b q : ℕ) (i : Expr) : Type 0 where
  v : ℤ
  is : constant i ≡ Some v
  in_block : c ≡ b
  index : IsIndex unit q v
  machine : (u : Datum) → address o p (element (block c) bound unit i) m ≡ has u
      → element_at c 0 bound unit v ≡ has u

element_of : (o : Order) (p : Program) (m : Memory) (c bound unit b q : ℕ) (i : Expr) → is_some (constant i) ≡ true
    → place_of (element (block c) bound unit i) ≡ Ok (b, q) → IsElementOf o p m c bound unit b q i
element_of o p m c bound unit b q i h e =
    let v = is_some-some (constant i) h in
    let w = went_on (offset_of bound unit (constant i)) (λ r. Ok (c, r)) (b, q) e in
    let j = index_of bound unit w.0 v.0 (sym (ap (offset_of bound unit) v.1) ∙ w.1) in
    record {
      v = v.0;
      is = v.1;
      in_block = pair_first c w.0 b q w.2;
      index = subst (λ r. IsIndex unit r v.0) (pair_second c w.0 b q w.2) j;
      machine = λ u f. sym (ap (λ z. with_number z (λ k. element_at c 0 bound unit k)) (constant_found o p m i v.0 v.1)) ∙ f;
    }

module _ (p : Program) where
  pub address_is : (a : Place) → is_moved_place a ≡ true → (b q : ℕ) → place_of a ≡ Ok (b, q) → (o : Order)
      (m : Memory) (u : Datum) → address o p a m ≡ has u → u ≡ pointer b q
  address_is (block c) h b q e o m u f =
      sym (has_same (pointer c 0) u f) ∙ ap (λ z. pointer z 0) (pair_first c 0 b q e)
      ∙ ap (λ z. pointer b z) (pair_second c 0 b q e)
  address_is (element (block c) bound unit i) h b q e o m u f =
      let x = element_of o p m c bound unit b q i h e in
      element_is c bound unit q x.v u x.index (x.machine u f) ∙ ap (λ z. pointer z q) x.in_block
  address_is (deref e) h b q f o m v g = absurd (cc)
  address_is (member a offset) h b q f o m v g = absurd (cc)
  address_is (element (deref e) bound unit i) h b q f o m v g = absurd (cc)
  address_is (element (member a offset) bound unit i) h b q f o m v g = absurd (cc)
  address_is (element (element a n u j) bound unit i) h b q f o m v g = absurd (cc)

-- ---- in what is known

pub no_faults : (xs ys : List Fault) → xs ≡ [] → ys ≡ [] → xs ++ ys ≡ []
no_faults xs ys e f = ap (λ z. z ++ ys) e ∙ f

module _ {N : Type 0} (D : Ops N) (law : Lawful D) (p : Program) (ord : Side → Order)
    (fit : blocks_fit p.types p.blocks ≡ true) (seen : List ℕ) (k : Known N) (mode : Mode) where
  abbrev start : ℕ → Given N
  start b = place D (sizes_of p.blocks) (block b) mode k

  into_start : (b : ℕ) → IsOneInto D (Some (Ptr (one_target b (D.single (pos 0))))) b 0
  into_start b = record {
    one = one_pointer (one_target b (D.single (pos 0)))
        (only_place b (D.single (pos 0)) (pos 0) refl (law.single_range (pos 0) zero_type));
    allowed = subst (λ t. IsSomeAnd (cond t (Some (D.single (pos 0))) None) (λ (n : N). Holds D n (pos 0)))
        (sym (nat_eq-self b)) (law.single_holds (pos 0) zero_type);
  }

  start_is : (b : ℕ) → IsAt D mode (start b) b 0
  start_is b =
      let f : Side → SideValue N = λ s. formless D (Some (Ptr (one_target b (D.single (pos 0))))) in
      record {
        quiet = refl;
        equal = equal_is mode f true;
        each = λ s r. subst (λ (x : SideValue N). IsOneInto D x.value b 0) (sym (on_running mode s f true r))
            (into_start b);
      }

  -- an element
  module _ (b bound unit : ℕ) (i : Expr) (ty : ℕ)
      (typed : place_has p.types p.blocks seen (element (block b) bound unit i) ty ≡ true) (v : ℤ)
      (index : constant i ≡ Some v) (w : Datum) (there : element_at b 0 bound unit v ≡ has w) where
    abbrev y : Given N
    y = (expression D (sizes_of p.blocks) i).gives mode k

    abbrev x : Given N
    x = start b

    unit_is : IsUnit unit
    unit_is =
        let e = (and_parts _ (is_int (int_type_of i) (has_sort p.types p.blocks seen i)) typed).0 in
        let l = (and_parts (is_length bound) (is_length unit) (and_parts _ _ (and_parts _ _ e).0).0).1 in
        let h = and_parts (nat_le 1 unit) (nat_le unit 65536) l in
        let low = leb-true 1 unit h.0 in
        let high = leb-true unit 65536 h.1 in
        record { positive = omega (arith, low); small = omega (arith, high) }

    number_is : (s : Side) → runs mode s ≡ true → IsOne D (on y.pair s) v
    number_is s r =
        let h = int_where (int_type_of i) (has_sort p.types p.blocks seen i)
        (and_parts _ (is_int (int_type_of i) (has_sort p.types p.blocks seen i)) typed).1 in
        (constant_given_is D law p seen mode k i v index _ h.2).each s r

    one : (s : Side) → runs mode s ≡ true → IsOneElement D bound unit (on x.pair s) (number D (on y.pair s))
    one s r =
        let n = number_is s r in
        let j : IsOneNumber D (number D (on y.pair s)) v
        = record { n = n.n; is = ap number_in n.value; single = n.single } in
        elements_are_one D law unit unit_is bound (on x.pair s) b 0 ((start_is b).each s r) (omega arith)
        (number D (on y.pair s)) v j w there

    abbrev null_faults : List Fault
    null_faults = faults_on mode U6 (λ s. shown_if (moves_null (pointer_of D (on x.pair s)) (number D (on y.pair s))))

    abbrev index_faults : List Fault
    index_faults = faults_on mode U5 (λ s. index_leaves D bound (pointer_of D (on x.pair s)) (number D (on y.pair s)))

    abbrev pass_faults : List Fault
    pass_faults =
        faults_on mode U5 (λ s. element_passes D bound unit (pointer_of D (on x.pair s)) (number D (on y.pair s)))

    abbrev given : Given N
    given = place D (sizes_of p.blocks) (element (block b) bound unit i) mode k

    index_quiet : y.faults ≡ []
    index_quiet =
        let h = int_where (int_type_of i) (has_sort p.types p.blocks seen i)
        (and_parts _ (is_int (int_type_of i) (has_sort p.types p.blocks seen i)) typed).1 in
        (constant_given_is D law p seen mode k i v index _ h.2).quiet

    index_equal : y.pair.equal ≡ true
    index_equal =
        let h = int_where (int_type_of i) (has_sort p.types p.blocks seen i)
        (and_parts _ (is_int (int_type_of i) (has_sort p.types p.blocks seen i)) typed).1 in
        (constant_given_is D law p seen mode k i v index _ h.2).equal

    element_quiet : given.faults ≡ []
    element_quiet =
        no_faults y.faults (null_faults ++ (index_faults ++ pass_faults)) index_quiet
        (no_faults null_faults (index_faults ++ pass_faults)
        (faults_on-none mode U6
        (λ s. shown_if (moves_null (pointer_of D (on x.pair s)) (number D (on y.pair s))))
        (λ s r. ap shown_if (one s r).not_null))
        (no_faults index_faults pass_faults
        (faults_on-none mode U5
        (λ s. index_leaves D bound (pointer_of D (on x.pair s)) (number D (on y.pair s))) (λ s r. (one s r).below))
        (faults_on-none mode U5
        (λ s. element_passes D bound unit (pointer_of D (on x.pair s)) (number D (on y.pair s)))
        (λ s r. (one s r).near))))

    element_equal : given.pair.equal ≡ true
    element_equal =
        equal_is mode (λ s. element_side D (sizes_of p.blocks) bound unit (on x.pair s) (on y.pair s)) (same D x && same D y)
        ∙ and_from (same D x) (same D y) (or_first x.pair.equal _ (start_is b).equal)
        (or_first y.pair.equal _ index_equal)

    element_one : (s : Side) → runs mode s ≡ true → IsOneValue D (on given.pair s).value
    element_one s r =
        subst (λ (z : SideValue N). IsOneValue D z.value)
        (sym (on_running mode s (λ s. element_side D (sizes_of p.blocks) bound unit (on x.pair s) (on y.pair s)) (same D x && same D y) r))
        (one s r).one

  module _ (m : Memories) (kept : IsKept D p ord k m) where
    pub place_is_at : (a : Place) (ty : ℕ) → is_moved_place a ≡ true → place_has p.types p.blocks seen a ty ≡ true
        → (b q : ℕ) → place_of a ≡ Ok (b, q)
        → ((s : Side) → runs mode s ≡ true → (v : Datum) × (address (ord s) p a (memory_of s m) ≡ has v))
        → IsAt D mode (place D (sizes_of p.blocks) a mode k) b q
    place_is_at (block c) ty h typed b q e f =
        subst (λ z. IsAt D mode (start c) z q) (pair_first c 0 b q e)
        (subst (λ z. IsAt D mode (start c) c z) (pair_second c 0 b q e) (start_is c))
    place_is_at (element (block c) bound unit i) ty h typed b q e f =
        let z = some_runs mode in
        let g = f z.0 z.1 in
        let x = element_of (ord z.0) p (memory_of z.0 m) c bound unit b q i h e in
        let there = x.machine g.0 g.1 in
        let quiet = element_quiet c bound unit i ty typed x.v x.is g.0 there in
        let sound = (evaluation_laws D law).places p ord fit seen (element (block c) bound unit i) ty typed in
        record {
          quiet = quiet;
          equal = element_equal c bound unit i ty typed x.v x.is g.0 there;
          each = λ s r. record {
            one = element_one c bound unit i ty typed x.v x.is g.0 there s r;
            allowed = ((sound.gives k m kept mode).held
                (reliable_none mode (place D (sizes_of p.blocks) (element (block c) bound unit i) mode k).faults quiet) s r
                (pointer b q)
                ((f s r).1 ∙ ap has (address_is p (element (block c) bound unit i) h b q e (ord s)
                (memory_of s m) (f s r).0 (f s r).1))).value;
          };
        }
    place_is_at (deref e) ty h typed b q f g = absurd (cc)
    place_is_at (member a offset) ty h typed b q f g = absurd (cc)
    place_is_at (element (deref e) bound unit i) ty h typed b q f g = absurd (cc)
    place_is_at (element (member a offset) bound unit i) ty h typed b q f g = absurd (cc)
    place_is_at (element (element a n u j) bound unit i) ty h typed b q f g = absurd (cc)

pub places_at : {N : Type 0} (D : Ops N) → Lawful D → PlacesAreAt D
places_at D law p ord fit seen a ty h typed k m kept b q e mode f =
    place_is_at D law p ord fit seen k mode m kept a ty h typed b q e f
