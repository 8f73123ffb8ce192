-- The faults of a typed expression, and of a typed place, are of kinds that its text may have.
use Rattle.std.proofs.Common.{◌≡◌, ℕ, Bool, true, false, ◌&&◌, ◌||◌, not, List, ◌++◌, ⊎_elim, Option, Some, None, refl}
use Rattle.std.proofs.lemmas.Bool.{or_cases}
use Rattle.std.proofs.lemmas.Bool.{and_parts, or_left, or_right}
use Rattle.ep_int.specs.declared.types.IntType.TheVariants.{I32}
use Rattle.ep_int.specs.declared.types.Scalar.{Scalar}
use Rattle.ep_int.specs.Types.{size_of}
use Rattle.ep_alarms.specs.declared.types.AlarmKind.{AlarmKind}
use Rattle.ep_alarms.specs.declared.types.AlarmKind.TheVariants.{U4, U5, U6, U7, U8, U10}
use Rattle.ep_domain.specs.Domain.{Ops, Lawful}
use Rattle.ep_cells.specs.States.{Known}
use Rattle.ep_core.specs.Program.{Place, block, deref, member, element, Expr, const, null_value, load, addr_of}
use Rattle.ep_core.specs.Program.{binary, convert, compare, ptr_compare, logical_and, logical_or, logical_not}
use Rattle.ep_core.specs.Program.{conditional, ptr_add, cast, Program}
use Rattle.ep_core.specs.WellFormed.{Sort, integer, pointer_to, is_integer, is_pointer_where, sort_of, is_sort, ty_at}
use Rattle.ep_core.specs.WellFormed.{has_scalar, is_array_of, has_bound, has_member, is_number, is_length}
use Rattle.ep_core.specs.WellFormed.{int_type_of, right_type, is_int, some_type, is_pointer, is_test, place_has}
use Rattle.ep_core.specs.WellFormed.{has_sort}
use Rattle.ep_layout.specs.Table.{size}
use Rattle.ep_core.proofs.Sorts.{three, int_where, type_where, pointer_where, tested_where}
use Rattle.ep_pass.specs.Places.{is_one_of, operator_kinds, order_kinds, read_kinds, access_kinds, address_kinds}
use Rattle.ep_pass.specs.Places.{expr_may, place_may, target_may}
use Rattle.ep_equalities.specs.declared.pair.Mode.{Mode}
use Rattle.ep_equalities.specs.declared.pair.Fault.{Fault}
use Rattle.ep_equalities.specs.declared.pair.PairValue.{PairValue}
use Rattle.ep_evaluation.specs.Given.{Given, is_both, mode_where, on, faults_on, shown_if}
use Rattle.ep_evaluation.specs.Accesses.{bounds_of, may_be_odd, is_unset, is_mixed, moves_null, move_leaves}
use Rattle.ep_evaluation.specs.Accesses.{index_leaves, element_passes}
use Rattle.ep_evaluation.specs.Operators.{may_be, kind_of}
use Rattle.ep_evaluation.specs.Evaluation.{Means, same, number, pointer, targets_of, is_null, reads_at, load_faults}
use Rattle.ep_evaluation.specs.Evaluation.{binary_shown, truths, given_in, given_where, state_for, later}
use Rattle.ep_evaluation.specs.Evaluation.{later_faults, expression, place}
use Rattle.ep_transfers.specs.Places.{aligned_faults}
use Rattle.ep_transfers.specs.Transfers.{sizes}
use Rattle.ep_alarm_laws.proofs.Named.{AreKinds, member_faults}
use Rattle.ep_alarm_laws.proofs.Allowed.{AccessesAllowed}
use Rattle.ep_alarm_laws.proofs.FaultKinds.{both_kinds, first_kinds, second_kinds, wider_kinds, one_kind}
use Rattle.ep_alarm_laws.proofs.FaultKinds.{operator_kind, order_kind}
use Rattle.ep_alarm_laws.proofs.Models.{IfModel, Keeps, keeps, state_model}

-- a place of some type, behind `&`
addressed : (p : Program) (seen : List ℕ) (a : Place) (x : Sort) → is_pointer_where x (λ ty. place_has p.types p.blocks
    seen a ty || some_type p.types p.blocks seen (λ u. is_array_of u ty) (place_has p.types p.blocks seen a)) ≡ true
    → (ty : ℕ) × (place_has p.types p.blocks seen a ty ≡ true)
addressed p seen a (integer t) h = absurd (cc)
addressed p seen a (pointer_to ty) h =
    ⊎_elim (λ i. (ty, i))
    (λ i. (let s = type_where p.types p.blocks seen (λ u. is_array_of u ty) (place_has p.types p.blocks seen a) i in
    (s.0, s.2)))
    (or_cases (place_has p.types p.blocks seen a ty)
    (some_type p.types p.blocks seen (λ u. is_array_of u ty) (place_has p.types p.blocks seen a)) h)

-- of a read with an access like this one
pub reading_kinds : {N : Type 0} (D : Ops N) (blocks : List ℕ) (test : AlarmKind → Bool) → test U4 ≡ true
    → test U10 ≡ true → (w : Scalar) (m : Mode) (k : Known N) (x : PairValue N)
    → AreKinds test (aligned_faults D blocks m (size_of k.model w) x) → AreKinds test (load_faults D blocks w m k x)
reading_kinds D blocks test h i w m k x q =
    let n = size_of k.model w in
    let null = faults_on m U6 (λ s. shown_if (is_null D blocks (pointer D (on x s)))) in
    let out = faults_on m U5 (λ s. bounds_of D blocks n (targets_of D blocks (pointer D (on x s)))) in
    let odd = faults_on m U7 (λ s. shown_if (may_be_odd D n (targets_of D blocks (pointer D (on x s))))) in
    let unset = faults_on m U4 (λ s. shown_if (is_unset (reads_at D blocks w k (on x s) s))) in
    let mixed = faults_on m U10 (λ s. shown_if (is_mixed (reads_at D blocks w k (on x s) s))) in
    let r = first_kinds test (null ++ out) odd q in
    both_kinds test null (out ++ (odd ++ (unset ++ mixed))) (first_kinds test null out r)
    (both_kinds test out (odd ++ (unset ++ mixed)) (second_kinds test null out r)
    (both_kinds test odd (unset ++ mixed) (second_kinds test (null ++ out) odd q)
    (both_kinds test unset mixed (one_kind test m U4 _ h) (one_kind test m U10 _ i))))

module _ {N : Type 0} (D : Ops N) (law : Lawful D) (p : Program) (strides : Bool) (ok : AccessesAllowed D p strides)
    (seen : List ℕ) where
  -- ---- what is evaluated later

  module _ (a b : Means N) (keep : Keeps D p.types.model a) (test : AlarmKind → Bool)
      (kinds : (m : Mode) (k : Known N) → k.model ≡ p.types.model → AreKinds test (b.gives m k).faults) where
    in_kinds : (m : Mode) (o : Option (Known N)) → IfModel D p.types.model o
        → AreKinds test (later_faults D (given_in D b m o))
    in_kinds m None h = tt
    in_kinds m (Some k) h = kinds m k h

    where_kinds : (stable t : Bool) (k : Known N) → k.model ≡ p.types.model → (o : Option Mode)
        → AreKinds test (later_faults D (given_where D a b stable t k o))
    where_kinds stable t k h None = tt
    where_kinds stable t k h (Some m) =
        in_kinds m (state_for D a stable m t k) (state_model D p.types.model a keep stable m t k h)

    later_kinds : (m : Mode) (t : Bool) (k : Known N) (x : Given N) → k.model ≡ p.types.model
        → AreKinds test (later_faults D (later D a b m t k x))
    later_kinds m t k x h =
        where_kinds (same D x || not (is_both m)) t k h (mode_where m (λ s. may_be D (on x.pair s).value t))

  -- ---- loads

  load_kinds : (a : Place) (ty : ℕ) → place_has p.types p.blocks seen a ty ≡ true → (w : Scalar)
      → has_scalar (ty_at p.types p.blocks seen ty) w ≡ true → (m : Mode) (k : Known N) → k.model ≡ p.types.model
      → AreKinds (λ f. expr_may strides f (load w a))
      (load_faults D (sizes D p) w m k (place D (sizes D p) a m k).pair)
  load_kinds a ty h w i m k e =
      let x = (place D (sizes D p) a m k).pair in
      let test : AlarmKind → Bool = λ f. expr_may strides f (load w a) in
      reading_kinds D (sizes D p) test refl refl w m k x
      (wider_kinds (λ f. target_may strides f a) test (aligned_faults D (sizes D p) m (size_of k.model w) x)
      (λ f g. or_right (is_one_of read_kinds f) (target_may strides f a) g) (ok.aligned seen a ty h w i m k e))

  -- ---- expressions and places

  abbrev means : Expr → Means N
  means e = expression D (sizes D p) e

  abbrev Allowed : Expr → Type 0
  Allowed e = (m : Mode) (k : Known N) → k.model ≡ p.types.model
      → AreKinds (λ f. expr_may strides f e) ((means e).gives m k).faults

  abbrev AllowedAt : Place → Type 0
  AllowedAt a = (m : Mode) (k : Known N) → k.model ≡ p.types.model
      → AreKinds (λ f. place_may strides f a) (place D (sizes D p) a m k).faults

  -- of two operands, with what comes behind
  two_kinds : (e a b : Expr) → Allowed a → Allowed b
      → ((f : AlarmKind) → expr_may strides f a ≡ true → expr_may strides f e ≡ true)
      → ((f : AlarmKind) → expr_may strides f b ≡ true → expr_may strides f e ≡ true) → (m : Mode) (k : Known N)
      → k.model ≡ p.types.model → (rest : List Fault) → AreKinds (λ f. expr_may strides f e) rest
      → AreKinds (λ f. expr_may strides f e) (((means a).gives m k).faults ++ (((means b).gives m k).faults ++ rest))
  two_kinds e a b ha hb fa fb m k h rest i =
      both_kinds (λ f. expr_may strides f e) ((means a).gives m k).faults (((means b).gives m k).faults ++ rest)
      (wider_kinds (λ f. expr_may strides f a) (λ f. expr_may strides f e) ((means a).gives m k).faults fa (ha m k h))
      (both_kinds (λ f. expr_may strides f e) ((means b).gives m k).faults rest
      (wider_kinds (λ f. expr_may strides f b) (λ f. expr_may strides f e) ((means b).gives m k).faults fb
      (hb m k h)) i)

  -- of one that is evaluated, and one later
  later_two : (e a b : Expr) (t : Bool) → Allowed a → Allowed b
      → ((f : AlarmKind) → expr_may strides f a ≡ true → expr_may strides f e ≡ true)
      → ((f : AlarmKind) → expr_may strides f b ≡ true → expr_may strides f e ≡ true) → (m : Mode) (k : Known N)
      → k.model ≡ p.types.model
      → AreKinds (λ f. expr_may strides f e) (((means a).gives m k).faults
      ++ later_faults D (later D (means a) (means b) m t k ((means a).gives m k)))
  later_two e a b t ha hb fa fb m k h =
      both_kinds (λ f. expr_may strides f e) ((means a).gives m k).faults
      (later_faults D (later D (means a) (means b) m t k ((means a).gives m k)))
      (wider_kinds (λ f. expr_may strides f a) (λ f. expr_may strides f e) ((means a).gives m k).faults fa (ha m k h))
      (wider_kinds (λ f. expr_may strides f b) (λ f. expr_may strides f e)
      (later_faults D (later D (means a) (means b) m t k ((means a).gives m k))) fb
      (later_kinds (means a) (means b) (keeps D p.types.model (sizes D p) a) (λ f. expr_may strides f b) hb m t k
      ((means a).gives m k) h))

  left_of : (x a b : Bool) → a ≡ true → (x || (a || b)) ≡ true
  left_of x a b h = or_right x (a || b) (or_left a b h)

  right_of : (x a b : Bool) → b ≡ true → (x || (a || b)) ≡ true
  right_of x a b h = or_right x (a || b) (or_right a b h)

  mutual
    pub expr_kinds : (e : Expr) (x : Sort) → has_sort p.types p.blocks seen e x ≡ true → Allowed e
    expr_kinds (const u v) x h m k e = tt
    expr_kinds null_value x h m k e = tt
    expr_kinds (load what a) x h m k e =
        let s = type_where p.types p.blocks seen (λ u. has_scalar u what && is_sort (sort_of u) x)
        (place_has p.types p.blocks seen a) h in
        let i = (and_parts (has_scalar (ty_at p.types p.blocks seen s.0) what)
        (is_sort (sort_of (ty_at p.types p.blocks seen s.0)) x) s.1).0 in
        both_kinds (λ f. expr_may strides f (load what a)) (place D (sizes D p) a m k).faults
        (load_faults D (sizes D p) what m k (place D (sizes D p) a m k).pair)
        (wider_kinds (λ f. place_may strides f a) (λ f. expr_may strides f (load what a))
        (place D (sizes D p) a m k).faults
        (λ f g. right_of (is_one_of read_kinds f) (is_one_of (access_kinds strides f a) f) (place_may strides f a) g)
        (place_kinds a s.0 s.2 m k e))
        (load_kinds a s.0 s.2 what i m k e)
    expr_kinds (addr_of a) x h m k e = let s = addressed p seen a x h in place_kinds a s.0 s.1 m k e
    expr_kinds (binary op u a b) x h m k e =
        let s = three (is_integer x u) (has_sort p.types p.blocks seen a (integer u))
        (is_int (right_type op u (int_type_of b)) (has_sort p.types p.blocks seen b)) h in
        let own = int_where (right_type op u (int_type_of b)) (has_sort p.types p.blocks seen b) s.2 in
        two_kinds (binary op u a b) a b (expr_kinds a (integer u) s.1) (expr_kinds b (integer own.0) own.2)
        (λ f g. left_of (is_one_of (operator_kinds op u) f) (expr_may strides f a) (expr_may strides f b) g)
        (λ f g. right_of (is_one_of (operator_kinds op u) f) (expr_may strides f a) (expr_may strides f b) g) m k e
        (faults_on m (kind_of op) (λ s. binary_shown D op u (on ((means a).gives m k).pair s)
        (on ((means b).gives m k).pair s)))
        (operator_kind D law (λ f. expr_may strides f a || expr_may strides f b) op u m ((means a).gives m k).pair
        ((means b).gives m k).pair)
    expr_kinds (convert u c) x h m k e =
        let s = and_parts (is_integer x u) (is_int (int_type_of c) (has_sort p.types p.blocks seen c)) h in
        let own = int_where (int_type_of c) (has_sort p.types p.blocks seen c) s.1 in
        expr_kinds c (integer own.0) own.2 m k e
    expr_kinds (compare c u a b) x h m k e =
        let s = three (is_integer x I32) (has_sort p.types p.blocks seen a (integer u))
        (has_sort p.types p.blocks seen b (integer u)) h in
        both_kinds (λ f. expr_may strides f (compare c u a b)) ((means a).gives m k).faults
        ((means b).gives m k).faults
        (wider_kinds (λ f. expr_may strides f a) (λ f. expr_may strides f (compare c u a b))
        ((means a).gives m k).faults (λ f g. or_left (expr_may strides f a) (expr_may strides f b) g)
        (expr_kinds a (integer u) s.1 m k e))
        (wider_kinds (λ f. expr_may strides f b) (λ f. expr_may strides f (compare c u a b))
        ((means b).gives m k).faults (λ f g. or_right (expr_may strides f a) (expr_may strides f b) g)
        (expr_kinds b (integer u) s.2 m k e))
    expr_kinds (ptr_compare c a b) x h m k e =
        let s = three (is_integer x I32) (is_pointer p.types p.blocks seen (has_sort p.types p.blocks seen a))
        (is_pointer p.types p.blocks seen (has_sort p.types p.blocks seen b)) h in
        let one = pointer_where p.types p.blocks seen (has_sort p.types p.blocks seen a) s.1 in
        let other = pointer_where p.types p.blocks seen (has_sort p.types p.blocks seen b) s.2 in
        two_kinds (ptr_compare c a b) a b (expr_kinds a (pointer_to one.0) one.1)
        (expr_kinds b (pointer_to other.0) other.1)
        (λ f g. left_of (is_one_of (order_kinds c) f) (expr_may strides f a) (expr_may strides f b) g)
        (λ f g. right_of (is_one_of (order_kinds c) f) (expr_may strides f a) (expr_may strides f b) g) m k e
        (faults_on m U8 (λ s. shown_if (truths D c (on ((means a).gives m k).pair s)
        (on ((means b).gives m k).pair s)).mixed))
        (order_kind D law (λ f. expr_may strides f a || expr_may strides f b) c m ((means a).gives m k).pair
        ((means b).gives m k).pair)
    expr_kinds (logical_and a b) x h m k e =
        let s = three (is_integer x I32)
        (is_test p.types p.blocks seen (int_type_of a) (has_sort p.types p.blocks seen a))
        (is_test p.types p.blocks seen (int_type_of b) (has_sort p.types p.blocks seen b)) h in
        let one = tested_where p.types p.blocks seen (int_type_of a) (has_sort p.types p.blocks seen a) s.1 in
        let other = tested_where p.types p.blocks seen (int_type_of b) (has_sort p.types p.blocks seen b) s.2 in
        later_two (logical_and a b) a b true (expr_kinds a one.0 one.1) (expr_kinds b other.0 other.1)
        (λ f g. or_left (expr_may strides f a) (expr_may strides f b) g)
        (λ f g. or_right (expr_may strides f a) (expr_may strides f b) g) m k e
    expr_kinds (logical_or a b) x h m k e =
        let s = three (is_integer x I32)
        (is_test p.types p.blocks seen (int_type_of a) (has_sort p.types p.blocks seen a))
        (is_test p.types p.blocks seen (int_type_of b) (has_sort p.types p.blocks seen b)) h in
        let one = tested_where p.types p.blocks seen (int_type_of a) (has_sort p.types p.blocks seen a) s.1 in
        let other = tested_where p.types p.blocks seen (int_type_of b) (has_sort p.types p.blocks seen b) s.2 in
        later_two (logical_or a b) a b false (expr_kinds a one.0 one.1) (expr_kinds b other.0 other.1)
        (λ f g. or_left (expr_may strides f a) (expr_may strides f b) g)
        (λ f g. or_right (expr_may strides f a) (expr_may strides f b) g) m k e
    expr_kinds (logical_not c) x h m k e =
        let s = and_parts (is_integer x I32)
        (is_test p.types p.blocks seen (int_type_of c) (has_sort p.types p.blocks seen c)) h in
        let one = tested_where p.types p.blocks seen (int_type_of c) (has_sort p.types p.blocks seen c) s.1 in
        expr_kinds c one.0 one.1 m k e
    expr_kinds (conditional c a b) x h m k e =
        let s = three (is_test p.types p.blocks seen (int_type_of c) (has_sort p.types p.blocks seen c))
        (has_sort p.types p.blocks seen a x) (has_sort p.types p.blocks seen b x) h in
        let one = tested_where p.types p.blocks seen (int_type_of c) (has_sort p.types p.blocks seen c) s.0 in
        let test : AlarmKind → Bool = λ f. expr_may strides f (conditional c a b) in
        let v = (means c).gives m k in
        let y = later D (means c) (means a) m true k v in
        let z = later D (means c) (means b) m false k v in
        both_kinds test v.faults (later_faults D y ++ later_faults D z)
        (wider_kinds (λ f. expr_may strides f c) test v.faults
        (λ f g. or_left (expr_may strides f c) (expr_may strides f a || expr_may strides f b) g)
        (expr_kinds c one.0 one.1 m k e))
        (both_kinds test (later_faults D y) (later_faults D z)
        (wider_kinds (λ f. expr_may strides f a) test (later_faults D y)
        (λ f g. left_of (expr_may strides f c) (expr_may strides f a) (expr_may strides f b) g)
        (later_kinds (means c) (means a) (keeps D p.types.model (sizes D p) c) (λ f. expr_may strides f a)
        (expr_kinds a x s.1) m true k v e))
        (wider_kinds (λ f. expr_may strides f b) test (later_faults D z)
        (λ f g. right_of (expr_may strides f c) (expr_may strides f a) (expr_may strides f b) g)
        (later_kinds (means c) (means b) (keeps D p.types.model (sizes D p) c) (λ f. expr_may strides f b)
        (expr_kinds b x s.2) m false k v e)))
    expr_kinds (ptr_add c unit n back) x h m k e =
        let s = three (is_length unit && is_pointer_where x (λ ty. is_number (size p.types ty) unit))
        (has_sort p.types p.blocks seen c x) (is_int (int_type_of n) (has_sort p.types p.blocks seen n)) h in
        let own = int_where (int_type_of n) (has_sort p.types p.blocks seen n) s.2 in
        let test : AlarmKind → Bool = λ f. expr_may strides f (ptr_add c unit n back) in
        let null = faults_on m U6 (λ s. shown_if (moves_null (pointer D (on ((means c).gives m k).pair s))
        (number D (on ((means n).gives m k).pair s)))) in
        let out = faults_on m U5 (λ s. move_leaves D (sizes D p) unit back
        (pointer D (on ((means c).gives m k).pair s)) (number D (on ((means n).gives m k).pair s))) in
        two_kinds (ptr_add c unit n back) c n (expr_kinds c x s.1) (expr_kinds n (integer own.0) own.2)
        (λ f g. left_of (is_one_of address_kinds f) (expr_may strides f c) (expr_may strides f n) g)
        (λ f g. right_of (is_one_of address_kinds f) (expr_may strides f c) (expr_may strides f n) g) m k e
        (null ++ out)
        (both_kinds test null out (one_kind test m U6 _ refl) (one_kind test m U5 _ refl))
    expr_kinds (cast c) x h m k e =
        let s = and_parts (is_pointer_where x (λ ty. true))
        (is_pointer p.types p.blocks seen (has_sort p.types p.blocks seen c)) h in
        let one = pointer_where p.types p.blocks seen (has_sort p.types p.blocks seen c) s.1 in
        expr_kinds c (pointer_to one.0) one.1 m k e

    pub place_kinds : (a : Place) (ty : ℕ) → place_has p.types p.blocks seen a ty ≡ true → AllowedAt a
    place_kinds (block b) ty h m k e = tt
    place_kinds (deref c) ty h m k e = expr_kinds c (pointer_to ty) h m k e
    place_kinds (member a offset) ty h m k e =
        let s = type_where p.types p.blocks seen (λ u. has_member p.types u offset ty)
        (place_has p.types p.blocks seen a) h in
        both_kinds (λ f. place_may strides f (member a offset)) (place D (sizes D p) a m k).faults
        (member_faults D p strides offset m (place D (sizes D p) a m k))
        (wider_kinds (λ f. place_may strides f a) (λ f. place_may strides f (member a offset))
        (place D (sizes D p) a m k).faults (λ f g. or_right _ (place_may strides f a) g) (place_kinds a s.0 s.2 m k e))
        (ok.member_taken seen a offset ty h m k e)
    place_kinds (element a bound unit i) ty h m k e =
        let s = three (is_length bound && is_length unit && is_number (size p.types ty) unit)
        (some_type p.types p.blocks seen (λ u. is_array_of u ty && has_bound u bound)
        (place_has p.types p.blocks seen a)) (is_int (int_type_of i) (has_sort p.types p.blocks seen i)) h in
        let of = type_where p.types p.blocks seen (λ u. is_array_of u ty && has_bound u bound)
        (place_has p.types p.blocks seen a) s.1 in
        let own = int_where (int_type_of i) (has_sort p.types p.blocks seen i) s.2 in
        let test : AlarmKind → Bool = λ f. place_may strides f (element a bound unit i) in
        let x = place D (sizes D p) a m k in
        let y = (means i).gives m k in
        let null = faults_on m U6 (λ s. shown_if (moves_null (pointer D (on x.pair s)) (number D (on y.pair s)))) in
        let out = faults_on m U5 (λ s. index_leaves D bound (pointer D (on x.pair s)) (number D (on y.pair s))) in
        let past = faults_on m U5 (λ s. element_passes D bound unit (pointer D (on x.pair s)) (number D (on y.pair
        s))) in
        both_kinds test x.faults (y.faults ++ (null ++ (out ++ past)))
        (wider_kinds (λ f. place_may strides f a) test x.faults
        (λ f g. left_of (is_one_of address_kinds f) (place_may strides f a) (expr_may strides f i) g)
        (place_kinds a of.0 of.2 m k e))
        (both_kinds test y.faults (null ++ (out ++ past))
        (wider_kinds (λ f. expr_may strides f i) test y.faults
        (λ f g. right_of (is_one_of address_kinds f) (place_may strides f a) (expr_may strides f i) g)
        (expr_kinds i (integer own.0) own.2 m k e))
        (both_kinds test null (out ++ past) (one_kind test m U6 _ refl)
        (both_kinds test out past (one_kind test m U5 _ refl) (one_kind test m U5 _ refl))))
