-- A pointer of a mover is one place on each machine, without a fault.
use Rattle.std.proofs.Common.{◌≡◌, ℕ, ◌+◌, ◌*◌, ◌^◌, ◌<◌, ◌≤◌, ℤ, pos, negsuc, ◌+ℤ◌, ◌*ℤ◌, Bool, true, false, ◌&&◌}
use Rattle.std.proofs.Common.{cond, List, [], ◌++◌, length, slice_get, Some, Ok, Err}
use Rattle.std.proofs.Common.{if◌then◌else◌, refl, sym, ap, ◌∙◌, subst, arith}
use Rattle.std.specs.Prelude.{int_le, nat_le, is_some}
use Rattle.std.proofs.lemmas.Bool.{and_parts, and_from, leb-true}
use Rattle.std.proofs.lemmas.Int.{ints}
use Rattle.std.proofs.lemmas.Option.{slice_get-map}
use Rattle.std.proofs.Math.Nat.{mul_comm}
use Rattle.ep_int.specs.declared.types.IntType.TheVariants.{U32}
use Rattle.ep_int.specs.declared.types.Order.{Order}
use Rattle.ep_int.specs.Types.{InRange, residue}
use Rattle.ep_int.specs.Arith.{is_in_range, IsOfSomeType}
use Rattle.ep_int.specs.Memory.{pointer, Found, has, faults, bounds}
use Rattle.ep_int.proofs.Arithmetic.{in_range_from_true, le_test}
use Rattle.ep_int.proofs.Basics.{is_some-some}
use Rattle.ep_alarms.specs.declared.types.AlarmKind.TheVariants.{U5, U6}
use Rattle.ep_domain.specs.Domain.{Ops, Lawful}
use Rattle.ep_pointers.specs.Value.{one_target, only_place}
use Rattle.ep_cells.specs.States.{Known}
use Rattle.ep_cells.specs.Meaning.{Memories}
use Rattle.ep_core.specs.Program.{block, deref, member, element, Expr, const, null_value, load, addr_of, binary}
use Rattle.ep_core.specs.Program.{convert, compare, ptr_compare, logical_and, logical_or, logical_not, conditional}
use Rattle.ep_core.specs.Program.{ptr_add, cast, Block, Program}
use Rattle.ep_core.specs.Exec.{value, with_number, moved, distance, place_in, size_at}
use Rattle.ep_core.specs.Runs.{Side, left, right}
use Rattle.ep_core.specs.WellFormed.{pointer_to, has_sort, is_length, is_pointer_where, is_number, is_int, int_type_of}
use Rattle.ep_core.specs.WellFormed.{blocks_fit}
use Rattle.ep_core.proofs.Sorts.{three, int_where}
use Rattle.ep_layout.specs.Table.{size}
use Rattle.ep_equalities.specs.declared.pair.Mode.TheVariants.{Both}
use Rattle.ep_equalities.specs.declared.pair.Fault.{Fault}
use Rattle.ep_evaluation.specs.Given.{Given, runs, on, shown_if, faults_on}
use Rattle.ep_evaluation.specs.Operators.{number_in}
use Rattle.ep_evaluation.specs.Accesses.{moves_null, move_leaves}
use Rattle.ep_evaluation.specs.Evaluation.{pointer as pointer_of, number, expression}
use Rattle.ep_evaluation.specs.Laws.{memory_of, sizes_of, IsKept}
use Rattle.ep_evaluation.proofs.Basics.{faults_on-none}
use Rattle.ep_evaluation.proofs.General.{reliable_none}
use Rattle.ep_evaluation.proofs.Gathered.{evaluation_laws}
use Rattle.ep_evaluation.proofs.Sums.{sizes_small}
use Rattle.ep_movers.specs.declared.Stop.TheVariants.{Faulty}
use Rattle.ep_movers.specs.Forms.{constant, block_of, is_moved_pointer}
use Rattle.ep_movers.specs.Movers.{Machine, bytes_in, offset_to, target_of}
use Rattle.ep_mover_cells.proofs.Loaded.{ok_same, went_on}
use Rattle.ep_singles.specs.Cells.{IsOneValue, one_pointer}
use Rattle.ep_single_places.specs.Laws.{IsOneInto}
use Rattle.ep_single_places.specs.MoveLaws.{IsUnit, AreSizes, IsOneMove}
use Rattle.ep_single_places.proofs.Moves.{moves_are_one}
use Rattle.ep_mover_values.proofs.Constants.{IsConstant, constant_found, constant_given_is}
use Rattle.ep_mover_values.proofs.Loads.{size_by}
use Rattle.ep_mover_values.proofs.Places.{no_faults}

pub both_run : (s : Side) → runs Both s ≡ true
both_run left = refl
both_run right = refl

zero_type : IsOfSomeType (pos 0)
zero_type = record { low = omega (arith, ints); high = omega (arith, ints) }

-- ---- so many units behind the begin of a block

record IsPlus (bytes unit q : ℕ) (v : ℤ) : Type 0 where
  index : ℕ
  is : v ≡ pos index
  offset : unit * index ≡ q
  inside : unit * index ≤ bytes

natural_of : (v : ℤ) → InRange U32 v → (n : ℕ) × (v ≡ pos n) × (residue (2 ^ 32) v ≡ n)
natural_of (pos n) h = (n, refl, omega (arith, ints, h.high))
natural_of (negsuc n) h = absurd (let z : ⊥ = omega (arith, ints, h.low) in z)

plus_by : (bytes unit q : ℕ) (v : ℤ) (t u : Bool) → is_in_range U32 v ≡ t
    → nat_le (unit * residue (2 ^ 32) v) bytes ≡ u
    → cond (t && u) (Ok (unit * residue (2 ^ 32) v)) (Err Faulty) ≡ Ok q → IsPlus bytes unit q v
plus_by bytes unit q v true true i j e =
    let n = natural_of v (in_range_from_true U32 v i) in
    record {
      index = n.0;
      is = n.1;
      offset = ap (λ r. unit * r) (sym n.2) ∙ ok_same (unit * residue (2 ^ 32) v) q e;
      inside = subst (λ r. unit * r ≤ bytes) n.2 (leb-true (unit * residue (2 ^ 32) v) bytes j);
    }
plus_by bytes unit q v true false i j e = absurd (let d : Err Faulty ≡ Ok q = e in cc)
plus_by bytes unit q v false u i j e = absurd (let d : Err Faulty ≡ Ok q = e in cc)

plus_of : (bytes unit q : ℕ) (v : ℤ) → offset_to bytes unit (Some v) ≡ Ok q → IsPlus bytes unit q v
plus_of bytes unit q v e =
    plus_by bytes unit q v (is_in_range U32 v) (nat_le (unit * residue (2 ^ 32) v) bytes) refl refl e

-- ---- on machines

at_unit : (size b unit n : ℕ) → unit * n ≤ size → place_in size b (pos (0 + n * unit)) ≡ has (pointer b (unit * n))
at_unit size b unit n l =
    let same : 0 + n * unit ≡ unit * n = let c = mul_comm n unit in omega (arith, c) in
    let inside : (int_le (pos 0) (pos (0 + n * unit)) && int_le (pos (0 + n * unit)) (pos size)) ≡ true
    = and_from (int_le (pos 0) (pos (0 + n * unit))) (int_le (pos (0 + n * unit)) (pos size))
    (le_test (pos 0) (pos (0 + n * unit)) (omega (arith, ints)))
    (le_test (pos (0 + n * unit)) (pos size) (omega (arith, ints, same, l))) in
    choose _ inside ∙ ap (λ q. has (pointer b q)) same
  where
    choose : (t : Bool) → t ≡ true → (if t then has (pointer b (0 + n * unit)) else faults bounds)
        ≡ has (pointer b (0 + n * unit))
    choose true e = refl
    choose false e = absurd (cc)

plus_there : (size b unit q : ℕ) (v : ℤ) → IsPlus size unit q v
    → place_in size b (pos 0 +ℤ distance unit v false) ≡ has (pointer b q)
plus_there size b unit q v i =
    ap (λ z. place_in size b (pos 0 +ℤ (z *ℤ pos unit))) i.is ∙ at_unit size b unit i.index i.inside
    ∙ ap (λ q. has (pointer b q)) i.offset

-- the pointer to a block
block_is : (e : Expr) (b : ℕ) → block_of e ≡ Some b → e ≡ addr_of (block b)
block_is (addr_of (block c)) b h = let same : c ≡ b = cc in ap (λ k. addr_of (block k)) same
block_is (addr_of (deref e)) b h = absurd cc
block_is (addr_of (member a offset)) b h = absurd cc
block_is (addr_of (element a bound unit i)) b h = absurd cc
block_is (const t v) b h = absurd cc
block_is null_value b h = absurd cc
block_is (load what a) b h = absurd cc
block_is (binary op t x y) b h = absurd cc
block_is (convert t e) b h = absurd cc
block_is (compare c t x y) b h = absurd cc
block_is (ptr_compare c x y) b h = absurd cc
block_is (logical_and x y) b h = absurd cc
block_is (logical_or x y) b h = absurd cc
block_is (logical_not e) b h = absurd cc
block_is (conditional e x y) b h = absurd cc
block_is (ptr_add e unit n back) b h = absurd cc
block_is (cast e) b h = absurd cc

-- ---- in what is known

module _ {N : Type 0} (D : Ops N) (law : Lawful D) (p : Program) (ord : Side → Order)
    (fit : blocks_fit p.types p.blocks ≡ true) (seen : List ℕ) (k : Known N) (m : Memories) (kept : IsKept D p ord k m)
    (ms : Side → Machine) (sized : (s : Side) (b : ℕ) → length (bytes_in (ms s).memory b) ≡ size_at (ord s) p b)
    (at : Side → ℕ × ℕ) (count : ℕ) (some : 0 < count)
    (inside : (s : Side) → (at s).1 + count ≤ size_at (ord s) p (at s).0) where
  abbrev gives : Expr → Given N
  gives e = (expression D (sizes_of p.blocks) e).gives Both k

  pub record IsPointed (e : Expr) : Type 0 where
    pub quiet : (gives e).faults ≡ []
    pub each : (s : Side) → IsOneInto D (on (gives e).pair s).value (at s).0 (at s).1

  into : (e : Expr) (ty : ℕ) → has_sort p.types p.blocks seen e (pointer_to ty) ≡ true → (gives e).faults ≡ []
      → (s : Side) (b q : ℕ) → value (ord s) p e (memory_of s m) ≡ has (pointer b q)
      → IsOneValue D (on (gives e).pair s).value → IsOneInto D (on (gives e).pair s).value b q
  into e ty typed quiet s b q found one =
      let sound = (evaluation_laws D law).expressions p ord fit seen e (pointer_to ty) typed in
      record {
        one = one;
        allowed = ((sound.gives k m kept Both).held (reliable_none Both (gives e).faults quiet) s (both_run s)
            (pointer b q) found).value;
      }

  -- ---- to the begin of a block

  module _ (b ty : ℕ) (typed : has_sort p.types p.blocks seen (addr_of (block b)) (pointer_to ty) ≡ true) where
    start_one : (s : Side) → IsOneValue D (on (gives (addr_of (block b))).pair s).value
    start_one left =
        one_pointer (one_target b (D.single (pos 0)))
        (only_place b (D.single (pos 0)) (pos 0) refl (law.single_range (pos 0) zero_type))
    start_one right =
        one_pointer (one_target b (D.single (pos 0)))
        (only_place b (D.single (pos 0)) (pos 0) refl (law.single_range (pos 0) zero_type))

    start_into : (s : Side) → IsOneInto D (on (gives (addr_of (block b))).pair s).value b 0
    start_into s = into (addr_of (block b)) ty typed refl s b 0 refl (start_one s)

  -- ---- to an element

  module _ (b unit : ℕ) (n : Expr) (v : ℤ) (c : constant n ≡ Some v) (ty : ℕ)
      (typed : has_sort p.types p.blocks seen (ptr_add (addr_of (block b)) unit n false) (pointer_to ty) ≡ true)
      (said : (s : Side) → target_of (ms s).memory (ptr_add (addr_of (block b)) unit n false) ≡ Ok (at s)) where
    abbrev sum : Expr
    sum = ptr_add (addr_of (block b)) unit n false

    abbrev x : Given N
    x = gives (addr_of (block b))

    abbrev y : Given N
    y = gives n

    record IsSum (s : Side) : Type 0 where
      offset : ℕ
      is : (b, offset) ≡ at s
      plus : IsPlus (size_at (ord s) p b) unit offset v
      fits : offset + count ≤ size_at (ord s) p b

    is_sum : (s : Side) → IsSum s
    is_sum s =
        let w = went_on (offset_to (length (bytes_in (ms s).memory b)) unit (constant n)) (λ q. Ok (b, q)) (at s)
        (said s) in
        let same : (b, w.0) ≡ at s = ok_same (b, w.0) (at s) w.2 in
        record {
          offset = w.0;
          is = same;
          plus = subst (λ l. IsPlus l unit w.0 v) (sized s b)
              (plus_of (length (bytes_in (ms s).memory b)) unit w.0 v
              (sym (ap (offset_to (length (bytes_in (ms s).memory b)) unit) c) ∙ w.1));
          fits = subst (λ (z : ℕ × ℕ). z.1 + count ≤ size_at (ord s) p z.0) (sym same) (inside s);
        }

    parts : (is_length unit ≡ true) × (has_sort p.types p.blocks seen (addr_of (block b)) (pointer_to ty) ≡ true)
        × (is_int (int_type_of n) (has_sort p.types p.blocks seen n) ≡ true)
    parts =
        let q = three (is_length unit && is_pointer_where (pointer_to ty) (λ u. is_number (size p.types u) unit))
        (has_sort p.types p.blocks seen (addr_of (block b)) (pointer_to ty))
        (is_int (int_type_of n) (has_sort p.types p.blocks seen n)) typed in (
          (and_parts (is_length unit)
              (is_pointer_where (pointer_to ty) (λ u. is_number (size p.types u) unit)) q.0).0,
          q.1,
          q.2,
        )

    unit_is : IsUnit unit
    unit_is =
        let h = and_parts (nat_le 1 unit) (nat_le unit 65536) parts.0 in
        let low = leb-true 1 unit h.0 in
        let high = leb-true unit 65536 h.1 in
        record { positive = omega (arith, low); small = omega (arith, high) }

    are_sizes : AreSizes (sizes_of p.blocks)
    are_sizes i = let l = sizes_small p fit i in omega (arith, l)

    counted : IsConstant D Both y v
    counted =
        let h = int_where (int_type_of n) (has_sort p.types p.blocks seen n) parts.2 in
        constant_given_is D law p seen Both k n v c _ h.2

    of_block : (s : Side) → slice_get (sizes_of p.blocks) b ≡ Some (size_at (ord s) p b)
    of_block s =
        slice_get-map (λ (z : Block). z.size) p.blocks b
        ∙ size_by (ord s) p (slice_get p.blocks b) (omega (arith, (is_sum s).fits, some))

    move : (s : Side) → IsOneMove D (sizes_of p.blocks) unit false (on x.pair s) (number D (on y.pair s))
    move s =
        let i = counted.each s (both_run s) in
        moves_are_one D law (sizes_of p.blocks) are_sizes unit unit_is false (on x.pair s) b 0 (size_at (ord s) p b)
        (start_into b ty parts.1 s) (omega arith) (of_block s) (number D (on y.pair s)) v
        (record { n = i.n; is = ap number_in i.value; single = i.single }) (pointer b (is_sum s).offset)
        (plus_there (size_at (ord s) p b) b unit (is_sum s).offset v (is_sum s).plus)

    abbrev nulls : List Fault
    nulls = faults_on Both U6 (λ s. shown_if (moves_null (pointer_of D (on x.pair s)) (number D (on y.pair s))))

    abbrev outs : List Fault
    outs =
        faults_on Both U5
        (λ s. move_leaves D (sizes_of p.blocks) unit false (pointer_of D (on x.pair s)) (number D (on y.pair s)))

    sum_quiet : (gives sum).faults ≡ []
    sum_quiet =
        no_faults x.faults (y.faults ++ (nulls ++ outs)) refl
        (no_faults y.faults (nulls ++ outs) counted.quiet
        (no_faults nulls outs
        (faults_on-none Both U6
        (λ s. shown_if (moves_null (pointer_of D (on x.pair s)) (number D (on y.pair s))))
        (λ s r. ap shown_if (move s).not_null))
        (faults_on-none Both U5
        (λ s. move_leaves D (sizes_of p.blocks) unit false (pointer_of D (on x.pair s)) (number D (on y.pair s)))
        (λ s r. (move s).inside))))

    sum_one : (s : Side) → IsOneValue D (on (gives sum).pair s).value
    sum_one left = (move left).one
    sum_one right = (move right).one

    sum_found : (s : Side) → value (ord s) p sum (memory_of s m) ≡ has (pointer b (is_sum s).offset)
    sum_found s =
        ap (λ (w : Found). with_number w (λ k. moved (ord s) p (has (pointer b 0)) (distance unit k false)))
        (constant_found (ord s) p (memory_of s m) n v c)
        ∙ plus_there (size_at (ord s) p b) b unit (is_sum s).offset v (is_sum s).plus

    sum_pointed : IsPointed sum
    sum_pointed = record {
      quiet = sum_quiet;
      each = λ s. subst (λ (z : ℕ × ℕ). IsOneInto D (on (gives sum).pair s).value z.0 z.1) (is_sum s).is
          (into sum ty typed sum_quiet s b (is_sum s).offset (sum_found s) (sum_one s));
    }

  pub pointed : (e : Expr) (ty : ℕ) → is_moved_pointer e ≡ true
      → has_sort p.types p.blocks seen e (pointer_to ty) ≡ true
      → ((s : Side) → target_of (ms s).memory e ≡ Ok (at s)) → IsPointed e
  pointed (addr_of (block b)) ty h typed said = record {
    quiet = refl;
    each = λ s. subst (λ (z : ℕ × ℕ). IsOneInto D (on (gives (addr_of (block b))).pair s).value z.0 z.1)
        (ok_same (b, 0) (at s) (said s)) (start_into b ty typed s);
  }
  pointed (ptr_add e unit n false) ty h typed said =
      let i = and_parts (is_some (block_of e)) (is_some (constant n) && true) h in
      let j = and_parts (is_some (constant n)) true i.1 in
      let b = is_some-some (block_of e) i.0 in
      let c = is_some-some (constant n) j.0 in
      let is : e ≡ addr_of (block b.0) = block_is e b.0 b.1 in
      subst (λ z. IsPointed (ptr_add z unit n false)) (sym is)
      (sum_pointed b.0 unit n c.0 c.1 ty
      (subst (λ z. has_sort p.types p.blocks seen (ptr_add z unit n false) (pointer_to ty) ≡ true) is typed)
      (λ s. subst (λ z. target_of (ms s).memory (ptr_add z unit n false) ≡ Ok (at s)) is (said s)))
  pointed (ptr_add e unit n true) ty h typed said =
      let i = and_parts (is_some (block_of e)) (is_some (constant n) && false) h in
      let j = and_parts (is_some (constant n)) false i.1 in
      absurd (let d : false ≡ true = j.1 in cc)
  pointed (addr_of (deref e)) ty h typed said = absurd cc
  pointed (addr_of (member a offset)) ty h typed said = absurd cc
  pointed (addr_of (element a bound unit i)) ty h typed said = absurd cc
  pointed (const t v) ty h typed said = absurd cc
  pointed null_value ty h typed said = absurd cc
  pointed (load what a) ty h typed said = absurd cc
  pointed (binary op t a b) ty h typed said = absurd cc
  pointed (convert t e) ty h typed said = absurd cc
  pointed (compare c t a b) ty h typed said = absurd cc
  pointed (ptr_compare c a b) ty h typed said = absurd cc
  pointed (logical_and a b) ty h typed said = absurd cc
  pointed (logical_or a b) ty h typed said = absurd cc
  pointed (logical_not e) ty h typed said = absurd cc
  pointed (conditional e a b) ty h typed said = absurd cc
  pointed (cast e) ty h typed said = absurd cc
