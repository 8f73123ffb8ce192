-- Expressions and places of tame programs in good states.
use Rattle.std.proofs.Common.{◌≡◌, ℕ, ◌+◌, ◌≤◌, ◌<◌, Bool, true, false, ◌&&◌, ◌||◌, not, if◌then◌else◌, List, slice_get}
use Rattle.std.proofs.Common.{Option, Some, None, IfSome, ◌⊎◌, inl, inr, ⊎_elim, refl, sym, ap, subst, arith, nat_le, pos, ◌-ℤ◌}
use Rattle.std.specs.Prelude.{option_map}
use Rattle.std.proofs.lemmas.Bool.{and_parts, leb-true, le-leb, or_cases, or_left, or_right, not-true}
use Rattle.ep_int.specs.declared.types.IntType.TheVariants.{I32}
use Rattle.ep_int.specs.declared.types.Order.{Order}
use Rattle.ep_int.specs.declared.types.Scalar.{Scalar}
use Rattle.ep_int.specs.Memory.{contains}
use Rattle.ep_layout.specs.Table.{IsBuilt, size}
use Rattle.ep_domain.specs.Domain.{Ops}
use Rattle.ep_range_laws.specs.Ranges.{Encloses}
use Rattle.ep_pointers.specs.Sum.{move, moved_offset}
use Rattle.ep_cells.specs.States.{Known}
use Rattle.ep_core.specs.Program.{Place, block, deref, member, element, Block, Program, Expr, const, null_value, load}
use Rattle.ep_core.specs.Program.{addr_of, binary, convert, compare, ptr_compare, logical_and, logical_or, logical_not}
use Rattle.ep_core.specs.Program.{conditional, ptr_add, cast}
use Rattle.ep_core.specs.Exec.{greatest_offset}
use Rattle.ep_core.specs.Runs.{Side, left, right, is_global}
use Rattle.ep_core.specs.WellFormed.{Sort, integer, pointer_to, has_sort, place_has, is_test, is_int, is_pointer}
use Rattle.ep_core.specs.WellFormed.{is_integer, is_pointer_where, int_type_of, right_type, is_tested, blocks_fit}
use Rattle.ep_core.specs.WellFormed.{is_named, block_has, has_scalar, is_sort, sort_of, some_type, is_array_of, is_length}
use Rattle.ep_core.specs.WellFormed.{is_number}
use Rattle.ep_core.proofs.Sorts.{never, three, int_where, pointer_where, tested_where, type_where}
use Rattle.ep_equalities.specs.declared.pair.Mode.TheVariants.{Both}
use Rattle.ep_equalities.specs.declared.pair.Fault.{Fault}
use Rattle.ep_evaluation.specs.Given.{Given}
use Rattle.ep_evaluation.specs.Accesses.{index_in}
use Rattle.ep_evaluation.specs.Evaluation.{Means, expression, place, assumed, number, binary_side, convert_side}
use Rattle.ep_evaluation.specs.Evaluation.{compare_side, pointers_side, not_side, same_side, sum_side, move_side}
use Rattle.ep_evaluation.specs.Evaluation.{offset_number, element_side, later, later_side}
use Rattle.ep_evaluation.specs.Laws.{sizes_of}
use Rattle.ep_kinds.specs.Tame.{are_tame_types, is_tame_expr, is_tame_place, through_member, is_size_of_holder}
use Rattle.ep_tame_laws.specs.Tamely.{AreAmong, IfReached}
use Rattle.ep_tame_numbers.specs.Offsets.{KeepsOffsets}
use Rattle.ep_tame_values.specs.Laws.{IsIndex}
use Rattle.ep_tame_places.specs.Places.{PointsTo, LiesAt}
use Rattle.ep_tame_places.specs.Laws.{PlaceLaws}
use Rattle.ep_tame_places.proofs.Blocks.{is_number_of}
use Rattle.ep_tame_accesses.specs.Laws.{AccessesAreOfObjects}
use Rattle.ep_tame_states.specs.States.{ValueHas, IsGood}
use Rattle.ep_tame_states.specs.Laws.{StateLaws}
use Rattle.ep_tame_states.proofs.Meetings.{both_have}
use Rattle.ep_tame_twins.specs.Twins.{IsTwin, TwinPoints, TwinLies, ExprTwin, PlaceTwin}
use Rattle.ep_tame_twins.specs.Laws.{TwinLaws}
use Rattle.ep_tame_twins.proofs.Values.{value_as, moved_has, element_has}
use Rattle.ep_tame_twins.proofs.Alike.{one_twin, two_twin, IfGiven, short_twin, chosen_twin, later_given, both_reached}
use Rattle.ep_tame_twins.proofs.Alike.{given_as}
use Rattle.ep_tame_twins.proofs.Parts.{scalar_type, pointed_type, elements_where, member_small, MemberParts, member_parts}
use Rattle.ep_tame_twins.proofs.Parts.{ElementParts, element_parts}
use Rattle.ep_tame_twins.proofs.LoadsAlike.{load_twin, load_points}

module _ {N : Type 0} (D : Ops N) (p : Program) (ord : Side → Order) (built : IsBuilt p.types)
    (tame : are_tame_types p.types ≡ true) (fit : blocks_fit p.types p.blocks ≡ true) (keeps : KeepsOffsets D)
    (places : PlaceLaws D p) (access : AccessesAreOfObjects D p) (states : StateLaws D p ord)
    (seen live res : List ℕ) (among : AreAmong seen live) (h : Known N) where
  abbrev Good : Known N → Type 0
  Good = IsGood D p ord h live res

  abbrev sizes : List ℕ
  sizes = sizes_of p.blocks

  abbrev meaning : Expr → Means N
  meaning e = expression D sizes e

  abbrev typed : Expr → Sort → Bool
  typed e = has_sort p.types p.blocks seen e

  abbrev tested : Expr → Bool
  tested e = is_test p.types p.blocks seen (int_type_of e) (typed e)

  abbrev gives : Expr → Known N → Given N
  gives e k = (meaning e).gives Both k

  abbrev reach : Place → Known N → Given N
  reach a k = place D sizes a Both k

  abbrev Twin : Expr → Known N → Type 0
  Twin e k = ExprTwin D p seen live e k

  abbrev Lies : Place → Known N → Type 0
  Lies a k = PlaceTwin D p seen live a k

  live_named : (b : ℕ) → is_named p.types p.blocks seen b ≡ true → is_named p.types p.blocks live b ≡ true
  live_named b n =
      ⊎_elim (λ g. or_left (is_global (slice_get p.blocks b)) (contains b live) g)
      (λ s. or_right (is_global (slice_get p.blocks b)) (contains b live) (among b s))
      (or_cases (is_global (slice_get p.blocks b)) (contains b seen) n)

  assumes : (e : Expr) → tested e ≡ true → (t : Bool) (k : Known N) → Good k
      → IfReached Good (assumed D (meaning e) Both t k)
  assumes e typed t k g =
      both_reached D Good (meaning e) t k (states.assumed_alone seen e typed left t h k live res g)
      (λ j i. states.assumed_alone seen e typed right t h j live res i)

  -- ---- places by what they are places of

  block_lies : (b ty : ℕ) → place_has p.types p.blocks seen (block b) ty ≡ true
      → LiesAt D p live (block b) ty b (D.single (pos 0))
  block_lies b ty s =
      let q = and_parts (is_named p.types p.blocks seen b)
      (block_has p.types p.blocks seen (slice_get p.blocks b) ty) s in
      places.of_block live b ty (live_named b q.0) q.1

  target_lies : (e : Expr) (k : Known N) → Twin e k → Lies (deref e) k
  target_lies e k t = record {
    twin = one_twin D (same_side D sizes) (gives e k) (gives e k).faults t.twin;
    lies = λ ty s.
        value_as (PointsTo D p live ty) (LiesAt D p live (deref e) ty)
        (λ b n l. places.of_target live e ty b n l) (gives e k).pair.left.value (t.points ty s);
  }

  -- an offset of 32 bits is not cut
  short_offset : (P : ℕ → Type 0) (q : ℕ) → q ≤ 65536 → P q → P (if nat_le q greatest_offset then q else greatest_offset)
  short_offset P q small h = at (nat_le q greatest_offset) (le-leb q greatest_offset (omega (arith, small)))
    where
      at : (b : Bool) → b ≡ true → P (if b then q else greatest_offset)
      at true e = h
      at false e = never e

  member_lies : (a : Place) (q : ℕ) (k : Known N) → Lies a k → Lies (member a q) k
  member_lies a q k t = record {
    twin = one_twin D (λ x. move_side D sizes 1 false x (offset_number D sizes q)) (reach a k) _ t.twin;
    lies = λ ty s.
        (let m = member_parts p.types p.blocks seen a q ty s in
        let small = member_small p.types built m.whole q ty m.member in
        moved_has D (LiesAt D p live a m.whole) (LiesAt D p live (member a q) ty) sizes 1 false
        (reach a k).pair.left.value (offset_number D sizes q)
        (λ n e b x l. moved_by_it ty m small n e b x l)
        (t.lies m.whole m.typed));
  }
    where
      some_is : {x y : N} → Some x ≡ Some y → x ≡ y
      some_is e = cc

      moved_by_it : (ty : ℕ) (m : MemberParts p.types p.blocks seen a q ty) → q ≤ 65536 → (n : N)
          → offset_number D sizes q ≡ Some n → (b : ℕ) (x : N) → LiesAt D p live a m.whole b x
          → IfSome (moved_offset D (move n 1 false) (slice_get sizes b) x) (LiesAt D p live (member a q) ty b)
      moved_by_it ty m small n e b x l =
          subst (λ z. IfSome (moved_offset D (move z 1 false) (slice_get sizes b) x)
          (LiesAt D p live (member a q) ty b)) (some_is e)
          (short_offset (λ o. IfSome (moved_offset D (move (D.single (pos o)) 1 false) (slice_get sizes b) x)
          (LiesAt D p live (member a q) ty b)) q small
          (places.of_member live a m.whole q ty b x (slice_get sizes b) (omega (arith, small)) m.member l))

  index_is : (bound : ℕ) (n i : N) → index_in D bound n ≡ Some i → IsIndex D bound i
  index_is bound n i e =
      subst (λ (o : Option N). IfSome o (IsIndex D bound)) e
      (at (index_in D bound n) (keeps.cut_range n (pos 0) (pos bound -ℤ pos 1)))
    where
      at : (o : Option N)
          → IfSome o (λ c. Encloses (pos 0, pos bound -ℤ pos 1) (D.range c) × Encloses (D.range n) (D.range c))
          → IfSome o (IsIndex D bound)
      at None h = tt
      at (Some c) h = h.0

  element_lies : (a : Place) (bound unit : ℕ) (i : Expr) (k : Known N) → Lies a k → Twin i k
      → Lies (element a bound unit i) k
  element_lies a bound unit i k t u = record {
    twin = two_twin D (element_side D sizes bound unit) (reach a k) (gives i k) _ t.twin u.twin;
    lies = λ ty s.
        (let m = element_parts p.types p.blocks seen a ty bound unit i s in
        element_has D (LiesAt D p live a m.whole) (LiesAt D p live (element a bound unit i) ty) bound unit
        (reach a k).pair.left.value (gives i k).pair.left.value
        (λ n j e b x l. places.of_element live a m.whole ty bound unit b i j x (Some greatest_offset) m.elements m.sized
        m.some m.more m.small (index_is bound n j e) l)
        (t.lies m.whole m.typed));
  }

  -- ---- expressions by their operands

  load_by : (w : Scalar) (a : Place) (x : Sort) (k : Known N) → typed (load w a) x ≡ true → Good k → Lies a k
      → Twin (load w a) k
  load_by w a x k s g t = record {
    twin =
        (let u = type_where p.types p.blocks seen (λ o. has_scalar o w && is_sort (sort_of o) x)
        (place_has p.types p.blocks seen a) s in
        load_twin D p ord built tame fit places access live res h k g w u.0
        (scalar_type p.types u.0 w (and_parts (has_scalar (slice_get p.types.types u.0) w) _ u.1).0) a (reach a k) t.twin
        (t.lies u.0 u.2));
    points = λ ty s.
        (let u = type_where p.types p.blocks seen (λ o. has_scalar o w && is_sort (sort_of o) (pointer_to ty))
        (place_has p.types p.blocks seen a) s in
        load_points D p ord built tame fit places access live res h k g w u.0
        (scalar_type p.types u.0 w (and_parts (has_scalar (slice_get p.types.types u.0) w) _ u.1).0) a (reach a k) t.twin
        (t.lies u.0 u.2) ty (pointed_type p.types u.0 w ty u.1));
  }

  -- an address that is taken is of a place of some type
  address_type : (a : Place) (x : Sort) → typed (addr_of a) x ≡ true
      → (ty : ℕ) × (place_has p.types p.blocks seen a ty ≡ true)
  address_type a (integer t) s = never s
  address_type a (pointer_to ty) s =
      ⊎_elim (λ own. (ty, own))
      (λ array. (let v = type_where p.types p.blocks seen (λ o. is_array_of o ty) (place_has p.types p.blocks seen a)
      array in (v.0, v.2)))
      (or_cases (place_has p.types p.blocks seen a ty)
      (some_type p.types p.blocks seen (λ o. is_array_of o ty) (place_has p.types p.blocks seen a)) s)

  address_by : (a : Place) (k : Known N) → through_member a ≡ false → Lies a k → Twin (addr_of a) k
  address_by a k plain t = record {
    twin = one_twin D (same_side D sizes) (reach a k) (reach a k).faults t.twin;
    points = λ ty s. at ty
        (or_cases (place_has p.types p.blocks seen a ty)
        (some_type p.types p.blocks seen (λ o. is_array_of o ty) (place_has p.types p.blocks seen a)) s);
  }
    where
      at : (ty : ℕ) → (place_has p.types p.blocks seen a ty ≡ true)
          ⊎ (some_type p.types p.blocks seen (λ o. is_array_of o ty) (place_has p.types p.blocks seen a) ≡ true)
          → ValueHas (PointsTo D p live ty) (reach a k).pair.left.value
      at ty (inl own) =
          value_as (LiesAt D p live a ty) (PointsTo D p live ty) (λ b n l. places.of_address live a ty b n plain l)
          (reach a k).pair.left.value (t.lies ty own)
      at ty (inr array) =
          let v = type_where p.types p.blocks seen (λ o. is_array_of o ty) (place_has p.types p.blocks seen a) array in
          let el = elements_where p.types v.0 ty v.1 in
          value_as (LiesAt D p live a v.0) (PointsTo D p live ty)
          (λ b n l. places.of_array live v.0 ty el.0 b n el.1 (places.of_address live a v.0 b n plain l))
          (reach a k).pair.left.value (t.lies v.0 v.2)

  record SumParts (e : Expr) (unit : ℕ) (ty : ℕ) : Type 0 where
    pub more : 0 < unit
    pub sized : size p.types ty ≡ Some unit
    pub pointer : typed e (pointer_to ty) ≡ true

  sum_parts : (e n : Expr) (unit : ℕ) (back : Bool) (ty : ℕ) → typed (ptr_add e unit n back) (pointer_to ty) ≡ true
      → SumParts e unit ty
  sum_parts e n unit back ty s =
      let q = and_parts (is_length unit && is_number (size p.types ty) unit && typed e (pointer_to ty))
      (is_int (int_type_of n) (typed n)) s in
      let r = three (is_length unit) (is_number (size p.types ty) unit) (typed e (pointer_to ty)) q.0 in
      record {
        more = leb-true 1 unit (and_parts (nat_le 1 unit) (nat_le unit 65536) r.0).0;
        sized = is_number_of (size p.types ty) unit r.1;
        pointer = r.2;
      }

  sum_by : (e n : Expr) (unit : ℕ) (back : Bool) (k : Known N) → is_size_of_holder p.types unit ≡ false → Twin e k
      → Twin n k → Twin (ptr_add e unit n back) k
  sum_by e n unit back k none t u = record {
    twin = two_twin D (sum_side D sizes unit back) (gives e k) (gives n k) _ t.twin u.twin;
    points = λ ty s.
        (let q = sum_parts e n unit back ty s in
        moved_has D (PointsTo D p live ty) (PointsTo D p live ty) sizes unit back (gives e k).pair.left.value
        (number D (gives n k).pair.left)
        (λ m w b x l. places.moved live ty unit b m x back (slice_get sizes b) q.sized q.more none l)
        (t.points ty q.pointer));
  }

  -- an operand that may be evaluated
  later_by : (e a : Expr) → tested e ≡ true → ((j : Known N) → Good j → Twin a j) → (t : Bool) (k : Known N) → Good k
      → IsTwin (gives e k)
      → IfGiven D (TwinPoints D p seen live a) (later D (meaning e) (meaning a) Both t k (gives e k))
  later_by e a s go t k g twin =
      later_given D Good (TwinPoints D p seen live a) (meaning e) (meaning a) (λ t j i. assumes e s t j i) go t k
      (gives e k) g twin

  later_twin : (a : Expr) (o : Option (Given N)) → IfGiven D (TwinPoints D p seen live a) o → IfGiven D IsTwin o
  later_twin a o i = given_as D (TwinPoints D p seen live a) IsTwin (λ y t. t.twin) o i

  later_points : (a : Expr) (o : Option (Given N)) → IfGiven D (TwinPoints D p seen live a) o → (ty : ℕ)
      → typed a (pointer_to ty) ≡ true → ValueHas (PointsTo D p live ty) (later_side D o left).value
  later_points a None i ty s = tt
  later_points a (Some y) i ty s = i.points ty s

  chosen_by : (e a b : Expr) (k : Known N) → Twin e k
      → IfGiven D (TwinPoints D p seen live a) (later D (meaning e) (meaning a) Both true k (gives e k))
      → IfGiven D (TwinPoints D p seen live b) (later D (meaning e) (meaning b) Both false k (gives e k))
      → Twin (conditional e a b) k
  chosen_by e a b k t u v = record {
    twin = chosen_twin D (gives e k) (later D (meaning e) (meaning a) Both true k (gives e k))
        (later D (meaning e) (meaning b) Both false k (gives e k)) t.twin (later_twin a _ u) (later_twin b _ v);
    points = λ ty s.
        (let q = three (tested e) (typed a (pointer_to ty)) (typed b (pointer_to ty)) s in
        both_have (PointsTo D p live ty) D.join (λ b n m x y. places.joined live ty b n m x y) _ _
        (later_points a (later D (meaning e) (meaning a) Both true k (gives e k)) u ty q.1)
        (later_points b (later D (meaning e) (meaning b) Both false k (gives e k)) v ty q.2));
  }

  -- a sort that has a test
  sort_of_test : (e : Expr) → tested e ≡ true → (x : Sort) × (typed e x ≡ true)
  sort_of_test e s = tested_where p.types p.blocks seen (int_type_of e) (typed e) s

  int_of : (e : Expr) → is_int (int_type_of e) (typed e) ≡ true → (x : Sort) × (typed e x ≡ true)
  int_of e s = let i = int_where (int_type_of e) (typed e) s in (integer i.0, i.2)

  -- ---- all of them

  mutual
    expr_twin : (e : Expr) (x : Sort) → typed e x ≡ true → is_tame_expr p.types e ≡ true → (k : Known N) → Good k
        → Twin e k
    expr_twin (const u v) x s m k g = record {
      twin = record { equal = refl; alike = refl };
      points = λ ty s. never s;
    }
    expr_twin null_value x s m k g = record {
      twin = record { equal = refl; alike = refl };
      points = λ ty s. tt;
    }
    expr_twin (load w a) x s m k g =
        let u = type_where p.types p.blocks seen (λ o. has_scalar o w && is_sort (sort_of o) x)
        (place_has p.types p.blocks seen a) s in
        load_by w a x k s g (place_twin a u.0 u.2 m k g)
    expr_twin (addr_of a) x s m k g =
        let q = and_parts (not (through_member a)) (is_tame_place p.types a) m in
        let u = address_type a x s in
        address_by a k (not-true (through_member a) q.0) (place_twin a u.0 u.1 q.1 k g)
    expr_twin (binary op u a b) x s m k g =
        let q = three (is_integer x u) (typed a (integer u)) (is_int (right_type op u (int_type_of b)) (typed b)) s in
        let v = int_where (right_type op u (int_type_of b)) (typed b) q.2 in
        let n = and_parts (is_tame_expr p.types a) (is_tame_expr p.types b) m in
        record {
          twin = two_twin D (binary_side D op u) (gives a k) (gives b k) _
              (expr_twin a (integer u) q.1 n.0 k g).twin (expr_twin b (integer v.0) v.2 n.1 k g).twin;
          points = λ ty s. never s;
        }
    expr_twin (convert u e) x s m k g =
        let q = and_parts (is_integer x u) (is_int (int_type_of e) (typed e)) s in
        let v = int_of e q.1 in
        record {
          twin = one_twin D (convert_side D (int_type_of e) u) (gives e k) _ (expr_twin e v.0 v.1 m k g).twin;
          points = λ ty s. never s;
        }
    expr_twin (compare c u a b) x s m k g =
        let q = three (is_integer x I32) (typed a (integer u)) (typed b (integer u)) s in
        let n = and_parts (is_tame_expr p.types a) (is_tame_expr p.types b) m in
        record {
          twin = two_twin D (compare_side D c) (gives a k) (gives b k) _
              (expr_twin a (integer u) q.1 n.0 k g).twin (expr_twin b (integer u) q.2 n.1 k g).twin;
          points = λ ty s. never s;
        }
    expr_twin (ptr_compare c a b) x s m k g =
        let q = three (is_integer x I32) (is_pointer p.types p.blocks seen (typed a))
        (is_pointer p.types p.blocks seen (typed b)) s in
        let u = pointer_where p.types p.blocks seen (typed a) q.1 in
        let v = pointer_where p.types p.blocks seen (typed b) q.2 in
        let n = and_parts (is_tame_expr p.types a) (is_tame_expr p.types b) m in
        record {
          twin = two_twin D (pointers_side D c) (gives a k) (gives b k) _
              (expr_twin a (pointer_to u.0) u.1 n.0 k g).twin (expr_twin b (pointer_to v.0) v.1 n.1 k g).twin;
          points = λ ty s. never s;
        }
    expr_twin (logical_and a b) x s m k g =
        let q = three (is_integer x I32) (tested a) (tested b) s in
        let u = sort_of_test a q.1 in
        let v = sort_of_test b q.2 in
        let n = and_parts (is_tame_expr p.types a) (is_tame_expr p.types b) m in
        let t = expr_twin a u.0 u.1 n.0 k g in
        record {
          twin = short_twin D true (gives a k) (later D (meaning a) (meaning b) Both true k (gives a k)) t.twin
              (later_twin b _ (later_by a b q.1 (λ j i. expr_twin b v.0 v.1 n.1 j i) true k g t.twin));
          points = λ ty s. never s;
        }
    expr_twin (logical_or a b) x s m k g =
        let q = three (is_integer x I32) (tested a) (tested b) s in
        let u = sort_of_test a q.1 in
        let v = sort_of_test b q.2 in
        let n = and_parts (is_tame_expr p.types a) (is_tame_expr p.types b) m in
        let t = expr_twin a u.0 u.1 n.0 k g in
        record {
          twin = short_twin D false (gives a k) (later D (meaning a) (meaning b) Both false k (gives a k)) t.twin
              (later_twin b _ (later_by a b q.1 (λ j i. expr_twin b v.0 v.1 n.1 j i) false k g t.twin));
          points = λ ty s. never s;
        }
    expr_twin (logical_not e) x s m k g =
        let q = and_parts (is_integer x I32) (tested e) s in
        let u = sort_of_test e q.1 in
        record {
          twin = one_twin D (not_side D) (gives e k) _ (expr_twin e u.0 u.1 m k g).twin;
          points = λ ty s. never s;
        }
    expr_twin (conditional e a b) x s m k g =
        let q = three (tested e) (typed a x) (typed b x) s in
        let u = sort_of_test e q.0 in
        let n = and_parts (is_tame_expr p.types e) (is_tame_expr p.types a && is_tame_expr p.types b) m in
        let o = and_parts (is_tame_expr p.types a) (is_tame_expr p.types b) n.1 in
        let t = expr_twin e u.0 u.1 n.0 k g in
        chosen_by e a b k t (later_by e a q.0 (λ j i. expr_twin a x q.1 o.0 j i) true k g t.twin)
        (later_by e b q.0 (λ j i. expr_twin b x q.2 o.1 j i) false k g t.twin)
    expr_twin (ptr_add e unit n back) x s m k g =
        let q = and_parts (is_length unit && is_pointer_where x (λ ty. is_number (size p.types ty) unit) && typed e x)
        (is_int (int_type_of n) (typed n)) s in
        let r = three (is_length unit) (is_pointer_where x (λ ty. is_number (size p.types ty) unit)) (typed e x) q.0 in
        let v = int_of n q.1 in
        let o = and_parts (not (is_size_of_holder p.types unit)) (is_tame_expr p.types e && is_tame_expr p.types n) m in
        let w = and_parts (is_tame_expr p.types e) (is_tame_expr p.types n) o.1 in
        sum_by e n unit back k (not-true (is_size_of_holder p.types unit) o.0) (expr_twin e x r.2 w.0 k g)
        (expr_twin n v.0 v.1 w.1 k g)
    expr_twin (cast e) x s m k g = never m

    place_twin : (a : Place) (ty : ℕ) → place_has p.types p.blocks seen a ty ≡ true → is_tame_place p.types a ≡ true
        → (k : Known N) → Good k → Lies a k
    place_twin (block b) ty s m k g = record {
      twin = record { equal = refl; alike = refl };
      lies = λ ty s. (block_lies b ty s, tt);
    }
    place_twin (deref e) ty s m k g = target_lies e k (expr_twin e (pointer_to ty) s m k g)
    place_twin (member a q) ty s m k g =
        let v = member_parts p.types p.blocks seen a q ty s in
        member_lies a q k (place_twin a v.whole v.typed m k g)
    place_twin (element a bound unit i) ty s m k g =
        let v = element_parts p.types p.blocks seen a ty bound unit i s in
        let u = int_of i v.index in
        let n = and_parts (is_tame_place p.types a) (is_tame_expr p.types i) m in
        element_lies a bound unit i k (place_twin a v.whole v.typed n.0 k g) (expr_twin i u.0 u.1 n.1 k g)

pub twin_laws_of : {N : Type 0} (D : Ops N) (p : Program) (ord : Side → Order) → IsBuilt p.types
    → are_tame_types p.types ≡ true → blocks_fit p.types p.blocks ≡ true → KeepsOffsets D → PlaceLaws D p
    → AccessesAreOfObjects D p → StateLaws D p ord → TwinLaws D p ord
twin_laws_of D p ord built tame fit keeps places access states = record {
  expressions = λ seen live res among e x s m h k g.
      expr_twin D p ord built tame fit keeps places access states seen live res among h e x s m k g;
  places = λ seen live res among a ty s m h k g.
      place_twin D p ord built tame fit keeps places access states seen live res among h a ty s m k g;
}
