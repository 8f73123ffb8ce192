-- What evaluating an expression, and an lvalue (a place), gives over what is known of two memories; and what assuming
-- that it is true or false leaves of that (this project's rules, after Miné 2006 and Delmas, Ouadjaout and Miné 2021).
use Rattle.std.specs.Prelude.{ℕ, nat_le, ℤ, pos, Bool, true, false, ◌&&◌, ◌||◌, not, if◌then◌else◌, List, [], ◌++◌}
use Rattle.std.specs.Prelude.{map, Option, Some, None}
use Rattle.std.specs.Option.{option_map, option_map_or}
use Rattle.ep_int.specs.declared.types.IntType.{IntType}
use Rattle.ep_int.specs.declared.types.BinOp.{BinOp}
use Rattle.ep_int.specs.declared.types.Cmp.{Cmp}
use Rattle.ep_int.specs.declared.types.Cmp.TheVariants.{Ne}
use Rattle.ep_int.specs.declared.types.Scalar.{Scalar}
use Rattle.ep_int.specs.Types.{size_of}
use Rattle.ep_alarms.specs.declared.types.AlarmKind.TheVariants.{U4, U5, U6, U7, U8, U10}
use Rattle.ep_domain.specs.declared.outcome.Outcome.{Outcome}
use Rattle.ep_domain.specs.Domain.{Ops}
use Rattle.ep_pointers.specs.declared.compare.Truths.{Truths}
use Rattle.ep_pointers.specs.Value.{Pointers, null_alone, one_target}
use Rattle.ep_cells.specs.declared.cell.Cell.{Cell}
use Rattle.ep_cells.specs.declared.cell.Value.{Value}
use Rattle.ep_cells.specs.declared.cell.Value.TheVariants.{Num, Ptr}
use Rattle.ep_cells.specs.Both.{value_of_both}
use Rattle.ep_cells.specs.States.{Known}
use Rattle.ep_reads.specs.declared.read.ReadValue.{ReadValue}
use Rattle.ep_core.specs.Program.{Place, block, deref, member, element, Expr, const, null_value, load, addr_of, binary}
use Rattle.ep_core.specs.Program.{convert, compare, ptr_compare, logical_and, logical_or, logical_not, conditional}
use Rattle.ep_core.specs.Program.{ptr_add, cast}
use Rattle.ep_core.specs.Exec.{greatest_offset}
use Rattle.ep_core.specs.Runs.{Side, left, right}
use Rattle.ep_core.specs.WellFormed.{int_type_of}
use Rattle.ep_equalities.specs.declared.pair.Mode.{Mode}
use Rattle.ep_equalities.specs.declared.pair.Mode.TheVariants.{Both, Left, Right}
use Rattle.ep_equalities.specs.declared.pair.Fault.{Fault}
use Rattle.ep_equalities.specs.declared.pair.PairValue.{PairValue}
use Rattle.ep_equalities.specs.declared.pair.SideValue.{SideValue}
use Rattle.ep_equalities.specs.Same.{is_same}
use Rattle.ep_evaluation.specs.Given.{Given, cells_of, alone, is_both, mode_where, on, nothing, pair_on, Shown}
use Rattle.ep_evaluation.specs.Given.{faults_on, shown_if, shows_if, are_sure}
use Rattle.ep_pass.specs.States.{Fault as Told, Tested, Verdict, stuck, same as same_truths, differs}
use Rattle.ep_evaluation.specs.Operators.{number_in, pointer_in, kind_of, outcome_of, Form, constant_form, form_by}
use Rattle.ep_evaluation.specs.Operators.{converted_form, may_be, is_only, truth_value, compared, truths_of, test_of}
use Rattle.ep_evaluation.specs.Accesses.{spots, bounds_of, may_be_odd, reads_of, joined_reads, form_of_reads}
use Rattle.ep_evaluation.specs.Accesses.{is_unset, is_mixed, are_shared, moved_by, move_leaves, moves_null}
use Rattle.ep_evaluation.specs.Accesses.{element_of, index_leaves, element_passes}
use Rattle.ep_cell_ranges.specs.Spots.{Spot}
use Rattle.ep_evaluation.specs.Narrowed.{then_with, either_of, cell_of, again, if_kept, when_not, numbers_narrowed}
use Rattle.ep_evaluation.specs.Narrowed.{pointers_narrowed}

-- a cell of a side, or none, by what is known
abbrev pub ToCell : Type 0 → Type 0
ToCell N = Side → Known N → Option (Cell N)

-- What an expression means over what is known: what evaluating it in a mode gives; what assuming that it is of a truth
-- on a side leaves; and the cell of a side of which it is the number or pointer, if it is that of one.
pub record Means (N : Type 0) : Type 0 where
  pub gives : Mode → Known N → Given N
  pub assumes : Side → Bool → Known N → Option (Known N)
  pub cell : ToCell N

-- What a place means: what evaluating its address gives.
abbrev pub Reaches : Type 0 → Type 0
Reaches N = Mode → Known N → Given N

abbrev pub no_cell : {N : Type 0} → ToCell N
no_cell s k = None

module _ {N : Type 0} (D : Ops N) where
  abbrev pub number : SideValue N → Option N
  number x = number_in x.value

  abbrev pub pointer : SideValue N → Option (Pointers N)
  pointer x = pointer_in x.value

  abbrev pub same : Given N → Bool
  same x = is_same D x.pair

  abbrev pub formless : Option (Value N) → SideValue N
  formless v = record { value = v; form = None }

  -- ---- operators: what they give of the operands, side by side, with the faults of all
  -- Both sides are known to have the same where they have the same operands.

  abbrev pub by_one : (SideValue N → SideValue N) → Mode → Given N → List Fault → Given N
  by_one g m x faults = record { pair = pair_on m (λ s. g (on x.pair s)) (same x); faults = faults }

  abbrev pub by_two : (SideValue N → SideValue N → SideValue N) → Mode → Given N → Given N → List Fault → Given N
  by_two g m x y faults = record {
    pair = pair_on m (λ s. g (on x.pair s) (on y.pair s)) (same x && same y);
    faults = faults;
  }

  -- ---- assuming

  -- ---- a test without a rule of its own: a number is compared with 0, a pointer with null
  abbrev pub value_narrowed : Bool → Option (Value N) → (Known N → Option (Cell N)) → Known N → Option (Known N)
  value_narrowed t None c k = Some k
  value_narrowed t (Some (Num n)) c k =
      numbers_narrowed D (test_of t) (Some n) (Some (D.single (pos 0))) c (λ k. None) k
  value_narrowed t (Some (Ptr p)) c k = pointers_narrowed D Ne t (Some p) (Some null_alone) c (λ k. None) k

  -- What may be undefined, or a part of a pointer, says nothing: the state stays as it is.
  abbrev pub if_sure : Bool → Known N → Option (Known N) → Option (Known N)
  if_sure true k l = l
  if_sure false k l = Some k

  abbrev pub test_narrowed : Bool → SideValue N → List Fault → (Known N → Option (Cell N)) → Known N → Option (Known N)
  test_narrowed t x faults c k = if_sure (are_sure faults) k (value_narrowed t x.value c k)

  abbrev pub test_assumed : (Mode → Known N → Given N) → ToCell N → Side → Bool → Known N → Option (Known N)
  test_assumed gives c s t k = test_narrowed t (on (gives (alone s) k).pair s) (gives (alone s) k).faults (c s) k

  -- an expression without a rule of its own for assuming
  abbrev pub plain : (Mode → Known N → Given N) → Means N
  plain f = record { gives = f; assumes = test_assumed f no_cell; cell = no_cell }

  abbrev pub with_cell : (Mode → Known N → Given N) → ToCell N → Means N
  with_cell f c = record { gives = f; assumes = test_assumed f c; cell = c }

  -- ---- constants

  abbrev pub constant_given : IntType → ℤ → Mode → Given N
  constant_given t v m = record {
    pair = pair_on m (λ s. record { value = Some (Num (D.single v)); form = constant_form t v }) true;
    faults = [];
  }

  abbrev pub pointer_given : Pointers N → Mode → Given N
  pointer_given p m = record { pair = pair_on m (λ s. formless (Some (Ptr p))) true; faults = [] }

  -- ---- operators

  -- arithmetic, whose faults come behind those of both operands
  abbrev pub outcome : BinOp → IntType → SideValue N → SideValue N → Outcome N
  outcome o t x y = outcome_of D o t (number x) (number y)

  abbrev pub form_of_numbers : BinOp → IntType → Form → Option N → Form → Option N → Form
  form_of_numbers o t f None g b = None
  form_of_numbers o t f (Some a) g None = None
  form_of_numbers o t f (Some a) g (Some b) = form_by o t f (D.range a) g (D.range b)

  -- a value that isn't there has none
  abbrev pub form_if : Option N → Form → Form
  form_if None f = None
  form_if (Some n) f = f

  abbrev pub binary_side : BinOp → IntType → SideValue N → SideValue N → SideValue N
  binary_side o t x y = record {
    value = option_map Num (outcome o t x y).value;
    form = form_if (outcome o t x y).value (form_of_numbers o t x.form (number x) y.form (number y));
  }

  abbrev pub binary_shown : BinOp → IntType → SideValue N → SideValue N → Shown
  binary_shown o t x y = shows_if (outcome o t x y).fault (outcome o t x y).shown

  abbrev pub binary_given : BinOp → IntType → Mode → Given N → Given N → Given N
  binary_given o t m x y =
      by_two (binary_side o t) m x y
      (x.faults ++ (y.faults
      ++ faults_on m (kind_of o) (λ s. binary_shown o t (on x.pair s) (on y.pair s))))

  abbrev pub convert_form : Option IntType → IntType → Option N → Form → Form
  convert_form None t n f = None
  convert_form (Some u) t None f = None
  convert_form (Some u) t (Some n) None = None
  convert_form (Some u) t (Some n) (Some f) = converted_form u t (D.range n).0 f

  -- from a type, if it is one, to another
  abbrev pub convert_side : Option IntType → IntType → SideValue N → SideValue N
  convert_side u t x = record {
    value = option_map (λ n. Num (D.convert n t)) (number x);
    form = convert_form u t (number x) x.form;
  }

  -- comparisons of numbers
  abbrev pub compare_side : Cmp → SideValue N → SideValue N → SideValue N
  compare_side c x y = formless (compared D c (number x) (number y))

  -- comparisons of pointers: those into two blocks, and null, have no order (C11 6.5.8p5)
  abbrev pub truths : Cmp → SideValue N → SideValue N → Truths
  truths c x y = truths_of D c (pointer x) (pointer y)

  abbrev pub pointers_side : Cmp → SideValue N → SideValue N → SideValue N
  pointers_side c x y = formless (truth_value D (truths c x y).yes (truths c x y).no)

  abbrev pub pointers_given : Cmp → Mode → Given N → Given N → Given N
  pointers_given c m x y =
      by_two (pointers_side c) m x y
      (x.faults ++ (y.faults ++ faults_on m U8 (λ s. shown_if (truths c (on x.pair s) (on y.pair s)).mixed)))

  -- `!`
  abbrev pub not_side : SideValue N → SideValue N
  not_side x = formless (truth_value D (may_be D x.value false) (may_be D x.value true))

  -- ---- operands that are evaluated later, where the first may be of a truth

  -- on all running sides
  abbrev pub assumed : Means N → Mode → Bool → Known N → Option (Known N)
  assumed a Both t k = then_with (a.assumes left t k) (a.assumes right t)
  assumed a Left t k = a.assumes left t k
  assumed a Right t k = a.assumes right t k

  -- The truth is assumed where the first is the same on both sides, or one side runs; else the operand is evaluated in
  -- the state as it is.
  abbrev pub state_for : Means N → (stable : Bool) → Mode → Bool → Known N → Option (Known N)
  state_for a true m t k = assumed a m t k
  state_for a false m t k = Some k

  abbrev pub given_in : Means N → Mode → Option (Known N) → Option (Given N)
  given_in b m None = None
  given_in b m (Some k) = Some (b.gives m k)

  abbrev pub given_where : Means N → Means N → (stable : Bool) → Bool → Known N → Option Mode → Option (Given N)
  given_where a b stable t k None = None
  given_where a b stable t k (Some r) = given_in b r (state_for a stable r t k)

  -- What a later operand gives, evaluated on the sides on which the first may be of the truth. Where there are none, or
  -- the truth can't be assumed, it isn't evaluated, and has no faults.
  abbrev pub later : Means N → Means N → Mode → Bool → Known N → Given N → Option (Given N)
  later a b m t k x =
      given_where a b (same x || not (is_both m)) t k (mode_where m (λ s. may_be D (on x.pair s).value t))

  abbrev pub later_side : Option (Given N) → Side → SideValue N
  later_side None s = nothing
  later_side (Some y) s = on y.pair s

  abbrev pub later_faults : Option (Given N) → List Fault
  later_faults None = []
  later_faults (Some y) = y.faults

  abbrev pub later_same : Option (Given N) → Bool
  later_same None = true
  later_same (Some y) = same y

  -- `&&` where t is true, and `||` where it is false: t is the truth of the first that asks for the second
  abbrev pub short_side : Bool → SideValue N → SideValue N → SideValue N
  short_side t x y =
      formless (truth_value D (may_be D y.value true || (not t && may_be D x.value true))
      (may_be D y.value false || (t && may_be D x.value false)))

  abbrev pub short_given : Bool → Mode → Given N → Option (Given N) → Given N
  short_given t m x y = record {
    pair = pair_on m (λ s. short_side t (on x.pair s) (later_side y s)) (same x && later_same y);
    faults = x.faults ++ later_faults y;
  }

  -- `? :`, the join of the operands that are evaluated
  abbrev pub chosen_side : SideValue N → SideValue N → SideValue N
  chosen_side y z = formless (value_of_both D.join y.value z.value)

  abbrev pub chosen_given : Mode → Given N → Option (Given N) → Option (Given N) → Given N
  chosen_given m x y z = record {
    pair = pair_on m (λ s. chosen_side (later_side y s) (later_side z s)) (same x && (later_same y && later_same z));
    faults = x.faults ++ (later_faults y ++ later_faults z);
  }

  -- ---- what expressions mean by what their operands mean

  abbrev pub binary_means : BinOp → IntType → Means N → Means N → Means N
  binary_means o t a b = plain (λ m k. binary_given o t m (a.gives m k) (b.gives m k))

  abbrev pub convert_given : Option IntType → IntType → Mode → Given N → Given N
  convert_given u t m x = by_one (convert_side u t) m x x.faults

  abbrev pub convert_means : Option IntType → IntType → Means N → Means N
  convert_means u t a = with_cell (λ m k. convert_given u t m (a.gives m k)) (λ s k. if_kept t (a.cell s k))

  abbrev pub compare_given : Cmp → Mode → Given N → Given N → Given N
  compare_given c m x y = by_two (compare_side c) m x y (x.faults ++ y.faults)

  -- the comparison, or the opposite one where it is false, gives the operands' cells what passes its filter
  abbrev pub compare_narrowed : Cmp → Bool → (first second : Known N → Option (Cell N)) → Given N → Given N → Side
      → Known N → Option (Known N)
  compare_narrowed c t f g x y s k =
      if_sure (are_sure (x.faults ++ y.faults)) k
      (numbers_narrowed D (when_not c t) (number (on x.pair s)) (number (on y.pair s)) f g k)

  -- The second operand's cell is that of the state at hand, whatever the first one leaves: its value alone is looked up
  -- again there. So each operand is evaluated once.
  abbrev pub compare_means : Cmp → Means N → Means N → Means N
  compare_means c a b = record {
    gives = λ m k. compare_given c m (a.gives m k) (b.gives m k);
    assumes = λ s t k.
        compare_narrowed c t (a.cell s) (again (b.cell s k)) (a.gives (alone s) k) (b.gives (alone s) k) s k;
    cell = no_cell;
  }

  -- a comparison for equality with null tells whether an operand's cell is null
  abbrev pub pointers_compared : Cmp → Bool → (first second : Known N → Option (Cell N)) → Given N → Given N → Side
      → Known N → Option (Known N)
  pointers_compared c t f g x y s k =
      if_sure (are_sure (x.faults ++ y.faults)) k
      (pointers_narrowed D c t (pointer (on x.pair s)) (pointer (on y.pair s)) f g k)

  abbrev pub pointers_means : Cmp → Means N → Means N → Means N
  pointers_means c a b = record {
    gives = λ m k. pointers_given c m (a.gives m k) (b.gives m k);
    assumes = λ s t k.
        pointers_compared c t (a.cell s) (again (b.cell s k)) (a.gives (alone s) k) (b.gives (alone s) k) s k;
    cell = no_cell;
  }

  -- `!` assumes the other truth of its operand
  abbrev pub not_given : Mode → Given N → Given N
  not_given m x = by_one not_side m x x.faults

  abbrev pub not_means : Means N → Means N
  not_means a = record {
    gives = λ m k. not_given m (a.gives m k);
    assumes = λ s t k. a.assumes s (not t) k;
    cell = no_cell;
  }

  -- where the whole is of the truth that asks for the second, both are; else the first is of the other, or only the
  -- second
  abbrev pub short_assumed : Bool → Means N → Means N → Side → (asks : Bool) → Known N → Option (Known N)
  short_assumed t a b s true k = then_with (a.assumes s t k) (b.assumes s t)
  short_assumed t a b s false k =
      either_of D (a.assumes s (not t) k) (then_with (a.assumes s t k) (b.assumes s (not t)))

  abbrev pub short_in : Bool → Means N → Means N → Mode → Known N → Given N → Given N
  short_in t a b m k x = short_given t m x (later a b m t k x)

  abbrev pub and_means : Means N → Means N → Means N
  and_means a b = record {
    gives = λ m k. short_in true a b m k (a.gives m k);
    assumes = λ s t k. short_assumed true a b s t k;
    cell = no_cell;
  }

  abbrev pub or_means : Means N → Means N → Means N
  or_means a b = record {
    gives = λ m k. short_in false a b m k (a.gives m k);
    assumes = λ s t k. short_assumed false a b s (not t) k;
    cell = no_cell;
  }

  abbrev pub chosen_in : Means N → Means N → Means N → Mode → Known N → Given N → Given N
  chosen_in a b c m k x = chosen_given m x (later a b m true k x) (later a c m false k x)

  abbrev pub conditional_means : Means N → Means N → Means N → Means N
  conditional_means a b c = plain (λ m k. chosen_in a b c m k (a.gives m k))

  -- ---- addresses (with the sizes of the blocks)
  module _ (sizes : List ℕ) where
    abbrev pub targets_of : Option (Pointers N) → List (ℕ × N)
    targets_of None = []
    targets_of (Some p) = p.targets

    abbrev pub is_null : Option (Pointers N) → Bool
    is_null None = false
    is_null (Some p) = p.null

    -- the places of a scalar at an address
    abbrev pub places_at : Scalar → Known N → SideValue N → List Spot
    places_at w k x = spots D sizes (size_of k.model w) (size_of k.model w) (targets_of (pointer x))

    abbrev pub reads_at : Scalar → Known N → SideValue N → Side → List (ReadValue N)
    reads_at w k x s = reads_of D k (cells_of s) w (places_at w k x)

    -- the join of the reads at these places, with the form of a single one
    abbrev pub load_side : Scalar → Known N → SideValue N → Side → SideValue N
    load_side w k x s = record {
      value = joined_reads D (reads_at w k x s);
      form = form_of_reads (reads_at w k x s);
    }

    abbrev pub load_shared : Scalar → Known N → SideValue N → Side → Bool
    load_shared w k x s = are_shared k (cells_of s) w (places_at w k x)

    abbrev pub all_shared : Mode → Scalar → Known N → PairValue N → Bool
    all_shared Both w k x = load_shared w k x.left left && load_shared w k x.right right
    all_shared Left w k x = load_shared w k x.left left
    all_shared Right w k x = load_shared w k x.right right

    -- null, a place outside of its block, one that isn't aligned, and bytes that are undefined or parts of pointers
    abbrev pub load_faults : Scalar → Mode → Known N → PairValue N → List Fault
    load_faults w m k x =
        faults_on m U6 (λ s. shown_if (is_null (pointer (on x s))))
        ++ (faults_on m U5 (λ s. bounds_of D sizes (size_of k.model w) (targets_of (pointer (on x s))))
        ++ (faults_on m U7 (λ s. shown_if (may_be_odd D (size_of k.model w) (targets_of (pointer (on x s)))))
        ++ (faults_on m U4 (λ s. shown_if (is_unset (reads_at w k (on x s) s)))
        ++ faults_on m U10 (λ s. shown_if (is_mixed (reads_at w k (on x s) s))))))

    abbrev pub load_given : Scalar → Mode → Known N → Given N → Given N
    load_given w m k x = record {
      pair = pair_on m (λ s. load_side w k (on x.pair s) s) (same x && all_shared m w k x.pair);
      faults = x.faults ++ load_faults w m k x.pair;
    }

    abbrev pub cell_if : (sure : Bool) → Option (Cell N) → Option (Cell N)
    cell_if true c = c
    cell_if false c = None

    -- The cell of a load at one place, which assuming narrows; there is none where its address may be undefined.
    abbrev pub load_cell : Scalar → Reaches N → ToCell N
    load_cell w a s k =
        cell_if (are_sure (a (alone s) k).faults) (cell_of k s w (places_at w k (on (a (alone s) k).pair s)))

    abbrev pub load_means : Scalar → Reaches N → Means N
    load_means w a = with_cell (λ m k. load_given w m k (a m k)) (load_cell w a)

    -- a pointer that is moved
    abbrev pub move_side : (unit : ℕ) → (backwards : Bool) → SideValue N → Option N → SideValue N
    move_side unit back x n = formless (option_map Ptr (moved_by D sizes unit back (pointer x) n))

    abbrev pub sum_side : (unit : ℕ) → (backwards : Bool) → SideValue N → SideValue N → SideValue N
    sum_side unit back x y = move_side unit back x (number y)

    -- null, and results outside of their blocks, come behind the faults of both operands
    abbrev pub sum_given : (unit : ℕ) → (backwards : Bool) → Mode → Given N → Given N → Given N
    sum_given unit back m x y =
        by_two (sum_side unit back) m x y
        (x.faults ++ (y.faults
        ++ (faults_on m U6 (λ s. shown_if (moves_null (pointer (on x.pair s)) (number (on y.pair s))))
        ++ faults_on m U5 (λ s. move_leaves D sizes unit back (pointer (on x.pair s)) (number (on y.pair s))))))

    abbrev pub sum_means : (unit : ℕ) → (backwards : Bool) → Means N → Means N → Means N
    sum_means unit back a b = plain (λ m k. sum_given unit back m (a.gives m k) (b.gives m k))

    -- An offset has 32 bits: from the greatest on each one leaves every block.
    abbrev pub offset_number : (offset : ℕ) → Option N
    offset_number q = Some (D.single (pos (if nat_le q greatest_offset then q else greatest_offset)))

    -- a member, so many bytes behind the start of its aggregate
    abbrev pub member_given : (offset : ℕ) → Mode → Given N → Given N
    member_given q m x =
        by_one (λ x. move_side 1 false x (offset_number q)) m x
        (x.faults ++ (faults_on m U6 (λ s. shown_if (moves_null (pointer (on x.pair s)) (offset_number q)))
        ++ faults_on m U5 (λ s. move_leaves D sizes 1 false (pointer (on x.pair s)) (offset_number q))))

    abbrev pub element_side : (bound unit : ℕ) → SideValue N → SideValue N → SideValue N
    element_side bound unit x y = formless (option_map Ptr (element_of D bound unit (pointer x) (number y)))

    -- Null, an index that leaves its bound, and then an offset past 32 bits come behind the faults of both operands.
    abbrev pub element_given : (bound unit : ℕ) → Mode → Given N → Given N → Given N
    element_given bound unit m x y =
        by_two (element_side bound unit) m x y
        (x.faults ++ (y.faults
        ++ (faults_on m U6 (λ s. shown_if (moves_null (pointer (on x.pair s)) (number (on y.pair s))))
        ++ (faults_on m U5 (λ s. index_leaves D bound (pointer (on x.pair s)) (number (on y.pair s)))
        ++ faults_on m U5 (λ s. element_passes D bound unit (pointer (on x.pair s)) (number (on y.pair s)))))))

    -- the same pointer
    abbrev pub same_side : SideValue N → SideValue N
    same_side x = formless x.value

    abbrev pub same_given : Mode → Given N → Given N
    same_given m x = by_one same_side m x x.faults

    abbrev pub pointer_means : Reaches N → Means N
    pointer_means a = plain (λ m k. same_given m (a m k))

    -- ---- expressions and places

    abbrev mutual
      pub expression : Expr → Means N
      expression (const t v) = plain (λ m k. constant_given t v m)
      expression null_value = plain (λ m k. pointer_given null_alone m)
      expression (load w a) = load_means w (place a)
      expression (addr_of a) = pointer_means (place a)
      expression (binary o t a b) = binary_means o t (expression a) (expression b)
      expression (convert t e) = convert_means (int_type_of e) t (expression e)
      expression (compare c t a b) = compare_means c (expression a) (expression b)
      expression (ptr_compare c a b) = pointers_means c (expression a) (expression b)
      expression (logical_and a b) = and_means (expression a) (expression b)
      expression (logical_or a b) = or_means (expression a) (expression b)
      expression (logical_not e) = not_means (expression e)
      expression (conditional e a b) = conditional_means (expression e) (expression a) (expression b)
      expression (ptr_add e unit n back) = sum_means unit back (expression e) (expression n)
      expression (cast e) = pointer_means (expression e).gives

      pub place : Place → Reaches N
      place (block b) = λ m k. pointer_given (one_target b (D.single (pos 0))) m
      place (deref e) = λ m k. same_given m ((expression e).gives m k)
      place (member a offset) = λ m k. member_given offset m (place a m k)
      place (element a bound unit i) =
          λ m k. element_given bound unit m (place a m k) ((expression i).gives m k)

  -- ---- tests, as the analysis asks of them

  -- a running side has no value
  abbrev pub is_none : SideValue N → Bool
  is_none x = option_map_or (λ v. false) x.value true

  abbrev pub is_stuck : Mode → PairValue N → Bool
  is_stuck Both x = is_none x.left || is_none x.right
  is_stuck Left x = is_none x.left
  is_stuck Right x = is_none x.right

  abbrev pub verdict_by : (stuck same : Bool) → Verdict
  verdict_by true b = stuck
  verdict_by false true = same_truths
  verdict_by false false = differs

  abbrev pub told : Fault → Told
  told f = record { kind = f.kind; left = f.left; right = f.right }

  abbrev pub tested : Mode → Given N → Tested
  tested m x = record {
    faults = map told x.faults;
    verdict = verdict_by (is_stuck m x.pair) (same x || not (is_both m));
  }

  -- A test whose value is of the other truth alone can't have this one.
  abbrev pub unless : Bool → Option (Known N) → Option (Known N)
  unless true k = None
  unless false k = k

  abbrev pub is_other : Given N → Side → Bool → Bool
  is_other x s t = is_only D (on x.pair s).value (not t)

  -- where both sides run: the truths of the left and of the right
  abbrev pub test_taken : Means N → (on_left on_right : Bool) → Known N → Option (Known N)
  test_taken a t u k =
      unless (is_other (a.gives Both k) left t || is_other (a.gives Both k) right u)
      (then_with (a.assumes left t k) (a.assumes right u))

  -- where one side runs
  abbrev pub test_taken_by : Side → Means N → Bool → Known N → Option (Known N)
  test_taken_by s a t k = unless (is_other (a.gives (alone s) k) s t) (a.assumes s t k)
