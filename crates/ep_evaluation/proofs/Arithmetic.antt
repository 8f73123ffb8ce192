-- Arithmetic and conversions, given what their forms say.
use Rattle.std.proofs.Common.{◌≡◌, ℤ, Bool, true, false, ◌++◌, Option, Some, None, IfSome, IsSomeAnd, IsTrue, Result}
use Rattle.std.proofs.Common.{Ok, Err, refl, sym, ap, ◌∙◌, subst}
use Rattle.std.specs.Prelude.{MatchResult}
use Rattle.std.specs.Option.{option_map}
use Rattle.ep_int.specs.declared.types.Order.{Order}
use Rattle.ep_int.specs.declared.types.BinOp.{BinOp}
use Rattle.ep_int.specs.declared.types.Undef.{Undef}
use Rattle.ep_int.specs.declared.types.IntType.{IntType}
use Rattle.ep_int.specs.declared.types.Scalar.TheVariants.{Int}
use Rattle.ep_int.specs.Types.{InRange}
use Rattle.ep_int.specs.Arith.{arith_of, IsRightOperand}
use Rattle.ep_int.specs.Memory.{Value as Datum, int, Found, has, faults}
use Rattle.ep_int.proofs.Arithmetic.{arith_in_range}
use Rattle.ep_bitslice.specs.Bits.{Numbers}
use Rattle.ep_domain.specs.declared.outcome.Outcome.{Outcome}
use Rattle.ep_domain.specs.Domain.{Ops, Lawful}
use Rattle.ep_domain.specs.Domain.{Holds as HoldsNumber}
use Rattle.ep_cells.specs.declared.cell.Value.TheVariants.{Num}
use Rattle.ep_cells.specs.States.{Known, IsOfSort, HasRisingBlocks}
use Rattle.ep_cells.specs.Meaning.{Allows}
use Rattle.ep_core.specs.Program.{Program}
use Rattle.ep_core.specs.Exec.{kind_of as kind_named, result_of}
use Rattle.ep_core.specs.Runs.{Side}
use Rattle.ep_equalities.specs.declared.pair.Mode.{Mode}
use Rattle.ep_equalities.specs.declared.pair.SideValue.{SideValue}
use Rattle.ep_equalities.specs.Pairs.{SideIn, HasFormNumber}
use Rattle.ep_reads.specs.Laws.{IsFormRead}
use Rattle.ep_evaluation.specs.Given.{Given, shows_if, on, faults_on}
use Rattle.ep_evaluation.specs.Operators.{kind_of}
use Rattle.ep_evaluation.specs.Evaluation.{Means, outcome, binary_side, binary_shown, binary_given, binary_means}
use Rattle.ep_evaluation.specs.Laws.{Machine, SideFits, Sound}
use Rattle.ep_evaluation.proofs.General.{none_left, reliable_parts, unmarked, IsNum, is_int}
use Rattle.ep_evaluation.proofs.Generic.{Typed, Operator, HasFaults, two_hold, two_fit}
use Rattle.ep_evaluation.proofs.Operators.{on_numbers, of_numbers, numbers_are}
use Rattle.ep_evaluation.proofs.Leaves.{plain_sound}

pub not_marked : (b : Bool) (r : ℤ × ℤ) → shows_if b r ≡ None → b ≡ false
not_marked true r e = absurd cc
not_marked false r e = refl

module _ {N : Type 0} (D : Ops N) (law : Lawful D) (p : Program) (ord : Side → Order) where
  -- what is to be shown of forms: they say what the result is, and may be the form of a cell
  pub record BinaryForms (o : BinOp) (t r : IntType) : Type 0 where
    pub says : (n : Numbers) (k : Known N) (x y : SideValue N) (u v z : ℤ) → SideFits D p ord k (Int t) x
        → SideFits D p ord k (Int r) y → SideIn D n (Int t) x (int u) → SideIn D n (Int r) y (int v)
        → IsNum D t x.value u → IsNum D r y.value v → arith_of o t u v ≡ Ok z
        → IfSome (binary_side D o t x y).form (HasFormNumber n (Int t) (int z))
    pub fits : (k : Known N) (x y : SideValue N) → SideFits D p ord k (Int t) x → SideFits D p ord k (Int r) y
        → IfSome (binary_side D o t x y).form (IsFormRead k.cells (Int t) false)

  module _ (o : BinOp) (t r : IntType) (takes : (y : ℤ) → InRange r y → IsRightOperand o t y)
      (forms : BinaryForms o t r) where
    abbrev go : ℤ → ℤ → Found
    go x y = result_of (arith_of o t x y)

    outcome_at : (x y : SideValue N) (u v : ℤ) → (i : IsNum D t x.value u) → (j : IsNum D r y.value v)
        → outcome D o t x y ≡ D.op o t i.number j.number
    outcome_at x y u v i j = rw (i.is, j.is) refl

    op_of : (x y : SideValue N) (u v : ℤ) → (i : IsNum D t x.value u) → (j : IsNum D r y.value v)
        → MatchResult (arith_of o t u v) (λ z. IsSomeAnd (outcome D o t x y).value (λ c. HoldsNumber D c z))
        (λ _. IsTrue (outcome D o t x y).fault)
    op_of x y u v i j =
        subst (λ (q : Outcome N).
        MatchResult (arith_of o t u v) (λ z. IsSomeAnd q.value (λ c. HoldsNumber D c z)) (λ _. IsTrue q.fault))
        (sym (outcome_at x y u v i j))
        (law.op_holds o t i.number j.number u v (record { left = i.range; right = takes v j.range }) i.holds j.holds)

    value_at : (a : Option N) (z : ℤ) → InRange t z → IsSomeAnd a (λ c. HoldsNumber D c z)
        → Allows D (Int t) (option_map Num a) false (Some (int z))
    value_at None z i h = absurd h
    value_at (Some c) z i h = (i, h)

    by_result : (x y : SideValue N) (u v : ℤ) (q : Result ℤ Undef) → arith_of o t u v ≡ q → InRange t u → (w : Datum)
        → result_of q ≡ has w
        → MatchResult q (λ z. IsSomeAnd (outcome D o t x y).value (λ c. HoldsNumber D c z))
        (λ _. IsTrue (outcome D o t x y).fault)
        → (z : ℤ) × (arith_of o t u v ≡ Ok z) × (w ≡ int z) × Allows D (Int t) (binary_side D o t x y).value false
        (Some (int z))
    by_result x y u v (Ok z) e i w f m =
        (z, e, (let g : w ≡ int z = cc in g), value_at (outcome D o t x y).value z (arith_in_range o t u v z i e) m)
    by_result x y u v (Err k) e i w f m = absurd (let g : faults (kind_named k) ≡ has w = f in cc)

    held_numbers : (n : Numbers) (k : Known N) (x y : SideValue N) → SideFits D p ord k (Int t) x
        → SideFits D p ord k (Int r) y
        → (u v : ℤ) (w : Datum) → SideIn D n (Int t) x (int u) → SideIn D n (Int r) y (int v)
        → IsNum D t x.value u → IsNum D r y.value v → go u v ≡ has w → SideIn D n (Int t) (binary_side D o t x y) w
    held_numbers n k x y fx fy u v w h g i j e =
        let q = by_result x y u v (arith_of o t u v) refl i.range w e (op_of x y u v i j) in
        subst (λ d. SideIn D n (Int t) (binary_side D o t x y) d) (sym q.2)
        (record { value = q.3; form = forms.says n k x y u v q.0 fx fy h g i j q.1 })

    held : (n : Numbers) (k : Known N) (x y : SideValue N) → SideFits D p ord k (Int t) x → SideFits D p ord k (Int r) y
        → (u v w : Datum) → SideIn D n (Int t) x u → SideIn D n (Int r) y v → on_numbers go u v ≡ has w
        → SideIn D n (Int t) (binary_side D o t x y) w
    held n k x y fx fy u v w h g e =
        let a = is_int D t x.value u h.value in
        let b = is_int D r y.value v g.value in
        held_numbers n k x y fx fy a.z b.z w (subst (λ d. SideIn D n (Int t) x d) a.datum h)
        (subst (λ d. SideIn D n (Int r) y d) b.datum g)
        a.num b.num (sym (ap (λ d. on_numbers go d v) a.datum ∙ ap (λ d. on_numbers go (int a.z) d) b.datum) ∙ e)

    abbrev Quiet : SideValue N → SideValue N → Type 0
    Quiet x y = binary_shown D o t x y ≡ None

    found_by : (x y : SideValue N) (u v : ℤ) (q : Result ℤ Undef) → (outcome D o t x y).fault ≡ false
        → MatchResult q (λ z. IsSomeAnd (outcome D o t x y).value (λ c. HoldsNumber D c z))
        (λ _. IsTrue (outcome D o t x y).fault)
        → (w : Datum) × (result_of q ≡ has w)
    found_by x y u v (Ok z) e m = (int z, refl)
    found_by x y u v (Err k) e m = absurd (let g : true ≡ false = sym m ∙ e in cc)

    found : (n : Numbers) (x y : SideValue N) (u v : Datum) → SideIn D n (Int t) x u → SideIn D n (Int r) y v
        → Quiet x y
        → (w : Datum) × (on_numbers go u v ≡ has w)
    found n x y u v h k q =
        let a = is_int D t x.value u h.value in
        let b = is_int D r y.value v k.value in
        let z = found_by x y a.z b.z (arith_of o t a.z b.z)
        (not_marked (outcome D o t x y).fault (outcome D o t x y).shown q) (op_of x y a.z b.z a.num b.num) in
        (z.0, (ap (λ d. on_numbers go d v) a.datum ∙ ap (λ d. on_numbers go (int a.z) d) b.datum) ∙ z.1)

    num_sort : (a : Option N) → IsOfSort (Int t) (option_map Num a)
    num_sort None = tt
    num_sort (Some c) = tt

    num_rising : (a : Option N) → HasRisingBlocks (option_map Num a)
    num_rising None = tt
    num_rising (Some c) = tt

    operator : Operator D law p ord (Int t) (Int t) (Int r) (on_numbers go) (binary_side D o t) Quiet
    operator = record {
      held = λ n k x y u v w _ _ fx fy h i e. held n k x y fx fy u v w h i e;
      found = λ n k x y u v _ _ _ _ h i q. found n x y u v h i q;
      fits = λ k x y h i. record {
        sort = num_sort (outcome D o t x y).value;
        rising = num_rising
            (outcome D o t x y).value;
        form = forms.fits k x y h i;
      };
    }

    binary_faults : (mode : Mode) (x y : Given N)
        → HasFaults D law p ord mode x y Quiet (binary_given D o t mode x y).faults
    binary_faults mode x y =
        let own = faults_on mode (kind_of o) (λ s. binary_shown D o t (on x.pair s) (on y.pair s)) in record {
          none_first = λ e. (none_left x.faults (y.faults ++ own) e).0;
          none_second = λ e. (none_left y.faults own (none_left x.faults (y.faults ++ own) e).1).0;
          quiet = λ e s i. unmarked mode (kind_of o) (λ s. binary_shown D o t (on x.pair s) (on y.pair s)) s
              (none_left y.faults own (none_left x.faults (y.faults ++ own) e).1).1 i;
          sure_first = λ e. (reliable_parts mode x.faults (y.faults ++ own) e).0;
          sure_second = λ e. (reliable_parts mode y.faults own (reliable_parts mode x.faults (y.faults ++ own) e).1).0;
        }

    pub binary_sound : (f h : Side → Machine) (a b : Means N) → Typed p (Int t) f → Typed p (Int r) h
        → Sound D p ord (Int t) f a
        → Sound D p ord (Int r) h b → Sound D p ord (Int t) (of_numbers go f h) (binary_means D o t a b)
    binary_sound f h a b tf th sa sb =
        plain_sound D law p ord (Int t) (of_numbers go f h) (λ m k. binary_given D o t m (a.gives m k) (b.gives m k))
        (λ k m kept mode.
        two_hold D law p ord (Int t) (Int t) (Int r) (on_numbers go) (binary_side D o t) Quiet f h
        (of_numbers go f h) operator
        (numbers_are D law p ord go t r f h) tf th k m kept mode (a.gives mode k) (b.gives mode k)
        (binary_given D o t mode (a.gives mode k) (b.gives mode k)).faults
        (binary_faults mode (a.gives mode k) (b.gives mode k))
        (sa.gives k m kept mode) (sb.gives k m kept mode) (sa.fits k kept.state mode) (sb.fits k kept.state mode))
        (λ k i mode s.
        two_fit D law p ord (Int t) (Int t) (Int r) (on_numbers go) (binary_side D o t) Quiet operator k mode
        (a.gives mode k) (b.gives mode k)
        (binary_given D o t mode (a.gives mode k) (b.gives mode k)).faults (sa.fits k i mode) (sb.fits k i mode) s)
