-- Arithmetic, conversions, comparisons and `!` of operands that have one value each.
use Rattle.std.proofs.Common.{◌≡◌, ℤ, not, ◌++◌, Some, None, Result, Ok, Err, refl}
use Rattle.ep_int.specs.declared.types.Order.{Order}
use Rattle.ep_int.specs.declared.types.IntType.{IntType}
use Rattle.ep_int.specs.declared.types.BinOp.{BinOp}
use Rattle.ep_int.specs.declared.types.Undef.{Undef}
use Rattle.ep_int.specs.declared.types.Cmp.{Cmp}
use Rattle.ep_int.specs.declared.types.Scalar.{Scalar}
use Rattle.ep_int.specs.declared.types.Scalar.TheVariants.{Int, Pointer}
use Rattle.ep_alarms.specs.declared.types.AlarmKind.TheVariants.{U8}
use Rattle.ep_int.specs.Types.{InRange, wrapped}
use Rattle.ep_int.specs.Arith.{arith_of, compares, IsRightOperand}
use Rattle.ep_int.specs.Memory.{Value as Datum, int, null, pointer, Found, has, faults}
use Rattle.ep_domain.specs.Domain.{Ops, Lawful}
use Rattle.ep_cells.specs.States.{Known}
use Rattle.ep_core.specs.Program.{Program}
use Rattle.ep_core.specs.Exec.{with, with_number, result_of, truth, is_true, pointers_compare}
use Rattle.ep_core.specs.Exec.{kind_of as kind_named}
use Rattle.ep_core.specs.Runs.{Side}
use Rattle.ep_equalities.specs.declared.pair.Mode.{Mode}
use Rattle.ep_evaluation.specs.Given.{Given, on, shown_if, faults_on}
use Rattle.ep_evaluation.specs.Operators.{kind_of}
use Rattle.ep_evaluation.specs.Evaluation.{binary_side, binary_shown, binary_given, convert_side, convert_given}
use Rattle.ep_evaluation.specs.Evaluation.{compare_side, compare_given, truths, pointers_side, pointers_given}
use Rattle.ep_evaluation.specs.Evaluation.{not_side, not_given}
use Rattle.ep_evaluation.specs.Laws.{Machine}
use Rattle.ep_evaluation.proofs.Basics.{faults_on-none}
use Rattle.ep_evaluation.proofs.General.{both_found, number_found}
use Rattle.ep_evaluation.proofs.Generic.{Part}
use Rattle.ep_evaluation.proofs.Operators.{on_numbers, of_numbers, numbers_are}
use Rattle.ep_evaluation.proofs.Comparisons.{on_values, values_are}
use Rattle.ep_singles.specs.Cells.{IsOneValue}
use Rattle.ep_single_sides.specs.Laws.{IsOneAs, SidesAreOne}
use Rattle.ep_single_given.specs.Laws.{GivesOne}
use Rattle.ep_single_given.proofs.Given.{no_faults}
use Rattle.ep_single_values.proofs.Given.{OneGives, two_one, one_one}

-- ---- what machines find

number_of_result : (q : Result ℤ Undef) (z : Datum) → result_of q ≡ has z → (c : ℤ) × (q ≡ Ok c)
number_of_result (Ok c) z e = (c, refl)
number_of_result (Err k) z e = absurd (let g : faults (kind_named k) ≡ has z = e in cc)

-- of an operand that is a number, and of any operand
pub number_part : (go : ℤ → Found) (x : Found) (z : Datum) → with_number x go ≡ has z
    → Part x (λ u. with_number (has u) go) z
number_part go x z e = let a = number_found x go z e in record { u = int a.0; first = a.1; is = a.2 }

pub value_part : (go : Datum → Found) (x : Found) (z : Datum) → with x go ≡ has z → Part x go z
value_part go x z e = let a = both_found x go z e in record { u = a.0; first = a.1; is = a.2 }

-- two values of which a machine takes the numbers are numbers
by_numbers : (go : ℤ → ℤ → Found) (u v z : Datum) (P : Datum → Datum → Type 0)
    → ((a b : ℤ) → go a b ≡ has z → P (int a) (int b)) → on_numbers go u v ≡ has z → P u v
by_numbers go (int a) (int b) z P h e = h a b e
by_numbers go (int a) null z P h e = absurd (let q : faults _ ≡ has z = e in cc)
by_numbers go (int a) (pointer b q) z P h e = absurd (let q : faults _ ≡ has z = e in cc)
by_numbers go null v z P h e = absurd (let q : faults _ ≡ has z = e in cc)
by_numbers go (pointer b q) v z P h e = absurd (let q : faults _ ≡ has z = e in cc)

by_number : (go : ℤ → Found) (u z : Datum) (P : Datum → Type 0) → ((a : ℤ) → P (int a))
    → with_number (has u) go ≡ has z → P u
by_number go (int a) z P h e = h a
by_number go null z P h e = absurd (let q : faults _ ≡ has z = e in cc)
by_number go (pointer b q) z P h e = absurd (let q : faults _ ≡ has z = e in cc)

module _ {N : Type 0} (D : Ops N) (law : Lawful D) (sides : SidesAreOne D) (p : Program) (ord : Side → Order) where
  -- ---- arithmetic

  pub binary_one : (o : BinOp) (t r : IntType) → ((y : ℤ) → InRange r y → IsRightOperand o t y)
      → (f h : Side → Machine) (x y : Mode → Known N → Given N) → OneGives D p ord (Int t) f x
      → OneGives D p ord (Int r) h y → GivesOne D p ord (of_numbers (λ x y. result_of (arith_of o t x y)) f h)
      (λ mode k. binary_given D o t mode (x mode k) (y mode k))
  binary_one o t r takes f h x y ox oy =
      two_one D p ord (Int t) (Int r) (on_numbers (λ x y. result_of (arith_of o t x y))) (binary_side D o t)
      (λ x y. binary_shown D o t x y ≡ None)
      (λ x y u v z fu i j e.
      by_numbers (λ x y. result_of (arith_of o t x y)) u v z
      (λ u v. IsOneAs D (Int t) x u → IsOneAs D (Int r) y v
      → (binary_shown D o t x y ≡ None) × IsOneValue D (binary_side D o t x y).value)
      (λ a b q i j.
      (let c = number_of_result (arith_of o t a b) z q in sides.binary o t r takes x y a b c.0 i j c.1)) e i j)
      f h (of_numbers (λ x y. result_of (arith_of o t x y)) f h)
      (numbers_are D law p ord (λ x y. result_of (arith_of o t x y)) t r f h).parts x y ox oy
      (λ mode x y.
      x.faults ++ (y.faults ++ faults_on mode (kind_of o) (λ s. binary_shown D o t (on x.pair s) (on y.pair s))))
      (λ mode x y ex ey q.
      (let own = faults_on mode (kind_of o) (λ s. binary_shown D o t (on x.pair s) (on y.pair s)) in
      no_faults x.faults (y.faults ++ own) ex
      (no_faults y.faults own ey
      (faults_on-none mode (kind_of o) (λ s. binary_shown D o t (on x.pair s) (on y.pair s)) q))))

  pub convert_one : (r t : IntType) (f : Side → Machine) (x : Mode → Known N → Given N)
      → OneGives D p ord (Int r) f x → GivesOne D p ord (λ s m. with_number (f s m) (λ z. has (int (wrapped t z))))
      (λ mode k. convert_given D (Some r) t mode (x mode k))
  convert_one r t f x ox =
      one_one D p ord (Int r) (λ u. with_number (has u) (λ z. has (int (wrapped t z)))) (convert_side D (Some r) t)
      (λ x. Unit {0})
      (λ x u z fu i e. (
        tt,
        by_number (λ z. has (int (wrapped t z))) u z
            (λ u. IsOneAs D (Int r) x u → IsOneValue D (convert_side D (Some r) t x).value)
            (λ a i. sides.convert r t x a i) e i,
      ))
      f (λ s m. with_number (f s m) (λ z. has (int (wrapped t z))))
      (λ s m z e. number_part (λ z. has (int (wrapped t z))) (f s m) z e) x ox (λ mode x. x.faults)
      (λ mode x e q. e)

  -- ---- comparisons

  pub compare_one : (c : Cmp) (t : IntType) (f h : Side → Machine) (x y : Mode → Known N → Given N)
      → OneGives D p ord (Int t) f x → OneGives D p ord (Int t) h y
      → GivesOne D p ord (of_numbers (λ x y. truth (compares c x y)) f h)
      (λ mode k. compare_given D c mode (x mode k) (y mode k))
  compare_one c t f h x y ox oy =
      two_one D p ord (Int t) (Int t) (on_numbers (λ x y. truth (compares c x y))) (compare_side D c)
      (λ x y. Unit {0})
      (λ x y u v z fu i j e. (
        tt,
        by_numbers (λ x y. truth (compares c x y)) u v z
            (λ u v. IsOneAs D (Int t) x u → IsOneAs D (Int t) y v → IsOneValue D (compare_side D c x y).value)
            (λ a b q i j. sides.compare c t x y a b i j) e i j,
      ))
      f h (of_numbers (λ x y. truth (compares c x y)) f h)
      (numbers_are D law p ord (λ x y. truth (compares c x y)) t t f h).parts x y ox oy
      (λ mode x y. x.faults ++ y.faults) (λ mode x y ex ey q. no_faults x.faults y.faults ex ey)

  pub pointers_one : (c : Cmp) (f h : Side → Machine) (x y : Mode → Known N → Given N)
      → OneGives D p ord Pointer f x → OneGives D p ord Pointer h y
      → GivesOne D p ord (on_values f h (λ u v. pointers_compare c u v))
      (λ mode k. pointers_given D c mode (x mode k) (y mode k))
  pointers_one c f h x y ox oy =
      two_one D p ord Pointer Pointer (λ u v. pointers_compare c u v) (pointers_side D c)
      (λ x y. shown_if (truths D c x y).mixed ≡ None)
      (λ x y u v z fu i j e. sides.pointers c x y u v z i j e) f h (on_values f h (λ u v. pointers_compare c u v))
      (values_are D law p ord Pointer Pointer (λ u v. pointers_compare c u v) f h).parts x y ox oy
      (λ mode x y.
      x.faults ++ (y.faults ++ faults_on mode U8 (λ s. shown_if (truths D c (on x.pair s) (on y.pair s)).mixed)))
      (λ mode x y ex ey q.
      (let own = faults_on mode U8 (λ s. shown_if (truths D c (on x.pair s) (on y.pair s)).mixed) in
      no_faults x.faults (y.faults ++ own) ex
      (no_faults y.faults own ey
      (faults_on-none mode U8 (λ s. shown_if (truths D c (on x.pair s) (on y.pair s)).mixed) q))))

  -- ---- `!`

  pub not_one : (w : Scalar) (f : Side → Machine) (x : Mode → Known N → Given N) → OneGives D p ord w f x
      → GivesOne D p ord (λ s m. with (f s m) (λ v. truth (not (is_true v)))) (λ mode k. not_given D mode (x mode k))
  not_one w f x ox =
      one_one D p ord w (λ v. truth (not (is_true v))) (not_side D) (λ x. Unit {0})
      (λ x u z fu i e. (tt, sides.negation w x u i)) f (λ s m. with (f s m) (λ v. truth (not (is_true v))))
      (λ s m z e. value_part (λ v. truth (not (is_true v))) (f s m) z e) x ox (λ mode x. x.faults)
      (λ mode x e q. e)
