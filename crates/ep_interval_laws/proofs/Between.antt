-- An interval by its ends.
use Rattle.std.specs.Prelude.{◌≡◌, ℤ, ◌≤ℤ◌, ◌<ℤ◌, Bool, true, false, Some, None, IsTrue, IsSomeAnd, IfSome, refl}
use Rattle.ep_int.proofs.Arithmetic.{le_test}
use Rattle.std.specs.Prelude.{int_le}
use Rattle.std.proofs.Common.{ap, sym, subst}
use Rattle.std.proofs.Props.{props}
use Rattle.ep_int.specs.declared.types.IntType.TheVariants.{I64, U64}
use Rattle.ep_int.specs.Types.{least_of, greatest_of}
use Rattle.ep_range_laws.specs.Ranges.{IsRange}
use Rattle.ep_range_laws.proofs.Comparisons.{between_true, le_false, le_trans}
use Rattle.ep_interval_laws.specs.Ends.{is_range}
use Rattle.ep_interval_laws.specs.Interval.{Interval, interval, between_at, between, holds_of}
use Rattle.ep_interval_laws.specs.Ranges.{is_range_true, is_range_from}

pub range_prop : (l h : ℤ) → IsProp (IsRange l h)
range_prop l h = Prim.hlevel props

-- two intervals of the same ends are the same
pub same_ends : (l h : ℤ) (p : IsRange l h) (k j : ℤ) (q : IsRange k j) → l ≡ k → h ≡ j → interval l h p ≡ interval k j q
same_ends l h p k j q e f =
    let Goal : ℤ → ℤ → Type 0 = λ a b. (r : IsRange a b) → interval l h p ≡ interval a b r in
    let base : Goal l h = λ r. ap (interval l h) (range_prop l h p r) in
    let one : Goal k h = subst (λ a. Goal a h) e base in
    let two : Goal k j = subst (λ b. Goal k b) f one in
    two q

not_both : (b : Bool) {P : Type 0} → b ≡ true → b ≡ false → P
not_both b p q = absurd cc

pub between_some : (l h : ℤ) (p : IsRange l h) → between l h ≡ Some (interval l h p)
between_some l h p = at_test (is_range l h) refl
  where
    at_test : (b : Bool) (e : is_range l h ≡ b) → between_at l h b e ≡ Some (interval l h p)
    at_test true e = ap (λ q. Some (interval l h q)) (range_prop l h (is_range_true l h e) p)
    at_test false e = not_both (is_range l h) (is_range_from l h p) e

pub between_none : (l h : ℤ) → h <ℤ l → between l h ≡ None
between_none l h p = at_test (is_range l h) refl
  where
    at_test : (b : Bool) (e : is_range l h ≡ b) → between_at l h b e ≡ None
    at_test true e = not_both (int_le l h) (le_test l h (is_range_true l h e).ordered) (le_false l h p)
    at_test false e = refl

-- what an interval of two ends has
pub between_parts : (l h : ℤ) (P : Interval → Type 0) → ((p : IsRange l h) → P (interval l h p)) → IfSome (between l h) P
between_parts l h P f = at_test (is_range l h) refl
  where
    at_test : (b : Bool) (e : is_range l h ≡ b) → IfSome (between_at l h b e) P
    at_test true e = f (is_range_true l h e)
    at_test false e = tt

pub between_holds : (l h z : ℤ) → least_of I64 ≤ℤ l → h ≤ℤ greatest_of U64 → l ≤ℤ z → z ≤ℤ h → IsSomeAnd (between l h) (λ c. IsTrue (holds_of c z))
between_holds l h z a b p q =
    let r : IsRange l h = record { above = a; ordered = le_trans l z h p q; below = b } in
    subst (λ o. IsSomeAnd o (λ c. IsTrue (holds_of c z))) (sym (between_some l h r)) (between_true l z z h p q)
