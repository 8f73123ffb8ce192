-- The range that an alarm shows is there exactly where two ranges hold a pair of which arithmetic is undefined, and is exact.
use Rattle.std.proofs.Common.{◌≡◌, ℤ, ◌≤ℤ◌, Bool, true, false, cond, ◌&&◌, Some, None, is_some, refl, sym, subst}
use Rattle.ep_int.proofs.Arithmetic.{le_fact, le_test}
use Rattle.std.specs.Prelude.{IfSome}
use Rattle.std.proofs.lemmas.Bool.{and_parts, and_from}
use Rattle.ep_int.specs.declared.types.IntType.{IntType}
use Rattle.ep_int.specs.declared.types.BinOp.{BinOp}
use Rattle.ep_int.specs.Arith.{IsRightOperand}
use Rattle.ep_range_laws.specs.Ranges.{IsRange, LiesIn}
use Rattle.ep_range_laws.specs.Faults.{Takes, MayFault, IsShown, ShowsRange, shown_range, is_ordered, may_fault}
use Rattle.ep_range_laws.specs.Faults.{part_of, right_part, range_fault_of}
use Rattle.ep_range_laws.proofs.Comparisons.{le_trans}
use Rattle.ep_range_laws.proofs.Parts.{part_in_range, part_in_whole, into_part, right_is_right, right_in_whole}
use Rattle.ep_range_laws.proofs.Parts.{into_right}
use Rattle.ep_range_laws.proofs.FaultAt.{ShownAt, low_lies, low_shown, high_shown, each_shown}
use Rattle.ep_range_laws.proofs.FaultFound.{fault_found, found_fault}

module _ (o : BinOp) (t : IntType) (r s : ℤ × ℤ) where
  -- both parts have a number, and the test for a fault is true
  record Found : Type 0 where
    left : (part_of t r).0 ≤ℤ (part_of t r).1
    right : (right_part o t s).0 ≤ℤ (right_part o t s).1
    faults : may_fault o t (part_of t r) (right_part o t s) ≡ true

  pub test : Bool
  test = (is_ordered (part_of t r) && is_ordered (right_part o t s)) && may_fault o t (part_of t r) (right_part o t s)

  found : test ≡ true → Found
  unfolding test
  found e =
      let p = and_parts (is_ordered (part_of t r) && is_ordered (right_part o t s)) _ e in
      let q = and_parts (is_ordered (part_of t r)) (is_ordered (right_part o t s)) p.0 in
      record { left = le_fact _ _ q.0; right = le_fact _ _ q.1; faults = p.1 }

  some_at : (b : Bool) (v : ℤ × ℤ) → is_some (cond b (Some v) None) ≡ true → b ≡ true
  some_at true v e = refl
  some_at false v e = cc

  at_some : (b : Bool) (v : ℤ × ℤ) → b ≡ true → is_some (cond b (Some v) None) ≡ true
  at_some true v e = refl
  at_some false v e = cc

  if_some : (b : Bool) (v : ℤ × ℤ) (P : ℤ × ℤ → Type 0) → (b ≡ true → P v) → IfSome (cond b (Some v) None) P
  if_some true v P f = f refl
  if_some false v P f = tt

  takes : IsRange s.0 s.1 → (x y : ℤ) → LiesIn (part_of t r) x → LiesIn (right_part o t s) y → Takes o t x y
  takes i x y h k = record { left = part_in_range t r x h; right = right_is_right o t s y i k }

  -- the low end of the right part is one that arithmetic takes
  low_right : IsRange s.0 s.1 → Found → IsRightOperand o t (right_part o t s).0
  low_right i f = right_is_right o t s _ i (low_lies (right_part o t s) f.right)

  shown_between : IsRange s.0 s.1 → (v : ℤ) → ShownAt o (part_of t r) (right_part o t s) v → IsShown o t r s v
  shown_between i v h = record { x = h.x; y = h.y; left = part_in_whole t r _ h.left; right = right_in_whole o t s _ h.right; taken = takes i _ _ h.left h.right; shown = h.shown }

  shows : IsRange s.0 s.1 → Found → ShowsRange o t r s (shown_range o (part_of t r) (right_part o t s))
  shows i f = record {
    each = λ v h. subst (LiesIn _) (sym h.shown) (each_shown o (part_of t r) (right_part o t s) h.x h.y (into_part t r h.x h.left h.taken.left) (into_right o t s h.y h.right h.taken.right));
    low = shown_between i _ (low_shown o (part_of t r) (right_part o t s) f.left f.right);
    high = shown_between i _ (high_shown o (part_of t r) (right_part o t s) f.left f.right);
  }

  pub fault_is_found : IsRange s.0 s.1 → is_some (range_fault_of o t r s) ≡ true → MayFault o t r s
  unfolding test
  fault_is_found i e =
      let f = found (some_at test _ e) in
      let w = fault_found o t (part_of t r) (right_part o t s) f.left f.right (λ p. subst (λ o'. IsRightOperand o' t (right_part o t s).0) p (low_right i f)) (λ p. subst (λ o'. IsRightOperand o' t (right_part o t s).0) p (low_right i f)) f.faults in
      record { x = w.x; y = w.y; left = part_in_whole t r _ w.left; right = right_in_whole o t s _ w.right; taken = takes i _ _ w.left w.right; undefined = w.undefined }

  pub fault_is_shown : MayFault o t r s → is_some (range_fault_of o t r s) ≡ true
  unfolding test
  fault_is_shown h =
      let p = into_part t r h.x h.left h.taken.left in
      let q = into_right o t s h.y h.right h.taken.right in
      let f = found_fault o t (part_of t r) (right_part o t s) h.x h.y p q h.taken.left (λ e. subst (λ o'. IsRightOperand o' t h.y) e h.taken.right) (λ e. subst (λ o'. IsRightOperand o' t h.y) e h.taken.right) h.undefined in
      at_some test _ (and_from _ _ (and_from _ _ (le_test _ _ (le_trans _ _ _ p.low p.high)) (le_test _ _ (le_trans _ _ _ q.low q.high))) f)

  pub range_is_exact : IsRange s.0 s.1 → IfSome (range_fault_of o t r s) (ShowsRange o t r s)
  unfolding test
  range_is_exact i = if_some test _ (ShowsRange o t r s) (λ e. shows i (found e))
