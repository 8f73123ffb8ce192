-- Edges, meets and comparisons are exact.
use Rattle.std.specs.Prelude.{◌≡◌, ◌≢◌, ◌↔◌, ℤ, ◌≤ℤ◌, ◌⊎◌, Bool, true, false, cond, not, Option, Some, None, IsTrue}
use Rattle.std.specs.Prelude.{IfSome, IsSomeAnd, IsSome, int_lt, refl}
use Rattle.std.proofs.Common.{arith, inl, inr}
use Rattle.std.proofs.lemmas.Int.{ints}
use Rattle.std.proofs.lemmas.Bool.{or_cases}
use Rattle.ep_int.specs.declared.types.IntType.TheVariants.{I64, U64}
use Rattle.ep_int.specs.declared.types.Cmp.{Cmp}
use Rattle.ep_int.specs.declared.types.Cmp.TheVariants.{Eq, Ne, Lt, Le, Gt, Ge}
use Rattle.ep_int.specs.Types.{least_of, greatest_of}
use Rattle.ep_int.specs.Arith.{int_eq, compares}
use Rattle.ep_range_laws.specs.Ranges.{LiesIn}
use Rattle.ep_range_laws.proofs.Comparisons.{le_self, from_lt_true}
use Rattle.ep_domain.specs.Laws.Shared.{from_eq}
use Rattle.ep_bit_laws.specs.Patterns.{Has, joint}
use Rattle.ep_bit_laws.proofs.Patterns.{joint_left, joint_right}
use Rattle.ep_bit_laws.proofs.Edges as edges
use Rattle.ep_bit_laws.proofs.Edges.{AreEnds}
use Rattle.ep_bit_domain.specs.KnownBits.{KnownBits, pattern_of, holds_of, edges_of, range_of, meet_of, may_compare}
use Rattle.ep_bit_domain.specs.KnownBits.{kept_if_compare, filter_of}
use Rattle.ep_bit_domain.specs.Exact.{AreEdges, IsEdges, IsCommon, SomeCompare}
use Rattle.ep_bit_domain.proofs.Formed.{is_pattern_of, holds, held, formed_inside}
use Rattle.ep_bit_domain.proofs.Simple.{bounds, range_ends, meet_has, compared}

pub edges_exact : (c : KnownBits) (lo hi : ℤ) → IsEdges c lo hi (edges_of c lo hi)
edges_exact c lo hi = at (edges_of c lo hi) (edges.edges_are_ends (pattern_of c) (is_pattern_of c) lo hi)
    (λ z h k. edges.edges_enclose (pattern_of c) (is_pattern_of c) lo hi z (holds c z h) k.low k.high)
  where
    at : (o : Option (ℤ × ℤ)) → IfSome o (AreEnds (pattern_of c) lo hi) →
        ((z : ℤ) → IsTrue (holds_of c z) → LiesIn (lo, hi) z → IsSomeAnd o (λ e. LiesIn e z)) → IsEdges c lo hi o
    at None h k = k
    at (Some e) h k = record {
      first = held c e.0 h.first;
      last = held c e.1 h.last;
      low = h.low;
      high =
          h.high;
      each = k;
    }

pub range_exact : (c : KnownBits) → AreEdges c (least_of I64) (greatest_of U64) (range_of c)
range_exact c =
    let b = bounds c in
    record {
      first = held c _ b.first;
      last = held c _ b.last;
      low = b.first.number.low;
      high =
          b.last.number.high;
      each = λ z h k. b.each z (holds c z h);
    }

pub meet_exact : (a b : KnownBits) → IsCommon a b (meet_of a b)
meet_exact a b = at (meet_of a b) (formed_inside (joint (pattern_of a) (pattern_of b)))
    (λ z h k. meet_has a b z (holds a z h) (holds b z k))
  where
    at : (o : Option KnownBits) → IfSome o (λ c. (z : ℤ) → Has (pattern_of c) z → Has
        (joint (pattern_of a) (pattern_of b)) z) →
        ((z : ℤ) → IsTrue (holds_of a z) → IsTrue (holds_of b z) → IsSomeAnd o (λ c. Has (pattern_of c) z))
        → IsCommon a b o
    at None h k = k
    at (Some c) h k = λ z. (
      λ m. let j = h z (holds c z m) in (
        held a z (joint_left (pattern_of a) (pattern_of b) z j),
        held b z
            (joint_right (pattern_of a) (pattern_of b) z j),
      ),
      λ m. held c z (k z m.0 m.1),
    )

-- numbers of ranges that may compare do
found : (c : Cmp) (r s : ℤ × ℤ) → c ≢ Eq → r.0 ≤ℤ r.1 → s.0 ≤ℤ s.1 → may_compare c r s ≡ true → SomeCompare c r s
found Eq r s n p q e = absurd (n refl)
found Ne r s n p q e = by (or_cases _ _ e)
  where
    differ : (x y : ℤ) → int_lt x y ≡ true → compares Ne x y ≡ true
    differ x y f = at (int_eq x y) refl
      where
        at : (b : Bool) → int_eq x y ≡ b → not b ≡ true
        at false g = refl
        at true g = let i = from_lt_true x y f in let j = from_eq x y g in absurd (omega (arith, ints))

    differ_too : (x y : ℤ) → int_lt y x ≡ true → compares Ne x y ≡ true
    differ_too x y f = at (int_eq x y) refl
      where
        at : (b : Bool) → int_eq x y ≡ b → not b ≡ true
        at false g = refl
        at true g = let i = from_lt_true y x f in let j = from_eq x y g in absurd (omega (arith, ints))

    by : (int_lt r.0 s.1 ≡ true) ⊎ (int_lt s.0 r.1 ≡ true) → SomeCompare Ne r s
    by (inl f) = record {
      x = r.0;
      y = s.1;
      left = record { low = le_self _; high = p };
      right =
          record { low = q; high = le_self _ };
      compared = differ r.0 s.1 f;
    }
    by (inr f) = record {
      x = r.1;
      y = s.0;
      left = record { low = p; high = le_self _ };
      right =
          record { low = le_self _; high = q };
      compared = differ_too r.1 s.0 f;
    }
found Lt r s n p q e = record {
  x = r.0;
  y = s.1;
  left = record { low = le_self _; high = p };
  right =
      record { low = q; high = le_self _ };
  compared = e;
}
found Le r s n p q e = record {
  x = r.0;
  y = s.1;
  left = record { low = le_self _; high = p };
  right =
      record { low = q; high = le_self _ };
  compared = e;
}
found Gt r s n p q e = record {
  x = r.1;
  y = s.0;
  left = record { low = p; high = le_self _ };
  right =
      record { low = le_self _; high = q };
  compared = e;
}
found Ge r s n p q e = record {
  x = r.1;
  y = s.0;
  left = record { low = p; high = le_self _ };
  right =
      record { low = le_self _; high = q };
  compared = e;
}

kept_exact : (c : Cmp) (a b : KnownBits) → c ≢ Eq → IsSome (kept_if_compare c a b) ↔ SomeCompare c (range_of a)
    (range_of b)
kept_exact c a b n = at (may_compare c (range_of a) (range_of b)) refl
  where
    at : (t : Bool) → may_compare c (range_of a) (range_of b) ≡ t → IsSome {T = KnownBits × KnownBits}
        (cond t (Some (a, b)) None) ↔ SomeCompare c (range_of a) (range_of b)
    at true e = (λ h. found c (range_of a) (range_of b) n (range_ends a).ordered (range_ends b).ordered e, λ h. refl)
    at false e = (
      λ h. absurd (none h),
      λ h. absurd
          (clash (compared c (range_of a) (range_of b) h.x h.y h.left h.right h.compared)),
    )
      where
        none : IsSome {T = KnownBits × KnownBits} None → ⊥
        none h = absurd cc

        clash : may_compare c (range_of a) (range_of b) ≡ true → ⊥
        clash f = two (may_compare c (range_of a) (range_of b)) f e
          where
            two : (b : Bool) → b ≡ true → b ≡ false → ⊥
            two b f e = absurd cc

pub filter_exact : (c : Cmp) (a b : KnownBits) → c ≢ Eq → IsSome (filter_of c a b) ↔ SomeCompare c (range_of a)
    (range_of b)
filter_exact Eq a b n = absurd (n refl)
filter_exact Ne a b n = kept_exact Ne a b n
filter_exact Lt a b n = kept_exact Lt a b n
filter_exact Le a b n = kept_exact Le a b n
filter_exact Gt a b n = kept_exact Gt a b n
filter_exact Ge a b n = kept_exact Ge a b n
