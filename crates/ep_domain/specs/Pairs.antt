-- The reduced product of two domains: both parts of a value, each cut to what the other leaves of its range (this
-- project's rules, after Cousot and Cousot 1979).
use Rattle.std.specs.Prelude.{◌≡◌, ℕ, ℤ, pos, Bool, true, false, ◌&&◌, if◌then◌else◌, Option, Some, None, is_some, refl}
use Rattle.std.specs.Option.{option_and_then, option_zip, unwrap_or}
use Rattle.ep_int.specs.declared.types.IntType.{IntType}
use Rattle.ep_int.specs.declared.types.BinOp.{BinOp}
use Rattle.ep_int.specs.declared.types.Cmp.{Cmp}
use Rattle.ep_int.specs.Arith.{int_eq, IsOfSomeType}
use Rattle.ep_domain.specs.declared.num.Num.{Ghosts}
use Rattle.ep_domain.specs.declared.outcome.Outcome.{Outcome}
use Rattle.ep_domain.specs.declared.pair.Pair.{Pair}
use Rattle.ep_range_laws.specs.Faults.{range_fault_of}
use Rattle.ep_range_laws.specs.Ranges.{nearest_number}
use Rattle.ep_domain.specs.Common.{common_part, common_range, edges_between, common_edges, may_pair, sum_of_ranks}
use Rattle.ep_domain.specs.Laws.Shared.{nearest_of_some_type, tops_shared, singles_shared, widened_shared}

module _ {A B : Type 0} {f : Ghosts A} {g : Ghosts B} where
  abbrev pub pair_at : (a : A) (b : B) (t : Bool) → may_pair f.ops g.ops a b ≡ t → Option (Pair A B f g)
  pair_at a b true e = Some (record { left = a; right = b; may_pair = λ law too. e })
  pair_at a b false e = None

  -- two values as a pair, where they may be one
  abbrev pub pair_of : A → B → Option (Pair A B f g)
  pair_of a b = pair_at a b (may_pair f.ops g.ops a b) refl

  abbrev pub holds_of : Pair A B f g → ℤ → Bool
  holds_of p z = f.ops.holds p.left z && g.ops.holds p.right z

  abbrev pub range_of : Pair A B f g → ℤ × ℤ
  range_of p = common_range f.ops g.ops p.left p.right

  abbrev pub is_within : Pair A B f g → Pair A B f g → Bool
  is_within p q = f.ops.within p.left q.left && g.ops.within p.right q.right

  -- ---- narrowing

  -- both values cut to a range
  abbrev pub cut_to : A → B → ℤ × ℤ → Option (Pair A B f g)
  cut_to a b r = option_and_then (λ x. option_and_then (pair_of x) (g.ops.cut b r.0 r.1)) (f.ops.cut a r.0 r.1)

  -- two values, each cut to the edges of what their ranges have in common
  abbrev pub narrowed : A → B → Option (Pair A B f g)
  narrowed a b = option_and_then (cut_to a b) (common_edges f.ops g.ops a b)

  abbrev pub narrowed_both : Option A → Option B → Option (Pair A B f g)
  narrowed_both (Some a) (Some b) = narrowed a b
  narrowed_both (Some a) None = None
  narrowed_both None b = None

  abbrev pub narrowed_pair : Pair A B f g → Option (Pair A B f g)
  narrowed_pair p = narrowed p.left p.right

  -- ---- the range of a type and single numbers: narrowing keeps a number of both parts

  abbrev pub tops : IntType → Pair A B f g
  tops t = record { left = f.ops.top t; right = g.ops.top t; may_pair = λ law too. tops_shared f.ops g.ops law too t }

  abbrev pub top_of : IntType → Pair A B f g
  top_of t = unwrap_or (narrowed (f.ops.top t) (g.ops.top t)) (tops t)

  abbrev pub singles : (v : ℤ) → IsOfSomeType v → Pair A B f g
  singles v h = record {
    left = f.ops.single v;
    right = g.ops.single v;
    may_pair = λ law too. singles_shared f.ops g.ops law too v h;
  }

  abbrev pub single_at : (v : ℤ) → IsOfSomeType v → Pair A B f g
  single_at v h = unwrap_or (narrowed (f.ops.single v) (g.ops.single v)) (singles v h)

  abbrev pub single_of : ℤ → Pair A B f g
  single_of v = single_at (nearest_number v) (nearest_of_some_type v)

  -- ---- the operations on both parts, narrowed

  -- Where nothing is left, no number is held, and the first value stays.
  abbrev pub join_of : Pair A B f g → Pair A B f g → Pair A B f g
  join_of p q = unwrap_or (narrowed (f.ops.join p.left q.left) (g.ops.join p.right q.right)) p

  -- Widening alone isn't narrowed.
  abbrev pub widening_of : Pair A B f g → Pair A B f g → Pair A B f g
  widening_of p q = record {
    left = f.ops.widen p.left q.left;
    right = g.ops.widen p.right q.right;
    may_pair = λ law too. widened_shared f.ops g.ops law too p.left q.left p.right q.right (p.may_pair law too);
  }

  abbrev pub meet_of : Pair A B f g → Pair A B f g → Option (Pair A B f g)
  meet_of p q = narrowed_both (f.ops.meet p.left q.left) (g.ops.meet p.right q.right)

  abbrev pub rank_of : Pair A B f g → ℕ
  rank_of p = sum_of_ranks (f.ops.rank p.left) (g.ops.rank p.right)

  -- Of a range that is one number, both parts are cut to that number before they are converted.
  abbrev pub settled : Pair A B f g → Pair A B f g
  settled p = if int_eq (range_of p).0 (range_of p).1 then unwrap_or (narrowed_pair p) p else p

  abbrev pub converted : Pair A B f g → IntType → Option (Pair A B f g)
  converted p t = narrowed (f.ops.convert p.left t) (g.ops.convert p.right t)

  abbrev pub conversion_of : Pair A B f g → IntType → Pair A B f g
  conversion_of p t = unwrap_or (converted (settled p) t) p

  -- ---- on narrowed operands

  abbrev pub no_outcome : Outcome (Pair A B f g)
  no_outcome = record { value = None; fault = false; shown = (pos 0, pos 0) }

  abbrev pub outcome_with : Option (ℤ × ℤ) → Outcome A → Outcome B → Outcome (Pair A B f g)
  outcome_with r x y = record {
    value = narrowed_both x.value y.value;
    fault = (x.fault && y.fault) && is_some r;
    shown = unwrap_or r (pos 0, pos 0);
  }

  abbrev pub outcome_between : BinOp → IntType → Option (ℤ × ℤ) → Option (Pair A B f g) → Option (Pair A B f g) →
      Outcome (Pair A B f g)
  outcome_between o t r (Some p) (Some q) = outcome_with r (f.ops.op o t p.left q.left) (g.ops.op o t p.right q.right)
  outcome_between o t r (Some p) None = no_outcome
  outcome_between o t r None q = no_outcome

  -- There is a fault where both parts have one, and the narrowed common ranges of both operands hold a pair of which
  -- arithmetic is undefined.
  abbrev pub outcome_at : BinOp → IntType → Pair A B f g → Pair A B f g → Option (ℤ × ℤ) → Option (ℤ × ℤ) →
      Outcome (Pair A B f g)
  outcome_at o t p q (Some r) (Some s) =
      outcome_between o t (range_fault_of o t r s) (cut_to p.left p.right r) (cut_to q.left q.right s)
  outcome_at o t p q (Some r) None = no_outcome
  outcome_at o t p q None s = no_outcome

  abbrev pub outcome_of : BinOp → IntType → Pair A B f g → Pair A B f g → Outcome (Pair A B f g)
  outcome_of o t p q =
      outcome_at o t p q (common_edges f.ops g.ops p.left p.right) (common_edges f.ops g.ops q.left q.right)

  abbrev pub pairs_of : Option (A × A) → Option (B × B) → Option (Pair A B f g × Pair A B f g)
  pairs_of (Some x) (Some y) = option_zip (narrowed x.0 y.0) (narrowed x.1 y.1)
  pairs_of (Some x) None = None
  pairs_of None y = None

  abbrev pub filter_between : Cmp → Option (Pair A B f g) → Option (Pair A B f g) → Option (Pair A B f g × Pair A B f g)
  filter_between c (Some p) (Some q) = pairs_of (f.ops.filter c p.left q.left) (g.ops.filter c p.right q.right)
  filter_between c (Some p) None = None
  filter_between c None q = None

  abbrev pub filter_of : Cmp → Pair A B f g → Pair A B f g → Option (Pair A B f g × Pair A B f g)
  filter_of c p q = filter_between c (narrowed_pair p) (narrowed_pair q)

  abbrev pub edges_of : Pair A B f g → ℤ → ℤ → Option (ℤ × ℤ)
  edges_of p lo hi = edges_between f.ops g.ops p.left p.right (common_part (range_of p) (lo, hi))

  abbrev pub cut_pair : ℤ → ℤ → Pair A B f g → Option (Pair A B f g)
  cut_pair lo hi p = narrowed_both (f.ops.cut p.left lo hi) (g.ops.cut p.right lo hi)

  abbrev pub cut_of : Pair A B f g → ℤ → ℤ → Option (Pair A B f g)
  cut_of p lo hi = option_and_then (cut_pair lo hi) (narrowed_pair p)

  -- ---- strides: those of the right part where its domain keeps them, else those of the left part

  abbrev pub has_stride_of : Pair A B f g → ℕ → ℕ → Bool
  has_stride_of p r s = if g.ops.keeps_strides then g.ops.has_stride p.right r s else f.ops.has_stride p.left r s
