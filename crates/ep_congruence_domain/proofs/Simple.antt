-- The laws of what does not depend on an operator.
use Rattle.std.specs.Prelude.{◌≡◌, ℕ, ℤ, pos, ◌-ℤ◌, ◌+ℤ◌, ◌≤ℤ◌, ◌<ℤ◌, ◌⊎◌, Bool, true, false, cond, ◌&&◌, not, Option}
use Rattle.ep_congruence_laws.proofs.Multiples.{eq_zero, zero_eq}
use Rattle.ep_int.proofs.Arithmetic.{in_range_some_type}
use Rattle.std.specs.Prelude.{Some, None, IsTrue, IfSome, IsSomeAnd, nat_eq, refl}
use Rattle.std.specs.Option.{option_map, option_and_then}
use Rattle.std.proofs.Common.{arith, ap, sym, ◌∙◌, subst, inl, inr}
use Rattle.std.proofs.lemmas.Int.{ints}
use Rattle.std.proofs.lemmas.Bool.{and_parts, and_from}
use Rattle.ep_int.specs.declared.types.IntType.{IntType}
use Rattle.ep_int.specs.declared.types.IntType.TheVariants.{I64, U64}
use Rattle.ep_int.specs.declared.types.Cmp.{Cmp}
use Rattle.ep_int.specs.declared.types.Cmp.TheVariants.{Eq, Ne, Lt, Le, Gt, Ge}
use Rattle.ep_int.specs.Types.{least_of, greatest_of, InRange, wrapped}
use Rattle.ep_int.specs.Arith.{int_eq, compares, IsOfSomeType}
use Rattle.ep_int.proofs.Wrapping.{wrapped_in_range}
use Rattle.ep_range_laws.specs.Ranges.{IsRange, LiesIn, Encloses}
use Rattle.ep_domain.specs.Laws.Shared.{pair, same_pair, from_eq, nearest_same}
use Rattle.ep_range_laws.proofs.Comparisons.{le_self}
use Rattle.ep_range_laws.proofs.Options.{weaken}
use Rattle.ep_congruence_laws.specs.Multiples.{IsMultiple}
use Rattle.ep_congruence_laws.specs.Classes as classes
use Rattle.ep_congruence_laws.specs.Classes.{Class, class, everything, one, is_one, is_class, Has}
use Rattle.ep_congruence_laws.proofs.Classes.{nonzero_from, has_from, has_test, class_one}
use Rattle.ep_congruence_laws.proofs.Multiples.{itself}
use Rattle.ep_congruence_laws.proofs.Operations as operations
use Rattle.ep_congruence_laws.proofs.Operations.{In, Is, one_member, range_one, range_more, single_is}
use Rattle.ep_congruence_laws.proofs.Cuts as cuts
use Rattle.ep_congruence_laws.proofs.Cuts.{itself_in, IsCut, cut_is}
use Rattle.ep_congruence_laws.proofs.Results.{of_one}
use Rattle.ep_congruence_domain.specs.Congruence.{Congruence, class_of, formed, holds_of, top_of, single_of, range_of}
use Rattle.ep_congruence_domain.specs.Congruence.{is_within, join_of, meet_of, conversion_of, edges_of, cut_of, twice}
use Rattle.ep_congruence_domain.specs.Congruence.{are_apart, kept_unless, filter_of}
use Rattle.ep_congruence_domain.proofs.Formed.{then_formed, then_kept}

pub holds : (c : Congruence) (z : ℤ) → IsTrue (holds_of c z) → Has (class_of c) z
holds c z h = has_from (class_of c) z h

pub held : (c : Congruence) (z : ℤ) → IsOfSomeType z → In (class_of c) z → IsTrue (holds_of c z)
held c z i h = has_test (class_of c) z (record { number = i; congruent = h })

-- a class with the number
abbrev pub HasClass : ℤ → Class → Type 0
HasClass z k = In k z

pub held_some : (o : Option Congruence) (z : ℤ) → IsOfSomeType z → IsSomeAnd o (λ c. In (class_of c) z) → IsSomeAnd o (λ c. IsTrue (holds_of c z))
held_some o z i h = weaken (λ c. In (class_of c) z) (λ c. IsTrue (holds_of c z)) o h (λ c k. held c z i k)

-- ---- single numbers

pub top_holds : (t : IntType) (z : ℤ) → InRange t z → IsTrue (holds_of (top_of t) z)
top_holds t z h = held (top_of t) z (in_range_some_type t z h) (of_one (z -ℤ pos 0))

pub single_class : (v : ℤ) → IsOfSomeType v → class_of (single_of v) ≡ one v
single_class v h = ap one (nearest_same v h)

pub single_holds : (v : ℤ) → IsOfSomeType v → IsTrue (holds_of (single_of v) v)
single_holds v h = held (single_of v) v h (subst (λ k. In k v) (sym (single_class v h)) (itself_in v 0))

pub single_only : (v z : ℤ) → IsOfSomeType v → IsTrue (holds_of (single_of v) z) → z ≡ v
single_only v z h k = one_member (one v) z refl (subst (λ c. In c z) (single_class v h) (holds (single_of v) z k).congruent)

pub single_range : (v : ℤ) → IsOfSomeType v → range_of (single_of v) ≡ pair v v
single_range v h = ap classes.range_of (single_class v h)

-- of a single range the class is one number
pub single_of_range : (c : Congruence) (v : ℤ) → range_of c ≡ pair v v → class_of c ≡ one v
single_of_range c v e = let s = single_is (class_of c) v e in ap (λ (m : ℕ). class c.remainder m) s.0 ∙ ap (λ (r : ℤ). class r 0) s.1

pub single_number : (c : Congruence) (v : ℤ) → range_of c ≡ pair v v → IsOfSomeType v
single_number c v e = let s = single_is (class_of c) v e in subst IsOfSomeType s.1 (class_one c.remainder (subst (λ m. is_class c.remainder m ≡ true) s.0 c.valid))

pub range_single : (c : Congruence) (v : ℤ) → range_of c ≡ pair v v → IsTrue (holds_of c v)
range_single c v e = held c v (single_number c v e) (subst (λ k. In k v) (sym (single_of_range c v e)) (itself_in v 0))

pub range_encloses : (c : Congruence) (z : ℤ) → IsTrue (holds_of c z) → LiesIn (range_of c) z
range_encloses c z h = let k = holds c z h in operations.range_encloses (class_of c) z k.number k.congruent

-- ---- ranges

pub class_range : (k : Class) → Is k → IsRange (classes.range_of k).0 (classes.range_of k).1
class_range k p = at (nat_eq k.modulus 0) refl
  where
    at : (t : Bool) → nat_eq k.modulus 0 ≡ t → IsRange (cond t (pair k.remainder k.remainder) (pair (least_of I64) (greatest_of U64))).0 (cond t (pair k.remainder k.remainder) (pair (least_of I64) (greatest_of U64))).1
    at true e =
        let i = class_one k.remainder (subst (λ m. is_class k.remainder m ≡ true) (eq_zero k.modulus e) p) in
        record { above = i.low; ordered = le_self k.remainder; below = i.high }
    at false e = record { above = le_self (least_of I64); ordered = omega (arith, ints); below = le_self (greatest_of U64) }

-- a class with all numbers of another has its range
pub larger_range : (k d : Class) → Is k → ((z : ℤ) → In k z → In d z) → Encloses (classes.range_of d) (classes.range_of k)
larger_range k d p go = at (nat_eq d.modulus 0) refl
  where
    first : d.modulus ≡ 0 → k.remainder ≡ d.remainder
    first e = one_member d k.remainder e (go k.remainder (itself_in k.remainder k.modulus))

    more : (r : ℤ) (m : ℕ) → pos m ≡ (r +ℤ pos m) -ℤ r
    more r m = omega (arith, ints)

    no_more : (r d : ℤ) (m : ℕ) → r ≡ d → r +ℤ pos m ≡ d → m ≡ 0
    no_more r d m e f = omega (arith, ints)

    alone : d.modulus ≡ 0 → k.modulus ≡ 0
    alone e =
        no_more k.remainder d.remainder k.modulus (first e)
        (one_member d (k.remainder +ℤ pos k.modulus) e (go (k.remainder +ℤ pos k.modulus) (subst (IsMultiple k.modulus) (more k.remainder k.modulus) (itself k.modulus))))

    encloses_self : (r s : ℤ × ℤ) → r ≡ s → Encloses r s
    encloses_self r s e = subst (Encloses r) e (record { low = le_self r.0; high = le_self r.1 })

    at : (t : Bool) → nat_eq d.modulus 0 ≡ t → Encloses (classes.range_of d) (classes.range_of k)
    at true e =
        let z = eq_zero d.modulus e in
        encloses_self _ _ (range_one d z ∙ same_pair _ _ _ _ (sym (first z)) (sym (first z)) ∙ sym (range_one k (alone z)))
    at false e = let i = class_range k p in subst (λ r. Encloses r (classes.range_of k)) (sym (range_more d (nonzero_from d.modulus e))) (record { low = i.above; high = i.below })

pub within_holds : (a b : Congruence) (z : ℤ) → IsTrue (is_within a b) → IsTrue (holds_of a z) → IsTrue (holds_of b z)
within_holds a b z h k = let i = holds a z k in held b z i.number (operations.within_holds (class_of a) (class_of b) z h i.congruent)

pub within_range : (a b : Congruence) → IsTrue (is_within a b) → Encloses (range_of b) (range_of a)
within_range a b h = larger_range (class_of a) (class_of b) a.valid (λ z k. operations.within_holds (class_of a) (class_of b) z h k)

-- ---- joins

pub join_left : (a b : Congruence) (z : ℤ) → IsTrue (holds_of a z) → IsTrue (holds_of (join_of a b) z)
join_left a b z h = let k = holds a z h in held (join_of a b) z k.number (operations.join_left (class_of a) (class_of b) z k.congruent)

pub join_right : (a b : Congruence) (z : ℤ) → IsTrue (holds_of b z) → IsTrue (holds_of (join_of a b) z)
join_right a b z h = let k = holds b z h in held (join_of a b) z k.number (operations.join_right (class_of a) (class_of b) z k.congruent)

pub join_range_left : (a b : Congruence) → Encloses (range_of (join_of a b)) (range_of a)
join_range_left a b = larger_range (class_of a) (class_of (join_of a b)) a.valid (operations.join_left (class_of a) (class_of b))

pub join_range_right : (a b : Congruence) → Encloses (range_of (join_of a b)) (range_of b)
join_range_right a b = larger_range (class_of b) (class_of (join_of a b)) b.valid (operations.join_right (class_of a) (class_of b))

-- ---- meets

pub meet_holds : (a b : Congruence) (z : ℤ) → IsTrue (holds_of a z) → IsTrue (holds_of b z) → IsSomeAnd (meet_of a b) (λ c. IsTrue (holds_of c z))
meet_holds a b z h k =
    let i = holds a z h in let j = holds b z k in
    held_some (meet_of a b) z i.number
    (then_formed (HasClass z) (classes.meet_of (class_of a) (class_of b))
    (weaken (λ c. (c ≡ classes.meeting (class_of a) (class_of b)) × In c z) (λ c. Is c × In c z) (classes.meet_of (class_of a) (class_of b)) (cuts.meet_holds (class_of a) (class_of b) z i.congruent j.congruent)
    (λ c m. (subst Is (sym m.0) (valid (cuts.meeting_is (class_of a) (class_of b))), m.1))))
  where
    valid : (classes.meeting (class_of a) (class_of b) ≡ class_of a) ⊎ (classes.meeting (class_of a) (class_of b) ≡ class_of b) → Is (classes.meeting (class_of a) (class_of b))
    valid (inl e) = subst Is (sym e) a.valid
    valid (inr e) = subst Is (sym e) b.valid

-- ---- conversion

pub conversion_holds : (a : Congruence) (t : IntType) (z : ℤ) → IsTrue (holds_of a z) → IsTrue (holds_of (conversion_of a t) (wrapped t z))
conversion_holds a t z h = let k = holds a z h in held (conversion_of a t) (wrapped t z) (in_range_some_type t (wrapped t z) (wrapped_in_range t z)) (cuts.conversion_holds (class_of a) t z k.congruent)

pub conversion_single : (a : Congruence) (t : IntType) (v : ℤ) → range_of a ≡ pair v v → range_of (conversion_of a t) ≡ pair (wrapped t v) (wrapped t v)
conversion_single a t v e = let s = single_is (class_of a) v e in ap classes.range_of (cuts.conversion_one (class_of a) t v s.0 s.1)

-- ---- comparisons

abbrev Both : ℤ → ℤ → Congruence × Congruence → Type 0
Both x y p = IsTrue (holds_of p.0 x) × IsTrue (holds_of p.1 y)

kept_holds : (c : Cmp) (a b : Congruence) (x y : ℤ) → compares c x y ≡ true → IsTrue (holds_of a x) → IsTrue (holds_of b y) → IsSomeAnd (kept_unless (are_apart c a b) a b) (Both x y)
kept_holds c a b x y e h k = at (are_apart c a b) refl
  where
    of_not : (t : Bool) → not t ≡ true → t ≡ true → ⊥
    of_not true p q = cc
    of_not false p q = cc

    at : (t : Bool) → are_apart c a b ≡ t → IsSomeAnd (kept_unless t a b) (Both x y)
    at false d = (h, k)
    at true d =
        let p = and_parts (is_one (class_of a) && is_one (class_of b)) (not (compares c a.remainder b.remainder)) d in
        let q = and_parts (is_one (class_of a)) (is_one (class_of b)) p.0 in
        let f = one_member (class_of a) x (eq_zero a.modulus q.0) (holds a x h).congruent in
        let g = one_member (class_of b) y (eq_zero b.modulus q.1) (holds b y k).congruent in
        absurd (of_not (compares c a.remainder b.remainder) p.1 (subst (λ z. compares c a.remainder z ≡ true) g (subst (λ z. compares c z y ≡ true) f e)))

equal_holds : (a b : Congruence) (x y : ℤ) → int_eq x y ≡ true → IsTrue (holds_of a x) → IsTrue (holds_of b y) → IsSomeAnd (option_map twice (meet_of a b)) (Both x y)
equal_holds a b x y e h k =
    let same = from_eq x y e in
    at (meet_of a b) (meet_holds a b x h (subst (λ z. IsTrue (holds_of b z)) (sym same) k)) same
  where
    at : (o : Option Congruence) → IsSomeAnd o (λ c. IsTrue (holds_of c x)) → x ≡ y → IsSomeAnd (option_map twice o) (Both x y)
    at None m s = absurd m
    at (Some c) m s = (m, subst (λ z. IsTrue (holds_of c z)) s m)

pub filter_holds : (c : Cmp) (a b : Congruence) (x y : ℤ) → compares c x y ≡ true → IsTrue (holds_of a x) → IsTrue (holds_of b y) → IsSomeAnd (filter_of c a b) (λ p. IsTrue (holds_of p.0 x) × IsTrue (holds_of p.1 y))
filter_holds Eq a b x y e h k = equal_holds a b x y e h k
filter_holds Ne a b x y e h k = kept_holds Ne a b x y e h k
filter_holds Lt a b x y e h k = kept_holds Lt a b x y e h k
filter_holds Le a b x y e h k = kept_holds Le a b x y e h k
filter_holds Gt a b x y e h k = kept_holds Gt a b x y e h k
filter_holds Ge a b x y e h k = kept_holds Ge a b x y e h k

kept_single : (c : Cmp) (a b : Congruence) (x y : ℤ) → compares c x y ≡ false → range_of a ≡ pair x x → range_of b ≡ pair y y → kept_unless (are_apart c a b) a b ≡ None
kept_single c a b x y e h k =
    let s = single_is (class_of a) x h in let t = single_is (class_of b) y k in
    ap (λ t. kept_unless t a b)
    (and_from (is_one (class_of a) && is_one (class_of b)) (not (compares c a.remainder b.remainder)) (and_from _ _ (zero_eq a.modulus s.0) (zero_eq b.modulus t.0))
    (ap not (ap (λ z. compares c z b.remainder) s.1 ∙ ap (λ z. compares c x z) t.1 ∙ e)))

equal_single : (a b : Congruence) (x y : ℤ) → int_eq x y ≡ false → range_of a ≡ pair x x → range_of b ≡ pair y y → option_map twice (meet_of a b) ≡ None
equal_single a b x y e h k =
    let s = single_is (class_of a) x h in let t = single_is (class_of b) y k in
    ap (λ o. option_map twice (option_and_then formed o)) (cuts.meet_none (class_of a) (class_of b) s.0 t.0 (ap (λ z. int_eq z b.remainder) s.1 ∙ ap (int_eq x) t.1 ∙ e))

pub filter_single : (c : Cmp) (a b : Congruence) (x y : ℤ) → compares c x y ≡ false → range_of a ≡ pair x x → range_of b ≡ pair y y → filter_of c a b ≡ None
filter_single Eq a b x y e h k = equal_single a b x y e h k
filter_single Ne a b x y e h k = kept_single Ne a b x y e h k
filter_single Lt a b x y e h k = kept_single Lt a b x y e h k
filter_single Le a b x y e h k = kept_single Le a b x y e h k
filter_single Gt a b x y e h k = kept_single Gt a b x y e h k
filter_single Ge a b x y e h k = kept_single Ge a b x y e h k

-- ---- edges and cuts

pub edges_inside : (a : Congruence) (lo hi : ℤ) → IfSome (edges_of a lo hi) (λ e. (e.0 ≤ℤ e.1) × Encloses (pair lo hi) e)
edges_inside a lo hi = at (edges_of a lo hi) (cuts.edges_within (class_of a) lo hi)
  where
    at : (o : Option (ℤ × ℤ)) → IfSome o (λ e. operations.AreEdges (class_of a) lo hi e × IsOfSomeType e.0 × IsOfSomeType e.1) → IfSome o (λ e. (e.0 ≤ℤ e.1) × Encloses (pair lo hi) e)
    at None h = tt
    at (Some e) h = (h.0.ordered, h.0.inside)

pub edges_enclose : (a : Congruence) (lo hi z : ℤ) → IsTrue (holds_of a z) → LiesIn (pair lo hi) z → IsSomeAnd (edges_of a lo hi) (λ e. LiesIn e z)
edges_enclose a lo hi z h k = let i = holds a z h in cuts.edges_hold (class_of a) lo hi z i.number i.congruent k.low k.high

pub cut_valid : (a : Class) (lo hi z : ℤ) → Is a → IsOfSomeType z → In a z → lo ≤ℤ z → z ≤ℤ hi → IsSomeAnd (classes.cut_of a lo hi) (λ d. Is d × In d z × IsCut a lo hi d)
cut_valid a lo hi z v i h p q = at (classes.cut_of a lo hi) (cuts.cut_holds a lo hi z i h p q) (cut_is a lo hi)
  where
    at : (o : Option Class) → IsSomeAnd o (λ d. In d z) → IfSome o (IsCut a lo hi) → IsSomeAnd o (λ d. Is d × In d z × IsCut a lo hi d)
    at None m n = absurd m
    at (Some d) m n = (n.valid v, m, n)

pub cut_holds : (a : Congruence) (lo hi z : ℤ) → IsTrue (holds_of a z) → LiesIn (pair lo hi) z → IsSomeAnd (cut_of a lo hi) (λ c. IsTrue (holds_of c z))
cut_holds a lo hi z h k =
    let i = holds a z h in
    held_some (cut_of a lo hi) z i.number
    (then_formed (HasClass z) (classes.cut_of (class_of a) lo hi)
    (weaken (λ d. Is d × In d z × IsCut (class_of a) lo hi d) (λ d. Is d × In d z) (classes.cut_of (class_of a) lo hi) (cut_valid (class_of a) lo hi z a.valid i.number i.congruent k.low k.high) (λ d m. (m.0, m.1))))

pub cut_place : (a : Congruence) (v : ℤ) → IfSome (cut_of a v v) (λ c. range_of c ≡ pair v v)
cut_place a v = then_kept (λ k. classes.range_of k ≡ pair v v) (classes.cut_of (class_of a) v v) (at (classes.cut_of (class_of a) v v) (cut_is (class_of a) v v))
  where
    at : (o : Option Class) → IfSome o (IsCut (class_of a) v v) → IfSome o (λ k. classes.range_of k ≡ pair v v)
    at None h = tt
    at (Some d) h = ap classes.range_of (h.place refl)

-- the cut of one number that is there
pub cut_one : (a : Class) (lo hi v : ℤ) → a ≡ one v → IsOfSomeType v → lo ≤ℤ v → v ≤ℤ hi → IsSomeAnd (classes.cut_of a lo hi) (λ d. d ≡ one v)
cut_one a lo hi v e i p q =
    let n : Is a = subst Is (sym e) (cuts.one_class v i) in
    weaken (λ d. Is d × In d v × IsCut a lo hi d) (λ d. d ≡ one v) (classes.cut_of a lo hi) (cut_valid a lo hi v n i (subst (λ k. In k v) (sym e) (itself_in v 0)) p q) (λ d m. of d m.1 m.2.inside)
  where
    of : (d : Class) → In d v → (d ≡ a) ⊎ ((w : ℤ) × (d ≡ one w) × IsOfSomeType w × In a w × (lo ≤ℤ w) × (w ≤ℤ hi)) → d ≡ one v
    of d m (inl f) = f ∙ e
    of d m (inr w) = w.1 ∙ ap one (sym (one_member (one w.0) v refl (subst (λ k. In k v) w.1 m)))

pub cut_single : (a : Congruence) (lo hi v : ℤ) → range_of a ≡ pair v v → LiesIn (pair lo hi) v → IsSomeAnd (cut_of a lo hi) (λ c. range_of c ≡ pair v v)
cut_single a lo hi v e k =
    let i = single_number a v e in
    then_formed (λ d. classes.range_of d ≡ pair v v) (classes.cut_of (class_of a) lo hi)
    (weaken (λ d. d ≡ one v) (λ d. Is d × (classes.range_of d ≡ pair v v)) (classes.cut_of (class_of a) lo hi) (cut_one (class_of a) lo hi v (single_of_range a v e) i k.low k.high)
    (λ d f. (subst Is (sym f) (cuts.one_class v i), ap classes.range_of f)))

pub cut_single_away : (a : Congruence) (lo hi v : ℤ) → range_of a ≡ pair v v → (v <ℤ lo) ⊎ (hi <ℤ v) → cut_of a lo hi ≡ None
cut_single_away a lo hi v e k = ap (option_and_then formed) (ap (λ k. classes.cut_of k lo hi) (single_of_range a v e) ∙ cuts.cut_away v lo hi k)
