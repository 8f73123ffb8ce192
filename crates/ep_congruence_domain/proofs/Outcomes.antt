-- The laws of operators.
use Rattle.std.specs.Prelude.{◌≡◌, ℤ, pos, ◌≤ℤ◌, ◌⊎◌, true, Option, Some, None, Result, Ok, Err, IsTrue, IfSome}
use Rattle.ep_int.proofs.Arithmetic.{in_range_some_type}
use Rattle.ep_int.proofs.Basics.{is_some-value}
use Rattle.std.specs.Prelude.{IsSomeAnd, MatchResult, is_some, is_err, refl}
use Rattle.std.specs.Option.{unwrap_or, option_and_then}
use Rattle.std.proofs.Common.{ap, sym, ◌∙◌, subst, inl, inr}
use Rattle.ep_int.specs.declared.types.IntType.{IntType}
use Rattle.ep_int.specs.declared.types.BinOp.{BinOp}
use Rattle.ep_int.specs.declared.types.BinOp.TheVariants.{Add, Sub, Mul, Div, Rem, And, Or, Xor, Shl, Shr}
use Rattle.ep_int.specs.declared.types.Undef.{Undef}
use Rattle.ep_int.specs.Types.{least_of, greatest_of, InRange}
use Rattle.ep_int.specs.Arith.{arith_of, IsOfSomeType, IsRightOperand}
use Rattle.ep_int.proofs.Arithmetic.{arith_in_range}
use Rattle.ep_range_laws.specs.Ranges.{LiesIn, Encloses}
use Rattle.ep_range_laws.specs.Faults.{Takes, MayFault, range_fault_of}
use Rattle.ep_domain.specs.Domain.{ShowsPart}
use Rattle.ep_range_laws.proofs.RangeFaults.{fault_is_found, fault_is_shown}
use Rattle.ep_range_laws.proofs.Options.{then_some, weaken}
use Rattle.ep_domain.specs.Laws.Shared.{pair}
use Rattle.ep_range_laws.proofs.Comparisons.{le_self, le_trans}
use Rattle.ep_congruence_laws.specs.Classes as classes
use Rattle.ep_congruence_laws.specs.Classes.{Class, class, one, is_class}
use Rattle.ep_congruence_laws.specs.Results.{single_result, results_between, left_operand, right_operand, value_of}
use Rattle.ep_congruence_laws.proofs.Operations as operations
use Rattle.ep_congruence_laws.proofs.Operations.{In, Is, one_member}
use Rattle.ep_congruence_laws.proofs.Cuts.{IsCut, cut_is, one_class}
use Rattle.ep_congruence_laws.proofs.Results.{between_give}
use Rattle.ep_congruence_domain.specs.Congruence.{Congruence, class_of, formed, holds_of, range_of, fault_between}
use Rattle.ep_congruence_domain.specs.Congruence.{outcome_of}
use Rattle.ep_congruence_domain.specs.Domain.{congruence_ops}
use Rattle.ep_congruence_domain.proofs.Formed.{formed_some, then_formed}
use Rattle.ep_congruence_domain.proofs.Simple.{holds, held_some, HasClass, class_range, single_of_range}
use Rattle.ep_congruence_domain.proofs.Simple.{single_number, cut_valid, cut_one}

-- What an operand cut to the numbers that arithmetic takes is: a class that a value may be, inside the range of the operand, with each of its numbers that arithmetic takes.
record Taken (P : ℤ → Type 0) (k d : Class) : Type 0 where
  valid : Is d
  inside : Encloses (classes.range_of k) (classes.range_of d)
  each : (z : ℤ) → IsOfSomeType z → P z → In k z → In d z

encloses_self : (r : ℤ × ℤ) → Encloses r r
encloses_self r = record { low = le_self r.0; high = le_self r.1 }

cut_taken : (t : IntType) (k d : Class) → Is k → IsCut k (least_of t) (greatest_of t) d → Taken (InRange t) k d
cut_taken t k d p c = record {
  valid = c.valid p;
  inside = at c.inside;
  each = λ z i r h. c.holds z i h r.low r.high;
}
  where
    at : (d ≡ k) ⊎ ((v : ℤ) × (d ≡ one v) × IsOfSomeType v × In k v × (least_of t ≤ℤ v) × (v ≤ℤ greatest_of t)) → Encloses (classes.range_of k) (classes.range_of d)
    at (inl e) = subst (λ x. Encloses (classes.range_of k) (classes.range_of x)) (sym e) (encloses_self (classes.range_of k))
    at (inr w) = let r = operations.range_encloses k w.0 w.2 w.3 in subst (λ x. Encloses (classes.range_of k) (classes.range_of x)) (sym w.1) (record { low = r.low; high = r.high })

left_taken : (t : IntType) (k : Class) → Is k → IfSome (left_operand t k) (Taken (InRange t) k)
left_taken t k p = at (left_operand t k) (cut_is k (least_of t) (greatest_of t))
  where
    at : (o : Option Class) → IfSome o (IsCut k (least_of t) (greatest_of t)) → IfSome o (Taken (InRange t) k)
    at None h = tt
    at (Some d) h = cut_taken t k d p h

left_there : (t : IntType) (k : Class) (z : ℤ) → Is k → IsOfSomeType z → In k z → InRange t z → IsSomeAnd (left_operand t k) (λ d. Is d × In d z)
left_there t k z p i h r = weaken (λ d. Is d × In d z × IsCut k (least_of t) (greatest_of t) d) (λ d. Is d × In d z) (left_operand t k) (cut_valid k (least_of t) (greatest_of t) z p i h r.low r.high) (λ d m. (m.0, m.1))

all_taken : (P : ℤ → Type 0) (k : Class) → Is k → Taken P k k
all_taken P k p = record { valid = p; inside = encloses_self (classes.range_of k); each = λ z i r h. h }

right_taken : (o : BinOp) (t : IntType) (k : Class) → Is k → IfSome (right_operand o t k) (Taken (IsRightOperand o t) k)
right_taken Add t k p = left_taken t k p
right_taken Sub t k p = left_taken t k p
right_taken Mul t k p = left_taken t k p
right_taken Div t k p = left_taken t k p
right_taken Rem t k p = left_taken t k p
right_taken And t k p = left_taken t k p
right_taken Or t k p = left_taken t k p
right_taken Xor t k p = left_taken t k p
right_taken Shl t k p = all_taken (IsRightOperand Shl t) k p
right_taken Shr t k p = all_taken (IsRightOperand Shr t) k p

right_there : (o : BinOp) (t : IntType) (k : Class) (z : ℤ) → Is k → IsOfSomeType z → In k z → IsRightOperand o t z → IsSomeAnd (right_operand o t k) (λ d. Is d × In d z)
right_there Add t k z p i h r = left_there t k z p i h r
right_there Sub t k z p i h r = left_there t k z p i h r
right_there Mul t k z p i h r = left_there t k z p i h r
right_there Div t k z p i h r = left_there t k z p i h r
right_there Rem t k z p i h r = left_there t k z p i h r
right_there And t k z p i h r = left_there t k z p i h r
right_there Or t k z p i h r = left_there t k z p i h r
right_there Xor t k z p i h r = left_there t k z p i h r
right_there Shl t k z p i h r = (p, h)
right_there Shr t k z p i h r = (p, h)

-- ---- each result is held, or there is a fault

value_gives : (o : BinOp) (t : IntType) (a b : Class) (x y v : ℤ) → Is a → Is b → IsOfSomeType x → IsOfSomeType y → In a x → In b y → Takes o t x y → arith_of o t x y ≡ Ok v → IsSomeAnd (value_of o t a b) (λ c. Is c × In c v)
value_gives o t a b x y v p q i j h k n e =
    then_some (λ d. Is d × In d x) (λ c. Is c × In c v) (left_operand t a) (λ d. option_and_then (results_between o t d) (right_operand o t b)) (left_there t a x p i h n.left)
    (λ d l. then_some (λ f. Is f × In f y) (λ c. Is c × In c v) (right_operand o t b) (results_between o t d) (right_there o t b y q j k n.right)
    (λ f r. between_give o t d f x y v l.0 r.0 l.1 r.1 n.left n.right e))

fault_found : (o : BinOp) (t : IntType) (x y : ℤ) → IsOfSomeType x → IsOfSomeType y → Takes o t x y → is_err (arith_of o t x y) ≡ true → (l r : Option Class) → IsSomeAnd l (λ d. Is d × In d x) → IsSomeAnd r (λ d. Is d × In d y) → is_some (fault_between o t l r) ≡ true
fault_found o t x y i j n e None r h k = absurd h
fault_found o t x y i j n e (Some d) None h k = absurd k
fault_found o t x y i j n e (Some d) (Some f) h k = fault_is_shown o t (classes.range_of d) (classes.range_of f) (record { x = x; y = y; left = operations.range_encloses d x i h.1; right = operations.range_encloses f y j k.1; taken = n; undefined = e })

pub outcome_holds : (o : BinOp) (t : IntType) (a b : Congruence) (x y : ℤ) → Takes o t x y → IsTrue (holds_of a x) → IsTrue (holds_of b y) →
    MatchResult (arith_of o t x y) (λ v. IsSomeAnd (outcome_of o t a b).value (λ c. IsTrue (holds_of c v))) (λ _. IsTrue (outcome_of o t a b).fault)
outcome_holds o t a b x y n h k = at (arith_of o t x y) refl
  where
    at : (w : Result ℤ Undef) → arith_of o t x y ≡ w → MatchResult w (λ v. IsSomeAnd (outcome_of o t a b).value (λ c. IsTrue (holds_of c v))) (λ _. IsTrue (outcome_of o t a b).fault)
    at (Ok v) e =
        let i = holds a x h in let j = holds b y k in
        held_some (outcome_of o t a b).value v (in_range_some_type t v (arith_in_range o t x y v n.left e))
        (then_formed (HasClass v) (value_of o t (class_of a) (class_of b)) (value_gives o t (class_of a) (class_of b) x y v a.valid b.valid i.number j.number i.congruent j.congruent n e))
    at (Err u) e =
        let i = holds a x h in let j = holds b y k in
        fault_found o t x y i.number j.number n (ap is_err e) (left_operand t (class_of a)) (right_operand o t (class_of b))
        (left_there t (class_of a) x a.valid i.number i.congruent n.left) (right_there o t (class_of b) y b.valid j.number j.congruent n.right)

-- ---- a fault and what it shows

record Shown (o : BinOp) (t : IntType) (a b : Congruence) (shown : ℤ × ℤ) : Type 0 where
  left : Class
  right : Class
  left_taken : Taken (InRange t) (class_of a) left
  right_taken : Taken (IsRightOperand o t) (class_of b) right
  shows : range_fault_of o t (classes.range_of left) (classes.range_of right) ≡ Some shown
  faults : MayFault o t (classes.range_of left) (classes.range_of right)

shown_at : (o : BinOp) (t : IntType) (a b : Congruence) (l r : Option Class) → IfSome l (Taken (InRange t) (class_of a)) → IfSome r (Taken (IsRightOperand o t) (class_of b)) → is_some (fault_between o t l r) ≡ true → Shown o t a b (unwrap_or (fault_between o t l r) (pos 0, pos 0))
shown_at o t a b None r h k e = cc
shown_at o t a b (Some d) None h k e = cc
shown_at o t a b (Some d) (Some f) h k e = record {
  left = d;
  right = f;
  left_taken = h;
  right_taken = k;
  shows = is_some-value (range_fault_of o t (classes.range_of d) (classes.range_of f)) e;
  faults = fault_is_found o t (classes.range_of d) (classes.range_of f) (class_range f k.valid) e;
}

shown : (o : BinOp) (t : IntType) (a b : Congruence) → IsTrue (outcome_of o t a b).fault → Shown o t a b (outcome_of o t a b).shown
shown o t a b e = shown_at o t a b (left_operand t (class_of a)) (right_operand o t (class_of b)) (left_taken t (class_of a) a.valid) (right_taken o t (class_of b) b.valid) e

inner : (r s : ℤ × ℤ) (z : ℤ) → Encloses r s → LiesIn s z → LiesIn r z
inner r s z h k = record { low = le_trans _ _ _ h.low k.low; high = le_trans _ _ _ k.high h.high }

pub outcome_faults : (o : BinOp) (t : IntType) (a b : Congruence) → IsTrue (outcome_of o t a b).fault → MayFault o t (range_of a) (range_of b)
outcome_faults o t a b e =
    let s = shown o t a b e in let w = s.faults in
    record { x = w.x; y = w.y; left = inner (range_of a) (classes.range_of s.left) w.x s.left_taken.inside w.left; right = inner (range_of b) (classes.range_of s.right) w.y s.right_taken.inside w.right; taken = w.taken; undefined = w.undefined }

pub outcome_shows : (o : BinOp) (t : IntType) (a b : Congruence) → IsTrue (outcome_of o t a b).fault → ShowsPart congruence_ops o t a b (outcome_of o t a b).shown
outcome_shows o t a b e =
    let s = shown o t a b e in
    record {
      left = classes.range_of s.left;
      right = classes.range_of s.right;
      left_inside = s.left_taken.inside;
      right_inside = s.right_taken.inside;
      left_has = λ z i h. let k = holds a z h in operations.range_encloses s.left z k.number (s.left_taken.each z k.number i k.congruent);
      right_has = λ z i h. let k = holds b z h in operations.range_encloses s.right z k.number (s.right_taken.each z k.number i k.congruent);
      shows = s.shows;
    }

-- ---- single numbers

right_one : (o : BinOp) (t : IntType) (b : Class) (y : ℤ) → b ≡ one y → IsOfSomeType y → IsRightOperand o t y → IsSomeAnd (right_operand o t b) (λ d. d ≡ one y)
right_one Add t b y e i r = cut_one b (least_of t) (greatest_of t) y e i r.low r.high
right_one Sub t b y e i r = cut_one b (least_of t) (greatest_of t) y e i r.low r.high
right_one Mul t b y e i r = cut_one b (least_of t) (greatest_of t) y e i r.low r.high
right_one Div t b y e i r = cut_one b (least_of t) (greatest_of t) y e i r.low r.high
right_one Rem t b y e i r = cut_one b (least_of t) (greatest_of t) y e i r.low r.high
right_one And t b y e i r = cut_one b (least_of t) (greatest_of t) y e i r.low r.high
right_one Or t b y e i r = cut_one b (least_of t) (greatest_of t) y e i r.low r.high
right_one Xor t b y e i r = cut_one b (least_of t) (greatest_of t) y e i r.low r.high
right_one Shl t b y e i r = e
right_one Shr t b y e i r = e

value_one : (o : BinOp) (t : IntType) (a b : Class) (x y : ℤ) → a ≡ one x → b ≡ one y → IsOfSomeType x → IsOfSomeType y → Takes o t x y → value_of o t a b ≡ single_result (arith_of o t x y)
value_one o t a b x y e f i j n = at (left_operand t a) (cut_one a (least_of t) (greatest_of t) x e i n.left.low n.left.high) (right_operand o t b) (right_one o t b y f j n.right)
  where
    at : (l : Option Class) → IsSomeAnd l (λ d. d ≡ one x) → (r : Option Class) → IsSomeAnd r (λ d. d ≡ one y) → option_and_then (λ d. option_and_then (results_between o t d) r) l ≡ single_result (arith_of o t x y)
    at None h r k = absurd h
    at (Some d) h None k = absurd k
    at (Some d) h (Some f) k = ap (λ d. results_between o t d f) h ∙ ap (results_between o t (one x)) k

pub outcome_single : (o : BinOp) (t : IntType) (a b : Congruence) (x y : ℤ) → Takes o t x y → range_of a ≡ pair x x → range_of b ≡ pair y y →
    MatchResult (arith_of o t x y) (λ v. IsSomeAnd (outcome_of o t a b).value (λ c. range_of c ≡ pair v v)) (λ _. (outcome_of o t a b).value ≡ None)
outcome_single o t a b x y n e f = at (arith_of o t x y) refl
  where
    value : value_of o t (class_of a) (class_of b) ≡ single_result (arith_of o t x y)
    value = value_one o t (class_of a) (class_of b) x y (single_of_range a x e) (single_of_range b y f) (single_number a x e) (single_number b y f) n

    at : (w : Result ℤ Undef) → arith_of o t x y ≡ w → MatchResult w (λ v. IsSomeAnd (outcome_of o t a b).value (λ c. range_of c ≡ pair v v)) (λ _. (outcome_of o t a b).value ≡ None)
    at (Ok v) g =
        subst (λ o. IsSomeAnd o (λ c. range_of c ≡ pair v v)) (sym (ap (option_and_then formed) (value ∙ ap single_result g) ∙ formed_some (one v) (one_class v (in_range_some_type t v (arith_in_range o t x y v n.left g))))) refl
    at (Err u) g = ap (option_and_then formed) (value ∙ ap single_result g)
