-- How the tests of well-formed programs are passed.
use Rattle.std.proofs.Common.{◌≡◌, ℕ, zero, suc, ◌-◌, ◌<◌, nat_eq, Bool, true, false, true≢false, cond, ◌&&◌}
use Rattle.ep_int.proofs.Basics.{nat_eq-self}
use Rattle.std.proofs.lemmas.Bool.{or_cases}
use Rattle.std.proofs.lemmas.Bool.{or_left, or_right}
use Rattle.std.proofs.Common.{if◌then◌else◌, List, [], ◌∷◌, ◌++◌, length, slice_get, Option, Some, None, Result}
use Rattle.std.proofs.Common.{Ok, Err, refl, sym, ap, ◌∙◌, subst, ◌⊎◌, inl, inr, arith, eq-zero-or-pos}
use Rattle.std.specs.List.{list_any, filter}
use Rattle.std.proofs.lemmas.Bool.{and_parts, eqb-true}
use Rattle.ep_int.specs.declared.types.IntType.{IntType}
use Rattle.ep_int.specs.declared.types.IntType.TheVariants.{I32}
use Rattle.ep_int.specs.declared.types.BinOp.{BinOp}
use Rattle.ep_int.specs.declared.types.BinOp.TheVariants.{Add, Sub, Mul, Div, Rem, And, Or, Xor, Shl, Shr}
use Rattle.ep_int.specs.declared.types.Scalar.{Scalar}
use Rattle.ep_int.specs.declared.types.Scalar.TheVariants.{Int as Number}
use Rattle.ep_layout.specs.declared.types.Ty.{Ty}
use Rattle.ep_layout.specs.Table.{Table}
use Rattle.ep_core.specs.Program.{Block, Expr, const, null_value, load, addr_of, binary, convert, compare}
use Rattle.ep_core.specs.Program.{ptr_compare, logical_and, logical_or, logical_not, conditional, ptr_add, cast}
use Rattle.ep_core.specs.WellFormed.{Sort, integer, pointer_to, has_scalar, has_sort, int_type_of, is_int, is_pointer}
use Rattle.ep_core.specs.WellFormed.{is_sort, is_test, numbers_below, place_has, right_type, some_type}
use Rattle.ep_core.specs.WellFormed.{sort_of}
use Rattle.ep_typing.specs.Results.{◌>>=◌, needed}
use Rattle.ep_core.proofs.Sorts.{loaded_scalar, never, same_type, type_where}

-- ---- tests

pub both_not : {A : Type 0} (b : Bool) → b ≡ true → b ≡ false → A
both_not b p q = absurd (true≢false (sym p ∙ q))

-- ---- answers

pub after : {A B E : Type 0} (r : Result A E) (f : A → Result B E) (y : B) → (r >>= f) ≡ Ok y
    → (x : A) × (r ≡ Ok x) × (f x ≡ Ok y)
after (Ok x) f y h = (x, refl, h)
after (Err e) f y h = absurd cc

pub needed_is : {A : Type 0} (k : ℕ) (o : Option A) (x : A) → needed k o ≡ Ok x → o ≡ Some x
needed_is k None x h = absurd cc
needed_is k (Some y) x h = cc

-- an answer under a test
pub given : {A E : Type 0} (b : Bool) (x y : A) (e : E) → (if b then Ok x else Err e) ≡ Ok y → (b ≡ true) × (x ≡ y)
given true x y e h = (refl, cc)
given false x y e h = absurd cc

pub unless : {A E : Type 0} (b : Bool) (e : E) (r : Result A E) (y : A) → (if b then Err e else r) ≡ Ok y
    → (b ≡ false) × (r ≡ Ok y)
unless true e r y h = absurd cc
unless false e r y h = (refl, h)

pub if_so : {A : Type 0} (b : Bool) (x y : A) → b ≡ true → (if b then x else y) ≡ x
if_so b x y h = rw h refl

pub if_not : {A : Type 0} (b : Bool) (x y : A) → b ≡ false → (if b then x else y) ≡ y
if_not b x y h = rw h refl

pub either_way : {A : Type 0} (b : Bool) (x y z : A) → (if b then x else y) ≡ z → ((b ≡ true) × (x ≡ z)) ⊎ ((b ≡ false) × (y ≡ z))
either_way true x y z h = inl (refl, h)
either_way false x y z h = inr (refl, h)

-- ---- lists of numbers

any_front : (test : ℕ → Bool) (xs ys : List ℕ) → list_any test xs ≡ true → list_any test (xs ++ ys) ≡ true
any_front test [] ys h = never h
any_front test (x ∷ xs) ys h = elim (or_cases (test x) (list_any test xs) h) [
  | inl a ↦ or_left (test x) (list_any test (xs ++ ys)) a
  | inr b ↦ or_right (test x) (list_any test (xs ++ ys)) (any_front test xs ys b)
]

any_back : (test : ℕ → Bool) (xs ys : List ℕ) → list_any test ys ≡ true → list_any test (xs ++ ys) ≡ true
any_back test [] ys h = h
any_back test (x ∷ xs) ys h = or_right (test x) (list_any test (xs ++ ys)) (any_back test xs ys h)

any_either : (test : ℕ → Bool) (xs ys : List ℕ) → list_any test (xs ++ ys) ≡ true
    → (list_any test xs ≡ true) ⊎ (list_any test ys ≡ true)
any_either test [] ys h = inr h
any_either test (x ∷ xs) ys h = elim (or_cases (test x) (list_any test (xs ++ ys)) h) [
  | inl a ↦ inl (or_left (test x) (list_any test xs) a)
  | inr a ↦ elim (any_either test xs ys a) [ inl b ↦ inl (or_right (test x) (list_any test xs) b) | inr b ↦ inr b ]
]

any_below : (test : ℕ → Bool) (n k : ℕ) → k < n → test k ≡ true → list_any test (numbers_below n) ≡ true
any_below test zero k l h = absurd (omega (arith, l))
any_below test (suc n) k l h = elim (eq-zero-or-pos (n - k)) [
  | inl e ↦ let same : k ≡ n = omega (arith, l, e) in
      any_back test (numbers_below n) (n ∷ []) (or_left (test n) false (subst (λ (j : ℕ). test j ≡ true) same h))
  | inr p ↦ any_front test (numbers_below n) (n ∷ []) (any_below test n k (omega (arith, p)) h)
]

kept_one : (keep test : ℕ → Bool) (xs : List ℕ) (k : ℕ) → list_any (λ j. nat_eq j k) xs ≡ true → keep k ≡ true → test k ≡ true
    → list_any test (filter keep xs) ≡ true
kept_one keep test [] k h p q = never h
kept_one keep test (x ∷ xs) k h p q =
    elim (or_cases (nat_eq x k) (list_any (λ j. nat_eq j k) xs) h) [
      | inl a ↦ let same : k ≡ x = sym (eqb-true x k a) in
          kept (keep x) (subst (λ (j : ℕ). keep j ≡ true) same p) (subst (λ (j : ℕ). test j ≡ true) same q)
      | inr b ↦ later (keep x) (kept_one keep test xs k b p q)
    ]
  where
    kept : (a : Bool) → a ≡ true → test x ≡ true → list_any test (cond a (x ∷ filter keep xs) (filter keep xs)) ≡ true
    kept true e t = or_left (test x) (list_any test (filter keep xs)) t
    kept false e t = never e

    later : (a : Bool) → list_any test (filter keep xs) ≡ true
        → list_any test (cond a (x ∷ filter keep xs) (filter keep xs)) ≡ true
    later true t = or_right (test x) (list_any test (filter keep xs)) t
    later false t = t

below_any : (test : ℕ → Bool) (n : ℕ) → list_any test (numbers_below n) ≡ true → (k : ℕ) × (test k ≡ true) × (k < n)
below_any test zero h = never h
below_any test (suc n) h = elim (any_either test (numbers_below n) (n ∷ []) h) [
  | inl a ↦ let s = below_any test n a in (s.0, s.1, omega (arith, s.2))
  | inr a ↦ elim (or_cases (test n) false a) [ inl e ↦ (n, e, omega arith) | inr e ↦ never e ]
]

-- ---- the type of a number

module _ (t : Table) (bs : List Block) (seen : List ℕ) where
  pub some_type_is : (kind : Option Ty → Bool) (test : ℕ → Bool) (u : ℕ) → u < length t.types
      → kind (slice_get t.types u) ≡ true → test u ≡ true → some_type t bs seen kind test ≡ true
  some_type_is kind test u l p q =
      kept_one (λ ty. kind (slice_get t.types ty)) test (numbers_below (length t.types)) u
      (any_below (λ j. nat_eq j u) (length t.types) u l (nat_eq-self u)) p q

  -- a number below that is kept and passes
  below_where : (keep test : ℕ → Bool) (n : ℕ) → list_any test (filter keep (numbers_below n)) ≡ true
      → (k : ℕ) × (keep k ≡ true) × (test k ≡ true) × (k < n)
  below_where keep test n h = each_below (numbers_below n) (λ k p. numbers_are n k p) h
    where
      numbers_are : (n k : ℕ) → list_any (λ j. nat_eq j k) (numbers_below n) ≡ true → k < n
      numbers_are zero k p = never p
      numbers_are (suc n) k p = elim (any_either (λ j. nat_eq j k) (numbers_below n) (n ∷ []) p) [
        | inl a ↦ omega (arith, numbers_are n k a)
        | inr a ↦ elim (or_cases (nat_eq n k) false a) [
          | inl e ↦ let same : n ≡ k = eqb-true n k e in omega (arith, same)
          | inr e ↦ never e
        ]
      ]

      each_below : (xs : List ℕ) → ((k : ℕ) → list_any (λ j. nat_eq j k) xs ≡ true → k < n)
          → list_any test (filter keep xs) ≡ true → (k : ℕ) × (keep k ≡ true) × (test k ≡ true) × (k < n)
      each_below [] f h = never h
      each_below (x ∷ xs) f h = by (keep x) refl h (λ q. each_below xs (λ k p. f k (or_right (nat_eq x k) _ p)) q)
        where
          by : (b : Bool) → keep x ≡ b → list_any test (cond b (x ∷ filter keep xs) (filter keep xs)) ≡ true
              → (list_any test (filter keep xs) ≡ true → (k : ℕ) × (keep k ≡ true) × (test k ≡ true) × (k < n))
              → (k : ℕ) × (keep k ≡ true) × (test k ≡ true) × (k < n)
          by true e q r = elim (or_cases (test x) (list_any test (filter keep xs)) q) [
            | inl a ↦ (x, e, a, f x (or_left _ _ (nat_eq-self x)))
            | inr a ↦ r a
          ]
          by false e q r = r q

  pub type_below : (kind : Option Ty → Bool) (test : ℕ → Bool) → some_type t bs seen kind test ≡ true
      → (u : ℕ) × (kind (slice_get t.types u) ≡ true) × (test u ≡ true) × (u < length t.types)
  type_below kind test h = below_where (λ ty. kind (slice_get t.types ty)) test (length t.types) h

  pub pointer_below : (has : Sort → Bool) → is_pointer t bs seen has ≡ true
      → (ty : ℕ) × (has (pointer_to ty) ≡ true) × (ty < length t.types)
  pointer_below has h =
      let s = below_any (λ ty. has (pointer_to ty)) (length t.types) h in (s.0, s.1, s.2)

  pub pointer_is : (has : Sort → Bool) (ty : ℕ) → ty < length t.types → has (pointer_to ty) ≡ true
      → is_pointer t bs seen has ≡ true
  pointer_is has ty l h = any_below (λ j. has (pointer_to j)) (length t.types) ty l h

  -- an expression that has an integer type has that of its text
  int_own : (e : Expr) (i : IntType) → has_sort t bs seen e (integer i) ≡ true → int_type_of e ≡ Some i
  int_own (const u v) i h = ap (λ (j : IntType). Some j) (sym (same_type i u (and_parts _ _ h).0))
  int_own null_value i h = never h
  int_own (load what p) i h =
      let s = type_where t bs seen (λ u. has_scalar u what && is_sort (sort_of u) (integer i)) (place_has t bs seen p) h in
      let q : what ≡ Number i = loaded_scalar _ what (integer i) s.1 in ap (λ (w : Scalar). int_type_of (load w p)) q
  int_own (addr_of p) i h = never h
  int_own (binary op u a b) i h =
      ap (λ (j : IntType). Some j) (sym (same_type i u (and_parts _ _ (and_parts _ _ h).0).0))
  int_own (convert u e) i h = ap (λ (j : IntType). Some j) (sym (same_type i u (and_parts _ _ h).0))
  int_own (compare c u a b) i h =
      ap (λ (j : IntType). Some j) (sym (same_type i I32 (and_parts _ _ (and_parts _ _ h).0).0))
  int_own (ptr_compare c a b) i h =
      ap (λ (j : IntType). Some j) (sym (same_type i I32 (and_parts _ _ (and_parts _ _ h).0).0))
  int_own (logical_and a b) i h =
      ap (λ (j : IntType). Some j) (sym (same_type i I32 (and_parts _ _ (and_parts _ _ h).0).0))
  int_own (logical_or a b) i h =
      ap (λ (j : IntType). Some j) (sym (same_type i I32 (and_parts _ _ (and_parts _ _ h).0).0))
  int_own (logical_not e) i h = ap (λ (j : IntType). Some j) (sym (same_type i I32 (and_parts _ _ h).0))
  int_own (conditional e a b) i h = int_own a i (and_parts _ _ (and_parts _ _ h).0).1
  int_own (ptr_add e unit n back) i h = never (and_parts _ _ (and_parts _ _ (and_parts _ _ h).0).0).1
  int_own (cast e) i h = never h

  pub int_is : (e : Expr) (i : IntType) → has_sort t bs seen e (integer i) ≡ true
      → is_int (int_type_of e) (has_sort t bs seen e) ≡ true
  int_is e i h = rw (int_own e i h) h

  pub right_operand_is : (op : BinOp) (e : Expr) (i : IntType) → has_sort t bs seen e (integer i) ≡ true
      → is_int (right_type op i (int_type_of e)) (has_sort t bs seen e) ≡ true
  right_operand_is Add e i h = h
  right_operand_is Sub e i h = h
  right_operand_is Mul e i h = h
  right_operand_is Div e i h = h
  right_operand_is Rem e i h = h
  right_operand_is And e i h = h
  right_operand_is Or e i h = h
  right_operand_is Xor e i h = h
  right_operand_is Shl e i h = int_is e i h
  right_operand_is Shr e i h = int_is e i h

  pub number_tested : (e : Expr) (i : IntType) → has_sort t bs seen e (integer i) ≡ true
      → is_test t bs seen (int_type_of e) (has_sort t bs seen e) ≡ true
  number_tested e i h = or_left _ _ (int_is e i h)

  pub pointer_tested : (e : Expr) → is_pointer t bs seen (has_sort t bs seen e) ≡ true
      → is_test t bs seen (int_type_of e) (has_sort t bs seen e) ≡ true
  pointer_tested e h = or_right _ _ h
