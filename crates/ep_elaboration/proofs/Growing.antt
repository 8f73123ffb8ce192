-- Expressions and places keep their sorts and types where the table grows, blocks come and more can be named.
use Rattle.std.proofs.Common.{◌≡◌, ℕ, zero, suc, ◌≤◌, Bool, true, false, ◌&&◌, ◌||◌, cond, List, [], ◌∷◌, ◌++◌}
use Rattle.std.proofs.lemmas.Bool.{or_cases}
use Rattle.std.proofs.lemmas.Bool.{and_from, or_left, or_right}
use Rattle.std.proofs.Common.{length, slice_get, Option, Some, None, inl, inr, refl, sym, ap, ◌∙◌, subst, arith, ◌-◌}
use Rattle.std.proofs.Common.{eq-zero-or-pos}
use Rattle.std.specs.List.{list_any, filter}
use Rattle.std.proofs.lemmas.Bool.{and_parts}
use Rattle.std.proofs.lemmas.Option.{slice_get-get_or, slice_get_past}
use Rattle.ep_int.specs.declared.types.IntType.{IntType}
use Rattle.ep_int.specs.declared.types.Model.{Model}
use Rattle.ep_int.specs.Memory.{contains}
use Rattle.ep_layout.specs.declared.types.Ty.{Ty}
use Rattle.ep_layout.specs.declared.types.Ty.TheVariants.{Void, Int, Ptr, Array, Aggregate}
use Rattle.ep_layout.specs.Layout.{Layout}
use Rattle.ep_layout.specs.Table.{Table, AggregateRow, MemberRow, Grows, size, layout_of, layout_rules, by_type}
use Rattle.ep_layout.specs.Table.{members_of}
use Rattle.ep_layout.proofs.Options.{map_some}
use Rattle.ep_layout.proofs.Recursion.{by_type_grows}
use Rattle.ep_core.specs.Program.{Block, Place, block, deref, member, element, Expr, const, null_value, load, addr_of}
use Rattle.ep_core.specs.Program.{binary, convert, compare, ptr_compare, logical_and, logical_or, logical_not}
use Rattle.ep_core.specs.Program.{conditional, ptr_add, cast}
use Rattle.ep_core.specs.Runs.{is_global}
use Rattle.ep_core.specs.WellFormed.{Sort, integer, pointer_to, is_pointer_where, sort_of, is_sort, has_scalar}
use Rattle.ep_core.specs.WellFormed.{is_array_of, has_bound, has_member, is_number, int_type_of, right_type, is_int}
use Rattle.ep_core.specs.WellFormed.{numbers_below, some_type, is_pointer, is_test, is_named, block_has, place_has}
use Rattle.ep_core.specs.WellFormed.{has_sort}
use Rattle.ep_core.proofs.Sorts.{never}

-- ---- tests

-- ---- lists of numbers

-- what some kept number of the first list passes, some kept one of both lists together passes too
any_more : (keep keep' test test' : ℕ → Bool) → ((k : ℕ) → keep k ≡ true → keep' k ≡ true)
    → ((k : ℕ) → test k ≡ true → test' k ≡ true) → (xs ys : List ℕ) → list_any test (filter keep xs) ≡ true
    → list_any test' (filter keep' (xs ++ ys)) ≡ true
any_more keep keep' test test' f g [] ys h = never h
any_more keep keep' test test' f g (x ∷ xs) ys h =
    split (keep x) (keep' x) refl refl h (any_more keep keep' test test' f g xs ys)
  where
    split : (a b : Bool) → keep x ≡ a → keep' x ≡ b
        → list_any test (cond a (x ∷ filter keep xs) (filter keep xs)) ≡ true
        → (list_any test (filter keep xs) ≡ true → list_any test' (filter keep' (xs ++ ys)) ≡ true)
        → list_any test' (cond b (x ∷ filter keep' (xs ++ ys)) (filter keep' (xs ++ ys))) ≡ true
    split true true p q h later = elim (or_cases (test x) (list_any test (filter keep xs)) h) [
      | inl a ↦ or_left (test' x) (list_any test' (filter keep' (xs ++ ys))) (g x a)
      | inr b ↦ or_right (test' x) (list_any test' (filter keep' (xs ++ ys))) (later b)
    ]
    split true false p q h later = never (sym q ∙ f x p)
    split false true p q h later = or_right (test' x) (list_any test' (filter keep' (xs ++ ys))) (later h)
    split false false p q h later = later h

any_of_more : (test test' : ℕ → Bool) → ((k : ℕ) → test k ≡ true → test' k ≡ true) → (xs ys : List ℕ)
    → list_any test xs ≡ true → list_any test' (xs ++ ys) ≡ true
any_of_more test test' g [] ys h = never h
any_of_more test test' g (x ∷ xs) ys h = elim (or_cases (test x) (list_any test xs) h) [
  | inl a ↦ or_left (test' x) (list_any test' (xs ++ ys)) (g x a)
  | inr b ↦ or_right (test' x) (list_any test' (xs ++ ys)) (any_of_more test test' g xs ys b)
]

nil_right : (xs : List ℕ) → xs ≡ xs ++ []
nil_right [] = refl
nil_right (x ∷ xs) = ap (λ ys. x ∷ ys) (nil_right xs)

assoc : (xs ys zs : List ℕ) → (xs ++ ys) ++ zs ≡ xs ++ (ys ++ zs)
assoc [] ys zs = refl
assoc (x ∷ xs) ys zs = ap (λ ws. x ∷ ws) (assoc xs ys zs)

-- the numbers below a greater number go on
below : (n m : ℕ) → n ≤ m → (ys : List ℕ) × (numbers_below m ≡ numbers_below n ++ ys)
below n zero l =
    let e : n ≡ zero = omega arith in
    ([], subst (λ (k : ℕ). numbers_below zero ≡ numbers_below k ++ []) (sym e) refl)
below n (suc m) l = elim (eq-zero-or-pos (suc m - n)) [
  | inl e ↦ let same : n ≡ suc m = omega arith in (
    [],
    subst (λ (k : ℕ). numbers_below (suc m) ≡ numbers_below k ++ []) (sym same)
        (nil_right (numbers_below (suc m))),
  )
  | inr p ↦ let r = below n m (omega arith) in
      (r.0 ++ m ∷ [], ap (λ (xs : List ℕ). xs ++ m ∷ []) r.1 ∙ assoc (numbers_below n) r.0 (m ∷ []))
]

front : (xs ys : List Block) (k : ℕ) (x : Block) → slice_get xs k ≡ Some x → slice_get (xs ++ ys) k ≡ Some x
front [] ys k x h = absurd cc
front (y ∷ xs) ys zero x h = h
front (y ∷ xs) ys (suc k) x h = front xs ys k x h

-- ---- tables

module _ (t u : Table) (g : Grows t u) where
  longer : length t.types ≤ length u.types
  longer = elim (eq-zero-or-pos (length t.types - length u.types)) [
    | inl e ↦ omega arith
    | inr p ↦ let s = slice_get-get_or t.types (length u.types) Void (omega arith) in
        let k = g.types (length u.types) _ s in
        let n = slice_get_past u.types (length u.types) (omega arith) in absurd (let bad = sym n ∙ k in cc)
  ]

  layout_on : (ty : ℕ) (l : Layout) → layout_of t ty ≡ Some l → layout_of u ty ≡ Some l
  layout_on ty l h =
      subst (λ (m : Model). by_type (layout_rules m) u ty ≡ Some l) (sym g.model)
      (by_type_grows (layout_rules t.model) t u g ty l h)

  pub size_is : (ty m : ℕ) → size t ty ≡ Some m → size u ty ≡ Some m
  size_is ty m h =
      let s = map_some (λ (l : Layout). l.size) (layout_of t ty) m h in
      rw (layout_on ty s.0 s.1) (ap (λ (k : ℕ). Some k) s.2)

  pub size_on : (ty n : ℕ) → is_number (size t ty) n ≡ true → is_number (size u ty) n ≡ true
  size_on ty n h = size_at (size t ty) refl h
    where
      size_at : (o : Option ℕ) → size t ty ≡ o → is_number o n ≡ true → is_number (size u ty) n ≡ true
      size_at None q k = never k
      size_at (Some m) q k = rw (size_is ty m q) k

  members_on : (a : ℕ) (test : MemberRow → Bool) → list_any test (members_of t a) ≡ true
      → list_any test (members_of u a) ≡ true
  members_on a test h = by_row (slice_get t.aggregates a) refl
    where
      by_members : (row : AggregateRow) → slice_get t.aggregates a ≡ Some row → (o : Option (List MemberRow))
          → row.members ≡ o → list_any test (members_of u a) ≡ true
      by_members row q None k = never (rw (q, k) at h)
      by_members row q (Some ms) k =
          let new = g.aggregates a row q in rw (new.1, new.3 ms k) (rw (q, k) at h)

      by_row : (o : Option AggregateRow) → slice_get t.aggregates a ≡ o → list_any test (members_of u a) ≡ true
      by_row None q = never (rw q at h)
      by_row (Some row) q = by_members row q row.members refl

  member_on : (offset ty : ℕ) (r : Ty) → has_member t (Some r) offset ty ≡ true → has_member u (Some r) offset ty ≡ true
  member_on offset ty Void h = h
  member_on offset ty (Int i) h = h
  member_on offset ty (Ptr e) h = h
  member_on offset ty (Array e n) h = h
  member_on offset ty (Aggregate a) h = members_on a _ h

  -- a row of which something holds is there later too
  row_on : (kind kind' : Option Ty → Bool) → kind None ≡ false
      → ((r : Ty) → kind (Some r) ≡ true → kind' (Some r) ≡ true) → (ty : ℕ)
      → kind (slice_get t.types ty) ≡ true → kind' (slice_get u.types ty) ≡ true
  row_on kind kind' none f ty h = row_at (slice_get t.types ty) refl h
    where
      row_at : (o : Option Ty) → slice_get t.types ty ≡ o → kind o ≡ true → kind' (slice_get u.types ty) ≡ true
      row_at None q k = never (sym none ∙ k)
      row_at (Some r) q k = rw (g.types ty r q) (f r k)

  any_on : (test test' : ℕ → Bool) → ((k : ℕ) → test k ≡ true → test' k ≡ true)
      → list_any test (numbers_below (length t.types)) ≡ true → list_any test' (numbers_below (length u.types)) ≡ true
  any_on test test' f h =
      let r = below (length t.types) (length u.types) longer in
      subst (λ (xs : List ℕ). list_any test' xs ≡ true) (sym r.1)
      (any_of_more test test' f (numbers_below (length t.types)) r.0 h)

  kept_on : (kind kind' : Option Ty → Bool) → kind None ≡ false
      → ((r : Ty) → kind (Some r) ≡ true → kind' (Some r) ≡ true) → (test test' : ℕ → Bool)
      → ((k : ℕ) → test k ≡ true → test' k ≡ true)
      → list_any test (filter (λ ty. kind (slice_get t.types ty)) (numbers_below (length t.types))) ≡ true
      → list_any test' (filter (λ ty. kind' (slice_get u.types ty)) (numbers_below (length u.types))) ≡ true
  kept_on kind kind' none f test test' k h =
      let r = below (length t.types) (length u.types) longer in
      subst (λ (xs : List ℕ). list_any test' (filter (λ ty. kind' (slice_get u.types ty)) xs) ≡ true) (sym r.1)
      (any_more (λ ty. kind (slice_get t.types ty)) (λ ty. kind' (slice_get u.types ty)) test test'
      (row_on kind kind' none f) k (numbers_below (length t.types)) r.0 h)

-- ---- expressions and places

module _ (t u : Table) (g : Grows t u) (bs more : List Block) (seen wider : List ℕ)
    (kept : (b : ℕ) → contains b seen ≡ true → contains b wider ≡ true) where
  abbrev S : Expr → Sort → Bool
  S e = has_sort t bs seen e

  abbrev S' : Expr → Sort → Bool
  S' e = has_sort u (bs ++ more) wider e

  abbrev P : Place → ℕ → Bool
  P a = place_has t bs seen a

  abbrev P' : Place → ℕ → Bool
  P' a = place_has u (bs ++ more) wider a

  block_on : (f : Option Block → Bool) → f None ≡ false → (b : ℕ) → f (slice_get bs b) ≡ true
      → f (slice_get (bs ++ more) b) ≡ true
  block_on f none b h = block_at (slice_get bs b) refl h
    where
      block_at : (o : Option Block) → slice_get bs b ≡ o → f o ≡ true → f (slice_get (bs ++ more) b) ≡ true
      block_at None q k = never (sym none ∙ k)
      block_at (Some x) q k = rw (front bs more b x q) k

  named_on : (b : ℕ) → is_named t bs seen b ≡ true → is_named u (bs ++ more) wider b ≡ true
  named_on b h = elim (or_cases (is_global (slice_get bs b)) (contains b seen) h) [
    | inl a ↦ or_left _ _ (block_on is_global refl b a)
    | inr a ↦ or_right _ _ (kept b a)
  ]

  int_on : (own : Option IntType) (has has' : Sort → Bool) → ((x : Sort) → has x ≡ true → has' x ≡ true)
      → is_int own has ≡ true → is_int own has' ≡ true
  int_on None has has' f h = h
  int_on (Some i) has has' f h = f (integer i) h

  pointer_on : (has has' : Sort → Bool) → ((x : Sort) → has x ≡ true → has' x ≡ true)
      → is_pointer t bs seen has ≡ true → is_pointer u (bs ++ more) wider has' ≡ true
  pointer_on has has' f h =
      any_on t u g (λ ty. has (pointer_to ty)) (λ ty. has' (pointer_to ty)) (λ ty k. f (pointer_to ty) k) h

  test_on : (own : Option IntType) (has has' : Sort → Bool) → ((x : Sort) → has x ≡ true → has' x ≡ true)
      → is_test t bs seen own has ≡ true → is_test u (bs ++ more) wider own has' ≡ true
  test_on own has has' f h = elim (or_cases (is_int own has) (is_pointer t bs seen has) h) [
    | inl a ↦ or_left _ _ (int_on own has has' f a)
    | inr a ↦ or_right _ _ (pointer_on has has' f a)
  ]

  where_on : (x : Sort) (test test' : ℕ → Bool) → ((ty : ℕ) → test ty ≡ true → test' ty ≡ true)
      → is_pointer_where x test ≡ true → is_pointer_where x test' ≡ true
  where_on (integer i) test test' f h = h
  where_on (pointer_to ty) test test' f h = f ty h

  mutual
    pub place_on : (a : Place) (ty : ℕ) → P a ty ≡ true → P' a ty ≡ true
    place_on (block b) ty h =
        let p = and_parts _ _ h in
        and_from _ _ (named_on b p.0) (block_on (λ o. block_has t bs seen o ty) refl b p.1)
    place_on (deref e) ty h = sort_on e (pointer_to ty) h
    place_on (member a offset) ty h =
        kept_on t u g (λ r. has_member t r offset ty) (λ r. has_member u r offset ty) refl (member_on t u g offset ty)
        (P a) (P' a) (λ k q. place_on a k q) h
    place_on (element a bound unit i) ty h =
        let p = and_parts _ _ h in
        let q = and_parts _ _ p.0 in
        let s = and_parts _ _ q.0 in
        and_from _ _ (and_from _ _ (and_from _ _ s.0 (size_on t u g ty unit s.1))
        (kept_on t u g (λ r. is_array_of r ty && has_bound r bound) (λ r. is_array_of r ty && has_bound r bound) refl
        (λ r k. k) (P a) (P' a) (λ k q. place_on a k q) q.1))
        (int_on (int_type_of i) (S i) (S' i) (λ x k. sort_on i x k) p.1)

    pub sort_on : (e : Expr) (x : Sort) → S e x ≡ true → S' e x ≡ true
    sort_on (const i v) x h = h
    sort_on null_value x h = h
    sort_on (load what a) x h =
        kept_on t u g (λ r. has_scalar r what && is_sort (sort_of r) x)
        (λ r. has_scalar r what && is_sort (sort_of r) x)
        refl (λ r k. k) (P a) (P' a) (λ k q. place_on a k q) h
    sort_on (addr_of a) x h =
        where_on x (λ ty. P a ty || some_type t bs seen (λ r. is_array_of r ty) (P a))
        (λ ty. P' a ty || some_type u (bs ++ more) wider (λ r. is_array_of r ty) (P' a))
        (λ ty k. elim (or_cases (P a ty) (some_type t bs seen (λ r. is_array_of r ty) (P a)) k) [
          | inl m ↦ or_left _ _ (place_on a ty m)
          | inr m ↦ or_right _ _ (kept_on t u g (λ r. is_array_of r ty) (λ r. is_array_of r ty) refl (λ r j. j)
              (P a) (P' a)
              (λ j q. place_on a j q) m)
        ]) h
    sort_on (binary op i a b) x h =
        let p = and_parts _ _ h in
        let q = and_parts _ _ p.0 in
        and_from _ _ (and_from _ _ q.0 (sort_on a (integer i) q.1))
        (int_on (right_type op i (int_type_of b)) (S b) (S' b) (λ y k. sort_on b y k) p.1)
    sort_on (convert i e) x h =
        let p = and_parts _ _ h in and_from _ _ p.0 (int_on (int_type_of e) (S e) (S' e) (λ y k. sort_on e y k) p.1)
    sort_on (compare c i a b) x h =
        let p = and_parts _ _ h in
        let q = and_parts _ _ p.0 in
        and_from _ _ (and_from _ _ q.0 (sort_on a (integer i) q.1)) (sort_on b (integer i) p.1)
    sort_on (ptr_compare c a b) x h =
        let p = and_parts _ _ h in
        let q = and_parts _ _ p.0 in
        and_from _ _ (and_from _ _ q.0 (pointer_on (S a) (S' a) (λ y k. sort_on a y k) q.1))
        (pointer_on (S b) (S' b) (λ y k. sort_on b y k) p.1)
    sort_on (logical_and a b) x h =
        let p = and_parts _ _ h in
        let q = and_parts _ _ p.0 in
        and_from _ _ (and_from _ _ q.0 (test_on (int_type_of a) (S a) (S' a) (λ y k. sort_on a y k) q.1))
        (test_on (int_type_of b) (S b) (S' b) (λ y k. sort_on b y k) p.1)
    sort_on (logical_or a b) x h =
        let p = and_parts _ _ h in
        let q = and_parts _ _ p.0 in
        and_from _ _ (and_from _ _ q.0 (test_on (int_type_of a) (S a) (S' a) (λ y k. sort_on a y k) q.1))
        (test_on (int_type_of b) (S b) (S' b) (λ y k. sort_on b y k) p.1)
    sort_on (logical_not e) x h =
        let p = and_parts _ _ h in and_from _ _ p.0 (test_on (int_type_of e) (S e) (S' e) (λ y k. sort_on e y k) p.1)
    sort_on (conditional e a b) x h =
        let p = and_parts _ _ h in
        let q = and_parts _ _ p.0 in
        and_from _ _ (and_from _ _ (test_on (int_type_of e) (S e) (S' e) (λ y k. sort_on e y k) q.0) (sort_on a x q.1))
        (sort_on b x p.1)
    sort_on (ptr_add e unit n back) x h =
        let p = and_parts _ _ h in
        let q = and_parts _ _ p.0 in
        let s = and_parts _ _ q.0 in
        and_from _ _ (and_from _ _ (and_from _ _ s.0 (where_on x (λ ty. is_number (size t ty) unit)
        (λ ty. is_number (size u ty) unit)
        (λ ty k. size_on t u g ty unit k) s.1)) (sort_on e x q.1))
        (int_on (int_type_of n) (S n) (S' n) (λ y k. sort_on n y k) p.1)
    sort_on (cast e) x h =
        let p = and_parts _ _ h in and_from _ _ p.0 (pointer_on (S e) (S' e) (λ y k. sort_on e y k) p.1)
