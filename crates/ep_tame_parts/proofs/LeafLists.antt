-- Leaves of lists that are put together.
use Rattle.std.proofs.Common.{◌≡◌, zero, suc, ◌+◌, ◌*◌, ◌<◌, ◌≤◌, Bool, true, false, ◌&&◌, ◌||◌, cond, List, [], ◌∷◌, ℕ}
use Rattle.ep_reads.proofs.Members.{bool_same}
use Rattle.std.proofs.Common.{◌++◌, Some, None, nat_eq, nat_le, nat_lt, refl, ap, ◌∙◌, subst, arith}
use Rattle.std.specs.List.{list_any}
use Rattle.std.proofs.Math.Nat.{mul-suc, mul-zero}
use Rattle.std.proofs.lemmas.Bool.{and_parts, eqb-true, eq-eqb, leb-true, le-leb, ltb-true, lt-ltb}
use Rattle.std.proofs.lemmas.Bool.{false_from_ne_true}
use Rattle.ep_int.specs.declared.types.Model.{Model}
use Rattle.ep_int.specs.Types.{size_of}
use Rattle.ep_layout.specs.declared.types.Leaf.{Leaf}
use Rattle.ep_layout.specs.Layout.{AreLeavesFrom, shifted, repeated}
use Rattle.ep_layout.proofs.Sizes.{size_of_scalar}
use Rattle.ep_cells.specs.Kill.{leaf_at, is_in_leaf}
use Rattle.ep_tame_parts.specs.Laws.{cuts_leaf, HasLeavesAt}

pub same_eq : (k a b : ℕ) → nat_eq (k + a) (k + b) ≡ nat_eq a b
same_eq k a b =
    bool_same (nat_eq (k + a) (k + b)) (nat_eq a b)
    (λ h. (let e = eqb-true (k + a) (k + b) h in eq-eqb a b (omega (arith, e))))
    (λ h. (let e = eqb-true a b h in eq-eqb (k + a) (k + b) (omega (arith, e))))

pub same_le : (k a b : ℕ) → nat_le (k + a) (k + b) ≡ nat_le a b
same_le k a b =
    bool_same (nat_le (k + a) (k + b)) (nat_le a b)
    (λ h. (let e = leb-true (k + a) (k + b) h in le-leb a b (omega (arith, e))))
    (λ h. (let e = leb-true a b h in le-leb (k + a) (k + b) (omega (arith, e))))

pub same_lt : (k a b : ℕ) → nat_lt (k + a) (k + b) ≡ nat_lt a b
same_lt k a b =
    bool_same (nat_lt (k + a) (k + b)) (nat_lt a b)
    (λ h. (let e = ltb-true (k + a) (k + b) h in lt-ltb a b (omega (arith, e))))
    (λ h. (let e = ltb-true a b h in lt-ltb (k + a) (k + b) (omega (arith, e))))

-- ---- lists put together

any_front : (test : Leaf → Bool) (xs ys : List Leaf) → list_any test ys ≡ false
    → list_any test (xs ++ ys) ≡ list_any test xs
any_front test [] ys h = h
any_front test (x ∷ xs) ys h = ap (λ b. test x || b) (any_front test xs ys h)

any_back : (test : Leaf → Bool) (xs ys : List Leaf) → list_any test xs ≡ false
    → list_any test (xs ++ ys) ≡ list_any test ys
any_back test [] ys h = refl
any_back test (x ∷ xs) ys h = at (test x) refl h (any_back test xs ys)
  where
    at : (b : Bool) → test x ≡ b → (b || list_any test xs) ≡ false
        → (list_any test xs ≡ false → list_any test (xs ++ ys) ≡ list_any test ys)
        → (test x || list_any test (xs ++ ys)) ≡ list_any test ys
    at true e h rest = absurd cc
    at false e h rest = ap (λ b. b || list_any test (xs ++ ys)) e ∙ rest h

at_front : (q : ℕ) (xs ys : List Leaf) → leaf_at ys q ≡ None → leaf_at (xs ++ ys) q ≡ leaf_at xs q
at_front q [] ys h = h
at_front q (x ∷ xs) ys h = ap (λ o. cond (nat_eq x.offset q) (Some x.what) o) (at_front q xs ys h)

at_back : (q : ℕ) (xs ys : List Leaf) → leaf_at xs q ≡ None → leaf_at (xs ++ ys) q ≡ leaf_at ys q
at_back q [] ys h = refl
at_back q (x ∷ xs) ys h = at (nat_eq x.offset q) refl h (at_back q xs ys)
  where
    at : (b : Bool) → nat_eq x.offset q ≡ b → cond b (Some x.what) (leaf_at xs q) ≡ None
        → (leaf_at xs q ≡ None → leaf_at (xs ++ ys) q ≡ leaf_at ys q)
        → cond (nat_eq x.offset q) (Some x.what) (leaf_at (xs ++ ys) q) ≡ leaf_at ys q
    at true e h rest = absurd cc
    at false e h rest = ap (λ b. cond b (Some x.what) (leaf_at (xs ++ ys) q)) e ∙ rest h

-- leaves that begin at e or later
abbrev pub BeginFrom : ℕ → List Leaf → Type 0
BeginFrom e [] = Unit {0}
BeginFrom e (l ∷ ls) = (e ≤ l.offset) × BeginFrom e ls

pub begin_append : (e : ℕ) (xs ys : List Leaf) → BeginFrom e xs → BeginFrom e ys → BeginFrom e (xs ++ ys)
begin_append e [] ys h i = i
begin_append e (x ∷ xs) ys h i = (h.0, begin_append e xs ys h.1 i)

pub begin_shifted : (e k : ℕ) (xs : List Leaf) → e ≤ k → BeginFrom e (shifted k xs)
begin_shifted e k [] h = tt
begin_shifted e k (x ∷ xs) h = (omega (arith, h), begin_shifted e k xs h)

pub begin_later : (d e : ℕ) (xs : List Leaf) → d ≤ e → BeginFrom e xs → BeginFrom d xs
begin_later d e [] h i = tt
begin_later d e (x ∷ xs) h i = let b = i.0 in (omega (arith, h, b), begin_later d e xs h i.1)

module _ (m : Model) where
  abbrev in_test : ℕ → Leaf → Bool
  in_test q l = nat_le l.offset q && nat_lt q (l.offset + size_of m l.what)

  abbrev cut_test : ℕ → Leaf → Bool
  cut_test q l = nat_lt l.offset q && nat_lt q (l.offset + size_of m l.what)

  -- leaves that end at z or before
  abbrev pub EndTo : ℕ → List Leaf → Type 0
  EndTo z [] = Unit {0}
  EndTo z (l ∷ ls) = (l.offset + size_of m l.what ≤ z) × EndTo z ls

  last_end : (e z : ℕ) (xs : List Leaf) → AreLeavesFrom m e z xs → e ≤ z
  last_end e z [] h = h
  last_end e z (x ∷ xs) h =
      let a = h.0 in let b = last_end (x.offset + size_of m x.what) z xs h.2 in omega (arith, a, b)

  pub ordered_end : (e z : ℕ) (xs : List Leaf) → AreLeavesFrom m e z xs → EndTo z xs
  ordered_end e z [] h = tt
  ordered_end e z (x ∷ xs) h =
      (last_end (x.offset + size_of m x.what) z xs h.2, ordered_end (x.offset + size_of m x.what) z xs h.2)

  pub end_shifted : (k z : ℕ) (xs : List Leaf) → EndTo z xs → EndTo (k + z) (shifted k xs)
  end_shifted k z [] h = tt
  end_shifted k z (x ∷ xs) h = let a = h.0 in (omega (arith, a), end_shifted k z xs h.1)

  -- ---- no leaf at an offset

  pub none_begins : (e q : ℕ) (xs : List Leaf) → BeginFrom e xs → q < e → leaf_at xs q ≡ None
  none_begins e q [] h l = refl
  none_begins e q (x ∷ xs) h l =
      let a = h.0 in
      ap (λ b. cond b (Some x.what) (leaf_at xs q))
      (false_from_ne_true (nat_eq x.offset q) (λ i. let j = eqb-true x.offset q i in omega (arith, a, j, l)))
      ∙ none_begins e q xs h.1 l

  pub none_inside : (e q : ℕ) (xs : List Leaf) → BeginFrom e xs → q < e → is_in_leaf m xs q ≡ false
  none_inside e q [] h l = refl
  none_inside e q (x ∷ xs) h l =
      let a = h.0 in
      ap (λ b. b || is_in_leaf m xs q)
      (false_from_ne_true (in_test q x)
      (λ i. let j = leb-true x.offset q (and_parts (nat_le x.offset q) _ i).0 in omega (arith, a, j, l)))
      ∙ none_inside e q xs h.1 l

  pub none_cut : (e q : ℕ) (xs : List Leaf) → BeginFrom e xs → q ≤ e → cuts_leaf m xs q ≡ false
  none_cut e q [] h l = refl
  none_cut e q (x ∷ xs) h l =
      let a = h.0 in
      ap (λ b. b || cuts_leaf m xs q)
      (false_from_ne_true (cut_test q x)
      (λ i. let j = ltb-true x.offset q (and_parts (nat_lt x.offset q) _ i).0 in omega (arith, a, j, l)))
      ∙ none_cut e q xs h.1 l

  pub behind_begins : (z q : ℕ) (xs : List Leaf) → EndTo z xs → z ≤ q → leaf_at xs q ≡ None
  behind_begins z q [] h l = refl
  behind_begins z q (x ∷ xs) h l =
      let a = h.0 in
      let s = (size_of_scalar m x.what).0 in
      ap (λ b. cond b (Some x.what) (leaf_at xs q))
      (false_from_ne_true (nat_eq x.offset q) (λ i. let j = eqb-true x.offset q i in omega (arith, a, j, l, s)))
      ∙ behind_begins z q xs h.1 l

  pub behind_inside : (z q : ℕ) (xs : List Leaf) → EndTo z xs → z ≤ q → is_in_leaf m xs q ≡ false
  behind_inside z q [] h l = refl
  behind_inside z q (x ∷ xs) h l =
      let a = h.0 in
      ap (λ b. b || is_in_leaf m xs q)
      (false_from_ne_true (in_test q x)
      (λ i. let j = ltb-true q (x.offset + size_of m x.what) (and_parts (nat_le x.offset q) _ i).1 in
      omega (arith, a, j, l)))
      ∙ behind_inside z q xs h.1 l

  pub behind_cut : (z q : ℕ) (xs : List Leaf) → EndTo z xs → z ≤ q → cuts_leaf m xs q ≡ false
  behind_cut z q [] h l = refl
  behind_cut z q (x ∷ xs) h l =
      let a = h.0 in
      ap (λ b. b || cuts_leaf m xs q)
      (false_from_ne_true (cut_test q x)
      (λ i. let j = ltb-true q (x.offset + size_of m x.what) (and_parts (nat_lt x.offset q) _ i).1 in
      omega (arith, a, j, l)))
      ∙ behind_cut z q xs h.1 l

  -- ---- leaves further on

  shifted_begins : (k q : ℕ) (xs : List Leaf) → leaf_at (shifted k xs) (k + q) ≡ leaf_at xs q
  shifted_begins k q [] = refl
  shifted_begins k q (x ∷ xs) =
      ap (λ b. cond b (Some x.what) (leaf_at (shifted k xs) (k + q))) (same_eq k x.offset q)
      ∙ ap (λ o. cond (nat_eq x.offset q) (Some x.what) o) (shifted_begins k q xs)

  sum_shifted : (k o s : ℕ) → k + o + s ≡ k + (o + s)
  sum_shifted k o s = omega arith

  end_test : (k q : ℕ) (x : Leaf) → nat_lt (k + q) (k + x.offset + size_of m x.what)
      ≡ nat_lt q (x.offset + size_of m x.what)
  end_test k q x =
      ap (λ y. nat_lt (k + q) y) (sum_shifted k x.offset (size_of m x.what))
      ∙ same_lt k q (x.offset + size_of m x.what)

  shifted_inside : (k q : ℕ) (xs : List Leaf) → is_in_leaf m (shifted k xs) (k + q) ≡ is_in_leaf m xs q
  shifted_inside k q [] = refl
  shifted_inside k q (x ∷ xs) =
      ap (λ b. (b && nat_lt (k + q) (k + x.offset + size_of m x.what)) || is_in_leaf m (shifted k xs) (k + q))
      (same_le k x.offset q)
      ∙ ap (λ b. (nat_le x.offset q && b) || is_in_leaf m (shifted k xs) (k + q)) (end_test k q x)
      ∙ ap (λ b. in_test q x || b) (shifted_inside k q xs)

  shifted_cut : (k q : ℕ) (xs : List Leaf) → cuts_leaf m (shifted k xs) (k + q) ≡ cuts_leaf m xs q
  shifted_cut k q [] = refl
  shifted_cut k q (x ∷ xs) =
      ap (λ b. (b && nat_lt (k + q) (k + x.offset + size_of m x.what)) || cuts_leaf m (shifted k xs) (k + q))
      (same_lt k x.offset q)
      ∙ ap (λ b. (nat_lt x.offset q && b) || cuts_leaf m (shifted k xs) (k + q)) (end_test k q x)
      ∙ ap (λ b. cut_test q x || b) (shifted_cut k q xs)

  -- ---- a part of the list

  abbrev pub Same : (whole part : List Leaf) → (k bytes : ℕ) → Type 0
  Same xs ys k s = HasLeavesAt m xs ys k s

  pub same_itself : (xs : List Leaf) (s : ℕ) → Same xs xs 0 s
  same_itself xs s = record {
    begins = λ x l. ap (leaf_at xs) (none_more x);
    inside = λ x l. ap (is_in_leaf m xs) (none_more x);
    cut = λ x l. ap (cuts_leaf m xs) (none_more x);
  }
    where
      none_more : (x : ℕ) → 0 + x ≡ x
      none_more x = omega arith

  pub same_inside : (xs ys zs : List Leaf) (k j s r : ℕ) → Same xs ys k s → Same ys zs j r → j + r ≤ s
      → Same xs zs (k + j) r
  same_inside xs ys zs k j s r a b l = record {
    begins = λ x h. ap (leaf_at xs) (sum x) ∙ a.begins (j + x) (omega (arith, l, h)) ∙ b.begins x h;
    inside = λ x h. ap (is_in_leaf m xs) (sum x) ∙ a.inside (j + x) (omega (arith, l, h)) ∙ b.inside x h;
    cut = λ x h. ap (cuts_leaf m xs) (sum x) ∙ a.cut (j + x) (omega (arith, l, h)) ∙ b.cut x h;
  }
    where
      sum : (x : ℕ) → k + j + x ≡ k + (j + x)
      sum x = omega arith

  pub same_shifted : (xs ys : List Leaf) (j k s : ℕ) → Same xs ys k s → Same (shifted j xs) ys (j + k) s
  same_shifted xs ys j k s a = record {
    begins = λ x h. ap (leaf_at (shifted j xs)) (sum x) ∙ shifted_begins j (k + x) xs ∙ a.begins x h;
    inside = λ x h. ap (is_in_leaf m (shifted j xs)) (sum x) ∙ shifted_inside j (k + x) xs ∙ a.inside x h;
    cut = λ x h. ap (cuts_leaf m (shifted j xs)) (sum x) ∙ shifted_cut j (k + x) xs ∙ a.cut x h;
  }
    where
      sum : (x : ℕ) → j + k + x ≡ j + (k + x)
      sum x = omega arith

  -- other leaves behind it, or before it
  pub same_front : (xs more ys : List Leaf) (k s : ℕ) → Same xs ys k s → BeginFrom (k + s) more
      → Same (xs ++ more) ys k s
  same_front xs more ys k s a h = record {
    begins = λ x l. at_front (k + x) xs more (none_begins (k + s) (k + x) more h (omega (arith, l))) ∙ a.begins x l;
    inside = λ x l.
        any_front (in_test (k + x)) xs more (none_inside (k + s) (k + x) more h (omega (arith, l))) ∙ a.inside x l;
    cut = λ x l. any_front (cut_test (k + x)) xs more (none_cut (k + s) (k + x) more h (omega (arith, l))) ∙ a.cut x l;
  }

  pub same_back : (less xs ys : List Leaf) (z k s : ℕ) → Same xs ys k s → EndTo z less → z ≤ k
      → Same (less ++ xs) ys k s
  same_back less xs ys z k s a h f = record {
    begins = λ x l. at_back (k + x) less xs (behind_begins z (k + x) less h (omega (arith, f))) ∙ a.begins x l;
    inside = λ x l.
        any_back (in_test (k + x)) less xs (behind_inside z (k + x) less h (omega (arith, f))) ∙ a.inside x l;
    cut = λ x l. any_back (cut_test (k + x)) less xs (behind_cut z (k + x) less h (omega (arith, f))) ∙ a.cut x l;
  }

  -- an element
  pub same_element : (n u i : ℕ) (xs : List Leaf) → EndTo u xs → i < n → Same (repeated n u xs) xs (u * i) u
  same_element zero u i xs h l = absurd (omega (arith, l))
  same_element (suc n) u zero xs h l =
      let e : 0 ≡ u * zero = (let z = mul-zero u in omega (arith, z)) in
      subst (λ k. Same (xs ++ shifted u (repeated n u xs)) xs k u) e
      (same_front xs (shifted u (repeated n u xs)) xs 0 u (same_itself xs u)
      (begin_shifted (0 + u) u (repeated n u xs) (omega arith)))
  same_element (suc n) u (suc i) xs h l =
      let e : u + u * i ≡ u * suc i = (let z = mul-suc u i in omega (arith, z)) in
      subst (λ k. Same (xs ++ shifted u (repeated n u xs)) xs k u) e
      (same_back xs (shifted u (repeated n u xs)) xs u (u + u * i) u
      (same_shifted (repeated n u xs) xs u (u * i) u (same_element n u i xs h (omega (arith, l)))) h (omega arith))
