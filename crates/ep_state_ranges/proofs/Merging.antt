-- Two rising lists of places, merged.
use Rattle.std.proofs.Common.{◌≡◌, ℕ, ◌+◌, ◌<◌, ◌≤◌, nat_eq, nat_lt, Bool, true, false, ◌&&◌, ◌||◌, cond, List, []}
use Rattle.ep_cell_ranges.proofs.Basics.{is_same_spot-equal}
use Rattle.std.proofs.lemmas.Bool.{or_cases}
use Rattle.std.proofs.Common.{◌∷◌, ◌++◌, append_assoc, append-nil, length, get_or, drop, drop-cons, add-one, ◌⊎◌, inl}
use Rattle.std.proofs.Common.{inr, ⊎_elim, refl, sym, ◌∙◌, ap, subst, arith}
use Rattle.std.proofs.lemmas.List.{drop_all}
use Rattle.std.proofs.lemmas.Bool.{and_parts, and_from, ltb-true, ltb-false, lt-ltb, eqb-true, eq-eqb}
use Rattle.std.proofs.lemmas.Bool.{false_from_ne_true, both_ways}
use Rattle.ep_cell_ranges.specs.Spots.{Spot, is_same_spot, spot_before, put_spot, all_spots}
use Rattle.ep_state_ranges.specs.Merged.{IsBelow, AreRising, Chosen, chosen}

-- ---- the order of places

or_from : (a b : Bool) → (a ≡ true) ⊎ (b ≡ true) → (a || b) ≡ true
or_from true b h = refl
or_from false b (inl e) = absurd (cc)
or_from false b (inr h) = h

is_less : (q r : Spot) → spot_before q r ≡ true → (q.0 < r.0) ⊎ ((q.0 ≡ r.0) × (q.1 < r.1))
is_less q r h =
    ⊎_elim (λ k. inl (ltb-true q.0 r.0 k))
    (λ k. let p = and_parts (nat_eq q.0 r.0) (nat_lt q.1 r.1) k in inr (eqb-true q.0 r.0 p.0, ltb-true q.1 r.1 p.1))
    (or_cases (nat_lt q.0 r.0) (nat_eq q.0 r.0 && nat_lt q.1 r.1) h)

before : (q r : Spot) → (q.0 < r.0) ⊎ ((q.0 ≡ r.0) × (q.1 < r.1)) → spot_before q r ≡ true
before q r h =
    or_from (nat_lt q.0 r.0) (nat_eq q.0 r.0 && nat_lt q.1 r.1)
    (⊎_elim (λ k. inl (lt-ltb q.0 r.0 k))
    (λ k. inr (and_from (nat_eq q.0 r.0) (nat_lt q.1 r.1) (eq-eqb q.0 r.0 k.0) (lt-ltb q.1 r.1 k.1))) h)

trans_by : (a b c d e f : ℕ) → (a < c) ⊎ ((a ≡ c) × (b < d)) → (c < e) ⊎ ((c ≡ e) × (d < f))
    → (a < e) ⊎ ((a ≡ e) × (b < f))
trans_by a b c d e f (inl h) (inl k) = inl (omega (arith, h, k))
trans_by a b c d e f (inl h) (inr k) = inl (omega (arith, h, k.0))
trans_by a b c d e f (inr h) (inl k) = inl (omega (arith, h.0, k))
trans_by a b c d e f (inr h) (inr k) = inr (omega (arith, h.0, k.0), omega (arith, h.1, k.1))

trans : (q r s : Spot) → spot_before q r ≡ true → spot_before r s ≡ true → spot_before q s ≡ true
trans q r s h k = before q s (trans_by q.0 q.1 r.0 r.1 s.0 s.1 (is_less q r h) (is_less r s k))

asym_by : (a b c d : ℕ) → (a < c) ⊎ ((a ≡ c) × (b < d)) → (c < a) ⊎ ((c ≡ a) × (d < b)) → ⊥
asym_by a b c d (inl h) (inl k) = omega (arith, h, k)
asym_by a b c d (inl h) (inr k) = omega (arith, h, k.0)
asym_by a b c d (inr h) (inl k) = omega (arith, h.0, k)
asym_by a b c d (inr h) (inr k) = omega (arith, h.1, k.1)

not_before : (q r : Spot) → spot_before r q ≡ true → spot_before q r ≡ false
not_before q r h =
    false_from_ne_true (spot_before q r) (λ k. asym_by q.0 q.1 r.0 r.1 (is_less q r k) (is_less r q h))

apart_by : (a b c d : ℕ) → (a < c) ⊎ ((a ≡ c) × (b < d)) → c ≡ a → d ≡ b → ⊥
apart_by a b c d (inl h) e f = omega (arith, h, e)
apart_by a b c d (inr h) e f = omega (arith, h.1, f)

not_same : (q r : Spot) → spot_before r q ≡ true → is_same_spot q r ≡ false
not_same q r h =
    false_from_ne_true (is_same_spot q r) (λ k.
    let p = and_parts (nat_eq q.0 r.0) (nat_eq q.1 r.1) k in
    apart_by r.0 r.1 q.0 q.1 (is_less r q h) (eqb-true q.0 r.0 p.0) (eqb-true q.1 r.1 p.1))

never_by : (a b : ℕ) → (a < a) ⊎ ((a ≡ a) × (b < b)) → ⊥
never_by a b (inl h) = omega (arith, h)
never_by a b (inr h) = omega (arith, h.1)

not_itself : (q r : Spot) → q ≡ r → spot_before q r ≡ false
not_itself q r e =
    subst (λ s. spot_before q s ≡ false) e
    (false_from_ne_true (spot_before q q) (λ k. never_by q.0 q.1 (is_less q q k)))

more_by : (a b c d : ℕ) (s t u v : Bool) → nat_lt a c ≡ s → nat_eq a c ≡ t → nat_lt b d ≡ u → nat_eq b d ≡ v
    → (s || (t && u)) ≡ false → (t && v) ≡ false → (c < a) ⊎ ((c ≡ a) × (d < b))
more_by a b c d true t u v e1 e2 e3 e4 h k = absurd (cc)
more_by a b c d false false u v e1 e2 e3 e4 h k =
    let le = ltb-false a c e1 in
    let ne : a ≡ c → ⊥ = λ e. both_ways (nat_eq a c) e2 (eq-eqb a c e) in
    inl (omega (arith, le, ne))
more_by a b c d false true true v e1 e2 e3 e4 h k = absurd (cc)
more_by a b c d false true false true e1 e2 e3 e4 h k = absurd (cc)
more_by a b c d false true false false e1 e2 e3 e4 h k =
    let le = ltb-false b d e3 in
    let ne : b ≡ d → ⊥ = λ e. both_ways (nat_eq b d) e4 (eq-eqb b d e) in
    inr (sym (eqb-true a c e2), omega (arith, le, ne))

is_more : (q r : Spot) → spot_before q r ≡ false → is_same_spot q r ≡ false → spot_before r q ≡ true
is_more q r h k =
    before r q (more_by q.0 q.1 r.0 r.1 (nat_lt q.0 r.0) (nat_eq q.0 r.0) (nat_lt q.1 r.1) (nat_eq q.1 r.1) refl refl
    refl refl h k)

-- ---- one place more

put_below : (q : Spot) (xs : List Spot) → IsBelow q xs → put_spot q xs ≡ q ∷ xs
put_below q [] h = refl
put_below q (x ∷ xs) h =
    ap (λ b. cond b (q ∷ x ∷ xs) (cond (is_same_spot q x) (x ∷ xs) (x ∷ put_spot q xs))) h.0

put_same : (q r : Spot) (rs : List Spot) → spot_before q r ≡ false → is_same_spot q r ≡ true
    → put_spot q (r ∷ rs) ≡ r ∷ rs
put_same q r rs e f =
    ap (λ b. cond b (q ∷ r ∷ rs) (cond (is_same_spot q r) (r ∷ rs) (r ∷ put_spot q rs))) e
    ∙ ap (λ b. cond b (r ∷ rs) (r ∷ put_spot q rs)) f

put_later : (q r : Spot) (rs : List Spot) → spot_before q r ≡ false → is_same_spot q r ≡ false
    → put_spot q (r ∷ rs) ≡ r ∷ put_spot q rs
put_later q r rs e f =
    ap (λ b. cond b (q ∷ r ∷ rs) (cond (is_same_spot q r) (r ∷ rs) (r ∷ put_spot q rs))) e
    ∙ ap (λ b. cond b (r ∷ rs) (r ∷ put_spot q rs)) f

put_passes : (q r : Spot) (rs : List Spot) → spot_before r q ≡ true → put_spot q (r ∷ rs) ≡ r ∷ put_spot q rs
put_passes q r rs h = put_later q r rs (not_before q r h) (not_same q r h)

-- ---- below all

below_lower : (q r : Spot) (xs : List Spot) → spot_before q r ≡ true → IsBelow r xs → IsBelow q xs
below_lower q r [] h k = tt
below_lower q r (x ∷ xs) h k = (trans q r x h k.0, below_lower q r xs h k.1)

below_put_by : (q r x : Spot) (xs ys : List Spot) (s t : Bool) → spot_before q r ≡ true → IsBelow q (x ∷ xs)
    → IsBelow q ys → IsBelow q (cond s (r ∷ x ∷ xs) (cond t (x ∷ xs) (x ∷ ys)))
below_put_by q r x xs ys true t h k j = (h, k)
below_put_by q r x xs ys false true h k j = k
below_put_by q r x xs ys false false h k j = (k.0, j)

below_put : (q r : Spot) (xs : List Spot) → spot_before q r ≡ true → IsBelow q xs → IsBelow q (put_spot r xs)
below_put q r [] h k = (h, tt)
below_put q r (x ∷ xs) h k =
    below_put_by q r x xs (put_spot r xs) (spot_before r x) (is_same_spot r x) h k (below_put q r xs h k.1)

below_all : (q : Spot) (qs rs : List Spot) → IsBelow q qs → IsBelow q rs → IsBelow q (all_spots qs rs)
below_all q [] rs h k = k
below_all q (x ∷ qs) rs h k = below_put q x (all_spots qs rs) h.0 (below_all q qs rs h.1 k)

all_pass : (r : Spot) (qs rs : List Spot) → IsBelow r qs → all_spots qs (r ∷ rs) ≡ r ∷ all_spots qs rs
all_pass r [] rs h = refl
all_pass r (q ∷ qs) rs h =
    ap (put_spot q) (all_pass r qs rs h.1) ∙ put_passes q r (all_spots qs rs) h.0

-- ---- a turn

take_first : (q r : Spot) (qs rs : List Spot) → AreRising (q ∷ qs) → AreRising (r ∷ rs) → spot_before q r ≡ true
    → all_spots (q ∷ qs) (r ∷ rs) ≡ q ∷ all_spots qs (r ∷ rs)
take_first q r qs rs h k e =
    put_below q (all_spots qs (r ∷ rs)) (below_all q qs (r ∷ rs) h.0 (e, below_lower q r rs e k.0))

take_same : (q r : Spot) (qs rs : List Spot) → AreRising (q ∷ qs) → is_same_spot q r ≡ true
    → all_spots (q ∷ qs) (r ∷ rs) ≡ r ∷ all_spots qs rs
take_same q r qs rs h e =
    ap (put_spot q) (all_pass r qs rs (subst (λ s. IsBelow s qs) (is_same_spot-equal q r e) h.0))
    ∙ put_same q r (all_spots qs rs) (not_itself q r (is_same_spot-equal q r e)) e

take_second : (q r : Spot) (qs rs : List Spot) → AreRising (q ∷ qs) → spot_before r q ≡ true
    → all_spots (q ∷ qs) (r ∷ rs) ≡ r ∷ all_spots (q ∷ qs) rs
take_second q r qs rs h e =
    ap (put_spot q) (all_pass r qs rs (below_lower r q qs e h.0)) ∙ put_passes q r (all_spots qs rs) e

-- what is left of the lists after a turn
pub record Turned (c : Chosen) (ls rs : List Spot) (i j : ℕ) (outs all : List Spot) : Type 0 where
  pub is : outs ++ all_spots (drop (i + c.left) ls) (drop (j + c.right) rs) ≡ all
  pub first : AreRising (drop (i + c.left) ls)
  pub second : AreRising (drop (j + c.right) rs)
  pub within : i + c.left ≤ length ls
  pub inside : j + c.right ≤ length rs

turn_by : (q r : Spot) (ls rs : List Spot) (i j : ℕ) (out all : List Spot) (s t : Bool) → spot_before q r ≡ s
    → is_same_spot q r ≡ t → i < length ls → j < length rs → drop i ls ≡ q ∷ drop (i + 1) ls
    → drop j rs ≡ r ∷ drop (j + 1) rs → AreRising (drop i ls) → AreRising (drop j rs)
    → out ++ all_spots (drop i ls) (drop j rs) ≡ all
    → (let c : Chosen = cond s (record { spot = q; left = 1; right = 0 }) (cond t (record {
      spot = r;
      left = 1;
      right = 1;
    }) (record { spot = r; left = 0; right = 1 })) in Turned c ls rs i j (out ++ c.spot ∷ []) all)
turn_by q r ls rs i j out all true t e f l m a b h k g =
    let h2 = subst AreRising a h in
    let k2 = subst AreRising b k in
    let none : drop (j + 0) rs ≡ drop j rs = ap (λ (n : ℕ). drop n rs) (omega arith) in
    record {
      is =
          append_assoc out (q ∷ []) (all_spots (drop (i + 1) ls) (drop (j + 0) rs))
          ∙ ap (λ z. out ++ q ∷ all_spots (drop (i + 1) ls) z) (none ∙ b)
          ∙ sym (ap (λ z. out ++ z) (take_first q r (drop (i + 1) ls) (drop (j + 1) rs) h2 k2 e))
          ∙ sym (ap (λ z. out ++ all_spots z (r ∷ drop (j + 1) rs)) a)
          ∙ sym (ap (λ z. out ++ all_spots (drop i ls) z) b)
          ∙ g;
      first = h2.1;
      second = subst AreRising (sym none) k;
      within = omega (arith, l);
      inside = omega (arith, m);
    }
turn_by q r ls rs i j out all false true e f l m a b h k g =
    let h2 = subst AreRising a h in
    let k2 = subst AreRising b k in
    record {
      is =
          append_assoc out (r ∷ []) (all_spots (drop (i + 1) ls) (drop (j + 1) rs))
          ∙ sym (ap (λ z. out ++ z) (take_same q r (drop (i + 1) ls) (drop (j + 1) rs) h2 f))
          ∙ sym (ap (λ z. out ++ all_spots z (r ∷ drop (j + 1) rs)) a)
          ∙ sym (ap (λ z. out ++ all_spots (drop i ls) z) b)
          ∙ g;
      first = h2.1;
      second = k2.1;
      within = omega (arith, l);
      inside = omega (arith, m);
    }
turn_by q r ls rs i j out all false false e f l m a b h k g =
    let h2 = subst AreRising a h in
    let k2 = subst AreRising b k in
    let none : drop (i + 0) ls ≡ drop i ls = ap (λ (n : ℕ). drop n ls) (omega arith) in
    record {
      is =
          append_assoc out (r ∷ []) (all_spots (drop (i + 0) ls) (drop (j + 1) rs))
          ∙ ap (λ z. out ++ r ∷ all_spots z (drop (j + 1) rs)) (none ∙ a)
          ∙ sym (ap (λ z. out ++ z) (take_second q r (drop (i + 1) ls) (drop (j + 1) rs) h2 (is_more q r e f)))
          ∙ sym (ap (λ z. out ++ all_spots z (r ∷ drop (j + 1) rs)) a)
          ∙ sym (ap (λ z. out ++ all_spots (drop i ls) z) b)
          ∙ g;
      first = subst AreRising (sym none) h;
      second = k2.1;
      within = omega (arith, l);
      inside = omega (arith, m);
    }

pub next : (xs : List Spot) (i : ℕ) (d : Spot) → i < length xs → drop i xs ≡ get_or xs i d ∷ drop (i + 1) xs
next xs i d h = drop-cons xs i d h ∙ ap (λ k. get_or xs i d ∷ drop k xs) (sym (add-one i))

pub turn : (d : Spot) (ls rs : List Spot) (i j : ℕ) (c : Chosen) (out outs all : List Spot) → i < length ls
    → j < length rs → AreRising (drop i ls) → AreRising (drop j rs)
    → c ≡ chosen (get_or ls i d) (get_or rs j d) → outs ≡ out ++ c.spot ∷ []
    → out ++ all_spots (drop i ls) (drop j rs) ≡ all → Turned c ls rs i j outs all
turn d ls rs i j c out outs all l m h k e f g =
    subst (λ z. Turned c ls rs i j z all) (sym f)
    (subst (λ z. Turned z ls rs i j (out ++ z.spot ∷ []) all) (sym e)
    (turn_by (get_or ls i d) (get_or rs j d) ls rs i j out all (spot_before (get_or ls i d) (get_or rs j d))
    (is_same_spot (get_or ls i d) (get_or rs j d)) refl refl l m (next ls i d l) (next rs j d m) h k g))

-- ---- the end

none_second : (qs : List Spot) → AreRising qs → all_spots qs [] ≡ qs
none_second [] h = refl
none_second (q ∷ qs) h = ap (put_spot q) (none_second qs h.1) ∙ put_below q qs h.0

pub ends : (ls rs : List Spot) (i j : ℕ) (out end all : List Spot) → AreRising (drop i ls)
    → (length ls ≤ i) ⊎ (length rs ≤ j) → end ≡ (out ++ drop i ls) ++ drop j rs
    → out ++ all_spots (drop i ls) (drop j rs) ≡ all → end ≡ all
ends ls rs i j out end all h (inl l) e g =
    e
    ∙ ap (λ z. (out ++ z) ++ drop j rs) (drop_all i ls l)
    ∙ ap (λ z. z ++ drop j rs) (append-nil out)
    ∙ sym (ap (λ z. out ++ all_spots z (drop j rs)) (drop_all i ls l))
    ∙ g
ends ls rs i j out end all h (inr l) e g =
    e
    ∙ ap (λ z. (out ++ drop i ls) ++ z) (drop_all j rs l)
    ∙ append-nil (out ++ drop i ls)
    ∙ sym (ap (λ z. out ++ z) (none_second (drop i ls) h))
    ∙ sym (ap (λ z. out ++ all_spots (drop i ls) z) (drop_all j rs l))
    ∙ g

-- ---- rising, from one to the next

below_next : (q r : Spot) (rs : List Spot) → spot_before q r ≡ true → AreRising (r ∷ rs) → AreRising (q ∷ r ∷ rs)
below_next q r rs e h = ((e, below_lower q r rs e h.0), h)

pub rising_next : (d : Spot) (xs : List Spot) (n m : ℕ) → n ≡ m + 1 → m + 1 < length xs
    → spot_before (get_or xs m d) (get_or xs (m + 1) d) ≡ true → AreRising (drop n xs) → AreRising (drop m xs)
rising_next d xs n m e l h k =
    subst AreRising (sym (next xs m d (omega (arith, l)) ∙ ap (λ z. get_or xs m d ∷ z) (next xs (m + 1) d l)))
    (below_next (get_or xs m d) (get_or xs (m + 1) d) (drop (m + 1 + 1) xs) h
    (subst AreRising (next xs (m + 1) d l) (subst (λ (z : ℕ). AreRising (drop z xs)) e k)))

pub rising_last : (d : Spot) (xs : List Spot) (m : ℕ) → m < length xs → length xs ≤ m + 1 → AreRising (drop m xs)
rising_last d xs m h l =
    subst AreRising (sym (next xs m d h ∙ ap (λ z. get_or xs m d ∷ z) (drop_all (m + 1) xs l))) (tt, tt)

pub are_chosen : (c d : Chosen) → c.spot ≡ d.spot → c.left ≡ d.left → c.right ≡ d.right → c ≡ d
are_chosen c d e f g =
    ap (λ (q : Spot). let r : Chosen = record c { spot = q } in r) e
    ∙ ap (λ (n : ℕ). let r : Chosen = record c { spot = d.spot; left = n } in r) f
    ∙ ap (λ (n : ℕ). let r : Chosen = record d { right = n } in r) g
