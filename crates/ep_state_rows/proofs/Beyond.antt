-- Places of so many bytes, each behind the one before it.
use Rattle.std.proofs.Common.{◌≡◌, ℕ, ◌+◌, ◌<◌, ◌≤◌, true, ◌&&◌, ◌||◌, nat_eq, nat_lt, nat_le, List, []}
use Rattle.std.proofs.Common.{◌∷◌, length, get_or, drop, drop-cons, add-one, sym, ap, ◌∙◌, subst, arith}
use Rattle.std.proofs.lemmas.Bool.Decides.{nat_tests}
use Rattle.std.proofs.lemmas.List.{drop_all}
use Rattle.ep_cell_ranges.specs.Spots.{Spot}
use Rattle.ep_state_rows.specs.Rows.{is_beyond, AreBeyond, AreSpaced}

beyond_by : (n a b c e f g : ℕ) → (nat_lt a c || (nat_eq a c && nat_le (b + n) e)) ≡ true
    → (nat_lt c f || (nat_eq c f && nat_le (e + n) g)) ≡ true
    → (nat_lt a f || (nat_eq a f && nat_le (b + n) g)) ≡ true
beyond_by n a b c e f g h k = grind (arith, nat_tests)

less_by : (n m a b c e : ℕ) → m ≤ n → (nat_lt a c || (nat_eq a c && nat_le (b + n) e)) ≡ true
    → (nat_lt a c || (nat_eq a c && nat_le (b + m) e)) ≡ true
less_by n m a b c e l h = grind (arith, nat_tests)

beyond_all : (n : ℕ) (q r : Spot) (xs : List Spot) → is_beyond n q r ≡ true → AreBeyond n r xs → AreBeyond n q xs
beyond_all n q r [] h k = tt
beyond_all n q r (x ∷ xs) h k =
    (beyond_by n q.0 q.1 r.0 r.1 x.0 x.1 h k.0, beyond_all n q r xs h k.1)

beyond_less : (n m : ℕ) (q : Spot) (xs : List Spot) → m ≤ n → AreBeyond n q xs → AreBeyond m q xs
beyond_less n m q [] l h = tt
beyond_less n m q (x ∷ xs) l h = (less_by n m q.0 q.1 x.0 x.1 l h.0, beyond_less n m q xs l h.1)

-- fewer bytes
pub spaced_less : (n m : ℕ) (qs : List Spot) → m ≤ n → AreSpaced n qs → AreSpaced m qs
spaced_less n m [] l h = tt
spaced_less n m (q ∷ qs) l h = (beyond_less n m q qs l h.0, spaced_less n m qs l h.1)

pub next : (xs : List Spot) (i : ℕ) (d : Spot) → i < length xs → drop i xs ≡ get_or xs i d ∷ drop (i + 1) xs
next xs i d h = drop-cons xs i d h ∙ ap (λ k. get_or xs i d ∷ drop k xs) (sym (add-one i))

spaced_more : (n : ℕ) (q r : Spot) (rs : List Spot) → is_beyond n q r ≡ true → AreSpaced n (r ∷ rs)
    → AreSpaced n (q ∷ r ∷ rs)
spaced_more n q r rs e h = ((e, beyond_all n q r rs e h.0), h)

pub spaced_next : (n : ℕ) (d : Spot) (xs : List Spot) (k m : ℕ) → k ≡ m + 1 → m + 1 < length xs
    → is_beyond n (get_or xs m d) (get_or xs (m + 1) d) ≡ true → AreSpaced n (drop k xs) → AreSpaced n (drop m xs)
spaced_next n d xs k m e l h j =
    subst (AreSpaced n) (sym (next xs m d (omega (arith, l)) ∙ ap (λ z. get_or xs m d ∷ z) (next xs (m + 1) d l)))
    (spaced_more n (get_or xs m d) (get_or xs (m + 1) d) (drop (m + 1 + 1) xs) h
    (subst (AreSpaced n) (next xs (m + 1) d l) (subst (λ (z : ℕ). AreSpaced n (drop z xs)) e j)))

pub spaced_last : (n : ℕ) (d : Spot) (xs : List Spot) (m : ℕ) → m < length xs → length xs ≤ m + 1
    → AreSpaced n (drop m xs)
spaced_last n d xs m h l =
    subst (AreSpaced n) (sym (next xs m d h ∙ ap (λ z. get_or xs m d ∷ z) (drop_all (m + 1) xs l))) (tt, tt)
