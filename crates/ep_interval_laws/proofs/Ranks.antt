-- The rank of an interval falls where an end moves.
use Rattle.std.specs.Prelude.{◌≡◌, ℕ, ◌+◌, ◌<◌, ◌≤◌, ℤ, pos, negsuc, ◌≤ℤ◌, ◌<ℤ◌, Bool, true, false, cond, int_lt}
use Rattle.ep_int.proofs.Arithmetic.{le_fact}
use Rattle.std.specs.Prelude.{int_le, refl}
use Rattle.std.proofs.Common.{arith, ap, sym, subst}
use Rattle.std.proofs.lemmas.Int.{ints}
use Rattle.ep_int.specs.declared.types.IntType.TheVariants.{I64, U64}
use Rattle.ep_int.specs.Types.{least_of, greatest_of}
use Rattle.ep_range_laws.proofs.Comparisons.{lt_true, from_lt_true}
use Rattle.ep_interval_laws.specs.Ends.{low_limit, high_limit, one_if, low_rank, high_rank, lowered, raised}

counted : (a b : ℤ) → a <ℤ b → one_if (int_lt a b) ≡ 1
counted a b h = ap one_if (lt_true a b h)

one_small : (b : Bool) → one_if b ≤ 1
one_small true = omega arith
one_small false = omega arith

-- ---- each lower limit

low_zero : (a : ℤ) → (pos 0) <ℤ a → low_rank (pos 0) < low_rank a
low_zero a h =
    let e0 = counted (pos 0) a (omega (arith, ints)) in
    let e1 = counted (negsuc 127) a (omega (arith, ints)) in
    let e2 = counted (negsuc 32767) a (omega (arith, ints)) in
    let e3 = counted (negsuc 2147483647) a (omega (arith, ints)) in
    let e4 = counted (negsuc 9223372036854775807) a (omega (arith, ints)) in
    omega arith

low_char : (a : ℤ) → (negsuc 127) <ℤ a → low_rank (negsuc 127) < low_rank a
low_char a h =
    let e1 = counted (negsuc 127) a (omega (arith, ints)) in
    let e2 = counted (negsuc 32767) a (omega (arith, ints)) in
    let e3 = counted (negsuc 2147483647) a (omega (arith, ints)) in
    let e4 = counted (negsuc 9223372036854775807) a (omega (arith, ints)) in
    omega arith

low_short : (a : ℤ) → (negsuc 32767) <ℤ a → low_rank (negsuc 32767) < low_rank a
low_short a h =
    let e2 = counted (negsuc 32767) a (omega (arith, ints)) in
    let e3 = counted (negsuc 2147483647) a (omega (arith, ints)) in
    let e4 = counted (negsuc 9223372036854775807) a (omega (arith, ints)) in
    omega arith

low_int : (a : ℤ) → (negsuc 2147483647) <ℤ a → low_rank (negsuc 2147483647) < low_rank a
low_int a h =
    let e3 = counted (negsuc 2147483647) a (omega (arith, ints)) in
    let e4 = counted (negsuc 9223372036854775807) a (omega (arith, ints)) in
    omega arith

low_long : (a : ℤ) → (negsuc 9223372036854775807) <ℤ a → low_rank (negsuc 9223372036854775807) < low_rank a
low_long a h =
    let e4 = counted (negsuc 9223372036854775807) a (omega (arith, ints)) in
    omega arith

pub low_falls : (a b : ℤ) → least_of I64 ≤ℤ b → b <ℤ a → low_rank (low_limit b) < low_rank a
low_falls a b h k = first (int_le (pos 0) b) refl
  where
    fourth : (t : Bool) → int_le (negsuc 2147483647) b ≡ t → low_rank (cond t (negsuc 2147483647) (negsuc 9223372036854775807)) < low_rank a
    fourth true e = let p = le_fact (negsuc 2147483647) b e in low_int a (omega (arith, ints))
    fourth false e = low_long a (omega (arith, ints))

    third : (t : Bool) → int_le (negsuc 32767) b ≡ t → low_rank (cond t (negsuc 32767) (cond (int_le (negsuc 2147483647) b) (negsuc 2147483647) (negsuc 9223372036854775807))) < low_rank a
    third true e = let p = le_fact (negsuc 32767) b e in low_short a (omega (arith, ints))
    third false e = fourth (int_le (negsuc 2147483647) b) refl

    second : (t : Bool) → int_le (negsuc 127) b ≡ t → low_rank (cond t (negsuc 127) (cond (int_le (negsuc 32767) b) (negsuc 32767) (cond (int_le (negsuc 2147483647) b) (negsuc 2147483647) (negsuc 9223372036854775807)))) < low_rank a
    second true e = let p = le_fact (negsuc 127) b e in low_char a (omega (arith, ints))
    second false e = third (int_le (negsuc 32767) b) refl

    first : (t : Bool) → int_le (pos 0) b ≡ t → low_rank (cond t (pos 0) (cond (int_le (negsuc 127) b) (negsuc 127) (cond (int_le (negsuc 32767) b) (negsuc 32767) (cond (int_le (negsuc 2147483647) b) (negsuc 2147483647) (negsuc 9223372036854775807))))) < low_rank a
    first true e = let p = le_fact (pos 0) b e in low_zero a (omega (arith, ints))
    first false e = second (int_le (negsuc 127) b) refl

-- ---- each upper limit

high_zero : (a : ℤ) → a <ℤ pos 0 → high_rank (pos 0) < high_rank a
high_zero a h =
    let e0 = counted a (pos 0) (omega (arith, ints)) in
    let e1 = counted a (pos 127) (omega (arith, ints)) in
    let e2 = counted a (pos 255) (omega (arith, ints)) in
    let e3 = counted a (pos 32767) (omega (arith, ints)) in
    let e4 = counted a (pos 65535) (omega (arith, ints)) in
    let e5 = counted a (pos 2147483647) (omega (arith, ints)) in
    let e6 = counted a (pos 4294967295) (omega (arith, ints)) in
    let e7 = counted a (pos 9223372036854775807) (omega (arith, ints)) in
    let e8 = counted a (pos 18446744073709551615) (omega (arith, ints)) in
    omega arith

high_char : (a : ℤ) → a <ℤ pos 127 → high_rank (pos 127) < high_rank a
high_char a h =
    let e1 = counted a (pos 127) (omega (arith, ints)) in
    let e2 = counted a (pos 255) (omega (arith, ints)) in
    let e3 = counted a (pos 32767) (omega (arith, ints)) in
    let e4 = counted a (pos 65535) (omega (arith, ints)) in
    let e5 = counted a (pos 2147483647) (omega (arith, ints)) in
    let e6 = counted a (pos 4294967295) (omega (arith, ints)) in
    let e7 = counted a (pos 9223372036854775807) (omega (arith, ints)) in
    let e8 = counted a (pos 18446744073709551615) (omega (arith, ints)) in
    omega arith

high_byte : (a : ℤ) → a <ℤ pos 255 → high_rank (pos 255) < high_rank a
high_byte a h =
    let e2 = counted a (pos 255) (omega (arith, ints)) in
    let e3 = counted a (pos 32767) (omega (arith, ints)) in
    let e4 = counted a (pos 65535) (omega (arith, ints)) in
    let e5 = counted a (pos 2147483647) (omega (arith, ints)) in
    let e6 = counted a (pos 4294967295) (omega (arith, ints)) in
    let e7 = counted a (pos 9223372036854775807) (omega (arith, ints)) in
    let e8 = counted a (pos 18446744073709551615) (omega (arith, ints)) in
    omega arith

high_short : (a : ℤ) → a <ℤ pos 32767 → high_rank (pos 32767) < high_rank a
high_short a h =
    let e3 = counted a (pos 32767) (omega (arith, ints)) in
    let e4 = counted a (pos 65535) (omega (arith, ints)) in
    let e5 = counted a (pos 2147483647) (omega (arith, ints)) in
    let e6 = counted a (pos 4294967295) (omega (arith, ints)) in
    let e7 = counted a (pos 9223372036854775807) (omega (arith, ints)) in
    let e8 = counted a (pos 18446744073709551615) (omega (arith, ints)) in
    omega arith

high_half : (a : ℤ) → a <ℤ pos 65535 → high_rank (pos 65535) < high_rank a
high_half a h =
    let e4 = counted a (pos 65535) (omega (arith, ints)) in
    let e5 = counted a (pos 2147483647) (omega (arith, ints)) in
    let e6 = counted a (pos 4294967295) (omega (arith, ints)) in
    let e7 = counted a (pos 9223372036854775807) (omega (arith, ints)) in
    let e8 = counted a (pos 18446744073709551615) (omega (arith, ints)) in
    omega arith

high_int : (a : ℤ) → a <ℤ pos 2147483647 → high_rank (pos 2147483647) < high_rank a
high_int a h =
    let e5 = counted a (pos 2147483647) (omega (arith, ints)) in
    let e6 = counted a (pos 4294967295) (omega (arith, ints)) in
    let e7 = counted a (pos 9223372036854775807) (omega (arith, ints)) in
    let e8 = counted a (pos 18446744073709551615) (omega (arith, ints)) in
    omega arith

high_word : (a : ℤ) → a <ℤ pos 4294967295 → high_rank (pos 4294967295) < high_rank a
high_word a h =
    let e6 = counted a (pos 4294967295) (omega (arith, ints)) in
    let e7 = counted a (pos 9223372036854775807) (omega (arith, ints)) in
    let e8 = counted a (pos 18446744073709551615) (omega (arith, ints)) in
    omega arith

high_long : (a : ℤ) → a <ℤ pos 9223372036854775807 → high_rank (pos 9223372036854775807) < high_rank a
high_long a h =
    let e7 = counted a (pos 9223372036854775807) (omega (arith, ints)) in
    let e8 = counted a (pos 18446744073709551615) (omega (arith, ints)) in
    omega arith

high_last : (a : ℤ) → a <ℤ pos 18446744073709551615 → high_rank (pos 18446744073709551615) < high_rank a
high_last a h =
    let e8 = counted a (pos 18446744073709551615) (omega (arith, ints)) in
    omega arith

pub high_falls : (a b : ℤ) → b ≤ℤ greatest_of U64 → a <ℤ b → high_rank (high_limit b) < high_rank a
high_falls a b h k = first (int_le b (pos 0)) refl
  where
    eighth : (t : Bool) → int_le b (pos 9223372036854775807) ≡ t → high_rank (cond t (pos 9223372036854775807) (pos 18446744073709551615)) < high_rank a
    eighth true e = let p = le_fact b (pos 9223372036854775807) e in high_long a (omega (arith, ints))
    eighth false e = high_last a (omega (arith, ints))

    seventh : (t : Bool) → int_le b (pos 4294967295) ≡ t → high_rank (cond t (pos 4294967295) (cond (int_le b (pos 9223372036854775807)) (pos 9223372036854775807) (pos 18446744073709551615))) < high_rank a
    seventh true e = let p = le_fact b (pos 4294967295) e in high_word a (omega (arith, ints))
    seventh false e = eighth (int_le b (pos 9223372036854775807)) refl

    sixth : (t : Bool) → int_le b (pos 2147483647) ≡ t → high_rank (cond t (pos 2147483647) (cond (int_le b (pos 4294967295)) (pos 4294967295) (cond (int_le b (pos 9223372036854775807)) (pos 9223372036854775807) (pos 18446744073709551615)))) < high_rank a
    sixth true e = let p = le_fact b (pos 2147483647) e in high_int a (omega (arith, ints))
    sixth false e = seventh (int_le b (pos 4294967295)) refl

    fifth : (t : Bool) → int_le b (pos 65535) ≡ t → high_rank (cond t (pos 65535) (cond (int_le b (pos 2147483647)) (pos 2147483647) (cond (int_le b (pos 4294967295)) (pos 4294967295) (cond (int_le b (pos 9223372036854775807)) (pos 9223372036854775807) (pos 18446744073709551615))))) < high_rank a
    fifth true e = let p = le_fact b (pos 65535) e in high_half a (omega (arith, ints))
    fifth false e = sixth (int_le b (pos 2147483647)) refl

    fourth : (t : Bool) → int_le b (pos 32767) ≡ t → high_rank (cond t (pos 32767) (cond (int_le b (pos 65535)) (pos 65535) (cond (int_le b (pos 2147483647)) (pos 2147483647) (cond (int_le b (pos 4294967295)) (pos 4294967295) (cond (int_le b (pos 9223372036854775807)) (pos 9223372036854775807) (pos 18446744073709551615)))))) < high_rank a
    fourth true e = let p = le_fact b (pos 32767) e in high_short a (omega (arith, ints))
    fourth false e = fifth (int_le b (pos 65535)) refl

    third : (t : Bool) → int_le b (pos 255) ≡ t → high_rank (cond t (pos 255) (cond (int_le b (pos 32767)) (pos 32767) (cond (int_le b (pos 65535)) (pos 65535) (cond (int_le b (pos 2147483647)) (pos 2147483647) (cond (int_le b (pos 4294967295)) (pos 4294967295) (cond (int_le b (pos 9223372036854775807)) (pos 9223372036854775807) (pos 18446744073709551615))))))) < high_rank a
    third true e = let p = le_fact b (pos 255) e in high_byte a (omega (arith, ints))
    third false e = fourth (int_le b (pos 32767)) refl

    second : (t : Bool) → int_le b (pos 127) ≡ t → high_rank (cond t (pos 127) (cond (int_le b (pos 255)) (pos 255) (cond (int_le b (pos 32767)) (pos 32767) (cond (int_le b (pos 65535)) (pos 65535) (cond (int_le b (pos 2147483647)) (pos 2147483647) (cond (int_le b (pos 4294967295)) (pos 4294967295) (cond (int_le b (pos 9223372036854775807)) (pos 9223372036854775807) (pos 18446744073709551615)))))))) < high_rank a
    second true e = let p = le_fact b (pos 127) e in high_char a (omega (arith, ints))
    second false e = third (int_le b (pos 255)) refl

    first : (t : Bool) → int_le b (pos 0) ≡ t → high_rank (cond t (pos 0) (cond (int_le b (pos 127)) (pos 127) (cond (int_le b (pos 255)) (pos 255) (cond (int_le b (pos 32767)) (pos 32767) (cond (int_le b (pos 65535)) (pos 65535) (cond (int_le b (pos 2147483647)) (pos 2147483647) (cond (int_le b (pos 4294967295)) (pos 4294967295) (cond (int_le b (pos 9223372036854775807)) (pos 9223372036854775807) (pos 18446744073709551615))))))))) < high_rank a
    first true e = let p = le_fact b (pos 0) e in high_zero a (omega (arith, ints))
    first false e = second (int_le b (pos 127)) refl

-- ---- the ends of a widening

pub lowered_falls : (a b : ℤ) → least_of I64 ≤ℤ b → b <ℤ a → low_rank (lowered a b) < low_rank a
lowered_falls a b h k = subst (λ t. low_rank (cond t (low_limit b) a) < low_rank a) (sym (lt_true b a k)) (low_falls a b h k)

pub lowered_stays : (a b : ℤ) → least_of I64 ≤ℤ b → low_rank (lowered a b) ≤ low_rank a
lowered_stays a b h = by_test (int_lt b a) refl
  where
    by_test : (t : Bool) → int_lt b a ≡ t → low_rank (cond t (low_limit b) a) ≤ low_rank a
    by_test true e = let p = low_falls a b h (from_lt_true b a e) in below_le (low_rank (low_limit b)) (low_rank a) p
      where
        below_le : (m n : ℕ) → m < n → m ≤ n
        below_le m n p = omega arith
    by_test false e = le_same (low_rank a)
      where
        le_same : (n : ℕ) → n ≤ n
        le_same n = omega arith

pub raised_falls : (a b : ℤ) → b ≤ℤ greatest_of U64 → a <ℤ b → high_rank (raised a b) < high_rank a
raised_falls a b h k = subst (λ t. high_rank (cond t (high_limit b) a) < high_rank a) (sym (lt_true a b k)) (high_falls a b h k)

pub raised_stays : (a b : ℤ) → b ≤ℤ greatest_of U64 → high_rank (raised a b) ≤ high_rank a
raised_stays a b h = by_test (int_lt a b) refl
  where
    by_test : (t : Bool) → int_lt a b ≡ t → high_rank (cond t (high_limit b) a) ≤ high_rank a
    by_test true e = let p = high_falls a b h (from_lt_true a b e) in below_le (high_rank (high_limit b)) (high_rank a) p
      where
        below_le : (m n : ℕ) → m < n → m ≤ n
        below_le m n p = omega arith
    by_test false e = le_same (high_rank a)
      where
        le_same : (n : ℕ) → n ≤ n
        le_same n = omega arith

pub rank_bound : (v w : ℤ) → low_rank v + high_rank w ≤ 14
rank_bound v w =
    let a0 = one_small (int_lt (pos 0) v) in
    let a1 = one_small (int_lt (negsuc 127) v) in
    let a2 = one_small (int_lt (negsuc 32767) v) in
    let a3 = one_small (int_lt (negsuc 2147483647) v) in
    let a4 = one_small (int_lt (negsuc 9223372036854775807) v) in
    let b0 = one_small (int_lt w (pos 0)) in
    let b1 = one_small (int_lt w (pos 127)) in
    let b2 = one_small (int_lt w (pos 255)) in
    let b3 = one_small (int_lt w (pos 32767)) in
    let b4 = one_small (int_lt w (pos 65535)) in
    let b5 = one_small (int_lt w (pos 2147483647)) in
    let b6 = one_small (int_lt w (pos 4294967295)) in
    let b7 = one_small (int_lt w (pos 9223372036854775807)) in
    let b8 = one_small (int_lt w (pos 18446744073709551615)) in
    omega arith
