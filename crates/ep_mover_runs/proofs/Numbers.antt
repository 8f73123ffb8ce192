-- The numbers that lists of symbols stand for.
use Rattle.std.proofs.Common.{◌≡◌, ℕ, zero, suc, ◌+◌, ◌-◌, ◌*◌, ◌/◌, ◌%◌, ◌^◌, ◌<◌, ◌≤◌, ℤ, pos, Bool, true, false}
use Rattle.std.proofs.Common.{◌||◌, nat_eq, if◌then◌else◌, List, [], ◌∷◌, ◌++◌, length, take, drop, get_or, Result}
use Rattle.std.proofs.Common.{Ok, Err, ◌⊎◌, inl, inr, ⊎_elim, refl, sym, ◌∙◌, ap, subst, arith, bit_and, bit_or}
use Rattle.std.specs.Prelude.{bit_xor}
use lib.Bits.{xor_zero_r, xor_block}
use Rattle.std.proofs.lemmas.Bool.{and_parts, or_cases, eqb-true, cases_lt}
use Rattle.std.proofs.lemmas.List.{length-take-le, length-append, length-drop, get_or-take, get_or-drop}
use Rattle.std.proofs.lemmas.List.{get_or_append_left}
use Rattle.std.proofs.lemmas.List.{get_or-append_right}
use Rattle.std.proofs.lemmas.Nat.{and_le_r, and_mask, and_block, or_block, or_comm}
use Rattle.std.proofs.Math.Nat.{mod-eq_of_lt, div-le_self}
use Rattle.ep_int.proofs.Basics.{power-le}
use Rattle.ep_int.specs.Types.{residue}
use Rattle.ep_int.specs.Encoding.{byte_of, sum_of_bytes}
use Rattle.ep_int.proofs.Encodings.{byte_below, bytes_pow, sum_of_bytes_same, byte_of-sum_of_bytes}
use Rattle.ep_movers.specs.declared.Stop.{Stop}
use Rattle.ep_movers.specs.declared.Stop.TheVariants.{Foreign}
use Rattle.ep_movers.specs.Symbols.{Symbol, unset, fixed_byte, input_byte, goes_on, number_byte}
use Rattle.ep_movers.specs.Symbols.{fixed_bytes, zeros, is_zero, merged_byte, merged, masked, moved_up, moved_down}
use Rattle.ep_movers.specs.Symbols.{are_whole}
use Rattle.ep_mover_runs.specs.Following.{stands_for, symbol_at, number_in, IsByte, AreBytes}
use Rattle.ep_mover_runs.proofs.Sums.{AreSmall, sum_below, bytewise, added, same_number, same_rest, byte_above}
use Rattle.ep_mover_runs.proofs.Sums.{byte_of_zero, byte_down, byte_up, byte_below_up}

-- ---- ways to go on

pub ok_parts : {A B : Type 0} (r : Result A Stop) (f : A → Result B Stop) (y : B) → goes_on r f ≡ Ok y
    → (x : A) × (r ≡ Ok x) × (f x ≡ Ok y)
ok_parts (Ok x) f y h = (x, refl, h)
ok_parts (Err s) f y h = absurd cc

pub same_ok : {A : Type 0} {x y : A} → ◌≡◌ {A = Result A Stop} (Ok x) (Ok y) → x ≡ y
same_ok e = cc

-- ---- fixed bytes

pub length_fixed : (v : ℤ) (k n : ℕ) → length (fixed_bytes v k n) ≡ n
length_fixed v k zero = refl
length_fixed v k (suc n) = ap suc (length_fixed v (suc k) n)

pub at_fixed : (v : ℤ) (k n j : ℕ) → j < n → symbol_at (fixed_bytes v k n) j ≡ fixed_byte (number_byte v (k + j))
at_fixed v k zero j l = absurd (omega arith)
at_fixed v k (suc n) zero l = let e : k ≡ k + 0 = omega arith in ap (λ i. fixed_byte (number_byte v i)) e
at_fixed v k (suc n) (suc j) l =
    let e : suc k + j ≡ k + suc j = omega arith in
    at_fixed v (suc k) n j (omega arith) ∙ ap (λ i. fixed_byte (number_byte v i)) e

-- the same from byte 0 on
pub at_first : (v : ℤ) (n j : ℕ) → j < n → symbol_at (fixed_bytes v 0 n) j ≡ fixed_byte (number_byte v j)
at_first v n j l = let e : 0 + j ≡ j = omega arith in at_fixed v 0 n j l ∙ ap (λ i. fixed_byte (number_byte v i)) e

pub zero_byte : (k : ℕ) → number_byte (pos 0) k ≡ 0
zero_byte k = byte_of_zero k

pub small_64 : (n w : ℕ) → w ≤ 8 → n < 256 ^ w → n % 2 ^ 64 ≡ n
small_64 n w l h =
    let more = power-le (8 * w) 64 (omega arith) in
    let far : n < 2 ^ 64 = omega (arith, h, more, bytes_pow w) in
    mod-eq_of_lt far

pub constant_sum : (n w : ℕ) → w ≤ 8 → n < 256 ^ w → n ≡ sum_of_bytes (number_byte (pos n)) w
constant_sum n w l h = same_number n w (number_byte (pos n)) h (λ k i. ap (byte_of k) (sym (small_64 n w l h)))

-- ---- masks

-- each byte is 0 or 255
pub whole_at : (v : ℤ) (i n k : ℕ) → are_whole v i n ≡ true → k < n
    → (number_byte v (i + k) ≡ 0) ⊎ (number_byte v (i + k) ≡ 255)
whole_at v i zero k h l = absurd (omega arith)
whole_at v i (suc n) zero h l =
    let e : i ≡ i + 0 = omega arith in
    let first = and_parts (nat_eq (number_byte v i) 0 || nat_eq (number_byte v i) 255) (are_whole v (suc i) n) h in
    subst (λ j. (number_byte v j ≡ 0) ⊎ (number_byte v j ≡ 255)) e
    (⊎_elim (λ a. inl (eqb-true (number_byte v i) 0 a)) (λ a. inr (eqb-true (number_byte v i) 255 a))
    (or_cases (nat_eq (number_byte v i) 0) (nat_eq (number_byte v i) 255) first.0))
whole_at v i (suc n) (suc k) h l =
    let e : suc i + k ≡ i + suc k = omega arith in
    subst (λ j. (number_byte v j ≡ 0) ⊎ (number_byte v j ≡ 255)) e
    (whole_at v (suc i) n k
    (and_parts (nat_eq (number_byte v i) 0 || nat_eq (number_byte v i) 255) (are_whole v (suc i) n) h).1 (omega arith))

pub length_masked : (v : ℤ) (i : ℕ) (xs : List Symbol) → length (masked v i xs) ≡ length xs
length_masked v i [] = refl
length_masked v i (x ∷ xs) = ap suc (length_masked v (suc i) xs)

pub at_masked : (v : ℤ) (i : ℕ) (xs : List Symbol) (k : ℕ) → k < length xs
    → symbol_at (masked v i xs) k ≡ (if nat_eq (number_byte v (i + k)) 255 then symbol_at xs k else fixed_byte 0)
at_masked v i [] k l = absurd (omega arith)
at_masked v i (x ∷ xs) zero l =
    let e : i ≡ i + 0 = omega arith in ap (λ j. if nat_eq (number_byte v j) 255 then x else fixed_byte 0) e
at_masked v i (x ∷ xs) (suc k) l =
    let e : suc i + k ≡ i + suc k = omega arith in
    at_masked v (suc i) xs k (omega arith)
    ∙ ap (λ j. if nat_eq (number_byte v j) 255 then symbol_at xs k else fixed_byte 0) e

and_none : (n : ℕ) → bit_and n 0 ≡ 0
and_none n = let l = and_le_r n 0 in omega arith

and_whole : (n : ℕ) → n < 256 → bit_and n 255 ≡ n
and_whole n l = and_mask n 8 ∙ mod-eq_of_lt l

or_none : (n : ℕ) → bit_or n 0 ≡ n
or_none n = or_comm n 0

-- ---- two lists of which one is zero at each byte

pub data OneZero (x y z : Symbol) : Type 0 where
  left : is_zero x ≡ true → z ≡ y → OneZero x y z
  right : is_zero y ≡ true → z ≡ x → OneZero x y z

merged_one : (x y z : Symbol) → merged_byte x y ≡ Ok z → OneZero x y z
merged_one x y z h = split (is_zero x) refl h
  where
    second : (c : Bool) → is_zero y ≡ c → ◌≡◌ {A = Result Symbol Stop} (if c then Ok x else Err Foreign) (Ok z) →
        OneZero x y z
    second true e h = right e (sym (same_ok h))
    second false e h = absurd cc

    split : (c : Bool) → is_zero x ≡ c
        → (if c then Ok y else if is_zero y then Ok x else Err Foreign) ≡ Ok z → OneZero x y z
    split true e h = left e (sym (same_ok h))
    split false e h = second (is_zero y) refl h

pub length_merged : (xs ys zs : List Symbol) → length xs ≡ length ys → merged xs ys ≡ Ok zs → length zs ≡ length xs
length_merged [] ys zs e h = let same : [] ≡ zs = same_ok h in ap length (sym same)
length_merged (x ∷ xs) [] zs e h = absurd (omega (arith, e))
length_merged (x ∷ xs) (y ∷ ys) zs e h =
    let first = ok_parts (merged_byte x y) (λ z. goes_on (merged xs ys) (λ zs. Ok (z ∷ zs))) zs h in
    let rest = ok_parts (merged xs ys) (λ zs. Ok (first.0 ∷ zs)) zs first.2 in
    let same : first.0 ∷ rest.0 ≡ zs = same_ok rest.2 in
    ap length (sym same) ∙ ap suc (length_merged xs ys rest.0 (omega (arith, e)) rest.1)

pub at_merged : (xs ys zs : List Symbol) → length xs ≡ length ys → merged xs ys ≡ Ok zs → (k : ℕ) → k < length xs
    → OneZero (symbol_at xs k) (symbol_at ys k) (symbol_at zs k)
at_merged [] ys zs e h k l = absurd (omega arith)
at_merged (x ∷ xs) [] zs e h k l = absurd (omega (arith, e))
at_merged (x ∷ xs) (y ∷ ys) zs e h k l =
    let first = ok_parts (merged_byte x y) (λ z. goes_on (merged xs ys) (λ zs. Ok (z ∷ zs))) zs h in
    let rest = ok_parts (merged xs ys) (λ zs. Ok (first.0 ∷ zs)) zs first.2 in
    let same : first.0 ∷ rest.0 ≡ zs = same_ok rest.2 in
    subst (λ zs. OneZero (symbol_at (x ∷ xs) k) (symbol_at (y ∷ ys) k) (symbol_at zs k)) same
    (at k first.0 rest.0 first.1 l (λ j i. at_merged xs ys rest.0 (omega (arith, e)) rest.1 j i))
  where
    at : (k : ℕ) (z : Symbol) (zs : List Symbol) → merged_byte x y ≡ Ok z → k < suc (length xs)
        → ((j : ℕ) → j < length xs → OneZero (symbol_at xs j) (symbol_at ys j) (symbol_at zs j))
        → OneZero (symbol_at (x ∷ xs) k) (symbol_at (y ∷ ys) k) (symbol_at (z ∷ zs) k)
    at zero z zs f l later = merged_one x y z f
    at (suc k) z zs f l later = later k (omega arith)

-- where they aren't, no mover does this
pub merged_foreign : (xs ys : List Symbol) (s : Stop) → merged xs ys ≡ Err s → s ≡ Foreign
merged_foreign [] ys s h = absurd cc
merged_foreign (x ∷ xs) [] s h = absurd cc
merged_foreign (x ∷ xs) (y ∷ ys) s h = first (merged_byte x y) refl h (λ r e. merged_foreign xs ys r e)
  where
    one : (c d : Bool) (r : Stop) →
        ◌≡◌ {A = Result Symbol Stop} (if c then Ok y else if d then Ok x else Err Foreign) (Err r) → r ≡ Foreign
    one true d r e = absurd cc
    one false true r e = absurd cc
    one false false r e = cc

    second : (z : Symbol) (r : Result (List Symbol) Stop) → merged xs ys ≡ r
        → ◌≡◌ {A = Result (List Symbol) Stop} (goes_on r (λ zs. Ok (z ∷ zs))) (Err s)
        → ((r : Stop) → merged xs ys ≡ Err r → r ≡ Foreign) → s ≡ Foreign
    second z (Ok zs) e k later = absurd cc
    second z (Err r) e k later = let same : r ≡ s = cc in sym same ∙ later r e

    first : (r : Result Symbol Stop) → merged_byte x y ≡ r
        → ◌≡◌ {A = Result (List Symbol) Stop} (goes_on r (λ z. goes_on (merged xs ys) (λ zs. Ok (z ∷ zs)))) (Err s)
        → ((r : Stop) → merged xs ys ≡ Err r → r ≡ Foreign) → s ≡ Foreign
    first (Ok z) e k later = second z (merged xs ys) refl k later
    first (Err r) e k later = let same : r ≡ s = cc in sym same ∙ one (is_zero x) (is_zero y) r e

-- ---- numbers

module _ (inputs : List ℕ) where
  abbrev pub digits : List Symbol → ℕ → ℕ
  digits xs k = stands_for inputs (symbol_at xs k)

  pub byte_small : (x : Symbol) → IsByte x → stands_for inputs x < 256
  byte_small unset h = absurd h
  byte_small (fixed_byte v) h = h
  byte_small (input_byte i k) h = byte_below k (get_or inputs i 0)

  pub digits_small : (w : ℕ) (xs : List Symbol) → AreBytes w xs → AreSmall (digits xs) w
  digits_small w xs h k l = byte_small (symbol_at xs k) (h.each k l)

  pub number_sum : (w : ℕ) (xs : List Symbol) → AreBytes w xs → number_in inputs xs ≡ sum_of_bytes (digits xs) w
  number_sum w xs h = ap (sum_of_bytes (digits xs)) h.are

  pub number_below : (w : ℕ) (xs : List Symbol) → AreBytes w xs → number_in inputs xs < 256 ^ w
  number_below w xs h =
      let below = sum_below (digits xs) w (digits_small w xs h) in
      omega (arith, below, number_sum w xs h, bytes_pow w)

  pub byte_of_number : (w : ℕ) (xs : List Symbol) (k : ℕ) → AreBytes w xs → k < w
      → byte_of k (number_in inputs xs) ≡ digits xs k
  byte_of_number w xs k h l =
      ap (byte_of k) (number_sum w xs h) ∙ byte_of-sum_of_bytes (digits xs) w k (digits_small w xs h) l

  -- so many bytes that stand for this number
  pub record Makes (w n : ℕ) (xs : List Symbol) : Type 0 where
    pub bytes : AreBytes w xs
    pub number : number_in inputs xs ≡ n

  -- a zero byte
  zero_stands : (x : Symbol) → is_zero x ≡ true → stands_for inputs x ≡ 0
  zero_stands unset h = absurd cc
  zero_stands (fixed_byte v) h = eqb-true v 0 h
  zero_stands (input_byte i k) h = absurd cc

  pub constant_made : (n w : ℕ) → w ≤ 8 → n < 256 ^ w → Makes w n (fixed_bytes (pos n) 0 w)
  constant_made n w l h =
      let at = at_first (pos n) w in
      let are : AreBytes w (fixed_bytes (pos n) 0 w) = record {
        are = length_fixed (pos n) 0 w;
        each = λ k i. subst IsByte (sym (at k i)) (byte_below k (residue (2 ^ 64) (pos n)));
      } in record {
        bytes = are;
        number = number_sum w (fixed_bytes (pos n) 0 w) are
            ∙ sum_of_bytes_same (digits (fixed_bytes (pos n) 0 w)) (number_byte (pos n)) w
            (λ k i. ap (stands_for inputs) (at k i))
            ∙ sym (constant_sum n w l h);
      }

  zero_at : (n k : ℕ) → k < n → (IsByte (symbol_at (zeros n) k)) × (digits (zeros n) k ≡ 0)
  zero_at n k l =
      let at = at_first (pos 0) n k l in
      (subst IsByte (sym at) (byte_below k (residue (2 ^ 64) (pos 0))), ap (stands_for inputs) at ∙ zero_byte k)

  -- ---- shifts

  -- a byte that is there, and is this byte of a number
  record Digit (x : Symbol) (n k : ℕ) : Type 0 where
    is : IsByte x
    byte : byte_of k n ≡ stands_for inputs x

  made : (w n : ℕ) (xs : List Symbol) → length xs ≡ w → n < 256 ^ w → ((k : ℕ) → k < w → Digit (symbol_at xs k) n k)
      → Makes w n xs
  made w n xs e l each =
      let are : AreBytes w xs = record { are = e; each = λ k i. (each k i).is } in
      record {
        bytes = are;
        number = number_sum w xs are
            ∙ sym (same_number n w (digits xs) l (λ k i. (each k i).byte));
      }

  made_rest : (w n : ℕ) (xs : List Symbol) → length xs ≡ w → ((k : ℕ) → k < w → Digit (symbol_at xs k) n k)
      → Makes w (n % 256 ^ w) xs
  made_rest w n xs e each =
      let are : AreBytes w xs = record { are = e; each = λ k i. (each k i).is } in
      record { bytes = are; number = number_sum w xs are ∙ sym (same_rest n w (digits xs) (λ k i. (each k i).byte)) }

  pub moved_up_made : (w j : ℕ) (xs : List Symbol) → AreBytes w xs
      → Makes w (number_in inputs xs * 256 ^ j % 256 ^ w) (moved_up j xs)
  moved_up_made w j xs h =
      let n = number_in inputs xs in
      let long : length xs ≤ length (zeros j ++ xs) = omega (arith, length-append (zeros j) xs) in
      made_rest w (n * 256 ^ j) (moved_up j xs) (length-take-le (length xs) (zeros j ++ xs) long ∙ h.are)
      (λ k l.
      let inside : k < length xs = omega (arith, h.are, l) in
      let at : symbol_at (moved_up j xs) k ≡ symbol_at (zeros j ++ xs) k
      = get_or-take (length xs) (zeros j ++ xs) k unset inside in
      ⊎_elim
      (λ below.
      let some : k < length (zeros j) = omega (arith, below, length_fixed (pos 0) 0 j) in
      let here : symbol_at (moved_up j xs) k ≡ symbol_at (zeros j) k
      = at ∙ get_or_append_left (zeros j) xs unset k some in
      let z = zero_at j k below in
      subst (λ x. Digit x (n * 256 ^ j) k) (sym here) (record { is = z.0; byte = byte_below_up n j k below ∙ sym z.1 }))
      (λ above.
      let here : symbol_at (moved_up j xs) k ≡ symbol_at xs (k - j)
      = at ∙ get_or-append_right (zeros j) xs j k unset (length_fixed (pos 0) 0 j) above in
      let split : k ≡ j + (k - j) = omega arith in
      let low : k - j < w = omega arith in
      let byte : byte_of k (n * 256 ^ j) ≡ digits xs (k - j)
      = ap (λ i. byte_of i (n * 256 ^ j)) split ∙ byte_up n j (k - j) ∙ byte_of_number w xs (k - j) h low in
      subst (λ x. Digit x (n * 256 ^ j) k) (sym here) (record { is = h.each (k - j) low; byte = byte }))
      (cases_lt k j))

  pub moved_down_made : (w j : ℕ) (xs : List Symbol) → AreBytes w xs → j ≤ w
      → Makes w (number_in inputs xs / 256 ^ j) (moved_down j xs)
  moved_down_made w j xs h few =
      let n = number_in inputs xs in
      let all = drop j xs ++ zeros j in
      let rest : length (drop j xs) ≡ w - j = length-drop j xs ∙ ap (λ k. k - j) h.are in
      let long : length all ≡ w
      = length-append (drop j xs) (zeros j) ∙ omega (arith, rest, length_fixed (pos 0) 0 j) in
      let whole : length xs ≤ length all = omega (arith, long, h.are) in
      made w (n / 256 ^ j) (moved_down j xs) (length-take-le (length xs) all whole ∙ h.are)
      (omega (arith, number_below w xs h, div-le_self n (256 ^ j)))
      (λ k l.
      let at : symbol_at (moved_down j xs) k ≡ symbol_at all k
      = get_or-take (length xs) all k unset (omega (arith, h.are, l)) in
      ⊎_elim
      (λ below.
      let some : k < length (drop j xs) = omega (arith, rest, below) in
      let here : symbol_at (moved_down j xs) k ≡ symbol_at xs (j + k)
      = at ∙ get_or_append_left (drop j xs) (zeros j) unset k some ∙ get_or-drop j xs k unset in
      let far : j + k < w = omega arith in
      subst (λ x. Digit x (n / 256 ^ j) k) (sym here)
      (record { is = h.each (j + k) far; byte = byte_down n j k ∙ byte_of_number w xs (j + k) h far }))
      (λ above.
      let here : symbol_at (moved_down j xs) k ≡ symbol_at (zeros j) (k - (w - j))
      = at ∙ get_or-append_right (drop j xs) (zeros j) (w - j) k unset rest above in
      let z = zero_at j (k - (w - j)) (omega arith) in
      let past : w ≤ j + k = omega arith in
      subst (λ x. Digit x (n / 256 ^ j) k) (sym here)
      (record { is = z.0; byte = byte_down n j k ∙ byte_above n w (j + k) (number_below w xs h) past ∙ sym z.1 }))
      (cases_lt k (w - j)))

  -- cut, or filled up with zeros
  pub resized_made : (w u : ℕ) (xs : List Symbol) → AreBytes u xs → w ≤ 8
      → Makes w (number_in inputs xs % 256 ^ w) (take w (xs ++ zeros 8))
  resized_made w u xs h few =
      let n = number_in inputs xs in
      let long : w ≤ length (xs ++ zeros 8) =
      omega (arith, few, length-append xs (zeros 8), length_fixed (pos 0) 0 8) in
      made_rest w n (take w (xs ++ zeros 8)) (length-take-le w (xs ++ zeros 8) long)
      (λ k l.
      let at : symbol_at (take w (xs ++ zeros 8)) k ≡ symbol_at (xs ++ zeros 8) k
      = get_or-take w (xs ++ zeros 8) k unset l in
      ⊎_elim
      (λ below.
      let here = at ∙ get_or_append_left xs (zeros 8) unset k (omega (arith, h.are, below)) in
      subst (λ x. Digit x n k) (sym here) (record { is = h.each k below; byte = byte_of_number u xs k h below }))
      (λ above.
      let here : symbol_at (take w (xs ++ zeros 8)) k ≡ symbol_at (zeros 8) (k - u)
      = at ∙ get_or-append_right xs (zeros 8) u k unset h.are above in
      let z = zero_at 8 (k - u) (omega (arith, few, l)) in
      subst (λ x. Digit x n k) (sym here)
      (record { is = z.0; byte = byte_above n u k (number_below u xs h) above ∙ sym z.1 }))
      (cases_lt k u))

  -- ---- operators

  one_zero_byte : (x y z : Symbol) → IsByte x → IsByte y → OneZero x y z → IsByte z
  one_zero_byte x y z h i (left e q) = subst IsByte (sym q) i
  one_zero_byte x y z h i (right e q) = subst IsByte (sym q) h

  one_zero_stands : (op : ℕ → ℕ → ℕ) → ((n : ℕ) → op 0 n ≡ n) → ((n : ℕ) → op n 0 ≡ n) → (x y z : Symbol)
      → OneZero x y z → op (stands_for inputs x) (stands_for inputs y) ≡ stands_for inputs z
  one_zero_stands op l r x y z (left e q) =
      ap (λ n. op n (stands_for inputs y)) (zero_stands x e) ∙ l (stands_for inputs y) ∙ ap (stands_for inputs) (sym q)
  one_zero_stands op l r x y z (right e q) =
      ap (λ n. op (stands_for inputs x) n) (zero_stands y e) ∙ r (stands_for inputs x) ∙ ap (stands_for inputs) (sym q)

  merged_by : (op : ℕ → ℕ → ℕ) → ((n : ℕ) → op 0 n ≡ n) → ((n : ℕ) → op n 0 ≡ n)
      → ((b c : ℕ → ℕ) (w : ℕ) → AreSmall b w → AreSmall c w
      → op (sum_of_bytes b w) (sum_of_bytes c w) ≡ sum_of_bytes (λ k. op (b k) (c k)) w)
      → (w : ℕ) (xs ys zs : List Symbol) → AreBytes w xs → AreBytes w ys → merged xs ys ≡ Ok zs
      → Makes w (op (number_in inputs xs) (number_in inputs ys)) zs
  merged_by op l r wise w xs ys zs h i e =
      let long : length xs ≡ length ys = h.are ∙ sym i.are in
      let at : (k : ℕ) → k < w → OneZero (symbol_at xs k) (symbol_at ys k) (symbol_at zs k)
      = λ k j. at_merged xs ys zs long e k (omega (arith, h.are, j)) in
      let are : AreBytes w zs = record {
        are = length_merged xs ys zs long e ∙ h.are;
        each = λ k j. one_zero_byte (symbol_at xs k) (symbol_at ys k) (symbol_at zs k) (h.each k j) (i.each k j)
            (at k j);
      } in record {
        bytes = are;
        number = number_sum w zs are
            ∙ sym (ap (λ n. op n (number_in inputs ys)) (number_sum w xs h)
            ∙ ap (op (sum_of_bytes (digits xs) w)) (number_sum w ys i)
            ∙ wise (digits xs) (digits ys) w (digits_small w xs h) (digits_small w ys i)
            ∙ sum_of_bytes_same (λ k. op (digits xs k) (digits ys k)) (digits zs) w
            (λ k j. one_zero_stands op l r (symbol_at xs k) (symbol_at ys k) (symbol_at zs k) (at k j)));
      }

  pub merged_sum : (w : ℕ) (xs ys zs : List Symbol) → AreBytes w xs → AreBytes w ys → merged xs ys ≡ Ok zs
      → Makes w (number_in inputs xs + number_in inputs ys) zs
  merged_sum = merged_by (λ a b. a + b) (λ n. omega arith) (λ n. omega arith) (λ b c w g h. added b c w)

  pub merged_or : (w : ℕ) (xs ys zs : List Symbol) → AreBytes w xs → AreBytes w ys → merged xs ys ≡ Ok zs
      → Makes w (bit_or (number_in inputs xs) (number_in inputs ys)) zs
  merged_or = merged_by bit_or (λ n. refl) or_none (bytewise bit_or refl or_block)

  pub merged_xor : (w : ℕ) (xs ys zs : List Symbol) → AreBytes w xs → AreBytes w ys → merged xs ys ≡ Ok zs
      → Makes w (bit_xor (number_in inputs xs) (number_in inputs ys)) zs
  merged_xor = merged_by bit_xor (λ n. refl) xor_zero_r (bytewise bit_xor refl xor_block)

  -- a mask
  masked_digit : (v : ℤ) (x : Symbol) (k : ℕ) → IsByte x → (number_byte v k ≡ 0) ⊎ (number_byte v k ≡ 255)
      → IsByte (if nat_eq (number_byte v k) 255 then x else fixed_byte 0)
      × (bit_and (stands_for inputs x) (number_byte v k)
      ≡ stands_for inputs (if nat_eq (number_byte v k) 255 then x else fixed_byte 0))
  masked_digit v x k h (inl e) = rw e (omega arith, and_none (stands_for inputs x))
  masked_digit v x k h (inr e) = rw e (h, and_whole (stands_for inputs x) (byte_small x h))

  pub masked_made : (w n : ℕ) (xs : List Symbol) → AreBytes w xs → w ≤ 8 → n < 256 ^ w → are_whole (pos n) 0 8 ≡ true
      → Makes w (bit_and (number_in inputs xs) n) (masked (pos n) 0 xs)
  masked_made w n xs h few l whole =
      let zs = masked (pos n) 0 xs in
      let one = λ (k : ℕ) (i : k < w).
      (let e : 0 + k ≡ k = omega arith in
      let is : (number_byte (pos n) k ≡ 0) ⊎ (number_byte (pos n) k ≡ 255)
      = subst (λ j. (number_byte (pos n) j ≡ 0) ⊎ (number_byte (pos n) j ≡ 255)) e
      (whole_at (pos n) 0 8 k whole (omega (arith, few, i))) in
      masked_digit (pos n) (symbol_at xs k) k (h.each k i) is) in
      let at : (k : ℕ) → k < w
      → symbol_at zs k ≡ (if nat_eq (number_byte (pos n) k) 255 then symbol_at xs k else fixed_byte 0)
      = λ k i. (let e : 0 + k ≡ k = omega arith in at_masked (pos n) 0 xs k (omega (arith, h.are, i))
      ∙ ap (λ j. if nat_eq (number_byte (pos n) j) 255 then symbol_at xs k else fixed_byte 0) e) in
      let are : AreBytes w zs = record {
        are = length_masked (pos n) 0 xs ∙ h.are;
        each = λ k i. subst IsByte (sym (at k i)) (one k i).0;
      } in record {
        bytes = are;
        number = number_sum w zs are
            ∙ sym (ap (λ m. bit_and m n) (number_sum w xs h)
            ∙ ap (bit_and (sum_of_bytes (digits xs) w)) (constant_sum n w few l)
            ∙ bytewise bit_and refl and_block (digits xs) (number_byte (pos n)) w (digits_small w xs h)
            (λ k i. byte_below k (residue (2 ^ 64) (pos n)))
            ∙ sum_of_bytes_same (λ k. bit_and (digits xs k) (number_byte (pos n) k)) (digits zs) w
            (λ k i. (one k i).1 ∙ ap (stands_for inputs) (sym (at k i))));
      }
