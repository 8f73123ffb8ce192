-- What may stand next on a line of a source, byte by byte: C11 5.1.1.2 and 6.4, with this project's rules on bytes,
-- numbers and characters.
use Rattle.std.specs.Prelude.{◌≡◌, ℕ, suc, ◌+◌, ◌-◌, ◌*◌, ◌^◌, Bool, true, false, ◌&&◌, ◌||◌, not, ◌==◌, nat_eq, nat_lt}
use Rattle.std.specs.Prelude.{nat_le, if◌then◌else◌, List, [], ◌∷◌, length, take, drop, fold, slice_index}
use Rattle.std.specs.Prelude.{slice_index_or, Option, Some, None}
use Rattle.std.specs.List.{prefix_len, position_from, starts_with, list_any}
use Rattle.ep_ast.specs.Kind as kinds
use Rattle.ep_ast.specs.declared.expressions.Literal.{Literal}
use Rattle.ep_ast.specs.Token.{marks}

-- ---- classes of bytes

-- tab, carriage return and space
abbrev pub is_blank : ℕ → Bool
is_blank b = b == 32 || b == 9 || b == 13

abbrev pub is_digit : ℕ → Bool
is_digit b = nat_le 48 b && nat_le b 57

-- a letter or `_`
abbrev pub is_letter : ℕ → Bool
is_letter b = (nat_le 97 b && nat_le b 122) || (nat_le 65 b && nat_le b 90) || b == 95

abbrev pub is_word : ℕ → Bool
is_word b = is_letter b || is_digit b

-- ---- comments

-- `/*`, and `//`
abbrev pub opens_comment : List ℕ → Bool
opens_comment bs = slice_index bs 0 == 47 && slice_index bs 1 == 42

abbrev pub opens_remark : List ℕ → Bool
opens_remark bs = slice_index bs 0 == 47 && slice_index bs 1 == 47

abbrev pub line_after : ℕ → ℕ → ℕ
line_after l b = if b == 10 then l + 1 else l

-- behind `/*`: the line on which the comment ends, and what comes after it
abbrev pub past_comment : ℕ → List ℕ → Option (ℕ × List ℕ)
past_comment l [] = None
past_comment l (b ∷ bs) = if b == 42 && slice_index bs 0 == 47 then Some (l, drop 1 bs) else past_comment
    (line_after l b) bs

-- from the next newline on
abbrev pub to_line_end : List ℕ → List ℕ
to_line_end [] = []
to_line_end (b ∷ bs) = if b == 10 then b ∷ bs else to_line_end bs

-- ---- names: the longest run of letters, digits and `_`

abbrev pub word_text : List ℕ → List ℕ
word_text bs = take (prefix_len is_word bs) bs

abbrev pub after_word : List ℕ → List ℕ
after_word bs = drop (prefix_len is_word bs) bs

-- ---- numbers

-- whether a number goes on with b behind a: letters, digits, `_`, `.`, and `+` or `-` directly behind `e`, `E`, `p` or
-- `P`
abbrev pub goes_on : ℕ → ℕ → Bool
goes_on a b = is_word b || b == 46 || ((b == 43 || b == 45) && (a == 101 || a == 69 || a == 112 || a == 80))

-- how many bytes a number goes on behind a, where a is 0 before its first
abbrev pub number_len : ℕ → List ℕ → ℕ
number_len a [] = 0
number_len a (b ∷ bs) = if goes_on a b then suc (number_len b bs) else 0

abbrev pub number_text : List ℕ → List ℕ
number_text bs = take (number_len 0 bs) bs

abbrev pub after_number : List ℕ → List ℕ
after_number bs = drop (number_len 0 bs) bs

-- what a byte counts as a digit; 16 where it is none
abbrev pub digit_value : ℕ → ℕ
digit_value b = if is_digit b then b - 48 else if nat_le 97 b && nat_le b 102 then b - 87 else if nat_le 65 b &&
    nat_le b 70 then b - 55 else 16

abbrev pub is_digit_of : ℕ → ℕ → Bool
is_digit_of base b = nat_lt (digit_value b) base

abbrev pub value_of : ℕ → List ℕ → ℕ
value_of base ds = fold (λ n b. n * base + digit_value b) 0 ds

abbrev pub is_unsigned : ℕ → Bool
is_unsigned b = b == 117 || b == 85

abbrev pub is_long : ℕ → Bool
is_long b = b == 108 || b == 76

-- a suffix: whether it has `u`, and how many times `l`; two of these are alike and side by side
abbrev pub suffix : List ℕ → Option (Bool × ℕ)
suffix [] = Some (false, 0)
suffix (a ∷ []) = if is_unsigned a then Some (true, 0) else if is_long a then Some (false, 1) else None
suffix (a ∷ b ∷ []) =
    if (is_unsigned a && is_long b) || (is_long a && is_unsigned b) then Some (true, 1)
    else if is_long a && a == b then Some (false, 2)
    else None
suffix (a ∷ b ∷ c ∷ []) =
    if (is_unsigned a && is_long b && b == c) || (is_long a && a == b && is_unsigned c) then Some (true, 2) else None
suffix (a ∷ b ∷ c ∷ d ∷ ds) = None

-- the greatest value is below 2 ^ 64, of a decimal number without `u` below 2 ^ 63
abbrev pub limit : Bool → Bool → ℕ
limit decimal unsigned = if decimal && not unsigned then 2 ^ 63 else 2 ^ 64

abbrev pub with_suffix : Bool → ℕ → Option (Bool × ℕ) → Option Literal
with_suffix decimal n None = None
with_suffix decimal n (Some s) = if nat_lt n (limit decimal s.0) then Some
    (record { value = n; decimal = decimal; unsigned = s.0; longs = s.1 }) else None

-- digits of this base, at least one, and a suffix
abbrev pub in_base : ℕ → Bool → List ℕ → Option Literal
in_base base decimal ds =
    let k = prefix_len (is_digit_of base) ds in
    if k == 0 then None else with_suffix decimal (value_of base (take k ds)) (suffix (drop k ds))

-- the number that these bytes write: hexadecimal behind `0x` or `0X`, octal behind 0 (so 0 itself), else decimal
abbrev pub literal : List ℕ → Option Literal
literal ds =
    if slice_index ds 0 == 48 then (if slice_index ds 1 == 120 || slice_index ds 1 == 88 then in_base 16 false
    (drop 2 ds) else in_base 8 false ds)
    else in_base 10 true ds

-- ---- characters

-- what stands behind `\`, and its value
abbrev pub escape : ℕ → Option ℕ
escape b =
    if b == 48 then Some 0
    else if b == 97 then Some 7
    else if b == 98 then Some 8
    else if b == 102 then Some 12
    else if b == 110 then Some 10
    else if b == 114 then Some 13
    else if b == 116 then Some 9
    else if b == 118 then Some 11
    else if b == 92 || b == 39 || b == 34 || b == 63 then Some b
    else None

abbrev pub escaped : Option ℕ → Option (ℕ × ℕ)
escaped None = None
escaped (Some v) = Some (v, 3)

-- behind `'`: the value of the character, and how many bytes there are up to the closing `'` and with it
abbrev pub character : List ℕ → Option (ℕ × ℕ)
character bs =
    let a = slice_index bs 0 in
    let b = slice_index bs 1 in
    let c = slice_index bs 2 in
    if a == 92 then (if c == 39 then escaped (escape b) else None)
    else if nat_le 32 a && nat_le a 126 && not (a == 39) && b == 39 then Some (a, 2)
    else None

abbrev pub of_character : ℕ → Literal
of_character v = record { value = v; decimal = true; unsigned = false; longs = 0 }

-- ---- marks: the first of the list that stands there, by its number from 1, and its bytes

abbrev pub mark_at : List ℕ → Option ℕ
mark_at bs = position_from (λ m. starts_with nat_eq bs m) 1 marks

abbrev pub mark_len : ℕ → ℕ
mark_len n = length (slice_index_or marks (n - 1) [])

-- ---- what stands next on a line

-- `over` is the end of the line or of the source, `hash` a `#`, `quote` a `"`
pub data Thing : Type 0 where
  over : Thing
  hash : Thing
  quote : Thing
  name : (text : List ℕ) → Thing
  number : (literal : Literal) → Thing
  mark : (code : ℕ) → Thing

-- Blanks and comments, which count as one space: from this line and these bytes on up to that line and those bytes.
pub data Gap : ℕ → List ℕ → ℕ → List ℕ → Type 0 where
  here : {l : ℕ} {bs : List ℕ} → Gap l bs l bs
  blank : {l b m : ℕ} {bs cs : List ℕ} → is_blank b ≡ true → Gap l bs m cs → Gap l (b ∷ bs) m cs
  remark : {l b m : ℕ} {bs cs : List ℕ} → opens_remark (b ∷ bs) ≡ true → Gap l (to_line_end bs) m cs
      → Gap l (b ∷ bs) m cs
  comment : {l b m : ℕ} {bs cs : List ℕ} (l' : ℕ) (rest : List ℕ) → opens_comment (b ∷ bs) ≡ true
      → past_comment l (drop 1 bs) ≡ Some (l', rest)
      → Gap l' rest m cs → Gap l (b ∷ bs) m cs

-- The bytes begin with this, up to those bytes.
pub data Begins : List ℕ → Thing → List ℕ → Type 0 where
  at_end : Begins [] over []
  at_newline : {b : ℕ} {bs : List ℕ} → b ≡ 10 → Begins (b ∷ bs) over (b ∷ bs)
  a_hash : {b : ℕ} {bs : List ℕ} → b ≡ 35 → Begins (b ∷ bs) hash bs
  a_quote : {b : ℕ} {bs : List ℕ} → b ≡ 34 → Begins (b ∷ bs) quote bs
  a_name : {b : ℕ} {bs : List ℕ} → is_letter b ≡ true → Begins (b ∷ bs) (name (word_text (b ∷ bs)))
      (after_word (b ∷ bs))
  a_number : {b : ℕ} {bs : List ℕ} (n : Literal) → is_digit b ≡ true → literal (number_text (b ∷ bs)) ≡ Some n
      → Begins (b ∷ bs) (number n) (after_number (b ∷ bs))
  a_character : {b : ℕ} {bs : List ℕ} (v k : ℕ) → b ≡ 39 → character bs ≡ Some (v, k)
      → Begins (b ∷ bs) (number (of_character v)) (drop k bs)
  a_mark : {b : ℕ} {bs : List ℕ} (n : ℕ) → opens_remark (b ∷ bs) ≡ false → opens_comment (b ∷ bs) ≡ false
      → mark_at (b ∷ bs) ≡ Some n
      → Begins (b ∷ bs) (mark n) (drop (mark_len n) (b ∷ bs))

-- Next after blanks and comments, on line m, stands this thing.
pub record Next (l : ℕ) (bs : List ℕ) (m : ℕ) (t : Thing) (rest : List ℕ) : Type 0 where
  pub from : List ℕ
  pub gap : Gap l bs m from
  pub begins : Begins from t rest

-- The bytes begin with something broken in itself: a wrong number or character, or a byte with which nothing begins.
pub data Spoilt : List ℕ → ℕ → Type 0 where
  bad_number : {b : ℕ} {bs : List ℕ} → is_digit b ≡ true → literal (number_text (b ∷ bs)) ≡ None
      → Spoilt (b ∷ bs) kinds.number
  bad_character : {b : ℕ} {bs : List ℕ} → b ≡ 39 → character bs ≡ None → Spoilt (b ∷ bs) kinds.number
  bad_byte : {b : ℕ} {bs : List ℕ} → is_blank b ≡ false → is_word b ≡ false
      → list_any (λ c. b == c) (10 ∷ 34 ∷ 35 ∷ 39 ∷ []) ≡ false → opens_remark (b ∷ bs) ≡ false
      → opens_comment (b ∷ bs) ≡ false → mark_at (b ∷ bs) ≡ None → Spoilt (b ∷ bs) kinds.byte

-- Next after blanks and comments, on line m, stands something broken in itself, which is refused by this kind: a
-- comment that is not closed too.
pub data Breaks : ℕ → List ℕ → ℕ → ℕ → Type 0 where
  unclosed : {l b m : ℕ} {bs cs : List ℕ} → Gap l bs m (b ∷ cs) → opens_comment (b ∷ cs) ≡ true
      → past_comment m (drop 1 cs) ≡ None → Breaks l bs kinds.comment m
  spoilt : {l m k : ℕ} {bs cs : List ℕ} → Gap l bs m cs → Spoilt cs k → Breaks l bs k m
