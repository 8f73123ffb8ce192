-- Classes of bytes, and the marks that begin with a byte.
use Rattle.std.proofs.Common.{◌≡◌, ℕ, Bool, true, false, ◌||◌, ◌==◌, List, ◌∷◌, Some, None, refl, sym, subst, arith}
use Rattle.std.proofs.lemmas.Bool.{cases_Bool}
use Rattle.std.proofs.lemmas.Bool.{or_parts}
use Rattle.std.proofs.Common.{inl, inr}
use Rattle.std.proofs.lemmas.Bool.Decides.{nat_tests}
use Rattle.ep_ast.specs.Lexeme.{is_blank, is_letter, is_digit, is_word, opens_comment, opens_remark, mark_at}
use Rattle.ep_lexer.proofs.Cases.{no_number, none_some}

-- no mark begins with another byte than these
mark_none : (b : ℕ) (bs : List ℕ) → 60 == b ≡ false → 62 == b ≡ false → 45 == b ≡ false → 43 == b ≡ false
    → 61 == b ≡ false → 33 == b ≡ false → 38 == b ≡ false → 124 == b ≡ false → 42 == b ≡ false → 47 == b ≡ false
    → 37 == b ≡ false → 94 == b ≡ false → 40 == b ≡ false → 41 == b ≡ false → 91 == b ≡ false → 93 == b ≡ false
    → 123 == b ≡ false → 125 == b ≡ false → 46 == b ≡ false → 126 == b ≡ false → 63 == b ≡ false → 58 == b ≡ false
    → 59 == b ≡ false → 44 == b ≡ false → mark_at (b ∷ bs) ≡ None
mark_none b bs h0 h1 h2 h3 h4 h5 h6 h7 h8 h9 h10 h11 h12 h13 h14 h15 h16 h17 h18 h19 h20 h21 h22 h23 =
    rw (h0, h1, h2, h3, h4, h5, h6, h7, h8, h9, h10, h11, h12, h13, h14, h15, h16, h17, h18, h19, h20, h21, h22, h23)
    refl

pub from : (b c : ℕ) → is_word b ≡ true → is_word c ≡ false → c == b ≡ false
from b c h k = no_number c b (λ e. let f : is_word c ≡ true = subst (λ (x : ℕ). is_word x ≡ true) (sym e) h in cc)

pub word_no_mark : (b : ℕ) (bs : List ℕ) → is_word b ≡ true → mark_at (b ∷ bs) ≡ None
word_no_mark b bs h = mark_none b bs (from b 60 h refl) (from b 62 h refl) (from b 45 h refl) (from b 43 h refl)
    (from b 61 h refl) (from b 33 h refl) (from b 38 h refl) (from b 124 h refl) (from b 42 h refl) (from b 47 h refl)
    (from b 37 h refl) (from b 94 h refl) (from b 40 h refl) (from b 41 h refl) (from b 91 h refl) (from b 93 h refl)
    (from b 123 h refl) (from b 125 h refl) (from b 46 h refl) (from b 126 h refl) (from b 63 h refl) (from b 58 h refl)
    (from b 59 h refl) (from b 44 h refl)

pub letter_word : (b : ℕ) → is_letter b ≡ true → is_word b ≡ true
letter_word b h = rw h refl

pub digit_no_letter : (b : ℕ) → is_digit b ≡ true → is_letter b ≡ false
digit_no_letter b h = grind (arith, nat_tests)

pub digit_word : (b : ℕ) → is_digit b ≡ true → is_word b ≡ true
digit_word b h = rw (digit_no_letter b h, h) refl

pub word_apart : (b c : ℕ) → is_word b ≡ true → is_word c ≡ false → b == c ≡ false
word_apart b c h k = no_number b c (λ e. let f : is_word c ≡ true = subst (λ (x : ℕ). is_word x ≡ true) e h in cc)

pub word_no_blank : (b : ℕ) → is_word b ≡ true → is_blank b ≡ false
word_no_blank b h = rw (word_apart b 32 h refl, word_apart b 9 h refl, word_apart b 13 h refl) refl

pub word_no_comment : (b : ℕ) (bs : List ℕ) → is_word b ≡ true → opens_comment (b ∷ bs) ≡ false
word_no_comment b bs h = rw (word_apart b 47 h refl) refl

pub word_no_remark : (b : ℕ) (bs : List ℕ) → is_word b ≡ true → opens_remark (b ∷ bs) ≡ false
word_no_remark b bs h = rw (word_apart b 47 h refl) refl

-- where a mark stands, the byte is none of these
along : (b c : ℕ) (bs : List ℕ) (n : ℕ) → mark_at (c ∷ bs) ≡ None → mark_at (b ∷ bs) ≡ Some n → b == c ≡ false
along b c bs n h e = no_number b c (λ k. let f : mark_at (c ∷ bs) ≡ Some n =
    subst (λ (x : ℕ). mark_at (x ∷ bs) ≡ Some n) k e in none_some h f)

pub mark_no_word : (b : ℕ) (bs : List ℕ) (n : ℕ) → mark_at (b ∷ bs) ≡ Some n → is_word b ≡ false
mark_no_word b bs n e = elim (cases_Bool (is_word b)) [ inl h ↦ absurd (none_some (word_no_mark b bs h) e) | inr h ↦ h ]

pub no_letter : (b : ℕ) → is_word b ≡ false → is_letter b ≡ false
no_letter b h = (or_parts (is_letter b) (is_digit b) h).0

pub no_digit : (b : ℕ) → is_word b ≡ false → is_digit b ≡ false
no_digit b h = (or_parts (is_letter b) (is_digit b) h).1

pub mark_no_newline : (b : ℕ) (bs : List ℕ) (n : ℕ) → mark_at (b ∷ bs) ≡ Some n → b == 10 ≡ false
mark_no_newline b bs n e = along b 10 bs n refl e

pub mark_no_hash : (b : ℕ) (bs : List ℕ) (n : ℕ) → mark_at (b ∷ bs) ≡ Some n → b == 35 ≡ false
mark_no_hash b bs n e = along b 35 bs n refl e

pub mark_no_quote : (b : ℕ) (bs : List ℕ) (n : ℕ) → mark_at (b ∷ bs) ≡ Some n → b == 34 ≡ false
mark_no_quote b bs n e = along b 34 bs n refl e

pub mark_no_tick : (b : ℕ) (bs : List ℕ) (n : ℕ) → mark_at (b ∷ bs) ≡ Some n → b == 39 ≡ false
mark_no_tick b bs n e = along b 39 bs n refl e

pub mark_no_blank : (b : ℕ) (bs : List ℕ) (n : ℕ) → mark_at (b ∷ bs) ≡ Some n → is_blank b ≡ false
mark_no_blank b bs n e = rw (along b 32 bs n refl e, along b 9 bs n refl e, along b 13 bs n refl e) refl
