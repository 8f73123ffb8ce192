-- The text of a sample, cut line by line.
use Rattle.std.proofs.Common.{◌≡◌, ℕ, zero, suc, ◌+◌, ◌*◌, ◌/◌, ◌%◌, ◌<◌, Bool, true, false, List, [], ◌∷◌, ◌++◌}
use Rattle.ep_sample_trees.proofs.Basics.{four}
use Rattle.std.proofs.Common.{refl, sym, subst, ap, ◌∙◌, codes, decimal, arith, append_assoc}
use Rattle.std.specs.Prelude.{◌==◌, if◌then◌else◌}
use Rattle.std.proofs.lemmas.Fmt.{decimal_digit, decimal_step}
use Rattle.std.proofs.Math.Nat.{mod-lt}
use Rattle.ep_ast.specs.Token.{Tok}
use Rattle.ep_ast.specs.Lexeme.{here, at_end}
use Rattle.ep_ast.specs.Cut.{Position, Cuts, ends, start, outside}
use Rattle.ep_lexer.specs.Step.{step, skip, thing_at, next, define_at, condition_at, include_at, directive_at}
use Rattle.ep_sample.specs.Sample.{next_of, kind_of, shift_of, source_of, head_text, turned_text, swapped_text, byte_text}
use Rattle.ep_sample.specs.Sample.{field_text, fields_text, end_text}
use Rattle.ep_sample_trees.specs.Tokens.{tokens_of, head_tokens, turned_tokens, swapped_tokens, byte_tokens, field_tokens}
use Rattle.ep_sample_trees.specs.Tokens.{fields_tokens, end_tokens}
use Rattle.ep_sample_cuts.proofs.Walks.{walk, walked}

-- at the begin of a line, where no conditional is open
abbrev line_at : ℕ → Position
line_at l = record { line = l; fresh = true; constants = []; open_arm = outside }

-- three lines, whatever stands behind them
abbrev AreCut : List ℕ → (line : ℕ) → List Tok → Type 0
AreCut text l ts =
    (bs : List ℕ) (us : List Tok) → Cuts (line_at (l + 1 + 1 + 1)) bs us → Cuts (line_at l) (text ++ bs) (ts ++ us)

turned : (l : ℕ) → AreCut turned_text l (turned_tokens l)
unfolding walk step skip thing_at next define_at condition_at include_at directive_at
turned l bs us c =
    walked 28 (line_at l) (turned_text ++ bs) (turned_tokens l, line_at (l + 1 + 1 + 1), bs) us refl c

swapped : (l : ℕ) → AreCut swapped_text l (swapped_tokens l)
unfolding walk step skip thing_at next define_at condition_at include_at directive_at
swapped l bs us c =
    walked 23 (line_at l) (swapped_text ++ bs) (swapped_tokens l, line_at (l + 1 + 1 + 1), bs) us refl c

-- ---- one byte of a number, by its shift in decimal

abbrev byte_with : List ℕ → List ℕ
byte_with ds = codes "  x = ep_in_u32();\n  b[0] = (uint8_t)(x >> " ++ ds ++ codes ");\n  ep_write(b, 1);\n"

by_none : (l : ℕ) → AreCut (byte_with (codes "0")) l (byte_tokens l 0)
unfolding walk step skip thing_at next define_at condition_at include_at directive_at
by_none l bs us c =
    walked 30 (line_at l) (byte_with (codes "0") ++ bs) (byte_tokens l 0, line_at (l + 1 + 1 + 1), bs) us refl c

by_8 : (l : ℕ) → AreCut (byte_with (codes "8")) l (byte_tokens l 8)
unfolding walk step skip thing_at next define_at condition_at include_at directive_at
by_8 l bs us c =
    walked 30 (line_at l) (byte_with (codes "8") ++ bs) (byte_tokens l 8, line_at (l + 1 + 1 + 1), bs) us refl c

by_16 : (l : ℕ) → AreCut (byte_with (codes "16")) l (byte_tokens l 16)
unfolding walk step skip thing_at next define_at condition_at include_at directive_at
by_16 l bs us c =
    walked 30 (line_at l) (byte_with (codes "16") ++ bs) (byte_tokens l 16, line_at (l + 1 + 1 + 1), bs) us refl c

by_24 : (l : ℕ) → AreCut (byte_with (codes "24")) l (byte_tokens l 24)
unfolding walk step skip thing_at next define_at condition_at include_at directive_at
by_24 l bs us c =
    walked 30 (line_at l) (byte_with (codes "24") ++ bs) (byte_tokens l 24, line_at (l + 1 + 1 + 1), bs) us refl c

two_digits : (a b : ℕ) → a < 10 → 0 < a → b < 10 → decimal (10 * a + b) ≡ (48 + a) ∷ (48 + b) ∷ []
two_digits a b h k g =
    let tens : (10 * a + b) / 10 ≡ a = omega (arith, h, g) in
    let ones : (10 * a + b) % 10 ≡ b = omega (arith, h, g) in
    decimal_step (10 * a + b) (omega (arith, k)) (omega (arith, h, g))
    ∙ ap (λ n. decimal n ++ (48 + (10 * a + b) % 10) ∷ []) tens
    ∙ ap (λ n. decimal a ++ (48 + n) ∷ []) ones
    ∙ ap (λ z. z ++ (48 + b) ∷ []) (decimal_digit a h)

written : (l n : ℕ) (ds : List ℕ) → decimal n ≡ ds → AreCut (byte_with ds) l (byte_tokens l n)
    → AreCut (byte_text n) l (byte_tokens l n)
written l n ds e c = subst (λ (z : List ℕ). AreCut (byte_with z) l (byte_tokens l n)) (sym e) c

by_eights : (l q : ℕ) → q < 4 → AreCut (byte_text (8 * q)) l (byte_tokens l (8 * q))
by_eights l q small =
    four (λ n. AreCut (byte_text (8 * n)) l (byte_tokens l (8 * n))) q small
    (written l 0 (codes "0") (decimal_digit 0 (omega arith)) (by_none l))
    (written l 8 (codes "8") (decimal_digit 8 (omega arith)) (by_8 l))
    (written l 16 (codes "16") (two_digits 1 6 (omega arith) (omega arith) (omega arith)) (by_16 l))
    (written l 24 (codes "24") (two_digits 2 4 (omega arith) (omega arith) (omega arith)) (by_24 l))

-- ---- fields

of_kind : (a c : Bool) (l : ℕ) (b1 b2 b3 : List ℕ) (t1 t2 t3 : List Tok) → AreCut b1 l t1 → AreCut b2 l t2
    → AreCut b3 l t3
    → AreCut (if a then b1 else if c then b2 else b3) l (if a then t1 else if c then t2 else t3)
of_kind true c l b1 b2 b3 t1 t2 t3 d e f = d
of_kind false true l b1 b2 b3 t1 t2 t3 d e f = e
of_kind false false l b1 b2 b3 t1 t2 t3 d e f = f

field : (s l : ℕ) → AreCut (field_text s) l (field_tokens s l)
field s l =
    of_kind (kind_of s == 0) (kind_of s == 1) l turned_text swapped_text (byte_text (shift_of s)) (turned_tokens l)
    (swapped_tokens l) (byte_tokens l (shift_of s)) (turned l) (swapped l)
    (by_eights l (s / 196608 % 4) (mod-lt (s / 196608) (omega arith)))

end : (l : ℕ) → Cuts (line_at l) end_text (end_tokens l)
unfolding walk step skip thing_at next define_at condition_at include_at directive_at
end l =
    walked 6 (line_at l) end_text (end_tokens l, line_at (l + 1 + 1), []) [] refl
    (ends (l + 1 + 1) (record { from = []; gap = here; begins = at_end }) refl)

fields : (s l n : ℕ) → Cuts (line_at l) (fields_text s n ++ end_text) (fields_tokens s l n)
fields s l zero = end l
fields s l (suc n) =
    subst (λ (bs : List ℕ). Cuts (line_at l) bs (fields_tokens s l (suc n)))
    (sym (append_assoc (field_text (next_of s)) (fields_text (next_of s) n) end_text))
    (field (next_of s) l (fields_text (next_of s) n ++ end_text) (fields_tokens (next_of s) (l + 1 + 1 + 1) n)
    (fields (next_of s) (l + 1 + 1 + 1) n))

-- ---- the whole text

head : (bs : List ℕ) (us : List Tok) → Cuts (line_at 13) bs us → Cuts start (head_text ++ bs) (head_tokens ++ us)
unfolding walk step skip thing_at next define_at condition_at include_at directive_at
head bs us c = walked 74 start (head_text ++ bs) (head_tokens, line_at 13, bs) us refl c

pub cut : (first n : ℕ) → Cuts start (source_of first n) (tokens_of first n)
cut first n = head (fields_text first n ++ end_text) (fields_tokens first 13 n) (fields first 13 n)
