-- A mark of one byte stands where the byte behind it is second in no longer one; and words have two bytes or more.
use Rattle.std.proofs.Common.{◌≡◌, ℕ, suc, ◌+◌, ◌<◌, Bool, true, false, not, ◌&&◌, cond}
use Rattle.std.proofs.Common.{List, [], ◌∷◌, ◌++◌, length, nat_eq, ◌==◌, slice_index, Option, Some, None}
use Rattle.std.proofs.Common.{refl, ap, ◌∙◌, arith}
use Rattle.std.proofs.lemmas.Bool.Decides.{nat_tests}
use Rattle.std.specs.List.{starts_with, position_from}
use Rattle.std.specs.Str.{bytes_eq}
use Rattle.ep_ast.specs.Token.{long_marks, short_marks}
use Rattle.ep_ast.specs.Lexeme.{mark_at}
use Rattle.ep_lexer.specs.Shorts.{is_second, short}

and_false : (b : Bool) → (b && false) ≡ false
and_false true = refl
and_false false = refl

and_true : (b : Bool) → (b && true) ≡ b
and_true true = refl
and_true false = refl

-- a test that each text fails
abbrev Fails : (List ℕ → Bool) → List (List ℕ) → Type 0
Fails p [] = Unit
Fails p (w ∷ ws) = (p w ≡ false) × Fails p ws

passed_over : (p : List ℕ → Bool) (k : ℕ) (ws rest : List (List ℕ)) → Fails p ws
    → position_from p k (ws ++ rest) ≡ position_from p (k + length ws) rest
passed_over p k [] rest h = ap (λ (n : ℕ). position_from p n rest) (omega arith)
passed_over p k (w ∷ ws) rest h =
    let next : k + 1 + length ws ≡ k + suc (length ws) = omega arith in
    ap (λ (t : Bool). cond t (Some k) (position_from p (k + 1) (ws ++ rest))) h.0
    ∙ passed_over p (k + 1) ws rest h.1
    ∙ ap (λ (n : ℕ). position_from p n rest) next

-- no text has this as its second byte
abbrev no_second : ℕ → List (List ℕ) → Bool
no_second d [] = true
no_second d ([] ∷ ws) = false
no_second d ((a ∷ []) ∷ ws) = false
no_second d ((a ∷ c ∷ t) ∷ ws) = not (d == c) && no_second d ws

other_second : (a c : ℕ) (t : List ℕ) (b : ℕ) (bs : List ℕ) → nat_eq c (slice_index bs 0) ≡ false
    → starts_with nat_eq (b ∷ bs) (a ∷ c ∷ t) ≡ false
other_second a c t b [] h = and_false (nat_eq a b)
other_second a c t b (d ∷ ds) h = rw h (and_false (nat_eq a b))

longer_fail : (ws : List (List ℕ)) (b : ℕ) (bs : List ℕ) → no_second (slice_index bs 0) ws ≡ true
    → Fails (λ m. starts_with nat_eq (b ∷ bs) m) ws
longer_fail [] b bs h = tt
longer_fail ([] ∷ ws) b bs h = absurd cc
longer_fail ((a ∷ []) ∷ ws) b bs h = absurd cc
longer_fail ((a ∷ c ∷ t) ∷ ws) b bs h =
    let e : nat_eq c (slice_index bs 0) ≡ false = grind (arith, h, nat_tests) in
    let rest : no_second (slice_index bs 0) ws ≡ true = grind (arith, h) in
    (other_second a c t b bs e, longer_fail ws b bs rest)

none_second : (d : ℕ) → is_second d ≡ false → no_second d long_marks ≡ true
none_second d h =
    let e43 : d == 43 ≡ false = grind (arith, h) in
    let e45 : d == 45 ≡ false = grind (arith, h) in
    let e60 : d == 60 ≡ false = grind (arith, h) in
    let e61 : d == 61 ≡ false = grind (arith, h) in
    let e62 : d == 62 ≡ false = grind (arith, h) in
    let e38 : d == 38 ≡ false = grind (arith, h) in
    let e124 : d == 124 ≡ false = grind (arith, h) in
    rw (e43, e45, e60, e61, e62, e38, e124) refl

-- texts of one byte
abbrev singles : List (List ℕ) → Bool
singles [] = true
singles ([] ∷ ws) = false
singles ((c ∷ []) ∷ ws) = singles ws
singles ((c ∷ d ∷ t) ∷ ws) = false

single : (b : ℕ) (bs : List ℕ) (c : ℕ) → starts_with nat_eq (b ∷ bs) (c ∷ []) ≡ (b == c)
single b bs c =
    let e : nat_eq c b ≡ (b == c) = grind (arith, nat_tests) in
    and_true (nat_eq c b) ∙ e

single_found : (ws : List (List ℕ)) (b : ℕ) (bs : List ℕ) (k : ℕ) → singles ws ≡ true
    → position_from (λ m. starts_with nat_eq (b ∷ bs) m) k ws
    ≡ position_from (λ (m : List ℕ). b == slice_index m 0) k ws
single_found [] b bs k h = refl
single_found ([] ∷ ws) b bs k h = absurd cc
single_found ((c ∷ d ∷ t) ∷ ws) b bs k h = absurd cc
single_found ((c ∷ []) ∷ ws) b bs k h =
    ap (λ (t : Bool). cond t (Some k) (position_from (λ m. starts_with nat_eq (b ∷ bs) m) (k + 1) ws)) (single b bs c)
    ∙ ap (λ (o : Option ℕ). cond (b == c) (Some k) o) (single_found ws b bs (k + 1) h)

pub short_mark : (bs : List ℕ) → length bs == 0 ≡ false → is_second (slice_index bs 1) ≡ false
    → mark_at bs ≡ short (slice_index bs 0)
short_mark [] some h = absurd cc
short_mark (b ∷ bs) some h =
    passed_over (λ m. starts_with nat_eq (b ∷ bs) m) 1 long_marks short_marks
    (longer_fail long_marks b bs (none_second (slice_index bs 0) h))
    ∙ single_found short_marks b bs 22 refl

-- texts of two bytes or more
abbrev pub long_texts : List (List ℕ) → Bool
long_texts [] = true
long_texts ([] ∷ ws) = false
long_texts ((a ∷ []) ∷ ws) = false
long_texts ((a ∷ c ∷ t) ∷ ws) = long_texts ws

brief : (t w : List ℕ) (a c : ℕ) → length t < 2 → bytes_eq t (a ∷ c ∷ w) ≡ false
brief [] w a c lt = refl
brief (b ∷ []) w a c lt = and_false (b == a)
brief (b ∷ d ∷ t) w a c lt = absurd (omega (arith, lt))

pub no_word : (ws : List (List ℕ)) (t : List ℕ) (k : ℕ) → long_texts ws ≡ true → length t < 2
    → position_from (bytes_eq t) k ws ≡ None
no_word [] t k h lt = refl
no_word ([] ∷ ws) t k h lt = absurd cc
no_word ((a ∷ []) ∷ ws) t k h lt = absurd cc
no_word ((a ∷ c ∷ w) ∷ ws) t k h lt =
    ap (λ (o : Bool). cond o (Some k) (position_from (bytes_eq t) (k + 1) ws)) (brief t w a c lt)
    ∙ no_word ws t (k + 1) h lt
