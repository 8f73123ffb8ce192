-- Words of a type, one by one.
use Rattle.std.proofs.Common.{◌≡◌, ℕ, suc, ◌+◌, ◌<◌, ◌≤◌, nat_eq, Bool, true, false, cond, ◌||◌, List, [], ◌∷◌, map}
use Rattle.std.proofs.lemmas.Bool.{eq-eqb, eqb-true}
use Rattle.std.proofs.Common.{length, drop, get_or, find, Some, None, Bor, refl, sym, ap, ◌∙◌, arith, rules, drop-cons}
use denote.Enum.Bare.{sameb, same_true, same_false}
use Rattle.std.specs.Prelude.{count_by}
use Rattle.std.specs.List.{list_any}
use Rattle.std.specs.Str.{bytes_eq}
use Rattle.std.proofs.lemmas.Bool.Decides.{nat_tests}
use Rattle.std.proofs.lemmas.List.{drop_all}
use Rattle.std.proofs.lemmas.List.Sums.{sum_by-cons}
use Rattle.ep_int.specs.declared.types.IntType.{IntType}
use Rattle.ep_int.specs.declared.types.Model.{Model}
use Rattle.ep_ast.specs.contracts.words.Word.{the_type}
use Rattle.ep_ast.specs.declared.words.Word.{Word}
use Rattle.ep_ast.specs.declared.expressions.TypeWordTree.{TypeWordTree}
use Rattle.ep_ast.specs.Expression as source
use Rattle.ep_ast.specs.Expression.{TypeWord, type_word}
use Rattle.ep_ast.specs.Mark.{char_word, int_word, long_word, short_word, signed_word, unsigned_word, void_word}
use Rattle.ep_ast.specs.Mark.{word_number}
use Rattle.ep_ast.proofs.Numbers.{same_word}
use Rattle.ep_ast.specs.TypeWords.{Bag, all_joined, joined, no_bag}
use Rattle.ep_typing.specs.Env.{Env, entry}
use Rattle.ep_typing.specs.Names.{integer_of, is_unsigned, is_whole, mentioned_word, mentioned_words}
use Rattle.ep_scopes.specs.Words.{is_word, listed, picked}

-- ---- the list of built-in types

abbrev pub Row : Type 0
Row = Bor (List ℕ) × IntType

abbrev pub rows : List Row → List (List ℕ × IntType)
rows fs = map (λ e. listed e.0.now e.1) fs

module _ (t : List ℕ) (i : ℕ) (fs : List Row) (d : Row) (lt : i < length fs) (e : entry t (rows (drop i fs)) ≡ entry t (rows fs)) where
  unrolled : entry t (rows (get_or fs i d ∷ drop (i + 1) fs)) ≡ entry t (rows fs)
  unrolled =
      let more : suc i ≡ i + 1 = omega arith in
      sym (ap (λ (gs : List Row). entry t (rows gs)) (drop-cons fs i d lt ∙ ap (λ (n : ℕ). get_or fs i d ∷ drop n fs) more)) ∙ e

  pub is_listed : bytes_eq t (get_or fs i d).0.now ≡ true → Some (get_or fs i d).1 ≡ entry t (rows fs)
  is_listed h = ap (λ (b : Bool). cond b (Some (get_or fs i d).1) (entry t (rows (drop (i + 1) fs)))) (sym h) ∙ unrolled

  pub not_listed : bytes_eq t (get_or fs i d).0.now ≡ false → entry t (rows (drop (i + 1) fs)) ≡ entry t (rows fs)
  not_listed h = ap (λ (b : Bool). cond b (Some (get_or fs i d).1) (entry t (rows (drop (i + 1) fs)))) (sym h) ∙ unrolled

pub none_listed : (t : List ℕ) (i : ℕ) (fs : List Row) → length fs ≤ i → entry t (rows (drop i fs)) ≡ entry t (rows fs) → None ≡ entry t (rows fs)
none_listed t i fs h e = let none : drop i fs ≡ [] = drop_all i fs h in sym (ap (λ (gs : List Row). entry t (rows gs)) none) ∙ e

-- ---- the words one after another

front : (i : ℕ) (ws : List TypeWordTree) (w : TypeWordTree) → i < length ws → w ≡ get_or ws i w → drop i ws ≡ w ∷ drop (i + 1) ws
front i ws w lt e =
    let more : suc i ≡ i + 1 = omega arith in
    drop-cons ws i w lt ∙ ap (λ (y : TypeWordTree). y ∷ drop (suc i) ws) (sym e) ∙ ap (λ (n : ℕ). w ∷ drop n ws) more

module _ (i : ℕ) (ws : List TypeWordTree) (w : TypeWordTree) (lt : i < length ws) (is : w ≡ get_or ws i w) where
  module _ (e : find is_whole (map type_word (drop i ws)) ≡ find is_whole (map type_word ws)) where
    seen : find is_whole (map type_word (w ∷ drop (i + 1) ws)) ≡ find is_whole (map type_word ws)
    seen = sym (ap (λ (vs : List TypeWordTree). find is_whole (map type_word vs)) (front i ws w lt is)) ∙ e

    pub is_found : is_whole (type_word w) ≡ true → Some (type_word w) ≡ find is_whole (map type_word ws)
    is_found h = sym (rw h refl) ∙ seen

    pub not_found : is_whole (type_word w) ≡ false → find is_whole (map type_word (drop (i + 1) ws)) ≡ find is_whole (map type_word ws)
    not_found h = sym (rw h refl) ∙ seen

  pub mentions : (G H K : Env) → H ≡ mentioned_word G (type_word w) → mentioned_words G (map type_word (drop i ws)) ≡ K
      → mentioned_words H (map type_word (drop (i + 1) ws)) ≡ K
  mentions G H K h e =
      ap (λ (I : Env). mentioned_words I (map type_word (drop (i + 1) ws))) h
      ∙ sym (ap (λ (vs : List TypeWordTree). mentioned_words G (map type_word vs)) (front i ws w lt is)) ∙ e

pub none_found : (i : ℕ) (ws : List TypeWordTree) → length ws ≤ i → find is_whole (map type_word (drop i ws)) ≡ find is_whole (map type_word ws)
    → None ≡ find is_whole (map type_word ws)
none_found i ws h e = let none : drop i ws ≡ [] = drop_all i ws h in sym (ap (λ (vs : List TypeWordTree). find is_whole (map type_word vs)) none) ∙ e

pub all_mentioned : (i : ℕ) (ws : List TypeWordTree) (G K : Env) → length ws ≤ i → mentioned_words G (map type_word (drop i ws)) ≡ K → G ≡ K
all_mentioned i ws G K h e = let none : drop i ws ≡ [] = drop_all i ws h in sym (ap (λ (vs : List TypeWordTree). mentioned_words G (map type_word vs)) none) ∙ e

-- ---- how many words of each sort there are

chars_by : (b : Bag) (p q r s t u : Bool)
    → (cond p (record b { chars = b.chars + 1 }) (cond q (record b { shorts = b.shorts + 1 }) (cond r (record b { ints = b.ints + 1 })
    (cond s (record b { longs = b.longs + 1 }) (cond t (record b { signs = b.signs + 1 }) (cond u (record b { wholes = b.wholes + 1 }) b)))))).chars
    ≡ b.chars + cond p 1 0
chars_by b true q r s t u = refl
chars_by b false true r s t u = omega arith
chars_by b false false true s t u = omega arith
chars_by b false false false true t u = omega arith
chars_by b false false false false true u = omega arith
chars_by b false false false false false true = omega arith
chars_by b false false false false false false = omega arith

shorts_by : (b : Bag) (p q r s t u : Bool) → (p ≡ true → q ≡ false)
    → (cond p (record b { chars = b.chars + 1 }) (cond q (record b { shorts = b.shorts + 1 }) (cond r (record b { ints = b.ints + 1 })
    (cond s (record b { longs = b.longs + 1 }) (cond t (record b { signs = b.signs + 1 }) (cond u (record b { wholes = b.wholes + 1 }) b)))))).shorts
    ≡ b.shorts + cond q 1 0
shorts_by b true true r s t u f = absurd (let e : true ≡ false = f refl in cc)
shorts_by b true false r s t u f = omega arith
shorts_by b false true r s t u f = refl
shorts_by b false false true s t u f = omega arith
shorts_by b false false false true t u f = omega arith
shorts_by b false false false false true u f = omega arith
shorts_by b false false false false false true f = omega arith
shorts_by b false false false false false false f = omega arith

longs_by : (b : Bag) (p q r s t u : Bool) → (p ≡ true → s ≡ false) → (q ≡ true → s ≡ false) → (r ≡ true → s ≡ false)
    → (cond p (record b { chars = b.chars + 1 }) (cond q (record b { shorts = b.shorts + 1 }) (cond r (record b { ints = b.ints + 1 })
    (cond s (record b { longs = b.longs + 1 }) (cond t (record b { signs = b.signs + 1 }) (cond u (record b { wholes = b.wholes + 1 }) b)))))).longs
    ≡ b.longs + cond s 1 0
longs_by b true q r true t u f g h = absurd (let e : true ≡ false = f refl in cc)
longs_by b true q r false t u f g h = omega arith
longs_by b false true r true t u f g h = absurd (let e : true ≡ false = g refl in cc)
longs_by b false true r false t u f g h = omega arith
longs_by b false false true true t u f g h = absurd (let e : true ≡ false = h refl in cc)
longs_by b false false true false t u f g h = omega arith
longs_by b false false false true t u f g h = refl
longs_by b false false false false true u f g h = omega arith
longs_by b false false false false false true f g h = omega arith
longs_by b false false false false false false f g h = omega arith

other : (c k m : ℕ) → (k ≡ m → ⊥) → nat_eq c k ≡ true → nat_eq c m ≡ false
other c k m f h = grind (arith, nat_tests)

one_char : (b : Bag) (w : TypeWord) → (joined b w).chars ≡ b.chars + cond (is_word char_word w) 1 0
one_char b (source.word l c) =
    chars_by b (nat_eq c char_word) (nat_eq c short_word) (nat_eq c int_word) (nat_eq c long_word) (nat_eq c signed_word || nat_eq c unsigned_word) (nat_eq c void_word)
one_char b (source.typedef_name l t) = omega arith
one_char b (source.tagged l c t) = omega arith

one_short : (b : Bag) (w : TypeWord) → (joined b w).shorts ≡ b.shorts + cond (is_word short_word w) 1 0
one_short b (source.word l c) =
    shorts_by b (nat_eq c char_word) (nat_eq c short_word) (nat_eq c int_word) (nat_eq c long_word) (nat_eq c signed_word || nat_eq c unsigned_word) (nat_eq c void_word)
    (other c char_word short_word (λ e. omega arith))
one_short b (source.typedef_name l t) = omega arith
one_short b (source.tagged l c t) = omega arith

one_long : (b : Bag) (w : TypeWord) → (joined b w).longs ≡ b.longs + cond (is_word long_word w) 1 0
one_long b (source.word l c) =
    longs_by b (nat_eq c char_word) (nat_eq c short_word) (nat_eq c int_word) (nat_eq c long_word) (nat_eq c signed_word || nat_eq c unsigned_word) (nat_eq c void_word)
    (other c char_word long_word (λ e. omega arith)) (other c short_word long_word (λ e. omega arith)) (other c int_word long_word (λ e. omega arith))
one_long b (source.typedef_name l t) = omega arith
one_long b (source.tagged l c t) = omega arith

counted : (p : TypeWordTree → Bool) (w : TypeWordTree) (ws : List TypeWordTree) → count_by p (w ∷ ws) ≡ cond (p w) 1 0 + count_by p ws
counted p w ws = sum_by-cons (λ v. cond (p v) 1 0) w ws

chars_are : (b : Bag) (ws : List TypeWordTree) → (all_joined b (map type_word ws)).chars ≡ b.chars + count_by (λ w. is_word char_word (type_word w)) ws
chars_are b [] = omega arith
chars_are b (w ∷ ws) =
    omega (arith, chars_are (joined b (type_word w)) ws, one_char b (type_word w), counted (λ v. is_word char_word (type_word v)) w ws)

shorts_are : (b : Bag) (ws : List TypeWordTree) → (all_joined b (map type_word ws)).shorts ≡ b.shorts + count_by (λ w. is_word short_word (type_word w)) ws
shorts_are b [] = omega arith
shorts_are b (w ∷ ws) =
    omega (arith, shorts_are (joined b (type_word w)) ws, one_short b (type_word w), counted (λ v. is_word short_word (type_word v)) w ws)

longs_are : (b : Bag) (ws : List TypeWordTree) → (all_joined b (map type_word ws)).longs ≡ b.longs + count_by (λ w. is_word long_word (type_word w)) ws
longs_are b [] = omega arith
longs_are b (w ∷ ws) =
    omega (arith, longs_are (joined b (type_word w)) ws, one_long b (type_word w), counted (λ v. is_word long_word (type_word v)) w ws)

any_are : (ws : List TypeWordTree) → list_any (λ w. is_unsigned (type_word w)) ws ≡ list_any is_unsigned (map type_word ws)
any_are [] = refl
any_are (w ∷ ws) = ap (λ (b : Bool). is_unsigned (type_word w) || b) (any_are ws)

pub integer_is : (m : Model) (ws : List TypeWordTree) (u : Bool) (c s l : ℕ) → u ≡ list_any (λ w. is_unsigned (type_word w)) ws
    → c ≡ count_by (λ w. is_word char_word (type_word w)) ws → s ≡ count_by (λ w. is_word short_word (type_word w)) ws
    → l ≡ count_by (λ w. is_word long_word (type_word w)) ws → picked m u c s l ≡ integer_of m (map type_word ws)
integer_is m ws u c s l e f g h =
    let chars : c ≡ (all_joined no_bag (map type_word ws)).chars = omega (arith, f, chars_are no_bag ws) in
    let shorts : s ≡ (all_joined no_bag (map type_word ws)).shorts = omega (arith, g, shorts_are no_bag ws) in
    let longs : l ≡ (all_joined no_bag (map type_word ws)).longs = omega (arith, h, longs_are no_bag ws) in
    ap (λ (b : Bool). picked m b c s l) (e ∙ any_are ws)
    ∙ ap (λ (n : ℕ). picked m (list_any is_unsigned (map type_word ws)) n s l) chars
    ∙ ap (λ (n : ℕ). picked m (list_any is_unsigned (map type_word ws)) (all_joined no_bag (map type_word ws)).chars n l) shorts
    ∙ ap (λ (n : ℕ). picked m (list_any is_unsigned (map type_word ws)) (all_joined no_bag (map type_word ws)).chars (all_joined no_bag (map type_word ws)).shorts n) longs

-- ---- two words are one where their numbers are

abbrev same : Word → Word → Bool
same a b = sameb the_type a b

of_test : (a b : Word) (t u : Bool) → same a b ≡ t → nat_eq (word_number a) (word_number b) ≡ u → t ≡ u
of_test a b true true e f = refl
of_test a b false false e f = refl
of_test a b true false e f =
    let yes = eq-eqb (word_number a) (word_number b) (ap word_number (same_true the_type (search rules) a b e)) in
    absurd cc
of_test a b false true e f =
    absurd (same_false the_type a b e (same_word a b (eqb-true (word_number a) (word_number b) f)))

pub word_test : (a b : Word) → same a b ≡ nat_eq (word_number a) (word_number b)
word_test a b = of_test a b (same a b) (nat_eq (word_number a) (word_number b)) refl refl
