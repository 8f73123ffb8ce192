-- Reading the words of a type, one after the other.
use Rattle.std.proofs.Common.{◌≡◌, ℕ, ◌+◌, Bool, true, false, cond, List, [], ◌∷◌, ◌++◌, refl, sym, ap, ◌∙◌, arith}
use Rattle.std.proofs.lemmas.Bool.{and_from, and_parts}
use Rattle.std.proofs.Common.{append_assoc}
use Rattle.std.specs.Prelude.{◌==◌, nat_le, ◌&&◌, ◌||◌, not}
use Rattle.std.proofs.lemmas.List.{append-nil}
use Rattle.std.proofs.lemmas.Bool.{eqb-true}
use Rattle.std.proofs.lemmas.Bool.Decides.{nat_tests}
use Rattle.ep_ast.specs.Token.{Tok, word, name}
use Rattle.ep_ast.specs.Expression as tree
use Rattle.ep_ast.specs.Expression.{TypeWord}
use Rattle.ep_ast.specs.TypeWords.{Bag, no_bag, joined, with_word, with_whole, all_joined, fits, is_integer, is_basic}
use Rattle.ep_ast.specs.TypeWords.{is_no_bag, names_type, is_type_word, is_tag_word, OneWord, plain_word, type_name}
use Rattle.ep_ast.specs.TypeWords.{tag, Words, no_words, more_words, begins_type, AreType}
use Rattle.ep_ast.specs.Reading.{Takes, TakesNone, LacksName, Stops}
use Rattle.ep_ast.specs.declared.refusals.Halt.{Halt}
use Rattle.ep_ast.specs.declared.refusals.Halt.TheVariants as halts
use Rattle.std.specs.Prelude.{Err}
use Rattle.ep_type_names.specs.Words.{OneRead}

pub apart : (c : ℕ) → is_type_word c ≡ true → is_tag_word c ≡ true → ⊥
apart c h k = grind (arith, nat_tests)

-- ---- bags

lift : (t u p q i j b d : Bool) → (p ≡ true → q ≡ true) → (i ≡ true → j ≡ true) → (b ≡ true → d ≡ true)
    → cond t (p && i) (u && b) ≡ true → cond t (q && j) (u && d) ≡ true
lift true u p q i j b d f g h e = let k = and_parts p i e in and_from q j (f k.0) (g k.1)
lift false u p q i j b d f g h e = let k = and_parts u b e in and_from u d k.0 (h k.1)

integer_chars : (c s i l g w : ℕ) → is_integer (record {
  chars = c + 1;
  shorts = s;
  ints = i;
  longs = l;
  signs = g;
  wholes = w;
}) ≡ true → is_integer (record {
  chars = c;
  shorts = s;
  ints = i;
  longs = l;
  signs = g;
  wholes = w;
}) ≡ true
integer_chars c s i l g w h = grind (arith, nat_tests)

basic_chars : (c s i l g w : ℕ) → is_basic (record {
  chars = c + 1;
  shorts = s;
  ints = i;
  longs = l;
  signs = g;
  wholes = w;
}) ≡ true → is_basic (record { chars = c; shorts = s; ints = i; longs = l; signs = g; wholes = w }) ≡ true
basic_chars c s i l g w h = grind (arith, nat_tests)

less_chars : (c s i l g w : ℕ) → fits (record {
  chars = c + 1;
  shorts = s;
  ints = i;
  longs = l;
  signs = g;
  wholes = w;
}) ≡ true → fits (record { chars = c; shorts = s; ints = i; longs = l; signs = g; wholes = w }) ≡ true
less_chars c s i l g w h = lift (w == 0) (w == 1) (nat_le g 1) (nat_le g 1) _ _ _ _ (λ k. k) (integer_chars c s i l g w)
    (basic_chars c s i l g w) h

integer_shorts : (c s i l g w : ℕ) → is_integer (record {
  chars = c;
  shorts = s + 1;
  ints = i;
  longs = l;
  signs = g;
  wholes = w;
}) ≡ true → is_integer (record {
  chars = c;
  shorts = s;
  ints = i;
  longs = l;
  signs = g;
  wholes = w;
}) ≡ true
integer_shorts c s i l g w h = grind (arith, nat_tests)

basic_shorts : (c s i l g w : ℕ) → is_basic (record {
  chars = c;
  shorts = s + 1;
  ints = i;
  longs = l;
  signs = g;
  wholes = w;
}) ≡ true → is_basic (record { chars = c; shorts = s; ints = i; longs = l; signs = g; wholes = w }) ≡
    true
basic_shorts c s i l g w h = grind (arith, nat_tests)

less_shorts : (c s i l g w : ℕ) → fits (record {
  chars = c;
  shorts = s + 1;
  ints = i;
  longs = l;
  signs = g;
  wholes = w;
}) ≡ true → fits (record { chars = c; shorts = s; ints = i; longs = l; signs = g; wholes = w }) ≡ true
less_shorts c s i l g w h = lift (w == 0) (w == 1) (nat_le g 1) (nat_le g 1) _ _ _ _ (λ k. k)
    (integer_shorts c s i l g w) (basic_shorts c s i l g w) h

integer_ints : (c s i l g w : ℕ) → is_integer (record {
  chars = c;
  shorts = s;
  ints = i + 1;
  longs = l;
  signs = g;
  wholes = w;
}) ≡ true → is_integer (record {
  chars = c;
  shorts = s;
  ints = i;
  longs = l;
  signs = g;
  wholes = w;
}) ≡ true
integer_ints c s i l g w h = grind (arith, nat_tests)

basic_ints : (c s i l g w : ℕ) → is_basic (record {
  chars = c;
  shorts = s;
  ints = i + 1;
  longs = l;
  signs = g;
  wholes = w;
}) ≡ true → is_basic (record { chars = c; shorts = s; ints = i; longs = l; signs = g; wholes = w }) ≡ true
basic_ints c s i l g w h = grind (arith, nat_tests)

less_ints : (c s i l g w : ℕ) → fits (record {
  chars = c;
  shorts = s;
  ints = i + 1;
  longs = l;
  signs = g;
  wholes = w;
}) ≡ true → fits (record { chars = c; shorts = s; ints = i; longs = l; signs = g; wholes = w }) ≡ true
less_ints c s i l g w h = lift (w == 0) (w == 1) (nat_le g 1) (nat_le g 1) _ _ _ _ (λ k. k) (integer_ints c s i l g w)
    (basic_ints c s i l g w) h

integer_longs : (c s i l g w : ℕ) → is_integer (record {
  chars = c;
  shorts = s;
  ints = i;
  longs = l + 1;
  signs = g;
  wholes = w;
}) ≡ true → is_integer (record {
  chars = c;
  shorts = s;
  ints = i;
  longs = l;
  signs = g;
  wholes = w;
}) ≡ true
integer_longs c s i l g w h = grind (arith, nat_tests)

basic_longs : (c s i l g w : ℕ) → is_basic (record {
  chars = c;
  shorts = s;
  ints = i;
  longs = l + 1;
  signs = g;
  wholes = w;
}) ≡ true → is_basic (record { chars = c; shorts = s; ints = i; longs = l; signs = g; wholes = w }) ≡ true
basic_longs c s i l g w h = grind (arith, nat_tests)

less_longs : (c s i l g w : ℕ) → fits (record {
  chars = c;
  shorts = s;
  ints = i;
  longs = l + 1;
  signs = g;
  wholes = w;
}) ≡ true → fits (record { chars = c; shorts = s; ints = i; longs = l; signs = g; wholes = w }) ≡ true
less_longs c s i l g w h = lift (w == 0) (w == 1) (nat_le g 1) (nat_le g 1) _ _ _ _ (λ k. k) (integer_longs c s i l g w)
    (basic_longs c s i l g w) h

basic_signs : (c s i l g w : ℕ) → is_basic (record {
  chars = c;
  shorts = s;
  ints = i;
  longs = l;
  signs = g + 1;
  wholes = w;
}) ≡ true → is_basic (record { chars = c; shorts = s; ints = i; longs = l; signs = g; wholes = w }) ≡ true
basic_signs c s i l g w h = grind (arith, nat_tests)

one_sign : (g : ℕ) → nat_le (g + 1) 1 ≡ true → nat_le g 1 ≡ true
one_sign g h = grind (arith, nat_tests)

less_signs : (c s i l g w : ℕ) → fits (record {
  chars = c;
  shorts = s;
  ints = i;
  longs = l;
  signs = g + 1;
  wholes = w;
}) ≡ true → fits (record { chars = c; shorts = s; ints = i; longs = l; signs = g; wholes = w }) ≡ true
less_signs c s i l g w h = lift (w == 0) (w == 1) (nat_le (g + 1) 1) (nat_le g 1) _ _ _ _ (one_sign g) (λ k. k)
    (basic_signs c s i l g w) h

basic_fits : (c s i l g : ℕ) → is_basic (record { chars = c; shorts = s; ints = i; longs = l; signs = g; wholes = 0 }) ≡
    true → (nat_le g 1 && is_integer (record { chars = c; shorts = s; ints = i; longs = l; signs = g; wholes = 0 })) ≡
    true
basic_fits c s i l g h =
    let p = and_parts (c == 0 && s == 0 && i == 0 && l == 0) (g == 0) h in
    let q = and_parts (c == 0 && s == 0 && i == 0) (l == 0) p.0 in
    let r = and_parts (c == 0 && s == 0) (i == 0) q.0 in
    let t = and_parts (c == 0) (s == 0) r.0 in
    rw (eqb-true c 0 t.0, eqb-true s 0 t.1, eqb-true i 0 r.1, eqb-true l 0 q.1, eqb-true g 0 p.1) refl

not_zero : (w : ℕ) → (w + 1 == 0) ≡ false
not_zero w = grind (arith, nat_tests)

only_one : (w : ℕ) → (w + 1 == 1) ≡ true → w ≡ 0
only_one w h = grind (arith, nat_tests)

whole_at : (t : Bool) (c s i l g w : ℕ) → (w + 1 == 0) ≡ t
    → fits (record { chars = c; shorts = s; ints = i; longs = l; signs = g; wholes = w + 1 }) ≡ true
    → fits (record { chars = c; shorts = s; ints = i; longs = l; signs = g; wholes = w }) ≡ true
whole_at t c s i l g w e h =
    let k = and_parts (w + 1 == 1) (is_basic (record {
      chars = c;
      shorts = s;
      ints = i;
      longs = l;
      signs = g;
      wholes = w + 1;
    })) (rw not_zero at h) in
    let z : w ≡ 0 = only_one w k.0 in
    rw z (basic_fits c s i l g k.1)

pub less_whole : (b : Bag) → fits (with_whole b) ≡ true → fits b ≡ true
less_whole b h = whole_at (b.wholes + 1 == 0) b.chars b.shorts b.ints b.longs b.signs b.wholes refl h

-- a choice of bags, each of which fits only where b does
chosen : (t : Bool) (b x y : Bag) → (fits x ≡ true → fits b ≡ true) → (fits y ≡ true → fits b ≡ true)
    → fits (cond t x y) ≡ true → fits b ≡ true
chosen true b x y f g h = f h
chosen false b x y f g h = g h

less_word : (b : Bag) (c : ℕ) → fits (with_word b c) ≡ true → fits b ≡ true
less_word b c h =
    chosen (c == 2) b _ _ (less_chars b.chars b.shorts b.ints b.longs b.signs b.wholes)
    (chosen (c == 13) b _ _ (less_shorts b.chars b.shorts b.ints b.longs b.signs b.wholes)
    (chosen (c == 10) b _ _ (less_ints b.chars b.shorts b.ints b.longs b.signs b.wholes)
    (chosen (c == 11) b _ _ (less_longs b.chars b.shorts b.ints b.longs b.signs b.wholes)
    (chosen (c == 14 || c == 20) b _ _ (less_signs b.chars b.shorts b.ints b.longs b.signs b.wholes)
    (chosen (c == 21) b _ _ (less_whole b) (λ k. k)))))) h

pub less_joined : (b : Bag) (w : TypeWord) → fits (joined b w) ≡ true → fits b ≡ true
less_joined b (tree.word l c) h = less_word b c h
less_joined b (tree.typedef_name l text) h = less_whole b h
less_joined b (tree.tagged l c text) h = less_whole b h

less_all : (ws : List TypeWord) (b : Bag) → fits (all_joined b ws) ≡ true → fits b ≡ true
less_all [] b h = h
less_all (w ∷ ws) b h = less_joined b w (less_all ws (joined b w) h)

joined-append : (xs ys : List TypeWord) (b : Bag) → all_joined b (xs ++ ys) ≡ all_joined (all_joined b xs) ys
joined-append [] ys b = refl
joined-append (x ∷ xs) ys b = joined-append xs ys (joined b x)

pub joined-last : (b : Bag) (xs : List TypeWord) (w : TypeWord) → b ≡ all_joined no_bag xs
    → joined b w ≡ all_joined no_bag (xs ++ w ∷ [])
joined-last b xs w e = ap (λ (c : Bag). joined c w) e ∙ sym (joined-append xs (w ∷ []) no_bag)

pub is_not : (b : Bool) → not b ≡ true → b ≡ true → ⊥
is_not true h k = cc
is_not false h k = cc

type_fits : (ws : List TypeWord) → names_type ws ≡ true → fits (all_joined no_bag ws) ≡ true
type_fits ws h = (and_parts (fits (all_joined no_bag ws)) (not (is_no_bag (all_joined no_bag ws))) h).0

type_some : (ws : List TypeWord) → names_type ws ≡ true → is_no_bag (all_joined no_bag ws) ≡ true → ⊥
type_some ws h k = is_not (is_no_bag (all_joined no_bag ws))
    (and_parts (fits (all_joined no_bag ws)) (not (is_no_bag (all_joined no_bag ws))) h).1 k

pub are_type : (b : Bag) → fits b ≡ true → is_no_bag b ≡ false → (fits b && not (is_no_bag b)) ≡ true
are_type b h k = rw (h, k) refl

-- ---- one word

module _ (N : List ℕ → Bool) where
  plain_only : {l c : ℕ} {xs ys : List Tok} {w : TypeWord} → is_type_word c ≡ true → OneWord N (word l c ∷ xs) ys w
      → (w ≡ tree.word l c) × (ys ≡ xs)
  plain_only h (plain_word k) = (refl, refl)
  plain_only {c = c} h (tag k) = absurd (apart c h k)

  pub plain_taken : (ts xs : List Tok) (l c : ℕ) → ts ≡ word l c ∷ xs → is_type_word c ≡ true
      → Takes (OneWord N) ts (tree.word l c) xs
  plain_taken ts xs l c e h = rw e (record { holds = plain_word h; only = λ w ys d. plain_only h d })

  name_only : {l : ℕ} {text : List ℕ} {xs ys : List Tok} {w : TypeWord} → OneWord N (name l text ∷ xs) ys w
      → (w ≡ tree.typedef_name l text) × (ys ≡ xs)
  name_only (type_name k) = (refl, refl)

  pub name_taken : (ts xs : List Tok) (l : ℕ) (text : List ℕ) → ts ≡ name l text ∷ xs → N text ≡ true
      → Takes (OneWord N) ts (tree.typedef_name l text) xs
  name_taken ts xs l text e h = rw e (record { holds = type_name h; only = λ w ys d. name_only d })

  tag_only : {l c m : ℕ} {text : List ℕ} {xs ys : List Tok} {w : TypeWord} → is_tag_word c ≡ true
      → OneWord N (word l c ∷ name m text ∷ xs) ys w → (w ≡ tree.tagged l c text) × (ys ≡ xs)
  tag_only {c = c} h (plain_word k) = absurd (apart c k h)
  tag_only h (tag k) = (refl, refl)

  pub tag_taken : (ts us xs : List Tok) (l c m : ℕ) (text : List ℕ) → ts ≡ word l c ∷ us → us ≡ name m text ∷ xs
      → is_tag_word c ≡ true → Takes (OneWord N) ts (tree.tagged l c text) xs
  tag_taken ts us xs l c m text e f h = rw (e, f) (record { holds = tag h; only = λ w ys d. tag_only h d })

  bare_never : {l c : ℕ} {us ys : List Tok} {w : TypeWord} → is_tag_word c ≡ true → LacksName us
      → OneWord N (word l c ∷ us) ys w → ⊥
  bare_never {c = c} h n (plain_word k) = apart c k h
  bare_never h n (tag k) = n

  tag_begins : (c : ℕ) → is_tag_word c ≡ true → (is_type_word c || is_tag_word c) ≡ true
  tag_begins c h = grind (arith, nat_tests)

  pub bare_tag : (ts us : List Tok) (l c : ℕ) → ts ≡ word l c ∷ us → is_tag_word c ≡ true → LacksName us
      → TakesNone (OneWord N) ts × (begins_type N ts ≡ true)
  bare_tag ts us l c e h n = rw e (record { never = λ w ys d. bare_never h n d }, tag_begins c h)

  or_true : (a b : Bool) → a ≡ true → (a || b) ≡ true
  or_true a b h = rw h refl

  pub one_begins : {xs ys : List Tok} {w : TypeWord} → OneWord N xs ys w → begins_type N xs ≡ true
  one_begins (plain_word {c = c} h) = or_true (is_type_word c) (is_tag_word c) h
  one_begins (type_name h) = h
  one_begins (tag {c = c} h) = tag_begins c h

  -- ---- words

  -- these are read, and what comes are words again
  pub record WordsSo (xs : List Tok) (front : List TypeWord) (ys : List Tok) : Type 0 where
    pub forth : (zs : List Tok) (ws : List TypeWord) → Words N ys zs ws → Words N xs zs (front ++ ws)
    pub back : (zs : List Tok) (ws : List TypeWord) → Words N xs zs ws → begins_type N zs ≡ false
        → (more : List TypeWord) × (ws ≡ front ++ more) × Words N ys zs more

  pub words_begin : (xs : List Tok) → WordsSo xs [] xs
  words_begin xs = record { forth = λ zs ws d. d; back = λ zs ws d o. (ws, refl, d) }

  one_more : (front : List TypeWord) {ys us zs : List Tok} {w : TypeWord} {ws rest : List TypeWord}
      → Takes (OneWord N) ys w us → ws ≡ front ++ rest → Words N ys zs rest → begins_type N zs ≡ false
      → (more : List TypeWord) × (ws ≡ (front ++ w ∷ []) ++ more) × Words N us zs more
  one_more front t e no_words o = let k = one_begins t.holds in absurd cc
  one_more front {w = w} t e (more_words {ys = ys'} {zs = zs} {w = w'} {ws = ws'} d r) o =
      let q = t.only w' ys' d in
      (ws', e ∙ ap (λ (x : TypeWord). front ++ x ∷ ws') q.0 ∙ sym (append_assoc front (w ∷ []) ws'), rw (← q.1) r)

  pub words_step : (xs : List Tok) (front : List TypeWord) (ys zs : List Tok) (w : TypeWord) → WordsSo xs front ys
      → Takes (OneWord N) ys w zs → WordsSo xs (front ++ w ∷ []) zs
  words_step xs front ys zs w s t = record {
    forth = λ us ws d. rw append_assoc (s.forth us (w ∷ ws) (more_words t.holds d));
    back = λ us ws d o. let q = s.back us ws d o in one_more front t q.1 q.2 o;
  }

  no_more : {ys zs : List Tok} {ws : List TypeWord} → begins_type N ys ≡ false → Words N ys zs ws
      → (ws ≡ []) × (zs ≡ ys)
  no_more b no_words = (refl, refl)
  no_more b (more_words d r) = let k = one_begins d in absurd cc

  words_only : (front : List TypeWord) {xs ys zs : List Tok} {ws : List TypeWord} → WordsSo xs front ys
      → begins_type N ys ≡ false → AreType N xs zs ws → (ws ≡ front) × (zs ≡ ys)
  words_only front {zs = zs} {ws = ws} s b d =
      let q = s.back zs ws d.words d.over in
      let r = no_more b q.2 in
      (q.1 ∙ ap (λ (us : List TypeWord). front ++ us) r.0 ∙ append-nil front, r.1)

  pub words_taken : (xs : List Tok) (front : List TypeWord) (ys : List Tok) (b : Bag) → WordsSo xs front ys
      → begins_type N ys ≡ false → b ≡ all_joined no_bag front → fits b ≡ true → is_no_bag b ≡ false
      → Takes (AreType N) xs front ys
  words_taken xs front ys b s o e h k =
      let d : Words N xs ys front = rw append-nil at (s.forth ys [] no_words) in
      let n : names_type front ≡ true = are_type (all_joined no_bag front) (rw e at h) (rw e at k) in
      record { holds = record { words = d; named_type = n; over = o }; only = λ ws zs t. words_only front s o t }

  none_never : (front : List TypeWord) {xs ys zs : List Tok} {ws : List TypeWord} → WordsSo xs front ys
      → begins_type N ys ≡ false → is_no_bag (all_joined no_bag front) ≡ true → AreType N xs zs ws → ⊥
  none_never front {ws = ws} s b k d = let q = words_only front s b d in type_some ws d.named_type (rw q.0 k)

  pub none_taken : (xs : List Tok) (front : List TypeWord) (ys : List Tok) (b : Bag) → WordsSo xs front ys
      → begins_type N ys ≡ false → b ≡ all_joined no_bag front → is_no_bag b ≡ true
      → TakesNone (AreType N) xs
  none_taken xs front ys b s o e k = record { never = λ ws zs d. none_never front s o (rw e at k) d }

  unfit : (front : List TypeWord) {ys us zs : List Tok} {w : TypeWord} {ws rest : List TypeWord}
      → Takes (OneWord N) ys w us → ws ≡ front ++ rest → Words N ys zs rest → begins_type N zs ≡ false
      → names_type ws ≡ true → fits (joined (all_joined no_bag front) w) ≡ true
  unfit front {w = w} {ws = ws} t e d o h =
      let q = one_more front t e d o in
      let f : fits (all_joined no_bag ((front ++ w ∷ []) ++ q.0)) ≡ true = rw (← q.1) (type_fits ws h) in
      let g : fits (all_joined (all_joined no_bag (front ++ w ∷ [])) q.0) ≡ true =
      rw (← joined-append (front ++ w ∷ []) q.0 no_bag) f in
      rw (joined-last (all_joined no_bag front) front w refl) (less_all q.0 (all_joined no_bag (front ++ w ∷ [])) g)

  pub unfit_taken : (xs : List Tok) (front : List TypeWord) (ys us : List Tok) (w : TypeWord) (b : Bag)
      → WordsSo xs front ys → Takes (OneWord N) ys w us → b ≡ all_joined no_bag front → fits (joined b w) ≡ false
      → TakesNone (AreType N) xs
  unfit_taken xs front ys us w b s t e h = record {
    never = λ ws zs d. (
        let q = s.back zs ws d.words d.over in
        let f = unfit front t q.1 q.2 d.over d.named_type in
        let g : fits (joined (all_joined no_bag front) w) ≡ false = rw e at h in cc);
  }

  stuck : {ys zs : List Tok} {ws : List TypeWord} → TakesNone (OneWord N) ys → begins_type N ys ≡ true
      → begins_type N zs ≡ false → Words N ys zs ws → ⊥
  stuck n b o no_words = cc
  stuck n b o (more_words {ys = ys} {w = w} d r) = n.never w ys d

  pub stuck_taken : (xs : List Tok) (front : List TypeWord) (ys : List Tok) → WordsSo xs front ys
      → TakesNone (OneWord N) ys → begins_type N ys ≡ true → TakesNone (AreType N) xs
  stuck_taken xs front ys s n b = record {
    never = λ ws zs d. let q = s.back zs ws d.words d.over in
        stuck n b d.over q.2;
  }

  pub word_halts : (xs : List Tok) (front : List TypeWord) (ys : List Tok) (e : Halt) → WordsSo xs front ys
      → OneRead N ys (Err e) → Stops (AreType N) xs e
  word_halts xs front ys (halts.Refused f) s h = (stuck_taken xs front ys s h.0 h.1, h.2)
  word_halts xs front ys halts.Memory s h = tt
