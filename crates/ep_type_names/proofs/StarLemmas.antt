-- Reading stars, and the name of a type in parentheses.
use Rattle.std.proofs.Common.{◌≡◌, ℕ, suc, ◌+◌, Bool, true, false, List, [], ◌∷◌, ◌++◌, Some, refl, sym, ap, ◌∙◌}
use Rattle.ep_reading.proofs.FirstLemmas.{lacks_is, tail_is}
use Rattle.std.proofs.Common.{arith, append_assoc}
use Rattle.std.specs.Prelude.{◌==◌, not}
use Rattle.std.proofs.lemmas.List.{append-nil}
use Rattle.std.proofs.lemmas.Bool.Decides.{nat_tests}
use Rattle.ep_ast.specs.Token.{Tok, word, name, number, mark, if_little, if_big, other, end_if}
use Rattle.ep_ast.specs.Expression.{TypeWord, TypeName}
use Rattle.ep_ast.specs.Mark.{const_word, star, right_paren}
use Rattle.ep_ast.specs.TypeWords.{Consts, no_consts, one_const, Stars, no_stars, one_star, ends_stars, AreStars}
use Rattle.ep_ast.specs.TypeWords.{AreType, TypeNamed, closed, named, begins_type}
use Rattle.ep_ast.specs.Reading.{Takes, TakesNone, Lacks, LacksWord, AtMark, AtWord}
use Rattle.ep_type_names.specs.Words.{CountsConsts}

-- ---- const

-- so many are read, and what comes adds to them
abbrev pub ConstsSo : List Tok → ℕ → List Tok → Type 0
ConstsSo xs n ys = (m : ℕ) (zs : List Tok) → Consts ys zs m → Consts xs zs (n + m)

pub consts_begin : (xs : List Tok) → ConstsSo xs 0 xs
consts_begin xs = λ m zs d. (let e : 0 + m ≡ m = omega arith in rw e d)

pub consts_step : (xs : List Tok) (n : ℕ) (ys zs : List Tok) (l : ℕ) → ConstsSo xs n ys
    → AtWord const_word ys (Some (l, zs)) → ConstsSo xs (n + 1) zs
consts_step xs n ys zs l s k = λ m us d. (
    let e : n + 1 + m ≡ n + suc m = omega arith in
    rw e (s (suc m) us (rw k.2 (one_const k.1 d))))

pub consts_done : (xs : List Tok) (n : ℕ) (ys : List Tok) → ConstsSo xs n ys → Consts xs ys n
consts_done xs n ys s = (let e : n + 0 ≡ n = omega arith in rw e at (s 0 ys no_consts))

consts_only : {xs ys zs : List Tok} {n m : ℕ} → Consts xs ys n → LacksWord const_word ys → Consts xs zs m
    → LacksWord const_word zs → (m ≡ n) × (zs ≡ ys)
consts_only no_consts h no_consts k = (refl, refl)
consts_only no_consts h (one_const e d) k = absurd (h e)
consts_only (one_const e d) h no_consts k = absurd (k e)
consts_only (one_const e d) h (one_const e' d') k = let q = consts_only d h d' k in (ap suc q.0, q.1)

-- ---- stars

not_star : (c : ℕ) → not (c == star) ≡ true → c ≡ star → ⊥
not_star c h k = grind (arith, nat_tests)

not_const : (c : ℕ) → not (c == const_word) ≡ true → c ≡ const_word → ⊥
not_const c h k = grind (arith, nat_tests)

star_not : (c : ℕ) → (c ≡ star → ⊥) → not (c == star) ≡ true
star_not c h = grind (arith, nat_tests)

const_not : (c : ℕ) → (c ≡ const_word → ⊥) → not (c == const_word) ≡ true
const_not c h = grind (arith, nat_tests)

stars_lack : {xs ys : List Tok} {ns : List ℕ} → Stars xs ys ns → ends_stars ys ≡ true → LacksWord const_word xs
stars_lack (no_stars {xs = []}) h = tt
stars_lack (no_stars {xs = word l c ∷ ts}) h = not_const c h
stars_lack (no_stars {xs = name l c ∷ ts}) h = tt
stars_lack (no_stars {xs = number l c ∷ ts}) h = tt
stars_lack (no_stars {xs = mark l c ∷ ts}) h = tt
stars_lack (no_stars {xs = if_little l ∷ ts}) h = tt
stars_lack (no_stars {xs = if_big l ∷ ts}) h = tt
stars_lack (no_stars {xs = other l ∷ ts}) h = tt
stars_lack (no_stars {xs = end_if l ∷ ts}) h = tt
stars_lack (one_star e d s) h = tt

ends_here : (ys : List Tok) → Lacks star ys → LacksWord const_word ys → ends_stars ys ≡ true
ends_here [] h k = refl
ends_here (word l c ∷ ts) h k = const_not c k
ends_here (mark l c ∷ ts) h k = star_not c h
ends_here (name l c ∷ ts) h k = refl
ends_here (number l c ∷ ts) h k = refl
ends_here (if_little l ∷ ts) h k = refl
ends_here (if_big l ∷ ts) h k = refl
ends_here (other l ∷ ts) h k = refl
ends_here (end_if l ∷ ts) h k = refl

pub record StarsSo (xs : List Tok) (front : List ℕ) (ys : List Tok) : Type 0 where
  pub forth : (zs : List Tok) (ns : List ℕ) → Stars ys zs ns → Stars xs zs (front ++ ns)
  pub back : (zs : List Tok) (ns : List ℕ) → Stars xs zs ns → ends_stars zs ≡ true
      → (more : List ℕ) × (ns ≡ front ++ more) × Stars ys zs more
  pub lacks : LacksWord const_word ys

pub stars_begin : (xs : List Tok) → LacksWord const_word xs → StarsSo xs [] xs
stars_begin xs h = record { forth = λ zs ns d. d; back = λ zs ns d o. (ns, refl, d); lacks = h }

one_more : (front : List ℕ) {l c : ℕ} {ys us zs : List Tok} {n : ℕ} {ns rest : List ℕ} → c ≡ star → Consts ys us n
    → LacksWord const_word us → ns ≡ front ++ rest → Stars (mark l c ∷ ys) zs rest → ends_stars zs ≡ true
    → (more : List ℕ) × (ns ≡ (front ++ n ∷ []) ++ more) × Stars us zs more
one_more front {c = c} h d k e no_stars o = absurd (not_star c o h)
one_more front {n = n} h d k e (one_star {n = n'} {ys = us'} {ns = ns'} h' d' s) o =
    let q = consts_only d k d' (stars_lack s o) in
    (ns', e ∙ ap (λ (x : ℕ). front ++ x ∷ ns') q.0 ∙ sym (append_assoc front (n ∷ []) ns'), rw (← q.1) s)

pub stars_step : (xs : List Tok) (front : List ℕ) (ys zs us : List Tok) (l n : ℕ) → StarsSo xs front ys
    → AtMark star ys (Some (l, zs)) → CountsConsts zs n us → StarsSo xs (front ++ n ∷ []) us
stars_step xs front ys zs us l n s k d = record {
  forth = λ ws ns r. rw append_assoc (s.forth ws (n ∷ ns) (rw k.2 (one_star k.1 d.0 r)));
  back = λ ws ns r o. let q = s.back ws ns r o in one_more front k.1 d.0 d.1 q.1 (rw k.2 at q.2) o;
  lacks = d.1;
}

no_more : {ys zs : List Tok} {ns : List ℕ} → Lacks star ys → Stars ys zs ns → (ns ≡ []) × (zs ≡ ys)
no_more h no_stars = (refl, refl)
no_more h (one_star e d s) = absurd (h e)

stars_only : (front : List ℕ) {xs ys zs : List Tok} {ns : List ℕ} → StarsSo xs front ys → Lacks star ys
    → AreStars xs zs ns → (ns ≡ front) × (zs ≡ ys)
stars_only front {zs = zs} {ns = ns} s h d =
    let q = s.back zs ns d.stars d.over in
    let r = no_more h q.2 in
    (q.1 ∙ ap (λ (us : List ℕ). front ++ us) r.0 ∙ append-nil front, r.1)

pub stars_done : (xs : List Tok) (front : List ℕ) (ys : List Tok) → StarsSo xs front ys → Lacks star ys
    → Takes AreStars xs front ys
stars_done xs front ys s h =
    let d : Stars xs ys front = rw append-nil at (s.forth ys [] no_stars) in
    record { holds = record { stars = d; over = ends_here ys h s.lacks }; only = λ ns zs t. stars_only front s h t }

-- ---- the name of a type

module _ (N : List ℕ → Bool) where
  const_is : (c : ℕ) → begins_type N (word 0 c ∷ []) ≡ false → c ≡ const_word → ⊥
  const_is c h k = let f : begins_type N (word 0 c ∷ []) ≡ true = rw k refl in cc

  -- where the words and the stars of a name end is determined
  parts_only : {xs ys zs : List Tok} {ws us : List TypeWord} {ns ms : List ℕ} {vs qs : List Tok}
      → Takes (AreType N) xs ws ys → Takes AreStars ys ns zs → AreType N xs vs us → AreStars vs qs ms
      → (us ≡ ws) × (ms ≡ ns) × (qs ≡ zs)
  parts_only {us = us} {ms = ms} {vs = vs} {qs = qs} t s d e =
      let p = t.only us vs d in
      let q = s.only ms qs (rw p.1 at e) in
      (p.0, q.0, q.1)

  named_only : {m d : ℕ} {xs ys zs vs : List Tok} {ws : List TypeWord} {ns : List ℕ} {u : TypeName}
      → Takes (AreType N) xs ws ys → Takes AreStars ys ns (mark m d ∷ zs) → TypeNamed N xs vs u
      → (u ≡ named ws ns) × (vs ≡ zs)
  named_only t s (closed h d e) = let q = parts_only t s d e in (rw (q.0, q.1) refl, tail_is q.2)

  pub named_taken : (xs ys zs vs : List Tok) (ws : List TypeWord) (ns : List ℕ) (l : ℕ) → Takes (AreType N) xs ws ys
      → Takes AreStars ys ns zs → AtMark right_paren zs (Some (l, vs)) → Takes (TypeNamed N) xs (named ws ns) vs
  named_taken xs ys zs vs ws ns l t s k =
      let s' : Takes AreStars ys ns (mark l k.0 ∷ vs) = rw k.2 at s in
      record { holds = closed k.1 t.holds s'.holds; only = λ u us d. named_only t s' d }

  words_never : {xs vs : List Tok} {u : TypeName} → TakesNone (AreType N) xs → TypeNamed N xs vs u → ⊥
  words_never n (closed {ys = ys} {ws = ws} h d e) = n.never ws ys d

  open_never : {xs ys zs vs : List Tok} {ws : List TypeWord} {ns : List ℕ} {u : TypeName} → Takes (AreType N) xs ws ys
      → Takes AreStars ys ns zs → Lacks right_paren zs → TypeNamed N xs vs u → ⊥
  open_never {zs = zs} t s k (closed {m = m} {d = d'} {zs = vs} h d e) = let q = parts_only t s d e in
      lacks_is m d' right_paren zs vs k (sym q.2) h

  pub named_open : (xs ys zs : List Tok) (ws : List TypeWord) (ns : List ℕ) → Takes (AreType N) xs ws ys
      → Takes AreStars ys ns zs → Lacks right_paren zs → TakesNone (TypeNamed N) xs
  named_open xs ys zs ws ns t s k = record { never = λ u vs d. open_never t s k d }
