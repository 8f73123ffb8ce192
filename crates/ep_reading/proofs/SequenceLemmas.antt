-- Reading parts one after the other.
use Rattle.std.proofs.Common.{◌≡◌, ℕ, List, ◌∷◌, Some, sym, ap, ◌∙◌, subst}
use Rattle.ep_ast.specs.Token.{Tok, mark}
use Rattle.ep_ast.specs.Reading.{Takes, TakesNone, Lacks, AtMark}
use Rattle.ep_reading.proofs.FirstLemmas.{tail_is, lacks_is}

-- one after the other
abbrev pub Both : {A B : Type 0} → (List Tok → List Tok → A → Type 0) → (List Tok → List Tok → B → Type 0) → List Tok
    → List Tok → A × B → Type 0
Both P Q xs zs p = (ys : List Tok) × P xs ys p.0 × Q ys zs p.1

both_only : {A B : Type 0} {P : List Tok → List Tok → A → Type 0} {Q : List Tok → List Tok → B → Type 0}
    {xs ys zs ws : List Tok} {a : A} {b : B}
    → Takes P xs a ys → Takes Q ys b zs → (u : A × B) (vs : List Tok) → P xs vs u.0 → Q vs ws u.1
    → (u ≡ (a, b)) × (ws ≡ zs)
both_only {Q = Q} {ws = ws} p q u vs h k =
    let e = p.only u.0 vs h in
    let f = q.only u.1 ws (subst (λ (ts : List Tok). Q ts ws u.1) e.1 k) in
    (λ i. (e.0 i, f.0 i), f.1)

pub both_takes : {A B : Type 0} {P : List Tok → List Tok → A → Type 0} {Q : List Tok → List Tok → B → Type 0}
    {xs ys zs : List Tok} {a : A} {b : B}
    → Takes P xs a ys → Takes Q ys b zs → Takes (Both P Q) xs (a, b) zs
both_takes {ys = ys} p q = record { holds = (ys, p.holds, q.holds); only = λ u ws h. both_only p q u h.0 h.1 h.2 }

pub both_first : {A B : Type 0} {P : List Tok → List Tok → A → Type 0} (Q : List Tok → List Tok → B → Type 0)
    {xs : List Tok} → TakesNone P xs → TakesNone (Both P Q) xs
both_first Q p = record { never = λ u ws h. p.never u.0 h.0 h.1 }

pub both_second : {A B : Type 0} {P : List Tok → List Tok → A → Type 0} {Q : List Tok → List Tok → B → Type 0}
    {xs ys : List Tok} {a : A} → Takes P xs a ys → TakesNone Q ys → TakesNone (Both P Q) xs
both_second {Q = Q} p q = record {
  never = λ u ws h. let e = p.only u.0 h.0 h.1 in
      q.never u.1 ws (subst (λ (ts : List Tok). Q ts ws u.1) e.1 h.2);
}

-- where one relation is another, and its value made from that one's
pub record Makes {A B : Type 0} (P : List Tok → List Tok → A → Type 0) (xs : List Tok) (f : A → B) (R : List Tok
    → List Tok → B → Type 0) (ts : List Tok) : Type 0 where
  pub to : (u : B) (zs : List Tok) → R ts zs u → (p : A) × P xs zs p × (u ≡ f p)
  pub from : (p : A) (zs : List Tok) → P xs zs p → R ts zs (f p)

made_only : {A B : Type 0} {P : List Tok → List Tok → A → Type 0} {xs ys zs : List Tok} {f : A → B} {a : A} {u : B}
    → Takes P xs a ys → (q : (p : A) × P xs zs p × (u ≡ f p)) → (u ≡ f a) × (zs ≡ ys)
made_only {zs = zs} {f = f} t q = let e = t.only q.0 zs q.1 in (q.2 ∙ ap f e.0, e.1)

pub made : {A B : Type 0} {P : List Tok → List Tok → A → Type 0} {R : List Tok → List Tok → B → Type 0}
    {xs ts ys : List Tok} {f : A → B} {a : A} → Makes P xs f R ts → Takes P xs a ys → Takes R ts (f a) ys
made {ys = ys} {a = a} m t = record { holds = m.from a ys t.holds; only = λ u zs h. made_only t (m.to u zs h) }

pub made_none : {A B : Type 0} {P : List Tok → List Tok → A → Type 0} {R : List Tok → List Tok → B → Type 0}
    {xs ts : List Tok} {f : A → B} → Makes P xs f R ts → TakesNone P xs → TakesNone R ts
made_none m t = record { never = λ u zs h. let q = m.to u zs h in t.never q.0 zs q.1 }

-- ---- a mark

-- this mark, with its line
pub record IsMark (d : ℕ) (xs ys : List Tok) (line : ℕ) : Type 0 where
  pub code : ℕ
  pub same : code ≡ d
  pub whole : xs ≡ mark line code ∷ ys

line_is : {l c m d : ℕ} {xs ys : List Tok} → mark l c ∷ xs ≡ mark m d ∷ ys → l ≡ m
line_is e = cc

pub mark_taken : (d l : ℕ) (xs ys : List Tok) → AtMark d xs (Some (l, ys)) → Takes (IsMark d) xs l ys
mark_taken d l xs ys h = record {
  holds = record { code = h.0; same = h.1; whole = h.2 };
  only = λ m zs k. let q = sym k.whole ∙ h.2 in (line_is q, tail_is q);
}

pub mark_lacking : (d : ℕ) (xs : List Tok) → Lacks d xs → TakesNone (IsMark d) xs
mark_lacking d xs h = record { never = λ m zs k. lacks_is m k.code d xs zs h k.whole k.same }
