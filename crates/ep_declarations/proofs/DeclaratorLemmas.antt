-- Reading a declarator.
use Rattle.std.proofs.Common.{◌≡◌, ℕ, Bool, true, false, List, ◌∷◌, Option, Some, refl, sym, subst}
use Rattle.std.specs.Prelude.{◌==◌, not}
use Rattle.ep_ast.specs.Token.{Tok, word, name}
use Rattle.ep_ast.specs.Expression.{Expr}
use Rattle.ep_ast.specs.Declaration.{Declarator}
use Rattle.ep_ast.specs.Mark.{const_word}
use Rattle.ep_ast.specs.TypeWords.{Stars, no_stars, ends_stars, AreStars}
use Rattle.ep_ast.specs.DeclarationGrammar.{Bounds, Declared, declares}
use Rattle.ep_ast.specs.Reading.{Takes, TakesNone, AtWord, LacksName}

-- ---- one

pub record SameName (l m : ℕ) (s t : List ℕ) (xs ys : List Tok) : Type 0 where
  pub line : l ≡ m
  pub text : s ≡ t
  pub tail : xs ≡ ys

pub same_name : {l m : ℕ} {s t : List ℕ} {xs ys : List Tok} → name l s ∷ xs ≡ name m t ∷ ys → SameName l m s t xs ys
same_name e = record { line = cc; text = cc; tail = cc }

const_ends : (c : ℕ) → c ≡ const_word → not (c == const_word) ≡ true → ⊥
const_ends c h k = let f : not (const_word == const_word) ≡ true = rw h at k in cc

pub no_const : {l c : ℕ} {xs ys : List Tok} {ns : List ℕ} → c ≡ const_word → Stars (word l c ∷ xs) ys ns
    → ends_stars ys ≡ true → ⊥
no_const {c = c} h no_stars o = const_ends c h o

pub lacks_name_is : (l : ℕ) (text : List ℕ) (ys zs : List Tok) → LacksName ys → ys ≡ name l text ∷ zs → ⊥
lacks_name_is l text ys zs n e = let L : List Tok → Type 0 = λ ts. LacksName ts in subst L e n

module _ (N : List ℕ → Bool) where
  declares_only : {l : ℕ} {text ns : List ℕ} {xs zs ws vs : List Tok} {bs : List (Option Expr)} {u : Declarator}
      → Takes AreStars xs ns (name l text ∷ zs) → Takes (Bounds N) zs bs ws → Declared N xs vs u
      → (u ≡ record { line = l; stars = ns; name = text; bounds = bs }) × (vs ≡ ws)
  declares_only s b (declares {l = l'} {text = text'} {ns = ns'} {ys = ys'} {zs = zs'} {bs = bs'} f d e) =
      let q = s.only ns' (name l' text' ∷ ys') d in
      let k = same_name q.1 in
      let r = b.only bs' zs' (rw k.tail at e) in
      (rw (k.line, q.0, k.text, r.0) refl, r.1)

  pub declared_taken : (xs ys zs ws : List Tok) (l : ℕ) (text ns : List ℕ) (bs : List (Option Expr))
      → Takes AreStars xs ns ys → ys ≡ name l text ∷ zs → N text ≡ false → Takes (Bounds N) zs bs ws
      → Takes (Declared N) xs (record { line = l; stars = ns; name = text; bounds = bs }) ws
  declared_taken xs ys zs ws l text ns bs s k f b =
      let s' : Takes AreStars xs ns (name l text ∷ zs) = rw k at s in
      record { holds = declares f s'.holds b.holds; only = λ u vs d. declares_only s' b d }

  const_never : {l c : ℕ} {xs vs : List Tok} {u : Declarator} → c ≡ const_word → Declared N (word l c ∷ xs) vs u → ⊥
  const_never h (declares f d e) = no_const h d.stars d.over

  pub const_first : (xs ys : List Tok) (l : ℕ) → AtWord const_word xs (Some (l, ys)) → TakesNone (Declared N) xs
  const_first xs ys l k = record { never = λ u vs d. const_never k.1 (rw k.2 at d) }

  nameless : {xs ys vs : List Tok} {ns : List ℕ} {u : Declarator} → Takes AreStars xs ns ys → LacksName ys
      → Declared N xs vs u → ⊥
  nameless {ys = ys} s n (declares {l = l'} {text = text'} {ns = ns'} {ys = ys'} f d e) =
      let q = s.only ns' (name l' text' ∷ ys') d in lacks_name_is l' text' ys ys' n (sym q.1)

  pub no_name : (xs ys : List Tok) (ns : List ℕ) → Takes AreStars xs ns ys → LacksName ys → TakesNone (Declared N) xs
  no_name xs ys ns s n = record { never = λ u vs d. nameless s n d }

  of_type : {l : ℕ} {text ns : List ℕ} {xs zs vs : List Tok} {u : Declarator} → Takes AreStars xs ns (name l text ∷ zs)
      → N text ≡ true → Declared N xs vs u → ⊥
  of_type s h (declares {l = l'} {text = text'} {ns = ns'} {ys = ys'} f d e) =
      let q = s.only ns' (name l' text' ∷ ys') d in
      let k = same_name q.1 in
      let g : N text' ≡ true = rw k.text h in cc

  pub type_name : (xs ys zs : List Tok) (l : ℕ) (text ns : List ℕ) → Takes AreStars xs ns ys → ys ≡ name l text ∷ zs
      → N text ≡ true → TakesNone (Declared N) xs
  type_name xs ys zs l text ns s k h = record { never = λ u vs d. of_type (rw k at s) h d }

  bounds_never : {l : ℕ} {text ns : List ℕ} {xs zs vs : List Tok} {u : Declarator}
      → Takes AreStars xs ns (name l text ∷ zs) → TakesNone (Bounds N) zs → Declared N xs vs u → ⊥
  bounds_never s n (declares {l = l'} {text = text'} {ns = ns'} {ys = ys'} {zs = zs'} {bs = bs'} f d e) =
      let q = s.only ns' (name l' text' ∷ ys') d in
      let k = same_name q.1 in
      n.never bs' zs' (rw k.tail at e)

  pub bounds_refused : (xs ys zs : List Tok) (l : ℕ) (text ns : List ℕ) → Takes AreStars xs ns ys
      → ys ≡ name l text ∷ zs → TakesNone (Bounds N) zs → TakesNone (Declared N) xs
  bounds_refused xs ys zs l text ns s k n = record { never = λ u vs d. bounds_never (rw k at s) n d }
