-- Primaries: names, numbers and parentheses.
use Rattle.std.proofs.Common.{◌≡◌, ℕ, Bool, true, false, List, ◌∷◌, Some, None, refl, sym}
use Rattle.ep_ast.specs.declared.expressions.Literal.{Literal}
use Rattle.ep_ast.specs.Token.{Tok, word, name, number, mark}
use Rattle.ep_ast.specs.Expression as tree
use Rattle.ep_ast.specs.Expression.{Expr}
use Rattle.ep_ast.specs.Mark.{left_paren, right_paren}
use Rattle.ep_ast.specs.Grammar.{expr, primary, Derives, names, numbers, parens}
use Rattle.ep_ast.specs.Reading.{Reads, Refuses, Lacks, AtMark}
use Rattle.ep_reading.specs.Look.{NoToken}
use Rattle.ep_reading.proofs.FirstLemmas.{tail_is, lacks_is}
use Rattle.ep_exprs.proofs.MarkLemmas.{ends_at_paren}

module _ (N : List ℕ → Bool) where
  names_only : {l : ℕ} {text : List ℕ} {xs zs : List Tok} {u : Expr} → Derives N primary (name l text ∷ xs) zs u
      → (u ≡ tree.id l text) × (zs ≡ xs)
  names_only (names h) = (refl, refl)

  pub name_read : (l : ℕ) (text : List ℕ) (ts xs : List Tok) → ts ≡ name l text ∷ xs → N text ≡ false
      → Reads N primary ts (tree.id l text) xs
  name_read l text ts xs e h = rw e (record { derives = names h; only = λ u zs d o. names_only d })

  not_a_name : {l : ℕ} {text : List ℕ} {xs zs : List Tok} {u : Expr} → Derives N primary (name l text ∷ xs) zs u
      → N text ≡ false
  not_a_name (names h) = h

  pub type_refused : (l : ℕ) (text : List ℕ) (ts xs : List Tok) → ts ≡ name l text ∷ xs → N text ≡ true
      → Refuses N primary ts
  type_refused l text ts xs e h = rw e (record { never = λ u zs d o. let k = not_a_name d in cc })

  numbers_only : {l : ℕ} {n : Literal} {xs zs : List Tok} {u : Expr} → Derives N primary (number l n ∷ xs) zs u
      → (u ≡ tree.number l n) × (zs ≡ xs)
  numbers_only numbers = (refl, refl)

  pub number_read : (l : ℕ) (n : Literal) (ts xs : List Tok) → ts ≡ number l n ∷ xs
      → Reads N primary ts (tree.number l n) xs
  number_read l n ts xs e = rw e (record { derives = numbers; only = λ u zs d o. numbers_only d })

  no_word : {l c : ℕ} {xs zs : List Tok} {u : Expr} → Derives N primary (word l c ∷ xs) zs u → ⊥
  no_word d = elim d [ ]

  pub word_refused : (l c : ℕ) (ts xs : List Tok) → ts ≡ word l c ∷ xs → Refuses N primary ts
  word_refused l c ts xs e = rw e (record { never = λ u zs d o. no_word d })

  nothing : {ts zs : List Tok} {u : Expr} → NoToken ts → Derives N primary ts zs u → ⊥
  nothing n (names h) = n
  nothing n numbers = n
  nothing n (parens h k e) = n

  pub nothing_refused : (ts : List Tok) → NoToken ts → Refuses N primary ts
  nothing_refused ts n = record { never = λ u zs d o. nothing n d }

  parens_only : {l c m d : ℕ} {xs ys zs : List Tok} {a u : Expr} → d ≡ right_paren → Reads N expr xs a (mark m d ∷ ys)
      → Derives N primary (mark l c ∷ xs) zs u → (u ≡ a) × (zs ≡ ys)
  parens_only k r (parens {m = m'} {d = d'} {ys = ys'} {a = b} h k' e) = let q =
      r.only b (mark m' d' ∷ ys') e (ends_at_paren m' d' ys' k') in (q.0, tail_is q.1)

  pub closed_read : (l c m : ℕ) (ts xs ys zs : List Tok) (a : Expr) → ts ≡ mark l c ∷ xs → c ≡ left_paren
      → Reads N expr xs a ys → AtMark right_paren ys (Some (m, zs)) → Reads N primary ts a zs
  closed_read l c m ts xs ys zs a e h r k =
      let r' : Reads N expr xs a (mark m k.0 ∷ zs) = rw k.2 at r in
      rw e (record { derives = parens h k.1 r'.derives; only = λ u ws d o. parens_only k.1 r' d })

  parens_never : {l c : ℕ} {xs zs : List Tok} {u : Expr} → Refuses N expr xs → Derives N primary (mark l c ∷ xs) zs u
      → ⊥
  parens_never r (parens {m = m'} {d = d'} {ys = ys'} {a = b} h k' e) =
      r.never b (mark m' d' ∷ ys') e (ends_at_paren m' d' ys' k')

  pub closed_refused : (l c : ℕ) (ts xs : List Tok) → ts ≡ mark l c ∷ xs → Refuses N expr xs → Refuses N primary ts
  closed_refused l c ts xs e r = rw e (record { never = λ u zs d o. parens_never r d })

  open_never : {l c : ℕ} {xs ys zs : List Tok} {a u : Expr} → Reads N expr xs a ys → Lacks right_paren ys
      → Derives N primary (mark l c ∷ xs) zs u → ⊥
  open_never {ys = ys} r k (parens {m = m'} {d = d'} {ys = ys'} {a = b} h k' e) =
      let q = r.only b (mark m' d' ∷ ys') e (ends_at_paren m' d' ys' k') in
      lacks_is m' d' right_paren ys ys' k (sym q.1) k'

  pub unclosed_refused : (l c : ℕ) (ts xs ys : List Tok) (a : Expr) → ts ≡ mark l c ∷ xs → Reads N expr xs a ys
      → AtMark right_paren ys None → Refuses N primary ts
  unclosed_refused l c ts xs ys a e r k = rw e (record { never = λ u zs d o. open_never r k d })

  other_mark : {l c : ℕ} {xs zs : List Tok} {u : Expr} → (c ≡ left_paren → ⊥) → Derives N primary (mark l c ∷ xs) zs u
      → ⊥
  other_mark n (parens h k' e) = n h

  pub other_refused : (l c : ℕ) (ts xs : List Tok) → ts ≡ mark l c ∷ xs → (c ≡ left_paren → ⊥) → Refuses N primary ts
  other_refused l c ts xs e n = rw e (record { never = λ u zs d o. other_mark n d })
