-- Pieces of statements, each by its parts.
use Rattle.std.proofs.Common.{◌≡◌, ℕ, Bool, true, false, List, [], ◌∷◌, Option, Some, None, refl, sym, ◌∙◌, subst, inl}
use Rattle.std.proofs.Common.{inr}
use Rattle.std.specs.Prelude.{◌||◌}
use Rattle.ep_ast.specs.Token.{Tok, word, name, number, mark, if_little, if_big, other, end_if}
use Rattle.ep_ast.specs.Expression.{Expr}
use Rattle.ep_ast.specs.Statement as tree
use Rattle.ep_ast.specs.Statement.{First}
use Rattle.ep_ast.specs.Declaration.{Declaration}
use Rattle.ep_ast.specs.Mark.{while_word, sizeof_word, left_paren, right_paren, semicolon}
use Rattle.ep_ast.specs.Grammar.{expr}
use Rattle.ep_ast.specs.TypeWords.{is_type_word, is_tag_word, begins_type}
use Rattle.ep_ast.specs.DeclarationGrammar.{in_block, OneSpec, type_word, storage, with_members, no_specs, more_specs}
use Rattle.ep_ast.specs.DeclarationGrammar.{specified, Declares, variables}
use Rattle.ep_ast.specs.StatementGrammar.{UpTo, nothing, something, InParens, in_parens, Firsts, declares, evaluates}
use Rattle.ep_ast.specs.Reading.{goes_on, Ends, Reads, Refuses, Takes, TakesNone, Lacks, LacksWord, AtMark}
use Rattle.ep_reading.proofs.FirstLemmas.{tail_is, lacks_is}
use Rattle.ep_type_names.proofs.TypeWordLemmas.{one_begins}
use Rattle.ep_simple_statements.specs.Piece.{CanClose, DoEnd, do_end, Headings, heading, ExprThen}
use Rattle.ep_reading.proofs.SequenceLemmas.{Both, Makes, IsMark}
use Rattle.ep_simple_statements.proofs.SimpleLemmas.{Begins, begins_expr, begins_not}

ends_close : (d l c : ℕ) (ts : List Tok) → CanClose d → c ≡ d → Ends expr (mark l c ∷ ts)
ends_close d l c ts h k = elim h [
  | inl e ↦ subst (λ (n : ℕ). goes_on expr n ≡ false) (sym (k ∙ e)) refl
  | inr e ↦ subst
      (λ (n : ℕ). goes_on expr n ≡ false) (sym (k ∙ e)) refl
]

module _ (N : List ℕ → Bool) where
  begins_close : (d l c : ℕ) → CanClose d → c ≡ d → Begins N (mark l c) → ⊥
  begins_close d l c h k b = elim h [
    | inl e ↦ begins_not N l c semicolon (k ∙ e) refl refl refl b
    | inr e ↦ begins_not N l c right_paren (k ∙ e) refl
        refl refl b
  ]

  -- ---- an expression and a mark

  then_only : {d m c : ℕ} {xs ys zs : List Tok} {a u : Expr} → CanClose d → Reads N expr xs a (mark m c ∷ ys)
      → ExprThen N d xs zs u → (u ≡ a) × (zs ≡ ys)
  then_only {d = d} {zs = zs} {u = u} f r k = let q = r.only u (mark k.line k.code ∷ zs) k.derives
      (ends_close d k.line k.code zs f k.same) in (q.0, tail_is q.1)

  pub then_taken : (d l : ℕ) (xs ws ys : List Tok) (a : Expr) → CanClose d → Reads N expr xs a ws
      → AtMark d ws (Some (l, ys)) → Takes (ExprThen N d) xs a ys
  then_taken d l xs ws ys a f r h =
      let r' : Reads N expr xs a (mark l h.0 ∷ ys) = rw h.2 at r in
      record {
        holds = record { line = l; code = h.0; same = h.1; derives = r'.derives };
        only = λ u zs k. then_only f
            r' k;
      }

  pub then_refused : (d : ℕ) (xs : List Tok) → CanClose d → Refuses N expr xs → TakesNone (ExprThen N d) xs
  then_refused d xs f r = record
      { never = λ u zs k. r.never u (mark k.line k.code ∷ zs) k.derives (ends_close d k.line k.code zs f k.same) }

  pub then_lacking : (d : ℕ) (xs ws : List Tok) (a : Expr) → CanClose d → Reads N expr xs a ws → Lacks d ws
      → TakesNone (ExprThen N d) xs
  then_lacking d xs ws a f r h = record {
    never = λ u zs k. let q = r.only u (mark k.line k.code ∷ zs) k.derives
        (ends_close d k.line k.code zs f k.same) in lacks_is k.line k.code d ws zs h (sym q.1) k.same;
  }

  -- ---- one that may be missing

  nothing_only : {d l c : ℕ} {xs zs : List Tok} {o : Option Expr} → CanClose d → c ≡ d → UpTo N d (mark l c ∷ xs) zs o
      → (o ≡ None) × (zs ≡ xs)
  nothing_only f h (nothing k) = (refl, refl)
  nothing_only {d = d} {l = l} {c = c} f h (something k e) = absurd (begins_close d l c f h (begins_expr N e))

  pub nothing_taken : (d l : ℕ) (xs ys : List Tok) → CanClose d → AtMark d xs (Some (l, ys))
      → Takes (UpTo N d) xs None ys
  nothing_taken d l xs ys f h = rw h.2 (record { holds = nothing h.1; only = λ o zs k. nothing_only f h.1 k })

  to_something : {d : ℕ} {xs zs : List Tok} {o : Option Expr} → Lacks d xs → UpTo N d xs zs o → (e : Expr)
      × ExprThen N d xs zs e × (o ≡ Some e)
  to_something n (nothing k) = absurd (n k)
  to_something n (something {l = l} {c = c} {e = e} k d) =
      (e, record { line = l; code = c; same = k; derives = d }, refl)

  pub something_rule : (d : ℕ) (xs : List Tok) → Lacks d xs → Makes (ExprThen N d) xs (λ (e : Expr). Some e) (UpTo N d)
      xs
  something_rule d xs n = record { to = λ o zs k. to_something n k; from = λ e zs k. something k.same k.derives }

  -- ---- one in parentheses

  to_parens : {l c : ℕ} {xs zs : List Tok} {e : Expr} → InParens N (mark l c ∷ xs) zs e → (a : Expr)
      × ExprThen N right_paren xs zs a × (e ≡ a)
  to_parens (in_parens {m = m} {d = d} {e = e} h k f) = (e, record { line = m; code = d; same = k; derives = f }, refl)

  pub parens_rule : (l c : ℕ) (xs : List Tok) → c ≡ left_paren → Makes (ExprThen N right_paren) xs (λ (e : Expr). e)
      (InParens N) (mark l c ∷ xs)
  parens_rule l c xs h = record { to = λ e zs k. to_parens k; from = λ e zs k. in_parens h k.same k.derives }

  parens_never : {xs zs : List Tok} {e : Expr} → Lacks left_paren xs → InParens N xs zs e → ⊥
  parens_never n (in_parens h k f) = n h

  pub parens_lacking : (xs : List Tok) → Lacks left_paren xs → TakesNone (InParens N) xs
  parens_lacking xs n = record { never = λ e zs k. parens_never n k }

  -- ---- the end of a `do`

  to_do_end : {l c : ℕ} {xs zs : List Tok} {e : Expr} → DoEnd N (word l c ∷ xs) zs e → (p : Expr × ℕ)
      × Both (InParens N) (IsMark semicolon) xs zs p × (e ≡ p.0)
  to_do_end (do_end {n = n} {f = f} {ys = ys} {e = e} h k d) =
      ((e, n), (mark n f ∷ ys, d, record { code = f; same = k; whole = refl }), refl)

  do_end_from : (l c : ℕ) (xs zs : List Tok) (p : Expr × ℕ) → c ≡ while_word
      → Both (InParens N) (IsMark semicolon) xs zs p → DoEnd N (word l c ∷ xs) zs p.0
  do_end_from l c xs zs p h k = do_end h k.2.same (subst (λ (ts : List Tok). InParens N xs ts p.0) k.2.whole k.1)

  pub do_end_rule : (l c : ℕ) (xs : List Tok) → c ≡ while_word → Makes (Both (InParens N) (IsMark semicolon)) xs
      (λ (p : Expr × ℕ). p.0) (DoEnd N) (word l c ∷ xs)
  do_end_rule l c xs h = record { to = λ e zs k. to_do_end k; from = λ p zs k. do_end_from l c xs zs p h k }

  do_end_never : {xs zs : List Tok} {e : Expr} → LacksWord while_word xs → DoEnd N xs zs e → ⊥
  do_end_never n (do_end h k f) = n h

  pub do_end_lacking : (xs : List Tok) → LacksWord while_word xs → TakesNone (DoEnd N) xs
  do_end_lacking xs n = record { never = λ e zs k. do_end_never n k }

  -- ---- declarations and expressions apart

  one_spec_begins : {xs ys : List Tok} {s : _} → OneSpec N in_block xs ys s → begins_type N xs ≡ true
  one_spec_begins (type_word w n) = one_begins N w
  one_spec_begins (storage h k) = absurd cc
  one_spec_begins (with_members h a) = absurd cc

  pub declares_begins : {xs ys : List Tok} {d : Declaration} → Declares N in_block xs ys d → begins_type N xs ≡ true
  declares_begins (variables (specified h (no_specs k)) i) = absurd cc
  declares_begins (variables (specified h (more_specs o k)) i) = one_spec_begins o

  size_is_none : (c : ℕ) → c ≡ sizeof_word → (is_type_word c || is_tag_word c) ≡ true → ⊥
  size_is_none c h k = let f : (is_type_word sizeof_word || is_tag_word sizeof_word) ≡ true = rw h at k in cc

  type_begins : (t : Tok) (xs : List Tok) → begins_type N (t ∷ xs) ≡ true → Begins N t → ⊥
  type_begins (word l c) xs h b = size_is_none c b h
  type_begins (name l text) xs h b = cc
  type_begins (number l n) xs h b = cc
  type_begins (mark l c) xs h b = absurd cc
  type_begins (if_little l) xs h b = cc
  type_begins (if_big l) xs h b = cc
  type_begins (other l) xs h b = cc
  type_begins (end_if l) xs h b = cc

  pub type_no_up_to : {d : ℕ} {t : Tok} {xs zs : List Tok} {o : Option Expr} → begins_type N (t ∷ xs) ≡ true
      → UpTo N d (t ∷ xs) zs o → ⊥
  type_no_up_to h (nothing k) = absurd cc
  type_no_up_to {t = t} {xs = xs} h (something k d) = type_begins t xs h (begins_expr N d)

  type_no_first : (xs : List Tok) {d : ℕ} {zs : List Tok} {o : Option Expr} → begins_type N xs ≡ true
      → UpTo N d xs zs o → ⊥
  type_no_first [] h k = absurd cc
  type_no_first (t ∷ xs) h k = type_no_up_to h k

  to_declares : {xs zs : List Tok} {f : First} → begins_type N xs ≡ true → Firsts N xs zs f → (d : Declaration)
      × Declares N in_block xs zs d × (f ≡ tree.declares d)
  to_declares h (declares {d = d} k) = (d, k, refl)
  to_declares {xs = xs} h (evaluates k) = absurd (type_no_first xs h k)

  pub declares_rule : (xs : List Tok) → begins_type N xs ≡ true
      → Makes (Declares N in_block) xs (λ (d : Declaration). tree.declares d) (Firsts N) xs
  declares_rule xs h = record { to = λ f zs k. to_declares h k; from = λ d zs k. declares k }

  to_evaluates : {xs zs : List Tok} {f : First} → begins_type N xs ≡ false → Firsts N xs zs f → (o : Option Expr)
      × UpTo N semicolon xs zs o × (f ≡ tree.evaluates o)
  to_evaluates h (declares k) = let b = declares_begins k in absurd cc
  to_evaluates h (evaluates {e = o} k) = (o, k, refl)

  pub evaluates_rule : (xs : List Tok) → begins_type N xs ≡ false
      → Makes (UpTo N semicolon) xs (λ (o : Option Expr). tree.evaluates o) (Firsts N) xs
  evaluates_rule xs h = record { to = λ f zs k. to_evaluates h k; from = λ o zs k. evaluates k }

  -- ---- the parentheses of a `for`

  abbrev pub HeadingParts : List Tok → List Tok → First × (Option Expr × Option Expr) → Type 0
  HeadingParts = Both (Firsts N) (Both (UpTo N semicolon) (UpTo N right_paren))

  to_heading : {l c : ℕ} {xs zs : List Tok} {v : First × Option Expr × Option Expr} → Headings N (mark l c ∷ xs) zs v
      → (p : First × (Option Expr × Option Expr)) × HeadingParts xs zs p × (v ≡ (p.0, p.1.0, p.1.1))
  to_heading (heading {ys = ys} {zs = zs} {f = f} {e = e} {g = g} h a b d) = ((f, (e, g)), (ys, a, (zs, b, d)), refl)

  pub heading_rule : (l c : ℕ) (xs : List Tok) → c ≡ left_paren
      → Makes HeadingParts xs (λ (p : First × (Option Expr × Option Expr)). (p.0, p.1.0, p.1.1)) (Headings N)
      (mark l c ∷ xs)
  heading_rule l c xs h = record { to = λ v zs k. to_heading k; from = λ p zs k. heading h k.1 k.2.1 k.2.2 }

  heading_never : {xs zs : List Tok} {v : First × Option Expr × Option Expr} → Lacks left_paren xs → Headings N xs zs v
      → ⊥
  heading_never n (heading h a b d) = n h

  pub heading_lacking : (xs : List Tok) → Lacks left_paren xs → TakesNone (Headings N) xs
  heading_lacking xs n = record { never = λ v zs k. heading_never n k }
