-- Expressions by their first token, and statements with no statement inside them.
use Rattle.std.proofs.Common.{◌≡◌, ℕ, Bool, true, false, List, ◌∷◌, Option, refl, sym, ◌∙◌, subst, arith, eq-eqb}
use Rattle.std.proofs.Common.{inl, inr, ◌⊎◌}
use Rattle.std.specs.Prelude.{◌==◌}
use Rattle.ep_ast.specs.Token.{Tok, word, name, number, mark, if_little, if_big, other, end_if, line_of}
use Rattle.ep_ast.specs.Expression.{Expr}
use Rattle.ep_ast.specs.Statement as tree
use Rattle.ep_ast.specs.Statement.{Stmt}
use Rattle.ep_ast.specs.Mark.{break_word, continue_word, return_word, sizeof_word, left_paren, semicolon}
use Rattle.ep_ast.specs.Grammar.{is_prefix, is_step, Rule, Derives, assigns, assigns_not, chooses, chooses_not, left}
use Rattle.ep_ast.specs.Grammar.{tighter, operand, casts, casts_not, steps, prefixed, sized, sized_type, unary_not}
use Rattle.ep_ast.specs.Grammar.{suffixed, suffixed_not, names, numbers, parens}
use Rattle.ep_ast.specs.StatementGrammar.{UpTo, something, States, block, evaluate, choose, repeat}
use Rattle.ep_ast.specs.StatementGrammar.{do_first, for_each, break_off, go_on, give_back}
use Rattle.ep_ast.specs.Reading.{TakesNone}
use Rattle.ep_reading.specs.Look.{NoToken}
use Rattle.ep_simple_statements.specs.Piece.{IsOther, IsSimple}
use Rattle.ep_reading.proofs.SequenceLemmas.{Makes, IsMark}

module _ (N : List ℕ → Bool) where
  -- ---- the first token of an expression

  abbrev pub Begins : Tok → Type 0
  Begins (word l c) = c ≡ sizeof_word
  Begins (name l text) = N text ≡ false
  Begins (number l n) = Unit {0}
  Begins (mark l c) = (c ≡ left_paren) ⊎ (is_prefix c ≡ true) ⊎ (is_step c ≡ true)
  Begins _ = ⊥

  pub begins_expr : {r : Rule} {t : Tok} {xs ys : List Tok} {u : Expr} → Derives N r (t ∷ xs) ys u → Begins t
  begins_expr (assigns h d e) = begins_expr d
  begins_expr (assigns_not d) = begins_expr d
  begins_expr (chooses j k d e f) = begins_expr d
  begins_expr (chooses_not d) = begins_expr d
  begins_expr (left q p d e) = begins_expr d
  begins_expr (tighter q d) = begins_expr d
  begins_expr (operand q d) = begins_expr d
  begins_expr (casts p t d) = inl p
  begins_expr (casts_not d) = begins_expr d
  begins_expr (steps p d) = inr (inr p)
  begins_expr (prefixed p d) = inr (inl p)
  begins_expr (sized p d) = p
  begins_expr (sized_type p q t) = p
  begins_expr (unary_not d) = begins_expr d
  begins_expr (suffixed d s) = begins_expr d
  begins_expr (suffixed_not d) = begins_expr d
  begins_expr (names h) = h
  begins_expr numbers = tt
  begins_expr (parens p q d) = inl p

  no_prefix : (c n : ℕ) → c ≡ n → is_prefix n ≡ false → is_prefix c ≡ true → ⊥
  no_prefix c n h e k = let f : is_prefix n ≡ true = rw h at k in cc

  no_step : (c n : ℕ) → c ≡ n → is_step n ≡ false → is_step c ≡ true → ⊥
  no_step c n h e k = let f : is_step n ≡ true = rw h at k in cc

  -- a mark that begins none
  pub begins_not : (l c n : ℕ) → c ≡ n → (n == left_paren) ≡ false → is_prefix n ≡ false → is_step n ≡ false
      → Begins (mark l c) → ⊥
  begins_not l c n h e f g b = elim b [
    | inl k ↦ (let q : (n == left_paren) ≡ true = eq-eqb n left_paren (sym h ∙ k) in absurd cc)
    | inr o ↦ elim o [ inl k ↦ absurd (no_prefix c n h f k) | inr k ↦ absurd (no_step c n h g k) ]
  ]

  pub word_up_to : {d l c : ℕ} {xs ys : List Tok} {o : Option Expr} → UpTo N d (word l c ∷ xs) ys o → c ≡ sizeof_word
  word_up_to (something k d) = begins_expr d

  -- ---- statements with no statement inside

  to_break : {l c : ℕ} {xs ws : List Tok} {u : Stmt} → c ≡ break_word → States N (word l c ∷ xs) ws u → (m : ℕ)
      × IsMark semicolon xs ws m × (u ≡ tree.break_loop l)
  to_break h (break_off {m = m} {d = d} k j) = (m, record { code = d; same = j; whole = refl }, refl)
  to_break h (choose k i d o) = absurd (omega arith)
  to_break h (repeat k i d) = absurd (omega arith)
  to_break h (do_first k m f d i) = absurd (omega arith)
  to_break h (for_each k m f e g d) = absurd (omega arith)
  to_break h (go_on k m) = absurd (omega arith)
  to_break h (give_back k d) = absurd (omega arith)
  to_break h (evaluate e) = let k = word_up_to e in absurd (omega arith)

  break_from : (l c m : ℕ) (xs ws : List Tok) → c ≡ break_word → IsMark semicolon xs ws m
      → States N (word l c ∷ xs) ws (tree.break_loop l)
  break_from l c m xs ws h k = subst (λ (ts : List Tok). States N (word l c ∷ ts) ws (tree.break_loop l)) (sym k.whole)
      (break_off h k.same)

  pub break_rule : (l c : ℕ) (xs : List Tok) → c ≡ break_word
      → Makes (IsMark semicolon) xs (λ (m : ℕ). tree.break_loop l) (States N) (word l c ∷ xs)
  break_rule l c xs h = record { to = λ u ws d. to_break h d; from = λ m ws k. break_from l c m xs ws h k }

  to_continue : {l c : ℕ} {xs ws : List Tok} {u : Stmt} → c ≡ continue_word → States N (word l c ∷ xs) ws u → (m : ℕ)
      × IsMark semicolon xs ws m × (u ≡ tree.continue_loop l)
  to_continue h (go_on {m = m} {d = d} k j) = (m, record { code = d; same = j; whole = refl }, refl)
  to_continue h (choose k i d o) = absurd (omega arith)
  to_continue h (repeat k i d) = absurd (omega arith)
  to_continue h (do_first k m f d i) = absurd (omega arith)
  to_continue h (for_each k m f e g d) = absurd (omega arith)
  to_continue h (break_off k m) = absurd (omega arith)
  to_continue h (give_back k d) = absurd (omega arith)
  to_continue h (evaluate e) = let k = word_up_to e in absurd (omega arith)

  continue_from : (l c m : ℕ) (xs ws : List Tok) → c ≡ continue_word → IsMark semicolon xs ws m
      → States N (word l c ∷ xs) ws (tree.continue_loop l)
  continue_from l c m xs ws h k = subst (λ (ts : List Tok). States N (word l c ∷ ts) ws (tree.continue_loop l))
      (sym k.whole) (go_on h k.same)

  pub continue_rule : (l c : ℕ) (xs : List Tok) → c ≡ continue_word
      → Makes (IsMark semicolon) xs (λ (m : ℕ). tree.continue_loop l) (States N) (word l c ∷ xs)
  continue_rule l c xs h = record { to = λ u ws d. to_continue h d; from = λ m ws k. continue_from l c m xs ws h k }

  to_return : {l c : ℕ} {xs ws : List Tok} {u : Stmt} → c ≡ return_word → States N (word l c ∷ xs) ws u
      → (o : Option Expr) × UpTo N semicolon xs ws o × (u ≡ tree.return_value l o)
  to_return h (give_back {e = o} k d) = (o, d, refl)
  to_return h (choose k i d o) = absurd (omega arith)
  to_return h (repeat k i d) = absurd (omega arith)
  to_return h (do_first k m f d i) = absurd (omega arith)
  to_return h (for_each k m f e g d) = absurd (omega arith)
  to_return h (break_off k m) = absurd (omega arith)
  to_return h (go_on k m) = absurd (omega arith)
  to_return h (evaluate e) = let k = word_up_to e in absurd (omega arith)

  pub return_rule : (l c : ℕ) (xs : List Tok) → c ≡ return_word
      → Makes (UpTo N semicolon) xs (λ (o : Option Expr). tree.return_value l o) (States N) (word l c ∷ xs)
  return_rule l c xs h = record { to = λ u ws d. to_return h d; from = λ o ws k. give_back h k }

  to_evaluate : {t : Tok} {xs ws : List Tok} {u : Stmt} → IsOther (t ∷ xs) → States N (t ∷ xs) ws u → (o : Option Expr)
      × UpTo N semicolon (t ∷ xs) ws o × (u ≡ tree.evaluate (line_of t) o)
  to_evaluate h (evaluate {e = o} d) = (o, d, refl)
  to_evaluate h (block k d) = absurd (h k)
  to_evaluate h (choose k i d o) = absurd (h.0 k)
  to_evaluate h (repeat k i d) = absurd (h.1 k)
  to_evaluate h (for_each k m f e g d) = absurd (h.2 k)
  to_evaluate h (do_first k m f d i) = absurd (h.3 k)
  to_evaluate h (break_off k m) = absurd (h.4 k)
  to_evaluate h (go_on k m) = absurd (h.5 k)
  to_evaluate h (give_back k d) = absurd (h.6 k)

  pub evaluate_rule : (t : Tok) (xs : List Tok) → IsOther (t ∷ xs)
      → Makes (UpTo N semicolon) (t ∷ xs) (λ (o : Option Expr). tree.evaluate (line_of t) o) (States N) (t ∷ xs)
  evaluate_rule t xs h = record { to = λ u ws d. to_evaluate h d; from = λ o ws k. evaluate k }

  pub evaluate_at : (l : ℕ) (t : Tok) (xs ts : List Tok) → xs ≡ t ∷ ts → l ≡ line_of t → IsOther xs
      → Makes (UpTo N semicolon) xs (λ (o : Option Expr). tree.evaluate l o) (States N) xs
  evaluate_at l t xs ts e k h =
      let h' : IsOther (t ∷ ts) = rw e at h in
      rw (e, k) (evaluate_rule t ts h')

  -- a word or a mark of which this is known
  pub word_other : (l c : ℕ) (xs ts : List Tok) → xs ≡ word l c ∷ ts → IsSimple xs → (c ≡ break_word → ⊥)
      → (c ≡ continue_word → ⊥) → (c ≡ return_word → ⊥) → IsOther xs
  word_other l c xs ts e h a b d =
      let h' : IsSimple (word l c ∷ ts) = rw e at h in
      let k : IsOther (word l c ∷ ts) = (h'.0, h'.1, h'.2, h'.3, a, b, d) in
      rw e k

  pub mark_other : (l c : ℕ) (xs ts : List Tok) → xs ≡ mark l c ∷ ts → IsSimple xs → IsOther xs
  mark_other l c xs ts e h =
      let h' : IsSimple (mark l c ∷ ts) = rw e at h in
      let k : IsOther (mark l c ∷ ts) = h' in
      rw e k

  none_stated : {ts ws : List Tok} {u : Stmt} → NoToken ts → States N ts ws u → ⊥
  none_stated n (block k d) = n
  none_stated n (evaluate {t = word l c} d) = n
  none_stated n (evaluate {t = name l c} d) = n
  none_stated n (evaluate {t = number l c} d) = n
  none_stated n (evaluate {t = mark l c} d) = n
  none_stated n (evaluate {t = if_little l} (something k d)) = begins_expr d
  none_stated n (evaluate {t = if_big l} (something k d)) = begins_expr d
  none_stated n (evaluate {t = other l} (something k d)) = begins_expr d
  none_stated n (evaluate {t = end_if l} (something k d)) = begins_expr d
  none_stated n (choose k i d o) = n
  none_stated n (repeat k i d) = n
  none_stated n (do_first k m f d i) = n
  none_stated n (for_each k m f g e d) = n
  none_stated n (break_off k m) = n
  none_stated n (go_on k m) = n
  none_stated n (give_back k d) = n

  pub no_token_stated : (ts : List Tok) → NoToken ts → TakesNone (States N) ts
  no_token_stated ts n = record { never = λ u ws d. none_stated n d }
