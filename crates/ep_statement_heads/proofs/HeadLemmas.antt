-- Statements and what stands inside them, by their first token.
use Rattle.std.proofs.Common.{◌≡◌, ℕ, Bool, List, [], ◌∷◌, Option, refl, subst, arith}
use Rattle.ep_ast.specs.Token.{Tok, word, name, number, mark, if_little, if_big, other, end_if}
use Rattle.ep_ast.specs.Expression.{Expr}
use Rattle.ep_ast.specs.Statement as tree
use Rattle.ep_ast.specs.Statement.{First, Stmt, Part, to_parts}
use Rattle.ep_ast.specs.Mark.{do_word, for_word, if_word, while_word, left_brace}
use Rattle.ep_ast.specs.StatementGrammar.{nothing, something, InParens, States, block, evaluate, choose, repeat}
use Rattle.ep_ast.specs.StatementGrammar.{do_first, for_each, break_off, go_on, give_back, Parts}
use Rattle.ep_ast.specs.Reading.{Takes, TakesNone, Lacks}
use Rattle.ep_reading.specs.Look.{NoToken}
use Rattle.ep_simple_statements.specs.Piece.{do_end, Headings, heading, IsSimple, HasNoHead}
use Rattle.ep_statement_heads.specs.Around.{Outer, if_head, while_head, for_head, do_head}
use Rattle.ep_statement_heads.specs.Around.{Around, chosen, repeated, turned, done, Opens}
use Rattle.ep_reading.proofs.SequenceLemmas.{Makes}
use Rattle.ep_simple_statements.proofs.SimpleLemmas.{begins_expr, begins_not, word_up_to}

pub no_head_simple : (ts : List Tok) → HasNoHead ts → Lacks left_brace ts → IsSimple ts
no_head_simple [] h n = tt
no_head_simple (word l c ∷ ts) h n = h
no_head_simple (name l c ∷ ts) h n = tt
no_head_simple (number l c ∷ ts) h n = tt
no_head_simple (mark l c ∷ ts) h n = n
no_head_simple (if_little l ∷ ts) h n = tt
no_head_simple (if_big l ∷ ts) h n = tt
no_head_simple (other l ∷ ts) h n = tt
no_head_simple (end_if l ∷ ts) h n = tt

pub no_token_no_head : (ts : List Tok) → NoToken ts → HasNoHead ts
no_token_no_head [] n = tt
no_token_no_head (word l c ∷ ts) n = absurd n
no_token_no_head (name l c ∷ ts) n = tt
no_token_no_head (number l c ∷ ts) n = tt
no_token_no_head (mark l c ∷ ts) n = tt
no_token_no_head (if_little l ∷ ts) n = tt
no_token_no_head (if_big l ∷ ts) n = tt
no_token_no_head (other l ∷ ts) n = tt
no_token_no_head (end_if l ∷ ts) n = tt

module _ (N : List ℕ → Bool) where
  -- ---- heads

  -- one that begins with a piece, and a statement inside it
  pub record Inside {A : Type 0} (P : List Tok → List Tok → A → Type 0) (xs : List Tok) (head : A → Outer)
      (ws : List Tok) (u : Stmt) : Type 0 where
    pub value : A
    pub behind : List Tok
    pub inner : Stmt
    pub end : List Tok
    pub piece : P xs behind value
    pub states : States N behind end inner
    pub around : Around N (head value) inner end ws u

  pub record HeadRule {A : Type 0} (P : List Tok → List Tok → A → Type 0) (xs : List Tok) (head : A → Outer)
      (ts : List Tok) : Type 0 where
    pub to : (u : Stmt) (ws : List Tok) → States N ts ws u → Inside P xs head ws u
    pub from : (a : A) (s t : Stmt) (ys zs ws : List Tok) → P xs ys a → States N ys zs s → Around N (head a) s zs ws t
        → States N ts ws t

  pub opens : {A : Type 0} {P : List Tok → List Tok → A → Type 0} {xs : List Tok} {head : A → Outer} {ts ys : List Tok}
      {a : A} → HeadRule P xs head ts → Takes P xs a ys → Opens N ts (head a) ys
  opens {head = head} {ys = ys} {a = a} r k = record {
    forth = λ s t zs ws d e. r.from a s t ys zs ws k.holds d e;
    back = λ t ws d.
        let i = r.to t ws d in
        let q = k.only i.value i.behind i.piece in (
          i.inner,
          i.end,
          subst (λ (vs : List Tok). States N vs i.end i.inner) q.1 i.states,
          subst
              (λ (b : _). Around N (head b) i.inner i.end ws t) q.0 i.around,
        );
  }

  pub opens_none : {A : Type 0} {P : List Tok → List Tok → A → Type 0} {xs : List Tok} {head : A → Outer}
      {ts : List Tok} → HeadRule P xs head ts → TakesNone P xs → TakesNone (States N) ts
  opens_none r k = record { never = λ t ws d. let i = r.to t ws d in k.never i.value i.behind i.piece }

  to_if : {l c : ℕ} {xs ws : List Tok} {u : Stmt} → c ≡ if_word → States N (word l c ∷ xs) ws u
      → Inside (InParens N) xs (λ (e : Expr). if_head l e) ws u
  to_if h (choose {ys = ys} {zs = zs} {e = e} {s = s} k i d o) = record
      { value = e; behind = ys; inner = s; end = zs; piece = i; states = d; around = chosen o }
  to_if h (repeat k i d) = absurd (omega arith)
  to_if h (do_first k m f d i) = absurd (omega arith)
  to_if h (for_each k m f e g d) = absurd (omega arith)
  to_if h (break_off k m) = absurd (omega arith)
  to_if h (go_on k m) = absurd (omega arith)
  to_if h (give_back k d) = absurd (omega arith)
  to_if h (evaluate e) = let k = word_up_to N e in absurd (omega arith)

  if_from : {l c : ℕ} {xs ys zs ws : List Tok} {e : Expr} {s t : Stmt} → c ≡ if_word → InParens N xs ys e
      → States N ys zs s → Around N (if_head l e) s zs ws t → States N (word l c ∷ xs) ws t
  if_from h i d (chosen o) = choose h i d o

  pub if_rule : (l c : ℕ) (xs : List Tok) → c ≡ if_word → HeadRule (InParens N) xs (λ (e : Expr). if_head l e)
      (word l c ∷ xs)
  if_rule l c xs h = record { to = λ u ws d. to_if h d; from = λ a s t ys zs ws i d e. if_from h i d e }

  to_while : {l c : ℕ} {xs ws : List Tok} {u : Stmt} → c ≡ while_word → States N (word l c ∷ xs) ws u
      → Inside (InParens N) xs (λ (e : Expr). while_head l e) ws u
  to_while h (repeat {ys = ys} {zs = zs} {e = e} {s = s} k i d) = record
      { value = e; behind = ys; inner = s; end = zs; piece = i; states = d; around = repeated }
  to_while h (choose k i d o) = absurd (omega arith)
  to_while h (do_first k m f d i) = absurd (omega arith)
  to_while h (for_each k m f e g d) = absurd (omega arith)
  to_while h (break_off k m) = absurd (omega arith)
  to_while h (go_on k m) = absurd (omega arith)
  to_while h (give_back k d) = absurd (omega arith)
  to_while h (evaluate e) = let k = word_up_to N e in absurd (omega arith)

  while_from : {l c : ℕ} {xs ys zs ws : List Tok} {e : Expr} {s t : Stmt} → c ≡ while_word → InParens N xs ys e
      → States N ys zs s → Around N (while_head l e) s zs ws t → States N (word l c ∷ xs) ws t
  while_from h i d repeated = repeat h i d

  pub while_rule : (l c : ℕ) (xs : List Tok) → c ≡ while_word → HeadRule (InParens N) xs (λ (e : Expr). while_head l e)
      (word l c ∷ xs)
  while_rule l c xs h = record { to = λ u ws d. to_while h d; from = λ a s t ys zs ws i d e. while_from h i d e }

  to_for : {l c : ℕ} {xs ws : List Tok} {u : Stmt} → c ≡ for_word → States N (word l c ∷ xs) ws u
      → Inside (Headings N) xs (λ (p : First × Option Expr × Option Expr). for_head l p) ws u
  to_for h (for_each {ws = vs} {vs = us} {f = f} {e = e} {g = g} {s = s} k m i j n d) = record
      { value = (f, e, g); behind = vs; inner = s; end = us; piece = heading m i j n; states = d; around = turned }
  to_for h (choose k i d o) = absurd (omega arith)
  to_for h (repeat k i d) = absurd (omega arith)
  to_for h (do_first k m f d i) = absurd (omega arith)
  to_for h (break_off k m) = absurd (omega arith)
  to_for h (go_on k m) = absurd (omega arith)
  to_for h (give_back k d) = absurd (omega arith)
  to_for h (evaluate e) = let k = word_up_to N e in absurd (omega arith)

  for_from : {l c : ℕ} {xs ys zs ws : List Tok} {p : First × Option Expr × Option Expr} {s t : Stmt} → c ≡ for_word
      → Headings N xs ys p → States N ys zs s → Around N (for_head l p) s zs ws t → States N (word l c ∷ xs) ws t
  for_from h (heading m i j n) d turned = for_each h m i j n d

  pub for_rule : (l c : ℕ) (xs : List Tok) → c ≡ for_word
      → HeadRule (Headings N) xs (λ (p : First × Option Expr × Option Expr). for_head l p) (word l c ∷ xs)
  for_rule l c xs h = record { to = λ u ws d. to_for h d; from = λ a s t ys zs ws i d e. for_from h i d e }

  -- no piece
  pub data Same : List Tok → List Tok → ℕ → Type 0 where
    same : {xs : List Tok} → Same xs xs 0

  same_only : {xs ys : List Tok} {n : ℕ} → Same xs ys n → (n ≡ 0) × (ys ≡ xs)
  same_only same = (refl, refl)

  pub same_taken : (xs : List Tok) → Takes Same xs 0 xs
  same_taken xs = record { holds = same; only = λ n ys d. same_only d }

  to_do : {l c : ℕ} {xs ws : List Tok} {u : Stmt} → c ≡ do_word → States N (word l c ∷ xs) ws u
      → Inside Same xs (λ (n : ℕ). do_head l) ws u
  to_do {xs = xs} h (do_first {m = m} {d = d} {ys = ys} {s = s} k j f e i) = record {
    value = 0;
    behind = xs;
    inner = s;
    end = word m d ∷ ys;
    piece = same;
    states = e;
    around = done (do_end j f i);
  }
  to_do h (choose k i d o) = absurd (omega arith)
  to_do h (repeat k i d) = absurd (omega arith)
  to_do h (for_each k m f e g d) = absurd (omega arith)
  to_do h (break_off k m) = absurd (omega arith)
  to_do h (go_on k m) = absurd (omega arith)
  to_do h (give_back k d) = absurd (omega arith)
  to_do h (evaluate e) = let k = word_up_to N e in absurd (omega arith)

  do_from : {l c n : ℕ} {xs ys zs ws : List Tok} {s t : Stmt} → c ≡ do_word → Same xs ys n → States N ys zs s
      → Around N (do_head l) s zs ws t → States N (word l c ∷ xs) ws t
  do_from h same d (done (do_end j f i)) = do_first h j f d i

  pub do_rule : (l c : ℕ) (xs : List Tok) → c ≡ do_word → HeadRule Same xs (λ (n : ℕ). do_head l) (word l c ∷ xs)
  do_rule l c xs h = record { to = λ u ws d. to_do h d; from = λ a s t ys zs ws i d e. do_from h i d e }

  -- ---- blocks, and words that begin none of these

  to_block : {l c : ℕ} {xs ws : List Tok} {u : Stmt} → c ≡ left_brace → States N (mark l c ∷ xs) ws u
      → (ps : List Part) × Parts N xs ws ps × (u ≡ tree.block l (to_parts ps))
  to_block h (block {ps = ps} k d) = (ps, d, refl)
  to_block {l = l} {c = c} h (evaluate (nothing k)) = absurd (omega arith)
  to_block {l = l} {c = c} h (evaluate (something k d)) = absurd
      (begins_not N l c left_brace h refl refl refl (begins_expr N d))

  pub block_rule : (l c : ℕ) (xs : List Tok) → c ≡ left_brace
      → Makes (Parts N) xs (λ (ps : List Part). tree.block l (to_parts ps)) (States N) (mark l c ∷ xs)
  block_rule l c xs h = record { to = λ u ws d. to_block h d; from = λ ps ws k. block h k }

  pub word_no_head : (l c : ℕ) (xs ts : List Tok) → xs ≡ word l c ∷ ts → (c ≡ if_word → ⊥) → (c ≡ while_word → ⊥)
      → (c ≡ for_word → ⊥) → (c ≡ do_word → ⊥) → HasNoHead xs
  word_no_head l c xs ts e f g h d =
      let k : HasNoHead (word l c ∷ ts) = (f, g, h, d) in
      rw e k
