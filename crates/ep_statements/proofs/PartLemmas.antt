-- Parts of blocks and statements by byte order, read one after the other.
use Rattle.std.proofs.Common.{◌≡◌, ℕ, Bool, true, false, List, [], ◌∷◌, ◌++◌, Option, Some, None, refl, sym, ap, ◌∙◌}
use Rattle.std.proofs.Common.{subst, append_assoc, arith}
use Rattle.std.specs.Prelude.{◌||◌}
use Rattle.std.proofs.lemmas.List.{append-nil}
use Rattle.ep_ast.specs.declared.orders.NamedOrder.{NamedOrder}
use Rattle.ep_ast.specs.declared.orders.NamedOrder.TheVariants.{Little, Big}
use Rattle.ep_ast.specs.Token.{Tok, word, name, number, mark, if_little, if_big, other, end_if}
use Rattle.ep_ast.specs.Statement as tree
use Rattle.ep_ast.specs.Statement.{Stmt, Stmts, Part, Block, to_stmts, make_arms}
use Rattle.ep_ast.specs.Declaration.{Declaration}
use Rattle.ep_ast.specs.Mark.{break_word, continue_word, do_word, for_word, if_word, return_word, while_word}
use Rattle.ep_ast.specs.Mark.{left_brace, right_brace}
use Rattle.ep_ast.specs.TypeWords.{is_type_word, is_tag_word, begins_type}
use Rattle.ep_ast.specs.DeclarationGrammar.{in_block, Declares}
use Rattle.ep_ast.specs.StatementGrammar.{nothing, something, little, big, States, block, evaluate, choose, repeat}
use Rattle.ep_ast.specs.StatementGrammar.{do_first, for_each, break_off, go_on, give_back, Parts, no_parts, more_parts}
use Rattle.ep_ast.specs.StatementGrammar.{OnePart, declaration, statement, arms, Statements, before_else, before_end}
use Rattle.ep_ast.specs.StatementGrammar.{more_statements, OtherArm, no_other, another, Blocks, braces}
use Rattle.ep_ast.specs.Reading.{Takes, TakesNone, Lacks, AtMark}
use Rattle.ep_statement_parts.specs.View.{body}
use Rattle.ep_ast.specs.Cut.{order_token}
use Rattle.ep_reading.specs.Look.{LacksIf, LacksElse, LacksEndIf, ends_arm}
use Rattle.ep_reading.proofs.SequenceLemmas.{Both, Makes}
use Rattle.ep_simple_statements.proofs.SimpleLemmas.{begins_expr, begins_not}
use Rattle.ep_simple_statements.proofs.PieceLemmas.{declares_begins, type_no_up_to}

no_type_word : (c n : ℕ) → c ≡ n → (is_type_word n || is_tag_word n) ≡ false → (is_type_word c || is_tag_word c) ≡ true
    → ⊥
no_type_word c n h e k = let f : (is_type_word n || is_tag_word n) ≡ true = rw h at k in cc

module _ (N : List ℕ → Bool) where
  -- ---- what no statement begins with

  pub type_no_state : {ts ws : List Tok} {u : Stmt} → begins_type N ts ≡ true → States N ts ws u → ⊥
  type_no_state h (block k d) = absurd cc
  type_no_state h (evaluate d) = type_no_up_to N h d
  type_no_state h (choose {c = c} k i d o) = no_type_word c if_word k refl h
  type_no_state h (repeat {c = c} k i d) = no_type_word c while_word k refl h
  type_no_state h (do_first {c = c} k m f d i) = no_type_word c do_word k refl h
  type_no_state h (for_each {c = c} k m f e g d) = no_type_word c for_word k refl h
  type_no_state h (break_off {c = c} k m) = no_type_word c break_word k refl h
  type_no_state h (go_on {c = c} k m) = no_type_word c continue_word k refl h
  type_no_state h (give_back {c = c} k d) = no_type_word c return_word k refl h

  little_no_state : {l : ℕ} {xs ws : List Tok} {u : Stmt} → States N (if_little l ∷ xs) ws u → ⊥
  little_no_state (evaluate (something k d)) = begins_expr N d

  big_no_state : {l : ℕ} {xs ws : List Tok} {u : Stmt} → States N (if_big l ∷ xs) ws u → ⊥
  big_no_state (evaluate (something k d)) = begins_expr N d

  other_no_state : {l : ℕ} {xs ws : List Tok} {u : Stmt} → States N (other l ∷ xs) ws u → ⊥
  other_no_state (evaluate (something k d)) = begins_expr N d

  end_no_state : {l : ℕ} {xs ws : List Tok} {u : Stmt} → States N (end_if l ∷ xs) ws u → ⊥
  end_no_state (evaluate (something k d)) = begins_expr N d

  close_no_state : {l c : ℕ} {xs ws : List Tok} {u : Stmt} → c ≡ right_brace → States N (mark l c ∷ xs) ws u → ⊥
  close_no_state h (block k d) = absurd (omega arith)
  close_no_state h (evaluate (nothing k)) = absurd (omega arith)
  close_no_state {l = l} {c = c} h (evaluate (something k d)) = begins_not N l c right_brace h refl refl refl
      (begins_expr N d)

  close_no_part : {l c : ℕ} {xs ws : List Tok} {p : Part} → c ≡ right_brace → OnePart N (mark l c ∷ xs) ws p → ⊥
  close_no_part h (declaration d) = let b = declares_begins N d in absurd cc
  close_no_part h (statement d) = close_no_state h d
  close_no_part h (arms k d o) = elim k [ ]

  -- ---- the parts of a block

  pub record PartsSo (xs : List Tok) (front : List Part) (ys : List Tok) : Type 0 where
    pub forth : (zs : List Tok) (ps : List Part) → Parts N ys zs ps → Parts N xs zs (front ++ ps)
    pub back : (zs : List Tok) (ps : List Part) → Parts N xs zs ps → (more : List Part) × (ps ≡ front ++ more)
        × Parts N ys zs more

  pub parts_begin : (xs : List Tok) → PartsSo xs [] xs
  parts_begin xs = record { forth = λ zs ps d. d; back = λ zs ps d. (ps, refl, d) }

  one_part : (front : List Part) {ys ws zs : List Tok} {p : Part} {ps rest : List Part} → Takes (OnePart N) ys p ws
      → ps ≡ front ++ rest → Parts N ys zs rest → (more : List Part) × (ps ≡ (front ++ p ∷ []) ++ more)
      × Parts N ws zs more
  one_part front {ws = ws} {p = p} k e (no_parts h) = absurd (close_no_part h k.holds)
  one_part front {ws = ws} {zs = zs} {p = p} k e (more_parts {ys = us} {p = q} {ps = qs} o d) =
      let f = k.only q us o in (
        qs,
        e ∙ ap (λ (r : Part). front ++ r ∷ qs) f.0 ∙ sym (append_assoc front (p ∷ []) qs),
        subst
            (λ (ts : List Tok). Parts N ts zs qs) f.1 d,
      )

  pub part_step : (xs ys zs : List Tok) (front : List Part) (p : Part) → PartsSo xs front ys
      → Takes (OnePart N) ys p zs → PartsSo xs (front ++ p ∷ []) zs
  part_step xs ys zs front p s k = record {
    forth = λ us ps d. rw append_assoc (s.forth us (p ∷ ps) (more_parts k.holds d));
    back = λ us ps d. let q = s.back us ps d in one_part front k q.1 q.2;
  }

  at_close : (front : List Part) {l c : ℕ} {ys zs : List Tok} {ps rest : List Part} → c ≡ right_brace
      → ps ≡ front ++ rest → Parts N (mark l c ∷ ys) zs rest → (ps ≡ front ++ []) × (zs ≡ ys)
  at_close front h e (no_parts k) = (e, refl)
  at_close front h e (more_parts o d) = absurd (close_no_part h o)

  pub parts_done : (xs ys zs : List Tok) (front : List Part) (l : ℕ) → PartsSo xs front ys
      → AtMark right_brace ys (Some (l, zs)) → Takes (Parts N) xs front zs
  parts_done xs ys zs front l s k =
      let s' : PartsSo xs front (mark l k.0 ∷ zs) = rw k.2 at s in
      subst (λ (ps : List Part). Takes (Parts N) xs ps zs) (append-nil front)
      (record {
        holds = s'.forth zs [] (no_parts k.1);
        only = λ ps us d. let q = s'.back us ps d in at_close front
            k.1 q.1 q.2;
      })

  part_never : {ys zs : List Tok} {ps : List Part} → Lacks right_brace ys → TakesNone (OnePart N) ys → Parts N ys zs ps
      → ⊥
  part_never n k (no_parts h) = n h
  part_never n k (more_parts {ys = us} {p = p} o d) = k.never p us o

  pub part_refused : (xs ys : List Tok) (front : List Part) → PartsSo xs front ys → Lacks right_brace ys
      → TakesNone (OnePart N) ys → TakesNone (Parts N) xs
  part_refused xs ys front s n k = record { never = λ ps zs d. let q = s.back zs ps d in part_never n k q.2 }

  -- ---- the statements of an arm

  pub record StatementsSo (xs : List Tok) (front : List Stmt) (ys : List Tok) : Type 0 where
    pub forth : (zs : List Tok) (ss : List Stmt) → Statements N ys zs ss → Statements N xs zs (front ++ ss)
    pub back : (zs : List Tok) (ss : List Stmt) → Statements N xs zs ss → (more : List Stmt) × (ss ≡ front ++ more)
        × Statements N ys zs more

  pub statements_begin : (xs : List Tok) → StatementsSo xs [] xs
  statements_begin xs = record { forth = λ zs ss d. d; back = λ zs ss d. (ss, refl, d) }

  one_statement : (front : List Stmt) {ys ws zs : List Tok} {s : Stmt} {ss rest : List Stmt} → Takes (States N) ys s ws
      → ss ≡ front ++ rest → Statements N ys zs rest → (more : List Stmt) × (ss ≡ (front ++ s ∷ []) ++ more)
      × Statements N ws zs more
  one_statement front k e before_else = absurd (other_no_state k.holds)
  one_statement front k e before_end = absurd (end_no_state k.holds)
  one_statement front {zs = zs} {s = s} k e (more_statements {ys = us} {s = t} {ss = ts} o d) =
      let f = k.only t us o in (
        ts,
        e ∙ ap (λ (r : Stmt). front ++ r ∷ ts) f.0 ∙ sym (append_assoc front (s ∷ []) ts),
        subst
            (λ (vs : List Tok). Statements N vs zs ts) f.1 d,
      )

  pub statement_step : (xs ys zs : List Tok) (front : List Stmt) (s : Stmt) → StatementsSo xs front ys
      → Takes (States N) ys s zs → StatementsSo xs (front ++ s ∷ []) zs
  statement_step xs ys zs front s r k = record {
    forth = λ us ss d. rw append_assoc (r.forth us (s ∷ ss) (more_statements k.holds d));
    back = λ us ss d. let q = r.back us ss d in one_statement front k q.1 q.2;
  }

  at_arm_end : (front : List Stmt) {ys zs : List Tok} {ss rest : List Stmt} → ends_arm ys ≡ true → ss ≡ front ++ rest
      → Statements N ys zs rest → (ss ≡ front ++ []) × (zs ≡ ys)
  at_arm_end front h e before_else = (e, refl)
  at_arm_end front h e before_end = (e, refl)
  at_arm_end front h e (more_statements (block k d) r) = absurd cc
  at_arm_end front h e (more_statements (evaluate {t = word l c} d) r) = absurd cc
  at_arm_end front h e (more_statements (evaluate {t = name l c} d) r) = absurd cc
  at_arm_end front h e (more_statements (evaluate {t = number l c} d) r) = absurd cc
  at_arm_end front h e (more_statements (evaluate {t = mark l c} d) r) = absurd cc
  at_arm_end front h e (more_statements (evaluate {t = if_little l} d) r) = absurd cc
  at_arm_end front h e (more_statements (evaluate {t = if_big l} d) r) = absurd cc
  at_arm_end front h e (more_statements (evaluate {t = other l} d) r) = absurd (other_no_state (evaluate d))
  at_arm_end front h e (more_statements (evaluate {t = end_if l} d) r) = absurd (end_no_state (evaluate d))
  at_arm_end front h e (more_statements (choose k i d o) r) = absurd cc
  at_arm_end front h e (more_statements (repeat k i d) r) = absurd cc
  at_arm_end front h e (more_statements (do_first k m f d i) r) = absurd cc
  at_arm_end front h e (more_statements (for_each k m f n g d) r) = absurd cc
  at_arm_end front h e (more_statements (break_off k m) r) = absurd cc
  at_arm_end front h e (more_statements (go_on k m) r) = absurd cc
  at_arm_end front h e (more_statements (give_back k d) r) = absurd cc

  arm_ends : (ys : List Tok) → ends_arm ys ≡ true → Statements N ys ys []
  arm_ends [] h = absurd cc
  arm_ends (word l c ∷ ts) h = absurd cc
  arm_ends (name l c ∷ ts) h = absurd cc
  arm_ends (number l c ∷ ts) h = absurd cc
  arm_ends (mark l c ∷ ts) h = absurd cc
  arm_ends (if_little l ∷ ts) h = absurd cc
  arm_ends (if_big l ∷ ts) h = absurd cc
  arm_ends (other l ∷ ts) h = before_else
  arm_ends (end_if l ∷ ts) h = before_end

  pub statements_done : (xs ys : List Tok) (front : List Stmt) → StatementsSo xs front ys → ends_arm ys ≡ true
      → Takes (Statements N) xs front ys
  statements_done xs ys front r h = subst (λ (ss : List Stmt). Takes (Statements N) xs ss ys) (append-nil front)
      (record {
        holds = r.forth ys [] (arm_ends ys h);
        only = λ ss us d. let q = r.back us ss d in at_arm_end front h
            q.1 q.2;
      })

  statement_never : {ys zs : List Tok} {ss : List Stmt} → ends_arm ys ≡ false → TakesNone (States N) ys
      → Statements N ys zs ss → ⊥
  statement_never h k before_else = absurd cc
  statement_never h k before_end = absurd cc
  statement_never h k (more_statements {ys = us} {s = s} o d) = k.never s us o

  pub statement_refused : (xs ys : List Tok) (front : List Stmt) → StatementsSo xs front ys → ends_arm ys ≡ false
      → TakesNone (States N) ys → TakesNone (Statements N) xs
  statement_refused xs ys front r h k = record { never = λ ss zs d. let q = r.back zs ss d in statement_never h k q.2 }

  -- ---- the arm behind an `#else`

  -- the end of it, with its line
  pub data IsEnd : List Tok → List Tok → ℕ → Type 0 where
    is_end : {l : ℕ} {xs : List Tok} → IsEnd (end_if l ∷ xs) xs l

  end_only : {l m : ℕ} {xs zs : List Tok} → IsEnd (end_if l ∷ xs) zs m → (m ≡ l) × (zs ≡ xs)
  end_only is_end = (refl, refl)

  pub end_taken : (l : ℕ) (xs ys : List Tok) → xs ≡ end_if l ∷ ys → Takes IsEnd xs l ys
  end_taken l xs ys h = rw h (record { holds = is_end; only = λ m zs d. end_only d })

  end_never : {m : ℕ} {xs zs : List Tok} → LacksEndIf xs → IsEnd xs zs m → ⊥
  end_never n is_end = n

  pub end_lacking : (xs : List Tok) → LacksEndIf xs → TakesNone IsEnd xs
  end_lacking xs n = record { never = λ m zs d. end_never n d }

  no_other_only : {l : ℕ} {xs zs : List Tok} {o : Option Stmts} → OtherArm N (end_if l ∷ xs) zs o → (o ≡ None)
      × (zs ≡ xs)
  no_other_only no_other = (refl, refl)

  pub no_other_taken : (l : ℕ) (xs ys : List Tok) → xs ≡ end_if l ∷ ys → Takes (OtherArm N) xs None ys
  no_other_taken l xs ys h = rw h (record { holds = no_other; only = λ o zs d. no_other_only d })

  to_another : {l : ℕ} {xs zs : List Tok} {o : Option Stmts} → OtherArm N (other l ∷ xs) zs o → (p : List Stmt × ℕ)
      × Both (Statements N) IsEnd xs zs p × (o ≡ Some (to_stmts p.0))
  to_another {zs = zs} (another {m = m} {ss = ss} d) = ((ss, m), (end_if m ∷ zs, d, is_end), refl)

  another_from : {l n : ℕ} {xs ys zs : List Tok} {ss : List Stmt} → Statements N xs ys ss → IsEnd ys zs n
      → OtherArm N (other l ∷ xs) zs (Some (to_stmts ss))
  another_from d is_end = another d

  pub another_rule : (l : ℕ) (xs : List Tok)
      → Makes (Both (Statements N) IsEnd) xs (λ (p : List Stmt × ℕ). Some (to_stmts p.0)) (OtherArm N) (other l ∷ xs)
  another_rule l xs = record { to = λ o zs d. to_another d; from = λ p zs d. another_from d.1 d.2 }

  other_arm_never : {xs zs : List Tok} {o : Option Stmts} → LacksElse xs → LacksEndIf xs → OtherArm N xs zs o → ⊥
  other_arm_never n k no_other = k
  other_arm_never n k (another d) = n

  pub other_arm_lacking : (xs : List Tok) → LacksElse xs → LacksEndIf xs → TakesNone (OtherArm N) xs
  other_arm_lacking xs n k = record { never = λ o zs d. other_arm_never n k d }

  -- ---- one part

  to_declared : {xs zs : List Tok} {p : Part} → begins_type N xs ≡ true → OnePart N xs zs p → (d : Declaration)
      × Declares N in_block xs zs d × (p ≡ tree.declares_in d)
  to_declared h (declaration {d = d} k) = (d, k, refl)
  to_declared h (statement k) = absurd (type_no_state h k)
  to_declared h (arms little d o) = absurd cc
  to_declared h (arms big d o) = absurd cc

  pub declared_rule : (xs : List Tok) → begins_type N xs ≡ true
      → Makes (Declares N in_block) xs (λ (d : Declaration). tree.declares_in d) (OnePart N) xs
  declared_rule xs h = record { to = λ p zs d. to_declared h d; from = λ v zs d. declaration d }

  to_stated : {xs zs : List Tok} {p : Part} → begins_type N xs ≡ false → LacksIf xs → OnePart N xs zs p → (s : Stmt)
      × States N xs zs s × (p ≡ tree.states s)
  to_stated h n (declaration k) = let b = declares_begins N k in absurd cc
  to_stated h n (statement {s = s} k) = (s, k, refl)
  to_stated h n (arms little d o) = absurd n
  to_stated h n (arms big d o) = absurd n

  pub stated_rule : (xs : List Tok) → begins_type N xs ≡ false → LacksIf xs
      → Makes (States N) xs (λ (s : Stmt). tree.states s) (OnePart N) xs
  stated_rule xs h n = record { to = λ p zs d. to_stated h n d; from = λ s zs d. statement d }

  abbrev pub ArmParts : List Tok → List Tok → List Stmt × Option Stmts → Type 0
  ArmParts = Both (Statements N) (OtherArm N)

  to_little : {l : ℕ} {xs zs : List Tok} {p : Part} → OnePart N (if_little l ∷ xs) zs p
      → (q : List Stmt × Option Stmts) × ArmParts xs zs q × (p ≡ make_arms l Little (to_stmts q.0) q.1)
  to_little (declaration k) = let b = declares_begins N k in absurd cc
  to_little (statement k) = absurd (little_no_state k)
  to_little (arms {ys = ys} {ss = ss} {ts = ts} little d o) = ((ss, ts), (ys, d, o), refl)

  to_big : {l : ℕ} {xs zs : List Tok} {p : Part} → OnePart N (if_big l ∷ xs) zs p → (q : List Stmt × Option Stmts)
      × ArmParts xs zs q × (p ≡ make_arms l Big (to_stmts q.0) q.1)
  to_big (declaration k) = let b = declares_begins N k in absurd cc
  to_big (statement k) = absurd (big_no_state k)
  to_big (arms {ys = ys} {ss = ss} {ts = ts} big d o) = ((ss, ts), (ys, d, o), refl)

  pub arms_rule : (l : ℕ) (o : NamedOrder) (xs : List Tok)
      → Makes ArmParts xs (λ (q : List Stmt × Option Stmts). make_arms l o (to_stmts q.0) q.1) (OnePart N)
      (order_token o l ∷ xs)
  arms_rule l Little xs = record { to = λ p zs d. to_little d; from = λ q zs d. arms little d.1 d.2 }
  arms_rule l Big xs = record { to = λ p zs d. to_big d; from = λ q zs d. arms big d.1 d.2 }

  -- ---- the body of a function

  to_braces : {l c : ℕ} {xs zs : List Tok} {b : Block} → Blocks N (mark l c ∷ xs) zs b → (ps : List Part)
      × Parts N xs zs ps × (b ≡ body l ps)
  to_braces (braces {ps = ps} h d) = (ps, d, refl)

  pub braces_rule : (l c : ℕ) (xs : List Tok) → c ≡ left_brace → Makes (Parts N) xs (body l) (Blocks N) (mark l c ∷ xs)
  braces_rule l c xs h = record { to = λ b zs d. to_braces d; from = λ ps zs d. braces h d }

  braces_never : {xs zs : List Tok} {b : Block} → Lacks left_brace xs → Blocks N xs zs b → ⊥
  braces_never n (braces h d) = n h

  pub braces_lacking : (xs : List Tok) → Lacks left_brace xs → TakesNone (Blocks N) xs
  braces_lacking xs n = record { never = λ b zs d. braces_never n d }
