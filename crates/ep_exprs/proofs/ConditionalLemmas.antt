-- Conditionals and assignments.
use Rattle.std.proofs.Common.{◌≡◌, ℕ, zero, suc, ◌+◌, ◌<◌, Bool, true, false, List, ◌∷◌, Some, refl, sym, subst, arith}
use Rattle.std.proofs.lemmas.Bool.{or_right}
use Rattle.std.specs.Prelude.{◌==◌, nat_le, ◌||◌}
use Rattle.ep_ast.specs.Token.{Tok, mark}
use Rattle.ep_ast.specs.Expression as tree
use Rattle.ep_ast.specs.Expression.{Expr, line_of}
use Rattle.ep_ast.specs.Mark.{question, colon}
use Rattle.ep_ast.specs.Grammar.{level, is_assignment, expr, cond, bin, cast, unary, Derives, assigns, assigns_not}
use Rattle.ep_ast.specs.Grammar.{chooses, chooses_not, casts_not}
use Rattle.ep_ast.specs.Reading.{is_suffix, goes_on, Ends, Reads, Refuses, Lacks, AtMark}
use Rattle.ep_exprs.specs.Look.{NotAt, AtAssignment, begins_cast, begins_assignment}
use Rattle.ep_exprs.specs.Pending.{NoAssignment}
use Rattle.ep_reading.proofs.FirstLemmas.{tail_is, code_is, lacks_is}
use Rattle.ep_exprs.proofs.MarkLemmas.{ends_at_question, ends_at_colon, ends_at_assignment, ends_binary, ends_cond}
use Rattle.ep_exprs.proofs.MarkLemmas.{ends_cast, assigns_only}
use Rattle.ep_exprs.proofs.LevelLemmas.{operand_read, refused_level, level_begins, level_done}
use Rattle.ep_exprs.proofs.OperandLemmas.{no_unary, unary_read}

tested : (l c : ℕ) (ts : List Tok) → c ≡ question → Ends cond (mark l c ∷ ts) → ⊥
tested l c ts h e = let f : goes_on cond question ≡ false = rw h at e in cc

assigned : (l c : ℕ) (ts : List Tok) → is_assignment c ≡ true → Ends expr (mark l c ∷ ts) → ⊥
assigned l c ts h e = let k = or_right (is_suffix c || nat_le 1 (level c) || c == question) (is_assignment c) h in cc

module _ (N : List ℕ → Bool) where
  -- ---- conditionals

  as_binary : {xs ys zs : List Tok} {a u : Expr} → Reads N (bin 1) xs a ys → Lacks question ys → Derives N cond xs zs u
      → Derives N (bin 1) xs zs u
  as_binary {ys = ys} r n (chooses {l = l} {c = c} {ys = ws} {a = a'} h k d e f) = let q =
      r.only a' (mark l c ∷ ws) d (ends_at_question l c ws h) in absurd (lacks_is l c question ys ws n (sym q.1) h)
  as_binary r n (chooses_not d) = d

  pub choice_none : (xs ys : List Tok) (a : Expr) → Reads N (bin 1) xs a ys → Lacks question ys → Reads N cond xs a ys
  choice_none xs ys a r n = record {
    derives = chooses_not r.derives;
    only = λ u zs d e. r.only u zs (as_binary r n d) (ends_binary zs e);
  }

  test_never : {xs zs : List Tok} {u : Expr} → Refuses N (bin 1) xs → Derives N cond xs zs u → Ends cond zs → ⊥
  test_never r (chooses {l = l} {c = c} {ys = ws} {a = a'} h k d e f) o =
      r.never a' (mark l c ∷ ws) d (ends_at_question l c ws h)
  test_never r (chooses_not {ys = zs} {a = u} d) o = r.never u zs d (ends_binary zs o)

  pub test_refused : (xs : List Tok) → Refuses N (bin 1) xs → Refuses N cond xs
  test_refused xs r = record { never = λ u zs d e. test_never r d e }

  -- where `?` stands behind a test nothing else ends
  ends_not : {l c : ℕ} {xs ys zs : List Tok} {a u : Expr} → c ≡ question → Reads N (bin 1) xs a (mark l c ∷ ys)
      → Derives N (bin 1) xs zs u → Ends cond zs → ⊥
  ends_not {l = l} {c = c} {ys = ys} {zs = zs} {u = u} h r d e =
      let q = r.only u zs d (ends_binary zs e) in
      tested l c ys h (subst (λ (ts : List Tok). Ends cond ts) q.1 e)

  choice_only : {l c m d : ℕ} {xs ys zs vs ws : List Tok} {a b e u : Expr} → c ≡ question → d ≡ colon
      → Reads N (bin 1) xs a (mark l c ∷ ys) → Reads N expr ys b (mark m d ∷ zs) → Reads N cond zs e vs
      → Derives N cond xs ws u → Ends cond ws → (u ≡ tree.conditional (line_of a) a b e) × (ws ≡ vs)
  choice_only h k r s t (chooses {l = l'} {c = c'} {m = m'} {d = d'} {ys = ys'} {zs = zs'} {ws = ws} {a = a'} {b = b'}
      {e = e'} h' k' d1 d2 d3) o =
      let p = r.only a' (mark l' c' ∷ ys') d1 (ends_at_question l' c' ys' h') in
      let q = s.only b' (mark m' d' ∷ zs') (rw (tail_is p.1) at d2) (ends_at_colon m' d' zs' k') in
      let j = t.only e' ws (rw (tail_is q.1) at d3) o in
      (rw (p.0, q.0, j.0) refl, j.1)
  choice_only h k r s t (chooses_not d) o = absurd (ends_not h r d o)

  pub choice_read : (xs ys zs ws vs us : List Tok) (l m : ℕ) (a b e : Expr) → Reads N (bin 1) xs a ys
      → AtMark question ys (Some (l, zs)) → Reads N expr zs b ws → AtMark colon ws (Some (m, vs)) → Reads N cond vs e us
      → Reads N cond xs (tree.conditional (line_of a) a b e) us
  choice_read xs ys zs ws vs us l m a b e r h s k t =
      let r' : Reads N (bin 1) xs a (mark l h.0 ∷ zs) = rw h.2 at r in
      let s' : Reads N expr zs b (mark m k.0 ∷ vs) = rw k.2 at s in
      record {
        derives = chooses h.1 k.1 r'.derives s'.derives t.derives;
        only = λ u ts d o. choice_only h.1 k.1 r' s' t d o;
      }

  yes_never : {l c : ℕ} {xs ys ws : List Tok} {a u : Expr} → c ≡ question → Reads N (bin 1) xs a (mark l c ∷ ys)
      → Refuses N expr ys → Derives N cond xs ws u → Ends cond ws → ⊥
  yes_never h r s (chooses {l = l'} {c = c'} {m = m'} {d = d'} {ys = ys'} {zs = zs'} {a = a'} {b = b'} h' k' d1 d2 d3)
      o =
      let p = r.only a' (mark l' c' ∷ ys') d1 (ends_at_question l' c' ys' h') in
      s.never b' (mark m' d' ∷ zs') (rw (tail_is p.1) at d2) (ends_at_colon m' d' zs' k')
  yes_never h r s (chooses_not d) o = ends_not h r d o

  pub yes_refused : (xs ys zs : List Tok) (l : ℕ) (a : Expr) → Reads N (bin 1) xs a ys
      → AtMark question ys (Some (l, zs)) → Refuses N expr zs → Refuses N cond xs
  yes_refused xs ys zs l a r h s = let r' : Reads N (bin 1) xs a (mark l h.0 ∷ zs) = rw h.2 at r in
      record { never = λ u ws d o. yes_never h.1 r' s d o }

  colon_never : {l c : ℕ} {xs ys zs ws : List Tok} {a b u : Expr} → c ≡ question → Reads N (bin 1) xs a (mark l c ∷ ys)
      → Reads N expr ys b zs → Lacks colon zs → Derives N cond xs ws u → Ends cond ws → ⊥
  colon_never {zs = zs} h r s n (chooses {l = l'} {c = c'} {m = m'} {d = d'} {ys = ys'} {zs = zs'} {a = a'} {b = b'} h'
      k' d1 d2 d3) o =
      let p = r.only a' (mark l' c' ∷ ys') d1 (ends_at_question l' c' ys' h') in
      let q = s.only b' (mark m' d' ∷ zs') (rw (tail_is p.1) at d2) (ends_at_colon m' d' zs' k') in
      lacks_is m' d' colon zs zs' n (sym q.1) k'
  colon_never h r s n (chooses_not d) o = ends_not h r d o

  pub colon_refused : (xs ys zs ws : List Tok) (l : ℕ) (a b : Expr) → Reads N (bin 1) xs a ys
      → AtMark question ys (Some (l, zs)) → Reads N expr zs b ws → Lacks colon ws → Refuses N cond xs
  colon_refused xs ys zs ws l a b r h s n = let r' : Reads N (bin 1) xs a (mark l h.0 ∷ zs) = rw h.2 at r in
      record { never = λ u us d o. colon_never h.1 r' s n d o }

  no_never : {l c m d : ℕ} {xs ys zs ws : List Tok} {a b u : Expr} → c ≡ question → d ≡ colon
      → Reads N (bin 1) xs a (mark l c ∷ ys) → Reads N expr ys b (mark m d ∷ zs) → Refuses N cond zs
      → Derives N cond xs ws u → Ends cond ws → ⊥
  no_never h k r s t (chooses {l = l'} {c = c'} {m = m'} {d = d'} {ys = ys'} {zs = zs'} {ws = ws} {a = a'} {b = b'}
      {e = e'} h' k' d1 d2 d3) o =
      let p = r.only a' (mark l' c' ∷ ys') d1 (ends_at_question l' c' ys' h') in
      let q = s.only b' (mark m' d' ∷ zs') (rw (tail_is p.1) at d2) (ends_at_colon m' d' zs' k') in
      t.never e' ws (rw (tail_is q.1) at d3) o
  no_never h k r s t (chooses_not d) o = ends_not h r d o

  pub no_refused : (xs ys zs ws vs : List Tok) (l m : ℕ) (a b : Expr) → Reads N (bin 1) xs a ys
      → AtMark question ys (Some (l, zs)) → Reads N expr zs b ws → AtMark colon ws (Some (m, vs)) → Refuses N cond vs
      → Refuses N cond xs
  no_refused xs ys zs ws vs l m a b r h s k t =
      let r' : Reads N (bin 1) xs a (mark l h.0 ∷ zs) = rw h.2 at r in
      let s' : Reads N expr zs b (mark m k.0 ∷ vs) = rw k.2 at s in
      record { never = λ u us d o. no_never h.1 k.1 r' s' t d o }

  -- ---- assignments

  pub no_assignment_cast : (xs : List Tok) → begins_cast N xs ≡ true → NoAssignment N xs
  no_assignment_cast xs h = λ u l c ws d k. no_unary N h d

  begins_is : (l c : ℕ) (ws ys : List Tok) → begins_assignment ys ≡ false → ys ≡ mark l c ∷ ws → is_assignment c ≡ true
      → ⊥
  begins_is l c ws ys b e k = let f : begins_assignment (mark l c ∷ ws) ≡ false = rw e at b in cc

  pub no_assignment_read : (xs ys : List Tok) (a : Expr) → begins_cast N xs ≡ false → Reads N cast xs a ys
      → begins_assignment ys ≡ false → NoAssignment N xs
  no_assignment_read xs ys a b r n = λ u l c ws d k. (
      let r' = unary_read N xs ys a b r in
      let q = r'.only u (mark l c ∷ ws) d (ends_at_assignment l c ws k) in
      begins_is l c ws ys n (sym q.1) k)

  as_cond : {xs zs : List Tok} {u : Expr} → NoAssignment N xs → Derives N expr xs zs u → Derives N cond xs zs u
  as_cond n (assigns {l = l} {c = c} {ys = ys} {a = a} h d e) = absurd (n a l c ys d h)
  as_cond n (assigns_not d) = d

  pub plain_read : (xs ys : List Tok) (a : Expr) → NoAssignment N xs → Reads N cond xs a ys → Reads N expr xs a ys
  plain_read xs ys a n r = record {
    derives = assigns_not r.derives;
    only = λ u zs d e. r.only u zs (as_cond n d) (ends_cond zs e);
  }

  pub plain_refused : (xs : List Tok) → NoAssignment N xs → Refuses N cond xs → Refuses N expr xs
  plain_refused xs n r = record { never = λ u zs d e. r.never u zs (as_cond n d) (ends_cond zs e) }

  -- ---- what reads before an assignment mark reads by every rule

  not_at : (l c k : ℕ) (ys : List Tok) → is_assignment c ≡ true → 0 < k → NotAt k (mark l c ∷ ys)
  not_at l c k ys h p = λ e. (let z = (assigns_only c h).0 in omega arith)

  falls : (j k : ℕ) (l c : ℕ) (xs ys : List Tok) (a : Expr) → j + k ≡ 11 → 0 < k → is_assignment c ≡ true
      → Reads N (bin 11) xs a (mark l c ∷ ys) → Reads N (bin k) xs a (mark l c ∷ ys)
  falls zero k l c xs ys a e p h r = let same : 11 ≡ k = omega arith in
      subst (λ (n : ℕ). Reads N (bin n) xs a (mark l c ∷ ys)) same r
  falls (suc j) k l c xs ys a e p h r = level_done N k xs (mark l c ∷ ys) a
      (level_begins N k xs (mark l c ∷ ys) a (omega arith)
      (falls j (k + 1) l c xs ys a (omega arith) (omega arith) h r)) (not_at l c k ys h p)

  no_question : (l c : ℕ) (ys : List Tok) → is_assignment c ≡ true → Lacks question (mark l c ∷ ys)
  no_question l c ys h = λ e. (let q : (question == question) ≡ false = rw e at ((assigns_only c h).2) in cc)

  every : (l c : ℕ) (xs ys : List Tok) (a : Expr) → is_assignment c ≡ true → Reads N cast xs a (mark l c ∷ ys)
      → Reads N cond xs a (mark l c ∷ ys)
  every l c xs ys a h r = choice_none xs (mark l c ∷ ys) a
      (falls 10 1 l c xs ys a refl (omega arith) h (operand_read N xs (mark l c ∷ ys) a r)) (no_question l c ys h)

  not_cond : {l c : ℕ} {xs ys zs : List Tok} {a u : Expr} → is_assignment c ≡ true → Reads N cond xs a (mark l c ∷ ys)
      → Derives N cond xs zs u → Ends expr zs → ⊥
  not_cond {l = l} {c = c} {ys = ys} {zs = zs} {u = u} h r d e =
      let q = r.only u zs d (ends_cond zs e) in
      assigned l c ys h (subst (λ (ts : List Tok). Ends expr ts) q.1 e)

  assign_only : {l c : ℕ} {xs ys zs ws : List Tok} {a b u : Expr} → is_assignment c ≡ true
      → Reads N unary xs a (mark l c ∷ ys) → Reads N cond xs a (mark l c ∷ ys) → Reads N expr ys b zs
      → Derives N expr xs ws u → Ends expr ws → (u ≡ tree.assign (line_of a) c a b) × (ws ≡ zs)
  assign_only h r rc s (assigns {l = l'} {c = c'} {ys = ys'} {zs = ws} {a = a'} {b = b'} h' d d2) e =
      let q = r.only a' (mark l' c' ∷ ys') d (ends_at_assignment l' c' ys' h') in
      let g = s.only b' ws (rw (tail_is q.1) at d2) e in
      (rw (code_is q.1, q.0, g.0) refl, g.1)
  assign_only h r rc s (assigns_not d) e = absurd (not_cond h rc d e)

  pub assign_read : (xs ys zs ws : List Tok) (l c : ℕ) (a b : Expr) → begins_cast N xs ≡ false → Reads N cast xs a ys
      → AtAssignment ys (Some (l, c, zs)) → Reads N expr zs b ws → Reads N expr xs (tree.assign (line_of a) c a b) ws
  assign_read xs ys zs ws l c a b n r k s =
      let r' : Reads N cast xs a (mark l c ∷ zs) = rw k.1 at r in
      let ru = unary_read N xs (mark l c ∷ zs) a n r' in
      let rc = every l c xs zs a k.0 r' in
      record { derives = assigns k.0 ru.derives s.derives; only = λ u us d e. assign_only k.0 ru rc s d e }

  assign_never : {l c : ℕ} {xs ys ws : List Tok} {a u : Expr} → is_assignment c ≡ true
      → Reads N unary xs a (mark l c ∷ ys) → Reads N cond xs a (mark l c ∷ ys) → Refuses N expr ys
      → Derives N expr xs ws u → Ends expr ws → ⊥
  assign_never h r rc s (assigns {l = l'} {c = c'} {ys = ys'} {zs = ws} {a = a'} {b = b'} h' d d2) e =
      let q = r.only a' (mark l' c' ∷ ys') d (ends_at_assignment l' c' ys' h') in
      s.never b' ws (rw (tail_is q.1) at d2) e
  assign_never h r rc s (assigns_not d) e = not_cond h rc d e

  pub assign_refused : (xs ys zs : List Tok) (l c : ℕ) (a : Expr) → begins_cast N xs ≡ false → Reads N cast xs a ys
      → AtAssignment ys (Some (l, c, zs)) → Refuses N expr zs → Refuses N expr xs
  assign_refused xs ys zs l c a n r k s =
      let r' : Reads N cast xs a (mark l c ∷ zs) = rw k.1 at r in
      let ru = unary_read N xs (mark l c ∷ zs) a n r' in
      let rc = every l c xs zs a k.0 r' in
      record { never = λ u us d e. assign_never k.0 ru rc s d e }

  -- ---- where no operand is read

  operand_never : {xs ws : List Tok} {u : Expr} → Refuses N cast xs → Derives N expr xs ws u → Ends expr ws → ⊥
  operand_never r (assigns {l = l} {c = c} {ys = ys} {a = a} h d e) o =
      r.never a (mark l c ∷ ys) (casts_not d) (ends_cast (mark l c ∷ ys) (ends_at_assignment l c ys h))
  operand_never {xs = xs} r (assigns_not {ys = ws} {a = u} d) o =
      (test_refused xs (refused_level N 1 xs (omega arith) r)).never u ws d (ends_cond ws o)

  pub operand_refused : (xs : List Tok) → Refuses N cast xs → Refuses N expr xs
  operand_refused xs r = record { never = λ u ws d o. operand_never r d o }

  pub operand_refused_cond : (xs : List Tok) → Refuses N cast xs → Refuses N cond xs
  operand_refused_cond xs r = test_refused xs (refused_level N 1 xs (omega arith) r)
