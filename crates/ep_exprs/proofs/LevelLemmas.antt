-- A level of binary operators, each grouping to the left.
use Rattle.std.proofs.Common.{◌≡◌, ℕ, zero, suc, ◌+◌, ◌-◌, ◌<◌, ◌≤◌, Bool, true, false, cond, List, ◌∷◌, Some, refl}
use Rattle.std.proofs.Common.{subst, arith}
use Rattle.std.specs.Prelude.{◌==◌, ◌||◌}
use Rattle.ep_ast.specs.Token.{Tok, mark}
use Rattle.ep_ast.specs.Expression as tree
use Rattle.ep_ast.specs.Expression.{Expr, line_of}
use Rattle.ep_ast.specs.Grammar.{level, bin, cast, Derives, left, tighter, operand}
use Rattle.ep_ast.specs.Reading.{Ends, Reads, Refuses}
use Rattle.ep_exprs.specs.Look.{NotAt, AtOperator}
use Rattle.ep_exprs.proofs.MarkLemmas.{ends_at_operator, ends_tighter, at_level_goes_on, ends_operand}

most : (b : Bool) (m n : ℕ) → m ≤ 10 → n ≤ 10 → cond b m n ≤ 10
most true m n h k = h
most false m n h k = k

level_most : (c : ℕ) → level c ≤ 10
level_most c =
    most (c == 13) 1 _ (omega arith) (most (c == 12) 2 _ (omega arith)
    (most (c == 40) 3 _ (omega arith) (most (c == 39) 4 _ (omega arith) (most (c == 29) 5 _ (omega arith)
    (most (c == 10 || c == 11) 6 _ (omega arith) (most (c == 37 || c == 8 || c == 38 || c == 9) 7 _ (omega arith)
    (most (c == 6 || c == 7) 8 _ (omega arith) (most (c == 31 || c == 32) 9 _ (omega arith)
    (most (c == 30 || c == 35 || c == 36) 10 0 (omega arith) (omega arith))))))))))

module _ (N : List ℕ → Bool) where
  pub data Chain : ℕ → Expr → List Tok → Expr → List Tok → Type 0 where
    done : {k : ℕ} {a : Expr} {xs : List Tok} → Chain k a xs a xs
    more : {k l c : ℕ} {a b u : Expr} {xs ys zs : List Tok} → level c ≡ k → Derives N (bin (k + 1)) xs ys b
        → Chain k (tree.binary (line_of a) c a b) ys u zs → Chain k a (mark l c ∷ xs) u zs

  snoc : {k l c : ℕ} {a b u : Expr} {xs ys zs : List Tok} → Chain k a xs u (mark l c ∷ ys) → level c ≡ k
      → Derives N (bin (k + 1)) ys zs b → Chain k a xs (tree.binary (line_of u) c u b) zs
  snoc done h d = more h d done
  snoc (more h' d' s) h d = more h' d' (snoc s h d)

  pub record LevelSo (k : ℕ) (xs : List Tok) (a : Expr) (ys : List Tok) : Type 0 where
    pub derives : Derives N (bin k) xs ys a
    pub rest : (u : Expr) (zs : List Tok) → Derives N (bin k) xs zs u → Ends (bin k) zs → Chain k a ys u zs

  chain_from : {k : ℕ} {xs ys zs : List Tok} {a u : Expr} → k ≤ 10 → Reads N (bin (k + 1)) xs a ys
      → Derives N (bin k) xs zs u → Ends (bin (k + 1)) zs → Chain k a ys u zs
  chain_from less r (left {k = k} {l = l} {c = c} {ys = ws} h p d d2) e =
      snoc (chain_from less r d (ends_at_operator l c k ws h p)) h d2
  chain_from {k = k} {ys = ys} {a = a} less r (tighter {ys = zs} {a = u} less' d) e = let q = r.only u zs d e in
      rw (q.0, q.1) done
  chain_from less r (operand h d) e = absurd (omega arith)

  pub level_begins : (k : ℕ) (xs ys : List Tok) (a : Expr) → k ≤ 10 → Reads N (bin (k + 1)) xs a ys → LevelSo k xs a ys
  level_begins k xs ys a less r = record {
    derives = tighter less r.derives;
    rest = λ u zs d e. chain_from less r d (ends_tighter k zs e);
  }

  -- what a chain goes on from ends the operand before it
  chain_ends : {k : ℕ} {a u : Expr} {xs ys : List Tok} → 0 < k → Chain k a xs u ys → Ends (bin k) ys
      → Ends (bin (k + 1)) xs
  chain_ends {k = k} {ys = ys} p done e = ends_tighter k ys e
  chain_ends p (more {k} {l} {c} {xs = xs} h d s) e = ends_at_operator l c k xs h p

  chain_step : {k l c : ℕ} {a b u : Expr} {ys zs ws : List Tok} → level c ≡ k → 0 < k → Reads N (bin (k + 1)) ys b zs
      → Chain k a (mark l c ∷ ys) u ws → Ends (bin k) ws → Chain k (tree.binary (line_of a) c a b) zs u ws
  chain_step {k = k} {c = c} h p r done e = absurd (at_level_goes_on c k h p e)
  chain_step {k = k} {l = l} {c = c} {a = a} {u = u} {ws = ws} h p r (more {b = b'} {ys = ys'} h' d s) e =
      let q = r.only b' ys' d (chain_ends p s e) in
      rw (← q.0, ← q.1) s

  level_step : (k l c : ℕ) (xs ys zs : List Tok) (a b : Expr) → level c ≡ k → 0 < k → LevelSo k xs a (mark l c ∷ ys)
      → Reads N (bin (k + 1)) ys b zs → LevelSo k xs (tree.binary (line_of a) c a b) zs
  level_step k l c xs ys zs a b h p s r = record {
    derives = left h p s.derives r.derives;
    rest = λ u ws d e. chain_step h p r (s.rest u ws d e) e;
  }

  chain_never : {k l c : ℕ} {a u : Expr} {ys ws : List Tok} → level c ≡ k → 0 < k → Refuses N (bin (k + 1)) ys
      → Chain k a (mark l c ∷ ys) u ws → Ends (bin k) ws → ⊥
  chain_never {k = k} {c = c} h p r done e = at_level_goes_on c k h p e
  chain_never h p r (more {b = b'} {ys = ys'} h' d s) e = r.never b' ys' d (chain_ends p s e)

  level_refused : (k l c : ℕ) (xs ys : List Tok) (a : Expr) → level c ≡ k → 0 < k → LevelSo k xs a (mark l c ∷ ys)
      → Refuses N (bin (k + 1)) ys → Refuses N (bin k) xs
  level_refused k l c xs ys a h p s r = record { never = λ u zs d e. chain_never h p r (s.rest u zs d e) e }

  pub operator_read : (k l c : ℕ) (xs ys zs ws : List Tok) (a b : Expr) → 0 < k → LevelSo k xs a ys
      → AtOperator k ys (Some (l, c, zs)) → Reads N (bin (k + 1)) zs b ws
      → LevelSo k xs (tree.binary (line_of a) c a b) ws
  operator_read k l c xs ys zs ws a b p s h r = level_step k l c xs zs ws a b h.0 p (rw h.1 at s) r

  pub operator_refused : (k l c : ℕ) (xs ys zs : List Tok) (a : Expr) → 0 < k → LevelSo k xs a ys
      → AtOperator k ys (Some (l, c, zs)) → Refuses N (bin (k + 1)) zs → Refuses N (bin k) xs
  operator_refused k l c xs ys zs a p s h r = level_refused k l c xs zs a h.0 p (rw h.1 at s) r

  no_chain : {k : ℕ} {a u : Expr} {xs ys : List Tok} → Chain k a xs u ys → NotAt k xs → (u ≡ a) × (ys ≡ xs)
  no_chain done n = (refl, refl)
  no_chain (more h d s) n = absurd (n h)

  pub level_done : (k : ℕ) (xs ys : List Tok) (a : Expr) → LevelSo k xs a ys → NotAt k ys → Reads N (bin k) xs a ys
  level_done k xs ys a s n = record { derives = s.derives; only = λ u zs d e. no_chain (s.rest u zs d e) n }

  pub level_skipped : (k : ℕ) (xs ys : List Tok) (a : Expr) → k ≤ 10 → NotAt k ys → Reads N (bin (k + 1)) xs a ys
      → Reads N (bin k) xs a ys
  level_skipped k xs ys a less n r = level_done k xs ys a (level_begins k xs ys a less r) n

  tight_never : {k : ℕ} {xs zs : List Tok} {u : Expr} → k ≤ 10 → Refuses N (bin (k + 1)) xs → Derives N (bin k) xs zs u
      → Ends (bin (k + 1)) zs → ⊥
  tight_never less r (left {k = k} {l = l} {c = c} {ys = ws} h p d d2) e =
      tight_never less r d (ends_at_operator l c k ws h p)
  tight_never less r (tighter {ys = zs} {a = u} less' d) e = r.never u zs d e
  tight_never less r (operand h d) e = absurd (omega arith)

  tight_refused : (k : ℕ) (xs : List Tok) → k ≤ 10 → Refuses N (bin (k + 1)) xs → Refuses N (bin k) xs
  tight_refused k xs less r = record { never = λ u zs d e. tight_never less r d (ends_tighter k zs e) }

  -- ---- operands

  level_eleven : (c k : ℕ) → k ≡ 11 → level c ≡ k → ⊥
  level_eleven c k h e = let m = level_most c in absurd (omega arith)

  as_cast : {k : ℕ} {xs zs : List Tok} {u : Expr} → k ≡ 11 → Derives N (bin k) xs zs u → Derives N cast xs zs u
  as_cast h (left {k} {l} {c} q p d e) = absurd (level_eleven c k h q)
  as_cast h (tighter q d) = absurd (omega arith)
  as_cast h (operand q d) = d

  pub operand_read : (xs ys : List Tok) (a : Expr) → Reads N cast xs a ys → Reads N (bin 11) xs a ys
  operand_read xs ys a r = record {
    derives = operand refl r.derives;
    only = λ u zs d e. r.only u zs (as_cast refl d) (ends_operand zs e);
  }

  operand_refused : (xs : List Tok) → Refuses N cast xs → Refuses N (bin 11) xs
  operand_refused xs r = record { never = λ u zs d e. r.never u zs (as_cast refl d) (ends_operand zs e) }

  down_from : (j k m : ℕ) (xs : List Tok) → j + k ≡ m → m ≤ 11 → Refuses N (bin m) xs → Refuses N (bin k) xs
  down_from zero k m xs e le r = let same : m ≡ k = omega arith in subst (λ (n : ℕ). Refuses N (bin n) xs) same r
  down_from (suc j) k m xs e le r = tight_refused k xs (omega arith) (down_from j (k + 1) m xs (omega arith) le r)

  pub looser : (k m : ℕ) (xs : List Tok) → k ≤ m → m ≤ 11 → Refuses N (bin m) xs → Refuses N (bin k) xs
  looser k m xs le most r = down_from (m - k) k m xs (omega arith) most r

  pub refused_level : (k : ℕ) (xs : List Tok) → k ≤ 11 → Refuses N cast xs → Refuses N (bin k) xs
  refused_level k xs le r = looser k 11 xs le (omega arith) (operand_refused xs r)
