-- Values, and lists of them in braces.
use Rattle.std.proofs.Common.{◌≡◌, ℕ, Bool, List, [], ◌∷◌, ◌++◌, Some, refl, sym, ap, ◌∙◌, append_assoc}
use Rattle.ep_ast.specs.declared.refusals.Halt.{Halt}
use Rattle.ep_ast.specs.declared.refusals.Halt.TheVariants as halts
use Rattle.ep_ast.specs.Token.{Tok, mark}
use Rattle.ep_ast.specs.Expression.{Expr}
use Rattle.ep_ast.specs.Declaration as tree
use Rattle.ep_ast.specs.Declaration.{Value, to_values}
use Rattle.ep_ast.specs.DeclarationGrammar.{Given, single, listed, Listed, last_value, last_with_comma, next_value}
use Rattle.ep_ast.specs.Mark.{left_brace, right_brace, comma}
use Rattle.ep_ast.specs.Grammar.{expr}
use Rattle.ep_ast.specs.Reading.{Ends, Reads, Refuses, Halts, Takes, TakesNone, Stops, Lacks, AtMark}
use Rattle.ep_reading.specs.Answer.{TakesEnded, EndsNone, StopsEnded}
use Rattle.ep_reading.proofs.FirstLemmas.{tail_is, code_is, lacks_is, apart}
use Rattle.ep_exprs.proofs.MarkLemmas.{ends_at_comma}
use Rattle.ep_declarations.proofs.PartLemmas.{begins_apart}

ends_at_brace : (l c : ℕ) (ts : List Tok) → c ≡ right_brace → Ends expr (mark l c ∷ ts)
ends_at_brace l c ts k = rw k refl

-- ---- what an answer says of a caller's

pub halts_ended : {T : Type 0} (N : List ℕ → Bool) (P : List Tok → List Tok → T → Type 0) (ys xs : List Tok) (e : Halt)
    → (Refuses N expr ys → EndsNone P xs) → Halts N expr ys e → StopsEnded P xs e
halts_ended N P ys xs (halts.Refused f) g h = (g h.0, h.1)
halts_ended N P ys xs halts.Memory g h = tt

pub stops_ended : {S T : Type 0} (P : List Tok → List Tok → S → Type 0) (Q : List Tok → List Tok → T → Type 0)
    (ys xs : List Tok) (e : Halt) → (TakesNone P ys → EndsNone Q xs) → Stops P ys e → StopsEnded Q xs e
stops_ended P Q ys xs (halts.Refused f) g h = (g h.0, h.1)
stops_ended P Q ys xs halts.Memory g h = tt

module _ (N : List ℕ → Bool) where
  -- ---- one value

  braced_only : {l c : ℕ} {xs ys zs : List Tok} {vs : List Value} {u : Value} → c ≡ left_brace
      → Takes (Listed N) xs vs ys → Given N (mark l c ∷ xs) zs u → (u ≡ tree.listed l (to_values vs)) × (zs ≡ ys)
  braced_only k t (single e) = absurd (begins_apart N left_brace refl refl refl k e)
  braced_only {l = l} {zs = zs} k t (listed {vs = us} h d) = let q = t.only us zs d in
      (ap (λ (ws : List Value). tree.listed l (to_values ws)) q.0, q.1)

  pub braced_read : (xs ys zs : List Tok) (l : ℕ) (vs : List Value) → AtMark left_brace xs (Some (l, ys))
      → Takes (Listed N) ys vs zs → TakesEnded (Given N) xs (tree.listed l (to_values vs)) zs
  braced_read xs ys zs l vs k t = rw k.2 (record { holds = listed k.1 t.holds; only = λ u ws d e. braced_only k.1 t d })

  braced_never : {l c : ℕ} {xs zs : List Tok} {u : Value} → c ≡ left_brace → TakesNone (Listed N) xs
      → Given N (mark l c ∷ xs) zs u → ⊥
  braced_never k t (single e) = begins_apart N left_brace refl refl refl k e
  braced_never {zs = zs} k t (listed {vs = us} h d) = t.never us zs d

  pub braced_refused : (xs ys : List Tok) (l : ℕ) → AtMark left_brace xs (Some (l, ys)) → TakesNone (Listed N) ys
      → EndsNone (Given N) xs
  braced_refused xs ys l k t = rw k.2 (record { never = λ u ws d e. braced_never k.1 t d })

  single_only : {xs ys zs : List Tok} {a : Expr} {u : Value} → Lacks left_brace xs → Reads N expr xs a ys
      → Given N xs zs u → Ends expr zs → (u ≡ tree.single a) × (zs ≡ ys)
  single_only {zs = zs} n r (single {e = b} d) e = let q = r.only b zs d e in
      (ap (λ (c : Expr). tree.single c) q.0, q.1)
  single_only n r (listed h d) e = absurd (n h)

  pub single_read : (xs ys : List Tok) (a : Expr) → Lacks left_brace xs → Reads N expr xs a ys
      → TakesEnded (Given N) xs (tree.single a) ys
  single_read xs ys a n r = record { holds = single r.derives; only = λ u zs d e. single_only n r d e }

  single_never : {xs zs : List Tok} {u : Value} → Lacks left_brace xs → Refuses N expr xs → Given N xs zs u
      → Ends expr zs → ⊥
  single_never {zs = zs} n r (single {e = b} d) e = r.never b zs d e
  single_never n r (listed h d) e = n h

  pub single_refused : (xs : List Tok) → Lacks left_brace xs → Refuses N expr xs → EndsNone (Given N) xs
  single_refused xs n r = record { never = λ u zs d e. single_never n r d e }

  -- ---- a list

  -- these are read, and what comes is a list again
  pub record ValuesSo (xs : List Tok) (front : List Value) (ys : List Tok) : Type 0 where
    pub forth : (zs : List Tok) (vs : List Value) → Listed N ys zs vs → Listed N xs zs (front ++ vs)
    pub back : (zs : List Tok) (vs : List Value) → Listed N xs zs vs
        → (more : List Value) × (vs ≡ front ++ more) × Listed N ys zs more

  no_value : {m d : ℕ} {xs ys : List Tok} {v : Value} → d ≡ right_brace → Given N (mark m d ∷ xs) ys v → ⊥
  no_value k (single e) = begins_apart N right_brace refl refl refl k e
  no_value k (listed h d) = apart left_brace right_brace refl h k

  no_list : {xs ys zs : List Tok} {m d : ℕ} {vs : List Value} → d ≡ right_brace → xs ≡ mark m d ∷ zs → Listed N xs ys vs
      → ⊥
  no_list k e (last_value h d) = no_value k (rw e at d)
  no_list k e (last_with_comma h j d) = no_value k (rw e at d)
  no_list k e (next_value h d f) = no_value k (rw e at d)

  one_more : (front : List Value) {ys ws zs : List Tok} {m d : ℕ} {a : Value} {vs rest : List Value} → d ≡ comma
      → Lacks right_brace ws → TakesEnded (Given N) ys a (mark m d ∷ ws) → vs ≡ front ++ rest → Listed N ys zs rest
      → (more : List Value) × (vs ≡ (front ++ a ∷ []) ++ more) × Listed N ws zs more
  one_more front k n r e (last_value {l = m'} {c = d'} {ys = ys'} {v = a'} k' f) =
      let q = r.only a' (mark m' d' ∷ ys') f (ends_at_brace m' d' ys' k') in
      absurd (apart right_brace comma refl k' (code_is q.1 ∙ k))
  one_more front {ws = ws} k n r e (last_with_comma {l = l'} {c = c'} {m = m'} {d = d'} {ys = ys'} {v = a'} k' j' f) =
      let q = r.only a' (mark l' c' ∷ mark m' d' ∷ ys') f (ends_at_comma l' c' (mark m' d' ∷ ys') k') in
      absurd (lacks_is m' d' right_brace ws ys' n (sym (tail_is q.1)) j')
  one_more front {a = a} k n r e (next_value {l = m'} {c = d'} {ys = ys'} {v = a'} {vs = vs'} k' f g) =
      let q = r.only a' (mark m' d' ∷ ys') f (ends_at_comma m' d' ys' k') in
      (vs', e ∙ ap (λ (b : Value). front ++ b ∷ vs') q.0 ∙ sym (append_assoc front (a ∷ []) vs'), rw (tail_is q.1) at g)

  pub values_step : (xs : List Tok) (front : List Value) (ys ws zs : List Tok) (l : ℕ) (a : Value)
      → ValuesSo xs front ys → TakesEnded (Given N) ys a ws → AtMark comma ws (Some (l, zs)) → Lacks right_brace zs
      → ValuesSo xs (front ++ a ∷ []) zs
  values_step xs front ys ws zs l a s r k n =
      let r' : TakesEnded (Given N) ys a (mark l k.0 ∷ zs) = rw k.2 at r in
      record {
        forth = λ us vs e. rw append_assoc (s.forth us (a ∷ vs) (next_value k.1 r'.holds e));
        back = λ us vs e. let q = s.back us vs e in one_more front k.1 n r' q.1 q.2;
      }

  at_last : (front : List Value) {ys ws zs : List Tok} {m d : ℕ} {a : Value} {vs rest : List Value} → d ≡ right_brace
      → TakesEnded (Given N) ys a (mark m d ∷ ws) → vs ≡ front ++ rest → Listed N ys zs rest
      → (vs ≡ front ++ a ∷ []) × (zs ≡ ws)
  at_last front k r e (last_value {l = m'} {c = d'} {ys = ys'} {v = a'} k' f) =
      let q = r.only a' (mark m' d' ∷ ys') f (ends_at_brace m' d' ys' k') in
      (e ∙ ap (λ (b : Value). front ++ b ∷ []) q.0, tail_is q.1)
  at_last front k r e (last_with_comma {l = l'} {c = c'} {m = m'} {d = d'} {ys = ys'} {v = a'} k' j' f) =
      let q = r.only a' (mark l' c' ∷ mark m' d' ∷ ys') f (ends_at_comma l' c' (mark m' d' ∷ ys') k') in
      absurd (apart comma right_brace refl k' (code_is q.1 ∙ k))
  at_last front k r e (next_value {l = m'} {c = d'} {ys = ys'} {v = a'} k' f g) =
      let q = r.only a' (mark m' d' ∷ ys') f (ends_at_comma m' d' ys' k') in
      absurd (apart comma right_brace refl k' (code_is q.1 ∙ k))

  pub values_done : (xs : List Tok) (front : List Value) (ys ws zs : List Tok) (l : ℕ) (a : Value)
      → ValuesSo xs front ys → TakesEnded (Given N) ys a ws → AtMark right_brace ws (Some (l, zs))
      → Takes (Listed N) xs (front ++ a ∷ []) zs
  values_done xs front ys ws zs l a s r k =
      let r' : TakesEnded (Given N) ys a (mark l k.0 ∷ zs) = rw k.2 at r in
      record {
        holds = s.forth zs (a ∷ []) (last_value k.1 r'.holds);
        only = λ vs us e. let q = s.back us vs e in
            at_last front k.1 r' q.1 q.2;
      }

  at_comma : (front : List Value) {ys ws zs : List Tok} {m d n o : ℕ} {a : Value} {vs rest : List Value} → d ≡ comma
      → o ≡ right_brace → TakesEnded (Given N) ys a (mark m d ∷ mark n o ∷ ws) → vs ≡ front ++ rest
      → Listed N ys zs rest
      → (vs ≡ front ++ a ∷ []) × (zs ≡ ws)
  at_comma front k j r e (last_value {l = m'} {c = d'} {ys = ys'} {v = a'} k' f) =
      let q = r.only a' (mark m' d' ∷ ys') f (ends_at_brace m' d' ys' k') in
      absurd (apart right_brace comma refl k' (code_is q.1 ∙ k))
  at_comma front k j r e (last_with_comma {l = l'} {c = c'} {m = m'} {d = d'} {ys = ys'} {v = a'} k' j' f) =
      let q = r.only a' (mark l' c' ∷ mark m' d' ∷ ys') f (ends_at_comma l' c' (mark m' d' ∷ ys') k') in
      (e ∙ ap (λ (b : Value). front ++ b ∷ []) q.0, tail_is (tail_is q.1))
  at_comma front k j r e (next_value {l = m'} {c = d'} {ys = ys'} {v = a'} k' f g) =
      let q = r.only a' (mark m' d' ∷ ys') f (ends_at_comma m' d' ys' k') in absurd (no_list j (tail_is q.1) g)

  pub values_closed : (xs : List Tok) (front : List Value) (ys ws us zs : List Tok) (l m : ℕ) (a : Value)
      → ValuesSo xs front ys → TakesEnded (Given N) ys a ws → AtMark comma ws (Some (l, us))
      → AtMark right_brace us (Some (m, zs))
      → Takes (Listed N) xs (front ++ a ∷ []) zs
  values_closed xs front ys ws us zs l m a s r k j =
      let r' : TakesEnded (Given N) ys a (mark l k.0 ∷ mark m j.0 ∷ zs) = rw (k.2, j.2) at r in
      record {
        holds = s.forth zs (a ∷ []) (last_with_comma k.1 j.1 r'.holds);
        only =
            λ vs ts e. let q = s.back ts vs e in at_comma front k.1 j.1 r' q.1 q.2;
      }

  gap_never : {ys ws zs : List Tok} {a : Value} {vs : List Value} → TakesEnded (Given N) ys a ws → Lacks right_brace ws
      → Lacks comma ws → Listed N ys zs vs → ⊥
  gap_never {ws = ws} r n o (last_value {l = m} {c = d} {ys = ys} {v = a} k e) = let q =
      r.only a (mark m d ∷ ys) e (ends_at_brace m d ys k) in lacks_is m d right_brace ws ys n (sym q.1) k
  gap_never {ws = ws} r n o (last_with_comma {l = l} {c = c} {m = m} {d = d} {ys = ys} {v = a} k j e) =
      let q = r.only a (mark l c ∷ mark m d ∷ ys) e (ends_at_comma l c (mark m d ∷ ys) k) in
      lacks_is l c comma ws (mark m d ∷ ys) o (sym q.1) k
  gap_never {ws = ws} r n o (next_value {l = m} {c = d} {ys = ys} {v = a} k e g) = let q =
      r.only a (mark m d ∷ ys) e (ends_at_comma m d ys k) in lacks_is m d comma ws ys o (sym q.1) k

  pub gap_refused : (xs : List Tok) (front : List Value) (ys ws : List Tok) (a : Value) → ValuesSo xs front ys
      → TakesEnded (Given N) ys a ws → Lacks right_brace ws → Lacks comma ws → TakesNone (Listed N) xs
  gap_refused xs front ys ws a s r k o = record { never = λ vs zs e. let q = s.back zs vs e in gap_never r k o q.2 }
