-- Declarators with their initialisers, one after the other up to the semicolon.
use Rattle.std.proofs.Common.{◌≡◌, ℕ, Bool, List, [], ◌∷◌, ◌++◌, Some, None, refl, sym, ap, ◌∙◌, append_assoc}
use Rattle.ep_ast.specs.Token.{Tok, mark}
use Rattle.ep_ast.specs.Declaration.{Declarator, Value, Init}
use Rattle.ep_ast.specs.DeclarationGrammar.{Declared, Given, Initialised, without, with_value, Inits, last_init}
use Rattle.ep_ast.specs.DeclarationGrammar.{next_init}
use Rattle.ep_ast.specs.Mark.{equal, comma, semicolon}
use Rattle.ep_ast.specs.Grammar.{expr}
use Rattle.ep_ast.specs.Reading.{Ends, Takes, TakesNone, Lacks, AtMark}
use Rattle.ep_reading.specs.Answer.{TakesEnded}
use Rattle.ep_reading.proofs.FirstLemmas.{tail_is, code_is, lacks_is, apart}
use Rattle.ep_exprs.proofs.MarkLemmas.{ends_at_comma}

ends_at_semicolon : (l c : ℕ) (ts : List Tok) → c ≡ semicolon → Ends expr (mark l c ∷ ts)
ends_at_semicolon l c ts k = rw k refl

module _ (N : List ℕ → Bool) where
  -- ---- one

  bare_only : {xs ys zs : List Tok} {d : Declarator} {i : Init} → Takes (Declared N) xs d ys → Lacks equal ys
      → Initialised N xs zs i → (i ≡ record { line = d.line; declarator = d; value = None }) × (zs ≡ ys)
  bare_only {zs = zs} t n (without {d = d'} e h) = let q = t.only d' zs e in (rw q.0 refl, q.1)
  bare_only {ys = ys} t n (with_value {l = l} {c = c} {ys = us} {d = d'} k e g) = let q = t.only d' (mark l c ∷ us) e in
      absurd (lacks_is l c equal ys us n (sym q.1) k)

  pub bare_read : (xs ys : List Tok) (d : Declarator) → Takes (Declared N) xs d ys → Lacks equal ys
      → TakesEnded (Initialised N) xs (record { line = d.line; declarator = d; value = None }) ys
  bare_read xs ys d t n = record { holds = without t.holds n; only = λ i zs e o. bare_only t n e }

  given_only : {l c : ℕ} {xs ys zs ws : List Tok} {d : Declarator} {v : Value} {i : Init} → c ≡ equal
      → Takes (Declared N) xs d (mark l c ∷ ys) → TakesEnded (Given N) ys v ws → Initialised N xs zs i → Ends expr zs
      → (i ≡ record { line = d.line; declarator = d; value = Some v }) × (zs ≡ ws)
  given_only {l = l} {c = c} {ys = ys} {zs = zs} k t r (without {d = d'} e h) o = let q = t.only d' zs e in
      absurd (lacks_is l c equal zs ys h q.1 k)
  given_only {zs = zs} k t r (with_value {l = l'} {c = c'} {ys = us} {d = d'} {v = v'} k' e g) o =
      let q = t.only d' (mark l' c' ∷ us) e in
      let p = r.only v' zs (rw (tail_is q.1) at g) o in
      (rw (q.0, p.0) refl, p.1)

  pub given_read : (xs ys zs ws : List Tok) (l : ℕ) (d : Declarator) (v : Value) → Takes (Declared N) xs d ys
      → AtMark equal ys (Some (l, zs)) → TakesEnded (Given N) zs v ws
      → TakesEnded (Initialised N) xs (record { line = d.line; declarator = d; value = Some v }) ws
  given_read xs ys zs ws l d v t k r =
      let t' : Takes (Declared N) xs d (mark l k.0 ∷ zs) = rw k.2 at t in
      record { holds = with_value k.1 t'.holds r.holds; only = λ i us e o. given_only k.1 t' r e o }

  -- ---- all

  -- these are read, and what comes is a list again
  pub record InitsSo (xs : List Tok) (front : List Init) (ys : List Tok) : Type 0 where
    pub forth : (zs : List Tok) (is : List Init) → Inits N ys zs is → Inits N xs zs (front ++ is)
    pub back : (zs : List Tok) (is : List Init) → Inits N xs zs is
        → (more : List Init) × (is ≡ front ++ more) × Inits N ys zs more

  one_more : (front : List Init) {ys ws zs : List Tok} {m d : ℕ} {a : Init} {is rest : List Init} → d ≡ comma
      → TakesEnded (Initialised N) ys a (mark m d ∷ ws) → is ≡ front ++ rest → Inits N ys zs rest
      → (more : List Init) × (is ≡ (front ++ a ∷ []) ++ more) × Inits N ws zs more
  one_more front k r e (last_init {l = m'} {c = d'} {ys = ys'} {i = a'} k' f) =
      let q = r.only a' (mark m' d' ∷ ys') f (ends_at_semicolon m' d' ys' k') in
      absurd (apart semicolon comma refl k' (code_is q.1 ∙ k))
  one_more front {a = a} k r e (next_init {l = m'} {c = d'} {ys = ys'} {i = a'} {is = is'} k' f g) =
      let q = r.only a' (mark m' d' ∷ ys') f (ends_at_comma m' d' ys' k') in
      (is', e ∙ ap (λ (b : Init). front ++ b ∷ is') q.0 ∙ sym (append_assoc front (a ∷ []) is'), rw (tail_is q.1) at g)

  pub inits_step : (xs : List Tok) (front : List Init) (ys ws zs : List Tok) (l : ℕ) (a : Init) → InitsSo xs front ys
      → TakesEnded (Initialised N) ys a ws → AtMark comma ws (Some (l, zs)) → InitsSo xs (front ++ a ∷ []) zs
  inits_step xs front ys ws zs l a s r k =
      let r' : TakesEnded (Initialised N) ys a (mark l k.0 ∷ zs) = rw k.2 at r in
      record {
        forth = λ us is e. rw append_assoc (s.forth us (a ∷ is) (next_init k.1 r'.holds e));
        back = λ us is e. let q = s.back us is e in one_more front k.1 r' q.1 q.2;
      }

  at_last : (front : List Init) {ys ws zs : List Tok} {m d : ℕ} {a : Init} {is rest : List Init} → d ≡ semicolon
      → TakesEnded (Initialised N) ys a (mark m d ∷ ws) → is ≡ front ++ rest → Inits N ys zs rest
      → (is ≡ front ++ a ∷ []) × (zs ≡ ws)
  at_last front k r e (last_init {l = m'} {c = d'} {ys = ys'} {i = a'} k' f) =
      let q = r.only a' (mark m' d' ∷ ys') f (ends_at_semicolon m' d' ys' k') in
      (e ∙ ap (λ (b : Init). front ++ b ∷ []) q.0, tail_is q.1)
  at_last front k r e (next_init {l = m'} {c = d'} {ys = ys'} {i = a'} k' f g) =
      let q = r.only a' (mark m' d' ∷ ys') f (ends_at_comma m' d' ys' k') in
      absurd (apart comma semicolon refl k' (code_is q.1 ∙ k))

  pub inits_done : (xs : List Tok) (front : List Init) (ys ws zs : List Tok) (l : ℕ) (a : Init) → InitsSo xs front ys
      → TakesEnded (Initialised N) ys a ws → AtMark semicolon ws (Some (l, zs))
      → Takes (Inits N) xs (front ++ a ∷ []) zs
  inits_done xs front ys ws zs l a s r k =
      let r' : TakesEnded (Initialised N) ys a (mark l k.0 ∷ zs) = rw k.2 at r in
      record {
        holds = s.forth zs (a ∷ []) (last_init k.1 r'.holds);
        only = λ is us e. let q = s.back us is e in
            at_last front k.1 r' q.1 q.2;
      }

  gap_never : {ys ws zs : List Tok} {a : Init} {is : List Init} → TakesEnded (Initialised N) ys a ws
      → Lacks semicolon ws → Lacks comma ws → Inits N ys zs is → ⊥
  gap_never {ws = ws} r n o (last_init {l = m} {c = d} {ys = ys} {i = a} k e) = let q =
      r.only a (mark m d ∷ ys) e (ends_at_semicolon m d ys k) in lacks_is m d semicolon ws ys n (sym q.1) k
  gap_never {ws = ws} r n o (next_init {l = m} {c = d} {ys = ys} {i = a} k e g) = let q =
      r.only a (mark m d ∷ ys) e (ends_at_comma m d ys k) in lacks_is m d comma ws ys o (sym q.1) k

  pub gap_refused : (xs : List Tok) (front : List Init) (ys ws : List Tok) (a : Init) → InitsSo xs front ys
      → TakesEnded (Initialised N) ys a ws → Lacks semicolon ws → Lacks comma ws → TakesNone (Inits N) xs
  gap_refused xs front ys ws a s r k o = record { never = λ is zs e. let q = s.back zs is e in gap_never r k o q.2 }
