-- What stands behind an operand: read one after the other.
use Rattle.std.proofs.Common.{◌≡◌, ℕ, Bool, true, false, List, [], ◌∷◌, Some, None, refl, sym, ap, ◌∙◌}
use Rattle.ep_reading.proofs.FirstLemmas.{apart}
use Rattle.std.specs.Prelude.{◌==◌}
use Rattle.ep_ast.specs.Token.{Tok, word, name, number, mark, if_little, if_big, other, end_if}
use Rattle.ep_ast.specs.Expression.{Expr}
use Rattle.ep_ast.specs.Mark.{left_paren, left_bracket, right_bracket, dot, arrow, plus_plus, minus_minus}
use Rattle.ep_ast.specs.Grammar.{expr, postfix, primary, Suffix, at, with, of, through, increment, decrement, apply}
use Rattle.ep_ast.specs.Grammar.{Derives, suffixed, suffixed_not, IsSuffix, indexed, called, member, pointed, incremented}
use Rattle.ep_ast.specs.Grammar.{decremented, Arguments}
use Rattle.ep_ast.specs.Reading.{is_suffix, Ends, Reads, Refuses, Takes, TakesNone, Lacks, AtMark, LacksName}
use Rattle.ep_exprs.specs.Look.{begins_suffix}
use Rattle.ep_reading.proofs.FirstLemmas.{tail_is, lacks_is}
use Rattle.ep_exprs.proofs.MarkLemmas.{ends_primary, ends_at_bracket}

module _ (N : List ℕ → Bool) where
  behind_begins : {xs ys : List Tok} {s : Suffix} → IsSuffix N xs ys s → begins_suffix xs ≡ true
  behind_begins (indexed h k d) = rw h refl
  behind_begins (called h d) = rw h refl
  behind_begins (member h) = rw h refl
  behind_begins (pointed h) = rw h refl
  behind_begins (incremented h) = rw h refl
  behind_begins (decremented h) = rw h refl

  -- ---- one after the other

  pub data Chain : Expr → List Tok → Expr → List Tok → Type 0 where
    done : {a : Expr} {xs : List Tok} → Chain a xs a xs
    more : {a u : Expr} {s : Suffix} {xs ys zs : List Tok} → IsSuffix N xs ys s → Chain (apply s a) ys u zs
        → Chain a xs u zs

  snoc : {a u : Expr} {s : Suffix} {xs ys zs : List Tok} → Chain a xs u ys → IsSuffix N ys zs s
      → Chain a xs (apply s u) zs
  snoc done h = more h done
  snoc (more k c) h = more k (snoc c h)

  chain_from : {xs ys zs : List Tok} {a u : Expr} → Reads N primary xs a ys → Derives N postfix xs zs u
      → Chain a ys u zs
  chain_from r (suffixed d h) = snoc (chain_from r d) h
  chain_from {ys = ys} {a = a} r (suffixed_not {ys = zs} {a = u} d) = let q = r.only u zs d (ends_primary zs) in
      rw (q.0, q.1) done

  begins_goes_on : (zs : List Tok) → begins_suffix zs ≡ true → Ends postfix zs → ⊥
  begins_goes_on [] h e = cc
  begins_goes_on (word l c ∷ ts) h e = cc
  begins_goes_on (name l t ∷ ts) h e = cc
  begins_goes_on (number l n ∷ ts) h e = cc
  begins_goes_on (mark l c ∷ ts) h e = let k : is_suffix c ≡ false = e in let j : is_suffix c ≡ true = h in cc
  begins_goes_on (if_little l ∷ ts) h e = cc
  begins_goes_on (if_big l ∷ ts) h e = cc
  begins_goes_on (other l ∷ ts) h e = cc
  begins_goes_on (end_if l ∷ ts) h e = cc

  -- the chain after one more
  chain_step : {a u : Expr} {s : Suffix} {ys us zs : List Tok} → Takes (IsSuffix N) ys s us → Chain a ys u zs
      → (begins_suffix ys ≡ true → u ≡ a → zs ≡ ys → ⊥) → Chain (apply s a) us u zs
  chain_step t done n = absurd (n (behind_begins t.holds) refl refl)
  chain_step t (more {s = s'} {ys = ys'} h c) n = let q = t.only s' ys' h in rw (← q.0, ← q.1) c

  -- so far: the tree up to here, and each longer one goes on from it
  pub record Longer (xs : List Tok) (a : Expr) (ys : List Tok) : Type 0 where
    pub derives : Derives N postfix xs ys a
    pub rest : (u : Expr) (zs : List Tok) → Derives N postfix xs zs u → Ends postfix zs → Chain a ys u zs

  pub longer_begins : (xs ys : List Tok) (a : Expr) → Reads N primary xs a ys → Longer xs a ys
  longer_begins xs ys a r = record { derives = suffixed_not r.derives; rest = λ u zs d e. chain_from r d }

  stops_not : {zs ys : List Tok} → Ends postfix zs → begins_suffix ys ≡ true → zs ≡ ys → ⊥
  stops_not {zs = zs} {ys = ys} e h s = begins_goes_on zs (rw s h) e

  pub longer_step : (xs ys us : List Tok) (a : Expr) (s : Suffix) → Longer xs a ys → Takes (IsSuffix N) ys s us
      → Longer xs (apply s a) us
  longer_step xs ys us a s l t = record {
    derives = suffixed l.derives t.holds;
    rest = λ u zs d e. chain_step t (l.rest u zs d e) (λ b h k. stops_not e b k);
  }

  no_chain : {a u : Expr} {xs ys : List Tok} → Chain a xs u ys → begins_suffix xs ≡ false → (u ≡ a) × (ys ≡ xs)
  no_chain done n = (refl, refl)
  no_chain (more h c) n = let k = behind_begins h in absurd cc

  pub longer_done : (xs ys : List Tok) (a : Expr) → Longer xs a ys → begins_suffix ys ≡ false → Reads N postfix xs a ys
  longer_done xs ys a l n = record { derives = l.derives; only = λ u zs d e. no_chain (l.rest u zs d e) n }

  chain_never : {a u : Expr} {ys zs : List Tok} → TakesNone (IsSuffix N) ys → begins_suffix ys ≡ true → Ends postfix zs
      → Chain a ys u zs → ⊥
  chain_never {zs = zs} t b e done = begins_goes_on zs b e
  chain_never t b e (more {s = s} {ys = ys} h c) = t.never s ys h

  pub longer_refused : (xs ys : List Tok) (a : Expr) → Longer xs a ys → begins_suffix ys ≡ true
      → TakesNone (IsSuffix N) ys → Refuses N postfix xs
  longer_refused xs ys a l b t = record { never = λ u zs d e. chain_never t b e (l.rest u zs d e) }

  postfix_never : {xs zs : List Tok} {u : Expr} → Refuses N primary xs → Derives N postfix xs zs u → ⊥
  postfix_never r (suffixed d h) = postfix_never r d
  postfix_never r (suffixed_not {ys = zs} {a = u} d) = r.never u zs d (ends_primary zs)

  pub postfix_refused : (xs : List Tok) → Refuses N primary xs → Refuses N postfix xs
  postfix_refused xs r = record { never = λ u zs d e. postfix_never r d }

  -- ---- each of them

  index_only : {l c m d : ℕ} {xs ys zs : List Tok} {b : Expr} {s : Suffix} → c ≡ left_bracket → d ≡ right_bracket
      → Reads N expr xs b (mark m d ∷ ys) → IsSuffix N (mark l c ∷ xs) zs s → (s ≡ at b) × (zs ≡ ys)
  index_only h k r (indexed {m = m'} {d = d'} {ys = ys'} {b = b'} h' k' e) = let q =
      r.only b' (mark m' d' ∷ ys') e (ends_at_bracket m' d' ys' k') in (ap (λ (x : Expr). at x) q.0, tail_is q.1)
  index_only h k r (called h' e) = absurd (apart left_bracket left_paren refl h h')
  index_only h k r (member h') = absurd (apart left_bracket dot refl h h')
  index_only h k r (pointed h') = absurd (apart left_bracket arrow refl h h')
  index_only h k r (incremented h') = absurd (apart left_bracket plus_plus refl h h')
  index_only h k r (decremented h') = absurd (apart left_bracket minus_minus refl h h')

  pub index_read : (l c m : ℕ) (ts xs ys zs : List Tok) (b : Expr) → ts ≡ mark l c ∷ xs → c ≡ left_bracket
      → Reads N expr xs b ys → AtMark right_bracket ys (Some (m, zs)) → Takes (IsSuffix N) ts (at b) zs
  index_read l c m ts xs ys zs b e h r k =
      let r' : Reads N expr xs b (mark m k.0 ∷ zs) = rw k.2 at r in
      rw e (record { holds = indexed h k.1 r'.derives; only = λ s us d. index_only h k.1 r' d })

  index_never : {l c : ℕ} {xs zs : List Tok} {s : Suffix} → c ≡ left_bracket → Refuses N expr xs
      → IsSuffix N (mark l c ∷ xs) zs s → ⊥
  index_never h r (indexed {m = m'} {d = d'} {ys = ys'} {b = b'} h' k' e) =
      r.never b' (mark m' d' ∷ ys') e (ends_at_bracket m' d' ys' k')
  index_never h r (called h' e) = apart left_bracket left_paren refl h h'
  index_never h r (member h') = apart left_bracket dot refl h h'
  index_never h r (pointed h') = apart left_bracket arrow refl h h'
  index_never h r (incremented h') = apart left_bracket plus_plus refl h h'
  index_never h r (decremented h') = apart left_bracket minus_minus refl h h'

  pub index_refused : (l c : ℕ) (ts xs : List Tok) → ts ≡ mark l c ∷ xs → c ≡ left_bracket → Refuses N expr xs
      → TakesNone (IsSuffix N) ts
  index_refused l c ts xs e h r = rw e (record { never = λ s zs d. index_never h r d })

  index_open : {l c : ℕ} {xs ys zs : List Tok} {b : Expr} {s : Suffix} → c ≡ left_bracket → Reads N expr xs b ys
      → Lacks right_bracket ys → IsSuffix N (mark l c ∷ xs) zs s → ⊥
  index_open {ys = ys} h r n (indexed {m = m'} {d = d'} {ys = ys'} {b = b'} h' k' e) =
      let q = r.only b' (mark m' d' ∷ ys') e (ends_at_bracket m' d' ys' k') in
      lacks_is m' d' right_bracket ys ys' n (sym q.1) k'
  index_open h r n (called h' e) = apart left_bracket left_paren refl h h'
  index_open h r n (member h') = apart left_bracket dot refl h h'
  index_open h r n (pointed h') = apart left_bracket arrow refl h h'
  index_open h r n (incremented h') = apart left_bracket plus_plus refl h h'
  index_open h r n (decremented h') = apart left_bracket minus_minus refl h h'

  pub index_unclosed : (l c : ℕ) (ts xs ys : List Tok) (b : Expr) → ts ≡ mark l c ∷ xs → c ≡ left_bracket
      → Reads N expr xs b ys → AtMark right_bracket ys None → TakesNone (IsSuffix N) ts
  index_unclosed l c ts xs ys b e h r n = rw e (record { never = λ s zs d. index_open h r n d })

  call_only : {l c : ℕ} {xs ys zs : List Tok} {bs : List Expr} {s : Suffix} → c ≡ left_paren
      → Takes (Arguments N) xs bs ys → IsSuffix N (mark l c ∷ xs) zs s → (s ≡ with bs) × (zs ≡ ys)
  call_only h t (called {ys = ys'} {bs = bs'} h' e) = let q = t.only bs' ys' e in
      (ap (λ (x : List Expr). with x) q.0, q.1)
  call_only h t (indexed h' k' e) = absurd (apart left_paren left_bracket refl h h')
  call_only h t (member h') = absurd (apart left_paren dot refl h h')
  call_only h t (pointed h') = absurd (apart left_paren arrow refl h h')
  call_only h t (incremented h') = absurd (apart left_paren plus_plus refl h h')
  call_only h t (decremented h') = absurd (apart left_paren minus_minus refl h h')

  pub call_read : (l c : ℕ) (ts xs ys : List Tok) (bs : List Expr) → ts ≡ mark l c ∷ xs → c ≡ left_paren
      → Takes (Arguments N) xs bs ys → Takes (IsSuffix N) ts (with bs) ys
  call_read l c ts xs ys bs e h t = rw e (record { holds = called h t.holds; only = λ s zs d. call_only h t d })

  call_never : {l c : ℕ} {xs zs : List Tok} {s : Suffix} → c ≡ left_paren → TakesNone (Arguments N) xs
      → IsSuffix N (mark l c ∷ xs) zs s → ⊥
  call_never h t (called {ys = ys'} {bs = bs'} h' e) = t.never bs' ys' e
  call_never h t (indexed h' k' e) = apart left_paren left_bracket refl h h'
  call_never h t (member h') = apart left_paren dot refl h h'
  call_never h t (pointed h') = apart left_paren arrow refl h h'
  call_never h t (incremented h') = apart left_paren plus_plus refl h h'
  call_never h t (decremented h') = apart left_paren minus_minus refl h h'

  pub call_refused : (l c : ℕ) (ts xs : List Tok) → ts ≡ mark l c ∷ xs → c ≡ left_paren → TakesNone (Arguments N) xs
      → TakesNone (IsSuffix N) ts
  call_refused l c ts xs e h t = rw e (record { never = λ s zs d. call_never h t d })

  member_only : {l c m : ℕ} {text : List ℕ} {xs zs : List Tok} {s : Suffix} → c ≡ dot
      → IsSuffix N (mark l c ∷ name m text ∷ xs) zs s → (s ≡ of text) × (zs ≡ xs)
  member_only h (member h') = (refl, refl)
  member_only h (called h' e) = absurd (apart dot left_paren refl h h')
  member_only h (indexed h' k' e) = absurd (apart dot left_bracket refl h h')
  member_only h (pointed h') = absurd (apart dot arrow refl h h')
  member_only h (incremented h') = absurd (apart dot plus_plus refl h h')
  member_only h (decremented h') = absurd (apart dot minus_minus refl h h')

  pub member_read : (l c m : ℕ) (text : List ℕ) (ts xs ys : List Tok) → ts ≡ mark l c ∷ xs → c ≡ dot
      → xs ≡ name m text ∷ ys → Takes (IsSuffix N) ts (of text) ys
  member_read l c m text ts xs ys e h k = rw (e, k) (record { holds = member h; only = λ s zs d. member_only h d })

  member_never : {l c : ℕ} {xs zs : List Tok} {s : Suffix} → c ≡ dot → LacksName xs → IsSuffix N (mark l c ∷ xs) zs s → ⊥
  member_never h n (member h') = n
  member_never h n (called h' e) = apart dot left_paren refl h h'
  member_never h n (indexed h' k' e) = apart dot left_bracket refl h h'
  member_never h n (pointed h') = apart dot arrow refl h h'
  member_never h n (incremented h') = apart dot plus_plus refl h h'
  member_never h n (decremented h') = apart dot minus_minus refl h h'

  pub member_refused : (l c : ℕ) (ts xs : List Tok) → ts ≡ mark l c ∷ xs → c ≡ dot → LacksName xs
      → TakesNone (IsSuffix N) ts
  member_refused l c ts xs e h n = rw e (record { never = λ s zs d. member_never h n d })

  arrow_only : {l c m : ℕ} {text : List ℕ} {xs zs : List Tok} {s : Suffix} → c ≡ arrow
      → IsSuffix N (mark l c ∷ name m text ∷ xs) zs s → (s ≡ through text) × (zs ≡ xs)
  arrow_only h (pointed h') = (refl, refl)
  arrow_only h (called h' e) = absurd (apart arrow left_paren refl h h')
  arrow_only h (indexed h' k' e) = absurd (apart arrow left_bracket refl h h')
  arrow_only h (member h') = absurd (apart arrow dot refl h h')
  arrow_only h (incremented h') = absurd (apart arrow plus_plus refl h h')
  arrow_only h (decremented h') = absurd (apart arrow minus_minus refl h h')

  pub arrow_read : (l c m : ℕ) (text : List ℕ) (ts xs ys : List Tok) → ts ≡ mark l c ∷ xs → c ≡ arrow
      → xs ≡ name m text ∷ ys → Takes (IsSuffix N) ts (through text) ys
  arrow_read l c m text ts xs ys e h k = rw (e, k) (record { holds = pointed h; only = λ s zs d. arrow_only h d })

  arrow_never : {l c : ℕ} {xs zs : List Tok} {s : Suffix} → c ≡ arrow → LacksName xs → IsSuffix N (mark l c ∷ xs) zs s → ⊥
  arrow_never h n (pointed h') = n
  arrow_never h n (called h' e) = apart arrow left_paren refl h h'
  arrow_never h n (indexed h' k' e) = apart arrow left_bracket refl h h'
  arrow_never h n (member h') = apart arrow dot refl h h'
  arrow_never h n (incremented h') = apart arrow plus_plus refl h h'
  arrow_never h n (decremented h') = apart arrow minus_minus refl h h'

  pub arrow_refused : (l c : ℕ) (ts xs : List Tok) → ts ≡ mark l c ∷ xs → c ≡ arrow → LacksName xs
      → TakesNone (IsSuffix N) ts
  arrow_refused l c ts xs e h n = rw e (record { never = λ s zs d. arrow_never h n d })

  increment_only : {l c : ℕ} {xs zs : List Tok} {s : Suffix} → c ≡ plus_plus → IsSuffix N (mark l c ∷ xs) zs s
      → (s ≡ increment) × (zs ≡ xs)
  increment_only h (incremented h') = (refl, refl)
  increment_only h (called h' e) = absurd (apart plus_plus left_paren refl h h')
  increment_only h (indexed h' k' e) = absurd (apart plus_plus left_bracket refl h h')
  increment_only h (member h') = absurd (apart plus_plus dot refl h h')
  increment_only h (pointed h') = absurd (apart plus_plus arrow refl h h')
  increment_only h (decremented h') = absurd (apart plus_plus minus_minus refl h h')

  pub increment_read : (l c : ℕ) (ts xs : List Tok) → ts ≡ mark l c ∷ xs → c ≡ plus_plus
      → Takes (IsSuffix N) ts increment xs
  increment_read l c ts xs e h = rw e (record { holds = incremented h; only = λ s zs d. increment_only h d })

  decrement_only : {l c : ℕ} {xs zs : List Tok} {s : Suffix} → c ≡ minus_minus → IsSuffix N (mark l c ∷ xs) zs s
      → (s ≡ decrement) × (zs ≡ xs)
  decrement_only h (decremented h') = (refl, refl)
  decrement_only h (called h' e) = absurd (apart minus_minus left_paren refl h h')
  decrement_only h (indexed h' k' e) = absurd (apart minus_minus left_bracket refl h h')
  decrement_only h (member h') = absurd (apart minus_minus dot refl h h')
  decrement_only h (pointed h') = absurd (apart minus_minus arrow refl h h')
  decrement_only h (incremented h') = absurd (apart minus_minus plus_plus refl h h')

  pub decrement_read : (l c : ℕ) (ts xs : List Tok) → ts ≡ mark l c ∷ xs → c ≡ minus_minus
      → Takes (IsSuffix N) ts decrement xs
  decrement_read l c ts xs e h = rw e (record { holds = decremented h; only = λ s zs d. decrement_only h d })

  other_never : {l c : ℕ} {xs zs : List Tok} {s : Suffix} → (c ≡ left_bracket → ⊥) → (c ≡ left_paren → ⊥)
      → (c ≡ dot → ⊥) → (c ≡ arrow → ⊥) → (c ≡ plus_plus → ⊥) → (c ≡ minus_minus → ⊥)
      → IsSuffix N (mark l c ∷ xs) zs s → ⊥
  other_never a b f g h k (indexed h' k' e) = a h'
  other_never a b f g h k (called h' e) = b h'
  other_never a b f g h k (member h') = f h'
  other_never a b f g h k (pointed h') = g h'
  other_never a b f g h k (incremented h') = h h'
  other_never a b f g h k (decremented h') = k h'

  pub other_refused : (l c : ℕ) (ts xs : List Tok) → ts ≡ mark l c ∷ xs → (c ≡ left_bracket → ⊥)
      → (c ≡ left_paren → ⊥) → (c ≡ dot → ⊥) → (c ≡ arrow → ⊥) → (c ≡ plus_plus → ⊥) → (c ≡ minus_minus → ⊥)
      → TakesNone (IsSuffix N) ts
  other_refused l c ts xs e a b f g h k = rw e (record { never = λ s zs d. other_never a b f g h k d })
