-- Casts, prefix operators and `sizeof`.
use Rattle.std.proofs.Common.{◌≡◌, ℕ, Bool, true, false, List, ◌∷◌, Some, refl}
use Rattle.std.proofs.lemmas.Bool.{and_parts}
use Rattle.std.specs.Prelude.{◌==◌, ◌&&◌, ◌||◌}
use Rattle.std.proofs.lemmas.Bool.{eqb-true}
use Rattle.ep_ast.specs.Token.{Tok, word, mark}
use Rattle.ep_ast.specs.Expression as tree
use Rattle.ep_ast.specs.Expression.{Expr, TypeName, TypeWord}
use Rattle.ep_ast.specs.Mark.{left_paren, sizeof_word}
use Rattle.ep_ast.specs.TypeWords.{TypeNamed, closed, Words, no_words, more_words, names_type, begins_type}
use Rattle.ep_ast.specs.TypeWords.{is_type_word, is_tag_word}
use Rattle.ep_ast.specs.Grammar.{is_prefix, is_step, Rule, cast, unary, postfix, primary, Derives, assigns, assigns_not}
use Rattle.ep_ast.specs.Grammar.{chooses, chooses_not, left, tighter, operand, casts, casts_not, steps, prefixed, sized}
use Rattle.ep_ast.specs.Grammar.{sized_type, unary_not, suffixed, suffixed_not, names, numbers, parens}
use Rattle.ep_ast.specs.Reading.{Ends, Reads, Refuses, Takes, TakesNone}
use Rattle.ep_exprs.specs.Look.{begins_cast, AtCast}
use Rattle.ep_exprs.specs.Pending.{begins_unary}
use Rattle.ep_exprs.proofs.MarkLemmas.{ends_unary, ends_cast, ends_postfix, prefix_not_paren, step_not_paren}
use Rattle.ep_exprs.proofs.MarkLemmas.{prefix_not_step}
use Rattle.ep_type_names.proofs.TypeWordLemmas.{one_begins}

sizeof_no_type : (w : ℕ) → w ≡ sizeof_word → (is_type_word w || is_tag_word w) ≡ true → ⊥
sizeof_no_type w k h = let f : (is_type_word sizeof_word || is_tag_word sizeof_word) ≡ true = rw k at h in cc

paren_is : (c : ℕ) (b : Bool) → (c == left_paren && b) ≡ true → (c ≡ left_paren) × (b ≡ true)
paren_is c b h = let q = and_parts (c == left_paren) b h in (eqb-true c left_paren q.0, q.1)

module _ (N : List ℕ → Bool) where
  -- nothing begins with a word of a type
  no_type : {r : Rule} {xs zs : List Tok} {u : Expr} → begins_type N xs ≡ true → Derives N r xs zs u → ⊥
  no_type h (assigns k d e) = no_type h d
  no_type h (assigns_not d) = no_type h d
  no_type h (chooses j k d e f) = no_type h d
  no_type h (chooses_not d) = no_type h d
  no_type h (left k p d e) = no_type h d
  no_type h (tighter k d) = no_type h d
  no_type h (operand k d) = no_type h d
  no_type h (casts k t d) = cc
  no_type h (casts_not d) = no_type h d
  no_type h (steps k d) = cc
  no_type h (prefixed k d) = cc
  no_type h (sized {w = w} k d) = sizeof_no_type w k h
  no_type h (sized_type {w = w} k j t) = sizeof_no_type w k h
  no_type h (unary_not d) = no_type h d
  no_type h (suffixed d s) = no_type h d
  no_type h (suffixed_not d) = no_type h d
  no_type h (names k) = cc
  no_type h numbers = cc
  no_type h (parens j k d) = cc

  -- no unary begins as a cast does
  no_primary : {xs zs : List Tok} {u : Expr} → begins_cast N xs ≡ true → Derives N primary xs zs u → ⊥
  no_primary h (names k) = cc
  no_primary h numbers = cc
  no_primary h (parens {c = c} {xs = xs} j k d) = no_type (paren_is c (begins_type N xs) h).1 d

  no_postfix : {xs zs : List Tok} {u : Expr} → begins_cast N xs ≡ true → Derives N postfix xs zs u → ⊥
  no_postfix h (suffixed d s) = no_postfix h d
  no_postfix h (suffixed_not d) = no_primary h d

  pub no_unary : {xs zs : List Tok} {u : Expr} → begins_cast N xs ≡ true → Derives N unary xs zs u → ⊥
  no_unary h (steps {c = c} {xs = xs} k d) = step_not_paren c k (paren_is c (begins_type N xs) h).0
  no_unary h (prefixed {c = c} {xs = xs} k d) = prefix_not_paren c k (paren_is c (begins_type N xs) h).0
  no_unary h (sized k d) = cc
  no_unary h (sized_type k j t) = cc
  no_unary h (unary_not d) = no_postfix h d

  pub bare_refused : (ts : List Tok) → begins_cast N ts ≡ true → Refuses N unary ts
  bare_refused ts h = record { never = λ u zs d e. no_unary h d }

  -- ---- casts

  some_words : {xs ys : List Tok} {ws : List TypeWord} → Words N xs ys ws → names_type ws ≡ true
      → begins_type N xs ≡ true
  some_words no_words h = cc
  some_words (more_words d r) h = one_begins N d

  named_begins : {xs ys : List Tok} {t : TypeName} → TypeNamed N xs ys t → begins_type N xs ≡ true
  named_begins (closed k a s) = some_words a.words a.named_type

  pub cast_begins : (c : ℕ) (inside : List Tok) → c ≡ left_paren → begins_type N inside ≡ true
      → (c == left_paren && begins_type N inside) ≡ true
  cast_begins c inside h k = rw (h, k) refl

  cast_only : {l c : ℕ} {xs ys zs ws : List Tok} {t : TypeName} {a u : Expr} → c ≡ left_paren → begins_type N xs ≡ true
      → Takes (TypeNamed N) xs t ys → Reads N cast ys a zs
      → Derives N cast (mark l c ∷ xs) ws u → Ends cast ws → (u ≡ tree.cast l t a) × (ws ≡ zs)
  cast_only {l = l} h b t r (casts {ys = ys'} {zs = ws} {t = t'} {a = a'} h' d e) f =
      let p = t.only t' ys' d in
      let q = r.only a' ws (rw p.1 at e) f in
      (rw (p.0, q.0) refl, q.1)
  cast_only {c = c} {xs = xs} h b t r (casts_not d) f = absurd (no_unary (cast_begins c xs h b) d)

  pub cast_read : (ts inside ys zs : List Tok) (l : ℕ) (t : TypeName) (a : Expr) → AtCast N ts (Some (l, inside))
      → Takes (TypeNamed N) inside t ys → Reads N cast ys a zs → Reads N cast ts (tree.cast l t a) zs
  cast_read ts inside ys zs l t a k n r = rw k.3 (record {
    derives = casts k.1 n.holds r.derives;
    only = λ u ws d f. cast_only k.1 k.2 n r d f;
  })

  cast_never : {l c : ℕ} {xs ys ws : List Tok} {t : TypeName} {u : Expr} → c ≡ left_paren → begins_type N xs ≡ true
      → Takes (TypeNamed N) xs t ys → Refuses N cast ys → Derives N cast (mark l c ∷ xs) ws u → Ends cast ws → ⊥
  cast_never h b t r (casts {ys = ys'} {zs = ws} {t = t'} {a = a'} h' d e) f = let p = t.only t' ys' d in
      r.never a' ws (rw p.1 at e) f
  cast_never {c = c} {xs = xs} h b t r (casts_not d) f = no_unary (cast_begins c xs h b) d

  pub cast_refused : (ts inside ys : List Tok) (l : ℕ) (t : TypeName) → AtCast N ts (Some (l, inside))
      → Takes (TypeNamed N) inside t ys → Refuses N cast ys → Refuses N cast ts
  cast_refused ts inside ys l t k n r = rw k.3 (record { never = λ u ws d f. cast_never k.1 k.2 n r d f })

  type_never : {l c : ℕ} {xs ws : List Tok} {u : Expr} → c ≡ left_paren → begins_type N xs ≡ true
      → TakesNone (TypeNamed N) xs → Derives N cast (mark l c ∷ xs) ws u → ⊥
  type_never h b n (casts {ys = ys} {t = t} h' d e) = n.never t ys d
  type_never {c = c} {xs = xs} h b n (casts_not d) = no_unary (cast_begins c xs h b) d

  pub type_refused : (ts inside : List Tok) (l : ℕ) → AtCast N ts (Some (l, inside)) → TakesNone (TypeNamed N) inside
      → Refuses N cast ts
  type_refused ts inside l k n = rw k.3 (record { never = λ u ws d f. type_never k.1 k.2 n d })

  pub at_cast_begins : (ts inside : List Tok) (l : ℕ) → AtCast N ts (Some (l, inside)) → begins_cast N ts ≡ true
  at_cast_begins ts inside l k = rw k.3 (cast_begins k.0 inside k.1 k.2)

  -- ---- unary

  as_unary : {xs zs : List Tok} {u : Expr} → begins_cast N xs ≡ false → Derives N cast xs zs u → Derives N unary xs zs u
  as_unary b (casts {c = c} {xs = xs} h t e) = absurd (let k = cast_begins c xs h (named_begins t) in cc)
  as_unary b (casts_not e) = e

  pub uncast_read : (xs ys : List Tok) (a : Expr) → begins_cast N xs ≡ false → Reads N unary xs a ys
      → Reads N cast xs a ys
  uncast_read xs ys a b r = record {
    derives = casts_not r.derives;
    only = λ u zs d e. r.only u zs (as_unary b d) (ends_unary zs e);
  }

  pub uncast_refused : (xs : List Tok) → begins_cast N xs ≡ false → Refuses N unary xs → Refuses N cast xs
  uncast_refused xs b r = record { never = λ u zs d e. r.never u zs (as_unary b d) (ends_unary zs e) }

  pub unary_read : (xs ys : List Tok) (a : Expr) → begins_cast N xs ≡ false → Reads N cast xs a ys
      → Reads N unary xs a ys
  unary_read xs ys a b r = record {
    derives = as_unary b r.derives;
    only = λ u zs d e. r.only u zs (casts_not d) (ends_cast zs e);
  }

  -- a mark that begins a postfix expression is a parenthesis
  primary_mark : {l c : ℕ} {xs zs : List Tok} {u : Expr} → Derives N primary (mark l c ∷ xs) zs u → c ≡ left_paren
  primary_mark (parens h k d) = h

  postfix_mark : {l c : ℕ} {xs zs : List Tok} {u : Expr} → Derives N postfix (mark l c ∷ xs) zs u → c ≡ left_paren
  postfix_mark (suffixed d s) = postfix_mark d
  postfix_mark (suffixed_not d) = primary_mark d

  primary_word : {l c : ℕ} {xs zs : List Tok} {u : Expr} → Derives N primary (word l c ∷ xs) zs u → ⊥
  primary_word d = elim d [ ]

  postfix_word : {l c : ℕ} {xs zs : List Tok} {u : Expr} → Derives N postfix (word l c ∷ xs) zs u → ⊥
  postfix_word (suffixed d s) = postfix_word d
  postfix_word (suffixed_not d) = primary_word d

  prefix_only : {l c : ℕ} {xs ys zs : List Tok} {a u : Expr} → is_prefix c ≡ true → Reads N cast xs a ys
      → Derives N unary (mark l c ∷ xs) zs u → Ends unary zs → (u ≡ tree.unary l c a) × (zs ≡ ys)
  prefix_only h r (prefixed {ys = zs} {a = a'} p d) e = let g = r.only a' zs d (ends_cast zs e) in (rw g.0 refl, g.1)
  prefix_only {c = c} h r (steps k d) e = absurd (prefix_not_step c h k)
  prefix_only {c = c} h r (unary_not d) e = absurd (prefix_not_paren c h (postfix_mark d))

  pub prefix_read : (l c : ℕ) (ts xs ys : List Tok) (a : Expr) → ts ≡ mark l c ∷ xs → is_prefix c ≡ true
      → Reads N cast xs a ys → Reads N unary ts (tree.unary l c a) ys
  prefix_read l c ts xs ys a e h r = rw e (record {
    derives = prefixed h r.derives;
    only = λ u zs d o. prefix_only h r d o;
  })

  prefix_never : {l c : ℕ} {xs zs : List Tok} {u : Expr} → is_prefix c ≡ true → Refuses N cast xs
      → Derives N unary (mark l c ∷ xs) zs u → Ends unary zs → ⊥
  prefix_never h r (prefixed {ys = zs} {a = a'} p d) e = r.never a' zs d (ends_cast zs e)
  prefix_never {c = c} h r (steps k d) e = prefix_not_step c h k
  prefix_never {c = c} h r (unary_not d) e = prefix_not_paren c h (postfix_mark d)

  pub prefix_refused : (l c : ℕ) (ts xs : List Tok) → ts ≡ mark l c ∷ xs → is_prefix c ≡ true → Refuses N cast xs
      → Refuses N unary ts
  prefix_refused l c ts xs e h r = rw e (record { never = λ u zs d o. prefix_never h r d o })

  step_only : {l c : ℕ} {xs ys zs : List Tok} {a u : Expr} → is_step c ≡ true → Reads N unary xs a ys
      → Derives N unary (mark l c ∷ xs) zs u → Ends unary zs → (u ≡ tree.step l c a) × (zs ≡ ys)
  step_only h r (steps {ys = zs} {a = a'} p d) e = let g = r.only a' zs d e in (rw g.0 refl, g.1)
  step_only {c = c} h r (prefixed k d) e = absurd (prefix_not_step c k h)
  step_only {c = c} h r (unary_not d) e = absurd (step_not_paren c h (postfix_mark d))

  pub step_read : (l c : ℕ) (ts xs ys : List Tok) (a : Expr) → ts ≡ mark l c ∷ xs → is_step c ≡ true
      → Reads N unary xs a ys → Reads N unary ts (tree.step l c a) ys
  step_read l c ts xs ys a e h r = rw e (record { derives = steps h r.derives; only = λ u zs d o. step_only h r d o })

  step_never : {l c : ℕ} {xs zs : List Tok} {u : Expr} → is_step c ≡ true → Refuses N unary xs
      → Derives N unary (mark l c ∷ xs) zs u → Ends unary zs → ⊥
  step_never h r (steps {ys = zs} {a = a'} p d) e = r.never a' zs d e
  step_never {c = c} h r (prefixed k d) e = prefix_not_step c k h
  step_never {c = c} h r (unary_not d) e = step_not_paren c h (postfix_mark d)

  pub step_refused : (l c : ℕ) (ts xs : List Tok) → ts ≡ mark l c ∷ xs → is_step c ≡ true → Refuses N unary xs
      → Refuses N unary ts
  step_refused l c ts xs e h r = rw e (record { never = λ u zs d o. step_never h r d o })

  sized_only : {l w : ℕ} {xs ys zs : List Tok} {a u : Expr} → begins_cast N xs ≡ false → Reads N unary xs a ys
      → Derives N unary (word l w ∷ xs) zs u → Ends unary zs → (u ≡ tree.sizeof_expr l a) × (zs ≡ ys)
  sized_only b r (sized {ys = zs} {a = a'} k d) e = let g = r.only a' zs d e in (rw g.0 refl, g.1)
  sized_only b r (sized_type {c = c} {xs = xs} k j t) e = absurd (let f = cast_begins c xs j (named_begins t) in cc)
  sized_only b r (unary_not d) e = absurd (postfix_word d)

  pub sized_read : (l w : ℕ) (ts xs ys : List Tok) (a : Expr) → ts ≡ word l w ∷ xs → w ≡ sizeof_word
      → begins_cast N xs ≡ false → Reads N unary xs a ys → Reads N unary ts (tree.sizeof_expr l a) ys
  sized_read l w ts xs ys a e h b r = rw e (record {
    derives = sized h r.derives;
    only = λ u zs d o. sized_only b r d o;
  })

  sized_never : {l w : ℕ} {xs zs : List Tok} {u : Expr} → begins_cast N xs ≡ false → Refuses N unary xs
      → Derives N unary (word l w ∷ xs) zs u → Ends unary zs → ⊥
  sized_never b r (sized {ys = zs} {a = a'} k d) e = r.never a' zs d e
  sized_never b r (sized_type {c = c} {xs = xs} k j t) e = let f = cast_begins c xs j (named_begins t) in absurd cc
  sized_never b r (unary_not d) e = postfix_word d

  pub sized_refused : (l w : ℕ) (ts xs : List Tok) → ts ≡ word l w ∷ xs → begins_cast N xs ≡ false → Refuses N unary xs
      → Refuses N unary ts
  sized_refused l w ts xs e b r = rw e (record { never = λ u zs d o. sized_never b r d o })

  size_type_only : {l w m c : ℕ} {xs ys zs : List Tok} {t : TypeName} {u : Expr} → c ≡ left_paren
      → begins_type N xs ≡ true → Takes (TypeNamed N) xs t ys → Derives N unary (word l w ∷ mark m c ∷ xs) zs u
      → (u ≡ tree.sizeof_type l t) × (zs ≡ ys)
  size_type_only {c = c} {xs = xs} h b t (sized k d) = absurd (no_unary (cast_begins c xs h b) d)
  size_type_only h b t (sized_type {ys = zs} {t = t'} k j d) = let q = t.only t' zs d in (rw q.0 refl, q.1)
  size_type_only h b t (unary_not d) = absurd (postfix_word d)

  pub size_type_read : (l w m : ℕ) (ts us inside ys : List Tok) (t : TypeName) → ts ≡ word l w ∷ us → w ≡ sizeof_word
      → AtCast N us (Some (m, inside)) → Takes (TypeNamed N) inside t ys → Reads N unary ts (tree.sizeof_type l t) ys
  size_type_read l w m ts us inside ys t e h k n = rw (e, k.3)
      (record { derives = sized_type h k.1 n.holds; only = λ u zs d o. size_type_only k.1 k.2 n d })

  size_type_never : {l w m c : ℕ} {xs zs : List Tok} {u : Expr} → c ≡ left_paren → begins_type N xs ≡ true
      → TakesNone (TypeNamed N) xs → Derives N unary (word l w ∷ mark m c ∷ xs) zs u → ⊥
  size_type_never {c = c} {xs = xs} h b n (sized k d) = no_unary (cast_begins c xs h b) d
  size_type_never h b n (sized_type {ys = zs} {t = t'} k j d) = n.never t' zs d
  size_type_never h b n (unary_not d) = postfix_word d

  pub size_type_refused : (l w m : ℕ) (ts us inside : List Tok) → ts ≡ word l w ∷ us → AtCast N us (Some (m, inside))
      → TakesNone (TypeNamed N) inside → Refuses N unary ts
  size_type_refused l w m ts us inside e k n = rw (e, k.3) (record { never = λ u zs d o. size_type_never k.1 k.2 n d })

  or_true : (a b : Bool) → a ≡ true → (a || b) ≡ true
  or_true a b h = rw h refl

  or_else : (a b : Bool) → b ≡ true → (a || b) ≡ true
  or_else true b h = refl
  or_else false b h = h

  is_sizeof : (w : ℕ) → w ≡ sizeof_word → (w == sizeof_word) ≡ true
  is_sizeof w h = rw h refl

  as_postfix : {xs zs : List Tok} {u : Expr} → begins_unary xs ≡ false → Derives N unary xs zs u
      → Derives N postfix xs zs u
  as_postfix b (prefixed {c = c} p d) = absurd (let k = or_true (is_prefix c) (is_step c) p in cc)
  as_postfix b (steps {c = c} p d) = absurd (let k = or_else (is_prefix c) (is_step c) p in cc)
  as_postfix b (sized {w = w} k d) = absurd (let h = is_sizeof w k in cc)
  as_postfix b (sized_type {w = w} k j t) = absurd (let h = is_sizeof w k in cc)
  as_postfix b (unary_not d) = d

  pub plain_read : (xs ys : List Tok) (a : Expr) → begins_unary xs ≡ false → Reads N postfix xs a ys
      → Reads N unary xs a ys
  plain_read xs ys a b r = record {
    derives = unary_not r.derives;
    only = λ u zs d e. r.only u zs (as_postfix b d) (ends_postfix zs e);
  }

  pub plain_refused : (xs : List Tok) → begins_unary xs ≡ false → Refuses N postfix xs → Refuses N unary xs
  plain_refused xs b r = record { never = λ u zs d e. r.never u zs (as_postfix b d) (ends_postfix zs e) }
