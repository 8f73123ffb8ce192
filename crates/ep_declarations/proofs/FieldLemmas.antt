-- What members declare, a declarator or a bit-field, one after the other up to the semicolon.
use Rattle.std.proofs.Common.{◌≡◌, ℕ, Bool, true, false, List, [], ◌∷◌, ◌++◌, Option, Some, None, refl, sym, ap, ◌∙◌}
use Rattle.std.proofs.Common.{append_assoc}
use Rattle.std.specs.Prelude.{◌==◌, ◌&&◌, not}
use Rattle.ep_ast.specs.Token.{Tok, name, mark}
use Rattle.ep_ast.specs.Expression.{Expr}
use Rattle.ep_ast.specs.Declaration.{Declarator, MemberField, whole, bits}
use Rattle.ep_ast.specs.TypeWords.{Stars, no_stars, one_star}
use Rattle.ep_ast.specs.DeclarationGrammar.{Bounds, no_bounds, open_bound, bound, Declared, declares, OneField}
use Rattle.ep_ast.specs.DeclarationGrammar.{whole_field, named_field, unnamed_field, Fields, last_field, next_field}
use Rattle.ep_ast.specs.Mark.{star, left_bracket, colon, comma, semicolon}
use Rattle.ep_ast.specs.Grammar.{expr}
use Rattle.ep_ast.specs.Reading.{Ends, Reads, Refuses, Takes, TakesNone, Lacks, AtMark}
use Rattle.ep_reading.specs.Answer.{TakesEnded, EndsNone}
use Rattle.ep_reading.proofs.FirstLemmas.{tail_is, code_is, lacks_is, apart}
use Rattle.ep_exprs.proofs.MarkLemmas.{ends_at_comma}
use Rattle.ep_declarations.specs.DeclaratorAnswer.{begins_bits, OpensBits}

ends_at_semicolon : (l c : ℕ) (ts : List Tok) → c ≡ semicolon → Ends expr (mark l c ∷ ts)
ends_at_semicolon l c ts k = rw k refl

-- ---- no star and no bound before a `:`

star_apart : {l c m : ℕ} {text ns : List ℕ} {us ys : List Tok} → c ≡ colon
    → Stars (mark l c ∷ us) (name m text ∷ ys) ns → ⊥
star_apart k (one_star h d r) = apart colon star refl k h

no_star_is : {l m : ℕ} {s t ns : List ℕ} {us ys : List Tok} → Stars (name l s ∷ us) (name m t ∷ ys) ns → ys ≡ us
no_star_is no_stars = refl

module _ (N : List ℕ → Bool) where
  no_bound_is : {m c : ℕ} {us vs : List Tok} {bs : List (Option Expr)} → c ≡ colon → Bounds N (mark m c ∷ us) vs bs
      → vs ≡ mark m c ∷ us
  no_bound_is k (no_bounds n) = refl
  no_bound_is k (open_bound h j b) = absurd (apart colon left_bracket refl k h)
  no_bound_is k (bound h j e b) = absurd (apart colon left_bracket refl k h)

  unnamed_apart : {l c : ℕ} {us vs : List Tok} {d : Declarator} → c ≡ colon → Declared N (mark l c ∷ us) vs d → ⊥
  unnamed_apart k (declares f s b) = star_apart k s.stars

  named_apart : {l m c : ℕ} {text : List ℕ} {us vs : List Tok} {d : Declarator} → c ≡ colon
      → Declared N (name l text ∷ mark m c ∷ us) vs d → Lacks colon vs → ⊥
  named_apart {m = m} {c = c} {us = us} {vs = vs} k (declares f s b) n =
      let e = no_bound_is k (rw (no_star_is s.stars) at b) in lacks_is m c colon vs us n e k

  -- ---- one

  unnamed_only : {l c : ℕ} {us zs vs : List Tok} {e : Expr} {u : MemberField} → c ≡ colon → Reads N expr us e vs
      → OneField N (mark l c ∷ us) zs u → Ends expr zs → (u ≡ bits l None e) × (zs ≡ vs)
  unnamed_only k r (whole_field d n) o = absurd (unnamed_apart k d)
  unnamed_only {l = l} {zs = zs} k r (unnamed_field {e = a} h d) o =
      let q = r.only a zs d o in (ap (λ (x : Expr). bits l None x) q.0, q.1)

  named_only : {l m c : ℕ} {text : List ℕ} {us zs vs : List Tok} {e : Expr} {u : MemberField} → c ≡ colon
      → Reads N expr us e vs → OneField N (name l text ∷ mark m c ∷ us) zs u → Ends expr zs
      → (u ≡ bits l (Some text) e) × (zs ≡ vs)
  named_only k r (whole_field d n) o = absurd (named_apart k d n)
  named_only {l = l} {text = text} {zs = zs} k r (named_field {e = a} f h d) o =
      let q = r.only a zs d o in (ap (λ (x : Expr). bits l (Some text) x) q.0, q.1)

  pub bits_read : (ts us vs : List Tok) (l : ℕ) (n : Option (List ℕ)) (e : Expr) → OpensBits N l n us ts
      → Reads N expr us e vs → TakesEnded (OneField N) ts (bits l n e) vs
  bits_read ts us vs l None e o r =
      rw o.2 (record { holds = unnamed_field o.1 r.derives; only = λ u zs d p. unnamed_only o.1 r d p })
  bits_read ts us vs l (Some text) e o r =
      rw o.4 (record { holds = named_field o.2 o.3 r.derives; only = λ u zs d p. named_only o.3 r d p })

  unnamed_never : {l c : ℕ} {us zs : List Tok} {u : MemberField} → c ≡ colon → Refuses N expr us
      → OneField N (mark l c ∷ us) zs u → Ends expr zs → ⊥
  unnamed_never k r (whole_field d n) o = unnamed_apart k d
  unnamed_never {zs = zs} k r (unnamed_field {e = a} h d) o = r.never a zs d o

  named_never : {l m c : ℕ} {text : List ℕ} {us zs : List Tok} {u : MemberField} → c ≡ colon → Refuses N expr us
      → OneField N (name l text ∷ mark m c ∷ us) zs u → Ends expr zs → ⊥
  named_never k r (whole_field d n) o = named_apart k d n
  named_never {zs = zs} k r (named_field {e = a} f h d) o = r.never a zs d o

  pub bits_refused : (ts us : List Tok) (l : ℕ) (n : Option (List ℕ)) → OpensBits N l n us ts → Refuses N expr us
      → EndsNone (OneField N) ts
  bits_refused ts us l None o r = rw o.2 (record { never = λ u zs d p. unnamed_never o.1 r d p })
  bits_refused ts us l (Some text) o r = rw o.4 (record { never = λ u zs d p. named_never o.3 r d p })

  begins_named : (text : List ℕ) (c : ℕ) → N text ≡ false → c ≡ colon → (not (N text) && c == colon) ≡ true
  begins_named text c f k = rw (f, k) refl

  begins_unnamed : (c : ℕ) → c ≡ colon → (c == colon) ≡ true
  begins_unnamed c k = rw k refl

  whole_only : {xs ys zs : List Tok} {d : Declarator} {u : MemberField} → begins_bits N xs ≡ false
      → Takes (Declared N) xs d ys → OneField N xs zs u → (u ≡ whole d) × (zs ≡ ys)
  whole_only {zs = zs} b t (whole_field {d = d'} e n) = let q = t.only d' zs e in
      (ap (λ (x : Declarator). whole x) q.0, q.1)
  whole_only b t (named_field {c = c} {text = text} f h e) = let g = begins_named text c f h in absurd cc
  whole_only b t (unnamed_field {c = c} h e) = let g = begins_unnamed c h in absurd cc

  pub whole_read : (xs ys : List Tok) (d : Declarator) → begins_bits N xs ≡ false → Takes (Declared N) xs d ys
      → Lacks colon ys → TakesEnded (OneField N) xs (whole d) ys
  whole_read xs ys d b t n = record { holds = whole_field t.holds n; only = λ u zs e o. whole_only b t e }

  whole_never : {xs zs : List Tok} {u : MemberField} → begins_bits N xs ≡ false
      → ((d : Declarator) → Declared N xs zs d → Lacks colon zs → ⊥) → OneField N xs zs u → ⊥
  whole_never b k (whole_field {d = d} e n) = k d e n
  whole_never b k (named_field {c = c} {text = text} f h e) = let g = begins_named text c f h in absurd cc
  whole_never b k (unnamed_field {c = c} h e) = let g = begins_unnamed c h in absurd cc

  pub whole_refused : (xs : List Tok) → begins_bits N xs ≡ false → TakesNone (Declared N) xs
      → EndsNone (OneField N) xs
  whole_refused xs b t = record { never = λ u zs d o. whole_never b (λ e k n. t.never e zs k) d }

  pub colon_refused : (xs ys zs : List Tok) (l : ℕ) (d : Declarator) → begins_bits N xs ≡ false
      → Takes (Declared N) xs d ys → AtMark colon ys (Some (l, zs)) → EndsNone (OneField N) xs
  colon_refused xs ys zs l d b t k = record {
    never = λ u ws f o.
        whole_never b (λ e g n. lacks_is l k.0 colon ws zs n ((t.only e ws g).1 ∙ k.2) k.1) f;
  }

  -- ---- all

  -- these are read, and what comes is a list again
  pub record FieldsSo (xs : List Tok) (front : List MemberField) (ys : List Tok) : Type 0 where
    pub forth : (zs : List Tok) (is : List MemberField) → Fields N ys zs is → Fields N xs zs (front ++ is)
    pub back : (zs : List Tok) (is : List MemberField) → Fields N xs zs is
        → (more : List MemberField) × (is ≡ front ++ more) × Fields N ys zs more

  one_more : (front : List MemberField) {ys ws zs : List Tok} {m d : ℕ} {a : MemberField} {is rest : List MemberField}
      → d ≡ comma → TakesEnded (OneField N) ys a (mark m d ∷ ws) → is ≡ front ++ rest → Fields N ys zs rest
      → (more : List MemberField) × (is ≡ (front ++ a ∷ []) ++ more) × Fields N ws zs more
  one_more front k r e (last_field {l = m'} {c = d'} {ys = ys'} {f = a'} k' f) =
      let q = r.only a' (mark m' d' ∷ ys') f (ends_at_semicolon m' d' ys' k') in
      absurd (apart semicolon comma refl k' (code_is q.1 ∙ k))
  one_more front {a = a} k r e (next_field {l = m'} {c = d'} {ys = ys'} {f = a'} {fs = is'} k' f g) =
      let q = r.only a' (mark m' d' ∷ ys') f (ends_at_comma m' d' ys' k') in (
        is',
        e ∙ ap (λ (b : MemberField). front ++ b ∷ is') q.0 ∙ sym (append_assoc front (a ∷ []) is'),
        rw (tail_is q.1) at g,
      )

  pub fields_step : (xs : List Tok) (front : List MemberField) (ys ws zs : List Tok) (l : ℕ) (a : MemberField)
      → FieldsSo xs front ys → TakesEnded (OneField N) ys a ws → AtMark comma ws (Some (l, zs)) → FieldsSo xs (front ++ a ∷ []) zs
  fields_step xs front ys ws zs l a s r k =
      let r' : TakesEnded (OneField N) ys a (mark l k.0 ∷ zs) = rw k.2 at r in
      record {
        forth = λ us is e. rw append_assoc (s.forth us (a ∷ is) (next_field k.1 r'.holds e));
        back = λ us is e. let q = s.back us is e in one_more front k.1 r' q.1 q.2;
      }

  at_last : (front : List MemberField) {ys ws zs : List Tok} {m d : ℕ} {a : MemberField} {is rest : List MemberField}
      → d ≡ semicolon → TakesEnded (OneField N) ys a (mark m d ∷ ws) → is ≡ front ++ rest → Fields N ys zs rest
      → (is ≡ front ++ a ∷ []) × (zs ≡ ws)
  at_last front k r e (last_field {l = m'} {c = d'} {ys = ys'} {f = a'} k' f) =
      let q = r.only a' (mark m' d' ∷ ys') f (ends_at_semicolon m' d' ys' k') in
      (e ∙ ap (λ (b : MemberField). front ++ b ∷ []) q.0, tail_is q.1)
  at_last front k r e (next_field {l = m'} {c = d'} {ys = ys'} {f = a'} k' f g) =
      let q = r.only a' (mark m' d' ∷ ys') f (ends_at_comma m' d' ys' k') in
      absurd (apart comma semicolon refl k' (code_is q.1 ∙ k))

  pub fields_done : (xs : List Tok) (front : List MemberField) (ys ws zs : List Tok) (l : ℕ) (a : MemberField)
      → FieldsSo xs front ys → TakesEnded (OneField N) ys a ws → AtMark semicolon ws (Some (l, zs))
      → Takes (Fields N) xs (front ++ a ∷ []) zs
  fields_done xs front ys ws zs l a s r k =
      let r' : TakesEnded (OneField N) ys a (mark l k.0 ∷ zs) = rw k.2 at r in
      record {
        holds = s.forth zs (a ∷ []) (last_field k.1 r'.holds);
        only = λ is us e. let q = s.back us is e in
            at_last front k.1 r' q.1 q.2;
      }

  gap_never : {ys ws zs : List Tok} {a : MemberField} {is : List MemberField} → TakesEnded (OneField N) ys a ws
      → Lacks semicolon ws → Lacks comma ws → Fields N ys zs is → ⊥
  gap_never {ws = ws} r n o (last_field {l = m} {c = d} {ys = ys} {f = a} k e) = let q =
      r.only a (mark m d ∷ ys) e (ends_at_semicolon m d ys k) in lacks_is m d semicolon ws ys n (sym q.1) k
  gap_never {ws = ws} r n o (next_field {l = m} {c = d} {ys = ys} {f = a} k e g) = let q =
      r.only a (mark m d ∷ ys) e (ends_at_comma m d ys k) in lacks_is m d comma ws ys o (sym q.1) k

  pub gap_refused : (xs : List Tok) (front : List MemberField) (ys ws : List Tok) (a : MemberField)
      → FieldsSo xs front ys → TakesEnded (OneField N) ys a ws → Lacks semicolon ws → Lacks comma ws → TakesNone (Fields N) xs
  gap_refused xs front ys ws a s r k o = record { never = λ is zs e. let q = s.back zs is e in gap_never r k o q.2 }
