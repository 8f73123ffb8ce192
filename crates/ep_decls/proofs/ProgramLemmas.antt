-- Whole programs: read item by item, with the names that are types before each.
use Rattle.std.proofs.Common.{◌≡◌, ℕ, Bool, true, false, List, [], ◌∷◌, ◌++◌, Some, None, refl, sym, ap, ◌∙◌}
use Rattle.std.proofs.Common.{append_assoc, map, length, arith}
use Rattle.std.specs.Prelude.{◌==◌}
use Rattle.std.proofs.lemmas.List.{append-nil}
use Rattle.std.proofs.lemmas.Bool.{eqb-true}
use Rattle.ep_ast.specs.declared.refusals.Refusal.{Refusal}
use Rattle.ep_ast.specs.declared.refusals.Halt.{Halt}
use Rattle.ep_ast.specs.declared.refusals.Halt.TheVariants as halts
use Rattle.ep_ast.specs.Refusal.{IfRefused}
use Rattle.ep_ast.specs.Token.{Tok}
use Rattle.ep_ast.specs.Statement.{Item}
use Rattle.ep_ast.specs.ProgramGrammar as programs
use Rattle.ep_ast.specs.ProgramGrammar.{OneItem, Items, no_items, more_items, Programs}
use Rattle.ep_ast.specs.Depth.{brackets_past, too_deep}
use Rattle.ep_ast.specs.Offence as offences
use Rattle.ep_ast.specs.Offence.{Offends, refusal}
use Rattle.ep_ast.specs.Reading.{Takes, TakesNone, Stops}
use Rattle.ep_lexer.specs.declared.tokens.Token.{Token}
use Rattle.ep_lexer.specs.Tokens.{view}
use Rattle.ep_decls.specs.Answer.{defines, prototype, declares, completes, Itemed, NoneFits, Whole, whole}
use Rattle.ep_decls.proofs.BeginLemmas.{worded_not}

-- no item begins where there is no token
no_item : {N M : List ℕ → Bool} {zs : List Tok} {i : Item} → OneItem N M [] zs i → ⊥
no_item {N = N} (programs.defines d) = worded_not N refl (defines d)
no_item {N = N} (programs.prototype e d) = worded_not N refl (prototype e d)
no_item {N = N} (programs.declares d) = worded_not N refl (declares d)
no_item {N = N} (programs.completes e d) = worded_not N refl (completes e d)

-- these are read, and what comes are items again
pub record ItemsSo (xs : List Tok) (front : List Item) (N : List ℕ → Bool) (ys : List Tok) : Type 0 where
  pub forth : (is : List Item) → Items N ys is → Programs xs (front ++ is)
  pub back : (is : List Item) → Programs xs is → (more : List Item) × (is ≡ front ++ more) × Items N ys more

one_more : (front : List Item) {N M : List ℕ → Bool} {ys zs : List Tok} {i : Item} {is rest : List Item}
    → Takes (Itemed N) ys (i, M) zs → is ≡ front ++ rest → Items N ys rest
    → (more : List Item) × (is ≡ (front ++ i ∷ []) ++ more) × Items M zs more
one_more front t e no_items = absurd (no_item t.holds)
one_more front {i = i} t e (more_items {after = after} {ys = ys'} {i = i'} {is = is'} d r) =
    let q = t.only (i', after) ys' d in (
      is',
      e ∙ ap (λ (v : Item × (List ℕ → Bool)). front ++ v.0 ∷ is') q.0 ∙ sym (append_assoc front (i ∷ []) is'),
      rw (← ap (λ (v : Item × (List ℕ → Bool)). v.1) q.0, ← q.1) r,
    )

step : (xs : List Tok) (front : List Item) (N M : List ℕ → Bool) (ys zs : List Tok) (i : Item) → ItemsSo xs front N ys
    → Takes (Itemed N) ys (i, M) zs → ItemsSo xs (front ++ i ∷ []) M zs
step xs front N M ys zs i s t = record {
  forth = λ is d. rw append_assoc (s.forth (i ∷ is) (more_items t.holds d));
  back = λ is d. let q = s.back is d in one_more front t q.1 q.2;
}

pub items_step : (xs : List Tok) (front : List Item) (N M : List ℕ → Bool) (ys zs : List Tok)
    (v : Item × (List ℕ → Bool)) → v.1 ≡ M → ItemsSo xs front N ys → Takes (Itemed N) ys v zs
    → ItemsSo xs (front ++ v.0 ∷ []) M zs
items_step xs front N M ys zs v e s t = rw (← e) (step xs front N v.1 ys zs v.0 s t)

none_only : {N : List ℕ → Bool} {is : List Item} → Items N [] is → is ≡ []
none_only no_items = refl
none_only (more_items d r) = absurd (no_item d)

whole_only : (front : List Item) {N : List ℕ → Bool} {xs zs : List Tok} {is : List Item} → ItemsSo xs front N []
    → Whole xs zs is → (is ≡ front) × (zs ≡ [])
whole_only front {is = is} s (whole d) = let q = s.back is d in
    (q.1 ∙ ap (λ (us : List Item). front ++ us) (none_only q.2) ∙ append-nil front, refl)

pub items_done : (xs : List Tok) (front : List Item) (N : List ℕ → Bool) (ys : List Tok) → ys ≡ []
    → ItemsSo xs front N ys → Takes Whole xs front []
items_done xs front N ys e s =
    let s' : ItemsSo xs front N [] = rw e at s in
    record { holds = whole (rw append-nil at (s'.forth [] no_items)); only = λ is zs d. whole_only front s' d }

none_never : {N : List ℕ → Bool} {ys : List Tok} {is : List Item} → (ys ≡ [] → ⊥) → TakesNone (Itemed N) ys
    → Items N ys is → ⊥
none_never h n no_items = h refl
none_never h n (more_items {after = after} {ys = zs} {i = i} d r) = n.never (i, after) zs d

whole_never : {front : List Item} {N : List ℕ → Bool} {xs ys zs : List Tok} {is : List Item} → (ys ≡ [] → ⊥)
    → ItemsSo xs front N ys → TakesNone (Itemed N) ys → Whole xs zs is → ⊥
whole_never {is = is} h s n (whole d) = none_never h n (s.back is d).2

pub items_refused : (xs : List Tok) (front : List Item) (N : List ℕ → Bool) (ys : List Tok) → (ys ≡ [] → ⊥)
    → ItemsSo xs front N ys → TakesNone (Itemed N) ys → TakesNone Whole xs
items_refused xs front N ys h s n = record { never = λ is zs d. whole_never h s n d }

-- ---- the whole answer

whole_parts : {xs zs : List Tok} {is : List Item} → Whole xs zs is → Programs xs is
whole_parts (whole d) = d

pub whole_derives : (xs : List Tok) (is : List Item) → Takes Whole xs is [] → Programs xs is
whole_derives xs is t = whole_parts t.holds

programs_of : {xs : List Tok} {is : List Item} → Whole xs [] is → Programs xs is
programs_of (whole p) = p

pub whole_alone : (xs : List Tok) (is js : List Item) → Takes Whole xs is [] → Programs xs js → js ≡ is
whole_alone xs is js t d = (t.only js [] (whole d)).0

-- what is whole and not too deep offends in no way
pub faultless : (xs : List Tok) (is : List Item) → None ≡ brackets_past 0 xs → Takes Whole xs is []
    → too_deep is ≡ None → (r : Refusal) → Offends xs r → ⊥
faultless xs is n t d r (offences.too_many_brackets e) = absurd cc
faultless xs is n t d r (offences.no_program e g) = g is (programs_of t.holds)
faultless xs is n t d r (offences.too_deep_inside {l = l} {is = js} e p q) =
    let h = whole_alone xs is js t p in let k : too_deep is ≡ Some l = rw (← h) q in absurd cc

refusal_is : (f : Refusal) (k : ℕ) → f.kind ≡ k → f.word ≡ 0 → refusal k f.line ≡ f
refusal_is f k e h = rw (← e) (rw (← h) refl)

of_kind : (xs : List Tok) (f : Refusal) (k : ℕ) → f.kind ≡ k → f.word ≡ 0 → Offends xs (refusal k f.line) → Offends xs f
of_kind xs f k e h d = let q = refusal_is f k e h in rw q at d

pub brackets_offend : (xs : List Tok) (f : Refusal) (l : ℕ) → (f.kind ≡ 22) × (f.word ≡ 0) × (f.line ≡ l)
    → Some l ≡ brackets_past 0 xs → Offends xs f
brackets_offend xs f l h e = of_kind xs f 22 h.0 h.1 (offences.too_many_brackets
    (sym e ∙ ap (λ (n : ℕ). Some n) (sym h.2)))

pub items_offend : (xs : List Tok) (e : Halt) → None ≡ brackets_past 0 xs → Stops Whole xs e
    → IfRefused e (Offends xs)
items_offend xs (halts.Refused f) n h =
    of_kind xs f 10 h.1.0 h.1.1 (offences.no_program (sym n) (λ is d. h.0.never is [] (whole d)))
items_offend xs halts.Memory n h = tt

pub depth_offends : (xs : List Tok) (f : Refusal) (is : List Item) → None ≡ brackets_past 0 xs → Takes Whole xs is []
    → (f.kind ≡ 22) × (f.word ≡ 0) × (too_deep is ≡ Some f.line) → Offends xs f
depth_offends xs f is n t h = of_kind xs f 22 h.0 h.1 (offences.too_deep_inside (sym n) (whole_derives xs is t) h.2)

-- ---- what is refused for nesting has no tree that isn't too deep

pub brackets_fit_none : (xs : List Tok) (l : ℕ) → Some l ≡ brackets_past 0 xs → NoneFits xs
brackets_fit_none xs l e is p b d = cc

pub items_not_deep : (xs : List Tok) (e : Halt) → Stops Whole xs e
    → IfRefused e (λ r. r.kind ≡ 22 → NoneFits xs)
items_not_deep xs (halts.Refused f) h = λ k. absurd (let q = h.1.0 in omega (arith, k, q))
items_not_deep xs halts.Memory h = tt

pub depth_fits_none : (xs : List Tok) (is : List Item) (l : ℕ) → Takes Whole xs is [] → too_deep is ≡ Some l
    → NoneFits xs
depth_fits_none xs is l t e js p b d =
    let h = whole_alone xs is js t p in let k : too_deep is ≡ None = rw (← h) d in cc

-- ---- the end of the tokens

pub none_left : (ts : List Token) → (length ts == 0) ≡ true → map view ts ≡ []
none_left [] h = refl
none_left (t ∷ ts) h = let e = eqb-true (length (t ∷ ts)) 0 h in absurd (omega arith)

pub some_left : (ts : List Token) → (length ts == 0) ≡ false → map view ts ≡ [] → ⊥
some_left [] h e = absurd cc
some_left (t ∷ ts) h e = cc
