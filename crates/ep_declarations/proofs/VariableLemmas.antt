-- Reading declarations.
use Rattle.std.proofs.Common.{◌≡◌, ℕ, Bool, List, refl}
use Rattle.ep_ast.specs.Token.{Tok}
use Rattle.ep_ast.specs.Declaration.{Spec, Init, Declaration}
use Rattle.ep_ast.specs.DeclarationGrammar.{Context, specs_line, Specified, Inits, Declares, variables}
use Rattle.ep_ast.specs.Reading.{Takes, TakesNone}

module _ (N : List ℕ → Bool) where
  declares_only : {k : Context} {xs ys zs vs : List Tok} {ss : List Spec} {is : List Init} {u : Declaration}
      → Takes (Specified N k) xs ss ys → Takes (Inits N) ys is zs → Declares N k xs vs u
      → (u ≡ record { line = specs_line ss; specs = ss; inits = is }) × (vs ≡ zs)
  declares_only s t (variables {ys = ys'} {zs = zs'} {ss = ss'} {is = is'} d e) =
      let q = s.only ss' ys' d in
      let r = t.only is' zs' (rw q.1 at e) in
      (rw (q.0, r.0) refl, r.1)

  pub declares_taken : (k : Context) (xs ys zs : List Tok) (ss : List Spec) (is : List Init)
      → Takes (Specified N k) xs ss ys → Takes (Inits N) ys is zs
      → Takes (Declares N k) xs (record { line = specs_line ss; specs = ss; inits = is }) zs
  declares_taken k xs ys zs ss is s t =
      record { holds = variables s.holds t.holds; only = λ u vs d. declares_only s t d }

  words_never : {k : Context} {xs vs : List Tok} {u : Declaration} → TakesNone (Specified N k) xs → Declares N k xs vs u
      → ⊥
  words_never n (variables {ys = ys} {ss = ss} d e) = n.never ss ys d

  pub words_refused : (k : Context) (xs : List Tok) → TakesNone (Specified N k) xs → TakesNone (Declares N k) xs
  words_refused k xs n = record { never = λ u vs e. words_never n e }

  inits_never : {k : Context} {xs ys vs : List Tok} {ss : List Spec} {u : Declaration} → Takes (Specified N k) xs ss ys
      → TakesNone (Inits N) ys → Declares N k xs vs u → ⊥
  inits_never s n (variables {ys = ys'} {zs = zs'} {ss = ss'} {is = is'} d e) = let q = s.only ss' ys' d in
      n.never is' zs' (rw q.1 at e)

  pub inits_refused : (k : Context) (xs ys : List Tok) (ss : List Spec) → Takes (Specified N k) xs ss ys
      → TakesNone (Inits N) ys → TakesNone (Declares N k) xs
  inits_refused k xs ys ss s n = record { never = λ u vs d. inits_never s n d }
