-- Several steps of the reading of a source, computed.
use Rattle.std.proofs.Common.{◌≡◌, ℕ, zero, suc, List, [], ◌++◌, Option, Some, None, Result, Ok, Err, refl, subst}
use Rattle.ep_sample_trees.proofs.Basics.{none_some}
use Rattle.std.proofs.Common.{append_assoc}
use Rattle.ep_int.proofs.Basics.{some-injective}
use Rattle.ep_ast.specs.declared.refusals.Refusal.{Refusal}
use Rattle.ep_ast.specs.Token.{Tok}
use Rattle.ep_ast.specs.Cut.{Position, Cuts, piece}
use Rattle.ep_lexer.specs.Step.{Went, step}
use Rattle.ep_lexer.proofs.Steps.{is_piece}

abbrev with_front : List Tok → Option Went → Option Went
with_front ts None = None
with_front ts (Some w) = Some (ts ++ w.0, w.1, w.2)

abbrev then : (Position → List ℕ → Option Went) → Result (Option Went) Refusal → Option Went
then f (Ok None) = None
then f (Ok (Some w)) = with_front w.0 (f w.1 w.2)
then f (Err r) = None

-- so many steps, where nothing offends and the source doesn't end
unfoldable pub walk : ℕ → Position → List ℕ → Option Went
walk zero p bs = Some ([], p, bs)
walk (suc n) p bs = then (walk n) (step p bs)

in_front : (p : Position) (bs : List ℕ) (v w : Went) (us : List Tok) (o : Option Went) → step p bs ≡ Ok (Some v)
    → with_front v.0 o ≡ Some w
    → ((u : Went) → o ≡ Some u → Cuts u.1 u.2 us → Cuts v.1 v.2 (u.0 ++ us)) → Cuts w.1 w.2 us
    → Cuts p bs (w.0 ++ us)
in_front p bs v w us None s e rest c = absurd (none_some e)
in_front p bs v w us (Some u) s e rest c =
    let same : (v.0 ++ u.0, u.1, u.2) ≡ w = some-injective e in
    let P : Went → Type 0 = λ z. Cuts z.1 z.2 us → Cuts p bs (z.0 ++ us) in
    subst P same (λ d. piece (is_piece p bs v s) (rest u refl d) (append_assoc v.0 u.0 us)) c

-- what the rest cuts into stands behind the tokens on the way
pub walked : (n : ℕ) (p : Position) (bs : List ℕ) (w : Went) (us : List Tok) → walk n p bs ≡ Some w
    → Cuts w.1 w.2 us → Cuts p bs (w.0 ++ us)
unfolding walk
walked zero p bs w us e c =
    let same : ([], p, bs) ≡ w = some-injective e in
    let P : Went → Type 0 = λ z. Cuts z.1 z.2 us → Cuts p bs (z.0 ++ us) in
    subst P same (λ d. d) c
walked (suc n) p bs w us e c = on (step p bs) refl e (λ v u. walked n v.1 v.2 u us) where
  on : (r : Result (Option Went) Refusal) → step p bs ≡ r → then (walk n) r ≡ Some w
      → ((v u : Went) → walk n v.1 v.2 ≡ Some u → Cuts u.1 u.2 us → Cuts v.1 v.2 (u.0 ++ us))
      → Cuts p bs (w.0 ++ us)
  on (Ok None) s e more = absurd (none_some e)
  on (Ok (Some v)) s e more = in_front p bs v w us (walk n v.1 v.2) s e (more v) c
  on (Err r) s e more = absurd (none_some e)
