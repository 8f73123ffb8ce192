-- Names of the innermost scope.
use Rattle.std.proofs.Common.{◌≡◌, ℕ, Bool, false, ◌||◌, List, [], ◌∷◌, ◌++◌, Option, Some, None, refl, ap}
use Rattle.std.specs.Prelude.{is_some}
use Rattle.std.specs.Option.{option_map}
use Rattle.ep_layout.specs.Table.{Table}
use Rattle.ep_typing.specs.Env.{Meaning, Scope, entry}
use Rattle.ep_typing.specs.Parts.{built_in}
use Rattle.ep_elaboration.specs.Declarators as rule
use Rattle.ep_scopes.specs.Known.{AreKnownNames, AreKnownScopes, IsKnownMeaning}
use Rattle.ep_scopes.specs.View as view

pub taken_is : (t : List ℕ) (ss : List Scope)
    → (is_some (entry t (view.innermost ss).names) || is_some (entry t built_in)) ≡ rule.is_taken t ss
taken_is t [] = refl
taken_is t (s ∷ ss) = refl

none_of : (o : Option Meaning) (b : Bool) → (is_some o || b) ≡ false → o ≡ None
none_of None b h = refl
none_of (Some m) b h = absurd cc

pub free_here : (t : List ℕ) (ss : List Scope) → rule.is_taken t ss ≡ false → entry t (view.innermost ss).names ≡ None
free_here t [] h = refl
free_here t (s ∷ ss) h = none_of (entry t s.names) (is_some (entry t built_in)) h

pub name_known : (u : Table) (ss : List Scope) (t : List ℕ) (m : Meaning) → IsKnownMeaning u m → AreKnownScopes u ss
    → AreKnownScopes u (view.name_in ss t m)
name_known u [] t m k h = tt
name_known u (s ∷ ss) t m k h = (pushed s.names h.0, h.1)
  where
    pushed : (es : List (List ℕ × Meaning)) → AreKnownNames u es → AreKnownNames u (es ++ (t, m) ∷ [])
    pushed [] g = (k, tt)
    pushed (e ∷ es) g = (g.0, pushed es g.1)

pub seen_some : {X Y : Type 0} (f : X → Y) (o : Option X) (p : Option Y) → option_map f o ≡ p → is_some o ≡ is_some p
seen_some f None p h = ap is_some h
seen_some f (Some x) p h = ap is_some h
