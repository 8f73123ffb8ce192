-- Statements that come behind others.
use Rattle.std.proofs.Common.{◌≡◌, ℕ, ◌+◌, ◌<◌, ◌≤◌, List, [], ◌∷◌, ◌++◌, length, get_or, map, drop, refl, sym}
use Rattle.ep_int.proofs.Basics.{drop-at}
use Rattle.std.proofs.Common.{ap, ◌∙◌, subst, append_assoc, append-nil}
use Rattle.std.proofs.lemmas.List.{drop_all, map-append}
use Rattle.ep_call_graph.specs.declared.places.CallSite.{CallSite}
use Rattle.ep_call_graph.specs.View.{call_site, call_sites}
use Rattle.ep_elaboration.specs.Calls as rule
use Rattle.ep_typer_checks.specs.View as view
use Rattle.ep_typer_checks.specs.View.{Adds}

module _ {X : Type 0} (shown : X → rule.CallSite) where
  pub none : (old : List CallSite) → Adds shown old old []
  none old = record { items = sym (append-nil (call_sites old)) }

  pub one : (old new : List CallSite) (p : CallSite) (x : X) → new ≡ old ++ p ∷ [] → call_site p ≡ shown x → Adds shown old new (x ∷ [])
  one old new p x e h = record {
    items = ap call_sites e ∙ map-append call_site old (p ∷ []) ∙ ap (λ (q : rule.CallSite). call_sites old ++ q ∷ []) h;
  }

  pub both : (old mid new : List CallSite) (xs ys : List X) → Adds shown old mid xs → Adds shown mid new ys → Adds shown old new (xs ++ ys)
  both old mid new xs ys g h = record {
    items = h.items ∙ ap (λ (ps : List rule.CallSite). ps ++ map shown ys) g.items
        ∙ append_assoc (call_sites old) (map shown xs) (map shown ys)
        ∙ ap (λ (ps : List rule.CallSite). call_sites old ++ ps) (sym (map-append shown xs ys));
  }

  -- what is left to add
  pub record Goes (start now : List CallSite) (left all : List X) : Type 0 where
    pub items : call_sites now ++ map shown left ≡ call_sites start ++ map shown all

  pub begins : (start : List CallSite) (all : List X) → Goes start start all all
  begins start all = record { items = refl }

  pub goes_on : (start now next : List CallSite) (xs ys all : List X) → Goes start now (xs ++ ys) all → Adds shown now next xs
      → Goes start next ys all
  goes_on start now next xs ys all g h = record {
    items = ap (λ (ps : List rule.CallSite). ps ++ map shown ys) h.items
        ∙ append_assoc (call_sites now) (map shown xs) (map shown ys)
        ∙ ap (λ (ps : List rule.CallSite). call_sites now ++ ps) (sym (map-append shown xs ys)) ∙ g.items;
  }

  pub ends : (start now : List CallSite) (all : List X) → Goes start now [] all → Adds shown start now all
  ends start now all g = record { items = sym (append-nil (call_sites now)) ∙ g.items }

-- the loops: a list of which each item adds its own statements
module _ {X A : Type 0} (shown : X → rule.CallSite) (each : A → List X) (of : List A → List X) (xs : List A) where
  pub more : (start now next : List CallSite) (all : List X) (i : ℕ) (x : A) → i < length xs → x ≡ get_or xs i x
      → of (x ∷ drop (i + 1) xs) ≡ each x ++ of (drop (i + 1) xs) → Goes shown start now (of (drop i xs)) all
      → Adds shown now next (each x) → Goes shown start next (of (drop (i + 1) xs)) all
  more start now next all i x lt is e g h =
      goes_on shown start now next (each x) (of (drop (i + 1) xs)) all
      (subst (λ (ls : List X). Goes shown start now ls all) (ap of (drop-at i xs x lt is) ∙ e) g) h

  pub over : (start now : List CallSite) (all : List X) (i : ℕ) → length xs ≤ i → of [] ≡ [] → Goes shown start now (of (drop i xs)) all
      → Adds shown start now all
  over start now all i le e g =
      ends shown start now all (subst (λ (ls : List X). Goes shown start now ls all) (ap of (drop_all i xs le) ∙ e) g)

-- ---- statements of a function, with its name

pub named : (number : List ℕ → ℕ) (t : List ℕ) (ss : List rule.Stand)
    → map (view.call_site_of number) (map (λ s. (t, s)) ss) ≡ map (view.call_site number (number t)) ss
named number t [] = refl
named number t (s ∷ ss) = ap (λ (ps : List rule.CallSite). view.call_site number (number t) s ∷ ps) (named number t ss)

pub with_name : (number : List ℕ → ℕ) (t : List ℕ) (f : ℕ) (old new : List CallSite) (ss : List rule.Stand) → f ≡ number t
    → Adds (view.call_site number f) old new ss → Adds (view.call_site_of number) old new (map (λ s. (t, s)) ss)
with_name number t f old new ss e h = record {
  items = h.items ∙ ap (λ (k : ℕ). call_sites old ++ map (view.call_site number k) ss) e
      ∙ ap (λ (ps : List rule.CallSite). call_sites old ++ ps) (sym (named number t ss));
}
