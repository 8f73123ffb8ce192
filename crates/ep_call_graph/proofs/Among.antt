-- Calls among so many functions.
use Rattle.std.proofs.Common.{◌≡◌, ℕ, ◌<◌, nat_eq, Bool, true, false, cond, inl, inr, List, [], ◌∷◌, ◌++◌, map}
use Rattle.ep_core.proofs.Sorts.{never}
use Rattle.std.proofs.lemmas.Bool.{eqb-true}
use Rattle.std.proofs.lemmas.Bool.{or_cases}
use Rattle.std.proofs.Common.{Option, Some, None, refl, sym, subst}
use Rattle.std.specs.List.{filter}
use Rattle.ep_int.specs.Memory.{contains}
use Rattle.ep_elaboration.specs.Calls.{Call, CallSite, call_at, callees, calls_of}
use Rattle.ep_elaboration.specs.Leads.{DoesCall, AreAmong}
use Rattle.ep_call_graph.specs.View.{AreWithin, IsCallee}
use Rattle.ep_call_graph.specs.Search.{AreAll}

call_among : (n f g : ℕ) (p : CallSite) (o : Option ℕ) (cs : List Call) → p.caller < n → IsCallee n o
    → (DoesCall cs f g → (f < n) × (g < n)) → DoesCall (call_at p o ++ cs) f g → (f < n) × (g < n)
call_among n f g p None cs l i rest h = rest h
call_among n f g p (Some k) cs l i rest h = at_c (nat_eq p.caller f) refl h
  where
    at_c : (b : Bool) → nat_eq p.caller f ≡ b
        → contains g (map (λ (x : Call). x.callee) (cond b ((record { caller = p.caller; line = p.line; callee = k }) ∷ filter (λ (x : Call). nat_eq x.caller f) cs) (filter (λ (x : Call). nat_eq x.caller f) cs))) ≡ true
        → (f < n) × (g < n)
    at_c false q j = rest j
    at_c true q j = elim (or_cases (nat_eq g k) (contains g (callees cs f)) j) [
      | inr w ↦ rest w
      | inl w ↦ (subst (λ (x : ℕ). x < n) (eqb-true p.caller f q) l, subst (λ (x : ℕ). x < n) (sym (eqb-true g k w)) i)
    ]

-- statements within so many functions call none but these
pub among : (n : ℕ) (ps : List CallSite) → AreWithin n ps → AreAmong n (calls_of ps)
among n [] a f g h = never h
among n (p ∷ ps) a f g h = call_among n f g p p.callee (calls_of ps) a.0 a.1.0 (among n ps a.1.1 f g) h

module _ (next : ℕ → List ℕ) (cs : List Call) (e : (f : ℕ) → next f ≡ callees cs f) where
  pub all_among : (n : ℕ) → AreAmong n cs → AreAll n next
  all_among n a f g c = a f g (subst (λ (xs : List ℕ). contains g xs ≡ true) (e f) c)
