-- Statements and calls in memory, seen as the definitions speak of them.
use Rattle.std.specs.Prelude.{ℕ, zero, suc, ◌<◌, List, [], ◌∷◌, map, Option, Some, None}
use Rattle.std.specs.Global.{Vec}
use Rattle.ep_elaboration.specs.Calls as rule
use Rattle.ep_call_graph.specs.declared.places.CallSite.{CallSite}

abbrev pub call_site : CallSite → rule.CallSite
call_site p = record { caller = p.caller; depth = p.depth; line = p.line; callee = p.callee }

abbrev pub call_sites : List CallSite → List rule.CallSite
call_sites ps = map call_site ps

-- the list at a number, empty where there is none
abbrev pub listed : {A : Type 0} → List (Vec A) → ℕ → List A
listed [] f = []
listed (v ∷ vs) zero = v.items
listed (v ∷ vs) (suc f) = listed vs f

abbrev pub IsCallee : (functions : ℕ) → Option ℕ → Type 0
IsCallee n None = Unit {0}
IsCallee n (Some g) = g < n

-- statements of so many functions, that call none but these
abbrev pub AreWithin : (functions : ℕ) → List rule.CallSite → Type 0
AreWithin n [] = Unit {0}
AreWithin n (p ∷ ps) = (p.caller < n) × (IsCallee n p.callee × AreWithin n ps)

abbrev pub AreBelow : (functions : ℕ) → List ℕ → Type 0
AreBelow n [] = Unit {0}
AreBelow n (f ∷ fs) = (f < n) × AreBelow n fs
