-- Where calls lead, by however many of them.
use Rattle.std.specs.Prelude.{◌≡◌, ℕ, ◌<◌, ◌≤◌, true, false, List, [], ◌∷◌, ◌++◌}
use Rattle.ep_int.specs.Memory.{contains}
use Rattle.ep_elaboration.specs.Calls.{Call, callees}

-- one function calls another
abbrev pub DoesCall : List Call → (caller callee : ℕ) → Type 0
DoesCall cs f g = contains g (callees cs f) ≡ true

-- from one function to another, by any number of calls, where each function calls the next ones
pub data Leads (next : ℕ → List ℕ) (to : ℕ) : ℕ → Type 0 where
  is_there : (f : ℕ) → f ≡ to → Leads next to f
  calls : (f g : ℕ) → contains g (next f) ≡ true → Leads next to g → Leads next to f

-- a number for each function: no smaller than those of its callees, and equal only where these lead back
pub record IsLabelled (next : ℕ → List ℕ) (label : ℕ → ℕ) : Type 0 where
  pub not_up : (f g : ℕ) → contains g (next f) ≡ true → label g ≤ label f
  pub back : (f g : ℕ) → contains g (next f) ≡ true → label g ≡ label f → Leads next f g

-- calls among so many functions
abbrev pub AreAmong : (functions : ℕ) → List Call → Type 0
AreAmong n cs = (f g : ℕ) → DoesCall cs f g → (f < n) × (g < n)

-- each function calls only those of a smaller rank
pub record Descends (cs : List Call) (functions : ℕ) (rank : ℕ → ℕ) : Type 0 where
  pub small : (f : ℕ) → rank f < functions
  pub down : (f g : ℕ) → DoesCall cs f g → rank g < rank f

-- Behind these functions, each comes behind those that it calls, and none comes twice.
abbrev pub AreInOrder : List Call → (before : List ℕ) → List ℕ → Type 0
AreInOrder cs before [] = Unit {0}
AreInOrder cs before (f ∷ fs) =
    (contains f before ≡ false)
    × (((g : ℕ) → DoesCall cs f g → contains g before ≡ true) × AreInOrder cs (before ++ f ∷ []) fs)
