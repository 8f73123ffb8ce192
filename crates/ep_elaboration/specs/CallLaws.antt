-- That the numbers of calls up to which the definitions look are enough.
use Rattle.std.specs.Prelude.{◌≡◌, ℕ, ◌<◌, nat_eq, true, false, List, []}
use Rattle.ep_elaboration.specs.Calls.{Call, CallSite, callees, calls_of, deepest, function_depth, one_after_another}
use Rattle.ep_elaboration.specs.Calls.{call_sites_in, reaches, unless_come, with_function}
use Rattle.ep_elaboration.specs.Leads.{DoesCall, Leads, IsLabelled, AreAmong, Descends, AreInOrder}

-- what is looked for among so many calls is found among all
abbrev pub Recursion : Type 0
Recursion = (cs : List Call) (n : ℕ) → AreAmong n cs → (f g : ℕ) → f < n
    → (reaches cs n f g ≡ true → Leads (callees cs) g f) × (Leads (callees cs) g f → reaches cs n f g ≡ true)

-- a call recurs where its ends have one label
abbrev pub Labels : Type 0
Labels = (cs : List Call) (n : ℕ) (label : ℕ → ℕ) → AreAmong n cs → IsLabelled (callees cs) label → (f g : ℕ)
    → DoesCall cs f g → reaches cs n g f ≡ nat_eq (label g) (label f)

-- and where no call does, each calls only those of a smaller rank
abbrev pub Ranks : Type 0
Ranks = (cs : List Call) (n : ℕ) (label : ℕ → ℕ) → AreAmong n cs → IsLabelled (callees cs) label → 0 < n
    → ((f g : ℕ) → DoesCall cs f g → nat_eq (label g) (label f) ≡ false) → (rank : ℕ → ℕ) × Descends cs n rank

abbrev pub Depths : Type 0
Depths = (ps : List CallSite) (n : ℕ) (rank : ℕ → ℕ) → Descends (calls_of ps) n rank → (f : ℕ)
    → function_depth ps n f ≡ deepest (function_depth ps n) (call_sites_in ps f)

-- a function's callees come before it
abbrev pub Orders : Type 0
Orders = (cs : List Call) (n : ℕ) (rank : ℕ → ℕ) → Descends cs n rank → (done : List ℕ) (f : ℕ)
    → with_function cs n done f
    ≡ unless_come done f (one_after_another (with_function cs n) done (callees cs f))

abbrev pub CallSites : Type 0
CallSites = (cs : List Call) (n : ℕ) (rank : ℕ → ℕ) → Descends cs n rank → (fs : List ℕ)
    → AreInOrder cs [] (one_after_another (with_function cs n) [] fs)
