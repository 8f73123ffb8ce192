-- Functions in the order of visits: each behind those that it calls.
use Rattle.std.specs.Prelude.{◌≡◌, ℕ, suc, ◌<◌, if◌then◌else◌, Bool, false, List, [], ◌∷◌, ◌++◌, drop, slice_index_or}
use Rattle.std.specs.Prelude.{length}
use Rattle.ep_int.specs.Memory.{contains}
use Rattle.ep_elaboration.specs.Calls.{one_after_another, unless_come}
use Rattle.ep_call_graph.specs.declared.order_of.Frame.{Frame}
use Rattle.ep_call_graph.specs.declared.order_of.Order.{Order}

-- what visits a function visits those that it calls before it
abbrev pub IsVisit : (next : ℕ → List ℕ) → (List ℕ → ℕ → List ℕ) → Type 0
IsVisit next visit = (done : List ℕ) (f : ℕ)
    → visit done f ≡ unless_come done f (one_after_another visit done (next f))

-- the functions that are visited, the last one first, each with its calls that are left
abbrev pub finished : (next : ℕ → List ℕ) → (List ℕ → ℕ → List ℕ) → List Frame → List ℕ → List ℕ
finished next visit [] done = done
finished next visit (a ∷ rest) done =
    finished next visit rest (one_after_another visit done (drop a.call (next a.function)) ++ a.function ∷ [])

-- frames, the last one first
abbrev pub from_last : List Frame → List Frame → List Frame
from_last all [] = all
from_last all (a ∷ rest) = from_last (a ∷ all) rest

abbrev pub frames : List Frame → List Frame
frames rest = from_last [] rest

-- a flag for each of so many functions, set where it has come
pub record AreFlags (functions : ℕ) (has : List Bool) (done : List ℕ) : Type 0 where
  pub count : length has ≡ functions
  pub is : (f : ℕ) → slice_index_or has f false ≡ contains f done

abbrev pub AreInside : (functions : ℕ) → List Frame → Type 0
AreInside n [] = Unit {0}
AreInside n (a ∷ rest) = (a.function < n) × AreInside n rest

-- the order so far
pub record IsOrder (functions : ℕ) (next : ℕ → List ℕ) (s : Order) : Type 0 where
  pub flags : AreFlags functions s.has.items s.done.items
  pub inside : AreInside functions (frames s.stack.items)

-- behind a call
abbrev pub next_call : Frame → Frame
next_call a = record { function = a.function; call = suc a.call }

-- with a function that is visited, unless it has come
abbrev pub entered : (function : ℕ) → (done : List ℕ) → List Frame → List Frame
entered f done rest = if contains f done then rest else record { function = f; call = 0 } ∷ rest
