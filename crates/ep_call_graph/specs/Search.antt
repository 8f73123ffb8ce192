-- A search of the cycles of calls, along one path. The functions on the path stand in groups, each of which lead to one
-- another; a group is done when none of its calls waits any more.
use Rattle.std.specs.Prelude.{◌≡◌, ℕ, ◌<◌, ◌≤◌, nat_lt, if◌then◌else◌, true, List, [], ◌∷◌, Option, Some, None}
use Rattle.std.specs.Prelude.{slice_get, slice_index_or, length}
use Rattle.ep_int.specs.Memory.{contains}
use Rattle.ep_elaboration.specs.Leads.{Leads}
use Rattle.ep_call_graph.specs.declared.cycles.Mark.{Mark}
use Rattle.ep_call_graph.specs.declared.cycles.Mark.TheVariants.{New, Open, Done}
use Rattle.ep_call_graph.specs.declared.cycles.Group.{Group}
use Rattle.ep_call_graph.specs.declared.cycles.Search.{Search}

abbrev pub mark_of : List Mark → ℕ → Mark
mark_of ms f = slice_index_or ms f New

-- groups, the last one first
abbrev pub from_last : List Group → List Group → List Group
from_last all [] = all
from_last all (g ∷ gs) = from_last (g ∷ all) gs

abbrev pub tops : List Group → List Group
tops gs = from_last [] gs

abbrev pub top_of : List Group → Option Group
top_of [] = None
top_of (g ∷ gs) = Some g

-- Groups begin one behind another, before so many functions on the path and so many calls that wait, and the first one
-- where the path does.
abbrev pub Fit : List Group → (path pending : ℕ) → Type 0
Fit [] n k = n ≡ 0
Fit (g ∷ gs) n k = (g.first ≤ n) × ((g.pending ≤ k) × Fit gs g.first g.pending)

-- one place of the path is in a group no later than another's
abbrev pub IsOver : List Group → ℕ → ℕ → Type 0
IsOver [] i j = Unit {0}
IsOver (g ∷ gs) i j = (g.first ≤ i → g.first ≤ j) × IsOver gs i j

-- what waits at this number is a call of the group of this place
abbrev pub IsUnder : List Group → (pending place : ℕ) → Type 0
IsUnder [] k i = Unit {0}
IsUnder (g ∷ gs) k i = ((g.pending ≤ k → g.first ≤ i) × (g.first ≤ i → g.pending ≤ k)) × IsUnder gs k i

-- in the last group, or behind it
abbrev pub IsLast : List Group → ℕ → Type 0
IsLast [] i = Unit {0}
IsLast (g ∷ gs) i = g.first ≤ i

-- the caller of a call that waits
pub record Asks (next : ℕ → List ℕ) (path : List ℕ) (groups : List Group) (k callee : ℕ) : Type 0 where
  pub caller : ℕ
  pub place : ℕ
  pub at : slice_get path place ≡ Some caller
  pub calls : contains callee (next caller) ≡ true
  pub under : IsUnder groups k place

-- what has become of a call from this place
pub data Settled (marks : List Mark) (path : List ℕ) (groups : List Group) (pending : List ℕ) (place callee : ℕ)
    : Type 0 where
  waits : (k : ℕ) → slice_get pending k ≡ Some callee → IsUnder groups k place
      → Settled marks path groups pending place callee
  is_done : (l : ℕ) → mark_of marks callee ≡ Done l → Settled marks path groups pending place callee
  is_open : (j : ℕ) → slice_get path j ≡ Some callee → IsOver groups place j
      → Settled marks path groups pending place callee

-- a call of a function that is done: its callee is done no later, and with it only if that leads back
pub record Closed (next : ℕ → List ℕ) (marks : List Mark) (caller callee label : ℕ) : Type 0 where
  pub of : ℕ
  pub is : mark_of marks callee ≡ Done of
  pub no_later : of ≤ label
  pub back : of ≡ label → Leads next caller callee

-- where the search stands, but for calls of this function
pub record SearchInvariantBut (but : Option ℕ) (next : ℕ → List ℕ) (marks : List Mark) (path : List ℕ)
    (groups : List Group)
    (pending : List ℕ) (done : ℕ) : Type 0 where
  pub opened : (f i : ℕ) → mark_of marks f ≡ Open i → slice_get path i ≡ Some f
  pub placed : (i f : ℕ) → slice_get path i ≡ Some f → mark_of marks f ≡ Open i
  pub fit : Fit groups (length path) (length pending)
  pub joined : (i j f g : ℕ) → slice_get path i ≡ Some f → slice_get path j ≡ Some g → IsOver groups i j
      → Leads next g f
  pub asked : (k g : ℕ) → slice_get pending k ≡ Some g → Asks next path groups k g
  pub followed : (i f g : ℕ) → slice_get path i ≡ Some f → contains g (next f) ≡ true → (but ≡ Some g → ⊥)
      → Settled marks path groups pending i g
  pub closed : (f g l : ℕ) → mark_of marks f ≡ Done l → contains g (next f) ≡ true → Closed next marks f g l
  pub counted : (f l : ℕ) → mark_of marks f ≡ Done l → l < done

abbrev pub SearchInvariant : (next : ℕ → List ℕ) → List Mark → List ℕ → List Group → List ℕ → (done : ℕ) → Type 0
SearchInvariant next marks path groups pending done = SearchInvariantBut None next marks path groups pending done

-- a call of the last group
pub record IsCalled (next : ℕ → List ℕ) (path : List ℕ) (groups : List Group) (callee : ℕ) : Type 0 where
  pub caller : ℕ
  pub place : ℕ
  pub at : slice_get path place ≡ Some caller
  pub calls : contains callee (next caller) ≡ true
  pub last : IsLast groups place

-- the search in memory
abbrev pub IsSearchBut : (but : Option ℕ) → (next : ℕ → List ℕ) → Search → Type 0
IsSearchBut but next s =
    SearchInvariantBut but next s.marks.items s.path.items (tops s.groups.items) s.pending.items s.done

abbrev pub IsSearch : (next : ℕ → List ℕ) → Search → Type 0
IsSearch next s = IsSearchBut None next s

-- no function is new that was not
abbrev pub GoesOn : Search → Search → Type 0
GoesOn s t = (length t.marks.items ≡ length s.marks.items)
    × ((f : ℕ) → mark_of t.marks.items f ≡ New → mark_of s.marks.items f ≡ New)

-- each function of the path is marked with its place
pub record ArePlaced (marks : List Mark) (path : List ℕ) : Type 0 where
  pub opened : (f i : ℕ) → mark_of marks f ≡ Open i → slice_get path i ≡ Some f
  pub placed : (i f : ℕ) → slice_get path i ≡ Some f → mark_of marks f ≡ Open i

-- a mark, where what stands from this place of the path on is done
abbrev pub closed_from : (first done : ℕ) → Mark → Mark
closed_from n d New = New
closed_from n d (Open i) = if nat_lt i n then Open i else Done d
closed_from n d (Done l) = Done l

-- a call of the last group waits
abbrev pub IsWaiting : List Group → (pending : ℕ) → Type 0
IsWaiting [] k = ⊥
IsWaiting (g ∷ gs) k = g.pending < k

abbrev pub label_of : Mark → ℕ
label_of New = 0
label_of (Open i) = 0
label_of (Done l) = l

-- functions that call none but themselves
abbrev pub AreAll : (functions : ℕ) → (next : ℕ → List ℕ) → Type 0
AreAll n next = (f g : ℕ) → contains g (next f) ≡ true → (f < n) × (g < n)
