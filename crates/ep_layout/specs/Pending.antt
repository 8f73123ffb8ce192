-- Leaves that are still to come: of objects, of the elements of arrays and of the members of aggregates.
use Rattle.std.specs.Prelude.{◌≡◌, ℕ, ◌+◌, ◌*◌, ◌<◌, ◌≤◌, Bool, List, [], ◌∷◌, ◌++◌, length, drop, unwrap_or}
use Rattle.std.specs.Prelude.{if◌then◌else◌}
use Rattle.std.specs.Global.{Vec}
use Rattle.std.specs.List.{All}
use Rattle.ep_layout.specs.declared.types.Leaf.{Leaf}
use Rattle.ep_layout.specs.declared.table.leaves.Task.{Task}
use Rattle.ep_layout.specs.declared.table.leaves.Task.TheVariants.{Object, Elements, Members}
use Rattle.ep_layout.specs.Layout.{shifted, repeated, most_bytes}
use Rattle.ep_layout.specs.Table.{Table, MemberRow, TypeRules, by_type, known_layout, leaves, members_of, is_union}

-- the leaves of these members, each where it lies; of a union's members those of the first one
abbrev pub rows_leaves : Table → Bool → List MemberRow → List Leaf
rows_leaves t is_union [] = []
rows_leaves t is_union (m ∷ more) =
    shifted m.offset (leaves t m.ty) ++ (if is_union then [] else rows_leaves t is_union more)

abbrev pub task_leaves : Table → Task → List Leaf
task_leaves t (Object ty offset) = shifted offset (leaves t ty)
task_leaves t (Elements ty offset count) = shifted offset (repeated count (known_layout t ty).size (leaves t ty))
task_leaves t (Members a offset next) = shifted offset (rows_leaves t (is_union t a) (drop next (members_of t a)))

-- what all of these tasks give; the last one comes first
abbrev pub pending : Table → List Task → List Leaf
pending t [] = []
pending t (k ∷ more) = pending t more ++ task_leaves t k

-- something of a type, so far from the start, ends within the limit
pub record Fits (t : Table) (ty e : ℕ) : Type 0 where
  pub type : ty < length t.types
  pub end : e ≤ most_bytes

abbrev pub RowFits : Table → ℕ → MemberRow → Type 0
RowFits t offset m = Fits t m.ty (offset + (m.offset + (known_layout t m.ty).size))

abbrev pub TaskFits : Table → Task → Type 0
TaskFits t (Object ty offset) = Fits t ty (offset + (known_layout t ty).size)
TaskFits t (Elements ty offset count) = Fits t ty (offset + count * (known_layout t ty).size)
TaskFits t (Members a offset next) = (a < length t.aggregates) × All (RowFits t offset) (members_of t a)

-- how many steps a type takes at most
abbrev pub steps_of_all : List ℕ → ℕ
steps_of_all [] = 0
steps_of_all (n ∷ more) = 1 + n + steps_of_all more

abbrev pub step_rules : TypeRules ℕ
step_rules = record {
  scalar = λ what. 1;
  array = λ n steps. 2 + n * (1 + steps);
  struct = λ steps. 2 + steps_of_all steps;
  union = λ steps. 2 + steps_of_all steps;
}

abbrev pub steps : Table → ℕ → ℕ
steps t n = unwrap_or (by_type step_rules t n) 2

abbrev pub rows_steps : Table → List MemberRow → ℕ
rows_steps t [] = 0
rows_steps t (m ∷ more) = 1 + steps t m.ty + rows_steps t more

abbrev pub task_steps : Table → Task → ℕ
task_steps t (Object ty offset) = steps t ty
task_steps t (Elements ty offset count) = 1 + count * (1 + steps t ty)
task_steps t (Members a offset next) = 1 + rows_steps t (drop next (members_of t a))

abbrev pub pending_steps : Table → List Task → ℕ
pending_steps t [] = 0
pending_steps t (k ∷ more) = task_steps t k + pending_steps t more

-- A task was taken from the others, and one step made: the leaves and the tasks before it and after it.
pub record IsStep (t : Table) (task : Task) (before : List Leaf) (tasks : List Task) (after : List Leaf)
    (later : List Task) : Type 0 where
  pub leaves : after ++ pending t later ≡ before ++ (task_leaves t task ++ pending t tasks)
  pub fit : All (TaskFits t) later
  pub fewer : pending_steps t later < task_steps t task + pending_steps t tasks

abbrev pub Steps : Table → Task → Vec Leaf → Vec Task → Vec Leaf → Vec Task → Type 0
Steps t task leaves tasks after later = IsStep t task leaves.items tasks.items after.items later.items
