-- Tables that came from others, and what they were at a mark.
use Rattle.std.specs.Prelude.{◌≡◌, ℕ, zero, suc, Bool, false, List, [], ◌∷◌, length, None}
use Rattle.ep_layout.specs.declared.table.AggregateEntry.{AggregateEntry}
use Rattle.ep_layout.specs.declared.types.Ty.{Ty}
use Rattle.ep_layout.specs.declared.types.TableMark.{TableMark}
use Rattle.ep_layout.specs.Table.{IsBuilt, Table, completed_with, declared, is_completed, with_type}

-- a table that came from another by types, declarations, and completions, each of what isn't completed
pub data GrownFrom (t : Table) : Table → Type 0 where
  itself : GrownFrom t t
  type_more : (u : Table) (ty : Ty) → GrownFrom t u → GrownFrom t (with_type u ty)
  aggregate_more : (u : Table) (tag : List ℕ) (is_union : Bool) → GrownFrom t u → GrownFrom t (declared u tag is_union)
  members_more : (u : Table) (a : ℕ) (members : List (List ℕ × ℕ)) → GrownFrom t u → is_completed u a ≡ false
      → GrownFrom t (completed_with u a members)

-- how much a table has
pub record IsMarkOf (m : TableMark) (t : Table) : Type 0 where
  pub types : m.types ≡ length t.types
  pub aggregates : m.aggregates ≡ length t.aggregates
  pub completed : m.completed ≡ length t.completed

-- a table came from another, which had this mark
pub record CameFrom (m : TableMark) (t u : Table) : Type 0 where
  pub mark : IsMarkOf m t
  pub built : IsBuilt t
  pub grown : GrownFrom t u

-- an element of a list changed, if it is there
abbrev pub changed_at : {X : Type 0} → (X → X) → List X → ℕ → List X
changed_at f [] i = []
changed_at f (x ∷ xs) zero = f x ∷ xs
changed_at f (x ∷ xs) (suc i) = x ∷ changed_at f xs i

-- each of these changed, the last of them first
abbrev pub changed_at_each : {X : Type 0} → (X → X) → List X → List ℕ → List X
changed_at_each f xs [] = xs
changed_at_each f xs (i ∷ more) = changed_at f (changed_at_each f xs more) i

-- an aggregate that has no members any more
abbrev pub reopened : AggregateEntry → AggregateEntry
reopened g = record g { body = None }
