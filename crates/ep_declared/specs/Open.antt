-- Structs and unions whose bodies aren't closed yet.
use Rattle.std.specs.Prelude.{◌≡◌, ◌≢◌, ℕ, ◌<◌, Bool, true, false, List, length, IsTrue}
use Rattle.std.specs.List.{list_all}
use Rattle.ep_int.specs.Memory.{contains}
use Rattle.ep_layout.specs.Table.{Grows, Table, is_completed, is_type, is_union}
use Rattle.ep_typing.specs.Env.{Env}
use Rattle.ep_scopes.specs.Known.{IsKnownEnv}
use Rattle.ep_elaboration.specs.Aggregates.{Named}
use Rattle.ep_declared.specs.Entries.{type_of}

-- no aggregate is completed on the way from one table to the other
abbrev pub StaysOpen : Table → Table → Type 0
StaysOpen t u = (a : ℕ) → is_completed t a ≡ false → is_completed u a ≡ false

-- no other aggregate is
abbrev pub OthersStayOpen : (closed : ℕ) → Table → Table → Type 0
OthersStayOpen closed t u = (a : ℕ) → a ≢ closed → is_completed t a ≡ false → is_completed u a ≡ false

-- none of these aggregates is
abbrev pub StayOpen : (unclosed : List ℕ) → Table → Table → Type 0
StayOpen unclosed t u =
    (a : ℕ) → a < length t.aggregates → contains a unclosed ≡ true → is_completed t a ≡ false → is_completed u a ≡ false

-- what is left where nothing was completed
pub record Follows (G H : Env) : Type 0 where
  pub known : IsKnownEnv H
  pub grown : Grows G.types H.types
  pub stay : StaysOpen G.types H.types

-- what is left where bodies inside these aggregates were read
pub record IsAfter (unclosed : List ℕ) (G H : Env) : Type 0 where
  pub known : IsKnownEnv H
  pub grown : Grows G.types H.types
  pub stay : StayOpen unclosed G.types H.types

-- a body was opened inside these aggregates, on the way from one table to the other
pub record IsOpened (unclosed : List ℕ) (with_union : Bool) (a : ℕ) (t u : Table) : Type 0 where
  pub inside : a < length u.aggregates
  pub empty : is_completed u a ≡ false
  pub word : is_union u a ≡ with_union
  pub other : a < length t.aggregates → contains a unclosed ≡ false

-- members and bit-fields whose types the table has
abbrev pub AreTypes : Table → Named → Type 0
AreTypes t es = IsTrue (list_all (λ e. is_type t (type_of e)) es)
