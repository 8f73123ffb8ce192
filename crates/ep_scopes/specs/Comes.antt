-- Environments that came from others by declarations, and what they were at a mark.
use Rattle.std.specs.Prelude.{◌≡◌, ℕ, false, List, ◌∷◌, ◌++◌, length, None}
use Rattle.ep_layout.specs.Grown.{GrownFrom, IsMarkOf as IsTableMark}
use Rattle.ep_layout.specs.Table.{IsBuilt, Table, is_completed}
use Rattle.ep_typing.specs.Env.{Env, NamedFields, Scope}
use Rattle.ep_typing.specs.Fields.{fields_of}
use Rattle.ep_scopes.specs.declared.marks.EnvMark.{EnvMark}
use Rattle.ep_scopes.specs.View.{innermost}

-- bit-fields are of aggregates that have their members (C11 6.7.2.1p9: a bit-field is a member)
abbrev pub AreCompleted : Table → List (ℕ × NamedFields) → Type 0
AreCompleted t fs = (a : ℕ) → is_completed t a ≡ false → fields_of fs a ≡ None

-- a list begins with another
abbrev pub Begins : {A : Type 0} → List A → List A → Type 0
Begins {A = A} xs ys = (zs : List A) × (xs ++ zs ≡ ys)

-- a scope with names and tags more
pub record Gains (s u : Scope) : Type 0 where
  pub names : Begins s.names u.names
  pub tags : Begins s.tags u.tags

-- scopes of which the innermost has gained names and tags, with others opened inside them
pub data ScopesCome : List Scope → List Scope → Type 0 where
  same : (ss : List Scope) → ScopesCome ss ss
  gained : (s u : Scope) (ss : List Scope) → Gains s u → ScopesCome (s ∷ ss) (u ∷ ss)
  opened : (ss us : List Scope) (u : Scope) → ScopesCome ss us → ScopesCome ss (u ∷ us)

-- an environment that came from another: no block and no function more
pub record Comes (G H : Env) : Type 0 where
  pub types : GrownFrom G.types H.types
  pub fields : AreCompleted G.types G.fields → AreCompleted H.types H.fields × Begins G.fields H.fields
  pub scopes : ScopesCome G.scopes H.scopes
  pub blocks : H.blocks ≡ G.blocks
  pub functions : H.functions ≡ G.functions

-- how much an environment has
pub record IsMarkOf (m : EnvMark) (G : Env) : Type 0 where
  pub types : IsTableMark m.types G.types
  pub fields : m.fields ≡ length G.fields
  pub scopes : m.scopes ≡ length G.scopes
  pub names : m.innermost.names ≡ length (innermost G.scopes).names
  pub tags : m.innermost.tags ≡ length (innermost G.scopes).tags

-- an environment came from another, which had this mark
pub record CameFrom (m : EnvMark) (G H : Env) : Type 0 where
  pub mark : IsMarkOf m G
  pub built : IsBuilt G.types
  pub fields : AreCompleted G.types G.fields
  pub comes : Comes G H

-- the same over another table of types
abbrev pub over_types : Env → Table → Env
over_types G t = record G { types = t }
