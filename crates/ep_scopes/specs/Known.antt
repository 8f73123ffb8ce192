-- Environments whose names and tags speak of what their table of types has.
use Rattle.std.specs.Prelude.{ℕ, ◌<◌, List, [], ◌∷◌, length}
use Rattle.ep_layout.specs.Table.{Table}
use Rattle.ep_typing.specs.declared.types.Base.{Base}
use Rattle.ep_typing.specs.declared.types.Base.TheVariants as bases
use Rattle.ep_typing.specs.declared.types.CType.{CType}
use Rattle.ep_typing.specs.Env.{Env, Scope, Meaning, variable, function, type_name}

-- the table has the array or the aggregate that a type is made of
abbrev pub IsKnownBase : Table → Base → Type 0
IsKnownBase t bases.Void = Unit {0}
IsKnownBase t (bases.Int i) = Unit {0}
IsKnownBase t (bases.Array n) = n < length t.types
IsKnownBase t (bases.Aggregate a) = a < length t.aggregates

abbrev pub IsKnown : Table → CType → Type 0
IsKnown t c = IsKnownBase t c.base

abbrev pub IsKnownMeaning : Table → Meaning → Type 0
IsKnownMeaning t (variable b c) = IsKnown t c
IsKnownMeaning t (function n) = Unit {0}
IsKnownMeaning t (type_name c) = IsKnown t c

abbrev pub AreKnownNames : Table → List (List ℕ × Meaning) → Type 0
AreKnownNames t [] = Unit {0}
AreKnownNames t (e ∷ es) = IsKnownMeaning t e.1 × AreKnownNames t es

abbrev pub AreKnownTags : Table → List (List ℕ × ℕ) → Type 0
AreKnownTags t [] = Unit {0}
AreKnownTags t (e ∷ es) = (e.1 < length t.aggregates) × AreKnownTags t es

abbrev pub AreKnownScopes : Table → List Scope → Type 0
AreKnownScopes t [] = Unit {0}
AreKnownScopes t (s ∷ ss) = AreKnownNames t s.names × (AreKnownTags t s.tags × AreKnownScopes t ss)

-- what its names and tags mean is in its table
abbrev pub IsKnownEnv : Env → Type 0
IsKnownEnv G = AreKnownScopes G.types G.scopes
