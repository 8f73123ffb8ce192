-- Which names are types.
use Rattle.std.specs.Prelude.{ℕ, Bool, List, [], ◌∷◌}
use Rattle.std.specs.Global.{Vec}
use Rattle.ep_ast.specs.TypeWords.{is_built_in_type}
use Rattle.ep_ast.specs.ProgramGrammar.{with_name}
use Rattle.ep_reading.specs.declared.names.TypeNames.{TypeNames}

-- these names are types too, one after the other
abbrev pub with_names : (List ℕ → Bool) → List (Vec ℕ) → List ℕ → Bool
with_names N [] = N
with_names N (k ∷ ks) = with_names (with_name N k.items) ks

-- a built-in name, or one that was added
abbrev pub is_type : TypeNames → List ℕ → Bool
is_type names = with_names is_built_in_type names.added.keys
