-- Words of a type, one by one.
use Rattle.std.specs.Prelude.{ℕ, ◌==◌, Bool, false, if◌then◌else◌, List}
use Rattle.ep_int.specs.declared.types.IntType.{IntType}
use Rattle.ep_int.specs.declared.types.IntType.TheVariants.{I8, U8, I16, U16, I32, U32, I64, U64}
use Rattle.ep_int.specs.declared.types.Model.{Model}
use Rattle.ep_ast.specs.Expression.{TypeWord, word, typedef_name, tagged}
use Rattle.ep_typing.specs.Types.{long_type}

-- an accepted word of this number
abbrev pub is_word : ℕ → TypeWord → Bool
is_word n (word l c) = c == n
is_word n (typedef_name l t) = false
is_word n (tagged l c t) = false

abbrev pub listed : List ℕ → IntType → List ℕ × IntType
listed text t = (text, t)

-- the integer type of so many words of each sort
abbrev pub picked : Model → (is_unsigned : Bool) → (chars shorts longs : ℕ) → IntType
picked m u chars shorts longs =
    if chars == 1 then (if u then U8 else I8)
    else if shorts == 1 then (if u then U16 else I16)
    else if longs == 2 then (if u then U64 else I64)
    else if longs == 1 then long_type m u
    else if u then U32
    else I32
