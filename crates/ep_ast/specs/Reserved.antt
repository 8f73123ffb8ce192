-- The words that are refused, by their numbers from 1 in the list of them; 0 stands for none.
use Rattle.std.specs.Prelude.{◌≡◌, ℕ, ◌-◌, ◌==◌, if◌then◌else◌, List, [], slice_index_or, Option, Some, None, refl}
use Rattle.ep_ast.specs.declared.words.ReservedWord.{ReservedWord}
use Rattle.ep_ast.specs.declared.words.ReservedWord.TheVariants as variants
use Rattle.ep_ast.specs.Token.{reserved_words}

abbrev pub reserved_number : Option ReservedWord → ℕ
reserved_number None = 0
reserved_number (Some variants.Auto) = 1
reserved_number (Some variants.Case) = 2
reserved_number (Some variants.Default) = 3
reserved_number (Some variants.Double) = 4
reserved_number (Some variants.Enum) = 5
reserved_number (Some variants.Extern) = 6
reserved_number (Some variants.Float) = 7
reserved_number (Some variants.Goto) = 8
reserved_number (Some variants.Register) = 9
reserved_number (Some variants.Restrict) = 10
reserved_number (Some variants.Switch) = 11
reserved_number (Some variants.Volatile) = 12
reserved_number (Some variants.Alignas) = 13
reserved_number (Some variants.Alignof) = 14
reserved_number (Some variants.Atomic) = 15
reserved_number (Some variants.Bool) = 16
reserved_number (Some variants.Complex) = 17
reserved_number (Some variants.Generic) = 18
reserved_number (Some variants.Imaginary) = 19
reserved_number (Some variants.Noreturn) = 20
reserved_number (Some variants.StaticAssert) = 21
reserved_number (Some variants.ThreadLocal) = 22

-- the word of a number; of any other number the last one
unfoldable pub reserved_of : ℕ → Option ReservedWord
reserved_of n =
    if n == 0 then None
    else if n == 1 then Some variants.Auto
    else if n == 2 then Some variants.Case
    else if n == 3 then Some variants.Default
    else if n == 4 then Some variants.Double
    else if n == 5 then Some variants.Enum
    else if n == 6 then Some variants.Extern
    else if n == 7 then Some variants.Float
    else if n == 8 then Some variants.Goto
    else if n == 9 then Some variants.Register
    else if n == 10 then Some variants.Restrict
    else if n == 11 then Some variants.Switch
    else if n == 12 then Some variants.Volatile
    else if n == 13 then Some variants.Alignas
    else if n == 14 then Some variants.Alignof
    else if n == 15 then Some variants.Atomic
    else if n == 16 then Some variants.Bool
    else if n == 17 then Some variants.Complex
    else if n == 18 then Some variants.Generic
    else if n == 19 then Some variants.Imaginary
    else if n == 20 then Some variants.Noreturn
    else if n == 21 then Some variants.StaticAssert
    else Some variants.ThreadLocal

pub reserved_of_number : (w : Option ReservedWord) → reserved_of (reserved_number w) ≡ w
unfolding reserved_of
reserved_of_number None = refl
reserved_of_number (Some variants.Auto) = refl
reserved_of_number (Some variants.Case) = refl
reserved_of_number (Some variants.Default) = refl
reserved_of_number (Some variants.Double) = refl
reserved_of_number (Some variants.Enum) = refl
reserved_of_number (Some variants.Extern) = refl
reserved_of_number (Some variants.Float) = refl
reserved_of_number (Some variants.Goto) = refl
reserved_of_number (Some variants.Register) = refl
reserved_of_number (Some variants.Restrict) = refl
reserved_of_number (Some variants.Switch) = refl
reserved_of_number (Some variants.Volatile) = refl
reserved_of_number (Some variants.Alignas) = refl
reserved_of_number (Some variants.Alignof) = refl
reserved_of_number (Some variants.Atomic) = refl
reserved_of_number (Some variants.Bool) = refl
reserved_of_number (Some variants.Complex) = refl
reserved_of_number (Some variants.Generic) = refl
reserved_of_number (Some variants.Imaginary) = refl
reserved_of_number (Some variants.Noreturn) = refl
reserved_of_number (Some variants.StaticAssert) = refl
reserved_of_number (Some variants.ThreadLocal) = refl

-- a reserved word by its number
abbrev pub reserved_word : ℕ → List ℕ
reserved_word n = if n == 0 then [] else slice_index_or reserved_words (n - 1) []
