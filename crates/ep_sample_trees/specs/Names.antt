-- What the sources that are generated as samples name, and the numbers in them.
use Rattle.std.specs.Prelude.{ℕ, ◌==◌, not, false, if◌then◌else◌, List, codes}
use Rattle.ep_ast.specs.declared.expressions.Literal.{Literal}
use Rattle.ep_sample.specs.Sample.{kind_of}

abbrev pub x : List ℕ
x = codes "x"

abbrev pub y : List ℕ
y = codes "y"

abbrev pub h : List ℕ
h = codes "h"

abbrev pub b : List ℕ
b = codes "b"

abbrev pub v : List ℕ
v = codes "v"

abbrev pub swap : List ℕ
swap = codes "swap"

abbrev pub main : List ℕ
main = codes "main"

abbrev pub uint8 : List ℕ
uint8 = codes "uint8_t"

abbrev pub uint16 : List ℕ
uint16 = codes "uint16_t"

abbrev pub uint32 : List ℕ
uint32 = codes "uint32_t"

abbrev pub ep_in_u32 : List ℕ
ep_in_u32 = codes "ep_in_u32"

abbrev pub ep_out_u32 : List ℕ
ep_out_u32 = codes "ep_out_u32"

abbrev pub ep_out_u16 : List ℕ
ep_out_u16 = codes "ep_out_u16"

abbrev pub ep_read : List ℕ
ep_read = codes "ep_read"

abbrev pub ep_write : List ℕ
ep_write = codes "ep_write"

-- a number without a suffix, in decimal; 0 is octal (C11 6.4.4.1)
abbrev pub literal : ℕ → Literal
literal n = record { value = n; decimal = not (n == 0); unsigned = false; longs = 0 }

-- what there is of a field, by the kind that its seed gives it
abbrev pub by_kind : {A : Type 0} → (seed : ℕ) → (turned swapped byte : A) → A
by_kind s t w c = if kind_of s == 0 then t else if kind_of s == 1 then w else c
