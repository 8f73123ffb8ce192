-- Forms of expressions.
use Rattle.std.specs.Prelude.{Bool, true, false}
use Rattle.ep_core.specs.Program.{Expr, const, null_value, load, addr_of, binary, convert, compare, ptr_compare}
use Rattle.ep_core.specs.Program.{logical_and, logical_or, logical_not, conditional, ptr_add, cast}

-- not all operands are evaluated (C11 6.5.13, 6.5.14, 6.5.15)
abbrev pub is_branching : Expr → Bool
is_branching (const t v) = false
is_branching null_value = false
is_branching (load w a) = false
is_branching (addr_of a) = false
is_branching (binary o t a b) = false
is_branching (convert t a) = false
is_branching (compare c t a b) = false
is_branching (ptr_compare c a b) = false
is_branching (logical_and a b) = true
is_branching (logical_or a b) = true
is_branching (logical_not a) = false
is_branching (conditional e a b) = true
is_branching (ptr_add a unit n back) = false
is_branching (cast a) = false

-- a test that is made of others
abbrev pub is_joined : Expr → Bool
is_joined (const t v) = false
is_joined null_value = false
is_joined (load w a) = false
is_joined (addr_of a) = false
is_joined (binary o t a b) = false
is_joined (convert t a) = false
is_joined (compare c t a b) = false
is_joined (ptr_compare c a b) = false
is_joined (logical_and a b) = true
is_joined (logical_or a b) = true
is_joined (logical_not a) = true
is_joined (conditional e a b) = false
is_joined (ptr_add a unit n back) = false
is_joined (cast a) = false

-- an operator of two operands that are both evaluated
abbrev pub is_of_two : Expr → Bool
is_of_two (const t v) = false
is_of_two null_value = false
is_of_two (load w a) = false
is_of_two (addr_of a) = false
is_of_two (binary o t a b) = true
is_of_two (convert t a) = false
is_of_two (compare c t a b) = true
is_of_two (ptr_compare c a b) = true
is_of_two (logical_and a b) = false
is_of_two (logical_or a b) = false
is_of_two (logical_not a) = false
is_of_two (conditional e a b) = false
is_of_two (ptr_add a unit n back) = true
is_of_two (cast a) = false
