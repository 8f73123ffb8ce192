-- The line that says why a source is refused: this project's kinds and their names.
use Rattle.std.specs.Prelude.{ℕ, ◌==◌, if◌then◌else◌, List, [], ◌++◌, codes, decimal}
use Rattle.ep_ast.specs.Kind as kinds
use Rattle.ep_ast.specs.declared.refusals.Refusal.{Refusal}
use Rattle.ep_ast.specs.declared.refusals.Halt.{Halt}
use Rattle.ep_ast.specs.declared.refusals.Halt.TheVariants as halts
use Rattle.ep_ast.specs.Reserved.{reserved_word}

-- each kind with its name
abbrev pub kind_name : ℕ → List ℕ
kind_name k =
    if k == kinds.byte then codes "byte"
    else if k == kinds.comment then codes "comment"
    else if k == kinds.number then codes "number"
    else if k == kinds.string_literal then codes "string-literal"
    else if k == kinds.directive then codes "directive"
    else if k == kinds.include then codes "include"
    else if k == kinds.conditional then codes "conditional"
    else if k == kinds.reserved_word then codes "reserved-word"
    else if k == kinds.bit_field then codes "bit-field"
    else if k == kinds.syntax then codes "syntax"
    else if k == kinds.array_bound then codes "array-bound"
    else if k == kinds.call_in_expression then codes "call-in-expression"
    else if k == kinds.assignment_in_expression then codes "assignment-in-expression"
    else if k == kinds.nesting then codes "nesting"
    else if k == kinds.unknown_name then codes "unknown-name"
    else if k == kinds.redeclared then codes "redeclared"
    else if k == kinds.type_mismatch then codes "type-mismatch"
    else if k == kinds.incomplete_type then codes "incomplete-type"
    else if k == kinds.pointer_to_integer then codes "pointer-to-integer"
    else if k == kinds.recursion then codes "recursion"
    else if k == kinds.no_main then codes "no-main"
    else if k == kinds.too_large then codes "too-large"
    else if k == kinds.conditional_arms then codes "conditional-arms"
    else if k == kinds.arity then codes "arity"
    else if k == kinds.no_member then codes "no-member"
    else if k == kinds.not_an_lvalue then codes "not-an-lvalue"
    else if k == kinds.length_not_constant then codes "length-not-constant"
    else if k == kinds.struct_by_value then codes "struct-by-value"
    else if k == kinds.incompatible_pointers then codes "incompatible-pointers"
    else if k == kinds.not_constant then codes "not-constant"
    else if k == kinds.no_definition then codes "no-definition"
    else if k == kinds.stray_jump then codes "stray-jump"
    else if k == kinds.call_depth then codes "call-depth"
    else if k == kinds.bit_field_place then codes "bit-field-place"
    else []

abbrev pub word_part : Refusal → List ℕ
word_part r = if r.kind == kinds.reserved_word then codes " " ++ reserved_word r.word else []

-- `LINE: refused K NAME`, for a reserved word followed by a space and the word, and a newline
abbrev pub refusal_line : Refusal → List ℕ
refusal_line r =
    decimal r.line ++ codes ": refused " ++ decimal r.kind ++ codes " " ++ kind_name r.kind ++ word_part r ++ codes "\n"

-- what holds of the refusal, where reading did not stop for want of memory
abbrev pub IfRefused : Halt → (Refusal → Type 0) → Type 0
IfRefused halts.Memory P = Unit {0}
IfRefused (halts.Refused r) P = P r
