-- The kinds of refusals: this project's, by their numbers.
use Rattle.std.specs.Prelude.{◌≡◌, ℕ, ◌==◌, if◌then◌else◌, refl}
use Rattle.ep_ast.specs.declared.kinds.RefusalKind.{RefusalKind}
use Rattle.ep_ast.specs.declared.kinds.RefusalKind.TheVariants as variants

abbrev pub byte : ℕ
byte = 1

abbrev pub comment : ℕ
comment = 2

abbrev pub number : ℕ
number = 3

abbrev pub string_literal : ℕ
string_literal = 4

abbrev pub directive : ℕ
directive = 5

abbrev pub include : ℕ
include = 6

abbrev pub conditional : ℕ
conditional = 7

abbrev pub reserved_word : ℕ
reserved_word = 8

abbrev pub bit_field : ℕ
bit_field = 9

abbrev pub syntax : ℕ
syntax = 10

abbrev pub array_bound : ℕ
array_bound = 17

abbrev pub call_in_expression : ℕ
call_in_expression = 18

abbrev pub assignment_in_expression : ℕ
assignment_in_expression = 19

abbrev pub nesting : ℕ
nesting = 22

abbrev pub unknown_name : ℕ
unknown_name = 30

abbrev pub redeclared : ℕ
redeclared = 31

abbrev pub type_mismatch : ℕ
type_mismatch = 32

abbrev pub incomplete_type : ℕ
incomplete_type = 33

abbrev pub pointer_to_integer : ℕ
pointer_to_integer = 34

abbrev pub recursion : ℕ
recursion = 35

abbrev pub no_main : ℕ
no_main = 36

abbrev pub too_large : ℕ
too_large = 37

abbrev pub conditional_arms : ℕ
conditional_arms = 38

abbrev pub arity : ℕ
arity = 39

abbrev pub no_member : ℕ
no_member = 40

abbrev pub not_an_lvalue : ℕ
not_an_lvalue = 41

abbrev pub length_not_constant : ℕ
length_not_constant = 42

abbrev pub struct_by_value : ℕ
struct_by_value = 43

abbrev pub incompatible_pointers : ℕ
incompatible_pointers = 44

abbrev pub not_constant : ℕ
not_constant = 45

abbrev pub no_definition : ℕ
no_definition = 46

abbrev pub stray_jump : ℕ
stray_jump = 47

abbrev pub call_depth : ℕ
call_depth = 48

abbrev pub bit_field_place : ℕ
bit_field_place = 51

abbrev pub number_of : RefusalKind → ℕ
number_of variants.Byte = byte
number_of variants.Comment = comment
number_of variants.Number = number
number_of variants.StringLiteral = string_literal
number_of variants.Directive = directive
number_of variants.Include = include
number_of variants.Conditional = conditional
number_of variants.ReservedWord = reserved_word
number_of variants.BitField = bit_field
number_of variants.Syntax = syntax
number_of variants.ArrayBound = array_bound
number_of variants.CallInExpression = call_in_expression
number_of variants.AssignmentInExpression = assignment_in_expression
number_of variants.Nesting = nesting
number_of variants.UnknownName = unknown_name
number_of variants.Redeclared = redeclared
number_of variants.TypeMismatch = type_mismatch
number_of variants.IncompleteType = incomplete_type
number_of variants.PointerToInteger = pointer_to_integer
number_of variants.Recursion = recursion
number_of variants.NoMain = no_main
number_of variants.TooLarge = too_large
number_of variants.ConditionalArms = conditional_arms
number_of variants.Arity = arity
number_of variants.NoMember = no_member
number_of variants.NotAnLvalue = not_an_lvalue
number_of variants.LengthNotConstant = length_not_constant
number_of variants.StructByValue = struct_by_value
number_of variants.IncompatiblePointers = incompatible_pointers
number_of variants.NotConstant = not_constant
number_of variants.NoDefinition = no_definition
number_of variants.StrayJump = stray_jump
number_of variants.CallDepth = call_depth
number_of variants.BitFieldPlace = bit_field_place

-- the kind of a number; of any other number the last one
abbrev pub kind_of : ℕ → RefusalKind
kind_of n =
    if n == byte then variants.Byte
    else if n == comment then variants.Comment
    else if n == number then variants.Number
    else if n == string_literal then variants.StringLiteral
    else if n == directive then variants.Directive
    else if n == include then variants.Include
    else if n == conditional then variants.Conditional
    else if n == reserved_word then variants.ReservedWord
    else if n == bit_field then variants.BitField
    else if n == syntax then variants.Syntax
    else if n == array_bound then variants.ArrayBound
    else if n == call_in_expression then variants.CallInExpression
    else if n == assignment_in_expression then variants.AssignmentInExpression
    else if n == nesting then variants.Nesting
    else if n == unknown_name then variants.UnknownName
    else if n == redeclared then variants.Redeclared
    else if n == type_mismatch then variants.TypeMismatch
    else if n == incomplete_type then variants.IncompleteType
    else if n == pointer_to_integer then variants.PointerToInteger
    else if n == recursion then variants.Recursion
    else if n == no_main then variants.NoMain
    else if n == too_large then variants.TooLarge
    else if n == conditional_arms then variants.ConditionalArms
    else if n == arity then variants.Arity
    else if n == no_member then variants.NoMember
    else if n == not_an_lvalue then variants.NotAnLvalue
    else if n == length_not_constant then variants.LengthNotConstant
    else if n == struct_by_value then variants.StructByValue
    else if n == incompatible_pointers then variants.IncompatiblePointers
    else if n == not_constant then variants.NotConstant
    else if n == no_definition then variants.NoDefinition
    else if n == stray_jump then variants.StrayJump
    else if n == call_depth then variants.CallDepth
    else variants.BitFieldPlace

pub kind_of_number : (k : RefusalKind) → kind_of (number_of k) ≡ k
kind_of_number variants.Byte = refl
kind_of_number variants.Comment = refl
kind_of_number variants.Number = refl
kind_of_number variants.StringLiteral = refl
kind_of_number variants.Directive = refl
kind_of_number variants.Include = refl
kind_of_number variants.Conditional = refl
kind_of_number variants.ReservedWord = refl
kind_of_number variants.BitField = refl
kind_of_number variants.Syntax = refl
kind_of_number variants.ArrayBound = refl
kind_of_number variants.CallInExpression = refl
kind_of_number variants.AssignmentInExpression = refl
kind_of_number variants.Nesting = refl
kind_of_number variants.UnknownName = refl
kind_of_number variants.Redeclared = refl
kind_of_number variants.TypeMismatch = refl
kind_of_number variants.IncompleteType = refl
kind_of_number variants.PointerToInteger = refl
kind_of_number variants.Recursion = refl
kind_of_number variants.NoMain = refl
kind_of_number variants.TooLarge = refl
kind_of_number variants.ConditionalArms = refl
kind_of_number variants.Arity = refl
kind_of_number variants.NoMember = refl
kind_of_number variants.NotAnLvalue = refl
kind_of_number variants.LengthNotConstant = refl
kind_of_number variants.StructByValue = refl
kind_of_number variants.IncompatiblePointers = refl
kind_of_number variants.NotConstant = refl
kind_of_number variants.NoDefinition = refl
kind_of_number variants.StrayJump = refl
kind_of_number variants.CallDepth = refl
kind_of_number variants.BitFieldPlace = refl

-- A refusal: its kind, its line, and for a reserved word the number of the word, else 0.
pub record Refused : Type 0 where
  pub kind : ℕ
  pub line : ℕ
  pub word : ℕ
