-- The definitions opened for the rows, which compute.
use Rattle.std.proofs.Common.{ℕ, ℤ, List, map, Option, Some, None}
use Rattle.std.specs.Prelude.{Bool, false, Result, Ok, Err}
use Rattle.std.specs.List.{list_all}
use Rattle.ep_int.specs.declared.types.IntType.{IntType}
use Rattle.ep_int.specs.declared.types.Model.{Model}
use Rattle.ep_int.specs.declared.types.Order.{Order}
use Rattle.ep_ast.specs.declared.refusals.Refusal.{Refusal}
use Rattle.ep_ast.specs.Statement.{Item}
use Rattle.ep_core.specs.Program as core
use Rattle.ep_core.specs.WellFormed.{is_well_formed}
use Rattle.ep_core.specs.Exec.{Output}
use Rattle.ep_core.specs.Runs.{Ending, Run, run}
use Rattle.ep_layout.specs.Table.{at_depth}
use Rattle.ep_typing.specs.Types.{type_within, with_pointers, pointer_number}
use Rattle.ep_typing.specs.Names.{words_type, named_type, mentioned_name, mentioned, mentioned_all}
use Rattle.ep_typing.specs.Operand.{value_of, fitted, tested}
use Rattle.ep_typing.specs.Constant.{number_of, count_of}
use Rattle.ep_typing.specs.Operators.{arithmetic, shifted, moved, added, subtracted, ordered, equated, both, either}
use Rattle.ep_typing.specs.Operators.{chosen, kept, negated, complemented, denied, operated_on_numbers, decided}
use Rattle.ep_typing.specs.Operators.{operated, unary_operated}
use Rattle.ep_typing.specs.Parts.{named, named_uncalled, addressed, pointed, unary_typed, indexable}
use Rattle.ep_typing.specs.Parts.{element_of_array, element_behind}
use Rattle.ep_typing.specs.Parts.{indexed, member_of, selected, casted, type_sized, sized}
use Rattle.ep_typing.specs.Fields.{field_in, selected_behind, selected_in}
use Rattle.ep_typing.specs.Calls.{passed, all_passed, called}
use Rattle.ep_typing.specs.Typing.{read_first, joined, chosen_from, cast_to, indexed_by, field_of, typed}
use Rattle.ep_typing.specs.Typing.{typed_all, test, assignable, not_stored, stored, copied, put, assigned, updated}
use Rattle.ep_typing.specs.Typing.{taken, call_typed, right_side, assignment, stepped, whole_statement}
use Rattle.ep_elaboration.specs.Declarators.{bound, bounds, object_bounds, array_of, arrays_of, sized_object}
use Rattle.ep_elaboration.specs.Declarators.{declared_object, object_declared, declared_type}
use Rattle.ep_elaboration.specs.ProgramSteps.{type_declared}
use Rattle.ep_elaboration.specs.ProgramSteps.{types_declared}
use Rattle.ep_elaboration.specs.Aggregates.{opened, with_member, member_declared, with_field, field_declared}
use Rattle.ep_elaboration.specs.Aggregates.{entry_declared, entries_declared, words_declared}
use Rattle.ep_elaboration.specs.Aggregates.{specs_declared, body_declared, all_members}
use Rattle.ep_elaboration.specs.FieldStatements.{field_read, field_written, field_statement, field_given}
use Rattle.ep_elaboration.specs.Given.{first_values, expression_given, with_list, value_given, all_given}
use Rattle.ep_elaboration.specs.Declarations.{initialised_by_field, initialised, variable_declared}
use Rattle.ep_elaboration.specs.Declarations.{variables_declared, declaration}
use Rattle.ep_elaboration.specs.Statements.{tested_in, tested_if, evaluated_in, evaluated_if, first_part}
use Rattle.ep_elaboration.specs.Statements.{nothing_returned, operand_returned, statement, statements, part, parts}
use Rattle.ep_elaboration.specs.Functions.{param_bounds, param_type, with_param, param_declared, params_declared}
use Rattle.ep_elaboration.specs.Functions.{headed, function_declared, prototype}
use Rattle.ep_elaboration.specs.FunctionSteps.{function_typed, function_defined}
use Rattle.ep_elaboration.specs.FunctionSteps.{functions_defined, others_typed, are_alike, arms_agree, arms_defined}
use Rattle.ep_elaboration.specs.Calls.{reaches, with_function, function_depth}
use Rattle.ep_elaboration.specs.Programs.{renumbered_what, renumbered}
use Rattle.ep_elaboration.specs.ProgramSteps.{item, items, checked, elaborated}

-- the kind of a refusal and its line, and 0 for both where nothing is refused
abbrev pub refused : {A : Type 0} → Result A Refusal → ℕ × ℕ
refused (Ok x) = (0, 0)
refused (Err r) = (r.kind, r.line)

-- what a program means
unfoldable pub program : Model → List Item → Result core.Program Refusal
unfolding at_depth type_within with_pointers pointer_number words_type named_type mentioned_name mentioned
    mentioned_all value_of fitted tested number_of count_of arithmetic shifted moved added subtracted ordered
    equated both either chosen kept negated complemented denied operated_on_numbers decided operated
    unary_operated named named_uncalled addressed pointed unary_typed indexable element_of_array element_behind indexed
    member_of selected field_in selected_in casted type_sized sized passed all_passed called read_first joined
    chosen_from cast_to indexed_by selected_behind field_of typed typed_all test assignable not_stored stored copied put
    assigned updated taken call_typed right_side assignment stepped whole_statement bound bounds object_bounds
    array_of arrays_of sized_object declared_object object_declared declared_type type_declared types_declared
    opened with_member member_declared with_field field_declared entry_declared entries_declared words_declared
    specs_declared body_declared all_members
    field_read field_written field_statement field_given first_values expression_given with_list value_given
    all_given initialised_by_field initialised variable_declared variables_declared
    declaration tested_in tested_if evaluated_in evaluated_if first_part nothing_returned operand_returned
    statement statements part parts param_bounds param_type with_param param_declared params_declared headed
    function_declared prototype function_typed function_defined functions_defined others_typed are_alike
    arms_agree arms_defined reaches with_function function_depth item items checked renumbered_what renumbered
    elaborated
program m is = elaborated m is

-- for what a program is refused, and on which line
unfoldable pub answer : Model → List Item → ℕ × ℕ
unfolding program
answer m is = refused (program m is)

unfoldable pub answers : Model → List (List Item) → List (ℕ × ℕ)
unfolding answer
answers m ps = map (answer m) ps

-- whether a program means one that is well formed
abbrev pub well_formed : Result core.Program Refusal → Bool
well_formed (Ok p) = is_well_formed p
well_formed (Err r) = false

unfoldable pub is_sound : Model → List Item → Bool
unfolding program at_depth
is_sound m is = well_formed (program m is)

unfoldable pub all_sound : Model → List (List Item) → Bool
unfolding is_sound
all_sound m ps = list_all (is_sound m) ps

abbrev pub puts : IntType → ℤ → Output
puts t v = record { t = t; value = v }

abbrev pub seen : Run → Ending × List Output
seen r = (r.ending, r.outputs)

abbrev pub run_of : (core.Program → Run) → Result core.Program Refusal → Option (Ending × List Output)
run_of go (Ok p) = Some (seen (go p))
run_of go (Err r) = None

-- how a run of what a program means ends, and what it puts out
unfoldable pub ran : Model → Order → (inputs : List ℕ) → (steps : ℕ) → List Item → Option (Ending × List Output)
unfolding program at_depth
ran m o inputs steps is = run_of (λ p. run p o inputs steps) (program m is)
