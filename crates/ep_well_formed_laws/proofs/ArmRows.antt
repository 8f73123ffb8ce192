-- Two arms of which one head can't stand where the arms are compared: the types are compared once more in the second
-- arm.
use Rattle.std.proofs.Common.{[], ◌∷◌, List, refl, false, Some, None}
use Rattle.std.specs.Prelude.{codes}
use Rattle.ep_int.specs.declared.types.Model.TheVariants.{Ilp32}
use Rattle.ep_ast.specs.declared.orders.NamedOrder.TheVariants.{Little}
use Rattle.ep_ast.specs.Mark as mark
use Rattle.ep_ast.specs.Expression.{id, index, sizeof_type, tagged}
use Rattle.ep_ast.specs.Declaration.{aggregate, body, member, plain, some_params, whole, to_members, to_specs, void}
use Rattle.ep_ast.specs.Statement.{Function, Item, return_value, states, declares_all}
use Rattle.ep_elaboration.proofs.Trees.{literal, number, declarator, declaration as tree_declaration, param, head}
use Rattle.ep_elaboration.proofs.Trees.{block_at, function, int_words, int_word_at, pointer, type_name}
use Rattle.ep_layout.specs.Table.{at_depth}
use Rattle.ep_typing.specs.Types.{type_within, with_pointers, pointer_number}
use Rattle.ep_typing.specs.Names.{words_type, named_type, mentioned_name, mentioned, mentioned_all}
use Rattle.ep_typing.specs.Operand.{value_of, fitted, tested}
use Rattle.ep_typing.specs.Constant.{number_of, count_of}
use Rattle.ep_typing.specs.Operators.{arithmetic, shifted, moved, added, subtracted, ordered, equated, both, either}
use Rattle.ep_typing.specs.Operators.{chosen, kept, negated, complemented, denied, operated_on_numbers, decided}
use Rattle.ep_typing.specs.Operators.{operated, unary_operated}
use Rattle.ep_typing.specs.Parts.{named, named_uncalled, addressed, pointed, unary_typed, indexable}
use Rattle.ep_typing.specs.Parts.{element_of_array, element_behind}
use Rattle.ep_typing.specs.Parts.{indexed, member_of, selected, casted, type_sized, sized}
use Rattle.ep_typing.specs.Fields.{field_in, selected_behind, selected_in}
use Rattle.ep_typing.specs.Calls.{passed, all_passed, called}
use Rattle.ep_typing.specs.Typing.{read_first, joined, chosen_from, cast_to, indexed_by, field_of, typed}
use Rattle.ep_typing.specs.Typing.{typed_all, test, assignable, not_stored, stored, copied, put, assigned, updated}
use Rattle.ep_typing.specs.Typing.{taken, call_typed, right_side, assignment, stepped, whole_statement}
use Rattle.ep_elaboration.specs.Declarators.{bound, bounds, object_bounds, array_of, arrays_of, sized_object}
use Rattle.ep_elaboration.specs.Declarators.{declared_object, object_declared, declared_type}
use Rattle.ep_elaboration.specs.ProgramSteps.{type_declared}
use Rattle.ep_elaboration.specs.ProgramSteps.{types_declared}
use Rattle.ep_elaboration.specs.Aggregates.{opened, with_member, member_declared, with_field, field_declared}
use Rattle.ep_elaboration.specs.Aggregates.{entry_declared, entries_declared, words_declared}
use Rattle.ep_elaboration.specs.Aggregates.{specs_declared, body_declared, all_members}
use Rattle.ep_elaboration.specs.FieldStatements.{field_read, field_written, field_statement, field_given}
use Rattle.ep_elaboration.specs.Given.{first_values, expression_given, with_list, value_given, all_given}
use Rattle.ep_elaboration.specs.Declarations.{initialised_by_field, initialised, variable_declared}
use Rattle.ep_elaboration.specs.Declarations.{variables_declared, declaration}
use Rattle.ep_elaboration.specs.Statements.{tested_in, tested_if, evaluated_in, evaluated_if, first_part}
use Rattle.ep_elaboration.specs.Statements.{nothing_returned, operand_returned, statement, statements, part, parts}
use Rattle.ep_elaboration.specs.Functions.{param_bounds, param_type, with_param, param_declared, params_declared}
use Rattle.ep_elaboration.specs.Functions.{headed, function_declared, prototype}
use Rattle.ep_elaboration.specs.FunctionSteps.{function_typed, function_defined}
use Rattle.ep_elaboration.specs.FunctionSteps.{functions_defined, others_typed, are_alike, arms_agree, arms_defined}
use Rattle.ep_elaboration.specs.Calls.{reaches, with_function, function_depth}
use Rattle.ep_elaboration.specs.Programs.{renumbered_what, renumbered}
use Rattle.ep_elaboration.specs.ProgramSteps.{item, items, checked, elaborated}
use Rattle.ep_well_formed_laws.specs.ProgramLaws.{ArmsMayDiffer}

-- struct t *p;
abbrev before : List Item
before =
    (declares_all
    (tree_declaration 1 ((plain (tagged 1 mark.struct_word (codes "t"))) ∷ []) (pointer 1 (codes "p")))) ∷ []

-- struct t { int x; } *h(void) { return 0; }
-- int f(int a[][sizeof(struct t)]) { return 0; }
abbrev first : List Function
first =
    ((function
    (head 3
    ((body
    (aggregate 3 mark.struct_word (Some (codes "t"))
    (to_members ((member 3 (to_specs (int_words 3)) ((whole (declarator 3 [] (codes "x") [])) ∷ [])) ∷ [])))) ∷ [])
    (0 ∷ []) (codes "h") (Some (void 3)))
    (block_at 3 ((states (return_value 3 (Some (literal 3 0 false false 0)))) ∷ []))) ∷
    (function
    (head 4 (int_words 4) [] (codes "f")
    (Some
    (some_params 4
    ((param 4 (int_word_at 4) [] (Some (codes "a"))
    (None ∷ (Some (sizeof_type 4 (type_name 4 ((tagged 4 mark.struct_word (codes "t")) ∷ []) []))) ∷ [])) ∷ []))))
    (block_at 4 ((states (return_value 4 (Some (literal 4 0 false false 0)))) ∷ []))) ∷ [])

-- struct t *h(void) { return 0; }
-- int f(int a[][8]) { return a[0][0]; }
abbrev second : List Function
second =
    ((function (head 6 ((plain (tagged 6 mark.struct_word (codes "t"))) ∷ []) (0 ∷ []) (codes "h") (Some (void 6)))
    (block_at 6 ((states (return_value 6 (Some (literal 6 0 false false 0)))) ∷ []))) ∷
    (function
    (head 7 (int_words 7) [] (codes "f")
    (Some (some_params 7 ((param 7 (int_word_at 7) [] (Some (codes "a")) (None ∷ (Some (number 7 8)) ∷ [])) ∷ []))))
    (block_at 7
    ((states (return_value 7 (Some (index 7 (index 7 (id 7 (codes "a")) (literal 7 0 false false 0))
    (literal 7 0 false false 0))))) ∷
    []))) ∷ [])

pub arms_may_differ : ArmsMayDiffer
unfolding at_depth type_within with_pointers pointer_number words_type named_type mentioned_name mentioned
    mentioned_all value_of fitted tested number_of count_of arithmetic shifted moved added subtracted ordered
    equated both either chosen kept negated complemented denied operated_on_numbers decided operated
    unary_operated named named_uncalled addressed pointed unary_typed indexable element_of_array element_behind indexed
    member_of selected field_in selected_in casted type_sized sized passed all_passed called read_first joined
    chosen_from cast_to indexed_by selected_behind field_of typed typed_all test assignable not_stored stored copied put
    assigned updated taken call_typed right_side assignment stepped whole_statement bound bounds object_bounds
    array_of arrays_of sized_object declared_object object_declared declared_type type_declared types_declared
    opened with_member member_declared with_field field_declared entry_declared entries_declared words_declared specs_declared body_declared all_members
    field_read field_written field_statement field_given first_values expression_given with_list value_given
    all_given initialised_by_field initialised variable_declared variables_declared
    declaration tested_in tested_if evaluated_in evaluated_if first_part nothing_returned operand_returned
    statement statements part parts param_bounds param_type with_param param_declared params_declared headed
    function_declared prototype function_typed function_defined functions_defined others_typed are_alike
    arms_agree arms_defined reaches with_function function_depth item items checked renumbered_what renumbered
    elaborated
arms_may_differ = (Ilp32, before, Little, first, second, 7, refl, refl)
