-- The definitions opened for the rows, which compute.
use Rattle.std.proofs.Common.{ℕ, List, map}
use Rattle.ep_int.specs.declared.types.Model.{Model}
use Rattle.std.specs.Prelude.{Result}
use Rattle.ep_ast.specs.declared.refusals.Refusal.{Refusal}
use Rattle.ep_ast.specs.Expression.{Expr}
use Rattle.ep_core.specs.Program as core
use Rattle.ep_layout.specs.Table.{at_depth}
use Rattle.ep_typing.specs.Types.{type_within, with_pointers, pointer_number}
use Rattle.ep_typing.specs.Names.{words_type, named_type, mentioned_name, mentioned, mentioned_all}
use Rattle.ep_typing.specs.Operand.{value_of, fitted, tested}
use Rattle.ep_typing.specs.Constant.{number_of, count_of}
use Rattle.ep_typing.specs.Operators.{arithmetic, shifted, moved, added, subtracted, ordered, equated, both, either}
use Rattle.ep_typing.specs.Operators.{chosen, kept, negated, complemented, denied, operated_on_numbers, decided}
use Rattle.ep_typing.specs.Operators.{operated, unary_operated}
use Rattle.ep_typing.specs.Parts.{named, named_uncalled, addressed, pointed, unary_typed, indexable}
use Rattle.ep_typing.specs.Parts.{element_of_array, element_behind}
use Rattle.ep_typing.specs.Parts.{indexed, member_of, selected, casted, type_sized, sized}
use Rattle.ep_typing.specs.Fields.{field_in, selected_behind, selected_in}
use Rattle.ep_typing.specs.Calls.{passed, all_passed, called}
use Rattle.ep_typing.specs.Typing.{statement_meaning, read_first, joined, chosen_from, cast_to, indexed_by}
use Rattle.ep_typing.specs.Typing.{test, assignable, not_stored, stored, copied, put, assigned}
use Rattle.ep_typing.specs.Typing.{updated, taken, call_typed, right_side, assignment, stepped, whole_statement}
use Rattle.ep_typing.specs.Typing.{typed, typed_all}
use Rattle.ep_typing.proofs.Around.{around}
use Rattle.ep_typing.proofs.Trees.{kind}

-- what a whole statement means in the program of `around`
unfoldable pub statement : Model → Expr → Result core.What Refusal
unfolding at_depth type_within with_pointers pointer_number words_type named_type mentioned_name mentioned
    mentioned_all value_of fitted tested number_of count_of arithmetic shifted moved added subtracted ordered equated
    both either chosen kept negated complemented denied operated_on_numbers decided operated unary_operated named
    addressed pointed unary_typed named_uncalled indexable element_of_array element_behind indexed member_of selected
    field_in selected_in casted type_sized sized passed all_passed called read_first joined chosen_from cast_to indexed_by
    selected_behind test assignable not_stored stored copied put assigned updated taken call_typed right_side
    assignment stepped whole_statement typed typed_all
statement m e = statement_meaning (around m) e

-- the kinds of refusals of whole statements, where 0 stands for none
unfoldable pub kinds : Model → List Expr → List ℕ
unfolding statement
kinds m es = map (λ e. kind (statement m e)) es
