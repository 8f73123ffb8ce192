use Rattle.std.proofs.Common.{◌∙◌, sym, subst}
use Rattle.ep_core.specs.View.{place_view, what_view}
use Rattle.ep_typing.specs.Results.{at}
use Rattle.ep_operands.specs.declared.operand.Operand.{Operand}
use Rattle.ep_operands.specs.Refinement.{Refines, Stops}
use Rattle.ep_operands.specs.View.{callee, operand, value}
use Rattle.ep_stores.specs.Stores.{put_to, simply}
use Rattle.ep_stores.proofs.StoreLemmas.{function_stops, moved_gives, stored_gives, value_gives}
use Rattle.ep_stores.proofs.stores.put_there.Goals as goal

pub returns-then-moves_aggregate : goal.returns-then-moves_aggregate
returns-then-moves_aggregate c =
    subst (λ (y : Operand). Refines what_view (at c.args.line (simply (put_to c.args.types.now (place_view c.args.to) c.args.c (operand y)))) c.copied.result)
    (sym c.in-Place.is)
    (moved_gives c.args.types.now (place_view c.args.to) (place_view c.in-Place.from) c.args.c c.in-Place.d c.args.line c.copied.result
    (sym c.moves_aggregate.ensures ∙ c.if-moves_aggregate.true) c.copied.ensures)

pub returns-in_ok-v-in-Place : goal.returns-in_ok-v-in-Place
returns-in_ok-v-in-Place c =
    subst (λ (y : Operand). Refines what_view (at c.args.line (simply (put_to c.args.types.now (place_view c.args.to) c.args.c (operand y)))) c.stored.result)
    (sym c.in-Place.is)
    (stored_gives c.args.types.now (place_view c.args.to) (place_view c.in-Place.from) c.args.c c.in-Place.d (value c.in_ok-v-in-Place.v) c.args.line
    c.stored.result (sym c.moves_aggregate.ensures ∙ c.if-moves_aggregate.false) c.in_ok-v-in-Place.ensures c.stored.ensures)

pub returns-in-Value : goal.returns-in-Value
returns-in-Value c =
    subst (λ (y : Operand). Refines what_view (at c.args.line (simply (put_to c.args.types.now (place_view c.args.to) c.args.c (operand y)))) c.stored-in-Value.result)
    (sym c.in-Value.is)
    (value_gives c.args.types.now (place_view c.args.to) c.args.c (value c.in-Value.v) c.args.line c.stored-in-Value.result c.stored-in-Value.ensures)

pub returns-in-Function : goal.returns-in-Function
returns-in-Function c =
    subst (λ (y : Operand). Stops (at c.args.line (simply (put_to c.args.types.now (place_view c.args.to) c.args.c (operand y)))) c.refused.result)
    (sym c.in-Function.is)
    (function_stops c.args.types.now (place_view c.args.to) c.args.c (callee c.in-Function.field-0) c.args.line c.refused.result c.refused.ensures)
