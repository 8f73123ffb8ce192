-- Each statement that leaves the memory as it is, and inputs, of which nothing is asked.
use Rattle.std.proofs.Common.{◌≡◌, true, false, sym, ◌∙◌}
use Rattle.std.proofs.lemmas.Bool.{or_left}
use Rattle.ep_int.specs.declared.types.Order.{Order}
use Rattle.ep_domain.specs.Domain.{Ops, Lawful}
use Rattle.ep_core.specs.Program.{Simple, Program}
use Rattle.ep_core.specs.Runs.{Side}
use Rattle.ep_core.specs.WellFormed.{blocks_fit}
use Rattle.ep_core.proofs.Operands.{sizes}
use Rattle.ep_evaluation.specs.Laws.{ExpressionsHold}
use Rattle.ep_evaluation.proofs.Gathered.{evaluation_laws}
use Rattle.ep_kinds.specs.InOut.{is_input, is_output}
use Rattle.ep_singles.specs.Numbers.{KeepsSingles}
use Rattle.ep_single_values.specs.Laws.{ValuesAreOne}
use Rattle.ep_single_values.specs.Statements.{StatementIsExact, StatementsAreExact}
use Rattle.ep_single_outputs.specs.Laws.{IsStill, still_nothing, still_eval, still_output, still_write, TakesInputs}
use Rattle.ep_single_outputs.proofs.Values.{nothing_is, eval_is, output_is}
use Rattle.ep_single_outputs.proofs.Bytes.{write_is}

module _ {N : Type 0} (D : Ops N) (law : Lawful D) where
  by_form : (keeps : KeepsSingles D) (p : Program) (ord : Side → Order) → blocks_fit p.types p.blocks ≡ true
      → ExpressionsHold D p ord → ValuesAreOne D p ord → (w : Simple) → IsStill w → StatementIsExact D p ord w
  by_form keeps p ord fit exprs values _ still_nothing = nothing_is D law keeps p ord fit exprs values
  by_form keeps p ord fit exprs values _ (still_eval e) = eval_is D law keeps p ord fit exprs values e
  by_form keeps p ord fit exprs values _ (still_output t e) = output_is D law keeps p ord fit exprs values t e
  by_form keeps p ord fit exprs values _ (still_write e n) = write_is D law keeps p ord fit exprs values e n

  pub outputs_are_exact : StatementsAreExact D IsStill
  outputs_are_exact keeps p ord formed other values places w still =
      by_form keeps p ord (sizes p formed) ((evaluation_laws D law).expressions p ord) values w still

  pub inputs_are_exact : StatementsAreExact D TakesInputs
  inputs_are_exact keeps p ord formed other values places w h = record {
    alone = λ m here f at seen fits quiet l n s x y from.
        absurd (let d : true ≡ false = sym (or_left (is_input w) (is_output w) h) ∙ quiet in cc);
    both = λ here f at seen fits quiet l n m s x y from. absurd (let d : true ≡ false = sym h ∙ quiet in cc);
  }
