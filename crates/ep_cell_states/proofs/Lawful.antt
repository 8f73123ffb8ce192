-- The operations on what is known of the cells of two memories keep the laws of states, over every lawful domain.
use Rattle.std.proofs.Common.{◌≡◌, ℕ, true}
use Rattle.ep_int.specs.declared.types.Order.{Order}
use Rattle.ep_domain.specs.Domain.{Ops}
use Rattle.ep_domain.specs.Domain as domain
use Rattle.ep_cells.specs.States.{Known}
use Rattle.ep_core.specs.Program.{Simple, nothing, eval, assign, clear, copy_aggregate, copy_bytes, fill}
use Rattle.ep_core.specs.Program.{input, output, read_bytes, write_bytes, returns, Program}
use Rattle.ep_core.specs.Runs.{Side}
use Rattle.ep_core.specs.WellFormed.{is_well_formed}
use Rattle.ep_pass.specs.Laws.{Lawful}
use Rattle.ep_pass.specs.ReportLaws.{AreLawful, EmptyReportsAgree}
use Rattle.ep_pass.proofs.Sound.{sound}
use Rattle.ep_transfers.specs.Cells.{cell_ops}
use Rattle.ep_transfers.specs.Laws.{StandsFor}
use Rattle.ep_transfers.specs.Statements.{SimpleHolds}
use Rattle.ep_transfers.proofs.Gathered.{each_statement, each_result, each_test, each_block, each_pair}
use Rattle.ep_transfers.proofs.GatheredRuns.{each_run}
use Rattle.ep_transfers.proofs.Copying.{each_copy}
use Rattle.ep_transfers.proofs.Called.{each_call}
use Rattle.ep_transfers.proofs.Entering.{each_entry}

module _ {N : Type 0} (D : Ops N) (law : domain.Lawful D) (p : Program) (ord : Side → Order)
    (formed : is_well_formed p ≡ true) where
  each_holds : (w : Simple) → SimpleHolds D p ord w
  each_holds nothing = (each_statement D law p ord formed).nothing_holds
  each_holds (eval e) = (each_statement D law p ord formed).eval_holds e
  each_holds (assign w a e) = (each_statement D law p ord formed).assign_holds w a e
  each_holds (clear a ty) = (each_run D law p ord formed).clear_holds a ty
  each_holds (copy_aggregate a b ty) = (each_copy D law p ord formed).copy_aggregate_holds a b ty
  each_holds (copy_bytes a b n) = (each_copy D law p ord formed).copy_bytes_holds a b n
  each_holds (fill a e n) = (each_run D law p ord formed).fill_holds a e n
  each_holds (input t d) = (each_statement D law p ord formed).input_holds t d
  each_holds (output t e) = (each_statement D law p ord formed).output_holds t e
  each_holds (read_bytes e n) = (each_run D law p ord formed).read_holds e n
  each_holds (write_bytes e n) = (each_run D law p ord formed).write_holds e n
  each_holds (returns e) = (each_statement D law p ord formed).return_holds e

  program_lawful : Lawful p ord (cell_ops D p ord) (StandsFor D p ord)
  program_lawful =
      let result = each_result D law p ord formed in
      let test = each_test D law p ord formed in
      let call = each_call D law p ord formed in
      let block = each_block D law p ord formed in
      let pair = each_pair D law p ord formed in
      record {
        entry_in = (each_entry D law p ord formed).entry_in;
        simple_sound = λ here f at w seen h l n m s x y kept q. (each_holds w).sound here f at seen h l n m s x y kept q;
        simple_alone = λ i here f at w seen h l n s x y kept q. (each_holds w).alone i here f at seen h l n s x y kept q;
        test_sound = test.sound;
        test_alone = test.alone;
        assume_in = test.assume_in;
        assume_alone = test.assume_alone;
        arguments_sound = call.sound;
        arguments_alone = call.alone;
        result_sound = result.sound;
        result_alone = result.alone;
        enter_in = block.enter_in;
        leave_in = block.leave_in;
        enter_alone = block.enter_alone;
        leave_alone = block.leave_alone;
        unified_left = pair.unified_left;
        unified_right = pair.unified_right;
        joined_left = pair.joined_left;
        joined_right = pair.joined_right;
        widened_left = pair.widened_left;
        leq_in = pair.leq_in;
        reshared_in = pair.reshared_in;
        empty_in = pair.empty_in;
        ended_sound = result.ended;
      }

module _ {N : Type 0} (D : Ops N) (law : domain.Lawful D) where
  pub cells_lawful : AreLawful (Known N) (cell_ops D) (StandsFor D)
  cells_lawful p ord formed other = program_lawful D law p ord formed

  pub cells_agree : EmptyReportsAgree (Known N) (cell_ops D)
  cells_agree p ord formed other u limit e =
      sound p formed ord (cell_ops D p ord) (StandsFor D p ord) (cells_lawful p ord formed other) u limit e
