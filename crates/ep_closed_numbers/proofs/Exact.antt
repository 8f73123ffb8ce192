-- The operations on cells are exact on closed programs, and the report on a closed and steady one is empty.
use Rattle.std.proofs.Common.{◌≡◌, ℕ, ◌<◌, ◌≤◌, true, false, ◌&&◌, [], Option, Some, None, is_some, unwrap_or}
use Rattle.ep_core.proofs.Sorts.{never}
use Rattle.std.proofs.Common.{refl, sym, arith}
use Rattle.std.proofs.lemmas.Bool.{or_parts, and_parts}
use Rattle.ep_int.specs.declared.types.Order.{Order}
use Rattle.ep_layout.specs.Table as table
use Rattle.ep_domain.specs.Domain.{Ops}
use Rattle.ep_cells.specs.States.{Known}
use Rattle.ep_core.specs.Program.{Simple, nothing, eval, assign, clear, copy_aggregate, copy_bytes, fill, input, output}
use Rattle.ep_core.specs.Program.{read_bytes, write_bytes, returns, Program}
use Rattle.ep_core.specs.Runs.{Side, left, right}
use Rattle.ep_core.specs.WellFormed.{is_well_formed, simple_fits, place_has}
use Rattle.ep_kinds.specs.InOut.{is_input, is_output}
use Rattle.ep_pass.specs.Laws.{AreOther}
use Rattle.ep_pass.specs.Turns.{last_head}
use Rattle.ep_transfers.specs.Cells.{cell_ops}
use Rattle.ep_transfers.specs.Runs.{bytes_of}
use Rattle.ep_closed_laws.specs.Closely.{ConcretisesOneTyped, Closely}
use Rattle.ep_closed_laws.specs.Laws.{TypesHaveBytes, AreExact}
use Rattle.ep_closed_laws.proofs.Inside.{Inside}
use Rattle.ep_closed_laws.proofs.Lift.{exactly}
use Rattle.ep_closed_laws.proofs.Exact.{closed_report}
use Rattle.ep_closed_laws.proofs.Steps.{ends_alike}
use Rattle.ep_singles.specs.Numbers.{KeepsSingles}
use Rattle.ep_single_assigned.specs.Laws.{IsStore, store_assign, store_return}
use Rattle.ep_single_byte_copies.specs.Laws.{IsByteCopy, is_byte_copy}
use Rattle.ep_single_calls.specs.Laws.{EachCallIsExact}
use Rattle.ep_single_clears.specs.Laws.{ClearsAreExact}
use Rattle.ep_single_copies.specs.Laws.{CopiesAreExact}
use Rattle.ep_single_ends.specs.Laws.{EndIsExact}
use Rattle.ep_single_entry.specs.Laws.{EntryIsExact}
use Rattle.ep_single_fills.specs.Laws.{IsFill, is_fill}
use Rattle.ep_single_outputs.specs.Laws.{IsStill, still_nothing, still_eval, still_output, still_write}
use Rattle.ep_single_states.specs.Laws.{ConcretisesOne, BlocksAreExact, ResharesAreExact}
use Rattle.ep_single_tests.specs.Laws.{TestsAreExact}
use Rattle.ep_single_values.specs.Laws.{ValuesAreOne, PlacesAreOne}
use Rattle.ep_single_values.specs.Statements.{StatementIsExact, StatementsAreExact}
use Rattle.ep_closed_numbers.specs.Laws.{CellsReportClosed}
use Rattle.ep_closed_numbers.proofs.Heads.{two_heads}

-- the laws of single operations
pub record CellsKeepOne {N : Type 0} (D : Ops N) : Type 0 where
  pub entry : EntryIsExact D
  pub values : (p : Program) (ord : Side → Order) → ValuesAreOne D p ord
  pub places : (p : Program) (ord : Side → Order) → PlacesAreOne D p ord
  pub tests : TestsAreExact D
  pub stores : StatementsAreExact D IsStore
  pub clears : ClearsAreExact D
  pub copies : CopiesAreExact D
  pub stills : StatementsAreExact D IsStill
  pub byte_copies : StatementsAreExact D IsByteCopy
  pub fills : StatementsAreExact D IsFill
  pub calls : EachCallIsExact D
  pub ends : EndIsExact D
  pub blocks : BlocksAreExact D
  pub reshares : ResharesAreExact D

sized : (p : Program) → TypesHaveBytes p.types → (ty : ℕ) → is_some (table.size p.types ty) ≡ true
    → 0 < bytes_of p ty
sized p bytes ty e = by_size (table.size p.types ty) (bytes ty) e
  where
    by_size : (o : Option ℕ) → ((n : ℕ) → o ≡ Some n → 1 ≤ n) → is_some o ≡ true → 0 < unwrap_or o 0
    by_size None f i = absurd (cc)
    by_size (Some n) f i = let l = f n refl in omega (arith, l)

module _ {N : Type 0} (D : Ops N) (laws : CellsKeepOne D) (keeps : KeepsSingles D) where
  module _ (p : Program) (ord : Side → Order) (formed : is_well_formed p ≡ true) (bytes : TypesHaveBytes p.types)
      (other : AreOther ord) where
    abbrev vals : ValuesAreOne D p ord
    vals = laws.values p ord

    abbrev plcs : PlacesAreOne D p ord
    plcs = laws.places p ord

    -- each statement that takes no input
    statement : (here : ℕ) (r : Option ℕ) (w : Simple) (seen : _) → simple_fits p here r w seen ≡ true
        → is_input w ≡ false → StatementIsExact D p ord w
    statement here r nothing seen fits quiet =
        laws.stills keeps p ord formed other vals plcs nothing still_nothing
    statement here r (eval e) seen fits quiet =
        laws.stills keeps p ord formed other vals plcs (eval e) (still_eval e)
    statement here r (assign w a e) seen fits quiet =
        laws.stores keeps p ord formed other vals plcs (assign w a e) (store_assign w a e)
    statement here r (clear a ty) seen fits quiet =
        laws.clears keeps p ord formed plcs a ty
        (sized p bytes ty (and_parts (place_has p.types p.blocks seen a ty) (is_some (table.size p.types ty)) fits).1)
    statement here r (copy_aggregate a b ty) seen fits quiet =
        laws.copies keeps p ord formed plcs a b ty
        (sized p bytes ty (and_parts (place_has p.types p.blocks seen a ty && place_has p.types p.blocks seen b ty)
        (is_some (table.size p.types ty)) fits).1)
    statement here r (copy_bytes a b n) seen fits quiet =
        laws.byte_copies keeps p ord formed other vals plcs (copy_bytes a b n) (is_byte_copy a b n)
    statement here r (fill a e n) seen fits quiet =
        laws.fills keeps p ord formed other vals plcs (fill a e n) (is_fill a e n)
    statement here r (input t d) seen fits quiet = never (sym quiet)
    statement here r (output t e) seen fits quiet =
        laws.stills keeps p ord formed other vals plcs (output t e) (still_output t e)
    statement here r (read_bytes e n) seen fits quiet = never (sym quiet)
    statement here r (write_bytes e n) seen fits quiet =
        laws.stills keeps p ord formed other vals plcs (write_bytes e n) (still_write e n)
    statement here r (returns e) seen fits quiet =
        laws.stores keeps p ord formed other vals plcs (returns e) (store_return e)

    pub cells_are_exact : Closely p ord (cell_ops D p ord) (ConcretisesOne D p ord)
    cells_are_exact =
        let t = laws.tests keeps p ord formed in
        let b = laws.blocks p ord formed in
        let c = laws.calls keeps p ord formed vals plcs in
        record {
          entry = laws.entry p ord formed;
          simple_alone = λ m here f at w seen fits quiet l n s x y h.
              (statement here _ w seen fits (or_parts (is_input w) (is_output w) quiet).0).alone m here f at seen fits
              quiet l n s x y h;
          test_alone = t.test_alone;
          assume_alone = t.assume_alone;
          arguments_alone = c.arguments_alone;
          result_alone = c.result_alone;
          enter_alone = b.enter_alone;
          leave_alone = b.leave_alone;
          simple_both = λ here f at w seen fits takes l n m s x y h.
              (statement here _ w seen fits takes).both here f at seen fits takes l n m s x y h;
          test_both = t.test_both;
          assume_both = t.assume_both;
          arguments_both = c.arguments_both;
          result_both = c.result_both;
          enter_both = b.enter_both;
          leave_both = b.leave_both;
          reshared = λ s m k h. laws.reshares keeps p ord s m k h;
          ended = λ f at s x y h z. laws.ends p ord formed f at s x y h z.left_over z.right_over z.outputs;
        }

pub cells_report : {N : Type 0} (D : Ops N) → AreExact (Known N) (cell_ops D) (ConcretisesOne D) → CellsReportClosed D
cells_report D exact p ord formed bytes other u closed steady =
    closed_report p ord (cell_ops D p ord) (ConcretisesOneTyped p (Inside p (ConcretisesOne D p ord)))
    (exactly p formed ord (cell_ops D p ord) (ConcretisesOne D p ord)
    (exact p ord formed bytes closed.text other)) formed
    closed.text u (last_head p D.height) (two_heads p formed D.height) []
    (ends_alike p formed (ord left) (ord right) u [] closed.left_turns closed.right_turns steady)
