-- Tame statements by their forms.
use Rattle.std.proofs.Common.{◌≡◌, ◌<◌, true, refl}
use Rattle.ep_int.specs.declared.types.Order.{Order}
use Rattle.ep_layout.specs.Table.{IsBuilt}
use Rattle.ep_domain.specs.Domain.{Ops, Lawful}
use Rattle.ep_core.specs.Program.{nothing, eval, assign, clear, copy_aggregate, copy_bytes, fill, input, output}
use Rattle.ep_core.specs.Program.{read_bytes, write_bytes, returns, Program}
use Rattle.ep_core.specs.Runs.{Side}
use Rattle.ep_core.specs.WellFormed.{is_well_formed}
use Rattle.ep_core.proofs.Sorts.{never}
use Rattle.ep_alarm_laws.specs.Laws.{ProductsKeepStrides}
use Rattle.ep_kinds.specs.Tame.{are_tame_types}
use Rattle.ep_tame_numbers.specs.Offsets.{KeepsOffsets}
use Rattle.ep_tame_ops.specs.Laws.{OpsKeepGood}
use Rattle.ep_tame_ops.proofs.GoodOps.{ops_keep_good}
use Rattle.ep_tame_stores.specs.Laws.{StoresKeepGood}
use Rattle.ep_tame_stores.proofs.Stores.{stores_keep_good}
use Rattle.ep_tame_clears.specs.Laws.{ClearsKeepGood}
use Rattle.ep_tame_clears.proofs.Statements.{clears_keep_good}
use Rattle.ep_tame_copies.specs.Laws.{CopiesKeepGood}
use Rattle.ep_tame_copies.proofs.Statements.{copies_keep_good}
use Rattle.ep_tame_statements.specs.Laws.{StatementsKeepGood}

module _ {N : Type 0} (D : Ops N) (p : Program) (ord : Side → Order) (ops : OpsKeepGood D p ord)
    (stores : StoresKeepGood D p ord) (clears : ClearsKeepGood D p ord) (copies : CopiesKeepGood D p ord) where
  by_form : StatementsKeepGood D p ord
  by_form here f at nothing seen typed own h s live res among in_res g =
      ops.still here f at nothing refl seen typed own h s live res among g
  by_form here f at (eval e) seen typed own h s live res among in_res g =
      ops.still here f at (eval e) refl seen typed own h s live res among g
  by_form here f at (output t e) seen typed own h s live res among in_res g =
      ops.still here f at (output t e) refl seen typed own h s live res among g
  by_form here f at (assign w a e) seen typed own h s live res among in_res g =
      stores here f at (assign w a e) refl seen typed own h s live res among in_res g
  by_form here f at (input t d) seen typed own h s live res among in_res g =
      stores here f at (input t d) refl seen typed own h s live res among in_res g
  by_form here f at (returns e) seen typed own h s live res among in_res g =
      stores here f at (returns e) refl seen typed own h s live res among in_res g
  by_form here f at (clear a ty) seen typed own h s live res among in_res g =
      clears here f at a ty seen typed own h s live res among g
  by_form here f at (copy_aggregate a b ty) seen typed own h s live res among in_res g =
      copies here f at a b ty seen typed own h s live res among g
  by_form here f at (copy_bytes a b n) seen typed own h s live res among in_res g = never own
  by_form here f at (fill a e n) seen typed own h s live res among in_res g = never own
  by_form here f at (read_bytes e n) seen typed own h s live res among in_res g = never own
  by_form here f at (write_bytes e n) seen typed own h s live res among in_res g = never own

pub statements_keep_good : {N : Type 0} (D : Ops N) → Lawful D → KeepsOffsets D → ProductsKeepStrides D
    → D.height < 4294967295 → (p : Program) → is_well_formed p ≡ true → IsBuilt p.types
    → are_tame_types p.types ≡ true → (ord : Side → Order) → StatementsKeepGood D p ord
statements_keep_good D law keeps products small p formed built tame ord =
    by_form D p ord (ops_keep_good D law keeps products small p formed built tame ord)
    (stores_keep_good D law keeps products p formed built tame ord)
    (clears_keep_good D law keeps products p formed built tame ord)
    (copies_keep_good D law keeps products p formed built tame ord)
