-- The operations on cells keep what reports on tame programs need.
use Rattle.std.proofs.Common.{◌≡◌, ℕ, ◌<◌, length, arith}
use Rattle.std.specs.List.{list_all}
use Rattle.std.proofs.lemmas.Bool.{and_parts}
use Rattle.ep_domain.specs.Domain.{Ops, Lawful}
use Rattle.ep_core.specs.Program.{Function}
use Rattle.ep_alarm_laws.specs.Laws.{ProductsKeepStrides}
use Rattle.ep_transfers.specs.Cells.{cell_ops}
use Rattle.ep_kinds.specs.Tame.{are_tame, are_tame_types}
use Rattle.ep_tame_laws.proofs.Tame.{tame_report}
use Rattle.ep_tame_numbers.specs.Offsets.{KeepsOffsets}
use Rattle.ep_tame_cells.specs.Rank.{rank}
use Rattle.ep_tame_ops.specs.Laws.{Good}
use Rattle.ep_tame_ops.proofs.GoodOps.{ops_keep_good}
use Rattle.ep_tame_calls.proofs.Gathered.{calls_keep_good}
use Rattle.ep_tame_ends.proofs.Gathered.{ends_are_good}
use Rattle.ep_tame_statements.proofs.Statements.{statements_keep_good}
use Rattle.ep_tame_reports.specs.Laws.{CellsAreTamely, CellsReportTamely, last_of}

-- the heights of intervals and of congruences together are below the limit of counts
pub is_small : (height : ℕ) → height ≡ 79 → height < 4294967295
is_small height e = omega (arith, e)

module _ {N : Type 0} (D : Ops N) where
  pub cells_are_tamely : Lawful D → KeepsOffsets D → ProductsKeepStrides D → D.height < 4294967295
      → CellsAreTamely D
  cells_are_tamely law keeps products small p ord formed built tame other =
      let types = (and_parts (are_tame_types p.types)
      (list_all (λ (f : Function). are_tame p.types f.body) p.functions) tame).0 in
      let o = ops_keep_good D law keeps products small p formed built types ord in
      let c = calls_keep_good D law keeps products p formed built types ord in
      let e = ends_are_good D law keeps products p formed built types ord in
      let s = statements_keep_good D law keeps products small p formed built types ord in
      record {
        entry = λ f at. e.entry f at;
        again = λ h s live res g. o.again h s live res g;
        simple = λ here f at w seen fits own h k live res among there g.
            s here f at w seen fits own h k live res among there g;
        test = λ x seen typed own h s live res among g. o.test x seen typed own h s live res among g;
        assume = λ x seen typed own t h s live res among g. o.assume x seen typed t h s live res g;
        arguments = λ k f at es seen fits own frame result h s live res among g.
            c.arguments k f at es seen fits own frame result h s live res among g;
        result = λ k f at d seen takes own h s live res among g.
            c.result k f at d seen takes own h s live res among g;
        enter = λ bs free h s live res g. o.enter bs free h s live res g;
        leave = λ bs h s live res g. o.leave bs h s live res g;
        joined = λ h s t live res g i. o.joined h s t live res g i;
        reshared = λ h s live res g. o.reshared h s live res g;
        below = λ h s live res g. o.below h s live res g;
        next = λ g h t live res a b w. o.next g h t live res a b w;
        ended = λ f at h s live res among g. e.ended f at h s live res among g;
      }

  pub cells_report : CellsAreTamely D → CellsReportTamely D
  cells_report laws p ord formed built tame other u =
      tame_report p (cell_ops D p ord) (Good D p ord) (λ k. rank D (length p.blocks) k.cells) (last_of D p)
      (laws p ord formed built tame other) formed tame u ord
