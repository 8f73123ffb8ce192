-- The two ends of the main of a tame program.
use Rattle.std.proofs.Common.{◌≡◌, true}
use Rattle.ep_int.specs.declared.types.Order.{Order}
use Rattle.ep_layout.specs.Table.{IsBuilt}
use Rattle.ep_domain.specs.Domain.{Ops, Lawful}
use Rattle.ep_core.specs.Program.{Program}
use Rattle.ep_core.specs.Runs.{Side}
use Rattle.ep_core.specs.WellFormed.{is_well_formed, blocks_fit}
use Rattle.ep_core.proofs.Operands.{sizes as blocks_of}
use Rattle.ep_alarm_laws.specs.Laws.{ProductsKeepStrides}
use Rattle.ep_kinds.specs.Tame.{are_tame_types}
use Rattle.ep_tame_numbers.specs.Offsets.{KeepsOffsets}
use Rattle.ep_tame_places.specs.Laws.{PlaceLaws}
use Rattle.ep_tame_places.proofs.Steps.{place_laws_of}
use Rattle.ep_tame_accesses.proofs.Accesses.{accesses_of}
use Rattle.ep_tame_changes.proofs.Killed.{blocks_keep_good}
use Rattle.ep_tame_ends.specs.Laws.{EndsAreGood}
use Rattle.ep_tame_ends.proofs.Entry.{entry_good}
use Rattle.ep_tame_ends.proofs.Ended.{ended_good}

module _ {N : Type 0} (D : Ops N) (law : Lawful D) (keeps : KeepsOffsets D) (products : ProductsKeepStrides D)
    (p : Program) (formed : is_well_formed p ≡ true) (built : IsBuilt p.types) (tame : are_tame_types p.types ≡ true)
    (ord : Side → Order) where
  fit : blocks_fit p.types p.blocks ≡ true
  fit = blocks_of p formed

  places : PlaceLaws D p
  places = place_laws_of D law keeps products p built tame fit

  pub ends_are_good : EndsAreGood D p ord
  ends_are_good = record {
    entry = λ f at. entry_good D law p ord formed places (blocks_keep_good D law p fit ord) f at;
    ended = λ f at h s live res among g.
        ended_good D law p formed built tame ord places (accesses_of D p places) f at h s live res among g;
  }
