-- Calls keep good states.
use Rattle.std.proofs.Common.{◌≡◌, ◌<◌, true}
use Rattle.ep_int.specs.declared.types.Order.{Order}
use Rattle.ep_layout.specs.Table.{IsBuilt}
use Rattle.ep_domain.specs.Domain.{Ops, Lawful}
use Rattle.ep_core.specs.Program.{Program}
use Rattle.ep_core.specs.Runs.{Side}
use Rattle.ep_core.specs.WellFormed.{is_well_formed, blocks_fit}
use Rattle.ep_core.proofs.Operands.{sizes as blocks_of}
use Rattle.ep_alarm_laws.specs.Laws.{ProductsKeepStrides}
use Rattle.ep_kinds.specs.Tame.{are_tame_types}
use Rattle.ep_tame_numbers.specs.Offsets.{KeepsOffsets}
use Rattle.ep_tame_places.specs.Laws.{PlaceLaws}
use Rattle.ep_tame_places.proofs.Steps.{place_laws_of}
use Rattle.ep_tame_accesses.specs.Laws.{AccessesAreOfObjects}
use Rattle.ep_tame_accesses.proofs.Accesses.{accesses_of}
use Rattle.ep_tame_states.specs.Laws.{StateLaws}
use Rattle.ep_tame_states.proofs.Gathered.{state_laws_of}
use Rattle.ep_tame_twins.specs.Laws.{TwinLaws}
use Rattle.ep_tame_twins.proofs.Expressions.{twin_laws_of}
use Rattle.ep_tame_changes.specs.Laws.{BlocksKeepGood}
use Rattle.ep_tame_changes.proofs.Killed.{blocks_keep_good}
use Rattle.ep_tame_writes.specs.Laws.{AssignmentsKeepGood}
use Rattle.ep_tame_writes.proofs.Assignments.{assignments_keep_good}
use Rattle.ep_tame_calls.specs.Laws.{CallsKeepGood}
use Rattle.ep_tame_calls.proofs.Bound.{arguments_good}
use Rattle.ep_tame_calls.proofs.Received.{result_good}

module _ {N : Type 0} (D : Ops N) (law : Lawful D) (keeps : KeepsOffsets D) (products : ProductsKeepStrides D)
    (p : Program) (formed : is_well_formed p ≡ true) (built : IsBuilt p.types) (tame : are_tame_types p.types ≡ true)
    (ord : Side → Order) where
  fit : blocks_fit p.types p.blocks ≡ true
  fit = blocks_of p formed

  places : PlaceLaws D p
  places = place_laws_of D law keeps products p built tame fit

  access : AccessesAreOfObjects D p
  access = accesses_of D p places

  twins : TwinLaws D p ord
  twins = twin_laws_of D p ord built tame fit keeps places access (state_laws_of D law p places ord fit)

  changes : BlocksKeepGood D p ord
  changes = blocks_keep_good D law p fit ord

  writes : AssignmentsKeepGood D p ord
  writes = assignments_keep_good D law p built tame fit places ord

  pub calls_keep_good : CallsKeepGood D p ord
  calls_keep_good = record {
    arguments = λ k f at es seen fits own frame result h s live res among g.
        arguments_good D law p formed built ord places access twins changes writes k f at es seen fits own frame result
        h s live res among g;
    result = λ k f at d seen takes own h s live res among g.
        result_good D law p formed built tame ord places access twins changes writes seen h s live res among k f at d
        takes own g;
  }
