-- What keeps good states.
use Rattle.std.proofs.Common.{◌≡◌, true}
use Rattle.ep_int.specs.declared.types.Order.{Order}
use Rattle.ep_domain.specs.Domain.{Ops, Lawful}
use Rattle.ep_core.specs.Program.{Program}
use Rattle.ep_core.specs.Runs.{Side}
use Rattle.ep_core.specs.WellFormed.{blocks_fit}
use Rattle.ep_tame_places.specs.Laws.{PlaceLaws}
use Rattle.ep_tame_states.specs.Laws.{StateLaws}
use Rattle.ep_tame_states.proofs.Meetings.{good_again, good_carried, good_alike, good_joined, good_widened, good_falls}
use Rattle.ep_tame_states.proofs.Counted.{rank_bounded}
use Rattle.ep_tame_states.proofs.Assumed.{tested_reached, taken_reached}

pub state_laws_of : {N : Type 0} (D : Ops N) → Lawful D → (p : Program) → PlaceLaws D p → (ord : Side → Order)
    → blocks_fit p.types p.blocks ≡ true → StateLaws D p ord
state_laws_of D law p places ord fit = record {
  again = λ h k live res g. good_again D law p places ord h k live res g;
  carried = λ g h k live res a b. good_carried D law p places ord g h k live res a b;
  alike = λ h k live res cs g cells same points. good_alike D law p places ord h k live res cs g cells same points;
  joined = λ h k l live res g i. good_joined D law p places ord h k l live res g i;
  widened = λ h k l live res g i. good_widened D law p places ord h k l live res g i;
  falls = λ g k l live res small a b w. good_falls D law p places ord g k l live res small a b w;
  below = λ h k live res some g. rank_bounded D law p k.cells g.shape some;
  assumed_alone = λ seen e typed s t h k live res g.
      tested_reached D law p places ord h live res fit seen e typed s t k g;
  assumed = λ seen e typed t u h k live res g. taken_reached D law p places ord h live res fit seen e typed t u k g;
}
