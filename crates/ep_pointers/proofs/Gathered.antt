-- The laws of pointers, gathered.
use Rattle.std.proofs.Common.{List, [], ◌∷◌, refl, IfSome}
use Rattle.ep_domain.specs.Domain.{Ops, Lawful}
use Rattle.ep_pointers.specs.Value.{Target, Pointers, IsRising, join_of, widening_of, HasOffsetsOf}
use Rattle.ep_pointers.specs.Sum.{of_targets, moved_targets}
use Rattle.ep_pointers.specs.Laws.{PointerLaws}
use Rattle.ep_pointers.proofs.Lists.{rising_together, offset_together}
use Rattle.ep_pointers.proofs.Holding.{within_holds, both_held, join_operands, widen_operands, keeps_ranks}
use Rattle.ep_pointers.proofs.Holding.{rising_kept, forgotten}
use Rattle.ep_pointers.proofs.Moving.{rising_moved, sums_held}
use Rattle.ep_pointers.proofs.MovingOne.{moves_one, keeps_stride}
use Rattle.ep_pointers.proofs.Answering.{pair_answers, one_answers}

of_rising : {N : Type 0} (ts : List (Target N)) → IsRising ts → IfSome (of_targets ts) (λ q. IsRising q.targets)
of_rising [] r = tt
of_rising (t ∷ ts) r = r

pub pointer_laws : {N : Type 0} (d : Ops N) → Lawful d → PointerLaws d
pointer_laws {N = N} d law = record {
  within_holds = within_holds d law;
  join_rises = λ p q r. rising_together d.join p.targets q.targets r;
  join_offsets = joined;
  join_holds = λ p q r s. both_held d law d.join (join_operands d law) p q (join_of d p q) refl (joined p q r s);
  widening_rises = λ p q r. rising_together d.widen p.targets q.targets r;
  widening_offsets = widened;
  widening_holds = λ p q r s. both_held d law d.widen (widen_operands d law) p q (widening_of d p q) refl
      (widened p q r s);
  widening_ranks = λ p q h r s. keeps_ranks d law h p q (widening_of d p q) s refl (widened p q r s);
  sum_rises = λ m sizes p r. of_rising (moved_targets d m sizes p.targets) (rising_moved d m sizes p.targets r);
  sum_holds = λ m sizes p f r. sums_held d law m sizes p f.each_size f.positive f.unit r;
  sum_of_one = λ m sizes p f. moves_one d law m sizes p f.unit;
  sum_stride = λ m sizes p f r. keeps_stride d law m sizes p f.unit r;
  compare_answers = pair_answers d law;
  compare_one = one_answers d law;
  without_rises = λ b p r. rising_kept d law b p.targets r;
  without_loses = forgotten d law;
}
  where
    joined : (p q : Pointers N) → IsRising p.targets → IsRising q.targets → HasOffsetsOf d.join p q (join_of d p q)
    joined p q r s b = offset_together d.join p.targets q.targets b r s

    widened : (p q : Pointers N) → IsRising p.targets → IsRising q.targets
        → HasOffsetsOf d.widen p q (widening_of d p q)
    widened p q r s b = offset_together d.widen p.targets q.targets b r s
