-- Operators on values that can be one alone, on one side.
use Rattle.ep_domain.specs.Domain.{Ops, Lawful}
use Rattle.ep_single_states.specs.OperatorLaws.{OperatorsKeepOne}
use Rattle.ep_single_sides.specs.Laws.{SidesAreOne}
use Rattle.ep_single_sides.proofs.Numbers.{binary_one, compare_one, convert_one}
use Rattle.ep_single_sides.proofs.Truths.{not_one, pointers_one, short_second_one, short_first_one, chosen_second_one}
use Rattle.ep_single_sides.proofs.Truths.{chosen_third_one}

pub sides_are_one : {N : Type 0} (D : Ops N) → Lawful D → OperatorsKeepOne D → SidesAreOne D
sides_are_one D law keep = record {
  binary = binary_one D law keep;
  convert = convert_one D law;
  compare = compare_one D law keep;
  pointers = pointers_one D law;
  negation = not_one D law;
  short_second = short_second_one D law;
  short_first = short_first_one D law;
  chosen_second = chosen_second_one D law;
  chosen_third = chosen_third_one D law;
}
