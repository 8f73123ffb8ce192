use Rattle.ep_cell_ranges.proofs.Tests.{of_tests}
use Rattle.ep_cell_ranges.proofs.laws.test_laws.Goals as goal

pub returns : goal.returns
returns g c = of_tests _
