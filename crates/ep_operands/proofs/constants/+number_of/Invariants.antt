use Rattle.ep_core.specs.View.{expr_view}
use Rattle.ep_operands.proofs.ConstantLemmas.{size}
use Rattle.ep_operands.proofs.constants.+number_of.Given as goal

abbrev pub decreases-number_of : goal.decreases-number_of
decreases-number_of l = size (expr_view l.e.now)
