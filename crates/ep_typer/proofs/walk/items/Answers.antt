use Rattle.std.proofs.Common.{arith}
use Rattle.std.proofs.lemmas.Grind.{common_steps}
use Rattle.ep_ast.specs.Statement.{item_of}
use Rattle.ep_defined.specs.View.{sofar}
use Rattle.ep_elaboration.specs.ProgramSteps.{items}
use Rattle.ep_typer.proofs.TextItems.{one_more}
use Rattle.ep_typer.proofs.walk.items.Goals as goal

pub loop-tree-preserved : goal.loop-tree-preserved
unfolding items
loop-tree-preserved c = record {
  known = c.in_ok-item.ensures.known;
  behind = one_more (sofar c.loop-tree.sofar) (sofar c.item.new.sofar) (item_of c.tree-item.result) c.in_ok-item.ensures.means
      c.loop-tree.invariant.behind;
  done = c.in_ok-item.ensures.done;
  means = grind (arith, common_steps);
}
