-- Statements in memory, seen as lines.
use Rattle.std.specs.Prelude.{List, map}
use Rattle.std.specs.Global.{Vec}
use Rattle.ep_core.specs.declared.tree.Stmt.{Stmt}
use Rattle.ep_elaboration.specs.Declarations.{Line}
use Rattle.ep_declared.specs.View.{line}

abbrev pub lines : Vec Stmt → List Line
lines v = map line v.items
