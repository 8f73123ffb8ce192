-- What the code keeps of objects and statements, seen as what the definitions speak of.
use Rattle.ep_core.specs.View.{place_view, what_view}
use Rattle.ep_core.specs.declared.tree.Stmt.{Stmt}
use Rattle.ep_elaboration.specs.Declarations.{Line}
use Rattle.ep_elaboration.specs.Declarators as rule
use Rattle.ep_declared.specs.declared.objects.Object.{Object}

abbrev pub object : Object → rule.Object
object o = record { place = place_view o.place; block = o.block; offset = o.offset; ty = o.ty }

-- a statement with its line
abbrev pub line : Stmt → Line
line s = (s.line, what_view s.what)
