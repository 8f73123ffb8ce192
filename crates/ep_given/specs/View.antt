-- What the code keeps of first values, seen as what the definitions speak of.
use Rattle.std.specs.Prelude.{map}
use Rattle.ep_core.specs.View.{init_view, what_view}
use Rattle.ep_elaboration.specs.Given as rule
use Rattle.ep_given.specs.declared.lists.Given.{Given}

abbrev pub given : Given → rule.Given
given g = record { statements = map what_view g.statements.items; values = map init_view g.values.items }
