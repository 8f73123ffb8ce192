-- What the code keeps of a program, seen as what the definitions speak of.
use Rattle.std.specs.Prelude.{map}
use Rattle.ep_core.specs.View.{function_view, init_view}
use Rattle.ep_scopes.specs.View.{env}
use Rattle.ep_elaboration.specs.Functions as functions
use Rattle.ep_elaboration.specs.Programs as rule
use Rattle.ep_defined.specs.declared.sofar.Defined.{Defined}
use Rattle.ep_defined.specs.declared.sofar.Sofar.{Sofar}

abbrev pub defined : Defined → functions.Defined
defined d = record { number = d.number; first = d.first; function = function_view d.function }

abbrev pub sofar : Sofar → rule.Sofar
sofar s = record {
  env = env s.env;
  values = map init_view s.values.items;
  defined = map defined s.defined.items;
}
