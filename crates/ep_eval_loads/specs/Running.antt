-- The side that runs alone.
use Rattle.ep_core.specs.Runs.{Side, left, right}
use Rattle.ep_eval_loads.specs.declared.running.Running.{Running}
use Rattle.ep_eval_loads.specs.declared.running.Running.TheVariants.{Left, Right}

abbrev pub side_of : Running → Side
side_of Left = left
side_of Right = right
