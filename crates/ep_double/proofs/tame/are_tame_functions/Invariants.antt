use Rattle.std.proofs.Common.{◌≡◌, drop}
use Rattle.std.specs.List.{list_all}
use Rattle.ep_core.specs.View.{function_view}
use Rattle.ep_kinds.specs.Tame.{are_tame}
use Rattle.ep_double.proofs.tame.are_tame_functions.Given as goal

abbrev pub invariant-loop-f : goal.invariant-loop-f
invariant-loop-f l =
    list_all (λ f. are_tame l.types (function_view f).body) (drop l.f-index l.functions)
    ≡ list_all (λ f. are_tame l.types (function_view f).body) l.functions
