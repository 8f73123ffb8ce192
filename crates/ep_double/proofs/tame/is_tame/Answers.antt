use Rattle.std.proofs.Common.{sym, ap, ◌∙◌}
use Rattle.std.specs.List.{list_all}
use Rattle.ep_core.specs.View.{function_view}
use Rattle.ep_core.specs.Program.{Function}
use Rattle.ep_kinds.specs.Tame.{are_tame}
use Rattle.ep_double.proofs.Whats.{goes_on, all_mapped}
use Rattle.ep_double.proofs.tame.is_tame.Goals as goal

pub returns-then-are_tame_types : goal.returns-then-are_tame_types
returns-then-are_tame_types c =
    goes_on _ _ _ (sym c.are_tame_types.ensures ∙ c.if-are_tame_types.true)
    (c.are_tame_functions.ensures
    ∙ ap (list_all (λ f. are_tame c.args.p.now.types (function_view f).body)) c.deref.ensures.value
    ∙ sym (all_mapped (λ (f : Function). are_tame c.args.p.now.types f.body) function_view
    c.args.p.now.functions.items))
