use Rattle.std.proofs.Common.{ap, ◌∙◌, ◌-◌, List, length}
use Rattle.std.specs.Prelude.{slice_get}
use Rattle.ep_call_graph.specs.declared.cycles.Group.{Group}
use Rattle.ep_call_graph.proofs.Marks.{last_is}
use Rattle.ep_call_graph.proofs.cycles.Search.top.Goals as goal

pub returns : goal.returns
returns c =
    c.copied.ensures ∙ c.last.ensures.value ∙ ap (λ (gs : List Group). slice_get gs (length gs - 1)) c.deref.ensures.value
    ∙ last_is c.args.self.now.groups.items
