use Rattle.std.proofs.Common.{◌∙◌}
use Rattle.ep_ast.specs.Declaration.{param_of}
use Rattle.ep_ast.specs.Depth.{in_param}
use Rattle.ep_reading.proofs.MeasuredLemmas.{longer_shows}
use Rattle.ep_declarations.proofs.ParameterLemmas.{named_last}
use Rattle.ep_declarations.proofs.parameters.MeasuredParameters.with.Goals as goal
use Rattle.ep_declarations.proofs.parameters.MeasuredParameters.with.Goals.{then-self, else-self}

pub returns : goal.returns
returns c = λ ps p h k. (
  longer_shows param_of in_param c.args.self.trees c.args.one.tree c.in_ok-trees.trees ps p c.in_ok-trees.ensures h.0
      k.0,
  rw (named_last ps p, ← h.1, ← k.1)
      (elim c.if-self.branch
      [ then-self w ↦ rw w.if-self.true w.named-is | else-self w ↦ rw w.if-self.false (w.named-is ∙ w.if-self.false) ]),
)
