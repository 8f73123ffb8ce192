use Rattle.std.proofs.Common.{◌∙◌}
use Rattle.ep_ast.specs.Declaration.{spec_of}
use Rattle.ep_ast.specs.Depth.{in_spec}
use Rattle.ep_reading.proofs.MeasuredLemmas.{longer_shows}
use Rattle.ep_declarations.proofs.MemberDepth.{alone-last}
use Rattle.ep_declarations.proofs.specs.SpecList.with.Goals as goal
use Rattle.ep_declarations.proofs.specs.SpecList.with.Goals.{then-is_first, else-is_first}

pub returns : goal.returns
returns c = λ ss s p e q k. (
  longer_shows spec_of in_spec c.args.self.tree c.args.one c.in_ok-tree.tree ss s c.in_ok-tree.ensures p.0 q,
  rw (alone-last ss s, ← e, ← k) (
      elim c.if-is_first.branch [
        | then-is_first w ↦ rw w.if-is_first.true w.alone-is
        | else-is_first w ↦ rw w.if-is_first.false (w.alone-is ∙ w.if-is_first.false)
      ]),
)
