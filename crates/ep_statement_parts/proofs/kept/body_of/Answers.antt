use Rattle.std.proofs.Common.{ap, ◌∙◌, sym, map}
use Rattle.ep_ast.specs.Statement.{part_of}
use Rattle.ep_statement_parts.specs.View.{body}
use Rattle.ep_statement_parts.proofs.DepthLemmas.{parts_first}
use Rattle.ep_statement_parts.proofs.kept.body_of.Goals as goal

pub returns-in-Fits : goal.returns-in-Fits
returns-in-Fits c = λ ps k.
    (let a = rw c.in-Fits.is at k in (
      ap (body c.args.line) (ap (map part_of) c.trimmed-items.ensures ∙ a.0),
      sym (parts_first ps) ∙ a.1,
    ))

pub returns-in-TooDeep : goal.returns-in-TooDeep
returns-in-TooDeep c = λ ps k. sym (parts_first ps) ∙ (rw c.in-TooDeep.is at k)
