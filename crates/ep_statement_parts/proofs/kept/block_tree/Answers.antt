use Rattle.std.proofs.Common.{suc, ap, ◌∙◌, sym, refl, arith, List, map}
use Rattle.ep_ast.specs.Statement as shape
use Rattle.ep_ast.specs.Statement.{Part, part_of, to_parts}
use Rattle.ep_ast.specs.Depth.{height_of_parts}
use Rattle.ep_statement_parts.proofs.DepthLemmas.{tall, low, parts_first}
use Rattle.ep_statement_parts.proofs.kept.block_tree.Goals as goal

pub returns-then-height-gt64 : goal.returns-then-height-gt64
returns-then-height-gt64 c = λ ps h k. rw (tall c.args.height (suc (height_of_parts (to_parts ps))) h (omega arith))
    refl

pub returns-in-Fits : goal.returns-in-Fits
returns-in-Fits c = λ ps h k.
    (let a = rw c.in-Fits.is at k in (
      c.new_block.ensures ∙ ap (λ (qs : List Part). shape.block c.args.line (to_parts qs))
          (ap (map part_of) c.trimmed.ensures ∙ a.0),
      rw
          (low c.args.height (suc (height_of_parts (to_parts ps))) h (omega arith)) (sym (parts_first ps) ∙ a.1),
    ))

pub returns-in-TooDeep : goal.returns-in-TooDeep
returns-in-TooDeep c = λ ps h k. rw (low c.args.height (suc (height_of_parts (to_parts ps))) h (omega arith))
    (sym (parts_first ps) ∙ (rw c.in-TooDeep.is at k))
