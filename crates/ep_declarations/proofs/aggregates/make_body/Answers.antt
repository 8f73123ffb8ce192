use Rattle.std.proofs.Common.{ap, List, ◌∙◌}
use Rattle.std.specs.Option.{option_map}
use Rattle.ep_ast.specs.Declaration.{Member, body, aggregate, text_of, to_members}
use Rattle.ep_ast.specs.Mark.{word_number}
use Rattle.ep_declarations.proofs.MemberDepth.{in_members_is}
use Rattle.ep_declarations.proofs.aggregates.make_body.Goals as goal

pub returns-in-Fits : goal.returns-in-Fits
returns-in-Fits c = λ ms p. (
    let q = rw c.in-Fits.is at p in (
      c.new_body.ensures
          ∙ ap (λ (xs : List Member). body
          (aggregate c.args.line (word_number c.args.word) (option_map text_of c.args.tag) (to_members xs))) q.0,
      in_members_is ms
          ∙ q.1,
    ))

pub returns-in-TooDeep : goal.returns-in-TooDeep
returns-in-TooDeep c = λ ms p. (let q = rw c.in-TooDeep.is at p in in_members_is ms ∙ q)
