use Rattle.std.proofs.Common.{ap}
use Rattle.std.specs.Option.{option_map}
use Rattle.ep_ast.specs.Declaration.{Members, body, aggregate, text_of}
use Rattle.ep_ast.specs.Mark.{word_number}
use Rattle.ep_ast.proofs.Rows.{members-vec}
use Rattle.ep_ast.proofs.declarations.SpecTree.new_body.Goals as goal

pub returns : goal.returns
returns c =
    ap (λ (ms : Members). body (aggregate c.args.line (word_number c.args.word) (option_map text_of c.args.tag) ms))
    (members-vec c.args.members)
