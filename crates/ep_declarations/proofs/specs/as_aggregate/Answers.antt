use Rattle.std.proofs.Common.{ap}
use Rattle.std.specs.Option.{option_map}
use Rattle.ep_ast.specs.Declaration.{Members, body, aggregate, text_of}
use Rattle.ep_ast.specs.Mark.{word_number}
use Rattle.ep_ast.proofs.Rows.{members-vec}
use Rattle.ep_declarations.proofs.specs.as_aggregate.Goals as goal

pub returns-in-Body : goal.returns-in-Body
returns-in-Body c =
    rw c.in-Body.is
    (ap (λ (ms : Members). body (aggregate c.in-Body.line (word_number c.in-Body.word)
    (option_map text_of c.in-Body.tag) ms))
    (members-vec c.in-Body.members))
