use Rattle.std.proofs.Common.{◌/◌, ◌%◌, arith}
use Rattle.ep_bytes.proofs.Sweeps.{page_marked, page_kept}
use Rattle.ep_bytes.proofs.spans.Span.with.Goals as goal

pub returns-then-self-clause-own : goal.returns-then-self-clause-own
returns-then-self-clause-own c =
    (omega arith, omega arith, page_marked c.args.self.pages (c.args.at / 1024 % 64) (omega arith))

pub returns-then-self-clause-others : goal.returns-then-self-clause-others
returns-then-self-clause-others c i is =
    let from = is.0 in
    let to = is.1 in
    (omega arith, omega arith, page_kept c.args.self.pages (c.args.at / 1024 % 64) (i / 1024 % 64) (omega arith) is.2)

pub returns-else-self-clause-own : goal.returns-else-self-clause-own
returns-else-self-clause-own c =
    (omega arith, omega arith, page_marked c.args.self.pages (c.args.at / 1024 % 64) (omega arith))
