use Rattle.std.proofs.Common.{[]}
use Rattle.ep_reads.specs.Unify.{bytes_on}
use Rattle.ep_synthesis.specs.Parts.{known}
use Rattle.ep_synthesis.proofs.Crossing.{parts_left, parts_right}
use Rattle.ep_synthesis.proofs.cross.push_bytes_of_parts.Goals as goal

pub returns-in_ok-push_bytes-in-Left : goal.returns-in_ok-push_bytes-in-Left
returns-in_ok-push_bytes-in-Left g c =
    parts_left (bytes_on g.N.Num.ops (known c.args.machines [])) c.args.x.now _ _ c.in-Left.is
    c.in_ok-push_bytes-in-Left.ensures

pub returns-in_ok-push_bytes-in-Right : goal.returns-in_ok-push_bytes-in-Right
returns-in_ok-push_bytes-in-Right g c =
    parts_right (bytes_on g.N.Num.ops (known c.args.machines [])) c.args.x.now _ _ c.in-Right.is
    c.in_ok-push_bytes-in-Right.ensures
