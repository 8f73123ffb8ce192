use Rattle.std.proofs.Common.{arith}
use Rattle.std.proofs.lemmas.Bool.Decides.{nat_tests}
use Rattle.ep_given.proofs.MemberLemmas.{past, there}
use Rattle.ep_given.proofs.parts.member_at.Goals as goal

pub returns-in-Some : goal.returns-in-Some
returns-in-Some c =
    there c.args.members.now c.args.number c.in-Some.member.now (grind (arith, nat_tests, c.in-Some.ensures.lookup.0)) c.in-Some.ensures.lookup.1

pub returns-in-None : goal.returns-in-None
returns-in-None c = past c.args.members.now c.args.number (grind (arith, nat_tests, c.in-None.ensures.lookup))
