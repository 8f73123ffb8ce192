use Rattle.std.proofs.Common.{ap, option_map}
use Rattle.ep_cert.specs.Certificate.{shown}
use Rattle.tests_certificates.proofs.changes.are_again.Goals as goal

pub encode-requires : goal.encode-requires
encode-requires c =
    (c.args.bytes.now, (c.in_ok-decode.ensures.spells (shown c.in-Some.cert)).1 (ap (option_map shown) c.in-Some.is))
