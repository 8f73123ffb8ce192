use Rattle.std.proofs.Common.{ap, option_map}
use Rattle.ep_cert.specs.Certificate.{shown}
use Rattle.endport.proofs.Verifying.{all_verified, few_heads, none_spelled, spelled}
use Rattle.endport.proofs.verify.verify_job.Goals as goal

pub judged-requires-clause-spelled : goal.judged-requires-clause-spelled
judged-requires-clause-spelled c =
    (spelled c.args.bytes.now _ (shown c.in-Some.cert) (ap (option_map shown) c.in-Some.is) c.in_ok-found.ensures.spells).certificate

pub judged-requires-clause-few : goal.judged-requires-clause-few
judged-requires-clause-few c =
    few_heads c.args.bytes.now (shown c.in-Some.cert)
    (spelled c.args.bytes.now _ (shown c.in-Some.cert) (ap (option_map shown) c.in-Some.is) c.in_ok-found.ensures.spells)
    c.requires

pub returns-in-None : goal.returns-in-None
returns-in-None c =
    none_spelled c.args.bytes.now c.in_ok-found.found c.bad_job.result c.in-None.is c.in_ok-found.ensures.spells
    c.bad_job.ensures.status c.bad_job.ensures.text

pub returns-in-Some : goal.returns-in-Some
returns-in-Some c =
    all_verified c.args.bytes.now c.in_ok-found.found c.in-Some.cert c.judged.result c.in-Some.is c.in_ok-found.ensures.spells
    c.judged.ensures
