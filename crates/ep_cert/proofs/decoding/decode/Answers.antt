use Rattle.std.proofs.Common.{rules, refl}
use Rattle.ep_cert.specs.Certificate.{shown}
use Rattle.ep_cert.proofs.CertLaws.{decided, undecided}
use Rattle.ep_cert.proofs.Sizes.{heads_within}
use Rattle.ep_cert.proofs.decoding.decode.Goals as goal

pub returns-in-Ok-clause-spells : goal.returns-in-Ok-clause-spells
returns-in-Ok-clause-spells c = decided c.args.bytes.now (shown c.in-Ok.cert) c.in-Ok.ensures

pub returns-in-Ok-clause-sizes : goal.returns-in-Ok-clause-sizes
returns-in-Ok-clause-sizes c =
    let x = shown c.in-Ok.cert in heads_within c.args.bytes.now x ((c.in-Ok.ensures x).1 refl)

pub returns-in-Err-Misspelled-clause-spells : goal.returns-in-Err-Misspelled-clause-spells
returns-in-Err-Misspelled-clause-spells c = undecided c.args.bytes.now (search rules)
