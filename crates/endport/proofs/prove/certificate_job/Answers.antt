use Rattle.ep_cert.specs.Certificate.{shown}
use Rattle.endport.proofs.Proving.{same_parts, spelling}
use Rattle.endport.proofs.prove.certificate_job.Goals as goal

pub encode-requires : goal.encode-requires
encode-requires c = spelling (shown c.in_ok-cert.cert) c.in_ok-cert.ensures.certificate

pub returns-clause-spells : goal.returns-clause-spells
returns-clause-spells c =
    same_parts c.in_ok-text.text.items (shown c.in_ok-cert.cert) c.args.asked.orders c.args.asked.model
    c.args.asked.unroll _ _ _ _ c.in_ok-text.ensures c.in_ok-cert.ensures.parts c.in_ok-heads.ensures
    c.in_ok-source.ensures
