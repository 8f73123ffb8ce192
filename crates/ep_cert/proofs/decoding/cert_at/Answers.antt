use Rattle.std.proofs.Common.{rules}
use Rattle.ep_cert.proofs.CertLaws.{none_opened, heads_stop, source_stops, found}
use Rattle.ep_cert.proofs.decoding.cert_at.Goals as goal

pub returns-in_default : goal.returns-in_default
returns-in_default c = none_opened c.args.bytes.now (search rules)

pub returns-in-Err : goal.returns-in-Err
returns-in-Err c = heads_stop c.args.bytes.now _ _ c.in-Err.why c.in-Some.ensures c.in-Err.ensures

pub returns-in-Err-source_at : goal.returns-in-Err-source_at
returns-in-Err-source_at c =
    source_stops c.args.bytes.now _ _ _ _ c.in-Err-source_at.why c.in-Some.ensures c.in-Ok.ensures
    c.in-Err-source_at.ensures

pub returns-in-Ok-source_at : goal.returns-in-Ok-source_at
returns-in-Ok-source_at c =
    found c.args.bytes.now _ _ _ _ _ c.in-Some.ensures c.in-Ok.ensures c.in-Ok-source_at.ensures
