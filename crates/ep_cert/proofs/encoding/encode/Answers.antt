use Rattle.std.proofs.Common.{ℕ, List, ◌++◌, ap, ◌∙◌}
use Rattle.ep_cells.specs.States.{Known}
use Rattle.ep_cert_cells.specs.Numbers.{Numbers}
use Rattle.ep_cert_cells.specs.Bytes.{low}
use Rattle.ep_cert.specs.Certificate.{shown, opening_bytes, heads_bytes}
use Rattle.ep_cert.proofs.CertLaws.{encoded}
use Rattle.ep_cert.proofs.encoding.encode.Goals as goal

pub returns : goal.returns
returns c =
    encoded (shown c.args.cert.now) c.put_opening.new.out.items c.put_heads.new.out.items c.put_low.new.out.items
    c.put_all.new.out.items c.requires.1.certificate
    (c.in_ok-put_opening.ensures
    ∙ ap (λ (z : List ℕ). z ++ opening_bytes (shown c.args.cert.now)) c.new-out.ensures.items)
    (c.in_ok-put_heads.ensures
    ∙ ap (λ (hs : List (Known Numbers)). c.put_opening.new.out.items ++ heads_bytes hs) c.deref.ensures.value)
    (c.in_ok-put_low.ensures
    ∙ ap (λ (n : ℕ). c.put_heads.new.out.items ++ low 4 n) (c.len.ensures ∙ c.args.cert.now.source.ok.0))
    (c.in_ok-put_all.ensures ∙ ap (λ (z : List ℕ). c.put_low.new.out.items ++ z) c.deref-2.ensures.value)
