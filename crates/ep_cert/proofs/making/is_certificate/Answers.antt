use Rattle.std.proofs.Common.{rules, ◌↔◌, ◌<◌, ◌^◌, List, IsTrue, length, subst, arith}
use Rattle.std.proofs.lemmas.Result.{IfOk-weaker}
use Rattle.ep_int.proofs.Basics.{true_and_false}
use Rattle.ep_cells.specs.States.{Known}
use Rattle.ep_cert_cells.specs.Numbers.{Numbers}
use Rattle.ep_cert_cells.specs.Bytes.{Every}
use Rattle.ep_cert.specs.Certificate.{shown, IsHead}
use Rattle.ep_cert.proofs.Writable.{refused, within_of, heads_test}
use Rattle.ep_cert.proofs.making.is_certificate.Goals as goal

pub returns-then-not-is_within : goal.returns-then-not-is_within
returns-then-not-is_within c =
    refused (λ k. true_and_false c.is_within.result
    (c.is_within.ensures.1 (within_of (shown c.args.cert.now) k)) (search rules))

pub returns : goal.returns
returns c =
    let heads = c.args.cert.now.heads in
    let count : length heads.items < 2 ^ 64 = omega (arith, heads.ok.0, heads.ok.1, heads.small) in
    IfOk-weaker c.are_heads.result _ _
    (λ b h. heads_test (shown c.args.cert.now) b (c.is_within.ensures.0 (search rules)) count
    (subst (λ (hs : List (Known Numbers)). IsTrue b ↔ Every (IsHead (shown c.args.cert.now)) hs) c.deref.ensures.value h))
    c.are_heads.ensures
