use Rattle.std.proofs.Common.{rules, sym, ◌∙◌}
use Rattle.std.proofs.lemmas.Result.{IfOk-weaker}
use Rattle.ep_int.proofs.Basics.{true_and_false}
use Rattle.ep_cert.specs.Certificate.{shown}
use Rattle.ep_cert.proofs.Writable.{refused, head_test}
use Rattle.ep_cert.proofs.making.is_head.Goals as goal

pub returns-then-not-are_orders : goal.returns-then-not-are_orders
returns-then-not-are_orders c =
    refused (λ k. true_and_false c.are_orders.result (c.are_orders.ensures.1 (c.orders.ensures ∙ k.orders)) (search rules))

pub returns-then-not-is_model : goal.returns-then-not-is_model
returns-then-not-is_model c =
    refused (λ k. true_and_false c.is_model.result (c.is_model.ensures.1 (c.model.ensures.value ∙ k.model)) (search rules))

pub returns : goal.returns
returns c =
    IfOk-weaker c.is_writable.result _ _
    (λ b w. head_test (shown c.args.cert.now) c.args.head.now b
    (sym c.orders.ensures ∙ c.are_orders.ensures.0 (search rules))
    (sym c.model.ensures.value ∙ c.is_model.ensures.0 (search rules)) c.model.ensures.cells w)
    c.is_writable.ensures
