-- States that are one.
use Rattle.std.proofs.Common.{◌≡◌, ◌↔◌, IsTrue, Bool, true, ◌&&◌, refl, sym, ◌∙◌, ap}
use Rattle.ep_cell_ranges.proofs.Basics.{is_model-equal, is_model-self}
use Rattle.std.proofs.lemmas.Bool.{and_from, and_parts}
use Rattle.ep_int.specs.declared.types.Order.{Order}
use Rattle.ep_int.specs.declared.types.Order.TheVariants.{Little, Big, SwappedWords}
use Rattle.ep_cells.specs.States.{Known}
use Rattle.ep_cell_ranges.specs.Tests.{is_model}
use Rattle.ep_cell_parts.specs.Orders.{is_order}

order_is : (a b : Order) → is_order a b ≡ true → a ≡ b
order_is Little Little e = refl
order_is Little Big e = absurd cc
order_is Little SwappedWords e = absurd cc
order_is Big Little e = absurd cc
order_is Big Big e = refl
order_is Big SwappedWords e = absurd cc
order_is SwappedWords Little e = absurd cc
order_is SwappedWords Big e = absurd cc
order_is SwappedWords SwappedWords e = refl

order_itself : (a : Order) → is_order a a ≡ true
order_itself Little = refl
order_itself Big = refl
order_itself SwappedWords = refl

-- states whose parts are one
pub same_known : {N : Type 0} (k l : Known N) (a b m c : Bool) → a ≡ is_order k.orders.0 l.orders.0
    → b ≡ is_order k.orders.1 l.orders.1 → m ≡ is_model k.model l.model → (IsTrue c ↔ (k.cells ≡ l.cells))
    → IsTrue (((a && b) && m) && c) ↔ (k ≡ l)
same_known {N = N} k l a b m c ea eb em ec = (
  λ h.
      let x = and_parts ((a && b) && m) c h in
      let y = and_parts (a && b) m x.0 in
      let z = and_parts a b y.0 in
      let left : k.orders.0 ≡ l.orders.0 = order_is k.orders.0 l.orders.0 (sym ea ∙ z.0) in
      let right : k.orders.1 ≡ l.orders.1 = order_is k.orders.1 l.orders.1 (sym eb ∙ z.1) in
      let model : k.model ≡ l.model = is_model-equal k.model l.model (sym em ∙ y.1) in
      let cells : k.cells ≡ l.cells = ec.0 x.1 in
      ap (λ o. let r : Known N = record { orders = (o, k.orders.1); model = k.model; cells = k.cells } in r) left
      ∙ ap (λ o. let r : Known N = record { orders = (l.orders.0, o); model = k.model; cells = k.cells } in r) right
      ∙ ap (λ d. let r : Known N = record { orders = l.orders; model = d; cells = k.cells } in r) model
      ∙ ap (λ cs. let r : Known N = record { orders = l.orders; model = l.model; cells = cs } in r) cells,
  λ e.
      and_from ((a && b) && m) c
      (and_from (a && b) m
      (and_from a b
      (ea ∙ ap (λ z. is_order k.orders.0 z.orders.0) (sym e) ∙ order_itself k.orders.0)
      (eb ∙ ap (λ z. is_order k.orders.1 z.orders.1) (sym e) ∙ order_itself k.orders.1))
      (em ∙ ap (λ z. is_model k.model z.model) (sym e) ∙ is_model-self k.model))
      (ec.1 (ap (λ z. z.cells) e)),
)
