-- What passes the tests of a state is one.
use Rattle.std.proofs.Common.{◌≡◌, true, ◌&&◌, refl, ap, ◌∙◌}
use Rattle.ep_cell_ranges.proofs.Basics.{is_model-equal}
use Rattle.std.proofs.lemmas.Bool.{and_parts}
use Rattle.ep_int.specs.declared.types.Order.{Order}
use Rattle.ep_int.specs.declared.types.Order.TheVariants.{Little, Big, SwappedWords}
use Rattle.ep_domain.specs.Domain.{Ops}
use Rattle.ep_cells.specs.States.{Known}
use Rattle.ep_core.specs.Program.{Program}
use Rattle.ep_core.specs.Exec.{is_order}
use Rattle.ep_core.specs.Runs.{Side, left, right}
use Rattle.ep_cell_ranges.specs.Tests.{are_cells, is_model}
use Rattle.ep_cell_ranges.proofs.Tests.{cells_by}
use Rattle.ep_evaluation.specs.Laws.{IsState}
use Rattle.ep_transfers.specs.Guards.{is_state}

pub order_by : (a b : Order) → is_order a b ≡ true → a ≡ b
order_by Little Little h = refl
order_by Little Big h = absurd (cc)
order_by Little SwappedWords h = absurd (cc)
order_by Big Little h = absurd (cc)
order_by Big Big h = refl
order_by Big SwappedWords h = absurd (cc)
order_by SwappedWords Little h = absurd (cc)
order_by SwappedWords Big h = absurd (cc)
order_by SwappedWords SwappedWords h = refl

orders_by : (os : Order × Order) (a b : Order) → os.0 ≡ a → os.1 ≡ b → os ≡ (a, b)
orders_by os a b e f = ap (λ (x : Order). (x, os.1)) e ∙ ap (λ (y : Order). (a, y)) f

pub state_by : {N : Type 0} (D : Ops N) (p : Program) (ord : Side → Order) (k : Known N) → is_state p ord k ≡ true →
    IsState D p ord k
state_by D p ord k h =
    let q = and_parts (is_order k.orders.0 (ord left) && is_order k.orders.1 (ord right))
    (is_model k.model p.types.model && are_cells k.model k.cells) h in
    let r = and_parts (is_order k.orders.0 (ord left)) (is_order k.orders.1 (ord right)) q.0 in
    let s = and_parts (is_model k.model p.types.model) (are_cells k.model k.cells) q.1 in record {
      orders = orders_by k.orders (ord left) (ord right) (order_by k.orders.0 (ord left) r.0)
          (order_by k.orders.1 (ord right) r.1);
      model = is_model-equal k.model p.types.model s.0;
      cells = cells_by k.model k.cells s.1;
    }
