-- States of the program and of the machines.
use Rattle.std.proofs.Common.{◌≡◌, Bool, true, false, ◌&&◌, ◌↔◌, IsTrue, List, refl, sym, ap, ◌∙◌}
use Rattle.ep_int.proofs.Basics.{and-true}
use Rattle.std.proofs.lemmas.Bool.{and_parts}
use Rattle.ep_int.specs.declared.types.Model.{Model}
use Rattle.ep_int.specs.declared.types.Order.{Order}
use Rattle.ep_domain.specs.Domain.{Ops}
use Rattle.ep_cells.specs.declared.cell.Cell.{Cell}
use Rattle.ep_cells.specs.States.{Known, AreCells, HaveCellsAlike}
use Rattle.ep_core.specs.Program.{Program}
use Rattle.ep_core.specs.Exec.{is_order}
use Rattle.ep_core.specs.Runs.{Side, left, right}
use Rattle.ep_cell_ranges.specs.Tests.{are_alike, are_cells, is_model}
use Rattle.ep_cell_ranges.proofs.Tests.{alike_by, alike_pass, cells_pass}
use Rattle.ep_transfers.specs.Cells.{are_states, fit_to_join}
use Rattle.ep_transfers.specs.Guards.{is_state}
use Rattle.ep_transfers.proofs.Tests.{state_by}

module _ {N : Type 0} (D : Ops N) (p : Program) (ord : Side → Order) where
  -- the cells of a state are looked at no more
  pub state_is : (k : Known N) → AreCells k.model k.cells
      → ((is_order k.orders.0 (ord left) && is_order k.orders.1 (ord right)) && is_model k.model p.types.model)
      ≡ is_state p ord k
  state_is k c =
      ap (λ b. (is_order k.orders.0 (ord left) && is_order k.orders.1 (ord right)) && b)
      (sym (and-true (is_model k.model p.types.model))
      ∙ ap (λ b. is_model k.model p.types.model && b) (sym (cells_pass k.model k.cells c)))

  pub state_made : (k : Known N) (a b : Bool) (os : Order × Order) (d e : Model)
      → a ≡ (is_order os.0 (ord left) && is_order os.1 (ord right)) → os ≡ k.orders → b ≡ is_model d e → d ≡ k.model
      → e ≡ p.types.model → AreCells k.model k.cells → (a && b) ≡ is_state p ord k
  state_made k a b os d e ea eo eb ed ee c =
      ap (λ x. x && b) (ea ∙ ap (λ (o : Order × Order). is_order o.0 (ord left) && is_order o.1 (ord right)) eo)
      ∙ ap (λ x. (is_order k.orders.0 (ord left) && is_order k.orders.1 (ord right)) && x)
      (eb ∙ ap (λ m. is_model m e) ed ∙ ap (λ m. is_model k.model m) ee)
      ∙ state_is k c

  pub models_by : (k l : Known N) (a b : Bool) → a ≡ is_state p ord k → b ≡ is_state p ord l → (a && b) ≡ true
      → k.model ≡ l.model
  models_by k l a b e f h =
      let q = and_parts a b h in
      (state_by D p ord k (sym e ∙ q.0)).model ∙ sym (state_by D p ord l (sym f ∙ q.1)).model

  pub one_orders : (k l : Known N) → are_states D p ord k l ≡ true → k.orders ≡ l.orders
  one_orders k l h =
      let q = and_parts (is_state p ord k) (is_state p ord l) h in
      (state_by D p ord k q.0).orders ∙ sym (state_by D p ord l q.1).orders

  pub one_model : (k l : Known N) → are_states D p ord k l ≡ true → k.model ≡ l.model
  one_model k l h =
      let q = and_parts (is_state p ord k) (is_state p ord l) h in
      (state_by D p ord k q.0).model ∙ sym (state_by D p ord l q.1).model

  -- ---- joins

  alike_test : (b : Bool) (xs ys : List (Cell N)) → (IsTrue b ↔ HaveCellsAlike xs ys) → b ≡ are_alike xs ys
  alike_test b xs ys h = ask (are_alike xs ys) b refl refl
    where
      ask : (u v : Bool) → are_alike xs ys ≡ u → b ≡ v → b ≡ are_alike xs ys
      ask true true e f = f ∙ sym e
      ask true false e f = absurd (cc (sym f ∙ h.1 (alike_by xs ys e)))
      ask false true e f = absurd (cc (sym e ∙ alike_pass xs ys (h.0 f)))
      ask false false e f = f ∙ sym e

  pub not_fit : (k l : Known N) → are_states D p ord k l ≡ false → false ≡ fit_to_join D p ord k l
  not_fit k l h = rw h refl

  pub fit_is : (k l : Known N) (b : Bool) → are_states D p ord k l ≡ true
      → (IsTrue b ↔ HaveCellsAlike k.cells l.cells) → b ≡ fit_to_join D p ord k l
  fit_is k l b h a = alike_test b k.cells l.cells a ∙ rw h refl

  pub fit_alike : (k l : Known N) → fit_to_join D p ord k l ≡ true → HaveCellsAlike k.cells l.cells
  fit_alike k l h = alike_by k.cells l.cells (and_parts (are_states D p ord k l) (are_alike k.cells l.cells) h).1

  pub fit_model : (k l : Known N) → fit_to_join D p ord k l ≡ true → k.model ≡ l.model
  fit_model k l h = one_model k l (and_parts (are_states D p ord k l) (are_alike k.cells l.cells) h).0
