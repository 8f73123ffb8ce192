-- What operations look at first holds of good states.
use Rattle.std.proofs.Common.{◌≡◌, Bool, true, false, ◌&&◌, List, sym, ap, ◌∙◌, subst, refl}
use Rattle.ep_cell_ranges.proofs.Basics.{is_model-self}
use Rattle.std.proofs.lemmas.Bool.{and_from}
use Rattle.ep_int.specs.declared.types.Order.{Order}
use Rattle.ep_int.specs.declared.types.Order.TheVariants.{Little, Big, SwappedWords}
use Rattle.ep_domain.specs.Domain.{Ops, Lawful}
use Rattle.ep_cells.specs.declared.cell.Cell.{Cell}
use Rattle.ep_cells.specs.Both.{joined, widened, are_within}
use Rattle.ep_cells.specs.States.{Known, AreCells, HaveCellsAlike}
use Rattle.ep_reads.specs.Unify.{unified}
use Rattle.ep_reads.proofs.Unified.{of_unification}
use Rattle.ep_cell_ranges.specs.Tests.{are_cells, are_alike, is_model}
use Rattle.ep_cell_ranges.proofs.Tests.{cells_pass, alike_pass}
use Rattle.ep_core.specs.Exec.{is_order}
use Rattle.ep_core.specs.Program.{Program}
use Rattle.ep_core.specs.Runs.{Side, left, right}
use Rattle.ep_evaluation.specs.Laws.{IsState}
use Rattle.ep_evaluation.specs.Narrowed.{both}
use Rattle.ep_transfers.specs.Guards.{is_state}
use Rattle.ep_transfers.specs.Cells.{is_told_so, are_states, fit_to_join, unified_pair, unified_known, joined_known}
use Rattle.ep_transfers.specs.Cells.{widened_known, is_within, guarded}
use Rattle.ep_tame_states.specs.Laws.{widening_of}

order_itself : (o : Order) → is_order o o ≡ true
order_itself Little = refl
order_itself Big = refl
order_itself SwappedWords = refl

module _ {N : Type 0} (D : Ops N) (law : Lawful D) (p : Program) (ord : Side → Order) where
  pub told_pass : (k : Known N) → IsState D p ord k → is_told_so D p ord k ≡ true
  told_pass k s = ap (λ d. is_model d p.types.model) s.model ∙ is_model-self p.types.model

  pub state_pass : (k : Known N) → IsState D p ord k → is_state p ord k ≡ true
  state_pass k s =
      and_from (is_order k.orders.0 (ord left) && is_order k.orders.1 (ord right)) _
      (and_from (is_order k.orders.0 (ord left)) (is_order k.orders.1 (ord right))
      (ap (λ (o : Order × Order). is_order o.0 (ord left)) s.orders ∙ order_itself (ord left))
      (ap (λ (o : Order × Order). is_order o.1 (ord right)) s.orders ∙ order_itself (ord right)))
      (and_from (is_model k.model p.types.model) (are_cells k.model k.cells) (told_pass k s)
      (cells_pass k.model k.cells s.cells))

  pub states_pass : (k l : Known N) → IsState D p ord k → IsState D p ord l → are_states D p ord k l ≡ true
  states_pass k l s t = and_from (is_state p ord k) (is_state p ord l) (state_pass k s) (state_pass l t)

  -- ---- two states with cells of the same places

  abbrev first : Known N → Known N → Known N
  first k l = record k { cells = (unified D k l).0 }

  abbrev second : Known N → Known N → Known N
  second k l = record l { cells = (unified D k l).1 }

  record AreMet (k l : Known N) : Type 0 where
    pub one : IsState D p ord (first k l)
    pub other : IsState D p ord (second k l)
    pub alike : HaveCellsAlike (unified D k l).0 (unified D k l).1

  as_first : (k l : Known N) → IsState D p ord k → IsState D p ord l → l ≡ record k { cells = l.cells }
  as_first k l s t =
      ap (λ (o : Order × Order). record { orders = o; model = l.model; cells = l.cells }) (t.orders ∙ sym s.orders)
      ∙ ap (λ d. record { orders = k.orders; model = d; cells = l.cells }) (t.model ∙ sym s.model)

  met_as_first : (k : Known N) (ys : List (Cell N)) → IsState D p ord k → AreCells k.model ys
      → AreMet k (record k { cells = ys })
  met_as_first k ys s c = record {
    one = record {
      orders = s.orders;
      model = s.model;
      cells = (of_unification D law).left_cells k ys s.cells c;
    };
    other = record {
      orders = s.orders;
      model = s.model;
      cells = (of_unification D law).right_cells k ys s.cells c;
    };
    alike = (of_unification D law).alike k ys s.cells c;
  }

  met : (k l : Known N) → IsState D p ord k → IsState D p ord l → AreMet k l
  met k l s t =
      let e = as_first k l s t in
      subst (AreMet k) (sym e)
      (met_as_first k l.cells s (subst (λ d. AreCells d l.cells) (t.model ∙ sym s.model) t.cells))

  abbrev Two : Type 0
  Two = Known N × Known N

  unified_is : (k l : Known N) → IsState D p ord k → IsState D p ord l
      → ◌≡◌ {A = Two} (unified_known D p ord k l) (first k l, second k l)
  unified_is k l s t = ap (λ b. unified_pair D p ord b k l) (states_pass k l s t)

  fits : (k l : Known N) → IsState D p ord k → IsState D p ord l
      → fit_to_join D p ord (first k l) (second k l) ≡ true
  fits k l s t =
      let m = met k l s t in
      and_from (are_states D p ord (first k l) (second k l)) (are_alike (unified D k l).0 (unified D k l).1)
      (states_pass (first k l) (second k l) m.one m.other)
      (alike_pass (unified D k l).0 (unified D k l).1 m.alike)

  pub joined_is : (k l : Known N) → IsState D p ord k → IsState D p ord l
      → joined_known D p ord (unified_known D p ord k l).0 (unified_known D p ord k l).1 ≡ both D k l
  joined_is k l s t =
      ap (λ (q : Two). joined_known D p ord q.0 q.1) (unified_is k l s t)
      ∙ ap (λ b. guarded D p ord b (first k l) (joined D (unified D k l).0 (unified D k l).1)) (fits k l s t)

  pub widened_is : (k l : Known N) → IsState D p ord k → IsState D p ord l
      → widened_known D p ord (unified_known D p ord k l).0 (unified_known D p ord k l).1 ≡ widening_of D k l
  widened_is k l s t =
      ap (λ (q : Two). widened_known D p ord q.0 q.1) (unified_is k l s t)
      ∙ ap (λ b. guarded D p ord b (first k l) (widened D (unified D k l).0 (unified D k l).1)) (fits k l s t)

  -- what isn't within a head has cells that aren't
  pub within_is : (k l : Known N) → IsState D p ord k → IsState D p ord l
      → is_within D p ord (unified_known D p ord k l).1 k ≡ false → are_within D (unified D k l).1 k.cells ≡ false
  within_is k l s t h =
      let m = met k l s t in
      second_false (are_states D p ord (second k l) k) (are_within D (unified D k l).1 k.cells)
      (states_pass (second k l) k m.other s)
      (sym (ap (λ (q : Two). is_within D p ord q.1 k) (unified_is k l s t)) ∙ h)
    where
      second_false : (a b : Bool) → a ≡ true → (a && b) ≡ false → b ≡ false
      second_false true b e h = h
      second_false false b e h = absurd cc
