-- The laws of operations on two states: what they look at first makes them hold of any two.
use Rattle.std.proofs.Common.{◌≡◌, Bool, true, false, List, refl, sym, ap, ◌∙◌, subst}
use Rattle.std.proofs.lemmas.Bool.{and_parts}
use Rattle.ep_int.specs.declared.types.Order.{Order}
use Rattle.ep_int.specs.declared.types.Model.{Model}
use Rattle.ep_int.specs.Memory.{Memory}
use Rattle.ep_domain.specs.Domain.{Ops}
use Rattle.ep_cells.specs.declared.cell.Cell.{Cell}
use Rattle.ep_cells.specs.Both.{joined, widened, are_within}
use Rattle.ep_cells.specs.Reshare.{reshared}
use Rattle.ep_cells.specs.States.{Known, AreCells, HaveCellsAlike}
use Rattle.ep_cells.specs.Meaning.{Memories, In}
use Rattle.ep_cells.specs.Laws.{JoinLaws, InclusionLaws, ReshareLaws}
use Rattle.ep_reads.specs.Unify.{unified}
use Rattle.ep_reads.specs.SplitLaws.{UnifyLaws}
use Rattle.ep_core.specs.Program.{Program}
use Rattle.ep_core.specs.Runs.{Side}
use Rattle.ep_evaluation.specs.Laws.{IsState}
use Rattle.ep_cell_ranges.specs.Tests.{are_alike}
use Rattle.ep_transfers.specs.Guards.{is_state}
use Rattle.ep_transfers.specs.Cells.{empty_known, known_or_empty, are_states, fit_to_join, guarded, unified_known}
use Rattle.ep_transfers.specs.Cells.{joined_known, widened_known, is_within, reshared_known}
use Rattle.ep_transfers.specs.Laws.{memories, StandsFor}
use Rattle.ep_cell_ranges.proofs.Tests.{alike_by}
use Rattle.ep_transfers.proofs.Tests.{state_by}

abbrev known : {N : Type 0} → Order × Order → Model → List (Cell N) → Known N
known o d cs = record { orders = o; model = d; cells = cs }

module _ {N : Type 0} (D : Ops N) (p : Program) (ord : Side → Order) where
  pub empty_stands : (m n : Memory) → StandsFor D p ord (empty_known D p ord) m n
  empty_stands m n = record {
    state = record {
      orders = refl;
      model = refl;
      cells = record { each = λ c i. elim i [ ]; pairs = tt; forms = λ c i. elim i [ ] };
    };
    holds = record { cells = λ c i. elim i [ ]; forms = λ c i. elim i [ ] };
  }

  -- what is known where the test holds, else nothing
  pub known_stands : (b : Bool) (k : Known N) (m n : Memory) → StandsFor D p ord k m n
      → StandsFor D p ord (known_or_empty D p ord b k) m n
  known_stands true k m n h = h
  known_stands false k m n h = empty_stands m n

  -- what is left where the test holds, else nothing
  pub guarded_stands : (b : Bool) (k : Known N) (cs : List (Cell N)) (m n : Memory)
      → (b ≡ true → StandsFor D p ord (record k { cells = cs }) m n) → StandsFor D p ord (guarded D p ord b k cs) m n
  guarded_stands true k cs m n h = h refl
  guarded_stands false k cs m n h = empty_stands m n

  -- ---- the second has the orders and the model of the first

  as_first : (k l : Known N) → IsState D p ord k → IsState D p ord l → l ≡ record k { cells = l.cells }
  as_first k l a b =
      let e : l.orders ≡ k.orders = b.orders ∙ sym a.orders in
      let f : l.model ≡ k.model = b.model ∙ sym a.model in
      ap (λ o. known o l.model l.cells) e ∙ ap (λ d. known k.orders d l.cells) f

  cells_as_first : (k l : Known N) → IsState D p ord k → IsState D p ord l → AreCells k.model l.cells
  cells_as_first k l a b = subst (λ d. AreCells d l.cells) (b.model ∙ sym a.model) b.cells

  holds_as_first : (k l : Known N) (m : Memories) → IsState D p ord k → IsState D p ord l → In D l m → In D
      (record k { cells = l.cells }) m
  holds_as_first k l m a b h = subst (λ j. In D j m) (as_first k l a b) h

  with_cells : (k : Known N) (cs : List (Cell N)) → IsState D p ord k → AreCells k.model cs → IsState D p ord
      (record k { cells = cs })
  with_cells k cs a c = record { orders = a.orders; model = a.model; cells = c }

  both_states : (k l : Known N) → are_states D p ord k l ≡ true → IsState D p ord k × IsState D p ord l
  both_states k l h =
      let q = and_parts (is_state p ord k) (is_state p ord l) h in (state_by D p ord k q.0, state_by D p ord l q.1)

  -- ---- unification

  module _ (unify : UnifyLaws D) where
    pub unified_left : (k l : Known N) (m n : Memory) → StandsFor D p ord k m n → StandsFor D p ord
        (unified_known D p ord k l).0 m n
    unified_left k l m n h =
        guarded_stands (are_states D p ord k l) k (unified D k l).0 m n
        (λ e.
        let b = both_states k l e in
        let c = cells_as_first k l b.0 b.1 in
        subst (λ j. StandsFor D p ord (record k { cells = (unified D k j).0 }) m n) (sym (as_first k l b.0 b.1))
        (record {
          state = with_cells k (unified D k (record k { cells = l.cells })).0 h.state
              (unify.left_cells k l.cells b.0.cells c);
          holds = unify.left_holds k l.cells b.0.cells c (memories m n) h.holds;
        }))

    pub unified_right : (k l : Known N) (m n : Memory) → StandsFor D p ord l m n → StandsFor D p ord
        (unified_known D p ord k l).1 m n
    unified_right k l m n h =
        guarded_stands (are_states D p ord k l) l (unified D k l).1 m n
        (λ e.
        let b = both_states k l e in
        let c = cells_as_first k l b.0 b.1 in
        subst (λ j. StandsFor D p ord (record j { cells = (unified D k j).1 }) m n) (sym (as_first k l b.0 b.1))
        (record {
          state = with_cells k (unified D k (record k { cells = l.cells })).1 b.0
              (unify.right_cells k l.cells b.0.cells c);
          holds = unify.right_holds k l.cells b.0.cells c (memories m n)
              (holds_as_first k l (memories m n) b.0 b.1 h.holds);
        }))

  -- ---- join and widening

  record AreJoined (k l : Known N) : Type 0 where
    first : IsState D p ord k
    second : IsState D p ord l
    cells : AreCells k.model l.cells
    alike : HaveCellsAlike k.cells l.cells

  fit : (k l : Known N) → fit_to_join D p ord k l ≡ true → AreJoined k l
  fit k l h =
      let q = and_parts (are_states D p ord k l) (are_alike k.cells l.cells) h in
      let b = both_states k l q.0 in
      record { first = b.0; second = b.1; cells = cells_as_first k l b.0 b.1; alike = alike_by k.cells l.cells q.1 }

  module _ (join : JoinLaws D) where
    pub joined_left : (k l : Known N) (m n : Memory) → StandsFor D p ord k m n → StandsFor D p ord
        (joined_known D p ord k l) m n
    joined_left k l m n h =
        guarded_stands (fit_to_join D p ord k l) k (joined D k.cells l.cells) m n
        (λ e. let f = fit k l e in record {
          state = with_cells k (joined D k.cells l.cells) h.state
              (join.join_cells k.model k.cells l.cells f.first.cells f.cells f.alike);
          holds = (join.join_holds k l.cells f.first.cells f.cells f.alike).left (memories m n) h.holds;
        })

    pub joined_right : (k l : Known N) (m n : Memory) → StandsFor D p ord l m n → StandsFor D p ord
        (joined_known D p ord k l) m n
    joined_right k l m n h =
        guarded_stands (fit_to_join D p ord k l) k (joined D k.cells l.cells) m n
        (λ e. let f = fit k l e in record {
          state = with_cells k (joined D k.cells l.cells) f.first
              (join.join_cells k.model k.cells l.cells f.first.cells f.cells f.alike);
          holds = (join.join_holds k l.cells f.first.cells f.cells f.alike).right (memories m n)
              (holds_as_first k l (memories m n) f.first f.second h.holds);
        })

    pub widened_left : (k l : Known N) (m n : Memory) → StandsFor D p ord k m n → StandsFor D p ord
        (widened_known D p ord k l) m n
    widened_left k l m n h =
        guarded_stands (fit_to_join D p ord k l) k (widened D k.cells l.cells) m n
        (λ e. let f = fit k l e in record {
          state = with_cells k (widened D k.cells l.cells) h.state
              (join.widen_cells k.model k.cells l.cells f.first.cells f.cells f.alike);
          holds = (join.widen_holds k l.cells f.first.cells f.cells f.alike).left (memories m n) h.holds;
        })

  -- ---- inclusion, and sharing again

  pub within_stands : InclusionLaws D → (k l : Known N) (m n : Memory) → is_within D p ord k l ≡ true → StandsFor D p
      ord k m n
      → StandsFor D p ord l m n
  within_stands within k l m n e h =
      let q = and_parts (are_states D p ord k l) (are_within D k.cells l.cells) e in
      let b = both_states k l q.0 in record {
        state = b.1;
        holds = subst (λ j. In D j (memories m n)) (sym (as_first k l b.0 b.1))
            (within.within_holds k l.cells b.0.cells q.1 (memories m n) h.holds);
      }

  pub reshared_stands : ReshareLaws D → (k : Known N) (m n : Memory) → StandsFor D p ord k m n → StandsFor D p ord
      (reshared_known D p ord k) m n
  reshared_stands share k m n h = record {
    state = with_cells k (reshared D k.cells) h.state (share.cells k.model k.cells h.state.cells);
    holds = share.holds k h.state.cells (memories m n) h.holds;
  }
