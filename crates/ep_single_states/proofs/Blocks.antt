-- Blocks are entered and left, one after the other.
use Rattle.std.proofs.Common.{◌≡◌, ℕ, Bool, true, false, List, [], ◌∷◌, slice_get, refl, sym, ◌∙◌, ap, subst}
use Rattle.ep_int.proofs.Basics.{forgotten-none}
use Rattle.ep_int.specs.declared.types.Order.{Order}
use Rattle.ep_int.specs.declared.types.Model.{Model}
use Rattle.ep_int.specs.declared.types.Model.TheVariants.{Ilp32, Lp64}
use Rattle.ep_int.specs.Memory.{Memory, killed}
use Rattle.ep_bitslice.specs.declared.cell.Side.{Side as CellSide}
use Rattle.ep_bitslice.specs.declared.cell.Side.TheVariants as cell_side
use Rattle.ep_domain.specs.Domain.{Ops, Lawful}
use Rattle.ep_cells.specs.Cells.{on_left, on_right}
use Rattle.ep_cells.specs.Kill.{AreLeavesIn}
use Rattle.ep_cells.specs.States.{Known}
use Rattle.ep_cells.specs.Meaning.{Memories}
use Rattle.ep_cells.specs.Memories.{AreKilled}
use Rattle.ep_cell_ranges.specs.Tests.{is_model}
use Rattle.ep_cell_ranges.proofs.Same.{in_same}
use Rattle.ep_core.specs.Program.{Program}
use Rattle.ep_core.specs.Runs.{Side, left, right}
use Rattle.ep_core.specs.WellFormed.{is_well_formed}
use Rattle.ep_core.proofs.Operands.{sizes}
use Rattle.ep_pass.specs.States.{Mode, Both, One}
use Rattle.ep_evaluation.specs.Laws.{IsState}
use Rattle.ep_transfers.specs.Cells.{mode_of, known_or_empty, entered_or_left}
use Rattle.ep_transfers.specs.Transfers.{leaves_in, bytes_in, killed_block, killed_blocks, entered}
use Rattle.ep_transfers.specs.Laws.{memories}
use Rattle.ep_transfers.proofs.Kills.{AllKilled, AreAllKilled, one_killed, one_is, rest_killed, room}
use Rattle.ep_closed_laws.specs.Closely.{ConcretisesOneBeside}
use Rattle.ep_singles.specs.Cells.{IsOne}
use Rattle.ep_singles.proofs.Kills.{kills_keep_one}
use Rattle.ep_single_states.specs.Laws.{ConcretisesOne, BlocksKeepOne}

-- ---- memories that are the same

none_killed : (t : Bool) (m n : Memory) → AllKilled [] t m n → (b q : ℕ) → n b q ≡ m b q
none_killed true m n h b q = h.gone refl b q ∙ forgotten-none (m b q)
none_killed false m n h b q = h.alive refl b q

same_one : {N : Type 0} (D : Ops N) (k : Known N) (m n : Memories) → ((b q : ℕ) → n.left b q ≡ m.left b q)
    → ((b q : ℕ) → n.right b q ≡ m.right b q) → IsOne D k m → IsOne D k n
same_one D k m n l r one = record {
  cells = one.cells;
  each = one.each;
  left_outside = λ b q e. l b q ∙ one.left_outside b q e;
  right_outside = λ b q e. r b q ∙ one.right_outside b q e;
  holds = in_same D k m n (record { left = l; right = r }) one.holds;
}

module _ {N : Type 0} (D : Ops N) (law : Lawful D) (p : Program) (ord : Side → Order)
    (formed : is_well_formed p ≡ true) where
  -- ---- blocks

  all_killed : (s : CellSide) (bs : List ℕ) (k : Known N) (m n : Memories) → IsState D p ord k → IsOne D k m
      → AreAllKilled s bs m n → IsState D p ord (killed_blocks D p s bs k) × IsOne D (killed_blocks D p s bs k) n
  all_killed s [] k m n i one a = (
    i,
    same_one D k m n (none_killed (on_left s) m.left n.left a.left) (none_killed (on_right s) m.right n.right a.right)
        one,
  )
  all_killed s (b ∷ bs) k m n i one a =
      let j : Memories = record {
        left = one_killed (on_left s) b m.left;
        right = one_killed
            (on_right s) b m.right;
      } in
      let x = slice_get p.blocks b in
      let r = room D p ord (sizes p formed) b (slice_get p.blocks b) refl in
      let l = subst (λ d. AreLeavesIn d 0 (bytes_in D p (slice_get p.blocks b)) (leaves_in D p (slice_get p.blocks b)))
      (sym i.model) r.leaves in
      let dead : AreKilled s b m j = record {
        left = one_is (on_left s) b m.left;
        right = one_is (on_right s) b m.right;
      } in
      let h = kills_keep_one D law k m j one s b (leaves_in D p x) (bytes_in D p x) l r.small dead in
      all_killed s bs (killed_block D p s b (slice_get p.blocks b) k) j n
      (record { orders = i.orders; model = i.model; cells = h.cells }) h
      (record {
        left = rest_killed (on_left s) b bs m.left n.left a.left;
        right = rest_killed (on_right s) b bs m.right n.right a.right;
      })

  to_one : (s : CellSide) (bs : List ℕ) (k : Known N) (m n i j : Memory) → ConcretisesOne D p ord k m n
      → AreAllKilled s bs (memories m n) (memories i j) → ConcretisesOne D p ord (killed_blocks D p s bs k) i j
  to_one s bs k m n i j h a =
      let q = all_killed s bs k (memories m n) (memories i j) h.state h.one a in
      record { state = q.0; one = q.1 }

  gone : (bs : List ℕ) (m : Memory) → AllKilled bs true m (killed bs m)
  gone bs m = record { gone = λ e b q. refl; alive = λ e. absurd cc }

  kept : (bs : List ℕ) (m : Memory) → AllKilled bs false m m
  kept bs m = record { gone = λ e. absurd cc; alive = λ e b q. refl }

  -- ---- it is told in the data model of the program

  itself : (d : Model) → is_model d d ≡ true
  itself Ilp32 = refl
  itself Lp64 = refl

  when_told : (m : Mode) (bs : List ℕ) (k : Known N) (i j : Memory) → IsState D p ord k
      → ConcretisesOne D p ord (entered D p (mode_of m) bs k) i j
      → ConcretisesOne D p ord (entered_or_left D p ord m bs k) i j
  when_told m bs k i j h s =
      subst (λ t. ConcretisesOne D p ord (known_or_empty D p ord t (entered D p (mode_of m) bs k)) i j)
      (sym (ap (λ d. is_model d p.types.model) h.model ∙ itself p.types.model)) s

  alone : (m : Side) (bs : List ℕ) (s : Known N) (j k : Memory) → ConcretisesOneBeside (ConcretisesOne D p ord) m s j k
      → ConcretisesOneBeside (ConcretisesOne D p ord) m (entered_or_left D p ord (One m) bs s) (killed bs j) k
  alone left bs s j k h =
      when_told (One left) bs s (killed bs j) k h.state
      (to_one cell_side.Left bs s j k (killed bs j) k h (record { left = gone bs j; right = kept bs k }))
  alone right bs s j k h =
      when_told (One right) bs s k (killed bs j) h.state
      (to_one cell_side.Right bs s k j k (killed bs j) h (record { left = kept bs k; right = gone bs j }))

  both : (bs : List ℕ) (s : Known N) (m k : Memory) → ConcretisesOne D p ord s m k
      → ConcretisesOne D p ord (entered_or_left D p ord Both bs s) (killed bs m) (killed bs k)
  both bs s m k h =
      when_told Both bs s (killed bs m) (killed bs k) h.state
      (to_one cell_side.Shared bs s m k (killed bs m) (killed bs k) h (record { left = gone bs m; right = gone bs k }))

  pub blocks_keep_one : BlocksKeepOne D p ord
  blocks_keep_one = record { enter_alone = alone; leave_alone = alone; enter_both = both; leave_both = both }
