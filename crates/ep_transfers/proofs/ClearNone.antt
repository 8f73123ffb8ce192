-- A clear of any number of bytes; where it is none, a pointer that the place lies inside of is then undefined.
use Rattle.std.proofs.Common.{◌≡◌, ℕ, zero, suc, ◌+◌, ◌<◌, ◌≤◌, Bool, true, ◌&&◌, nat_eq, nat_le, nat_lt, List, refl}
use Rattle.std.proofs.Common.{sym, ◌∙◌, subst, arith}
use Rattle.ep_transfers.proofs.Basics.{none_inside}
use Rattle.std.proofs.lemmas.Bool.{and_parts, leb-true, ltb-true}
use Rattle.ep_int.specs.declared.types.Model.{Model}
use Rattle.ep_int.specs.declared.types.Order.{Order}
use Rattle.ep_layout.specs.declared.types.Leaf.{Leaf}
use Rattle.ep_bitslice.specs.declared.cell.Side.{Side as CellSide}
use Rattle.ep_domain.specs.Domain.{Ops}
use Rattle.ep_cells.specs.Kill.{AreLeavesIn}
use Rattle.ep_cells.specs.States.{Known}
use Rattle.ep_cells.specs.Meaning.{Memories, In}
use Rattle.ep_cells.specs.Memories.{is_byte_of}
use Rattle.ep_core.specs.Program.{Program}
use Rattle.ep_core.specs.Runs.{Side, left, right}
use Rattle.ep_equalities.specs.declared.pair.Mode.{Mode}
use Rattle.ep_equalities.specs.declared.pair.Mode.TheVariants.{Both, Left, Right}
use Rattle.ep_evaluation.specs.Given.{cells_of, runs}
use Rattle.ep_cell_ranges.specs.Moves.{place_at, blurred_each}
use Rattle.ep_cell_ranges.specs.Spots.{Spot}
use Rattle.ep_cell_ranges.specs.Sound.{changed, unchanged, MayBothBeChanged}
use Rattle.ep_cell_ranges.specs.Laws.{BlurEachLaws}
use Rattle.ep_evaluation.specs.Laws.{IsState}
use Rattle.ep_transfers.specs.Places.{Places, at_side}
use Rattle.ep_transfers.specs.Transfers.{none_written, cleared_from, cleared_bytes}
use Rattle.ep_transfers.specs.Laws.{CellLaws}
use Rattle.ep_transfers.proofs.Changes.{IsOne, IsKnown}
use Rattle.ep_transfers.proofs.Assigned.{is_one}
use Rattle.ep_transfers.proofs.Puts.{memory_on, IsStill}
use Rattle.ep_transfers.proofs.Copied.{IsNext, then_next, blurred_change}
use Rattle.ep_transfers.proofs.RunSteps.{RunSpotted}
use Rattle.ep_transfers.proofs.ClearGoes.{clear_of, cleared_on, cleared_stands}

no_byte : (s : CellSide) (q : Spot) (b j : ℕ) → is_byte_of (place_at s q 0) b j ≡ true → ⊥
no_byte s q b j e =
    let t = and_parts (nat_eq q.0 b) (nat_le q.1 j && nat_lt j (q.1 + 0)) e in
    let u = and_parts (nat_le q.1 j) (nat_lt j (q.1 + 0)) t.1 in
    none_inside q.1 j (leb-true q.1 j u.0) (ltb-true j (q.1 + 0) u.1)

module _ {N : Type 0} (D : Ops N) (blurs : BlurEachLaws D) (leaves : List Leaf) where
  abbrev Clears : Side → Spot → Model → Memories → Memories → Type 0
  Clears s q d m o = (b j : ℕ) → memory_on s o b j ≡ clear_of d leaves q 0 (memory_on s m) b j

  may_be : (s : Side) (q : Spot) (d : Model) (m o : Memories) → Clears s q d m o → IsStill s m o
      → MayBothBeChanged d (place_at (cells_of s) q 0) m o
  may_be left q d m o h r = record {
    left = changed refl (record { beside = λ c j out. h c j ∙ rw out refl })
        (record { below = λ c j v e f. absurd (no_byte (cells_of left) q c j e) });
    right = unchanged r;
  }
  may_be right q d m o h r = record {
    left = unchanged r;
    right = changed refl (record { beside = λ c j out. h c j ∙ rw out refl })
        (record { below = λ c j v e f. absurd (no_byte (cells_of right) q c j e) });
  }

  side_next : (s : Side) (q : Spot) (qs : List Spot) → IsOne q qs → (k : Known N) (m o : Memories) → IsKnown D k m
      → Clears s q k.model m o → IsStill s m o → IsNext D k (blurred_each D (cells_of s) 0 qs k) m o
  side_next s q qs one k m o i h r = blurred_change D blurs s q 0 qs one k m o i (may_be s q k.model m o h r)

  none_next : (os : Order × Order) (mode : Mode) (at : Side → Spot) (pl : Places)
      → ((s : Side) → runs mode s ≡ true → IsOne (at s) (at_side pl s)) → (k : Known N) (m : Memories) → IsKnown D k m
      → IsNext D k (none_written D mode pl k) m (cleared_on os k.model leaves at 0 mode m)
  none_next os Both at pl one k m i =
      let o : Memories = cleared_on os k.model leaves at 0 Both m in
      let h : Memories = record { left = o.left; right = m.right } in
      let j = blurred_each D (cells_of left) 0 pl.left k in
      let a : IsNext D k j m h = side_next left (at left) pl.left (one left refl) k m h i (λ b q. refl) (λ b q. refl) in
      then_next D k j (none_written D Both pl k) m h o a
      (side_next right (at right) pl.right (one right refl) j h o a.after
      (subst (λ d. Clears right (at right) d h o) (sym a.model) (λ b q. refl)) (λ b q. refl))
  none_next os Left at pl one k m i =
      side_next left (at left) pl.left (one left refl) k m (cleared_on os k.model leaves at 0 Left m) i (λ b q. refl)
      (λ b q. refl)
  none_next os Right at pl one k m i =
      side_next right (at right) pl.right (one right refl) k m (cleared_on os k.model leaves at 0 Right m) i
      (λ b q. refl) (λ b q. refl)

module _ {N : Type 0} (D : Ops N) (laws : CellLaws D) (blurs : BlurEachLaws D) (p : Program) (ord : Side → Order)
    (sizes : List ℕ) (leaves : List Leaf) (at : Side → Spot) (n : ℕ) (a : AreLeavesIn p.types.model 0 n leaves)
    (mode : Mode) (to : Bool) (pl : Places) (sp : RunSpotted mode to n pl at) where
  abbrev os : Order × Order
  os = (ord left, ord right)

  abbrev d : Model
  d = p.types.model

  abbrev Stands : Known N → Memories → Type 0
  Stands k m = IsState D p ord k × In D k m

  none_stands : (k : Known N) (m : Memories) → Stands k m
      → Stands (none_written D mode pl k) (cleared_on os d leaves at 0 mode m)
  none_stands k m h =
      let j = none_written D mode pl k in
      let s = none_next D blurs leaves os mode at pl (λ s r. is_one (at s) (at_side pl s) (sp.among s r)) k m
      (record { cells = h.0.cells; holds = h.1 }) in (
        record { orders = s.orders ∙ h.0.orders; model = s.model ∙ h.0.model; cells = s.after.cells },
        subst (λ x. In D j (cleared_on os x leaves at 0 mode m)) h.0.model s.after.holds,
      )

  some_bytes : (c : ℕ) → 0 < suc c
  some_bytes c = omega arith

  by_count : (c : ℕ) → c ≡ n → (k : Known N) (m : Memories) → Stands k m
      → Stands (cleared_bytes D sizes mode n leaves to pl c k) (cleared_on os d leaves at n mode m)
  by_count zero e k m h =
      subst (λ x. Stands (none_written D mode pl k) (cleared_on os d leaves at x mode m)) e (none_stands k m h)
  by_count (suc c) e k m h =
      subst (λ x. Stands (cleared_from D sizes mode n leaves to pl 0 x k) (cleared_on os d leaves at n mode m)) (sym e)
      (cleared_stands D laws p ord sizes leaves at n a mode to pl sp (subst (λ x. 0 < x) e (some_bytes c)) k m h)

  pub clear_stands : (k : Known N) (m : Memories) → Stands k m
      → Stands (cleared_bytes D sizes mode n leaves to pl n k) (cleared_on os d leaves at n mode m)
  clear_stands k m h = by_count n refl k m h
