-- One cell after the other at all places is one place after the other, where the places are apart.
use Rattle.std.proofs.Common.{◌≡◌, ℕ, ◌+◌, ◌≤◌, true, false, ◌&&◌, ◌||◌, nat_eq, nat_lt, nat_le, List, []}
use Rattle.std.proofs.Common.{◌∷◌, refl, sym, ap, ◌∙◌, arith}
use Rattle.std.proofs.lemmas.Bool.Decides.{nat_tests}
use Rattle.ep_int.specs.declared.types.Model.{Model}
use Rattle.ep_int.specs.Types.{size_of}
use Rattle.ep_bitslice.specs.declared.cell.Side.TheVariants.{Shared}
use Rattle.ep_domain.specs.Domain.{Ops}
use Rattle.ep_cells.specs.declared.cell.Cell.{Cell}
use Rattle.ep_cells.specs.Cells.{place_of, touches}
use Rattle.ep_cells.specs.States.{Known, Each}
use Rattle.ep_cell_ranges.specs.Moves.{weakened_each}
use Rattle.ep_cell_ranges.specs.Ranges.{with_cells}
use Rattle.ep_cell_ranges.specs.Spots.{Spot}
use Rattle.ep_state_rows.specs.Rows.{further, each_weakened, IsRow, row_bytes, is_beyond, AreBeyond, AreSpaced}
use Rattle.ep_state_rows.proofs.Apart.{once, commute}

clear_by : (b a c e n i z j y : ℕ) → i + z ≤ n → (nat_lt b c || (nat_eq b c && nat_le (a + n) e)) ≡ true
    → (nat_eq b c && (nat_lt (a + i) (e + j + y) && nat_lt (e + j) (a + i + z))) ≡ false
clear_by b a c e n i z j y h k = grind (arith, nat_tests)

-- a Shared cell that ends so many bytes behind the place
pub record Lies {N : Type 0} (d : Model) (n : ℕ) (c : Cell N) : Type 0 where
  pub side : c.side ≡ Shared
  pub high : c.offset + size_of d c.what ≤ n

pub row_lies : {N : Type 0} (d : Model) (n a : ℕ) (ws : List (Cell N)) → IsRow d a ws → a + row_bytes d ws ≤ n
    → Each (Lies d n) ws
row_lies d n a [] r h = tt
row_lies d n a (c ∷ ws) r h =
    let e = r.1 in (
      record { side = r.0; high = omega (arith, e, h) },
      row_lies d n (a + size_of d c.what) ws r.2 (omega (arith, h)),
    )

module _ {N : Type 0} (D : Ops N) (d : Model) where
  -- all cells at one place
  abbrev pub rowed : List (Cell N) → Spot → List (Cell N) → List (Cell N)
  rowed [] q cs = cs
  rowed (c ∷ ws) q cs = rowed ws q (once D d (further c q) cs)

  -- one cell at all places
  abbrev everywhere : Cell N → List Spot → List (Cell N) → List (Cell N)
  everywhere c [] cs = cs
  everywhere c (q ∷ qs) cs = everywhere c qs (once D d (further c q) cs)

  abbrev in_turn : List (Cell N) → List Spot → List (Cell N) → List (Cell N)
  in_turn [] qs cs = cs
  in_turn (c ∷ ws) qs cs = in_turn ws qs (everywhere c qs cs)

  abbrev pub by_places : List (Cell N) → List Spot → List (Cell N) → List (Cell N)
  by_places ws [] cs = cs
  by_places ws (q ∷ qs) cs = by_places ws qs (rowed ws q cs)

  clear : (n : ℕ) (w c : Cell N) (q r : Spot) → Lies d n w → is_beyond n q r ≡ true
      → touches (place_of d (further w q)) (place_of d (further c r)) ≡ false
  clear n w c q r l h =
      clear_by q.0 q.1 r.0 r.1 n w.offset (size_of d w.what) c.offset (size_of d c.what) l.high h

  one_first : (n : ℕ) (w c : Cell N) (q : Spot) (qs : List Spot) (cs : List (Cell N)) → Lies d n w → c.side ≡ Shared
      → AreBeyond n q qs → once D d (further w q) (everywhere c qs cs) ≡ everywhere c qs (once D d (further w q) cs)
  one_first n w c q [] cs l s h = refl
  one_first n w c q (r ∷ qs) cs l s h =
      one_first n w c q qs (once D d (further c r) cs) l s h.1
      ∙ sym (ap (everywhere c qs) (commute D d (further w q) (further c r) cs l.side s (clear n w c q r l h.0)))

  row_first : (n : ℕ) (ws : List (Cell N)) (c : Cell N) (q : Spot) (qs : List Spot) (cs : List (Cell N))
      → Each (Lies d n) ws → c.side ≡ Shared → AreBeyond n q qs
      → rowed ws q (everywhere c qs cs) ≡ everywhere c qs (rowed ws q cs)
  row_first n [] c q qs cs l s h = refl
  row_first n (w ∷ ws) c q qs cs l s h =
      ap (rowed ws q) (one_first n w c q qs cs l.0 s h)
      ∙ row_first n ws c q qs (once D d (further w q) cs) l.1 s h

  place_first : (n : ℕ) (ws : List (Cell N)) (q : Spot) (qs : List Spot) (cs : List (Cell N)) → Each (Lies d n) ws
      → AreBeyond n q qs → in_turn ws (q ∷ qs) cs ≡ in_turn ws qs (rowed ws q cs)
  place_first n [] q qs cs l h = refl
  place_first n (c ∷ ws) q qs cs l h =
      place_first n ws q qs (everywhere c qs (once D d (further c q) cs)) l.1 h
      ∙ ap (in_turn ws qs) (row_first n ws c q qs (once D d (further c q) cs) l.1 l.0.side h)

  no_place : (ws cs : List (Cell N)) → in_turn ws [] cs ≡ cs
  no_place [] cs = refl
  no_place (c ∷ ws) cs = no_place ws cs

  pub all_places : (n : ℕ) (ws : List (Cell N)) (qs : List Spot) (cs : List (Cell N)) → Each (Lies d n) ws
      → AreSpaced n qs → in_turn ws qs cs ≡ by_places ws qs cs
  all_places n ws [] cs l h = no_place ws cs
  all_places n ws (q ∷ qs) cs l h = place_first n ws q qs cs l h.0 ∙ all_places n ws qs (rowed ws q cs) l h.1

-- ---- states

module _ {N : Type 0} (D : Ops N) where
  one_is : (c : Cell N) (qs : List Spot) (k : Known N)
      → weakened_each D (further c) true qs k ≡ with_cells k (everywhere D k.model c qs k.cells)
  one_is c [] k = refl
  one_is c (q ∷ qs) k = one_is c qs (with_cells k (once D k.model (further c q) k.cells))

  each_is : (ws : List (Cell N)) (qs : List Spot) (k : Known N)
      → each_weakened D qs ws k ≡ with_cells k (in_turn D k.model ws qs k.cells)
  each_is [] qs k = refl
  each_is (c ∷ ws) qs k =
      ap (each_weakened D qs ws) (one_is c qs k)
      ∙ each_is ws qs (with_cells k (everywhere D k.model c qs k.cells))

  pub spaced_is : (n : ℕ) (ws : List (Cell N)) (qs : List Spot) (k : Known N) → Each (Lies k.model n) ws
      → AreSpaced n qs → each_weakened D qs ws k ≡ with_cells k (by_places D k.model ws qs k.cells)
  spaced_is n ws qs k l h = each_is ws qs k ∙ ap (with_cells k) (all_places D k.model n ws qs k.cells l h)
