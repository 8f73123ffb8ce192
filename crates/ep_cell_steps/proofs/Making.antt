-- States made of lists of cells.
use Rattle.std.proofs.Common.{◌≡◌, ℕ, ◌+◌, ◌<◌, ◌≤◌, ◌⊎◌, inl, inr, ⊎_elim, List, [], ◌∷◌, length, drop, get_or}
use Rattle.std.proofs.Common.{Option, Some, None, IfSome, true, refl, sym, subst, arith}
use Rattle.std.proofs.Math.ListN.{drop_of_length-le}
use Rattle.ep_int.specs.declared.types.Model.{Model}
use Rattle.ep_bitslice.specs.declared.cell.CellName.{CellName}
use Rattle.ep_bitslice.specs.declared.segment.Segment.{Segment}
use Rattle.ep_bitslice.specs.Bits.{mentions}
use Rattle.ep_bitslice.specs.Segments.{bits}
use Rattle.ep_domain.specs.Domain.{Ops}
use Rattle.ep_cells.specs.declared.cell.Cell.{Cell}
use Rattle.ep_cells.specs.Cells.{IsIn, first, later}
use Rattle.ep_cells.specs.States.{AreCells, HaveCellsAlike}
use Rattle.ep_cells.specs.Both.{cells_of_both}
use Rattle.ep_cells.specs.Laws.{JoinLaws}
use Rattle.ep_cell_rows.specs.declared.values.Union.{Union}
use Rattle.ep_cell_rows.specs.declared.values.Union.TheVariants.{Join, Widen}
use Rattle.ep_cell_rows.specs.Parts.{united}
use Rattle.ep_shared_parts.specs.declared.parts.Part.{Part}
use Rattle.ep_shared_parts.specs.declared.uses.Use.{Use}
use Rattle.ep_shared_parts.specs.Spread.{outlines, all_items, AreSpread}
use Rattle.ep_shared_parts.specs.Mentions.{number_of, number_of_name, number_of_use, IsNoted, AllNoted, AreIndexed}
use Rattle.ep_shared_parts.proofs.Steps.{rest_at}
use Rattle.ep_shared_parts.proofs.Mentioning.{note_of}
use Rattle.ep_cell_steps.specs.PartsInvariant.{IsIndexed, AreKept}

-- ---- the index

indexed_by : (us vs : List Use) (by : ℕ) → ((u : Use) → IsNoted us u → IsNoted vs u) → (o : Option (List Segment))
    → IfSome o (λ ss. (n : CellName) → mentions n (bits ss) ≡ true → IsNoted us (record { of = number_of_name n; by = by }))
    → IfSome o (λ ss. (n : CellName) → mentions n (bits ss) ≡ true → IsNoted vs (record { of = number_of_name n; by = by }))
indexed_by us vs by f None h = tt
indexed_by us vs by f (Some ss) h = λ n k. f (record { of = number_of_name n; by = by }) (h n k)

pub indexed_more : {N : Type 0} (us vs : List Use) (c : Cell N) → ((u : Use) → IsNoted us u → IsNoted vs u)
    → IsIndexed us c → IsIndexed vs c
indexed_more us vs c f h = indexed_by us vs (number_of c) f c.form h

pub indexed_some : {N : Type 0} (us : List Use) (c : Cell N) (ss : List Segment) (k : ℕ) → c.form ≡ Some ss
    → k ≡ number_of c → AllNoted us k ss → IsIndexed us c
indexed_some us c ss k e f h =
    subst (λ o. IfSome o (λ ss. (n : CellName) → mentions n (bits ss) ≡ true → IsNoted us (record {
      of = number_of_name
          n;
      by = number_of c;
    }))) (sym e) (λ n m. note_of us (number_of c) n ss (subst (λ j. AllNoted us j ss) f h) m)

pub indexed_none : {N : Type 0} (us : List Use) (c : Cell N) → c.form ≡ None → IsIndexed us c
indexed_none us c e =
    subst (λ o. IfSome o (λ ss. (n : CellName) → mentions n (bits ss) ≡ true → IsNoted us (record {
      of = number_of_name
          n;
      by = number_of c;
    }))) (sym e) tt

-- each cell is noted or still to come
abbrev pub AreNotedTo : {N : Type 0} → List Use → ℕ → List (Cell N) → Type 0
AreNotedTo {N} us i cs = (c : Cell N) → IsIn c cs → IsIndexed us c ⊎ IsIn c (drop i cs)

pub indexed_step : {N : Type 0} (us vs : List Use) (cs : List (Cell N)) (i : ℕ) (x : Cell N) → i < length cs
    → x ≡ get_or cs i x → ((u : Use) → IsNoted us u → IsNoted vs u) → IsIndexed vs x → AreNotedTo us i cs
    → AreNotedTo vs (i + 1) cs
indexed_step {N = N} us vs cs i x b e f n h c k =
    ⊎_elim
    (λ j. inl (indexed_more us vs c f j))
    (λ j. by c (subst (IsIn c) (rest_at cs i x b e) j))
    (h c k)
  where
    by : (c : Cell N) → IsIn c (x ∷ drop (i + 1) cs) → IsIndexed vs c ⊎ IsIn c (drop (i + 1) cs)
    by _ (first _) = inl n
    by c (later _ _ j) = inr j

pub indexed_end : {N : Type 0} (us : List Use) (cs : List (Cell N)) (i : ℕ) → length cs ≤ i → AreNotedTo us i cs
    → AreIndexed us cs
indexed_end {N = N} us cs i le h c k =
    ⊎_elim (λ j. j) (λ j. absurd (nothing (subst (IsIn c) (drop_of_length-le cs le) j))) (h c k)
  where
    nothing : IsIn c [] → ⊥
    nothing j = elim j [ ]

-- ---- states

pub kept_of : {N : Type 0} (d : Model) (ps : List (Part (Cell N))) (us : List (Part Use)) (cs : List (Cell N))
    → all_items ps ≡ cs → AreSpread (outlines number_of ps) → AreSpread (outlines number_of_use us) → AreCells d cs
    → AreIndexed (all_items us) cs → AreKept d ps us
kept_of d ps us cs e s t a i = record {
  spread = s;
  uses = t;
  cells = subst (AreCells d) (sym e) a;
  indexed = subst (AreIndexed (all_items us)) (sym e) i;
}

pub kept_copy : {N : Type 0} (d : Model) (ps qs : List (Part (Cell N))) (us vs : List (Part Use))
    → outlines number_of qs ≡ outlines number_of ps → all_items qs ≡ all_items ps
    → outlines number_of_use vs ≡ outlines number_of_use us → all_items vs ≡ all_items us → AreKept d ps us
    → AreKept d qs vs
kept_copy d ps qs us vs o e p f k = record {
  spread = subst AreSpread (sym o) k.spread;
  uses = subst AreSpread (sym p) k.uses;
  cells = subst (AreCells d) (sym e) k.cells;
  indexed = subst (λ z. AreIndexed z (all_items qs)) (sym f) (subst (AreIndexed (all_items us)) (sym e) k.indexed);
}

pub as_many : {N : Type 0} (xs ys : List (Cell N)) → HaveCellsAlike xs ys → length xs ≡ length ys
as_many [] [] h = refl
as_many [] (y ∷ ys) h = absurd h
as_many (x ∷ xs) [] h = absurd h
as_many (x ∷ xs) (y ∷ ys) h = let e = as_many xs ys h.1 in omega (arith, e)

pub united_cells : {N : Type 0} (D : Ops N) (u : Union) (d : Model) (xs ys : List (Cell N)) → JoinLaws D
    → AreCells d xs → AreCells d ys → HaveCellsAlike xs ys → AreCells d (cells_of_both (united D u) xs ys)
united_cells D Join d xs ys law a b h = law.join_cells d xs ys a b h
united_cells D Widen d xs ys law a b h = law.widen_cells d xs ys a b h
