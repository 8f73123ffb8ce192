-- What is read for a piece is of its type, and a piece ends in the aggregate.
use Rattle.std.proofs.Common.{◌≡◌, ℕ, ◌+◌, ◌<◌, ◌≤◌, Bool, true, false, ◌&&◌, nat_eq, cond, List, [], ◌∷◌, Option}
use Rattle.ep_cells.proofs.Entry.{leaf_inside}
use Rattle.std.proofs.Common.{Some, None, refl, subst, arith}
use Rattle.std.proofs.lemmas.Bool.{and_parts, eqb-true}
use Rattle.std.specs.Prelude.{is_some}
use Rattle.std.specs.Option.{option_map_or}
use Rattle.ep_int.specs.declared.types.IntType.TheVariants.{U8}
use Rattle.ep_int.specs.declared.types.Model.{Model}
use Rattle.ep_int.specs.declared.types.Scalar.{Scalar}
use Rattle.ep_int.specs.declared.types.Scalar.TheVariants.{Int}
use Rattle.ep_int.specs.Types.{size_of}
use Rattle.ep_layout.specs.declared.types.Leaf.{Leaf}
use Rattle.ep_bitslice.specs.declared.cell.Side.{Side as CellSide}
use Rattle.ep_domain.specs.Domain.{Ops}
use Rattle.ep_cells.specs.declared.cell.Cell.{Cell}
use Rattle.ep_cells.specs.declared.cell.Value.{Value}
use Rattle.ep_cells.specs.Both.{value_of_both}
use Rattle.ep_cells.specs.Cells.{is_same_scalar}
use Rattle.ep_cells.specs.Kill.{leaf_at, AreLeavesIn}
use Rattle.ep_cells.specs.Look.{cell_at}
use Rattle.ep_cells.specs.States.{Known, AreCells, IsOfSort}
use Rattle.ep_cells.proofs.Both.{scalar_same, sort_both}
use Rattle.ep_cell_ranges.specs.Spots.{Spot}
use Rattle.ep_evaluation.specs.Accesses.{joined_from}
use Rattle.ep_reads.specs.declared.read.ReadValue.{ReadValue}
use Rattle.ep_reads.specs.Read.{read}
use Rattle.ep_reads.specs.Laws.{ReadLaws}
use Rattle.ep_reads.proofs.Found.{covering}
use Rattle.ep_transfers.specs.Copies as spec
use Rattle.ep_transfers.specs.Places.{moved_spots}
use Rattle.ep_transfer_pieces.specs.Pieces.{CanPut}

-- ---- a leaf ends there too

leaf_by : (d : Model) (n o : ℕ) (l : Leaf) (ls : List Leaf) (w : Scalar) (t : Bool) → nat_eq l.offset o ≡ t
    → l.offset + size_of d l.what ≤ n → (leaf_at ls o ≡ Some w → o + size_of d w ≤ n)
    → cond t (Some l.what) (leaf_at ls o) ≡ Some w → o + size_of d w ≤ n
leaf_by d n o l ls w true g e more f =
    let v : l.what ≡ w = cc in
    subst (λ x. x + size_of d w ≤ n) (eqb-true l.offset o g) (subst (λ x. l.offset + size_of d x ≤ n) v e)
leaf_by d n o l ls w false g e more f = more f

-- ---- types of what is read

module _ {N : Type 0} (D : Ops N) where
  abbrev AllOf : Scalar → List (ReadValue N) → Type 0
  AllOf w [] = Unit {0}
  AllOf w (r ∷ rs) = IsOfSort w r.value × AllOf w rs

  joined_sort : (w : Scalar) (u : Option (Value N)) (rs : List (ReadValue N)) → IsOfSort w u → AllOf w rs
      → IsOfSort w (joined_from D u rs)
  joined_sort w u [] h a = h
  joined_sort w u (r ∷ rs) h a =
      joined_sort w (value_of_both D.join u r.value) rs (sort_both D.join w u r.value h a.0) a.1

  module _ (k : Known N) (s : CellSide) (cells : AreCells k.model k.cells) where
    leaf_sort : (w : Scalar) (q : Spot) (c : Option (Cell N)) → cell_at k.model s q.0 q.1 k.cells ≡ c
        → is_some (spec.exact_cell D w q.1 c) ≡ true
        → IsOfSort w (option_map_or (spec.whole_source D) (spec.exact_cell D w q.1 c) (spec.fragment_source D)).value
    leaf_sort w q None at e = absurd (let z : false ≡ true = e in cc)
    leaf_sort w q (Some x) at e = by_test (nat_eq x.offset q.1 && is_same_scalar x.what w) refl e
      where
        by_test : (t : Bool) → (nat_eq x.offset q.1 && is_same_scalar x.what w) ≡ t
            → is_some (cond t (Some x) None) ≡ true
            → IsOfSort w (option_map_or (spec.whole_source D) (cond t (Some x) None) (spec.fragment_source D)).value
        by_test true f g =
            let r = and_parts (nat_eq x.offset q.1) (is_same_scalar x.what w) f in
            let c = covering k.model s q.0 q.1 k.cells x at in
            subst (λ v. IsOfSort v x.value) (scalar_same x.what w r.1) (cells.each x c.is_in).fits.sort
        by_test false f g = absurd (let z : false ≡ true = g in cc)

    leaf_all : (w : Scalar) (o : ℕ) (ps : List Spot) → spec.are_exact D k s o w ps ≡ true
        → AllOf w (spec.leaf_sources D k s w (moved_spots o ps))
    leaf_all w o [] e = tt
    leaf_all w o (q ∷ qs) e =
        let r = and_parts (is_some (spec.exact_at D k s w (q.0, q.1 + o))) (spec.are_exact D k s o w qs) e in
        (leaf_sort w (q.0, q.1 + o) (cell_at k.model s q.0 (q.1 + o) k.cells) refl r.0, leaf_all w o qs r.1)

    module _ (reads : ReadLaws D) where
      byte_sort : (q : Spot) (c : Option (Cell N)) → IsOfSort (Int U8) (spec.byte_source D k s q c).value
      byte_sort q None = tt
      byte_sort q (Some x) = by_test (spec.may_point D x.value)
        where
          by_test : (t : Bool) → IsOfSort (Int U8)
              (cond t (spec.fragment_source D) (read D k s q.0 q.1 (Int U8))).value
          by_test true = tt
          by_test false = (reads.fits k s q.0 q.1 (Int U8) cells).sort

      byte_all : (qs : List Spot) → AllOf (Int U8) (spec.byte_sources D k s qs)
      byte_all [] = tt
      byte_all (q ∷ qs) = (byte_sort q (cell_at k.model s q.0 q.1 k.cells), byte_all qs)

      module _ (ps : List Spot) (ls : List Leaf) (n o : ℕ) (leaves : AreLeavesIn k.model 0 n ls) (inside : o < n) where
        can_by : (x : Option Scalar) → leaf_at ls o ≡ x → (t u : Bool)
            → option_map_or (λ w. spec.are_exact D k s o w ps) x false ≡ t
            → CanPut D k s ps n o (spec.piece_by D t u x)
        can_by None e true u f = absurd (let z : false ≡ true = f in cc)
        can_by (Some w) e true u f = record {
          sort = joined_sort w None (spec.leaf_sources D k s w (moved_spots o ps)) tt (leaf_all w o ps f);
          room = leaf_inside k.model 0 n o ls w leaves e;
        }
        can_by x e false true f = record { sort = tt; room = omega (arith, inside) }
        can_by x e false false f = record {
          sort = joined_sort (Int U8) None (spec.byte_sources D k s (moved_spots o ps)) tt
              (byte_all (moved_spots o ps));
          room = omega (arith, inside);
        }

        pub can_put : CanPut D k s ps n o (spec.piece_at D k s ps ls o)
        can_put =
            can_by (leaf_at ls o) refl (option_map_or (λ w. spec.are_exact D k s o w ps) (leaf_at ls o) false)
            (spec.is_in_whole D k s ps o ls) refl
