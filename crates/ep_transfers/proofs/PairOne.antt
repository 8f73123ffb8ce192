-- A piece that is the same on both sides is one thing on both machines.
use Rattle.std.proofs.Common.{◌≡◌, ℕ, ◌+◌, ◌<◌, Bool, true, false, ◌&&◌, ◌||◌, nat_eq, cond, is_some, List, Option}
use Rattle.ep_cell_ranges.proofs.Moved.{bytes_moved}
use Rattle.std.proofs.Common.{Some, None, ⊎_elim, refl, sym, ap, ◌∙◌, subst, arith}
use Rattle.std.specs.Option.{option_map_or}
use Rattle.std.proofs.lemmas.Bool.{and_parts, or_cases, eqb-true}
use Rattle.ep_int.specs.declared.types.IntType.TheVariants.{U8}
use Rattle.ep_int.specs.declared.types.Scalar.{Scalar}
use Rattle.ep_int.specs.declared.types.Scalar.TheVariants.{Int}
use Rattle.ep_int.specs.Types.{size_of}
use Rattle.ep_int.specs.Memory.{Byte, Value as Datum, broken}
use Rattle.ep_layout.specs.declared.types.Leaf.{Leaf}
use Rattle.ep_bitslice.specs.declared.segment.Segment.{Segment}
use Rattle.ep_bitslice.specs.declared.cell.Side.TheVariants as cell_side
use Rattle.ep_domain.specs.Domain.{Ops}
use Rattle.ep_cells.specs.declared.cell.Cell.{Cell}
use Rattle.ep_cells.specs.declared.cell.Value.{Value}
use Rattle.ep_cells.specs.Cells.{is_same_scalar}
use Rattle.ep_cells.specs.Forms.{have_same_form}
use Rattle.ep_cells.specs.Kill.{AreLeavesIn}
use Rattle.ep_cells.specs.Look.{cell_at}
use Rattle.ep_cells.specs.States.{Known}
use Rattle.ep_cells.specs.Meaning.{Memories, Allows, HasBytes}
use Rattle.ep_cells.proofs.Both.{scalar_same}
use Rattle.ep_reads.specs.declared.read.ReadValue.{ReadValue}
use Rattle.ep_core.specs.Runs.{Side, left, right}
use Rattle.ep_evaluation.specs.Given.{cells_of}
use Rattle.ep_evaluation.specs.Accesses.{form_of_reads}
use Rattle.ep_evaluation.proofs.Spots.{Among}
use Rattle.ep_cell_ranges.specs.Spots.{Spot}
use Rattle.ep_transfers.specs.Places.{Places, moved_spots}
use Rattle.ep_transfers.specs.Writes.{lacks}
use Rattle.ep_transfers.specs.Copies.{Piece, leaf, byte, scalar_of_piece, exact_cell, are_exact, whole_source}
use Rattle.ep_transfers.specs.Copies.{fragment_source, leaf_sources, byte_sources, are_shared_whole}
use Rattle.ep_transfers.specs.Laws.{CellLaws}
use Rattle.ep_transfers.proofs.Changes.{IsOne, here, there, IsKnown}
use Rattle.ep_transfers.proofs.Copied.{AreBelow}
use Rattle.ep_transfers.proofs.PieceWrites.{bytes_as, piece_of, sources_at, PieceSays}
use Rattle.ep_transfers.proofs.PieceReads.{copied_bytes, leaf_exact, leaf_fit, byte_fit}
use Rattle.ep_transfers.proofs.PieceSources.{AllFit, SourceAs, joined_as}
use Rattle.ep_transfers.proofs.PairWrites.{value_at, maybe_at, PieceAs, item_of_both}
use Rattle.ep_transfers.proofs.PairSame.{are_one, by_value}
use Rattle.ep_transfers.proofs.PairForms.{IsSure, leaf_sure, bytes_sure, is_datum, one_number}
use Rattle.ep_transfers.proofs.PairShared.{as_byte, shared_there, both_at, whole_as, leaf_among, byte_among}
use Rattle.ep_transfers.proofs.PairShared.{byte_as}

module _ {N : Type 0} (D : Ops N) (laws : CellLaws D) (k : Known N) (to from : Places) (leaves : List Leaf) (n : ℕ)
    (m : Memories) (i : IsKnown D k m) (p : Spot) (bl : AreBelow m.left) (br : AreBelow m.right)
    (ol : IsOne p from.left) (or : IsOne p from.right) (apart : AreLeavesIn k.model 0 n leaves) where
  abbrev nl : ℕ → Byte
  nl = copied_bytes D laws left k m i p n bl to from leaves ol apart

  abbrev nr : ℕ → Byte
  nr = copied_bytes D laws right k m i p n br to from leaves or apart

  pub record OnePiece (o : ℕ) (c : Piece D) : Type 0 where
    pub datum : Option Datum
    pub on_left : PieceAs D laws k to from leaves n left nl o c datum
    pub on_right : PieceAs D laws k to from leaves n right nr o c datum

  module _ (o : ℕ) (c : Piece D) (zl : PieceSays D laws k to from leaves n left nl o c)
      (zr : PieceSays D laws k to from leaves n right nr o c) where
    abbrev w : Scalar
    w = scalar_of_piece D c

    abbrev lv : Option (Value N)
    lv = value_at D laws k to from leaves n left o c

    abbrev rv : Option (Value N)
    rv = value_at D laws k to from leaves n right o c

    abbrev lm : Bool
    lm = maybe_at D laws k to from leaves n left o c

    abbrev rm : Bool
    rm = maybe_at D laws k to from leaves n right o c

    -- the only value of both
    of_values : are_one D laws.domain lv rv ≡ true → OnePiece o c
    of_values h =
        let d = by_value D laws.domain w (size_of k.model w) lv rv lm rm k.orders.0 k.orders.1 (bytes_as nl)
        (bytes_as nr) 0 o zl.says.datum zr.says.datum h zl.says.allowed zr.says.allowed zl.says.stands zr.says.stands in
        record {
          datum = d.datum;
          on_left = record {
            inside = zl.inside;
            fits = zl.fits;
            allowed = d.left_allowed;
            stands = d.left_stands;
          };
          on_right = record {
            inside = zr.inside;
            fits = zr.fits;
            allowed = d.right_allowed;
            stands = d.right_stands;
          };
        }

    -- one form of both
    of_forms : (f g : List Segment) → IsSure D laws k m i left w (p.0, p.1 + o) f lv lm
        → IsSure D laws k m i right w (p.0, p.1 + o) g rv rm → have_same_form (Some f) (Some g) ≡ true → OnePiece o c
    of_forms f g x y e =
        let same = one_number D laws k m i w (p.0, p.1 + o) (p.0, p.1 + o) f g lv rv lm rm x y e in
        let dl = is_datum D laws k m i left p n o nl (λ t. refl) w f lv lm x zl.says.datum zl.says.allowed
        zl.says.stands in
        let dr = is_datum D laws k m i right p n o nr (λ t. refl) w g rv rm y zr.says.datum zr.says.allowed
        zr.says.stands in
        let both : zr.says.datum ≡ zl.says.datum = dr ∙ (ap Some (sym same) ∙ sym dl) in
        record {
          datum = zl.says.datum;
          on_left = record {
            inside = zl.inside;
            fits = zl.fits;
            allowed = zl.says.allowed;
            stands = zl.says.stands;
          };
          on_right = record {
            inside = zr.inside;
            fits = zr.fits;
            allowed = subst (λ d. Allows D w rv (lacks rm rv) d) both zr.says.allowed;
            stands = subst (λ d. HasBytes k.orders.1 (bytes_as nr) (size_of k.model w) w (lacks rm rv) 0 o d) both
                zr.says.stands;
          };
        }

    forms_by : (fl fr : Option (List Segment)) → have_same_form fl fr ≡ true
        → ((f : List Segment) → fl ≡ Some f → IsSure D laws k m i left w (p.0, p.1 + o) f lv lm)
        → ((f : List Segment) → fr ≡ Some f → IsSure D laws k m i right w (p.0, p.1 + o) f rv rm) → OnePiece o c
    forms_by None fr e x y = absurd (cc)
    forms_by (Some f) None e x y = absurd (cc)
    forms_by (Some f) (Some g) e x y = of_forms f g (x f refl) (y g refl) e

    -- one cell of both
    of_cell : (d : Option Datum) (rl rr : ReadValue N)
        → AllFit D laws.domain w (sources_at D laws k to from leaves n left o c)
        → AllFit D laws.domain w (sources_at D laws k to from leaves n right o c)
        → Among rl (sources_at D laws k to from leaves n left o c)
        → Among rr (sources_at D laws k to from leaves n right o c)
        → SourceAs D laws.domain k.orders.0 (size_of k.model w) w rl p.0 (p.1 + o) (broken k.model m.left p.0 p.1 n) d
        → SourceAs D laws.domain k.orders.1 (size_of k.model w) w rr p.0 (p.1 + o) (broken k.model m.right p.0 p.1 n) d
        → OnePiece o c
    of_cell d rl rr fl fr al ar sl sr =
        let ls = sources_at D laws k to from leaves n left o c in
        let rs = sources_at D laws k to from leaves n right o c in
        let ml = broken k.model m.left p.0 p.1 n in
        let mr = broken k.model m.right p.0 p.1 n in
        let jl = joined_as D laws.domain k.orders.0 (size_of k.model w) w ls rl p.0 (p.1 + o) ml d fl al sl in
        let jr = joined_as D laws.domain k.orders.1 (size_of k.model w) w rs rr p.0 (p.1 + o) mr d fr ar sr in
        record {
          datum = d;
          on_left = record {
            inside = zl.inside;
            fits = zl.fits;
            allowed = jl.allowed;
            stands = bytes_moved k.orders.0 ml (bytes_as nl) (size_of k.model w) w (lacks lm lv) p.0 (p.1 + o) 0 o d
                (λ y l. ap (λ z. ml p.0 z) (further_it p.1 o y)) jl.stands;
          };
          on_right = record {
            inside = zr.inside;
            fits = zr.fits;
            allowed = jr.allowed;
            stands = bytes_moved k.orders.1 mr (bytes_as nr) (size_of k.model w) w (lacks rm rv) p.0 (p.1 + o) 0 o d
                (λ y l. ap (λ z. mr p.0 z) (further_it p.1 o y)) jr.stands;
          };
        }
      where
        further_it : (a b c : ℕ) → a + (b + c) ≡ a + b + c
        further_it a b c = omega arith

    by_tests : (fl fr : Option (List Segment)) (shared : Bool)
        → (shared || (have_same_form fl fr || are_one D laws.domain lv rv)) ≡ true
        → (shared ≡ true → OnePiece o c)
        → ((f : List Segment) → fl ≡ Some f → IsSure D laws k m i left w (p.0, p.1 + o) f lv lm)
        → ((f : List Segment) → fr ≡ Some f → IsSure D laws k m i right w (p.0, p.1 + o) f rv rm) → OnePiece o c
    by_tests fl fr shared e sh x y =
        ⊎_elim sh
        (λ r. ⊎_elim (λ f. forms_by fl fr f x y) (λ v. of_values v)
        (or_cases (have_same_form fl fr) (are_one D laws.domain lv rv) r))
        (or_cases shared (have_same_form fl fr || are_one D laws.domain lv rv) e)

  -- ---- a leaf

  exact_source : (s : Side) (w : Scalar) (q : Spot) (x : Cell N) (c : Option (Cell N)) → c ≡ Some x → (b : Bool)
      → (nat_eq x.offset q.1 && is_same_scalar x.what w) ≡ true
      → whole_source D x ≡ option_map_or (whole_source D) (exact_cell D w q.1 c) (fragment_source D)
  exact_source s w q x c e b t =
      sym (ap (λ z. option_map_or (whole_source D) (exact_cell D w q.1 z) (fragment_source D)) e
      ∙ ap (λ z. option_map_or (whole_source D) (cond z (Some x) None) (fragment_source D)) t)

  -- a leaf's cell has its offset and type
  one_exact : (s : Side) (w : Scalar) (o : ℕ) (x : Cell N) → cell_at k.model (cells_of s) p.0
      (p.1 + o) k.cells ≡ Some x
      → (ps : List Spot) → IsOne p ps → are_exact D k (cells_of s) o w ps ≡ true
      → (nat_eq x.offset (p.1 + o) && is_same_scalar x.what w) ≡ true
  one_exact s w o x at _ (here qs) e =
      by_cell (cell_at k.model (cells_of s) p.0 (p.1 + o) k.cells) at
      (and_parts _ (are_exact D k (cells_of s) o w qs) e).0
    where
      by_test : (t : Bool) → is_some (cond t (Some x) None) ≡ true → t ≡ true
      by_test true f = refl
      by_test false f = absurd (let z : false ≡ true = f in cc)

      by_cell : (c : Option (Cell N)) → c ≡ Some x
          → is_some (exact_cell D w (p.1 + o) c) ≡ true
          → (nat_eq x.offset (p.1 + o) && is_same_scalar x.what w) ≡ true
      by_cell c f g =
          by_test (nat_eq x.offset (p.1 + o) && is_same_scalar x.what w)
          (sym (ap (λ z. is_some (exact_cell D w (p.1 + o) z)) f) ∙ g)
  one_exact s w o x at _ (there q qs one) e =
      one_exact s w o x at qs one (and_parts _ (are_exact D k (cells_of s) o w qs) e).1

  pub one_leaf : (o : ℕ) (w : Scalar) → piece_of D laws k to from leaves n left o ≡ leaf w
      → piece_of D laws k to from leaves n right o ≡ leaf w → PieceSays D laws k to from leaves n left nl o (leaf w)
      → PieceSays D laws k to from leaves n right nr o (leaf w)
      → (item_of_both D laws k to from leaves n o (leaf w)).same ≡ true → OnePiece o (leaf w)
  one_leaf o w el er zl zr same =
      let xl = leaf_exact D laws left k m i p n bl to from leaves ol apart o w el in
      let xr = leaf_exact D laws right k m i p n br to from leaves or apart o w er in
      let ls = leaf_sources D k cell_side.Left w (moved_spots o from.left) in
      let rs = leaf_sources D k cell_side.Right w (moved_spots o from.right) in
      by_tests o (leaf w) zl zr (form_of_reads ls) (form_of_reads rs)
      (are_shared_whole D k cell_side.Left w (moved_spots o from.left)
      && are_shared_whole D k cell_side.Right w (moved_spots o from.right)) same
      (λ sh.
      let r = and_parts (are_shared_whole D k cell_side.Left w (moved_spots o from.left))
      (are_shared_whole D k cell_side.Right w (moved_spots o from.right)) sh in
      let b = both_at D laws k m i w p.0 (p.1 + o) (shared_there D laws k m i left w o p from.left ol r.0)
      (shared_there D laws k m i right w o p from.right or r.1) in
      let tl = one_exact left w o b.cell b.at_left from.left ol xl.1 in
      let tr = one_exact right w o b.cell b.at_right from.right or xr.1 in
      let q = and_parts (nat_eq b.cell.offset (p.1 + o)) (is_same_scalar b.cell.what w) tl in
      let begins = eqb-true b.cell.offset (p.1 + o) q.0 in
      let what = scalar_same b.cell.what w q.1 in
      of_cell o (leaf w) zl zr b.says.datum
      (option_map_or (whole_source D) (exact_cell D w (p.1 + o) (cell_at k.model cell_side.Left p.0 (p.1 + o) k.cells))
      (fragment_source D))
      (option_map_or (whole_source D) (exact_cell D w (p.1 + o) (cell_at k.model cell_side.Right p.0
      (p.1 + o) k.cells))
      (fragment_source D))
      (leaf_fit D laws left k m i p n bl w o from.left xl.1) (leaf_fit D laws right k m i p n br w o from.right xr.1)
      (leaf_among D laws k m i left p n o w from.left ol) (leaf_among D laws k m i right p n o w from.right or)
      (subst (λ r. SourceAs D laws.domain k.orders.0 (size_of k.model w) w r p.0 (p.1 + o)
      (broken k.model m.left p.0 p.1 n) b.says.datum)
      (exact_source left w (p.0, p.1 + o) b.cell (cell_at k.model cell_side.Left p.0
      (p.1 + o) k.cells) b.at_left true tl)
      (whole_as D laws k m i left p n o w b.cell b.at_left begins what zl.inside b.says))
      (subst (λ r. SourceAs D laws.domain k.orders.1 (size_of k.model w) w r p.0 (p.1 + o)
      (broken k.model m.right p.0 p.1 n) b.says.datum)
      (exact_source right w (p.0, p.1 + o) b.cell (cell_at k.model cell_side.Right p.0 (p.1 + o) k.cells) b.at_right
      true tr)
      (whole_as D laws k m i right p n o w b.cell b.at_right begins what zr.inside b.says)))
      (λ f e. leaf_sure D laws k m i left p o w from.left ol f e)
      (λ f e. leaf_sure D laws k m i right p o w from.right or f e)

  -- ---- a byte

  pub one_byte : (o : ℕ) → o < n → PieceSays D laws k to from leaves n left nl o byte
      → PieceSays D laws k to from leaves n right nr o byte
      → (item_of_both D laws k to from leaves n o byte).same ≡ true → OnePiece o byte
  one_byte o l zl zr same =
      let w : Scalar = Int U8 in
      let ls = byte_sources D k cell_side.Left (moved_spots o from.left) in
      let rs = byte_sources D k cell_side.Right (moved_spots o from.right) in
      by_tests o byte zl zr (form_of_reads ls) (form_of_reads rs)
      (are_shared_whole D k cell_side.Left (Int U8) (moved_spots o from.left)
      && are_shared_whole D k cell_side.Right (Int U8) (moved_spots o from.right)) same
      (λ sh.
      let r = and_parts (are_shared_whole D k cell_side.Left (Int U8) (moved_spots o from.left))
      (are_shared_whole D k cell_side.Right (Int U8) (moved_spots o from.right)) sh in
      let b = both_at D laws k m i (Int U8) p.0 (p.1 + o)
      (shared_there D laws k m i left (Int U8) o p from.left ol r.0)
      (shared_there D laws k m i right (Int U8) o p from.right or r.1) in
      of_cell o byte zl zr (as_byte b.says.datum) _ _
      (byte_fit D laws left k m i p n bl o from.left) (byte_fit D laws right k m i p n br o from.right)
      (byte_among D laws k m i left p n o from.left ol) (byte_among D laws k m i right p n o from.right or)
      (byte_as D laws k m i left p n o b.cell b.at_left b.exact zl.inside b.says)
      (byte_as D laws k m i right p n o b.cell b.at_right b.exact zr.inside b.says))
      (λ f e. bytes_sure D laws k m i left p o from.left ol f e)
      (λ f e. bytes_sure D laws k m i right p o from.right or f e)
