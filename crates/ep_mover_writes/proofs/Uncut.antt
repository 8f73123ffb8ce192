-- Where a number of a block is written, no cell lies partly in its place, and nothing is split.
use Rattle.std.proofs.Common.{◌≡◌, ℕ, zero, suc, ◌+◌, ◌*◌, ◌<◌, ◌≤◌, Bool, true, false, ◌&&◌, not, cond, nat_eq, nat_lt}
use Rattle.std.proofs.Common.{nat_le, List, [], ◌∷◌, map, Option, Some, None, refl, sym, ap, ◌∙◌, subst, arith}
use Rattle.std.proofs.lemmas.Bool.{and_parts, and_from, and_right, eqb-true, ltb-true, le-leb}
use Rattle.std.proofs.Math.Nat.{mul-le-mul_right, suc-mul}
use Rattle.ep_int.specs.declared.types.Model.{Model}
use Rattle.ep_int.specs.Types.{size_of}
use Rattle.ep_bitslice.specs.declared.cell.Side.{Side}
use Rattle.ep_bitslice.specs.declared.cell.Side.TheVariants.{Left, Right, Shared}
use Rattle.ep_domain.specs.Domain.{Ops}
use Rattle.ep_cells.specs.declared.cell.Cell.{Cell}
use Rattle.ep_cells.specs.declared.place.ByteRange.{ByteRange}
use Rattle.ep_cells.specs.Cells.{IsIn, place_of, touches, meets, share_memory, encloses, is_partly_in, put, each_becomes}
use Rattle.ep_cells.specs.Forms.{reformed}
use Rattle.ep_cells.specs.States.{Known}
use Rattle.ep_cells.specs.Write.{left_by_write, fate_by_write}
use Rattle.ep_cells.proofs.Basics.{filter-none}
use Rattle.ep_reads.specs.Split.{split_all}
use Rattle.ep_cell_ranges.specs.Ranges.{Form, on_cell_side, with_cells, with_form, form_by_splits, form_by_split}
use Rattle.ep_cell_ranges.specs.Ranges.{split_at, cut, form_by_cut, overwritten, replaced, form_by_replace}
use Rattle.ep_core.specs.Program.{Program}
use Rattle.ep_mover_cells.specs.Known.{unit_in, LieInOne, LiesInOne}

-- ---- numbers of one block

-- two numbers that have a byte in common are one
near_not : (i j w : ℕ) → i < j → j * w < i * w + w → ⊥
near_not i j w l h =
    let e : suc i * w ≡ i * w + w = suc-mul i w in
    let m : suc i * w ≤ j * w = mul-le-mul_right w (omega (arith, l)) in
    omega (arith, e, m, h)

same_index : (i j w : ℕ) → i * w < j * w + w → j * w < i * w + w → i ≡ j
same_index i j w h k = by (nat_lt i j) (nat_lt j i) refl refl
  where
    by : (a b : Bool) → nat_lt i j ≡ a → nat_lt j i ≡ b → i ≡ j
    by true b e f = absurd (near_not i j w (ltb-true i j e) k)
    by false true e f = absurd (near_not j i w (ltb-true j i f) h)
    by false false e f = grind (arith, e, f)

module _ (p : Program) (d : Model) (b q w index : ℕ) (unit : unit_in p b ≡ Some w) (at : index * w ≡ q) where
  abbrev pub place_on : Side → ByteRange
  place_on s = record { side = s; block = b; offset = q; bytes = w }

  module _ {N : Type 0} (x : Cell N) (whole : LiesInOne p d x) where
    -- what touches the number lies in it
    pub inside : (s : Side) → touches (place_on s) (place_of d x) ≡ true
        → (q ≤ x.offset) × (x.offset + size_of d x.what ≤ q + w)
    inside s h =
        let e = and_parts (nat_eq b x.block)
        (nat_lt q (x.offset + size_of d x.what) && nat_lt x.offset (q + w)) h in
        let l = and_parts (nat_lt q (x.offset + size_of d x.what)) (nat_lt x.offset (q + w)) e.1 in
        let low = ltb-true q (x.offset + size_of d x.what) l.0 in
        let high = ltb-true x.offset (q + w) l.1 in
        let u = whole w (ap (unit_in p) (sym (eqb-true b x.block e.0)) ∙ unit) in
        let one : u.index ≡ index
        = same_index u.index index w (omega (arith, u.low, high, at)) (omega (arith, u.high, low, at)) in
        let k : u.index * w ≡ q = ap (λ i. i * w) one ∙ at in
        (omega (arith, k, u.low), omega (arith, k, u.high))

    pub uncut : (s : Side) → is_partly_in (place_on s) (place_of d x) ≡ false
    uncut s = by (touches (place_on s) (place_of d x)) refl
      where
        by : (t : Bool) → touches (place_on s) (place_of d x) ≡ t
            → is_partly_in (place_on s) (place_of d x) ≡ false
        by false e =
            ap (λ t. (share_memory s x.side && t) && not (encloses (place_on s) (place_of d x))) e
            ∙ none (share_memory s x.side) (not (encloses (place_on s) (place_of d x)))
          where
            none : (a c : Bool) → ((a && false) && c) ≡ false
            none true c = refl
            none false c = refl
        by true e =
            let i = inside s e in
            let f : encloses (place_on s) (place_of d x) ≡ true
            = and_from (nat_le q x.offset) (nat_le (x.offset + size_of d x.what) (q + w))
            (le-leb q x.offset i.0) (le-leb (x.offset + size_of d x.what) (q + w) i.1) in
            ap (λ t. meets (place_on s) (place_of d x) && not t) f
            ∙ and_right (meets (place_on s) (place_of d x)) false refl

  -- ---- so nothing is split

  module _ {N : Type 0} (D : Ops N) (k : Known N) (model : k.model ≡ d)
      (whole : (x : Cell N) → IsIn x k.cells → LiesInOne p d x) where
    none_cut : (s : Side) (x : Cell N) → IsIn x k.cells → is_partly_in (place_on s) (place_of k.model x) ≡ false
    none_cut s x i =
        subst (λ e. is_partly_in (place_on s) (place_of e x) ≡ false) (sym model) (uncut x (whole x i) s)

    split_same : (s : Side) → split_at D (place_on s) k ≡ k
    split_same s =
        ap (λ xs. with_cells k (split_all D k s xs k.cells))
        (filter-none (λ x. is_partly_in (place_on s) (place_of k.model x)) k.cells (none_cut s))

    form_same : (s : Side) (f : Form) → form_by_split D (place_on s) k f ≡ f
    form_same s f =
        ap (λ xs. form_by_splits D k s xs k.cells f)
        (filter-none (λ x. is_partly_in (place_on s) (place_of k.model x)) k.cells (none_cut s))

    cut_same : (s : Side) → cut D (place_on s) k ≡ k
    cut_same Left = split_same Left
    cut_same Right = split_same Right
    cut_same Shared = ap (split_at D (place_on Right)) (split_same Left) ∙ split_same Right

    pub form_cut_same : (s : Side) (f : Form) → form_by_cut D (place_on s) k f ≡ f
    form_cut_same Left f = form_same Left f
    form_cut_same Right f = form_same Right f
    form_cut_same Shared f =
        ap (λ l. form_by_split D (place_on Right) l (form_by_split D (place_on Left) k f)) (split_same Left)
        ∙ form_same Right (form_by_split D (place_on Left) k f) ∙ form_same Left f

    -- the new cell is put among those that are left
    pub replaced_is : (s : Side) (c : Cell N) → replaced D (place_on s) (c ∷ []) k
        ≡ with_cells k (map (reformed (fate_by_write (place_on s))) (put c
        (each_becomes (left_by_write k.model (place_on s)) k.cells)))
    replaced_is s c =
        ap (λ l. overwritten D (place_on s) (with_form (form_by_cut D (place_on s) k) c ∷ []) l) (cut_same s)
        ∙ ap (λ f. overwritten D (place_on s) (record c { form = f } ∷ []) k) (form_cut_same s c.form)
