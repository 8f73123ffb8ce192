-- A run of bytes at one place is one write of all of them, where no cell lies partly in them.
use Rattle.std.proofs.Common.{◌≡◌, ℕ, zero, suc, ◌+◌, ◌^◌, ◌<◌, ◌≤◌, Bool, true, false, ◌&&◌, ◌||◌, cond}
use Rattle.ep_transfers.proofs.Loosened.{same_itself}
use Rattle.std.proofs.Common.{if◌then◌else◌, [], ◌∷◌, Option, Some, None, refl, sym, ap, ◌∙◌, arith}
use Rattle.ep_int.specs.declared.types.IntType.TheVariants.{U8}
use Rattle.ep_int.specs.declared.types.Scalar.TheVariants.{Int}
use Rattle.ep_bitslice.specs.declared.cell.Side.{Side as CellSide}
use Rattle.ep_bitslice.specs.declared.cell.Side.TheVariants as cell_side
use Rattle.ep_domain.specs.Domain.{Ops}
use Rattle.ep_cells.specs.declared.cell.Value.{Value}
use Rattle.ep_cells.specs.Forms.{form_after, have_same_form, common_form}
use Rattle.ep_cells.specs.Write.{fate_by_write}
use Rattle.ep_cells.specs.Look.{is_some_partly_in}
use Rattle.ep_cells.specs.States.{Known, IsOfSort, HasRisingBlocks, AreCells}
use Rattle.ep_cell_rows.proofs.Same.{segments_itself}
use Rattle.ep_cells.proofs.Places.{at}
use Rattle.ep_cell_ranges.specs.Ranges.{Form, Reform, replaced, form_by_replace}
use Rattle.ep_cell_ranges.specs.Spots.{Spot}
use Rattle.ep_reads.specs.SplitLaws.{SplitLaws}
use Rattle.ep_cell_ranges.specs.Follow.{FormFits}
use Rattle.ep_cell_ranges.specs.Laws.{MoreSplitLaws, ReplaceLaws}
use Rattle.ep_cell_ranges.proofs.Cut.{none_by_cut}
use Rattle.ep_core.specs.Runs.{left, right}
use Rattle.ep_equalities.specs.declared.pair.Mode.{Mode}
use Rattle.ep_equalities.specs.declared.pair.Mode.TheVariants.{Both, Left, Right}
use Rattle.ep_transfers.specs.Places.{Places, moved_spots, moved_places}
use Rattle.ep_transfers.specs.Writes.{Item, Underway, underway, formed, write_side, write_same, write_shared}
use Rattle.ep_transfers.specs.Writes.{write_shared_each, value_of_same, write_both, write, write_run}
use Rattle.ep_cell_ranges.specs.Spots.{all_spots}
use Rattle.ep_evaluation.specs.Given.{pair}
use Rattle.ep_transfer_writes.specs.Waiting.{ItemFits, CanStand}
use Rattle.ep_transfer_writes.specs.Running.{Agree, alike, none_left, none_right, RunsAt, run_cell, copies, range_of}
use Rattle.ep_transfer_writes.specs.Running.{range_written}
use Rattle.ep_transfer_writes.proofs.Ranged.{cell, cells, many, reform, many_is, reform_is}

-- ---- forms that agree

common_itself : (f : Form) → common_form f f ≡ f
common_itself None = refl
common_itself (Some ss) = ap (λ t. cond t (Some ss) None) (segments_itself ss)

common_none : (f : Form) → common_form f None ≡ None
common_none None = refl
common_none (Some ss) = refl

pub common_after : (g : Reform) → g None ≡ None → (f h : Form) → Agree f h → common_form (g f) (g h) ≡ g
    (common_form f h)
common_after g e f h (alike i) =
    ap (λ z. common_form (g f) (g z)) (sym i) ∙ common_itself (g f)
    ∙ ap g (sym (common_itself f) ∙ ap (common_form f) i)
common_after g e f h (none_left i) =
    ap (λ z. common_form (g z) (g h)) i ∙ ap (λ z. common_form z (g h)) e ∙ sym e
    ∙ ap g (sym (ap (λ z. common_form z h) i))
common_after g e f h (none_right i) =
    ap (λ z. common_form (g f) (g z)) i ∙ ap (common_form (g f)) e ∙ common_none (g f) ∙ sym e
    ∙ ap g (sym (common_none f) ∙ sym (ap (common_form f) i))

agree_after : (g : Reform) → g None ≡ None → (f h : Form) → Agree f h → Agree (g f) (g h)
agree_after g e f h (alike i) = alike (ap g i)
agree_after g e f h (none_left i) = none_left (ap g i ∙ e)
agree_after g e f h (none_right i) = none_right (ap g i ∙ e)

-- ---- places

one_further : (q i : ℕ) → q + (i + 1) ≡ q + i + 1
one_further q i = omega arith

module _ {N : Type 0} (D : Ops N) (split : SplitLaws D) (more : MoreSplitLaws D) (law : ReplaceLaws D) where
  no_form : (s : CellSide) (b a : ℕ) (k : Known N) → form_by_replace D (at s b a 1) k None ≡ None
  no_form s b a k = ap (form_after (fate_by_write (at s b a 1))) (none_by_cut D split more s b a 1 k)

  -- ---- one side

  left_run : (to : Bool) (ps : Places) (q : Spot) → ps.left ≡ q ∷ [] → (n i : ℕ) (u : Underway N)
      → (sort : IsOfSort (Int U8) u.item.pair.left.value) → (rising : HasRisingBlocks u.item.pair.left.value)
      → write_run D Left to (Int U8) ps i n u
      ≡ underway
      (many cell_side.Left q.0 u.item.pair.left.value u.item.left_maybe sort rising D split more law u.known
      u.item.pair.left.form (q.1 + i) n)
      (formed (reform cell_side.Left q.0 u.item.pair.left.value u.item.left_maybe sort rising D split more law u.known
      u.item.pair.left.form (q.1 + i) n) u.item)
  left_run to ps q e zero i u sort rising = refl
  left_run to ps q e (suc n) i u sort rising =
      let v = u.item.pair.left.value in
      let m = u.item.left_maybe in
      let f = u.item.pair.left.form in
      let p = at cell_side.Left q.0 (q.1 + i) 1 in
      let w = write D Left to (Int U8) (moved_places i ps) u in
      let z : Underway N = underway (replaced D p (cell cell_side.Left q.0 v m f (q.1 + i) ∷ []) u.known)
      (formed (form_by_replace D p u.known) u.item) in
      let first : w ≡ z = ap (λ qs. write_side D left (Int U8) (moved_spots i qs) u) e in
      ap (write_run D Left to (Int U8) ps (i + 1) n) first
      ∙ left_run to ps q e n (i + 1) z sort rising
      ∙ ap (λ a. underway
      (many cell_side.Left q.0 v m sort rising D split more law z.known z.item.pair.left.form a n)
      (formed (reform cell_side.Left q.0 v m sort rising D split more law z.known z.item.pair.left.form a n) z.item))
      (one_further q.1 i)

  right_run : (to : Bool) (ps : Places) (q : Spot) → ps.right ≡ q ∷ [] → (n i : ℕ) (u : Underway N)
      → (sort : IsOfSort (Int U8) u.item.pair.right.value) → (rising : HasRisingBlocks u.item.pair.right.value)
      → write_run D Right to (Int U8) ps i n u
      ≡ underway
      (many cell_side.Right q.0 u.item.pair.right.value u.item.right_maybe sort rising D split more law u.known
      u.item.pair.right.form (q.1 + i) n)
      (formed (reform cell_side.Right q.0 u.item.pair.right.value u.item.right_maybe sort rising D split more law
      u.known u.item.pair.right.form (q.1 + i) n) u.item)
  right_run to ps q e zero i u sort rising = refl
  right_run to ps q e (suc n) i u sort rising =
      let v = u.item.pair.right.value in
      let m = u.item.right_maybe in
      let f = u.item.pair.right.form in
      let p = at cell_side.Right q.0 (q.1 + i) 1 in
      let w = write D Right to (Int U8) (moved_places i ps) u in
      let z : Underway N = underway (replaced D p (cell cell_side.Right q.0 v m f (q.1 + i) ∷ []) u.known)
      (formed (form_by_replace D p u.known) u.item) in
      let first : w ≡ z = ap (λ qs. write_side D right (Int U8) (moved_spots i qs) u) e in
      ap (write_run D Right to (Int U8) ps (i + 1) n) first
      ∙ right_run to ps q e n (i + 1) z sort rising
      ∙ ap (λ a. underway
      (many cell_side.Right q.0 v m sort rising D split more law z.known z.item.pair.right.form a n)
      (formed
      (reform cell_side.Right q.0 v m sort rising D split more law z.known z.item.pair.right.form a n) z.item))
      (one_further q.1 i)

  -- ---- both together

  shared_first : (to : Bool) (ps : Places) (q : Spot) (u : Underway N) (i : ℕ) → ps.left ≡ q ∷ [] → ps.right ≡ q ∷ []
      → (to && u.item.same) ≡ true
      → write D Both to (Int U8) (moved_places i ps) u ≡ write_shared D (Int U8) (q.0, q.1 + i) u
  shared_first to ps q u i el er es =
      let r : Spot = (q.0, q.1 + i) in
      ap (λ t. write_both D t (Int U8) (moved_places i ps) u) es
      ∙ ap (λ qs. write_same D (Int U8) (moved_spots i qs) (moved_spots i ps.right) u) el
      ∙ ap (λ qs. write_same D (Int U8) (r ∷ []) (moved_spots i qs) u) er
      ∙ ap (λ t. if t then write_shared D (Int U8) r u else write_shared_each D (Int U8) (all_spots (r ∷ [])
      (r ∷ [])) u)
      (same_itself r)

  abbrev both_value : Item N → Option (Value N)
  both_value x = value_of_same D x.pair.left.value x.pair.right.value

  abbrev both_form : Item N → Form
  both_form x = common_form x.pair.left.form x.pair.right.form

  shared_run : (to : Bool) (ps : Places) (q : Spot) → ps.left ≡ q ∷ [] → ps.right ≡ q ∷ [] → (n i : ℕ)
      (u : Underway N)
      → (to && u.item.same) ≡ true → Agree u.item.pair.left.form u.item.pair.right.form
      → (sort : IsOfSort (Int U8) (both_value u.item)) → (rising : HasRisingBlocks (both_value u.item))
      → write_run D Both to (Int U8) ps i n u
      ≡ underway
      (many cell_side.Shared q.0 (both_value u.item)
      (u.item.left_maybe || u.item.right_maybe) sort rising D split more
      law u.known (both_form u.item) (q.1 + i) n)
      (formed (reform cell_side.Shared q.0 (both_value u.item) (u.item.left_maybe || u.item.right_maybe) sort rising D
      split more law u.known (both_form u.item) (q.1 + i) n) u.item)
  shared_run to ps q el er zero i u es agree sort rising = refl
  shared_run to ps q el er (suc n) i u es agree sort rising =
      let v = both_value u.item in
      let m = u.item.left_maybe || u.item.right_maybe in
      let f = both_form u.item in
      let p = at cell_side.Shared q.0 (q.1 + i) 1 in
      let g = form_by_replace D p u.known in
      let z : Underway N = underway (replaced D p (cell cell_side.Shared q.0 v m f (q.1 + i) ∷ []) u.known)
      (formed g u.item) in
      let none = no_form cell_side.Shared q.0 (q.1 + i) u.known in
      ap (write_run D Both to (Int U8) ps (i + 1) n) (shared_first to ps q u i el er es)
      ∙ shared_run to ps q el er n (i + 1) z es
      (agree_after g none u.item.pair.left.form u.item.pair.right.form agree) sort rising
      ∙ ap (λ a. underway (many cell_side.Shared q.0 v m sort rising D split more law z.known (both_form z.item) a n)
      (formed (reform cell_side.Shared q.0 v m sort rising D split more law z.known (both_form z.item) a n) z.item))
      (one_further q.1 i)
      ∙ ap (λ h. underway (many cell_side.Shared q.0 v m sort rising D split more law z.known h (q.1 + i + 1) n)
      (formed (reform cell_side.Shared q.0 v m sort rising D split more law z.known h (q.1 + i + 1) n) z.item))
      (common_after g none u.item.pair.left.form u.item.pair.right.form agree)

  -- ---- the law

  formed_same : (r t : Reform) (i : Item N) → r i.pair.left.form ≡ t i.pair.left.form
      → r i.pair.right.form ≡ t i.pair.right.form → formed r i ≡ formed t i
  formed_same r t i e h =
      ap (λ f. record i {
        pair = pair (record { value = i.pair.left.value; form = f })
            (record { value = i.pair.right.value; form = r i.pair.right.form }) i.pair.equal;
      }) e
      ∙ ap (λ f. record i {
        pair = pair (record { value = i.pair.left.value; form = t i.pair.left.form })
            (record { value = i.pair.right.value; form = f }) i.pair.equal;
      }) h

  cells_are : (s : CellSide) (b : ℕ) (v : Option (Value N)) (m : Bool) (f : Form) (n a : ℕ)
      → cells s b v m f a n ≡ copies (cell s b v m f a) n
  cells_are s b v m f zero a = refl
  cells_are s b v m f (suc n) a = ap (λ xs. cell s b v m f a ∷ xs) (cells_are s b v m f n (a + 1))

  plus_zero : (x : ℕ) → x + 0 ≡ x
  plus_zero x = omega arith

  -- many writes from the first place on
  pub all_at_once : (s : CellSide) (q : Spot) (v : Option (Value N)) (m : Bool) (f : Form) (n : ℕ) (u w : Underway N)
      → (sort : IsOfSort (Int U8) v) → (rising : HasRisingBlocks v) → AreCells u.known.model u.known.cells
      → is_some_partly_in u.known.model (at s q.0 q.1 (suc n)) u.known.cells ≡ false
      → FormFits u.known.cells (Int U8) f → q.1 + suc n ≤ 2 ^ 32
      → w ≡ underway (many s q.0 v m sort rising D split more law u.known f (q.1 + 0) (suc n))
      (formed (reform s q.0 v m sort rising D split more law u.known f (q.1 + 0) (suc n)) u.item)
      → w ≡ underway (replaced D (at s q.0 q.1 (suc n)) (copies (cell s q.0 v m f q.1) (suc n)) u.known)
      (formed (form_by_replace D (at s q.0 q.1 (suc n)) u.known) u.item)
  all_at_once s q v m f n u w sort rising c none fits room e =
      let k = u.known in
      let p = at s q.0 q.1 (suc n) in
      let is = reform_is s q.0 v m sort rising D split more law n k f q.1 c none fits room in
      e
      ∙ ap (λ a. underway (many s q.0 v m sort rising D split more law k f a (suc n))
      (formed (reform s q.0 v m sort rising D split more law k f a (suc n)) u.item)) (plus_zero q.1)
      ∙ ap (λ z. underway z (formed (reform s q.0 v m sort rising D split more law k f q.1 (suc n)) u.item))
      (many_is s q.0 v m sort rising D split more law n k f q.1 c none fits room
      ∙ ap (λ xs. replaced D p xs k) (cells_are s q.0 v m f (suc n) q.1))
      ∙ ap (underway (replaced D p (copies (cell s q.0 v m f q.1) (suc n)) k))
      (formed_same (reform s q.0 v m sort rising D split more law k f q.1 (suc n)) (form_by_replace D p k) u.item
      (is u.item.pair.left.form) (is u.item.pair.right.form))

  common_by : (P : Form → Type 0) (t : Bool) (f : Form) → P f → P None → P (cond t f None)
  common_by P true f h i = h
  common_by P false f h i = i

  pub run_is : (mode : Mode) (to : Bool) (ps : Places) (s : CellSide) (q : Spot) (n : ℕ) (u : Underway N)
      → RunsAt mode to ps u.item (s, q) → IsOfSort (Int U8) (run_cell D s u.item q).value
      → HasRisingBlocks (run_cell D s u.item q).value → AreCells u.known.model u.known.cells
      → is_some_partly_in u.known.model (at s q.0 q.1 (suc n)) u.known.cells ≡ false
      → ItemFits u.known (Int U8) u.item → q.1 + suc n ≤ 2 ^ 32
      → write_run D mode to (Int U8) ps 0 (suc n) u
      ≡ underway (replaced D (at s q.0 q.1 (suc n)) (copies (run_cell D s u.item q) (suc n)) u.known)
      (formed (form_by_replace D (at s q.0 q.1 (suc n)) u.known) u.item)
  run_is Left to ps cell_side.Left q n u h sort rising c none fits room =
      all_at_once cell_side.Left q u.item.pair.left.value u.item.left_maybe u.item.pair.left.form n u _ sort rising c
      none fits.left.form room (left_run to ps q h.1 (suc n) 0 u sort rising)
  run_is Left to ps cell_side.Right q n u h sort rising c none fits room =
      absurd (let e : cell_side.Right ≡ cell_side.Left = h.0 in cc)
  run_is Left to ps cell_side.Shared q n u h sort rising c none fits room =
      absurd (let e : cell_side.Shared ≡ cell_side.Left = h.0 in cc)
  run_is Right to ps cell_side.Right q n u h sort rising c none fits room =
      all_at_once cell_side.Right q u.item.pair.right.value u.item.right_maybe u.item.pair.right.form n u _ sort rising c
      none fits.right.form room (right_run to ps q h.1 (suc n) 0 u sort rising)
  run_is Right to ps cell_side.Left q n u h sort rising c none fits room =
      absurd (let e : cell_side.Left ≡ cell_side.Right = h.0 in cc)
  run_is Right to ps cell_side.Shared q n u h sort rising c none fits room =
      absurd (let e : cell_side.Shared ≡ cell_side.Right = h.0 in cc)
  run_is Both to ps cell_side.Shared q n u h sort rising c none fits room =
      let l = u.item.pair.left.form in
      let r = u.item.pair.right.form in
      all_at_once cell_side.Shared q (both_value u.item) (u.item.left_maybe || u.item.right_maybe)
      (both_form u.item) n u
      _ sort rising c none (common_by (FormFits u.known.cells (Int U8)) (have_same_form l r) l fits.left.form tt) room
      (shared_run to ps q h.1 h.2 (suc n) 0 u h.3 h.4 sort rising)
  run_is Both to ps cell_side.Left q n u h sort rising c none fits room =
      absurd (let e : cell_side.Left ≡ cell_side.Shared = h.0 in cc)
  run_is Both to ps cell_side.Right q n u h sort rising c none fits room =
      absurd (let e : cell_side.Right ≡ cell_side.Shared = h.0 in cc)

  range_is : (s : CellSide) (q : Spot) (n : ℕ) (i : Item N) → range_of (run_cell D s i q) n ≡ at s q.0 q.1 n
  range_is cell_side.Left q n i = refl
  range_is cell_side.Right q n i = refl
  range_is cell_side.Shared q n i = refl

  pub run_at_once : (mode : Mode) (to : Bool) (ps : Places) (s : CellSide) (q : Spot) (n : ℕ) (u : Underway N) → 0 < n
      → RunsAt mode to ps u.item (s, q) → CanStand u.known (run_cell D s u.item q)
      → AreCells u.known.model u.known.cells
      → is_some_partly_in u.known.model (at s q.0 q.1 n) u.known.cells ≡ false
      → ItemFits u.known (Int U8) u.item → q.1 + n ≤ 2 ^ 32
      → write_run D mode to (Int U8) ps 0 n u ≡ range_written D (run_cell D s u.item q) n u
  run_at_once mode to ps s q zero u l h c a none fits room = absurd (omega (arith, l))
  run_at_once mode to ps s q (suc n) u l h c a none fits room =
      run_is mode to ps s q n u h (byte_sort s c) c.cell.rising a none fits room
      ∙ ap (λ p. underway (replaced D p (copies (run_cell D s u.item q) (suc n)) u.known)
      (formed (form_by_replace D p u.known) u.item)) (sym (range_is s q (suc n) u.item))
    where
      byte_sort : (s : CellSide) → CanStand u.known (run_cell D s u.item q)
          → IsOfSort (Int U8) (run_cell D s u.item q).value
      byte_sort cell_side.Left c = c.cell.fits.sort
      byte_sort cell_side.Right c = c.cell.fits.sort
      byte_sort cell_side.Shared c = c.cell.fits.sort

  pub run_byte : (s : CellSide) (i : Item N) (q : Spot) → (run_cell D s i q).what ≡ Int U8
  run_byte cell_side.Left i q = refl
  run_byte cell_side.Right i q = refl
  run_byte cell_side.Shared i q = refl

  pub run_offset : (s : CellSide) (i : Item N) (q : Spot) → (run_cell D s i q).offset ≡ q.1
  run_offset cell_side.Left i q = refl
  run_offset cell_side.Right i q = refl
  run_offset cell_side.Shared i q = refl
