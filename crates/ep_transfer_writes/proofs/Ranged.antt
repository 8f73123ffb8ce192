-- A run of writes of one byte each is one write of all bytes, where no cell lies partly in them.
use Rattle.std.proofs.Common.{◌≡◌, ℕ, zero, suc, ◌+◌, ◌^◌, ◌<◌, ◌≤◌, Bool, true, false, ◌&&◌}
use Rattle.ep_transfer_writes.proofs.Copying.{inside_by, miss_by}
use Rattle.std.proofs.Common.{List, [], ◌∷◌, map, Option, None, refl, sym, ap, ◌∙◌, subst, arith}
use Rattle.ep_int.specs.declared.types.Model.{Model}
use Rattle.ep_int.specs.declared.types.IntType.TheVariants.{U8}
use Rattle.ep_int.specs.declared.types.Scalar.TheVariants.{Int}
use Rattle.ep_bitslice.specs.declared.cell.Side.{Side}
use Rattle.ep_domain.specs.Domain.{Ops}
use Rattle.ep_cells.specs.declared.cell.Cell.{Cell}
use Rattle.ep_cells.specs.declared.cell.Value.{Value}
use Rattle.ep_cells.specs.Cells.{share_memory, IsIn, first, later}
use Rattle.ep_cells.specs.Forms.{form_after}
use Rattle.ep_cells.specs.Look.{is_some_partly_in}
use Rattle.ep_cells.specs.Write.{fate_by_write}
use Rattle.ep_cells.specs.States.{Known, IsOfSort, HasRisingBlocks, IsCell, HasForm, EachPair, AreCells}
use Rattle.ep_cell_ranges.specs.Ranges.{Form, Reform, with_form, replaced, form_by_replace}
use Rattle.ep_reads.specs.SplitLaws.{SplitLaws}
use Rattle.ep_cell_ranges.specs.Follow.{FormFits}
use Rattle.ep_cell_ranges.specs.Sound.{AreNew, IsInside, Misses}
use Rattle.ep_cell_ranges.specs.Laws.{MoreSplitLaws, ReplaceLaws}
use Rattle.ep_cell_ranges.proofs.Cut.{none_by_cut}
use Rattle.ep_cells.proofs.Lists.{each_from}
use Rattle.ep_cells.proofs.Places.{at}
use Rattle.ep_transfers.specs.Writes.{lacks, form_unless, new_cell}
use Rattle.ep_transfer_writes.proofs.Standing.{new_stands}
use Rattle.ep_transfer_writes.proofs.Uncut.{no_cut_form}
use Rattle.ep_transfer_writes.proofs.Neighbours.{Fills, through, next_none as none_behind, two_writes}

-- ---- places

one_more : (n : ℕ) → suc n ≡ 1 + n
one_more n = omega arith

module _ {N : Type 0} (s : Side) (b : ℕ) (v : Option (Value N)) (maybe : Bool) where
  -- ---- the new cells

  abbrev pub cell : Form → ℕ → Cell N
  cell f a = new_cell s (b, a) (Int U8) v maybe f

  abbrev pub cells : Form → (from count : ℕ) → List (Cell N)
  cells f a zero = []
  cells f a (suc n) = cell f a ∷ cells f (a + 1) n

  record IsAt (f : Form) (a n : ℕ) (x : Cell N) : Type 0 where
    pub offset : ℕ
    pub low : a ≤ offset
    pub high : offset < a + n
    pub is : x ≡ cell f offset

  of_run : (f : Form) (a n : ℕ) (x : Cell N) → IsIn x (cells f a n) → IsAt f a n x
  of_run f a zero x i = elim i [ ]
  of_run f a (suc n) _ (first _) = record { offset = a; low = omega arith; high = omega arith; is = refl }
  of_run f a (suc n) x (later _ _ i) =
      let r = of_run f (a + 1) n x i in
      record {
        offset = r.offset;
        low = (let l = r.low in omega (arith, l));
        high = (let h = r.high in omega (arith, h));
        is = r.is;
      }

  unless : (G : Form → Form) → G None ≡ None → (t : Bool) (f : Form) → G (form_unless t f) ≡ form_unless t (G f)
  unless G e true f = e
  unless G e false f = refl

  pub formed_cells : (G : Form → Form) → G None ≡ None → (f : Form) (a n : ℕ)
      → map (with_form G) (cells f a n) ≡ cells (G f) a n
  formed_cells G e f a zero = refl
  formed_cells G e f a (suc n) =
      ap (λ g. record (cell f a) { form = g } ∷ map (with_form G) (cells f (a + 1) n)) (unless G e (lacks maybe v) f)
      ∙ ap (λ xs. cell (G f) a ∷ xs) (formed_cells G e f (a + 1) n)

  apart_run : (d : Model) (f : Form) (a n : ℕ) → EachPair (Misses d) (cells f a n)
  apart_run d f a zero = tt
  apart_run d f a (suc n) = (
    each_from (Misses d (cell f a)) (cells f (a + 1) n)
        (λ x i.
        let r = of_run f (a + 1) n x i in
        subst (Misses d (cell f a)) (sym r.is) (miss_by (share_memory s s) b a r.offset (let l = r.low in omega
        (arith, l)))),
    apart_run d f (a + 1) n,
  )

  module _ (sort : IsOfSort (Int U8) v) (rising : HasRisingBlocks v) where
    room_of : (a n q : ℕ) → q < a + n → a + n ≤ 2 ^ 32 → q + 1 ≤ 2 ^ 32
    room_of a n q h i = omega (arith, h, i)

    pub run_new : (k : Known N) (f : Form) (a n : ℕ) → FormFits k.cells (Int U8) f → a + n ≤ 2 ^ 32
        → AreNew k.model (at s b a n) k.cells (cells f a n)
    run_new k f a n h room = record {
      each = λ x i.
          let r = of_run f a n x i in
          subst (λ z. IsCell k.model z) (sym r.is)
          (new_stands k s (b, r.offset) (Int U8) v maybe f sort rising (room_of a n r.offset r.high room) h).cell;
      inside = λ x i.
          let r = of_run f a n x i in
          subst (λ z. IsInside k.model (at s b a n) z) (sym r.is)
          (record { left = λ e. e; right = λ e. e; block = refl; bytes = inside_by a n r.offset r.low r.high });
      apart = apart_run k.model f a n;
      forms = λ x i.
          let r = of_run f a n x i in
          subst (λ z. HasForm k.cells z) (sym r.is)
          (new_stands k s (b, r.offset) (Int U8) v maybe f sort rising (room_of a n r.offset r.high room) h).form;
    }

    module _ (D : Ops N) (split : SplitLaws D) (more : MoreSplitLaws D) (law : ReplaceLaws D) where
      abbrev none : (a n : ℕ) → Known N → Type 0
      none a n k = is_some_partly_in k.model (at s b a n) k.cells ≡ false

      -- ---- the first byte

      abbrev G : Known N → ℕ → Reform
      G k a = form_by_replace D (at s b a 1) k

      abbrev pub first_written : Known N → Form → ℕ → Known N
      first_written k f a = replaced D (at s b a 1) (cell f a ∷ []) k

      fills : (d : Model) (f : Form) (a : ℕ) → Fills d s b a 1 (cell f a)
      fills d f a = record { side = refl; block = refl; offset = refl; bytes = refl }

      -- ---- the first byte and those behind it

      first_room : (a n : ℕ) → a + suc n ≤ 2 ^ 32 → a + 1 ≤ 2 ^ 32
      first_room a n h = omega (arith, h)

      behind_room : (a n : ℕ) → a + suc n ≤ 2 ^ 32 → a + 1 + n ≤ 2 ^ 32
      behind_room a n h = omega (arith, h)

      none_none : (k : Known N) (a : ℕ) → G k a None ≡ None
      none_none k a =
          ap (form_after (fate_by_write (at s b a 1))) (none_by_cut D split more s b a 1 k)

      next_cells : (k : Known N) (f : Form) (a n : ℕ) → AreCells k.model k.cells → FormFits k.cells (Int U8) f
          → a + suc n ≤ 2 ^ 32 → AreCells (first_written k f a).model (first_written k f a).cells
      next_cells k f a n c h room =
          subst (λ d. AreCells d (first_written k f a).cells) (sym (law.model k (at s b a 1) (cell f a ∷ [])))
          (law.cells k (at s b a 1) (cell f a ∷ []) c (run_new k f a 1 h (first_room a n room)))

      next_none : (k : Known N) (f : Form) (a n : ℕ) → AreCells k.model k.cells → none a (suc n) k
          → none (a + 1) n (first_written k f a)
      next_none k f a n c h =
          none_behind D split more law s b a 1 n (suc n) (one_more n) k (cell f a) c h (fills k.model f a)

      next_fits : (k : Known N) (f : Form) (a : ℕ) → AreCells k.model k.cells → FormFits k.cells (Int U8) f
          → FormFits (first_written k f a).cells (Int U8) (G k a f)
      next_fits k f a c h = law.fits k (at s b a 1) (cell f a ∷ []) c (Int U8) f h

      pub step : (k : Known N) (f : Form) (a n : ℕ) → AreCells k.model k.cells → none a (suc n) k
          → FormFits k.cells (Int U8) f → a + suc n ≤ 2 ^ 32
          → replaced D (at s b (a + 1) n) (cells (G k a f) (a + 1) n) (first_written k f a)
          ≡ replaced D (at s b a (suc n)) (cells f a (suc n)) k
      step k f a n c h fits room =
          let behind = formed_cells (G k a) (none_none k a) f (a + 1) n in
          ap (λ xs. replaced D (at s b (a + 1) n) xs (first_written k f a)) (sym behind)
          ∙ two_writes D split more law s b a 1 n (suc n) (one_more n) k (cell f a) (cells f (a + 1) n) c h
          (fills k.model f a) (run_new k f a 1 fits (first_room a n room)) (run_new k f a (suc n) fits room)
          (subst (AreNew (first_written k f a).model (at s b (a + 1) n) (first_written k f a).cells) (sym behind)
          (run_new (first_written k f a) (G k a f) (a + 1) n (next_fits k f a c fits) (behind_room a n room)))

      -- ---- all bytes

      abbrev pub many : Known N → Form → (from count : ℕ) → Known N
      many k f a zero = k
      many k f a (suc n) = many (first_written k f a) (form_by_replace D (at s b a 1) k f) (a + 1) n

      abbrev pub reform : Known N → Form → (from count : ℕ) → Reform
      reform k f a zero h = h
      reform k f a (suc n) h =
          reform (first_written k f a) (form_by_replace D (at s b a 1) k f) (a + 1) n (form_by_replace D
          (at s b a 1) k h)

      -- one write of all of them, and what becomes of a form by it
      pub many_is : (n : ℕ) (k : Known N) (f : Form) (a : ℕ) → AreCells k.model k.cells → none a (suc n) k
          → FormFits k.cells (Int U8) f → a + suc n ≤ 2 ^ 32
          → many k f a (suc n) ≡ replaced D (at s b a (suc n)) (cells f a (suc n)) k
      many_is zero k f a c h fits room = refl
      many_is (suc n) k f a c h fits room =
          many_is n (first_written k f a) (G k a f) (a + 1) (next_cells k f a (suc n) c fits room)
          (next_none k f a (suc n) c h) (next_fits k f a c fits) (behind_room a (suc n) room)
          ∙ step k f a (suc n) c h fits room

      pub reform_is : (n : ℕ) (k : Known N) (f : Form) (a : ℕ) → AreCells k.model k.cells → none a (suc n) k
          → FormFits k.cells (Int U8) f → a + suc n ≤ 2 ^ 32 → (g : Form)
          → reform k f a (suc n) g ≡ form_by_replace D (at s b a (suc n)) k g
      reform_is zero k f a c h fits room g = refl
      reform_is (suc n) k f a c h fits room g =
          reform_is n (first_written k f a) (G k a f) (a + 1) (next_cells k f a (suc n) c fits room)
          (next_none k f a (suc n) c h) (next_fits k f a c fits) (behind_room a (suc n) room) (G k a g)
          ∙ ap (form_after (fate_by_write (at s b (a + 1) (suc n))))
          (no_cut_form D b (a + 1) (suc n) s (first_written k f a) (G k a g) (next_none k f a (suc n) c h))
          ∙ through D split more law s b a 1 (suc n) (suc (suc n)) (one_more (suc n)) k c h g
          ∙ sym (ap (form_after (fate_by_write (at s b a (suc (suc n))))) (no_cut_form D b a (suc (suc n)) s k g h))
