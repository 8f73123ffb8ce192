-- A write of a cell and then of those behind it is one write of all of them, where no cell lies partly in their bytes.
use Rattle.std.proofs.Common.{◌≡◌, ℕ, ◌+◌, ◌<◌, ◌≤◌, Bool, true, false, ◌&&◌, not, nat_eq, nat_lt, nat_le, cond, List}
use Rattle.ep_int.proofs.Basics.{size_positive}
use Rattle.ep_state_ranges.proofs.Row.{off_by}
use Rattle.std.proofs.Common.{[], ◌∷◌, map, ⊎_elim, Option, Some, None, refl, sym, ap, ◌∙◌, subst, arith}
use Rattle.ep_int.specs.declared.types.Model.{Model}
use Rattle.ep_int.specs.declared.types.Scalar.TheVariants.{Pointer}
use Rattle.ep_int.specs.Types.{size_of}
use Rattle.ep_bitslice.specs.declared.cell.Side.{Side}
use Rattle.ep_bitslice.specs.declared.cell.Side.TheVariants.{Left, Right, Shared}
use Rattle.ep_domain.specs.Domain.{Ops}
use Rattle.ep_cells.specs.declared.cell.Cell.{Cell}
use Rattle.ep_cells.specs.Cells.{place_of, share_memory, side_without, with_side, touches, encloses, is_partly_in}
use Rattle.ep_cells.specs.Cells.{each_becomes, IsIn, first, later}
use Rattle.ep_cells.specs.Forms.{form_after, reformed}
use Rattle.ep_cells.specs.Look.{is_some_partly_in}
use Rattle.ep_cells.specs.Write.{left_by_write}
use Rattle.ep_cells.specs.States.{Known, EachPair, AreApart, AreCells}
use Rattle.ep_cell_ranges.specs.Ranges.{Form, Reform, with_cells, with_form, split_at, cut, form_by_cut, overwritten}
use Rattle.ep_cell_ranges.specs.Ranges.{replaced, form_by_replace}
use Rattle.ep_reads.specs.SplitLaws.{SplitLaws}
use Rattle.ep_cell_ranges.specs.Sound.{AreNew}
use Rattle.ep_cell_ranges.specs.Laws.{MoreSplitLaws, ReplaceLaws}
use Rattle.ep_cell_ranges.proofs.Cut.{is_cut}
use Rattle.ep_cells.proofs.Lists.{in_each, in_map, in_put}
use Rattle.ep_cells.proofs.Places.{at}
use Rattle.ep_transfer_writes.proofs.Uncut.{none_in, none_from, cut_gone, cut_form_gone, no_cut_replaced, cut_is}
use Rattle.ep_transfer_writes.proofs.Behind.{F1, F2, F, both_reformed, written_once, written_twice, written_together}
use Rattle.ep_transfer_writes.proofs.Behind.{one_write, behind_by}

-- ---- sides and places

not_shared : (s q r : Side) → side_without s q ≡ Some r → share_memory s r ≡ false
not_shared Left Left r e = absurd (let i : None ≡ Some r = e in cc)
not_shared Left Right r e = let i : Right ≡ r = (let j : Some Right ≡ Some r = e in cc) in
    subst (λ z. share_memory Left z ≡ false) i refl
not_shared Left Shared r e = let i : Right ≡ r = (let j : Some Right ≡ Some r = e in cc) in
    subst (λ z. share_memory Left z ≡ false) i refl
not_shared Right Right r e = absurd (let i : None ≡ Some r = e in cc)
not_shared Right Left r e = let i : Left ≡ r = (let j : Some Left ≡ Some r = e in cc) in
    subst (λ z. share_memory Right z ≡ false) i refl
not_shared Right Shared r e = let i : Left ≡ r = (let j : Some Left ≡ Some r = e in cc) in
    subst (λ z. share_memory Right z ≡ false) i refl
not_shared Shared q r e = absurd (let i : None ≡ Some r = e in cc)

none_by : (t m e : Bool) → t ≡ false → ((t && m) && not e) ≡ false
none_by true m e h = absurd (let q : true ≡ false = h in cc)
none_by false m e h = refl

partly_off : (u t e : Bool) → t ≡ false → ((u && t) && not e) ≡ false
partly_off u true e h = absurd (let q : true ≡ false = h in cc)
partly_off true false e h = refl
partly_off false false e h = refl

partly_by : (s : Bool) (b a m n all : ℕ) → all ≡ m + n → (c r k : ℕ) → 0 < k
    → ((s && (nat_eq b c && (nat_lt a (r + k) && nat_lt r (a + m)))) && not (nat_le a r && nat_le (r + k) (a + m)))
    ≡ false
    → ((s && (nat_eq b c && (nat_lt a (r + k) && nat_lt r (a + all)))) && not (nat_le a r && nat_le (r + k)
    (a + all)))
    ≡ false
    → ((s && (nat_eq b c && (nat_lt (a + m) (r + k) && nat_lt r (a + m + n))))
    && not (nat_le (a + m) r && nat_le (r + k) (a + m + n))) ≡ false
partly_by true b a m n all total c r k h i j = behind_by Left b a m n all total c r k h i j
partly_by false b a m n all total c r k h i j = refl

-- a cell has just these bytes
pub record Fills {N : Type 0} (d : Model) (s : Side) (b a m : ℕ) (c : Cell N) : Type 0 where
  pub side : c.side ≡ s
  pub block : c.block ≡ b
  pub offset : c.offset ≡ a
  pub bytes : size_of d c.what ≡ m

pub place_is : {N : Type 0} (d : Model) (s : Side) (b a m : ℕ) (c : Cell N) → Fills d s b a m c
    → place_of d c ≡ at s b a m
place_is d s b a m c h =
    ap (λ x. at x c.block c.offset (size_of d c.what)) h.side
    ∙ ap (λ x. at s x c.offset (size_of d c.what)) h.block
    ∙ ap (λ x. at s b x (size_of d c.what)) h.offset
    ∙ ap (at s b a) h.bytes

module _ {N : Type 0} (D : Ops N) (split : SplitLaws D) (more : MoreSplitLaws D) (law : ReplaceLaws D) (s : Side)
    (b a m n all : ℕ) (total : all ≡ m + n) where
  abbrev none : (a n : ℕ) → Known N → Type 0
  none a n k = is_some_partly_in k.model (at s b a n) k.cells ≡ false

  within : m ≤ all
  within = omega (arith, total)

  -- ---- the first cell

  abbrev G : Known N → Reform
  G k = form_by_replace D (at s b a m) k

  abbrev first_written : Known N → Cell N → Known N
  first_written k c = replaced D (at s b a m) (c ∷ []) k

  abbrev zs : Known N → List (Cell N)
  zs k = (cut D (at s b a m) k).cells

  pub through : (k : Known N) → AreCells k.model k.cells → none a all k → (f : Form)
      → form_after (F2 s b a m n) (form_after (F1 s b a m) (form_by_cut D (at s b a m) k f)) ≡ form_after
      (F s b a all) f
  through k c h f =
      both_formed (form_by_cut D (at s b a m) k f) ∙ cut_form_gone D split more b a m all within s k f c h
    where
      both_formed : (f : Form) → form_after (F2 s b a m n) (form_after (F1 s b a m) f) ≡ form_after (F s b a all) f
      both_formed f = ap (λ (x : Cell N). x.form) (both_reformed k.model s b a m n all total (record {
        side = Left;
        block = 0;
        offset = 0;
        what = Pointer;
        value = None;
        maybe = true;
        form = f;
      }))

  -- as it is once the first cell is written
  abbrev K : Known N → Cell N → Known N
  K k c = with_cells k (written_once k.model s b a m n all total (form_by_cut D (at s b a m) k) c (zs k))

  first_is : (k : Known N) (c : Cell N) → first_written k c ≡ K k c
  first_is k c =
      ap (overwritten D (at s b a m) (with_form (form_by_cut D (at s b a m) k) c ∷ [])) (cut_is D s b a m k)

  -- in what is left, none lies partly in the bytes behind
  uncut_by : (q : Side) (k : Known N) → AreCells k.model k.cells
      → is_some_partly_in k.model (at q b a all) k.cells ≡ false
      → is_some_partly_in k.model (at q b a all) (cut D (at q b a m) k).cells ≡ false
  uncut_by Left k c h = more.uncut k (at Left b a m) (at Left b a all) c refl h
  uncut_by Right k c h = more.uncut k (at Right b a m) (at Right b a all) c refl h
  uncut_by Shared k c h =
      let j = split_at D (at Left b a m) k in
      more.uncut j (at Right b a m) (at Shared b a all) (split.cells k (at Left b a m) c refl) refl
      (more.uncut k (at Left b a m) (at Shared b a all) c refl h)

  left_uncut : (k : Known N) (x : Cell N) (t : Bool) (o : Option Side) → side_without s x.side ≡ o
      → is_partly_in (at s b (a + m) n) (place_of k.model x) ≡ false → (z : Cell N)
      → IsIn z (cond t (with_side x o) (x ∷ [])) → is_partly_in (at s b (a + m) n) (place_of k.model z) ≡ false
  left_uncut k x true None e h z i = elim i [ ]
  left_uncut k x true (Some r) e h _ (first _) =
      none_by (share_memory s r) (touches (at s b (a + m) n) (place_of k.model x))
      (encloses (at s b (a + m) n) (place_of k.model x)) (not_shared s x.side r e)
  left_uncut k x true (Some r) e h z (later _ _ i) = elim i [ ]
  left_uncut k x false o e h _ (first _) = h
  left_uncut k x false o e h z (later _ _ i) = elim i [ ]

  off : (d : Model) (c : Cell N) → Fills d s b a m c → touches (at s b (a + m) n) (place_of d c) ≡ false
  off d c h = ap (touches (at s b (a + m) n)) (place_is d s b a m c h) ∙ off_by b a m n

  cell_uncut : (d : Model) (c : Cell N) → Fills d s b a m c
      → is_partly_in (at s b (a + m) n) (place_of d c) ≡ false
  cell_uncut d c h =
      partly_off (share_memory s c.side) (touches (at s b (a + m) n) (place_of d c))
      (encloses (at s b (a + m) n) (place_of d c)) (off d c h)

  behind_uncut : (k : Known N) (c : Cell N) → AreCells k.model k.cells → none a all k → Fills k.model s b a m c
      → none (a + m) n (K k c)
  behind_uncut k c cells h fills =
      none_from k.model (at s b (a + m) n) (K k c).cells
      (λ y i.
      let r = in_map (reformed (F1 s b a m)) y _ i in
      subst (λ z. is_partly_in (at s b (a + m) n) (place_of k.model z) ≡ false) (sym r.is)
      (⊎_elim
      (λ e. subst (λ z. is_partly_in (at s b (a + m) n) (place_of k.model z) ≡ false) (sym e)
      (cell_uncut k.model c fills))
      (λ j.
      let q = in_each (left_by_write k.model (at s b a m)) r.origin (zs k) j in
      let x = q.origin in
      left_uncut k x (touches (at s b a m) (place_of k.model x)) (side_without s x.side) refl
      (partly_by (share_memory s x.side) b a m n all total x.block x.offset (size_of k.model x.what)
      (size_positive k.model x.what)
      (none_in k.model (at s b a m) (zs k) (is_cut D split more s b a m k cells).uncut x q.is_in)
      (none_in k.model (at s b a all) (zs k) (uncut_by s k cells h) x q.is_in))
      r.origin q.becomes)
      (in_put (with_form (form_by_cut D (at s b a m) k) c) r.origin
      (each_becomes (left_by_write k.model (at s b a m)) (zs k)) r.is_in)))

  -- none lies partly in the bytes behind the first cell
  pub next_none : (k : Known N) (c : Cell N) → AreCells k.model k.cells → none a all k → Fills k.model s b a m c
      → none (a + m) n (first_written k c)
  next_none k c cells h fills = subst (none (a + m) n) (sym (first_is k c)) (behind_uncut k c cells h fills)

  -- ---- the first cell and those behind it

  all_is : (k : Known N) (c : Cell N) (new : List (Cell N)) → AreCells k.model k.cells → none a all k
      → written_together k.model s b a m n all total c new (zs k) ≡ (overwritten D (at s b a all) (c ∷ new) k).cells
  all_is k c new cells h =
      sym (ap (λ z. (overwritten D (at s b a all) (c ∷ new) z).cells) (cut_is D s b a m k))
      ∙ cut_gone D split more b a m all within s k (c ∷ new) cells h

  behind_is : (k : Known N) (c : Cell N) (new : List (Cell N)) → AreCells k.model k.cells → none a all k
      → Fills k.model s b a m c
      → replaced D (at s b (a + m) n) (map (with_form (G k)) new) (K k c)
      ≡ with_cells k (written_twice k.model s b a m n all total (form_by_cut D (at s b a m) k) (G k) c new (zs k))
  behind_is k c new cells h fills =
      no_cut_replaced D b (a + m) n s (K k c) (map (with_form (G k)) new) (behind_uncut k c cells h fills)

  pub two_writes : (k : Known N) (c : Cell N) (new : List (Cell N)) → AreCells k.model k.cells → none a all k
      → Fills k.model s b a m c
      → AreNew k.model (at s b a m) k.cells (c ∷ [])
      → AreNew k.model (at s b a all) k.cells (c ∷ new)
      → AreNew (first_written k c).model (at s b (a + m) n) (first_written k c).cells (map (with_form (G k)) new)
      → replaced D (at s b (a + m) n) (map (with_form (G k)) new) (first_written k c)
      ≡ replaced D (at s b a all) (c ∷ new) k
  two_writes k c new cells h fills one both behind =
      let cut1 = form_by_cut D (at s b a m) k in
      let whole = no_cut_replaced D b a all s k (c ∷ new) h in
      let last = behind_is k c new cells h fills in
      let xs = written_twice k.model s b a m n all total cut1 (G k) c new (zs k) in
      let ys = written_together k.model s b a m n all total c new (zs k) in
      let first_cells : AreCells k.model (K k c).cells =
      subst (λ z. AreCells k.model z.cells) (first_is k c) (law.cells k (at s b a m) (c ∷ []) cells one) in
      let new_there : AreNew k.model (at s b (a + m) n) (K k c).cells (map (with_form (G k)) new) =
      subst (λ z. AreNew z.model (at s b (a + m) n) z.cells (map (with_form (G k)) new)) (first_is k c) behind in
      let ordered_xs : EachPair (AreApart k.model) xs =
      (subst (λ z. AreCells k.model z.cells) last
      (law.cells (K k c) (at s b (a + m) n) (map (with_form (G k)) new) first_cells new_there)).pairs in
      let ordered_ys : EachPair (AreApart k.model) ys =
      (subst (λ zs. AreCells k.model zs) (sym (all_is k c new cells h))
      (subst (λ z. AreCells k.model z.cells) whole (law.cells k (at s b a all) (c ∷ new) cells both))).pairs in
      ap (replaced D (at s b (a + m) n) (map (with_form (G k)) new)) (first_is k c)
      ∙ last
      ∙ ap (with_cells k)
      (one_write k.model s b a m n all total cut1 (G k) (through k cells h) (through k cells h) c
      (off k.model c fills) new (zs k) ordered_xs ordered_ys
      ∙ all_is k c new cells h)
      ∙ sym whole
