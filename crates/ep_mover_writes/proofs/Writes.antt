-- What is known of a mover's bytes where a number is written.
use Rattle.std.proofs.Common.{◌≡◌, ◌≢◌, ℕ, zero, suc, ◌+◌, ◌-◌, ◌*◌, ◌<◌, ◌≤◌, Bool, true, false, ◌&&◌, ◌||◌, not, cond}
use Rattle.std.proofs.Common.{nat_eq, nat_lt, nat_le, List, [], ◌∷◌, ◌⊎◌, inl, inr, length, slice_get, slice_set, get_or}
use Rattle.std.proofs.Common.{map, Option, Some, None, Ok, Err, refl, sym, ap, ◌∙◌, subst, arith}
use Rattle.std.specs.Option.{option_map}
use Rattle.std.specs.List.{list_all}
use Rattle.std.proofs.lemmas.Bool.{and_parts, and_from, eqb-true, leb-true, ltb-true, eq-eqb, le-leb, lt-ltb}
use Rattle.std.proofs.lemmas.List.{get_or-set_same, get_or-set_other}
use Rattle.ep_int.specs.declared.types.IntType.{IntType}
use Rattle.ep_int.specs.declared.types.Model.{Model}
use Rattle.ep_int.specs.declared.types.Order.{Order}
use Rattle.ep_int.specs.declared.types.Scalar.{Scalar}
use Rattle.ep_int.specs.declared.types.Scalar.TheVariants.{Int}
use Rattle.ep_int.specs.Types.{bytes_of, bits_of, size_of}
use Rattle.ep_int.specs.Encoding.{place, is_width}
use Rattle.ep_int.proofs.Basics.{some-injective}
use Rattle.ep_int.proofs.Places.{width_of, place_below, place_back}
use Rattle.ep_int.proofs.Wrapping.{bytes_of_positive}
use Rattle.ep_bitslice.specs.declared.cell.Side.{Side as CellSide}
use Rattle.ep_bitslice.specs.declared.cell.Side.TheVariants.{Left, Right, Shared}
use Rattle.ep_bitslice.specs.declared.cell.CellName.{CellName}
use Rattle.ep_bitslice.specs.declared.segment.Segment.TheVariants.{Bits}
use Rattle.ep_domain.specs.Domain.{Ops, Lawful}
use Rattle.ep_cells.specs.declared.cell.Cell.{Cell}
use Rattle.ep_cells.specs.declared.place.ByteRange.{ByteRange}
use Rattle.ep_cells.specs.Cells.{IsIn, IsNamed, first, place_of, place_of_name, touches, share_memory, side_without}
use Rattle.ep_cells.specs.Cells.{with_side, put, each_becomes, is_same_side}
use Rattle.ep_cells.specs.Forms.{Fate, form_after, reformed}
use Rattle.ep_cells.specs.Look.{covers}
use Rattle.ep_cells.specs.Meaning.{name_of}
use Rattle.ep_cells.specs.Memories.{is_byte_of}
use Rattle.ep_cells.specs.States.{Known, AreCells}
use Rattle.ep_cells.specs.Write.{left_by_write, fate_by_write}
use Rattle.ep_cells.proofs.Lists.{in_each, in_map, in_put, map_in, put_there, put_keeps, each_in}
use Rattle.ep_cells.proofs.Write.{left_is}
use Rattle.ep_reads.specs.Bytes.{own_form, form_or, form_of_cell}
use Rattle.ep_reads.proofs.Splits.{of_splits}
use Rattle.ep_cell_ranges.specs.Ranges.{with_cells, replaced, form_by_replace}
use Rattle.ep_cell_ranges.proofs.Overwrites.{of_overwrites}
use Rattle.ep_cell_ranges.proofs.Replaces.{of_replaces}
use Rattle.ep_cell_ranges.proofs.Waits.{of_splits as of_more_splits}
use Rattle.ep_core.specs.Program.{Program}
use Rattle.ep_core.specs.Runs.{Side, left, right}
use Rattle.ep_evaluation.specs.Given.{cells_of}
use Rattle.ep_evaluation.specs.Operators.{Form}
use Rattle.ep_movers.specs.Symbols.{Symbol, unset, fixed_byte, input_byte, is_set}
use Rattle.ep_movers.specs.Movers.{Held, held, Machine, bytes_in, loaded_bytes}
use Rattle.ep_mover_bits.specs.Laws.{Inputs, is_byte, HasBytes}
use Rattle.ep_mover_cells.specs.Known.{held_at, symbol_at, unit_in, LiesInOne, SaysBytes, IsSaid, IsInput, Moved}
use Rattle.ep_mover_cells.proofs.Loaded.{loaded_at}
use Rattle.ep_mover_cells.proofs.Bytewise.{covering_of}
use Rattle.ep_singles.specs.Laws.{IsMachine}
use Rattle.ep_singles.proofs.Covers.{has_side, keeps_side, side_covers}
use Rattle.ep_mover_writes.specs.Laws.{IsNumberAt, IsWrittenAt, AreTaken, IsNewCell, IsWellWritten, WritesKeepBytes}
use Rattle.ep_mover_writes.proofs.Written.{Wrote, wrote, loaded_from, loaded_same}
use Rattle.ep_mover_writes.proofs.Kept.{Stays, AllStay, form_kept, own_is, all_stay}
use Rattle.ep_mover_writes.proofs.Uncut.{inside, form_cut_same, replaced_is}

machine : (i : Side) → IsMachine (cells_of i)
machine left = tt
machine right = tt

-- a side that is written has the new cell
has_written : (s : CellSide) (i : Side) → share_memory s (cells_of i) ≡ true → has_side s (cells_of i) ≡ true
has_written Left left e = refl
has_written Left right e = absurd (let d : false ≡ true = e in cc)
has_written Right left e = absurd (let d : false ≡ true = e in cc)
has_written Right right e = refl
has_written Shared left e = refl
has_written Shared right e = refl

some_written : (s : CellSide) → (i : Side) × (share_memory s (cells_of i) ≡ true)
some_written Left = (left, refl)
some_written Right = (right, refl)
some_written Shared = (left, refl)

not_both : {A : Type 0} (t : Bool) → t ≡ true → t ≡ false → A
not_both t e f = absurd (let g : true ≡ false = sym e ∙ f in cc)

byte_set : (x : Symbol) → is_byte x ≡ true → is_set x ≡ true
byte_set unset h = absurd (cc)
byte_set (fixed_byte v) h = refl
byte_set (input_byte i k) h = refl

all_bytes : (xs : List Symbol) (j : ℕ) (x : Symbol) → list_all is_byte xs ≡ true → slice_get xs j ≡ Some x
    → is_byte x ≡ true
all_bytes [] j x h e = absurd (cc)
all_bytes (y ∷ ys) zero x h e =
    subst (λ z. is_byte z ≡ true) (some-injective e) (and_parts (is_byte y) (list_all is_byte ys) h).0
all_bytes (y ∷ ys) (suc j) x h e = all_bytes ys j x (and_parts (is_byte y) (list_all is_byte ys) h).1 e

slice_here : {A : Type 0} (xs : List A) (j : ℕ) → j < length xs → (x : A) × (slice_get xs j ≡ Some x)
slice_here [] j h = absurd (let z : ⊥ = omega (arith, h) in z)
slice_here (x ∷ xs) zero h = (x, refl)
slice_here (x ∷ xs) (suc j) h = slice_here xs j (omega (arith, h))

-- a block that has a byte is there
pub block_there : (m : List (List Held)) (b q : ℕ) → q < length (bytes_in m b) → b < length m
block_there [] b q h = absurd (let z : ⊥ = omega (arith, h) in z)
block_there (hs ∷ m) zero q h = omega arith
block_there (hs ∷ m) (suc b) q h = let r = block_there m b q h in omega (arith, r)

module _ {N : Type 0} (D : Ops N) (p : Program) (ord : Side → Order) (base : Inputs) (ms ns : Side → Machine)
    (k : Known N) (h : Moved D p ord base ms k) (s : CellSide) (b q : ℕ) (t : IntType)
    (number : IsNumberAt p b q (bytes_of t)) (xs : List Symbol) (more : ℕ) (c : Cell N)
    (new : IsNewCell D p ord base ms k s b q t xs more c)
    (write : (i : Side) → IsWrittenAt (ord i) t b q xs more (share_memory s (cells_of i)) (ms i) (ns i))
    (long : length xs ≡ bytes_of t) where
  abbrev d : Model
  d = k.model

  abbrev w : ℕ
  w = bytes_of t

  abbrev P : ByteRange
  P = record { side = s; block = b; offset = q; bytes = w }

  abbrev g : Fate
  g = fate_by_write P

  abbrev count : ℕ
  count = (ms left).inputs

  abbrev here : Side → Bool
  here i = share_memory s (cells_of i)

  abbrev old : Side → ℕ → List Held
  old i a = bytes_in (ms i).memory a

  abbrev now : Side → ℕ → List Held
  now i a = bytes_in (ns i).memory a

  wrote_on : (i : Side) → here i ≡ true → Wrote (ord i) q w (old i b) 0 xs (write i).bytes
  wrote_on i e = wrote (ord i) q w (old i b) 0 xs (write i).bytes ((write i).written e)

  -- ---- the bytes of the place

  index_of : (r : ℕ) → q ≤ r → r < q + w → (o : Order)
      → (place o w (r - q) < length xs) × (q + place o w (0 + place o w (r - q)) ≡ r)
  index_of r l u o =
      let j = place o w (r - q) in
      let i : r - q < w = omega (arith, l, u) in
      let z : 0 + j ≡ j = omega arith in
      let e : q + (r - q) ≡ r = omega (arith, l) in (
        omega (arith, place_below o w (r - q) (width_of t) i, long),
        ap (λ n. q + place o w n) z ∙ ap (λ n. q + n) (place_back o w (r - q) (width_of t) i) ∙ e,
      )

  fresh : (i : Side) → here i ≡ true → (r : ℕ) → q ≤ r → r < q + w → (held_at (old i b) r).written ≡ false
  fresh i e r l u =
      let a = index_of r l u (ord i) in
      subst (λ n. (held_at (old i b) n).written ≡ false) a.1 ((wrote_on i e).fresh (place (ord i) w (r - q)) a.0)

  -- ---- the cells of inputs are elsewhere

  clear : (i : ℕ) → i < count → touches P (place_of_name (base i)) ≡ false
  clear i l = by (touches P (place_of_name (base i))) refl
    where
      meet : (n : CellName) (a : IsInput base k.cells ms i) → base i ≡ n → touches P (place_of_name n) ≡ true → ⊥
      meet n a e f =
          let z = some_written s in
          let x = and_parts (nat_eq b n.block) (nat_lt q (n.offset + bytes_of n.t) && nat_lt n.offset (q + w)) f in
          let y = and_parts (nat_lt q (n.offset + bytes_of n.t)) (nat_lt n.offset (q + w)) x.1 in
          let low = ltb-true q (n.offset + bytes_of n.t) y.0 in
          let high = ltb-true n.offset (q + w) y.1 in
          let same = eqb-true b n.block x.0 in
          let written : (j : ℕ) → j < bytes_of n.t → (held_at (old z.0 n.block) (n.offset + j)).written ≡ true
          = subst (λ (n : CellName). (j : ℕ) → j < bytes_of n.t
          → (held_at (old z.0 n.block) (n.offset + j)).written ≡ true) e (a.written z.0) in
          at (nat_le q n.offset) refl z.0 z.1 low high
          (subst (λ c. (j : ℕ) → j < bytes_of n.t → (held_at (old z.0 c) (n.offset + j)).written ≡ true) (sym same)
          written)
        where
          at : (v : Bool) → nat_le q n.offset ≡ v → (i : Side) → here i ≡ true → q < n.offset + bytes_of n.t
              → n.offset < q + w
              → ((j : ℕ) → j < bytes_of n.t → (held_at (old i b) (n.offset + j)).written ≡ true) → ⊥
          at true v i e low high f =
              let z : n.offset + 0 ≡ n.offset = omega arith in
              not_both (held_at (old i b) n.offset).written
              (subst (λ r. (held_at (old i b) r).written ≡ true) z (f 0 (bytes_of_positive n.t)))
              (fresh i e n.offset (leb-true q n.offset v) high)
          at false v i e low high f =
              let less : n.offset ≤ q = below n.offset q v in
              let z : n.offset + (q - n.offset) ≡ q = omega (arith, less) in
              not_both (held_at (old i b) q).written
              (subst (λ r. (held_at (old i b) r).written ≡ true) z (f (q - n.offset) (omega (arith, less, low))))
              (fresh i e q (omega arith) (omega (arith, bytes_of_positive t)))
            where
              below : (a b : ℕ) → nat_le b a ≡ false → a ≤ b
              below a b e = grind (arith, e)

      by : (v : Bool) → touches P (place_of_name (base i)) ≡ v → v ≡ false
      by false e = refl
      by true e = absurd (meet (base i) (h.inputs i l) refl e)

  fate_stays : (i : ℕ) → i < count → g (base i) ≡ Some (base i)
  fate_stays i l =
      ap (λ v. cond v (option_map (λ r. record (base i) { side = r }) (side_without s (base i).side)) (Some (base i)))
      (clear i l)

  symbol_stays : (x : Symbol) → ((i m : ℕ) → x ≡ input_byte i m → i < count) → Stays base g x
  symbol_stays unset f = tt
  symbol_stays (fixed_byte v) f = tt
  symbol_stays (input_byte i m) f = fate_stays i (f i m refl)

  list_stays : (ys : List Symbol) → AreTaken count ys → AllStay base g ys
  list_stays [] f = tt
  list_stays (y ∷ ys) f =
      (symbol_stays y (λ i m e. f 0 i m (ap Some e)), list_stays ys (λ j i m e. f (suc j) i m e))

  block_stays : (i : Side) (a r : ℕ) → Stays base g (symbol_at (old i a) r)
  block_stays i a r = symbol_stays (symbol_at (old i a) r) (λ n m e. h.taken i a r n m e)

  -- ---- memories after it

  there : (i : Side) → here i ≡ true → b < length (ms i).memory
  there i e =
      let a = index_of q (omega arith) (omega (arith, bytes_of_positive t)) (ord i) in
      block_there (ms i).memory b (q + place (ord i) w (0 + place (ord i) w (q - q)))
      ((wrote_on i e).inside (place (ord i) w (q - q)) a.0)

  now_here : (i : Side) → here i ≡ true → now i b ≡ (write i).bytes
  now_here i e =
      ap (λ m. bytes_in m b) ((write i).memory e)
      ∙ get_or-set_same (ms i).memory b (write i).bytes [] (there i e)

  now_other : (i : Side) → here i ≡ true → (a : ℕ) → a ≢ b → now i a ≡ old i a
  now_other i e a n =
      ap (λ m. bytes_in m a) ((write i).memory e) ∙ get_or-set_other (ms i).memory b a (write i).bytes [] n

  -- a byte that isn't written
  abbrev out_of : Side → ℕ → ℕ → Type 0
  out_of i a r = (here i && is_byte_of P a r) ≡ false

  outside : (a r : ℕ) → a ≡ b → (true && is_byte_of P a r) ≡ false → (q ≤ r → r < q + w → ⊥)
  outside a r e f l u =
      not_both (is_byte_of P a r)
      (and_from (nat_eq b a) (nat_le q r && nat_lt r (q + w)) (eq-eqb b a (sym e))
      (and_from (nat_le q r) (nat_lt r (q + w)) (le-leb q r l) (lt-ltb r (q + w) u))) f

  held_same : (i : Side) (a r : ℕ) → out_of i a r → held_at (now i a) r ≡ held_at (old i a) r
  held_same i a r f = by (here i) refl f
    where
      at_block : (v : Bool) → nat_eq a b ≡ v → here i ≡ true → (true && is_byte_of P a r) ≡ false
          → held_at (now i a) r ≡ held_at (old i a) r
      at_block true v e f =
          let z = eqb-true a b v in
          ap (λ n. held_at (now i n) r) z ∙ ap (λ l. held_at l r) (now_here i e)
          ∙ (wrote_on i e).elsewhere r (λ j l x. outside a r z f (low j l x) (high j l x))
          ∙ ap (λ n. held_at (old i n) r) (sym z)
        where
          below : (j : ℕ) → j < length xs → place (ord i) w (0 + j) < w
          below j l = place_below (ord i) w (0 + j) (width_of t) (omega (arith, l, long))

          low : (j : ℕ) → j < length xs → r ≡ q + place (ord i) w (0 + j) → q ≤ r
          low j l x = omega (arith, x)

          high : (j : ℕ) → j < length xs → r ≡ q + place (ord i) w (0 + j) → r < q + w
          high j l x = omega (arith, x, below j l)
      at_block false v e f =
          ap (λ l. held_at l r) (now_other i e a (λ z. not_both (nat_eq a b) (eq-eqb a b z) v))

      by : (v : Bool) → here i ≡ v → (v && is_byte_of P a r) ≡ false
          → held_at (now i a) r ≡ held_at (old i a) r
      by false e f = ap (λ m. held_at (bytes_in m a) r) ((write i).stays e)
      by true e f = at_block (nat_eq a b) refl e f

  size_same : (i : Side) (a : ℕ) → length (now i a) ≡ length (old i a)
  size_same i a = by (here i) refl
    where
      at_block : (v : Bool) → nat_eq a b ≡ v → here i ≡ true → length (now i a) ≡ length (old i a)
      at_block true v e =
          let z = eqb-true a b v in
          ap (λ n. length (now i n)) z ∙ ap length (now_here i e) ∙ (wrote_on i e).size
          ∙ ap (λ n. length (old i n)) (sym z)
      at_block false v e = ap length (now_other i e a (λ z. not_both (nat_eq a b) (eq-eqb a b z) v))

      by : (v : Bool) → here i ≡ v → length (now i a) ≡ length (old i a)
      by false e = ap (λ m. length (bytes_in m a)) ((write i).stays e)
      by true e = at_block (nat_eq a b) refl e

  -- ---- cells that stay

  -- bytes of a cell that doesn't touch the place, or whose side isn't written
  stays_out : (i : Side) (a off n : ℕ) → (here i && (nat_eq b a && (nat_lt q (off + n) && nat_lt off (q + w)))) ≡ false
      → (j : ℕ) → j < n → out_of i a (off + j)
  stays_out i a off n f j l = by (here i && is_byte_of P a (off + j)) refl
    where
      by : (v : Bool) → (here i && is_byte_of P a (off + j)) ≡ v → v ≡ false
      by false e = refl
      by true e =
          let x = and_parts (here i) (is_byte_of P a (off + j)) e in
          let y = and_parts (nat_eq b a) (nat_le q (off + j) && nat_lt (off + j) (q + w)) x.1 in
          let z = and_parts (nat_le q (off + j)) (nat_lt (off + j) (q + w)) y.1 in
          let low = leb-true q (off + j) z.0 in
          let high = ltb-true (off + j) (q + w) z.1 in
          not_both (here i && (nat_eq b a && (nat_lt q (off + n) && nat_lt off (q + w))))
          (and_from (here i) (nat_eq b a && (nat_lt q (off + n) && nat_lt off (q + w))) x.0
          (and_from (nat_eq b a) (nat_lt q (off + n) && nat_lt off (q + w)) y.0
          (and_from (nat_lt q (off + n)) (nat_lt off (q + w)) (lt-ltb q (off + n) (omega (arith, low, l)))
          (lt-ltb off (q + w) (omega (arith, high)))))) f

  module _ (i : Side) (x : Cell N) (e : SaysBytes base (ord i) (old i x.block) x)
      (apart : (here i && touches P (place_of d x)) ≡ false) (r : CellSide)
      (kept : touches P (place_of d x) ≡ false → r ≡ x.side) where
    abbrev z : Cell N
    z = reformed g (record x { side = r })

    lies : loaded_bytes (ord i) (now i x.block) x.offset (bytes_of e.t) 0 (bytes_of e.t) ≡ Ok e.bytes
    lies =
        let size : size_of d x.what ≡ bytes_of e.t = ap (size_of d) e.what in
        let f : (here i && (nat_eq b x.block && (nat_lt q (x.offset + bytes_of e.t) && nat_lt x.offset (q + w))))
        ≡ false = subst (λ n. (here i && (nat_eq b x.block && (nat_lt q (x.offset + n) && nat_lt x.offset (q + w))))
        ≡ false) size apart in
        let u = bytes_of e.t in
        loaded_same (ord i) (old i x.block) (now i x.block) x.offset u (width_of e.t) (size_same i x.block)
        (λ j l. held_same i x.block (x.offset + j) (stays_out i x.block x.offset u f j l)) 0 u (omega arith) ∙ e.lie

    bytes_stay : AllStay base g e.bytes
    bytes_stay =
        all_stay base g (ord i) (old i x.block) x.offset (bytes_of e.t) 0 (bytes_of e.t) e.bytes
        (λ n. block_stays i x.block n) e.lie

    -- of a cell without a stored form, which is that of an input
    formless_apart : x.form ≡ None → touches P (place_of d x) ≡ false
    formless_apart f =
        let own : form_of_cell x ≡ own_form x (Int e.t)
        = ap (λ v. cond v None (form_or x.form (own_form x x.what))) e.sure
        ∙ ap (λ a. form_or a (own_form x x.what)) f ∙ ap (own_form x) e.what in
        let n = own_is base (name_of x e.t) e.t e.bytes (subst (λ a. HasBytes base a e.bytes) own e.form) in
        let l = loaded_at (ord i) (old i x.block) x.offset (bytes_of e.t) 0 (bytes_of e.t) e.bytes e.lie 0
        (bytes_of_positive e.t) in
        let taken : n.input < count
        = h.taken i x.block _ n.input n.byte (some-injective (sym l.there ∙ n.first)) in
        ap (λ v. touches P (record { side = x.side; block = x.block; offset = x.offset; bytes = v }))
        (ap (size_of d) e.what)
        ∙ ap (λ m. touches P (place_of_name m)) (sym n.is) ∙ clear n.input taken

    form_stays : HasBytes base (form_of_cell z) e.bytes
    form_stays = by x.form refl
      where
        by : (f : Form) → x.form ≡ f → HasBytes base (form_of_cell z) e.bytes
        by None f =
            let same = kept (formless_apart f) in
            let is : form_of_cell z ≡ form_of_cell x
            = ap (λ v. cond v None (form_or (form_after g x.form) (own_form z x.what))) e.sure
            ∙ ap (λ a. form_or (form_after g a) (own_form z x.what)) f ∙ ap (own_form z) e.what
            ∙ ap (λ v. Some (Bits (record { side = v; block = x.block; offset = x.offset; t = e.t }) 0
            (bits_of e.t) ∷ [])) same
            ∙ sym (ap (own_form x) e.what)
            ∙ sym (ap (λ v. cond v None (form_or x.form (own_form x x.what))) e.sure
            ∙ ap (λ a. form_or a (own_form x x.what)) f) in
            subst (λ a. HasBytes base a e.bytes) (sym is) e.form
        by (Some ss) f =
            let own : form_of_cell x ≡ Some ss
            = ap (λ v. cond v None (form_or x.form (own_form x x.what))) e.sure
            ∙ ap (λ a. form_or a (own_form x x.what)) f in
            let has = subst (λ a. HasBytes base a e.bytes) own e.form in
            let after : form_of_cell z ≡ Some ss
            = ap (λ v. cond v None (form_or (form_after g x.form) (own_form z x.what))) e.sure
            ∙ ap (λ a. form_or (form_after g a) (own_form z x.what)) f
            ∙ ap (λ a. form_or a (own_form z x.what)) (form_kept base g (Some ss) e.bytes has bytes_stay) in
            subst (λ a. HasBytes base a e.bytes) (sym after) has

    says_still : SaysBytes base (ord i) (now i x.block) z
    says_still = record { t = e.t; what = e.what; sure = e.sure; bytes = e.bytes; lie = lies; form = form_stays }

  -- ---- the cells after it

  abbrev left_cells : List (Cell N)
  left_cells = each_becomes (left_by_write d P) k.cells

  abbrev after : Known N
  after = with_cells k (map (reformed g) (put c left_cells))

  new_there : IsIn (reformed g c) after.cells
  new_there = map_in (reformed g) c (put c left_cells) (put_there c left_cells)

  old_there : (x y : Cell N) → IsIn x k.cells → IsIn y (left_by_write d P x) → IsIn (reformed g y) after.cells
  old_there x y i j =
      map_in (reformed g) y (put c left_cells)
      (put_keeps c y left_cells (each_in (left_by_write d P) x y k.cells i j))

  left_apart : (x : Cell N) → touches P (place_of d x) ≡ false → IsIn x (left_by_write d P x)
  left_apart x e =
      subst (λ v. IsIn x (cond v (with_side x (side_without s x.side)) (x ∷ []))) (sym e) (first [])

  left_other : (x : Cell N) (r : CellSide) → touches P (place_of d x) ≡ true → side_without s x.side ≡ Some r
      → IsIn (record x { side = r }) (left_by_write d P x)
  left_other x r e f =
      subst (λ v. IsIn (record x { side = r }) (cond v (with_side x (side_without s x.side)) (x ∷ []))) (sym e)
      (subst (λ o. IsIn (record x { side = r }) (with_side x o)) (sym f) (first []))

  -- ---- the new cell

  module _ (i : Side) (e : here i ≡ true) where
    is_there : (j : ℕ) (x : Symbol) → slice_get xs j ≡ Some x → j < length xs
        → (q + place (ord i) w (0 + j) < length (now i b))
        × (symbol_at (now i b) (q + place (ord i) w (0 + j)) ≡ x) × (is_set x ≡ true)
    is_there j x f l =
        let v = wrote_on i e in
        let size : length (now i b) ≡ length (old i b) = size_same i b in
        let deep = v.inside j l in
        let here_is : held_at (now i b) (q + place (ord i) w (0 + j)) ≡ held x true
        = ap (λ m. held_at m (q + place (ord i) w (0 + j))) (now_here i e) ∙ v.there j x f in (
          omega (arith, size, deep),
          ap (λ (y : Held). y.symbol) here_is,
          byte_set x (all_bytes xs j x new.form.bytes f),
        )

    new_lies : loaded_bytes (ord i) (now i b) q w 0 w ≡ Ok xs
    new_lies =
        subst (λ n. loaded_bytes (ord i) (now i b) q w 0 n ≡ Ok xs) long
        (loaded_from (ord i) (now i b) q w 0 xs (λ j x f. is_there j x f (within xs j x f)))
      where
        within : (ys : List Symbol) (j : ℕ) (x : Symbol) → slice_get ys j ≡ Some x → j < length ys
        within [] j x f = absurd (cc)
        within (y ∷ ys) zero x f = omega arith
        within (y ∷ ys) (suc j) x f = let l = within ys j x f in omega (arith, l)

    new_form : HasBytes base (form_of_cell (reformed g c)) xs
    new_form = by c.form refl
      where
        by : (a : Form) → c.form ≡ a → HasBytes base (form_of_cell (reformed g c)) xs
        by None f =
            let is : form_of_cell (reformed g c) ≡ form_of_cell c
            = ap (λ v. cond v None (form_or (form_after g c.form) (own_form (reformed g c) c.what))) new.sure
            ∙ ap (λ a. form_or (form_after g a) (own_form (reformed g c) c.what)) f
            ∙ ap (own_form (reformed g c)) new.placed.what
            ∙ sym (ap (λ v. cond v None (form_or c.form (own_form c c.what))) new.sure
            ∙ ap (λ a. form_or a (own_form c c.what)) f ∙ ap (own_form c) new.placed.what) in
            subst (λ a. HasBytes base a xs) (sym is) new.form
        by (Some ss) f =
            let own : form_of_cell c ≡ Some ss
            = ap (λ v. cond v None (form_or c.form (own_form c c.what))) new.sure
            ∙ ap (λ a. form_or a (own_form c c.what)) f in
            let has = subst (λ a. HasBytes base a xs) own new.form in
            let is : form_of_cell (reformed g c) ≡ Some ss
            = ap (λ v. cond v None (form_or (form_after g c.form) (own_form (reformed g c) c.what))) new.sure
            ∙ ap (λ a. form_or (form_after g a) (own_form (reformed g c) c.what)) f
            ∙ ap (λ a. form_or a (own_form (reformed g c) c.what))
            (form_kept base g (Some ss) xs has (list_stays xs (new.stored ss f))) in
            subst (λ a. HasBytes base a xs) (sym is) has

    new_says : SaysBytes base (ord i) (now i b) (reformed g c)
    new_says = record {
      t = t;
      what = new.placed.what;
      sure = new.sure;
      bytes = xs;
      lie = ap (λ o. loaded_bytes (ord i) (now i b) o w 0 w) new.placed.offset ∙ new_lies;
      form = new_form;
    }

    new_said : (a r : ℕ) → is_byte_of P a r ≡ true
        → IsSaid base (ord i) d after.cells (cells_of i) (now i a) a r
    new_said a r f =
        let x = and_parts (nat_eq b a) (nat_le q r && nat_lt r (q + w)) f in
        let y = eqb-true b a x.0 in
        let covered : covers d (cells_of i) a r (reformed g c) ≡ true
        = and_from (has_side c.side (cells_of i)) _
        (subst (λ v. has_side v (cells_of i) ≡ true) (sym new.placed.side) (has_written s i e))
        (subst (λ v. (nat_eq v a && (nat_le c.offset r && nat_lt r (c.offset + size_of d c.what))) ≡ true)
        (sym new.placed.block)
        (subst (λ v. (nat_eq b a && (nat_le v r && nat_lt r (v + size_of d c.what))) ≡ true) (sym new.placed.offset)
        (subst (λ v. (nat_eq b a && (nat_le q r && nat_lt r (q + size_of d v))) ≡ true) (sym new.placed.what) f))) in
        record {
          cell = reformed g c;
          is_in = new_there;
          has = covered;
          says = subst (λ a. SaysBytes base (ord i) (now i a) (reformed g c)) y new_says;
        }

  -- ---- all bytes that are set

  old_said : (i : Side) (a r : ℕ) → out_of i a r
      → IsSaid base (ord i) d k.cells (cells_of i) (old i a) a r
      → IsSaid base (ord i) d after.cells (cells_of i) (now i a) a r
  old_said i a r f v = by_touch (touches P (place_of d v.cell)) refl
    where
      block_is : v.cell.block ≡ a
      block_is = (covering_of d i a r v.cell v.has).in_block

      says : SaysBytes base (ord i) (old i v.cell.block) v.cell
      says = subst (λ c. SaysBytes base (ord i) (old i c) v.cell) (sym block_is) v.says

      inside_place : touches P (place_of d v.cell) ≡ true → is_byte_of P a r ≡ true
      inside_place e =
          let u = covering_of d i a r v.cell v.has in
          let l = inside p d b q w number.index number.unit number.at v.cell (h.whole v.cell v.is_in) s e in
          let block : nat_eq b a ≡ true
          = subst (λ c. nat_eq b c ≡ true) block_is
          (and_parts (nat_eq b v.cell.block) _ e).0 in
          and_from (nat_eq b a) (nat_le q r && nat_lt r (q + w)) block
          (and_from (nat_le q r) (nat_lt r (q + w)) (le-leb q r (omega (arith, l.0, u.low)))
          (lt-ltb r (q + w) (omega (arith, l.1, u.high))))

      by_side : (o : Bool) → here i ≡ o → touches P (place_of d v.cell) ≡ true
          → IsSaid base (ord i) d after.cells (cells_of i) (now i a) a r
      by_side true o e =
          not_both (here i && is_byte_of P a r)
          (and_from (here i) (is_byte_of P a r) o (inside_place e)) f
      by_side false o e =
          let m = keeps_side s v.cell.side (cells_of i) (machine i)
          (and_parts (has_side v.cell.side (cells_of i)) _ v.has).0 o in
          let y : Cell N = record v.cell { side = m.0 } in
          record {
            cell = reformed g y;
            is_in = old_there v.cell y v.is_in (left_other v.cell m.0 e m.1);
            has = side_covers d (cells_of i) a r v.cell m.0 v.has m.2;
            says = subst (λ c. SaysBytes base (ord i) (now i c) (reformed g y)) block_is
                (says_still i v.cell says (ap (λ t. t && touches P (place_of d v.cell)) o) m.0
                (λ n. not_both (touches P (place_of d v.cell)) e n));
          }

      by_touch : (o : Bool) → touches P (place_of d v.cell) ≡ o
          → IsSaid base (ord i) d after.cells (cells_of i) (now i a) a r
      by_touch true e = by_side (here i) refl e
      by_touch false e = record {
        cell = reformed g v.cell;
        is_in = old_there v.cell v.cell v.is_in (left_apart v.cell e);
        has = v.has;
        says = subst (λ c. SaysBytes base (ord i) (now i c) (reformed g v.cell)) block_is
            (says_still i v.cell says (ap (λ t. here i && t) e ∙ no_more (here i)) v.cell.side (λ n. refl));
      }
        where
          no_more : (o : Bool) → (o && false) ≡ false
          no_more true = refl
          no_more false = refl

  said_after : (i : Side) (a r : ℕ) → is_set (symbol_at (now i a) r) ≡ true
      → IsSaid base (ord i) d after.cells (cells_of i) (now i a) a r
  said_after i a r e = by (here i && is_byte_of P a r) refl
    where
      by : (o : Bool) → (here i && is_byte_of P a r) ≡ o
          → IsSaid base (ord i) d after.cells (cells_of i) (now i a) a r
      by true o =
          let x = and_parts (here i) (is_byte_of P a r) o in new_said i x.0 a r x.1
      by false o =
          old_said i a r o
          (h.said i a r (ap (λ (y : Held). is_set y.symbol) (sym (held_same i a r o)) ∙ e))

  -- ---- the rest

  whole_after : (y : Cell N) → IsIn y after.cells → LiesInOne p d y
  whole_after y j =
      let m = in_map (reformed g) y (put c left_cells) j in
      subst (LiesInOne p d) (sym m.is) (from m.origin (in_put c m.origin left_cells m.is_in))
    where
      new_whole : LiesInOne p d (reformed g c)
      new_whole u e =
          let f : u ≡ w = some-injective (sym e ∙ ap (unit_in p) new.placed.block ∙ number.unit) in
          let size : size_of d c.what ≡ w = ap (size_of d) new.placed.what in
          let at : number.index * u ≡ q = ap (λ v. number.index * v) f ∙ number.at in
          record {
            index = number.index;
            low = omega (arith, at, new.placed.offset);
            high = omega (arith, at, new.placed.offset, size, f);
          }

      from : (z : Cell N) → (z ≡ c) ⊎ IsIn z left_cells → LiesInOne p d (reformed g z)
      from z (inl e) = subst (λ v. LiesInOne p d (reformed g v)) (sym e) new_whole
      from z (inr l) =
          let v = in_each (left_by_write d P) z k.cells l in
          let u = left_is d P v.origin z v.becomes in
          subst (λ v. LiesInOne p d (reformed g v)) (sym u.is) (h.whole v.origin v.is_in)

  old_input : (n : ℕ) → n < count → IsInput base after.cells ns n
  old_input n l =
      let a = h.inputs n l in
      let e : touches P (place_of d a.cell) ≡ false
      = ap (λ v. touches P v) (named_place a.cell (base n) a.named) ∙ clear n l in
      record {
        cell = reformed g a.cell;
        is_in = old_there a.cell a.cell a.is_in (left_apart a.cell e);
        named = record { side = a.named.side; block = a.named.block; offset = a.named.offset; what = a.named.what };
        shared = a.shared;
        formless = ap (form_after g) a.formless;
        sure = a.sure;
        written = λ i j f. written_still i (base n).block ((base n).offset + j) (a.written i j f);
      }
    where
      named_place : (x : Cell N) (m : CellName) → IsNamed m x → place_of d x ≡ place_of_name m
      named_place x m v = rw (v.side, v.block, v.offset, v.what) refl

      written_still : (i : Side) (a r : ℕ) → (held_at (old i a) r).written ≡ true
          → (held_at (now i a) r).written ≡ true
      written_still i a r f = by (here i && is_byte_of P a r) refl
        where
          by : (o : Bool) → (here i && is_byte_of P a r) ≡ o → (held_at (now i a) r).written ≡ true
          by false o = ap (λ (y : Held). y.written) (held_same i a r o) ∙ f
          by true o =
              let x = and_parts (here i) (is_byte_of P a r) o in
              let y = and_parts (nat_eq b a) (nat_le q r && nat_lt r (q + w)) x.1 in
              let z = and_parts (nat_le q r) (nat_lt r (q + w)) y.1 in
              not_both (held_at (old i a) r).written f
              (subst (λ c. (held_at (old i c) r).written ≡ false) (eqb-true b a y.0)
              (fresh i x.0 r (leb-true q r z.0) (ltb-true r (q + w) z.1)))

  -- the input that is taken here
  new_input : (n : ℕ) → count ≤ n → n < count + more → IsInput base after.cells ns n
  new_input n l u =
      let a = new.input n l u in
      record {
        cell = reformed g c;
        is_in = new_there;
        named = record { side = a.2.side; block = a.2.block; offset = a.2.offset; what = a.2.what };
        shared = new.placed.side ∙ a.0;
        formless = ap (form_after g) a.1;
        sure = new.sure;
        written = λ i j f. written_new i (base n) a.2 j f (subst (λ v. share_memory v (cells_of i) ≡ true) (sym a.0) (all i));
      }
    where
      all : (i : Side) → share_memory Shared (cells_of i) ≡ true
      all left = refl
      all right = refl

      same_type : (a b : IntType) → ◌≡◌ {A = Scalar} (Int a) (Int b) → a ≡ b
      same_type a b e = cc

      written_new : (i : Side) (m : CellName) → IsNamed m c → (j : ℕ) → j < bytes_of m.t → here i ≡ true
          → (held_at (now i m.block) (m.offset + j)).written ≡ true
      written_new i m named j f e =
          let block : m.block ≡ b = sym named.block ∙ new.placed.block in
          let offset : m.offset ≡ q = sym named.offset ∙ new.placed.offset in
          let size : bytes_of m.t ≡ w
          = ap bytes_of (same_type m.t t (sym named.what ∙ new.placed.what)) in
          let r = index_of (q + j) (omega arith) (omega (arith, f, size)) (ord i) in
          let v = slice_here xs (place (ord i) w (q + j - q)) r.0 in
          let x : held_at (now i b) (q + place (ord i) w (0 + place (ord i) w (q + j - q))) ≡ held v.0 true
          = ap (λ m. held_at m (q + place (ord i) w (0 + place (ord i) w (q + j - q)))) (now_here i e)
          ∙ (wrote_on i e).there (place (ord i) w (q + j - q)) v.0 v.1 in
          ap (λ a. (held_at (now i a) (m.offset + j)).written) block
          ∙ ap (λ o. (held_at (now i b) (o + j)).written) offset
          ∙ ap (λ o. (held_at (now i b) o).written) (sym r.1)
          ∙ ap (λ (y : Held). y.written) x

  input_after : (n : ℕ) → n < count + more → IsInput base after.cells ns n
  input_after n l = by (nat_lt n count) refl
    where
      by : (o : Bool) → nat_lt n count ≡ o → IsInput base after.cells ns n
      by true o = old_input n (ltb-true n count o)
      by false o = new_input n (least n count o) l
        where
          least : (a b : ℕ) → nat_lt a b ≡ false → b ≤ a
          least a b e = grind (arith, e)

  -- the cell of the new input is that of no other one
  own_not : (n m : ℕ) → n < count → count ≤ m → m < count + more → base n ≡ base m → ⊥
  own_not n m l f e same =
      let a = (new.input m f e).2 in
      let met : touches P (place_of_name (base m)) ≡ true
      = touching (base m) a in
      not_both (touches P (place_of_name (base n))) (ap (λ v. touches P (place_of_name v)) same ∙ met) (clear n l)
    where
      same_type : (a b : IntType) → ◌≡◌ {A = Scalar} (Int a) (Int b) → a ≡ b
      same_type a b e = cc

      touching : (v : CellName) → IsNamed v c → touches P (place_of_name v) ≡ true
      touching v named =
          let block : b ≡ v.block = sym new.placed.block ∙ named.block in
          let offset : v.offset ≡ q = sym named.offset ∙ new.placed.offset in
          let some = bytes_of_positive v.t in
          let more = bytes_of_positive t in
          and_from (nat_eq b v.block) (nat_lt q (v.offset + bytes_of v.t) && nat_lt v.offset (q + w))
          (eq-eqb b v.block block)
          (and_from (nat_lt q (v.offset + bytes_of v.t)) (nat_lt v.offset (q + w))
          (lt-ltb q (v.offset + bytes_of v.t) (omega (arith, offset, some)))
          (lt-ltb v.offset (q + w) (omega (arith, offset, more))))

  own_after : (n m : ℕ) → n < count + more → m < count + more → base n ≡ base m → n ≡ m
  own_after n m l f e = by (nat_lt n count) (nat_lt m count) refl refl
    where
      least : (a b : ℕ) → nat_lt a b ≡ false → b ≤ a
      least a b e = grind (arith, e)

      by : (o v : Bool) → nat_lt n count ≡ o → nat_lt m count ≡ v → n ≡ m
      by true true o v = h.own n m (ltb-true n count o) (ltb-true m count v) e
      by true false o v = absurd (own_not n m (ltb-true n count o) (least m count v) f e)
      by false true o v = absurd (own_not m n (ltb-true m count v) (least n count o) l (sym e))
      by false false o v =
          let a = least n count o in
          let b = least m count v in
          omega (arith, a, b, l, f, new.few)

  taken_after : (i : Side) (a r n m : ℕ) → symbol_at (now i a) r ≡ input_byte n m → n < count + more
  taken_after i a r n m e = by (here i && is_byte_of P a r) refl
    where
      by : (o : Bool) → (here i && is_byte_of P a r) ≡ o → n < count + more
      by false o =
          let l = h.taken i a r n m (ap (λ (y : Held). y.symbol) (sym (held_same i a r o)) ∙ e) in omega (arith, l)
      by true o =
          let x = and_parts (here i) (is_byte_of P a r) o in
          let y = and_parts (nat_eq b a) (nat_le q r && nat_lt r (q + w)) x.1 in
          let z = and_parts (nat_le q r) (nat_lt r (q + w)) y.1 in
          let j = index_of r (leb-true q r z.0) (ltb-true r (q + w) z.1) (ord i) in
          let v = slice_here xs (place (ord i) w (r - q)) j.0 in
          let t = is_there i x.0 (place (ord i) w (r - q)) v.0 v.1 j.0 in
          let same : v.0 ≡ input_byte n m
          = sym t.1 ∙ ap (symbol_at (now i b)) j.1 ∙ ap (λ c. symbol_at (now i c) r) (eqb-true b a y.0) ∙ e in
          new.taken (place (ord i) w (r - q)) n m (v.1 ∙ ap Some same)

  moved_after : AreCells d after.cells → Moved D p ord base ns after
  moved_after cells =
      let l : (ns left).inputs ≡ count + more = (write left).inputs in
      record {
        state = record { orders = h.state.orders; model = h.state.model; cells = cells };
        said = said_after;
        whole = whole_after;
        counts = l ∙ ap (λ n. n + more) h.counts ∙ sym (write right).inputs;
        inputs = λ n f. input_after n (omega (arith, l, f));
        own = λ n m f e. own_after n m (omega (arith, l, f)) (omega (arith, l, e));
        taken = λ i a r n m e. let f = taken_after i a r n m e in omega (arith, l, f);
      }

  place_is : place_of d c ≡ P
  place_is = rw (new.placed.side, new.placed.block, new.placed.offset, new.placed.what) refl

  after_is : replaced D (place_of d c) (c ∷ []) k ≡ after
  after_is =
      ap (λ v. replaced D v (c ∷ []) k) place_is
      ∙ replaced_is p d b q w number.index number.unit number.at D k refl h.whole s c

  waits : (f : Form) (ys : List Symbol) → HasBytes base f ys → AreTaken count ys
      → form_by_replace D (place_of d c) k f ≡ f
  waits f ys v a =
      ap (λ u. form_by_replace D u k f) place_is
      ∙ ap (form_after g) (form_cut_same p d b q w number.index number.unit number.at D k refl h.whole s f)
      ∙ form_kept base g f ys v (list_stays ys a)

pub writes_keep : {N : Type 0} (D : Ops N) → Lawful D → WritesKeepBytes D
writes_keep D law p ord base ms ns k h s b q t number xs more c new write =
    let is = after_is D p ord base ms ns k h s b q t number xs more c new write new.long in
    let laws = of_replaces D (of_splits D law) (of_more_splits D law) (of_overwrites D) in
    let cells = laws.cells k (place_of k.model c) (c ∷ []) h.state.cells new.new in
    record {
      moved = subst (Moved D p ord base ns) (sym is)
          (moved_after D p ord base ms ns k h s b q t number xs more c new write new.long
          (subst (λ (l : Known _). AreCells k.model l.cells) is cells));
      waits = waits D p ord base ms ns k h s b q t number xs more c new write new.long;
    }
