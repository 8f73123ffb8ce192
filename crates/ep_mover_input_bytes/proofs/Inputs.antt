-- An input goes to the next byte of a block, and all is said again.
use Rattle.std.proofs.Common.{◌≡◌, ℕ, zero, suc, ◌+◌, ◌-◌, ◌/◌, ◌^◌, ◌<◌, ◌≤◌, Bool, true, false, ◌&&◌, cond, nat_eq}
use Rattle.std.proofs.Common.{nat_lt, nat_le, List, [], ◌∷◌, ◌⊎◌, inl, inr, length, slice_get, Some, None, Ok}
use Rattle.std.proofs.Common.{refl, sym, ap}
use Rattle.std.proofs.Common.{◌∙◌, subst, arith}
use Rattle.std.proofs.lemmas.Bool.{and_parts, and_from, both_ways, false_from_ne_true, eqb-true, ltb-true, eq-eqb}
use Rattle.std.proofs.lemmas.Bool.{le-leb, lt-ltb}
use Rattle.std.proofs.lemmas.Nat.{div-add-mod', mod_below}
use Rattle.ep_int.specs.declared.types.IntType.TheVariants.{U8}
use Rattle.ep_int.specs.declared.types.Model.{Model}
use Rattle.ep_int.specs.declared.types.Order.{Order}
use Rattle.ep_int.specs.declared.types.Scalar.TheVariants.{Int}
use Rattle.ep_int.specs.Encoding.{place}
use Rattle.ep_int.specs.Types.{bytes_of, bits_of, size_of}
use Rattle.ep_int.proofs.Basics.{some-injective, nat_eq-self}
use Rattle.ep_int.proofs.Places.{width_of, place_below}
use Rattle.ep_bitslice.specs.declared.cell.CellName.{CellName}
use Rattle.ep_bitslice.specs.declared.cell.Side.TheVariants.{Shared}
use Rattle.ep_bitslice.specs.declared.segment.Segment.TheVariants.{Bits}
use Rattle.ep_domain.specs.Domain.{Ops, Lawful}
use Rattle.ep_cells.specs.declared.cell.Cell.{Cell}
use Rattle.ep_cells.specs.declared.place.ByteRange.{ByteRange}
use Rattle.ep_cells.specs.Cells.{IsIn, IsNamed, place_of, place_of_name, touches}
use Rattle.ep_cells.specs.Look.{covers}
use Rattle.ep_cells.specs.States.{Known}
use Rattle.ep_reads.specs.Bytes.{own_form, form_or, form_of_cell}
use Rattle.ep_reads.proofs.Splits.{of_splits}
use Rattle.ep_cell_ranges.specs.Laws.{ReplaceLaws}
use Rattle.ep_cell_ranges.specs.Ranges.{Form, with_form, replaced, form_by_replace}
use Rattle.ep_cell_ranges.specs.Spots.{all_spots}
use Rattle.ep_cell_ranges.proofs.Basics.{same_spot}
use Rattle.ep_cell_ranges.proofs.Overwrites.{of_overwrites}
use Rattle.ep_cell_ranges.proofs.Replaces.{of_replaces}
use Rattle.ep_cell_ranges.proofs.Waits.{of_splits as of_more_splits}
use Rattle.ep_core.specs.Program.{Program}
use Rattle.ep_core.specs.Runs.{Side, left, right}
use Rattle.ep_evaluation.specs.Given.{cells_of, pair}
use Rattle.ep_transfers.specs.Writes.{Underway, underway, write_shared}
use Rattle.ep_transfers.specs.Writes.{write_shared_each}
use Rattle.ep_movers.specs.Symbols.{Symbol, input_byte, is_set}
use Rattle.ep_movers.specs.Movers.{Held, held, Machine, bytes_in, byte_written, loaded_bytes, remembers, taken}
use Rattle.ep_mover_bits.specs.Laws.{Inputs, HasBytes}
use Rattle.ep_mover_bits.proofs.Forms.{forms_follow}
use Rattle.ep_mover_cells.specs.Known.{held_at, symbol_at, unit_in, LiesInOne, SaysBytes, IsSaid, IsInput}
use Rattle.ep_mover_cells.proofs.Bytewise.{covering_of}
use Rattle.ep_mover_stores.specs.Laws.{with_input}
use Rattle.ep_mover_writes.specs.Laws.{AreTaken}
use Rattle.ep_mover_writes.proofs.Others.{says_still, input_still}
use Rattle.ep_mover_writes.proofs.Written.{loaded_from, loaded_same}
use Rattle.ep_singles.proofs.Covers.{has_side}
use Rattle.ep_mover_input_bytes.specs.Laws.{input_item, after_input, MovedBelow, InputBytesKeep}
use Rattle.ep_mover_input_bytes.proofs.Bytes.{fresh, there, elsewhere, size_same, inside, loaded_taken, some_unit}
use Rattle.ep_mover_input_bytes.proofs.NewCell.{old_same, new_is, name, v, input_cell, formless, sure, own, new}
use Rattle.ep_mover_input_bytes.proofs.Cuts.{StillThere, LiesIn, IsReplaced, none_replaced, replaced_keeps}

has_shared : (s : Side) → has_side Shared (cells_of s) ≡ true
has_shared left = refl
has_shared right = refl

-- the one place of a byte
byte_place : (o : Order) → place o 1 0 ≡ 0
byte_place o = let l = place_below o 1 0 (width_of U8) (omega arith) in omega (arith, l)

module _ {N : Type 0} (D : Ops N) (law : Lawful D) (p : Program) (ord : Side → Order) (base : Inputs)
    (ms : Side → Machine) (k : Known N) (b n q : ℕ) (less : q < n) (few : n ≤ 2 ^ 32)
    (h : MovedBelow D p ord base ms k b n q) (hs : Side → List Held)
    (steps : (s : Side) → byte_written (bytes_in (ms s).memory b) q (input_byte (ms s).inputs 0) ≡ Ok (hs s)) where
  abbrev d : Model
  d = k.model

  abbrev count : ℕ
  count = (ms left).inputs

  abbrev base_then : Inputs
  base_then = with_input base count (name D k b q)

  abbrev ns : Side → Machine
  ns s = taken (remembers (ms s) b (hs s)) 1

  abbrev old : Side → ℕ → List Held
  old s a = bytes_in (ms s).memory a

  abbrev now : Side → ℕ → List Held
  now s a = bytes_in (ns s).memory a

  abbrev P : ByteRange
  P = record { side = Shared; block = b; offset = q; bytes = 1 }

  abbrev cell : Cell N
  cell = input_cell D k b q

  abbrev after : Known N
  after = replaced D P (cell ∷ []) k

  same_count : (s : Side) → (ms s).inputs ≡ count
  same_count left = refl
  same_count right = sym h.counts

  agree : (i : ℕ) → i < count → base_then i ≡ base i
  agree = old_same base count (name D k b q)

  new_name : base_then count ≡ name D k b q
  new_name = new_is base count (name D k b q)

  -- ---- memories

  is_fresh : (s : Side) → (held_at (old s b) q).written ≡ false
  is_fresh s = fresh (ms s) b q (input_byte (ms s).inputs 0) (hs s) (steps s)

  is_there : (s : Side) → held_at (now s b) q ≡ held (input_byte count 0) true
  is_there s =
      there (ms s) b q (input_byte (ms s).inputs 0) (hs s) (steps s)
      ∙ ap (λ i. held (input_byte i 0) true) (same_count s)

  is_kept : (s : Side) (a r : ℕ) → (a ≡ b → r ≡ q → ⊥) → held_at (now s a) r ≡ held_at (old s a) r
  is_kept s = elsewhere (ms s) b q (input_byte (ms s).inputs 0) (hs s) (steps s)

  size : (s : Side) (a : ℕ) → length (now s a) ≡ length (old s a)
  size s = size_same (ms s) b q (input_byte (ms s).inputs 0) (hs s) (steps s)

  -- the byte that is written, or another one
  either : {A : Type 0} (a r : ℕ) → (a ≡ b → r ≡ q → A) → ((a ≡ b → r ≡ q → ⊥) → A) → A
  either {A = A} a r f g = by (nat_eq a b) (nat_eq r q) refl refl
    where
      by : (t u : Bool) → nat_eq a b ≡ t → nat_eq r q ≡ u → A
      by true true e i = f (eqb-true a b e) (eqb-true r q i)
      by true false e i = g (λ x y. both_ways (nat_eq r q) i (eq-eqb r q y))
      by false u e i = g (λ x y. both_ways (nat_eq a b) e (eq-eqb a b x))

  still_written : (s : Side) (a r : ℕ) → (held_at (old s a) r).written ≡ true → (held_at (now s a) r).written ≡ true
  still_written s a r e =
      either a r
      (λ x y. absurd (both_ways (held_at (old s b) q).written (is_fresh s)
      (subst (λ c. (held_at (old s b) c).written ≡ true) y (subst (λ c. (held_at (old s c) r).written ≡ true) x e))))
      (λ f. ap (λ (y : Held). y.written) (is_kept s a r f) ∙ e)

  -- ---- cells of inputs have other bytes

  touched : (m : CellName) → touches P (place_of_name m) ≡ true
      → ((j : ℕ) → j < bytes_of m.t → (held_at (old left m.block) (m.offset + j)).written ≡ true) → ⊥
  touched m e f =
      let x = and_parts (nat_eq b m.block) (nat_lt q (m.offset + bytes_of m.t) && nat_lt m.offset (q + 1)) e in
      let y = and_parts (nat_lt q (m.offset + bytes_of m.t)) (nat_lt m.offset (q + 1)) x.1 in
      let low = ltb-true q (m.offset + bytes_of m.t) y.0 in
      let high = ltb-true m.offset (q + 1) y.1 in
      let z : m.offset + (q - m.offset) ≡ q = omega (arith, high) in
      let w = f (q - m.offset) (omega (arith, low, high)) in
      both_ways (held_at (old left b) q).written (is_fresh left)
      (subst (λ c. (held_at (old left c) q).written ≡ true) (sym (eqb-true b m.block x.0))
      (subst (λ r. (held_at (old left m.block) r).written ≡ true) z w))

  clear : (i : ℕ) → i < count → touches P (place_of_name (base i)) ≡ false
  clear i l =
      false_from_ne_true (touches P (place_of_name (base i))) (λ e. touched (base i) e ((h.inputs i l).written left))

  clear_then : (i : ℕ) → i < count → touches P (place_of_name (base_then i)) ≡ false
  clear_then i l = ap (λ m. touches P (place_of_name m)) (agree i l) ∙ clear i l

  put : IsReplaced d P base_then count k.cells after.cells cell
  put = replaced_keeps D k b q 1 base_then count clear_then cell (formless D k b q)

  pub none_after : form_by_replace D P k None ≡ None
  none_after = none_replaced D k b q 1 base_then count clear_then

  -- ---- cells that stay

  module _ (s : Side) (x : Cell N) (says : SaysBytes base (ord s) (old s x.block) x)
      (apart : touches P (place_of d x) ≡ false) (stays : StillThere base_then count after.cells x) where
    abbrev g : Form → Form
    g = stays.reform

    then : SaysBytes base_then (ord s) (old s x.block) x
    then =
        says_still base base_then count agree (ord s) (old s x.block) x (λ r i m e. h.taken s x.block r i m e) says

    abbrev w : ℕ
    w = bytes_of then.t

    outside : (j : ℕ) → j < w → x.block ≡ b → x.offset + j ≡ q → ⊥
    outside j l e f =
        let long : size_of d x.what ≡ w = ap (size_of d) then.what in
        both_ways (touches P (place_of d x)) apart
        (and_from (nat_eq b x.block) (nat_lt q (x.offset + size_of d x.what) && nat_lt x.offset (q + 1))
        (eq-eqb b x.block (sym e))
        (and_from (nat_lt q (x.offset + size_of d x.what)) (nat_lt x.offset (q + 1))
        (lt-ltb q (x.offset + size_of d x.what) (omega (arith, l, f, long)))
        (lt-ltb x.offset (q + 1) (omega (arith, f)))))

    lies : loaded_bytes (ord s) (now s x.block) x.offset w 0 w ≡ Ok then.bytes
    lies =
        loaded_same (ord s) (old s x.block) (now s x.block) x.offset w (width_of then.t) (size s x.block)
        (λ j l. is_kept s x.block (x.offset + j) (outside j l)) 0 w (omega arith) ∙ then.lie

    are_taken : AreTaken count then.bytes
    are_taken =
        loaded_taken count (ord s) (old s x.block) x.offset w 0 w then.bytes (λ r i m e. h.taken s x.block r i m e)
        then.lie

    form_stays : HasBytes base_then (form_of_cell (with_form g x)) then.bytes
    form_stays = by x.form refl
      where
        known : (f : Form) → x.form ≡ f → form_of_cell x ≡ form_or f (own_form x x.what)
        known f e =
            ap (λ t. cond t None (form_or x.form (own_form x x.what))) then.sure
            ∙ ap (λ a. form_or a (own_form x x.what)) e

        after_is : (f : Form) → x.form ≡ f → form_of_cell (with_form g x) ≡ form_or (g f) (own_form x x.what)
        after_is f e =
            ap (λ t. cond t None (form_or (g x.form) (own_form x x.what))) then.sure
            ∙ ap (λ a. form_or (g a) (own_form x x.what)) e

        by : (f : Form) → x.form ≡ f → HasBytes base_then (form_of_cell (with_form g x)) then.bytes
        by None e =
            subst (λ a. HasBytes base_then a then.bytes)
            (known None e ∙ sym (after_is None e ∙ ap (λ a. form_or a (own_form x x.what)) stays.keeps.none)) then.form
        by (Some ss) e =
            let has = subst (λ a. HasBytes base_then a then.bytes) (known (Some ss) e) then.form in
            subst (λ a. HasBytes base_then a then.bytes)
            (sym (after_is (Some ss) e
            ∙ ap (λ a. form_or a (own_form x x.what)) (stays.keeps.bytes (Some ss) then.bytes has are_taken))) has

    says_after : SaysBytes base_then (ord s) (now s x.block) (with_form g x)
    says_after = record {
      t = then.t;
      what = then.what;
      sure = then.sure;
      bytes = then.bytes;
      lie = lies;
      form = form_stays;
    }

  -- ---- the new cell

  module _ (s : Side) where
    abbrev IsHere : ℕ → Symbol → Type 0
    IsHere r x = (r < length (now s b)) × (symbol_at (now s b) r ≡ x) × (is_set x ≡ true)

    first_here : IsHere (q + place (ord s) 1 0) (input_byte count 0)
    first_here =
        let z = byte_place (ord s) in
        let at : q ≡ q + place (ord s) 1 0 = omega (arith, z) in
        subst (λ r. IsHere r (input_byte count 0)) at (
          inside (ms s) b q (input_byte (ms s).inputs 0) (hs s) (steps s),
          ap (λ (y : Held). y.symbol) (is_there s),
          refl,
        )

    here : (j : ℕ) (x : Symbol) → slice_get (input_byte count 0 ∷ []) j ≡ Some x
        → IsHere (q + place (ord s) 1 (0 + j)) x
    here zero x e = subst (IsHere (q + place (ord s) 1 0)) (some-injective e) first_here
    here (suc j) x e = absurd cc

    loads : loaded_bytes (ord s) (now s b) q 1 0 1 ≡ Ok (input_byte count 0 ∷ [])
    loads = loaded_from (ord s) (now s b) q 1 0 (input_byte count 0 ∷ []) here

    new_says : SaysBytes base_then (ord s) (now s b) cell
    new_says = record {
      t = U8;
      what = refl;
      sure = sure D k b q;
      bytes = input_byte count 0 ∷ [];
      lie = loads;
      form = subst (λ f. HasBytes base_then f (input_byte count 0 ∷ [])) (sym (own D k b q))
          (subst (λ c. HasBytes base_then (Some (Bits c 0 (bits_of U8) ∷ [])) (input_byte count 0 ∷ [])) new_name
          ((forms_follow base_then).input U8 count));
    }

    new_covers : covers d (cells_of s) b q cell ≡ true
    new_covers =
        and_from (has_side Shared (cells_of s)) (nat_eq b b && (nat_le q q && nat_lt q (q + 1))) (has_shared s)
        (and_from (nat_eq b b) (nat_le q q && nat_lt q (q + 1)) (nat_eq-self b)
        (and_from (nat_le q q) (nat_lt q (q + 1)) (le-leb q q (omega arith)) (lt-ltb q (q + 1) (omega arith))))

  -- ---- all bytes that are set

  abbrev IsSaidThen : Side → ℕ → ℕ → Type 0
  IsSaidThen s a r =
      (v : IsSaid base_then (ord s) d after.cells (cells_of s) (now s a) a r)
      × (a ≡ b → v.cell.offset + size_of d v.cell.what ≤ suc q)

  new_said : (s : Side) (a r : ℕ) → a ≡ b → r ≡ q → IsSaidThen s a r
  new_said s a r e f =
      subst (λ a. IsSaidThen s a r) (sym e)
      (subst (λ r. IsSaidThen s b r) (sym f)
      (record { cell = cell; is_in = put.new; has = new_covers s; says = new_says s }, (λ z. omega arith)))

  old_said : (s : Side) (a r : ℕ) → (v : IsSaid base (ord s) d k.cells (cells_of s) (old s a) a r)
      → (a ≡ b → v.cell.offset + size_of d v.cell.what ≤ q) → IsSaidThen s a r
  old_said s a r v end =
      let u = covering_of d s a r v.cell v.has in
      let apart = false_from_ne_true (touches P (place_of d v.cell)) (away u.in_block) in
      let t = put.stays v.cell v.is_in apart in (
        record {
          cell = with_form t.reform v.cell;
          is_in = t.is_in;
          has = v.has;
          says = subst (λ c. SaysBytes base_then (ord s) (now s c) (with_form t.reform v.cell)) u.in_block
              (says_after s v.cell (subst (λ c. SaysBytes base (ord s) (old s c) v.cell) (sym u.in_block) v.says) apart
              t);
        },
        (λ e. let l = end e in omega (arith, l)),
      )
    where
      away : v.cell.block ≡ a → touches P (place_of d v.cell) ≡ true → ⊥
      away i e =
          let x = and_parts (nat_eq b v.cell.block)
          (nat_lt q (v.cell.offset + size_of d v.cell.what) && nat_lt v.cell.offset (q + 1)) e in
          let y = and_parts (nat_lt q (v.cell.offset + size_of d v.cell.what)) (nat_lt v.cell.offset (q + 1)) x.1 in
          let low = ltb-true q (v.cell.offset + size_of d v.cell.what) y.0 in
          let high = end (sym (eqb-true b v.cell.block x.0 ∙ i)) in
          omega (arith, low, high)

  said_after : (s : Side) (a r : ℕ) → is_set (symbol_at (now s a) r) ≡ true → (a ≡ b → r < suc q) → IsSaidThen s a r
  said_after s a r e u =
      either a r (new_said s a r)
      (λ f. let v = h.said s a r (ap (λ (y : Held). is_set y.symbol) (sym (is_kept s a r f)) ∙ e)
      (λ z. below (f z) (u z)) in old_said s a r v.0 v.1)
    where
      below : (r ≡ q → ⊥) → r < suc q → r < q
      below f l = by (nat_eq r q) refl
        where
          by : (t : Bool) → nat_eq r q ≡ t → r < q
          by true t = absurd (f (eqb-true r q t))
          by false t = grind (arith, t, l)

  -- ---- the rest

  new_whole : LiesInOne p d cell
  new_whole u e =
      let some = some_unit p b u e in
      let m = mod_below q u some in
      let z = div-add-mod' q u in
      record { index = q / u; low = omega (arith, z); high = omega (arith, z, m) }

  whole_after : (y : Cell N) → IsIn y after.cells → LiesInOne p d y
  whole_after y i = by (put.lies y i)
    where
      by : (y ≡ cell) ⊎ LiesIn d k.cells y → LiesInOne p d y
      by (inl e) = subst (LiesInOne p d) (sym e) new_whole
      by (inr l) = λ u e. (let o = h.whole l.cell l.is_in u (ap (unit_in p) (sym l.block) ∙ e) in record {
        index = o.index;
        low = omega (arith, o.low, l.low);
        high = omega (arith, o.high, l.high);
      })

  old_input : (i : ℕ) → i < count → IsInput base_then after.cells ns i
  old_input i l =
      let a = input_still base base_then count agree k.cells ms i l (h.inputs i l) in
      let t = put.stays a.cell a.is_in
      (ap (λ v. touches P v) (named_place a.cell (base_then i) a.named) ∙ clear_then i l) in
      record {
        cell = with_form t.reform a.cell;
        is_in = t.is_in;
        named = record { side = a.named.side; block = a.named.block; offset = a.named.offset; what = a.named.what };
        shared = a.shared;
        formless = ap t.reform a.formless ∙ t.keeps.none;
        sure = a.sure;
        written = λ s j f. still_written s (base_then i).block ((base_then i).offset + j) (a.written s j f);
      }
    where
      named_place : (x : Cell N) (m : CellName) → IsNamed m x → place_of d x ≡ place_of_name m
      named_place x m v = rw (v.side, v.block, v.offset, v.what) refl

  new_input : (i : ℕ) → i ≡ count → IsInput base_then after.cells ns i
  new_input i e =
      let is : name D k b q ≡ base_then i = sym (ap base_then e ∙ new_name) in
      record {
        cell = cell;
        is_in = put.new;
        named = subst (λ m. IsNamed m cell) is (record { side = refl; block = refl; offset = refl; what = refl });
        shared = refl;
        formless = formless D k b q;
        sure = sure D k b q;
        written = subst (λ (m : CellName). (s : Side) (j : ℕ) → j < bytes_of m.t
            → (held_at (now s m.block) (m.offset + j)).written ≡ true) is written_here;
      }
    where
      written_here : (s : Side) (j : ℕ) → j < 1 → (held_at (now s b) (q + j)).written ≡ true
      written_here s j l =
          let z : q ≡ q + j = omega (arith, l) in
          subst (λ r. (held_at (now s b) r).written ≡ true) z (ap (λ (y : Held). y.written) (is_there s))

  -- an input that was taken, or the new one
  which : (i : ℕ) → i < count + 1 → (i < count) ⊎ (i ≡ count)
  which i l = by (nat_lt i count) refl
    where
      by : (t : Bool) → nat_lt i count ≡ t → (i < count) ⊎ (i ≡ count)
      by true t = inl (ltb-true i count t)
      by false t = inr (grind (arith, t, l))

  input_after : (i : ℕ) → i < count + 1 → IsInput base_then after.cells ns i
  input_after i l = by (which i l)
    where
      by : (i < count) ⊎ (i ≡ count) → IsInput base_then after.cells ns i
      by (inl f) = old_input i f
      by (inr f) = new_input i f

  new_touches : touches P (place_of_name (name D k b q)) ≡ true
  new_touches =
      and_from (nat_eq b b) (nat_lt q (q + 1) && nat_lt q (q + 1)) (nat_eq-self b)
      (and_from (nat_lt q (q + 1)) (nat_lt q (q + 1)) (lt-ltb q (q + 1) (omega arith)) (lt-ltb q (q + 1) (omega arith)))

  not_new : (i j : ℕ) → i < count → j ≡ count → base_then i ≡ base_then j → ⊥
  not_new i j l e same =
      both_ways (touches P (place_of_name (base_then i))) (clear_then i l)
      (ap (λ m. touches P (place_of_name m)) (same ∙ ap base_then e ∙ new_name) ∙ new_touches)

  own_after : (i j : ℕ) → i < count + 1 → j < count + 1 → base_then i ≡ base_then j → i ≡ j
  own_after i j l m e = by (which i l) (which j m)
    where
      by : (i < count) ⊎ (i ≡ count) → (j < count) ⊎ (j ≡ count) → i ≡ j
      by (inl f) (inl g) = h.own i j f g (sym (agree i f) ∙ e ∙ agree j g)
      by (inl f) (inr g) = absurd (not_new i j f g e)
      by (inr f) (inl g) = absurd (not_new j i g f (sym e))
      by (inr f) (inr g) = f ∙ sym g

  taken_after : (s : Side) (a r i m : ℕ) → symbol_at (now s a) r ≡ input_byte i m → i < count + 1
  taken_after s a r i m e =
      either a r
      (λ x y. by (sym (ap (λ (z : Held). z.symbol) (is_there s)) ∙ ap (symbol_at (now s b)) (sym y)
      ∙ ap (λ c. symbol_at (now s c) r) (sym x) ∙ e))
      (λ f. let l = h.taken s a r i m (ap (λ (z : Held). z.symbol) (sym (is_kept s a r f)) ∙ e) in omega (arith, l))
    where
      by : input_byte count 0 ≡ input_byte i m → i < count + 1
      by e = let f : count ≡ i = cc in omega (arith, f)

  pub moved_after : MovedBelow D p ord base_then ns after b n (suc q)
  moved_after = record {
    state = record {
      orders = h.state.orders;
      model = h.state.model;
      cells = laws.cells k P (cell ∷ []) h.state.cells (new D k b q (omega (arith, less, few)));
    };
    said = said_after;
    whole = whole_after;
    counts = ap (λ c. c + 1) h.counts;
    inputs = input_after;
    own = own_after;
    taken = taken_after;
    ends = λ s. (let l = size s b in let f = h.ends s in omega (arith, l, f));
  }
    where
      laws : ReplaceLaws D
      laws = of_replaces D (of_splits D law) (of_more_splits D law) (of_overwrites D)

-- ---- and what is still to be taken waits as it was

module _ {N : Type 0} (D : Ops N) (k : Known N) (b q : ℕ) where
  abbrev byte : ByteRange
  byte = record { side = Shared; block = b; offset = q; bytes = 1 }

  after_is : after_input D b q k ≡ write_shared D (Int U8) (b, q) (underway k (input_item D))
  after_is =
      let z : 0 + q ≡ q = omega arith in
      ap (λ t. cond t (write_shared D (Int U8) (b, 0 + q) (underway k (input_item D)))
      (write_shared_each D (Int U8) (all_spots ((b, 0 + q) ∷ []) ((b, 0 + q) ∷ [])) (underway k (input_item D))))
      (same_spot (b, 0 + q) (b, 0 + q) refl)
      ∙ ap (λ r. write_shared D (Int U8) (b, r) (underway k (input_item D))) z

  item_waits : form_by_replace D byte k None ≡ None → (after_input D b q k).item ≡ input_item D
  item_waits e =
      ap (λ (u : Underway N). u.item) after_is
      ∙ ap (λ f. record (input_item D) {
        pair = pair (record { value = (v D k b q).left.value; form = f })
            (record { value = (v D k b q).right.value; form = f }) (v D k b q).equal;
      }) e

pub input_bytes_keep : {N : Type 0} (D : Ops N) → Lawful D → InputBytesKeep D
input_bytes_keep D law p ord base ms k b n q less few h hs steps =
    let moved = moved_after D law p ord base ms k b n q less few h hs steps in
    let then_base = with_input base (ms left).inputs (name D k b q) in (
      then_base,
      item_waits D k b q (none_after D law p ord base ms k b n q less few h hs steps),
      subst (λ (u : Underway _). MovedBelow D p ord then_base (λ s. taken (remembers (ms s) b (hs s)) 1) u.known b n
          (suc q)) (sym (after_is D k b q)) moved,
    )
