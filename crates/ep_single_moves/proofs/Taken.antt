-- What a copy takes of a state that stands for one pair of memories is of one value, and has each byte that a cell has.
use Rattle.std.proofs.Common.{◌≡◌, ◌⊎◌, inl, inr, ⊎_elim, ℕ, zero, suc, ◌+◌, ◌-◌, ◌<◌, ◌≤◌, pos, Bool, true, false}
use Rattle.std.proofs.Common.{◌&&◌, ◌||◌, nat_eq, nat_le, nat_lt, cond, List, [], ◌∷◌, ◌++◌, Option, Some, None, refl}
use Rattle.std.proofs.Common.{sym, ap, ◌∙◌, subst, arith}
use Rattle.std.specs.List.{filter}
use Rattle.std.specs.Option.{option_map}
use Rattle.std.proofs.lemmas.Bool.{and_parts, and_from, eqb-true, eq-eqb, leb-true, ltb-true, le-leb, lt-ltb, cases_lt}
use Rattle.std.proofs.lemmas.Bool.{both_ways}
use Rattle.ep_int.specs.declared.types.Order.{Order}
use Rattle.ep_int.specs.declared.types.Model.{Model}
use Rattle.ep_int.specs.declared.types.Scalar.{Scalar}
use Rattle.ep_int.specs.declared.types.Scalar.TheVariants.{Int, Pointer}
use Rattle.ep_int.specs.declared.types.IntType.TheVariants.{U8}
use Rattle.ep_int.specs.Types.{bytes_of, size_of}
use Rattle.ep_int.specs.Memory.{Memory, Value as Datum, undefined, broken}
use Rattle.ep_int.proofs.Places.{width_of, place_below}
use Rattle.ep_bitslice.specs.declared.cell.Side.{Side}
use Rattle.ep_bitslice.specs.declared.cell.Side.TheVariants.{Left, Right, Shared}
use Rattle.ep_bitslice.specs.declared.segment.Segment.{Segment}
use Rattle.ep_domain.specs.Domain.{Ops, Lawful}
use Rattle.ep_pointers.specs.Value.{Pointers, HasOneMember, only_null, only_place}
use Rattle.ep_cells.specs.declared.cell.Cell.{Cell}
use Rattle.ep_cells.specs.declared.cell.Value.{Value}
use Rattle.ep_cells.specs.declared.cell.Value.TheVariants.{Num, Ptr}
use Rattle.ep_cells.specs.declared.place.ByteRange.{ByteRange}
use Rattle.ep_cells.specs.Cells.{IsIn, first, later, is_same_side, share_memory, place_of, touches, encloses, each_becomes}
use Rattle.ep_cells.specs.Look.{covers, cell_at}
use Rattle.ep_cells.specs.States.{Known, IsOfSort}
use Rattle.ep_cells.specs.Meaning.{Memories, Allows}
use Rattle.ep_cells.specs.Memories.{is_byte_of}
use Rattle.ep_cells.proofs.Beside.{nothing_stays}
use Rattle.ep_cells.proofs.Lists.{in_append, in_each, each_in, in_left, in_right}
use Rattle.ep_reads.specs.Bytes.{order_on, form_of_cell, byte_at, byte_form, has_targets}
use Rattle.ep_reads.specs.Split.{byte_with, byte_of_pointer, byte_of, bytes_of_cell, byte_cells}
use Rattle.ep_reads.proofs.Bytes.{cell_of}
use Rattle.ep_reads.proofs.ByteCells.{IsByteCell, byte_is}
use Rattle.ep_reads.proofs.Numbers.{small_number}
use Rattle.ep_reads.proofs.Sides.{side_same}
use Rattle.ep_reads.proofs.Splits.{filter_keeps}
use Rattle.ep_cell_ranges.specs.Moves.{place_at, taken_cell, taken_if, taken, is_whole_shared, taken_left, taken_right}
use Rattle.ep_cell_ranges.specs.Moves.{taken_by_both}
use Rattle.ep_cell_ranges.specs.Spots.{Spot}
use Rattle.ep_cell_ranges.proofs.TakenCells.{whole_cell, taken_byte, IsTaken, whole, byte, Taken, is_taken}
use Rattle.ep_singles.specs.Cells.{IsOneValue, one_number, one_pointer, IsOneCell, no_value, one_value, IsOne}
use Rattle.ep_singles.specs.Laws.{IsMachine}
use Rattle.ep_singles.proofs.Sums.{byte_single}
use Rattle.ep_singles.proofs.Bytes.{in_range}
use Rattle.ep_singles.proofs.Covers.{has_side, share_both, not_covering, found_covers, side_covers}
use Rattle.ep_single_moves.specs.Laws.{TakesOne}

-- ---- the bytes of a cell of one value

module _ {N : Type 0} (D : Ops N) where
  byte_none : (o : Order) (s : Side) (f : Option (List Segment)) (x : Cell N) (w : Scalar) (u : Option (Value N))
      (j : ℕ) → u ≡ None → IsOneCell D (byte_of D o s f x w u j)
  byte_none o s f x (Int t) None j e = no_value refl
  byte_none o s f x Pointer None j e = no_value refl
  byte_none o s f x w (Some u) j e = absurd (let d : Some u ≡ None = e in cc)

  module _ (law : Lawful D) where
    null_or_none : (s : Side) (x : Cell N) (p : ℕ) (v : Pointers N) → x.maybe ≡ false → HasOneMember D v
        → IsOneCell D (byte_with s x p (byte_of_pointer D v) (x.maybe || has_targets v) None)
    null_or_none s x p v t (only_null e) =
        subst (λ v. IsOneCell D (byte_with s x p (byte_of_pointer D v) (x.maybe || has_targets v) None)) (sym e)
        (one_value (ap (λ b. b || false) t)
        (one_number (D.single (pos 0)) (pos 0) (law.single_range (pos 0) (small_number 0 (omega arith)))))
    null_or_none s x p v t (only_place c n z e i) =
        subst (λ v. IsOneCell D (byte_with s x p (byte_of_pointer D v) (x.maybe || has_targets v) None)) (sym e)
        (no_value refl)

    byte_some : (d : Model) (o : Order) (s : Side) (f : Option (List Segment)) (x : Cell N) (w : Scalar)
        (u : Option (Value N)) (j : ℕ) (v : Option Datum) → IsOneValue D u → x.maybe ≡ false → IsOfSort w u
        → j < size_of d w → Allows D w u x.maybe v → IsOneCell D (byte_of D o s f x w u j)
    byte_some d o s f x (Int t) None j v i m e l a = elim i [ ]
    byte_some d o s f x Pointer None j v i m e l a = elim i [ ]
    byte_some d o s f x (Int t) (Some (Num n)) j v (one_number _ z h) m e l a =
        let g = byte_single D law t (byte_at o t j) n z (place_below o (bytes_of t) j (width_of t) l)
        (in_range D law {t = t} n z x.maybe v m h a) h in
        subst (λ r. IsOneCell D (byte_with s x j r x.maybe (option_map (byte_form (byte_at o t j)) f))) (sym g.is)
        (one_value m (one_number g.one _ g.holds))
    byte_some d o s f x Pointer (Some (Ptr p)) j v (one_pointer _ h) m e l a = null_or_none s x j p m h
    byte_some d o s f x (Int t) (Some (Ptr p)) j v i m e l a = absurd e
    byte_some d o s f x Pointer (Some (Num n)) j v i m e l a = absurd e

    byte_stays_one : (d : Model) (o : Order) (s : Side) (f : Option (List Segment)) (x : Cell N) (j : ℕ)
        (v : Option Datum) → IsOneCell D x → IsOfSort x.what x.value → j < size_of d x.what
        → Allows D x.what x.value x.maybe v → IsOneCell D (byte_of D o s f x x.what x.value j)
    byte_stays_one d o s f x j v (no_value n) e l a = byte_none o s f x x.what x.value j n
    byte_stays_one d o s f x j v (one_value t i) e l a = byte_some d o s f x x.what x.value j v i t e l a

    -- ---- what is taken

    whole_stays_one : (s : Side) (x : Cell N) → IsOneCell D x → IsOneCell D (whole_cell D s x)
    whole_stays_one s x (no_value e) = no_value e
    whole_stays_one s x (one_value t v) = one_value t v

    taken_one : (k : Known N) (m : Memories) → IsOne D k m → (p : ByteRange) (s : Side) (x y : Cell N)
        → IsIn x k.cells → IsTaken D k p s x y → IsOneCell D y
    taken_one k m one p s x y i (whole e is) =
        subst (IsOneCell D) (sym is) (whole_stays_one s x (one.each x i))
    taken_one k m one p s x y i (byte j e l is h) =
        let says = one.holds.cells x i in
        subst (IsOneCell D) (sym is)
        (byte_stays_one k.model (order_on p.side k.orders) p.side (form_of_cell x) x j says.datum (one.each x i)
        (one.cells.each x i).fits.sort l says.allowed)

    -- of the side, where the right takes no whole Shared cell
    right_is : (k : Known N) (p : ByteRange) (x y : Cell N) (b : Bool) → IsIn y (cond b [] (taken_if D k p p.side x))
        → Taken D k p p.side x y
    right_is k p x y true h = elim h [ ]
    right_is k p x y false h = is_taken D k p p.side x y h

    pub taken_are_one : (k : Known N) (m : Memories) → IsOne D k m → TakesOne D k
    taken_are_one k m one = record {
      alone = λ p e y h.
          let r = in_each (taken_if D k p p.side) y k.cells h in
          taken_one k m one p p.side r.origin y r.is_in (is_taken D k p p.side r.origin y r.becomes).is;
      both = λ q n y h.
          let pl = place_at Left q n in
          let pr = place_at Right q n in
          ⊎_elim
          (λ i.
          let r = in_each (taken_left D k pl) y k.cells i in
          let s = cond (is_whole_shared D k pl r.origin) Shared Left in
          taken_one k m one pl s r.origin y r.is_in (is_taken D k pl s r.origin y r.becomes).is)
          (λ i.
          let r = in_each (taken_right D k pr) y k.cells i in
          taken_one k m one pr Right r.origin y r.is_in
          (right_is k pr r.origin y (is_whole_shared D k pr r.origin) r.becomes).is)
          (in_append y (each_becomes (taken_left D k pl) k.cells) (each_becomes (taken_right D k pr) k.cells) h);
    }

-- ---- each byte of a place that a cell has is one of what is taken

some_byte : {N : Type 0} (P : Cell N → Type 0) (g : ℕ → Cell N) (p n j : ℕ) → p ≤ j → j < p + n → P (g j)
    → (y : Cell N) × IsIn y (bytes_of_cell g p n) × P y
some_byte P g p zero j l u h = absurd (omega (arith, l, u))
some_byte {N = N} P g p (suc n) j l u h = by_place (cases_lt p j) (λ i. some_byte P g (p + 1) n j i)
  where
    at_once : j ≤ p → j ≡ p
    at_once i = omega (arith, i, l)

    by_place : (p < j) ⊎ (j ≤ p)
        → (p + 1 ≤ j → j < p + 1 + n → P (g j) → (y : Cell N) × IsIn y (bytes_of_cell g (p + 1) n) × P y)
        → (y : Cell N) × IsIn y (g p ∷ bytes_of_cell g (p + 1) n) × P y
    by_place (inl i) f =
        let r = f (omega (arith, i)) (omega (arith, u)) h in
        (r.0, later (g p) (bytes_of_cell g (p + 1) n) r.1, r.2)
    by_place (inr i) f = (g p, first (bytes_of_cell g (p + 1) n), subst (λ k. P (g k)) (at_once i) h)

module _ {N : Type 0} where
  -- it lies in a place, and has this byte of a machine
  pub record HasByteIn (d : Model) (p : ByteRange) (q : Side) (b r : ℕ) (y : Cell N) : Type 0 where
    pub inside : encloses p (place_of d y) ≡ true
    pub covers_it : covers d q b r y ≡ true

  byte_has : (d : Model) (p : ByteRange) (s q : Side) (b o c r : ℕ) (y : Cell N) → IsByteCell s b o y
      → has_side s q ≡ true → nat_eq b c ≡ true → o ≡ r → is_byte_of p c r ≡ true → HasByteIn d p q c r y
  byte_has d p s q b o c r y i h e f l =
      let a = and_parts (nat_eq p.block c) (nat_le p.offset r && nat_lt r (p.offset + p.bytes)) l in
      let u = and_parts (nat_le p.offset r) (nat_lt r (p.offset + p.bytes)) a.1 in
      let low = leb-true p.offset r u.0 in
      let high = ltb-true r (p.offset + p.bytes) u.1 in
      subst (HasByteIn d p q c r) (sym i.is)
      (let t : HasByteIn d p q c r (cell_of s b o (Int U8) i.value i.maybe i.form) = record {
        inside = and_from (nat_le p.offset o) (nat_le (o + 1) (p.offset + p.bytes))
            (le-leb p.offset o (omega (arith, low, f)))
            (le-leb (o + 1) (p.offset + p.bytes) (omega (arith, high, f)));
        covers_it = and_from (has_side s q) (nat_eq b c && (nat_le o r && nat_lt r (o + 1))) h
            (and_from (nat_eq b c) (nat_le o r && nat_lt r (o + 1)) e
            (and_from (nat_le o r) (nat_lt r (o + 1)) (le-leb o r (omega (arith, f)))
            (lt-ltb r (o + 1) (omega (arith, f)))));
      } in t)

module _ {N : Type 0} (D : Ops N) (k : Known N) (p : ByteRange) (s q : Side) (x : Cell N) (c r : ℕ)
    (own : encloses p (place_of k.model x) ≡ false → has_side p.side q ≡ true) (gets : has_side s q ≡ true) (share : share_memory p.side x.side ≡ true)
    (has : covers k.model q c r x ≡ true) (inside : is_byte_of p c r ≡ true) where
  abbrev Gets : List (Cell N) → Type 0
  Gets ys = (y : Cell N) × IsIn y ys × (covers k.model q c r y ≡ true)

  lies : (nat_eq x.block c ≡ true) × ((nat_le x.offset r && nat_lt r (x.offset + size_of k.model x.what)) ≡ true)
  lies =
      and_parts (nat_eq x.block c) (nat_le x.offset r && nat_lt r (x.offset + size_of k.model x.what))
      (and_parts (has_side x.side q)
      (nat_eq x.block c && (nat_le x.offset r && nat_lt r (x.offset + size_of k.model x.what))) has).1

  within : (x.offset ≤ r) × (r < x.offset + size_of k.model x.what)
  within =
      let a = and_parts (nat_le x.offset r) (nat_lt r (x.offset + size_of k.model x.what)) lies.1 in
      (leb-true x.offset r a.0, ltb-true r (x.offset + size_of k.model x.what) a.1)

  placed : (nat_eq p.block c ≡ true) × ((p.offset ≤ r) × (r < p.offset + p.bytes))
  placed =
      let a = and_parts (nat_eq p.block c) (nat_le p.offset r && nat_lt r (p.offset + p.bytes)) inside in
      let b = and_parts (nat_le p.offset r) (nat_lt r (p.offset + p.bytes)) a.1 in
      (a.0, (leb-true p.offset r b.0, ltb-true r (p.offset + p.bytes) b.1))

  touched : touches p (place_of k.model x) ≡ true
  touched =
      let e = eqb-true p.block c placed.0 in
      let f = eqb-true x.block c lies.0 in
      let a = placed.1.0 in
      let b = placed.1.1 in
      let l = within.0 in
      let u = within.1 in
      and_from (nat_eq p.block x.block) (nat_lt p.offset (x.offset + size_of k.model x.what) && nat_lt x.offset
      (p.offset + p.bytes)) (eq-eqb p.block x.block (e ∙ sym f))
      (and_from (nat_lt p.offset (x.offset + size_of k.model x.what)) (nat_lt x.offset (p.offset + p.bytes))
      (lt-ltb p.offset (x.offset + size_of k.model x.what) (omega (arith, a, u)))
      (lt-ltb x.offset (p.offset + p.bytes) (omega (arith, b, l))))

  cell_has : (b : Bool) → encloses p (place_of k.model x) ≡ b
      → Gets (cond b (whole_cell D s x ∷ []) (filter (λ y. encloses p (place_of k.model y))
      (byte_cells D k.model (order_on p.side k.orders) p.side (form_of_cell x) x)))
  cell_has true e = (whole_cell D s x, first [], side_covers k.model q c r x s has gets)
  cell_has false e =
      let l = within.0 in
      let u = within.1 in
      let g = taken_byte D k p x in
      let t = some_byte (HasByteIn k.model p q c r) g 0 (size_of k.model x.what) (r - x.offset) (omega arith)
      (omega (arith, l, u))
      (byte_has k.model p p.side q x.block (x.offset + (r - x.offset)) c r (g (r - x.offset))
      (byte_is D (order_on p.side k.orders) p.side (form_of_cell x) x x.what x.value (r - x.offset)) (own e) lies.0
      (omega (arith, l)) inside) in (
        t.0,
        filter_keeps (λ y. encloses p (place_of k.model y)) t.0
            (byte_cells D k.model (order_on p.side k.orders) p.side (form_of_cell x) x) t.1 t.2.inside,
        t.2.covers_it,
      )

  taken_gets : Gets (taken_if D k p s x)
  taken_gets =
      subst (λ b. Gets (cond b (taken_cell D k p s x) []))
      (sym (and_from (share_memory p.side x.side) (touches p (place_of k.model x)) share touched))
      (cell_has (encloses p (place_of k.model x)) refl)

-- ---- what is undefined where nothing that is taken has it

module _ {N : Type 0} (D : Ops N) (k : Known N) (q : Side) (m n : Memory) (p : ByteRange)
    (outside : (b r : ℕ) → cell_at k.model q b r k.cells ≡ None → m b r ≡ undefined)
    (loose : (b r : ℕ) → n b r ≡ broken k.model m p.block p.offset p.bytes b r) (xs : List (Cell N))
    (gets : (x : Cell N) (b r : ℕ) → IsIn x k.cells → covers k.model q b r x ≡ true → is_byte_of p b r ≡ true
    → (y : Cell N) × IsIn y xs × (covers k.model q b r y ≡ true)) where
  filled_so : (b r : ℕ) → is_byte_of p b r ≡ true → cell_at k.model q b r xs ≡ None → n b r ≡ undefined
  filled_so b r i e = by_cell (cell_at k.model q b r k.cells) refl
    where
      by_cell : (o : Option (Cell N)) → cell_at k.model q b r k.cells ≡ o → n b r ≡ undefined
      by_cell None f = loose b r ∙ nothing_stays k.model m p.block p.offset p.bytes b r (outside b r f)
      by_cell (Some x) f =
          let c = found_covers k.model q b r k.cells x f in
          let y = gets x b r c.0 c.1 i in
          absurd (both_ways (covers k.model q b r y.0) (not_covering k.model q b r xs y.0 e y.1) y.2)

-- what one side takes
side_shares : (s : Side) (x : Side) → IsMachine s → has_side x s ≡ true → share_memory s x ≡ true
side_shares Left x i h = share_both Left x Left tt refl h
side_shares Right x i h = share_both Right x Right tt refl h
side_shares Shared x i h = absurd i

own_side : (s : Side) → IsMachine s → has_side s s ≡ true
own_side Left i = refl
own_side Right i = refl
own_side Shared i = absurd i

pub alone_filled : {N : Type 0} (D : Ops N) (k : Known N) (p : ByteRange) (m n : Memory) → IsMachine p.side
    → ((b r : ℕ) → cell_at k.model p.side b r k.cells ≡ None → m b r ≡ undefined)
    → ((b r : ℕ) → n b r ≡ broken k.model m p.block p.offset p.bytes b r) → (b r : ℕ) → is_byte_of p b r ≡ true
    → cell_at k.model p.side b r (taken D k p) ≡ None → n b r ≡ undefined
alone_filled D k p m n i outside loose =
    filled_so D k p.side m n p outside loose (taken D k p)
    (λ x b r j h l.
    let g = taken_gets D k p p.side p.side x b r (λ o. own_side p.side i) (own_side p.side i)
    (side_shares p.side x.side i (and_parts (has_side x.side p.side)
    (nat_eq x.block b && (nat_le x.offset r && nat_lt r (x.offset + size_of k.model x.what))) h).0) h l in
    (g.0, each_in (taken_if D k p p.side) x g.0 k.cells j g.1, g.2))

-- what both sides take, seen from either
module _ {N : Type 0} (D : Ops N) (k : Known N) (p : Spot) (n : ℕ) where
  abbrev lefts : List (Cell N)
  lefts = each_becomes (taken_left D k (place_at Left p n)) k.cells

  abbrev rights : List (Cell N)
  rights = each_becomes (taken_right D k (place_at Right p n)) k.cells

  of_side : (x : Cell N) (q : Side) (b r : ℕ) → covers k.model q b r x ≡ true → has_side x.side q ≡ true
  of_side x q b r h =
      (and_parts (has_side x.side q)
      (nat_eq x.block b && (nat_le x.offset r && nat_lt r (x.offset + size_of k.model x.what))) h).0

  left_side : (b : Bool) → has_side (cond b Shared Left) Left ≡ true
  left_side true = refl
  left_side false = refl

  pub left_filled : (m o : Memory) → ((b r : ℕ) → cell_at k.model Left b r k.cells ≡ None → m b r ≡ undefined)
      → ((b r : ℕ) → o b r ≡ broken k.model m p.0 p.1 n b r) → (b r : ℕ)
      → is_byte_of (place_at Shared p n) b r ≡ true → cell_at k.model Left b r (taken_by_both D k p n) ≡ None
      → o b r ≡ undefined
  left_filled m o outside loose =
      filled_so D k Left m o (place_at Left p n) outside loose (taken_by_both D k p n)
      (λ x b r j h l.
      let s = cond (is_whole_shared D k (place_at Left p n) x) Shared Left in
      let g = taken_gets D k (place_at Left p n) s Left x b r (λ o. refl)
      (left_side (is_whole_shared D k (place_at Left p n) x)) (side_shares Left x.side tt (of_side x Left b r h)) h l in
      (g.0, in_left g.0 lefts rights (each_in (taken_left D k (place_at Left p n)) x g.0 k.cells j g.1), g.2))

  right_gets : (x : Cell N) (b r : ℕ) (t : Bool) → is_whole_shared D k (place_at Left p n) x ≡ t → IsIn x k.cells
      → covers k.model Right b r x ≡ true → is_byte_of (place_at Shared p n) b r ≡ true
      → (y : Cell N) × IsIn y (lefts ++ rights) × (covers k.model Right b r y ≡ true)
  right_gets x b r true e j h l =
      let pl = place_at Left p n in
      let a = and_parts (is_same_side x.side Shared) (encloses pl (place_of k.model x)) e in
      let g = taken_gets D k pl Shared Right x b r
      (λ o. absurd (both_ways (encloses pl (place_of k.model x)) o a.1)) refl
      (ap (share_memory Left) (side_same x.side Shared a.0)) h l in (
        g.0,
        in_left g.0 lefts rights
            (each_in (taken_left D k pl) x g.0 k.cells j
            (subst (λ t. IsIn g.0 (taken_if D k pl (cond t Shared Left) x)) (sym e) g.1)),
        g.2,
      )
  right_gets x b r false e j h l =
      let pr = place_at Right p n in
      let g = taken_gets D k pr Right Right x b r (λ o. refl) refl (side_shares Right x.side tt (of_side x Right b r h))
      h l in (
        g.0,
        in_right g.0 lefts rights
            (each_in (taken_right D k pr) x g.0 k.cells j
            (subst (λ t. IsIn g.0 (cond t [] (taken_if D k pr Right x))) (sym e) g.1)),
        g.2,
      )

  pub right_filled : (m o : Memory) → ((b r : ℕ) → cell_at k.model Right b r k.cells ≡ None → m b r ≡ undefined)
      → ((b r : ℕ) → o b r ≡ broken k.model m p.0 p.1 n b r) → (b r : ℕ)
      → is_byte_of (place_at Shared p n) b r ≡ true → cell_at k.model Right b r (taken_by_both D k p n) ≡ None
      → o b r ≡ undefined
  right_filled m o outside loose =
      filled_so D k Right m o (place_at Right p n) outside loose (taken_by_both D k p n)
      (λ x b r j h l. right_gets x b r (is_whole_shared D k (place_at Left p n) x) refl j h l)
