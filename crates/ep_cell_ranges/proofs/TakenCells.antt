-- What a copy takes of one cell.
use Rattle.std.proofs.Common.{◌≡◌, ℕ, ◌+◌, ◌<◌, ◌≤◌, Bool, true, false, ◌&&◌, nat_eq, nat_lt, nat_le, cond, List, []}
use Rattle.ep_int.proofs.Basics.{size_positive}
use Rattle.ep_cells.proofs.Places.{side_below}
use Rattle.std.proofs.Common.{◌∷◌, ⊎_elim, Option, Some, None, IfSome, refl, sym, ap, ◌∙◌, subst, arith}
use Rattle.std.specs.List.{filter}
use Rattle.std.proofs.lemmas.Bool.{and_parts, and_from, and_cases, and_right, leb-true, ltb-false, le-leb, eqb-true}
use Rattle.std.proofs.lemmas.Bool.{eq-eqb, false_from_ne_true, both_ways}
use Rattle.ep_int.specs.declared.types.Model.{Model}
use Rattle.ep_int.specs.declared.types.IntType.TheVariants.{U8}
use Rattle.ep_int.specs.declared.types.Scalar.TheVariants.{Int}
use Rattle.ep_int.specs.Types.{size_of}
use Rattle.ep_bitslice.specs.declared.cell.Side.{Side}
use Rattle.ep_bitslice.specs.declared.segment.Segment.{Segment}
use Rattle.ep_domain.specs.Domain.{Ops}
use Rattle.ep_cells.specs.declared.cell.Cell.{Cell}
use Rattle.ep_cells.specs.declared.place.ByteRange.{ByteRange}
use Rattle.ep_cells.specs.Cells.{share_memory, place_of, touches, meets, encloses, key_of, IsIn, first, later}
use Rattle.ep_cells.specs.States.{Known, IsFormOf, HasForm, Each, EachPair, AreApart, IsCell, AreCells}
use Rattle.ep_cells.proofs.Lists.{each_from, each_at}
use Rattle.ep_cells.proofs.Places.{Before, in_block, by_block, before_true, before_from}
use Rattle.ep_reads.specs.Bytes.{order_on, form_of_cell}
use Rattle.ep_reads.specs.Split.{byte_of, byte_cells}
use Rattle.ep_reads.proofs.Bytes.{cell_of, cell_form_fits}
use Rattle.ep_reads.proofs.ByteCells.{IsByteCell, byte_is, byte_cell, byte_has_form, one_of, bytes_pairs}
use Rattle.ep_cell_ranges.specs.Moves.{taken_cell, taken_if}
use Rattle.ep_cell_ranges.proofs.Overwrites.{touches_more}

-- ---- filtered lists

in_filter_by : {N : Type 0} (test : Cell N → Bool) (y c : Cell N) (cs : List (Cell N)) (b : Bool) → test c ≡ b
    → (IsIn y (filter test cs) → IsIn y cs × (test y ≡ true)) → IsIn y (cond b (c ∷ filter test cs) (filter test cs))
    → IsIn y (c ∷ cs) × (test y ≡ true)
in_filter_by test y _ cs true e more (first _) = (first cs, e)
in_filter_by test y c cs true e more (later _ _ h) = let r = more h in (later c cs r.0, r.1)
in_filter_by test y c cs false e more h = let r = more h in (later c cs r.0, r.1)

in_filter : {N : Type 0} (test : Cell N → Bool) (y : Cell N) (cs : List (Cell N)) → IsIn y (filter test cs)
    → IsIn y cs × (test y ≡ true)
in_filter test y [] h = elim h [ ]
in_filter test y (c ∷ cs) h = in_filter_by test y c cs (test c) refl (λ i. in_filter test y cs i) h

filter_pairs_by : {N : Type 0} (R : Cell N → Cell N → Type 0) (test : Cell N → Bool) (c : Cell N) (cs : List (Cell N))
    (b : Bool) → Each (R c) (filter test cs) → EachPair R (filter test cs)
    → EachPair R (cond b (c ∷ filter test cs) (filter test cs))
filter_pairs_by R test c cs true e p = (e, p)
filter_pairs_by R test c cs false e p = p

filter_pairs : {N : Type 0} (R : Cell N → Cell N → Type 0) (test : Cell N → Bool) (cs : List (Cell N)) → EachPair R cs
    → EachPair R (filter test cs)
filter_pairs R test [] p = tt
filter_pairs R test (c ∷ cs) p =
    filter_pairs_by R test c cs (test c)
    (each_from (R c) (filter test cs) (λ y h. each_at (R c) y cs p.0 (in_filter test y cs h).0))
    (filter_pairs R test cs p.1)

-- ---- places

pub touches_sym : (p q : ByteRange) → touches p q ≡ true → touches q p ≡ true
touches_sym p q h =
    let a = and_parts (nat_eq p.block q.block) (nat_lt p.offset (q.offset + q.bytes) && nat_lt q.offset
    (p.offset + p.bytes)) h in
    let b = and_parts (nat_lt p.offset (q.offset + q.bytes)) (nat_lt q.offset (p.offset + p.bytes)) a.1 in
    and_from (nat_eq q.block p.block) (nat_lt q.offset (p.offset + p.bytes) && nat_lt p.offset (q.offset + q.bytes))
    (eq-eqb q.block p.block (sym (eqb-true p.block q.block a.0)))
    (and_from (nat_lt q.offset (p.offset + p.bytes)) (nat_lt p.offset (q.offset + q.bytes)) b.1 b.0)

module _ {N : Type 0} where
  -- a cell lies in another one
  pub record LiesIn (d : Model) (x y : Cell N) : Type 0 where
    pub block : y.block ≡ x.block
    pub bytes : encloses (place_of d x) (place_of d y) ≡ true

  -- cells in cells that don't touch don't touch
  pub parts_miss : (d : Model) (x z a b : Cell N) → LiesIn d x a → LiesIn d z b
      → touches (place_of d x) (place_of d z) ≡ false → touches (place_of d a) (place_of d b) ≡ false
  parts_miss d x z a b l r e =
      false_from_ne_true (touches (place_of d a) (place_of d b)) (λ h.
      let one = touches_more (place_of d x) (place_of d a) (place_of d b) l.block l.bytes h in
      let two = touches_more (place_of d z) (place_of d b) (place_of d x) r.block r.bytes
      (touches_sym (place_of d x) (place_of d b) one) in
      both_ways (touches (place_of d x) (place_of d z)) e (touches_sym (place_of d z) (place_of d x) two))

  -- of two cells of one memory and block, the later one begins where the earlier one ends, or later
  past : (d : Model) (x z : Cell N) → AreApart d x z → share_memory x.side z.side ≡ true → x.block ≡ z.block
      → x.offset + size_of d x.what ≤ z.offset
  past d x z a s e =
      ⊎_elim (λ f. absurd (both_ways (share_memory x.side z.side) f s))
      (λ f. ⊎_elim (λ g. absurd (both_ways (nat_eq x.block z.block) g (eq-eqb x.block z.block e)))
      (λ g. by (before_true x.block (key_of x) z.block (key_of z) a.ordered) g)
      (and_cases (nat_eq x.block z.block) (nat_lt x.offset (z.offset + size_of d z.what) && nat_lt z.offset
      (x.offset + size_of d x.what)) f))
      (and_cases (share_memory x.side z.side) (touches (place_of d x) (place_of d z)) a.apart)
    where
      by : Before x.block (key_of x) z.block (key_of z)
          → (nat_lt x.offset (z.offset + size_of d z.what) && nat_lt z.offset (x.offset + size_of d x.what)) ≡ false
          → x.offset + size_of d x.what ≤ z.offset
      by (by_block l) g = absurd (omega (arith, l, e))
      by (in_block i l) g =
          ⊎_elim
          (λ f. absurd (omega (
            arith,
            ltb-false x.offset (z.offset + size_of d z.what) f,
            l,
            side_below
                x.side,
            side_below z.side,
            size_positive d z.what,
          )))
          (λ f. ltb-false z.offset (x.offset + size_of d x.what) f)
          (and_cases (nat_lt x.offset (z.offset + size_of d z.what)) (nat_lt z.offset (x.offset + size_of d x.what)) g)

  -- cells in cells of one memory are in order, on whatever sides
  pub parts_apart : (d : Model) (x z a b : Cell N) → AreApart d x z → share_memory x.side z.side ≡ true
      → a.block ≡ b.block → LiesIn d x a → LiesIn d z b → AreApart d a b
  parts_apart d x z a b h s e l r =
      let same : x.block ≡ z.block = sym l.block ∙ e ∙ r.block in
      let far = past d x z h s same in
      let i = and_parts (nat_le x.offset a.offset) (nat_le (a.offset + size_of d a.what) (x.offset + size_of d x.what))
      l.bytes in
      let j = and_parts (nat_le z.offset b.offset) (nat_le (b.offset + size_of d b.what) (z.offset + size_of d z.what))
      r.bytes in
      let to = leb-true (a.offset + size_of d a.what) (x.offset + size_of d x.what) i.1 in
      let from = leb-true z.offset b.offset j.0 in
      record {
        ordered = before_from a.block (key_of a) b.block (key_of b)
            (in_block e (omega (arith, far, to, from, side_below a.side, side_below b.side, size_positive d a.what)));
        apart = and_right (share_memory a.side b.side) (touches (place_of d a) (place_of d b))
            (parts_miss d x z a b l r (false_from_ne_true (touches (place_of d x) (place_of d z)) (λ t.
            both_ways (meets (place_of d x) (place_of d z)) h.apart
            (and_from (share_memory x.side z.side) (touches (place_of d x) (place_of d z)) s t))));
      }

-- ---- what is taken

module _ {N : Type 0} (D : Ops N) where
  abbrev pub whole_cell : Side → Cell N → Cell N
  whole_cell s x = record x { side = s; form = form_of_cell x }

  abbrev pub taken_byte : Known N → ByteRange → Cell N → ℕ → Cell N
  taken_byte k p x j = byte_of D (order_on p.side k.orders) p.side (form_of_cell x) x x.what x.value j

  pub data IsTaken (k : Known N) (p : ByteRange) (s : Side) (x y : Cell N) : Type 0 where
    whole : encloses p (place_of k.model x) ≡ true → y ≡ whole_cell s x → IsTaken k p s x y
    byte : (j : ℕ) → encloses p (place_of k.model x) ≡ false → j < size_of k.model x.what → y ≡ taken_byte k p x j
        → encloses p (place_of k.model y) ≡ true → IsTaken k p s x y

  pub record Taken (k : Known N) (p : ByteRange) (s : Side) (x y : Cell N) : Type 0 where
    pub share : share_memory p.side x.side ≡ true
    pub touch : touches p (place_of k.model x) ≡ true
    pub is : IsTaken k p s x y

  taken_by : (k : Known N) (p : ByteRange) (s : Side) (x y : Cell N) (b : Bool) → encloses p (place_of k.model x) ≡ b
      → IsIn y (cond b (whole_cell s x ∷ []) (filter (λ z. encloses p (place_of k.model z))
      (byte_cells D k.model (order_on p.side k.orders) p.side (form_of_cell x) x))) → IsTaken k p s x y
  taken_by k p s x _ true e (first _) = whole e refl
  taken_by k p s x y true e (later _ _ h) = elim h [ ]
  taken_by k p s x y false e h =
      let r = in_filter (λ z. encloses p (place_of k.model z)) y (byte_cells D k.model (order_on p.side k.orders) p.side
      (form_of_cell x) x) h in
      let o = one_of (taken_byte k p x) 0 (size_of k.model x.what) y r.0 in
      byte o.place e (omega (arith, o.high)) o.is r.1

  if_by : (k : Known N) (p : ByteRange) (s : Side) (x y : Cell N) (b : Bool)
      → (share_memory p.side x.side && touches p (place_of k.model x)) ≡ b
      → IsIn y (cond b (taken_cell D k p s x) []) → Taken k p s x y
  if_by k p s x y true e h =
      let q = and_parts (share_memory p.side x.side) (touches p (place_of k.model x)) e in record {
        share = q.0;
        touch = q.1;
        is = taken_by k p s x y (encloses p (place_of k.model x)) refl h;
      }
  if_by k p s x y false e h = elim h [ ]

  pub is_taken : (k : Known N) (p : ByteRange) (s : Side) (x y : Cell N) → IsIn y (taken_if D k p s x) → Taken k p s x y
  is_taken k p s x y h = if_by k p s x y (share_memory p.side x.side && touches p (place_of k.model x)) refl h

  -- ---- where it lies

  byte_lies : (d : Model) (x y : Cell N) (s : Side) (j : ℕ) → j < size_of d x.what
      → IsByteCell s x.block (x.offset + j) y
      → LiesIn d x y
  byte_lies d x y s j l b =
      subst (LiesIn d x) (sym b.is)
      (let r : LiesIn d x (cell_of s x.block (x.offset + j) (Int U8) b.value b.maybe b.form) = record {
        block = refl;
        bytes = and_from (nat_le x.offset (x.offset + j)) (nat_le (x.offset + j + 1) (x.offset + size_of d x.what))
            (le-leb x.offset (x.offset + j) (omega arith)) (le-leb (x.offset + j + 1) (x.offset + size_of d x.what)
            (omega (arith, l)));
      } in r)

  pub taken_lies : (k : Known N) (p : ByteRange) (s : Side) (x y : Cell N) → IsTaken k p s x y → LiesIn k.model x y
  taken_lies k p s x y (whole e is) =
      subst (LiesIn k.model x) (sym is)
      (let r : LiesIn k.model x (whole_cell s x) = record {
        block = refl;
        bytes = and_from (nat_le x.offset x.offset) (nat_le (x.offset + size_of k.model x.what)
            (x.offset + size_of k.model x.what))
            (le-leb x.offset x.offset (omega arith)) (le-leb (x.offset + size_of k.model x.what)
            (x.offset + size_of k.model x.what) (omega arith));
      } in r)
  taken_lies k p s x y (byte j e l is i) =
      byte_lies k.model x y p.side j l (subst (IsByteCell p.side x.block (x.offset + j)) (sym is)
      (byte_is D (order_on p.side k.orders) p.side (form_of_cell x) x x.what x.value j))

  pub taken_encloses : (k : Known N) (p : ByteRange) (s : Side) (x y : Cell N) → IsTaken k p s x y
      → encloses p (place_of k.model y) ≡ true
  taken_encloses k p s x y (whole e is) = subst (λ z. encloses p (place_of k.model z) ≡ true) (sym is) e
  taken_encloses k p s x y (byte j e l is i) = i

  -- its side: the given one of a whole cell, and that of the place of a byte
  pub taken_side : (k : Known N) (p : ByteRange) (x y : Cell N) → IsTaken k p p.side x y → y.side ≡ p.side
  taken_side k p x y (whole e is) = ap (λ (z : Cell N). z.side) is
  taken_side k p x y (byte j e l is i) =
      ap (λ (z : Cell N). z.side) (is
      ∙ (byte_is D (order_on p.side k.orders) p.side (form_of_cell x) x x.what x.value j).is)

  pub taken_block : (k : Known N) (p : ByteRange) (s : Side) (x y : Cell N) → Taken k p s x y → y.block ≡ p.block
  taken_block k p s x y t =
      let a = and_parts (nat_eq p.block x.block) (nat_lt p.offset (x.offset + size_of k.model x.what) && nat_lt x.offset
      (p.offset + p.bytes)) t.touch in
      (taken_lies k p s x y t.is).block ∙ sym (eqb-true p.block x.block a.0)

  -- ---- it is a cell, with a form

  whole_is_cell : (d : Model) (s : Side) (x : Cell N) → IsCell d x → IsCell d (whole_cell s x)
  whole_is_cell d s x c = record {
    fits = record { sort = c.fits.sort; undefined = c.fits.undefined; last = c.fits.last };
    rising = c.rising;
  }

  pub taken_is_cell : (k : Known N) (p : ByteRange) (s : Side) (x y : Cell N) → IsTaken k p s x y → IsCell k.model x
      → IsCell k.model y
  taken_is_cell k p s x y (whole e is) c = subst (IsCell k.model) (sym is) (whole_is_cell k.model s x c)
  taken_is_cell k p s x y (byte j e l is i) c =
      let last = c.fits.last in
      subst (IsCell k.model) (sym is)
      (byte_cell k.model p.side x.block (x.offset + j) (taken_byte k p x j)
      (byte_is D (order_on p.side k.orders) p.side (form_of_cell x) x x.what x.value j) (omega (arith, last, l)))

  whole_form : (cs : List (Cell N)) (s : Side) (x : Cell N) (f o : Option (List Segment)) → IfSome o (IsFormOf cs x)
      → IfSome o (IsFormOf cs (record x { side = s; form = f }))
  whole_form cs s x f None h = tt
  whole_form cs s x f (Some ss) h = record { sure = h.sure; wide = h.wide; form = h.form; mentioned = h.mentioned }

  pub taken_has_form : (k : Known N) (p : ByteRange) (s : Side) (x y : Cell N) → AreCells k.model k.cells → IsIn x k.cells
      → IsTaken k p s x y → HasForm k.cells y
  taken_has_form k p s x y a i (whole e is) =
      subst (HasForm k.cells) (sym is)
      (whole_form k.cells s x (form_of_cell x) (form_of_cell x) (cell_form_fits k.model k.cells x a i))
  taken_has_form k p s x y a i (byte j e l is h) =
      subst (HasForm k.cells) (sym is)
      (byte_has_form D k.model (order_on p.side k.orders) k.cells p.side (form_of_cell x) x x x.what x.value j refl refl
      l
      (cell_form_fits k.model k.cells x a i))

  -- ---- what is taken of one cell is apart

  own_by : (k : Known N) (p : ByteRange) (s : Side) (x : Cell N) (b : Bool)
      → EachPair (AreApart k.model) (cond b (whole_cell s x ∷ []) (filter (λ z. encloses p (place_of k.model z))
      (byte_cells D k.model (order_on p.side k.orders) p.side (form_of_cell x) x)))
  own_by k p s x true = (tt, tt)
  own_by k p s x false =
      filter_pairs (AreApart k.model) (λ z. encloses p (place_of k.model z))
      (byte_cells D k.model (order_on p.side k.orders) p.side (form_of_cell x) x)
      (bytes_pairs k.model p.side x.block x.offset (taken_byte k p x) 0 (size_of k.model x.what)
      (λ j. byte_is D (order_on p.side k.orders) p.side (form_of_cell x) x x.what x.value j))

  own_if : (k : Known N) (p : ByteRange) (s : Side) (x : Cell N) (b : Bool)
      → EachPair (AreApart k.model) (cond b (taken_cell D k p s x) [])
  own_if k p s x true = own_by k p s x (encloses p (place_of k.model x))
  own_if k p s x false = tt

  pub own_taken : (k : Known N) (p : ByteRange) (s : Side) (x : Cell N) → EachPair (AreApart k.model) (taken_if D k p s x)
  own_taken k p s x = own_if k p s x (share_memory p.side x.side && touches p (place_of k.model x))
