-- New cells of a place are moved to another one.
use Rattle.std.proofs.Common.{◌≡◌, ℕ, ◌+◌, ◌-◌, ◌^◌, ◌<◌, ◌≤◌, Bool, true, false, ◌&&◌, nat_eq, nat_lt, nat_le, List}
use Rattle.std.proofs.Common.{[], ◌∷◌, map, inl, inr, ⊎_elim, Option, Some, None, IfSome, refl, sym, ap, ◌∙◌, subst}
use Rattle.std.proofs.Common.{arith}
use Rattle.std.proofs.lemmas.Bool.{and_parts, and_from, leb-true, ltb-true, le-leb, lt-ltb, eq-eqb}
use Rattle.std.proofs.lemmas.Bool.{false_from_ne_true, both_ways}
use Rattle.ep_int.specs.declared.types.Model.{Model}
use Rattle.ep_int.specs.declared.types.Order.{Order}
use Rattle.ep_int.specs.declared.types.IntType.{IntType}
use Rattle.ep_int.specs.declared.types.Scalar.{Scalar}
use Rattle.ep_int.specs.declared.types.Scalar.TheVariants.{Int, Pointer}
use Rattle.ep_int.specs.Types.{bytes_of, size_of}
use Rattle.ep_int.specs.Memory.{Memory, Value as Datum, number_in, is_number}
use Rattle.ep_int.proofs.Encodings.{decoded_same}
use Rattle.ep_bitslice.specs.declared.cell.Side.{Side}
use Rattle.ep_bitslice.specs.declared.cell.Side.TheVariants.{Left, Right, Shared}
use Rattle.ep_bitslice.specs.declared.cell.CellName.{CellName}
use Rattle.ep_bitslice.specs.declared.segment.Segment.{Segment}
use Rattle.ep_bitslice.specs.Segments.{number}
use Rattle.ep_domain.specs.Domain.{Ops}
use Rattle.ep_cells.specs.declared.cell.Cell.{Cell}
use Rattle.ep_cells.specs.declared.place.ByteRange.{ByteRange}
use Rattle.ep_cells.specs.Cells.{on_left, on_right, share_memory, place_of, touches, meets, IsIn, first, later}
use Rattle.ep_cells.specs.States.{Known, IsFormOf, HasForm, EachPair, IsCell}
use Rattle.ep_cells.specs.Meaning.{Memories, HasBytes, HasNumber, number_at, number_on, numbers_of}
use Rattle.ep_cells.specs.Sound.{SaysNew}
use Rattle.ep_cells.proofs.Lists.{in_map, each_at, each_from}
use Rattle.ep_cells.proofs.Changes.{number_on_kept}
use Rattle.ep_cell_ranges.specs.Spots.{Spot}
use Rattle.ep_cell_ranges.specs.Moves.{moved_to}
use Rattle.ep_cell_ranges.specs.Sound.{IsInside, Misses, AreNew, moved_place, IsCopied, AreCopied}
use Rattle.ep_cell_ranges.specs.Laws.{MoveLaws}

pairs_map_in : {N : Type 0} (R : Cell N → Cell N → Type 0) (f : Cell N → Cell N) (cs : List (Cell N)) → EachPair R cs
    → ((x y : Cell N) → IsIn x cs → IsIn y cs → R x y → R (f x) (f y)) → EachPair R (map f cs)
pairs_map_in R f [] p h = tt
pairs_map_in R f (c ∷ cs) p h = (
  each_from (R (f c)) (map f cs) (λ y i.
      let r = in_map f y cs i in
      subst (R (f c)) (sym r.is) (h c r.origin (first cs) (later c cs r.is_in)
      (each_at (R c) r.origin cs p.0 r.is_in))),
  pairs_map_in R f cs p.1 (λ x y i j r. h x y (later c cs i) (later c cs j) r),
)

-- ---- bytes at another place

pub bytes_moved : (o : Order) (m n : Memory) (size : ℕ) (w : Scalar) (maybe : Bool) (b q c r : ℕ) (v : Option Datum)
    → ((j : ℕ) → j < size → n c (r + j) ≡ m b (q + j)) → HasBytes o m size w maybe b q v
    → HasBytes o n size w maybe c r v
bytes_moved o m n size w maybe b q c r None e h = λ p l. e p l ∙ h p l
bytes_moved o m n size (Int t) false b q c r (Some v) e h = λ p l. e p l ∙ h p l
bytes_moved o m n size Pointer false b q c r (Some v) e h = λ p l. e p l ∙ h p l
bytes_moved o m n size (Int t) true b q c r (Some v) e h = λ p l.
    ⊎_elim (λ k. inl (e p l ∙ k)) (λ k. inr (ap is_number (e p l) ∙ k)) (h p l)
bytes_moved o m n size Pointer true b q c r (Some v) e h =
    ⊎_elim (λ k. inl (λ p l. e p l ∙ k p l)) (λ k. inr (λ p l. e p l ∙ k p l)) h

abbrev name_at : Side → (block offset : ℕ) → IntType → CellName
name_at s b q t = record { side = s; block = b; offset = q; t = t }

at_moved : (o : Order) (m n : Memory) (s : Side) (t : IntType) (b q c r : ℕ)
    → ((j : ℕ) → j < bytes_of t → n c (r + j) ≡ m b (q + j))
    → number_at o n (name_at s c r t) ≡ number_at o m (name_at s b q t)
at_moved o m n s t b q c r e =
    decoded_same o t (λ j. number_in (n c (r + j))) (λ j. number_in (m b (q + j))) (λ j l. ap number_in (e j l))

on_moved : (s : Side) (os : Order × Order) (m n : Memories) (t : IntType) (b q c r : ℕ)
    → (on_left s ≡ true → (j : ℕ) → j < bytes_of t → n.left c (r + j) ≡ m.left b (q + j))
    → (on_right s ≡ true → (j : ℕ) → j < bytes_of t → n.right c (r + j) ≡ m.right b (q + j))
    → number_on s os n (name_at s c r t) ≡ number_on s os m (name_at s b q t)
on_moved Left os m n t b q c r e f = at_moved os.0 m.left n.left Left t b q c r (e refl)
on_moved Right os m n t b q c r e f = at_moved os.1 m.right n.right Right t b q c r (f refl)
on_moved Shared os m n t b q c r e f = at_moved os.0 m.left n.left Shared t b q c r (e refl)

module _ {N : Type 0} (D : Ops N) where
  -- from where to where a cell of the place lies
  record Lies (d : Model) (p : ByteRange) (c : Cell N) : Type 0 where
    from : p.offset ≤ c.offset
    to : c.offset + size_of d c.what ≤ p.offset + p.bytes

  lies : (d : Model) (p : ByteRange) (c : Cell N) → IsInside d p c → Lies d p c
  lies d p c i =
      let a = and_parts (nat_le p.offset c.offset) (nat_le (c.offset + size_of d c.what) (p.offset + p.bytes)) i.bytes
      in record {
        from = leb-true p.offset c.offset a.0;
        to = leb-true (c.offset + size_of d c.what) (p.offset + p.bytes) a.1;
      }

  abbrev move : ByteRange → Spot → Cell N → Cell N
  move p to c = moved_to (p.block, p.offset) to c

  moved_cell : (d : Model) (p : ByteRange) (to : Spot) (c : Cell N) → to.1 + p.bytes ≤ 2 ^ 32 → Lies d p c → IsCell d c
      → IsCell d (move p to c)
  moved_cell d p to c room l i = record {
    fits = record { sort = i.fits.sort; undefined = i.fits.undefined; last = omega (arith, room, l.from, l.to) };
    rising = i.rising;
  }

  moved_inside : (d : Model) (p : ByteRange) (to : Spot) (c : Cell N) → Lies d p c → IsInside d p c
      → IsInside d (moved_place p to) (move p to c)
  moved_inside d p to c l i = record {
    left = i.left;
    right = i.right;
    block = refl;
    bytes = and_from (nat_le to.1 ((c.offset - p.offset) + to.1))
        (nat_le ((c.offset - p.offset) + to.1 + size_of d c.what) (to.1 + p.bytes))
        (le-leb to.1 ((c.offset - p.offset) + to.1) (omega (arith, l.from)))
        (le-leb ((c.offset - p.offset) + to.1 + size_of d c.what) (to.1 + p.bytes) (omega (arith, l.from, l.to)));
  }

  moved_misses : (d : Model) (p : ByteRange) (to : Spot) (x y : Cell N) → Lies d p x → Lies d p y → x.block ≡ p.block
      → y.block ≡ p.block → Misses d x y → Misses d (move p to x) (move p to y)
  moved_misses d p to x y l r e f h =
      false_from_ne_true (meets (place_of d (move p to x)) (place_of d (move p to y))) (λ i.
      let a = and_parts (share_memory x.side y.side) (touches (place_of d (move p to x)) (place_of d (move p to y))) i
      in
      let b = and_parts (nat_eq to.0 to.0)
      (nat_lt ((x.offset - p.offset) + to.1) ((y.offset - p.offset) + to.1 + size_of d y.what)
      && nat_lt ((y.offset - p.offset) + to.1) ((x.offset - p.offset) + to.1 + size_of d x.what)) a.1 in
      let c = and_parts (nat_lt ((x.offset - p.offset) + to.1) ((y.offset - p.offset) + to.1 + size_of d y.what))
      (nat_lt ((y.offset - p.offset) + to.1) ((x.offset - p.offset) + to.1 + size_of d x.what)) b.1 in
      let low = ltb-true ((x.offset - p.offset) + to.1) ((y.offset - p.offset) + to.1 + size_of d y.what) c.0 in
      let high = ltb-true ((y.offset - p.offset) + to.1) ((x.offset - p.offset) + to.1 + size_of d x.what) c.1 in
      both_ways (meets (place_of d x) (place_of d y)) h
      (and_from (share_memory x.side y.side) (touches (place_of d x) (place_of d y)) a.0
      (and_from (nat_eq x.block y.block) (nat_lt x.offset (y.offset + size_of d y.what) && nat_lt y.offset
      (x.offset + size_of d x.what))
      (eq-eqb x.block y.block (e ∙ sym f))
      (and_from (nat_lt x.offset (y.offset + size_of d y.what)) (nat_lt y.offset (x.offset + size_of d x.what))
      (lt-ltb x.offset (y.offset + size_of d y.what) (omega (arith, low, l.from, r.from)))
      (lt-ltb y.offset (x.offset + size_of d x.what) (omega (arith, high, l.from, r.from)))))))

  moved_form : (cs : List (Cell N)) (p : ByteRange) (to : Spot) (c : Cell N) (o : Option (List Segment))
      → IfSome o (IsFormOf cs c)
      → IfSome o (IsFormOf cs (move p to c))
  moved_form cs p to c None h = tt
  moved_form cs p to c (Some ss) h = record { sure = h.sure; wide = h.wide; form = h.form; mentioned = h.mentioned }

  moved_new : (k : Known N) (p : ByteRange) (to : Spot) (new : List (Cell N)) → to.1 + p.bytes ≤ 2 ^ 32
      → AreNew k.model p k.cells new → AreNew k.model (moved_place p to) k.cells (map (move p to) new)
  moved_new k p to new room n = record {
    each = λ y i.
        let t = in_map (move p to) y new i in
        subst (IsCell k.model) (sym t.is)
        (moved_cell k.model p to t.origin room (lies k.model p t.origin (n.inside t.origin t.is_in))
        (n.each t.origin t.is_in));
    inside = λ y i.
        let t = in_map (move p to) y new i in
        let l = n.inside t.origin t.is_in in
        subst (IsInside k.model (moved_place p to)) (sym t.is)
        (moved_inside k.model p to t.origin (lies k.model p t.origin l) l);
    apart = pairs_map_in (Misses k.model) (move p to) new n.apart (λ x y i j h.
        let l = n.inside x i in
        let r = n.inside y j in
        moved_misses k.model p to x y (lies k.model p x l) (lies k.model p y r) l.block r.block h);
    forms = λ y i.
        let t = in_map (move p to) y new i in
        subst (HasForm k.cells) (sym t.is) (moved_form k.cells p to t.origin t.origin.form (n.forms t.origin t.is_in));
  }

  -- ---- what they say

  byte_moved : (d : Model) (p : ByteRange) (to : Spot) (c : Cell N) (m n : Memory) (size j : ℕ) → IsCopied p to m n
      → Lies d p c
      → c.block ≡ p.block → size ≡ size_of d c.what → j < size
      → n to.0 ((c.offset - p.offset) + to.1 + j) ≡ m c.block (c.offset + j)
  byte_moved d p to c m n size j e l b s h =
      let i : (c.offset - p.offset) + j < p.bytes = omega (arith, h, s, l.from, l.to) in
      let there : to.1 + ((c.offset - p.offset) + j) ≡ (c.offset - p.offset) + to.1 + j = omega arith in
      let here : p.offset + ((c.offset - p.offset) + j) ≡ c.offset + j = omega (arith, l.from) in
      ap (n to.0) (sym there) ∙ e ((c.offset - p.offset) + j) i ∙ ap (m p.block) here
      ∙ ap (λ (z : ℕ). m z (c.offset + j)) (sym b)

  moved_number : (k : Known N) (p : ByteRange) (to : Spot) (c : Cell N) (n o : Memories) (w : Scalar) (v : ℕ)
      → AreCopied p to n o
      → IsInside k.model p c → c.what ≡ w → HasNumber k.orders n c w v → HasNumber k.orders o (move p to c) w v
  moved_number k p to c n o w v e i f h =
      number_on_kept k.orders n o c (move p to c) w v
      (λ t g.
      let size : bytes_of t ≡ size_of k.model c.what = sym (ap (size_of k.model) (f ∙ g)) in
      let l = lies k.model p c i in
      on_moved c.side k.orders n o t c.block c.offset to.0 ((c.offset - p.offset) + to.1)
      (λ q j a. byte_moved k.model p to c n.left o.left (bytes_of t) j (e.left (i.left q)) l i.block size a)
      (λ q j a. byte_moved k.model p to c n.right o.right (bytes_of t) j (e.right (i.right q)) l i.block size a)) h

  moved_numbers : (k : Known N) (p : ByteRange) (to : Spot) (c : Cell N) (n o : Memories) (f : Option (List Segment))
      (value : List Segment → ℕ)
      → AreCopied p to n o → IsInside k.model p c → IfSome f (λ ss. HasNumber k.orders n c c.what (value ss))
      → IfSome f (λ ss. HasNumber k.orders o (move p to c) c.what (value ss))
  moved_numbers k p to c n o None value e i h = tt
  moved_numbers k p to c n o (Some ss) value e i h = moved_number k p to c n o c.what (value ss) e i refl h

  moved_says : (k : Known N) (p : ByteRange) (to : Spot) (c : Cell N) (m n o : Memories) → AreCopied p to n o
      → IsInside k.model p c
      → SaysNew D k c m n → SaysNew D k (move p to c) m o
  moved_says k p to c m n o e i s =
      let l = lies k.model p c i in
      let size = size_of k.model c.what in record {
        cell = record {
          datum = s.cell.datum;
          allowed = s.cell.allowed;
          stands = record {
            left = λ q. bytes_moved k.orders.0 n.left o.left size c.what c.maybe c.block c.offset to.0
                ((c.offset - p.offset) + to.1) s.cell.datum
                (λ j a. byte_moved k.model p to c n.left o.left size j (e.left (i.left q)) l i.block refl a)
                (s.cell.stands.left q);
            right = λ q. bytes_moved k.orders.1 n.right o.right size c.what c.maybe c.block c.offset to.0
                ((c.offset - p.offset) + to.1) s.cell.datum
                (λ j a. byte_moved k.model p to c n.right o.right size j (e.right (i.right q)) l i.block refl a)
                (s.cell.stands.right q);
          };
        };
        form = moved_numbers k p to c n o c.form (λ ss. number (numbers_of k.orders m) ss) e i s.form;
      }

  pub of_moves : MoveLaws D
  of_moves = record {
    new = moved_new;
    says = λ k p to new w m n o e s y i.
        let t = in_map (move p to) y new i in
        subst (λ z. SaysNew D k z m o) (sym t.is)
        (moved_says k p to t.origin m n o e (w.inside t.origin t.is_in) (s t.origin t.is_in));
  }
