-- Writes: what is left of cells, and that it holds.
use Rattle.std.proofs.Common.{◌≡◌, ℕ, ◌+◌, ◌<◌, Bool, true, false, ◌&&◌, nat_eq, nat_le, nat_lt, cond, List, [], ◌∷◌}
use Rattle.ep_cells.proofs.Changes.{form_on}
use Rattle.std.proofs.Common.{⊎_elim, Option, Some, None, IfSome, refl, sym, ◌∙◌, ap, subst, arith}
use Rattle.std.specs.Option.{option_map}
use Rattle.std.proofs.lemmas.Bool.{and_parts, and_from, and_left, and_right, leb-true, ltb-true, lt-ltb}
use Rattle.std.proofs.lemmas.Bool.{false_from_ne_true, both_ways}
use Rattle.ep_int.specs.declared.types.Order.{Order}
use Rattle.ep_int.specs.declared.types.Model.{Model}
use Rattle.ep_int.specs.declared.types.IntType.{IntType}
use Rattle.ep_int.specs.declared.types.Scalar.{Scalar}
use Rattle.ep_int.specs.declared.types.Scalar.TheVariants.{Int}
use Rattle.ep_int.specs.Types.{bytes_of, size_of}
use Rattle.ep_int.specs.Memory.{Memory}
use Rattle.ep_bitslice.specs.declared.cell.Side.{Side}
use Rattle.ep_bitslice.specs.declared.cell.CellName.{CellName}
use Rattle.ep_bitslice.specs.declared.segment.Segment.{Segment}
use Rattle.ep_bitslice.specs.Segments.{number}
use Rattle.ep_domain.specs.Domain.{Ops}
use Rattle.ep_cells.specs.declared.cell.Cell.{Cell}
use Rattle.ep_cells.specs.declared.place.ByteRange.{ByteRange}
use Rattle.ep_cells.specs.Cells.{on_left, on_right, share_memory, side_without, place_of, place_of_name, touches}
use Rattle.ep_cells.specs.Cells.{meets, IsNamed, IsIn, first, later, put, each_becomes, with_side}
use Rattle.ep_cells.specs.States.{Fits, IsThere, IsFormOf, HasForm, EachPair, AreApart, IsCell, AreCells, CanWrite}
use Rattle.ep_cells.specs.States.{HasRisingBlocks}
use Rattle.ep_cells.specs.Meaning.{Memories, Says, numbers_of, name_of, HasNumber, FormSays, In}
use Rattle.ep_cells.specs.Write.{left_by_write, fate_by_write, written}
use Rattle.ep_cells.specs.Memories.{is_byte_of, IsRewritten, AreRewritten}
use Rattle.ep_cells.proofs.Lists.{in_each, each_in, in_put, put_keeps, pairs_each, pairs_put}
use Rattle.ep_cells.proofs.Bytes.{SameBytes, bytes_same}
use Rattle.ep_cells.proofs.Places.{at, Within, within_itself, IsRest, rest_is, IsMadeFrom, apart_made}
use Rattle.ep_cells.proofs.Places.{before_rest, put_before_cell, put_after_cell}
use Rattle.ep_cells.proofs.Changes.{IsKept, kept_says, kept_number, name_is, number_on_kept, IsChange}
use Rattle.ep_cells.proofs.Changes.{change_cells, change_holds}

-- ---- bytes that are as they were

-- a byte that is in two places
pub both_have : (p : ByteRange) (s : Side) (b q n j : ℕ) → j < n → is_byte_of p b (q + j) ≡ true
    → touches p (at s b q n) ≡ true
both_have p s b q n j l h =
    let e = and_parts (nat_eq p.block b) (nat_le p.offset (q + j) && nat_lt (q + j) (p.offset + p.bytes)) h in
    let f = and_parts (nat_le p.offset (q + j)) (nat_lt (q + j) (p.offset + p.bytes)) e.1 in
    let low = leb-true p.offset (q + j) f.0 in
    let high = ltb-true (q + j) (p.offset + p.bytes) f.1 in
    and_from (nat_eq p.block b) (nat_lt p.offset (q + n) && nat_lt q (p.offset + p.bytes)) e.0
    (and_from (nat_lt p.offset (q + n)) (nat_lt q (p.offset + p.bytes)) (lt-ltb p.offset (q + n) (omega arith))
    (lt-ltb q (p.offset + p.bytes) (omega arith)))

pub same_beside : (p : ByteRange) (written : Bool) (m n : Memory) (s : Side) (b q size : ℕ) → IsRewritten p written m n
    → touches p (at s b q size) ≡ false → SameBytes m n b q size
same_beside p written m n s b q size r t = record {
  same = λ j l. r.elsewhere b (q + j) (and_right written (is_byte_of p b (q + j))
      (false_from_ne_true (is_byte_of p b (q + j)) (λ h. both_ways (touches p (at s b q size)) t (both_have p s b q
      size j l h))));
}

pub same_unwritten : (p : ByteRange) (written : Bool) (m n : Memory) (b q size : ℕ) → IsRewritten p written m n
    → written ≡ false → SameBytes m n b q size
same_unwritten p written m n b q size r w = record {
  same = λ j l. r.elsewhere b (q + j) (and_left written (is_byte_of p b (q + j)) w);
}

-- ---- cells that are left

pub kept_beside : {N : Type 0} (D : Ops N) (os : Order × Order) (d : Model) (m n : Memories) (p : ByteRange) (x : Cell N)
    → AreRewritten p m n
    → touches p (place_of d x) ≡ false → IsKept D os d m n x x
kept_beside D os d m n p x r t = record {
  side = x.side;
  is = refl;
  within = within_itself x.side;
  stands = λ v a h. record {
    left = λ e. bytes_same os.0 m.left n.left (size_of d x.what) x.what x.maybe x.block x.offset v
        (same_beside p (on_left p.side) m.left n.left x.side x.block x.offset (size_of d x.what) r.left t) (h.left e);
    right = λ e. bytes_same os.1 m.right n.right (size_of d x.what) x.what x.maybe x.block x.offset v
        (same_beside p (on_right p.side) m.right n.right x.side x.block x.offset (size_of d x.what) r.right t)
        (h.right e);
  };
}

pub kept_rest : {N : Type 0} (D : Ops N) (os : Order × Order) (d : Model) (m n : Memories) (p : ByteRange) (x : Cell N)
    (s : Side) → AreRewritten p m n
    → IsRest p.side x.side s → IsKept D os d m n x (record x { side = s })
kept_rest D os d m n p x s r i = record {
  side = s;
  is = refl;
  within = i.within;
  stands = λ v a h. record {
    left = λ e. bytes_same os.0 m.left n.left (size_of d x.what) x.what x.maybe x.block x.offset v
        (same_unwritten p (on_left p.side) m.left n.left x.block x.offset (size_of d x.what) r.left (i.left e))
        (h.left (i.within.left e));
    right = λ e. bytes_same os.1 m.right n.right (size_of d x.what) x.what x.maybe x.block x.offset v
        (same_unwritten p (on_right p.side) m.right n.right x.block x.offset (size_of d x.what) r.right (i.right e))
        (h.right (i.within.right e));
  };
}

-- a cell that is left is as it was, and doesn't meet the place
pub record IsLeft {N : Type 0} (d : Model) (p : ByteRange) (x y : Cell N) : Type 0 where
  pub side : Side
  pub is : y ≡ record x { side = side }
  pub within : Within side x.side
  pub apart : meets p (place_of d y) ≡ false
  pub kept : (D : Ops N) (os : Order × Order) (m n : Memories) → AreRewritten p m n → IsKept D os d m n x y

left_rest : {N : Type 0} (d : Model) (p : ByteRange) (x y : Cell N) (o : Option Side) → IfSome o (IsRest p.side x.side)
    → IsIn y (with_side x o) → IsLeft d p x y
left_rest d p x y None r h = elim h [ ]
left_rest d p x _ (Some s) r (first _) = record {
  side = s;
  is = refl;
  within = r.within;
  apart = and_left (share_memory p.side s) (touches p (place_of d (record x { side = s }))) r.apart;
  kept = λ D os m n w. kept_rest D os d m n p x s w r;
}
left_rest d p x y (Some s) r (later _ _ h) = elim h [ ]

left_beside : {N : Type 0} (d : Model) (p : ByteRange) (x y : Cell N) → touches p (place_of d x) ≡ false
    → IsIn y (x ∷ []) → IsLeft d p x y
left_beside d p x _ t (first _) = record {
  side = x.side;
  is = refl;
  within = within_itself x.side;
  apart = and_right (share_memory p.side x.side) (touches p (place_of d x)) t;
  kept = λ D os m n w. kept_beside D os d m n p x w t;
}
left_beside d p x y t (later _ _ h) = elim h [ ]

left_by : {N : Type 0} (d : Model) (p : ByteRange) (x y : Cell N) (b : Bool) → touches p (place_of d x) ≡ b
    → IsIn y (cond b (with_side x (side_without p.side x.side)) (x ∷ [])) → IsLeft d p x y
left_by d p x y true t h = left_rest d p x y (side_without p.side x.side) (rest_is p.side x.side) h
left_by d p x y false t h = left_beside d p x y t h

pub left_is : {N : Type 0} (d : Model) (p : ByteRange) (x y : Cell N) → IsIn y (left_by_write d p x) → IsLeft d p x y
left_is d p x y h = left_by d p x y (touches p (place_of d x)) refl h

-- at most one cell is left of one
pub own_rest : {N : Type 0} (d : Model) (x : Cell N) (o : Option Side) → EachPair (AreApart d) (with_side x o)
own_rest d x None = tt
own_rest d x (Some s) = (tt, tt)

own_by : {N : Type 0} (d : Model) (p : ByteRange) (x : Cell N) (b : Bool)
    → EachPair (AreApart d) (cond b (with_side x (side_without p.side x.side)) (x ∷ []))
own_by d p x true = own_rest d x (side_without p.side x.side)
own_by d p x false = (tt, tt)

left_made : {N : Type 0} (d : Model) (p : ByteRange) (x y : Cell N) → IsLeft d p x y → IsMadeFrom x y
left_made d p x y k = record {
  side = k.side;
  value = x.value;
  maybe = x.maybe;
  form = x.form;
  is = k.is;
  within =
      k.within;
}

-- ---- names

-- the cell of the name by which a mention goes on
pub record Follows {N : Type 0} (x : Cell N) (l : List (Cell N)) (e : CellName) : Type 0 where
  pub side : Side
  pub is_in : IsIn (record x { side = side }) l
  pub named : IsNamed e (record x { side = side })

follows_rest : {N : Type 0} (x : Cell N) (c e : CellName) (o : Option Side) → IsNamed c x
    → option_map (λ s. record c { side = s }) o ≡ Some e → Follows x (with_side x o) e
follows_rest x c e None i h = absurd (cc)
follows_rest x c e (Some s) i h =
    let is : record c { side = s } ≡ e = cc in
    record {
      side = s;
      is_in = first [];
      named = subst (λ z. IsNamed z (record x { side = s })) is (record {
        side = refl;
        block = i.block;
        offset =
            i.offset;
        what = i.what;
      });
    }

pub follows_by : {N : Type 0} (x : Cell N) (c e : CellName) (o : Option Side) (b : Bool) → IsNamed c x
    → cond b (option_map (λ s. record c { side = s }) o) (Some c) ≡ Some e → Follows x (cond b (with_side x o) (x ∷
    [])) e
follows_by x c e o true i h = follows_rest x c e o i h
follows_by x c e o false i h =
    let is : c ≡ e = cc in
    record { side = x.side; is_in = first []; named = subst (λ z. IsNamed z x) is i }

-- an integer cell lies where its name says
pub place_named : {N : Type 0} (d : Model) (c : CellName) (x : Cell N) → IsNamed c x → place_of d x ≡ place_of_name c
place_named d c x i =
    ap (λ (w : Scalar). at x.side x.block x.offset (size_of d w)) i.what
    ∙ ap (λ (s : Side). at s x.block x.offset (bytes_of c.t)) i.side
    ∙ ap (λ (b : ℕ). at c.side b x.offset (bytes_of c.t)) i.block
    ∙ ap (λ (q : ℕ). at c.side c.block q (bytes_of c.t)) i.offset

follows : {N : Type 0} (d : Model) (p : ByteRange) (x : Cell N) (c e : CellName) → IsNamed c x
    → fate_by_write p c ≡ Some e → Follows x (left_by_write d p x) e
follows d p x c e i h =
    subst (λ z. Follows x (cond (touches p z) (with_side x (side_without p.side x.side)) (x ∷ [])) e) (sym
    (place_named d c x i))
    (subst (λ (s : Side). Follows x (cond (touches p (place_of_name c)) (with_side x (side_without p.side s)) (x ∷
    [])) e) (sym i.side)
    (follows_by x c e (side_without p.side c.side) (touches p (place_of_name c)) i h))

-- ---- the law

abbrev rest_of : {N : Type 0} → Model → Cell N → List (Cell N) → List (Cell N)
rest_of d c cs = each_becomes (left_by_write d (place_of d c)) cs

away : {N : Type 0} (d : Model) (c : Cell N) (cs : List (Cell N)) (y : Cell N) → IsIn y (rest_of d c cs)
    → meets (place_of d c) (place_of d y) ≡ false
away d c cs y k = let r = in_each (left_by_write d (place_of d c)) y cs k in (left_is d (place_of d c) r.origin y
    r.becomes).apart

write_pairs : {N : Type 0} (d : Model) (c : Cell N) (cs : List (Cell N)) → EachPair (AreApart d) cs
    → EachPair (AreApart d) (put c (rest_of d c cs))
write_pairs d c cs h =
    pairs_put (AreApart d) c (rest_of d c cs)
    (pairs_each (AreApart d) (left_by_write d (place_of d c)) cs h (λ x k. own_by d (place_of d c) x (touches
    (place_of d c) (place_of d x)))
    (λ x y a b r i j. apart_made d x y a b r (left_made d (place_of d c) x a (left_is d (place_of d c) x a i))
    (left_made d (place_of d c) y b (left_is d (place_of d c) y b j))))
    (λ y k e. put_before_cell d c y (away d c cs y k) e)
    (λ y k e. put_after_cell d c y (away d c cs y k) e)
    (λ x y a e. before_rest d c x y a e)

there_after : {N : Type 0} (d : Model) (c : Cell N) (cs : List (Cell N)) (a e : CellName) → IsThere a cs
    → fate_by_write (place_of d c) a ≡ Some e → IsThere e (put c (rest_of d c cs))
there_after d c cs a e t h =
    let f = follows d (place_of d c) t.cell a e t.named h in
    record {
      cell = record t.cell { side = f.side };
      is_in = put_keeps c (record t.cell { side = f.side }) (rest_of d c cs) (each_in (left_by_write d (place_of d
          c)) t.cell (record t.cell { side = f.side }) cs t.is_in f.is_in);
      named = f.named;
      sure = t.sure;
    }

-- what a list of the new cell and of those that are left has
by_origin : {N : Type 0} (d : Model) (c : Cell N) (cs : List (Cell N)) (P : Cell N → Type 0) → P c
    → ((x y : Cell N) → IsIn x cs → IsLeft d (place_of d c) x y → P y)
    → (y : Cell N) → IsIn y (put c (rest_of d c cs)) → P y
by_origin d c cs P new old y h =
    ⊎_elim
    (λ e. subst P (sym e) new)
    (λ k. let r = in_each (left_by_write d (place_of d c)) y cs k in old r.origin y r.is_in (left_is d (place_of d c)
    r.origin y r.becomes))
    (in_put c y (rest_of d c cs) h)

pub cell_on : {N : Type 0} (d : Model) (x : Cell N) (s : Side) → IsCell d x → IsCell d (record x { side = s })
cell_on d x s c = record {
  fits = record { sort = c.fits.sort; undefined = c.fits.undefined; last = c.fits.last };
  rising = c.rising;
}

pub write_change : {N : Type 0} (d : Model) (c : Cell N) (cs : List (Cell N)) → AreCells d cs → CanWrite d c cs
    → HasRisingBlocks c.value
    → IsChange d cs (put c (rest_of d c cs)) (fate_by_write (place_of d c))
write_change d c cs a w r = record {
  each = by_origin d c cs (IsCell d) (record { fits = w.fits; rising = r }) (λ x y k l. subst (IsCell d) (sym l.is)
      (cell_on d x l.side (a.each x k)));
  pairs = write_pairs d c cs a.pairs;
  forms = by_origin d c cs (HasForm cs) w.form (λ x y k l. subst (HasForm cs) (sym l.is) (form_on cs x l.side x.form
      (a.forms x k)));
  fates = λ n e t h. there_after d c cs n e t h;
}

pub write_cells : {N : Type 0} (d : Model) (c : Cell N) (cs : List (Cell N)) → AreCells d cs → CanWrite d c cs
    → HasRisingBlocks c.value → AreCells d (written d c cs)
write_cells d c cs a w r = change_cells d cs (put c (rest_of d c cs)) (fate_by_write (place_of d c)) (write_change d
    c cs a w r)

-- ---- that it holds

-- the name of a cell that goes on is that of its number
pub keeps_kept : {N : Type 0} (D : Ops N) (os : Order × Order) (d : Model) (m n : Memories) (x y : Cell N) (a e :
    CellName)
    → IsKept D os d m n x y → Fits d x → x.maybe ≡ false → Says D os d m x → x.what ≡ y.what → IsNamed a x → IsNamed
    e y → numbers_of os n e ≡ numbers_of os m a
keeps_kept D os d m n x y a e k f s says w i j =
    let what : x.what ≡ Int e.t = w ∙ j.what in
    let types : e.t ≡ a.t = let h : Int e.t ≡ Int a.t = sym what ∙ i.what in cc in
    ap (numbers_of os n) (sym (name_is e y j))
    ∙ kept_number D os d m n x y e.t k f what s says
    ∙ ap (λ (t : IntType). numbers_of os m (name_of x t)) types
    ∙ ap (numbers_of os m) (name_is a x i)

number_by : {N : Type 0} (D : Ops N) (os : Order × Order) (d : Model) (m n : Memories) (cs : List (Cell N)) (x y :
    Cell N)
    → IsKept D os d m n x y → Fits d x → Says D os d m x
    → (o : Option (List Segment)) → IfSome o (IsFormOf cs x) → IfSome o (FormSays os m x)
    → IfSome o (λ ss. HasNumber os n y x.what (number (numbers_of os m) ss))
number_by D os d m n cs x y k f says None h s = tt
number_by D os d m n cs x y k f says (Some ss) h s =
    number_on_kept os m n x y x.what (number (numbers_of os m) ss) (λ t w. kept_number D os d m n x y t k f w h.sure
    says) s

-- what the form of a kept cell says
pub numbers_kept : {N : Type 0} (D : Ops N) (os : Order × Order) (d : Model) (m n : Memories) (cs : List (Cell N)) (x
    y : Cell N) (s : Side)
    → y ≡ record x { side = s } → IsKept D os d m n x y → Fits d x → Says D os d m x → HasForm cs x → IfSome x.form
    (FormSays os m x)
    → IfSome y.form (λ ss. HasNumber os n y y.what (number (numbers_of os m) ss))
numbers_kept D os d m n cs x y s is k f says h g =
    subst (λ z. IfSome z.form (λ ss. HasNumber os n z z.what (number (numbers_of os m) ss))) (sym is)
    (number_by D os d m n cs x (record x { side = s }) (subst (IsKept D os d m n x) is k) f says x.form h g)

pub write_keeps : {N : Type 0} (D : Ops N) (os : Order × Order) (d : Model) (m n : Memories) (c : Cell N) (cs : List
    (Cell N)) (a e : CellName)
    → AreCells d cs → ((x : Cell N) → IsIn x cs → Says D os d m x) → AreRewritten (place_of d c) m n
    → IsThere a cs → fate_by_write (place_of d c) a ≡ Some e → numbers_of os n e ≡ numbers_of os m a
write_keeps D os d m n c cs a e cells says w t h =
    let f = follows d (place_of d c) t.cell a e t.named h in
    let y = record t.cell { side = f.side } in
    let l = left_is d (place_of d c) t.cell y f.is_in in
    keeps_kept D os d m n t.cell y a e (l.kept D os m n w) (cells.each t.cell t.is_in).fits t.sure (says t.cell
    t.is_in) refl t.named f.named

pub write_holds : {N : Type 0} (D : Ops N) (os : Order × Order) (d : Model) (m n : Memories) (c : Cell N) (cs : List
    (Cell N))
    → AreCells d cs → CanWrite d c cs → HasRisingBlocks c.value
    → In D (record { orders = os; model = d; cells = cs }) m → AreRewritten (place_of d c) m n
    → Says D os d n c → IfSome c.form (λ ss. HasNumber os n c c.what (number (numbers_of os m) ss))
    → In D (record { orders = os; model = d; cells = written d c cs }) n
write_holds D os d m n c cs a can r i w new form =
    change_holds D os d m n cs (put c (rest_of d c cs)) (fate_by_write (place_of d c)) (write_change d c cs a can r)
    (record {
      says = by_origin d c cs (Says D os d n) new (λ x y k l. kept_says D os d m n x y (l.kept D os m n w) (i.cells x
          k));
      numbers = by_origin d c cs (λ y. IfSome y.form (λ ss. HasNumber os n y y.what (number (numbers_of os m) ss)))
          form
          (λ x y k l. numbers_kept D os d m n cs x y l.side l.is (l.kept D os m n w) (a.each x k).fits (i.cells x k)
          (a.forms x k) (i.forms x k));
      keeps = λ b e t h. write_keeps D os d m n c cs b e a i.cells w t h;
    })
