-- What weak writes leave of cells, and that it holds.
use Rattle.std.proofs.Common.{◌≡◌, ℕ, ◌+◌, ◌<◌, Bool, true, false, ◌&&◌, ◌||◌, not, nat_eq, cond, List, [], ◌∷◌, ◌⊎◌}
use Rattle.ep_int.proofs.Basics.{and_false-not_both}
use Rattle.ep_cells.proofs.Write.{cell_on}
use Rattle.ep_cells.proofs.Changes.{form_on}
use Rattle.std.proofs.Common.{inl, inr, ⊎_elim, Option, Some, None, IfSome, refl, sym, ◌∙◌, ap, subst}
use Rattle.std.proofs.lemmas.Bool.{and_parts, or_left, or_right, eqb-true, both_ways, cases_Bool}
use Rattle.ep_int.specs.declared.types.Order.{Order}
use Rattle.ep_int.specs.declared.types.Model.{Model}
use Rattle.ep_int.specs.declared.types.IntType.{IntType}
use Rattle.ep_int.specs.declared.types.Scalar.{Scalar}
use Rattle.ep_int.specs.declared.types.Scalar.TheVariants.{Int, Pointer}
use Rattle.ep_int.specs.Types.{size_of}
use Rattle.ep_int.specs.Memory.{Memory, Value as Datum, int}
use Rattle.ep_bitslice.specs.declared.cell.Side.{Side}
use Rattle.ep_bitslice.specs.declared.cell.Side.TheVariants.{Left, Right, Shared}
use Rattle.ep_bitslice.specs.declared.cell.CellName.{CellName}
use Rattle.ep_bitslice.specs.Segments.{number as form_number}
use Rattle.ep_domain.specs.Domain.{Ops, Lawful}
use Rattle.ep_cells.specs.declared.cell.Cell.{Cell}
use Rattle.ep_cells.specs.declared.cell.Value.TheVariants.{Num}
use Rattle.ep_cells.specs.declared.place.ByteRange.{ByteRange}
use Rattle.ep_cells.specs.Cells.{on_left, on_right, share_memory, place_of, place_of_name, touches, is_same_scalar}
use Rattle.ep_cells.specs.Cells.{is_same_place, IsNamed, IsIn, first, later, each_becomes, parts_on, parts_of}
use Rattle.ep_cells.specs.States.{Known, IsOfSort, Fits, IsThere, HasForm, EachPair, AreApart, IsCell}
use Rattle.ep_cells.specs.States.{AreCells, AreAlike}
use Rattle.ep_cells.specs.Meaning.{Memories, Allows, HasBytes, Says, numbers_of, HasNumber, FormSays, In}
use Rattle.ep_cells.specs.Weaken.{blurred, with_join, weak_cell, weak_part, left_by_weak_write, first_part}
use Rattle.ep_cells.specs.Weaken.{fate_by_weak_write, weakened}
use Rattle.ep_cells.specs.Both.{value_of_both}
use Rattle.ep_cells.specs.Sound.{MayBeWritten, as_it_was, rewritten, MayBeWeaklyWritten, each_side, neither}
use Rattle.ep_cells.specs.Sound.{both_sides}
use Rattle.ep_cells.proofs.Lists.{in_each, each_in, pairs_each}
use Rattle.ep_cells.proofs.Bytes.{SameBytes, bytes_same}
use Rattle.ep_cells.proofs.Places.{Within, within_itself, within_shared, IsMadeFrom, apart_made}
use Rattle.ep_cells.proofs.Changes.{IsKept, kept_says, IsChange, change_cells, change_holds}
use Rattle.ep_cells.proofs.Write.{keeps_kept, numbers_kept, Follows, place_named}
use Rattle.ep_cells.proofs.Both.{join_unites, scalar_same, sort_both, rising_both, undefined_both, allowed_left}
use Rattle.ep_cells.proofs.Both.{allowed_right, bytes_weaker}
use Rattle.ep_cells.proofs.Parts.{rest_of_unshared}
use Rattle.ep_cells.proofs.Kill.{parts_apart}
use Rattle.ep_cells.proofs.Beside.{Sides, left_of, right_of, kept_beside, kept_other}
use Rattle.ep_cells.proofs.WeakCells.{IsSmall, small_bytes, small_after, number_here, some_number, some_in_range}
use Rattle.ep_cells.proofs.WeakCells.{AfterWeak, shared_all, after_weak, after_made, beside, other, joined}
use Rattle.ep_cells.proofs.WeakCells.{blurry}

-- ---- pairs

own_blurred : {N : Type 0} (D : Ops N) (d : Model) (x : Cell N) (w : Scalar) → EachPair (AreApart d) (blurred D x w)
own_blurred D d x (Int t) = (tt, tt)
own_blurred D d x Pointer = tt

own_cell : {N : Type 0} (D : Ops N) (d : Model) (c x : Cell N) (b : Bool)
    → EachPair (AreApart d) (cond b (with_join D c x ∷ []) (blurred D x x.what))
own_cell D d c x true = (tt, tt)
own_cell D d c x false = own_blurred D d x x.what

own_part : {N : Type 0} (D : Ops N) (d : Model) (c x : Cell N) (b : Bool)
    → EachPair (AreApart d) (cond b (weak_cell D c x) (x ∷ []))
own_part D d c x true = own_cell D d c x (is_same_place c x)
own_part D d c x false = (tt, tt)

pub parts_pairs : {N : Type 0} (d : Model) (x : Cell N) (q : Side) → EachPair (AreApart d) (parts_on x q)
parts_pairs d x Left = (tt, tt)
parts_pairs d x Right = (tt, tt)
parts_pairs d x Shared = ((parts_apart d x x.value x.value x.maybe x.maybe x.form x.form, tt), (tt, tt))

made_blurred : {N : Type 0} (D : Ops N) (x y : Cell N) (w : Scalar) → IsIn y (blurred D x w) → IsMadeFrom x y
made_blurred D x _ (Int t) (first _) = record {
  side = x.side;
  value = Some (Num (D.top t));
  maybe = true;
  form =
      None;
  is = refl;
  within = within_itself x.side;
}
made_blurred D x y (Int t) (later _ _ h) = elim h [ ]
made_blurred D x y Pointer h = elim h [ ]

made_cell : {N : Type 0} (D : Ops N) (c x y : Cell N) (b : Bool)
    → IsIn y (cond b (with_join D c x ∷ []) (blurred D x x.what)) → IsMadeFrom x y
made_cell D c x _ true (first _) = record {
  side = x.side;
  value = value_of_both D.join x.value c.value;
  maybe =
      x.maybe || c.maybe;
  form = None;
  is = refl;
  within = within_itself x.side;
}
made_cell D c x y true (later _ _ h) = elim h [ ]
made_cell D c x y false h = made_blurred D x y x.what h

made_part : {N : Type 0} (D : Ops N) (c x y : Cell N) (b : Bool) → IsIn y (cond b (weak_cell D c x) (x ∷ []))
    → IsMadeFrom x y
made_part D c x y true h = made_cell D c x y (is_same_place c x) h
made_part D c x _ false (first _) = record {
  side = x.side;
  value = x.value;
  maybe = x.maybe;
  form = x.form;
  is =
      refl;
  within = within_itself x.side;
}
made_part D c x y false (later _ _ h) = elim h [ ]

own_parts : {N : Type 0} (D : Ops N) (d : Model) (c x : Cell N)
    → EachPair (AreApart d) (each_becomes (weak_part D c) (parts_of x))
own_parts D d c x =
    pairs_each (AreApart d) (weak_part D c) (parts_of x) (parts_pairs d x x.side) (λ z h. own_part D d c z
    (share_memory c.side z.side))
    (λ u v a b r i j. apart_made d u v a b r (made_part D c u a (share_memory c.side u.side) i) (made_part D c v b
    (share_memory c.side v.side) j))

own_stays : {N : Type 0} (D : Ops N) (d : Model) (c x : Cell N) (b : Bool)
    → EachPair (AreApart d) (cond b (weak_cell D c x) (each_becomes (weak_part D c) (parts_of x)))
own_stays D d c x true = own_cell D d c x (is_same_place c x)
own_stays D d c x false = own_parts D d c x

own_touch : {N : Type 0} (D : Ops N) (d : Model) (c x : Cell N) (stays b : Bool)
    → EachPair (AreApart d) (cond (not b) (x ∷ []) (cond (stays && is_same_place c x) (weak_cell D c x) (each_becomes
    (weak_part D c) (parts_of x))))
own_touch D d c x stays true = own_stays D d c x (stays && is_same_place c x)
own_touch D d c x stays false = (tt, tt)

-- ---- cells that fit

same_fields : {N : Type 0} (c x : Cell N) (s : Side) → is_same_place c x ≡ true
    → AreAlike (record c { side = s }) (record x { side = s })
same_fields c x s h =
    let q = and_parts (nat_eq c.block x.block) (nat_eq c.offset x.offset && is_same_scalar c.what x.what) h in
    let r = and_parts (nat_eq c.offset x.offset) (is_same_scalar c.what x.what) q.1 in
    record {
      side = refl;
      block = eqb-true c.block x.block q.0;
      offset = eqb-true c.offset x.offset r.0;
      what =
          scalar_same c.what x.what r.1;
    }

joined_cell : {N : Type 0} (D : Ops N) → Lawful D → (d : Model) (c x : Cell N) (s : Side)
    → is_same_place c x ≡ true → IsCell d c → IsCell d x → IsCell d (with_join D c (record x { side = s }))
joined_cell D law d c x s e p q =
    let a = same_fields c x s e in
    record {
      fits = record {
        sort = sort_both D.join x.what x.value c.value q.fits.sort (subst (λ (w : Scalar). IsOfSort w c.value) a.what
            p.fits.sort);
        undefined = undefined_both D.join x.value c.value x.maybe c.maybe q.fits.undefined;
        last = q.fits.last;
      };
      rising = rising_both D D.join (join_unites D law) x.value c.value q.rising p.rising;
    }

blurred_cell : {N : Type 0} (D : Ops N) (d : Model) (x : Cell N) (s : Side) (t : IntType) → x.what ≡ Int t
    → IsCell d x
    → IsCell d (record {
      side = s;
      block = x.block;
      offset = x.offset;
      what = x.what;
      value = Some (Num (D.top t));
      maybe = true;
      form = None;
    })
blurred_cell {N = N} D d x s t e c = record {
  fits = record {
    sort = subst (λ (w : Scalar). IsOfSort {N = N} w (Some (Num (D.top t)))) (sym e) tt;
    undefined = λ
        f. refl;
    last = c.fits.last;
  };
  rising = tt;
}

after_cell : {N : Type 0} (D : Ops N) → Lawful D → (d : Model) (c : Cell N) (stays : Bool) (x y : Cell N)
    → IsCell d c → AfterWeak D d c stays x y → IsCell d x → IsCell d y
after_cell D law d c stays x y p (beside e t) q = subst (IsCell d) (sym e) q
after_cell D law d c stays x y p (other t e i) q = subst (IsCell d) (sym e) (cell_on d x t q)
after_cell D law d c stays x y p (joined j) q = subst (IsCell d) (sym j.is) (joined_cell D law d c x j.side j.same p
    q)
after_cell D law d c stays x y p (blurry j) q = subst (IsCell d) (sym j.is) (blurred_cell D d x j.side j.t j.what q)

after_form : {N : Type 0} (D : Ops N) (d : Model) (cs : List (Cell N)) (c : Cell N) (stays : Bool) (x y : Cell N)
    → AfterWeak D d c stays x y → HasForm cs x → HasForm cs y
after_form D d cs c stays x y (beside e t) h = subst (HasForm cs) (sym e) h
after_form D d cs c stays x y (other t e i) h = subst (HasForm cs) (sym e) (form_on cs x t x.form h)
after_form D d cs c stays x y (joined j) h = subst (HasForm cs) (sym j.is) tt
after_form D d cs c stays x y (blurry j) h = subst (HasForm cs) (sym j.is) tt

-- ---- what they say

-- the cell itself, where its bytes are as they were
from_old : {N : Type 0} (D : Ops N) → Lawful D
    → (os : Order × Order) (d : Model) (m n : Memories) (c x : Cell N) (s : Side) → is_same_place c x ≡ true
    → IsCell d c → IsCell d x → Within s x.side
    → (on_left s ≡ true → SameBytes m.left n.left x.block x.offset (size_of d x.what)) → (on_right s ≡ true →
    SameBytes m.right n.right x.block x.offset (size_of d x.what))
    → Says D os d m x → Says D os d n (with_join D c (record x { side = s }))
from_old D law os d m n c x s e p q w l r says =
    let a = same_fields c x s e in
    record {
      datum = says.datum;
      allowed = allowed_left D D.join (join_unites D law) x.what x.value c.value x.maybe c.maybe says.datum
          q.fits.sort
          (subst (λ (z : Scalar). IsOfSort z c.value) a.what p.fits.sort) q.rising p.rising q.fits.undefined
          says.allowed;
      stands = record {
        left = λ g. bytes_weaker os.0 n.left (size_of d x.what) x.what x.maybe (x.maybe || c.maybe) x.block x.offset
            says.datum (λ h. or_left x.maybe c.maybe h)
            (bytes_same os.0 m.left n.left (size_of d x.what) x.what x.maybe x.block x.offset says.datum (l g)
            (says.stands.left (w.left g)));
        right = λ g. bytes_weaker os.1 n.right (size_of d x.what) x.what x.maybe (x.maybe || c.maybe) x.block
            x.offset says.datum (λ h. or_left x.maybe c.maybe h)
            (bytes_same os.1 m.right n.right (size_of d x.what) x.what x.maybe x.block x.offset says.datum (r g)
            (says.stands.right (w.right g)));
      };
    }

-- the bytes of the cell that is written, at the cell itself
new_bytes : {N : Type 0} (o : Order) (d : Model) (n : Memory) (c x : Cell N) (v : Option Datum)
    → AreAlike (record c { side = Left }) (record x { side = Left })
    → HasBytes o n (size_of d c.what) c.what c.maybe c.block c.offset v → HasBytes o n (size_of d x.what) x.what
    (x.maybe || c.maybe) x.block x.offset v
new_bytes o d n c x v a h =
    bytes_weaker o n (size_of d x.what) x.what c.maybe (x.maybe || c.maybe) x.block x.offset v (λ g. or_right x.maybe
    c.maybe g)
    (subst (λ (q : ℕ). HasBytes o n (size_of d x.what) x.what c.maybe x.block q v) a.offset
    (subst (λ (b : ℕ). HasBytes o n (size_of d x.what) x.what c.maybe b c.offset v) a.block
    (subst (λ (w : Scalar). HasBytes o n (size_of d w) w c.maybe c.block c.offset v) a.what h)))

from_new : {N : Type 0} (D : Ops N) → Lawful D
    → (os : Order × Order) (d : Model) (n : Memories) (c x : Cell N) (s : Side) (v : Option Datum)
    → is_same_place c x ≡ true → IsCell d c → IsCell d x
    → Allows D c.what c.value c.maybe v → (on_left s ≡ true → HasBytes os.0 n.left (size_of d c.what) c.what c.maybe
    c.block c.offset v)
    → (on_right s ≡ true → HasBytes os.1 n.right (size_of d c.what) c.what c.maybe c.block c.offset v) → Says D os d
    n (with_join D c (record x { side = s }))
from_new D law os d n c x s v e p q allowed l r =
    let a = same_fields c x Left e in
    record {
      datum = v;
      allowed = allowed_right D D.join (join_unites D law) x.what x.value c.value x.maybe c.maybe v q.fits.sort
          (subst (λ (z : Scalar). IsOfSort z c.value) a.what p.fits.sort) q.rising p.rising p.fits.undefined
          (subst (λ (z : Scalar). Allows D z c.value c.maybe v) a.what allowed);
      stands = record {
        left = λ g. new_bytes os.0 d n.left c x v a (l g);
        right = λ g. new_bytes os.1 d n.right c x v a (r g);
      };
    }

all_same : (m n : Memory) (b q size : ℕ) → ((c p : ℕ) → n c p ≡ m c p) → SameBytes m n b q size
all_same m n b q size e = record { same = λ j l. e b (q + j) }

left_joined : {N : Type 0} (D : Ops N) → Lawful D
    → (os : Order × Order) (d : Model) (m n : Memories) (c x : Cell N) (s : Side) → is_same_place c x ≡ true
    → IsCell d c → IsCell d x → Within s x.side
    → (on_right s ≡ true → ⊥) → MayBeWritten D os.0 d c (on_left c.side) m.left n.left → Says D os d m x → Says D os
    d n (with_join D c (record x { side = s }))
left_joined D law os d m n c x s e p q w off (as_it_was h) says =
    from_old D law os d m n c x s e p q w (λ g. all_same m.left n.left x.block x.offset (size_of d x.what) h) (λ g.
    absurd (off g)) says
left_joined D law os d m n c x s e p q w off (rewritten f r v a h) says = from_new D law os d n c x s v e p q a (λ g.
    h) (λ g. absurd (off g))

right_joined : {N : Type 0} (D : Ops N) → Lawful D
    → (os : Order × Order) (d : Model) (m n : Memories) (c x : Cell N) (s : Side) → is_same_place c x ≡ true
    → IsCell d c → IsCell d x → Within s x.side
    → (on_left s ≡ true → ⊥) → MayBeWritten D os.1 d c (on_right c.side) m.right n.right → Says D os d m x → Says D
    os d n (with_join D c (record x { side = s }))
right_joined D law os d m n c x s e p q w off (as_it_was h) says =
    from_old D law os d m n c x s e p q w (λ g. absurd (off g)) (λ g. all_same m.right n.right x.block x.offset
    (size_of d x.what) h) says
right_joined D law os d m n c x s e p q w off (rewritten f r v a h) says = from_new D law os d n c x s v e p q a (λ
    g. absurd (off g)) (λ g. h)

joined_by : {N : Type 0} (D : Ops N) → Lawful D
    → (k : Known N) (m n : Memories) (c x : Cell N) (stays : Bool) (s : Side) → is_same_place c x ≡ true
    → IsCell k.model c → IsCell k.model x → Within s x.side
    → Within s c.side → (stays ≡ false → (on_left s && on_right s) ≡ false)
    → MayBeWeaklyWritten D k c stays m n → Says D k.orders k.model m x → Says D k.orders k.model n (with_join D c
    (record x { side = s }))
joined_by D law k m n c x stays s e p q w v one (each_side f l r) says =
    ⊎_elim
    (λ h. left_joined D law k.orders k.model m n c x s e p q w (λ g. and_false-not_both (on_left s) (on_right s) (one f) h g)
    l says)
    (λ h. right_joined D law k.orders k.model m n c x s e p q w (λ g. both_ways (on_left s) h g) r says)
    (cases_Bool (on_left s))
joined_by D law k m n c x stays s e p q w v one (neither l r) says =
    from_old D law k.orders k.model m n c x s e p q w
    (λ g. all_same m.left n.left x.block x.offset (size_of k.model x.what) l) (λ g. all_same m.right n.right x.block
    x.offset (size_of k.model x.what) r) says
joined_by D law k m n c x stays s e p q w v one (both_sides f l r new) says =
    from_new D law k.orders k.model n c x s new.datum e p q new.allowed (λ g. new.stands.left (v.left g)) (λ g.
    new.stands.right (v.right g))

-- a cell to which anything may have been written
blurred_bytes : (o : Order) (d : Model) (n : Memory) (w : Scalar) (t : IntType) (b q : ℕ) → w ≡ Int t → ((j : ℕ)
    → j < size_of d w → IsSmall (n b (q + j)))
    → HasBytes o n (size_of d w) w true b q (Some (int (number_here o t n b q)))
blurred_bytes o d n w t b q e h =
    subst (λ (z : Scalar). HasBytes o n (size_of d z) z true b q (Some (int (number_here o t n b q)))) (sym e)
    (some_number o t n b q (subst (λ (z : Scalar). (j : ℕ) → j < size_of d z → IsSmall (n b (q + j))) e h))

blurred_allowed : {N : Type 0} (D : Ops N) → Lawful D
    → (o : Order) (d : Model) (n : Memory) (w : Scalar) (t : IntType) (b q : ℕ) → w ≡ Int t → ((j : ℕ)
    → j < size_of d w → IsSmall (n b (q + j)))
    → Allows D w (Some (Num (D.top t))) true (Some (int (number_here o t n b q)))
blurred_allowed D law o d n w t b q e h =
    let r = some_in_range o t n b q (subst (λ (z : Scalar). (j : ℕ) → j < size_of d z → IsSmall (n b (q + j))) e h) in
    subst (λ (z : Scalar). Allows D z (Some (Num (D.top t))) true (Some (int (number_here o t n b q)))) (sym e) (
      r,
      law.top_holds t (number_here o t n b q) r,
    )

blurred_left : {N : Type 0} (D : Ops N) → Lawful D
    → (os : Order × Order) (d : Model) (m n : Memories) (c x : Cell N) (s : Side) (t : IntType) → x.what ≡ Int t
    → Within s x.side
    → on_left s ≡ true → (on_right s ≡ true → ⊥) → MayBeWritten D os.0 d c (on_left c.side) m.left n.left → Says D os
    d m x
    → Says D os d n (record {
      side = s;
      block = x.block;
      offset = x.offset;
      what = x.what;
      value = Some (Num (D.top
          t));
      maybe = true;
      form = None;
    })
blurred_left D law os d m n c x s t e w on off h says =
    let small : (j : ℕ) → j < size_of d x.what → IsSmall (n.left x.block (x.offset + j)) = λ j l.
    small_after D os.0 d c (on_left c.side) m.left n.left x.block x.offset j h
    (small_bytes os.0 m.left (size_of d x.what) x.what x.maybe x.block x.offset says.datum (says.stands.left (w.left
    on)) j l) in
    record {
      datum = Some (int (number_here os.0 t n.left x.block x.offset));
      allowed = blurred_allowed D law os.0 d n.left x.what t x.block x.offset e small;
      stands = record {
        left = λ g. blurred_bytes os.0 d n.left x.what t x.block x.offset e small;
        right = λ g.
            absurd (off g);
      };
    }

blurred_right : {N : Type 0} (D : Ops N) → Lawful D
    → (os : Order × Order) (d : Model) (m n : Memories) (c x : Cell N) (s : Side) (t : IntType) → x.what ≡ Int t
    → Within s x.side
    → on_right s ≡ true → (on_left s ≡ true → ⊥) → MayBeWritten D os.1 d c (on_right c.side) m.right n.right → Says D
    os d m x
    → Says D os d n (record {
      side = s;
      block = x.block;
      offset = x.offset;
      what = x.what;
      value = Some (Num (D.top
          t));
      maybe = true;
      form = None;
    })
blurred_right D law os d m n c x s t e w on off h says =
    let small : (j : ℕ) → j < size_of d x.what → IsSmall (n.right x.block (x.offset + j)) = λ j l.
    small_after D os.1 d c (on_right c.side) m.right n.right x.block x.offset j h
    (small_bytes os.1 m.right (size_of d x.what) x.what x.maybe x.block x.offset says.datum (says.stands.right
    (w.right on)) j l) in
    record {
      datum = Some (int (number_here os.1 t n.right x.block x.offset));
      allowed = blurred_allowed D law os.1 d n.right x.what t x.block x.offset e small;
      stands = record {
        left = λ g. absurd (off g);
        right = λ g. blurred_bytes os.1 d n.right x.what t x.block
            x.offset e small;
      };
    }

some_memory : (s : Side) → on_left s ≡ false → on_right s ≡ true
some_memory Left e = absurd (cc)
some_memory Right e = refl
some_memory Shared e = absurd (cc)

blurred_says : {N : Type 0} (D : Ops N) → Lawful D
    → (os : Order × Order) (d : Model) (m n : Memories) (c x : Cell N) (s : Side) (t : IntType) → x.what ≡ Int t
    → Within s x.side
    → (on_left s && on_right s) ≡ false → Sides D os d c m n → Says D os d m x
    → Says D os d n (record {
      side = s;
      block = x.block;
      offset = x.offset;
      what = x.what;
      value = Some (Num (D.top
          t));
      maybe = true;
      form = None;
    })
blurred_says D law os d m n c x s t e w one h says =
    ⊎_elim
    (λ on. blurred_left D law os d m n c x s t e w on (λ g. and_false-not_both (on_left s) (on_right s) one on g) h.left says)
    (λ off. blurred_right D law os d m n c x s t e w (some_memory s off) (λ g. both_ways (on_left s) off g) h.right
    says)
    (cases_Bool (on_left s))

sides_of : {N : Type 0} (D : Ops N) (k : Known N) (c : Cell N) (stays : Bool) (m n : Memories)
    → MayBeWeaklyWritten D k c stays m n → Sides D k.orders k.model c m n
sides_of D k c stays m n w = record { left = left_of D k c stays m n w; right = right_of D k c stays m n w }

after_says : {N : Type 0} (D : Ops N) → Lawful D → (k : Known N) (m n : Memories) (c x y : Cell N) (stays : Bool)
    → IsCell k.model c → IsCell k.model x → MayBeWeaklyWritten D k c stays m n
    → AfterWeak D k.model c stays x y → Says D k.orders k.model m x → Says D k.orders k.model n y
after_says D law k m n c x y stays p q w (beside e t) says =
    subst (Says D k.orders k.model n) (sym e) (kept_says D k.orders k.model m n x x (kept_beside D k.orders k.model c
    x m n (sides_of D k c stays m n w) t) says)
after_says D law k m n c x y stays p q w (other t e i) says =
    subst (Says D k.orders k.model n) (sym e) (kept_says D k.orders k.model m n x (record x { side = t }) (kept_other
    D k.orders k.model c x m n t (sides_of D k c stays m n w) i) says)
after_says D law k m n c x y stays p q w (joined j) says =
    subst (Says D k.orders k.model n) (sym j.is) (joined_by D law k m n c x stays j.side j.same p q j.within
    j.written j.one w says)
after_says D law k m n c x y stays p q w (blurry j) says =
    subst (Says D k.orders k.model n) (sym j.is) (blurred_says D law k.orders k.model m n c x j.side j.t j.what
    j.within j.one (sides_of D k c stays m n w) says)

after_number : {N : Type 0} (D : Ops N) (os : Order × Order) (d : Model) (m n : Memories) (cs : List (Cell N)) (c x y
    : Cell N) (stays : Bool) → Sides D os d c m n → Fits d x
    → AfterWeak D d c stays x y → Says D os d m x → HasForm cs x → IfSome x.form (FormSays os m x) → IfSome y.form (λ
    ss. HasNumber os n y y.what (form_number (numbers_of os m) ss))
after_number D os d m n cs c x y stays w f (beside e t) says form holds =
    numbers_kept D os d m n cs x y x.side e (subst (IsKept D os d m n x) (sym e) (kept_beside D os d c x m n w t)) f
    says form holds
after_number D os d m n cs c x y stays w f (other t e i) says form holds =
    numbers_kept D os d m n cs x y t e (subst (IsKept D os d m n x) (sym e) (kept_other D os d c x m n t w i)) f says
    form holds
after_number D os d m n cs c x y stays w f (joined j) says form holds =
    subst (λ z. IfSome z.form (λ ss. HasNumber os n z z.what (form_number (numbers_of os m) ss))) (sym j.is) tt
after_number D os d m n cs c x y stays w f (blurry j) says form holds =
    subst (λ z. IfSome z.form (λ ss. HasNumber os n z z.what (form_number (numbers_of os m) ss))) (sym j.is) tt

-- ---- names

pub first_in : {N : Type 0} (x : Cell N) (q : Side) → x.side ≡ q → IsIn (record x { side = first_part q }) (parts_on x q)
first_in x Left e = subst (λ (s : Side). IsIn (record x { side = s }) (x ∷ [])) e (first [])
first_in x Right e = subst (λ (s : Side). IsIn (record x { side = s }) (x ∷ [])) e (first [])
first_in x Shared e = first _

not_shared : (s t : Side) → share_memory s t ≡ false → s ≡ Shared → ⊥
not_shared s t h e = both_ways (share_memory Shared t) (subst (λ (q : Side). share_memory q t ≡ false) e h)
    (shared_all t)

stays_false : (stays : Bool) (s t : Side) → (stays ≡ true → s ≡ Shared) → share_memory s t ≡ false → stays ≡ false
stays_false true s t i h = absurd (not_shared s t h (i refl))
stays_false false s t i h = refl

own_part_in : {N : Type 0} (D : Ops N) (c z : Cell N) (b : Bool) → b ≡ false
    → IsIn z (cond b (weak_cell D c z) (z ∷ []))
own_part_in D c z true e = absurd (cc)
own_part_in D c z false e = first []

part_in : {N : Type 0} (D : Ops N) (c x : Cell N) → share_memory c.side (first_part x.side) ≡ false
    → IsIn (record x { side = first_part x.side }) (each_becomes (weak_part D c) (parts_of x))
part_in D c x h =
    let z = record x { side = first_part x.side } in
    each_in (weak_part D c) z z (parts_of x) (first_in x x.side refl) (own_part_in D c z (share_memory c.side
    (first_part x.side)) h)

stays_in : {N : Type 0} (D : Ops N) (c x z : Cell N) (stays b : Bool) → stays ≡ false
    → (stays && is_same_place c x) ≡ b → IsIn z (each_becomes (weak_part D c) (parts_of x))
    → IsIn z (cond b (weak_cell D c x) (each_becomes (weak_part D c) (parts_of x)))
stays_in D c x z true b e f h = absurd (cc)
stays_in D c x z false true e f h = absurd (cc)
stays_in D c x z false false e f h = h

shared_by : {N : Type 0} (x : Cell N) (l : List (Cell N)) (a e : CellName) (q : Side) (b : Bool) → IsNamed a x
    → share_memory q (first_part a.side) ≡ b
    → (share_memory q (first_part x.side) ≡ false → IsIn (record x { side = first_part x.side }) l)
    → cond b None (Some (record a { side = first_part a.side })) ≡ Some e → Follows x l e
shared_by x l a e q true i f h k = absurd (cc)
shared_by x l a e q false i f h k =
    let is : record a { side = first_part a.side } ≡ e = cc in
    record {
      side = first_part x.side;
      is_in = h (subst (λ (s : Side). share_memory q (first_part s) ≡ false) (sym i.side) f);
      named = subst (λ z. IsNamed z (record x { side = first_part x.side })) is (record {
        side = ap first_part
            i.side;
        block = i.block;
        offset = i.offset;
        what = i.what;
      });
    }

touched_by : {N : Type 0} (D : Ops N) (d : Model) (c x : Cell N) (stays : Bool) (a e : CellName) (b : Bool)
    → IsNamed a x → (stays ≡ true → c.side ≡ Shared)
    → cond b (cond (share_memory c.side (first_part a.side)) None (Some (record a { side = first_part a.side })))
    (Some a) ≡ Some e
    → Follows x (cond (not b) (x ∷ []) (cond (stays && is_same_place c x) (weak_cell D c x) (each_becomes (weak_part
    D c) (parts_of x)))) e
touched_by D d c x stays a e true i s h =
    shared_by x (cond (stays && is_same_place c x) (weak_cell D c x) (each_becomes (weak_part D c) (parts_of x))) a e
    c.side (share_memory c.side (first_part a.side)) i refl
    (λ f. stays_in D c x (record x { side = first_part x.side }) stays (stays && is_same_place c x) (stays_false
    stays c.side (first_part x.side) s f) refl (part_in D c x f)) h
touched_by D d c x stays a e false i s h =
    let is : a ≡ e = cc in
    record { side = x.side; is_in = first []; named = subst (λ z. IsNamed z x) is i }

follows_weak : {N : Type 0} (D : Ops N) (d : Model) (c x : Cell N) (stays : Bool) (a e : CellName) → IsNamed a x
    → (stays ≡ true → c.side ≡ Shared)
    → fate_by_weak_write (place_of d c) a ≡ Some e → Follows x (left_by_weak_write D d c stays x) e
follows_weak D d c x stays a e i s h =
    subst (λ z. Follows x (cond (not (touches (place_of d c) z)) (x ∷ []) (cond (stays && is_same_place c x)
    (weak_cell D c x) (each_becomes (weak_part D c) (parts_of x)))) e) (sym (place_named d a x i))
    (touched_by D d c x stays a e (touches (place_of d c) (place_of_name a)) i s h)

-- the cell that a mention follows is kept: where the place touches it, its side isn't written
apart_by : (p : ByteRange) (a e : CellName) (b : Bool) → share_memory p.side (first_part a.side) ≡ b
    → cond b None (Some (record a { side = first_part a.side })) ≡ Some e
    → share_memory p.side e.side ≡ false
apart_by p a e true f k = absurd (cc)
apart_by p a e false f k = let is : record a { side = first_part a.side } ≡ e = cc in subst (λ z. share_memory p.side
    z.side ≡ false) is f

touched_apart : (p : ByteRange) (a e : CellName) (b : Bool) → b ≡ true
    → cond b (cond (share_memory p.side (first_part a.side)) None (Some (record a { side = first_part a.side })))
    (Some a) ≡ Some e
    → share_memory p.side e.side ≡ false
touched_apart p a e true g h = apart_by p a e (share_memory p.side (first_part a.side)) refl h
touched_apart p a e false g h = absurd (cc)

kept_after : {N : Type 0} (D : Ops N) (os : Order × Order) (d : Model) (m n : Memories) (c x : Cell N) (s : Side)
    (stays : Bool) → Sides D os d c m n
    → (touches (place_of d c) (place_of d x) ≡ true → share_memory c.side s ≡ false) → Within s x.side → s ≡ x.side ⊎
    (touches (place_of d c) (place_of d x) ≡ true) → IsKept D os d m n x (record x { side = s })
kept_after D os d m n c x s stays w h i (inl e) =
    ⊎_elim
    (λ t. kept_other D os d c x m n s w (rest_of_unshared c.side s x.side (h t) i))
    (λ t. subst (λ (q : Side). IsKept D os d m n x (record x { side = q })) (sym e) (kept_beside D os d c x m n w t))
    (cases_Bool (touches (place_of d c) (place_of d x)))
kept_after D os d m n c x s stays w h i (inr t) = kept_other D os d c x m n s w (rest_of_unshared c.side s x.side (h
    t) i)

first_within : (s : Side) → Within (first_part s) s
first_within Left = within_itself Left
first_within Right = within_itself Right
first_within Shared = within_shared Left

-- which side it is on
side_by : (p : ByteRange) (a e : CellName) (b c : Bool)
    → cond b (cond c None (Some (record a { side = first_part a.side }))) (Some a) ≡ Some e
    → ((e.side ≡ a.side) ⊎ (b ≡ true)) × Within e.side a.side
side_by p a e true true h = absurd (cc)
side_by p a e true false h =
    let is : record a { side = first_part a.side } ≡ e = cc in
    (inr refl, subst (λ z. Within z.side a.side) is (first_within a.side))
side_by p a e false c h =
    let is : a ≡ e = cc in
    (inl (ap (λ z. z.side) (sym is)), subst (λ z. Within z.side a.side) is (within_itself a.side))

weak_keeps : {N : Type 0} (D : Ops N) (os : Order × Order) (d : Model) (m n : Memories) (c : Cell N) (stays : Bool)
    (cs : List (Cell N)) (a e : CellName) → AreCells d cs
    → ((x : Cell N) → IsIn x cs → Says D os d m x) → (stays ≡ true → c.side ≡ Shared) → Sides D os d c m n → IsThere
    a cs → fate_by_weak_write (place_of d c) a ≡ Some e → numbers_of os n e ≡ numbers_of os m a
weak_keeps D os d m n c stays cs a e cells says s w t h =
    let f = follows_weak D d c t.cell stays a e t.named s h in
    let y = record t.cell { side = f.side } in
    let place = place_named d a t.cell t.named in
    let b = touches (place_of d c) (place_of_name a) in
    let side = side_by (place_of d c) a e b (share_memory c.side (first_part a.side)) h in
    let same : f.side ≡ e.side = f.named.side in
    let apart : touches (place_of d c) (place_of d t.cell) ≡ true → share_memory c.side f.side ≡ false = λ g.
    subst (λ (q : Side). share_memory c.side q ≡ false) (sym same)
    (touched_apart (place_of d c) a e b (subst (λ z. touches (place_of d c) z ≡ true) place g) h) in
    let within : Within f.side t.cell.side = subst (λ (q : Side). Within q t.cell.side) (sym same) (subst (Within
    e.side) (sym t.named.side) side.1) in
    let where_it_is : (f.side ≡ t.cell.side) ⊎ (touches (place_of d c) (place_of d t.cell) ≡ true) =
    ⊎_elim (λ g. inl (same ∙ g ∙ sym t.named.side)) (λ g. inr (subst (λ z. touches (place_of d c) z ≡ true) (sym
    place) g)) side.0 in
    keeps_kept D os d m n t.cell y a e (kept_after D os d m n c t.cell f.side stays w apart within where_it_is)
    (cells.each t.cell t.is_in).fits t.sure (says t.cell t.is_in) refl t.named f.named

-- ---- the law

abbrev all_left : {N : Type 0} → Ops N → Model → Cell N → Bool → List (Cell N) → List (Cell N)
all_left D d c stays cs = each_becomes (left_by_weak_write D d c stays) cs

by_origin : {N : Type 0} (D : Ops N) (d : Model) (c : Cell N) (stays : Bool) (cs : List (Cell N)) (P : Cell N
    → Type 0) → (stays ≡ true → c.side ≡ Shared)
    → ((x y : Cell N) → IsIn x cs → AfterWeak D d c stays x y → P y) → (y : Cell N) → IsIn y (all_left D d c stays
    cs) → P y
by_origin D d c stays cs P s old y h =
    let r = in_each (left_by_weak_write D d c stays) y cs h in old r.origin y r.is_in (after_weak D d c r.origin y
    stays s r.becomes)

there_after : {N : Type 0} (D : Ops N) (d : Model) (c : Cell N) (stays : Bool) (cs : List (Cell N)) (a e : CellName)
    → (stays ≡ true → c.side ≡ Shared) → IsThere a cs
    → fate_by_weak_write (place_of d c) a ≡ Some e → IsThere e (all_left D d c stays cs)
there_after D d c stays cs a e s t h =
    let f = follows_weak D d c t.cell stays a e t.named s h in
    record {
      cell = record t.cell { side = f.side };
      is_in = each_in (left_by_weak_write D d c stays) t.cell (record t.cell { side = f.side }) cs t.is_in f.is_in;
      named = f.named;
      sure = t.sure;
    }

weak_change : {N : Type 0} (D : Ops N) → Lawful D → (d : Model) (c : Cell N) (stays : Bool) (cs : List (Cell N))
    → AreCells d cs → IsCell d c → (stays ≡ true → c.side ≡ Shared)
    → IsChange d cs (all_left D d c stays cs) (fate_by_weak_write (place_of d c))
weak_change D law d c stays cs a p s = record {
  each = by_origin D d c stays cs (IsCell d) s (λ x y k w. after_cell D law d c stays x y p w (a.each x k));
  pairs = pairs_each (AreApart d) (left_by_weak_write D d c stays) cs a.pairs (λ x k. own_touch D d c x stays
      (touches (place_of d c) (place_of d x)))
      (λ x y u v r i j. apart_made d x y u v r (after_made D d c stays x u (after_weak D d c x u stays s i))
      (after_made D d c stays y v (after_weak D d c y v stays s j)));
  forms = by_origin D d c stays cs (HasForm cs) s (λ x y k w. after_form D d cs c stays x y w (a.forms x k));
  fates = λ n e t h. there_after D d c stays cs n e s t h;
}

pub weak_cells : {N : Type 0} (D : Ops N) → Lawful D → (d : Model) (c : Cell N) (stays : Bool) (cs : List (Cell N))
    → AreCells d cs → IsCell d c → (stays ≡ true → c.side ≡ Shared)
    → AreCells d (weakened D d c stays cs)
weak_cells D law d c stays cs a p s = change_cells d cs (all_left D d c stays cs) (fate_by_weak_write (place_of d c))
    (weak_change D law d c stays cs a p s)

pub weak_holds : {N : Type 0} (D : Ops N) → Lawful D → (k : Known N) (m n : Memories) (c : Cell N) (stays : Bool)
    → AreCells k.model k.cells → IsCell k.model c → (stays ≡ true → c.side ≡ Shared)
    → In D k m → MayBeWeaklyWritten D k c stays m n → In D (record k { cells = weakened D k.model c stays k.cells }) n
weak_holds D law k m n c stays a p s i w =
    let sides = sides_of D k c stays m n w in
    change_holds D k.orders k.model m n k.cells (all_left D k.model c stays k.cells) (fate_by_weak_write (place_of
    k.model c)) (weak_change D law k.model c stays k.cells a p s)
    (record {
      says = by_origin D k.model c stays k.cells (Says D k.orders k.model n) s (λ x y j r. after_says D law k m n c x
          y stays p (a.each x j) w r (i.cells x j));
      numbers = by_origin D k.model c stays k.cells (λ y. IfSome y.form (λ ss. HasNumber k.orders n y y.what
          (form_number (numbers_of k.orders m) ss))) s
          (λ x y j r. after_number D k.orders k.model m n k.cells c x y stays sides (a.each x j).fits r (i.cells x j)
          (a.forms x j) (i.forms x j));
      keeps = λ x e t h. weak_keeps D k.orders k.model m n c stays k.cells x e a i.cells s sides t h;
    })
