-- What is left of a cell where a place may have been written.
use Rattle.std.proofs.Common.{◌≡◌, Bool, true, false, ◌&&◌, cond, [], ◌∷◌, Some, None, refl, sym, ap, ◌∙◌, subst}
use Rattle.ep_cells.proofs.Weaken.{first_in}
use Rattle.ep_int.specs.declared.types.Model.{Model}
use Rattle.ep_int.specs.declared.types.IntType.{IntType}
use Rattle.ep_int.specs.declared.types.Scalar.{Scalar}
use Rattle.ep_int.specs.declared.types.Scalar.TheVariants.{Int, Pointer}
use Rattle.ep_bitslice.specs.declared.cell.Side.{Side}
use Rattle.ep_bitslice.specs.declared.cell.Side.TheVariants.{Left, Right, Shared}
use Rattle.ep_bitslice.specs.declared.cell.CellName.{CellName}
use Rattle.ep_domain.specs.Domain.{Ops}
use Rattle.ep_cells.specs.declared.cell.Cell.{Cell}
use Rattle.ep_cells.specs.declared.cell.Value.TheVariants.{Num}
use Rattle.ep_cells.specs.declared.place.ByteRange.{ByteRange}
use Rattle.ep_cells.specs.Cells.{on_left, on_right, share_memory, place_of, place_of_name, touches, parts_on}
use Rattle.ep_cells.specs.Cells.{parts_of, IsNamed, IsIn, first, later, each_becomes}
use Rattle.ep_cells.specs.Weaken.{blurred, first_part, fate_by_weak_write}
use Rattle.ep_cells.specs.States.{IsOfSort, EachPair, AreApart, IsCell}
use Rattle.ep_cells.proofs.Lists.{in_each, each_in, pairs_each}
use Rattle.ep_cells.proofs.Places.{Within, within_itself, IsRest, IsMadeFrom, apart_made}
use Rattle.ep_cells.proofs.Parts.{rest_of_unshared, IsPart, part_is}
use Rattle.ep_cells.proofs.Kill.{parts_apart}
use Rattle.ep_cells.proofs.Write.{Follows, place_named}
use Rattle.ep_cells.proofs.WeakCells.{one_part}
use Rattle.ep_cell_ranges.specs.Ranges.{blurred_part, left_by_blur}
use Rattle.ep_cell_ranges.proofs.WeakHeld.{follows_first}

module _ {N : Type 0} (D : Ops N) where
  abbrev pub any_of : Side → IntType → Cell N → Cell N
  any_of s t x = record {
    side = s;
    block = x.block;
    offset = x.offset;
    what = x.what;
    value = Some (Num (D.top t));
    maybe = true;
    form = None;
  }

  -- a part of an integer cell, of one memory, that may have any value
  pub record IsBlurry (x y : Cell N) : Type 0 where
    pub side : Side
    pub t : IntType
    pub what : x.what ≡ Int t
    pub is : y ≡ any_of side t x
    pub within : Within side x.side
    pub one : (on_left side && on_right side) ≡ false

  pub data AfterBlur (d : Model) (p : ByteRange) (x y : Cell N) : Type 0 where
    beside : y ≡ x → touches p (place_of d x) ≡ false → AfterBlur d p x y
    other : (t : Side) → y ≡ record x { side = t } → IsRest p.side x.side t → AfterBlur d p x y
    blurry : IsBlurry x y → AfterBlur d p x y

  blurred_by : (d : Model) (p : ByteRange) (x : Cell N) (s : Side) (w : Scalar) (y : Cell N) → x.what ≡ w → Within s x.side
      → (on_left s && on_right s) ≡ false → IsIn y (blurred D (record x { side = s }) w) → AfterBlur d p x y
  blurred_by d p x s (Int t) _ e w o (first _) =
      blurry (record { side = s; t = t; what = e; is = refl; within = w; one = o })
  blurred_by d p x s (Int t) y e w o (later _ _ h) = elim h [ ]
  blurred_by d p x s Pointer y e w o h = elim h [ ]

  part_by : (d : Model) (p : ByteRange) (x y : Cell N) (s : Side) (b : Bool) → share_memory p.side s ≡ b → Within s x.side
      → (on_left s && on_right s) ≡ false
      → IsIn y (cond b (blurred D (record x { side = s }) x.what) (record x { side = s } ∷ [])) → AfterBlur d p x y
  part_by d p x y s true g w o h = blurred_by d p x s x.what y refl w o h
  part_by d p x _ s false g w o (first _) = other s refl (rest_of_unshared p.side s x.side g w)
  part_by d p x y s false g w o (later _ _ h) = elim h [ ]

  part_after : (d : Model) (p : ByteRange) (x y z : Cell N) → IsPart x z → (on_left z.side && on_right z.side) ≡ false
      → IsIn y (blurred_part D p.side z) → AfterBlur d p x y
  part_after d p x y z i o h =
      part_by d p x y i.side (share_memory p.side i.side) refl i.within
      (subst (λ (q : Cell N). (on_left q.side && on_right q.side) ≡ false) i.is o)
      (subst (λ q. IsIn y (blurred_part D p.side q)) i.is h)

  touch_by : (d : Model) (p : ByteRange) (x y : Cell N) (b : Bool) → touches p (place_of d x) ≡ b
      → IsIn y (cond b (each_becomes (blurred_part D p.side) (parts_of x)) (x ∷ [])) → AfterBlur d p x y
  touch_by d p x y true e h =
      let r = in_each (blurred_part D p.side) y (parts_of x) h in
      part_after d p x y r.origin (part_is x r.origin r.is_in) (one_part x r.origin x.side refl r.is_in) r.becomes
  touch_by d p x _ false e (first _) = beside refl e
  touch_by d p x y false e (later _ _ h) = elim h [ ]

  pub after_blur : (d : Model) (p : ByteRange) (x y : Cell N) → IsIn y (left_by_blur D d p x) → AfterBlur d p x y
  after_blur d p x y h = touch_by d p x y (touches p (place_of d x)) refl h

  pub after_made : (d : Model) (p : ByteRange) (x y : Cell N) → AfterBlur d p x y → IsMadeFrom x y
  after_made d p x y (beside e t) = record {
    side = x.side;
    value = x.value;
    maybe = x.maybe;
    form = x.form;
    is = e;
    within = within_itself x.side;
  }
  after_made d p x y (other t e i) = record {
    side = t;
    value = x.value;
    maybe = x.maybe;
    form = x.form;
    is = e;
    within = i.within;
  }
  after_made d p x y (blurry i) = record {
    side = i.side;
    value = Some (Num (D.top i.t));
    maybe = true;
    form = None;
    is = i.is;
    within = i.within;
  }

  -- ---- pairs of what is left of one cell

  own_blurred : (d : Model) (x : Cell N) (w : Scalar) → EachPair (AreApart d) (blurred D x w)
  own_blurred d x (Int t) = (tt, tt)
  own_blurred d x Pointer = tt

  own_part : (d : Model) (x : Cell N) (b : Bool) → EachPair (AreApart d) (cond b (blurred D x x.what) (x ∷ []))
  own_part d x true = own_blurred d x x.what
  own_part d x false = (tt, tt)

  parts_pairs : (d : Model) (x : Cell N) (q : Side) → EachPair (AreApart d) (parts_on x q)
  parts_pairs d x Left = (tt, tt)
  parts_pairs d x Right = (tt, tt)
  parts_pairs d x Shared = ((parts_apart d x x.value x.value x.maybe x.maybe x.form x.form, tt), (tt, tt))

  made_blurred : (x : Cell N) (w : Scalar) (y : Cell N) → IsIn y (blurred D x w) → IsMadeFrom x y
  made_blurred x (Int t) _ (first _) = record {
    side = x.side;
    value = Some (Num (D.top t));
    maybe = true;
    form = None;
    is = refl;
    within = within_itself x.side;
  }
  made_blurred x (Int t) y (later _ _ h) = elim h [ ]
  made_blurred x Pointer y h = elim h [ ]

  made_part : (x y : Cell N) (b : Bool) → IsIn y (cond b (blurred D x x.what) (x ∷ [])) → IsMadeFrom x y
  made_part x y true h = made_blurred x x.what y h
  made_part x _ false (first _) = record {
    side = x.side;
    value = x.value;
    maybe = x.maybe;
    form = x.form;
    is = refl;
    within = within_itself x.side;
  }
  made_part x y false (later _ _ h) = elim h [ ]

  own_touch : (d : Model) (p : ByteRange) (x : Cell N) (b : Bool)
      → EachPair (AreApart d) (cond b (each_becomes (blurred_part D p.side) (parts_of x)) (x ∷ []))
  own_touch d p x true =
      pairs_each (AreApart d) (blurred_part D p.side) (parts_of x) (parts_pairs d x x.side)
      (λ z h. own_part d z (share_memory p.side z.side))
      (λ u v a b r i j. apart_made d u v a b r (made_part u a (share_memory p.side u.side) i)
      (made_part v b (share_memory p.side v.side) j))
  own_touch d p x false = (tt, tt)

  pub own_pairs : (d : Model) (p : ByteRange) (x : Cell N) → EachPair (AreApart d) (left_by_blur D d p x)
  own_pairs d p x = own_touch d p x (touches p (place_of d x))

  -- ---- they are cells

  cell_on : (d : Model) (x : Cell N) (s : Side) → IsCell d x → IsCell d (record x { side = s })
  cell_on d x s c = record {
    fits = record { sort = c.fits.sort; undefined = c.fits.undefined; last = c.fits.last };
    rising = c.rising;
  }

  any_cell : (d : Model) (x : Cell N) (s : Side) (t : IntType) → x.what ≡ Int t → IsCell d x → IsCell d (any_of s t x)
  any_cell d x s t e c = record {
    fits = record {
      sort = subst (λ (w : Scalar). IsOfSort {N = N} w (Some (Num (D.top t)))) (sym e) tt;
      undefined = λ f. refl;
      last = c.fits.last;
    };
    rising = tt;
  }

  pub after_cell : (d : Model) (p : ByteRange) (x y : Cell N) → AfterBlur d p x y → IsCell d x → IsCell d y
  after_cell d p x y (beside e t) c = subst (IsCell d) (sym e) c
  after_cell d p x y (other t e i) c = subst (IsCell d) (sym e) (cell_on d x t c)
  after_cell d p x y (blurry i) c = subst (IsCell d) (sym i.is) (any_cell d x i.side i.t i.what c)

  -- ---- names

  own_in : (s : Side) (z : Cell N) (b : Bool) → b ≡ false → IsIn z (cond b (blurred D z z.what) (z ∷ []))
  own_in s z true e = absurd (cc)
  own_in s z false e = first []

  untouched_in : (p : ByteRange) (x : Cell N) (b : Bool) → b ≡ false
      → IsIn x (cond b (each_becomes (blurred_part D p.side) (parts_of x)) (x ∷ []))
  untouched_in p x true e = absurd (cc)
  untouched_in p x false e = first []

  part_in : (p : ByteRange) (x : Cell N) (b : Bool) → b ≡ true → share_memory p.side (first_part x.side) ≡ false
      → IsIn (record x { side = first_part x.side }) (cond b (each_becomes (blurred_part D p.side) (parts_of x))
      (x ∷ []))
  part_in p x true e h =
      let z : Cell N = record x { side = first_part x.side } in
      each_in (blurred_part D p.side) z z (parts_of x) (first_in x x.side refl)
      (own_in p.side z (share_memory p.side (first_part x.side)) h)
  part_in p x false e h = absurd (cc)

  pub follows_blur : (d : Model) (p : ByteRange) (x : Cell N) (a e : CellName) → IsNamed a x
      → fate_by_weak_write p a ≡ Some e
      → Follows x (left_by_blur D d p x) e
  follows_blur d p x a e i h =
      let same : touches p (place_of d x) ≡ touches p (place_of_name a) = ap (touches p) (place_named d a x i) in
      follows_first x (left_by_blur D d p x) p a e i
      (λ g. untouched_in p x (touches p (place_of d x)) (same ∙ g))
      (λ g f. subst (λ (q : Side). IsIn (record x { side = first_part q }) (left_by_blur D d p x)) i.side
      (part_in p x (touches p (place_of d x)) (same ∙ g)
      (subst (λ (q : Side). share_memory p.side (first_part q) ≡ false) (sym i.side) f))) h
