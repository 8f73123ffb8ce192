-- A cell of both memories that is written over one of its place and type: all places stay.
use Rattle.std.proofs.Common.{◌≡◌, ℕ, ◌+◌, Bool, true, false, ◌&&◌, ◌||◌, ◌*◌, not, if◌then◌else◌, ◌⊎◌, inl, inr}
use Rattle.std.proofs.Common.{cond, List, [], ◌∷◌, ◌++◌, map, refl, sym, ap, ◌∙◌, subst, arith, nat_eq, nat_lt}
use Rattle.std.proofs.lemmas.Bool.{and_parts, and_from, eq-eqb, lt-ltb}
use Rattle.ep_int.specs.declared.types.Model.{Model}
use Rattle.ep_int.specs.declared.types.Scalar.{Scalar}
use Rattle.ep_int.specs.Types.{size_of}
use Rattle.ep_bitslice.specs.declared.cell.Side.{Side}
use Rattle.ep_bitslice.specs.Bits.{side_number}
use Rattle.ep_bitslice.specs.declared.cell.Side.TheVariants.{Shared}
use Rattle.ep_layout.proofs.Sizes.{size_of_scalar}
use Rattle.ep_domain.specs.Domain.{Ops}
use Rattle.ep_cells.specs.declared.cell.Cell.{Cell}
use Rattle.ep_cells.specs.declared.place.ByteRange.{ByteRange}
use Rattle.ep_cells.specs.Cells.{IsIn, first, later, put, each_becomes, place_of, touches, meets, share_memory}
use Rattle.ep_cells.specs.Cells.{comes_before, key_of, is_same_side, is_same_scalar, is_same_place, is_same_cell}
use Rattle.ep_cells.specs.Cells.{with_side, side_without, parts_of}
use Rattle.ep_cells.specs.Forms.{Fate, reformed}
use Rattle.ep_cells.specs.Write.{left_by_write, fate_by_write, written}
use Rattle.ep_cells.specs.Weaken.{with_join, weak_part, blurred, left_by_weak_write, fate_by_weak_write, weakened}
use Rattle.ep_cells.specs.Both.{cells_of_both}
use Rattle.ep_cells.specs.States.{Each, EachPair, AreApart, AreAlike, HaveCellsAlike}
use Rattle.ep_cells.proofs.Both.{alike_same, alike_sym}
use Rattle.ep_cells.proofs.Places.{before_true, not_both, meets_sym}
use Rattle.ep_reads.proofs.Sides.{same_itself, others_apart}
use Rattle.ep_tame_cells.specs.Shared.{AreShared, AreSharedCells, IsOverCell}

differ : true ≡ false → ⊥
differ h = cc

module _ {N : Type 0} where
  -- ---- cells alike

  abbrev same_by : Side → (b q : ℕ) → Scalar → Cell N → Bool
  same_by s b q w x =
      is_same_side s x.side && (nat_eq b x.block && (nat_eq q x.offset && is_same_scalar w x.what))

  pub same_alike : (x y : Cell N) → AreAlike x y → is_same_cell x y ≡ true
  same_alike x y a =
      ap (λ (w : Scalar). same_by x.side x.block x.offset w y) a.what
      ∙ ap (λ (s : Side). same_by s x.block x.offset y.what y) a.side
      ∙ ap (λ (b : ℕ). same_by y.side b x.offset y.what y) a.block
      ∙ ap (λ (q : ℕ). same_by y.side y.block q y.what y) a.offset
      ∙ same_itself y

  alike_trans : (x y z : Cell N) → AreAlike x y → AreAlike y z → AreAlike x z
  alike_trans x y z a b = record {
    side = a.side ∙ b.side;
    block = a.block ∙ b.block;
    offset = a.offset ∙ b.offset;
    what = a.what ∙ b.what;
  }

  alike_itself : (x : Cell N) → AreAlike x x
  alike_itself x = record { side = refl; block = refl; offset = refl; what = refl }

  pub place_alike : (d : Model) (x y : Cell N) → AreAlike x y → place_of d x ≡ place_of d y
  place_alike d x y a =
      ap (λ s. at s x.block x.offset (size_of d x.what)) a.side
      ∙ ap (λ b. at y.side b x.offset (size_of d x.what)) a.block
      ∙ ap (λ q. at y.side y.block q (size_of d x.what)) a.offset
      ∙ ap (λ w. at y.side y.block y.offset (size_of d w)) a.what
    where
      at : Side → (b q n : ℕ) → ByteRange
      at s b q n = record { side = s; block = b; offset = q; bytes = n }

  before_alike : (x y z : Cell N) → AreAlike x y → comes_before x z ≡ comes_before y z
  before_alike x y z a =
      ap (λ b. before b (key_of x)) a.block
      ∙ ap (λ k. before y.block k) (ap (λ q. 3 * q + side_number x.side) a.offset
      ∙ ap (λ s. 3 * y.offset + side_number s) a.side)
    where
      before : (b k : ℕ) → Bool
      before b k = nat_lt b z.block || (nat_eq b z.block && nat_lt k (key_of z))

  after_alike : (x y z : Cell N) → AreAlike x y → comes_before z x ≡ comes_before z y
  after_alike x y z a =
      ap (λ b. before b (key_of x)) a.block
      ∙ ap (λ k. before y.block k) (ap (λ q. 3 * q + side_number x.side) a.offset
      ∙ ap (λ s. 3 * y.offset + side_number s) a.side)
    where
      before : (b k : ℕ) → Bool
      before b k = nat_lt z.block b || (nat_eq z.block b && nat_lt (key_of z) k)

  all_alike : (cs : List (Cell N)) → HaveCellsAlike cs cs
  all_alike [] = tt
  all_alike (c ∷ cs) = (alike_itself c, all_alike cs)

  -- ---- both

  pub both_alike : (f : N → N → N) (xs ys : List (Cell N)) → HaveCellsAlike xs ys
      → HaveCellsAlike xs (cells_of_both f xs ys)
  both_alike f [] [] h = tt
  both_alike f [] (y ∷ ys) h = absurd h
  both_alike f (x ∷ xs) [] h = absurd h
  both_alike f (x ∷ xs) (y ∷ ys) h =
      (record { side = refl; block = refl; offset = refl; what = refl }, both_alike f xs ys h.1)

  pub alike_shared : (xs ys : List (Cell N)) → HaveCellsAlike xs ys → AreShared xs → AreShared ys
  alike_shared [] [] h s = tt
  alike_shared [] (y ∷ ys) h s = absurd h
  alike_shared (x ∷ xs) [] h s = absurd h
  alike_shared (x ∷ xs) (y ∷ ys) h s = (sym h.0.side ∙ s.0, alike_shared xs ys h.1 s.1)

  -- forms are nothing of places
  formed_alike : (f : Fate) (xs ys : List (Cell N)) → HaveCellsAlike xs ys → HaveCellsAlike xs (map (reformed f) ys)
  formed_alike f [] [] h = tt
  formed_alike f [] (y ∷ ys) h = absurd h
  formed_alike f (x ∷ xs) [] h = absurd h
  formed_alike f (x ∷ xs) (y ∷ ys) h =
      (record { side = h.0.side; block = h.0.block; offset = h.0.offset; what = h.0.what }, formed_alike f xs ys h.1)

  -- ---- the cell that is written over

  shared_in : (cs : List (Cell N)) → AreShared cs → (x : Cell N) → IsIn x cs → x.side ≡ Shared
  shared_in [] s x i = elim i [ ]
  shared_in (_ ∷ cs) s x (first _) = s.0
  shared_in (z ∷ cs) s x (later _ _ i) = shared_in cs s.1 x i

  -- cells of both memories that touch have bytes in common
  meets_shared : (d : Model) (x y : Cell N) → x.side ≡ Shared → y.side ≡ Shared
      → touches (place_of d x) (place_of d y) ≡ true → meets (place_of d x) (place_of d y) ≡ true
  meets_shared d x y p q h =
      ap (λ s. share_memory s y.side && touches (place_of d x) (place_of d y)) p
      ∙ ap (λ s. share_memory Shared s && touches (place_of d x) (place_of d y)) q ∙ h

  module _ (d : Model) (c : Cell N) (cs : List (Cell N)) (a : AreSharedCells d cs) (over : IsOverCell c cs) where
    old_alike : AreAlike c over.old
    old_alike =
        alike_same c over.old
        (and_from (is_same_side c.side over.old.side) (is_same_place c over.old)
        (eq-eqb (side_number c.side) (side_number over.old.side)
        (ap side_number (over.shared ∙ sym (shared_in cs a.shared over.old over.is_in)))) over.same)

    -- what is touched is that cell
    pub touched_alike : (x : Cell N) → IsIn x cs → touches (place_of d c) (place_of d x) ≡ true → AreAlike c x
    touched_alike x i h = by_same (is_same_cell x over.old) refl
      where
        own : touches (place_of d over.old) (place_of d x) ≡ true
        own = sym (ap (λ p. touches p (place_of d x)) (place_alike d c over.old old_alike)) ∙ h

        by_same : (b : Bool) → is_same_cell x over.old ≡ b → AreAlike c x
        by_same true e =
            alike_trans c over.old x old_alike (alike_sym x over.old (alike_same x over.old e))
        by_same false e =
            absurd (differ (sym (meets_shared d over.old x (shared_in cs a.shared over.old over.is_in)
            (shared_in cs a.shared x i) own) ∙ others_apart d over.old x cs a.cells.pairs over.is_in i e))

    -- a cell that is touched stays as one of its place
    weak_alike : (D : Ops N) (x : Cell N) → IsIn x cs
        → (y : Cell N) × (left_by_weak_write D d c true x ≡ y ∷ []) × AreAlike x y
    weak_alike D x i = by_touch (touches (place_of d c) (place_of d x)) refl (touched_alike x i)
      where
        weak_by : (t p : Bool) → List (Cell N)
        weak_by t p =
            if not t then x ∷ [] else if true && p then (if p then with_join D c x ∷ [] else blurred D x x.what) else
            each_becomes (weak_part D c) (parts_of x)

        by_touch : (t : Bool) → touches (place_of d c) (place_of d x) ≡ t
            → (touches (place_of d c) (place_of d x) ≡ true → AreAlike c x)
            → (y : Cell N) × (left_by_weak_write D d c true x ≡ y ∷ []) × AreAlike x y
        by_touch true e alike =
            let same = and_parts (is_same_side c.side x.side) (is_same_place c x) (same_alike c x (alike e)) in (
              with_join D c x,
              ap (λ t. weak_by t (is_same_place c x)) e ∙ ap (λ p. weak_by true p) same.1,
              record { side = refl; block = refl; offset = refl; what = refl },
            )
        by_touch false e alike = (x, ap (λ t. weak_by t (is_same_place c x)) e, alike_itself x)

  each_alike : (g : Cell N → List (Cell N)) (cs : List (Cell N))
      → ((x : Cell N) → IsIn x cs → (y : Cell N) × (g x ≡ y ∷ []) × AreAlike x y)
      → HaveCellsAlike cs (each_becomes g cs)
  each_alike g [] h = tt
  each_alike g (x ∷ cs) h =
      let r = h x (first cs) in
      subst (λ ys. HaveCellsAlike (x ∷ cs) (ys ++ each_becomes g cs)) (sym r.1)
      (r.2, each_alike g cs (λ y i. h y (later x cs i)))

  pub weakened_alike : (D : Ops N) (d : Model) (c : Cell N) (cs : List (Cell N)) → AreSharedCells d cs
      → IsOverCell c cs → HaveCellsAlike cs (weakened D d c true cs)
  weakened_alike D d c cs a over =
      formed_alike (fate_by_weak_write (place_of d c)) cs (each_becomes (left_by_weak_write D d c true) cs)
      (each_alike (left_by_weak_write D d c true) cs (weak_alike d c cs a over D))

  -- ---- a strong write

  -- what comes before a cell that is like c, c doesn't come before
  not_before : (x old c : Cell N) → comes_before x old ≡ true → AreAlike c old → comes_before c x ≡ false
  not_before x old c h a = by_test (comes_before c x) refl
    where
      by_test : (b : Bool) → comes_before c x ≡ b → comes_before c x ≡ false
      by_test true e =
          absurd (not_both x.block (key_of x) old.block (key_of old)
          (before_true x.block (key_of x) old.block (key_of old) h)
          (before_true old.block (key_of old) x.block (key_of x) (sym (before_alike c old x a) ∙ e)))
      by_test false e = e

  each_before : (d : Model) (x : Cell N) (ys : List (Cell N)) → Each (AreApart d x) ys → (y : Cell N) → IsIn y ys
      → AreApart d x y
  each_before d x [] h y i = elim i [ ]
  each_before d x (_ ∷ ys) h y (first _) = h.0
  each_before d x (z ∷ ys) h y (later _ _ i) = each_before d x ys h.1 y i

  put_before : (c : Cell N) (ys : List (Cell N)) → ((y : Cell N) → IsIn y ys → comes_before c y ≡ true)
      → put c ys ≡ c ∷ ys
  put_before c [] h = refl
  put_before c (y ∷ ys) h = ap (λ t. cond t (c ∷ y ∷ ys) (y ∷ put c ys)) (h y (first ys))

  each_kept : (f : Cell N → List (Cell N)) (cs : List (Cell N)) → ((x : Cell N) → IsIn x cs → f x ≡ x ∷ [])
      → each_becomes f cs ≡ cs
  each_kept f [] h = refl
  each_kept f (c ∷ cs) h =
      ap (λ xs. xs ++ each_becomes f cs) (h c (first cs))
      ∙ ap (λ xs. c ∷ xs) (each_kept f cs (λ x i. h x (later c cs i)))

  -- a cell touches its own place
  touches_itself : (d : Model) (x : Cell N) → touches (place_of d x) (place_of d x) ≡ true
  touches_itself d x =
      let some = (size_of_scalar d x.what).0 in
      let inside = lt-ltb x.offset (x.offset + size_of d x.what) (omega (arith, some)) in
      and_from (nat_eq x.block x.block) _ (eq-eqb x.block x.block refl)
      (and_from (nat_lt x.offset (x.offset + size_of d x.what)) _ inside inside)

  first_or_later : (y x : Cell N) (cs : List (Cell N)) → IsIn y (x ∷ cs) → (y ≡ x) ⊎ IsIn y cs
  first_or_later y _ cs (first _) = inl refl
  first_or_later y x cs (later _ _ i) = inr i

  module _ (d : Model) (c : Cell N) (p : c.side ≡ Shared) where
    abbrev left : Cell N → List (Cell N)
    left x = left_by_write d (place_of d c) x

    left_if : (x : Cell N) (t : Bool) → touches (place_of d c) (place_of d x) ≡ t
        → left x ≡ (if t then with_side x (side_without c.side x.side) else x ∷ [])
    left_if x t e = ap (λ t. if t then with_side x (side_without c.side x.side) else x ∷ []) e

    gone : (x : Cell N) → touches (place_of d c) (place_of d x) ≡ true → left x ≡ []
    gone x e = left_if x true e ∙ ap (λ s. with_side x (side_without s x.side)) p

    put_alike : (cs : List (Cell N)) → EachPair (AreApart d) cs → AreShared cs → (old : Cell N) → IsIn old cs
        → AreAlike c old → HaveCellsAlike cs (put c (each_becomes left cs))
    put_alike [] pairs s old i a = elim i [ ]
    put_alike (x ∷ cs) pairs s old i a =
        by_touch (touches (place_of d c) (place_of d x)) refl (first_or_later old x cs i) (put_alike cs pairs.1 s.1 old)
      where
        -- x is the cell
        here : AreAlike c x → HaveCellsAlike (x ∷ cs) (put c (left x ++ each_becomes left cs))
        here b =
            subst (λ ys. HaveCellsAlike (x ∷ cs) (put c (ys ++ each_becomes left cs))) (sym (gone x touched))
            (subst (λ ys. HaveCellsAlike (x ∷ cs) (put c ys)) (sym others)
            (subst (HaveCellsAlike (x ∷ cs)) (sym (put_before c cs after)) (alike_sym c x b, all_alike cs)))
          where
            touched : touches (place_of d c) (place_of d x) ≡ true
            touched = ap (λ q. touches q (place_of d x)) (place_alike d c x b) ∙ touches_itself d x

            after : (y : Cell N) → IsIn y cs → comes_before c y ≡ true
            after y j = before_alike c x y b ∙ (each_before d x cs pairs.0 y j).ordered

            untouched : (y : Cell N) → IsIn y cs → (t : Bool) → touches (place_of d c) (place_of d y) ≡ t
                → left y ≡ y ∷ []
            untouched y j true e =
                absurd (differ (sym (meets_shared d x y s.0 (shared_in cs s.1 y j)
                (sym (ap (λ q. touches q (place_of d y)) (place_alike d c x b)) ∙ e))
                ∙ (each_before d x cs pairs.0 y j).apart))
            untouched y j false e = left_if y false e

            others : each_becomes left cs ≡ cs
            others = each_kept left cs (λ y j. untouched y j (touches (place_of d c) (place_of d y)) refl)

        -- it comes later
        past : IsIn old cs → touches (place_of d c) (place_of d x) ≡ false
            → HaveCellsAlike cs (put c (each_becomes left cs))
            → HaveCellsAlike (x ∷ cs) (put c (left x ++ each_becomes left cs))
        past j e rest =
            subst (λ ys. HaveCellsAlike (x ∷ cs) (put c (ys ++ each_becomes left cs))) (sym (left_if x false e))
            (subst (λ t. HaveCellsAlike (x ∷ cs)
            (cond t (c ∷ x ∷ each_becomes left cs) (x ∷ put c (each_becomes left cs))))
            (sym (not_before x old c (each_before d x cs pairs.0 old j).ordered a)) (alike_itself x, rest))

        by_touch : (t : Bool) → touches (place_of d c) (place_of d x) ≡ t → (old ≡ x) ⊎ IsIn old cs
            → (IsIn old cs → AreAlike c old → HaveCellsAlike cs (put c (each_becomes left cs)))
            → HaveCellsAlike (x ∷ cs) (put c (left x ++ each_becomes left cs))
        by_touch true e (inl same) later_on = here (subst (AreAlike c) same a)
        by_touch true e (inr j) later_on =
            absurd (differ (sym (meets_shared d old x (shared_in cs s.1 old j) s.0
            (sym (ap (λ q. touches q (place_of d x)) (place_alike d c old a)) ∙ e))
            ∙ meets_sym x.side old.side x.block x.offset (size_of d x.what) old.block old.offset (size_of d old.what)
            (each_before d x cs pairs.0 old j).apart))
        by_touch false e (inl same) later_on =
            absurd (differ (sym (ap (λ q. touches q (place_of d x)) (place_alike d c x (subst (AreAlike c) same a))
            ∙ touches_itself d x) ∙ e))
        by_touch false e (inr j) later_on = past j e (later_on j a)

  pub written_alike : (d : Model) (c : Cell N) (cs : List (Cell N)) → AreSharedCells d cs → IsOverCell c cs
      → HaveCellsAlike cs (written d c cs)
  written_alike d c cs a over =
      formed_alike (fate_by_write (place_of d c)) cs (put c (each_becomes (left_by_write d (place_of d c)) cs))
      (put_alike d c over.shared cs a.cells.pairs a.shared over.old over.is_in (old_alike d c cs a over))
