-- Cells of whole blocks, and what keeps them so.
use Rattle.std.proofs.Common.{◌≡◌, ℕ, ◌+◌, ◌<◌, Bool, true, false, ◌&&◌, ◌||◌, not, cond, List, [], ◌∷◌, Option, Some}
use Rattle.ep_int.proofs.Basics.{some-injective}
use Rattle.std.proofs.Common.{None, refl, sym, ap, ◌∙◌, subst, nat_eq, nat_lt, slice_get}
use Rattle.std.specs.Prelude.{is_some}
use Rattle.std.proofs.lemmas.Bool.{and_parts, eqb-true, ltb-true}
use Rattle.ep_int.specs.declared.types.Order.TheVariants.{Little, Big}
use Rattle.ep_int.specs.Types.{size_of}
use Rattle.ep_bitslice.specs.declared.cell.Side.TheVariants.{Shared}
use Rattle.ep_domain.specs.Domain.{Ops}
use Rattle.ep_cells.specs.declared.cell.Cell.{Cell}
use Rattle.ep_cells.specs.Cells.{IsIn, first, later, each_becomes, place_of, touches, meets, share_memory, is_same_cell}
use Rattle.ep_cells.specs.Forms.{reformed}
use Rattle.ep_cells.specs.Both.{cell_like}
use Rattle.ep_cells.specs.States.{AreCells, AreAlike, HaveCellsAlike}
use Rattle.ep_cells.proofs.Lists.{in_each, each_in, in_map, map_in}
use Rattle.ep_cells.proofs.Both.{alike_same, alike_sym}
use Rattle.ep_reads.specs.Unify.{is_crossed, left_by_lack, fate_by_lack, had_by_both}
use Rattle.ep_reads.proofs.Splits.{first_like}
use Rattle.ep_reads.proofs.Lacks.{lack_keeps}
use Rattle.ep_core.specs.Program.{Block, Program}
use Rattle.ep_tame_cells.specs.Shared.{AreShared, AreSharedCells, AreUncrossed}
use Rattle.ep_tame_cells.proofs.Over.{same_alike}
use Rattle.ep_tame_cells.specs.Shape.{cell_type, IsLeafCell, IsCovered, HasShape}
use Rattle.ep_tame_cells.specs.Laws.{ShapeLaws}
use Rattle.ep_tame_cells.proofs.LeafCells.{one_offset}

module _ {N : Type 0} where
  -- ---- lists

  all_shared : (cs : List (Cell N)) → ((c : Cell N) → IsIn c cs → c.side ≡ Shared) → AreShared cs
  all_shared [] h = tt
  all_shared (c ∷ cs) h = (h c (first cs), all_shared cs (λ x i. h x (later c cs i)))

  pub record HasAlike (xs : List (Cell N)) (y : Cell N) : Type 0 where
    pub cell : Cell N
    pub is_in : IsIn cell xs
    pub alike : AreAlike cell y

  pub back : (xs ys : List (Cell N)) → HaveCellsAlike xs ys → (y : Cell N) → IsIn y ys → HasAlike xs y
  back [] [] h y i = elim i [ ]
  back [] (z ∷ ys) h y i = absurd h
  back (x ∷ xs) [] h y i = absurd h
  back (x ∷ xs) (_ ∷ ys) h y (first _) = record { cell = x; is_in = first xs; alike = h.0 }
  back (x ∷ xs) (z ∷ ys) h y (later _ _ i) =
      let r = back xs ys h.1 y i in record { cell = r.cell; is_in = later x xs r.is_in; alike = r.alike }

  pub forth : (xs ys : List (Cell N)) → HaveCellsAlike xs ys → (x : Cell N) → IsIn x xs → HasAlike ys x
  forth [] [] h x i = elim i [ ]
  forth [] (z ∷ ys) h x i = elim i [ ]
  forth (z ∷ xs) [] h x i = absurd h
  forth (_ ∷ xs) (y ∷ ys) h x (first _) = record { cell = y; is_in = first ys; alike = alike_sym x y h.0 }
  forth (z ∷ xs) (y ∷ ys) h x (later _ _ i) =
      let r = forth xs ys h.1 x i in record { cell = r.cell; is_in = later y ys r.is_in; alike = r.alike }

  -- a cell like it is there
  pub like_there : (x : Cell N) (ys : List (Cell N)) (y : Cell N) → IsIn y ys → is_same_cell y x ≡ true
      → is_some (cell_like x ys) ≡ true
  like_there x [] y i h = elim i [ ]
  like_there x (_ ∷ ys) y (first _) h = ap (λ t. is_some (cond t (Some y) (cell_like x ys))) h
  like_there x (z ∷ ys) y (later _ _ i) h = by_test (is_same_cell z x) (like_there x ys y i h)
    where
      by_test : (t : Bool) → is_some (cell_like x ys) ≡ true → is_some (cond t (Some z) (cell_like x ys)) ≡ true
      by_test true r = refl
      by_test false r = r

  pub is_like : (x : Cell N) (ys : List (Cell N)) → is_some (cell_like x ys) ≡ true → HasAlike ys x
  is_like x ys h = by_like (cell_like x ys) refl h
    where
      by_like : (o : Option (Cell N)) → cell_like x ys ≡ o → is_some o ≡ true → HasAlike ys x
      by_like None e h = absurd cc
      by_like (Some y) e h =
          let q = first_like x ys y e in
          record { cell = y; is_in = q.is_in; alike = alike_same y x q.same }

  -- ---- cells of one program

  module _ (p : Program) where
    pub leaf_alike : (x y : Cell N) → IsLeafCell p x → AreAlike x y → IsLeafCell p y
    leaf_alike x y l a = record {
      of_block = l.of_block;
      there = ap (slice_get p.blocks) (sym a.block) ∙ l.there;
      side = sym a.side ∙ l.side;
      inside = subst (λ (q : ℕ). q < l.of_block.size) a.offset l.inside;
      what = ap (cell_type p.types l.of_block.ty) (sym a.offset) ∙ l.what ∙ ap Some a.what;
    }

    -- cells that overlap are the same
    overlap : (x y : Cell N) → IsLeafCell p x → IsLeafCell p y
        → meets (place_of p.types.model x) (place_of p.types.model y) ≡ true → AreAlike x y
    overlap x y l m h =
        let t = and_parts (share_memory x.side y.side)
        (touches (place_of p.types.model x) (place_of p.types.model y)) h in
        let b = and_parts (nat_eq x.block y.block)
        (nat_lt x.offset (y.offset + size_of p.types.model y.what)
        && nat_lt y.offset (x.offset + size_of p.types.model x.what)) t.1 in
        let r = and_parts (nat_lt x.offset (y.offset + size_of p.types.model y.what))
        (nat_lt y.offset (x.offset + size_of p.types.model x.what)) b.1 in
        alike_at (eqb-true x.block y.block b.0)
        (ltb-true x.offset (y.offset + size_of p.types.model y.what) r.0)
        (ltb-true y.offset (x.offset + size_of p.types.model x.what) r.1)
      where
        alike_at : x.block ≡ y.block → x.offset < y.offset + size_of p.types.model y.what
            → y.offset < x.offset + size_of p.types.model x.what → AreAlike x y
        alike_at block low high =
            let k : l.of_block ≡ m.of_block = some-injective (sym l.there ∙ ap (slice_get p.blocks) block ∙ m.there) in
            let own = ap (λ (z : Block). cell_type p.types z.ty y.offset) k ∙ m.what in
            let q = one_offset p.types l.of_block.ty x.offset y.offset x.what y.what l.what own low high in
            record {
              side = l.side ∙ sym m.side;
              block = block;
              offset = q;
              what = some-injective (sym l.what ∙ ap (cell_type p.types l.of_block.ty) q ∙ own);
            }

    none_crossed : (x : Cell N) → IsLeafCell p x → (ys : List (Cell N)) → ((y : Cell N) → IsIn y ys → IsLeafCell p y)
        → is_crossed p.types.model ys x ≡ false
    none_crossed x l [] h = refl
    none_crossed x l (y ∷ ys) h =
        ap (λ t. t || is_crossed p.types.model ys x)
        (one (meets (place_of p.types.model x) (place_of p.types.model y)) refl)
        ∙ none_crossed x l ys (λ z i. h z (later y ys i))
      where
        one : (t : Bool) → meets (place_of p.types.model x) (place_of p.types.model y) ≡ t
            → (meets (place_of p.types.model x) (place_of p.types.model y) && not (is_same_cell x y)) ≡ false
        one true e =
            ap (λ t. t && not (is_same_cell x y)) e
            ∙ ap not (same_alike x y (overlap x y l (h y (first ys)) e))
        one false e = ap (λ t. t && not (is_same_cell x y)) e

    shape_shared : (cs : List (Cell N)) → HasShape p cs → AreSharedCells p.types.model cs
    shape_shared cs s = record { cells = s.cells; shared = all_shared cs (λ c i. (s.leaf c i).side) }

    shapes_uncrossed : (xs ys : List (Cell N)) → HasShape p xs → HasShape p ys → AreUncrossed p.types.model xs ys
    shapes_uncrossed xs ys a b x i = none_crossed x (a.leaf x i) ys b.leaf

    -- ---- cells of the same places

    covers : (xs ys : List (Cell N)) (b : ℕ) → HaveCellsAlike xs ys → IsCovered p xs b → IsCovered p ys b
    covers xs ys b h c k at q l w is =
        let x = c k at q l w is in
        let y = forth xs ys h x.cell x.is_in in
        record {
          cell = y.cell;
          is_in = y.is_in;
          block = y.alike.block ∙ x.block;
          offset = y.alike.offset ∙ x.offset;
          what = y.alike.what ∙ x.what;
        }

    shape_alike : (xs ys : List (Cell N)) → HasShape p xs → AreCells p.types.model ys → HaveCellsAlike xs ys
        → HasShape p ys
    shape_alike xs ys s cells h = record {
      cells = cells;
      leaf = λ y i. (let x = back xs ys h y i in leaf_alike x.cell y (s.leaf x.cell x.is_in) x.alike);
      whole = λ y i.
          (let x = back xs ys h y i in
          subst (IsCovered p ys) x.alike.block (covers xs ys x.cell.block h (s.whole x.cell x.is_in)));
    }

    -- ---- the cells of blocks that another state has too

    pub kept_there : (xs ys : List (Cell N)) (x : Cell N) → IsIn x xs → is_some (cell_like x ys) ≡ true
        → IsIn (reformed (fate_by_lack ys) x) (had_by_both ys xs)
    kept_there xs ys x i h =
        map_in (reformed (fate_by_lack ys)) x (each_becomes (left_by_lack ys) xs)
        (each_in (left_by_lack ys) x x xs i (subst (λ t. IsIn x (cond t (x ∷ []) [])) (sym h) (first [])))

    pub record IsKept (xs ys : List (Cell N)) (c : Cell N) : Type 0 where
      pub old : Cell N
      pub is_in : IsIn old xs
      pub is : c ≡ reformed (fate_by_lack ys) old
      pub like : HasAlike ys old

    pub kept_is : (xs ys : List (Cell N)) (c : Cell N) → IsIn c (had_by_both ys xs) → IsKept xs ys c
    kept_is xs ys c i =
        let m = in_map (reformed (fate_by_lack ys)) c (each_becomes (left_by_lack ys) xs) i in
        let f = in_each (left_by_lack ys) m.origin xs m.is_in in
        let k = only f.origin m.origin (is_some (cell_like f.origin ys)) refl f.becomes in
        record {
          old = f.origin;
          is_in = f.is_in;
          is = m.is ∙ ap (reformed (fate_by_lack ys)) k.0;
          like = is_like f.origin ys k.1;
        }
      where
        only : (x z : Cell N) (t : Bool) → is_some (cell_like x ys) ≡ t → IsIn z (cond t (x ∷ []) [])
            → (z ≡ x) × (is_some (cell_like x ys) ≡ true)
        only x _ true e (first _) = (refl, e)
        only x z true e (later _ _ i) = elim i [ ]
        only x z false e i = elim i [ ]

    both_covers : (xs ys : List (Cell N)) (b : ℕ) → HasShape p xs → HasShape p ys → IsCovered p xs b
        → IsCovered p ys b → IsCovered p (had_by_both ys xs) b
    both_covers xs ys b s r c e k at q l w is =
        let x = c k at q l w is in
        let y = e k at q l w is in
        let alike : AreAlike y.cell x.cell = record {
          side = (r.leaf y.cell y.is_in).side ∙ sym (s.leaf x.cell x.is_in).side;
          block = y.block ∙ sym x.block;
          offset = y.offset ∙ sym x.offset;
          what = y.what ∙ sym x.what;
        } in
        record {
          cell = reformed (fate_by_lack ys) x.cell;
          is_in = kept_there xs ys x.cell x.is_in
              (like_there x.cell ys y.cell y.is_in (same_alike y.cell x.cell alike));
          block = x.block;
          offset = x.offset;
          what = x.what;
        }

    both_shape : (D : Ops N) (xs ys : List (Cell N)) → HasShape p xs → HasShape p ys → HasShape p (had_by_both ys xs)
    both_shape D xs ys s r = record {
      cells = (lack_keeps D (record { orders = (Little, Big); model = p.types.model; cells = xs }) ys xs s.cells).cells;
      leaf = λ c i.
          (let k = kept_is xs ys c i in
          subst (IsLeafCell p) (sym k.is) (leaf_alike k.old (reformed (fate_by_lack ys) k.old) (s.leaf k.old k.is_in)
          (record { side = refl; block = refl; offset = refl; what = refl })));
      whole = λ c i.
          (let k = kept_is xs ys c i in
          subst (IsCovered p (had_by_both ys xs)) (ap (λ (z : Cell N). z.block) (sym k.is))
          (both_covers xs ys k.old.block s r (s.whole k.old k.is_in)
          (subst (IsCovered p ys) k.like.alike.block (r.whole k.like.cell k.like.is_in))));
    }

pub shape_laws_of : {N : Type 0} (D : Ops N) → ShapeLaws D
shape_laws_of D = record {
  shared = shape_shared;
  uncrossed = shapes_uncrossed;
  alike = shape_alike;
  alike_covers = λ p xs ys b h c. covers p xs ys b h c;
  both = λ p xs ys s r. both_shape p D xs ys s r;
  both_cover = λ p xs ys b s r c e. both_covers p xs ys b s r c e;
}
