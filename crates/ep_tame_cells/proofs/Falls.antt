-- The rank of a widened state is no greater, and falls where the other state isn't within.
use Rattle.std.proofs.Common.{◌≡◌, ℕ, zero, suc, ◌+◌, ◌*◌, ◌-◌, ◌<◌, ◌≤◌, Bool, true, false, ◌&&◌, ◌||◌, inl}
use Rattle.ep_domain.specs.Laws.PairWidening.{le_or}
use Rattle.ep_cells.proofs.Lists.{each_from}
use Rattle.ep_tame_cells.proofs.Exact.{differ}
use Rattle.std.proofs.Common.{inr, not, if◌then◌else◌, cond, List, [], ◌∷◌, Option, Some, None, refl, sym, ap, ◌∙◌}
use Rattle.std.proofs.Common.{subst, arith, nat_eq}
use Rattle.std.specs.Prelude.{IsSomeAnd}
use Rattle.std.specs.Option.{option_map_or}
use Rattle.std.specs.List.{list_all}
use Rattle.std.proofs.Math.Nat.{mul-suc, mul_comm}
use Rattle.ep_int.specs.declared.types.Model.{Model}
use Rattle.ep_int.specs.declared.types.Scalar.{Scalar}
use Rattle.ep_int.specs.declared.types.Scalar.TheVariants.{Int, Pointer}
use Rattle.ep_bitslice.specs.declared.cell.Side.{Side}
use Rattle.ep_bitslice.specs.Bits.{side_number}
use Rattle.ep_bitslice.specs.declared.segment.Segment.{Segment}
use Rattle.ep_domain.specs.Domain.{Ops, Lawful}
use Rattle.ep_pointers.specs.Value.{Target, Pointers, offset_at, IsRising, widening_of, either, KeepsRanks, Grows}
use Rattle.ep_pointers.specs.Value.{new_null, new_block, rank_falls}
use Rattle.ep_pointers.specs.Laws.{PointerLaws}
use Rattle.ep_pointers.proofs.Gathered.{pointer_laws}
use Rattle.ep_cells.specs.declared.cell.Cell.{Cell}
use Rattle.ep_cells.specs.declared.cell.Value.{Value}
use Rattle.ep_cells.specs.declared.cell.Value.TheVariants.{Num, Ptr}
use Rattle.ep_cells.specs.Cells.{IsIn, first, later, key_of, is_same_side, is_same_scalar, is_same_cell}
use Rattle.ep_cells.specs.Forms.{have_same_form, common_form}
use Rattle.ep_cells.specs.Both.{value_of_both, cell_of_both, widened, is_value_within, is_form_kept, is_cell_within}
use Rattle.ep_cells.specs.Both.{cell_like, are_within}
use Rattle.ep_cells.specs.States.{IsOfSort, HasRisingBlocks, IsCell, Each, EachPair, AreApart, AreAlike, HaveCellsAlike}
use Rattle.ep_cells.proofs.Both.{same_forms, alike_same, alike_sym}
use Rattle.ep_cells.proofs.Places.{Before, in_block, by_block, before_true}
use Rattle.ep_reads.proofs.Sides.{same_itself}
use Rattle.ep_tame_cells.specs.Rank.{rank_unless, form_rank, offsets_rank, targets_rank, pointer_rank, value_rank}
use Rattle.ep_tame_cells.specs.Rank.{cell_rank, rank, HasTargetsBelow, HaveTargetsBelow}
use Rattle.ep_tame_cells.specs.RankLaws.{RankLaws}

unless_low : (a b : Bool) → rank_unless (a || b) ≤ rank_unless a
unless_low true b = omega arith
unless_low false true = omega arith
unless_low false false = omega arith

common_low : (f g : Option (List Segment)) → form_rank (common_form f g) ≤ form_rank f
common_low f g = by_test (have_same_form f g)
  where
    by_test : (b : Bool) → form_rank (if b then f else None) ≤ form_rank f
    by_test true = omega arith
    by_test false = omega arith

form_one : (f : Option (List Segment)) → form_rank f ≤ 1
form_one None = omega arith
form_one (Some ss) = omega arith

unless_one : (b : Bool) → rank_unless b ≤ 1
unless_one true = omega arith
unless_one false = omega arith

-- ---- cells alike

module _ {N : Type 0} where
  abbrev same_by : Side → (b q : ℕ) → Scalar → Cell N → Bool
  same_by s b q w x =
      is_same_side s x.side && (nat_eq b x.block && (nat_eq q x.offset && is_same_scalar w x.what))

  same_alike : (x y : Cell N) → AreAlike x y → is_same_cell x y ≡ true
  same_alike x y a =
      ap (λ (w : Scalar). same_by x.side x.block x.offset w y) a.what
      ∙ ap (λ (s : Side). same_by s x.block x.offset y.what y) a.side
      ∙ ap (λ (b : ℕ). same_by y.side b x.offset y.what y) a.block
      ∙ ap (λ (q : ℕ). same_by y.side y.block q y.what y) a.offset
      ∙ same_itself y

  -- what is like a cell isn't like one that comes after that
  other_cell : (d : Model) (x y z : Cell N) → AreAlike x y → AreApart d x z → is_same_cell y z ≡ false
  other_cell d x y z a apart = by_test (is_same_cell y z) refl
    where
      never : AreAlike y z → Before x.block (key_of x) z.block (key_of z) → ⊥
      never e (in_block _ l) =
          let p = a.offset ∙ e.offset in
          let q = ap side_number (a.side ∙ e.side) in
          omega (arith, p, q, l)
      never e (by_block l) = let p = a.block ∙ e.block in omega (arith, p, l)

      by_test : (b : Bool) → is_same_cell y z ≡ b → is_same_cell y z ≡ false
      by_test true e =
          absurd (never (alike_same y z e) (before_true x.block (key_of x) z.block (key_of z) apart.ordered))
      by_test false e = e

  each_at : (P : Cell N → Type 0) (cs : List (Cell N)) → Each P cs → (c : Cell N) → IsIn c cs → P c
  each_at P [] h c i = elim i [ ]
  each_at P (_ ∷ cs) h c (first _) = h.0
  each_at P (x ∷ cs) h c (later _ _ i) = each_at P cs h.1 c i

module _ {N : Type 0} (D : Ops N) (law : Lawful D) (B : ℕ) (some : 0 < B) where
  -- ---- bounds

  offsets_low : (o : Option N) → offsets_rank D B o ≤ D.height + 1
  offsets_low None = omega arith
  offsets_low (Some n) = let b = law.rank_bound n in omega (arith, b)

  targets_low : (ts : List (Target N)) (n : ℕ) → targets_rank D B ts n ≤ n * (D.height + 1)
  targets_low ts zero = omega arith
  targets_low ts (suc n) =
      let a = targets_low ts n in
      let b = offsets_low (offset_at ts n) in
      let e = mul_comm (suc n) (D.height + 1) in
      let f = mul-suc (D.height + 1) n in
      let g = mul_comm n (D.height + 1) in
      omega (arith, a, b, e, f, g)

  pointer_low : (p : Pointers N) → pointer_rank D B p ≤ 1 + B * (D.height + 1)
  pointer_low p = let a = targets_low p.targets B in let b = unless_one p.null in omega (arith, a, b)

  height_low : D.height + 1 ≤ B * (D.height + 1)
  height_low = by_blocks B some
    where
      by_blocks : (n : ℕ) → 0 < n → D.height + 1 ≤ n * (D.height + 1)
      by_blocks zero h = absurd (omega (arith, h))
      by_blocks (suc n) h =
          let e = mul_comm (suc n) (D.height + 1) in let f = mul-suc (D.height + 1) n in omega (arith, e, f)

  value_low : (v : Value N) → value_rank D B (Some v) < value_rank D B None
  value_low (Num n) = let a = law.rank_bound n in let b = height_low in omega (arith, a, b)
  value_low (Ptr p) = let a = pointer_low p in omega (arith, a)

  value_bound : (v : Option (Value N)) → value_rank D B v ≤ value_rank D B None
  value_bound None = omega arith
  value_bound (Some v) = let a = value_low v in omega (arith, a)

  cell_bound : (c : Cell N) → cell_rank D B c ≤ 4 + B * (D.height + 1)
  cell_bound c =
      let a = unless_one c.maybe in
      let b = form_one c.form in
      let e = value_bound c.value in
      omega (arith, a, b, e)

  module _ (small : D.height < 4294967295) where
    laws : PointerLaws D
    laws = pointer_laws D law

    -- ---- numbers

    number_not : (a b : N) → D.rank (D.widen a b) ≤ D.rank a
    number_not a b = elim (le_or (D.rank (D.widen a b)) (D.rank a)) [
      | inl l ↦ l
      | inr g ↦
          let falls = law.widen_changes a b small (λ e. (let same = ap D.rank e in omega (arith, same, g))) in
          omega (arith, falls, g)
    ]

    -- ---- pointers

    offsets_not : (o r : Option N) → ((n : N) → o ≡ Some n → IsSomeAnd r (λ m. D.rank m ≤ D.rank n))
        → offsets_rank D B r ≤ offsets_rank D B o
    offsets_not None r h = offsets_low r
    offsets_not (Some n) None h = absurd (h n refl)
    offsets_not (Some n) (Some m) h = h n refl

    module _ (p q : Pointers N) (k : KeepsRanks D p q (widening_of D p q)) where
      abbrev ts : List (Target N)
      ts = p.targets

      abbrev rs : List (Target N)
      rs = (widening_of D p q).targets

      one_not : (b : ℕ) → offsets_rank D B (offset_at rs b) ≤ offsets_rank D B (offset_at ts b)
      one_not b = offsets_not (offset_at ts b) (offset_at rs b) (k.blocks b)

      targets_not : (n : ℕ) → targets_rank D B rs n ≤ targets_rank D B ts n
      targets_not zero = omega arith
      targets_not (suc n) = let a = targets_not n in let b = one_not n in omega (arith, a, b)

      -- at one block below n it falls
      targets_fall : (n b : ℕ) → b < n → offsets_rank D B (offset_at rs b) < offsets_rank D B (offset_at ts b)
          → targets_rank D B rs n < targets_rank D B ts n
      targets_fall zero b l h = absurd (omega (arith, l))
      targets_fall (suc n) b l h = elim (le_or n b) [
        | inl at ↦
            let e : b ≡ n = omega (arith, at, l) in
            let a = targets_not n in
            let z = subst (λ (x : ℕ). offsets_rank D B (offset_at rs x) < offsets_rank D B (offset_at ts x)) e h in
            omega (arith, a, z)
        | inr below ↦ let a = targets_fall n b below h in let z = one_not n in omega (arith, a, z)
      ]

      null_not : rank_unless (widening_of D p q).null ≤ rank_unless p.null
      null_not = unless_low p.null q.null

      pointer_not : pointer_rank D B (widening_of D p q) ≤ pointer_rank D B p
      pointer_not = let a = null_not in let b = targets_not B in omega (arith, a, b)

      block_below : HasTargetsBelow B (Some (Ptr p)) → HasTargetsBelow B (Some (Ptr q)) → (b : ℕ) (n : N)
          → offset_at p.targets b ≡ None
          → offset_at rs b ≡ either D.widen (offset_at p.targets b) (offset_at q.targets b)
          → offset_at rs b ≡ Some n → b < B
      block_below x y b n none is at =
          y b n (sym (is ∙ ap (λ o. either D.widen o (offset_at q.targets b)) none) ∙ at)

      pointer_falls : HasTargetsBelow B (Some (Ptr p)) → HasTargetsBelow B (Some (Ptr q))
          → ((b : ℕ) → offset_at rs b ≡ either D.widen (offset_at p.targets b) (offset_at q.targets b))
          → Grows D p (widening_of D p q) → pointer_rank D B (widening_of D p q) < pointer_rank D B p
      pointer_falls x y is (new_null a b) =
          let e = ap rank_unless a in
          let f = ap rank_unless b in
          let g = targets_not B in
          omega (arith, e, f, g)
      pointer_falls x y is (new_block b n none at) =
          let l = block_below x y b n none (is b) at in
          let e = ap (offsets_rank D B) none in
          let f = ap (offsets_rank D B) at in
          let r = law.rank_bound n in
          let z = targets_fall B b l (omega (arith, e, f, r)) in
          let w = null_not in
          omega (arith, z, w)
      pointer_falls x y is (rank_falls b n m old new low) =
          let l = x b n old in
          let e = ap (offsets_rank D B) old in
          let f = ap (offsets_rank D B) new in
          let z = targets_fall B b l (omega (arith, e, f, low)) in
          let w = null_not in
          omega (arith, z, w)

    keeps : (p q : Pointers N) → IsRising p.targets → IsRising q.targets → KeepsRanks D p q (widening_of D p q)
    keeps p q a b = laws.widening_ranks p q small a b

    -- ---- values, of one sort

    value_not : (w : Scalar) (u v : Option (Value N)) → IsOfSort w u → IsOfSort w v → HasRisingBlocks u
        → HasRisingBlocks v → value_rank D B (value_of_both D.widen u v) ≤ value_rank D B u
    value_not w None v s z a b = value_bound v
    value_not w (Some u) None s z a b = omega arith
    value_not w (Some (Num m)) (Some (Num n)) s z a b = number_not m n
    value_not w (Some (Ptr p)) (Some (Ptr q)) s z a b = pointer_not p q (keeps p q a b)
    value_not w (Some (Num m)) (Some (Ptr q)) s z a b = omega arith
    value_not w (Some (Ptr p)) (Some (Num n)) s z a b = omega arith

    value_falls : (w : Scalar) (u v : Option (Value N)) → IsOfSort w u → IsOfSort w v → HasRisingBlocks u
        → HasRisingBlocks v → HasTargetsBelow B u → HasTargetsBelow B v → is_value_within D v u ≡ false
        → value_rank D B (value_of_both D.widen u v) < value_rank D B u
    value_falls w u None s z a b x y h = differ h
    value_falls w None (Some v) s z a b x y h = value_low v
    value_falls w (Some (Num m)) (Some (Num n)) s z a b x y h = law.widen_falls m n small h
    value_falls w (Some (Ptr p)) (Some (Ptr q)) s z a b x y h =
        pointer_falls p q (keeps p q a b) x y (laws.widening_offsets p q a b) ((keeps p q a b).grows h)
    value_falls (Int t) (Some (Num m)) (Some (Ptr q)) s z a b x y h = absurd z
    value_falls Pointer (Some (Num m)) (Some (Ptr q)) s z a b x y h = absurd s
    value_falls (Int t) (Some (Ptr p)) (Some (Num n)) s z a b x y h = absurd s
    value_falls Pointer (Some (Ptr p)) (Some (Num n)) s z a b x y h = absurd z

    -- ---- cells

    form_falls : (f g : Option (List Segment)) → is_form_kept g f ≡ false → form_rank (common_form f g) < form_rank f
    form_falls None g h = differ h
    form_falls (Some ss) g h = by_test (have_same_form (Some ss) g) refl
      where
        by_test : (b : Bool) → have_same_form (Some ss) g ≡ b → form_rank (common_form (Some ss) g) < 1
        by_test true e =
            let same = same_forms (Some ss) g ss refl e in
            differ (sym (ap (λ o. have_same_form o (Some ss)) same.right
            ∙ sym (ap (have_same_form (Some ss)) same.right) ∙ e)
            ∙ h)
        by_test false e = let r = ap (λ b. form_rank (if b then Some ss else None)) e in omega (arith, r)

    maybe_falls : (a b : Bool) → (not b || a) ≡ false → rank_unless (a || b) < rank_unless a
    maybe_falls true true h = differ h
    maybe_falls true false h = differ h
    maybe_falls false true h = omega arith
    maybe_falls false false h = differ h

    cell_not : (d : Model) (x y : Cell N) → IsCell d x → IsCell d y → AreAlike x y
        → cell_rank D B (cell_of_both D.widen x y) ≤ cell_rank D B x
    cell_not d x y a b e =
        let m = unless_low x.maybe y.maybe in
        let f = common_low x.form y.form in
        let v = value_not x.what x.value y.value a.fits.sort
        (subst (λ w. IsOfSort w y.value) (sym e.what) b.fits.sort) a.rising b.rising in
        omega (arith, m, f, v)

    cell_falls : (d : Model) (x y : Cell N) → IsCell d x → IsCell d y → AreAlike x y → HasTargetsBelow B x.value
        → HasTargetsBelow B y.value → is_cell_within D y x ≡ false
        → cell_rank D B (cell_of_both D.widen x y) < cell_rank D B x
    cell_falls d x y a b e p q h =
        let m = unless_low x.maybe y.maybe in
        let f = common_low x.form y.form in
        let s = subst (λ w. IsOfSort w y.value) (sym e.what) b.fits.sort in
        let v = value_not x.what x.value y.value a.fits.sort s a.rising b.rising in
        by_value (is_value_within D y.value x.value) refl h m f v s
      where
        by_value : (t : Bool) → is_value_within D y.value x.value ≡ t
            → (t && ((not y.maybe || x.maybe) && is_form_kept y.form x.form)) ≡ false
            → rank_unless (x.maybe || y.maybe) ≤ rank_unless x.maybe
            → form_rank (common_form x.form y.form) ≤ form_rank x.form
            → value_rank D B (value_of_both D.widen x.value y.value) ≤ value_rank D B x.value
            → IsOfSort x.what y.value → cell_rank D B (cell_of_both D.widen x y) < cell_rank D B x
        by_value false is h m f v s =
            let z = value_falls x.what x.value y.value a.fits.sort s a.rising b.rising p q is in
            omega (arith, z, m, f)
        by_value true is h m f v s = by_maybe (not y.maybe || x.maybe) refl h
          where
            by_maybe : (t : Bool) → (not y.maybe || x.maybe) ≡ t → (t && is_form_kept y.form x.form) ≡ false
                → cell_rank D B (cell_of_both D.widen x y) < cell_rank D B x
            by_maybe false is h = let z = maybe_falls x.maybe y.maybe is in omega (arith, z, f, v)
            by_maybe true is h = let z = form_falls x.form y.form h in omega (arith, z, m, v)

    -- ---- lists

    list_not : (d : Model) (xs ys : List (Cell N)) → Each (IsCell d) xs → Each (IsCell d) ys → HaveCellsAlike xs ys
        → rank D B (widened D xs ys) ≤ rank D B xs
    list_not d [] ys a b h = omega arith
    list_not d (x ∷ xs) [] a b h = absurd h
    list_not d (x ∷ xs) (y ∷ ys) a b h =
        let one = cell_not d x y a.0 b.0 h.0 in
        let rest = list_not d xs ys a.1 b.1 h.1 in
        omega (arith, one, rest)

    -- the first state has what is like x within it
    abbrev has_within : List (Cell N) → Cell N → Bool
    has_within ys x = option_map_or (λ y. is_cell_within D y x) (cell_like x ys) false

    rest_within : (y : Cell N) (ys xs : List (Cell N)) → ((x : Cell N) → IsIn x xs → is_same_cell y x ≡ false)
        → list_all (has_within (y ∷ ys)) xs ≡ list_all (has_within ys) xs
    rest_within y ys [] h = refl
    rest_within y ys (x ∷ xs) h =
        ap (λ t. option_map_or (λ y. is_cell_within D y x) (cond t (Some y) (cell_like x ys)) false
        && list_all (has_within (y ∷ ys)) xs) (h x (first xs))
        ∙ ap (λ t. has_within ys x && t) (rest_within y ys xs (λ z i. h z (later x xs i)))

    list_falls : (d : Model) (xs ys : List (Cell N)) → Each (IsCell d) xs → Each (IsCell d) ys → HaveCellsAlike xs ys
        → EachPair (AreApart d) xs → HaveTargetsBelow B xs → HaveTargetsBelow B ys → are_within D ys xs ≡ false
        → rank D B (widened D xs ys) < rank D B xs
    list_falls d [] ys a b h pairs p q w = differ w
    list_falls d (x ∷ xs) [] a b h pairs p q w = absurd h
    list_falls d (x ∷ xs) (y ∷ ys) a b h pairs p q w =
        by_first (is_cell_within D y x) refl (sym split ∙ w)
        (list_falls d xs ys a.1 b.1 h.1 pairs.1 p.1 q.1)
      where
        others : (z : Cell N) → IsIn z xs → is_same_cell y z ≡ false
        others z i = other_cell d x y z h.0 (each_at (AreApart d x) xs pairs.0 z i)

        split : are_within D (y ∷ ys) (x ∷ xs) ≡ (is_cell_within D y x && are_within D ys xs)
        split =
            ap (λ t. option_map_or (λ y. is_cell_within D y x) (cond t (Some y) (cell_like x ys)) false
            && list_all (has_within (y ∷ ys)) xs) (same_alike y x (alike_sym x y h.0))
            ∙ ap (λ t. is_cell_within D y x && t) (rest_within y ys xs others)

        by_first : (t : Bool) → is_cell_within D y x ≡ t → (is_cell_within D y x && are_within D ys xs) ≡ false
            → (are_within D ys xs ≡ false → rank D B (widened D xs ys) < rank D B xs)
            → rank D B (widened D (x ∷ xs) (y ∷ ys)) < rank D B (x ∷ xs)
        by_first false is w tail_falls =
            let one = cell_falls d x y a.0 b.0 h.0 p.0 q.0 is in
            let rest = list_not d xs ys a.1 b.1 h.1 in
            omega (arith, one, rest)
        by_first true is w tail_falls =
            let one = cell_not d x y a.0 b.0 h.0 in
            let rest = tail_falls (sym (ap (λ t. t && are_within D ys xs) is) ∙ w) in
            omega (arith, one, rest)

pub rank_laws_of : {N : Type 0} (D : Ops N) → Lawful D → RankLaws D
rank_laws_of D law = record {
  bound = λ B some c. cell_bound D law B some c;
  rises_not = λ B some small d xs ys a b h q.
      list_not D law B some small d xs ys (each_from (IsCell d) xs a.each) (each_from (IsCell d) ys b.each) h;
  falls = λ B some small d xs ys a b h p q w.
      list_falls D law B some small d xs ys (each_from (IsCell d) xs a.each) (each_from (IsCell d) ys b.each) h
      a.pairs p q w;
}
