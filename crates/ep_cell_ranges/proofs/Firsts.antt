-- The cells of blocks whose bytes all have values.
use Rattle.std.proofs.Common.{◌≡◌, ℕ, zero, suc, ◌+◌, ◌^◌, ◌<◌, ◌≤◌, Bool, true, false, ◌&&◌, nat_eq, nat_lt, List}
use Rattle.std.proofs.Common.{[], ◌∷◌, ◌++◌, ⊎_elim, Option, Some, None, IfSome, refl, sym, ap, ◌∙◌, subst, arith}
use Rattle.std.proofs.lemmas.Bool.{and_left, and_right, ne_eqb}
use Rattle.ep_int.specs.declared.types.Model.{Model}
use Rattle.ep_int.specs.declared.types.IntType.TheVariants.{U8}
use Rattle.ep_int.specs.declared.types.Scalar.{Scalar}
use Rattle.ep_int.specs.declared.types.Scalar.TheVariants.{Int}
use Rattle.ep_int.specs.Types.{size_of}
use Rattle.ep_layout.specs.declared.types.Leaf.{Leaf}
use Rattle.ep_bitslice.specs.declared.cell.Side.{Side}
use Rattle.ep_bitslice.specs.declared.segment.Segment.{Segment}
use Rattle.ep_domain.specs.Domain.{Ops}
use Rattle.ep_cells.specs.declared.cell.Cell.{Cell}
use Rattle.ep_cells.specs.Cells.{place_of, share_memory, touches, key_of, IsIn, first, later}
use Rattle.ep_cells.specs.Kill.{AreLeavesIn, undefined_cell, leaf_at, is_in_leaf, cell_here, cells_from}
use Rattle.ep_cells.specs.States.{IsFormOf, HasForm, Each, EachPair, AreApart, IsCell, AreCells}
use Rattle.ep_cells.proofs.Lists.{in_append, in_left, in_right, pairs_append}
use Rattle.ep_cells.proofs.Places.{IsMadeFrom, within_itself, apart_made, before_from, by_block}
use Rattle.ep_cells.proofs.Entry.{new_from, new_pairs}
use Rattle.ep_cell_ranges.specs.First.{filled_here, filled_from}
use Rattle.ep_cell_ranges.specs.Sound.{IsPlaced, IsMade, AreMade, IsFilled, of_leaf, of_byte}
use Rattle.ep_cell_ranges.specs.Laws.{FirstLaws}

module _ {N : Type 0} where
  -- ---- which cells there are

  made_here : (d : Model) (leaf : ℕ → Scalar → Cell N) (byte : ℕ → Cell N) (leaves : List Leaf) (q n : ℕ) (c : Cell N)
      (o : Option Scalar) (t : Bool) → leaf_at leaves q ≡ o → is_in_leaf d leaves q ≡ t
      → IsIn c (filled_here d leaf byte q o t) → IsFilled d leaf byte leaves q (suc n) c
  made_here d leaf byte leaves q n _ (Some w) t e f (first _) = of_leaf q w (omega arith) (omega arith) e refl
  made_here d leaf byte leaves q n c (Some w) t e f (later _ _ h) = elim h [ ]
  made_here d leaf byte leaves q n c None true e f h = elim h [ ]
  made_here d leaf byte leaves q n _ None false e f (first _) = of_byte q (omega arith) (omega arith) e f refl
  made_here d leaf byte leaves q n c None false e f (later _ _ h) = elim h [ ]

  one_more : (d : Model) (leaf : ℕ → Scalar → Cell N) (byte : ℕ → Cell N) (leaves : List Leaf) (q n : ℕ) (c : Cell N)
      → IsFilled d leaf byte leaves (q + 1) n c → IsFilled d leaf byte leaves q (suc n) c
  one_more d leaf byte leaves q n c (of_leaf o w l h e f) = of_leaf o w (omega (arith, l)) (omega (arith, h)) e f
  one_more d leaf byte leaves q n c (of_byte o l h e f g) = of_byte o (omega (arith, l)) (omega (arith, h)) e f g

  pub made : (d : Model) (leaf : ℕ → Scalar → Cell N) (byte : ℕ → Cell N) (leaves : List Leaf) (q n : ℕ) (c : Cell N)
      → IsIn c (filled_from d leaf byte leaves q n) → IsFilled d leaf byte leaves q n c
  made d leaf byte leaves q zero c h = elim h [ ]
  made d leaf byte leaves q (suc n) c h =
      ⊎_elim (λ i. made_here d leaf byte leaves q n c (leaf_at leaves q) (is_in_leaf d leaves q) refl refl i)
      (λ i. one_more d leaf byte leaves q n c (made d leaf byte leaves (q + 1) n c i))
      (in_append c (filled_here d leaf byte q (leaf_at leaves q) (is_in_leaf d leaves q))
      (filled_from d leaf byte leaves (q + 1) n) h)

  -- ---- they lie where undefined cells of the block do

  -- each cell of a list lies where that of another one does
  abbrev AreMadeOf : List (Cell N) → List (Cell N) → Type 0
  AreMadeOf [] [] = Unit {0}
  AreMadeOf [] (y ∷ ys) = ⊥
  AreMadeOf (x ∷ xs) [] = ⊥
  AreMadeOf (x ∷ xs) (y ∷ ys) = IsMadeFrom x y × AreMadeOf xs ys

  placed_made : (s : Side) (b q : ℕ) (w : Scalar) (c : Cell N) → IsPlaced s b q w c
      → IsMadeFrom (undefined_cell s b q w) c
  placed_made s b q w c p = record {
    side = s;
    value = c.value;
    maybe = c.maybe;
    form = c.form;
    is =
        ap (λ (z : Side). record {
          side = z;
          block = c.block;
          offset = c.offset;
          what = c.what;
          value = c.value;
          maybe = c.maybe;
          form = c.form;
        }) p.side
        ∙ ap (λ (z : ℕ). record {
          side = s;
          block = z;
          offset = c.offset;
          what = c.what;
          value = c.value;
          maybe = c.maybe;
          form = c.form;
        }) p.block
        ∙ ap (λ (z : ℕ). record {
          side = s;
          block = b;
          offset = z;
          what = c.what;
          value = c.value;
          maybe = c.maybe;
          form = c.form;
        }) p.offset
        ∙ ap (λ (z : Scalar). record {
          side = s;
          block = b;
          offset = q;
          what = z;
          value = c.value;
          maybe = c.maybe;
          form = c.form;
        }) p.what;
    within = within_itself s;
  }

  here_of : (d : Model) (s : Side) (b : ℕ) (leaf : ℕ → Scalar → Cell N) (byte : ℕ → Cell N) (q : ℕ) (o : Option Scalar)
      (t : Bool) (us cs : List (Cell N)) → AreMade d s b leaf byte → AreMadeOf us cs
      → AreMadeOf (cell_here s b q o t ++ us) (filled_here d leaf byte q o t ++ cs)
  here_of d s b leaf byte q (Some w) t us cs m h = (placed_made s b q w (leaf q w) (m.leaves q w).placed, h)
  here_of d s b leaf byte q None true us cs m h = h
  here_of d s b leaf byte q None false us cs m h = (placed_made s b q (Int U8) (byte q) (m.bytes q).placed, h)

  all_of : (d : Model) (s : Side) (b : ℕ) (leaf : ℕ → Scalar → Cell N) (byte : ℕ → Cell N) (leaves : List Leaf)
      (q n : ℕ)
      → AreMade d s b leaf byte → AreMadeOf (cells_from d s b leaves q n) (filled_from d leaf byte leaves q n)
  all_of d s b leaf byte leaves q zero m = tt
  all_of d s b leaf byte leaves q (suc n) m =
      here_of d s b leaf byte q (leaf_at leaves q) (is_in_leaf d leaves q) (cells_from d s b leaves (q + 1) n)
      (filled_from d leaf byte leaves (q + 1) n) m (all_of d s b leaf byte leaves (q + 1) n m)

  each_made : (d : Model) (x c : Cell N) (us cs : List (Cell N)) → IsMadeFrom x c → AreMadeOf us cs
      → Each (AreApart d x) us → Each (AreApart d c) cs
  each_made d x c [] [] m h e = tt
  each_made d x c [] (y ∷ ys) m h e = absurd h
  each_made d x c (u ∷ us) [] m h e = absurd h
  each_made d x c (u ∷ us) (y ∷ ys) m h e = (apart_made d x u c y e.0 m h.0, each_made d x c us ys m h.1 e.1)

  pairs_made : (d : Model) (us cs : List (Cell N)) → AreMadeOf us cs → EachPair (AreApart d) us
      → EachPair (AreApart d) cs
  pairs_made d [] [] h p = tt
  pairs_made d [] (y ∷ ys) h p = absurd h
  pairs_made d (u ∷ us) [] h p = absurd h
  pairs_made d (u ∷ us) (y ∷ ys) h p = (each_made d u y us ys h.0 h.1 p.0, pairs_made d us ys h.1 p.1)

  record Source (us : List (Cell N)) (c : Cell N) : Type 0 where
    origin : Cell N
    is_in : IsIn origin us
    from : IsMadeFrom origin c

  source : (us cs : List (Cell N)) (c : Cell N) → AreMadeOf us cs → IsIn c cs → Source us c
  source [] [] c h i = elim i [ ]
  source [] (y ∷ ys) c h i = absurd h
  source (u ∷ us) [] c h i = absurd h
  source (u ∷ us) (_ ∷ ys) c h (first _) = record { origin = u; is_in = first us; from = h.0 }
  source (u ∷ us) (y ∷ ys) c h (later _ _ i) =
      let r = source us ys c h.1 i in record { origin = r.origin; is_in = later u us r.is_in; from = r.from }

  -- ---- they are cells

  cell_by : (d : Model) (s : Side) (b q o size : ℕ) (w v : Scalar) (c x : Cell N) → IsMade d s b q w x → c ≡ x
      → c.offset ≡ o → c.what ≡ v → o + size_of d v ≤ size → size ≤ 2 ^ 32 → IsCell d c
  cell_by d s b q o size w v c x m is e f h l =
      let at : q ≡ o = sym m.placed.offset ∙ ap (λ (z : Cell N). z.offset) (sym is) ∙ e in
      let what : w ≡ v = sym m.placed.what ∙ ap (λ (z : Cell N). z.what) (sym is) ∙ f in
      subst (IsCell d) (sym is) (m.cell (subst (λ (z : ℕ). z + size_of d w ≤ 2 ^ 32) (sym at)
      (subst (λ (z : Scalar). o + size_of d z ≤ 2 ^ 32) (sym what) (omega (arith, h, l)))))

  filled_cell : (d : Model) (s : Side) (b : ℕ) (leaf : ℕ → Scalar → Cell N) (byte : ℕ → Cell N) (leaves : List Leaf)
      (size o : ℕ) (v : Scalar) (c : Cell N) → AreMade d s b leaf byte → IsFilled d leaf byte leaves 0 size c
      → c.offset ≡ o → c.what ≡ v → o + size_of d v ≤ size → size ≤ 2 ^ 32 → IsCell d c
  filled_cell d s b leaf byte leaves size o v c m (of_leaf q w l h e is) f g i j =
      cell_by d s b q o size w v c (leaf q w) (m.leaves q w) is f g i j
  filled_cell d s b leaf byte leaves size o v c m (of_byte q l h e t is) f g i j =
      cell_by d s b q o size (Int U8) v c (byte q) (m.bytes q) is f g i j

  is_cell : (d : Model) (s : Side) (b : ℕ) (leaf : ℕ → Scalar → Cell N) (byte : ℕ → Cell N) (leaves : List Leaf)
      (size : ℕ)
      (c : Cell N) → AreLeavesIn d 0 size leaves → size ≤ 2 ^ 32 → AreMade d s b leaf byte
      → IsIn c (filled_from d leaf byte leaves 0 size) → IsCell d c
  is_cell d s b leaf byte leaves size c a l m i =
      let r = source (cells_from d s b leaves 0 size) (filled_from d leaf byte leaves 0 size) c
      (all_of d s b leaf byte leaves 0 size m) i in
      let n = new_from d s b 0 size size leaves r.origin a (omega arith) r.is_in in
      filled_cell d s b leaf byte leaves size n.offset n.what c m (made d leaf byte leaves 0 size c i)
      (ap (λ (z : Cell N). z.offset) r.from.is ∙ ap (λ (z : Cell N). z.offset) n.is)
      (ap (λ (z : Cell N). z.what) r.from.is ∙ ap (λ (z : Cell N). z.what) n.is) n.high l

  -- ---- their forms

  there_in : (cs more : List (Cell N)) → ((x : Cell N) → IsIn x cs → IsIn x more)
      → (c : Cell N) (o : Option (List Segment))
      → IfSome o (IsFormOf cs c) → IfSome o (IsFormOf more c)
  there_in cs more f c None h = tt
  there_in cs more f c (Some ss) h = record {
    sure = h.sure;
    wide = h.wide;
    form = h.form;
    mentioned = λ n e.
        let t = h.mentioned n e in
        record { cell = t.cell; is_in = f t.cell t.is_in; named = t.named; sure = t.sure };
  }

  none_in : (cs : List (Cell N)) (x : Cell N) → IsIn x [] → IsIn x cs
  none_in cs x h = elim h [ ]

  filled_form : (d : Model) (s : Side) (b : ℕ) (leaf : ℕ → Scalar → Cell N) (byte : ℕ → Cell N) (leaves : List Leaf)
      (q n : ℕ) (cs : List (Cell N)) (c : Cell N) → AreMade d s b leaf byte → IsFilled d leaf byte leaves q n c
      → HasForm cs c
  filled_form d s b leaf byte leaves q n cs c m (of_leaf o w l h e is) =
      subst (HasForm cs) (sym is) (there_in [] cs (none_in cs) (leaf o w) (leaf o w).form (m.leaves o w).form)
  filled_form d s b leaf byte leaves q n cs c m (of_byte o l h e t is) =
      subst (HasForm cs) (sym is) (there_in [] cs (none_in cs) (byte o) (byte o).form (m.bytes o).form)

  cells : (d : Model) (s : Side) (b : ℕ) (leaf : ℕ → Scalar → Cell N) (byte : ℕ → Cell N) (leaves : List Leaf)
      (size : ℕ)
      → AreLeavesIn d 0 size leaves → size ≤ 2 ^ 32 → AreMade d s b leaf byte
      → AreCells d (filled_from d leaf byte leaves 0 size)
  cells d s b leaf byte leaves size a l m = record {
    each = λ c i. is_cell d s b leaf byte leaves size c a l m i;
    pairs = pairs_made d (cells_from d s b leaves 0 size) (filled_from d leaf byte leaves 0 size)
        (all_of d s b leaf byte leaves 0 size m) (new_pairs N d s b 0 size size leaves a);
    forms = λ c i. filled_form d s b leaf byte leaves 0 size (filled_from d leaf byte leaves 0 size) c m
        (made d leaf byte leaves 0 size c i);
  }

  -- ---- several blocks

  earlier : (d : Model) (x y : Cell N) → x.block < y.block → AreApart d x y
  earlier d x y l = record {
    ordered = before_from x.block (key_of x) y.block (key_of y) (by_block l);
    apart = and_right (share_memory x.side y.side) (touches (place_of d x) (place_of d y))
        (and_left (nat_eq x.block y.block) (nat_lt x.offset (y.offset + size_of d y.what)
        && nat_lt y.offset (x.offset + size_of d x.what)) (ne_eqb x.block y.block (λ e. omega (arith, e, l))));
  }

  beside : (d : Model) (xs ys : List (Cell N)) → AreCells d xs → AreCells d ys
      → ((x y : Cell N) → IsIn x xs → IsIn y ys → x.block < y.block) → AreCells d (xs ++ ys)
  beside d xs ys a b h = record {
    each = λ c i. ⊎_elim (λ j. a.each c j) (λ j. b.each c j) (in_append c xs ys i);
    pairs = pairs_append (AreApart d) xs ys a.pairs b.pairs (λ x y i j. earlier d x y (h x y i j));
    forms = λ c i.
        ⊎_elim (λ j. there_in xs (xs ++ ys) (λ x k. in_left x xs ys k) c c.form (a.forms c j))
        (λ j. there_in ys (xs ++ ys) (λ x k. in_right x xs ys k) c c.form (b.forms c j)) (in_append c xs ys i);
  }

pub of_firsts : {N : Type 0} (D : Ops N) → FirstLaws D
of_firsts D = record {
  cells = cells;
  made = made;
  beside = beside;
  holds = λ k ys m i j. record {
    cells = λ c h. ⊎_elim (λ e. i.cells c e) (λ e. j.cells c e) (in_append c k.cells ys h);
    forms = λ c h. ⊎_elim (λ e. i.forms c e) (λ e. j.forms c e) (in_append c k.cells ys h);
  };
}
