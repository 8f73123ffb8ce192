-- Good states that come together, and good states with other values.
use Rattle.std.proofs.Common.{◌≡◌, ℕ, zero, suc, ◌<◌, Bool, true, false, ◌||◌, cond, List, [], ◌∷◌, length, slice_get}
use Rattle.std.proofs.Common.{Option, Some, None, refl, sym, ap, ◌∙◌, subst, arith, nat_eq}
use Rattle.std.specs.Prelude.{is_some}
use Rattle.std.proofs.lemmas.Bool.{eqb-true}
use Rattle.std.proofs.lemmas.Option.{slice_get_within}
use Rattle.ep_int.specs.declared.types.Order.{Order}
use Rattle.ep_int.specs.Memory.{contains}
use Rattle.ep_layout.specs.Table.{target_of}
use Rattle.ep_domain.specs.Domain.{Ops, Lawful}
use Rattle.ep_pointers.specs.Value.{Target, offset_at}
use Rattle.ep_cells.specs.declared.cell.Cell.{Cell}
use Rattle.ep_cells.specs.declared.cell.Value.{Value}
use Rattle.ep_cells.specs.declared.cell.Value.TheVariants.{Num, Ptr}
use Rattle.ep_cells.specs.Cells.{IsIn, first, later, is_same_cell}
use Rattle.ep_cells.specs.Forms.{reformed}
use Rattle.ep_cells.specs.Both.{value_of_both, cell_of_both, cells_of_both, joined, widened, are_within, cell_like}
use Rattle.ep_cells.specs.States.{Known, AreCells, AreAlike, HaveCellsAlike, Each}
use Rattle.ep_cells.proofs.Both.{alike_sym, in_both}
use Rattle.ep_reads.specs.Unify.{unified, fate_by_lack, had_by_both}
use Rattle.ep_core.specs.Program.{Block, Program}
use Rattle.ep_core.specs.Runs.{Side, left, right}
use Rattle.ep_core.specs.WellFormed.{is_named}
use Rattle.ep_evaluation.specs.Laws.{IsState}
use Rattle.ep_evaluation.specs.Narrowed.{both}
use Rattle.ep_kinds.specs.Rows.{HasScalar}
use Rattle.ep_tame_laws.specs.Tamely.{is_result_of_main}
use Rattle.ep_tame_values.specs.Offsets.{EachTarget}
use Rattle.ep_tame_values.proofs.Targets.{together_each}
use Rattle.ep_tame_places.specs.Places.{PointsTo}
use Rattle.ep_tame_places.specs.Laws.{PlaceLaws}
use Rattle.ep_tame_cells.specs.Shared.{AreHad}
use Rattle.ep_tame_cells.specs.Shape.{IsCovered, HasShape}
use Rattle.ep_tame_cells.specs.Laws.{ShapeLaws}
use Rattle.ep_tame_cells.specs.Rank.{rank, HasTargetsBelow, HaveTargetsBelow}
use Rattle.ep_tame_cells.specs.HeadLaws.{known, together, join, widening, HeadLaws}
use Rattle.ep_tame_cells.proofs.Over.{same_alike, both_alike}
use Rattle.ep_tame_cells.proofs.Shapes.{HasAlike, forth, like_there, is_like, IsKept, kept_there, kept_is, shape_laws_of}
use Rattle.ep_tame_cells.proofs.Heads.{is_both, alike as alike_both, head_laws_of}
use Rattle.ep_tame_states.specs.States.{ValueHas, IsInBlock, IsSure, CellPoints, IsGood}
use Rattle.ep_tame_states.specs.Laws.{widening_of}

module _ {N : Type 0} where
  -- ---- values

  pub both_have : (P : ℕ → N → Type 0) (f : N → N → N) → ((b : ℕ) (n m : N) → P b n → P b m → P b (f n m))
      → (u v : Option (Value N)) → ValueHas P u → ValueHas P v → ValueHas P (value_of_both f u v)
  both_have P f go None v h i = i
  both_have P f go (Some u) None h i = h
  both_have P f go (Some (Num a)) (Some (Num b)) h i = tt
  both_have P f go (Some (Ptr q)) (Some (Ptr r)) h i = together_each P f go q.targets r.targets h i
  both_have P f go (Some (Num a)) (Some (Ptr q)) h i = tt
  both_have P f go (Some (Ptr q)) (Some (Num b)) h i = h

  -- ---- numbers that are there

  -- another form
  pub form_apart : (x y : Cell N) → y.value ≡ x.value → y.maybe ≡ x.maybe → IsSure x → IsSure y
  form_apart x y v m s = record { number = s.number; value = v ∙ s.value; there = m ∙ s.there }

  pub both_sure : (f : N → N → N) (x y : Cell N) → IsSure x → IsSure y → IsSure (cell_of_both f x y)
  both_sure f x y s t = record {
    number = f s.number t.number;
    value = ap (λ v. value_of_both f v y.value) s.value ∙ ap (value_of_both f (Some (Num s.number))) t.value;
    there = ap (λ b. b || y.maybe) s.there ∙ t.there;
  }

  alike_both_ways : (x y z : Cell N) → AreAlike x z → AreAlike y z → AreAlike x y
  alike_both_ways x y z a b = record {
    side = a.side ∙ sym b.side;
    block = a.block ∙ sym b.block;
    offset = a.offset ∙ sym b.offset;
    what = a.what ∙ sym b.what;
  }

  alike_on : (x y z : Cell N) → AreAlike x y → AreAlike y z → AreAlike x z
  alike_on x y z a b = record {
    side = a.side ∙ b.side;
    block = a.block ∙ b.block;
    offset = a.offset ∙ b.offset;
    what = a.what ∙ b.what;
  }

  -- ---- places

  had_alike : (hs xs ys : List (Cell N)) → HaveCellsAlike xs ys → AreHad hs xs → AreHad hs ys
  had_alike hs xs ys same had x i =
      let a = is_like x xs (had x i) in
      let b = forth xs ys same a.cell a.is_in in
      like_there x ys b.cell b.is_in (same_alike b.cell x (alike_on b.cell a.cell x b.alike a.alike))

  had_on : (hs xs ys : List (Cell N)) → AreHad hs xs → AreHad xs ys → AreHad hs ys
  had_on hs xs ys had more x i =
      let a = is_like x xs (had x i) in
      let b = is_like a.cell ys (more a.cell a.is_in) in
      like_there x ys b.cell b.is_in (same_alike b.cell x (alike_on b.cell a.cell x b.alike a.alike))

  pub had_itself : (xs : List (Cell N)) → AreHad xs xs
  had_itself xs x i =
      like_there x xs x i (same_alike x x (record { side = refl; block = refl; offset = refl; what = refl }))

  -- ---- targets of blocks that are there

  targets_below : (B : ℕ) (ts : List (Target N)) → EachTarget (λ b n. b < B) ts → (b : ℕ) (n : N)
      → offset_at ts b ≡ Some n → b < B
  targets_below B [] h b n e = absurd cc
  targets_below B (t ∷ ts) h b n e = at (nat_eq t.0 b) refl e (targets_below B ts h.1 b n)
    where
      at : (x : Bool) → nat_eq t.0 b ≡ x → cond x (Some t.1) (offset_at ts b) ≡ Some n
          → (offset_at ts b ≡ Some n → b < B) → b < B
      at true q e rest = subst (λ b. b < B) (eqb-true t.0 b q) h.0
      at false q e rest = rest e

  value_below : (B : ℕ) (v : Option (Value N)) → ValueHas (λ b n. b < B) v → HasTargetsBelow B v
  value_below B None h = tt
  value_below B (Some (Num n)) h = tt
  value_below B (Some (Ptr q)) h = λ b n e. targets_below B q.targets h b n e

  all_below : (B : ℕ) (cs : List (Cell N)) → ((c : Cell N) → IsIn c cs → ValueHas (λ b n. b < B) c.value)
      → HaveTargetsBelow B cs
  all_below B [] h = tt
  all_below B (c ∷ cs) h = (value_below B c.value (h c (first cs)), all_below B cs (λ x i. h x (later c cs i)))

module _ {N : Type 0} (D : Ops N) (law : Lawful D) (p : Program) (places : PlaceLaws D p) (ord : Side → Order) where
  abbrev os : Order × Order
  os = (ord left, ord right)

  shapes : ShapeLaws D
  shapes = shape_laws_of D

  heads : HeadLaws D
  heads = head_laws_of D law

  -- ---- other values in the same places

  pub good_again : (h k : Known N) (live res : List ℕ) → IsGood D p ord h live res k → IsGood D p ord k live res k
  good_again h k live res g = record {
    state = g.state;
    shape = g.shape;
    named = g.named;
    results = g.results;
    points = g.points;
    over = had_itself k.cells;
    apart = g.apart;
  }

  pub good_carried : (g h k : Known N) (live res : List ℕ) → IsGood D p ord g live res h → IsGood D p ord h live res k
      → IsGood D p ord g live res k
  good_carried g h k live res a b = record {
    state = b.state;
    shape = b.shape;
    named = b.named;
    results = b.results;
    points = b.points;
    over = had_on g.cells h.cells k.cells a.over b.over;
    apart = b.apart;
  }

  pub good_alike : (h k : Known N) (live res : List ℕ) (cs : List (Cell N)) → IsGood D p ord h live res k
      → AreCells p.types.model cs → HaveCellsAlike k.cells cs
      → ((c : Cell N) → IsIn c cs → CellPoints D p live c) → IsGood D p ord h live res (record k { cells = cs })
  good_alike h k live res cs g cells same points = record {
    state = record {
      orders = g.state.orders;
      model = g.state.model;
      cells = subst (λ d. AreCells d cs) (sym g.state.model) cells;
    };
    shape = shapes.alike p k.cells cs g.shape cells same;
    named = λ b n. shapes.alike_covers p k.cells cs b same (g.named b n);
    results = λ b n. shapes.alike_covers p k.cells cs b same (g.results b n);
    points = points;
    over = had_alike h.cells k.cells cs same g.over;
    apart = g.apart;
  }

  -- ---- two states

  -- cells put together by a function of numbers that keeps where pointers point
  module _ (f : N → N → N) (live : List ℕ)
      (go : (ty b : ℕ) (n m : N) → PointsTo D p live ty b n → PointsTo D p live ty b m
      → PointsTo D p live ty b (f n m)) where
    cell_points : (x y : Cell N) → AreAlike x y → CellPoints D p live x → CellPoints D p live y
        → CellPoints D p live (cell_of_both f x y)
    cell_points x y a h i = record {
      inside = both_have (IsInBlock D p) f (λ b n m k l. k) x.value y.value h.inside i.inside;
      along = λ z there pt ty at target.
          both_have (PointsTo D p live ty) f (go ty) x.value y.value (h.along z there pt ty at target)
          (i.along z (ap (slice_get p.blocks) (sym a.block) ∙ there) pt ty
          (subst (λ q. HasScalar p.types z.ty q pt) a.offset at) target);
      sure = λ own. both_sure f x y (h.sure own) (i.sure (ap (is_result_of_main p) (sym a.block) ∙ own));
    }

    old_points : (xs ys : List (Cell N)) → ((c : Cell N) → IsIn c xs → CellPoints D p live c) → (c : Cell N)
        → IsIn c (had_by_both ys xs) → CellPoints D p live c
    old_points xs ys h c i =
        let k = kept_is p xs ys c i in
        let old = h k.old k.is_in in
        let new : CellPoints D p live (reformed (fate_by_lack ys) k.old) =
        record {
          inside = old.inside;
          along = old.along;
          sure = λ own. form_apart k.old (reformed (fate_by_lack ys) k.old) refl
              refl (old.sure own);
        } in
        subst (CellPoints D p live) (sym k.is) new

    module _ (xs ys : List (Cell N)) (a : HasShape p xs) (b : HasShape p ys) where
      abbrev made : List (Cell N)
      made = cells_of_both f (had_by_both ys xs) (had_by_both xs ys)

      same_places : HaveCellsAlike (had_by_both ys xs) (had_by_both xs ys)
      same_places = alike_both D law p os xs ys a b

      made_points : ((c : Cell N) → IsIn c xs → CellPoints D p live c)
          → ((c : Cell N) → IsIn c ys → CellPoints D p live c) → (c : Cell N) → IsIn c made → CellPoints D p live c
      made_points h i c j =
          let t = in_both f (had_by_both ys xs) (had_by_both xs ys) c same_places j in
          subst (CellPoints D p live) (sym t.is)
          (cell_points t.left t.right t.alike (old_points xs ys h t.left t.in_left)
          (old_points ys xs i t.right t.in_right))

      made_had : (hs : List (Cell N)) → AreHad hs xs → AreHad hs ys → AreHad hs made
      made_had hs h i x j =
          let l = is_like x xs (h x j) in
          let r = is_like x ys (i x j) in
          let kept = kept_there p xs ys l.cell l.is_in
          (like_there l.cell ys r.cell r.is_in
          (same_alike r.cell l.cell (alike_both_ways r.cell l.cell x r.alike l.alike))) in
          let z = forth (had_by_both ys xs) made
          (both_alike f (had_by_both ys xs) (had_by_both xs ys) same_places)
          (reformed (fate_by_lack ys) l.cell) kept in
          like_there x made z.cell z.is_in
          (same_alike z.cell x (record {
            side = z.alike.side ∙ l.alike.side;
            block = z.alike.block ∙ l.alike.block;
            offset = z.alike.offset ∙ l.alike.offset;
            what = z.alike.what ∙ l.alike.what;
          }))

      made_good : (h : Known N) (res : List ℕ) → IsGood D p ord h live res (known p os xs)
          → IsGood D p ord h live res (known p os ys) → HasShape p made
          → ((c : ℕ) → IsCovered p xs c → IsCovered p ys c → IsCovered p made c)
          → IsGood D p ord h live res (known p os made)
      made_good h res g i shape covers = record {
        state = record { orders = refl; model = refl; cells = shape.cells };
        shape = shape;
        named = λ c n. covers c (g.named c n) (i.named c n);
        results = λ c n. covers c (g.results c n) (i.results c n);
        points = made_points g.points i.points;
        over = made_had h.cells g.over i.over;
        apart = g.apart;
      }

  -- ---- joins and widenings

  abbrev Lists : Type 0
  Lists = List (Cell N) × List (Cell N)

  known_is : (k : Known N) → IsState D p ord k → k ≡ known p os k.cells
  known_is k s =
      ap (λ (o : Order × Order). record { orders = o; model = k.model; cells = k.cells }) s.orders
      ∙ ap (λ m. record { orders = os; model = m; cells = k.cells }) s.model

  as_known : (h k : Known N) (live res : List ℕ) → IsGood D p ord h live res k
      → IsGood D p ord h live res (known p os k.cells)
  as_known h k live res g = subst (IsGood D p ord h live res) (known_is k g.state) g

  join_good : (h : Known N) (live res : List ℕ) (xs ys : List (Cell N)) → IsGood D p ord h live res (known p os xs)
      → IsGood D p ord h live res (known p os ys) → IsGood D p ord h live res (known p os (join D p os xs ys))
  join_good h live res xs ys g i =
      let same = is_both D law p os xs ys g.shape i.shape in
      subst (λ (q : Lists). IsGood D p ord h live res (known p os (joined D q.0 q.1))) (sym same)
      (made_good D.join live (λ ty. places.joined live ty) xs ys g.shape i.shape h res g i
      (subst (λ (q : Lists). HasShape p (joined D q.0 q.1)) same (heads.join_shape p os xs ys g.shape i.shape))
      (λ c k l. subst (λ (q : Lists). IsCovered p (joined D q.0 q.1) c) same
      (heads.join_covers p os xs ys c g.shape i.shape k l)))

  widening_good : (h : Known N) (live res : List ℕ) (xs ys : List (Cell N))
      → IsGood D p ord h live res (known p os xs) → IsGood D p ord h live res (known p os ys)
      → IsGood D p ord h live res (known p os (widening D p os xs ys))
  widening_good h live res xs ys g i =
      let same = is_both D law p os xs ys g.shape i.shape in
      subst (λ (q : Lists). IsGood D p ord h live res (known p os (widened D q.0 q.1))) (sym same)
      (made_good D.widen live (λ ty. places.widened live ty) xs ys g.shape i.shape h res g i
      (subst (λ (q : Lists). HasShape p (widened D q.0 q.1)) same (heads.widening_shape p os xs ys g.shape i.shape))
      (λ c k l. subst (λ (q : Lists). IsCovered p (widened D q.0 q.1) c) same
      (heads.widening_covers p os xs ys c g.shape i.shape k l)))

  pub good_joined : (h k l : Known N) (live res : List ℕ) → IsGood D p ord h live res k
      → IsGood D p ord h live res l → IsGood D p ord h live res (both D k l)
  good_joined h k l live res g i =
      subst (λ j. IsGood D p ord h live res (both D j l)) (sym (known_is k g.state))
      (subst (λ j. IsGood D p ord h live res (both D (known p os k.cells) j)) (sym (known_is l i.state))
      (join_good h live res k.cells l.cells (as_known h k live res g) (as_known h l live res i)))

  pub good_widened : (h k l : Known N) (live res : List ℕ) → IsGood D p ord h live res k
      → IsGood D p ord h live res l → IsGood D p ord h live res (widening_of D k l)
  good_widened h k l live res g i =
      subst (λ j. IsGood D p ord h live res (widening_of D j l)) (sym (known_is k g.state))
      (subst (λ j. IsGood D p ord h live res (widening_of D (known p os k.cells) j)) (sym (known_is l i.state))
      (widening_good h live res k.cells l.cells (as_known h k live res g) (as_known h l live res i)))

  -- ---- heads

  -- a program with a cell has blocks
  some_block : (xs ys : List (Cell N)) → HasShape p xs → are_within D ys xs ≡ false → 0 < length p.blocks
  some_block [] ys s h = absurd cc
  some_block (x ∷ xs) ys s h =
      let l = s.leaf x (first xs) in
      let k = slice_get_within p.blocks x.block l.of_block l.there in
      omega (arith, k)

  head_falls : (g : Known N) (live res : List ℕ) (xs ys : List (Cell N)) → D.height < 4294967295
      → IsGood D p ord g live res (known p os xs) → IsGood D p ord (known p os xs) live res (known p os ys)
      → are_within D (together D p os xs ys).1 xs ≡ false
      → rank D (length p.blocks) (widening D p os xs ys) < rank D (length p.blocks) xs
  head_falls g live res xs ys small a b w =
      heads.head_falls p os xs ys small (some_block xs (together D p os xs ys).1 a.shape w) a.shape b.shape b.over
      (all_below (length p.blocks) xs (λ c i. (a.points c i).inside))
      (all_below (length p.blocks) ys (λ c i. (b.points c i).inside)) w

  pub good_falls : (g k l : Known N) (live res : List ℕ) → D.height < 4294967295 → IsGood D p ord g live res k
      → IsGood D p ord k live res l → are_within D (unified D k l).1 k.cells ≡ false
      → rank D (length p.blocks) (widening_of D k l).cells < rank D (length p.blocks) k.cells
  good_falls g k l live res small a b w =
      let e = known_is k a.state in
      let f = known_is l b.state in
      subst (λ (j : Known N). rank D (length p.blocks) (widening_of D j l).cells < rank D (length p.blocks) k.cells)
      (sym e)
      (subst (λ (j : Known N). rank D (length p.blocks) (widening_of D (known p os k.cells) j).cells
      < rank D (length p.blocks) k.cells) (sym f)
      (head_falls g live res k.cells l.cells small (as_known g k live res a)
      (subst (λ j. IsGood D p ord j live res (known p os l.cells)) e (as_known k l live res b))
      (sym (ap (λ (j : Known N). are_within D (unified D j l).1 k.cells) e
      ∙ ap (λ (j : Known N). are_within D (unified D (known p os k.cells) j).1 k.cells) f) ∙ w)))
