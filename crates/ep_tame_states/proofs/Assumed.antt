-- Good states in which a truth is assumed.
use Rattle.std.proofs.Common.{◌≡◌, ℕ, Bool, true, false, ◌&&◌, ◌||◌, not, cond, List, [], ◌∷◌, ◌++◌, map, slice_get}
use Rattle.std.proofs.Common.{Option, Some, None, IfSome, refl, sym, ap, ◌∙◌, subst, pos}
use Rattle.std.proofs.lemmas.Bool.{and_parts}
use Rattle.ep_int.specs.declared.types.IntType.TheVariants.{I32}
use Rattle.ep_int.specs.declared.types.Order.{Order}
use Rattle.ep_int.specs.declared.types.Scalar.{Scalar}
use Rattle.ep_int.specs.declared.types.Scalar.TheVariants.{Int, Pointer}
use Rattle.ep_layout.specs.Table.{target_of}
use Rattle.ep_domain.specs.Domain.{Ops, Lawful}
use Rattle.ep_pointers.specs.Value.{Pointers, pointers, null_alone}
use Rattle.ep_cells.specs.declared.cell.Cell.{Cell}
use Rattle.ep_cells.specs.declared.cell.Value.{Value}
use Rattle.ep_cells.specs.declared.cell.Value.TheVariants.{Num, Ptr}
use Rattle.ep_cells.specs.Cells.{IsIn, is_same_cell}
use Rattle.ep_cells.specs.States.{Known, AreCells, AreAlike, HaveCellsAlike, IsOfSort, HasRisingBlocks}
use Rattle.ep_cells.proofs.Lists.{in_map}
use Rattle.ep_cells.proofs.Both.{alike_same}
use Rattle.ep_cell_ranges.specs.Narrow.{set_in, with_value}
use Rattle.ep_cell_ranges.proofs.Narrowing.{set_cells}
use Rattle.ep_core.specs.Program.{Block, Program, Expr, const, null_value, load, addr_of, binary, convert, compare}
use Rattle.ep_core.specs.Program.{ptr_compare, logical_and, logical_or, logical_not, conditional, ptr_add, cast}
use Rattle.ep_core.specs.Exec.{value}
use Rattle.ep_core.specs.Runs.{Side, left, right}
use Rattle.ep_core.specs.Typed.{scalar_of}
use Rattle.ep_core.specs.WellFormed.{Sort, integer, pointer_to, has_sort, is_test, is_int, is_pointer, is_integer}
use Rattle.ep_core.specs.WellFormed.{int_type_of, is_tested, blocks_fit}
use Rattle.ep_core.proofs.Sorts.{three, int_where, pointer_where, tested_where}
use Rattle.ep_equalities.specs.declared.pair.Mode.TheVariants.{Both}
use Rattle.ep_evaluation.specs.Given.{Given, alone, on, are_sure}
use Rattle.ep_evaluation.specs.Narrowed.{then_with, again, when_not, numbers_narrowed, pointers_narrowed}
use Rattle.ep_evaluation.specs.Evaluation.{Means, expression, number, pointer, short_assumed, test_taken, unless}
use Rattle.ep_evaluation.specs.Evaluation.{is_other, test_narrowed}
use Rattle.ep_evaluation.specs.Laws.{IsState, Sound, sizes_of}
use Rattle.ep_evaluation.proofs.Again.{again_there}
use Rattle.ep_evaluation.proofs.Gathered.{evaluation_laws}
use Rattle.ep_kinds.specs.Rows.{HasScalar}
use Rattle.ep_tame_laws.specs.Tamely.{IfReached, is_result_of_main}
use Rattle.ep_tame_places.specs.Places.{PointsTo}
use Rattle.ep_tame_places.specs.Laws.{PlaceLaws}
use Rattle.ep_tame_states.specs.States.{ValueHas, IsInBlock, IsSure, CellPoints, IsGood}
use Rattle.ep_tame_states.proofs.Meetings.{good_alike, good_joined}
use Rattle.ep_tame_states.proofs.Narrowed.{StaysNarrowed, IsThere, then_reached, either_reached, sure_reached}
use Rattle.ep_tame_states.proofs.Narrowed.{numbers_reached, pointers_reached, test_reached}

module _ {N : Type 0} where
  -- ---- sorts of values

  number_sort : (w : Scalar) (m n : N) → IsOfSort w (Some (Num m)) → IsOfSort w (Some (Num n))
  number_sort (Int t) m n h = tt
  number_sort Pointer m n h = absurd h

  pointer_sort : (w : Scalar) (q r : Pointers N) → IsOfSort w (Some (Ptr q)) → IsOfSort w (Some (Ptr r))
  pointer_sort (Int t) q r h = absurd h
  pointer_sort Pointer q r h = tt

  record IsNumber (v : Value N) : Type 0 where
    pub number : N
    pub is : v ≡ Num number

  no_pointer : (q : Pointers N) (n : N) (v : Value N) → Some (Ptr q) ≡ Some (Num n) → IsNumber v
  no_pointer q n v e = absurd cc

  -- ---- a cell with another value stays in its place

  set_alike : (c : Cell N) (v : Value N) (cs : List (Cell N)) → HaveCellsAlike cs (map (set_in c v) cs)
  set_alike c v [] = tt
  set_alike c v (x ∷ cs) = (one (is_same_cell x c), set_alike c v cs)
    where
      one : (t : Bool) → AreAlike x (cond t (record x { value = Some v }) x)
      one true = record { side = refl; block = refl; offset = refl; what = refl }
      one false = record { side = refl; block = refl; offset = refl; what = refl }

module _ {N : Type 0} (D : Ops N) (law : Lawful D) (p : Program) (places : PlaceLaws D p) (ord : Side → Order)
    (h : Known N) (live res : List ℕ) where
  abbrev Good : Known N → Type 0
  Good = IsGood D p ord h live res

  set_points : (x c : Cell N) (v : Value N) → (is_result_of_main p x.block ≡ true → IsSure x) → AreAlike x c
      → ((n : N) → c.value ≡ Some (Num n) → IsNumber v) → ((P : ℕ → N → Type 0) → ValueHas P c.value → ValueHas P (Some v)) → CellPoints D p live c
      → CellPoints D p live (record x { value = Some v })
  set_points x c v old a number no_more g = record {
    inside = no_more (IsInBlock D p) g.inside;
    along = λ b there pt ty at target.
        no_more (PointsTo D p live ty)
        (g.along b (ap (slice_get p.blocks) (sym a.block) ∙ there) pt ty
        (subst (λ q. HasScalar p.types b.ty q pt) a.offset at) target);
    sure = λ own.
        (let s = g.sure (ap (is_result_of_main p) (sym a.block) ∙ own) in
        let n = number s.number s.value in
        record { number = n.number; value = ap Some n.is; there = (old own).there });
  }

  set_good : (k : Known N) (c : Cell N) (v : Value N) → Good k → IsIn c k.cells → IsOfSort c.what (Some v)
      → HasRisingBlocks (Some v) → ((n : N) → c.value ≡ Some (Num n) → IsNumber v)
      → ((P : ℕ → N → Type 0) → ValueHas P c.value → ValueHas P (Some v))
      → Good (with_value c v k)
  set_good k c v g i sort rising number no_more =
      good_alike D law p places ord h k live res (map (set_in c v) k.cells) g
      (subst (λ d. AreCells d (map (set_in c v) k.cells)) g.state.model
      (set_cells D k.model k.cells c v g.state.cells i sort rising))
      (set_alike c v k.cells)
      (λ y j. (let t = in_map (set_in c v) y k.cells j in
      subst (CellPoints D p live) (sym t.is)
      (one t.origin (is_same_cell t.origin c) refl (g.points t.origin t.is_in))))
    where
      one : (x : Cell N) (t : Bool) → is_same_cell x c ≡ t → CellPoints D p live x
          → CellPoints D p live (cond t (record x { value = Some v }) x)
      one x true e old = set_points x c v old.sure (alike_same x c e) number no_more (g.points c i)
      one x false e old = old

  sort_at : (k : Known N) (c : Cell N) (v : Option (Value N)) → Good k → IsIn c k.cells → c.value ≡ v
      → IsOfSort c.what v
  sort_at k c v g i e = subst (IsOfSort c.what) e (g.state.cells.each c i).fits.sort

  narrowed : StaysNarrowed D Good
  narrowed = record {
    number = λ k c m n g i e.
        set_good k c (Num n) g i (number_sort c.what m n (sort_at k c (Some (Num m)) g i e)) tt
        (λ o f. record { number = n; is = refl }) (λ P has. tt);
    null = λ k c q g i e.
        set_good k c (Ptr null_alone) g i (pointer_sort c.what q null_alone (sort_at k c (Some (Ptr q)) g i e)) tt
        (λ n f. no_pointer q n (Ptr null_alone) (sym e ∙ f)) (λ P has. tt);
    no_null = λ k c q g i e.
        set_good k c (Ptr (pointers false q.targets)) g i
        (pointer_sort c.what q (pointers false q.targets) (sort_at k c (Some (Ptr q)) g i e))
        (subst HasRisingBlocks e (g.state.cells.each c i).rising)
        (λ n f. no_pointer q n (Ptr (pointers false q.targets)) (sym e ∙ f)) (λ P has. subst (ValueHas P) e has);
    met = λ k l g i. good_joined D law p places ord h k l live res g i;
  }

  -- ---- expressions

  module _ (fit : blocks_fit p.types p.blocks ≡ true) (seen : List ℕ) where
    abbrev meaning : Expr → Means N
    meaning e = expression D (sizes_of p.blocks) e

    there : (e : Expr) (x : Sort) → has_sort p.types p.blocks seen e x ≡ true → (s : Side)
        → IsThere D Good narrowed ((meaning e).cell s)
    there e x t s j g = ((evaluation_laws D law).expressions p ord fit seen e x t).there j g.state s

    again_is : (o : Option (Cell N)) → IsThere D Good narrowed (again o)
    again_is o j g = again_there D law p ord o j g.state

    no_cell : IsThere D Good narrowed (λ k. None)
    no_cell j g = tt

    short : (r : Bool) (a b : Means N) (s : Side) (asks : Bool) (k : Known N) → Good k
        → ((t : Bool) (k : Known N) → Good k → IfReached Good (a.assumes s t k))
        → ((t : Bool) (k : Known N) → Good k → IfReached Good (b.assumes s t k))
        → IfReached Good (short_assumed D r a b s asks k)
    short r a b s true k g ia ib =
        then_reached D Good narrowed (a.assumes s r k) (b.assumes s r) (ia r k g) (λ j i. ib r j i)
    short r a b s false k g ia ib =
        either_reached D Good narrowed (a.assumes s (not r) k) (then_with (a.assumes s r k) (b.assumes s (not r)))
        (ia (not r) k g)
        (then_reached D Good narrowed (a.assumes s r k) (b.assumes s (not r)) (ia r k g) (λ j i. ib (not r) j i))

    -- by the value alone
    by_value : (e : Expr) (s : Side) (t : Bool) (k : Known N) → Good k → (c : Known N → Option (Cell N))
        → IsThere D Good narrowed c
        → IfReached Good (test_narrowed D t (on ((meaning e).gives (alone s) k).pair s)
        ((meaning e).gives (alone s) k).faults c k)
    by_value e s t k g c is =
        test_reached D Good narrowed k g t (on ((meaning e).gives (alone s) k).pair s)
        ((meaning e).gives (alone s) k).faults c is

    assumed_reached : (e : Expr) (x : Sort) → has_sort p.types p.blocks seen e x ≡ true → (s : Side) (t : Bool)
        (k : Known N) → Good k → IfReached Good ((meaning e).assumes s t k)
    assumed_reached (const u v) x typed s t k g = by_value (const u v) s t k g (λ k. None) no_cell
    assumed_reached null_value x typed s t k g = by_value null_value s t k g (λ k. None) no_cell
    assumed_reached (load w a) x typed s t k g =
        by_value (load w a) s t k g ((meaning (load w a)).cell s) (there (load w a) x typed s)
    assumed_reached (addr_of a) x typed s t k g = by_value (addr_of a) s t k g (λ k. None) no_cell
    assumed_reached (binary op u a b) x typed s t k g = by_value (binary op u a b) s t k g (λ k. None) no_cell
    assumed_reached (convert u e) x typed s t k g =
        by_value (convert u e) s t k g ((meaning (convert u e)).cell s) (there (convert u e) x typed s)
    assumed_reached (compare c u a b) x typed s t k g =
        let q = three (is_integer x I32) (has_sort p.types p.blocks seen a (integer u))
        (has_sort p.types p.blocks seen b (integer u)) typed in
        sure_reached D Good narrowed (are_sure (((meaning a).gives (alone s) k).faults
        ++ ((meaning b).gives (alone s) k).faults)) k _ g
        (numbers_reached D Good narrowed k g (when_not c t) (number D (on ((meaning a).gives (alone s) k).pair s))
        (number D (on ((meaning b).gives (alone s) k).pair s)) ((meaning a).cell s) (again ((meaning b).cell s k))
        (there a (integer u) q.1 s) (again_is ((meaning b).cell s k)))
    assumed_reached (ptr_compare c a b) x typed s t k g =
        let q = three (is_integer x I32) (is_pointer p.types p.blocks seen (has_sort p.types p.blocks seen a))
        (is_pointer p.types p.blocks seen (has_sort p.types p.blocks seen b)) typed in
        let u = pointer_where p.types p.blocks seen (has_sort p.types p.blocks seen a) q.1 in
        sure_reached D Good narrowed (are_sure (((meaning a).gives (alone s) k).faults
        ++ ((meaning b).gives (alone s) k).faults)) k _ g
        (pointers_reached D Good narrowed k g c t (pointer D (on ((meaning a).gives (alone s) k).pair s))
        (pointer D (on ((meaning b).gives (alone s) k).pair s)) ((meaning a).cell s) (again ((meaning b).cell s k))
        (there a (pointer_to u.0) u.1 s) (again_is ((meaning b).cell s k)))
    assumed_reached (logical_and a b) x typed s t k g =
        let q = three (is_integer x I32)
        (is_test p.types p.blocks seen (int_type_of a) (has_sort p.types p.blocks seen a))
        (is_test p.types p.blocks seen (int_type_of b) (has_sort p.types p.blocks seen b)) typed in
        let u = tested_where p.types p.blocks seen (int_type_of a) (has_sort p.types p.blocks seen a) q.1 in
        let v = tested_where p.types p.blocks seen (int_type_of b) (has_sort p.types p.blocks seen b) q.2 in
        short true (meaning a) (meaning b) s t k g (λ t k g. assumed_reached a u.0 u.1 s t k g)
        (λ t k g. assumed_reached b v.0 v.1 s t k g)
    assumed_reached (logical_or a b) x typed s t k g =
        let q = three (is_integer x I32)
        (is_test p.types p.blocks seen (int_type_of a) (has_sort p.types p.blocks seen a))
        (is_test p.types p.blocks seen (int_type_of b) (has_sort p.types p.blocks seen b)) typed in
        let u = tested_where p.types p.blocks seen (int_type_of a) (has_sort p.types p.blocks seen a) q.1 in
        let v = tested_where p.types p.blocks seen (int_type_of b) (has_sort p.types p.blocks seen b) q.2 in
        short false (meaning a) (meaning b) s (not t) k g (λ t k g. assumed_reached a u.0 u.1 s t k g)
        (λ t k g. assumed_reached b v.0 v.1 s t k g)
    assumed_reached (logical_not e) x typed s t k g =
        let q = and_parts (is_integer x I32)
        (is_test p.types p.blocks seen (int_type_of e) (has_sort p.types p.blocks seen e)) typed in
        let u = tested_where p.types p.blocks seen (int_type_of e) (has_sort p.types p.blocks seen e) q.1 in
        assumed_reached e u.0 u.1 s (not t) k g
    assumed_reached (conditional e a b) x typed s t k g = by_value (conditional e a b) s t k g (λ k. None) no_cell
    assumed_reached (ptr_add e unit n back) x typed s t k g = by_value (ptr_add e unit n back) s t k g (λ k. None) no_cell
    assumed_reached (cast e) x typed s t k g = by_value (cast e) s t k g (λ k. None) no_cell

    -- ---- tests

    pub tested_reached : (e : Expr) → is_tested p.types p.blocks seen e ≡ true → (s : Side) (t : Bool) (k : Known N)
        → Good k → IfReached Good ((meaning e).assumes s t k)
    tested_reached e typed s t k g =
        let u = tested_where p.types p.blocks seen (int_type_of e) (has_sort p.types p.blocks seen e) typed in
        assumed_reached e u.0 u.1 s t k g

    unless_reached : (b : Bool) (o : Option (Known N)) → IfReached Good o → IfReached Good (unless D b o)
    unless_reached true o i = tt
    unless_reached false o i = i

    pub taken_reached : (e : Expr) → is_tested p.types p.blocks seen e ≡ true → (t u : Bool) (k : Known N)
        → Good k → IfReached Good (test_taken D (meaning e) t u k)
    taken_reached e typed t u k g =
        unless_reached (is_other D ((meaning e).gives Both k) left t || is_other D ((meaning e).gives Both k) right u)
        (then_with ((meaning e).assumes left t k) ((meaning e).assumes right u))
        (then_reached D Good narrowed ((meaning e).assumes left t k) ((meaning e).assumes right u)
        (tested_reached e typed left t k g) (λ j i. tested_reached e typed right u j i))
