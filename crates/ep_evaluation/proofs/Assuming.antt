-- What assuming a truth leaves holds where it is the truth.
use Rattle.std.proofs.Common.{◌≡◌, ℤ, pos, true, false, List, Option, Some, None, IfSome, IsSomeAnd, refl, sym, ap}
use Rattle.std.proofs.Common.{◌∙◌, subst, arith}
use Rattle.std.specs.Option.{option_map}
use Rattle.std.proofs.lemmas.Int.{ints}
use Rattle.ep_int.specs.declared.types.Order.{Order}
use Rattle.ep_int.specs.declared.types.Model.{Model}
use Rattle.ep_int.specs.declared.types.Cmp.{Cmp}
use Rattle.ep_int.specs.declared.types.IntType.{IntType}
use Rattle.ep_int.specs.declared.types.Scalar.{Scalar}
use Rattle.ep_int.specs.declared.types.Scalar.TheVariants.{Int, Pointer}
use Rattle.ep_int.specs.Arith.{compares, IsOfSomeType}
use Rattle.ep_int.specs.Memory.{Value as Datum, int}
use Rattle.ep_domain.specs.Domain.{Ops, Lawful}
use Rattle.ep_domain.specs.Domain.{Holds as HoldsNumber}
use Rattle.ep_cells.specs.declared.cell.Cell.{Cell}
use Rattle.ep_cells.specs.declared.cell.Value.{Value}
use Rattle.ep_cells.specs.declared.cell.Value.TheVariants.{Num, Ptr}
use Rattle.ep_cells.specs.Cells.{IsIn}
use Rattle.ep_cells.specs.Both.{joined}
use Rattle.ep_cells.specs.States.{Known, IsOfSort, AreCells}
use Rattle.ep_cells.specs.Meaning.{Memories, Allows, In}
use Rattle.ep_cells.specs.Laws.{JoinLaws}
use Rattle.ep_reads.specs.Unify.{unified}
use Rattle.ep_reads.specs.SplitLaws.{UnifyLaws}
use Rattle.ep_core.specs.Program.{Program}
use Rattle.ep_core.specs.Runs.{Side}
use Rattle.ep_evaluation.specs.Narrowed.{then_with, both, either_of, met, refined, narrowed_by, numbers_narrowed}
use Rattle.ep_cell_ranges.specs.Narrow.{with_value}
use Rattle.ep_evaluation.specs.Laws.{IsState, IfState, IsKept, IfKept, IsOfCell}
use Rattle.ep_evaluation.proofs.Narrowing.{set_state, set_kept}

abbrev known : {N : Type 0} → Order × Order → Model → List (Cell N) → Known N
known o d cs = record { orders = o; model = d; cells = cs }

pub zero_type : IsOfSomeType (pos 0)
zero_type = record { low = omega (arith, ints); high = omega (arith, ints) }

module _ {N : Type 0} (D : Ops N) (law : Lawful D) (p : Program) (ord : Side → Order) where
  -- ---- one after the other, and either

  pub then_kept : (m : Memories) (o : Option (Known N)) (f : Known N → Option (Known N)) → IfKept D p ord o m
      → ((j : Known N) → IsKept D p ord j m → IfKept D p ord (f j) m) → IfKept D p ord (then_with o f) m
  then_kept m None f h i = absurd h
  then_kept m (Some k) f h i = i k h

  pub then_state : (o : Option (Known N)) (f : Known N → Option (Known N)) → IfState D p ord o
      → ((j : Known N) → IsState D p ord j → IfState D p ord (f j)) → IfState D p ord (then_with o f)
  then_state None f h i = tt
  then_state (Some k) f h i = i k h

  module _ (unify : UnifyLaws D) (join : JoinLaws D) where
    -- the other state has the same orders and model
    same_known : (k l : Known N) → IsState D p ord k → IsState D p ord l → l ≡ record k { cells = l.cells }
    same_known k l a b =
        let e : l.orders ≡ k.orders = b.orders ∙ sym a.orders in
        let f : l.model ≡ k.model = b.model ∙ sym a.model in
        ap (λ o. known o l.model l.cells) e ∙ ap (λ d. known k.orders d l.cells) f

    both_cells : (k l : Known N) → IsState D p ord k → IsState D p ord l
        → AreCells k.model (joined D (unified D k l).0 (unified D k l).1)
    both_cells k l a b =
        let e = same_known k l a b in
        let lc : AreCells k.model l.cells = subst (λ d. AreCells d l.cells) (b.model ∙ sym a.model) b.cells in
        subst (λ j. AreCells k.model (joined D (unified D k j).0 (unified D k j).1)) (sym e)
        (join.join_cells k.model (unified D k (record k { cells = l.cells })).0
        (unified D k (record k { cells = l.cells })).1
        (unify.left_cells k l.cells a.cells lc) (unify.right_cells k l.cells a.cells lc)
        (unify.alike k l.cells a.cells lc))

    both_state : (k l : Known N) → IsState D p ord k → IsState D p ord l → IsState D p ord (both D k l)
    both_state k l a b = record { orders = a.orders; model = a.model; cells = both_cells k l a b }

    both_left : (k l : Known N) (m : Memories) → IsKept D p ord k m → IsState D p ord l → IsKept D p ord (both D k l) m
    both_left k l m a b =
        let s = a.state in
        let e = same_known k l s b in
        let lc : AreCells k.model l.cells = subst (λ d. AreCells d l.cells) (b.model ∙ sym s.model) b.cells in
        record {
          state = both_state k l s b;
          holds = subst (λ j. In D (record k { cells = joined D (unified D k j).0 (unified D k j).1 }) m) (sym e)
              ((join.join_holds (record k { cells = (unified D k (record k { cells = l.cells })).0 })
              (unified D k (record k { cells = l.cells })).1
              (unify.left_cells k l.cells s.cells lc) (unify.right_cells k l.cells s.cells lc)
              (unify.alike k l.cells s.cells lc)).left m
              (unify.left_holds k l.cells s.cells lc m a.holds));
          fits = a.fits;
        }

    both_right : (k l : Known N) (m : Memories) → IsState D p ord k → IsKept D p ord l m → IsKept D p ord (both D k l) m
    both_right k l m s a =
        let b = a.state in
        let e = same_known k l s b in
        let lc : AreCells k.model l.cells = subst (λ d. AreCells d l.cells) (b.model ∙ sym s.model) b.cells in
        record {
          state = both_state k l s b;
          holds = subst (λ j. In D (record k { cells = joined D (unified D k j).0 (unified D k j).1 }) m) (sym e)
              ((join.join_holds (record k { cells = (unified D k (record k { cells = l.cells })).0 })
              (unified D k (record k { cells = l.cells })).1
              (unify.left_cells k l.cells s.cells lc) (unify.right_cells k l.cells s.cells lc)
              (unify.alike k l.cells s.cells lc)).right m
              (unify.right_holds k l.cells s.cells lc m (subst (λ j. In D j m) e a.holds)));
          fits = a.fits;
        }

    pub either_state : (a b : Option (Known N)) → IfState D p ord a → IfState D p ord b
        → IfState D p ord (either_of D a b)
    either_state None b h i = i
    either_state (Some k) None h i = h
    either_state (Some k) (Some l) h i = both_state k l h i

    pub either_left : (m : Memories) (a b : Option (Known N)) → IfKept D p ord a m → IfState D p ord b
        → IfKept D p ord (either_of D a b) m
    either_left m None b h i = absurd h
    either_left m (Some k) None h i = h
    either_left m (Some k) (Some l) h i = both_left k l m h i

    pub either_right : (m : Memories) (a b : Option (Known N)) → IfState D p ord a → IfKept D p ord b m
        → IfKept D p ord (either_of D a b) m
    either_right m None b h i = i
    either_right m (Some k) None h i = absurd i
    either_right m (Some k) (Some l) h i = both_right k l m h i

  -- ---- a cell has only the numbers of another value as well

  meet_kept : (k : Known N) (m : Memories) → IsKept D p ord k m → (c : Cell N) (t : IntType) (z : ℤ)
      → IsOfCell D p ord k m c (int z)
      → c.what ≡ Int t → (o : Option N) → IsSomeAnd o (λ b. Allows D (Int t) (Some (Num b)) false (Some (int z)))
      → IfKept D p ord (option_map (λ v. with_value c (Num v) k) o) m
  meet_kept k m kept c t z h e None i = absurd i
  meet_kept k m kept c t z h e (Some b) i =
      set_kept D p ord k m kept c (int z) h (Num b) (subst (λ w. IsOfSort w (Some (Num b))) (sym e) tt) tt
      (subst (λ w. Allows D w (Some (Num b)) false (Some (int z))) (sym e) i)

  also : (o : Option N) (P Q : N → Type 0) → ((b : N) → P b → Q b) → IsSomeAnd o P → IsSomeAnd o Q
  also None P Q f h = absurd h
  also (Some b) P Q f h = f b h

  met_kept : (k : Known N) (m : Memories) → IsKept D p ord k m → (c : Cell N) (z : ℤ) (n : N)
      → IsOfCell D p ord k m c (int z)
      → HoldsNumber D n z → (w : Scalar) (o : Option (Value N)) → c.what ≡ w → Allows D w o false (Some (int z))
      → IfKept D p ord (met D c o n k) m
  met_kept k m kept c z n h i (Int t) None e a = absurd (let q : Some (int z) ≡ None = a in cc)
  met_kept k m kept c z n h i Pointer None e a = absurd (let q : Some (int z) ≡ None = a in cc)
  met_kept k m kept c z n h i (Int t) (Some (Num b)) e a =
      meet_kept k m kept c t z h e (D.meet b n)
      (also (D.meet b n) (λ x. HoldsNumber D x z) (λ x. Allows D (Int t) (Some (Num x)) false (Some (int z)))
      (λ x j. (a.0, j)) (law.meet_holds b n z a.1 i))
  met_kept k m kept c z n h i (Int t) (Some (Ptr q)) e a = absurd a
  met_kept k m kept c z n h i Pointer (Some (Num b)) e a = absurd a
  met_kept k m kept c z n h i Pointer (Some (Ptr q)) e a = absurd a

  pub refined_kept : (k : Known N) (m : Memories) → IsKept D p ord k m → (o : Option (Cell N)) (z : ℤ) (n : N)
      → IfSome o (λ c. IsOfCell D p ord k m c (int z)) → HoldsNumber D n z → IfKept D p ord (refined D o n k) m
  refined_kept k m kept None z n h i = kept
  refined_kept k m kept (Some c) z n h i = met_kept k m kept c z n h i c.what c.value refl h.allowed

  met_state : (k : Known N) → IsState D p ord k → (c : Cell N) → IsIn c k.cells
      → (n : N) (w : Scalar) (o : Option (Value N)) → c.what ≡ w
      → IsOfSort w o → IfState D p ord (met D c o n k)
  met_state k s c i n w None e a = s
  met_state k s c i n (Int t) (Some (Num b)) e a = by_meet (D.meet b n)
    where
      by_meet : (o : Option N) → IfState D p ord (option_map (λ v. with_value c (Num v) k) o)
      by_meet None = tt
      by_meet (Some v) = set_state D p ord k s c (Num v) i (subst (λ w. IsOfSort w (Some (Num v))) (sym e) tt) tt
  met_state k s c i n (Int t) (Some (Ptr q)) e a = absurd a
  met_state k s c i n Pointer (Some (Num b)) e a = absurd a
  met_state k s c i n Pointer (Some (Ptr q)) e a = s

  pub refined_state : (k : Known N) → IsState D p ord k → (o : Option (Cell N)) (n : N) → IfSome o (λ c. IsIn c k.cells)
      → IfState D p ord (refined D o n k)
  refined_state k s None n h = s
  refined_state k s (Some c) n h = met_state k s c h n c.what c.value refl (s.cells.each c h).fits.sort

  -- ---- two numbers that compare so

  -- the cell of an operand, in each state
  abbrev pub CellHas : Memories → (Known N → Option (Cell N)) → Datum → Type 0
  CellHas m f v = (j : Known N) → IsKept D p ord j m → IfSome (f j) (λ c. IsOfCell D p ord j m c v)

  abbrev pub CellThere : (Known N → Option (Cell N)) → Type 0
  CellThere f = (j : Known N) → IsState D p ord j → IfSome (f j) (λ c. IsIn c j.cells)

  by_kept : (k : Known N) (m : Memories) → IsKept D p ord k m → (u v : ℤ) (f g : Known N → Option (Cell N))
      → CellHas m f (int u)
      → CellHas m g (int v) → (r : Option (N × N)) → IsSomeAnd r (λ q. HoldsNumber D q.0 u × HoldsNumber D q.1 v)
      → IfKept D p ord (narrowed_by D r f g k) m
  by_kept k m kept u v f g cf cg None h = absurd h
  by_kept k m kept u v f g cf cg (Some r) h =
      then_kept m (refined D (f k) r.0 k) (λ k. refined D (g k) r.1 k)
      (refined_kept k m kept (f k) u r.0 (cf k kept) h.0)
      (λ j i. refined_kept j m i (g j) v r.1 (cg j i) h.1)

  pub numbers_kept : (k : Known N) (m : Memories) → IsKept D p ord k m → (c : Cmp) (x y : Option N) (u v : ℤ)
      → IfSome x (λ a. HoldsNumber D a u) → IfSome y (λ a. HoldsNumber D a v) → compares c u v ≡ true
      → (f g : Known N → Option (Cell N)) → CellHas m f (int u) → CellHas m g (int v)
      → IfKept D p ord (numbers_narrowed D c x y f g k) m
  numbers_kept k m kept c None y u v hx hy e f g cf cg = kept
  numbers_kept k m kept c (Some x) None u v hx hy e f g cf cg = kept
  numbers_kept k m kept c (Some x) (Some y) u v hx hy e f g cf cg =
      by_kept k m kept u v f g cf cg (D.filter c x y) (law.filter_holds c x y u v e hx hy)

  by_state : (k : Known N) → IsState D p ord k → (f g : Known N → Option (Cell N)) → CellThere f → CellThere g
      → (r : Option (N × N))
      → IfState D p ord (narrowed_by D r f g k)
  by_state k s f g cf cg None = tt
  by_state k s f g cf cg (Some r) =
      then_state (refined D (f k) r.0 k) (λ k. refined D (g k) r.1 k) (refined_state k s (f k) r.0 (cf k s))
      (λ j i. refined_state j i (g j) r.1 (cg j i))

  pub numbers_state : (k : Known N) → IsState D p ord k → (c : Cmp) (x y : Option N) (f g : Known N → Option (Cell N))
      → CellThere f
      → CellThere g → IfState D p ord (numbers_narrowed D c x y f g k)
  numbers_state k s c None y f g cf cg = s
  numbers_state k s c (Some x) None f g cf cg = s
  numbers_state k s c (Some x) (Some y) f g cf cg = by_state k s f g cf cg (D.filter c x y)
