-- What assuming a truth leaves, where that holds of a state whatever number a cell of a number gets, and whatever part
-- of its own pointers a cell of a pointer gets.
use Rattle.std.proofs.Common.{◌≡◌, Bool, true, false, ◌&&◌, cond, List, Option, Some, None, IfSome, refl, pos}
use Rattle.std.specs.Prelude.{option_map}
use Rattle.ep_int.specs.declared.types.Cmp.{Cmp}
use Rattle.ep_int.specs.declared.types.Cmp.TheVariants.{Ne}
use Rattle.ep_domain.specs.Domain.{Ops}
use Rattle.ep_pointers.specs.Value.{Pointers, pointers, null_alone}
use Rattle.ep_pointers.specs.Compare.{comparison_of, has_targets}
use Rattle.ep_cells.specs.declared.cell.Cell.{Cell}
use Rattle.ep_cells.specs.declared.cell.Value.{Value}
use Rattle.ep_cells.specs.declared.cell.Value.TheVariants.{Num, Ptr}
use Rattle.ep_cells.specs.Cells.{IsIn}
use Rattle.ep_cells.specs.States.{Known}
use Rattle.ep_reads.specs.Bytes.{is_null_alone}
use Rattle.ep_cell_ranges.specs.Narrow.{with_value}
use Rattle.ep_equalities.specs.declared.pair.Fault.{Fault}
use Rattle.ep_equalities.specs.declared.pair.SideValue.{SideValue}
use Rattle.ep_evaluation.specs.Given.{are_sure}
use Rattle.ep_evaluation.specs.Operators.{test_of}
use Rattle.ep_evaluation.specs.Narrowed.{then_with, either_of, both, met, refined, null_met, null_refined, says_alike}
use Rattle.ep_evaluation.specs.Narrowed.{narrowed_by, numbers_narrowed, null_side, answer, pointers_narrowed}
use Rattle.ep_evaluation.specs.Evaluation.{value_narrowed, if_sure, test_narrowed}
use Rattle.ep_tame_laws.specs.Tamely.{IfReached}

-- what holds of states and stays where values of cells are narrowed, and where two states come together
pub record StaysNarrowed {N : Type 0} (D : Ops N) (P : Known N → Type 0) : Type 0 where
  pub number : (k : Known N) (c : Cell N) (m n : N) → P k → IsIn c k.cells → c.value ≡ Some (Num m)
      → P (with_value c (Num n) k)
  pub null : (k : Known N) (c : Cell N) (q : Pointers N) → P k → IsIn c k.cells → c.value ≡ Some (Ptr q)
      → P (with_value c (Ptr null_alone) k)
  pub no_null : (k : Known N) (c : Cell N) (q : Pointers N) → P k → IsIn c k.cells → c.value ≡ Some (Ptr q)
      → P (with_value c (Ptr (pointers false q.targets)) k)
  pub met : (k l : Known N) → P k → P l → P (both D k l)

module _ {N : Type 0} (D : Ops N) (P : Known N → Type 0) (stays : StaysNarrowed D P) where
  -- the cell of an operand, in each state
  abbrev pub IsThere : (Known N → Option (Cell N)) → Type 0
  IsThere f = (j : Known N) → P j → IfSome (f j) (λ c. IsIn c j.cells)

  pub then_reached : (o : Option (Known N)) (f : Known N → Option (Known N)) → IfReached P o
      → ((j : Known N) → P j → IfReached P (f j)) → IfReached P (then_with o f)
  then_reached None f h i = tt
  then_reached (Some k) f h i = i k h

  pub either_reached : (a b : Option (Known N)) → IfReached P a → IfReached P b → IfReached P (either_of D a b)
  either_reached None b h i = i
  either_reached (Some k) None h i = h
  either_reached (Some k) (Some l) h i = stays.met k l h i

  pub sure_reached : (b : Bool) (k : Known N) (o : Option (Known N)) → P k → IfReached P o
      → IfReached P (if_sure D b k o)
  sure_reached true k o g h = h
  sure_reached false k o g h = g

  -- ---- numbers

  met_reached : (k : Known N) → P k → (c : Cell N) → IsIn c k.cells → (n : N) (o : Option (Value N)) → c.value ≡ o
      → IfReached P (met D c o n k)
  met_reached k g c i n None e = g
  met_reached k g c i n (Some (Num m)) e = by_meet (D.meet m n)
    where
      by_meet : (o : Option N) → IfReached P (option_map (λ v. with_value c (Num v) k) o)
      by_meet None = tt
      by_meet (Some v) = stays.number k c m v g i e
  met_reached k g c i n (Some (Ptr q)) e = g

  refined_reached : (k : Known N) → P k → (o : Option (Cell N)) (n : N) → IfSome o (λ c. IsIn c k.cells)
      → IfReached P (refined D o n k)
  refined_reached k g None n h = g
  refined_reached k g (Some c) n h = met_reached k g c h n c.value refl

  by_reached : (k : Known N) → P k → (a b : Known N → Option (Cell N)) → IsThere a → IsThere b → (r : Option (N × N))
      → IfReached P (narrowed_by D r a b k)
  by_reached k g a b ta tb None = tt
  by_reached k g a b ta tb (Some r) =
      then_reached (refined D (a k) r.0 k) (λ k. refined D (b k) r.1 k) (refined_reached k g (a k) r.0 (ta k g))
      (λ j i. refined_reached j i (b j) r.1 (tb j i))

  pub numbers_reached : (k : Known N) → P k → (c : Cmp) (x y : Option N) (a b : Known N → Option (Cell N))
      → IsThere a → IsThere b → IfReached P (numbers_narrowed D c x y a b k)
  numbers_reached k g c None y a b ta tb = g
  numbers_reached k g c (Some x) None a b ta tb = g
  numbers_reached k g c (Some x) (Some y) a b ta tb = by_reached k g a b ta tb (D.filter c x y)

  -- ---- pointers

  null_reached : (k : Known N) → P k → (c : Cell N) → IsIn c k.cells → (b : Bool) (o : Option (Value N)) → c.value ≡ o
      → IfReached P (null_met c b o k)
  null_reached k g c i b None e = g
  null_reached k g c i b (Some (Num n)) e = g
  null_reached k g c i true (Some (Ptr q)) e = stays.null k c q g i e
  null_reached k g c i false (Some (Ptr q)) e = by_targets (has_targets q.targets)
    where
      by_targets : (b : Bool) → IfReached P (cond b (Some (with_value c (Ptr (pointers false q.targets)) k)) None)
      by_targets true = stays.no_null k c q g i e
      by_targets false = tt

  refined_null : (k : Known N) → P k → (o : Option (Cell N)) (b : Bool) → IfSome o (λ c. IsIn c k.cells)
      → IfReached P (null_refined o b k)
  refined_null k g None b h = g
  refined_null k g (Some c) b h = null_reached k g c h b c.value refl

  side_reached : (k : Known N) → P k → (q : Pointers N) (o : Option Bool) (a : Known N → Option (Cell N)) → IsThere a
      → IfReached P (null_side q o a k)
  side_reached k g q None a ta = g
  side_reached k g q (Some b) a ta = by_test (is_null_alone q)
    where
      by_test : (t : Bool) → IfReached P (cond t (null_refined (a k) b k) (Some k))
      by_test true = refined_null k g (a k) b (ta k g)
      by_test false = g

  pub pointers_reached : (k : Known N) → P k → (c : Cmp) (t : Bool) (x y : Option (Pointers N))
      (a b : Known N → Option (Cell N)) → IsThere a → IsThere b → IfReached P (pointers_narrowed D c t x y a b k)
  pointers_reached k g c t None y a b ta tb = g
  pointers_reached k g c t (Some x) None a b ta tb = g
  pointers_reached k g c t (Some x) (Some y) a b ta tb = by_answer (answer (comparison_of D c x y) t)
    where
      by_answer : (r : Bool) → IfReached P
          (cond r (then_with (null_side y (says_alike c t) a k) (λ k. null_side x (says_alike c t) b k)) None)
      by_answer true =
          then_reached (null_side y (says_alike c t) a k) (λ k. null_side x (says_alike c t) b k)
          (side_reached k g y (says_alike c t) a ta) (λ j i. side_reached j i x (says_alike c t) b tb)
      by_answer false = tt

  -- ---- values

  no_cell_there : IsThere (λ k. None)
  no_cell_there j h = tt

  value_reached : (k : Known N) → P k → (t : Bool) (v : Option (Value N)) (a : Known N → Option (Cell N)) → IsThere a
      → IfReached P (value_narrowed D t v a k)
  value_reached k g t None a ta = g
  value_reached k g t (Some (Num n)) a ta =
      numbers_reached k g (test_of t) (Some n) (Some (D.single (pos 0))) a (λ k. None) ta no_cell_there
  value_reached k g t (Some (Ptr q)) a ta =
      pointers_reached k g Ne t (Some q) (Some null_alone) a (λ k. None) ta no_cell_there

  pub test_reached : (k : Known N) → P k → (t : Bool) (x : SideValue N) (fs : List Fault)
      (a : Known N → Option (Cell N)) → IsThere a → IfReached P (test_narrowed D t x fs a k)
  test_reached k g t x fs a ta =
      sure_reached (are_sure fs) k (value_narrowed D t x.value a k) g (value_reached k g t x.value a ta)
