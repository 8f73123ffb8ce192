-- What assuming leaves of a state is a state of the same machines.
use Rattle.std.proofs.Common.{◌≡◌, ℕ, Bool, true, false, not, cond, pos, List, ◌++◌, Option, Some, None, refl, ◌∙◌}
use Rattle.std.specs.Option.{option_map}
use Rattle.ep_int.specs.declared.types.Cmp.{Cmp}
use Rattle.ep_int.specs.declared.types.Cmp.TheVariants.{Ne}
use Rattle.ep_evaluation.specs.Operators.{test_of}
use Rattle.ep_domain.specs.Domain.{Ops}
use Rattle.ep_pointers.specs.Value.{Pointers, null_alone}
use Rattle.ep_pointers.specs.Compare.{comparison_of, has_targets}
use Rattle.ep_cells.specs.declared.cell.Cell.{Cell}
use Rattle.ep_cells.specs.declared.cell.Value.{Value}
use Rattle.ep_cells.specs.declared.cell.Value.TheVariants.{Num, Ptr}
use Rattle.ep_cells.specs.States.{Known}
use Rattle.ep_reads.specs.Bytes.{is_null_alone}
use Rattle.ep_core.specs.Program.{Expr, const, null_value, load, addr_of, binary}
use Rattle.ep_core.specs.Program.{convert, compare, ptr_compare, logical_and, logical_or, logical_not, conditional}
use Rattle.ep_core.specs.Program.{ptr_add, cast}
use Rattle.ep_core.specs.Runs.{Side}
use Rattle.ep_alarms.specs.declared.types.AlarmKind.{AlarmKind}
use Rattle.ep_equalities.specs.declared.pair.Fault.{Fault}
use Rattle.ep_equalities.specs.declared.pair.Mode.{Mode}
use Rattle.ep_equalities.specs.declared.pair.SideValue.{SideValue}
use Rattle.ep_cell_ranges.specs.Narrow.{with_value}
use Rattle.ep_evaluation.specs.Given.{Given, alone, on, are_sure}
use Rattle.ep_evaluation.specs.Narrowed.{then_with, both, either_of, again, when_not, met, refined, null_taken}
use Rattle.ep_evaluation.specs.Narrowed.{null_met, null_refined, narrowed_by, numbers_narrowed, says_alike, null_side}
use Rattle.ep_evaluation.specs.Narrowed.{answer, pointers_narrowed}
use Rattle.ep_evaluation.specs.Evaluation.{Means, ToCell, number, pointer, value_narrowed, if_sure, test_narrowed}
use Rattle.ep_evaluation.specs.Evaluation.{test_assumed, short_assumed, expression}
use Rattle.ep_eval_fits.specs.Likeness.{IsLike, IfLike}

module _ {N : Type 0} where
  pub like_itself : (k : Known N) → IsLike k k
  like_itself k = record { orders = refl; model = refl }

  pub like_further : (k l : Known N) (o : Option (Known N)) → IsLike k l → IfLike l o → IfLike k o
  like_further k l None h i = tt
  like_further k l (Some n) h i = record { orders = i.orders ∙ h.orders; model = i.model ∙ h.model }

  then_like : (k : Known N) (o : Option (Known N)) (f : Known N → Option (Known N)) → IfLike k o
      → ((l : Known N) → IfLike l (f l)) → IfLike k (then_with o f)
  then_like k None f h i = tt
  then_like k (Some l) f h i = like_further k l (f l) h (i l)

  module _ (D : Ops N) where
    either_like : (k : Known N) (a b : Option (Known N)) → IfLike k a → IfLike k b → IfLike k (either_of D a b)
    either_like k None b h i = i
    either_like k (Some a) None h i = h
    either_like k (Some a) (Some b) h i = record { orders = h.orders; model = h.model }

    met_like : (c : Cell N) (v : Option (Value N)) (n : N) (k : Known N) → IfLike k (met D c v n k)
    met_like c None n k = like_itself k
    met_like c (Some (Num m)) n k = split (D.meet m n)
      where
        split : (o : Option N) → IfLike k (option_map (λ v. with_value c (Num v) k) o)
        split None = tt
        split (Some v) = record { orders = refl; model = refl }
    met_like c (Some (Ptr p)) n k = like_itself k

    refined_like : (c : Option (Cell N)) (n : N) (k : Known N) → IfLike k (refined D c n k)
    refined_like None n k = like_itself k
    refined_like (Some c) n k = met_like c c.value n k

    taken_like : (c : Cell N) (b : Bool) (p : Pointers N) (k : Known N) → IfLike k (null_taken c b p k)
    taken_like c true p k = record { orders = refl; model = refl }
    taken_like c false p k = split (has_targets p.targets) (Ptr (record { null = false; targets = p.targets }))
      where
        split : (b : Bool) (v : Value N) → IfLike k (cond b (Some (with_value c v k)) None)
        split true v = record { orders = refl; model = refl }
        split false v = tt

    null_met_like : (c : Cell N) (b : Bool) (v : Option (Value N)) (k : Known N) → IfLike k (null_met c b v k)
    null_met_like c b None k = like_itself k
    null_met_like c b (Some (Num m)) k = like_itself k
    null_met_like c b (Some (Ptr p)) k = taken_like c b p k

    null_refined_like : (c : Option (Cell N)) (b : Bool) (k : Known N) → IfLike k (null_refined c b k)
    null_refined_like None b k = like_itself k
    null_refined_like (Some c) b k = null_met_like c b c.value k

    narrowed_like : (r : Option (N × N)) (a b : Known N → Option (Cell N)) (k : Known N) → IfLike k (narrowed_by D r a b k)
    narrowed_like None a b k = tt
    narrowed_like (Some r) a b k =
        then_like k (refined D (a k) r.0 k) (λ k. refined D (b k) r.1 k) (refined_like (a k) r.0 k)
        (λ l. refined_like (b l) r.1 l)

    numbers_like : (c : Cmp) (x y : Option N) (a b : Known N → Option (Cell N)) (k : Known N)
        → IfLike k (numbers_narrowed D c x y a b k)
    numbers_like c None y a b k = like_itself k
    numbers_like c (Some x) None a b k = like_itself k
    numbers_like c (Some x) (Some y) a b k = narrowed_like (D.filter c x y) a b k

    null_side_like : (q : Pointers N) (o : Option Bool) (a : Known N → Option (Cell N)) (k : Known N)
        → IfLike k (null_side q o a k)
    null_side_like q None a k = like_itself k
    null_side_like q (Some b) a k = split (is_null_alone q)
      where
        split : (t : Bool) → IfLike k (cond t (null_refined (a k) b k) (Some k))
        split true = null_refined_like (a k) b k
        split false = like_itself k

    pointers_like : (c : Cmp) (t : Bool) (x y : Option (Pointers N)) (a b : Known N → Option (Cell N)) (k : Known N)
        → IfLike k (pointers_narrowed D c t x y a b k)
    pointers_like c t None y a b k = like_itself k
    pointers_like c t (Some p) None a b k = like_itself k
    pointers_like c t (Some p) (Some q) a b k = split (answer (comparison_of D c p q) t)
      where
        split : (u : Bool) → IfLike k (cond u (then_with (null_side q (says_alike c t) a k)
            (λ k. null_side p (says_alike c t) b k)) None)
        split true = then_like k (null_side q (says_alike c t) a k) (λ k. null_side p (says_alike c t) b k)
            (null_side_like q (says_alike c t) a k) (λ l. null_side_like p (says_alike c t) b l)
        split false = tt

    value_like : (t : Bool) (v : Option (Value N)) (c : Known N → Option (Cell N)) (k : Known N)
        → IfLike k (value_narrowed D t v c k)
    value_like t None c k = like_itself k
    value_like t (Some (Num n)) c k = numbers_like (test_of t) (Some n) (Some (D.single (pos 0))) c (λ k. None) k
    value_like t (Some (Ptr p)) c k = pointers_like Ne t (Some p) (Some null_alone) c (λ k. None) k

    sure_like : (b : Bool) (k : Known N) (o : Option (Known N)) → IfLike k o → IfLike k (if_sure D b k o)
    sure_like true k o h = h
    sure_like false k o h = like_itself k

    assumed_like : (gives : Mode → Known N → Given N) (c : ToCell N) (s : Side) (t : Bool) (k : Known N)
        → IfLike k (test_assumed D gives c s t k)
    assumed_like gives c s t k =
        sure_like (are_sure (gives (alone s) k).faults) k _ (value_like t (on (gives (alone s) k).pair s).value (c s) k)

    short_like : (t : Bool) (a b : Means N) (s : Side) (asks : Bool) (k : Known N)
        → ((u : Bool) (l : Known N) → IfLike l (a.assumes s u l)) → ((u : Bool) (l : Known N) → IfLike l (b.assumes s u l))
        → IfLike k (short_assumed D t a b s asks k)
    short_like t a b s true k h i = then_like k (a.assumes s t k) (b.assumes s t) (h t k) (i t)
    short_like t a b s false k h i =
        either_like k (a.assumes s (not t) k) (then_with (a.assumes s t k) (b.assumes s (not t))) (h (not t) k)
        (then_like k (a.assumes s t k) (b.assumes s (not t)) (h t k) (i (not t)))

    pub assumes_like : (sizes : List ℕ) (e : Expr) (s : Side) (t : Bool) (k : Known N)
        → IfLike k ((expression D sizes e).assumes s t k)
    assumes_like sizes (const u v) s t k =
        assumed_like (expression D sizes (const u v)).gives (expression D sizes (const u v)).cell s t k
    assumes_like sizes null_value s t k =
        assumed_like (expression D sizes null_value).gives (expression D sizes null_value).cell s t k
    assumes_like sizes (load w a) s t k =
        assumed_like (expression D sizes (load w a)).gives (expression D sizes (load w a)).cell s t k
    assumes_like sizes (addr_of a) s t k =
        assumed_like (expression D sizes (addr_of a)).gives (expression D sizes (addr_of a)).cell s t k
    assumes_like sizes (binary o u a b) s t k =
        assumed_like (expression D sizes (binary o u a b)).gives (expression D sizes (binary o u a b)).cell s t k
    assumes_like sizes (convert u e) s t k =
        assumed_like (expression D sizes (convert u e)).gives (expression D sizes (convert u e)).cell s t k
    assumes_like sizes (compare c u a b) s t k =
        let x = (expression D sizes a).gives (alone s) k in
        let y = (expression D sizes b).gives (alone s) k in
        sure_like (are_sure (x.faults ++ y.faults)) k _ (numbers_like (when_not c t) (number D (on x.pair s))
        (number D (on y.pair s)) ((expression D sizes a).cell s) (again ((expression D sizes b).cell s k)) k)
    assumes_like sizes (ptr_compare c a b) s t k =
        let x = (expression D sizes a).gives (alone s) k in
        let y = (expression D sizes b).gives (alone s) k in
        sure_like (are_sure (x.faults ++ y.faults)) k _ (pointers_like c t (pointer D (on x.pair s))
        (pointer D (on y.pair s)) ((expression D sizes a).cell s) (again ((expression D sizes b).cell s k)) k)
    assumes_like sizes (logical_and a b) s t k =
        short_like true (expression D sizes a) (expression D sizes b) s t k (assumes_like sizes a s) (assumes_like sizes b s)
    assumes_like sizes (logical_or a b) s t k =
        short_like false (expression D sizes a) (expression D sizes b) s (not t) k (assumes_like sizes a s)
        (assumes_like sizes b s)
    assumes_like sizes (logical_not e) s t k = assumes_like sizes e s (not t) k
    assumes_like sizes (conditional e a b) s t k =
        assumed_like (expression D sizes (conditional e a b)).gives (expression D sizes (conditional e a b)).cell s t k
    assumes_like sizes (ptr_add e unit n back) s t k =
        assumed_like (expression D sizes (ptr_add e unit n back)).gives (expression D sizes (ptr_add e unit n back)).cell s t k
    assumes_like sizes (cast e) s t k =
        assumed_like (expression D sizes (cast e)).gives (expression D sizes (cast e)).cell s t k
