-- Assuming changes no data model.
use Rattle.std.proofs.Common.{◌≡◌, ℕ, Bool, true, false, not, if◌then◌else◌, List, ◌++◌, Option, Some, None, IfSome}
use Rattle.std.specs.Option.{option_map}
use Rattle.ep_int.specs.declared.types.Model.{Model}
use Rattle.ep_int.specs.declared.types.Cmp.{Cmp}
use Rattle.ep_int.specs.declared.types.Cmp.TheVariants.{Ne}
use Rattle.ep_domain.specs.Domain.{Ops}
use Rattle.ep_pointers.specs.Value.{Pointers, null_alone}
use Rattle.ep_pointers.specs.Compare.{comparison_of, has_targets}
use Rattle.ep_reads.specs.Bytes.{is_null_alone}
use Rattle.ep_cells.specs.declared.cell.Cell.{Cell}
use Rattle.ep_cells.specs.declared.cell.Value.{Value}
use Rattle.ep_cells.specs.declared.cell.Value.TheVariants.{Num, Ptr}
use Rattle.ep_cells.specs.States.{Known}
use Rattle.ep_core.specs.Program.{Expr, const, null_value, load, addr_of, binary, convert, compare, ptr_compare}
use Rattle.ep_core.specs.Program.{logical_and, logical_or, logical_not, conditional, ptr_add, cast}
use Rattle.ep_core.specs.Runs.{Side, left, right}
use Rattle.ep_equalities.specs.declared.pair.Mode.{Mode}
use Rattle.ep_equalities.specs.declared.pair.Mode.TheVariants.{Both, Left, Right}
use Rattle.ep_evaluation.specs.Given.{Given, on, alone, are_sure}
use Rattle.ep_evaluation.specs.Narrowed.{then_with, either_of, again, when_not, met, refined, null_taken, null_met}
use Rattle.ep_evaluation.specs.Narrowed.{null_refined, narrowed_by, numbers_narrowed, null_side, says_alike, answer}
use Rattle.ep_evaluation.specs.Narrowed.{pointers_narrowed}
use Rattle.ep_evaluation.specs.Evaluation.{ToCell, Means, number, pointer, value_narrowed, if_sure, test_assumed}
use Rattle.ep_evaluation.specs.Evaluation.{assumed, state_for, short_assumed, compare_means, pointers_means}
use Rattle.ep_evaluation.specs.Evaluation.{expression}
use Rattle.ep_cell_ranges.specs.Narrow.{with_value}

module _ {N : Type 0} (D : Ops N) (d : Model) where
  abbrev pub IfModel : Option (Known N) → Type 0
  IfModel o = IfSome o (λ k. k.model ≡ d)

  if_model : (t : Bool) (a b : Option (Known N)) → IfModel a → IfModel b → IfModel (if t then a else b)
  if_model true a b h i = h
  if_model false a b h i = i

  then_model : (o : Option (Known N)) (f : Known N → Option (Known N)) → IfModel o
      → ((k : Known N) → k.model ≡ d → IfModel (f k)) → IfModel (then_with o f)
  then_model None f h g = tt
  then_model (Some k) f h g = g k h

  either_model : (a b : Option (Known N)) → IfModel a → IfModel b → IfModel (either_of D a b)
  either_model None b h i = i
  either_model (Some k) None h i = h
  either_model (Some k) (Some l) h i = h

  -- ---- cells that get other values

  mapped_model : (c : Cell N) (k : Known N) → k.model ≡ d → (o : Option N)
      → IfModel (option_map (λ v. with_value c (Num v) k) o)
  mapped_model c k h None = tt
  mapped_model c k h (Some v) = h

  met_model : (c : Cell N) (v : Option (Value N)) (n : N) (k : Known N) → k.model ≡ d → IfModel (met D c v n k)
  met_model c None n k h = h
  met_model c (Some (Num m)) n k h = mapped_model c k h (D.meet m n)
  met_model c (Some (Ptr p)) n k h = h

  refined_model : (c : Option (Cell N)) (n : N) (k : Known N) → k.model ≡ d → IfModel (refined D c n k)
  refined_model None n k h = h
  refined_model (Some c) n k h = met_model c c.value n k h

  null_taken_model : (c : Cell N) (b : Bool) (p : Pointers N) (k : Known N) → k.model ≡ d
      → IfModel (null_taken c b p k)
  null_taken_model c true p k h = h
  null_taken_model c false p k h = if_model (has_targets p.targets) (Some (with_value c _ k)) None h tt

  null_met_model : (c : Cell N) (b : Bool) (v : Option (Value N)) (k : Known N) → k.model ≡ d
      → IfModel (null_met c b v k)
  null_met_model c b None k h = h
  null_met_model c b (Some (Num m)) k h = h
  null_met_model c b (Some (Ptr p)) k h = null_taken_model c b p k h

  null_refined_model : (c : Option (Cell N)) (b : Bool) (k : Known N) → k.model ≡ d → IfModel (null_refined c b k)
  null_refined_model None b k h = h
  null_refined_model (Some c) b k h = null_met_model c b c.value k h

  -- ---- comparisons

  module _ (a b : Known N → Option (Cell N)) where
    by_model : (r : Option (N × N)) (k : Known N) → k.model ≡ d → IfModel (narrowed_by D r a b k)
    by_model None k h = tt
    by_model (Some r) k h =
        then_model (refined D (a k) r.0 k) (λ k. refined D (b k) r.1 k) (refined_model (a k) r.0 k h)
        (λ l i. refined_model (b l) r.1 l i)

    numbers_model : (c : Cmp) (x y : Option N) (k : Known N) → k.model ≡ d
        → IfModel (numbers_narrowed D c x y a b k)
    numbers_model c None y k h = h
    numbers_model c (Some x) None k h = h
    numbers_model c (Some x) (Some y) k h = by_model (D.filter c x y) k h

    null_model : (q : Pointers N) (o : Option Bool) (f : Known N → Option (Cell N)) (k : Known N) → k.model ≡ d
        → IfModel (null_side q o f k)
    null_model q None f k h = h
    null_model q (Some t) f k h =
        if_model (is_null_alone q) (null_refined (f k) t k) (Some k) (null_refined_model (f k) t k h) h

    pointers_model : (c : Cmp) (t : Bool) (p q : Option (Pointers N)) (k : Known N) → k.model ≡ d
        → IfModel (pointers_narrowed D c t p q a b k)
    pointers_model c t None q k h = h
    pointers_model c t (Some p) None k h = h
    pointers_model c t (Some p) (Some q) k h =
        if_model (answer (comparison_of D c p q) t)
        (then_with (null_side q (says_alike c t) a k) (λ k. null_side p (says_alike c t) b k)) None
        (then_model (null_side q (says_alike c t) a k) (λ k. null_side p (says_alike c t) b k)
        (null_model q (says_alike c t) a k h) (λ l i. null_model p (says_alike c t) b l i)) tt

  value_model : (t : Bool) (v : Option (Value N)) (c : Known N → Option (Cell N)) (k : Known N) → k.model ≡ d
      → IfModel (value_narrowed D t v c k)
  value_model t None c k h = h
  value_model t (Some (Num n)) c k h = numbers_model c (λ k. None) _ (Some n) (Some (D.single _)) k h
  value_model t (Some (Ptr p)) c k h = pointers_model c (λ k. None) Ne t (Some p) (Some null_alone) k h

  sure_model : (b : Bool) (k : Known N) (o : Option (Known N)) → k.model ≡ d → IfModel o → IfModel (if_sure D b k o)
  sure_model true k o h i = i
  sure_model false k o h i = h

  -- ---- expressions

  abbrev pub Keeps : Means N → Type 0
  Keeps a = (s : Side) (t : Bool) (k : Known N) → k.model ≡ d → IfModel (a.assumes s t k)

  test_keeps : (g : Mode → Known N → Given N) (c : ToCell N) (s : Side) (t : Bool) (k : Known N) → k.model ≡ d
      → IfModel (test_assumed D g c s t k)
  test_keeps g c s t k h =
      sure_model (are_sure (g (alone s) k).faults) k (value_narrowed D t (on (g (alone s) k).pair s).value (c s) k) h
      (value_model t (on (g (alone s) k).pair s).value (c s) k h)

  short_keeps : (r : Bool) (a b : Means N) → Keeps a → Keeps b → (s : Side) (t : Bool) (k : Known N) → k.model ≡ d
      → IfModel (short_assumed D r a b s t k)
  short_keeps r a b ha hb s true k h =
      then_model (a.assumes s r k) (b.assumes s r) (ha s r k h) (λ l i. hb s r l i)
  short_keeps r a b ha hb s false k h =
      either_model (a.assumes s (not r) k) (then_with (a.assumes s r k) (b.assumes s (not r))) (ha s (not r) k h)
      (then_model (a.assumes s r k) (b.assumes s (not r)) (ha s r k h) (λ l i. hb s (not r) l i))

  -- one without a rule of its own for assuming
  tests : (sizes : List ℕ) (e : Expr) (s : Side) (t : Bool) (k : Known N) → k.model ≡ d
      → IfModel (test_assumed D (expression D sizes e).gives (expression D sizes e).cell s t k)
  tests sizes e s t k h = test_keeps (expression D sizes e).gives (expression D sizes e).cell s t k h

  compare_keeps : (c : Cmp) (a b : Means N) (s : Side) (t : Bool) (k : Known N) → k.model ≡ d
      → IfModel ((compare_means D c a b).assumes s t k)
  compare_keeps c a b s t k h =
      let x = a.gives (alone s) k in
      let y = b.gives (alone s) k in
      sure_model (are_sure (x.faults ++ y.faults)) k
      (numbers_narrowed D (when_not c t) (number D (on x.pair s)) (number D (on y.pair s)) (a.cell s)
      (again (b.cell s k)) k) h
      (numbers_model (a.cell s) (again (b.cell s k)) (when_not c t) (number D (on x.pair s)) (number D (on y.pair s))
      k h)

  pointers_keep : (c : Cmp) (a b : Means N) (s : Side) (t : Bool) (k : Known N) → k.model ≡ d
      → IfModel ((pointers_means D c a b).assumes s t k)
  pointers_keep c a b s t k h =
      let x = a.gives (alone s) k in
      let y = b.gives (alone s) k in
      sure_model (are_sure (x.faults ++ y.faults)) k
      (pointers_narrowed D c t (pointer D (on x.pair s)) (pointer D (on y.pair s)) (a.cell s) (again (b.cell s k)) k) h
      (pointers_model (a.cell s) (again (b.cell s k)) c t (pointer D (on x.pair s)) (pointer D (on y.pair s)) k h)

  pub keeps : (sizes : List ℕ) (e : Expr) → Keeps (expression D sizes e)
  keeps sizes (const u v) s t k h = tests sizes (const u v) s t k h
  keeps sizes null_value s t k h = tests sizes null_value s t k h
  keeps sizes (load w a) s t k h = tests sizes (load w a) s t k h
  keeps sizes (addr_of a) s t k h = tests sizes (addr_of a) s t k h
  keeps sizes (binary o u a b) s t k h = tests sizes (binary o u a b) s t k h
  keeps sizes (convert u e) s t k h = tests sizes (convert u e) s t k h
  keeps sizes (compare c u a b) s t k h = compare_keeps c (expression D sizes a) (expression D sizes b) s t k h
  keeps sizes (ptr_compare c a b) s t k h = pointers_keep c (expression D sizes a) (expression D sizes b) s t k h
  keeps sizes (logical_and a b) s t k h =
      short_keeps true (expression D sizes a) (expression D sizes b) (λ s t k h. keeps sizes a s t k h)
      (λ s t k h. keeps sizes b s t k h) s t k h
  keeps sizes (logical_or a b) s t k h =
      short_keeps false (expression D sizes a) (expression D sizes b) (λ s t k h. keeps sizes a s t k h)
      (λ s t k h. keeps sizes b s t k h) s (not t) k h
  keeps sizes (logical_not e) s t k h = keeps sizes e s (not t) k h
  keeps sizes (conditional e a b) s t k h = tests sizes (conditional e a b) s t k h
  keeps sizes (ptr_add e unit n back) s t k h = tests sizes (ptr_add e unit n back) s t k h
  keeps sizes (cast e) s t k h = tests sizes (cast e) s t k h

  -- ---- on all running sides

  assumed_model : (a : Means N) → Keeps a → (m : Mode) (t : Bool) (k : Known N) → k.model ≡ d
      → IfModel (assumed D a m t k)
  assumed_model a ha Both t k h =
      then_model (a.assumes left t k) (a.assumes right t) (ha left t k h) (λ l i. ha right t l i)
  assumed_model a ha Left t k h = ha left t k h
  assumed_model a ha Right t k h = ha right t k h

  pub state_model : (a : Means N) → Keeps a → (stable : Bool) (m : Mode) (t : Bool) (k : Known N) → k.model ≡ d
      → IfModel (state_for D a stable m t k)
  state_model a ha true m t k h = assumed_model a ha m t k h
  state_model a ha false m t k h = h
