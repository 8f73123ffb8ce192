-- `nothing`, what is evaluated alone, and a value that is put out.
use Rattle.std.proofs.Common.{◌≡◌, ℕ, ℤ, true, false, List, [], ◌∷◌, ◌++◌, Option, Some, refl, sym, ap}
use Rattle.std.proofs.Common.{◌∙◌}
use Rattle.ep_int.specs.declared.types.IntType.{IntType}
use Rattle.ep_int.specs.declared.types.Order.{Order}
use Rattle.ep_int.specs.declared.types.Scalar.{Scalar}
use Rattle.ep_int.specs.declared.types.Scalar.TheVariants.{Int}
use Rattle.ep_int.specs.Memory.{Value as Datum, int, has}
use Rattle.ep_domain.specs.Domain.{Ops, Lawful}
use Rattle.ep_cells.specs.States.{Known}
use Rattle.ep_cells.specs.Meaning.{Memories}
use Rattle.ep_core.specs.Program.{Expr, nothing, eval, output, Program}
use Rattle.ep_core.specs.Exec.{State, Output, on, leaves, value, given, with_int}
use Rattle.ep_core.specs.Exec.{put_out as put_number}
use Rattle.ep_core.specs.Runs.{Side, left, right}
use Rattle.ep_core.specs.WellFormed.{Sort, integer, has_sort, int_type_of, blocks_fit}
use Rattle.ep_core.proofs.Sorts.{tested_where}
use Rattle.ep_equalities.specs.declared.pair.Mode.{Mode}
use Rattle.ep_equalities.specs.declared.pair.Mode.TheVariants.{Both}
use Rattle.ep_equalities.specs.declared.pair.PairValue.{PairValue}
use Rattle.ep_equalities.specs.Same.{is_same}
use Rattle.ep_evaluation.specs.Given.{Given, alone}
use Rattle.ep_evaluation.specs.Evaluation.{expression}
use Rattle.ep_evaluation.specs.Laws.{Machine, sizes_of, ExpressionsHold}
use Rattle.ep_evaluation.proofs.General.{reliable_none}
use Rattle.ep_transfers.specs.Places.{has_values}
use Rattle.ep_transfers.specs.Transfers.{stepped, if_goes_on, differ_faults, differs_if, put_out, simple_step}
use Rattle.ep_transfers.specs.Laws.{memories}
use Rattle.ep_transfers.proofs.Evaluated.{pair_of}
use Rattle.ep_closed_laws.specs.Exactly.{IfLeft}
use Rattle.ep_single_states.specs.Laws.{ConcretisesOne}
use Rattle.ep_single_narrowed.specs.Laws.{IsKeptOne}
use Rattle.ep_single_given.specs.Laws.{FindAll, IsOneGiven}
use Rattle.ep_single_pairs.proofs.Pairs.{sames_are_known}
use Rattle.ep_singles.specs.Numbers.{KeepsSingles}
use Rattle.ep_single_values.specs.Laws.{ValuesAreOne}
use Rattle.ep_single_values.specs.Statements.{StatementIsExact}
use Rattle.ep_single_runs.proofs.Steps.{if_given, if_int, find_both, find_alone, kept_one, kept_beside}
use Rattle.ep_single_runs.proofs.Steps.{StepIsExact, after_exact, goes_exact, exact_both, exact_beside, values_there}

-- ---- outputs

not_longer : (x z : Output) (xs : List Output) → x ∷ [] ≡ z ∷ (xs ++ x ∷ []) → ⊥
not_longer x z [] e = cc
not_longer x z (y ∷ xs) e = cc

-- the last of two lists that are the same is the same, and so is what comes before
pub last_is : (xs ys : List Output) (x y : Output) → xs ++ x ∷ [] ≡ ys ++ y ∷ [] → (xs ≡ ys) × (x ≡ y)
last_is [] [] x y e = (refl, cc)
last_is [] (z ∷ []) x y e = absurd (cc)
last_is [] (z ∷ (u ∷ ys)) x y e = absurd (cc)
last_is (z ∷ []) [] x y e = absurd (cc)
last_is (z ∷ (u ∷ xs)) [] x y e = absurd (cc)
last_is (z ∷ xs) (u ∷ ys) x y e =
    let h : z ≡ u = cc in
    let t : xs ++ x ∷ [] ≡ ys ++ y ∷ [] = cc in
    let r = last_is xs ys x y t in (ap (λ a. a ∷ xs) h ∙ ap (λ l. u ∷ l) r.0, r.1)

pub one_output : (t : IntType) (z u : ℤ) → ◌≡◌ {A = Output} (record { t = t; value = z }) (record { t = t; value = u })
    → z ≡ u
one_output t z u e = ap (λ (o : Output). o.value) e

module _ {N : Type 0} (D : Ops N) (law : Lawful D) (keeps : KeepsSingles D) (p : Program) (ord : Side → Order)
    (fit : blocks_fit p.types p.blocks ≡ true) (exprs : ExpressionsHold D p ord) (values : ValuesAreOne D p ord) where
  -- ---- what is evaluated

  abbrev gives : Expr → Mode → Known N → Given N
  gives e mode k = (expression D (sizes_of p.blocks) e).gives mode k

  pub given_is : (seen : List ℕ) (e : Expr) (x : Sort) → has_sort p.types p.blocks seen e x ≡ true → (k : Known N)
      (m : Memories) → IsKeptOne D p ord k m → (mode : Mode) → FindAll mode (λ s. value (ord s) p e) m
      → IsOneGiven D mode (gives e mode k)
  given_is seen e x h k m kept mode all = (values keeps fit seen e x h).gives k m kept mode all

  module _ (r : Option (ℕ × Scalar)) (e : Expr) where
    eval_exact : (seen : List ℕ) (x : Sort) → has_sort p.types p.blocks seen e x ≡ true → (k : Known N) (m : Memories)
        → IsKeptOne D p ord k m → ConcretisesOne D p ord k m.left m.right → (mode : Mode)
        → FindAll mode (λ s. value (ord s) p e) m → StepIsExact D p ord (simple_step D p mode r (eval e) k) m
    eval_exact seen x h k m kept c mode all =
        let g = given_is seen e x h k m kept mode all in
        after_exact D p ord (gives e mode k).faults
        (stepped [] (if_goes_on (has_values mode (gives e mode k).pair) k)) m g.quiet
        (goes_exact D p ord (has_values mode (gives e mode k).pair) k m
        (values_there D p ord mode (gives e mode k) g) c)

    -- ---- what is put out

    same_exact : (k : Known N) (m : Memories) (v : PairValue N) → ConcretisesOne D p ord k m.left m.right
        → has_values Both v ≡ true → is_same D v ≡ true → StepIsExact D p ord (put_out D Both v k) m
    same_exact k m v c there same = record {
      faults = ap (λ t. differs_if D t Both v) there ∙ ap (λ t. differ_faults D t v) same;
      next = (goes_exact D p ord (has_values Both v) k m there c).next;
    }

    output_exact : (seen : List ℕ) (t : IntType) → has_sort p.types p.blocks seen e (integer t) ≡ true → (k : Known N)
        (m : Memories) → IsKeptOne D p ord k m → ConcretisesOne D p ord k m.left m.right → (u : Datum)
        → value (ord left) p e m.left ≡ has u → value (ord right) p e m.right ≡ has u
        → StepIsExact D p ord (simple_step D p Both r (output t e) k) m
    output_exact seen t h k m kept c u a b =
        let v = gives e Both k in
        let f : Side → Machine = λ s. value (ord s) p e in
        let g = given_is seen e (integer t) h k m kept Both (find_both f m u u a b) in
        let held = ((exprs fit seen e (integer t) h).gives k m kept.kept Both).held
        (reliable_none Both v.faults g.quiet) in
        after_exact D p ord v.faults (put_out D Both v.pair k) m g.quiet
        (same_exact k m v.pair c (values_there D p ord Both v g)
        (sames_are_known D law v.pair (Int t) u (g.each left refl) (g.each right refl) (held left refl u a).value
        (held right refl u b).value))

  -- ---- statements

  pub nothing_is : StatementIsExact D p ord nothing
  nothing_is = record {
    alone = λ i here f at seen h quiet l n s x y seen_from. (
      refl,
      exact_beside D p ord i s (stepped [] (Some s)) x.memory y.memory
          (kept_beside D p ord i s x y seen_from).kept.state (beside i s x y (kept_beside D p ord i s x y seen_from)),
    );
    both = λ here f at seen h quiet l n m s x y c. (
      refl,
      (
        refl,
        λ o. exact_both D p ord s (stepped [] (Some s)) x.memory y.memory c.memories.state
            (record { faults = refl; next = c.memories }),
      ),
    );
  }
    where
      beside : (i : Side) (s : Known N) (x y : State) → IsKeptOne D p ord s (pair_of i x.memory y.memory)
          → StepIsExact D p ord (stepped [] (Some s)) (pair_of i x.memory y.memory)
      beside i s x y k = record { faults = refl; next = record { state = k.kept.state; one = k.one } }

  pub eval_is : (e : Expr) → StatementIsExact D p ord (eval e)
  eval_is e = record {
    alone = λ i here f at seen h quiet l n s x y seen_from.
        (let t = tested_where p.types p.blocks seen (int_type_of e) (has_sort p.types p.blocks seen e) h in
        let k = kept_beside D p ord i s x y seen_from in
        if_given on _ l x (value (ord i) p e x.memory) (λ v. leaves on n x)
        (λ v a. (
          refl,
          exact_beside D p ord i s _ x.memory y.memory k.kept.state
              (eval_exact f.result e seen t.0 t.1 s (pair_of i x.memory y.memory) k
              (record { state = k.kept.state; one = k.one }) (alone i)
              (find_alone i (λ s. value (ord s) p e) x.memory y.memory v a)),
        )));
    both = λ here f at seen h quiet l n m s x y c.
        (let t = tested_where p.types p.blocks seen (int_type_of e) (has_sort p.types p.blocks seen e) h in
        let k = kept_one D p ord s x y c in
        if_given on _ l x (value (ord left) p e x.memory) (λ v. leaves on n x)
        (λ v a. (
          refl,
          if_given on _ l y (value (ord right) p e y.memory) (λ v. leaves on m y)
              (λ u b. (
                refl,
                λ o. exact_both D p ord s _ x.memory y.memory k.kept.state
                    (eval_exact f.result e seen t.0 t.1 s (memories x.memory y.memory) k c.memories Both
                    (find_both (λ s. value (ord s) p e) (memories x.memory y.memory) v u a b)),
              )),
        )));
  }

  -- a machine is left with a number put out
  output_puts : (P : State → Type 0) (o : Order) (t : IntType) (e : Expr) (l n : ℕ) (s : State)
      → ((z : ℤ) → value o p e s.memory ≡ has (int z) → P (put_number t z s))
      → IfLeft on P (given (value o p e s.memory) l s (λ v. with_int v l s (λ z. leaves on n (put_number t z s))))
  output_puts P o t e l n s more =
      if_given on P l s (value o p e s.memory) (λ v. with_int v l s (λ z. leaves on n (put_number t z s)))
      (λ v ev. if_int on P l s v (λ z. leaves on n (put_number t z s)) (λ z ez. (refl, more z (ev ∙ ap has ez))))

  pub output_is : (t : IntType) (e : Expr) → StatementIsExact D p ord (output t e)
  output_is t e = record {
    alone = λ i here f at seen h quiet l n s x y seen_from. absurd (let d : true ≡ false = quiet in cc);
    both = λ here f at seen h quiet l n m s x y c.
        (let k = kept_one D p ord s x y c in
        output_puts _ (ord left) t e l n x
        (λ z a. output_puts _ (ord right) t e l m y
        (λ w b o.
        exact_both D p ord s (simple_step D p Both f.result (output t e) s) x.memory y.memory k.kept.state
        (output_exact f.result e seen t h s (memories x.memory y.memory) k c.memories (int z) a
        (b ∙ ap has (ap int (sym (one_output t z w
        (last_is x.outputs y.outputs (record { t = t; value = z }) (record { t = t; value = w }) o).1))))))));
  }
