-- Both machines put out one number at the end of main: it is the same value on both sides, and nothing is wrong.
use Rattle.std.proofs.Common.{◌≡◌, ℕ, ℤ, true, false, ◌&&◌, List, [], ◌∷◌, ◌++◌, map, Option, Some, None}
use Rattle.std.proofs.Common.{is_some, refl, sym, ap, ◌∙◌, subst}
use Rattle.std.specs.List.{list_all}
use Rattle.std.proofs.lemmas.Bool.{and_from}
use Rattle.ep_int.specs.declared.types.IntType.TheVariants.{I32}
use Rattle.ep_int.specs.declared.types.Order.{Order}
use Rattle.ep_int.specs.declared.types.Scalar.{Scalar}
use Rattle.ep_int.specs.Memory.{int, null, pointer, Kind, Found, has, faults}
use Rattle.ep_domain.specs.Domain.{Ops, Lawful}
use Rattle.ep_cells.specs.States.{Known}
use Rattle.ep_cells.specs.Meaning.{Allows}
use Rattle.ep_core.specs.Program.{Function, Program}
use Rattle.ep_core.specs.Exec.{Output, State, untyped}
use Rattle.ep_core.specs.Runs.{Side, left, right, ended, undefined_on, result_out, main_ends}
use Rattle.ep_equalities.specs.declared.pair.Mode.TheVariants.{Both}
use Rattle.ep_equalities.specs.declared.pair.Fault.{Fault}
use Rattle.ep_equalities.specs.Same.{is_same}
use Rattle.ep_evaluation.specs.Given.{Given}
use Rattle.ep_evaluation.specs.Evaluation.{told}
use Rattle.ep_evaluation.proofs.General.{reliable_none}
use Rattle.ep_transfers.specs.Places.{has_values}
use Rattle.ep_transfers.specs.Cells.{cell_ops, told_of, when_known}
use Rattle.ep_transfers.specs.Transfers.{stepped, differ_faults}
use Rattle.ep_transfers.specs.Calls.{loaded_result}
use Rattle.ep_transfers.specs.Ends.{is_sure_result, ended_faults}
use Rattle.ep_transfers.specs.Laws.{memories}
use Rattle.ep_transfers.proofs.Assigned.{valued}
use Rattle.ep_closed_laws.specs.Closely.{ConcretisesOneTyped}
use Rattle.ep_single_given.specs.Laws.{IsOneGiven, FindAll}
use Rattle.ep_single_pairs.proofs.Pairs.{sames_are_known}
use Rattle.ep_single_states.specs.Laws.{ConcretisesOne}
use Rattle.ep_single_calls.proofs.Machines.{read_of}
use Rattle.ep_single_calls.proofs.Kept.{kept_both, told_so}
use Rattle.ep_single_calls.proofs.Received.{result_evaluated, result_one}

-- ---- what machines put out

-- a machine that is over has put out a number
record IsOver (f : Found) (l : ℕ) (s : State) : Type 0 where
  number : ℤ
  found : f ≡ has (int number)
  outputs : (result_out f l s).outputs ≡ s.outputs ++ record { t = I32; value = number } ∷ []

not_over : {A : Type 0} (l : ℕ) (k : Kind) → undefined_on l k ≡ ended → A
not_over l k e = absurd cc

is_over : (f : Found) (l : ℕ) (s : State) → (result_out f l s).ending ≡ ended → IsOver f l s
is_over (has (int v)) l s e = record { number = v; found = refl; outputs = refl }
is_over (has null) l s e = not_over l untyped e
is_over (has (pointer b q)) l s e = not_over l untyped e
is_over (faults k) l s e = not_over l k e

last_same : (xs : List Output) (a b : Output) → xs ++ a ∷ [] ≡ xs ++ b ∷ [] → a ≡ b
last_same [] a b e = cc
last_same (x ∷ xs) a b e = last_same xs a b (let q : xs ++ a ∷ [] ≡ xs ++ b ∷ [] = cc in q)

none_listed : (fs : List Fault) → fs ≡ [] → list_all (λ (f : Fault). false) fs ≡ true
none_listed fs e = ap (list_all (λ (f : Fault). false)) e

module _ {N : Type 0} (D : Ops N) (law : Lawful D) (p : Program) (ord : Side → Order) where
  -- ---- the result is surely the same

  module _ (r : ℕ × Scalar) (l : ℕ) (k : Known N) (x y : State)
      (h : ConcretisesOneTyped p (ConcretisesOne D p ord) k x y)
      (a : IsOver (read_of (ord left) p r x.memory) l x) (b : IsOver (read_of (ord right) p r y.memory) l y)
      (e : (result_out (read_of (ord left) p r x.memory) l x).outputs
      ≡ (result_out (read_of (ord right) p r y.memory) l y).outputs) where
    same_number : a.number ≡ b.number
    same_number =
        let q : x.outputs ++ record { t = I32; value = a.number } ∷ []
        ≡ x.outputs ++ record { t = I32; value = b.number } ∷ [] =
        sym a.outputs ∙ e ∙ b.outputs ∙ ap (λ os. os ++ record { t = I32; value = b.number } ∷ []) (sym h.outputs) in
        ap (λ (o : Output). o.value)
        (last_same x.outputs (record { t = I32; value = a.number }) (record { t = I32; value = b.number }) q)

    abbrev v : Given N
    v = loaded_result D p Both r k

    found : FindAll Both (λ s. read_of (ord s) p r) (memories x.memory y.memory)
    found left i = (int a.number, a.found)
    found right i = (int b.number, b.found)

    one : IsOneGiven D Both v
    one = result_one D law p ord r k (memories x.memory y.memory) (kept_both D p ord k x y h) Both found

    allowed_left : Allows D r.1 v.pair.left.value false (Some (int a.number))
    allowed_left =
        ((result_evaluated D law p ord r k (memories x.memory y.memory) (kept_both D p ord k x y h).kept Both).holds.held
        (reliable_none Both v.faults one.quiet) left refl (int a.number) a.found).value

    allowed_right : Allows D r.1 v.pair.right.value false (Some (int a.number))
    allowed_right =
        ((result_evaluated D law p ord r k (memories x.memory y.memory) (kept_both D p ord k x y h).kept Both).holds.held
        (reliable_none Both v.faults one.quiet) right refl (int a.number)
        (b.found ∙ ap (λ z. has (int z)) (sym same_number))).value

    is_sure : is_sure_result D p v ≡ true
    is_sure =
        and_from (is_same D v.pair) (has_values Both v.pair && list_all (λ (f : Fault). false) v.faults)
        (sames_are_known D law v.pair r.1 (int a.number) (one.each left refl) (one.each right refl) allowed_left
        allowed_right)
        (and_from (has_values Both v.pair) (list_all (λ (f : Fault). false) v.faults)
        (and_from (is_some v.pair.left.value) (is_some v.pair.right.value)
        (valued D r.1 v.pair.left.value (int a.number) allowed_left)
        (valued D r.1 v.pair.right.value (int a.number) allowed_right))
        (none_listed v.faults one.quiet))

    none_differ : differ_faults D (is_sure_result D p v) v.pair ≡ []
    none_differ = ap (λ t. differ_faults D t v.pair) is_sure

  -- ---- the end

  ends_by : (f : Function) (o : Option (ℕ × Scalar)) (k : Known N) (x y : State)
      → ConcretisesOneTyped p (ConcretisesOne D p ord) k x y
      → (main_ends (ord left) p o f.line x).ending ≡ ended → (main_ends (ord right) p o f.line y).ending ≡ ended
      → (main_ends (ord left) p o f.line x).outputs ≡ (main_ends (ord right) p o f.line y).outputs
      → ended_faults D p (record f { result = o }) k ≡ []
  ends_by f None k x y h a b e = refl
  ends_by f (Some r) k x y h a b e =
      none_differ r f.line k x y h (is_over (read_of (ord left) p r x.memory) f.line x a)
      (is_over (read_of (ord right) p r y.memory) f.line y b) e

  pub end_is_exact : (f : Function) (k : Known N) (x y : State)
      → ConcretisesOneTyped p (ConcretisesOne D p ord) k x y
      → (main_ends (ord left) p f.result f.line x).ending ≡ ended
      → (main_ends (ord right) p f.result f.line y).ending ≡ ended
      → (main_ends (ord left) p f.result f.line x).outputs ≡ (main_ends (ord right) p f.result f.line y).outputs
      → (cell_ops D p ord).ended f k ≡ []
  end_is_exact f k x y h a b e =
      subst (λ t. (told_of D (when_known t (stepped (ended_faults D p f k) None))).faults ≡ [])
      (sym (told_so D p ord k h.memories.state)) (ap (map (told D)) (ends_by f f.result k x y h a b e))
