-- `? :` of operands that have one value each where they are evaluated.
use Rattle.std.proofs.Common.{◌≡◌, Bool, true, false, ◌&&◌, ◌++◌, Option, refl, sym, ap, ◌∙◌, subst}
use Rattle.ep_int.specs.declared.types.Order.{Order}
use Rattle.ep_int.specs.declared.types.Scalar.{Scalar}
use Rattle.ep_int.specs.Memory.{Value as Datum, has}
use Rattle.ep_domain.specs.Domain.{Ops, Lawful}
use Rattle.ep_cells.specs.States.{Known}
use Rattle.ep_cells.specs.Meaning.{Memories}
use Rattle.ep_cell_ranges.proofs.Shareds.{has_one}
use Rattle.ep_core.specs.Program.{Program}
use Rattle.ep_core.specs.Exec.{is_true, where_true}
use Rattle.ep_core.specs.Runs.{Side}
use Rattle.ep_equalities.specs.declared.pair.Mode.{Mode}
use Rattle.ep_evaluation.specs.Given.{Given, runs, on, nothing}
use Rattle.ep_evaluation.specs.Evaluation.{Means, same, later, later_side, later_faults, later_same, chosen_side}
use Rattle.ep_evaluation.specs.Evaluation.{chosen_in}
use Rattle.ep_evaluation.specs.Laws.{memory_of, Machine}
use Rattle.ep_evaluation.proofs.General.{both_found}
use Rattle.ep_evaluation.proofs.Later.{IsOf}
use Rattle.ep_evaluation.proofs.Conditionals.{chosen}
use Rattle.ep_singles.specs.Cells.{IsOneValue}
use Rattle.ep_single_narrowed.specs.Laws.{IsKeptOne}
use Rattle.ep_single_sides.specs.Laws.{SidesAreOne}
use Rattle.ep_single_given.specs.Laws.{FindAll, IsOneGiven, GivesOne}
use Rattle.ep_single_given.proofs.Given.{no_faults, given_one}
use Rattle.ep_single_values.specs.Laws.{OneMeans}
use Rattle.ep_single_values.proofs.Given.{OneGives}
use Rattle.ep_single_values.proofs.Later.{LaterOne, later_one}

module _ {N : Type 0} (D : Ops N) (law : Lawful D) (sides : SidesAreOne D) (p : Program) (ord : Side → Order)
    (wf w : Scalar) (f g h : Side → Machine) (a b c : Means N) (ga : OneGives D p ord wf f a.gives)
    (gb : OneGives D p ord w g b.gives) (gc : OneGives D p ord w h c.gives) (oa : OneMeans D p ord f a)
    (idle_b : (mode : Mode) (k : Known N) (s : Side) → runs mode s ≡ false → on (b.gives mode k).pair s ≡ nothing)
    (idle_c : (mode : Mode) (k : Known N) (s : Side) → runs mode s ≡ false → on (c.gives mode k).pair s ≡ nothing)
  where
    module _ (k : Known N) (m : Memories) (s : IsKeptOne D p ord k m) (mode : Mode)
        (all : FindAll mode (chosen f g h) m) where
      -- the first operand, and what its truth chooses
      record IsChoice (i : Side) (v : Datum) : Type 0 where
        u : Datum
        finds : f i (memory_of i m) ≡ has u
        is : where_true (is_true u) (h i (memory_of i m)) (g i (memory_of i m)) ≡ has v

      choice : (i : Side) (v : Datum) → chosen f g h i (memory_of i m) ≡ has v → IsChoice i v
      choice i v e =
          let q = both_found (f i (memory_of i m))
          (λ u. where_true (is_true u) (h i (memory_of i m)) (g i (memory_of i m))) v e in
          record { u = q.0; finds = q.1; is = q.2 }

      choice_at : (i : Side) (r : runs mode i ≡ true) → IsChoice i (all i r).0
      choice_at i r = let q = all i r in choice i q.0 q.1

      -- where it is of this truth
      chosen_is : (i : Side) (v : Datum) → IsChoice i v → (t : Bool) → IsOf (f i (memory_of i m)) t
          → where_true t (h i (memory_of i m)) (g i (memory_of i m)) ≡ has v
      chosen_is i v q t n =
          subst (λ b. where_true b (h i (memory_of i m)) (g i (memory_of i m)) ≡ has v)
          (ap is_true (has_one q.u n.u (sym q.finds ∙ n.finds)) ∙ n.truth) q.is

      firsts : FindAll mode f m
      firsts i r = let q = choice_at i r in (q.u, q.finds)

      abbrev x : Given N
      x = a.gives mode k

      abbrev y : Option (Given N)
      y = later D a b mode true k x

      abbrev z : Option (Given N)
      z = later D a c mode false k x

      second_is : LaterOne D law p ord wf w f g a b ga gb oa idle_b true k m s y mode
      second_is =
          later_one D law p ord wf w f g a b ga gb oa idle_b true k m s mode
          (λ i r n. ((all i r).0, chosen_is i (all i r).0 (choice_at i r) true n)) firsts

      third_is : LaterOne D law p ord wf w f h a c ga gc oa idle_c false k m s z mode
      third_is =
          later_one D law p ord wf w f h a c ga gc oa idle_c false k m s mode
          (λ i r n. ((all i r).0, chosen_is i (all i r).0 (choice_at i r) false n)) firsts

      by_truth : (i : Side) → runs mode i ≡ true → (v : Datum) → IsChoice i v → (t : Bool)
          → IsOf (f i (memory_of i m)) t → IsOneValue D (chosen_side D (later_side D y i) (later_side D z i)).value
      by_truth i r v q true n =
          subst (λ o. IsOneValue D (chosen_side D (later_side D y i) o).value) (sym (third_is.left_out i r n))
          (sides.chosen_second (later_side D y i) (second_is.taken i r n v (chosen_is i v q true n)).one)
      by_truth i r v q false n =
          subst (λ o. IsOneValue D (chosen_side D o (later_side D z i)).value) (sym (second_is.left_out i r n))
          (sides.chosen_third (later_side D z i) (third_is.taken i r n v (chosen_is i v q false n)).one)

      chosen_given_one : IsOneGiven D mode (chosen_in D a b c mode k x)
      chosen_given_one =
          given_one D mode (λ i. chosen_side D (later_side D y i) (later_side D z i))
          (same D x && (later_same D y && later_same D z)) (x.faults ++ (later_faults D y ++ later_faults D z))
          (no_faults x.faults (later_faults D y ++ later_faults D z) (ga.one k m s mode firsts).quiet
          (no_faults (later_faults D y) (later_faults D z) second_is.quiet third_is.quiet))
          (λ i r.
          (let q = choice_at i r in
          by_truth i r (all i r).0 q (is_true q.u) (record { u = q.u; finds = q.finds; truth = refl })))

    pub chosen_one : GivesOne D p ord (chosen f g h) (λ mode k. chosen_in D a b c mode k (a.gives mode k))
    chosen_one k m s mode all = chosen_given_one k m s mode all
