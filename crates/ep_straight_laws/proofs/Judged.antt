-- Each straight statement: it is passed without a fault, and both machines go on alike, or they come apart.
use Rattle.std.proofs.Common.{◌≡◌, ◌≢◌, ℕ, inl, inr, true, List, [], sym, subst, Option, Some, None}
use Rattle.ep_int.specs.declared.types.IntType.TheVariants.{I32}
use Rattle.ep_int.specs.declared.types.Order.{Order}
use Rattle.ep_domain.specs.Domain.{Ops, Lawful}
use Rattle.ep_cells.specs.States.{Known}
use Rattle.ep_core.specs.Program.{Program}
use Rattle.ep_core.specs.Exec.{State, on, Outcome, leaves, no_input}
use Rattle.ep_core.specs.Runs.{Side}
use Rattle.ep_core.specs.WellFormed.{is_well_formed}
use Rattle.ep_pass.specs.States.{Transfer}
use Rattle.ep_pass.specs.Laws.{ConcretisesTyped}
use Rattle.ep_pass.proofs.Sure.{Reaches, Meets, meet_on, meet_none}
use Rattle.ep_transfers.specs.Laws.{StandsFor}
use Rattle.ep_straight_laws.proofs.Runs.{Apart, AreOnes, not_equal}
use Rattle.ep_straight_laws.proofs.Loads.{IsSet}
use Rattle.ep_straight_laws.proofs.Evaluates.{AreVariables}

module _ {N : Type 0} (D : Ops N) (law : Lawful D) (p : Program) (formed : is_well_formed p ≡ true) (ord : Side
    → Order)
    (seen : List ℕ) (r : ℕ) where
  abbrev pub K : Known N → State → State → Type 0
  K = ConcretisesTyped p (StandsFor D p ord)

  -- What holds between straight statements: each variable is known, or undefined, and main's result has a value.
  pub record V (k : Known N) (x y : State) : Type 0 where
    pub kept : K k x y
    pub ones : AreOnes x.inputs
    pub vars : AreVariables D law p formed seen ord k x.memory y.memory
    pub result : IsSet D ord k x.memory y.memory r I32

  pub data Judged (g : Transfer (Known N)) (n m : ℕ) (c d : Outcome) : Type 0 where
    passes : (k : Known N) (x y : State) → g.faults ≡ [] → g.next ≡ Some k → c ≡ leaves on n x → d ≡ leaves on m y
        → (K k x y → V k x y) → Judged g n m c d
    starves : (x y : State) → g.faults ≡ [] → c ≡ no_input x → d ≡ no_input y → x.outputs ≡ y.outputs
        → Judged g n m c d
    parts : Apart c d → Judged g n m c d

  reached : (u : Option (Known N)) (n m : ℕ) (c d : Outcome) (k : Known N) (x y : State) → Meets K on u n m c d
      → u ≡ Some k → c ≡ leaves on n x → d ≡ leaves on m y → K k x y
  reached u n m c d k x y (meet_on {x = a} {y = b} i) e f g =
      let p : a ≡ x = cc in
      let q : b ≡ y = cc in
      subst (λ v. Reaches K v x y) e (subst (λ s. Reaches K u x s) q (subst (λ s. Reaches K u s b) p i))
  reached u n m c d k x y (meet_none i) e f g = absurd (cc)

  -- machines that come apart don't go on alike
  never_meets : (u : Option (Known N)) (n m : ℕ) (c d : Outcome) → Apart c d → Meets K on u n m c d → ⊥
  never_meets u n m c d (inl h) (meet_on i) = h
  never_meets None n m c d (inr h) (meet_on i) = i
  never_meets (Some k) n m c d (inr h) (meet_on {x} {y} i) = not_equal x.outputs y.outputs h i.stands.outputs
  never_meets u n m c d (inl h) (meet_none e) = h
  never_meets u n m c d (inr h) (meet_none {x} {y} e) = not_equal x.outputs y.outputs h e

  pub judged_goes : (g : Transfer (Known N)) (n m : ℕ) (c d : Outcome) → Judged g n m c d → g.faults ≡ []
      → Meets K on g.next n m c d → Meets V on g.next n m c d
  judged_goes g n m c d (passes k x y q e f h v) z i =
      let j : Meets V on (Some k) n m (leaves on n x) (leaves on m y)
      = meet_on (v (reached g.next n m c d k x y i e f h)) in
      subst (λ u. Meets V on u n m c d) (sym e)
      (subst (λ a. Meets V on (Some k) n m a d) (sym f) (subst (λ b. Meets V on (Some k) n m (leaves on n x) b)
      (sym h) j))
  judged_goes g n m c d (starves x y q f h o) z i =
      let j : Meets V on g.next n m (no_input x) (no_input y) = meet_none o in
      subst (λ a. Meets V on g.next n m a d) (sym f) (subst (λ b. Meets V on g.next n m (no_input x) b) (sym h) j)
  judged_goes g n m c d (parts a) z i = absurd (never_meets g.next n m c d a i)

  pub judged_parts : (g : Transfer (Known N)) (n m : ℕ) (c d : Outcome) → Judged g n m c d → g.faults ≢ [] → Apart c d
  judged_parts g n m c d (passes k x y q e f h v) z = absurd (z q)
  judged_parts g n m c d (starves x y q f h o) z = absurd (z q)
  judged_parts g n m c d (parts a) z = a
