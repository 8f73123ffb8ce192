-- The report on a mover is empty where both machines put out the same symbols.
use Rattle.std.proofs.Common.{◌≡◌, ℕ, true, ◌&&◌, List, [], ◌++◌, map, slice_get, Option, Some, Result, Ok, Err}
use Rattle.std.proofs.Common.{refl, sym, ◌∙◌, ap, subst}
use Rattle.std.proofs.lemmas.Bool.{and_parts, eqb-true}
use Rattle.ep_int.specs.declared.types.Order.{Order}
use Rattle.ep_int.specs.declared.types.Scalar.{Scalar}
use Rattle.ep_int.specs.Memory.{Memory}
use Rattle.ep_alarms.specs.Report.{gathered}
use Rattle.ep_core.specs.Program.{Block, Function, Program}
use Rattle.ep_core.specs.Exec.{result_in}
use Rattle.ep_core.specs.Runs.{Side, left, right, is_result, Agree}
use Rattle.ep_core.specs.WellFormed.{is_well_formed}
use Rattle.ep_pass.specs.States.{Both, StateOps}
use Rattle.ep_pass.specs.Laws.{Lawful}
use Rattle.ep_pass.specs.Pass.{none, Event, alarm_of, found_at, Pass, tried, join_on, body_pass, bodies_pass}
use Rattle.ep_pass.specs.Pass.{faults_at_end, all_faults, report_of}
use Rattle.ep_movers.specs.declared.Stop.{Stop}
use Rattle.ep_movers.specs.Symbols.{Symbol}
use Rattle.ep_movers.specs.Movers.{Machine, bytes_in, blank_bytes, first_machine, moves, main_moves, outputs_of}
use Rattle.ep_movers.specs.Movers.{outputs_on, moves_on, is_mover_text}
use Rattle.ep_movers.specs.Forms.{has_moving_form}
use Rattle.ep_mover_runs.proofs.Numbers.{same_ok}
use Rattle.ep_mover_runs.proofs.Mains.{IsMover, is_mover, main_fits, has_result}
use Rattle.ep_mover_runs.proofs.Ends.{zero_first}
use Rattle.ep_mover_runs.proofs.Agreeing.{agreeing_are_same}
use Rattle.ep_mover_laws.specs.Moving.{first_machines, KeepsMoved}
use Rattle.ep_mover_laws.proofs.Along.{begun}
use Rattle.ep_mover_laws.proofs.Passes.{Comes, row_pass, row_comes, rest_keeps}

-- the machine where main ends, and what it put out
machine_of : (r : Result Machine Stop) (os : List (List Symbol)) → outputs_of r ≡ Ok os
    → (k : Machine) × (r ≡ Ok k) × (k.outputs ≡ os)
machine_of (Ok k) os e = (k, refl, same_ok e)
machine_of (Err s) os e = absurd cc

module _ (p : Program) (formed : is_well_formed p ≡ true) (g : IsMover p) (ord : Side → Order) {S : Type 0}
    (o : StateOps S) (Concretises : S → Memory → Memory → Type 0) (law : Lawful p ord o Concretises)
    (Moved : (Side → Machine) → S → Type 0) (keeps : KeepsMoved p ord o Concretises Moved) (u limit : ℕ) where
  module _ (to : Side → Machine)
      (ends : (i : Side) → moves (ord i) g.main.body (first_machines p ord g.main i) ≡ Ok (to i))
      (same : (to left).outputs ≡ (to right).outputs) where
    abbrev whole : Pass S
    whole =
        row_pass p formed g ord o Concretises law Moved keeps u (tried o limit)
        (bodies_pass o u (tried o limit) ord p p.main) g.main.body 0 Both o.entry none

    gone : Comes p formed g ord o Concretises law Moved keeps to whole
    gone =
        row_comes p formed g ord o Concretises law Moved keeps u (tried o limit)
        (bodies_pass o u (tried o limit) ord p p.main) g.main.body 0 (first_machines p ord g.main) to o.entry g.moving
        (main_fits p formed g) (begun p formed g ord o Concretises law Moved keeps) ends same

    -- main's result is still zero
    zero_at : (b : ℕ) (d : Block) → is_result g.main.result b ≡ true → slice_get p.blocks b ≡ Some d → (i : Side)
        → bytes_in (gone.machines i).memory b ≡ blank_bytes true d.size
    zero_at b d h at i =
        let r = has_result p formed g in
        let here : r.block ≡ b
        = eqb-true r.block b (subst (λ (x : Option (ℕ × Scalar)). is_result x b ≡ true) r.is h) in
        let first : bytes_in (first_machines p ord g.main i).memory r.block ≡ blank_bytes true d.size
        = subst (λ (f : Option Function). bytes_in (first_machine (ord i) p (result_in f)).memory r.block
        ≡ blank_bytes true d.size) g.at
        (zero_first p formed g (ord i) [] r d (ap (slice_get p.blocks) here ∙ at)) in
        let kept = rest_keeps p formed g ord o Concretises law Moved keeps u (tried o limit)
        (bodies_pass o u (tried o limit) ord p p.main) i g.main.body (first_machines p ord g.main i) (to i) g.moving
        (main_fits p formed g) (ends i) in
        ap (bytes_in (gone.machines i).memory) (sym here)
        ∙ ap (λ (m : Machine). bytes_in m.memory r.block) (gone.at i) ∙ kept.block ∙ first

    end_quiet : o.ended g.main gone.state ≡ []
    end_quiet =
        keeps.ended g.main g.at gone.machines gone.state gone.along zero_at

    abbrev faults_of : Pass S → Option Function → List Event
    faults_of q f = q.log.faults ++ faults_at_end o f (join_on o q.ways.returned q.on)

    no_faults : all_faults o u (tried o limit) ord p ≡ []
    no_faults =
        ap (λ f. faults_of (body_pass o u (tried o limit) ord p f p.main
        (bodies_pass o u (tried o limit) ord p p.main) 0 Both o.entry) f) g.at
        ∙ ap (λ (q : Pass S). faults_of q (Some g.main)) gone.is
        ∙ ap (λ fs. fs ++ found_at g.main.line (o.ended g.main gone.state)) gone.quiet
        ∙ ap (found_at g.main.line) end_quiet

    reports_nothing : report_of o u limit ord p ≡ []
    reports_nothing = ap (λ es. gathered (map alarm_of es)) no_faults

  pub same_report_nothing : (os : List (List Symbol)) → outputs_on (ord left) p ≡ Ok os → outputs_on (ord right) p ≡ Ok os
      → report_of o u limit ord p ≡ []
  same_report_nothing os e f =
      let ended : (i : Side) → outputs_on (ord i) p ≡ Ok os = both e f in
      let at : (i : Side) → (k : Machine) × (main_moves (ord i) p (slice_get p.functions p.main) ≡ Ok k)
      × (k.outputs ≡ os)
      = λ i. machine_of (main_moves (ord i) p (slice_get p.functions p.main)) os (ended i) in
      reports_nothing (λ i. (at i).0) (λ i. sym (ap (main_moves (ord i) p) g.at) ∙ (at i).1)
      ((at left).2 ∙ sym (at right).2)
    where
      both : outputs_on (ord left) p ≡ Ok os → outputs_on (ord right) p ≡ Ok os → (i : Side)
          → outputs_on (ord i) p ≡ Ok os
      both e f left = e
      both e f right = f

-- ---- the laws

pub mover_form : (p : Program) (a b : Order) → is_mover_text p a b ≡ true → has_moving_form p ≡ true
mover_form p a b h = (and_parts (has_moving_form p) (moves_on a p && moves_on b p) h).0

module _ (p : Program) (formed : is_well_formed p ≡ true) (ord : Side → Order) {S : Type 0} (o : StateOps S)
    (Concretises : S → Memory → Memory → Type 0) (law : Lawful p ord o Concretises)
    (Moved : (Side → Machine) → S → Type 0) (keeps : KeepsMoved p ord o Concretises Moved) where
  pub same_symbols : (form : has_moving_form p ≡ true) (os : List (List Symbol)) → outputs_on (ord left) p ≡ Ok os
      → outputs_on (ord right) p ≡ Ok os → (u limit : ℕ) → report_of o u limit ord p ≡ []
  same_symbols form os e f u limit =
      same_report_nothing p formed (is_mover p formed form) ord o Concretises law Moved keeps u limit os e f

  pub agreeing_nothing : is_mover_text p (ord left) (ord right) ≡ true → Agree p (ord left) (ord right) → (u limit : ℕ)
      → report_of o u limit ord p ≡ []
  agreeing_nothing text agree u limit =
      let os = agreeing_are_same p formed (ord left) (ord right) text agree in
      same_symbols (mover_form p (ord left) (ord right) text) os.0 os.1 os.2 u limit
