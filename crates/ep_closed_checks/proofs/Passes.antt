-- Without any heads the checker says yes to closed and steady programs.
use Rattle.std.proofs.Common.{◌≡◌, ℕ, ◌-◌, inl, [], length, ap, ◌∙◌, slice_get, arith}
use Rattle.ep_int.specs.declared.types.Order.{Order}
use Rattle.ep_int.specs.Memory.{Memory}
use Rattle.ep_core.specs.Program.{Program}
use Rattle.ep_core.specs.Runs.{Side, left, right}
use Rattle.ep_pass.specs.States.{Both, StateOps}
use Rattle.ep_pass.specs.Pass.{bodies_pass, main_pass, all_faults}
use Rattle.ep_pass.specs.ReportLaws.{Operations}
use Rattle.ep_closed_laws.specs.Closely.{ConcretisesOneTyped}
use Rattle.ep_closed_laws.specs.Laws.{AreExact}
use Rattle.ep_closed_laws.proofs.Steps.{ends_alike}
use Rattle.ep_closed_laws.proofs.Inside.{Inside}
use Rattle.ep_closed_laws.proofs.Lift.{exactly}
use Rattle.ep_closed_laws.proofs.Exact.{closed_found}
use Rattle.ep_certcheck_laws.specs.Checked.{with_least_faults, given, answer_of}
use Rattle.ep_certcheck_laws.proofs.Headless.{AddsNone, body_bare, bodies_bare}
use Rattle.ep_closed_checks.specs.Laws.{ClosedProgramsPass}
use Rattle.ep_closed_checks.proofs.Exactly.{least_exactly}

-- where none is given, none is kept
none_added : {S : Type 0} (o : StateOps S) (first_outside : S → S → ℕ) (u : ℕ)
    → AddsNone o u (given o first_outside [])
none_added o first_outside u n l turn s h = h n o.empty

none_kept : {S : Type 0} (o : StateOps S) (first_outside : S → S → ℕ) (u : ℕ) (ord : Side → Order) (p : Program)
    → (main_pass o u (given o first_outside []) ord p).log.heads ≡ []
none_kept o first_outside u ord p =
    let heads = given o first_outside [] in
    body_bare o u heads ord p (slice_get p.functions p.main) p.main (bodies_pass o u heads ord p p.main)
    (bodies_bare o u heads ord p p.main) 0 Both (none_added o first_outside u) o.entry

pub closed_pass : {S : Type 0} (ops : Operations S) (C : Program → (Side → Order) → S → Memory → Memory → Type 0)
    → AreExact S ops C → ClosedProgramsPass S ops
closed_pass ops C laws p ord formed bytes other first_outside u some closed steady =
    let o = with_least_faults (ops p ord) in
    let heads = given o first_outside [] in
    let law = least_exactly p ord (ops p ord) (ConcretisesOneTyped p (Inside p (C p ord)))
    (exactly p formed ord (ops p ord) (C p ord) (laws p ord formed bytes closed.text other)) in
    let found : all_faults o u heads ord p ≡ [] = closed_found p ord o (ConcretisesOneTyped p (Inside p (C p ord))) law
    formed closed.text u heads (u - 1) (inl (omega (arith, some))) []
    (ends_alike p formed (ord left) (ord right) (u - 1) [] closed.left_turns closed.right_turns steady) in
    ap (λ es. answer_of es (length (main_pass o u heads ord p).log.heads) 0) found
    ∙ ap (λ hs. answer_of [] (length hs) 0) (none_kept o first_outside u ord p)
