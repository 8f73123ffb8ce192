-- What the parts of the checks answer, as the checks.
use Rattle.std.proofs.Common.{◌≡◌, ℕ, ◌<◌, Bool, true, not, List, length, Result, Ok, sym, ap, ◌∙◌, subst}
use Rattle.std.specs.List.{find}
use Rattle.ep_int.specs.Memory.{contains}
use Rattle.ep_ast.specs.declared.refusals.Refusal.{Refusal}
use Rattle.ep_ast.specs.declared.refusals.Halt.{Halt}
use Rattle.ep_typing.specs.Results.{at}
use Rattle.ep_operands.specs.Refinement.{Stops}
use Rattle.ep_elaboration.specs.Calls.{CallSite, calls_of, function_depth, is_recursive}
use Rattle.ep_elaboration.specs.Functions.{Defined, numbers_of}
use Rattle.ep_elaboration.specs.Programs.{Sofar, all_fit, all_have_bodies, main_of, none_breaks, none_recurs}
use Rattle.ep_elaboration.specs.ProgramSteps.{checked}
use Rattle.ep_elaboration.specs.Programs.{not_too_deep}
use Rattle.ep_core.specs.Program.{Block}
use Rattle.ep_call_graph.specs.View.{AreBelow, AreWithin}
use Rattle.ep_typer_checks.specs.Checks.{main_in, number_in}
use Rattle.ep_typer_checks.proofs.Steps.{IsMain, all_pass, bodies_stop, cycles_stop, depths_stop, has_main}
use Rattle.ep_typer_checks.proofs.Steps.{main_is_among, main_stops, sizes_stop, some_function}

pub no_main : (s : Sofar) (ps : List CallSite) (ds : List Defined) → ds ≡ s.defined → (e : Halt) → Stops (main_in (main_of ds)) e
    → Stops (number_in (checked s ps)) e
no_main s ps ds same e h = main_stops s ps e (subst (λ (xs : List Defined). Stops (main_in (main_of xs)) e) same h)

module _ (s : Sofar) (ps : List CallSite) (ds : List Defined) (same : ds ≡ s.defined) (number line : ℕ)
    (m : main_in (main_of ds) ≡ Ok (number, line)) (numbers : List ℕ) (are : numbers ≡ numbers_of s.defined) where
  its_main : IsMain s.defined number line
  its_main = has_main s.defined number line (ap (λ (xs : List Defined). main_in (main_of xs)) (sym same) ∙ m)

  pub main_comes : (given : List ℕ) → given ≡ numbers → contains number given ≡ true
  main_comes given e = subst (λ (xs : List ℕ). contains number xs ≡ true) (sym (e ∙ are)) (main_is_among s.defined number line its_main)

  abbrev Bodies : List ℕ → Result Bool Refusal
  Bodies given = none_breaks 46 (find (λ c. not (contains c.callee given)) (calls_of ps))

  bodies_are : (given : List ℕ) → given ≡ numbers → Bodies given ≡ all_have_bodies s.defined (calls_of ps)
  bodies_are given e = ap Bodies (e ∙ are)

  pub bodies_fail : (given : List ℕ) → given ≡ numbers → (e : Halt) → Stops (Bodies given) e → Stops (number_in (checked s ps)) e
  bodies_fail given q e h =
      bodies_stop s ps number line its_main e (subst (λ (r : Result Bool Refusal). Stops r e) (bodies_are given q) h)

  module _ (count : ℕ) (counts : count ≡ length s.env.functions) where
    pub some : AreBelow (length s.env.functions) (numbers_of s.defined) → 0 < count
    some below = subst (λ (n : ℕ). 0 < n) (sym counts)
        (some_function (length s.env.functions) number (numbers_of s.defined) (main_is_among s.defined number line its_main) below)

    pub within : AreBelow (length s.env.functions) (numbers_of s.defined)
        → (0 < length s.env.functions → AreWithin (length s.env.functions) ps) → AreWithin count ps
    within below h = subst (λ (n : ℕ). AreWithin n ps) (sym counts)
        (h (some_function (length s.env.functions) number (numbers_of s.defined) (main_is_among s.defined number line its_main) below))

    module _ (given : List ℕ) (q : given ≡ numbers) (bodies : Bodies given ≡ Ok true) where
      bodies_pass : all_have_bodies s.defined (calls_of ps) ≡ Ok true
      bodies_pass = sym (bodies_are given q) ∙ bodies

      abbrev Cycles : ℕ → Result Bool Refusal
      Cycles n = none_breaks 35 (find (is_recursive (calls_of ps) n number) (calls_of ps))

      pub cycles_fail : (e : Halt) → Stops (Cycles count) e → Stops (number_in (checked s ps)) e
      cycles_fail e h = cycles_stop s ps number line its_main bodies_pass e (subst (λ (n : ℕ). Stops (Cycles n) e) counts h)

      module _ (acyclic : Cycles count ≡ Ok true) where
        cycles_pass : none_recurs s number (calls_of ps) ≡ Ok true
        cycles_pass = ap Cycles (sym counts) ∙ acyclic

        abbrev Depths : ℕ → Result Bool Refusal
        Depths n = at line (not_too_deep (function_depth ps n number))

        pub depths_fail : (e : Halt) → Stops (Depths count) e → Stops (number_in (checked s ps)) e
        depths_fail e h =
            depths_stop s ps number line its_main bodies_pass cycles_pass e (subst (λ (n : ℕ). Stops (Depths n) e) counts h)

        module _ (shallow : Depths count ≡ Ok true) (blocks : List Block) (all : blocks ≡ s.env.blocks) where
          depths_pass : Depths (length s.env.functions) ≡ Ok true
          depths_pass = ap Depths (sym counts) ∙ shallow

          pub sizes_fail : (e : Halt) → Stops (at 1 (all_fit blocks)) e → Stops (number_in (checked s ps)) e
          sizes_fail e h = sizes_stop s ps number line its_main bodies_pass cycles_pass depths_pass e
              (subst (λ (bs : List Block). Stops (at 1 (all_fit bs)) e) all h)

          pub checks_pass : at 1 (all_fit blocks) ≡ Ok true → number_in (checked s ps) ≡ Ok number
          checks_pass h = all_pass s ps number line its_main bodies_pass cycles_pass depths_pass
              (ap (λ (bs : List Block). at 1 (all_fit bs)) (sym all) ∙ h)
