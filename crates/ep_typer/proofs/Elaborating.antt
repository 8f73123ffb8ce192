-- The parts of an elaboration one after another.
use Rattle.std.proofs.Common.{◌≡◌, ℕ, List, map, Result, Ok, Err, refl, sym, ap, ◌∙◌}
use Rattle.ep_int.specs.declared.types.Model.{Model}
use Rattle.ep_ast.specs.declared.refusals.Refusal.{Refusal}
use Rattle.ep_ast.specs.declared.refusals.Halt.{Halt}
use Rattle.ep_ast.specs.declared.refusals.Halt.TheVariants as halts
use Rattle.ep_ast.specs.declared.statements.ItemTree.{ItemTree}
use Rattle.ep_ast.specs.Statement.{item_of}
use Rattle.ep_core.specs.Program as core
use Rattle.ep_typing.specs.Results.{◌>>=◌}
use Rattle.ep_operands.specs.Refinement.{Stops}
use Rattle.ep_elaboration.specs.Calls.{calls_of}
use Rattle.ep_elaboration.specs.Functions.{Defined}
use Rattle.ep_elaboration.specs.Programs.{Sofar, begun, order_of, call_sites_of, program_of}
use Rattle.ep_elaboration.specs.ProgramSteps.{checked, elaborated, items}
use Rattle.ep_typer_checks.specs.Checks.{number_in}

-- with a number alone, in the place of main
after_main : (r : Result Defined Refusal) (f : ℕ → core.Program)
    → (r >>= (λ (d : Defined). Ok (f d.number))) ≡ (number_in r >>= (λ (n : ℕ). Ok (f n)))
after_main (Ok d) f = refl
after_main (Err e) f = refl

module _ (m : Model) (list all : List ItemTree) (same : list ≡ all) where
  pub text_stops : (e : Halt) → Stops (items (begun m) (map item_of list)) e → Stops (elaborated m (map item_of all)) e
  unfolding elaborated
  text_stops halts.Memory h = tt
  text_stops (halts.Refused r) h =
      let q : items (begun m) (map item_of all) ≡ Err r = ap (λ (ts : List ItemTree). items (begun m) (map item_of ts)) (sym same) ∙ h in
      rw q refl

  module _ (s : Sofar) (text : items (begun m) (map item_of list) ≡ Ok s) where
    pub text_is : items (begun m) (map item_of all) ≡ Ok s
    text_is = ap (λ (ts : List ItemTree). items (begun m) (map item_of ts)) (sym same) ∙ text

    abbrev program_at : List ItemTree → ℕ → core.Program
    program_at ts n = program_of s n (order_of s (calls_of (call_sites_of s (map item_of ts))))

    behind_text : elaborated m (map item_of all)
        ≡ (number_in (checked s (call_sites_of s (map item_of all))) >>= (λ (n : ℕ). Ok (program_at all n)))
    unfolding elaborated
    behind_text = rw text_is (after_main (checked s (call_sites_of s (map item_of all))) (program_at all))

    pub checks_stop : (again : List ItemTree) → again ≡ all → (e : Halt)
        → Stops (number_in (checked s (call_sites_of s (map item_of again)))) e → Stops (elaborated m (map item_of all)) e
    checks_stop again q halts.Memory h = tt
    checks_stop again q (halts.Refused r) h =
        let k : number_in (checked s (call_sites_of s (map item_of all))) ≡ Err r =
        ap (λ (ts : List ItemTree). number_in (checked s (call_sites_of s (map item_of ts)))) (sym q) ∙ h in
        behind_text ∙ rw k refl

    pub all_elaborated : (again : List ItemTree) → again ≡ all → (main : ℕ) (order : List ℕ) (p : core.Program)
        → number_in (checked s (call_sites_of s (map item_of again))) ≡ Ok main
        → order ≡ order_of s (calls_of (call_sites_of s (map item_of again))) → p ≡ program_of s main order
        → elaborated m (map item_of all) ≡ Ok p
    all_elaborated again q main order p h o is =
        let k : number_in (checked s (call_sites_of s (map item_of all))) ≡ Ok main =
        ap (λ (ts : List ItemTree). number_in (checked s (call_sites_of s (map item_of ts)))) (sym q) ∙ h in
        behind_text ∙ rw k refl
        ∙ ap (λ (x : core.Program). Ok x)
        (sym (is ∙ ap (program_of s main) o ∙ ap (λ (ts : List ItemTree). program_at ts main) q))
