-- The checks one after another.
use Rattle.std.proofs.Common.{◌≡◌, ℕ, ◌<◌, nat_eq, Bool, true, false, cond, List, [], ◌∷◌, length, Option, Some, None}
use Rattle.ep_int.proofs.Basics.{nat_eq-self}
use Rattle.std.proofs.lemmas.Bool.{or_left, or_right}
use Rattle.std.proofs.Common.{Result, Ok, Err, refl, ap, ◌∙◌, subst, arith}
use Rattle.std.specs.List.{find}
use Rattle.ep_int.specs.Memory.{contains}
use Rattle.ep_ast.specs.declared.refusals.Refusal.{Refusal}
use Rattle.ep_ast.specs.declared.refusals.Halt.{Halt}
use Rattle.ep_ast.specs.declared.refusals.Halt.TheVariants as halts
use Rattle.ep_typing.specs.Results.{◌>>=◌, at, needed}
use Rattle.ep_operands.specs.Refinement.{Stops}
use Rattle.ep_elaboration.specs.Calls.{CallSite, calls_of, function_depth}
use Rattle.ep_elaboration.specs.Functions.{Defined, is_main, numbers_of}
use Rattle.ep_elaboration.specs.Programs.{Sofar, all_fit, all_have_bodies, main_of, none_recurs, not_too_deep}
use Rattle.ep_elaboration.specs.ProgramSteps.{checked}
use Rattle.ep_call_graph.specs.View.{AreBelow}
use Rattle.ep_typer_checks.specs.Checks.{main_in, number_in}

-- ---- main

pub record IsMain (ds : List Defined) (number line : ℕ) : Type 0 where
  pub function : Defined
  pub found : main_of ds ≡ Some function
  pub number_is : function.number ≡ number
  pub line_is : function.function.line ≡ line

pub has_main : (ds : List Defined) (number line : ℕ) → main_in (main_of ds) ≡ Ok (number, line) → IsMain ds number line
has_main ds number line h = at_o (main_of ds) refl h
  where
    at_o : (o : Option Defined) → main_of ds ≡ o → main_in o ≡ Ok (number, line) → IsMain ds number line
    at_o None e k = absurd cc
    at_o (Some d) e k =
        let q : ◌≡◌ {A = ℕ × ℕ} (d.number, d.function.line) (number, line) = cc in
        record { function = d; found = e; number_is = ap (λ (p : ℕ × ℕ). p.0) q; line_is = ap (λ (p : ℕ × ℕ). p.1) q }

found_in : (test : Defined → Bool) (ds : List Defined) (d : Defined) → find test ds ≡ Some d → contains d.number (numbers_of ds) ≡ true
found_in test [] d h = absurd cc
found_in test (x ∷ ds) d h = at_x (test x) h (found_in test ds d)
  where
    at_x : (b : Bool) → cond b (Some x) (find test ds) ≡ Some d
        → (find test ds ≡ Some d → contains d.number (numbers_of ds) ≡ true) → contains d.number (numbers_of (x ∷ ds)) ≡ true
    at_x true k rest =
        let e : x ≡ d = cc in
        subst (λ (y : Defined). contains y.number (numbers_of (x ∷ ds)) ≡ true) e (or_left (nat_eq x.number x.number) (contains x.number (numbers_of ds)) (nat_eq-self x.number))
    at_x false k rest = or_right (nat_eq d.number x.number) (contains d.number (numbers_of ds)) (rest k)

pub main_is_among : (ds : List Defined) (number line : ℕ) → IsMain ds number line → contains number (numbers_of ds) ≡ true
main_is_among ds number line m =
    subst (λ (n : ℕ). contains n (numbers_of ds) ≡ true) m.number_is
    (found_in (λ (d : Defined). is_main d.function.name) ds m.function m.found)

pub some_function : (n f : ℕ) (fs : List ℕ) → contains f fs ≡ true → AreBelow n fs → 0 < n
some_function n f [] h b = absurd cc
some_function n f (x ∷ fs) h b = let l : x < n = b.0 in omega arith

-- ---- the checks

module _ (s : Sofar) (ps : List CallSite) where
  pub main_stops : (e : Halt) → Stops (main_in (main_of s.defined)) e → Stops (number_in (checked s ps)) e
  unfolding checked
  main_stops halts.Memory h = tt
  main_stops (halts.Refused r) h = at_o (main_of s.defined) h
    where
      at_o : (o : Option Defined) → main_in o ≡ Err r
          → number_in (at 1 (needed 36 o) >>= (λ m. all_have_bodies s.defined (calls_of ps) >>= (λ a. none_recurs s m.number (calls_of ps)
          >>= (λ b. at m.function.line (not_too_deep (function_depth ps (length s.env.functions) m.number))
          >>= (λ c. at 1 (all_fit s.env.blocks) >>= (λ d. Ok m)))))) ≡ Err r
      at_o None k = let q : (record { kind = 36; line = 1; word = 0 }) ≡ r = cc in ap (λ (x : Refusal). Err x) q
      at_o (Some d) k = absurd cc

  module _ (number line : ℕ) (m : IsMain s.defined number line) where
    abbrev rest : Result ℕ Refusal
    rest = all_have_bodies s.defined (calls_of ps) >>= (λ a. none_recurs s number (calls_of ps)
        >>= (λ b. at line (not_too_deep (function_depth ps (length s.env.functions) number))
        >>= (λ c. at 1 (all_fit s.env.blocks) >>= (λ d. Ok number))))

    behind_main : number_in (checked s ps) ≡ rest
    unfolding checked
    behind_main =
        ap (λ (o : Option Defined). number_in (at 1 (needed 36 o) >>= (λ m. all_have_bodies s.defined (calls_of ps)
        >>= (λ a. none_recurs s m.number (calls_of ps)
        >>= (λ b. at m.function.line (not_too_deep (function_depth ps (length s.env.functions) m.number))
        >>= (λ c. at 1 (all_fit s.env.blocks) >>= (λ d. Ok m))))))) m.found
        ∙ last m.function
        ∙ ap (λ (n : ℕ). all_have_bodies s.defined (calls_of ps)
        >>= (λ a. none_recurs s n (calls_of ps)
        >>= (λ b. at m.function.function.line (not_too_deep (function_depth ps (length s.env.functions) n))
        >>= (λ c. at 1 (all_fit s.env.blocks) >>= (λ d. Ok n))))) m.number_is
        ∙ ap (λ (l : ℕ). all_have_bodies s.defined (calls_of ps)
        >>= (λ a. none_recurs s number (calls_of ps)
        >>= (λ b. at l (not_too_deep (function_depth ps (length s.env.functions) number))
        >>= (λ c. at 1 (all_fit s.env.blocks) >>= (λ d. Ok number))))) m.line_is
      where
        ends : (f : Defined) (a b c d : Result Bool Refusal)
            → number_in (a >>= (λ x. b >>= (λ y. c >>= (λ z. d >>= (λ w. Ok f)))))
            ≡ (a >>= (λ x. b >>= (λ y. c >>= (λ z. d >>= (λ w. Ok f.number)))))
        ends f (Err e) b c d = refl
        ends f (Ok x) (Err e) c d = refl
        ends f (Ok x) (Ok y) (Err e) d = refl
        ends f (Ok x) (Ok y) (Ok z) (Err e) = refl
        ends f (Ok x) (Ok y) (Ok z) (Ok w) = refl

        last : (f : Defined)
            → number_in (all_have_bodies s.defined (calls_of ps) >>= (λ a. none_recurs s f.number (calls_of ps)
            >>= (λ b. at f.function.line (not_too_deep (function_depth ps (length s.env.functions) f.number))
            >>= (λ c. at 1 (all_fit s.env.blocks) >>= (λ d. Ok f)))))
            ≡ (all_have_bodies s.defined (calls_of ps) >>= (λ a. none_recurs s f.number (calls_of ps)
            >>= (λ b. at f.function.line (not_too_deep (function_depth ps (length s.env.functions) f.number))
            >>= (λ c. at 1 (all_fit s.env.blocks) >>= (λ d. Ok f.number)))))
        last f = ends f (all_have_bodies s.defined (calls_of ps)) (none_recurs s f.number (calls_of ps))
            (at f.function.line (not_too_deep (function_depth ps (length s.env.functions) f.number))) (at 1 (all_fit s.env.blocks))

    pub bodies_stop : (e : Halt) → Stops (all_have_bodies s.defined (calls_of ps)) e → Stops (number_in (checked s ps)) e
    bodies_stop halts.Memory h = tt
    bodies_stop (halts.Refused r) h = behind_main ∙ rw h refl

    module _ (bodies : all_have_bodies s.defined (calls_of ps) ≡ Ok true) where
      pub cycles_stop : (e : Halt) → Stops (none_recurs s number (calls_of ps)) e → Stops (number_in (checked s ps)) e
      cycles_stop halts.Memory h = tt
      cycles_stop (halts.Refused r) h = behind_main ∙ rw (bodies, h) refl

      module _ (acyclic : none_recurs s number (calls_of ps) ≡ Ok true) where
        pub depths_stop : (e : Halt) → Stops (at line (not_too_deep (function_depth ps (length s.env.functions) number))) e
            → Stops (number_in (checked s ps)) e
        depths_stop halts.Memory h = tt
        depths_stop (halts.Refused r) h = behind_main ∙ rw (bodies, acyclic, h) refl

        module _ (shallow : at line (not_too_deep (function_depth ps (length s.env.functions) number)) ≡ Ok true) where
          pub sizes_stop : (e : Halt) → Stops (at 1 (all_fit s.env.blocks)) e → Stops (number_in (checked s ps)) e
          sizes_stop halts.Memory h = tt
          sizes_stop (halts.Refused r) h = behind_main ∙ rw (bodies, acyclic, shallow, h) refl

          pub all_pass : at 1 (all_fit s.env.blocks) ≡ Ok true → number_in (checked s ps) ≡ Ok number
          all_pass h = behind_main ∙ rw (bodies, acyclic, shallow, h) refl
