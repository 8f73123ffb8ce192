-- Heads where they stand by themselves.
use Rattle.std.proofs.Common.{◌≡◌, ℕ, true, List, length, Result, Ok, Err}
use Rattle.std.proofs.Common.{refl, sym, ap, subst, ◌∙◌}
use Rattle.ep_ast.specs.declared.refusals.Refusal.{Refusal}
use Rattle.ep_ast.specs.declared.refusals.Halt.{Halt}
use Rattle.ep_ast.specs.declared.refusals.Halt.TheVariants as halts
use Rattle.ep_ast.specs.Declaration.{Head}
use Rattle.ep_layout.specs.Table.{Table}
use Rattle.ep_typing.specs.Env.{Env}
use Rattle.ep_typing.specs.Results.{◌>>=◌, at}
use Rattle.ep_operands.specs.Refinement.{Stops}
use Rattle.ep_elaboration.specs.Declarators.{with_types}
use Rattle.ep_elaboration.specs.Functions.{Headed}
use Rattle.ep_elaboration.specs.FunctionSteps.{are_alike, are_typed_alike}
use Rattle.ep_elaboration.specs.Functions.{function_declared, headed}
use Rattle.ep_elaboration.specs.FunctionSteps.{is_alike}
use Rattle.ep_elaboration.specs.Functions.{signature_of}
use Rattle.ep_elaboration.specs.FunctionSteps.{stands_alone}
use Rattle.ep_elaboration.specs.Statements.{left}

-- ---- a head from its parts

module _ (G : Env) (ds : List ℕ) (h : Head) (b : ℕ) (first : b ≡ length G.blocks) where
  abbrev ended : Headed × Env → Result (Headed × Env) Refusal
  ended r = at h.line (function_declared (left r.1) ds true (signature_of h r.0))
      >>= (λ (n : ℕ × Env). Ok (r.0, with_types G r.1.types))

  at_first : stands_alone G ds h ≡ (headed G b h >>= ended)
  at_first = ap (λ (k : ℕ). headed G k h >>= ended) (sym first)

  module _ (r : Headed) (E L : Env) (m : headed G b h ≡ Ok (r, E)) (out : L ≡ left E) where
    abbrev kept : Result (ℕ × Env) Refusal → Result (Headed × Env) Refusal
    kept o = o >>= (λ (n : ℕ × Env). Ok (r, with_types G E.types))

    behind_head : stands_alone G ds h ≡ kept (at h.line (function_declared L ds true (signature_of h r)))
    behind_head =
        at_first ∙ ap (λ (o : Result (Headed × Env) Refusal). o >>= ended) m
        ∙ sym (ap (λ (K : Env). kept (at h.line (function_declared K ds true (signature_of h r)))) out)

    pub alone_is : (x : ℕ × Env) → at h.line (function_declared L ds true (signature_of h r)) ≡ Ok x
        → stands_alone G ds h ≡ Ok (r, with_types G E.types)
    alone_is x k = behind_head ∙ ap kept k

    pub alone_stops : (e : Halt) → Stops (at h.line (function_declared L ds true (signature_of h r))) e
        → Stops (stands_alone G ds h) e
    alone_stops halts.Memory k = tt
    alone_stops (halts.Refused q) k = behind_head ∙ ap kept k

-- ---- two heads

pub first_refused : (G : Env) (ds : List ℕ) (h k : Head) (e : Halt) (r : Refusal) → e ≡ halts.Refused r
    → Stops (stands_alone G ds h) e → true ≡ are_alike G ds h k
unfolding are_alike
first_refused G ds h k e r is stop =
    let refused : stands_alone G ds h ≡ Err r = subst (Stops (stands_alone G ds h)) is stop in
    sym (ap (λ (o : Result (Headed × Env) Refusal). are_typed_alike G ds h o k) refused)

pub compared : (G T : Env) (ds : List ℕ) (h k : Head) (r : Headed) (u : Table) → stands_alone G ds h ≡ Ok (r, with_types G u)
    → T ≡ with_types G u → is_alike h (r, G) k (stands_alone T ds k) ≡ are_alike G ds h k
unfolding are_alike
compared G T ds h k r u e t =
    ap (λ (K : Env). is_alike h (r, G) k (stands_alone K ds k)) t ∙ by (stands_alone (with_types G u) ds k)
    ∙ sym (ap (λ (o : Result (Headed × Env) Refusal). are_typed_alike G ds h o k) e)
  where
    by : (o : Result (Headed × Env) Refusal) → is_alike h (r, G) k o ≡ is_alike h (r, with_types G u) k o
    by (Ok q) = refl
    by (Err s) = refl
