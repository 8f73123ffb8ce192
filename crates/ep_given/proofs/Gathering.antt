-- What comes behind what is done, one step after another.
use Rattle.std.proofs.Common.{◌≡◌, Result, Ok, Err, refl, sym, ap, ◌∙◌}
use Rattle.ep_ast.specs.declared.refusals.Refusal.{Refusal}
use Rattle.ep_ast.specs.declared.refusals.Halt.{Halt}
use Rattle.ep_ast.specs.declared.refusals.Halt.TheVariants as halts
use Rattle.ep_typing.specs.Results.{◌>>=◌}
use Rattle.ep_operands.specs.Refinement.{Refines, Stops}
use Rattle.ep_declared.specs.Refinement.{RefinesIn}
use Rattle.ep_given.specs.Appended.{all_behind, behind}

abbrev first : {M E : Type 0} → M → Result (M × E) Refusal → M
first d (Ok p) = p.0
first d (Err r) = d

abbrev second : {M E : Type 0} → E → Result (M × E) Refusal → E
second d (Ok p) = p.1
second d (Err r) = d

abbrev alone : {M : Type 0} → M → Result M Refusal → M
alone d (Ok m) = m
alone d (Err r) = d

module _ {M E : Type 0} (both : M → M → M) (assoc : (a b c : M) → both (both a b) c ≡ both a (both b c)) where
  joined : (done : M) (p : M × E) (r : Result (M × E) Refusal)
      → all_behind both done (r >>= (λ q. Ok (both p.0 q.0, q.1))) ≡ all_behind both (both done p.0) r
  joined done p (Ok q) = ap (λ (m : M). Ok (m, q.1)) (sym (assoc done p.0 q.0))
  joined done p (Err e) = refl

  pub went : (done now : M) (G : E) (r : Result (M × E) Refusal) (next : E → Result (M × E) Refusal) → all_behind both done r ≡ Ok (now, G)
      → all_behind both done (r >>= (λ p. next p.1 >>= (λ q. Ok (both p.0 q.0, q.1)))) ≡ all_behind both now (next G)
  went done now G (Ok p) next h =
      joined done p (next p.1) ∙ ap (λ (m : M). all_behind both m (next p.1)) (ap (first done) h)
      ∙ ap (λ (g : E). all_behind both now (next g)) (ap (second p.1) h)
  went done now G (Err e) next h = absurd cc

refused_same : {A : Type 0} {j k : Refusal} → ◌≡◌ {A = Result A Refusal} (Err j) (Err k) → j ≡ k
refused_same h = cc

module _ {M E : Type 0} (both : M → M → M) where
  pub stopped : (done : M) (r : Result (M × E) Refusal) (more : M × E → Result (M × E) Refusal) (e : Halt)
      → Stops (all_behind both done r) e → Stops (all_behind both done (r >>= more)) e
  stopped done r more halts.Memory h = tt
  stopped done (Ok p) more (halts.Refused k) h = absurd cc
  stopped done (Err j) more (halts.Refused k) h = h

  -- a step before all of them that is refused
  pub stopped_before : {A : Type 0} (done : M) (r : Result A Refusal) (more : A → Result (M × E) Refusal) (e : Halt)
      → Stops r e → Stops (all_behind both done (r >>= more)) e
  stopped_before done r more halts.Memory h = tt
  stopped_before done (Ok x) more (halts.Refused k) h = absurd cc
  stopped_before done (Err j) more (halts.Refused k) h = ap (λ (f : Refusal). Err f) (refused_same h)

  -- one step in an environment that stays as it is
  pub in_env : (done now : M) (G : E) (r : Result M Refusal) (o : Result Unit Halt) → Refines (λ _. now) (behind both done r) o
      → RefinesIn (λ _. now) (all_behind both done (r >>= (λ m. Ok (m, G)))) G o
  in_env done now G (Ok m) (Ok u) h = ap (λ (n : M). Ok (n, G)) (ap (alone now) h)
  in_env done now G (Err e) (Ok u) h = absurd cc
  in_env done now G r (Err halts.Memory) h = tt
  in_env done now G (Ok m) (Err (halts.Refused k)) h = absurd cc
  in_env done now G (Err e) (Err (halts.Refused k)) h = ap (λ (f : Refusal). Err f) (refused_same h)
