-- A parameter of a type that isn't passed.
use Rattle.std.proofs.Common.{◌≡◌, ℕ, Bool, true, false, if◌then◌else◌, List, Option, Result, Ok, Err, sym, subst}
use Rattle.ep_typing.proofs.Order.{at_ok}
use Rattle.ep_ast.specs.Kind as kinds
use Rattle.ep_ast.specs.declared.refusals.Halt.{Halt}
use Rattle.ep_ast.specs.declared.refusals.Halt.TheVariants as halts
use Rattle.ep_layout.specs.Table.{Table}
use Rattle.ep_typing.specs.declared.types.CType.{CType}
use Rattle.ep_typing.specs.Env.{Env}
use Rattle.ep_typing.specs.Results.{◌>>=◌, at}
use Rattle.ep_typing.specs.Types.{is_aggregate, is_void}
use Rattle.ep_operands.specs.Refinement.{Stops}
use Rattle.ep_elaboration.specs.Functions.{is_name_taken, named_param, param_type, passable, passed_param, with_param}
use Rattle.ep_typer_functions.specs.View.{passable_type}

abbrev chosen : {A : Type 0} → Bool → Bool → A → Result A ℕ
chosen v a x = if v then Err kinds.incomplete_type else if a then Err kinds.struct_by_value else Ok x

chosen_stops : {A B C : Type 0} (x : A) (y : B) (f : B → Result C ℕ) (l : ℕ) (h : Halt) (v a : Bool)
    → Stops (at l (chosen v a x)) h → Stops (at l (chosen v a y >>= f)) h
chosen_stops x y f l halts.Memory v a s = tt
chosen_stops x y f l (halts.Refused r) true a s = cc
chosen_stops x y f l (halts.Refused r) false true s = cc
chosen_stops x y f l (halts.Refused r) false false s = absurd cc

passed_stops : (G : Env) (t : Option (List ℕ)) (b : ℕ) (c d : CType) (ns : Option (List ℕ)) (u : Table) (l : ℕ) (h : Halt)
    → param_type G.types c ns ≡ Ok (d, u) → Stops (at l (passable_type d)) h → Stops (at l (passed_param G t b c ns)) h
passed_stops G t b c d ns u l h e s =
    subst (λ (r : Result (CType × Table) ℕ). Stops (at l (r >>= (λ p. passable G p >>= (λ q. Ok (named_param t b q))))) h) (sym e)
    (chosen_stops d (d, record G { types = u }) (λ (q : CType × Env). Ok (named_param t b q)) l h (is_void d) (is_aggregate d) s)

pub not_passed : (G : Env) (t : Option (List ℕ)) (b : ℕ) (c d : CType) (ns : Option (List ℕ)) (u : Table) (l : ℕ) (h : Halt)
    → is_name_taken G t ≡ false → at l (param_type G.types c ns) ≡ Ok (d, u) → Stops (at l (passable_type d)) h
    → Stops (at l (with_param G t b c ns)) h
unfolding with_param
not_passed G t b c d ns u l h n e s =
    subst (λ (x : Bool). Stops (at l (if x then Err kinds.redeclared else passed_param G t b c ns)) h) (sym n)
    (passed_stops G t b c d ns u l h (at_ok l (param_type G.types c ns) (d, u) e) s)
