-- A function from its head, its name and its body.
use Rattle.std.proofs.Common.{◌≡◌, ℕ, Bool, false, true, List, [], ◌∷◌, ◌++◌, drop, length, Result, Ok, Err}
use Rattle.std.proofs.Common.{refl, sym, ap, ◌∙◌}
use Rattle.ep_ast.specs.declared.refusals.Refusal.{Refusal}
use Rattle.ep_ast.specs.Statement.{Function, to_parts}
use Rattle.ep_core.specs.Program as core
use Rattle.ep_typing.specs.Env.{Env, Meaning, Scope, variable, function, type_name}
use Rattle.ep_typing.specs.Results.{◌>>=◌, at}
use Rattle.ep_elaboration.specs.Declarations.{Line}
use Rattle.ep_elaboration.specs.Functions.{Headed, Typed, blocks_if, body_env, function_declared}
use Rattle.ep_elaboration.specs.FunctionSteps.{function_typed}
use Rattle.ep_elaboration.specs.Functions.{headed, results, signature_of}
use Rattle.ep_elaboration.specs.Statements.{block_of, blocks_behind, blocks_of, innermost, left, parts, to_core}
use Rattle.ep_scopes.specs.View as view
use Rattle.ep_typer_functions.specs.BodyView.{named_outside}
use Rattle.ep_typer_functions.proofs.Outside.{same_outer}

same_innermost : (G : Env) → view.innermost G.scopes ≡ innermost G
same_innermost G = by G.scopes
  where
    by : (ss : List Scope)
        → view.innermost ss ≡ innermost (record G { scopes = ss })
    by [] = refl
    by (s ∷ ss) = refl

same_block : (m : Meaning) → view.block_of m ≡ block_of m
same_block (variable b c) = refl
same_block (function n) = refl
same_block (type_name c) = refl

same_blocks : (xs : List (List ℕ × Meaning)) → view.blocks_of xs ≡ blocks_of xs
same_blocks [] = refl
same_blocks (x ∷ xs) =
    ap (λ (bs : List ℕ). bs ++ view.blocks_of xs) (same_block x.1)
    ∙ ap (λ (bs : List ℕ). block_of x.1 ++ bs) (same_blocks xs)

through : {Y : Type 0} (o : Result (ℕ × Env) Refusal) (g : Env → Env) (k : ℕ × Env → Result Y Refusal)
    → (o >>= (λ (n : ℕ × Env). k (n.0, g n.1))) ≡ ((o >>= (λ (n : ℕ × Env). Ok (n.0, g n.1))) >>= k)
through (Ok n) g k = refl
through (Err r) g k = refl

module _ (G : Env) (b : ℕ) (own : Bool) (ds : List ℕ) (f : Function) (r : Headed) (E : Env)
    (h : headed G b f.head ≡ Ok (r, E)) where
  abbrev finished : ℕ → (locals : List ℕ) → core.Stmts → Typed
  finished n bs ss = record { number = n; head = r; body = record { line = f.body.line; locals = bs; stmts = ss } }

  abbrev inside : ℕ × Env → Result (Typed × Env) Refusal
  inside q = parts q.1 r.result false (to_parts f.body.parts)
      >>= (λ (a : List Line × Env).
      Ok (finished q.0 (blocks_behind (length (innermost E).names) a.1) (to_core a.0), left a.1))

  opened : function_typed G b own ds f ≡ (named_outside E own ds f.head r >>= inside)
  unfolding function_typed
  opened =
      rw h (through (at f.head.line (function_declared (left E) ds true (signature_of f.head r)))
      (λ (H : Env). body_env (blocks_if own H (results r ++ r.params)) (innermost E)) inside)

  module _ (n : ℕ) (P : Env) (q : named_outside E own ds f.head r ≡ Ok (n, P)) where
    abbrev ended : List Line × Env → Result (Typed × Env) Refusal
    ended a = Ok (finished n (blocks_behind (length (innermost E).names) a.1) (to_core a.0), left a.1)

    named : function_typed G b own ds f ≡ inside (n, P)
    named = opened ∙ ap (λ (o : Result (ℕ × Env) Refusal). o >>= inside) q

    pub typed_is : (A : Env) (ls : List Line) (k : ℕ) (bs : List ℕ) (ss : core.Stmts) (us : List Scope)
        → parts P r.result false (to_parts f.body.parts) ≡ Ok (ls, A) → k ≡ length (view.innermost E.scopes).names
        → bs ≡ view.blocks_of (drop k (view.innermost A.scopes).names) → ss ≡ to_core ls → us ≡ view.outer A.scopes
        → function_typed G b own ds f ≡ Ok (finished n bs ss, record A { scopes = us })
    typed_is A ls k bs ss us m a c s x =
        let first : k ≡ length (innermost E).names = a ∙ ap (λ (t : Scope). length t.names) (same_innermost E) in
        let locals : bs ≡ blocks_behind (length (innermost E).names) A =
        c ∙ same_blocks (drop k (view.innermost A.scopes).names)
        ∙ ap (λ (t : Scope). blocks_of (drop k t.names)) (same_innermost A)
        ∙ ap (λ (j : ℕ). blocks_behind j A) first in
        named ∙ ap (λ (o : Result (List Line × Env) Refusal). o >>= ended) m
        ∙ ap (λ (cs : List ℕ). Ok (finished n cs (to_core ls), left A)) (sym locals)
        ∙ ap (λ (ts : core.Stmts). Ok (finished n bs ts, left A)) (sym s)
        ∙ ap (λ (ts : List Scope). Ok (finished n bs ss, record A { scopes = ts })) (sym (x ∙ same_outer A.scopes))
