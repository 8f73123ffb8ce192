-- Functions that may be declared.
use Rattle.std.proofs.Common.{◌≡◌, ℕ, Bool, true, false, cond, List, Option, Some, None, Result, Ok, Err, refl, sym, ap}
use Rattle.std.proofs.Common.{◌∙◌}
use Rattle.ep_typing.specs.Env as rule
use Rattle.ep_typing.specs.Env.{Env, Meaning, Signature, entry}
use Rattle.ep_typing.specs.Results.{at}
use Rattle.ep_typing.proofs.Order.{at_ok}
use Rattle.ep_elaboration.specs.Declarators.{is_taken, with_name}
use Rattle.ep_elaboration.specs.Functions.{file_names, fits_main, function_declared, named_function}
use Rattle.ep_elaboration.specs.Functions.{number_of_function, numbered_function, stands_against}
use Rattle.ep_typer_functions.proofs.Outside.{declared_by}
use Rattle.ep_typer_functions.proofs.Taken.{stands}

-- what a function that may be declared comes to
abbrev come_to : Env → Signature → ℕ × Env
come_to G s =
    named_function s (entry s.name (file_names G)) (numbered_function G s (number_of_function G.functions s.name))

pub may_come : (G : Env) (ds : List ℕ) (w : Bool) (s : Signature) (l : ℕ)
    → stands_against G ds w s (entry s.name (file_names G)) ≡ false → fits_main s ≡ true
    → (x : ℕ × Env) × (at l (function_declared G ds w s) ≡ Ok x)
unfolding function_declared
may_come G ds w s l p q = (come_to G s, rw (p, q) refl)

comes_so : (G : Env) (ds : List ℕ) (w : Bool) (s : Signature) (p : ℕ × Env) → function_declared G ds w s ≡ Ok p
    → come_to G s ≡ p
unfolding function_declared
comes_so G ds w s p e =
    declared_by (stands_against G ds w s (entry s.name (file_names G))) (fits_main s) (come_to G s) p e

came : (G : Env) (ds : List ℕ) (w : Bool) (s : Signature) (l : ℕ) (x : ℕ × Env)
    → at l (function_declared G ds w s) ≡ Ok x → at l (function_declared G ds w s) ≡ Ok (come_to G s)
came G ds w s l x e =
    e ∙ ap (λ (p : ℕ × Env). Ok p) (sym (comes_so G ds w s x (at_ok l (function_declared G ds w s) x e)))

-- its name is there, and it has a number or takes one
pub is_there : (G : Env) (ds : List ℕ) (w : Bool) (s : Signature) (l : ℕ) (x y : ℕ × Env) (m : Meaning)
    → at l (function_declared G ds w s) ≡ Ok x → Some m ≡ entry s.name (file_names G)
    → y ≡ numbered_function G s (number_of_function G.functions s.name) → at l (function_declared G ds w s) ≡ Ok y
is_there G ds w s l x y m e n q =
    came G ds w s l x e
    ∙ ap (λ (o : Option Meaning). Ok (named_function s o (numbered_function G s (number_of_function G.functions s.name)))) (sym n)
    ∙ ap (λ (p : ℕ × Env). Ok p) (sym q)

-- its name comes into the scope
pub comes_in : (G : Env) (ds : List ℕ) (w : Bool) (s : Signature) (l : ℕ) (x : ℕ × Env) (n : ℕ) (H I : Env)
    → at l (function_declared G ds w s) ≡ Ok x → None ≡ entry s.name (file_names G)
    → (n, H) ≡ numbered_function G s (number_of_function G.functions s.name)
    → I ≡ with_name H s.name (rule.function n) → at l (function_declared G ds w s) ≡ Ok (n, I)
comes_in G ds w s l x n H I e o q i =
    came G ds w s l x e
    ∙ ap (λ (o : Option Meaning). Ok (named_function s o (numbered_function G s (number_of_function G.functions s.name)))) (sym o)
    ∙ ap (λ (p : ℕ × Env). Ok (named_function s None p)) (sym q) ∙ ap (λ (J : Env). Ok (n, J)) (sym i)

stood : (a b : Bool) (x p : ℕ × Env) → ◌≡◌ {A = Result (ℕ × Env) ℕ} (cond a (Err 31) (cond b (Ok x) (Err 32))) (Ok p)
    → a ≡ true → ⊥
stood true b x p e h = absurd cc
stood false b x p e h = absurd cc

refused_not : (G : Env) (ds : List ℕ) (w : Bool) (s : Signature) (p : ℕ × Env) → function_declared G ds w s ≡ Ok p
    → stands_against G ds w s (entry s.name (file_names G)) ≡ true → ⊥
unfolding function_declared
refused_not G ds w s p e h =
    stood (stands_against G ds w s (entry s.name (file_names G))) (fits_main s) (come_to G s) p e h

-- a name that isn't there is no built-in one
pub is_free : (G : Env) (ds : List ℕ) (w : Bool) (s : Signature) (l : ℕ) (x : ℕ × Env)
    → at l (function_declared G ds w s) ≡ Ok x → None ≡ entry s.name (file_names G) → is_taken s.name G.scopes ≡ true → ⊥
is_free G ds w s l x e o k =
    refused_not G ds w s x (at_ok l (function_declared G ds w s) x e) (stands G ds w s (sym o) k)
