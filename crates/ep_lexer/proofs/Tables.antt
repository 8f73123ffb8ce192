-- The table of constants as the list of its entries.
use Rattle.std.proofs.Common.{◌≡◌, ℕ, Bool, true, false, cond, List, [], ◌∷◌, ◌++◌, map, Option, Some, None, refl, ap}
use Rattle.std.specs.Str.{bytes_eq}
use Rattle.std.specs.Global.{Vec}
use Rattle.std.specs.Map.{lookup}
use Rattle.indexmap.specs.IndexMap.{insert_entry}
use Rattle.ep_ast.specs.declared.expressions.Literal.{Literal}
use Rattle.ep_ast.specs.Cut.{Constants, constant}

abbrev pub entry : Vec ℕ × Literal → List ℕ × Literal
entry e = (e.0.items, e.1)

pub looks : (t : List ℕ) (es : List (Vec ℕ × Literal)) → lookup (λ k. bytes_eq t k.items) es ≡ constant (map entry es) t
looks t [] = refl
looks t (e ∷ es) = ap (λ (r : Option Literal). cond (bytes_eq t e.0.items) (Some e.1) r) (looks t es)

step : (b : Bool) (t : List ℕ) (e : Vec ℕ × Literal) (x : Literal) (o : Option Literal) (xs ys : List (Vec ℕ × Literal))
    (zs : Constants)
    → cond b (Some x) o ≡ None → (o ≡ None → map entry ys ≡ zs) → map entry (cond b xs (e ∷ ys)) ≡ entry e ∷ zs
step true t e x o xs ys zs h f = absurd cc
step false t e x o xs ys zs h f = ap (λ (ws : Constants). entry e ∷ ws) (f h)

pub added : (k : Vec ℕ) (v : Literal) (es : List (Vec ℕ × Literal)) → constant (map entry es) k.items ≡ None
    → map entry (insert_entry (λ p q. bytes_eq p.items q.items) es k v) ≡ map entry es ++ (k.items, v) ∷ []
added k v [] h = refl
added k v (e ∷ es) h =
    step (bytes_eq k.items e.0.items) k.items e e.1 (constant (map entry es) k.items) ((e.0, v) ∷ es)
    (insert_entry (λ p q. bytes_eq p.items q.items) es k v)
    (map entry es ++ (k.items, v) ∷ []) h (added k v es)
