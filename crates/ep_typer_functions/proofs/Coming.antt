-- Environments that came from others by a type, a name or a scope.
use Rattle.std.proofs.Common.{◌≡◌, ℕ, List, Option, Some, None, sym, ap, subst}
use Rattle.ep_layout.specs.Grown.{GrownFrom}
use Rattle.ep_layout.specs.Table.{Table}
use Rattle.ep_layout.proofs.Grown.{grown_on}
use Rattle.ep_typing.specs.declared.types.CType.{CType}
use Rattle.ep_typing.specs.Env as rule
use Rattle.ep_typing.specs.Env.{Env, Scope, no_names}
use Rattle.ep_typing.specs.Types.{with_c_type}
use Rattle.ep_elaboration.specs.Declarators.{with_types}
use Rattle.ep_elaboration.specs.Functions.{named_param}
use Rattle.ep_elaboration.specs.Statements.{entered, left}
use Rattle.ep_scopes.specs.Comes.{Comes}
use Rattle.ep_scopes.proofs.Coming.{comes_itself, comes_on, comes_types, scope_left, scope_opened, type_grown}
use Rattle.ep_declared.proofs.Coming.{grown_by_type, named_comes}
use Rattle.ep_typer_functions.proofs.Outside.{same_outer}

-- ---- types

pub grown_on_type : (t u v : Table) (c : CType) → GrownFrom t u → v ≡ with_c_type u c → GrownFrom t v
grown_on_type t u v c g e = grown_on t u v g (grown_by_type u v c e)

pub comes_by_type : (G H : Env) (c : CType) → H ≡ with_types G (with_c_type G.types c) → Comes G H
comes_by_type G H c e =
    subst (Comes G) (sym e) (comes_types G (with_c_type G.types c) (type_grown G.types c))

-- ---- names

param_named : (G H : Env) (b : ℕ) (c : CType) (t : Option (List ℕ)) → (c, H) ≡ named_param t b (c, G) → Comes G H
param_named G H b c None e =
    subst (Comes G) (sym (ap (λ (r : CType × Env). r.1) e)) (comes_itself G)
param_named G H b c (Some t) e =
    subst (Comes G) (sym (ap (λ (r : CType × Env). r.1) e)) (named_comes G t (rule.variable b c))

-- a parameter: its types, then its name
pub param_comes : (G H : Env) (u : Table) (b : ℕ) (c : CType) (t : Option (List ℕ)) → GrownFrom G.types u
    → (c, H) ≡ named_param t b (c, record G { types = u }) → Comes G H
param_comes G H u b c t g e =
    let I : Env = record G { types = u } in comes_on G I H (comes_types G u g) (param_named I H b c t e)

-- ---- scopes

pub comes_by_scope : (G H : Env) → H ≡ entered G → Comes G H
comes_by_scope G H e = subst (Comes G) (sym e) (scope_opened G)

-- a result's type, then the scope of the parameters
pub opened_comes : (G H I J : Env) (c : CType) → Comes G H → I ≡ with_types H (with_c_type H.types c) → J ≡ entered I
    → Comes G J
opened_comes G H I J c a e f =
    comes_on G I J (comes_on G H I a (comes_by_type H I c e)) (comes_by_scope I J f)

-- what is left of it where that scope is left
pub left_comes : (G H I J K : Env) (c : CType) → Comes G H → I ≡ with_types H (with_c_type H.types c) → J ≡ entered I
    → Comes J K → Comes G (left K)
left_comes G H I J K c a e f b =
    let inside : Comes (entered I) K = subst (λ (E : Env). Comes E K) f b in
    let out : Comes I (left K) =
    subst (λ (ss : List Scope). Comes I (record K { scopes = ss })) (same_outer K.scopes) (scope_left I K no_names inside) in
    comes_on G I (left K) (comes_on G H I a (comes_by_type H I c e)) out
