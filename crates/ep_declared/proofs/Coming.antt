-- Tables and environments come from others by what is declared.
use Rattle.std.proofs.Common.{◌≡◌, ℕ, Bool, List, [], ◌∷◌, ◌++◌, Result, Err, refl, sym, subst}
use Rattle.std.proofs.lemmas.List.{append-nil}
use Rattle.ep_ast.specs.declared.refusals.Halt.{Halt}
use Rattle.ep_ast.specs.Expression.{Expr, TypeWord}
use Rattle.ep_layout.specs.declared.types.Ty.{Ty}
use Rattle.ep_layout.specs.Grown.{GrownFrom, itself, aggregate_more}
use Rattle.ep_layout.specs.Table.{Table, declared, type_added}
use Rattle.ep_layout.proofs.Grown.{grown_on}
use Rattle.ep_typing.specs.declared.types.CType.{CType}
use Rattle.ep_typing.specs.Env.{Env, Meaning, Scope, with_tag}
use Rattle.ep_typing.specs.Names.{mentioned, mentioned_words}
use Rattle.ep_typing.specs.Types.{with_c_type}
use Rattle.ep_elaboration.specs.Declarators.{name_in, with_name}
use Rattle.ep_scopes.specs.Comes.{Comes, ScopesCome, same, gained}
use Rattle.ep_scopes.proofs.Coming.{comes_on, comes_tag, comes_types, mentioned_comes, row_grown}
use Rattle.ep_scopes.proofs.Coming.{type_grown, words_come}
use Rattle.ep_declared.specs.Refinement.{OnAnswer}
use Rattle.ep_declared.proofs.Answering.{answered, on_answer, on_stop}

-- ---- tables

pub added_grown : (t u : Table) (ty : Ty) → u ≡ type_added t ty → GrownFrom t u
added_grown t u ty e = subst (GrownFrom t) (sym e) (row_grown t ty)

pub grown_by_type : (t u : Table) (c : CType) → u ≡ with_c_type t c → GrownFrom t u
grown_by_type t u c e = subst (GrownFrom t) (sym e) (type_grown t c)

pub left_alone : {X : Type 0} (r : Result X Halt) (t u : Table) → u ≡ t → OnAnswer r (GrownFrom t u)
left_alone r t u e = answered r (GrownFrom t u) (subst (GrownFrom t) (sym e) itself)

pub grown_behind : {X : Type 0} (r : Result X Halt) (t u v : Table) → GrownFrom t u → OnAnswer r (GrownFrom u v)
    → OnAnswer r (GrownFrom t v)
grown_behind r t u v g h = on_answer r (GrownFrom u v) (GrownFrom t v) (λ k. grown_on t u v g k) h

-- what a call's refusal is handed on as, whatever it would have answered
pub grown_stop : (e : Halt) (t u v : Table) → GrownFrom t u → OnAnswer {X = Unit {0}} (Err e) (GrownFrom u v)
    → OnAnswer {X = Unit {0}} (Err e) (GrownFrom t v)
grown_stop e t u v g h =
    on_stop (Unit {0}) (Unit {0}) e (GrownFrom u v) (GrownFrom t v) (λ k. grown_on t u v g k) h

-- ---- environments

pub come_behind : {X : Type 0} (r : Result X Halt) (G H I : Env) → Comes G H → OnAnswer r (Comes H I)
    → OnAnswer r (Comes G I)
come_behind r G H I c h = on_answer r (Comes H I) (Comes G I) (λ d. comes_on G H I c d) h

pub come_stop : (e : Halt) (G H I : Env) → Comes G H → OnAnswer {X = Unit {0}} (Err e) (Comes H I)
    → OnAnswer {X = Unit {0}} (Err e) (Comes G I)
come_stop e G H I c h =
    on_stop (Unit {0}) (Unit {0}) e (Comes H I) (Comes G I) (λ d. comes_on G H I c d) h

pub come_answered : {X : Type 0} (r : Result X Halt) (G H : Env) → Comes G H → OnAnswer r (Comes G H)
come_answered r G H c = answered r (Comes G H) c

pub words_left : (G H : Env) (ws : List TypeWord) → H ≡ mentioned_words G ws → Comes G H
words_left G H ws e = subst (Comes G) (sym e) (words_come G ws)

pub mentioned_left : (G H : Env) (x : Expr) → H ≡ mentioned G x → Comes G H
mentioned_left G H x e = subst (Comes G) (sym e) (mentioned_comes G x)

pub type_left : (G : Env) (u : Table) (c : CType) → u ≡ with_c_type G.types c → Comes G (record G { types = u })
type_left G u c e = comes_types G u (grown_by_type G.types u c e)

pub aggregate_left : (G : Env) (u : Table) (tag : List ℕ) (is_union : Bool) → u ≡ declared G.types tag is_union
    → Comes G (record G { types = u })
aggregate_left G u tag is_union e =
    comes_types G u (subst (GrownFrom G.types) (sym e) (aggregate_more G.types tag is_union itself))

pub tag_left : (G H : Env) (tag : List ℕ) (is_union : Bool) → H ≡ with_tag G tag is_union → Comes G H
tag_left G H tag is_union e = subst (Comes G) (sym e) (comes_tag G tag is_union)

name_gained : (ss : List Scope) (t : List ℕ) (m : Meaning) → ScopesCome ss (name_in ss t m)
name_gained [] t m = same []
name_gained (s ∷ ss) t m =
    gained s (record s { names = s.names ++ (t, m) ∷ [] }) ss
    (record { names = ((t, m) ∷ [], refl); tags = ([], append-nil s.tags) })

pub named_comes : (G : Env) (t : List ℕ) (m : Meaning) → Comes G (with_name G t m)
named_comes G t m = record {
  types = itself;
  fields = λ h. (h, ([], append-nil G.fields));
  scopes = name_gained G.scopes t m;
  blocks = refl;
  functions = refl;
}
