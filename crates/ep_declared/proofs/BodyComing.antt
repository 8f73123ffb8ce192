-- Environments come from others: by calls one after another, and where a body is closed.
use Rattle.std.proofs.Common.{◌≡◌, ℕ, ◌<◌, Bool, true, false, if◌then◌else◌, List, length, Result, Err, sym, subst}
use Rattle.std.specs.List.{list_any}
use Rattle.ep_ast.specs.declared.refusals.Halt.{Halt}
use Rattle.ep_layout.specs.Grown.{GrownFrom}
use Rattle.ep_layout.specs.Grown.GrownFrom.{itself, members_more}
use Rattle.ep_layout.specs.Table.{Table, completed_with, is_completed}
use Rattle.ep_typing.specs.declared.types.CType.{CType}
use Rattle.ep_typing.specs.Env.{Env, NamedFields}
use Rattle.ep_typing.specs.Fields.{with_fields_of}
use Rattle.ep_typing.specs.Types.{with_c_type}
use Rattle.ep_elaboration.specs.Aggregates.{Named, fields_in, is_field_entry, with_fields}
use Rattle.ep_scopes.specs.Comes.{Comes}
use Rattle.ep_scopes.proofs.Coming.{comes_itself, comes_on, comes_types, fields_come, type_grown}
use Rattle.ep_declared.specs.Refinement.{OnAnswer}
use Rattle.ep_declared.proofs.Answering.{on_stop}

-- ---- one call after others

-- its refusal is handed on
pub stop_comes : (X Y : Type 0) (e : Halt) (G H I : Env) → Comes G H → OnAnswer {X = X} (Err e) (Comes H I)
    → OnAnswer {X = Y} (Err e) (Comes G I)
stop_comes X Y e G H I c h = on_stop X Y e (Comes H I) (Comes G I) (λ d. comes_on G H I c d) h

-- whatever it gives, from an environment that is the same
pub same_before : {X : Type 0} (r : Result X Halt) (G H I : Env) → H ≡ G → OnAnswer r (Comes H I) → OnAnswer r (Comes G I)
same_before r G H I e h = subst (λ (K : Env). OnAnswer r (Comes K I)) e h

-- ---- a body is closed

pub same_comes : (G : Env) (t : Table) → t ≡ G.types → Comes G (record G { types = t })
same_comes G t e = subst (λ (u : Table). Comes G (record G { types = u })) (sym e) (comes_itself G)

module _ (G : Env) (a : ℕ) (es : Named) (ms : List (List ℕ × ℕ)) (lt : a < length G.types.aggregates)
    (none_yet : is_completed G.types a ≡ false) where
  completed_comes : Comes G (record G { types = completed_with G.types a ms; fields = with_fields G.fields a es })
  completed_comes = of (list_any is_field_entry es)
    where
      of : (b : Bool) → Comes G (record G {
        types = completed_with G.types a ms;
        fields = if b then with_fields_of G.fields a (fields_in es) else G.fields;
      })
      of true = fields_come G a ms (fields_in es) lt none_yet
      of false = comes_types G (completed_with G.types a ms) (members_more G.types a ms itself none_yet)

  pub closed_comes : (c : CType) (t v : Table) (fs : List (ℕ × NamedFields)) → t ≡ completed_with G.types a ms
      → fs ≡ with_fields G.fields a es → v ≡ with_c_type t c → Comes G (record G { types = v; fields = fs })
  closed_comes c t v fs p q r =
      let H : Env = record G { types = t; fields = fs } in
      let first : Comes G H = subst (λ (u : Table). Comes G (record G { types = u; fields = fs })) (sym p)
      (subst (λ (xs : List (ℕ × NamedFields)). Comes G (record G {
        types = completed_with G.types a ms;
        fields = xs;
      })) (sym q) completed_comes) in
      comes_on G H (record H { types = v }) first
      (comes_types H v (subst (GrownFrom t) (sym r) (type_grown t c)))
