-- Bit-fields come to a body that is open.
use Rattle.std.proofs.Common.{◌≡◌, ℕ, ◌<◌, Bool, false, ◌||◌, not, List, [], ◌∷◌, ◌++◌, length, Option, Some, None}
use Rattle.std.proofs.Common.{is_some, Result, Err, sym, ap, subst}
use Rattle.ep_int.specs.declared.types.IntType.{IntType}
use Rattle.ep_ast.specs.declared.refusals.Refusal.{Refusal}
use Rattle.ep_ast.specs.declared.refusals.Halt.{Halt}
use Rattle.ep_ast.specs.declared.refusals.Halt.TheVariants as halts
use Rattle.ep_ast.specs.Expression as source
use Rattle.ep_ast.specs.Kind.{bit_field}
use Rattle.ep_layout.specs.Table.{Table}
use Rattle.ep_core.proofs.Tables.{more_types}
use Rattle.ep_typing.specs.declared.types.CType.{CType}
use Rattle.ep_typing.specs.Env.{Env}
use Rattle.ep_typing.specs.Names.{mentioned}
use Rattle.ep_typing.specs.Operand.{Value}
use Rattle.ep_typing.specs.Results.{◌>>=◌, at, needed}
use Rattle.ep_typing.specs.Types.{c_type_number, int_of, with_c_type}
use Rattle.ep_elaboration.specs.Aggregates.{Named, a_field, field_added, is_field_type, width_in, with_field}
use Rattle.ep_operands.specs.Refinement.{Stops}
use Rattle.ep_scopes.specs.Known.{IsKnown, IsKnownEnv}
use Rattle.ep_declared.specs.Open.{AreTypes, Follows}
use Rattle.ep_declared.proofs.ArrayLemmas.{added_inside}
use Rattle.ep_declared.proofs.Growth.{IsMore, mentioned_more, type_more}
use Rattle.ep_declared.proofs.MemberLemmas.{type_put, types_stay}

pub follows_mentioned : (G H : Env) (e : source.Expr) → H ≡ mentioned G e → IsKnownEnv H → Follows G H
follows_mentioned G H e p k =
    let m : IsMore G.types H.types = subst (λ (K : Env). IsMore G.types K.types) (sym p) (mentioned_more G e) in
    record { known = k; grown = m.grows; stay = m.stay }

-- the types of a body with a bit-field more
pub field_types : (t u : Table) (ms now : Named) (c : CType) (n : Option (List ℕ)) (w k : ℕ) (i : IntType)
    → IsKnown t c → AreTypes t ms → u ≡ with_c_type t c → k ≡ c_type_number u c → now ≡ ms ++ a_field n k i w ∷ []
    → AreTypes u now
field_types t u ms now c n w k i known h p q s =
    let m : IsMore t u = subst (IsMore t) (sym p) (type_more t c) in
    let there : c_type_number u c < length u.types = subst (λ (v : Table). c_type_number v c < length v.types) (sym p)
    (added_inside t c known) in
    let inside : k < length u.types = subst (λ (j : ℕ). j < length u.types) (sym q) there in
    subst (AreTypes u) (sym s) (type_put u ms (a_field n k i w) (types_stay t u (more_types t u m.grows) ms h) inside)

-- a refusal, whatever would have come of it
refused_too : {X Y : Type 0} (q r : Refusal) → ◌≡◌ {A = Result X Refusal} (Err q) (Err r)
    → ◌≡◌ {A = Result Y Refusal} (Err q) (Err r)
refused_too q r h = let e : q ≡ r = cc in ap Err e

-- a width that none can have
module _ (l : ℕ) (G : Env) (u : Bool) (ms : Named) (c : CType) (n : Option (List ℕ)) (v : Result Value ℕ)
    (allowed : (u || not (is_field_type c)) ≡ false) where
  refused_width : (o : Option ℕ) (r : Refusal) → at l (needed bit_field o) ≡ Err r
      → at l (needed bit_field o >>= field_added G ms c n) ≡ Err r
  refused_width None r h = refused_too (record { kind = bit_field; line = l; word = 0 }) r h
  refused_width (Some w) r h = absurd cc

  pub width_stops : (e : Halt) → Stops (at l (needed bit_field (width_in (int_of c) (is_some n) v))) e
      → Stops (at l (with_field G u ms c n v)) e
  unfolding with_field
  width_stops halts.Memory h = tt
  width_stops (halts.Refused r) h = rw allowed (refused_width (width_in (int_of c) (is_some n) v) r h)
