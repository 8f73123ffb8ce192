-- Objects and names of types come into an environment.
use Rattle.std.proofs.Common.{◌≡◌, ℕ, Bool, false, List, [], length, Result, Ok, refl, sym, ap}
use Rattle.ep_typing.proofs.Order.{at_ok}
use Rattle.std.proofs.Common.{◌∙◌, subst}
use Rattle.ep_layout.specs.Table.{Grows, Table}
use Rattle.ep_layout.proofs.Recursion.{kept_by_itself}
use Rattle.ep_core.specs.Program as core
use Rattle.ep_typing.specs.declared.types.CType.{CType}
use Rattle.ep_typing.specs.Env.{Env, variable}
use Rattle.ep_typing.specs.Names.{mentioned_words, named_type, words_type}
use Rattle.ep_typing.specs.Results.{◌>>=◌, at}
use Rattle.ep_typing.specs.Types.{c_type_number, with_c_type, with_stars}
use Rattle.ep_ast.specs.Expression.{TypeWord}
use Rattle.ep_ast.specs.declared.refusals.Refusal.{Refusal}
use Rattle.ep_ast.specs.declared.refusals.Halt.{Halt}
use Rattle.ep_ast.specs.declared.refusals.Halt.TheVariants as halts
use Rattle.ep_operands.specs.Refinement.{Stops}
use Rattle.ep_elaboration.specs.Declarators.{Object, arrays_of, declared_object, declared_type, is_taken, named_type_of}
use Rattle.ep_elaboration.specs.Declarators.{object_of, sized_object, with_block, with_name}
use Rattle.ep_scopes.specs.Known.{IsKnown, IsKnownEnv}
use Rattle.ep_scopes.proofs.KnownLemmas.{named_known, words_known}
use Rattle.ep_declared.specs.Open.{Follows, StaysOpen}
use Rattle.ep_declared.proofs.Growth.{IsMore, follows_table, type_more, words_more}

-- ---- words

pub word_known : (G : Env) (ws : List TypeWord) (c : CType) → IsKnownEnv G → words_type G ws ≡ Ok c → IsKnown G.types c
unfolding named_type
word_known G ws c k h =
    named_known G (record { line = 0; words = ws; stars = [] }) (with_stars c 0) k
    (ap (λ (r : Result CType Refusal). r >>= (λ d. Ok (with_stars d 0))) h)

pub words_follow : (G H : Env) (ws : List TypeWord) → H ≡ mentioned_words G ws → IsKnownEnv G → Follows G H
words_follow G H ws e k =
    let m : IsMore G.types (mentioned_words G ws).types = words_more G ws in
    subst (Follows G) (sym e) (record { known = words_known G ws k; grown = m.grows; stay = m.stay })

pub type_follows : (G : Env) (u : Table) (c : CType) → u ≡ with_c_type G.types c → IsKnownEnv G
    → Follows G (record G { types = u })
type_follows G u c e k =
    let m : IsMore G.types u = subst (IsMore G.types) (sym e) (type_more G.types c) in
    follows_table G u k m.grows m.stay

-- ---- objects

pub same_table : (G H : Env) → H.types ≡ G.types → IsKnownEnv H → Follows G H
same_table G H e k = record {
  known = k;
  grown = subst (Grows G.types) (sym e) (kept_by_itself G.types);
  stay = subst (StaysOpen G.types) (sym e) (λ a h. h);
}

abbrev pub object_in : core.Block → ℕ → CType → Env → Object × Env
object_in x b c G = (record { place = core.block b; block = b; offset = 0; ty = c }, G)

pub object_is : (G H I : Env) (global : Bool) (t : List ℕ) (c : CType) (n b ty : ℕ)
    → ty ≡ c_type_number G.types c → b ≡ length G.blocks → H
    ≡ with_block G (record { size = n; ty = ty; global = global })
    → I ≡ with_name H t (variable b c) → object_of G global t c n
    ≡ object_in (record { size = n; ty = ty; global = global }) b c I
object_is G H I global t c n b ty p q e f =
    ap (λ (k : ℕ). object_in (record { size = n; ty = ty; global = global }) (length G.blocks) c
    (with_name (with_block G (record { size = n; ty = k; global = global })) t (variable (length G.blocks) c))) (sym p)
    ∙ ap (λ (k : ℕ). object_in (record { size = n; ty = ty; global = global }) k c
    (with_name (with_block G (record { size = n; ty = ty; global = global })) t (variable k c))) (sym q)
    ∙ ap (λ (K : Env). object_in (record { size = n; ty = ty; global = global }) b c (with_name K t (variable b c)))
    (sym e)
    ∙ ap (λ (K : Env). object_in (record { size = n; ty = ty; global = global }) b c K) (sym f)

-- ---- behind the type of an array

module _ (l : ℕ) (G : Env) (t : List ℕ) (c d : CType) (ns : List ℕ) (u : Table) (free : is_taken t G.scopes ≡ false)
    (gives : at l (arrays_of G.types c ns) ≡ Ok (d, u)) where
  pub then_object : (global : Bool) → at l (declared_object G global t c ns)
      ≡ at l (sized_object (record G { types = u }) global t (d, u))
  unfolding declared_object sized_object
  then_object global = rw (free, at_ok l (arrays_of G.types c ns) (d, u) gives) refl

  pub object_stops : (global : Bool) (e : Halt) → Stops (at l (sized_object (record G { types = u }) global t (d, u))) e
      → Stops (at l (declared_object G global t c ns)) e
  object_stops global halts.Memory h = tt
  object_stops global (halts.Refused r) h = then_object global ∙ h

  pub then_type : at l (declared_type G t c ns) ≡ at l (named_type_of (record G { types = u }) t (d, u))
  unfolding declared_type
  then_type = rw (free, at_ok l (arrays_of G.types c ns) (d, u) gives) refl
