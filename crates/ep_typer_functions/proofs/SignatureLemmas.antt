-- Functions by their types.
use Rattle.std.proofs.Common.{◌≡◌, ℕ, Bool, ◌&&◌, ◌||◌, List, [], map, Option, Some, None, slice_get, sym, ap, ◌∙◌}
use Rattle.std.specs.Prelude.{not, unwrap_or, option_map}
use Rattle.std.specs.Global.{Vec}
use Rattle.std.proofs.lemmas.Option.{slice_get-map}
use Rattle.ep_int.specs.Memory.{contains}
use Rattle.ep_typing.specs.declared.types.CType.{CType}
use Rattle.ep_typing.specs.Types.{is_same, void_type}
use Rattle.ep_typing.specs.Env as env
use Rattle.ep_typing.specs.Env.{Env, Meaning, Signature}
use Rattle.ep_typing.specs.Calls as calls
use Rattle.ep_elaboration.specs.Functions.{are_same, is_same_signature, is_unlike, stands_against}
use Rattle.ep_scopes.specs.declared.env.FunctionType.{FunctionType}
use Rattle.ep_scopes.specs.View as scopes
use Rattle.ep_typer_functions.specs.View.{signature}

pub like_type : (o : Option Signature) (own ty : FunctionType) (d : Signature) (b : Bool)
    → Some (scopes.function_type own) ≡ option_map scopes.type_of o
    → ((s t : List ℕ) → b ≡ is_same_signature (signature s own) (signature t ty)) → (t : List ℕ)
    → b ≡ is_same_signature (unwrap_or o d) (signature t ty)
like_type None own ty d b e h t = absurd cc
like_type (Some s) own ty d b e h t =
    let same : ◌≡◌ {A = List CType × CType} (own.params.items, own.result) (s.params, s.result) = cc in
    h s.name t ∙ ap (λ (x : List CType × CType). is_same x.1 ty.result && are_same x.0 ty.params.items) same

pub unlike_type : (G : Env) (es : List (Vec ℕ × FunctionType)) (k : Vec ℕ) (own ty : FunctionType) (t : List ℕ) (n : ℕ)
    (o : Option ℕ) (b : Bool) → G.functions ≡ map scopes.signature es → Some n ≡ o → Some (k, own) ≡ slice_get es n
    → ((s u : List ℕ) → b ≡ is_same_signature (signature s own) (signature u ty)) → not b ≡ is_unlike G (signature t ty) o
unlike_type G es k own ty t n o b f e q h =
    let at : slice_get G.functions n ≡ Some (scopes.signature (k, own)) =
    ap (λ (fs : List Signature). slice_get fs n) f ∙ slice_get-map scopes.signature es n
    ∙ sym (ap (option_map scopes.signature) q) in
    ap not (h k.items t)
    ∙ sym (ap (λ (x : Option Signature). not (is_same_signature (unwrap_or x (record { name = []; params = []; result = void_type })) (signature t ty))) at)
    ∙ ap (is_unlike G (signature t ty)) e

pub against_function : (G : Env) (ds : List ℕ) (w a b : Bool) (s : Signature) (n : ℕ) (o : Option Meaning)
    → Some (env.function n) ≡ o → a ≡ is_same_signature (calls.signature G n) s → b ≡ contains n ds
    → (not a || (w && b)) ≡ stands_against G ds w s o
against_function G ds w a b s n o e p q =
    ap (λ (x : Bool). not x || (w && b)) p ∙ ap (λ (y : Bool). not (is_same_signature (calls.signature G n) s) || (w && y)) q
    ∙ ap (stands_against G ds w s) e
