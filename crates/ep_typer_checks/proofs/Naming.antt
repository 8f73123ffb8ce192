-- Statements within so many functions.
use Rattle.std.proofs.Common.{◌≡◌, ℕ, ◌<◌, nat_lt, ltb-true, Bool, true, false, cond, List, [], ◌∷◌, length, map}
use Rattle.std.proofs.Common.{Option, Some, None, refl}
use Rattle.std.specs.Prelude.{unwrap_or}
use Rattle.std.specs.Str.{bytes_eq}
use Rattle.std.specs.List.{position_or_len}
use Rattle.std.specs.Option.{option_map}
use Rattle.ep_typing.specs.Env.{Signature}
use Rattle.ep_elaboration.specs.Calls as rule
use Rattle.ep_elaboration.specs.Programs.{function_number, call_site_of}
use Rattle.ep_call_graph.specs.View.{AreWithin, IsCallee}

module _ (fs : List Signature) (some : 0 < length fs) where
  number_within : (n : ℕ) (b : Bool) → nat_lt n (length fs) ≡ b → unwrap_or (cond b (Some n) None) 0 < length fs
  number_within n true e = ltb-true n (length fs) e
  number_within n false e = some

  pub function_within : (t : List ℕ) → function_number fs t < length fs
  function_within t =
      let n = position_or_len (λ (s : Signature). bytes_eq t s.name) fs in number_within n (nat_lt n (length fs)) refl

  callee_within : (o : Option (List ℕ)) → IsCallee (length fs) (option_map (function_number fs) o)
  callee_within None = tt
  callee_within (Some t) = function_within t

  pub places_within : (ps : List rule.Placed) → AreWithin (length fs) (map (call_site_of fs) ps)
  places_within [] = tt
  places_within (p ∷ ps) = (function_within p.0, (callee_within p.1.callee, places_within ps))
