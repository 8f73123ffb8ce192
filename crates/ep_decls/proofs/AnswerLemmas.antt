-- What an answer says of a caller's answer.
use Rattle.std.proofs.Common.{◌≡◌, Bool, true, false, List, refl, ◌∙◌}
use Rattle.std.specs.Prelude.{not}
use Rattle.ep_ast.specs.declared.refusals.Halt.{Halt}
use Rattle.ep_ast.specs.declared.refusals.Halt.TheVariants as halts
use Rattle.ep_ast.specs.Token.{Tok}
use Rattle.ep_ast.specs.Reading.{Stops}
use Rattle.ep_decls.specs.Answer.{IsMoved}

pub not_true : (b c : Bool) → b ≡ c → not b ≡ true → c ≡ false
not_true b true e h = absurd cc
not_true b false e h = refl

pub not_false : (b c : Bool) → b ≡ c → not b ≡ false → c ≡ true
not_false b true e h = refl
not_false b false e h = absurd cc

-- a refusal may name another line
pub moved_stops : {T : Type 0} (P : List Tok → List Tok → T → Type 0) (xs : List Tok) (e f : Halt)
    → IsMoved e f → Stops P xs e → Stops P xs f
moved_stops P xs (halts.Refused e) (halts.Refused f) m h = (h.0, (m.0 ∙ h.1.0, m.1 ∙ h.1.1))
moved_stops P xs (halts.Refused e) halts.Memory m h = tt
moved_stops P xs halts.Memory (halts.Refused f) m h = absurd m
moved_stops P xs halts.Memory halts.Memory m h = tt
