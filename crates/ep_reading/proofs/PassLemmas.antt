-- What an answer says of a caller's answer.
use Rattle.std.proofs.Common.{ℕ, Bool, List}
use Rattle.std.specs.Prelude.{Result, Ok, Err}
use Rattle.ep_ast.specs.declared.refusals.Halt.{Halt}
use Rattle.ep_ast.specs.declared.refusals.Halt.TheVariants as halts
use Rattle.ep_ast.specs.Token.{Tok}
use Rattle.ep_ast.specs.Grammar.{Rule}
use Rattle.ep_ast.specs.Reading.{Refuses, Takes, TakesNone, Halts, Stops}
use Rattle.ep_reading.specs.declared.reader.Part.{Part}
use Rattle.ep_reading.specs.Answer.{after, Parses}

pub passes : (N : List ℕ → Bool) (r s : Rule) (ys xs : List Tok) (e : Halt)
    → (Refuses N r ys → Refuses N s xs) → Halts N r ys e → Halts N s xs e
passes N r s ys xs (halts.Refused f) g h = (g h.0, h.1)
passes N r s ys xs halts.Memory g h = tt

pub stops_halt : {T : Type 0} (P : List Tok → List Tok → T → Type 0) (N : List ℕ → Bool) (s : Rule) (ys xs : List Tok)
    (e : Halt)
    → (TakesNone P ys → Refuses N s xs) → Stops P ys e → Halts N s xs e
stops_halt P N s ys xs (halts.Refused f) g h = (g h.0, h.1)
stops_halt P N s ys xs halts.Memory g h = tt

pub halts_stop : {T : Type 0} (N : List ℕ → Bool) (r : Rule) (P : List Tok → List Tok → T → Type 0) (ys xs : List Tok)
    (e : Halt)
    → (Refuses N r ys → TakesNone P xs) → Halts N r ys e → Stops P xs e
halts_stop N r P ys xs (halts.Refused f) g h = (g h.0, h.1)
halts_stop N r P ys xs halts.Memory g h = tt

pub stops_stop : {S T : Type 0} (P : List Tok → List Tok → S → Type 0) (Q : List Tok → List Tok → T → Type 0)
    (ys xs : List Tok) (e : Halt)
    → (TakesNone P ys → TakesNone Q xs) → Stops P ys e → Stops Q xs e
stops_stop P Q ys xs (halts.Refused f) g h = (g h.0, h.1)
stops_stop P Q ys xs halts.Memory g h = tt

-- a whole answer handed on, where the value becomes another
pub parses_parses : {K S T : Type 0} (Shows : K → S → Type 0) (Other : K → T → Type 0)
    (P : List Tok → List Tok → S → Type 0) (Q : List Tok → List Tok → T → Type 0) (ys xs : List Tok) (f : S → T)
    (r : Result (Part K) Halt)
    → ((k : K) (v : S) → Shows k v → Other k (f v)) → ((v : S) (zs : List Tok) → Takes P ys v zs → Takes Q xs (f v) zs)
    → (TakesNone P ys → TakesNone Q xs) → Parses Shows P ys r → Parses Other Q xs r
parses_parses Shows Other P Q ys xs f (Ok p) s t n h =
    record { value = f h.value; shows = s p.value h.value h.shows; takes = t h.value (after p) h.takes }
parses_parses Shows Other P Q ys xs f (Err e) s t n h = stops_stop P Q ys xs e n h
