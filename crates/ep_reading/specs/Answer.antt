-- What readers answer: the part that was read, which no other front of the tokens is, or a refusal.
use Rattle.std.specs.Prelude.{◌≡◌, ℕ, ◌<◌, ◌≤◌, length, map, List, Result, Ok, Err}
use Rattle.ep_ast.specs.declared.refusals.Halt.{Halt}
use Rattle.ep_ast.specs.declared.refusals.Halt.TheVariants as halts
use Rattle.ep_ast.specs.Token.{Tok}
use Rattle.ep_ast.specs.Grammar.{expr}
use Rattle.ep_ast.specs.Reading.{Ends, Takes, IsSyntax, Stops}
use Rattle.ep_lexer.specs.Tokens.{view}
use Rattle.ep_reading.specs.declared.reader.Part.{Part}

-- the tokens behind a part
abbrev pub after : {K : Type 0} → Part K → List Tok
after p = map view p.rest.now

-- fewer tokens than so many stand behind, and no more
abbrev pub IsPast : {K : Type 0} → ℕ → Part K → Type 0
IsPast n p = length p.rest.now < n

abbrev pub IsWithin : {K : Type 0} → ℕ → Part K → Type 0
IsWithin n p = length p.rest.now ≤ n

-- ---- by a relation that says where it ends itself

-- a front is read, and this is kept of it
pub record IsTaken {K T : Type 0} (Shows : K → T → Type 0) (P : List Tok → List Tok → T → Type 0) (xs : List Tok)
    (k : K) (ys : List Tok) : Type 0 where
  pub value : T
  pub shows : Shows k value
  pub takes : Takes P xs value ys

abbrev pub Parses : {K T : Type 0} → (K → T → Type 0) → (List Tok → List Tok → T → Type 0) → List Tok
    → Result (Part K) Halt → Type 0
Parses Shows P xs (Ok p) = IsTaken Shows P xs p.value (after p)
Parses Shows P xs (Err e) = Stops P xs e

-- the same where all of it is kept
abbrev pub ParsesAs : {K T : Type 0} → (K → T) → (List Tok → List Tok → T → Type 0) → List Tok → Result (Part K) Halt
    → Type 0
ParsesAs shape P xs (Ok p) = Takes P xs (shape p.value) (after p)
ParsesAs shape P xs (Err e) = Stops P xs e

-- ---- what ends where no expression goes on: values, and declarators with a value

-- the relation holds of the tokens up to ys, and of no other front behind which no expression goes on
pub record TakesEnded {T : Type 0} (P : List Tok → List Tok → T → Type 0) (xs : List Tok) (t : T) (ys : List Tok) : Type
    0 where
  pub holds : P xs ys t
  pub only : (u : T) (zs : List Tok) → P xs zs u → Ends expr zs → (u ≡ t) × (zs ≡ ys)

pub record EndsNone {T : Type 0} (P : List Tok → List Tok → T → Type 0) (xs : List Tok) : Type 0 where
  pub never : (u : T) (zs : List Tok) → P xs zs u → Ends expr zs → ⊥

abbrev pub StopsEnded : {T : Type 0} → (List Tok → List Tok → T → Type 0) → List Tok → Halt → Type 0
StopsEnded P xs (halts.Refused f) = EndsNone P xs × IsSyntax f
StopsEnded P xs halts.Memory = Unit {0}

-- such a front is read, and this is kept of it
pub record IsEnded {K T : Type 0} (Shows : K → T → Type 0) (P : List Tok → List Tok → T → Type 0) (xs : List Tok)
    (k : K) (ys : List Tok) : Type 0 where
  pub value : T
  pub shows : Shows k value
  pub takes : TakesEnded P xs value ys

abbrev pub ParsesEnded : {K T : Type 0} → (K → T → Type 0) → (List Tok → List Tok → T → Type 0) → List Tok
    → Result (Part K) Halt → Type 0
ParsesEnded Shows P xs (Ok p) = IsEnded Shows P xs p.value (after p)
ParsesEnded Shows P xs (Err e) = StopsEnded P xs e
