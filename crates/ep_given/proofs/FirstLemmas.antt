-- What an object begins as, with what its expression mentions.
use Rattle.std.proofs.Common.{◌≡◌, ℕ, Bool, Option, Some, None, Result, Ok, Err, refl, sym, ap, ◌∙◌, subst}
use Rattle.std.specs.Prelude.{unwrap_or}
use Rattle.ep_ast.specs.declared.refusals.Refusal.{Refusal}
use Rattle.ep_ast.specs.declared.refusals.Halt.{Halt}
use Rattle.ep_ast.specs.declared.refusals.Halt.TheVariants as halts
use Rattle.ep_ast.specs.Declaration.{Value, Values, listed, single}
use Rattle.ep_ast.specs.Expression.{Expr}
use Rattle.ep_core.specs.Program as core
use Rattle.ep_declared.specs.Refinement.{RefinesIn}
use Rattle.ep_elaboration.specs.Declarations as declarations
use Rattle.ep_elaboration.specs.Declarations.{first_given, initialised_by_field}
use Rattle.ep_elaboration.specs.Declarators.{Object}
use Rattle.ep_elaboration.specs.FieldStatements.{field_given}
use Rattle.ep_elaboration.specs.Given.{Given, both_given, expression_given, nothing_given, object_operand, one_given}
use Rattle.ep_elaboration.specs.Given.{value_given}
use Rattle.ep_given.specs.Appended.{alone, behind}
use Rattle.ep_given.proofs.ListLemmas.{same_gives_in}
use Rattle.ep_operands.specs.Refinement.{Refines, Stops, halt_at}
use Rattle.ep_typing.specs.declared.types.FieldRow.{FieldRow}
use Rattle.ep_typing.specs.Env.{Env}
use Rattle.ep_typing.specs.Names.{mentioned}
use Rattle.ep_typing.specs.Results.{◌>>=◌, at, on_statement}
use Rattle.ep_typing.specs.Typing.{field_of}

-- nothing was there before
pub begun : (l : ℕ) (done now : Given) (r : Result Given Refusal) → done ≡ nothing_given
    → behind both_given done r ≡ Ok now → on_statement l r ≡ Ok now
begun l done now (Ok g) d h = ap (λ (p : Given). Ok (both_given p g)) (sym d) ∙ h
begun l done now (Err e) d h = absurd cc

pub begun_stops : (l : ℕ) (done : Given) (r : Result Given Refusal) (f : Halt) → Stops (behind both_given done r) f
    → Stops (on_statement l r) (halt_at l f)
begun_stops l done r halts.Memory h = tt
begun_stops l done (Ok g) (halts.Refused k) h = absurd cc
begun_stops l done (Err j) (halts.Refused k) h = ap (on_statement l) h

module _ (G : Env) (global may_call : Bool) (l : ℕ) (x y : Object) (e : Expr) (done : Given) (same : x ≡ y)
    (none : done ≡ nothing_given) where
  abbrev begins : Object → Result Given Refusal
  begins o = expression_given G global may_call l (Some o) e

  pub value_begins : (now : Given) → behind both_given done (begins x) ≡ Ok now → on_statement l (begins y) ≡ Ok now
  value_begins now h = begun l done now (begins y) none (subst (λ (o : Object). behind both_given done (begins o) ≡ Ok now) same h)

  pub value_stops : (f : Halt) → Stops (behind both_given done (begins x)) f → Stops (on_statement l (begins y)) (halt_at l f)
  value_stops f h = begun_stops l done (begins y) f (subst (λ (o : Object). Stops (behind both_given done (begins o)) f) same h)

refused_same : {A : Type 0} {j k : Refusal} → ◌≡◌ {A = Result A Refusal} (Err j) (Err k) → j ≡ k
refused_same h = cc

stopped : (r : Result core.What Refusal) (e : Halt) → Stops r e → Stops (alone r) e
stopped r halts.Memory h = tt
stopped (Ok x) (halts.Refused k) h = absurd cc
stopped (Err j) (halts.Refused k) h = ap (λ (q : Refusal). Err q) (refused_same h)

module _ (global : Bool) (l : ℕ) (z : core.Place × FieldRow) (x y : Object) (same : x ≡ y) where
  abbrev read : Object → Result core.What Refusal
  read o = at l (field_given global l z (object_operand o))

  pub field_begins : (w : core.What) (done now : Given) → read x ≡ Ok w → done ≡ nothing_given
      → now ≡ both_given done (one_given w) → alone (read y) ≡ Ok now
  field_begins w done now h d n =
      ap alone (sym (ap read same) ∙ h)
      ∙ ap (λ (g : Given). Ok g) (sym (n ∙ ap (λ (g : Given). both_given g (one_given w)) d))

  pub field_stops : (f : Halt) → Stops (read x) f → Stops (alone (read y)) f
  field_stops f h = stopped (read y) f (subst (λ (o : Object). Stops (read o) f) same h)

-- in an environment that stays as it is
with_env : {X Y E : Type 0} (v : X → Y) (G : E) (r : Result Y Refusal) (o : Result X Halt) → Refines v r o
    → RefinesIn v (r >>= (λ y. Ok (y, G))) G o
with_env v G r (Ok x) h = rw h refl
with_env v G r (Err halts.Memory) h = tt
with_env v G r (Err (halts.Refused k)) h = rw h refl

one_step : {X E : Type 0} (v : X → Given) (G : E) (r : Result core.What Refusal) (o : Result X Halt) → Refines v (alone r) o
    → RefinesIn v (r >>= (λ w. Ok (one_given w, G))) G o
one_step v G (Ok w) o h = with_env v G (Ok (one_given w)) o h
one_step v G (Err e) o h = with_env v G (Err e) o h

moved : {Y E : Type 0} (l : ℕ) (G : E) (r : Result Y Refusal)
    → on_statement {A = Y × E} l (r >>= (λ y. Ok (y, G))) ≡ on_statement l r >>= (λ y. Ok (y, G))
moved l G (Ok y) = refl
moved l G (Err e) = refl

module _ {X : Type 0} (v : X → Given) (G : Env) (global may_call : Bool) (l : ℕ) (x : Object) (e : Expr) where
  abbrev stated : Result (Given × Env) Refusal
  stated = first_given G global may_call l x (single e)

  abbrev valued : Env → Result (Given × Env) Refusal
  valued H = expression_given H global may_call l (Some x) e >>= (λ g. Ok (g, H))

  first_is : (H : Env) → H ≡ mentioned G e
      → stated ≡ unwrap_or (declarations.by_field H global l x (field_of H e)) (on_statement l (valued H))
  unfolding initialised_by_field value_given
  first_is H m = rw m refl

  pub begins_as_field : (H : Env) (z : core.Place × FieldRow) (o : Result X Halt) → H ≡ mentioned G e → Some z ≡ field_of H e
      → Refines v (alone (at l (field_given global l z (object_operand x)))) o → RefinesIn v stated H o
  begins_as_field H z o m f h =
      same_gives_in v stated (at l (field_given global l z (object_operand x)) >>= (λ w. Ok (one_given w, H))) H o
      (first_is H m
      ∙ ap (λ (q : Option (core.Place × FieldRow)). unwrap_or (declarations.by_field H global l x q) (on_statement l (valued H)))
      (sym f))
      (one_step v H (at l (field_given global l z (object_operand x))) o h)

  pub begins_as_value : (H : Env) (o : Result X Halt) → H ≡ mentioned G e → None ≡ field_of H e
      → Refines v (on_statement l (expression_given H global may_call l (Some x) e)) o → RefinesIn v stated H o
  begins_as_value H o m f h =
      same_gives_in v stated (on_statement l (expression_given H global may_call l (Some x) e) >>= (λ g. Ok (g, H))) H o
      (first_is H m
      ∙ ap (λ (q : Option (core.Place × FieldRow)). unwrap_or (declarations.by_field H global l x q) (on_statement l (valued H)))
      (sym f) ∙ moved l H (expression_given H global may_call l (Some x) e))
      (with_env v H (on_statement l (expression_given H global may_call l (Some x) e)) o h)

pub begins_as_list : (G : Env) (global may_call : Bool) (l : ℕ) (x : Object) (v : Value) (k : ℕ) (vs : Values) → v ≡ listed k vs
    → first_given G global may_call l x v ≡ on_statement l (value_given G global may_call l (Some x) v)
unfolding initialised_by_field
begins_as_list G global may_call l x v k vs i = rw i refl
