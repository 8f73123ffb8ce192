-- Statements that read or write a bit-field, by rules without an order, and for what they are refused: the first
-- offence in each, where what stands before it means something. This project's rules, beside C11 6.5.16.
use Rattle.std.specs.Prelude.{◌≡◌, ℕ, Ok, Err}
use Rattle.ep_core.specs.Program as core
use Rattle.ep_ast.specs.Expression.{Expr, assign}
use Rattle.ep_ast.specs.Mark.{equal}
use Rattle.ep_ast.specs.declared.refusals.Refusal.{Refusal}
use Rattle.ep_elaboration.specs.FieldStatements.{field_read, field_written}
use Rattle.ep_typing.specs.declared.types.FieldRow.{FieldRow}
use Rattle.ep_typing.specs.Env.{Env}
use Rattle.ep_typing.specs.Operand.{Operand}
use Rattle.ep_typing.specs.Rules.{Means, MeansField}
use Rattle.ep_typing.specs.Offences.{Offends, refusal}

-- a whole `=` with a bit-field on one side
pub data NamesField : Env → Expr → Type 0 where
  left_field : {G : Env} {l m : ℕ} {a b : Expr} (z : core.Place × FieldRow) → m ≡ equal → MeansField G a z
      → NamesField G (assign l m a b)
  right_field : {G : Env} {l m : ℕ} {a b : Expr} (z : core.Place × FieldRow) → m ≡ equal → MeansField G b z
      → NamesField G (assign l m a b)

-- on this line of the core
pub data MeansFieldStatement : Env → (line : ℕ) → Expr → core.What → Type 0 where
  reads_field : {G : Env} {k l m : ℕ} {a b : Expr} (x : Operand) (z : core.Place × FieldRow) (w : core.What)
      → m ≡ equal → Means G a x → MeansField G b z → field_read k z x ≡ Ok w
      → MeansFieldStatement G k (assign l m a b) w
  writes_field : {G : Env} {k l m : ℕ} {a b : Expr} (z : core.Place × FieldRow) (y : Operand) (w : core.What)
      → m ≡ equal → MeansField G a z → Means G b y → field_written G.types k z y ≡ Ok w
      → MeansFieldStatement G k (assign l m a b) w

pub data FieldStatementOffends : Env → (line : ℕ) → Expr → Refusal → Type 0 where
  in_written : {G : Env} {k l m : ℕ} {a b : Expr} {r : Refusal} (z : core.Place × FieldRow) → m ≡ equal
      → MeansField G a z → Offends G b r → FieldStatementOffends G k (assign l m a b) r
  bad_written : {G : Env} {k l m : ℕ} {a b : Expr} {kind : ℕ} (z : core.Place × FieldRow) (y : Operand) → m ≡ equal
      → MeansField G a z → Means G b y → field_written G.types k z y ≡ Err kind
      → FieldStatementOffends G k (assign l m a b) (refusal kind l)
  in_target : {G : Env} {k l m : ℕ} {a b : Expr} {r : Refusal} (z : core.Place × FieldRow) → m ≡ equal
      → ((y : core.Place × FieldRow) → MeansField G a y → ⊥) → MeansField G b z → Offends G a r
      → FieldStatementOffends G k (assign l m a b) r
  bad_read : {G : Env} {k l m : ℕ} {a b : Expr} {kind : ℕ} (x : Operand) (z : core.Place × FieldRow) → m ≡ equal
      → Means G a x → MeansField G b z → field_read k z x ≡ Err kind
      → FieldStatementOffends G k (assign l m a b) (refusal kind l)
