-- Statements that read or write a bit-field are plain, call nothing and have no scopes.
use Rattle.std.proofs.Common.{◌≡◌, ℕ, Bool, true, false, [], Ok, refl, subst}
use Rattle.ep_ast.specs.Expression as source
use Rattle.ep_layout.specs.Table.{Table}
use Rattle.ep_core.specs.Program as core
use Rattle.ep_core.specs.WellFormed.{is_plain, scoped_in}
use Rattle.ep_bitfield.specs.declared.field.Field.{Field}
use Rattle.ep_bitfield.specs.Accesses.{reading, writing}
use Rattle.ep_typing.specs.declared.types.FieldRow.{FieldRow}
use Rattle.ep_typing.specs.Types.{int_type}
use Rattle.ep_typing.specs.Env.{Env}
use Rattle.ep_typing.specs.Operand.{Operand, fitted, value_of}
use Rattle.ep_typing.specs.Typing.{taken}
use Rattle.ep_elaboration.specs.FieldStatements.{field_given, field_read, field_written, part_of_unit}
use Rattle.ep_elaboration.specs.FieldRules.{MeansFieldStatement, reads_field, writes_field}
use Rattle.ep_well_formed_laws.proofs.Tests.{after, unless}

-- reads or writes a bit-field
pub data IsAccess : core.What → Type 0 where
  a_reading : (l : ℕ) (unit : core.Place) (f : Field) (d : core.Dest) → IsAccess (reading l unit f d)
  a_writing : (l : ℕ) (unit : core.Place) (f : Field) (e : core.Expr) → IsAccess (writing l unit f e)

read_access : (l : ℕ) (z : core.Place × FieldRow) (x : Operand) (w : core.What) → field_read l z x ≡ Ok w → IsAccess w
unfolding field_read
read_access l z x w e =
    let d = after (taken x (int_type z.1.t)) _ w e in
    let same : reading l z.0 (part_of_unit z.1) d.0 ≡ w = (let q = d.2 in cc) in
    subst IsAccess same (a_reading l z.0 (part_of_unit z.1) d.0)

written_access : (t : Table) (l : ℕ) (z : core.Place × FieldRow) (y : Operand) (w : core.What)
    → field_written t l z y ≡ Ok w → IsAccess w
unfolding field_written
written_access t l z y w e =
    let v = after (value_of t y) _ w e in
    let f = after (fitted (int_type z.1.t) v.0) _ w v.2 in
    let same : writing l z.0 (part_of_unit z.1) v.0.expr ≡ w = (let q = f.2 in cc) in
    subst IsAccess same (a_writing l z.0 (part_of_unit z.1) v.0.expr)

pub statement_access : (G : Env) (k : ℕ) (e : source.Expr) (w : core.What) → MeansFieldStatement G k e w → IsAccess w
statement_access G k e w (reads_field x z v m p q r) = read_access k z x w r
statement_access G k e w (writes_field z y v m p q r) = written_access G.types k z y w r

-- as a first value, of what isn't global
pub given_is_read : (global : Bool) (l : ℕ) (z : core.Place × FieldRow) (x : Operand) (w : core.What)
    → field_given global l z x ≡ Ok w → (global ≡ false) × (field_read l z x ≡ Ok w)
unfolding field_given
given_is_read global l z x w e =
    let v = after (field_read l z x) _ w e in
    let g = unless global 45 (Ok v.0) w v.2 in
    let same : v.0 ≡ w = (let q = g.1 in cc) in
    (g.0, subst (λ (u : core.What). field_read l z x ≡ Ok u) same v.1)

pub given_access : (global : Bool) (l : ℕ) (z : core.Place × FieldRow) (x : Operand) (w : core.What)
    → field_given global l z x ≡ Ok w → IsAccess w
given_access global l z x w e = read_access l z x w (given_is_read global l z x w e).1

pub access_plain : (w : core.What) → IsAccess w → is_plain w ≡ true
access_plain w (a_reading l unit f d) = refl
access_plain w (a_writing l unit f e) = refl

pub access_flat : (w : core.What) → IsAccess w → scoped_in w ≡ []
access_flat w (a_reading l unit f d) = refl
access_flat w (a_writing l unit f e) = refl
