-- Statements and initialisers that read or write a bit-field fit.
use Rattle.std.proofs.Common.{◌≡◌, ℕ, ◌<◌, Bool, true, length, List, Option, Some, option_map}
use Rattle.std.proofs.Common.{unwrap_or, not, Ok, sym, ap, subst, inl, inr}
use Rattle.std.proofs.lemmas.Bool.{and_parts, not-false}
use Rattle.std.proofs.lemmas.Option.{slice_get_within}
use Rattle.ep_int.specs.declared.types.IntType.{IntType}
use Rattle.ep_int.specs.declared.types.Scalar.TheVariants as scalars
use Rattle.ep_ast.specs.Expression as source
use Rattle.ep_layout.specs.Table.{MemberRow, members_of}
use Rattle.ep_layout.proofs.Options.{map_some}
use Rattle.ep_core.specs.Program as core
use Rattle.ep_core.specs.WellFormed.{has_scalar, place_has}
use Rattle.ep_bitfield.specs.Bits.{is_field}
use Rattle.ep_bitfield.specs.Accesses.{reading, writing}
use Rattle.ep_bitfield.specs.Laws.{is_number, is_place_of}
use Rattle.ep_bitfield.proofs.Fits.{reading_fits, writing_fits}
use Rattle.ep_typing.specs.SameTypes.{int_itself}
use Rattle.ep_typing.specs.declared.types.CType.{CType}
use Rattle.ep_typing.specs.declared.types.FieldRow.{FieldRow}
use Rattle.ep_typing.specs.Types.{int_type, is_aggregate, is_pointer, is_scalar, number_in}
use Rattle.ep_typing.specs.Env.{Env}
use Rattle.ep_typing.specs.Fields.{field_at, field_in, field_named, unit_offset}
use Rattle.ep_typing.specs.Operand.{Operand, Value, are_scalars, fitted, function, is_mixed, place, value, value_of}
use Rattle.ep_typing.specs.Typing.{taken}
use Rattle.ep_typing.specs.Rules.{MeansField, is_field as names_field, is_field_behind}
use Rattle.ep_typing.proofs.Order.{meant}
use Rattle.ep_elaboration.specs.FieldStatements.{field_given, field_read, field_written, part_of_unit}
use Rattle.ep_elaboration.specs.FieldRules.{MeansFieldStatement, reads_field, writes_field}
use Rattle.ep_well_formed_laws.specs.Environments.{Covers, IsEnv, IsFieldOf}
use Rattle.ep_well_formed_laws.specs.Operands.{OperandFits, PlaceFits, ValueFits}
use Rattle.ep_well_formed_laws.specs.Statements.{WhatFits, around}
use Rattle.ep_well_formed_laws.proofs.FieldsFit.{field_found}
use Rattle.ep_well_formed_laws.proofs.FieldAccesses.{given_is_read}
use Rattle.ep_well_formed_laws.proofs.Mentions.{AreThere}
use Rattle.ep_well_formed_laws.proofs.Parts.{got_among, member_fits, member_number, value_fits}
use Rattle.ep_well_formed_laws.proofs.Stores.{number_taken}
use Rattle.ep_well_formed_laws.proofs.Tests.{after, both_not, either_way, int_is, some_type_is, unless}
use Rattle.ep_well_formed_laws.proofs.TypedExpressions.{pointed_by_fits, typed_fits}
use Rattle.ep_well_formed_laws.proofs.Values.{scalar_is, self_may_be}

module _ (G : Env) (seen : List ℕ) (h : IsEnv G) (covers : Covers seen G) (some : 0 < length G.types.types) (result : Option ℕ) where
  abbrev O : Operand → Type 0
  O = OperandFits G.types G.blocks G.functions seen

  abbrev p : core.Program
  p = around G.types G.blocks

  -- ---- units

  -- a bit-field whose unit is a place of its type
  record IsUnit (z : core.Place × FieldRow) : Type 0 where
    room : is_field (part_of_unit z.1) ≡ true
    there : is_place_of p seen z.1.t z.0 ≡ true

  unit_fits : (a : core.Place) (c : CType) (f : FieldRow) → PlaceFits G.types G.blocks seen a c → is_aggregate c ≡ true
      → IsFieldOf G.types (number_in c.base) f → IsUnit (field_at G.types a (number_in c.base) f)
  unit_fits a c f k q i =
      let m = i.member in
      let among = got_among (members_of G.types (number_in c.base)) f.unit m i.here in
      let n = member_number G.types h.declared.table (number_in c.base) m among in
      let fits = member_fits G.types G.blocks G.functions seen h.declared.table some a c m k q among in
      let has = fits.has m.ty (rw n (self_may_be m.ty)) in
      let offset : unit_offset G.types (number_in c.base) f ≡ m.offset =
      ap (λ (o : Option MemberRow). unwrap_or (option_map (λ (x : MemberRow). x.offset) o) 0) i.here in
      record {
        room = i.room;
        there = subst (λ (j : ℕ). is_place_of p seen f.t (core.member a j) ≡ true) (sym offset)
            (some_type_is G.types G.blocks seen (λ u. has_scalar u (scalars.Int f.t))
            (place_has G.types G.blocks seen (core.member a m.offset)) m.ty
            (slice_get_within G.types.types m.ty _ i.integer) (rw i.integer (int_itself f.t)) has);
      }

  found_fits : (x : Operand) (n : List ℕ) (z : core.Place × FieldRow) → O x → field_in G x n ≡ Some z → IsUnit z
  unfolding field_in
  found_fits (place a c) n z k e = elim (either_way (is_aggregate c) _ _ (Some z) e) [
    | inl q ↦
        let f = map_some (field_at G.types a (number_in c.base)) (field_named G.fields (number_in c.base) n) z q.1 in
        subst IsUnit f.2
        (unit_fits a c f.0 k q.0 (field_found G.types G.fields (number_in c.base) n f.0 h.declared.fields f.1))
    | inr q ↦ absurd (let r = q.1 in cc)
  ]
  found_fits (value v) n z k e = absurd cc
  found_fits (function f) n z k e = absurd cc

  field_fits : (e : source.Expr) (z : core.Place × FieldRow) → AreThere G e → MeansField G e z → IsUnit z
  field_fits e z t (names_field {a = a} {n = n} x m q) =
      found_fits x n z (typed_fits G seen h covers some a x t (meant G a x m)) q
  field_fits e z t (is_field_behind {a = a} {n = n} x y m q r) =
      found_fits y n z (pointed_by_fits G seen h covers some x y (typed_fits G seen h covers some a x t (meant G a x m)) q) r

  -- ---- statements

  read_fits : (l : ℕ) (z : core.Place × FieldRow) (x : Operand) (w : core.What) → IsUnit z → O x
      → field_read l z x ≡ Ok w → (i : Bool) → WhatFits G.types G.blocks G.functions result w seen i
  unfolding field_read
  read_fits l z x w u k e i =
      let d = after (taken x (int_type z.1.t)) _ w e in
      let same : reading l z.0 (part_of_unit z.1) d.0 ≡ w = (let q = d.2 in cc) in
      let n = number_taken G.types G.blocks seen h.declared.table some G.functions result x z.1.t d.0 k d.1 in
      let fits = reading_fits p 0 result seen i l z.0 (part_of_unit z.1) d.0 n.kind u.room u.there n.what n.there in
      let both = and_parts _ _ fits in
      subst (λ (v : core.What). WhatFits G.types G.blocks G.functions result v seen i) same
      (((and_parts _ _ both.0).0, tt), ((and_parts _ _ both.1).0, tt))

  -- what fits an integer type without a null pointer is a number
  number_fits : (j : IntType) (v : Value) (e : core.Expr) → ValueFits G.types G.blocks seen v
      → fitted (int_type j) v ≡ Ok e → is_number p seen v.expr ≡ true
  unfolding fitted
  number_fits j v e k q =
      let a = unless (not (are_scalars (int_type j) v.ty)) 32 _ e q in
      let b = unless (is_mixed (int_type j) v) 34 _ e a.1 in
      let s = and_parts (is_scalar (int_type j)) (is_scalar v.ty) (not-false (are_scalars (int_type j) v.ty) a.0) in
      elim (scalar_is v.ty s.1) [
        | inl c ↦ both_not (is_pointer v.ty) c b.0
        | inr c ↦ int_is G.types G.blocks seen v.expr _ (k.number c.1)
      ]

  written_fits : (l : ℕ) (z : core.Place × FieldRow) (y : Operand) (w : core.What) → IsUnit z → O y
      → field_written G.types l z y ≡ Ok w → (i : Bool) → WhatFits G.types G.blocks G.functions result w seen i
  unfolding field_written
  written_fits l z y w u k e i =
      let v = after (value_of G.types y) _ w e in
      let f = after (fitted (int_type z.1.t) v.0) _ w v.2 in
      let same : writing l z.0 (part_of_unit z.1) v.0.expr ≡ w = (let q = f.2 in cc) in
      let n = number_fits z.1.t v.0 f.0
      (value_fits G.types G.blocks G.functions seen h.declared.table some y v.0 k v.1) f.1 in
      let fits = writing_fits p 0 result seen i l z.0 (part_of_unit z.1) v.0.expr u.room u.there n in
      let both = and_parts _ _ fits in
      subst (λ (v : core.What). WhatFits G.types G.blocks G.functions result v seen i) same
      (((and_parts _ _ both.0).0, tt), ((and_parts _ _ both.1).0, tt))

  pub field_statement_fits : (l : ℕ) (e : source.Expr) (w : core.What) → AreThere G e → MeansFieldStatement G l e w
      → (i : Bool) → WhatFits G.types G.blocks G.functions result w seen i
  field_statement_fits l e w t (reads_field {a = a} {b = b} x z v m n q r) i =
      read_fits l z x w (field_fits b z t.1 q) (typed_fits G seen h covers some a x t.0 (meant G a x n)) r i
  field_statement_fits l e w t (writes_field {a = a} {b = b} z y v m q n r) i =
      written_fits l z y w (field_fits a z t.0 q) (typed_fits G seen h covers some b y t.1 (meant G b y n)) r i

  pub field_given_fits : (global : Bool) (l : ℕ) (e : source.Expr) (z : core.Place × FieldRow) (x : Operand)
      (w : core.What) → AreThere G e → MeansField G e z → O x → field_given global l z x ≡ Ok w
      → (i : Bool) → WhatFits G.types G.blocks G.functions result w seen i
  field_given_fits global l e z x w t m k q i =
      read_fits l z x w (field_fits e z t m) k (given_is_read global l z x w q).1 i
