-- What expressions mean computes what its type says.
use Rattle.std.proofs.Common.{◌≡◌, ℕ, ◌<◌, ◌==◌, List, [], ◌∷◌, length, Option, Some, None, Ok, Err, subst, inl, inr}
use Rattle.ep_ast.specs.Expression as source
use Rattle.ep_core.specs.Program as core
use Rattle.ep_ast.specs.Mark as mark
use Rattle.ep_typing.specs.declared.types.CType.{CType}
use Rattle.ep_typing.specs.Results.{at}
use Rattle.ep_typing.specs.Env.{Env}
use Rattle.ep_typing.specs.Names.{named_type}
use Rattle.ep_typing.specs.Operand.{Operand, Value, value_of}
use Rattle.ep_typing.specs.Operators.{chosen, operated}
use Rattle.ep_typing.specs.Parts.{an_operand, casted, indexable, indexed, named, named_uncalled, numbered, pointed}
use Rattle.ep_typing.specs.Parts.{selected, sized, type_sized, unary_typed}
use Rattle.ep_typing.specs.declared.types.FieldRow.{FieldRow}
use Rattle.ep_typing.specs.Fields.{but_field, field_in, pointed_by, selected_behind, selected_in}
use Rattle.ep_typing.specs.Typing.{callee, cast_to, chosen_from, indexed_by, joined, read_first}
use Rattle.ep_typing.specs.Typing.{typed, typed_all}
use Rattle.ep_typing.specs.Rules.{MeansCallee, is_called_name, is_called_value}
use Rattle.ep_typing.proofs.Order.{at_ok, bind_ok, meant, named_alone}
use Rattle.ep_well_formed_laws.specs.Numbers.{HasNumber}
use Rattle.ep_well_formed_laws.specs.Environments.{CanName, Covers, IsEnv, IsPlaced}
use Rattle.ep_well_formed_laws.specs.Operands.{OperandFits, ValueFits, ValuesFit}
use Rattle.ep_well_formed_laws.proofs.Mentions.{AllThere, AreThere, mentions_none}
use Rattle.ep_well_formed_laws.proofs.Scopes.{looked_up}
use Rattle.ep_well_formed_laws.proofs.Tests.{after, either_way}
use Rattle.ep_well_formed_laws.proofs.Operators.{chosen_fits, operated_fits}
use Rattle.ep_well_formed_laws.proofs.Parts.{casted_fits, indexable_fits, indexable_is, indexed_fits, named_fits}
use Rattle.ep_well_formed_laws.proofs.Parts.{numbered_fits, operand_fits, pointed_fits, selected_fits}
use Rattle.ep_well_formed_laws.proofs.Parts.{sized_fits, type_sized_fits, unary_typed_fits, value_fits, IsIndexed}

module _ (G : Env) (seen : List ℕ) (h : IsEnv G) (covers : Covers seen G) (some : 0 < length G.types.types) where
  abbrev O : Operand → Type 0
  O = OperandFits G.types G.blocks G.functions seen

  abbrev F : Value → Type 0
  F = ValueFits G.types G.blocks seen

  value_at : (l : ℕ) (x : Operand) (v : Value) → O x → at l (value_of G.types x) ≡ Ok v → F v
  value_at l x v f e =
      value_fits G.types G.blocks G.functions seen h.declared.table some x v f (at_ok l (value_of G.types x) v e)

  pub read_first_fits : (m : ℕ) (x y : Operand) → O x → read_first G.types m x ≡ Ok y → O y
  unfolding read_first
  read_first_fits m x y f e = elim (either_way (m == mark.equal) _ _ (Ok y) e) [
    | inl p ↦ let same : x ≡ y = (let q = p.1 in cc) in subst O same f
    | inr p ↦ operand_fits G.types G.blocks G.functions seen h.declared.table some (value_of G.types x) y
        (λ v q. value_fits G.types G.blocks G.functions seen h.declared.table some x v f q) p.1
  ]

  joined_fits : (m : ℕ) (u : Value) (y z : Operand) → F u → O y → joined G.types m u y ≡ Ok z → O z
  unfolding joined
  joined_fits m u y z f k e =
      let v = after (value_of G.types y) (λ v. an_operand (operated G.types m u v)) z e in
      operand_fits G.types G.blocks G.functions seen h.declared.table some (operated G.types m u v.0) z
      (λ w q. operated_fits G.types G.blocks seen h.declared.table some m u v.0 w f
      (value_fits G.types G.blocks G.functions seen h.declared.table some y v.0 k v.1) q) v.2

  chosen_from_fits : (r u : Value) (y z : Operand) → F r → F u → O y → chosen_from G.types r u y ≡ Ok z → O z
  unfolding chosen_from
  chosen_from_fits r u y z d f k e =
      let v = after (value_of G.types y) (λ v. an_operand (chosen r u v)) z e in
      operand_fits G.types G.blocks G.functions seen h.declared.table some (chosen r u v.0) z
      (λ w q. chosen_fits G.types G.blocks seen h.declared.table some r u v.0 w d f
      (value_fits G.types G.blocks G.functions seen h.declared.table some y v.0 k v.1) q) v.2

  cast_to_fits : (c : CType) (x z : Operand) → HasNumber G.types c → O x → cast_to G.types c x ≡ Ok z → O z
  unfolding cast_to
  cast_to_fits c x z n f e =
      let v = after (value_of G.types x) (λ v. an_operand (casted c v)) z e in
      operand_fits G.types G.blocks G.functions seen h.declared.table some (casted c v.0) z
      (λ w q. casted_fits G.types G.blocks G.functions seen h.declared.table some c v.0 w
      (value_fits G.types G.blocks G.functions seen h.declared.table some x v.0 f v.1) n q) v.2

  indexed_by_fits : (u y z : Operand) → O u → IsIndexed G.types G.blocks G.functions seen h.declared.table some u → O y
      → indexed_by G.types u y ≡ Ok z → O z
  unfolding indexed_by
  indexed_by_fits u y z f i k e =
      let v = after (value_of G.types y) (λ v. indexed G.types u v) z e in
      indexed_fits G.types G.blocks G.functions seen h.declared.table some u v.0 z f i
      (value_fits G.types G.blocks G.functions seen h.declared.table some y v.0 k v.1) v.2

  -- a member that is no bit-field
  selected_in_fits : (x : Operand) (n : List ℕ) (z : Operand) → O x → selected_in G x n ≡ Ok z → O z
  unfolding selected_in
  selected_in_fits x n z f e = by (field_in G x n) e
    where
      by : (o : Option (core.Place × FieldRow)) → but_field o (selected G.types x n) ≡ Ok z → O z
      by None q = selected_fits G.types G.blocks G.functions seen h.declared.table some x n z f q
      by (Some y) q = absurd cc

  pub pointed_by_fits : (x y : Operand) → O x → pointed_by G x ≡ Ok y → O y
  pointed_by_fits x y f e =
      let v = after (value_of G.types x) pointed y e in
      pointed_fits G.types G.blocks G.functions seen h.declared.table some v.0 y
      (value_fits G.types G.blocks G.functions seen h.declared.table some x v.0 f v.1) v.2

  selected_behind_fits : (x : Operand) (n : List ℕ) (z : Operand) → O x → selected_behind G x n ≡ Ok z → O z
  unfolding selected_behind
  selected_behind_fits x n z f e =
      let y = after (pointed_by G x) (λ y. selected_in G y n) z e in
      selected_in_fits y.0 n z (pointed_by_fits x y.0 f y.1) y.2

  no_answer : {A : Type 0} (l k : ℕ) (z : Operand) → at l (Err k) ≡ Ok z → A
  no_answer l k z e = absurd cc

  name_fits : (n : List ℕ) (z : Operand) → named G n ≡ Ok z → O z
  name_fits n z e =
      named_fits G.types G.blocks G.functions seen h.declared.table some G n z
      (λ m q. (looked_up (IsPlaced G.types G.blocks G.functions) n G.scopes m h.places q, looked_up (CanName G.blocks seen) n G.scopes m covers q))
      e

  pub typed_fits : (e : source.Expr) (z : Operand) → AreThere G e → typed G e ≡ Ok z → O z
  unfolding typed
  typed_fits (source.assign l m a b) z t e =
      let p = bind_ok (typed G a) _ z e in
      let q = bind_ok (at l (read_first G.types m p.0)) _ z p.2 in
      let r = bind_ok (typed G b) _ z q.2 in no_answer l 19 z r.2
  typed_fits (source.conditional l w a b) z t e =
      let p = bind_ok (typed G w) _ z e in
      let r = bind_ok (at l (value_of G.types p.0)) _ z p.2 in
      let x = bind_ok (typed G a) _ z r.2 in
      let u = bind_ok (at l (value_of G.types x.0)) _ z x.2 in
      let y = bind_ok (typed G b) _ z u.2 in
      chosen_from_fits r.0 u.0 y.0 z (value_at l p.0 r.0 (typed_fits w p.0 t.0 p.1) r.1)
      (value_at l x.0 u.0 (typed_fits a x.0 t.1 x.1) u.1) (typed_fits b y.0 t.2 y.1)
      (at_ok l (chosen_from G.types r.0 u.0 y.0) z y.2)
  typed_fits (source.binary l m a b) z t e =
      let x = bind_ok (typed G a) _ z e in
      let u = bind_ok (at l (value_of G.types x.0)) _ z x.2 in
      let y = bind_ok (typed G b) _ z u.2 in
      joined_fits m u.0 y.0 z (value_at l x.0 u.0 (typed_fits a x.0 t.0 x.1) u.1) (typed_fits b y.0 t.1 y.1)
      (at_ok l (joined G.types m u.0 y.0) z y.2)
  typed_fits (source.cast l n a) z t e =
      let c = bind_ok (named_type G n) _ z e in
      let x = bind_ok (typed G a) _ z c.2 in
      cast_to_fits c.0 x.0 z (t.0 G (mentions_none G h.declared) c.0 c.1) (typed_fits a x.0 t.1 x.1)
      (at_ok l (cast_to G.types c.0 x.0) z x.2)
  typed_fits (source.step l m a) z t e =
      let x = bind_ok (typed G a) _ z e in no_answer l 19 z x.2
  typed_fits (source.unary l m a) z t e =
      let x = bind_ok (typed G a) _ z e in
      unary_typed_fits G.types G.blocks G.functions seen h.declared.table some m x.0 z (typed_fits a x.0 t x.1)
      (at_ok l (unary_typed G.types m x.0) z x.2)
  typed_fits (source.sizeof_expr l a) z t e =
      let x = bind_ok (typed G a) _ z e in
      operand_fits G.types G.blocks G.functions seen h.declared.table some (sized G.types x.0) z
      (λ w q. sized_fits G.types G.blocks G.functions seen h.declared.table some x.0 w q)
      (at_ok l (an_operand (sized G.types x.0)) z x.2)
  typed_fits (source.sizeof_type l n) z t e =
      let c = bind_ok (named_type G n) _ z e in
      operand_fits G.types G.blocks G.functions seen h.declared.table some (type_sized G.types c.0) z
      (λ w q. type_sized_fits G.types G.blocks G.functions seen h.declared.table some c.0 w q)
      (at_ok l (an_operand (type_sized G.types c.0)) z c.2)
  typed_fits (source.index l a b) z t e =
      let x = bind_ok (typed G a) _ z e in
      let u = bind_ok (at l (indexable G.types x.0)) _ z x.2 in
      let y = bind_ok (typed G b) _ z u.2 in
      let k = at_ok l (indexable G.types x.0) u.0 u.1 in
      indexed_by_fits u.0 y.0 z
      (indexable_fits G.types G.blocks G.functions seen h.declared.table some x.0 u.0 (typed_fits a x.0 t.0 x.1) k)
      (indexable_is G.types G.blocks G.functions seen h.declared.table some x.0 u.0 k) (typed_fits b y.0 t.1 y.1)
      (at_ok l (indexed_by G.types u.0 y.0) z y.2)
  typed_fits (source.call l f es) z t e =
      let x = bind_ok (callee G f (typed G f)) _ z e in
      let vs = bind_ok (typed_all G l es) _ z x.2 in no_answer l 18 z vs.2
  typed_fits (source.member l a n) z t e =
      let x = bind_ok (typed G a) _ z e in
      selected_in_fits x.0 n z (typed_fits a x.0 t x.1) (at_ok l (selected_in G x.0 n) z x.2)
  typed_fits (source.arrow l a n) z t e =
      let x = bind_ok (typed G a) _ z e in
      selected_behind_fits x.0 n z (typed_fits a x.0 t x.1) (at_ok l (selected_behind G x.0 n) z x.2)
  typed_fits (source.post_increment l a) z t e =
      let x = bind_ok (typed G a) _ z e in no_answer l 19 z x.2
  typed_fits (source.post_decrement l a) z t e =
      let x = bind_ok (typed G a) _ z e in no_answer l 19 z x.2
  typed_fits (source.id l n) z t e = name_fits n z (named_alone G n z (at_ok l (named_uncalled G n) z e))
  typed_fits (source.number l n) z t e =
      let same : numbered G.types.model n ≡ z = cc in
      subst O same (numbered_fits G.types G.blocks G.functions seen h.declared.table some G.types.model n)

  pub callee_fits : (e : source.Expr) (z : Operand) → AreThere G e → MeansCallee G e z → O z
  callee_fits e z t (is_called_name {t = n} q) = name_fits n z q
  callee_fits e z t (is_called_value m) = typed_fits e z t (meant G e z m)

  pub all_typed_fit : (l : ℕ) (es : source.Exprs) (vs : List Value) → AllThere G es → typed_all G l es ≡ Ok vs
      → ValuesFit G.types G.blocks seen vs
  unfolding typed
  all_typed_fit l source.no_exprs vs t e =
      let same : [] ≡ vs = cc in subst (ValuesFit G.types G.blocks seen) same tt
  all_typed_fit l (source.more_exprs a es) vs t e =
      let x = bind_ok (typed G a) _ vs e in
      let v = bind_ok (at l (value_of G.types x.0)) _ vs x.2 in
      let us = bind_ok (typed_all G l es) _ vs v.2 in
      let same : v.0 ∷ us.0 ≡ vs = (let q = us.2 in cc) in
      subst (ValuesFit G.types G.blocks seen) same
      (value_at l x.0 v.0 (typed_fits a x.0 t.0 x.1) v.1, all_typed_fit l es us.0 t.1 us.1)
