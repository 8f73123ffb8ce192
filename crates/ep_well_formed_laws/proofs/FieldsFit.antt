-- Bit-fields: each one's unit is a member of its aggregate, which is completed, and stays that while the table grows.
use Rattle.std.proofs.Common.{◌≡◌, ℕ, ◌==◌, Bool, true, false, true≢false, cond, if◌then◌else◌, List, [], ◌∷◌, slice_get}
use Rattle.std.proofs.Common.{Option, Some, None, option_and_then, unwrap_or, bytes_eq, refl, sym, ◌∙◌, subst, arith}
use Rattle.std.proofs.lemmas.Bool.Decides.{nat_tests}
use Rattle.ep_int.proofs.Basics.{is_some-some}
use Rattle.ep_layout.specs.declared.types.Ty.TheVariants as rows
use Rattle.ep_layout.specs.Table.{AggregateRow, Grows, MemberRow, Table, is_completed, members_of}
use Rattle.ep_layout.proofs.Options.{and_then_some}
use Rattle.ep_typing.specs.declared.types.FieldRow.{FieldRow}
use Rattle.ep_typing.specs.Env.{Env, NamedFields, entry}
use Rattle.ep_typing.specs.Fields.{field_named, fields_of, with_fields_of}
use Rattle.ep_well_formed_laws.specs.Environments.{AreFields, AreFieldsOf, IsDeclared, IsFieldOf, IsFieldsOf}

-- ---- in a table that has grown

module _ (t u : Table) (g : Grows t u) where
  member_stays : (a k : ℕ) (m : MemberRow) → slice_get (members_of t a) k ≡ Some m
      → slice_get (members_of u a) k ≡ Some m
  member_stays a k m h = by_row (slice_get t.aggregates a) refl h
    where
      by_members : (r : AggregateRow) → slice_get t.aggregates a ≡ Some r → (o : Option (List MemberRow))
          → r.members ≡ o → slice_get (unwrap_or o []) k ≡ Some m → slice_get (members_of u a) k ≡ Some m
      by_members r q None e h = absurd cc
      by_members r q (Some ms) e h = let p = g.aggregates a r q in rw (p.1, p.3 ms e) h

      by_row : (o : Option AggregateRow) → slice_get t.aggregates a ≡ o
          → slice_get (unwrap_or (option_and_then (λ (r : AggregateRow). r.members) o) []) k ≡ Some m
          → slice_get (members_of u a) k ≡ Some m
      by_row None q h = absurd cc
      by_row (Some r) q h = by_members r q r.members refl h

  field_stays : (a : ℕ) (f : FieldRow) → IsFieldOf t a f → IsFieldOf u a f
  field_stays a f h = record {
    member = h.member;
    here = member_stays a f.unit h.member h.here;
    integer = g.types h.member.ty (rows.Int f.t) h.integer;
    room = h.room;
  }

  fields_of_stay : (a : ℕ) (ns : NamedFields) → AreFieldsOf t a ns → AreFieldsOf u a ns
  fields_of_stay a [] h = tt
  fields_of_stay a (x ∷ ns) h = (field_stays a x.1 h.0, fields_of_stay a ns h.1)

  completed_stays : (a : ℕ) → is_completed t a ≡ true → is_completed u a ≡ true
  completed_stays a h =
      let m = is_some-some (option_and_then (λ (r : AggregateRow). r.members) (slice_get t.aggregates a)) h in
      let r = and_then_some (λ (r : AggregateRow). r.members) (slice_get t.aggregates a) m.0 m.1 in
      let p = g.aggregates a r.0 r.1 in
      rw (p.1, p.3 m.0 r.2) refl

  pub fields_stay : (fs : List (ℕ × NamedFields)) → AreFields t fs → AreFields u fs
  fields_stay [] h = tt
  fields_stay (x ∷ fs) h = (
    record {
      completed = completed_stays x.0 h.0.completed;
      units = fields_of_stay x.0 x.1 h.0.units;
    },
    fields_stay fs h.1,
  )

-- ---- among those of other aggregates

pub new_fields : (t : Table) (fs : List (ℕ × NamedFields)) (a : ℕ) (ns : NamedFields) → AreFields t fs
    → IsFieldsOf t a ns → AreFields t (with_fields_of fs a ns)
new_fields t [] a ns h k = (k, tt)
new_fields t (x ∷ fs) a ns h k = by (x.0 == a) (new_fields t fs a ns h.1 k)
  where
    by : (b : Bool) → AreFields t (with_fields_of fs a ns)
        → AreFields t (if b then (a, ns) ∷ fs else x ∷ with_fields_of fs a ns)
    by true r = (k, h.1)
    by false r = (h.0, r)

same_number : (m n : ℕ) → (m == n) ≡ true → m ≡ n
same_number m n q = grind (arith, nat_tests)

found_of : (t : Table) (fs : List (ℕ × NamedFields)) (a : ℕ) (ns : NamedFields) → AreFields t fs
    → fields_of fs a ≡ Some ns → IsFieldsOf t a ns
found_of t [] a ns h e = absurd cc
found_of t (x ∷ fs) a ns h e = by (x.0 == a) refl e (found_of t fs a ns h.1)
  where
    by : (b : Bool) → (x.0 == a) ≡ b → cond b (Some x.1) (fields_of fs a) ≡ Some ns
        → (fields_of fs a ≡ Some ns → IsFieldsOf t a ns) → IsFieldsOf t a ns
    by true q e f =
        let same : x.1 ≡ ns = cc in
        subst (IsFieldsOf t a) same (subst (λ (k : ℕ). IsFieldsOf t k x.1) (same_number x.0 a q) h.0)
    by false q e f = f e

found_named : (t : Table) (a : ℕ) (n : List ℕ) (ns : NamedFields) (f : FieldRow) → AreFieldsOf t a ns
    → entry n ns ≡ Some f → IsFieldOf t a f
found_named t a n [] f h e = absurd cc
found_named t a n (x ∷ ns) f h e = by (bytes_eq n x.0) e (found_named t a n ns f h.1)
  where
    by : (b : Bool) → cond b (Some x.1) (entry n ns) ≡ Some f → (entry n ns ≡ Some f → IsFieldOf t a f)
        → IsFieldOf t a f
    by true q r = let same : x.1 ≡ f = cc in subst (IsFieldOf t a) same h.0
    by false q r = r q

-- the bit-field that a name means in an aggregate
pub field_found : (t : Table) (fs : List (ℕ × NamedFields)) (a : ℕ) (n : List ℕ) (f : FieldRow) → AreFields t fs
    → field_named fs a n ≡ Some f → IsFieldOf t a f
field_found t fs a n f h e =
    let p = and_then_some (entry n) (fields_of fs a) f e in
    let k = found_of t fs a p.0 h p.1 in found_named t a n p.0 f k.units p.2

-- an aggregate without members so far has no bit-fields
pub only_completed : (G : Env) → IsDeclared G → (a : ℕ) → is_completed G.types a ≡ false
    → fields_of G.fields a ≡ None
only_completed G h a e = by (fields_of G.fields a) refl
  where
    by : (o : Option NamedFields) → fields_of G.fields a ≡ o → fields_of G.fields a ≡ None
    by None q = q
    by (Some ns) q =
        let k = found_of G.types G.fields a ns h.fields q in absurd (true≢false (sym k.completed ∙ e))
