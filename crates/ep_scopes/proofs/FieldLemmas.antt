-- Maps of bit-fields, as lists of them.
use Rattle.std.proofs.Common.{◌≡◌, ℕ, Bor, length, Bool, true, false, cond, List, [], ◌∷◌, map, Option, Some, None, refl, sym, ap, ◌∙◌}
use Rattle.std.proofs.Common.{eq-eqb, nat_eq}
use Rattle.std.proofs.lemmas.Bool.{eqb-true}
use Rattle.std.specs.Prelude.{is_some}
use Rattle.std.specs.Option.{option_map, option_copied, option_and_then}
use Rattle.std.specs.Map.{lookup}
use Rattle.indexmap.specs.IndexMap.{insert_entry}
use Rattle.ep_typing.specs.Env as rule
use Rattle.ep_typing.specs.Fields.{fields_of, with_fields_of}
use Rattle.ep_scopes.specs.declared.fields.FieldNames.{FieldNames}
use Rattle.ep_scopes.specs.View as view

turned_by : (a b : ℕ) (p q : Bool) → nat_eq a b ≡ p → nat_eq b a ≡ q → p ≡ q
turned_by a b true true h k = refl
turned_by a b false false h k = refl
turned_by a b true false h k = sym (eq-eqb b a (sym (eqb-true a b h))) ∙ k
turned_by a b false true h k = sym h ∙ eq-eqb a b (sym (eqb-true b a k))

turned : (a b : ℕ) → nat_eq a b ≡ nat_eq b a
turned a b = turned_by a b (nat_eq a b) (nat_eq b a) refl refl

-- ---- looking up

names_at_test : (b : Bool) (n : FieldNames) (o : Option FieldNames)
    → option_map view.named_fields (cond b (Some n) o) ≡ cond b (Some (view.named_fields n)) (option_map view.named_fields o)
names_at_test true n o = refl
names_at_test false n o = refl

fields_look : (a : ℕ) (es : List (ℕ × FieldNames))
    → option_map view.named_fields (lookup (λ k. nat_eq a k) es) ≡ fields_of (map view.aggregate_fields es) a
fields_look a [] = refl
fields_look a (e ∷ es) =
    names_at_test (nat_eq a e.0) e.1 (lookup (λ k. nat_eq a k) es)
    ∙ ap (λ (b : Bool). cond b (Some (view.named_fields e.1)) (option_map view.named_fields (lookup (λ k. nat_eq a k) es))) (turned a e.0)
    ∙ ap (λ (o : Option rule.NamedFields). cond (nat_eq e.0 a) (Some (view.named_fields e.1)) o) (fields_look a es)

module _ (a : ℕ) (es : List (ℕ × FieldNames)) (r : Option (Bor FieldNames)) (h : option_copied r ≡ lookup (λ k. nat_eq a k) es) where
  -- what was found is what stands there
  pub found : option_map view.named_fields (option_copied r) ≡ fields_of (map view.aggregate_fields es) a
  found = ap (option_map view.named_fields) h ∙ fields_look a es

  pub is_there : is_some r ≡ is_some (fields_of (map view.aggregate_fields es) a)
  is_there = seen r ∙ ap is_some found
    where
      seen : (o : Option (Bor FieldNames)) → is_some o ≡ is_some (option_map view.named_fields (option_copied o))
      seen None = refl
      seen (Some n) = refl

  -- the same of a name among what was found
  pub found_named : (t : List ℕ) → option_and_then (rule.entry t) (option_map view.named_fields (option_copied r))
      ≡ option_and_then (rule.entry t) (fields_of (map view.aggregate_fields es) a)
  found_named t = ap (option_and_then (rule.entry t)) found

-- ---- one more

set_by : (a : ℕ) (n : FieldNames) (e : ℕ × FieldNames) (b : Bool) (es ys : List (ℕ × FieldNames)) (zs : List (ℕ × rule.NamedFields))
    → nat_eq a e.0 ≡ b → map view.aggregate_fields ys ≡ zs
    → map view.aggregate_fields (cond b ((e.0, n) ∷ es) (e ∷ ys))
    ≡ cond b ((a, view.named_fields n) ∷ map view.aggregate_fields es) (view.aggregate_fields e ∷ zs)
set_by a n e true es ys zs h k =
    ap (λ (m : ℕ). (m, view.named_fields n) ∷ map view.aggregate_fields es) (sym (eqb-true a e.0 h))
set_by a n e false es ys zs h k = ap (λ (ws : List (ℕ × rule.NamedFields)). view.aggregate_fields e ∷ ws) k

pub fields_set : (a : ℕ) (n : FieldNames) (es : List (ℕ × FieldNames))
    → map view.aggregate_fields (insert_entry (λ p q. nat_eq p q) es a n) ≡ with_fields_of (map view.aggregate_fields es) a (view.named_fields n)
fields_set a n [] = refl
fields_set a n (e ∷ es) =
    set_by a n e (nat_eq a e.0) es (insert_entry (λ p q. nat_eq p q) es a n) (with_fields_of (map view.aggregate_fields es) a (view.named_fields n))
    refl (fields_set a n es)
    ∙ ap (λ (b : Bool). cond b ((a, view.named_fields n) ∷ map view.aggregate_fields es)
    (view.aggregate_fields e ∷ with_fields_of (map view.aggregate_fields es) a (view.named_fields n))) (turned a e.0)

-- ---- none

pub no_entries : (es : List (ℕ × FieldNames)) → length es ≡ 0 → map view.aggregate_fields es ≡ []
no_entries [] h = refl
no_entries (e ∷ es) h = absurd cc

pub none_kept : (es : List (ℕ × FieldNames)) → map view.aggregate_fields es ≡ [] → length es ≡ 0
none_kept [] h = refl
none_kept (e ∷ es) h = absurd cc
