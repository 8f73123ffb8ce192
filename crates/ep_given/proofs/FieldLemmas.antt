-- Lists of aggregates with bit-fields.
use Rattle.std.proofs.Common.{◌≡◌, ℕ, Bool, true, false, cond, not, ◌&&◌, length, List, [], ◌∷◌, map, get_or, Option}
use Rattle.std.proofs.Common.{Result, Ok, Err, refl, sym, ap, ◌∙◌, arith}
use Rattle.ep_ast.specs.declared.declarations.ValueTree.{ValueTree}
use Rattle.ep_ast.specs.declared.refusals.Refusal.{Refusal}
use Rattle.ep_ast.specs.declared.refusals.Halt.{Halt}
use Rattle.ep_ast.specs.declared.refusals.Halt.TheVariants as halts
use Rattle.ep_ast.specs.Declaration as source
use Rattle.ep_ast.specs.Kind.{bit_field_place}
use Rattle.ep_elaboration.specs.Declarators.{Object}
use Rattle.ep_elaboration.specs.Given.{has_fields, is_zero, is_zero_alone, with_list, with_parts}
use Rattle.ep_operands.specs.Refinement.{Stops}
use Rattle.ep_typing.specs.Env.{Env}
use Rattle.ep_typing.specs.Results.{◌>>=◌, at}

pub alone : (xs : List ValueTree) (v : ValueTree) → length xs ≡ 1 → v ≡ get_or xs 0 v
    → is_zero (source.value_of v) ≡ is_zero_alone (source.to_values (map source.value_of xs))
alone [] v l e = absurd (omega (arith, l))
alone (x ∷ []) v l e = ap (λ (y : ValueTree). is_zero (source.value_of y)) e
alone (x ∷ y ∷ zs) v l e = absurd (omega (arith, l))

pub not_alone : (xs : List ValueTree) → (length xs ≡ 1 → ⊥)
    → false ≡ is_zero_alone (source.to_values (map source.value_of xs))
not_alone [] n = refl
not_alone (x ∷ []) n = absurd (n refl)
not_alone (x ∷ y ∷ zs) n = refl

ok_same : {A : Type 0} {x y : A} → ◌≡◌ {A = Result A Refusal} (Ok x) (Ok y) → x ≡ y
ok_same h = cc

behind_it : {A B : Type 0} (l : ℕ) (r : Result A ℕ) (f : A → Result B ℕ) (y : A) → at l r ≡ Ok y → at l (r >>= f) ≡ at l (f y)
behind_it l (Ok x) f y h = ap (λ (p : _). at l (f p)) (ok_same h)
behind_it l (Err k) f y h = absurd cc

stops_behind : {A B : Type 0} (l : ℕ) (r : Result A ℕ) (f : A → Result B ℕ) (e : Halt) → Stops (at l r) e → Stops (at l (r >>= f)) e
stops_behind l r f halts.Memory h = tt
stops_behind l (Ok x) f (halts.Refused k) h = absurd cc
stops_behind l (Err j) f (halts.Refused k) h = ap (λ (q : Refusal). Err q) (err_same h)
  where
    err_same : {A : Type 0} {j k : Refusal} → ◌≡◌ {A = Result A Refusal} (Err j) (Err k) → j ≡ k
    err_same h = cc

abbrev gone_on : Env → Object → source.Values → Bool → Result Object ℕ
gone_on G y vs b = cond b (Err bit_field_place) (Ok y)

module _ (G : Env) (l : ℕ) (o : Option Object) (vs : source.Values) where
  with_list_is : (y : Object) → at l (with_parts o) ≡ Ok y
      → at l (with_list G o vs) ≡ at l (gone_on G y vs (has_fields G y.ty && not (is_zero_alone vs)))
  unfolding with_list
  with_list_is y h = behind_it l (with_parts o) (λ x. gone_on G x vs (has_fields G x.ty && not (is_zero_alone vs))) y h

  pub has_no_parts : (e : Halt) → Stops (at l (with_parts o)) e → Stops (at l (with_list G o vs)) e
  unfolding with_list
  has_no_parts e h = stops_behind l (with_parts o) (λ x. gone_on G x vs (has_fields G x.ty && not (is_zero_alone vs))) e h

  pub is_listed : (y : Object) → at l (with_parts o) ≡ Ok y → false ≡ (has_fields G y.ty && not (is_zero_alone vs))
      → at l (with_list G o vs) ≡ Ok y
  is_listed y h n = with_list_is y h ∙ ap (λ (b : Bool). at l (gone_on G y vs b)) (sym n)

  pub has_fields_listed : (y : Object) → at l (with_parts o) ≡ Ok y → true ≡ (has_fields G y.ty && not (is_zero_alone vs))
      → at l (with_list G o vs) ≡ Err (record { kind = bit_field_place; line = l; word = 0 })
  has_fields_listed y h n = with_list_is y h ∙ ap (λ (b : Bool). at l (gone_on G y vs b)) (sym n)
