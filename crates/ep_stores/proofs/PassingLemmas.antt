-- Arguments one after another.
use Rattle.std.proofs.Common.{◌≡◌, ℕ, suc, ◌+◌, ◌<◌, ◌≤◌, min, List, [], ◌∷◌, ◌++◌, map, length, drop, slice_get}
use Rattle.std.proofs.Common.{Option, Some, None, Result, Ok, Err, refl, sym, ap, ◌∙◌, append_assoc, drop-cons, subst}
use Rattle.std.proofs.Common.{arith, inl, inr}
use Rattle.std.proofs.lemmas.Bool.Decides.{leb_tells}
use Rattle.std.proofs.lemmas.List.{drop_all}
use Rattle.std.proofs.lemmas.Option.{get_or_from_slice_get, slice_get_cases, slice_get_within}
use Rattle.std.specs.Option.{option_map}
use Rattle.std.specs.Prelude.{IfOk}
use Rattle.ep_int.specs.declared.types.Memory.{Memory}
use Rattle.ep_ast.specs.Kind.{number_of}
use Rattle.ep_ast.specs.declared.kinds.RefusalKind.{RefusalKind}
use Rattle.ep_ast.specs.declared.refusals.Refusal.{Refusal}
use Rattle.ep_ast.specs.declared.refusals.Halt.{Halt}
use Rattle.ep_ast.specs.declared.refusals.Halt.TheVariants as halts
use Rattle.ep_core.specs.Program.{Expr}
use Rattle.ep_typing.specs.Calls.{all_passed}
use Rattle.ep_typing.specs.Results.{at, lowest}
use Rattle.ep_stores.specs.declared.calls.Parameter.{Parameter}
use Rattle.ep_operands.specs.declared.value.Value.{Value}
use Rattle.ep_operands.specs.Refinement.{Stops}
use Rattle.ep_stores.specs.Passing.{after, lower, passed_to}
use Rattle.ep_operands.specs.View.{value}
use Rattle.ep_stores.specs.View.{parameter}

pub at_err : {A : Type 0} (l : ℕ) (r : Result A ℕ) (f : Refusal) → at l r ≡ Err f → r ≡ Err f.kind
at_err l (Ok x) f h = absurd cc
at_err l (Err k) f h = let same : ◌≡◌ {A = Refusal} (record { kind = k; line = l; word = 0 }) f = cc in ap (λ (g : Refusal). Err g.kind) same

pub after_err : (kind : Option ℕ) (done : List Expr) (k : ℕ) → after kind done (Err k) ≡ Err (lower kind k)
after_err None done k = refl
after_err (Some j) done k = refl

pub one_more : (kind : Option ℕ) (done : List Expr) (e : Expr) (r : Result (List Expr) ℕ)
    → after kind done (lowest (Ok e) r) ≡ after kind (done ++ e ∷ []) r
one_more None done e (Ok es) = ap (λ (l : List Expr). Ok l) (sym (append_assoc done (e ∷ []) es))
one_more None done e (Err k) = refl
one_more (Some j) done e (Ok es) = refl
one_more (Some j) done e (Err k) = refl

min_three : (i j k : ℕ) → min i (min j k) ≡ min (min i j) k
min_three i j k = omega arith

pub one_wrong : (kind : Option ℕ) (done : List Expr) (j : ℕ) (r : Result (List Expr) ℕ)
    → after kind done (lowest (Err j) r) ≡ after (Some (lower kind j)) done r
one_wrong None done j (Ok es) = refl
one_wrong None done j (Err k) = refl
one_wrong (Some i) done j (Ok es) = refl
one_wrong (Some i) done j (Err k) = ap (λ (n : ℕ). Err n) (min_three i j k)

-- an argument that isn't passed
pub stopped_so : (kind : Option ℕ) (done : List Expr) (l : ℕ) (r : Result Expr ℕ) (halt : Halt)
    (out : Result (Option RefusalKind) Memory) → Stops (at l r) halt
    → IfOk out (λ k. (f : Refusal) × (halt ≡ halts.Refused f) × (option_map number_of k ≡ Some (lower kind f.kind)))
    → IfOk out (λ k. (rest : Result (List Expr) ℕ)
    → after kind done (lowest r rest) ≡ after (option_map number_of k) done rest)
stopped_so kind done l r halt (Ok k) s p = λ rest.
    ap (λ (x : Result Expr ℕ). after kind done (lowest x rest)) (at_err l r p.0 (subst (Stops (at l r)) p.1 s))
    ∙ one_wrong kind done p.0.kind rest ∙ sym (ap (λ (o : Option ℕ). after o done rest) p.2)
stopped_so kind done l r halt (Err e) s p = tt

-- ---- one step

front : (i : ℕ) (xs : List Parameter) (x : Parameter) → slice_get xs i ≡ Some x → drop i xs ≡ x ∷ drop (i + 1) xs
front i xs x h =
    let lt : i < length xs = slice_get_within xs i x h in
    let more : suc i ≡ i + 1 = omega arith in
    drop-cons xs i x lt ∙ ap (λ (y : Parameter). y ∷ drop (suc i) xs) (get_or_from_slice_get xs i x x h) ∙ ap (λ (n : ℕ). x ∷ drop n xs) more

-- nothing stands behind the last place
drop_within : (n : ℕ) (xs : List Parameter) → drop (min n (length xs)) xs ≡ drop n xs
drop_within n xs = elim (leb_tells n (length xs)) [
  | inl p ↦
      let le : n ≤ length xs = p.1 in
      let same : min n (length xs) ≡ n = omega (arith, le) in ap (λ (k : ℕ). drop k xs) same
  | inr p ↦
      let le : length xs ≤ n = omega (arith, p.1) in
      let none : length xs ≤ min n (length xs) = omega (arith, le) in
      drop_all (min n (length xs)) xs none ∙ sym (drop_all n xs le)
]

past_end : (i : ℕ) (xs : List Parameter) → slice_get xs i ≡ None → length xs ≤ i
past_end i xs h = elim (slice_get_cases xs i).1 [
  | inl c ↦ absurd (let never : ◌≡◌ {A = Option Parameter} (Some c.0) None = sym c.2 ∙ h in cc)
  | inr c ↦ c.0
]

module _ (kind : Option ℕ) (done : List Expr) (i : ℕ) (xs : List Parameter) (v : Value) (items vs : List Value) (all : Result (List Expr) ℕ)
    (is : items ≡ v ∷ vs) (e : after kind done (all_passed (map parameter (drop i xs)) (map value items)) ≡ all) where
  pub passed_on : (now : Option ℕ) (more : List Expr) (o : Option Parameter) → slice_get xs i ≡ o
      → ((r : Result (List Expr) ℕ) → after kind done (lowest (passed_to (option_map parameter o) (value v)) r) ≡ after now more r)
      → after now more (all_passed (map parameter (drop (min (i + 1) (length xs)) xs)) (map value vs)) ≡ all
  unfolding all_passed
  passed_on now more (Some x) h f =
      ap (λ (ys : List Parameter). after now more (all_passed (map parameter ys) (map value vs))) (drop_within (i + 1) xs)
      ∙ sym (f (all_passed (map parameter (drop (i + 1) xs)) (map value vs)))
      ∙ sym (ap (λ (ys : List Parameter). after kind done (all_passed (map parameter ys) (map value (v ∷ vs)))) (front i xs x h))
      ∙ sym (ap (λ (ws : List Value). after kind done (all_passed (map parameter (drop i xs)) (map value ws))) is) ∙ e
  passed_on now more None h f =
      let past : length xs ≤ i = past_end i xs h in
      let next : length xs ≤ i + 1 = omega (arith, past) in
      ap (λ (ys : List Parameter). after now more (all_passed (map parameter ys) (map value vs)))
      (drop_within (i + 1) xs ∙ drop_all (i + 1) xs next)
      ∙ sym (f (all_passed [] (map value vs)))
      ∙ sym (ap (λ (ys : List Parameter). after kind done (all_passed (map parameter ys) (map value (v ∷ vs)))) (drop_all i xs past))
      ∙ sym (ap (λ (ws : List Value). after kind done (all_passed (map parameter (drop i xs)) (map value ws))) is) ∙ e

module _ (kind : Option ℕ) (done : List Expr) (i : ℕ) (xs : List Parameter) (items : List Value) (all : Result (List Expr) ℕ)
    (is : items ≡ []) (e : after kind done (all_passed (map parameter (drop i xs)) (map value items)) ≡ all) where
  at_end : after kind done (all_passed (map parameter (drop i xs)) []) ≡ all
  at_end = sym (ap (λ (ws : List Value). after kind done (all_passed (map parameter (drop i xs)) (map value ws))) is) ∙ e

  pub too_few : (d : Parameter) → i < length xs → all ≡ Err (lower kind 39)
  unfolding all_passed
  too_few d lt =
      sym at_end ∙ ap (λ (ys : List Parameter). after kind done (all_passed (map parameter ys) [])) (drop-cons xs i d lt) ∙ after_err kind done 39

  pub enough : length xs ≤ i → after kind done (Ok []) ≡ all
  unfolding all_passed
  enough h =
      let none : drop i xs ≡ [] = drop_all i xs h in
      sym (ap (λ (ys : List Parameter). after kind done (all_passed (map parameter ys) [])) none) ∙ at_end

pub stops_at : {A : Type 0} (all : Result A ℕ) (l k : ℕ) (e : Halt) → all ≡ Err k → e ≡ halts.Refused (record { kind = k; line = l; word = 0 })
    → Stops (at l all) e
stops_at all l k e h p = subst (λ (x : Halt). Stops (at l all) x) (sym p) (ap (at l) h)
