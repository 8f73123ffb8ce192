-- Names in the list of functions that are there without a declaration.
use Rattle.std.proofs.Common.{◌≡◌, ℕ, suc, ◌+◌, ◌<◌, ◌≤◌, Bool, true, false, cond, List, [], ◌∷◌, map, length, drop}
use Rattle.std.proofs.Common.{get_or, Option, Some, None, Bor, refl, sym, ap, ◌∙◌, arith, drop-cons}
use Rattle.std.proofs.lemmas.List.{drop_all}
use Rattle.std.specs.Str.{bytes_eq}
use Rattle.ep_typing.specs.Env.{entry}
use Rattle.ep_typing.specs.Operand as rule
use Rattle.ep_operands.specs.declared.operand.Callee.{Callee}
use Rattle.ep_operands.specs.View.{callee, named}

abbrev pub Row : Type 0
Row = Bor (List ℕ) × Callee

abbrev pub rows : List Row → List (List ℕ × rule.Operand)
rows fs = map (λ f. named f.0.now f.1) fs

module _ (t : List ℕ) (i : ℕ) (fs : List Row) (d : Row) (lt : i < length fs) (e : entry t (rows (drop i fs)) ≡ entry t (rows fs)) where
  unrolled : entry t (rows (get_or fs i d ∷ drop (i + 1) fs)) ≡ entry t (rows fs)
  unrolled =
      let more : suc i ≡ i + 1 = omega arith in
      sym (ap (λ (gs : List Row). entry t (rows gs)) (drop-cons fs i d lt ∙ ap (λ (n : ℕ). get_or fs i d ∷ drop n fs) more)) ∙ e

  pub is_listed : bytes_eq t (get_or fs i d).0.now ≡ true → Some (rule.function (callee (get_or fs i d).1)) ≡ entry t (rows fs)
  is_listed h =
      ap (λ (b : Bool). cond b (Some (rule.function (callee (get_or fs i d).1))) (entry t (rows (drop (i + 1) fs)))) (sym h) ∙ unrolled

  pub not_listed : bytes_eq t (get_or fs i d).0.now ≡ false → entry t (rows (drop (i + 1) fs)) ≡ entry t (rows fs)
  not_listed h =
      ap (λ (b : Bool). cond b (Some (rule.function (callee (get_or fs i d).1))) (entry t (rows (drop (i + 1) fs)))) (sym h) ∙ unrolled

pub none_listed : (t : List ℕ) (i : ℕ) (fs : List Row) → length fs ≤ i → entry t (rows (drop i fs)) ≡ entry t (rows fs) → None ≡ entry t (rows fs)
none_listed t i fs h e = let none : drop i fs ≡ [] = drop_all i fs h in sym (ap (λ (gs : List Row). entry t (rows gs)) none) ∙ e
