use Rattle.std.proofs.Common.{◌≡◌, ℕ, ◌*◌, ◌/◌, ◌≤◌, Some, None, cond, nat_le, arith, ap, sym, subst}
use Rattle.std.proofs.lemmas.Bool.{le-leb}
use Rattle.std.proofs.lemmas.Nat.{div-add-mod'}
use Rattle.std.proofs.Math.Nat.{mul-le-mul_right}
use Rattle.ep_congruence_laws.specs.Results.{greatest_product}
use Rattle.ep_congruence.proofs.gcd.product.Goals.{else-b-ne0-via-then-b-ne0+else-b-a, else-b-ne0-via-else-b-ne0}
use Rattle.ep_congruence.proofs.gcd.product.Goals as goal

small : (a b : ℕ) → a * b ≤ greatest_product → Some (a * b) ≡ cond (nat_le (a * b) greatest_product) (Some (a * b)) None
small a b h = sym (ap (λ t. cond t (Some (a * b)) None) (le-leb (a * b) greatest_product h))

by_quotient : (a b l : ℕ) → a ≤ l / b → a * b ≤ l
by_quotient a b l h = let p = mul-le-mul_right b h in let q = div-add-mod' l b in omega arith

by_zero : (a b l : ℕ) → b ≡ 0 → a * b ≤ l
by_zero a b l e = subst (λ (n : ℕ). a * n ≤ l) (sym e) (omega arith)

pub returns-else-b-ne0 : goal.returns-else-b-ne0
returns-else-b-ne0 c = small c.args.a c.args.b (elim c.else-b-ne0.branch [
  | else-b-ne0-via-then-b-ne0+else-b-a w ↦ by_quotient c.args.a c.args.b greatest_product w.if-b-a.false
  | else-b-ne0-via-else-b-ne0 w ↦ by_zero c.args.a c.args.b greatest_product w.if-b-ne0.false
])
