-- Lemmas that several crates cite.
use Rattle.std.proofs.Common.{◌≡◌, ◌+◌, ◌*◌, subst, ℕ}
use Rattle.ep_flows.specs.View.{Told, capped}

pub capped-told : {S : Type 0} (n x : ℕ) (a b : Told S) → a ≡ b → capped n ≡ capped (x + 1 * a.count)
    → capped n ≡ capped (x + 1 * b.count)
capped-told {S = S} n x a b e h = subst (λ (z : Told S). capped n ≡ capped (x + 1 * z.count)) e h
