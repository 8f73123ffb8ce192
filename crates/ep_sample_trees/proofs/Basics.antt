-- Lemmas that what follows of samples cites.
use Rattle.std.proofs.Common.{◌≡◌, ℕ, zero, suc, ◌<◌, Option, Some, None, arith}

pub four : (P : ℕ → Type 0) (q : ℕ) → q < 4 → P 0 → P 1 → P 2 → P 3 → P q
four P zero h a b c d = a
four P (suc zero) h a b c d = b
four P (suc (suc zero)) h a b c d = c
four P (suc (suc (suc zero))) h a b c d = d
four P (suc (suc (suc (suc n)))) h a b c d = absurd (omega arith)

pub none_some : {A : Type 0} {x : A} → ◌≡◌ {A = Option A} None (Some x) → ⊥
none_some e = absurd cc
