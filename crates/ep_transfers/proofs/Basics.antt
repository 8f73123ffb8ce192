-- Lemmas that several files cite.
use Rattle.std.proofs.Common.{ℕ, suc, ◌+◌, ◌<◌, ◌≤◌, arith}

pub none_inside : (q j : ℕ) → q ≤ j → j < q + 0 → ⊥
none_inside q j h e = omega (arith, h, e)

pub room_for_one : (i c n : ℕ) → i + suc c ≤ n → i + 1 ≤ n
room_for_one i c n h = omega (arith, h)

pub fewer : (i c n : ℕ) → i + suc c ≤ n → i + 1 + c ≤ n
fewer i c n h = omega (arith, h)
