-- Products and quotients of numbers between two ends lie between those of the ends.
use Rattle.std.proofs.Common.{ℕ, suc, ◌≤◌, ℤ, pos, negsuc, ◌*ℤ◌, ◌≤ℤ◌, neg_ℤ, arith}
use Rattle.std.specs.Int.{int_min, int_max}
use Rattle.std.proofs.Math.Nat.{mul-le-mul_right}
use Rattle.std.proofs.Math.IntN.{*ℤ_comm}
use Rattle.std.proofs.lemmas.Int.{ints, clamps}
use Rattle.ep_range_laws.specs.Faults.{least_of_four, greatest_of_four}

pub le_pos : (m n : ℕ) → m ≤ n → pos m ≤ℤ pos n
le_pos m n h = omega (arith, ints)

pub from_le_pos : (m n : ℕ) → pos m ≤ℤ pos n → m ≤ n
from_le_pos m n h = omega (arith, ints)

neg_le : (m n : ℕ) → n ≤ m → neg_ℤ (pos m) ≤ℤ neg_ℤ (pos n)
neg_le m n h = omega (arith, ints)

pub neg_le_pos : (m n : ℕ) → neg_ℤ (pos m) ≤ℤ pos n
neg_le_pos m n = omega (arith, ints)

from_le_negsuc : (m n : ℕ) → negsuc m ≤ℤ negsuc n → suc n ≤ suc m
from_le_negsuc m n h = omega (arith, ints)

not_pos_le_negsuc : (m n : ℕ) {P : Type 0} → pos m ≤ℤ negsuc n → P
not_pos_le_negsuc m n h = absurd (omega (arith, ints))

-- a product keeps an order where the other side is not negative, and turns it where it is
pub product_up : (x b : ℤ) (n : ℕ) → x ≤ℤ b → (x *ℤ pos n) ≤ℤ (b *ℤ pos n)
product_up (pos x) (pos b) n h = le_pos _ _ (mul-le-mul_right n (from_le_pos x b h))
product_up (pos x) (negsuc b) n h = not_pos_le_negsuc x b h
product_up (negsuc x) (pos b) n h = neg_le_pos _ _
product_up (negsuc x) (negsuc b) n h = neg_le _ _ (mul-le-mul_right n (from_le_negsuc x b h))

product_down : (x b : ℤ) (n : ℕ) → x ≤ℤ b → (b *ℤ negsuc n) ≤ℤ (x *ℤ negsuc n)
product_down (pos x) (pos b) n h = neg_le _ _ (mul-le-mul_right (suc n) (from_le_pos x b h))
product_down (pos x) (negsuc b) n h = not_pos_le_negsuc x b h
product_down (negsuc x) (pos b) n h = neg_le_pos _ _
product_down (negsuc x) (negsuc b) n h = le_pos _ _ (mul-le-mul_right (suc n) (from_le_negsuc x b h))

-- between two ends a product is between the products of the ends
high : (l x h y : ℤ) → l ≤ℤ x → x ≤ℤ h → (x *ℤ y) ≤ℤ int_max (l *ℤ y) (h *ℤ y)
high l x h (pos n) p q = let a = product_up x h n q in omega (arith, ints, clamps)
high l x h (negsuc n) p q = let a = product_down l x n p in omega (arith, ints, clamps)

low : (l x h y : ℤ) → l ≤ℤ x → x ≤ℤ h → int_min (l *ℤ y) (h *ℤ y) ≤ℤ (x *ℤ y)
low l x h (pos n) p q = let a = product_up l x n p in omega (arith, ints, clamps)
low l x h (negsuc n) p q = let a = product_down x h n q in omega (arith, ints, clamps)

four_high : (v m n a b c d : ℤ) → v ≤ℤ int_max m n → m ≤ℤ int_max a b → n ≤ℤ int_max c d → v ≤ℤ greatest_of_four a b c d
four_high v m n a b c d p q r = omega (arith, ints, clamps)

four_low : (v m n a b c d : ℤ) → int_min m n ≤ℤ v → int_min a b ≤ℤ m → int_min c d ≤ℤ n → least_of_four a b c d ≤ℤ v
four_low v m n a b c d p q r = omega (arith, ints, clamps)

pub product_high : (a x b c y d : ℤ) → a ≤ℤ x → x ≤ℤ b → c ≤ℤ y → y ≤ℤ d → (x *ℤ y) ≤ℤ greatest_of_four (a *ℤ c) (a *ℤ d) (b *ℤ c) (b *ℤ d)
product_high a x b c y d p q r s =
    let ay = rw (*ℤ_comm y a, *ℤ_comm c a, *ℤ_comm d a) at (high c y d a r s) in
    let by = rw (*ℤ_comm y b, *ℤ_comm c b, *ℤ_comm d b) at (high c y d b r s) in
    four_high (x *ℤ y) (a *ℤ y) (b *ℤ y) (a *ℤ c) (a *ℤ d) (b *ℤ c) (b *ℤ d) (high a x b y p q) ay by

pub product_low : (a x b c y d : ℤ) → a ≤ℤ x → x ≤ℤ b → c ≤ℤ y → y ≤ℤ d → least_of_four (a *ℤ c) (a *ℤ d) (b *ℤ c) (b *ℤ d) ≤ℤ (x *ℤ y)
product_low a x b c y d p q r s =
    let ay = rw (*ℤ_comm y a, *ℤ_comm c a, *ℤ_comm d a) at (low c y d a r s) in
    let by = rw (*ℤ_comm y b, *ℤ_comm c b, *ℤ_comm d b) at (low c y d b r s) in
    four_low (x *ℤ y) (a *ℤ y) (b *ℤ y) (a *ℤ c) (a *ℤ d) (b *ℤ c) (b *ℤ d) (low a x b y p q) ay by
