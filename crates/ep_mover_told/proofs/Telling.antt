-- Inputs of which one alone has a byte that isn't 0.
use Rattle.std.proofs.Common.{◌≡◌, ℕ, zero, suc, ◌+◌, ◌/◌, ◌%◌, ◌^◌, ◌<◌, ◌≤◌, Bool, true, false, cond, nat_eq, List, []}
use Rattle.std.proofs.Common.{◌∷◌, length, get_or, refl, sym, ap, ◌∙◌, subst, arith}
use Rattle.std.proofs.lemmas.Bool.{eqb-true, eq-eqb}
use Rattle.std.proofs.Math.Nat.{zero-div}
use Rattle.ep_int.specs.Encoding.{byte_of, sum_of_bytes}
use Rattle.ep_int.proofs.Basics.{nat_eq-self}
use Rattle.ep_int.proofs.Encodings.{byte_of-sum_of_bytes}
use Rattle.ep_movers.specs.Symbols.{Symbol, unset, fixed_byte, input_byte}
use Rattle.ep_mover_runs.specs.Following.{stands_for, symbol_at, IsByte, AreBytes, number_in}
use Rattle.ep_mover_runs.proofs.Numbers.{byte_of_number}
use Rattle.ep_mover_told.specs.Laws.{NumbersTellBytes}

-- ---- the inputs

zeros : ℕ → List ℕ
zeros zero = []
zeros (suc n) = 0 ∷ zeros n

-- input i is v, and so many more are 0
only : (i v more : ℕ) → List ℕ
only zero v n = v ∷ zeros n
only (suc i) v n = 0 ∷ only i v n

length_zeros : (n : ℕ) → length (zeros n) ≡ n
unfolding zeros
length_zeros zero = refl
length_zeros (suc n) = ap suc (length_zeros n)

zeros_at : (n i : ℕ) → get_or (zeros n) i 0 ≡ 0
unfolding zeros
zeros_at zero i = refl
zeros_at (suc n) zero = refl
zeros_at (suc n) (suc i) = zeros_at n i

enough : (i v n : ℕ) → n ≤ length (only i v n)
unfolding only zeros
enough zero v n = let e = length_zeros n in omega (arith, e)
enough (suc i) v n = let e = enough i v n in omega (arith, e)

only_here : (i v n : ℕ) → get_or (only i v n) i 0 ≡ v
unfolding only zeros
only_here zero v n = refl
only_here (suc i) v n = only_here i v n

only_else : (i v n j : ℕ) → (j ≡ i → ⊥) → get_or (only i v n) j 0 ≡ 0
unfolding only zeros
only_else zero v n zero e = absurd (e refl)
only_else zero v n (suc j) e = zeros_at n j
only_else (suc i) v n zero e = refl
only_else (suc i) v n (suc j) e = only_else i v n j (λ q. e (ap suc q))

not_same : (j i : ℕ) → nat_eq j i ≡ false → j ≡ i → ⊥
not_same j i d q = let z : true ≡ false = sym (eq-eqb j i q) ∙ d in absurd cc

zero_byte : (k : ℕ) → byte_of k 0 ≡ 0
zero_byte k = ap (λ n. n % 256) (zero-div (256 ^ k))

-- the number whose byte k is 255, and each other one 0
abbrev byte_in : ℕ → ℕ → ℕ
byte_in k j = cond (nat_eq j k) 255 0

one_byte : ℕ → ℕ
one_byte k = sum_of_bytes (byte_in k) 8

byte_small : (k j : ℕ) → byte_in k j < 256
byte_small k j = by (nat_eq j k)
  where
    by : (b : Bool) → cond b 255 0 < 256
    by true = omega arith
    by false = omega arith

one_byte_at : (k j : ℕ) → j < 8 → byte_of j (one_byte k) ≡ byte_in k j
unfolding one_byte
one_byte_at k j l = byte_of-sum_of_bytes (byte_in k) 8 j (λ i m. byte_small k i) l

one_byte_here : (k : ℕ) → k < 8 → byte_of k (one_byte k) ≡ 255
one_byte_here k l = one_byte_at k k l ∙ ap (λ b. cond b 255 0) (nat_eq-self k)

one_byte_else : (k j : ℕ) → j < 8 → nat_eq j k ≡ false → byte_of j (one_byte k) ≡ 0
one_byte_else k j l e = one_byte_at k j l ∙ ap (λ b. cond b 255 0) e

-- ---- one byte

module _ (least : ℕ) where
  abbrev Same : Symbol → Symbol → Type 0
  Same x y = (inputs : List ℕ) → least ≤ length inputs → stands_for inputs x ≡ stands_for inputs y

  fixed_not : (v i k : ℕ) → k < 8 → Same (fixed_byte v) (input_byte i k) → ⊥
  fixed_not v i k l f =
      let a : v ≡ 0
      = f (only i 0 least) (enough i 0 least) ∙ ap (byte_of k) (only_here i 0 least) ∙ zero_byte k in
      let b : v ≡ 255
      = f (only i (one_byte k) least) (enough i (one_byte k) least)
      ∙ ap (byte_of k) (only_here i (one_byte k) least) ∙ one_byte_here k l in
      omega (arith, a, b)

  inputs_same : (i k j l : ℕ) → k < 8 → l < 8 → Same (input_byte i k) (input_byte j l)
      → input_byte i k ≡ input_byte j l
  inputs_same i k j l a b f = by (nat_eq j i) (nat_eq l k) refl refl
    where
      whole : ℕ → byte_of k (get_or (only i (one_byte k) least) i 0) ≡ 255
      whole n = ap (byte_of k) (only_here i (one_byte k) least) ∙ one_byte_here k a

      both : byte_of k (get_or (only i (one_byte k) least) i 0) ≡ byte_of l (get_or (only i (one_byte k) least) j 0)
      both = f (only i (one_byte k) least) (enough i (one_byte k) least)

      by : (x y : Bool) → nat_eq j i ≡ x → nat_eq l k ≡ y → input_byte i k ≡ input_byte j l
      by true true d e =
          ap (λ n. input_byte n k) (sym (eqb-true j i d)) ∙ ap (input_byte j) (sym (eqb-true l k e))
      by true false d e =
          let z : byte_of l (get_or (only i (one_byte k) least) j 0) ≡ 0
          = ap (λ n. byte_of l (get_or (only i (one_byte k) least) n 0)) (eqb-true j i d)
          ∙ ap (byte_of l) (only_here i (one_byte k) least) ∙ one_byte_else k l b e in
          let n : 255 ≡ 0 = sym (whole 0) ∙ both ∙ z in
          absurd (let y : ⊥ = omega (arith, n) in y)
      by false y d e =
          let z : byte_of l (get_or (only i (one_byte k) least) j 0) ≡ 0
          = ap (byte_of l) (only_else i (one_byte k) least j (not_same j i d)) ∙ zero_byte l in
          let n : 255 ≡ 0 = sym (whole 0) ∙ both ∙ z in
          absurd (let y : ⊥ = omega (arith, n) in y)

  same_byte : (x y : Symbol) → IsByte x → IsByte y → Same x y → x ≡ y
  same_byte unset y a b f = absurd a
  same_byte (fixed_byte v) unset a b f = absurd b
  same_byte (input_byte i k) unset a b f = absurd b
  same_byte (fixed_byte v) (fixed_byte w) a b f = ap fixed_byte (f (zeros least) (omega (arith, length_zeros least)))
  same_byte (fixed_byte v) (input_byte i k) a b f = absurd (fixed_not v i k b f)
  same_byte (input_byte i k) (fixed_byte v) a b f = absurd (fixed_not v i k a (λ is l. sym (f is l)))
  same_byte (input_byte i k) (input_byte j l) a b f = inputs_same i k j l a b f

-- ---- all of them

same_list : (xs ys : List Symbol) → length xs ≡ length ys
    → ((j : ℕ) → j < length xs → symbol_at xs j ≡ symbol_at ys j) → xs ≡ ys
same_list [] [] e f = refl
same_list [] (y ∷ ys) e f = absurd (let z : ⊥ = omega (arith, e) in z)
same_list (x ∷ xs) [] e f = absurd (let z : ⊥ = omega (arith, e) in z)
same_list (x ∷ xs) (y ∷ ys) e f =
    ap (λ z. z ∷ xs) (f 0 (omega arith))
    ∙ ap (λ zs. y ∷ zs) (same_list xs ys (omega (arith, e)) (λ j l. f (suc j) (omega (arith, l))))

pub numbers_tell_bytes : NumbersTellBytes
numbers_tell_bytes least count xs ys a b f =
    same_list xs ys (a.are ∙ sym b.are)
    (λ j l. (let k : j < count = omega (arith, l, a.are) in
    same_byte least (symbol_at xs j) (symbol_at ys j) (a.each j k) (b.each j k)
    (λ inputs m. sym (byte_of_number inputs count xs j a k) ∙ ap (byte_of j) (f inputs m)
    ∙ byte_of_number inputs count ys j b k)))
