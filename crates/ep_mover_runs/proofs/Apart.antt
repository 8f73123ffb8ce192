-- Different symbols are told apart by inputs of which all but one are 0.
use Rattle.std.proofs.Common.{◌≡◌, ℕ, zero, suc, ◌+◌, ◌*◌, ◌^◌, ◌<◌, ◌≤◌, true, ◌||◌, nat_eq, List, []}
use Rattle.std.proofs.Common.{◌∷◌, length, get_or, replicate, ⊎_elim, refl, sym, ◌∙◌, ap, subst, arith}
use Rattle.std.specs.Prelude.{unsigned_abs}
use Rattle.std.specs.List.{AllByRecursion}
use Rattle.std.proofs.lemmas.Bool.{or_cases, eqb-true, cases_lt, cases_eq}
use Rattle.std.proofs.lemmas.List.{length-replicate, get_or-replicate, get_or_past, ext_get_or}
use Rattle.std.proofs.Math.Nat.{pow-suc}
use Rattle.ep_int.proofs.Basics.{power-le}
use Rattle.ep_int.proofs.Encodings.{bytes_pow}
use Rattle.ep_int.specs.Types.{bytes_of}
use Rattle.ep_int.specs.Encoding.{is_width, byte_of}
use Rattle.ep_core.specs.Exec.{Output}
use Rattle.ep_core.specs.Runs.{AreInputs}
use Rattle.ep_movers.specs.Symbols.{Symbol, unset, fixed_byte, input_byte}
use Rattle.ep_mover_runs.specs.Following.{stands_for, symbol_at, number_in, IsByte, unsigned_of, output_in, outputs_in}
use Rattle.ep_mover_runs.specs.Following.{IsNumber, zero_result}
use Rattle.ep_mover_runs.proofs.Sums.{byte_above, byte_of_zero, byte_up, byte_below_up}
use Rattle.ep_mover_runs.proofs.Numbers.{byte_of_number}

-- ---- inputs

abbrev zeros : ℕ → List ℕ
zeros n = replicate n 0

-- so many zeros around this one
abbrev pub lone : (before value after : ℕ) → List ℕ
lone zero v n = v ∷ zeros n
lone (suc i) v n = 0 ∷ lone i v n

zero_inputs : (n : ℕ) → AreInputs (zeros n)
zero_inputs zero = tt
zero_inputs (suc n) = (omega arith, zero_inputs n)

pub lone_inputs : (i v n : ℕ) → v < 2 ^ 64 → AreInputs (lone i v n)
lone_inputs zero v n h = (h, zero_inputs n)
lone_inputs (suc i) v n h = (omega arith, lone_inputs i v n h)

pub lone_long : (i v n : ℕ) → n ≤ length (lone i v n)
lone_long zero v n = omega (arith, length-replicate {A = ℕ} n 0)
lone_long (suc i) v n = omega (arith, lone_long i v n)

zero_at : (n j : ℕ) → get_or (zeros n) j 0 ≡ 0
zero_at n j =
    ⊎_elim (λ l. get_or-replicate {A = ℕ} n j 0 0 l)
    (λ l. get_or_past (zeros n) j 0 (omega (arith, l, length-replicate {A = ℕ} n 0))) (cases_lt j n)

at_lone : (i v n : ℕ) → get_or (lone i v n) i 0 ≡ v
at_lone zero v n = refl
at_lone (suc i) v n = at_lone i v n

beside_lone : (i v n j : ℕ) → (j ≡ i → ⊥) → get_or (lone i v n) j 0 ≡ 0
beside_lone zero v n zero h = absurd (h refl)
beside_lone zero v n (suc j) h = zero_at n j
beside_lone (suc i) v n zero h = refl
beside_lone (suc i) v n (suc j) h = beside_lone i v n j (λ e. h (ap suc e))

-- ---- a number of which one byte is 1 and all others are 0

one_small : (k : ℕ) → k < 8 → 256 ^ k < 2 ^ 64
one_small k l = let more = power-le (8 * k) 56 (omega (arith, l)) in omega (arith, bytes_pow k, more)

one_there : (k : ℕ) → byte_of k (256 ^ k) ≡ 1
one_there k =
    let e : k + 0 ≡ k = omega arith in
    let one : 1 * 256 ^ k ≡ 256 ^ k = omega arith in
    ap (λ j. byte_of j (256 ^ k)) (sym e) ∙ ap (byte_of (k + 0)) (sym one) ∙ byte_up 1 k 0

none_beside : (k l : ℕ) → (l ≡ k → ⊥) → byte_of l (256 ^ k) ≡ 0
none_beside k l n =
    let one : 1 * 256 ^ k ≡ 256 ^ k = omega arith in
    let some = power-le 0 (8 * k) (omega arith) in
    let next : 256 ^ k < 256 ^ suc k = omega (arith, pow-suc 256 k, some, bytes_pow k) in
    ⊎_elim (λ below. ap (byte_of l) (sym one) ∙ byte_below_up 1 k l below)
    (λ above. byte_above (256 ^ k) (suc k) l next
    (⊎_elim (λ i. omega (arith, i)) (λ i. absurd (n (omega (arith, i, above)))) (cases_lt k l)))
    (cases_lt l k)

-- ---- lists

width_at : (n m : ℕ) → nat_eq n m ≡ true → bytes_of (unsigned_of m) ≡ m → bytes_of (unsigned_of n) ≡ n
width_at n m e h = subst (λ k. bytes_of (unsigned_of k) ≡ k) (sym (eqb-true n m e)) h

unsigned_width : (n : ℕ) → is_width n ≡ true → bytes_of (unsigned_of n) ≡ n
unsigned_width n h =
    ⊎_elim
    (λ a. ⊎_elim
    (λ b. ⊎_elim (λ c. width_at n 1 c refl) (λ c. width_at n 2 c refl) (or_cases (nat_eq n 1) (nat_eq n 2) b))
    (λ b. width_at n 4 b refl) (or_cases (nat_eq n 1 || nat_eq n 2) (nat_eq n 4) a))
    (λ a. width_at n 8 a refl) (or_cases (nat_eq n 1 || nat_eq n 2 || nat_eq n 4) (nat_eq n 8) h)

abbrev first_put : List Output → Output
first_put [] = zero_result
first_put (x ∷ xs) = x

abbrev rest_put : List Output → List Output
rest_put [] = []
rest_put (x ∷ xs) = xs

-- ---- with at least so many inputs

module _ (n : ℕ) where
  abbrev Always : ((inputs : List ℕ) → Type 0) → Type 0
  Always P = (inputs : List ℕ) → AreInputs inputs → n ≤ length inputs → P inputs

  abbrev StandSame : Symbol → Symbol → List ℕ → Type 0
  StandSame x y inputs = stands_for inputs x ≡ stands_for inputs y

  with_lone : (P : List ℕ → Type 0) → Always P → (i v : ℕ) → v < 2 ^ 64 → P (lone i v n)
  with_lone P h i v l = h (lone i v n) (lone_inputs i v n l) (lone_long i v n)

  fixed_input : (v i k : ℕ) → k < 8 → Always (StandSame (fixed_byte v) (input_byte i k)) → ⊥
  fixed_input v i k l h =
      let same = StandSame (fixed_byte v) (input_byte i k) in
      let zero_is : v ≡ 0 = with_lone same h i 0 (omega arith) ∙ ap (byte_of k) (at_lone i 0 n) ∙ byte_of_zero k in
      let one_is : v ≡ 1
      = with_lone same h i (256 ^ k) (one_small k l) ∙ ap (byte_of k) (at_lone i (256 ^ k) n) ∙ one_there k in
      omega (arith, zero_is, one_is)

  two_inputs : (i k j l : ℕ) → k < 8 → Always (StandSame (input_byte i k) (input_byte j l))
      → input_byte i k ≡ input_byte j l
  two_inputs i k j l small h =
      let v = 256 ^ k in
      let here : byte_of k (get_or (lone i v n) i 0) ≡ 1 = ap (byte_of k) (at_lone i v n) ∙ one_there k in
      let both : byte_of k (get_or (lone i v n) i 0) ≡ byte_of l (get_or (lone i v n) j 0)
      = with_lone (StandSame (input_byte i k) (input_byte j l)) h i v (one_small k small) in
      let differ = λ (none : byte_of l (get_or (lone i v n) j 0) ≡ 0).
      never_one (sym here ∙ both ∙ none) in
      ⊎_elim
      (λ same. ⊎_elim (λ byte. ap (λ c. input_byte c k) (sym same) ∙ ap (input_byte j) (sym byte))
      (λ other. absurd (differ (ap (λ c. byte_of l (get_or (lone i v n) c 0)) same ∙ ap (byte_of l) (at_lone i v n)
      ∙ none_beside k l other)))
      (cases_eq l k))
      (λ other. absurd (differ (ap (byte_of l) (beside_lone i v n j other) ∙ byte_of_zero l))) (cases_eq j i)
    where
      never_one : ◌≡◌ {A = ℕ} 1 0 → ⊥
      never_one e = omega (arith, e)

  same_symbol : (x y : Symbol) → IsByte x → IsByte y → Always (StandSame x y) → x ≡ y
  same_symbol unset y a b h = absurd a
  same_symbol (fixed_byte v) unset a b h = absurd b
  same_symbol (fixed_byte v) (fixed_byte w) a b h =
      ap fixed_byte (with_lone (StandSame (fixed_byte v) (fixed_byte w)) h 0 0 (omega arith))
  same_symbol (fixed_byte v) (input_byte i k) a b h = absurd (fixed_input v i k b h)
  same_symbol (input_byte i k) unset a b h = absurd b
  same_symbol (input_byte i k) (fixed_byte v) a b h =
      absurd (fixed_input v i k a (λ inputs are long. sym (h inputs are long)))
  same_symbol (input_byte i k) (input_byte j l) a b h = two_inputs i k j l a h

  same_put : (xs ys : List Symbol) → IsNumber xs → IsNumber ys
      → Always (λ inputs. output_in inputs xs ≡ output_in inputs ys) → xs ≡ ys
  same_put xs ys a b h =
      let types : unsigned_of (length xs) ≡ unsigned_of (length ys)
      = ap (λ (o : Output). o.t) (with_lone (λ inputs. output_in inputs xs ≡ output_in inputs ys) h 0 0
      (omega arith)) in
      let long : length xs ≡ length ys
      = sym (unsigned_width (length xs) a.width) ∙ ap bytes_of types ∙ unsigned_width (length ys) b.width in
      ext_get_or unset xs ys long
      (λ k l.
      let other : k < length ys = omega (arith, l, long) in
      same_symbol (symbol_at xs k) (symbol_at ys k) (a.bytes.each k l) (b.bytes.each k other)
      (λ inputs are more.
      let same : number_in inputs xs ≡ number_in inputs ys
      = ap (λ (o : Output). unsigned_abs o.value) (h inputs are more) in
      sym (byte_of_number inputs (length xs) xs k a.bytes l) ∙ ap (byte_of k) same
      ∙ byte_of_number inputs (length ys) ys k b.bytes other))

  pub same_outputs : (xss yss : List (List Symbol)) → AllByRecursion IsNumber xss → AllByRecursion IsNumber yss
      → Always (λ inputs. outputs_in inputs xss ≡ outputs_in inputs yss) → xss ≡ yss
  same_outputs [] [] a b h = refl
  same_outputs [] (ys ∷ yss) a b h =
      absurd (let e = with_lone (λ inputs. outputs_in inputs [] ≡ outputs_in inputs (ys ∷ yss)) h 0 0 (omega arith) in
      cc)
  same_outputs (xs ∷ xss) [] a b h =
      absurd (let e = with_lone (λ inputs. outputs_in inputs (xs ∷ xss) ≡ outputs_in inputs []) h 0 0 (omega arith) in
      cc)
  same_outputs (xs ∷ xss) (ys ∷ yss) a b h =
      ap (λ zs. zs ∷ xss) (same_put xs ys a.0 b.0 (λ inputs are long. ap first_put (h inputs are long)))
      ∙ ap (λ zss. ys ∷ zss) (same_outputs xss yss a.1 b.1 (λ inputs are long. ap rest_put (h inputs are long)))
