-- Bytes of numbers, and what a domain knows of them and of their sums.
use Rattle.std.proofs.Common.{◌≡◌, ℕ, suc, ◌+◌, ◌-◌, ◌*◌, ◌/◌, ◌%◌, ◌^◌, ◌<◌, ◌≤◌, ℤ, pos, negsuc, ◌+ℤ◌, ◌*ℤ◌, true}
use Rattle.std.proofs.Common.{false, ◌&&◌, nat_le, int_le, int_lt, cond, IsTrue, IsSomeAnd, MatchResult, Result, Ok}
use Rattle.std.proofs.Common.{Err, Option, Some, None, refl, sym, ◌∙◌, ap, subst, arith}
use Rattle.std.specs.Option.{option_map}
use Rattle.std.specs.Int.{int_shr}
use Rattle.std.proofs.lemmas.Int.{ints}
use Rattle.std.proofs.lemmas.Bool.{cond-true}
use Rattle.std.proofs.lemmas.Nat.{field_of, pow-add, pow_pos, div-add-mod', mod_below, div_below, div-mul-add}
use Rattle.std.proofs.Math.IntN.{pos-*ℤ-pos, pos-+ℤ-pos}
use Rattle.ep_int.specs.declared.types.IntType.{IntType}
use Rattle.ep_int.specs.declared.types.IntType.TheVariants.{I8, U8, I16, U16, I32, U32, I64, U64}
use Rattle.ep_int.specs.declared.types.BinOp.{BinOp}
use Rattle.ep_int.specs.declared.types.BinOp.TheVariants.{Add, Mul, Shr}
use Rattle.ep_int.specs.declared.types.Undef.{Undef}
use Rattle.ep_int.specs.declared.types.Undef.TheVariants.{Overflow, Shift}
use Rattle.ep_int.specs.Types.{bytes_of, bits_of, is_signed, InRange, residue, representation, wrapped}
use Rattle.ep_int.specs.Arith.{IsOfSomeType, arith_of, is_amount, settled}
use Rattle.ep_int.specs.Encoding.{byte_of}
use Rattle.ep_int.proofs.Arithmetic.{settled_unsigned, in_range_some_type}
use Rattle.ep_int.proofs.Encodings.{bytes_pow}
use Rattle.ep_int.proofs.Wrapping.{represented_in_range, wrapped_same}
use Rattle.ep_bitslice.proofs.Numbers.{residue-split}
use Rattle.ep_range_laws.specs.Faults.{Takes}
use Rattle.ep_domain.specs.Domain.{Ops, Holds, Lawful}
use Rattle.ep_reads.specs.Bytes.{byte_value}
use Rattle.ep_reads.specs.Read.{unsigned_of}

-- ---- the bytes of a number, by shifts

rest_of : (a hi d : ℕ) → a ≡ hi + suc d → (w lo : ℕ) → lo < w → a * w - 1 - (hi * w + lo) ≡ d * w + (w - 1 - lo)
rest_of a hi d e w lo h = rw e (omega arith)

complement_div : (a w n : ℕ) → 0 < w → n < a * w → (a * w - 1 - n) / w ≡ a - 1 - n / w
complement_div a w n p h =
    let hi : n / w < a = div_below n w a p h in
    let lo : n % w < w = mod_below n w p in
    let e : a ≡ n / w + suc (a - 1 - n / w) = omega arith in
    let n_is : n / w * w + n % w ≡ n = div-add-mod' n w in
    ap (λ x. (a * w - 1 - x) / w) (sym n_is)
    ∙ ap (λ x. x / w) (rest_of a (n / w) (a - 1 - n / w) e w (n % w) lo)
    ∙ div-mul-add (a - 1 - n / w) w (w - 1 - n % w) (omega arith)

-- the bits from k on are those of the number that is shifted by k
residue_shifted : (j k : ℕ) (v : ℤ) → residue (2 ^ j) (int_shr v k) ≡ residue (2 ^ (j + k)) v / 2 ^ k
residue_shifted j k (pos n) = sym (field_of n j k)
residue_shifted j k (negsuc n) =
    let x : ℕ = n % 2 ^ (j + k) in
    let m_is : 2 ^ (j + k) ≡ 2 ^ j * 2 ^ k = pow-add 2 j k in
    let below : x < 2 ^ j * 2 ^ k = subst (λ z. x < z) m_is (mod_below n (2 ^ (j + k)) (pow_pos (j + k))) in
    ap (λ y. 2 ^ j - 1 - y) (sym (field_of n j k))
    ∙ sym (complement_div (2 ^ j) (2 ^ k) x (pow_pos k) below)
    ∙ ap (λ z. (z - 1 - x) / 2 ^ k) (sym m_is)

pub byte_is : (t : IntType) (v : ℤ) (k : ℕ) → k < bytes_of t
    → wrapped U8 (int_shr v (8 * k)) ≡ pos (byte_of k (representation t v))
byte_is t v k h =
    let i : ℕ = 8 * (bytes_of t - 1 - k) in
    let e : bits_of t ≡ (i + 8) + 8 * k = omega arith in
    ap pos
    (sym (residue-split i 8 (int_shr v (8 * k)))
    ∙ ap (λ r. r % 256) (residue_shifted (i + 8) (8 * k) v)
    ∙ ap (λ b. residue (2 ^ b) v / 2 ^ (8 * k) % 256) (sym e)
    ∙ ap (λ m. residue (2 ^ bits_of t) v / m % 256) (sym (bytes_pow k)))

pub below_tests : (m n : ℕ) → m < n → (int_le (pos 0) (pos m) && int_lt (pos m) (pos n)) ≡ true
below_tests m n h = grind (arith, ints)

pub shift_is : (t : IntType) (v : ℤ) (k : ℕ) → k < bytes_of t → arith_of Shr t v (pos (8 * k)) ≡ Ok (int_shr v (8 * k))
shift_is t v k h =
    cond-true (is_amount t (pos (8 * k))) (Ok (int_shr v (8 * k))) (Err Shift) (below_tests (8 * k) (bits_of t)
    (omega arith))

pub at_most_eight : (t : IntType) → bytes_of t ≤ 8
at_most_eight I8 = omega arith
at_most_eight U8 = omega arith
at_most_eight I16 = omega arith
at_most_eight U16 = omega arith
at_most_eight I32 = omega arith
at_most_eight U32 = omega arith
at_most_eight I64 = omega arith
at_most_eight U64 = omega arith

pub small_number : (n : ℕ) → n < 64 → IsOfSomeType (pos n)
small_number n h = record { low = omega (arith, ints); high = omega (arith, ints) }

-- ---- what a domain gives

-- there is a value, of which P holds
pub record Gives {N : Type 0} (o : Option N) (P : N → Type 0) : Type 0 where
  pub one : N
  pub is : o ≡ Some one
  pub holds : P one

gives : {N : Type 0} (o : Option N) (P : N → Type 0) → IsSomeAnd o P → Gives o P
gives None P h = absurd h
gives (Some c) P h = record { one = c; is = refl; holds = h }

result_held : {N : Type 0} (D : Ops N) → Lawful D → (o : BinOp) (t : IntType) (a b : N) (x y z : ℤ) → Takes o t x y
    → arith_of o t x y ≡ Ok z → Holds D a x → Holds D b y → Gives (D.op o t a b).value (λ c. Holds D c z)
result_held D law o t a b x y z takes e p q =
    gives (D.op o t a b).value (λ c. Holds D c z)
    (subst
    (λ r. MatchResult r (λ v. IsSomeAnd (D.op o t a b).value (λ c. Holds D c v)) (λ _. IsTrue (D.op o t a b).fault)) e
    (law.op_holds o t a b x y takes p q))

-- byte k of a number
pub byte_held : {N : Type 0} (D : Ops N) → Lawful D → (t : IntType) (k : ℕ) (n : N) (z : ℤ) → k < bytes_of t
    → InRange t z → Holds D n z
    → Gives (byte_value D t k n) (λ c. Holds D c (pos (byte_of k (representation t z))))
byte_held D law t k n z h r p =
    let amount : IsOfSomeType (pos (8 * k)) = small_number (8 * k) (omega (arith, at_most_eight t)) in
    let g = result_held D law Shr t n (D.single (pos (8 * k))) z (pos (8 * k)) (int_shr z (8 * k)) (record {
      left = r;
      right = amount;
    }) (shift_is t z k h) p (law.single_holds (pos (8 * k)) amount) in
    record {
      one = D.convert g.one U8;
      is = ap (option_map (λ v. D.convert v U8)) g.is;
      holds = subst (Holds D (D.convert g.one U8)) (byte_is t z k h) (law.convert_holds g.one U8 (int_shr z (8 * k))
          g.holds);
    }

-- ---- sums and products of an unsigned type

pub is_unsigned : (t : IntType) → is_signed (unsigned_of t) ≡ false
is_unsigned I8 = refl
is_unsigned U8 = refl
is_unsigned I16 = refl
is_unsigned U16 = refl
is_unsigned I32 = refl
is_unsigned U32 = refl
is_unsigned I64 = refl
is_unsigned U64 = refl

pub bytes_of_unsigned : (t : IntType) → bytes_of (unsigned_of t) ≡ bytes_of t
bytes_of_unsigned I8 = refl
bytes_of_unsigned U8 = refl
bytes_of_unsigned I16 = refl
bytes_of_unsigned U16 = refl
bytes_of_unsigned I32 = refl
bytes_of_unsigned U32 = refl
bytes_of_unsigned I64 = refl
bytes_of_unsigned U64 = refl

pub unsigned_in_range : (u : IntType) (n : ℕ) → is_signed u ≡ false → n < 2 ^ bits_of u → InRange u (pos n)
unsigned_in_range u n e h =
    subst (InRange u)
    (ap (λ b. cond (b && nat_le (2 ^ (bits_of u - 1)) n) (negsuc (2 ^ bits_of u - 1 - n)) (pos n)) e)
    (represented_in_range u n h)

pub settled_is : (u : IntType) (v : ℤ) (n : ℕ) → is_signed u ≡ false → v ≡ pos n → n < 2 ^ bits_of u
    → settled Overflow u v ≡ Ok (pos n)
settled_is u v n e i h =
    sym (settled_unsigned Overflow u v e)
    ∙ ap (λ z. let r : Result ℤ Undef = Ok z in r) (ap (wrapped u) i ∙ wrapped_same u (pos n) (unsigned_in_range u n e
    h))

pub product_held : {N : Type 0} (D : Ops N) → Lawful D → (u : IntType) (a b : N) (x y : ℕ) → is_signed u ≡ false
    → x < 2 ^ bits_of u → y < 2 ^ bits_of u → x * y < 2 ^ bits_of u → Holds D a (pos x) → Holds D b (pos y)
    → Gives (D.op Mul u a b).value (λ c. Holds D c (pos (x * y)))
product_held D law u a b x y e h i l p q =
    result_held D law Mul u a b (pos x) (pos y) (pos (x * y)) (record {
      left = unsigned_in_range u x e h;
      right = unsigned_in_range u y e i;
    }) (settled_is u (pos x *ℤ pos y) (x * y) e (pos-*ℤ-pos x y) l) p q

pub sum_held : {N : Type 0} (D : Ops N) → Lawful D → (u : IntType) (a b : N) (x y : ℕ) → is_signed u ≡ false
    → x + y < 2 ^ bits_of u → Holds D a (pos x) → Holds D b (pos y)
    → Gives (D.op Add u a b).value (λ c. Holds D c (pos (x + y)))
sum_held D law u a b x y e l p q =
    result_held D law Add u a b (pos x) (pos y) (pos (x + y)) (record {
      left = unsigned_in_range u x e (omega arith);
      right = unsigned_in_range u y e (omega arith);
    }) (settled_is u (pos x +ℤ pos y) (x + y) e (pos-+ℤ-pos x y) l) p q

-- a number below 2 to the width of an unsigned type, as a single one
pub single_held : {N : Type 0} (D : Ops N) → Lawful D → (u : IntType) (n : ℕ) → is_signed u ≡ false
    → n < 2 ^ bits_of u → Holds D (D.single (pos n)) (pos n)
single_held D law u n e h =
    law.single_holds (pos n) (in_range_some_type u (pos n) (unsigned_in_range u n e h))
