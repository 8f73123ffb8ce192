-- Bytes of single numbers, and sums of such bytes, are single.
use Rattle.std.proofs.Common.{◌≡◌, ℕ, zero, suc, ◌+◌, ◌-◌, ◌*◌, ◌^◌, ◌<◌, ◌≤◌, zero-add, add-zero, ℤ, pos}
use Rattle.ep_reads.proofs.Numbers.{settled_is, shift_is, unsigned_in_range}
use Rattle.std.proofs.Common.{◌+ℤ◌, ◌*ℤ◌, false, ◌&&◌, IsSomeAnd, MatchResult}
use Rattle.std.proofs.Common.{Ok, Option, Some, None, refl, sym, ◌∙◌, ap, subst, arith}
use Rattle.std.specs.Option.{option_map}
use Rattle.std.specs.Int.{int_shr}
use Rattle.std.proofs.Math.Nat.{pow-suc, pow-le-pow_right, le-mul_of_pos_right}
use Rattle.std.proofs.Math.IntN.{pos-*ℤ-pos, pos-+ℤ-pos}
use Rattle.ep_int.specs.declared.types.IntType.{IntType}
use Rattle.ep_int.specs.declared.types.IntType.TheVariants.{U8}
use Rattle.ep_int.specs.declared.types.BinOp.{BinOp}
use Rattle.ep_int.specs.declared.types.BinOp.TheVariants.{Add, Mul, Shr}
use Rattle.ep_int.specs.Types.{bytes_of, bits_of, is_signed, InRange, representation}
use Rattle.ep_int.specs.Arith.{IsOfSomeType, arith_of}
use Rattle.ep_int.specs.Encoding.{byte_of, sum_of_bytes}
use Rattle.ep_int.proofs.Arithmetic.{in_range_some_type}
use Rattle.ep_int.proofs.Encodings.{bytes_pow, bytes_pow_pos}
use Rattle.ep_range_laws.specs.Faults.{Takes}
use Rattle.ep_domain.specs.Domain.{Ops, IsSingle, Lawful}
use Rattle.ep_cells.specs.declared.cell.Value.TheVariants.{Num}
use Rattle.ep_reads.specs.declared.read.ReadValue.{ReadValue}
use Rattle.ep_reads.specs.Bytes.{byte_value}
use Rattle.ep_reads.specs.Read.{bytes_from, weighted, plus, sum_after, sum_of}
use Rattle.ep_reads.proofs.Numbers.{Gives, byte_is, at_most_eight, small_number}
use Rattle.ep_reads.proofs.Sums.{sum_below}

gives : {N : Type 0} (o : Option N) (P : N → Type 0) → IsSomeAnd o P → Gives o P
gives None P h = absurd h
gives (Some c) P h = record { one = c; is = refl; holds = h }

result_single : {N : Type 0} (D : Ops N) → Lawful D → (o : BinOp) (t : IntType) (a b : N) (x y z : ℤ) → Takes o t x y
    → arith_of o t x y ≡ Ok z → IsSingle D a x → IsSingle D b y → Gives (D.op o t a b).value (λ c. IsSingle D c z)
result_single D law o t a b x y z takes e p q =
    gives (D.op o t a b).value (λ c. IsSingle D c z)
    (subst
    (λ r. MatchResult r (λ v. IsSomeAnd (D.op o t a b).value (λ c. IsSingle D c v))
    (λ _. (D.op o t a b).value ≡ None)) e (law.op_single o t a b x y takes p q))

-- ---- byte k of a number, by a shift

pub byte_single : {N : Type 0} (D : Ops N) → Lawful D → (t : IntType) (k : ℕ) (n : N) (z : ℤ) → k < bytes_of t
    → InRange t z → IsSingle D n z
    → Gives (byte_value D t k n) (λ c. IsSingle D c (pos (byte_of k (representation t z))))
byte_single D law t k n z h r p =
    let amount : IsOfSomeType (pos (8 * k)) = small_number (8 * k) (omega (arith, at_most_eight t)) in
    let g = result_single D law Shr t n (D.single (pos (8 * k))) z (pos (8 * k)) (int_shr z (8 * k)) (record {
      left = r;
      right = amount;
    }) (shift_is t z k h) p (law.single_range (pos (8 * k)) amount) in
    record {
      one = D.convert g.one U8;
      is = ap (option_map (λ v. D.convert v U8)) g.is;
      holds = subst (IsSingle D (D.convert g.one U8)) (byte_is t z k h)
          (law.convert_single g.one U8 (int_shr z (8 * k)) g.holds);
    }

-- ---- sums and products of an unsigned type

product_single : {N : Type 0} (D : Ops N) → Lawful D → (u : IntType) (a b : N) (x y : ℕ) → is_signed u ≡ false
    → x < 2 ^ bits_of u → y < 2 ^ bits_of u → x * y < 2 ^ bits_of u → IsSingle D a (pos x) → IsSingle D b (pos y)
    → Gives (D.op Mul u a b).value (λ c. IsSingle D c (pos (x * y)))
product_single D law u a b x y e h i l p q =
    result_single D law Mul u a b (pos x) (pos y) (pos (x * y)) (record {
      left = unsigned_in_range u x e h;
      right = unsigned_in_range u y e i;
    }) (settled_is u (pos x *ℤ pos y) (x * y) e (pos-*ℤ-pos x y) l) p q

sum_single : {N : Type 0} (D : Ops N) → Lawful D → (u : IntType) (a b : N) (x y : ℕ) → is_signed u ≡ false
    → x + y < 2 ^ bits_of u → IsSingle D a (pos x) → IsSingle D b (pos y)
    → Gives (D.op Add u a b).value (λ c. IsSingle D c (pos (x + y)))
sum_single D law u a b x y e l p q =
    result_single D law Add u a b (pos x) (pos y) (pos (x + y)) (record {
      left = unsigned_in_range u x e (omega arith);
      right = unsigned_in_range u y e (omega arith);
    }) (settled_is u (pos x +ℤ pos y) (x + y) e (pos-+ℤ-pos x y) l) p q

number_single : {N : Type 0} (D : Ops N) → Lawful D → (u : IntType) (n : ℕ) → is_signed u ≡ false
    → n < 2 ^ bits_of u → IsSingle D (D.single (pos n)) (pos n)
number_single D law u n e h =
    law.single_range (pos n) (in_range_some_type u (pos n) (unsigned_in_range u n e h))

-- ---- an integer from its bytes

-- what is read is this number alone
pub record IsSingleByte {N : Type 0} (D : Ops N) (r : ReadValue N) (v : ℕ) : Type 0 where
  pub below : v < 256
  pub one : N
  pub reads : r.value ≡ Some (Num one)
  pub single : IsSingle D one (pos v)

weighted_single : {N : Type 0} (D : Ops N) → Lawful D → (u : IntType) (i v : ℕ) (r : ReadValue N)
    → is_signed u ≡ false → IsSingleByte D r v → i < bytes_of u → v * 256 ^ i < 2 ^ bits_of u
    → Gives (weighted D u i r.value) (λ c. IsSingle D c (pos (v * 256 ^ i)))
weighted_single D law u i v r e h l b =
    let more : 256 ^ (i + 1) ≤ 256 ^ bytes_of u = pow-le-pow_right (omega arith) (omega arith) in
    let next : 256 ^ (i + 1) ≡ 256 ^ suc i = ap (λ k. 256 ^ k) (omega arith) in
    let step = pow-suc 256 i in
    let top = bytes_pow (bytes_of u) in
    let weight : 256 ^ i < 2 ^ bits_of u = omega (arith, more, next, step, top, bytes_pow_pos i) in
    let small : v < 2 ^ bits_of u = omega (arith, le-mul_of_pos_right v (bytes_pow_pos i), b) in
    let g = product_single D law u h.one (D.single (pos (256 ^ i))) v (256 ^ i) e small weight b h.single
    (number_single D law u (256 ^ i) e weight) in
    record { one = g.one; is = ap (weighted D u i) h.reads ∙ g.is; holds = g.holds }

plus_single : {N : Type 0} (D : Ops N) → Lawful D → (u : IntType) (a b : Option N) (x y : ℕ) → is_signed u ≡ false
    → x + y < 2 ^ bits_of u → Gives a (λ c. IsSingle D c (pos x)) → Gives b (λ c. IsSingle D c (pos y))
    → Gives (plus D u a b) (λ c. IsSingle D c (pos (x + y)))
plus_single D law u a b x y e l p q =
    let g = sum_single D law u p.one q.one x y e l p.holds q.holds in
    record {
      one = g.one;
      is = ap (λ z. plus D u z b) p.is ∙ ap (plus D u (Some p.one)) q.is ∙ g.is;
      holds = g.holds;
    }

after_single : {N : Type 0} (D : Ops N) → Lawful D → (u : IntType) (f : ℕ → ReadValue N) (v : ℕ → ℕ) (i k : ℕ)
    (a : Option N) → is_signed u ≡ false → ((j : ℕ) → j < bytes_of u → IsSingleByte D (f j) (v j))
    → i + k ≤ bytes_of u → Gives a (λ c. IsSingle D c (pos (sum_of_bytes v i)))
    → Gives (sum_after D u a i (bytes_from f i k)) (λ c. IsSingle D c (pos (sum_of_bytes v (i + k))))
after_single D law u f v i zero a e h l g =
    subst (λ j. Gives a (λ c. IsSingle D c (pos (sum_of_bytes v j)))) (sym (add-zero i)) g
after_single D law u f v i (suc k) a e h l g =
    let all = sum_below v (bytes_of u) (suc i) (λ j m. (h j m).below) (omega arith) in
    let here = weighted_single D law u i (v i) (f i) e (h i (omega arith)) (omega arith) (omega (arith, all)) in
    let sum = plus_single D law u a (weighted D u i (f i).value) (sum_of_bytes v i) (v i * 256 ^ i) e all g here in
    let next : suc i ≡ i + 1 = omega arith in
    let end : i + 1 + k ≡ i + suc k = omega arith in
    let b = plus D u a (weighted D u i (f i).value) in
    subst (λ j. Gives (sum_after D u b (i + 1) (bytes_from f (i + 1) k)) (λ c. IsSingle D c (pos (sum_of_bytes v j))))
    end
    (after_single D law u f v (i + 1) k b e h (omega arith)
    (subst (λ j. Gives b (λ c. IsSingle D c (pos (sum_of_bytes v j)))) next sum))

pub all_single : {N : Type 0} (D : Ops N) → Lawful D → (u : IntType) (f : ℕ → ReadValue N) (v : ℕ → ℕ) (k : ℕ)
    → 0 < k → is_signed u ≡ false → ((j : ℕ) → j < bytes_of u → IsSingleByte D (f j) (v j)) → k ≤ bytes_of u
    → Gives (sum_of D u (bytes_from f 0 k)) (λ c. IsSingle D c (pos (sum_of_bytes v k)))
all_single D law u f v zero p e h l = absurd (omega arith)
all_single D law u f v (suc k) p e h l =
    let all = sum_below v (bytes_of u) 1 (λ j m. (h j m).below) (omega arith) in
    let first : v 0 * 256 ^ 0 ≡ sum_of_bytes v 1 = sym (zero-add (v 0 * 256 ^ 0)) in
    let here = weighted_single D law u 0 (v 0) (f 0) e (h 0 (omega arith)) (omega arith) (omega (arith, all, first)) in
    let end : 1 + k ≡ suc k = omega arith in
    let b = weighted D u 0 (f 0).value in
    subst (λ j. Gives (sum_after D u b 1 (bytes_from f 1 k)) (λ c. IsSingle D c (pos (sum_of_bytes v j)))) end
    (after_single D law u f v 1 k b e h (omega arith)
    (subst (λ x. Gives b (λ c. IsSingle D c (pos x))) first here))
