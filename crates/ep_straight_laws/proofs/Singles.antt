-- What is known of a byte of a number: of a single number a single byte.
use Rattle.std.proofs.Common.{◌≡◌, ℕ, ◌*◌, ◌<◌, ◌≤◌, ℤ, pos, ◌≤ℤ◌, [], ◌∷◌, IsSomeAnd, MatchResult, Result, Ok, Err}
use Rattle.ep_reads.proofs.ByteCells.{byte_in_range}
use Rattle.std.proofs.Common.{refl, sym, ap, ◌∙◌, subst, Option, Some, None, arith}
use Rattle.std.specs.Option.{option_map}
use Rattle.std.proofs.lemmas.Int.{ints}
use Rattle.ep_int.specs.declared.types.IntType.{IntType}
use Rattle.ep_int.specs.declared.types.IntType.TheVariants.{U8}
use Rattle.ep_int.specs.declared.types.BinOp.{BinOp}
use Rattle.ep_int.specs.declared.types.BinOp.TheVariants.{Mul, Shr}
use Rattle.ep_int.specs.declared.types.Undef.{Undef}
use Rattle.ep_int.specs.Types.{InRange, bytes_of, representation, wrapped}
use Rattle.ep_int.specs.Arith.{IsOfSomeType, arith_of}
use Rattle.ep_int.specs.Encoding.{byte_of}
use Rattle.ep_int.proofs.Encodings.{byte_below}
use Rattle.ep_int.proofs.Wrapping.{wrapped_same}
use Rattle.ep_range_laws.specs.Faults.{Takes}
use Rattle.ep_domain.specs.Domain.{Ops, Lawful, Holds, IsSingle}
use Rattle.ep_cells.specs.declared.cell.Cell.{Cell}
use Rattle.ep_cells.specs.declared.cell.Value.{Value}
use Rattle.ep_cells.specs.declared.cell.Value.TheVariants.{Num}
use Rattle.ep_reads.specs.Bytes.{byte_value, number_byte}
use Rattle.ep_reads.specs.Read.{weighted, integer_read}
use Rattle.ep_reads.proofs.Numbers.{at_most_eight, byte_held, product_held}

small : (e : ℕ) → e ≤ 64 → IsOfSomeType (pos e)
small e h = record { low = omega (arith, ints); high = omega (arith, ints, h) }

module _ {N : Type 0} (D : Ops N) (law : Lawful D) where
  -- of one number alone, it is that which is held
  only : (n : N) (v z : ℤ) → IsSingle D n v → Holds D n z → IsSingle D n z
  only n v z s h =
      let e = law.range_encloses n z h in
      let q : D.range n ≡ (v, v) = s in
      let low : v ≤ℤ z = subst (λ r. r.0 ≤ℤ z) q e.low in
      let high : z ≤ℤ v = subst (λ r. z ≤ℤ r.1) q e.high in
      let same : v ≡ z = omega (arith, ints, low, high) in
      subst (λ u. D.range n ≡ (u, u)) same s

  one_by : (r : Result ℤ Undef) (c : N) (o : Option N) → o ≡ Some c
      → MatchResult r (λ v. IsSomeAnd o (λ d. IsSingle D d v)) (λ _. o ≡ None) → (v : ℤ) × IsSingle D c v
  one_by (Ok v) c o e h = (v, subst (λ u. IsSomeAnd u (λ d. IsSingle D d v)) e h)
  one_by (Err u) c o e h = absurd (let z : Some c ≡ None = sym e ∙ h in cc)

  op_one : (o : BinOp) (t : IntType) (a b c : N) (x y : ℤ) → Takes o t x y → IsSingle D a x → IsSingle D b y
      → (D.op o t a b).value ≡ Some c → (v : ℤ) × IsSingle D c v
  op_one o t a b c x y takes p q e =
      one_by (arith_of o t x y) c (D.op o t a b).value e (law.op_single o t a b x y takes p q)

  -- a number is known, alone where `sure`
  pub record IsKnown (o : Option N) (z : ℤ) (sure : Type 0) : Type 0 where
    pub one : N
    pub is : o ≡ Some one
    pub held : Holds D one z
    pub single : sure → IsSingle D one z

  abbrev narrowed : Option N → Option N
  narrowed o = option_map (λ v. D.convert v U8) o

  narrowed_from : (o : Option N) (c : N) → narrowed o ≡ Some c → (d : N) × ((o ≡ Some d) × (D.convert d U8 ≡ c))
  narrowed_from None c e = absurd (cc)
  narrowed_from (Some d) c e = (d, (refl, cc))

  part : (n : N) (t : IntType) (z : ℤ) → InRange t z → Holds D n z → (k : ℕ) → k < bytes_of t
      → IsKnown (byte_value D t k n) (pos (byte_of k (representation t z))) (IsSingle D n z)
  part n t z ranged held k h =
      let g = byte_held D law t k n z h ranged held in
      let amount : IsOfSomeType (pos (8 * k)) = small (8 * k) (omega (arith, h, at_most_eight t)) in
      let by = D.single (pos (8 * k)) in
      let f = narrowed_from (D.op Shr t n by).value g.one g.is in
      record {
        one = g.one;
        is = g.is;
        held = g.holds;
        single = λ s.
            let v = op_one Shr t n by f.0 z (pos (8 * k)) (record { left = ranged; right = amount }) s
            (law.single_range (pos (8 * k)) amount) f.1.0 in
            only g.one (wrapped U8 v.0) (pos (byte_of k (representation t z)))
            (subst (λ c. IsSingle D c (wrapped U8 v.0)) f.1.1 (law.convert_single f.0 U8 v.0 v.1)) g.holds;
      }

  -- by the weight 1
  product : (c : N) (e : ℕ) → e < 256 → Holds D c (pos e)
      → IsKnown (narrowed (D.op Mul U8 c (D.single (pos 1))).value) (pos e) (IsSingle D c (pos e))
  product c e h held =
      let one : IsOfSomeType (pos 1) = small 1 (omega arith) in
      let g = product_held D law U8 c (D.single (pos 1)) e 1 refl (omega (arith, h)) (omega arith) (omega
      (arith, h)) held
      (law.single_holds (pos 1) one) in
      let n : e * 1 ≡ e = omega arith in
      let holds : Holds D (D.convert g.one U8) (pos e)
      = subst (Holds D (D.convert g.one U8)) (ap (λ z. wrapped U8 (pos z)) n ∙ wrapped_same U8 (pos e)
      (byte_in_range e h))
      (law.convert_holds g.one U8 (pos (e * 1)) g.holds) in
      record {
        one = D.convert g.one U8;
        is = ap narrowed g.is;
        held = holds;
        single = λ s.
            let v = op_one Mul U8 c (D.single (pos 1)) g.one (pos e) (pos 1) (record {
              left = byte_in_range e h;
              right = byte_in_range 1 (omega arith);
            }) s (law.single_range (pos 1) one) g.is in
            only (D.convert g.one U8) (wrapped U8 v.0) (pos e) (law.convert_single g.one U8 v.0 v.1) holds;
      }

  -- ---- as it is read

  abbrev pub part_read : Cell N → IntType → (byte : ℕ) → N → Option (Value N)
  part_read x t k n = (integer_read D U8 (number_byte D x t k n ∷ [])).value

  pub record IsRead (v : Option (Value N)) (z : ℤ) (sure : Type 0) : Type 0 where
    pub one : N
    pub is : v ≡ Some (Num one)
    pub single : sure → IsSingle D one z

  numbered : (o : Option N) (c : N) → narrowed o ≡ Some c → option_map (λ v. Num (D.convert v U8)) o ≡ Some (Num c)
  numbered None c e = absurd (cc)
  numbered (Some d) c e = let q : D.convert d U8 ≡ c = cc in ap (λ u. Some (Num u)) q

  pub read_part : (x : Cell N) (n : N) (t : IntType) (z : ℤ) → InRange t z → Holds D n z → (k : ℕ) → k < bytes_of t
      → IsRead (part_read x t k n) (pos (byte_of k (representation t z))) (IsSingle D n z)
  read_part x n t z ranged held k h =
      let e = byte_of k (representation t z) in
      let a = part n t z ranged held k h in
      let b = product a.one e (byte_below k (representation t z)) a.held in
      record {
        one = b.one;
        is = ap (λ o. option_map (λ v. Num (D.convert v U8)) (weighted D U8 0 (option_map Num o))) a.is
            ∙ numbered (D.op Mul U8 a.one (D.single (pos 1))).value b.one b.is;
        single = λ s. b.single (a.single s);
      }
