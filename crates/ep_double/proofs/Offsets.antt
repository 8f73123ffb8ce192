-- Constants as indices and as numbers of units.
use Rattle.std.proofs.Common.{◌≡◌, ℕ, ◌*◌, ◌-◌, ◌^◌, ◌<◌, ◌≤◌, ℤ, Bool, true, false, ◌&&◌, nat_lt, nat_le}
use Rattle.std.proofs.Common.{if◌then◌else◌, Some, Ok, Err, sym, ap, ◌∙◌, arith}
use Rattle.std.proofs.Math.Nat.{mul-le-mul}
use Rattle.std.proofs.lemmas.Bool.{lt-ltb, le-ltb, le-leb, lt-leb}
use Rattle.ep_int.specs.declared.types.IntType.TheVariants.{U32}
use Rattle.ep_int.specs.Arith.{is_in_range}
use Rattle.ep_int.specs.Types.{residue}
use Rattle.ep_movers.specs.declared.Stop.TheVariants.{Faulty}
use Rattle.ep_movers.specs.Movers.{offset_of, offset_to}

pub product_within : (a b : ℕ) → a < 2 ^ 32 → b < 2 ^ 32 → a * b ≤ (2 ^ 32 - 1) * (2 ^ 32 - 1)
product_within a b h d =
    let x : a ≤ 2 ^ 32 - 1 = omega (arith, h) in let y : b ≤ 2 ^ 32 - 1 = omega (arith, d) in mul-le-mul x y

module _ (v : ℤ) (b : Bool) (range : b ≡ is_in_range U32 v) (bound unit : ℕ) where
  pub index_outside : b ≡ false → Err Faulty ≡ offset_of bound unit (Some v)
  index_outside e =
      sym (ap (λ t. if t && nat_lt (residue (2 ^ 32) v) bound then Ok (unit * residue (2 ^ 32) v) else Err Faulty)
      (sym range ∙ e))

  pub units_outside : b ≡ false → Err Faulty ≡ offset_to bound unit (Some v)
  units_outside e =
      sym (ap (λ t. if t && nat_le (unit * residue (2 ^ 32) v) bound then Ok (unit * residue (2 ^ 32) v) else Err Faulty)
      (sym range ∙ e))

  module _ (inside : b ≡ true) (n : ℕ) (is : n ≡ residue (2 ^ 32) v) where
    index_test : (t : Bool) → nat_lt n bound ≡ t
        → offset_of bound unit (Some v) ≡ (if t then Ok (unit * n) else Err Faulty)
    index_test t h =
        ap (λ t. if t && nat_lt (residue (2 ^ 32) v) bound then Ok (unit * residue (2 ^ 32) v) else Err Faulty)
        (sym range ∙ inside)
        ∙ (ap (λ k. if nat_lt k bound then Ok (unit * k) else Err Faulty) (sym is)
        ∙ ap (λ t. if t then Ok (unit * n) else Err Faulty) h)

    pub index_past : bound ≤ n → Err Faulty ≡ offset_of bound unit (Some v)
    index_past h = sym (index_test false (le-ltb n bound h))

    pub index_in : n < bound → (q : ℕ) → q ≡ unit * n → Ok q ≡ offset_of bound unit (Some v)
    index_in h q e = ap Ok e ∙ sym (index_test true (lt-ltb n bound h))

    units_test : (t : Bool) → nat_le (unit * n) bound ≡ t
        → offset_to bound unit (Some v) ≡ (if t then Ok (unit * n) else Err Faulty)
    units_test t h =
        ap (λ t. if t && nat_le (unit * residue (2 ^ 32) v) bound then Ok (unit * residue (2 ^ 32) v) else Err Faulty)
        (sym range ∙ inside)
        ∙ (ap (λ k. if nat_le (unit * k) bound then Ok (unit * k) else Err Faulty) (sym is)
        ∙ ap (λ t. if t then Ok (unit * n) else Err Faulty) h)

    pub units_past : (q : ℕ) → q ≡ unit * n → bound < q → Err Faulty ≡ offset_to bound unit (Some v)
    units_past q e h = sym (units_test false (lt-leb (unit * n) bound (omega (arith, e, h))))

    pub units_in : (q : ℕ) → q ≡ unit * n → q ≤ bound → Ok q ≡ offset_to bound unit (Some v)
    units_in q e h = ap Ok e ∙ sym (units_test true (le-leb (unit * n) bound (omega (arith, e, h))))
