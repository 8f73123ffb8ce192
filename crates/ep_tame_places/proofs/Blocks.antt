-- Blocks of a program, and arrays in them.
use Rattle.std.proofs.Common.{◌≡◌, ℕ, zero, suc, ◌*◌, ◌≤◌, true, [], ◌∷◌, sum_by, slice_get, Option, Some, None}
use Rattle.ep_alarm_laws.proofs.Places.{among}
use Rattle.ep_int.proofs.Basics.{some-injective}
use Rattle.std.proofs.Common.{nat_le, sym, ap, ◌∙◌, arith}
use Rattle.std.specs.Prelude.{option_map}
use Rattle.std.specs.List.{list_all}
use Rattle.std.proofs.Math.Nat.{mul_comm, mul-zero, zero-mul, le-mul_of_pos_right}
use Rattle.std.proofs.lemmas.Bool.{eqb-true, leb-true, and_parts}
use Rattle.ep_layout.specs.Table.{Table, IsBuilt, size, elements_of}
use Rattle.ep_layout.specs.Layout.{Layout}
use Rattle.ep_layout.proofs.Sizes.{element_laid}
use Rattle.ep_core.specs.Program.{Block, Program}
use Rattle.ep_core.specs.WellFormed.{block_fits, blocks_fit, is_number}
use Rattle.ep_core.proofs.Sorts.{all_at}
use Rattle.ep_kinds.specs.Tame.{are_tame_types}
use Rattle.ep_tame_laws.proofs.Found.{array_at, array_size}
use Rattle.ep_tame_values.specs.Offsets.{IsArrayOf}
use Rattle.ep_tame_types.proofs.Types.{array_of}

-- what a block that fits has
pub record BlockHas (t : Table) (x : Block) : Type 0 where
  pub sized : size t x.ty ≡ Some x.size
  pub some : 1 ≤ x.size
  pub small : x.size ≤ 65536

pub is_number_of : (o : Option ℕ) (n : ℕ) → is_number o n ≡ true → o ≡ Some n
is_number_of None n h = absurd cc
is_number_of (Some m) n h = ap Some (eqb-true m n h)

pub block_at : (p : Program) → blocks_fit p.types p.blocks ≡ true → (b : ℕ) (x : Block) → slice_get p.blocks b ≡ Some x
    → BlockHas p.types x
block_at p fit b x e =
    let two = and_parts (list_all (block_fits p.types) p.blocks)
    (nat_le (sum_by (λ (y : Block). y.size) p.blocks) 65536) fit in
    let one = and_parts (is_number (size p.types x.ty) x.size) (nat_le 1 x.size)
    (all_at (block_fits p.types) p.blocks b x two.0 e) in
    record {
      sized = is_number_of (size p.types x.ty) x.size one.0;
      some = leb-true 1 x.size one.1;
      small = among p.blocks b 65536 x (leb-true (sum_by (λ (y : Block). y.size) p.blocks) 65536 two.1) e;
    }

-- factors of a number that isn't 0 are not, and are no greater
parts_of : (a b n : ℕ) → a * b ≡ n → 1 ≤ n → (1 ≤ a) × (1 ≤ b) × (a ≤ n) × (b ≤ n)
parts_of zero b n e h = let z = zero-mul b in absurd (omega (arith, z, e, h))
parts_of (suc a) zero n e h = let z = mul-zero (suc a) in absurd (omega (arith, z, e, h))
parts_of (suc a) (suc b) n e h =
    let left : suc a ≤ suc a * suc b = le-mul_of_pos_right (suc a) (omega arith) in
    let right : suc b ≤ suc b * suc a = le-mul_of_pos_right (suc b) (omega arith) in
    let turn = mul_comm (suc a) (suc b) in
    (omega arith, omega arith, omega (arith, left, e), omega (arith, right, turn, e))

-- an array of so many bytes, which aren't none
pub array_in : (t : Table) → IsBuilt t → are_tame_types t ≡ true → (a e k z : ℕ) → elements_of t a ≡ Some (e, k)
    → size t a ≡ Some z → 1 ≤ z → z ≤ 65536 → (u : ℕ) × IsArrayOf t a e k u
array_in t built tame a e k z el sz some small =
    let l = element_laid t built a e k (array_at t a e k el) in
    let own : size t e ≡ Some l.0.size = ap (option_map (λ (l : Layout). l.size)) l.1 in
    let whole = array_size t built a e k l.0.size (array_at t a e k el) own in
    let parts = parts_of k l.0.size z (some-injective (sym whole ∙ sz)) some in
    let less = parts.3 in
    (l.0.size, array_of t built tame a e k l.0.size el own parts.0 parts.1 (omega (arith, less, small)))
