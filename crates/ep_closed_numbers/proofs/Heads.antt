-- A joint loop of a well-formed program has two heads at least: main's result has bytes.
use Rattle.std.proofs.Common.{◌≡◌, ℕ, ◌+◌, ◌*◌, ◌≤◌, true, nat_eq, nat_le, length, sum_by, slice_get, Option, Some, None}
use Rattle.std.proofs.Common.{option_and_then, option_to_list, refl, arith}
use Rattle.std.specs.List.{list_all}
use Rattle.std.proofs.Math.Nat.{mul_assoc, mul-le-mul_left}
use Rattle.std.proofs.lemmas.Bool.{and_parts, leb-true}
use Rattle.ep_int.specs.declared.types.Scalar.{Scalar}
use Rattle.ep_layout.specs.Table as table
use Rattle.ep_core.specs.Program.{Block, Function, Program}
use Rattle.ep_core.specs.WellFormed.{is_well_formed, is_main, is_int_result, is_number, block_fits}
use Rattle.ep_core.specs.WellFormed.{holds_scalar, has_scalar, block_type}
use Rattle.ep_core.proofs.Operands.{sizes, fits_at}
use Rattle.ep_pass.specs.Turns.{cell_rank, last_head}
use Rattle.ep_transfers.proofs.Kills.{in_sum, all_by}

product : (t k : ℕ) → 1 ≤ t → 1 ≤ k → 2 ≤ 32 * t * k + 1
product t k h i =
    let a = mul-le-mul_left t i in
    let b : t * 1 ≡ t = omega arith in
    let c = mul_assoc 32 t k in
    omega (arith, a, b, c, h)

module _ (p : Program) (formed : is_well_formed p ≡ true) (h : ℕ) where
  by_block : (b : ℕ) (w : Scalar) (o : Option Block) → slice_get p.blocks b ≡ o
      → has_scalar (option_and_then (slice_get p.types.types) (block_type o)) w ≡ true → 2 ≤ last_head p h
  by_block b w None e i = absurd (cc)
  by_block b w (Some x) e i =
      let q = and_parts (list_all (block_fits p.types) p.blocks)
      (nat_le (sum_by (λ (b : Block). b.size) p.blocks) 65536) (sizes p formed) in
      let r = and_parts (is_number (table.size p.types x.ty) x.size) (nat_le 1 x.size)
      (all_by (block_fits p.types) p.blocks b x q.0 e) in
      let some = leb-true 1 x.size r.1 in
      let below = in_sum p.blocks b x e in
      product (sum_by (λ (b : Block). b.size) p.blocks) (cell_rank (length p.blocks) h) (omega (arith, some, below))
      (omega arith)

  by_result : (o : Option (ℕ × Scalar)) → is_int_result o ≡ true
      → list_all (holds_scalar p.types p.blocks) (option_to_list o) ≡ true → 2 ≤ last_head p h
  by_result None i holds = absurd (cc)
  by_result (Some r) i holds =
      by_block r.0 r.1 (slice_get p.blocks r.0) refl (and_parts (holds_scalar p.types p.blocks r) true holds).0

  by_main : (o : Option Function) → slice_get p.functions p.main ≡ o → is_main o ≡ true → 2 ≤ last_head p h
  by_main None at i = absurd (cc)
  by_main (Some f) at i =
      by_result f.result (and_parts (nat_eq (length f.params) 0) (is_int_result f.result) i).1
      (fits_at p formed p.main f at).1

  pub two_heads : 2 ≤ last_head p h
  two_heads =
      by_main (slice_get p.functions p.main) refl (and_parts _ (is_main (slice_get p.functions p.main)) formed).1
