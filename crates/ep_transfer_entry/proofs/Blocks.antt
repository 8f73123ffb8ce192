-- The blocks of a well-formed program have types of its table, and are few.
use Rattle.std.proofs.Common.{◌≡◌, ℕ, zero, suc, ◌<◌, ◌≤◌, Bool, true, false, ltb, nat_le, List, [], ◌∷◌, length}
use Rattle.ep_core.proofs.Tables.{no_size}
use Rattle.ep_core.proofs.Basics.{is_number-size}
use Rattle.std.proofs.Common.{sum_by, slice_get, Some, refl, subst, arith}
use Rattle.std.specs.List.{list_all}
use Rattle.std.proofs.lemmas.Bool.{and_parts, leb-true, ltb-true, ltb-false}
use Rattle.std.proofs.lemmas.List.Sums.{sum_by-cons}
use Rattle.ep_layout.specs.Table as table
use Rattle.ep_layout.specs.Table.{Table}
use Rattle.ep_core.specs.Program.{Block, Program}
use Rattle.ep_core.specs.WellFormed.{is_number, block_fits, is_well_formed}
use Rattle.ep_core.proofs.Operands.{sizes}

-- each has a byte at least
all_by : (t : table.Table) (bs : List Block) (i : ℕ) (x : Block) → list_all (block_fits t) bs ≡ true
    → slice_get bs i ≡ Some x → block_fits t x ≡ true
all_by t [] i x h e = absurd (cc)
all_by t (b ∷ bs) zero x h e =
    let same : b ≡ x = cc in
    subst (λ y. block_fits t y ≡ true) same (and_parts (block_fits t b) (list_all (block_fits t) bs) h).0
all_by t (b ∷ bs) (suc i) x h e =
    all_by t bs i x (and_parts (block_fits t b) (list_all (block_fits t) bs) h).1 e

as_many : (t : table.Table) (bs : List Block) → list_all (block_fits t) bs ≡ true
    → length bs ≤ sum_by (λ (b : Block). b.size) bs
as_many t [] h = omega arith
as_many t (b ∷ bs) h =
    let s = and_parts (block_fits t b) (list_all (block_fits t) bs) h in
    let r = as_many t bs s.1 in
    let l = leb-true 1 b.size (and_parts (is_number (table.size t b.ty) b.size) (nat_le 1 b.size) s.0).1 in
    let e = sum_by-cons (λ (b : Block). b.size) b bs in
    omega (arith, r, l, e)

module _ (p : Program) (formed : is_well_formed p ≡ true) where
  parts : (list_all (block_fits p.types) p.blocks ≡ true)
      × (nat_le (sum_by (λ (b : Block). b.size) p.blocks) 65536 ≡ true)
  parts = and_parts (list_all (block_fits p.types) p.blocks) (nat_le (sum_by (λ (b : Block). b.size) p.blocks) 65536)
      (sizes p formed)

  pub type_there : (b : ℕ) (x : Block) → slice_get p.blocks b ≡ Some x → x.ty < length p.types.types
  type_there b x at = by_test (ltb x.ty (length p.types.types)) refl
    where
      by_test : (u : Bool) → ltb x.ty (length p.types.types) ≡ u → x.ty < length p.types.types
      by_test true e = ltb-true x.ty (length p.types.types) e
      by_test false e =
          let s = and_parts (is_number (table.size p.types x.ty) x.size) (nat_le 1 x.size)
          (all_by p.types p.blocks b x parts.0 at) in
          let none = no_size p.types x.ty (ltb-false x.ty (length p.types.types) e) in
          let size = is_number-size (table.size p.types x.ty) x.size s.0 in
          let l = leb-true 1 x.size s.1 in
          absurd (omega (arith, none, size, l))

  pub few_blocks : length p.blocks ≤ 65536
  few_blocks =
      let n = as_many p.types p.blocks parts.0 in
      let l = leb-true (sum_by (λ (b : Block). b.size) p.blocks) 65536 parts.1 in
      omega (arith, n, l)
