-- The bytes of all blocks of a well-formed program.
use Rattle.std.proofs.Common.{◌≡◌, ℕ, ◌+◌, ◌*◌, ◌≤◌, ◌^◌, true, nat_le, List, [], ◌∷◌, map, length, refl, sym, ap}
use Rattle.std.proofs.Common.{◌∙◌, arith, subst}
use Rattle.std.specs.List.{list_all, sum_by}
use Rattle.std.proofs.Math.Nat.{mul-le-mul_left, mul-le-mul_right}
use Rattle.std.proofs.lemmas.Bool.{and_parts}
use Rattle.std.proofs.lemmas.Bool.Decides.{nat_tests}
use Rattle.std.proofs.lemmas.List.{length-map}
use Rattle.std.proofs.lemmas.List.Sums.{sum_by-cons}
use Rattle.ep_core.specs.declared.program.BlockInfo.{BlockInfo}
use Rattle.ep_core.specs.declared.program.CoreProgram.{CoreProgram}
use Rattle.ep_core.specs.Program.{Block}
use Rattle.ep_core.specs.ProgramView.{program_view}
use Rattle.ep_core.specs.View.{block_view}
use Rattle.ep_core.specs.WellFormed.{block_fits}
use Rattle.ep_core.proofs.Operands.{sizes}
use Rattle.ep_pass.specs.Turns.{cell_rank, last_head}

abbrev pub bytes : List BlockInfo → ℕ
bytes bs = sum_by (λ (b : BlockInfo). b.size) bs

abbrev shown_bytes : List Block → ℕ
shown_bytes bs = sum_by (λ (b : Block). b.size) bs

pub bytes_are : (bs : List BlockInfo) → shown_bytes (map block_view bs) ≡ bytes bs
bytes_are [] = refl
bytes_are (b ∷ bs) =
    sum_by-cons (λ (b : Block). b.size) (block_view b) (map block_view bs) ∙ ap (λ n. b.size + n) (bytes_are bs)
    ∙ sym (sum_by-cons (λ (b : BlockInfo). b.size) b bs)

pub few_bytes : (c : CoreProgram) → bytes c.blocks.items ≤ 65536
few_bytes c =
    let p = program_view c in
    let h = (and_parts (list_all (block_fits p.types) p.blocks) (nat_le (shown_bytes p.blocks) 65536)
    (sizes p c.well_formed)).1 in
    subst (λ n. n ≤ 65536) (bytes_are c.blocks.items) (below (shown_bytes p.blocks) h)
  where
    below : (n : ℕ) → nat_le n 65536 ≡ true → n ≤ 65536
    below n h = grind (arith, nat_tests)

pub head_is : (c : CoreProgram) (h n b r : ℕ) → n ≡ length c.blocks.items → b ≡ bytes c.blocks.items
    → r ≡ cell_rank n h → 32 * b * r + 1 ≡ last_head (program_view c) h
head_is c h n b r en eb er =
    ap (λ z. 32 * z * r + 1) (eb ∙ sym (bytes_are c.blocks.items))
    ∙ ap (λ z. 32 * shown_bytes (program_view c).blocks * z + 1) (er ∙ ap (λ z. cell_rank z h) (en
    ∙ sym (length-map c.blocks.items block_view)))

-- products that fit in 128 bits
pub small_rank : (a b : ℕ) → a ≤ 2 ^ 64 → b ≤ 2 ^ 32 → a * b ≤ 2 ^ 96
small_rank a b h k =
    let i : a * b ≤ 2 ^ 64 * b = mul-le-mul_right b h in
    let j : 2 ^ 64 * b ≤ 2 ^ 64 * 2 ^ 32 = mul-le-mul_left (2 ^ 64) k in
    omega (arith, i, j)

pub small_head : (a b : ℕ) → a ≤ 2097152 → b ≤ 2 ^ 97 → a * b ≤ 2 ^ 118
small_head a b h k =
    let i : a * b ≤ 2097152 * b = mul-le-mul_right b h in
    let j : 2097152 * b ≤ 2097152 * 2 ^ 97 = mul-le-mul_left 2097152 k in
    omega (arith, i, j)
