-- Runs of ones.
use Rattle.std.proofs.Common.{◌≡◌, ℕ, ◌+◌, ◌*◌, ◌%◌, ◌^◌, ◌<◌, ◌≤◌, arith, pow_mono, shl_lt, mod-eq_of_lt, pow_pos}
use Rattle.ep_bitfield.specs.Accesses.{ones}

pub ones_small : (w : ℕ) → w ≤ 32 → ones w < 2 ^ 32
ones_small w h = let most : 2 ^ w ≤ 2 ^ 32 = pow_mono h in omega (arith, most)

pub ones_moved : (w s : ℕ) → s + w ≤ 32 → ones w * 2 ^ s < 2 ^ 32
ones_moved w s h =
    let some = pow_pos w in
    let small : ones w < 2 ^ w = omega (arith, some) in
    let below : ones w * 2 ^ s < 2 ^ (w + s) = shl_lt w s small in
    let wide : w + s ≤ 32 = omega arith in
    let most : 2 ^ (w + s) ≤ 2 ^ 32 = pow_mono wide in
    omega (arith, below, most)

-- they are moved as they stand
pub ones_kept : (w s : ℕ) → s + w ≤ 32 → ones w * 2 ^ s % 2 ^ 64 ≡ ones w * 2 ^ s
ones_kept w s h = let below = ones_moved w s h in mod-eq_of_lt (omega (arith, below))
