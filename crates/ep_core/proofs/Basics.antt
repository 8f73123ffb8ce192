-- Lemmas that several crates cite.
use Rattle.std.proofs.Common.{◌≡◌, ℕ, true, Option, Some, None, arith, List, [], ◌∷◌, map, refl, ap}
use Rattle.std.specs.Prelude.{unwrap_or}
use Rattle.std.proofs.lemmas.Bool.Decides.{nat_tests}
use Rattle.ep_core.specs.WellFormed.{is_number}
use Rattle.ep_layout.specs.Table.{size}
use Rattle.ep_core.specs.Program.{Block}
use Rattle.ep_core.specs.declared.program.BlockInfo.{BlockInfo}
use Rattle.ep_core.specs.View.{block_view}

pub is_number-size : (o : Option ℕ) (n : ℕ) → is_number o n ≡ true → unwrap_or o 0 ≡ n
is_number-size None n h = absurd cc
is_number-size (Some m) n h = grind (arith, nat_tests, h)

pub sizes_of_view : (bs : List BlockInfo)
    → map (λ (b : BlockInfo). b.size) bs ≡ map (λ (b : Block). b.size) (map block_view bs)
sizes_of_view [] = refl
sizes_of_view (b ∷ bs) = ap (λ xs. b.size ∷ xs) (sizes_of_view bs)
