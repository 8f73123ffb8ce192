use Rattle.std.proofs.Common.{◌≡◌, ◌++◌, drop}
use Rattle.std.specs.List.{filter}
use Rattle.ep_cells.specs.Cells.{encloses, place_of}
use Rattle.ep_state_ranges.proofs.taking.push_all_within.Given as goal

abbrev pub invariant-loop-y : goal.invariant-loop-y
invariant-loop-y g l =
    l.out.items ++ filter (λ z. encloses l.p (place_of l.model z)) (drop l.y-index l.ys)
    ≡ l.fn.out.items ++ filter (λ z. encloses l.p (place_of l.model z)) l.ys
