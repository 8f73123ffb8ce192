-- Different bytes are told apart by some inputs (this project's rule).
use Rattle.std.specs.Prelude.{◌≡◌, ℕ, ◌≤◌, List, length}
use Rattle.ep_movers.specs.Symbols.{Symbol}
use Rattle.ep_mover_runs.specs.Following.{AreBytes, number_in}

-- however many inputs there are at least
abbrev pub NumbersTellBytes : Type 0
NumbersTellBytes =
    (least count : ℕ) (xs ys : List Symbol) → AreBytes count xs → AreBytes count ys
    → ((inputs : List ℕ) → least ≤ length inputs → number_in inputs xs ≡ number_in inputs ys) → xs ≡ ys
