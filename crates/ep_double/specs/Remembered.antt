-- What is remembered of functions.
use Rattle.std.specs.Prelude.{◌≡◌, ℕ, ◌<◌, Bool, false, List, length, get_or}
use Rattle.ep_core.specs.Program.{Program}
use Rattle.ep_kinds.specs.InOut.{is_talk, bodies_come_to}

-- which bodies of the functions before number n come to an input or output
abbrev pub called : Program → (n : ℕ) → ℕ → Bool
called p n k = bodies_come_to is_talk p n k

-- It is right of them, as far as the list goes.
abbrev pub AreRemembered : Program → (n : ℕ) → List Bool → Type 0
AreRemembered p n talks = (k : ℕ) → k < n → k < length talks → get_or talks k false ≡ called p n k
