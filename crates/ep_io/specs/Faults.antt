-- Counts of faults (this project's rule).
use Rattle.std.specs.Prelude.{◌≡◌, ℕ, ◌+◌, ◌<◌, ◌≤◌, ◌⊎◌, min}

-- the last value of a count, at which it stays
abbrev pub last_count : ℕ
last_count = 18446744073709551615

-- one more, up to the last value
abbrev pub counted : ℕ → ℕ
counted n = min (n + 1) last_count

-- a count never falls, nor passes its last value
abbrev pub NeverFalls : ℕ → ℕ → Type 0
NeverFalls before after = (before ≤ after) × (before ≤ last_count → after ≤ last_count)

-- the count rose in a call: it is greater after it than before, or stands at its last value
abbrev pub Rose : ℕ → ℕ → Type 0
Rose before after = (before < after) ⊎ (after ≡ last_count)
