-- The list of a report. This project's rules.
use Rattle.std.specs.Prelude.{◌≡◌, ℕ, ◌<◌, ◌≤◌, Bool, true, false, length, slice_index_or, IsTrue, if◌then◌else◌, List}
use Rattle.std.specs.Prelude.{[], ◌∷◌, fold}
use Rattle.std.specs.List.{list_any}
use Rattle.ep_alarms.specs.declared.types.Alarm.{Alarm}
use Rattle.ep_alarms.specs.Alarm.{before, joined, stand_together}

-- in order of line, then kind, with at most one alarm for each line and kind
abbrev pub IsReport : List Alarm → Type 0
IsReport [] = Unit {0}
IsReport (a ∷ []) = Unit {0}
IsReport (a ∷ b ∷ more) = IsTrue (before a b) × IsReport (b ∷ more)

-- an alarm of this line and kind is in the list
abbrev pub has_place : List Alarm → Alarm → Bool
has_place alarms a = list_any (λ b. stand_together b a) alarms

-- the list with one alarm more, in its place; where its line and kind are there, that alarm's ranges widen to hold the
-- new ones
abbrev pub added : List Alarm → Alarm → List Alarm
added [] a = a ∷ []
added (b ∷ bs) a = if before b a then b ∷ added bs a else if before a b then a ∷ b ∷ bs else joined b a ∷ bs

-- the report of these faults, in the order of their coming
abbrev pub gathered : List Alarm → List Alarm
gathered faults = fold added [] faults

-- So many of the alarms, those in front, stand before this one, and the rest do not.
pub record IsPlace (alarms : List Alarm) (a : Alarm) (i : ℕ) : Type 0 where
  pub front : (k : ℕ) (d : Alarm) → k < i → before (slice_index_or alarms k d) a ≡ true
  pub rest : (k : ℕ) (d : Alarm) → i ≤ k → k < length alarms → before (slice_index_or alarms k d) a ≡ false
