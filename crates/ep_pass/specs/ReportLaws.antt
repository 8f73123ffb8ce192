-- What holds of each report, whatever is kept of a state.
use Rattle.std.specs.Prelude.{◌≡◌, ℕ, ◌+◌, ◌*◌, ◌≤◌, Bool, [], IsTrue}
use Rattle.std.specs.List.{AllByRecursion}
use Rattle.ep_int.specs.declared.types.Order.{Order}
use Rattle.ep_alarms.specs.declared.types.Alarm.{Alarm}
use Rattle.ep_layout.specs.Table.{IsBuilt}
use Rattle.ep_core.specs.Program.{Program}
use Rattle.ep_int.specs.Memory.{Memory}
use Rattle.ep_core.specs.Runs.{Side, left, right}
use Rattle.ep_core.specs.WellFormed.{is_well_formed}
use Rattle.ep_pass.specs.Laws.{AreOther, Lawful}
use Rattle.ep_pass.specs.Agreement.{AgreeInTheEnd}
use Rattle.ep_pass.specs.States.{StateOps}
use Rattle.ep_pass.specs.Pass.{Pass, from_head, settled, report_of, turns_of}
use Rattle.ep_pass.specs.Turns.{most_turns}
use Rattle.ep_pass.specs.Places.{may_stand}
use Rattle.ep_pass.specs.Honest.{Honest}
use Rattle.ep_pass.specs.Heads.{more_turns, IsTriedAgain, next_of, head_after, turns_at, NoneKept}

-- with states of this type
module _ (S : Type 0) where
  -- operations on states of each program, for each two byte orders
  abbrev pub Operations : Type 0
  Operations = Program → (Side → Order) → StateOps S

  -- On states for two byte orders that differ, the operations keep their laws.
  abbrev pub AreLawful : Operations → (In : Program → (Side → Order) → S → Memory → Memory → Type 0) → Type 0
  AreLawful ops In =
      (p : Program) (ord : Side → Order) → IsTrue (is_well_formed p) → AreOther ord → Lawful p ord (ops p ord)
      (In p ord)

  -- Where the report on a well-formed program is empty, the machines of the two byte orders agree on it, however many
  -- turns are unrolled and heads are tried.
  abbrev pub EmptyReportsAgree : Operations → Type 0
  EmptyReportsAgree ops =
      (p : Program) (ord : Side → Order) → IsTrue (is_well_formed p) → AreOther ord → (u limit : ℕ)
      → report_of (ops p ord) u limit ord p ≡ [] → AgreeInTheEnd p (ord left) (ord right)

  -- Bodies of loops are gone through at most so often, whatever the operations do.
  abbrev pub TurnsAreBounded : Type 0
  TurnsAreBounded =
      (o : StateOps S) (u limit : ℕ) → 1 ≤ limit → (ord : Side → Order) (p : Program)
      → turns_of o u limit ord p ≤ most_turns u limit ord p

  -- The faults of operations are of kinds that the text may have, in programs whose table of types was built by the
  -- rules, where numbers keep strides, or don't.
  abbrev pub AreHonest : Operations → (strides : Bool) → Type 0
  AreHonest ops strides =
      (p : Program) (ord : Side → Order) → IsTrue (is_well_formed p) → IsBuilt p.types
      → Honest p strides (ops p ord)

  -- So is then each alarm on its line.
  abbrev pub AlarmsStand : Type 0
  AlarmsStand =
      (ops : Operations) (strides : Bool) → AreHonest ops strides → (p : Program) (ord : Side → Order)
      → IsTrue (is_well_formed p) → IsBuilt p.types → (u limit : ℕ)
      → AllByRecursion (λ (a : Alarm). IsTrue (may_stand strides a.kind a.line p))
      (report_of (ops p ord) u limit ord p)

  -- Where the next head is the head again, its turn counts for each head that is left, and then comes that of the empty
  -- state.
  abbrev pub HeadsRepeat : Type 0
  HeadsRepeat =
      (o : StateOps S) (turn : S → Pass S) (h : S) → IsTriedAgain o turn h → next_of o turn h ≡ h → (k : ℕ)
      → settled o turn k h
      ≡ more_turns (k * (turn h).log.count) (from_head o.empty (turn o.empty))

  -- Where a head comes again after d heads, the turns of q rounds count, and what is left comes from that head.
  abbrev pub HeadsGoRound : Type 0
  HeadsGoRound =
      (o : StateOps S) (turn : S → Pass S) (d : ℕ) (h : S) → NoneKept o turn d h → head_after o turn d h ≡ h
      → (q k n : ℕ) → n ≡ q * d + k
      → settled o turn n h ≡ more_turns (q * turns_at o turn d h) (settled o turn k h)
