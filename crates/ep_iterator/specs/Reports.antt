-- What the analysis over states of cells reports of a program (this project's rules).
use Rattle.std.specs.Prelude.{ℕ, Bool, List, IsTrue}
use Rattle.std.specs.List.{AllByRecursion}
use Rattle.ep_int.specs.declared.types.Order.{Order}
use Rattle.ep_alarms.specs.declared.types.Alarm.{Alarm}
use Rattle.ep_cells.specs.States.{Known}
use Rattle.ep_core.specs.Program.{Program}
use Rattle.ep_domain.specs.Domain.{Ops}
use Rattle.ep_flows.specs.View.{Plan, orders}
use Rattle.ep_pass.specs.Places.{may_stand}
use Rattle.ep_pass.specs.Turns as bounds
use Rattle.ep_transfers.specs.Cells.{cell_ops}
use Rattle.ep_walk.specs.Reported.{report_on, turns_in, heads_in}

-- each alarm is of a kind that the text on its line may have, where numbers keep strides, or don't
abbrev pub AllMayStand : (strides : Bool) → Program → List Alarm → Type 0
AllMayStand strides p = AllByRecursion (λ (a : Alarm). IsTrue (may_stand strides a.kind a.line p))

module _ {N : Type 0} (D : Ops N) (p : Program) (a b : Order) (unroll : ℕ) where
  -- for machines of these byte orders, with so many turns unrolled; the last head of a loop is the domain's
  abbrev pub analysis : Plan
  analysis = record { program = p; order = orders a b; unroll = unroll; limit = bounds.last_head p D.height }

  abbrev pub alarms_of : List Alarm
  alarms_of = report_on (cell_ops D) analysis

  -- passes through bodies of loops, and how many there are at most
  abbrev pub turns_of : ℕ
  turns_of = turns_in (cell_ops D) analysis

  abbrev pub most_turns : ℕ
  most_turns = bounds.most_turns unroll analysis.limit analysis.order p

  abbrev pub heads_of : List (Known N)
  heads_of = heads_in (cell_ops D) analysis
