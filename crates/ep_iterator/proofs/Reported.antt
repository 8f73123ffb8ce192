-- What a walk tells is what the report has.
use Rattle.std.proofs.Common.{◌≡◌, ℕ, ◌+◌, ◌≤◌, Bool, true, false, List, [], Option, Some, None, IsTrue}
use Rattle.std.proofs.Common.{if◌then◌else◌, unwrap_or, sym, ap, ◌∙◌, subst, arith}
use Rattle.ep_int.specs.declared.types.Order.{Order}
use Rattle.ep_alarms.specs.declared.types.Alarm.{Alarm}
use Rattle.ep_alarm_laws.specs.Laws.{ProductsKeepStrides}
use Rattle.ep_cell_states.specs.Reports.{CellAlarmsStand, EvenCellAlarmsStand}
use Rattle.ep_cells.specs.States.{Known}
use Rattle.ep_core.specs.Exec.{is_order}
use Rattle.ep_core.specs.Program.{Program}
use Rattle.ep_core.specs.WellFormed.{is_well_formed}
use Rattle.ep_domain.specs.Domain.{Ops}
use Rattle.ep_flows.specs.View.{Plan, capped, orders}
use Rattle.ep_layout.specs.Table.{IsBuilt}
use Rattle.ep_pass.specs.Turns as bounds
use Rattle.ep_pass.specs.Agreement.{AgreeInTheEnd}
use Rattle.ep_pass.specs.ReportLaws.{EmptyReportsAgree, TurnsAreBounded}
use Rattle.ep_transfers.specs.Cells.{cell_ops}
use Rattle.ep_walk.specs.Reported.{report_on, turns_in, heads_in}
use Rattle.ep_iterator.specs.Reports.{AllMayStand, alarms_of, heads_of, most_turns, turns_of}

-- there are no more than the bound
pub few : {N : Type 0} (D : Ops N) (p : Program) (a b : Order) (u : ℕ) → TurnsAreBounded (Known N)
    → turns_of D p a b u ≤ most_turns D p a b u
few D p a b u law =
    let last : ℕ = bounds.last_head p D.height in
    let some : 1 ≤ last = omega arith in
    law (cell_ops D p (orders a b)) u last some (orders a b) p

-- the heads, where they were asked for
pub heads_kept : {S : Type 0} (b : Bool) (hs : List S) (o : Option (List S)) → o ≡ (if b then Some hs else None)
    → unwrap_or o [] ≡ (if b then hs else [])
heads_kept true hs o e = ap (λ x. unwrap_or x []) e
heads_kept false hs o e = ap (λ x. unwrap_or x []) e

module _ {N : Type 0} (D : Ops N) (p : Program) (a b : Order) (u : ℕ) where
  -- with this number of the last head
  abbrev plan : ℕ → Plan
  plan limit = record { program = p; order = orders a b; unroll = u; limit = limit }

  module _ (limit height : ℕ) (limit_is : limit ≡ bounds.last_head p height) (height_is : D.height ≡ height) where
    abbrev own : ℕ
    own = bounds.last_head p D.height

    last_is : limit ≡ own
    last_is = limit_is ∙ ap (λ h. bounds.last_head p h) (sym height_is)

    pub alarms_are : (xs : List Alarm) → xs ≡ report_on (cell_ops D) (plan limit) → xs ≡ alarms_of D p a b u
    alarms_are xs e = e ∙ ap (λ n. report_on (cell_ops D) (plan n)) last_is

    pub turns_are : (old new : ℕ) → new ≡ capped (old + turns_in (cell_ops D) (plan limit))
        → new ≡ capped (old + turns_of D p a b u)
    turns_are old new e = e ∙ ap (λ n. capped (old + turns_in (cell_ops D) (plan n))) last_is

    -- no more than there are, also where memory runs out
    pub turns_within : (old new : ℕ) → new ≤ old + turns_in (cell_ops D) (plan limit)
        → new ≤ old + turns_of D p a b u
    turns_within old new h = subst (λ n. new ≤ old + turns_in (cell_ops D) (plan n)) last_is h

    -- passes are no more than the bound
    pub turns_few : TurnsAreBounded (Known N) → (old new : ℕ) → new ≤ old + turns_in (cell_ops D) (plan limit)
        → new ≤ old + most_turns D p a b u
    turns_few law old new h =
        less (turns_of D p a b u) (most_turns D p a b u) old new (turns_within old new h) (few D p a b u law)
      where
        less : (n m old new : ℕ) → new ≤ old + n → n ≤ m → new ≤ old + m
        less n m old new h i = omega (arith, h, i)

    pub heads_are : (keeps : Bool) (o : Option (List (Known N))) (hs : List (Known N)) → hs ≡ unwrap_or o []
        → o ≡ (if keeps then Some (heads_in (cell_ops D) (plan limit)) else None)
        → hs ≡ (if keeps then heads_of D p a b u else [])
    heads_are keeps o hs e h =
        e ∙ heads_kept keeps (heads_in (cell_ops D) (plan limit)) o h
        ∙ ap (λ n. if keeps then heads_in (cell_ops D) (plan n) else []) last_is

  -- ---- what the report means

  module _ (formed : IsTrue (is_well_formed p)) (xs : List Alarm) (told : xs ≡ alarms_of D p a b u) where
    pub agreed : EmptyReportsAgree (Known N) (cell_ops D) → is_order a b ≡ false → xs ≡ []
        → AgreeInTheEnd p a b
    agreed law other e = law p (orders a b) formed other u (bounds.last_head p D.height) (sym told ∙ e)

    pub stand : CellAlarmsStand D → IsBuilt p.types → AllMayStand false p xs
    stand law built = subst (λ ys. AllMayStand false p ys) (sym told)
        (law p (orders a b) formed built u (bounds.last_head p D.height))

    pub even : EvenCellAlarmsStand D → IsBuilt p.types → D.keeps_strides ≡ true → ProductsKeepStrides D
        → AllMayStand true p xs
    even law built keeps products = subst (λ ys. AllMayStand true p ys) (sym told)
        (law keeps products p (orders a b) formed built u (bounds.last_head p D.height))
