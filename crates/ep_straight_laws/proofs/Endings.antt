-- Main's result has no fault at its end.
use Rattle.std.proofs.Common.{◌≡◌, true, false, ◌&&◌, [], map, refl, sym, ap, ◌∙◌, subst, Some, None}
use Rattle.std.specs.List.{list_all}
use Rattle.ep_int.specs.declared.types.IntType.TheVariants.{I32}
use Rattle.ep_int.specs.declared.types.Order.{Order}
use Rattle.ep_int.specs.declared.types.Scalar.TheVariants.{Int}
use Rattle.ep_domain.specs.Domain.{Ops, Lawful}
use Rattle.ep_cells.specs.declared.cell.Value.TheVariants.{Num}
use Rattle.ep_cells.specs.States.{Known}
use Rattle.ep_core.specs.Program.{Program}
use Rattle.ep_core.specs.Exec.{State}
use Rattle.ep_core.specs.Runs.{Side}
use Rattle.ep_core.specs.WellFormed.{is_well_formed}
use Rattle.ep_equalities.specs.declared.pair.Mode.TheVariants as pair_mode
use Rattle.ep_equalities.specs.declared.pair.Fault.{Fault}
use Rattle.ep_equalities.specs.Same.{is_same}
use Rattle.ep_evaluation.specs.Given.{Given}
use Rattle.ep_evaluation.specs.Evaluation.{told}
use Rattle.ep_transfers.specs.Places.{has_values}
use Rattle.ep_transfers.specs.Transfers.{stepped, differ_faults}
use Rattle.ep_transfers.specs.Calls.{loaded_result}
use Rattle.ep_transfers.specs.Ends.{is_sure_result, ended_faults}
use Rattle.ep_transfers.specs.Cells.{told_of, when_known, cell_ops}
use Rattle.ep_core.specs.Runs.{left, right}
use Rattle.ep_straight_laws.specs.Laws.{MeetsKeepSingles}
use Rattle.ep_straight_laws.proofs.Loads.{faults_with, value_is, equal_is}
use Rattle.ep_straight_laws.proofs.Statements.{told_so}
use Rattle.ep_straight_laws.proofs.Gathered.{Main, seen, Holds}

module _ {N : Type 0} (D : Ops N) (law : Lawful D) (meets : MeetsKeepSingles D) (p : Program)
    (formed : is_well_formed p ≡ true) (ord : Side → Order) (main : Main p) where
  sure_by : (g : Given N) → g.faults ≡ [] → g.pair.equal ≡ true → has_values pair_mode.Both g.pair ≡ true
      → differ_faults D (is_sure_result D p g) g.pair ≡ []
  sure_by g q e h =
      ap (λ b. differ_faults D b g.pair)
      (let z : (is_same D g.pair && (has_values pair_mode.Both g.pair && (list_all (λ
      (f : Fault). false) g.faults))) ≡ true
      = rw (e, h, q) refl in z)

  pub end_quiet : (k : Known N) (x y : State) → Holds D law meets p formed ord main k x y
      → (cell_ops D p ord).ended main.f k ≡ []
  end_quiet k x y v =
      let st = v.kept.stands.memories.state in
      let q = v.result in
      let val = Some (Num q.known) in
      let e : (loaded_result D p pair_mode.Both (main.r, Int I32) k).pair.equal ≡ true
      = equal_is D law p formed main.r I32 main.holds k st.cells st.model val false q.cell in
      let l = value_is D law p formed main.r I32 main.holds k st.cells st.model val false q.cell left in
      let r = value_is D law p formed main.r I32 main.holds k st.cells st.model val false q.cell right in
      let h : has_values pair_mode.Both (loaded_result D p pair_mode.Both (main.r, Int I32) k).pair ≡ true = rw
      (l, r) refl in
      let z : ended_faults D p (record main.f { result = Some (main.r, Int I32) }) k ≡ []
      = sure_by (loaded_result D p pair_mode.Both (main.r, Int I32) k)
      (faults_with D law p formed main.r I32 main.holds k st.cells st.model val false q.cell) e h in
      ap (λ b. (told_of D (when_known b (stepped (ended_faults D p main.f k) None))).faults)
      (told_so D law p formed ord (seen D law meets p formed ord main) main.r main.f.result k st.model)
      ∙ ap (map (told D)) (subst (λ o. ended_faults D p (record main.f { result = o }) k ≡ []) (sym main.result) z)
