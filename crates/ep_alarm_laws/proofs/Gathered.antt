-- Of the operations on cells, every fault is of a kind that the text may have, where accesses to typed places are so.
use Rattle.std.proofs.Common.{◌≡◌, Bool, true, false, None, refl}
use Rattle.ep_cell_ranges.proofs.Basics.{is_model-equal}
use Rattle.ep_int.specs.declared.types.Order.{Order}
use Rattle.ep_alarms.specs.declared.types.AlarmKind.{AlarmKind}
use Rattle.ep_alarms.specs.declared.types.AlarmKind.TheVariants.{E1}
use Rattle.ep_domain.specs.Domain.{Ops, Lawful}
use Rattle.ep_cells.specs.States.{Known}
use Rattle.ep_core.specs.Program.{Program}
use Rattle.ep_core.specs.Runs.{Side}
use Rattle.ep_core.specs.WellFormed.{is_well_formed}
use Rattle.ep_core.proofs.Operands.{holds_at}
use Rattle.ep_pass.specs.States.{Tested}
use Rattle.ep_pass.specs.Honest.{AreOf, is_alone, Honest}
use Rattle.ep_pass.specs.Places.{is_kind, expr_may, exprs_may, simple_may, result_may}
use Rattle.ep_evaluation.specs.Evaluation.{tested, expression}
use Rattle.ep_transfers.specs.Calls.{arguments_step, result_step}
use Rattle.ep_transfers.specs.Cells.{mode_of, told_of, when_known, test_when_known, is_told_so, cell_ops}
use Rattle.ep_transfers.specs.Ends.{ended_faults}
use Rattle.ep_transfers.specs.Transfers.{Stepped, stepped, sizes, simple_step, gives}
use Rattle.ep_alarm_laws.proofs.Named.{AreKinds}
use Rattle.ep_alarm_laws.proofs.Allowed.{AccessesAllowed}
use Rattle.ep_alarm_laws.proofs.FaultKinds.{told_kinds}
use Rattle.ep_alarm_laws.proofs.OwnPlaces.{HaveOwnPlaces, own_quiet}
use Rattle.ep_alarm_laws.proofs.Statements.{tested_kinds, simple_kinds}
use Rattle.ep_alarm_laws.proofs.Calls.{arguments_kinds, result_kinds, ended_kinds}

module _ {N : Type 0} (D : Ops N) where
  -- where another data model is told, there is no fault
  known_kinds : (test : AlarmKind → Bool) (t : Bool) (s : Stepped N) → (t ≡ true → AreKinds test s.faults)
      → AreOf test (told_of D (when_known t s)).faults
  known_kinds test true s h = told_kinds D test s.faults (h refl)
  known_kinds test false s h = tt

  none_tested : (test : AlarmKind → Bool) (t : Bool) (x : Tested) → (t ≡ true → AreOf test x.faults)
      → AreOf test (test_when_known t x).faults
  none_tested test true x h = h refl
  none_tested test false x h = tt

module _ {N : Type 0} (D : Ops N) (law : Lawful D) (p : Program) (ord : Side → Order) (strides : Bool)
    (formed : is_well_formed p ≡ true) (ok : AccessesAllowed D p strides) where
  abbrev own : HaveOwnPlaces D p
  own = own_quiet p formed D law

  told_so : (k : Known N) → is_told_so D p ord k ≡ true → k.model ≡ p.types.model
  told_so k e = is_model-equal k.model p.types.model e

  pub honest : Honest p strides (cell_ops D p ord)
  honest = record {
    simple = λ m here f at w seen h k. known_kinds D (λ a. simple_may strides a (is_alone m) w)
        (is_told_so D p ord k) (simple_step D p (mode_of m) f.result w k)
        (λ e. simple_kinds D law p strides ok own m k (told_so k e) seen here f.result
        (holds_at p formed here f at).result w h);
    test = λ m e seen h k. none_tested D (λ a. expr_may strides a e) (is_told_so D p ord k)
        (tested D (mode_of m) ((expression D (sizes D p) e).gives (mode_of m) k))
        (λ q. told_kinds D (λ a. expr_may strides a e) (gives D p e (mode_of m) k).faults
        (tested_kinds D law p strides ok own seen e h (mode_of m) k (told_so k q)));
    arguments = λ m n f at es seen h k. known_kinds D (λ a. exprs_may strides a es) (is_told_so D p ord k)
        (arguments_step D p (mode_of m) f es k)
        (λ e. arguments_kinds D law p strides ok own (mode_of m) f (holds_at p formed n f at).params es seen h k
        (told_so k e));
    result = λ m n f at d seen h k. known_kinds D (λ a. result_may strides a d) (is_told_so D p ord k)
        (result_step D p (mode_of m) f d k)
        (λ e. result_kinds D law p strides ok own (mode_of m) f (holds_at p formed n f at).result d seen h k
        (told_so k e));
    ended = λ f at k. known_kinds D (is_kind E1) (is_told_so D p ord k) (stepped (ended_faults D p f k) None)
        (λ e. ended_kinds D p f k);
  }
