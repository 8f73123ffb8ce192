-- Tests and calls of a walk are typed.
use Rattle.std.proofs.Common.{◌≡◌, List, Option}
use Rattle.ep_core.specs.Program.{Expr, Dest, Function, Program}
use Rattle.ep_eval_fits.specs.Fitting.{ExprIsFit}
use Rattle.ep_eval_programs.specs.Typed.{IsTest}
use Rattle.ep_eval_programs.proofs.Fits.{test_fit}
use Rattle.ep_flows.specs.Typed as flows
use Rattle.ep_transfer_calls.specs.Typed.{AreArguments, TakesResult}

module _ (p : Program) where
  pub test_typed : (e : Expr) → flows.IsTypedTest p e → IsTest p e
  test_typed e h = record { seen = h.seen; is = h.fits }

  pub fit_typed : (e : Expr) → flows.IsTypedTest p e → ExprIsFit e
  fit_typed e h = test_fit p e (test_typed e h)

  pub arguments_typed : (f : Function) (es : List Expr) → flows.AreArguments p f es → AreArguments p f es
  arguments_typed f es h = record {
    number = h.function.number;
    is_there = h.function.is_there;
    seen = h.seen;
    fits = h.fits;
  }

  pub result_typed : (f : Function) (d : Option Dest) → flows.TakesResult p f d → TakesResult p f d
  result_typed f d h = record {
    number = h.function.number;
    is_there = h.function.is_there;
    seen = h.seen;
    fits = h.fits;
  }
