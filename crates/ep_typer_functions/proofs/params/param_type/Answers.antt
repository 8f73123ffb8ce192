use Rattle.std.specs.Prelude.{Err}
use Rattle.std.proofs.lemmas.Result.{err_from_is_err_and}
use Rattle.ep_layout.specs.Grown.{GrownFrom}
use Rattle.ep_layout.proofs.Basics.{grows-trans}
use Rattle.ep_typing.specs.declared.types.CType.{CType}
use Rattle.ep_declared.proofs.Answering.{answered, on_stop}
use Rattle.ep_declared.proofs.Coming.{grown_by_type}
use Rattle.ep_typer_functions.proofs.Coming.{grown_on_type}
use Rattle.ep_typer_functions.proofs.params.param_type.Goals as goal

pub returns-in_ok-add-in-Some-size_of_type-clause-grown : goal.returns-in_ok-add-in-Some-size_of_type-clause-grown
returns-in_ok-add-in-Some-size_of_type-clause-grown c =
    grows-trans _ _ _ c.in_ok-elements-in-Some.ensures.grown c.in_ok-add-in-Some-size_of_type.ensures.grown

pub returns-in_err-elements-in-Some-clause-comes : goal.returns-in_err-elements-in-Some-clause-comes
returns-in_err-elements-in-Some-clause-comes c =
    let p = err_from_is_err_and c.from_residual.result c.from_residual.ensures.1 in
    let P : Type 0 = GrownFrom c.args.types.now c.arrays_of.new.types in
    rw (p.1, p.2) (on_stop CType CType _ P P (λ h. h) c.in_err-elements-in-Some.ensures.comes)

pub returns-in-None-size_of_type-clause-comes : goal.returns-in-None-size_of_type-clause-comes
returns-in-None-size_of_type-clause-comes c =
    answered {X = CType} (Err c.refused.result) (GrownFrom c.args.types.now c.arrays_of.new.types) c.in_ok-elements-in-Some.ensures.comes

pub returns-in_ok-add-in-Some-size_of_type-clause-comes : goal.returns-in_ok-add-in-Some-size_of_type-clause-comes
returns-in_ok-add-in-Some-size_of_type-clause-comes c =
    grown_on_type c.args.types.now c.arrays_of.new.types c.add.new.types c.in_ok-d-in-Some-size_of_type.d
    c.in_ok-elements-in-Some.ensures.comes c.in_ok-add-in-Some-size_of_type.ensures.means

pub returns-in_ok-add-in-None-clause-comes : goal.returns-in_ok-add-in-None-clause-comes
returns-in_ok-add-in-None-clause-comes c =
    grown_by_type c.args.types.now c.add-in-None.new.types c.in_ok-d-in-None.d c.in_ok-add-in-None.ensures.means
