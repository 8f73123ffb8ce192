use Rattle.std.proofs.Common.{ap}
use Rattle.ep_core.specs.Exec.{on, broken, continued, returned}
use Rattle.ep_certcheck_walk.specs.Leaving.{way_of_leaving}
use Rattle.ep_certcheck_walk.proofs.Kept.{kept_found, kept_stops}
use Rattle.ep_certcheck_walk.proofs.Turning.{err_finds}
use Rattle.ep_certcheck_walk.proofs.parts.keep.Goals as goal

pub returns-in_err-differ_all-in-On : goal.returns-in_err-differ_all-in-On
returns-in_err-differ_all-in-On g c =
    λ k n. err_finds k _ c.from_residual.result _ n n c.from_residual.ensures.1
    (kept_stops k (way_of_leaving c.args.by) on c.args.line c.args.flow _ (ap way_of_leaving c.in-On.is)
    (c.in_err-differ_all-in-On.ensures k))

pub returns-in_ok-differ_all-in-On : goal.returns-in_ok-differ_all-in-On
returns-in_ok-differ_all-in-On g c =
    λ k n. kept_found k (way_of_leaving c.args.by) on c.args.line c.args.flow c.on.result n
    (ap way_of_leaving c.in-On.is) (c.in_ok-differ_all-in-On.ensures k).0 c.on.ensures.on c.on.ensures.ways

pub returns-in_err-differ_all-in-Broken : goal.returns-in_err-differ_all-in-Broken
returns-in_err-differ_all-in-Broken g c =
    λ k n. err_finds k _ c.from_residual-in_err-differ_all-in-Broken.result _ n n
    c.from_residual-in_err-differ_all-in-Broken.ensures.1 (kept_stops k (way_of_leaving c.args.by) broken c.args.line
    c.args.flow _ (ap way_of_leaving c.in-Broken.is) (c.in_err-differ_all-in-Broken.ensures k))

pub returns-in_ok-differ_all-in-Broken : goal.returns-in_ok-differ_all-in-Broken
returns-in_ok-differ_all-in-Broken g c =
    λ k n. kept_found k (way_of_leaving c.args.by) broken c.args.line c.args.flow c.broken.result n
    (ap way_of_leaving c.in-Broken.is)
    (c.in_ok-differ_all-in-Broken.ensures k).0 c.broken.ensures.on c.broken.ensures.ways

pub returns-in_err-differ_all-in-Continued : goal.returns-in_err-differ_all-in-Continued
returns-in_err-differ_all-in-Continued g c =
    λ k n. err_finds k _ c.from_residual-in_err-differ_all-in-Continued.result _ n n
    c.from_residual-in_err-differ_all-in-Continued.ensures.1 (kept_stops k (way_of_leaving c.args.by) continued
    c.args.line c.args.flow _ (ap way_of_leaving c.in-Continued.is) (c.in_err-differ_all-in-Continued.ensures k))

pub returns-in_ok-differ_all-in-Continued : goal.returns-in_ok-differ_all-in-Continued
returns-in_ok-differ_all-in-Continued g c =
    λ k n. kept_found k (way_of_leaving c.args.by) continued c.args.line c.args.flow c.continued.result n
    (ap way_of_leaving c.in-Continued.is)
    (c.in_ok-differ_all-in-Continued.ensures k).0 c.continued.ensures.on c.continued.ensures.ways

pub returns-in_err-differ_all-in-Returned : goal.returns-in_err-differ_all-in-Returned
returns-in_err-differ_all-in-Returned g c =
    λ k n. err_finds k _ c.from_residual-in_err-differ_all-in-Returned.result _ n n
    c.from_residual-in_err-differ_all-in-Returned.ensures.1 (kept_stops k (way_of_leaving c.args.by) returned
    c.args.line c.args.flow _ (ap way_of_leaving c.in-Returned.is) (c.in_err-differ_all-in-Returned.ensures k))

pub returns-in_ok-differ_all-in-Returned : goal.returns-in_ok-differ_all-in-Returned
returns-in_ok-differ_all-in-Returned g c =
    λ k n. kept_found k (way_of_leaving c.args.by) returned c.args.line c.args.flow c.returned.result n
    (ap way_of_leaving c.in-Returned.is)
    (c.in_ok-differ_all-in-Returned.ensures k).0 c.returned.ensures.on c.returned.ensures.ways
