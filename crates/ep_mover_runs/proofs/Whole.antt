-- The laws of runs of movers.
use Rattle.std.proofs.Common.{◌≡◌, true, false, subst}
use Rattle.ep_core.specs.WellFormed.{integer, has_sort, what_fits, stmts_fit}
use Rattle.ep_mover_runs.specs.Laws.{ExpressionsFollow, StatementsFollow, AllFollow, StartsFollow, RunsFollow}
use Rattle.ep_mover_runs.proofs.Mains.{is_mover, named_first}
use Rattle.ep_mover_runs.proofs.Expressions.{expression_follows}
use Rattle.ep_mover_runs.proofs.Starts.{start_follows}
use Rattle.ep_mover_runs.proofs.Steps.{what_does}
use Rattle.ep_mover_runs.proofs.Fewer.{all_move}
use Rattle.ep_mover_runs.proofs.Ends.{run_follows}

pub expressions_follow : ExpressionsFollow
expressions_follow p formed form o inputs s m f e t h i =
    let g = is_mover p formed form in
    expression_follows p formed g o inputs s m f e t h
    (subst (λ bs. has_sort p.types p.blocks bs e (integer t) ≡ true) (named_first p formed g) i)

pub statements_follow : StatementsFollow
statements_follow p formed form o inputs s m f w h here result i bodies l n =
    let g = is_mover p formed form in
    what_does p formed g o inputs here result bodies n w l h
    (subst (λ bs. what_fits p here result w bs false ≡ true) (named_first p formed g) i) s m f

pub all_follow : AllFollow
all_follow p formed form o inputs s m f ss h here result i bodies n =
    let g = is_mover p formed form in
    all_move p formed g o inputs here result bodies n ss h
    (subst (λ bs. stmts_fit p here result ss bs false ≡ true) (named_first p formed g) i) s m f

pub starts_follow : StartsFollow
starts_follow p formed o inputs = start_follows o p inputs formed

pub runs_follow : RunsFollow
runs_follow p formed form o inputs n = run_follows p formed (is_mover p formed form) o inputs n
