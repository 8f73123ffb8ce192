use Rattle.std.proofs.Common.{ℕ, Bool, List, vec_len}
use Rattle.std.specs.Prelude.{reverse}
use Rattle.ep_ast.specs.Token.{Tok}
use Rattle.ep_exprs.specs.Pending.{Value}
use Rattle.ep_exprs.proofs.frames.complete.Given as goal

abbrev pub invariant-loop-frame : goal.invariant-loop-frame
invariant-loop-frame l = (N : List ℕ → Bool) (xs zs : List Tok) → Value N xs (reverse l.fn.frames.items) l.fn.value zs
    → Value N xs (reverse l.left.items) l.found zs

abbrev pub decreases-loop-frame : goal.decreases-loop-frame
decreases-loop-frame l = vec_len l.left
