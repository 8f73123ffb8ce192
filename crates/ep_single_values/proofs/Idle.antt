-- A side that doesn't run has nothing.
use Rattle.std.proofs.Common.{◌≡◌, ℕ, true, false, List, refl}
use Rattle.ep_domain.specs.Domain.{Ops}
use Rattle.ep_cells.specs.States.{Known}
use Rattle.ep_core.specs.Program.{Expr, const, null_value, load, addr_of, binary, convert, compare, ptr_compare}
use Rattle.ep_core.specs.Program.{logical_and, logical_or, logical_not, conditional, ptr_add, cast}
use Rattle.ep_core.specs.Runs.{Side, left, right}
use Rattle.ep_equalities.specs.declared.pair.Mode.{Mode}
use Rattle.ep_equalities.specs.declared.pair.Mode.TheVariants.{Both, Left, Right}
use Rattle.ep_evaluation.specs.Given.{runs, on, nothing}
use Rattle.ep_evaluation.specs.Evaluation.{expression}

module _ {N : Type 0} (D : Ops N) (sizes : List ℕ) (k : Known N) where
  right_idle : (e : Expr) → on ((expression D sizes e).gives Left k).pair right ≡ nothing
  right_idle (const t v) = refl
  right_idle null_value = refl
  right_idle (load w a) = refl
  right_idle (addr_of a) = refl
  right_idle (binary o t a b) = refl
  right_idle (convert t e) = refl
  right_idle (compare c t a b) = refl
  right_idle (ptr_compare c a b) = refl
  right_idle (logical_and a b) = refl
  right_idle (logical_or a b) = refl
  right_idle (logical_not e) = refl
  right_idle (conditional e a b) = refl
  right_idle (ptr_add e unit n back) = refl
  right_idle (cast e) = refl

  left_idle : (e : Expr) → on ((expression D sizes e).gives Right k).pair left ≡ nothing
  left_idle (const t v) = refl
  left_idle null_value = refl
  left_idle (load w a) = refl
  left_idle (addr_of a) = refl
  left_idle (binary o t a b) = refl
  left_idle (convert t e) = refl
  left_idle (compare c t a b) = refl
  left_idle (ptr_compare c a b) = refl
  left_idle (logical_and a b) = refl
  left_idle (logical_or a b) = refl
  left_idle (logical_not e) = refl
  left_idle (conditional e a b) = refl
  left_idle (ptr_add e unit n back) = refl
  left_idle (cast e) = refl

  pub expression_idle : (e : Expr) (mode : Mode) (s : Side) → runs mode s ≡ false
      → on ((expression D sizes e).gives mode k).pair s ≡ nothing
  expression_idle e Both s r = absurd (let q : true ≡ false = r in cc)
  expression_idle e Left left r = absurd (let q : true ≡ false = r in cc)
  expression_idle e Left right r = right_idle e
  expression_idle e Right left r = left_idle e
  expression_idle e Right right r = absurd (let q : true ≡ false = r in cc)
