-- Constants, addresses of blocks and null, and what is the same as another.
use Rattle.std.proofs.Common.{◌≡◌, ℕ, ℤ, Bool, true, List, [], ◌++◌, Some, refl, sym, ap, ◌∙◌, subst}
use Rattle.ep_int.specs.declared.types.IntType.{IntType}
use Rattle.ep_int.specs.Types.{InRange}
use Rattle.ep_int.proofs.Arithmetic.{in_range_some_type}
use Rattle.ep_domain.specs.Domain.{Ops, Lawful}
use Rattle.ep_pointers.specs.Value.{Pointers, HasOneMember}
use Rattle.ep_core.specs.Runs.{Side}
use Rattle.ep_equalities.specs.declared.pair.Mode.{Mode}
use Rattle.ep_equalities.specs.declared.pair.Fault.{Fault}
use Rattle.ep_equalities.specs.declared.pair.SideValue.{SideValue}
use Rattle.ep_evaluation.specs.Given.{Given, runs, on, pair_on}
use Rattle.ep_evaluation.specs.Operators.{constant_form}
use Rattle.ep_evaluation.specs.Evaluation.{same, formless, constant_given, pointer_given, same_given, same_side}
use Rattle.ep_evaluation.proofs.General.{on_running}
use Rattle.ep_cells.specs.declared.cell.Value.TheVariants.{Num, Ptr}
use Rattle.ep_singles.specs.Cells.{IsOneValue, one_number, one_pointer}
use Rattle.ep_single_given.specs.Laws.{IsOneGiven}

pub no_faults : (xs ys : List Fault) → xs ≡ [] → ys ≡ [] → xs ++ ys ≡ []
no_faults xs ys e f = ap (λ z. z ++ ys) e ∙ f

module _ {N : Type 0} (D : Ops N) where
  pub given_one : (mode : Mode) (f : Side → SideValue N) (b : Bool) (fs : List Fault) → fs ≡ []
      → ((s : Side) → runs mode s ≡ true → IsOneValue D (f s).value)
      → IsOneGiven D mode (record { pair = pair_on mode f b; faults = fs })
  given_one mode f b fs e h = record {
    quiet = e;
    each = λ s r. subst (λ (x : SideValue N). IsOneValue D x.value) (sym (on_running mode s f b r)) (h s r);
  }

  pub constants_give_one : Lawful D → (t : IntType) (v : ℤ) → InRange t v → (mode : Mode)
      → IsOneGiven D mode (constant_given D t v mode)
  constants_give_one law t v r mode =
      given_one mode (λ s. record { value = Some (Num (D.single v)); form = constant_form t v }) true [] refl
      (λ s i. one_number (D.single v) v (law.single_range v (in_range_some_type t v r)))

  pub pointers_give_one : (p : Pointers N) → HasOneMember D p → (mode : Mode)
      → IsOneGiven D mode (pointer_given D p mode)
  pointers_give_one p h mode =
      given_one mode (λ s. formless D (Some (Ptr p))) true [] refl (λ s i. one_pointer p h)

  pub sames_give_one : (sizes : List ℕ) (mode : Mode) (x : Given N) → IsOneGiven D mode x
      → IsOneGiven D mode (same_given D sizes mode x)
  sames_give_one sizes mode x h =
      given_one mode (λ s. same_side D sizes (on x.pair s)) (same D x) x.faults h.quiet (λ s r. h.each s r)
