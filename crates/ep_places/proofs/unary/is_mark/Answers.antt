use Rattle.std.proofs.Common.{◌≡◌, ◌∙◌, Bool, true, false, nat_eq, refl, sym, ap, rules, eq-eqb, ne_eqb}
use denote.Enum.Bare.{same_true, same_false}
use Rattle.ep_ast.specs.contracts.marks.Mark.{the_type}
use Rattle.ep_ast.specs.declared.marks.Mark.{Mark}
use Rattle.ep_ast.specs.Mark.{mark_number}
use Rattle.ep_ast.proofs.Numbers.{same_mark}
use Rattle.ep_places.proofs.unary.is_mark.Goals as goal

by_cases : (b : Bool) (m n : Mark) → (b ≡ true → m ≡ n) → (b ≡ false → (m ≡ n) → ⊥)
    → b ≡ nat_eq (mark_number m) (mark_number n)
by_cases true m n h g = sym (eq-eqb (mark_number m) (mark_number n) (ap mark_number (h refl)))
by_cases false m n h g = sym (ne_eqb (mark_number m) (mark_number n) (λ e. g refl (same_mark m n e)))

pub returns : goal.returns
returns c = by_cases c.eq.result c.args.mark c.args.other
    (λ h. same_true the_type (search rules) c.args.mark c.args.other (sym c.eq.ensures ∙ h))
    (λ h. same_false the_type c.args.mark c.args.other (sym c.eq.ensures ∙ h))
