-- A pointer without null, as code has it.
use Rattle.std.proofs.Common.{◌≡◌, Bool, false, List, [], ◌∷◌, Option, Some, None, refl, sym, ap, ◌∙◌}
use Rattle.ep_pointers.specs.Value.{Pointers, Target, pointers}
use Rattle.ep_pointers.specs.Sum.{of_targets}
use Rattle.ep_cells.specs.declared.cell.Cell.{Cell}
use Rattle.ep_cells.specs.declared.cell.Value.TheVariants.{Ptr}
use Rattle.ep_cells.specs.States.{Known}
use Rattle.ep_cell_ranges.specs.Narrow.{with_value}
use Rattle.ep_evaluation.specs.Narrowed.{null_taken}

module _ {N : Type 0} (c : Cell N) (b : Bool) (k : Known N) where
  pub taken_none : (ts : List (Target N)) (o : Option (Pointers N)) → o ≡ None → o ≡ of_targets ts
      → None ≡ null_taken c false (pointers b ts) k
  taken_none [] o e f = refl
  taken_none (t ∷ ts) o e f = absurd (let q : None ≡ Some (pointers false (t ∷ ts)) = sym e ∙ f in cc)

  pub taken_some : (ts : List (Target N)) (o : Option (Pointers N)) (q : Pointers N) → o ≡ Some q → o ≡ of_targets ts
      → Some (with_value c (Ptr q) k) ≡ null_taken c false (pointers b ts) k
  taken_some [] o q e f = absurd (let r : Some q ≡ None = sym e ∙ f in cc)
  taken_some (t ∷ ts) o q e f =
      let r : q ≡ pointers false (t ∷ ts) = (let s : Some q ≡ Some (pointers false (t ∷ ts)) = sym e ∙ f in cc) in
      ap (λ p. Some (with_value c (Ptr p) k)) r
