-- The state in which a program begins, in two steps.
use Rattle.std.proofs.Common.{◌≡◌, List, slice_get, sym, ap, ◌∙◌, subst}
use Rattle.ep_int.specs.declared.types.Model.{Model}
use Rattle.ep_int.specs.declared.types.Order.{Order}
use Rattle.ep_domain.specs.Domain.{Ops}
use Rattle.ep_cells.specs.declared.cell.Cell.{Cell}
use Rattle.ep_cells.specs.States.{Known, AreCells}
use Rattle.ep_core.specs.declared.program.CoreProgram.{CoreProgram}
use Rattle.ep_core.specs.Runs.{Side, left, right}
use Rattle.ep_core.specs.ProgramView.{program_view}
use Rattle.ep_equalities.specs.declared.pair.Mode.TheVariants.{Both}
use Rattle.ep_transfers.specs.Ends.{first_of_blocks, locals_in, entry_known}
use Rattle.ep_transfers.specs.Transfers.{entered}
use Rattle.ep_transfer_entry.proofs.Together.{first_are_cells}

module _ {N : Type 0} (D : Ops N) (p : CoreProgram) (d : Model) (cs : List (Cell N)) (model : d ≡ p.types.model)
    (cells : cs ≡ first_of_blocks D (program_view p) 0 (program_view p).blocks) where
  pub are_cells : AreCells d cs
  are_cells =
      subst (λ z. AreCells z cs) (sym model)
      (subst (AreCells p.types.model) (sym cells) (first_are_cells D (program_view p) p.well_formed))

  abbrev first_known : (Side → Order) → Known N
  first_known ord = record {
    orders = (ord left, ord right);
    model = p.types.model;
    cells = first_of_blocks D (program_view p) 0 (program_view p).blocks;
  }

  first_is : (l r : Order) (s : Known N) → s ≡ record { orders = (l, r); model = d; cells = cs }
      → (ord : Side → Order) → ord left ≡ l → ord right ≡ r → s ≡ first_known ord
  first_is l r s e ord el er =
      e ∙ ap (λ (z : Model). record { orders = (l, r); model = z; cells = cs }) model
      ∙ ap (λ (z : List (Cell N)). record { orders = (l, r); model = p.types.model; cells = z }) cells
      ∙ ap (λ (z : Order). record {
        orders = (z, r);
        model = p.types.model;
        cells = first_of_blocks D (program_view p) 0 (program_view p).blocks;
      }) (sym el)
      ∙ ap (λ (z : Order). record {
        orders = (ord left, z);
        model = p.types.model;
        cells = first_of_blocks D (program_view p) 0 (program_view p).blocks;
      }) (sym er)

  pub entry_is : (l r : Order) (s t : Known N) → s ≡ record { orders = (l, r); model = d; cells = cs }
      → t ≡ entered D (program_view p) Both (locals_in D (program_view p) (slice_get (program_view p).functions p.main)) s
      → (ord : Side → Order) → ord left ≡ l → ord right ≡ r → t ≡ entry_known D (program_view p) ord
  entry_is l r s t e h ord el er =
      h ∙ ap (entered D (program_view p) Both (locals_in D (program_view p) (slice_get (program_view p).functions p.main)))
      (first_is l r s e ord el er)

  pub entry_model : (l r : Order) (s : Known N) → s ≡ record { orders = (l, r); model = d; cells = cs }
      → s.model ≡ p.types.model
  entry_model l r s e = ap (λ (z : Known N). z.model) e ∙ model
