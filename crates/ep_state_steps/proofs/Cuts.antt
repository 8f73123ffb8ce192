-- The cells that lie partly in a place are split.
use Rattle.std.proofs.Common.{◌≡◌, List, sym, ◌∙◌, ap, subst}
use Rattle.ep_int.specs.declared.types.Model.{Model}
use Rattle.ep_domain.specs.Domain.{Ops}
use Rattle.ep_cells.specs.declared.cell.Cell.{Cell}
use Rattle.ep_cells.specs.declared.place.ByteRange.{ByteRange}
use Rattle.ep_cells.specs.Cells.{is_partly_in, place_of}
use Rattle.ep_cells.specs.States.{Known, Each}
use Rattle.ep_cells.proofs.Lists.{each_from}
use Rattle.ep_reads.specs.Split.{cut_cells, split}
use Rattle.ep_reads.proofs.Splits.{cut_shares, filter_tests}
use Rattle.ep_state_steps.specs.Ones.{split_at, Has}

pub all_have : {N : Type 0} (d : Model) (p : ByteRange) (cs xs slice : List (Cell N)) → slice ≡ xs → xs ≡ cut_cells d p cs
    → Each (Has p.side) slice
all_have d p cs xs slice f e =
    subst (Each (Has p.side)) (sym (f ∙ e))
    (each_from (Has p.side) (cut_cells d p cs)
    (λ x i. cut_shares p (place_of d x) (filter_tests (λ c. is_partly_in p (place_of d c)) x cs i)))

pub split_are : {N : Type 0} (D : Ops N) (k after : Known N) (p : ByteRange) (xs slice : List (Cell N)) → slice ≡ xs
    → xs ≡ cut_cells k.model p k.cells → after ≡ split_at D p.side slice k → after ≡ record k { cells = split D k p }
split_are D k after p xs slice f e h = h ∙ ap (λ l. split_at D p.side l k) (f ∙ e)
