use Rattle.std.proofs.Common.{sym, ◌∙◌, ap}
use Rattle.std.specs.List.{list_all}
use Rattle.ep_bicells.specs.Standing.{is_number}
use Rattle.ep_bicells.proofs.owned.names_none.Goals as goal

pub returns-clause-none : goal.returns-clause-none
returns-clause-none c = λ h.
    ap (list_all is_number) (sym c.segments.ensures.value) ∙ sym c.are_numbers.ensures ∙ h
