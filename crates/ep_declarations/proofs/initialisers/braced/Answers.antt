use Rattle.std.proofs.Common.{◌≡◌, true, false, List, map, ap, ◌∙◌}
use Rattle.std.specs.List.{list_any}
use Rattle.ep_ast.specs.Declaration as shape
use Rattle.ep_ast.specs.Declaration.{Value, value_of, to_values}
use Rattle.ep_ast.specs.Depth.{is_deep_value}
use Rattle.ep_declarations.proofs.PartLemmas.{any_value}
use Rattle.ep_declarations.proofs.initialisers.braced.Goals as goal

pub returns-in-Fits : goal.returns-in-Fits
returns-in-Fits c = λ vs p. (
    let h : (map value_of c.in-Fits.all.items ≡ vs) × (list_any is_deep_value vs ≡ false) = rw c.in-Fits.is at p in
    (c.new_list.ensures ∙ ap (λ (us : List Value). shape.listed c.args.line (to_values us)) h.0, any_value vs ∙ h.1))

pub returns-in-TooDeep : goal.returns-in-TooDeep
returns-in-TooDeep c = λ vs p. (let h : list_any is_deep_value vs ≡ true = rw c.in-TooDeep.is at p in any_value vs ∙ h)
