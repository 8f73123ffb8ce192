use Rattle.std.proofs.Common.{map, sym, ◌∙◌}
use Rattle.std.proofs.lemmas.Result.{IfOk-weaker}
use Rattle.ep_ast.specs.Declaration as tree
use Rattle.ep_declared.specs.View as objects
use Rattle.ep_given.specs.View as view
use Rattle.ep_given.proofs.ListLemmas.{list_cleared}
use Rattle.ep_given.proofs.lists.cleared.Goals as goal

pub returns-in-List : goal.returns-in-List
returns-in-List c =
    IfOk-weaker c.with_clear.result _ _
    (λ g h. h c.in-List.field-0 (tree.to_values (map tree.value_of c.in-List.field-1.items))
    ∙ sym (list_cleared c.args.types.now (objects.object c.args.x.now) (view.given c.args.given) c.in-List.field-0 c.args.value.now
    c.in-List.field-1 c.in-List.is))
    c.with_clear.ensures
