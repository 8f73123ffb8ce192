use Rattle.ep_ast.specs.Declaration as source
use Rattle.std.proofs.Common.{map, refl}
use Rattle.ep_declared.specs.View as objects
use Rattle.ep_scopes.specs.View.{env}
use Rattle.ep_given.proofs.FirstLemmas.{begins_as_list}
use Rattle.ep_given.proofs.ListLemmas.{listed_tree, same_gives_in}
use Rattle.ep_given.proofs.first.first_given.Goals as goal

pub returns-in-List-clause-means : goal.returns-in-List-clause-means
returns-in-List-clause-means c =
    same_gives_in _ _ _ _ c.list_begun.result
    (begins_as_list (env c.args.env.now) c.args.global c.args.may_call c.args.line (objects.object c.args.x.now)
    (source.value_of c.args.value.now) c.in-List.field-0 (source.to_values (map source.value_of c.in-List.field-1.items))
    (listed_tree c.in-List.field-0 c.args.value.now c.in-List.field-1 c.in-List.field-1.items c.in-List.is refl))
    c.list_begun.ensures.means
