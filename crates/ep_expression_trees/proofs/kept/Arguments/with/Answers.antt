use Rattle.std.proofs.Common.{◌≡◌, ◌++◌, ◌∷◌, [], map, refl, arith}
use Rattle.std.proofs.lemmas.List.{map_push}
use Rattle.ep_ast.specs.Expression.{expr}
use Rattle.ep_expression_trees.proofs.KeptLemmas.{heights-last, stars-last}
use Rattle.ep_expression_trees.proofs.kept.Arguments.with.Goals as goal

pub returns-in_ok-trees-in-Some : goal.returns-in_ok-trees-in-Some
returns-in_ok-trees-in-Some c = λ ts t p q. (
    let k = c.in-Some.ensures ts t p q in
    let e : map expr c.in_ok-trees-in-Some.trees.items ≡ map expr c.in-Some.trees.items ++ expr c.in-Some.tree ∷ [] =
    rw c.in_ok-trees-in-Some.ensures (map_push expr c.in-Some.trees.items c.in-Some.tree) in (
      rw (e, k.0, k.1) refl,
      omega (arith, heights-last ts t, k.2),
      k.3,
      omega (arith, stars-last ts t, k.4),
    ))

pub returns-in-None : goal.returns-in-None
returns-in-None c = λ ts t p q. c.too_deep.ensures (ts ++ t ∷ [])
    (omega (arith, heights-last ts t, stars-last ts t, c.in-None.ensures ts t p q))
