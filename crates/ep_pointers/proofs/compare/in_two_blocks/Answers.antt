use Rattle.std.proofs.Common.{rules, ◌≡◌, [], sym, ap, ◌∙◌}
use Rattle.ep_pointers.specs.Compare.{in_two_blocks}
use Rattle.ep_pointers.proofs.Comparing.{none_in_two, two_blocks_at, empty_at}
use Rattle.ep_pointers.proofs.compare.in_two_blocks.Goals as goal

pub returns-in_default-first : goal.returns-in_default-first
returns-in_default-first g c =
    let e : c.args.y.now ≡ [] = empty_at c.args.y.now (search rules) in
    sym (ap (λ ys. in_two_blocks c.args.x.now ys) e ∙ none_in_two c.args.x.now)

pub returns : goal.returns
returns g c = two_blocks_at c.in-Some.s.now c.in-Some-first.t.now c.args.x.now c.args.y.now c.in-Some.ensures.value
    c.in-Some-first.ensures.value c.requires.left c.requires.right
