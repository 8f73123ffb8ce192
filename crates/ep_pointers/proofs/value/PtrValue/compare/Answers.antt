use Rattle.std.proofs.Common.{arith, ◌≡◌, sym, subst}
use Rattle.std.proofs.lemmas.Grind.{common_steps}
use Rattle.ep_pointers.specs.Compare.{comparison_of, pointers_compare, Answers, IsOneAnswer}
use Rattle.ep_pointers.proofs.Answering.{pair_answers, one_answers}
use Rattle.ep_pointers.proofs.value.PtrValue.compare.Goals as goal

pub returns-clause-answers : goal.returns-clause-answers
returns-clause-answers g c =
    let e : c.answers.result ≡ comparison_of g.N.Num.ops c.args.c c.args.x.now c.args.y.now = grind
    (arith, common_steps) in
    λ p q h k. subst (Answers (pointers_compare c.args.c p q)) (sym e) (pair_answers g.N.Num.ops g.met.N.Num.laws
    c.args.c c.args.x.now c.args.y.now p q h k)

pub returns-clause-one : goal.returns-clause-one
returns-clause-one g c =
    let e : c.answers.result ≡ comparison_of g.N.Num.ops c.args.c c.args.x.now c.args.y.now = grind
    (arith, common_steps) in
    λ h k. subst IsOneAnswer (sym e) (one_answers g.N.Num.ops g.met.N.Num.laws c.args.c c.args.x.now c.args.y.now h k)
