use Rattle.std.proofs.Common.{List, map, refl}
use Rattle.ep_ast.specs.declared.declarations.ParamTree.{ParamTree}
use Rattle.ep_ast.specs.Declaration.{param_of}
use Rattle.ep_elaboration.specs.Functions.{have_same_names, is_same_text}
use Rattle.ep_typer_arms.proofs.Pairs.{of_other_length}
use Rattle.ep_typer_arms.proofs.heads.have_same_names.Goals as goal

pub returns-then-a-b : goal.returns-then-a-b
returns-then-a-b c =
    of_other_length (λ (p q : ParamTree). is_same_text (param_of p).name (param_of q).name)
    (λ (ps qs : List ParamTree). have_same_names (map param_of ps) (map param_of qs)) (λ p q ps qs. refl) (λ q qs. refl)
    (λ p ps. refl) c.args.a.now c.args.b.now c.if-a-b.true
