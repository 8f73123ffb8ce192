use Rattle.std.proofs.Common.{◌≡◌, ap, sym, ◌∙◌, rules}
use Rattle.std.specs.Option.{option_map}
use Rattle.ep_int.specs.declared.types.Cmp.TheVariants.{Eq}
use Rattle.ep_congruence_laws.specs.Classes.{meet_of}
use Rattle.ep_congruence_domain.specs.Congruence.{class_of, twice, filter_of}
use Rattle.ep_congruence_domain.proofs.Formed.{formed_is}
use Rattle.ep_congruence.proofs.congruence.CongruenceNum.filter.Goals as goal

pub returns-then-eq : goal.returns-then-eq
returns-then-eq c =
    let x = c.args.x.now in let y = c.args.y.now in
    let e : c.args.c ≡ Eq = search rules in
    ap (option_map twice) (sym c.in_ok-both.was ∙ formed_is c.met.result (meet_of (class_of x) (class_of y)) c.met.ensures) ∙ sym (ap (λ d. filter_of d x y) e)
