use Rattle.std.proofs.Common.{◌≡◌, true, false, rules, ap, ◌∙◌}
use Rattle.ep_cert_cells.specs.Reading.{some_pointer}
use Rattle.ep_cert_cells.proofs.Rising.{alone, only_null, with_null}
use Rattle.ep_cert_cells.proofs.pointers.some_pointer.Goals as goal

pub returns-then-not-null : goal.returns-then-not-null
returns-then-not-null c =
    let f : false ≡ c.args.null = search rules in
    c.of_targets-other.ensures ∙ alone c.args.targets.items ∙ ap (λ b. some_pointer b c.args.targets.items) f

pub returns-in-None : goal.returns-in-None
returns-in-None c =
    let f : true ≡ c.args.null = search rules in
    only_null c.args.targets.items _ c.in-None.ensures (search rules)
    ∙ ap (λ b. some_pointer b c.args.targets.items) f

pub returns-in_ok-join-in-Some : goal.returns-in_ok-join-in-Some
returns-in_ok-join-in-Some c =
    let f : true ≡ c.args.null = search rules in
    with_null _ c.args.targets.items _ c.in-Some.other _ c.requires c.in-Some.ensures (search rules)
    c.in_ok-join-in-Some.ensures.value
    ∙ ap (λ b. some_pointer b c.args.targets.items) f
