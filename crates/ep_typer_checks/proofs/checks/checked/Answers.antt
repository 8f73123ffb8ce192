use Rattle.std.proofs.Common.{List, map, ap, ◌∙◌}
use Rattle.std.proofs.lemmas.Result.{err_from_is_err_and}
use Rattle.ep_core.specs.View.{block_view}
use Rattle.ep_core.specs.declared.program.BlockInfo.{BlockInfo}
use Rattle.ep_call_graph.specs.View.{call_sites}
use Rattle.ep_defined.specs.declared.sofar.Defined.{Defined}
use Rattle.ep_defined.specs.View.{defined, sofar}
use Rattle.ep_elaboration.specs.Functions.{numbers_of}
use Rattle.ep_typer_checks.proofs.Checking.{bodies_fail, checks_pass, cycles_fail, depths_fail, main_comes, no_main}
use Rattle.ep_typer_checks.proofs.Checking.{sizes_fail, some, within}
use Rattle.ep_typer_checks.proofs.checks.checked.Goals as goal

pub returns-in_err-main-clause-means : goal.returns-in_err-main-clause-means
returns-in_err-main-clause-means c =
    let p = err_from_is_err_and c.from_residual.result c.from_residual.ensures.1 in
    rw (p.1, p.2) (no_main (sofar c.args.sofar.now) (call_sites c.args.places.now) (map defined c.deref.result.now)
    (ap (map defined) c.deref.ensures.value) c.in_err-main.field-0.0 c.in_err-main.ensures)

pub returns-in_err-all_have_bodies-clause-means : goal.returns-in_err-all_have_bodies-clause-means
returns-in_err-all_have_bodies-clause-means c =
    let p = err_from_is_err_and c.from_residual-in_err-all_have_bodies.result c.from_residual-in_err-all_have_bodies.ensures.1 in
    rw (p.1, p.2) (bodies_fail (sofar c.args.sofar.now) (call_sites c.args.places.now) (map defined c.deref.result.now)
    (ap (map defined) c.deref.ensures.value) c.in_ok-main.main.number c.in_ok-main.main.line c.in_ok-main.ensures c.in_ok-numbers.numbers.items
    (c.in_ok-numbers.ensures ∙ ap (λ (xs : List Defined). numbers_of (map defined xs)) c.deref-2.ensures.value)
    c.deref-3.result.now c.deref-3.ensures.value c.in_err-all_have_bodies.field-0.0 c.in_err-all_have_bodies.ensures)

pub none_recurs-requires-clause-some : goal.none_recurs-requires-clause-some
none_recurs-requires-clause-some c =
    some (sofar c.args.sofar.now) (call_sites c.args.places.now) (map defined c.deref.result.now)
    (ap (map defined) c.deref.ensures.value) c.in_ok-main.main.number c.in_ok-main.main.line c.in_ok-main.ensures c.in_ok-numbers.numbers.items
    (c.in_ok-numbers.ensures ∙ ap (λ (xs : List Defined). numbers_of (map defined xs)) c.deref-2.ensures.value)
    c.function_count-count.result c.function_count-count.ensures c.requires.numbers

pub none_recurs-requires-clause-within : goal.none_recurs-requires-clause-within
none_recurs-requires-clause-within c =
    within (sofar c.args.sofar.now) (call_sites c.args.places.now) (map defined c.deref.result.now)
    (ap (map defined) c.deref.ensures.value) c.in_ok-main.main.number c.in_ok-main.main.line c.in_ok-main.ensures c.in_ok-numbers.numbers.items
    (c.in_ok-numbers.ensures ∙ ap (λ (xs : List Defined). numbers_of (map defined xs)) c.deref-2.ensures.value)
    c.function_count-count.result c.function_count-count.ensures c.requires.numbers c.requires.within

pub returns-in_err-none_recurs-clause-means : goal.returns-in_err-none_recurs-clause-means
returns-in_err-none_recurs-clause-means c =
    let p = err_from_is_err_and c.from_residual-in_err-none_recurs.result c.from_residual-in_err-none_recurs.ensures.1 in
    rw (p.1, p.2) (cycles_fail (sofar c.args.sofar.now) (call_sites c.args.places.now) (map defined c.deref.result.now)
    (ap (map defined) c.deref.ensures.value) c.in_ok-main.main.number c.in_ok-main.main.line c.in_ok-main.ensures c.in_ok-numbers.numbers.items
    (c.in_ok-numbers.ensures ∙ ap (λ (xs : List Defined). numbers_of (map defined xs)) c.deref-2.ensures.value)
    c.function_count-count.result c.function_count-count.ensures c.deref-3.result.now c.deref-3.ensures.value
    c.in_ok-all_have_bodies.ensures c.in_err-none_recurs.field-0.0 c.in_err-none_recurs.ensures.means)

pub in_order-requires-clause-within : goal.in_order-requires-clause-within
in_order-requires-clause-within c =
    within (sofar c.args.sofar.now) (call_sites c.args.places.now) (map defined c.deref.result.now)
    (ap (map defined) c.deref.ensures.value) c.in_ok-main.main.number c.in_ok-main.main.line c.in_ok-main.ensures c.in_ok-numbers.numbers.items
    (c.in_ok-numbers.ensures ∙ ap (λ (xs : List Defined). numbers_of (map defined xs)) c.deref-2.ensures.value)
    c.function_count-count.result c.function_count-count.ensures c.requires.numbers c.requires.within

pub in_order-requires-clause-has_main : goal.in_order-requires-clause-has_main
in_order-requires-clause-has_main c =
    main_comes (sofar c.args.sofar.now) (call_sites c.args.places.now) (map defined c.deref.result.now)
    (ap (map defined) c.deref.ensures.value) c.in_ok-main.main.number c.in_ok-main.main.line c.in_ok-main.ensures c.in_ok-numbers.numbers.items
    (c.in_ok-numbers.ensures ∙ ap (λ (xs : List Defined). numbers_of (map defined xs)) c.deref-2.ensures.value)
    c.deref-4.result.now c.deref-4.ensures.value

pub returns-in_err-order-clause-means : goal.returns-in_err-order-clause-means
returns-in_err-order-clause-means c =
    let p = err_from_is_err_and c.from_residual-in_err-order.result c.from_residual-in_err-order.ensures.1 in
    rw (p.1, p.2) (depths_fail (sofar c.args.sofar.now) (call_sites c.args.places.now) (map defined c.deref.result.now)
    (ap (map defined) c.deref.ensures.value) c.in_ok-main.main.number c.in_ok-main.main.line c.in_ok-main.ensures c.in_ok-numbers.numbers.items
    (c.in_ok-numbers.ensures ∙ ap (λ (xs : List Defined). numbers_of (map defined xs)) c.deref-2.ensures.value)
    c.function_count-count.result c.function_count-count.ensures c.deref-3.result.now c.deref-3.ensures.value
    c.in_ok-all_have_bodies.ensures c.in_ok-none_recurs.ensures.means c.in_err-order.field-0.0 c.in_err-order.ensures.shallow)

pub returns-in_err-all_fit-clause-means : goal.returns-in_err-all_fit-clause-means
returns-in_err-all_fit-clause-means c =
    let p = err_from_is_err_and c.from_residual-in_err-all_fit.result c.from_residual-in_err-all_fit.ensures.1 in
    rw (p.1, p.2) (sizes_fail (sofar c.args.sofar.now) (call_sites c.args.places.now) (map defined c.deref.result.now)
    (ap (map defined) c.deref.ensures.value) c.in_ok-main.main.number c.in_ok-main.main.line c.in_ok-main.ensures c.in_ok-numbers.numbers.items
    (c.in_ok-numbers.ensures ∙ ap (λ (xs : List Defined). numbers_of (map defined xs)) c.deref-2.ensures.value)
    c.function_count-count.result c.function_count-count.ensures c.deref-3.result.now c.deref-3.ensures.value
    c.in_ok-all_have_bodies.ensures c.in_ok-none_recurs.ensures.means c.in_ok-order.ensures.shallow
    (map block_view c.deref-5.result.now) (ap (λ (bs : List BlockInfo). map block_view bs) c.deref-5.ensures.value)
    c.in_err-all_fit.field-0.0 c.in_err-all_fit.ensures)

pub returns-clause-means : goal.returns-clause-means
returns-clause-means c =
    checks_pass (sofar c.args.sofar.now) (call_sites c.args.places.now) (map defined c.deref.result.now)
    (ap (map defined) c.deref.ensures.value) c.in_ok-main.main.number c.in_ok-main.main.line c.in_ok-main.ensures c.in_ok-numbers.numbers.items
    (c.in_ok-numbers.ensures ∙ ap (λ (xs : List Defined). numbers_of (map defined xs)) c.deref-2.ensures.value)
    c.function_count-count.result c.function_count-count.ensures c.deref-3.result.now c.deref-3.ensures.value
    c.in_ok-all_have_bodies.ensures c.in_ok-none_recurs.ensures.means c.in_ok-order.ensures.shallow
    (map block_view c.deref-5.result.now) (ap (λ (bs : List BlockInfo). map block_view bs) c.deref-5.ensures.value)
    c.in_ok-all_fit.ensures
