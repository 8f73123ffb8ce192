use Rattle.std.proofs.Common.{◌≡◌, true, false, map, FitsSigned, rules, sym, ◌∙◌, ap, subst}
use Rattle.std.specs.Int.{w64}
use Rattle.std.proofs.lemmas.Int.{to_z-of_z}
use Rattle.std.specs.List.{list_any}
use Rattle.ep_int.specs.Types.{size_of}
use Rattle.ep_int.specs.Memory.{is_undefined}
use Rattle.ep_bytes.specs.View.{byte_in, read_as}
use Rattle.ep_bytes.specs.StoreView.{IsPlace}
use Rattle.ep_bytes.proofs.Places.{either, found_place}
use Rattle.ep_bytes.proofs.store.Store.load.Goals as goal

pub returns-then-is_any_undefined-clause-value : goal.returns-then-is_any_undefined-clause-value
returns-then-is_any_undefined-clause-value c =
    let now = c.args.self.now in
    let bytes = c.range-bytes.result.now in
    let fits : FitsSigned w64 c.args.offset = search rules in
    let place =
    subst (λ z. IsPlace now c.args.block z (size_of now.model c.args.what) c.in_ok-place.place)
    (to_z-of_z w64 c.args.offset fits) c.in_ok-place.ensures.ok in
    let found = found_place c.self.view_is c.args.order c.args.what c.args.block c.args.offset c.in_ok-place.place bytes
    c.self.invariant place c.in_ok-place.ensures.aligned c.range-bytes.ensures in
    let some : list_any is_undefined (map byte_in bytes) ≡ true =
    sym c.is_any_undefined.ensures ∙ c.if-is_any_undefined.true in
    sym (ap read_as (found ∙ ap (either c.args.order c.args.what bytes) some))

pub returns-clause-value : goal.returns-clause-value
returns-clause-value c =
    let now = c.args.self.now in
    let bytes = c.range-bytes.result.now in
    let fits : FitsSigned w64 c.args.offset = search rules in
    let place =
    subst (λ z. IsPlace now c.args.block z (size_of now.model c.args.what) c.in_ok-place.place)
    (to_z-of_z w64 c.args.offset fits) c.in_ok-place.ensures.ok in
    let found = found_place c.self.view_is c.args.order c.args.what c.args.block c.args.offset c.in_ok-place.place bytes
    c.self.invariant place c.in_ok-place.ensures.aligned c.range-bytes.ensures in
    let none : list_any is_undefined (map byte_in bytes) ≡ false =
    sym c.is_any_undefined.ensures ∙ c.if-is_any_undefined.false in
    c.value.ensures.value ∙ sym (ap read_as (found ∙ ap (either c.args.order c.args.what bytes) none))
