use Rattle.std.proofs.Common.{◌≡◌, ℕ, ◌<◌, length, map, slice_index, FitsSigned, take, rules, refl, sym, subst, ap}
use Rattle.std.proofs.Common.{◌∙◌, true}
use Rattle.std.specs.Int.{w128}
use Rattle.std.specs.List.{list_all}
use Rattle.std.proofs.lemmas.Int.{to_z-of_z}
use Rattle.std.proofs.lemmas.List.{get_or-take}
use Rattle.ep_int.specs.Types.{bytes_of, size_of}
use Rattle.ep_int.specs.Memory.{is_number, number_of, number_in}
use Rattle.ep_bytes.specs.View.{byte_in}
use Rattle.ep_bytes.specs.Cells.{cell_at}
use Rattle.ep_bytes.proofs.Readings.{number_of_cells}
use Rattle.ep_bytes.proofs.reads.value.Goals as goal

pub returns-in-Some-clause-value : goal.returns-in-Some-clause-value
returns-in-Some-clause-value c =
    let bs = c.args.bytes.now in
    let all = c.in-Some.all in
    let t = c.in-Int.t in
    let fits : FitsSigned w128 c.decode.result = search rules in
    let width : length bs ≡ bytes_of t = c.requires ∙ ap (size_of c.args.model) c.in-Int.is in
    let known : (p : ℕ) → p < bytes_of t → slice_index (take (length bs) all) p ≡ number_in (byte_in (cell_at bs p)) =
    λ p h. (let l : p < length bs = subst (λ n. p < n) (sym width) h in
    get_or-take (length bs) all p 0 l ∙ c.in-Some.ensures.some p l) in
    let v : c.decode.result ≡ number_of c.args.order t (map byte_in bs) =
    c.decode.ensures.value ∙ number_of_cells c.args.order t bs (λ p. slice_index (take (length bs) all) p) known in
    let numbers : list_all is_number (map byte_in bs) ≡ true = c.in-Some.ensures.none.0 refl in
    let what = c.in-Int.is in
    rw (to_z-of_z w128 c.decode.result fits, v, what, numbers) refl
