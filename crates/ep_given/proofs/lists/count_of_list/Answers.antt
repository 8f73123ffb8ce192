use Rattle.std.proofs.Common.{◌≡◌, length, Some, sym, ap, ◌∙◌, arith}
use Rattle.ep_given.proofs.ListLemmas.{list_counted}
use Rattle.ep_given.proofs.lists.count_of_list.Goals as goal

pub returns-in-List : goal.returns-in-List
returns-in-List c =
    let count : c.len.result ≡ length c.in-List.values.items = omega (arith, c.len.ensures, c.in-List.values.ok.0) in
    ap Some count ∙ sym (list_counted c.in-List.field-0 c.args.value.now c.in-List.values c.in-List.is)
