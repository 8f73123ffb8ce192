use Rattle.std.proofs.Common.{◌≡◌, ◌≤◌, ◌∙◌, length, true, ap, arith, rules, sym, subst}
use Rattle.std.proofs.lemmas.List.{get_or_default}
use Rattle.ep_shared_parts.specs.Walks.{rest}
use Rattle.ep_cells.specs.Both.{value_of_both}
use Rattle.ep_cell_rows.specs.Parts.{united}
use Rattle.ep_cell_unions.proofs.Together.{rest_next, stays_next, none_to_go, rest_all}
use Rattle.ep_cell_unions.proofs.unions.behind_staying.Goals as goal

pub behind_run-run-requires-clause-stays : goal.behind_run-run-requires-clause-stays
behind_run-run-requires-clause-stays g c =
    let yes : c.in_ok-cell_stays.field-0 ≡ true = search rules in
    let same : c.index-cells-i.result ≡ c.index-cells-i-in-loop-i.result = c.index-cells-i.is ∙ get_or_default c.args.cells.now c.loop-i.i c.index-cells-i.result c.index-cells-i-in-loop-i.result c.loop-i-test.true ∙ sym c.index-cells-i-in-loop-i.is in
    subst (λ x. value_of_both (united g.N.Num.ops c.args.union) x.value c.in-Some.y.0.now.value ≡ x.value) same (ap (λ z. z.value) (c.in_ok-cell_stays.ensures.0 yes))

pub loop-i-preserved : goal.loop-i-preserved
loop-i-preserved g c =
    let next = c.in-Some.ensures.some in
    let yes : c.in_ok-cell_stays.field-0 ≡ true = search rules in
    let run = c.behind_run-run.ensures in
    record {
      within = run.within;
      at = run.at;
      left = run.rest (rest c.args.at c.args.others.now) (rest_next c.loop-i.i c.in-Some.y.0.now (rest c.loop-i.behind c.args.others.now) (rest c.in-Some.y.1 c.args.others.now) (rest c.args.at c.args.others.now) c.loop-i.invariant.left next.0);
      stay = λ k. c.loop-i.invariant.stay (stays_next (united g.N.Num.ops c.args.union) c.args.cells.now c.loop-i.i c.index-cells-i.result c.in-Some.y.0.now (rest c.loop-i.behind c.args.others.now) (rest c.in-Some.y.1 c.args.others.now) c.loop-i-test.true c.index-cells-i.is next.0 (c.in_ok-cell_stays.ensures.0 yes) (run.stay k));
    }

pub returns-clause-rest : goal.returns-clause-rest
returns-clause-rest g c =
    let past : length c.args.cells.now ≤ c.loop-i.i = omega (arith, c.loop-i-test.false) in
    rest_all (rest c.args.at c.args.others.now) c.loop-i.i (length c.args.cells.now) (rest c.loop-i.behind c.args.others.now) c.loop-i.invariant.within past c.loop-i.invariant.left

pub returns-clause-stay : goal.returns-clause-stay
returns-clause-stay g c =
    let past : length c.args.cells.now ≤ c.loop-i.i = omega (arith, c.loop-i-test.false) in
    c.loop-i.invariant.stay (none_to_go (united g.N.Num.ops c.args.union) c.args.cells.now (rest c.loop-i.behind c.args.others.now) c.loop-i.i past)
