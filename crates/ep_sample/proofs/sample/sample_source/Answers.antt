use Rattle.std.proofs.Common.{rules, ◌≡◌, ◌≤◌, ◌+◌, ◌*◌, length, IfOk, subst, sym}
use Rattle.std.proofs.lemmas.Result.{IfOk-weaker}
use Rattle.ep_sample.specs.Sample.{source_of}
use Rattle.ep_sample.proofs.Lengths.{source_short}
use Rattle.ep_sample.proofs.sample.sample_source.Goals as goal

pub returns-clause-short : goal.returns-clause-short
returns-clause-short c =
    let text : IfOk c.map_err.result (λ v. v.items ≡ source_of c.args.start c.args.fields) = search rules in
    IfOk-weaker c.map_err.result _ _
    (λ v e. subst (λ t. length t ≤ 66 * c.args.fields + 283) (sym e) (source_short c.args.start c.args.fields)) text
