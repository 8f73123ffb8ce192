use Rattle.std.proofs.Common.{◌≡◌, ℕ, List, sym, ap, ◌∙◌, subst}
use Rattle.ep_sample.specs.Sample.{source_of}
use Rattle.ep_sample.specs.Text.{sample_text}
use Rattle.endport.specs.Check.{IsCheck}
use Rattle.endport.specs.Sample.{usual}
use Rattle.endport.proofs.Reporting.{sampled}
use Rattle.endport.proofs.sample.sample_job.Goals as goal

pub returns : goal.returns
returns c =
    let start = c.args.sample.start in
    let fields = c.args.sample.fields in
    let report = c.in_ok-report.report in
    record {
      report = report.text.items;
      reports =
          sampled start fields report.status report.text.items
          (subst (λ (s : List ℕ). IsCheck usual s report.status report.text.items)
          (c.deref.ensures.value ∙ c.in_ok-source.ensures.text) c.in_ok-report.ensures);
      text_is =
          c.in_ok-text.ensures
          ∙ ap (λ (s : List ℕ). sample_text start fields s c.deref-3.result.now)
          (c.deref-2.ensures.value ∙ c.in_ok-source.ensures.text)
          ∙ ap (λ (r : List ℕ). sample_text start fields (source_of start fields) r) c.deref-3.ensures.value;
    }
