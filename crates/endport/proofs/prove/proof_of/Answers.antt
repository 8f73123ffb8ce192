use Rattle.std.proofs.Common.{refl, sym, ap, ◌∙◌, subst, true}
use Rattle.ep_alarms.specs.Text.{report_text_of}
use Rattle.ep_core.specs.ProgramView as core
use Rattle.ep_iterator.specs.Reports.{AllMayStand}
use Rattle.endport.specs.Check.{report_status}
use Rattle.endport.proofs.Proving.{same_parts}
use Rattle.endport.proofs.Reporting.{none_is_done}
use Rattle.endport.proofs.prove.proof_of.Goals as goal

pub returns-clause-status : goal.returns-clause-status
returns-clause-status c = c.in_ok-job.ensures.status ∙ ap report_status c.in_ok-report.ensures.alarms

pub returns-clause-report : goal.returns-clause-report
returns-clause-report c = λ e. c.in_ok-job.ensures.report e ∙ ap report_text_of c.in_ok-report.ensures.alarms

pub returns-clause-spells : goal.returns-clause-spells
returns-clause-spells c = λ e.
    same_parts c.in_ok-job.job.text.items _ c.args.asked.orders c.args.asked.model c.args.asked.unroll
    c.in_ok-report.report.heads.items _ c.args.source.now c.args.source.now (c.in_ok-job.ensures.spells e) refl
    c.in_ok-report.ensures.heads refl

pub returns-clause-portable : goal.returns-clause-portable
returns-clause-portable c = λ e.
    c.in_ok-report.ensures.agree c.requires
    (none_is_done c.in_ok-report.report.alarms (sym c.in_ok-job.ensures.status ∙ e))

pub returns-clause-stand : goal.returns-clause-stand
returns-clause-stand c =
    subst (λ xs. AllMayStand true (core.program_view c.args.program.now) xs) c.in_ok-report.ensures.alarms
    (c.in_ok-report.ensures.even refl c.even_laws.ensures.products)
