use Rattle.ep_alarms.proofs.Lines.{text_determines}
use Rattle.ep_alarms.proofs.text.report_text.Goals as goal

pub returns-clause-determines : goal.returns-clause-determines
returns-clause-determines c = λ other typed e. text_determines other c.args.a.now typed c.list.ensures.typed e
