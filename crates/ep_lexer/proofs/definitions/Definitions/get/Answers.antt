use Rattle.std.proofs.Common.{◌∙◌}
use Rattle.ep_lexer.proofs.Tables.{looks}
use Rattle.ep_lexer.proofs.definitions.Definitions.get.Goals as goal

pub returns : goal.returns
returns c = c.copied.ensures ∙ c.get.ensures.value ∙ looks c.args.name.now c.args.self.now.table.entries
