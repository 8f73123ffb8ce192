use Rattle.std.proofs.Common.{◌-◌, length, take, drop}
use Rattle.ep_words.specs.View as view
use Rattle.ep_words.proofs.Rules.{within_rules}
use Rattle.ep_words.proofs.Parted.{too_few}
use Rattle.ep_words.proofs.command.asked.Goals as goal

pub returns-in-len1-clause-command : goal.returns-in-len1-clause-command
returns-in-len1-clause-command c = too_few c.args.words.now c.in-len1.len_below

pub returns-in-len2-up-clause-within : goal.returns-in-len2-up-clause-within
returns-in-len2-up-clause-within c =
    within_rules c.named.result c.as_str.result.now
    (view.words (take (length c.args.words.now - 2) (drop 2 c.args.words.now))) c.named.ensures
