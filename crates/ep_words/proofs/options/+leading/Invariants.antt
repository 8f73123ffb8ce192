use Rattle.std.proofs.Common.{length}
use Rattle.ep_words.proofs.options.+leading.Given as goal

abbrev pub decreases-leading : goal.decreases-leading
decreases-leading l = length l.words.now
