use Rattle.std.proofs.Common.{◌≡◌, drop}
use Rattle.ep_typing.specs.Env.{entry}
use Rattle.ep_scopes.proofs.WordLemmas.{rows}
use Rattle.ep_scopes.proofs.words.listed.Given as goal

abbrev pub invariant-loop-text : goal.invariant-loop-text
invariant-loop-text l = entry l.name (rows (drop l.text-index l.types)) ≡ entry l.name (rows l.types)
