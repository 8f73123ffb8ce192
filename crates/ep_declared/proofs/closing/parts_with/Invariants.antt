use Rattle.std.proofs.Common.{drop, map}
use Rattle.ep_scopes.specs.View.{named_fields}
use Rattle.ep_declared.specs.Entries.{entry, field_of}
use Rattle.ep_declared.proofs.ClosingLemmas.{IsOnWay}
use Rattle.ep_declared.proofs.closing.parts_with.Given as goal

abbrev pub invariant-loop-i : goal.invariant-loop-i
invariant-loop-i l =
    IsOnWay (map entry l.entries) (map field_of l.fields) l.parts.members.items (named_fields l.parts.names)
    (map entry (drop l.i l.entries)) (map field_of (drop l.i l.fields))
