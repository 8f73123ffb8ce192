use Rattle.std.proofs.Common.{◌≡◌, ◌++◌, drop, map}
use Rattle.ep_elaboration.specs.Aggregates.{packed_as}
use Rattle.ep_declared.specs.Entries.{entry}
use Rattle.ep_declared.proofs.closing.to_pack.Given as goal

abbrev pub invariant-loop-one : goal.invariant-loop-one
invariant-loop-one l =
    l.list.items ++ map packed_as (map entry (drop l.one-index l.entries)) ≡ map packed_as (map entry l.entries)
