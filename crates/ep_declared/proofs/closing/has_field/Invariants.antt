use Rattle.std.proofs.Common.{◌≡◌, drop, map}
use Rattle.std.specs.List.{list_any}
use Rattle.ep_elaboration.specs.Aggregates.{is_field_entry}
use Rattle.ep_declared.specs.Entries.{entry}
use Rattle.ep_declared.proofs.closing.has_field.Given as goal

abbrev pub invariant-loop-one : goal.invariant-loop-one
invariant-loop-one l =
    list_any is_field_entry (map entry (drop l.one-index l.entries)) ≡ list_any is_field_entry (map entry l.entries)
