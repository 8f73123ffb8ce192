use Rattle.std.proofs.Common.{◌∙◌, ap, length, map}
use Rattle.ep_bitfield.specs.Units.{packed}
use Rattle.ep_elaboration.specs.Aggregates as rule
use Rattle.ep_declared.specs.Entries.{entry, field_of}
use Rattle.ep_declared.proofs.ClosingLemmas.{as_many, fields_are}
use Rattle.ep_declared.proofs.closing.parts_of.Goals as goal

pub parts_with-requires-clause-same : goal.parts_with-requires-clause-same
parts_with-requires-clause-same c =
    ap length c.deref-2.ensures.value ∙ as_many c.args.entries.now c.in_ok-list.list.items c.in_ok-fields.fields.items
    c.in_ok-list.ensures (c.in_ok-fields.ensures.is ∙ ap packed c.deref.ensures.value)

pub returns-clause-members : goal.returns-clause-members
returns-clause-members c =
    c.in_ok-parts.ensures.members
    ∙ ap (rule.members_with (map entry c.args.entries.now)) (ap (map field_of) c.deref-2.ensures.value
    ∙ fields_are (map entry c.args.entries.now) c.in_ok-list.list.items c.in_ok-fields.fields.items
    c.in_ok-list.ensures (c.in_ok-fields.ensures.is ∙ ap packed c.deref.ensures.value))

pub returns-clause-names : goal.returns-clause-names
returns-clause-names c =
    c.in_ok-parts.ensures.names
    ∙ ap (rule.fields_with 0 (map entry c.args.entries.now)) (ap (map field_of) c.deref-2.ensures.value
    ∙ fields_are (map entry c.args.entries.now) c.in_ok-list.list.items c.in_ok-fields.fields.items
    c.in_ok-list.ensures (c.in_ok-fields.ensures.is ∙ ap packed c.deref.ensures.value))
