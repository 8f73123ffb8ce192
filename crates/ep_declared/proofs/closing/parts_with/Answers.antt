use Rattle.std.proofs.Common.{ℕ}
use Rattle.ep_int.specs.declared.types.IntType.TheVariants.{I8}
use Rattle.ep_bitfield.specs.declared.field.Field.{Field}
use Rattle.ep_scopes.specs.View.{named_fields}
use Rattle.ep_declared.proofs.ClosingLemmas.{goes_on, is_free}
use Rattle.ep_declared.proofs.closing.parts_with.Goals as goal

-- what is read past the end
abbrev none : ℕ × Field
none = (0, record { t = I8; used = 0; width = 0 })

pub add_entry-requires : goal.add_entry-requires
add_entry-requires c =
    is_free c.loop-i.i c.args.entries.now c.args.fields.now c.index-entries-i.result none c.loop-i-test.true
    c.requires.same c.index-entries-i.is c.loop-i.parts.members.items (named_fields c.loop-i.parts.names)
    c.loop-i.invariant

pub loop-i-preserved : goal.loop-i-preserved
loop-i-preserved c =
    goes_on c.loop-i.i c.args.entries.now c.args.fields.now c.index-entries-i.result none c.loop-i-test.true
    c.requires.same c.index-entries-i.is c.loop-i.parts.members.items (named_fields c.loop-i.parts.names)
    c.loop-i.invariant c.add_entry.new.parts.members.items (named_fields c.add_entry.new.parts.names)
    c.in_ok-add_entry.ensures.members c.in_ok-add_entry.ensures.names
