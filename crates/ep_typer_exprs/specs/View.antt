-- A bit-field that the code found, seen as what the definitions speak of.
use Rattle.ep_core.specs.Program as core
use Rattle.ep_core.specs.View.{place_view}
use Rattle.ep_typing.specs.declared.types.FieldRow.{FieldRow}
use Rattle.ep_typer_exprs.specs.declared.fields.FieldPlace.{FieldPlace}

abbrev pub field_place : FieldPlace → core.Place × FieldRow
field_place z = (place_view z.unit, z.row)
