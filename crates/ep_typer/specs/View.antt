-- The parts of a program in memory, seen as plain data.
use Rattle.ep_core.specs.Program.{Program}
use Rattle.ep_core.specs.View.{parts_view}
use Rattle.ep_typer.specs.declared.whole.Parts.{Parts}

abbrev pub program : Parts → Program
program p = parts_view p.types p.blocks.items p.init.items p.functions.items p.main
