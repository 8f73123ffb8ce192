-- A whole program, seen as plain data.
use Rattle.ep_core.specs.declared.program.CoreProgram.{CoreProgram}
use Rattle.ep_core.specs.Program.{Program}
use Rattle.ep_core.specs.View.{parts_view}

abbrev pub program_view : CoreProgram → Program
program_view p = parts_view p.types p.blocks.items p.init.items p.functions.items p.main
