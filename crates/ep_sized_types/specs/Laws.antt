-- Types of programs have bytes (C11 6.2.5p20, 6.7.2.1p2, 6.7.6.2p1).
use Rattle.ep_int.specs.declared.types.Model.{Model}
use Rattle.ep_ast.specs.Statement.{Item}
use Rattle.ep_core.specs.Program.{Program}
use Rattle.ep_elaboration.specs.ProgramRules.{MeansProgram}
use Rattle.ep_closed_laws.specs.Laws.{TypesHaveBytes}
use Rattle.std.specs.Prelude.{List}

-- Arrays have a length from 1 on, and structs and unions have a member.
abbrev pub ProgramsHaveBytes : Type 0
ProgramsHaveBytes = (m : Model) (is : List Item) (p : Program) → MeansProgram m is p → TypesHaveBytes p.types
