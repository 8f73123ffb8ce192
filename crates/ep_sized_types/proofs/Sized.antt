-- The table of types that items leave is one as declarations make it, in which no size is 0.
use Rattle.std.proofs.Common.{nat_le, List}
use Rattle.std.proofs.lemmas.Bool.{and_parts, leb-true}
use Rattle.ep_int.specs.declared.types.Model.{Model}
use Rattle.ep_ast.specs.Statement.{Item}
use Rattle.ep_core.specs.Program.{Program}
use Rattle.ep_elaboration.specs.ProgramRules.{MeansProgram, is_program}
use Rattle.ep_well_formed_laws.proofs.Extents.{size_is_length}
use Rattle.ep_well_formed_laws.proofs.Items.{text_holds}
use Rattle.ep_closed_laws.specs.Laws.{TypesHaveBytes}

pub programs_have_bytes : (m : Model) (is : List Item) (p : Program) → MeansProgram m is p → TypesHaveBytes p.types
programs_have_bytes m is p (is_program s d text sound) ty n e =
    leb-true 1 n
    (and_parts (nat_le 1 n) (nat_le n 65536)
    (size_is_length s.env.types (text_holds m is s text).file.env.declared.table ty n e)).0
