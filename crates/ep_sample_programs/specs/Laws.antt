-- That each sample means a program. C11 6.9.
use Rattle.std.specs.Prelude.{ℕ}
use Rattle.ep_core.specs.Program.{Program}
use Rattle.ep_elaboration.specs.ProgramRules.{MeansProgram}
use Rattle.ep_int.specs.declared.types.Model.TheVariants.{Ilp32}
use Rattle.ep_sample_trees.specs.Tree.{tree_of}

-- The tree of each sample means a program in the usual data model.
abbrev pub AllMean : Type 0
AllMean = (start fields : ℕ) → (p : Program) × MeansProgram Ilp32 (tree_of start fields) p
