-- What is proved of samples.
use Rattle.std.specs.Prelude.{ℕ}
use Rattle.ep_core.specs.Program.{Program}
use Rattle.ep_int.specs.declared.types.Model.TheVariants.{Ilp32}
use Rattle.ep_sample.specs.Sample.{source_of}
use Rattle.ep_source.specs.Source.{MeansWithin}

-- Each sample means a program in the usual data model, and nothing in it stands too deep.
abbrev pub AllMeanWithin : Type 0
AllMeanWithin = (start fields : ℕ) → (p : Program) × MeansWithin Ilp32 (source_of start fields) p
