-- A sample from its bytes to its program.
use Rattle.std.proofs.Common.{ℕ}
use Rattle.ep_core.specs.Program.{Program}
use Rattle.ep_int.specs.declared.types.Model.TheVariants.{Ilp32}
use Rattle.ep_sample.specs.Sample.{source_of}
use Rattle.ep_source.specs.Source.{MeansWithin}
use Rattle.ep_sample_trees.specs.Tokens.{tokens_of}
use Rattle.ep_sample_trees.specs.Tree.{tree_of}
use Rattle.ep_sample_trees.proofs.Depths.{closed, flat}
use Rattle.ep_sample_trees.proofs.Programs.{derived}
use Rattle.ep_sample_cuts.proofs.Texts.{cut}
use Rattle.ep_sample_programs.proofs.Meant.{means}

pub means_within : (start fields : ℕ) → (p : Program) × MeansWithin Ilp32 (source_of start fields) p
means_within start fields =
    let m = means start fields in (
      m.0,
      record {
        tree = tree_of start fields;
        spells = record {
          tokens = tokens_of start fields;
          cut = cut start fields;
          derived = derived start fields;
        };
        shallow = closed start fields;
        flat = flat start fields;
        means = m.1;
      },
    )
