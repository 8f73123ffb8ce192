-- How samples cut. C11 6.4.
use Rattle.std.specs.Prelude.{ℕ}
use Rattle.ep_ast.specs.Cut.{Spells}
use Rattle.ep_sample.specs.Sample.{source_of}
use Rattle.ep_sample_trees.specs.Tokens.{tokens_of}

-- The bytes of each sample cut into its tokens.
abbrev pub AllCut : Type 0
AllCut = (start fields : ℕ) → Spells (source_of start fields) (tokens_of start fields)
