-- What is proved of the trees of samples.
use Rattle.std.specs.Prelude.{◌≡◌, ℕ, None}
use Rattle.ep_ast.specs.Depth.{brackets_past, too_deep}
use Rattle.ep_ast.specs.ProgramGrammar.{Programs}
use Rattle.ep_sample_trees.specs.Tokens.{tokens_of}
use Rattle.ep_sample_trees.specs.Tree.{tree_of}

-- The tokens of each sample are a program, and this is its tree.
abbrev pub AllDerive : Type 0
AllDerive = (start fields : ℕ) → Programs (tokens_of start fields) (tree_of start fields)

-- No brackets are open past the limit, and nothing else stands too deep.
abbrev pub NoneIsDeep : Type 0
NoneIsDeep =
    (start fields : ℕ) → (brackets_past 0 (tokens_of start fields) ≡ None) × (too_deep (tree_of start fields) ≡ None)
