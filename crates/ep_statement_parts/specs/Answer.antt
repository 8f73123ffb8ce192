-- What the reader of blocks answers.
use Rattle.std.specs.Prelude.{ℕ, Option}
use Rattle.ep_ast.specs.Statement.{Block, to_parts, block_of}
use Rattle.ep_ast.specs.declared.statements.BlockTree.{BlockTree}
use Rattle.ep_ast.specs.Depth.{in_parts}
use Rattle.ep_reading.specs.declared.measured.Measured.{Measured}
use Rattle.ep_reading.specs.Measured.{Shows}

abbrev pub in_block : Block → Option ℕ
in_block b = in_parts (to_parts b.parts)

abbrev pub ShowsBlock : Measured BlockTree → Block → Type 0
ShowsBlock k b = Shows block_of in_block k b
