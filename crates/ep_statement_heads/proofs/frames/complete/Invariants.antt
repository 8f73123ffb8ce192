use Rattle.std.proofs.Common.{◌≤◌, List, length, map, vec_len}
use Rattle.std.specs.Prelude.{reverse}
use Rattle.ep_ast.specs.Token.{Tok}
use Rattle.ep_lexer.specs.Tokens.{view}
use Rattle.ep_reading.specs.Names.{is_type}
use Rattle.ep_statement_heads.specs.Around.{Stands}
use Rattle.ep_statement_heads.proofs.frames.complete.Given as goal

abbrev pub invariant-frames : goal.invariant-frames
invariant-frames l =
    ((xs : List Tok) → Stands (is_type l.reader.names.now) xs (reverse l.fn.frames.items) l.fn.inner
    (map view l.tokens) → Stands (is_type l.reader.names.now) xs (reverse l.left.items) l.found (map view l.rest))
    × (length l.rest ≤ length l.tokens)

abbrev pub decreases-frames : goal.decreases-frames
decreases-frames l = vec_len l.left
