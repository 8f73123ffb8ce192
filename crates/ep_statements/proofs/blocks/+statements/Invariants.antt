use Rattle.std.proofs.Common.{◌≤◌, ◌+◌, ◌*◌, length, map, List}
use Rattle.std.specs.Prelude.{reverse}
use Rattle.ep_ast.specs.Statement.{Stmt, Part}
use Rattle.ep_lexer.specs.Tokens.{view}
use Rattle.ep_reading.specs.Names.{is_type}
use Rattle.ep_statement_parts.specs.View.{ShowsStmts, ShowsParts}
use Rattle.ep_statement_heads.specs.Around.{Waits}
use Rattle.ep_statements.proofs.PartLemmas.{PartsSo, StatementsSo}
use Rattle.ep_statements.proofs.blocks.+statements.Given as goal

abbrev pub decreases-innermost : goal.decreases-innermost
decreases-innermost l = 8 * length l.tokens.now

abbrev pub decreases-other_arm : goal.decreases-other_arm
decreases-other_arm l = 8 * length l.tokens.now

abbrev pub decreases-statement : goal.decreases-statement
decreases-statement l = 8 * length l.tokens.now + 1

abbrev pub decreases-part : goal.decreases-part
decreases-part l = 8 * length l.tokens.now + 2

abbrev pub decreases-parts : goal.decreases-parts
decreases-parts l = 8 * length l.tokens.now + 3

abbrev pub decreases-arm : goal.decreases-arm
decreases-arm l = 8 * length l.tokens.now + 3

abbrev pub invariant-statement-heads : goal.invariant-statement-heads
invariant-statement-heads l = Waits (is_type l.reader.names.now) (map view l.tokens) (reverse l.frames.items)
    (map view l.rest) × (length l.rest ≤ length l.tokens)

abbrev pub decreases-statement-heads : goal.decreases-statement-heads
decreases-statement-heads l = length l.rest

abbrev pub invariant-parts-parts : goal.invariant-parts-parts
invariant-parts-parts l =
    ((ps : List Part) × ShowsParts l.found ps × PartsSo (is_type l.reader.names.now) (map view l.tokens) ps
    (map view l.rest)) × (length l.rest ≤ length l.tokens)

abbrev pub decreases-parts-parts : goal.decreases-parts-parts
decreases-parts-parts l = length l.rest

abbrev pub invariant-arm-statements : goal.invariant-arm-statements
invariant-arm-statements l =
    ((ss : List Stmt) × ShowsStmts l.found ss × StatementsSo (is_type l.reader.names.now) (map view l.tokens) ss
    (map view l.rest)) × (length l.rest ≤ length l.tokens)

abbrev pub decreases-arm-statements : goal.decreases-arm-statements
decreases-arm-statements l = length l.rest
