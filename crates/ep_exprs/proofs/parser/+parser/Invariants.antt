use Rattle.std.proofs.Common.{◌≡◌, ◌<◌, ◌≤◌, ◌+◌, ◌*◌, ◌-◌, length, map, List}
use Rattle.std.specs.Prelude.{reverse}
use Rattle.ep_ast.specs.Token.{Tok}
use Rattle.ep_ast.specs.Expression.{Expr}
use Rattle.ep_ast.specs.Mark.{right_paren}
use Rattle.ep_ast.specs.Grammar.{bin}
use Rattle.ep_ast.specs.Reading.{Lacks}
use Rattle.ep_lexer.specs.Tokens.{view}
use Rattle.ep_reading.specs.Names.{is_type}
use Rattle.ep_expression_trees.specs.BoundedTrees.{Shows, ShowsAll}
use Rattle.ep_exprs.specs.Pending.{Waits, wanted}
use Rattle.ep_exprs.specs.Parsed.{IsRead}
use Rattle.ep_exprs.proofs.ArgumentLemmas.{ListSo}
use Rattle.ep_exprs.proofs.LevelLemmas.{LevelSo}
use Rattle.ep_exprs.proofs.SuffixLemmas.{Longer}
use Rattle.ep_exprs.proofs.PrefixLemmas.{Under}
use Rattle.ep_exprs.proofs.PendingLemmas.{part_rule}
use Rattle.ep_exprs.proofs.parser.+parser.Given as goal

abbrev pub decreases-primary : goal.decreases-primary
decreases-primary l = 8 * length l.tokens.now

abbrev pub decreases-suffix : goal.decreases-suffix
decreases-suffix l = 8 * length l.tokens.now

abbrev pub decreases-operators : goal.decreases-operators
decreases-operators l = 8 * length l.tokens.now

abbrev pub decreases-levels : goal.decreases-levels
decreases-levels l = 8 * length l.tokens.now + 1

abbrev pub decreases-postfix : goal.decreases-postfix
decreases-postfix l = 8 * length l.tokens.now + 1

abbrev pub decreases-prefixed_operand : goal.decreases-prefixed_operand
decreases-prefixed_operand l = 8 * length l.tokens.now + 2

abbrev pub decreases-operand : goal.decreases-operand
decreases-operand l = 8 * length l.tokens.now + 3

abbrev pub decreases-tighter : goal.decreases-tighter
decreases-tighter l = 8 * length l.tokens.now + 4

abbrev pub decreases-read_expression : goal.decreases-read_expression
decreases-read_expression l = 8 * length l.tokens.now + 4

abbrev pub decreases-arguments : goal.decreases-arguments
decreases-arguments l = 8 * length l.tokens.now + 5

abbrev pub invariant-read_expression-frames : goal.invariant-read_expression-frames
invariant-read_expression-frames l =
    Waits (is_type l.reader.names.now) (map view l.tokens) (reverse l.frames.items) (map view l.rest)
    × (wanted (reverse l.frames.items) ≡ part_rule l.third_part) × (length l.rest ≤ length l.tokens)

abbrev pub decreases-read_expression-frames : goal.decreases-read_expression-frames
decreases-read_expression-frames l = length l.rest

abbrev pub invariant-levels-loop-level : goal.invariant-levels-loop-level
invariant-levels-loop-level l =
    ((xs : List Tok) → IsRead (is_type l.reader.names.now) (bin 11) xs l.fn.first (map view l.tokens)
    → IsRead (is_type l.reader.names.now) (bin l.level) xs l.left (map view l.rest))
    × (l.least ≤ l.level) × (l.level ≤ 11) × (length l.rest ≤ length l.tokens)

abbrev pub decreases-levels-loop-level : goal.decreases-levels-loop-level
decreases-levels-loop-level l = l.level - l.least

abbrev pub invariant-operators-loop-mark : goal.invariant-operators-loop-mark
invariant-operators-loop-mark l =
    ((xs : List Tok) → IsRead (is_type l.reader.names.now) (bin (l.level + 1)) xs l.fn.first (map view l.tokens)
    → (t : Expr) × Shows l.left t × LevelSo (is_type l.reader.names.now) l.level xs t (map view l.rest))
    × (length l.rest ≤ length l.tokens)

abbrev pub decreases-operators-loop-mark : goal.decreases-operators-loop-mark
decreases-operators-loop-mark l = length l.rest

abbrev pub invariant-prefixed_operand-prefixes : goal.invariant-prefixed_operand-prefixes
invariant-prefixed_operand-prefixes l = Under (is_type l.reader.names.now) (map view l.tokens) l.prefixes.items l.bare
    (map view l.rest) × (length l.rest ≤ length l.tokens)

abbrev pub decreases-prefixed_operand-prefixes : goal.decreases-prefixed_operand-prefixes
decreases-prefixed_operand-prefixes l = length l.rest

abbrev pub invariant-postfix-marks : goal.invariant-postfix-marks
invariant-postfix-marks l = ((t : Expr) × Shows l.left t × Longer (is_type l.reader.names.now) (map view l.tokens) t
    (map view l.rest)) × (length l.rest < length l.tokens)

abbrev pub decreases-postfix-marks : goal.decreases-postfix-marks
decreases-postfix-marks l = length l.rest

abbrev pub invariant-arguments-items : goal.invariant-arguments-items
invariant-arguments-items l =
    ((ts : List Expr) × ShowsAll l.found ts × ListSo (is_type l.reader.names.now) (map view l.tokens) ts
    (map view l.rest)) × Lacks right_paren (map view l.tokens) × (length l.rest ≤ length l.tokens)

abbrev pub decreases-arguments-items : goal.decreases-arguments-items
decreases-arguments-items l = length l.rest
