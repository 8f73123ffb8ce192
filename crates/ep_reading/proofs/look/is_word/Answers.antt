use Rattle.std.proofs.Common.{rules, sym, ap, ◌∙◌}
use denote.Enum.Bare.{same_true, same_false}
use Rattle.ep_ast.specs.contracts.words.Word.{the_type}
use Rattle.ep_ast.specs.Mark.{word_number}
use Rattle.ep_ast.proofs.Numbers.{same_word}
use Rattle.ep_reading.proofs.look.is_word.Goals as goal

pub returns-clause-same : goal.returns-clause-same
returns-clause-same c = λ h.
    ap word_number (same_true the_type (search rules) c.args.own c.args.word (sym c.eq.ensures ∙ h))

pub returns-clause-apart : goal.returns-clause-apart
returns-clause-apart c = λ h e.
    same_false the_type c.args.own c.args.word (sym c.eq.ensures ∙ h) (same_word c.args.own c.args.word e)
