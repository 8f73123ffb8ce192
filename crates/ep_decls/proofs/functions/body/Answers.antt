use Rattle.std.proofs.Common.{map}
use Rattle.std.proofs.lemmas.Result.{err_from_is_err_and}
use Rattle.ep_ast.specs.DeclarationGrammar.{are_named}
use Rattle.ep_ast.specs.StatementGrammar.{Blocks}
use Rattle.ep_ast.specs.ProgramGrammar.{Defines}
use Rattle.ep_lexer.specs.Tokens.{view}
use Rattle.ep_reading.specs.Names.{is_type}
use Rattle.ep_reading.proofs.PassLemmas.{stops_stop}
use Rattle.ep_decls.proofs.AnswerLemmas.{not_true, not_false}
use Rattle.ep_decls.proofs.FunctionLemmas as functions
use Rattle.ep_decls.proofs.functions.body.Goals as goal

pub returns-then-not-headed-clause-reads : goal.returns-then-not-headed-clause-reads
returns-then-not-headed-clause-reads c = λ xs h t s. (
  functions.unnamed_refused (is_type c.args.reader.now.names.now) xs
      (map view c.args.tokens.now) h t (not_true c.args.headed.named (are_named h.params) s.1 c.if-not-headed.true),
  c.stopped.ensures,
)

pub returns-in_err-block-clause-reads : goal.returns-in_err-block-clause-reads
returns-in_err-block-clause-reads c = λ xs h t s. (
    let p = err_from_is_err_and c.from_residual.result c.from_residual.ensures.1 in
    rw (p.1, p.2) (stops_stop (Blocks (is_type c.args.reader.now.names.now))
    (Defines (is_type c.args.reader.now.names.now)) (map view c.args.tokens.now) xs c.in_err-block.field-0.0
    (functions.body_refused (is_type c.args.reader.now.names.now) xs (map view c.args.tokens.now) h t)
    c.in_err-block.ensures.reads))

pub returns-clause-reads : goal.returns-clause-reads
returns-clause-reads c = λ xs h t s. (
    let q = c.in_ok-block.ensures.reads in
    record {
      value = record { line = h.line; head = h; body = q.value };
      shows = c.function_of.ensures h q.value s.0 q.shows;
      takes = functions.defines_taken (is_type c.args.reader.now.names.now) xs (map view c.args.tokens.now)
          (map view c.in_ok-block.block.rest.now) h q.value
          (not_false c.args.headed.named (are_named h.params) s.1 c.if-not-headed.false) t q.takes;
    })
