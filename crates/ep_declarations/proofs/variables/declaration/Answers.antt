use Rattle.std.proofs.Common.{map}
use Rattle.std.proofs.lemmas.Result.{err_from_is_err_and}
use Rattle.ep_ast.specs.DeclarationGrammar.{in_block, specs_line, Specified, Inits, Declares}
use Rattle.ep_lexer.specs.Tokens.{view}
use Rattle.ep_reading.specs.Names.{is_type}
use Rattle.ep_reading.proofs.PassLemmas.{stops_stop}
use Rattle.ep_declarations.proofs.VariableLemmas as variables
use Rattle.ep_declarations.proofs.variables.declaration.Goals as goal

pub returns-in_err-specs-clause-reads : goal.returns-in_err-specs-clause-reads
returns-in_err-specs-clause-reads c =
    let p = err_from_is_err_and c.from_residual.result c.from_residual.ensures.1 in
    rw (p.1, p.2)
    (stops_stop (Specified (is_type c.args.reader.now.names.now) in_block)
    (Declares (is_type c.args.reader.now.names.now) in_block) (map view c.args.tokens.now)
    (map view c.args.tokens.now) c.in_err-specs.field-0.0
    (variables.words_refused (is_type c.args.reader.now.names.now) in_block (map view c.args.tokens.now))
    c.in_err-specs.ensures.reads)

pub returns-in_err-variables-clause-reads : goal.returns-in_err-variables-clause-reads
returns-in_err-variables-clause-reads c =
    let p = err_from_is_err_and c.from_residual-in_err-variables.result c.from_residual-in_err-variables.ensures.1 in
    let q = c.in_ok-specs.ensures.reads in
    rw (p.1, p.2)
    (stops_stop (Inits (is_type c.args.reader.now.names.now))
    (Declares (is_type c.args.reader.now.names.now) in_block) (map view c.in_ok-specs.specs.rest.now)
    (map view c.args.tokens.now) c.in_err-variables.field-0.0
    (variables.inits_refused (is_type c.args.reader.now.names.now) in_block (map view c.args.tokens.now)
    (map view c.in_ok-specs.specs.rest.now) q.value q.takes)
    c.in_err-variables.ensures.reads)

pub returns-clause-reads : goal.returns-clause-reads
returns-clause-reads c =
    let q = c.in_ok-specs.ensures.reads in
    let r = c.in_ok-variables.ensures.reads in
    record {
      value = record { line = specs_line q.value; specs = q.value; inits = r.value };
      shows = c.make_declaration.ensures q.value r.value q.shows r.shows;
      takes =
          variables.declares_taken (is_type c.args.reader.now.names.now) in_block (map view c.args.tokens.now)
          (map view c.in_ok-specs.specs.rest.now) (map view c.in_ok-variables.variables.rest.now) q.value r.value
          q.takes r.takes;
    }
