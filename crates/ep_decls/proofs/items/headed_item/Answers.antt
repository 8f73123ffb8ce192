use Rattle.std.proofs.Common.{map}
use Rattle.std.proofs.lemmas.Result.{err_from_is_err_and}
use Rattle.ep_ast.specs.Statement as tree
use Rattle.ep_ast.specs.DeclarationGrammar.{Headed}
use Rattle.ep_ast.specs.ProgramGrammar.{Defines}
use Rattle.ep_lexer.specs.Tokens.{view}
use Rattle.ep_reading.specs.Names.{is_type}
use Rattle.ep_reading.proofs.PassLemmas.{stops_stop}
use Rattle.ep_decls.specs.Answer.{Worded}
use Rattle.ep_decls.proofs.ItemLemmas as items
use Rattle.ep_decls.proofs.items.headed_item.Goals as goal

pub returns-in_err-headed-clause-reads : goal.returns-in_err-headed-clause-reads
returns-in_err-headed-clause-reads c = λ xs ss t s b. (
    let p = err_from_is_err_and c.from_residual.result c.from_residual.ensures.1 in
    rw (p.1, p.2) (stops_stop (Headed (is_type c.args.reader.now.names.now))
    (Worded (is_type c.args.reader.now.names.now)) xs xs c.in_err-headed.field-0.0
    (items.head_refused (is_type c.args.reader.now.names.now) xs (map view c.args.tokens.now) ss t b)
    (c.in_err-headed.ensures.reads xs ss t s)))

pub returns-in-Some-clause-reads : goal.returns-in-Some-clause-reads
returns-in-Some-clause-reads c = λ xs ss t s b. (
    let h = c.in_ok-headed.ensures.reads xs ss t s in
    record {
      value = tree.prototype h.value;
      shows = c.prototype.ensures h.value h.shows.0;
      takes = items.prototype_taken (is_type c.args.reader.now.names.now) xs (map view c.args.tokens.now) ss t b
          (map view c.in_ok-headed.headed.rest.now) (map view c.in-Some.more.now) c.in-Some.field-0-0 h.value h.takes
          c.in-Some.ensures.value;
    })

pub returns-in_err-function-clause-reads : goal.returns-in_err-function-clause-reads
returns-in_err-function-clause-reads c = λ xs ss t s b. (
    let p = err_from_is_err_and c.from_residual-in_err-function.result c.from_residual-in_err-function.ensures.1 in
    let h = c.in_ok-headed.ensures.reads xs ss t s in
    rw (p.1, p.2) (stops_stop (Defines (is_type c.args.reader.now.names.now))
    (Worded (is_type c.args.reader.now.names.now)) xs xs c.in_err-function.field-0.0
    (items.define_refused (is_type c.args.reader.now.names.now) xs (map view c.args.tokens.now) ss t b
    (map view c.in_ok-headed.headed.rest.now) h.value h.takes c.in_default.ensures.value)
    (c.in_err-function.ensures.reads xs h.value h.takes h.shows)))

pub returns-clause-reads : goal.returns-clause-reads
returns-clause-reads c = λ xs ss t s b. (
    let h = c.in_ok-headed.ensures.reads xs ss t s in
    let f = c.in_ok-function.ensures.reads xs h.value h.takes h.shows in
    record {
      value = tree.defines f.value;
      shows = c.defined.ensures f.value f.shows;
      takes = items.define_taken (is_type c.args.reader.now.names.now) xs (map view c.args.tokens.now) ss t b
          (map view c.in_ok-headed.headed.rest.now) (map view c.in_ok-function.function.rest.now) h.value f.value
          h.takes c.in_default.ensures.value f.takes;
    })
