use Rattle.std.proofs.Common.{◌≡◌, ◌≤◌, length, arith}
use Rattle.std.proofs.lemmas.List.{length-map}
use Rattle.std.proofs.lemmas.Result.{err_from_is_err_and, IfOk-weaker, IfErr-weaker}
use Rattle.ep_ast.specs.Cut.{start}
use Rattle.ep_ast.specs.Statement.{program_of}
use Rattle.ep_lexer.specs.Tokens.{view, all_view}
use Rattle.ep_source.proofs.Counts.{few}
use Rattle.ep_source.proofs.Stages.{cut_nothing, cut_offends, tokens_nothing, tokens_offend, program_nothing}
use Rattle.ep_source.proofs.Stages.{program_offends, faultless, cut_within, tokens_within, program_within}
use Rattle.ep_source.proofs.read.Goals as goal

pub returns-in_err-tokens-clause-refused : goal.returns-in_err-tokens-clause-refused
returns-in_err-tokens-clause-refused c =
    let p = err_from_is_err_and c.from_residual.result c.from_residual.ensures.1 in
    rw (p.1, p.2) (cut_offends c.args.model c.args.source.now c.in_err-tokens.field-0.0 c.in_err-tokens.ensures.offends)

pub program-requires : goal.program-requires
program-requires c =
    let n : length (all_view c.in_ok-tokens.tokens) ≤ length c.args.source.now =
    few start c.args.source.now (all_view c.in_ok-tokens.tokens) c.in_ok-tokens.ensures.spells in
    let l : length (all_view c.in_ok-tokens.tokens) ≡ length c.in_ok-tokens.tokens.list.items =
    length-map c.in_ok-tokens.tokens.list.items view in
    let r = c.requires in record { few = omega arith }

pub returns-in_err-tree-clause-refused : goal.returns-in_err-tree-clause-refused
returns-in_err-tree-clause-refused c =
    let p = err_from_is_err_and c.from_residual-in_err-tree.result c.from_residual-in_err-tree.ensures.1 in
    rw (p.1, p.2) (tokens_offend c.args.model c.args.source.now (all_view c.in_ok-tokens.tokens)
    c.in_err-tree.field-0.0 c.in_ok-tokens.ensures.spells c.in_err-tree.ensures.refused)

pub returns-clause-faultless : goal.returns-clause-faultless
returns-clause-faultless c =
    IfOk-weaker c.elaborate.result _ _ (λ x h. faultless c.args.model c.args.source.now (all_view c.in_ok-tokens.tokens)
    (program_of c.in_ok-tree.tree) c.in_ok-tokens.ensures.faultless c.in_ok-tokens.ensures.only
    c.in_ok-tree.ensures.faultless c.in_ok-tree.ensures.only h) c.elaborate.ensures.faultless

pub returns-clause-refused : goal.returns-clause-refused
returns-clause-refused c =
    IfErr-weaker c.elaborate.result _ _ (λ e h. program_offends c.args.model c.args.source.now
    (all_view c.in_ok-tokens.tokens) (program_of c.in_ok-tree.tree) e c.in_ok-tokens.ensures.spells
    c.in_ok-tree.ensures.faultless c.in_ok-tree.ensures.derives h) c.elaborate.ensures.offends

pub returns-in_err-tokens-clause-nothing : goal.returns-in_err-tokens-clause-nothing
returns-in_err-tokens-clause-nothing c =
    let p = err_from_is_err_and c.from_residual.result c.from_residual.ensures.1 in
    rw (p.1, p.2) (cut_nothing c.args.model c.args.source.now c.in_err-tokens.field-0.0
    c.in_err-tokens.ensures.spells_nothing)

pub returns-in_err-tree-clause-nothing : goal.returns-in_err-tree-clause-nothing
returns-in_err-tree-clause-nothing c =
    let p = err_from_is_err_and c.from_residual-in_err-tree.result c.from_residual-in_err-tree.ensures.1 in
    rw (p.1, p.2) (tokens_nothing c.args.model c.args.source.now (all_view c.in_ok-tokens.tokens)
    c.in_err-tree.field-0.0 c.in_ok-tokens.ensures.only c.in_err-tree.ensures.refused)

pub returns-clause-nothing : goal.returns-clause-nothing
returns-clause-nothing c =
    IfErr-weaker c.elaborate.result _ _ (λ e h. program_nothing c.args.model c.args.source.now
    (all_view c.in_ok-tokens.tokens) (program_of c.in_ok-tree.tree) e c.in_ok-tokens.ensures.only
    c.in_ok-tree.ensures.only h) c.elaborate.ensures.means_nothing

pub returns-in_err-tokens-clause-within : goal.returns-in_err-tokens-clause-within
returns-in_err-tokens-clause-within c =
    let p = err_from_is_err_and c.from_residual.result c.from_residual.ensures.1 in
    rw (p.1, p.2) (cut_within c.args.model c.args.source.now c.in_err-tokens.field-0.0
    c.in_err-tokens.ensures.spells_nothing)

pub returns-in_err-tree-clause-within : goal.returns-in_err-tree-clause-within
returns-in_err-tree-clause-within c =
    let p = err_from_is_err_and c.from_residual-in_err-tree.result c.from_residual-in_err-tree.ensures.1 in
    rw (p.1, p.2) (tokens_within c.args.model c.args.source.now (all_view c.in_ok-tokens.tokens)
    c.in_err-tree.field-0.0 c.in_ok-tokens.ensures.only c.in_err-tree.ensures.refused c.in_err-tree.ensures.deep)

pub returns-clause-within : goal.returns-clause-within
returns-clause-within c =
    IfErr-weaker c.elaborate.result _ _ (λ e h. program_within c.args.model c.args.source.now
    (all_view c.in_ok-tokens.tokens) (program_of c.in_ok-tree.tree) e c.in_ok-tokens.ensures.only
    c.in_ok-tree.ensures.only h) c.elaborate.ensures.means_nothing
