use Rattle.std.proofs.Common.{◌≡◌, map, drop, length, None, sym, ap, ◌∙◌, arith}
use Rattle.std.proofs.lemmas.Result.{err_from_is_err_and}
use Rattle.std.proofs.lemmas.List.{drop-map, length-map}
use Rattle.ep_ast.specs.Grammar.{expr as expr_rule}
use Rattle.ep_ast.specs.Nesting.{opens_past}
use Rattle.ep_ast.specs.Reading.{Reads}
use Rattle.ep_lexer.specs.Tokens.{view, all_view}
use Rattle.ep_reading.specs.Names.{is_type}
use Rattle.ep_exprs.proofs.TopLemmas as top
use Rattle.ep_exprs.proofs.place.expression.Goals as goal

pub returns-in_err-kept-clause-refused : goal.returns-in_err-kept-clause-refused
returns-in_err-kept-clause-refused c =
    let e : map view c.split_at.result.1.now ≡ drop c.args.from (all_view c.args.tokens.now) =
    ap (map view) (c.split_at.ensures.back ∙ ap (drop c.args.from) c.as_slice-all.ensures.value)
    ∙ sym (drop-map view c.args.from c.args.tokens.now.list.items) in
    let o : None ≡ opens_past 0 (drop c.args.from (all_view c.args.tokens.now)) =
    sym c.in_default.is ∙ c.opens_past.ensures ∙ ap (opens_past 0) e in
    let p = err_from_is_err_and c.from_residual.result c.from_residual.ensures.1 in
    rw (p.1, p.2) (top.syntax_refused (is_type c.args.names.now) (drop c.args.from (all_view c.args.tokens.now))
    c.in_err-kept.field-0.0 o (rw e at c.in_err-kept.ensures.reads))

pub returns-then-not-follows-clause-refused : goal.returns-then-not-follows-clause-refused
returns-then-not-follows-clause-refused c =
    let e : map view c.split_at.result.1.now ≡ drop c.args.from (all_view c.args.tokens.now) =
    ap (map view) (c.split_at.ensures.back ∙ ap (drop c.args.from) c.as_slice-all.ensures.value)
    ∙ sym (drop-map view c.args.from c.args.tokens.now.list.items) in
    let o : None ≡ opens_past 0 (drop c.args.from (all_view c.args.tokens.now)) =
    sym c.in_default.is ∙ c.opens_past.ensures ∙ ap (opens_past 0) e in
    let q = c.in_ok-kept.ensures.reads in
    let r : Reads (is_type c.args.names.now) expr_rule (drop c.args.from (all_view c.args.tokens.now)) q.tree
    (map view c.in_ok-kept.kept.rest.now) = rw e at q.reads in
    top.follow_refused (is_type c.args.names.now) (drop c.args.from (all_view c.args.tokens.now))
    (map view c.in_ok-kept.kept.rest.now) c.stopped.result q.tree c.stopped.ensures o r
    (sym c.follows.ensures ∙ c.if-not-follows.true)

pub returns-in-Ok-clause-found : goal.returns-in-Ok-clause-found
returns-in-Ok-clause-found c =
    let e : map view c.split_at.result.1.now ≡ drop c.args.from (all_view c.args.tokens.now) =
    ap (map view) (c.split_at.ensures.back ∙ ap (drop c.args.from) c.as_slice-all.ensures.value)
    ∙ sym (drop-map view c.args.from c.args.tokens.now.list.items) in
    let o : None ≡ opens_past 0 (drop c.args.from (all_view c.args.tokens.now)) =
    sym c.in_default.is ∙ c.opens_past.ensures ∙ ap (opens_past 0) e in
    let q = c.in_ok-kept.ensures.reads in
    let r : Reads (is_type c.args.names.now) expr_rule (drop c.args.from (all_view c.args.tokens.now)) q.tree
    (map view c.in_ok-kept.kept.rest.now) = rw e at q.reads in
    let w = c.in-Ok.ensures q.tree q.shows in
    rw (
      w.0,
      c.as_slice-all.ensures.value,
      ← length-map c.args.tokens.now.list.items view,
      ← length-map c.in_ok-kept.kept.rest.now view,
    )
    (top.found_at (is_type c.args.names.now) (all_view c.args.tokens.now) c.args.from
    (map view c.in_ok-kept.kept.rest.now) q.tree (omega (arith, length-map c.args.tokens.now.list.items view))
    (omega (
      arith,
      length-map c.args.tokens.now.list.items view,
      length-map c.in_ok-kept.kept.rest.now view,
      c.in_ok-kept.ensures.shorter,
      c.split_at.ensures.back_len,
      ap length c.as_slice-all.ensures.value,
    )) r
    (sym c.follows.ensures ∙ c.if-not-follows.false))

pub returns-in-Ok-clause-only : goal.returns-in-Ok-clause-only
returns-in-Ok-clause-only c = λ front rest t s. (
    let e : map view c.split_at.result.1.now ≡ drop c.args.from (all_view c.args.tokens.now) =
    ap (map view) (c.split_at.ensures.back ∙ ap (drop c.args.from) c.as_slice-all.ensures.value)
    ∙ sym (drop-map view c.args.from c.args.tokens.now.list.items) in
    let o : None ≡ opens_past 0 (drop c.args.from (all_view c.args.tokens.now)) =
    sym c.in_default.is ∙ c.opens_past.ensures ∙ ap (opens_past 0) e in
    let q = c.in_ok-kept.ensures.reads in
    let r : Reads (is_type c.args.names.now) expr_rule (drop c.args.from (all_view c.args.tokens.now)) q.tree
    (map view c.in_ok-kept.kept.rest.now) = rw e at q.reads in
    let w = c.in-Ok.ensures q.tree q.shows in
    let k = top.only_at (is_type c.args.names.now) (all_view c.args.tokens.now) c.args.from
    (map view c.in_ok-kept.kept.rest.now) q.tree (omega (arith, length-map c.args.tokens.now.list.items view)) r
    front rest t s in (
      k.0 ∙ sym w.0,
      k.1 ∙ omega (
        arith,
        length-map c.args.tokens.now.list.items view,
        length-map c.in_ok-kept.kept.rest.now view,
        ap length c.as_slice-all.ensures.value,
      ),
    ))

pub returns-in-Ok-clause-nesting : goal.returns-in-Ok-clause-nesting
returns-in-Ok-clause-nesting c =
    let e : map view c.split_at.result.1.now ≡ drop c.args.from (all_view c.args.tokens.now) =
    ap (map view) (c.split_at.ensures.back ∙ ap (drop c.args.from) c.as_slice-all.ensures.value)
    ∙ sym (drop-map view c.args.from c.args.tokens.now.list.items) in
    let o : None ≡ opens_past 0 (drop c.args.from (all_view c.args.tokens.now)) =
    sym c.in_default.is ∙ c.opens_past.ensures ∙ ap (opens_past 0) e in
    let q = c.in_ok-kept.ensures.reads in
    let r : Reads (is_type c.args.names.now) expr_rule (drop c.args.from (all_view c.args.tokens.now)) q.tree
    (map view c.in_ok-kept.kept.rest.now) = rw e at q.reads in
    let w = c.in-Ok.ensures q.tree q.shows in
    (sym o, rw w.0 (top.shallow_is q.tree w.1))

pub returns-in-Err-clause-refused : goal.returns-in-Err-clause-refused
returns-in-Err-clause-refused c =
    let e : map view c.split_at.result.1.now ≡ drop c.args.from (all_view c.args.tokens.now) =
    ap (map view) (c.split_at.ensures.back ∙ ap (drop c.args.from) c.as_slice-all.ensures.value)
    ∙ sym (drop-map view c.args.from c.args.tokens.now.list.items) in
    let o : None ≡ opens_past 0 (drop c.args.from (all_view c.args.tokens.now)) =
    sym c.in_default.is ∙ c.opens_past.ensures ∙ ap (opens_past 0) e in
    let q = c.in_ok-kept.ensures.reads in
    let r : Reads (is_type c.args.names.now) expr_rule (drop c.args.from (all_view c.args.tokens.now)) q.tree
    (map view c.in_ok-kept.kept.rest.now) = rw e at q.reads in
    let w = c.in-Err.ensures q.tree q.shows in
    top.operators_refused (is_type c.args.names.now) (drop c.args.from (all_view c.args.tokens.now))
    (map view c.in_ok-kept.kept.rest.now) c.in-Err.refusal q.tree (w.1, w.2, w.3) o r
    (sym c.follows.ensures ∙ c.if-not-follows.false) w.0
