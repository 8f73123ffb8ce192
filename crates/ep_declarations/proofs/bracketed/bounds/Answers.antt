use Rattle.std.proofs.Common.{map, arith, ◌++◌, ◌∷◌, [], Some, None, refl}
use Rattle.std.proofs.lemmas.Result.{err_from_is_err_and}
use Rattle.ep_ast.specs.Grammar.{expr}
use Rattle.ep_ast.specs.DeclarationGrammar.{Bounds}
use Rattle.ep_lexer.specs.Tokens.{view}
use Rattle.ep_reading.specs.Names.{is_type}
use Rattle.ep_reading.proofs.PassLemmas.{halts_stop}
use Rattle.ep_ast.specs.Depth.{is_deep_if}
use Rattle.ep_reading.specs.declared.measured.Measured.TheVariants as measured
use Rattle.ep_declarations.specs.Parts.{bound_of}
use Rattle.ep_declarations.proofs.PartLemmas.{longer_holds}
use Rattle.ep_declarations.proofs.BoundLemmas as lists
use Rattle.ep_declarations.proofs.bracketed.bounds.Goals as goal

pub returns-in_default-clause-reads : goal.returns-in_default-clause-reads
returns-in_default-clause-reads c =
    let s = c.bounds.invariant.0 in
    record {
      value = s.0;
      shows = s.1;
      takes =
          lists.bounds_done (is_type c.args.reader.now.names.now) (map view c.args.tokens.now) s.0
          (map view c.bounds.rest.now) s.2 c.in_default.ensures.value;
    }

pub bounds-preserved-in-Some-at_mark : goal.bounds-preserved-in-Some-at_mark
bounds-preserved-in-Some-at_mark c =
    let s = c.bounds.invariant.0 in (
      (
        s.0 ++ None ∷ [],
        longer_holds bound_of is_deep_if c.bounds.found (measured.Fits None) c.in_ok-found.found s.0 None
            c.in_ok-found.ensures s.1 (refl, refl),
        lists.open_step (is_type c.args.reader.now.names.now) (map view c.args.tokens.now) s.0
            (map view c.bounds.rest.now) (map view c.in-Some.inside.now) (map view c.in-Some-at_mark.more.now)
            c.in-Some.field-0-0 c.in-Some-at_mark.field-0-0
            s.2 c.in-Some.ensures.value c.in-Some-at_mark.ensures.value,
      ),
      omega (arith, c.in-Some.ensures.shorter, c.in-Some-at_mark.ensures.shorter),
    )

pub returns-in_err-size-clause-reads : goal.returns-in_err-size-clause-reads
returns-in_err-size-clause-reads c =
    let s = c.bounds.invariant.0 in
    let p = err_from_is_err_and c.from_residual-in_err-size.result c.from_residual-in_err-size.ensures.1 in
    rw (p.1, p.2)
    (halts_stop (is_type c.args.reader.now.names.now) expr (Bounds (is_type c.args.reader.now.names.now))
    (map view c.in-Some.inside.now) (map view c.args.tokens.now) c.in_err-size.field-0.0
    (lists.size_refused (is_type c.args.reader.now.names.now) (map view c.args.tokens.now) s.0
    (map view c.bounds.rest.now) (map view c.in-Some.inside.now) c.in-Some.field-0-0 s.2 c.in-Some.ensures.value
    c.in_default-at_mark.ensures.value)
    c.in_err-size.ensures.reads)

pub returns-in_default-at_mark-2-clause-reads : goal.returns-in_default-at_mark-2-clause-reads
returns-in_default-at_mark-2-clause-reads c =
    let s = c.bounds.invariant.0 in
    let q = c.in_ok-size.ensures.reads in (
      lists.gap_refused (is_type c.args.reader.now.names.now) (map view c.args.tokens.now) s.0
          (map view c.bounds.rest.now) (map view c.in-Some.inside.now) (map view c.in_ok-size.size.rest.now)
          c.in-Some.field-0-0 q.tree
          s.2 c.in-Some.ensures.value c.in_default-at_mark.ensures.value q.reads c.in_default-at_mark-2.ensures.value,
      c.stopped.ensures,
    )

pub bounds-preserved : goal.bounds-preserved
bounds-preserved c =
    let s = c.bounds.invariant.0 in
    let q = c.in_ok-size.ensures.reads in (
      (
        s.0 ++ Some q.tree ∷ [],
        longer_holds bound_of is_deep_if c.bounds.found c.bound.result c.in_ok-found-2.found s.0 (Some q.tree)
            c.in_ok-found-2.ensures s.1 (c.bound.ensures q.tree q.shows),
        lists.bound_step (is_type c.args.reader.now.names.now) (map view c.args.tokens.now) s.0
            (map view c.bounds.rest.now) (map view c.in-Some.inside.now) (map view c.in_ok-size.size.rest.now)
            (map view c.in-Some-at_mark-2.more.now)
            c.in-Some.field-0-0 c.in-Some-at_mark-2.field-0-0 q.tree s.2 c.in-Some.ensures.value q.reads
            c.in-Some-at_mark-2.ensures.value,
      ),
      omega (arith, c.in-Some.ensures.shorter, c.in_ok-size.ensures.shorter, c.in-Some-at_mark-2.ensures.shorter),
    )
