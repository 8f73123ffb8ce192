use Rattle.std.proofs.Common.{map, arith, ◌++◌, ◌∷◌, [], refl}
use Rattle.ep_ast.specs.Declaration.{declarator}
use Rattle.ep_ast.specs.Depth.{in_declarator}
use Rattle.ep_lexer.specs.Tokens.{view}
use Rattle.ep_reading.specs.Names.{is_type}
use Rattle.ep_declarations.proofs.TypedefLemmas as lists
use Rattle.ep_reading.proofs.MeasuredLemmas.{longer_shows}
use Rattle.ep_declarations.proofs.typedefs.typedef_names.Goals as goal

pub returns-in-Some-clause-reads : goal.returns-in-Some-clause-reads
returns-in-Some-clause-reads c =
    let s = c.typedefs.invariant.0 in
    let q = c.in_ok-named.ensures.reads in
    record {
      value = (s.0 ++ q.value ∷ [], is_type c.add.new.self);
      shows = (
        longer_shows declarator in_declarator c.typedefs.found c.in_ok-named.named.value.tree c.in_ok-found.found s.0
            q.value c.in_ok-found.ensures s.1 q.shows.1,
        refl,
      );
      takes =
          lists.typedefs_done (is_type c.args.names.now) (is_type c.typedefs.names) (is_type c.add.new.self)
          (map view c.args.tokens.now) s.0 (map view c.typedefs.rest.now) (map view c.in_ok-named.named.rest.now)
          (map view c.in-Some.end.now) c.in-Some.field-0-0 c.in_ok-named.named.value.name.now q.value s.2 q.takes
          q.shows.0 c.in_ok-add.ensures.named c.in-Some.ensures.value;
    }

pub returns-in_default-at_mark-clause-reads : goal.returns-in_default-at_mark-clause-reads
returns-in_default-at_mark-clause-reads c =
    let s = c.typedefs.invariant.0 in
    let q = c.in_ok-named.ensures.reads in (
      lists.gap_refused (is_type c.args.names.now) (is_type c.typedefs.names) (map view c.args.tokens.now) s.0
          (map view c.typedefs.rest.now) (map view c.in_ok-named.named.rest.now) q.value s.2 q.takes
          c.in_default.ensures.value
          c.in_default-at_mark.ensures.value,
      c.stopped.ensures,
    )

pub typedefs-preserved : goal.typedefs-preserved
typedefs-preserved c =
    let s = c.typedefs.invariant.0 in
    let q = c.in_ok-named.ensures.reads in (
      (
        s.0 ++ q.value ∷ [],
        longer_shows declarator in_declarator c.typedefs.found c.in_ok-named.named.value.tree c.in_ok-found.found s.0
            q.value c.in_ok-found.ensures s.1 q.shows.1,
        lists.typedefs_step (is_type c.args.names.now) (is_type c.typedefs.names) (is_type c.add.new.self)
            (map view c.args.tokens.now) s.0 (map view c.typedefs.rest.now) (map view c.in_ok-named.named.rest.now)
            (map view c.in-Some-at_mark.more.now) c.in-Some-at_mark.field-0-0 c.in_ok-named.named.value.name.now q.value
            s.2 q.takes q.shows.0 c.in_ok-add.ensures.named c.in-Some-at_mark.ensures.value,
      ),
      omega (arith, c.in_ok-named.ensures.shorter, c.in-Some-at_mark.ensures.shorter),
    )
