use Rattle.std.proofs.Common.{◌≡◌, ◌<◌, ◌++◌, ◌∷◌, [], Some, map, length, refl, sym, ◌∙◌, arith, true}
use Rattle.std.proofs.lemmas.Result.{err_from_is_err_and}
use Rattle.ep_ast.specs.Declaration.{Spec, body, aggregate, member, member_of, to_members, to_specs}
use Rattle.ep_ast.specs.Mark.{word_number}
use Rattle.ep_ast.specs.TypeWords.{fits, with_whole}
use Rattle.ep_ast.specs.DeclarationGrammar.{has_bodies, specs_line, Specified, Members, OneMember, Fields}
use Rattle.ep_ast.specs.Depth.{in_member}
use Rattle.ep_lexer.specs.Tokens.{view}
use Rattle.ep_reading.proofs.MeasuredLemmas.{longer_shows}
use Rattle.ep_reading.proofs.PassLemmas.{stops_stop}
use Rattle.ep_reading.specs.Names.{is_type}
use Rattle.ep_type_names.specs.Words.{bag}
use Rattle.ep_declarations.specs.Answer.{context}
use Rattle.ep_declarations.specs.SpecAhead.{Ahead, tag_text}
use Rattle.ep_declarations.proofs.SpecLemmas.{fits_is, specs_taken, specs_none, specs_stuck}
use Rattle.ep_declarations.proofs.SpecRead.{none_read, some_read, word_step, not_first, more_than_none}
use Rattle.ep_declarations.proofs.AggregateLemmas.{body_taken, body_none, no_bodies, unfit_body}
use Rattle.ep_declarations.proofs.MemberLemmas.{one_taken, fields_none, members_step, members_taken, members_stuck}
use Rattle.ep_declarations.proofs.specs.+specs.Goals as goal

-- ---- members

pub members-returns-in_err-one-clause-reads : goal.members-returns-in_err-one-clause-reads
members-returns-in_err-one-clause-reads t c =
    let p = err_from_is_err_and c.from_residual-in_err-one.result c.from_residual-in_err-one.ensures.1 in
    let N = is_type c.args.reader.now.names.now in
    let i = c.members.invariant.0 in
    rw (p.1, p.2)
    (stops_stop (OneMember N) (Members N) (map view c.members.rest.now) (map view c.args.tokens.now)
    c.in_err-one.field-0.0 (members_stuck N (map view c.args.tokens.now) i.0 (map view c.members.rest.now) i.2)
    c.in_err-one.ensures.reads)

pub members-returns-in-Some-clause-reads : goal.members-returns-in-Some-clause-reads
members-returns-in-Some-clause-reads t c =
    let N = is_type c.args.reader.now.names.now in
    let i = c.members.invariant.0 in
    let q = c.in_ok-one.ensures.reads in
    record {
      value = i.0 ++ q.value ∷ [];
      shows =
          longer_shows member_of in_member c.members.found c.in_ok-one.one.value c.in_ok-found.found i.0 q.value
          c.in_ok-found.ensures i.1 q.shows;
      takes =
          members_taken N (map view c.args.tokens.now) i.0 (map view c.members.rest.now)
          (map view c.in_ok-one.one.rest.now) (map view c.in-Some.more.now) q.value c.in-Some.field-0-0 i.2 q.takes
          c.in-Some.ensures.value;
    }

pub members-members-preserved : goal.members-members-preserved
members-members-preserved t c =
    let N = is_type c.args.reader.now.names.now in
    let i = c.members.invariant.0 in
    let q = c.in_ok-one.ensures.reads in (
      (
        i.0 ++ q.value ∷ [],
        longer_shows member_of in_member c.members.found c.in_ok-one.one.value c.in_ok-found.found i.0 q.value
            c.in_ok-found.ensures i.1 q.shows,
        members_step N (map view c.args.tokens.now) i.0 (map view c.members.rest.now)
            (map view c.in_ok-one.one.rest.now) q.value i.2 q.takes c.in_default.ensures.value,
      ),
      omega (arith, c.in_ok-one.ensures.shorter),
    )

-- ---- the next word

pub next_word-returns-then-not-has_bodies-clause-reads : goal.next_word-returns-then-not-has_bodies-clause-reads
next_word-returns-then-not-has_bodies-clause-reads t c =
    let o = c.in-Some.opening in (
      no_bodies (is_type c.args.reader.now.names.now) (context c.args.context) (bag c.args.words.now) o.line
          (word_number o.word)
          (tag_text o.tag) (map view o.inside.now) (map view c.args.tokens.now) c.in-Some.ensures.value
          (sym c.has_bodies.ensures ∙ c.if-not-has_bodies.true),
      c.stopped-then-not-has_bodies.ensures,
    )

pub next_word-returns-in_default-with_whole-clause-reads : goal.next_word-returns-in_default-with_whole-clause-reads
next_word-returns-in_default-with_whole-clause-reads t c =
    let o = c.in-Some.opening in (
      unfit_body (is_type c.args.reader.now.names.now) (context c.args.context) (bag c.args.words.now) o.line
          (word_number o.word)
          (tag_text o.tag) (map view o.inside.now) (map view c.args.tokens.now) c.in-Some.ensures.value
          c.in_default-with_whole.ensures,
      c.stopped.ensures,
    )

pub next_word-returns-in_err-members-clause-reads : goal.next_word-returns-in_err-members-clause-reads
next_word-returns-in_err-members-clause-reads t c =
    let p = err_from_is_err_and c.from_residual.result c.from_residual.ensures.1 in
    let N = is_type c.args.reader.now.names.now in
    let o = c.in-Some.opening in
    rw (p.1, p.2)
    (stops_stop (Members N) (Ahead N (context c.args.context) (bag c.args.words.now)) (map view o.inside.now)
    (map view c.args.tokens.now) c.in_err-members.field-0.0
    (body_none N (context c.args.context) (bag c.args.words.now) o.line (word_number o.word) (tag_text o.tag)
    (map view o.inside.now)
    (map view c.args.tokens.now) c.in-Some.ensures.value) c.in_err-members.ensures.reads)

pub next_word-returns-clause-reads : goal.next_word-returns-clause-reads
next_word-returns-clause-reads t c =
    let N = is_type c.args.reader.now.names.now in
    let o = c.in-Some.opening in
    let h : has_bodies (context c.args.context) ≡ true = sym c.has_bodies.ensures ∙ c.if-not-has_bodies.false in
    let f : fits (with_whole (bag c.args.words.now)) ≡ true = fits_is _ _ c.in-Some-with_whole.ensures.0
    c.in-Some-with_whole.ensures.1 in
    let q = c.in_ok-members.ensures.reads in
    let s : Spec = body (aggregate o.line (word_number o.word) (tag_text o.tag) (to_members q.value)) in
    record {
      value = Some s;
      shows = (
        s,
        refl,
        (rw c.in_ok-tag.ensures at (c.make_body.ensures q.value q.shows)),
        refl,
        c.in-Some-with_whole.ensures.0,
        f,
      );
      takes =
          body_taken N (context c.args.context) (bag c.args.words.now) o.line (word_number o.word) (tag_text o.tag)
          (map view o.inside.now) (map view c.args.tokens.now) (map view c.in_ok-members.members.rest.now) q.value
          c.in-Some.ensures.value h f q.takes;
    }

-- ---- one member

pub one_member-returns-in_err-fields-clause-reads : goal.one_member-returns-in_err-fields-clause-reads
one_member-returns-in_err-fields-clause-reads t c =
    let p = err_from_is_err_and c.from_residual-in_err-fields.result c.from_residual-in_err-fields.ensures.1 in
    let N = is_type c.args.reader.now.names.now in
    let q = c.in_ok-specs.ensures.reads in
    rw (p.1, p.2)
    (stops_stop (Fields N) (OneMember N) (map view c.in_ok-specs.specs.rest.now) (map view c.args.tokens.now)
    c.in_err-fields.field-0.0
    (fields_none N (map view c.args.tokens.now) (map view c.in_ok-specs.specs.rest.now) q.value q.takes)
    c.in_err-fields.ensures.reads)

pub one_member-returns-clause-reads : goal.one_member-returns-clause-reads
one_member-returns-clause-reads t c =
    let N = is_type c.args.reader.now.names.now in
    let q = c.in_ok-specs.ensures.reads in
    let d = c.in_ok-fields.ensures.reads in
    record {
      value = member (specs_line q.value) (to_specs q.value) d.value;
      shows = c.make_member.ensures q.value d.value q.shows.0 d.shows;
      takes =
          one_taken N (map view c.args.tokens.now) (map view c.in_ok-specs.specs.rest.now)
          (map view c.in_ok-fields.fields.rest.now) q.value d.value q.takes d.takes;
    }

-- ---- words

pub spec_list-returns-in_err-next-clause-reads : goal.spec_list-returns-in_err-next-clause-reads
spec_list-returns-in_err-next-clause-reads t c =
    let p = err_from_is_err_and c.from_residual-in_err-next.result c.from_residual-in_err-next.ensures.1 in
    let N = is_type c.args.reader.now.names.now in
    let k = context c.args.context in
    let i = c.words.invariant.0 in
    rw (p.1, p.2)
    (stops_stop (Ahead N k (bag c.words.bag)) (Specified N k) (map view c.words.rest.now) (map view c.args.tokens.now)
    c.in_err-next.field-0.0
    (specs_stuck N k (map view c.args.tokens.now) i.0 (bag c.words.bag) (map view c.words.rest.now) i.3)
    c.in_err-next.ensures.reads)

pub spec_list-returns-then-is_empty-clause-reads : goal.spec_list-returns-then-is_empty-clause-reads
spec_list-returns-then-is_empty-clause-reads t c =
    let N = is_type c.args.reader.now.names.now in
    let i = c.words.invariant.0 in
    let q = rw c.in_default.is at c.in_ok-next.ensures.reads in (
      specs_none N (context c.args.context) (map view c.args.tokens.now) i.0 (bag c.words.bag)
          (map view c.words.rest.now) (map view c.in_ok-next.next.rest.now) i.3 (none_read N q)
          (sym c.is_empty.ensures ∙ c.if-is_empty.true),
      c.stopped.ensures,
    )

pub spec_list-returns-in_default-clause-reads : goal.spec_list-returns-in_default-clause-reads
spec_list-returns-in_default-clause-reads t c =
    let N = is_type c.args.reader.now.names.now in
    let i = c.words.invariant.0 in
    let q = rw c.in_default.is at c.in_ok-next.ensures.reads in
    record {
      value = i.0;
      shows = i.1;
      takes =
          specs_taken N (context c.args.context) (map view c.args.tokens.now) i.0 (bag c.words.bag)
          (map view c.words.rest.now) (map view c.in_ok-next.next.rest.now) i.3 (none_read N q) c.words.invariant.1
          (sym c.is_empty.ensures ∙ c.if-is_empty.false);
    }

pub spec_list-returns-in_default-clause-shorter : goal.spec_list-returns-in_default-clause-shorter
spec_list-returns-in_default-clause-shorter t c =
    let i = c.words.invariant.0 in
    c.words.invariant.3
    (not_first c.words.is_first i.0 (bag c.words.bag) i.2 i.3.joined (sym c.is_empty.ensures ∙ c.if-is_empty.false))

pub spec_list-words-preserved : goal.spec_list-words-preserved
spec_list-words-preserved t c =
    let N = is_type c.args.reader.now.names.now in
    let i = c.words.invariant.0 in
    let q = rw c.in-Some.is at c.in_ok-next.ensures.reads in
    let w = some_read N q in
    let k = word_step N (context c.args.context) (map view c.args.tokens.now) i.0 (bag c.words.bag)
    (map view c.words.rest.now) (map view c.in_ok-next.next.rest.now) c.in-Some.one i.3 w in
    let s : length c.in_ok-next.next.rest.now < length c.words.rest.now =
    rw c.in-Some.is at c.in_ok-next.ensures.shorter in (
      (i.0 ++ w.word ∷ [], c.in_ok-found-2.ensures i.0 w.word i.1 i.2 w.shows w.kind, more_than_none i.0 w.word, k.0),
      k.1,
      omega arith,
      λ e. omega arith,
    )
