use Rattle.std.proofs.Common.{◌≡◌, ◌+◌, ◌-◌, map, arith, sym, ap, ◌∙◌, refl, ◌∷◌, ◌++◌, []}
use Rattle.std.proofs.Common.{rules}
use Rattle.std.specs.Prelude.{reverse}
use denote.Enum.Bare.{differs_false, differs_true}
use Rattle.std.proofs.lemmas.Result.{err_from_is_err_and}
use Rattle.ep_ast.specs.Expression as tree
use Rattle.ep_ast.specs.Expression.{Expr, line_of, type_name}
use Rattle.ep_ast.specs.TypeWords.{TypeNamed}
use Rattle.ep_ast.specs.Grammar.{expr, bin, cast, postfix, primary, Arguments, IsSuffix, at, with, increment, decrement}
use Rattle.ep_ast.specs.Grammar.{apply}
use Rattle.ep_ast.specs.contracts.marks.Mark.{the_type}
use Rattle.ep_ast.specs.declared.marks.Mark.TheVariants as marks
use Rattle.ep_ast.specs.Mark.{mark_number, word_number}
use Rattle.ep_ast.proofs.Numbers.{same_mark}
use Rattle.ep_lexer.specs.Tokens.{view}
use Rattle.ep_exprs.specs.declared.frames.Frame.TheVariants as frames
use Rattle.ep_reading.specs.Names.{is_type}
use Rattle.ep_expression_trees.specs.BoundedTrees.{wrap_all}
use Rattle.ep_exprs.specs.Pending.{assigning, asking, begins, Value, Plain, Asked}
use Rattle.ep_exprs.specs.Parsed.{IsRead}
use Rattle.ep_expression_trees.proofs.KeptLemmas.{reverse-last}
use Rattle.ep_exprs.proofs.ArgumentLemmas as arguments
use Rattle.ep_exprs.proofs.LevelLemmas as levels
use Rattle.ep_exprs.proofs.SuffixLemmas as suffixes
use Rattle.ep_exprs.proofs.PrefixLemmas as prefixes
use Rattle.ep_exprs.proofs.PrimaryLemmas as primaries
use Rattle.ep_exprs.proofs.PendingLemmas as pending
use Rattle.ep_reading.proofs.PassLemmas.{passes, stops_halt, halts_stop, stops_stop}
use Rattle.ep_exprs.proofs.PassLemmas.{plain_here, whole_read}
use Rattle.ep_exprs.proofs.parser.+parser.Goals as goal

pub arguments-returns-in-Some-clause-reads : goal.arguments-returns-in-Some-clause-reads
arguments-returns-in-Some-clause-reads t c = record {
  value = [];
  shows = c.new-found.ensures;
  takes =
      arguments.empty_read (is_type c.args.reader.now.names.now) (map view c.args.tokens.now)
      (map view c.in-Some.after.now) c.in-Some.field-0-0 c.in-Some.ensures.value;
}

pub arguments-returns-in_err-item-clause-reads : goal.arguments-returns-in_err-item-clause-reads
arguments-returns-in_err-item-clause-reads t c =
    let p = err_from_is_err_and c.from_residual.result c.from_residual.ensures.1 in
    rw (p.1, p.2) (halts_stop (is_type c.args.reader.now.names.now) expr
    (Arguments (is_type c.args.reader.now.names.now)) (map view c.items.rest.now) (map view c.args.tokens.now)
    c.in_err-item.field-0.0 (arguments.item_refused (is_type c.args.reader.now.names.now)
    (map view c.args.tokens.now) c.items.invariant.0.0 (map view c.items.rest.now) c.items.invariant.1
    c.items.invariant.0.2) c.in_err-item.ensures.reads)

pub arguments-returns-in-Some-at_mark-clause-reads : goal.arguments-returns-in-Some-at_mark-clause-reads
arguments-returns-in-Some-at_mark-clause-reads t c =
    let q = c.in_ok-item.ensures.reads in
    record {
      value = c.items.invariant.0.0 ++ q.tree ∷ [];
      shows = c.in_ok-found.ensures c.items.invariant.0.0 q.tree c.items.invariant.0.1 q.shows;
      takes = arguments.list_done (is_type c.args.reader.now.names.now) (map view c.args.tokens.now)
          c.items.invariant.0.0 (map view c.items.rest.now) (map view c.in_ok-item.item.rest.now)
          (map view c.in-Some-at_mark.end.now) c.in-Some-at_mark.field-0-0 q.tree c.items.invariant.1
          c.items.invariant.0.2 q.reads c.in-Some-at_mark.ensures.value;
    }

pub arguments-returns-in_default-at_mark-2-clause-reads : goal.arguments-returns-in_default-at_mark-2-clause-reads
arguments-returns-in_default-at_mark-2-clause-reads t c =
    let q = c.in_ok-item.ensures.reads in (
      arguments.gap_refused (is_type c.args.reader.now.names.now) (map view c.args.tokens.now) c.items.invariant.0.0
          (map view c.items.rest.now) (map view c.in_ok-item.item.rest.now) q.tree c.items.invariant.1
          c.items.invariant.0.2 q.reads c.in_default-at_mark.ensures.value c.in_default-at_mark-2.ensures.value,
      c.stopped.ensures,
    )

pub arguments-items-preserved : goal.arguments-items-preserved
arguments-items-preserved t c =
    let q = c.in_ok-item.ensures.reads in (
      (
        c.items.invariant.0.0 ++ q.tree ∷ [],
        c.in_ok-found.ensures c.items.invariant.0.0 q.tree c.items.invariant.0.1
            q.shows,
        arguments.list_step (is_type c.args.reader.now.names.now) (map view c.args.tokens.now)
            c.items.invariant.0.0 (map view c.items.rest.now) (map view c.in_ok-item.item.rest.now)
            (map view c.in-Some-at_mark-2.more.now) c.in-Some-at_mark-2.field-0-0 q.tree c.items.invariant.0.2 q.reads
            c.in-Some-at_mark-2.ensures.value,
      ),
      c.items.invariant.1,
      omega (arith, c.in_ok-item.ensures.shorter, c.in-Some-at_mark-2.ensures.shorter),
    )

pub levels-returns-in_err-longer-clause-reads : goal.levels-returns-in_err-longer-clause-reads
levels-returns-in_err-longer-clause-reads t c = λ xs h. (
    let p = err_from_is_err_and c.from_residual.result c.from_residual.ensures.1 in
    let m = c.loop-level.level - 1 in
    let up : m + 1 ≡ c.loop-level.level = omega arith in
    let inside : IsRead (is_type c.args.reader.now.names.now) (bin (m + 1)) xs c.loop-level.left
    (map view c.loop-level.rest.now) = rw up (c.loop-level.invariant.0 xs h) in
    rw (p.1, p.2) (passes (is_type c.args.reader.now.names.now) (bin m) (bin c.args.least) xs xs
    c.in_err-longer.field-0.0 (levels.looser (is_type c.args.reader.now.names.now) c.args.least m xs (omega arith)
    (omega arith)) (c.in_err-longer.ensures.reads xs inside)))

pub levels-loop-level-preserved-then-not-begins_operator : goal.levels-loop-level-preserved-then-not-begins_operator
levels-loop-level-preserved-then-not-begins_operator t c =
    let m = c.loop-level.level - 1 in
    let up : m + 1 ≡ c.loop-level.level = omega arith in (
      λ xs h. (
          let q : IsRead (is_type c.args.reader.now.names.now) (bin (m + 1)) xs c.loop-level.left
          (map view c.loop-level.rest.now) = rw up (c.loop-level.invariant.0 xs h) in
          record {
            tree = q.tree;
            shows = q.shows;
            reads = levels.level_skipped (is_type c.args.reader.now.names.now) m xs (map view c.loop-level.rest.now)
                q.tree (omega arith) (c.begins_operator.ensures c.if-not-begins_operator.true) q.reads;
          }),
      omega arith,
      omega arith,
      c.loop-level.invariant.3,
    )

pub operand-returns-in-Nothing-clause-reads : goal.operand-returns-in-Nothing-clause-reads
operand-returns-in-Nothing-clause-reads t c =
    prefixes.plain_keeps (is_type c.args.reader.now.names.now) (map view c.args.tokens.now) c.postfix.result
    c.in-Nothing.ensures.value.0 c.in-Nothing.ensures.value.1 c.postfix.ensures.reads

pub prefixed_operand-prefixes-preserved-in-Operator : goal.prefixed_operand-prefixes-preserved-in-Operator
prefixed_operand-prefixes-preserved-in-Operator t c = (
  rw c.in_ok-push-in-Operator.ensures.items
      (prefixes.under_operator (is_type c.args.reader.now.names.now) (map view c.args.tokens.now)
      c.prefixes.prefixes.items c.prefixes.bare (map view c.prefixes.rest.now) (map view c.in-Operator.more.now)
      c.in-Operator.line c.in-Operator.mark c.prefixes.invariant.0 c.in-Operator.ensures.value.0
      c.in-Operator.ensures.value.1),
  omega (arith, c.in-Operator.ensures.shorter),
)

pub prefixed_operand-prefixes-preserved-in-Step : goal.prefixed_operand-prefixes-preserved-in-Step
prefixed_operand-prefixes-preserved-in-Step t c = (
  rw c.in_ok-push-in-Step.ensures.items
      (prefixes.under_step (is_type c.args.reader.now.names.now) (map view c.args.tokens.now) c.prefixes.prefixes.items
      c.prefixes.bare (map view c.prefixes.rest.now) (map view c.in-Step.more.now) c.in-Step.line c.in-Step.mark
      c.prefixes.invariant.0 c.in-Step.ensures.value.0 c.in-Step.ensures.value.1),
  omega (arith, c.in-Step.ensures.shorter),
)

pub prefixed_operand-prefixes-preserved-in-Sizeof : goal.prefixed_operand-prefixes-preserved-in-Sizeof
prefixed_operand-prefixes-preserved-in-Sizeof t c = (
  rw c.in_ok-push-in-Sizeof.ensures.items
      (prefixes.under_sizeof (is_type c.args.reader.now.names.now) (map view c.args.tokens.now)
      c.prefixes.prefixes.items
      c.prefixes.bare (map view c.prefixes.rest.now) (map view c.in-Sizeof.more.now) c.in-Sizeof.line
      c.in-Sizeof.ensures.value.0 c.prefixes.invariant.0 c.in-Sizeof.ensures.value.1 c.in-Sizeof.ensures.value.2
      c.in-Sizeof.ensures.value.3),
  omega (arith, c.in-Sizeof.ensures.shorter),
)

pub prefixed_operand-returns-then-bare-clause-reads : goal.prefixed_operand-returns-then-bare-clause-reads
prefixed_operand-returns-then-bare-clause-reads t c = (
  prefixes.bare_refused (is_type c.args.reader.now.names.now)
      (map view c.args.tokens.now) c.prefixes.prefixes.items c.prefixes.bare (map view c.prefixes.rest.now)
      (map view c.in-Cast.inside.now) c.in-Cast.line c.prefixes.invariant.0 c.if-bare.true c.in-Cast.ensures.value,
  c.stopped.ensures,
)

pub prefixed_operand-returns-in_err-to-in-Cast-clause-reads : goal.prefixed_operand-returns-in_err-to-in-Cast-clause-reads
prefixed_operand-returns-in_err-to-in-Cast-clause-reads t c =
    let p = err_from_is_err_and c.from_residual-in_err-to-in-Cast.result c.from_residual-in_err-to-in-Cast.ensures.1 in
    rw (p.1, p.2) (stops_halt (TypeNamed (is_type c.args.reader.now.names.now)) (is_type c.args.reader.now.names.now)
    cast (map view c.in-Cast.inside.now) (map view c.args.tokens.now) c.in_err-to-in-Cast.field-0.0
    (prefixes.typed_refused (is_type c.args.reader.now.names.now) (map view c.args.tokens.now)
    c.prefixes.prefixes.items c.prefixes.bare (map view c.prefixes.rest.now) (map view c.in-Cast.inside.now)
    c.in-Cast.line c.prefixes.invariant.0 c.if-bare.false c.in-Cast.ensures.value)
    c.in_err-to-in-Cast.ensures.reads)

pub prefixed_operand-prefixes-preserved : goal.prefixed_operand-prefixes-preserved
prefixed_operand-prefixes-preserved t c = (
  rw (c.in_ok-push-in-Cast.ensures.items, c.if-bare.false)
      (prefixes.under_typed (is_type c.args.reader.now.names.now) (map view c.args.tokens.now) c.prefixes.prefixes.items
      c.prefixes.bare (map view c.prefixes.rest.now) (map view c.in-Cast.inside.now)
      (map view c.in_ok-to-in-Cast.to.rest.now) c.in-Cast.line c.in_ok-to-in-Cast.to.value c.prefixes.invariant.0
      c.if-bare.false c.in-Cast.ensures.value c.in_ok-to-in-Cast.ensures.reads),
  omega (arith, c.in-Cast.ensures.shorter, c.in_ok-to-in-Cast.ensures.shorter),
)

pub prefixed_operand-returns-in_err-of-in-SizeofType-clause-reads : goal.prefixed_operand-returns-in_err-of-in-SizeofType-clause-reads
prefixed_operand-returns-in_err-of-in-SizeofType-clause-reads t c =
    let p = err_from_is_err_and c.from_residual-in_err-of-in-SizeofType.result
    c.from_residual-in_err-of-in-SizeofType.ensures.1 in
    rw (p.1, p.2) (stops_halt (TypeNamed (is_type c.args.reader.now.names.now)) (is_type c.args.reader.now.names.now)
    cast (map view c.in-SizeofType.inside.now) (map view c.args.tokens.now) c.in_err-of-in-SizeofType.field-0.0
    (prefixes.size_refused (is_type c.args.reader.now.names.now) (map view c.args.tokens.now)
    c.prefixes.prefixes.items c.prefixes.bare (map view c.prefixes.rest.now) c.in-SizeofType.ensures.value.2
    (map view c.in-SizeofType.inside.now) c.in-SizeofType.line c.in-SizeofType.ensures.value.0
    c.in-SizeofType.ensures.value.1 c.prefixes.invariant.0 c.in-SizeofType.ensures.value.4
    c.in-SizeofType.ensures.value.5) c.in_err-of-in-SizeofType.ensures.reads)

pub prefixed_operand-returns-in-SizeofType-clause-reads : goal.prefixed_operand-returns-in-SizeofType-clause-reads
prefixed_operand-returns-in-SizeofType-clause-reads t c =
    let size = tree.sizeof_type c.in-SizeofType.line (type_name c.in_ok-of-in-SizeofType.of.value.value) in
    record {
      tree = wrap_all c.prefixes.prefixes.items size;
      shows = c.in_ok-wrapped_before-in-SizeofType.ensures.value size c.size_of-size.ensures;
      reads = rw c.in_ok-wrapped_before-in-SizeofType.ensures.rest
          (prefixes.size_read (is_type c.args.reader.now.names.now) (map view c.args.tokens.now)
          c.prefixes.prefixes.items c.prefixes.bare (map view c.prefixes.rest.now) c.in-SizeofType.ensures.value.2
          (map view c.in-SizeofType.inside.now) (map view c.in_ok-of-in-SizeofType.of.rest.now) c.in-SizeofType.line
          c.in-SizeofType.ensures.value.0 c.in-SizeofType.ensures.value.1 c.in_ok-of-in-SizeofType.of.value
          c.prefixes.invariant.0 c.in-SizeofType.ensures.value.3 c.in-SizeofType.ensures.value.4
          c.in-SizeofType.ensures.value.5 c.in_ok-of-in-SizeofType.ensures.reads);
    }

pub prefixed_operand-returns-in_err-inner-in-Nothing-clause-reads : goal.prefixed_operand-returns-in_err-inner-in-Nothing-clause-reads
prefixed_operand-returns-in_err-inner-in-Nothing-clause-reads t c =
    let p = err_from_is_err_and c.from_residual-in_err-inner-in-Nothing.result
    c.from_residual-in_err-inner-in-Nothing.ensures.1 in
    rw (p.1, p.2) (passes (is_type c.args.reader.now.names.now) postfix cast (map view c.prefixes.rest.now)
    (map view c.args.tokens.now) c.in_err-inner-in-Nothing.field-0.0
    (prefixes.under_refused (is_type c.args.reader.now.names.now) (map view c.args.tokens.now)
    c.prefixes.prefixes.items c.prefixes.bare (map view c.prefixes.rest.now) c.prefixes.invariant.0
    c.in-Nothing.ensures.value.0 c.in-Nothing.ensures.value.1) c.in_err-inner-in-Nothing.ensures.reads)

pub prefixed_operand-returns-in-Nothing-clause-reads : goal.prefixed_operand-returns-in-Nothing-clause-reads
prefixed_operand-returns-in-Nothing-clause-reads t c =
    let q = c.in_ok-inner-in-Nothing.ensures.reads in
    record {
      tree = wrap_all c.prefixes.prefixes.items q.tree;
      shows = c.in_ok-wrapped_before-in-Nothing.ensures.value q.tree q.shows;
      reads = rw c.in_ok-wrapped_before-in-Nothing.ensures.rest
          (prefixes.under_read (is_type c.args.reader.now.names.now) (map view c.args.tokens.now)
          c.prefixes.prefixes.items c.prefixes.bare (map view c.prefixes.rest.now)
          (map view c.in_ok-inner-in-Nothing.inner.rest.now) q.tree c.prefixes.invariant.0 c.in-Nothing.ensures.value.0
          c.in-Nothing.ensures.value.1 q.reads);
    }

pub operators-loop-mark-init : goal.operators-loop-mark-init
operators-loop-mark-init t c = (
  λ xs r. (
    r.tree,
    r.shows,
    levels.level_begins (is_type c.args.reader.now.names.now)
        c.args.level xs (map view c.args.tokens.now) r.tree (omega arith) r.reads,
  ),
  omega arith,
)

pub operators-returns-in_err-right-clause-reads : goal.operators-returns-in_err-right-clause-reads
operators-returns-in_err-right-clause-reads t c = λ xs h. (
    let p = err_from_is_err_and c.from_residual.result c.from_residual.ensures.1 in
    let s = c.loop-mark.invariant.0 xs h in
    rw (p.1, p.2) (passes (is_type c.args.reader.now.names.now) (bin (c.args.level + 1)) (bin c.args.level)
    (map view c.in-Some.more.now) xs c.in_err-right.field-0.0
    (levels.operator_refused (is_type c.args.reader.now.names.now) c.args.level c.in-Some.field-0-0
    (mark_number c.in-Some.mark) xs (map view c.loop-mark.rest.now) (map view c.in-Some.more.now) s.0
    (omega arith) s.2 c.in-Some.ensures.value)
    c.in_err-right.ensures.reads))

pub operators-loop-mark-preserved : goal.operators-loop-mark-preserved
operators-loop-mark-preserved t c = (
  λ xs h. (
      let s = c.loop-mark.invariant.0 xs h in
      let q = c.in_ok-right.ensures.reads in (
        tree.binary (line_of s.0) (mark_number c.in-Some.mark) s.0 q.tree,
        c.in_ok-left.ensures s.0 q.tree s.1 q.shows,
        levels.operator_read (is_type c.args.reader.now.names.now) c.args.level c.in-Some.field-0-0
            (mark_number c.in-Some.mark) xs
            (map view c.loop-mark.rest.now) (map view c.in-Some.more.now) (map view c.in_ok-right.right.rest.now) s.0
            q.tree (omega arith) s.2 c.in-Some.ensures.value q.reads,
      )),
  omega (arith, c.in-Some.ensures.shorter, c.in_ok-right.ensures.shorter),
)

pub operators-returns-clause-reads : goal.operators-returns-clause-reads
operators-returns-clause-reads t c = λ xs h. (let s = c.loop-mark.invariant.0 xs h in
    record {
      tree = s.0;
      shows = s.1;
      reads = levels.level_done (is_type c.args.reader.now.names.now) c.args.level xs
          (map view c.loop-mark.rest.now) s.0 s.2 c.in_default.ensures.value;
    })

pub postfix-returns-in_err-first-clause-reads : goal.postfix-returns-in_err-first-clause-reads
postfix-returns-in_err-first-clause-reads t c =
    let p = err_from_is_err_and c.from_residual.result c.from_residual.ensures.1 in
    rw (p.1, p.2) (passes (is_type c.args.reader.now.names.now) primary postfix (map view c.args.tokens.now)
    (map view c.args.tokens.now) c.in_err-first.field-0.0
    (suffixes.postfix_refused (is_type c.args.reader.now.names.now) (map view c.args.tokens.now))
    c.in_err-first.ensures.reads)

pub postfix-marks-init : goal.postfix-marks-init
postfix-marks-init t c =
    let q = c.in_ok-first.ensures.reads in (
      (
        q.tree,
        q.shows,
        suffixes.longer_begins (is_type c.args.reader.now.names.now) (map view c.args.tokens.now)
            (map view c.in_ok-first.first.rest.now) q.tree q.reads,
      ),
      c.in_ok-first.ensures.shorter,
    )

pub postfix-returns-then-not-begins_suffix-clause-reads : goal.postfix-returns-then-not-begins_suffix-clause-reads
postfix-returns-then-not-begins_suffix-clause-reads t c =
    record {
      tree = c.marks.invariant.0.0;
      shows = c.marks.invariant.0.1;
      reads =
          suffixes.longer_done (is_type c.args.reader.now.names.now) (map view c.args.tokens.now)
          (map view c.marks.rest.now)
          c.marks.invariant.0.0 c.marks.invariant.0.2 (sym c.begins_suffix.ensures ∙ c.if-not-begins_suffix.true);
    }

pub postfix-returns-in_err-behind-clause-reads : goal.postfix-returns-in_err-behind-clause-reads
postfix-returns-in_err-behind-clause-reads t c =
    let p = err_from_is_err_and c.from_residual-in_err-behind.result c.from_residual-in_err-behind.ensures.1 in
    rw (p.1, p.2) (stops_halt (IsSuffix (is_type c.args.reader.now.names.now)) (is_type c.args.reader.now.names.now)
    postfix (map view c.marks.rest.now) (map view c.args.tokens.now) c.in_err-behind.field-0.0
    (suffixes.longer_refused (is_type c.args.reader.now.names.now) (map view c.args.tokens.now)
    (map view c.marks.rest.now) c.marks.invariant.0.0 c.marks.invariant.0.2
    (sym c.begins_suffix.ensures ∙ c.if-not-begins_suffix.false)) c.in_err-behind.ensures.reads)

pub postfix-marks-preserved : goal.postfix-marks-preserved
postfix-marks-preserved t c =
    let q = c.in_ok-behind.ensures.reads in (
      (
        apply q.value c.marks.invariant.0.0,
        c.in_ok-left.ensures c.marks.invariant.0.0 q.value c.marks.invariant.0.1
            q.shows,
        suffixes.longer_step (is_type c.args.reader.now.names.now) (map view c.args.tokens.now)
            (map view c.marks.rest.now) (map view c.in_ok-behind.behind.rest.now) c.marks.invariant.0.0 q.value
            c.marks.invariant.0.2 q.takes,
      ),
      omega (arith, c.in_ok-behind.ensures.shorter),
    )

pub primary-returns-then-has-clause-reads : goal.primary-returns-then-has-clause-reads
primary-returns-then-has-clause-reads t c = (
  primaries.type_refused (is_type c.args.reader.now.names.now) c.in-Name.line
      c.in-Name.text.now (map view c.args.tokens.now) (map view c.in-Name.rest.now)
      c.in-Name.ensures (sym c.has.ensures ∙ c.if-has.true),
  c.stopped.ensures,
)

pub primary-returns-then-ne-clause-reads : goal.primary-returns-then-ne-clause-reads
primary-returns-then-ne-clause-reads t c = (
  primaries.other_refused (is_type c.args.reader.now.names.now) c.in-Mark.field-0 (mark_number c.in-Mark.mark)
      (map view c.args.tokens.now) (map view c.in-Mark.rest.now) c.in-Mark.ensures
      (λ e. differs_true the_type _ marks.LeftParen (sym c.if-ne.ensures) (same_mark c.in-Mark.mark marks.LeftParen e)),
  c.stopped-then-ne.ensures,
)

pub primary-returns-in_err-inner-in-Mark-clause-reads : goal.primary-returns-in_err-inner-in-Mark-clause-reads
primary-returns-in_err-inner-in-Mark-clause-reads t c =
    let p = err_from_is_err_and c.from_residual-in_err-inner-in-Mark.result
    c.from_residual-in_err-inner-in-Mark.ensures.1 in
    rw (p.1, p.2) (passes (is_type c.args.reader.now.names.now) expr primary (map view c.in-Mark.rest.now)
    (map view c.args.tokens.now) c.in_err-inner-in-Mark.field-0.0
    (primaries.closed_refused (is_type c.args.reader.now.names.now) c.in-Mark.field-0 (mark_number c.in-Mark.mark)
    (map view c.args.tokens.now) (map view c.in-Mark.rest.now) c.in-Mark.ensures)
    c.in_err-inner-in-Mark.ensures.reads)

pub primary-returns-in_default-clause-reads : goal.primary-returns-in_default-clause-reads
primary-returns-in_default-clause-reads t c =
    let q = c.in_ok-inner-in-Mark.ensures.reads in (
      primaries.unclosed_refused (is_type c.args.reader.now.names.now) c.in-Mark.field-0 (mark_number c.in-Mark.mark)
          (map view c.args.tokens.now) (map view c.in-Mark.rest.now) (map view c.in_ok-inner-in-Mark.inner.rest.now)
          q.tree c.in-Mark.ensures q.reads c.in_default.ensures.value,
      c.stopped-in_default.ensures,
    )

pub primary-returns-in_ok-name-in-Name-clause-reads : goal.primary-returns-in_ok-name-in-Name-clause-reads
primary-returns-in_ok-name-in-Name-clause-reads t c = record {
  tree = tree.id c.in-Name.line c.in-Name.text.now;
  shows = c.in_ok-name-in-Name.ensures;
  reads = primaries.name_read (is_type c.args.reader.now.names.now) c.in-Name.line
      c.in-Name.text.now (map view c.args.tokens.now) (map view c.in-Name.rest.now)
      c.in-Name.ensures (sym c.has.ensures ∙ c.if-has.false);
}

pub primary-returns-in-Number-clause-reads : goal.primary-returns-in-Number-clause-reads
primary-returns-in-Number-clause-reads t c = record {
  tree = tree.number c.in-Number.line c.in-Number.literal;
  shows = c.number.ensures;
  reads = primaries.number_read (is_type c.args.reader.now.names.now) c.in-Number.line
      c.in-Number.literal (map view c.args.tokens.now) (map view c.in-Number.rest.now) c.in-Number.ensures;
}

pub primary-returns-in-Some-clause-reads : goal.primary-returns-in-Some-clause-reads
primary-returns-in-Some-clause-reads t c =
    let q = c.in_ok-inner-in-Mark.ensures.reads in
    record {
      tree = q.tree;
      shows = q.shows;
      reads = primaries.closed_read (is_type c.args.reader.now.names.now)
          c.in-Mark.field-0 (mark_number c.in-Mark.mark) c.in-Some.field-0-0 (map view c.args.tokens.now)
          (map view c.in-Mark.rest.now)
          (map view c.in_ok-inner-in-Mark.inner.rest.now) (map view c.in-Some.more.now) q.tree
          c.in-Mark.ensures (ap mark_number
          (differs_false the_type (search rules) _ marks.LeftParen
          (sym c.if-ne.ensures))) q.reads c.in-Some.ensures.value;
    }

pub primary-returns-in-Word-clause-reads : goal.primary-returns-in-Word-clause-reads
primary-returns-in-Word-clause-reads t c = (
  primaries.word_refused (is_type c.args.reader.now.names.now)
      c.in-Word.field-0 (word_number c.in-Word.field-1) (map view c.args.tokens.now) (map view c.in-Word.field-2.now)
      c.in-Word.ensures,
  c.stopped-in-Word.ensures,
)

pub primary-returns-in-Other-clause-reads : goal.primary-returns-in-Other-clause-reads
primary-returns-in-Other-clause-reads t c = (
  primaries.nothing_refused (is_type c.args.reader.now.names.now)
      (map view c.args.tokens.now) c.in-Other.ensures,
  c.stopped-in-Other.ensures,
)

pub read_expression-frames-init : goal.read_expression-frames-init
read_expression-frames-init t c = rw c.new-frames.ensures.items (begins, refl, omega arith)

pub read_expression-returns-in_err-first-clause-reads : goal.read_expression-returns-in_err-first-clause-reads
read_expression-returns-in_err-first-clause-reads t c =
    let p = err_from_is_err_and c.from_residual.result c.from_residual.ensures.1 in
    rw (p.1, p.2) (passes (is_type c.args.reader.now.names.now) cast expr (map view c.frames.rest.now)
    (map view c.args.tokens.now) c.in_err-first.field-0.0
    (λ r. pending.unwound (is_type c.args.reader.now.names.now) c.frames.invariant.0
    (pending.operand_unwanted (is_type c.args.reader.now.names.now) (reverse c.frames.frames.items)
    (map view c.frames.rest.now) r)) c.in_err-first.ensures.reads)

pub read_expression-frames-preserved-in-Some : goal.read_expression-frames-preserved-in-Some
read_expression-frames-preserved-in-Some t c =
    let q = c.in_ok-first.ensures.reads in
    let v = c.in-Some.ensures.value in
    let e : reverse c.push.new.self.items ≡ frames.Assign c.in_ok-first.first.value c.in-Some.mark.value ∷
    (reverse c.frames.frames.items) = ap reverse c.in_ok-push.ensures.items
    ∙ reverse-last c.frames.frames.items (frames.Assign c.in_ok-first.first.value c.in-Some.mark.value) in
    rw e (
      assigning (c.frames.invariant.1 ∙ ap pending.part_rule v.1) c.frames.invariant.0 v.2 q.shows q.reads v.3,
      refl,
      omega (arith, c.in_ok-first.ensures.shorter, c.in-Some.ensures.shorter),
    )

pub read_expression-returns-in_err-test-clause-reads : goal.read_expression-returns-in_err-test-clause-reads
read_expression-returns-in_err-test-clause-reads t c =
    let q = c.in_ok-first.ensures.reads in
    let pl : Plain (is_type c.args.reader.now.names.now) (reverse c.frames.frames.items) (map view c.frames.rest.now) =
    plain_here (is_type c.args.reader.now.names.now) c.frames.third_part (reverse c.frames.frames.items)
    (map view c.frames.rest.now) (map view c.in_ok-first.first.rest.now) q.tree c.frames.invariant.1 q.reads
    c.in_default.ensures.value in
    let o : IsRead (is_type c.args.reader.now.names.now) (bin 11) (map view c.frames.rest.now) c.in_ok-first.first.value
    (map view c.in_ok-first.first.rest.now) = record {
      tree = q.tree;
      shows = q.shows;
      reads =
          levels.operand_read (is_type c.args.reader.now.names.now) (map view c.frames.rest.now)
          (map view c.in_ok-first.first.rest.now) q.tree q.reads;
    } in
    let p = err_from_is_err_and c.from_residual-in_err-test.result c.from_residual-in_err-test.ensures.1 in
    rw (p.1, p.2) (passes (is_type c.args.reader.now.names.now) (bin 1) expr (map view c.frames.rest.now)
    (map view c.args.tokens.now) c.in_err-test.field-0.0
    (pending.test_unwound (is_type c.args.reader.now.names.now) c.frames.invariant.0 pl)
    (c.in_err-test.ensures.reads (map view c.frames.rest.now) o))

pub read_expression-frames-preserved-in-Some-at_mark : goal.read_expression-frames-preserved-in-Some-at_mark
read_expression-frames-preserved-in-Some-at_mark t c =
    let q = c.in_ok-first.ensures.reads in
    let pl : Plain (is_type c.args.reader.now.names.now) (reverse c.frames.frames.items) (map view c.frames.rest.now) =
    plain_here (is_type c.args.reader.now.names.now) c.frames.third_part (reverse c.frames.frames.items)
    (map view c.frames.rest.now) (map view c.in_ok-first.first.rest.now) q.tree c.frames.invariant.1 q.reads
    c.in_default.ensures.value in
    let o : IsRead (is_type c.args.reader.now.names.now) (bin 11) (map view c.frames.rest.now) c.in_ok-first.first.value
    (map view c.in_ok-first.first.rest.now) = record {
      tree = q.tree;
      shows = q.shows;
      reads =
          levels.operand_read (is_type c.args.reader.now.names.now) (map view c.frames.rest.now)
          (map view c.in_ok-first.first.rest.now) q.tree q.reads;
    } in
    let s = c.in_ok-test.ensures.reads (map view c.frames.rest.now) o in
    let e : reverse c.push-in-Some-at_mark.new.self.items ≡ frames.Question c.in_ok-test.test.value ∷
    (reverse c.frames.frames.items) = ap reverse c.in_ok-push-2.ensures.items
    ∙ reverse-last c.frames.frames.items (frames.Question c.in_ok-test.test.value) in
    rw e (
      asking c.frames.invariant.0 pl s.shows s.reads c.in-Some-at_mark.ensures.value,
      refl,
      omega (arith, c.in_ok-first.ensures.shorter, c.in_ok-test.ensures.shorter, c.in-Some-at_mark.ensures.shorter),
    )

pub read_expression-returns-in-Whole-clause-reads : goal.read_expression-returns-in-Whole-clause-reads
read_expression-returns-in-Whole-clause-reads t c =
    let q = c.in_ok-first.ensures.reads in
    let pl : Plain (is_type c.args.reader.now.names.now) (reverse c.frames.frames.items) (map view c.frames.rest.now) =
    plain_here (is_type c.args.reader.now.names.now) c.frames.third_part (reverse c.frames.frames.items)
    (map view c.frames.rest.now) (map view c.in_ok-first.first.rest.now) q.tree c.frames.invariant.1 q.reads
    c.in_default.ensures.value in
    let o : IsRead (is_type c.args.reader.now.names.now) (bin 11) (map view c.frames.rest.now) c.in_ok-first.first.value
    (map view c.in_ok-first.first.rest.now) = record {
      tree = q.tree;
      shows = q.shows;
      reads =
          levels.operand_read (is_type c.args.reader.now.names.now) (map view c.frames.rest.now)
          (map view c.in_ok-first.first.rest.now) q.tree q.reads;
    } in
    let s = c.in_ok-test.ensures.reads (map view c.frames.rest.now) o in
    let v : Value (is_type c.args.reader.now.names.now) (map view c.args.tokens.now) (reverse c.frames.frames.items)
    c.in_ok-test.test.value (map view c.in_ok-test.test.rest.now) =
    pending.test_value (is_type c.args.reader.now.names.now) (map view c.args.tokens.now)
    (map view c.frames.rest.now) (map view c.in_ok-test.test.rest.now) (reverse c.frames.frames.items)
    c.in_ok-test.test.value s.tree c.frames.invariant.0 pl s.shows s.reads c.in_default-at_mark.ensures.value in
    let w : Value (is_type c.args.reader.now.names.now) (map view c.args.tokens.now) [] c.in-Whole.value
    (map view c.in_ok-test.test.rest.now) = rw c.in-Whole.is at
    (c.in_ok-value.ensures (is_type c.args.reader.now.names.now) (map view c.args.tokens.now)
    (map view c.in_ok-test.test.rest.now) v) in
    whole_read (is_type c.args.reader.now.names.now) (map view c.args.tokens.now) c.in-Whole.value
    (map view c.in_ok-test.test.rest.now) w

pub read_expression-returns-in_default-at_mark-2-clause-reads :
    goal.read_expression-returns-in_default-at_mark-2-clause-reads
read_expression-returns-in_default-at_mark-2-clause-reads t c =
    let q = c.in_ok-first.ensures.reads in
    let pl : Plain (is_type c.args.reader.now.names.now) (reverse c.frames.frames.items) (map view c.frames.rest.now) =
    plain_here (is_type c.args.reader.now.names.now) c.frames.third_part (reverse c.frames.frames.items)
    (map view c.frames.rest.now) (map view c.in_ok-first.first.rest.now) q.tree c.frames.invariant.1 q.reads
    c.in_default.ensures.value in
    let o : IsRead (is_type c.args.reader.now.names.now) (bin 11) (map view c.frames.rest.now) c.in_ok-first.first.value
    (map view c.in_ok-first.first.rest.now) = record {
      tree = q.tree;
      shows = q.shows;
      reads =
          levels.operand_read (is_type c.args.reader.now.names.now) (map view c.frames.rest.now)
          (map view c.in_ok-first.first.rest.now) q.tree q.reads;
    } in
    let s = c.in_ok-test.ensures.reads (map view c.frames.rest.now) o in
    let v : Value (is_type c.args.reader.now.names.now) (map view c.args.tokens.now) (reverse c.frames.frames.items)
    c.in_ok-test.test.value (map view c.in_ok-test.test.rest.now) =
    pending.test_value (is_type c.args.reader.now.names.now) (map view c.args.tokens.now)
    (map view c.frames.rest.now) (map view c.in_ok-test.test.rest.now) (reverse c.frames.frames.items)
    c.in_ok-test.test.value s.tree c.frames.invariant.0 pl s.shows s.reads c.in_default-at_mark.ensures.value in
    let a : Asked (is_type c.args.reader.now.names.now) (map view c.args.tokens.now) (reverse c.in-Asks.left.items)
    c.in-Asks.asked c.in-Asks.yes (map view c.in_ok-test.test.rest.now) =
    rw c.in-Asks.is at (c.in_ok-value.ensures (is_type c.args.reader.now.names.now) (map view c.args.tokens.now)
    (map view c.in_ok-test.test.rest.now) v) in (
      pending.colon_unwound (is_type c.args.reader.now.names.now) (map view c.args.tokens.now)
          (reverse c.in-Asks.left.items) c.in-Asks.asked c.in-Asks.yes (map view c.in_ok-test.test.rest.now) a
          c.in_default-at_mark-2.ensures.value,
      c.stopped.ensures,
    )

pub read_expression-frames-preserved : goal.read_expression-frames-preserved
read_expression-frames-preserved t c =
    let q = c.in_ok-first.ensures.reads in
    let pl : Plain (is_type c.args.reader.now.names.now) (reverse c.frames.frames.items) (map view c.frames.rest.now) =
    plain_here (is_type c.args.reader.now.names.now) c.frames.third_part (reverse c.frames.frames.items)
    (map view c.frames.rest.now) (map view c.in_ok-first.first.rest.now) q.tree c.frames.invariant.1 q.reads
    c.in_default.ensures.value in
    let o : IsRead (is_type c.args.reader.now.names.now) (bin 11) (map view c.frames.rest.now) c.in_ok-first.first.value
    (map view c.in_ok-first.first.rest.now) = record {
      tree = q.tree;
      shows = q.shows;
      reads =
          levels.operand_read (is_type c.args.reader.now.names.now) (map view c.frames.rest.now)
          (map view c.in_ok-first.first.rest.now) q.tree q.reads;
    } in
    let s = c.in_ok-test.ensures.reads (map view c.frames.rest.now) o in
    let v : Value (is_type c.args.reader.now.names.now) (map view c.args.tokens.now) (reverse c.frames.frames.items)
    c.in_ok-test.test.value (map view c.in_ok-test.test.rest.now) =
    pending.test_value (is_type c.args.reader.now.names.now) (map view c.args.tokens.now)
    (map view c.frames.rest.now) (map view c.in_ok-test.test.rest.now) (reverse c.frames.frames.items)
    c.in_ok-test.test.value s.tree c.frames.invariant.0 pl s.shows s.reads c.in_default-at_mark.ensures.value in
    let a : Asked (is_type c.args.reader.now.names.now) (map view c.args.tokens.now) (reverse c.in-Asks.left.items)
    c.in-Asks.asked c.in-Asks.yes (map view c.in_ok-test.test.rest.now) =
    rw c.in-Asks.is at (c.in_ok-value.ensures (is_type c.args.reader.now.names.now) (map view c.args.tokens.now)
    (map view c.in_ok-test.test.rest.now) v) in
    let e : reverse c.push-in-Asks.new.self.items ≡ frames.Colon c.in-Asks.asked c.in-Asks.yes ∷
    reverse c.in-Asks.left.items = ap reverse c.in_ok-push-in-Asks.ensures.items
    ∙ reverse-last c.in-Asks.left.items (frames.Colon c.in-Asks.asked c.in-Asks.yes) in
    rw e (
      pending.colon_waits (is_type c.args.reader.now.names.now) (map view c.args.tokens.now)
          (map view c.in_ok-test.test.rest.now) (map view c.in-Some-at_mark-2.more.now) (reverse c.in-Asks.left.items)
          c.in-Asks.asked c.in-Asks.yes c.in-Some-at_mark-2.field-0-0 a c.in-Some-at_mark-2.ensures.value,
      refl,
      omega (arith, c.in_ok-first.ensures.shorter, c.in_ok-test.ensures.shorter, c.in-Some-at_mark-2.ensures.shorter),
    )

pub suffix-returns-in_default-at_mark-clause-reads : goal.suffix-returns-in_default-at_mark-clause-reads
suffix-returns-in_default-at_mark-clause-reads t c =
    let q = c.in_ok-at-in-LeftBracket.ensures.reads in (
      suffixes.index_unclosed (is_type c.args.reader.now.names.now) c.in-Mark.field-0 (mark_number c.in-Mark.mark)
          (map view c.args.tokens.now) (map view c.in-Mark.rest.now)
          (map view c.in_ok-at-in-LeftBracket.at.rest.now) q.tree
          c.in-Mark.ensures (ap mark_number c.in-LeftBracket.is) q.reads c.in_default-at_mark.ensures.value,
      c.stopped-in_default-at_mark.ensures,
    )

pub suffix-returns-in_err-all-in-LeftParen-clause-reads : goal.suffix-returns-in_err-all-in-LeftParen-clause-reads
suffix-returns-in_err-all-in-LeftParen-clause-reads t c =
    let p = err_from_is_err_and c.from_residual-in_err-all-in-LeftParen.result
    c.from_residual-in_err-all-in-LeftParen.ensures.1 in
    rw (p.1, p.2) (stops_stop (Arguments (is_type c.args.reader.now.names.now))
    (IsSuffix (is_type c.args.reader.now.names.now)) (map view c.in-Mark.rest.now) (map view c.args.tokens.now)
    c.in_err-all-in-LeftParen.field-0.0 (suffixes.call_refused (is_type c.args.reader.now.names.now) c.in-Mark.field-0
    (mark_number c.in-Mark.mark) (map view c.args.tokens.now) (map view c.in-Mark.rest.now) c.in-Mark.ensures
    (ap mark_number c.in-LeftParen.is))
    c.in_err-all-in-LeftParen.ensures.reads)

pub suffix-returns-in-Some-clause-reads : goal.suffix-returns-in-Some-clause-reads
suffix-returns-in-Some-clause-reads t c =
    let q = c.in_ok-at-in-LeftBracket.ensures.reads in
    record {
      value = at q.tree;
      shows = (q.tree, refl, q.shows);
      takes =
          suffixes.index_read (is_type c.args.reader.now.names.now) c.in-Mark.field-0
          (mark_number c.in-Mark.mark) c.in-Some.field-0-0
          (map view c.args.tokens.now) (map view c.in-Mark.rest.now) (map view c.in_ok-at-in-LeftBracket.at.rest.now)
          (map view c.in-Some.more.now) q.tree c.in-Mark.ensures
          (ap mark_number c.in-LeftBracket.is) q.reads c.in-Some.ensures.value;
    }

pub suffix-returns-in_ok-all-in-LeftParen-clause-reads : goal.suffix-returns-in_ok-all-in-LeftParen-clause-reads
suffix-returns-in_ok-all-in-LeftParen-clause-reads t c =
    let q = c.in_ok-all-in-LeftParen.ensures.reads in
    record {
      value = with q.value;
      shows = (q.value, refl, q.shows);
      takes =
          suffixes.call_read (is_type c.args.reader.now.names.now) c.in-Mark.field-0 (mark_number c.in-Mark.mark)
          (map view c.args.tokens.now) (map view c.in-Mark.rest.now)
          (map view c.in_ok-all-in-LeftParen.all.rest.now) q.value
          c.in-Mark.ensures (ap mark_number c.in-LeftParen.is) q.takes;
    }

pub suffix-returns-in-Dot-clause-reads : goal.suffix-returns-in-Dot-clause-reads
suffix-returns-in-Dot-clause-reads t c = rw c.in-Mark.ensures (c.behind_dot.ensures.reads c.in-Mark.field-0
    (mark_number c.in-Mark.mark) (ap mark_number c.in-Dot.is))

pub suffix-returns-in-Arrow-clause-reads : goal.suffix-returns-in-Arrow-clause-reads
suffix-returns-in-Arrow-clause-reads t c = rw c.in-Mark.ensures (c.behind_arrow.ensures.reads c.in-Mark.field-0
    (mark_number c.in-Mark.mark) (ap mark_number c.in-Arrow.is))

pub suffix-returns-in-PlusPlus-clause-reads : goal.suffix-returns-in-PlusPlus-clause-reads
suffix-returns-in-PlusPlus-clause-reads t c = record {
  value = increment;
  shows = refl;
  takes =
      suffixes.increment_read (is_type c.args.reader.now.names.now) c.in-Mark.field-0 (mark_number c.in-Mark.mark)
      (map view c.args.tokens.now) (map view c.in-Mark.rest.now) c.in-Mark.ensures (ap mark_number c.in-PlusPlus.is);
}

pub suffix-returns-in-MinusMinus-clause-reads : goal.suffix-returns-in-MinusMinus-clause-reads
suffix-returns-in-MinusMinus-clause-reads t c = record {
  value = decrement;
  shows = refl;
  takes =
      suffixes.decrement_read (is_type c.args.reader.now.names.now) c.in-Mark.field-0 (mark_number c.in-Mark.mark)
      (map view c.args.tokens.now) (map view c.in-Mark.rest.now) c.in-Mark.ensures (ap mark_number c.in-MinusMinus.is);
}

pub suffix-returns-in_default-mark-clause-reads : goal.suffix-returns-in_default-mark-clause-reads
suffix-returns-in_default-mark-clause-reads t c = (
  suffixes.other_refused (is_type c.args.reader.now.names.now) c.in-Mark.field-0 (mark_number c.in-Mark.mark)
      (map view c.args.tokens.now) (map view c.in-Mark.rest.now) c.in-Mark.ensures
      (λ e. c.in_default-mark.not-LeftBracket (same_mark c.in-Mark.mark marks.LeftBracket e))
      (λ e. c.in_default-mark.not-LeftParen (same_mark c.in-Mark.mark marks.LeftParen e))
      (λ e. c.in_default-mark.not-Dot (same_mark c.in-Mark.mark marks.Dot e))
      (λ e. c.in_default-mark.not-Arrow (same_mark c.in-Mark.mark marks.Arrow e))
      (λ e. c.in_default-mark.not-PlusPlus (same_mark c.in-Mark.mark marks.PlusPlus e))
      (λ e. c.in_default-mark.not-MinusMinus (same_mark c.in-Mark.mark marks.MinusMinus e)),
  c.stopped-in_default-mark.ensures,
)

pub tighter-returns-in_err-first-clause-reads : goal.tighter-returns-in_err-first-clause-reads
tighter-returns-in_err-first-clause-reads t c =
    let p = err_from_is_err_and c.from_residual.result c.from_residual.ensures.1 in
    rw (p.1, p.2) (passes (is_type c.args.reader.now.names.now) cast (bin c.args.level) (map view c.args.tokens.now)
    (map view c.args.tokens.now) c.in_err-first.field-0.0
    (levels.refused_level (is_type c.args.reader.now.names.now) c.args.level (map view c.args.tokens.now)
    (omega arith)) c.in_err-first.ensures.reads)

pub tighter-returns-clause-reads : goal.tighter-returns-clause-reads
tighter-returns-clause-reads t c =
    let q = c.in_ok-first.ensures.reads in
    c.levels.ensures.reads (map view c.args.tokens.now)
    (record {
      tree = q.tree;
      shows = q.shows;
      reads =
          levels.operand_read (is_type c.args.reader.now.names.now) (map view c.args.tokens.now)
          (map view c.in_ok-first.first.rest.now) q.tree q.reads;
    })
