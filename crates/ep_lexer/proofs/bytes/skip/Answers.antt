use Rattle.std.proofs.Common.{◌+◌, ◌<◌, ◌≤◌, ℕ, length, drop, arith, sym, ◌∙◌, length-drop}
use Rattle.std.proofs.lemmas.Bool.Decides.{nat_tests}
use Rattle.ep_lexer.proofs.Skips.{blank_skips, end_stops, comment_over}
use Rattle.ep_lexer.proofs.bytes.skip.Goals as goal

pub loop-rest-preserved-then-is_blank : goal.loop-rest-preserved-then-is_blank
loop-rest-preserved-then-is_blank c =
    let some : 0 < length c.loop-rest.rest.now = grind (arith, nat_tests) in
    let h = blank_skips c.loop-rest.at c.loop-rest.rest.now some (sym c.is_blank.ensures ∙ c.if-is_blank.true) in
    rw c.after-rest.ensures (
      sym h ∙ c.loop-rest.invariant.0,
      omega (arith, length-drop {A = ℕ}),
      omega (arith, length-drop {A = ℕ}),
    )

pub loop-rest-preserved : goal.loop-rest-preserved
loop-rest-preserved c =
    let e = rw c.after-then-opens_comment.ensures at c.in-Some.ensures.value in
    let h = comment_over c.loop-rest.at c.loop-rest.rest.now (c.in-Some.end, c.in-Some.behind.now)
    (sym c.opens_comment.ensures.value ∙ c.if-opens_comment.true) (sym e) in
    let k = length-drop 2 c.loop-rest.rest.now in
    let m : c.in-Some.end + length c.in-Some.behind.now ≤ c.loop-rest.at + length (drop 2 c.loop-rest.rest.now) =
    rw c.after-then-opens_comment.ensures at c.in-Some.ensures.within in
    let n : length c.in-Some.behind.now ≤ length (drop 2 c.loop-rest.rest.now) =
    rw c.after-then-opens_comment.ensures at c.in-Some.ensures.shorter in
    (sym h ∙ c.loop-rest.invariant.0, omega (arith, k, m, n), omega (arith, k, m, n))

pub returns-clause-value : goal.returns-clause-value
returns-clause-value c =
    let none : length c.loop-rest.rest.now ≤ 0 = grind (arith, nat_tests) in
    sym (end_stops c.loop-rest.at c.loop-rest.rest.now none) ∙ c.loop-rest.invariant.0
