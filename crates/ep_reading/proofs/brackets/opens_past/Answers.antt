use Rattle.std.proofs.Common.{◌≡◌, ◌+◌, map, drop, get_or, sym, ap, ◌∙◌}
use Rattle.ep_ast.specs.Mark.{mark_number}
use Rattle.ep_ast.specs.Nesting as spec
use Rattle.ep_lexer.specs.Tokens.{view}
use Rattle.ep_reading.proofs.BracketLemmas.{no_token, first_view, on_at_mark, on_at_other}
use Rattle.ep_reading.proofs.brackets.opens_past.Goals.{in-Some+else-next-gt64+else-stops, in_default}
use Rattle.ep_reading.proofs.brackets.opens_past.Goals as goal

pub loop-token-preserved : goal.loop-token-preserved
loop-token-preserved c =
    let i = c.loop-token.token-index in
    let t = get_or c.args.tokens.now i no_token in
    let n = c.loop-token.count in
    let rest = map view (drop (i + 1) c.args.tokens.now) in
    let e = first_view c.args.tokens.now i c.loop-token-test.true in
    elim c.match-mark_of.branch [
      | in-Some+else-next-gt64+else-stops w ↦
          rw w.count-is (
            on_at_mark n (mark_number w.in-Some.mark) w.counted-next.result (view t) rest w.in-Some.ensures w.counted-next.ensures
                w.if-next-gt64.false (sym w.if-stops.false ∙ w.stops.ensures)
                ∙ ap (λ ts. spec.opens_past n ts) (sym e) ∙ c.loop-token.invariant.0,
            w.if-next-gt64.false,
          )
      | in_default w ↦
          rw w.count-is (
            on_at_other n (view t) rest w.in_default.ensures ∙ ap (λ ts. spec.opens_past n ts) (sym e) ∙ c.loop-token.invariant.0,
            c.loop-token.invariant.1,
          )
    ]
