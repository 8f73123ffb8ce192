use Rattle.std.proofs.Common.{◌≡◌, List, [], map, Some, None, sym, ap, ◌∙◌}
use Rattle.std.proofs.lemmas.Result.{err_from_is_err_and}
use Rattle.ep_ast.specs.Depth.{brackets_past, too_deep}
use Rattle.ep_ast.specs.Reading.{Takes, Stops}
use Rattle.ep_lexer.specs.declared.tokens.Token.{Token}
use Rattle.ep_lexer.specs.Tokens.{view, all_view}
use Rattle.ep_decls.specs.Answer.{Whole}
use Rattle.ep_decls.proofs.ProgramLemmas as programs
use Rattle.ep_decls.proofs.top.program.Goals as goal

pub returns-in-Some-clause-refused : goal.returns-in-Some-clause-refused
returns-in-Some-clause-refused c =
    let n : Some c.in-Some.line ≡ brackets_past 0 (all_view c.args.tokens.now) =
    sym c.in-Some.is ∙ c.brackets_past.ensures ∙ ap (λ (ts : List Token). brackets_past 0 (map view ts))
    c.as_slice-all.ensures.value in
    programs.brackets_offend (all_view c.args.tokens.now) c.too_deep.result c.in-Some.line c.too_deep.ensures n

pub returns-in_err-found-clause-refused : goal.returns-in_err-found-clause-refused
returns-in_err-found-clause-refused c =
    let n : None ≡ brackets_past 0 (all_view c.args.tokens.now) =
    sym c.in_default.is ∙ c.brackets_past.ensures ∙ ap (λ (ts : List Token). brackets_past 0 (map view ts))
    c.as_slice-all.ensures.value in
    let p = err_from_is_err_and c.from_residual.result c.from_residual.ensures.1 in
    let f : Stops Whole (all_view c.args.tokens.now) c.in_err-found.field-0.0 =
    rw c.as_slice-all.ensures.value at c.in_err-found.ensures.reads in
    rw (p.1, p.2) (programs.items_offend (all_view c.args.tokens.now) c.in_err-found.field-0.0 n f)

pub returns-in-Ok-clause-only : goal.returns-in-Ok-clause-only
returns-in-Ok-clause-only c = λ is d. (
    let q = c.in_ok-found.ensures.reads in
    let t : Takes Whole (all_view c.args.tokens.now) q.0 [] = rw c.as_slice-all.ensures.value at q.2 in
    programs.whole_alone (all_view c.args.tokens.now) q.0 is t d ∙ sym (c.in-Ok.ensures q.0 q.1).0)

pub returns-in-Err-clause-refused : goal.returns-in-Err-clause-refused
returns-in-Err-clause-refused c =
    let n : None ≡ brackets_past 0 (all_view c.args.tokens.now) =
    sym c.in_default.is ∙ c.brackets_past.ensures ∙ ap (λ (ts : List Token). brackets_past 0 (map view ts))
    c.as_slice-all.ensures.value in
    let q = c.in_ok-found.ensures.reads in
    let t : Takes Whole (all_view c.args.tokens.now) q.0 [] = rw c.as_slice-all.ensures.value at q.2 in
    programs.depth_offends (all_view c.args.tokens.now) c.in-Err.refusal q.0 n t (c.in-Err.ensures q.0 q.1)

pub returns-in-Ok-clause-faultless : goal.returns-in-Ok-clause-faultless
returns-in-Ok-clause-faultless c =
    let n : None ≡ brackets_past 0 (all_view c.args.tokens.now) =
    sym c.in_default.is ∙ c.brackets_past.ensures ∙ ap (λ (ts : List Token). brackets_past 0 (map view ts))
    c.as_slice-all.ensures.value in
    let q = c.in_ok-found.ensures.reads in
    let t : Takes Whole (all_view c.args.tokens.now) q.0 [] = rw c.as_slice-all.ensures.value at q.2 in
    let w = c.in-Ok.ensures q.0 q.1 in
    let f : too_deep q.0 ≡ None = w.1 in
    programs.faultless (all_view c.args.tokens.now) q.0 n t f

pub returns-in-Some-clause-deep : goal.returns-in-Some-clause-deep
returns-in-Some-clause-deep c =
    let n : Some c.in-Some.line ≡ brackets_past 0 (all_view c.args.tokens.now) =
    sym c.in-Some.is ∙ c.brackets_past.ensures ∙ ap (λ (ts : List Token). brackets_past 0 (map view ts))
    c.as_slice-all.ensures.value in
    λ k. programs.brackets_fit_none (all_view c.args.tokens.now) c.in-Some.line n

pub returns-in_err-found-clause-deep : goal.returns-in_err-found-clause-deep
returns-in_err-found-clause-deep c =
    let p = err_from_is_err_and c.from_residual.result c.from_residual.ensures.1 in
    let f : Stops Whole (all_view c.args.tokens.now) c.in_err-found.field-0.0 =
    rw c.as_slice-all.ensures.value at c.in_err-found.ensures.reads in
    rw (p.1, p.2) (programs.items_not_deep (all_view c.args.tokens.now) c.in_err-found.field-0.0 f)

pub returns-in-Err-clause-deep : goal.returns-in-Err-clause-deep
returns-in-Err-clause-deep c =
    let q = c.in_ok-found.ensures.reads in
    let t : Takes Whole (all_view c.args.tokens.now) q.0 [] = rw c.as_slice-all.ensures.value at q.2 in
    let h = c.in-Err.ensures q.0 q.1 in
    λ k. programs.depth_fits_none (all_view c.args.tokens.now) q.0 c.in-Err.refusal.line t h.2
