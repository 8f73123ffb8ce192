use Rattle.std.proofs.Common.{sym, subst, arith}
use Rattle.ep_bytes.specs.Cells.{IsCleared}
use Rattle.ep_bytes.proofs.Cleared.{cleared_by_writing}
use Rattle.ep_bytes.proofs.cells.Cells.clear_on.Goals as goal

pub returns-then-to-from-ne-PAGE : goal.returns-then-to-from-ne-PAGE
returns-then-to-from-ne-PAGE c =
    let before = c.if-from-to.false in
    cleared_by_writing c.args.from c.args.to c.args.self.now c.write.new.self (omega (arith, before)) c.write.ensures

pub forget_page-requires : goal.forget_page-requires
forget_page-requires c i a b =
    let before = c.if-from-to.false in
    let whole = c.if-to-from-ne-PAGE.false in
    let on = c.requires.on.0 in
    let ends = c.requires.on.1 in
    let w = cleared_by_writing c.args.from c.args.to c.args.self.now c.write.new.self (omega (arith, before))
    c.write.ensures in
    w.inside i (omega (arith, before, whole, on, ends)) (omega (arith, before, whole, on, ends))

pub returns : goal.returns
returns c =
    let before = c.if-from-to.false in
    subst (λ s. IsCleared c.args.from c.args.to c.args.self.now s) (sym c.forget_page.ensures)
    (cleared_by_writing c.args.from c.args.to c.args.self.now c.write.new.self (omega (arith, before)) c.write.ensures)
