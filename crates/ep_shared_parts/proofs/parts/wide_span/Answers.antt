use Rattle.std.proofs.Common.{arith, subst, sym, map, suc, drop}
use Rattle.ep_shared_parts.specs.Spread.{all_items, AreFrom, outlines}
use Rattle.ep_shared_parts.proofs.Spreading.{parts_to_le, parts_to_rises, outlines_as_many, below_before, above_to}
use Rattle.ep_shared_parts.proofs.parts.wide_span.Goals as goal

pub returns-clause-order : goal.returns-clause-order
returns-clause-order g c =
    omega (arith, parts_to_rises c.args.from c.args.last (outlines g.T.Numbered.number c.args.parts.now) c.requires.rising, c.wide_parts_to.ensures, c.wide_parts_to-2.ensures, c.saturating_sub.ensures)

pub returns-clause-within : goal.returns-clause-within
returns-clause-within g c =
    omega (arith, parts_to_le c.args.last (outlines g.T.Numbered.number c.args.parts.now), outlines_as_many g.T.Numbered.number c.args.parts.now, c.wide_parts_to-2.ensures)

pub returns-clause-below : goal.returns-clause-below
returns-clause-below g c =
    below_before g.T.Numbered.number c.args.from c.args.parts.now c.saturating_sub.result c.wide_parts_to.result c.requires.spread c.wide_parts_to.ensures c.saturating_sub.ensures

pub returns-clause-above : goal.returns-clause-above
returns-clause-above g c =
    subst (λ n. AreFrom (suc c.args.last) (map g.T.Numbered.number (all_items (drop n c.args.parts.now)))) (sym c.wide_parts_to-2.ensures) (above_to g.T.Numbered.number c.args.last c.args.parts.now c.requires.spread)
