use Rattle.std.proofs.Common.{◌≡◌, suc, IfSome, subst, sym, ap, ◌∙◌}
use Rattle.std.specs.List.{insert}
use Rattle.ep_shared_parts.specs.Spread.{all_items, outlines, AreSpread, parts_to, IsHalved}
use Rattle.ep_shared_parts.proofs.Halving.{halved_items, halved_spread, halved_starts, insert_next}
use Rattle.ep_shared_parts.proofs.parts.halve.Goals as goal
use Rattle.std.proofs.Common.{set, ◌<◌}

pub returns-in_ok-insert_part-in-Some-clause-spread : goal.returns-in_ok-insert_part-in-Some-clause-spread
returns-in_ok-insert_part-in-Some-clause-spread g c =
    let h = subst (λ o. IfSome o (λ (h : _). IsHalved g.T.Numbered.number c.index-2.result.now h.left h.right)) c.in-Some.is c.in_ok-in_halves.ensures in
    let e : c.insert_part.new.parts.items ≡ insert c.args.parts.now.items (suc c.args.i) c.in-Some.halved.right = c.in_ok-insert_part-in-Some.ensures.ok ∙ insert_next c.args.parts.now.items c.args.i c.in-Some.halved.right in
    subst (λ xs. AreSpread (outlines g.T.Numbered.number (set xs c.args.i c.in-Some.halved.left))) (sym e) (halved_spread g.T.Numbered.number c.args.parts.now.items c.args.i c.index-2.result.now c.in-Some.halved.left c.in-Some.halved.right c.requires.within c.index-2.ensures h c.requires.spread)

pub returns-in_ok-insert_part-in-Some-clause-items : goal.returns-in_ok-insert_part-in-Some-clause-items
returns-in_ok-insert_part-in-Some-clause-items g c =
    let h = subst (λ o. IfSome o (λ (h : _). IsHalved g.T.Numbered.number c.index-2.result.now h.left h.right)) c.in-Some.is c.in_ok-in_halves.ensures in
    let e : c.insert_part.new.parts.items ≡ insert c.args.parts.now.items (suc c.args.i) c.in-Some.halved.right = c.in_ok-insert_part-in-Some.ensures.ok ∙ insert_next c.args.parts.now.items c.args.i c.in-Some.halved.right in
    ap (λ xs. all_items (set xs c.args.i c.in-Some.halved.left)) e ∙ halved_items g.T.Numbered.number c.args.parts.now.items c.args.i c.index-2.result.now c.in-Some.halved.left c.in-Some.halved.right c.requires.within c.index-2.ensures h

pub returns-in_ok-insert_part-in-Some-clause-starts : goal.returns-in_ok-insert_part-in-Some-clause-starts
returns-in_ok-insert_part-in-Some-clause-starts g c =
    let h = subst (λ o. IfSome o (λ (h : _). IsHalved g.T.Numbered.number c.index-2.result.now h.left h.right)) c.in-Some.is c.in_ok-in_halves.ensures in
    let e : c.insert_part.new.parts.items ≡ insert c.args.parts.now.items (suc c.args.i) c.in-Some.halved.right = c.in_ok-insert_part-in-Some.ensures.ok ∙ insert_next c.args.parts.now.items c.args.i c.in-Some.halved.right in
    λ k s. subst (λ xs. 0 < parts_to k (outlines g.T.Numbered.number (set xs c.args.i c.in-Some.halved.left))) (sym e) (halved_starts g.T.Numbered.number c.args.parts.now.items c.args.i c.index-2.result.now c.in-Some.halved.left c.in-Some.halved.right k c.requires.within c.index-2.ensures h.start s)
