use Rattle.std.proofs.Common.{◌≡◌, true, subst, sym}
use Rattle.std.specs.List.{list_any}
use Rattle.ep_shared_parts.specs.Mentions.{number_of_use, is_use, IsWith}
use Rattle.ep_shared_parts.proofs.Adding.{set_spread, adds_at, any_at, any_set, any_kept, any_more, any_new}
use Rattle.ep_shared_parts.proofs.Mentioning.{use_itself}
use Rattle.ep_shared_parts.proofs.uses.add.Goals as goal

pub returns-in-None-clause-noted : goal.returns-in-None-clause-noted
returns-in-None-clause-noted c =
    let h = subst (IsWith c.args.u.now c.index.result.now) c.in-None.is c.in_ok-with_use.ensures in
    any_at (is_use c.args.u.now) c.args.parts.now.items c.args.i c.index.result.now c.requires.within c.index.ensures h

pub returns-in-Some-clause-spread : goal.returns-in-Some-clause-spread
returns-in-Some-clause-spread c =
    let h = subst (IsWith c.args.u.now c.index.result.now) c.in-Some.is c.in_ok-with_use.ensures in
    set_spread number_of_use c.args.parts.now.items c.args.i c.index.result.now c.in-Some.part (number_of_use c.args.u.now) c.requires.there c.index.ensures h.start (adds_at number_of_use c.args.u.now c.index.result.now.items.value.items c.in-Some.part.items.value.items h.at h.items) c.requires.spread

pub returns-in-Some-clause-keeps : goal.returns-in-Some-clause-keeps
returns-in-Some-clause-keeps c = λ v n.
    let h = subst (IsWith c.args.u.now c.index.result.now) c.in-Some.is c.in_ok-with_use.ensures in
    any_kept (is_use v) c.args.parts.now.items c.args.i c.index.result.now c.in-Some.part c.index.ensures (λ k. subst (λ xs. list_any (is_use v) xs ≡ true) (sym h.items) (any_more (is_use v) c.index.result.now.items.value.items h.at c.args.u.now k)) n

pub returns-in-Some-clause-noted : goal.returns-in-Some-clause-noted
returns-in-Some-clause-noted c =
    let h = subst (IsWith c.args.u.now c.index.result.now) c.in-Some.is c.in_ok-with_use.ensures in
    any_set (is_use c.args.u.now) c.args.parts.now.items c.args.i c.in-Some.part c.requires.within (subst (λ xs. list_any (is_use c.args.u.now) xs ≡ true) (sym h.items) (any_new (is_use c.args.u.now) c.index.result.now.items.value.items h.at c.args.u.now (use_itself c.args.u.now)))
