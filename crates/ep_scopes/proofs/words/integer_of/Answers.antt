use Rattle.std.proofs.Common.{◌∙◌}
use Rattle.ep_scopes.proofs.WordLemmas.{integer_is}
use Rattle.ep_scopes.proofs.words.integer_of.Goals as goal

pub returns : goal.returns
returns c =
    c.picked.ensures
    ∙ integer_is c.args.model c.args.all.now _ _ _ _ c.is_any_unsigned-unsigned.ensures c.count_of-chars.ensures c.count_of-shorts.ensures c.count_of-longs.ensures
