use Rattle.std.proofs.Common.{◌∙◌, ap, List, ℕ}
use Rattle.ep_typing.specs.Env.{entry}
use Rattle.ep_scopes.specs.View.{scopes}
use Rattle.ep_declared.proofs.TagLemmas.{here_is}
use Rattle.ep_declared.proofs.tags.declare_tag.Goals as goal

pub declare_tag-requires : goal.declare_tag-requires
declare_tag-requires c =
    ap (λ (es : List (List ℕ × ℕ)). entry c.args.tag.now es) (here_is (scopes c.args.env.now.scopes)) ∙ c.requires
