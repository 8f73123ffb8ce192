use Rattle.std.proofs.Common.{◌∙◌, ◌≡◌, ap, sym, [], List, ℕ, map}
use Rattle.std.proofs.lemmas.List.{nil_from_length}
use Rattle.std.specs.Global.{Vec}
use Rattle.ep_typing.specs.Env.{entry}
use Rattle.ep_scopes.specs.View as view
use Rattle.ep_scopes.proofs.ScopeLemmas.{row_looks}
use Rattle.ep_scopes.proofs.scopes.Scope.tag.Goals as goal

pub returns-then-is_empty : goal.returns-then-is_empty
returns-then-is_empty c =
    let none : c.args.self.now.tags.entries ≡ [] =
    nil_from_length c.args.self.now.tags.entries (c.is_empty.ensures.0 c.if-is_empty.true) in
    sym (ap (λ (es : List (Vec ℕ × ℕ)). entry c.args.tag.now (map view.tag es)) none)

pub returns : goal.returns
returns c = c.copied.ensures ∙ c.get.ensures.value ∙ row_looks c.args.tag.now c.args.self.now.tags.entries
