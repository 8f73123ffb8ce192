use Rattle.std.proofs.Common.{◌∙◌, ◌≡◌, ap, sym, [], List, ℕ, Option, map}
use Rattle.std.proofs.lemmas.List.{nil_from_length}
use Rattle.std.specs.Global.{Vec}
use Rattle.std.specs.Option.{option_map}
use Rattle.ep_typing.specs.Env.{entry}
use Rattle.ep_scopes.specs.declared.scopes.Meaning.{Meaning}
use Rattle.ep_scopes.specs.View as view
use Rattle.ep_scopes.proofs.ScopeLemmas.{name_looks}
use Rattle.ep_scopes.proofs.scopes.Scope.name.Goals as goal

pub returns-then-is_empty : goal.returns-then-is_empty
returns-then-is_empty c =
    let none : c.args.self.now.names.entries ≡ [] =
    nil_from_length c.args.self.now.names.entries (c.is_empty.ensures.0 c.if-is_empty.true) in
    sym (ap (λ (es : List (Vec ℕ × Meaning)). entry c.args.name.now (map view.entry es)) none)

pub returns : goal.returns
returns c = ap (λ (o : Option Meaning). option_map view.meaning o) (c.copied.ensures ∙ c.get.ensures.value) ∙ name_looks c.args.name.now c.args.self.now.names.entries
