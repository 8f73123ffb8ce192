use Rattle.std.proofs.Common.{◌≡◌, ◌∙◌, ◌++◌, ◌∷◌, [], ℕ, List, ap, map, None}
use Rattle.ep_ast.specs.Cut.{constant}
use Rattle.ep_lexer.proofs.Tables.{entry, added}
use Rattle.ep_lexer.proofs.definitions.Definitions.add.Goals as goal

pub returns : goal.returns
returns c =
    let h : constant (map entry c.args.self.now.table.entries) c.in_ok-text.text.items ≡ None =
    rw c.in_ok-text.ensures.items c.requires in
    ap (map entry) c.in_ok-insert.ensures.entries ∙ added c.in_ok-text.text c.args.value c.args.self.now.table.entries h
    ∙ ap (λ (t : List ℕ). map entry c.args.self.now.table.entries ++ (t, c.args.value) ∷ []) c.in_ok-text.ensures.items
