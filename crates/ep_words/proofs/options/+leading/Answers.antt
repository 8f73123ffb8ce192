use Rattle.std.proofs.Common.{rules, ◌≡◌, ◌∙◌, true, Some, string_bytes}
use Rattle.ep_words.specs.View as view
use Rattle.ep_words.specs.Words as rule
use Rattle.ep_words.proofs.Parted.{more_options}
use Rattle.ep_words.proofs.options.+leading.Goals as goal

pub returns-in-Some : goal.returns-in-Some
returns-in-Some t c =
    let b : rule.begins_as_option (string_bytes c.name-item.result) ≡ true = search rules in
    let w : Some (view.options c.in-Some.more)
    ≡ rule.with_option (view.options c.args.found) (string_bytes c.name-item.result) (string_bytes c.value-item.result)
    = search rules in
    c.leading.ensures ∙ more_options (view.options c.args.found) (view.options c.in-Some.more) c.args.words.now
    c.name-item.result c.value-item.result c.in-len2-up.len_at_least c.name-item.is c.value-item.is b w
