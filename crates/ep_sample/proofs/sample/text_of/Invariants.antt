use Rattle.std.proofs.Common.{◌≡◌, ◌++◌, ◌-◌}
use Rattle.ep_sample.specs.Sample.{fields_text, head_text}
use Rattle.ep_sample.proofs.sample.text_of.Given as goal

-- what is there and the fields that are left
abbrev pub invariant-loop : goal.invariant-loop
invariant-loop l =
    l.text.items ++ fields_text l.seed (l.fields - l.counter) ≡ head_text ++ fields_text l.start l.fields
