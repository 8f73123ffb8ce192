-- What the code keeps of words, seen as what the definition speaks of.
use Rattle.std.specs.Prelude.{List, String, map, string_bytes}
use Rattle.ep_words.specs.Words as rule
use Rattle.ep_words.specs.declared.options.Options.{Options}
use Rattle.ep_words.specs.declared.command.CheckWords.{CheckWords}
use Rattle.ep_words.specs.declared.command.ProveWords.{ProveWords}
use Rattle.ep_words.specs.declared.command.RunWords.{RunWords}
use Rattle.ep_words.specs.declared.command.Command.{Command}
use Rattle.ep_words.specs.declared.command.Command.TheVariants as commands

abbrev pub options : Options → rule.Options
options o = record {
  order = o.order;
  steps = o.steps;
  model = o.model;
  unroll = o.unroll;
  orders = o.orders;
  known_bits = o.known_bits;
}

abbrev pub words : {A : Type 0} → List (String A) → List rule.Word
words ws = map string_bytes ws

abbrev pub checking : CheckWords → rule.Command
checking c = rule.check c.unroll c.orders c.model c.known_bits c.file.now

abbrev pub proving : ProveWords → rule.Command
proving p = rule.prove p.unroll p.orders p.model p.file.now

abbrev pub running : RunWords → rule.Command
running r = rule.run r.order r.steps r.model r.file.now (map rule.input (words r.inputs.now))

abbrev pub command : Command → rule.Command
command (commands.Check c) = checking c
command (commands.Layout model file) = rule.layout model file.now
command (commands.Run r) = running r
command (commands.Sample s) = rule.sample s.start s.fields
command (commands.Prove p) = proving p
command (commands.Verify file) = rule.verify file.now
