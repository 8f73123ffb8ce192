-- What a table answers, as what is answered of a source.
use Rattle.std.specs.Prelude.{ℕ}
use Rattle.ep_ast.specs.declared.refusals.Halt.{Halt}
use Rattle.ep_ast.specs.declared.refusals.Halt.TheVariants as halts
use Rattle.ep_layout.specs.declared.types.LayoutStop.{LayoutStop}
use Rattle.ep_layout.specs.declared.types.LayoutStop.TheVariants as stops
use Rattle.ep_elaboration.specs.Declarators.{stop_kind}

abbrev pub halted : (line : ℕ) → LayoutStop → Halt
halted l stops.Incomplete = halts.Refused (record { kind = stop_kind stops.Incomplete; line = l; word = 0 })
halted l stops.TooLarge = halts.Refused (record { kind = stop_kind stops.TooLarge; line = l; word = 0 })
halted l stops.Memory = halts.Memory
