-- What the code makes of declarations, seen as what the definitions speak of.
use Rattle.std.specs.Prelude.{map}
use Rattle.ep_core.specs.View.{init_view}
use Rattle.ep_elaboration.specs.Declarations as rule
use Rattle.ep_typer_declarations.specs.declared.made.Made.{Made}
pub use Rattle.ep_declared.specs.View.{line}

abbrev pub made : Made → rule.Made
made m = record { lines = map line m.lines.items; values = map init_view m.values.items }
