-- What a test tells, as plain data.
use Rattle.ep_pass.specs.States.{Verdict, stuck, same, differs}
use Rattle.ep_eval_parts.specs.declared.verdicts.Verdict.{Verdict as Told}
use Rattle.ep_eval_parts.specs.declared.verdicts.Verdict.TheVariants.{Stuck, Same, Differs}

abbrev pub verdict_view : Told → Verdict
verdict_view Stuck = stuck
verdict_view Same = same
verdict_view Differs = differs
