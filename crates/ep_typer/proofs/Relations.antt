-- From the answer of the definition to its relations.
use Rattle.std.proofs.Common.{◌≡◌, true, List, Ok}
use Rattle.ep_int.specs.declared.types.Model.{Model}
use Rattle.ep_ast.specs.declared.refusals.Refusal.{Refusal}
use Rattle.ep_ast.specs.declared.refusals.Halt.{Halt}
use Rattle.ep_ast.specs.declared.refusals.Halt.TheVariants as halts
use Rattle.ep_ast.specs.Refusal.{IfRefused}
use Rattle.ep_ast.specs.Statement.{Item}
use Rattle.ep_core.specs.Program.{Program}
use Rattle.ep_core.specs.WellFormed.{is_well_formed}
use Rattle.ep_elaboration.specs.ProgramSteps.{elaborated}
use Rattle.ep_elaboration.specs.ProgramRules.{MeansProgram}
use Rattle.ep_elaboration.specs.ProgramOffences.{ProgramOffends}
use Rattle.ep_elaboration.proofs.ProgramOrder.{means_elaborated, refused_elaborated}
use Rattle.ep_elaboration.proofs.Meanings.{one_meaning, not_both}
use Rattle.ep_operands.specs.Refinement.{Stops}
use Rattle.ep_well_formed_laws.proofs.Whole.{programs_fit}

pub meant : (m : Model) (is : List Item) (p : Program) → elaborated m is ≡ Ok p → MeansProgram m is p
meant m is p e = means_elaborated m is p e

pub fits : (m : Model) (is : List Item) (p : Program) → elaborated m is ≡ Ok p → is_well_formed p ≡ true
fits m is p e = programs_fit m is p (meant m is p e)

pub alone : (m : Model) (is : List Item) (p : Program) → elaborated m is ≡ Ok p → (q : Program) → MeansProgram m is q
    → q ≡ p
alone m is p e q h = one_meaning m is q p h (meant m is p e)

pub clear : (m : Model) (is : List Item) (p : Program) → elaborated m is ≡ Ok p → (r : Refusal)
    → ProgramOffends m is r → ⊥
clear m is p e r h = not_both m is p r (meant m is p e) h

pub offends : (m : Model) (is : List Item) (e : Halt) → Stops (elaborated m is) e
    → IfRefused e (ProgramOffends m is)
offends m is halts.Memory s = tt
offends m is (halts.Refused r) s = refused_elaborated m is r s

pub meaningless : (m : Model) (is : List Item) (e : Halt) → Stops (elaborated m is) e
    → IfRefused e (λ _. (p : Program) → MeansProgram m is p → ⊥)
meaningless m is halts.Memory s = tt
meaningless m is (halts.Refused r) s = λ p h. not_both m is p r h (refused_elaborated m is r s)
