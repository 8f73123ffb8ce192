-- A program means one core program at most, and either it means one or it offends.
use Rattle.std.proofs.Common.{◌≡◌, List, Result, Ok, Err, refl, ◌⊎◌, inl, inr}
use Rattle.ep_int.specs.declared.types.Model.{Model}
use Rattle.ep_ast.specs.declared.refusals.Refusal.{Refusal}
use Rattle.ep_ast.specs.Statement.{Item}
use Rattle.ep_core.specs.Program.{Program}
use Rattle.ep_elaboration.specs.ProgramSteps.{elaborated}
use Rattle.ep_elaboration.specs.ProgramRules.{MeansProgram}
use Rattle.ep_elaboration.specs.ProgramOffences.{ProgramOffends}
use Rattle.ep_elaboration.proofs.ProgramOrder.{means_elaborated, meant_elaborated, refused_elaborated}
use Rattle.ep_elaboration.proofs.ProgramOrder.{offended_elaborated}

same_answer : (t : Result Program Refusal) (p q : Program) → t ≡ Ok p → t ≡ Ok q → p ≡ q
same_answer t p q e f = cc

other_answer : (t : Result Program Refusal) (p : Program) (r : Refusal) → t ≡ Ok p → t ≡ Err r → ⊥
other_answer t p r e f = cc

pub one_meaning : (m : Model) (is : List Item) (p q : Program) → MeansProgram m is p → MeansProgram m is q → p ≡ q
one_meaning m is p q h k = same_answer (elaborated m is) p q (meant_elaborated h) (meant_elaborated k)

pub not_both : (m : Model) (is : List Item) (p : Program) (r : Refusal) → MeansProgram m is p → ProgramOffends m is r
    → ⊥
not_both m is p r h k = other_answer (elaborated m is) p r (meant_elaborated h) (offended_elaborated k)

answered : (m : Model) (is : List Item) (t : Result Program Refusal) → elaborated m is ≡ t
    → ((p : Program) × MeansProgram m is p) ⊎ ((r : Refusal) × ProgramOffends m is r)
answered m is (Ok p) h = inl (p, means_elaborated m is p h)
answered m is (Err r) h = inr (r, refused_elaborated m is r h)

pub one_of_both : (m : Model) (is : List Item)
    → ((p : Program) × MeansProgram m is p) ⊎ ((r : Refusal) × ProgramOffends m is r)
one_of_both m is = answered m is (elaborated m is) refl
