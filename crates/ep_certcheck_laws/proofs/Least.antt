-- Where of each statement's faults the least alone is kept, the operations keep their laws.
use Rattle.std.proofs.Common.{◌≡◌, List, [], ◌∷◌, refl}
use Rattle.ep_int.specs.declared.types.Order.{Order}
use Rattle.ep_int.specs.Memory.{Memory}
use Rattle.ep_core.specs.Program.{Program}
use Rattle.ep_core.specs.Runs.{Side}
use Rattle.ep_pass.specs.States.{Fault, StateOps}
use Rattle.ep_pass.specs.Laws.{Lawful}
use Rattle.ep_certcheck_laws.specs.Checked.{least, with_least_faults}

-- of no faults alone none is the least
least_none : (fs : List Fault) → least fs ≡ [] → fs ≡ []
least_none [] e = refl
least_none (f ∷ fs) e = absurd cc

pub least_lawful : (p : Program) (ord : Side → Order) → {S : Type 0} → (o : StateOps S) → (In : S → Memory → Memory → Type 0)
    → Lawful p ord o In → Lawful p ord (with_least_faults o) In
least_lawful p ord o In law = record {
  entry_in = law.entry_in;
  simple_sound = λ here f e w seen fits l n m s x y h q.
      law.simple_sound here f e w seen fits l n m s x y h (least_none _ q);
  simple_alone = λ i here f e w seen fits l n s x y h q.
      law.simple_alone i here f e w seen fits l n s x y h (least_none _ q);
  test_sound = λ e seen fits s x y h q. law.test_sound e seen fits s x y h (least_none _ q);
  test_alone = λ i e seen fits s x y h q. law.test_alone i e seen fits s x y h (least_none _ q);
  assume_in = λ e seen fits t u s x y h q. law.assume_in e seen fits t u s x y h (least_none _ q);
  assume_alone = λ i e seen fits t s x y h q. law.assume_alone i e seen fits t s x y h (least_none _ q);
  arguments_sound = λ k f e es seen fits l n m s x y h q.
      law.arguments_sound k f e es seen fits l n m s x y h (least_none _ q);
  arguments_alone = λ i k f e es seen fits l n s x y h q.
      law.arguments_alone i k f e es seen fits l n s x y h (least_none _ q);
  result_sound = λ k f e d seen fits l n m s x y h q.
      law.result_sound k f e d seen fits l n m s x y h (least_none _ q);
  result_alone = λ i k f e d seen fits l n s x y h q.
      law.result_alone i k f e d seen fits l n s x y h (least_none _ q);
  enter_in = law.enter_in;
  leave_in = law.leave_in;
  enter_alone = law.enter_alone;
  leave_alone = law.leave_alone;
  unified_left = law.unified_left;
  unified_right = law.unified_right;
  joined_left = law.joined_left;
  joined_right = law.joined_right;
  widened_left = law.widened_left;
  leq_in = law.leq_in;
  reshared_in = law.reshared_in;
  empty_in = law.empty_in;
  ended_sound = λ f e s x y h q. law.ended_sound f e s x y h (least_none _ q);
}
