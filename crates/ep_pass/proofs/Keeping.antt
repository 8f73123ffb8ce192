-- The laws of operations on memories, told of whole machines whose memories fit.
use Rattle.std.proofs.Common.{◌≡◌, ℕ, true, List, refl, Option, Some, None}
use Rattle.ep_int.specs.declared.types.Order.{Order}
use Rattle.ep_int.specs.Memory.{Memory}
use Rattle.ep_core.specs.Program.{Program}
use Rattle.ep_core.specs.Exec.{State, Way, Outcome, without}
use Rattle.ep_core.specs.Runs.{Side, left, right, start}
use Rattle.ep_core.specs.WellFormed.{is_well_formed}
use Rattle.ep_core.specs.Typed.{StateFits, OutcomeFits}
use Rattle.ep_core.proofs.Bytes.{initial_bytes}
use Rattle.ep_core.proofs.Operands.{first_values_fit}
use Rattle.ep_pass.specs.States.{Both, One, StateOps}
use Rattle.ep_pass.specs.Laws.{ConcretisesTyped, ConcretisesTypedBeside, Lawful}
use Rattle.ep_pass.specs.Laws.{Reaches as StandsAt, ReachesBeside as StandsBeside, Meets as Goes, meet, meet_starved}
use Rattle.ep_pass.specs.Laws.{MeetsAlone as GoesAlone, meet_alone}
use Rattle.ep_pass.proofs.Fitting.{without_fits, does_fits, passes_fit, result_fits}
use Rattle.ep_pass.proofs.Sure.{told, Reaches, Seen, Beside, Meets, meet_on, meet_none, MeetsAlone, meet_one, Sure}

module _ (p : Program) {S : Type 0} (In : S → Memory → Memory → Type 0) where
  abbrev K : S → State → State → Type 0
  K = ConcretisesTyped p In

  to_beside : (m : Side) (s : S) (x y : State) → Seen K m s x y → ConcretisesTypedBeside p In m s x y
  to_beside left s x y k = k
  to_beside right s x y k = k

  own_fits : (m : Side) (s : S) (x y : State) → Seen K m s x y → StateFits p x
  own_fits left s x y k = k.left_fits
  own_fits right s x y k = k.right_fits

  other_fits : (m : Side) (s : S) (x y : State) → Seen K m s x y → StateFits p y
  other_fits left s x y k = k.right_fits
  other_fits right s x y k = k.left_fits

  reached : (u : Option S) (x y : State) → StateFits p x → StateFits p y → StandsAt p In u x y → Reaches K u x y
  reached None x y f g i = absurd i
  reached (Some s) x y f g i = record { stands = i; left_fits = f; right_fits = g }

  beside : (m : Side) (u : Option S) (x y : State) → StateFits p x → StateFits p y → StandsBeside p In m u x y
      → Beside K m u x y
  beside left u x y f g i = reached u x y f g i
  beside right u x y f g i = reached u y x g f i

  met : (k : Way) (u : Option S) (n m : ℕ) (c d : Outcome) → OutcomeFits p c → OutcomeFits p d → Goes p In k u n m c d
      → Meets K k u n m c d
  met k u n m c d f g (meet {x} {y} i) = meet_on (reached u x y f g i)
  met k u n m c d f g (meet_starved {x} {y} e) = meet_none e

  met_alone : (i : Side) (k : Way) (u : Option S) (n : ℕ) (y : State) (c : Outcome) → OutcomeFits p c → StateFits p y
      → GoesAlone p In i k u n y c → MeetsAlone K i k u n y c
  met_alone i k u n y c f g (meet_alone {x} j) = meet_one (beside i u x y f g j)

  -- with other memories
  moved : (s t : S) (x y : State) (m k : Memory) → In t m k → StateFits p (record x { memory = m })
      → StateFits p (record y { memory = k }) → K s x y → K t (record x { memory = m }) (record y { memory = k })
  moved s t x y m k i f g h = record {
    stands = record { memories = i; inputs = h.stands.inputs; outputs = h.stands.outputs };
    left_fits = f;
    right_fits = g;
  }

  -- with another state, of the same memories
  stays : (s t : S) (x y : State) → (In s x.memory y.memory → In t x.memory y.memory) → K s x y → K t x y
  stays s t x y i h = record {
    stands = record { memories = i h.stands.memories; inputs = h.stands.inputs; outputs = h.stands.outputs };
    left_fits = h.left_fits;
    right_fits = h.right_fits;
  }

  retold : (s : S) (x y : State) → K s x y → (t j t' j' : List ℕ) → K s (told t j x) (told t' j' y)
  retold s x y h t j t' j' = record {
    stands = record { memories = h.stands.memories; inputs = h.stands.inputs; outputs = h.stands.outputs };
    left_fits = record { memory = h.left_fits.memory; outputs = h.left_fits.outputs };
    right_fits = record { memory = h.right_fits.memory; outputs = h.right_fits.outputs };
  }

module _ (p : Program) (formed : is_well_formed p ≡ true) (ord : Side → Order) {S : Type 0} (o : StateOps S)
    (In : S → Memory → Memory → Type 0) (law : Lawful p ord o In) where
  enters : (i : Side) (bs : List ℕ) (s : S) (x y : State) → Seen (ConcretisesTyped p In) i s x y
      → Seen (ConcretisesTyped p In) i (o.enter (One i) bs s) (without bs x) y
  enters left bs s x y h =
      moved p In s (o.enter (One left) bs s) x y (without bs x).memory y.memory
      (law.enter_alone left bs s x.memory y.memory h.stands.memories) (without_fits p bs x h.left_fits) h.right_fits h
  enters right bs s x y h =
      moved p In s (o.enter (One right) bs s) y x y.memory (without bs x).memory
      (law.enter_alone right bs s x.memory y.memory h.stands.memories) h.left_fits (without_fits p bs x h.right_fits) h

  quits : (i : Side) (bs : List ℕ) (s : S) (x y : State) → Seen (ConcretisesTyped p In) i s x y
      → Seen (ConcretisesTyped p In) i (o.leave (One i) bs s) (without bs x) y
  quits left bs s x y h =
      moved p In s (o.leave (One left) bs s) x y (without bs x).memory y.memory
      (law.leave_alone left bs s x.memory y.memory h.stands.memories) (without_fits p bs x h.left_fits) h.right_fits h
  quits right bs s x y h =
      moved p In s (o.leave (One right) bs s) y x y.memory (without bs x).memory
      (law.leave_alone right bs s x.memory y.memory h.stands.memories) h.left_fits (without_fits p bs x h.right_fits) h

  pub sure : Sure p ord o (ConcretisesTyped p In)
  sure = record {
    same_outputs = λ s x y h. h.stands.outputs;
    retold = λ s x y h t j t' j'. retold p In s x y h t j t' j';
    simple_sound = λ here f e w seen fits l n m s x y h q. met p In _ _ n m _ _
        (does_fits p (ord left) formed here f e w seen fits l n x h.left_fits)
        (does_fits p (ord right) formed here f e w seen fits l m y h.right_fits)
        (law.simple_sound here f e w seen fits l n m s x y h q);
    simple_alone = λ i here f e w seen fits l n s x y h q. met_alone p In i _ _ n y _
        (does_fits p (ord i) formed here f e w seen fits l n x (own_fits p In i s x y h)) (other_fits p In i s x y h)
        (law.simple_alone i here f e w seen fits l n s x y (to_beside p In i s x y h) q);
    test_sound = λ e t s x y h q. law.test_sound e t.seen t.fits s x y h q;
    test_alone = λ i e t s x y h q. law.test_alone i e t.seen t.fits s x y (to_beside p In i s x y h) q;
    assume_in = λ e t a b s x y h q c d. reached p In (o.assume e a b s) x y h.left_fits h.right_fits
        (law.assume_in e t.seen t.fits a b s x y h q c d);
    assume_alone = λ i e t a s x y h q c. beside p In i (o.assume_one i e a s) x y (own_fits p In i s x y h)
        (other_fits p In i s x y h) (law.assume_alone i e t.seen t.fits a s x y (to_beside p In i s x y h) q c);
    arguments_sound = λ k f e es seen fits l n m s x y h q. met p In _ _ n m _ _
        (passes_fit p (ord left) formed k f e es seen fits l n x h.left_fits)
        (passes_fit p (ord right) formed k f e es seen fits l m y h.right_fits)
        (law.arguments_sound k f e es seen fits l n m s x y h q);
    arguments_alone = λ i k f e es seen fits l n s x y h q. met_alone p In i _ _ n y _
        (passes_fit p (ord i) formed k f e es seen fits l n x (own_fits p In i s x y h)) (other_fits p In i s x y h)
        (law.arguments_alone i k f e es seen fits l n s x y (to_beside p In i s x y h) q);
    result_sound = λ k f e d seen fits l n m s x y h q. met p In _ _ n m _ _
        (result_fits p (ord left) formed k f e d seen fits l n x h.left_fits)
        (result_fits p (ord right) formed k f e d seen fits l m y h.right_fits)
        (law.result_sound k f e d seen fits l n m s x y h q);
    result_alone = λ i k f e d seen fits l n s x y h q. met_alone p In i _ _ n y _
        (result_fits p (ord i) formed k f e d seen fits l n x (own_fits p In i s x y h)) (other_fits p In i s x y h)
        (law.result_alone i k f e d seen fits l n s x y (to_beside p In i s x y h) q);
    enter_in = λ bs s x y h. moved p In s (o.enter Both bs s) x y (without bs x).memory (without bs y).memory
        (law.enter_in bs s x.memory y.memory h.stands.memories) (without_fits p bs x h.left_fits)
        (without_fits p bs y h.right_fits) h;
    leave_in = λ bs s x y h. moved p In s (o.leave Both bs s) x y (without bs x).memory (without bs y).memory
        (law.leave_in bs s x.memory y.memory h.stands.memories) (without_fits p bs x h.left_fits)
        (without_fits p bs y h.right_fits) h;
    enter_alone = λ i bs s x y h. enters i bs s x y h;
    leave_alone = λ i bs s x y h. quits i bs s x y h;
    unified_left = λ s t x y h. stays p In s (o.unified s t).0 x y (law.unified_left s t x.memory y.memory) h;
    unified_right = λ s t x y h. stays p In t (o.unified s t).1 x y (law.unified_right s t x.memory y.memory) h;
    joined_left = λ s t x y h. stays p In s (o.joined s t) x y (law.joined_left s t x.memory y.memory) h;
    joined_right = λ s t x y h. stays p In t (o.joined s t) x y (law.joined_right s t x.memory y.memory) h;
    widened_left = λ s t x y h. stays p In s (o.widened s t) x y (law.widened_left s t x.memory y.memory) h;
    leq_in = λ s t x y e h. stays p In s t x y (law.leq_in s t x.memory y.memory e) h;
    reshared_in = λ s x y h. stays p In s (o.reshared s) x y (law.reshared_in s x.memory y.memory) h;
    empty_in = λ s x y h. stays p In s o.empty x y (λ i. law.empty_in x.memory y.memory) h;
  }

  pub start_in : (inputs : List ℕ) → ConcretisesTyped p In o.entry (start (ord left) p inputs) (start (ord right) p inputs)
  start_in inputs = record {
    stands = record { memories = law.entry_in; inputs = refl; outputs = refl };
    left_fits = record { memory = initial_bytes p (ord left) (first_values_fit p formed); outputs = tt };
    right_fits = record { memory = initial_bytes p (ord right) (first_values_fit p formed); outputs = tt };
  }
