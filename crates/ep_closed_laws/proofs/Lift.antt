-- Laws over memories give laws over machines.
use Rattle.std.proofs.Common.{◌≡◌, ℕ, refl, sym, ◌∙◌, subst, Option, Some, None, true}
use Rattle.ep_int.specs.declared.types.Order.{Order}
use Rattle.ep_int.specs.Memory.{Memory}
use Rattle.ep_core.specs.Program.{Program}
use Rattle.ep_core.specs.Exec.{State, Way, on, Outcome, leaves, running, no_input, undefined_at, uncounted, without}
use Rattle.ep_core.specs.Exec.{does, received}
use Rattle.ep_core.specs.Runs.{Side, left, right}
use Rattle.ep_core.specs.Typed.{StateFits, OutcomeFits}
use Rattle.ep_core.specs.WellFormed.{is_well_formed}
use Rattle.ep_core.proofs.Bytes.{initial_bytes}
use Rattle.ep_core.proofs.Operands.{first_values_fit}
use Rattle.ep_core.proofs.Grows.{Grows, does_grows, received_grows}
use Rattle.ep_pass.specs.States.{Both, One, Transfer, StateOps}
use Rattle.ep_pass.specs.Laws.{passes}
use Rattle.ep_pass.specs.Pass.{way_of}
use Rattle.ep_pass.proofs.Fitting.{without_fits, does_fits, passes_fit, result_fits}
use Rattle.ep_closed_laws.specs.Exactly.{IsThere, IfLeft, IfBothLeft, TransferIsExact, SeenFrom, Exactly}
use Rattle.ep_closed_laws.specs.Closely.{ConcretisesOneTyped, ConcretisesOneBeside, Closely}
use Rattle.ep_closed_laws.proofs.GrowsIn.{AddsIfLeft, does_adds, passes_adds, received_adds}
use Rattle.ep_closed_laws.proofs.Silent.{silent, stays_out, passes_grow}
use Rattle.ep_closed_laws.proofs.Inside.{Inside, typed_in, seen_in, beside_in, truth_in, over_in, beside_out, alone_out}
use Rattle.ep_closed_laws.proofs.Inside.{both_out, killed_out, killed_both}
use Rattle.ep_single_restricted.specs.Restricted.{restricted, restricted_state}
use Rattle.ep_single_restricted.proofs.Runs.{is_restricted}

module _ (p : Program) {S : Type 0} (ConcretisesOne : S → Memory → Memory → Type 0) where
  abbrev K : S → State → State → Type 0
  K = ConcretisesOneTyped p ConcretisesOne

  there_more : (P Q : S → Type 0) → ((s : S) → P s → Q s) → (u : Option S) → IsThere P u → IsThere Q u
  there_more P Q f None h = absurd h
  there_more P Q f (Some s) h = f s h

  gives_more : (P Q : S → Type 0) → ((s : S) → P s → Q s) → (g : Transfer S) → TransferIsExact P g → TransferIsExact Q g
  gives_more P Q f g h = record { faults = h.faults; next = there_more P Q f g.next h.next }

  own_fits : (i : Side) (s : S) (x y : State) → SeenFrom K i s x y → StateFits p x
  own_fits left s x y h = h.left_fits
  own_fits right s x y h = h.right_fits

  moved_alone : (i : Side) (s t : S) (x r y : State) → SeenFrom K i s x y → r.outputs ≡ x.outputs → StateFits p r
      → ConcretisesOneBeside ConcretisesOne i t r.memory y.memory → SeenFrom K i t r y
  moved_alone left s t x r y h e f m =
      record { memories = m; outputs = e ∙ h.outputs; left_fits = f; right_fits = h.right_fits }
  moved_alone right s t x r y h e f m =
      record { memories = m; outputs = h.outputs ∙ sym e; left_fits = h.left_fits; right_fits = f }

  alone_lift : (i : Side) (k : Way) (g : Transfer S) (s : S) (x y : State) (n : ℕ) (c : Outcome) → SeenFrom K i s x y
      → AddsIfLeft 0 x c → Grows x n c → OutcomeFits p c
      → IfLeft k (λ r. TransferIsExact (λ t. ConcretisesOneBeside ConcretisesOne i t r.memory y.memory) g) c
      → IfLeft k (λ r. TransferIsExact (λ t. SeenFrom K i t r y) g) c
  alone_lift i k g s x y n (leaves j m r) h a b f z = (
    z.0,
    gives_more (λ t. ConcretisesOneBeside ConcretisesOne i t r.memory y.memory) (λ t. SeenFrom K i t r y)
        (λ t v. moved_alone i s t x r y h (stays_out x r n m b a) f v) g z.1,
  )
  alone_lift i k g s x y n (running r) h a b f z = tt
  alone_lift i k g s x y n (no_input r) h a b f z = tt
  alone_lift i k g s x y n (undefined_at l j r) h a b f z = tt

  both_lift : (k : Way) (g : Transfer S) (c d : Outcome) → OutcomeFits p c → OutcomeFits p d
      → IfBothLeft k (λ x y. x.outputs ≡ y.outputs → TransferIsExact (λ t. ConcretisesOne t x.memory y.memory) g) c d
      → IfBothLeft k (λ x y. x.outputs ≡ y.outputs → TransferIsExact (λ t. K t x y) g) c d
  both_lift k g (leaves j n x) (leaves v m y) f h z = (
    z.0,
    (
      z.1.0,
      λ e. gives_more (λ t. ConcretisesOne t x.memory y.memory) (λ t. K t x y)
          (λ t i. record { memories = i; outputs = e; left_fits = f; right_fits = h }) g (z.1.1 e),
    ),
  )
  both_lift k g (leaves j n x) (running y) f h z = z
  both_lift k g (leaves j n x) (no_input y) f h z = z
  both_lift k g (leaves j n x) (undefined_at l e y) f h z = z
  both_lift k g (running x) d f h z = tt
  both_lift k g (no_input x) d f h z = tt
  both_lift k g (undefined_at l e x) d f h z = tt

  same_alone : (i : Side) (s t : S) (x y : State) → SeenFrom K i s x y → ConcretisesOneBeside ConcretisesOne i t x.memory y.memory
      → SeenFrom K i t x y
  same_alone left s t x y h m =
      record { memories = m; outputs = h.outputs; left_fits = h.left_fits; right_fits = h.right_fits }
  same_alone right s t x y h m =
      record { memories = m; outputs = h.outputs; left_fits = h.left_fits; right_fits = h.right_fits }

  beside_of : (i : Side) (s : S) (x y : State) → SeenFrom K i s x y → ConcretisesOneBeside ConcretisesOne i s x.memory y.memory
  beside_of left s x y h = h.memories
  beside_of right s x y h = h.memories

pub exactly : (p : Program) → is_well_formed p ≡ true → (ord : Side → Order) {S : Type 0} (o : StateOps S)
    (C : S → Memory → Memory → Type 0) → Closely p ord o C → Exactly p ord o (ConcretisesOneTyped p (Inside p C))
exactly p formed ord o C law = record {
  entry = λ inputs. record {
    memories = law.entry;
    outputs = refl;
    left_fits = record { memory = initial_bytes p (ord left) (first_values_fit p formed); outputs = tt };
    right_fits = record { memory = initial_bytes p (ord right) (first_values_fit p formed); outputs = tt };
  };
  same_outputs = λ s x y h. h.outputs;
  tests_free = λ s x y h t j t' j'. record {
    memories = h.memories;
    outputs = h.outputs;
    left_fits = record { memory = h.left_fits.memory; outputs = h.left_fits.outputs };
    right_fits = record { memory = h.right_fits.memory; outputs = h.right_fits.outputs };
  };
  simple_alone = λ i here f at w seen fits talks l n s x y h. alone_lift p (Inside p C) i (way_of w)
      (o.simple (One i) f.result w s) s x y n (does (ord i) p uncounted f.result w l n x) h
      (subst (λ k. AddsIfLeft k x (does (ord i) p uncounted f.result w l n x)) (silent w talks)
      (does_adds (ord i) p f.result w l n x)) (does_grows (ord i) p uncounted f.result w l n x)
      (does_fits p (ord i) formed here f at w seen fits l n x (own_fits p (Inside p C) i s x y h))
      (alone_out p C i (way_of w) (o.simple (One i) f.result w s) y (does (ord i) p uncounted f.result w l n x)
      (does (ord i) p uncounted f.result w l n (restricted_state p x))
      ((is_restricted (ord i) p).statements uncounted f.result w l n x)
      (law.simple_alone i here f at w seen fits talks l n s (restricted_state p x) (restricted_state p y) (seen_in p C i s x y h)));
  test_alone = λ i e seen typed t s x y h a. law.test_alone i e seen typed t s (restricted_state p x) (restricted_state p y)
      (seen_in p C i s x y h) (truth_in p C (ord i) e x.memory t a);
  assume_alone = λ i e seen typed t s x y h a. (let z = law.assume_alone i e seen typed t s (restricted_state p x) (restricted_state p y)
      (seen_in p C i s x y h) (truth_in p C (ord i) e x.memory t a) in (
        there_more p (Inside p C) (λ r. ConcretisesOneBeside (Inside p C) i r x.memory y.memory)
            (λ r. SeenFrom (ConcretisesOneTyped p (Inside p C)) i r x y)
            (λ r m. same_alone p (Inside p C) i s r x y h m) (o.assume_one i e t s)
            (beside_out p C i x.memory y.memory (o.assume_one i e t s) z.0),
        z.1,
      ));
  arguments_alone = λ i k f at es seen fits l n s x y h. alone_lift p (Inside p C) i on (o.arguments (One i) f es s) s x
      y n (passes (ord i) p f es l n x) h (passes_adds (ord i) p f es l n x) (passes_grow p (ord i) f es l n x)
      (passes_fit p (ord i) formed k f at es seen fits l n x (own_fits p (Inside p C) i s x y h))
      (alone_out p C i on (o.arguments (One i) f es s) y (passes (ord i) p f es l n x)
      (passes (ord i) p f es l n (restricted_state p x)) ((is_restricted (ord i) p).arguments f es l n x)
      (law.arguments_alone i k f at es seen fits l n s (restricted_state p x) (restricted_state p y) (seen_in p C i s x y h)));
  result_alone = λ i k f at d seen takes l n s x y h. alone_lift p (Inside p C) i on (o.result (One i) f d s) s x y n
      (received (ord i) p f.result d l n x) h (received_adds (ord i) p f.result d l n x)
      (received_grows (ord i) p f.result d l n x)
      (result_fits p (ord i) formed k f at d seen takes l n x (own_fits p (Inside p C) i s x y h))
      (alone_out p C i on (o.result (One i) f d s) y (received (ord i) p f.result d l n x)
      (received (ord i) p f.result d l n (restricted_state p x)) ((is_restricted (ord i) p).results f.result d l n x)
      (law.result_alone i k f at d seen takes l n s (restricted_state p x) (restricted_state p y) (seen_in p C i s x y h)));
  enter_alone = λ i bs s x y h. moved_alone p (Inside p C) i s (o.enter (One i) bs s) x (without bs x) y h refl
      (without_fits p bs x (own_fits p (Inside p C) i s x y h))
      (killed_out p C (ord i) i (o.enter (One i) bs s) bs x.memory y.memory
      (law.enter_alone i bs s (restricted p x.memory) (restricted p y.memory)
      (beside_in p C i s x.memory y.memory (beside_of p (Inside p C) i s x y h))));
  leave_alone = λ i bs s x y h. moved_alone p (Inside p C) i s (o.leave (One i) bs s) x (without bs x) y h refl
      (without_fits p bs x (own_fits p (Inside p C) i s x y h))
      (killed_out p C (ord i) i (o.leave (One i) bs s) bs x.memory y.memory
      (law.leave_alone i bs s (restricted p x.memory) (restricted p y.memory)
      (beside_in p C i s x.memory y.memory (beside_of p (Inside p C) i s x y h))));
  simple_both = λ here f at w seen fits talks l n m s x y h. both_lift p (Inside p C) (way_of w)
      (o.simple Both f.result w s) (does (ord left) p uncounted f.result w l n x)
      (does (ord right) p uncounted f.result w l m y)
      (does_fits p (ord left) formed here f at w seen fits l n x h.left_fits)
      (does_fits p (ord right) formed here f at w seen fits l m y h.right_fits)
      (both_out p C (way_of w) (o.simple Both f.result w s) (does (ord left) p uncounted f.result w l n x)
      (does (ord right) p uncounted f.result w l m y) (does (ord left) p uncounted f.result w l n (restricted_state p x))
      (does (ord right) p uncounted f.result w l m (restricted_state p y))
      ((is_restricted (ord left) p).statements uncounted f.result w l n x)
      ((is_restricted (ord right) p).statements uncounted f.result w l m y)
      (law.simple_both here f at w seen fits talks l n m s (restricted_state p x) (restricted_state p y) (typed_in p C s x y h)));
  test_both = λ e seen typed t v s x y h a b. law.test_both e seen typed t v s (restricted_state p x) (restricted_state p y)
      (typed_in p C s x y h) (truth_in p C (ord left) e x.memory t a) (truth_in p C (ord right) e y.memory v b);
  assume_both = λ e seen typed t v s x y h a b. (let z = law.assume_both e seen typed t v s (restricted_state p x) (restricted_state p y)
      (typed_in p C s x y h) (truth_in p C (ord left) e x.memory t a) (truth_in p C (ord right) e y.memory v b) in (
        there_more p (Inside p C) (λ r. Inside p C r x.memory y.memory)
            (λ r. ConcretisesOneTyped p (Inside p C) r x y) (λ r m. same_alone p (Inside p C) left s r x y h m)
            (o.assume e t v s) z.0,
        z.1,
      ));
  arguments_both = λ k f at es seen fits l n m s x y h. both_lift p (Inside p C) on (o.arguments Both f es s)
      (passes (ord left) p f es l n x) (passes (ord right) p f es l m y)
      (passes_fit p (ord left) formed k f at es seen fits l n x h.left_fits)
      (passes_fit p (ord right) formed k f at es seen fits l m y h.right_fits)
      (both_out p C on (o.arguments Both f es s) (passes (ord left) p f es l n x) (passes (ord right) p f es l m y)
      (passes (ord left) p f es l n (restricted_state p x)) (passes (ord right) p f es l m (restricted_state p y))
      ((is_restricted (ord left) p).arguments f es l n x) ((is_restricted (ord right) p).arguments f es l m y)
      (law.arguments_both k f at es seen fits l n m s (restricted_state p x) (restricted_state p y) (typed_in p C s x y h)));
  result_both = λ k f at d seen takes l n m s x y h. both_lift p (Inside p C) on (o.result Both f d s)
      (received (ord left) p f.result d l n x) (received (ord right) p f.result d l m y)
      (result_fits p (ord left) formed k f at d seen takes l n x h.left_fits)
      (result_fits p (ord right) formed k f at d seen takes l m y h.right_fits)
      (both_out p C on (o.result Both f d s) (received (ord left) p f.result d l n x)
      (received (ord right) p f.result d l m y) (received (ord left) p f.result d l n (restricted_state p x))
      (received (ord right) p f.result d l m (restricted_state p y)) ((is_restricted (ord left) p).results f.result d l n x)
      ((is_restricted (ord right) p).results f.result d l m y)
      (law.result_both k f at d seen takes l n m s (restricted_state p x) (restricted_state p y) (typed_in p C s x y h)));
  enter_both = λ bs s x y h. record {
    memories = killed_both p C (ord left) (o.enter Both bs s) bs x.memory y.memory
        (law.enter_both bs s (restricted p x.memory) (restricted p y.memory) h.memories);
    outputs = h.outputs;
    left_fits = without_fits p bs x h.left_fits;
    right_fits = without_fits p bs y h.right_fits;
  };
  leave_both = λ bs s x y h. record {
    memories = killed_both p C (ord left) (o.leave Both bs s) bs x.memory y.memory
        (law.leave_both bs s (restricted p x.memory) (restricted p y.memory) h.memories);
    outputs = h.outputs;
    left_fits = without_fits p bs x h.left_fits;
    right_fits = without_fits p bs y h.right_fits;
  };
  reshared = λ s x y h. record {
    memories = law.reshared s (restricted p x.memory) (restricted p y.memory) h.memories;
    outputs = h.outputs;
    left_fits = h.left_fits;
    right_fits = h.right_fits;
  };
  ended = λ f at s x y h z. law.ended f at s (restricted_state p x) (restricted_state p y) (typed_in p C s x y h)
      (over_in p C (ord left) (ord right) f.result f.line x y z);
}
