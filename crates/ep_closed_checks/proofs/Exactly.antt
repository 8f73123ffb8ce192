-- Operations that are exact stay so where of each statement's faults the least alone is kept.
use Rattle.std.proofs.Common.{◌≡◌, ap}
use Rattle.ep_int.specs.declared.types.Order.{Order}
use Rattle.ep_core.specs.Program.{Program}
use Rattle.ep_core.specs.Exec.{State, Way, on, Outcome, leaves, running, no_input, undefined_at, uncounted, does, received}
use Rattle.ep_core.specs.Runs.{Side, left, right}
use Rattle.ep_pass.specs.States.{Both, One, Transfer, StateOps}
use Rattle.ep_pass.specs.Laws.{passes}
use Rattle.ep_pass.specs.Pass.{way_of}
use Rattle.ep_closed_laws.specs.Exactly.{IfLeft, IfBothLeft, TransferIsExact, SeenFrom, Exactly}
use Rattle.ep_certcheck_laws.specs.Checked.{least, with_least, with_least_faults}

least_exact : {S : Type 0} → (P : S → Type 0) → (g : Transfer S) → TransferIsExact P g
    → TransferIsExact P (with_least g)
least_exact P g h = record { faults = ap least h.faults; next = h.next }

left_more : (k : Way) (Q R : State → Type 0) → ((x : State) → Q x → R x) → (c : Outcome) → IfLeft k Q c → IfLeft k R c
left_more k Q R f (leaves w n x) h = (h.0, f x h.1)
left_more k Q R f (running x) h = tt
left_more k Q R f (no_input x) h = tt
left_more k Q R f (undefined_at l j x) h = tt

both_more : (k : Way) (Q R : State → State → Type 0) → ((x y : State) → Q x y → R x y) → (c d : Outcome)
    → IfBothLeft k Q c d → IfBothLeft k R c d
both_more k Q R f c d h =
    left_more k (λ x. IfLeft k (λ y. Q x y) d) (λ x. IfLeft k (λ y. R x y) d)
    (λ x i. left_more k (λ y. Q x y) (λ y. R x y) (λ y j. f x y j) d i) c h

pub least_exactly : (p : Program) (ord : Side → Order) → {S : Type 0} → (o : StateOps S)
    → (K : S → State → State → Type 0) → Exactly p ord o K → Exactly p ord (with_least_faults o) K
least_exactly p ord o K law = record {
  entry = law.entry;
  same_outputs = law.same_outputs;
  tests_free = law.tests_free;
  simple_alone = λ m here f at w seen fits quiet l n s x y h.
      left_more (way_of w) (λ x'. TransferIsExact (λ t. SeenFrom K m t x' y) (o.simple (One m) f.result w s))
      (λ x'. TransferIsExact (λ t. SeenFrom K m t x' y) (with_least (o.simple (One m) f.result w s)))
      (λ x' i. least_exact (λ t. SeenFrom K m t x' y) (o.simple (One m) f.result w s) i)
      (does (ord m) p uncounted f.result w l n x)
      (law.simple_alone m here f at w seen fits quiet l n s x y h);
  test_alone = λ m e seen fits t s x y h i. (let z = law.test_alone m e seen fits t s x y h i in (ap least z.0, z.1));
  assume_alone = law.assume_alone;
  arguments_alone = λ m k f at es seen fits l n s x y h.
      left_more on (λ x'. TransferIsExact (λ t. SeenFrom K m t x' y) (o.arguments (One m) f es s))
      (λ x'. TransferIsExact (λ t. SeenFrom K m t x' y) (with_least (o.arguments (One m) f es s)))
      (λ x' i. least_exact (λ t. SeenFrom K m t x' y) (o.arguments (One m) f es s) i)
      (passes (ord m) p f es l n x) (law.arguments_alone m k f at es seen fits l n s x y h);
  result_alone = λ m k f at d seen fits l n s x y h.
      left_more on (λ x'. TransferIsExact (λ t. SeenFrom K m t x' y) (o.result (One m) f d s))
      (λ x'. TransferIsExact (λ t. SeenFrom K m t x' y) (with_least (o.result (One m) f d s)))
      (λ x' i. least_exact (λ t. SeenFrom K m t x' y) (o.result (One m) f d s) i)
      (received (ord m) p f.result d l n x) (law.result_alone m k f at d seen fits l n s x y h);
  enter_alone = law.enter_alone;
  leave_alone = law.leave_alone;
  simple_both = λ here f at w seen fits quiet l n m s x y h.
      both_more (way_of w)
      (λ x' y'. x'.outputs ≡ y'.outputs → TransferIsExact (λ t. K t x' y') (o.simple Both f.result w s))
      (λ x' y'. x'.outputs ≡ y'.outputs → TransferIsExact (λ t. K t x' y') (with_least (o.simple Both f.result w s)))
      (λ x' y' i e. least_exact (λ t. K t x' y') (o.simple Both f.result w s) (i e))
      (does (ord left) p uncounted f.result w l n x) (does (ord right) p uncounted f.result w l m y)
      (law.simple_both here f at w seen fits quiet l n m s x y h);
  test_both = λ e seen fits t v s x y h i j.
      (let z = law.test_both e seen fits t v s x y h i j in (ap least z.0, z.1));
  assume_both = law.assume_both;
  arguments_both = λ k f at es seen fits l n m s x y h.
      both_more on
      (λ x' y'. x'.outputs ≡ y'.outputs → TransferIsExact (λ t. K t x' y') (o.arguments Both f es s))
      (λ x' y'. x'.outputs ≡ y'.outputs → TransferIsExact (λ t. K t x' y') (with_least (o.arguments Both f es s)))
      (λ x' y' i e. least_exact (λ t. K t x' y') (o.arguments Both f es s) (i e))
      (passes (ord left) p f es l n x) (passes (ord right) p f es l m y)
      (law.arguments_both k f at es seen fits l n m s x y h);
  result_both = λ k f at d seen fits l n m s x y h.
      both_more on
      (λ x' y'. x'.outputs ≡ y'.outputs → TransferIsExact (λ t. K t x' y') (o.result Both f d s))
      (λ x' y'. x'.outputs ≡ y'.outputs → TransferIsExact (λ t. K t x' y') (with_least (o.result Both f d s)))
      (λ x' y' i e. least_exact (λ t. K t x' y') (o.result Both f d s) (i e))
      (received (ord left) p f.result d l n x) (received (ord right) p f.result d l m y)
      (law.result_both k f at d seen fits l n m s x y h);
  enter_both = law.enter_both;
  leave_both = law.leave_both;
  reshared = law.reshared;
  ended = λ f at s x y h i. ap least (law.ended f at s x y h i);
}
