-- Passes of both sides that operations give, and of the sides one after the other.
use Rattle.std.proofs.Common.{◌≡◌, ℕ, ◌+◌, List, [], ◌++◌, length, sym, subst, ap, ◌∙◌, Option, Some, None}
use Rattle.ep_core.specs.Exec.{Output, State, Way, on, broken, continued, returned, Outcome, leaves, running}
use Rattle.ep_core.specs.Exec.{no_input, undefined_at}
use Rattle.ep_pass.specs.States.{Transfer, StateOps}
use Rattle.ep_pass.specs.Pass.{none, Event, Log, Pass, after, ends, left_by, simple_pass, rowed, either_pass, parted}
use Rattle.ep_pass.specs.Pass.{only_on, only_broken, only_continued, only_returned}
use Rattle.ep_closed_laws.specs.Exactly.{IsThere, IfBothLeft, TransferIsExact}
use Rattle.ep_closed_laws.proofs.GrowsIn.{Adds, AddsIfLeft}
use Rattle.ep_closed_laws.proofs.Alone.{Leaves, as_left, after_left, mapped, turned_into, rowed_on, either_before}
use Rattle.ep_closed_laws.proofs.Alone.{either_after, simple_left}
use Rattle.ep_closed_laws.proofs.Both.{BothOf}
use Rattle.ep_closed_laws.proofs.Rules.{Rule, alike, quiet, Same, Ahead, same_front}

abbrev only_of : {S : Type 0} → Way → ℕ → Pass S → Pass S
only_of on l q = only_on l q
only_of broken l q = only_broken l q
only_of continued l q = only_continued l q
only_of returned l q = only_returned l q

quiet_both : (fs : List Event) → fs ≡ [] → fs ++ [] ≡ []
quiet_both fs e = ap (λ gs. gs ++ []) e

module _ {S : Type 0} (o : StateOps S) (K : S → State → State → Type 0) (rule : Rule) (os : List Output) where
  pub after_both : (g : Log S) → g.faults ≡ [] → (q : Pass S) (c d : Outcome) → BothOf o K rule os q c d
      → BothOf o K rule os (after g q) c d
  after_both g e q (leaves k n x) (leaves j m y) h = λ a. (
      let r = h a in (r.0, (r.1.0, after_left o (λ s. K s x y) k g e q r.1.1))
      )
  after_both g e q (leaves k n x) (running y) h = tt
  after_both g e q (leaves k n x) (no_input y) h = tt
  after_both g e q (leaves k n x) (undefined_at ly ky y) h = tt
  after_both g e q (running x) d h = tt
  after_both g e q (no_input x) d h = tt
  after_both g e q (undefined_at lx kx x) d h = tt

  -- what is given, from states with equal outputs and tests
  pub same_after : (i : ℕ) (x y r q : State) → x.outputs ≡ y.outputs → Same rule x y → Adds i x r → Adds i y q
      → Ahead rule os r q → (r.outputs ≡ q.outputs) × Same rule r q
  same_after i x y r q e s h k a = (equal_outputs, same_tests rule s)
    where
      equal_outputs : r.outputs ≡ q.outputs
      equal_outputs =
          same_front r.outputs q.outputs os
          (h.outputs ∙ (ap (λ (zs : List Output). length zs + i) e ∙ sym k.outputs)) a.0.0 a.1.0

      same_tests : (rule : Rule) → Same rule x y → Same rule r q
      same_tests (alike fs) s = h.tests ∙ (s ∙ sym k.tests)
      same_tests quiet s = tt

  pub gives_both : (k : Way) (l : ℕ) (g : Transfer S) (i : ℕ) (x y : State) (c d : Outcome) → x.outputs ≡ y.outputs
      → Same rule x y → AddsIfLeft i x c → AddsIfLeft i y d
      → IfBothLeft k (λ x y. x.outputs ≡ y.outputs → TransferIsExact (λ s. K s x y) g) c d → BothOf o K rule os
      (simple_pass k l g) c d
  gives_both k l g i x y (leaves w n r) (leaves v m q) e s ac ad h = λ a. (
      let t = same_after i x y r q e s ac ad a in (
        h.0 ∙ sym h.1.0,
        (
          t.1,
          subst (λ j. Leaves (λ s. K s r q) j (simple_pass k l g)) (sym h.0)
              (simple_left o (λ s. K s r q) k l g (h.1.1 t.0)),
        ),
      )
      )
  gives_both k l g i x y (leaves w n r) (running q) e s ac ad h = tt
  gives_both k l g i x y (leaves w n r) (no_input q) e s ac ad h = tt
  gives_both k l g i x y (leaves w n r) (undefined_at lq kq q) e s ac ad h = tt
  gives_both k l g i x y (running r) d e s ac ad h = tt
  gives_both k l g i x y (no_input r) d e s ac ad h = tt
  gives_both k l g i x y (undefined_at lr kr r) d e s ac ad h = tt

  pub rowed_gives_both : (go : S → Transfer S) (l : ℕ) (s : S) (i : ℕ) (x y : State) (c d : Outcome)
      → x.outputs ≡ y.outputs → Same rule x y → AddsIfLeft i x c → AddsIfLeft i y d
      → IfBothLeft on (λ x y. x.outputs ≡ y.outputs → TransferIsExact (λ s. K s x y) (go s)) c d
      → BothOf o K rule os (rowed o (λ s. simple_pass on l (go s)) s none) c d
  rowed_gives_both go l s i x y (leaves w n r) (leaves v m q) e z ac ad h = λ a. (
      let t = same_after i x y r q e z ac ad a in (
        h.0 ∙ sym h.1.0,
        (
          t.1,
          subst (λ j. Leaves (λ s. K s r q) j (rowed o (λ s. simple_pass on l (go s)) s none)) (sym h.0)
              (rowed_on o (λ s. K s r q) (λ s. simple_pass on l (go s)) s
              (simple_left o (λ s. K s r q) on l (go s) (h.1.1 t.0))),
        ),
      )
      )
  rowed_gives_both go l s i x y (leaves w n r) (running q) e z ac ad h = tt
  rowed_gives_both go l s i x y (leaves w n r) (no_input q) e z ac ad h = tt
  rowed_gives_both go l s i x y (leaves w n r) (undefined_at lq kq q) e z ac ad h = tt
  rowed_gives_both go l s i x y (running r) d e z ac ad h = tt
  rowed_gives_both go l s i x y (no_input r) d e z ac ad h = tt
  rowed_gives_both go l s i x y (undefined_at lr kr r) d e z ac ad h = tt

  -- where each pass from a good state is left so, so is this one
  pub there_is : (P : S → Type 0) (u : Option S) → IsThere P u → (s : S) × P s
  there_is P None h = absurd h
  there_is P (Some s) h = (s, h)

  pub lifted_both : (P : S → Type 0) (u : Option S) → IsThere P u → (go : S → Pass S) (q : Pass S)
      → ((Q : S → Type 0) (k : Way) → ((s : S) → P s → Leaves Q k (go s)) → Leaves Q k q) → (c d : Outcome)
      → ((s : S) → P s → BothOf o K rule os (go s) c d) → BothOf o K rule os q c d
  lifted_both P u t go q f (leaves k n x) (leaves j m y) h = λ a. (
      let s = there_is P u t in
      let r = h s.0 s.1 a in
      (r.0, (r.1.0, f (λ s. K s x y) k (λ s i. (h s i a).1.1)))
      )
  lifted_both P u t go q f (leaves k n x) (running y) h = tt
  lifted_both P u t go q f (leaves k n x) (no_input y) h = tt
  lifted_both P u t go q f (leaves k n x) (undefined_at ly ky y) h = tt
  lifted_both P u t go q f (running x) d h = tt
  lifted_both P u t go q f (no_input x) d h = tt
  lifted_both P u t go q f (undefined_at lx kx x) d h = tt

  -- ---- the sides go apart, and come to one way

  only_left : (P : S → Type 0) (k : Way) (l : ℕ) (q : Pass S) → Leaves P k q → Leaves P k (only_of k l q)
  only_left P on l q h =
      mapped o P on on (only_of on l) (λ s g e i. as_left o P on s _ (quiet_both g.faults e) i) q h
  only_left P broken l q h =
      mapped o P broken broken (only_of broken l) (λ s g e i. as_left o P broken s _ (quiet_both g.faults e) i) q h
  only_left P continued l q h =
      mapped o P continued continued (only_of continued l)
      (λ s g e i. as_left o P continued s _ (quiet_both g.faults e) i) q h
  only_left P returned l q h =
      mapped o P returned returned (only_of returned l)
      (λ s g e i. as_left o P returned s _ (quiet_both g.faults e) i) q h

  pub parted_left : (P Q : S → Type 0) (k : Way) (l : ℕ) (q : Pass S) (go : S → Pass S) → Leaves P k q
      → ((s : S) → P s → Leaves Q k (go s)) → Leaves Q k (parted o l q go)
  parted_left P Q k l q go h f = turned_into o P Q k k (λ q. parted o l q go) (by_way k f) q h
    where
      by_way : (k : Way) → ((s : S) → P s → Leaves Q k (go s)) → (s : S) (g : Log S) → g.faults ≡ [] → P s
          → Leaves Q k (parted o l (left_by k (Some s) g) go)
      by_way on f s g e i =
          let x1 = only_on l (go s) in
          after_left o Q on g e _
          (either_after o Q on (either_pass o (either_pass o x1 (ends [])) (ends []))
          (either_after o Q on (either_pass o x1 (ends [])) (either_after o Q on x1 (only_left Q on l (go s)
          (f s i)))))
      by_way broken f s g e i =
          let x1 = only_broken l (go s) in
          after_left o Q broken g e _
          (either_after o Q broken (either_pass o (either_pass o (ends []) x1) (ends []))
          (either_after o Q broken (either_pass o (ends []) x1)
          (either_before o Q broken x1 (only_left Q broken l (go s) (f s i)))))
      by_way continued f s g e i =
          let x1 = only_continued l (go s) in
          after_left o Q continued g e _
          (either_after o Q continued (either_pass o (ends []) x1)
          (either_before o Q continued x1 (only_left Q continued l (go s) (f s i))))
      by_way returned f s g e i =
          let x1 = only_returned l (go s) in
          after_left o Q returned g e _ (either_before o Q returned x1 (only_left Q returned l (go s) (f s i)))
