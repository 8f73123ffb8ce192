-- Passes of both sides follow both machines' runs exactly.
use Rattle.std.proofs.Common.{◌≡◌, ℕ, List, refl, sym}
use Rattle.ep_core.specs.Exec.{Output, State, Way, on, broken, continued, returned, Outcome, leaves, running}
use Rattle.ep_core.specs.Exec.{no_input, undefined_at, Going, and_then}
use Rattle.ep_core.proofs.Grows.{later_refl, Grows, Growing}
use Rattle.ep_pass.specs.States.{StateOps}
use Rattle.ep_pass.specs.Pass.{Ways, none, Pass, passed, then_pass, leave_call, body_ends, leave_loop, last_pass}
use Rattle.ep_pass.specs.Pass.{turn_then}
use Rattle.ep_pass.proofs.Outcomes.{body_end, loop_left}
use Rattle.ep_pass.proofs.Outcomes.{IsPlain, IsCall, called_end}
use Rattle.ep_closed_laws.proofs.Alone.{Leaves, as_left, mapped, then_on, IsJump, then_jump, turn_on, turn_jump}
use Rattle.ep_closed_laws.proofs.Alone.{IsTurnLeft}
use Rattle.ep_closed_laws.proofs.Rules.{Rule, Same, Ahead, ahead_back}

not_on : (j : Way) → IsJump j → on ≡ j → ⊥
not_on on h e = absurd h
not_on broken h e = absurd cc
not_on continued h e = absurd cc
not_on returned h e = absurd cc

not_jump : (j : Way) → IsJump j → j ≡ on → ⊥
not_jump j h e = not_on j h (sym e)

module _ {S : Type 0} (o : StateOps S) (K : S → State → State → Type 0) (rule : Rule) (os : List Output) where
  -- A joint pass beside the outcomes of both machines; where one is stopped, nothing is said.
  abbrev pub BothOf : Pass S → Outcome → Outcome → Type 0
  BothOf q (leaves k n x) (leaves j m y) =
      Ahead rule os x y → (k ≡ j) × (Same rule x y × Leaves (λ s. K s x y) k q)
  BothOf q (leaves k n x) (running y) = Unit {0}
  BothOf q (leaves k n x) (no_input y) = Unit {0}
  BothOf q (leaves k n x) (undefined_at l i y) = Unit {0}
  BothOf q (running x) d = Unit {0}
  BothOf q (no_input x) d = Unit {0}
  BothOf q (undefined_at l i x) d = Unit {0}

  pub then_both : (q : Pass S) (c d : Outcome) (go : S → Ways S → Pass S) (f g : Going) → Growing f → Growing g
      → BothOf q c d
      → ((n m : ℕ) (s : S) (x y : State) → K s x y → Same rule x y → BothOf (go s none) (f n x) (g m y))
      → BothOf (then_pass o q none go) (and_then c f) (and_then d g)
  then_both q (leaves on n x) (leaves on m y) go f g gf gg h i = by_ends (f n x) (g m y) (gf n x) (gg m y)
      (λ s z v. i n m s x y z v)
    where
      by_ends : (c d : Outcome) → Grows x n c → Grows y m d → ((s : S) → K s x y → Same rule x y
          → BothOf (go s none) c d) → BothOf (then_pass o q none go) c d
      by_ends (leaves k n' x') (leaves j m' y') gc gd z = λ a. (
          let r = h (ahead_back rule os x y x' y' gc.0 gd.0 a) in
          let t = z r.1.1.in_state r.1.1.good r.1.0 a in
          (t.0, (t.1.0, then_on o (λ s. K s x y) (λ s. K s x' y') k q go r.1.1 (λ s e. (z s e r.1.0 a).1.1)))
          )
      by_ends (leaves k n' x') (running y') gc gd z = tt
      by_ends (leaves k n' x') (no_input y') gc gd z = tt
      by_ends (leaves k n' x') (undefined_at l e y') gc gd z = tt
      by_ends (running x') d gc gd z = tt
      by_ends (no_input x') d gc gd z = tt
      by_ends (undefined_at l e x') d gc gd z = tt
  then_both q (leaves on n x) (leaves broken m y) go f g gf gg h i = by_end (f n x) (gf n x)
    where
      by_end : (c : Outcome) → Grows x n c → BothOf (then_pass o q none go) c (leaves broken m y)
      by_end (leaves k n' x') gc = λ a.
          absurd (not_on broken tt (h (ahead_back rule os x y x' y gc.0 (later_refl y) a)).0)
      by_end (running x') gc = tt
      by_end (no_input x') gc = tt
      by_end (undefined_at l e x') gc = tt
  then_both q (leaves on n x) (leaves continued m y) go f g gf gg h i = by_end (f n x) (gf n x)
    where
      by_end : (c : Outcome) → Grows x n c → BothOf (then_pass o q none go) c (leaves continued m y)
      by_end (leaves k n' x') gc = λ a.
          absurd (not_on continued tt (h (ahead_back rule os x y x' y gc.0 (later_refl y) a)).0)
      by_end (running x') gc = tt
      by_end (no_input x') gc = tt
      by_end (undefined_at l e x') gc = tt
  then_both q (leaves on n x) (leaves returned m y) go f g gf gg h i = by_end (f n x) (gf n x)
    where
      by_end : (c : Outcome) → Grows x n c → BothOf (then_pass o q none go) c (leaves returned m y)
      by_end (leaves k n' x') gc = λ a.
          absurd (not_on returned tt (h (ahead_back rule os x y x' y gc.0 (later_refl y) a)).0)
      by_end (running x') gc = tt
      by_end (no_input x') gc = tt
      by_end (undefined_at l e x') gc = tt
  then_both q (leaves broken n x) (leaves on m y) go f g gf gg h i = by_end (g m y) (gg m y)
    where
      by_end : (d : Outcome) → Grows y m d → BothOf (then_pass o q none go) (leaves broken n x) d
      by_end (leaves j m' y') gd = λ a.
          absurd (not_jump broken tt (h (ahead_back rule os x y x y' (later_refl x) gd.0 a)).0)
      by_end (running y') gd = tt
      by_end (no_input y') gd = tt
      by_end (undefined_at l e y') gd = tt
  then_both q (leaves broken n x) (leaves broken m y) go f g gf gg h i = λ a. (
      let r = h a in (r.0, (r.1.0, then_jump o (λ s. K s x y) broken tt q go r.1.1))
      )
  then_both q (leaves broken n x) (leaves continued m y) go f g gf gg h i = λ a. (
      let r = h a in (r.0, (r.1.0, then_jump o (λ s. K s x y) broken tt q go r.1.1))
      )
  then_both q (leaves broken n x) (leaves returned m y) go f g gf gg h i = λ a. (
      let r = h a in (r.0, (r.1.0, then_jump o (λ s. K s x y) broken tt q go r.1.1))
      )
  then_both q (leaves continued n x) (leaves on m y) go f g gf gg h i = by_end (g m y) (gg m y)
    where
      by_end : (d : Outcome) → Grows y m d → BothOf (then_pass o q none go) (leaves continued n x) d
      by_end (leaves j m' y') gd = λ a.
          absurd (not_jump continued tt (h (ahead_back rule os x y x y' (later_refl x) gd.0 a)).0)
      by_end (running y') gd = tt
      by_end (no_input y') gd = tt
      by_end (undefined_at l e y') gd = tt
  then_both q (leaves continued n x) (leaves broken m y) go f g gf gg h i = λ a. (
      let r = h a in (r.0, (r.1.0, then_jump o (λ s. K s x y) continued tt q go r.1.1))
      )
  then_both q (leaves continued n x) (leaves continued m y) go f g gf gg h i = λ a. (
      let r = h a in (r.0, (r.1.0, then_jump o (λ s. K s x y) continued tt q go r.1.1))
      )
  then_both q (leaves continued n x) (leaves returned m y) go f g gf gg h i = λ a. (
      let r = h a in (r.0, (r.1.0, then_jump o (λ s. K s x y) continued tt q go r.1.1))
      )
  then_both q (leaves returned n x) (leaves on m y) go f g gf gg h i = by_end (g m y) (gg m y)
    where
      by_end : (d : Outcome) → Grows y m d → BothOf (then_pass o q none go) (leaves returned n x) d
      by_end (leaves j m' y') gd = λ a.
          absurd (not_jump returned tt (h (ahead_back rule os x y x y' (later_refl x) gd.0 a)).0)
      by_end (running y') gd = tt
      by_end (no_input y') gd = tt
      by_end (undefined_at l e y') gd = tt
  then_both q (leaves returned n x) (leaves broken m y) go f g gf gg h i = λ a. (
      let r = h a in (r.0, (r.1.0, then_jump o (λ s. K s x y) returned tt q go r.1.1))
      )
  then_both q (leaves returned n x) (leaves continued m y) go f g gf gg h i = λ a. (
      let r = h a in (r.0, (r.1.0, then_jump o (λ s. K s x y) returned tt q go r.1.1))
      )
  then_both q (leaves returned n x) (leaves returned m y) go f g gf gg h i = λ a. (
      let r = h a in (r.0, (r.1.0, then_jump o (λ s. K s x y) returned tt q go r.1.1))
      )
  then_both q (leaves on n x) (running y) go f g gf gg h i = by_end (f n x)
    where
      by_end : (c : Outcome) → BothOf (then_pass o q none go) c (running y)
      by_end (leaves k n' x') = tt
      by_end (running x') = tt
      by_end (no_input x') = tt
      by_end (undefined_at l e x') = tt
  then_both q (leaves on n x) (no_input y) go f g gf gg h i = by_end (f n x)
    where
      by_end : (c : Outcome) → BothOf (then_pass o q none go) c (no_input y)
      by_end (leaves k n' x') = tt
      by_end (running x') = tt
      by_end (no_input x') = tt
      by_end (undefined_at l e x') = tt
  then_both q (leaves on n x) (undefined_at ly ky y) go f g gf gg h i = by_end (f n x)
    where
      by_end : (c : Outcome) → BothOf (then_pass o q none go) c (undefined_at ly ky y)
      by_end (leaves k n' x') = tt
      by_end (running x') = tt
      by_end (no_input x') = tt
      by_end (undefined_at l e x') = tt
  then_both q (leaves broken n x) (running y) go f g gf gg h i = tt
  then_both q (leaves broken n x) (no_input y) go f g gf gg h i = tt
  then_both q (leaves broken n x) (undefined_at ly ky y) go f g gf gg h i = tt
  then_both q (leaves continued n x) (running y) go f g gf gg h i = tt
  then_both q (leaves continued n x) (no_input y) go f g gf gg h i = tt
  then_both q (leaves continued n x) (undefined_at ly ky y) go f g gf gg h i = tt
  then_both q (leaves returned n x) (running y) go f g gf gg h i = tt
  then_both q (leaves returned n x) (no_input y) go f g gf gg h i = tt
  then_both q (leaves returned n x) (undefined_at ly ky y) go f g gf gg h i = tt
  then_both q (running x) d go f g gf gg h i = tt
  then_both q (no_input x) d go f g gf gg h i = tt
  then_both q (undefined_at lx kx x) d go f g gf gg h i = tt

  pub turn_both : (q : Pass S) (c d : Outcome) (go : S → Ways S → Pass S) (f g : Going) → Growing f → Growing g
      → BothOf q c d
      → ((n m : ℕ) (s : S) (x y : State) → K s x y → Same rule x y → BothOf (go s none) (f n x) (g m y))
      → BothOf (turn_then o q go) (and_then c f) (and_then d g)
  turn_both q (leaves on n x) (leaves on m y) go f g gf gg h i = by_ends (f n x) (g m y) (gf n x) (gg m y)
      (λ s z v. i n m s x y z v)
    where
      by_ends : (c d : Outcome) → Grows x n c → Grows y m d → ((s : S) → K s x y → Same rule x y
          → BothOf (go s none) c d) → BothOf (turn_then o q go) c d
      by_ends (leaves k n' x') (leaves j m' y') gc gd z = λ a. (
          let r = h (ahead_back rule os x y x' y' gc.0 gd.0 a) in
          let t = z r.1.1.in_state r.1.1.good r.1.0 a in
          (t.0, (t.1.0, turn_on o (λ s. K s x y) (λ s. K s x' y') k q go r.1.1 (λ s e. (z s e r.1.0 a).1.1)))
          )
      by_ends (leaves k n' x') (running y') gc gd z = tt
      by_ends (leaves k n' x') (no_input y') gc gd z = tt
      by_ends (leaves k n' x') (undefined_at l e y') gc gd z = tt
      by_ends (running x') d gc gd z = tt
      by_ends (no_input x') d gc gd z = tt
      by_ends (undefined_at l e x') d gc gd z = tt
  turn_both q (leaves on n x) (leaves broken m y) go f g gf gg h i = by_end (f n x) (gf n x)
    where
      by_end : (c : Outcome) → Grows x n c → BothOf (turn_then o q go) c (leaves broken m y)
      by_end (leaves k n' x') gc = λ a.
          absurd (not_on broken tt (h (ahead_back rule os x y x' y gc.0 (later_refl y) a)).0)
      by_end (running x') gc = tt
      by_end (no_input x') gc = tt
      by_end (undefined_at l e x') gc = tt
  turn_both q (leaves on n x) (leaves continued m y) go f g gf gg h i = by_end (f n x) (gf n x)
    where
      by_end : (c : Outcome) → Grows x n c → BothOf (turn_then o q go) c (leaves continued m y)
      by_end (leaves k n' x') gc = λ a.
          absurd (not_on continued tt (h (ahead_back rule os x y x' y gc.0 (later_refl y) a)).0)
      by_end (running x') gc = tt
      by_end (no_input x') gc = tt
      by_end (undefined_at l e x') gc = tt
  turn_both q (leaves on n x) (leaves returned m y) go f g gf gg h i = by_end (f n x) (gf n x)
    where
      by_end : (c : Outcome) → Grows x n c → BothOf (turn_then o q go) c (leaves returned m y)
      by_end (leaves k n' x') gc = λ a.
          absurd (not_on returned tt (h (ahead_back rule os x y x' y gc.0 (later_refl y) a)).0)
      by_end (running x') gc = tt
      by_end (no_input x') gc = tt
      by_end (undefined_at l e x') gc = tt
  turn_both q (leaves broken n x) (leaves on m y) go f g gf gg h i = by_end (g m y) (gg m y)
    where
      by_end : (d : Outcome) → Grows y m d → BothOf (turn_then o q go) (leaves broken n x) d
      by_end (leaves j m' y') gd = λ a.
          absurd (not_jump broken tt (h (ahead_back rule os x y x y' (later_refl x) gd.0 a)).0)
      by_end (running y') gd = tt
      by_end (no_input y') gd = tt
      by_end (undefined_at l e y') gd = tt
  turn_both q (leaves broken n x) (leaves broken m y) go f g gf gg h i = λ a. (
      let r = h a in (r.0, (r.1.0, turn_jump o (λ s. K s x y) broken tt q go r.1.1))
      )
  turn_both q (leaves broken n x) (leaves continued m y) go f g gf gg h i = λ a. (
      let r = h a in (r.0, (r.1.0, turn_jump o (λ s. K s x y) broken tt q go r.1.1))
      )
  turn_both q (leaves broken n x) (leaves returned m y) go f g gf gg h i = λ a. (
      let r = h a in (r.0, (r.1.0, turn_jump o (λ s. K s x y) broken tt q go r.1.1))
      )
  turn_both q (leaves continued n x) (leaves on m y) go f g gf gg h i = by_end (g m y) (gg m y)
    where
      by_end : (d : Outcome) → Grows y m d → BothOf (turn_then o q go) (leaves continued n x) d
      by_end (leaves j m' y') gd = λ a.
          absurd (not_jump continued tt (h (ahead_back rule os x y x y' (later_refl x) gd.0 a)).0)
      by_end (running y') gd = tt
      by_end (no_input y') gd = tt
      by_end (undefined_at l e y') gd = tt
  turn_both q (leaves continued n x) (leaves broken m y) go f g gf gg h i = λ a. (
      let r = h a in (r.0, (r.1.0, turn_jump o (λ s. K s x y) continued tt q go r.1.1))
      )
  turn_both q (leaves continued n x) (leaves continued m y) go f g gf gg h i = λ a. (
      let r = h a in (r.0, (r.1.0, turn_jump o (λ s. K s x y) continued tt q go r.1.1))
      )
  turn_both q (leaves continued n x) (leaves returned m y) go f g gf gg h i = λ a. (
      let r = h a in (r.0, (r.1.0, turn_jump o (λ s. K s x y) continued tt q go r.1.1))
      )
  turn_both q (leaves returned n x) (leaves on m y) go f g gf gg h i = by_end (g m y) (gg m y)
    where
      by_end : (d : Outcome) → Grows y m d → BothOf (turn_then o q go) (leaves returned n x) d
      by_end (leaves j m' y') gd = λ a.
          absurd (not_jump returned tt (h (ahead_back rule os x y x y' (later_refl x) gd.0 a)).0)
      by_end (running y') gd = tt
      by_end (no_input y') gd = tt
      by_end (undefined_at l e y') gd = tt
  turn_both q (leaves returned n x) (leaves broken m y) go f g gf gg h i = λ a. (
      let r = h a in (r.0, (r.1.0, turn_jump o (λ s. K s x y) returned tt q go r.1.1))
      )
  turn_both q (leaves returned n x) (leaves continued m y) go f g gf gg h i = λ a. (
      let r = h a in (r.0, (r.1.0, turn_jump o (λ s. K s x y) returned tt q go r.1.1))
      )
  turn_both q (leaves returned n x) (leaves returned m y) go f g gf gg h i = λ a. (
      let r = h a in (r.0, (r.1.0, turn_jump o (λ s. K s x y) returned tt q go r.1.1))
      )
  turn_both q (leaves on n x) (running y) go f g gf gg h i = by_end (f n x)
    where
      by_end : (c : Outcome) → BothOf (turn_then o q go) c (running y)
      by_end (leaves k n' x') = tt
      by_end (running x') = tt
      by_end (no_input x') = tt
      by_end (undefined_at l e x') = tt
  turn_both q (leaves on n x) (no_input y) go f g gf gg h i = by_end (f n x)
    where
      by_end : (c : Outcome) → BothOf (turn_then o q go) c (no_input y)
      by_end (leaves k n' x') = tt
      by_end (running x') = tt
      by_end (no_input x') = tt
      by_end (undefined_at l e x') = tt
  turn_both q (leaves on n x) (undefined_at ly ky y) go f g gf gg h i = by_end (f n x)
    where
      by_end : (c : Outcome) → BothOf (turn_then o q go) c (undefined_at ly ky y)
      by_end (leaves k n' x') = tt
      by_end (running x') = tt
      by_end (no_input x') = tt
      by_end (undefined_at l e x') = tt
  turn_both q (leaves broken n x) (running y) go f g gf gg h i = tt
  turn_both q (leaves broken n x) (no_input y) go f g gf gg h i = tt
  turn_both q (leaves broken n x) (undefined_at ly ky y) go f g gf gg h i = tt
  turn_both q (leaves continued n x) (running y) go f g gf gg h i = tt
  turn_both q (leaves continued n x) (no_input y) go f g gf gg h i = tt
  turn_both q (leaves continued n x) (undefined_at ly ky y) go f g gf gg h i = tt
  turn_both q (leaves returned n x) (running y) go f g gf gg h i = tt
  turn_both q (leaves returned n x) (no_input y) go f g gf gg h i = tt
  turn_both q (leaves returned n x) (undefined_at ly ky y) go f g gf gg h i = tt
  turn_both q (running x) d go f g gf gg h i = tt
  turn_both q (no_input x) d go f g gf gg h i = tt
  turn_both q (undefined_at lx kx x) d go f g gf gg h i = tt

  pub body_ends_both : (q : Pass S) (c d : Outcome) → BothOf q c d → BothOf (body_ends o q) (body_end c) (body_end d)
  body_ends_both q (leaves on n x) (leaves on m y) h = λ a. (
      let r = h a in (
        refl,
        (
          r.1.0,
          mapped o (λ s. K s x y) on on (λ (q : Pass S). body_ends o q)
              (λ s g e i. as_left o (λ s. K s x y) on s g e i) q r.1.1,
        ),
      )
      )
  body_ends_both q (leaves on n x) (leaves broken m y) h = λ a. (let e = (h a).0 in absurd cc)
  body_ends_both q (leaves on n x) (leaves continued m y) h = λ a. (let e = (h a).0 in absurd cc)
  body_ends_both q (leaves on n x) (leaves returned m y) h = λ a. (let e = (h a).0 in absurd cc)
  body_ends_both q (leaves broken n x) (leaves on m y) h = λ a. (let e = (h a).0 in absurd cc)
  body_ends_both q (leaves broken n x) (leaves broken m y) h = λ a. (
      let r = h a in (
        refl,
        (
          r.1.0,
          mapped o (λ s. K s x y) broken broken (λ (q : Pass S). body_ends o q)
              (λ s g e i. as_left o (λ s. K s x y) broken s g e i) q r.1.1,
        ),
      )
      )
  body_ends_both q (leaves broken n x) (leaves continued m y) h = λ a. (let e = (h a).0 in absurd cc)
  body_ends_both q (leaves broken n x) (leaves returned m y) h = λ a. (let e = (h a).0 in absurd cc)
  body_ends_both q (leaves continued n x) (leaves on m y) h = λ a. (let e = (h a).0 in absurd cc)
  body_ends_both q (leaves continued n x) (leaves broken m y) h = λ a. (let e = (h a).0 in absurd cc)
  body_ends_both q (leaves continued n x) (leaves continued m y) h = λ a. (
      let r = h a in (
        refl,
        (
          r.1.0,
          mapped o (λ s. K s x y) continued on (λ (q : Pass S). body_ends o q)
              (λ s g e i. as_left o (λ s. K s x y) on s g e i) q r.1.1,
        ),
      )
      )
  body_ends_both q (leaves continued n x) (leaves returned m y) h = λ a. (let e = (h a).0 in absurd cc)
  body_ends_both q (leaves returned n x) (leaves on m y) h = λ a. (let e = (h a).0 in absurd cc)
  body_ends_both q (leaves returned n x) (leaves broken m y) h = λ a. (let e = (h a).0 in absurd cc)
  body_ends_both q (leaves returned n x) (leaves continued m y) h = λ a. (let e = (h a).0 in absurd cc)
  body_ends_both q (leaves returned n x) (leaves returned m y) h = λ a. (
      let r = h a in (
        refl,
        (
          r.1.0,
          mapped o (λ s. K s x y) returned returned (λ (q : Pass S). body_ends o q)
              (λ s g e i. as_left o (λ s. K s x y) returned s g e i) q r.1.1,
        ),
      )
      )
  body_ends_both q (leaves on n x) (running y) h = tt
  body_ends_both q (leaves on n x) (no_input y) h = tt
  body_ends_both q (leaves on n x) (undefined_at ly ky y) h = tt
  body_ends_both q (leaves broken n x) (running y) h = tt
  body_ends_both q (leaves broken n x) (no_input y) h = tt
  body_ends_both q (leaves broken n x) (undefined_at ly ky y) h = tt
  body_ends_both q (leaves continued n x) (running y) h = tt
  body_ends_both q (leaves continued n x) (no_input y) h = tt
  body_ends_both q (leaves continued n x) (undefined_at ly ky y) h = tt
  body_ends_both q (leaves returned n x) (running y) h = tt
  body_ends_both q (leaves returned n x) (no_input y) h = tt
  body_ends_both q (leaves returned n x) (undefined_at ly ky y) h = tt
  body_ends_both q (running x) (leaves on m y) h = tt
  body_ends_both q (running x) (leaves broken m y) h = tt
  body_ends_both q (running x) (leaves continued m y) h = tt
  body_ends_both q (running x) (leaves returned m y) h = tt
  body_ends_both q (running x) (running y) h = tt
  body_ends_both q (running x) (no_input y) h = tt
  body_ends_both q (running x) (undefined_at ly ky y) h = tt
  body_ends_both q (no_input x) (leaves on m y) h = tt
  body_ends_both q (no_input x) (leaves broken m y) h = tt
  body_ends_both q (no_input x) (leaves continued m y) h = tt
  body_ends_both q (no_input x) (leaves returned m y) h = tt
  body_ends_both q (no_input x) (running y) h = tt
  body_ends_both q (no_input x) (no_input y) h = tt
  body_ends_both q (no_input x) (undefined_at ly ky y) h = tt
  body_ends_both q (undefined_at lx kx x) (leaves on m y) h = tt
  body_ends_both q (undefined_at lx kx x) (leaves broken m y) h = tt
  body_ends_both q (undefined_at lx kx x) (leaves continued m y) h = tt
  body_ends_both q (undefined_at lx kx x) (leaves returned m y) h = tt
  body_ends_both q (undefined_at lx kx x) (running y) h = tt
  body_ends_both q (undefined_at lx kx x) (no_input y) h = tt
  body_ends_both q (undefined_at lx kx x) (undefined_at ly ky y) h = tt

  pub loop_left_both : (q : Pass S) (c d : Outcome) → IsTurnLeft c → IsTurnLeft d → BothOf q c d → BothOf
      (leave_loop q) (loop_left c) (loop_left d)
  loop_left_both q (leaves on n x) (leaves on m y) z v h = absurd z
  loop_left_both q (leaves on n x) (leaves broken m y) z v h = absurd z
  loop_left_both q (leaves on n x) (leaves continued m y) z v h = absurd z
  loop_left_both q (leaves on n x) (leaves returned m y) z v h = absurd z
  loop_left_both q (leaves broken n x) (leaves on m y) z v h = absurd v
  loop_left_both q (leaves broken n x) (leaves broken m y) z v h = λ a. (
      let r = h a in (
        refl,
        (
          r.1.0,
          mapped o (λ s. K s x y) broken on (λ (q : Pass S). leave_loop q)
              (λ s g e i. as_left o (λ s. K s x y) on s g e i) q r.1.1,
        ),
      )
      )
  loop_left_both q (leaves broken n x) (leaves continued m y) z v h = absurd v
  loop_left_both q (leaves broken n x) (leaves returned m y) z v h = λ a. (let e = (h a).0 in absurd cc)
  loop_left_both q (leaves continued n x) (leaves on m y) z v h = absurd z
  loop_left_both q (leaves continued n x) (leaves broken m y) z v h = absurd z
  loop_left_both q (leaves continued n x) (leaves continued m y) z v h = absurd z
  loop_left_both q (leaves continued n x) (leaves returned m y) z v h = absurd z
  loop_left_both q (leaves returned n x) (leaves on m y) z v h = absurd v
  loop_left_both q (leaves returned n x) (leaves broken m y) z v h = λ a. (let e = (h a).0 in absurd cc)
  loop_left_both q (leaves returned n x) (leaves continued m y) z v h = absurd v
  loop_left_both q (leaves returned n x) (leaves returned m y) z v h = λ a. (
      let r = h a in (
        refl,
        (
          r.1.0,
          mapped o (λ s. K s x y) returned returned (λ (q : Pass S). leave_loop q)
              (λ s g e i. as_left o (λ s. K s x y) returned s g e i) q r.1.1,
        ),
      )
      )
  loop_left_both q (leaves on n x) (running y) z v h = absurd z
  loop_left_both q (leaves on n x) (no_input y) z v h = absurd z
  loop_left_both q (leaves on n x) (undefined_at ly ky y) z v h = absurd z
  loop_left_both q (leaves broken n x) (running y) z v h = tt
  loop_left_both q (leaves broken n x) (no_input y) z v h = tt
  loop_left_both q (leaves broken n x) (undefined_at ly ky y) z v h = tt
  loop_left_both q (leaves continued n x) (running y) z v h = absurd z
  loop_left_both q (leaves continued n x) (no_input y) z v h = absurd z
  loop_left_both q (leaves continued n x) (undefined_at ly ky y) z v h = absurd z
  loop_left_both q (leaves returned n x) (running y) z v h = tt
  loop_left_both q (leaves returned n x) (no_input y) z v h = tt
  loop_left_both q (leaves returned n x) (undefined_at ly ky y) z v h = tt
  loop_left_both q (running x) (leaves on m y) z v h = tt
  loop_left_both q (running x) (leaves broken m y) z v h = tt
  loop_left_both q (running x) (leaves continued m y) z v h = tt
  loop_left_both q (running x) (leaves returned m y) z v h = tt
  loop_left_both q (running x) (running y) z v h = tt
  loop_left_both q (running x) (no_input y) z v h = tt
  loop_left_both q (running x) (undefined_at ly ky y) z v h = tt
  loop_left_both q (no_input x) (leaves on m y) z v h = tt
  loop_left_both q (no_input x) (leaves broken m y) z v h = tt
  loop_left_both q (no_input x) (leaves continued m y) z v h = tt
  loop_left_both q (no_input x) (leaves returned m y) z v h = tt
  loop_left_both q (no_input x) (running y) z v h = tt
  loop_left_both q (no_input x) (no_input y) z v h = tt
  loop_left_both q (no_input x) (undefined_at ly ky y) z v h = tt
  loop_left_both q (undefined_at lx kx x) (leaves on m y) z v h = tt
  loop_left_both q (undefined_at lx kx x) (leaves broken m y) z v h = tt
  loop_left_both q (undefined_at lx kx x) (leaves continued m y) z v h = tt
  loop_left_both q (undefined_at lx kx x) (leaves returned m y) z v h = tt
  loop_left_both q (undefined_at lx kx x) (running y) z v h = tt
  loop_left_both q (undefined_at lx kx x) (no_input y) z v h = tt
  loop_left_both q (undefined_at lx kx x) (undefined_at ly ky y) z v h = tt

  pub leave_call_both : (q : Pass S) (c d : Outcome) → IsCall c → IsCall d → BothOf q c d → BothOf (leave_call o q)
      (called_end c) (called_end d)
  leave_call_both q (leaves on n x) (leaves on m y) z v h = λ a. (
      let r = h a in (
        refl,
        (
          r.1.0,
          mapped o (λ s. K s x y) on on (λ (q : Pass S). leave_call o q)
              (λ s g e i. as_left o (λ s. K s x y) on s g e i) q r.1.1,
        ),
      )
      )
  leave_call_both q (leaves on n x) (leaves broken m y) z v h = absurd v
  leave_call_both q (leaves on n x) (leaves continued m y) z v h = absurd v
  leave_call_both q (leaves on n x) (leaves returned m y) z v h = λ a. (let e = (h a).0 in absurd cc)
  leave_call_both q (leaves broken n x) (leaves on m y) z v h = absurd z
  leave_call_both q (leaves broken n x) (leaves broken m y) z v h = absurd z
  leave_call_both q (leaves broken n x) (leaves continued m y) z v h = absurd z
  leave_call_both q (leaves broken n x) (leaves returned m y) z v h = absurd z
  leave_call_both q (leaves continued n x) (leaves on m y) z v h = absurd z
  leave_call_both q (leaves continued n x) (leaves broken m y) z v h = absurd z
  leave_call_both q (leaves continued n x) (leaves continued m y) z v h = absurd z
  leave_call_both q (leaves continued n x) (leaves returned m y) z v h = absurd z
  leave_call_both q (leaves returned n x) (leaves on m y) z v h = λ a. (let e = (h a).0 in absurd cc)
  leave_call_both q (leaves returned n x) (leaves broken m y) z v h = absurd v
  leave_call_both q (leaves returned n x) (leaves continued m y) z v h = absurd v
  leave_call_both q (leaves returned n x) (leaves returned m y) z v h = λ a. (
      let r = h a in (
        refl,
        (
          r.1.0,
          mapped o (λ s. K s x y) returned on (λ (q : Pass S). leave_call o q)
              (λ s g e i. as_left o (λ s. K s x y) on s g e i) q r.1.1,
        ),
      )
      )
  leave_call_both q (leaves on n x) (running y) z v h = tt
  leave_call_both q (leaves on n x) (no_input y) z v h = tt
  leave_call_both q (leaves on n x) (undefined_at ly ky y) z v h = tt
  leave_call_both q (leaves broken n x) (running y) z v h = absurd z
  leave_call_both q (leaves broken n x) (no_input y) z v h = absurd z
  leave_call_both q (leaves broken n x) (undefined_at ly ky y) z v h = absurd z
  leave_call_both q (leaves continued n x) (running y) z v h = absurd z
  leave_call_both q (leaves continued n x) (no_input y) z v h = absurd z
  leave_call_both q (leaves continued n x) (undefined_at ly ky y) z v h = absurd z
  leave_call_both q (leaves returned n x) (running y) z v h = tt
  leave_call_both q (leaves returned n x) (no_input y) z v h = tt
  leave_call_both q (leaves returned n x) (undefined_at ly ky y) z v h = tt
  leave_call_both q (running x) (leaves on m y) z v h = tt
  leave_call_both q (running x) (leaves broken m y) z v h = tt
  leave_call_both q (running x) (leaves continued m y) z v h = tt
  leave_call_both q (running x) (leaves returned m y) z v h = tt
  leave_call_both q (running x) (running y) z v h = tt
  leave_call_both q (running x) (no_input y) z v h = tt
  leave_call_both q (running x) (undefined_at ly ky y) z v h = tt
  leave_call_both q (no_input x) (leaves on m y) z v h = tt
  leave_call_both q (no_input x) (leaves broken m y) z v h = tt
  leave_call_both q (no_input x) (leaves continued m y) z v h = tt
  leave_call_both q (no_input x) (leaves returned m y) z v h = tt
  leave_call_both q (no_input x) (running y) z v h = tt
  leave_call_both q (no_input x) (no_input y) z v h = tt
  leave_call_both q (no_input x) (undefined_at ly ky y) z v h = tt
  leave_call_both q (undefined_at lx kx x) (leaves on m y) z v h = tt
  leave_call_both q (undefined_at lx kx x) (leaves broken m y) z v h = tt
  leave_call_both q (undefined_at lx kx x) (leaves continued m y) z v h = tt
  leave_call_both q (undefined_at lx kx x) (leaves returned m y) z v h = tt
  leave_call_both q (undefined_at lx kx x) (running y) z v h = tt
  leave_call_both q (undefined_at lx kx x) (no_input y) z v h = tt
  leave_call_both q (undefined_at lx kx x) (undefined_at ly ky y) z v h = tt

  pub last_both : (q : Pass S) (c d : Outcome) → IsTurnLeft c → IsTurnLeft d → BothOf q c d → BothOf (last_pass o q)
      (c) (d)
  last_both q (leaves on n x) (leaves on m y) z v h = absurd z
  last_both q (leaves on n x) (leaves broken m y) z v h = absurd z
  last_both q (leaves on n x) (leaves continued m y) z v h = absurd z
  last_both q (leaves on n x) (leaves returned m y) z v h = absurd z
  last_both q (leaves broken n x) (leaves on m y) z v h = absurd v
  last_both q (leaves broken n x) (leaves broken m y) z v h = λ a. (
      let r = h a in (
        refl,
        (
          r.1.0,
          mapped o (λ s. K s x y) broken broken (λ (q : Pass S). last_pass o q)
              (λ s g e i. as_left o (λ s. K s x y) broken s g e i) q r.1.1,
        ),
      )
      )
  last_both q (leaves broken n x) (leaves continued m y) z v h = absurd v
  last_both q (leaves broken n x) (leaves returned m y) z v h = λ a. (let e = (h a).0 in absurd cc)
  last_both q (leaves continued n x) (leaves on m y) z v h = absurd z
  last_both q (leaves continued n x) (leaves broken m y) z v h = absurd z
  last_both q (leaves continued n x) (leaves continued m y) z v h = absurd z
  last_both q (leaves continued n x) (leaves returned m y) z v h = absurd z
  last_both q (leaves returned n x) (leaves on m y) z v h = absurd v
  last_both q (leaves returned n x) (leaves broken m y) z v h = λ a. (let e = (h a).0 in absurd cc)
  last_both q (leaves returned n x) (leaves continued m y) z v h = absurd v
  last_both q (leaves returned n x) (leaves returned m y) z v h = λ a. (
      let r = h a in (
        refl,
        (
          r.1.0,
          mapped o (λ s. K s x y) returned returned (λ (q : Pass S). last_pass o q)
              (λ s g e i. as_left o (λ s. K s x y) returned s g e i) q r.1.1,
        ),
      )
      )
  last_both q (leaves on n x) (running y) z v h = absurd z
  last_both q (leaves on n x) (no_input y) z v h = absurd z
  last_both q (leaves on n x) (undefined_at ly ky y) z v h = absurd z
  last_both q (leaves broken n x) (running y) z v h = tt
  last_both q (leaves broken n x) (no_input y) z v h = tt
  last_both q (leaves broken n x) (undefined_at ly ky y) z v h = tt
  last_both q (leaves continued n x) (running y) z v h = absurd z
  last_both q (leaves continued n x) (no_input y) z v h = absurd z
  last_both q (leaves continued n x) (undefined_at ly ky y) z v h = absurd z
  last_both q (leaves returned n x) (running y) z v h = tt
  last_both q (leaves returned n x) (no_input y) z v h = tt
  last_both q (leaves returned n x) (undefined_at ly ky y) z v h = tt
  last_both q (running x) (leaves on m y) z v h = tt
  last_both q (running x) (leaves broken m y) z v h = tt
  last_both q (running x) (leaves continued m y) z v h = tt
  last_both q (running x) (leaves returned m y) z v h = tt
  last_both q (running x) (running y) z v h = tt
  last_both q (running x) (no_input y) z v h = tt
  last_both q (running x) (undefined_at ly ky y) z v h = tt
  last_both q (no_input x) (leaves on m y) z v h = tt
  last_both q (no_input x) (leaves broken m y) z v h = tt
  last_both q (no_input x) (leaves continued m y) z v h = tt
  last_both q (no_input x) (leaves returned m y) z v h = tt
  last_both q (no_input x) (running y) z v h = tt
  last_both q (no_input x) (no_input y) z v h = tt
  last_both q (no_input x) (undefined_at ly ky y) z v h = tt
  last_both q (undefined_at lx kx x) (leaves on m y) z v h = tt
  last_both q (undefined_at lx kx x) (leaves broken m y) z v h = tt
  last_both q (undefined_at lx kx x) (leaves continued m y) z v h = tt
  last_both q (undefined_at lx kx x) (leaves returned m y) z v h = tt
  last_both q (undefined_at lx kx x) (running y) z v h = tt
  last_both q (undefined_at lx kx x) (no_input y) z v h = tt
  last_both q (undefined_at lx kx x) (undefined_at ly ky y) z v h = tt

  pub plain_both : (q : Pass S) (c d : Outcome) → IsPlain c → IsPlain d → BothOf q c d → BothOf
      (passed q.on none q.log) (c) (d)
  plain_both q (leaves on n x) (leaves on m y) z v h = λ a. (
      let r = h a in (
        refl,
        (
          r.1.0,
          mapped o (λ s. K s x y) on on (λ (q : Pass S). passed q.on none q.log)
              (λ s g e i. as_left o (λ s. K s x y) on s g e i) q r.1.1,
        ),
      )
      )
  plain_both q (leaves on n x) (leaves broken m y) z v h = absurd v
  plain_both q (leaves on n x) (leaves continued m y) z v h = absurd v
  plain_both q (leaves on n x) (leaves returned m y) z v h = absurd v
  plain_both q (leaves broken n x) (leaves on m y) z v h = absurd z
  plain_both q (leaves broken n x) (leaves broken m y) z v h = absurd z
  plain_both q (leaves broken n x) (leaves continued m y) z v h = absurd z
  plain_both q (leaves broken n x) (leaves returned m y) z v h = absurd z
  plain_both q (leaves continued n x) (leaves on m y) z v h = absurd z
  plain_both q (leaves continued n x) (leaves broken m y) z v h = absurd z
  plain_both q (leaves continued n x) (leaves continued m y) z v h = absurd z
  plain_both q (leaves continued n x) (leaves returned m y) z v h = absurd z
  plain_both q (leaves returned n x) (leaves on m y) z v h = absurd z
  plain_both q (leaves returned n x) (leaves broken m y) z v h = absurd z
  plain_both q (leaves returned n x) (leaves continued m y) z v h = absurd z
  plain_both q (leaves returned n x) (leaves returned m y) z v h = absurd z
  plain_both q (leaves on n x) (running y) z v h = tt
  plain_both q (leaves on n x) (no_input y) z v h = tt
  plain_both q (leaves on n x) (undefined_at ly ky y) z v h = tt
  plain_both q (leaves broken n x) (running y) z v h = absurd z
  plain_both q (leaves broken n x) (no_input y) z v h = absurd z
  plain_both q (leaves broken n x) (undefined_at ly ky y) z v h = absurd z
  plain_both q (leaves continued n x) (running y) z v h = absurd z
  plain_both q (leaves continued n x) (no_input y) z v h = absurd z
  plain_both q (leaves continued n x) (undefined_at ly ky y) z v h = absurd z
  plain_both q (leaves returned n x) (running y) z v h = absurd z
  plain_both q (leaves returned n x) (no_input y) z v h = absurd z
  plain_both q (leaves returned n x) (undefined_at ly ky y) z v h = absurd z
  plain_both q (running x) (leaves on m y) z v h = tt
  plain_both q (running x) (leaves broken m y) z v h = tt
  plain_both q (running x) (leaves continued m y) z v h = tt
  plain_both q (running x) (leaves returned m y) z v h = tt
  plain_both q (running x) (running y) z v h = tt
  plain_both q (running x) (no_input y) z v h = tt
  plain_both q (running x) (undefined_at ly ky y) z v h = tt
  plain_both q (no_input x) (leaves on m y) z v h = tt
  plain_both q (no_input x) (leaves broken m y) z v h = tt
  plain_both q (no_input x) (leaves continued m y) z v h = tt
  plain_both q (no_input x) (leaves returned m y) z v h = tt
  plain_both q (no_input x) (running y) z v h = tt
  plain_both q (no_input x) (no_input y) z v h = tt
  plain_both q (no_input x) (undefined_at ly ky y) z v h = tt
  plain_both q (undefined_at lx kx x) (leaves on m y) z v h = tt
  plain_both q (undefined_at lx kx x) (leaves broken m y) z v h = tt
  plain_both q (undefined_at lx kx x) (leaves continued m y) z v h = tt
  plain_both q (undefined_at lx kx x) (leaves returned m y) z v h = tt
  plain_both q (undefined_at lx kx x) (running y) z v h = tt
  plain_both q (undefined_at lx kx x) (no_input y) z v h = tt
  plain_both q (undefined_at lx kx x) (undefined_at ly ky y) z v h = tt

  pub turn_stays : (go : S → Ways S → Pass S) (q : Pass S) (c d : Outcome) → IsTurnLeft c → IsTurnLeft d
      → BothOf q c d → BothOf (turn_then o q go) (c) (d)
  turn_stays go q (leaves on n x) (leaves on m y) z v h = absurd z
  turn_stays go q (leaves on n x) (leaves broken m y) z v h = absurd z
  turn_stays go q (leaves on n x) (leaves continued m y) z v h = absurd z
  turn_stays go q (leaves on n x) (leaves returned m y) z v h = absurd z
  turn_stays go q (leaves broken n x) (leaves on m y) z v h = absurd v
  turn_stays go q (leaves broken n x) (leaves broken m y) z v h = λ a. (
      let r = h a in (
        refl,
        (
          r.1.0,
          mapped o (λ s. K s x y) broken broken (λ (q : Pass S). turn_then o q go)
              (λ s g e i. as_left o (λ s. K s x y) broken s g e i) q r.1.1,
        ),
      )
      )
  turn_stays go q (leaves broken n x) (leaves continued m y) z v h = absurd v
  turn_stays go q (leaves broken n x) (leaves returned m y) z v h = λ a. (let e = (h a).0 in absurd cc)
  turn_stays go q (leaves continued n x) (leaves on m y) z v h = absurd z
  turn_stays go q (leaves continued n x) (leaves broken m y) z v h = absurd z
  turn_stays go q (leaves continued n x) (leaves continued m y) z v h = absurd z
  turn_stays go q (leaves continued n x) (leaves returned m y) z v h = absurd z
  turn_stays go q (leaves returned n x) (leaves on m y) z v h = absurd v
  turn_stays go q (leaves returned n x) (leaves broken m y) z v h = λ a. (let e = (h a).0 in absurd cc)
  turn_stays go q (leaves returned n x) (leaves continued m y) z v h = absurd v
  turn_stays go q (leaves returned n x) (leaves returned m y) z v h = λ a. (
      let r = h a in (
        refl,
        (
          r.1.0,
          mapped o (λ s. K s x y) returned returned (λ (q : Pass S). turn_then o q go)
              (λ s g e i. as_left o (λ s. K s x y) returned s g e i) q r.1.1,
        ),
      )
      )
  turn_stays go q (leaves on n x) (running y) z v h = absurd z
  turn_stays go q (leaves on n x) (no_input y) z v h = absurd z
  turn_stays go q (leaves on n x) (undefined_at ly ky y) z v h = absurd z
  turn_stays go q (leaves broken n x) (running y) z v h = tt
  turn_stays go q (leaves broken n x) (no_input y) z v h = tt
  turn_stays go q (leaves broken n x) (undefined_at ly ky y) z v h = tt
  turn_stays go q (leaves continued n x) (running y) z v h = absurd z
  turn_stays go q (leaves continued n x) (no_input y) z v h = absurd z
  turn_stays go q (leaves continued n x) (undefined_at ly ky y) z v h = absurd z
  turn_stays go q (leaves returned n x) (running y) z v h = tt
  turn_stays go q (leaves returned n x) (no_input y) z v h = tt
  turn_stays go q (leaves returned n x) (undefined_at ly ky y) z v h = tt
  turn_stays go q (running x) (leaves on m y) z v h = tt
  turn_stays go q (running x) (leaves broken m y) z v h = tt
  turn_stays go q (running x) (leaves continued m y) z v h = tt
  turn_stays go q (running x) (leaves returned m y) z v h = tt
  turn_stays go q (running x) (running y) z v h = tt
  turn_stays go q (running x) (no_input y) z v h = tt
  turn_stays go q (running x) (undefined_at ly ky y) z v h = tt
  turn_stays go q (no_input x) (leaves on m y) z v h = tt
  turn_stays go q (no_input x) (leaves broken m y) z v h = tt
  turn_stays go q (no_input x) (leaves continued m y) z v h = tt
  turn_stays go q (no_input x) (leaves returned m y) z v h = tt
  turn_stays go q (no_input x) (running y) z v h = tt
  turn_stays go q (no_input x) (no_input y) z v h = tt
  turn_stays go q (no_input x) (undefined_at ly ky y) z v h = tt
  turn_stays go q (undefined_at lx kx x) (leaves on m y) z v h = tt
  turn_stays go q (undefined_at lx kx x) (leaves broken m y) z v h = tt
  turn_stays go q (undefined_at lx kx x) (leaves continued m y) z v h = tt
  turn_stays go q (undefined_at lx kx x) (leaves returned m y) z v h = tt
  turn_stays go q (undefined_at lx kx x) (running y) z v h = tt
  turn_stays go q (undefined_at lx kx x) (no_input y) z v h = tt
  turn_stays go q (undefined_at lx kx x) (undefined_at ly ky y) z v h = tt
