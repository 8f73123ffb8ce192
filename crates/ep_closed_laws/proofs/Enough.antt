-- How many turns have to be unrolled for a closed program.
use Rattle.std.proofs.Common.{◌≡◌, ◌⊎◌, inl, inr, ℕ, zero, suc, ◌-◌, ◌≤◌, ◌<◌, [], ◌∷◌, refl, ap, None}
use Rattle.std.proofs.Common.{if◌then◌else◌, arith}
use Rattle.ep_pass.specs.States.{StateOps}
use Rattle.ep_pass.specs.Pass.{Log, logged, Pass, after, Heads, from_head, dropped, is_stable, next_head, settled, tried}

module _ {S : Type 0} (o : StateOps S) where
  -- a pass is a turn from the state that came, with nothing found besides
  pub record IsTurn (turn : (before : ℕ) → S → Pass S) (s : S) (p : Pass S) : Type 0 where
    pub number : ℕ
    pub log : Log S
    pub quiet : log.faults ≡ []
    pub is : p ≡ after log (turn number (o.reshared s))

  -- where nothing comes round, the last turn is such a turn
  abbrev pub IsKept : Heads S → Type 0
  IsKept heads =
      (n l : ℕ) (turn : (before : ℕ) → S → Pass S) (s : S) → ((before : ℕ) → (turn before (o.reshared s)).on ≡ None)
      → IsTurn turn s (heads.settle n l turn s)

  -- more turns are unrolled than a machine makes, or as many, and the last turn is kept
  abbrev pub AreEnough : Heads S → (most unrolled : ℕ) → Type 0
  AreEnough heads k j = (k < j) ⊎ ((j ≡ k) × IsKept heads)

  pub enough_most : (heads : Heads S) (k j : ℕ) → AreEnough heads k j → k ≤ j
  enough_most heads k j (inl lt) = omega (arith, lt)
  enough_most heads k j (inr e) = let d = e.0 in omega (arith, d)

  pub enough_less : (heads : Heads S) (k j : ℕ) → AreEnough heads (suc k) (suc j) → AreEnough heads k j
  enough_less heads k j (inl lt) = inl (omega (arith, lt))
  enough_less heads k j (inr e) = let d = e.0 in inr (omega (arith, d), e.1)

  pub enough_after : (heads : Heads S) (k j : ℕ) → AreEnough heads (suc k) j → AreEnough heads k (j - 1)
  enough_after heads k j (inl lt) = inl (omega (arith, lt))
  enough_after heads k j (inr e) = let d = e.0 in inr (omega (arith, d), e.1)

  -- a head from which nothing comes round is kept
  kept : (k : ℕ) → 1 ≤ k → (turn : S → Pass S) (h : S) → (turn h).on ≡ None
      → settled o turn k h ≡ from_head h (turn h)
  kept zero le turn h e = absurd (omega (arith, le))
  kept (suc k) le turn h e =
      ap
      (λ v. if is_stable o h v then from_head h (turn h)
      else dropped (turn h) (settled o turn k (next_head o h v))) e

  pub tried_kept : (limit : ℕ) → 2 ≤ limit → IsKept (tried o limit)
  tried_kept limit some n l turn s none = record {
    number = 0;
    log = logged [] 0 (o.reshared s ∷ []);
    quiet = refl;
    is = kept (limit - 1) (omega (arith, some)) (turn 0) (o.reshared s) (none 0);
  }
