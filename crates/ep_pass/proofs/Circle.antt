-- Where a head comes again that isn't kept, what is left up to the last head is known.
use Rattle.std.proofs.Common.{◌≡◌, ℕ, zero, suc, ◌+◌, ◌*◌, refl, sym, ap, ◌∙◌, Bool, true, false, if◌then◌else◌, arith}
use Rattle.std.proofs.Math.Nat.{suc-mul, zero-mul}
use Rattle.ep_pass.specs.States.{StateOps}
use Rattle.ep_pass.specs.Heads.{more_turns, next_of, head_after, turns_at, NoneKept}
use Rattle.ep_pass.specs.Pass.{logged, Pass, passed, from_head, is_stable, next_head, dropped, settled}

no_more : {S : Type 0} (n : ℕ) (p : Pass S) → n ≡ 0 → more_turns n p ≡ p
no_more n p e =
    let c : n + p.log.count ≡ p.log.count = omega (arith, e) in
    ap (λ k. passed p.on p.ways (logged p.log.faults k p.log.heads)) c

more_twice : {S : Type 0} (a b c : ℕ) (p : Pass S) → c ≡ a + b → more_turns a (more_turns b p) ≡ more_turns c p
more_twice a b c p e =
    let k : a + (b + p.log.count) ≡ c + p.log.count = omega (arith, e) in
    ap (λ k. passed p.on p.ways (logged p.log.faults k p.log.heads)) k

times_suc : (k c : ℕ) → suc k * c ≡ c + k * c
times_suc k c = let e : suc k * c ≡ k * c + c = suc-mul k c in omega (arith, e)

times_zero : (c : ℕ) → 0 * c ≡ 0
times_zero c = zero-mul c

module _ {S : Type 0} (o : StateOps S) (turn : S → Pass S) where
  abbrev tries : ℕ → S → Pass S
  tries k h = settled o turn k h

  -- one head that is not kept
  not_kept : (k : ℕ) (h : S) (t : Bool) → t ≡ false
      → (if t then from_head h (turn h) else dropped (turn h) (tries k (next_head o h (turn h).on)))
      ≡ more_turns (turn h).log.count (tries k (next_head o h (turn h).on))
  not_kept k h true e = absurd cc
  not_kept k h false e = refl

  -- A head that isn't kept and comes again: its turn is made each time, and at last that of the empty head.
  pub circle : (h : S) → is_stable o h (turn h).on ≡ false → next_head o h (turn h).on
      ≡ h → (k : ℕ) → tries k h ≡ more_turns (k * (turn h).log.count) (from_head o.empty (turn o.empty))
  circle h s n zero = sym
      (no_more (0 * (turn h).log.count) (from_head o.empty (turn o.empty)) (times_zero (turn h).log.count))
  circle h s n (suc k) =
      let c = (turn h).log.count in
      not_kept k h (is_stable o h (turn h).on) s ∙ ap (λ g. more_turns c (tries k g)) n
      ∙ ap (more_turns c) (circle h s n k) ∙ more_twice c (k * c) (suc k * c) (from_head o.empty (turn o.empty))
      (times_suc k c)

  -- ---- circles of more heads

  abbrev next : S → S
  next = next_of o turn

  abbrev after_so_many : ℕ → S → S
  after_so_many = head_after o turn

  abbrev count_of : ℕ → S → ℕ
  count_of = turns_at o turn

  abbrev None_kept : ℕ → S → Type 0
  None_kept = NoneKept o turn

  pub skip : (d k n : ℕ) (h : S) → n ≡ d + k → None_kept d h → tries n h ≡ more_turns (count_of d h)
      (tries k (after_so_many d h))
  skip zero k n h sum a = let z : n ≡ k = omega arith in ap (λ j. tries j h) z ∙ sym (no_more 0 (tries k h) refl)
  skip (suc d) k zero h sum a = absurd (omega arith)
  skip (suc d) k (suc n) h sum a =
      not_kept n h (is_stable o h (turn h).on) a.0 ∙ ap (more_turns (turn h).log.count)
      (skip d k n (next h) (omega arith) a.1)
      ∙ more_twice (turn h).log.count (count_of d (next h)) (count_of (suc d) h) (tries k (after_so_many d (next h)))
      refl

  -- where a head comes again after d others, q rounds of the circle are known
  pub circles : (d : ℕ) (h : S) → None_kept d h → after_so_many d h ≡ h → (q k n : ℕ) → n ≡ q * d + k → tries n h
      ≡ more_turns (q * count_of d h) (tries k h)
  circles d h a r zero k n sum = let z : n ≡ k =
      no_times d k n sum in ap (λ j. tries j h) z
      ∙ sym (no_more (0 * count_of d h) (tries k h) (times_zero (count_of d h)))
    where
      no_times : (d k n : ℕ) → n ≡ 0 * d + k → n ≡ k
      no_times d k n e = let z = times_zero d in omega (arith, e, z)
  circles d h a r (suc q) k n sum =
      let t = count_of d h in
      skip d (q * d + k) n h (one_less d q k n sum) a ∙ ap (λ g. more_turns t (tries (q * d + k) g)) r
      ∙ ap (more_turns t) (circles d h a r q k (q * d + k) refl) ∙ more_twice t (q * t) (suc q * t) (tries k h)
      (times_suc q t)
    where
      one_less : (d q k n : ℕ) → n ≡ suc q * d + k → n ≡ d + (q * d + k)
      one_less d q k n e = let z = times_suc q d in omega (arith, e, z)
