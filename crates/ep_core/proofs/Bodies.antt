-- The table of bodies, and the bound of a run by turns.
use Rattle.std.proofs.Common.{◌≡◌, ℕ, zero, suc, ◌<◌, refl, ap, subst, Some, arith, nat_eq, nat_lt, slice_get, Bool}
use Rattle.std.proofs.Common.{true, false}
use Rattle.std.proofs.lemmas.Bool.{lt-ltb}
use Rattle.ep_int.specs.declared.types.Order.{Order}
use Rattle.ep_core.specs.Program.{Function, Program}
use Rattle.ep_core.specs.Exec.{State, Way, Outcome, leaves, Counting, uncounted, chosen, callee_of, exec_all, body_of}
use Rattle.ep_core.specs.Exec.{bodies}
use Rattle.ep_core.specs.Laws.{BodiesStand, TurnsStay}
use Rattle.ep_core.proofs.Shifts.{Starts, more_turns, bodies_pair, all_starts}

module _ (o : Order) (p : Program) (c : Counting) where
  body_at : (n k : ℕ) (t : Bool) → nat_eq k n ≡ t → k < suc n
      → (k < n → bodies o p c n k ≡ body_of o p c (slice_get p.functions k) k (bodies o p c k))
      → chosen t (body_of o p c (slice_get p.functions n) n (bodies o p c n)) (bodies o p c n k)
      ≡ body_of o p c (slice_get p.functions k) k (bodies o p c k)
  body_at n k true e lt h =
      let same : n ≡ k = grind arith in ap (λ j. body_of o p c (slice_get p.functions j) j (bodies o p c j)) same
  body_at n k false e lt h = h (grind arith)

  -- the bodies before function n are what they are before any later one
  pub bodies_at : (n k : ℕ) → k < n
      → bodies o p c n k ≡ body_of o p c (slice_get p.functions k) k (bodies o p c k)
  bodies_at zero k lt = absurd (omega arith)
  bodies_at (suc n) k lt = body_at n k (nat_eq k n) refl lt (bodies_at n k)

  -- a function that is before is the callee
  pub callee_is : (here k : ℕ) (f : Function) → k < here → slice_get p.functions k ≡ Some f
      → callee_of p here k ≡ Some f
  callee_is here k f lt e = let before : nat_lt k here ≡ true = lt-ltb k here lt in rw before e

pub bodies_stand : BodiesStand
bodies_stand p o c n k lt = bodies_at o p c n k lt

left_is : (w : Way) (left n : ℕ) (s : State) → leaves w left s ≡ leaves w n s → left ≡ n
left_is w left n s e = cc

pub turns_stay : TurnsStay
turns_stay p o here m ss n s w left r e =
    let run : Outcome = exec_all o p uncounted here (bodies o p uncounted m) ss n s in
    let starts : Starts (λ j. n) run run
    = all_starts n uncounted uncounted (λ j. n) (more_turns n n (omega arith)) o p here (bodies o p uncounted m)
    (bodies o p uncounted m) (bodies_pair n uncounted uncounted (λ j. n) (more_turns n n (omega arith)) o p m) ss n s
    (omega arith) in
    left_is w left n r (subst (λ x. Starts (λ j. n) x x) e starts)
