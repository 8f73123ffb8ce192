-- Heads that are tried take no numbers, so a pass with them is at number 0 all along, by computing. Turns one by one
-- are then those of one turn and a last one.
use Rattle.std.proofs.Common.{◌≡◌, ℕ, zero, suc, ◌-◌, refl, ap, Option, Some, None, true, false}
use Rattle.ep_core.specs.Program.{Expr}
use Rattle.ep_pass.specs.States.{Mode, Both, StateOps}
use Rattle.ep_pass.specs.Pass.{Ways, none, Log, Pass, after, go_on, then_pass, leave_loop, unrolled, settled, tried}
use Rattle.ep_pass.specs.Pass.{in_body, joint_turn, joint_rounds, loop_pass}

module _ {S : Type 0} (o : StateOps S) (u limit l : ℕ) (e : Expr) (body : (before : ℕ) → Mode → S → Pass S) where
  abbrev turn : Ways S → S → Pass S
  turn w s = joint_turn o u l e (body 0) w s

  -- the turns from heads
  abbrev pub tries : Ways S → S → Pass S
  tries w s = settled o (turn w) (limit - 1) (o.reshared s)

  same_go : (v : Option S) (w : Ways S) (g : Log S) (f h : S → Ways S → Pass S)
      → ((s : S) (w : Ways S) → f s w ≡ h s w) → go_on o v w g f ≡ go_on o v w g h
  same_go None w g f h k = refl
  same_go (Some s) w g f h k = ap (after g) (k s w)

  pub rounds : (k : ℕ) (s : S) (w : Ways S)
      → joint_rounds o u (tried o limit) l e body k 0 s w ≡ unrolled o turn tries k s w
  rounds zero s w = refl
  rounds (suc k) s w =
      let p = turn w s in
      same_go p.on p.ways p.log (joint_rounds o u (tried o limit) l e body k 0) (unrolled o turn tries k) (rounds k)

  pub whiles : (s : S)
      → loop_pass o u (tried o limit) l e body 0 Both true s ≡ leave_loop (unrolled o turn tries u s none)
  whiles s = ap leave_loop (rounds u s none)

  pub dos : (s : S)
      → loop_pass o u (tried o limit) l e body 0 Both false s
      ≡ leave_loop (then_pass o (in_body o u l e (body 0) Both s) none (unrolled o turn tries (u - 1)))
  dos s =
      let p = in_body o u l e (body 0) Both s in
      ap leave_loop
      (same_go p.on _ p.log (joint_rounds o u (tried o limit) l e body (u - 1) 0) (unrolled o turn tries (u - 1))
      (rounds (u - 1)))
