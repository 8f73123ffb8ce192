-- Arms by byte order.
use Rattle.std.proofs.Common.{◌≡◌, ℕ, ◌≤◌, Bool, true, false, List, sym, ap, subst, arith, Result, if◌then◌else◌}
use Rattle.ep_int.specs.declared.types.Memory.{Memory}
use Rattle.ep_int.specs.declared.types.Order.{Order}
use Rattle.ep_core.specs.declared.tree.Stmt.{Stmt}
use Rattle.ep_core.specs.Program.{Program, by_order}
use Rattle.ep_core.specs.Runs.{Side, left, right}
use Rattle.ep_core.specs.Exec.{is_order}
use Rattle.ep_core.specs.View.{stmts_view}
use Rattle.ep_pass.specs.States.{Mode, Both, One, StateOps}
use Rattle.ep_pass.specs.Pass.{Pass, apart, arm_of}
use Rattle.ep_flows.specs.View.{Told, Passes, Plan}
use Rattle.ep_walk_parts.specs.Pieces.{o, one, row}
use Rattle.ep_flows.specs.declared.flow.Flow.{Flow}
use Rattle.ep_walk_parts.proofs.Deeper.{depth, depth_two}

pub arm_depth : (b : Bool) (ys ns x : List Stmt) → x ≡ (if b then ys else ns) → depth x ≤ depth_two ys ns
arm_depth true a b x e = let i = ap depth e in omega (arith, i)
arm_depth false a b x e = let i = ap depth e in omega (arith, i)

module _ {S : Type 0} (ops : Program → (Side → Order) → StateOps S) (c : Plan) (here : ℕ) (ys ns : List Stmt) (s : S)
    (x : Result (Flow S) Memory) (old new : Told S) where
  abbrev P : Mode → S → Pass S
  P m s = row ops c here (stmts_view ys) m s

  abbrev Q : Mode → S → Pass S
  Q m s = row ops c here (stmts_view ns) m s

  abbrev R : List Stmt → Mode → S → Pass S
  R ss m s = row ops c here (stmts_view ss) m s

  abbrev Goes : Pass S → Type 0
  Goes p = Passes p x old new

  -- one side's arm
  arm_alone : (b : Bool) (m : Mode) (a : List Stmt) → a ≡ (if b then ys else ns) → Goes (R a m s)
      → Goes (arm_of (o ops c) b P Q m s)
  arm_alone true m a e h = subst (λ z. Goes (R z m s)) e h
  arm_alone false m a e h = subst (λ z. Goes (R z m s)) e h

  arms_both : (l : ℕ) (b d : Bool) (u v : List Stmt) → u ≡ (if b then ys else ns) → v ≡ (if d then ys else ns)
      → Goes (apart (o ops c) l (R u) (R v) s) → Goes (apart (o ops c) l (arm_of (o ops c) b P Q) (arm_of
      (o ops c) d P Q) s)
  arms_both l true true u v e f h = subst (λ z. Goes (apart (o ops c) l P (R z) s)) f (subst (λ z. Goes (apart
      (o ops c) l (R z) (R v) s)) e h)
  arms_both l true false u v e f h = subst (λ z. Goes (apart (o ops c) l P (R z) s)) f (subst (λ z. Goes (apart
      (o ops c) l (R z) (R v) s)) e h)
  arms_both l false true u v e f h = subst (λ z. Goes (apart (o ops c) l Q (R z) s)) f (subst (λ z. Goes (apart
      (o ops c) l (R z) (R v) s)) e h)
  arms_both l false false u v e f h = subst (λ z. Goes (apart (o ops c) l Q (R z) s)) f (subst (λ z. Goes (apart
      (o ops c) l (R z) (R v) s)) e h)

  pub order_both : (n : Order) (l : ℕ) (m : Mode) (u v : List Stmt) → m ≡ Both
      → u ≡ (if is_order (c.order left) n then ys else ns) → v ≡ (if is_order (c.order right) n then ys else ns)
      → Goes (apart (o ops c) l (R u) (R v) s)
      → Goes (one ops c here (by_order n (stmts_view ys) (stmts_view ns)) m l s)
  order_both n l m u v em e f h = subst (λ m. Goes (one ops c here (by_order n (stmts_view ys)
      (stmts_view ns)) m l s)) (sym em) (arms_both l (is_order (c.order left) n) (is_order (c.order right) n) u v e f
      h)

  pub order_alone : (n : Order) (l : ℕ) (m : Mode) (k : Side) (u : List Stmt) → m ≡ One k
      → u ≡ (if is_order (c.order k) n then ys else ns) → Goes (R u (One k) s)
      → Goes (one ops c here (by_order n (stmts_view ys) (stmts_view ns)) m l s)
  order_alone n l m k u em e h = subst (λ m. Goes (one ops c here (by_order n (stmts_view ys)
      (stmts_view ns)) m l s)) (sym em) (arm_alone (is_order (c.order k) n) (One k) u e h)
