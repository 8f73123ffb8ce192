-- Statements inside a statement are less deep, and functions that are called come before their callers.
use Rattle.std.proofs.Common.{◌≡◌, ℕ, zero, suc, ◌+◌, ◌*◌, ◌<◌, ◌≤◌, Bool, List, [], ◌∷◌, Some, slice_get, length}
use Rattle.std.proofs.Common.{get_or, arith, ap, ◌∙◌}
use Rattle.std.specs.declared.alloc.Global.{Global}
use Rattle.std.specs.declared.vec.Vec.{Vec}
use Prim.Native.Nat.{max}
use denote.Param.Weighed.{most, at_most}
use Rattle.ep_int.specs.declared.types.Order.{Order}
use Rattle.ep_core.specs.declared.program.Function.{Function}
use Rattle.ep_core.specs.declared.tree.Expr.{Expr}
use Rattle.ep_core.specs.declared.tree.Stmt.{Stmt}
use Rattle.ep_core.specs.declared.tree.What.TheVariants.{If, Loop, ByOrder, Scope}
use Rattle.ep_core.specs.declared.tree.What.TheViews.{size-Stmt, size-What, size_is-Stmt, sized-If, sized-Loop}
use Rattle.ep_core.specs.declared.tree.What.TheViews.{sized-ByOrder, sized-Scope}
use Rattle.ep_flows.specs.declared.setting.Running.{Running}
use Rattle.ep_flows.specs.declared.setting.Running.TheVariants.{Together, Alone}
use Rattle.ep_walk_parts.specs.declared.follow.Parts.{Parts}
use Rattle.ep_walk_parts.specs.declared.follow.Follow.{Follow}
use Rattle.ep_walk_parts.specs.declared.follow.Follow.TheVariants.{Arms, Turn, Cut}

-- both machines may come to run alone
abbrev pub mode_rank : Running → ℕ
mode_rank Together = 24
mode_rank (Alone m) = 0

-- a side goes on alone where both ran before
abbrev pub lone_rank : Running → ℕ
lone_rank Together = 15
lone_rank (Alone m) = 2

abbrev pub depth : List Stmt → ℕ
depth ss = most size-Stmt ss

abbrev pub depth_two : List Stmt → List Stmt → ℕ
depth_two ss ts = max (depth ss) (depth ts)

abbrev pub depth_parts : Parts → ℕ
depth_parts l = depth_two l.body.now l.next.now

abbrev pub depth_follow : Follow → ℕ
depth_follow (Arms l a b) = depth_two a.now b.now
depth_follow (Turn l) = depth_parts l
depth_follow (Cut l) = 0

-- the functions before number n
abbrev pub before : List Function → ℕ → ℕ
before fs zero = 0
before [] (suc n) = 0
before (f ∷ fs) (suc n) = (64 * depth f.body.items + 64) + before fs n

pub before_next : (fs : List Function) (k : ℕ) (f : Function) → slice_get fs k ≡ Some f
    → before fs (suc k) ≡ before fs k + (64 * depth f.body.items + 64)
before_next [] zero f e = absurd cc
before_next [] (suc k) f e = absurd cc
before_next (g ∷ fs) zero f e = let d : g ≡ f = cc in ap (λ (z : Function). (64 * depth z.body.items + 64) + 0) d
    ∙ turn (64 * depth f.body.items + 64)
  where
    turn : (n : ℕ) → n + 0 ≡ 0 + n
    turn n = omega arith
before_next (g ∷ fs) (suc k) f e = let i = before_next fs k f e in omega (arith, i)

pub before_after : (fs : List Function) (k : ℕ) (f : Function) → slice_get fs k ≡ Some f
    → before fs (k + 1) ≡ before fs k + (64 * depth f.body.items + 64)
before_after fs k f e = ap (before fs) (plus k) ∙ before_next fs k f e
  where
    plus : (n : ℕ) → n + 1 ≡ suc n
    plus n = omega arith

pub before_up : (fs : List Function) (k n : ℕ) → k ≤ n → before fs k ≤ before fs n
before_up fs zero n h = omega arith
before_up fs (suc k) zero h = absurd (omega arith)
before_up [] (suc k) (suc n) h = omega arith
before_up (g ∷ fs) (suc k) (suc n) h = let i = before_up fs k n (omega arith) in omega (arith, i)

pub rank_small : (m : Running) → mode_rank m ≤ 24
rank_small Together = omega arith
rank_small (Alone m) = omega arith

pub deeper_if : (s : Stmt) (e : Expr) (a b : Vec Stmt Global) (ss ts : List Stmt) → s.what ≡ If e a b → ss ≡ a.items
    → ts ≡ b.items → 64 * depth_two ss ts + 60 < 64 * size-Stmt s
deeper_if s e a b ss ts h d f = let i = size_is-Stmt s in let j = ap size-What h in let k = sized-If e a b in let m =
    ap depth d in let n = ap depth f in omega (arith, i, j, k, m, n)

pub deeper_order : (s : Stmt) (x : Order) (a b : Vec Stmt Global) (ss ts : List Stmt) → s.what ≡ ByOrder x a b
    → ss ≡ a.items → ts ≡ b.items → 64 * depth_two ss ts + 60 < 64 * size-Stmt s
deeper_order s x a b ss ts h d f = let i = size_is-Stmt s in let j = ap size-What h in let k = sized-ByOrder x a b in
    let m = ap depth d in let n = ap depth f in omega (arith, i, j, k, m, n)

pub deeper_loop : (s : Stmt) (first : Bool) (e : Expr) (a b : Vec Stmt Global) (ss ts : List Stmt)
    → s.what ≡ Loop first e a b → ss ≡ a.items → ts ≡ b.items → 64 * depth_two ss ts + 61 < 64 * size-Stmt s
deeper_loop s first e a b ss ts h d f = let i = size_is-Stmt s in let j = ap size-What h in let k = sized-Loop first e
    a b in let m = ap depth d in let n = ap depth f in omega (arith, i, j, k, m, n)

pub deeper_scope : (s : Stmt) (bs : Vec ℕ Global) (a : Vec Stmt Global) (ss : List Stmt) → s.what ≡ Scope bs a
    → ss ≡ a.items → 64 * depth ss + 60 < 64 * size-Stmt s
deeper_scope s bs a ss h d = let i = size_is-Stmt s in let j = ap size-What h in let k = sized-Scope bs a in let m =
    ap depth d in omega (arith, i, j, k, m)

pub deeper_item : (ss : List Stmt) (i : ℕ) (s : Stmt) → i < length ss → s ≡ get_or ss i s
    → 64 * size-Stmt s < 64 * depth ss + 1
deeper_item ss i s h e = let j = at_most size-Stmt ss i s h in let k = ap size-Stmt e in omega (arith, j, k)

pub some_size : (s : Stmt) → 64 ≤ 64 * size-Stmt s
some_size s = let i = size_is-Stmt s in omega (arith, i)

pub lone_less : (m : Running) → lone_rank m < mode_rank m + 4
lone_less Together = omega arith
lone_less (Alone m) = omega arith
