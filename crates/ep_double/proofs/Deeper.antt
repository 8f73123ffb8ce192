-- Statements inside a statement are less deep, and functions that are called come before their callers.
use Rattle.std.proofs.Common.{◌≡◌, ℕ, zero, suc, ◌+◌, ◌*◌, ◌<◌, ◌≤◌, Bool, List, [], ◌∷◌, Some, slice_get, length}
use Rattle.std.proofs.Common.{get_or, arith, ap, ◌∙◌}
use Rattle.std.specs.declared.alloc.Global.{Global}
use Rattle.std.specs.declared.vec.Vec.{Vec}
use Prim.Native.Nat.{max}
use denote.Param.Weighed.{most, at_most}
use Rattle.ep_int.specs.declared.types.Order.{Order}
use Rattle.ep_core.specs.declared.program.Function.{Function}
use Rattle.ep_core.specs.declared.tree.Expr.{Expr}
use Rattle.ep_core.specs.declared.tree.Stmt.{Stmt}
use Rattle.ep_core.specs.declared.tree.What.TheVariants.{If, Loop, ByOrder, Scope}
use Rattle.ep_core.specs.declared.tree.What.TheViews.{size-Stmt, size-What, size_is-Stmt, sized-If, sized-Loop}
use Rattle.ep_core.specs.declared.tree.What.TheViews.{sized-ByOrder, sized-Scope}

abbrev pub depth : List Stmt → ℕ
depth ss = most size-Stmt ss

-- the functions before number n
abbrev pub before : List Function → ℕ → ℕ
before fs zero = 0
before [] (suc n) = 0
before (f ∷ fs) (suc n) = (4 * depth f.body.items + 4) + before fs n

before_next : (fs : List Function) (k : ℕ) (f : Function) → slice_get fs k ≡ Some f
    → before fs (suc k) ≡ before fs k + (4 * depth f.body.items + 4)
before_next [] zero f e = absurd cc
before_next [] (suc k) f e = absurd cc
before_next (g ∷ fs) zero f e = let d : g ≡ f = cc in ap (λ (z : Function). (4 * depth z.body.items + 4) + 0) d
    ∙ turn (4 * depth f.body.items + 4)
  where
    turn : (n : ℕ) → n + 0 ≡ 0 + n
    turn n = omega arith
before_next (g ∷ fs) (suc k) f e = let i = before_next fs k f e in omega (arith, i)

before_up : (fs : List Function) (k n : ℕ) → k ≤ n → before fs k ≤ before fs n
before_up fs zero n h = omega arith
before_up fs (suc k) zero h = absurd (omega arith)
before_up [] (suc k) (suc n) h = omega arith
before_up (g ∷ fs) (suc k) (suc n) h = let i = before_up fs k n (omega arith) in omega (arith, i)

-- the body of a function before another
pub called_before : (fs : List Function) (k n : ℕ) (f : Function) (ss : List Stmt) → slice_get fs k ≡ Some f → k < n
    → ss ≡ f.body.items → before fs k + (4 * depth ss + 1) < before fs n + 2
called_before fs k n f ss e h d =
    let i = before_next fs k f e in
    let j = before_up fs (suc k) n (omega arith) in
    let m = ap depth d in omega (arith, i, j, m)

pub deeper_if : (s : Stmt) (e : Expr) (a b : Vec Stmt Global) (ss ts : List Stmt) → s.what ≡ If e a b
    → ss ≡ a.items → ts ≡ b.items → 4 * max (depth ss) (depth ts) + 2 < 4 * size-Stmt s
deeper_if s e a b ss ts h d f = let i = size_is-Stmt s in let j = ap size-What h in let k = sized-If e a b in
    let m = ap depth d in let n = ap depth f in omega (arith, i, j, k, m, n)

pub deeper_order : (s : Stmt) (x : Order) (a b : Vec Stmt Global) (ss ts : List Stmt) → s.what ≡ ByOrder x a b
    → ss ≡ a.items → ts ≡ b.items → 4 * max (depth ss) (depth ts) + 2 < 4 * size-Stmt s
deeper_order s x a b ss ts h d f = let i = size_is-Stmt s in let j = ap size-What h in let k = sized-ByOrder x a b in
    let m = ap depth d in let n = ap depth f in omega (arith, i, j, k, m, n)

pub deeper_loop : (s : Stmt) (first : Bool) (e : Expr) (a b : Vec Stmt Global) (ss ts : List Stmt)
    → s.what ≡ Loop first e a b → ss ≡ a.items → ts ≡ b.items
    → 4 * max (depth ss) (depth ts) + 2 < 4 * size-Stmt s
deeper_loop s first e a b ss ts h d f = let i = size_is-Stmt s in let j = ap size-What h in
    let k = sized-Loop first e a b in let m = ap depth d in let n = ap depth f in omega (arith, i, j, k, m, n)

pub deeper_scope : (s : Stmt) (bs : Vec ℕ Global) (a : Vec Stmt Global) (ss : List Stmt) → s.what ≡ Scope bs a
    → ss ≡ a.items → 4 * depth ss + 1 < 4 * size-Stmt s
deeper_scope s bs a ss h d = let i = size_is-Stmt s in let j = ap size-What h in let k = sized-Scope bs a in
    let m = ap depth d in omega (arith, i, j, k, m)

pub deeper_item : (ss : List Stmt) (i : ℕ) (s : Stmt) → i < length ss → s ≡ get_or ss i s
    → 4 * size-Stmt s < 4 * depth ss + 1
deeper_item ss i s h e = let j = at_most size-Stmt ss i s h in let k = ap size-Stmt e in omega (arith, j, k)

pub some_size : (s : Stmt) → 4 ≤ 4 * size-Stmt s
some_size s = let i = size_is-Stmt s in omega (arith, i)
