-- The checks of a program of two functions, of which the second is `main` and calls the first one alone.
use Rattle.std.proofs.Common.{◌≡◌, ℕ, ◌+◌, ◌≤◌, Bool, true, false, List, [], ◌∷◌, Some, None}
use Rattle.std.proofs.Common.{refl, arith}
use Rattle.std.specs.Prelude.{◌==◌, not, nat_lt, if◌then◌else◌, find, max}
use Rattle.std.proofs.lemmas.Bool.{eqb-true, le-ltb}
use Rattle.ep_int.specs.Memory.{contains}
use Rattle.ep_elaboration.specs.Calls.{Call, CallSite, calls_of, callees, call_sites_in, deepest, callee_depth}
use Rattle.ep_elaboration.specs.Calls.{function_depth, reaches, is_recursive}

-- statements of the first function, 0, which call nothing, and of the second one, 1, which call the first or nothing
pub data AreSites : List CallSite → Type 0 where
  none : AreSites []
  in_first : {p : CallSite} {ps : List CallSite} → p.caller ≡ 0 → p.depth ≤ 2 → p.callee ≡ None → AreSites ps
      → AreSites (p ∷ ps)
  in_second : {p : CallSite} {ps : List CallSite} → p.caller ≡ 1 → p.depth ≤ 1 → p.callee ≡ None → AreSites ps
      → AreSites (p ∷ ps)
  calls_first : {p : CallSite} {ps : List CallSite} → p.caller ≡ 1 → p.depth ≤ 1 → p.callee ≡ Some 0 → AreSites ps
      → AreSites (p ∷ ps)

pub data AreCalls : List Call → Type 0 where
  no_calls : AreCalls []
  more_calls : {c : Call} {cs : List Call} → c.caller ≡ 1 → c.callee ≡ 0 → AreCalls cs → AreCalls (c ∷ cs)

pub calls : {ps : List CallSite} → AreSites ps → AreCalls (calls_of ps)
calls none = no_calls
calls (in_first {ps = ps} a b e s) = rw e (calls s)
calls (in_second {ps = ps} a b e s) = rw e (calls s)
calls (calls_first {ps = ps} a b e s) = rw e (more_calls a refl (calls s))

-- ---- no call breaks a rule

none_of : (f : Call → Bool) (cs : List Call) → ((c : Call) → c.caller ≡ 1 → c.callee ≡ 0 → f c ≡ false)
    → AreCalls cs → find f cs ≡ None
none_of f [] g no_calls = refl
none_of f (c ∷ cs) g (more_calls a b s) = rw (g c a b) (none_of f cs g s)

no_callees : {cs : List Call} → AreCalls cs → callees cs 0 ≡ []
no_callees no_calls = refl
no_callees (more_calls a b s) = rw a (no_callees s)

pub all_bodies : (cs : List Call) → AreCalls cs → find (λ (c : Call). not (contains c.callee (0 ∷ 1 ∷ []))) cs ≡ None
all_bodies cs s = none_of (λ (c : Call). not (contains c.callee (0 ∷ 1 ∷ []))) cs (λ c a b. rw b refl) s

leads_nowhere : (cs : List Call) → callees cs 0 ≡ [] → reaches cs 2 0 1 ≡ false
unfolding reaches
leads_nowhere cs e = rw e refl

pub no_recursion : (cs : List Call) → AreCalls cs → find (is_recursive cs 2 1) cs ≡ None
no_recursion cs s =
    none_of (is_recursive cs 2 1) cs (λ c a b. rw (a, b) (leads_nowhere cs (no_callees s))) s

-- ---- nothing stands deep

at_most : (a b n : ℕ) → a ≤ n → b ≤ n → max a b ≤ n
at_most a b n h k = omega arith

chosen : (t : Bool) (below : ℕ → ℕ) (n : ℕ) (p : CallSite) (ps : List CallSite)
    → (t ≡ true → p.depth + callee_depth below p.callee ≤ n) → deepest below ps ≤ n
    → deepest below (if t then p ∷ ps else ps) ≤ n
chosen true below n p ps h k = at_most (p.depth + callee_depth below p.callee) (deepest below ps) n (h refl) k
chosen false below n p ps h k = k

first_depth : (below : ℕ → ℕ) {ps : List CallSite} → AreSites ps → deepest below (call_sites_in ps 0) ≤ 2
first_depth below none = omega arith
first_depth below (in_first {p = p} {ps = ps} a b e s) =
    chosen (p.caller == 0) below 2 p (call_sites_in ps 0) (λ h. rw e (omega (arith, b))) (first_depth below s)
first_depth below (in_second {p = p} {ps = ps} a b e s) =
    chosen (p.caller == 0) below 2 p (call_sites_in ps 0) (λ h. rw e (omega (arith, b))) (first_depth below s)
first_depth below (calls_first {p = p} {ps = ps} a b e s) =
    chosen (p.caller == 0) below 2 p (call_sites_in ps 0) (λ h. absurd (not_zero p.caller a h)) (first_depth below s) where
      not_zero : (n : ℕ) → n ≡ 1 → (n == 0) ≡ true → ⊥
      not_zero n a h = let e = eqb-true n 0 h in omega (arith, a, e)

second_depth : (below : ℕ → ℕ) {ps : List CallSite} → below 0 ≤ 2 → AreSites ps
    → deepest below (call_sites_in ps 1) ≤ 3
second_depth below h none = omega arith
second_depth below h (in_first {p = p} {ps = ps} a b e s) =
    chosen (p.caller == 1) below 3 p (call_sites_in ps 1) (λ k. rw e (omega (arith, b))) (second_depth below h s)
second_depth below h (in_second {p = p} {ps = ps} a b e s) =
    chosen (p.caller == 1) below 3 p (call_sites_in ps 1) (λ k. rw e (omega (arith, b))) (second_depth below h s)
second_depth below h (calls_first {p = p} {ps = ps} a b e s) =
    chosen (p.caller == 1) below 3 p (call_sites_in ps 1) (λ k. rw e (omega (arith, b, h))) (second_depth below h s)

depth : {ps : List CallSite} → AreSites ps → function_depth ps 2 1 ≤ 3
unfolding function_depth
depth {ps = ps} s = second_depth (function_depth ps 1) (first_depth (function_depth ps 0) s) s

pub is_shallow : {ps : List CallSite} → AreSites ps → nat_lt 256 (function_depth ps 2 1) ≡ false
is_shallow {ps = ps} s = let h = depth s in le-ltb 256 (function_depth ps 2 1) (omega (arith, h))
