-- Where each function calls only those of a smaller rank, more calls than ranks change nothing.
use Rattle.std.proofs.Common.{◌≡◌, ℕ, zero, suc, ◌<◌, ◌==◌, nat_eq, Bool, true, false, cond, List, [], ◌∷◌, ◌++◌, map}
use Rattle.ep_int.proofs.Basics.{nat_eq-self}
use Rattle.std.proofs.lemmas.Bool.{or_left, or_right}
use Rattle.std.proofs.Common.{Option, Some, None, refl, sym, ap, ◌∙◌, subst, arith}
use Rattle.std.specs.List.{filter}
use Rattle.ep_int.specs.Memory.{contains}
use Rattle.ep_elaboration.specs.Calls.{Call, CallSite, call_at, callee_depth, callees, calls_of, deepest, function_depth}
use Rattle.ep_elaboration.specs.Calls.{one_after_another, call_sites_in, unless_come, with_function}
use Rattle.ep_elaboration.specs.Leads.{DoesCall, Descends}

-- ---- the order of functions

pub one_by_one : (one two : List ℕ → ℕ → List ℕ) (fs : List ℕ)
    → ((f : ℕ) → contains f fs ≡ true → (done : List ℕ) → one done f ≡ two done f) → (done : List ℕ)
    → one_after_another one done fs ≡ one_after_another two done fs
one_by_one one two [] e done = refl
one_by_one one two (f ∷ fs) e done =
    ap (λ (d : List ℕ). one_after_another one d fs) (e f (or_left (nat_eq f f) (contains f fs) (nat_eq-self f)) done)
    ∙ one_by_one one two fs (λ g h. e g (or_right (nat_eq g f) (contains g fs) h)) (two done f)

module _ (cs : List Call) (n : ℕ) (rank : ℕ → ℕ) (d : Descends cs n rank) where
  same_order : (j k f : ℕ) → rank f < j → rank f < k → (done : List ℕ)
      → with_function cs j done f ≡ with_function cs k done f
  unfolding with_function
  same_order zero k f l m done = absurd (omega arith)
  same_order (suc j) zero f l m done = absurd (omega arith)
  same_order (suc j) (suc k) f l m done =
      ap (unless_come done f) (one_by_one (with_function cs j) (with_function cs k) (callees cs f)
      (λ g c e. let s : rank g < rank f = d.down f g c in same_order j k g (omega arith) (omega arith) e) done)

  pub one_more : (done : List ℕ) (f : ℕ)
      → with_function cs n done f ≡ unless_come done f (one_after_another (with_function cs n) done (callees cs f))
  unfolding with_function
  one_more done f =
      let s : rank f < n = d.small f in
      same_order n (suc n) f s (omega arith) done

-- ---- depths

in_front : (f : ℕ) (c : Call) (cs : List Call) (g : ℕ) → contains g (callees cs f) ≡ true
    → contains g (callees (c ∷ cs) f) ≡ true
in_front f c cs g h = at_c (nat_eq c.caller f)
  where
    at_c : (b : Bool) → contains g (map (λ (x : Call). x.callee) (cond b (c ∷ filter (λ (x : Call). x.caller == f) cs) (filter (λ (x : Call). x.caller == f) cs))) ≡ true
    at_c true = or_right (nat_eq g c.callee) (contains g (callees cs f)) h
    at_c false = h

behind_place : (f : ℕ) (p : CallSite) (ps : List CallSite) (o : Option ℕ) (g : ℕ) → contains g (callees (calls_of ps) f) ≡ true
    → contains g (callees (call_at p o ++ calls_of ps) f) ≡ true
behind_place f p ps None g h = h
behind_place f p ps (Some k) g h = in_front f (record { caller = p.caller; line = p.line; callee = k }) (calls_of ps) g h

at_place : (f : ℕ) (p : CallSite) (ps : List CallSite) (g : ℕ) → nat_eq p.caller f ≡ true
    → contains g (callees (call_at p (Some g) ++ calls_of ps) f) ≡ true
at_place f p ps g e = rw e (or_left (nat_eq g g) (contains g (callees (calls_of ps) f)) (nat_eq-self g))

-- the deepest place of a function, where what it calls is as deep
pub same_deepest : (below other : ℕ → ℕ) (f : ℕ) (ps : List CallSite)
    → ((g : ℕ) → DoesCall (calls_of ps) f g → below g ≡ other g)
    → deepest below (call_sites_in ps f) ≡ deepest other (call_sites_in ps f)
same_deepest below other f [] e = refl
same_deepest below other f (p ∷ ps) e =
    at_p (nat_eq p.caller f) refl (same_deepest below other f ps (λ g h. e g (behind_place f p ps p.callee g h)))
  where
    callee_is : (o : Option ℕ) → p.callee ≡ o → nat_eq p.caller f ≡ true → callee_depth below o ≡ callee_depth other o
    callee_is None q c = refl
    callee_is (Some g) q c =
        e g (subst (λ (o : Option ℕ). contains g (callees (call_at p o ++ calls_of ps) f) ≡ true) (sym q) (at_place f p ps g c))

    at_p : (b : Bool) → nat_eq p.caller f ≡ b → deepest below (call_sites_in ps f) ≡ deepest other (call_sites_in ps f)
        → deepest below (cond b (p ∷ call_sites_in ps f) (call_sites_in ps f))
        ≡ deepest other (cond b (p ∷ call_sites_in ps f) (call_sites_in ps f))
    at_p true q rest = rw (callee_is p.callee refl q, rest) refl
    at_p false q rest = rest

module _ (ps : List CallSite) (n : ℕ) (rank : ℕ → ℕ) (d : Descends (calls_of ps) n rank) where
  same_depth : (j k f : ℕ) → rank f < j → rank f < k → function_depth ps j f ≡ function_depth ps k f
  unfolding function_depth
  same_depth zero k f l m = absurd (omega arith)
  same_depth (suc j) zero f l m = absurd (omega arith)
  same_depth (suc j) (suc k) f l m = same_deepest (function_depth ps j) (function_depth ps k) f ps
      (λ g c. let s : rank g < rank f = d.down f g c in same_depth j k g (omega arith) (omega arith))

  pub deeper : (f : ℕ) → function_depth ps n f ≡ deepest (function_depth ps n) (call_sites_in ps f)
  unfolding function_depth
  deeper f = let s : rank f < n = d.small f in same_depth n (suc n) f s (omega arith)
