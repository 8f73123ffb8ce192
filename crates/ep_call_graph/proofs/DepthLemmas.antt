-- Depths of functions in their order.
use Rattle.std.proofs.Common.{◌≡◌, ℕ, zero, suc, ◌+◌, ◌<◌, ◌≢◌, nat_eq, max, Bool, true, false, List, length, get_or, set, take}
use Rattle.std.proofs.Common.{[], ◌∷◌, ◌++◌, cond}
use Rattle.ep_core.proofs.Sorts.{never}
use Rattle.std.proofs.lemmas.Bool.{eqb-true}
use Rattle.std.proofs.Common.{drop, inl, inr, refl, sym, ap, ◌∙◌, subst, arith, eq-eqb, get_or-set_same}
use Rattle.std.proofs.Common.{get_or-set_other}
use Rattle.std.specs.Prelude.{slice_index}
use Rattle.std.proofs.lemmas.List.{take_more}
use Rattle.ep_int.specs.Memory.{contains}
use Rattle.std.specs.Global.{Vec}
use Rattle.std.proofs.Common.{Result, Ok, Err, OnOk}
use Rattle.ep_elaboration.specs.Calls.{CallSite, calls_of, callee_depth, deepest, function_depth, call_sites_in}
use Rattle.ep_call_graph.specs.declared.places.CallSite.{CallSite as Site}
use Rattle.ep_elaboration.specs.Leads.{DoesCall, Descends, AreInOrder}
use Rattle.ep_elaboration.proofs.Behind.{in_last}
use Rattle.ep_elaboration.proofs.Turns.{deeper, same_deepest}
use Rattle.ep_call_graph.specs.View.{AreBelow, listed, call_site, call_sites}
use Rattle.ep_call_graph.proofs.Lists.{front_at, placed_more}

pub zero_more : (xs : List ℕ) (f : ℕ) → ((g : ℕ) → slice_index xs g ≡ 0) → slice_index (xs ++ 0 ∷ []) f ≡ 0
zero_more [] zero h = refl
zero_more [] (suc f) h = refl
zero_more (x ∷ xs) zero h = h 0
zero_more (x ∷ xs) (suc f) h = zero_more xs f (λ g. h (suc g))

pub deep_step : (a b rest all : ℕ) → max a (max b rest) ≡ all → max (max a b) rest ≡ all
deep_step a b rest all h = omega arith

-- what is known of a function in order
pub in_order_at : (ps : List CallSite) (fs : List ℕ) (i d : ℕ) → i < length fs
    → AreInOrder (calls_of ps) (take i fs) (drop i fs)
    → (contains (get_or fs i d) (take i fs) ≡ false)
    × (((g : ℕ) → DoesCall (calls_of ps) (get_or fs i d) g → contains g (take i fs) ≡ true)
    × AreInOrder (calls_of ps) (take (i + 1) fs) (drop (i + 1) fs))
in_order_at ps fs i d l a =
    let b = subst (AreInOrder (calls_of ps) (take i fs)) (front_at i fs d l) a in
    (b.0, (b.1.0, subst (λ (xs : List ℕ). AreInOrder (calls_of ps) xs (drop (i + 1) fs)) (sym (take_more fs i d l)) b.1.1))

module _ (ps : List CallSite) (n : ℕ) (rank : ℕ → ℕ) (r : Descends (calls_of ps) n rank) (fs depths new : List ℕ) (i d deep : ℕ)
    (l : i < length fs) (a : AreInOrder (calls_of ps) (take i fs) (drop i fs))
    (inside : get_or fs i d < length depths)
    (right : (f : ℕ) → contains f (take i fs) ≡ true → slice_index depths f ≡ function_depth ps n f)
    (is : deep ≡ deepest (λ g. slice_index depths g) (call_sites_in ps (get_or fs i d)))
    (set_is : new ≡ set depths (get_or fs i d) deep) where
  its_depth : deep ≡ function_depth ps n (get_or fs i d)
  its_depth =
      is ∙ same_deepest (λ g. slice_index depths g) (function_depth ps n) (get_or fs i d) ps
      (λ g c. right g ((in_order_at ps fs i d l a).1.0 g c))
      ∙ sym (deeper ps n rank r (get_or fs i d))

  pub right_on : (f : ℕ) → contains f (take (i + 1) fs) ≡ true → slice_index new f ≡ function_depth ps n f
  right_on f h = at_f (nat_eq f (get_or fs i d)) refl
    where
      at_f : (b : Bool) → nat_eq f (get_or fs i d) ≡ b → slice_index new f ≡ function_depth ps n f
      at_f true e =
          ap (λ (xs : List ℕ). slice_index xs f) set_is
          ∙ subst (λ (x : ℕ). slice_index (set depths (get_or fs i d) deep) x ≡ function_depth ps n x) (sym (eqb-true f (get_or fs i d) e))
          (get_or-set_same depths (get_or fs i d) deep 0 inside ∙ its_depth)
      at_f false e =
          let apart : f ≢ get_or fs i d = λ q. never (sym e ∙ eq-eqb f (get_or fs i d) q) in
          ap (λ (xs : List ℕ). slice_index xs f) set_is ∙ get_or-set_other depths (get_or fs i d) f deep 0 apart
          ∙ right f (earlier apart)
        where
          earlier : f ≢ get_or fs i d → contains f (take i fs) ≡ true
          earlier apart = elim (in_last f (take i fs) (get_or fs i d) (subst (λ (xs : List ℕ). contains f xs ≡ true) (take_more fs i d l) h)) [
            | inl k ↦ k
            | inr q ↦ absurd (apart q)
          ]

pub below_on : (n i d : ℕ) (fs : List ℕ) → i < length fs → AreBelow n (drop i fs) → (get_or fs i d < n) × AreBelow n (drop (i + 1) fs)
below_on n i d fs l a = subst (AreBelow n) (front_at i fs d l) a

-- ---- what is kept of statements

more_deep : (below : ℕ → ℕ) (xs ys : List CallSite) → deepest below (xs ++ ys) ≡ max (deepest below xs) (deepest below ys)
more_deep below [] ys = omega arith
more_deep below (p ∷ xs) ys = let h = more_deep below xs ys in omega (arith, h)

-- a statement more that calls
one_more : (below : ℕ → ℕ) (p : Site) (a f : ℕ) (old new : List Site) → new ≡ old ++ cond (nat_eq p.caller f) (p ∷ []) []
    → max a (deepest below (call_sites new))
    ≡ max (max a (deepest below (call_sites old))) (cond (nat_eq p.caller f) (p.depth + callee_depth below p.callee) 0)
one_more below p a f old new e = at_f (nat_eq p.caller f) (placed_more p f old new e)
  where
    at_f : (b : Bool) → call_sites new ≡ call_sites old ++ cond b (call_site p ∷ []) []
        → max a (deepest below (call_sites new))
        ≡ max (max a (deepest below (call_sites old))) (cond b (p.depth + callee_depth below p.callee) 0)
    at_f true q =
        let h = ap (deepest below) q ∙ more_deep below (call_sites old) (call_site p ∷ []) in omega (arith, h)
    at_f false q =
        let h = ap (deepest below) q ∙ more_deep below (call_sites old) [] in omega (arith, h)

pub calling_more : {E : Type 0} (r : Result (Unit {0}) E) (p : Site) (flat : List ℕ) (old new : List (Vec Site))
    → OnOk r ((f : ℕ) → listed new f ≡ listed old f ++ cond (nat_eq p.caller f) (p ∷ []) [])
    → OnOk r ((below : ℕ → ℕ) → (f : ℕ) → max (slice_index flat f) (deepest below (call_sites (listed new f)))
    ≡ max (max (slice_index flat f) (deepest below (call_sites (listed old f))))
    (cond (nat_eq p.caller f) (p.depth + callee_depth below p.callee) 0))
calling_more (Err x) p flat old new h = tt
calling_more (Ok x) p flat old new h = λ below f.
    one_more below p (slice_index flat f) f (listed old f) (listed new f) (h f)

-- the statements behind one
pub step_deep : (below : ℕ → ℕ) (ps rest : List CallSite) (p : CallSite) (f old new all : ℕ) → ps ≡ p ∷ rest
    → new ≡ max old (cond (nat_eq p.caller f) (p.depth + callee_depth below p.callee) 0)
    → max old (deepest below (call_sites_in ps f)) ≡ all → max new (deepest below (call_sites_in rest f)) ≡ all
step_deep below ps rest p f old new all e n h = at_f (nat_eq p.caller f) refl
  where
    at_f : (b : Bool) → nat_eq p.caller f ≡ b → max new (deepest below (call_sites_in rest f)) ≡ all
    at_f true q =
        let i = ap (λ (xs : List CallSite). deepest below (call_sites_in xs f)) e
        ∙ ap (λ (b : Bool). deepest below (cond b (p ∷ call_sites_in rest f) (call_sites_in rest f))) q in
        let m = n ∙ ap (λ (b : Bool). max old (cond b (p.depth + callee_depth below p.callee) 0)) q in omega (arith, i, m, h)
    at_f false q =
        let i = ap (λ (xs : List CallSite). deepest below (call_sites_in xs f)) e
        ∙ ap (λ (b : Bool). deepest below (cond b (p ∷ call_sites_in rest f) (call_sites_in rest f))) q in
        let m = n ∙ ap (λ (b : Bool). max old (cond b (p.depth + callee_depth below p.callee) 0)) q in omega (arith, i, m, h)
