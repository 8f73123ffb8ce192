-- The order of functions: each behind those that it calls, and just those with bodies.
use Rattle.std.proofs.Common.{◌≡◌, ℕ, zero, suc, ◌+◌, ◌<◌, ◌≤◌, ◌==◌, nat_eq, Bool, true, false, true≢false, cond}
use Rattle.ep_elaboration.proofs.Labels.{one_at}
use Rattle.std.proofs.lemmas.Bool.{or_cases}
use Rattle.std.proofs.lemmas.Option.{slice_get_within}
use Rattle.std.proofs.lemmas.Bool.{or_left, or_right}
use Rattle.std.proofs.Common.{◌||◌, List, [], ◌∷◌, ◌++◌, length, map, find, Option, Some, None, option_map, unwrap_or}
use Rattle.std.proofs.Common.{Ok, refl, sym, ap, ◌∙◌, subst, inl, inr, arith}
use Rattle.std.specs.List.{filter}
use Rattle.std.proofs.lemmas.Bool.Decides.{nat_tests}
use Rattle.std.proofs.lemmas.Bool.{eqb-true}
use Rattle.ep_int.specs.Memory.{contains}
use Rattle.ep_core.proofs.Sorts.{never}
use Rattle.ep_typing.specs.Env.{Signature}
use Rattle.ep_elaboration.specs.Calls.{Call, CallSite, Placed, call_at, callees, calls_of, is_recursive}
use Rattle.ep_elaboration.specs.Calls.{one_after_another, reaches, with_function}
use Rattle.ep_elaboration.specs.Functions.{number_of_function}
use Rattle.ep_elaboration.specs.Programs.{function_number, none_breaks, call_site_of}
use Rattle.ep_elaboration.specs.Leads.{AreAmong, AreInOrder, Descends, DoesCall, calls as leads_on, is_there}
use Rattle.ep_elaboration.proofs.Labels.{ranked}
use Rattle.ep_elaboration.proofs.Paths.{enough, leads}
use Rattle.ep_elaboration.proofs.Behind.{in_last}
use Rattle.ep_well_formed_laws.proofs.CallNames.{callee_number}
use Rattle.ep_well_formed_laws.proofs.FunctionNames.{number_is}
use Rattle.ep_well_formed_laws.proofs.TextCalls.{CalledIn}

-- ---- calls of the text by numbers

one_call_front : (c : Call) (cs : List Call) (f g : ℕ) → contains g (callees cs f) ≡ true
    → contains g (callees (c ∷ cs) f) ≡ true
one_call_front c cs f g h = by (c.caller == f)
  where
    by : (b : Bool) → contains g (map (λ (x : Call). x.callee) (cond b (c ∷ filter (λ (x : Call). x.caller == f) cs)
        (filter (λ (x : Call). x.caller == f) cs))) ≡ true
    by true = or_right (nat_eq g c.callee) (contains g (callees cs f)) h
    by false = h

one_call_here : (c : Call) (cs : List Call) → contains c.callee (callees (c ∷ cs) c.caller) ≡ true
one_call_here c cs = by (c.caller == c.caller) (grind (arith, nat_tests))
  where
    by : (b : Bool) → b ≡ true → contains c.callee
        (map (λ (x : Call). x.callee) (cond b (c ∷ filter (λ (x : Call). x.caller == c.caller) cs)
        (filter (λ (x : Call). x.caller == c.caller) cs))) ≡ true
    by true e = or_left (nat_eq c.callee c.callee) _ (grind (arith, nat_tests))
    by false e = never e

call_behind : (p : CallSite) (o : Option ℕ) (cs : List Call) (f g : ℕ) → contains g (callees cs f) ≡ true
    → contains g (callees (call_at p o ++ cs) f) ≡ true
call_behind p None cs f g h = h
call_behind p (Some k) cs f g h = one_call_front (record { caller = p.caller; line = p.line; callee = k }) cs f g h

pub does_call : (fs : List Signature) (t : List ℕ) (n k : ℕ) (ps : List Placed) → number_of_function fs t ≡ Some n
    → CalledIn fs t k ps
    → DoesCall (calls_of (map (call_site_of fs) ps)) n k
does_call fs t n k [] e h = absurd h
does_call fs t n k (p ∷ ps) e (inr h) =
    call_behind (call_site_of fs p) (call_site_of fs p).callee (calls_of (map (call_site_of fs) ps)) n k (does_call fs t n k ps e h)
does_call fs t n k (p ∷ ps) e (inl h) = by p.1.callee refl h.1
  where
    caller : function_number fs p.0 ≡ n
    caller = ap (λ (x : List ℕ). function_number fs x) h.0 ∙ ap (λ (o : Option ℕ). unwrap_or o 0) e

    by : (o : Option (List ℕ)) → p.1.callee ≡ o → callee_number fs o ≡ Some k
        → contains k (callees (call_at (call_site_of fs p) (option_map (function_number fs) p.1.callee)
        ++ calls_of (map (call_site_of fs) ps)) n) ≡ true
    by None q r = absurd cc
    by (Some u) q r =
        let number : function_number fs u ≡ k = ap (λ (o : Option ℕ). unwrap_or o 0) r in
        let callee : option_map (function_number fs) p.1.callee ≡ Some k = ap (option_map (function_number fs)) q
        ∙ ap (λ (j : ℕ). Some j) number in
        subst (λ (o : Option ℕ). contains k
        (callees (call_at (call_site_of fs p) o ++ calls_of (map (call_site_of fs) ps)) n) ≡ true) (sym callee)
        (subst (λ (j : ℕ). contains k (callees (call_at (call_site_of fs p) (Some k) ++ calls_of (map (call_site_of fs) ps))
        j) ≡ true) caller
        (one_call_here (record { caller = function_number fs p.0; line = (call_site_of fs p).line; callee = k })
        (calls_of (map (call_site_of fs) ps))))

-- ---- each call

abbrev pub EachOne : (Call → Type 0) → List Call → Type 0
EachOne P [] = Unit {0}
EachOne P (c ∷ cs) = P c × EachOne P cs

-- the call of a caller to a callee
pub call_is : (P : Call → Type 0) (cs : List Call) (f g : ℕ) → EachOne P cs → DoesCall cs f g
    → (c : Call) × P c × (c.caller ≡ f) × (c.callee ≡ g)
call_is P [] f g h d = never d
call_is P (c ∷ cs) f g h d = by (c.caller == f) refl d (call_is P cs f g h.1)
  where
    by : (b : Bool) → (c.caller == f) ≡ b
        → contains g (map (λ (x : Call). x.callee) (cond b (c ∷ filter (λ (x : Call). x.caller == f) cs)
        (filter (λ (x : Call). x.caller == f) cs))) ≡ true
        → (DoesCall cs f g → (x : Call) × P x × (x.caller ≡ f) × (x.callee ≡ g))
        → (x : Call) × P x × (x.caller ≡ f) × (x.callee ≡ g)
    by true q e r = elim (or_cases (nat_eq g c.callee) (contains g (callees cs f)) e) [
      | inl s ↦ (c, h.0, eqb-true c.caller f q, sym (eqb-true g c.callee s))
      | inr s ↦ r s
    ]
    by false q e r = r e

none_found : (p : Call → Bool) (cs : List Call) → find p cs ≡ None → EachOne (λ c. p c ≡ false) cs
none_found p [] e = tt
none_found p (c ∷ cs) e = by (p c) refl e (none_found p cs)
  where
    by : (b : Bool) → p c ≡ b → cond b (Some c) (find p cs) ≡ None → (find p cs ≡ None → EachOne (λ c. p c ≡ false) cs)
        → (p c ≡ false) × EachOne (λ c. p c ≡ false) cs
    by true q r f = absurd cc
    by false q r f = (q, f r)

pub none_breaks_is : (k : ℕ) (p : Call → Bool) (cs : List Call) (b : Bool) → none_breaks k (find p cs) ≡ Ok b
    → EachOne (λ c. p c ≡ false) cs
none_breaks_is k p cs b e = by (find p cs) refl e
  where
    by : (o : Option Call) → find p cs ≡ o → none_breaks k o ≡ Ok b → EachOne (λ c. p c ≡ false) cs
    by None q r = none_found p cs q
    by (Some c) q r = absurd cc

-- ---- all numbers are of functions

number_small : (fs : List Signature) (t : List ℕ) → 0 < length fs → function_number fs t < length fs
number_small fs t l = by (number_of_function fs t) refl
  where
    by : (o : Option ℕ) → number_of_function fs t ≡ o → unwrap_or o 0 < length fs
    by None q = l
    by (Some n) q = let r = number_is fs t n q in slice_get_within fs n r.0 r.1

abbrev IsSmall : ℕ → Call → Type 0
IsSmall n c = (c.caller < n) × (c.callee < n)

calls_small : (fs : List Signature) (ps : List Placed) → 0 < length fs
    → EachOne (IsSmall (length fs)) (calls_of (map (call_site_of fs) ps))
calls_small fs [] l = tt
calls_small fs (p ∷ ps) l = by p.1.callee (calls_small fs ps l)
  where
    by : (o : Option (List ℕ)) → EachOne (IsSmall (length fs)) (calls_of (map (call_site_of fs) ps))
        → EachOne (IsSmall (length fs))
        (call_at (call_site_of fs p) (option_map (function_number fs) o) ++ calls_of (map (call_site_of fs) ps))
    by None r = r
    by (Some t) r = ((number_small fs p.0 l, number_small fs t l), r)

pub among : (fs : List Signature) (ps : List Placed) → 0 < length fs
    → AreAmong (length fs) (calls_of (map (call_site_of fs) ps))
among fs ps l f g d =
    let c = call_is (IsSmall (length fs)) (calls_of (map (call_site_of fs) ps)) f g (calls_small fs ps l) d in
    (subst (λ (k : ℕ). k < length fs) c.2 c.1.0, subst (λ (k : ℕ). k < length fs) c.3 c.1.1)

-- ---- ranks

abbrev tally : ℕ → (ℕ → Bool) → ℕ
tally zero s = 0
tally (suc n) s = cond (s n) 1 0 + tally n s

tally_more : (n : ℕ) (s t : ℕ → Bool) → ((x : ℕ) → s x ≡ true → t x ≡ true) → tally n s ≤ tally n t
tally_more zero s t h = omega arith
tally_more (suc n) s t h =
    let a : cond (s n) 1 0 ≤ cond (t n) 1 0 = one_at (s n) (t n) (h n) in
    let b : tally n s ≤ tally n t = tally_more n s t h in omega (arith, a, b)

tally_less : (n u : ℕ) (s t : ℕ → Bool) → ((x : ℕ) → s x ≡ true → t x ≡ true) → u < n → s u ≡ false → t u ≡ true
    → tally n s < tally n t
tally_less zero u s t h l p q = absurd (omega (arith, l))
tally_less (suc n) u s t h l p q = by (nat_eq n u) refl (λ m. tally_less n u s t h m p q)
  where
    by : (b : Bool) → nat_eq n u ≡ b → (u < n → tally n s < tally n t)
        → cond (s n) 1 0 + tally n s < cond (t n) 1 0 + tally n t
    by true e less =
        let same : n ≡ u = eqb-true n u e in
        let off : s n ≡ false = subst (λ (k : ℕ). s k ≡ false) (sym same) p in
        let on : t n ≡ true = subst (λ (k : ℕ). t k ≡ true) (sym same) q in
        let rest : tally n s ≤ tally n t = tally_more n s t h in rw (off, on) (omega (arith, rest))
    by false e less =
        let k : u < n = apart e in
        let rest : tally n s < tally n t = less k in
        let here : cond (s n) 1 0 ≤ cond (t n) 1 0 = one_at (s n) (t n) (h n) in omega (arith, rest, here)
      where
        apart : nat_eq n u ≡ false → u < n
        apart e = grind (arith, nat_tests)

-- where no call leads back, each function calls only those of a smaller rank
pub ranks : (cs : List Call) (n main : ℕ) → AreAmong n cs → 0 < n → EachOne (λ c. is_recursive cs n main c ≡ false) cs
    → (rank : ℕ → ℕ) × Descends cs n rank
ranks cs n main a l none = ranked cs n label a (record {
  not_up = λ f g d. let s : label g < label f = down f g d in omega (arith, s);
  back = λ f g d e. absurd (let s : label g < label f = down f g d in omega (arith, s, e));
}) l (λ f g d. let s : label g < label f = down f g d in grind (arith, nat_tests))
  where
    label : ℕ → ℕ
    label f = tally n (λ x. reaches cs n f x)

    not_back : (f g : ℕ) → DoesCall cs f g → reaches cs n g f ≡ false
    not_back f g d =
        let c = call_is (λ c. is_recursive cs n main c ≡ false) cs f g none d in
        let e : reaches cs n c.0.callee c.0.caller
        ≡ false = second (c.0.callee == main) (reaches cs n c.0.callee c.0.caller) c.1 in
        subst (λ (k : ℕ). reaches cs n k f ≡ false) c.3 (subst (λ (k : ℕ). reaches cs n c.0.callee k ≡ false) c.2 e)
      where
        second : (x y : Bool) → (x || y) ≡ false → y ≡ false
        second true y h = absurd (true≢false h)
        second false y h = h

    down : (f g : ℕ) → DoesCall cs f g → tally n (λ x. reaches cs n g x) < tally n (λ x. reaches cs n f x)
    down f g d =
        let s = a f g d in
        tally_less n f (λ x. reaches cs n g x) (λ x. reaches cs n f x)
        (λ x r. enough cs n a f x s.0 (leads_on f g d (leads cs n g x r))) s.0 (not_back f g d)
        (enough cs n a f f s.0 (is_there f refl))

-- ---- nothing else comes

module _ (cs : List Call) (ns : List ℕ) (bodies : EachOne (λ c. contains c.callee ns ≡ true) cs) where
  abbrev Within : List ℕ → Type 0
  Within xs = (g : ℕ) → contains g xs ≡ true → contains g ns ≡ true

  callee_within : (f g : ℕ) → DoesCall cs f g → contains g ns ≡ true
  callee_within f g d =
      let c = call_is (λ c. contains c.callee ns ≡ true) cs f g bodies d in subst (λ (k : ℕ). contains k ns ≡ true)
      c.3 c.1

  all_within : (one : List ℕ → ℕ → List ℕ) (fs : List ℕ)
      → ((f : ℕ) (done : List ℕ) → contains f ns ≡ true → Within done → Within (one done f)) → Within fs
      → (done : List ℕ) → Within done
      → Within (one_after_another one done fs)
  all_within one [] h w done d = d
  all_within one (f ∷ fs) h w done d =
      all_within one fs h (λ g c. w g (or_right (nat_eq g f) (contains g fs) c)) (one done f)
      (h f done (w f (or_left (nat_eq f f) (contains f fs) (grind (arith, nat_tests)))) d)

  come_within : (b : Bool) (done before : List ℕ) (f : ℕ) → contains f ns ≡ true → Within done → Within before
      → Within (cond b done (before ++ f ∷ []))
  come_within true done before f c d w = d
  come_within false done before f c d w = λ g e. elim (in_last g before f e) [
    | inl k ↦ w g k
    | inr k ↦ subst (λ (j : ℕ). contains j ns ≡ true) (sym k) c
  ]

  one_within : (k : ℕ) (f : ℕ) (done : List ℕ) → contains f ns ≡ true → Within done → Within (with_function cs k done f)
  unfolding with_function
  one_within zero f done c d = come_within (contains f done) done done f c d d
  one_within (suc k) f done c d =
      come_within (contains f done) done (one_after_another (with_function cs k) done (callees cs f)) f c d
      (all_within (with_function cs k) (callees cs f) (one_within k) (λ g e. callee_within f g e) done d)

  pub order_within : (k : ℕ) → Within (one_after_another (with_function cs k) [] ns)
  order_within k = all_within (with_function cs k) ns (one_within k) (λ g c. c) [] (λ g c. never c)

-- ---- each once

pub once_in_order : (cs : List Call) (before xs : List ℕ) → AreInOrder cs before xs → (k : ℕ)
    → contains k before ≡ true → contains k xs ≡ true → ⊥
once_in_order cs before [] h k b e = never e
once_in_order cs before (x ∷ xs) h k b e = elim (or_cases (nat_eq k x) (contains k xs) e) [
  | inl q ↦
      let same : k ≡ x = eqb-true k x q in
      absurd (true≢false (sym (subst (λ (j : ℕ). contains j before ≡ true) same b) ∙ h.0))
  | inr q ↦ once_in_order cs (before ++ x ∷ []) xs h.1.1 k (front k before x b) q
]
  where
    front : (k : ℕ) (ys : List ℕ) (x : ℕ) → contains k ys ≡ true → contains k (ys ++ x ∷ []) ≡ true
    front k [] x c = never c
    front k (y ∷ ys) x c = elim (or_cases (nat_eq k y) (contains k ys) c) [
      | inl q ↦ or_left (nat_eq k y) _ q
      | inr q ↦ or_right (nat_eq k y) _ (front k ys x q)
    ]
