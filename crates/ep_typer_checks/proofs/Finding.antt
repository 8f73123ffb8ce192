-- Calls that break a rule, among the calls of a text.
use Rattle.std.proofs.Common.{◌≡◌, ℕ, ◌+◌, ◌<◌, ◌≤◌, nat_eq, ◌==◌, Bool, true, false, ◌||◌, cond, inl, inr, List}
use Rattle.ep_core.proofs.Sorts.{never}
use Rattle.ep_call_graph.proofs.Lists.{front_at}
use Rattle.ep_int.proofs.Basics.{nat_eq-self, or_false-right}
use Rattle.std.proofs.lemmas.Bool.{eqb-true}
use Rattle.std.proofs.lemmas.Bool.{or_cases, or_left, or_right}
use Rattle.std.proofs.Common.{[], ◌∷◌, ◌++◌, length, get_or, map, drop, Option, Some, None, refl, sym, ap, ◌∙◌, subst}
use Rattle.std.specs.List.{filter, find}
use Rattle.std.specs.Prelude.{slice_index}
use Rattle.std.proofs.lemmas.List.{drop_all}
use Rattle.ep_int.specs.Memory.{contains}
use Rattle.ep_elaboration.specs.Calls.{Call, call_at, callees, calls_of, is_recursive}
use Rattle.ep_elaboration.specs.Leads.{DoesCall, IsLabelled, AreAmong}
use Rattle.ep_elaboration.proofs.Labels.{recurs}
use Rattle.ep_call_graph.specs.declared.places.CallSite.{CallSite}
use Rattle.ep_call_graph.specs.View.{call_site, call_sites}
use Rattle.ep_typer_checks.specs.Checks.{closes}

-- ---- one place after another

abbrev pub found : (Call → Bool) → List CallSite → Option Call
found test ps = find test (calls_of (call_sites ps))

module _ (test : Call → Bool) (p : CallSite) (ps : List CallSite) where
  skip_none : (o : Option ℕ) → o ≡ None → find test (call_at (call_site p) o ++ calls_of (call_sites ps)) ≡ found test ps
  skip_none None e = refl
  skip_none (Some g) e = absurd cc

  at_some : (o : Option ℕ) (g : ℕ) → o ≡ Some g → find test (call_at (call_site p) o ++ calls_of (call_sites ps))
      ≡ cond (test (record { caller = p.caller; line = p.line; callee = g }))
      (Some (record { caller = p.caller; line = p.line; callee = g })) (found test ps)
  at_some None g e = absurd cc
  at_some (Some h) g e =
      let q : h ≡ g = cc in
      ap (λ (k : ℕ). cond (test (record { caller = p.caller; line = p.line; callee = k }))
      (Some (record { caller = p.caller; line = p.line; callee = k })) (found test ps)) q

module _ (test : Call → Bool) (i : ℕ) (ps : List CallSite) (d : CallSite) (lt : i < length ps) where
  at_front : found test (drop i ps) ≡ found test (get_or ps i d ∷ drop (i + 1) ps)
  at_front = ap (found test) (front_at i ps d lt)

  pub goes_on : (all : Option Call) → (get_or ps i d).callee ≡ None → found test (drop i ps) ≡ all
      → found test (drop (i + 1) ps) ≡ all
  goes_on all e h =
      sym (skip_none test (get_or ps i d) (drop (i + 1) ps) (get_or ps i d).callee e) ∙ sym at_front ∙ h

  pub passes : (all : Option Call) (g : ℕ) → (get_or ps i d).callee ≡ Some g
      → test (record { caller = (get_or ps i d).caller; line = (get_or ps i d).line; callee = g }) ≡ false
      → found test (drop i ps) ≡ all → found test (drop (i + 1) ps) ≡ all
  passes all g e t h =
      sym (at_some test (get_or ps i d) (drop (i + 1) ps) (get_or ps i d).callee g e
      ∙ ap (λ (b : Bool). cond b (Some (record { caller = (get_or ps i d).caller; line = (get_or ps i d).line; callee = g }))
      (found test (drop (i + 1) ps))) t)
      ∙ sym at_front ∙ h

  pub breaks : (all : Option Call) (g : ℕ) → (get_or ps i d).callee ≡ Some g
      → test (record { caller = (get_or ps i d).caller; line = (get_or ps i d).line; callee = g }) ≡ true
      → found test (drop i ps) ≡ all
      → all ≡ Some (record { caller = (get_or ps i d).caller; line = (get_or ps i d).line; callee = g })
  breaks all g e t h =
      sym h ∙ at_front ∙ at_some test (get_or ps i d) (drop (i + 1) ps) (get_or ps i d).callee g e
      ∙ ap (λ (b : Bool). cond b (Some (record { caller = (get_or ps i d).caller; line = (get_or ps i d).line; callee = g }))
      (found test (drop (i + 1) ps))) t

pub none_found : (test : Call → Bool) (i : ℕ) (ps : List CallSite) (all : Option Call) → length ps ≤ i
    → found test (drop i ps) ≡ all → all ≡ None
none_found test i ps all le h = sym h ∙ ap (found test) (drop_all i ps le)

-- ---- what holds of each call

abbrev pub Each : (Call → Type 0) → List Call → Type 0
Each P [] = Unit {0}
Each P (c ∷ cs) = P c × Each P cs

pub each_so : (P Q : Call → Type 0) (cs : List Call) → ((c : Call) → P c → Q c) → Each P cs → Each Q cs
each_so P Q [] f h = tt
each_so P Q (c ∷ cs) f h = (f c h.0, each_so P Q cs f h.1)

in_front : (f : ℕ) (c : Call) (cs : List Call) (g : ℕ) → DoesCall cs f g → DoesCall (c ∷ cs) f g
in_front f c cs g h = at_c (nat_eq c.caller f)
  where
    at_c : (b : Bool) → contains g (map (λ (x : Call). x.callee) (cond b (c ∷ filter (λ (x : Call). x.caller == f) cs) (filter (λ (x : Call). x.caller == f) cs))) ≡ true
    at_c true = or_right (nat_eq g c.callee) (contains g (callees cs f)) h
    at_c false = h

first_call : (c : Call) (cs : List Call) → DoesCall (c ∷ cs) c.caller c.callee
first_call c cs = rw (nat_eq-self c.caller) (or_left (nat_eq c.callee c.callee) (contains c.callee (callees cs c.caller)) (nat_eq-self c.callee))

-- each is a call
pub each_calls : (cs : List Call) → Each (λ c. DoesCall cs c.caller c.callee) cs
each_calls [] = tt
each_calls (c ∷ cs) = (
  first_call c cs,
  each_so (λ d. DoesCall cs d.caller d.callee) (λ d. DoesCall (c ∷ cs) d.caller d.callee) cs
      (λ d h. in_front d.caller c cs d.callee h) (each_calls cs),
)

pub same_found : (test other : Call → Bool) (cs : List Call) → Each (λ c. test c ≡ other c) cs → find test cs ≡ find other cs
same_found test other [] h = refl
same_found test other (c ∷ cs) h =
    ap (λ (b : Bool). cond b (Some c) (find test cs)) h.0 ∙ ap (λ (o : Option Call). cond (other c) (Some c) o) (same_found test other cs h.1)

all_same : (test other : Call → Bool) (cs : List Call) → ((c : Call) → test c ≡ other c) → Each (λ c. test c ≡ other c) cs
all_same test other [] h = tt
all_same test other (c ∷ cs) h = (h c, all_same test other cs h)

pub always_same : (test other : Call → Bool) (cs : List Call) → ((c : Call) → test c ≡ other c) → find test cs ≡ find other cs
always_same test other cs h = same_found test other cs (all_same test other cs h)

pub none_passes : (test : Call → Bool) (cs : List Call) → find test cs ≡ None → Each (λ c. test c ≡ false) cs
none_passes test [] h = tt
none_passes test (c ∷ cs) h = at_c (test c) refl h (none_passes test cs)
  where
    at_c : (b : Bool) → test c ≡ b → cond b (Some c) (find test cs) ≡ None
        → (find test cs ≡ None → Each (λ d. test d ≡ false) cs) → (test c ≡ false) × Each (λ d. test d ≡ false) cs
    at_c true q k rest = absurd cc
    at_c false q k rest = (q, rest k)

-- what holds of each call holds of each caller and callee
pub of_call : (P : ℕ → ℕ → Type 0) (cs : List Call) → Each (λ c. P c.caller c.callee) cs → (f g : ℕ) → DoesCall cs f g → P f g
of_call P [] h f g d = never d
of_call P (c ∷ cs) h f g d = at_c (nat_eq c.caller f) refl d (of_call P cs h.1 f g)
  where
    at_c : (b : Bool) → nat_eq c.caller f ≡ b
        → contains g (map (λ (x : Call). x.callee) (cond b (c ∷ filter (λ (x : Call). x.caller == f) cs) (filter (λ (x : Call). x.caller == f) cs))) ≡ true
        → (DoesCall cs f g → P f g) → P f g
    at_c false q k rest = rest k
    at_c true q k rest = elim (or_cases (nat_eq g c.callee) (contains g (callees cs f)) k) [
      | inl e ↦ subst (λ (x : ℕ). P x g) (eqb-true c.caller f q) (subst (λ (x : ℕ). P c.caller x) (sym (eqb-true g c.callee e)) h.0)
      | inr e ↦ rest e
    ]

-- ---- recursion by labels

module _ (cs : List Call) (n : ℕ) (labels : List ℕ) (main : ℕ) (among : AreAmong n cs)
    (labelled : IsLabelled (callees cs) (λ f. slice_index labels f)) where
  pub recursive_is : find (is_recursive cs n main) cs ≡ find (closes labels main) cs
  recursive_is = same_found (is_recursive cs n main) (closes labels main) cs
      (each_so (λ c. DoesCall cs c.caller c.callee) (λ c. is_recursive cs n main c ≡ closes labels main c) cs
      (λ c d. ap (λ (b : Bool). c.callee == main || b) (recurs cs n (λ f. slice_index labels f) among labelled c.caller c.callee d))
      (each_calls cs))

  pub none_closed : find (closes labels main) cs ≡ None
      → (f g : ℕ) → DoesCall cs f g → nat_eq (slice_index labels g) (slice_index labels f) ≡ false
  none_closed h = of_call (λ f g. nat_eq (slice_index labels g) (slice_index labels f) ≡ false) cs
      (each_so (λ c. closes labels main c ≡ false) (λ c. nat_eq (slice_index labels c.callee) (slice_index labels c.caller) ≡ false) cs
      (λ c e. or_false-right (c.callee == main) (nat_eq (slice_index labels c.callee) (slice_index labels c.caller)) e)
      (none_passes (closes labels main) cs h))
