-- The calls of functions, in the text of a program.
use Rattle.std.proofs.Common.{◌≡◌, ℕ, ◌+◌, ◌<◌, ◌≤◌, List, [], ◌∷◌, ◌++◌, map, Option, Some, None, refl, ◌⊎◌, inl}
use Rattle.std.proofs.Common.{inr, arith}
use Rattle.ep_core.specs.WellFormed.{own_blocks}
use Rattle.ep_typing.specs.Env.{Signature}
use Rattle.ep_elaboration.specs.Calls.{Placed, Stand}
use Rattle.ep_elaboration.specs.Functions.{Defined, numbers_of}
use Rattle.ep_well_formed_laws.proofs.Counts.{count, count_both}
use Rattle.ep_well_formed_laws.proofs.CallNames.{CallsTo, EachCall, callee_number}
use Rattle.ep_well_formed_laws.proofs.FunctionNames.{number_front}

-- a function of this name calls the one of this number somewhere in the text
abbrev pub CalledIn : List Signature → List ℕ → ℕ → List Placed → Type 0
CalledIn fs t k [] = ⊥
CalledIn fs t k (p ∷ ps) = ((p.0 ≡ t) × (callee_number fs p.1.callee ≡ Some k)) ⊎ CalledIn fs t k ps

pub called_front : (fs : List Signature) (t : List ℕ) (k : ℕ) (ps qs : List Placed) → CalledIn fs t k ps
    → CalledIn fs t k (ps ++ qs)
called_front fs t k [] qs h = absurd h
called_front fs t k (p ∷ ps) qs (inl e) = inl e
called_front fs t k (p ∷ ps) qs (inr h) = inr (called_front fs t k ps qs h)

pub called_back : (fs : List Signature) (t : List ℕ) (k : ℕ) (ps qs : List Placed) → CalledIn fs t k qs
    → CalledIn fs t k (ps ++ qs)
called_back fs t k [] qs h = h
called_back fs t k (p ∷ ps) qs h = inr (called_back fs t k ps qs h)

callee_later : (fs late : List Signature) (o : Option (List ℕ)) (k : ℕ) → callee_number fs o ≡ Some k
    → callee_number (fs ++ late) o ≡ Some k
callee_later fs late None k e = absurd cc
callee_later fs late (Some t) k e = number_front fs late t k e

pub called_later : (fs late : List Signature) (t : List ℕ) (k : ℕ) (ps : List Placed) → CalledIn fs t k ps
    → CalledIn (fs ++ late) t k ps
called_later fs late t k [] h = absurd h
called_later fs late t k (p ∷ ps) (inl e) = inl (e.0, callee_later fs late p.1.callee k e.1)
called_later fs late t k (p ∷ ps) (inr h) = inr (called_later fs late t k ps h)

pub calls_later : (fs late : List Signature) (k : ℕ) (st : List Stand) → CallsTo fs k st → CallsTo (fs ++ late) k st
calls_later fs late k [] h = absurd h
calls_later fs late k (s ∷ st) (inl e) = inl (callee_later fs late s.callee k e)
calls_later fs late k (s ∷ st) (inr h) = inr (calls_later fs late k st h)

pub called_of : (fs : List Signature) (t : List ℕ) (k : ℕ) (st : List Stand) → CallsTo fs k st
    → CalledIn fs t k (map (λ s. (t, s)) st)
called_of fs t k [] h = absurd h
called_of fs t k (s ∷ st) (inl e) = inl (refl, e)
called_of fs t k (s ∷ st) (inr h) = inr (called_of fs t k st h)

-- ---- lists of functions

abbrev pub EachDefined : (Defined → Type 0) → List Defined → Type 0
EachDefined P [] = Unit {0}
EachDefined P (d ∷ ds) = P d × EachDefined P ds

pub each_defined : (P Q : Defined → Type 0) → ((d : Defined) → P d → Q d) → (ds : List Defined) → EachDefined P ds
    → EachDefined Q ds
each_defined P Q f [] h = tt
each_defined P Q f (d ∷ ds) h = (f d h.0, each_defined P Q f ds h.1)

pub each_both : (P : Defined → Type 0) (ds es : List Defined) → EachDefined P ds → EachDefined P es
    → EachDefined P (ds ++ es)
each_both P [] es h k = k
each_both P (d ∷ ds) es h k = (h.0, each_both P ds es h.1 k)

-- the blocks of functions
abbrev pub all_own : List Defined → List ℕ
all_own [] = []
all_own (d ∷ ds) = own_blocks d.function ++ all_own ds

pub own_both : (c : ℕ) (ds es : List Defined)
    → count c (all_own (ds ++ es)) ≡ count c (all_own ds) + count c (all_own es)
own_both c [] es = omega arith
own_both c (d ∷ ds) es =
    let e = own_both c ds es in
    let f = count_both c (own_blocks d.function) (all_own (ds ++ es)) in
    let g = count_both c (own_blocks d.function) (all_own ds) in omega (arith, e, f, g)

pub numbers_both : (c : ℕ) (ds es : List Defined)
    → count c (numbers_of (ds ++ es)) ≡ count c (numbers_of ds) + count c (numbers_of es)
numbers_both c [] es = omega arith
numbers_both c (d ∷ ds) es = let e = numbers_both c ds es in omega (arith, e)

-- each function has another number, below this one
pub record NumbersFit (ns : List ℕ) (n : ℕ) : Type 0 where
  pub once : (k : ℕ) → count k ns ≤ 1
  pub small : (k : ℕ) → 1 ≤ count k ns → k < n

-- what a function of this name calls stands in the text
abbrev pub BodyCalls : List Signature → List Placed → Defined → Type 0
BodyCalls fs ps d = EachCall (λ k. CalledIn fs d.function.name k ps) d.function.body
