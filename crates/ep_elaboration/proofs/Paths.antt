-- A way from function to function that comes to none twice has at most as many calls as there are functions.
use Rattle.std.proofs.Common.{◌≡◌, ℕ, zero, suc, ◌+◌, ◌<◌, ◌≤◌, nat_eq, Bool, true, false, ◌||◌, cond, ◌⊎◌, inl, inr}
use Rattle.ep_core.proofs.Sorts.{never}
use Rattle.ep_int.proofs.Basics.{nat_eq-self}
use Rattle.std.proofs.lemmas.Bool.{or_cases, or_left, or_right}
use Rattle.std.proofs.Common.{List, [], ◌∷◌, refl, sym, ap, ◌∙◌, subst, arith, eqb-true, eq-eqb, ne_eqb}
use Rattle.std.specs.List.{list_any}
use Rattle.ep_int.specs.Memory.{contains}
use Rattle.ep_elaboration.specs.Calls.{Call, callees, reaches}
use Rattle.ep_elaboration.specs.Leads.{DoesCall, Leads, is_there, calls, AreAmong}

-- ---- tests

-- a member that passes
pub any_of : (test : ℕ → Bool) (xs : List ℕ) (h : ℕ) → contains h xs ≡ true → test h ≡ true → list_any test xs ≡ true
any_of test [] h m t = never m
any_of test (x ∷ xs) h m t = elim (or_cases (nat_eq h x) (contains h xs) m) [
  | inl e ↦ or_left (test x) (list_any test xs) (subst (λ (k : ℕ). test k ≡ true) (eqb-true h x e) t)
  | inr e ↦ or_right (test x) (list_any test xs) (any_of test xs h e t)
]

pub some_of : (test : ℕ → Bool) (xs : List ℕ) → list_any test xs ≡ true
    → (h : ℕ) × ((contains h xs ≡ true) × (test h ≡ true))
some_of test [] t = never t
some_of test (x ∷ xs) t = elim (or_cases (test x) (list_any test xs) t) [
  | inl e ↦ (x, (or_left (nat_eq x x) (contains x xs) (nat_eq-self x), e))
  | inr e ↦ let r = some_of test xs e in (r.0, (or_right (nat_eq r.0 x) (contains r.0 xs) r.1.0, r.1.1))
]

-- ---- marks

abbrev pub marked : (ℕ → Bool) → ℕ → ℕ → Bool
marked s u x = nat_eq x u || s x

-- how many of so many numbers have no mark
abbrev unmarked : ℕ → (ℕ → Bool) → ℕ
unmarked zero s = 0
unmarked (suc n) s = cond (s n) 0 1 + unmarked n s

all_unmarked : (n : ℕ) → unmarked n (λ x. false) ≡ n
all_unmarked zero = refl
all_unmarked (suc n) = ap (λ k. 1 + k) (all_unmarked n) ∙ omega arith

past : (n u : ℕ) (s : ℕ → Bool) → n ≤ u → unmarked n (marked s u) ≡ unmarked n s
past zero u s l = refl
past (suc n) u s l =
    let e : nat_eq n u ≡ false = ne_eqb n u (omega arith) in
    let p : unmarked n (marked s u) ≡ unmarked n s = past n u s (omega arith) in
    rw (e, p) refl

one_less : (n u : ℕ) (s : ℕ → Bool) → u < n → s u ≡ false → unmarked n s ≡ 1 + unmarked n (marked s u)
one_less zero u s l h = absurd (omega arith)
one_less (suc n) u s l h = at_n (nat_eq n u) refl (λ m. one_less n u s m h)
  where
    at_n : (b : Bool) → nat_eq n u ≡ b → (u < n → unmarked n s ≡ 1 + unmarked n (marked s u))
        → cond (s n) 0 1 + unmarked n s ≡ 1 + (cond (nat_eq n u || s n) 0 1 + unmarked n (marked s u))
    at_n true e less =
        let same_number : n ≡ u = eqb-true n u e in
        let free : s n ≡ false = subst (λ (k : ℕ). s k ≡ false) (sym same_number) h in
        let rest : unmarked n (marked s u) ≡ unmarked n s = past n u s (omega arith) in
        rw (e, free, rest) (omega arith)
    at_n false e less =
        let apart : (n ≡ u) → ⊥ = λ q. never (sym e ∙ eq-eqb n u q) in
        let smaller : u < n = omega (arith, apart) in
        let rest : unmarked n s ≡ 1 + unmarked n (marked s u) = less smaller in
        rw e (rw rest (omega arith))

none_left : (n u : ℕ) (s : ℕ → Bool) → u < n → s u ≡ false → unmarked n s ≡ 0 → ⊥
none_left n u s l h z = let r : unmarked n s ≡ 1 + unmarked n (marked s u) = one_less n u s l h in omega arith

-- ---- ways

module _ (cs : List Call) where
  -- a way that comes to no marked function
  data Way (s : ℕ → Bool) (to : ℕ) : ℕ → Type 0 where
    ends : (f : ℕ) → s f ≡ false → f ≡ to → Way s to f
    goes : (f g : ℕ) → s f ≡ false → DoesCall cs f g → Way s to g → Way s to f

  start_free : (s : ℕ → Bool) (to f : ℕ) → Way s to f → s f ≡ false
  start_free s to f (ends _ h e) = h
  start_free s to f (goes _ g h k w) = h

  any_way : (to f : ℕ) → Leads (callees cs) to f → Way (λ x. false) to f
  any_way to f (is_there _ e) = ends f refl e
  any_way to f (calls _ g c l) = goes f g refl c (any_way to g l)

  -- a way that comes to u no more, behind its last time there
  abbrev Behind : (s : ℕ → Bool) (to u : ℕ) → Type 0
  Behind s to u = (u ≡ to) ⊎ ((g : ℕ) × (DoesCall cs u g × Way (marked s u) to g))

  last_time : (s : ℕ → Bool) (to u f : ℕ) → Way s to f → Way (marked s u) to f ⊎ Behind s to u
  last_time s to u f (ends _ h e) = at_f (nat_eq f u) refl
    where
      at_f : (b : Bool) → nat_eq f u ≡ b → Way (marked s u) to f ⊎ Behind s to u
      at_f true q = inr (inl (sym (eqb-true f u q) ∙ e))
      at_f false q = inl (ends f (rw q h) e)
  last_time s to u f (goes _ g h k w) = elim (last_time s to u g w) [
    | inr b ↦ inr b
    | inl v ↦ at_f (nat_eq f u) refl v
  ]
    where
      at_f : (b : Bool) → nat_eq f u ≡ b → Way (marked s u) to g → Way (marked s u) to f ⊎ Behind s to u
      at_f true q v = inr (inr (g, (subst (λ (x : ℕ). DoesCall cs x g) (eqb-true f u q) k, v)))
      at_f false q v = inl (goes f g (rw q h) k v)

  module _ (n : ℕ) (among : AreAmong n cs) where
    reached : (k : ℕ) (s : ℕ → Bool) (to f : ℕ) → unmarked n s ≡ k → f < n → Way s to f → reaches cs k f to ≡ true
    unfolding reaches
    reached zero s to f e l w = absurd (none_left n f s l (start_free s to f w) e)
    reached (suc k) s to f e l w = elim (last_time s to f f w) [
      | inl v ↦ absurd (never {A = ⊥} (sym (start_free (marked s f) to f v) ∙ or_left (nat_eq f f) (s f) (nat_eq-self f)))
      | inr b ↦ elim b [
        | inl q ↦ or_left (nat_eq f to) (list_any (λ h. reaches cs k h to) (callees cs f)) (eq-eqb f to q)
        | inr r ↦
            let fewer : unmarked n s ≡ 1 + unmarked n (marked s f) = one_less n f s l (start_free s to f w) in
            let left : unmarked n (marked s f) ≡ k = omega arith in
            or_right (nat_eq f to) (list_any (λ h. reaches cs k h to) (callees cs f))
            (any_of (λ h. reaches cs k h to) (callees cs f) r.0 r.1.0
            (reached k (marked s f) to r.0 left (among f r.0 r.1.0).1 r.1.1))
      ]
    ]

    pub enough : (f g : ℕ) → f < n → Leads (callees cs) g f → reaches cs n f g ≡ true
    enough f g l w = reached n (λ x. false) g f (all_unmarked n) l (any_way g f w)

  pub leads : (k f g : ℕ) → reaches cs k f g ≡ true → Leads (callees cs) g f
  unfolding reaches
  leads zero f g h = is_there f (eqb-true f g h)
  leads (suc k) f g h =
      elim (or_cases (nat_eq f g) (list_any (λ x. reaches cs k x g) (callees cs f)) h) [
        | inl e ↦ is_there f (eqb-true f g e)
        | inr e ↦ let r = some_of (λ x. reaches cs k x g) (callees cs f) e in
            calls f r.0 r.1.0 (leads k r.0 g r.1.1)
      ]
