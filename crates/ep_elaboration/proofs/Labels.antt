-- Labels say which calls recur, and rank the functions where none does.
use Rattle.std.proofs.Common.{◌≡◌, ℕ, zero, suc, ◌+◌, ◌<◌, ◌≤◌, nat_eq, nat_lt, Bool, true, false, cond, List, refl}
use Rattle.ep_core.proofs.Sorts.{never}
use Rattle.std.proofs.lemmas.Bool.{eqb-true}
use Rattle.std.proofs.lemmas.Bool.{false_from_ne_true}
use Rattle.std.proofs.Common.{sym, ◌∙◌, subst, arith, eq-eqb, lt-ltb, ltb-true}
use Rattle.ep_elaboration.specs.Calls.{Call, callees, reaches}
use Rattle.ep_elaboration.specs.Leads.{DoesCall, Leads, is_there, calls, IsLabelled, AreAmong, Descends}
use Rattle.ep_elaboration.proofs.Paths.{enough, leads}

-- ---- how many numbers pass

abbrev tally : ℕ → (ℕ → Bool) → ℕ
tally zero s = 0
tally (suc n) s = cond (s n) 1 0 + tally n s

tally_all : (n : ℕ) → tally n (λ x. true) ≡ n
tally_all zero = refl
tally_all (suc n) = let e : tally n (λ x. true) ≡ n = tally_all n in omega arith

pub one_at : (a b : Bool) → (a ≡ true → b ≡ true) → cond a 1 0 ≤ cond b 1 0
one_at true b h = let e : b ≡ true = h refl in rw e (omega arith)
one_at false b h = omega arith

tally_more : (n : ℕ) (s t : ℕ → Bool) → ((x : ℕ) → s x ≡ true → t x ≡ true) → tally n s ≤ tally n t
tally_more zero s t h = omega arith
tally_more (suc n) s t h =
    let a : cond (s n) 1 0 ≤ cond (t n) 1 0 = one_at (s n) (t n) (h n) in
    let b : tally n s ≤ tally n t = tally_more n s t h in omega arith

tally_less : (n u : ℕ) (s t : ℕ → Bool) → ((x : ℕ) → s x ≡ true → t x ≡ true) → u < n → s u ≡ false → t u ≡ true
    → tally n s < tally n t
tally_less zero u s t h l p q = absurd (omega arith)
tally_less (suc n) u s t h l p q = at_n (nat_eq n u) refl (λ m. tally_less n u s t h m p q)
  where
    at_n : (b : Bool) → nat_eq n u ≡ b → (u < n → tally n s < tally n t)
        → cond (s n) 1 0 + tally n s < cond (t n) 1 0 + tally n t
    at_n true e less =
        let same_number : n ≡ u = eqb-true n u e in
        let off : s n ≡ false = subst (λ (k : ℕ). s k ≡ false) (sym same_number) p in
        let on : t n ≡ true = subst (λ (k : ℕ). t k ≡ true) (sym same_number) q in
        let rest : tally n s ≤ tally n t = tally_more n s t h in
        rw (off, on) (omega arith)
    at_n false e less =
        let apart : (n ≡ u) → ⊥ = λ c. never (sym e ∙ eq-eqb n u c) in
        let rest : tally n s < tally n t = less (omega (arith, apart)) in
        let here : cond (s n) 1 0 ≤ cond (t n) 1 0 = one_at (s n) (t n) (h n) in
        omega arith

not_below : (n : ℕ) → nat_lt n n ≡ false
not_below n = false_from_ne_true (nat_lt n n) (λ h. let l : n < n = ltb-true n n h in omega arith)

-- ---- labels

down : (next : ℕ → List ℕ) (label : ℕ → ℕ) → IsLabelled next label → (to f : ℕ) → Leads next to f → label to ≤ label f
down next label i to f (is_there _ e) = rw e (omega arith)
down next label i to f (calls _ g c l) =
    let a : label to ≤ label g = down next label i to g l in
    let b : label g ≤ label f = i.not_up f g c in omega arith

module _ (cs : List Call) (n : ℕ) (label : ℕ → ℕ) (among : AreAmong n cs) (i : IsLabelled (callees cs) label) where
  pub recurs : (f g : ℕ) → DoesCall cs f g → reaches cs n g f ≡ nat_eq (label g) (label f)
  recurs f g c = at_labels (nat_eq (label g) (label f)) refl
    where
      at_labels : (b : Bool) → nat_eq (label g) (label f) ≡ b → reaches cs n g f ≡ b
      at_labels true e = enough cs n among g f (among f g c).1 (i.back f g c (eqb-true (label g) (label f) e))
      at_labels false e = false_from_ne_true (reaches cs n g f) (λ r.
          let a : label f ≤ label g = down (callees cs) label i f g (leads cs n g f r) in
          let b : label g ≤ label f = i.not_up f g c in
          never (sym e ∙ eq-eqb (label g) (label f) (omega arith)))

  abbrev smaller : ℕ → ℕ → Bool
  smaller f h = nat_lt (label h) (label f)

  abbrev rank : ℕ → ℕ
  rank f = cond (nat_lt f n) (tally n (smaller f)) 0

  module _ (some : 0 < n) (none : (f g : ℕ) → DoesCall cs f g → nat_eq (label g) (label f) ≡ false) where
    rank_small : (f : ℕ) → rank f < n
    rank_small f = at_f (nat_lt f n) refl
      where
        at_f : (b : Bool) → nat_lt f n ≡ b → cond b (tally n (smaller f)) 0 < n
        at_f false e = some
        at_f true e =
            let l : f < n = ltb-true f n e in
            let a : tally n (smaller f) < tally n (λ x. true) =
            tally_less n f (smaller f) (λ x. true) (λ x h. refl) l (not_below (label f)) refl in
            let b : tally n (λ x. true) ≡ n = tally_all n in omega arith

    rank_down : (f g : ℕ) → DoesCall cs f g → rank g < rank f
    rank_down f g c =
        let lf : nat_lt f n ≡ true = lt-ltb f n (among f g c).0 in
        let lg : nat_lt g n ≡ true = lt-ltb g n (among f g c).1 in
        let a : label g ≤ label f = i.not_up f g c in
        let apart : (label g ≡ label f) → ⊥ = λ q. never (sym (none f g c) ∙ eq-eqb (label g) (label f) q) in
        let b : label g < label f = omega (arith, apart) in
        rw (lf, lg) (tally_less n g (smaller g) (smaller f)
        (λ x h. let u : label x < label g = ltb-true (label x) (label g) h in lt-ltb (label x) (label f) (omega arith))
        (among f g c).1 (not_below (label g)) (lt-ltb (label g) (label f) b))

    pub ranked : (r : ℕ → ℕ) × Descends cs n r
    ranked = (rank, record { small = rank_small; down = rank_down })
