-- Each function comes behind those that it calls, and none comes twice.
use Rattle.std.proofs.Common.{◌≡◌, ℕ, zero, suc, ◌<◌, nat_eq, Bool, true, false, cond, ◌⊎◌, inl, inr, List, [], ◌∷◌}
use Rattle.ep_core.proofs.Sorts.{never}
use Rattle.ep_int.proofs.Basics.{nat_eq-self, contains-left, contains-right, append-nil}
use Rattle.std.proofs.lemmas.Bool.{eqb-true}
use Rattle.std.proofs.lemmas.Bool.{false_from_ne_true, or_cases, or_left, or_right}
use Rattle.std.proofs.Common.{◌++◌, refl, sym, ◌∙◌, subst, arith, append_assoc}
use Rattle.std.proofs.lemmas.List.Folds.{list_any-append}
use Rattle.ep_int.specs.Memory.{contains}
use Rattle.ep_elaboration.specs.Calls.{Call, callees, one_after_another, with_function}
use Rattle.ep_elaboration.specs.Leads.{DoesCall, Descends, AreInOrder}

-- ---- lists of numbers

pub in_either : (g : ℕ) (xs ys : List ℕ) → contains g (xs ++ ys) ≡ true → (contains g xs ≡ true) ⊎ (contains g ys ≡ true)
in_either g xs ys h = or_cases (contains g xs) (contains g ys) (sym (list_any-append (nat_eq g) xs ys) ∙ h)

pub last_in : (xs : List ℕ) (f : ℕ) → contains f (xs ++ f ∷ []) ≡ true
last_in xs f = contains-right f xs (f ∷ []) (or_left (nat_eq f f) false (nat_eq-self f))

pub in_last : (g : ℕ) (xs : List ℕ) (f : ℕ) → contains g (xs ++ f ∷ []) ≡ true → (contains g xs ≡ true) ⊎ (g ≡ f)
in_last g xs f h = elim (in_either g xs (f ∷ []) h) [
  | inl e ↦ inl e
  | inr e ↦ elim (or_cases (nat_eq g f) false e) [ inl q ↦ inr (eqb-true g f q) | inr q ↦ absurd (never {A = ⊥} q) ]
]

module _ (cs : List Call) where
  -- one more at the end
  with_last : (before fs : List ℕ) (f : ℕ) → AreInOrder cs before fs → contains f (before ++ fs) ≡ false
      → ((g : ℕ) → DoesCall cs f g → contains g (before ++ fs) ≡ true) → AreInOrder cs before (fs ++ f ∷ [])
  with_last before [] f o new come =
      let e : before ++ [] ≡ before = append-nil before in (
        subst (λ (xs : List ℕ). contains f xs ≡ false) e new,
        (λ g h. subst (λ (xs : List ℕ). contains g xs ≡ true) e (come g h), tt),
      )
  with_last before (x ∷ fs) f o new come =
      let e : before ++ (x ∷ fs) ≡ (before ++ x ∷ []) ++ fs = sym (append_assoc before (x ∷ []) fs) in (
        o.0,
        (
          o.1.0,
          with_last (before ++ x ∷ []) fs f o.1.1
              (subst (λ (xs : List ℕ). contains f xs ≡ false) e new)
              (λ g h. subst (λ (xs : List ℕ). contains g xs ≡ true) e (come g h)),
        ),
      )

  module _ (n : ℕ) (rank : ℕ → ℕ) (d : Descends cs n rank) where
    -- what a function brings to those that have come: itself, and others of at most its rank
    record Brings (done : List ℕ) (r : ℕ) (new : List ℕ) : Type 0 where
      ordered : AreInOrder cs [] new
      keeps : (g : ℕ) → contains g done ≡ true → contains g new ≡ true
      adds : (g : ℕ) → contains g new ≡ true → (contains g done ≡ true) ⊎ (rank g < r)

    abbrev One : (List ℕ → ℕ → List ℕ) → ℕ → Type 0
    One one f = (done : List ℕ) → AreInOrder cs [] done → Brings done (suc (rank f)) (one done f) × (contains f (one done f) ≡ true)

    all : (one : List ℕ → ℕ → List ℕ) (r : ℕ) (fs : List ℕ) → ((f : ℕ) → contains f fs ≡ true → (rank f < r) × One one f)
        → (done : List ℕ) → AreInOrder cs [] done
        → Brings done r (one_after_another one done fs) × ((g : ℕ) → contains g fs ≡ true → contains g (one_after_another one done fs) ≡ true)
    all one r [] e done o = (record { ordered = o; keeps = λ g h. h; adds = λ g h. inl h }, λ g h. never h)
    all one r (f ∷ fs) e done o =
        let here = e f (or_left (nat_eq f f) (contains f fs) (nat_eq-self f)) in
        let first = here.1 done o in
        let rest = all one r fs (λ g h. e g (or_right (nat_eq g f) (contains g fs) h)) (one done f) first.0.ordered in (
          record {
            ordered = rest.0.ordered;
            keeps = λ g h. rest.0.keeps g (first.0.keeps g h);
            adds = λ g h. elim (rest.0.adds g h) [
              | inr k ↦ inr k
              | inl k ↦ elim (first.0.adds g k) [
                | inl w ↦ inl w
                | inr l ↦ let s : rank f < r = here.0 in let t : rank g < suc (rank f) = l in let u : rank g < r = omega arith in inr u
              ]
            ];
          },
          λ g h. elim (or_cases (nat_eq g f) (contains g fs) h) [
            | inl q ↦ rest.0.keeps g (subst (λ (x : ℕ). contains x (one done f) ≡ true) (sym (eqb-true g f q)) first.1)
            | inr k ↦ rest.1 g k
          ],
        )

    one_is : (k f : ℕ) → rank f < k → One (with_function cs k) f
    unfolding with_function
    one_is zero f l done o = absurd (omega arith)
    one_is (suc k) f l done o = at_done (contains f done) refl (all (with_function cs k) (rank f) (callees cs f)
        (λ g c. let s : rank g < rank f = d.down f g c in (s, one_is k g (omega arith))) done o)
      where
        at_done : (b : Bool) → contains f done ≡ b
            → Brings done (rank f) (one_after_another (with_function cs k) done (callees cs f))
            × ((g : ℕ) → DoesCall cs f g → contains g (one_after_another (with_function cs k) done (callees cs f)) ≡ true)
            → Brings done (suc (rank f)) (cond b done (one_after_another (with_function cs k) done (callees cs f) ++ f ∷ []))
            × (contains f (cond b done (one_after_another (with_function cs k) done (callees cs f) ++ f ∷ [])) ≡ true)
        at_done true q inside = (record { ordered = o; keeps = λ g h. h; adds = λ g h. inl h }, q)
        at_done false q inside = (
          record {
            ordered = with_last [] (one_after_another (with_function cs k) done (callees cs f)) f inside.0.ordered
                (false_from_ne_true (contains f (one_after_another (with_function cs k) done (callees cs f))) (λ y. elim (inside.0.adds f y) [
                  | inl w ↦ never (sym q ∙ w)
                  | inr m ↦ absurd (omega arith)
                ]))
                inside.1;
            keeps = λ g h. contains-left g (one_after_another (with_function cs k) done (callees cs f)) (f ∷ []) (inside.0.keeps g h);
            adds = λ g h. elim (in_last g (one_after_another (with_function cs k) done (callees cs f)) f h) [
              | inl w ↦ elim (inside.0.adds g w) [ inl v ↦ inl v | inr m ↦ let u : rank g < suc (rank f) = omega arith in inr u ]
              | inr e ↦ let u : rank g < suc (rank f) = rw e (omega arith) in inr u
            ];
          },
          last_in (one_after_another (with_function cs k) done (callees cs f)) f,
        )

    pub in_order : (fs : List ℕ) → AreInOrder cs [] (one_after_another (with_function cs n) [] fs)
    in_order fs = (all (with_function cs n) n fs (λ f h. (d.small f, one_is n f (d.small f))) [] tt).0.ordered

    pub all_come : (fs : List ℕ) (f : ℕ) → contains f fs ≡ true → contains f (one_after_another (with_function cs n) [] fs) ≡ true
    all_come fs = (all (with_function cs n) n fs (λ f h. (d.small f, one_is n f (d.small f))) [] tt).1
