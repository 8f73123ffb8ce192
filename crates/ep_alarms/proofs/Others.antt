-- An alarm that is added leaves those of every other line and kind.
use Rattle.std.proofs.Common.{◌≡◌, zero, suc, Bool, true, false, true≢false, List, [], ◌∷◌, Contains, ◌⊎◌, inl, inr}
use Rattle.std.proofs.Common.{◌↔◌, refl, sym, ap, ◌∙◌, subst, arith, eq-eqb, if◌then◌else◌}
use Rattle.ep_alarms.specs.declared.types.Alarm.{Alarm}
use Rattle.ep_alarms.specs.Alarm.{before, joined, stand_together}
use Rattle.ep_alarms.specs.Report.{added}
use Rattle.ep_alarms.proofs.Order.{rank, stand_together_by_rank, le_by_not_before}

-- b is in two lists or in neither
abbrev Same : Alarm → List Alarm → List Alarm → Type 0
Same b xs ys = Contains xs b ↔ Contains ys b

first : (x : Alarm) (xs : List Alarm) (b : Alarm) → x ≡ b → Contains (x ∷ xs) b
first x xs b e = (0, omega arith, e)

later : (x : Alarm) (xs : List Alarm) (b : Alarm) → Contains xs b → Contains (x ∷ xs) b
later x xs b (k, l, e) = (suc k, omega arith, e)

cases : (x : Alarm) (xs : List Alarm) (b : Alarm) → Contains (x ∷ xs) b → (x ≡ b) ⊎ Contains xs b
cases x xs b (zero, l, e) = inl e
cases x xs b (suc k, l, e) = inr (k, omega arith, e)

under : (x b : Alarm) (xs ys : List Alarm) → Same b xs ys → Same b (x ∷ xs) (x ∷ ys)
under x b xs ys s = (one xs ys s.0, one ys xs s.1)
  where
    one : (us vs : List Alarm) → (Contains us b → Contains vs b) → Contains (x ∷ us) b → Contains (x ∷ vs) b
    one us vs f h = elim (cases x us b h) [ inl e ↦ first x vs b e | inr g ↦ later x vs b (f g) ]

new_in_front : (x b : Alarm) (xs : List Alarm) → (x ≡ b → ⊥) → Same b (x ∷ xs) xs
new_in_front x b xs n = (λ h. elim (cases x xs b h) [ inl e ↦ absurd (n e) | inr g ↦ g ], later x xs b)

changed : (x y b : Alarm) (xs : List Alarm) → (x ≡ b → ⊥) → (y ≡ b → ⊥) → Same b (x ∷ xs) (y ∷ xs)
changed x y b xs m n = (one x y m, one y x n)
  where
    one : (u v : Alarm) → (u ≡ b → ⊥) → Contains (u ∷ xs) b → Contains (v ∷ xs) b
    one u v f h = elim (cases u xs b h) [ inl e ↦ absurd (f e) | inr g ↦ later v xs b g ]

apart : (x a b : Alarm) → stand_together x a ≡ true → stand_together b a ≡ false → x ≡ b → ⊥
apart x a b p q e = true≢false (sym p ∙ ap (λ (y : Alarm). stand_together y a) e ∙ q)

itself : (a : Alarm) → stand_together a a ≡ true
itself a = stand_together_by_rank a a ∙ eq-eqb (rank a) (rank a) refl

-- neither stands before the other
meets : (c a : Alarm) → before c a ≡ false → before a c ≡ false → stand_together c a ≡ true
meets c a p q = stand_together_by_rank c a ∙ eq-eqb (rank c) (rank a) (omega (arith, le_by_not_before c a p, le_by_not_before a c q))

-- by what stands before what
placed : (c a b : Alarm) (cs : List Alarm) → stand_together b a ≡ false → Same b (added cs a) cs
    → (x y : Bool) → before c a ≡ x → before a c ≡ y
    → Same b (if x then c ∷ added cs a else if y then a ∷ c ∷ cs else joined c a ∷ cs) (c ∷ cs)
placed c a b cs n rest true y p q = under c b (added cs a) cs rest
placed c a b cs n rest false true p q = new_in_front a b (c ∷ cs) (apart a a b (itself a) n)
placed c a b cs n rest false false p q = changed (joined c a) c b cs (apart (joined c a) a b (meets c a p q) n) (apart c a b (meets c a p q) n)

pub others_stay : (alarms : List Alarm) (a b : Alarm) → stand_together b a ≡ false → Contains (added alarms a) b ↔ Contains alarms b
others_stay [] a b n = new_in_front a b [] (apart a a b (itself a) n)
others_stay (c ∷ cs) a b n = placed c a b cs n (others_stay cs a b n) (before c a) (before a c) refl refl

-- the same of a list that is the old one with the alarm
pub others_stay_in : (alarms new : List Alarm) (a : Alarm) → new ≡ added alarms a → (b : Alarm) → stand_together b a ≡ false → Contains new b ↔ Contains alarms b
others_stay_in alarms new a e b n = subst (λ (l : List Alarm). Contains l b ↔ Contains alarms b) (sym e) (others_stay alarms a b n)
