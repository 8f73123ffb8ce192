-- Targets that rise.
use Rattle.std.proofs.Common.{◌≡◌, ℕ, ◌<◌, ◌+◌, Bool, true, false, cond, List, [], ◌∷◌, ◌++◌, drop, refl, ap, sym, ◌∙◌}
use Rattle.std.proofs.Common.{subst, arith, append_assoc, append-nil}
use Rattle.std.specs.Prelude.{nat_lt, nat_eq, ◌&&◌, ◌||◌}
use Rattle.std.proofs.lemmas.Bool.Decides.{nat_tests}
use Rattle.std.proofs.lemmas.Bool.{and_parts, and_from, ltb-true, lt-ltb, ne_eqb}
use Rattle.std.specs.Prelude.{Some, None}
use Rattle.std.proofs.lemmas.Option.{same_Some}
use Rattle.ep_pointers.specs.Value.{Pointers, Target, pointers, null_alone, AreAbove, IsRising, with_target}
use Rattle.ep_pointers.specs.Value.{together}
use Rattle.ep_pointers.specs.Sum.{of_targets}
use Rattle.ep_cert_cells.specs.Numbers.{Numbers}
use Rattle.ep_cert_cells.specs.Reading.{is_below, rises, some_pointer}

above_more : (b c : ℕ) (ts : List (Target Numbers)) → b < c → AreAbove c ts → AreAbove b ts
above_more b c [] l h = tt
above_more b c (t ∷ ts) l h = (omega (arith, h.0), above_more b c ts l h.1)

above : (b : ℕ) (ts : List (Target Numbers)) → is_below b ts ≡ true → IsRising ts → AreAbove b ts
above b [] e h = tt
above b (t ∷ ts) e h = let l = ltb-true b t.0 e in (l, above_more b t.0 ts l h.0)

pub rising_from : (ts : List (Target Numbers)) → rises ts ≡ true → IsRising ts
rising_from [] e = tt
rising_from (t ∷ ts) e =
    let p = and_parts (is_below t.0 ts) (rises ts) e in
    let h = rising_from ts p.1 in
    (above t.0 ts p.0 h, h)

below_first : (b : ℕ) (ts : List (Target Numbers)) → AreAbove b ts → is_below b ts ≡ true
below_first b [] h = refl
below_first b (t ∷ ts) h = lt-ltb b t.0 h.0

pub rises_from : (ts : List (Target Numbers)) → IsRising ts → rises ts ≡ true
rises_from [] h = refl
rises_from (t ∷ ts) h = and_from (is_below t.0 ts) (rises ts) (below_first t.0 ts h.0) (rises_from ts h.1)

pub rises_turn : (ts : List (Target Numbers)) (i : ℕ) (t : Target Numbers) (b : Bool) → drop i ts ≡ t ∷ drop (i + 1) ts
    → b ≡ is_below t.0 (drop (i + 1) ts) → b ≡ true → rises (drop i ts) ≡ rises (drop (i + 1) ts)
rises_turn ts i t b e f h = ap rises e ∙ ap (λ c. c && rises (drop (i + 1) ts)) (sym f ∙ h)

-- ---- null and targets

-- all are below
abbrev AreBelow : {N : Type 0} → List (Target N) → ℕ → Type 0
AreBelow [] b = Unit {0}
AreBelow (t ∷ ts) b = (t.0 < b) × AreBelow ts b

below_more : {N : Type 0} (ts : List (Target N)) (b c : ℕ) → b < c → AreBelow ts b → AreBelow ts c
below_more [] b c l h = tt
below_more (t ∷ ts) b c l h = (omega (arith, h.0), below_more ts b c l h.1)

put_last : {N : Type 0} (f : N → N → N) (ts : List (Target N)) (u : Target N) → AreBelow ts u.0
    → with_target f ts u ≡ ts ++ u ∷ []
put_last f [] u h = refl
put_last {N = N} f (t ∷ ts) u h =
    let l : nat_lt u.0 t.0 ≡ false = not_below u.0 t.0 h.0 in
    let e : nat_eq t.0 u.0 ≡ false = ne_eqb t.0 u.0 (λ q. omega (arith, q, h.0)) in
    ap (λ b. cond b (u ∷ t ∷ ts) (cond (nat_eq t.0 u.0) ((t.0, f t.1 u.1) ∷ ts) (t ∷ with_target f ts u))) l
    ∙ ap (λ b. cond b ((t.0, f t.1 u.1) ∷ ts) (t ∷ with_target f ts u)) e
    ∙ ap (λ (z : List (Target N)). t ∷ z) (put_last f ts u h.1)
  where
    not_below : (a b : ℕ) → b < a → nat_lt a b ≡ false
    not_below a b h = grind (arith, nat_tests)

last_below : {N : Type 0} (ts : List (Target N)) (u : Target N) (c : ℕ) → u.0 < c → AreBelow ts u.0
    → AreBelow (ts ++ u ∷ []) c
last_below [] u c l h = (l, tt)
last_below (t ∷ ts) u c l h = (omega (arith, h.0), last_below ts u c l h.1)

all_last : {N : Type 0} (f : N → N → N) (ts us : List (Target N)) → IsRising us
    → ((u : Target N) (more : List (Target N)) → us ≡ u ∷ more → AreBelow ts u.0) → together f ts us ≡ ts ++ us
all_last f ts [] h k = sym (append-nil ts)
all_last {N = N} f ts (u ∷ us) h k =
    let b = k u us refl in
    ap (λ (z : List (Target N)). together f z us) (put_last f ts u b)
    ∙ all_last f (ts ++ u ∷ []) us h.1 (λ v more e.
    last_below ts u v.0 ((subst (AreAbove u.0) e h.0).0) b)
    ∙ append_assoc ts (u ∷ []) us

-- the targets of null and of another value are those of the other
pub none_first : {N : Type 0} (f : N → N → N) (us : List (Target N)) → IsRising us → together f [] us ≡ us
none_first f us h = all_last f [] us h (λ u more e. tt)

pub alone : (ts : List (Target Numbers)) → of_targets ts ≡ some_pointer false ts
alone [] = refl
alone (t ∷ ts) = refl

pub only_null : (ts : List (Target Numbers)) (x : Pointers Numbers) → None ≡ of_targets ts → x ≡ null_alone
    → Some x ≡ some_pointer true ts
only_null [] x e h = ap Some h
only_null (t ∷ ts) x e h = absurd (let w : ⊥ = cc in w)

pub with_null : (f : Numbers → Numbers → Numbers) (ts : List (Target Numbers)) (n x p : Pointers Numbers) → IsRising ts
    → Some x ≡ of_targets ts → n ≡ null_alone → p ≡ pointers (n.null || x.null) (together f n.targets x.targets)
    → Some p ≡ some_pointer true ts
with_null f [] n x p h e k j = absurd (let w : ⊥ = cc in w)
with_null f (t ∷ ts) n x p h e k j =
    let q : x ≡ pointers false (t ∷ ts) = same_Some x (pointers false (t ∷ ts)) e in
    ap Some (j ∙ ap (λ (y : Pointers Numbers). pointers (y.null || x.null) (together f y.targets x.targets)) k
    ∙ ap (λ (y : Pointers Numbers). pointers true (together f [] y.targets)) q
    ∙ ap (pointers true) (none_first f (t ∷ ts) h))
