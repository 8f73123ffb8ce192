-- Lists of marks and of groups.
use Rattle.std.proofs.Common.{◌≡◌, ℕ, zero, suc, ◌+◌, ◌-◌, ◌<◌, ◌≤◌, ◌≢◌, nat_eq, nat_lt, Bool, true, false, cond}
use Rattle.ep_core.proofs.Sorts.{never}
use Rattle.std.proofs.lemmas.Bool.{cases_lt, eqb-true}
use Rattle.std.proofs.Common.{inl, inr, List, [], ◌∷◌, ◌++◌, length, set, take, drop, Option, Some, None, refl, sym}
use Rattle.std.proofs.Common.{ap, ◌∙◌, subst, arith, eq-eqb, lt-ltb, le-ltb, get_or-set_same, get_or-set_other}
use Rattle.std.specs.Prelude.{slice_get, vec_len, MatchOption, option_to_list}
use Rattle.std.specs.Global.{Vec}
use Rattle.std.proofs.lemmas.List.{nil_from_length}
use Rattle.ep_call_graph.specs.declared.cycles.Mark.{Mark}
use Rattle.ep_call_graph.specs.declared.cycles.Mark.TheVariants.{New, Open, Done}
use Rattle.ep_call_graph.specs.declared.cycles.Group.{Group}
use Rattle.ep_call_graph.specs.Search.{mark_of, from_last, tops, top_of, ArePlaced, IsLast, closed_from}

pub new_more : (ms : List Mark) (f : ℕ) → ((g : ℕ) → mark_of ms g ≡ New) → mark_of (ms ++ New ∷ []) f ≡ New
new_more [] zero h = refl
new_more [] (suc f) h = refl
new_more (m ∷ ms) zero h = h 0
new_more (m ∷ ms) (suc f) h = new_more ms f (λ g. h (suc g))

pub within : (ms : List Mark) (f : ℕ) → (mark_of ms f ≡ New → ⊥) → f < length ms
within ms f h = elim (cases_lt f (length ms)) [ inl l ↦ l | inr l ↦ absurd (h (past ms f l)) ]
  where
    past : (xs : List Mark) (g : ℕ) → length xs ≤ g → mark_of xs g ≡ New
    past [] g l = refl
    past (x ∷ xs) zero l = absurd (omega arith)
    past (x ∷ xs) (suc g) l = past xs g (omega arith)

-- ---- groups

snoc : (all gs : List Group) (g : Group) → from_last all (gs ++ g ∷ []) ≡ g ∷ from_last all gs
snoc all [] g = refl
snoc all (h ∷ gs) g = snoc (h ∷ all) gs g

pub pushed : (old new : List Group) (g : Group) → new ≡ old ++ g ∷ [] → tops new ≡ g ∷ tops old
pushed old new g e = ap tops e ∙ snoc [] old g

last_of : (all : List Group) (x : Group) (xs : List Group)
    → slice_get (x ∷ xs) (length (x ∷ xs) - 1) ≡ top_of (from_last all (x ∷ xs))
last_of all x [] = refl
last_of all x (y ∷ ys) =
    let p : length (x ∷ (y ∷ ys)) - 1 ≡ suc (length ys) = omega arith in
    let q : length (y ∷ ys) - 1 ≡ length ys = omega arith in
    ap (slice_get (x ∷ (y ∷ ys))) p ∙ sym (ap (slice_get (y ∷ ys)) q) ∙ last_of (x ∷ all) y ys

pub last_is : (gs : List Group) → slice_get gs (length gs - 1) ≡ top_of (tops gs)
last_is [] = refl
last_is (x ∷ xs) = last_of [] x xs

-- the last group is taken off
pub popped : (old new : Vec Group) (r : Option Group) (g : Group) → old.items ≡ new.items ++ option_to_list r
    → MatchOption r ((vec_len old ≡ 0) × (vec_len new ≡ 0)) (λ x. vec_len new + 1 ≡ vec_len old)
    → Some g ≡ top_of (tops old.items) → tops old.items ≡ g ∷ tops new.items
popped old new (Some h) g e m t =
    let s : tops old.items ≡ h ∷ tops new.items = pushed new.items old.items h e in
    let q : Some g ≡ Some h = t ∙ ap top_of s in
    let z : h ≡ g = cc in s ∙ ap (λ (x : Group). x ∷ tops new.items) z
popped old new None g e m t =
    let l : length old.items ≡ 0 = omega (arith, m.0) in
    let n : old.items ≡ [] = nil_from_length old.items l in
    let q : Some g ≡ None = t ∙ ap (λ (gs : List Group). top_of (tops gs)) n in absurd cc

pub last_top : (gs : List Group) (g : Group) (p : ℕ) → Some g ≡ top_of gs → g.first ≤ p → IsLast gs p
last_top [] g p e l = tt
last_top (h ∷ gs) g p e l = let z : g ≡ h = cc in subst (λ (x : Group). x.first ≤ p) z l

-- ---- marks behind a place

-- a mark, where what stands between two places of the path is done
abbrev pub closed_between : (first last done : ℕ) → Mark → Mark
closed_between n m d New = New
closed_between n m d (Open i) = cond (nat_lt i n) (Open i) (cond (nat_lt i m) (Done d) (Open i))
closed_between n m d (Done l) = Done l

pub none_between : (n m d : ℕ) (x : Mark) → m ≤ n → closed_between n m d x ≡ x
none_between n m d New l = refl
none_between n m d (Done k) l = refl
none_between n m d (Open i) l = elim (cases_lt i n) [
  | inl a ↦ rw (lt-ltb i n a) refl
  | inr a ↦ let b : nat_lt i m ≡ false = le-ltb i m (omega arith) in rw (le-ltb i n a, b) refl
]

pub one_more_closed : (n m d : ℕ) (x : Mark) → (x ≡ Open m → ⊥) → closed_between n (m + 1) d x ≡ closed_between n m d x
one_more_closed n m d New h = refl
one_more_closed n m d (Done k) h = refl
one_more_closed n m d (Open i) h = elim (cases_lt i m) [
  | inl a ↦ let b : nat_lt i (m + 1) ≡ true = lt-ltb i (m + 1) (omega arith) in rw (lt-ltb i m a, b) refl
  | inr a ↦
      let apart : i ≢ m = λ e. h (ap (λ (k : ℕ). Open k) e) in
      let b : nat_lt i (m + 1) ≡ false = le-ltb i (m + 1) (omega (arith, apart)) in
      rw (le-ltb i m a, b) refl
]

-- a mark more
pub mark_more : (old now new : List Mark) (path : List ℕ) (n m d f : ℕ) → ArePlaced old path → n ≤ m
    → slice_get path m ≡ Some f → length now ≡ length old
    → ((x : ℕ) → mark_of now x ≡ closed_between n m d (mark_of old x)) → new ≡ set now f (Done d)
    → (x : ℕ) → mark_of new x ≡ closed_between n (m + 1) d (mark_of old x)
mark_more old now new path n m d f p l h c inv e x = at_x (nat_eq x f) refl
  where
    is : mark_of old f ≡ Open m
    is = p.placed m f h

    inside : f < length now
    inside = let a : f < length old = within old f (λ q. let z : Open m ≡ New = sym is ∙ q in cc) in omega arith

    at_x : (b : Bool) → nat_eq x f ≡ b → mark_of new x ≡ closed_between n (m + 1) d (mark_of old x)
    at_x true q =
        let s : x ≡ f = eqb-true x f q in
        let a : nat_lt m n ≡ false = le-ltb m n l in
        let b : nat_lt m (m + 1) ≡ true = lt-ltb m (m + 1) (omega arith) in
        rw (s, e, is, a, b) (get_or-set_same now f (Done d) New inside)
    at_x false q =
        let s : x ≢ f = λ z. never (sym q ∙ eq-eqb x f z) in
        let other : mark_of old x ≡ Open m → ⊥ = λ w. s (let z : Some x ≡ Some f = sym (p.opened x m w) ∙ h in cc) in
        ap (λ (ms : List Mark). mark_of ms x) e ∙ get_or-set_other now f x (Done d) New s ∙ inv x
        ∙ sym (one_more_closed n m d (mark_of old x) other)

-- all marks of the path
pub all_closed : (n m d : ℕ) (x : Mark) → ((i : ℕ) → x ≡ Open i → i < m) → closed_between n m d x ≡ closed_from n d x
all_closed n m d New h = refl
all_closed n m d (Done k) h = refl
all_closed n m d (Open i) h = let a : nat_lt i m ≡ true = lt-ltb i m (h i refl) in rw a refl

pub parts : (n : ℕ) (xs : List ℕ) → take n xs ++ drop n xs ≡ xs
parts zero xs = refl
parts (suc n) [] = refl
parts (suc n) (x ∷ xs) = ap (λ ys. x ∷ ys) (parts n xs)

pub short : (n : ℕ) (xs : List ℕ) → n ≤ length xs → length (take n xs) ≡ n
short zero xs l = refl
short (suc n) [] l = absurd (omega arith)
short (suc n) (x ∷ xs) l = let e : length (take n xs) ≡ n = short n xs (omega arith) in omega arith
