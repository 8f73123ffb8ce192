-- The names that are types after one more.
use Rattle.std.proofs.Common.{◌≡◌, ℕ, ◌<◌, Bool, true, false, cond, List, [], ◌∷◌, ◌++◌, length, arith, refl, sym, ap}
use Rattle.std.proofs.Common.{subst, ◌∙◌}
use Rattle.std.proofs.lemmas.Bool.Decides.{nat_tests}
use Rattle.ep_int.proofs.Basics.{or_false-right, or-assoc, bytes_eq-equal}
use Rattle.std.specs.Prelude.{◌||◌, ◌&&◌, nat_le}
use Rattle.std.specs.Global.{Vec}
use Rattle.std.specs.List.{list_any}
use Rattle.std.specs.Str.{bytes_eq}
use Rattle.std.proofs.Math.Bool.{or-false}
use Rattle.ep_ast.specs.ProgramGrammar.{with_name}
use Rattle.indexmap.specs.IndexSet.{insert_key}
use Rattle.ep_reading.specs.Names.{with_names}

abbrev has : List ℕ → List (Vec ℕ) → Bool
has t ks = list_any (λ k. bytes_eq t k.items) ks

bytes_swap_at : (t u : List ℕ) (b c : Bool) → bytes_eq t u ≡ b → bytes_eq u t ≡ c → b ≡ c
bytes_swap_at t u true true e f = refl
bytes_swap_at t u false false e f = refl
bytes_swap_at t u true false e f =
    let s : t ≡ u = bytes_eq-equal t u e in
    sym e ∙ ap (λ (x : List ℕ). bytes_eq x u) s ∙ ap (λ (x : List ℕ). bytes_eq u x) (sym s) ∙ f
bytes_swap_at t u false true e f =
    let s : u ≡ t = bytes_eq-equal u t f in
    sym e ∙ ap (λ (x : List ℕ). bytes_eq x u) (sym s) ∙ ap (λ (x : List ℕ). bytes_eq u x) s ∙ f

bytes_swap : (t u : List ℕ) → bytes_eq t u ≡ bytes_eq u t
bytes_swap t u = bytes_swap_at t u (bytes_eq t u) (bytes_eq u t) refl refl

-- a name is a type if it was one before, or is among those that were added
pub is_among : (N : List ℕ → Bool) (ks : List (Vec ℕ)) (t : List ℕ) → with_names N ks t ≡ (N t || has t ks)
is_among N [] t = sym (or-false (N t))
is_among N (k ∷ ks) t =
    is_among (with_name N k.items) ks t ∙ ap (λ (b : Bool). (N t || b) || has t ks) (bytes_swap k.items t)
    ∙ or-assoc (N t) (bytes_eq t k.items) (has t ks)

-- the last that is added
snoc : (N : List ℕ → Bool) (ks : List (Vec ℕ)) (k : Vec ℕ)
    → with_names N (ks ++ k ∷ []) ≡ with_name (with_names N ks) k.items
snoc N [] k = refl
snoc N (x ∷ xs) k = snoc (with_name N x.items) xs k

or_swap : (a b c : Bool) → (a || (b || c)) ≡ (b || (a || c))
or_swap true true c = refl
or_swap true false c = refl
or_swap false b c = refl

or_at : (b : Bool) (t k : List ℕ) (ks : List (Vec ℕ)) → has k ks ≡ true → bytes_eq t k ≡ b → has t ks ≡ (b || has t ks)
or_at false t k ks h e = refl
or_at true t k ks h e = subst (λ (u : List ℕ). has u ks ≡ true) (sym (bytes_eq-equal t k e)) h

last : (t : List ℕ) (k : Vec ℕ) (ks : List (Vec ℕ)) → has t (ks ++ k ∷ []) ≡ (bytes_eq t k.items || has t ks)
last t k [] = refl
last t k (x ∷ xs) = ap (λ (b : Bool). bytes_eq t x.items || b) (last t k xs)
    ∙ or_swap (bytes_eq t x.items) (bytes_eq t k.items) (has t xs)

chosen : (b : Bool) (t : List ℕ) (k : Vec ℕ) (ks : List (Vec ℕ)) → has k.items ks ≡ b
    → has t (cond b ks (ks ++ k ∷ [])) ≡ (bytes_eq t k.items || has t ks)
chosen true t k ks h = or_at (bytes_eq t k.items) t k.items ks h refl
chosen false t k ks h = last t k ks

pub one_more : (N : List ℕ → Bool) (t name : List ℕ) (k : Vec ℕ) (ks new : List (Vec ℕ)) → k.items ≡ name
    → new ≡ insert_key (λ x y. bytes_eq x.items y.items) ks k
    → with_names N new t ≡ (bytes_eq t name || with_names N ks t)
one_more N t name k ks new e h =
    is_among N new t
    ∙ ap (λ (xs : List (Vec ℕ)). N t || has t xs) h ∙ ap (λ (c : Bool). N t || c) (chosen (has k.items ks) t k ks refl)
    ∙ or_swap (N t) (bytes_eq t k.items) (has t ks)
    ∙ ap (λ (n : List ℕ). bytes_eq t n || (N t || has t ks)) e
    ∙ ap (λ (b : Bool). bytes_eq t name || b) (sym (is_among N ks t))

-- a name that was none is added behind the others
pub one_added : (N : List ℕ → Bool) (name : List ℕ) (k : Vec ℕ) (ks new : List (Vec ℕ)) → k.items ≡ name
    → new ≡ insert_key (λ x y. bytes_eq x.items y.items) ks k
    → with_names N ks name ≡ false → with_names N new ≡ with_name (with_names N ks) name
one_added N name k ks new e h out =
    let none : has k.items ks ≡ false = ap (λ (n : List ℕ). has n ks) e
    ∙ or_false-right (N name) (has name ks) (sym (is_among N ks name) ∙ out) in
    ap (λ (xs : List (Vec ℕ)). with_names N xs) (h ∙ ap (λ (b : Bool). cond b ks (ks ++ k ∷ [])) none)
    ∙ snoc N ks k ∙ ap (λ (n : List ℕ). with_name (with_names N ks) n) e

-- the answer where the name is built in, and where it isn't
pub has_then : (N : List ℕ → Bool) (ks : List (Vec ℕ)) (t : List ℕ) (b : Bool) → b ≡ N t → b ≡ true
    → b ≡ with_names N ks t
has_then N ks t b e h = h ∙ ap (λ (a : Bool). a || has t ks) (sym h ∙ e) ∙ sym (is_among N ks t)

pub has_else : (N : List ℕ → Bool) (ks : List (Vec ℕ)) (t : List ℕ) (b c : Bool) → b ≡ N t → b ≡ false → c ≡ has t ks
    → c ≡ with_names N ks t
has_else N ks t b c e h k = k ∙ ap (λ (a : Bool). a || has t ks) (sym h ∙ e) ∙ sym (is_among N ks t)

-- texts of six bytes or more
abbrev pub are_long : List (List ℕ) → Bool
are_long [] = true
are_long (w ∷ ws) = nat_le 6 (length w) && are_long ws

other : (t w : List ℕ) → length t < 6 → nat_le 6 (length w) ≡ true → (b : Bool) → bytes_eq w t ≡ b → b ≡ false
other t w lt le false e = refl
other t w lt le true e =
    let same : length w ≡ length t = ap length (bytes_eq-equal w t e) in
    absurd (grind (arith, same, lt, le, nat_tests))

pub none_long : (ws : List (List ℕ)) (t : List ℕ) → are_long ws ≡ true → length t < 6
    → list_any (λ w. bytes_eq w t) ws ≡ false
none_long [] t h lt = refl
none_long (w ∷ ws) t h lt =
    let long : nat_le 6 (length w) ≡ true = grind (arith, h) in
    let rest : are_long ws ≡ true = grind (arith, h) in
    ap (λ (b : Bool). b || list_any (λ v. bytes_eq v t) ws) (other t w lt long (bytes_eq w t) refl)
    ∙ none_long ws t rest lt
