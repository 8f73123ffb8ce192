-- The cells of a block that is entered, leaf by leaf.
use Rattle.std.proofs.Common.{◌≡◌, ℕ, zero, suc, ◌+◌, ◌-◌, ◌<◌, ◌≤◌, Bool, true, false, ◌&&◌, ◌||◌, nat_eq, nat_le}
use Rattle.ep_int.proofs.Basics.{size_positive}
use Rattle.ep_cells.proofs.Entry.{leaves_end}
use Rattle.std.proofs.Common.{nat_lt, cond, List, [], ◌∷◌, ◌++◌, Option, Some, None, refl, sym, ◌∙◌, ap, subst, arith}
use Rattle.std.proofs.Common.{append_assoc, length, get_or, drop, drop-cons, add-one}
use Rattle.std.proofs.lemmas.Bool.{and_from, or_left, ne_eqb, eq-eqb, le-leb, lt-ltb, le-ltb, lt-leb}
use Rattle.ep_int.specs.declared.types.Model.{Model}
use Rattle.ep_int.specs.declared.types.IntType.TheVariants.{U8}
use Rattle.ep_int.specs.declared.types.Scalar.{Scalar}
use Rattle.ep_int.specs.declared.types.Scalar.TheVariants.{Int}
use Rattle.ep_int.specs.Types.{size_of}
use Rattle.ep_layout.specs.declared.types.Leaf.{Leaf}
use Rattle.ep_bitslice.specs.declared.cell.Side.{Side}
use Rattle.ep_cells.specs.declared.cell.Cell.{Cell}
use Rattle.ep_cells.specs.Kill.{undefined_cell, leaf_at, is_in_leaf, cell_here, cells_from, AreLeavesIn}
use Rattle.ep_cells.specs.Forms.{Fate, reformed}
use Rattle.ep_cells.specs.States.{Each}
use Rattle.ep_cell_changes.specs.Entry.{byte_cells}

-- ---- numbers

-- n after g steps more
abbrev after_steps : ℕ → ℕ → ℕ
after_steps zero n = n
after_steps (suc g) n = suc (after_steps g n)

steps_are : (g n : ℕ) → after_steps g n ≡ g + n
steps_are zero n = omega arith
steps_are (suc g) n = let h = steps_are g n in omega arith

-- what is left, in steps
steps_to : (q m e : ℕ) → q ≤ m → m ≤ e → after_steps (m - q) (e - m) ≡ e - q
steps_to q m e lo hi = let h = steps_are (m - q) (e - m) in omega arith

record IsStep (n : ℕ) : Type 0 where
  less : ℕ
  is : n ≡ suc less

step_of : (n : ℕ) → 0 < n → IsStep n
step_of zero h = absurd (omega arith)
step_of (suc n) h = record { less = n; is = refl }

-- ---- offsets before all leaves

record IsBeside (d : Model) (leaves : List Leaf) (q : ℕ) : Type 0 where
  none : leaf_at leaves q ≡ None
  outside : is_in_leaf d leaves q ≡ false

beside : (d : Model) (e size q : ℕ) (leaves : List Leaf) → AreLeavesIn d e size leaves → q < e → IsBeside d leaves q
beside d e size q [] a h = record { none = refl; outside = refl }
beside d e size q (l ∷ leaves) a h =
    let rest = beside d (l.offset + size_of d l.what) size q leaves a.1 (omega (arith, a.0)) in
    let far : nat_eq l.offset q ≡ false = ne_eqb l.offset q (λ g. omega (arith, a.0)) in
    let above : nat_le l.offset q ≡ false = lt-leb l.offset q (omega (arith, a.0)) in
    record {
      none = ap (λ t. cond t (Some l.what) (leaf_at leaves q)) far ∙ rest.none;
      outside = ap (λ t. (t && nat_lt q (l.offset + size_of d l.what)) || is_in_leaf d leaves q) above ∙ rest.outside;
    }

here_beside : {N : Type 0} (d : Model) (s : Side) (b q : ℕ) (leaves : List Leaf) → IsBeside d leaves q
    → cell_here {N = N} s b q (leaf_at leaves q) (is_in_leaf d leaves q) ≡ byte_cells s b q (suc zero)
here_beside {N = N} d s b q leaves h =
    ap (λ o. cell_here {N = N} s b q o (is_in_leaf d leaves q)) h.none ∙ ap (λ t. cell_here {N = N} s b q None t) h.outside

-- bytes up to the first leaf
gap : {N : Type 0} (d : Model) (s : Side) (b e size g n q : ℕ) (leaves : List Leaf) → AreLeavesIn d e size leaves
    → q + g ≤ e
    → cells_from {N = N} d s b leaves q (after_steps g n) ≡ byte_cells s b q g ++ cells_from d s b leaves (q + g) n
gap {N = N} d s b e size zero n q leaves a h = ap (λ k. cells_from {N = N} d s b leaves k n) (omega arith)
gap {N = N} d s b e size (suc g) n q leaves a h =
    let here = here_beside {N = N} d s b q leaves (beside d e size q leaves a (omega arith)) in
    let rest = gap {N = N} d s b e size g n (q + 1) leaves a (omega arith) in
    let at : q + 1 + g ≡ q + suc g = omega arith in
    ap (λ cs. cs ++ cells_from {N = N} d s b leaves (q + 1) (after_steps g n)) here
    ∙ ap (λ cs. byte_cells {N = N} s b q (suc zero) ++ cs) rest
    ∙ ap (λ k. byte_cells {N = N} s b q (suc g) ++ cells_from d s b leaves k n) at

-- ---- past a leaf

-- a leaf that ends before
past : {N : Type 0} (d : Model) (s : Side) (b n q : ℕ) (l : Leaf) (leaves : List Leaf) → l.offset + size_of d l.what ≤ q
    → cells_from {N = N} d s b (l ∷ leaves) q n ≡ cells_from d s b leaves q n
past d s b zero q l leaves h = refl
past {N = N} d s b (suc n) q l leaves h =
    let size = size_positive d l.what in
    let far : nat_eq l.offset q ≡ false = ne_eqb l.offset q (λ g. omega arith) in
    let below : nat_lt q (l.offset + size_of d l.what) ≡ false = le-ltb q (l.offset + size_of d l.what) h in
    ap (λ t. cell_here {N = N} s b q (cond t (Some l.what) (leaf_at leaves q)) (is_in_leaf d (l ∷ leaves) q)
    ++ cells_from d s b (l ∷ leaves) (q + 1) n) far
    ∙ ap (λ t. cell_here {N = N} s b q (leaf_at leaves q) (t || is_in_leaf d leaves q)
    ++ cells_from d s b (l ∷ leaves) (q + 1) n) (outside (nat_le l.offset q) _ below)
    ∙ ap (λ cs. cell_here {N = N} s b q (leaf_at leaves q) (is_in_leaf d leaves q) ++ cs)
    (past d s b n (q + 1) l leaves (omega arith))
  where
    outside : (x y : Bool) → y ≡ false → (x && y) ≡ false
    outside true y h = h
    outside false y h = refl

-- the bytes of a leaf after its first
inside : {N : Type 0} (d : Model) (s : Side) (b size k n q : ℕ) (l : Leaf) (leaves : List Leaf)
    → AreLeavesIn d (l.offset + size_of d l.what) size leaves → l.offset < q → q + k ≤ l.offset + size_of d l.what
    → cells_from {N = N} d s b (l ∷ leaves) q (after_steps k n) ≡ cells_from d s b (l ∷ leaves) (q + k) n
inside {N = N} d s b size zero n q l leaves a lo hi = ap (λ k. cells_from {N = N} d s b (l ∷ leaves) k n) (omega arith)
inside {N = N} d s b size (suc k) n q l leaves a lo hi =
    let far : nat_eq l.offset q ≡ false = ne_eqb l.offset q (λ g. omega arith) in
    let none = (beside d (l.offset + size_of d l.what) size q leaves a (omega arith)).none in
    let within : is_in_leaf d (l ∷ leaves) q ≡ true =
    or_left (nat_le l.offset q && nat_lt q (l.offset + size_of d l.what)) (is_in_leaf d leaves q)
    (and_from (nat_le l.offset q) (nat_lt q (l.offset + size_of d l.what)) (le-leb l.offset q (omega arith))
    (lt-ltb q (l.offset + size_of d l.what) (omega arith))) in
    let rest = cells_from {N = N} d s b (l ∷ leaves) (q + 1) (after_steps k n) in
    ap (λ t. cell_here {N = N} s b q (cond t (Some l.what) (leaf_at leaves q)) (is_in_leaf d (l ∷ leaves) q) ++ rest) far
    ∙ ap (λ o. cell_here {N = N} s b q o (is_in_leaf d (l ∷ leaves) q) ++ rest) none
    ∙ ap (λ t. cell_here {N = N} s b q None t ++ rest) within
    ∙ inside d s b size k n (q + 1) l leaves a (omega arith) (omega arith)
    ∙ ap (λ z. cells_from {N = N} d s b (l ∷ leaves) z n) (omega arith)

-- a leaf, from where it begins
leaf_cell : {N : Type 0} (d : Model) (s : Side) (b size n : ℕ) (l : Leaf) (leaves : List Leaf) (k : IsStep (size_of d l.what))
    → AreLeavesIn d (l.offset + size_of d l.what) size leaves
    → cells_from {N = N} d s b (l ∷ leaves) l.offset (after_steps (suc k.less) n)
    ≡ undefined_cell s b l.offset l.what ∷ cells_from d s b leaves (l.offset + size_of d l.what) n
leaf_cell {N = N} d s b size n l leaves k a =
    let here : nat_eq l.offset l.offset ≡ true = eq-eqb l.offset l.offset refl in
    let i = k.is in
    ap (λ t. cell_here {N = N} s b l.offset (cond t (Some l.what) (leaf_at leaves l.offset)) (is_in_leaf d (l ∷ leaves)
    l.offset) ++ cells_from d s b (l ∷ leaves) (l.offset + 1) (after_steps k.less n)) here
    ∙ ap (λ cs. undefined_cell {N = N} s b l.offset l.what ∷ cs)
    (inside d s b size k.less n (l.offset + 1) l leaves a (omega arith) (omega arith)
    ∙ ap (λ z. cells_from {N = N} d s b (l ∷ leaves) z n) (omega arith)
    ∙ past d s b n (l.offset + size_of d l.what) l leaves (omega arith))

-- ---- the block

-- bytes up to a leaf, and the leaf
leaf_step : {N : Type 0} (d : Model) (s : Side) (b q size : ℕ) (l : Leaf) (leaves : List Leaf)
    → AreLeavesIn d q size (l ∷ leaves)
    → cells_from {N = N} d s b (l ∷ leaves) q (size - q)
    ≡ (byte_cells s b q (l.offset - q) ++ undefined_cell s b l.offset l.what ∷ [])
    ++ cells_from d s b leaves (l.offset + size_of d l.what) (size - (l.offset + size_of d l.what))
leaf_step {N = N} d s b q size l leaves a =
    let lo = a.0 in
    let end = leaves_end d (l.offset + size_of d l.what) size leaves a.1 in
    let k = step_of (size_of d l.what) (size_positive d l.what) in
    let i = k.is in
    let rest = cells_from {N = N} d s b leaves (l.offset + size_of d l.what) (size - (l.offset + size_of d l.what)) in
    let whole : AreLeavesIn d l.offset size (l ∷ leaves) = (omega arith, a.1) in
    let first : size - q ≡ after_steps (l.offset - q) (size - l.offset) = sym (steps_to q l.offset size lo (omega arith)) in
    let second : size - l.offset ≡ after_steps (suc k.less) (size - (l.offset + size_of d l.what)) =
    let h = steps_are (suc k.less) (size - (l.offset + size_of d l.what)) in omega arith in
    let back : q + (l.offset - q) ≡ l.offset = omega arith in
    ap (λ m. cells_from {N = N} d s b (l ∷ leaves) q m) first
    ∙ gap d s b l.offset size (l.offset - q) (size - l.offset) q (l ∷ leaves) whole (omega arith)
    ∙ ap (λ z. byte_cells {N = N} s b q (l.offset - q) ++ cells_from d s b (l ∷ leaves) z (size - l.offset)) back
    ∙ ap (λ m. byte_cells {N = N} s b q (l.offset - q) ++ cells_from d s b (l ∷ leaves) l.offset m) second
    ∙ ap (λ cs. byte_cells {N = N} s b q (l.offset - q) ++ cs) (leaf_cell d s b size (size - (l.offset + size_of d l.what))
    l leaves k a.1)
    ∙ sym (append_assoc (byte_cells {N = N} s b q (l.offset - q)) (undefined_cell s b l.offset l.what ∷ []) rest)

-- bytes after all leaves
no_leaf : {N : Type 0} (d : Model) (s : Side) (b q n : ℕ) → cells_from {N = N} d s b [] q n ≡ byte_cells s b q n
no_leaf d s b q zero = refl
no_leaf {N = N} d s b q (suc n) = ap (λ cs. byte_cells {N = N} s b q (suc zero) ++ cs) (no_leaf d s b (q + 1) n)

-- one byte more
byte_more : {N : Type 0} (s : Side) (b i to : ℕ) → i < to
    → byte_cells {N = N} s b i (to - i) ≡ byte_cells s b i (suc zero) ++ byte_cells s b (i + 1) (to - (i + 1))
byte_more {N = N} s b i to h = let e : to - i ≡ suc (to - (i + 1)) = omega arith in ap (λ n. byte_cells {N = N} s b i n) e

pub byte_turn : {N : Type 0} (s : Side) (b q to : ℕ) (out more all : List (Cell N)) → q < to
    → more ≡ out ++ undefined_cell s b q (Int U8) ∷ [] → out ++ byte_cells s b q (to - q) ≡ all
    → more ++ byte_cells s b (q + 1) (to - (q + 1)) ≡ all
byte_turn s b q to out more all h m a =
    let rest = byte_cells s b (q + 1) (to - (q + 1)) in
    ap (λ z. z ++ rest) m
    ∙ append_assoc out (undefined_cell s b q (Int U8) ∷ []) rest
    ∙ ap (λ z. out ++ z) (sym (byte_more s b q to h))
    ∙ a

next_leaf : (ls : List Leaf) (i : ℕ) (l : Leaf) → i < length ls → drop i ls ≡ get_or ls i l ∷ drop (i + 1) ls
next_leaf ls i l h = drop-cons ls i l h ∙ ap (λ k. get_or ls i l ∷ drop k ls) (sym (add-one i))

pub leaf_fits : (d : Model) (at size i : ℕ) (ls : List Leaf) (l : Leaf) → AreLeavesIn d at size (drop i ls) → i < length ls
    → (get_or ls i l).offset + size_of d (get_or ls i l).what ≤ size
leaf_fits d at size i ls l a h =
    let b = subst (AreLeavesIn d at size) (next_leaf ls i l h) a in
    leaves_end d ((get_or ls i l).offset + size_of d (get_or ls i l).what) size (drop (i + 1) ls) b.1

pub leaves_left : (d : Model) (at size i n : ℕ) (ls : List Leaf) (l : Leaf) → n ≡ size_of d (get_or ls i l).what
    → AreLeavesIn d at size (drop i ls) → i < length ls → AreLeavesIn d ((get_or ls i l).offset + n) size (drop (i + 1) ls)
leaves_left d at size i n ls l e a h =
    subst (λ k. AreLeavesIn d ((get_or ls i l).offset + k) size (drop (i + 1) ls)) (sym e)
    (subst (AreLeavesIn d at size) (next_leaf ls i l h) a).1

-- one leaf more
pub leaf_turn : {N : Type 0} (d : Model) (s : Side) (b at size i n : ℕ) (ls : List Leaf) (l : Leaf)
    (out bytes more all : List (Cell N)) → n ≡ size_of d (get_or ls i l).what → AreLeavesIn d at size (drop i ls)
    → i < length ls → bytes ≡ out ++ byte_cells s b at ((get_or ls i l).offset - at)
    → more ≡ bytes ++ undefined_cell s b (get_or ls i l).offset (get_or ls i l).what ∷ []
    → out ++ cells_from d s b (drop i ls) at (size - at) ≡ all
    → more ++ cells_from d s b (drop (i + 1) ls) ((get_or ls i l).offset + n) (size - ((get_or ls i l).offset + n)) ≡ all
leaf_turn {N = N} d s b at size i n ls l out bytes more all en a h eb em e =
    let here = get_or ls i l in
    let gap = byte_cells {N = N} s b at (here.offset - at) in
    let cell = undefined_cell {N = N} s b here.offset here.what in
    let rest = cells_from {N = N} d s b (drop (i + 1) ls) (here.offset + size_of d here.what) (size - (here.offset + size_of d
    here.what)) in
    ap (λ k. more ++ cells_from d s b (drop (i + 1) ls) (here.offset + k) (size - (here.offset + k))) en
    ∙ ap (λ z. z ++ rest) em
    ∙ ap (λ z. (z ++ cell ∷ []) ++ rest) eb
    ∙ ap (λ z. z ++ rest) (append_assoc out gap (cell ∷ []))
    ∙ append_assoc out (gap ++ cell ∷ []) rest
    ∙ ap (λ z. out ++ z) (sym (leaf_step d s b at size here (drop (i + 1) ls) (subst (AreLeavesIn d at size) (next_leaf ls i l h)
    a)))
    ∙ ap (λ z. out ++ cells_from d s b z at (size - at)) (sym (next_leaf ls i l h))
    ∙ e

-- bytes after the last leaf
pub leaf_ends : {N : Type 0} (d : Model) (s : Side) (b at size i : ℕ) (ls : List Leaf) (out more all : List (Cell N))
    → length ls ≤ i → more ≡ out ++ byte_cells s b at (size - at)
    → out ++ cells_from d s b (drop i ls) at (size - at) ≡ all → more ≡ all
leaf_ends d s b at size i ls out more all h m e =
    m ∙ ap (λ z. out ++ z) (sym (no_leaf d s b at (size - at)))
    ∙ ap (λ z. out ++ cells_from d s b z at (size - at)) (sym (none_left ls i h)) ∙ e
  where
    none_left : (ls : List Leaf) (i : ℕ) → length ls ≤ i → drop i ls ≡ []
    none_left [] zero h = refl
    none_left [] (suc i) h = refl
    none_left (l ∷ ls) zero h = absurd (omega arith)
    none_left (l ∷ ls) (suc i) h = none_left ls i (omega arith)

-- ---- forms

each_append : {N : Type 0} (P : Cell N → Type 0) (xs ys : List (Cell N)) → Each P xs → Each P ys → Each P (xs ++ ys)
each_append P [] ys a b = b
each_append P (x ∷ xs) ys a b = (a.0, each_append P xs ys a.1 b)

here_stays : (N : Type 0) (f : Fate) (s : Side) (b q : ℕ) (o : Option Scalar) (inside : Bool)
    → Each (λ (c : Cell N). reformed f c ≡ c) (cell_here s b q o inside)
here_stays N f s b q (Some w) inside = (refl, tt)
here_stays N f s b q None true = tt
here_stays N f s b q None false = (refl, tt)

-- new names change no new cell
pub entries_stay : (N : Type 0) (f : Fate) (d : Model) (s : Side) (b : ℕ) (leaves : List Leaf) (q n : ℕ)
    → Each (λ (c : Cell N). reformed f c ≡ c) (cells_from d s b leaves q n)
entries_stay N f d s b leaves q zero = tt
entries_stay N f d s b leaves q (suc n) =
    each_append (λ (c : Cell N). reformed f c ≡ c) (cell_here s b q (leaf_at leaves q) (is_in_leaf d leaves q)) (cells_from d
    s b leaves (q + 1) n) (here_stays N f s b q (leaf_at leaves q) (is_in_leaf d leaves q)) (entries_stay N f d s b leaves (q
    + 1) n)
