-- What is in lists, where tests of all cells hold.
use Rattle.std.proofs.Common.{◌≡◌, ℕ, Bool, true, false, ◌||◌, cond, List, [], ◌∷◌, ◌++◌, ⊎_elim, refl, sym, ◌∙◌, ap}
use Rattle.std.specs.List.{list_any, filter}
use Rattle.std.proofs.lemmas.Bool.{or_cases, or_left, or_right, both_ways}
use Rattle.ep_int.specs.declared.types.Model.{Model}
use Rattle.ep_int.specs.declared.types.Scalar.{Scalar}
use Rattle.ep_int.specs.Types.{size_of}
use Rattle.ep_bitslice.specs.declared.cell.Side.{Side}
use Rattle.ep_cells.specs.declared.cell.Cell.{Cell}
use Rattle.ep_cells.specs.Cells.{place_of, meets, is_same_cell, IsIn, first, later}
use Rattle.ep_cells.specs.States.{EachPair, AreApart, AreAlike}
use Rattle.ep_cells.proofs.Places.{meets_sym}
use Rattle.ep_cells.proofs.Both.{one, left_first, right_first, one_order, alike_same, alike_sym}
use Rattle.ep_reads.proofs.Sides.{same_itself}

-- ---- tests

pub bool_same : (a b : Bool) → (a ≡ true → b ≡ true) → (b ≡ true → a ≡ true) → a ≡ b
bool_same true b f g = sym (f refl)
bool_same false true f g = g refl
bool_same false false f g = refl

pub record Tested {N : Type 0} (P : Cell N → Bool) (ys : List (Cell N)) : Type 0 where
  pub cell : Cell N
  pub is_in : IsIn cell ys
  pub holds : P cell ≡ true

pub any_in : {N : Type 0} (P : Cell N → Bool) (ys : List (Cell N)) → list_any P ys ≡ true → Tested P ys
any_in P [] h = absurd (let e : false ≡ true = h in cc)
any_in P (y ∷ ys) h =
    ⊎_elim
    (λ e. record { cell = y; is_in = first ys; holds = e })
    (λ e. let r = any_in P ys e in record { cell = r.cell; is_in = later y ys r.is_in; holds = r.holds })
    (or_cases (P y) (list_any P ys) h)

pub any_from : {N : Type 0} (P : Cell N → Bool) (y : Cell N) (ys : List (Cell N)) → IsIn y ys → P y ≡ true
    → list_any P ys ≡ true
any_from P y [] i h = elim i [ ]
any_from P y (_ ∷ ys) (first _) h = or_left (P y) (list_any P ys) h
any_from P y (z ∷ ys) (later _ _ i) h = or_right (P z) (list_any P ys) (any_from P y ys i h)

pub any_append : {N : Type 0} (P : Cell N → Bool) (xs ys : List (Cell N))
    → list_any P (xs ++ ys) ≡ (list_any P xs || list_any P ys)
any_append P [] ys = refl
any_append {N = N} P (x ∷ xs) ys = by (P x) (any_append P xs ys)
  where
    by : (b : Bool) → list_any P (xs ++ ys) ≡ (list_any P xs || list_any P ys)
        → (b || list_any P (xs ++ ys)) ≡ ((b || list_any P xs) || list_any P ys)
    by true e = refl
    by false e = e

in_filter_by : {N : Type 0} (P : Cell N → Bool) (y c : Cell N) (cs : List (Cell N)) (b : Bool)
    → (IsIn y (filter P cs) → IsIn y cs) → IsIn y (cond b (c ∷ filter P cs) (filter P cs)) → IsIn y (c ∷ cs)
in_filter_by P y _ cs true h (first _) = first cs
in_filter_by P y c cs true h (later _ _ i) = later c cs (h i)
in_filter_by P y c cs false h i = later c cs (h i)

pub in_filter : {N : Type 0} (P : Cell N → Bool) (y : Cell N) (cs : List (Cell N)) → IsIn y (filter P cs) → IsIn y cs
in_filter P y [] i = elim i [ ]
in_filter P y (c ∷ cs) i = in_filter_by P y c cs (P c) (λ j. in_filter P y cs j) i

-- a test that implies another finds the same cells among those of the other
pub filter_within : {N : Type 0} (P Q : Cell N → Bool) (cs : List (Cell N))
    → ((x : Cell N) → IsIn x cs → P x ≡ true → Q x ≡ true) → filter P cs ≡ filter P (filter Q cs)
filter_within P Q [] h = refl
filter_within {N = N} P Q (c ∷ cs) h =
    by (P c) (Q c) refl (h c (first cs)) (filter_within P Q cs (λ x i. h x (later c cs i)))
  where
    by : (p q : Bool) → P c ≡ p → (P c ≡ true → q ≡ true) → filter P cs ≡ filter P (filter Q cs)
        → cond p (c ∷ filter P cs) (filter P cs) ≡ filter P (cond q (c ∷ filter Q cs) (filter Q cs))
    by true true e g f =
        ap (λ zs. c ∷ zs) f ∙ sym (ap (λ b. cond b (c ∷ filter P (filter Q cs)) (filter P (filter Q cs))) e)
    by true false e g f = absurd (let k : false ≡ true = g e in cc)
    by false true e g f = f ∙ sym (ap (λ b. cond b (c ∷ filter P (filter Q cs)) (filter P (filter Q cs))) e)
    by false false e g f = f

-- ---- cells of one state

pub place_alike : {N : Type 0} (d : Model) (x y : Cell N) → AreAlike x y → place_of d x ≡ place_of d y
place_alike d x y a =
    ap (λ (w : Scalar). place_of d (record x { what = w })) a.what
    ∙ ap (λ (s : Side). place_of d (record x { what = y.what; side = s })) a.side
    ∙ ap (λ (b : ℕ). place_of d (record x { what = y.what; side = y.side; block = b })) a.block
    ∙ ap (λ (q : ℕ). place_of d (record x { what = y.what; side = y.side; block = y.block; offset = q })) a.offset

pub same_alike : {N : Type 0} (x y : Cell N) → AreAlike x y → is_same_cell x y ≡ true
same_alike {N = N} x y a =
    ap (λ (s : Side). is_same_cell (record x { side = s }) y) a.side
    ∙ ap (λ (b : ℕ). is_same_cell (record x { side = y.side; block = b }) y) a.block
    ∙ ap (λ (q : ℕ). is_same_cell (record x { side = y.side; block = y.block; offset = q }) y) a.offset
    ∙ ap (λ (w : Scalar). is_same_cell
    (record x { side = y.side; block = y.block; offset = y.offset; what = w }) y) a.what
    ∙ same_itself y

pub same_back : {N : Type 0} (x y : Cell N) → is_same_cell x y ≡ true → is_same_cell y x ≡ true
same_back x y h = same_alike y x (alike_sym x y (alike_same x y h))

-- two that have a byte in common are one
pub meet_one : {N : Type 0} (d : Model) (x y : Cell N) (cs : List (Cell N)) → EachPair (AreApart d) cs → IsIn x cs
    → IsIn y cs → meets (place_of d x) (place_of d y) ≡ true → x ≡ y
meet_one d x y cs p i j h =
    elim (one_order (AreApart d) x y cs p i j) [
      | one e ↦ e
      | left_first r ↦ absurd (both_ways (meets (place_of d x) (place_of d y)) r.apart h)
      | right_first r ↦ absurd (both_ways (meets (place_of d x) (place_of d y)) (meets_sym y.side x.side y.block
          y.offset (size_of d y.what) x.block x.offset (size_of d x.what) r.apart) h)
    ]
