-- Two states with cells alike of which none are to be reshared stay as they are where they are unified.
use Rattle.std.proofs.Common.{◌≡◌, ◌+◌, Bool, true, false, ◌&&◌, ◌||◌, not, is_some, cond, List, [], ◌∷◌, ◌++◌}
use Rattle.ep_reads.proofs.Liked.{some_like}
use Rattle.ep_reads.proofs.Splits.{none_any}
use Rattle.ep_cells.proofs.Basics.{filter-none}
use Rattle.ep_reads.proofs.Members.{any_from, meet_one, place_alike, same_alike}
use Rattle.std.proofs.Common.{length, map, IfSome, Option, Some, None, refl, sym, ◌∙◌, ap, subst}
use Rattle.std.specs.List.{list_any}
use Rattle.std.proofs.lemmas.Bool.{and_right}
use Rattle.ep_int.specs.declared.types.Model.{Model}
use Rattle.ep_bitslice.specs.declared.cell.CellName.{CellName}
use Rattle.ep_bitslice.specs.declared.cell.Side.TheVariants.{Left, Shared}
use Rattle.ep_bitslice.specs.declared.segment.Segment.{Segment}
use Rattle.ep_bitslice.specs.Bits.{mentions}
use Rattle.ep_bitslice.specs.Segments.{bits}
use Rattle.ep_domain.specs.Domain.{Ops}
use Rattle.ep_cells.specs.declared.cell.Cell.{Cell}
use Rattle.ep_cells.specs.Cells.{place_of, meets, is_same_side, is_same_cell, IsIn, first, later, each_becomes}
use Rattle.ep_cells.specs.Forms.{reformed}
use Rattle.ep_cells.specs.Both.{cell_like}
use Rattle.ep_cells.specs.Reshare.{places, reshared}
use Rattle.ep_cells.specs.States.{Known, IsFormOf, AreCells, AreAlike, HaveCellsAlike}
use Rattle.ep_cells.proofs.Both.{alike_sym}
use Rattle.ep_reads.specs.Split.{is_name_of}
use Rattle.ep_reads.specs.Unify.{is_of_one_side, faces, parted_both, is_crossed, crossed_all, uncrossed}
use Rattle.ep_reads.specs.Unify.{uncrossed_both, left_by_lack, fate_by_lack, had_by_both, had_both, unified}
use Rattle.ep_reads.proofs.Sides.{named_same}
use Rattle.ep_cell_steps.proofs.Local.{same_reformed}
use Rattle.ep_reads.proofs.Rounds.{none_parted, times_same}

pair_is : {N : Type 0} (a b c d : List (Cell N)) → a ≡ c → b ≡ d
    → (let p : List (Cell N) × List (Cell N) = (a, b) in p) ≡ (c, d)
pair_is {N = N} a b c d e f =
    ap (λ z. let p : List (Cell N) × List (Cell N) = (z, b) in p) e
    ∙ ap (λ z. let p : List (Cell N) × List (Cell N) = (c, z) in p) f

-- ---- cells alike

pub alike_lists : {N : Type 0} (xs ys : List (Cell N)) → HaveCellsAlike xs ys → HaveCellsAlike ys xs
alike_lists [] [] h = tt
alike_lists [] (y ∷ ys) h = absurd h
alike_lists (x ∷ xs) [] h = absurd h
alike_lists (x ∷ xs) (y ∷ ys) h = (alike_sym x y h.0, alike_lists xs ys h.1)

-- they have Left cells at the same places
pub alike_places : {N : Type 0} (xs ys : List (Cell N)) → HaveCellsAlike xs ys → places xs ≡ places ys
alike_places [] [] h = refl
alike_places [] (y ∷ ys) h = absurd h
alike_places (x ∷ xs) [] h = absurd h
alike_places (x ∷ xs) (y ∷ ys) h =
    ap (λ s. cond (is_same_side s Left) ((x.block, x.offset) ∷ places xs) (places xs)) h.0.side
    ∙ ap (λ b. cond (is_same_side y.side Left) ((b, x.offset) ∷ places xs) (places xs)) h.0.block
    ∙ ap (λ q. cond (is_same_side y.side Left) ((y.block, q) ∷ places xs) (places xs)) h.0.offset
    ∙ ap (λ ps. cond (is_same_side y.side Left) ((y.block, y.offset) ∷ ps) ps) (alike_places xs ys h.1)

-- the cell that is like another
record Partner {N : Type 0} (xs : List (Cell N)) (y : Cell N) : Type 0 where
  cell : Cell N
  is_in : IsIn cell xs
  alike : AreAlike cell y

partner : {N : Type 0} (y : Cell N) (xs ys : List (Cell N)) → HaveCellsAlike xs ys → IsIn y ys → Partner xs y
partner y [] [] h i = elim i [ ]
partner y [] (z ∷ ys) h i = absurd h
partner y (x ∷ xs) [] h i = absurd h
partner y (x ∷ xs) (_ ∷ ys) h (first _) = record { cell = x; is_in = first xs; alike = h.0 }
partner y (x ∷ xs) (z ∷ ys) h (later _ _ i) =
    let r = partner y xs ys h.1 i in
    record { cell = r.cell; is_in = later x xs r.is_in; alike = r.alike }

meet_alike : {N : Type 0} (d : Model) (x y : Cell N) (xs ys : List (Cell N)) → AreCells d xs → HaveCellsAlike xs ys
    → IsIn x xs → IsIn y ys → meets (place_of d x) (place_of d y) ≡ true → AreAlike x y
meet_alike d x y xs ys a h i j m =
    let r = partner y xs ys h j in
    let e : x ≡ r.cell = meet_one d x r.cell xs a.pairs i r.is_in
    (subst (λ p. meets (place_of d x) p ≡ true) (sym (place_alike d r.cell y r.alike)) m) in
    subst (λ z. AreAlike z y) (sym e) r.alike

-- ---- tests of all cells

-- ---- nothing faces, crosses or lacks anything

none_faces : {N : Type 0} (d : Model) (x : Cell N) (xs ys : List (Cell N)) → AreCells d xs → HaveCellsAlike xs ys
    → IsIn x xs → faces d ys (place_of d x) ≡ false
none_faces {N = N} d x xs ys a h i = by (is_same_side x.side Shared) refl
  where
    one_by : (y : Cell N) → IsIn y ys → is_same_side x.side Shared ≡ true → (m : Bool)
        → meets (place_of d x) (place_of d y) ≡ m → (is_of_one_side y && m) ≡ false
    one_by y j s true m =
        let e : is_same_side y.side Shared ≡ true = subst (λ z. is_same_side z Shared ≡ true)
        (meet_alike d x y xs ys a h
        i j m).side s in
        ap (λ b. not b && true) e
    one_by y j s false m = and_right (is_of_one_side y) false refl

    by : (t : Bool) → is_same_side x.side Shared ≡ t
        → (t && list_any (λ (y : Cell N). is_of_one_side y && meets (place_of d x) (place_of d y)) ys) ≡ false
    by false e = refl
    by true e =
        none_any (λ (y : Cell N). is_of_one_side y && meets (place_of d x) (place_of d y)) ys
        (λ y j. one_by y j e (meets (place_of d x) (place_of d y)) refl)

none_crosses : {N : Type 0} (d : Model) (x : Cell N) (xs ys : List (Cell N)) → AreCells d xs → HaveCellsAlike xs ys
    → IsIn x xs → is_crossed d ys x ≡ false
none_crosses {N = N} d x xs ys a h i =
    none_any (λ (y : Cell N). meets (place_of d x) (place_of d y) && not (is_same_cell x y)) ys
    (λ y j. one_by y j (meets (place_of d x) (place_of d y)) refl)
  where
    one_by : (y : Cell N) → IsIn y ys → (m : Bool) → meets (place_of d x) (place_of d y) ≡ m
        → (m && not (is_same_cell x y)) ≡ false
    one_by y j true m = ap not (same_alike x y (meet_alike d x y xs ys a h i j m))
    one_by y j false m = refl

none_left : {N : Type 0} (ys xs : List (Cell N)) → ((x : Cell N) → IsIn x xs → is_some (cell_like x ys) ≡ true)
    → each_becomes (left_by_lack ys) xs ≡ xs
none_left ys [] h = refl
none_left ys (x ∷ xs) h =
    ap (λ t. cond t (x ∷ []) [] ++ each_becomes (left_by_lack ys) xs) (h x (first xs))
    ∙ ap (λ zs. x ∷ zs) (none_left ys xs (λ z i. h z (later x xs i)))

all_reformed : {N : Type 0} (ys xs : List (Cell N))
    → ((x : Cell N) → IsIn x xs → reformed (fate_by_lack ys) x ≡ x) → map (reformed (fate_by_lack ys)) xs ≡ xs
all_reformed ys [] h = refl
all_reformed ys (x ∷ xs) h =
    ap (λ z. z ∷ map (reformed (fate_by_lack ys)) xs) (h x (first xs))
    ∙ ap (λ zs. x ∷ zs) (all_reformed ys xs (λ z i. h z (later x xs i)))

name_stays : {N : Type 0} (n : CellName) (ys : List (Cell N)) (y : Cell N) → IsIn y ys → is_name_of n y ≡ true
    → fate_by_lack ys n ≡ Some n
name_stays n ys y i h = ap (λ b. cond b (Some n) None) (any_from (is_name_of n) y ys i h)

names_stay : {N : Type 0} (x : Cell N) (xs ys : List (Cell N)) (o : Option (List Segment)) → HaveCellsAlike ys xs
    → IfSome o (IsFormOf xs x)
    → IfSome o (λ ss. (n : CellName) → mentions n (bits ss) ≡ true → fate_by_lack ys n ≡ Some n)
names_stay x xs ys None h f = tt
names_stay x xs ys (Some ss) h f = λ n m.
    let t = f.mentioned n m in
    let r = partner t.cell ys xs h t.is_in in
    name_stays n ys r.cell r.is_in
    (sym (named_same n t.cell r.cell t.named) ∙ same_alike t.cell r.cell (alike_sym r.cell t.cell r.alike))

had_stays : {N : Type 0} (d : Model) (xs ys : List (Cell N)) → AreCells d xs → HaveCellsAlike ys xs
    → had_by_both ys xs ≡ xs
had_stays d xs ys a h =
    ap (map (reformed (fate_by_lack ys)))
    (none_left ys xs (λ x i. let r = partner x ys xs h i in some_like x r.cell ys r.is_in
    (same_alike r.cell x r.alike)))
    ∙ all_reformed ys xs (λ x i. same_reformed (fate_by_lack ys) xs x (a.forms x i)
    (names_stay x xs ys x.form h (a.forms x i)))

uncrossed_stays : {N : Type 0} (D : Ops N) (k : Known N) (xs ys : List (Cell N)) → AreCells k.model xs
    → HaveCellsAlike xs ys → uncrossed D k ys xs ≡ xs
uncrossed_stays D k xs ys a h =
    ap (λ zs. crossed_all D k zs xs)
    (filter-none (is_crossed k.model ys) xs (λ x i. none_crosses k.model x xs ys a h i))

parted_stays : {N : Type 0} (d : Model) (xs ys : List (Cell N)) → AreCells d xs → AreCells d ys → HaveCellsAlike xs ys
    → parted_both d (xs, ys) ≡ (xs, ys)
parted_stays d xs ys a b h =
    times_same d (length xs + length ys) xs ys
    (none_parted d ys xs a (none_any (λ x. faces d ys (place_of d x)) xs (λ x i. none_faces d x xs ys a h i)))
    (none_parted d xs ys b (none_any (λ y. faces d xs (place_of d y)) ys (λ y i. none_faces d y ys xs b (alike_lists xs
    ys h) i)))

pub alike_stay : {N : Type 0} (D : Ops N) (k : Known N) (xs ys : List (Cell N)) → AreCells k.model xs
    → AreCells k.model ys → HaveCellsAlike xs ys
    → had_both (uncrossed_both D k (parted_both k.model (xs, ys))) ≡ (xs, ys)
alike_stay D k xs ys a b h =
    ap (λ p. had_both (uncrossed_both D k p)) (parted_stays k.model xs ys a b h)
    ∙ ap had_both (pair_is (uncrossed D k ys xs) (uncrossed D k xs ys) xs ys
    (uncrossed_stays D k xs ys a h) (uncrossed_stays D k ys xs b (alike_lists xs ys h)))
    ∙ pair_is (had_by_both ys xs) (had_by_both xs ys) xs ys
    (had_stays k.model xs ys a (alike_lists xs ys h)) (had_stays k.model ys xs b h)

pub alike_unified : {N : Type 0} (D : Ops N) (k l : Known N) (xs ys : List (Cell N)) → AreCells k.model xs
    → AreCells k.model ys → HaveCellsAlike xs ys → xs ≡ reshared D k.cells → ys ≡ reshared D l.cells
    → unified D k l ≡ (xs, ys)
alike_unified D k l xs ys a b h e f =
    ap (λ p. had_both (uncrossed_both D k (parted_both k.model p)))
    (pair_is (reshared D k.cells) (reshared D l.cells) xs ys (sym e) (sym f))
    ∙ alike_stay D k xs ys a b h

pub unified_stays : {N : Type 0} (D : Ops N) (k l : Known N) → AreCells k.model k.cells → AreCells k.model l.cells
    → HaveCellsAlike k.cells l.cells → k.cells ≡ reshared D k.cells → l.cells ≡ reshared D l.cells
    → unified D k l ≡ (k.cells, l.cells)
unified_stays D k l = alike_unified D k l k.cells l.cells
