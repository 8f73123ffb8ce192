-- What is parted, split or lacked has no cell like it in the other state.
use Rattle.std.proofs.Common.{◌≡◌, Bool, true, false, ◌&&◌, not, cond, List, [], ◌∷◌, is_some, Option, Some, None}
use Rattle.std.proofs.Common.{refl, sym, ◌∙◌, ap, subst}
use Rattle.std.specs.List.{list_any, filter}
use Rattle.std.proofs.lemmas.Bool.{and_parts, both_ways, false_from_ne_true, not-true}
use Rattle.ep_int.specs.declared.types.Model.{Model}
use Rattle.ep_int.specs.Types.{size_of}
use Rattle.ep_bitslice.specs.declared.cell.CellName.{CellName}
use Rattle.ep_bitslice.specs.declared.cell.Side.{Side}
use Rattle.ep_bitslice.specs.declared.cell.Side.TheVariants.{Shared}
use Rattle.ep_domain.specs.Domain.{Ops}
use Rattle.ep_cells.specs.declared.cell.Cell.{Cell}
use Rattle.ep_cells.specs.Cells.{place_of, meets, is_same_side, is_same_cell, IsNamed, IsIn}
use Rattle.ep_cells.specs.Both.{cell_like}
use Rattle.ep_cells.specs.States.{Known, AreCells}
use Rattle.ep_cells.proofs.Places.{at}
use Rattle.ep_cells.proofs.Both.{alike_same, only_one}
use Rattle.ep_reads.specs.Split.{is_name_of}
use Rattle.ep_reads.specs.Unify.{is_of_one_side, is_crossed, crossed_all, uncrossed, left_by_lack, fate_by_lack}
use Rattle.ep_reads.specs.Unify.{had_by_both}
use Rattle.ep_reads.proofs.Sides.{same_itself, named_same}
use Rattle.ep_reads.proofs.Splits.{first_like, none_like, filter_keeps, filter_tests}
use Rattle.ep_reads.specs.Single.{without_like, shared_at, facing, left_without, fate_without, without}
use Rattle.ep_reads.specs.Single.{is_kind_among}
use Rattle.ep_reads.proofs.Composed.{same_changes, reformed_same}
use Rattle.ep_reads.proofs.Dropping.{kind_named, drop_form}
use Rattle.ep_reads.proofs.Members.{bool_same, any_in, any_from, in_filter, filter_within, place_alike, same_back}
use Rattle.ep_reads.proofs.Members.{meet_one}

-- ---- cells like others

pub record HasLike {N : Type 0} (x : Cell N) (ys : List (Cell N)) : Type 0 where
  pub cell : Cell N
  pub is_in : IsIn cell ys
  pub same : is_same_cell cell x ≡ true

pub has_like : {N : Type 0} (x : Cell N) (ys : List (Cell N)) → is_some (cell_like x ys) ≡ true → HasLike x ys
has_like {N = N} x ys h = by (cell_like x ys) refl h
  where
    by : (o : Option (Cell N)) → cell_like x ys ≡ o → is_some o ≡ true → HasLike x ys
    by None e g = absurd (let k : false ≡ true = g in cc)
    by (Some y) e g = let f = first_like x ys y e in record { cell = y; is_in = f.is_in; same = f.same }

pub some_like : {N : Type 0} (x y : Cell N) (ys : List (Cell N)) → IsIn y ys → is_same_cell y x ≡ true
    → is_some (cell_like x ys) ≡ true
some_like {N = N} x y ys i h = by (cell_like x ys) refl
  where
    by : (o : Option (Cell N)) → cell_like x ys ≡ o → is_some o ≡ true
    by None e = absurd (both_ways (is_same_cell y x) (none_like x ys y e i) h)
    by (Some z) e = refl

pub lacks : {N : Type 0} (x : Cell N) (ys : List (Cell N)) → (HasLike x ys → ⊥) → not (is_some (cell_like x ys)) ≡ true
lacks x ys h = ap not (false_from_ne_true (is_some (cell_like x ys)) (λ e. h (has_like x ys e)))

-- ---- Shared cells face cells that this state lacks

pub shared_place : {N : Type 0} (d : Model) (x : Cell N) → x.side ≡ Shared
    → shared_at d x.block x.offset x.what ≡ place_of d x
shared_place d x e = ap (λ (s : Side). at s x.block x.offset (size_of d x.what)) (sym e)

faced_lacks : {N : Type 0} (d : Model) (x y : Cell N) (xs : List (Cell N)) → AreCells d xs → IsIn x xs
    → x.side ≡ Shared → is_of_one_side y ≡ true → meets (place_of d x) (place_of d y) ≡ true → HasLike y xs → ⊥
faced_lacks d x y xs a i s o m l =
    let alike = alike_same l.cell y l.same in
    let is : x ≡ l.cell = meet_one d x l.cell xs a.pairs i l.is_in
    (subst (λ p. meets (place_of d x) p ≡ true) (sym (place_alike d l.cell y alike)) m) in
    let side : y.side ≡ Shared = sym alike.side ∙ sym (ap (λ z. z.side) is) ∙ s in
    absurd (let k : false ≡ true = subst (λ (q : Side). not (is_same_side q Shared) ≡ true) side o in cc)

pub facing_lacked : {N : Type 0} (d : Model) (x : Cell N) (xs ys : List (Cell N)) → AreCells d xs → IsIn x xs
    → x.side ≡ Shared
    → facing d ys x.block x.offset x.what ≡ facing d (without_like xs ys) x.block x.offset x.what
facing_lacked {N = N} d x xs ys a i s =
    bool_same (list_any test ys) (list_any test (filter lacked ys))
    (λ h.
    let r = any_in test ys h in
    let p = and_parts (is_of_one_side r.cell) (meets (shared_at d x.block x.offset x.what)
    (place_of d r.cell)) r.holds in
    let m = subst (λ q. meets q (place_of d r.cell) ≡ true) (shared_place d x s) p.1 in
    any_from test r.cell (filter lacked ys)
    (filter_keeps lacked r.cell ys r.is_in (lacks r.cell xs (λ l. faced_lacks d x r.cell xs a i s p.0 m l))) r.holds)
    (λ h.
    let r = any_in test (filter lacked ys) h in
    any_from test r.cell ys (in_filter lacked r.cell ys r.is_in) r.holds)
  where
    test : Cell N → Bool
    test y = is_of_one_side y && meets (shared_at d x.block x.offset x.what) (place_of d y)

    lacked : Cell N → Bool
    lacked y = not (is_some (cell_like y xs))

-- ---- crossed cells are lacked by the other state

crossed_lacks : {N : Type 0} (d : Model) (x y : Cell N) (ys : List (Cell N)) → AreCells d ys → IsIn y ys
    → meets (place_of d x) (place_of d y) ≡ true → is_same_cell x y ≡ false → HasLike x ys → ⊥
crossed_lacks d x y ys a i m n l =
    let alike = alike_same l.cell x l.same in
    let is : l.cell ≡ y = meet_one d l.cell y ys a.pairs l.is_in i
    (subst (λ p. meets p (place_of d y) ≡ true) (sym (place_alike d l.cell x alike)) m) in
    both_ways (is_same_cell x y) n
    (subst (λ z. is_same_cell x z ≡ true) is (same_back l.cell x l.same))

pub crossed_lacked : {N : Type 0} (D : Ops N) (k : Known N) (xs ys : List (Cell N)) → AreCells k.model ys
    → uncrossed D k ys xs ≡ crossed_all D k (filter (is_crossed k.model ys) (without_like ys xs)) xs
crossed_lacked {N = N} D k xs ys a =
    ap (λ zs. crossed_all D k zs xs)
    (filter_within (is_crossed k.model ys) (λ (x : Cell N). not (is_some (cell_like x ys))) xs
    (λ x i h.
    let r = any_in (λ (y : Cell N). meets (place_of k.model x) (place_of k.model y) && not (is_same_cell x y)) ys h in
    let p = and_parts (meets (place_of k.model x) (place_of k.model r.cell)) (not (is_same_cell x r.cell)) r.holds in
    lacks x ys (λ l. crossed_lacks k.model x r.cell ys a r.is_in p.0 (not-true (is_same_cell x r.cell) p.1) l)))

-- ---- what the other state lacks goes

among : {N : Type 0} (d : Model) (x : Cell N) (xs ys : List (Cell N)) → AreCells d xs → IsIn x xs
    → is_kind_among (without_like ys xs) x.side x.block x.offset x.what ≡ not (is_some (cell_like x ys))
among {N = N} d x xs ys a i =
    bool_same (is_kind_among (without_like ys xs) x.side x.block x.offset x.what) (lacked x)
    (λ h.
    let r = any_in (λ (z : Cell N). is_same_cell x z) (filter lacked xs) h in
    let is : x ≡ r.cell = only_one d x r.cell xs a.pairs i (in_filter lacked r.cell xs r.is_in)
    (alike_same x r.cell r.holds) in
    subst (λ z. lacked z ≡ true) (sym is) (filter_tests lacked r.cell xs r.is_in))
    (λ h. any_from (λ (z : Cell N). is_same_cell x z) x (filter lacked xs) (filter_keeps lacked x xs i h)
    (same_itself x))
  where
    lacked : Cell N → Bool
    lacked z = not (is_some (cell_like z ys))

named_like : {N : Type 0} (n : CellName) (x : Cell N) (ys : List (Cell N)) → IsNamed n x
    → list_any (is_name_of n) ys ≡ is_some (cell_like x ys)
named_like {N = N} n x ys e =
    bool_same (list_any (is_name_of n) ys) (is_some (cell_like x ys))
    (λ h.
    let r = any_in (is_name_of n) ys h in
    some_like x r.cell ys r.is_in (same_back x r.cell (named_same n x r.cell e ∙ r.holds)))
    (λ h.
    let r = has_like x ys h in
    any_from (is_name_of n) r.cell ys r.is_in (sym (named_same n x r.cell e) ∙ same_back r.cell x r.same))

cond_not : {A : Type 0} (b : Bool) (u v : A) → cond b u v ≡ cond (not b) v u
cond_not true u v = refl
cond_not false u v = refl

pub had_is : {N : Type 0} (d : Model) (xs ys : List (Cell N)) → AreCells d xs
    → had_by_both ys xs ≡ without (is_kind_among (without_like ys xs)) xs
had_is {N = N} d xs ys a =
    let P = is_kind_among (without_like ys xs) in
    same_changes (left_by_lack ys) (left_without P) (fate_by_lack ys) (fate_without P) xs
    (λ x i. cond_not (is_some (cell_like x ys)) (x ∷ []) [] ∙ ap (λ b. cond b [] (x ∷ [])) (sym (among d x xs ys a i)))
    (λ x y i j. reformed_same (fate_by_lack ys) (fate_without P) xs x y (a.forms x i)
    (drop_form x y (P x.side x.block x.offset x.what) j)
    (λ n t.
    ap (λ b. cond b (Some n) None) (named_like n t.cell ys t.named)
    ∙ cond_not (is_some (cell_like t.cell ys)) (Some n) None
    ∙ ap (λ b. cond b None (Some n)) (sym (among d t.cell xs ys a t.is_in) ∙ kind_named P n t.cell t.named)))
