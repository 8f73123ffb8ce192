-- What is looked for is in a window about its place.
use Rattle.std.proofs.Common.{◌≡◌, Bool, true, false, ◌&&◌, ◌||◌, not, cond, List, [], ◌∷◌}
use Rattle.std.proofs.Common.{◌++◌, append_assoc, Some, refl, sym, ◌∙◌, ap, subst}
use Rattle.std.specs.List.{list_any, filter}
use Rattle.std.proofs.lemmas.Bool.{and_parts, and_right, false_from_ne_true, both_ways}
use Rattle.ep_int.specs.declared.types.Model.{Model}
use Rattle.ep_bitslice.specs.declared.cell.Side.TheVariants.{Shared}
use Rattle.ep_cells.specs.declared.cell.Cell.{Cell}
use Rattle.ep_cells.specs.declared.place.ByteRange.{ByteRange}
use Rattle.ep_cells.specs.Cells.{place_of, share_memory, touches, meets, encloses, is_partly_in, is_same_side}
use Rattle.ep_cells.specs.Cells.{is_same_cell, IsIn, first, later}
use Rattle.ep_cells.specs.Both.{cell_like}
use Rattle.ep_cells.proofs.Both.{alike_same}
use Rattle.ep_reads.specs.Split.{cut_cells}
use Rattle.ep_reads.specs.Unify.{is_crossed}
use Rattle.ep_reads.proofs.Splits.{none_any, meets_itself}
use Rattle.ep_reads.proofs.Sides.{side_same}
use Rattle.ep_cell_parts.specs.About.{IsAbout}
use Rattle.ep_reads.specs.Single.{shared_where, is_shared_where}
use Rattle.ep_reads.proofs.Members.{any_append, place_alike}
use Rattle.ep_reads.proofs.Liked.{shared_place}
use Rattle.ep_reads.proofs.SingleSteps.{any_window}
use Rattle.ep_state_looks.specs.Looks.{met_by, is_met}

-- the test holds of no cell that doesn't touch the place
abbrev Finds : {N : Type 0} → Model → ByteRange → (Cell N → Bool) → Type 0
Finds {N} d p P = (x : Cell N) → P x ≡ true → touches p (place_of d x) ≡ true

outside : {N : Type 0} (d : Model) (p : ByteRange) (P : Cell N → Bool) → Finds d p P → (x : Cell N)
    → touches p (place_of d x) ≡ false → P x ≡ false
outside d p P f x e = false_from_ne_true (P x) (λ h. both_ways (touches p (place_of d x)) e (f x h))

filter_about : {N : Type 0} (d : Model) (p : ByteRange) (P : Cell N → Bool) (cs ws : List (Cell N)) → IsAbout d p cs ws
    → Finds d p P → filter P ws ≡ filter P cs
filter_about d p P cs ws a f =
    sym (ap (filter P) a.whole
    ∙ any_window P a.before ws a.behind (λ x i. outside d p P f x (a.below x i)) (λ x i. outside d p P f x (a.above x
    i)))

any_about : {N : Type 0} (d : Model) (p : ByteRange) (P : Cell N → Bool) (cs ws : List (Cell N)) → IsAbout d p cs ws
    → Finds d p P → list_any P ws ≡ list_any P cs
any_about {N = N} d p P cs ws a f =
    sym (ap (list_any P) a.whole
    ∙ any_append P a.before (ws ++ a.behind)
    ∙ ap (λ b. b || list_any P (ws ++ a.behind)) (none_any P a.before (λ x i. outside d p P f x (a.below x i)))
    ∙ any_append P ws a.behind
    ∙ ap (λ b. list_any P ws || b) (none_any P a.behind (λ x i. outside d p P f x (a.above x i)))
    ∙ by (list_any P ws))
  where
    by : (b : Bool) → (b || false) ≡ b
    by true = refl
    by false = refl

like_behind : {N : Type 0} (x : Cell N) (xs ys : List (Cell N)) → ((y : Cell N) → IsIn y xs → is_same_cell y x ≡ false)
    → cell_like x (xs ++ ys) ≡ cell_like x ys
like_behind x [] ys h = refl
like_behind x (y ∷ xs) ys h =
    ap (λ b. cond b (Some y) (cell_like x (xs ++ ys))) (h y (first xs))
    ∙ like_behind x xs ys (λ z i. h z (later y xs i))

like_none : {N : Type 0} (x : Cell N) (ys : List (Cell N)) → ((y : Cell N) → IsIn y ys → is_same_cell y x ≡ false)
    → cell_like x ys ≡ cell_like x []
like_none x [] h = refl
like_none x (y ∷ ys) h =
    ap (λ b. cond b (Some y) (cell_like x ys)) (h y (first ys)) ∙ like_none x ys (λ z i. h z (later y ys i))

like_before : {N : Type 0} (x : Cell N) (xs ys : List (Cell N)) → ((y : Cell N) → IsIn y ys → is_same_cell y x ≡ false)
    → cell_like x (xs ++ ys) ≡ cell_like x xs
like_before x [] ys h = like_none x ys h
like_before x (z ∷ xs) ys h = ap (λ o. cond (is_same_cell z x) (Some z) o) (like_before x xs ys h)

same_touches : {N : Type 0} (d : Model) (x y : Cell N) → is_same_cell y x ≡ true
    → touches (place_of d x) (place_of d y) ≡ true
same_touches {N = N} d x y h =
    subst (λ p. touches (place_of d x) p ≡ true) (sym (place_alike d y x (alike_same y x h)))
    (by (touches (place_of d x) (place_of d x)) refl)
  where
    by : (b : Bool) → touches (place_of d x) (place_of d x) ≡ b → b ≡ true
    by true e = refl
    by false e = absurd (meets_itself d x (and_right (share_memory x.side x.side)
        (touches (place_of d x) (place_of d x)) e))

pub like_about : {N : Type 0} (d : Model) (p : ByteRange) (x : Cell N) (cs ws : List (Cell N)) → p ≡ place_of d x
    → IsAbout d p cs ws → cell_like x ws ≡ cell_like x cs
like_about d p x cs ws e a =
    let out = outside d (place_of d x) (λ y. is_same_cell y x) (λ y h. same_touches d x y h) in
    sym (ap (cell_like x) a.whole
    ∙ like_behind x a.before (ws ++ a.behind) (λ y i. out y (subst (λ q. touches q (place_of d y) ≡ false) e
    (a.below y i)))
    ∙ like_before x ws a.behind (λ y i. out y (subst (λ q. touches q (place_of d y) ≡ false) e (a.above y i))))

met_is : {N : Type 0} (d : Model) (p : ByteRange) (x : Cell N) → is_met d p x ≡ is_shared_where (met_by d p) x
met_is d p x = by (is_same_side x.side Shared) refl
  where
    by : (t : Bool) → is_same_side x.side Shared ≡ t
        → (t && touches p (place_of d x)) ≡ (t && met_by d p x.block x.offset x.what)
    by false e = refl
    by true e = ap (touches p) (sym (shared_place d x (side_same x.side Shared e)))

filter_same : {N : Type 0} (P Q : Cell N → Bool) (cs : List (Cell N)) → ((x : Cell N) → P x ≡ Q x)
    → filter P cs ≡ filter Q cs
filter_same P Q [] h = refl
filter_same P Q (c ∷ cs) h =
    ap (λ b. cond b (c ∷ filter P cs) (filter P cs)) (h c)
    ∙ ap (λ l. cond (Q c) (c ∷ l) l) (filter_same P Q cs h)

pub met_about : {N : Type 0} (d : Model) (p : ByteRange) (cs ws out : List (Cell N)) → IsAbout d p cs ws
    → out ≡ filter (is_met d p) ws → out ≡ shared_where (met_by d p) cs
met_about d p cs ws out a h =
    h
    ∙ filter_about d p (is_met d p) cs ws a
    (λ x i. (and_parts (is_same_side x.side Shared) (touches p (place_of d x)) i).1)
    ∙ filter_same (is_met d p) (is_shared_where (met_by d p)) cs (λ x. met_is d p x)

pub crossed_about : {N : Type 0} (d : Model) (p : ByteRange) (x : Cell N) (cs ws : List (Cell N)) → p ≡ place_of d x
    → IsAbout d p cs ws → is_crossed d ws x ≡ is_crossed d cs x
crossed_about d p x cs ws e a =
    any_about d p (λ y. meets (place_of d x) (place_of d y) && not (is_same_cell x y)) cs ws a
    (λ y h. subst (λ q. touches q (place_of d y) ≡ true) (sym e)
    (and_parts (share_memory x.side y.side) (touches (place_of d x) (place_of d y))
    (and_parts (meets (place_of d x) (place_of d y)) (not (is_same_cell x y)) h).0).1)

pub cut_about : {N : Type 0} (d : Model) (p : ByteRange) (cs ws : List (Cell N)) → IsAbout d p cs ws
    → cut_cells d p ws ≡ cut_cells d p cs
cut_about d p cs ws a =
    filter_about d p (λ x. is_partly_in p (place_of d x)) cs ws a
    (λ x h. (and_parts (share_memory p.side x.side) (touches p (place_of d x))
    (and_parts (meets p (place_of d x)) (not (encloses p (place_of d x))) h).0).1)

-- a turn of a walk that keeps what a test holds of
pub kept_turn : {N : Type 0} (P : Cell N → Bool) (x : Cell N) (xs rest out outs all : List (Cell N)) → xs ≡ x ∷ rest
    → outs ≡ out ++ filter P (x ∷ []) → out ++ filter P xs ≡ all → outs ++ filter P rest ≡ all
kept_turn {N = N} P x xs rest out outs all e f h =
    ap (λ l. l ++ filter P rest) f
    ∙ append_assoc out (filter P (x ∷ [])) (filter P rest)
    ∙ ap (λ l. out ++ l) (by (P x))
    ∙ sym (ap (λ l. out ++ filter P l) e)
    ∙ h
  where
    by : (b : Bool) → cond b (x ∷ []) [] ++ filter P rest ≡ cond b (x ∷ filter P rest) (filter P rest)
    by true = refl
    by false = refl
