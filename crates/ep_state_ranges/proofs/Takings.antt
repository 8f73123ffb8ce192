-- What is taken of the cells about a place is what is taken of all.
use Rattle.std.proofs.Common.{◌≡◌, ℕ, ◌+◌, ◌-◌, ◌^◌, ◌<◌, ◌≤◌, Bool, true, false, ◌&&◌, cond, IfSome, List, [], ◌∷◌}
use Rattle.ep_int.proofs.Basics.{size_positive}
use Rattle.ep_reads.proofs.Composed.{each_append}
use Rattle.std.proofs.Common.{◌++◌, append_assoc, append-nil, nat_le, Option, Some, None, refl, sym, ◌∙◌, ap, subst}
use Rattle.std.proofs.Common.{arith}
use Rattle.std.specs.List.{filter}
use Rattle.std.proofs.lemmas.Bool.{and_parts, leb-true}
use Rattle.ep_int.specs.declared.types.Model.{Model}
use Rattle.ep_int.specs.declared.types.Order.{Order}
use Rattle.ep_int.specs.declared.types.Scalar.{Scalar}
use Rattle.ep_int.specs.declared.types.Scalar.TheVariants.{Int, Pointer}
use Rattle.ep_int.specs.Types.{size_of}
use Rattle.ep_bitslice.specs.declared.cell.Side.{Side}
use Rattle.ep_bitslice.specs.declared.segment.Segment.{Segment}
use Rattle.ep_bitslice.specs.Segments.{width}
use Rattle.ep_domain.specs.Domain.{Ops}
use Rattle.ep_cells.specs.declared.cell.Cell.{Cell}
use Rattle.ep_cells.specs.declared.place.ByteRange.{ByteRange}
use Rattle.ep_cells.specs.Cells.{place_of, share_memory, touches, encloses, each_becomes, IsIn, first, later}
use Rattle.ep_cells.specs.States.{Known, Each, HasWidth, AreCells}
use Rattle.ep_cells.proofs.Lists.{in_left, in_right, each_from}
use Rattle.ep_cell_parts.specs.About.{IsAbout}
use Rattle.ep_cell_ranges.specs.Moves.{taken_if, taken_cell, is_whole_shared}
use Rattle.ep_cell_ranges.specs.Sound.{AreNew}
use Rattle.ep_reads.specs.Bytes.{own_form, form_or, form_of_cell, order_on}
use Rattle.ep_reads.specs.Split.{byte_cells}
use Rattle.ep_scalar_reads.specs.Parts.{HasFittingForm}
use Rattle.ep_synthesis.specs.Parts.{IsSized}
use Rattle.ep_synthesis.proofs.Sized.{one_sized}
use Rattle.ep_state_ranges.specs.declared.taking.Share.{Share}
use Rattle.ep_state_ranges.specs.declared.taking.Share.TheVariants.{Whole, WithLeft, WithRight}
use Rattle.ep_state_ranges.specs.Taken.{taken_share}

-- ---- cells that are elsewhere

if_elsewhere : {N : Type 0} (D : Ops N) (k : Known N) (p : ByteRange) (s : Side) (x : Cell N)
    → touches p (place_of k.model x) ≡ false → taken_if D k p s x ≡ []
if_elsewhere D k p s x e =
    ap (λ b. cond (share_memory p.side x.side && b) (taken_cell D k p s x) []) e ∙ by (share_memory p.side x.side)
  where
    by : (b : Bool) → cond (b && false) (taken_cell D k p s x) [] ≡ []
    by true = refl
    by false = refl

elsewhere : {N : Type 0} (D : Ops N) (h : Share) (k : Known N) (p : ByteRange) (x : Cell N)
    → touches p (place_of k.model x) ≡ false → taken_share D h k p x ≡ []
elsewhere D Whole k p x e = if_elsewhere D k p p.side x e
elsewhere D WithLeft k p x e = if_elsewhere D k p _ x e
elsewhere D WithRight k p x e = by (is_whole_shared D k p x)
  where
    by : (b : Bool) → cond b [] (taken_if D k p p.side x) ≡ []
    by true = refl
    by false = if_elsewhere D k p p.side x e

-- ---- a window

none_of : {N : Type 0} (f : Cell N → List (Cell N)) (xs : List (Cell N)) → ((x : Cell N) → IsIn x xs → f x ≡ [])
    → each_becomes f xs ≡ []
none_of f [] h = refl
none_of f (x ∷ xs) h =
    ap (λ l. l ++ each_becomes f xs) (h x (first xs)) ∙ none_of f xs (λ y i. h y (later x xs i))

pub by_window : {N : Type 0} (f : Cell N → List (Cell N)) (d : Model) (p : ByteRange) (cs ws us : List (Cell N))
    → ((x : Cell N) → touches p (place_of d x) ≡ false → f x ≡ []) → IsAbout d p cs ws → us ≡ ws
    → each_becomes f us ≡ each_becomes f cs
by_window f d p cs ws us h a e =
    ap (each_becomes f) e
    ∙ sym (append-nil (each_becomes f ws))
    ∙ sym (ap (λ l. each_becomes f ws ++ l) (none_of f a.behind (λ x i. h x (a.above x i))))
    ∙ sym (each_append f ws a.behind)
    ∙ sym (ap (λ l. l ++ each_becomes f (ws ++ a.behind)) (none_of f a.before (λ x i. h x (a.below x i))))
    ∙ sym (each_append f a.before (ws ++ a.behind))
    ∙ sym (ap (each_becomes f) a.whole)

pub all_by_window : {N : Type 0} (D : Ops N) (h : Share) (k : Known N) (p : ByteRange) (ws us : List (Cell N))
    → IsAbout k.model p k.cells ws → us ≡ ws
    → each_becomes (taken_share D h k p) us ≡ each_becomes (taken_share D h k p) k.cells
all_by_window D h k p ws us a e =
    by_window (taken_share D h k p) k.model p k.cells ws us (λ x i. elsewhere D h k p x i) a e

pub window_sized : {N : Type 0} (d : Model) (p : ByteRange) (cs ws us : List (Cell N)) → AreCells d cs → IsAbout d p cs ws
    → us ≡ ws → Each (IsSized d) us
window_sized d p cs ws us c a e =
    subst (Each (IsSized d)) (sym e)
    (each_from (IsSized d) ws (λ x i. one_sized d cs x c (subst (IsIn x) (sym a.whole)
    (in_right x a.before (ws ++ a.behind) (in_left x ws a.behind i)))))

-- ---- a cell and its bytes

own_wide : {N : Type 0} (x : Cell N) (f : Option (List Segment)) (w : Scalar) (maybe : Bool)
    → IfSome f (λ ss. HasWidth w (width ss))
    → IfSome (cond maybe None (form_or f (own_form x w))) (λ ss. HasWidth w (width ss))
own_wide x f w true h = tt
own_wide x (Some ss) w false h = h
own_wide x None (Int t) false h = omega arith
own_wide x None Pointer false h = tt

pub form_wide : {N : Type 0} (x : Cell N) (f : Option (List Segment)) → f ≡ form_of_cell x → HasFittingForm x
    → IfSome f (λ ss. HasWidth x.what (width ss))
form_wide x f e h =
    subst (λ z. IfSome z (λ ss. HasWidth x.what (width ss))) (sym e) (own_wide x x.form x.what x.maybe h)

-- a turn of a walk that takes of each
pub taken_turn : {N : Type 0} (f : Cell N → List (Cell N)) (x : Cell N) (xs rest out outs all : List (Cell N))
    → xs ≡ x ∷ rest → outs ≡ out ++ f x → out ++ each_becomes f xs ≡ all → outs ++ each_becomes f rest ≡ all
taken_turn f x xs rest out outs all e h k =
    ap (λ l. l ++ each_becomes f rest) h
    ∙ append_assoc out (f x) (each_becomes f rest)
    ∙ sym (ap (λ l. out ++ each_becomes f l) e) ∙ k

-- ---- moves

-- new cells of a place may be moved where as many bytes end within the offsets
pub new_move : {N : Type 0} (d : Model) (p : ByteRange) (q : ℕ) (cs new : List (Cell N)) → AreNew d p cs new
    → q + p.bytes ≤ 2 ^ 32 → Each (λ x. (x.offset - p.offset) + q < 2 ^ 32) new
new_move d p q cs new a l =
    each_from (λ x. (x.offset - p.offset) + q < 2 ^ 32) new
    (λ x i.
    let b = and_parts (nat_le p.offset x.offset) (nat_le (x.offset + size_of d x.what) (p.offset + p.bytes)) (a.inside x
    i).bytes in
    let low = leb-true p.offset x.offset b.0 in
    let high = leb-true (x.offset + size_of d x.what) (p.offset + p.bytes) b.1 in
    omega (arith, low, high, size_positive d x.what, l))

-- ---- the bytes of a cell in a place

pub bytes_in_place : {N : Type 0} (D : Ops N) (k : Known N) (p : ByteRange) (x : Cell N) (d : Model) (os : Order × Order)
    (o : Order) (f : Option (List Segment)) (bytes slice out outs : List (Cell N)) → d ≡ k.model → os ≡ k.orders
    → o ≡ order_on p.side os → f ≡ form_of_cell x → bytes ≡ byte_cells D d o p.side f x → slice ≡ bytes
    → outs ≡ out ++ filter (λ z. encloses p (place_of d z)) slice
    → outs ≡ out ++ filter (λ z. encloses p (place_of k.model z)) (byte_cells D k.model (order_on p.side k.orders)
    p.side (form_of_cell x) x)
bytes_in_place D k p x d os o f bytes slice out outs ed es eo ef eb el h =
    h
    ∙ ap (λ l. out ++ filter (λ z. encloses p (place_of d z)) l) (el ∙ eb)
    ∙ ap (λ w. out ++ filter (λ z. encloses p (place_of w z)) (byte_cells D w o p.side f x)) ed
    ∙ ap (λ w. out ++ filter (λ z. encloses p (place_of k.model z)) (byte_cells D k.model w p.side f x))
    (eo ∙ ap (order_on p.side) es)
    ∙ ap (λ w. out ++ filter (λ z. encloses p (place_of k.model z)) (byte_cells D k.model (order_on p.side k.orders)
    p.side w x)) ef
