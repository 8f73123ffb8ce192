-- Forms and cells where one cell is split.
use Rattle.std.proofs.Common.{◌≡◌, ℕ, suc, ◌+◌, ◌-◌, ◌<◌, ◌≤◌, Bool, true, false, cond, IfSome, List, [], ◌∷◌, ◌++◌}
use Rattle.std.proofs.Common.{append_assoc, append-nil, Option, Some, None, sym, ◌∙◌, ap, subst, arith}
use Rattle.ep_int.specs.declared.types.Order.{Order}
use Rattle.ep_int.specs.declared.types.Model.{Model}
use Rattle.ep_int.specs.declared.types.Scalar.{Scalar}
use Rattle.ep_int.specs.declared.types.Scalar.TheVariants.{Int, Pointer}
use Rattle.ep_bitslice.specs.declared.cell.Side.{Side}
use Rattle.ep_bitslice.specs.declared.segment.Segment.{Segment}
use Rattle.ep_bitslice.specs.Segments.{width}
use Rattle.ep_domain.specs.Domain.{Ops}
use Rattle.ep_cells.specs.declared.cell.Cell.{Cell}
use Rattle.ep_cells.specs.Cells.{side_without}
use Rattle.ep_cells.specs.States.{HasWidth}
use Rattle.ep_reads.specs.Bytes.{order_on, form_or, own_form}
use Rattle.ep_reads.specs.Split.{form_beside, bytes_of_cell, byte_cells}
use Rattle.ep_scalar_reads.specs.Parts.{HasFittingForm}

-- ---- loops

pub cells_end : {N : Type 0} (f : ℕ → Cell N) (n : ℕ) (out : List (Cell N)) (i : ℕ) → n ≤ i
    → out ++ bytes_of_cell f i (n - i) ≡ bytes_of_cell f 0 n → out ≡ bytes_of_cell f 0 n
cells_end f n out i h e =
    let none : n - i ≡ 0 = omega (arith, h) in
    sym (append-nil out) ∙ sym (ap (λ k. out ++ bytes_of_cell f i k) none) ∙ e

pub cells_step : {N : Type 0} (f : ℕ → Cell N) (n : ℕ) (out now : List (Cell N)) (r : Cell N) (i : ℕ) → i < n → r ≡ f i
    → now ≡ out ++ r ∷ [] → out ++ bytes_of_cell f i (n - i) ≡ bytes_of_cell f 0 n
    → now ++ bytes_of_cell f (i + 1) (n - (i + 1)) ≡ bytes_of_cell f 0 n
cells_step f n out now r i l is e h =
    let more : n - i ≡ suc (n - (i + 1)) = omega (arith, l) in
    ap (λ xs. xs ++ bytes_of_cell f (i + 1) (n - (i + 1))) e
    ∙ append_assoc out (r ∷ []) (bytes_of_cell f (i + 1) (n - (i + 1)))
    ∙ ap (λ z. out ++ z ∷ bytes_of_cell f (i + 1) (n - (i + 1))) is
    ∙ sym (ap (λ k. out ++ bytes_of_cell f i k) more)
    ∙ h

own_fits : {N : Type 0} (x : Cell N) (w : Scalar) (maybe : Bool)
    → IfSome (cond maybe None (own_form x w)) (λ ss. HasWidth w (width ss))
own_fits x w true = tt
own_fits x (Int t) false = omega arith
own_fits x Pointer false = tt

with_fits : (w : Scalar) (f g : Option (List Segment)) → IfSome f (λ ss. HasWidth w (width ss))
    → IfSome g (λ ss. HasWidth w (width ss)) → IfSome (form_or f g) (λ ss. HasWidth w (width ss))
with_fits w None g h k = k
with_fits w (Some ss) g h k = h

beside_by : {N : Type 0} (x : Cell N) (o : Option Side) → HasFittingForm x
    → IfSome (form_beside x o) (λ ss. HasWidth x.what (width ss))
beside_by x None h = h
beside_by {N = N} x (Some r) h =
    let y : Cell N = record x { side = r } in
    with_fits x.what x.form (cond x.maybe None (own_form (record x { side = r }) x.what)) h (own_fits y x.what x.maybe)

pub beside_fits : {N : Type 0} (x : Cell N) (o : Option Side) (f : Option (List Segment)) → HasFittingForm x
    → f ≡ form_beside x o → IfSome f (λ ss. HasWidth x.what (width ss))
beside_fits x o f h e = subst (λ z. IfSome z (λ ss. HasWidth x.what (width ss))) (sym e) (beside_by x o h)

-- the steps of a split

pub bytes_beside : {N : Type 0} (D : Ops N) (d : Model) (os : Order × Order) (s : Side) (x : Cell N) (o : Order)
    (r : Option Side) (f : Option (List Segment)) (bytes : List (Cell N)) → o ≡ order_on s os
    → r ≡ side_without s x.side → f ≡ form_beside x r → bytes ≡ byte_cells D d o s f x
    → bytes ≡ byte_cells D d (order_on s os) s (form_beside x (side_without s x.side)) x
bytes_beside D d os s x o r f bytes e1 e2 e3 e4 =
    e4
    ∙ ap (λ z. byte_cells D d z s f x) e1
    ∙ ap (λ z. byte_cells D d (order_on s os) s z x) (e3 ∙ ap (form_beside x) e2)
