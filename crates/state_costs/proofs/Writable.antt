-- A cell without a form may be written where none lies partly in its place.
use Rattle.std.proofs.Common.{◌≡◌, Bool, true, ◌&&◌, not, ◌↔◌, IsTrue, List, Option, None, IfSome, refl, sym, ◌∙◌, ap}
use Rattle.std.proofs.Common.{subst}
use Rattle.std.proofs.lemmas.Bool.{and_parts}
use Rattle.ep_int.specs.declared.types.Model.{Model}
use Rattle.ep_cells.specs.declared.cell.Cell.{Cell}
use Rattle.ep_cells.specs.declared.place.ByteRange.{ByteRange}
use Rattle.ep_cells.specs.Cells.{place_of}
use Rattle.ep_cells.specs.Look.{is_some_partly_in}
use Rattle.ep_cells.specs.States.{IsFormOf, HasForm, IsCell, CanWrite}
use Rattle.ep_cell_parts.proofs.Allowed.{can_write_is}

no_form : {N : Type 0} (c : Cell N) (cs : List (Cell N)) → c.form ≡ None → HasForm cs c
no_form c cs e = subst (λ o. IfSome o (IsFormOf cs c)) (sym e) tt

pub writable : {N : Type 0} (d e : Model) (c : Cell N) (cs : List (Cell N)) (q : ByteRange) (a n p : Bool) → e ≡ d
    → (IsTrue a ↔ IsCell e c) → (IsTrue n → c.form ≡ None) → q ≡ place_of e c → p ≡ is_some_partly_in d q cs
    → IsTrue ((a && n) && not p) → CanWrite d c cs
writable d e c cs q a n p m ha hn hq hp h =
    let x = and_parts (a && n) (not p) h in
    let y = and_parts a n x.0 in
    let cell = subst (λ z. IsCell z c) m (ha.0 y.0) in
    let form = no_form c cs (hn y.1) in
    (can_write_is d c cs q true true p cell.rising (λ i. cell, λ i. refl) (λ i. form, λ i. refl)
    (hq ∙ ap (λ z. place_of z c) m) hp).0 x.1
