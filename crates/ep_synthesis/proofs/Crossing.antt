-- Forms where one cell is crossed.
use Rattle.std.proofs.Common.{◌≡◌, List, ◌++◌, append-nil, sym, ◌∙◌, ap}
use Rattle.ep_int.specs.declared.types.Order.{Order}
use Rattle.ep_bitslice.specs.declared.cell.Side.{Side}
use Rattle.ep_bitslice.specs.declared.cell.Side.TheVariants.{Left, Right}
use Rattle.ep_domain.specs.Domain.{Ops}
use Rattle.ep_cells.specs.declared.cell.Cell.{Cell}
use Rattle.ep_cells.specs.Cells.{each_becomes, parts_on, parts_of}
use Rattle.ep_cells.specs.States.{Known}
use Rattle.ep_reads.specs.Bytes.{order_on}
use Rattle.ep_reads.specs.Split.{byte_cells}
use Rattle.ep_reads.specs.Unify.{bytes_on}

-- ---- bits

pub bytes_are : {N : Type 0} (D : Ops N) (k : Known N) (y here : Cell N) (o : Order) (old bytes slice now : List
    (Cell N))
    → here ≡ y → o ≡ order_on y.side k.orders → bytes ≡ byte_cells D k.model o y.side here.form here → slice ≡ bytes
    → now ≡ old ++ slice → now ≡ old ++ bytes_on D k y
bytes_are D k y here o old bytes slice now e1 e2 e3 e4 e5 =
    e5
    ∙ ap (λ xs. old ++ xs)
    (e4
    ∙ e3
    ∙ ap (λ (z : Order). byte_cells D k.model z y.side here.form here) e2
    ∙ ap (λ z. byte_cells D k.model (order_on y.side k.orders) y.side z.form z) e1)

pub parts_left : {N : Type 0} (f : Cell N → List (Cell N)) (x : Cell N) (old now : List (Cell N)) → x.side ≡ Left
    → now ≡ old ++ f (record x { side = Left }) → now ≡ old ++ each_becomes f (parts_of x)
parts_left {N = N} f x old now h e =
    e
    ∙ ap (λ xs. old ++ xs)
    (ap (λ (s : Side). f (let y : Cell N = record x { side = s } in y)) (sym h)
    ∙ sym (append-nil (f x))
    ∙ sym (ap (λ (s : Side). each_becomes f (parts_on x s)) h))

pub parts_right : {N : Type 0} (f : Cell N → List (Cell N)) (x : Cell N) (old now : List (Cell N)) → x.side ≡ Right
    → now ≡ old ++ f (record x { side = Right }) → now ≡ old ++ each_becomes f (parts_of x)
parts_right {N = N} f x old now h e =
    e
    ∙ ap (λ xs. old ++ xs)
    (ap (λ (s : Side). f (let y : Cell N = record x { side = s } in y)) (sym h)
    ∙ sym (append-nil (f x))
    ∙ sym (ap (λ (s : Side). each_becomes f (parts_on x s)) h))

-- ---- cells of one list
