-- Sides of one memory, and cells that don't meet.
use Rattle.std.proofs.Common.{◌≡◌, ℕ, ◌+◌, ◌<◌, Bool, true, false, ◌&&◌, nat_eq, nat_lt, List, ⊎_elim, refl, sym, ◌∙◌}
use Rattle.ep_bitslice.proofs.Joining.{side_back}
use Rattle.std.proofs.Common.{ap, subst, arith}
use Rattle.std.proofs.lemmas.Bool.{and_parts, and_from, and_cases, and_left, and_right, eqb-true, eq-eqb, lt-ltb}
use Rattle.std.proofs.lemmas.Bool.{ltb-true, false_from_ne_true, both_ways}
use Rattle.ep_int.specs.declared.types.Order.{Order}
use Rattle.ep_int.specs.declared.types.Model.{Model}
use Rattle.ep_int.specs.declared.types.Scalar.{Scalar}
use Rattle.ep_int.specs.declared.types.Scalar.TheVariants.{Int}
use Rattle.ep_int.specs.Types.{size_of}
use Rattle.ep_int.specs.Memory.{Memory}
use Rattle.ep_bitslice.specs.declared.cell.Side.{Side}
use Rattle.ep_bitslice.specs.declared.cell.Side.TheVariants.{Left, Right, Shared}
use Rattle.ep_bitslice.specs.declared.cell.CellName.{CellName}
use Rattle.ep_bitslice.specs.Bits.{side_number}
use Rattle.ep_cells.specs.declared.cell.Cell.{Cell}
use Rattle.ep_cells.specs.Cells.{on_left, on_right, share_memory, is_same_side, is_same_scalar, is_same_cell}
use Rattle.ep_cells.specs.Cells.{scalar_number, place_of, touches, meets, IsNamed, IsIn}
use Rattle.ep_cells.specs.States.{EachPair, AreApart}
use Rattle.ep_cells.specs.Meaning.{Memories}
use Rattle.ep_cells.proofs.Places.{at, Within, within_itself, within_shared, apart_within, meets_sym}
use Rattle.ep_cells.proofs.Both.{one, left_first, right_first, one_order}
use Rattle.ep_reads.specs.Bytes.{order_on}
use Rattle.ep_reads.specs.Split.{is_name_of}
use Rattle.ep_reads.specs.Laws.{memory_on}

-- ---- sides

-- one memory is within each side that has it
pub one_within : (s q : Side) → is_same_side s Shared ≡ false → share_memory s q ≡ true → Within s q
one_within Left Left e h = within_itself Left
one_within Left Right e h = absurd (let c : false ≡ true = h in cc)
one_within Left Shared e h = within_shared Left
one_within Right Left e h = absurd (let c : false ≡ true = h in cc)
one_within Right Right e h = within_itself Right
one_within Right Shared e h = within_shared Right
one_within Shared q e h = absurd (let c : true ≡ false = e in cc)

-- what holds of the memories of a side holds of one of them
pub on_one : (P : Order → Memory → Type 0) (os : Order × Order) (m : Memories) (s q : Side)
    → is_same_side s Shared ≡ false → share_memory s q ≡ true → (on_left q ≡ true → P os.0 m.left)
    → (on_right q ≡ true → P os.1 m.right) → P (order_on s os) (memory_on s m)
on_one P os m Left Left e h l r = l refl
on_one P os m Left Right e h l r = absurd (let c : false ≡ true = h in cc)
on_one P os m Left Shared e h l r = l refl
on_one P os m Right Left e h l r = absurd (let c : false ≡ true = h in cc)
on_one P os m Right Right e h l r = r refl
on_one P os m Right Shared e h l r = r refl
on_one P os m Shared q e h l r = absurd (let c : true ≡ false = e in cc)

pub side_same : (s q : Side) → is_same_side s q ≡ true → s ≡ q
side_same s q h = side_back s q (eqb-true (side_number s) (side_number q) h)

-- ---- places

-- a byte inside of a place meets no place that this one doesn't meet
inside_touches : (s t u : Side) (b q n c r k j : ℕ) → j < n → touches (at s b (q + j) 1) (at t c r k) ≡ true
    → touches (at u b q n) (at t c r k) ≡ true
inside_touches s t u b q n c r k j l h =
    let x = and_parts (nat_eq b c) (nat_lt (q + j) (r + k) && nat_lt r (q + j + 1)) h in
    let y = and_parts (nat_lt (q + j) (r + k)) (nat_lt r (q + j + 1)) x.1 in
    let low = ltb-true (q + j) (r + k) y.0 in
    let high = ltb-true r (q + j + 1) y.1 in
    and_from (nat_eq b c) (nat_lt q (r + k) && nat_lt r (q + n)) x.0
    (and_from (nat_lt q (r + k)) (nat_lt r (q + n)) (lt-ltb q (r + k) (omega (arith, low))) (lt-ltb r (q + n) (omega
    (arith, high, l))))

pub inside_apart : (s t u : Side) (b q n c r k j : ℕ) → Within s u → j < n → meets (at u b q n) (at t c r k) ≡ false
    → meets (at s b (q + j) 1) (at t c r k) ≡ false
inside_apart s t u b q n c r k j w l e =
    ⊎_elim
    (λ f. and_left (share_memory s t) (touches (at s b (q + j) 1) (at t c r k)) (apart_within s t u t w
    (within_itself t)
    f))
    (λ f. and_right (share_memory s t) (touches (at s b (q + j) 1) (at t c r k))
    (false_from_ne_true (touches (at s b (q + j) 1) (at t c r k)) (λ h. both_ways (touches (at u b q n) (at t c r k)) f
    (inside_touches s t u b q n c r k j l h))))
    (and_cases (share_memory u t) (touches (at u b q n) (at t c r k)) e)

-- ---- cells of one list

pub same_itself : {N : Type 0} (x : Cell N) → is_same_cell x x ≡ true
same_itself x =
    and_from (is_same_side x.side x.side) (nat_eq x.block x.block && (nat_eq x.offset x.offset && is_same_scalar x.what
    x.what)) (eq-eqb (side_number x.side) (side_number x.side) refl)
    (and_from (nat_eq x.block x.block) (nat_eq x.offset x.offset && is_same_scalar x.what x.what) (eq-eqb x.block
    x.block
    refl)
    (and_from (nat_eq x.offset x.offset) (is_same_scalar x.what x.what) (eq-eqb x.offset x.offset refl) (eq-eqb
    (scalar_number x.what) (scalar_number x.what) refl)))

pub others_apart : {N : Type 0} (d : Model) (x y : Cell N) (cs : List (Cell N)) → EachPair (AreApart d) cs → IsIn x cs
    → IsIn y cs → is_same_cell y x ≡ false → meets (place_of d x) (place_of d y) ≡ false
others_apart d x y cs p i j e =
    elim (one_order (AreApart d) x y cs p i j) [
      | one k ↦ absurd (both_ways (is_same_cell y x) e (subst (λ z. is_same_cell y z ≡ true) (sym k) (same_itself y)))
      | left_first r ↦ r.apart
      | right_first r ↦ meets_sym y.side x.side y.block y.offset (size_of d y.what) x.block x.offset (size_of d x.what)
          r.apart
    ]

-- ---- names

abbrev same_by : {N : Type 0} → Side → (b q : ℕ) → Scalar → Cell N → Bool
same_by s b q w x =
    is_same_side s x.side && (nat_eq b x.block && (nat_eq q x.offset && is_same_scalar w x.what))

-- a cell and its name are the same as another cell
pub named_same : {N : Type 0} (c : CellName) (z x : Cell N) → IsNamed c z → is_same_cell z x ≡ is_name_of c x
named_same c z x i =
    ap (λ (w : Scalar). same_by z.side z.block z.offset w x) i.what
    ∙ ap (λ (s : Side). same_by s z.block z.offset (Int c.t) x) i.side
    ∙ ap (λ (b : ℕ). same_by c.side b z.offset (Int c.t) x) i.block
    ∙ ap (λ (q : ℕ). same_by c.side c.block q (Int c.t) x) i.offset
