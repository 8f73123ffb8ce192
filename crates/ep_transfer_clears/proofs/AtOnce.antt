-- A clear at one place is one change of the cells there, where none lies partly in its bytes.
use Rattle.std.proofs.Common.{◌≡◌, ℕ, zero, suc, ◌+◌, ◌-◌, ◌^◌, ◌<◌, ◌≤◌, Bool, true, false, ◌&&◌, ◌||◌, nat_eq}
use Rattle.ep_int.proofs.Basics.{size_positive}
use Rattle.std.proofs.Common.{nat_lt, if◌then◌else◌, List, [], ◌∷◌, ◌++◌, Option, Some, None, IfSome, refl, sym, ap}
use Rattle.std.proofs.Common.{◌∙◌, subst, append_assoc, arith, drop}
use Rattle.std.specs.Option.{option_map_or}
use Rattle.std.proofs.lemmas.Bool.{and_from, and_parts, eq-eqb}
use Rattle.std.proofs.lemmas.Bool.Decides.{nat_tests}
use Rattle.ep_int.specs.declared.types.Model.{Model}
use Rattle.ep_int.specs.declared.types.IntType.TheVariants.{U8}
use Rattle.ep_int.specs.declared.types.Scalar.{Scalar}
use Rattle.ep_int.specs.declared.types.Scalar.TheVariants.{Int, Pointer}
use Rattle.ep_int.specs.Types.{size_of}
use Rattle.ep_layout.specs.declared.types.Leaf.{Leaf}
use Rattle.ep_bitslice.specs.declared.cell.Side.{Side}
use Rattle.ep_bitslice.specs.declared.cell.Side.TheVariants as cell_side
use Rattle.ep_domain.specs.Domain.{Ops}
use Rattle.ep_cells.specs.declared.cell.Cell.{Cell}
use Rattle.ep_cells.specs.declared.cell.Value.{Value}
use Rattle.ep_cells.specs.declared.cell.Value.TheVariants.{Num, Ptr}
use Rattle.ep_cells.specs.Cells.{place_of}
use Rattle.ep_cells.specs.Forms.{common_form}
use Rattle.ep_cells.specs.Kill.{leaf_at, is_in_leaf, AreLeavesIn}
use Rattle.ep_cells.specs.Look.{is_some_partly_in}
use Rattle.ep_cells.specs.States.{Known, HasRisingBlocks, AreCells}
use Rattle.ep_cell_ranges.specs.Moves.{place_at}
use Rattle.ep_cell_ranges.specs.Ranges.{replaced}
use Rattle.ep_cell_ranges.specs.Spots.{Spot, is_same_spot, all_spots}
use Rattle.ep_cell_ranges.specs.Laws.{MoreSplitLaws, ReplaceLaws}
use Rattle.ep_cell_ranges.specs.Sound.{AreNew}
use Rattle.ep_core.specs.Runs.{left, right}
use Rattle.ep_equalities.specs.declared.pair.Mode.{Mode}
use Rattle.ep_equalities.specs.declared.pair.Mode.TheVariants.{Both, Left, Right}
use Rattle.ep_reads.specs.SplitLaws.{SplitLaws}
use Rattle.ep_transfers.specs.Places.{Places, moved_spots, moved_places}
use Rattle.ep_transfers.specs.Transfers.{zero_item, undefined_item, cleared_here, cleared_from}
use Rattle.ep_transfers.specs.Writes.{Item, underway, value_of_same, write_side, write_both, write_same, write_shared}
use Rattle.ep_transfers.specs.Writes.{write_shared_each, write_now}
use Rattle.ep_transfer_writes.proofs.Standing.{new_stands, common_fits, same_sort}
use Rattle.ep_transfer_writes.specs.Running.{RunsAt, item_cell}
use Rattle.ep_transfer_writes.specs.Waiting.{ItemFits, CanStand}
use Rattle.ep_transfer_clears.specs.OnePlace.{cells_here, cells_from}
use Rattle.ep_transfer_clears.specs.Walk.{first_at, IsAt}
use Rattle.ep_transfer_clears.proofs.Stepping.{starts, leaf_is, inside_is, no_leaf, leaf_begins, leaf_ends, leaf_low}
use Rattle.ep_transfer_clears.proofs.Stepping.{end_low}
use Rattle.ep_transfer_clears.proofs.Tiles.{IsTile, Tiles, tiles_new, in_turn, in_turn_append, in_turn_model, at_once}
use Rattle.ep_transfer_clears.proofs.Zeros.{zero_fits, undefined_fits}

-- ---- cells of what waits

module _ {N : Type 0} (D : Ops N) where
  met_rising : (a : N) (o : Option N)
      → HasRisingBlocks (option_map_or (λ c. Some (Num c)) o (let v : Option (Value N) = Some (Num a) in v))
  met_rising a None = tt
  met_rising a (Some c) = tt

  same_rising : (u v : Option (Value N)) → HasRisingBlocks u → HasRisingBlocks v
      → HasRisingBlocks (value_of_same D u v)
  same_rising None v g h = h
  same_rising (Some u) None g h = g
  same_rising (Some (Ptr p)) (Some v) g h = g
  same_rising (Some (Num x)) (Some (Ptr p)) g h = g
  same_rising (Some (Num x)) (Some (Num y)) g h = met_rising x (D.meet x y)

  item_stands : (k : Known N) (s : Side) (w : Scalar) (i : Item N) (q : Spot) → ItemFits k w i
      → HasRisingBlocks i.pair.left.value → HasRisingBlocks i.pair.right.value → q.1 + size_of k.model w ≤ 2 ^ 32
      → CanStand k (item_cell D s w i q)
  item_stands k cell_side.Left w i q fits l r room =
      new_stands k cell_side.Left q w i.pair.left.value i.left_maybe i.pair.left.form fits.left.sort l room
      fits.left.form
  item_stands k cell_side.Right w i q fits l r room =
      new_stands k cell_side.Right q w i.pair.right.value i.right_maybe i.pair.right.form fits.right.sort r room
      fits.right.form
  item_stands k cell_side.Shared w i q fits l r room =
      new_stands k cell_side.Shared q w (value_of_same D i.pair.left.value i.pair.right.value)
      (i.left_maybe || i.right_maybe) (common_form i.pair.left.form i.pair.right.form)
      (same_sort D w i.pair.left.value i.pair.right.value fits.left.sort fits.right.sort)
      (same_rising i.pair.left.value i.pair.right.value l r) room
      (common_fits k.cells w i.pair.left.form i.pair.right.form fits.left.form)

  item_side : (s : Side) (w : Scalar) (i : Item N) (q : Spot) → (item_cell D s w i q).side ≡ s
  item_side cell_side.Left w i q = refl
  item_side cell_side.Right w i q = refl
  item_side cell_side.Shared w i q = refl

  item_block : (s : Side) (w : Scalar) (i : Item N) (q : Spot) → (item_cell D s w i q).block ≡ q.0
  item_block cell_side.Left w i q = refl
  item_block cell_side.Right w i q = refl
  item_block cell_side.Shared w i q = refl

  item_offset : (s : Side) (w : Scalar) (i : Item N) (q : Spot) → (item_cell D s w i q).offset ≡ q.1
  item_offset cell_side.Left w i q = refl
  item_offset cell_side.Right w i q = refl
  item_offset cell_side.Shared w i q = refl

  pub item_what : (s : Side) (w : Scalar) (i : Item N) (q : Spot) → (item_cell D s w i q).what ≡ w
  item_what cell_side.Left w i q = refl
  item_what cell_side.Right w i q = refl
  item_what cell_side.Shared w i q = refl

  -- ---- one write

  spot_itself : (q : Spot) → is_same_spot q q ≡ true
  spot_itself q = and_from (nat_eq q.0 q.0) (nat_eq q.1 q.1) (eq-eqb q.0 q.0 refl) (eq-eqb q.1 q.1 refl)

  abbrev alone : Side → Scalar → Item N → Spot → Known N → Known N
  alone s w i r k = replaced D (place_of k.model (item_cell D s w i r)) (item_cell D s w i r ∷ []) k

  write_is : (m : Mode) (to : Bool) (p : Places) (s : Side) (q : Spot) → RunsAt m to p (undefined_item D) (s, q)
      → (w : Scalar) (i : Item N) → i.same ≡ true → (o : ℕ) (k : Known N)
      → write_now D m to w (moved_places o p) i k ≡ alone s w i (q.0, q.1 + o) k
  write_is Left to p s q h w i e o k =
      ap (λ qs. (write_side D left w (moved_spots o qs) (underway k i)).known) h.1
      ∙ ap (λ z. alone z w i (q.0, q.1 + o) k) (sym h.0)
  write_is Right to p s q h w i e o k =
      ap (λ qs. (write_side D right w (moved_spots o qs) (underway k i)).known) h.1
      ∙ ap (λ z. alone z w i (q.0, q.1 + o) k) (sym h.0)
  write_is Both to p s q h w i e o k =
      let r : Spot = (q.0, q.1 + o) in
      let u = underway k i in
      let same : (to && i.same) ≡ true = and_from to i.same (and_parts to true h.3).0 e in
      ap (λ t. (write_both D t w (moved_places o p) u).known) same
      ∙ ap (λ qs. (write_same D w (moved_spots o qs) (moved_spots o p.right) u).known) h.1
      ∙ ap (λ qs. (write_same D w (r ∷ []) (moved_spots o qs) u).known) h.2
      ∙ ap (λ t. (if t then write_shared D w r u else write_shared_each D w (all_spots (r ∷ []) (r ∷ [])) u).known)
      (spot_itself r)
      ∙ ap (λ z. alone z w i r k) (sym h.0)

  zero_same : (w : Scalar) → (zero_item D w).same ≡ true
  zero_same (Int t) = refl
  zero_same Pointer = refl

  zero_rises_left : (w : Scalar) → HasRisingBlocks (zero_item D w).pair.left.value
  zero_rises_left (Int t) = tt
  zero_rises_left Pointer = tt

  zero_rises_right : (w : Scalar) → HasRisingBlocks (zero_item D w).pair.right.value
  zero_rises_right (Int t) = tt
  zero_rises_right Pointer = tt

  -- ---- the definition writes the cells one after the other

  module _ (split : SplitLaws D) (more : MoreSplitLaws D) (law : ReplaceLaws D) (m : Mode) (to : Bool) (p : Places)
      (s : Side) (q : Spot) (runs : RunsAt m to p (undefined_item D) (s, q)) (d : Model) (ls : List Leaf) where
    abbrev turn : List (Cell N) → Known N → Known N
    turn = in_turn d s q.0 D

    here_is : (o : ℕ) (w : Option Scalar) (t : Bool) (k : Known N)
        → cleared_here D [] m 0 ls to p o w t k ≡ turn (cells_here D d s q o w t) k
    here_is o (Some w) t k = write_is m to p s q runs w (zero_item D w) (zero_same w) o k
    here_is o None true k = refl
    here_is o None false k = write_is m to p s q runs (Int U8) (undefined_item D) refl o k

    turns_are : (n o : ℕ) (k : Known N) → k.model ≡ d
        → cleared_from D [] m 0 ls to p o n k ≡ turn (cells_from D d s q ls o n) k
    turns_are zero o k e = refl
    turns_are (suc n) o k e =
        let lf = leaf_at ls o in
        let xs = cells_here D d s q o lf (is_in_leaf d ls o) in
        let j = turn xs k in
        ap (λ z. cleared_from D [] m 0 ls to p (o + 1) n (cleared_here D [] m 0 ls to p o lf (is_in_leaf z ls o) k)) e
        ∙ ap (cleared_from D [] m 0 ls to p (o + 1) n) (here_is o lf (is_in_leaf d ls o) k)
        ∙ turns_are n (o + 1) j (in_turn_model d s q.0 D split more law xs k ∙ e)
        ∙ sym (in_turn_append d s q.0 D xs (cells_from D d s q ls (o + 1) n) k)

  -- ---- the cells lie one behind the other

  at_end : (q n : ℕ) → q + zero ≡ n → q ≡ n
  at_end q n h = omega (arith, h)

  module _ (k : Known N) (s : Side) (to : Spot) (size : ℕ) (ls : List Leaf) (room : to.1 + size ≤ 2 ^ 32) where
    abbrev d : Model
    d = k.model

    abbrev bare : Known N
    bare = record k { cells = [] }

    abbrev Are : (r t : ℕ) → List (Cell N) → Type 0
    Are r t cs = Tiles d s to.0 (to.1 + r) t cs

    item_room : (o l : ℕ) → o + l ≤ size → to.1 + o + l ≤ 2 ^ 32
    item_room o l h = omega (arith, h, room)

    tile : (o r : ℕ) (w : Scalar) (i : Item N) → r ≡ o → ItemFits bare w i → HasRisingBlocks i.pair.left.value
        → HasRisingBlocks i.pair.right.value → o + size_of d w ≤ size
        → IsTile d s to.0 (to.1 + r) (item_cell D s w i (to.0, to.1 + o))
    tile o r w i e fits a b h =
        let x = item_stands bare s w i (to.0, to.1 + o) fits a b (item_room o (size_of d w) h) in
        record {
          side = item_side s w i (to.0, to.1 + o);
          block = item_block s w i (to.0, to.1 + o);
          offset = item_offset s w i (to.0, to.1 + o) ∙ ap (λ z. to.1 + z) (sym e);
          cell = x.cell;
          form = x.form;
        }

    -- one cell, and those behind it
    one_more : (o r : ℕ) (w : Scalar) (i : Item N) (cs : List (Cell N)) → r ≡ o → ItemFits bare w i
        → HasRisingBlocks i.pair.left.value → HasRisingBlocks i.pair.right.value → o + size_of d w ≤ size
        → Are (o + size_of d w) (size - (o + size_of d w)) cs
        → Are r (size - r) (item_cell D s w i (to.0, to.1 + o) ∷ cs)
    one_more o r w i cs e fits a b h more =
        let l = item_what s w i (to.0, to.1 + o) in
        let all : size_of d w ≤ size - r = (omega (arith, e, h)) in
        let further : to.1 + (o + size_of d w) ≡ to.1 + r + size_of d w = omega (arith, e) in
        let less : size - (o + size_of d w) ≡ size - r - size_of d w = omega (arith, e) in (
          tile o r w i e fits a b h,
          subst (λ z. size_of d z ≤ size - r) (sym l) all,
          subst (λ z. Tiles d s to.0 (to.1 + r + size_of d z) (size - r - size_of d z) cs) (sym l)
              (subst (λ z. Tiles d s to.0 z (size - r - size_of d w) cs) further
              (subst (λ z. Tiles d s to.0 (to.1 + (o + size_of d w)) z cs) less more)),
        )

    abbrev here : (o : ℕ) → Option Scalar → Bool → List (Cell N)
    here = cells_here D d s to

    abbrev from : (o n : ℕ) → List (Cell N)
    from o n = cells_from D d s to ls o n

    is_less : (q e : ℕ) → nat_lt q e ≡ true → q < e
    is_less q e h = grind (arith, nat_tests)

    is_most : (q e : ℕ) → nat_lt q e ≡ false → e ≤ q
    is_most q e h = grind (arith, nat_tests)

    -- from r on: where the last leaf ends, or the byte q, the later of both
    record Stands (q begun e r : ℕ) : Type 0 where
      pub walk : IsAt d size ls q begun e
      pub inside : q < e → r ≡ e
      pub outside : e ≤ q → r ≡ q

    -- the cells from a byte on
    abbrev Rest : (q n : ℕ) → Type 0
    Rest q n = (begun e r : ℕ) → Stands q begun e r → Are r (size - r) (from q n)

    by_end : (n q begun e r : ℕ) → Rest (q + 1) n → Stands q begun e r → IsAt d size ls (q + 1) begun e
        → q + suc n ≡ size → (t : Bool) → nat_lt q e ≡ t → Are r (size - r) (here q None t ++ from (q + 1) n)
    by_end n q begun e r rest f w g true h =
        let l = is_less q e h in
        let z = f.inside l in
        rest begun e r (record { walk = w; inside = λ i. z; outside = λ i. omega (arith, i, z, l) })
    by_end n q begun e r rest f w g false h =
        let l = is_most q e h in
        one_more q r (Int U8) (undefined_item D) (from (q + 1) n) (f.outside l) (undefined_fits D bare (Int U8)) tt tt
        (omega (arith, g))
        (rest begun e (q + 1) (record {
          walk = w;
          inside = λ i. absurd (omega (arith, i, l));
          outside = λ i. refl;
        }))

    by_leaf : (n q begun e r : ℕ) → Rest (q + 1) n → Stands q begun e r → q + suc n ≡ size → (o : Option Scalar)
        → leaf_at ls q ≡ o → Are r (size - r) (here q o (is_in_leaf d ls q) ++ from (q + 1) n)
    by_leaf n q begun e r rest f g (Some v) h =
        let w = f.walk in
        let i : first_at (drop begun ls) q ≡ Some v = sym (leaf_is d size ls q begun e w) ∙ h in
        let some = size_positive d v in
        one_more q r v (zero_item D v) (from (q + 1) n) (f.outside (leaf_low d size ls q begun e w v i))
        (zero_fits D bare v) (zero_rises_left v) (zero_rises_right v) (leaf_ends d size ls q begun e w v i)
        (rest (begun + 1) (q + size_of d v) (q + size_of d v) (record {
          walk = leaf_begins d size ls q begun e w v (size_of d v) refl i;
          inside = λ i. refl;
          outside = λ i. omega (arith, i, some);
        }))
    by_leaf n q begun e r rest f g None h =
        let w = f.walk in
        let i : first_at (drop begun ls) q ≡ None = sym (leaf_is d size ls q begun e w) ∙ h in
        subst (λ t. Are r (size - r) (here q None t ++ from (q + 1) n))
        (sym (inside_is d size ls q begun e w (nat_lt q e) refl i))
        (by_end n q begun e r rest f (no_leaf d size ls q begun e w i) g (nat_lt q e) refl)

    next_left : (q n : ℕ) → q + suc n ≡ size → q + 1 + n ≡ size
    next_left q n h = omega (arith, h)

    tiles_from : (n q begun e r : ℕ) → Stands q begun e r → q + n ≡ size → Are r (size - r) (from q n)
    tiles_from zero q begun e r f g =
        let l = end_low d size ls q begun e f.walk in
        let end = at_end q size g in
        let z : r ≡ q = f.outside (omega (arith, l, end)) in
        omega (arith, z, end)
    tiles_from (suc n) q begun e r f g =
        by_leaf n q begun e r (λ b i o x. tiles_from n (q + 1) b i o x (next_left q n g)) f g (leaf_at ls q) refl

    pub all_tiles : AreLeavesIn d 0 size ls → Tiles d s to.0 to.1 size (from 0 size)
    all_tiles a =
        let zero_more : to.1 + 0 ≡ to.1 = omega arith in
        let all : size - 0 ≡ size = omega arith in
        subst (λ z. Tiles d s to.0 z size (from 0 size)) zero_more
        (subst (λ z. Tiles d s to.0 (to.1 + 0) z (from 0 size)) all
        (tiles_from size 0 0 0 0 (record { walk = starts d size ls a; inside = λ i. refl; outside = λ i. refl })
        (omega arith)))

    pub cells_new : AreLeavesIn d 0 size ls → AreNew d (place_at s to size) k.cells (from 0 size)
    cells_new a = tiles_new d s to.0 k.cells (from 0 size) to.1 size (all_tiles a)

  -- ---- all at once

  module _ (split : SplitLaws D) (more : MoreSplitLaws D) (law : ReplaceLaws D) (k : Known N) (s : Side)
      (to : Spot) where
    some_at_once : (size : ℕ) (cs : List (Cell N)) → Tiles k.model s to.0 to.1 size cs → 0 < size
        → AreCells k.model k.cells → is_some_partly_in k.model (place_at s to size) k.cells ≡ false
        → in_turn k.model s to.0 D cs k ≡ replaced D (place_at s to size) cs k
    some_at_once size [] h some cells uncut = absurd (omega (arith, h, some))
    some_at_once size (c ∷ cs) h some cells uncut =
        at_once k.model s to.0 D split more law cs c to.1 size k refl h cells uncut

    pub cleared_at_once : (m : Mode) (same_to : Bool) (p : Places) (size : ℕ) (ls : List Leaf)
        → RunsAt m same_to p (undefined_item D) (s, to) → AreLeavesIn k.model 0 size ls → to.1 + size ≤ 2 ^ 32
        → 0 < size → AreCells k.model k.cells → is_some_partly_in k.model (place_at s to size) k.cells ≡ false
        → cleared_from D [] m 0 ls same_to p 0 size k
        ≡ replaced D (place_at s to size) (cells_from D k.model s to ls 0 size) k
    cleared_at_once m same_to p size ls runs a room some cells uncut =
        turns_are split more law m same_to p s to runs k.model ls size 0 k refl
        ∙ some_at_once size (cells_from D k.model s to ls 0 size) (all_tiles k s to size ls room a) some cells uncut

-- ---- in turn

pub leaf_space : (d : Model) (a size : ℕ) (ls : List Leaf) (q n e : ℕ) → IsAt d size ls q n e → a + size ≤ 2 ^ 32
    → (what : Option Scalar) → what ≡ first_at (drop n ls) q → IfSome what (λ w. a + q + size_of d w ≤ 2 ^ 32)
leaf_space d a size ls q n e w room None h = tt
leaf_space d a size ls q n e w room (Some v) h =
    let ends = leaf_ends d size ls q n e w v (sym h) in omega (arith, ends, room)

module _ {N : Type 0} (D : Ops N) (d : Model) (s : Side) (to : Spot) (size : ℕ) (ls : List Leaf) where
  here_by : (q : ℕ) (w : Option Scalar) (t u : Bool) → (w ≡ None → u ≡ t)
      → cells_here D d s to q w u ≡ cells_here D d s to q w t
  here_by q (Some w) t u h = refl
  here_by q None t u h = ap (cells_here D d s to q None) (h refl)

  one_less : (n i : ℕ) → i < n → n - i ≡ suc (n - (i + 1))
  one_less n i h = omega (arith, h)

  pub next_cells : (q : ℕ) (w : Option Scalar) (t : Bool) (out new all : List (Cell N)) → q < size
      → leaf_at ls q ≡ w → (w ≡ None → is_in_leaf d ls q ≡ t) → new ≡ out ++ cells_here D d s to q w t
      → out ++ cells_from D d s to ls q (size - q) ≡ all
      → new ++ cells_from D d s to ls (q + 1) (size - (q + 1)) ≡ all
  next_cells q w t out new all h e g x c =
      let rest = cells_from D d s to ls (q + 1) (size - (q + 1)) in
      ap (λ z. z ++ rest) x
      ∙ append_assoc out (cells_here D d s to q w t) rest
      ∙ ap (λ z. out ++ (z ++ rest)) (sym (here_by q w t (is_in_leaf d ls q) g))
      ∙ ap (λ z. out ++ (cells_here D d s to q z (is_in_leaf d ls q) ++ rest)) (sym e)
      ∙ ap (λ z. out ++ cells_from D d s to ls q z) (sym (one_less size q h))
      ∙ c

  none_left : (n i : ℕ) → n ≤ i → n - i ≡ 0
  none_left n i h = omega (arith, h)

  append_nil : (xs : List (Cell N)) → xs ++ [] ≡ xs
  append_nil [] = refl
  append_nil (x ∷ xs) = ap (λ ys. x ∷ ys) (append_nil xs)

  pub no_cells : (q : ℕ) (out all : List (Cell N)) → size ≤ q
      → out ++ cells_from D d s to ls q (size - q) ≡ all → out ≡ all
  no_cells q out all h c =
      sym (append_nil out) ∙ sym (ap (λ n. out ++ cells_from D d s to ls q n) (none_left size q h)) ∙ c
