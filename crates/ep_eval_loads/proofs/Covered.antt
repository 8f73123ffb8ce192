-- A cell that has a byte of a side is the one that is found there: no two cells have it.
use Rattle.std.proofs.Common.{◌≡◌, ℕ, ◌+◌, Bool, true, false, ◌&&◌, ◌||◌, nat_eq, nat_le, nat_lt, cond, List, [], ◌∷◌}
use Rattle.std.proofs.Common.{◌++◌, Option, Some, None, refl, sym, ap, ◌∙◌, subst, arith}
use Rattle.std.proofs.lemmas.Bool.{true≢false, and_parts, and_from, eqb-true, leb-true, ltb-true, eq-eqb, lt-ltb}
use Rattle.ep_int.specs.declared.types.Model.{Model}
use Rattle.ep_int.specs.Types.{size_of}
use Rattle.ep_bitslice.specs.declared.cell.Side.{Side}
use Rattle.ep_bitslice.specs.declared.cell.Side.TheVariants.{Left, Right, Shared}
use Rattle.ep_cells.specs.declared.cell.Cell.{Cell}
use Rattle.ep_cells.specs.declared.place.ByteRange.{ByteRange}
use Rattle.ep_cells.specs.Cells.{IsIn, first, later, is_same_side, share_memory, place_of, touches, meets}
use Rattle.ep_cells.specs.Look.{covers, cell_at}
use Rattle.ep_cells.specs.States.{AreApart, AreCells}
use Rattle.ep_cells.proofs.Both.{one, left_first, right_first, one_order}
use Rattle.ep_cells.proofs.Lists.{in_left, in_right}
use Rattle.ep_cell_parts.specs.About.{IsAbout}
use Rattle.ep_reads.proofs.Found.{Covering, covering}

shares : (s a b : Side) → (is_same_side a s || is_same_side a Shared) ≡ true → (is_same_side b s || is_same_side b Shared) ≡ true
    → share_memory a b ≡ true
shares s Shared Left h k = refl
shares s Shared Right h k = refl
shares s Shared Shared h k = refl
shares s Left Shared h k = refl
shares s Right Shared h k = refl
shares s Left Left h k = refl
shares s Right Right h k = refl
shares Left Left Right h k = absurd (true≢false (sym k))
shares Right Left Right h k = absurd (true≢false (sym h))
shares Shared Left Right h k = absurd (true≢false (sym h))
shares Left Right Left h k = absurd (true≢false (sym h))
shares Right Right Left h k = absurd (true≢false (sym k))
shares Shared Right Left h k = absurd (true≢false (sym h))

module _ {N : Type 0} (d : Model) (s : Side) (b p : ℕ) where
  covers_as : (cs : List (Cell N)) (x : Cell N) → IsIn x cs → covers d s b p x ≡ true → Covering d s b p cs x
  covers_as cs x i h =
      let e = and_parts (is_same_side x.side s || is_same_side x.side Shared)
      (nat_eq x.block b && (nat_le x.offset p && nat_lt p (x.offset + size_of d x.what))) h in
      let f = and_parts (nat_eq x.block b) (nat_le x.offset p && nat_lt p (x.offset + size_of d x.what)) e.1 in
      let g = and_parts (nat_le x.offset p) (nat_lt p (x.offset + size_of d x.what)) f.1 in
      record {
        is_in = i;
        sides = e.0;
        in_block = eqb-true x.block b f.0;
        low = leb-true x.offset p g.0;
        high = ltb-true p (x.offset + size_of d x.what) g.1;
      }

  both_meet : (cs : List (Cell N)) (x y : Cell N) → Covering d s b p cs x → Covering d s b p cs y
      → meets (place_of d x) (place_of d y) ≡ true
  both_meet cs x y e f =
      let n = size_of d x.what in
      let r = size_of d y.what in
      let low = e.low in
      let high = e.high in
      let below = f.low in
      let above = f.high in
      and_from (share_memory x.side y.side) (touches (place_of d x) (place_of d y)) (shares s x.side y.side e.sides f.sides)
      (and_from (nat_eq x.block y.block) (nat_lt x.offset (y.offset + r) && nat_lt y.offset (x.offset + n))
      (eq-eqb x.block y.block (e.in_block ∙ sym f.in_block))
      (and_from (nat_lt x.offset (y.offset + r)) (nat_lt y.offset (x.offset + n))
      (lt-ltb x.offset (y.offset + r) (omega (arith, low, high, below, above)))
      (lt-ltb y.offset (x.offset + n) (omega (arith, low, high, below, above)))))

  some_covers : (cs : List (Cell N)) (x : Cell N) → IsIn x cs → covers d s b p x ≡ true → cell_at d s b p cs ≡ None → ⊥
  some_covers [] x i h e = elim i [ ]
  some_covers (_ ∷ cs) x (first _) h e =
      let g : ◌≡◌ {A = Option (Cell N)} (Some x) None = sym (ap (λ t. cond t (Some x) (cell_at d s b p cs)) h) ∙ e in cc
  some_covers (c ∷ cs) x (later _ _ i) h e = split (covers d s b p c) (λ g. some_covers cs x i h g) e
    where
      split : (t : Bool) → (cell_at d s b p cs ≡ None → ⊥) → cond t (Some c) (cell_at d s b p cs) ≡ None → ⊥
      split true more g = cc
      split false more g = more g

  pub found_is : (cs : List (Cell N)) (x : Cell N) → AreCells d cs → IsIn x cs → covers d s b p x ≡ true
      → cell_at d s b p cs ≡ Some x
  found_is cs x a i h = by (cell_at d s b p cs) refl
    where
      by : (o : Option (Cell N)) → cell_at d s b p cs ≡ o → cell_at d s b p cs ≡ Some x
      by None e = absurd (some_covers cs x i h e)
      by (Some y) e =
          let f = covering d s b p cs y e in
          let g = covers_as cs x i h in
          elim (one_order (AreApart d) x y cs a.pairs i f.is_in) [
            | one q ↦ e ∙ ap Some (sym q)
            | left_first r ↦ absurd (true≢false (sym (both_meet cs x y g f) ∙ r.apart))
            | right_first r ↦ absurd (true≢false (sym (both_meet cs y x f g) ∙ r.apart))
          ]

pub about_in : {N : Type 0} (d : Model) (p : ByteRange) (cs window : List (Cell N)) → IsAbout d p cs window
    → (x : Cell N) → IsIn x window → IsIn x cs
about_in d p cs window a x i =
    subst (IsIn x) (sym a.whole) (in_right x a.before (window ++ a.behind) (in_left x window a.behind i))
