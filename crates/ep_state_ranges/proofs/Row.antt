-- A cell that may be written at each place of a row: one write of the whole row, where Shared cells of just its places
-- stand there.
use Rattle.std.proofs.Common.{◌≡◌, ℕ, zero, suc, ◌+◌, ◌-◌, ◌*◌, ◌/◌, ◌%◌, ◌<◌, ◌≤◌, Bool, true, false, ◌&&◌, ◌||◌}
use Rattle.ep_cells.proofs.Basics.{map-append}
use Rattle.ep_int.proofs.Basics.{size_positive}
use Rattle.ep_cells.proofs.Places.{touch_here}
use Rattle.std.proofs.Common.{not, nat_eq, nat_lt, nat_le, cond, List, [], ◌∷◌, ◌++◌, map, Option, Some, None, refl}
use Rattle.std.proofs.Common.{sym, ap, ◌∙◌, subst, append_assoc, append-nil, arith}
use Rattle.std.specs.Option.{option_map}
use Rattle.std.proofs.lemmas.Bool.{and_parts, eqb-true, eq-eqb, leb-true, ltb-true}
use Rattle.std.proofs.lemmas.Bool.Decides.{nat_tests}
use Rattle.ep_int.specs.declared.types.Model.{Model}
use Rattle.ep_int.specs.declared.types.Model.TheVariants.{Ilp32}
use Rattle.ep_int.specs.declared.types.Scalar.TheVariants.{Int, Pointer}
use Rattle.ep_int.specs.Types.{size_of}
use Rattle.ep_bitslice.specs.declared.cell.Side.{Side}
use Rattle.ep_bitslice.specs.declared.cell.Side.TheVariants.{Left, Right, Shared}
use Rattle.ep_bitslice.specs.declared.cell.CellName.{CellName}
use Rattle.ep_domain.specs.Domain.{Ops}
use Rattle.ep_cells.specs.declared.cell.Cell.{Cell}
use Rattle.ep_cells.specs.declared.place.ByteRange.{ByteRange}
use Rattle.ep_cells.specs.Cells.{place_of, place_of_name, touches, share_memory, side_without, with_side}
use Rattle.ep_cells.specs.Cells.{is_same_place, is_same_scalar, scalar_number, each_becomes, parts_of}
use Rattle.ep_cells.specs.Forms.{Fate, form_after, reformed}
use Rattle.ep_cells.specs.Write.{left_by_write, fate_by_write}
use Rattle.ep_cells.specs.Weaken.{with_join, blurred, weak_cell, weak_part, left_by_weak_write, first_part}
use Rattle.ep_cells.specs.Weaken.{fate_by_weak_write, weakened}
use Rattle.ep_cells.specs.States.{Known}
use Rattle.ep_cells.proofs.Places.{at}
use Rattle.ep_cell_ranges.specs.Moves.{weakened_each, form_by_weak_each}
use Rattle.ep_cell_ranges.specs.Ranges.{Form, with_cells}
use Rattle.ep_cell_ranges.specs.Spots.{Spot}
use Rattle.ep_reads.proofs.Composed.{gone_on, then_fate, reformed_twice}
use Rattle.ep_state_ranges.specs.HeldForms.{at_spot}
use Rattle.ep_state_ranges.specs.InRow.{IsRow, row_bytes}

-- ---- places

pub touches_by : (b a w n t c r k : ℕ) → t ≡ w + n → 0 < k
    → (nat_eq b c && (nat_lt a (r + k) && nat_lt r (a + t)))
    ≡ ((nat_eq b c && (nat_lt a (r + k) && nat_lt r (a + w)))
    || (nat_eq b c && (nat_lt (a + w) (r + k) && nat_lt r (a + w + n))))
touches_by b a w n t c r k e h = grind (arith, nat_tests)

pub off_by : (b a w n : ℕ) → (nat_eq b b && (nat_lt (a + w) (a + w) && nat_lt a (a + w + n))) ≡ false
off_by b a w n = grind (arith, nat_tests)

abbrev pub times : ℕ → ℕ → ℕ
times zero w = 0
times (suc i) w = w + times i w

-- as many whole cells of w bytes from a on
pub record Ahead (w a r : ℕ) : Type 0 where
  pub count : ℕ
  pub is : r ≡ a + times count w

ahead_here : (w a r i : ℕ) → r ≡ a + times i w → r < a + w → r ≡ a
ahead_here w a r zero e l = omega (arith, e)
ahead_here w a r (suc i) e l = omega (arith, e, l)

ahead_next : (w a r i : ℕ) → r ≡ a + times i w → (r ≡ a → ⊥) → Ahead w (a + w) r
ahead_next w a r zero e l = absurd (l (omega (arith, e)))
ahead_next w a r (suc i) e l = record { count = i; is = omega (arith, e) }

-- ---- sides

shares : (s q : Side) → s ≡ Shared → share_memory s q ≡ true
shares s q e = subst (λ z. share_memory z q ≡ true) (sym e) (by q)
  where
    by : (q : Side) → share_memory Shared q ≡ true
    by Left = refl
    by Right = refl
    by Shared = refl

pub all_gone : (s q : Side) → s ≡ Shared → side_without s q ≡ None
all_gone s q e = subst (λ z. side_without z q ≡ None) (sym e) refl

module _ {N : Type 0} (D : Ops N) (d : Model) (c : Cell N) (s : c.side ≡ Shared) where
  abbrev w : ℕ
  w = size_of d c.what

  abbrev P : (b a n : ℕ) → ByteRange
  P b a n = at c.side b a n

  abbrev F : (b a n : ℕ) → Fate
  F b a n = fate_by_weak_write (at c.side b a n)

  abbrev meets_it : (b a n : ℕ) → Cell N → Bool
  meets_it b a n x = touches (at c.side b a n) (place_of d x)

  -- ---- names

  fate_is : (b a n : ℕ) (m : CellName) → F b a n m ≡ cond (touches (P b a n) (place_of_name m)) None (Some m)
  fate_is b a n m =
      ap (λ t. cond (touches (P b a n) (place_of_name m)) (cond t None (Some (record m { side = first_part m.side })))
      (Some m)) (shares c.side (first_part m.side) s)

  pub write_fate : (b a n : ℕ) (m : CellName) → fate_by_write (P b a n) m ≡ F b a n m
  write_fate b a n m =
      ap (λ o. cond (touches (P b a n) (place_of_name m)) (option_map (λ r. record m { side = r }) o) (Some m))
      (all_gone c.side m.side s)
      ∙ sym (fate_is b a n m)

  two_fates : (b a m n : ℕ) (x : CellName) → then_fate (F b a m) (F b (a + m) n) x ≡ F b a (m + n) x
  two_fates b a m n x =
      ap (gone_on (F b (a + m) n)) (fate_is b a m x) ∙ by (touches (P b a m) (place_of_name x))
      ∙ sym (ap (λ t. cond t None (Some x)) (touches_by b a m n (m + n) x.block x.offset (place_of_name x).bytes refl
      (size_positive Ilp32 (Int x.t))))
      ∙ sym (fate_is b a (m + n) x)
    where
      by : (t : Bool) → gone_on (F b (a + m) n) (cond t None (Some x))
          ≡ cond (t || touches (P b (a + m) n) (place_of_name x)) None (Some x)
      by true = refl
      by false = fate_is b (a + m) n x

  fates : (b a m n : ℕ) → then_fate (F b a m) (F b (a + m) n) ≡ F b a (m + n)
  fates b a m n = λ i x. two_fates b a m n x i

  both_reformed : (b a m n : ℕ) (x : Cell N)
      → reformed (F b (a + m) n) (reformed (F b a m) x) ≡ reformed (F b a (m + n)) x
  both_reformed b a m n x =
      reformed_twice (F b a m) (F b (a + m) n) x ∙ ap (λ f. reformed f x) (fates b a m n)

  both_formed : (b a m n : ℕ) (f : Form)
      → form_after (F b (a + m) n) (form_after (F b a m) f) ≡ form_after (F b a (m + n)) f
  both_formed b a m n f = ap (λ (x : Cell N). x.form) (both_reformed b a m n (record c { form = f }))

  -- ---- one place

  abbrev once : (b a : ℕ) → List (Cell N) → List (Cell N)
  once b a cs = weakened D d (at_spot c (b, a)) true cs

  missed : (b a : ℕ) (x : Cell N) → meets_it b a w x ≡ false → once b a (x ∷ []) ≡ reformed (F b a w) x ∷ []
  missed b a x e =
      ap (λ t. map (reformed (F b a w)) (cond (not t) (x ∷ [])
      (cond (is_same_place (at_spot c (b, a)) x) (weak_cell D (at_spot c (b, a)) x)
      (each_becomes (weak_part D (at_spot c (b, a))) (parts_of x))) ++ [])) e

  met : (b a : ℕ) (x : Cell N) → meets_it b a w x ≡ true → is_same_place (at_spot c (b, a)) x ≡ true
      → once b a (x ∷ []) ≡ with_join D c x ∷ []
  met b a x e h =
      ap (λ t. map (reformed (F b a w)) (cond (not t) (x ∷ [])
      (cond (is_same_place (at_spot c (b, a)) x) (weak_cell D (at_spot c (b, a)) x)
      (each_becomes (weak_part D (at_spot c (b, a))) (parts_of x))) ++ [])) e
      ∙ ap (λ t. map (reformed (F b a w)) (cond t (cond t (with_join D (at_spot c (b, a)) x ∷ []) (blurred D x x.what))
      (each_becomes (weak_part D (at_spot c (b, a))) (parts_of x)) ++ [])) h

  -- a cell of a row from a on
  pub record Stands (a : ℕ) (x : Cell N) : Type 0 where
    pub what : x.what ≡ c.what
    pub ahead : Ahead w a x.offset

  abbrev after : (b a n : ℕ) → Cell N → List (Cell N)
  after b a n x = cond (meets_it b a n x) (with_join D c x ∷ []) (reformed (F b a n) x ∷ [])

  at_once : (b a : ℕ) (x : Cell N) → meets_it b a w x ≡ true → Stands a x → x.offset ≡ a
  at_once b a x e h =
      let p = and_parts (nat_eq b x.block) (nat_lt a (x.offset + size_of d x.what) && nat_lt x.offset (a + w)) e in
      let q = and_parts (nat_lt a (x.offset + size_of d x.what)) (nat_lt x.offset (a + w)) p.1 in
      ahead_here w a x.offset h.ahead.count h.ahead.is (ltb-true x.offset (a + w) q.1)

  same_by : (b a c r v z : ℕ) → b ≡ c → r ≡ a → v ≡ z → (nat_eq b c && (nat_eq a r && nat_eq v z)) ≡ true
  same_by b a c r v z e f g = grind (arith, nat_tests)

  same_there : (b a : ℕ) (x : Cell N) → meets_it b a w x ≡ true → Stands a x
      → is_same_place (at_spot c (b, a)) x ≡ true
  same_there b a x e h =
      let p = and_parts (nat_eq b x.block) (nat_lt a (x.offset + size_of d x.what) && nat_lt x.offset (a + w)) e in
      same_by b a x.block x.offset (scalar_number c.what) (scalar_number x.what) (eqb-true b x.block p.0)
      (at_once b a x e h) (ap scalar_number (sym h.what))

  -- it lies further on where it isn't met at the first place
  stands_behind : (b a n : ℕ) (x : Cell N) → meets_it b a w x ≡ false → meets_it b (a + w) n x ≡ true → Stands a x
      → Stands (a + w) x
  stands_behind b a n x e f h = record {
    what = h.what;
    ahead = ahead_next w a x.offset h.ahead.count h.ahead.is
        (λ i.
        let p = and_parts (nat_eq b x.block) (nat_lt (a + w) (x.offset + size_of d x.what) && nat_lt x.offset
        (a + w + n)) f in
        let here : (nat_eq b b && (nat_lt a (a + size_of d x.what) && nat_lt a (a + w))) ≡ true =
        touch_here b a w (size_of d x.what) (size_positive d c.what) (size_positive d x.what) in
        let there : meets_it b a w x ≡ true =
        subst (λ r. (nat_eq b x.block && (nat_lt a (r + size_of d x.what) && nat_lt r (a + w))) ≡ true) (sym i)
        (subst (λ z. (nat_eq b z && (nat_lt a (a + size_of d x.what) && nat_lt a (a + w))) ≡ true)
        (eqb-true b x.block p.0) here) in
        let q : true ≡ false = sym there ∙ e in cc);
  }

  -- and no further on where it is
  off_behind : (b a n : ℕ) (x : Cell N) → meets_it b a w x ≡ true → Stands a x → meets_it b (a + w) n x ≡ false
  off_behind b a n x e h =
      let p = and_parts (nat_eq b x.block) (nat_lt a (x.offset + size_of d x.what) && nat_lt x.offset (a + w)) e in
      subst (λ r. (nat_eq b x.block && (nat_lt (a + w) (r + size_of d x.what) && nat_lt r (a + w + n))) ≡ false)
      (sym (at_once b a x e h))
      (subst (λ z. (nat_eq b x.block && (nat_lt (a + w) (a + size_of d z) && nat_lt a (a + w + n))) ≡ false)
      (sym h.what)
      (subst (λ z. (nat_eq b z && (nat_lt (a + w) (a + w) && nat_lt a (a + w + n))) ≡ false)
      (eqb-true b x.block p.0) (off_by b a w n)))

  total : (b a n : ℕ) (x : Cell N) (t u : Bool) → meets_it b a w x ≡ t → meets_it b (a + w) n x ≡ u
      → meets_it b a (w + n) x ≡ (t || u)
  total b a n x t u e f =
      touches_by b a w n (w + n) x.block x.offset (size_of d x.what) refl (size_positive d x.what)
      ∙ ap (λ z. z || meets_it b (a + w) n x) e ∙ ap (λ z. t || z) f

  one_by : (b a : ℕ) (x : Cell N) (t : Bool) → meets_it b a w x ≡ t → (meets_it b a w x ≡ true → Stands a x)
      → once b a (x ∷ []) ≡ after b a w x
  one_by b a x true e h =
      met b a x e (same_there b a x e (h e))
      ∙ sym (ap (λ t. cond t (with_join D c x ∷ []) (reformed (F b a w) x ∷ [])) e)
  one_by b a x false e h =
      missed b a x e ∙ sym (ap (λ t. cond t (with_join D c x ∷ []) (reformed (F b a w) x ∷ [])) e)

  -- ---- all places

  abbrev pub each_once : List Spot → List (Cell N) → List (Cell N)
  each_once [] cs = cs
  each_once (q ∷ qs) cs = each_once qs (weakened D d (at_spot c q) true cs)

  -- the first place, where the others are known
  step : (b a n : ℕ) (x : Cell N) (rest : List (Cell N) → List (Cell N))
      → ((y : Cell N) → (meets_it b (a + w) n y ≡ true → Stands (a + w) y) → rest (y ∷ []) ≡ after b (a + w) n y)
      → (meets_it b a (w + n) x ≡ true → Stands a x) → (t u : Bool) → meets_it b a w x ≡ t
      → meets_it b (a + w) n x ≡ u → rest (once b a (x ∷ [])) ≡ after b a (w + n) x
  step b a n x rest ih h true u e f =
      let k = total b a n x true u e f in
      let off = off_behind b a n x e (h k) in
      ap rest (met b a x e (same_there b a x e (h k)))
      ∙ ih (with_join D c x) (λ i. absurd (let q : true ≡ false = sym i ∙ off in cc))
      ∙ ap (λ t. cond t (with_join D c (with_join D c x) ∷ []) (reformed (F b (a + w) n) (with_join D c x) ∷ [])) off
      ∙ sym (ap (λ t. cond t (with_join D c x ∷ []) (reformed (F b a (w + n)) x ∷ [])) k)
  step b a n x rest ih h false true e f =
      let k = total b a n x false true e f in
      ap rest (missed b a x e)
      ∙ ih (reformed (F b a w) x) (λ i. let g = stands_behind b a n x e f (h k) in record {
        what = g.what;
        ahead = g.ahead;
      })
      ∙ ap (λ t. cond t (with_join D c x ∷ []) (reformed (F b (a + w) n) (reformed (F b a w) x) ∷ [])) f
      ∙ sym (ap (λ t. cond t (with_join D c x ∷ []) (reformed (F b a (w + n)) x ∷ [])) k)
  step b a n x rest ih h false false e f =
      let k = total b a n x false false e f in
      ap rest (missed b a x e)
      ∙ ih (reformed (F b a w) x) (λ i. absurd (let q : true ≡ false = sym i ∙ f in cc))
      ∙ ap (λ t. cond t (with_join D c x ∷ []) (reformed (F b (a + w) n) (reformed (F b a w) x) ∷ [])) f
      ∙ ap (λ y. y ∷ []) (both_reformed b a w n x)
      ∙ sym (ap (λ t. cond t (with_join D c x ∷ []) (reformed (F b a (w + n)) x ∷ [])) k)

  no_more : w ≡ w + 0
  no_more = omega arith

  pub row_one : (q : Spot) (qs : List Spot) (b a : ℕ) (x : Cell N) → IsRow b a w (q ∷ qs)
      → (meets_it b a (row_bytes w (q ∷ qs)) x ≡ true → Stands a x)
      → each_once (q ∷ qs) (x ∷ []) ≡ after b a (row_bytes w (q ∷ qs)) x
  row_one q [] b a x r h =
      ap (λ z. weakened D d (at_spot c z) true (x ∷ [])) r.0
      ∙ one_by b a x (meets_it b a w x) refl (λ i. h (subst (λ n. meets_it b a n x ≡ true) no_more i))
      ∙ ap (λ n. after b a n x) no_more
  row_one q (p ∷ qs) b a x r h =
      ap (λ z. each_once (p ∷ qs) (weakened D d (at_spot c z) true (x ∷ []))) r.0
      ∙ step b a (row_bytes w (p ∷ qs)) x (each_once (p ∷ qs)) (λ y i. row_one p qs b (a + w) y r.1 i) h
      (meets_it b a w x) (meets_it b (a + w) (row_bytes w (p ∷ qs)) x) refl refl

  pub row_form : (q : Spot) (qs : List Spot) (b a : ℕ) (f : Form) → IsRow b a w (q ∷ qs)
      → form_by_weak_each d (at_spot c) (q ∷ qs) f ≡ form_after (F b a (row_bytes w (q ∷ qs))) f
  row_form q [] b a f r =
      ap (λ z. form_after (fate_by_weak_write (place_of d (at_spot c z))) f) r.0
      ∙ ap (λ n. form_after (F b a n) f) no_more
  row_form q (p ∷ qs) b a f r =
      ap (λ z. form_by_weak_each d (at_spot c) (p ∷ qs) (form_after (fate_by_weak_write (place_of d (at_spot c z))) f))
      r.0
      ∙ row_form p qs b (a + w) (form_after (F b a w) f) r.1
      ∙ both_formed b a w (row_bytes w (p ∷ qs)) f
