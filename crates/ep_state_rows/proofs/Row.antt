-- Cells of a row that may be written at one place, one after the other, as seen from one cell of what is known.
use Rattle.std.proofs.Common.{◌≡◌, ℕ, ◌+◌, ◌<◌, ◌≤◌, Bool, true, false, ◌&&◌, ◌||◌, nat_eq, nat_lt, cond}
use Rattle.std.proofs.Common.{⊎_elim, List, [], ◌∷◌, ◌++◌, map, Some, None, refl, sym, ap, ◌∙◌, subst}
use Rattle.std.proofs.Common.{arith}
use Rattle.std.proofs.lemmas.Bool.{and_parts, or_cases, eqb-true, ltb-true}
use Rattle.std.proofs.lemmas.Bool.Decides.{nat_tests}
use Rattle.ep_int.specs.declared.types.Model.{Model}
use Rattle.ep_int.specs.declared.types.Model.TheVariants.{Ilp32}
use Rattle.ep_int.specs.declared.types.Scalar.TheVariants.{Int}
use Rattle.ep_int.specs.Types.{size_of}
use Rattle.ep_int.proofs.Basics.{size_positive}
use Rattle.ep_bitslice.specs.declared.cell.Side.TheVariants.{Shared}
use Rattle.ep_bitslice.specs.declared.cell.CellName.{CellName}
use Rattle.ep_domain.specs.Domain.{Ops}
use Rattle.ep_cells.specs.declared.cell.Cell.{Cell}
use Rattle.ep_cells.specs.declared.place.ByteRange.{ByteRange}
use Rattle.ep_cells.specs.Cells.{place_of, place_of_name, touches, is_same_place, is_same_scalar}
use Rattle.ep_cells.specs.Forms.{Fate, reformed}
use Rattle.ep_cells.specs.Weaken.{with_join, fate_by_weak_write, first_part}
use Rattle.ep_cells.proofs.Both.{scalar_same}
use Rattle.ep_cells.proofs.Places.{at, touch_here}
use Rattle.ep_cells.proofs.WeakCells.{shared_all}
use Rattle.ep_cell_ranges.specs.Spots.{Spot}
use Rattle.ep_reads.proofs.Composed.{gone_on, then_fate, reformed_twice}
use Rattle.ep_state_rows.specs.Rows.{further, IsRow, row_bytes, stands_in, partner, joined_by}
use Rattle.ep_state_rows.proofs.Apart.{once, left_is}
use Rattle.ep_state_rows.proofs.Swaps.{rowed}

-- ---- places

touches_by : (b a w n c r k : ℕ) → 0 < k
    → (nat_eq b c && (nat_lt a (r + k) && nat_lt r (a + (w + n))))
    ≡ ((nat_eq b c && (nat_lt a (r + k) && nat_lt r (a + w)))
    || (nat_eq b c && (nat_lt (a + w) (r + k) && nat_lt r (a + w + n))))
touches_by b a w n c r k h = grind (arith, nat_tests)

off_by : (b a w n : ℕ) → (nat_eq b b && (nat_lt (a + w) (a + w) && nat_lt a (a + w + n))) ≡ false
off_by b a w n = grind (arith, nat_tests)

high_by : (b a w c r k : ℕ) → (nat_eq b c && (nat_lt a (r + k) && nat_lt r (a + w))) ≡ true → r < a + w
high_by b a w c r k h =
    ltb-true r (a + w) (and_parts (nat_lt a (r + k)) (nat_lt r (a + w))
    (and_parts (nat_eq b c) (nat_lt a (r + k) && nat_lt r (a + w)) h).1).1

no_more : (n : ℕ) → n + 0 ≡ n
no_more n = omega arith

module _ {N : Type 0} (D : Ops N) (d : Model) where
  abbrev pub place : (b a n : ℕ) → ByteRange
  place b a n = at Shared b a n

  abbrev pub fate : (b a n : ℕ) → Fate
  fate b a n = fate_by_weak_write (place b a n)

  abbrev pub meets_it : (b a n : ℕ) → Cell N → Bool
  meets_it b a n x = touches (place b a n) (place_of d x)

  -- ---- names

  fate_is : (b a n : ℕ) (m : CellName)
      → fate b a n m ≡ cond (touches (place b a n) (place_of_name m)) None (Some m)
  fate_is b a n m =
      ap (λ t. cond (touches (place b a n) (place_of_name m)) (cond t None (Some (record m {
        side = first_part m.side;
      }))) (Some m)) (shared_all (first_part m.side))

  pub write_fate : (b a n : ℕ) (m : CellName)
      → cond (touches (place b a n) (place_of_name m)) None (Some m) ≡ fate b a n m
  write_fate b a n m = sym (fate_is b a n m)

  two_fates : (b a m n : ℕ) (x : CellName)
      → then_fate (fate b a m) (fate b (a + m) n) x ≡ fate b a (m + n) x
  two_fates b a m n x =
      ap (gone_on (fate b (a + m) n)) (fate_is b a m x) ∙ by (touches (place b a m) (place_of_name x))
      ∙ sym (ap (λ t. cond t None (Some x)) (touches_by b a m n x.block x.offset (place_of_name x).bytes
      (size_positive Ilp32 (Int x.t))))
      ∙ sym (fate_is b a (m + n) x)
    where
      by : (t : Bool) → gone_on (fate b (a + m) n) (cond t None (Some x))
          ≡ cond (t || touches (place b (a + m) n) (place_of_name x)) None (Some x)
      by true = refl
      by false = fate_is b (a + m) n x

  fates : (b a m n : ℕ) → then_fate (fate b a m) (fate b (a + m) n) ≡ fate b a (m + n)
  fates b a m n = λ i x. two_fates b a m n x i

  both_reformed : (b a m n : ℕ) (x : Cell N)
      → reformed (fate b (a + m) n) (reformed (fate b a m) x) ≡ reformed (fate b a (m + n)) x
  both_reformed b a m n x =
      reformed_twice (fate b a m) (fate b (a + m) n) x ∙ ap (λ f. reformed f x) (fates b a m n)

  -- ---- what stands in a row

  stands_formed : (ws : List (Cell N)) (q : Spot) (f : Fate) (x : Cell N)
      → stands_in ws q (reformed f x) ≡ stands_in ws q x
  stands_formed [] q f x = refl
  stands_formed (c ∷ ws) q f x = ap (λ b. is_same_place (further c q) x || b) (stands_formed ws q f x)

  joined_formed : (ws : List (Cell N)) (q : Spot) (f : Fate) (x : Cell N)
      → joined_by D ws q (reformed f x) ≡ joined_by D ws q x
  joined_formed [] q f x = refl
  joined_formed (c ∷ ws) q f x = by (is_same_place (further c q) x) (joined_formed ws q f x)
    where
      by : (t : Bool) → joined_by D ws q (reformed f x) ≡ joined_by D ws q x
          → with_join D (cond t c (partner ws q (reformed f x))) (reformed f x)
          ≡ with_join D (cond t c (partner ws q x)) x
      by true e = refl
      by false e = e

  -- just at a cell of a row: not before its beginning
  pub same_offset : (c x : Cell N) (q : Spot) → is_same_place (further c q) x ≡ true → q.1 + c.offset ≡ x.offset
  same_offset c x q e =
      let p = and_parts (nat_eq q.0 x.block) (nat_eq (q.1 + c.offset) x.offset && is_same_scalar c.what x.what) e in
      let r = and_parts (nat_eq (q.1 + c.offset) x.offset) (is_same_scalar c.what x.what) p.1 in
      eqb-true (q.1 + c.offset) x.offset r.0

  same_block : (c x : Cell N) (q : Spot) → is_same_place (further c q) x ≡ true → q.0 ≡ x.block
  same_block c x q e =
      let p = and_parts (nat_eq q.0 x.block) (nat_eq (q.1 + c.offset) x.offset && is_same_scalar c.what x.what) e in
      eqb-true q.0 x.block p.0

  same_size : (c x : Cell N) (q : Spot) → is_same_place (further c q) x ≡ true → size_of d c.what ≡ size_of d x.what
  same_size c x q e =
      let p = and_parts (nat_eq q.0 x.block) (nat_eq (q.1 + c.offset) x.offset && is_same_scalar c.what x.what) e in
      let r = and_parts (nat_eq (q.1 + c.offset) x.offset) (is_same_scalar c.what x.what) p.1 in
      ap (size_of d) (scalar_same c.what x.what r.1)

  pub ahead : (ws : List (Cell N)) (a : ℕ) (q : Spot) (x : Cell N) → IsRow d a ws → stands_in ws q x ≡ true
      → q.1 + a ≤ x.offset
  ahead [] a q x r h = absurd (let e : false ≡ true = h in cc)
  ahead (c ∷ ws) a q x r h =
      ⊎_elim
      (λ k. let e = same_offset c x q k in let f = r.1 in omega (arith, e, f))
      (λ k. let l = ahead ws (a + size_of d c.what) q x r.2 k in omega (arith, l))
      (or_cases (is_same_place (further c q) x) (stands_in ws q x) h)

  -- ---- one cell of the row

  place_is : (c : Cell N) (q : Spot) (a A : ℕ) → c.side ≡ Shared → c.offset ≡ a → A ≡ q.1 + a
      → place_of d (further c q) ≡ place q.0 A (size_of d c.what)
  place_is c q a A s o e =
      ap (λ z. at z q.0 (q.1 + c.offset) (size_of d c.what)) s
      ∙ ap (λ z. at Shared q.0 (q.1 + z) (size_of d c.what)) o
      ∙ sym (ap (λ z. at Shared q.0 z (size_of d c.what)) e)

  missed : (c : Cell N) (q : Spot) (A : ℕ) (x : Cell N) → c.side ≡ Shared
      → place_of d (further c q) ≡ place q.0 A (size_of d c.what) → meets_it q.0 A (size_of d c.what) x ≡ false
      → once D d (further c q) (x ∷ []) ≡ reformed (fate q.0 A (size_of d c.what)) x ∷ []
  missed c q A x s p e =
      ap (λ l. map (reformed (fate_by_weak_write (place_of d (further c q)))) (l ++ []))
      (left_is D d (further c q) x false (is_same_place (further c q) x) s
      (ap (λ z. touches z (place_of d x)) p ∙ e) refl)
      ∙ ap (λ z. reformed (fate_by_weak_write z) x ∷ []) p

  met : (c : Cell N) (q : Spot) (A : ℕ) (x : Cell N) → c.side ≡ Shared
      → place_of d (further c q) ≡ place q.0 A (size_of d c.what) → meets_it q.0 A (size_of d c.what) x ≡ true
      → is_same_place (further c q) x ≡ true → once D d (further c q) (x ∷ []) ≡ with_join D c x ∷ []
  met c q A x s p e h =
      ap (λ l. map (reformed (fate_by_weak_write (place_of d (further c q)))) (l ++ []))
      (left_is D d (further c q) x true true s (ap (λ z. touches z (place_of d x)) p ∙ e) h)

  -- ---- all cells of the row

  abbrev after : (b a n : ℕ) → List (Cell N) → Spot → Cell N → List (Cell N)
  after b a n ws q x = cond (meets_it b a n x) (joined_by D ws q x ∷ []) (reformed (fate b a n) x ∷ [])

  -- the first cell of the row, and those behind it
  module _ (c : Cell N) (ws : List (Cell N)) (q : Spot) (a A n : ℕ) (x : Cell N) (side : c.side ≡ Shared)
      (offset : c.offset ≡ a) (begins : A ≡ q.1 + a) (row : IsRow d (a + size_of d c.what) ws) where
    abbrev w : ℕ
    w = size_of d c.what

    abbrev there : place_of d (further c q) ≡ place q.0 A w
    there = place_is c q a A side offset begins

    -- the first one stands there, if it is met
    first_there : meets_it q.0 A w x ≡ true → stands_in (c ∷ ws) q x ≡ true → is_same_place (further c q) x ≡ true
    first_there e h =
        ⊎_elim (λ k. k)
        (λ k. absurd (let l = ahead ws (a + w) q x row k in
        let u = high_by q.0 A w x.block x.offset (size_of d x.what) e in omega (arith, l, u, begins)))
        (or_cases (is_same_place (further c q) x) (stands_in ws q x) h)

    begins_at : is_same_place (further c q) x ≡ true → x.offset ≡ A
    begins_at e = let f = same_offset c x q e in omega (arith, f, offset, begins)

    -- it doesn't, if it isn't met
    behind_there : meets_it q.0 A w x ≡ false → stands_in (c ∷ ws) q x ≡ true → stands_in ws q x ≡ true
    behind_there e h =
        ⊎_elim
        (λ k. absurd (
        let here : (nat_eq q.0 q.0 && (nat_lt A (A + size_of d x.what) && nat_lt A (A + w))) ≡ true =
        touch_here q.0 A w (size_of d x.what) (size_positive d c.what) (size_positive d x.what) in
        let met : meets_it q.0 A w x ≡ true =
        subst (λ r. (nat_eq q.0 x.block && (nat_lt A (r + size_of d x.what) && nat_lt r (A + w))) ≡ true)
        (sym (begins_at k))
        (subst (λ z. (nat_eq q.0 z && (nat_lt A (A + size_of d x.what) && nat_lt A (A + w))) ≡ true)
        (same_block c x q k) here) in
        let t : true ≡ false = sym met ∙ e in cc))
        (λ k. k)
        (or_cases (is_same_place (further c q) x) (stands_in ws q x) h)

    not_first : meets_it q.0 A w x ≡ false → (t : Bool) → is_same_place (further c q) x ≡ t → t ≡ false
    not_first e false f = refl
    not_first e true f =
        absurd (
        let here : (nat_eq q.0 q.0 && (nat_lt A (A + size_of d x.what) && nat_lt A (A + w))) ≡ true =
        touch_here q.0 A w (size_of d x.what) (size_positive d c.what) (size_positive d x.what) in
        let met : meets_it q.0 A w x ≡ true =
        subst (λ r. (nat_eq q.0 x.block && (nat_lt A (r + size_of d x.what) && nat_lt r (A + w))) ≡ true)
        (sym (begins_at f))
        (subst (λ z. (nat_eq q.0 z && (nat_lt A (A + size_of d x.what) && nat_lt A (A + w))) ≡ true)
        (same_block c x q f) here) in
        let t : true ≡ false = sym met ∙ e in cc)

    -- those behind it don't meet what stands at its place
    off_behind : is_same_place (further c q) x ≡ true → meets_it q.0 (A + w) n x ≡ false
    off_behind e =
        subst (λ r. (nat_eq q.0 x.block && (nat_lt (A + w) (r + size_of d x.what) && nat_lt r (A + w + n))) ≡ false)
        (sym (begins_at e))
        (subst (λ z. (nat_eq q.0 x.block && (nat_lt (A + w) (A + z) && nat_lt A (A + w + n))) ≡ false)
        (same_size c x q e)
        (subst (λ z. (nat_eq q.0 z && (nat_lt (A + w) (A + w) && nat_lt A (A + w + n))) ≡ false)
        (same_block c x q e) (off_by q.0 A w n)))

    total : (t u : Bool) → meets_it q.0 A w x ≡ t → meets_it q.0 (A + w) n x ≡ u → meets_it q.0 A (w + n) x ≡ (t || u)
    total t u e f =
        touches_by q.0 A w n x.block x.offset (size_of d x.what) (size_positive d x.what)
        ∙ ap (λ z. z || meets_it q.0 (A + w) n x) e ∙ ap (λ z. t || z) f

    one_by : (t : Bool) → meets_it q.0 A w x ≡ t
        → (meets_it q.0 A w x ≡ true → stands_in (c ∷ ws) q x ≡ true)
        → once D d (further c q) (x ∷ []) ≡ after q.0 A w (c ∷ ws) q x
    one_by true e h =
        let s = first_there e (h e) in
        met c q A x side there e s
        ∙ ap (λ b. with_join D (cond b c (partner ws q x)) x ∷ []) (sym s)
        ∙ sym (ap (λ t. cond t (joined_by D (c ∷ ws) q x ∷ []) (reformed (fate q.0 A w) x ∷ [])) e)
    one_by false e h =
        missed c q A x side there e
        ∙ sym (ap (λ t. cond t (joined_by D (c ∷ ws) q x ∷ []) (reformed (fate q.0 A w) x ∷ [])) e)

    abbrev Rest : (List (Cell N) → List (Cell N)) → Type 0
    Rest rest =
        (y : Cell N) → (meets_it q.0 (A + w) n y ≡ true → stands_in ws q y ≡ true)
        → rest (y ∷ []) ≡ after q.0 (A + w) n ws q y

    step : (rest : List (Cell N) → List (Cell N)) → Rest rest
        → (meets_it q.0 A (w + n) x ≡ true → stands_in (c ∷ ws) q x ≡ true) → (t u : Bool) → meets_it q.0 A w x ≡ t
        → meets_it q.0 (A + w) n x ≡ u
        → rest (once D d (further c q) (x ∷ [])) ≡ after q.0 A (w + n) (c ∷ ws) q x
    step rest ih h true u e f =
        let k = total true u e f in
        let s = first_there e (h k) in
        let off = off_behind s in
        ap rest (met c q A x side there e s)
        ∙ ih (with_join D c x) (λ i. absurd (let t : true ≡ false = sym i ∙ off in cc))
        ∙ ap (λ t. cond t (joined_by D ws q (with_join D c x) ∷ [])
        (reformed (fate q.0 (A + w) n) (with_join D c x) ∷ [])) off
        ∙ ap (λ b. with_join D (cond b c (partner ws q x)) x ∷ []) (sym s)
        ∙ sym (ap (λ t. cond t (joined_by D (c ∷ ws) q x ∷ []) (reformed (fate q.0 A (w + n)) x ∷ [])) k)
    step rest ih h false true e f =
        let k = total false true e f in
        let s = behind_there e (h k) in
        let y = reformed (fate q.0 A w) x in
        ap rest (missed c q A x side there e)
        ∙ ih y (λ i. stands_formed ws q (fate q.0 A w) x ∙ s)
        ∙ ap (λ t. cond t (joined_by D ws q y ∷ []) (reformed (fate q.0 (A + w) n) y ∷ [])) f
        ∙ ap (λ z. z ∷ []) (joined_formed ws q (fate q.0 A w) x)
        ∙ ap (λ b. with_join D (cond b c (partner ws q x)) x ∷ [])
        (sym (not_first e (is_same_place (further c q) x) refl))
        ∙ sym (ap (λ t. cond t (joined_by D (c ∷ ws) q x ∷ []) (reformed (fate q.0 A (w + n)) x ∷ [])) k)
    step rest ih h false false e f =
        let k = total false false e f in
        let y = reformed (fate q.0 A w) x in
        ap rest (missed c q A x side there e)
        ∙ ih y (λ i. absurd (let t : true ≡ false = sym i ∙ f in cc))
        ∙ ap (λ t. cond t (joined_by D ws q y ∷ []) (reformed (fate q.0 (A + w) n) y ∷ [])) f
        ∙ ap (λ z. z ∷ []) (both_reformed q.0 A w n x)
        ∙ sym (ap (λ t. cond t (joined_by D (c ∷ ws) q x ∷ []) (reformed (fate q.0 A (w + n)) x ∷ [])) k)

  pub row_one : (c : Cell N) (ws : List (Cell N)) (q : Spot) (a A : ℕ) (x : Cell N) → IsRow d a (c ∷ ws)
      → A ≡ q.1 + a
      → (meets_it q.0 A (row_bytes d (c ∷ ws)) x ≡ true → stands_in (c ∷ ws) q x ≡ true)
      → rowed D d (c ∷ ws) q (x ∷ []) ≡ after q.0 A (row_bytes d (c ∷ ws)) (c ∷ ws) q x
  row_one c [] q a A x r e h =
      one_by c [] q a A 0 x r.0 r.1 e r.2 (meets_it q.0 A (size_of d c.what) x) refl
      (λ i. h (subst (λ n. meets_it q.0 A n x ≡ true) (sym (no_more (size_of d c.what))) i))
      ∙ ap (λ n. after q.0 A n (c ∷ []) q x) (sym (no_more (size_of d c.what)))
  row_one c (y ∷ ws) q a A x r e h =
      let z = size_of d c.what in
      let n = row_bytes d (y ∷ ws) in
      let f : A + z ≡ q.1 + (a + z) = omega (arith, e) in
      step c (y ∷ ws) q a A n x r.0 r.1 e r.2 (rowed D d (y ∷ ws) q)
      (λ v i. row_one y ws q (a + z) (A + z) v r.2 f i) h (meets_it q.0 A z x) (meets_it q.0 (A + z) n x) refl refl
