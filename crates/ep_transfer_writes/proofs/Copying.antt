-- Cells of single bytes that lie one after the other.
use Rattle.std.proofs.Common.{◌≡◌, ℕ, zero, suc, ◌+◌, ◌-◌, ◌^◌, ◌<◌, ◌≤◌, Bool, true, false, ◌&&◌, nat_eq, nat_lt}
use Rattle.std.proofs.Common.{nat_le, List, [], ◌∷◌, ◌++◌, map, Some, None, IfSome, refl, sym, ap, ◌∙◌, subst}
use Rattle.std.proofs.Common.{append_assoc, arith}
use Rattle.std.proofs.lemmas.Bool.Decides.{nat_tests}
use Rattle.ep_int.specs.declared.types.Model.{Model}
use Rattle.ep_int.specs.declared.types.IntType.TheVariants.{U8}
use Rattle.ep_int.specs.declared.types.Scalar.{Scalar}
use Rattle.ep_int.specs.declared.types.Scalar.TheVariants.{Int}
use Rattle.ep_int.specs.Types.{size_of}
use Rattle.ep_domain.specs.Domain.{Ops}
use Rattle.ep_cells.specs.declared.cell.Cell.{Cell}
use Rattle.ep_cells.specs.declared.place.ByteRange.{ByteRange}
use Rattle.ep_cells.specs.Cells.{share_memory, IsIn, first, later}
use Rattle.ep_cells.specs.States.{Known, EachPair, IsCell, HasForm, IsFormOf, AreCells}
use Rattle.ep_cells.proofs.Lists.{each_from}
use Rattle.ep_cells.proofs.Places.{at}
use Rattle.ep_cell_ranges.specs.Ranges.{Form, replaced, form_by_replace}
use Rattle.ep_cell_ranges.specs.Laws.{ReplaceLaws}
use Rattle.ep_cell_ranges.specs.Sound.{AreNew, IsInside, Misses}
use Rattle.ep_transfers.specs.Writes.{Item, Underway, underway, formed}
use Rattle.ep_transfer_writes.specs.Waiting.{CanStand, Keeps, with_forms}
use Rattle.ep_transfer_writes.specs.Running.{copies, range_of, range_written}
use Rattle.ep_transfer_writes.proofs.Changing.{formed_is, fits_on}

-- ---- places

pub miss_by : (t : Bool) (b a q : ℕ) → a < q → (t && (nat_eq b b && (nat_lt a (q + 1) && nat_lt q (a + 1)))) ≡ false
miss_by t b a q h = grind (arith, nat_tests)

pub inside_by : (a n q : ℕ) → a ≤ q → q < a + n → (nat_le a q && nat_le (q + 1) (a + n)) ≡ true
inside_by a n q h i = grind (arith, nat_tests)

size_is : (d : Model) (w : Scalar) → w ≡ Int U8 → size_of d w ≡ 1
size_is d w e = ap (size_of d) e

room_of : (a n q : ℕ) → q < a + n → a + n ≤ 2 ^ 32 → q + 1 ≤ 2 ^ 32
room_of a n q h i = omega (arith, h, i)

pub next_less : (n i : ℕ) → i < n → n - i ≡ suc (n - (i + 1))
next_less n i h = omega (arith, h)

pub further : (a i : ℕ) → a + i + 1 ≡ a + (i + 1)
further a i = omega arith

module _ {N : Type 0} where
  abbrev pub byte_at : Cell N → ℕ → Cell N
  byte_at c q = record c { offset = q }

  record IsAt (c : Cell N) (n : ℕ) (x : Cell N) : Type 0 where
    pub offset : ℕ
    pub low : c.offset ≤ offset
    pub high : offset < c.offset + n
    pub is : x ≡ byte_at c offset

  of_copies : (n : ℕ) (c x : Cell N) → IsIn x (copies c n) → IsAt c n x
  of_copies zero c x i = elim i [ ]
  of_copies (suc n) c _ (first _) = record { offset = c.offset; low = omega arith; high = omega arith; is = refl }
  of_copies (suc n) c x (later _ _ i) =
      let r = of_copies n (byte_at c (c.offset + 1)) x i in
      record {
        offset = r.offset;
        low = (let l = r.low in omega (arith, l));
        high = (let h = r.high in omega (arith, h));
        is = r.is;
      }

  form_at : (cs : List (Cell N)) (c : Cell N) (q : ℕ) (f : Form) → IfSome f (IsFormOf cs c)
      → IfSome f (IsFormOf cs (byte_at c q))
  form_at cs c q None h = tt
  form_at cs c q (Some ss) h = record { sure = h.sure; wide = h.wide; form = h.form; mentioned = h.mentioned }

  cell_at : (k : Known N) (c : Cell N) (q : ℕ) → CanStand k c → c.what ≡ Int U8 → q + 1 ≤ 2 ^ 32
      → IsCell k.model (byte_at c q)
  cell_at k c q h e l = record {
    fits = record {
      sort = h.cell.fits.sort;
      undefined = h.cell.fits.undefined;
      last = subst (λ z. q + z ≤ 2 ^ 32) (sym (size_is k.model c.what e)) l;
    };
    rising = h.cell.rising;
  }

  misses_at : (d : Model) (c : Cell N) (q r : ℕ) → c.what ≡ Int U8 → q < r → Misses d (byte_at c q) (byte_at c r)
  misses_at d c q r e h =
      subst (λ (w : Scalar). Misses d (record (byte_at c q) { what = w }) (record (byte_at c r) { what = w })) (sym e)
      (miss_by (share_memory c.side c.side) c.block q r h)

  inside_at : (d : Model) (c : Cell N) (n q : ℕ) → c.what ≡ Int U8 → c.offset ≤ q → q < c.offset + n
      → IsInside d (at c.side c.block c.offset n) (byte_at c q)
  inside_at d c n q e h i =
      subst (λ (w : Scalar). IsInside d (at c.side c.block c.offset n) (record (byte_at c q) { what = w })) (sym e)
      (record { left = λ t. t; right = λ t. t; block = refl; bytes = inside_by c.offset n q h i })

  apart_copies : (d : Model) (n : ℕ) (c : Cell N) → c.what ≡ Int U8 → EachPair (Misses d) (copies c n)
  apart_copies d zero c e = tt
  apart_copies d (suc n) c e = (
    each_from (Misses d c) (copies (byte_at c (c.offset + 1)) n)
        (λ x i.
        let r = of_copies n (byte_at c (c.offset + 1)) x i in
        subst (Misses d c) (sym r.is) (misses_at d c c.offset r.offset e (let l = r.low in omega (arith, l)))),
    apart_copies d n (byte_at c (c.offset + 1)) e,
  )

  pub copies_new : (k : Known N) (c : Cell N) (n : ℕ) → CanStand k c → c.what ≡ Int U8 → c.offset + n ≤ 2 ^ 32
      → AreNew k.model (at c.side c.block c.offset n) k.cells (copies c n)
  copies_new k c n h e room = record {
    each = λ x i.
        let r = of_copies n c x i in
        subst (IsCell k.model) (sym r.is) (cell_at k c r.offset h e (room_of c.offset n r.offset r.high room));
    inside = λ x i.
        let r = of_copies n c x i in
        subst (IsInside k.model (at c.side c.block c.offset n)) (sym r.is)
        (inside_at k.model c n r.offset e r.low r.high);
    apart = apart_copies k.model n c e;
    forms = λ x i.
        let r = of_copies n c x i in subst (HasForm k.cells) (sym r.is) (form_at k.cells c r.offset c.form h.form);
  }

  -- ---- in turn

  pub next_copy : (c x : Cell N) (n i : ℕ) (out new all : List (Cell N)) → i < n → x ≡ byte_at c (c.offset + i)
      → new ≡ out ++ x ∷ [] → out ++ copies (byte_at c (c.offset + i)) (n - i) ≡ all
      → new ++ copies (byte_at c (c.offset + (i + 1))) (n - (i + 1)) ≡ all
  next_copy c x n i out new all h e q j =
      let rest = copies (byte_at c (c.offset + (i + 1))) (n - (i + 1)) in
      ap (λ xs. xs ++ rest) q
      ∙ append_assoc out (x ∷ []) rest
      ∙ ap (λ y. out ++ y ∷ rest) e
      ∙ ap (λ a. out ++ byte_at c (c.offset + i) ∷ copies (byte_at c a) (n - (i + 1))) (sym (further c.offset i))
      ∙ sym (ap (λ m. out ++ copies (byte_at c (c.offset + i)) m) (next_less n i h))
      ∙ j

  pub no_copies : (c : Cell N) (n i : ℕ) (out all : List (Cell N)) → n ≤ i
      → out ++ copies (byte_at c (c.offset + i)) (n - i) ≡ all → out ≡ all
  no_copies c n i out all h j =
      sym (append_nil out) ∙ sym (ap (λ m. out ++ copies (byte_at c (c.offset + i)) m) (none_left n i h)) ∙ j
    where
      none_left : (n i : ℕ) → n ≤ i → n - i ≡ 0
      none_left n i h = omega (arith, h)

      append_nil : (xs : List (Cell N)) → xs ++ [] ≡ xs
      append_nil [] = refl
      append_nil (x ∷ xs) = ap (λ ys. x ∷ ys) (append_nil xs)

  pub first_copy : (c : Cell N) (n : ℕ) → copies (byte_at c (c.offset + 0)) (n - 0) ≡ copies c n
  first_copy c n =
      let zero_more : c.offset + 0 ≡ c.offset = omega arith in
      let all : n - 0 ≡ n = omega arith in
      ap (λ a. copies (byte_at c a) (n - 0)) zero_more ∙ ap (copies c) all

  -- ---- what is known, and what waits

  pub range_is : (D : Ops N) (k j : Known N) (i l : Item N) (c : Cell N) (n : ℕ) (p : ByteRange) (new : List (Cell N))
      (hs fs : List Form) → p ≡ range_of c n → new ≡ copies c n
      → hs ≡ i.pair.left.form ∷ i.pair.right.form ∷ [] → j ≡ replaced D p new k
      → fs ≡ map (form_by_replace D p k) hs → l ≡ with_forms fs i
      → underway j l ≡ range_written D c n (underway k i)
  range_is D k j i l c n p new hs fs f q a b g h =
      ap (λ y. underway y l) (b ∙ ap (λ x. replaced D x new k) f ∙ ap (λ z. replaced D (range_of c n) z k) q)
      ∙ ap (underway (replaced D (range_of c n) (copies c n) k))
      (h ∙ formed_is i fs hs (form_by_replace D p k) a g ∙ ap (λ x. formed (form_by_replace D x k) i) f)

  pub range_keeps : (D : Ops N) → ReplaceLaws D → (c : Cell N) (n : ℕ) (u : Underway N)
      → AreCells u.known.model u.known.cells → Keeps u (range_written D c n u)
  range_keeps D law c n u a =
      let k = u.known in
      let p = range_of c n in
      let new = copies c n in
      record {
        orders = law.orders k p new;
        model = law.model k p new;
        fits = λ w h. fits_on k (replaced D p new k) (form_by_replace D p k) w u.item
            (λ f i. law.fits k p new a w f i) h;
      }

  -- where it is to be written
  pub range_new : (k : Known N) (c : Cell N) (n : ℕ) (p : ByteRange) (new : List (Cell N)) → p ≡ range_of c n
      → new ≡ copies c n → CanStand k c → c.what ≡ Int U8 → c.offset + n ≤ 2 ^ 32 → AreNew k.model p k.cells new
  range_new k c n p new f q h e room =
      subst (λ x. AreNew k.model x k.cells new) (sym f)
      (subst (AreNew k.model (range_of c n) k.cells) (sym q) (copies_new k c n h e room))
