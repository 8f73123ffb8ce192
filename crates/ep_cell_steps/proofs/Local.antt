-- Changes of cells that go part by part, and touch few of them.
use Rattle.std.proofs.Common.{◌≡◌, ℕ, zero, suc, ◌+◌, ◌<◌, ◌≤◌, ◌^◌, ◌⊎◌, ⊎_elim, Bool, true, false, cond, nat_lt}
use Rattle.ep_int.proofs.Basics.{size_positive}
use Rattle.ep_reads.proofs.Rounds.{bits_kept}
use Rattle.ep_reads.proofs.Composed.{each_append}
use Rattle.ep_cells.proofs.Places.{side_below}
use Rattle.std.proofs.Common.{nat_le, List, [], ◌∷◌, ◌++◌, map, length, drop, set, get_or, Option, Some, None, IfSome}
use Rattle.std.proofs.Common.{refl, sym, ◌∙◌, ap, subst, arith}
use Rattle.std.specs.Option.{option_map}
use Rattle.std.proofs.lemmas.Bool.{false_from_ne_true}
use Rattle.std.proofs.lemmas.Bool.Decides.{nat_tests}
use Rattle.ep_int.specs.declared.types.Model.{Model}
use Rattle.ep_int.specs.Types.{size_of}
use Rattle.ep_bitslice.specs.declared.cell.CellName.{CellName}
use Rattle.ep_bitslice.specs.declared.segment.Segment.{Segment}
use Rattle.ep_bitslice.specs.Bits.{Bit, mentions}
use Rattle.ep_bitslice.specs.Segments.{bits, normal}
use Rattle.ep_bitslice.proofs.NormalForm.{form_is_normal}
use Rattle.ep_bitslice.proofs.Appending.{bits-normal}
use Rattle.ep_cells.specs.declared.cell.Cell.{Cell}
use Rattle.ep_cells.specs.Cells.{IsIn, first, later, comes_before, key_of, put, each_becomes}
use Rattle.ep_cells.specs.Forms.{Fate, bits_after, form_after, reformed}
use Rattle.ep_cells.specs.States.{IsThere, IsFormOf, HasForm, IsCell, AreCells}
use Rattle.ep_cells.proofs.Lists.{in_left, in_right, in_each, in_map, in_put}
use Rattle.ep_cells.proofs.Forms.{mentioned_after}
use Rattle.ep_cells.proofs.Places.{Before, in_block, by_block, before_true, before_from}
use Rattle.ep_shared_parts.specs.declared.parts.Part.{Part}
use Rattle.ep_shared_parts.specs.declared.parts.Edit.{Edit}
use Rattle.ep_shared_parts.specs.declared.uses.Use.{Use}
use Rattle.ep_shared_parts.specs.Spread.{outline, outlines, all_items, AreFrom, AreBelow, AreSpread, parts_to}
use Rattle.ep_shared_parts.specs.Mentions.{number_at, number_of, number_of_name, IsNoted, AreIndexed}
use Rattle.ep_shared_parts.specs.Plans.{AreOutside, is_edited, Covers}
use Rattle.ep_shared_parts.proofs.Adding.{Adds, rest_of}
use Rattle.ep_shared_parts.proofs.Spreading.{some_to, above_to}
use Rattle.ep_shared_parts.proofs.Planning.{GoesApart, KeepsNumbers, uncovered}
use Rattle.ep_cell_steps.specs.PartsInvariant.{IsIndexed}
use Rattle.ep_cell_steps.specs.Killed.{AreShort}
use Rattle.ep_cell_steps.proofs.Making.{indexed_none}

-- each cell becomes some, with their forms under new names
abbrev pub changed : {N : Type 0} → (Cell N → List (Cell N)) → Fate → List (Cell N) → List (Cell N)
changed g f cs = map (reformed f) (each_becomes g cs)

-- a cell begins where another does
pub record StaysAt {N : Type 0} (x y : Cell N) : Type 0 where
  pub block : y.block ≡ x.block
  pub offset : y.offset ≡ x.offset

-- Cells become cells that begin where they do, with their forms or none, and names go on as names of what begins
-- there.
pub record IsLocal {N : Type 0} (g : Cell N → List (Cell N)) (f : Fate) : Type 0 where
  pub stays : (x y : Cell N) → IsIn y (g x) → StaysAt x y
  pub forms : (x y : Cell N) → IsIn y (g x) → (y.form ≡ None) ⊎ (y.form ≡ x.form)
  pub names : (n m : CellName) → f n ≡ Some m → number_of_name m ≡ number_of_name n

-- ---- numbers

pub from_each : {N : Type 0} (a : ℕ) (ys : List (Cell N)) → ((y : Cell N) → IsIn y ys → a ≤ number_of y)
    → AreFrom a (map number_of ys)
from_each a [] h = tt
from_each a (y ∷ ys) h = (h y (first ys), from_each a ys (λ z k. h z (later y ys k)))

pub below_each : {N : Type 0} (a : ℕ) (ys : List (Cell N)) → ((y : Cell N) → IsIn y ys → number_of y < a)
    → AreBelow a (map number_of ys)
below_each a [] h = tt
below_each a (y ∷ ys) h = (h y (first ys), below_each a ys (λ z k. h z (later y ys k)))

pub from_at : {N : Type 0} (a : ℕ) (y : Cell N) (ys : List (Cell N)) → AreFrom a (map number_of ys) → IsIn y ys
    → a ≤ number_of y
from_at a y [] h k = elim k [ ]
from_at a _ (y ∷ ys) h (first _) = h.0
from_at a y (x ∷ ys) h (later _ _ k) = from_at a y ys h.1 k

pub below_at : {N : Type 0} (a : ℕ) (y : Cell N) (ys : List (Cell N)) → AreBelow a (map number_of ys) → IsIn y ys
    → number_of y < a
below_at a y [] h k = elim k [ ]
below_at a _ (y ∷ ys) h (first _) = h.0
below_at a y (x ∷ ys) h (later _ _ k) = below_at a y ys h.1 k

pub outside_at : {N : Type 0} (from last : ℕ) (y : Cell N) (ys : List (Cell N))
    → AreOutside from last (map number_of ys) → IsIn y ys → from ≤ number_of y → number_of y ≤ last → ⊥
outside_at from last y [] h k a b = elim k [ ]
outside_at from last _ (y ∷ ys) h (first _) a b = h.0 a b
outside_at from last y (x ∷ ys) h (later _ _ k) a b = outside_at from last y ys h.1 k a b

pub same_number : {N : Type 0} (x y : Cell N) → StaysAt x y → number_of y ≡ number_of x
same_number x y s = ap (λ b. number_at b y.offset) s.block ∙ ap (λ q. number_at x.block q) s.offset

-- what a change leaves comes of a cell that begins there
pub record Comes {N : Type 0} (g : Cell N → List (Cell N)) (f : Fate) (cs : List (Cell N)) (y : Cell N) : Type 0 where
  pub origin : Cell N
  pub is_in : IsIn origin cs
  pub stays : StaysAt origin y

pub comes : {N : Type 0} (g : Cell N → List (Cell N)) (f : Fate) (cs : List (Cell N)) (y : Cell N) → IsLocal g f
    → IsIn y (changed g f cs) → Comes g f cs y
comes g f cs y l h =
    let r = in_map (reformed f) y (each_becomes g cs) h in
    let e = in_each g r.origin cs r.is_in in
    let s = l.stays e.origin r.origin e.becomes in
    record {
      origin = e.origin;
      is_in = e.is_in;
      stays = record { block = ap (λ z. z.block) r.is ∙ s.block; offset = ap (λ z. z.offset) r.is ∙ s.offset };
    }

pub keeps_numbers : {N : Type 0} (g : Cell N → List (Cell N)) (f : Fate) → IsLocal g f
    → KeepsNumbers number_of (changed g f)
keeps_numbers g f l = record {
  above = λ a xs h. from_each a (changed g f xs) (λ y k.
      let r = comes g f xs y l k in
      let n = same_number r.origin y r.stays in
      let b = from_at a r.origin xs h r.is_in in omega (arith, n, b));
  below = λ a xs h. below_each a (changed g f xs) (λ y k.
      let r = comes g f xs y l k in
      let n = same_number r.origin y r.stays in
      let b = below_at a r.origin xs h r.is_in in omega (arith, n, b));
}

-- ---- part by part

pub map_append : {A B : Type 0} (f : A → B) (xs ys : List A) → map f (xs ++ ys) ≡ map f xs ++ map f ys
map_append f [] ys = refl
map_append f (x ∷ xs) ys = ap (λ zs. f x ∷ zs) (map_append f xs ys)

pub goes_apart : {N : Type 0} (g : Cell N → List (Cell N)) (f : Fate) → GoesApart (changed g f)
goes_apart g f = record {
  none = refl;
  both = λ xs ys. ap (map (reformed f)) (each_append g xs ys) ∙ map_append (reformed f) (each_becomes g xs)
      (each_becomes g ys);
}

-- ---- what isn't touched

pub same_each : {N : Type 0} (g : Cell N → List (Cell N)) (f : Fate) (xs : List (Cell N))
    → ((x : Cell N) → IsIn x xs → (g x ≡ x ∷ []) × (reformed f x ≡ x)) → changed g f xs ≡ xs
same_each g f [] h = refl
same_each g f (x ∷ xs) h =
    let a = h x (first xs) in
    ap (λ zs. map (reformed f) (zs ++ each_becomes g xs)) a.0
    ∙ ap (λ z. z ∷ changed g f xs) a.1
    ∙ ap (λ zs. x ∷ zs) (same_each g f xs (λ y k. h y (later x xs k)))

same_form : {N : Type 0} (f : Fate) (cs : List (Cell N)) (x : Cell N) (o : Option (List Segment))
    → IfSome o (IsFormOf cs x)
    → IfSome o (λ ss. (n : CellName) → mentions n (bits ss) ≡ true → f n ≡ Some n) → form_after f o ≡ o
same_form f cs x None h k = refl
same_form f cs x (Some ss) h k = ap (option_map normal) (bits_kept f (bits ss) k) ∙ ap Some (form_is_normal ss h.form)

pub same_reformed : {N : Type 0} (f : Fate) (cs : List (Cell N)) (x : Cell N) → HasForm cs x
    → IfSome x.form (λ ss. (n : CellName) → mentions n (bits ss) ≡ true → f n ≡ Some n) → reformed f x ≡ x
same_reformed f cs x h k = ap (λ o. record x { form = o }) (same_form f cs x x.form h k)

pub in_part : {N : Type 0} (ps : List (Part (Cell N))) (i : ℕ) (q : Part (Cell N)) (x : Cell N) → i < length ps
    → IsIn x (get_or ps i q).items.value.items → IsIn x (all_items ps)
in_part [] i q x b h = absurd (omega arith)
in_part (p ∷ ps) zero q x b h = in_left x p.items.value.items (all_items ps) h
in_part (p ∷ ps) (suc i) q x b h = in_right x p.items.value.items (all_items ps) (in_part ps i q x (omega arith) h)

-- what a name says goes on where it begins outside of a span
abbrev pub IsBeside : {N : Type 0} → (from last : ℕ) → Fate → List (Cell N) → Type 0
IsBeside from last f cs = (n : CellName) → IsThere n cs
    → (from ≤ number_of_name n → number_of_name n ≤ last → ⊥) → f n ≡ Some n

pub data Between (from k last : ℕ) : Type 0 where
  inside : from ≤ k → k ≤ last → Between from k last
  outside : (from ≤ k → k ≤ last → ⊥) → Between from k last

between : (from k last : ℕ) → Between from k last
between from k last = by (nat_le from k) (nat_le k last) refl refl
  where
    by : (a b : Bool) → nat_le from k ≡ a → nat_le k last ≡ b → Between from k last
    by true true e g = inside (grind (arith, nat_tests, e)) (grind (arith, nat_tests, g))
    by true false e g = outside (λ l m. grind (arith, nat_tests, g, l, m))
    by false b e g = outside (λ l m. grind (arith, nat_tests, e, l, m))

-- the index leads to each part with a form that mentions what is inside of the span
abbrev pub FindsUsers : {N : Type 0} → (from last : ℕ) → List Use → List (Part (Cell N)) → List (Edit (Cell N)) → Type 0
FindsUsers from last us ps es = (u : Use) → IsNoted us u → from ≤ u.of → u.of ≤ last → Covers number_of u.by u.by ps es

name_same : {N : Type 0} (f : Fate) (from last : ℕ) (us : List Use) (ps : List (Part (Cell N))) (es : List (Edit
    (Cell N))) (i : ℕ) (q : Part (Cell N)) (x : Cell N) (n : CellName)
    → IsBeside from last f (all_items ps) → FindsUsers from last us ps es → i < length ps → is_edited i es ≡ false
    → IsIn x (get_or ps i q).items.value.items → IsThere n (all_items ps)
    → IsNoted us (record { of = number_of_name n; by = number_of x }) → f n ≡ Some n
name_same f from last us ps es i q x n b u l e k t m = by (between from (number_of_name n) last)
  where
    by : Between from (number_of_name n) last → f n ≡ Some n
    by (inside g h) = absurd (outside_at (number_of x) (number_of x) x (get_or ps i q).items.value.items
        (uncovered number_of (number_of x) (number_of x) ps es i q (u (record {
          of = number_of_name n;
          by = number_of x;
        }) m g h) l e) k (omega arith) (omega arith))
    by (outside o) = b n t o

names_same : {N : Type 0} (f : Fate) (from last : ℕ) (us : List Use) (ps : List (Part (Cell N))) (es : List (Edit
    (Cell N))) (i : ℕ) (q : Part (Cell N)) (x : Cell N) (o : Option (List Segment))
    → IsBeside from last f (all_items ps) → FindsUsers from last us ps es → i < length ps → is_edited i es ≡ false
    → IsIn x (get_or ps i q).items.value.items → IfSome o (IsFormOf (all_items ps) x)
    → IfSome o (λ ss. (n : CellName) → mentions n (bits ss) ≡ true → IsNoted us (record {
      of = number_of_name n;
      by =
          number_of x;
    }))
    → IfSome o (λ ss. (n : CellName) → mentions n (bits ss) ≡ true → f n ≡ Some n)
names_same f from last us ps es i q x None b u l e k h m = tt
names_same f from last us ps es i q x (Some ss) b u l e k h m =
    λ n j. name_same f from last us ps es i q x n b u l e k (h.mentioned n j) (m n j)

-- a part that isn't edited stays as it is
pub unedited : {N : Type 0} (d : Model) (g : Cell N → List (Cell N)) (f : Fate) (from last : ℕ) (us : List Use) (ps :
    List (Part (Cell N))) (es : List (Edit (Cell N))) (i : ℕ) (q : Part (Cell N))
    → AreCells d (all_items ps) → AreIndexed us (all_items ps)
    → IsBeside from last f (all_items ps) → FindsUsers from last us ps es → i < length ps → is_edited i es ≡ false
    → ((x : Cell N) → IsIn x (get_or ps i q).items.value.items → g x ≡ x ∷ [])
    → changed g f (get_or ps i q).items.value.items ≡ (get_or ps i q).items.value.items
unedited d g f from last us ps es i q a n b u l e h =
    same_each g f (get_or ps i q).items.value.items (λ x k.
    let j = in_part ps i q x l k in (
      h x k,
      same_reformed f (all_items ps) x (a.forms x j)
          (names_same f from last us ps es i q x x.form b u l e k (a.forms x j) (n x j)),
    ))

-- ---- the index afterwards

indexed_bits : (us : List Use) (f : Fate) (by : ℕ) (ss : List Segment)
    → ((n m : CellName) → f n ≡ Some m → number_of_name m ≡ number_of_name n)
    → ((n : CellName) → mentions n (bits ss) ≡ true → IsNoted us (record { of = number_of_name n; by = by }))
    → (o : Option (List Bit)) → bits_after f (bits ss) ≡ o
    → IfSome (option_map normal o) (λ ts. (n : CellName) → mentions n (bits ts) ≡ true → IsNoted us (record {
      of =
          number_of_name n;
      by = by;
    }))
indexed_bits us f by ss names h None e = tt
indexed_bits us f by ss names h (Some bs) e =
    λ n k.
    let r = mentioned_after f (bits ss) bs n e (subst (λ z. mentions n z ≡ true) (bits-normal bs) k) in
    subst (λ j. IsNoted us (record { of = j; by = by })) (sym (names r.name n r.fate)) (h r.name r.mentioned)

indexed_form : (us : List Use) (f : Fate) (by : ℕ) (o : Option (List Segment))
    → ((n m : CellName) → f n ≡ Some m → number_of_name m ≡ number_of_name n)
    → IfSome o (λ ss. (n : CellName) → mentions n (bits ss) ≡ true → IsNoted us (record { of = number_of_name n; by = by }))
    → IfSome (form_after f o) (λ ss. (n : CellName) → mentions n (bits ss) ≡ true → IsNoted us (record {
      of =
          number_of_name n;
      by = by;
    }))
indexed_form us f by None names h = tt
indexed_form us f by (Some ss) names h = indexed_bits us f by ss names h (bits_after f (bits ss)) refl

pub indexed_reformed : {N : Type 0} (us : List Use) (f : Fate) (l : List (Cell N))
    → ((n m : CellName) → f n ≡ Some m → number_of_name m ≡ number_of_name n)
    → AreIndexed us l → AreIndexed us (map (reformed f) l)
indexed_reformed us f l names h y k =
    let r = in_map (reformed f) y l k in
    subst (IsIndexed us) (sym r.is) (indexed_form us f (number_of r.origin) r.origin.form names (h r.origin r.is_in))

pub indexed_same : {N : Type 0} (us : List Use) (x y : Cell N) → number_of y ≡ number_of x → y.form ≡ x.form
    → IsIndexed us x → IsIndexed us y
indexed_same us x y n e h =
    subst (λ o. IfSome o (λ ss. (m : CellName) → mentions m (bits ss) ≡ true → IsNoted us (record {
      of = number_of_name
          m;
      by = number_of y;
    }))) (sym e)
    (subst (λ k. IfSome x.form (λ ss. (m : CellName) → mentions m (bits ss) ≡ true → IsNoted us (record {
      of =
          number_of_name m;
      by = k;
    }))) (sym n) h)

pub indexed_each : {N : Type 0} (us : List Use) (g : Cell N → List (Cell N)) (f : Fate) (cs : List (Cell N))
    → IsLocal g f → AreIndexed us cs → AreIndexed us (each_becomes g cs)
indexed_each us g f cs l h y k =
    let r = in_each g y cs k in
    ⊎_elim
    (λ e. indexed_none us y e)
    (λ e. indexed_same us r.origin y (same_number r.origin y (l.stays r.origin y r.becomes)) e (h r.origin r.is_in))
    (l.forms r.origin y r.becomes)

pub indexed_put : {N : Type 0} (us : List Use) (c : Cell N) (cs : List (Cell N)) → IsIndexed us c → AreIndexed us cs
    → AreIndexed us (put c cs)
indexed_put us c cs h k y j = ⊎_elim (λ e. subst (IsIndexed us) (sym e) h) (λ i. k y i) (in_put c y cs j)

-- ---- one cell more

number_before : {N : Type 0} (c x : Cell N) → c.offset < 4294967296 → x.offset < 4294967296 → number_of c < number_of x
    → comes_before c x ≡ true
number_before c x lc lx h = by (nat_lt c.block x.block) refl
  where
    by : (b : Bool) → nat_lt c.block x.block ≡ b → comes_before c x ≡ true
    by true e = before_from c.block (key_of c) x.block (key_of x) (by_block (grind (arith, nat_tests, e)))
    by false e =
        let le : x.block ≤ c.block = grind (arith, nat_tests, e) in
        let same : c.block ≡ x.block = omega (arith, le, h, lc, lx) in
        let less : c.offset < x.offset = omega (arith, same, h) in
        let small = side_below c.side in
        before_from c.block (key_of c) x.block (key_of x) (in_block same (omega (arith, less, small)))

pub number_behind : {N : Type 0} (c x : Cell N) → c.offset < 4294967296 → x.offset < 4294967296 → number_of x < number_of c
    → comes_before c x ≡ false
number_behind c x lc lx h = false_from_ne_true (comes_before c x) (λ e. by (before_true c.block (key_of c) x.block
    (key_of x) e))
  where
    by : Before c.block (key_of c) x.block (key_of x) → ⊥
    by (in_block e l) =
        let small = side_below x.side in
        let other = side_below c.side in
        let less : x.offset < c.offset = omega (arith, e, h) in
        omega (arith, l, less, small, other)
    by (by_block l) = omega (arith, l, h, lc, lx)

put_front : {N : Type 0} (c : Cell N) (xs ys : List (Cell N)) → ((y : Cell N) → IsIn y ys → comes_before c y ≡ true)
    → put c (xs ++ ys) ≡ put c xs ++ ys
put_front c [] [] h = refl
put_front c [] (y ∷ ys) h = ap (λ b. cond b (c ∷ y ∷ ys) (y ∷ put c ys)) (h y (first ys))
put_front c (x ∷ xs) ys h = by (comes_before c x) (put_front c xs ys h)
  where
    by : (b : Bool) → put c (xs ++ ys) ≡ put c xs ++ ys
        → cond b (c ∷ x ∷ (xs ++ ys)) (x ∷ put c (xs ++ ys)) ≡ cond b (c ∷ x ∷ xs) (x ∷ put c xs) ++ ys
    by true e = refl
    by false e = ap (λ zs. x ∷ zs) e

put_past : {N : Type 0} (c : Cell N) (xs ys : List (Cell N)) → ((x : Cell N) → IsIn x xs → comes_before c x ≡ false)
    → put c (xs ++ ys) ≡ xs ++ put c ys
put_past c [] ys h = refl
put_past c (x ∷ xs) ys h =
    ap (λ b. cond b (c ∷ x ∷ (xs ++ ys)) (x ∷ put c (xs ++ ys))) (h x (first xs))
    ∙ ap (λ zs. x ∷ zs) (put_past c xs ys (λ y k. h y (later x xs k)))

pub short_cell : {N : Type 0} (d : Model) (x : Cell N) → IsCell d x → x.offset < 4294967296
short_cell d x i =
    let size = size_positive d x.what in
    let last : x.offset + size_of d x.what ≤ 2 ^ 32 = i.fits.last in
    omega (arith, size, last)

pub put_in_part : {N : Type 0} (ps : List (Part (Cell N))) (i : ℕ) (p q : Part (Cell N)) (c : Cell N)
    → AreSpread (outlines number_of ps) → AreShort (all_items ps) → c.offset < 4294967296
    → suc i ≡ parts_to (number_of c) (outlines number_of ps) → i < length ps → p ≡ get_or ps i p
    → q.items.value.items ≡ put c p.items.value.items → all_items (set ps i q) ≡ put c (all_items ps)
put_in_part [] i p q c s a o e b g h = absurd (omega arith)
put_in_part (t ∷ ts) zero p q c s a o e b g h =
    let none : 0 ≡ parts_to (number_of c) (outlines number_of ts) = rest_of (number_of c) 0 (outline number_of t)
    (outlines number_of ts) e in
    let above : AreFrom (suc (number_of c)) (map number_of (all_items ts)) = start (parts_to (number_of c) (outlines number_of ts)) none (above_to number_of (number_of
    c) ts s.2) in
    ap (λ xs. xs ++ all_items ts) (h ∙ ap (λ z. put c z.items.value.items) g)
    ∙ sym (put_front c t.items.value.items (all_items ts) (λ y k.
    let l = from_at (suc (number_of c)) y (all_items ts) above k in
    number_before c y o (a y (in_right y t.items.value.items (all_items ts) k)) (omega (arith, l))))
  where
    start : (j : ℕ) → 0 ≡ j → AreFrom (suc (number_of c)) (map number_of (all_items (drop j ts)))
        → AreFrom (suc (number_of c)) (map number_of (all_items ts))
    start j z f = subst (λ k. AreFrom (suc (number_of c)) (map number_of (all_items (drop k ts)))) (sym z) f
put_in_part (t ∷ []) (suc i) p q c s a o e b g h = absurd (omega arith)
put_in_part (t ∷ u ∷ us) (suc i) p q c s a o e b g h =
    let two = some_to (number_of c) (suc i) (outline number_of t) (outlines number_of (u ∷ us)) (omega (arith, e)) in
    let one = some_to (number_of c) i (outline number_of u) (outlines number_of us) two.1 in
    let le : u.start ≤ number_of c = one.0 in
    ap (λ xs. t.items.value.items ++ xs) (put_in_part (u ∷ us) i p q c s.2 (λ x k. a x (in_right x t.items.value.items
    (all_items (u ∷ us)) k)) o (rest_of (number_of c) (suc i) (outline number_of t) (outlines number_of (u ∷ us)) e)
    (omega arith) g h)
    ∙ sym (put_past c t.items.value.items (all_items (u ∷ us)) (λ x k.
    let l = below_at u.start x t.items.value.items s.1.1 k in
    number_behind c x o (a x (in_left x t.items.value.items (all_items (u ∷ us)) k)) (omega (arith, l, le))))

pub adds_put : {N : Type 0} (c : Cell N) (xs ys : List (Cell N)) → ys ≡ put c xs → Adds number_of (number_of c) xs ys
adds_put c xs ys e = record {
  above = λ a le h. subst (λ zs. AreFrom a (map number_of zs)) (sym e) (from_each a (put c xs) (λ y k. ⊎_elim
      (λ i. let n : number_of y ≡ number_of c = ap number_of i in omega (arith, n, le))
      (λ j. from_at a y xs h j) (in_put c y xs k)));
  below = λ a lt h. subst (λ zs. AreBelow a (map number_of zs)) (sym e) (below_each a (put c xs) (λ y k. ⊎_elim
      (λ i. let n : number_of y ≡ number_of c = ap number_of i in omega (arith, n, lt))
      (λ j. below_at a y xs h j) (in_put c y xs k)));
}
