-- New names one after the other are all new names at once.
use Rattle.std.proofs.Common.{◌≡◌, ℕ, zero, suc, ◌-◌, ◌+◌, ◌/◌, Bool, true, false, cond, List, [], ◌∷◌, ◌++◌, map}
use Rattle.std.proofs.Common.{⊎_elim, Option, Some, None, refl, sym, ◌∙◌, ap, subst, arith}
use Rattle.std.specs.Option.{option_map, option_map_or}
use Rattle.std.specs.List.{list_all}
use Rattle.std.proofs.lemmas.Bool.{and_parts, and_cases}
use Rattle.ep_bitslice.specs.declared.cell.CellName.{CellName}
use Rattle.ep_bitslice.specs.declared.segment.Segment.{Segment}
use Rattle.ep_bitslice.specs.declared.segment.Segment.TheVariants.{Bits, Fixed}
use Rattle.ep_bitslice.specs.Bits.{Bit, fixed, cell_bit, is_same_cell, renamed_cell, renamed_bit}
use Rattle.ep_bitslice.specs.Segments.{run_bits, fixed_bits, segment_bits, bits, AreSegments, IsSegment}
use Rattle.ep_bitslice.proofs.Joining.{same_cell, cell_itself}
use Rattle.ep_cells.specs.Forms.{Fate, bit_after, put_bit, bits_after}
use Rattle.ep_cell_rows.specs.Parts.{goes_on, name_after, bits_with, bits_with_all}

-- names that have become new ones stay
pub record IsSettled (f : Fate) : Type 0 where
  pub settled : (c e : CellName) → f c ≡ Some e → f e ≡ Some e

-- one name, under the names of a list of segments in turn
abbrev cell_with : Fate → Segment → CellName → CellName
cell_with f (Bits c from to) a = renamed_cell c (name_after f c) a
cell_with f (Fixed v w) a = a

abbrev cell_with_all : Fate → List Segment → CellName → CellName
cell_with_all f [] a = a
cell_with_all f (s ∷ ss) a = cell_with_all f ss (cell_with f s a)

abbrev bit_with_all : Fate → List Segment → Bit → Bit
bit_with_all f ss (fixed b) = fixed b
bit_with_all f ss (cell_bit a k) = cell_bit (cell_with_all f ss a) k

abbrev bit_with : Fate → Segment → Bit → Bit
bit_with f (Bits c from to) b = renamed_bit c (name_after f c) b
bit_with f (Fixed v w) b = b

bits_with_is : (f : Fate) (s : Segment) (bs : List Bit) → bits_with f s bs ≡ map (bit_with f s) bs
bits_with_is f (Bits c from to) bs = refl
bits_with_is f (Fixed v w) [] = refl
bits_with_is f (Fixed v w) (b ∷ bs) = ap (λ xs. b ∷ xs) (bits_with_is f (Fixed v w) bs)

bit_step : (f : Fate) (s : Segment) (ss : List Segment) (b : Bit)
    → bit_with_all f ss (bit_with f s b) ≡ bit_with_all f (s ∷ ss) b
bit_step f (Bits c from to) ss (fixed b) = refl
bit_step f (Bits c from to) ss (cell_bit a k) = refl
bit_step f (Fixed v w) ss (fixed b) = refl
bit_step f (Fixed v w) ss (cell_bit a k) = refl

map_step : (f : Fate) (s : Segment) (ss : List Segment) (bs : List Bit)
    → map (bit_with_all f ss) (map (bit_with f s) bs) ≡ map (bit_with_all f (s ∷ ss)) bs
map_step f s ss [] = refl
map_step f s ss (b ∷ bs) = ap (λ x. x ∷ map (bit_with_all f ss) (map (bit_with f s) bs)) (bit_step f s ss b) ∙ ap (λ
    xs. bit_with_all f (s ∷ ss) b ∷ xs) (map_step f s ss bs)

map_none : (f : Fate) (bs : List Bit) → bs ≡ map (bit_with_all f []) bs
map_none f [] = refl
map_none f (fixed b ∷ bs) = ap (λ xs. fixed b ∷ xs) (map_none f bs)
map_none f (cell_bit a k ∷ bs) = ap (λ xs. cell_bit a k ∷ xs) (map_none f bs)

with_all_is : (f : Fate) (ss : List Segment) (bs : List Bit) → bits_with_all f ss bs ≡ map (bit_with_all f ss) bs
with_all_is f [] bs = map_none f bs
with_all_is f (s ∷ ss) bs = ap (bits_with_all f ss) (bits_with_is f s bs) ∙ with_all_is f ss (map (bit_with f s) bs)
    ∙ map_step f s ss bs

-- a settled name stays under all of them
stays_by : (f : Fate) (c a : CellName) (b : Bool) → is_same_cell a c ≡ b → f a ≡ Some a
    → cond b (name_after f c) a ≡ a
stays_by f c a true e h = ap (name_after f) (sym (same_cell a c e)) ∙ ap (λ o. option_map_or (λ x. x) o a) h
stays_by f c a false e h = refl

stays_with : (f : Fate) (s : Segment) (a : CellName) → f a ≡ Some a → cell_with f s a ≡ a
stays_with f (Bits c from to) a h = stays_by f c a (is_same_cell a c) refl h
stays_with f (Fixed v w) a h = refl

stays : (f : Fate) (ss : List Segment) (a : CellName) → f a ≡ Some a → cell_with_all f ss a ≡ a
stays f [] a h = refl
stays f (s ∷ ss) a h = ap (cell_with_all f ss) (stays_with f s a h) ∙ stays f ss a h

-- a name that one of them has is new afterwards
pub data Has (a : CellName) : List Segment → Type 0 where
  here : (from to : ℕ) (ss : List Segment) → Has a (Bits a from to ∷ ss)
  there : (s : Segment) (ss : List Segment) → Has a ss → Has a (s ∷ ss)

moved_by : (f : Fate) (ss : List Segment) (c a e : CellName) (b : Bool) → is_same_cell a c ≡ b → IsSettled f
    → f a ≡ Some e
    → cell_with_all f ss a ≡ e → cell_with_all f ss (cond b (name_after f c) a) ≡ e
moved_by f ss c a e true i st h rest =
    let name : name_after f c ≡ e = ap (name_after f) (sym (same_cell a c i)) ∙ ap (λ o. option_map_or (λ x. x) o a)
    h in
    ap (cell_with_all f ss) name ∙ stays f ss e (st.settled a e h)
moved_by f ss c a e false i st h rest = rest

moved_with : (f : Fate) (ss : List Segment) (s : Segment) (a e : CellName) → IsSettled f → f a ≡ Some e
    → cell_with_all f ss a ≡ e → cell_with_all f ss (cell_with f s a) ≡ e
moved_with f ss (Bits c from to) a e st h rest = moved_by f ss c a e (is_same_cell a c) refl st h rest
moved_with f ss (Fixed v w) a e st h rest = rest

moved : (f : Fate) (a e : CellName) (ss : List Segment) → IsSettled f → f a ≡ Some e → Has a ss
    → cell_with_all f ss a ≡ e
moved f a e _ st h (here from to ss) =
    let name : renamed_cell a (name_after f a) a ≡ e = ap (λ b. cond b (name_after f a) a) (cell_itself a) ∙ ap (λ o.
    option_map_or (λ x. x) o a) h in
    ap (cell_with_all f ss) name ∙ stays f ss e (st.settled a e h)
moved f a e _ st h (there s ss k) = moved_with f ss s a e st h (moved f a e ss st h k)

-- ---- all bits of a form

-- each bit is fixed, or of a cell that has a name among these segments
abbrev AreOf : List Segment → List Bit → Type 0
AreOf ss [] = Unit {0}
AreOf ss (fixed b ∷ bs) = AreOf ss bs
AreOf ss (cell_bit a k ∷ bs) = Has a ss × AreOf ss bs

of_more : (s : Segment) (ss : List Segment) (bs : List Bit) → AreOf ss bs → AreOf (s ∷ ss) bs
of_more s ss [] h = tt
of_more s ss (fixed b ∷ bs) h = of_more s ss bs h
of_more s ss (cell_bit a k ∷ bs) h = (there s ss h.0, of_more s ss bs h.1)

of_append : (ss : List Segment) (xs ys : List Bit) → AreOf ss xs → AreOf ss ys → AreOf ss (xs ++ ys)
of_append ss [] ys h k = k
of_append ss (fixed b ∷ xs) ys h k = of_append ss xs ys h k
of_append ss (cell_bit a n ∷ xs) ys h k = (h.0, of_append ss xs ys h.1 k)

of_run : (a : CellName) (from to j n : ℕ) (ss : List Segment) → AreOf (Bits a from to ∷ ss) (run_bits a j n)
of_run a from to j zero ss = tt
of_run a from to j (suc n) ss = (here from to ss, of_run a from to (j + 1) n ss)

of_fixed : (w v : ℕ) (ss : List Segment) → AreOf ss (fixed_bits w v)
of_fixed zero v ss = tt
of_fixed (suc w) v ss = of_fixed w (v / 2) ss

of_own : (s : Segment) (ss : List Segment) → AreOf (s ∷ ss) (segment_bits s)
of_own (Bits a from to) ss = of_run a from to from (to - from) ss
of_own (Fixed v w) ss = of_fixed w v (Fixed v w ∷ ss)

all_of : (ss : List Segment) → AreOf ss (bits ss)
all_of [] = tt
all_of (s ∷ ss) = of_append (s ∷ ss) (segment_bits s) (bits ss) (of_own s ss) (of_more s ss (bits ss) (all_of ss))

-- where all go on, a name among them does
fate_by : (f : Fate) (a : CellName) (o : Option CellName) → f a ≡ o → option_map_or (λ e. true) o false ≡ true
    → (e : CellName) × (f a ≡ Some e)
fate_by f a None e k = absurd (cc)
fate_by f a (Some n) e k = (n, e)

has_fate : (f : Fate) (a : CellName) (ss : List Segment) → list_all (goes_on f) ss ≡ true → Has a ss
    → (e : CellName) × (f a ≡ Some e)
has_fate f a _ h (here from to ss) = fate_by f a (f a) refl (and_parts (goes_on f (Bits a from to)) (list_all
    (goes_on f) ss) h).0
has_fate f a _ h (there s ss k) = has_fate f a ss (and_parts (goes_on f s) (list_all (goes_on f) ss) h).1 k

bits_go_on : (f : Fate) (ss : List Segment) (bs : List Bit) → IsSettled f → list_all (goes_on f) ss ≡ true
    → AreOf ss bs → bits_after f bs ≡ Some (map (bit_with_all f ss) bs)
bits_go_on f ss [] st h k = refl
bits_go_on f ss (fixed b ∷ bs) st h k = ap (put_bit (Some (fixed b))) (bits_go_on f ss bs st h k)
bits_go_on f ss (cell_bit a n ∷ bs) st h k =
    let e = has_fate f a ss h k.0 in
    ap (λ o. put_bit (option_map (λ x. cell_bit x n) o) (bits_after f bs)) e.1
    ∙ ap (put_bit (Some (cell_bit e.0 n))) (bits_go_on f ss bs st h k.1)
    ∙ ap (λ x. Some (cell_bit x n ∷ map (bit_with_all f ss) bs)) (sym (moved f a e.0 ss st e.1 k.0))

pub all_renamed : (f : Fate) (ss : List Segment) → IsSettled f → list_all (goes_on f) ss ≡ true
    → bits_after f (bits ss) ≡ Some (bits_with_all f ss (bits ss))
all_renamed f ss st h = bits_go_on f ss (bits ss) st h (all_of ss) ∙ ap Some (sym (with_all_is f ss (bits ss)))

-- ---- where one doesn't go on

stop_behind : (o : Option Bit) → put_bit o None ≡ None
stop_behind None = refl
stop_behind (Some b) = refl

stops_append : (f : Fate) (xs ys : List Bit) → bits_after f ys ≡ None → bits_after f (xs ++ ys) ≡ None
stops_append f [] ys h = h
stops_append f (x ∷ xs) ys h = ap (put_bit (bit_after f x)) (stops_append f xs ys h) ∙ stop_behind (bit_after f x)

stops_run : (f : Fate) (c : CellName) (k n : ℕ) (ys : List Bit) → f c ≡ None
    → bits_after f (run_bits c k (suc n) ++ ys) ≡ None
stops_run f c k n ys h = ap (λ o. put_bit (option_map (λ e. cell_bit e k) o) (bits_after f (run_bits c (k + 1) n ++
    ys))) h

none_by : (f : Fate) (c : CellName) (o : Option CellName) → f c ≡ o → option_map_or (λ e. true) o false ≡ false
    → f c ≡ None
none_by f c None e k = e
none_by f c (Some n) e k = absurd (cc)

stops_here : (f : Fate) (s : Segment) (ys : List Bit) → IsSegment s → goes_on f s ≡ false
    → bits_after f (segment_bits s ++ ys) ≡ None
stops_here f (Fixed v w) ys i h = absurd (cc)
stops_here f (Bits c from to) ys i h =
    let w : to - from ≡ suc (to - from - 1) = omega (arith, i.0) in
    subst (λ k. bits_after f (run_bits c from k ++ ys) ≡ None) (sym w) (stops_run f c from (to - from - 1) ys
    (none_by f c (f c) refl h))

pub one_stops : (f : Fate) (ss : List Segment) → AreSegments ss → list_all (goes_on f) ss ≡ false
    → bits_after f (bits ss) ≡ None
one_stops f [] a h = absurd (cc)
one_stops f (s ∷ ss) a h =
    ⊎_elim
    (λ e. stops_here f s (bits ss) a.0 e)
    (λ e. stops_append f (segment_bits s) (bits ss) (one_stops f ss a.1 e))
    (and_cases (goes_on f s) (list_all (goes_on f) ss) h)
