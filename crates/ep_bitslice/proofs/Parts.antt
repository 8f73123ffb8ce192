-- Parts of a form's bits, and what is left to do on a walk along them.
use Rattle.std.proofs.Common.{◌≡◌, ℕ, zero, suc, ◌+◌, ◌-◌, ◌/◌, ◌^◌, ◌<◌, ◌≤◌, Bool, true, false, ◌&&◌, cond, List}
use Rattle.ep_bitslice.proofs.NormalForm.{append_nothing}
use Rattle.std.proofs.lemmas.Bool.{false_from_ne_true}
use Rattle.std.proofs.Common.{[], ◌∷◌, ◌++◌, length, get_or, take, drop, length-drop, Option, Some, None, sym, refl}
use Rattle.std.proofs.Common.{ap, ◌∙◌, subst, arith, append_assoc, length-append}
use Rattle.std.proofs.lemmas.List.{take-append-drop}
use Rattle.std.proofs.lemmas.Nat.{shr-shr}
use Rattle.ep_bitslice.specs.declared.cell.CellName.{CellName}
use Rattle.ep_bitslice.specs.declared.segment.Segment.{Segment}
use Rattle.ep_bitslice.specs.Bits.{Bit, Numbers, number_of_bits, zeros, part_of, shifted_left, shifted_right}
use Rattle.ep_bitslice.specs.Bits.{extended, masked, are_disjoint, either_of, renamed}
use Rattle.ep_bitslice.specs.Segments.{segment_bits, bits, segment_width, width, number, normal, form_of, IsSegment}
use Rattle.ep_bitslice.specs.Segments.{IsForm, IsAppended, IsEitherFront, TooMany}
use Rattle.ep_bitslice.proofs.Joining.{length-segment_bits}
use Rattle.ep_bitslice.proofs.NormalForm.{put_after, form_is_normal, normal-append, after_le, fewer_in_part}
use Rattle.ep_bitslice.proofs.Appending.{length-bits, full_with, form_of-bits, form_of-too_many}
use Rattle.ep_bitslice.proofs.Numbers.{number-bits}
use Rattle.ep_bitslice.proofs.Operations.{length_take, length-zeros}
use Rattle.ep_bitslice.proofs.Pieces.{masked-append, disjoint-append, either-append, renamed-append}
use Rattle.ep_bitslice.proofs.Walks.{drop-drop, bits_at}

take-front : (xs ys : List Bit) (k : ℕ) → k ≤ length xs → take k (xs ++ ys) ≡ take k xs
take-front xs ys zero h = refl
take-front [] ys (suc k) h = absurd (omega arith)
take-front (x ∷ xs) ys (suc k) h = ap (λ zs. x ∷ zs) (take-front xs ys k (omega arith))

take-add : (i j : ℕ) (bs : List Bit) → take i bs ++ take j (drop i bs) ≡ take (i + j) bs
take-add zero j bs = let e : 0 + j ≡ j = omega arith in rw e refl
take-add (suc i) zero [] = let e : suc i + 0 ≡ suc (i + 0) = omega arith in rw e refl
take-add (suc i) (suc j) [] = let e : suc i + suc j ≡ suc (i + suc j) = omega arith in rw e refl
take-add (suc i) j (b ∷ bs) = let e : suc i + j ≡ suc (i + j) = omega arith in rw e (ap (λ zs. b ∷ zs) (take-add i j bs))

take-whole : (bs : List Bit) → take (length bs) bs ≡ bs
take-whole [] = refl
take-whole (b ∷ bs) = ap (λ zs. b ∷ zs) (take-whole bs)

pub drop-whole : (bs : List Bit) (k : ℕ) → length bs ≤ k → drop k bs ≡ []
drop-whole [] zero h = refl
drop-whole [] (suc k) h = refl
drop-whole (b ∷ bs) zero h = absurd (omega arith)
drop-whole (b ∷ bs) (suc k) h = drop-whole bs k (omega arith)

-- ---- parts

pub part_none : (i : ℕ) (bs : List Bit) → part_of i i bs ≡ []
part_none i bs = let e : i - i ≡ 0 = omega arith in rw e refl

pub part_length : (i j : ℕ) (bs : List Bit) → i ≤ j → j ≤ length bs → length (part_of i j bs) ≡ j - i
part_length i j bs p q = length_take (j - i) (drop i bs) (omega (arith, length-drop i bs))

pub part_joined : (i j k : ℕ) (bs : List Bit) → i ≤ j → j ≤ k → part_of i j bs ++ part_of j k bs ≡ part_of i k bs
part_joined i j k bs p q =
    let e : i + (j - i) ≡ j = omega arith in
    let f : j - i + (k - j) ≡ k - i = omega arith in
    ap (λ n. take (j - i) (drop i bs) ++ take (k - j) (drop n bs)) (sym e)
    ∙ ap (λ zs. take (j - i) (drop i bs) ++ take (k - j) zs) (sym (drop-drop bs i (j - i)))
    ∙ take-add (j - i) (k - j) (drop i bs) ∙ ap (λ n. take n (drop i bs)) f

pub part_end : (i n : ℕ) (bs : List Bit) → n ≡ length bs → part_of i n bs ≡ drop i bs
part_end i n bs h =
    ap (λ m. take m (drop i bs)) (ap (λ m. m - i) h ∙ sym (length-drop i bs)) ∙ take-whole (drop i bs)

pub part_whole : (n : ℕ) (bs : List Bit) → n ≡ length bs → part_of 0 n bs ≡ bs
part_whole n bs h = part_end 0 n bs h

-- the lowest bits of a segment that begins at a place are the form's there
pub piece_is : (s f : Segment) (rest bs : List Bit) (k at : ℕ) → segment_bits f ≡ take k (segment_bits s) → k ≤ segment_width s → segment_bits s ++ rest ≡ drop at bs → segment_bits f ≡ part_of at (at + k) bs
piece_is s f rest bs k at e h g =
    let n : at + k - at ≡ k = omega arith in
    e ∙ sym (take-front (segment_bits s) rest k (omega (arith, h, length-segment_bits s))) ∙ ap (take k) g ∙ ap (λ m. take m (drop at bs)) (sym n)

-- ---- a walk that appends a part

-- the bits so far, and the next piece
pub part_step : (ss : List Segment) (new : List Segment) (p bs : List Bit) (old : List Bit) (from at k : ℕ) → bits ss ≡ old ++ part_of from at bs → p ≡ part_of at (at + k) bs → from ≤ at → bits new ≡ bits ss ++ p → bits new ≡ old ++ part_of from (at + k) bs
part_step ss new p bs old from at k e f h g =
    g ∙ ap (λ xs. xs ++ p) e ∙ append_assoc old (part_of from at bs) p ∙ ap (λ xs. old ++ (part_of from at bs ++ xs)) f
    ∙ ap (λ xs. old ++ xs) (part_joined from at (at + k) bs h (omega arith))

pub part_full : (ss : List Segment) (p bs old : List Bit) (from at to k : ℕ) → bits ss ≡ old ++ part_of from at bs → p ≡ part_of at (at + k) bs → from ≤ at → at + k ≤ to → TooMany (bits ss ++ p) → TooMany (old ++ part_of from to bs)
part_full ss p bs old from at to k e f h w full =
    let whole : (bits ss ++ p) ++ part_of (at + k) to bs ≡ old ++ part_of from to bs =
    ap (λ xs. (xs ++ p) ++ part_of (at + k) to bs) e
    ∙ ap (λ xs. xs ++ part_of (at + k) to bs) (append_assoc old (part_of from at bs) p ∙ ap (λ xs. old ++ (part_of from at bs ++ xs)) f ∙ ap (λ xs. old ++ xs) (part_joined from at (at + k) bs h (omega arith)))
    ∙ append_assoc old (part_of from (at + k) bs) (part_of (at + k) to bs)
    ∙ ap (λ xs. old ++ xs) (part_joined from (at + k) to bs (omega arith) w) in
    subst TooMany whole (full_with (bits ss ++ p) (part_of (at + k) to bs) full)

-- ---- a walk that has some bits ahead

pub ahead_full : (ss : List Segment) (p t u all : List Bit) → bits ss ++ t ≡ all → t ≡ p ++ u → TooMany (bits ss ++ p) → TooMany all
ahead_full ss p t u all e f h =
    subst TooMany (append_assoc (bits ss) p u ∙ ap (λ xs. bits ss ++ xs) (sym f) ∙ e) (full_with (bits ss ++ p) u h)

pub ahead_step : (ss new : List Segment) (p t u all : List Bit) → bits ss ++ t ≡ all → t ≡ p ++ u → bits new ≡ bits ss ++ p → bits new ++ u ≡ all
ahead_step ss new p t u all e f h =
    ap (λ xs. xs ++ u) h ∙ append_assoc (bits ss) p u ∙ ap (λ xs. bits ss ++ xs) (sym f) ∙ e

pub ahead_end : (ss : List Segment) (t all : List Bit) → bits ss ++ t ≡ all → t ≡ [] → bits ss ≡ all
ahead_end ss t all e f = sym (append_nothing (bits ss)) ∙ ap (λ xs. bits ss ++ xs) (sym f) ∙ e

pub ahead_width : (ss : List Segment) (t all : List Bit) → bits ss ++ t ≡ all → width ss + length t ≡ length all
ahead_width ss t all e = ap (λ n. n + length t) (sym (length-bits ss)) ∙ sym (length-append (bits ss) t) ∙ ap length e

-- ---- masks

pub length-masked : (m : ℕ) (bs : List Bit) → length (masked m bs) ≡ length bs
length-masked m [] = refl
length-masked m (b ∷ bs) = ap suc (length-masked (m / 2) bs)

-- what a mask leaves of the bits from a place on: a piece, and what is left from its end on
pub masked_step : (s p : Segment) (rest bs : List Bit) (m at : ℕ) → segment_bits p ≡ masked (m / 2 ^ at) (take (segment_width p) (segment_bits s)) → segment_width p ≤ segment_width s → segment_bits s ++ rest ≡ drop at bs → masked (m / 2 ^ at) (drop at bs) ≡ segment_bits p ++ masked (m / 2 ^ (at + segment_width p)) (drop (at + segment_width p) bs)
masked_step s p rest bs m at e h g =
    let k = segment_width p in
    let n : length (take (segment_width p) (drop at bs)) ≡ segment_width p =
    ap (λ xs. length (take k xs)) (sym g) ∙ ap length (take-front (segment_bits s) rest k (omega (arith, h, length-segment_bits s)))
    ∙ length_take k (segment_bits s) (omega (arith, h, length-segment_bits s)) in
    let front : take (segment_width p) (drop at bs) ≡ take (segment_width p) (segment_bits s) =
    ap (take k) (sym g) ∙ take-front (segment_bits s) rest k (omega (arith, h, length-segment_bits s)) in
    ap (masked (m / 2 ^ at)) (sym (take-append-drop k (drop at bs)))
    ∙ masked-append (m / 2 ^ at) (take k (drop at bs)) (drop k (drop at bs))
    ∙ ap (λ i. masked (m / 2 ^ at) (take k (drop at bs)) ++ masked (m / 2 ^ at / 2 ^ i) (drop k (drop at bs))) n
    ∙ ap (λ i. masked (m / 2 ^ at) (take k (drop at bs)) ++ masked i (drop k (drop at bs))) (shr-shr m at k)
    ∙ ap (λ xs. masked (m / 2 ^ at) (take k (drop at bs)) ++ masked (m / 2 ^ (at + k)) xs) (drop-drop bs at k)
    ∙ ap (λ xs. masked (m / 2 ^ at) xs ++ masked (m / 2 ^ (at + k)) (drop (at + k) bs)) front
    ∙ ap (λ xs. xs ++ masked (m / 2 ^ (at + k)) (drop (at + k) bs)) (sym e)

-- ---- two forms

pub disjoint-length : (xs ys : List Bit) → are_disjoint xs ys ≡ true → length xs ≡ length ys
disjoint-length [] [] h = refl
disjoint-length [] (y ∷ ys) h = absurd (cc)
disjoint-length (x ∷ xs) [] h = absurd (cc)
disjoint-length (x ∷ xs) (y ∷ ys) h = ap suc (disjoint-length xs ys (and_right _ _ h))
  where
    and_right : (a b : Bool) → (a && b) ≡ true → b ≡ true
    and_right true b h = h
    and_right false b h = absurd (cc)

pub length-either : (xs ys : List Bit) → length xs ≡ length ys → length (either_of xs ys) ≡ length xs
length-either [] ys h = refl
length-either (x ∷ xs) [] h = absurd (omega arith)
length-either (x ∷ xs) (y ∷ ys) h = ap suc (length-either xs ys (omega arith))

-- both lists from a place on, as the piece and the rest
record Both (x y p : Segment) (xs ys : List Bit) (at : ℕ) : Type 0 where
  pub low : length (take (segment_width p) (segment_bits x)) ≡ length (take (segment_width p) (segment_bits y))
  pub first : drop at xs ≡ take (segment_width p) (segment_bits x) ++ drop (at + segment_width p) xs
  pub second : drop at ys ≡ take (segment_width p) (segment_bits y) ++ drop (at + segment_width p) ys

front_of : (s : Segment) (rest bs : List Bit) (k at : ℕ) → k ≤ segment_width s → segment_bits s ++ rest ≡ drop at bs → drop at bs ≡ take k (segment_bits s) ++ drop (at + k) bs
front_of s rest bs k at h g =
    sym (take-append-drop k (drop at bs))
    ∙ ap (λ xs. take k (drop at bs) ++ xs) (drop-drop bs at k)
    ∙ ap (λ xs. take k xs ++ drop (at + k) bs) (sym g)
    ∙ ap (λ xs. xs ++ drop (at + k) bs) (take-front (segment_bits s) rest k (omega (arith, h, length-segment_bits s)))

both : (x y p : Segment) (u v xs ys : List Bit) (at : ℕ) → IsEitherFront x y p → segment_bits x ++ u ≡ drop at xs → segment_bits y ++ v ≡ drop at ys → Both x y p xs ys at
both x y p u v xs ys at f g h = record {
  low = length_take (segment_width p) (segment_bits x) (omega (arith, f.low, length-segment_bits x)) ∙ sym (length_take (segment_width p) (segment_bits y) (omega (arith, f.high, length-segment_bits y)));
  first = front_of x u xs (segment_width p) at f.low g;
  second = front_of y v ys (segment_width p) at f.high h;
}

pub either_step : (x y p : Segment) (u v xs ys : List Bit) (at : ℕ) → IsEitherFront x y p → segment_bits x ++ u ≡ drop at xs → segment_bits y ++ v ≡ drop at ys → either_of (drop at xs) (drop at ys) ≡ segment_bits p ++ either_of (drop (at + segment_width p) xs) (drop (at + segment_width p) ys)
either_step x y p u v xs ys at f g h =
    let b = both x y p u v xs ys at f g h in
    let k = segment_width p in
    ap (λ zs. either_of zs (drop at ys)) b.first
    ∙ ap (λ zs. either_of (take k (segment_bits x) ++ drop (at + k) xs) zs) b.second
    ∙ either-append (take k (segment_bits x)) (take k (segment_bits y)) (drop (at + k) xs) (drop (at + k) ys) b.low
    ∙ ap (λ zs. zs ++ either_of (drop (at + k) xs) (drop (at + k) ys)) (sym f.bits_are)

pub disjoint_step : (x y p : Segment) (u v xs ys : List Bit) (at : ℕ) → IsEitherFront x y p → segment_bits x ++ u ≡ drop at xs → segment_bits y ++ v ≡ drop at ys → are_disjoint (drop at xs) (drop at ys) ≡ are_disjoint (drop (at + segment_width p) xs) (drop (at + segment_width p) ys)
disjoint_step x y p u v xs ys at f g h =
    let b = both x y p u v xs ys at f g h in
    let k = segment_width p in
    ap (λ zs. are_disjoint zs (drop at ys)) b.first
    ∙ ap (λ zs. are_disjoint (take k (segment_bits x) ++ drop (at + k) xs) zs) b.second
    ∙ disjoint-append (take k (segment_bits x)) (take k (segment_bits y)) (drop (at + k) xs) (drop (at + k) ys) b.low
    ∙ ap (λ t. t && are_disjoint (drop (at + k) xs) (drop (at + k) ys)) f.disjoint

-- ---- results

pub number_is : (n : Numbers) (f : List Segment) (bs : List Bit) → IsForm f → bits f ≡ bs → number n f ≡ number_of_bits n bs
number_is n f bs p h = number-bits n f p.segments ∙ ap (number_of_bits n) h

pub appended_bits : (ss new : List Segment) (bs all : List Bit) → IsAppended ss bs new → bits ss ++ bs ≡ all → bits new ≡ all
appended_bits ss new bs all h e = h.bits_are ∙ e

pub some_result : (bs : List Bit) (f : List Segment) → IsForm f → bits f ≡ bs → Some f ≡ form_of bs
some_result bs f p h = sym (form_of-bits bs f p h)

pub no_result : (bs : List Bit) → TooMany bs → None ≡ form_of bs
no_result bs h = sym (form_of-too_many bs h)

pub no_result_with : (bs cs all : List Bit) → TooMany bs → bs ++ cs ≡ all → None ≡ form_of all
no_result_with bs cs all h e = no_result all (subst TooMany e (full_with bs cs h))

pub where_true : (t : Bool) (a b : Option (List Segment)) → t ≡ true → a ≡ b → a ≡ cond t b None
where_true true a b h e = e
where_true false a b h e = absurd (cc)

pub where_false : (t : Bool) (b : Option (List Segment)) → t ≡ false → None ≡ cond t b None
where_false true b h = absurd (cc)
where_false false b h = refl

pub either_way : (t : Bool) (b : Option (List Segment)) → None ≡ b → None ≡ cond t b None
either_way true b e = e
either_way false b e = refl

-- ---- one segment more

pub one_more : (ss : List Segment) (s : Segment) → IsForm ss → IsSegment s → length ss < 8 → TooMany (bits ss ++ segment_bits s) → ⊥
one_more ss s f p h full =
    omega (arith, h, full, ap length (normal-append (bits ss) s p), ap (λ xs. length (put_after xs s)) (form_is_normal ss f), after_le s ss)

pub appended_length : (ss new : List Segment) (s : Segment) → IsForm ss → IsSegment s → IsAppended ss (segment_bits s) new → length new ≤ length ss + 1
appended_length ss new s f p a =
    omega (arith, ap length (sym (form_is_normal new a.form) ∙ ap normal a.bits_are ∙ normal-append (bits ss) s p), ap (λ xs. length (put_after xs s)) (form_is_normal ss f), after_le s ss)

pub length-renamed : (from to : CellName) (bs : List Bit) → length (renamed from to bs) ≡ length bs
length-renamed from to [] = refl
length-renamed from to (b ∷ bs) = ap suc (length-renamed from to bs)

pub renamed_step : (ss : List Segment) (i : ℕ) (d r : Segment) (from to : CellName) → i < length ss → segment_bits r ≡ renamed from to (segment_bits (get_or ss i d)) → renamed from to (bits (drop i ss)) ≡ segment_bits r ++ renamed from to (bits (drop (i + 1) ss))
renamed_step ss i d r from to h e =
    ap (renamed from to) (bits_at ss i d h) ∙ renamed-append from to (segment_bits (get_or ss i d)) (bits (drop (i + 1) ss))
    ∙ ap (λ xs. xs ++ renamed from to (bits (drop (i + 1) ss))) (sym e)

pub drop_all : (ss : List Segment) (i : ℕ) → length ss ≤ i → drop i ss ≡ []
drop_all [] zero h = refl
drop_all [] (suc i) h = refl
drop_all (s ∷ ss) zero h = absurd (omega arith)
drop_all (s ∷ ss) (suc i) h = drop_all ss i (omega arith)

pub not_as_wide : (xs ys : List Bit) → (length xs ≡ length ys → ⊥) → are_disjoint xs ys ≡ false
not_as_wide xs ys h = false_from_ne_true (are_disjoint xs ys) (λ e. h (disjoint-length xs ys e))

-- ---- shifts and slices

pub after_nothing : (e new : List Segment) (p : List Bit) → e ≡ [] → IsAppended e p new → bits new ≡ p
after_nothing e new p h a = a.bits_are ∙ ap (λ ss. bits ss ++ p) h

pub too_many_after : (e : List Segment) (p : List Bit) → e ≡ [] → TooMany (bits e ++ p) → TooMany p
too_many_after e p h full = subst TooMany (ap (λ ss. bits ss ++ p) h) full

pub shifted_up_bits : (ss z : List Segment) (k w : ℕ) → bits z ≡ zeros k → w ≡ width ss → bits z ++ part_of 0 (w - k) (bits ss) ≡ shifted_left k (bits ss)
shifted_up_bits ss z k w e h =
    let n : w - k - 0 ≡ length (bits ss) - k = omega (arith, h, length-bits ss) in
    ap (λ xs. xs ++ part_of 0 (w - k) (bits ss)) e ∙ ap (λ n. zeros k ++ take n (bits ss)) n

pub shifted_down_bits : (ss a : List Segment) (k w : ℕ) → bits a ≡ part_of k w (bits ss) → w ≡ width ss → bits a ++ zeros k ≡ shifted_right k (bits ss)
shifted_down_bits ss a k w e h =
    ap (λ xs. xs ++ zeros k) (e ∙ part_end k w (bits ss) (h ∙ sym (length-bits ss)))

pub width_of_bits : (ss : List Segment) (bs : List Bit) → bits ss ≡ bs → width ss ≡ length bs
width_of_bits ss bs h = sym (length-bits ss) ∙ ap length h

pub part_fits : (ss : List Segment) (from to : ℕ) → IsForm ss → TooMany (part_of from to (bits ss)) → ⊥
part_fits ss from to f full = omega (arith, full, fewer_in_part from to (bits ss), ap length (form_is_normal ss f), f.few)

pub normal_is : (f : List Segment) (bs : List Bit) → IsForm f → bits f ≡ bs → f ≡ normal bs
normal_is f bs p h = sym (form_is_normal f p) ∙ ap normal h

-- ---- widths of results

pub width-concat : (f low high : List Segment) → bits f ≡ bits low ++ bits high → width f ≡ width low + width high
width-concat f low high h =
    omega (arith, width_of_bits f (bits low ++ bits high) h, length-append (bits low) (bits high), length-bits low, length-bits high)

pub width-shifted_left : (f ss : List Segment) (k : ℕ) → k ≤ width ss → bits f ≡ shifted_left k (bits ss) → width f ≡ width ss
width-shifted_left f ss k p h =
    omega (
      arith,
      width_of_bits f (shifted_left k (bits ss)) h,
      length-append (zeros k) (take (length (bits ss) - k) (bits ss)),
      length-zeros k,
      length_take (length (bits ss) - k) (bits ss) (omega arith),
      length-bits ss,
      p,
    )

pub width-shifted_right : (f ss : List Segment) (k : ℕ) → k ≤ width ss → bits f ≡ shifted_right k (bits ss) → width f ≡ width ss
width-shifted_right f ss k p h =
    omega (arith, width_of_bits f (shifted_right k (bits ss)) h, length-append (drop k (bits ss)) (zeros k), length-zeros k, length-drop k (bits ss), length-bits ss, p)

pub width-masked : (f ss : List Segment) (m : ℕ) → bits f ≡ masked m (bits ss) → width f ≡ width ss
width-masked f ss m h = omega (arith, width_of_bits f (masked m (bits ss)) h, length-masked m (bits ss), length-bits ss)

pub width-either : (f a b : List Segment) → are_disjoint (bits a) (bits b) ≡ true → bits f ≡ either_of (bits a) (bits b) → width f ≡ width a
width-either f a b d h =
    omega (arith, width_of_bits f (either_of (bits a) (bits b)) h, length-either (bits a) (bits b) (disjoint-length (bits a) (bits b) d), length-bits a)

pub width-extended : (f ss : List Segment) (k : ℕ) → width ss ≤ k → bits f ≡ extended k (bits ss) → width f ≡ k
width-extended f ss k p h =
    omega (arith, width_of_bits f (extended k (bits ss)) h, length-append (bits ss) (zeros (k - length (bits ss))), length-zeros (k - length (bits ss)), length-bits ss, p)

pub width-part_of : (f ss : List Segment) (from to : ℕ) → from ≤ to → to ≤ width ss → bits f ≡ part_of from to (bits ss) → width f ≡ to - from
width-part_of f ss from to p q h =
    omega (arith, width_of_bits f (part_of from to (bits ss)) h, part_length from to (bits ss) p (omega (arith, q, length-bits ss)))

pub width-renamed : (f ss : List Segment) (from to : CellName) → bits f ≡ renamed from to (bits ss) → width f ≡ width ss
width-renamed f ss from to h = omega (arith, width_of_bits f (renamed from to (bits ss)) h, length-renamed from to (bits ss), length-bits ss)
