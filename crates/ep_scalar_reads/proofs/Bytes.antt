-- Cells that have a byte, and forms of bytes.
use Rattle.std.proofs.Common.{◌≡◌, ℕ, ◌+◌, ◌*◌, ◌^◌, ◌<◌, ◌≤◌, suc, ℤ, pos, Bool, true, false, nat_le, cond, IfSome}
use Rattle.std.proofs.Common.{List, [], ◌∷◌, ◌++◌, append_assoc, append-nil, length, length-append, get_or, drop}
use Rattle.std.proofs.Common.{drop-cons, add-one, Option, Some, None, refl, sym, ◌∙◌, ap, subst, arith}
use Rattle.std.specs.Option.{option_map, option_and_then}
use Rattle.std.proofs.lemmas.List.{drop_all}
use Rattle.std.proofs.lemmas.Bool.{leb-true, le-leb, false_from_ne_true, both_ways}
use Rattle.ep_int.specs.declared.types.Model.{Model}
use Rattle.ep_int.specs.declared.types.Scalar.{Scalar}
use Rattle.ep_int.specs.declared.types.Scalar.TheVariants.{Int, Pointer}
use Rattle.ep_int.specs.Types.{size_of}
use Rattle.ep_int.specs.Arith.{IsOfSomeType}
use Rattle.std.proofs.lemmas.Int.{ints}
use Rattle.std.proofs.Math.Nat.{pow-le-pow_right}
use Rattle.ep_bitslice.specs.declared.segment.Segment.{Segment}
use Rattle.ep_bitslice.specs.Bits.{Bit, part_of}
use Rattle.ep_bitslice.specs.Segments.{bits, width, normal, most_bits, most_segments, form_of, concat_of, IsForm}
use Rattle.ep_bitslice.proofs.Appending.{length-bits, bits-normal}
use Rattle.ep_bitslice.proofs.NormalForm.{fewer_in_front, form_is_normal}
use Rattle.ep_bitslice.proofs.Parts.{part_length}
use Rattle.ep_reads.specs.declared.read.ReadValue.{ReadValue}
use Rattle.ep_reads.specs.Bytes.{byte_form}
use Rattle.ep_reads.specs.Read.{appended, bits_of_all}
use Rattle.ep_reads.proofs.Slices.{width-normal}
use Rattle.ep_scalar_reads.specs.Parts.{HasByte, HaveByteForms, form_with}

pub has_byte : (d : Model) (w : Scalar) (p : ℕ) → p < size_of d w → HasByte w p
has_byte d (Int t) p h = h
has_byte d Pointer p h = tt

pub some_weight : (i : ℕ) (v : ℤ) → i < 8 → v ≡ pos (256 ^ i) → IsOfSomeType v
some_weight i v h e =
    let few : i ≤ 7 = omega (arith, h) in
    let most : 256 ^ i ≤ 256 ^ 7 = pow-le-pow_right (omega arith) few in
    subst IsOfSomeType (sym e)
    (let r : IsOfSomeType (pos (256 ^ i)) = record {
      low = omega (arith, ints);
      high = omega (arith, ints, most);
    } in r)

-- ---- forms of bytes

pub eight_by : (k : ℕ) (o : Option (List Segment)) → IfSome o (λ ss. 8 * k + 8 ≤ width ss)
    → IfSome (option_map (byte_form k) o) (λ ss. width ss ≡ 8)
eight_by k None h = tt
eight_by k (Some ss) h =
    width-normal (part_of (8 * k) (8 * k + 8) (bits ss))
    ∙ part_length (8 * k) (8 * k + 8) (bits ss) (omega arith) (omega (arith, h, length-bits ss))
    ∙ omega arith

-- ---- a byte more

-- ---- the form of all bytes

-- bits that are too many stay too many
few_by : (bs cs : List Bit) (t : Bool) → nat_le (length (normal bs)) most_segments ≡ t
    → option_and_then form_of (appended (cond t (Some (normal bs)) None) (Some cs)) ≡ form_of (bs ++ cs)
few_by bs cs true e = ap (λ xs. form_of (xs ++ cs)) (bits-normal bs)
few_by bs cs false e =
    let many : nat_le (length (normal (bs ++ cs))) most_segments ≡ false = false_from_ne_true (nat_le (length
    (normal (bs
    ++ cs))) most_segments) (λ h.
    let few = leb-true (length (normal (bs ++ cs))) most_segments h in
    both_ways (nat_le (length (normal bs)) most_segments) e
    (le-leb (length (normal bs)) most_segments (omega (arith, few, fewer_in_front bs cs)))) in
    sym (ap (λ t. cond t (Some (normal (bs ++ cs))) None) many)

none_by : (f : Option (List Segment)) → option_and_then form_of (appended f None) ≡ None
none_by None = refl
none_by (Some ss) = refl

concat_by : (ss ts : List Segment) (o : Option (List Bit)) → width ss + width ts ≤ 64
    → option_and_then form_of (appended (concat_of ss ts) o) ≡ option_and_then form_of (appended (Some ss) (appended
    (Some
    ts) o))
concat_by ss ts None h = none_by (concat_of ss ts)
concat_by ss ts (Some cs) h =
    let room : concat_of ss ts ≡ form_of (bits ss ++ bits ts) = ap (λ t. cond t (form_of (bits ss ++ bits ts)) None)
    (le-leb (width ss + width ts) most_bits h) in
    ap (λ f. option_and_then form_of (appended f (Some cs))) room
    ∙ few_by (bits ss ++ bits ts) cs (nat_le (length (normal (bits ss ++ bits ts))) most_segments) refl
    ∙ ap form_of (append_assoc (bits ss) (bits ts) cs)

by_form : (f g : Option (List Segment)) (o : Option (List Bit))
    → IfSome f (λ ss. IfSome g (λ ts. width ss + width ts ≤ 64))
    → option_and_then form_of (appended (option_and_then (λ ss. option_and_then (λ ts. concat_of ss ts) g) f) o) ≡
    option_and_then form_of (appended f (appended g o))
by_form None g o h = refl
by_form (Some ss) None o h = refl
by_form (Some ss) (Some ts) o h = concat_by ss ts o h

-- one form more, of bits of which there are few enough
pub form_step : {N : Type 0} (f : Option (List Segment)) (r : ReadValue N) (rs : List (ReadValue N)) (g : Option (List
    Segment)) → IfSome f (λ ss. IfSome r.form (λ ts. width ss + width ts ≤ 64))
    → g ≡ option_and_then (λ ss. option_and_then (λ ts. concat_of ss ts) r.form) f
    → form_with g rs ≡ form_with f (r ∷ rs)
form_step f r rs g h e = ap (λ z. form_with z rs) e ∙ by_form f r.form (bits_of_all rs) h

-- a form whose bits are few is that of its own bits
pub form_end : {N : Type 0} (f g : Option (List Segment)) (rs : List (ReadValue N)) → IfSome g IsForm
    → form_with {N = N} g [] ≡ form_with f rs → g ≡ form_with f rs
form_end f None rs h e = e
form_end f (Some ss) rs h e =
    let own : form_of (bits ss ++ []) ≡ Some ss = ap form_of (append-nil (bits ss))
    ∙ ap (λ xs. cond (nat_le (length xs) most_segments) (Some xs) None) (form_is_normal ss h)
    ∙ ap (λ t. cond t (Some ss) None) (le-leb (length ss) most_segments h.few) in
    sym own ∙ e

-- ---- one cell that has the whole scalar

-- ---- one form more

both_by : (t u : Bool) (xs : List Segment) (P : List Segment → Type 0) → P xs
    → IfSome (cond t (cond u (Some xs) None) None) P
both_by true true xs P h = h
both_by true false xs P h = tt
both_by false u xs P h = tt

concat_wide : (ss ts : List Segment) → IfSome (concat_of ss ts) (λ us. width us ≡ width ss + width ts)
concat_wide ss ts =
    both_by (nat_le (width ss + width ts) most_bits) (nat_le (length (normal (bits ss ++ bits ts))) most_segments)
    (normal
    (bits ss ++ bits ts)) (λ us. width us ≡ width ss + width ts)
    (width-normal (bits ss ++ bits ts) ∙ length-append (bits ss) (bits ts) ∙ ap (λ n. n + length (bits ts)) (length-bits
    ss) ∙ ap (λ n. width ss + n) (length-bits ts))

wide_some : (o : Option (List Segment)) (n m : ℕ) → n ≡ m → IfSome o (λ us. width us ≡ n) → IfSome o (λ us. width us
    ≡ m)
wide_some None n m e h = tt
wide_some (Some us) n m e h = h ∙ e

wide_after : (f g : Option (List Segment)) (i : ℕ) → IfSome f (λ ss. width ss ≡ 8 * (i + 1))
    → IfSome g (λ ss. width ss ≡ 8)
    → IfSome (option_and_then (λ ss. option_and_then (λ ts. concat_of ss ts) g) f) (λ ss. width ss ≡ 8 * (i + 1 + 1))
wide_after None g i h k = tt
wide_after (Some ss) None i h k = tt
wide_after (Some ss) (Some ts) i h k =
    wide_some (concat_of ss ts) (width ss + width ts) (8 * (i + 1 + 1)) (omega (arith, h, k)) (concat_wide ss ts)

few_bits : (f g : Option (List Segment)) (i : ℕ) → i < 7 → IfSome f (λ ss. width ss ≡ 8 * (i + 1))
    → IfSome g (λ ss. width ss ≡ 8) → IfSome f (λ ss. IfSome g (λ ts. width ss + width ts ≤ 64))
few_bits None g i l h k = tt
few_bits (Some ss) None i l h k = tt
few_bits (Some ss) (Some ts) i l h k = omega (arith, l, h, k)

-- what is so before byte i
abbrev pub FormSoFar : {N : Type 0} → Option (List Segment) → List (ReadValue N) → Option (List Segment) → ℕ → Type 0
FormSoFar first bytes f i =
    (form_with f (drop i bytes) ≡ form_with first bytes)
    × (IfSome f (λ ss. width ss ≡ 8 * (i + 1)) × (IfSome f IsForm × HaveByteForms (drop i bytes)))

pub form_turn : {N : Type 0} (first f g : Option (List Segment)) (bytes : List (ReadValue N)) (r : ReadValue N) (i : ℕ)
    → drop i bytes ≡ r ∷ drop (i + 1) bytes → i < 7 → FormSoFar first bytes f i → IfSome g IsForm
    → g ≡ option_and_then (λ ss. option_and_then (λ ts. concat_of ss ts) r.form) f → FormSoFar first bytes g (i + 1)
form_turn first f g bytes r i e l h k is =
    let forms : HaveByteForms (r ∷ drop (i + 1) bytes) = subst HaveByteForms e h.1.1.1 in (
      form_step f r (drop (i + 1) bytes) g (few_bits f r.form i l h.1.0 forms.0) is ∙ sym (ap (form_with f) e) ∙ h.0,
      (
        subst (λ z. IfSome z (λ ss. width ss ≡ 8 * (i + 1 + 1))) (sym is) (wide_after f r.form i h.1.0 forms.0),
        (k, forms.1),
      ),
    )

-- the item of a loop, and those after it
pub drop_at : {X : Type 0} (xs : List X) (i : ℕ) (x : X) → x ≡ get_or xs i x → i < length xs
    → drop i xs ≡ x ∷ drop (i + 1) xs
drop_at xs i x e h =
    drop-cons xs i x h ∙ ap (λ y. y ∷ drop (suc i) xs) (sym e) ∙ ap (λ k. x ∷ drop k xs) (sym (add-one i))

pub form_ends : {N : Type 0} (first f : Option (List Segment)) (bytes : List (ReadValue N)) (i : ℕ) → length bytes ≤ i
    → FormSoFar first bytes f i → f ≡ form_with first bytes
form_ends first f bytes i l h =
    form_end first f bytes h.1.1.0 (sym (ap (form_with f) (drop_all i bytes l)) ∙ h.0)
