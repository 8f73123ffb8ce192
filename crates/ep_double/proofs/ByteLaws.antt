-- What the code follows of the bytes of numbers is what the definition says of them.
use Rattle.std.proofs.Common.{◌≡◌, ℕ, zero, suc, ◌+◌, ◌^◌, ◌≤◌, ℤ, pos, Bool, true, false, ◌&&◌, ◌||◌}
use Rattle.std.proofs.Common.{nat_eq, if◌then◌else◌, List, [], ◌∷◌, ◌++◌, length, take, drop, map, Option, Some, None, Result}
use Rattle.std.proofs.Common.{Ok, Err, refl, sym, ap, ◌∙◌, arith}
use Rattle.std.proofs.lemmas.List.{append_assoc, length-append, length-drop}
use Rattle.std.proofs.Math.Nat.{zero-div}
use Rattle.std.proofs.lemmas.List.{take-append-le, take-map, drop-map, map-append, length-map}
use Rattle.ep_int.specs.declared.types.IntType.{IntType}
use Rattle.ep_int.specs.declared.types.IntType.TheVariants.{I8, U8, I16, U16, I32, U32, I64, U64}
use Rattle.ep_int.specs.declared.types.BinOp.{BinOp}
use Rattle.ep_int.specs.declared.types.BinOp.TheVariants.{Add, Sub, Mul, Div, Rem, And, Or, Xor, Shl, Shr}
use Rattle.ep_int.specs.Types.{bytes_of}
use Rattle.ep_movers.specs.declared.Stop.{Stop}
use Rattle.ep_movers.specs.declared.Stop.TheVariants.{Foreign}
use Rattle.ep_movers.specs.Symbols.{Symbol, unset, fixed_byte, input_byte, goes_on, number_byte, fixed_bytes, zeros}
use Rattle.ep_movers.specs.Symbols.{are_whole, is_zero, merged_byte, merged, masked, moved_up, moved_down, resized, bytes_moved}
use Rattle.ep_movers.specs.Symbols.{is_mask, masked_by, operated}
use Rattle.ep_double.specs.declared.mover.bytes.ByteState.{ByteState}
use Rattle.ep_double.specs.declared.mover.bytes.ByteState.TheVariants.{Unset, Zero, Other}
use Rattle.ep_double.specs.ByteStates.{bits, are_whole_bytes, state_of_byte, fixed_states, zero_states, merged_state, merged_states}
use Rattle.ep_double.specs.ByteStates.{masked_states, moved_states, masked_states_by, operated_states}

-- ---- answers

abbrev pub on : {A B : Type 0} → (A → B) → Result A Stop → Result B Stop
on f (Ok x) = Ok (f x)
on f (Err e) = Err e

module _ {A B C D : Type 0} where
  pub on_then : (f : A → B) (g : C → D) (r : Result A Stop) (h : A → Result C Stop) (k : B → Result D Stop)
      → ((x : A) → on g (h x) ≡ k (f x)) → on g (goes_on r h) ≡ goes_on (on f r) k
  on_then f g (Ok x) h k e = e x
  on_then f g (Err s) h k e = refl

module _ {A C D : Type 0} where
  pub on_after : (g : C → D) (r : Result A Stop) (h : A → Result C Stop) (k : A → Result D Stop)
      → ((x : A) → on g (h x) ≡ k x) → on g (goes_on r h) ≡ goes_on r k
  on_after g (Ok x) h k e = e x
  on_after g (Err s) h k e = refl

module _ {A B C : Type 0} where
  pub then_then : (r : Result A Stop) (f : A → Result B Stop) (g : B → Result C Stop)
      → goes_on (goes_on r f) g ≡ goes_on r (λ x. goes_on (f x) g)
  then_then (Ok x) f g = refl
  then_then (Err s) f g = refl

module _ {A B : Type 0} where
  pub then_same : (r : Result A Stop) (f g : A → Result B Stop) → ((x : A) → f x ≡ g x) → goes_on r f ≡ goes_on r g
  then_same (Ok x) f g e = e x
  then_same (Err s) f g e = refl

-- ---- one byte

abbrev pub state_of : Symbol → ByteState
state_of unset = Unset
state_of (fixed_byte v) = state_of_byte v
state_of (input_byte i k) = Other

abbrev pub states_of : List Symbol → List ByteState
states_of xs = map state_of xs

by_zero : (b : Bool) (x : Symbol)
    → on state_of (if b then Ok x else Err Foreign)
    ≡ (if b then Ok (state_of x) else Err Foreign)
by_zero true x = refl
by_zero false x = refl

unset_merged : (b : Bool) → (if b then Ok Unset else Err Foreign) ≡ merged_state Unset (if b then Zero else Other)
unset_merged true = refl
unset_merged false = refl

other_merged : (b : Bool) → (if b then Ok Other else Err Foreign) ≡ merged_state Other (if b then Zero else Other)
other_merged true = refl
other_merged false = refl

-- a byte that isn't 0 and another
merged_other : (x y : Symbol) → state_of x ≡ Other
    → on state_of (if is_zero y then Ok x else Err Foreign) ≡ merged_state Other (state_of y)
merged_other x unset e = refl
merged_other x (fixed_byte w) e =
    by_zero (nat_eq w 0) x
    ∙ (ap (λ s. if nat_eq w 0 then Ok s else Err Foreign) e ∙ other_merged (nat_eq w 0))
merged_other x (input_byte i k) e = refl

pub merged_byte_is : (x y : Symbol) → on state_of (merged_byte x y) ≡ merged_state (state_of x) (state_of y)
merged_byte_is unset unset = refl
merged_byte_is unset (fixed_byte w) = by_zero (nat_eq w 0) unset ∙ unset_merged (nat_eq w 0)
merged_byte_is unset (input_byte i k) = refl
merged_byte_is (fixed_byte v) y = split (nat_eq v 0) refl
  where
    split : (b : Bool) → nat_eq v 0 ≡ b
        → on state_of (if b then Ok y else if is_zero y then Ok (fixed_byte v) else Err Foreign)
        ≡ merged_state (if b then Zero else Other) (state_of y)
    split true e = refl
    split false e = merged_other (fixed_byte v) y (ap (λ b. if b then Zero else Other) e)
merged_byte_is (input_byte i k) y = merged_other (input_byte i k) y refl

-- ---- numbers

pub fixed_are : (v : ℤ) (k n : ℕ) → states_of (fixed_bytes v k n) ≡ fixed_states (bits v) k n
fixed_are v k zero = refl
fixed_are v k (suc n) = ap (λ xs. state_of_byte (number_byte v k) ∷ xs) (fixed_are v (suc k) n)

pub whole_are : (v : ℤ) (k n : ℕ) → are_whole v k n ≡ are_whole_bytes (bits v) k n
whole_are v k zero = refl
whole_are v k (suc n) =
    ap (λ b. (nat_eq (number_byte v k) 0 || nat_eq (number_byte v k) 255) && b) (whole_are v (suc k) n)

zero_byte : (k : ℕ) → number_byte (pos 0) k ≡ 0
zero_byte k = rw (zero-div (256 ^ k)) refl

zeros_from : (k n : ℕ) → states_of (fixed_bytes (pos 0) k n) ≡ zero_states n
zeros_from k zero = refl
zeros_from k (suc n) =
    ap (λ v. state_of_byte v ∷ states_of (fixed_bytes (pos 0) (suc k) n)) (zero_byte k)
    ∙ ap (λ xs. Zero ∷ xs) (zeros_from (suc k) n)

zeros_are : (n : ℕ) → states_of (zeros n) ≡ zero_states n
zeros_are n = zeros_from 0 n

pub merged_are : (xs ys : List Symbol) → on states_of (merged xs ys) ≡ merged_states (states_of xs) (states_of ys)
merged_are [] ys = refl
merged_are (x ∷ xs) [] = refl
merged_are (x ∷ xs) (y ∷ ys) =
    on_then state_of states_of (merged_byte x y) (λ z. goes_on (merged xs ys) (λ zs. Ok (z ∷ zs)))
    (λ z. goes_on (merged_states (states_of xs) (states_of ys)) (λ zs. Ok (z ∷ zs)))
    (λ z. on_then states_of states_of (merged xs ys) (λ zs. Ok (z ∷ zs)) (λ zs. Ok (state_of z ∷ zs)) (λ zs. refl)
    ∙ ap (λ r. goes_on r (λ zs. Ok (state_of z ∷ zs))) (merged_are xs ys))
    ∙ ap (λ r. goes_on r (λ z. goes_on (merged_states (states_of xs) (states_of ys)) (λ zs. Ok (z ∷ zs))))
    (merged_byte_is x y)

pub masked_are : (v : ℤ) (k : ℕ) (xs : List Symbol) → states_of (masked v k xs) ≡ masked_states (bits v) k (states_of xs)
masked_are v k [] = refl
masked_are v k (x ∷ xs) =
    ap (λ y. y ∷ states_of (masked v (suc k) xs)) (kept (nat_eq (number_byte v k) 255))
    ∙ ap (λ ys. (if nat_eq (number_byte v k) 255 then state_of x else Zero) ∷ ys) (masked_are v (suc k) xs)
  where
    kept : (b : Bool) → state_of (if b then x else fixed_byte 0) ≡ (if b then state_of x else Zero)
    kept true = refl
    kept false = refl

-- ---- bytes moved

pub zero_length : (n : ℕ) → length (zero_states n) ≡ n
zero_length zero = refl
zero_length (suc n) = ap suc (zero_length n)

-- more zeros at the end than are looked at
filled : (w : ℕ) (xs : List ByteState) (a b : ℕ) → w ≤ length xs + a → w ≤ length xs + b
    → take w (xs ++ zero_states a) ≡ take w (xs ++ zero_states b)
filled zero xs a b h d = refl
filled (suc w) [] zero b h d = absurd (omega (arith, h))
filled (suc w) [] (suc a) zero h d = absurd (omega (arith, d))
filled (suc w) [] (suc a) (suc b) h d = ap (λ ys. Zero ∷ ys) (filled w [] a b (omega (arith, h)) (omega (arith, d)))
filled (suc w) (x ∷ xs) a b h d = ap (λ ys. x ∷ ys) (filled w xs a b (omega (arith, h)) (omega (arith, d)))

module _ (xs : List Symbol) where
  same_length : length (states_of xs) ≡ length xs
  same_length = length-map xs state_of

  pub up_is : (n : ℕ) → states_of (moved_up n xs) ≡ moved_states n 0 (length (states_of xs)) (states_of xs)
  up_is n =
      let ys = states_of xs in
      sym (take-map state_of (length xs) (zeros n ++ xs))
      ∙ (ap (take (length xs)) (map-append state_of (zeros n) xs ∙ ap (λ zs. zs ++ ys) (zeros_are n))
      ∙ (ap (λ w. take w (zero_states n ++ ys)) (sym same_length)
      ∙ (sym (take-append-le (length ys) (zero_states n ++ ys) (zero_states (length ys)) within)
      ∙ ap (take (length ys)) (append_assoc (zero_states n) ys (zero_states (length ys))))))
    where
      within : length (states_of xs) ≤ length (zero_states n ++ states_of xs)
      within = let e = length-append (zero_states n) (states_of xs) in omega (arith, e)

  pub down_is : (n : ℕ) → states_of (moved_down n xs) ≡ moved_states 0 n (length (states_of xs)) (states_of xs)
  down_is n =
      let ys = states_of xs in
      sym (take-map state_of (length xs) (drop n xs ++ zeros n))
      ∙ (ap (take (length xs))
      (map-append state_of (drop n xs) (zeros n)
      ∙ (ap (λ zs. zs ++ states_of (zeros n)) (sym (drop-map state_of n xs)) ∙ ap (λ zs. drop n ys ++ zs) (zeros_are n)))
      ∙ (ap (λ w. take w (drop n ys ++ zero_states n)) (sym same_length)
      ∙ filled (length ys) (drop n ys) n (length ys) enough (omega arith)))
    where
      enough : length (states_of xs) ≤ length (drop n (states_of xs)) + n
      enough = let e = length-drop n (states_of xs) in omega (arith, e)

  pub resized_is : (t : IntType) → states_of (resized t xs) ≡ moved_states 0 0 (bytes_of t) (states_of xs)
  resized_is t =
      let ys = states_of xs in
      sym (take-map state_of (bytes_of t) (xs ++ zeros 8))
      ∙ (ap (take (bytes_of t)) (map-append state_of xs (zeros 8))
      ∙ filled (bytes_of t) ys 8 (bytes_of t) (most t) (omega arith))
    where
      most : (k : IntType) → bytes_of k ≤ length (states_of xs) + 8
      most I8 = omega arith
      most U8 = omega arith
      most I16 = omega arith
      most U16 = omega arith
      most I32 = omega arith
      most U32 = omega arith
      most I64 = omega arith
      most U64 = omega arith

-- ---- operators

module _ (xs : List Symbol) where
  masked_by_is : (u : Option ℤ) → on states_of (masked_by u xs) ≡ masked_states_by u (states_of xs)
  masked_by_is None = refl
  masked_by_is (Some v) = ap Ok (masked_are v 0 xs)

pub operated_are : (op : BinOp) (u v : Option ℤ) (xs ys : List Symbol)
    → on states_of (operated op u v xs ys) ≡ operated_states op u v (states_of xs) (states_of ys)
operated_are Add u v xs ys = merged_are xs ys
operated_are Or u v xs ys = merged_are xs ys
operated_are Xor u v xs ys = merged_are xs ys
operated_are And u v xs ys = by_mask (is_mask v)
  where
    by_mask : (b : Bool) → on states_of (if b then masked_by v xs else masked_by u ys)
        ≡ (if b then masked_states_by v (states_of xs) else masked_states_by u (states_of ys))
    by_mask true = masked_by_is xs v
    by_mask false = masked_by_is ys u
operated_are Shl u None xs ys = refl
operated_are Shl u (Some v) xs ys = ap Ok (up_is xs (bytes_moved v))
operated_are Shr u None xs ys = refl
operated_are Shr u (Some v) xs ys = ap Ok (down_is xs (bytes_moved v))
operated_are Sub u v xs ys = refl
operated_are Mul u v xs ys = refl
operated_are Div u v xs ys = refl
operated_are Rem u v xs ys = refl
