-- Lemmas that several crates cite.
use Rattle.std.proofs.Common.{◌≡◌, Some, ℕ, true, nat_eq, arith, Option, None, IfSome, Bool, false, ◌||◌, refl, List}
use Rattle.std.proofs.Common.{bytes_eq, ◌++◌, ◌∙◌, ◌&&◌, not, [], pos, ◌∷◌, ap, ◌<◌, ◌-◌, ◌+◌, Result, Ok, suc}
use Rattle.std.proofs.Common.{length, get_or, drop, sym, ◌≤◌, ◌^◌, FitsSigned, to_z, of_z, zero, true≢false, take}
use Rattle.std.proofs.lemmas.Slice.Eq.{bytes_eq-Decides}
use Rattle.std.proofs.lemmas.Bool.{or_left, or_right, and_from, both_ways}
use Rattle.std.proofs.lemmas.List.Folds.{list_any-append}
use Rattle.ep_int.specs.Memory.{contains, Byte, undefined, number, fragment, forgotten}
use Rattle.std.specs.Prelude.{ℤ, is_some, slice_get}
use Rattle.ep_int.specs.declared.types.IntType.{IntType}
use Rattle.ep_int.specs.declared.types.IntType.TheVariants.{I8, U8, I16, U16, I32, U32, I64, U64}
use Rattle.ep_int.specs.Arith.{is_in_range}
use Rattle.ep_int.specs.declared.types.Model.{Model}
use Rattle.ep_int.specs.declared.types.Model.TheVariants.{Ilp32, Lp64}
use Rattle.ep_int.specs.declared.types.Scalar.{Scalar}
use Rattle.ep_int.specs.declared.types.Scalar.TheVariants.{Int, Pointer}
use Rattle.ep_int.specs.Types.{size_of}
use Rattle.std.specs.Option.{unwrap_or}
use Rattle.ep_int.specs.declared.types.Undef.{Undef}
use Rattle.std.proofs.Math.Seq.{drop-cons}
use Rattle.std.proofs.Props.{props}
use Rattle.std.proofs.Math.Nat.{pow-le-pow_right}
use mir.Syntax.{w128}
use Rattle.std.proofs.lemmas.Int.{to_z-of_z}

pub some-injective : {A : Type 0} {x y : A} → Some x ≡ Some y → x ≡ y
some-injective e = cc

pub nat_eq-self : (n : ℕ) → nat_eq n n ≡ true
nat_eq-self n = search arith

pub if_some-map : {X : Type 0} (P Q : X → Type 0) (o : Option X) → ((x : X) → P x → Q x) → IfSome o P → IfSome o Q
if_some-map P Q None go h = tt
if_some-map P Q (Some x) go h = go x h

pub or-true : (a : Bool) → (a || true) ≡ true
or-true true = refl
or-true false = refl

pub true_and_false : (b : Bool) → b ≡ true → b ≡ false → ⊥
true_and_false b e f = absurd cc

pub bytes_eq-equal : (x y : List ℕ) → bytes_eq x y ≡ true → x ≡ y
bytes_eq-equal x y h = (bytes_eq-Decides x y).0 h

pub contains-left : (g : ℕ) (xs ys : List ℕ) → contains g xs ≡ true → contains g (xs ++ ys) ≡ true
contains-left g xs ys h = list_any-append (nat_eq g) xs ys ∙ or_left (contains g xs) (contains g ys) h

pub contains-right : (g : ℕ) (xs ys : List ℕ) → contains g ys ≡ true → contains g (xs ++ ys) ≡ true
contains-right g xs ys h = list_any-append (nat_eq g) xs ys ∙ or_right (contains g xs) (contains g ys) h

pub or-assoc : (a b c : Bool) → ((a || b) || c) ≡ (a || (b || c))
or-assoc true b c = refl
or-assoc false b c = refl

pub and_false-right : (s t : Bool) → (s && t) ≡ false → s ≡ true → t ≡ false
and_false-right true t h e = h
and_false-right false t h e = absurd (cc)

pub or_false-right : (a b : Bool) → (a || b) ≡ false → b ≡ false
or_false-right true b e = absurd cc
or_false-right false b e = e

pub and-false : (b : Bool) → (b && false) ≡ false
and-false true = refl
and-false false = refl

pub and-true : (a : Bool) → (a && true) ≡ a
and-true true = refl
and-true false = refl

pub or-false : (x : Bool) → (x || false) ≡ x
or-false true = refl
or-false false = refl

pub not_not : (b : Bool) → not (not b) ≡ b
not_not true = refl
not_not false = refl

pub forgotten-none : (x : Byte) → forgotten [] x ≡ x
forgotten-none undefined = refl
forgotten-none (number v) = refl
forgotten-none (fragment b o k) = refl

pub zero_in_range : (t : IntType) → is_in_range t (pos 0) ≡ true
zero_in_range I8 = refl
zero_in_range U8 = refl
zero_in_range I16 = refl
zero_in_range U16 = refl
zero_in_range I32 = refl
zero_in_range U32 = refl
zero_in_range I64 = refl
zero_in_range U64 = refl

pub append-nil : (xs : List ℕ) → xs ++ [] ≡ xs
append-nil [] = refl
append-nil (x ∷ xs) = ap (λ ys. x ∷ ys) (append-nil xs)

pub size_positive : (d : Model) (what : Scalar) → 0 < size_of d what
size_positive d (Int I8) = omega arith
size_positive d (Int U8) = omega arith
size_positive d (Int I16) = omega arith
size_positive d (Int U16) = omega arith
size_positive d (Int I32) = omega arith
size_positive d (Int U32) = omega arith
size_positive d (Int I64) = omega arith
size_positive d (Int U64) = omega arith
size_positive Ilp32 Pointer = omega arith
size_positive Lp64 Pointer = omega arith

pub is_some-value : (f : Option (ℤ × ℤ)) → is_some f ≡ true → f ≡ Some (unwrap_or f (pos 0, pos 0))
is_some-value None e = cc
is_some-value (Some v) e = refl

pub minus-zero : (n : ℕ) → n - 0 ≡ n
minus-zero n = omega arith

pub plus-zero : (m : ℕ) → m ≡ m + 0
plus-zero m = omega arith

pub ok-injective : (v w : ℤ) → ◌≡◌ {A = Result ℤ Undef} (Ok v) (Ok w) → v ≡ w
ok-injective v w e = cc

pub drop-here : {X : Type 0} (i : ℕ) (xs : List X) (x d : X) → i < length xs → x ≡ get_or xs i d
    → drop i xs ≡ x ∷ drop (i + 1) xs
drop-here i xs x d h e =
    let n : suc i ≡ i + 1 = omega arith in
    drop-cons xs i d h ∙ ap (λ y. y ∷ drop (suc i) xs) (sym e) ∙ ap (λ j. x ∷ drop j xs) n

pub implied : (a b : Bool) → (not a || b) ≡ true → a ≡ true → b ≡ true
implied true b h e = h
implied false b h e = absurd cc

pub and_false-not_both : (a b : Bool) → (a && b) ≡ false → a ≡ true → b ≡ true → ⊥
and_false-not_both a b h e f = both_ways (a && b) h (and_from a b e f)

pub is_true-prop : (b : Bool) → IsProp (b ≡ true)
is_true-prop b = Prim.hlevel props

-- of two numbers the first, of three the first two, and so on
pub le-plus : (a b : ℕ) → a ≤ a + b
le-plus a b = omega arith

pub power-le : (i j : ℕ) → i ≤ j → 2 ^ i ≤ 2 ^ j
power-le i j h = pow-le-pow_right (omega arith) h

pub of_z-injective : (a b : ℤ) → FitsSigned w128 a → FitsSigned w128 b → of_z w128 a ≡ of_z w128 b → a ≡ b
of_z-injective a b f g e = sym (to_z-of_z w128 a f) ∙ ap (to_z w128) e ∙ to_z-of_z w128 b g

pub append-assoc : {A : Type 0} (a b c : List A) → (a ++ b) ++ c ≡ a ++ (b ++ c)
append-assoc [] b c = refl
append-assoc (x ∷ a) b c = ap (λ m. x ∷ m) (append-assoc a b c)

pub slice_get-append : {A : Type 0} (xs ys : List A) (k : ℕ) (x : A) → slice_get xs k ≡ Some x → slice_get (xs ++ ys) k ≡ Some x
slice_get-append [] ys k x h = absurd cc
slice_get-append (y ∷ xs) ys zero x h = h
slice_get-append (y ∷ xs) ys (suc k) x h = slice_get-append xs ys k x h

pub length-by_rows : {X : Type 0} (xs ys : List X) → ((a : ℕ) (x : X) → slice_get xs a ≡ Some x → (y : X) × (slice_get ys a ≡ Some y))
    → length xs ≤ length ys
length-by_rows [] ys f = omega arith
length-by_rows (x ∷ xs) [] f = let p = f 0 x refl in absurd (let bad = p.1 in cc)
length-by_rows (x ∷ xs) (y ∷ ys) f = omega (arith, length-by_rows xs ys (λ a z e. f (suc a) z e))

-- what stands at a place of a list
pub slice_get-here : {X : Type 0} (xs : List X) (k : ℕ) (x : X) → k < length xs → x ≡ get_or xs k x → slice_get xs k ≡ Some x
slice_get-here [] k x h e = absurd (omega arith)
slice_get-here (y ∷ xs) zero x h e = ap (λ z. Some z) (sym e)
slice_get-here (y ∷ xs) (suc k) x h e = slice_get-here xs k x (omega arith) e

pub is_some-some : {X : Type 0} (o : Option X) → is_some o ≡ true → (x : X) × (o ≡ Some x)
is_some-some None h = absurd (true≢false (sym h))
is_some-some (Some x) h = (x, refl)

pub drop-at : {X : Type 0} (i : ℕ) (xs : List X) (x : X) → i < length xs → x ≡ get_or xs i x → drop i xs ≡ x ∷ drop (i + 1) xs
drop-at {X = X} i xs x lt e =
    let more : suc i ≡ i + 1 = omega arith in
    drop-cons xs i x lt ∙ ap (λ (y : X). y ∷ drop (suc i) xs) (sym e) ∙ ap (λ (n : ℕ). x ∷ drop n xs) more

pub take-all : {A : Type 0} (i : ℕ) (xs : List A) → length xs ≤ i → take i xs ≡ xs
take-all zero [] l = refl
take-all zero (x ∷ xs) l = absurd (omega arith)
take-all (suc i) [] l = refl
take-all {A = A} (suc i) (x ∷ xs) l = ap (λ (ys : List A). x ∷ ys) (take-all i xs (omega arith))
