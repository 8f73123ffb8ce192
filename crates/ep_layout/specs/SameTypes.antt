-- Equal types.
use Rattle.std.specs.Prelude.{◌≡◌, ℕ, Bool, true, false, not, ◌&&◌, ◌==◌, ◌++◌, refl}
use Rattle.std.proofs.lemmas.Bool.{and_parts}
use Rattle.std.specs.Cmp.{IsPartialEquivalence, IsEquivalence, equiv, both_ways}
use Rattle.std.specs.Hash as fed
use Rattle.std.specs.Hash.{HashWrites}
use Rattle.std.proofs.Common.{◌∙◌, sym, ap, subst, true≢false}
use borrow.Author.Tests.{eqb-true, eq-eqb}
use Rattle.ep_int.specs.declared.types.IntType.{IntType}
use Rattle.ep_int.specs.declared.types.IntType.TheVariants.{I8, U8, I16, U16, I32, U32, I64, U64}
use Rattle.ep_int.specs.Types.{bytes_of, is_signed}
use Rattle.ep_layout.specs.declared.types.Ty.{Ty}
use Rattle.ep_layout.specs.declared.types.Ty.TheVariants.{Void, Int, Ptr, Array, Aggregate}

abbrev pub is_same_sign : Bool → Bool → Bool
is_same_sign true b = b
is_same_sign false b = not b

-- integer types of one size and sign are one type
abbrev pub is_same_type : Ty → Ty → Bool
is_same_type Void Void = true
is_same_type (Int i) (Int j) = bytes_of i == bytes_of j && is_same_sign (is_signed i) (is_signed j)
is_same_type (Ptr d) (Ptr e) = d == e
is_same_type (Array d m) (Array e n) = d == e && m == n
is_same_type (Aggregate a) (Aggregate b) = a == b
is_same_type s t = false

-- what of a type goes into its hash
abbrev pub hashed : Ty → HashWrites
hashed Void = fed.u8 0
hashed (Int i) = fed.u8 1 ++ fed.u32 (bytes_of i)
hashed (Ptr e) = fed.u8 2 ++ fed.u32 e
hashed (Array e n) = fed.u8 3 ++ fed.u32 e ++ fed.u32 n
hashed (Aggregate a) = fed.u8 4 ++ fed.u32 a

same_int : (i j : IntType) → bytes_of i == bytes_of j && is_same_sign (is_signed i) (is_signed j) ≡ true → i ≡ j
same_int I8 I8 h = refl
same_int U8 U8 h = refl
same_int I16 I16 h = refl
same_int U16 U16 h = refl
same_int I32 I32 h = refl
same_int U32 U32 h = refl
same_int I64 I64 h = refl
same_int U64 U64 h = refl
same_int i j h = absurd (true≢false (sym h))

int_itself : (i : IntType) → bytes_of i == bytes_of i && is_same_sign (is_signed i) (is_signed i) ≡ true
int_itself I8 = refl
int_itself U8 = refl
int_itself I16 = refl
int_itself U16 = refl
int_itself I32 = refl
int_itself U32 = refl
int_itself I64 = refl
int_itself U64 = refl

join : (a b : Bool) → a ≡ true → b ≡ true → a && b ≡ true
join true b p q = q
join false b p q = absurd (true≢false (sym p))

same_array : (d m e n : ℕ) → (d == e) ≡ true → (m == n) ≡ true → Array d m ≡ Array e n
same_array d m e n p q = ap (λ (k : ℕ). Array k m) (eqb-true d e p) ∙ ap (Array e) (eqb-true m n q)

pub same_types : (s t : Ty) → is_same_type s t ≡ true → s ≡ t
same_types Void Void h = refl
same_types (Int i) (Int j) h = ap Int (same_int i j h)
same_types (Ptr d) (Ptr e) h = ap Ptr (eqb-true d e h)
same_types (Array d m) (Array e n) h = let p = and_parts (d == e) (m == n) h in same_array d m e n p.0 p.1
same_types (Aggregate a) (Aggregate b) h = ap Aggregate (eqb-true a b h)
same_types s t h = absurd (true≢false (sym h))

pub same_itself : (t : Ty) → is_same_type t t ≡ true
same_itself Void = refl
same_itself (Int i) = int_itself i
same_itself (Ptr e) = eq-eqb e e refl
same_itself (Array e n) = join (e == e) (n == n) (eq-eqb e e refl) (eq-eqb n n refl)
same_itself (Aggregate a) = eq-eqb a a refl

pub same_along : (s t : Ty) → s ≡ t → is_same_type s t ≡ true
same_along s t e = subst (λ (u : Ty). is_same_type s u ≡ true) e (same_itself s)

same_back : (s t : Ty) → is_same_type s t ≡ true → is_same_type t s ≡ true
same_back s t h = same_along t s (sym (same_types s t h))

pub partial : IsPartialEquivalence is_same_type
partial = record {
  symm = λ s t. both_ways (is_same_type s t) (is_same_type t s) (same_back s t) (same_back t s);
  trans = λ r s t p q. same_along r t (same_types r s p ∙ same_types s t q);
}

pub equivalence : IsEquivalence is_same_type
equivalence = equiv partial same_itself

pub alike : (s t : Ty) → is_same_type s t ≡ true → hashed s ≡ hashed t
alike s t h = ap hashed (same_types s t h)
