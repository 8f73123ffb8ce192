-- Bytes that keep what they say of a value.
use Rattle.std.proofs.Common.{◌≡◌, ℕ, ◌+◌, ◌<◌, Bool, true, false, ◌||◌, nat_eq, cond, [], ◌∷◌, inl, inr, ⊎_elim}
use Rattle.std.proofs.Common.{Option, Some, None, refl, sym, ◌∙◌, ap, subst}
use Rattle.std.proofs.lemmas.Bool.{eq-eqb}
use Rattle.ep_int.specs.declared.types.Order.{Order}
use Rattle.ep_int.specs.declared.types.Scalar.{Scalar}
use Rattle.ep_int.specs.declared.types.Scalar.TheVariants.{Int, Pointer}
use Rattle.ep_int.specs.Memory.{Byte, undefined, number, fragment, Memory, Value as Datum, int, null, pointer}
use Rattle.ep_int.specs.Memory.{is_number, bytes_of_value, contains, forgotten, killed}
use Rattle.ep_cells.specs.Meaning.{HasBytes}
use Rattle.ep_cells.specs.Memories.{IsKilled}

-- y keeps of x whether it is that number, undefined, no number, or part j of the pointer v
pub record KeepsByte (v : Option Datum) (j : ℕ) (x y : Byte) : Type 0 where
  pub numbers : (k : ℕ) → x ≡ number k → y ≡ number k
  pub nothing : x ≡ undefined → y ≡ undefined
  pub others : is_number x ≡ false → is_number y ≡ false
  pub parts : (c o : ℕ) → v ≡ Some (pointer c o) → x ≡ fragment c o j → y ≡ fragment c o j

pub byte_same : (v : Option Datum) (j : ℕ) (x y : Byte) → y ≡ x → KeepsByte v j x y
byte_same v j x y e = record {
  numbers = λ k h. e ∙ h;
  nothing = λ h. e ∙ h;
  others = λ h. ap is_number e ∙ h;
  parts = λ c o i h. e ∙ h;
}

pub record KeepsBytes (v : Option Datum) (m n : Memory) (b q size : ℕ) : Type 0 where
  pub at : (j : ℕ) → j < size → KeepsByte v j (m b (q + j)) (n b (q + j))

value_byte : (o : Order) (w : Scalar) (v : Datum) (j : ℕ) (x y : Byte) → KeepsByte (Some v) j x y
    → x ≡ bytes_of_value o w v j → y ≡ bytes_of_value o w v j
value_byte o (Int t) (int z) j x y k h = k.numbers _ h
value_byte o (Int t) null j x y k h = k.nothing h
value_byte o (Int t) (pointer c q) j x y k h = k.nothing h
value_byte o Pointer (int z) j x y k h = k.nothing h
value_byte o Pointer null j x y k h = k.numbers 0 h
value_byte o Pointer (pointer c q) j x y k h = k.parts c q refl h

pub bytes_kept : (o : Order) (m n : Memory) (size : ℕ) (w : Scalar) (maybe : Bool) (b q : ℕ) (v : Option Datum)
    → KeepsBytes v m n b q size → HasBytes o m size w maybe b q v → HasBytes o n size w maybe b q v
bytes_kept o m n size w maybe b q None k h = λ j l. (k.at j l).nothing (h j l)
bytes_kept o m n size w false b q (Some v) k h = λ j l. value_byte o w v j (m b (q + j)) (n b (q + j)) (k.at j l) (h
    j l)
bytes_kept o m n size (Int t) true b q (Some v) k h = λ j l.
    ⊎_elim (λ e. inl (value_byte o (Int t) v j (m b (q + j)) (n b (q + j)) (k.at j l) e)) (λ e. inr ((k.at j
    l).others e)) (h j l)
bytes_kept o m n size Pointer true b q (Some v) k h =
    ⊎_elim
    (λ e. inl (λ j l. value_byte o Pointer v j (m b (q + j)) (n b (q + j)) (k.at j l) (e j l)))
    (λ e. inr (λ j l. (k.at j l).nothing (e j l)))
    h

-- ---- pointers into a block

pub record NotInto (block : ℕ) (v : Option Datum) : Type 0 where
  pub other : (c o : ℕ) → v ≡ Some (pointer c o) → nat_eq c block ≡ false

contains_one : (c b : ℕ) (t : Bool) → nat_eq c b ≡ t → contains c (b ∷ []) ≡ t
contains_one c b true e = ap (λ z. z || false) e
contains_one c b false e = ap (λ z. z || false) e

part_forgotten : (b c o k j : ℕ) (v : Option Datum) (t : Bool) → contains c (b ∷ []) ≡ t → NotInto b v
    → KeepsByte v j (fragment c o k) (cond t undefined (fragment c o k))
part_forgotten b c o k j v true e i = record {
  numbers = λ z h. absurd (cc);
  nothing = λ h. refl;
  others = λ h. refl;
  parts = λ a p g h.
      let same : c ≡ a = let f : fragment c o k ≡ fragment a p j = h in cc in
      let far : nat_eq c b ≡ false = subst (λ z. nat_eq z b ≡ false) (sym same) (i.other a p g) in
      absurd (let w : true ≡ false = sym e ∙ contains_one c b false far in cc);
}
part_forgotten b c o k j v false e i = byte_same v j (fragment c o k) (fragment c o k) refl

byte_forgotten : (b j : ℕ) (v : Option Datum) (x : Byte) → NotInto b v → KeepsByte v j x (forgotten (b ∷ []) x)
byte_forgotten b j v undefined i = byte_same v j undefined undefined refl
byte_forgotten b j v (number k) i = byte_same v j (number k) (number k) refl
byte_forgotten b j v (fragment c o k) i = part_forgotten b c o k j v (contains c (b ∷ [])) refl i

killed_elsewhere : (b c q : ℕ) (m : Memory) → nat_eq c b ≡ false → killed (b ∷ []) m c q ≡ forgotten (b ∷ []) (m c q)
killed_elsewhere b c q m e = ap (λ t. cond t undefined (forgotten (b ∷ []) (m c q))) (contains_one c b false e)

pub killed_there : (b c q : ℕ) (m : Memory) → nat_eq c b ≡ true → killed (b ∷ []) m c q ≡ undefined
killed_there b c q m e = ap (λ t. cond t undefined (forgotten (b ∷ []) (m c q))) (contains_one c b true e)

-- a byte of another block
pub byte_killed : (b c q j : ℕ) (v : Option Datum) (m n : Memory) (dead : Bool) → IsKilled b dead m n
    → nat_eq c b ≡ false → NotInto b v → KeepsByte v j (m c q) (n c q)
byte_killed b c q j v m n true k e i =
    subst (KeepsByte v j (m c q)) (sym (k.gone refl c q ∙ killed_elsewhere b c q m e)) (byte_forgotten b j v (m c q)
    i)
byte_killed b c q j v m n false k e i = byte_same v j (m c q) (n c q) (k.alive refl c q)

pub bytes_killed : (b c q size : ℕ) (v : Option Datum) (m n : Memory) (dead : Bool) → IsKilled b dead m n
    → nat_eq c b ≡ false → NotInto b v → KeepsBytes v m n c q size
bytes_killed b c q size v m n dead k e i = record { at = λ j l. byte_killed b c (q + j) j v m n dead k e i }

-- a part of a pointer into the block
pub part_killed : (b c q o k : ℕ) (m n : Memory) → IsKilled b true m n → nat_eq c b ≡ false
    → m c q ≡ fragment b o k → n c q ≡ undefined
part_killed b c q o k m n i e h =
    i.gone refl c q ∙ killed_elsewhere b c q m e ∙ ap (forgotten (b ∷ [])) h
    ∙ ap (λ t. cond t undefined (fragment b o k)) (contains_one b b true (eq-eqb b b refl))
