-- What is written so far, and what is left.
use Rattle.std.proofs.Common.{◌≡◌, ℕ, zero, suc, ◌+◌, ◌-◌, ◌/◌, ◌%◌, ◌<◌, ◌≤◌, List, [], ◌∷◌, ◌++◌, length, drop, get_or}
use Rattle.std.proofs.Common.{arith, refl, ap, sym, ◌∙◌, append_assoc, append-nil}
use Rattle.std.specs.Prelude.{ℤ, pos, Bool, true, false, Result, IfOk, Some}
use Rattle.std.specs.Int.{from_bool}
use Rattle.std.specs.List.{flat_map}
use Rattle.std.proofs.lemmas.Result.{IfOk-equal}
use Rattle.ep_int.proofs.Basics.{drop-here}
use Rattle.ep_bitslice.specs.declared.cell.CellName.{CellName}
use Rattle.ep_bitslice.specs.declared.segment.Segment.{Segment}
use Rattle.ep_bitslice.specs.declared.segment.Segment.TheVariants.{Bits, Fixed}
use Rattle.ep_bitslice.specs.Bits.{side_number, type_number}
use Rattle.ep_pointers.specs.Value.{Pointers, Target}
use Rattle.ep_cells.specs.declared.cell.Cell.{Cell}
use Rattle.ep_cells.specs.declared.cell.Value.TheVariants.{Num, Ptr}
use Rattle.ep_cells.specs.Cells.{scalar_number}
use Rattle.ep_cert_cells.specs.Numbers.{Numbers}
use Rattle.ep_cert_cells.specs.Bytes.{low, signed, flag, number_bytes, target_bytes, pointer_bytes, value_bytes}
use Rattle.ep_cert_cells.specs.Bytes.{name_bytes, segment_bytes, form_bytes, cell_bytes}

-- ---- bytes of a number

pub none_yet : (out : List ℕ) (n r : ℕ) → out ++ low (n - 0) r ≡ out ++ low n r
none_yet out n r = let m : n - 0 ≡ n = omega arith in ap (λ (j : ℕ). out ++ low j r) m

pub byte_more : (old out new : List ℕ) (n k i r : ℕ) → i < n → new ≡ out ++ (r % 256) ∷ []
    → out ++ low (n - i) r ≡ old ++ low n k → new ++ low (n - (i + 1)) (r / 256) ≡ old ++ low n k
unfolding low
byte_more old out new n k i r l e h =
    let m : n - i ≡ suc (n - (i + 1)) = omega arith in
    ap (λ (z : List ℕ). z ++ low (n - (i + 1)) (r / 256)) e
    ∙ append_assoc out ((r % 256) ∷ []) (low (n - (i + 1)) (r / 256))
    ∙ ap (λ (j : ℕ). out ++ low j r) (sym m) ∙ h

pub bytes_done : (all out : List ℕ) (n i r : ℕ) → n ≤ i → out ++ low (n - i) r ≡ all → out ≡ all
unfolding low
bytes_done all out n i r l h =
    let m : n - i ≡ 0 = omega arith in
    sym (append-nil out) ∙ ap (λ (j : ℕ). out ++ low j r) (sym m) ∙ h

-- ---- one thing behind the other

-- ys are the items that are left, and zs those behind the first
pub item_more : {X : Type 0} (f : X → List ℕ) (all out new : List ℕ) (ys zs : List X) (x : X) → ys ≡ x ∷ zs
    → new ≡ out ++ f x → out ++ flat_map f ys ≡ all → new ++ flat_map f zs ≡ all
item_more {X = X} f all out new ys zs x e p h =
    ap (λ (z : List ℕ). z ++ flat_map f zs) p ∙ append_assoc out (f x) (flat_map f zs)
    ∙ ap (λ (us : List X). out ++ flat_map f us) (sym e) ∙ h

pub items_done : {X : Type 0} (f : X → List ℕ) (all out : List ℕ) (ys : List X) → ys ≡ []
    → out ++ flat_map f ys ≡ all → out ≡ all
items_done {X = X} f all out ys e h =
    sym (append-nil out) ∙ ap (λ (us : List X). out ++ flat_map f us) (sym e) ∙ h

pub none_left : {X : Type 0} (i : ℕ) (xs : List X) → length xs ≤ i → drop i xs ≡ []
none_left zero [] l = refl
none_left zero (x ∷ xs) l = absurd (omega arith)
none_left (suc i) [] l = refl
none_left (suc i) (x ∷ xs) l = none_left i xs (omega arith)

pub one_more : {X : Type 0} (f : X → List ℕ) (all out new : List ℕ) (xs : List X) (i : ℕ) (x d : X) → i < length xs
    → x ≡ get_or xs i d → new ≡ out ++ f x → out ++ flat_map f (drop i xs) ≡ all
    → new ++ flat_map f (drop (i + 1) xs) ≡ all
one_more f all out new xs i x d l e p h =
    item_more f all out new (drop i xs) (drop (i + 1) xs) x (drop-here i xs x d l e) p h

pub all_done : {X : Type 0} (f : X → List ℕ) (all out : List ℕ) (xs : List X) (i : ℕ) → length xs ≤ i
    → out ++ flat_map f (drop i xs) ≡ all → out ≡ all
all_done f all out xs i l h = items_done f all out (drop i xs) (none_left i xs l) h

-- ---- one part behind the other

-- x is written behind what stands there, and then the rest
pub behind : {T E : Type 0} (r : Result T E) (out mid new x a b : List ℕ) → mid ≡ out ++ x → x ≡ a
    → IfOk r (λ _. new ≡ mid ++ b) → IfOk r (λ _. new ≡ out ++ (a ++ b))
behind r out mid new x a b e q h =
    IfOk-equal r new (mid ++ b) (out ++ (a ++ b)) h
    (ap (λ (z : List ℕ). z ++ b) (e ∙ ap (λ (z : List ℕ). out ++ z) q) ∙ append_assoc out a b)

-- the last part
pub at_last : {T E : Type 0} (r : Result T E) (out new x a : List ℕ) → IfOk r (λ _. new ≡ out ++ x) → x ≡ a
    → IfOk r (λ _. new ≡ out ++ a)
at_last r out new x a h q = IfOk-equal r new (out ++ x) (out ++ a) h (ap (λ (z : List ℕ). out ++ z) q)

pub byte_is : (a b : ℕ) → a ≡ b → ◌≡◌ {A = List ℕ} (a ∷ []) (b ∷ [])
byte_is a b e = ap (λ (n : ℕ). n ∷ []) e

pub flag_is : (n : ℕ) (b k : Bool) → n ≡ from_bool b → b ≡ k → n ≡ flag k
flag_is n true k e q = e ∙ ap flag q
flag_is n false k e q = e ∙ ap flag q

pub low_is : (w a b : ℕ) → a ≡ b → low w a ≡ low w b
low_is w a b e = ap (low w) e

pub number_written : {T E : Type 0} (r : Result T E) (n : Numbers) (lo hi re mo : ℤ) (o p q s z : List ℕ)
    → lo ≡ n.left.lo → hi ≡ n.left.hi → re ≡ n.right.remainder → mo ≡ pos n.right.modulus
    → p ≡ o ++ signed lo → q ≡ p ++ signed hi → s ≡ q ++ signed re → IfOk r (λ _. z ≡ s ++ signed mo)
    → IfOk r (λ _. z ≡ o ++ number_bytes n)
unfolding number_bytes
number_written r n lo hi re mo o p q s z a b c d e f g h =
    behind r o p z (signed lo) (signed n.left.lo) _ e (ap (λ (x : ℤ). signed x) a)
    (behind r p q z (signed hi) (signed n.left.hi) _ f (ap (λ (x : ℤ). signed x) b)
    (behind r q s z (signed re) (signed n.right.remainder) _ g (ap (λ (x : ℤ). signed x) c)
    (at_last r s z (signed mo) (signed (pos n.right.modulus)) h (ap (λ (x : ℤ). signed x) d))))

pub target_written : {T E : Type 0} (r : Result T E) (t : Target Numbers) (b : ℕ) (o p z : List ℕ) → b ≡ t.0
    → p ≡ o ++ low 4 b → IfOk r (λ _. z ≡ p ++ number_bytes t.1) → IfOk r (λ _. z ≡ o ++ target_bytes t)
unfolding target_bytes
target_written r t b o p z e f h = behind r o p z (low 4 b) (low 4 t.0) (number_bytes t.1) f (low_is 4 b t.0 e) h

pub pointer_written : {T E : Type 0} (r : Result T E) (v : Pointers Numbers) (ts : List (Target Numbers)) (n k : ℕ)
    (o p q z : List ℕ) → n ≡ flag v.null → ts ≡ v.targets → k ≡ length ts → p ≡ o ++ n ∷ [] → q ≡ p ++ low 4 k
    → IfOk r (λ _. z ≡ q ++ flat_map target_bytes ts) → IfOk r (λ _. z ≡ o ++ pointer_bytes v)
unfolding pointer_bytes
pointer_written r v ts n k o p q z a b c e f h =
    behind r o p z (n ∷ []) (flag v.null ∷ []) _ e (byte_is n (flag v.null) a)
    (behind r p q z (low 4 k) (low 4 (length v.targets)) _ f (low_is 4 k (length v.targets) (c ∙ ap length b))
    (at_last r q z (flat_map target_bytes ts) (flat_map target_bytes v.targets) h (ap (flat_map target_bytes) b)))

pub name_written : {T E : Type 0} (r : Result T E) (n : CellName) (s b f t : ℕ) (o p q u z : List ℕ)
    → s ≡ side_number n.side → b ≡ n.block → f ≡ n.offset → t ≡ type_number n.t → p ≡ o ++ s ∷ []
    → q ≡ p ++ low 4 b → u ≡ q ++ low 4 f → IfOk r (λ _. z ≡ u ++ t ∷ []) → IfOk r (λ _. z ≡ o ++ name_bytes n)
unfolding name_bytes
name_written r n s b f t o p q u z es eb ef et g h k l =
    behind r o p z (s ∷ []) (side_number n.side ∷ []) _ g (byte_is s (side_number n.side) es)
    (behind r p q z (low 4 b) (low 4 n.block) _ h (low_is 4 b n.block eb)
    (behind r q u z (low 4 f) (low 4 n.offset) _ k (low_is 4 f n.offset ef)
    (at_last r u z (t ∷ []) (type_number n.t ∷ []) l (byte_is t (type_number n.t) et))))

pub bits_written : {T E : Type 0} (r : Result T E) (n : CellName) (from to : ℕ) (o p q s z : List ℕ)
    → p ≡ o ++ 0 ∷ [] → q ≡ p ++ name_bytes n → s ≡ q ++ from ∷ [] → IfOk r (λ _. z ≡ s ++ to ∷ [])
    → IfOk r (λ _. z ≡ o ++ segment_bytes (Bits n from to))
bits_written r n from to o p q s z e f g h =
    behind r o p z (0 ∷ []) (0 ∷ []) _ e refl
    (behind r p q z (name_bytes n) (name_bytes n) _ f refl (behind r q s z (from ∷ []) (from ∷ []) (to ∷ []) g refl h))

pub fixed_written : {T E : Type 0} (r : Result T E) (v w x : ℕ) (o p q z : List ℕ) → x ≡ v → p ≡ o ++ 1 ∷ []
    → q ≡ p ++ low 8 x → IfOk r (λ _. z ≡ q ++ w ∷ []) → IfOk r (λ _. z ≡ o ++ segment_bytes (Fixed v w))
fixed_written r v w x o p q z a e f h =
    behind r o p z (1 ∷ []) (1 ∷ []) _ e refl (behind r p q z (low 8 x) (low 8 v) (w ∷ []) f (low_is 8 x v a) h)

pub form_written : {T E : Type 0} (r : Result T E) (ss fs gs : List Segment) (n : ℕ) (o p z : List ℕ) → fs ≡ ss
    → gs ≡ fs → n ≡ length fs → p ≡ o ++ n ∷ [] → IfOk r (λ _. z ≡ p ++ flat_map segment_bytes gs)
    → IfOk r (λ _. z ≡ o ++ form_bytes (Some ss))
form_written r ss fs gs n o p z a b c e h =
    behind r o p z (n ∷ []) (length ss ∷ []) (flat_map segment_bytes ss) e (byte_is n (length ss) (c ∙ ap length a))
    (at_last r p z (flat_map segment_bytes gs) (flat_map segment_bytes ss) h (ap (flat_map segment_bytes) (b ∙ a)))

pub num_written : {T E : Type 0} (r : Result T E) (n : Numbers) (o p z : List ℕ) → p ≡ o ++ 1 ∷ []
    → IfOk r (λ _. z ≡ p ++ number_bytes n) → IfOk r (λ _. z ≡ o ++ value_bytes (Some (Num n)))
num_written r n o p z e h = behind r o p z (1 ∷ []) (1 ∷ []) (number_bytes n) e refl h

pub ptr_written : {T E : Type 0} (r : Result T E) (v : Pointers Numbers) (o p z : List ℕ) → p ≡ o ++ 2 ∷ []
    → IfOk r (λ _. z ≡ p ++ pointer_bytes v) → IfOk r (λ _. z ≡ o ++ value_bytes (Some (Ptr v)))
ptr_written r v o p z e h = behind r o p z (2 ∷ []) (2 ∷ []) (pointer_bytes v) e refl h

pub cell_written : {T E : Type 0} (r : Result T E) (c : Cell Numbers) (s b f w m : ℕ) (o p q t u v x z : List ℕ)
    → s ≡ side_number c.side → b ≡ c.block → f ≡ c.offset → w ≡ scalar_number c.what → m ≡ flag c.maybe
    → p ≡ o ++ s ∷ [] → q ≡ p ++ low 4 b → t ≡ q ++ low 4 f → u ≡ t ++ w ∷ [] → v ≡ u ++ m ∷ []
    → x ≡ v ++ value_bytes c.value → IfOk r (λ _. z ≡ x ++ form_bytes c.form) → IfOk r (λ _. z ≡ o ++ cell_bytes c)
unfolding cell_bytes
cell_written r c s b f w m o p q t u v x z es eb ef ew em hp hq ht hu hv hx h =
    behind r o p z (s ∷ []) (side_number c.side ∷ []) _ hp (byte_is s (side_number c.side) es)
    (behind r p q z (low 4 b) (low 4 c.block) _ hq (low_is 4 b c.block eb)
    (behind r q t z (low 4 f) (low 4 c.offset) _ ht (low_is 4 f c.offset ef)
    (behind r t u z (w ∷ []) (scalar_number c.what ∷ []) _ hu (byte_is w (scalar_number c.what) ew)
    (behind r u v z (m ∷ []) (flag c.maybe ∷ []) _ hv (byte_is m (flag c.maybe) em)
    (behind r v x z (value_bytes c.value) (value_bytes c.value) (form_bytes c.form) hx refl h)))))
