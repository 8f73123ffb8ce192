-- Bytes of a cell as cells: they are cells, and say what stands at the cell.
use Rattle.std.proofs.Common.{◌≡◌, ℕ, zero, suc, ◌+◌, ◌^◌, ◌*◌, ◌%◌, ◌<◌, ◌≤◌, ℤ, pos, Bool, true, false, ◌||◌, ◌&&◌}
use Rattle.std.proofs.Common.{nat_eq, nat_lt, cond, IsSomeAnd, IfSome, List, [], ◌∷◌, ◌⊎◌, inl, inr, ⊎_elim, Option}
use Rattle.std.proofs.Common.{Some, None, refl, sym, ◌∙◌, ap, subst, arith}
use Rattle.std.specs.Option.{option_map}
use Rattle.std.specs.List.{list_any}
use Rattle.std.proofs.lemmas.Bool.{or_left, or_right, and_parts, ltb-true, false_from_ne_true}
use Rattle.ep_int.specs.declared.types.IntType.{IntType}
use Rattle.ep_int.specs.declared.types.IntType.TheVariants.{U8}
use Rattle.ep_int.specs.declared.types.Order.{Order}
use Rattle.ep_int.specs.declared.types.Order.TheVariants.{Little, Big, SwappedWords}
use Rattle.ep_int.specs.declared.types.Model.{Model}
use Rattle.ep_int.specs.declared.types.Scalar.{Scalar}
use Rattle.ep_int.specs.declared.types.Scalar.TheVariants.{Int, Pointer}
use Rattle.ep_int.specs.Types.{bytes_of, bits_of, size_of, InRange, residue, representation}
use Rattle.ep_int.specs.Encoding.{encoded}
use Rattle.ep_int.specs.Memory.{Byte, undefined, number, Memory, Value as Datum, int, null, pointer, is_number}
use Rattle.ep_int.proofs.Encodings.{byte_below}
use Rattle.ep_int.proofs.Places.{width_of, place_below}
use Rattle.ep_int.proofs.Wrapping.{represented_in_range}
use Rattle.ep_bitslice.specs.declared.cell.Side.{Side}
use Rattle.ep_bitslice.specs.declared.cell.Side.TheVariants.{Left, Right, Shared}
use Rattle.ep_bitslice.specs.declared.segment.Segment.{Segment}
use Rattle.ep_bitslice.specs.Bits.{side_number}
use Rattle.ep_bitslice.specs.Segments.{number as form_number}
use Rattle.ep_domain.specs.Domain.{Ops, Holds, Lawful}
use Rattle.ep_pointers.specs.Value.{Target, offset_at}
use Rattle.ep_cells.specs.declared.cell.Cell.{Cell}
use Rattle.ep_cells.specs.declared.cell.Value.{Value}
use Rattle.ep_cells.specs.declared.cell.Value.TheVariants.{Num, Ptr}
use Rattle.ep_cells.specs.Cells.{on_left, on_right, share_memory, is_same_side, touches, meets, IsIn, first, later}
use Rattle.ep_cells.specs.States.{IsOfSort, HasRisingBlocks, IsFormOf, HasForm, EachPair, AreApart, IsCell}
use Rattle.ep_cells.specs.Meaning.{Memories, Allows, HasBytes, Says, numbers_of, name_of, HasNumber}
use Rattle.ep_cells.proofs.Bytes.{number_of_cell}
use Rattle.ep_cells.proofs.Lists.{each_from}
use Rattle.ep_cells.proofs.Places.{at, before_from, in_block}
use Rattle.ep_reads.specs.Bytes.{byte_at, byte_form, byte_value, has_targets, order_on}
use Rattle.ep_reads.specs.Split.{byte_with, byte_of_pointer, byte_of, bytes_of_cell}
use Rattle.ep_reads.specs.Laws.{memory_on}
use Rattle.ep_reads.proofs.Numbers.{small_number, byte_held}
use Rattle.ep_reads.proofs.Bytes.{cell_of, byte_form_fits, bytes_say}

-- ---- what a byte cell is

pub record IsByteCell {N : Type 0} (s : Side) (b q : ℕ) (y : Cell N) : Type 0 where
  pub value : Option (Value N)
  pub maybe : Bool
  pub form : Option (List Segment)
  pub is : y ≡ cell_of s b q (Int U8) value maybe form
  pub sort : IsOfSort (Int U8) value
  pub undefined : value ≡ None → maybe ≡ true
  pub rising : HasRisingBlocks value

with_is : {N : Type 0} (s : Side) (x : Cell N) (p : ℕ) (o : Option N) (maybe : Bool) (f : Option (List Segment))
    → IsByteCell s x.block (x.offset + p) (byte_with s x p o maybe f)
with_is s x p None maybe f = record {
  value = None;
  maybe = true;
  form = None;
  is = refl;
  sort = tt;
  undefined = λ e. refl;
  rising = tt;
}
with_is s x p (Some n) maybe f = record {
  value = Some (Num n);
  maybe = maybe;
  form = f;
  is = refl;
  sort = tt;
  undefined = λ e. absurd (cc);
  rising = tt;
}

pub byte_is : {N : Type 0} (D : Ops N) (o : Order) (s : Side) (f : Option (List Segment)) (x : Cell N) (w : Scalar) (u :
    Option (Value N)) (p : ℕ) → IsByteCell s x.block (x.offset + p) (byte_of D o s f x w u p)
byte_is D o s f x (Int t) (Some (Num n)) p =
    with_is s x p (byte_value D t (byte_at o t p) n) x.maybe (option_map (byte_form (byte_at o t p)) f)
byte_is D o s f x Pointer (Some (Ptr v)) p = with_is s x p (byte_of_pointer D v) (x.maybe || has_targets v) None
byte_is D o s f x (Int t) (Some (Ptr v)) p = with_is s x p None true None
byte_is D o s f x Pointer (Some (Num n)) p = with_is s x p None true None
byte_is D o s f x (Int t) None p = with_is s x p None true None
byte_is D o s f x Pointer None p = with_is s x p None true None

pub byte_cell : {N : Type 0} (d : Model) (s : Side) (b q : ℕ) (y : Cell N) → IsByteCell s b q y → q + 1 ≤ 2 ^ 32
    → IsCell d y
byte_cell d s b q y i l =
    subst (IsCell d) (sym i.is)
    (let r : IsCell d (cell_of s b q (Int U8) i.value i.maybe i.form) = record {
      fits = record { sort = i.sort; undefined = i.undefined; last = l };
      rising = i.rising;
    } in r)

-- ---- one byte in memory

-- What a byte keeps: it is the same number, or stays none. One of a pointer's that isn't a number is undefined.
pub record IsLoose (w : Scalar) (x y : Byte) : Type 0 where
  pub numbers : (k : ℕ) → x ≡ number k → y ≡ number k
  pub nothing : x ≡ undefined → y ≡ undefined
  pub others : is_number x ≡ false → is_number y ≡ false
  pub parts : w ≡ Pointer → is_number x ≡ false → y ≡ undefined

pub integer_loose : (t : IntType) (x y : Byte) → y ≡ x → IsLoose (Int t) x y
integer_loose t x y e = record {
  numbers = λ k h. e ∙ h;
  nothing = λ h. e ∙ h;
  others = λ h. ap is_number e ∙ h;
  parts = λ h k. absurd (cc);
}

-- what a cell of one byte says of a memory
pub record ByteSays {N : Type 0} (D : Ops N) (d : Model) (o : Order) (n : Memory) (y : Cell N) : Type 0 where
  pub datum : Option Datum
  pub allowed : Allows D y.what y.value y.maybe datum
  pub stands : HasBytes o n (size_of d y.what) y.what y.maybe y.block y.offset datum

undefined_says : {N : Type 0} (D : Ops N) (d : Model) (o : Order) (n : Memory) (s : Side) (x : Cell N) (p : ℕ) (maybe :
    Bool) (f : Option (List Segment)) → n x.block (x.offset + p) ≡ undefined
    → ByteSays D d o n (byte_with s x p None maybe f)
undefined_says D d o n s x p maybe f h = record {
  datum = None;
  allowed = refl;
  stands = λ j l. subst (λ i. n x.block i ≡ undefined) (omega (arith, l)) h;
}

nothing_says : {N : Type 0} (D : Ops N) (d : Model) (o : Order) (n : Memory) (s : Side) (x : Cell N) (p : ℕ) (v : Option
    N) (maybe : Bool) (f : Option (List Segment)) → maybe ≡ true → n x.block (x.offset + p) ≡ undefined
    → ByteSays D d o n (byte_with s x p v maybe f)
nothing_says D d o n s x p None maybe f e h = undefined_says D d o n s x p maybe f h
nothing_says D d o n s x p (Some a) maybe f e h = record {
  datum = None;
  allowed = e;
  stands = λ j l. subst (λ i. n x.block i ≡ undefined) (omega (arith, l)) h;
}

pub encoded_byte : (o : Order) (v : ℕ) → v < 256 → encoded o U8 (pos v) 0 ≡ v
encoded_byte Little v h = omega (arith, h)
encoded_byte Big v h = omega (arith, h)
encoded_byte SwappedWords v h = omega (arith, h)

-- a number stands there, or, where it may, none
pub record NumberOrNone (maybe : Bool) (v : ℕ) (y : Byte) : Type 0 where
  pub sure : maybe ≡ false → y ≡ number v
  pub unsure : (y ≡ number v) ⊎ (is_number y ≡ false)

one_byte : (o : Order) (n : Memory) (maybe : Bool) (b q v : ℕ) → v < 256 → NumberOrNone maybe v (n b q)
    → HasBytes o n 1 (Int U8) maybe b q (Some (int (pos v)))
one_byte o n false b q v l h = λ p e.
    let zero_is : 0 ≡ p = omega (arith, e) in
    subst (λ i. n b (q + i) ≡ number (encoded o U8 (pos v) i)) zero_is
    (subst (λ i. n b i ≡ number (encoded o U8 (pos v) 0)) (omega arith) (h.sure refl ∙ ap number (sym (encoded_byte o v
    l))))
one_byte o n true b q v l h = λ p e.
    let zero_is : 0 ≡ p = omega (arith, e) in
    subst (λ i. (n b (q + i) ≡ number (encoded o U8 (pos v) i)) ⊎ (is_number (n b (q + i)) ≡ false)) zero_is
    (subst (λ i. (n b i ≡ number (encoded o U8 (pos v) 0)) ⊎ (is_number (n b i) ≡ false)) (omega arith)
    (⊎_elim (λ k. inl (k ∙ ap number (sym (encoded_byte o v l)))) (λ k. inr k) h.unsure))

pub byte_in_range : (v : ℕ) → v < 256 → InRange U8 (pos v)
byte_in_range v h = represented_in_range U8 v h

value_says : {N : Type 0} (D : Ops N) (d : Model) (o : Order) (n : Memory) (s : Side) (x : Cell N) (p : ℕ) (a : N)
    (maybe : Bool) (f : Option (List Segment)) (v : ℕ) → v < 256 → Holds D a (pos v)
    → NumberOrNone maybe v (n x.block (x.offset + p)) → ByteSays D d o n (byte_with s x p (Some a) maybe f)
value_says D d o n s x p a maybe f v l h y = record {
  datum = Some (int (pos v));
  allowed = (byte_in_range v l, h);
  stands = one_byte o n maybe x.block (x.offset + p) v l y;
}

-- ---- bytes of what stands at the cell

none_byte : (o : Order) (m n : Memory) (size : ℕ) (w : Scalar) (maybe : Bool) (b q j : ℕ) (v : Option Datum)
    → v ≡ None → HasBytes o m size w maybe b q v → j < size → IsLoose w (m b (q + j)) (n b (q + j))
    → n b (q + j) ≡ undefined
none_byte o m n size w maybe b q j None e h l k = k.nothing (h j l)
none_byte o m n size w maybe b q j (Some v) e h l k = absurd (cc)

integer_byte : (o : Order) (m n : Memory) (size : ℕ) (t : IntType) (maybe : Bool) (b q j : ℕ) (z : ℤ)
    → HasBytes o m size (Int t) maybe b q (Some (int z)) → j < size → IsLoose (Int t) (m b (q + j)) (n b (q + j))
    → NumberOrNone maybe (encoded o t z j) (n b (q + j))
integer_byte o m n size t false b q j z h l k = record {
  sure = λ e. k.numbers (encoded o t z j) (h j l);
  unsure = inl (k.numbers (encoded o t z j) (h j l));
}
integer_byte o m n size t true b q j z h l k = record {
  sure = λ e. absurd (cc);
  unsure = ⊎_elim (λ i. inl (k.numbers (encoded o t z j) i)) (λ i. inr (k.others i)) (h j l);
}

null_byte : (o : Order) (m n : Memory) (size : ℕ) (maybe more : Bool) (b q j : ℕ)
    → HasBytes o m size Pointer maybe b q (Some null) → j < size → IsLoose Pointer (m b (q + j)) (n b (q + j))
    → NumberOrNone (maybe || more) 0 (n b (q + j))
null_byte o m n size false more b q j h l k = record {
  sure = λ e. k.numbers 0 (h j l);
  unsure = inl (k.numbers 0 (h j l));
}
null_byte o m n size true more b q j h l k = record {
  sure = λ e. absurd (let i : true ≡ false = e in cc);
  unsure = ⊎_elim (λ i. inl (k.numbers 0 (i j l))) (λ i. inr (k.others (ap is_number (i j l)))) h;
}

part_byte : (o : Order) (m n : Memory) (size : ℕ) (maybe : Bool) (b q j c r : ℕ)
    → HasBytes o m size Pointer maybe b q (Some (pointer c r)) → j < size → IsLoose Pointer (m b (q + j)) (n b (q + j))
    → n b (q + j) ≡ undefined
part_byte o m n size false b q j c r h l k = k.parts refl (ap is_number (h j l))
part_byte o m n size true b q j c r h l k =
    ⊎_elim (λ i. k.parts refl (ap is_number (i j l))) (λ i. k.nothing (i j l)) h

some_target : {N : Type 0} (ts : List (Target N)) (c : ℕ) (P : N → Type 0) → IsSomeAnd (offset_at ts c) P
    → list_any (λ t. true) ts ≡ true
some_target [] c P h = absurd h
some_target (t ∷ ts) c P h = refl

pub byte_says : {N : Type 0} (D : Ops N) → Lawful D → (d : Model) (o : Order) (m n : Memory) (s : Side) (f : Option
    (List
    Segment)) (x : Cell N) (w : Scalar) (u : Option (Value N)) (v : Option Datum) (j : ℕ) → Allows D w u x.maybe v
    → HasBytes o m (size_of d w) w x.maybe x.block x.offset v → j < size_of d w
    → IsLoose w (m x.block (x.offset + j)) (n x.block (x.offset + j)) → ByteSays D d o n (byte_of D o s f x w u j)
byte_says D law d o m n s f x (Int t) None v j a h l k =
    undefined_says D d o n s x j true None (none_byte o m n (size_of d (Int t)) (Int t) x.maybe x.block x.offset j v
    a h l
    k)
byte_says D law d o m n s f x Pointer None v j a h l k =
    undefined_says D d o n s x j true None (none_byte o m n (size_of d Pointer) Pointer x.maybe x.block x.offset j v
    a h l
    k)
byte_says D law d o m n s f x (Int t) (Some (Num c)) None j a h l k =
    nothing_says D d o n s x j (byte_value D t (byte_at o t j) c) x.maybe (option_map (byte_form (byte_at o t j)) f) a
    (k.nothing (h j l))
byte_says D law d o m n s f x (Int t) (Some (Num c)) (Some (int z)) j a h l k =
    let i : byte_at o t j < bytes_of t = place_below o (bytes_of t) j (width_of t) l in
    let g = byte_held D law t (byte_at o t j) c z i a.0 a.1 in
    subst (λ r. ByteSays D d o n (byte_with s x j r x.maybe (option_map (byte_form (byte_at o t j)) f))) (sym g.is)
    (value_says D d o n s x j g.one x.maybe (option_map (byte_form (byte_at o t j)) f) (encoded o t z j)
    (byte_below (byte_at o t j) (representation t z)) g.holds
    (integer_byte o m n (size_of d (Int t)) t x.maybe x.block x.offset j z h l k))
byte_says D law d o m n s f x (Int t) (Some (Num c)) (Some null) j a h l k = absurd a
byte_says D law d o m n s f x (Int t) (Some (Num c)) (Some (pointer b r)) j a h l k = absurd a
byte_says D law d o m n s f x (Int t) (Some (Ptr p)) None j a h l k =
    undefined_says D d o n s x j true None (k.nothing (h j l))
byte_says D law d o m n s f x (Int t) (Some (Ptr p)) (Some (int z)) j a h l k = absurd a
byte_says D law d o m n s f x (Int t) (Some (Ptr p)) (Some null) j a h l k = absurd a
byte_says D law d o m n s f x (Int t) (Some (Ptr p)) (Some (pointer b r)) j a h l k = absurd a
byte_says D law d o m n s f x Pointer (Some (Num c)) None j a h l k =
    undefined_says D d o n s x j true None (k.nothing (h j l))
byte_says D law d o m n s f x Pointer (Some (Num c)) (Some (int z)) j a h l k = absurd a
byte_says D law d o m n s f x Pointer (Some (Num c)) (Some null) j a h l k = absurd a
byte_says D law d o m n s f x Pointer (Some (Num c)) (Some (pointer b r)) j a h l k = absurd a
byte_says D law d o m n s f x Pointer (Some (Ptr p)) None j a h l k =
    nothing_says D d o n s x j (byte_of_pointer D p) (x.maybe || has_targets p) None (or_left x.maybe (has_targets p) a)
    (k.nothing (h j l))
byte_says D law d o m n s f x Pointer (Some (Ptr p)) (Some (int z)) j a h l k = absurd a
byte_says D law d o m n s f x Pointer (Some (Ptr p)) (Some null) j a h l k =
    let g : byte_of_pointer D p ≡ Some (D.single (pos 0)) = ap (λ t. cond t (Some (D.single (pos 0))) None) a in
    subst (λ r. ByteSays D d o n (byte_with s x j r (x.maybe || has_targets p) None)) (sym g)
    (value_says D d o n s x j (D.single (pos 0)) (x.maybe || has_targets p) None 0 (omega arith)
    (law.single_holds (pos 0) (small_number 0 (omega arith)))
    (null_byte o m n (size_of d Pointer) x.maybe (has_targets p) x.block x.offset j h l k))
byte_says D law d o m n s f x Pointer (Some (Ptr p)) (Some (pointer c r)) j a h l k =
    nothing_says D d o n s x j (byte_of_pointer D p) (x.maybe || has_targets p) None
    (or_right x.maybe (has_targets p) (some_target p.targets c (λ i. Holds D i (pos r)) a))
    (part_byte o m n (size_of d Pointer) x.maybe x.block x.offset j c r h l k)

-- ---- its form

byte_form_by : {N : Type 0} (cs : List (Cell N)) (s : Side) (x z : Cell N) (p : ℕ) (t : IntType) (k : ℕ) (o : Option N)
    (f : Option (List Segment)) → z.what ≡ Int t → z.maybe ≡ x.maybe → k < bytes_of t → IfSome f (IsFormOf cs z)
    → HasForm cs (byte_with s x p o x.maybe (option_map (byte_form k) f))
byte_form_by cs s x z p t k None f w e l h = tt
byte_form_by cs s x z p t k (Some a) None w e l h = tt
byte_form_by cs s x z p t k (Some a) (Some ss) w e l h =
    let r = byte_form_fits cs z t k (Some ss) w l h in
    record { sure = sym e ∙ r.sure; wide = r.wide; form = r.form; mentioned = r.mentioned }

pointer_form : {N : Type 0} (cs : List (Cell N)) (s : Side) (x : Cell N) (j : ℕ) (maybe : Bool) (r : Option N)
    → HasForm cs (byte_with s x j r maybe None)
pointer_form cs s x j maybe None = tt
pointer_form cs s x j maybe (Some a) = tt

-- f is the form of a cell like x
pub byte_has_form : {N : Type 0} (D : Ops N) (d : Model) (o : Order) (cs : List (Cell N)) (s : Side) (f : Option (List
    Segment)) (x z : Cell N) (w : Scalar) (u : Option (Value N)) (j : ℕ) → z.what ≡ w → z.maybe ≡ x.maybe
    → j < size_of d w → IfSome f (IsFormOf cs z) → HasForm cs (byte_of D o s f x w u j)
byte_has_form D d o cs s f x z (Int t) (Some (Num n)) j w e l h =
    byte_form_by cs s x z j t (byte_at o t j) (byte_value D t (byte_at o t j) n) f w e (place_below o (bytes_of t) j
    (width_of t) l) h
byte_has_form D d o cs s f x z Pointer (Some (Ptr v)) j w e l h = pointer_form cs s x j (x.maybe || has_targets v)
    (byte_of_pointer D v)
byte_has_form D d o cs s f x z (Int t) (Some (Ptr v)) j w e l h = tt
byte_has_form D d o cs s f x z Pointer (Some (Num n)) j w e l h = tt
byte_has_form D d o cs s f x z (Int t) None j w e l h = tt
byte_has_form D d o cs s f x z Pointer None j w e l h = tt

-- ---- its number

-- a byte cell on one side says what one memory has
stands_by : (P : Order → Memory → Type 0) (os : Order × Order) (n : Memories) (s : Side)
    → is_same_side s Shared ≡ false → P (order_on s os) (memory_on s n)
    → (on_left s ≡ true → P os.0 n.left) × (on_right s ≡ true → P os.1 n.right)
stands_by P os n Left e h = ((λ i. h), (λ i. absurd (let c : false ≡ true = i in cc)))
stands_by P os n Right e h = ((λ i. absurd (let c : false ≡ true = i in cc)), (λ i. h))
stands_by P os n Shared e h = absurd (let c : true ≡ false = e in cc)

pub says_on_side : {N : Type 0} (D : Ops N) (os : Order × Order) (d : Model) (n : Memories) (s : Side) (y : Cell N)
    → is_same_side s Shared ≡ false → y.side ≡ s → ByteSays D d (order_on s os) (memory_on s n) y → Says D os d n y
says_on_side D os d n s y e i h =
    let r = stands_by (λ o m. HasBytes o m (size_of d y.what) y.what y.maybe y.block y.offset h.datum) os n s e
    h.stands in
    record {
      datum = h.datum;
      allowed = h.allowed;
      stands = record {
        left = λ k. r.0 (sym (ap on_left i) ∙ k);
        right = λ k. r.1 (sym (ap on_right i) ∙ k);
      };
    }

-- the number of a sure byte
byte_number_by : {N : Type 0} (os : Order × Order) (d : Model) (n : Memories) (s : Side) (x : Cell N) (j : ℕ) (a : N)
    (f : Option (List Segment)) (v k : ℕ) → is_same_side s Shared ≡ false → v < 256
    → memory_on s n x.block (x.offset + j) ≡ number v → k ≡ v
    → HasNumber os n (byte_with s x j (Some a) false f) (Int U8) k
byte_number_by os d n s x j a f v k e l h i =
    let y = byte_with s x j (Some a) false f in
    let one = one_byte (order_on s os) (memory_on s n) false x.block (x.offset + j) v l (record {
      sure = λ q. h;
      unsure = inl h;
    }) in
    let r = stands_by (λ o m. HasBytes o m 1 (Int U8) false x.block (x.offset + j) (Some (int (pos v)))) os n s e one in
    let is : numbers_of os n (name_of y U8) ≡ pos v = number_of_cell os d n y U8 (pos v) refl refl (byte_in_range v l)
    (record { left = r.0; right = r.1 }) in
    ap (residue 256) is ∙ ap (λ w. w % 256) (sym i)

number_by : {N : Type 0} (os : Order × Order) (d : Model) (m n : Memories) (o : Order) (cs : List (Cell N)) (s : Side)
    (x z : Cell N) (j : ℕ) (t : IntType) (i : ℤ) (maybe : Bool) (r : Option N) (f : Option (List Segment))
    → is_same_side s Shared ≡ false → z.what ≡ Int t → z.maybe ≡ maybe → byte_at o t j < bytes_of t
    → (maybe ≡ false → memory_on s n x.block (x.offset + j) ≡ number (encoded o t i j)) → IfSome f (IsFormOf cs z)
    → IfSome f (λ ss. residue (2 ^ bits_of t) i ≡ form_number (numbers_of os m) ss % 2 ^ bits_of t)
    → IfSome (byte_with s x j r maybe (option_map (byte_form (byte_at o t j)) f)).form
    (λ ss. HasNumber os n (byte_with s x j r maybe (option_map (byte_form (byte_at o t j)) f)) (byte_with s x j r maybe
    (option_map (byte_form (byte_at o t j)) f)).what (form_number (numbers_of os m) ss))
number_by os d m n o cs s x z j t i maybe None f e w g l h k q = tt
number_by os d m n o cs s x z j t i maybe (Some a) None e w g l h k q = tt
number_by os d m n o cs s x z j t i true (Some a) (Some ss) e w g l h k q =
    absurd (let c : true ≡ false = sym g ∙ k.sure in cc)
number_by os d m n o cs s x z j t i false (Some a) (Some ss) e w g l h k q =
    byte_number_by os d n s x j a (Some (byte_form (byte_at o t j) ss)) (encoded o t i j) (form_number (numbers_of os m)
    (byte_form (byte_at o t j) ss)) e (byte_below (byte_at o t j) (representation t i)) (h refl)
    (bytes_say (numbers_of os m) cs z t i (byte_at o t j) (Some ss) w l k q)

no_form_by : {N : Type 0} (s : Side) (x : Cell N) (j : ℕ) (maybe : Bool) (r : Option N) (P : List Segment → Type 0)
    → IfSome (byte_with s x j r maybe None).form P
no_form_by s x j maybe None P = tt
no_form_by s x j maybe (Some a) P = tt

unsure_form : {N : Type 0} (cs : List (Cell N)) (z : Cell N) (f : Option (List Segment)) → z.maybe ≡ true
    → IfSome f (IsFormOf cs z) → f ≡ None
unsure_form cs z None e h = refl
unsure_form cs z (Some ss) e h = absurd (let c : true ≡ false = sym e ∙ h.sure in cc)

-- of what f has the number, where a number stands at the cell
abbrev pub SaysBeside : Scalar → Option Datum → (List Segment → ℕ) → Option (List Segment) → Type 0
SaysBeside w v k f = (t : IntType) (i : ℤ) → w ≡ Int t → v ≡ Some (int i)
    → IfSome f (λ ss. residue (2 ^ bits_of t) i ≡ k ss % 2 ^ bits_of t)

pub byte_numbers : {N : Type 0} (D : Ops N) (d : Model) (os : Order × Order) (m n : Memories) (cs : List (Cell N)) (s :
    Side) (f : Option (List Segment)) (x z : Cell N) (w : Scalar) (u : Option (Value N)) (v : Option Datum) (j : ℕ)
    → is_same_side s Shared ≡ false → z.what ≡ w → z.maybe ≡ x.maybe → Allows D w u x.maybe v
    → HasBytes (order_on s os) (memory_on s m) (size_of d w) w x.maybe x.block x.offset v → j < size_of d w
    → IsLoose w (memory_on s m x.block (x.offset + j)) (memory_on s n x.block (x.offset + j)) → IfSome f (IsFormOf cs z)
    → SaysBeside w v (form_number (numbers_of os m)) f
    → IfSome (byte_of D (order_on s os) s f x w u j).form
    (λ ss. HasNumber os n (byte_of D (order_on s os) s f x w u j) (byte_of D (order_on s os) s f x w u j).what
    (form_number (numbers_of os m) ss))
byte_numbers D d os m n cs s f x z (Int t) (Some (Num c)) None j e w g a h l k q b =
    let o = order_on s os in
    number_by os d m n o cs s x z j t (pos 0) x.maybe (byte_value D t (byte_at o t j) c) f e w g
    (place_below o (bytes_of t) j (width_of t) l) (λ y. absurd (let r : true ≡ false = sym a ∙ y in cc)) q
    (subst (λ r. IfSome r (λ ss. residue (2 ^ bits_of t) (pos 0) ≡ form_number (numbers_of os m) ss % 2 ^ bits_of
    t)) (sym
    (unsure_form cs z f (g ∙ a) q)) tt)
byte_numbers D d os m n cs s f x z (Int t) (Some (Num c)) (Some (int i)) j e w g a h l k q b =
    let o = order_on s os in
    number_by os d m n o cs s x z j t i x.maybe (byte_value D t (byte_at o t j) c) f e w g
    (place_below o (bytes_of t) j (width_of t) l)
    (integer_byte o (memory_on s m) (memory_on s n) (size_of d (Int t)) t x.maybe x.block x.offset j i h l k).sure q
    (b t
    i refl refl)
byte_numbers D d os m n cs s f x z (Int t) (Some (Num c)) (Some null) j e w g a h l k q b = absurd a
byte_numbers D d os m n cs s f x z (Int t) (Some (Num c)) (Some (pointer y r)) j e w g a h l k q b = absurd a
byte_numbers D d os m n cs s f x z Pointer (Some (Ptr p)) v j e w g a h l k q b =
    no_form_by s x j (x.maybe || has_targets p) (byte_of_pointer D p) (λ ss. HasNumber os n (byte_with s x j
    (byte_of_pointer D p) (x.maybe || has_targets p) None) (byte_with s x j (byte_of_pointer D p) (x.maybe ||
    has_targets
    p) None).what (form_number (numbers_of os m) ss))
byte_numbers D d os m n cs s f x z (Int t) (Some (Ptr p)) v j e w g a h l k q b = tt
byte_numbers D d os m n cs s f x z Pointer (Some (Num c)) v j e w g a h l k q b = tt
byte_numbers D d os m n cs s f x z (Int t) None v j e w g a h l k q b = tt
byte_numbers D d os m n cs s f x z Pointer None v j e w g a h l k q b = tt

-- ---- all bytes

pub record IsOneOf {N : Type 0} (g : ℕ → Cell N) (p n : ℕ) (y : Cell N) : Type 0 where
  pub place : ℕ
  pub low : p ≤ place
  pub high : place < p + n
  pub is : y ≡ g place

pub one_of : {N : Type 0} (g : ℕ → Cell N) (p n : ℕ) (y : Cell N) → IsIn y (bytes_of_cell g p n) → IsOneOf g p n y
one_of g p zero y h = elim h [ ]
one_of g p (suc n) _ (first _) = record { place = p; low = omega arith; high = omega arith; is = refl }
one_of g p (suc n) y (later _ _ h) =
    let r = one_of g (p + 1) n y h in
    record { place = r.place; low = omega (arith, r.low); high = omega (arith, r.high); is = r.is }

bytes_miss : (s t : Side) (b q c r : ℕ) → q < r → meets (at s b q 1) (at t c r 1) ≡ false
bytes_miss s t b q c r l =
    false_from_ne_true (meets (at s b q 1) (at t c r 1)) (λ h.
    let i = and_parts (share_memory s t) (touches (at s b q 1) (at t c r 1)) h in
    let j = and_parts (nat_eq b c) (nat_lt q (r + 1) && nat_lt r (q + 1)) i.1 in
    let k = and_parts (nat_lt q (r + 1)) (nat_lt r (q + 1)) j.1 in
    let low = ltb-true r (q + 1) k.1 in
    omega (arith, low, l))

bytes_apart : {N : Type 0} (d : Model) (s : Side) (b q i j : ℕ) (y z : Cell N) → i < j → IsByteCell s b (q + i) y
    → IsByteCell s b (q + j) z → AreApart d y z
bytes_apart d s b q i j y z l g h =
    subst (λ c. AreApart d c z) (sym g.is)
    (subst (λ c. AreApart d (cell_of s b (q + i) (Int U8) g.value g.maybe g.form) c) (sym h.is)
    (let r : AreApart d (cell_of s b (q + i) (Int U8) g.value g.maybe g.form) (cell_of s b (q + j) (Int U8) h.value
    h.maybe
    h.form) = record {
      ordered = before_from b (3 * (q + i) + side_number s) b (3 * (q + j) + side_number s) (in_block refl (omega (
        arith,
        l,
      )));
      apart = bytes_miss s s b (q + i) b (q + j) (omega (arith, l));
    } in r))

pub bytes_pairs : {N : Type 0} (d : Model) (s : Side) (b q : ℕ) (g : ℕ → Cell N) (p n : ℕ)
    → ((j : ℕ) → IsByteCell s b (q + j) (g j)) → EachPair (AreApart d) (bytes_of_cell g p n)
bytes_pairs d s b q g p zero h = tt
bytes_pairs d s b q g p (suc n) h = (
  each_from (AreApart d (g p)) (bytes_of_cell g (p + 1) n)
      (λ y k.
      let r = one_of g (p + 1) n y k in
      subst (AreApart d (g p)) (sym r.is) (bytes_apart d s b q p r.place (g p) (g r.place) (omega (arith, r.low)) (h
      p) (h
      r.place))),
  bytes_pairs d s b q g (p + 1) n h,
)
