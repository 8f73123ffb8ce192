-- What is read of one byte.
use Rattle.std.proofs.Common.{◌≡◌, ℕ, ◌+◌, ◌-◌, ◌*◌, ◌/◌, ◌%◌, ◌^◌, ◌<◌, ◌≤◌, ℤ, pos, Bool, true, false, not, cond}
use Rattle.std.proofs.Common.{IsSomeAnd, IfSome, List, [], ◌∷◌, length, ⊎_elim, Option, Some, None, refl, sym, ◌∙◌}
use Rattle.std.proofs.Common.{ap, subst, arith}
use Rattle.std.specs.Option.{option_map}
use Rattle.std.specs.List.{list_any}
use Rattle.std.proofs.lemmas.Bool.{and_parts, or_cases, not-true}
use Rattle.std.proofs.Math.Nat.{mod-eq_of_lt}
use Rattle.ep_int.specs.declared.types.IntType.{IntType}
use Rattle.ep_int.specs.declared.types.IntType.TheVariants.{U8}
use Rattle.ep_int.specs.declared.types.Order.{Order}
use Rattle.ep_int.specs.declared.types.Model.{Model}
use Rattle.ep_int.specs.declared.types.Scalar.{Scalar}
use Rattle.ep_int.specs.declared.types.Scalar.TheVariants.{Int, Pointer}
use Rattle.ep_int.specs.Types.{bytes_of, bits_of, size_of, InRange, residue, representation}
use Rattle.ep_int.specs.Encoding.{byte_of, encoded}
use Rattle.ep_int.specs.Memory.{Byte, number, Memory, Value as Datum, int, null, pointer}
use Rattle.ep_int.proofs.Encodings.{byte_below, bytes_pow}
use Rattle.ep_int.proofs.Places.{width_of, place_below}
use Rattle.ep_int.proofs.Wrapping.{bytes_of_positive, residue_below}
use Rattle.std.proofs.lemmas.Nat.{pow_pos}
use Rattle.ep_bitslice.specs.declared.cell.Side.{Side}
use Rattle.ep_bitslice.specs.declared.cell.CellName.{CellName}
use Rattle.ep_bitslice.specs.declared.segment.Segment.{Segment}
use Rattle.ep_bitslice.specs.declared.segment.Segment.TheVariants.{Bits}
use Rattle.ep_bitslice.specs.Bits.{Numbers, mentions}
use Rattle.ep_bitslice.specs.Segments.{run_bits, bits, width, number as form_number, IsForm}
use Rattle.ep_bitslice.proofs.Joining.{same_cell}
use Rattle.ep_bitslice.proofs.Appending.{length-bits}
use Rattle.ep_bitslice.proofs.Pieces.{mentions-run, mentions-append}
use Rattle.ep_bitslice.proofs.Numbers.{number-bits, number_below}
use Rattle.ep_domain.specs.Domain.{Ops, Holds, Lawful}
use Rattle.ep_pointers.specs.Value.{Pointers, Target, offset_at}
use Rattle.ep_cells.specs.declared.cell.Cell.{Cell}
use Rattle.ep_cells.specs.declared.cell.Value.{Value}
use Rattle.ep_cells.specs.declared.cell.Value.TheVariants.{Num, Ptr}
use Rattle.ep_cells.specs.Cells.{IsIn}
use Rattle.ep_cells.specs.States.{Known, IsThere, HasWidth, IsFormOf, AreCells}
use Rattle.ep_cells.specs.Meaning.{Memories, Allows, HasBytes, StandsAt, numbers_of, name_of, HasNumber, FormSays, In}
use Rattle.ep_cells.proofs.Bytes.{number_of_cell}
use Rattle.ep_reads.specs.declared.read.ReadValue.{ReadValue}
use Rattle.ep_reads.specs.Bytes.{byte_form, byte_at, own_form, form_or, form_of_cell, has_targets, is_null_alone}
use Rattle.ep_reads.specs.Bytes.{zero_form, number_byte, byte_of_value, byte_of_cell}
use Rattle.ep_reads.specs.Laws.{IsFormRead}
use Rattle.ep_reads.proofs.Slices.{IsSlice, slice_is}
use Rattle.ep_reads.proofs.Numbers.{at_most_eight, small_number, byte_held}

-- ---- the forms of cells

-- the bits of a cell itself
own_mentions : (n c : CellName) (k : ℕ) → 0 < k → mentions n (bits (Bits c 0 k ∷ [])) ≡ true → c ≡ n
own_mentions n c k p h =
    same_cell c n
    (⊎_elim
    (λ e. sym (mentions-run n c 0 (k - 0) (omega arith)) ∙ e)
    (λ e. absurd (let f : false ≡ true = e in cc))
    (or_cases (mentions n (run_bits c 0 (k - 0))) (mentions n []) (sym (mentions-append n (run_bits c 0 (k - 0)) []) ∙
    h)))

pub own_is_form : {N : Type 0} (cs : List (Cell N)) (x : Cell N) (t : IntType) → IsIn x cs → x.what ≡ Int t
    → x.maybe ≡ false → IsFormOf cs x (Bits (name_of x t) 0 (bits_of t) ∷ [])
own_is_form cs x t i w e =
    let positive : 0 < bits_of t = omega (arith, bytes_of_positive t) in
    let most : bits_of t ≤ 64 = omega (arith, at_most_eight t) in
    let wide : bits_of t ≡ width (Bits (name_of x t) 0 (bits_of t) ∷ []) = omega arith in
    record {
      sure = e;
      wide = subst (λ z. HasWidth z (width (Bits (name_of x t) 0 (bits_of t) ∷ []))) (sym w) wide;
      form = record {
        segments = ((positive, most), tt);
        apart = (tt, tt);
        few = omega arith;
        short = omega (arith, wide, most);
      };
      mentioned = λ n h.
          subst (λ z. IsThere z cs) (own_mentions n (name_of x t) (bits_of t) positive h)
          (let r : IsThere (name_of x t) cs = record {
            cell = x;
            is_in = i;
            named = record { side = refl; block = refl; offset = refl; what = w };
            sure = e;
          } in r);
    }

form_fits_by : {N : Type 0} (cs : List (Cell N)) (x : Cell N) (g : Option (List Segment)) (w : Scalar) (maybe : Bool)
    → IsIn x cs → x.what ≡ w → x.maybe ≡ maybe → IfSome g (IsFormOf cs x)
    → IfSome (cond maybe None (form_or g (own_form x w))) (IsFormOf cs x)
form_fits_by cs x g w true i e s h = tt
form_fits_by cs x (Some f) w false i e s h = h
form_fits_by cs x None (Int t) false i e s h = own_is_form cs x t i e s
form_fits_by cs x None Pointer false i e s h = tt

pub cell_form_fits : {N : Type 0} (d : Model) (cs : List (Cell N)) (x : Cell N) → AreCells d cs → IsIn x cs
    → IfSome (form_of_cell x) (IsFormOf cs x)
cell_form_fits d cs x a i = form_fits_by cs x x.form x.what x.maybe i refl refl (a.forms x i)

own_number : (r m p : ℕ) → r < m → r ≡ (r / 1 + p * 0) % m
own_number r m p h =
    let e : r / 1 + p * 0 ≡ r = omega arith in
    sym (ap (λ x. x % m) e ∙ mod-eq_of_lt h)

pub form_says_by : {N : Type 0} (os : Order × Order) (m : Memories) (x : Cell N) (g : Option (List Segment)) (w : Scalar)
    (maybe : Bool) → IfSome g (λ ss. HasNumber os m x w (form_number (numbers_of os m) ss))
    → IfSome (cond maybe None (form_or g (own_form x w))) (λ ss. HasNumber os m x w (form_number (numbers_of os m) ss))
form_says_by os m x g w true h = tt
form_says_by os m x (Some f) w false h = h
form_says_by os m x None (Int t) false h =
    own_number (residue (2 ^ bits_of t) (numbers_of os m (name_of x t))) (2 ^ bits_of t) (2 ^ (bits_of t - 0))
    (residue_below (2 ^ bits_of t) (numbers_of os m (name_of x t)) (pow_pos (bits_of t)))
form_says_by os m x None Pointer false h = tt

pub cell_form_says : {N : Type 0} (D : Ops N) (k : Known N) (m : Memories) (x : Cell N) → In D k m → IsIn x k.cells
    → IfSome (form_of_cell x) (FormSays k.orders m x)
cell_form_says D k m x h i = form_says_by k.orders m x x.form x.what x.maybe (h.forms x i)

-- ---- a byte of a form

eight_more : (k w : ℕ) → k < w → 8 * k + 8 ≤ 8 * w
eight_more k w h = omega arith

eight_wide : (k : ℕ) → 8 * k + 8 - 8 * k ≡ 8
eight_wide k = omega arith

slice_of : (ss : List Segment) (t : IntType) (k : ℕ) → IsForm ss → bits_of t ≡ width ss → k < bytes_of t
    → IsSlice ss (8 * k) (8 * k + 8)
slice_of ss t k f w h =
    slice_is ss (8 * k) (8 * k + 8) f (omega arith) (subst (λ n. 8 * k + 8 ≤ n) w (eight_more k (bytes_of t) h))

pub byte_form_fits : {N : Type 0} (cs : List (Cell N)) (x : Cell N) (t : IntType) (k : ℕ) (o : Option (List Segment))
    → x.what ≡ Int t → k < bytes_of t → IfSome o (IsFormOf cs x)
    → IfSome (option_map (byte_form k) o) (IsFormRead cs (Int U8) x.maybe)
byte_form_fits cs x t k None w h f = tt
byte_form_fits cs x t k (Some ss) w h f =
    let s = slice_of ss t k f.form (subst (λ z. HasWidth z (width ss)) w f.wide) h in
    record {
      sure = f.sure;
      wide = sym (s.wide ∙ eight_wide k);
      form = s.form;
      mentioned = λ n e. f.mentioned n (s.mentioned n e);
    }

form_below : (n : Numbers) (ss : List Segment) → IsForm ss → form_number n ss < 2 ^ width ss
form_below n ss f =
    subst (λ i. form_number n ss < 2 ^ i) (length-bits ss)
    (subst (λ v. v < 2 ^ length (bits ss)) (sym (number-bits n ss f.segments)) (number_below n (bits ss)))

byte_form_says : (n : Numbers) (ss : List Segment) (t : IntType) (z : ℤ) (k : ℕ) → IsForm ss → bits_of t ≡ width ss
    → k < bytes_of t → residue (2 ^ bits_of t) z ≡ form_number n ss % 2 ^ bits_of t
    → form_number n (byte_form k ss) ≡ byte_of k (representation t z)
byte_form_says n ss t z k f w h e =
    let s = slice_of ss t k f w h in
    let small : form_number n ss < 2 ^ bits_of t = subst (λ i. form_number n ss < 2 ^ i) (sym w) (form_below n ss f) in
    let is : form_number n ss ≡ residue (2 ^ bits_of t) z = sym (e ∙ mod-eq_of_lt small) in
    s.numbers n
    ∙ ap (λ i. form_number n ss / 2 ^ (8 * k) % 2 ^ i) (eight_wide k)
    ∙ ap (λ v. v / 2 ^ (8 * k) % 256) is
    ∙ ap (λ v. residue (2 ^ bits_of t) z / v % 256) (sym (bytes_pow k))

pub bytes_say : {N : Type 0} (n : Numbers) (cs : List (Cell N)) (x : Cell N) (t : IntType) (z : ℤ) (k : ℕ) (o : Option
    (List Segment)) → x.what ≡ Int t → k < bytes_of t → IfSome o (IsFormOf cs x)
    → IfSome o (λ ss. residue (2 ^ bits_of t) z ≡ form_number n ss % 2 ^ bits_of t)
    → IfSome (option_map (byte_form k) o) (λ ss. form_number n ss ≡ byte_of k (representation t z))
bytes_say n cs x t z k None w h f e = tt
bytes_say n cs x t z k (Some ss) w h f e =
    byte_form_says n ss t z k f.form (subst (λ y. HasWidth y (width ss)) w f.wide) h e

-- ---- what is read of a byte fits

zero_fits : {N : Type 0} (cs : List (Cell N)) → IsFormRead cs (Int U8) false zero_form
zero_fits cs = record {
  sure = refl;
  wide = refl;
  form = record {
    segments = ((omega arith, omega arith, omega arith), tt);
    apart = (tt, tt);
    few = omega arith;
    short = omega arith;
  };
  mentioned = λ n h. absurd (let e : false ≡ true = h in cc);
}

zero_fits_by : {N : Type 0} (cs : List (Cell N)) (maybe : Bool)
    → IfSome (cond maybe None (Some zero_form)) (IsFormRead cs (Int U8) maybe)
zero_fits_by cs true = tt
zero_fits_by cs false = zero_fits cs

abbrev pub null_read : {N : Type 0} → Ops N → Bool → ReadValue N
null_read D maybe = record {
  value = Some (Num (D.single (pos 0)));
  maybe = maybe;
  mixed = false;
  form = cond maybe None (Some zero_form);
}

abbrev pub part_read : {N : Type 0} → Bool → ReadValue N
part_read maybe = record { value = None; maybe = maybe; mixed = true; form = None }

pointer_fits : {N : Type 0} (D : Ops N) (cs : List (Cell N)) (maybe t : Bool)
    → IfSome (cond t (null_read D maybe) (part_read maybe)).form (IsFormRead cs (Int U8) (cond t (null_read D maybe)
    (part_read maybe)).maybe)
pointer_fits D cs maybe true = zero_fits_by cs maybe
pointer_fits D cs maybe false = tt

pub byte_fits : {N : Type 0} (D : Ops N) (d : Model) (o : Order) (cs : List (Cell N)) (x : Cell N) (w : Scalar) (v :
    Option (Value N)) (j : ℕ) → x.what ≡ w → IfSome (form_of_cell x) (IsFormOf cs x) → j < size_of d w
    → IfSome (byte_of_value D o x w v j).form (IsFormRead cs (Int U8) (byte_of_value D o x w v j).maybe)
byte_fits D d o cs x (Int t) None j w f h = tt
byte_fits D d o cs x (Int t) (Some (Num n)) j w f h =
    byte_form_fits cs x t (byte_at o t j) (form_of_cell x) w (place_below o (bytes_of t) j (width_of t) h) f
byte_fits D d o cs x (Int t) (Some (Ptr p)) j w f h = tt
byte_fits D d o cs x Pointer None j w f h = tt
byte_fits D d o cs x Pointer (Some (Num n)) j w f h = tt
byte_fits D d o cs x Pointer (Some (Ptr p)) j w f h = pointer_fits D cs x.maybe (is_null_alone p)

-- ---- and holds

-- y is a number that was read, and that of the form
pub record IsByte {N : Type 0} (D : Ops N) (n : Numbers) (r : ReadValue N) (y : Byte) : Type 0 where
  pub value : ℕ
  pub is : y ≡ number value
  pub below : value < 256
  pub one : N
  pub reads : r.value ≡ Some (Num one)
  pub holds : Holds D one (pos value)
  pub form : IfSome r.form (λ ss. form_number n ss ≡ value)

number_holds : {N : Type 0} (D : Ops N) → Lawful D → (o : Order) (n : Numbers) (cs : List (Cell N)) (x : Cell N) (t :
    IntType) (a : N) (z : ℤ) (j : ℕ) (y : Byte) → x.what ≡ Int t → j < bytes_of t → InRange t z → Holds D a z
    → IfSome (form_of_cell x) (IsFormOf cs x)
    → IfSome (form_of_cell x) (λ ss. residue (2 ^ bits_of t) z ≡ form_number n ss % 2 ^ bits_of t)
    → y ≡ number (encoded o t z j) → IsByte D n (number_byte D x t (byte_at o t j) a) y
number_holds D law o n cs x t a z j y w h r p f s e =
    let k = byte_at o t j in
    let l : byte_at o t j < bytes_of t = place_below o (bytes_of t) j (width_of t) h in
    let g = byte_held D law t k a z l r p in
    record {
      value = byte_of k (representation t z);
      is = e;
      below = byte_below k (representation t z);
      one = g.one;
      reads = ap (option_map Num) g.is;
      holds = g.holds;
      form = bytes_say n cs x t z k (form_of_cell x) w l f s;
    }

null_holds : {N : Type 0} (D : Ops N) → Lawful D → (n : Numbers) (y : Byte) → y ≡ number 0
    → IsByte D n (null_read D false) y
null_holds D law n y e = record {
  value = 0;
  is = e;
  below = omega arith;
  one = D.single (pos 0);
  reads = refl;
  holds = law.single_holds (pos 0) (small_number 0 (omega arith));
  form = refl;
}

no_target : {N : Type 0} (ts : List (Target N)) (c : ℕ) (P : N → Type 0) → list_any (λ t. true) ts ≡ false
    → IsSomeAnd (offset_at ts c) P → ⊥
no_target [] c P e h = h
no_target (t ∷ ts) c P e h = let f : true ≡ false = e in cc

-- a pointer cell that is null alone
pointer_holds : {N : Type 0} (D : Ops N) → Lawful D → (n : Numbers) (o : Order) (m : Memory) (size b q j : ℕ) (p :
    Pointers N) (u : Option Datum) (t : Bool) → is_null_alone p ≡ t → Allows D Pointer (Some (Ptr p)) false u
    → HasBytes o m size Pointer false b q u → j < size
    → (cond t (null_read D false) (part_read false)).mixed ≡ false
    → IsByte D n (cond t (null_read D false) (part_read false)) (m b (q + j))
pointer_holds D law n o m size b q j p u false e a h l s = absurd (let f : true ≡ false = s in cc)
pointer_holds D law n o m size b q j p None true e a h l s = absurd (let f : false ≡ true = a in cc)
pointer_holds D law n o m size b q j p (Some (int z)) true e a h l s = absurd a
pointer_holds D law n o m size b q j p (Some null) true e a h l s = null_holds D law n (m b (q + j)) (h j l)
pointer_holds D law n o m size b q j p (Some (pointer c r)) true e a h l s =
    let none : has_targets p ≡ false = not-true (has_targets p) ((and_parts p.null (not (has_targets p)) e).1) in
    absurd (no_target p.targets c (λ i. Holds D i (pos r)) none a)

sure_of : {N : Type 0} (D : Ops N) (t : Bool) → (cond t (null_read D true) (part_read true)).maybe ≡ false → ⊥
sure_of D true h = let f : true ≡ false = h in cc
sure_of D false h = let f : true ≡ false = h in cc

-- a cell by its parts
abbrev pub cell_of : {N : Type 0} → Side → (block offset : ℕ) → Scalar → Option (Value N) → Bool
    → Option (List Segment) → Cell N
cell_of s b q w v maybe f = record {
  side = s;
  block = b;
  offset = q;
  what = w;
  value = v;
  maybe = maybe;
  form = f;
}

pub byte_holds : {N : Type 0} (D : Ops N) → Lawful D → (os : Order × Order) (d : Model) (m : Memories) (o : Order)
    (here : Memory) (cs : List (Cell N)) (s : Side) (b q : ℕ) (w : Scalar) (v : Option (Value N)) (maybe : Bool) (f :
    Option (List Segment)) (u : Option Datum) (j : ℕ)
    → IfSome (form_of_cell (cell_of s b q w v maybe f)) (IsFormOf cs (cell_of s b q w v maybe f))
    → IfSome (form_of_cell (cell_of s b q w v maybe f)) (FormSays os m (cell_of s b q w v maybe f))
    → Allows D w v maybe u → StandsAt os d m (cell_of s b q w v maybe f) u
    → HasBytes o here (size_of d w) w maybe b q u → j < size_of d w
    → (byte_of_cell D o (cell_of s b q w v maybe f) j).maybe ≡ false
    → (byte_of_cell D o (cell_of s b q w v maybe f) j).mixed ≡ false
    → IsByte D (numbers_of os m) (byte_of_cell D o (cell_of s b q w v maybe f) j) (here b (q + j))
byte_holds D law os d m o here cs s b q (Int t) None maybe f u j g n a e h l x y = absurd (let k : true ≡ false = x in
    cc)
byte_holds D law os d m o here cs s b q Pointer None maybe f u j g n a e h l x y = absurd (let k : true ≡ false = x in
    cc)
byte_holds D law os d m o here cs s b q (Int t) (Some (Ptr p)) maybe f u j g n a e h l x y = absurd (let k : true ≡
    false = x in cc)
byte_holds D law os d m o here cs s b q Pointer (Some (Num p)) maybe f u j g n a e h l x y = absurd (let k : true ≡
    false = x in cc)
byte_holds D law os d m o here cs s b q (Int t) (Some (Num p)) true f u j g n a e h l x y = absurd (let k : true ≡
    false = x in cc)
byte_holds D law os d m o here cs s b q Pointer (Some (Ptr p)) true f u j g n a e h l x y = absurd (sure_of D
    (is_null_alone p) x)
byte_holds D law os d m o here cs s b q Pointer (Some (Ptr p)) false f u j g n a e h l x y =
    pointer_holds D law (numbers_of os m) o here (size_of d Pointer) b q j p u (is_null_alone p) refl a h l y
byte_holds D law os d m o here cs s b q (Int t) (Some (Num p)) false f None j g n a e h l x y = absurd (let k : false
    ≡ true = a in cc)
byte_holds D law os d m o here cs s b q (Int t) (Some (Num p)) false f (Some null) j g n a e h l x y = absurd a
byte_holds D law os d m o here cs s b q (Int t) (Some (Num p)) false f (Some (pointer c r)) j g n a e h l x y = absurd
    a
byte_holds D law os d m o here cs s b q (Int t) (Some (Num p)) false f (Some (int z)) j g n a e h l x y =
    let c = cell_of s b q (Int t) (Some (Num p)) false f in
    let is : numbers_of os m (name_of (cell_of s b q (Int t) (Some (Num p)) false f) t) ≡ z = number_of_cell os d m c t
    z refl refl a.0 e in
    number_holds D law o (numbers_of os m) cs c t p z j (here b (q + j)) refl l a.0 a.1 g
    (subst (λ v. IfSome (form_of_cell c) (λ ss. residue (2 ^ bits_of t) v ≡ form_number (numbers_of os m) ss % 2 ^
    bits_of t)) is n)
    (h j l)
