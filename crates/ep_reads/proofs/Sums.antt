-- An integer from its bytes, and its form from theirs.
use Rattle.std.proofs.Common.{◌≡◌, ℕ, zero, suc, ◌+◌, ◌*◌, ◌^◌, ◌%◌, ◌<◌, ◌≤◌, zero-add, add-zero, ℤ, pos, Bool, true}
use Rattle.std.proofs.Common.{false, ◌||◌, nat_le, cond, IfSome, List, [], ◌∷◌, ◌++◌, length, length-append, ⊎_elim}
use Rattle.std.proofs.Common.{Option, Some, None, refl, sym, ◌∙◌, ap, subst, arith}
use Rattle.std.specs.Option.{option_and_then}
use Rattle.std.specs.List.{list_any}
use Rattle.std.proofs.lemmas.Bool.{or_parts, or_cases, or_from, leb-true, cases_order}
use Rattle.std.proofs.Math.Nat.{mod-eq_of_lt, pow-suc, pow-le-pow_right, le-mul_of_pos_right}
use Rattle.ep_int.specs.declared.types.IntType.{IntType}
use Rattle.ep_int.specs.declared.types.IntType.TheVariants.{U8}
use Rattle.ep_int.specs.declared.types.Scalar.TheVariants.{Int}
use Rattle.ep_int.specs.Types.{bytes_of, bits_of, is_signed, residue}
use Rattle.ep_int.specs.Encoding.{sum_of_bytes}
use Rattle.ep_int.specs.Memory.{Byte, number_in, int}
use Rattle.ep_int.proofs.Encodings.{bytes_pow, bytes_pow_pos, sum_of_bytes_below}
use Rattle.ep_bitslice.specs.declared.cell.CellName.{CellName}
use Rattle.ep_bitslice.specs.declared.segment.Segment.{Segment}
use Rattle.ep_bitslice.specs.Bits.{Bit, Numbers, number_of_bits, mentions}
use Rattle.ep_bitslice.specs.Segments.{bits, width, number as form_number, normal, form_of}
use Rattle.ep_bitslice.proofs.Appending.{length-bits, bits-normal}
use Rattle.ep_bitslice.proofs.Pieces.{mentions-append}
use Rattle.ep_bitslice.proofs.Numbers.{number-append, number-bits}
use Rattle.ep_domain.specs.Domain.{Ops, Holds, Lawful}
use Rattle.ep_cells.specs.declared.cell.Cell.{Cell}
use Rattle.ep_cells.specs.declared.cell.Value.TheVariants.{Num}
use Rattle.ep_cells.specs.States.{IsThere}
use Rattle.ep_reads.specs.declared.read.ReadValue.{ReadValue}
use Rattle.ep_reads.specs.Read.{bytes_from, weighted, plus, sum_after, sum_of, appended, bits_of_all, may_be_undefined}
use Rattle.ep_reads.specs.Laws.{IsNumberOf, IsFormRead}
use Rattle.ep_reads.proofs.Slices.{AllFit, fit_append, bits_fit, width-normal, normal_is_form, number-normal}
use Rattle.ep_reads.proofs.Numbers.{Gives, at_most_eight, product_held, sum_held, single_held}
use Rattle.ep_reads.proofs.Bytes.{IsByte}

-- ---- bytes of known values

-- what is read is this number, and that of the form
pub record IsByteOf {N : Type 0} (D : Ops N) (n : Numbers) (r : ReadValue N) (v : ℕ) : Type 0 where
  pub below : v < 256
  pub one : N
  pub reads : r.value ≡ Some (Num one)
  pub holds : Holds D one (pos v)
  pub form : IfSome r.form (λ ss. form_number n ss ≡ v)

pub byte_of_number : {N : Type 0} (D : Ops N) (n : Numbers) (r : ReadValue N) (y : Byte) → IsByte D n r y
    → IsByteOf D n r (number_in y)
byte_of_number D n r y h =
    let e : h.value ≡ number_in y = sym (ap number_in h.is) in
    record {
      below = subst (λ v. v < 256) e h.below;
      one = h.one;
      reads = h.reads;
      holds = subst (λ v. Holds D h.one (pos v)) e h.holds;
      form = subst (λ v. IfSome r.form (λ ss. form_number n ss ≡ v)) e h.form;
    }

-- what no byte of a list is, none is
pub none_of : {N : Type 0} (test : ReadValue N → Bool) (f : ℕ → ReadValue N) (i n j : ℕ)
    → list_any test (bytes_from f i n) ≡ false → i ≤ j → j < i + n → test (f j) ≡ false
none_of test f i zero j h l u = absurd (omega arith)
none_of test f i (suc n) j h l u =
    let p = or_parts (test (f i)) (list_any test (bytes_from f (i + 1) n)) h in
    ⊎_elim
    (λ same. subst (λ k. test (f k) ≡ false) same p.0)
    (λ o. ⊎_elim (λ later. none_of test f (i + 1) n j p.1 (omega arith) (omega arith)) (λ e. absurd (omega arith)) o)
    (cases_order i j)

-- ---- the sum

weighted_held : {N : Type 0} (D : Ops N) → Lawful D → (n : Numbers) (u : IntType) (i v : ℕ) (r : ReadValue N)
    → is_signed u ≡ false → IsByteOf D n r v → i < bytes_of u
    → v * 256 ^ i < 2 ^ bits_of u → Gives (weighted D u i r.value) (λ c. Holds D c (pos (v * 256 ^ i)))
weighted_held D law n u i v r e h l b =
    let more : 256 ^ (i + 1) ≤ 256 ^ bytes_of u = pow-le-pow_right (omega arith) (omega arith) in
    let next : 256 ^ (i + 1) ≡ 256 ^ suc i = ap (λ k. 256 ^ k) (omega arith) in
    let step = pow-suc 256 i in
    let top = bytes_pow (bytes_of u) in
    let weight : 256 ^ i < 2 ^ bits_of u = omega (arith, more, next, step, top, bytes_pow_pos i) in
    let small : v < 2 ^ bits_of u = omega (arith, le-mul_of_pos_right v (bytes_pow_pos i), b) in
    let g = product_held D law u h.one (D.single (pos (256 ^ i))) v (256 ^ i) e small weight b h.holds
    (single_held D law u (256 ^ i) e weight) in
    record { one = g.one; is = ap (weighted D u i) h.reads ∙ g.is; holds = g.holds }

plus_held : {N : Type 0} (D : Ops N) → Lawful D → (u : IntType) (a b : Option N) (x y : ℕ) → is_signed u ≡ false
    → x + y < 2 ^ bits_of u → Gives a (λ c. Holds D c (pos x)) → Gives b (λ c. Holds D c (pos y))
    → Gives (plus D u a b) (λ c. Holds D c (pos (x + y)))
plus_held D law u a b x y e l p q =
    let g = sum_held D law u p.one q.one x y e l p.holds q.holds in
    record {
      one = g.one;
      is = ap (λ z. plus D u z b) p.is ∙ ap (plus D u (Some p.one)) q.is ∙ g.is;
      holds = g.holds;
    }

-- a sum of the bytes below w of a type is one of its numbers
pub sum_below : (v : ℕ → ℕ) (w i : ℕ) → ((j : ℕ) → j < w → v j < 256) → i ≤ w → sum_of_bytes v i < 2 ^ (8 * w)
sum_below v w i h l =
    let few : sum_of_bytes v i < 256 ^ i = sum_of_bytes_below v i (λ j m. h j (omega arith)) in
    let more : 256 ^ i ≤ 256 ^ w = pow-le-pow_right (omega arith) l in
    omega (arith, few, more, bytes_pow w)

after_held : {N : Type 0} (D : Ops N) → Lawful D → (n : Numbers) (u : IntType) (f : ℕ → ReadValue N) (v : ℕ → ℕ) (i k
    : ℕ) (a : Option N) → is_signed u ≡ false → ((j : ℕ) → j < bytes_of u → IsByteOf D n (f j) (v j))
    → i + k ≤ bytes_of u → Gives a (λ c. Holds D c (pos (sum_of_bytes v i)))
    → Gives (sum_after D u a i (bytes_from f i k)) (λ c. Holds D c (pos (sum_of_bytes v (i + k))))
after_held D law n u f v i zero a e h l g =
    subst (λ j. Gives a (λ c. Holds D c (pos (sum_of_bytes v j)))) (sym (add-zero i)) g
after_held D law n u f v i (suc k) a e h l g =
    let all = sum_below v (bytes_of u) (suc i) (λ j m. (h j m).below) (omega arith) in
    let here = weighted_held D law n u i (v i) (f i) e (h i (omega arith)) (omega arith) (omega (arith, all)) in
    let sum = plus_held D law u a (weighted D u i (f i).value) (sum_of_bytes v i) (v i * 256 ^ i) e all g here in
    let next : suc i ≡ i + 1 = omega arith in
    let end : i + 1 + k ≡ i + suc k = omega arith in
    let b = plus D u a (weighted D u i (f i).value) in
    subst (λ j. Gives (sum_after D u b (i + 1) (bytes_from f (i + 1) k)) (λ c. Holds D c (pos (sum_of_bytes v j)))) end
    (after_held D law n u f v (i + 1) k b e h (omega arith)
    (subst (λ j. Gives b (λ c. Holds D c (pos (sum_of_bytes v j)))) next sum))

pub all_held : {N : Type 0} (D : Ops N) → Lawful D → (n : Numbers) (u : IntType) (f : ℕ → ReadValue N) (v : ℕ → ℕ) (k
    : ℕ) → 0 < k → is_signed u ≡ false → ((j : ℕ) → j < bytes_of u → IsByteOf D n (f j) (v j)) → k ≤ bytes_of u
    → Gives (sum_of D u (bytes_from f 0 k)) (λ c. Holds D c (pos (sum_of_bytes v k)))
all_held D law n u f v zero p e h l = absurd (omega arith)
all_held D law n u f v (suc k) p e h l =
    let all = sum_below v (bytes_of u) 1 (λ j m. (h j m).below) (omega arith) in
    let first : v 0 * 256 ^ 0 ≡ sum_of_bytes v 1 = sym (zero-add (v 0 * 256 ^ 0)) in
    let here = weighted_held D law n u 0 (v 0) (f 0) e (h 0 (omega arith)) (omega arith) (omega (arith, all, first)) in
    let end : 1 + k ≡ suc k = omega arith in
    let b = weighted D u 0 (f 0).value in
    subst (λ j. Gives (sum_after D u b 1 (bytes_from f 1 k)) (λ c. Holds D c (pos (sum_of_bytes v j)))) end
    (after_held D law n u f v 1 k b e h (omega arith)
    (subst (λ x. Gives b (λ c. Holds D c (pos x))) first here))

-- ---- the form

record IsJoined {N : Type 0} (r : ReadValue N) (rs : List (ReadValue N)) (bs : List Bit) : Type 0 where
  head : List Segment
  tail : List Bit
  head_is : r.form ≡ Some head
  tail_is : bits_of_all rs ≡ Some tail
  is : bs ≡ bits head ++ tail

joined_by : {N : Type 0} (r : ReadValue N) (rs : List (ReadValue N)) (bs : List Bit) (o : Option (List Segment)) (p :
    Option (List Bit)) → r.form ≡ o → bits_of_all rs ≡ p → appended o p ≡ Some bs → IsJoined r rs bs
joined_by r rs bs None p h k e = absurd (cc)
joined_by r rs bs (Some f) None h k e = absurd (cc)
joined_by r rs bs (Some f) (Some cs) h k e = record {
  head = f;
  tail = cs;
  head_is = h;
  tail_is = k;
  is = let i : bs ≡ bits f ++ cs = cc in i;
}

joined : {N : Type 0} (r : ReadValue N) (rs : List (ReadValue N)) (bs : List Bit) → bits_of_all (r ∷ rs) ≡ Some bs
    → IsJoined r rs bs
joined r rs bs e = joined_by r rs bs r.form (bits_of_all rs) refl refl e

-- the bits of the forms of so many bytes
record AreBits {N : Type 0} (cs : List (Cell N)) (maybe : Bool) (k : ℕ) (bs : List Bit) : Type 0 where
  sure : maybe ≡ false
  fit : AllFit bs
  long : length bs ≡ 8 * k
  mentioned : (c : CellName) → mentions c bs ≡ true → IsThere c cs

one_more : {N : Type 0} (cs : List (Cell N)) (maybe more : Bool) (ss : List Segment) (k : ℕ) (tail : List Bit)
    → IsFormRead cs (Int U8) maybe ss → AreBits cs more k tail
    → AreBits cs (maybe || more) (suc k) (bits ss ++ tail)
one_more cs maybe more ss k tail h t = record {
  sure = or_from maybe more h.sure t.sure;
  fit = fit_append (bits ss) tail (bits_fit ss h.form.segments) t.fit;
  long =
      let eight : 8 ≡ width ss = h.wide in
      omega (arith, length-append (bits ss) tail, length-bits ss, eight, t.long);
  mentioned = λ c e.
      ⊎_elim (h.mentioned c) (t.mentioned c)
      (or_cases (mentions c (bits ss)) (mentions c tail) (sym (mentions-append c (bits ss) tail) ∙ e));
}

are_bits : {N : Type 0} (cs : List (Cell N)) (f : ℕ → ReadValue N) (i k : ℕ) (bs : List Bit)
    → ((j : ℕ) → IfSome (f j).form (IsFormRead cs (Int U8) (f j).maybe)) → bits_of_all (bytes_from f i k) ≡ Some bs
    → AreBits cs (may_be_undefined (bytes_from f i k)) k bs
are_bits cs f i zero bs h e =
    let c : [] ≡ bs = cc in
    subst (AreBits cs false 0) c (record {
      sure = refl;
      fit = tt;
      long = refl;
      mentioned = λ n g. absurd (let z : false ≡ true = g in cc);
    })
are_bits cs f i (suc k) bs h e =
    let r = joined (f i) (bytes_from f (i + 1) k) bs e in
    subst (AreBits cs ((f i).maybe || may_be_undefined (bytes_from f (i + 1) k)) (suc k)) (sym r.is)
    (one_more cs (f i).maybe (may_be_undefined (bytes_from f (i + 1) k)) r.head k r.tail
    (subst (λ o. IfSome o (IsFormRead cs (Int U8) (f i).maybe)) r.head_is (h i))
    (are_bits cs f (i + 1) k r.tail h r.tail_is))

number_more : (n : Numbers) (ss : List Segment) (tail : List Bit) → 8 ≡ width ss
    → number_of_bits n (bits ss ++ tail) ≡ number_of_bits n (bits ss) + number_of_bits n tail * 256
number_more n ss tail w =
    let eight : length (bits ss) ≡ 8 = length-bits ss ∙ sym w in
    number-append n (bits ss) tail ∙ ap (λ k. number_of_bits n (bits ss) + number_of_bits n tail * 2 ^ k) eight

regroup : (v t p s x y z : ℕ) → x ≡ p * 256 → y ≡ v + t * 256 → z ≡ t * x + (s + v * p) → y * p + s ≡ z
regroup v t p s x y z e f g = rw (f, g, e) (omega arith)

bits_say : {N : Type 0} (cs : List (Cell N)) (n : Numbers) (f : ℕ → ReadValue N) (v : ℕ → ℕ) (i k : ℕ) (bs : List Bit)
    → ((j : ℕ) → IfSome (f j).form (IsFormRead cs (Int U8) (f j).maybe))
    → ((j : ℕ) → i ≤ j → j < i + k → IfSome (f j).form (λ ss. form_number n ss ≡ v j))
    → bits_of_all (bytes_from f i k) ≡ Some bs
    → number_of_bits n bs * 256 ^ i + sum_of_bytes v i ≡ sum_of_bytes v (i + k)
bits_say cs n f v i zero bs h s e =
    let c : bs ≡ [] = cc in
    let none : number_of_bits n bs ≡ 0 = ap (number_of_bits n) c in
    let gone : 0 * 256 ^ i + sum_of_bytes v i ≡ sum_of_bytes v i = omega arith in
    ap (λ x. x * 256 ^ i + sum_of_bytes v i) none ∙ gone ∙ ap (sum_of_bytes v) (sym (add-zero i))
bits_say cs n f v i (suc k) bs h s e =
    let r = joined (f i) (bytes_from f (i + 1) k) bs e in
    let form = subst (λ o. IfSome o (IsFormRead cs (Int U8) (f i).maybe)) r.head_is (h i) in
    let value : form_number n r.head ≡ v i = subst (λ o. IfSome o (λ ss. form_number n ss ≡ v i)) r.head_is (s i (omega
    arith) (omega arith)) in
    let head : number_of_bits n (bits r.head) ≡ v i = sym (number-bits n r.head form.form.segments) ∙ value in
    let rest = bits_say cs n f v (i + 1) k r.tail h (λ j l m. s j (omega arith) (omega arith)) r.tail_is in
    let whole : number_of_bits n bs ≡ v i + number_of_bits n r.tail * 256 = ap (number_of_bits n) r.is ∙ number_more n
    r.head r.tail form.wide ∙ ap (λ x. x + number_of_bits n r.tail * 256) head in
    let next : i + 1 ≡ suc i = omega arith in
    let power : 256 ^ (i + 1) ≡ 256 ^ i * 256 = ap (λ j. 256 ^ j) next ∙ pow-suc 256 i in
    let end : i + suc k ≡ i + 1 + k = omega arith in
    let sum : sum_of_bytes v (i + suc k) ≡ number_of_bits n r.tail * 256 ^ (i + 1) + (sum_of_bytes v i + v i * 256
    ^ i) =
    ap (sum_of_bytes v) end ∙ sym rest ∙ ap (λ j. number_of_bits n r.tail * 256 ^ (i + 1) + sum_of_bytes v j) next in
    regroup (v i) (number_of_bits n r.tail) (256 ^ i) (sum_of_bytes v i) (256 ^ (i + 1)) (number_of_bits n bs)
    (sum_of_bytes v (i + suc k)) power whole sum

-- the form of the bits, if there is one, fits
form_fits_by : {N : Type 0} (cs : List (Cell N)) (t : IntType) (maybe : Bool) (bs : List Bit) (b : Bool)
    → AreBits cs maybe (bytes_of t) bs → nat_le (length (normal bs)) 8 ≡ b
    → IfSome (cond b (Some (normal bs)) None) (IsFormRead cs (Int t) maybe)
form_fits_by cs t maybe bs false h e = tt
form_fits_by cs t maybe bs true h e = record {
  sure = h.sure;
  wide = sym (width-normal bs ∙ h.long);
  form = normal_is_form bs h.fit (omega (arith, h.long, at_most_eight t)) (leb-true (length (normal bs)) 8 e);
  mentioned = λ c g. h.mentioned c (subst (λ x. mentions c x ≡ true) (bits-normal bs) g);
}

pub form_fits : {N : Type 0} (cs : List (Cell N)) (f : ℕ → ReadValue N) (t : IntType) (o : Option (List Bit))
    → ((j : ℕ) → IfSome (f j).form (IsFormRead cs (Int U8) (f j).maybe))
    → bits_of_all (bytes_from f 0 (bytes_of t)) ≡ o
    → IfSome (option_and_then form_of o) (IsFormRead cs (Int t) (may_be_undefined (bytes_from f 0 (bytes_of t))))
form_fits cs f t None h e = tt
form_fits cs f t (Some bs) h e =
    form_fits_by cs t (may_be_undefined (bytes_from f 0 (bytes_of t))) bs (nat_le (length (normal bs)) 8)
    (are_bits cs f 0 (bytes_of t) bs h e) refl

-- and has the number of the sum
form_says_by : (n : Numbers) (t : IntType) (z : ℤ) (bs : List Bit) (b : Bool) → AllFit bs → length bs ≤ 64
    → residue (2 ^ bits_of t) z ≡ number_of_bits n bs % 2 ^ bits_of t
    → IfSome (cond b (Some (normal bs)) None) (λ ss. IsNumberOf (Int t) (int z) (form_number n ss))
form_says_by n t z bs false f l e = tt
form_says_by n t z bs true f l e = e ∙ ap (λ x. x % 2 ^ bits_of t) (sym (number-normal n bs f l))

whole_sum : (x s y : ℕ) → x * 256 ^ 0 + s ≡ y → s ≡ 0 → x ≡ y
whole_sum x s y e z = omega (arith, e, z)

pub form_says : {N : Type 0} (cs : List (Cell N)) (n : Numbers) (f : ℕ → ReadValue N) (v : ℕ → ℕ) (t : IntType) (z : ℤ)
    (o : Option (List Bit)) → ((j : ℕ) → IfSome (f j).form (IsFormRead cs (Int U8) (f j).maybe))
    → ((j : ℕ) → j < bytes_of t → IfSome (f j).form (λ ss. form_number n ss ≡ v j))
    → bits_of_all (bytes_from f 0 (bytes_of t)) ≡ o
    → residue (2 ^ bits_of t) z ≡ sum_of_bytes v (bytes_of t) → sum_of_bytes v (bytes_of t) < 2 ^ bits_of t
    → IfSome (option_and_then form_of o) (λ ss. IsNumberOf (Int t) (int z) (form_number n ss))
form_says cs n f v t z None h s e r b = tt
form_says cs n f v t z (Some bs) h s e r b =
    let a = are_bits cs f 0 (bytes_of t) bs h e in
    let to : sum_of_bytes v (0 + bytes_of t) ≡ sum_of_bytes v (bytes_of t) = ap (sum_of_bytes v) (zero-add (bytes_of t))
    in
    let all : number_of_bits n bs ≡ sum_of_bytes v (bytes_of t) = whole_sum (number_of_bits n bs) (sum_of_bytes v 0)
    (sum_of_bytes v (bytes_of t))
    (bits_say cs n f v 0 (bytes_of t) bs h (λ j l m. s j (omega arith)) e ∙ to) refl in
    form_says_by n t z bs (nat_le (length (normal bs)) 8) a.fit (omega (arith, a.long, at_most_eight t))
    (r ∙ sym (mod-eq_of_lt b) ∙ ap (λ x. x % 2 ^ bits_of t) (sym all))
