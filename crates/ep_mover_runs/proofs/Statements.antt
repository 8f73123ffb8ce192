-- What the statements of movers do.
use Rattle.std.proofs.Common.{◌≡◌, ℕ, zero, suc, ◌+◌, ◌-◌, ◌%◌, ◌^◌, ◌<◌, ◌≤◌, ℤ, pos, true}
use Rattle.std.proofs.Common.{false, ◌==◌, nat_lt, List, [], ◌∷◌, ◌++◌, map, length, take, drop}
use Rattle.std.proofs.Common.{get_or, Some, None, Result, Ok, Err, refl, sym, ◌∙◌, ap, subst, arith}
use Rattle.std.specs.List.{AllByRecursion}
use Rattle.std.proofs.lemmas.Bool.{lt-ltb, le-ltb, eq-eqb}
use Rattle.std.proofs.lemmas.List.{length-drop, length-append}
use Rattle.std.proofs.Math.Seq.{take-append_seam}
use Rattle.ep_int.specs.declared.types.IntType.{IntType}
use Rattle.ep_int.specs.declared.types.IntType.TheVariants.{I8, U8, I16, U16, I32, U32, I64, U64}
use Rattle.ep_int.specs.declared.types.Model.{Model}
use Rattle.ep_int.specs.declared.types.Order.{Order}
use Rattle.ep_int.specs.declared.types.Scalar.{Scalar}
use Rattle.ep_int.specs.declared.types.Scalar.TheVariants.{Int as Number}
use Rattle.ep_int.specs.Types.{bytes_of, is_signed, wrapped}
use Rattle.ep_int.specs.Encoding.{is_width, byte_of, sum_of_bytes}
use Rattle.ep_int.specs.Memory.{int, pointer, bounds, Found, stored, store_fault, range_fault}
use Rattle.ep_int.proofs.Encodings.{bytes_pow, sum_of_bytes_same, sum_of_bytes-byte_of}
use Rattle.std.proofs.Math.Nat.{zero-mod}
use Rattle.ep_int.proofs.Places.{width_of, place_below}
use Rattle.ep_int.proofs.Wrapping.{bytes_of_positive, wrapped_same, wrapped_in_range}
use Rattle.ep_core.specs.Program.{Place, block, Expr, Program}
use Rattle.ep_core.specs.Exec.{Output, State, Outcome, leaves, on, given}
use Rattle.ep_core.specs.Exec.{with_int, unless, put_out, remembers as keeps, taken as takes_one, model, size_at}
use Rattle.ep_core.specs.Exec.{value, address, put_at, put_to, converted}
use Rattle.ep_movers.specs.declared.Stop.{Stop}
use Rattle.ep_movers.specs.declared.Stop.TheVariants.{Foreign, Faulty}
use Rattle.ep_movers.specs.Symbols.{Symbol, input_byte, goes_on, zeros, resized}
use Rattle.ep_movers.specs.Movers.{Held, Machine, bytes_in, remembers, puts_out, input_bytes}
use Rattle.ep_movers.specs.Movers.{taken, place_of, bytes_written, symbols, writes}
use Rattle.ep_mover_runs.specs.Following.{stands_for, symbol_at, number_in, IsByte, AreBytes, unsigned_of, output_in}
use Rattle.ep_mover_runs.specs.Following.{IsNumber, Follows, ValueFollows, IsUndefined, Wanting, Comes}
use Rattle.ep_mover_runs.proofs.Numbers.{digits, number_sum}
use Rattle.ep_mover_runs.proofs.Operators.{bytes_few, unsigned_wrapped}
use Rattle.ep_mover_runs.proofs.Places.{PlaceFollows}
use Rattle.ep_mover_runs.proofs.Writes.{past, changed_follows, number_inside, number_changed}

-- ---- lists

pub drop_parts : (xs : List ℕ) (i v : ℕ) (rest : List ℕ) → drop i xs ≡ v ∷ rest
    → (i < length xs) × (v ≡ get_or xs i 0) × (rest ≡ drop (suc i) xs)
drop_parts [] zero v rest h = absurd cc
drop_parts [] (suc i) v rest h = absurd cc
drop_parts (x ∷ xs) zero v rest h =
    let first : x ≡ v = cc in
    let others : xs ≡ rest = cc in
    (omega arith, sym first, sym others)
drop_parts (x ∷ xs) (suc i) v rest h =
    let q = drop_parts xs i v rest h in
    let l = q.0 in
    (omega (arith, l), q.1, q.2)

none_left : (xs : List ℕ) (i : ℕ) → drop i xs ≡ [] → length xs ≤ i
none_left xs i h = let none : length (drop i xs) ≡ 0 = ap length h in omega (arith, none, length-drop i xs)

outputs_more : (inputs : List ℕ) (xss : List (List Symbol)) (xs : List Symbol)
    → map (output_in inputs) (xss ++ xs ∷ []) ≡ map (output_in inputs) xss ++ output_in inputs xs ∷ []
outputs_more inputs [] xs = refl
outputs_more inputs (ys ∷ xss) xs = ap (λ (os : List Output). output_in inputs ys ∷ os) (outputs_more inputs xss xs)

numbers_more : (xss : List (List Symbol)) (xs : List Symbol) → AllByRecursion IsNumber xss → IsNumber xs
    → AllByRecursion IsNumber (xss ++ xs ∷ [])
numbers_more [] xs h i = (i, tt)
numbers_more (ys ∷ xss) xs h i = (h.0, numbers_more xss xs h.1 i)

unsigned_bytes : (t : IntType) → is_signed t ≡ false → unsigned_of (bytes_of t) ≡ t
unsigned_bytes I8 e = absurd cc
unsigned_bytes U8 e = refl
unsigned_bytes I16 e = absurd cc
unsigned_bytes U16 e = refl
unsigned_bytes I32 e = absurd cc
unsigned_bytes U32 e = refl
unsigned_bytes I64 e = absurd cc
unsigned_bytes U64 e = refl

-- unsigned types of as many bytes are one
pub same_unsigned : (t k : IntType) → is_signed t ≡ false → is_signed k ≡ false → bytes_of t ≡ bytes_of k → t ≡ k
same_unsigned t k e f h = sym (unsigned_bytes t e) ∙ ap unsigned_of h ∙ unsigned_bytes k f

number_is : (t : IntType) (xs : List Symbol) → AreBytes (bytes_of t) xs → IsNumber xs
number_is t xs h = record {
  width = subst (λ n. is_width n ≡ true) (sym h.are) (width_of t);
  bytes = record { are = refl; each = λ k l. h.each k (omega (arith, l, h.are)) };
}

abbrev output_at : IntType → ℤ → Output
output_at t v = record { t = t; value = v }

-- ---- faults

store_fits : (d : Model) (size : ℕ) (t : IntType) (q : ℕ) → q + bytes_of t ≤ size → q % bytes_of t ≡ 0
    → store_fault d size (Number t) q ≡ None
store_fits d size t q l a =
    let inside : nat_lt size (q + bytes_of t) ≡ false = le-ltb size (q + bytes_of t) l in
    let multiple : (q % bytes_of t == 0) ≡ true = eq-eqb (q % bytes_of t) 0 a in
    rw (inside, multiple) refl

store_past : (d : Model) (size : ℕ) (t : IntType) (q : ℕ) → size < q + bytes_of t
    → store_fault d size (Number t) q ≡ Some bounds
store_past d size t q l = let past : nat_lt size (q + bytes_of t) ≡ true = lt-ltb size (q + bytes_of t) l in
    rw past refl

pub range_fits : (size q n : ℕ) → q + n ≤ size → range_fault size q n ≡ None
range_fits size q n l = let inside : nat_lt size (q + n) ≡ false = le-ltb size (q + n) l in rw inside refl

pub range_past : (size q n : ℕ) → size < q + n → range_fault size q n ≡ Some bounds
range_past size q n l = let far : nat_lt size (q + n) ≡ true = lt-ltb size (q + n) l in rw far refl

-- a number that has the bytes of its type
resized_same : (t : IntType) (xs : List Symbol) → AreBytes (bytes_of t) xs → resized t xs ≡ xs
resized_same t xs h = subst (λ n. take n (xs ++ zeros 8) ≡ xs) h.are (take-append_seam xs (zeros 8))

-- ---- bytes of inputs

length_inputs : (i k n : ℕ) → length (input_bytes i k n) ≡ n
length_inputs i k zero = refl
length_inputs i k (suc n) = ap suc (length_inputs i (suc k) n)

at_inputs : (i k n j : ℕ) → j < n → symbol_at (input_bytes i k n) j ≡ input_byte i (k + j)
at_inputs i k zero j l = absurd (omega arith)
at_inputs i k (suc n) zero l = let e : k ≡ k + 0 = omega arith in ap (input_byte i) e
at_inputs i k (suc n) (suc j) l =
    let e : suc k + j ≡ k + suc j = omega arith in at_inputs i (suc k) n j (omega arith) ∙ ap (input_byte i) e

module _ (inputs : List ℕ) where
  inputs_are : (i w : ℕ) → w ≤ 8 → AreBytes w (input_bytes i 0 w)
  inputs_are i w few = record {
    are = length_inputs i 0 w;
    each = λ k l. subst IsByte (sym (at_inputs i 0 w k l)) (omega (arith, few, l));
  }

  inputs_sum : (i w : ℕ) → w ≤ 8 → number_in inputs (input_bytes i 0 w) ≡ get_or inputs i 0 % 256 ^ w
  inputs_sum i w few =
      number_sum inputs w (input_bytes i 0 w) (inputs_are i w few)
      ∙ sum_same w (λ k l. ap (stands_for inputs) (at_inputs i 0 w k l)
      ∙ ap (λ j. byte_of j (get_or inputs i 0)) (zero_more k))
      ∙ sum_of_bytes-byte_of (get_or inputs i 0) w
    where
      zero_more : (k : ℕ) → 0 + k ≡ k
      zero_more k = omega arith

      sum_same : (w : ℕ) → ((k : ℕ) → k < w → digits inputs (input_bytes i 0 w) k ≡ byte_of k (get_or inputs i 0))
          → sum_of_bytes (digits inputs (input_bytes i 0 w)) w ≡ sum_of_bytes (λ k. byte_of k (get_or inputs i 0)) w
      sum_same w h = sum_of_bytes_same (digits inputs (input_bytes i 0 w)) (λ k. byte_of k (get_or inputs i 0)) w h

  taken_number : (t : IntType) (v i : ℕ) → is_signed t ≡ false → v ≡ get_or inputs i 0
      → wrapped t (wrapped t (pos v)) ≡ pos (number_in inputs (input_bytes i 0 (bytes_of t)))
  taken_number t v i e h =
      wrapped_same t (wrapped t (pos v)) (wrapped_in_range t (pos v)) ∙ unsigned_wrapped t v e
      ∙ ap (λ n. pos (v % n)) (sym (bytes_pow (bytes_of t))) ∙ ap (λ n. pos (n % 256 ^ bytes_of t)) h
      ∙ ap pos (sym (inputs_sum i (bytes_of t) (bytes_few t)))

-- ---- what comes next

module _ (o : Order) (p : Program) (inputs : List ℕ) where
  pub took : (s : State) (m : Machine) (v : ℕ) (rest : List ℕ) → Follows o p inputs s m → s.inputs ≡ v ∷ rest
      → (v ≡ get_or inputs m.inputs 0) × Follows o p inputs (record s { inputs = rest; used = s.used + 1 }) (taken m 1)
  took s m v rest f e =
      let q = drop_parts inputs m.inputs v rest (sym f.left ∙ e) in
      let l = q.0 in
      let more : suc m.inputs ≡ m.inputs + 1 = omega arith in (
        q.1,
        record {
          sizes = f.sizes;
          memory = f.memory;
          bytes = f.bytes;
          used = ap (λ n. n + 1) f.used;
          enough = omega (arith, l);
          left = q.2 ∙ ap (λ n. drop n inputs) more;
          outputs = f.outputs;
          numbers = f.numbers;
        },
      )

  pub none_there : (s : State) (m : Machine) → Follows o p inputs s m → s.inputs ≡ [] → length inputs ≤ m.inputs
  none_there s m f e = none_left inputs m.inputs (sym f.left ∙ e)

  pub was_put_out : (s : State) (m : Machine) (t : IntType) (v : ℤ) (xs : List Symbol) → Follows o p inputs s m
      → IsNumber xs → unsigned_of (length xs) ≡ t → v ≡ pos (number_in inputs xs)
      → Follows o p inputs (put_out t v s) (puts_out m xs)
  was_put_out s m t v xs f n e q = record {
    sizes = f.sizes;
    memory = f.memory;
    bytes = f.bytes;
    used = f.used;
    enough = f.enough;
    left = f.left;
    outputs = ap (λ (os : List Output). os ++ output_at t v ∷ []) f.outputs
        ∙ ap (λ k. map (output_in inputs) m.outputs ++ output_at k v ∷ []) (sym e)
        ∙ ap (λ z. map (output_in inputs) m.outputs ++ output_at (unsigned_of (length xs)) z ∷ []) q
        ∙ sym (outputs_more inputs m.outputs xs);
    numbers = numbers_more m.outputs xs f.numbers n;
  }

  pub rebased : (n i j a b : ℕ) (k m : Machine) → m.inputs ≡ k.inputs + i → length m.outputs ≡ length k.outputs + j
      → (r : Result Machine Stop) (x : Outcome) → Comes o p inputs n a b m r x →
      Comes o p inputs n (i + a) (j + b) k r x
  rebased n i j a b k m e q (Ok r) x h = record {
    state = h.state;
    is = h.is;
    follows = h.follows;
    taken = omega (arith, h.taken, e);
    put = omega (arith, h.put, q);
  }
  rebased n i j a b k m e q (Err Foreign) x h = tt
  rebased n i j a b k m e q (Err Faulty) x h = h

  -- ---- stores

  pub writes_come : (s : State) (m : Machine) (t : IntType) (b q : ℕ) (xs : List Symbol) (l left : ℕ) →
      Follows o p inputs s m
      → q % bytes_of t ≡ 0 → AreBytes (bytes_of t) xs
      → Comes o p inputs left 0 0 m (writes o t m (b, q) xs)
      (put_at o p (Number t) b q (int (pos (number_in inputs xs))) l s (leaves on left))
  writes_come s m t b q xs l left f aligned are = split (bytes_written o q (bytes_of t) 0 xs (bytes_in m.memory b)) refl
    where
      split : (r : Result (List Held) Stop) → bytes_written o q (bytes_of t) 0 xs (bytes_in m.memory b) ≡ r
          → Comes o p inputs left 0 0 m (goes_on r (λ hs. Ok (remembers m b hs)))
          (put_at o p (Number t) b q (int (pos (number_in inputs xs))) l s (leaves on left))
      split (Ok ks) h =
          let v = int (pos (number_in inputs xs)) in
          let some = bytes_of_positive t in
          let last : suc (bytes_of t - 1) ≡ bytes_of t = omega (arith, some) in
          let inside = number_inside o inputs t xs are q (bytes_in m.memory b) ks (f.bytes b) h (bytes_of t - 1) last in
          let fits : q + bytes_of t ≤ size_at o p b = omega (arith, inside, f.sizes b) in
          let after = keeps (stored o (model o p) s.memory (Number t) b q v) s in
          record {
            state = after;
            is = ap (λ k. unless k l s (leaves on left after))
                (store_fits (model o p) (size_at o p b) t q fits aligned);
            follows = changed_follows o p inputs (model o p) s m f b q (bytes_of t) _ ks
                (number_changed o inputs t xs are q (bytes_in m.memory b) ks (f.bytes b) h);
            taken = omega arith;
            put = omega arith;
          }
      split (Err Foreign) h = tt
      split (Err Faulty) h =
          let v = int (pos (number_in inputs xs)) in
          let j = past o q (bytes_of t) (width_of t) 0 xs (bytes_in m.memory b) h in
          let below = place_below o (bytes_of t) j.0 (width_of t) (let high = j.2 in omega (arith, high, are.are)) in
          let far : size_at o p b < q + bytes_of t = (let out = j.3 in omega (arith, out, below, f.sizes b)) in
          subst IsUndefined
          (sym (ap (λ k. unless k l s (leaves on left (keeps (stored o (model o p) s.memory (Number t) b q v) s)))
          (store_past (model o p) (size_at o p b) t q far))) tt

  -- ---- assignments and outputs

  module _ (s : State) (m : Machine) (l left : ℕ) (f : Follows o p inputs s m) where
    assigned_value : (t : IntType) (w : ℕ × ℕ) (r : Result (List Symbol) Stop) (v : Found) → w.1 % bytes_of t ≡ 0
        → ValueFollows inputs t r v
        → Comes o p inputs left 0 0 m (goes_on r (λ xs. writes o t m w (resized t xs)))
        (given v l s (λ v. put_to o p (Number t) (pointer w.0 w.1) v l s (leaves on left)))
    assigned_value t w (Ok xs) v aligned h =
        subst (λ (v : Found). Comes o p inputs left 0 0 m (writes o t m w (resized t xs))
        (given v l s (λ v. put_to o p (Number t) (pointer w.0 w.1) v l s (leaves on left)))) (sym h.0)
        (subst (λ zs. Comes o p inputs left 0 0 m (writes o t m w zs)
        (put_at o p (Number t) w.0 w.1 (int (pos (number_in inputs xs))) l s (leaves on left)))
        (sym (resized_same t xs h.2)) (writes_come s m t w.0 w.1 xs l left f aligned h.2))
    assigned_value t w (Err Foreign) v aligned h = tt
    assigned_value t w (Err Faulty) v aligned h =
        subst (λ (v : Found). IsUndefined
        (given v l s (λ v. put_to o p (Number t) (pointer w.0 w.1) v l s (leaves on left))))
        (sym h.1) tt

    assigned : (t : IntType) (z : Result (ℕ × ℕ) Stop) (u : Found) (r : Result (List Symbol) Stop) (v : Found)
        → PlaceFollows (bytes_of t) z u → ValueFollows inputs t r v
        → Comes o p inputs left 0 0 m (goes_on z (λ w. goes_on r (λ xs. writes o t m w (resized t xs))))
        (given u l s (λ w. given v l s (λ v. put_to o p (Number t) w v l s (leaves on left))))
    assigned t (Ok w) u r v h i =
        subst (λ (u : Found). Comes o p inputs left 0 0 m (goes_on r (λ xs. writes o t m w (resized t xs)))
        (given u l s (λ w. given v l s (λ v. put_to o p (Number t) w v l s (leaves on left))))) (sym h.0)
        (assigned_value t w r v h.1 i)
    assigned t (Err Foreign) u r v h i = tt
    assigned t (Err Faulty) u r v h i =
        subst (λ (u : Found). IsUndefined
        (given u l s (λ w. given v l s (λ v. put_to o p (Number t) w v l s (leaves on left)))))
        (sym h.1) tt

    pub assign_comes : (t : IntType) (a : Place) (e : Expr) →
        PlaceFollows (bytes_of t) (place_of a) (address o p a s.memory)
        → ValueFollows inputs t (symbols o m.memory e) (value o p e s.memory)
        → Comes o p inputs left 0 0 m
        (goes_on (place_of a) (λ w. goes_on (symbols o m.memory e) (λ xs. writes o t m w (resized t xs))))
        (given (address o p a s.memory) l s
        (λ w. given (value o p e s.memory) l s (λ v. put_to o p (Number t) w v l s (leaves on left))))
    assign_comes t a e h i =
        assigned t (place_of a) (address o p a s.memory) (symbols o m.memory e) (value o p e s.memory) h i

    pub output_comes : (t : IntType) (r : Result (List Symbol) Stop) (v : Found) → is_signed t ≡ false →
        ValueFollows inputs t r v
        → Comes o p inputs left 0 1 m (goes_on r (λ xs. Ok (puts_out m xs)))
        (given v l s (λ v. with_int v l s (λ x. leaves on left (put_out t x s))))
    output_comes t (Ok xs) v e h =
        let z = pos (number_in inputs xs) in
        record {
          state = put_out t z s;
          is = ap (λ (v : Found). given v l s (λ v. with_int v l s (λ x. leaves on left (put_out t x s)))) h.0;
          follows = was_put_out s m t z xs f (number_is t xs h.2) (ap unsigned_of h.2.are ∙ unsigned_bytes t e) refl;
          taken = omega arith;
          put = length-append m.outputs (xs ∷ []);
        }
    output_comes t (Err Foreign) v e h = tt
    output_comes t (Err Faulty) v e h =
        subst (λ (v : Found). IsUndefined (given v l s (λ v. with_int v l s (λ x. leaves on left (put_out t x s)))))
        (sym h.1) tt

    -- ---- an input

    abbrev arrives : Scalar → Place → IntType → ℕ → State → Outcome
    arrives what a t v s =
        given (address o p a s.memory) l s
        (λ w. put_to o p what w (converted what (int (wrapped t (pos v)))) l s (leaves on left))

    arrived : (t : IntType) (b v : ℕ) (rest : List ℕ) → is_signed t ≡ false → s.inputs ≡ v ∷ rest
        → Comes o p inputs left 1 0 m (writes o t (taken m 1) (b, 0) (input_bytes m.inputs 0 (bytes_of t)))
        (arrives (Number t) (block b) t v (record s { inputs = rest; used = s.used + 1 }))
    arrived t b v rest e q =
        let k = took s m v rest f q in
        let after = record s { inputs = rest; used = s.used + 1 } in
        let xs = input_bytes m.inputs 0 (bytes_of t) in
        let aligned : 0 % bytes_of t ≡ 0 = zero-mod (bytes_of t) in
        rebased left 1 0 0 0 m (taken m 1) refl (omega arith) (writes o t (taken m 1) (b, 0) xs)
        (arrives (Number t) (block b) t v after)
        (subst (λ z. Comes o p inputs left 0 0 (taken m 1) (writes o t (taken m 1) (b, 0) xs)
        (put_at o p (Number t) b 0 (int z) l after (leaves on left))) (sym (taken_number inputs t v m.inputs e k.0))
        (writes_come after (taken m 1) t b 0 xs l left k.1 aligned
        (inputs_are inputs m.inputs (bytes_of t) (bytes_few t))))

    input_by : (t : IntType) (b : ℕ) (is : List ℕ) → is_signed t ≡ false → s.inputs ≡ is
        → (m.inputs + 1 ≤ length inputs
        → Comes o p inputs left 1 0 m (writes o t (taken m 1) (b, 0) (input_bytes m.inputs 0 (bytes_of t)))
        (takes_one is s (λ v s. arrives (Number t) (block b) t v s)))
        × (length inputs < m.inputs + 1
        → Wanting s.outputs (takes_one is s (λ v s. arrives (Number t) (block b) t v s)))
    input_by t b [] e q = (
      λ l. absurd (let few = none_there s m f q in omega (arith, few, l)),
      λ l. record { state = s; is = refl; outputs = refl },
    )
    input_by t b (v ∷ rest) e q = (
      λ l. arrived t b v rest e q,
      λ l. absurd (let there = (drop_parts inputs m.inputs v rest (sym f.left ∙ q)).0 in omega (arith, there, l)),
    )

    pub input_comes : (t : IntType) (what : Scalar) (a : Place) (b : ℕ) → is_signed t ≡ false → what ≡ Number t → a
        ≡ block b
        → (m.inputs + 1 ≤ length inputs
        → Comes o p inputs left 1 0 m
        (goes_on (place_of a) (λ w. writes o t (taken m 1) w (input_bytes m.inputs 0 (bytes_of t))))
        (takes_one s.inputs s (λ v s. arrives what a t v s)))
        × (length inputs < m.inputs + 1 → Wanting s.outputs (takes_one s.inputs s (λ v s. arrives what a t v s)))
    input_comes t what a b e i j =
        subst (λ (what : Scalar). (m.inputs + 1 ≤ length inputs
        → Comes o p inputs left 1 0 m
        (goes_on (place_of a) (λ w. writes o t (taken m 1) w (input_bytes m.inputs 0 (bytes_of t))))
        (takes_one s.inputs s (λ v s. arrives what a t v s)))
        × (length inputs < m.inputs + 1 → Wanting s.outputs (takes_one s.inputs s (λ v s. arrives what a t v s))))
        (sym i)
        (subst (λ (a : Place). (m.inputs + 1 ≤ length inputs
        → Comes o p inputs left 1 0 m
        (goes_on (place_of a) (λ w. writes o t (taken m 1) w (input_bytes m.inputs 0 (bytes_of t))))
        (takes_one s.inputs s (λ v s. arrives (Number t) a t v s)))
        × (length inputs < m.inputs + 1 →
        Wanting s.outputs (takes_one s.inputs s (λ v s. arrives (Number t) a t v s)))) (sym j)
        (input_by t b s.inputs e refl))
