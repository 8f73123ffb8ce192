-- What is read and written in a block whose bytes are symbols.
use Rattle.std.proofs.Common.{◌≡◌, ℕ, zero, suc, ◌+◌, ◌-◌, ◌%◌, ◌<◌, ◌≤◌, pos, Bool, true, false}
use Rattle.std.proofs.Common.{nat_lt, if◌then◌else◌, List, [], ◌∷◌, length, get_or, Result, Ok, Err}
use Rattle.std.proofs.Common.{◌⊎◌, inl, inr, ⊎_elim, refl, sym, ◌∙◌, ap, subst, arith}
use Rattle.std.proofs.lemmas.Bool.{cases_lt, ltb-true, ltb-false, lt-ltb}
use Rattle.std.proofs.Math.Nat.{mod-eq_of_lt}
use Rattle.ep_int.specs.declared.types.IntType.{IntType}
use Rattle.ep_int.specs.declared.types.Model.{Model}
use Rattle.ep_int.specs.declared.types.Order.{Order}
use Rattle.ep_int.specs.declared.types.Scalar.TheVariants.{Int as Number}
use Rattle.ep_int.specs.Types.{bytes_of, is_signed}
use Rattle.ep_int.specs.Encoding.{place, byte_of}
use Rattle.ep_int.specs.Memory.{number, Memory, Kind, bounds, faults, lies_partly}
use Rattle.ep_int.specs.Memory.{loaded}
use Rattle.ep_int.proofs.Wrapping.{bytes_of_positive}
use Rattle.ep_int.proofs.Places.{width_of, place_below, place_back}
use Rattle.ep_int.proofs.Memories.{loaded_at, loaded_undefined_at}
use Rattle.ep_movers.specs.declared.Stop.{Stop}
use Rattle.ep_movers.specs.declared.Stop.TheVariants.{Foreign, Faulty}
use Rattle.ep_movers.specs.Symbols.{Symbol, unset, fixed_byte, input_byte, goes_on, is_set}
use Rattle.ep_movers.specs.Movers.{Held, held, byte_at, defined}
use Rattle.ep_movers.specs.Movers.{loaded_bytes}
use Rattle.ep_mover_runs.specs.Following.{stands_for, byte_in, symbol_at, number_in, IsByte, MayBeByte, AreBytes}
use Rattle.ep_mover_runs.specs.Following.{ValueFollows}
use Rattle.ep_mover_runs.proofs.Numbers.{ok_parts, same_ok, byte_of_number}
use Rattle.ep_mover_runs.proofs.Operators.{unsigned_range, number_fits}

abbrev pub symbol_of : List Held → ℕ → Symbol
symbol_of hs q = (get_or hs q (held unset false)).symbol

pub err_parts : {A B : Type 0} (r : Result A Stop) (f : A → Result B Stop) (s : Stop) → goes_on r f ≡ Err s
    → (r ≡ Err s) ⊎ ((x : A) × (r ≡ Ok x) × (f x ≡ Err s))
err_parts (Ok x) f s h = inr (x, refl, h)
err_parts (Err e) f s h = inl (let same : e ≡ s = cc in ap (λ z. Err z) same)

-- ---- bytes

pub set_byte : (x : Symbol) → MayBeByte x → is_set x ≡ true → IsByte x
set_byte unset h e = absurd cc
set_byte (fixed_byte v) h e = h
set_byte (input_byte i k) h e = h

pub may_be : (x : Symbol) → IsByte x → MayBeByte x
may_be unset h = absurd h
may_be (fixed_byte v) h = h
may_be (input_byte i k) h = h

pub number_of_byte : (inputs : List ℕ) (x : Symbol) → IsByte x → byte_in inputs x ≡ number (stands_for inputs x)
number_of_byte inputs unset h = absurd h
number_of_byte inputs (fixed_byte v) h = refl
number_of_byte inputs (input_byte i k) h = refl

unset_byte : (x : Symbol) → is_set x ≡ false → x ≡ unset
unset_byte unset h = refl
unset_byte (fixed_byte v) h = absurd cc
unset_byte (input_byte i k) h = absurd cc

-- no byte is a part of a pointer
pub whole_byte : (d : Model) (here n : ℕ) (inputs : List ℕ) (x : Symbol) (p : ℕ) →
    lies_partly d here n (byte_in inputs x) p ≡ false
whole_byte d here n inputs unset p = refl
whole_byte d here n inputs (fixed_byte v) p = refl
whole_byte d here n inputs (input_byte i k) p = refl

-- ---- reading a byte

pub byte_found : (hs : List Held) (q : ℕ) (x : Symbol) → byte_at hs q ≡ Ok x → (q < length hs) × (symbol_of hs q ≡ x)
byte_found hs q x h = split (nat_lt q (length hs)) refl h
  where
    split : (c : Bool) → nat_lt q (length hs) ≡ c
        → ◌≡◌ {A = Result Symbol Stop} (if c then Ok (symbol_of hs q) else Err Faulty) (Ok x)
        → (q < length hs) × (symbol_of hs q ≡ x)
    split true e h = (ltb-true q (length hs) e, same_ok h)
    split false e h = absurd cc

pub byte_missed : (hs : List Held) (q : ℕ) (s : Stop) → byte_at hs q ≡ Err s → (length hs ≤ q) × (s ≡ Faulty)
byte_missed hs q s h = split (nat_lt q (length hs)) refl h
  where
    split : (c : Bool) → nat_lt q (length hs) ≡ c
        → ◌≡◌ {A = Result Symbol Stop} (if c then Ok (symbol_of hs q) else Err Faulty) (Err s)
        → (length hs ≤ q) × (s ≡ Faulty)
    split true e h = absurd cc
    split false e h = (ltb-false q (length hs) e, cc)

pub byte_defined : (x y : Symbol) → defined x ≡ Ok y → (is_set x ≡ true) × (x ≡ y)
byte_defined x y h = split (is_set x) refl h
  where
    split : (c : Bool) → is_set x ≡ c → ◌≡◌ {A = Result Symbol Stop} (if c then Ok x else Err Faulty) (Ok y)
        → (c ≡ true) × (x ≡ y)
    split true e h = (refl, same_ok h)
    split false e h = absurd cc

pub byte_undefined : (x : Symbol) (s : Stop) → defined x ≡ Err s → (x ≡ unset) × (s ≡ Faulty)
byte_undefined x s h = split (is_set x) refl h
  where
    split : (c : Bool) → is_set x ≡ c → ◌≡◌ {A = Result Symbol Stop} (if c then Ok x else Err Faulty) (Err s)
        → (x ≡ unset) × (s ≡ Faulty)
    split true e h = absurd cc
    split false e h = (unset_byte x e, cc)

-- ---- reading the bytes of a number

-- byte j was read here
pub record ReadAt (o : Order) (hs : List Held) (q w k : ℕ) (x : Symbol) : Type 0 where
  pub inside : q + place o w k < length hs
  pub is : symbol_of hs (q + place o w k) ≡ x
  pub set : is_set x ≡ true

-- all were
record AreRead (o : Order) (hs : List Held) (q w k n : ℕ) (xs : List Symbol) : Type 0 where
  are : length xs ≡ n
  each : (j : ℕ) → j < n → ReadAt o hs q w (k + j) (symbol_at xs j)

-- one wasn't: it is outside, or undefined
record Missed (o : Order) (hs : List Held) (q w k n : ℕ) (s : Stop) : Type 0 where
  byte : ℕ
  low : k ≤ byte
  high : byte < k + n
  why : (length hs ≤ q + place o w byte) ⊎ (symbol_of hs (q + place o w byte) ≡ unset)
  is : s ≡ Faulty

module _ (o : Order) (hs : List Held) (q w : ℕ) where
  read : (k n : ℕ) (xs : List Symbol) → loaded_bytes o hs q w k n ≡ Ok xs → AreRead o hs q w k n xs
  read k zero xs h =
      let same : [] ≡ xs = same_ok h in
      subst (AreRead o hs q w k 0) same (record { are = refl; each = λ j l. absurd (omega arith) })
  read k (suc n) xs h =
      let a = ok_parts (byte_at hs (q + place o w k))
      (λ x. goes_on (defined x) (λ x. goes_on (loaded_bytes o hs q w (suc k) n) (λ xs. Ok (x ∷ xs)))) xs h in
      let b = ok_parts (defined a.0) (λ x. goes_on (loaded_bytes o hs q w (suc k) n) (λ xs. Ok (x ∷ xs))) xs a.2 in
      let c = ok_parts (loaded_bytes o hs q w (suc k) n) (λ xs. Ok (b.0 ∷ xs)) xs b.2 in
      let same : b.0 ∷ c.0 ≡ xs = same_ok c.2 in
      let found = byte_found hs (q + place o w k) a.0 a.1 in
      let set = byte_defined a.0 b.0 b.1 in
      let rest = read (suc k) n c.0 c.1 in
      subst (AreRead o hs q w k (suc n)) same (record {
        are = ap suc rest.are;
        each = first b.0 c.0 (record {
          inside = found.0;
          is = found.1 ∙ set.1;
          set = subst (λ x. is_set x ≡ true) set.1 set.0;
        }) rest.each;
      })
    where
      first : (x : Symbol) (xs : List Symbol) → ReadAt o hs q w k x
          → ((j : ℕ) → j < n → ReadAt o hs q w (suc k + j) (symbol_at xs j))
          → (j : ℕ) → j < suc n → ReadAt o hs q w (k + j) (symbol_at (x ∷ xs) j)
      first x xs here later zero l = let e : k ≡ k + 0 = omega arith in subst (λ i. ReadAt o hs q w i x) e here
      first x xs here later (suc j) l =
          let e : suc k + j ≡ k + suc j = omega arith in
          subst (λ i. ReadAt o hs q w i (symbol_at xs j)) e (later j (omega arith))

  missed : (k n : ℕ) (s : Stop) → loaded_bytes o hs q w k n ≡ Err s → Missed o hs q w k n s
  missed k zero s h = absurd cc
  missed k (suc n) s h =
      ⊎_elim
      (λ a. let m = byte_missed hs (q + place o w k) s a in
      record { byte = k; low = omega arith; high = omega arith; why = inl m.0; is = m.1 })
      (λ a. ⊎_elim
      (λ b. let m = byte_undefined a.0 s b in
      let found = byte_found hs (q + place o w k) a.0 a.1 in
      record { byte = k; low = omega arith; high = omega arith; why = inr (found.1 ∙ m.0); is = m.1 })
      (λ b. ⊎_elim
      (λ c. let m = missed (suc k) n s c in
      record { byte = m.byte; low = omega (arith, m.low); high = omega (arith, m.high); why = m.why; is = m.is })
      (λ c. absurd (let bad : ◌≡◌ {A = Result (List Symbol) Stop} (Ok (b.0 ∷ c.0)) (Err s) = c.2 in cc))
      (err_parts (loaded_bytes o hs q w (suc k) n) (λ xs. Ok (b.0 ∷ xs)) s b.2))
      (err_parts (defined a.0) (λ x. goes_on (loaded_bytes o hs q w (suc k) n) (λ xs. Ok (x ∷ xs))) s a.2))
      (err_parts (byte_at hs (q + place o w k))
      (λ x. goes_on (defined x) (λ x. goes_on (loaded_bytes o hs q w (suc k) n) (λ xs. Ok (x ∷ xs)))) s h)

-- ---- loads

outside_load : (o : Order) (d : Model) (size : ℕ) (m : Memory) (t : IntType) (b q : ℕ) → size < q + bytes_of t
    → loaded o d size m (Number t) b q ≡ faults bounds
outside_load o d size m t b q l = let e : nat_lt size (q + bytes_of t) ≡ true = lt-ltb size (q + bytes_of t) l in
    rw e refl

module _ (o : Order) (d : Model) (inputs : List ℕ) (m : Memory) (b : ℕ) (hs : List Held) (t : IntType) (q : ℕ)
    (e : is_signed t ≡ false) (aligned : q % bytes_of t ≡ 0)
    (same : (r : ℕ) → r < length hs → m b r ≡ byte_in inputs (symbol_of hs r))
    (bytes : (r : ℕ) → MayBeByte (symbol_of hs r))
  where
    read_follows : (xs : List Symbol) → AreRead o hs q (bytes_of t) 0 (bytes_of t) xs
        → ValueFollows inputs t (Ok xs) (loaded o d (length hs) m (Number t) b q)
    read_follows xs h =
        let w = bytes_of t in
        let each : (k : ℕ) → k < w → ReadAt o hs q w k (symbol_at xs k)
        = λ k l. (let first : 0 + k ≡ k = omega arith in
        subst (λ i. ReadAt o hs q w i (symbol_at xs k)) first (h.each k l)) in
        let are : AreBytes w xs = record {
          are = h.are;
          each = λ k l. set_byte (symbol_at xs k) (subst MayBeByte (each k l).is (bytes (q + place o w k)))
              (each k l).set;
        } in
        let n = number_in inputs xs in
        let fits = number_fits inputs t xs are in
        let ranged = unsigned_range t n e fits in
        let some = bytes_of_positive t in
        let last = place o w (w - 1) in
        let at_last = each last (place_below o w (w - 1) (width_of t) (omega (arith, some))) in
        let inside : q + w ≤ length hs
        = omega (arith, at_last.inside, place_back o w (w - 1) (width_of t) (omega (arith, some)), some) in
        let value = loaded_at o d (length hs) m t b q (pos n) ranged inside aligned
        (λ j l.
        let k = place o w j in
        let below = place_below o w j (width_of t) l in
        let back = place_back o w j (width_of t) l in
        let here = each k below in
        let byte : m b (q + j) ≡ byte_in inputs (symbol_of hs (q + j)) = same (q + j) (omega (arith, inside, l)) in
        let found : symbol_of hs (q + j) ≡ symbol_at xs k = ap (λ i. symbol_of hs (q + i)) (sym back) ∙ here.is in
        byte ∙ ap (byte_in inputs) found ∙ number_of_byte inputs (symbol_at xs k) (are.each k below)
        ∙ ap number (sym (byte_of_number inputs w xs k are below) ∙ ap (byte_of k) (sym (mod-eq_of_lt fits)))) in
        (value, ranged, are)

    missed_follows : (s : Stop) → Missed o hs q (bytes_of t) 0 (bytes_of t) s
        → ValueFollows inputs t (Err s) (loaded o d (length hs) m (Number t) b q)
    missed_follows Foreign h = tt
    missed_follows Faulty h = split (cases_lt (length hs) (q + bytes_of t)) h.why
      where
        split : (length hs < q + bytes_of t) ⊎ (q + bytes_of t ≤ length hs)
            → (length hs ≤ q + place o (bytes_of t) h.byte) ⊎ (symbol_of hs (q + place o (bytes_of t) h.byte) ≡ unset)
            → (k : Kind) × (loaded o d (length hs) m (Number t) b q ≡ faults k)
        split (inl far) why = (bounds, outside_load o d (length hs) m t b q far)
        split (inr near) (inl past) =
            absurd (let l = place_below o (bytes_of t) h.byte (width_of t) (omega (arith, h.high)) in
            omega (arith, near, past, l))
        split (inr near) (inr none) =
            let l = place_below o (bytes_of t) h.byte (width_of t) (omega (arith, h.high)) in
            let byte = same (q + place o (bytes_of t) h.byte) (omega (arith, near, l)) ∙ ap (byte_in inputs) none in
            (_, loaded_undefined_at o d (length hs) m t b q (place o (bytes_of t) h.byte) near aligned l byte)

    pub load_follows : ValueFollows inputs t (loaded_bytes o hs q (bytes_of t) 0 (bytes_of t))
        (loaded o d (length hs) m (Number t) b q)
    load_follows = split (loaded_bytes o hs q (bytes_of t) 0 (bytes_of t)) refl
      where
        split : (r : Result (List Symbol) Stop) → loaded_bytes o hs q (bytes_of t) 0 (bytes_of t) ≡ r
            → ValueFollows inputs t r (loaded o d (length hs) m (Number t) b q)
        split (Ok xs) h = read_follows xs (read o hs q (bytes_of t) 0 (bytes_of t) xs h)
        split (Err s) h = missed_follows s (missed o hs q (bytes_of t) 0 (bytes_of t) s h)
