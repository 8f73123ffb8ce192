-- The memory at the start of a mover.
use Rattle.std.proofs.Common.{◌≡◌, ℕ, zero, suc, ◌+◌, ◌-◌, ◌*◌, ◌%◌, ◌^◌, ◌<◌, ◌≤◌, ℤ, pos, negsuc, Bool, true, false}
use Rattle.std.proofs.Common.{◌||◌}
use Rattle.std.proofs.Common.{if◌then◌else◌, List, [], ◌∷◌, length, slice_get, Option, Some, None, ◌⊎◌, inl, inr}
use Rattle.std.proofs.Common.{⊎_elim, refl, sym}
use Rattle.std.proofs.Common.{◌∙◌, ap, subst, arith}
use Rattle.std.specs.Prelude.{slice_set}
use Rattle.std.specs.List.{list_all, fold}
use Rattle.std.proofs.lemmas.Bool.{and_parts, cases_lt}
use Rattle.std.proofs.lemmas.Int.{ints}
use Rattle.std.proofs.lemmas.List.{length-set, get_or-set_same, get_or-set_other, get_or_past}
use Rattle.std.proofs.Math.Nat.{mod-eq_of_lt, add-mul-mod_self_right}
use Rattle.ep_int.specs.declared.types.IntType.{IntType}
use Rattle.ep_int.specs.declared.types.IntType.TheVariants.{I8, U8, I16, U16, I32, U32, I64, U64}
use Rattle.ep_int.specs.declared.types.Order.{Order}
use Rattle.ep_int.specs.declared.types.Scalar.{Scalar}
use Rattle.ep_int.specs.declared.types.Scalar.TheVariants.{Int as Number}
use Rattle.ep_int.specs.Types.{bytes_of, bits_of, InRange, residue, representation}
use Rattle.ep_int.specs.Arith.{is_in_range}
use Rattle.ep_int.specs.Encoding.{is_width, place, byte_of}
use Rattle.ep_int.specs.Memory.{undefined, number, Memory, int, stored, bytes_of_value}
use Rattle.ep_int.proofs.Encodings.{byte_below, bytes_pow, sum_of_bytes-byte_of, byte_of-sum_of_bytes}
use Rattle.ep_int.proofs.Places.{width_of, place_below, place_back}
use Rattle.ep_int.proofs.Arithmetic.{in_range_from_true}
use Rattle.ep_core.specs.Program.{Block, Init, Program}
use Rattle.ep_core.specs.Exec.{State, model, size_at, block_size, result_in}
use Rattle.ep_core.specs.Runs.{is_global, is_result, blank, start}
use Rattle.ep_core.specs.WellFormed.{init_fits, is_well_formed}
use Rattle.ep_core.proofs.Operands.{first_values_fit}
use Rattle.ep_movers.specs.Symbols.{Symbol, unset, fixed_byte, number_byte, fixed_bytes}
use Rattle.ep_movers.specs.Movers.{Held, held, Symbols, Machine, bytes_in, blank_bytes, blank_blocks, first_bytes}
use Rattle.ep_movers.specs.Movers.{first_value}
use Rattle.ep_movers.specs.Movers.{first_machine}
use Rattle.ep_mover_runs.specs.Following.{byte_in, symbol_at, MayBeByte, Follows}
use Rattle.ep_mover_runs.proofs.Numbers.{at_first, length_fixed}
use Rattle.ep_mover_runs.proofs.Bytes.{symbol_of}
use Rattle.ep_mover_runs.proofs.Writes.{Changed, changed_follows}

-- ---- bytes of first values

byte_of_rest : (n w k : ℕ) → k < w → byte_of k (n % 256 ^ w) ≡ byte_of k n
byte_of_rest n w k l =
    ap (byte_of k) (sym (sum_of_bytes-byte_of n w))
    ∙ byte_of-sum_of_bytes (λ j. byte_of j n) w k (λ j i. byte_below j n) l

-- above its type a number has the bits of its sign alone
wide_rest : (c m n : ℕ) → n < m → (c * m + (m - 1 - n)) % m ≡ m - 1 - n % m
wide_rest c m n l =
    let turned : c * m + (m - 1 - n) ≡ (m - 1 - n) + c * m = omega arith in
    ap (λ x. x % m) turned ∙ add-mul-mod_self_right (m - 1 - n) c m ∙ mod-eq_of_lt (omega arith)
    ∙ ap (λ x. m - 1 - x) (sym (mod-eq_of_lt l))

negative_wide : (c m n : ℕ) → n < m → 2 ^ 64 ≡ suc c * m → n < 2 ^ 64 → residue (2 ^ 64) (negsuc n) % m ≡ m - 1 - n % m
negative_wide c m n l e h =
    let same : 2 ^ 64 - 1 - n % 2 ^ 64 ≡ c * m + (m - 1 - n)
    = ap (λ x. 2 ^ 64 - 1 - x) (mod-eq_of_lt h) ∙ omega (arith, e, l) in
    ap (λ x. x % m) same ∙ wide_rest c m n l

in_wide : (t : IntType) (v : ℤ) → InRange t v → residue (2 ^ 64) v % 2 ^ bits_of t ≡ representation t v
in_wide t (pos n) h = positive t h
  where
    small : (m : ℕ) → n < m → m ≤ 2 ^ 64 → n % 2 ^ 64 % m ≡ n % m
    small m l i = ap (λ x. x % m) (mod-eq_of_lt (omega (arith, l, i)))

    positive : (t : IntType) → InRange t (pos n) → n % 2 ^ 64 % 2 ^ bits_of t ≡ n % 2 ^ bits_of t
    positive I8 h = let r = h.high in small (2 ^ 8) (omega (arith, ints, r)) (omega arith)
    positive U8 h = let r = h.high in small (2 ^ 8) (omega (arith, ints, r)) (omega arith)
    positive I16 h = let r = h.high in small (2 ^ 16) (omega (arith, ints, r)) (omega arith)
    positive U16 h = let r = h.high in small (2 ^ 16) (omega (arith, ints, r)) (omega arith)
    positive I32 h = let r = h.high in small (2 ^ 32) (omega (arith, ints, r)) (omega arith)
    positive U32 h = let r = h.high in small (2 ^ 32) (omega (arith, ints, r)) (omega arith)
    positive I64 h = let r = h.high in small (2 ^ 64) (omega (arith, ints, r)) (omega arith)
    positive U64 h = let r = h.high in small (2 ^ 64) (omega (arith, ints, r)) (omega arith)
in_wide I8 (negsuc n) h =
    let r = h.low in negative_wide (2 ^ 56 - 1) (2 ^ 8) n (omega (arith, ints, r)) refl (omega (arith, ints, r))
in_wide I16 (negsuc n) h =
    let r = h.low in negative_wide (2 ^ 48 - 1) (2 ^ 16) n (omega (arith, ints, r)) refl (omega (arith, ints, r))
in_wide I32 (negsuc n) h =
    let r = h.low in negative_wide (2 ^ 32 - 1) (2 ^ 32) n (omega (arith, ints, r)) refl (omega (arith, ints, r))
in_wide I64 (negsuc n) h =
    let r = h.low in negative_wide 0 (2 ^ 64) n (omega (arith, ints, r)) refl (omega (arith, ints, r))
in_wide U8 (negsuc n) h = absurd (let r = h.low in omega (arith, ints, r))
in_wide U16 (negsuc n) h = absurd (let r = h.low in omega (arith, ints, r))
in_wide U32 (negsuc n) h = absurd (let r = h.low in omega (arith, ints, r))
in_wide U64 (negsuc n) h = absurd (let r = h.low in omega (arith, ints, r))

first_byte : (t : IntType) (v : ℤ) (k : ℕ) → InRange t v → k < bytes_of t → byte_of k (representation t v)
    ≡ number_byte v k
first_byte t v k h l =
    ap (byte_of k) (sym (in_wide t v h))
    ∙ ap (λ m. byte_of k (residue (2 ^ 64) v % m)) (sym (bytes_pow (bytes_of t)))
    ∙ byte_of_rest (residue (2 ^ 64) v) (bytes_of t) k l

past_symbol : (hs : List Held) (r : ℕ) → length hs ≤ r → symbol_of hs r ≡ unset
past_symbol hs r l = ap (λ (h : Held). h.symbol) (get_or_past hs r (held unset false) l)

-- ---- a first value

record AreFirst (o : Order) (q w k : ℕ) (xs : List Symbol) (hs ks : List Held) : Type 0 where
  are : length ks ≡ length hs
  each : (j : ℕ) → j < length xs → q + place o w (k + j) < length hs
      → symbol_of ks (q + place o w (k + j)) ≡ symbol_at xs j
  beside : (r : ℕ) → ((j : ℕ) → j < length xs → r ≡ q + place o w (k + j) → ⊥) → symbol_of ks r ≡ symbol_of hs r

module _ (o : Order) (q w : ℕ) (width : is_width w ≡ true) where
  apart : (k j : ℕ) → suc k + j < w → q + place o w k ≡ q + place o w (suc k + j) → ⊥
  apart k j l e =
      let places : place o w k ≡ place o w (suc k + j) = omega (arith, e) in
      let same : k ≡ suc k + j
      = sym (place_back o w k width (omega arith)) ∙ ap (place o w) places ∙ place_back o w (suc k + j) width l in
      omega (arith, same)

  first_written : (k : ℕ) (xs : List Symbol) (hs : List Held) → k + length xs ≤ w
      → AreFirst o q w k xs hs (first_bytes o q w k xs hs)
  first_written k [] hs l = record { are = refl; each = λ j l. absurd (omega arith); beside = λ r f. refl }
  first_written k (x ∷ xs) hs l =
      let a = slice_set hs (q + place o w k) (held x false) in
      let rest = first_written (suc k) xs a (omega (arith, l)) in
      let long : length a ≡ length hs = length-set hs (q + place o w k) (held x false) in
      record {
        are = rest.are ∙ long;
        each = each (first_bytes o q w (suc k) xs a)
            (λ i. rest.beside (q + place o w k) (λ j n e. apart k j (omega (arith, l, n)) e)
            ∙ ap (λ (h : Held). h.symbol) (get_or-set_same hs (q + place o w k) (held x false) (held unset false) i))
            (λ j n i. rest.each j n (subst (λ m. q + place o w (suc k + j) < m) (sym long) i));
        beside = λ r f. (let e : k + 0 ≡ k = omega arith in
            rest.beside r (λ j i e. (let n : k + suc j ≡ suc k + j = omega arith in
            f (suc j) (omega arith) (e ∙ ap (λ n. q + place o w n) (sym n))))
            ∙ ap (λ (h : Held). h.symbol) (get_or-set_other hs (q + place o w k) r (held x false) (held unset false)
            (λ i. f 0 (omega arith) (i ∙ ap (λ n. q + place o w n) (sym e)))));
      }
    where
      each : (ks : List Held) → (q + place o w k < length hs → symbol_of ks (q + place o w k) ≡ x)
          → ((j : ℕ) → j < length xs → q + place o w (suc k + j) < length hs
          → symbol_of ks (q + place o w (suc k + j)) ≡ symbol_at xs j)
          → (j : ℕ) → j < suc (length xs) → q + place o w (k + j) < length hs
          → symbol_of ks (q + place o w (k + j)) ≡ symbol_at (x ∷ xs) j
      each ks first later zero n i =
          let e : k ≡ k + 0 = omega arith in
          subst (λ n. q + place o w n < length hs → symbol_of ks (q + place o w n) ≡ x) e first i
      each ks first later (suc j) n i =
          let e : suc k + j ≡ k + suc j = omega arith in
          subst (λ n. q + place o w n < length hs → symbol_of ks (q + place o w n) ≡ symbol_at xs j) e
          (later j (omega arith)) i

module _ (o : Order) (inputs : List ℕ) (t : IntType) (v : ℤ) (range : InRange t v) (q : ℕ) (hs : List Held)
    (bytes : (r : ℕ) → MayBeByte (symbol_of hs r))
  where
    abbrev after : List Held
    after = first_bytes o q (bytes_of t) 0 (fixed_bytes v 0 (bytes_of t)) hs

    value_first : AreFirst o q (bytes_of t) 0 (fixed_bytes v 0 (bytes_of t)) hs after
    value_first = first_written o q (bytes_of t) (width_of t) 0 (fixed_bytes v 0 (bytes_of t)) hs
        (omega (arith, length_fixed v 0 (bytes_of t)))

    first_at : (j : ℕ) → j < bytes_of t → q + j < length hs
        → symbol_of after (q + j) ≡ fixed_byte (number_byte v (place o (bytes_of t) j))
    first_at j l i =
        let w = bytes_of t in
        let k = place o w j in
        let below = place_below o w j (width_of t) l in
        let first : 0 + k ≡ k = omega arith in
        let back : place o w (0 + k) ≡ j = ap (place o w) first ∙ place_back o w j (width_of t) l in
        ap (λ i. symbol_of after (q + i)) (sym back)
        ∙ value_first.each k (omega (arith, below, length_fixed v 0 w)) (omega (arith, i, back))
        ∙ at_first v w k below

    first_beside : (r : ℕ) → (r < q) ⊎ (q + bytes_of t ≤ r) → symbol_of after r ≡ symbol_of hs r
    first_beside r out =
        value_first.beside r (λ j l e.
        let below = place_below o (bytes_of t) (0 + j) (width_of t) (omega (arith, l, length_fixed v 0 (bytes_of t))) in
        ⊎_elim (λ a. omega (arith, a, e)) (λ a. omega (arith, a, e, below)) out)

    first_changed : Changed inputs hs after q (bytes_of t) (bytes_of_value o (Number t) (int v))
    first_changed = record {
      are = value_first.are;
      inside = λ j l i. ap number (first_byte t v (place o (bytes_of t) j) range
          (place_below o (bytes_of t) j (width_of t) l))
          ∙ ap (byte_in inputs) (sym (first_at j l i));
      beside = first_beside;
      bytes = λ r. ⊎_elim (λ below. subst MayBeByte (sym (first_beside r (inl below))) (bytes r))
          (λ above. ⊎_elim (λ inner. within r above inner)
          (λ outer. subst MayBeByte (sym (first_beside r (inr outer))) (bytes r)) (cases_lt r (q + bytes_of t)))
          (cases_lt r q);
    }
      where
        within : (r : ℕ) → q ≤ r → r < q + bytes_of t → MayBeByte (symbol_of after r)
        within r above inner =
            ⊎_elim
            (λ i.
            let split : q + (r - q) ≡ r = omega arith in
            subst (λ j. MayBeByte (symbol_of after j)) split
            (subst MayBeByte (sym (first_at (r - q) (omega arith) (omega (arith, split, i))))
            (byte_below (place o (bytes_of t) (r - q)) (residue (2 ^ 64) v))))
            (λ i. subst MayBeByte (sym (past_symbol after r (omega (arith, value_first.are, i)))) tt)
            (cases_lt r (length hs))

-- ---- blank blocks

length_blank : (z : Bool) (n : ℕ) → length (blank_bytes z n) ≡ n
length_blank z zero = refl
length_blank z (suc n) = ap suc (length_blank z n)

pub at_blank : (z : Bool) (n q : ℕ) → q < n → symbol_of (blank_bytes z n) q ≡ (if z then fixed_byte 0 else unset)
at_blank z zero q l = absurd (omega arith)
at_blank z (suc n) zero l = refl
at_blank z (suc n) (suc q) l = at_blank z n q (omega arith)

pub blank_block : (r : Option (ℕ × Scalar)) (n k : ℕ) (bs : List Block) (d : Block) → slice_get bs k ≡ Some d
    → bytes_in (blank_blocks r n bs) k ≡ blank_bytes (d.global || is_result r (n + k)) d.size
blank_block r n k [] d e = absurd cc
blank_block r n zero (b ∷ bs) d e =
    let same : b ≡ d = cc in
    let here : n ≡ n + 0 = omega arith in
    ap (λ (x : Block). blank_bytes (x.global || is_result r n) x.size) same
    ∙ ap (λ j. blank_bytes (d.global || is_result r j) d.size) here
blank_block r n (suc k) (b ∷ bs) d e =
    let here : suc n + k ≡ n + suc k = omega arith in
    blank_block r (suc n) k bs d e ∙ ap (λ j. blank_bytes (d.global || is_result r j) d.size) here

no_block : (r : Option (ℕ × Scalar)) (n k : ℕ) (bs : List Block) → slice_get bs k ≡ None
    → bytes_in (blank_blocks r n bs) k ≡ []
no_block r n k [] e = refl
no_block r n zero (b ∷ bs) e = absurd cc
no_block r n (suc k) (b ∷ bs) e = no_block r (suc n) k bs e

may_be_chosen : (z : Bool) → MayBeByte (if z then fixed_byte 0 else unset)
may_be_chosen true = omega arith
may_be_chosen false = tt

module _ (o : Order) (p : Program) (inputs : List ℕ) where
  abbrev state_with : Memory → State
  state_with m = record { memory = m; inputs = inputs; used = 0; outputs = []; tests = []; joint_tests = [] }

  abbrev machine_with : Symbols → Machine
  machine_with ms = record { memory = ms; inputs = 0; outputs = [] }

  -- a block at the start
  record IsBlank (r : Option (ℕ × Scalar)) (b : ℕ) (hs : List Held) : Type 0 where
    size : length hs ≡ size_at o p b
    memory : (q : ℕ) → q < size_at o p b → blank p.blocks r b q ≡ byte_in inputs (symbol_of hs q)
    bytes : (q : ℕ) → MayBeByte (symbol_of hs q)

  chosen_byte : (z : Bool) → (if z then number 0 else undefined) ≡ byte_in inputs (if z then fixed_byte 0 else unset)
  chosen_byte true = refl
  chosen_byte false = refl

  is_blank : (r : Option (ℕ × Scalar)) (b : ℕ) (x : Option Block) → slice_get p.blocks b ≡ x
      → IsBlank r b (bytes_in (blank_blocks r 0 p.blocks) b)
  is_blank r b None e =
      let none = no_block r 0 b p.blocks e in
      let empty : size_at o p b ≡ 0 = ap (block_size o p) e in
      record {
        size = ap length none ∙ sym empty;
        memory = λ q l. absurd (omega (arith, l, empty));
        bytes = λ q. subst (λ (hs : List Held). MayBeByte (symbol_of hs q)) (sym none) tt;
      }
  is_blank r b (Some d) e =
      let z = d.global || is_result r b in
      let first : 0 + b ≡ b = omega arith in
      let hs : bytes_in (blank_blocks r 0 p.blocks) b ≡ blank_bytes z d.size
      = blank_block r 0 b p.blocks d e ∙ ap (λ j. blank_bytes (d.global || is_result r j) d.size) first in
      let size : size_at o p b ≡ d.size = ap (block_size o p) e in
      let blanks : IsBlank r b (blank_bytes z d.size) = record {
        size = length_blank z d.size ∙ sym size;
        memory = λ q l. ap (λ (x : Option Block). if is_global x || is_result r b then number 0 else undefined) e
            ∙ chosen_byte z ∙ ap (byte_in inputs) (sym (at_blank z d.size q (omega (arith, l, size))));
        bytes = λ q. ⊎_elim (λ l. subst MayBeByte (sym (at_blank z d.size q l)) (may_be_chosen z))
            (λ l. subst MayBeByte (sym (past_symbol (blank_bytes z d.size) q
            (omega (arith, l, length_blank z d.size)))) tt)
            (cases_lt q d.size);
      } in
      subst (IsBlank r b) (sym hs) blanks

  blank_follows : (r : Option (ℕ × Scalar))
      → Follows o p inputs (state_with (blank p.blocks r)) (machine_with (blank_blocks r 0 p.blocks))
  blank_follows r =
      let at = λ (b : ℕ). is_blank r b (slice_get p.blocks b) refl in
      record {
        sizes = λ b. (at b).size;
        memory = λ b q l. (at b).memory q l;
        bytes = λ b q. (at b).bytes q;
        used = refl;
        enough = omega arith;
        left = refl;
        outputs = refl;
        numbers = tt;
      }

  firsts_follow : (is : List Init) → list_all (init_fits p.types p.blocks) is ≡ true → (m : Memory) (ms : Symbols)
      → Follows o p inputs (state_with m) (machine_with ms)
      → Follows o p inputs
      (state_with (fold (λ (m : Memory) (i : Init). stored o (model o p) m (Number i.t) i.block i.offset
      (int i.value)) m is))
      (machine_with (fold (first_value o) ms is))
  firsts_follow [] h m ms f = f
  firsts_follow (i ∷ is) h m ms f =
      let s = and_parts _ (list_all (init_fits p.types p.blocks) is) h in
      let v = in_range_from_true i.t i.value (and_parts _ (is_in_range i.t i.value) s.0).1 in
      firsts_follow is s.1 (stored o (model o p) m (Number i.t) i.block i.offset (int i.value)) (first_value o ms i)
      (changed_follows o p inputs (model o p) (state_with m) (machine_with ms) f i.block i.offset (bytes_of i.t)
      (bytes_of_value o (Number i.t) (int i.value))
      (first_bytes o i.offset (bytes_of i.t) 0 (fixed_bytes i.value 0 (bytes_of i.t)) (bytes_in ms i.block))
      (first_changed o inputs i.t i.value v i.offset (bytes_in ms i.block) (f.bytes i.block)))

  pub start_follows : is_well_formed p ≡ true
      → Follows o p inputs (start o p inputs) (first_machine o p (result_in (slice_get p.functions p.main)))
  start_follows formed =
      firsts_follow p.init (first_values_fit p formed) (blank p.blocks (result_in (slice_get p.functions p.main)))
      (blank_blocks (result_in (slice_get p.functions p.main)) 0 p.blocks)
      (blank_follows (result_in (slice_get p.functions p.main)))
