-- What writes leave.
use Rattle.std.proofs.Common.{◌≡◌, ℕ, zero, suc, ◌+◌, ◌-◌, ◌%◌, ◌<◌, ◌≤◌, pos, Bool, true, false, not}
use Rattle.std.proofs.Common.{nat_lt, if◌then◌else◌, List, [], ◌∷◌, length, get_or, Result, Ok, Err}
use Rattle.std.proofs.Common.{◌⊎◌, inl, inr, ⊎_elim, refl, sym, ◌∙◌, ap, subst, arith}
use Rattle.std.specs.Prelude.{slice_set}
use Rattle.std.proofs.lemmas.Bool.{cases_lt, cases_eq, ltb-true, ltb-false, ne_eqb}
use Rattle.std.proofs.lemmas.List.{length-set, get_or-set_same, get_or-set_other, get_or_past, set_past}
use Rattle.std.proofs.Math.Nat.{mod-eq_of_lt, div-one}
use Rattle.ep_int.specs.declared.types.IntType.{IntType}
use Rattle.ep_int.specs.declared.types.Model.{Model}
use Rattle.ep_int.specs.declared.types.Order.{Order}
use Rattle.ep_int.specs.declared.types.Scalar.TheVariants.{Int as Number}
use Rattle.ep_int.specs.Types.{bytes_of}
use Rattle.ep_int.specs.Encoding.{is_width, place, byte_of}
use Rattle.ep_int.specs.Memory.{Byte, number, int, lies_partly, replaced, bytes_of_value}
use Rattle.ep_int.proofs.Places.{width_of, place_below, place_back}
use Rattle.ep_int.proofs.Memories.{replaced_covered, replaced_beside, replaced_elsewhere}
use Rattle.ep_core.specs.Program.{Program}
use Rattle.ep_core.specs.Exec.{State, size_at, remembers as keeps}
use Rattle.ep_movers.specs.declared.Stop.{Stop}
use Rattle.ep_movers.specs.declared.Stop.TheVariants.{Foreign, Faulty}
use Rattle.ep_movers.specs.Symbols.{Symbol, unset, input_byte}
use Rattle.ep_movers.specs.Movers.{Held, held, Symbols, Machine, bytes_in, byte_written, bytes_written, remembers}
use Rattle.ep_mover_runs.specs.Following.{byte_in, symbol_at, number_in, MayBeByte, AreBytes, Follows}
use Rattle.ep_mover_runs.proofs.Numbers.{ok_parts, same_ok, byte_of_number}
use Rattle.ep_mover_runs.proofs.Operators.{number_fits}
use Rattle.ep_mover_runs.proofs.Bytes.{symbol_of, err_parts, may_be, number_of_byte, whole_byte}

-- ---- a byte

pub byte_is_written : (hs ks : List Held) (q : ℕ) (x : Symbol) → byte_written hs q x ≡ Ok ks
    → (q < length hs) × (slice_set hs q (held x true) ≡ ks)
byte_is_written hs ks q x h = split (nat_lt q (length hs)) refl h
  where
    again : (c : Bool) → ◌≡◌ {A = Result (List Held) Stop}
        (if c then Err Foreign else Ok (slice_set hs q (held x true))) (Ok ks)
        → slice_set hs q (held x true) ≡ ks
    again true h = absurd cc
    again false h = same_ok h

    split : (c : Bool) → nat_lt q (length hs) ≡ c
        → ◌≡◌ {A = Result (List Held) Stop} (if not c then Err Faulty else if (get_or hs q (held unset false)).written
        then Err Foreign else Ok (slice_set hs q (held x true))) (Ok ks)
        → (q < length hs) × (slice_set hs q (held x true) ≡ ks)
    split true e h = (ltb-true q (length hs) e, again (get_or hs q (held unset false)).written h)
    split false e h = absurd cc

pub byte_is_past : (hs : List Held) (q : ℕ) (x : Symbol) → byte_written hs q x ≡ Err Faulty → length hs ≤ q
byte_is_past hs q x h = split (nat_lt q (length hs)) refl h
  where
    again : (c : Bool) → ◌≡◌ {A = Result (List Held) Stop}
        (if c then Err Foreign else Ok (slice_set hs q (held x true))) (Err Faulty)
        → length hs ≤ q
    again true h = absurd cc
    again false h = absurd cc

    split : (c : Bool) → nat_lt q (length hs) ≡ c
        → ◌≡◌ {A = Result (List Held) Stop} (if not c then Err Faulty else if (get_or hs q (held unset false)).written
        then Err Foreign else Ok (slice_set hs q (held x true))) (Err Faulty)
        → length hs ≤ q
    split true e h = again (get_or hs q (held unset false)).written h
    split false e h = ltb-false q (length hs) e

pub symbol_set : (hs : List Held) (q : ℕ) (x : Symbol) → q < length hs → symbol_of (slice_set hs q (held x true)) q ≡ x
symbol_set hs q x l = ap (λ (h : Held). h.symbol) (get_or-set_same hs q (held x true) (held unset false) l)

pub symbol_kept : (hs : List Held) (q r : ℕ) (x : Symbol) → (r ≡ q → ⊥) → symbol_of (slice_set hs q (held x true)) r
    ≡ symbol_of hs r
symbol_kept hs q r x n = ap (λ (h : Held). h.symbol) (get_or-set_other hs q r (held x true) (held unset false) n)

-- ---- the bytes of a number

record AreWritten (o : Order) (q w k : ℕ) (xs : List Symbol) (hs ks : List Held) : Type 0 where
  are : length ks ≡ length hs
  inside : (j : ℕ) → j < length xs → q + place o w (k + j) < length hs
  each : (j : ℕ) → j < length xs → symbol_of ks (q + place o w (k + j)) ≡ symbol_at xs j
  beside : (r : ℕ) → ((j : ℕ) → j < length xs → r ≡ q + place o w (k + j) → ⊥) → symbol_of ks r ≡ symbol_of hs r

module _ (o : Order) (q w : ℕ) (width : is_width w ≡ true) where
  apart : (k j : ℕ) → suc k + j < w → q + place o w k ≡ q + place o w (suc k + j) → ⊥
  apart k j l e =
      let places : place o w k ≡ place o w (suc k + j) = omega (arith, e) in
      let same : k ≡ suc k + j
      = sym (place_back o w k width (omega arith)) ∙ ap (place o w) places ∙ place_back o w (suc k + j) width l in
      omega (arith, same)

  written : (k : ℕ) (xs : List Symbol) (hs ks : List Held) → k + length xs ≤ w → bytes_written o q w k xs hs ≡ Ok ks
      → AreWritten o q w k xs hs ks
  written k [] hs ks l h =
      let same : hs ≡ ks = same_ok h in
      subst (AreWritten o q w k [] hs) same
      (record {
        are = refl;
        inside = λ j l. absurd (omega arith);
        each = λ j l. absurd (omega arith);
        beside =
            λ r f. refl;
      })
  written k (x ∷ xs) hs ks l h =
      let a = ok_parts (byte_written hs (q + place o w k) x) (bytes_written o q w (suc k) xs) ks h in
      let b = byte_is_written hs a.0 (q + place o w k) x a.1 in
      let rest = written (suc k) xs a.0 ks (omega (arith, l)) a.2 in
      let long : length a.0 ≡ length hs = ap length (sym b.1) ∙ length-set hs (q + place o w k) (held x true) in
      let here : symbol_of ks (q + place o w k) ≡ x
      = rest.beside (q + place o w k) (λ j i e. apart k j (omega (arith, l, i)) e)
      ∙ ap (λ ls. symbol_of ls (q + place o w k)) (sym b.1) ∙ symbol_set hs (q + place o w k) x b.0 in
      record {
        are = rest.are ∙ long;
        inside = inner (λ i. q + place o w i < length hs) b.0
            (λ j i. subst (λ n. q + place o w (suc k + j) < n) long (rest.inside j i));
        each = each here rest.each;
        beside = λ r f. (let e : k + 0 ≡ k = omega arith in
            rest.beside r (λ j i e. (let n : k + suc j ≡ suc k + j = omega arith in
            f (suc j) (omega arith) (e ∙ ap (λ n. q + place o w n) (sym n))))
            ∙ ap (λ ls. symbol_of ls r) (sym b.1)
            ∙ symbol_kept hs (q + place o w k) r x (λ i. f 0 (omega arith) (i ∙ ap (λ n. q + place o w n) (sym e))));
      }
    where
      inner : (P : ℕ → Type 0) → P k → ((j : ℕ) → j < length xs → P (suc k + j)) → (j : ℕ) → j < suc (length xs) →
          P (k + j)
      inner P first later zero i = let e : k ≡ k + 0 = omega arith in subst P e first
      inner P first later (suc j) i = let e : suc k + j ≡ k + suc j = omega arith in subst P e (later j (omega arith))

      each : symbol_of ks (q + place o w k) ≡ x
          → ((j : ℕ) → j < length xs → symbol_of ks (q + place o w (suc k + j)) ≡ symbol_at xs j)
          → (j : ℕ) → j < suc (length xs) → symbol_of ks (q + place o w (k + j)) ≡ symbol_at (x ∷ xs) j
      each first later zero i = let e : k ≡ k + 0 = omega arith in
          subst (λ n. symbol_of ks (q + place o w n) ≡ x) e first
      each first later (suc j) i =
          let e : suc k + j ≡ k + suc j = omega arith in
          subst (λ n. symbol_of ks (q + place o w n) ≡ symbol_at xs j) e (later j (omega arith))

  -- a byte is outside
  pub past : (k : ℕ) (xs : List Symbol) (hs : List Held) → bytes_written o q w k xs hs ≡ Err Faulty
      → (j : ℕ) × (k ≤ j) × (j < k + length xs) × (length hs ≤ q + place o w j)
  past k [] hs h = absurd cc
  past k (x ∷ xs) hs h =
      ⊎_elim
      (λ a. (k, omega arith, omega arith, byte_is_past hs (q + place o w k) x a))
      (λ a. let b = byte_is_written hs a.0 (q + place o w k) x a.1 in
      let rest = past (suc k) xs a.0 a.2 in
      let long : length a.0 ≡ length hs = ap length (sym b.1) ∙ length-set hs (q + place o w k) (held x true) in
      let low = rest.1 in
      let high = rest.2 in
      let far = rest.3 in
      (rest.0, omega (arith, low), omega (arith, high), omega (arith, far, long)))
      (err_parts (byte_written hs (q + place o w k) x) (bytes_written o q w (suc k) xs) Faulty h)

-- ---- memory

empty : (ks : List Held) → length ks ≡ 0 → [] ≡ ks
empty [] e = refl
empty (k ∷ ks) e = absurd (omega (arith, e))

bytes_set : (m : Symbols) (b : ℕ) (ks : List Held) → length ks ≡ length (bytes_in m b) → bytes_in (slice_set m b ks) b
    ≡ ks
bytes_set m b ks e =
    ⊎_elim
    (λ l. get_or-set_same m b ks [] l)
    (λ l.
    let none : get_or m b [] ≡ [] = get_or_past m b [] l in
    ap (λ (n : Symbols). get_or n b []) (set_past m b ks l) ∙ none ∙ empty ks (e ∙ ap length none))
    (cases_lt b (length m))

pub bytes_kept : (m : Symbols) (b c : ℕ) (ks : List Held) → (c ≡ b → ⊥) → bytes_in (slice_set m b ks) c ≡ bytes_in m c
bytes_kept m b c ks n = get_or-set_other m b c ks [] n

-- some bytes of a block are new
pub record Changed (inputs : List ℕ) (hs ks : List Held) (q n : ℕ) (new : ℕ → Byte) : Type 0 where
  pub are : length ks ≡ length hs
  pub inside : (j : ℕ) → j < n → q + j < length hs → new j ≡ byte_in inputs (symbol_of ks (q + j))
  pub beside : (r : ℕ) → (r < q) ⊎ (q + n ≤ r) → symbol_of ks r ≡ symbol_of hs r
  pub bytes : (r : ℕ) → MayBeByte (symbol_of ks r)

module _ (o : Order) (p : Program) (inputs : List ℕ) (d : Model) (s : State) (m : Machine) (f : Follows o p inputs s m)
    (b q n : ℕ) (new : ℕ → Byte) (ks : List Held) (h : Changed inputs (bytes_in m.memory b) ks q n new)
  where
    here_is : (r : ℕ) → r < size_at o p b → replaced d s.memory b q n new b r ≡ byte_in inputs (symbol_of ks r)
    here_is r l =
        ⊎_elim (λ below. beside (inl below))
        (λ above. ⊎_elim
        (λ inner.
        let split : q + (r - q) ≡ r = omega arith in
        subst (λ i. replaced d s.memory b q n new b i ≡ byte_in inputs (symbol_of ks i)) split
        (replaced_covered d s.memory b q n new (r - q) (omega arith)
        ∙ h.inside (r - q) (omega arith) (omega (arith, split, l, f.sizes b))))
        (λ outer. beside (inr outer)) (cases_lt r (q + n)))
        (cases_lt r q)
      where
        beside : (r < q) ⊎ (q + n ≤ r) → replaced d s.memory b q n new b r ≡ byte_in inputs (symbol_of ks r)
        beside out =
            let was = f.memory b r l in
            let whole : lies_partly d q n (s.memory b r) r ≡ false
            = subst (λ x. lies_partly d q n x r ≡ false) (sym was)
            (whole_byte d q n inputs (symbol_of (bytes_in m.memory b) r) r) in
            replaced_beside d s.memory b q n new r out whole ∙ was ∙ ap (byte_in inputs) (sym (h.beside r out))

    pub changed_follows : Follows o p inputs (keeps (replaced d s.memory b q n new) s) (remembers m b ks)
    changed_follows =
        let same = bytes_set m.memory b ks h.are in
        record {
          sizes = λ c. ⊎_elim
              (λ e. subst (λ c. length (bytes_in (slice_set m.memory b ks) c) ≡ size_at o p c) (sym e)
              (ap length same ∙ h.are ∙ f.sizes b))
              (λ n. ap length (bytes_kept m.memory b c ks n) ∙ f.sizes c) (cases_eq c b);
          memory = λ c r l. ⊎_elim
              (λ e. subst (λ c. r < size_at o p c
              → replaced d s.memory b q n new c r
              ≡ byte_in inputs (symbol_of (bytes_in (slice_set m.memory b ks) c) r)) (sym e)
              (λ l. here_is r l ∙ ap (λ hs. byte_in inputs (symbol_of hs r)) (sym same)) l)
              (λ i. replaced_elsewhere d s.memory b q n new c r (ne_eqb b c (λ e. i (sym e))) ∙ f.memory c r l
              ∙ ap (λ hs. byte_in inputs (symbol_of hs r)) (sym (bytes_kept m.memory b c ks i))) (cases_eq c b);
          bytes = λ c r. ⊎_elim
              (λ e. subst (λ c. MayBeByte (symbol_of (bytes_in (slice_set m.memory b ks) c) r)) (sym e)
              (subst (λ hs. MayBeByte (symbol_of hs r)) (sym same) (h.bytes r)))
              (λ i. subst (λ hs. MayBeByte (symbol_of hs r)) (sym (bytes_kept m.memory b c ks i)) (f.bytes c r))
              (cases_eq c b);
          used = f.used;
          enough = f.enough;
          left = f.left;
          outputs = f.outputs;
          numbers = f.numbers;
        }

-- ---- a number

module _ (o : Order) (inputs : List ℕ) (t : IntType) (xs : List Symbol) (are : AreBytes (bytes_of t) xs) (q : ℕ)
    (hs ks : List Held) (bytes : (r : ℕ) → MayBeByte (symbol_of hs r))
    (h : bytes_written o q (bytes_of t) 0 xs hs ≡ Ok ks)
  where
    number_written : AreWritten o q (bytes_of t) 0 xs hs ks
    number_written = written o q (bytes_of t) (width_of t) 0 xs hs ks (omega (arith, are.are)) h

    at_place : (j : ℕ) → j < bytes_of t → symbol_of ks (q + j) ≡ symbol_at xs (place o (bytes_of t) j)
    at_place j l =
        let w = bytes_of t in
        let k = place o w j in
        let below = place_below o w j (width_of t) l in
        let first : 0 + k ≡ k = omega arith in
        let back : place o w (0 + k) ≡ j = ap (place o w) first ∙ place_back o w j (width_of t) l in
        ap (λ i. symbol_of ks (q + i)) (sym back) ∙ number_written.each k (omega (arith, below, are.are))

    number_beside : (r : ℕ) → (r < q) ⊎ (q + bytes_of t ≤ r) → symbol_of ks r ≡ symbol_of hs r
    number_beside r out =
        number_written.beside r (λ j l e.
        let below = place_below o (bytes_of t) (0 + j) (width_of t) (omega (arith, l, are.are)) in
        ⊎_elim (λ a. omega (arith, a, e)) (λ a. omega (arith, a, e, below)) out)

    pub number_inside : (last : ℕ) → suc last ≡ bytes_of t → q + bytes_of t ≤ length hs
    number_inside last e =
        let w = bytes_of t in
        let k = place o w last in
        let below = place_below o w last (width_of t) (omega (arith, e)) in
        let first : 0 + k ≡ k = omega arith in
        let back : place o w (0 + k) ≡ last = ap (place o w) first
        ∙ place_back o w last (width_of t) (omega (arith, e)) in
        let in_place = number_written.inside k (omega (arith, below, are.are)) in
        omega (arith, in_place, back, e)

    pub number_changed : Changed inputs hs ks q (bytes_of t)
        (bytes_of_value o (Number t) (int (pos (number_in inputs xs))))
    number_changed =
        let w = bytes_of t in
        let fits = number_fits inputs t xs are in
        record {
          are = number_written.are;
          inside = λ j l i. (let below = place_below o w j (width_of t) l in
              ap number (ap (byte_of (place o w j)) (mod-eq_of_lt fits)
              ∙ byte_of_number inputs w xs (place o w j) are below)
              ∙ sym (ap (byte_in inputs) (at_place j l)
              ∙ number_of_byte inputs (symbol_at xs (place o w j)) (are.each (place o w j) below)));
          beside = number_beside;
          bytes = λ r. ⊎_elim (λ below. subst MayBeByte (sym (number_beside r (inl below))) (bytes r))
              (λ above. ⊎_elim
              (λ inner.
              let split : q + (r - q) ≡ r = omega arith in
              let l : r - q < w = omega arith in
              subst (λ i. MayBeByte (symbol_of ks i)) split
              (subst MayBeByte (sym (at_place (r - q) l))
              (may_be (symbol_at xs (place o w (r - q)))
              (are.each (place o w (r - q)) (place_below o w (r - q) (width_of t) l)))))
              (λ outer. subst MayBeByte (sym (number_beside r (inr outer))) (bytes r)) (cases_lt r (q + w)))
              (cases_lt r q);
        }

-- ---- a byte of an input

pub input_changed : (inputs : List ℕ) (hs ks : List Held) (q i : ℕ) → ((r : ℕ) → MayBeByte (symbol_of hs r))
    → byte_written hs q (input_byte i 0) ≡ Ok ks
    → Changed inputs hs ks q 1 (λ k. number (get_or inputs i 0 % 256))
input_changed inputs hs ks q i bytes h =
    let w = byte_is_written hs ks q (input_byte i 0) h in
    let here : symbol_of ks q ≡ input_byte i 0 = ap (λ ls. symbol_of ls q) (sym w.1)
    ∙ symbol_set hs q (input_byte i 0) w.0 in
    let kept : (r : ℕ) → (r ≡ q → ⊥) → symbol_of ks r ≡ symbol_of hs r
    = λ r n. ap (λ ls. symbol_of ls r) (sym w.1) ∙ symbol_kept hs q r (input_byte i 0) n in
    record {
      are = ap length (sym w.1) ∙ length-set hs q (held (input_byte i 0) true);
      inside = λ j l k. (let e : q ≡ q + j = omega arith in
          sym (ap (λ r. byte_in inputs (symbol_of ks r)) (sym e) ∙ ap (byte_in inputs) here
          ∙ ap (λ n. number (n % 256)) (div-one (get_or inputs i 0))));
      beside = λ r out. kept r (λ e. ⊎_elim (λ a. omega (arith, a, e)) (λ a. omega (arith, a, e)) out);
      bytes = λ r. ⊎_elim
          (λ e. subst MayBeByte (sym (ap (symbol_of ks) e ∙ here)) (omega arith))
          (λ n. subst MayBeByte (sym (kept r n)) (bytes r)) (cases_eq r q);
    }
