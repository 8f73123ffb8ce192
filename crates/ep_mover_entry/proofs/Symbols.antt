-- The bytes of a mover's machine where main begins: fixed where memory has a number, and no inputs.
use Rattle.std.proofs.Common.{◌≡◌, ⊎_elim, ℕ, zero, suc, ◌+◌, ◌<◌, ◌≤◌, ℤ, Bool, true, false, List, [], ◌∷◌}
use Rattle.std.proofs.Common.{if◌then◌else◌}
use Rattle.std.proofs.Common.{length, get_or, slice_get, Ok, Err, refl, sym, ap, ◌∙◌, subst, arith}
use Rattle.std.proofs.lemmas.Bool.{cases_lt, lt-ltb}
use Rattle.std.proofs.lemmas.List.{get_or_past}
use Rattle.ep_int.specs.declared.types.Order.{Order}
use Rattle.ep_int.specs.Encoding.{byte_of, place, sum_of_bytes}
use Rattle.ep_int.specs.Memory.{undefined, number}
use Rattle.ep_int.proofs.Encodings.{byte_of-sum_of_bytes}
use Rattle.ep_core.specs.Program.{Program}
use Rattle.ep_core.specs.Exec.{size_at, result_in}
use Rattle.ep_core.specs.Runs.{start, initial}
use Rattle.ep_core.specs.WellFormed.{is_well_formed}
use Rattle.ep_movers.specs.declared.Stop.TheVariants.{Faulty}
use Rattle.ep_movers.specs.Symbols.{Symbol, unset, fixed_byte, input_byte, goes_on, number_byte, fixed_bytes, is_set}
use Rattle.ep_movers.specs.Movers.{Held, held, Machine, bytes_in, byte_at, defined, loaded_bytes, first_machine}
use Rattle.ep_mover_runs.specs.Following.{byte_in, MayBeByte, symbol_in, Follows}
use Rattle.ep_mover_runs.proofs.Starts.{start_follows}
use Rattle.ep_mover_cells.specs.Known.{symbol_at}

-- so many inputs that are 0, and then this one
abbrev inputs_with : ℕ → ℕ → List ℕ
inputs_with zero v = v ∷ []
inputs_with (suc i) v = 0 ∷ inputs_with i v

last_input : (i v : ℕ) → get_or (inputs_with i v) i 0 ≡ v
last_input zero v = refl
last_input (suc i) v = last_input i v

number_same : (v w : ℕ) → number v ≡ number w → v ≡ w
number_same v w e = cc

zero_one : ◌≡◌ {A = ℕ} 0 1 → ⊥
zero_one e = absurd (omega (arith, e))

module _ (p : Program) (formed : is_well_formed p ≡ true) (o : Order) where
  abbrev pub begins : Machine
  begins = first_machine o p (result_in (slice_get p.functions p.main))

  abbrev symbol : ℕ → ℕ → Symbol
  symbol b q = symbol_in begins.memory b q

  follows : (inputs : List ℕ) → Follows o p inputs (start o p inputs) begins
  follows inputs = start_follows o p inputs formed

  pub long : (b : ℕ) → length (bytes_in begins.memory b) ≡ size_at o p b
  long b = (follows []).sizes b

  past : (b q : ℕ) → size_at o p b ≤ q → symbol b q ≡ unset
  past b q l =
      let n = long b in
      ap (λ (h : Held). h.symbol) (get_or_past (bytes_in begins.memory b) q (held unset false) (omega (arith, l, n)))

  pub inside : (b q : ℕ) → is_set (symbol b q) ≡ true → q < size_at o p b
  inside b q h =
      ⊎_elim (λ l. l) (λ l. absurd (let e : false ≡ true = sym (ap is_set (past b q l)) ∙ h in cc))
      (cases_lt q (size_at o p b))

  at : (inputs : List ℕ) (b q : ℕ) → q < size_at o p b → initial o p b q ≡ byte_in inputs (symbol b q)
  at inputs b q l = (follows inputs).memory b q l

  -- an input would be each number that is one byte eight times
  any : (b q i k v : ℕ) → v < 256 → q < size_at o p b → k < 8 → symbol b q ≡ input_byte i k
      → initial o p b q ≡ number v
  any b q i k v h l m e =
      let n = sum_of_bytes (λ j. v) 8 in
      at (inputs_with i n) b q l ∙ ap (byte_in (inputs_with i n)) e
      ∙ ap (λ x. number (byte_of k x)) (last_input i n)
      ∙ ap number (byte_of-sum_of_bytes (λ j. v) 8 k (λ j r. h) m)

  pub no_input : (b q i k : ℕ) → symbol b q ≡ input_byte i k → ⊥
  no_input b q i k e =
      let m : k < 8 = subst MayBeByte e ((follows []).bytes b q) in
      let l = inside b q (ap is_set e) in
      zero_one (number_same 0 1
      (sym (any b q i k 0 (omega arith) l m e) ∙ any b q i k 1 (omega arith) l m e))

  pub fixed_there : (b q v : ℕ) → q < size_at o p b → initial o p b q ≡ number v → symbol b q ≡ fixed_byte v
  fixed_there b q v l h = by (symbol b q) refl
    where
      by : (x : Symbol) → symbol b q ≡ x → symbol b q ≡ fixed_byte v
      by unset e =
          absurd (let a : undefined ≡ number v = sym (ap (byte_in []) e) ∙ sym (at [] b q l) ∙ h in cc)
      by (fixed_byte w) e =
          let a : number w ≡ number v = sym (ap (byte_in []) e) ∙ sym (at [] b q l) ∙ h in
          e ∙ ap (λ z. fixed_byte z) (number_same w v a)
      by (input_byte i k) e = absurd (no_input b q i k e)

  pub set_there : (b q : ℕ) → is_set (symbol b q) ≡ true → initial o p b q ≡ undefined → ⊥
  set_there b q s h = by (symbol b q) refl
    where
      by : (x : Symbol) → symbol b q ≡ x → ⊥
      by unset e = absurd (let a : false ≡ true = sym (ap is_set e) ∙ s in cc)
      by (fixed_byte w) e =
          absurd (let a : number w ≡ undefined = sym (ap (byte_in []) e) ∙ sym (at [] b q (inside b q s)) ∙ h in cc)
      by (input_byte i k) e = no_input b q i k e

-- ---- bytes that are fixed are loaded

pub record IsFixed (hs : List Held) (q v : ℕ) : Type 0 where
  pub low : q < length hs
  pub is : symbol_at hs q ≡ fixed_byte v

module _ (o : Order) (hs : List Held) (q w : ℕ) (v : ℤ) where
  byte_is : (r x : ℕ) → IsFixed hs r x → byte_at hs r ≡ Ok (fixed_byte x)
  byte_is r x f =
      ap (λ (t : Bool). if t then Ok (symbol_at hs r) else Err Faulty) (lt-ltb r (length hs) f.low)
      ∙ ap (λ z. Ok z) f.is

  pub loaded : (k n : ℕ) → ((j : ℕ) → j < n → IsFixed hs (q + place o w (k + j)) (number_byte v (k + j)))
      → loaded_bytes o hs q w k n ≡ Ok (fixed_bytes v k n)
  loaded k zero h = refl
  loaded k (suc n) h =
      let here : k + 0 ≡ k = omega arith in
      ap (λ r. goes_on r (λ x. goes_on (defined x) (λ x. goes_on (loaded_bytes o hs q w (suc k) n) (λ xs. Ok (x ∷ xs)))))
      (byte_is (q + place o w k) (number_byte v k)
      (subst (λ i. IsFixed hs (q + place o w i) (number_byte v i)) here (h 0 (omega arith))))
      ∙ ap (λ r. goes_on r (λ xs. Ok (fixed_byte (number_byte v k) ∷ xs)))
      (loaded (suc k) n (λ j l. subst (λ i. IsFixed hs (q + place o w i) (number_byte v i)) (next k j)
      (h (suc j) (omega (arith, l)))))
    where
      next : (k j : ℕ) → k + suc j ≡ suc k + j
      next k j = omega arith
