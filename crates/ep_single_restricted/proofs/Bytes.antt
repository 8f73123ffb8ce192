-- Bytes inside of blocks stay where a memory becomes undefined outside of them.
use Rattle.std.proofs.Common.{◌≡◌, ℕ, zero, suc, ◌+◌, ◌-◌, ◌<◌, ◌≤◌, Bool, true, false, ◌&&◌, nat_eq, nat_lt, nat_le}
use Rattle.std.proofs.Common.{if◌then◌else◌, not, List, ◌∷◌, slice_get, Option, Some, None, refl, sym, ◌∙◌, ap, subst}
use Rattle.std.proofs.Common.{arith}
use Rattle.std.specs.List.{list_any}
use Rattle.std.proofs.lemmas.Bool.{and_parts, eqb-true, leb-true, ltb-true, ltb-false, lt-ltb}
use Rattle.ep_int.specs.declared.types.Model.{Model}
use Rattle.ep_int.specs.declared.types.Order.{Order}
use Rattle.ep_int.specs.declared.types.Scalar.{Scalar}
use Rattle.ep_int.specs.Types.{size_of}
use Rattle.ep_int.specs.Memory.{Byte, undefined, Memory, bounds, alignment, Found, faults}
use Rattle.ep_int.specs.Memory.{lies_partly, broken, replaced, copied, contains, forgotten, killed, bytes_from}
use Rattle.ep_int.specs.Memory.{is_undefined, uninitialised, value_of_bytes, is_outside, is_aligned, loaded}
use Rattle.ep_core.specs.Program.{Block, Program}
use Rattle.ep_core.specs.Exec.{block_size, size_at}
use Rattle.ep_core.specs.Typed.{ByteFits, MemoryFits}
use Rattle.ep_single_restricted.specs.Restricted.{is_inside, restricted}

pub within : (size q n : ℕ) → is_outside size q n ≡ false → q + n ≤ size
within size q n e = ltb-false size (q + n) e

-- a byte of a list that is broken, inside of all blocks or not
broken_one : (i t : Bool) (d : Model) (q n x : ℕ) (y : Byte)
    → (if i then (if t && lies_partly d q n y x then undefined else y) else undefined)
    ≡ (if t && lies_partly d q n (if i then y else undefined) x then undefined else (if i then y else undefined))
broken_one true t d q n x y = refl
broken_one false true d q n x y = refl
broken_one false false d q n x y = refl

forgotten_one : (i t : Bool) (bs : List ℕ) (y : Byte)
    → (if i then (if t then undefined else forgotten bs y) else undefined)
    ≡ (if t then undefined else forgotten bs (if i then y else undefined))
forgotten_one true t bs y = refl
forgotten_one false true bs y = refl
forgotten_one false false bs y = refl

-- bytes outside are undefined, and so as a program's types say
fits_if : (p : Program) (t : Bool) (x : Byte) → ByteFits p x → ByteFits p (if t then x else undefined)
fits_if p true x h = h
fits_if p false x h = tt

pub restricted_fits : (p : Program) (m : Memory) → MemoryFits p m → MemoryFits p (restricted p m)
restricted_fits p m h b q = fits_if p (is_inside (slice_get p.blocks b) q) (m b q) (h b q)

module _ (o : Order) (p : Program) where
  inside_by : (x : Option Block) (q : ℕ) → q < block_size o p x → is_inside x q ≡ true
  inside_by None q h = absurd (omega (arith, h))
  inside_by (Some x) q h = lt-ltb q x.size h

  pub inside : (b q : ℕ) → q < size_at o p b → is_inside (slice_get p.blocks b) q ≡ true
  inside b q h = inside_by (slice_get p.blocks b) q h

  pub byte_there : (m : Memory) (b q : ℕ) → q < size_at o p b → restricted p m b q ≡ m b q
  byte_there m b q h = ap (λ t. if t then m b q else undefined) (inside b q h)

  pub bytes_there : (m : Memory) (b q n : ℕ) → q + n ≤ size_at o p b
      → bytes_from (restricted p m) b q n ≡ bytes_from m b q n
  bytes_there m b q zero h = refl
  bytes_there m b q (suc n) h =
      ap (λ y. y ∷ bytes_from (restricted p m) b (q + 1) n) (byte_there m b q (omega (arith, h)))
      ∙ ap (λ ys. m b q ∷ ys) (bytes_there m b (q + 1) n (omega (arith, h)))

  -- ---- what is loaded

  abbrev of_bytes : (d : Model) (w : Scalar) (q : ℕ) → List Byte → Found
  of_bytes d w q bs =
      if not (is_aligned d w q) then faults alignment
      else if list_any is_undefined bs then faults uninitialised else value_of_bytes o w bs

  loaded_by : (m : Memory) (d : Model) (w : Scalar) (b q : ℕ) (t : Bool)
      → is_outside (size_at o p b) q (size_of d w) ≡ t
      → (if t then faults bounds else of_bytes d w q (bytes_from (restricted p m) b q (size_of d w)))
      ≡ (if t then faults bounds else of_bytes d w q (bytes_from m b q (size_of d w)))
  loaded_by m d w b q true e = refl
  loaded_by m d w b q false e =
      ap (of_bytes d w q) (bytes_there m b q (size_of d w) (within (size_at o p b) q (size_of d w) e))

  pub loaded_there : (m : Memory) (d : Model) (w : Scalar) (b q : ℕ)
      → loaded o d (size_at o p b) (restricted p m) w b q ≡ loaded o d (size_at o p b) m w b q
  loaded_there m d w b q = loaded_by m d w b q (is_outside (size_at o p b) q (size_of d w)) refl

  -- ---- a place with new bytes

  module _ (d : Model) (m : Memory) (b q n : ℕ) (f g : ℕ → Byte) (h : q + n ≤ size_at o p b)
      (same : (k : ℕ) → k < n → f k ≡ g k) where
    place_byte : (c x : ℕ) → nat_eq b c ≡ true → (nat_le q x && nat_lt x (q + n)) ≡ true
        → (if is_inside (slice_get p.blocks c) x then f (x - q) else undefined) ≡ g (x - q)
    place_byte c x e i =
        let r = and_parts (nat_le q x) (nat_lt x (q + n)) i in
        let low = leb-true q x r.0 in
        let high = ltb-true x (q + n) r.1 in
        let there : x < size_at o p b = omega (arith, high, h) in
        ap (λ t. if t then f (x - q) else undefined)
        (inside c x (subst (λ z. x < size_at o p z) (eqb-true b c e) there))
        ∙ same (x - q) (omega (arith, low, high))

    replaced_by : (c x : ℕ) (t : Bool) → (nat_eq b c && (nat_le q x && nat_lt x (q + n))) ≡ t
        → (if is_inside (slice_get p.blocks c) x then (if t then f (x - q) else broken d m b q n c x) else undefined)
        ≡ (if t then g (x - q) else broken d (restricted p m) b q n c x)
    replaced_by c x true e =
        let r = and_parts (nat_eq b c) (nat_le q x && nat_lt x (q + n)) e in place_byte c x r.0 r.1
    replaced_by c x false e = broken_one (is_inside (slice_get p.blocks c) x) (nat_eq b c) d q n x (m c x)

    pub replaced_there : restricted p (replaced d m b q n f) ≡ replaced d (restricted p m) b q n g
    replaced_there = λ i c x. replaced_by c x (nat_eq b c && (nat_le q x && nat_lt x (q + n))) refl i

  pub copied_there : (d : Model) (m : Memory) (b q c r n : ℕ) → q + n ≤ size_at o p b → r + n ≤ size_at o p c
      → restricted p (copied d m b q c r n) ≡ copied d (restricted p m) b q c r n
  copied_there d m b q c r n h i =
      replaced_there d m b q n (λ k. broken d m c r n c (r + k)) (λ k. broken d (restricted p m) c r n c (r + k)) h
      (λ k l. ap (λ y. if nat_eq c c && lies_partly d r n y (r + k) then undefined else y)
      (sym (byte_there m c (r + k) (omega (arith, i, l)))))

  pub killed_there : (bs : List ℕ) (m : Memory) → restricted p (killed bs m) ≡ killed bs (restricted p m)
  killed_there bs m =
      λ i b q. forgotten_one (is_inside (slice_get p.blocks b) q) (contains b bs) bs (m b q) i
