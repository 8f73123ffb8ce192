-- Reads and writes of places, as the memory of a store has them.
use Rattle.std.proofs.Common.{◌≡◌, ℕ, ◌+◌, ◌%◌, ◌<◌, ◌≤◌, ◌≢◌, ◌⊎◌, ⊎_elim, inl, inr, ℤ, unsigned_abs, Bool, true}
use Rattle.std.proofs.Common.{false, ◌&&◌, nat_eq, nat_lt, if◌then◌else◌, List, length, take, drop, map, refl, sym}
use Rattle.std.proofs.Common.{◌∙◌, ap, subst, arith}
use Rattle.std.specs.List.{list_any}
use Rattle.std.proofs.lemmas.Bool.{ltb-false, eq-eqb, and_cases}
use Rattle.ep_int.specs.declared.types.Order.{Order}
use Rattle.ep_int.specs.declared.types.Scalar.{Scalar}
use Rattle.ep_int.specs.Types.{size_of}
use Rattle.ep_int.specs.Memory.{Byte, broken, replaced, loaded, Found, bytes_from, is_undefined, value_of_bytes}
use Rattle.ep_int.specs.Memory.{faults, uninitialised}
use Rattle.ep_bytes.specs.declared.types.Byte.{Byte as Cell}
use Rattle.ep_bytes.specs.declared.cells.ByteRange.{ByteRange}
use Rattle.ep_bytes.specs.declared.store.Block.{Block}
use Rattle.ep_bytes.specs.View.{byte_in, found_at}
use Rattle.ep_bytes.specs.Cells.{taken_from, IsReplaced}
use Rattle.ep_bytes.specs.StoreView.{StoreView, AreLaid, IsPlace, block_of, count_of, size_in, memory_in, memory_of}
use Rattle.ep_bytes.proofs.Stores.{replaced_in, taken_is, bytes_in_block, blocks_apart}

pub place_fits : (s : StoreView) (b : ℕ) (o : ℤ) (n : ℕ) (p : ByteRange) → IsPlace s b o n p → p.here + p.count ≤ size_in s b
place_fits s b o n p is =
    let h = ltb-false (size_in s b) (unsigned_abs o + n) is.inside in omega (arith, is.here, is.count)

-- ---- writes

replaced_there : (s : StoreView) (new : List Cell) (b : ℕ) (o : ℤ) (n : ℕ) (p : ByteRange) (whole : Block)
    → (f : ℕ → Cell) (g : ℕ → Byte)
    → AreLaid s.blocks (length s.cells) → b < count_of s → IsPlace s b o n p → whole ≡ block_of s.blocks b
    → IsReplaced s.model s.cells new p whole.size f → ((k : ℕ) → k < n → byte_in (f k) ≡ g k)
    → memory_of s.blocks new ≡ replaced s.model (memory_in s) b (unsigned_abs o) n g
replaced_there s new b o n p whole f g laid there is known written h =
    let w = subst (λ (x : Block). IsReplaced s.model s.cells new p x.size f) known written in
    replaced_in s.model s.blocks s.cells new b p f g laid there is.start (place_fits s b o n p is) w
    (λ k l. h k (subst (λ m. k < m) is.count l))
    ∙ ap (λ q. replaced s.model (memory_in s) b q p.count g) is.here
    ∙ ap (λ q. replaced s.model (memory_in s) b (unsigned_abs o) q g) is.count

pub replaced_place : {s now : StoreView} → s ≡ now
    → (new : List Cell) (b : ℕ) (o : ℤ) (n : ℕ) (p : ByteRange) (whole : Block) (f : ℕ → Cell) (g : ℕ → Byte)
    → AreLaid s.blocks (length s.cells) → b < count_of now → IsPlace now b o n p → whole ≡ block_of s.blocks b
    → IsReplaced s.model s.cells new p whole.size f → ((k : ℕ) → k < n → byte_in (f k) ≡ g k)
    → memory_of s.blocks new ≡ replaced now.model (memory_in now) b (unsigned_abs o) n g
replaced_place {s} {now} e new b o n p whole f g laid there is known written h =
    replaced_there s new b o n p whole f g laid (subst (λ (x : StoreView). b < count_of x) (sym e) there)
    (subst (λ (x : StoreView). IsPlace x b o n p) (sym e) is) known written h
    ∙ ap (λ (x : StoreView). replaced x.model (memory_in x) b (unsigned_abs o) n g) e

-- ---- copies

taken_there : (s : StoreView) (c : ℕ) (o : ℤ) (n : ℕ) (q : ByteRange) → IsPlace s c o n q → (k : ℕ) → k < n
    → byte_in (taken_from s.model s.cells q k)
    ≡ broken s.model (memory_in s) c (unsigned_abs o) n c (unsigned_abs o + k)
taken_there s c o n q is k h =
    taken_is s.model s.blocks s.cells c q k is.start (place_fits s c o n q is) (subst (λ m. k < m) (sym is.count) h)
    ∙ ap (λ x. broken s.model (memory_in s) c x q.count c (x + k)) is.here
    ∙ ap (λ m. broken s.model (memory_in s) c (unsigned_abs o) m c (unsigned_abs o + k)) is.count

-- what a copy takes from a place
pub taken_place : {s now : StoreView} → s ≡ now → (c : ℕ) (o : ℤ) (n : ℕ) (q : ByteRange) → IsPlace now c o n q → (k : ℕ) → k < n
    → byte_in (taken_from s.model s.cells q k)
    ≡ broken now.model (memory_in now) c (unsigned_abs o) n c (unsigned_abs o + k)
taken_place {s} {now} e c o n q is k h =
    taken_there s c o n q (subst (λ (x : StoreView). IsPlace x c o n q) (sym e) is) k h
    ∙ ap (λ (x : StoreView). broken x.model (memory_in x) c (unsigned_abs o) n c (unsigned_abs o + k)) e

-- two places of a block that don't overlap
pub apart_within : (s : StoreView) (b c : ℕ) (o r : ℤ) (n : ℕ) (p q : ByteRange) → b ≡ c → IsPlace s b o n p → IsPlace s c r n q
    → (nat_lt p.here (q.here + p.count) && nat_lt q.here (p.here + p.count)) ≡ false
    → (p.start + p.here + p.count ≤ q.start + q.here) ⊎ (q.start + q.here + q.count ≤ p.start + p.here)
apart_within s b c o r n p q e t f h =
    let start : p.start ≡ q.start = t.start ∙ ap (λ x. (block_of s.blocks x).start) e ∙ sym f.start in
    ⊎_elim
    (λ above. (let l = ltb-false p.here (q.here + p.count) above in inr (omega (arith, t.count, f.count))))
    (λ below. (let l = ltb-false q.here (p.here + p.count) below in inl (omega (arith, t.count, f.count))))
    (and_cases (nat_lt p.here (q.here + p.count)) (nat_lt q.here (p.here + p.count)) h)

-- places of two blocks
pub apart_between : {s now : StoreView} → s ≡ now → (b c : ℕ) (o r : ℤ) (n : ℕ) (p q : ByteRange) → b ≢ c
    → AreLaid s.blocks (length s.cells) → b < count_of now → c < count_of now → IsPlace now b o n p
    → IsPlace now c r n q
    → (p.start + p.here + p.count ≤ q.start + q.here) ⊎ (q.start + q.here + q.count ≤ p.start + p.here)
apart_between {s} {now} e b c o r n p q apart laid lb lc t f =
    let laid_now : AreLaid now.blocks (length now.cells) =
    subst (λ (x : StoreView). AreLaid x.blocks (length x.cells)) e laid in
    let first = place_fits now b o n p t in
    let second = place_fits now c r n q f in
    ⊎_elim (λ h. inl (omega (arith, t.start, t.count, f.start, f.count)))
    (λ h. inr (omega (arith, t.start, t.count, f.start, f.count)))
    (blocks_apart now.blocks (length now.cells) b c p.here q.here n laid_now lb lc apart (omega (arith, t.count))
    (omega (arith, f.count)))

-- ---- reads

-- what is found in bytes of which some are undefined, or none
abbrev pub either : Order → Scalar → List Cell → (undefined : Bool) → Found
either order what bytes some = if some then faults uninitialised else value_of_bytes order what (map byte_in bytes)

found_there : (order : Order) (what : Scalar) (s : StoreView) (b : ℕ) (o : ℤ) (p : ByteRange) (bytes : List Cell)
    → AreLaid s.blocks (length s.cells) → IsPlace s b o (size_of s.model what) p → p.here % size_of s.model what ≡ 0
    → bytes ≡ take p.count (drop (p.start + p.here) s.cells)
    → found_at o (loaded order s.model (size_in s b) (memory_in s) what b)
    ≡ either order what bytes (list_any is_undefined (map byte_in bytes))
found_there order what s b o p bytes laid is aligned read =
    let here = unsigned_abs o in
    let n = size_of s.model what in
    let fits : here + n ≤ size_in s b = ltb-false (size_in s b) (here + n) is.inside in
    let sign = is.sign in
    let inside = is.inside in
    let divides : nat_eq (here % n) 0 ≡ true = eq-eqb (here % n) 0 (subst (λ x. x % n ≡ 0) is.here aligned) in
    let all : bytes_from (memory_in s) b here n ≡ map byte_in bytes =
    bytes_in_block s.blocks s.cells b here n laid fits
    ∙ ap (λ x. map byte_in (take n (drop (x + here) s.cells))) (sym is.start)
    ∙ ap (λ x. map byte_in (take n (drop (p.start + x) s.cells))) (sym is.here)
    ∙ ap (λ x. map byte_in (take x (drop (p.start + p.here) s.cells))) (sym is.count)
    ∙ ap (map byte_in) (sym read) in
    rw (sign, inside, divides, all) refl

-- what a read finds in a place at which the scalar may stand
pub found_place : {s now : StoreView} → s ≡ now
    → (order : Order) (what : Scalar) (b : ℕ) (o : ℤ) (p : ByteRange) (bytes : List Cell)
    → AreLaid s.blocks (length s.cells) → IsPlace now b o (size_of now.model what) p
    → p.here % size_of now.model what ≡ 0 → bytes ≡ take p.count (drop (p.start + p.here) s.cells)
    → found_at o (loaded order now.model (size_in now b) (memory_in now) what b)
    ≡ either order what bytes (list_any is_undefined (map byte_in bytes))
found_place {s} {now} e order what b o p bytes laid is aligned read =
    let P : StoreView → Type 0 = λ x. found_at o (loaded order x.model (size_in x b) (memory_in x) what b)
    ≡ either order what bytes (list_any is_undefined (map byte_in bytes)) in
    subst P e (found_there order what s b o p bytes laid
    (subst (λ (x : StoreView). IsPlace x b o (size_of x.model what) p) (sym e) is)
    (subst (λ (x : StoreView). p.here % size_of x.model what ≡ 0) (sym e) aligned) read)
