-- The value of some bytes, as the code reads them.
use Rattle.std.proofs.Common.{◌≡◌, ℕ, zero, suc, ◌+◌, ◌<◌, ◌≤◌, List, [], ◌∷◌, length, map, take, drop}
use Rattle.std.proofs.Common.{slice_index_or, if◌then◌else◌, refl, sym, ◌∙◌, ap, subst, arith, drop-cons}
use Rattle.ep_int.specs.declared.types.IntType.{IntType}
use Rattle.ep_int.specs.declared.types.Order.{Order}
use Rattle.ep_int.specs.Types.{bytes_of}
use Rattle.ep_int.specs.Encoding.{decoded}
use Rattle.ep_int.specs.Memory.{Byte, undefined, has, faults, pointer, pointer_part, pointer_in, are_parts, number_in}
use Rattle.ep_int.specs.Memory.{number_of, bytes_from}
use Rattle.ep_int.proofs.Encodings.{decoded_same}
use Rattle.ep_bytes.specs.declared.types.Byte.{Byte as Cell}
use Rattle.ep_bytes.specs.declared.types.Byte.TheVariants as cell
use Rattle.ep_bytes.specs.View.{byte_in}
use Rattle.ep_bytes.specs.Cells.{cell_at}

byte_in_map : (cs : List Cell) (p : ℕ) → slice_index_or (map byte_in cs) p undefined ≡ byte_in (cell_at cs p)
byte_in_map [] p = refl
byte_in_map (c ∷ cs) zero = refl
byte_in_map (c ∷ cs) (suc p) = byte_in_map cs p

pub number_of_cells : (o : Order) (t : IntType) (cs : List Cell) (b : ℕ → ℕ)
    → ((p : ℕ) → p < bytes_of t → b p ≡ number_in (byte_in (cell_at cs p)))
    → decoded o t b ≡ number_of o t (map byte_in cs)
number_of_cells o t cs b h =
    decoded_same o t b (λ p. number_in (slice_index_or (map byte_in cs) p undefined))
    (λ p l. h p l ∙ ap number_in (sym (byte_in_map cs p)))

pub pointer_of_cells : (cs : List Cell) (b o k : ℕ) → cell_at cs 0 ≡ cell.Fragment b o k
    → pointer_in (map byte_in cs)
    ≡ (if are_parts b o 0 (map byte_in cs) then has (pointer b o) else faults pointer_part)
pointer_of_cells [] b o k h = absurd cc
pointer_of_cells (c ∷ cs) b o k h = rw h refl

pub no_pointer_undefined : (cs : List Cell) → cell_at cs 0 ≡ cell.Undefined
    → pointer_in (map byte_in cs) ≡ faults pointer_part
no_pointer_undefined [] h = refl
no_pointer_undefined (c ∷ cs) h = rw h refl

pub no_pointer_number : (cs : List Cell) (v : ℕ) → cell_at cs 0 ≡ cell.Number v
    → pointer_in (map byte_in cs) ≡ faults pointer_part
no_pointer_number [] v h = absurd cc
no_pointer_number (c ∷ cs) v h = rw h refl

-- the bytes of a place are read from the list of cells
pub bytes_from_cells : (m : ℕ → ℕ → Byte) (cs : List Cell) (b here at n : ℕ)
    → at + n ≤ length cs → ((k : ℕ) → k < n → m b (here + k) ≡ byte_in (cell_at cs (at + k)))
    → bytes_from m b here n ≡ map byte_in (take n (drop at cs))
bytes_from_cells m cs b here at zero l h = refl
bytes_from_cells m cs b here at (suc n) l h =
    let first : m b here ≡ byte_in (cell_at cs at) =
    (let p : here ≡ here + 0 = omega arith in let q : at + 0 ≡ at = omega arith in
    ap (m b) p ∙ h 0 (omega arith) ∙ ap (λ i. byte_in (cell_at cs i)) q) in
    let others = bytes_from_cells m cs b (here + 1) (at + 1) n (omega arith)
    (λ k d. (let p : here + 1 + k ≡ here + suc k = omega arith in let q : at + suc k ≡ at + 1 + k = omega arith in
    ap (m b) p ∙ h (suc k) (omega arith) ∙ ap (λ i. byte_in (cell_at cs i)) q)) in
    let inside : at < length cs = omega arith in
    let e : at + 1 ≡ suc at = omega arith in
    let split : drop at cs ≡ cell_at cs at ∷ drop (suc at) cs = drop-cons cs at cell.Undefined inside in
    let tail : bytes_from m b (here + 1) n ≡ map byte_in (take n (drop (suc at) cs)) =
    subst (λ i. bytes_from m b (here + 1) n ≡ map byte_in (take n (drop i cs))) e others in
    rw (split, first, tail) refl
