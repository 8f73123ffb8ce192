-- How long samples are.
use Rattle.std.proofs.Common.{ℕ, zero, suc, ◌+◌, ◌*◌, ◌<◌, ◌≤◌, ◌%◌, ◌/◌, Bool, true, false, if◌then◌else◌, ◌==◌}
use Rattle.std.proofs.Common.{List, ◌++◌, length, codes, decimal, arith}
use Rattle.std.proofs.lemmas.List.{length-append}
use Rattle.std.proofs.lemmas.Fmt.{length-decimal-le}
use Rattle.std.proofs.Math.Nat.{mod-lt}
use Rattle.ep_sample.specs.Sample.{next_of, kind_of, shift_of, source_of}
use Rattle.ep_sample.specs.Sample.{head_text, turned_text, swapped_text, byte_text, field_text, fields_text, end_text}

shift_small : (s : ℕ) → shift_of s < 32
shift_small s =
    let rest : s / 196608 % 4 < 4 = mod-lt (s / 196608) (omega arith) in
    omega (arith, rest)

abbrev byte_front : List ℕ
byte_front = codes "  x = ep_in_u32();\n  b[0] = (uint8_t)(x >> "

byte_short : (n : ℕ) → n < 32 → length (byte_text n) ≤ 66
byte_short n small =
    let digits : length (decimal n) ≤ 2 =
    length-decimal-le 2 n (omega arith) (omega (arith, small)) (omega (arith, small)) in
    let all = length-append (byte_front ++ decimal n) (codes ");\n  ep_write(b, 1);\n") in
    let first = length-append byte_front (decimal n) in
    omega (arith, digits, all, first)

chosen : (a b : Bool) (x y z : List ℕ) → length x ≤ 66 → length y ≤ 66 → length z ≤ 66
    → length (if a then x else if b then y else z) ≤ 66
chosen true b x y z p q r = p
chosen false true x y z p q r = q
chosen false false x y z p q r = r

field_short : (s : ℕ) → length (field_text s) ≤ 66
field_short s =
    chosen (kind_of s == 0) (kind_of s == 1) turned_text swapped_text (byte_text (shift_of s))
    (omega arith) (omega arith) (byte_short (shift_of s) (shift_small s))

fields_short : (s n : ℕ) → length (fields_text s n) ≤ 66 * n
fields_short s zero = omega arith
fields_short s (suc n) =
    let both = length-append (field_text (next_of s)) (fields_text (next_of s) n) in
    let one = field_short (next_of s) in
    let more = fields_short (next_of s) n in
    omega (arith, both, one, more)

pub source_short : (start fields : ℕ) → length (source_of start fields) ≤ 66 * fields + 283
source_short start fields =
    let all = length-append (head_text ++ fields_text start fields) end_text in
    let first = length-append head_text (fields_text start fields) in
    let inside = fields_short start fields in
    omega (arith, all, first, inside)
