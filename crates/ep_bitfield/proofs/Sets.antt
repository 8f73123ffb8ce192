-- What the statements that write a bit-field do.
use Rattle.std.proofs.Common.{◌≡◌, ℕ, ◌+◌, ◌-◌, ◌*◌, ◌%◌, ◌^◌, ◌<◌, ◌≤◌, ℤ, pos, Bool, true, ◌&&◌}
use Rattle.std.proofs.Common.{Option, Ok, Err, sym, refl, ap, ap₂, ◌∙◌, arith, bit_and, bit_or, int_le}
use Rattle.std.proofs.Common.{slice_get, mod-eq_of_lt, reverse, pow_mono, shl_lt}
use Rattle.std.proofs.Math.Nat.{mod-mod}
use Rattle.std.proofs.lemmas.Bool.{cond-true}
use Rattle.std.proofs.lemmas.Int.{ints}
use Rattle.std.proofs.lemmas.Nat.{pow_pos, and_le_r}
use Rattle.ep_int.specs.declared.types.IntType.{IntType}
use Rattle.ep_int.specs.declared.types.IntType.TheVariants.{I8, U8, I16, U16, I32, U32, I64, U64}
use Rattle.ep_int.specs.declared.types.Scalar.{Scalar}
use Rattle.ep_int.specs.declared.types.Scalar.TheVariants.{Int}
use Rattle.ep_int.specs.declared.types.Order.{Order}
use Rattle.ep_int.specs.declared.types.Order.TheVariants.{Little, Big, SwappedWords}
use Rattle.ep_int.specs.declared.types.BinOp.TheVariants.{And, Or, Shl}
use Rattle.ep_int.specs.declared.types.Undef.TheVariants.{Shift}
use Rattle.ep_int.specs.Types.{bits_of, residue, wrapped}
use Rattle.ep_int.specs.Arith.{arith_of, is_amount}
use Rattle.ep_int.proofs.Wrapping.{residue_below}
use Rattle.ep_int.specs.Memory.{Value, int, null, pointer, Found, has, faults}
use Rattle.ep_core.specs.Program.{Place, Expr, load, assign, Program, stop}
use Rattle.ep_core.specs.Exec.{State, Outcome, leaves, on, Going, Counting, given}
use Rattle.ep_core.specs.Exec.{with_int, with_number, result_of, value, address, put_to, does, arm_left}
use Rattle.ep_core.specs.Exec.{and_then, exec_all, result_in}
use Rattle.ep_bitslice.proofs.Numbers.{residue-split}
use Rattle.ep_bitfield.specs.declared.field.Field.{Field}
use Rattle.ep_bitfield.specs.Bits.{unit_with, is_unit_type, lowest_bits, number_with, with_part}
use Rattle.ep_bitfield.specs.Accesses.{Does, done, sets, writing, ones, ones_beside, as_scalar, new_number}
use Rattle.ep_bitfield.proofs.Writes.{joined_number, part_low, part_high, put_together, bits_same}
use Rattle.ep_bitfield.proofs.Runs.{step_same, given_same, arm_assign, arm_step, below_tests, shift_on, shift_inside}
use Rattle.ep_bitfield.proofs.Runs.{IsPart, cut}

-- ---- the number that is stored

-- the lowest bits of 32
lowest : (v : ℤ) (w : ℕ) → w ≤ 32 → residue (2 ^ 32) v % 2 ^ w ≡ residue (2 ^ w) v
lowest v w h =
    let e : 32 - w + w ≡ 32 = omega arith in
    ap (λ m. residue (2 ^ m) v % 2 ^ w) (sym e) ∙ residue-split (32 - w) w v

-- what the unit becomes in 32 bits
abbrev pub put_in : (w s : ℕ) → (unit value : ℤ) → ℕ
put_in w s v z = bit_or (bit_and (residue (2 ^ 32) v) (ones_beside w s)) (residue (2 ^ w) z * 2 ^ s)

-- a number of so many bits, moved so far
moved_small : (V w s : ℕ) → V < 2 ^ w → s + w ≤ 32 → V * 2 ^ s < 2 ^ 32
moved_small V w s h k =
    let below : V * 2 ^ s < 2 ^ (w + s) = shl_lt w s h in
    let wide : w + s ≤ 32 = omega arith in
    let most : 2 ^ (w + s) ≤ 2 ^ 32 = pow_mono wide in
    omega (arith, below, most)

others_small : (n w s : ℕ) → bit_and n (ones_beside w s) < 2 ^ 32
others_small n w s = let l = and_le_r n (ones_beside w s) in omega (arith, l)

masked : (v : ℤ) (w s : ℕ) → arith_of And U32 (wrapped U32 v) (pos (ones_beside w s))
    ≡ Ok (pos (bit_and (residue (2 ^ 32) v) (ones_beside w s)))
masked v w s =
    let small : ones_beside w s < 2 ^ 32 = omega arith in
    ap₂ (λ (a b : ℕ). Ok (pos (bit_and a b)))
    (mod-eq_of_lt (residue_below (2 ^ 32) v (omega arith))) (mod-eq_of_lt small)

moved : (V s : ℕ) → s < 32 → V * 2 ^ s < 2 ^ 32 → arith_of Shl U32 (pos V) (pos s) ≡ Ok (pos (V * 2 ^ s))
moved V s h k =
    let at_least : int_le (pos 0) (pos V) ≡ true = grind (arith, ints) in
    cond-true (is_amount U32 (pos s) && int_le (pos 0) (pos V)) _ (Err Shift)
    (ap₂ (λ (a b : Bool). a && b) (below_tests s 32 h) at_least)
    ∙ ap (λ m. Ok (pos m)) (mod-eq_of_lt k)

together : (a b : ℕ) → a < 2 ^ 32 → b < 2 ^ 32 → arith_of Or U32 (pos a) (pos b) ≡ Ok (pos (bit_or a b))
together a b h k = ap₂ (λ (c d : ℕ). Ok (pos (bit_or c d))) (mod-eq_of_lt h) (mod-eq_of_lt k)

-- the numbers from those of the unit and of the new value
abbrev others_found : (w s : ℕ) → Found → Found
others_found w s x =
    with_number (with_number x (λ v. has (int (wrapped U32 v))))
    (λ a. result_of (arith_of And U32 a (pos (ones_beside w s))))

abbrev moved_found : (w s : ℕ) → Found → Found
moved_found w s y =
    with_number
    (with_number (with_number y (λ v. has (int (wrapped U32 v)))) (λ a. result_of (arith_of And U32 a (pos (ones w)))))
    (λ a. result_of (arith_of Shl U32 a (pos s)))

abbrev new_found : (w s : ℕ) → (unit new : Found) → Found
new_found w s x y =
    with_number (others_found w s x)
    (λ a. with_number (moved_found w s y) (λ b. result_of (arith_of Or U32 a b)))

moved_is : (w s : ℕ) (z : ℤ) → s < 32 → s + w ≤ 32
    → moved_found w s (has (int z)) ≡ has (int (pos (residue (2 ^ w) z * 2 ^ s)))
moved_is w s z h k =
    let few : w ≤ 32 = omega arith in
    ap (λ r. with_number (result_of r) (λ a. result_of (arith_of Shl U32 a (pos s))))
    (cut (residue (2 ^ 32) z) w few ∙ ap (λ m. Ok (pos m)) (lowest z w few))
    ∙ ap result_of
    (moved (residue (2 ^ w) z) s h (moved_small (residue (2 ^ w) z) w s (residue_below (2 ^ w) z (pow_pos w)) k))

new_is : (w s : ℕ) (v z : ℤ) → s < 32 → s + w ≤ 32
    → new_found w s (has (int v)) (has (int z)) ≡ has (int (pos (put_in w s v z)))
new_is w s v z h k =
    let few : w ≤ 32 = omega arith in
    ap (λ r. with_number (result_of r)
    (λ a. with_number (moved_found w s (has (int z))) (λ b. result_of (arith_of Or U32 a b)))) (masked v w s)
    ∙ ap (λ r. with_number r
    (λ b. result_of (arith_of Or U32 (pos (bit_and (residue (2 ^ 32) v) (ones_beside w s))) b))) (moved_is w s z h k)
    ∙ ap result_of
    (together (bit_and (residue (2 ^ 32) v) (ones_beside w s)) (residue (2 ^ w) z * 2 ^ s) (others_small (residue (2 ^ 32) v) w s)
    (moved_small (residue (2 ^ w) z) w s (residue_below (2 ^ w) z (pow_pos w)) k))

write_found : (t : IntType) (w s : ℕ) (new : (unit value : ℤ) → ℕ) → s < 32 → s + w ≤ 32
    → ((v z : ℤ) → wrapped t (pos (put_in w s v z)) ≡ pos (new v z)) → (x y : Found) (l : ℕ) (st : State)
    (go : Value → Outcome)
    → given (with_number (new_found w s x y) (λ m. has (int (wrapped t m)))) l st go
    ≡ given x l st
    (λ u. with_int u l st (λ v. given y l st (λ u. with_int u l st (λ z. go (int (pos (new v z)))))))
write_found t w s new h k e (has (int v)) (has (int z)) l st go =
    ap (λ r. given (with_number r (λ m. has (int (wrapped t m)))) l st go) (new_is w s v z h k)
    ∙ ap (λ m. go (int m)) (e v z)
write_found t w s new h k e (has (int v)) (has null) l st go = refl
write_found t w s new h k e (has (int v)) (has (pointer b q)) l st go = refl
write_found t w s new h k e (has (int v)) (faults f) l st go = refl
write_found t w s new h k e (has null) y l st go = refl
write_found t w s new h k e (has (pointer b q)) y l st go = refl
write_found t w s new h k e (faults f) y l st go = refl

-- ---- the unit that it is

-- a number, converted to the type of a unit
unit_wrapped : (t : IntType) (m : ℕ) → is_unit_type t ≡ true → wrapped t (pos m) ≡ pos (m % 2 ^ bits_of t)
unit_wrapped I8 m h = absurd cc
unit_wrapped U8 m h = refl
unit_wrapped I16 m h = absurd cc
unit_wrapped U16 m h = refl
unit_wrapped I32 m h = absurd cc
unit_wrapped U32 m h = refl
unit_wrapped I64 m h = absurd cc
unit_wrapped U64 m h = absurd cc

-- the bits of the unit are the lowest of those in 32 bits
unit_bits_are : (v : ℤ) (b : ℕ) → b ≤ 32
    → lowest_bits b (residue (2 ^ 32) v) ≡ lowest_bits b (residue (2 ^ b) v)
unit_bits_are v b h =
    bits_same b (residue (2 ^ 32) v) (residue (2 ^ b) v)
    (sym (mod-mod (residue (2 ^ 32) v) (2 ^ b)) ∙ ap (λ m. m % 2 ^ b) (lowest v b h))

module _ (b u w : ℕ) (v z : ℤ) (few : b ≤ 32) (inside : u + w ≤ b) where
  abbrev U : ℕ
  U = residue (2 ^ 32) v

  abbrev V : ℕ
  V = residue (2 ^ w) z

  whole_low : number_with (with_part u w (lowest_bits w V) (lowest_bits b (residue (2 ^ b) v)))
      ≡ put_in w u v z % 2 ^ b
  whole_low =
      let e : u + w + (b - u - w) ≡ b = omega arith in
      ap (λ bs. number_with (with_part u w (lowest_bits w V) bs)) (sym (unit_bits_are v b few))
      ∙ ap number_with (part_low u w b U V inside)
      ∙ joined_number u w (b - u - w) U V (put_in w u v z)
      (put_together U u w (b - u - w) V (omega arith) (omega arith) (residue_below (2 ^ w) z (pow_pos w)))
      ∙ ap (λ m. put_in w u v z % 2 ^ m) e

  whole_high : number_with
      (reverse (with_part u w (reverse (lowest_bits w V)) (reverse (lowest_bits b (residue (2 ^ b) v)))))
      ≡ put_in w (b - u - w) v z % 2 ^ b
  whole_high =
      let e : b - u - w + w + u ≡ b = omega arith in
      ap (λ bs. number_with (reverse (with_part u w (reverse (lowest_bits w V)) (reverse bs))))
      (sym (unit_bits_are v b few))
      ∙ ap number_with (part_high u w b U V inside)
      ∙ joined_number (b - u - w) w u U V (put_in w (b - u - w) v z)
      (put_together U (b - u - w) w u V (omega arith) (omega arith) (residue_below (2 ^ w) z (pow_pos w)))
      ∙ ap (λ m. put_in w (b - u - w) v z % 2 ^ m) e

unit_on : (o : Order) (f : Field) (v z : ℤ) → IsPart f
    → wrapped f.t (pos (put_in f.width (shift_on o f) v z)) ≡ pos (unit_with o f v z)
unit_on Little f v z h =
    unit_wrapped f.t _ h.kind ∙ ap pos (sym (whole_low (bits_of f.t) f.used f.width v z h.unit h.inside))
unit_on Big f v z h =
    unit_wrapped f.t _ h.kind ∙ ap pos (sym (whole_high (bits_of f.t) f.used f.width v z h.unit h.inside))
unit_on SwappedWords f v z h =
    unit_wrapped f.t _ h.kind ∙ ap pos (sym (whole_low (bits_of f.t) f.used f.width v z h.unit h.inside))

-- ---- whole statements

module _ (l : ℕ) (unit : Place) (f : Field) (new : Expr) (h : IsPart f) where
  -- one arm of the statement
  write_arm : (o : Order) (p : Program) (next : Going) → ((n : ℕ) (s : State) → next n s ≡ leaves on n s)
      → (c : Counting) (r : Option (ℕ × Scalar)) (left : ℕ) (s : State)
      → arm_left s.joint_tests
      (and_then
      (does o p c r (assign (Int f.t) unit (as_scalar (Int f.t) (new_number unit f new (shift_on o f)))) l left s) next)
      ≡ sets o p l unit f new left s
  write_arm o p next stops c r left s =
      let inside = shift_inside o f h in
      let unit_bits = h.unit in
      let some = h.some in
      arm_assign next stops o p c r (Int f.t) unit (as_scalar (Int f.t) (new_number unit f new (shift_on o f))) l left s
      ∙ given_same (address o p unit s.memory) l s _ _
      (λ w.
      write_found f.t f.width (shift_on o f) (unit_with o f) (omega arith) (omega arith)
      (λ v z. unit_on o f v z h)
      (value o p (load (Int f.t) unit) s.memory) (value o p new s.memory) l s
      (λ v. put_to o p (Int f.t) w v l s (done left)))

  pub set_does : Does l (writing l unit f new) (λ o p. sets o p l unit f new)
  set_does Little p c here bodies n s =
      step_same c n s _ _
      (λ left. arm_step (exec_all Little p c here bodies stop) (λ n s. refl) c left s _ _
      (λ left. write_arm Little p (exec_all Little p c here bodies stop) (λ n s. refl) c
      (result_in (slice_get p.functions here)) left s))
  set_does Big p c here bodies n s =
      step_same c n s _ _
      (λ left. arm_step (exec_all Big p c here bodies stop) (λ n s. refl) c left s _ _
      (λ left. write_arm Big p (exec_all Big p c here bodies stop) (λ n s. refl) c
      (result_in (slice_get p.functions here)) left s))
  set_does SwappedWords p c here bodies n s =
      step_same c n s _ _
      (λ left. arm_step (exec_all SwappedWords p c here bodies stop) (λ n s. refl) c left s _ _
      (λ left. write_arm SwappedWords p (exec_all SwappedWords p c here bodies stop) (λ n s. refl) c
      (result_in (slice_get p.functions here)) left s))
