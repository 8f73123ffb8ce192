-- What the statements that read a bit-field do.
use Rattle.std.proofs.Common.{◌≡◌, ℕ, zero, suc, ◌+◌, ◌-◌, ◌/◌, ◌%◌, ◌^◌, ◌<◌, ◌≤◌, ℤ, pos, true}
use Rattle.std.proofs.Common.{Option, Some, None, Ok, Err, sym, refl, ap, ◌∙◌, arith, int_le, int_lt}
use Rattle.std.proofs.Common.{leb-true, nat_le, slice_get, bit_and, mod-eq_of_lt, ◌&&◌}
use Rattle.std.proofs.lemmas.Bool.{and_parts, cond-true}
use Rattle.std.proofs.lemmas.Int.{ints}
use Rattle.std.proofs.lemmas.Nat.{and_mask, field_of}
use Rattle.std.proofs.Math.Pow.{mod-mod-pow}
use Rattle.ep_int.specs.declared.types.IntType.{IntType}
use Rattle.ep_int.specs.declared.types.IntType.TheVariants.{I8, U8, I16, U16, I32, U32, I64, U64}
use Rattle.ep_int.specs.declared.types.Scalar.{Scalar}
use Rattle.ep_int.specs.declared.types.Scalar.TheVariants.{Int, Pointer}
use Rattle.ep_int.specs.declared.types.Order.{Order}
use Rattle.ep_int.specs.declared.types.Order.TheVariants.{Little, Big, SwappedWords}
use Rattle.ep_int.specs.declared.types.BinOp.TheVariants.{And, Shr}
use Rattle.ep_int.specs.declared.types.Undef.TheVariants.{Shift}
use Rattle.ep_int.specs.Types.{bits_of, residue, wrapped}
use Rattle.ep_int.specs.Arith.{arith_of, is_amount}
use Rattle.ep_int.specs.Memory.{Memory, Value, int, null, pointer, Kind, Found, has, faults, store_fault, stored}
use Rattle.ep_core.specs.Program.{Place, Expr, load, Dest, assign, Program, stop}
use Rattle.ep_core.specs.Exec.{State, Outcome, leaves, on, Going, Counting, counted, uncounted, step, given}
use Rattle.ep_core.specs.Exec.{with_int, with_number, result_of, converted, value, address, put_to, does, arm_left}
use Rattle.ep_core.specs.Exec.{and_then, unless, remembers, model, size_at, exec_all, result_in}
use Rattle.ep_bitslice.proofs.Numbers.{residue-split}
use Rattle.ep_bitfield.specs.declared.field.Field.{Field}
use Rattle.ep_bitfield.specs.Bits.{number_in_field, is_field, is_unit_type}
use Rattle.ep_bitfield.specs.Accesses.{Does, done, gets, reading, ones, as_scalar, field_number}
use Rattle.ep_bitfield.specs.Accesses.{from_highest}
use Rattle.ep_bitfield.proofs.Masks.{ones_small}
use Rattle.ep_bitfield.proofs.Numbers.{number_low, number_high}

-- ---- an arm

pub step_same : (c : Counting) (n : ℕ) (s : State) (f g : ℕ → Outcome) → ((left : ℕ) → f left ≡ g left)
    → step c n s f ≡ step c n s g
step_same counted zero s f g h = refl
step_same counted (suc n) s f g h = h n
step_same uncounted n s f g h = h n

pub given_same : (x : Found) (l : ℕ) (s : State) (f g : Value → Outcome) → ((v : Value) → f v ≡ g v)
    → given x l s f ≡ given x l s g
given_same (has v) l s f g h = h v
given_same (faults k) l s f g h = refl

module _ (next : Going) (stops : (n : ℕ) (s : State) → next n s ≡ leaves on n s) where
  abbrev arm : State → Outcome → Outcome
  arm s r = arm_left s.joint_tests (and_then r next)

  arm_given : (x : Found) (l : ℕ) (s : State) (f g : Value → Outcome) → ((v : Value) → arm s (f v) ≡ g v)
      → arm s (given x l s f) ≡ given x l s g
  arm_given (has v) l s f g h = h v
  arm_given (faults k) l s f g h = refl

  arm_unless : (x : Option Kind) (l : ℕ) (s : State) (f g : Outcome) → arm s f ≡ g
      → arm s (unless x l s f) ≡ unless x l s g
  arm_unless None l s f g h = h
  arm_unless (Some k) l s f g h = refl

  pub arm_step : (c : Counting) (n : ℕ) (s : State) (f g : ℕ → Outcome) → ((left : ℕ) → arm s (f left) ≡ g left)
      → arm s (step c n s f) ≡ step c n s g
  arm_step counted zero s f g h = refl
  arm_step counted (suc n) s f g h = h n
  arm_step uncounted n s f g h = h n

  module _ (o : Order) (p : Program) where
    arm_put : (what : Scalar) (w v : Value) (l left : ℕ) (s : State)
        → arm s (put_to o p what w v l s (leaves on left)) ≡ put_to o p what w v l s (done left)
    arm_put what (int x) v l left s = refl
    arm_put what null v l left s = refl
    arm_put what (pointer b q) v l left s =
        arm_unless (store_fault (model o p) (size_at o p b) what q) l s _ _
        (ap (arm_left s.joint_tests) (stops left (remembers (stored o (model o p) s.memory what b q v) s)))

    pub arm_assign : (c : Counting) (r : Option (ℕ × Scalar)) (what : Scalar) (a : Place) (e : Expr) (l left : ℕ)
        (s : State) → arm s (does o p c r (assign what a e) l left s)
        ≡ given (address o p a s.memory) l s
        (λ w. given (value o p e s.memory) l s (λ v. put_to o p what w v l s (done left)))
    arm_assign c r what a e l left s =
        arm_given (address o p a s.memory) l s _ _
        (λ w. arm_given (value o p e s.memory) l s _ _ (λ v. arm_put what w v l left s))

-- ---- the number of a field

pub below_tests : (m n : ℕ) → m < n → (int_le (pos 0) (pos m) && int_lt (pos m) (pos n)) ≡ true
below_tests m n h = grind (arith, ints)

shifted : (v : ℤ) (s : ℕ) → s < 32
    → arith_of Shr U32 (wrapped U32 v) (pos s) ≡ Ok (pos (residue (2 ^ 32) v / 2 ^ s))
shifted v s h = cond-true (is_amount U32 (pos s)) _ (Err Shift) (below_tests s 32 h)

pub cut : (n w : ℕ) → w ≤ 32 → arith_of And U32 (pos n) (pos (ones w)) ≡ Ok (pos (n % 2 ^ w))
cut n w h =
    let e : 32 - w + w ≡ 32 = omega arith in
    ap (λ m. Ok (pos (bit_and (n % 2 ^ 32) m))) (mod-eq_of_lt (ones_small w h))
    ∙ ap (λ m. Ok (pos m))
    (and_mask (n % 2 ^ 32) w ∙ ap (λ m. n % 2 ^ m % 2 ^ w) (sym e) ∙ mod-mod-pow n (32 - w) w)

-- the bits of a field in 32 bits are those in the unit's
pub part_of : (v : ℤ) (b s w : ℕ) → s + w ≤ b → b ≤ 32
    → residue (2 ^ 32) v / 2 ^ s % 2 ^ w ≡ residue (2 ^ b) v / 2 ^ s % 2 ^ w
part_of v b s w h k =
    let R : ℕ = residue (2 ^ 32) v in
    let e : 32 - b + b ≡ 32 = omega arith in
    let f : b - s - w + w ≡ b - s = omega arith in
    let g : b - s + s ≡ b = omega arith in
    sym (mod-mod-pow (R / 2 ^ s) (b - s - w) w) ∙ ap (λ m. R / 2 ^ s % 2 ^ m % 2 ^ w) f
    ∙ ap (λ m. m % 2 ^ w) (sym (field_of R (b - s) s)) ∙ ap (λ m. R % 2 ^ m / 2 ^ s % 2 ^ w) g
    ∙ ap (λ m. m / 2 ^ s % 2 ^ w) (ap (λ m. residue (2 ^ m) v % 2 ^ b) (sym e) ∙ residue-split (32 - b) b v)

abbrev field_value : (w s : ℕ) → Found → Found
field_value w s x =
    with_number
    (with_number (with_number x (λ v. has (int (wrapped U32 v)))) (λ x. result_of (arith_of Shr U32 x (pos s))))
    (λ x. result_of (arith_of And U32 x (pos (ones w))))

field_is : (w s : ℕ) (v : ℤ) → s < 32 → w ≤ 32
    → field_value w s (has (int v)) ≡ has (int (pos (residue (2 ^ 32) v / 2 ^ s % 2 ^ w)))
field_is w s v h k =
    ap (λ r. with_number (result_of r) (λ x. result_of (arith_of And U32 x (pos (ones w))))) (shifted v s h)
    ∙ ap result_of (cut (residue (2 ^ 32) v / 2 ^ s) w k)

-- a scalar that a found number becomes
abbrev scalar_value : Scalar → Found → Found
scalar_value (Int t) x = with_number x (λ v. has (int (wrapped t v)))
scalar_value Pointer x = x

scalar_is : (what : Scalar) (x : ℤ) → scalar_value what (has (int x)) ≡ has (converted what (int x))
scalar_is (Int t) x = refl
scalar_is Pointer x = refl

scalar_value_is : (o : Order) (p : Program) (what : Scalar) (e : Expr) (m : Memory)
    → value o p (as_scalar what e) m ≡ scalar_value what (value o p e m)
scalar_value_is o p (Int t) e m = refl
scalar_value_is o p Pointer e m = refl

scalar_faults : (what : Scalar) (k : Kind) → scalar_value what (faults k) ≡ faults k
scalar_faults (Int t) k = refl
scalar_faults Pointer k = refl

read_found : (what : Scalar) (w s : ℕ) (number : ℤ → ℕ) → s < 32 → w ≤ 32
    → ((v : ℤ) → residue (2 ^ 32) v / 2 ^ s % 2 ^ w ≡ number v) → (x : Found) (l : ℕ) (st : State)
    (go : Value → Outcome)
    → given (scalar_value what (field_value w s x)) l st go
    ≡ given x l st (λ u. with_int u l st (λ v. go (converted what (int (pos (number v))))))
read_found what w s number h k e (has (int v)) l st go =
    ap (λ r. given (scalar_value what r) l st go)
    (field_is w s v h k ∙ ap (λ n. has (int (pos n))) (e v))
    ∙ ap (λ r. given r l st go) (scalar_is what (pos (number v)))
read_found what w s number h k e (has null) l st go = ap (λ r. given r l st go) (scalar_faults what _)
read_found what w s number h k e (has (pointer b q)) l st go = ap (λ r. given r l st go) (scalar_faults what _)
read_found what w s number h k e (faults f) l st go = ap (λ r. given r l st go) (scalar_faults what f)

-- ---- whole statements

small_unit : (t : IntType) → is_unit_type t ≡ true → bits_of t ≤ 32
small_unit I8 h = omega arith
small_unit U8 h = omega arith
small_unit I16 h = omega arith
small_unit U16 h = omega arith
small_unit I32 h = omega arith
small_unit U32 h = omega arith
small_unit I64 h = absurd cc
small_unit U64 h = absurd cc

pub record IsPart (f : Field) : Type 0 where
  pub kind : is_unit_type f.t ≡ true
  pub unit : bits_of f.t ≤ 32
  pub some : 1 ≤ f.width
  pub inside : f.used + f.width ≤ bits_of f.t

pub is_part : (f : Field) → is_field f ≡ true → IsPart f
is_part f h =
    let both = and_parts (is_unit_type f.t) _ h in
    let rest = and_parts (nat_le 1 f.width) _ both.1 in
    record {
      kind = both.0;
      unit = small_unit f.t both.0;
      some = leb-true _ _ rest.0;
      inside = leb-true _ _ rest.1;
    }

-- how far a field lies from the lowest bit
abbrev pub shift_on : Order → Field → ℕ
shift_on Little f = f.used
shift_on Big f = from_highest f
shift_on SwappedWords f = f.used

pub shift_inside : (o : Order) (f : Field) → IsPart f → shift_on o f + f.width ≤ bits_of f.t
shift_inside Little f h = h.inside
shift_inside Big f h = let i = h.inside in omega arith
shift_inside SwappedWords f h = h.inside

number_on : (o : Order) (f : Field) (v : ℤ) → IsPart f
    → residue (2 ^ bits_of f.t) v / 2 ^ shift_on o f % 2 ^ f.width ≡ number_in_field o f v
number_on Little f v h = sym (number_low f.used f.width (bits_of f.t) (residue (2 ^ bits_of f.t) v) h.inside)
number_on Big f v h = sym (number_high f.used f.width (bits_of f.t) (residue (2 ^ bits_of f.t) v) h.inside)
number_on SwappedWords f v h = sym (number_low f.used f.width (bits_of f.t) (residue (2 ^ bits_of f.t) v) h.inside)

module _ (l : ℕ) (unit : Place) (f : Field) (to : Dest) (h : IsPart f) where
  -- one arm of the statement
  read_arm : (o : Order) (p : Program) (next : Going) → ((n : ℕ) (s : State) → next n s ≡ leaves on n s)
      → (c : Counting) (r : Option (ℕ × Scalar)) (left : ℕ) (s : State)
      → arm_left s.joint_tests
      (and_then
      (does o p c r (assign to.what to.place (as_scalar to.what (field_number unit f (shift_on o f)))) l left s) next)
      ≡ gets o p l unit f to left s
  read_arm o p next stops c r left s =
      let inside = shift_inside o f h in
      let unit_bits = h.unit in
      let some = h.some in
      arm_assign next stops o p c r to.what to.place (as_scalar to.what (field_number unit f (shift_on o f))) l left s
      ∙ given_same (address o p to.place s.memory) l s _ _
      (λ w.
      ap (λ x. given x l s (λ v. put_to o p to.what w v l s (done left)))
      (scalar_value_is o p to.what (field_number unit f (shift_on o f)) s.memory)
      ∙ read_found to.what f.width (shift_on o f) (number_in_field o f) (omega arith) (omega arith)
      (λ v. part_of v (bits_of f.t) (shift_on o f) f.width inside h.unit ∙ number_on o f v h)
      (value o p (load (Int f.t) unit) s.memory) l s (λ v. put_to o p to.what w v l s (done left)))

  pub get_does : Does l (reading l unit f to) (λ o p. gets o p l unit f to)
  get_does Little p c here bodies n s =
      step_same c n s _ _
      (λ left. arm_step (exec_all Little p c here bodies stop) (λ n s. refl) c left s _ _
      (λ left. read_arm Little p (exec_all Little p c here bodies stop) (λ n s. refl) c
      (result_in (slice_get p.functions here)) left s))
  get_does Big p c here bodies n s =
      step_same c n s _ _
      (λ left. arm_step (exec_all Big p c here bodies stop) (λ n s. refl) c left s _ _
      (λ left. read_arm Big p (exec_all Big p c here bodies stop) (λ n s. refl) c
      (result_in (slice_get p.functions here)) left s))
  get_does SwappedWords p c here bodies n s =
      step_same c n s _ _
      (λ left. arm_step (exec_all SwappedWords p c here bodies stop) (λ n s. refl) c left s _ _
      (λ left. read_arm SwappedWords p (exec_all SwappedWords p c here bodies stop) (λ n s. refl) c
      (result_in (slice_get p.functions here)) left s))
