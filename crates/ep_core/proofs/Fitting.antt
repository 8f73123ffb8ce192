-- What a well-formed program comes to from a machine that fits is a machine that fits.
use Rattle.std.proofs.Common.{◌≡◌, ℕ, zero, suc, ◌+◌, ◌%◌, ◌<◌, ℤ, pos, Bool, true, false, ◌&&◌, nat_eq, List, []}
use Rattle.std.proofs.Common.{◌∷◌, ◌++◌, slice_get, Option, Some, None, option_to_list, refl, sym, subst, arith}
use Rattle.std.proofs.Common.{if◌then◌else◌}
use Rattle.std.specs.List.{list_all}
use Rattle.std.proofs.lemmas.Bool.{and_parts}
use Rattle.std.proofs.lemmas.Int.{ints}
use Rattle.std.proofs.lemmas.Nat.{mod_below}
use Rattle.ep_int.specs.declared.types.IntType.{IntType}
use Rattle.ep_int.specs.declared.types.IntType.TheVariants.{U8, I32}
use Rattle.ep_int.specs.declared.types.Order.{Order}
use Rattle.ep_int.specs.declared.types.Scalar.{Scalar}
use Rattle.ep_int.specs.declared.types.Scalar.TheVariants.{Int}
use Rattle.ep_int.specs.Types.{InRange, representation, wrapped}
use Rattle.ep_int.specs.Memory.{Byte, undefined, number, fragment, Memory, Value, int, null, pointer, Kind, Found}
use Rattle.ep_int.specs.Memory.{has, faults, loaded, stored, filled, copied, range_fault, store_fault}
use Rattle.ep_int.proofs.Wrapping.{representation_below}
use Rattle.ep_core.specs.Program.{Expr, Dest, Simple, nothing, eval, assign, clear, copy_aggregate, copy_bytes, fill}
use Rattle.ep_core.specs.Program.{input, output, read_bytes, write_bytes, returns, What, simple, call, if_else, loop}
use Rattle.ep_core.specs.Program.{break_loop, continue_loop, by_order, scope, Stmts, stop, more, Function, Program}
use Rattle.ep_core.specs.Exec.{Output, State, Way, on, broken, continued, returned, Outcome, leaves, running}
use Rattle.ep_core.specs.Exec.{no_input, undefined_at, Going, given, with_int, at_place, unless, Counting, counted}
use Rattle.ep_core.specs.Exec.{uncounted, step, and_then, remembers, put_out, listed, without, taken, converted}
use Rattle.ep_core.specs.Exec.{ByteStep, bytewise, bytewise_rest, byte_out, code_of_test, is_true, either, turned}
use Rattle.ep_core.specs.Exec.{turn, looped, first_turn, scope_left, is_order, chosen, arm_left, Values, have, stops}
use Rattle.ep_core.specs.Exec.{first_and, given_all, first_of, frame_of, result_in, callee_of, model, size_at}
use Rattle.ep_core.specs.Exec.{bytes_in, value, address, values, put_at, put_to, put_dest, returned_with, change}
use Rattle.ep_core.specs.Exec.{copy_fault, copy_at, out_of, into, does, bound, received, called, call_of, exec}
use Rattle.ep_core.specs.Exec.{exec_all, body_of, bodies}
use Rattle.ep_core.specs.Runs.{result_out, main_function, main_ends, line_of, finished, start, main_from}
use Rattle.ep_core.specs.WellFormed.{result_type, holds_scalar, what_fits, stmts_fit, are_plain, is_tested}
use Rattle.ep_core.specs.WellFormed.{is_well_formed}
use Rattle.ep_core.specs.Typed.{IsNumber, ValueFits, IfHas, ByteFits, MemoryFits, OutputFits, OutputsFit, StateFits}
use Rattle.ep_core.specs.Typed.{OutcomeFits, Keeps, InputFits, ReturnFits, SimpleOperandsFit, ArgumentsFit}
use Rattle.ep_core.specs.Typed.{ReceivedFits, CallOperandsFit, MainResultFits, BodiesKeep, StatementsKeep, RunsFit}
use Rattle.ep_core.proofs.Bytes.{stored_bytes, filled_bytes, copied_bytes, killed_bytes, cleared_bytes, initial_bytes}
use Rattle.ep_core.proofs.Sorts.{three}
use Rattle.ep_core.proofs.Operands.{simple_operands, call_operands, known_callee, fits_at, holds_at, main_fits}
use Rattle.ep_core.proofs.Operands.{first_values_fit, sizes}

module _ (p : Program) where
  -- ---- changes of a machine

  with_memory : (m : Memory) (s : State) → MemoryFits p m → StateFits p s → StateFits p (remembers m s)
  with_memory m s b h = record { memory = b; outputs = h.outputs }

  one_more : (x : Output) (xs : List Output) → OutputsFit xs → OutputFits x → OutputsFit (xs ++ x ∷ [])
  one_more x [] h i = (i, tt)
  one_more x (y ∷ xs) h i = (h.0, one_more x xs h.1 i)

  output_fits : (x : Output) (s : State) → OutputFits x → StateFits p s → StateFits p (put_out x.t x.value s)
  output_fits x s i h = record { memory = h.memory; outputs = one_more x s.outputs h.outputs i }

  listed_fits : (code : ℕ) (s : State) → StateFits p s → StateFits p (listed code s)
  listed_fits code s h = record { memory = h.memory; outputs = h.outputs }

  without_fits : (bs : List ℕ) (s : State) → StateFits p s → StateFits p (without bs s)
  without_fits bs s h = record { memory = killed_bytes p bs s.memory h.memory; outputs = h.outputs }

  -- ---- ways to go on

  pub leaves_keeps : (w : Way) → Keeps p (leaves w)
  leaves_keeps w left s h = h

  step_keeps : (c : Counting) (left : ℕ) (s : State) (go : ℕ → Outcome) → StateFits p s
      → ((k : ℕ) → OutcomeFits p (go k)) → OutcomeFits p (step c left s go)
  step_keeps counted zero s go h i = h
  step_keeps counted (suc k) s go h i = i k
  step_keeps uncounted left s go h i = i left

  given_keeps : (v : Found) (l : ℕ) (s : State) (go : Value → Outcome) → StateFits p s
      → ((v : Value) → OutcomeFits p (go v)) → OutcomeFits p (given v l s go)
  given_keeps (has v) l s go h i = i v
  given_keeps (faults k) l s go h i = h

  -- where something is known of the value
  given_known : (v : Found) (l : ℕ) (s : State) (go : Value → Outcome) (P : Value → Type 0) → StateFits p s → IfHas v P
      → ((v : Value) → P v → OutcomeFits p (go v)) → OutcomeFits p (given v l s go)
  given_known (has v) l s go P h i k = k v i
  given_known (faults x) l s go P h i k = h

  given_all_keeps : (vs : Values) (l : ℕ) (s : State) (go : List Value → Outcome) → StateFits p s
      → ((vs : List Value) → OutcomeFits p (go vs)) → OutcomeFits p (given_all vs l s go)
  given_all_keeps (have vs) l s go h i = i vs
  given_all_keeps (stops k) l s go h i = h

  with_int_keeps : (v : Value) (l : ℕ) (s : State) (go : ℤ → Outcome) → StateFits p s
      → ((x : ℤ) → OutcomeFits p (go x)) → OutcomeFits p (with_int v l s go)
  with_int_keeps (int v) l s go h i = i v
  with_int_keeps null l s go h i = h
  with_int_keeps (pointer b q) l s go h i = h

  number_known : (v : Value) (l : ℕ) (s : State) (go : ℤ → Outcome) (P : ℤ → Type 0) → StateFits p s → IsNumber P v
      → ((x : ℤ) → P x → OutcomeFits p (go x)) → OutcomeFits p (with_int v l s go)
  number_known (int v) l s go P h i k = k v i
  number_known null l s go P h i k = h
  number_known (pointer b q) l s go P h i k = h

  at_place_keeps : (v : Value) (l : ℕ) (s : State) (go : ℕ → ℕ → Outcome) → StateFits p s
      → ((b q : ℕ) → OutcomeFits p (go b q)) → OutcomeFits p (at_place v l s go)
  at_place_keeps (int v) l s go h i = h
  at_place_keeps null l s go h i = h
  at_place_keeps (pointer b q) l s go h i = i b q

  unless_keeps : (k : Option Kind) (l : ℕ) (s : State) (x : Outcome) → StateFits p s → OutcomeFits p x
      → OutcomeFits p (unless k l s x)
  unless_keeps None l s x h i = i
  unless_keeps (Some k) l s x h i = h

  pub and_then_keeps : (x : Outcome) (go : Going) → OutcomeFits p x → Keeps p go → OutcomeFits p (and_then x go)
  and_then_keeps (leaves on left s) go h k = k left s h
  and_then_keeps (leaves broken left s) go h k = h
  and_then_keeps (leaves continued left s) go h k = h
  and_then_keeps (leaves returned left s) go h k = h
  and_then_keeps (running s) go h k = h
  and_then_keeps (no_input s) go h k = h
  and_then_keeps (undefined_at l x s) go h k = h

  -- ---- inputs and outputs

  taken_keeps : (vs : List ℕ) (s : State) (go : ℕ → State → Outcome) → StateFits p s
      → ((v : ℕ) (r : State) → StateFits p r → OutcomeFits p (go v r)) → OutcomeFits p (taken vs s go)
  taken_keeps [] s go h i = h
  taken_keeps (v ∷ rest) s go h i =
      let r : State = record s { inputs = rest; used = s.used + 1 } in
      i v r (record { memory = h.memory; outputs = h.outputs })

  abbrev ByteKeeps : ByteStep → Type 0
  ByteKeeps one = (here : ℕ) (s : State) (go : State → Outcome) → StateFits p s
      → ((r : State) → StateFits p r → OutcomeFits p (go r)) → OutcomeFits p (one here s go)

  bytewise_keeps : (c : Counting) (one : ByteStep) (n here : ℕ) → ByteKeeps one → Keeps p (bytewise c one n here)
  bytewise_keeps c one zero here g left s h = h
  bytewise_keeps c one (suc n) here g left s h = step_keeps c left s _ h
      (λ k. g here s _ h (bytewise_keeps c one n (here + 1) g k))

  bytewise_rest_keeps : (c : Counting) (one : ByteStep) (n here : ℕ) → ByteKeeps one
      → Keeps p (bytewise_rest c one n here)
  bytewise_rest_keeps c one zero here g left s h = h
  bytewise_rest_keeps c one (suc n) here g left s h = g here s _ h (bytewise_keeps c one n (here + 1) g left)

  byte_in_range : (v : ℕ) → v < 256 → InRange U8 (pos v)
  byte_in_range v l = record { low = omega (arith, ints); high = omega (arith, ints) }

  byte_out_keeps : (b : Byte) (l : ℕ) (s : State) (go : State → Outcome) → ByteFits p b → StateFits p s
      → ((r : State) → StateFits p r → OutcomeFits p (go r)) → OutcomeFits p (byte_out b l s go)
  byte_out_keeps undefined l s go i h k = h
  byte_out_keeps (number v) l s go i h k = k (put_out U8 (pos v) s)
      (output_fits (record { t = U8; value = pos v }) s (byte_in_range v i) h)
  byte_out_keeps (fragment b o q) l s go i h k = h

  -- ---- tests, loops, scopes and arms

  either_keeps : (t : Bool) (a b : Going) → Keeps p a → Keeps p b → Keeps p (either t a b)
  either_keeps true a b g h left s i = g left (listed (code_of_test true) s) (listed_fits _ s i)
  either_keeps false a b g h left s i = h left (listed (code_of_test false) s) (listed_fits _ s i)

  turned_keeps : (x : Outcome) (next again : Going) → OutcomeFits p x → Keeps p next → Keeps p again
      → OutcomeFits p (turned x next again)
  turned_keeps (leaves on left r) next again g h i = and_then_keeps (next left r) again (h left r g) i
  turned_keeps (leaves broken left r) next again g h i = g
  turned_keeps (leaves continued left r) next again g h i = and_then_keeps (next left r) again (h left r g) i
  turned_keeps (leaves returned left r) next again g h i = g
  turned_keeps (running r) next again g h i = g
  turned_keeps (no_input r) next again g h i = g
  turned_keeps (undefined_at l k r) next again g h i = g

  turn_keeps : (c : Counting) (body next again : Going) → Keeps p body → Keeps p next → Keeps p again
      → Keeps p (turn c body next again)
  turn_keeps c body next again g h i left s k = step_keeps c left s _ k
      (λ j. turned_keeps (body j s) next again (g j s k) h i)

  pub looped_keeps : (c : Counting) (most : ℕ) (test : Memory → Found) (l : ℕ) (body next : Going) → Keeps p body
      → Keeps p next → Keeps p (looped c most test l body next)
  looped_keeps c zero test l body next g h left s i = i
  looped_keeps c (suc most) test l body next g h left s i =
      given_keeps (test s.memory) l s _ i
      (λ v. either_keeps (is_true v) (turn c body next (looped c most test l body next)) (leaves on)
      (turn_keeps c body next (looped c most test l body next) g h (looped_keeps c most test l body next g h))
      (leaves_keeps on) left s i)

  first_turn_keeps : (c : Counting) (first : Bool) (body next again : Going) → Keeps p body → Keeps p next
      → Keeps p again → Keeps p (first_turn c first body next again)
  first_turn_keeps c true body next again g h i left s k = i left s k
  first_turn_keeps c false body next again g h i left s k = turn_keeps c body next again g h i left s k

  scope_keeps : (bs : List ℕ) (x : Outcome) → OutcomeFits p x → OutcomeFits p (scope_left bs x)
  scope_keeps bs (leaves w left r) h = without_fits bs r h
  scope_keeps bs (running r) h = h
  scope_keeps bs (no_input r) h = h
  scope_keeps bs (undefined_at l k r) h = h

  arm_keeps : (joint : List ℕ) (x : Outcome) → OutcomeFits p x → OutcomeFits p (arm_left joint x)
  arm_keeps joint (leaves w left r) h = record { memory = h.memory; outputs = h.outputs }
  arm_keeps joint (running r) h = record { memory = h.memory; outputs = h.outputs }
  arm_keeps joint (no_input r) h = record { memory = h.memory; outputs = h.outputs }
  arm_keeps joint (undefined_at l k r) h = record { memory = h.memory; outputs = h.outputs }

  chosen_keeps : (t : Bool) (a b : Going) → Keeps p a → Keeps p b → Keeps p (chosen t a b)
  chosen_keeps true a b g h = g
  chosen_keeps false a b g h = h

  -- ---- stores and statements without statements in them

  module _ (o : Order) where
    put_keeps : (what : Scalar) (b q : ℕ) (v : Value) (l : ℕ) (s : State) (go : State → Outcome) → ValueFits p what v
        → StateFits p s → ((r : State) → StateFits p r → OutcomeFits p (go r))
        → OutcomeFits p (put_at o p what b q v l s go)
    put_keeps what b q v l s go f h i =
        let m : Memory = stored o (model o p) s.memory what b q v in
        unless_keeps (store_fault (model o p) (size_at o p b) what q) l s (go (remembers m s)) h
        (i (remembers m s) (with_memory m s (stored_bytes p o (model o p) s.memory what b q v h.memory f) h))

    put_to_keeps : (what : Scalar) (w v : Value) (l : ℕ) (s : State) (go : State → Outcome) → ValueFits p what v
        → StateFits p s → ((r : State) → StateFits p r → OutcomeFits p (go r))
        → OutcomeFits p (put_to o p what w v l s go)
    put_to_keeps what w v l s go f h i = at_place_keeps w l s _ h (λ b q. put_keeps what b q v l s go f h i)

    -- what comes fits its place, if there is one
    abbrev Takes : Option Dest → Value → Type 0
    Takes None v = Unit {0}
    Takes (Some d) v = ValueFits p d.what (converted d.what v)

    put_dest_keeps : (d : Option Dest) (v : Value) (l : ℕ) → Takes d v → Keeps p (put_dest o p d v l)
    put_dest_keeps None v l f left s h = h
    put_dest_keeps (Some d) v l f left s h =
        given_keeps (address o p d.place s.memory) l s _ h
        (λ w. put_to_keeps d.what w (converted d.what v) l s (leaves on left) f h (leaves_keeps on left))

    returned_keeps : (r : Option (ℕ × Scalar)) (e : Option Expr) (l left : ℕ) (s : State) → ReturnFits o p s.memory r e
        → StateFits p s → OutcomeFits p (returned_with o p r e l left s)
    returned_keeps None None l left s f h = h
    returned_keeps None (Some e) l left s f h = absurd f
    returned_keeps (Some r) None l left s f h = h
    returned_keeps (Some r) (Some e) l left s f h =
        given_known (value o p e s.memory) l s _ (ValueFits p r.1) h f.1
        (λ v k. put_keeps r.1 r.0 0 v l s (leaves returned left) k h (leaves_keeps returned left))

    change_keeps : (b q n : ℕ) (m : Memory) (l left : ℕ) (s : State) → MemoryFits p m → StateFits p s
        → OutcomeFits p (change o p b q n m l left s)
    change_keeps b q n m l left s i h = unless_keeps (range_fault (size_at o p b) q n) l s _ h (with_memory m s i h)

    copied_or_same : (same : Bool) (m : Memory) (b q c r n : ℕ) → MemoryFits p m
        → MemoryFits p (if same then m else copied (model o p) m b q c r n)
    copied_or_same true m b q c r n h = h
    copied_or_same false m b q c r n h = copied_bytes p (model o p) m b q c r n h

    copy_keeps : (b q c r n : ℕ) (same : Bool) (l : ℕ) → Keeps p (copy_at o p b q c r n same l)
    copy_keeps b q c r n same l left s h =
        unless_keeps (copy_fault o p b q c r n same) l s _ h
        (with_memory _ s (copied_or_same same s.memory b q c r n h.memory) h)

    out_of_keeps : (b l : ℕ) → ByteKeeps (out_of o p b l)
    out_of_keeps b l here s go h i = byte_out_keeps (s.memory b here) l s go (h.memory b here) h i

    into_keeps : (b : ℕ) → ByteKeeps (into o p b)
    into_keeps b here s go h i =
        taken_keeps s.inputs s _ h
        (λ v r k. i (remembers (filled (model o p) r.memory b here 1 (v % 256)) r)
        (with_memory _ r (filled_bytes p (model o p) r.memory b here 1 (v % 256) (mod_below v 256 (omega arith))
        k.memory) k))

    input_takes : (m : Memory) (t : IntType) (d : Option Dest) (v : ℕ) → InputFits o p m t d
        → Takes d (int (wrapped t (pos v)))
    input_takes m t None v f = tt
    input_takes m t (Some d) v f = f.1 v

    module _ (c : Counting) (result : Option (ℕ × Scalar)) where
      does_keeps : (w : Simple) (l : ℕ) → ((s : State) → StateFits p s → SimpleOperandsFit o p s.memory result w)
          → Keeps p (does o p c result w l)
      does_keeps nothing l f left s h = h
      does_keeps (eval e) l f left s h = given_keeps (value o p e s.memory) l s _ h (λ v. h)
      does_keeps (assign what a e) l f left s h =
          given_keeps (address o p a s.memory) l s _ h
          (λ w. given_known (value o p e s.memory) l s _ (ValueFits p what) h (f s h).1.1
          (λ v k. put_to_keeps what w v l s (leaves on left) k h (leaves_keeps on left)))
      does_keeps (clear a ty) l f left s h =
          given_keeps (address o p a s.memory) l s _ h
          (λ w. at_place_keeps w l s _ h
          (λ b q. change_keeps b q (bytes_in o p ty) _ l left s (cleared_bytes p o ty s.memory b q h.memory) h))
      does_keeps (copy_aggregate a d ty) l f left s h =
          given_keeps (address o p a s.memory) l s _ h
          (λ w. given_keeps (address o p d s.memory) l s _ h
          (λ v. at_place_keeps w l s _ h
          (λ b q. at_place_keeps v l s _ h
          (λ c r. copy_keeps b q c r (bytes_in o p ty) (nat_eq b c && nat_eq q r) l left s h))))
      does_keeps (copy_bytes a d n) l f left s h =
          given_keeps (value o p a s.memory) l s _ h
          (λ w. given_keeps (value o p d s.memory) l s _ h
          (λ v. at_place_keeps w l s _ h
          (λ b q. at_place_keeps v l s _ h (λ c r. copy_keeps b q c r n false l left s h))))
      does_keeps (fill a e n) l f left s h =
          given_keeps (value o p a s.memory) l s _ h
          (λ w. given_keeps (value o p e s.memory) l s _ h
          (λ v. with_int_keeps v l s _ h (λ x. at_place_keeps w l s _ h
          (λ b q. change_keeps b q n _ l left s
          (filled_bytes p (model o p) s.memory b q n (representation U8 x) (representation_below U8 x) h.memory)
          h))))
      does_keeps (input t d) l f left s h = taken_keeps s.inputs s _ h
          (λ v r k. put_dest_keeps d (int (wrapped t (pos v))) l (input_takes r.memory t d v (f r k)) left r k)
      does_keeps (output t e) l f left s h =
          given_known (value o p e s.memory) l s _ (ValueFits p (Int t)) h (f s h).1
          (λ v k. number_known v l s _ (InRange t) h k (λ x i. output_fits (record { t = t; value = x }) s i h))
      does_keeps (read_bytes e n) l f left s h =
          given_keeps (value o p e s.memory) l s _ h
          (λ w. at_place_keeps w l s _ h
          (λ b q. unless_keeps (range_fault (size_at o p b) q n) l s _ h
          (bytewise_rest_keeps c (into o p b) n q (into_keeps b) left s h)))
      does_keeps (write_bytes e n) l f left s h =
          given_keeps (value o p e s.memory) l s _ h
          (λ w. at_place_keeps w l s _ h
          (λ b q. unless_keeps (range_fault (size_at o p b) q n) l s _ h
          (bytewise_rest_keeps c (out_of o p b l) n q (out_of_keeps b l) left s h)))
      does_keeps (returns e) l f left s h = returned_keeps result e l left s (f s h) h

    -- ---- calls

    -- values, one for each parameter, that fit
    abbrev FitAll : List (ℕ × Scalar) → List Value → Type 0
    FitAll [] vs = Unit {0}
    FitAll (b ∷ params) [] = Unit {0}
    FitAll (b ∷ params) (v ∷ vs) = ValueFits p b.1 v × FitAll params vs

    abbrev IfHave : Values → (List Value → Type 0) → Type 0
    IfHave (have vs) P = P vs
    IfHave (stops k) P = Unit {0}

    first_have : (v : Found) (vs : Values) (b : ℕ × Scalar) (params : List (ℕ × Scalar)) → IfHas v (ValueFits p b.1)
        → IfHave vs (FitAll params) → IfHave (first_and v vs) (FitAll (b ∷ params))
    first_have (has v) (have vs) b params h i = (h, i)
    first_have (has v) (stops k) b params h i = tt
    first_have (faults k) vs b params h i = tt

    any_values : (vs : Values) → IfHave vs (FitAll [])
    any_values (have vs) = tt
    any_values (stops k) = tt

    values_have : (params : List (ℕ × Scalar)) (es : List Expr) (m : Memory) → ArgumentsFit o p m params es
        → IfHave (values o p es m) (FitAll params)
    values_have [] es m f = any_values (values o p es m)
    values_have (b ∷ params) [] m f = absurd f
    values_have (b ∷ params) (e ∷ es) m f = first_have (value o p e m) (values o p es m) b params f.0.1
        (values_have params es m f.1)

    given_all_known : (vs : Values) (l : ℕ) (s : State) (go : List Value → Outcome) (P : List Value → Type 0)
        → StateFits p s → IfHave vs P → ((vs : List Value) → P vs → OutcomeFits p (go vs))
        → OutcomeFits p (given_all vs l s go)
    given_all_known (have vs) l s go P h i k = k vs i
    given_all_known (stops x) l s go P h i k = h

    bound_keeps : (params : List (ℕ × Scalar)) (vs : List Value) (l : ℕ) (s : State) (go : State → Outcome)
        → FitAll params vs → StateFits p s → ((r : State) → StateFits p r → OutcomeFits p (go r))
        → OutcomeFits p (bound o p params vs l s go)
    bound_keeps [] vs l s go f h i = i s h
    bound_keeps (b ∷ params) [] l s go f h i = i s h
    bound_keeps (b ∷ params) (v ∷ vs) l s go f h i = put_keeps b.1 b.0 0 v l s _ f.0 h
        (λ r k. bound_keeps params vs l r go f.1 k i)

    received_keeps : (r : Option (ℕ × Scalar)) (d : Option Dest) (l left : ℕ) (s : State)
        → ReceivedFits o p s.memory r d → StateFits p s → OutcomeFits p (received o p r d l left s)
    received_keeps r None l left s f h = h
    received_keeps None (Some d) l left s f h = absurd f
    received_keeps (Some r) (Some d) l left s f h =
        given_known (loaded o (model o p) (size_at o p r.0) s.memory r.1 r.0 0) l s _
        (λ v. ValueFits p r.1 v × ValueFits p d.what (converted d.what v)) h f.1
        (λ v k. put_dest_keeps (Some d) v l k.1 left s h)

    called_keeps : (f : Function) (d : Option Dest) (l : ℕ) (x : Outcome)
        → ((s : State) → StateFits p s → ReceivedFits o p s.memory f.result d) → OutcomeFits p x
        → OutcomeFits p (called o p f d l x)
    called_keeps f d l (leaves w left r) g h =
        let i : StateFits p (without (frame_of f) r) = without_fits (frame_of f) r h in
        received_keeps f.result d l left (without (frame_of f) r) (g (without (frame_of f) r) i) i
    called_keeps f d l (running r) g h = h
    called_keeps f d l (no_input r) g h = h
    called_keeps f d l (undefined_at k x r) g h = h

    call_keeps : (f : Option Function) (body : Going) (es : List Expr) (d : Option Dest) (l : ℕ)
        → ((s : State) → StateFits p s → CallOperandsFit o p s.memory f es d) → Keeps p body
        → Keeps p (call_of o p f body es d l)
    call_keeps None body es d l g k left s h = h
    call_keeps (Some f) body es d l g k left s h =
        let r : State = without (first_of (option_to_list f.result)) s in
        let i : StateFits p r = without_fits (first_of (option_to_list f.result)) s h in
        given_all_known (values o p es r.memory) l r _ (FitAll f.params) i (values_have f.params es r.memory (g r i).0)
        (λ vs j. bound_keeps f.params vs l (without (frame_of f) r) _ j (without_fits (frame_of f) r i)
        (λ q n. called_keeps f d l (body left q) (λ s h. (g s h).1) (k left q n)))

    -- ---- statements

    module _ (formed : is_well_formed p ≡ true) (c : Counting) where
      module _ (here : ℕ) (holds : list_all (holds_scalar p.types p.blocks)
          (option_to_list (result_in (slice_get p.functions here))) ≡ true) (bs : ℕ → Going)
          (known : (k : ℕ) → Keeps p (bs k)) where
        -- the type of the function's result
        abbrev own_type : Option ℕ
        own_type = result_type p.blocks (result_in (slice_get p.functions here))

        mutual
          pub exec_keeps : (w : What) (l : ℕ) (seen : List ℕ) (i : Bool) → what_fits p here own_type w seen i ≡ true
              → Keeps p (exec o p c here bs w l)
          exec_keeps (simple w) l seen i f left s h =
              step_keeps c left s _ h
              (λ k. does_keeps c (result_in (slice_get p.functions here)) w l
              (λ r g. simple_operands o p (sizes p formed) r.memory g.memory seen here (result_in (slice_get p.functions here)) w
              holds f) k s h)
          exec_keeps (call k es d) l seen i f left s h =
              step_keeps c left s _ h
              (λ j. call_keeps (callee_of p here k) (bs k) es d l
              (λ r g. call_operands o p (sizes p formed) r.memory g.memory seen here own_type (callee_of p here k) es d
              (known_callee p here k (holds_at p formed)) f) (known k) j s h)
          exec_keeps (if_else e a b) l seen i f left s h =
              let q = three (is_tested p.types p.blocks seen e) (stmts_fit p here own_type a seen i)
              (stmts_fit p here own_type b seen i) f in
              step_keeps c left s _ h
              (λ k. given_keeps (value o p e s.memory) l s _ h
              (λ v. either_keeps (is_true v) (exec_all o p c here bs a) (exec_all o p c here bs b)
              (all_keep a seen i q.1) (all_keep b seen i q.2) k s h))
          exec_keeps (loop first e a b) l seen i f left s h =
              let q = three (is_tested p.types p.blocks seen e) (stmts_fit p here own_type a seen true)
              (are_plain b && stmts_fit p here own_type b seen i) f in
              let body = all_keep a seen true q.1 in
              let next = all_keep b seen i (and_parts (are_plain b) (stmts_fit p here own_type b seen i) q.2).1 in
              step_keeps c left s _ h
              (λ k. first_turn_keeps c first (exec_all o p c here bs a) (exec_all o p c here bs b) _ body next
              (looped_keeps c (suc k) (value o p e) l (exec_all o p c here bs a) (exec_all o p c here bs b) body next)
              k s h)
          exec_keeps break_loop l seen i f left s h = step_keeps c left s _ h (λ k. h)
          exec_keeps continue_loop l seen i f left s h = step_keeps c left s _ h (λ k. h)
          exec_keeps (by_order named a b) l seen i f left s h =
              let q = and_parts (stmts_fit p here own_type a seen i) (stmts_fit p here own_type b seen i) f in
              step_keeps c left s _ h
              (λ k. arm_keeps s.joint_tests _
              (chosen_keeps (is_order o named) (exec_all o p c here bs a) (exec_all o p c here bs b)
              (all_keep a seen i q.0) (all_keep b seen i q.1) k s h))
          exec_keeps (scope xs a) l seen i f left s h =
              scope_keeps xs (exec_all o p c here bs a left (without xs s))
              (all_keep a (xs ++ seen) i f left (without xs s) (without_fits xs s h))

          pub all_keep : (ss : Stmts) (seen : List ℕ) (i : Bool) → stmts_fit p here own_type ss seen i ≡ true
              → Keeps p (exec_all o p c here bs ss)
          all_keep stop seen i f left s h = h
          all_keep (more l w rest) seen i f left s h =
              let q = and_parts (what_fits p here own_type w seen i) (stmts_fit p here own_type rest seen i) f in
              and_then_keeps (exec o p c here bs w l left s) (exec_all o p c here bs rest)
              (exec_keeps w l seen i q.0 left s h) (all_keep rest seen i q.1)

      -- statements of the function of this number
      list_keeps : (f : Function) (here : ℕ) (bs : ℕ → Going) → ((k : ℕ) → Keeps p (bs k))
          → slice_get p.functions here ≡ Some f
          → (ss : Stmts) (seen : List ℕ) (i : Bool) → stmts_fit p here (result_type p.blocks f.result) ss seen i ≡ true
          → Keeps p (exec_all o p c here bs ss)
      list_keeps f here bs known e ss seen i h =
          all_keep here
          (subst (λ g. list_all (holds_scalar p.types p.blocks) (option_to_list (result_in g)) ≡ true) (sym e)
          (fits_at p formed here f e).1)
          bs known ss seen i
          (subst (λ g. stmts_fit p here (result_type p.blocks (result_in g)) ss seen i ≡ true) (sym e) h)

      body_keeps : (f : Option Function) (here : ℕ) (bs : ℕ → Going) → ((k : ℕ) → Keeps p (bs k))
          → slice_get p.functions here ≡ f → Keeps p (body_of o p c f here bs)
      body_keeps None here bs known e = leaves_keeps on
      body_keeps (Some f) here bs known e = list_keeps f here bs known e f.body (frame_of f) false
          (fits_at p formed here f e).2

      pub bodies_keep : (n k : ℕ) → Keeps p (bodies o p c n k)
      bodies_keep zero k = leaves_keeps on
      bodies_keep (suc n) k =
          chosen_keeps (nat_eq k n) (body_of o p c (slice_get p.functions n) n (bodies o p c n)) (bodies o p c n k)
          (body_keeps (slice_get p.functions n) n (bodies o p c n) (bodies_keep n) refl) (bodies_keep n k)

      start_fits : (inputs : List ℕ) → StateFits p (start o p inputs)
      start_fits inputs = record { memory = initial_bytes p o (first_values_fit p formed); outputs = tt }

      pub main_keeps : (inputs : List ℕ) (n : ℕ) → OutcomeFits p (main_from o p c inputs n)
      main_keeps inputs n =
          body_keeps (main_function o p) p.main (bodies o p c p.main) (bodies_keep p.main) refl n (start o p inputs)
          (start_fits inputs)

    -- ---- runs

    result_puts : (v : Found) (l : ℕ) (s : State) → IfHas v (ValueFits p (Int I32)) → StateFits p s
        → OutputsFit (result_out v l s).outputs
    result_puts (has (int v)) l s i h = one_more (record { t = I32; value = v }) s.outputs h.outputs i
    result_puts (has null) l s i h = h.outputs
    result_puts (has (pointer b q)) l s i h = h.outputs
    result_puts (faults k) l s i h = h.outputs

    ends_puts : (r : Option (ℕ × Scalar)) (l : ℕ) (s : State) → MainResultFits o p s.memory r → StateFits p s
        → OutputsFit (main_ends o p r l s).outputs
    ends_puts None l s i h = h.outputs
    ends_puts (Some r) l s i h = result_puts (loaded o (model o p) (size_at o p r.0) s.memory r.1 r.0 0) l s i h

    finished_puts : is_well_formed p ≡ true → (x : Outcome) → OutcomeFits p x → OutputsFit (finished o p x).outputs
    finished_puts formed (leaves w left s) h = ends_puts (result_in (main_function o p))
        (line_of o p (main_function o p)) s (main_fits p formed o s.memory h.memory) h
    finished_puts formed (running s) h = h.outputs
    finished_puts formed (no_input s) h = h.outputs
    finished_puts formed (undefined_at l k s) h = h.outputs

pub every_body_keeps : BodiesKeep
every_body_keeps p formed o c n k = bodies_keep p o formed c n k

pub statements_keep : StatementsKeep
statements_keep p formed o c here f e ss seen i h = list_keeps p o formed c f here (bodies o p c here)
    (bodies_keep p o formed c here) e ss seen i h

pub runs_fit : RunsFit
runs_fit p formed o c inputs n =
    let h = main_keeps p o formed c inputs n in
    (h, finished_puts p o formed (main_from o p c inputs n) h)
