-- A run with more steps, or by more turns, goes on where one with fewer stops.
use Rattle.std.proofs.Common.{◌≡◌, ℕ, zero, suc, ◌+◌, ◌%◌, ◌≤◌, ℤ, pos, List, [], ◌∷◌, refl, sym, ap, subst, Option}
use Rattle.std.proofs.Common.{Some, None, option_to_list, arith, nat_eq, ◌&&◌, slice_get, Bool, true, false}
use Rattle.ep_int.specs.declared.types.IntType.TheVariants.{U8}
use Rattle.ep_int.specs.declared.types.Scalar.{Scalar}
use Rattle.ep_int.specs.declared.types.Order.{Order}
use Rattle.ep_int.specs.Types.{wrapped}
use Rattle.ep_int.specs.Memory.{Byte, undefined, number, fragment, Memory, Value, int, null, pointer, Kind, Found}
use Rattle.ep_int.specs.Memory.{has, faults, loaded, stored, filled, range_fault, store_fault}
use Rattle.ep_core.specs.Program.{Expr, Dest, Simple, nothing, eval, assign, clear, copy_aggregate, copy_bytes, fill}
use Rattle.ep_core.specs.Program.{input, output, read_bytes, write_bytes, returns, What, simple, call, if_else, loop}
use Rattle.ep_core.specs.Program.{break_loop, continue_loop, by_order, scope, Stmts, stop, more, Function, Program}
use Rattle.ep_core.specs.Exec.{State, Way, on, broken, continued, returned, Outcome, leaves, running, no_input}
use Rattle.ep_core.specs.Exec.{undefined_at, Going, given, with_int, at_place, unless, Counting, counted, uncounted}
use Rattle.ep_core.specs.Exec.{step, and_then, remembers, put_out, listed, without, taken, converted, ByteStep}
use Rattle.ep_core.specs.Exec.{bytewise, bytewise_rest, byte_out, code_of_test, is_true, either, turned, turn, looped}
use Rattle.ep_core.specs.Exec.{first_turn, scope_left, is_order, chosen, arm_left, Values, have, stops, given_all}
use Rattle.ep_core.specs.Exec.{first_of, frame_of, result_in, callee_of, model, size_at, bytes_in, value, address}
use Rattle.ep_core.specs.Exec.{values, put_at, put_to, put_dest, put_result, returned_with, change, copy_fault}
use Rattle.ep_core.specs.Exec.{copy_at, out_of, into, does, bound, received, called, entered, call_of, exec, exec_all}
use Rattle.ep_core.specs.Exec.{body_of, bodies}
use Rattle.ep_core.proofs.Prefixes.{begins_refl, begins_trans, begins_more}
use Rattle.ep_core.proofs.Grows.{state_in, Later, later_refl, later_trans, Grows, Growing, grown, leaves_grows}
use Rattle.ep_core.proofs.Grows.{turn_grows, looped_grows, ByteGrowing, bytewise_grows, out_of_grows, into_grows}
use Rattle.ep_core.proofs.Grows.{received_grows, exec_grows, all_grow}

-- What comes of some steps here, beside what comes of as many there as `shift` says.
abbrev pub Starts : (ℕ → ℕ) → Outcome → Outcome → Type 0
Starts shift (leaves w left s) y = y ≡ leaves w (shift left) s
Starts shift (running s) y = Later s (state_in y)
Starts shift (no_input s) y = y ≡ no_input s
Starts shift (undefined_at l k s) y = y ≡ undefined_at l k s

-- How many steps the run there has where up to n are left here.
pub record Shifts (n : ℕ) (c c' : Counting) (shift : ℕ → ℕ) : Type 0 where
  pub stepped : (left : ℕ) (s : State) (f g : ℕ → Outcome) → left ≤ n
      → ((j : ℕ) → j ≤ n → Starts shift (f j) (g (shift j)))
      → Grows s (shift left) (step c' (shift left) s g) → Starts shift (step c left s f) (step c' (shift left) s g)
  pub enough : (j : ℕ) → j ≤ n → j ≤ shift j

-- d steps more
more_stepped : (n d left : ℕ) (s : State) (f g : ℕ → Outcome) → left ≤ n
    → ((j : ℕ) → j ≤ n → Starts (λ j. d + j) (f j) (g (d + j))) → Grows s (d + left) (step counted (d + left) s g)
    → Starts (λ j. d + j) (step counted left s f) (step counted (d + left) s g)
more_stepped n d zero s f g le h w = grown s (d + 0) _ w
more_stepped n d (suc j) s f g le h w =
    let e : d + suc j ≡ suc (d + j) = omega arith in
    subst (λ k. Starts (λ j. d + j) (f j) (step counted k s g)) (sym e) (h j (omega arith))

pub more_steps : (n d : ℕ) → Shifts n counted counted (λ j. d + j)
more_steps n d = record { stepped = more_stepped n d; enough = λ j le. omega arith }

-- by m turns, and not by steps
turns_stepped : (m left : ℕ) (s : State) (f g : ℕ → Outcome) → left ≤ m
    → ((j : ℕ) → j ≤ m → Starts (λ j. m) (f j) (g m)) → Grows s m (step uncounted m s g)
    → Starts (λ j. m) (step counted left s f) (step uncounted m s g)
turns_stepped m zero s f g le h w = grown s m (g m) w
turns_stepped m (suc j) s f g le h w = h j (omega arith)

pub to_turns : (m : ℕ) → Shifts m counted uncounted (λ j. m)
to_turns m = record { stepped = turns_stepped m; enough = λ j le. le }

-- by m turns, and not by n
pub more_turns : (n m : ℕ) → n ≤ m → Shifts n uncounted uncounted (λ j. m)
more_turns n m le = record { stepped = λ left s f g l h w. h left l; enough = λ j l. omega (arith, le, l) }

module _ (n : ℕ) (c c' : Counting) (shift : ℕ → ℕ) (law : Shifts n c c' shift) where
  abbrev pub Follows : Going → Going → Type 0
  Follows f g = (left : ℕ) (s : State) → left ≤ n → Starts shift (f left s) (g (shift left) s)

  pub record Pair (f g : Going) : Type 0 where
    pub short : Growing f
    pub long : Growing g
    pub follows : Follows f g

  -- ---- ways to go on

  given_starts : (v : Found) (l : ℕ) (s : State) (f g : Value → Outcome) → ((v : Value) → Starts shift (f v) (g v))
      → Starts shift (given v l s f) (given v l s g)
  given_starts (has v) l s f g h = h v
  given_starts (faults k) l s f g h = refl

  given_all_starts : (vs : Values) (l : ℕ) (s : State) (f g : List Value → Outcome)
      → ((vs : List Value) → Starts shift (f vs) (g vs)) → Starts shift (given_all vs l s f) (given_all vs l s g)
  given_all_starts (have vs) l s f g h = h vs
  given_all_starts (stops k) l s f g h = refl

  with_int_starts : (v : Value) (l : ℕ) (s : State) (f g : ℤ → Outcome) → ((x : ℤ) → Starts shift (f x) (g x))
      → Starts shift (with_int v l s f) (with_int v l s g)
  with_int_starts (int v) l s f g h = h v
  with_int_starts null l s f g h = refl
  with_int_starts (pointer b q) l s f g h = refl

  at_place_starts : (v : Value) (l : ℕ) (s : State) (f g : ℕ → ℕ → Outcome) → ((b q : ℕ) → Starts shift (f b q) (g b q))
      → Starts shift (at_place v l s f) (at_place v l s g)
  at_place_starts (int v) l s f g h = refl
  at_place_starts null l s f g h = refl
  at_place_starts (pointer b q) l s f g h = h b q

  unless_starts : (k : Option Kind) (l : ℕ) (s : State) (x y : Outcome) → Starts shift x y
      → Starts shift (unless k l s x) (unless k l s y)
  unless_starts None l s x y h = h
  unless_starts (Some k) l s x y h = refl

  then_later : (x : Outcome) (go : Going) → Growing go → Later (state_in x) (state_in (and_then x go))
  then_later (leaves on left s) go g = grown s left (go left s) (g left s)
  then_later (leaves broken left s) go g = later_refl s
  then_later (leaves continued left s) go g = later_refl s
  then_later (leaves returned left s) go g = later_refl s
  then_later (running s) go g = later_refl s
  then_later (no_input s) go g = later_refl s
  then_later (undefined_at l k s) go g = later_refl s

  and_then_starts : (k : ℕ) (start : State) (x y : Outcome) (f g : Going) → Grows start k x → k ≤ n → Starts shift x y
      → Pair f g → Starts shift (and_then x f) (and_then y g)
  and_then_starts k start (leaves on left s) y f g w le e p =
      subst (λ z. Starts shift (f left s) (and_then z g)) (sym e) (p.follows left s (omega (arith, w.1)))
  and_then_starts k start (leaves broken left s) y f g w le e p = ap (λ z. and_then z g) e
  and_then_starts k start (leaves continued left s) y f g w le e p = ap (λ z. and_then z g) e
  and_then_starts k start (leaves returned left s) y f g w le e p = ap (λ z. and_then z g) e
  and_then_starts k start (running s) y f g w le e p =
      later_trans s (state_in y) (state_in (and_then y g)) e (then_later y g p.long)
  and_then_starts k start (no_input s) y f g w le e p = ap (λ z. and_then z g) e
  and_then_starts k start (undefined_at l j s) y f g w le e p = ap (λ z. and_then z g) e

  taken_starts : (vs : List ℕ) (s : State) (f g : ℕ → State → Outcome)
      → ((v : ℕ) (r : State) → Starts shift (f v r) (g v r)) → Starts shift (taken vs s f) (taken vs s g)
  taken_starts [] s f g h = refl
  taken_starts (v ∷ rest) s f g h = h v (record s { inputs = rest; used = s.used + 1 })

  abbrev ByteStarting : ByteStep → Type 0
  ByteStarting one =
      (here : ℕ) (s : State) (f g : State → Outcome) → ((r : State) → Starts shift (f r) (g r))
      → Starts shift (one here s f) (one here s g)

  bytewise_starts : (one : ByteStep) (count here : ℕ) → ByteGrowing one → ByteStarting one
      → Follows (bytewise c one count here) (bytewise c' one count here)
  bytewise_starts one zero here w h left s le = refl
  bytewise_starts one (suc count) here w h left s le =
      law.stepped left s _ _ le
      (λ j jn. h here s _ _ (λ r. bytewise_starts one count (here + 1) w h j r jn))
      (bytewise_grows c' one (suc count) here w (shift left) s)

  bytewise_rest_starts : (one : ByteStep) (count here : ℕ) → ByteGrowing one → ByteStarting one
      → Follows (bytewise_rest c one count here) (bytewise_rest c' one count here)
  bytewise_rest_starts one zero here w h left s le = refl
  bytewise_rest_starts one (suc count) here w h left s le =
      h here s _ _ (λ r. bytewise_starts one count (here + 1) w h left r le)

  byte_out_starts : (b : Byte) (l : ℕ) (s : State) (f g : State → Outcome) → ((r : State) → Starts shift (f r) (g r))
      → Starts shift (byte_out b l s f) (byte_out b l s g)
  byte_out_starts undefined l s f g h = refl
  byte_out_starts (number v) l s f g h = h (put_out U8 (pos v) s)
  byte_out_starts (fragment b o k) l s f g h = refl

  -- ---- tests, loops, scopes and arms

  either_starts : (t : Bool) (a b a' b' : Going) → Follows a a' → Follows b b' → Follows (either t a b) (either t a' b')
  either_starts true a b a' b' p q left s le = p left (listed (code_of_test true) s) le
  either_starts false a b a' b' p q left s le = q left (listed (code_of_test false) s) le

  turned_later : (x : Outcome) (next again : Going) → Growing next → Growing again
      → Later (state_in x) (state_in (turned x next again))
  turned_later (leaves on left s) next again g h =
      later_trans s (state_in (next left s)) (state_in (and_then (next left s) again))
      (grown s left (next left s) (g left s)) (then_later (next left s) again h)
  turned_later (leaves broken left s) next again g h = later_refl s
  turned_later (leaves continued left s) next again g h =
      later_trans s (state_in (next left s)) (state_in (and_then (next left s) again))
      (grown s left (next left s) (g left s)) (then_later (next left s) again h)
  turned_later (leaves returned left s) next again g h = later_refl s
  turned_later (running s) next again g h = later_refl s
  turned_later (no_input s) next again g h = later_refl s
  turned_later (undefined_at l k s) next again g h = later_refl s

  -- the step part, and what comes next
  next_starts : (left : ℕ) (s : State) (y : Outcome) (next again next' again' : Going) → left ≤ n → Pair next next'
      → Pair again again' → y ≡ and_then (next' (shift left) s) again' → Starts shift (and_then (next left s) again) y
  next_starts left s y next again next' again' le p q e =
      subst (Starts shift (and_then (next left s) again)) (sym e)
      (and_then_starts left s (next left s) (next' (shift left) s) again again' (p.short left s) le
      (p.follows left s le) q)

  turned_starts : (k : ℕ) (start : State) (x y : Outcome) (next again next' again' : Going) → Grows start k x → k ≤ n
      → Starts shift x y → Pair next next' → Pair again again'
      → Starts shift (turned x next again) (turned y next' again')
  turned_starts k start (leaves on left s) y next again next' again' w le e p q =
      next_starts left s (turned y next' again') next again next' again' (omega (arith, w.1)) p q
      (ap (λ z. turned z next' again') e)
  turned_starts k start (leaves broken left s) y next again next' again' w le e p q = ap (λ z. turned z next' again') e
  turned_starts k start (leaves continued left s) y next again next' again' w le e p q =
      next_starts left s (turned y next' again') next again next' again' (omega (arith, w.1)) p q
      (ap (λ z. turned z next' again') e)
  turned_starts k start (leaves returned left s) y next again next' again' w le e p q =
      ap (λ z. turned z next' again') e
  turned_starts k start (running s) y next again next' again' w le e p q =
      later_trans s (state_in y) (state_in (turned y next' again')) e (turned_later y next' again' p.long q.long)
  turned_starts k start (no_input s) y next again next' again' w le e p q = ap (λ z. turned z next' again') e
  turned_starts k start (undefined_at l j s) y next again next' again' w le e p q = ap (λ z. turned z next' again') e

  turn_starts : (body body' next next' again again' : Going) → Pair body body' → Pair next next' → Pair again again'
      → Follows (turn c body next again) (turn c' body' next' again')
  turn_starts body body' next next' again again' p q r left s le =
      law.stepped left s _ _ le
      (λ j jn. turned_starts j s (body j s) (body' (shift j) s) next again next' again' (p.short j s) jn
      (p.follows j s jn) q r)
      (turn_grows c' body' next' again' p.long q.long r.long (shift left) s)

  leaves_pair : Pair (leaves on) (leaves on)
  leaves_pair = record { short = leaves_grows on; long = leaves_grows on; follows = λ left s le. refl }

  with_follows : (most t : ℕ) (test : Memory → Found) (l : ℕ) (body body' next next' : Going) → Pair body body'
      → Pair next next' → Follows (looped c most test l body next) (looped c' t test l body' next')
      → Pair (looped c most test l body next) (looped c' t test l body' next')
  with_follows most t test l body body' next next' p q h = record {
    short = looped_grows c most test l body next p.short q.short;
    long = looped_grows c' t test l body' next' p.long q.long;
    follows = h;
  }

  looped_starts : (most t : ℕ) (test : Memory → Found) (l : ℕ) (body body' next next' : Going) → most ≤ t
      → Pair body body' → Pair next next' → Follows (looped c most test l body next) (looped c' t test l body' next')
  looped_starts zero t test l body body' next next' le p q left s ln =
      grown s (shift left) _ (looped_grows c' t test l body' next' p.long q.long (shift left) s)
  looped_starts (suc most) zero test l body body' next next' le p q left s ln = absurd (omega arith)
  looped_starts (suc most) (suc t) test l body body' next next' le p q left s ln =
      let short = looped c most test l body next in
      let long = looped c' t test l body' next' in
      let again = with_follows most t test l body body' next next' p q
      (looped_starts most t test l body body' next next' (omega arith) p q) in
      given_starts (test s.memory) l s _ _
      (λ v. either_starts (is_true v) (turn c body next short) (leaves on) (turn c' body' next' long) (leaves on)
      (turn_starts body body' next next' short long p q again) (λ left s le. refl) left s ln)

  looped_pair : (most t : ℕ) (test : Memory → Found) (l : ℕ) (body body' next next' : Going) → most ≤ t
      → Pair body body' → Pair next next' → Pair (looped c most test l body next) (looped c' t test l body' next')
  looped_pair most t test l body body' next next' le p q =
      with_follows most t test l body body' next next' p q (looped_starts most t test l body body' next next' le p q)

  first_turn_starts : (first : Bool) (body body' next next' again again' : Going) → Pair body body' → Pair next next'
      → Pair again again' → Follows (first_turn c first body next again) (first_turn c' first body' next' again')
  first_turn_starts true body body' next next' again again' p q r left s le = r.follows left s le
  first_turn_starts false body body' next next' again again' p q r left s le =
      turn_starts body body' next next' again again' p q r left s le

  scope_later : (bs : List ℕ) (s : State) (y : Outcome) → Later s (state_in y) → Later s (state_in (scope_left bs y))
  scope_later bs s (leaves w left r) e = e
  scope_later bs s (running r) e = e
  scope_later bs s (no_input r) e = e
  scope_later bs s (undefined_at l k r) e = e

  scope_starts : (bs : List ℕ) (x y : Outcome) → Starts shift x y → Starts shift (scope_left bs x) (scope_left bs y)
  scope_starts bs (leaves w left s) y e = ap (scope_left bs) e
  scope_starts bs (running s) y e = scope_later bs s y e
  scope_starts bs (no_input s) y e = ap (scope_left bs) e
  scope_starts bs (undefined_at l k s) y e = ap (scope_left bs) e

  arm_later : (joint : List ℕ) (s : State) (y : Outcome) → Later s (state_in y)
      → Later (record s { joint_tests = joint }) (state_in (arm_left joint y))
  arm_later joint s (leaves w left r) e = (e.0, begins_trans _ _ _ e.1 (begins_more _ _), begins_more _ _, e.3)
  arm_later joint s (running r) e = (e.0, e.1, begins_refl _, e.3)
  arm_later joint s (no_input r) e = (e.0, e.1, begins_refl _, e.3)
  arm_later joint s (undefined_at l k r) e = (e.0, e.1, begins_refl _, e.3)

  arm_starts : (joint : List ℕ) (x y : Outcome) → Starts shift x y → Starts shift (arm_left joint x) (arm_left joint y)
  arm_starts joint (leaves w left s) y e = ap (arm_left joint) e
  arm_starts joint (running s) y e = arm_later joint s y e
  arm_starts joint (no_input s) y e = ap (arm_left joint) e
  arm_starts joint (undefined_at l k s) y e = ap (arm_left joint) e

  chosen_starts : (t : Bool) (a b a' b' : Going) → Follows a a' → Follows b b' → Follows (chosen t a b) (chosen t a' b')
  chosen_starts true a b a' b' p q = p
  chosen_starts false a b a' b' p q = q

  chosen_pair : (t : Bool) (a b a' b' : Going) → Pair a a' → Pair b b' → Pair (chosen t a b) (chosen t a' b')
  chosen_pair true a b a' b' p q = p
  chosen_pair false a b a' b' p q = q

  -- ---- stores and statements without statements in them

  module _ (o : Order) (p : Program) where
    put_starts : (what : Scalar) (b q : ℕ) (v : Value) (l : ℕ) (s : State) (f g : State → Outcome)
        → ((r : State) → Starts shift (f r) (g r))
        → Starts shift (put_at o p what b q v l s f) (put_at o p what b q v l s g)
    put_starts what b q v l s f g h =
        unless_starts (store_fault (model o p) (size_at o p b) what q) l s _ _
        (h (remembers (stored o (model o p) s.memory what b q v) s))

    put_to_starts : (what : Scalar) (w v : Value) (way : Way) (l left : ℕ) (s : State)
        → Starts shift (put_to o p what w v l s (leaves way left)) (put_to o p what w v l s (leaves way (shift left)))
    put_to_starts what w v way l left s =
        at_place_starts w l s _ _
        (λ b q. put_starts what b q v l s (leaves way left) (leaves way (shift left)) (λ r. refl))

    put_dest_starts : (d : Option Dest) (v : Value) (l left : ℕ) (s : State)
        → Starts shift (put_dest o p d v l left s) (put_dest o p d v l (shift left) s)
    put_dest_starts None v l left s = refl
    put_dest_starts (Some d) v l left s =
        given_starts (address o p d.place s.memory) l s _ _
        (λ w. put_to_starts d.what w (converted d.what v) on l left s)

    put_result_starts : (r : Option (ℕ × Scalar)) (v : Value) (l left : ℕ) (s : State)
        → Starts shift (put_result o p r v l left s) (put_result o p r v l (shift left) s)
    put_result_starts None v l left s = refl
    put_result_starts (Some r) v l left s =
        put_starts r.1 r.0 0 v l s (leaves returned left) (leaves returned (shift left)) (λ q. refl)

    returned_starts : (r : Option (ℕ × Scalar)) (e : Option Expr) (l left : ℕ) (s : State)
        → Starts shift (returned_with o p r e l left s) (returned_with o p r e l (shift left) s)
    returned_starts r None l left s = refl
    returned_starts r (Some e) l left s =
        given_starts (value o p e s.memory) l s _ _ (λ v. put_result_starts r v l left s)

    change_starts : (b q k : ℕ) (m : Memory) (l left : ℕ) (s : State)
        → Starts shift (change o p b q k m l left s) (change o p b q k m l (shift left) s)
    change_starts b q k m l left s = unless_starts (range_fault (size_at o p b) q k) l s _ _ refl

    copy_starts : (b q d r k : ℕ) (same : Bool) (l left : ℕ) (s : State)
        → Starts shift (copy_at o p b q d r k same l left s) (copy_at o p b q d r k same l (shift left) s)
    copy_starts b q d r k same l left s = unless_starts (copy_fault o p b q d r k same) l s _ _ refl

    out_of_starts : (b l : ℕ) → ByteStarting (out_of o p b l)
    out_of_starts b l here s f g h = byte_out_starts (s.memory b here) l s f g h

    into_starts : (b : ℕ) → ByteStarting (into o p b)
    into_starts b here s f g h =
        taken_starts s.inputs s _ _ (λ v r. h (remembers (filled (model o p) r.memory b here 1 (v % 256)) r))

    module _ (result : Option (ℕ × Scalar)) where
      does_starts : (w : Simple) (l : ℕ) → Follows (does o p c result w l) (does o p c' result w l)
      does_starts nothing l left s le = refl
      does_starts (eval e) l left s le = given_starts (value o p e s.memory) l s _ _ (λ v. refl)
      does_starts (assign what a e) l left s le =
          given_starts (address o p a s.memory) l s _ _
          (λ w. given_starts (value o p e s.memory) l s _ _ (λ v. put_to_starts what w v on l left s))
      does_starts (clear a ty) l left s le =
          given_starts (address o p a s.memory) l s _ _
          (λ w. at_place_starts w l s _ _ (λ b q. change_starts b q (bytes_in o p ty) _ l left s))
      does_starts (copy_aggregate a d ty) l left s le =
          given_starts (address o p a s.memory) l s _ _
          (λ w. given_starts (address o p d s.memory) l s _ _
          (λ v. at_place_starts w l s _ _
          (λ b q. at_place_starts v l s _ _
          (λ k r. copy_starts b q k r (bytes_in o p ty) (nat_eq b k && nat_eq q r) l left s))))
      does_starts (copy_bytes a d k) l left s le =
          given_starts (value o p a s.memory) l s _ _
          (λ w. given_starts (value o p d s.memory) l s _ _
          (λ v. at_place_starts w l s _ _
          (λ b q. at_place_starts v l s _ _ (λ j r. copy_starts b q j r k false l left s))))
      does_starts (fill a e k) l left s le =
          given_starts (value o p a s.memory) l s _ _
          (λ w. given_starts (value o p e s.memory) l s _ _
          (λ v. with_int_starts v l s _ _ (λ x. at_place_starts w l s _ _ (λ b q. change_starts b q k _ l left s))))
      does_starts (input t d) l left s le =
          taken_starts s.inputs s _ _ (λ v r. put_dest_starts d (int (wrapped t (pos v))) l left r)
      does_starts (output t e) l left s le =
          given_starts (value o p e s.memory) l s _ _ (λ v. with_int_starts v l s _ _ (λ x. refl))
      does_starts (read_bytes e k) l left s le =
          given_starts (value o p e s.memory) l s _ _
          (λ w. at_place_starts w l s _ _
          (λ b q. unless_starts (range_fault (size_at o p b) q k) l s _ _
          (bytewise_rest_starts (into o p b) k q (into_grows o p b) (into_starts b) left s le)))
      does_starts (write_bytes e k) l left s le =
          given_starts (value o p e s.memory) l s _ _
          (λ w. at_place_starts w l s _ _
          (λ b q. unless_starts (range_fault (size_at o p b) q k) l s _ _
          (bytewise_rest_starts (out_of o p b l) k q (out_of_grows o p b l) (out_of_starts b l) left s le)))
      does_starts (returns e) l left s le = returned_starts result e l left s

    -- ---- calls

    bound_starts : (bs : List (ℕ × Scalar)) (vs : List Value) (l : ℕ) (s : State) (f g : State → Outcome)
        → ((r : State) → Starts shift (f r) (g r)) → Starts shift (bound o p bs vs l s f) (bound o p bs vs l s g)
    bound_starts [] vs l s f g h = h s
    bound_starts (b ∷ bs) [] l s f g h = h s
    bound_starts (b ∷ bs) (v ∷ vs) l s f g h = put_starts b.1 b.0 0 v l s _ _ (λ r. bound_starts bs vs l r f g h)

    received_starts : (r : Option (ℕ × Scalar)) (d : Option Dest) (l left : ℕ) (s : State)
        → Starts shift (received o p r d l left s) (received o p r d l (shift left) s)
    received_starts r None l left s = refl
    received_starts None (Some d) l left s = refl
    received_starts (Some r) (Some d) l left s =
        given_starts (loaded o (model o p) (size_at o p r.0) s.memory r.1 r.0 0) l s _ _
        (λ v. put_dest_starts (Some d) v l left s)

    called_later : (f : Function) (d : Option Dest) (l : ℕ) (y : Outcome)
        → Later (state_in y) (state_in (called o p f d l y))
    called_later f d l (leaves w left s) =
        grown (without (frame_of f) s) left _ (received_grows o p f.result d l left (without (frame_of f) s))
    called_later f d l (running s) = later_refl s
    called_later f d l (no_input s) = later_refl s
    called_later f d l (undefined_at j x s) = later_refl s

    called_starts : (f : Function) (d : Option Dest) (l : ℕ) (x y : Outcome) → Starts shift x y
        → Starts shift (called o p f d l x) (called o p f d l y)
    called_starts f d l (leaves w left s) y e =
        subst (λ z. Starts shift (received o p f.result d l left (without (frame_of f) s)) (called o p f d l z)) (sym e)
        (received_starts f.result d l left (without (frame_of f) s))
    called_starts f d l (running s) y e =
        later_trans s (state_in y) (state_in (called o p f d l y)) e (called_later f d l y)
    called_starts f d l (no_input s) y e = ap (called o p f d l) e
    called_starts f d l (undefined_at j x s) y e = ap (called o p f d l) e

    entered_starts : (f : Function) (body body' : Going) (es : List Expr) (d : Option Dest) (l : ℕ) → Follows body body'
        → Follows (entered o p f body es d l) (entered o p f body' es d l)
    entered_starts f body body' es d l h left s le =
        given_all_starts (values o p es s.memory) l s _ _
        (λ vs. bound_starts f.params vs l (without (frame_of f) s) _ _
        (λ r. called_starts f d l (body left r) (body' (shift left) r) (h left r le)))

    call_starts : (f : Option Function) (body body' : Going) (es : List Expr) (d : Option Dest) (l : ℕ)
        → Follows body body' → Follows (call_of o p f body es d l) (call_of o p f body' es d l)
    call_starts None body body' es d l h left s le = refl
    call_starts (Some f) body body' es d l h left s le =
        entered_starts f body body' es d l h left (without (first_of (option_to_list f.result)) s) le

    -- ---- statements

    module _ (here : ℕ) (bs bs' : ℕ → Going) (known : (k : ℕ) → Pair (bs k) (bs' k)) where
      all_pair : (ss : Stmts) → Follows (exec_all o p c here bs ss) (exec_all o p c' here bs' ss)
          → Pair (exec_all o p c here bs ss) (exec_all o p c' here bs' ss)
      all_pair ss h =
          record {
            short = all_grow o p c here bs (λ k. (known k).short) ss;
            long = all_grow o p c' here bs'
                (λ k. (known k).long) ss;
            follows = h;
          }

      there_grows : (w : What) (l left : ℕ) (s : State) → Grows s (shift left) (exec o p c' here bs' w l (shift left) s)
      there_grows w l left s = exec_grows o p c' here bs' (λ k. (known k).long) w l (shift left) s

      mutual
        pub exec_starts : (w : What) (l : ℕ) → Follows (exec o p c here bs w l) (exec o p c' here bs' w l)
        exec_starts (simple w) l left s le =
            law.stepped left s _ _ le
            (λ j jn. does_starts (result_in (slice_get p.functions here)) w l j s jn) (there_grows (simple w) l left s)
        exec_starts (call k es d) l left s le =
            law.stepped left s _ _ le
            (λ j jn. call_starts (callee_of p here k) (bs k) (bs' k) es d l (known k).follows j s jn)
            (there_grows (call k es d) l left s)
        exec_starts (if_else e a b) l left s le =
            law.stepped left s _ _ le
            (λ j jn. given_starts (value o p e s.memory) l s _ _
            (λ v. either_starts (is_true v) (exec_all o p c here bs a) (exec_all o p c here bs b)
            (exec_all o p c' here bs' a) (exec_all o p c' here bs' b) (all_starts a) (all_starts b) j s jn))
            (there_grows (if_else e a b) l left s)
        exec_starts (loop first e a b) l left s le =
            law.stepped left s _ _ le
            (λ j jn. first_turn_starts first (exec_all o p c here bs a) (exec_all o p c' here bs' a)
            (exec_all o p c here bs b) (exec_all o p c' here bs' b) _ _ (all_pair a (all_starts a))
            (all_pair b (all_starts b))
            (looped_pair (suc j) (suc (shift j)) (value o p e) l (exec_all o p c here bs a) (exec_all o p c' here bs' a)
            (exec_all o p c here bs b) (exec_all o p c' here bs' b) (omega (arith, law.enough j jn))
            (all_pair a (all_starts a)) (all_pair b (all_starts b))) j s jn)
            (there_grows (loop first e a b) l left s)
        exec_starts break_loop l left s le = law.stepped left s _ _ le (λ j jn. refl) (there_grows break_loop l left s)
        exec_starts continue_loop l left s le =
            law.stepped left s _ _ le (λ j jn. refl) (there_grows continue_loop l left s)
        exec_starts (by_order named a b) l left s le =
            law.stepped left s _ _ le
            (λ j jn. arm_starts s.joint_tests _ _
            (chosen_starts (is_order o named) (exec_all o p c here bs a) (exec_all o p c here bs b)
            (exec_all o p c' here bs' a) (exec_all o p c' here bs' b) (all_starts a) (all_starts b) j s jn))
            (there_grows (by_order named a b) l left s)
        exec_starts (scope xs a) l left s le =
            scope_starts xs (exec_all o p c here bs a left (without xs s))
            (exec_all o p c' here bs' a (shift left) (without xs s)) (all_starts a left (without xs s) le)

        pub all_starts : (ss : Stmts) → Follows (exec_all o p c here bs ss) (exec_all o p c' here bs' ss)
        all_starts stop left s le = refl
        all_starts (more l w rest) left s le =
            and_then_starts left s (exec o p c here bs w l left s) (exec o p c' here bs' w l (shift left) s)
            (exec_all o p c here bs rest) (exec_all o p c' here bs' rest)
            (exec_grows o p c here bs (λ k. (known k).short) w l left s) le (exec_starts w l left s le)
            (all_pair rest (all_starts rest))

    pub body_pair : (f : Option Function) (here : ℕ) (bs bs' : ℕ → Going) → ((k : ℕ) → Pair (bs k) (bs' k))
        → Pair (body_of o p c f here bs) (body_of o p c' f here bs')
    body_pair None here bs bs' known = leaves_pair
    body_pair (Some f) here bs bs' known = all_pair here bs bs' known f.body (all_starts here bs bs' known f.body)

    pub bodies_pair : (m k : ℕ) → Pair (bodies o p c m k) (bodies o p c' m k)
    bodies_pair zero k = leaves_pair
    bodies_pair (suc m) k =
        chosen_pair (nat_eq k m) _ _ _ _
        (body_pair (slice_get p.functions m) m (bodies o p c m) (bodies o p c' m) (bodies_pair m)) (bodies_pair m k)
