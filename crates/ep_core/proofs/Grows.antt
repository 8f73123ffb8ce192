-- What was put out, tested and taken stays, and the steps that are left never rise.
use Rattle.std.proofs.Common.{ℕ, zero, suc, ◌+◌, ◌%◌, ◌≤◌, ℤ, pos, List, [], ◌∷◌, Option, Some, None, option_to_list}
use Rattle.std.proofs.Common.{arith, nat_eq, ◌&&◌, slice_get, Bool, true, false}
use Rattle.ep_int.specs.declared.types.IntType.TheVariants.{U8}
use Rattle.ep_int.specs.declared.types.Scalar.{Scalar}
use Rattle.ep_int.specs.declared.types.Order.{Order}
use Rattle.ep_int.specs.Types.{wrapped}
use Rattle.ep_int.specs.Memory.{Byte, undefined, number, fragment, Memory, Value, int, null, pointer, Kind, Found}
use Rattle.ep_int.specs.Memory.{has, faults, loaded, stored, filled, range_fault, store_fault}
use Rattle.ep_core.specs.Program.{Expr, Dest, Simple, nothing, eval, assign, clear, copy_aggregate, copy_bytes, fill}
use Rattle.ep_core.specs.Program.{input, output, read_bytes, write_bytes, returns, What, simple, call, if_else, loop}
use Rattle.ep_core.specs.Program.{break_loop, continue_loop, by_order, scope, Stmts, stop, more, Function, Program}
use Rattle.ep_core.specs.Exec.{State, Way, on, broken, continued, returned, Outcome, leaves, running, no_input}
use Rattle.ep_core.specs.Exec.{undefined_at, Going, given, with_int, at_place, unless, Counting, counted, uncounted}
use Rattle.ep_core.specs.Exec.{step, and_then, remembers, put_out, listed, without, taken, converted, ByteStep}
use Rattle.ep_core.specs.Exec.{bytewise, bytewise_rest, byte_out, code_of_test, is_true, either, turned, turn, looped}
use Rattle.ep_core.specs.Exec.{first_turn, scope_left, is_order, chosen, arm_left, Values, have, stops, given_all}
use Rattle.ep_core.specs.Exec.{first_of, frame_of, result_in, callee_of, model, size_at, bytes_in, value, address}
use Rattle.ep_core.specs.Exec.{values, put_at, put_to, put_dest, put_result, returned_with, change, copy_fault}
use Rattle.ep_core.specs.Exec.{copy_at, out_of, into, does, bound, received, called, entered, call_of, exec, exec_all}
use Rattle.ep_core.specs.Exec.{body_of, bodies}
use Rattle.ep_core.specs.Runs.{Begins}
use Rattle.ep_core.proofs.Prefixes.{begins_refl, begins_trans, begins_more}

abbrev pub state_in : Outcome → State
state_in (leaves w left s) = s
state_in (running s) = s
state_in (no_input s) = s
state_in (undefined_at l k s) = s

-- a state to which another may come
abbrev pub Later : State → State → Type 0
Later s r = Begins s.outputs r.outputs × Begins s.tests r.tests × Begins s.joint_tests r.joint_tests × (s.used ≤ r.used)

pub later_refl : (s : State) → Later s s
later_refl s = (begins_refl _, begins_refl _, begins_refl _, omega arith)

pub later_trans : (s r q : State) → Later s r → Later r q → Later s q
later_trans s r q p t =
    (begins_trans _ _ _ p.0 t.0, begins_trans _ _ _ p.1 t.1, begins_trans _ _ _ p.2 t.2, omega (arith, p.3, t.3))

pub listed_later : (code : ℕ) (s : State) → Later s (listed code s)
listed_later code s = (begins_refl _, begins_more _ _, begins_more _ _, omega arith)

-- from this state and so many steps on
abbrev pub Grows : State → ℕ → Outcome → Type 0
Grows s n (leaves w left r) = Later s r × (left ≤ n)
Grows s n (running r) = Later s r
Grows s n (no_input r) = Later s r
Grows s n (undefined_at l k r) = Later s r

abbrev pub Growing : Going → Type 0
Growing go = (left : ℕ) (s : State) → Grows s left (go left s)

pub grows_trans : (s r : State) (n n' : ℕ) (x : Outcome) → Later s r → n' ≤ n → Grows r n' x → Grows s n x
grows_trans s r n n' (leaves w left q) p le g = (later_trans s r q p g.0, omega (arith, g.1))
grows_trans s r n n' (running q) p le g = later_trans s r q p g
grows_trans s r n n' (no_input q) p le g = later_trans s r q p g
grows_trans s r n n' (undefined_at l k q) p le g = later_trans s r q p g

-- the same with the same steps
pub grows_from : (s r : State) (n : ℕ) (x : Outcome) → Later s r → Grows r n x → Grows s n x
grows_from s r n x p g = grows_trans s r n n x p (omega arith) g

pub grown : (s : State) (n : ℕ) (x : Outcome) → Grows s n x → Later s (state_in x)
grown s n (leaves w left r) g = g.0
grown s n (running r) g = g
grown s n (no_input r) g = g
grown s n (undefined_at l k r) g = g

-- ---- ways to go on

pub step_grows : (c : Counting) (left : ℕ) (s : State) (go : ℕ → Outcome) → ((k : ℕ) → Grows s k (go k))
    → Grows s left (step c left s go)
step_grows counted zero s go h = later_refl s
step_grows counted (suc k) s go h = grows_trans s s (suc k) k (go k) (later_refl s) (omega arith) (h k)
step_grows uncounted left s go h = h left

pub given_grows : (v : Found) (l n : ℕ) (s : State) (go : Value → Outcome) → ((v : Value) → Grows s n (go v))
    → Grows s n (given v l s go)
given_grows (has v) l n s go h = h v
given_grows (faults k) l n s go h = later_refl s

pub given_all_grows : (vs : Values) (l n : ℕ) (s : State) (go : List Value → Outcome)
    → ((vs : List Value) → Grows s n (go vs)) → Grows s n (given_all vs l s go)
given_all_grows (have vs) l n s go h = h vs
given_all_grows (stops k) l n s go h = later_refl s

pub with_int_grows : (v : Value) (l n : ℕ) (s : State) (go : ℤ → Outcome) → ((x : ℤ) → Grows s n (go x))
    → Grows s n (with_int v l s go)
with_int_grows (int v) l n s go h = h v
with_int_grows null l n s go h = later_refl s
with_int_grows (pointer b q) l n s go h = later_refl s

pub at_place_grows : (v : Value) (l n : ℕ) (s : State) (go : ℕ → ℕ → Outcome) → ((b q : ℕ) → Grows s n (go b q))
    → Grows s n (at_place v l s go)
at_place_grows (int v) l n s go h = later_refl s
at_place_grows null l n s go h = later_refl s
at_place_grows (pointer b q) l n s go h = h b q

pub unless_grows : (k : Option Kind) (l n : ℕ) (s : State) (x : Outcome) → Grows s n x → Grows s n (unless k l s x)
unless_grows None l n s x g = g
unless_grows (Some k) l n s x g = later_refl s

pub and_then_grows : (s : State) (n : ℕ) (x : Outcome) (go : Going) → Grows s n x → Growing go
    → Grows s n (and_then x go)
and_then_grows s n (leaves on left r) go g h = grows_trans s r n left (go left r) g.0 g.1 (h left r)
and_then_grows s n (leaves broken left r) go g h = g
and_then_grows s n (leaves continued left r) go g h = g
and_then_grows s n (leaves returned left r) go g h = g
and_then_grows s n (running r) go g h = g
and_then_grows s n (no_input r) go g h = g
and_then_grows s n (undefined_at l k r) go g h = g

pub leaves_grows : (w : Way) → Growing (leaves w)
leaves_grows w left s = (later_refl s, omega arith)

-- ---- inputs and outputs

pub taken_grows : (vs : List ℕ) (n : ℕ) (s : State) (go : ℕ → State → Outcome)
    → ((v : ℕ) (r : State) → Grows r n (go v r)) → Grows s n (taken vs s go)
taken_grows [] n s go h = later_refl s
taken_grows (v ∷ rest) n s go h =
    let r : State = record s { inputs = rest; used = s.used + 1 } in
    grows_from s r n (go v r) (begins_refl _, begins_refl _, begins_refl _, omega arith) (h v r)

abbrev pub ByteGrowing : ByteStep → Type 0
ByteGrowing one =
    (here n : ℕ) (s : State) (go : State → Outcome) → ((r : State) → Grows r n (go r)) → Grows s n (one here s go)

pub bytewise_grows : (c : Counting) (one : ByteStep) (n here : ℕ) → ByteGrowing one → Growing (bytewise c one n here)
bytewise_grows c one zero here g left s = leaves_grows on left s
bytewise_grows c one (suc n) here g left s =
    step_grows c left s _ (λ k. g here k s _ (bytewise_grows c one n (here + 1) g k))

pub bytewise_rest_grows : (c : Counting) (one : ByteStep) (n here : ℕ) → ByteGrowing one
    → Growing (bytewise_rest c one n here)
bytewise_rest_grows c one zero here g left s = leaves_grows on left s
bytewise_rest_grows c one (suc n) here g left s = g here left s _ (bytewise_grows c one n (here + 1) g left)

pub byte_out_grows : (b : Byte) (l n : ℕ) (s : State) (go : State → Outcome) → ((r : State) → Grows r n (go r))
    → Grows s n (byte_out b l s go)
byte_out_grows undefined l n s go h = later_refl s
byte_out_grows (number v) l n s go h =
    let r : State = put_out U8 (pos v) s in
    grows_from s r n (go r) (begins_more _ _, begins_refl _, begins_refl _, omega arith) (h r)
byte_out_grows (fragment b o k) l n s go h = later_refl s

-- ---- tests, loops, scopes and arms

pub either_grows : (t : Bool) (a b : Going) → Growing a → Growing b → Growing (either t a b)
either_grows true a b g h left s =
    grows_from s (listed (code_of_test true) s) left _ (listed_later _ s) (g left (listed (code_of_test true) s))
either_grows false a b g h left s =
    grows_from s (listed (code_of_test false) s) left _ (listed_later _ s) (h left (listed (code_of_test false) s))

pub turned_grows : (s : State) (n : ℕ) (x : Outcome) (next again : Going) → Grows s n x → Growing next → Growing again
    → Grows s n (turned x next again)
turned_grows s n (leaves on left r) next again g h i =
    and_then_grows s n (next left r) again (grows_trans s r n left (next left r) g.0 g.1 (h left r)) i
turned_grows s n (leaves broken left r) next again g h i = g
turned_grows s n (leaves continued left r) next again g h i =
    and_then_grows s n (next left r) again (grows_trans s r n left (next left r) g.0 g.1 (h left r)) i
turned_grows s n (leaves returned left r) next again g h i = g
turned_grows s n (running r) next again g h i = g
turned_grows s n (no_input r) next again g h i = g
turned_grows s n (undefined_at l k r) next again g h i = g

pub turn_grows : (c : Counting) (body next again : Going) → Growing body → Growing next → Growing again
    → Growing (turn c body next again)
turn_grows c body next again g h i left s =
    step_grows c left s _ (λ k. turned_grows s k (body k s) next again (g k s) h i)

pub looped_grows : (c : Counting) (most : ℕ) (test : Memory → Found) (l : ℕ) (body next : Going) → Growing body
    → Growing next → Growing (looped c most test l body next)
looped_grows c zero test l body next g h left s = later_refl s
looped_grows c (suc most) test l body next g h left s =
    given_grows (test s.memory) l left s _
    (λ v. either_grows (is_true v) (turn c body next (looped c most test l body next)) (leaves on)
    (turn_grows c body next (looped c most test l body next) g h (looped_grows c most test l body next g h))
    (leaves_grows on) left s)

pub first_turn_grows : (c : Counting) (first : Bool) (body next again : Going) → Growing body → Growing next
    → Growing again → Growing (first_turn c first body next again)
first_turn_grows c true body next again g h i left s = i left s
first_turn_grows c false body next again g h i left s = turn_grows c body next again g h i left s

pub scope_grows : (s : State) (n : ℕ) (bs : List ℕ) (x : Outcome) → Grows s n x → Grows s n (scope_left bs x)
scope_grows s n bs (leaves w left r) g = g
scope_grows s n bs (running r) g = g
scope_grows s n bs (no_input r) g = g
scope_grows s n bs (undefined_at l k r) g = g

-- what lies between a state and one of an arm, but for the joint tests
pub arm_grows : (s : State) (n : ℕ) (x : Outcome) → Grows s n x → Grows s n (arm_left s.joint_tests x)
arm_grows s n (leaves w left r) g = ((g.0.0, begins_trans _ _ _ g.0.1 (begins_more _ _), begins_more _ _, g.0.3), g.1)
arm_grows s n (running r) g = (g.0, g.1, begins_refl _, g.3)
arm_grows s n (no_input r) g = (g.0, g.1, begins_refl _, g.3)
arm_grows s n (undefined_at l k r) g = (g.0, g.1, begins_refl _, g.3)

pub chosen_grows : (t : Bool) (a b : Going) → Growing a → Growing b → Growing (chosen t a b)
chosen_grows true a b g h = g
chosen_grows false a b g h = h

-- ---- stores and statements without statements in them

module _ (o : Order) (p : Program) where
  pub put_grows : (what : Scalar) (b q : ℕ) (v : Value) (l n : ℕ) (s : State) (go : State → Outcome)
      → ((r : State) → Grows r n (go r)) → Grows s n (put_at o p what b q v l s go)
  put_grows what b q v l n s go h =
      let r : State = remembers (stored o (model o p) s.memory what b q v) s in
      unless_grows (store_fault (model o p) (size_at o p b) what q) l n s (go r)
      (grows_from s r n (go r) (later_refl s) (h r))

  pub put_to_grows : (what : Scalar) (w v : Value) (l n : ℕ) (s : State) (go : State → Outcome)
      → ((r : State) → Grows r n (go r)) → Grows s n (put_to o p what w v l s go)
  put_to_grows what w v l n s go h = at_place_grows w l n s _ (λ b q. put_grows what b q v l n s go h)

  pub put_dest_grows : (d : Option Dest) (v : Value) (l : ℕ) → Growing (put_dest o p d v l)
  put_dest_grows None v l left s = leaves_grows on left s
  put_dest_grows (Some d) v l left s =
      given_grows (address o p d.place s.memory) l left s _
      (λ w. put_to_grows d.what w (converted d.what v) l left s (leaves on left) (leaves_grows on left))

  pub put_result_grows : (r : Option (ℕ × Scalar)) (v : Value) (l : ℕ) → Growing (put_result o p r v l)
  put_result_grows None v l left s = later_refl s
  put_result_grows (Some r) v l left s =
      put_grows r.1 r.0 0 v l left s (leaves returned left) (leaves_grows returned left)

  pub returned_grows : (r : Option (ℕ × Scalar)) (e : Option Expr) (l : ℕ) → Growing (returned_with o p r e l)
  returned_grows r None l left s = leaves_grows returned left s
  returned_grows r (Some e) l left s =
      given_grows (value o p e s.memory) l left s _ (λ v. put_result_grows r v l left s)

  pub change_grows : (b q n : ℕ) (m : Memory) (l : ℕ) → Growing (change o p b q n m l)
  change_grows b q n m l left s = unless_grows (range_fault (size_at o p b) q n) l left s _ (later_refl s, omega arith)

  pub copy_grows : (b q c r n : ℕ) (same : Bool) (l : ℕ) → Growing (copy_at o p b q c r n same l)
  copy_grows b q c r n same l left s =
      unless_grows (copy_fault o p b q c r n same) l left s _ (later_refl s, omega arith)

  pub out_of_grows : (b l : ℕ) → ByteGrowing (out_of o p b l)
  out_of_grows b l here n s go h = byte_out_grows (s.memory b here) l n s go h

  pub into_grows : (b : ℕ) → ByteGrowing (into o p b)
  into_grows b here n s go h =
      taken_grows s.inputs n s _
      (λ v r. (let q : State = remembers (filled (model o p) r.memory b here 1 (v % 256)) r in grows_from r q n (go q)
      (later_refl r) (h q)))

  module _ (c : Counting) (result : Option (ℕ × Scalar)) where
    pub does_grows : (w : Simple) (l : ℕ) → Growing (does o p c result w l)
    does_grows nothing l left s = leaves_grows on left s
    does_grows (eval e) l left s = given_grows (value o p e s.memory) l left s _ (λ v. leaves_grows on left s)
    does_grows (assign what a e) l left s =
        given_grows (address o p a s.memory) l left s _
        (λ w. given_grows (value o p e s.memory) l left s _
        (λ v. put_to_grows what w v l left s (leaves on left) (leaves_grows on left)))
    does_grows (clear a ty) l left s =
        given_grows (address o p a s.memory) l left s _
        (λ w. at_place_grows w l left s _ (λ b q. change_grows b q (bytes_in o p ty) _ l left s))
    does_grows (copy_aggregate a d ty) l left s =
        given_grows (address o p a s.memory) l left s _
        (λ w. given_grows (address o p d s.memory) l left s _
        (λ v. at_place_grows w l left s _
        (λ b q. at_place_grows v l left s _
        (λ c r. copy_grows b q c r (bytes_in o p ty) (nat_eq b c && nat_eq q r) l left s))))
    does_grows (copy_bytes a d n) l left s =
        given_grows (value o p a s.memory) l left s _
        (λ w. given_grows (value o p d s.memory) l left s _
        (λ v. at_place_grows w l left s _
        (λ b q. at_place_grows v l left s _ (λ c r. copy_grows b q c r n false l left s))))
    does_grows (fill a e n) l left s =
        given_grows (value o p a s.memory) l left s _
        (λ w. given_grows (value o p e s.memory) l left s _
        (λ v. with_int_grows v l left s _ (λ x. at_place_grows w l left s _ (λ b q. change_grows b q n _ l left s))))
    does_grows (input t d) l left s =
        taken_grows s.inputs left s _ (λ v r. put_dest_grows d (int (wrapped t (pos v))) l left r)
    does_grows (output t e) l left s =
        given_grows (value o p e s.memory) l left s _
        (λ v. with_int_grows v l left s _
        (λ x. ((begins_more _ _, begins_refl _, begins_refl _, omega arith), omega arith)))
    does_grows (read_bytes e n) l left s =
        given_grows (value o p e s.memory) l left s _
        (λ w. at_place_grows w l left s _
        (λ b q. unless_grows (range_fault (size_at o p b) q n) l left s _
        (bytewise_rest_grows c (into o p b) n q (into_grows b) left s)))
    does_grows (write_bytes e n) l left s =
        given_grows (value o p e s.memory) l left s _
        (λ w. at_place_grows w l left s _
        (λ b q. unless_grows (range_fault (size_at o p b) q n) l left s _
        (bytewise_rest_grows c (out_of o p b l) n q (out_of_grows b l) left s)))
    does_grows (returns e) l left s = returned_grows result e l left s

  -- ---- calls

  pub bound_grows : (bs : List (ℕ × Scalar)) (vs : List Value) (l n : ℕ) (s : State) (go : State → Outcome)
      → ((r : State) → Grows r n (go r)) → Grows s n (bound o p bs vs l s go)
  bound_grows [] vs l n s go h = h s
  bound_grows (b ∷ bs) [] l n s go h = h s
  bound_grows (b ∷ bs) (v ∷ vs) l n s go h = put_grows b.1 b.0 0 v l n s _ (λ r. bound_grows bs vs l n r go h)

  pub received_grows : (r : Option (ℕ × Scalar)) (d : Option Dest) (l : ℕ) → Growing (received o p r d l)
  received_grows r None l left s = leaves_grows on left s
  received_grows None (Some d) l left s = later_refl s
  received_grows (Some r) (Some d) l left s =
      given_grows (loaded o (model o p) (size_at o p r.0) s.memory r.1 r.0 0) l left s _
      (λ v. put_dest_grows (Some d) v l left s)

  pub called_grows : (s : State) (n : ℕ) (f : Function) (d : Option Dest) (l : ℕ) (x : Outcome) → Grows s n x
      → Grows s n (called o p f d l x)
  called_grows s n f d l (leaves w left r) g =
      grows_trans s (without (frame_of f) r) n left _ g.0 g.1
      (received_grows f.result d l left (without (frame_of f) r))
  called_grows s n f d l (running r) g = g
  called_grows s n f d l (no_input r) g = g
  called_grows s n f d l (undefined_at k x r) g = g

  pub entered_grows : (f : Function) (body : Going) (es : List Expr) (d : Option Dest) (l : ℕ) → Growing body
      → Growing (entered o p f body es d l)
  entered_grows f body es d l g left s =
      given_all_grows (values o p es s.memory) l left s _
      (λ vs. grows_from s (without (frame_of f) s) left _ (later_refl s)
      (bound_grows f.params vs l left (without (frame_of f) s) _
      (λ r. called_grows r left f d l (body left r) (g left r))))

  pub call_grows : (f : Option Function) (body : Going) (es : List Expr) (d : Option Dest) (l : ℕ) → Growing body
      → Growing (call_of o p f body es d l)
  call_grows None body es d l g left s = later_refl s
  call_grows (Some f) body es d l g left s =
      grows_from s (without (first_of (option_to_list f.result)) s) left _ (later_refl s)
      (entered_grows f body es d l g left (without (first_of (option_to_list f.result)) s))

  -- ---- statements

  module _ (c : Counting) where
    module _ (here : ℕ) (bs : ℕ → Going) (known : (k : ℕ) → Growing (bs k)) where
      mutual
        pub exec_grows : (w : What) (l : ℕ) → Growing (exec o p c here bs w l)
        exec_grows (simple w) l left s =
            step_grows c left s _ (λ k. does_grows c (result_in (slice_get p.functions here)) w l k s)
        exec_grows (call k es d) l left s =
            step_grows c left s _ (λ j. call_grows (callee_of p here k) (bs k) es d l (known k) j s)
        exec_grows (if_else e a b) l left s =
            step_grows c left s _
            (λ k. given_grows (value o p e s.memory) l k s _
            (λ v. either_grows (is_true v) (exec_all o p c here bs a) (exec_all o p c here bs b) (all_grow a)
            (all_grow b) k s))
        exec_grows (loop first e a b) l left s =
            step_grows c left s _
            (λ k. first_turn_grows c first (exec_all o p c here bs a) (exec_all o p c here bs b) _ (all_grow a)
            (all_grow b)
            (looped_grows c (suc k) (value o p e) l (exec_all o p c here bs a) (exec_all o p c here bs b) (all_grow a)
            (all_grow b)) k s)
        exec_grows break_loop l left s = step_grows c left s _ (λ k. leaves_grows broken k s)
        exec_grows continue_loop l left s = step_grows c left s _ (λ k. leaves_grows continued k s)
        exec_grows (by_order named a b) l left s =
            step_grows c left s _
            (λ k. arm_grows s k _
            (chosen_grows (is_order o named) (exec_all o p c here bs a) (exec_all o p c here bs b) (all_grow a)
            (all_grow b) k s))
        exec_grows (scope xs a) l left s =
            scope_grows s left xs (exec_all o p c here bs a left (without xs s))
            (grows_from s (without xs s) left _ (later_refl s) (all_grow a left (without xs s)))

        pub all_grow : (ss : Stmts) → Growing (exec_all o p c here bs ss)
        all_grow stop left s = leaves_grows on left s
        all_grow (more l w rest) left s =
            and_then_grows s left (exec o p c here bs w l left s) (exec_all o p c here bs rest) (exec_grows w l left s)
            (all_grow rest)

    pub body_grows : (f : Option Function) (here : ℕ) (bs : ℕ → Going) → ((k : ℕ) → Growing (bs k))
        → Growing (body_of o p c f here bs)
    body_grows None here bs known = leaves_grows on
    body_grows (Some f) here bs known = all_grow here bs known f.body

    pub bodies_grow : (n k : ℕ) → Growing (bodies o p c n k)
    bodies_grow zero k = leaves_grows on
    bodies_grow (suc n) k =
        chosen_grows (nat_eq k n) (body_of o p c (slice_get p.functions n) n (bodies o p c n)) (bodies o p c n k)
        (body_grows (slice_get p.functions n) n (bodies o p c n) (bodies_grow n)) (bodies_grow n k)
