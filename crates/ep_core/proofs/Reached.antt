-- What a run by turns comes to is reached by enough steps.
use Rattle.std.proofs.Common.{◌≡◌, ℕ, zero, suc, ◌+◌, ◌%◌, ℤ, pos, List, [], ◌∷◌, refl, sym, ap, ◌∙◌, subst, Option}
use Rattle.std.proofs.Common.{Some, None, option_to_list, arith, nat_eq, ◌&&◌, slice_get, Bool, true, false}
use mathlib.Core.Path.{fun_ext}
use Rattle.ep_int.specs.declared.types.IntType.TheVariants.{U8}
use Rattle.ep_int.specs.declared.types.Scalar.{Scalar}
use Rattle.ep_int.specs.declared.types.Order.{Order}
use Rattle.ep_int.specs.Types.{wrapped, representation}
use Rattle.ep_int.specs.Memory.{Byte, undefined, number, fragment, Memory, Value, int, null, pointer, Kind, Found}
use Rattle.ep_int.specs.Memory.{has, faults, loaded, stored, filled, range_fault, store_fault}
use Rattle.ep_core.specs.Program.{Expr, Dest, Simple, nothing, eval, assign, clear, copy_aggregate, copy_bytes, fill}
use Rattle.ep_core.specs.Program.{input, output, read_bytes, write_bytes, returns, What, simple, call, if_else, loop}
use Rattle.ep_core.specs.Program.{break_loop, continue_loop, by_order, scope, Stmts, stop, more, Function, Program}
use Rattle.ep_core.specs.Exec.{State, Way, on, broken, continued, returned, Outcome, leaves, running, no_input}
use Rattle.ep_core.specs.Exec.{undefined_at, Going, given, with_int, at_place, unless, counted, uncounted, step}
use Rattle.ep_core.specs.Exec.{and_then, remembers, put_out, listed, without, taken, converted, ByteStep, bytewise}
use Rattle.ep_core.specs.Exec.{bytewise_rest, byte_out, code_of_test, is_true, either, turned, turn, looped, around}
use Rattle.ep_core.specs.Exec.{first_turn, scope_left, is_order, chosen, arm_left, Values, have, stops, given_all}
use Rattle.ep_core.specs.Exec.{first_of, frame_of, result_in, callee_of, model, size_at, bytes_in, value, address}
use Rattle.ep_core.specs.Exec.{values, put_at, put_to, put_dest, put_result, returned_with, change, cleared}
use Rattle.ep_core.specs.Exec.{copy_fault, copy_at, out_of, into, does, bound, received, called, entered, call_of}
use Rattle.ep_core.specs.Exec.{exec, exec_all, body_of, bodies}
use Rattle.ep_core.proofs.Grows.{Growing, all_grow, leaves_grows}
use Rattle.ep_core.proofs.Around.{around_is, first_is}

-- from so many steps on, f comes to o with the rest of the steps
pub record Enough (f o : ℕ → Outcome) : Type 0 where
  pub cost : ℕ
  pub reaches : (left r : ℕ) → left ≡ cost + r → f left ≡ o r

-- with enough steps f comes to what y says, if y is over
abbrev pub Reached : (ℕ → Outcome) → Outcome → Type 0
Reached f (leaves w k s) = Enough f (λ r. leaves w r s)
Reached f (running s) = Unit {0}
Reached f (no_input s) = Enough f (λ r. no_input s)
Reached f (undefined_at l k s) = Enough f (λ r. undefined_at l k s)

-- counted and uncounted runs of one thing
pub record Reaching (f g : Going) : Type 0 where
  pub short : Growing f
  pub reaches : (n : ℕ) (s : State) → Reached (λ left. f left s) (g n s)

lift : (f g : ℕ → Outcome) → ((o : ℕ → Outcome) → Enough f o → Enough g o) → (y : Outcome) → Reached f y → Reached g y
lift f g h (leaves w k s) e = h (λ r. leaves w r s) e
lift f g h (running s) e = tt
lift f g h (no_input s) e = h (λ r. no_input s) e
lift f g h (undefined_at l k s) e = h (λ r. undefined_at l k s) e

-- a step, and what comes after it
stepped : (s : State) (go : ℕ → Outcome) (o : Outcome) (cost r left : ℕ) → ((j : ℕ) → j ≡ cost + r → go j ≡ o)
    → left ≡ suc cost + r → step counted left s go ≡ o
stepped s go o cost r zero h q = absurd (omega arith)
stepped s go o cost r (suc j) h q = h j (omega arith)

step_reached : (s : State) (go : ℕ → Outcome) (y : Outcome) → Reached go y → Reached (λ left. step counted left s go) y
step_reached s go y e =
    lift go (λ left. step counted left s go)
    (λ o e. record {
      cost = suc e.cost;
      reaches = λ left r q. stepped s go (o r) e.cost r left
          (λ j. e.reaches j r) q;
    }) y e

at_once : (w : Way) (s : State) → Enough (λ left. leaves w left s) (λ r. leaves w r s)
at_once w s = record { cost = 0; reaches = λ left r q. (let e : left ≡ r = omega arith in ap (λ n. leaves w n s) e) }

same : (x : Outcome) → Enough (λ left. x) (λ r. x)
same x = record { cost = 0; reaches = λ left r q. refl }

mapped : (to : Outcome → Outcome) (f o : ℕ → Outcome) → Enough f o → Enough (λ left. to (f left)) (λ r. to (o r))
mapped to f o e = record { cost = e.cost; reaches = λ left r q. ap to (e.reaches left r q) }

-- what is left, and then what comes after it
chained : (to : Outcome → Outcome) (w : Way) (s : State) (f o : ℕ → Outcome) → Enough f (λ r. leaves w r s)
    → Enough (λ left. to (leaves w left s)) o → Enough (λ left. to (f left)) o
chained to w s f o e d = record {
  cost = e.cost + d.cost;
  reaches = λ left r q. (let q' : left ≡ e.cost + (d.cost + r) = omega arith in ap to (e.reaches left (d.cost + r) q')
      ∙ d.reaches (d.cost + r) r refl);
}

-- ---- ways to go on

given_reached : (v : Found) (l : ℕ) (s : State) (f : Value → ℕ → Outcome) (g : Value → Outcome)
    → ((v : Value) → Reached (f v) (g v)) → Reached (λ left. given v l s (λ v. f v left)) (given v l s g)
given_reached (has v) l s f g h = h v
given_reached (faults k) l s f g h = same _

given_all_reached : (vs : Values) (l : ℕ) (s : State) (f : List Value → ℕ → Outcome) (g : List Value → Outcome)
    → ((vs : List Value) → Reached (f vs) (g vs))
    → Reached (λ left. given_all vs l s (λ vs. f vs left)) (given_all vs l s g)
given_all_reached (have vs) l s f g h = h vs
given_all_reached (stops k) l s f g h = same _

with_int_reached : (v : Value) (l : ℕ) (s : State) (f : ℤ → ℕ → Outcome) (g : ℤ → Outcome)
    → ((x : ℤ) → Reached (f x) (g x)) → Reached (λ left. with_int v l s (λ x. f x left)) (with_int v l s g)
with_int_reached (int v) l s f g h = h v
with_int_reached null l s f g h = same _
with_int_reached (pointer b q) l s f g h = same _

at_place_reached : (v : Value) (l : ℕ) (s : State) (f : ℕ → ℕ → ℕ → Outcome) (g : ℕ → ℕ → Outcome)
    → ((b q : ℕ) → Reached (f b q) (g b q)) → Reached (λ left. at_place v l s (λ b q. f b q left)) (at_place v l s g)
at_place_reached (int v) l s f g h = same _
at_place_reached null l s f g h = same _
at_place_reached (pointer b q) l s f g h = h b q

unless_reached : (k : Option Kind) (l : ℕ) (s : State) (f : ℕ → Outcome) (y : Outcome) → Reached f y
    → Reached (λ left. unless k l s (f left)) (unless k l s y)
unless_reached None l s f y h = h
unless_reached (Some k) l s f y h = same _

taken_reached : (vs : List ℕ) (s : State) (f : ℕ → State → ℕ → Outcome) (g : ℕ → State → Outcome)
    → ((v : ℕ) (r : State) → Reached (f v r) (g v r)) → Reached (λ left. taken vs s (λ v r. f v r left)) (taken vs s g)
taken_reached [] s f g h = same _
taken_reached (v ∷ rest) s f g h = h v (record s { inputs = rest; used = s.used + 1 })

abbrev ByteReaching : ByteStep → Type 0
ByteReaching one =
    (here : ℕ) (s : State) (f : State → ℕ → Outcome) (g : State → Outcome) → ((r : State) → Reached (f r) (g r))
    → Reached (λ left. one here s (λ r. f r left)) (one here s g)

bytewise_reached : (one : ByteStep) → ByteReaching one → (count here n : ℕ) (s : State)
    → Reached (λ left. bytewise counted one count here left s) (bytewise uncounted one count here n s)
bytewise_reached one h zero here n s = at_once on s
bytewise_reached one h (suc count) here n s =
    step_reached s (λ left. one here s (bytewise counted one count (here + 1) left))
    (one here s (bytewise uncounted one count (here + 1) n))
    (h here s (λ r left. bytewise counted one count (here + 1) left r) (bytewise uncounted one count (here + 1) n)
    (λ r. bytewise_reached one h count (here + 1) n r))

bytewise_rest_reached : (one : ByteStep) → ByteReaching one → (count here n : ℕ) (s : State)
    → Reached (λ left. bytewise_rest counted one count here left s) (bytewise_rest uncounted one count here n s)
bytewise_rest_reached one h zero here n s = at_once on s
bytewise_rest_reached one h (suc count) here n s =
    h here s (λ r left. bytewise counted one count (here + 1) left r) (bytewise uncounted one count (here + 1) n)
    (λ r. bytewise_reached one h count (here + 1) n r)

byte_out_reached : (b : Byte) (l : ℕ) (s : State) (f : State → ℕ → Outcome) (g : State → Outcome)
    → ((r : State) → Reached (f r) (g r)) → Reached (λ left. byte_out b l s (λ r. f r left)) (byte_out b l s g)
byte_out_reached undefined l s f g h = same _
byte_out_reached (number v) l s f g h = h (put_out U8 (pos v) s)
byte_out_reached (fragment b o k) l s f g h = same _

then_reached : (f : ℕ → Outcome) (y : Outcome) (go go' : Going) → Reached f y
    → ((n : ℕ) (s : State) → Reached (λ left. go left s) (go' n s))
    → Reached (λ left. and_then (f left) go) (and_then y go')
then_reached f (leaves on k s) go go' e h =
    lift (λ left. go left s) (λ left. and_then (f left) go)
    (λ o d. chained (λ x. and_then x go) on s f o e d) (go' k s) (h k s)
then_reached f (leaves broken k s) go go' e h = mapped (λ x. and_then x go) f _ e
then_reached f (leaves continued k s) go go' e h = mapped (λ x. and_then x go) f _ e
then_reached f (leaves returned k s) go go' e h = mapped (λ x. and_then x go) f _ e
then_reached f (running s) go go' e h = tt
then_reached f (no_input s) go go' e h = mapped (λ x. and_then x go) f _ e
then_reached f (undefined_at l k s) go go' e h = mapped (λ x. and_then x go) f _ e

-- ---- tests, loops, scopes and arms

either_reached : (t : Bool) (a b a' b' : Going) → ((n : ℕ) (s : State) → Reached (λ left. a left s) (a' n s))
    → ((n : ℕ) (s : State) → Reached (λ left. b left s) (b' n s)) → (n : ℕ) (s : State)
    → Reached (λ left. either t a b left s) (either t a' b' n s)
either_reached true a b a' b' p q n s = p n (listed (code_of_test true) s)
either_reached false a b a' b' p q n s = q n (listed (code_of_test false) s)

chosen_reached : (t : Bool) (a b a' b' : Going) → ((n : ℕ) (s : State) → Reached (λ left. a left s) (a' n s))
    → ((n : ℕ) (s : State) → Reached (λ left. b left s) (b' n s)) → (n : ℕ) (s : State)
    → Reached (λ left. chosen t a b left s) (chosen t a' b' n s)
chosen_reached true a b a' b' p q = p
chosen_reached false a b a' b' p q = q

turned_reached : (f : ℕ → Outcome) (y : Outcome) (next next' again again' : Going) → Reached f y
    → ((n : ℕ) (s : State) → Reached (λ left. next left s) (next' n s))
    → ((n : ℕ) (s : State) → Reached (λ left. again left s) (again' n s))
    → Reached (λ left. turned (f left) next again) (turned y next' again')
turned_reached f (leaves on k s) next next' again again' e h i =
    lift (λ left. and_then (next left s) again) (λ left. turned (f left) next again)
    (λ o d. chained (λ x. turned x next again) on s f o e d) (and_then (next' k s) again')
    (then_reached (λ left. next left s) (next' k s) again again' (h k s) i)
turned_reached f (leaves broken k s) next next' again again' e h i = mapped (λ x. turned x next again) f _ e
turned_reached f (leaves continued k s) next next' again again' e h i =
    lift (λ left. and_then (next left s) again) (λ left. turned (f left) next again)
    (λ o d. chained (λ x. turned x next again) continued s f o e d) (and_then (next' k s) again')
    (then_reached (λ left. next left s) (next' k s) again again' (h k s) i)
turned_reached f (leaves returned k s) next next' again again' e h i = mapped (λ x. turned x next again) f _ e
turned_reached f (running s) next next' again again' e h i = tt
turned_reached f (no_input s) next next' again again' e h i = mapped (λ x. turned x next again) f _ e
turned_reached f (undefined_at l k s) next next' again again' e h i = mapped (λ x. turned x next again) f _ e

turn_reached : (body body' next next' again again' : Going) → Reaching body body' → Reaching next next'
    → ((n : ℕ) (s : State) → Reached (λ left. again left s) (again' n s)) → (n : ℕ) (s : State)
    → Reached (λ left. turn counted body next again left s) (turn uncounted body' next' again' n s)
turn_reached body body' next next' again again' p q h n s =
    step_reached s (λ left. turned (body left s) next again) (turned (body' n s) next' again')
    (turned_reached (λ left. body left s) (body' n s) next next' again again' (p.reaches n s) q.reaches h)

looped_reached : (t : ℕ) (test : Memory → Found) (l : ℕ) (body body' next next' : Going) → Reaching body body'
    → Reaching next next' → (n : ℕ) (s : State)
    → Reached (λ left. around test l body next left s) (looped uncounted t test l body' next' n s)
looped_reached zero test l body body' next next' p q n s = tt
looped_reached (suc t) test l body body' next next' p q n s =
    subst (λ f. Reached f (looped uncounted (suc t) test l body' next' n s))
    (fun_ext (λ left. sym (around_is test l body next p.short q.short left s)))
    (given_reached (test s.memory) l s
    (λ v left. either (is_true v) (turn counted body next (around test l body next)) (leaves on) left s) _
    (λ v. either_reached (is_true v) (turn counted body next (around test l body next)) (leaves on)
    (turn uncounted body' next' (looped uncounted t test l body' next')) (leaves on)
    (turn_reached body body' next next' (around test l body next) (looped uncounted t test l body' next') p q
    (looped_reached t test l body body' next next' p q)) (λ n s. at_once on s) n s))

first_turn_reached : (first : Bool) (body body' next next' again again' : Going) → Reaching body body'
    → Reaching next next' → ((n : ℕ) (s : State) → Reached (λ left. again left s) (again' n s)) → (n : ℕ) (s : State)
    → Reached (λ left. first_turn counted first body next again left s)
    (first_turn uncounted first body' next' again' n s)
first_turn_reached true body body' next next' again again' p q h n s = h n s
first_turn_reached false body body' next next' again again' p q h n s =
    turn_reached body body' next next' again again' p q h n s

loop_reached : (first : Bool) (test : Memory → Found) (l : ℕ) (body body' next next' : Going) → Reaching body body'
    → Reaching next next' → (n : ℕ) (s : State)
    → Reached (λ left. first_turn counted first body next (looped counted (suc left) test l body next) left s)
    (first_turn uncounted first body' next' (looped uncounted (suc n) test l body' next') n s)
loop_reached first test l body body' next next' p q n s =
    subst (λ f. Reached f (first_turn uncounted first body' next' (looped uncounted (suc n) test l body' next') n s))
    (fun_ext (λ left. sym (first_is test l body next p.short q.short first left s)))
    (first_turn_reached first body body' next next' (around test l body next)
    (looped uncounted (suc n) test l body' next') p q (looped_reached (suc n) test l body body' next next' p q) n s)

scope_reached : (bs : List ℕ) (f : ℕ → Outcome) (y : Outcome) → Reached f y
    → Reached (λ left. scope_left bs (f left)) (scope_left bs y)
scope_reached bs f (leaves w k s) e = mapped (scope_left bs) f _ e
scope_reached bs f (running s) e = tt
scope_reached bs f (no_input s) e = mapped (scope_left bs) f _ e
scope_reached bs f (undefined_at l k s) e = mapped (scope_left bs) f _ e

arm_reached : (joint : List ℕ) (f : ℕ → Outcome) (y : Outcome) → Reached f y
    → Reached (λ left. arm_left joint (f left)) (arm_left joint y)
arm_reached joint f (leaves w k s) e = mapped (arm_left joint) f _ e
arm_reached joint f (running s) e = tt
arm_reached joint f (no_input s) e = mapped (arm_left joint) f _ e
arm_reached joint f (undefined_at l k s) e = mapped (arm_left joint) f _ e

-- ---- stores and statements without statements in them

module _ (o : Order) (p : Program) where
  put_reached : (what : Scalar) (b q : ℕ) (v : Value) (l : ℕ) (s : State) (f : State → ℕ → Outcome) (g : State
      → Outcome)
      → ((r : State) → Reached (f r) (g r))
      → Reached (λ left. put_at o p what b q v l s (λ r. f r left)) (put_at o p what b q v l s g)
  put_reached what b q v l s f g h =
      let r : State = remembers (stored o (model o p) s.memory what b q v) s in
      unless_reached (store_fault (model o p) (size_at o p b) what q) l s (f r) (g r) (h r)

  put_to_reached : (what : Scalar) (w v : Value) (way : Way) (l n : ℕ) (s : State)
      → Reached (λ left. put_to o p what w v l s (leaves way left)) (put_to o p what w v l s (leaves way n))
  put_to_reached what w v way l n s =
      at_place_reached w l s (λ b q left. put_at o p what b q v l s (leaves way left)) _
      (λ b q. put_reached what b q v l s (λ r left. leaves way left r) (leaves way n) (λ r. at_once way r))

  put_dest_reached : (d : Option Dest) (v : Value) (l n : ℕ) (s : State)
      → Reached (λ left. put_dest o p d v l left s) (put_dest o p d v l n s)
  put_dest_reached None v l n s = at_once on s
  put_dest_reached (Some d) v l n s =
      given_reached (address o p d.place s.memory) l s
      (λ w left. put_to o p d.what w (converted d.what v) l s (leaves on left)) _
      (λ w. put_to_reached d.what w (converted d.what v) on l n s)

  put_result_reached : (r : Option (ℕ × Scalar)) (v : Value) (l n : ℕ) (s : State)
      → Reached (λ left. put_result o p r v l left s) (put_result o p r v l n s)
  put_result_reached None v l n s = same _
  put_result_reached (Some r) v l n s =
      put_reached r.1 r.0 0 v l s (λ q left. leaves returned left q) (leaves returned n) (λ q. at_once returned q)

  returned_reached : (r : Option (ℕ × Scalar)) (e : Option Expr) (l n : ℕ) (s : State)
      → Reached (λ left. returned_with o p r e l left s) (returned_with o p r e l n s)
  returned_reached r None l n s = at_once returned s
  returned_reached r (Some e) l n s =
      given_reached (value o p e s.memory) l s (λ v left. put_result o p r v l left s) _
      (λ v. put_result_reached r v l n s)

  change_reached : (b q k : ℕ) (m : Memory) (l n : ℕ) (s : State)
      → Reached (λ left. change o p b q k m l left s) (change o p b q k m l n s)
  change_reached b q k m l n s =
      unless_reached (range_fault (size_at o p b) q k) l s
      (λ left. leaves on left (remembers m s)) _ (at_once on (remembers m s))

  copy_reached : (b q d r k : ℕ) (same : Bool) (l n : ℕ) (s : State)
      → Reached (λ left. copy_at o p b q d r k same l left s) (copy_at o p b q d r k same l n s)
  copy_reached b q d r k same l n s = unless_reached (copy_fault o p b q d r k same) l s _ _ (at_once on _)

  out_of_reached : (b l : ℕ) → ByteReaching (out_of o p b l)
  out_of_reached b l here s f g h = byte_out_reached (s.memory b here) l s f g h

  into_reached : (b : ℕ) → ByteReaching (into o p b)
  into_reached b here s f g h =
      taken_reached s.inputs s (λ v r left. f (remembers (filled (model o p) r.memory b here 1 (v % 256)) r) left) _
      (λ v r. h (remembers (filled (model o p) r.memory b here 1 (v % 256)) r))

  module _ (result : Option (ℕ × Scalar)) where
    does_reached : (w : Simple) (l n : ℕ) (s : State)
        → Reached (λ left. does o p counted result w l left s) (does o p uncounted result w l n s)
    does_reached nothing l n s = at_once on s
    does_reached (eval e) l n s =
        given_reached (value o p e s.memory) l s (λ v left. leaves on left s) _ (λ v. at_once on s)
    does_reached (assign what a e) l n s =
        given_reached (address o p a s.memory) l s
        (λ w left. given (value o p e s.memory) l s (λ v. put_to o p what w v l s (leaves on left))) _
        (λ w. given_reached (value o p e s.memory) l s (λ v left. put_to o p what w v l s (leaves on left)) _
        (λ v. put_to_reached what w v on l n s))
    does_reached (clear a ty) l n s =
        given_reached (address o p a s.memory) l s
        (λ w left. at_place w l s (λ b q. change o p b q (bytes_in o p ty) (cleared o p ty s.memory b q) l left s)) _
        (λ w. at_place_reached w l s
        (λ b q left. change o p b q (bytes_in o p ty) (cleared o p ty s.memory b q) l left s) _
        (λ b q. change_reached b q (bytes_in o p ty) _ l n s))
    does_reached (copy_aggregate a d ty) l n s =
        given_reached (address o p a s.memory) l s
        (λ w left. given (address o p d s.memory) l s
        (λ v. at_place w l s (λ b q. at_place v l s
        (λ c r. copy_at o p b q c r (bytes_in o p ty) (nat_eq b c && nat_eq q r) l left s)))) _
        (λ w. given_reached (address o p d s.memory) l s
        (λ v left. at_place w l s
        (λ b q. at_place v l s (λ c r. copy_at o p b q c r (bytes_in o p ty) (nat_eq b c && nat_eq q r) l left s))) _
        (λ v. at_place_reached w l s
        (λ b q left. at_place v l s
        (λ c r. copy_at o p b q c r (bytes_in o p ty) (nat_eq b c && nat_eq q r) l left s)) _
        (λ b q. at_place_reached v l s
        (λ c r left. copy_at o p b q c r (bytes_in o p ty) (nat_eq b c && nat_eq q r) l left s) _
        (λ c r. copy_reached b q c r (bytes_in o p ty) (nat_eq b c && nat_eq q r) l n s))))
    does_reached (copy_bytes a d k) l n s =
        given_reached (value o p a s.memory) l s
        (λ w left. given (value o p d s.memory) l s
        (λ v. at_place w l s (λ b q. at_place v l s (λ c r. copy_at o p b q c r k false l left s)))) _
        (λ w. given_reached (value o p d s.memory) l s
        (λ v left. at_place w l s (λ b q. at_place v l s (λ c r. copy_at o p b q c r k false l left s))) _
        (λ v. at_place_reached w l s (λ b q left. at_place v l s (λ c r. copy_at o p b q c r k false l left s)) _
        (λ b q. at_place_reached v l s (λ c r left. copy_at o p b q c r k false l left s) _
        (λ c r. copy_reached b q c r k false l n s))))
    does_reached (fill a e k) l n s =
        given_reached (value o p a s.memory) l s
        (λ w left. given (value o p e s.memory) l s
        (λ v. with_int v l s (λ x. at_place w l s
        (λ b q. change o p b q k (filled (model o p) s.memory b q k (representation U8 x)) l left s)))) _
        (λ w. given_reached (value o p e s.memory) l s
        (λ v left. with_int v l s
        (λ x. at_place w l s (λ b q. change o p b q k
        (filled (model o p) s.memory b q k (representation U8 x)) l left s))) _
        (λ v. with_int_reached v l s
        (λ x left. at_place w l s
        (λ b q. change o p b q k (filled (model o p) s.memory b q k (representation U8 x)) l left s)) _
        (λ x. at_place_reached w l s
        (λ b q left. change o p b q k (filled (model o p) s.memory b q k (representation U8 x)) l left s) _
        (λ b q. change_reached b q k _ l n s))))
    does_reached (input t d) l n s =
        taken_reached s.inputs s (λ v r left. put_dest o p d (int (wrapped t (pos v))) l left r) _
        (λ v r. put_dest_reached d (int (wrapped t (pos v))) l n r)
    does_reached (output t e) l n s =
        given_reached (value o p e s.memory) l s (λ v left. with_int v l s (λ x. leaves on left (put_out t x s))) _
        (λ v. with_int_reached v l s (λ x left. leaves on left (put_out t x s)) _ (λ x. at_once on (put_out t x s)))
    does_reached (read_bytes e k) l n s =
        given_reached (value o p e s.memory) l s
        (λ w left. at_place w l s
        (λ b q. unless (range_fault (size_at o p b) q k) l s (bytewise_rest counted (into o p b) k q left s))) _
        (λ w. at_place_reached w l s
        (λ b q left. unless (range_fault (size_at o p b) q k) l s (bytewise_rest counted (into o p b) k q left s)) _
        (λ b q. unless_reached (range_fault (size_at o p b) q k) l s
        (λ left. bytewise_rest counted (into o p b) k q left s) _
        (bytewise_rest_reached (into o p b) (into_reached b) k q n s)))
    does_reached (write_bytes e k) l n s =
        given_reached (value o p e s.memory) l s
        (λ w left. at_place w l s
        (λ b q. unless (range_fault (size_at o p b) q k) l s (bytewise_rest counted (out_of o p b l) k q left s))) _
        (λ w. at_place_reached w l s
        (λ b q left. unless (range_fault (size_at o p b) q k) l s (bytewise_rest counted (out_of o p b l) k q left s)) _
        (λ b q. unless_reached (range_fault (size_at o p b) q k) l s
        (λ left. bytewise_rest counted (out_of o p b l) k q left s) _
        (bytewise_rest_reached (out_of o p b l) (out_of_reached b l) k q n s)))
    does_reached (returns e) l n s = returned_reached result e l n s

  -- ---- calls

  bound_reached : (bs : List (ℕ × Scalar)) (vs : List Value) (l : ℕ) (s : State) (f : State → ℕ → Outcome) (g : State
      → Outcome)
      → ((r : State) → Reached (f r) (g r))
      → Reached (λ left. bound o p bs vs l s (λ r. f r left)) (bound o p bs vs l s g)
  bound_reached [] vs l s f g h = h s
  bound_reached (b ∷ bs) [] l s f g h = h s
  bound_reached (b ∷ bs) (v ∷ vs) l s f g h =
      put_reached b.1 b.0 0 v l s (λ r left. bound o p bs vs l r (λ q. f q left)) _ (λ r. bound_reached bs vs l r f g h)

  received_reached : (r : Option (ℕ × Scalar)) (d : Option Dest) (l n : ℕ) (s : State)
      → Reached (λ left. received o p r d l left s) (received o p r d l n s)
  received_reached r None l n s = at_once on s
  received_reached None (Some d) l n s = same _
  received_reached (Some r) (Some d) l n s =
      given_reached (loaded o (model o p) (size_at o p r.0) s.memory r.1 r.0 0) l s
      (λ v left. put_dest o p (Some d) v l left s) _ (λ v. put_dest_reached (Some d) v l n s)

  called_reached : (fn : Function) (d : Option Dest) (l : ℕ) (f : ℕ → Outcome) (y : Outcome) → Reached f y
      → Reached (λ left. called o p fn d l (f left)) (called o p fn d l y)
  called_reached fn d l f (leaves w k s) e =
      lift (λ left. received o p fn.result d l left (without (frame_of fn) s)) (λ left. called o p fn d l (f left))
      (λ r i. chained (called o p fn d l) w s f r e i) _ (received_reached fn.result d l k (without (frame_of fn) s))
  called_reached fn d l f (running s) e = tt
  called_reached fn d l f (no_input s) e = mapped (called o p fn d l) f _ e
  called_reached fn d l f (undefined_at j k s) e = mapped (called o p fn d l) f _ e

  entered_reached : (fn : Function) (body body' : Going) (es : List Expr) (d : Option Dest) (l : ℕ)
      → Reaching body body' → (n : ℕ) (s : State)
      → Reached (λ left. entered o p fn body es d l left s) (entered o p fn body' es d l n s)
  entered_reached fn body body' es d l h n s =
      given_all_reached (values o p es s.memory) l s
      (λ vs left. bound o p fn.params vs l (without (frame_of fn) s) (λ r. called o p fn d l (body left r))) _
      (λ vs. bound_reached fn.params vs l (without (frame_of fn) s) (λ r left. called o p fn d l (body left r)) _
      (λ r. called_reached fn d l (λ left. body left r) (body' n r) (h.reaches n r)))

  call_reached : (fn : Option Function) (body body' : Going) (es : List Expr) (d : Option Dest) (l : ℕ)
      → Reaching body body' → (n : ℕ) (s : State)
      → Reached (λ left. call_of o p fn body es d l left s) (call_of o p fn body' es d l n s)
  call_reached None body body' es d l h n s = same _
  call_reached (Some fn) body body' es d l h n s =
      entered_reached fn body body' es d l h n (without (first_of (option_to_list fn.result)) s)

  -- ---- statements

  module _ (here : ℕ) (bs bs' : ℕ → Going) (known : (k : ℕ) → Reaching (bs k) (bs' k)) where
    reaching : (ss : Stmts)
        → ((n : ℕ) (s : State)
        → Reached (λ left. exec_all o p counted here bs ss left s) (exec_all o p uncounted here bs' ss n s))
        → Reaching (exec_all o p counted here bs ss) (exec_all o p uncounted here bs' ss)
    reaching ss h = record { short = all_grow o p counted here bs (λ k. (known k).short) ss; reaches = h }

    mutual
      pub exec_reached : (w : What) (l n : ℕ) (s : State)
          → Reached (λ left. exec o p counted here bs w l left s) (exec o p uncounted here bs' w l n s)
      exec_reached (simple w) l n s =
          step_reached s _ (exec o p uncounted here bs' (simple w) l n s)
          (does_reached (result_in (slice_get p.functions here)) w l n s)
      exec_reached (call k es d) l n s =
          step_reached s _ (exec o p uncounted here bs' (call k es d) l n s)
          (call_reached (callee_of p here k) (bs k) (bs' k) es d l (known k) n s)
      exec_reached (if_else e a b) l n s =
          step_reached s _ (exec o p uncounted here bs' (if_else e a b) l n s)
          (given_reached (value o p e s.memory) l s
          (λ v left. either (is_true v) (exec_all o p counted here bs a) (exec_all o p counted here bs b) left s) _
          (λ v. either_reached (is_true v) (exec_all o p counted here bs a) (exec_all o p counted here bs b)
          (exec_all o p uncounted here bs' a) (exec_all o p uncounted here bs' b) (all_reached a) (all_reached b) n s))
      exec_reached (loop first e a b) l n s =
          step_reached s _ (exec o p uncounted here bs' (loop first e a b) l n s)
          (loop_reached first (value o p e) l (exec_all o p counted here bs a) (exec_all o p uncounted here bs' a)
          (exec_all o p counted here bs b) (exec_all o p uncounted here bs' b) (reaching a (all_reached a))
          (reaching b (all_reached b)) n s)
      exec_reached break_loop l n s = step_reached s _ (leaves broken n s) (at_once broken s)
      exec_reached continue_loop l n s = step_reached s _ (leaves continued n s) (at_once continued s)
      exec_reached (by_order named a b) l n s =
          step_reached s _ (exec o p uncounted here bs' (by_order named a b) l n s)
          (arm_reached s.joint_tests
          (λ left. chosen (is_order o named) (exec_all o p counted here bs a) (exec_all o p counted here bs b) left s) _
          (chosen_reached (is_order o named) (exec_all o p counted here bs a) (exec_all o p counted here bs b)
          (exec_all o p uncounted here bs' a) (exec_all o p uncounted here bs' b) (all_reached a) (all_reached b) n s))
      exec_reached (scope xs a) l n s =
          scope_reached xs (λ left. exec_all o p counted here bs a left (without xs s))
          (exec_all o p uncounted here bs' a n (without xs s)) (all_reached a n (without xs s))

      pub all_reached : (ss : Stmts) (n : ℕ) (s : State)
          → Reached (λ left. exec_all o p counted here bs ss left s) (exec_all o p uncounted here bs' ss n s)
      all_reached stop n s = at_once on s
      all_reached (more l w rest) n s =
          then_reached (λ left. exec o p counted here bs w l left s) (exec o p uncounted here bs' w l n s)
          (exec_all o p counted here bs rest) (exec_all o p uncounted here bs' rest) (exec_reached w l n s)
          (all_reached rest)

  leaves_reaching : Reaching (leaves on) (leaves on)
  leaves_reaching = record { short = leaves_grows on; reaches = λ n s. at_once on s }

  pub body_reaching : (f : Option Function) (here : ℕ) (bs bs' : ℕ → Going) → ((k : ℕ) → Reaching (bs k) (bs' k))
      → Reaching (body_of o p counted f here bs) (body_of o p uncounted f here bs')
  body_reaching None here bs bs' known = leaves_reaching
  body_reaching (Some f) here bs bs' known = reaching here bs bs' known f.body (all_reached here bs bs' known f.body)

  chosen_reaching : (t : Bool) (a b a' b' : Going) → Reaching a a' → Reaching b b'
      → Reaching (chosen t a b) (chosen t a' b')
  chosen_reaching true a b a' b' g h = g
  chosen_reaching false a b a' b' g h = h

  pub bodies_reaching : (m k : ℕ) → Reaching (bodies o p counted m k) (bodies o p uncounted m k)
  bodies_reaching zero k = leaves_reaching
  bodies_reaching (suc m) k =
      chosen_reaching (nat_eq k m) _ _ _ _
      (body_reaching (slice_get p.functions m) m (bodies o p counted m) (bodies o p uncounted m) (bodies_reaching m))
      (bodies_reaching m k)
