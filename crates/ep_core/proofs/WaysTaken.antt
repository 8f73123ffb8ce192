-- Statements are left by no other way than their text has.
use Rattle.std.proofs.Common.{◌≡◌, ℕ, zero, suc, ◌+◌, ◌%◌, ℤ, pos, List, [], ◌∷◌, refl, ap, ◌∙◌, subst, Option, Some}
use Rattle.std.proofs.lemmas.Bool.{not-true}
use Rattle.std.proofs.Common.{None, option_to_list, nat_eq, ◌&&◌, slice_get, Bool, true, false}
use Rattle.std.proofs.lemmas.Bool.{and_parts, and_from, or_left, or_right}
use Rattle.ep_int.specs.declared.types.IntType.TheVariants.{U8}
use Rattle.ep_int.specs.declared.types.Scalar.{Scalar}
use Rattle.ep_int.specs.declared.types.Order.{Order}
use Rattle.ep_int.specs.Types.{wrapped}
use Rattle.ep_int.specs.Memory.{Byte, undefined, number, fragment, Memory, Value, int, null, pointer, Kind, Found}
use Rattle.ep_int.specs.Memory.{has, faults, loaded, stored, filled, range_fault, store_fault}
use Rattle.ep_core.specs.Program.{Expr, Dest, Simple, nothing, eval, assign, clear, copy_aggregate, copy_bytes, fill}
use Rattle.ep_core.specs.Program.{input, output, read_bytes, write_bytes, returns, What, simple, call, if_else, loop}
use Rattle.ep_core.specs.Program.{break_loop, continue_loop, by_order, scope, Stmts, stop, more, Function, Program}
use Rattle.ep_core.specs.Exec.{State, Way, on, broken, continued, returned, Outcome, leaves, running, no_input}
use Rattle.ep_core.specs.Exec.{undefined_at, Going, given, with_int, at_place, unless, Counting, counted, uncounted}
use Rattle.ep_core.specs.Exec.{step, and_then, remembers, put_out, listed, without, taken, converted, ByteStep}
use Rattle.ep_core.specs.Exec.{bytewise, bytewise_rest, byte_out, code_of_test, is_true, either, turned, turn, looped}
use Rattle.ep_core.specs.Exec.{first_turn, scope_left, is_order, chosen, arm_left, Values, have, stops, given_all}
use Rattle.ep_core.specs.Exec.{first_of, frame_of, result_in, callee_of, model, size_at, bytes_in, value, address}
use Rattle.ep_core.specs.Exec.{values, put_at, put_to, put_dest, put_result, returned_with, change, copy_fault}
use Rattle.ep_core.specs.Exec.{copy_at, out_of, into, does, bound, received, called, call_of, exec, exec_all}
use Rattle.ep_core.specs.Ways.{Ways, one_way, end_alone, has_way, either_way, then_ways, ways_of_simple, ways_of}
use Rattle.ep_core.specs.Ways.{ways_of_all}
use Rattle.ep_core.specs.WellFormed.{is_return, is_plain, are_plain, what_fits, stmts_fit, is_tested}
use Rattle.ep_core.specs.Laws.{IsAmong, LeavesByItsWays}

-- ---- which ways there are

pub has_left : (a b : Ways) (w : Way) → has_way a w ≡ true → has_way (either_way a b) w ≡ true
has_left a b on h = or_left _ _ h
has_left a b broken h = or_left _ _ h
has_left a b continued h = or_left _ _ h
has_left a b returned h = or_left _ _ h

pub has_right : (a b : Ways) (w : Way) → has_way b w ≡ true → has_way (either_way a b) w ≡ true
has_right a b on h = or_right _ _ h
has_right a b broken h = or_right _ _ h
has_right a b continued h = or_right _ _ h
has_right a b returned h = or_right _ _ h

has_after : (a b : Ways) (w : Way) → a.at_end ≡ true → has_way b w ≡ true → has_way (then_ways a b) w ≡ true
has_after a b on e h = and_from _ _ e h
has_after a b broken e h = or_right _ _ (and_from _ _ e h)
has_after a b continued e h = or_right _ _ (and_from _ _ e h)
has_after a b returned e h = or_right _ _ (and_from _ _ e h)

pub widened : (a b : Ways) → ((w : Way) → has_way a w ≡ true → has_way b w ≡ true) → (x : Outcome) → IsAmong a x
    → IsAmong b x
widened a b h (leaves w left s) i = h w i
widened a b h (running s) i = tt
widened a b h (no_input s) i = tt
widened a b h (undefined_at l k s) i = tt

-- ---- ways to go on

module _ (ws : Ways) where
  step_among : (c : Counting) (left : ℕ) (s : State) (go : ℕ → Outcome) → ((k : ℕ) → IsAmong ws (go k))
      → IsAmong ws (step c left s go)
  step_among counted zero s go h = tt
  step_among counted (suc k) s go h = h k
  step_among uncounted left s go h = h left

  given_among : (v : Found) (l : ℕ) (s : State) (go : Value → Outcome) → ((v : Value) → IsAmong ws (go v))
      → IsAmong ws (given v l s go)
  given_among (has v) l s go h = h v
  given_among (faults k) l s go h = tt

  given_all_among : (vs : Values) (l : ℕ) (s : State) (go : List Value → Outcome)
      → ((vs : List Value) → IsAmong ws (go vs)) → IsAmong ws (given_all vs l s go)
  given_all_among (have vs) l s go h = h vs
  given_all_among (stops k) l s go h = tt

  with_int_among : (v : Value) (l : ℕ) (s : State) (go : ℤ → Outcome) → ((x : ℤ) → IsAmong ws (go x))
      → IsAmong ws (with_int v l s go)
  with_int_among (int v) l s go h = h v
  with_int_among null l s go h = tt
  with_int_among (pointer b q) l s go h = tt

  at_place_among : (v : Value) (l : ℕ) (s : State) (go : ℕ → ℕ → Outcome) → ((b q : ℕ) → IsAmong ws (go b q))
      → IsAmong ws (at_place v l s go)
  at_place_among (int v) l s go h = tt
  at_place_among null l s go h = tt
  at_place_among (pointer b q) l s go h = h b q

  unless_among : (k : Option Kind) (l : ℕ) (s : State) (x : Outcome) → IsAmong ws x → IsAmong ws (unless k l s x)
  unless_among None l s x h = h
  unless_among (Some k) l s x h = tt

  taken_among : (vs : List ℕ) (s : State) (go : ℕ → State → Outcome) → ((v : ℕ) (r : State) → IsAmong ws (go v r))
      → IsAmong ws (taken vs s go)
  taken_among [] s go h = tt
  taken_among (v ∷ rest) s go h = h v (record s { inputs = rest; used = s.used + 1 })

  abbrev ByteAmong : ByteStep → Type 0
  ByteAmong one =
      (here : ℕ) (s : State) (go : State → Outcome) → ((r : State) → IsAmong ws (go r)) → IsAmong ws (one here s go)

  bytewise_among : (c : Counting) (one : ByteStep) (n here left : ℕ) (s : State) → has_way ws on ≡ true → ByteAmong one
      → IsAmong ws (bytewise c one n here left s)
  bytewise_among c one zero here left s e h = e
  bytewise_among c one (suc n) here left s e h =
      step_among c left s _ (λ k. h here s _ (λ r. bytewise_among c one n (here + 1) k r e h))

  bytewise_rest_among : (c : Counting) (one : ByteStep) (n here left : ℕ) (s : State) → has_way ws on ≡ true
      → ByteAmong one → IsAmong ws (bytewise_rest c one n here left s)
  bytewise_rest_among c one zero here left s e h = e
  bytewise_rest_among c one (suc n) here left s e h = h here s _ (λ r. bytewise_among c one n (here + 1) left r e h)

  byte_out_among : (b : Byte) (l : ℕ) (s : State) (go : State → Outcome) → ((r : State) → IsAmong ws (go r))
      → IsAmong ws (byte_out b l s go)
  byte_out_among undefined l s go h = tt
  byte_out_among (number v) l s go h = h (put_out U8 (pos v) s)
  byte_out_among (fragment b o k) l s go h = tt

  either_among : (t : Bool) (a b : Going) (left : ℕ) (s : State) → ((n : ℕ) (r : State) → IsAmong ws (a n r))
      → ((n : ℕ) (r : State) → IsAmong ws (b n r)) → IsAmong ws (either t a b left s)
  either_among true a b left s h i = h left (listed (code_of_test true) s)
  either_among false a b left s h i = i left (listed (code_of_test false) s)

  chosen_among : (t : Bool) (a b : Going) (left : ℕ) (s : State) → IsAmong ws (a left s) → IsAmong ws (b left s)
      → IsAmong ws (chosen t a b left s)
  chosen_among true a b left s h i = h
  chosen_among false a b left s h i = i

  scope_among : (bs : List ℕ) (x : Outcome) → IsAmong ws x → IsAmong ws (scope_left bs x)
  scope_among bs (leaves w left s) h = h
  scope_among bs (running s) h = tt
  scope_among bs (no_input s) h = tt
  scope_among bs (undefined_at l k s) h = tt

  arm_among : (joint : List ℕ) (x : Outcome) → IsAmong ws x → IsAmong ws (arm_left joint x)
  arm_among joint (leaves w left s) h = h
  arm_among joint (running s) h = tt
  arm_among joint (no_input s) h = tt
  arm_among joint (undefined_at l k s) h = tt

pub then_among : (a b : Ways) (x : Outcome) (go : Going) → IsAmong a x → ((left : ℕ) (s : State) → IsAmong b (go left s))
    → IsAmong (then_ways a b) (and_then x go)
then_among a b (leaves on left s) go h i = widened b (then_ways a b) (λ w k. has_after a b w h k) (go left s) (i left s)
then_among a b (leaves broken left s) go h i = or_left _ _ h
then_among a b (leaves continued left s) go h i = or_left _ _ h
then_among a b (leaves returned left s) go h i = or_left _ _ h
then_among a b (running s) go h i = tt
then_among a b (no_input s) go h i = tt
then_among a b (undefined_at l k s) go h i = tt

-- ---- loops (r: whether the body can return)

abbrev loop_ways : Bool → Ways
loop_ways r = one_way true false false r

next_among : (r : Bool) (x : Outcome) (again : Going) → IsAmong end_alone x
    → ((left : ℕ) (s : State) → IsAmong (loop_ways r) (again left s)) → IsAmong (loop_ways r) (and_then x again)
next_among r (leaves on left s) again h i = i left s
next_among r (leaves broken left s) again h i = absurd cc
next_among r (leaves continued left s) again h i = absurd cc
next_among r (leaves returned left s) again h i = absurd cc
next_among r (running s) again h i = tt
next_among r (no_input s) again h i = tt
next_among r (undefined_at l k s) again h i = tt

turned_among : (a : Ways) (x : Outcome) (next again : Going) → IsAmong a x
    → ((left : ℕ) (s : State) → IsAmong end_alone (next left s))
    → ((left : ℕ) (s : State) → IsAmong (loop_ways a.by_return) (again left s))
    → IsAmong (loop_ways a.by_return) (turned x next again)
turned_among a (leaves on left s) next again h i j = next_among a.by_return (next left s) again (i left s) j
turned_among a (leaves broken left s) next again h i j = refl
turned_among a (leaves continued left s) next again h i j = next_among a.by_return (next left s) again (i left s) j
turned_among a (leaves returned left s) next again h i j = h
turned_among a (running s) next again h i j = tt
turned_among a (no_input s) next again h i j = tt
turned_among a (undefined_at l k s) next again h i j = tt

module _ (c : Counting) (a : Ways) (body next : Going)
    (inner : (left : ℕ) (s : State) → IsAmong a (body left s))
    (part : (left : ℕ) (s : State) → IsAmong end_alone (next left s)) where
  turn_among : (again : Going) (left : ℕ) (s : State)
      → ((left : ℕ) (s : State) → IsAmong (loop_ways a.by_return) (again left s))
      → IsAmong (loop_ways a.by_return) (turn c body next again left s)
  turn_among again left s h =
      step_among (loop_ways a.by_return) c left s _ (λ k. turned_among a (body k s) next again (inner k s) part h)

  looped_among : (most : ℕ) (test : Memory → Found) (l left : ℕ) (s : State)
      → IsAmong (loop_ways a.by_return) (looped c most test l body next left s)
  looped_among zero test l left s = tt
  looped_among (suc most) test l left s =
      given_among (loop_ways a.by_return) (test s.memory) l s _
      (λ v. either_among (loop_ways a.by_return) (is_true v) (turn c body next (looped c most test l body next))
      (leaves on) left s (λ k r. turn_among (looped c most test l body next) k r (looped_among most test l))
      (λ k r. refl))

  first_turn_among : (first : Bool) (again : Going) (left : ℕ) (s : State)
      → ((left : ℕ) (s : State) → IsAmong (loop_ways a.by_return) (again left s))
      → IsAmong (loop_ways a.by_return) (first_turn c first body next again left s)
  first_turn_among true again left s h = h left s
  first_turn_among false again left s h = turn_among again left s h

-- ---- statements without loops and jumps

simple_ways : (w : Simple) → is_return w ≡ false → ways_of_simple w ≡ end_alone
simple_ways nothing h = refl
simple_ways (eval e) h = refl
simple_ways (assign what a e) h = refl
simple_ways (clear a ty) h = refl
simple_ways (copy_aggregate a d ty) h = refl
simple_ways (copy_bytes a d n) h = refl
simple_ways (fill a e n) h = refl
simple_ways (input t d) h = refl
simple_ways (output t e) h = refl
simple_ways (read_bytes e n) h = refl
simple_ways (write_bytes e n) h = refl
simple_ways (returns e) h = absurd cc

both_end : (f : Ways → Ways → Ways) (a b : Ways) → f end_alone end_alone ≡ end_alone → a ≡ end_alone → b ≡ end_alone
    → f a b ≡ end_alone
both_end f a b e p q = ap (λ x. f x b) p ∙ ap (f end_alone) q ∙ e

mutual
  pub plain_ways : (w : What) → is_plain w ≡ true → ways_of w ≡ end_alone
  plain_ways (simple w) h = simple_ways w (not-true (is_return w) h)
  plain_ways (call k es d) h = refl
  plain_ways (if_else e a b) h =
      let both = and_parts (are_plain a) (are_plain b) h in
      both_end either_way (ways_of_all a) (ways_of_all b) refl (all_plain_ways a both.0) (all_plain_ways b both.1)
  plain_ways (loop first e a b) h = absurd cc
  plain_ways break_loop h = absurd cc
  plain_ways continue_loop h = absurd cc
  plain_ways (by_order named a b) h =
      let both = and_parts (are_plain a) (are_plain b) h in
      both_end either_way (ways_of_all a) (ways_of_all b) refl (all_plain_ways a both.0) (all_plain_ways b both.1)
  plain_ways (scope bs a) h = all_plain_ways a h

  pub all_plain_ways : (ss : Stmts) → are_plain ss ≡ true → ways_of_all ss ≡ end_alone
  all_plain_ways stop h = refl
  all_plain_ways (more l w rest) h =
      let both = and_parts (is_plain w) (are_plain rest) h in
      both_end then_ways (ways_of w) (ways_of_all rest) refl (plain_ways w both.0) (all_plain_ways rest both.1)

-- ---- statements

module _ (o : Order) (p : Program) where
  put_among : (ws : Ways) (what : Scalar) (b q : ℕ) (v : Value) (l : ℕ) (s : State) (go : State → Outcome)
      → ((r : State) → IsAmong ws (go r)) → IsAmong ws (put_at o p what b q v l s go)
  put_among ws what b q v l s go h =
      unless_among ws (store_fault (model o p) (size_at o p b) what q) l s _
      (h (remembers (stored o (model o p) s.memory what b q v) s))

  put_to_among : (ws : Ways) (what : Scalar) (u v : Value) (w : Way) (l left : ℕ) (s : State) → has_way ws w ≡ true
      → IsAmong ws (put_to o p what u v l s (leaves w left))
  put_to_among ws what u v w l left s h =
      at_place_among ws u l s _ (λ b q. put_among ws what b q v l s (leaves w left) (λ r. h))

  put_dest_among : (d : Option Dest) (v : Value) (l left : ℕ) (s : State)
      → IsAmong end_alone (put_dest o p d v l left s)
  put_dest_among None v l left s = refl
  put_dest_among (Some d) v l left s =
      given_among end_alone (address o p d.place s.memory) l s _
      (λ w. put_to_among end_alone d.what w (converted d.what v) on l left s refl)

  put_result_among : (r : Option (ℕ × Scalar)) (v : Value) (l left : ℕ) (s : State)
      → IsAmong (one_way false false false true) (put_result o p r v l left s)
  put_result_among None v l left s = tt
  put_result_among (Some r) v l left s =
      put_among (one_way false false false true) r.1 r.0 0 v l s (leaves returned left) (λ q. refl)

  returned_among : (r : Option (ℕ × Scalar)) (e : Option Expr) (l left : ℕ) (s : State)
      → IsAmong (one_way false false false true) (returned_with o p r e l left s)
  returned_among r None l left s = refl
  returned_among r (Some e) l left s =
      given_among (one_way false false false true) (value o p e s.memory) l s _ (λ v. put_result_among r v l left s)

  change_among : (b q n : ℕ) (m : Memory) (l left : ℕ) (s : State) → IsAmong end_alone (change o p b q n m l left s)
  change_among b q n m l left s = unless_among end_alone (range_fault (size_at o p b) q n) l s _ refl

  copy_among : (b q c r n : ℕ) (same : Bool) (l left : ℕ) (s : State)
      → IsAmong end_alone (copy_at o p b q c r n same l left s)
  copy_among b q c r n same l left s = unless_among end_alone (copy_fault o p b q c r n same) l s _ refl

  out_of_among : (b l : ℕ) → ByteAmong end_alone (out_of o p b l)
  out_of_among b l here s go h = byte_out_among end_alone (s.memory b here) l s go h

  into_among : (b : ℕ) → ByteAmong end_alone (into o p b)
  into_among b here s go h =
      taken_among end_alone s.inputs s _ (λ v r. h (remembers (filled (model o p) r.memory b here 1 (v % 256)) r))

  module _ (c : Counting) (result : Option (ℕ × Scalar)) where
    does_among : (w : Simple) (l left : ℕ) (s : State) → IsAmong (ways_of_simple w) (does o p c result w l left s)
    does_among nothing l left s = refl
    does_among (eval e) l left s = given_among end_alone (value o p e s.memory) l s _ (λ v. refl)
    does_among (assign what a e) l left s =
        given_among end_alone (address o p a s.memory) l s _
        (λ w. given_among end_alone (value o p e s.memory) l s _
        (λ v. put_to_among end_alone what w v on l left s refl))
    does_among (clear a ty) l left s =
        given_among end_alone (address o p a s.memory) l s _
        (λ w. at_place_among end_alone w l s _ (λ b q. change_among b q (bytes_in o p ty) _ l left s))
    does_among (copy_aggregate a d ty) l left s =
        given_among end_alone (address o p a s.memory) l s _
        (λ w. given_among end_alone (address o p d s.memory) l s _
        (λ v. at_place_among end_alone w l s _
        (λ b q. at_place_among end_alone v l s _
        (λ k r. copy_among b q k r (bytes_in o p ty) (nat_eq b k && nat_eq q r) l left s))))
    does_among (copy_bytes a d n) l left s =
        given_among end_alone (value o p a s.memory) l s _
        (λ w. given_among end_alone (value o p d s.memory) l s _
        (λ v. at_place_among end_alone w l s _
        (λ b q. at_place_among end_alone v l s _ (λ k r. copy_among b q k r n false l left s))))
    does_among (fill a e n) l left s =
        given_among end_alone (value o p a s.memory) l s _
        (λ w. given_among end_alone (value o p e s.memory) l s _
        (λ v. with_int_among end_alone v l s _
        (λ x. at_place_among end_alone w l s _ (λ b q. change_among b q n _ l left s))))
    does_among (input t d) l left s =
        taken_among end_alone s.inputs s _ (λ v r. put_dest_among d (int (wrapped t (pos v))) l left r)
    does_among (output t e) l left s =
        given_among end_alone (value o p e s.memory) l s _ (λ v. with_int_among end_alone v l s _ (λ x. refl))
    does_among (read_bytes e n) l left s =
        given_among end_alone (value o p e s.memory) l s _
        (λ w. at_place_among end_alone w l s _
        (λ b q. unless_among end_alone (range_fault (size_at o p b) q n) l s _
        (bytewise_rest_among end_alone c (into o p b) n q left s refl (into_among b))))
    does_among (write_bytes e n) l left s =
        given_among end_alone (value o p e s.memory) l s _
        (λ w. at_place_among end_alone w l s _
        (λ b q. unless_among end_alone (range_fault (size_at o p b) q n) l s _
        (bytewise_rest_among end_alone c (out_of o p b l) n q left s refl (out_of_among b l))))
    does_among (returns e) l left s = returned_among result e l left s

  bound_among : (bs : List (ℕ × Scalar)) (vs : List Value) (l : ℕ) (s : State) (go : State → Outcome)
      → ((r : State) → IsAmong end_alone (go r)) → IsAmong end_alone (bound o p bs vs l s go)
  bound_among [] vs l s go h = h s
  bound_among (b ∷ bs) [] l s go h = h s
  bound_among (b ∷ bs) (v ∷ vs) l s go h = put_among end_alone b.1 b.0 0 v l s _ (λ r. bound_among bs vs l r go h)

  received_among : (r : Option (ℕ × Scalar)) (d : Option Dest) (l left : ℕ) (s : State)
      → IsAmong end_alone (received o p r d l left s)
  received_among r None l left s = refl
  received_among None (Some d) l left s = tt
  received_among (Some r) (Some d) l left s =
      given_among end_alone (loaded o (model o p) (size_at o p r.0) s.memory r.1 r.0 0) l s _
      (λ v. put_dest_among (Some d) v l left s)

  called_among : (f : Function) (d : Option Dest) (l : ℕ) (x : Outcome) → IsAmong end_alone (called o p f d l x)
  called_among f d l (leaves w left s) = received_among f.result d l left (without (frame_of f) s)
  called_among f d l (running s) = tt
  called_among f d l (no_input s) = tt
  called_among f d l (undefined_at j k s) = tt

  call_among : (f : Option Function) (body : Going) (es : List Expr) (d : Option Dest) (l left : ℕ) (s : State)
      → IsAmong end_alone (call_of o p f body es d l left s)
  call_among None body es d l left s = tt
  call_among (Some f) body es d l left s =
      let r : State = without (first_of (option_to_list f.result)) s in
      given_all_among end_alone (values o p es r.memory) l r _
      (λ vs. bound_among f.params vs l (without (frame_of f) r) _ (λ q. called_among f d l (body left q)))

  module _ (c : Counting) (here : ℕ) (bs : ℕ → Going) (result : Option ℕ) where
    mutual
      pub exec_among : (w : What) (l : ℕ) (seen : List ℕ) (i : Bool) → what_fits p here result w seen i ≡ true
          → (left : ℕ) (s : State) → IsAmong (ways_of w) (exec o p c here bs w l left s)
      exec_among (simple w) l seen i h left s =
          step_among (ways_of_simple w) c left s _ (λ k. does_among c (result_in (slice_get p.functions here)) w l k s)
      exec_among (call k es d) l seen i h left s =
          step_among end_alone c left s _ (λ j. call_among (callee_of p here k) (bs k) es d l j s)
      exec_among (if_else e a b) l seen i h left s =
          let tested = and_parts (is_tested p.types p.blocks seen e && stmts_fit p here result a seen i)
          (stmts_fit p here result b seen i) h in
          let first = and_parts (is_tested p.types p.blocks seen e) (stmts_fit p here result a seen i) tested.0 in
          let ws = either_way (ways_of_all a) (ways_of_all b) in
          step_among ws c left s _
          (λ k. given_among ws (value o p e s.memory) l s _
          (λ v. either_among ws (is_true v) (exec_all o p c here bs a) (exec_all o p c here bs b) k s
          (λ n r. widened (ways_of_all a) ws (has_left (ways_of_all a) (ways_of_all b)) (exec_all o p c here bs a n r)
          (all_among a seen i first.1 n r))
          (λ n r. widened (ways_of_all b) ws (has_right (ways_of_all a) (ways_of_all b)) (exec_all o p c here bs b n r)
          (all_among b seen i tested.1 n r))))
      exec_among (loop first e a b) l seen i h left s =
          let parts = and_parts (is_tested p.types p.blocks seen e && stmts_fit p here result a seen true)
          (are_plain b && stmts_fit p here result b seen i) h in
          let body = and_parts (is_tested p.types p.blocks seen e) (stmts_fit p here result a seen true) parts.0 in
          let next = and_parts (are_plain b) (stmts_fit p here result b seen i) parts.1 in
          let inner : (n : ℕ) (r : State)
          → IsAmong (ways_of_all a) (exec_all o p c here bs a n r) = λ n r. all_among a seen true body.1 n r in
          let part : (n : ℕ) (r : State)
          → IsAmong end_alone (exec_all o p c here bs b n r) = λ n r. subst
          (λ ws. IsAmong ws (exec_all o p c here bs b n r)) (all_plain_ways b next.0) (all_among b seen i next.1 n r) in
          step_among (loop_ways (ways_of_all a).by_return) c left s _
          (λ k. first_turn_among c (ways_of_all a) (exec_all o p c here bs a)
          (exec_all o p c here bs b) inner part first _ k s
          (looped_among c (ways_of_all a) (exec_all o p c here bs a) (exec_all o p c here bs b) inner part (suc k)
          (value o p e) l))
      exec_among break_loop l seen i h left s = step_among (one_way false true false false) c left s _ (λ k. refl)
      exec_among continue_loop l seen i h left s = step_among (one_way false false true false) c left s _ (λ k. refl)
      exec_among (by_order named a b) l seen i h left s =
          let both = and_parts (stmts_fit p here result a seen i) (stmts_fit p here result b seen i) h in
          let ws = either_way (ways_of_all a) (ways_of_all b) in
          step_among ws c left s _
          (λ k. arm_among ws s.joint_tests _
          (chosen_among ws (is_order o named) (exec_all o p c here bs a) (exec_all o p c here bs b) k s
          (widened (ways_of_all a) ws (has_left (ways_of_all a) (ways_of_all b)) (exec_all o p c here bs a k s)
          (all_among a seen i both.0 k s))
          (widened (ways_of_all b) ws (has_right (ways_of_all a) (ways_of_all b)) (exec_all o p c here bs b k s)
          (all_among b seen i both.1 k s))))
      exec_among (scope own a) l seen i h left s =
          scope_among (ways_of_all a) own (exec_all o p c here bs a left (without own s))
          (all_among a _ i h left (without own s))

      pub all_among : (ss : Stmts) (seen : List ℕ) (i : Bool) → stmts_fit p here result ss seen i ≡ true
          → (left : ℕ) (s : State) → IsAmong (ways_of_all ss) (exec_all o p c here bs ss left s)
      all_among stop seen i h left s = refl
      all_among (more l w rest) seen i h left s =
          let both = and_parts (what_fits p here result w seen i) (stmts_fit p here result rest seen i) h in
          then_among (ways_of w) (ways_of_all rest) (exec o p c here bs w l left s) (exec_all o p c here bs rest)
          (exec_among w l seen i both.0 left s) (all_among rest seen i both.1)

pub leaves_by_its_ways : LeavesByItsWays
leaves_by_its_ways p o c here bs result ss seen i h n s = all_among o p c here bs result ss seen i h n s
