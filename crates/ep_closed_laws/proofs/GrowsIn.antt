-- What was put out and tested stays also where loops make at most so many turns; and what statements list and put out.
use Rattle.std.proofs.Common.{◌≡◌, ℕ, zero, suc, ◌+◌, ◌%◌, ℤ, pos, List, [], ◌∷◌, length, refl, ap, ◌∙◌, Option}
use Rattle.std.proofs.lemmas.List.{length_push}
use Rattle.std.proofs.Common.{Some, None, option_to_list, arith, nat_eq, ◌&&◌, slice_get, Bool, true, false}
use Rattle.ep_int.specs.declared.types.IntType.TheVariants.{U8}
use Rattle.ep_int.specs.declared.types.Scalar.{Scalar}
use Rattle.ep_int.specs.declared.types.Order.{Order}
use Rattle.ep_int.specs.Types.{wrapped}
use Rattle.ep_int.specs.Memory.{Byte, undefined, number, fragment, Memory, Value, int, null, pointer, Kind, Found}
use Rattle.ep_int.specs.Memory.{has, faults, loaded, stored, filled, range_fault, store_fault}
use Rattle.ep_core.specs.Program.{Expr, Dest, Simple, nothing, eval, assign, clear, copy_aggregate, copy_bytes, fill}
use Rattle.ep_core.specs.Program.{input, output, read_bytes, write_bytes, returns, What, simple, call, if_else, loop}
use Rattle.ep_core.specs.Program.{break_loop, continue_loop, by_order, scope, Stmts, stop, more, Function, Program}
use Rattle.ep_core.specs.Exec.{State, Way, on, broken, continued, returned, Outcome, leaves, running, no_input}
use Rattle.ep_core.specs.Exec.{undefined_at, Going, given, with_int, at_place, unless, uncounted, remembers, put_out}
use Rattle.ep_core.specs.Exec.{without, taken, converted, bytewise, bytewise_rest, byte_out, is_true, is_order}
use Rattle.ep_core.specs.Exec.{Values, have, stops, given_all, first_of, frame_of, result_in, callee_of, model}
use Rattle.ep_core.specs.Exec.{size_at, bytes_in, value, address, values, put_at, put_to, put_dest, put_result}
use Rattle.ep_core.specs.Exec.{returned_with, change, copy_fault, copy_at, out_of, into, does, bound, received}
use Rattle.ep_core.proofs.Grows.{later_refl, Grows, Growing, grows_from, given_grows, and_then_grows, leaves_grows}
use Rattle.ep_core.proofs.Grows.{either_grows, scope_grows, arm_grows, chosen_grows, does_grows, call_grows}
use Rattle.ep_pass.specs.Laws.{passes}
use Rattle.ep_closed_laws.specs.Bounded.{turns_from, tests_from, visit, exec_in, all_in, body_in, bodies_in}
use Rattle.ep_pass.proofs.Outcomes.{with_next, loop_left}
use Rattle.ep_pass.proofs.Outcomes.{next_grows}

module _ (test : Memory → Found) (l : ℕ) (turn : Going) (g : Growing turn) where
  mutual_turns : (k : ℕ) → Growing (turns_from test l turn k)
  mutual_turns zero n s = later_refl s
  mutual_turns (suc k) n s =
      and_then_grows s n (turn n s) _ (g n s)
      (λ n s. given_grows (test s.memory) l n s _
      (λ v. either_grows (is_true v) (turns_from test l turn k) (leaves broken) (mutual_turns k)
      (leaves_grows broken) n
      s))

  pub turns_grow : (k : ℕ) → Growing (turns_from test l turn k)
  turns_grow k = mutual_turns k

  pub tests_grow : (k : ℕ) → Growing (tests_from test l turn k)
  tests_grow k n s =
      given_grows (test s.memory) l n s _
      (λ v. either_grows (is_true v) (turns_from test l turn k) (leaves broken) (mutual_turns k)
      (leaves_grows broken) n
      s)

  pub visit_grows : (first : Bool) (k : ℕ) → Growing (visit test l turn first k)
  visit_grows true k = tests_grow k
  visit_grows false k = turns_grow k

loop_grows : (s : State) (n : ℕ) (c : Outcome) → Grows s n c → Grows s n (loop_left c)
loop_grows s n (leaves on k r) h = h
loop_grows s n (leaves broken k r) h = h
loop_grows s n (leaves continued k r) h = h
loop_grows s n (leaves returned k r) h = h
loop_grows s n (running r) h = h
loop_grows s n (no_input r) h = h
loop_grows s n (undefined_at l k r) h = h

module _ (o : Order) (p : Program) (u : ℕ) where
  module _ (here : ℕ) (bs : ℕ → Going) (known : (k : ℕ) → Growing (bs k)) where
    mutual
      pub grows_in : (w : What) (l : ℕ) → Growing (exec_in o p u here bs w l)
      grows_in (simple w) l n s = does_grows o p uncounted (result_in (slice_get p.functions here)) w l n s
      grows_in (call k es d) l n s = call_grows o p (callee_of p here k) (bs k) es d l (known k) n s
      grows_in (if_else e a b) l n s =
          given_grows (value o p e s.memory) l n s _
          (λ v. either_grows (is_true v) (all_in o p u here bs a) (all_in o p u here bs b) (all_grow_in a)
          (all_grow_in b) n s)
      grows_in (loop first e a b) l n s =
          loop_grows s n _
          (visit_grows (value o p e) l (with_next (all_in o p u here bs a) (all_in o p u here bs b))
          (next_grows (all_in o p u here bs a) (all_in o p u here bs b) (all_grow_in a) (all_grow_in b)) first u n s)
      grows_in break_loop l n s = leaves_grows broken n s
      grows_in continue_loop l n s = leaves_grows continued n s
      grows_in (by_order named a b) l n s =
          arm_grows s n _
          (chosen_grows (is_order o named) (all_in o p u here bs a) (all_in o p u here bs b) (all_grow_in a)
          (all_grow_in b) n s)
      grows_in (scope xs a) l n s =
          scope_grows s n xs (all_in o p u here bs a n (without xs s))
          (grows_from s (without xs s) n _ (later_refl s) (all_grow_in a n (without xs s)))

      pub all_grow_in : (ss : Stmts) → Growing (all_in o p u here bs ss)
      all_grow_in stop n s = leaves_grows on n s
      all_grow_in (more l w rest) n s =
          and_then_grows s n (exec_in o p u here bs w l n s) (all_in o p u here bs rest) (grows_in w l n s)
          (all_grow_in rest)

  body_grows_in : (f : Option Function) (here : ℕ) (bs : ℕ → Going) → ((k : ℕ) → Growing (bs k))
      → Growing (body_in o p u f here bs)
  body_grows_in None here bs known = leaves_grows on
  body_grows_in (Some f) here bs known = all_grow_in here bs known f.body

  pub bodies_grow_in : (n k : ℕ) → Growing (bodies_in o p u n k)
  bodies_grow_in zero k = leaves_grows on
  bodies_grow_in (suc n) k =
      chosen_grows (nat_eq k n) (body_in o p u (slice_get p.functions n) n (bodies_in o p u n)) (bodies_in o p u n k)
      (body_grows_in (slice_get p.functions n) n (bodies_in o p u n) (bodies_grow_in n)) (bodies_grow_in n k)

-- ---- what is put out by a statement, and listed: nothing

abbrev pub puts_out : Simple → ℕ
puts_out nothing = 0
puts_out (eval e) = 0
puts_out (assign what a e) = 0
puts_out (clear a ty) = 0
puts_out (copy_aggregate a b ty) = 0
puts_out (copy_bytes a b n) = 0
puts_out (fill a e n) = 0
puts_out (input t d) = 0
puts_out (output t e) = 1
puts_out (read_bytes e n) = 0
puts_out (write_bytes e n) = n
puts_out (returns e) = 0

-- so many numbers more were put out, and no joint test was listed
pub record Adds (k : ℕ) (s r : State) : Type 0 where
  pub outputs : length r.outputs ≡ length s.outputs + k
  pub tests : r.joint_tests ≡ s.joint_tests

abbrev pub AddsIfLeft : ℕ → State → Outcome → Type 0
AddsIfLeft k s (leaves w n r) = Adds k s r
AddsIfLeft k s (running r) = Unit {0}
AddsIfLeft k s (no_input r) = Unit {0}
AddsIfLeft k s (undefined_at l j r) = Unit {0}

adds_none : (s r : State) → r.outputs ≡ s.outputs → r.joint_tests ≡ s.joint_tests → Adds 0 s r
adds_none s r e f = record { outputs = let d = ap (λ xs. length xs) e in omega (arith, d); tests = f }

given_adds : (k : ℕ) (s q : State) (v : Found) (l : ℕ) (go : Value → Outcome) → ((v : Value) → AddsIfLeft k q (go v))
    → AddsIfLeft k q (given v l s go)
given_adds k s q (has v) l go h = h v
given_adds k s q (faults j) l go h = tt

place_adds : (k : ℕ) (s q : State) (v : Value) (l : ℕ) (go : ℕ → ℕ → Outcome)
    → ((b r : ℕ) → AddsIfLeft k q (go b r)) → AddsIfLeft k q (at_place v l s go)
place_adds k s q (int v) l go h = tt
place_adds k s q null l go h = tt
place_adds k s q (pointer b r) l go h = h b r

unless_adds : (k : ℕ) (s q : State) (v : Option Kind) (l : ℕ) (c : Outcome) → AddsIfLeft k q c
    → AddsIfLeft k q (unless v l s c)
unless_adds k s q None l c h = h
unless_adds k s q (Some j) l c h = tt

int_adds : (k : ℕ) (s q : State) (v : Value) (l : ℕ) (go : ℤ → Outcome) → ((x : ℤ) → AddsIfLeft k q (go x))
    → AddsIfLeft k q (with_int v l s go)
int_adds k s q (int v) l go h = h v
int_adds k s q null l go h = tt
int_adds k s q (pointer b r) l go h = tt

-- ---- one after another

adds_then : (j k i : ℕ) (s r : State) (c : Outcome) → Adds j s r → i ≡ j + k → AddsIfLeft k r c → AddsIfLeft i s c
adds_then j k i s r (leaves w n q) h e f =
    record { outputs = let a = h.outputs in let b = f.outputs in omega (arith, a, b, e); tests = f.tests ∙ h.tests }
adds_then j k i s r (running q) h e f = tt
adds_then j k i s r (no_input q) h e f = tt
adds_then j k i s r (undefined_at l t q) h e f = tt

module _ (o : Order) (p : Program) where
  put_adds : (what : Scalar) (b q : ℕ) (v : Value) (l : ℕ) (s : State) (go : State → Outcome)
      → ((r : State) → AddsIfLeft 0 r (go r)) → AddsIfLeft 0 s (put_at o p what b q v l s go)
  put_adds what b q v l s go h =
      let r : State = remembers (stored o (model o p) s.memory what b q v) s in
      unless_adds 0 s s (store_fault (model o p) (size_at o p b) what q) l (go r)
      (adds_then 0 0 0 s r (go r) (adds_none s r refl refl) refl (h r))

  stays : (w : Way) (n : ℕ) (s : State) → AddsIfLeft 0 s (leaves w n s)
  stays w n s = adds_none s s refl refl

  put_to_adds : (what : Scalar) (w v : Value) (l : ℕ) (s : State) (go : State → Outcome)
      → ((r : State) → AddsIfLeft 0 r (go r)) → AddsIfLeft 0 s (put_to o p what w v l s go)
  put_to_adds what w v l s go h = place_adds 0 s s w l _ (λ b q. put_adds what b q v l s go h)

  put_dest_adds : (d : Option Dest) (v : Value) (l n : ℕ) (s : State) → AddsIfLeft 0 s (put_dest o p d v l n s)
  put_dest_adds None v l n s = stays on n s
  put_dest_adds (Some d) v l n s =
      given_adds 0 s s (address o p d.place s.memory) l _
      (λ w. put_to_adds d.what w (converted d.what v) l s (leaves on n) (stays on n))

  put_result_adds : (r : Option (ℕ × Scalar)) (v : Value) (l n : ℕ) (s : State)
      → AddsIfLeft 0 s (put_result o p r v l n s)
  put_result_adds None v l n s = tt
  put_result_adds (Some r) v l n s = put_adds r.1 r.0 0 v l s (leaves returned n) (stays returned n)

  returned_adds : (r : Option (ℕ × Scalar)) (e : Option Expr) (l n : ℕ) (s : State)
      → AddsIfLeft 0 s (returned_with o p r e l n s)
  returned_adds r None l n s = stays returned n s
  returned_adds r (Some e) l n s =
      given_adds 0 s s (value o p e s.memory) l _ (λ v. put_result_adds r v l n s)

  change_adds : (b q k : ℕ) (m : Memory) (l n : ℕ) (s : State) → AddsIfLeft 0 s (change o p b q k m l n s)
  change_adds b q k m l n s =
      unless_adds 0 s s (range_fault (size_at o p b) q k) l _ (adds_none s (remembers m s) refl refl)

  copy_adds : (b q c r k : ℕ) (same : Bool) (l n : ℕ) (s : State) → AddsIfLeft 0 s (copy_at o p b q c r k same l n s)
  copy_adds b q c r k same l n s =
      unless_adds 0 s s (copy_fault o p b q c r k same) l _ (adds_none s (remembers _ s) refl refl)

  bytes_out : (b l k here n : ℕ) (s : State) → AddsIfLeft k s (bytewise uncounted (out_of o p b l) k here n s)
  bytes_out b l zero here n s = stays on n s
  bytes_out b l (suc k) here n s = by_byte (s.memory b here) (λ q. bytes_out b l k (here + 1) n q)
    where
      by_byte : (v : Byte) → ((q : State) → AddsIfLeft k q (bytewise uncounted (out_of o p b l) k (here + 1) n q))
          → AddsIfLeft (suc k) s (byte_out v l s (bytewise uncounted (out_of o p b l) k (here + 1) n))
      by_byte undefined h = tt
      by_byte (number v) h =
          let r : State = put_out U8 (pos v) s in
          adds_then 1 k (suc k) s r _
          (record { outputs = length_push s.outputs (record { t = U8; value = pos v }); tests = refl }) (omega arith)
          (h r)
      by_byte (fragment c q i) h = tt

  bytes_rest_out : (b l k here n : ℕ) (s : State)
      → AddsIfLeft k s (bytewise_rest uncounted (out_of o p b l) k here n s)
  bytes_rest_out b l zero here n s = stays on n s
  bytes_rest_out b l (suc k) here n s = bytes_out b l (suc k) here n s

  bytes_in_adds : (b k here n : ℕ) (s : State) → AddsIfLeft 0 s (bytewise uncounted (into o p b) k here n s)
  bytes_in_adds b zero here n s = stays on n s
  bytes_in_adds b (suc k) here n s = by_inputs s.inputs (λ q. bytes_in_adds b k (here + 1) n q)
    where
      by_inputs : (vs : List ℕ)
          → ((q : State) → AddsIfLeft 0 q (bytewise uncounted (into o p b) k (here + 1) n q))
          → AddsIfLeft 0 s
          (taken vs s
          (λ v s. bytewise uncounted (into o p b) k (here + 1) n
          (remembers (filled (model o p) s.memory b here 1 (v % 256)) s)))
      by_inputs [] h = tt
      by_inputs (v ∷ vs) h =
          adds_then 0 0 0 s _ _ (adds_none s (remembers _
          (record s { inputs = vs; used = s.used + 1 })) refl refl) refl
          (h _)

  bytes_rest_in : (b k here n : ℕ) (s : State) → AddsIfLeft 0 s (bytewise_rest uncounted (into o p b) k here n s)
  bytes_rest_in b zero here n s = stays on n s
  bytes_rest_in b (suc k) here n s = bytes_in_adds b (suc k) here n s

  pub does_adds : (result : Option (ℕ × Scalar)) (w : Simple) (l n : ℕ) (s : State)
      → AddsIfLeft (puts_out w) s (does o p uncounted result w l n s)
  does_adds r nothing l n s = stays on n s
  does_adds r (eval e) l n s = given_adds 0 s s (value o p e s.memory) l _ (λ v. stays on n s)
  does_adds r (assign what a e) l n s =
      given_adds 0 s s (address o p a s.memory) l _
      (λ w. given_adds 0 s s (value o p e s.memory) l _
      (λ v. put_to_adds what w v l s (leaves on n) (stays on n)))
  does_adds r (clear a ty) l n s =
      given_adds 0 s s (address o p a s.memory) l _
      (λ w. place_adds 0 s s w l _ (λ b q. change_adds b q (bytes_in o p ty) _ l n s))
  does_adds r (copy_aggregate a d ty) l n s =
      given_adds 0 s s (address o p a s.memory) l _
      (λ w. given_adds 0 s s (address o p d s.memory) l _
      (λ v. place_adds 0 s s w l _
      (λ b q. place_adds 0 s s v l _
      (λ c r. copy_adds b q c r (bytes_in o p ty) (nat_eq b c && nat_eq q r) l n s))))
  does_adds r (copy_bytes a d k) l n s =
      given_adds 0 s s (value o p a s.memory) l _
      (λ w. given_adds 0 s s (value o p d s.memory) l _
      (λ v. place_adds 0 s s w l _ (λ b q. place_adds 0 s s v l _ (λ c r. copy_adds b q c r k false l n s))))
  does_adds r (fill a e k) l n s =
      given_adds 0 s s (value o p a s.memory) l _
      (λ w. given_adds 0 s s (value o p e s.memory) l _
      (λ v. int_adds 0 s s v l _ (λ x. place_adds 0 s s w l _ (λ b q. change_adds b q k _ l n s))))
  does_adds r (input t d) l n s = by_inputs s.inputs
    where
      by_inputs : (vs : List ℕ)
          → AddsIfLeft 0 s (taken vs s (λ v s. put_dest o p d (int (wrapped t (pos v))) l n s))
      by_inputs [] = tt
      by_inputs (v ∷ vs) =
          let q : State = record s { inputs = vs; used = s.used + 1 } in
          adds_then 0 0 0 s q _ (adds_none s q refl refl) refl (put_dest_adds d (int (wrapped t (pos v))) l n q)
  does_adds r (output t e) l n s =
      given_adds 1 s s (value o p e s.memory) l _
      (λ v. int_adds 1 s s v l _
      (λ x. record { outputs = length_push s.outputs (record { t = t; value = x }); tests = refl }))
  does_adds r (read_bytes e k) l n s =
      given_adds 0 s s (value o p e s.memory) l _
      (λ w. place_adds 0 s s w l _
      (λ b q. unless_adds 0 s s (range_fault (size_at o p b) q k) l _ (bytes_rest_in b k q n s)))
  does_adds r (write_bytes e k) l n s =
      given_adds k s s (value o p e s.memory) l _
      (λ w. place_adds k s s w l _
      (λ b q. unless_adds k s s (range_fault (size_at o p b) q k) l _ (bytes_rest_out b l k q n s)))
  does_adds r (returns e) l n s = returned_adds r e l n s

  bound_adds : (bs : List (ℕ × Scalar)) (vs : List Value) (l n : ℕ) (s : State)
      → AddsIfLeft 0 s (bound o p bs vs l s (leaves on n))
  bound_adds [] vs l n s = stays on n s
  bound_adds (b ∷ bs) [] l n s = stays on n s
  bound_adds (b ∷ bs) (v ∷ vs) l n s =
      put_adds b.1 b.0 0 v l s (λ s. bound o p bs vs l s (leaves on n)) (λ r. bound_adds bs vs l n r)

  pub passes_adds : (f : Function) (es : List Expr) (l n : ℕ) (s : State) → AddsIfLeft 0 s (passes o p f es l n s)
  passes_adds f es l n s = by_values (values o p es r.memory)
    where
      r : State
      r = without (first_of (option_to_list f.result)) s

      by_values : (vs : Values)
          → AddsIfLeft 0 s
          (given_all vs l r (λ vs. bound o p f.params vs l (without (frame_of f) r) (leaves on n)))
      by_values (stops k) = tt
      by_values (have vs) =
          let q : State = without (frame_of f) r in
          adds_then 0 0 0 s q _ (adds_none s q refl refl) refl (bound_adds f.params vs l n q)

  pub received_adds : (r : Option (ℕ × Scalar)) (d : Option Dest) (l n : ℕ) (s : State)
      → AddsIfLeft 0 s (received o p r d l n s)
  received_adds r None l n s = stays on n s
  received_adds None (Some d) l n s = tt
  received_adds (Some r) (Some d) l n s =
      given_adds 0 s s (loaded o (model o p) (size_at o p r.0) s.memory r.1 r.0 0) l _
      (λ v. put_dest_adds (Some d) v l n s)
