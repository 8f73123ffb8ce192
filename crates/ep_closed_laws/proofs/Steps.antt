-- A run by steps in which no visit takes more than so many turns, and that is left, is the same without steps.
use Rattle.std.proofs.Common.{◌≡◌, ◌⊎◌, inl, inr, ℕ, zero, suc, ◌+◌, ℤ, pos, List, [], ◌∷◌, ◌++◌, refl, sym, subst}
use Rattle.std.proofs.Common.{ap, ◌∙◌, Option, Some, None, option_to_list, Bool, true, false, ◌&&◌, nat_eq, slice_get}
use Rattle.ep_int.specs.declared.types.IntType.TheVariants.{U8}
use Rattle.ep_int.specs.declared.types.Scalar.{Scalar}
use Rattle.ep_int.specs.declared.types.Order.{Order}
use Rattle.ep_int.specs.Memory.{Byte, undefined, number, fragment, Memory, Value, int, null, pointer, Kind, Found}
use Rattle.ep_int.specs.Memory.{has, faults, loaded, stored, range_fault, store_fault}
use Rattle.ep_core.specs.Program.{Expr, Dest, Simple, nothing, eval, assign, clear, copy_aggregate, copy_bytes, fill}
use Rattle.ep_core.specs.Program.{input, output, read_bytes, write_bytes, returns, Function, Program}
use Rattle.ep_core.specs.Exec.{State, Way, on, returned, Outcome, leaves, running, no_input, undefined_at, given}
use Rattle.ep_core.specs.Exec.{with_int, at_place, unless, uncounted, remembers, put_out, without, converted}
use Rattle.ep_core.specs.Exec.{bytewise, bytewise_rest, byte_out, is_true, Values, have, stops, given_all, first_of}
use Rattle.ep_core.specs.Exec.{frame_of, model, size_at, bytes_in, value, address, values, put_at, put_to, put_dest}
use Rattle.ep_core.specs.Exec.{put_result, returned_with, change, cleared, copy_fault, copy_at, out_of, does, bound}
use Rattle.ep_core.specs.Exec.{received}
use Rattle.ep_core.specs.Runs.{start}
use Rattle.ep_core.specs.Program.{simple}
use Rattle.ep_core.specs.Exec.{broken, continued, result_in}
use Rattle.ep_core.specs.WellFormed.{result_type}
use Rattle.ep_kinds.specs.Steady.{is_quiet}
use Rattle.ep_int.specs.Types.{wrapped}
use Rattle.ep_core.specs.Exec.{counted, step, taken, into, Going, called, call_of, turned, and_then, either}
use Rattle.ep_core.specs.Exec.{scope_left, arm_left, chosen, is_order, code_of_test, listed, callee_of}
use Rattle.ep_core.specs.Program.{call, if_else, loop, break_loop, continue_loop, by_order, scope, What, Stmts, stop}
use Rattle.ep_core.specs.Program.{more}
use Rattle.ep_core.specs.WellFormed.{is_tested, are_plain, what_fits, stmts_fit, is_well_formed}
use Rattle.ep_core.specs.Runs.{run, Run, ended, main_function, finished}
use Rattle.ep_core.proofs.Operands.{fits_at}
use Rattle.std.proofs.lemmas.Bool.{and_parts}
use Rattle.ep_closed_laws.specs.Bounded.{turns_from, tests_from, visit, exec_in, all_in, body_in, bodies_in, main_in}
use Rattle.ep_closed_laws.specs.Bounded.{run_in}
use Rattle.ep_pass.proofs.Outcomes.{body_end, with_next, loop_left}
use Rattle.ep_kinds.specs.Steady.{cut_turns, cut_tests, cut_visit, exec_cut, all_cut, body_cut, bodies_cut}
use Rattle.ep_kinds.specs.Steady.{TakesTurns, EndsSteadily}
use Rattle.ep_closed_laws.specs.BoundedLaws.{EndsAlike}
use Rattle.ep_pass.proofs.Outcomes.{IsPlain}
use Rattle.ep_closed_laws.proofs.WaysIn.{plain_in}

-- left by this way, in this state
abbrev IsLeft : Way → State → Outcome → Type 0
IsLeft j q (leaves k n r) = (k ≡ j) × (r ≡ q)
IsLeft j q (running r) = ⊥
IsLeft j q (no_input r) = ⊥
IsLeft j q (undefined_at l k r) = ⊥

-- where the second is left, so is the first
abbrev Same : Outcome → Outcome → Type 0
Same c (leaves j m x) = IsLeft j x c
Same c (running x) = Unit {0}
Same c (no_input x) = Unit {0}
Same c (undefined_at l k x) = Unit {0}

given_same : (v : Found) (l l' : ℕ) (s q : State) (go go' : Value → Outcome) → ((v : Value) → Same (go' v) (go v))
    → Same (given v l' q go') (given v l s go)
given_same (has v) l l' s q go go' h = h v
given_same (faults k) l l' s q go go' h = tt

place_same : (v : Value) (l l' : ℕ) (s q : State) (go go' : ℕ → ℕ → Outcome)
    → ((b r : ℕ) → Same (go' b r) (go b r)) → Same (at_place v l' q go') (at_place v l s go)
place_same (int v) l l' s q go go' h = tt
place_same null l l' s q go go' h = tt
place_same (pointer b r) l l' s q go go' h = h b r

unless_same : (v : Option Kind) (l l' : ℕ) (s q : State) (c c' : Outcome) → Same c' c
    → Same (unless v l' q c') (unless v l s c)
unless_same None l l' s q c c' h = h
unless_same (Some k) l l' s q c c' h = tt

int_same : (v : Value) (l l' : ℕ) (s q : State) (go go' : ℤ → Outcome) → ((x : ℤ) → Same (go' x) (go x))
    → Same (with_int v l' q go') (with_int v l s go)
int_same (int v) l l' s q go go' h = h v
int_same null l l' s q go go' h = tt
int_same (pointer b r) l l' s q go go' h = tt

module _ (o : Order) (p : Program) (l l' : ℕ) where
  put_same : (what : Scalar) (b q : ℕ) (v : Value) (s : State) (go go' : State → Outcome)
      → ((r : State) → Same (go' r) (go r)) → Same (put_at o p what b q v l' s go') (put_at o p what b q v l s go)
  put_same what b q v s go go' h =
      unless_same (store_fault (model o p) (size_at o p b) what q) l l' s s _ _
      (h (remembers (stored o (model o p) s.memory what b q v) s))

  put_to_same : (what : Scalar) (w v : Value) (s : State) (go go' : State → Outcome)
      → ((r : State) → Same (go' r) (go r)) → Same (put_to o p what w v l' s go') (put_to o p what w v l s go)
  put_to_same what w v s go go' h = place_same w l l' s s _ _ (λ b q. put_same what b q v s go go' h)

  put_dest_same : (n n' : ℕ) (d : Option Dest) (v : Value) (s : State)
      → Same (put_dest o p d v l' n' s) (put_dest o p d v l n s)
  put_dest_same n n' None v s = (refl, refl)
  put_dest_same n n' (Some d) v s =
      given_same (address o p d.place s.memory) l l' s s _ _
      (λ w. put_to_same d.what w (converted d.what v) s (leaves on n) (leaves on n') (λ r. (refl, refl)))

  put_result_same : (n n' : ℕ) (r : Option (ℕ × Scalar)) (v : Value) (s : State)
      → Same (put_result o p r v l' n' s) (put_result o p r v l n s)
  put_result_same n n' None v s = tt
  put_result_same n n' (Some r) v s = put_same r.1 r.0 0 v s (leaves returned n) (leaves returned n') (λ r.
      (refl, refl))

  returned_same : (n n' : ℕ) (r : Option (ℕ × Scalar)) (e : Option Expr) (s : State)
      → Same (returned_with o p r e l' n' s) (returned_with o p r e l n s)
  returned_same n n' r None s = (refl, refl)
  returned_same n n' r (Some e) s =
      given_same (value o p e s.memory) l l' s s _ _ (λ v. put_result_same n n' r v s)

  change_same : (n n' : ℕ) (b q k : ℕ) (m : Memory) (s : State)
      → Same (change o p b q k m l' n' s) (change o p b q k m l n s)
  change_same n n' b q k m s = unless_same (range_fault (size_at o p b) q k) l l' s s _ _ (refl, refl)

  copy_same : (n n' : ℕ) (b q c r k : ℕ) (one : Bool) (s : State)
      → Same (copy_at o p b q c r k one l' n' s) (copy_at o p b q c r k one l n s)
  copy_same n n' b q c r k one s = unless_same (copy_fault o p b q c r k one) l l' s s _ _ (refl, refl)

  one_step : (n : ℕ) (s : State) (go : ℕ → Outcome) (c : Outcome) → ((k : ℕ) → Same c (go k))
      → Same c (step counted n s go)
  one_step zero s go c h = tt
  one_step (suc k) s go c h = h k

  byte_same : (v : Byte) (s : State) (go go' : State → Outcome) → ((q : State) → Same (go' q) (go q))
      → Same (byte_out v l' s go') (byte_out v l s go)
  byte_same undefined s go go' h = tt
  byte_same (number v) s go go' h = h (put_out U8 (pos v) s)
  byte_same (fragment c q i) s go go' h = tt

  bytes_same : (b k here n n' : ℕ) (s : State)
      → Same (bytewise uncounted (out_of o p b l') k here n' s) (bytewise counted (out_of o p b l) k here n s)
  bytes_same b zero here n n' s = (refl, refl)
  bytes_same b (suc k) here zero n' s = tt
  bytes_same b (suc k) here (suc n) n' s =
      byte_same (s.memory b here) s (bytewise counted (out_of o p b l) k (here + 1) n)
      (bytewise uncounted (out_of o p b l') k (here + 1) n') (λ q. bytes_same b k (here + 1) n n' q)

  bytes_rest_same : (b k here n n' : ℕ) (s : State)
      → Same (bytewise_rest uncounted (out_of o p b l') k here n' s)
      (bytewise_rest counted (out_of o p b l) k here n s)
  bytes_rest_same b zero here n n' s = (refl, refl)
  bytes_rest_same b (suc k) here n n' s =
      byte_same (s.memory b here) s (bytewise counted (out_of o p b l) k (here + 1) n)
      (bytewise uncounted (out_of o p b l') k (here + 1) n') (λ q. bytes_same b k (here + 1) n n' q)

  taken_same : (vs : List ℕ) (s : State) (go go' : ℕ → State → Outcome)
      → ((v : ℕ) (q : State) → Same (go' v q) (go v q)) → Same (taken vs s go') (taken vs s go)
  taken_same [] s go go' h = tt
  taken_same (v ∷ vs) s go go' h = h v (record s { inputs = vs; used = s.used + 1 })

  bytes_in_same : (b k here n n' : ℕ) (s : State)
      → Same (bytewise uncounted (into o p b) k here n' s) (bytewise counted (into o p b) k here n s)
  bytes_in_same b zero here n n' s = (refl, refl)
  bytes_in_same b (suc k) here zero n' s = tt
  bytes_in_same b (suc k) here (suc n) n' s =
      taken_same s.inputs s _ _ (λ v q. bytes_in_same b k (here + 1) n n' _)

  bytes_rest_in_same : (b k here n n' : ℕ) (s : State)
      → Same (bytewise_rest uncounted (into o p b) k here n' s) (bytewise_rest counted (into o p b) k here n s)
  bytes_rest_in_same b zero here n n' s = (refl, refl)
  bytes_rest_in_same b (suc k) here n n' s =
      taken_same s.inputs s _ _ (λ v q. bytes_in_same b k (here + 1) n n' _)

  does_same : (n n' : ℕ) (r : Option (ℕ × Scalar)) (w : Simple) (s : State)
      → Same (does o p uncounted r w l' n' s) (does o p counted r w l n s)
  does_same n n' r nothing s = (refl, refl)
  does_same n n' r (eval e) s = given_same (value o p e s.memory) l l' s s _ _ (λ v. (refl, refl))
  does_same n n' r (assign what a e) s =
      given_same (address o p a s.memory) l l' s s _ _
      (λ w. given_same (value o p e s.memory) l l' s s _ _
      (λ v. put_to_same what w v s (leaves on n) (leaves on n') (λ r. (refl, refl))))
  does_same n n' r (clear a ty) s =
      given_same (address o p a s.memory) l l' s s _ _
      (λ w. place_same w l l' s s _ _ (λ b q. change_same n n' b q (bytes_in o p ty) (cleared o p ty s.memory b q) s))
  does_same n n' r (copy_aggregate a d ty) s =
      given_same (address o p a s.memory) l l' s s _ _
      (λ w. given_same (address o p d s.memory) l l' s s _ _
      (λ v. place_same w l l' s s _ _
      (λ b q. place_same v l l' s s _ _
      (λ c r. copy_same n n' b q c r (bytes_in o p ty) (nat_eq b c && nat_eq q r) s))))
  does_same n n' r (copy_bytes a d k) s =
      given_same (value o p a s.memory) l l' s s _ _
      (λ w. given_same (value o p d s.memory) l l' s s _ _
      (λ v. place_same w l l' s s _ _
      (λ b q. place_same v l l' s s _ _ (λ c r. copy_same n n' b q c r k false s))))
  does_same n n' r (fill a e k) s =
      given_same (value o p a s.memory) l l' s s _ _
      (λ w. given_same (value o p e s.memory) l l' s s _ _
      (λ v. int_same v l l' s s _ _
      (λ x. place_same w l l' s s _ _ (λ b q. change_same n n' b q k _ s))))
  does_same n n' r (input t d) s =
      taken_same s.inputs s _ _ (λ v q. put_dest_same n n' d (int (wrapped t (pos v))) q)
  does_same n n' r (output t e) s =
      given_same (value o p e s.memory) l l' s s _ _
      (λ v. int_same v l l' s s _ _ (λ x. (refl, refl)))
  does_same n n' r (read_bytes e k) s =
      given_same (value o p e s.memory) l l' s s _ _
      (λ w. place_same w l l' s s _ _
      (λ b q. unless_same (range_fault (size_at o p b) q k) l l' s s _ _ (bytes_rest_in_same b k q n n' s)))
  does_same n n' r (write_bytes e k) s =
      given_same (value o p e s.memory) l l' s s _ _
      (λ w. place_same w l l' s s _ _
      (λ b q. unless_same (range_fault (size_at o p b) q k) l l' s s _ _ (bytes_rest_same b k q n n' s)))
  does_same n n' r (returns e) s = returned_same n n' r e s

  bound_same : (bs : List (ℕ × Scalar)) (vs : List Value) (s : State) (go go' : State → Outcome)
      → ((q : State) → Same (go' q) (go q)) → Same (bound o p bs vs l' s go') (bound o p bs vs l s go)
  bound_same [] vs s go go' h = h s
  bound_same (b ∷ bs) [] s go go' h = h s
  bound_same (b ∷ bs) (v ∷ vs) s go go' h =
      put_same b.1 b.0 0 v s (λ s. bound o p bs vs l s go) (λ s. bound o p bs vs l' s go')
      (λ r. bound_same bs vs r go go' h)

  received_same : (n n' : ℕ) (r : Option (ℕ × Scalar)) (d : Option Dest) (s : State)
      → Same (received o p r d l' n' s) (received o p r d l n s)
  received_same n n' r None s = (refl, refl)
  received_same n n' None (Some d) s = tt
  received_same n n' (Some r) (Some d) s =
      given_same (loaded o (model o p) (size_at o p r.0) s.memory r.1 r.0 0) l l' s s _ _
      (λ v. put_dest_same n n' (Some d) v s)

  called_same : (f : Function) (d : Option Dest) (c e : Outcome) → Same c e
      → Same (called o p f d l' c) (called o p f d l e)
  called_same f d (leaves k n q) (leaves j m x) h =
      subst (λ q. Same (received o p f.result d l' n (without (frame_of f) q))
      (received o p f.result d l m (without (frame_of f) x))) (sym h.1)
      (received_same m n f.result d (without (frame_of f) x))
  called_same f d (running q) (leaves j m x) h = absurd h
  called_same f d (no_input q) (leaves j m x) h = absurd h
  called_same f d (undefined_at i k q) (leaves j m x) h = absurd h
  called_same f d c (running x) h = tt
  called_same f d c (no_input x) h = tt
  called_same f d c (undefined_at i k x) h = tt

  call_same : (f : Option Function) (body body' : Going) (es : List Expr) (d : Option Dest)
      → ((n n' : ℕ) (s : State) → Same (body' n' s) (body n s)) → (n n' : ℕ) (s : State)
      → Same (call_of o p f body' es d l' n' s) (call_of o p f body es d l n s)
  call_same None body body' es d h n n' s = tt
  call_same (Some f) body body' es d h n n' s = by_values (values o p es r.memory)
    where
      r : State
      r = without (first_of (option_to_list f.result)) s

      by_values : (vs : Values)
          → Same
          (given_all vs l' r
          (λ vs. bound o p f.params vs l' (without (frame_of f) r) (λ s. called o p f d l' (body' n' s))))
          (given_all vs l r
          (λ vs. bound o p f.params vs l (without (frame_of f) r) (λ s. called o p f d l (body n s))))
      by_values (stops k) = tt
      by_values (have vs) =
          bound_same f.params vs (without (frame_of f) r) (λ s. called o p f d l (body n s))
          (λ s. called o p f d l' (body' n' s)) (λ q. called_same f d (body' n' q) (body n q) (h n n' q))

-- ---- statements

to_left : (P : Outcome → Type 0) (j : Way) (x : State) (c : Outcome) → IsLeft j x c
    → ((n : ℕ) → P (leaves j n x)) → P c
to_left P j x (leaves k n q) h f =
    subst (λ i. P (leaves i n q)) (sym h.0) (subst (λ r. P (leaves j n r)) (sym h.1) (f n))
to_left P j x (running q) h f = absurd h
to_left P j x (no_input q) h f = absurd h
to_left P j x (undefined_at l k q) h f = absurd h

then_same : (c d : Outcome) (f g : Going) → Same c d → ((n n' : ℕ) (s : State) → Same (f n' s) (g n s))
    → Same (and_then c f) (and_then d g)
then_same c (leaves on m x) f g h i =
    to_left (λ c. Same (and_then c f) (and_then (leaves on m x) g)) on x c h (λ n. i m n x)
then_same c (leaves broken m x) f g h i =
    to_left (λ c. Same (and_then c f) (and_then (leaves broken m x) g)) broken x c h (λ n. (refl, refl))
then_same c (leaves continued m x) f g h i =
    to_left (λ c. Same (and_then c f) (and_then (leaves continued m x) g)) continued x c h (λ n. (refl, refl))
then_same c (leaves returned m x) f g h i =
    to_left (λ c. Same (and_then c f) (and_then (leaves returned m x) g)) returned x c h (λ n. (refl, refl))
then_same c (running x) f g h i = tt
then_same c (no_input x) f g h i = tt
then_same c (undefined_at l k x) f g h i = tt

scope_same : (bs : List ℕ) (c d : Outcome) → Same c d → Same (scope_left bs c) (scope_left bs d)
scope_same bs c (leaves j m x) h =
    to_left (λ c. Same (scope_left bs c) (scope_left bs (leaves j m x))) j x c h (λ n. (refl, refl))
scope_same bs c (running x) h = tt
scope_same bs c (no_input x) h = tt
scope_same bs c (undefined_at l k x) h = tt

arm_same : (js : List ℕ) (c d : Outcome) → Same c d → Same (arm_left js c) (arm_left js d)
arm_same js c (leaves j m x) h =
    to_left (λ c. Same (arm_left js c) (arm_left js (leaves j m x))) j x c h (λ n. (refl, refl))
arm_same js c (running x) h = tt
arm_same js c (no_input x) h = tt
arm_same js c (undefined_at l k x) h = tt

either_same : (t : Bool) (f g f' g' : Going) → ((n n' : ℕ) (s : State) → Same (f' n' s) (f n s))
    → ((n n' : ℕ) (s : State) → Same (g' n' s) (g n s)) → (n n' : ℕ) (s : State)
    → Same (either t f' g' n' s) (either t f g n s)
either_same true f g f' g' h i n n' s = h n n' (listed (code_of_test true) s)
either_same false f g f' g' h i n n' s = i n n' (listed (code_of_test false) s)

chosen_same : (t : Bool) (f g f' g' : Going) → ((n n' : ℕ) (s : State) → Same (f' n' s) (f n s))
    → ((n n' : ℕ) (s : State) → Same (g' n' s) (g n s)) → (n n' : ℕ) (s : State)
    → Same (chosen t f' g' n' s) (chosen t f g n s)
chosen_same true f g f' g' h i n n' s = h n n' s
chosen_same false f g f' g' h i n n' s = i n n' s

-- a step part, and the turns after it
part_same : (c d : Outcome) (f g : Going) → IsPlain c → Same c d
    → ((n n' : ℕ) (s : State) → Same (loop_left (f n' s)) (g n s)) → Same (loop_left (and_then c f)) (and_then d g)
part_same (leaves on n q) (leaves on m x) f g z h i =
    subst (λ q. Same (loop_left (f n q)) (g m x)) (sym h.1) (i m n x)
part_same (leaves on n q) (leaves broken m x) f g z h i = let e = h.0 in absurd cc
part_same (leaves on n q) (leaves continued m x) f g z h i = let e = h.0 in absurd cc
part_same (leaves on n q) (leaves returned m x) f g z h i = let e = h.0 in absurd cc
part_same (leaves broken n q) (leaves j m x) f g z h i = absurd z
part_same (leaves continued n q) (leaves j m x) f g z h i = absurd z
part_same (leaves returned n q) (leaves j m x) f g z h i = absurd z
part_same (running q) (leaves j m x) f g z h i = absurd h
part_same (no_input q) (leaves j m x) f g z h i = absurd h
part_same (undefined_at l k q) (leaves j m x) f g z h i = absurd h
part_same c (running x) f g z h i = tt
part_same c (no_input x) f g z h i = tt
part_same c (undefined_at l k x) f g z h i = tt

turned_same : (c d : Outcome) (next next' f g : Going) → Same c d
    → ((n n' : ℕ) (s : State) → Same (next' n' s) (next n s)) → ((n : ℕ) (s : State) → IsPlain (next' n s))
    → ((n n' : ℕ) (s : State) → Same (loop_left (f n' s)) (g n s))
    → Same (loop_left (and_then (and_then (body_end c) next') f)) (turned d next g)
turned_same c (leaves on m x) next next' f g h i z v =
    to_left (λ c. Same (loop_left (and_then (and_then (body_end c) next') f)) (turned (leaves on m x) next g)) on x c h
    (λ n. part_same (next' n x) (next m x) f g (z n x) (i m n x) v)
turned_same c (leaves broken m x) next next' f g h i z v =
    to_left (λ c. Same (loop_left (and_then (and_then (body_end c) next') f)) (turned
    (leaves broken m x) next g)) broken x c h
    (λ n. (refl, refl))
turned_same c (leaves continued m x) next next' f g h i z v =
    to_left (λ c. Same (loop_left (and_then (and_then (body_end c) next') f)) (turned
    (leaves continued m x) next g)) continued x c h
    (λ n. part_same (next' n x) (next m x) f g (z n x) (i m n x) v)
turned_same c (leaves returned m x) next next' f g h i z v =
    to_left (λ c. Same (loop_left (and_then (and_then (body_end c) next') f)) (turned
    (leaves returned m x) next g)) returned x c h
    (λ n. (refl, refl))
turned_same c (running x) next next' f g h i z v = tt
turned_same c (no_input x) next next' f g h i z v = tt
turned_same c (undefined_at l k x) next next' f g h i z v = tt

module _ (test : Memory → Found) (l : ℕ) (body next body' next' : Going)
    (hb : (n n' : ℕ) (s : State) → Same (body' n' s) (body n s))
    (hn : (n n' : ℕ) (s : State) → Same (next' n' s) (next n s))
    (plain : (n : ℕ) (s : State) → IsPlain (next' n s)) where
  tests_same : (v : Found) (f g : Going) → ((n n' : ℕ) (s : State) → Same (loop_left (f n' s)) (g n s))
      → (n n' : ℕ) (s : State)
      → Same (loop_left (given v l s (λ v. either (is_true v) f (leaves broken) n' s)))
      (given v l s (λ v. either (is_true v) g (leaves on) n s))
  tests_same (faults k) f g h n n' s = tt
  tests_same (has v) f g h n n' s = by_truth (is_true v)
    where
      by_truth : (t : Bool) → Same (loop_left (either t f (leaves broken) n' s)) (either t g (leaves on) n s)
      by_truth true = h n n' (listed (code_of_test true) s)
      by_truth false = (refl, refl)

  turns_same : (k n n' : ℕ) (s : State)
      → Same (loop_left (turns_from test l (with_next body' next') k n' s)) (cut_turns test l body next k n s)
  turns_same zero n n' s = tt
  turns_same (suc k) zero n' s = tt
  turns_same (suc k) (suc n) n' s =
      turned_same (body' n' s) (body n s) next next' (tests_from test l (with_next body' next') k)
      (cut_tests test l body next k) (hb n n' s) hn plain
      (λ n n' s. tests_same (test s.memory) (turns_from test l (with_next body' next') k)
      (cut_turns test l body next k) (turns_same k) n n' s)

  visit_same : (first : Bool) (k n n' : ℕ) (s : State)
      → Same (loop_left (visit test l (with_next body' next') first k n' s)) (cut_visit test l body next first k n s)
  visit_same true k n n' s =
      tests_same (test s.memory) (turns_from test l (with_next body' next') k) (cut_turns test l body next k)
      (turns_same k) n n' s
  visit_same false k n n' s = turns_same k n n' s

module _ (o : Order) (p : Program) (u : ℕ) where
  module _ (here : ℕ) (bs bs' : ℕ → Going) (own : Option ℕ)
      (known : (k n n' : ℕ) (s : State) → Same (bs' k n' s) (bs k n s)) where
    mutual
      what_same : (w : What) (seen : List ℕ) (i : Bool) → what_fits p here own w seen i ≡ true → (l n n' : ℕ)
          (s : State) → Same (exec_in o p u here bs' w l n' s) (exec_cut o p u here bs w l n s)
      what_same (simple w) seen i fits l zero n' s = tt
      what_same (simple w) seen i fits l (suc n) n' s =
          does_same o p l l n n' (result_in (slice_get p.functions here)) w s
      what_same (call k es d) seen i fits l zero n' s = tt
      what_same (call k es d) seen i fits l (suc n) n' s =
          call_same o p l l (callee_of p here k) (bs k) (bs' k) es d (known k) n n' s
      what_same (if_else e a b) seen i fits l zero n' s = tt
      what_same (if_else e a b) seen i fits l (suc n) n' s =
          let q = and_parts (is_tested p.types p.blocks seen e && stmts_fit p here own a seen i)
          (stmts_fit p here own b seen i) fits in
          let r = and_parts (is_tested p.types p.blocks seen e) (stmts_fit p here own a seen i) q.0 in
          given_same (value o p e s.memory) l l s s _ _
          (λ v. either_same (is_true v) (all_cut o p u here bs a) (all_cut o p u here bs b) (all_in o p u here bs' a)
          (all_in o p u here bs' b) (all_same a seen i r.1) (all_same b seen i q.1) n n' s)
      what_same (loop first e a b) seen i fits l zero n' s = tt
      what_same (loop first e a b) seen i fits l (suc n) n' s =
          let q = and_parts (is_tested p.types p.blocks seen e && stmts_fit p here own a seen true)
          (are_plain b && stmts_fit p here own b seen i) fits in
          let r = and_parts (is_tested p.types p.blocks seen e) (stmts_fit p here own a seen true) q.0 in
          let v = and_parts (are_plain b) (stmts_fit p here own b seen i) q.1 in
          visit_same (value o p e) l (all_cut o p u here bs a) (all_cut o p u here bs b) (all_in o p u here bs' a)
          (all_in o p u here bs' b) (all_same a seen true r.1) (all_same b seen i v.1)
          (plain_in o p u here bs' own b seen i v.0 v.1) first u n n' s
      what_same break_loop seen i fits l zero n' s = tt
      what_same break_loop seen i fits l (suc n) n' s = (refl, refl)
      what_same continue_loop seen i fits l zero n' s = tt
      what_same continue_loop seen i fits l (suc n) n' s = (refl, refl)
      what_same (by_order named a b) seen i fits l zero n' s = tt
      what_same (by_order named a b) seen i fits l (suc n) n' s =
          let q = and_parts (stmts_fit p here own a seen i) (stmts_fit p here own b seen i) fits in
          arm_same s.joint_tests _ _
          (chosen_same (is_order o named) (all_cut o p u here bs a) (all_cut o p u here bs b) (all_in o p u here bs' a)
          (all_in o p u here bs' b) (all_same a seen i q.0) (all_same b seen i q.1) n n' s)
      what_same (scope xs a) seen i fits l n n' s =
          scope_same xs _ _ (all_same a (xs ++ seen) i fits n n' (without xs s))

      all_same : (ss : Stmts) (seen : List ℕ) (i : Bool) → stmts_fit p here own ss seen i ≡ true → (n n' : ℕ)
          (s : State) → Same (all_in o p u here bs' ss n' s) (all_cut o p u here bs ss n s)
      all_same stop seen i fits n n' s = (refl, refl)
      all_same (more l w rest) seen i fits n n' s =
          let q = and_parts (what_fits p here own w seen i) (stmts_fit p here own rest seen i) fits in
          then_same (exec_in o p u here bs' w l n' s) (exec_cut o p u here bs w l n s) (all_in o p u here bs' rest)
          (all_cut o p u here bs rest) (what_same w seen i q.0 l n n' s) (all_same rest seen i q.1)

  module _ (formed : is_well_formed p ≡ true) where
    body_same : (f : Option Function) (here : ℕ) (bs bs' : ℕ → Going) → slice_get p.functions here ≡ f
        → ((k n n' : ℕ) (s : State) → Same (bs' k n' s) (bs k n s)) → (n n' : ℕ) (s : State)
        → Same (body_in o p u f here bs' n' s) (body_cut o p u f here bs n s)
    body_same None here bs bs' e known n n' s = (refl, refl)
    body_same (Some f) here bs bs' e known n n' s =
        all_same here bs bs' (result_type p.blocks f.result) known f.body (frame_of f) false
        (fits_at p formed here f e).2 n n' s

    bodies_same : (m k n n' : ℕ) (s : State) → Same (bodies_in o p u m k n' s) (bodies_cut o p u m k n s)
    bodies_same zero k n n' s = (refl, refl)
    bodies_same (suc m) k n n' s =
        chosen_same (nat_eq k m) (body_cut o p u (slice_get p.functions m) m (bodies_cut o p u m))
        (bodies_cut o p u m k) (body_in o p u (slice_get p.functions m) m (bodies_in o p u m)) (bodies_in o p u m k)
        (body_same (slice_get p.functions m) m (bodies_cut o p u m) (bodies_in o p u m) refl (bodies_same m))
        (bodies_same m k) n n' s

    finished_same : (c d : Outcome) → Same c d → (finished o p d).ending ≡ ended → finished o p c ≡ finished o p d
    finished_same c (leaves j m x) h e =
        to_left (λ c. finished o p c ≡ finished o p (leaves j m x)) j x c h (λ n. refl)
    finished_same c (running x) h e = absurd cc
    finished_same c (no_input x) h e = absurd cc
    finished_same c (undefined_at l k x) h e = absurd cc

    pub run_is : (inputs : List ℕ) (n : ℕ) → TakesTurns p o u inputs → (run p o inputs n).ending ≡ ended
        → run_in o p u inputs ≡ run p o inputs n
    run_is inputs n h e =
        finished_same (main_in o p u inputs)
        (body_cut o p u (main_function o p) p.main (bodies_cut o p u p.main) n (start o p inputs))
        (body_same (main_function o p) p.main (bodies_cut o p u p.main) (bodies_in o p u p.main) refl
        (bodies_same p.main) n u (start o p inputs))
        (subst (λ (r : Run). r.ending ≡ ended) (sym (h n)) e) ∙ h n

pub ends_alike : (p : Program) → is_well_formed p ≡ true → (a b : Order) (u : ℕ) (inputs : List ℕ)
    → TakesTurns p a u inputs → TakesTurns p b u inputs → EndsSteadily p a b inputs → EndsAlike p a b u inputs
ends_alike p formed a b u inputs h i z =
    let e = run_is a p u formed inputs z.n h z.left_over in
    let d = run_is b p u formed inputs z.m i z.right_over in
    record {
      left_over = subst (λ (r : Run). r.ending ≡ ended) (sym e) z.left_over;
      right_over = subst (λ (r : Run). r.ending ≡ ended) (sym d) z.right_over;
      outputs = ap (λ (r : Run). r.outputs) e ∙ (z.outputs ∙ sym (ap (λ (r : Run). r.outputs) d));
      tests = by_tests z.tests e d;
    }
  where
    by_tests : {r q v w : Run} → (r.joint_tests ≡ q.joint_tests) ⊎ (is_quiet p ≡ true) → v ≡ r → w ≡ q
        → (v.joint_tests ≡ w.joint_tests) ⊎ (is_quiet p ≡ true)
    by_tests (inl x) e d = inl (ap (λ (r : Run). r.joint_tests) e ∙ (x ∙ sym (ap (λ (r : Run). r.joint_tests) d)))
    by_tests (inr q) e d = inr q
