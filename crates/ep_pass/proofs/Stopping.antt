-- A run by turns is stopped in loops alone: no statement without statements in it is.
use Rattle.std.proofs.Common.{ℕ, zero, suc, ◌+◌, ◌%◌, ℤ, pos, List, [], ◌∷◌, Option, Some, None, nat_eq, ◌&&◌, Bool}
use Rattle.std.proofs.Common.{false}
use Rattle.ep_int.specs.declared.types.Scalar.{Scalar}
use Rattle.ep_int.specs.declared.types.Order.{Order}
use Rattle.ep_int.specs.Types.{wrapped}
use Rattle.ep_int.specs.Memory.{Byte, undefined, number, fragment, Memory, Value, int, null, pointer, Kind, Found}
use Rattle.ep_int.specs.Memory.{has, faults, loaded, stored, filled, range_fault, store_fault}
use Rattle.ep_core.specs.Program.{Expr, Dest, Simple, nothing, eval, assign, clear, copy_aggregate, copy_bytes, fill}
use Rattle.ep_core.specs.Program.{input, output, read_bytes, write_bytes, returns, Program}
use Rattle.ep_core.specs.Exec.{State, Way, on, returned, Outcome, leaves, running, no_input, undefined_at, given}
use Rattle.ep_core.specs.Exec.{with_int, at_place, unless, uncounted, remembers, taken, converted, ByteStep, bytewise}
use Rattle.ep_core.specs.Exec.{bytewise_rest, byte_out, model, size_at, bytes_in, value, address, put_at, put_to}
use Rattle.ep_core.specs.Exec.{put_dest, put_result, returned_with, change, copy_fault, copy_at, out_of, into, does}
use Rattle.ep_core.specs.Exec.{received}

abbrev pub Stops : Outcome → Type 0
Stops (leaves w n s) = Unit {0}
Stops (running s) = ⊥
Stops (no_input s) = Unit {0}
Stops (undefined_at l k s) = Unit {0}

given_stops : (v : Found) (l : ℕ) (s : State) (go : Value → Outcome) → ((v : Value) → Stops (go v))
    → Stops (given v l s go)
given_stops (has v) l s go h = h v
given_stops (faults k) l s go h = tt

int_stops : (v : Value) (l : ℕ) (s : State) (go : ℤ → Outcome) → ((x : ℤ) → Stops (go x)) → Stops (with_int v l s go)
int_stops (int v) l s go h = h v
int_stops null l s go h = tt
int_stops (pointer b q) l s go h = tt

place_stops : (v : Value) (l : ℕ) (s : State) (go : ℕ → ℕ → Outcome) → ((b q : ℕ) → Stops (go b q))
    → Stops (at_place v l s go)
place_stops (int v) l s go h = tt
place_stops null l s go h = tt
place_stops (pointer b q) l s go h = h b q

unless_stops : (k : Option Kind) (l : ℕ) (s : State) (x : Outcome) → Stops x → Stops (unless k l s x)
unless_stops None l s x h = h
unless_stops (Some k) l s x h = tt

taken_stops : (vs : List ℕ) (s : State) (go : ℕ → State → Outcome) → ((v : ℕ) (r : State) → Stops (go v r))
    → Stops (taken vs s go)
taken_stops [] s go h = tt
taken_stops (v ∷ rest) s go h = h v (record s { inputs = rest; used = s.used + 1 })

abbrev ByteStopping : ByteStep → Type 0
ByteStopping one = (here : ℕ) (s : State) (go : State → Outcome) → ((r : State) → Stops (go r)) → Stops (one here s go)

byte_stops : (one : ByteStep) → ByteStopping one → (k here n : ℕ) (s : State)
    → Stops (bytewise uncounted one k here n s)
byte_stops one h zero here n s = tt
byte_stops one h (suc k) here n s = h here s _ (byte_stops one h k (here + 1) n)

rest_stops : (one : ByteStep) → ByteStopping one → (k here n : ℕ) (s : State)
    → Stops (bytewise_rest uncounted one k here n s)
rest_stops one h zero here n s = tt
rest_stops one h (suc k) here n s = h here s _ (byte_stops one h k (here + 1) n)

out_stops : (b : Byte) (l : ℕ) (s : State) (go : State → Outcome) → ((r : State) → Stops (go r))
    → Stops (byte_out b l s go)
out_stops undefined l s go h = tt
out_stops (number v) l s go h = h _
out_stops (fragment b o k) l s go h = tt

module _ (o : Order) (p : Program) where
  put_stops : (what : Scalar) (b q : ℕ) (v : Value) (l : ℕ) (s : State) (go : State → Outcome)
      → ((r : State) → Stops (go r)) → Stops (put_at o p what b q v l s go)
  put_stops what b q v l s go h =
      let r : State = remembers (stored o (model o p) s.memory what b q v) s in
      unless_stops (store_fault (model o p) (size_at o p b) what q) l s (go r) (h r)

  put_to_stops : (what : Scalar) (w v : Value) (way : Way) (l n : ℕ) (s : State)
      → Stops (put_to o p what w v l s (leaves way n))
  put_to_stops what w v way l n s = place_stops w l s _ (λ b q. put_stops what b q v l s (leaves way n) (λ r. tt))

  dest_stops : (d : Option Dest) (v : Value) (l n : ℕ) (s : State) → Stops (put_dest o p d v l n s)
  dest_stops None v l n s = tt
  dest_stops (Some d) v l n s =
      given_stops (address o p d.place s.memory) l s _ (λ w. put_to_stops d.what w (converted d.what v) on l n s)

  put_result_stops : (r : Option (ℕ × Scalar)) (v : Value) (l n : ℕ) (s : State) → Stops (put_result o p r v l n s)
  put_result_stops None v l n s = tt
  put_result_stops (Some r) v l n s = put_stops r.1 r.0 0 v l s (leaves returned n) (λ q. tt)

  returned_stops : (r : Option (ℕ × Scalar)) (e : Option Expr) (l n : ℕ) (s : State)
      → Stops (returned_with o p r e l n s)
  returned_stops r None l n s = tt
  returned_stops r (Some e) l n s = given_stops (value o p e s.memory) l s _ (λ v. put_result_stops r v l n s)

  change_stops : (b q k : ℕ) (m : Memory) (l n : ℕ) (s : State) → Stops (change o p b q k m l n s)
  change_stops b q k m l n s = unless_stops (range_fault (size_at o p b) q k) l s _ tt

  copy_stops : (b q d r k : ℕ) (same : Bool) (l n : ℕ) (s : State) → Stops (copy_at o p b q d r k same l n s)
  copy_stops b q d r k same l n s = unless_stops (copy_fault o p b q d r k same) l s _ tt

  pub received_stops : (r : Option (ℕ × Scalar)) (d : Option Dest) (l n : ℕ) (s : State)
      → Stops (received o p r d l n s)
  received_stops r None l n s = tt
  received_stops None (Some d) l n s = tt
  received_stops (Some r) (Some d) l n s =
      given_stops (loaded o (model o p) (size_at o p r.0) s.memory r.1 r.0 0) l s _
      (λ v. dest_stops (Some d) v l n s)

  pub does_stops : (result : Option (ℕ × Scalar)) (w : Simple) (l n : ℕ) (s : State)
      → Stops (does o p uncounted result w l n s)
  does_stops r nothing l n s = tt
  does_stops r (eval e) l n s = given_stops (value o p e s.memory) l s _ (λ v. tt)
  does_stops r (assign what a e) l n s =
      given_stops (address o p a s.memory) l s _
      (λ w. given_stops (value o p e s.memory) l s _ (λ v. put_to_stops what w v on l n s))
  does_stops r (clear a ty) l n s =
      given_stops (address o p a s.memory) l s _
      (λ w. place_stops w l s _ (λ b q. change_stops b q (bytes_in o p ty) _ l n s))
  does_stops r (copy_aggregate a d ty) l n s =
      given_stops (address o p a s.memory) l s _
      (λ w. given_stops (address o p d s.memory) l s _
      (λ v. place_stops w l s _
      (λ b q. place_stops v l s _
      (λ c r. copy_stops b q c r (bytes_in o p ty) (nat_eq b c && nat_eq q r) l n s))))
  does_stops r (copy_bytes a d k) l n s =
      given_stops (value o p a s.memory) l s _
      (λ w. given_stops (value o p d s.memory) l s _
      (λ v. place_stops w l s _ (λ b q. place_stops v l s _ (λ c r. copy_stops b q c r k false l n s))))
  does_stops r (fill a e k) l n s =
      given_stops (value o p a s.memory) l s _
      (λ w. given_stops (value o p e s.memory) l s _
      (λ v. int_stops v l s _ (λ x. place_stops w l s _ (λ b q. change_stops b q k _ l n s))))
  does_stops r (input t d) l n s = taken_stops s.inputs s _ (λ v q. dest_stops d (int (wrapped t (pos v))) l n q)
  does_stops r (output t e) l n s = given_stops (value o p e s.memory) l s _ (λ v. int_stops v l s _ (λ x. tt))
  does_stops r (read_bytes e k) l n s =
      given_stops (value o p e s.memory) l s _
      (λ w. place_stops w l s _
      (λ b q. unless_stops (range_fault (size_at o p b) q k) l s _
      (rest_stops (into o p b)
      (λ here s go h. taken_stops s.inputs s _
      (λ v r. h (remembers (filled (model o p) r.memory b here 1 (v % 256)) r))) k q n s)))
  does_stops r (write_bytes e k) l n s =
      given_stops (value o p e s.memory) l s _
      (λ w. place_stops w l s _
      (λ b q. unless_stops (range_fault (size_at o p b) q k) l s _
      (rest_stops (out_of o p b l) (λ here s go h. out_stops (s.memory b here) l s go h) k q n s)))
  does_stops r (returns e) l n s = returned_stops r e l n s
