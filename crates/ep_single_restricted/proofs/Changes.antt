-- Ways to go on, and changes of a machine, where its memory becomes undefined outside of all blocks.
use Rattle.std.proofs.Common.{◌≡◌, ℕ, zero, suc, ◌+◌, ◌%◌, ◌<◌, ◌≤◌, ℤ, pos, Bool, true, false, ◌&&◌, not, nat_lt}
use Rattle.std.proofs.Common.{if◌then◌else◌, List, [], ◌∷◌, Option, Some, None, refl, sym, ◌∙◌, ap, arith}
use Rattle.std.proofs.lemmas.Bool.{ltb-false}
use Rattle.ep_int.specs.declared.types.IntType.TheVariants.{U8}
use Rattle.ep_int.specs.declared.types.Order.{Order}
use Rattle.ep_int.specs.declared.types.Scalar.{Scalar}
use Rattle.ep_int.specs.Types.{size_of}
use Rattle.ep_int.specs.Memory.{Byte, undefined, number, fragment, Memory, Value, int, null, pointer, Kind, bounds}
use Rattle.ep_int.specs.Memory.{alignment, overlap, Found, has, faults, stored, filled, copied, overlaps, is_outside}
use Rattle.ep_int.specs.Memory.{is_aligned, range_fault, store_fault, bytes_of_value}
use Rattle.ep_core.specs.Program.{Dest, Program}
use Rattle.ep_core.specs.Exec.{State, returned, Outcome, leaves, given, with_int, at_place, unless, Counting, counted}
use Rattle.ep_core.specs.Exec.{uncounted, step, remembers, without, taken, converted, ByteStep, bytewise}
use Rattle.ep_core.specs.Exec.{bytewise_rest, byte_out, put_out, model, size_at, address, put_at, put_to, put_dest}
use Rattle.ep_core.specs.Exec.{put_result, change, copy_fault, copy_at, out_of, into, on}
use Rattle.ep_single_restricted.specs.Restricted.{restricted, restricted_state, restricted_outcome}
use Rattle.ep_single_restricted.proofs.Bytes.{within, byte_there, replaced_there, copied_there, killed_there}
use Rattle.ep_single_restricted.proofs.Values.{places_there}

module _ (p : Program) where
  abbrev R : Memory → Memory
  R = restricted p

  abbrev S : State → State
  S = restricted_state p

  abbrev O : Outcome → Outcome
  O = restricted_outcome p

  -- what goes on does so from the one machine and from the other
  abbrev pub Goes : (State → Outcome) → Type 0
  Goes go = (s : State) → go (S s) ≡ O (go s)

  -- ---- ways to go on

  pub given_there : (f : Found) (l : ℕ) (s : State) (go to : Value → Outcome) → ((v : Value) → go v ≡ O (to v))
      → given f l (S s) go ≡ O (given f l s to)
  given_there (has v) l s go to h = h v
  given_there (faults k) l s go to h = refl

  pub int_there : (v : Value) (l : ℕ) (s : State) (go to : ℤ → Outcome) → ((x : ℤ) → go x ≡ O (to x))
      → with_int v l (S s) go ≡ O (with_int v l s to)
  int_there (int v) l s go to h = h v
  int_there null l s go to h = refl
  int_there (pointer b q) l s go to h = refl

  pub at_there : (v : Value) (l : ℕ) (s : State) (go to : ℕ → ℕ → Outcome) → ((b q : ℕ) → go b q ≡ O (to b q))
      → at_place v l (S s) go ≡ O (at_place v l s to)
  at_there (int v) l s go to h = refl
  at_there null l s go to h = refl
  at_there (pointer b q) l s go to h = h b q

  pub unless_there : (f : Option Kind) (l : ℕ) (s : State) (c d : Outcome) → (f ≡ None → c ≡ O d)
      → unless f l (S s) c ≡ O (unless f l s d)
  unless_there None l s c d h = h refl
  unless_there (Some k) l s c d h = refl

  pub taken_there : (xs : List ℕ) (s : State) (go : ℕ → State → Outcome) → ((v : ℕ) → Goes (go v))
      → taken xs (S s) go ≡ O (taken xs s go)
  taken_there [] s go h = refl
  taken_there (x ∷ xs) s go h = h x (record s { inputs = xs; used = s.used + 1 })

  step_there : (c : Counting) (n : ℕ) (s : State) (go to : ℕ → Outcome) → ((n : ℕ) → go n ≡ O (to n))
      → step c n (S s) go ≡ O (step c n s to)
  step_there counted zero s go to h = refl
  step_there counted (suc n) s go to h = h n
  step_there uncounted n s go to h = h n

  -- ---- bytes

  abbrev BytesGo : ByteStep → (end : ℕ) → Type 0
  BytesGo one end = (q : ℕ) → q < end → (s : State) (go : State → Outcome) → Goes go
      → one q (S s) go ≡ O (one q s go)

  module _ (c : Counting) (one : ByteStep) (end : ℕ) (each : BytesGo one end) where
    bytes_go : (n q : ℕ) → q + n ≤ end → (left : ℕ) → Goes (bytewise c one n q left)
    bytes_go zero q h left s = refl
    bytes_go (suc n) q h left s =
        step_there c left s (λ i. one q (S s) (bytewise c one n (q + 1) i))
        (λ i. one q s (bytewise c one n (q + 1) i))
        (λ i. each q (omega (arith, h)) s (bytewise c one n (q + 1) i) (bytes_go n (q + 1) (omega (arith, h)) i))

    pub bytewise_there : (n q : ℕ) → q + n ≤ end → (left : ℕ) → Goes (bytewise_rest c one n q left)
    bytewise_there zero q h left s = refl
    bytewise_there (suc n) q h left s =
        each q (omega (arith, h)) s (bytewise c one n (q + 1) left) (bytes_go n (q + 1) (omega (arith, h)) left)

  out_there : (y : Byte) (l : ℕ) (s : State) (go : State → Outcome) → Goes go
      → byte_out y l (S s) go ≡ O (byte_out y l s go)
  out_there undefined l s go h = refl
  out_there (number v) l s go h = h (put_out U8 (pos v) s)
  out_there (fragment b o k) l s go h = refl

  -- ---- faults that aren't there

  store_by : (t u : Bool) → (if t then Some bounds else if u then Some alignment else None) ≡ None → t ≡ false
  store_by true u e = absurd (let q : Some bounds ≡ None = e in cc)
  store_by false u e = refl

  range_by : (t : Bool) → (if t then Some bounds else None) ≡ None → t ≡ false
  range_by true e = absurd (let q : Some bounds ≡ None = e in cc)
  range_by false e = refl

  copy_by : (t u v : Bool)
      → (if t then Some bounds else if u then Some bounds else if v then Some overlap else None) ≡ None
      → (t ≡ false) × (u ≡ false)
  copy_by true u v e = absurd (let q : Some bounds ≡ None = e in cc)
  copy_by false true v e = absurd (let q : Some bounds ≡ None = e in cc)
  copy_by false false v e = (refl, refl)

  module _ (o : Order) where
    pub in_range : (b q n : ℕ) → range_fault (size_at o p b) q n ≡ None → q + n ≤ size_at o p b
    in_range b q n e = within (size_at o p b) q n (range_by (is_outside (size_at o p b) q n) e)

    -- ---- stores

    pub put_there : (w : Scalar) (b q : ℕ) (v : Value) (l : ℕ) (s : State) (go : State → Outcome) → Goes go
        → put_at o p w b q v l (S s) go ≡ O (put_at o p w b q v l s go)
    put_there w b q v l s go h =
        unless_there (store_fault (model o p) (size_at o p b) w q) l s
        (go (remembers (stored o (model o p) (R s.memory) w b q v) s))
        (go (remembers (stored o (model o p) s.memory w b q v) s))
        (λ e. ap (λ z. go (remembers z s))
        (sym (replaced_there o p (model o p) s.memory b q (size_of (model o p) w) (bytes_of_value o w v)
        (bytes_of_value o w v)
        (within (size_at o p b) q (size_of (model o p) w)
        (store_by (is_outside (size_at o p b) q (size_of (model o p) w)) (not (is_aligned (model o p) w q)) e))
        (λ k i. refl)))
        ∙ h (remembers (stored o (model o p) s.memory w b q v) s))

    leaves_there : (n : ℕ) → Goes (leaves on n)
    leaves_there n s = refl

    pub put_to_there : (w : Scalar) (a v : Value) (l : ℕ) (s : State) (go : State → Outcome) → Goes go
        → put_to o p w a v l (S s) go ≡ O (put_to o p w a v l s go)
    put_to_there w a v l s go h =
        at_there a l s (λ b q. put_at o p w b q v l (S s) go) (λ b q. put_at o p w b q v l s go)
        (λ b q. put_there w b q v l s go h)

    pub dest_there : (d : Option Dest) (v : Value) (l n : ℕ) → Goes (put_dest o p d v l n)
    dest_there None v l n s = refl
    dest_there (Some d) v l n s =
        ap (λ f. given f l (S s) (λ w. put_to o p d.what w (converted d.what v) l (S s) (leaves on n)))
        (places_there o p d.place s.memory)
        ∙ given_there (address o p d.place s.memory) l s
        (λ w. put_to o p d.what w (converted d.what v) l (S s) (leaves on n))
        (λ w. put_to o p d.what w (converted d.what v) l s (leaves on n))
        (λ w. put_to_there d.what w (converted d.what v) l s (leaves on n) (leaves_there n))

    pub result_there : (r : Option (ℕ × Scalar)) (v : Value) (l n : ℕ) → Goes (put_result o p r v l n)
    result_there None v l n s = refl
    result_there (Some r) v l n s = put_there r.1 r.0 0 v l s (leaves returned n) (λ s. refl)

    -- ---- other changes

    pub change_there : (b q n : ℕ) (f g : Memory) (l left : ℕ) (s : State)
        → (range_fault (size_at o p b) q n ≡ None → R g ≡ f)
        → change o p b q n f l left (S s) ≡ O (change o p b q n g l left s)
    change_there b q n f g l left s h =
        unless_there (range_fault (size_at o p b) q n) l s (leaves on left (remembers f s))
        (leaves on left (remembers g s)) (λ e. ap (λ z. leaves on left (remembers z s)) (sym (h e)))

    copy_memory : (b q c r n : ℕ) (same : Bool) (m : Memory) → copy_fault o p b q c r n same ≡ None
        → (if same then R m else copied (model o p) (R m) b q c r n)
        ≡ R (if same then m else copied (model o p) m b q c r n)
    copy_memory b q c r n true m e = refl
    copy_memory b q c r n false m e =
        let h = copy_by (nat_lt (size_at o p b) (q + n)) (nat_lt (size_at o p c) (r + n))
        (overlaps b q c r n && not false) e in
        sym (copied_there o p (model o p) m b q c r n (ltb-false (size_at o p b) (q + n) h.0)
        (ltb-false (size_at o p c) (r + n) h.1))

    pub copy_there : (b q c r n : ℕ) (same : Bool) (l left : ℕ) → Goes (copy_at o p b q c r n same l left)
    copy_there b q c r n same l left s =
        unless_there (copy_fault o p b q c r n same) l s
        (leaves on left (remembers (if same then R s.memory else copied (model o p) (R s.memory) b q c r n) s))
        (leaves on left (remembers (if same then s.memory else copied (model o p) s.memory b q c r n) s))
        (λ e. ap (λ z. leaves on left (remembers z s)) (copy_memory b q c r n same s.memory e))

    pub byte_out_there : (b l : ℕ) → BytesGo (out_of o p b l) (size_at o p b)
    byte_out_there b l q i s go h =
        ap (λ y. byte_out y l (S s) go) (byte_there o p s.memory b q i)
        ∙ out_there (s.memory b q) l s go h

    pub byte_in_there : (b : ℕ) → BytesGo (into o p b) (size_at o p b)
    byte_in_there b q i s go h =
        taken_there s.inputs s (λ v r. go (remembers (filled (model o p) r.memory b q 1 (v % 256)) r))
        (λ v r. ap (λ z. go (remembers z r))
        (sym (replaced_there o p (model o p) r.memory b q 1 (λ k. number (v % 256)) (λ k. number (v % 256))
        (omega (arith, i)) (λ k j. refl)))
        ∙ h (remembers (filled (model o p) r.memory b q 1 (v % 256)) r))

    -- ---- blocks that come and go

    pub without_there : (bs : List ℕ) (s : State) → without bs (S s) ≡ S (without bs s)
    without_there bs s = ap (λ z. remembers z s) (sym (killed_there o p bs s.memory))
