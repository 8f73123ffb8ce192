-- A plain representation of states, to try definitions with: pairs of machines as they are, from given inputs. It is no
-- lawful one, since `empty` stands for nothing here.
use Rattle.std.specs.Prelude.{ℕ, zero, suc, ◌+◌, pos, Bool, true, false, ◌&&◌, ◌||◌, not, nat_eq, List, [], ◌∷◌, ◌++◌}
use Rattle.std.specs.Prelude.{length, drop, Option, Some, None}
use Rattle.ep_int.specs.declared.types.Order.{Order}
use Rattle.ep_int.specs.declared.types.Scalar.{Scalar}
use Rattle.ep_int.specs.Arith.{int_eq}
use Rattle.ep_int.specs.Memory.{Byte, undefined, number, fragment, Memory, Found, has, faults, Kind, overflow}
use Rattle.ep_int.specs.Memory.{division, shift, uninitialised, bounds, null_pointer, alignment, pointer_mix, overlap}
use Rattle.ep_int.specs.Memory.{pointer_part}
use Rattle.ep_alarms.specs.declared.types.AlarmKind.{AlarmKind}
use Rattle.ep_alarms.specs.declared.types.AlarmKind.TheVariants.{U1, U2, U3, U4, U5, U6, U7, U8, U9, U10, E1, E2}
use Rattle.ep_core.specs.Program.{Expr, Simple, nothing, eval, assign, clear, copy_aggregate, copy_bytes, fill, input}
use Rattle.ep_core.specs.Program.{output, read_bytes, write_bytes, returns, Block, Function, Program}
use Rattle.ep_core.specs.Exec.{Output, State, Outcome, leaves, running, no_input, undefined_at, uncounted, is_true}
use Rattle.ep_core.specs.Exec.{without, value, does, received}
use Rattle.ep_core.specs.Runs.{Side, left, right, Run, start, main_ends}
use Rattle.ep_pass.specs.States.{Mode, Both, One, Fault, Transfer, Verdict, stuck, same, differs, StateOps}
use Rattle.ep_pass.specs.Laws.{passes}

-- ---- a machine with its memory written out

pub record Machine : Type 0 where
  pub bytes : List (List Byte)
  pub inputs : List ℕ
  pub outputs : List Output

abbrev pub bytes_from : Memory → (block here n : ℕ) → List Byte
bytes_from m b q zero = []
bytes_from m b q (suc n) = m b q ∷ bytes_from m b (q + 1) n

abbrev pub blocks_from : Memory → (block : ℕ) → List Block → List (List Byte)
blocks_from m b [] = []
blocks_from m b (x ∷ xs) = bytes_from m b 0 x.size ∷ blocks_from m (b + 1) xs

abbrev pub machine : Program → State → Machine
machine p s = record { bytes = blocks_from s.memory 0 p.blocks; inputs = s.inputs; outputs = s.outputs }

abbrev pub byte_at : List Byte → ℕ → Byte
byte_at [] q = undefined
byte_at (x ∷ xs) zero = x
byte_at (x ∷ xs) (suc q) = byte_at xs q

abbrev pub memory_of : List (List Byte) → Memory
memory_of [] b q = undefined
memory_of (x ∷ xs) zero q = byte_at x q
memory_of (x ∷ xs) (suc b) q = memory_of xs b q

abbrev pub state_of : Machine → State
state_of c = record {
  memory = memory_of c.bytes;
  inputs = c.inputs;
  used = 0;
  outputs = c.outputs;
  tests = [];
  joint_tests = [];
}

-- ---- equality

abbrev pub same_byte : Byte → Byte → Bool
same_byte undefined undefined = true
same_byte (number v) (number w) = nat_eq v w
same_byte (fragment b q k) (fragment c r j) = nat_eq b c && (nat_eq q r && nat_eq k j)
same_byte x y = false

abbrev pub same_bytes : List Byte → List Byte → Bool
same_bytes [] [] = true
same_bytes (x ∷ xs) (y ∷ ys) = same_byte x y && same_bytes xs ys
same_bytes xs ys = false

abbrev pub same_blocks : List (List Byte) → List (List Byte) → Bool
same_blocks [] [] = true
same_blocks (x ∷ xs) (y ∷ ys) = same_bytes x y && same_blocks xs ys
same_blocks xs ys = false

abbrev pub same_machine : Machine → Machine → Bool
same_machine c d =
    same_blocks c.bytes d.bytes
    && (nat_eq (length c.inputs) (length d.inputs) && nat_eq (length c.outputs) (length d.outputs))

-- ---- pairs of machines

pub record Pair : Type 0 where
  pub on_left : Machine
  pub on_right : Machine

abbrev pub same_pair : Pair → Pair → Bool
same_pair x y = same_machine x.on_left y.on_left && same_machine x.on_right y.on_right

abbrev pub is_there : Pair → List Pair → Bool
is_there x [] = false
is_there x (y ∷ ys) = same_pair x y || is_there x ys

abbrev pub with_pair : Bool → Pair → List Pair → List Pair
with_pair true x ys = ys
with_pair false x ys = ys ++ x ∷ []

abbrev pub union : List Pair → List Pair → List Pair
union xs [] = xs
union xs (y ∷ ys) = union (with_pair (is_there y xs) y xs) ys

abbrev pub is_within : List Pair → List Pair → Bool
is_within [] ys = true
is_within (x ∷ xs) ys = is_there x ys && is_within xs ys

abbrev pub some : List Pair → Option (List Pair)
some [] = None
some (x ∷ xs) = Some (x ∷ xs)

-- ---- faults

abbrev pub kind_of_fault : Kind → AlarmKind
kind_of_fault overflow = U1
kind_of_fault division = U2
kind_of_fault shift = U3
kind_of_fault uninitialised = U4
kind_of_fault bounds = U5
kind_of_fault null_pointer = U6
kind_of_fault alignment = U7
kind_of_fault pointer_mix = U8
kind_of_fault overlap = U9
kind_of_fault pointer_part = U10

abbrev pub plain_fault : AlarmKind → List Fault
plain_fault k = record { kind = k; left = (pos 0, pos 0); right = (pos 0, pos 0) } ∷ []

-- what one side comes to: it goes on, or has faults and does not
pub data Stepped : Type 0 where
  goes : Machine → Stepped
  ends_with : List Fault → Stepped

abbrev pub stepped : Program → Outcome → Stepped
stepped p (leaves w n s) = goes (machine p s)
stepped p (running s) = ends_with []
stepped p (no_input s) = ends_with []
stepped p (undefined_at l k s) = ends_with (plain_fault (kind_of_fault k))

-- faults, and the pairs that go on
pub record Went : Type 0 where
  pub faults : List Fault
  pub pairs : List Pair

abbrev pub went : List Fault → List Pair → Went
went fs xs = record { faults = fs; pairs = xs }

abbrev pub both_went : Went → Went → Went
both_went x y = went (x.faults ++ y.faults) (x.pairs ++ y.pairs)

abbrev pub each : (Pair → Went) → List Pair → Went
each f [] = went [] []
each f (x ∷ xs) = both_went (f x) (each f xs)

abbrev pub gives : Went → Transfer (List Pair)
gives w = record { faults = w.faults; next = some w.pairs }

abbrev pub both_step : Stepped → Stepped → (Machine → Machine → List Fault) → Went
both_step (goes c) (goes d) f = went (f c d) (record { on_left = c; on_right = d } ∷ [])
both_step (goes c) (ends_with fs) f = went fs []
both_step (ends_with fs) (goes d) f = went fs []
both_step (ends_with fs) (ends_with gs) f = went (fs ++ gs) []

abbrev pub one_step : Side → Stepped → Pair → List Fault → Went
one_step left (goes c) x fs = went fs (record { on_left = c; on_right = x.on_right } ∷ [])
one_step right (goes c) x fs = went fs (record { on_left = x.on_left; on_right = c } ∷ [])
one_step m (ends_with gs) x fs = went (fs ++ gs) []

abbrev pub machine_at : Side → Pair → Machine
machine_at left x = x.on_left
machine_at right x = x.on_right

-- ---- inputs and outputs

abbrev pub is_io : Simple → Bool
is_io nothing = false
is_io (eval e) = false
is_io (assign what a e) = false
is_io (clear a ty) = false
is_io (copy_aggregate a b ty) = false
is_io (copy_bytes a b n) = false
is_io (fill a e n) = false
is_io (input t d) = true
is_io (output t e) = true
is_io (read_bytes e n) = true
is_io (write_bytes e n) = true
is_io (returns e) = false

abbrev pub faults_if : Bool → List Fault → List Fault
faults_if true fs = fs
faults_if false fs = []

abbrev pub output_fault : Output → Output → List Fault
output_fault x y =
    faults_if (not (int_eq x.value y.value))
    (record { kind = E1; left = (x.value, x.value); right = (y.value, y.value) } ∷ [])

-- outputs that are new, one by one
abbrev pub output_faults : List Output → List Output → List Fault
output_faults [] ys = []
output_faults (x ∷ xs) [] = []
output_faults (x ∷ xs) (y ∷ ys) = output_fault x y ++ output_faults xs ys

abbrev pub new_outputs : Machine → Machine → List Output
new_outputs before c = drop (length before.outputs) c.outputs

-- ---- tests

abbrev pub truth_of : Found → Option Bool
truth_of (has v) = Some (is_true v)
truth_of (faults k) = None

abbrev pub test_faults : Found → List Fault
test_faults (has v) = []
test_faults (faults k) = plain_fault (kind_of_fault k)

abbrev pub verdict_of : Option Bool → Option Bool → Verdict
verdict_of None u = stuck
verdict_of (Some t) None = stuck
verdict_of (Some true) (Some true) = same
verdict_of (Some false) (Some false) = same
verdict_of (Some true) (Some false) = differs
verdict_of (Some false) (Some true) = differs

abbrev pub worse : Verdict → Verdict → Verdict
worse stuck v = stuck
worse same v = v
worse differs stuck = stuck
worse differs same = differs
worse differs differs = differs

abbrev pub is_truth : Bool → Option Bool → Bool
is_truth t None = false
is_truth true (Some t) = t
is_truth false (Some t) = not t

abbrev pub kept_if : Bool → Pair → List Pair → List Pair
kept_if true x xs = x ∷ xs
kept_if false x xs = xs

abbrev pub kept_where : (Pair → Bool) → List Pair → List Pair
kept_where test [] = []
kept_where test (x ∷ xs) = kept_if (test x) x (kept_where test xs)

-- ---- the operations, for a program with these inputs

module _ (p : Program) (ord : Side → Order) (inputs : List (List ℕ)) where
  abbrev starts : List (List ℕ) → List Pair
  starts [] = []
  starts (vs ∷ more) =
      record { on_left = machine p (start (ord left) p vs); on_right = machine p (start (ord right) p vs) } ∷ starts
      more

  abbrev pub in_mode : Mode → (Side → State → Outcome) → (Pair → Machine → Machine → List Fault)
      → (alone : List Fault) → Pair → Went
  in_mode Both f told alone x =
      both_step (stepped p (f left (state_of x.on_left))) (stepped p (f right (state_of x.on_right))) (told x)
  in_mode (One m) f told alone x = one_step m (stepped p (f m (state_of (machine_at m x)))) x alone

  abbrev no_told : Pair → Machine → Machine → List Fault
  no_told x c d = []

  abbrev told_outputs : Pair → Machine → Machine → List Fault
  told_outputs x c d = output_faults (new_outputs x.on_left c) (new_outputs x.on_right d)

  abbrev pub exact_simple : Mode → (result : Option (ℕ × Scalar)) → Simple → List Pair → Transfer (List Pair)
  exact_simple m r w s =
      gives
      (each (in_mode m (λ i x. does (ord i) p uncounted r w 0 0 x) told_outputs (faults_if (is_io w) (plain_fault E2)))
      s)

  abbrev found : Side → Expr → Pair → Found
  found m e x = value (ord m) p e (state_of (machine_at m x)).memory

  abbrev pair_verdict : Mode → Expr → Pair → Verdict
  pair_verdict Both e x = verdict_of (truth_of (found left e x)) (truth_of (found right e x))
  pair_verdict (One m) e x = verdict_of (truth_of (found m e x)) (truth_of (found m e x))

  abbrev pair_faults : Mode → Expr → Pair → List Fault
  pair_faults Both e x = test_faults (found left e x) ++ test_faults (found right e x)
  pair_faults (One m) e x = test_faults (found m e x)

  abbrev all_verdicts : Mode → Expr → List Pair → Verdict
  all_verdicts m e [] = same
  all_verdicts m e (x ∷ xs) = worse (pair_verdict m e x) (all_verdicts m e xs)

  abbrev all_faults : Mode → Expr → List Pair → List Fault
  all_faults m e [] = []
  all_faults m e (x ∷ xs) = pair_faults m e x ++ all_faults m e xs

  abbrev changed : Mode → List ℕ → List Pair → List Pair
  changed m bs [] = []
  changed Both bs (x ∷ xs) =
      record {
        on_left = machine p (without bs (state_of x.on_left));
        on_right = machine p (without bs (state_of x.on_right));
      } ∷ changed Both bs xs
  changed (One left) bs (x ∷ xs) =
      record { on_left = machine p (without bs (state_of x.on_left)); on_right = x.on_right } ∷ changed (One left) bs xs
  changed (One right) bs (x ∷ xs) =
      record { on_left = x.on_left; on_right = machine p (without bs (state_of x.on_right)) } ∷ changed
      (One right) bs xs

  -- the result of main alone is compared
  abbrev end_fault : Machine → Machine → Run → Run → List Fault
  end_fault c d x y = output_faults (drop (length c.outputs) x.outputs) (drop (length d.outputs) y.outputs)

  abbrev ends : Function → List Pair → List Fault
  ends f [] = []
  ends f (x ∷ xs) =
      end_fault x.on_left x.on_right (main_ends (ord left) p f.result f.line (state_of x.on_left))
      (main_ends (ord right) p f.result f.line (state_of x.on_right))
      ++ ends f xs

  abbrev pub exact : StateOps (List Pair)
  exact = record {
    entry = starts inputs;
    simple = exact_simple;
    test = λ m e s. record { faults = all_faults m e s; verdict = all_verdicts m e s };
    assume = λ e t u s. some
        (kept_where (λ x. is_truth t (truth_of (found left e x)) && is_truth u (truth_of (found right e x))) s);
    assume_one = λ m e t s. some (kept_where (λ x. is_truth t (truth_of (found m e x))) s);
    arguments = λ m f es s. gives (each (in_mode m (λ i x. passes (ord i) p f es 0 0 x) no_told []) s);
    result = λ m f d s. gives (each (in_mode m (λ i x. received (ord i) p f.result d 0 0 x) no_told []) s);
    enter = changed;
    leave = changed;
    unified = λ s t. (s, t);
    joined = union;
    widened = union;
    leq = is_within;
    reshared = λ s. s;
    empty = [];
    ended = ends;
  }
