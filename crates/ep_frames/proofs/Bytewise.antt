-- Bytes that are read, one after another.
use Rattle.std.proofs.Common.{◌≡◌, ℕ, suc, ◌+◌, ◌%◌, ◌≤◌, false, nat_lt, Result, Ok, Err, sym, ap, ◌∙◌}
use Rattle.std.proofs.Common.{arith}
use Rattle.std.specs.Prelude.{⊤}
use Rattle.std.proofs.lemmas.Bool.Decides.{nat_tests}
use Rattle.ep_int.specs.Memory.{Memory, filled}
use Rattle.ep_core.specs.Exec.{State, Outcome, leaves, on, counted, bytewise, bytewise_rest, into, model, remembers}
use Rattle.ep_core.specs.Exec.{taken}
use Rattle.ep_machine.specs.declared.fault.Fault.{Fault}
use Rattle.ep_machine.specs.declared.setting.Setting.{Setting}
use Rattle.ep_machine.specs.Settings.{program_in, size_on}
use Rattle.ep_machine.specs.Machines.{done, Changes}

left_at : (left : ℕ) (s r : State) → leaves on left s ≡ leaves on left r → r ≡ s
left_at left s r e = cc

-- bytes that lie in their block change
pub range_changed : (m : Setting) (b here n : ℕ) (x : Memory) (s r : State) (a : Result ⊤ Fault)
    → here + n ≤ size_on m b → Changes m s a r b here n x → r ≡ remembers x s
range_changed m b here n x s r a h e =
    let inside : nat_lt (size_on m b) (here + n) ≡ false = grind (arith, nat_tests, h) in
    by_answer a (rw inside at (e 0 0))
  where
    by_answer : (a : Result ⊤ Fault) → leaves on 0 (remembers x s) ≡ done a 0 r (leaves on 0 r) → r ≡ remembers x s
    by_answer (Ok u) q = left_at 0 (remembers x s) r q
    by_answer (Err k) q = absurd cc

-- a byte is read, and then the others
pub byte_read : (m : Setting) (b count n here left v : ℕ) (s q r : State) → count ≡ suc n
    → ((go : ℕ → State → Outcome) → taken s.inputs s go ≡ go v q)
    → r ≡ remembers (filled (model m.order (program_in m)) q.memory b here 1 (v % 256)) q
    → bytewise counted (into m.order (program_in m) b) n (here + 1) left r
    ≡ bytewise_rest counted (into m.order (program_in m) b) count here left s
byte_read m b count n here left v s q r ec takes e =
    ap (bytewise counted (into m.order (program_in m) b) n (here + 1) left) e
    ∙ sym (takes (λ v s. bytewise counted (into m.order (program_in m) b) n (here + 1) left
    (remembers (filled (model m.order (program_in m)) s.memory b here 1 (v % 256)) s)))
    ∙ ap (λ k. bytewise_rest counted (into m.order (program_in m) b) k here left s) (sym ec)
