-- Arms of byte-order conditionals.
use Rattle.std.proofs.Common.{◌≡◌, ℕ, List, [], ◌∷◌, ◌++◌, take, length, refl, sym, ap, ◌∙◌}
use Rattle.ep_core.specs.Exec.{State, Outcome, leaves, running, no_input, undefined_at, arm_left, code_of_way}
use Rattle.ep_core.specs.Runs.{Begins}
use Rattle.ep_core.proofs.Grows.{Grows}
use Rattle.ep_frames.specs.Stack.{arm_ends}

taken : (xs ys : List ℕ) → take (length xs) (xs ++ ys) ≡ xs
taken [] ys = refl
taken (x ∷ xs) ys = ap (λ zs. x ∷ zs) (taken xs ys)

first_of_later : (xs ys : List ℕ) → Begins xs ys → take (length xs) ys ≡ xs
first_of_later xs ys b = ap (take (length xs)) (sym b.is) ∙ taken xs b.rest

-- The joint tests before an arm are the first of those in it.
pub arm_is : (s : State) (n : ℕ) (x : Outcome) → Grows s n x
    → arm_ends (length s.joint_tests) x ≡ arm_left s.joint_tests x
arm_is s n (leaves w left r) g =
    ap (λ j. leaves w left (record r {
      tests = r.tests ++ code_of_way w ∷ [];
      joint_tests = j ++ code_of_way w ∷ [];
    })) (first_of_later s.joint_tests r.joint_tests g.0.2)
arm_is s n (running r) g =
    ap (λ j. running (record r { joint_tests = j })) (first_of_later s.joint_tests r.joint_tests g.2)
arm_is s n (no_input r) g =
    ap (λ j. no_input (record r { joint_tests = j })) (first_of_later s.joint_tests r.joint_tests g.2)
arm_is s n (undefined_at l k r) g =
    ap (λ j. undefined_at l k (record r { joint_tests = j })) (first_of_later s.joint_tests r.joint_tests g.2)
