-- What functions come to that others call, by their numbers.
use Rattle.std.proofs.Common.{◌≡◌, ℕ, zero, suc, ◌<◌, ◌≤◌, Bool, true, false, nat_eq, List, slice_get, Some, None}
use Rattle.std.proofs.Common.{refl, sym, ap, ◌∙◌, arith}
use Rattle.std.specs.Option.{option_map}
use Rattle.std.proofs.lemmas.Bool.{eqb-true, ne_eqb}
use Rattle.std.proofs.lemmas.Option.{slice_get-map}
use Rattle.ep_core.specs.declared.program.CoreProgram.{CoreProgram}
use Rattle.ep_core.specs.declared.program.Function as memory
use Rattle.ep_core.specs.declared.tree.Stmt.{Stmt}
use Rattle.ep_core.specs.Program.{Simple, Program}
use Rattle.ep_core.specs.ProgramView.{program_view}
use Rattle.ep_core.specs.View.{function_view, stmts_view}
use Rattle.ep_kinds.specs.InOut.{answer_if, body_comes_to, bodies_come_to, is_talk, some_comes_to}
use Rattle.ep_double.specs.Remembered.{AreRemembered, called}

module _ (test : Simple → Bool) (p : Program) where
  -- a function of this number or a later one isn't called
  none_come : (n k : ℕ) → n ≤ k → bodies_come_to test p n k ≡ false
  none_come zero k h = refl
  none_come (suc n) k h =
      ap
      (λ t. answer_if t (body_comes_to test (slice_get p.functions n) (bodies_come_to test p n))
      (bodies_come_to test p n k)) (ne_eqb k n (λ i. omega (arith, h, i)))
      ∙ none_come n k (omega (arith, h))

  -- what one before comes to is told by those before it alone
  one_comes : (n k : ℕ) → k < n
      → bodies_come_to test p n k ≡ body_comes_to test (slice_get p.functions k) (bodies_come_to test p k)
  one_comes zero k h = absurd (omega (arith, h))
  one_comes (suc n) k h = by_number (nat_eq k n) refl (one_comes n k)
    where
      A : Bool
      A = body_comes_to test (slice_get p.functions n) (bodies_come_to test p n)

      B : Bool
      B = bodies_come_to test p n k

      C : Bool
      C = body_comes_to test (slice_get p.functions k) (bodies_come_to test p k)

      before : nat_eq k n ≡ false → k < n
      before e = grind (arith, h, e)

      by_number : (t : Bool) → nat_eq k n ≡ t → (k < n → B ≡ C) → answer_if (nat_eq k n) A B ≡ C
      by_number true e go =
          ap (λ t. answer_if t A B) e
          ∙ ap (λ i. body_comes_to test (slice_get p.functions i) (bodies_come_to test p i)) (sym (eqb-true k n e))
      by_number false e go = ap (λ t. answer_if t A B) e ∙ go (before e)

-- of a function before both
pub same_called : (p : Program) (n m k : ℕ) → k < n → k < m → called p n k ≡ called p m k
same_called p n m k h i = one_comes is_talk p n k h ∙ sym (one_comes is_talk p m k i)

pub none_called : (p : Program) (n k : ℕ) → n ≤ k → false ≡ called p n k
none_called p n k h = sym (none_come is_talk p n k h)

pub fewer : (p : Program) (n k : ℕ) (talks : List Bool) → AreRemembered p n talks → k < n → AreRemembered p k talks
fewer p n k talks r h j i l =
    r j (omega (arith, h, i)) l
    ∙ (one_comes is_talk p n j (omega (arith, h, i)) ∙ sym (one_comes is_talk p k j i))

pub no_body : (p : CoreProgram) (n k : ℕ) → k < n → slice_get p.functions.items k ≡ None → false ≡ called (program_view p) n k
no_body p n k h e =
    sym
    (one_comes is_talk (program_view p) n k h
    ∙ ap (λ f. body_comes_to is_talk f (called (program_view p) k)) (slice_get-map function_view p.functions.items k ∙ ap
    (option_map function_view) e))

pub its_body : (p : CoreProgram) (n k : ℕ) (f : memory.Function) (ss : List Stmt) (r : Bool) → k < n
    → slice_get p.functions.items k ≡ Some f → ss ≡ f.body.items
    → r ≡ some_comes_to is_talk (called (program_view p) k) (stmts_view ss) → r ≡ called (program_view p) n k
its_body p n k f ss r h e d g =
    g ∙ (ap (λ (x : List Stmt). some_comes_to is_talk (called (program_view p) k) (stmts_view x)) d
    ∙ sym
    (one_comes is_talk (program_view p) n k h
    ∙ ap (λ f. body_comes_to is_talk f (called (program_view p) k)) (slice_get-map function_view p.functions.items k ∙ ap
    (option_map function_view) e)))
