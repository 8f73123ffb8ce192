-- What is kept while one function is looked at after the other.
use Rattle.std.proofs.Common.{◌≡◌, ◌≢◌, ◌⊎◌, inl, inr, ℕ, suc, ◌+◌, ◌<◌, ◌≤◌, Bool, true, false, ◌&&◌, nat_eq, List}
use Rattle.std.proofs.Common.{◌∷◌, length, map, drop, get_or, set, Some, refl, sym, ap, ◌∙◌, arith}
use Rattle.std.proofs.lemmas.Bool.{eqb-true}
use Rattle.std.proofs.lemmas.List.{drop-map, get_or-set_same, get_or-set_other, length-set}
use Rattle.std.proofs.lemmas.Option.{slice_get-get_or}
use Rattle.std.proofs.Math.Seq.{drop-cons}
use Rattle.ep_core.specs.declared.program.CoreProgram.{CoreProgram}
use Rattle.ep_core.specs.declared.program.Function as memory
use Rattle.ep_core.specs.declared.tree.Stmt.{Stmt}
use Rattle.ep_core.specs.Program.{Program}
use Rattle.ep_core.specs.ProgramView.{program_view}
use Rattle.ep_core.specs.View.{function_view, stmts_view}
use Rattle.ep_kinds.specs.Closed.{are_closed, each_function, is_closed_text}
use Rattle.ep_kinds.specs.InOut.{is_talk, some_comes_to}
use Rattle.ep_double.specs.Remembered.{AreRemembered, called}
use Rattle.ep_double.proofs.Called.{its_body, same_called}

-- the functions from number n on are closed
abbrev pub rest : Program → ℕ → Bool
rest p n = each_function (λ n f. are_closed (called p n) f.body) n (drop n p.functions)

pub record Kept (p : Program) (n : ℕ) (talks : List Bool) : Type 0 where
  pub right : AreRemembered p n talks
  pub long : length talks ≡ 81920
  pub whole : rest p n ≡ is_closed_text p

-- where this is the body of function n, and r tells whether it is closed
module _ (p : CoreProgram) (n : ℕ) (f : memory.Function) (ss : List Stmt) (r : Bool)
    (within : n < length p.functions.items)
    (is : f ≡ get_or p.functions.items n f) (body : ss ≡ f.body.items)
    (told : r ≡ are_closed (called (program_view p) n) (stmts_view ss)) where
  one_and_rest : rest (program_view p) n ≡ (r && rest (program_view p) (suc n))
  one_and_rest =
      let fs = p.functions.items in
      ap (each_function (λ n f. are_closed (called (program_view p) n) f.body) n)
      (drop-map function_view n fs
      ∙ (ap (map function_view)
      (drop-cons fs n f within ∙ ap (λ (g : memory.Function). g ∷ drop (suc n) fs) (sym is))
      ∙ ap (λ gs. function_view f ∷ gs) (sym (drop-map function_view (suc n) fs))))
      ∙ ap (λ b. b && rest (program_view p) (suc n))
      (ap (λ (x : List Stmt). are_closed (called (program_view p) n) (stmts_view x)) (sym body) ∙ sym told)

  pub not_closed : (talks : List Bool) → Kept (program_view p) n talks → r ≡ false → false ≡ is_closed_text (program_view p)
  not_closed talks k e = sym (ap (λ b. b && rest (program_view p) (suc n)) e) ∙ (sym one_and_rest ∙ k.whole)

  -- and c tells whether it comes to an input or output
  module _ (c : Bool) (ts : List Stmt) (again : ts ≡ f.body.items)
      (comes : c ≡ some_comes_to is_talk (called (program_view p) n) (stmts_view ts)) where
    its_own : c ≡ called (program_view p) (suc n) n
    its_own =
        its_body p (suc n) n f ts c (omega arith)
        (slice_get-get_or p.functions.items n f within ∙ ap (λ (g : memory.Function). Some g) (sym is)) again comes

    right_after : (old new : List Bool) → AreRemembered (program_view p) n old
        → ((new ≡ set old n c) × (n < length old)) ⊎ ((new ≡ old) × (length old ≤ n))
        → AreRemembered (program_view p) (n + 1) new
    right_after old new h (inl s) k i l = by_number (nat_eq k n) refl
      where
        one_more : suc n ≡ n + 1
        one_more = omega arith

        other : nat_eq k n ≡ false → k ≢ n
        other e d = grind (arith, e, d)

        earlier : nat_eq k n ≡ false → k < n
        earlier e = grind (arith, i, e)

        longer : k < length old
        longer = let d = ap length s.0 in let v = length-set old n c in omega (arith, l, d, v)

        by_number : (t : Bool) → nat_eq k n ≡ t → get_or new k false ≡ called (program_view p) (n + 1) k
        by_number true e =
            let d = eqb-true k n e in
            ap (λ (xs : List Bool). get_or xs k false) s.0
            ∙ (ap (λ j. get_or (set old n c) j false) d
            ∙ (get_or-set_same old n c false s.1
            ∙ (its_own ∙ (ap (called (program_view p) (suc n)) (sym d) ∙ ap (λ j. called (program_view p) j k) one_more))))
        by_number false e =
            ap (λ (xs : List Bool). get_or xs k false) s.0
            ∙ (get_or-set_other old n k c false (other e)
            ∙ (h k (earlier e) longer ∙ same_called (program_view p) n (n + 1) k (earlier e) i))
    right_after old new h (inr s) k i l =
        let d = ap length s.0 in
        ap (λ (xs : List Bool). get_or xs k false) s.0
        ∙ (h k (omega (arith, l, d, s.1)) (omega (arith, l, d)) ∙ same_called (program_view p) n (n + 1) k (omega
        (arith, l, d, s.1)) i)

    pub kept_on : (old new : List Bool) → Kept (program_view p) n old → r ≡ true
        → ((new ≡ set old n c) × (n < 81920)) ⊎ ((new ≡ old) × (81920 ≤ n)) → Kept (program_view p) (n + 1) new
    kept_on old new k e s = record {
      right = right_after old new k.right (to_length s);
      long = to_long s;
      whole = ap (rest (program_view p)) one_more ∙ (sym (ap (λ b. b && rest (program_view p) (suc n)) e) ∙ (sym one_and_rest
          ∙ k.whole));
    }
      where
        one_more : n + 1 ≡ suc n
        one_more = omega arith

        to_length : ((new ≡ set old n c) × (n < 81920)) ⊎ ((new ≡ old) × (81920 ≤ n))
            → ((new ≡ set old n c) × (n < length old)) ⊎ ((new ≡ old) × (length old ≤ n))
        to_length (inl s) = let d = k.long in inl (s.0, omega (arith, d, s.1))
        to_length (inr s) = let d = k.long in inr (s.0, omega (arith, d, s.1))

        to_long : ((new ≡ set old n c) × (n < 81920)) ⊎ ((new ≡ old) × (81920 ≤ n)) → length new ≡ 81920
        to_long (inl s) = ap length s.0 ∙ (length-set old n c ∙ k.long)
        to_long (inr s) = ap length s.0 ∙ k.long
