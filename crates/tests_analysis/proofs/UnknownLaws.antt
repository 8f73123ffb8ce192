-- The laws of operations can be met: two representations keep them, and by the report of the second `int main(void) { }`
-- is portable.
use Rattle.std.proofs.Common.{◌≡◌, ℕ, ℤ, Bool, true, false, [], ◌∷◌, ◌++◌, refl, ap, ◌∙◌, sym, subst, slice_get}
use Rattle.ep_domain.specs.Laws.Shared.{from_eq}
use Rattle.std.proofs.Common.{Option, Some, None}
use Rattle.ep_int.specs.declared.types.IntType.TheVariants.{I32}
use Rattle.ep_int.specs.declared.types.Order.{Order}
use Rattle.ep_int.specs.Arith.{int_eq}
use Rattle.ep_int.specs.declared.types.Scalar.{Scalar}
use Rattle.ep_int.specs.Memory.{Memory, int, null, pointer, Found, has, faults, killed}
use Rattle.ep_core.specs.Program.{Expr, const, null_value, load, addr_of, binary, convert, compare, ptr_compare}
use Rattle.ep_core.specs.Program.{logical_and, logical_or, logical_not, conditional, ptr_add, cast, Simple, nothing}
use Rattle.ep_core.specs.Program.{eval, assign, clear, copy_aggregate, copy_bytes, fill, input, output, read_bytes}
use Rattle.ep_core.specs.Program.{write_bytes, returns, stop, Function, Program}
use Rattle.ep_core.specs.Exec.{State, on, uncounted, is_true, result_in, does}
use Rattle.ep_core.specs.Runs.{Side, left, right, initial, result_out, main_ends}
use Rattle.ep_pass.specs.States.{Both, One}
use Rattle.ep_pass.specs.Pass.{way_of, report_of}
use Rattle.ep_pass.specs.Laws.{ConcretisesTyped, ConcretisesTypedBeside, ReachesBeside, Meets, meet, MeetsAlone, meet_alone, ConcretisesBeside}
use Rattle.ep_pass.specs.Laws.{IsTruth, Truths, TruthAlone, EndAlike, Lawful}
use Rattle.tests_analysis.specs.Samples.{program, usual}
use Rattle.tests_analysis.specs.Unknown.{put_out, simple_of, test_of, Known, unknown, Any, Ends, ends_alike, unsure}
use Rattle.tests_analysis.specs.Unknown.{found_in, result_found, SameResult, ConcretisesUnknown, ends_if, ends_by, either}
use Rattle.tests_analysis.specs.Unknown.{is_within, end_faults, of_ends}

-- ---- what both keep, whatever a state stands for
module _ (p : Program) {S : Type 0} (Concretises : S → Memory → Memory → Type 0) where
  abbrev K : S → State → State → Type 0
  K = ConcretisesTyped p Concretises

  -- other machines with the same memories, inputs and outputs
  beside : (m : Side) (s : S) (x y : State) → ConcretisesTypedBeside p Concretises m s x y → ReachesBeside p Concretises m (Some s) x y
  beside left s x y h = h.stands
  beside right s x y h = h.stands

  module _ (ord : Side → Order) where
    put_sound : (t : _) (e : Expr) (r : Option (ℕ × Scalar)) (l n m : ℕ) (s : S) (x y : State) → K s x y
        → (put_out Both e s).faults ≡ []
        → Meets p Concretises on (put_out Both e s).next n m (does (ord left) p uncounted r (output t e) l n x)
        (does (ord right) p uncounted r (output t e) l m y)
    put_sound t (const u v) r l n m s x y h q =
        meet (record {
          memories = h.stands.memories;
          inputs = h.stands.inputs;
          outputs = ap (λ os. os ++ record { t = t; value = v } ∷ []) h.stands.outputs;
        })
    put_sound t null_value r l n m s x y h q = absurd cc
    put_sound t (load w a) r l n m s x y h q = absurd cc
    put_sound t (addr_of a) r l n m s x y h q = absurd cc
    put_sound t (binary c u a b) r l n m s x y h q = absurd cc
    put_sound t (convert u a) r l n m s x y h q = absurd cc
    put_sound t (compare c u a b) r l n m s x y h q = absurd cc
    put_sound t (ptr_compare c a b) r l n m s x y h q = absurd cc
    put_sound t (logical_and a b) r l n m s x y h q = absurd cc
    put_sound t (logical_or a b) r l n m s x y h q = absurd cc
    put_sound t (logical_not a) r l n m s x y h q = absurd cc
    put_sound t (conditional a b c) r l n m s x y h q = absurd cc
    put_sound t (ptr_add a u b c) r l n m s x y h q = absurd cc
    put_sound t (cast a) r l n m s x y h q = absurd cc

    simple_sound : (w : Simple) (r : Option (ℕ × Scalar)) (l n m : ℕ) (s : S) (x y : State) → K s x y
        → (simple_of Both w s).faults ≡ []
        → Meets p Concretises (way_of w) (simple_of Both w s).next n m (does (ord left) p uncounted r w l n x)
        (does (ord right) p uncounted r w l m y)
    simple_sound nothing r l n m s x y h q = meet h.stands
    simple_sound (output t e) r l n m s x y h q = put_sound t e r l n m s x y h q
    simple_sound (eval e) r l n m s x y h q = absurd cc
    simple_sound (assign w a e) r l n m s x y h q = absurd cc
    simple_sound (clear a t) r l n m s x y h q = absurd cc
    simple_sound (copy_aggregate a b t) r l n m s x y h q = absurd cc
    simple_sound (copy_bytes a b k) r l n m s x y h q = absurd cc
    simple_sound (fill a e k) r l n m s x y h q = absurd cc
    simple_sound (input t d) r l n m s x y h q = absurd cc
    simple_sound (read_bytes e k) r l n m s x y h q = absurd cc
    simple_sound (write_bytes e k) r l n m s x y h q = absurd cc
    simple_sound (returns e) r l n m s x y h q = absurd cc

    simple_alone : (i : Side) (w : Simple) (r : Option (ℕ × Scalar)) (l n : ℕ) (s : S) (x y : State)
        → ConcretisesTypedBeside p Concretises i s x y → (simple_of (One i) w s).faults ≡ []
        → MeetsAlone p Concretises i (way_of w) (simple_of (One i) w s).next n y (does (ord i) p uncounted r w l n x)
    simple_alone i nothing r l n s x y h q = meet_alone (beside i s x y h)
    simple_alone i (output t e) r l n s x y h q = absurd cc
    simple_alone i (eval e) r l n s x y h q = absurd cc
    simple_alone i (assign w a e) r l n s x y h q = absurd cc
    simple_alone i (clear a t) r l n s x y h q = absurd cc
    simple_alone i (copy_aggregate a b t) r l n s x y h q = absurd cc
    simple_alone i (copy_bytes a b k) r l n s x y h q = absurd cc
    simple_alone i (fill a e k) r l n s x y h q = absurd cc
    simple_alone i (input t d) r l n s x y h q = absurd cc
    simple_alone i (read_bytes e k) r l n s x y h q = absurd cc
    simple_alone i (write_bytes e k) r l n s x y h q = absurd cc
    simple_alone i (returns e) r l n s x y h q = absurd cc

    const_truth : (o : Order) (t : _) (v : ℤ) (m : Memory) → IsTruth p o (const t v) m (is_true (int v))
    const_truth o t v m = record { found = int v; has = refl; is = refl }

    test_sound : (e : Expr) (m k : Memory) → (test_of e).faults ≡ [] → Truths p ord e (test_of e).verdict m k
    test_sound (const t v) m k q = record {
      on_left = is_true (int v);
      on_right = is_true (int v);
      left_is = const_truth (ord left) t v m;
      right_is = const_truth (ord right) t v k;
      fits = refl;
    }
    test_sound null_value m k q = absurd cc
    test_sound (load w a) m k q = absurd cc
    test_sound (addr_of a) m k q = absurd cc
    test_sound (binary c u a b) m k q = absurd cc
    test_sound (convert u a) m k q = absurd cc
    test_sound (compare c u a b) m k q = absurd cc
    test_sound (ptr_compare c a b) m k q = absurd cc
    test_sound (logical_and a b) m k q = absurd cc
    test_sound (logical_or a b) m k q = absurd cc
    test_sound (logical_not a) m k q = absurd cc
    test_sound (conditional a b c) m k q = absurd cc
    test_sound (ptr_add a u b c) m k q = absurd cc
    test_sound (cast a) m k q = absurd cc

    test_alone : (o : Order) (e : Expr) (m : Memory) → (test_of e).faults ≡ [] → TruthAlone p o e (test_of e).verdict m
    test_alone o (const t v) m q = record { truth = is_true (int v); is = const_truth o t v m; goes_on = tt }
    test_alone o null_value m q = absurd cc
    test_alone o (load w a) m q = absurd cc
    test_alone o (addr_of a) m q = absurd cc
    test_alone o (binary c u a b) m q = absurd cc
    test_alone o (convert u a) m q = absurd cc
    test_alone o (compare c u a b) m q = absurd cc
    test_alone o (ptr_compare c a b) m q = absurd cc
    test_alone o (logical_and a b) m q = absurd cc
    test_alone o (logical_or a b) m q = absurd cc
    test_alone o (logical_not a) m q = absurd cc
    test_alone o (conditional a b c) m q = absurd cc
    test_alone o (ptr_add a u b c) m q = absurd cc
    test_alone o (cast a) m q = absurd cc

-- ---- nothing is known

all_in : (p : Program) (i : Side) (s : Known) (m k : Memory) → ConcretisesBeside p Any i s m k
all_in p left s m k = tt
all_in p right s m k = tt

module _ (p : Program) (ord : Side → Order) where
  pub unknown_lawful : Lawful p ord unknown Any
  unknown_lawful = record {
    entry_in = tt;
    simple_sound = λ here f e w seen fits l n m s x y h q. simple_sound p Any ord w f.result l n m s x y h q;
    simple_alone = λ i here f e w seen fits l n s x y h q. simple_alone p Any ord i w f.result l n s x y h q;
    test_sound = λ e seen fits s x y h q. test_sound p Any ord e x.memory y.memory q;
    test_alone = λ i e seen fits s x y h q. test_alone p Any ord (ord i) e x.memory q;
    assume_in = λ e seen fits t u s x y h q c d. h.stands;
    assume_alone = λ i e seen fits t s x y h q c. beside p Any i s x y h;
    arguments_sound = λ k f e es seen fits l n m s x y h q. absurd cc;
    arguments_alone = λ i k f e es seen fits l n s x y h q. absurd cc;
    result_sound = λ k f e d seen fits l n m s x y h q. absurd cc;
    result_alone = λ i k f e d seen fits l n s x y h q. absurd cc;
    enter_in = λ bs s m k i. tt;
    leave_in = λ bs s m k i. tt;
    enter_alone = λ i bs s m k h. all_in p i s (killed bs m) k;
    leave_alone = λ i bs s m k h. all_in p i s (killed bs m) k;
    unified_left = λ s t m k i. tt;
    unified_right = λ s t m k i. tt;
    joined_left = λ s t m k i. tt;
    joined_right = λ s t m k i. tt;
    widened_left = λ s t m k i. tt;
    leq_in = λ s t m k e i. tt;
    reshared_in = λ s m k i. tt;
    empty_in = λ m k. tt;
    ended_sound = λ f e s x y h q. absurd cc;
  }

-- ---- main's result is the same number, or nothing is known

all_unsure : (p : Program) (ord : Side → Order) (i : Side) (m k : Memory) → ConcretisesBeside p (ConcretisesUnknown p ord) i unsure m k
all_unsure p ord left m k = tt
all_unsure p ord right m k = tt

module _ (p : Program) (ord : Side → Order) where
  abbrev Concretises : Ends → Memory → Memory → Type 0
  Concretises = ConcretisesUnknown p ord

  module _ (m k : Memory) where
    if_stands : (b : Bool) → (b ≡ true → SameResult p ord m k) → Concretises (ends_if b) m k
    if_stands true h = h refl
    if_stands false h = tt

    by_stands : (x y : Found) → result_found (ord left) p m ≡ x → result_found (ord right) p k ≡ y
        → Concretises (ends_by x y) m k
    by_stands (has (int v)) (has (int w)) e f =
        if_stands (int_eq v w)
        (λ q. record { number = v; on_left = e; on_right = f ∙ ap (λ z. has (int z)) (sym (from_eq v w q)) })
    by_stands (has (int v)) (has null) e f = tt
    by_stands (has (int v)) (has (pointer b q)) e f = tt
    by_stands (has (int v)) (faults c) e f = tt
    by_stands (has null) y e f = tt
    by_stands (has (pointer b q)) y e f = tt
    by_stands (faults c) y e f = tt

    either_left : (s t : Ends) → Concretises s m k → Concretises (either s t) m k
    either_left ends_alike ends_alike i = i
    either_left ends_alike unsure i = tt
    either_left unsure t i = tt

    either_right : (s t : Ends) → Concretises t m k → Concretises (either s t) m k
    either_right ends_alike t i = i
    either_right unsure t i = tt

    within : (s t : Ends) → is_within s t ≡ true → Concretises s m k → Concretises t m k
    within s unsure e i = tt
    within ends_alike ends_alike e i = i
    within unsure ends_alike e i = absurd cc

  -- of one result, both machines end alike
  ends : (r : Option (ℕ × Scalar)) (l : ℕ) (x y : State) (v : ℤ) → x.outputs ≡ y.outputs
      → found_in (ord left) p r x.memory ≡ has (int v) → found_in (ord right) p r y.memory ≡ has (int v)
      → EndAlike (main_ends (ord left) p r l x) (main_ends (ord right) p r l y)
  ends None l x y v o e f = absurd cc
  ends (Some r) l x y v o e f =
      subst (λ d. EndAlike (result_out d l x) (result_out (found_in (ord right) p (Some r) y.memory) l y)) (sym e)
      (subst (λ d. EndAlike (result_out (has (int v)) l x) (result_out d l y)) (sym f)
      (record { defined = tt; ending = refl; outputs = ap (λ os. os ++ record { t = I32; value = v } ∷ []) o }))

  ended : (f : Function) → slice_get p.functions p.main ≡ Some f → (s : Ends) (x y : State) → ConcretisesTyped p Concretises s x y
      → end_faults s ≡ [] → EndAlike (main_ends (ord left) p f.result f.line x)
      (main_ends (ord right) p f.result f.line y)
  ended f e unsure x y h q = absurd cc
  ended f e ends_alike x y h q =
      let r = h.stands.memories in
      ends f.result f.line x y r.number h.stands.outputs
      (subst (λ g. found_in (ord left) p (result_in g) x.memory ≡ has (int r.number)) e r.on_left)
      (subst (λ g. found_in (ord right) p (result_in g) y.memory ≡ has (int r.number)) e r.on_right)

  pub ends_lawful : Lawful p ord (of_ends p ord) Concretises
  ends_lawful = record {
    entry_in = by_stands (initial (ord left) p) (initial (ord right) p) _ _ refl refl;
    simple_sound = λ here f e w seen fits l n m s x y h q. simple_sound p Concretises ord w f.result l n m s x y h q;
    simple_alone = λ i here f e w seen fits l n s x y h q. simple_alone p Concretises ord i w f.result l n s x y h q;
    test_sound = λ e seen fits s x y h q. test_sound p Concretises ord e x.memory y.memory q;
    test_alone = λ i e seen fits s x y h q. test_alone p Concretises ord (ord i) e x.memory q;
    assume_in = λ e seen fits t u s x y h q c d. h.stands;
    assume_alone = λ i e seen fits t s x y h q c. beside p Concretises i s x y h;
    arguments_sound = λ k f e es seen fits l n m s x y h q. absurd cc;
    arguments_alone = λ i k f e es seen fits l n s x y h q. absurd cc;
    result_sound = λ k f e d seen fits l n m s x y h q. absurd cc;
    result_alone = λ i k f e d seen fits l n s x y h q. absurd cc;
    enter_in = λ bs s m k i. tt;
    leave_in = λ bs s m k i. tt;
    enter_alone = λ i bs s m k h. all_unsure p ord i (killed bs m) k;
    leave_alone = λ i bs s m k h. all_unsure p ord i (killed bs m) k;
    unified_left = λ s t m k i. i;
    unified_right = λ s t m k i. i;
    joined_left = λ s t m k i. either_left m k s t i;
    joined_right = λ s t m k i. either_right m k s t i;
    widened_left = λ s t m k i. either_left m k s t i;
    leq_in = λ s t m k e i. within m k s t e i;
    reshared_in = λ s m k i. i;
    empty_in = λ m k. tt;
    ended_sound = λ f e s x y h q. ended f e s x y h q;
  }

-- int main(void) { }
of_nothing : report_of (of_ends (program [] [] stop) usual) 32 100 usual (program [] [] stop) ≡ []
of_nothing = refl
