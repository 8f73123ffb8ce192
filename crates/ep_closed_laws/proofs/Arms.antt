-- Tests, arms and loops: the passes of both sides follow both runs exactly.
use Rattle.std.proofs.Common.{◌≡◌, ◌⊎◌, inl, inr, ℕ, zero, suc, ◌-◌, ◌≤◌, List, [], ◌∷◌, ◌++◌, refl, sym, subst, ap}
use Rattle.std.proofs.Common.{◌∙◌, Option, Some, None, Bool, true, false, not, slice_get, arith}
use Rattle.ep_int.specs.declared.types.Order.{Order}
use Rattle.ep_int.specs.Memory.{Memory, Found, has, faults}
use Rattle.ep_core.specs.Program.{Expr, Dest, Stmts, Function, Program}
use Rattle.ep_core.specs.Exec.{Output, State, Way, on, broken, continued, returned, Outcome, leaves, running}
use Rattle.ep_core.specs.Exec.{no_input, undefined_at, Going, given, and_then, is_true, code_of_way, listed, either}
use Rattle.ep_core.specs.Exec.{scope_left, arm_left, frame_of, without, value, received, call_of}
use Rattle.ep_core.specs.Runs.{Side, left, right}
use Rattle.ep_core.specs.Ways.{has_way, ways_of_all}
use Rattle.ep_core.specs.WellFormed.{is_tested, result_type, arguments_fit, takes_result}
use Rattle.ep_core.proofs.Grows.{later_refl, Grows, Growing, received_grows}
use Rattle.ep_pass.specs.States.{Mode, Both, One, Verdict, stuck, same, differs, StateOps}
use Rattle.ep_pass.specs.Laws.{passes, IsTruth, Fits}
use Rattle.ep_pass.specs.Places.{may_differ}
use Rattle.ep_pass.specs.Pass.{Ways, none, Log, logged, Pass, ends, branch, found_at, left_by, jumps, simple_pass}
use Rattle.ep_pass.specs.Pass.{then_pass, rowed, either_pass, leave_call, scope_pass, call_pass, comes_after, decided}
use Rattle.ep_pass.specs.Pass.{tested, apart, last_pass, turn_then, in_body, lone, entered, joint_turn, Heads, past}
use Rattle.ep_pass.specs.Pass.{turn_at, last_turns, joint_rounds, loop_pass}
use Rattle.ep_closed_laws.proofs.Enough.{IsKept, AreEnough, enough_most, enough_less, enough_after}
use Rattle.ep_closed_laws.specs.Bounded.{turns_from, tests_from, visit}
use Rattle.ep_pass.proofs.Outcomes.{loop_left}
use Rattle.ep_closed_laws.specs.Exactly.{IsThere, SeenFrom, retold, Exactly}
use Rattle.ep_pass.proofs.Outcomes.{IsPlain, IsCall, run_called, run_called_grows, called_end, call_is, scope_call}
use Rattle.ep_pass.proofs.Differing.{Differ, differ_true, twice_differ, twice_differ_back}
use Rattle.ep_closed_laws.proofs.WaysIn.{IsTurnOf, IsVisitOf, visit_is}
use Rattle.ep_closed_laws.proofs.GrowsIn.{turns_grow, tests_grow, passes_adds, received_adds}
use Rattle.ep_closed_laws.proofs.Alone.{Leaves, as_left, more_left, after_left, mapped, turned_into, either_before}
use Rattle.ep_closed_laws.proofs.Alone.{either_after, branch_left, IsTurnLeft, AloneOf, first_there, second_there}
use Rattle.ep_closed_laws.proofs.Alone.{entered_alone}
use Rattle.ep_core.specs.Exec.{running}
use Rattle.ep_closed_laws.proofs.Both.{BothOf, then_both, turn_both, turn_stays, loop_left_both, leave_call_both}
use Rattle.ep_closed_laws.proofs.Both.{plain_both}
use Rattle.ep_closed_laws.proofs.Rules.{Rule, alike, quiet, Same, Tests, ahead_back, codes_same, code_way}
use Rattle.ep_closed_laws.proofs.BothGiven.{after_both, gives_both, rowed_gives_both, lifted_both, parted_left}
use Rattle.ep_closed_laws.proofs.Codes.{differ_turned, arm_text, IsQuietRule, same_kept, same_quiet, same_listed}
use Rattle.ep_closed_laws.proofs.Codes.{tests_differ, pick, SameIfLeft, turns_more, IsLeftBy}

module _ (p : Program) (ord : Side → Order) {S : Type 0} (o : StateOps S) (K : S → State → State → Type 0)
    (law : Exactly p ord o K) (rule : Rule) (os : List Output) where
  abbrev Of : Pass S → Outcome → Outcome → Type 0
  Of q c d = BothOf o K rule os q c d

  stopped_right : (q : Pass S) (c : Outcome) (l : ℕ) (k : _) (y : State) → Of q c (undefined_at l k y)
  stopped_right q (leaves j n x) l k y = tt
  stopped_right q (running x) l k y = tt
  stopped_right q (no_input x) l k y = tt
  stopped_right q (undefined_at l' j x) l k y = tt

  running_right : (q : Pass S) (c : Outcome) (y : State) → Of q c (running y)
  running_right q (leaves j n x) y = tt
  running_right q (running x) y = tt
  running_right q (no_input x) y = tt
  running_right q (undefined_at l' j x) y = tt

  starved_right : (q : Pass S) (c : Outcome) (y : State) → Of q c (no_input y)
  starved_right q (leaves j n x) y = tt
  starved_right q (running x) y = tt
  starved_right q (no_input x) y = tt
  starved_right q (undefined_at l' j x) y = tt

  pub scope_both : (bs : List ℕ) (q : Pass S) (c d : Outcome) → Of q c d
      → Of (scope_pass o Both bs q) (scope_left bs c) (scope_left bs d)
  scope_both bs q (leaves k n x) (leaves j m y) h = λ a. (
      let r = h (ahead_back rule os x y (without bs x) (without bs y) (later_refl x) (later_refl y) a) in (
        r.0,
        (
          same_kept rule x y (without bs x) (without bs y) refl refl r.1.0,
          turned_into o (λ s. K s x y) (λ s. K s (without bs x) (without bs y)) k k (scope_pass o Both bs) (by_way k) q
              r.1.1,
        ),
      )
      )
    where
      P : S → Type 0
      P s = K s (without bs x) (without bs y)

      by_way : (k : Way) (s : S) (g : Log S) → g.faults ≡ [] → K s x y
          → Leaves P k (scope_pass o Both bs (left_by k (Some s) g))
      by_way on s g e i = as_left o P on (o.leave Both bs s) g e (law.leave_both bs s x y i)
      by_way broken s g e i = as_left o P broken (o.leave Both bs s) g e (law.leave_both bs s x y i)
      by_way continued s g e i = as_left o P continued (o.leave Both bs s) g e (law.leave_both bs s x y i)
      by_way returned s g e i = as_left o P returned (o.leave Both bs s) g e (law.leave_both bs s x y i)
  scope_both bs q (leaves k n x) (running y) h = tt
  scope_both bs q (leaves k n x) (no_input y) h = tt
  scope_both bs q (leaves k n x) (undefined_at l i y) h = tt
  scope_both bs q (running x) d h = tt
  scope_both bs q (no_input x) d h = tt
  scope_both bs q (undefined_at l i x) d h = tt

  -- the sides go apart
  apart_leaves : (pa pb : Mode → S → Pass S) (l : ℕ) (s : S) (k : Way) (n m : ℕ) (x y z : State)
      → AloneOf o K left (pa (One left) s) y (leaves k n x)
      → ((s : S) → K s x y → AloneOf o K right (pb (One right) s) x (leaves k m z))
      → Leaves (λ s. K s x z) k (apart o l pa pb s)
  apart_leaves pa pb l s k n m x y z h i =
      parted_left o K rule os (λ s. K s x y) (λ s. K s x z) k l (pa (One left) s) (pb (One right)) h i

  -- where the texts of the arms have no ways that differ
  abbrev pub WaysAgree : Outcome → Outcome → Type 0
  WaysAgree c d = (k j : Way) → IsLeftBy k c → IsLeftBy j d → k ≡ j

  pub apart_both : (pa pb : Mode → S → Pass S) (l : ℕ) (s : S) (y : State) (c d : Outcome) → WaysAgree c d
      → IsQuietRule rule → AloneOf o K left (pa (One left) s) y c
      → ((s : S) (x : State) → K s x y → AloneOf o K right (pb (One right) s) x d) → Of (apart o l pa pb s) c d
  apart_both pa pb l s y (leaves k n x) (leaves j m z) w r h i = λ a. (
      let e = w k j refl refl in (
        e,
        (
          same_quiet rule x z r,
          apart_leaves pa pb l s k n m x y z h
              (λ s t. subst (λ v. AloneOf o K right (pb (One right) s) x (leaves v m z)) (sym e) (i s x t)),
        ),
      )
      )
  apart_both pa pb l s y (leaves k n x) (running z) w r h i = tt
  apart_both pa pb l s y (leaves k n x) (no_input z) w r h i = tt
  apart_both pa pb l s y (leaves k n x) (undefined_at l' e z) w r h i = tt
  apart_both pa pb l s y (running x) d w r h i = tt
  apart_both pa pb l s y (no_input x) d w r h i = tt
  apart_both pa pb l s y (undefined_at l' e x) d w r h i = tt

  -- what comes of different truths is claimed by the quiet rule alone
  cross : (q : Pass S) (c d : Outcome) (x y : State) (n m a b : ℕ) → (a ≡ b → ⊥) → Same rule x y
      → Grows (listed a x) n c → Grows (listed b y) m d → (IsQuietRule rule → Of q c d) → Of q c d
  cross q (leaves k i r) (leaves j t z) x y n m a b ne s gc gd h = λ w.
      by_rule (tests_differ rule os x y r z a b s gc.0 gd.0 w) w
    where
      by_rule : (a ≡ b) ⊎ IsQuietRule rule → Of q (leaves k i r) (leaves j t z)
      by_rule (inl e) = absurd (ne e)
      by_rule (inr u) = h u
  cross q (leaves k i r) (running z) x y n m a b ne s gc gd h = tt
  cross q (leaves k i r) (no_input z) x y n m a b ne s gc gd h = tt
  cross q (leaves k i r) (undefined_at l e z) x y n m a b ne s gc gd h = tt
  cross q (running r) d x y n m a b ne s gc gd h = tt
  cross q (no_input r) d x y n m a b ne s gc gd h = tt
  cross q (undefined_at l e r) d x y n m a b ne s gc gd h = tt

  -- ---- tests

  module _ (P Q : S → Type 0) (k : Way) (f1 f2 f3 f4 : S → Pass S) where
    abbrev four : Option S → Option S → Option S → Option S → Pass S
    four u1 u2 u3 u4 =
        either_pass o
        (either_pass o (either_pass o (either_pass o (ends []) (branch u1 f1)) (branch u2 f2)) (branch u3 f3))
        (branch u4 f4)

    four_first : (u1 u2 u3 u4 : Option S) → IsThere P u1 → u2 ≡ None → u3 ≡ None → u4 ≡ None
        → ((s : S) → P s → Leaves Q k (f1 s)) → Leaves Q k (four u1 u2 u3 u4)
    four_first u1 None None None h a b c f =
        let q1 = either_pass o (ends []) (branch u1 f1) in
        either_after o Q k (either_pass o (either_pass o q1 (ends [])) (ends []))
        (either_after o Q k (either_pass o q1 (ends []))
        (either_after o Q k q1 (either_before o Q k (branch u1 f1) (branch_left o P Q k u1 f1 h f))))
    four_first u1 (Some s) u3 u4 h a b c f = absurd cc
    four_first u1 None (Some s) u4 h a b c f = absurd cc
    four_first u1 None None (Some s) h a b c f = absurd cc

    four_second : (u1 u2 u3 u4 : Option S) → u1 ≡ None → IsThere P u2 → u3 ≡ None → u4 ≡ None
        → ((s : S) → P s → Leaves Q k (f2 s)) → Leaves Q k (four u1 u2 u3 u4)
    four_second None u2 None None a h b c f =
        let q1 = either_pass o (ends []) (branch u2 f2) in
        either_after o Q k (either_pass o q1 (ends []))
        (either_after o Q k q1 (either_before o Q k (branch u2 f2) (branch_left o P Q k u2 f2 h f)))
    four_second (Some s) u2 u3 u4 a h b c f = absurd cc
    four_second None u2 (Some s) u4 a h b c f = absurd cc
    four_second None u2 None (Some s) a h b c f = absurd cc

    four_third : (u1 u2 u3 u4 : Option S) → u1 ≡ None → u2 ≡ None → IsThere P u3 → u4 ≡ None
        → ((s : S) → P s → Leaves Q k (f3 s)) → Leaves Q k (four u1 u2 u3 u4)
    four_third None None u3 None a b h c f =
        let q1 = either_pass o (ends []) (branch u3 f3) in
        either_after o Q k q1 (either_before o Q k (branch u3 f3) (branch_left o P Q k u3 f3 h f))
    four_third (Some s) u2 u3 u4 a b h c f = absurd cc
    four_third None (Some s) u3 u4 a b h c f = absurd cc
    four_third None None u3 (Some s) a b h c f = absurd cc

    four_fourth : (u1 u2 u3 u4 : Option S) → u1 ≡ None → u2 ≡ None → u3 ≡ None → IsThere P u4
        → ((s : S) → P s → Leaves Q k (f4 s)) → Leaves Q k (four u1 u2 u3 u4)
    four_fourth None None None u4 a b c h f =
        either_before o Q k (branch u4 f4) (branch_left o P Q k u4 f4 h f)
    four_fourth (Some s) u2 u3 u4 a b c h f = absurd cc
    four_fourth None (Some s) u3 u4 a b c h f = absurd cc
    four_fourth None None (Some s) u4 a b c h f = absurd cc

  module _ (l : ℕ) (e : Expr) (seen : List ℕ) (typed : is_tested p.types p.blocks seen e ≡ true) where
    abbrev NotThese : Bool → Bool → S → Type 0
    NotThese t v s = (a b : Bool) → (a ≡ not t) ⊎ (b ≡ not v) → o.assume e a b s ≡ None

    decided_there : (z : Verdict) (t v : Bool) → Fits z t v → (f1 f2 f3 f4 : S → Pass S) (s : S) (P Q : S → Type 0)
        (k : Way) → IsThere P (o.assume e t v s) → NotThese t v s
        → ((s : S) → P s → Leaves Q k (pick t v f1 f2 f3 f4 s))
        → Leaves Q k (decided o (ends []) Both z e f1 f2 f3 f4 s)
    decided_there stuck t v z f1 f2 f3 f4 s P Q k h d f = absurd z
    decided_there same true true z f1 f2 f3 f4 s P Q k h d f =
        first_there o K left P Q k (o.assume e true true s) (o.assume e false false s) f1 f4 h
        (d false false (inl refl)) f
    decided_there same true false z f1 f2 f3 f4 s P Q k h d f = absurd cc
    decided_there same false true z f1 f2 f3 f4 s P Q k h d f = absurd cc
    decided_there same false false z f1 f2 f3 f4 s P Q k h d f =
        second_there o K left P Q k (o.assume e true true s) (o.assume e false false s) f1 f4
        (d true true (inl refl)) h f
    decided_there differs true true z f1 f2 f3 f4 s P Q k h d f =
        four_first P Q k f1 f2 f3 f4 (o.assume e true true s) (o.assume e true false s) (o.assume e false true s)
        (o.assume e false false s) h (d true false (inr refl)) (d false true (inl refl)) (d false false (inl refl)) f
    decided_there differs true false z f1 f2 f3 f4 s P Q k h d f =
        four_second P Q k f1 f2 f3 f4 (o.assume e true true s) (o.assume e true false s) (o.assume e false true s)
        (o.assume e false false s) (d true true (inr refl)) h (d false true (inl refl)) (d false false (inl refl)) f
    decided_there differs false true z f1 f2 f3 f4 s P Q k h d f =
        four_third P Q k f1 f2 f3 f4 (o.assume e true true s) (o.assume e true false s) (o.assume e false true s)
        (o.assume e false false s) (d true true (inl refl)) (d true false (inl refl)) h (d false false (inr refl)) f
    decided_there differs false false z f1 f2 f3 f4 s P Q k h d f =
        four_fourth P Q k f1 f2 f3 f4 (o.assume e true true s) (o.assume e true false s) (o.assume e false true s)
        (o.assume e false false s) (d true true (inl refl)) (d true false (inl refl)) (d false true (inr refl)) h f

    module _ (f1 f2 f3 f4 : S → Pass S) (s : S) (x y : State) (h : K s x y) (t v : Bool)
        (on_left : IsTruth p (ord left) e x.memory t) (on_right : IsTruth p (ord right) e y.memory v) where
      tested_there : (Q : S → Type 0) (k : Way) → ((s : S) → K s x y → Leaves Q k (pick t v f1 f2 f3 f4 s))
          → Leaves Q k (tested o (ends []) Both e l f1 f2 f3 f4 s)
      tested_there Q k f =
          let z = law.test_both e seen typed t v s x y h on_left on_right in
          let a = law.assume_both e seen typed t v s x y h on_left on_right in
          after_left o Q k (logged (found_at l (o.test Both e s).faults) 0 []) (ap (found_at l) z.0)
          (decided o (ends []) Both (o.test Both e s).verdict e f1 f2 f3 f4 s)
          (decided_there (o.test Both e s).verdict t v z.1 f1 f2 f3 f4 s (λ s. K s x y) Q k a.0 a.1 f)

      test_of : (c d : Outcome) → ((s : S) → K s x y → Of (pick t v f1 f2 f3 f4 s) c d)
          → Of (tested o (ends []) Both e l f1 f2 f3 f4 s) c d
      test_of c d f =
          lifted_both o K rule os (λ s. K s x y) (o.assume e t v s)
          (law.assume_both e seen typed t v s x y h on_left on_right).0 (pick t v f1 f2 f3 f4)
          (tested o (ends []) Both e l f1 f2 f3 f4 s) tested_there c d f

    -- by the truths of both machines
    by_tests : (q : Pass S) (f g f' g' : Going) (n m : ℕ) (x y : State)
        → ((t v : Bool) → IsTruth p (ord left) e x.memory t → IsTruth p (ord right) e y.memory v
        → Of q (either t f g n x) (either v f' g' m y))
        → Of q (given (value (ord left) p e x.memory) l x (λ v. either (is_true v) f g n x))
        (given (value (ord right) p e y.memory) l y (λ v. either (is_true v) f' g' m y))
    by_tests q f g f' g' n m x y h =
        by_values (value (ord left) p e x.memory) (value (ord right) p e y.memory) refl refl
      where
        by_values : (v w : Found) → value (ord left) p e x.memory ≡ v → value (ord right) p e y.memory ≡ w
            → Of q (given v l x (λ v. either (is_true v) f g n x)) (given w l y (λ v. either (is_true v) f' g' m y))
        by_values (has v) (has w) d i =
            h (is_true v) (is_true w) (record { found = v; has = d; is = refl })
            (record { found = w; has = i; is = refl })
        by_values (has v) (faults k) d i = stopped_right q (either (is_true v) f g n x) l k y
        by_values (faults k) w d i = tt

    listed_both : (s : S) (x y : State) (a b : ℕ) → K s x y → K s (listed a x) (listed b y)
    listed_both s x y a b h = law.tests_free s x y h _ _ _ _

    -- a conditional of two arms
    pub if_both : (f1 f2 f3 f4 : S → Pass S) (f g f' g' : Going) → Growing f → Growing g → Growing f' → Growing g'
        → (n m : ℕ) (s : S) (x y : State) → K s x y → Same rule x y
        → ((s : S) (x y : State) → K s x y → Same rule x y → Of (f1 s) (f n x) (f' m y))
        → (IsQuietRule rule → (s : S) (x y : State) → K s x y → Of (f2 s) (f n x) (g' m y))
        → (IsQuietRule rule → (s : S) (x y : State) → K s x y → Of (f3 s) (g n x) (f' m y))
        → ((s : S) (x y : State) → K s x y → Same rule x y → Of (f4 s) (g n x) (g' m y))
        → Of (tested o (ends []) Both e l f1 f2 f3 f4 s)
        (given (value (ord left) p e x.memory) l x (λ v. either (is_true v) f g n x))
        (given (value (ord right) p e y.memory) l y (λ v. either (is_true v) f' g' m y))
    if_both f1 f2 f3 f4 f g f' g' gf gg gf' gg' n m s x y h z h1 h2 h3 h4 =
        by_tests (tested o (ends []) Both e l f1 f2 f3 f4 s) f g f' g' n m x y
        (λ t v i j. test_of f1 f2 f3 f4 s x y h t v i j (either t f g n x) (either v f' g' m y)
        (λ s k. by_truths t v s k))
      where
        by_truths : (t v : Bool) (s : S) → K s x y
            → Of (pick t v f1 f2 f3 f4 s) (either t f g n x) (either v f' g' m y)
        by_truths true true s k =
            h1 s (listed 1 x) (listed 1 y) (listed_both s x y 1 1 k) (same_listed rule x y 1 z)
        by_truths true false s k =
            cross (f2 s) (f n (listed 1 x)) (g' m (listed 0 y)) x y n m 1 0 (λ e. absurd cc) z (gf n (listed 1 x))
            (gg' m (listed 0 y))
            (λ r. h2 r s (listed 1 x) (listed 0 y) (listed_both s x y 1 0 k))
        by_truths false true s k =
            cross (f3 s) (g n (listed 0 x)) (f' m (listed 1 y)) x y n m 0 1 (λ e. absurd cc) z (gg n (listed 0 x))
            (gf' m (listed 1 y))
            (λ r. h3 r s (listed 0 x) (listed 1 y) (listed_both s x y 0 1 k))
        by_truths false false s k =
            h4 s (listed 0 x) (listed 0 y) (listed_both s x y 0 0 k) (same_listed rule x y 0 z)

    -- ---- loops

    module _ (u : ℕ) (heads : Heads S) (most : ℕ) (enough : AreEnough o heads most u)
        (body : (before : ℕ) → Mode → S → Pass S) (f : Side → Going) (r : Bool)
        (is_turn : (i : Side) (n : ℕ) (x : State) → IsTurnOf r (f i n x)) (grows : (i : Side) → Growing (f i))
        (known : (before n m : ℕ) (s : S) (x y : State) → K s x y → Same rule x y
        → Of (body before Both s) (f left n x) (f right m y))
        (alone : IsQuietRule rule → (before : ℕ) (i : Side) (n : ℕ) (s : S) (x y : State) → SeenFrom K i s x y
        → AloneOf o K i (body before (One i) s) y (f i n x))
        (stays : IsQuietRule rule → r ≡ false) where
      abbrev test : Side → Memory → Found
      test i = value (ord i) p e

      abbrev turns : Side → ℕ → Going
      turns i k = turns_from (test i) l (f i) k

      abbrev tests : Side → ℕ → Going
      tests i k = tests_from (test i) l (f i) k

      turn_left : (c : Outcome) → IsVisitOf r c → IsTurnLeft c
      turn_left (leaves on n x) h = h
      turn_left (leaves broken n x) h = tt
      turn_left (leaves continued n x) h = h
      turn_left (leaves returned n x) h = tt
      turn_left (running x) h = tt
      turn_left (no_input x) h = tt
      turn_left (undefined_at l k x) h = tt

      turns_left : (i : Side) (k n : ℕ) (x : State) → IsTurnLeft (turns i k n x)
      turns_left i k n x = turn_left (turns i k n x) (visit_is (test i) l (f i) r (is_turn i) false k n x)

      tests_left : (i : Side) (k n : ℕ) (x : State) → IsTurnLeft (tests i k n x)
      tests_left i k n x = turn_left (tests i k n x) (visit_is (test i) l (f i) r (is_turn i) true k n x)

      -- the side that goes on alone comes out by `broken`
      out_left : (q : Pass S) (n m : ℕ) (y : State) (c : Outcome) → IsQuietRule rule → IsVisitOf r c
          → AloneOf o K left q y c → Of (comes_after l q) c (leaves broken m y)
      out_left q n m y (leaves on k x) z v h = absurd v
      out_left q n m y (leaves broken k x) z v h = λ a. (
        refl,
        (
          same_quiet rule x y z,
          mapped o (λ s. K s x y) broken broken (comes_after l)
              (λ s g e i. as_left o (λ s. K s x y) broken s _ (ap (λ gs. gs ++ []) e) i) q h,
        ),
      )
      out_left q n m y (leaves continued k x) z v h = absurd v
      out_left q n m y (leaves returned k x) z v h = let e = stays z in let d : false ≡ true = sym e ∙ v in absurd cc
      out_left q n m y (running x) z v h = tt
      out_left q n m y (no_input x) z v h = tt
      out_left q n m y (undefined_at l' k x) z v h = tt

      out_right : (q : Pass S) (n m : ℕ) (x : State) (d : Outcome) → IsQuietRule rule → IsVisitOf r d
          → AloneOf o K right q x d → Of (comes_after l q) (leaves broken n x) d
      out_right q n m x (leaves on k y) z v h = absurd v
      out_right q n m x (leaves broken k y) z v h = λ a. (
        refl,
        (
          same_quiet rule x y z,
          mapped o (λ s. K s x y) broken broken (comes_after l)
              (λ s g e i. as_left o (λ s. K s x y) broken s _ (ap (λ gs. gs ++ []) e) i) q h,
        ),
      )
      out_right q n m x (leaves continued k y) z v h = absurd v
      out_right q n m x (leaves returned k y) z v h =
          let e = stays z in let d : false ≡ true = sym e ∙ v in absurd cc
      out_right q n m x (running y) z v h = tt
      out_right q n m x (no_input y) z v h = tt
      out_right q n m x (undefined_at l' k y) z v h = tt

      -- with the turns that are left, of those that a lone side has
      fewer_left : (q : Pass S) (d : Outcome) (c c' : Outcome) → SameIfLeft c c' → Of q c' d → Of q c d
      fewer_left q d (leaves k n x) c' e h = subst (λ c. Of q c d) e h
      fewer_left q d (running x) c' e h = tt
      fewer_left q d (no_input x) c' e h = tt
      fewer_left q d (undefined_at l' k x) c' e h = tt

      fewer_right : (q : Pass S) (c : Outcome) (d d' : Outcome) → SameIfLeft d d' → Of q c d' → Of q c d
      fewer_right q c (leaves k n x) d' e h = subst (λ d. Of q c d) e h
      fewer_right q c (running x) d' e h = running_right q c x
      fewer_right q c (no_input x) d' e h = starved_right q c x
      fewer_right q c (undefined_at l' k x) d' e h = stopped_right q c l' k x

      lone_left : (before k : ℕ) → k ≤ most → IsQuietRule rule → (n m : ℕ) (s : S) (x y : State) → K s x y
          → Of (lone o u l e (body before) left s) (turns left k n x) (leaves broken m y)
      lone_left before k le z n m s x y h =
          fewer_left (lone o u l e (body before) left s) (leaves broken m y) (turns left k n x) (turns left most n x)
          (turns_more (test left) l (f left) k most le n x)
          (out_left (entered o u l e (body before) left u s) n m y (turns left most n x) z
          (visit_is (test left) l (f left) r (is_turn left) false most n x)
          (entered_alone p ord o K law left l e seen typed u (body before) (f left) r (is_turn left)
          (alone z before left) u most (enough_most o heads most u enough) n s x y h))

      lone_right : (before k : ℕ) → k ≤ most → IsQuietRule rule → (n m : ℕ) (s : S) (x y : State) → K s x y
          → Of (lone o u l e (body before) right s) (leaves broken n x) (turns right k m y)
      lone_right before k le z n m s x y h =
          fewer_right (lone o u l e (body before) right s) (leaves broken n x) (turns right k m y) (turns right most m y)
          (turns_more (test right) l (f right) k most le m y)
          (out_right (entered o u l e (body before) right u s) n m x (turns right most m y) z
          (visit_is (test right) l (f right) r (is_turn right) false most m y)
          (entered_alone p ord o K law right l e seen typed u (body before) (f right) r (is_turn right)
          (alone z before right) u most (enough_most o heads most u enough) m s y x h))

      inside : (before n m : ℕ) (s : S) (x y : State) → K s x y → Same rule x y
          → Of (in_body o u l e (body before) Both s) (f left n x) (f right m y)
      inside before n m s x y h z =
          after_both o K rule os (logged [] 1 []) refl (body before Both s) (f left n x) (f right m y)
          (known before n m s x y h z)

      jumps_out : (n m : ℕ) (s : S) (x y : State) → K s x y → Same rule x y
          → Of (jumps broken s) (leaves broken n x) (leaves broken m y)
      jumps_out n m s x y h z = λ a. (refl, (z, as_left o (λ s. K s x y) broken s (logged [] 0 []) refl h))

      -- where the last turn comes to the false test
      last_there : IsKept o heads → (before : ℕ) (s : S) (x y : State) → K s x y
          → IsTruth p (ord left) e x.memory false → IsTruth p (ord right) e y.memory false
          → Leaves (λ s. K s (listed 0 x) (listed 0 y)) broken
          (last_pass o (last_turns o u heads l e body before none s))
      last_there keeps before s x y h i j =
          let P : S → Type 0 = λ s. K s (listed 0 x) (listed 0 y) in
          let out : (n : ℕ) → Leaves P broken (joint_turn o u l e (body n) none (o.reshared s))
          = λ n. tested_there (in_body o u l e (body n) Both) (lone o u l e (body n) left)
          (lone o u l e (body n) right) (jumps broken) (o.reshared s) x y (law.reshared s x y h) false false i j P
          broken (λ s k. as_left o P broken s (logged [] 0 []) refl (listed_both s x y 0 0 k)) in
          let last = last_turns o u heads l e body before none s in
          let z = keeps before l (turn_at o u heads l e body none) s (λ n. ap (λ (q : Pass S). q.on) (out n).is) in
          mapped o P broken broken (last_pass o) (λ s g e i. as_left o P broken s g e i) last
          (subst (Leaves P broken) (sym z.is)
          (after_left o P broken z.log z.quiet (joint_turn o u l e (body z.number) none (o.reshared s)) (out z.number)))

      -- both tests are false, or a machine may make no more turns
      turn_ends : (before n m : ℕ) (s : S) (x y : State) → K s x y → Same rule x y → (go : S → Ways S → Pass S)
          → (t v : Bool) → IsTruth p (ord left) e x.memory t → IsTruth p (ord right) e y.memory v
          → Of (turn_then o (joint_turn o u l e (body before) none s) go)
          (either t (turns left zero) (leaves broken) n x) (either v (turns right zero) (leaves broken) m y)
      turn_ends before n m s x y h z go true v i j = tt
      turn_ends before n m s x y h z go false true i j = tt
      turn_ends before n m s x y h z go false false i j =
          let x1 = listed 0 x in
          let y1 = listed 0 y in
          turn_stays o K rule os go (joint_turn o u l e (body before) none s) (leaves broken n x1) (leaves broken m y1)
          tt tt
          (test_of (in_body o u l e (body before) Both) (lone o u l e (body before) left)
          (lone o u l e (body before) right) (jumps broken) s x y h false false i j (leaves broken n x1)
          (leaves broken m y1)
          (λ s q. jumps_out n m s x1 y1 (listed_both s x y 0 0 q) (same_listed rule x y 0 z)))

      rounds_both : (j k : ℕ) → k ≤ most → AreEnough o heads k j → (before n m : ℕ) (s : S) (x y : State) → K s x y
          → Same rule x y → Of (joint_rounds o u heads l e body j before s none) (tests left k n x) (tests right k m y)
      rounds_both zero k le (inl lt) before n m s x y h z = absurd (omega (arith, lt))
      rounds_both zero (suc k) le (inr d) before n m s x y h z = (let c = d.0 in absurd (omega (arith, c)))
      rounds_both zero zero le (inr d) before n m s x y h z =
          by_tests (joint_rounds o u heads l e body zero before s none) (turns left zero) (leaves broken)
          (turns right zero) (leaves broken) n m x y (λ t v i j. by_truths t v i j)
        where
          by_truths : (t v : Bool) → IsTruth p (ord left) e x.memory t → IsTruth p (ord right) e y.memory v
              → Of (joint_rounds o u heads l e body zero before s none) (either t (turns left zero) (leaves broken) n x)
              (either v (turns right zero) (leaves broken) m y)
          by_truths true v i j = tt
          by_truths false true i j = tt
          by_truths false false i j = λ a. (refl, (same_listed rule x y 0 z, last_there d.1 before s x y h i j))
      rounds_both (suc j) zero le more before n m s x y h z =
          by_tests (joint_rounds o u heads l e body (suc j) before s none) (turns left zero) (leaves broken)
          (turns right zero) (leaves broken) n m x y
          (turn_ends before n m s x y h z
          (joint_rounds o u heads l e body j (past heads before (joint_turn o u l e (body before) none s))))
      rounds_both (suc j) (suc k) le more before n m s x y h z =
          by_tests (joint_rounds o u heads l e body (suc j) before s none) (turns left (suc k)) (leaves broken)
          (turns right (suc k)) (leaves broken) n m x y
          (λ t v i j'. by_truths
          (λ n m s x y h z. rounds_both j k (omega (arith, le)) (enough_less o heads k j more)
          (past heads before turn) n m s x y h z) t v i j')
        where
          turn : Pass S
          turn = joint_turn o u l e (body before) none s

          go : S → Ways S → Pass S
          go = joint_rounds o u heads l e body j (past heads before turn)

          of_turn : (t v : Bool) → IsTruth p (ord left) e x.memory t → IsTruth p (ord right) e y.memory v
              → (c d : Outcome)
              → ((s : S) → K s x y
              → Of
              (pick t v (in_body o u l e (body before) Both) (lone o u l e (body before) left)
              (lone o u l e (body before) right) (jumps broken) s) c d)
              → Of turn c d
          of_turn t v i j c d q =
              test_of (in_body o u l e (body before) Both) (lone o u l e (body before) left)
              (lone o u l e (body before) right) (jumps broken) s x y h t v i j c d q

          by_truths : ((n m : ℕ) (s : S) (x y : State) → K s x y → Same rule x y
              → Of (go s none) (tests left k n x) (tests right k m y))
              → (t v : Bool) → IsTruth p (ord left) e x.memory t → IsTruth p (ord right) e y.memory v
              → Of (turn_then o turn go) (either t (turns left (suc k)) (leaves broken) n x)
              (either v (turns right (suc k)) (leaves broken) m y)
          by_truths again true true i j =
              let x1 = listed 1 x in
              let y1 = listed 1 y in
              turn_both o K rule os turn (f left n x1) (f right m y1) go (tests left k) (tests right k)
              (tests_grow (test left) l (f left) (grows left) k) (tests_grow (test right) l (f right) (grows right) k)
              (of_turn true true i j (f left n x1) (f right m y1)
              (λ s q. inside before n m s x1 y1 (listed_both s x y 1 1 q) (same_listed rule x y 1 z))) again
          by_truths again true false i j =
              let x1 = listed 1 x in
              let y1 = listed 0 y in
              turn_stays o K rule os go turn (turns left (suc k) n x1) (leaves broken m y1)
              (turns_left left (suc k) n x1) tt
              (cross turn (turns left (suc k) n x1) (leaves broken m y1) x y n m 1 0 (λ e. absurd cc) z
              (turns_grow (test left) l (f left) (grows left) (suc k) n x1) (later_refl y1, omega arith)
              (λ w. of_turn true false i j (turns left (suc k) n x1) (leaves broken m y1)
              (λ s q. lone_left before (suc k) le w n m s x1 y1 (listed_both s x y 1 0 q))))
          by_truths again false true i j =
              let x1 = listed 0 x in
              let y1 = listed 1 y in
              turn_stays o K rule os go turn (leaves broken n x1) (turns right (suc k) m y1) tt
              (turns_left right (suc k) m y1)
              (cross turn (leaves broken n x1) (turns right (suc k) m y1) x y n m 0 1 (λ e. absurd cc) z
              (later_refl x1, omega arith) (turns_grow (test right) l (f right) (grows right) (suc k) m y1)
              (λ w. of_turn false true i j (leaves broken n x1) (turns right (suc k) m y1)
              (λ s q. lone_right before (suc k) le w n m s x1 y1 (listed_both s x y 0 1 q))))
          by_truths again false false i j =
              let x1 = listed 0 x in
              let y1 = listed 0 y in
              turn_stays o K rule os go turn (leaves broken n x1) (leaves broken m y1) tt tt
              (of_turn false false i j (leaves broken n x1) (leaves broken m y1)
              (λ s q. jumps_out n m s x1 y1 (listed_both s x y 0 0 q) (same_listed rule x y 0 z)))

      do_both : (k : ℕ) → k ≤ most → AreEnough o heads k u → (before n m : ℕ) (s : S) (x y : State) → K s x y
          → Same rule x y
          → Of
          (then_pass o (in_body o u l e (body before) Both s) none
          (joint_rounds o u heads l e body (u - 1) (past heads before (in_body o u l e (body before) Both s))))
          (turns left k n x) (turns right k m y)
      do_both zero le more before n m s x y h z = tt
      do_both (suc k) le more before n m s x y h z =
          let first = in_body o u l e (body before) Both s in
          then_both o K rule os first (f left n x) (f right m y)
          (joint_rounds o u heads l e body (u - 1) (past heads before first)) (tests left k) (tests right k)
          (tests_grow (test left) l (f left) (grows left) k) (tests_grow (test right) l (f right) (grows right) k)
          (inside before n m s x y h z)
          (λ n m s x y h z. rounds_both (u - 1) k (omega (arith, le)) (enough_after o heads k u more)
          (past heads before first) n m s x y h z)

      pub loop_both : (before : ℕ) (first : Bool) (n m : ℕ) (s : S) (x y : State) → K s x y → Same rule x y
          → Of (loop_pass o u heads l e body before Both first s)
          (loop_left (visit (test left) l (f left) first most n x))
          (loop_left (visit (test right) l (f right) first most m y))
      loop_both before true n m s x y h z =
          loop_left_both o K rule os (joint_rounds o u heads l e body u before s none) (tests left most n x)
          (tests right most m y) (tests_left left most n x) (tests_left right most m y)
          (rounds_both u most (omega arith) enough before n m s x y h z)
      loop_both before false n m s x y h z =
          let first = in_body o u l e (body before) Both s in
          loop_left_both o K rule os
          (then_pass o first none (joint_rounds o u heads l e body (u - 1) (past heads before first)))
          (turns left most n x) (turns right most m y) (turns_left left most n x) (turns_left right most m y)
          (do_both most (omega arith) enough before n m s x y h z)

  -- ---- statements

  pub arms_agree : (a b : Stmts) → may_differ (ways_of_all a) (ways_of_all b) ≡ false → (t v : Bool) (k j : Way)
      → Differ k j → has_way (ways_of_all (arm_text t a b)) k ≡ true
      → has_way (ways_of_all (arm_text v a b)) j ≡ true → ⊥
  arms_agree a b h true true k j d e f =
      let z = twice_differ a b k j d e f in let y : false ≡ true = sym h ∙ z in absurd cc
  arms_agree a b h true false k j d e f =
      let z = differ_true (ways_of_all a) (ways_of_all b) k j d e f in
      let y : false ≡ true = sym h ∙ z in
      absurd cc
  arms_agree a b h false true k j d e f =
      let z = differ_true (ways_of_all a) (ways_of_all b) j k (differ_turned k j d) f e in
      let y : false ≡ true = sym h ∙ z in
      absurd cc
  arms_agree a b h false false k j d e f =
      let z = twice_differ_back a b k j d e f in let y : false ≡ true = sym h ∙ z in absurd cc

  pub call_both : (k : ℕ) (f : Function) → slice_get p.functions k ≡ Some f → (es : List Expr) (d : Option Dest)
      (seen : List ℕ) → arguments_fit p.types p.blocks seen f.params es ≡ true
      → takes_result p.types p.blocks seen (result_type p.blocks f.result) d ≡ true
      → (l : ℕ) (go : S → Pass S) (body : Side → Going) → ((i : Side) → Growing (body i))
      → ((n m : ℕ) (s : S) (x y : State) → K s x y → Same rule x y → Of (go s) (body left n x) (body right m y))
      → ((i : Side) (n : ℕ) (x : State) → IsCall (body i n x)) → (n m : ℕ) (s : S) (x y : State) → K s x y
      → Same rule x y
      → Of (call_pass o (Some f) Both es d l go s) (call_of (ord left) p (Some f) (body left) es d l n x)
      (call_of (ord right) p (Some f) (body right) es d l m y)
  call_both k f at es d seen fits takes l go body grows known calls n m s x y h z =
      subst (λ c. Of whole c (call_of (ord right) p (Some f) (body right) es d l m y))
      (sym (call_is (ord left) p f (body left) es d l n x))
      (subst (λ w. Of whole (row left n x) w) (sym (call_is (ord right) p f (body right) es d l m y))
      (then_both o K rule os (then_pass o (simple_pass on l (o.arguments Both f es s)) none (rowed o middle))
      (and_then (passes (ord left) p f es l n x) (run_called f (body left)))
      (and_then (passes (ord right) p f es l m y) (run_called f (body right)))
      (rowed o (λ s. simple_pass on l (o.result Both f d s))) (received (ord left) p f.result d l)
      (received (ord right) p f.result d l) (received_grows (ord left) p f.result d l)
      (received_grows (ord right) p f.result d l)
      (then_both o K rule os (simple_pass on l (o.arguments Both f es s)) (passes (ord left) p f es l n x)
      (passes (ord right) p f es l m y) (rowed o middle) (run_called f (body left)) (run_called f (body right))
      (run_called_grows f (body left) (grows left)) (run_called_grows f (body right) (grows right))
      (gives_both o K rule os on l (o.arguments Both f es s) 0 x y (passes (ord left) p f es l n x)
      (passes (ord right) p f es l m y) (law.same_outputs s x y h) z (passes_adds (ord left) p f es l n x)
      (passes_adds (ord right) p f es l m y) (law.arguments_both k f at es seen fits l n m s x y h))
      (λ n m s x y h z. plain_both o K rule os (middle s) (run_called f (body left) n x) (run_called f
      (body right) m y)
      (end_plain (scope_left (frame_of f) (body left n x))) (end_plain (scope_left (frame_of f) (body right m y)))
      (middle_both n m s x y h z)))
      (λ n m s x y h z. rowed_gives_both o K rule os (λ s. o.result Both f d s) l s 0 x y
      (received (ord left) p f.result d l n x) (received (ord right) p f.result d l m y) (law.same_outputs s x y h) z
      (received_adds (ord left) p f.result d l n x) (received_adds (ord right) p f.result d l m y)
      (law.result_both k f at d seen takes l n m s x y h))))
    where
      whole : Pass S
      whole = call_pass o (Some f) Both es d l go s

      row : Side → Going
      row i n x =
          and_then (and_then (passes (ord i) p f es l n x) (run_called f (body i))) (received (ord i) p f.result d l)

      middle : S → Pass S
      middle s = leave_call o (scope_pass o Both (frame_of f) (go s))

      end_plain : (c : Outcome) → IsPlain (called_end c)
      end_plain (leaves k n x) = tt
      end_plain (running x) = tt
      end_plain (no_input x) = tt
      end_plain (undefined_at l k x) = tt

      middle_both : (n m : ℕ) (s : S) (x y : State) → K s x y → Same rule x y
          → Of (middle s) (run_called f (body left) n x) (run_called f (body right) m y)
      middle_both n m s x y h z =
          leave_call_both o K rule os (scope_pass o Both (frame_of f) (go s))
          (scope_left (frame_of f) (body left n x))
          (scope_left (frame_of f) (body right m y)) (scope_call (frame_of f) (body left n x) (calls left n x))
          (scope_call (frame_of f) (body right m y) (calls right m y))
          (scope_both (frame_of f) (go s) (body left n x) (body right m y) (known n m s x y h z))

  -- arms of a byte-order conditional: the ways are listed
  pub arms_both : (pa pb : Mode → S → Pass S) (l : ℕ) (s : S) (x y : State) (c d : Outcome) → Same rule x y
      → (IsQuietRule rule → WaysAgree c d) → AloneOf o K left (pa (One left) s) y c
      → ((s : S) (r : State) → K s r y → AloneOf o K right (pb (One right) s) r d)
      → Of (apart o l pa pb s) (arm_left x.joint_tests c) (arm_left y.joint_tests d)
  arms_both pa pb l s x y (leaves k n r) (leaves j m q) z w h i = λ a.
      by_same (same_code rule z (λ v. w v k j refl refl) a.0.1 a.1.1)
    where
      listed_way : Way → State → List ℕ → State
      listed_way k r js = retold (r.tests ++ code_of_way k ∷ []) (js ++ code_of_way k ∷ []) r

      same_code : (rule : Rule) → Same rule x y → (IsQuietRule rule → k ≡ j)
          → Tests rule (listed_way k r x.joint_tests) → Tests rule (listed_way j q y.joint_tests) → k ≡ j
      same_code (alike fs) z v b c =
          code_way k j (codes_same x.joint_tests y.joint_tests fs (code_of_way k) (code_of_way j) z b c)
      same_code quiet z v b c = v tt

      same_after_arm : (rule : Rule) → k ≡ j → Same rule x y
          → Same rule (listed_way k r x.joint_tests) (listed_way j q y.joint_tests)
      same_after_arm (alike fs) e z =
          ap (λ (xs : List ℕ). xs ++ code_of_way k ∷ []) z ∙ ap (λ (i : Way). y.joint_tests ++ code_of_way i ∷ []) e
      same_after_arm quiet e z = tt

      by_same : k ≡ j → (k ≡ j)
          × (Same rule (listed_way k r x.joint_tests) (listed_way j q y.joint_tests)
          × Leaves (λ s. K s (listed_way k r x.joint_tests) (listed_way j q y.joint_tests)) k (apart o l pa pb s))
      by_same e = (
        e,
        (
          same_after_arm rule e z,
          more_left o (λ s. K s r q) (λ s. K s (listed_way k r x.joint_tests) (listed_way j q y.joint_tests)) k
              (apart o l pa pb s) (λ s t. law.tests_free s r q t _ _ _ _)
              (apart_leaves pa pb l s k n m r y q h
              (λ s t. subst (λ v. AloneOf o K right (pb (One right) s) r (leaves v m q)) (sym e) (i s r t))),
        ),
      )
  arms_both pa pb l s x y (leaves k n r) (running q) z w h i = tt
  arms_both pa pb l s x y (leaves k n r) (no_input q) z w h i = tt
  arms_both pa pb l s x y (leaves k n r) (undefined_at l' e q) z w h i = tt
  arms_both pa pb l s x y (running r) d z w h i = tt
  arms_both pa pb l s x y (no_input r) d z w h i = tt
  arms_both pa pb l s x y (undefined_at l' e r) d z w h i = tt
