-- A pass of one machine keeps no head, nor does one of both machines where none comes at a joint loop.
use Rattle.std.proofs.Common.{◌≡◌, ℕ, zero, suc, ◌-◌, List, [], ◌++◌, refl, ap, ◌∙◌, Option, Some, None, Bool, true}
use Rattle.std.proofs.Common.{false, nat_eq, slice_get}
use Rattle.ep_int.specs.declared.types.Order.{Order}
use Rattle.ep_core.specs.Program.{Expr, Dest, What, simple, call, if_else, loop, break_loop, continue_loop, by_order}
use Rattle.ep_core.specs.Program.{scope, Stmts, stop, more, Function, Program}
use Rattle.ep_core.specs.Exec.{Way, on, broken, continued, returned, is_order, callee_of, frame_of}
use Rattle.ep_core.specs.Runs.{Side, left, right}
use Rattle.ep_pass.specs.States.{Mode, Both, One, Transfer, Verdict, stuck, same, differs, StateOps}
use Rattle.ep_pass.specs.Pass.{Ways, none, Log, Pass, ends, so_far, branch, too_long, jumps, way_of, simple_pass}
use Rattle.ep_pass.specs.Pass.{only_on, only_broken, only_continued, only_returned, either_pass, go_on, join_ways}
use Rattle.ep_pass.specs.Pass.{then_pass, rowed, leave_call, scope_pass, call_pass, next_pass, body_ends, agreed}
use Rattle.ep_pass.specs.Pass.{decided, tested, parted, apart, arm_of, unrolled, in_body, one_turn}
use Rattle.ep_pass.specs.Pass.{cut_turn, one_rounds, entered, lone, joint_turn, Heads, past, turn_at, joint_rounds}
use Rattle.ep_pass.specs.Pass.{loop_pass, pass, pass_all, body_pass, bodies_pass}

module _ {S : Type 0} (o : StateOps S) where
  abbrev pub IsBare : Pass S → Type 0
  IsBare p = p.log.heads ≡ []

  none_both : (gs hs : List S) → gs ≡ [] → hs ≡ [] → gs ++ hs ≡ []
  none_both gs hs e d = ap (λ z. z ++ hs) e ∙ d

  branch_bare : (u : Option S) (go : S → Pass S) → ((s : S) → IsBare (go s)) → IsBare (branch u go)
  branch_bare None go h = refl
  branch_bare (Some s) go h = h s

  either_bare : (p q : Pass S) → IsBare p → IsBare q → IsBare (either_pass o p q)
  either_bare p q h i = none_both p.log.heads q.log.heads h i

  go_on_bare : (u : Option S) (w : Ways S) (g : Log S) (go : S → Ways S → Pass S) → g.heads ≡ []
      → ((s : S) (w : Ways S) → IsBare (go s w)) → IsBare (go_on o u w g go)
  go_on_bare None w g go h i = h
  go_on_bare (Some s) w g go h i = none_both g.heads (go s w).log.heads h (i s w)

  then_bare : (p : Pass S) (w : Ways S) (go : S → Ways S → Pass S) → IsBare p
      → ((s : S) (w : Ways S) → IsBare (go s w)) → IsBare (then_pass o p w go)
  then_bare p w go h i = go_on_bare p.on (join_ways o w p.ways) p.log go h i

  decided_bare : (a : Pass S) → IsBare a → (m : Mode) (v : Verdict) (e : Expr) (p q r t : S → Pass S) (s : S)
      → ((s : S) → IsBare (p s)) → ((s : S) → IsBare (q s)) → ((s : S) → IsBare (r s)) → ((s : S) → IsBare (t s))
      → IsBare (decided o a m v e p q r t s)
  decided_bare a n m stuck e p q r t s hp hq hr ht = n
  decided_bare a n m same e p q r t s hp hq hr ht =
      let p1 = branch (agreed o m e true s) p in
      either_bare (either_pass o a p1) (branch (agreed o m e false s) t)
      (either_bare a p1 n (branch_bare (agreed o m e true s) p hp)) (branch_bare (agreed o m e false s) t ht)
  decided_bare a n (One m) differs e p q r t s hp hq hr ht =
      let p1 = branch (agreed o (One m) e true s) p in
      either_bare (either_pass o a p1) (branch (agreed o (One m) e false s) t)
      (either_bare a p1 n (branch_bare (agreed o (One m) e true s) p hp))
      (branch_bare (agreed o (One m) e false s) t ht)
  decided_bare a n Both differs e p q r t s hp hq hr ht =
      let p1 = branch (o.assume e true true s) p in
      let p2 = branch (o.assume e true false s) q in
      let p3 = branch (o.assume e false true s) r in
      let p4 = branch (o.assume e false false s) t in
      let a1 = either_pass o a p1 in
      let a2 = either_pass o a1 p2 in
      either_bare (either_pass o a2 p3) p4
      (either_bare a2 p3
      (either_bare a1 p2 (either_bare a p1 n (branch_bare (o.assume e true true s) p hp))
      (branch_bare (o.assume e true false s) q hq)) (branch_bare (o.assume e false true s) r hr))
      (branch_bare (o.assume e false false s) t ht)

  tested_bare : (a : Pass S) → IsBare a → (m : Mode) (e : Expr) (l : ℕ) (p q r t : S → Pass S) (s : S)
      → ((s : S) → IsBare (p s)) → ((s : S) → IsBare (q s)) → ((s : S) → IsBare (r s)) → ((s : S) → IsBare (t s))
      → IsBare (tested o a m e l p q r t s)
  tested_bare a n m e l p q r t s hp hq hr ht = decided_bare a n m (o.test m e s).verdict e p q r t s hp hq hr ht

  parted_bare : (l : ℕ) (p : Pass S) (go : S → Pass S) → IsBare p → ((s : S) → IsBare (go s))
      → IsBare (parted o l p go)
  parted_bare l p go h i =
      let q1 = only_on l (branch p.on go) in
      let q2 = only_broken l (branch p.ways.broken go) in
      let q3 = only_continued l (branch p.ways.continued go) in
      let q4 = only_returned l (branch p.ways.returned go) in
      none_both p.log.heads (either_pass o (either_pass o (either_pass o q1 q2) q3) q4).log.heads h
      (either_bare (either_pass o (either_pass o q1 q2) q3) q4
      (either_bare (either_pass o q1 q2) q3
      (either_bare q1 q2 (none_both (branch p.on go).log.heads [] (branch_bare p.on go i) refl)
      (none_both (branch p.ways.broken go).log.heads [] (branch_bare p.ways.broken go i) refl))
      (none_both (branch p.ways.continued go).log.heads [] (branch_bare p.ways.continued go i) refl))
      (none_both (branch p.ways.returned go).log.heads [] (branch_bare p.ways.returned go i) refl))

  unrolled_bare : (turn last : Ways S → S → Pass S) → ((w : Ways S) (s : S) → IsBare (turn w s))
      → ((w : Ways S) (s : S) → IsBare (last w s)) → (u : ℕ) (s : S) (w : Ways S) → IsBare (unrolled o turn last u s w)
  unrolled_bare turn last h i zero s w = i w s
  unrolled_bare turn last h i (suc u) s w =
      go_on_bare (turn w s).on (turn w s).ways (turn w s).log (unrolled o turn last u) (h w s)
      (unrolled_bare turn last h i u)

  simple_bare : (k : Way) (l : ℕ) (g : Transfer S) → IsBare (simple_pass k l g)
  simple_bare on l g = refl
  simple_bare broken l g = refl
  simple_bare continued l g = refl
  simple_bare returned l g = refl

  call_bare : (f : Option Function) (m : Mode) (es : List Expr) (d : Option Dest) (l : ℕ) (body : S → Pass S)
      → ((s : S) → IsBare (body s)) → (s : S) → IsBare (call_pass o f m es d l body s)
  call_bare None m es d l body h s = refl
  call_bare (Some f) m es d l body h s =
      let a = simple_pass on l (o.arguments m f es s) in
      let go1 = rowed o (λ (s : S). leave_call o (scope_pass o m (frame_of f) (body s))) in
      then_bare (then_pass o a none go1) none (rowed o (λ (s : S). simple_pass on l (o.result m f d s)))
      (then_bare a none go1 (simple_bare on l (o.arguments m f es s)) (λ s w. h s))
      (λ s w. simple_bare on l (o.result m f d s))

  arm_bare : (t : Bool) (a b : Mode → S → Pass S) (m : Mode) (s : S) → IsBare (a m s) → IsBare (b m s)
      → IsBare (arm_of o t a b m s)
  arm_bare true a b m s h i = h
  arm_bare false a b m s h i = i

  module _ (u : ℕ) (heads : Heads S) where
    -- none comes at a joint loop
    abbrev pub AddsNone : Type 0
    AddsNone =
        (n l : ℕ) (turn : (before : ℕ) → S → Pass S) (s : S) → ((n : ℕ) (s : S) → IsBare (turn n s))
        → IsBare (heads.settle n l turn s)

    abbrev pub Allowed : Mode → Type 0
    Allowed Both = AddsNone
    Allowed (One m) = Unit {0}

    -- ---- loops

    module _ (l : ℕ) (e : Expr) (body : (before : ℕ) → Mode → S → Pass S)
        (alone : (n : ℕ) (m : Side) (s : S) → IsBare (body n (One m) s)) where
      one_bare : (n : ℕ) (m : Side) (w : Ways S) (s : S) → IsBare (one_turn o u l e (body n) m w s)
      one_bare n m w s =
          tested_bare (so_far w) refl (One m) e l (in_body o u l e (body n) (One m)) (λ s. ends []) (λ s. ends [])
          (jumps broken) s (alone n m) (λ s. refl) (λ s. refl) (λ s. refl)

      cut_bare : (n : ℕ) (m : Side) (w : Ways S) (s : S) → IsBare (cut_turn o u l e (body n) m w s)
      cut_bare n m w s =
          tested_bare (so_far w) refl (One m) e l (λ s. ends (too_long l)) (λ s. ends []) (λ s. ends []) (jumps broken) s
          (λ s. refl) (λ s. refl) (λ s. refl) (λ s. refl)

      rounds_bare : (n : ℕ) (m : Side) (k : ℕ) (s : S) (w : Ways S) → IsBare (one_rounds o u l e (body n) m k s w)
      rounds_bare n m k s w =
          unrolled_bare (one_turn o u l e (body n) m) (cut_turn o u l e (body n) m) (one_bare n m) (cut_bare n m) k s w

      entered_bare : (n : ℕ) (m : Side) (k : ℕ) (s : S) → IsBare (entered o u l e (body n) m k s)
      entered_bare n m zero s = refl
      entered_bare n m (suc k) s =
          then_bare (in_body o u l e (body n) (One m) s) none (one_rounds o u l e (body n) m k) (alone n m s)
          (rounds_bare n m k)

      lone_bare : (n : ℕ) (m : Side) (s : S) → IsBare (lone o u l e (body n) m s)
      lone_bare n m s = none_both (entered o u l e (body n) m u s).log.heads [] (entered_bare n m u s) refl

      module _ (adds : AddsNone) (both : (n : ℕ) (s : S) → IsBare (body n Both s)) where
        turn_bare : (n : ℕ) (w : Ways S) (s : S) → IsBare (joint_turn o u l e (body n) w s)
        turn_bare n w s =
            tested_bare (so_far w) refl Both e l (in_body o u l e (body n) Both) (lone o u l e (body n) left)
            (lone o u l e (body n) right) (jumps broken) s (both n) (lone_bare n left) (lone_bare n right) (λ s. refl)

        joint_bare : (k n : ℕ) (s : S) (w : Ways S) → IsBare (joint_rounds o u heads l e body k n s w)
        joint_bare zero n s w = adds n l (turn_at o u heads l e body w) s (λ n s. turn_bare n w s)
        joint_bare (suc k) n s w =
            let p = joint_turn o u l e (body n) w s in
            go_on_bare p.on p.ways p.log (joint_rounds o u heads l e body k (past heads n p)) (turn_bare n w s)
            (joint_bare k (past heads n p))

      loop_bare : (n : ℕ) (m : Mode) → Allowed m → ((n : ℕ) (s : S) → IsBare (body n m s)) → (first : Bool) (s : S)
          → IsBare (loop_pass o u heads l e body n m first s)
      loop_bare n Both adds h true s = joint_bare adds h u n s none
      loop_bare n Both adds h false s =
          let p = in_body o u l e (body n) Both s in
          then_bare p none (joint_rounds o u heads l e body (u - 1) (past heads n p)) (h n s)
          (joint_bare adds h (u - 1) (past heads n p))
      loop_bare n (One m) adds h true s = rounds_bare n m u s none
      loop_bare n (One m) adds h false s = entered_bare n m u s

    module _ (ord : Side → Order) (p : Program) where
      -- ---- statements

      module _ (here : ℕ) (ps : ℕ → (before : ℕ) → Mode → S → Pass S)
          (known : (i n : ℕ) (m : Mode) → Allowed m → (s : S) → IsBare (ps i n m s)) where
        abbrev arm : Stmts → (before : ℕ) → Mode → S → Pass S
        arm a n m s = pass_all o u heads ord p here ps a n m s none

        abbrev turn_body : Stmts → Stmts → (before : ℕ) → Mode → S → Pass S
        turn_body a b n m s = next_pass o (arm a n m s) (arm b (past heads n (arm a n m s)) m)

        mutual
          pass_bare : (w : What) (n : ℕ) (m : Mode) → Allowed m → (l : ℕ) (s : S)
              → IsBare (pass o u heads ord p here ps w n m l s)
          pass_bare (simple w) n m ok l s = simple_bare (way_of w) l (o.simple m _ w s)
          pass_bare (call k es d) n m ok l s =
              call_bare (callee_of p here k) m es d l (ps k n m) (known k n m ok) s
          pass_bare (if_else e a b) n m ok l s =
              let k = past heads n (branch (agreed o m e true s) (arm a n m)) in
              tested_bare (ends []) refl m e l (arm a n m) (apart o l (arm a n) (arm b n))
              (apart o l (arm b n) (arm a n)) (arm b k m) s (λ s. all_bare a n m ok s none)
              (λ s. parted_bare l (arm a n (One left) s) (arm b n (One right)) (all_bare a n (One left) tt s none)
              (λ s. all_bare b n (One right) tt s none))
              (λ s. parted_bare l (arm b n (One left) s) (arm a n (One right)) (all_bare b n (One left) tt s none)
              (λ s. all_bare a n (One right) tt s none)) (λ s. all_bare b k m ok s none)
          pass_bare (loop first e a b) n m ok l s =
              loop_bare l e (turn_body a b)
              (λ n m s. then_bare (body_ends o (arm a n (One m) s)) none
              (rowed o (arm b (past heads n (arm a n (One m) s)) (One m))) (all_bare a n (One m) tt s none)
              (λ t w. all_bare b (past heads n (arm a n (One m) s)) (One m) tt t none)) n m ok
              (λ n s. then_bare (body_ends o (arm a n m s)) none (rowed o (arm b (past heads n (arm a n m s)) m))
              (all_bare a n m ok s none) (λ t w. all_bare b (past heads n (arm a n m s)) m ok t none)) first s
          pass_bare break_loop n m ok l s = refl
          pass_bare continue_loop n m ok l s = refl
          pass_bare (by_order named a b) n Both ok l s =
              let at_right = is_order (ord right) named in
              parted_bare l (arm_of o (is_order (ord left) named) (arm a n) (arm b n) (One left) s)
              (arm_of o at_right (arm a n) (arm b n) (One right))
              (arm_bare (is_order (ord left) named) (arm a n) (arm b n) (One left) s
              (all_bare a n (One left) tt s none) (all_bare b n (One left) tt s none))
              (λ s. arm_bare at_right (arm a n) (arm b n) (One right) s (all_bare a n (One right) tt s none)
              (all_bare b n (One right) tt s none))
          pass_bare (by_order named a b) n (One m) ok l s =
              arm_bare (is_order (ord m) named) (arm a n) (arm b n) (One m) s (all_bare a n (One m) tt s none)
              (all_bare b n (One m) tt s none)
          pass_bare (scope bs a) n m ok l s = all_bare a n m ok (o.enter m bs s) none

          pub all_bare : (ss : Stmts) (n : ℕ) (m : Mode) → Allowed m → (s : S) (w : Ways S)
              → IsBare (pass_all o u heads ord p here ps ss n m s w)
          all_bare stop n m ok s w = refl
          all_bare (more l a rest) n m ok s w =
              let q = pass o u heads ord p here ps a n m l s in
              then_bare q w (pass_all o u heads ord p here ps rest (past heads n q) m) (pass_bare a n m ok l s)
              (all_bare rest (past heads n q) m ok)

      -- ---- functions

      pub body_bare : (f : Option Function) (here : ℕ) (ps : ℕ → (before : ℕ) → Mode → S → Pass S)
          → ((i n : ℕ) (m : Mode) → Allowed m → (s : S) → IsBare (ps i n m s)) → (n : ℕ) (m : Mode) → Allowed m
          → (s : S) → IsBare (body_pass o u heads ord p f here ps n m s)
      body_bare None here ps h n m ok s = refl
      body_bare (Some f) here ps h n m ok s = all_bare here ps h f.body n m ok s none

      pub bodies_bare : (f k n : ℕ) (m : Mode) → Allowed m → (s : S) → IsBare (bodies_pass o u heads ord p f k n m s)
      bodies_bare zero k n m ok s = refl
      bodies_bare (suc f) k n m ok s =
          arm_bare (nat_eq k f)
          (body_pass o u heads ord p (slice_get p.functions f) f (bodies_pass o u heads ord p f) n)
          (bodies_pass o u heads ord p f k n) m s
          (body_bare (slice_get p.functions f) f (bodies_pass o u heads ord p f) (bodies_bare f) n m ok s)
          (bodies_bare f k n m ok s)
