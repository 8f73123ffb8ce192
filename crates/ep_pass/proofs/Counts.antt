-- A pass goes through bodies at most so often, whatever the operations do.
use Rattle.std.proofs.Common.{◌≡◌, ℕ, zero, suc, ◌+◌, ◌-◌, ◌*◌, ◌≤◌, List, [], refl, sym, subst, Option, Some, None, Bool}
use Rattle.std.proofs.Common.{true, false, if◌then◌else◌, nat_eq, slice_get, arith}
use Rattle.std.proofs.Math.Nat.{suc-mul, zero-mul, add-mul, one-mul, mul-le-mul_right}
use Rattle.ep_int.specs.declared.types.Order.{Order}
use Rattle.ep_core.specs.Program.{Expr, Dest, What, simple, call, if_else, loop, break_loop, continue_loop, by_order}
use Rattle.ep_core.specs.Program.{scope, Stmts, stop, more, Function, Program}
use Rattle.ep_core.specs.Exec.{Way, on, broken, continued, returned, is_order, callee_of, frame_of}
use Rattle.ep_core.specs.Runs.{Side, left, right}
use Rattle.ep_pass.specs.States.{Mode, Both, One, Transfer, Verdict, stuck, same, differs, StateOps}
use Rattle.ep_pass.specs.Pass.{Ways, none, Log, Pass, ends, so_far, branch, too_long, jumps, way_of, simple_pass}
use Rattle.ep_pass.specs.Pass.{go_on, join_ways, then_pass, rowed, leave_call, scope_pass, call_pass, next_pass}
use Rattle.ep_pass.specs.Pass.{body_ends, decided, tested, parted, apart, arm_of, unrolled, in_body, one_turn}
use Rattle.ep_pass.specs.Pass.{cut_turn, one_rounds, entered, lone, joint_turn, is_stable, next_head, dropped}
use Rattle.ep_pass.specs.Pass.{settled, from_head, tried, joint_rounds, loop_pass, pass, pass_all, body_pass}
use Rattle.ep_pass.specs.Pass.{bodies_pass, turns_of}
use Rattle.ep_pass.specs.Turns.{number_of, alone_most, alone_most_all, most, most_all, alone_most_body, most_body}
use Rattle.ep_pass.specs.Turns.{alone_most_before, most_before, most_turns}
use Rattle.ep_pass.proofs.Tried.{tries, rounds}

abbrev pub Within : {S : Type 0} → ℕ → Pass S → Type 0
Within k p = p.log.count ≤ k

module _ {S : Type 0} (o : StateOps S) where
  branch_within : (k : ℕ) (u : Option S) (go : S → Pass S) → ((s : S) → Within k (go s)) → Within k (branch u go)
  branch_within k None go h = omega arith
  branch_within k (Some s) go h = h s

  go_on_within : (k j n : ℕ) (u : Option S) (w : Ways S) (g : Log S) (go : S → Ways S → Pass S) → n ≡ k + j
      → g.count ≤ k → ((s : S) (w : Ways S) → Within j (go s w)) → Within n (go_on o u w g go)
  go_on_within k j n None w g go e h i = omega (arith, e, h)
  go_on_within k j n (Some s) w g go e h i = let r = i s w in omega (arith, e, h, r)

  then_within : (k j n : ℕ) (p : Pass S) (w : Ways S) (go : S → Ways S → Pass S) → n ≡ k + j → Within k p
      → ((s : S) (w : Ways S) → Within j (go s w)) → Within n (then_pass o p w go)
  then_within k j n p w go e h i = go_on_within k j n p.on (join_ways o w p.ways) p.log go e h i

  tested_alone_within : (a : Pass S) → Within 0 a → (m : Side) (e : Expr) (l k j n : ℕ) (p q r t : S → Pass S) (s : S)
      → n ≡ k + j → ((s : S) → Within k (p s)) → ((s : S) → Within j (t s))
      → Within n (tested o a (One m) e l p q r t s)
  tested_alone_within a z m e l k j n p q r t s sum h i = let z =
      by_verdict (o.test (One m) e s).verdict in omega (arith, z)
    where
      by_verdict : (v : Verdict) → Within n (decided o a (One m) v e p q r t s)
      by_verdict stuck = omega (arith, z)
      by_verdict same = let x = branch_within k (o.assume_one m e true s) p h in let y =
          branch_within j (o.assume_one m e false s) t i in omega (arith, sum, x, y, z)
      by_verdict differs = let x = branch_within k (o.assume_one m e true s) p h in let y =
          branch_within j (o.assume_one m e false s) t i in omega (arith, sum, x, y, z)

  tested_within : (f : Pass S) → Within 0 f → (e : Expr) (l a b c d n : ℕ) (p q r t : S → Pass S) (s : S) → n
      ≡ ((a + b) + c) + d → ((s : S) → Within a (p s)) → ((s : S) → Within b (q s)) → ((s : S) → Within c (r s))
      → ((s : S) → Within d (t s))
      → Within n (tested o f Both e l p q r t s)
  tested_within f none e l a b c d n p q r t s sum hp hq hr ht = let z =
      by_verdict (o.test Both e s).verdict in omega (arith, z)
    where
      by_verdict : (v : Verdict) → Within n (decided o f Both v e p q r t s)
      by_verdict stuck = omega (arith, none)
      by_verdict same =
          let x = branch_within a (o.assume e true true s) p hp in
          let y = branch_within d (o.assume e false false s) t ht in
          omega (arith, sum, x, y, none)
      by_verdict differs =
          let x = branch_within a (o.assume e true true s) p hp in
          let y = branch_within b (o.assume e true false s) q hq in
          let z = branch_within c (o.assume e false true s) r hr in
          let w = branch_within d (o.assume e false false s) t ht in
          omega (arith, sum, x, y, z, w, none)

  parted_within : (l k j n : ℕ) (p : Pass S) (go : S → Pass S) → n ≡ k + 4 * j → Within k p
      → ((s : S) → Within j (go s)) → Within n (parted o l p go)
  parted_within l k j n p go sum h i =
      let a = branch_within j p.on go i in
      let b = branch_within j p.ways.broken go i in
      let c = branch_within j p.ways.continued go i in
      let d = branch_within j p.ways.returned go i in
      omega (arith, sum, h, a, b, c, d)

  unrolled_within : (turn last : Ways S → S → Pass S) (k j : ℕ) → ((w : Ways S) (s : S) → Within k (turn w s))
      → ((w : Ways S) (s : S) → Within j (last w s)) → (u n : ℕ) → n ≡ u * k + j → (s : S) (w : Ways S)
      → Within n (unrolled o turn last u s w)
  unrolled_within turn last k j h i zero n sum s w = let z = zero-mul k in let y = i w s in omega (arith, sum, z, y)
  unrolled_within turn last k j h i (suc u) n sum s w =
      let z = suc-mul u k in
      go_on_within k (u * k + j) n (turn w s).on (turn w s).ways (turn w s).log (unrolled o turn last u)
      (omega (arith, sum, z)) (h w s) (unrolled_within turn last k j h i u (u * k + j) refl)

-- ---- sums

if_sum : (a b c d : ℕ) → (a + b) + (5 * c + 5 * d) ≡ ((a + (c + 4 * d)) + (d + 4 * c)) + b
if_sum a b c d = omega arith

while_sum : (u l j : ℕ) → u * j + l * j ≤ (u + (l + 1)) * j
while_sum u l j = let e = add-mul u (l + 1) j in let f = add-mul l 1 j in omega (arith, e, f)

do_sum : (u l j x : ℕ) → x ≤ j → x + ((u - 1) * j + l * j) ≤ (u + (l + 1)) * j
do_sum u l j x h =
    let e = add-mul u (l + 1) j in
    let f = add-mul l 1 j in
    let g = one-mul j in
    let less : u - 1 ≤ u = omega arith in
    let m : (u - 1) * j ≤ u * j = mul-le-mul_right j less in
    omega (arith, e, f, g, h, m)

one_sum : (j : ℕ) → 1 * j ≡ j
one_sum j = one-mul j

-- ---- statements

module _ {S : Type 0} (o : StateOps S) (u limit : ℕ) (some : 1 ≤ limit) where
  module _ (l : ℕ) (e : Expr) (body : (before : ℕ) → Mode → S → Pass S) (k : ℕ)
      (h : (m : Side) (s : S) → Within k (body 0 (One m) s)) where
    in_within : (m : Side) (s : S) → Within (suc k) (in_body o u l e (body 0) (One m) s)
    in_within m s = let z = h m s in omega (arith, z)

    one_within : (m : Side) (w : Ways S) (s : S) → Within (suc k) (one_turn o u l e (body 0) m w s)
    one_within m w s = tested_alone_within o (so_far w) (omega arith) m e l (suc k) 0 (suc k)
        (in_body o u l e (body 0) (One m)) (λ s. ends []) (λ s. ends []) (jumps broken) s (omega arith)
        (in_within m)
        (λ s. omega arith)

    cut_within : (m : Side) (w : Ways S) (s : S) → Within 0 (cut_turn o u l e (body 0) m w s)
    cut_within m w s = tested_alone_within o (so_far w) (omega arith) m e l 0 0 0 (λ s. ends (too_long l))
        (λ s. ends []) (λ s. ends []) (jumps broken) s (omega arith) (λ s. omega arith) (λ s. omega arith)

    rounds_within : (m : Side) (j : ℕ) (s : S) (w : Ways S)
        → Within (j * suc k) (one_rounds o u l e (body 0) m j s w)
    rounds_within m j s w = unrolled_within o (one_turn o u l e (body 0) m) (cut_turn o u l e (body 0) m)
        (suc k) 0
        (one_within m) (cut_within m) j (j * suc k) (omega arith) s w

    entered_within : (m : Side) (j : ℕ) (s : S) → Within (j * suc k) (entered o u l e (body 0) m j s)
    entered_within m zero s = omega arith
    entered_within m (suc j) s = let z =
        suc-mul j (suc k) in then_within o (suc k) (j * suc k) (suc j * suc k) (in_body o u l e (body 0) (One m) s)
        none (one_rounds o u l e (body 0) m j) (omega (arith, z)) (in_within m s) (rounds_within m j)

    loop_alone_within : (m : Side) (first : Bool) (s : S)
        → Within (u * suc k) (loop_pass o u (tried o limit) l e body 0 (One m) first s)
    loop_alone_within m true s = rounds_within m u s none
    loop_alone_within m false s = entered_within m u s

    module _ (b : ℕ) (i : (s : S) → Within b (body 0 Both s)) where
      abbrev j : ℕ
      j = suc (b + 2 * (u * suc k))

      both_within : (s : S) → Within (suc b) (in_body o u l e (body 0) Both s)
      both_within s = let z = i s in omega (arith, z)

      lone_within : (m : Side) (s : S) → Within (u * suc k) (lone o u l e (body 0) m s)
      lone_within m s = let z = entered_within m u s in omega (arith, z)

      turn_within : (w : Ways S) (s : S) → Within j (joint_turn o u l e (body 0) w s)
      turn_within w s =
          tested_within o (so_far w) (omega arith) e l (suc b) (u * suc k) (u * suc k) 0 j
          (in_body o u l e (body 0) Both) (lone o u l e (body 0) left) (lone o u l e (body 0) right)
          (jumps broken) s
          (four (u * suc k)) both_within (lone_within left) (lone_within right) (λ s. omega arith)
        where
          four : (z : ℕ) → suc (b + 2 * z) ≡ ((suc b + z) + z) + 0
          four z = omega arith

      settled_within : (w : Ways S) (n : ℕ) (h : S)
          → Within (suc n * j) (settled o (joint_turn o u l e (body 0) w) n h)
      settled_within w zero h = let z = turn_within w o.empty in let y = one_sum j in omega (arith, z, y)
      settled_within w (suc n) h =
          let t = joint_turn o u l e (body 0) w in
          let g = next_head o h (t h).on in
          by_stable (is_stable o h (t h).on) (settled o t n g)
          (settled_within w n g)
        where
          by_stable : (z : Bool) (q : Pass S) → Within (suc n * j) q
              → Within (suc (suc n) * j)
              (if z then from_head h (joint_turn o u l e (body 0) w h) else dropped
              (joint_turn o u l e (body 0) w h) q)
          by_stable true q r = let z = turn_within w h in let y = suc-mul (suc n) j in omega (arith, z, y)
          by_stable false q r = let z = turn_within w h in let y = suc-mul (suc n) j in omega (arith, z, y, r)

      last_within : (w : Ways S) (s : S) → Within (limit * j) (tries o u limit l e body w s)
      last_within w s =
          let c : suc (limit - 1) ≡ limit = omega (arith, some) in
          subst (λ n. Within (n * j) (tries o u limit l e body w s)) c (settled_within w (limit - 1) (o.reshared s))

      joint_within : (n : ℕ) (s : S) (w : Ways S)
          → Within (n * j + limit * j) (joint_rounds o u (tried o limit) l e body n 0 s w)
      joint_within n s w =
          subst (λ p. Within (n * j + limit * j) p) (sym (rounds o u limit l e body n s w))
          (unrolled_within o (joint_turn o u l e (body 0)) (tries o u limit l e body) j (limit * j) turn_within
          last_within n (n * j + limit * j) refl s w)

      loop_within : (first : Bool) (s : S) → Within ((u + (limit + 1)) * j)
          (loop_pass o u (tried o limit) l e body 0 Both first s)
      loop_within true s = let z = joint_within u s none in let y = while_sum u limit j in omega (arith, z, y)
      loop_within false s =
          let p = in_body o u l e (body 0) Both s in
          let n = (u - 1) * j + limit * j in
          let z = then_within o (suc b) n (suc b + n) p none (joint_rounds o u (tried o limit) l e body (u - 1) 0) refl
          (both_within s) (joint_within (u - 1)) in
          let y = do_sum u limit j (suc b) (omega arith) in
          omega (arith, z, y)

  simple_within : (k : Way) (l : ℕ) (g : Transfer S) → Within 0 (simple_pass k l g)
  simple_within on l g = omega arith
  simple_within broken l g = omega arith
  simple_within continued l g = omega arith
  simple_within returned l g = omega arith

  call_within : (f : Option Function) (m : Mode) (es : List Expr) (d : Option Dest) (l k : ℕ) (body : S → Pass S)
      → ((s : S) → Within k (body s)) → (s : S) → Within k (call_pass o f m es d l body s)
  call_within None m es d l k body h s = omega arith
  call_within (Some f) m es d l k body h s =
      let a = simple_pass on l (o.arguments m f es s) in
      let go1 = rowed o (λ (s : S). leave_call o (scope_pass o m (frame_of f) (body s))) in
      then_within o k 0 k (then_pass o a none go1) none (rowed o (λ (s : S). simple_pass on l (o.result m f d s)))
      (omega arith)
      (then_within o 0 k k a none go1 (omega arith) (simple_within on l (o.arguments m f es s)) (λ s w. h s))
      (λ s w. simple_within on l (o.result m f d s))

  module _ (ord : Side → Order) (p : Program) where
    module _ (here : ℕ) (ps : ℕ → (before : ℕ) → Mode → S → Pass S) (env : ℕ → ℕ)
        (known : (m : Side) (i : ℕ) (s : S) → Within (env i) (ps i 0 (One m) s)) where
      abbrev k1 : Stmts → ℕ
      k1 a = alone_most_all u limit ord p env a

      abbrev rows : Stmts → Mode → S → Ways S → Pass S
      rows a n s w = pass_all o u (tried o limit) ord p here ps a 0 n s w

      abbrev all : Stmts → Mode → S → Pass S
      all a n s = rows a n s none

      abbrev turn_body : Stmts → Stmts → (before : ℕ) → Mode → S → Pass S
      turn_body a b n m s =
          next_pass o (pass_all o u (tried o limit) ord p here ps a n m s none)
          (λ t. pass_all o u (tried o limit) ord p here ps b (n + 0) m t none)

      arm_within : (t : Bool) (m : Side) (a b : Stmts) (s : S) → Within (k1 a) (all a (One m) s)
          → Within (k1 b) (all b (One m) s) → Within (k1 a + k1 b) (arm_of o t (all a) (all b) (One m) s)
      arm_within true m a b s h i = omega (arith, h)
      arm_within false m a b s h i = omega (arith, i)

      next_within : (n : Mode) (x y : ℕ) (a b : Stmts) (s : S) → Within x (all a n s)
          → ((s : S) → Within y (all b n s)) → Within (x + y) (next_pass o (all a n s) (all b n))
      next_within n x y a b s h i =
          then_within o x y (x + y) (body_ends o (all a n s)) none (rowed o (all b n)) refl h (λ s w. i s)

      mutual
        pub alone_within : (w : What) (m : Side) (l : ℕ) (s : S)
            → Within (alone_most u limit ord p env w) (pass o u (tried o limit) ord p here ps w 0 (One m) l s)
        alone_within (simple w) m l s = simple_within (way_of w) l (o.simple (One m) _ w s)
        alone_within (call k es d) m l s =
            call_within (callee_of p here k) (One m) es d l (env k) (ps k 0 (One m)) (known m k) s
        alone_within (if_else e a b) m l s =
            tested_alone_within o (ends []) (omega arith) m e l (k1 a) (k1 b) (k1 a + k1 b) (all a (One m))
            (apart o l (all a) (all b)) (apart o l (all b) (all a)) (all b (One m)) s refl
            (λ s. alone_all_within a m s none) (λ s. alone_all_within b m s none)
        alone_within (loop first e a b) m l s =
            loop_alone_within l e (turn_body a b) (k1 a + k1 b)
            (λ m s. next_within (One m) (k1 a) (k1 b) a b s (alone_all_within a m s none)
            (λ s. alone_all_within b m s none)) m first s
        alone_within break_loop m l s = omega arith
        alone_within continue_loop m l s = omega arith
        alone_within (by_order named a b) m l s =
            arm_within (is_order (ord m) named) m a b s (alone_all_within a m s none) (alone_all_within b m s none)
        alone_within (scope bs a) m l s = alone_all_within a m (o.enter (One m) bs s) none

        pub alone_all_within : (ss : Stmts) (m : Side) (s : S) (w : Ways S)
            → Within (alone_most_all u limit ord p env ss) (pass_all o u (tried o limit) ord p here ps ss 0 (One m) s w)
        alone_all_within stop m s w = omega arith
        alone_all_within (more l a rest) m s w =
            then_within o (alone_most u limit ord p env a) (k1 rest) (alone_most u limit ord p env a + k1 rest)
            (pass o u (tried o limit) ord p here ps a 0 (One m) l s) w (rows rest (One m)) refl (alone_within a m l s)
            (alone_all_within rest m)

      apart_within : (l n : ℕ) (a b : Stmts) (s : S) → n ≡ k1 a + 4 * k1 b → Within n (apart o l (all a) (all b) s)
      apart_within l n a b s sum =
          parted_within o l (k1 a) (k1 b) n (all a (One left) s) (all b (One right)) sum
          (alone_all_within a left s none) (λ s. alone_all_within b right s none)

      -- at most one arm for each side, and the right's from four ways
      order_within : (l : ℕ) (t t' : Bool) (a b : Stmts) (s : S)
          → Within (5 * k1 a + 5 * k1 b) (apart o l (arm_of o t (all a) (all b)) (arm_of o t' (all a) (all b)) s)
      order_within l true true a b s =
          let z = apart_within l (k1 a + 4 * k1 a) a a s refl in omega (arith, z)
      order_within l true false a b s =
          let z = apart_within l (k1 a + 4 * k1 b) a b s refl in omega (arith, z)
      order_within l false true a b s =
          let z = apart_within l (k1 b + 4 * k1 a) b a s refl in omega (arith, z)
      order_within l false false a b s =
          let z = apart_within l (k1 b + 4 * k1 b) b b s refl in omega (arith, z)

      module _ (env2 : ℕ → ℕ) (known2 : (i : ℕ) (s : S) → Within (env2 i) (ps i 0 Both s)) where
        abbrev k2 : Stmts → ℕ
        k2 a = most_all u limit ord p env env2 a

        mutual
          pub pass_within : (w : What) (l : ℕ) (s : S)
              → Within (most u limit ord p env env2 w) (pass o u (tried o limit) ord p here ps w 0 Both l s)
          pass_within (simple w) l s = simple_within (way_of w) l (o.simple Both _ w s)
          pass_within (call k es d) l s =
              call_within (callee_of p here k) Both es d l (env2 k) (ps k 0 Both) (known2 k) s
          pass_within (if_else e a b) l s =
              tested_within o (ends []) (omega arith) e l (k2 a) (k1 a + 4 * k1 b) (k1 b + 4 * k1 a) (k2 b)
              ((k2 a + k2 b) + (5 * k1 a + 5 * k1 b)) (all a Both) (apart o l (all a) (all b))
              (apart o l (all b) (all a)) (all b Both) s (if_sum (k2 a) (k2 b) (k1 a) (k1 b))
              (λ s. all_within a s none) (λ s. apart_within l (k1 a + 4 * k1 b) a b s refl)
              (λ s. apart_within l (k1 b + 4 * k1 a) b a s refl) (λ s. all_within b s none)
          pass_within (loop first e a b) l s =
              loop_within l e (turn_body a b) (k1 a + k1 b)
              (λ m s. next_within (One m) (k1 a) (k1 b) a b s (alone_all_within a m s none)
              (λ s. alone_all_within b m s none)) (k2 a + k2 b)
              (λ s. next_within Both (k2 a) (k2 b) a b s (all_within a s none) (λ s. all_within b s none)) first s
          pass_within break_loop l s = omega arith
          pass_within continue_loop l s = omega arith
          pass_within (by_order named a b) l s =
              order_within l (is_order (ord left) named) (is_order (ord right) named) a b s
          pass_within (scope bs a) l s = all_within a (o.enter Both bs s) none

          pub all_within : (ss : Stmts) (s : S) (w : Ways S)
              → Within (most_all u limit ord p env env2 ss) (pass_all o u (tried o limit) ord p here ps ss 0 Both s w)
          all_within stop s w = omega arith
          all_within (more l a rest) s w =
              then_within o (most u limit ord p env env2 a) (k2 rest) (most u limit ord p env env2 a + k2 rest)
              (pass o u (tried o limit) ord p here ps a 0 Both l s) w (rows rest Both) refl (pass_within a l s)
              (all_within rest)

    -- ---- functions and programs

    body_alone_within : (f : Option Function) (here : ℕ) (ps : ℕ → (before : ℕ) → Mode → S → Pass S) (env : ℕ → ℕ)
        → ((m : Side) (i : ℕ) (s : S) → Within (env i) (ps i 0 (One m) s)) → (m : Side) (s : S)
        → Within (alone_most_body u limit ord p f env) (body_pass o u (tried o limit) ord p f here ps 0 (One m) s)
    body_alone_within None here ps env h m s = omega arith
    body_alone_within (Some f) here ps env h m s = alone_all_within here ps env h f.body m s none

    body_within : (f : Option Function) (here : ℕ) (ps : ℕ → (before : ℕ) → Mode → S → Pass S) (env env2 : ℕ → ℕ)
        → ((m : Side) (i : ℕ) (s : S) → Within (env i) (ps i 0 (One m) s))
        → ((i : ℕ) (s : S) → Within (env2 i) (ps i 0 Both s)) → (s : S)
        → Within (most_body u limit ord p f env env2) (body_pass o u (tried o limit) ord p f here ps 0 Both s)
    body_within None here ps env env2 h i s = omega arith
    body_within (Some f) here ps env env2 h i s = all_within here ps env h env2 i f.body s none

    chosen_within : (t : Bool) (a b : Mode → S → Pass S) (j k : ℕ) (m : Mode) (s : S) → Within j (a m s)
        → Within k (b m s) → Within (number_of t j k) (arm_of o t a b m s)
    chosen_within true a b j k m s h i = h
    chosen_within false a b j k m s h i = i

    abbrev ps_before : ℕ → ℕ → (before : ℕ) → Mode → S → Pass S
    ps_before n = bodies_pass o u (tried o limit) ord p n

    bodies_alone_within : (n : ℕ) (m : Side) (i : ℕ) (s : S)
        → Within (alone_most_before u limit ord p n i) (ps_before n i 0 (One m) s)
    bodies_alone_within zero m i s = omega arith
    bodies_alone_within (suc n) m i s =
        let f = slice_get p.functions n in
        chosen_within (nat_eq i n) (body_pass o u (tried o limit) ord p f n (ps_before n) 0) (ps_before n i 0)
        (alone_most_body u limit ord p f (alone_most_before u limit ord p n)) (alone_most_before u limit ord p n i)
        (One m)
        s (body_alone_within f n (ps_before n) (alone_most_before u limit ord p n) (bodies_alone_within n) m s)
        (bodies_alone_within n m i s)

    bodies_within : (n i : ℕ) (s : S) → Within (most_before u limit ord p n i) (ps_before n i 0 Both s)
    bodies_within zero i s = omega arith
    bodies_within (suc n) i s =
        let f = slice_get p.functions n in
        let env = alone_most_before u limit ord p n in
        let env2 = most_before u limit ord p n in
        chosen_within (nat_eq i n) (body_pass o u (tried o limit) ord p f n (ps_before n) 0) (ps_before n i 0)
        (most_body u limit ord p f env env2) (env2 i) Both s
        (body_within f n (ps_before n) env env2 (bodies_alone_within n) (bodies_within n) s) (bodies_within n i s)

    -- no law is needed
    pub turns_within : turns_of o u limit ord p ≤ most_turns u limit ord p
    turns_within =
        body_within (slice_get p.functions p.main) p.main (ps_before p.main) (alone_most_before u limit ord p p.main)
        (most_before u limit ord p p.main) (bodies_alone_within p.main) (bodies_within p.main) o.entry
