-- A pass has no state for a way out that the text doesn't have.
use Rattle.std.proofs.Common.{◌≡◌, ◌⊎◌, inl, inr, ℕ, zero, suc, ◌+◌, ◌-◌, ◌&&◌, List, [], refl, sym, subst, Option}
use Rattle.std.proofs.lemmas.Bool.{or_parts}
use Rattle.ep_int.proofs.Basics.{or_false-right}
use Rattle.std.proofs.lemmas.Bool.{and_cases}
use Rattle.std.proofs.Common.{Some, None, Bool, true, false, if◌then◌else◌, slice_get}
use Rattle.ep_int.specs.declared.types.Order.{Order}
use Rattle.ep_core.specs.Program.{Expr, Dest, Simple, nothing, eval, assign, clear, copy_aggregate, copy_bytes, fill}
use Rattle.ep_core.specs.Program.{input, output, read_bytes, write_bytes, returns, What, simple, call, if_else, loop}
use Rattle.ep_core.specs.Program.{break_loop, continue_loop, by_order, scope, Stmts, stop, more, Function, Program}
use Rattle.ep_core.specs.Exec.{Way, on, broken, continued, returned, is_order, result_in, callee_of, frame_of}
use Rattle.ep_core.specs.Runs.{Side, left, right}
use Rattle.ep_core.specs.Ways.{one_way, end_alone, has_way, either_way, then_ways, ways_of_simple, ways_of, ways_of_all}
use Rattle.ep_core.specs.Ways.{Ways as TextWays}
use Rattle.ep_pass.specs.States.{Mode, Both, One, Transfer, Verdict, stuck, same, differs, StateOps}
use Rattle.ep_pass.specs.Pass.{Ways, none, Log, logged, Pass, passed, after, ends, so_far, branch, too_long, jumps}
use Rattle.ep_pass.specs.Pass.{way_of, simple_pass, only_on, only_broken, only_continued, only_returned, join_on}
use Rattle.ep_pass.specs.Pass.{go_on, join_ways, then_pass, rowed, either_pass, leave_call, call_pass, next_pass}
use Rattle.ep_pass.specs.Pass.{body_ends, leave_on, scope_pass, agreed, decided, tested, parted, apart, arm_of}
use Rattle.ep_pass.specs.Pass.{by_order_pass, unrolled, in_body, one_turn, cut_turn, one_rounds, entered, lone}
use Rattle.ep_pass.specs.Pass.{joint_turn, is_stable, next_head, dropped, settled, from_head, tried}
use Rattle.ep_pass.specs.Pass.{joint_rounds, loop_pass, pass, pass_all}
use Rattle.ep_pass.proofs.Reaching.{way, at}
use Rattle.ep_pass.proofs.Tried.{tries, rounds}

-- ---- states that no way comes to

module _ {S : Type 0} (o : StateOps S) where
  join_never : (u v : Option S) → u ≡ None → v ≡ None → join_on o u v ≡ None
  join_never None v p q = q
  join_never (Some s) v p q = absurd cc

  pub branch_never : (k : Way) (u : Option S) (go : S → Pass S) → ((s : S) → at k (go s) ≡ None) → at k (branch u go)
      ≡ None
  branch_never on None go h = refl
  branch_never broken None go h = refl
  branch_never continued None go h = refl
  branch_never returned None go h = refl
  branch_never k (Some s) go h = h s

  either_never : (k : Way) (p q : Pass S) → at k p ≡ None → at k q ≡ None → at k (either_pass o p q) ≡ None
  either_never on p q h i = join_never p.on q.on h i
  either_never broken p q h i = join_never p.ways.broken q.ways.broken h i
  either_never continued p q h i = join_never p.ways.continued q.ways.continued h i
  either_never returned p q h i = join_never p.ways.returned q.ways.returned h i

  ways_never : (k : Way) (v w : Ways S) → way k v ≡ None → way k w ≡ None → way k (join_ways o v w) ≡ None
  ways_never on v w h i = refl
  ways_never broken v w h i = join_never v.broken w.broken h i
  ways_never continued v w h i = join_never v.continued w.continued h i
  ways_never returned v w h i = join_never v.returned w.returned h i

  -- of a pass that other ways were before
  way_of_pass : (k : Way) (p : Pass S) → at k p ≡ None → way k p.ways ≡ None
  way_of_pass on p h = refl
  way_of_pass broken p h = h
  way_of_pass continued p h = h
  way_of_pass returned p h = h

  ended_never : (k : Way) (w : Ways S) (g : Log S) → way k w ≡ None → at k (passed None w g) ≡ None
  ended_never on w g h = refl
  ended_never broken w g h = h
  ended_never continued w g h = h
  ended_never returned w g h = h

  after_never : (k : Way) (g : Log S) (p : Pass S) → at k p ≡ None → at k (after g p) ≡ None
  after_never on g p h = h
  after_never broken g p h = h
  after_never continued g p h = h
  after_never returned g p h = h

  abbrev Rowed : Way → (S → Ways S → Pass S) → Type 0
  Rowed k go = (s : S) (w : Ways S) → way k w ≡ None → at k (go s w) ≡ None

  go_on_never : (k : Way) (u : Option S) (w : Ways S) (g : Log S) (go : S → Ways S → Pass S) → way k w ≡ None
      → Rowed k go → at k (go_on o u w g go) ≡ None
  go_on_never k None w g go h i = ended_never k w g h
  go_on_never k (Some s) w g go h i = after_never k g (go s w) (i s w h)

  then_never : (k : Way) (p : Pass S) (w : Ways S) (go : S → Ways S → Pass S) → way k w ≡ None → way k p.ways ≡ None
      → Rowed k go → at k (then_pass o p w go) ≡ None
  then_never k p w go h i r = go_on_never k p.on (join_ways o w p.ways) p.log go (ways_never k w p.ways h i) r

  stop_never : (k : Way) (p : Pass S) (w : Ways S) (go : S → Ways S → Pass S) → way k w ≡ None → way k p.ways ≡ None
      → p.on ≡ None → at k (then_pass o p w go) ≡ None
  stop_never k p w go h i e = subst (λ u. at k (go_on o u (join_ways o w p.ways) p.log go) ≡ None) (sym e)
      (ended_never k (join_ways o w p.ways) p.log (ways_never k w p.ways h i))

  abbrev Turned : Way → (Ways S → S → Pass S) → Type 0
  Turned k turn = (w : Ways S) (s : S) → way k w ≡ None → way k (turn w s).ways ≡ None

  unrolled_never : (k : Way) (turn last : Ways S → S → Pass S) → Turned k turn → Turned k last → (u : ℕ)
      → Rowed k (unrolled o turn last u)
  unrolled_never k turn last h i zero s w e = ended_never k (last w s).ways (last w s).log (i w s e)
  unrolled_never k turn last h i (suc u) s w e =
      go_on_never k (turn w s).on (turn w s).ways (turn w s).log (unrolled o turn last u) (h w s e)
      (unrolled_never k turn last h i u)

  -- ---- of a decision each way comes from a part
  decided_never : (k : Way) (a : Pass S) → at k a ≡ None → (m : Mode) (v : Verdict) (e : Expr) (p q r t : S → Pass S)
      (s : S) → ((s : S) → at k (p s) ≡ None) → ((s : S) → at k (q s) ≡ None) → ((s : S) → at k (r s) ≡ None)
      → ((s : S) → at k (t s) ≡ None) → at k (decided o a m v e p q r t s) ≡ None
  decided_never k a n m stuck e p q r t s hp hq hr ht = n
  decided_never k a n m same e p q r t s hp hq hr ht =
      let p1 = branch (agreed o m e true s) p in
      either_never k (either_pass o a p1) (branch (agreed o m e false s) t)
      (either_never k a p1 n (branch_never k (agreed o m e true s) p hp)) (branch_never k (agreed o m e false s) t ht)
  decided_never k a n (One m) differs e p q r t s hp hq hr ht =
      let p1 = branch (agreed o (One m) e true s) p in
      either_never k (either_pass o a p1) (branch (agreed o (One m) e false s) t)
      (either_never k a p1 n (branch_never k (agreed o (One m) e true s) p hp))
      (branch_never k (agreed o (One m) e false s) t ht)
  decided_never k a n Both differs e p q r t s hp hq hr ht =
      let p1 = branch (o.assume e true true s) p in
      let p2 = branch (o.assume e true false s) q in
      let p3 = branch (o.assume e false true s) r in
      let p4 = branch (o.assume e false false s) t in
      let a1 = either_pass o a p1 in
      let a2 = either_pass o a1 p2 in
      either_never k (either_pass o a2 p3) p4
      (either_never k a2 p3
      (either_never k a1 p2 (either_never k a p1 n (branch_never k (o.assume e true true s) p hp))
      (branch_never k (o.assume e true false s) q hq)) (branch_never k (o.assume e false true s) r hr))
      (branch_never k (o.assume e false false s) t ht)

  tested_never : (k : Way) (a : Pass S) → at k a ≡ None → (m : Mode) (e : Expr) (l : ℕ) (p q r t : S → Pass S) (s : S)
      → ((s : S) → at k (p s) ≡ None) → ((s : S) → at k (q s) ≡ None) → ((s : S) → at k (r s) ≡ None)
      → ((s : S) → at k (t s) ≡ None)
      → at k (tested o a m e l p q r t s) ≡ None
  tested_never k a n m e l p q r t s hp hq hr ht =
      after_never k (logged _ 0 []) (decided o a m (o.test m e s).verdict e p q r t s)
      (decided_never k a n m (o.test m e s).verdict e p q r t s hp hq hr ht)

  -- where the sides part, a way that goes on is one of the right's arm
  parted_never : (k : Way) (l : ℕ) (p : Pass S) (go : S → Pass S) → ((s : S) → at k (go s) ≡ None)
      → at k (parted o l p go) ≡ None
  parted_never k l p go h =
      let q1 = only_on l (branch p.on go) in
      let q2 = only_broken l (branch p.ways.broken go) in
      let q3 = only_continued l (branch p.ways.continued go) in
      let q4 = only_returned l (branch p.ways.returned go) in
      after_never k p.log (either_pass o (either_pass o (either_pass o q1 q2) q3) q4)
      (either_never k (either_pass o (either_pass o q1 q2) q3) q4
      (either_never k (either_pass o q1 q2) q3 (either_never k q1 q2 (first k h) (second k h)) (third k h))
      (fourth k h))
    where
      first : (k : Way) → ((s : S) → at k (go s) ≡ None) → at k (only_on l (branch p.on go)) ≡ None
      first on h = branch_never on p.on go h
      first broken h = refl
      first continued h = refl
      first returned h = refl

      second : (k : Way) → ((s : S) → at k (go s) ≡ None) → at k (only_broken l (branch p.ways.broken go)) ≡ None
      second on h = refl
      second broken h = branch_never broken p.ways.broken go h
      second continued h = refl
      second returned h = refl

      third : (k : Way) → ((s : S) → at k (go s) ≡ None) → at k (only_continued l (branch p.ways.continued go)) ≡ None
      third on h = refl
      third broken h = refl
      third continued h = branch_never continued p.ways.continued go h
      third returned h = refl

      fourth : (k : Way) → ((s : S) → at k (go s) ≡ None) → at k (only_returned l (branch p.ways.returned go)) ≡ None
      fourth on h = refl
      fourth broken h = refl
      fourth continued h = refl
      fourth returned h = branch_never returned p.ways.returned go h

-- ---- ways by the text

either_has : (k : Way) (x y : TextWays) → has_way (either_way x y) k ≡ false
    → (has_way x k ≡ false) × (has_way y k ≡ false)
either_has on x y e = or_parts x.at_end y.at_end e
either_has broken x y e = or_parts x.by_break y.by_break e
either_has continued x y e = or_parts x.by_continue y.by_continue e
either_has returned x y e = or_parts x.by_return y.by_return e

-- of a row: none of the first's other ways, and it has no end or the rest has no such way
then_has : (k : Way) (x y : TextWays) → has_way (then_ways x y) k ≡ false → (x.at_end ≡ false) ⊎ (has_way y k ≡ false)
then_has on x y e = and_cases x.at_end y.at_end e
then_has broken x y e = and_cases x.at_end y.by_break (or_false-right x.by_break (x.at_end && y.by_break) e)
then_has continued x y e = and_cases x.at_end y.by_continue (or_false-right x.by_continue (x.at_end && y.by_continue) e)
then_has returned x y e = and_cases x.at_end y.by_return (or_false-right x.by_return (x.at_end && y.by_return) e)

module _ {S : Type 0} (o : StateOps S) where
  abbrev pub Only : TextWays → Pass S → Type 0
  Only x p = (k : Way) → has_way x k ≡ false → at k p ≡ None

  abbrev pub OnlyRow : TextWays → (S → Ways S → Pass S) → Type 0
  OnlyRow y go = (k : Way) → has_way y k ≡ false → (s : S) (w : Ways S) → way k w ≡ None → at k (go s w) ≡ None

  first_ways : (k : Way) (x y : TextWays) (p : Pass S) → Only x p → has_way (then_ways x y) k ≡ false
      → way k p.ways ≡ None
  first_ways on x y p h e = refl
  first_ways broken x y p h e = h broken (or_parts x.by_break (x.at_end && y.by_break) e).0
  first_ways continued x y p h e = h continued (or_parts x.by_continue (x.at_end && y.by_continue) e).0
  first_ways returned x y p h e = h returned (or_parts x.by_return (x.at_end && y.by_return) e).0

  row_only : (k : Way) (x y : TextWays) (p : Pass S) (w : Ways S) (go : S → Ways S → Pass S) → Only x p → OnlyRow y go
      → has_way (then_ways x y) k ≡ false → way k w ≡ None → at k (then_pass o p w go) ≡ None
  row_only k x y p w go h i e n = by_case (then_has k x y e)
    where
      by_case : (x.at_end ≡ false) ⊎ (has_way y k ≡ false) → at k (then_pass o p w go) ≡ None
      by_case (inl z) = stop_never o k p w go n (first_ways k x y p h e) (h on z)
      by_case (inr z) = then_never o k p w go n (first_ways k x y p h e) (i k z)

  -- a body and its step part are left by `return` only where the body is
  pub next_returns : (p : Pass S) (next : S → Pass S) → p.ways.returned ≡ None
      → at returned (next_pass o p next) ≡ None
  next_returns p next h = then_never o returned (body_ends o p) none (rowed o next) refl h (λ s w e. e)

  left_never : (m : Mode) (bs : List ℕ) (u : Option S) → u ≡ None → leave_on o m bs u ≡ None
  left_never m bs None e = refl
  left_never m bs (Some s) e = absurd cc

  scope_only : (m : Mode) (bs : List ℕ) (x : TextWays) (p : Pass S) → Only x p → Only x (scope_pass o m bs p)
  scope_only m bs x p h on e = left_never m bs p.on (h on e)
  scope_only m bs x p h broken e = left_never m bs p.ways.broken (h broken e)
  scope_only m bs x p h continued e = left_never m bs p.ways.continued (h continued e)
  scope_only m bs x p h returned e = left_never m bs p.ways.returned (h returned e)

  at_end_only : (l : ℕ) (g : Transfer S) → Only end_alone (simple_pass on l g)
  at_end_only l g on e = absurd cc
  at_end_only l g broken e = refl
  at_end_only l g continued e = refl
  at_end_only l g returned e = refl

  by_return_only : (l : ℕ) (g : Transfer S) → Only (one_way false false false true) (simple_pass returned l g)
  by_return_only l g on e = refl
  by_return_only l g broken e = refl
  by_return_only l g continued e = refl
  by_return_only l g returned e = absurd cc

  simple_only : (w : Simple) (l : ℕ) (g : Transfer S) → Only (ways_of_simple w) (simple_pass (way_of w) l g)
  simple_only nothing l g = at_end_only l g
  simple_only (eval e) l g = at_end_only l g
  simple_only (assign what a e) l g = at_end_only l g
  simple_only (clear a ty) l g = at_end_only l g
  simple_only (copy_aggregate a b ty) l g = at_end_only l g
  simple_only (copy_bytes a b n) l g = at_end_only l g
  simple_only (fill a e n) l g = at_end_only l g
  simple_only (input t d) l g = at_end_only l g
  simple_only (output t e) l g = at_end_only l g
  simple_only (read_bytes e n) l g = at_end_only l g
  simple_only (write_bytes e n) l g = at_end_only l g
  simple_only (returns e) l g = by_return_only l g

  call_never : (k : Way) (f : Function) (m : Mode) (es : List Expr) (d : Option Dest) (l : ℕ) (body : S → Pass S)
      (s : S)
      → way k (none {S = S}) ≡ None → Rowed o k (rowed o (λ s. leave_call o (scope_pass o m (frame_of f) (body s))))
      → Rowed o k (rowed o (λ s. simple_pass on l (o.result m f d s)))
      → way k (simple_pass on l (o.arguments m f es s)).ways ≡ None
      → at k (call_pass o (Some f) m es d l body s) ≡ None
  call_never k f m es d l body s n h i r =
      let a = simple_pass on l (o.arguments m f es s) in
      let go1 = rowed o (λ (s : S). leave_call o (scope_pass o m (frame_of f) (body s))) in
      let p = then_pass o a none go1 in
      then_never o k p none (rowed o (λ (s : S). simple_pass on l (o.result m f d s))) n
      (way_of_pass o k p (then_never o k a none go1 n r h)) i

  call_only : (f : Option Function) (m : Mode) (es : List Expr) (d : Option Dest) (l : ℕ) (body : S → Pass S) (s : S)
      → Only end_alone (call_pass o f m es d l body s)
  call_only None m es d l body s on e = refl
  call_only None m es d l body s broken e = refl
  call_only None m es d l body s continued e = refl
  call_only None m es d l body s returned e = refl
  call_only (Some f) m es d l body s on e = absurd cc
  call_only (Some f) m es d l body s broken e =
      call_never broken f m es d l body s refl (λ s w e. e) (λ s w e. e) refl
  call_only (Some f) m es d l body s continued e =
      call_never continued f m es d l body s refl (λ s w e. e) (λ s w e. e) refl
  call_only (Some f) m es d l body s returned e =
      call_never returned f m es d l body s refl (λ s w e. e) (λ s w e. e) refl

  jump_only : (x : TextWays) (k : Way) (s : S) → has_way x k ≡ true → Only x (jumps k s)
  jump_only x on s h on e = absurd cc
  jump_only x on s h broken e = refl
  jump_only x on s h continued e = refl
  jump_only x on s h returned e = refl
  jump_only x broken s h on e = refl
  jump_only x broken s h broken e = absurd cc
  jump_only x broken s h continued e = refl
  jump_only x broken s h returned e = refl
  jump_only x continued s h on e = refl
  jump_only x continued s h broken e = refl
  jump_only x continued s h continued e = absurd cc
  jump_only x continued s h returned e = refl
  jump_only x returned s h on e = refl
  jump_only x returned s h broken e = refl
  jump_only x returned s h continued e = refl
  jump_only x returned s h returned e = absurd cc

  module _ (u limit : ℕ) where
    -- a loop is left by `return` only where its turns are
    module _ (l : ℕ) (e : Expr) (body : (before : ℕ) → Mode → S → Pass S)
        (never : (m : Mode) (s : S) → at returned (body 0 m s) ≡ None) where
      one_far : (m : Side) → Turned o returned (one_turn o u l e (body 0) m)
      one_far m w s n =
          tested_never o returned (so_far w) n (One m) e l (in_body o u l e (body 0) (One m)) (λ s. ends [])
          (λ s. ends []) (jumps broken) s (never (One m)) (λ s. refl) (λ s. refl) (λ s. refl)

      cut_far : (m : Side) → Turned o returned (cut_turn o u l e (body 0) m)
      cut_far m w s n =
          tested_never o returned (so_far w) n (One m) e l (λ s. ends (too_long l)) (λ s. ends []) (λ s. ends [])
          (jumps broken) s (λ s. refl) (λ s. refl) (λ s. refl) (λ s. refl)

      rounds_far : (m : Side) (j : ℕ) (s : S) (w : Ways S) → w.returned ≡ None
          → at returned (one_rounds o u l e (body 0) m j s w) ≡ None
      rounds_far m j =
          unrolled_never o returned (one_turn o u l e (body 0) m) (cut_turn o u l e (body 0) m) (one_far m)
          (cut_far m) j

      pub entered_far : (m : Side) (j : ℕ) (s : S) → at returned (entered o u l e (body 0) m j s) ≡ None
      entered_far m zero s = refl
      entered_far m (suc j) s =
          then_never o returned (in_body o u l e (body 0) (One m) s) none (one_rounds o u l e (body 0) m j) refl
          (never (One m) s) (rounds_far m j)

      joint_far : Turned o returned (joint_turn o u l e (body 0))
      joint_far w s n =
          tested_never o returned (so_far w) n Both e l (in_body o u l e (body 0) Both)
          (lone o u l e (body 0) left) (lone o u l e (body 0) right) (jumps broken) s (never Both) (λ s. refl)
          (λ s. refl) (λ s. refl)

      settled_far : (w : Ways S) → w.returned ≡ None → (n : ℕ) (h : S)
          → at returned (settled o (joint_turn o u l e (body 0) w) n h) ≡ None
      settled_far w g zero h = joint_far w o.empty g
      settled_far w g (suc n) h =
          let t = joint_turn o u l e (body 0) w in
          by_stable (is_stable o h (t h).on)
          (settled o t n (next_head o h (t h).on))
          (settled_far w g n (next_head o h (t h).on))
        where
          by_stable : (y : Bool) (q : Pass S) → at returned q ≡ None
              → at returned
              (if y then from_head h (joint_turn o u l e (body 0) w h)
              else dropped (joint_turn o u l e (body 0) w h) q) ≡ None
          by_stable true q r = joint_far w h g
          by_stable false q r = r

      both_far : (j : ℕ) (s : S) (w : Ways S) → w.returned ≡ None
          → at returned (joint_rounds o u (tried o limit) l e body j 0 s w) ≡ None
      both_far j s w n =
          subst (λ p. at returned p ≡ None) (sym (rounds o u limit l e body j s w))
          (unrolled_never o returned (joint_turn o u l e (body 0)) (tries o u limit l e body) joint_far
          (λ w s n. settled_far w n (limit - 1) (o.reshared s)) j s w n)

      pub loop_returns : (m : Mode) (first : Bool) (s : S)
          → at returned (loop_pass o u (tried o limit) l e body 0 m first s) ≡ None
      loop_returns Both true s = both_far u s none refl
      loop_returns Both false s =
          then_never o returned (in_body o u l e (body 0) Both s) none (joint_rounds o u (tried o limit) l e body (u - 1) 0) refl
          (never Both s) (both_far (u - 1))
      loop_returns (One m) true s = rounds_far m u s none refl
      loop_returns (One m) false s = entered_far m u s

    loop_only : (l : ℕ) (e : Expr) (body : (before : ℕ) → Mode → S → Pass S) (r : Bool)
        → (r ≡ false → (m : Mode) (s : S) → at returned (body 0 m s) ≡ None) → (m : Mode) (first : Bool) (s : S)
        → Only (one_way true false false r) (loop_pass o u (tried o limit) l e body 0 m first s)
    loop_only l e body r h m first s on z = absurd cc
    loop_only l e body r h Both true s broken z = refl
    loop_only l e body r h Both false s broken z = refl
    loop_only l e body r h (One m) true s broken z = refl
    loop_only l e body r h (One m) false s broken z = refl
    loop_only l e body r h Both true s continued z = refl
    loop_only l e body r h Both false s continued z = refl
    loop_only l e body r h (One m) true s continued z = refl
    loop_only l e body r h (One m) false s continued z = refl
    loop_only l e body r h m first s returned z = loop_returns l e body (h z) m first s

    module _ (ord : Side → Order) (p : Program) (here : ℕ) (ps : ℕ → (before : ℕ) → Mode → S → Pass S) where
      abbrev rows : Stmts → Mode → S → Ways S → Pass S
      rows a n s w = pass_all o u (tried o limit) ord p here ps a 0 n s w

      abbrev arm : Stmts → Mode → S → Pass S
      arm a n s = rows a n s none

      abbrev pub turn_body : Stmts → Stmts → (before : ℕ) → Mode → S → Pass S
      turn_body a b n m s =
          next_pass o (pass_all o u (tried o limit) ord p here ps a n m s none)
          (λ t. pass_all o u (tried o limit) ord p here ps b (n + 0) m t none)

      pub none_at : (k : Way) → way k (none {S = S}) ≡ None
      none_at on = refl
      none_at broken = refl
      none_at continued = refl
      none_at returned = refl

      arm_never : (t : Bool) (a b : Mode → S → Pass S) (k : Way) (m : Mode) (s : S) → at k (a m s) ≡ None
          → at k (b m s) ≡ None → at k (arm_of o t a b m s) ≡ None
      arm_never true a b k m s h i = h
      arm_never false a b k m s h i = i

      order_never : (named : Order) (m : Mode) (l : ℕ) (a b : Mode → S → Pass S) (k : Way) (s : S)
          → ((m : Mode) (s : S) → at k (a m s) ≡ None) → ((m : Mode) (s : S) → at k (b m s) ≡ None)
          → at k (by_order_pass o ord m l named a b s) ≡ None
      order_never named Both l a b k s h i =
          let at_right = is_order (ord right) named in
          parted_never o k l (arm_of o (is_order (ord left) named) a b (One left) s) (arm_of o at_right a b (One right))
          (λ s. arm_never at_right a b k (One right) s (h (One right) s) (i (One right) s))
      order_never named (One m) l a b k s h i =
          arm_never (is_order (ord m) named) a b k (One m) s (h (One m) s) (i (One m) s)

      mutual
        pub pass_only : (w : What) (m : Mode) (l : ℕ) (s : S)
            → Only (ways_of w) (pass o u (tried o limit) ord p here ps w 0 m l s)
        pass_only (simple w) m l s k z = simple_only w l (o.simple m (result_in (slice_get p.functions here)) w s) k z
        pass_only (call f es d) m l s k z = call_only (callee_of p here f) m es d l (ps f 0 m) s k z
        pass_only (if_else e a b) m l s k z =
            let y = either_has k (ways_of_all a) (ways_of_all b) z in
            tested_never o k (ends []) (ended_never o k none (logged [] 0 []) (none_at k)) m e l (arm a m)
            (apart o l (arm a) (arm b)) (apart o l (arm b) (arm a)) (arm b m) s
            (λ s. all_only a m k y.0 s none (none_at k))
            (λ s. parted_never o k l (arm a (One left) s) (arm b (One right))
            (λ s. all_only b (One right) k y.1 s none (none_at k)))
            (λ s. parted_never o k l (arm b (One left) s) (arm a (One right))
            (λ s. all_only a (One right) k y.0 s none (none_at k))) (λ s. all_only b m k y.1 s none (none_at k))
        pass_only (loop first e a b) m l s k z =
            loop_only l e (turn_body a b) (ways_of_all a).by_return
            (λ z m s. next_returns (arm a m s) (arm b m) (all_only a m returned z s none refl)) m first s k z
        pass_only break_loop m l s k z = jump_only (one_way false true false false) broken s refl k z
        pass_only continue_loop m l s k z = jump_only (one_way false false true false) continued s refl k z
        pass_only (by_order named a b) m l s k z =
            let y = either_has k (ways_of_all a) (ways_of_all b) z in
            order_never named m l (arm a) (arm b) k s (λ m s. all_only a m k y.0 s none (none_at k))
            (λ m s. all_only b m k y.1 s none (none_at k))
        pass_only (scope bs a) m l s k z =
            scope_only m bs (ways_of_all a) (arm a m (o.enter m bs s))
            (λ k z. all_only a m k z (o.enter m bs s) none (none_at k)) k z

        pub all_only : (ss : Stmts) (m : Mode) → OnlyRow (ways_of_all ss) (rows ss m)
        all_only stop m k z s w n = stop_only k z n
          where
            stop_only : (k : Way) → has_way end_alone k ≡ false → way k w ≡ None
                → at k (passed (Some s) w (logged [] 0 [])) ≡ None
            stop_only on z n = absurd cc
            stop_only broken z n = n
            stop_only continued z n = n
            stop_only returned z n = n
        all_only (more l a rest) m k z s w n =
            row_only k (ways_of a) (ways_of_all rest) (pass o u (tried o limit) ord p here ps a 0 m l s) w (rows rest m)
            (pass_only a m l s) (all_only rest m) z n
