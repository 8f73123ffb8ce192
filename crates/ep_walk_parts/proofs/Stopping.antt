-- Where memory runs out in a part of a pass, no more was counted than the whole pass counts.
use Rattle.std.proofs.Common.{◌≡◌, ℕ, suc, ◌+◌, ◌-◌, ◌*◌, ◌<◌, ◌≤◌, Bool, true, false, List, length, get_or, drop}
use Rattle.ep_int.proofs.Basics.{le-plus}
use Rattle.std.proofs.Common.{sym, ap, ◌∙◌, subst, arith, Option, Some, None, Result, Ok, Err, IsErrAnd}
use Rattle.std.proofs.Common.{if◌then◌else◌}
use Rattle.ep_int.specs.declared.types.Memory.{Memory}
use Rattle.ep_int.specs.declared.types.Order.{Order}
use Rattle.ep_core.specs.declared.tree.Stmt.{Stmt}
use Rattle.ep_core.specs.Program.{Program}
use Rattle.ep_core.specs.Runs.{Side}
use Rattle.ep_core.specs.View.{what_view, stmts_view}
use Rattle.ep_pass.specs.States.{Mode, Both, One, StateOps}
use Rattle.ep_pass.specs.Pass.{Ways, none, Log, Pass, branch, join_on, join_ways, either_pass, go_on, then_pass}
use Rattle.ep_pass.specs.Pass.{turn_then, rowed, next_pass, parted, unrolled, from_head, dropped, is_stable}
use Rattle.ep_pass.specs.Pass.{next_head}
use Rattle.ep_pass.proofs.Tried.{whiles, dos}
use Rattle.ep_flows.specs.View.{Told, HasPassed, Passes, CountsUpTo, capped, ways_view, flow_view, Plan}
use Rattle.ep_flows.specs.declared.flow.Flow.{Flow}
use Rattle.ep_flows.specs.declared.heads.Rounds.{Rounds}
use Rattle.ep_flows.proofs.Combined.{Leads}
use Rattle.ep_flows.proofs.Counting.{both_count, leads_count, more_count, same_count, told_count}
use Rattle.ep_walk_parts.specs.Pieces.{Loop, o, all, one, alone_of, begun_of, body_at, entered_of, loop_pass_of}
use Rattle.ep_walk_parts.specs.Pieces.{rounds_of, settled_of, turn_of, turned}
use Rattle.ep_walk_parts.proofs.Heading.{GoesIn}
use Rattle.ep_walk_parts.proofs.Rows.{drop_next}

-- ---- numbers

pub still_count : (k a b d : ℕ) → CountsUpTo k a b → CountsUpTo 0 b d → CountsUpTo k a d
still_count k a b d h i = let x = h.bound in let y = i.bound in record { bound = omega (arith, x, y) }

-- the exit of an error
pub err_passes : {S : Type 0} (p : Pass S) (x : Result (Flow S) Memory) (Q : Memory → Type 0) (old new : Told S)
    → IsErrAnd x Q → CountsUpTo p.log.count old.count new.count → Passes p x old new
err_passes p (Ok f) Q old new e h = absurd e
err_passes p (Err y) Q old new e h = h

module _ {S : Type 0} where
  branch_is : (u v : Option S) (go : S → Pass S) → u ≡ v → (branch u go).log.count ≡ (branch v go).log.count
  branch_is u v go e = ap (λ z. (branch z go).log.count) e

  -- ---- truths of a test, one after the other

  module _ (p : StateOps S) (a : Pass S) (v1 v2 v3 v4 : Option S) (g1 g2 g3 g4 : S → Pass S) where
    abbrev one_way : Pass S
    one_way = either_pass p a (branch v1 g1)

    abbrev two_of : Pass S
    two_of = either_pass p one_way (branch v2 g2)

    abbrev three_of : Pass S
    three_of = either_pass p two_of (branch v3 g3)

    abbrev four_of : Pass S
    four_of = either_pass p three_of (branch v4 g4)

    module _ (x y : ℕ) where
      pub two_stop : CountsUpTo one_way.log.count x y → CountsUpTo two_of.log.count x y
      two_stop h = more_count one_way.log.count two_of.log.count x y (le-plus one_way.log.count
          (branch v2 g2).log.count) h

      pub four_stop_three : CountsUpTo three_of.log.count x y → CountsUpTo four_of.log.count x y
      four_stop_three h = more_count three_of.log.count four_of.log.count x y (le-plus three_of.log.count
          (branch v4 g4).log.count) h

      pub four_stop_two : CountsUpTo two_of.log.count x y → CountsUpTo four_of.log.count x y
      four_stop_two h = four_stop_three (more_count two_of.log.count three_of.log.count x y (le-plus
          two_of.log.count (branch v3 g3).log.count) h)

      pub four_stop_one : CountsUpTo one_way.log.count x y → CountsUpTo four_of.log.count x y
      four_stop_one h = four_stop_two (two_stop h)

  -- what follows a pair of truths, joined to what came before
  pub next_way : (p : StateOps S) (f : Flow S) (a : Pass S) (u v : Option S) (go : S → Pass S) (x y n : ℕ) → u ≡ v
      → CountsUpTo a.log.count x y → CountsUpTo (either_pass p (flow_view f) (branch u go)).log.count y n
      → CountsUpTo (either_pass p a (branch v go)).log.count x n
  next_way p f a u v go x y n e h i =
      subst (λ k. CountsUpTo (a.log.count + k) x n) (branch_is u v go e)
      (sums a.log.count (branch u go).log.count h i)
    where
      sums : (k m : ℕ) → CountsUpTo k x y → CountsUpTo (0 + m) y n → CountsUpTo (k + m) x n
      sums k m h i = let s = h.bound in let t = i.bound in record { bound = omega (arith, s, t) }

  pub first_way : (p : StateOps S) (a : Pass S) (u v : Option S) (go : S → Pass S) (x y : ℕ) → u ≡ v
      → CountsUpTo (either_pass p a (branch u go)).log.count x y
      → CountsUpTo (either_pass p a (branch v go)).log.count x y
  first_way p a u v go x y e h = subst (λ k. CountsUpTo (a.log.count + k) x y) (branch_is u v go e) h

  pub joined_stops : (p : StateOps S) (f : Flow S) (a : Pass S) (x y : ℕ) → CountsUpTo a.log.count x y
      → CountsUpTo (either_pass p (flow_view f) a).log.count x y
  joined_stops p f a x y h = more_count a.log.count (0 + a.log.count) x y (omega arith) h

  -- ---- what follows the end of a pass

  pub goes_count : (p : StateOps S) (u : Option S) (w : Ways S) (g : Log S) (go : S → Ways S → Pass S)
      → g.count ≤ (go_on p u w g go).log.count
  goes_count p None w g go = omega arith
  goes_count p (Some s) w g go = le-plus g.count (go s w).log.count

  pub then_stops : (p : StateOps S) (a : Pass S) (w : Ways S) (go : S → Ways S → Pass S) (x y : ℕ)
      → CountsUpTo a.log.count x y → CountsUpTo (then_pass p a w go).log.count x y
  then_stops p a w go x y h = more_count a.log.count (then_pass p a w go).log.count x y
      (goes_count p a.on (join_ways p w a.ways) a.log go) h

  -- ---- the body of a loop, once, and its step part

  module _ (p : StateOps S) (a : Pass S) (next : S → Pass S) (x t : Told S) (n : ℕ) where
    abbrev body_whole : ℕ
    body_whole = 1 + (next_pass p a next).log.count

    pub body_stops : CountsUpTo 1 x.count t.count → CountsUpTo a.log.count t.count n → CountsUpTo body_whole x.count n
    body_stops h i =
        more_count (1 + a.log.count) body_whole x.count n
        (plus a.log.count (next_pass p a next).log.count (goes_count p (join_on p a.ways.continued a.on) (record {
          broken = a.ways.broken;
          continued = None;
          returned = a.ways.returned;
        }) a.log (rowed p next)))
        (both_count 1 a.log.count x.count t.count n h i)
      where
        plus : (k m : ℕ) → k ≤ m → 1 + k ≤ 1 + m
        plus k m e = omega (arith, e)

    -- in the step part
    pub next_stops : (f : Flow S) (mid : Told S) (ended : Option S) → CountsUpTo 1 x.count t.count → HasPassed a f t mid
        → ended ≡ join_on p (ways_view f.ways).continued f.on
        → CountsUpTo (branch ended next).log.count mid.count n → CountsUpTo body_whole x.count n
    next_stops f mid ended h k e i =
        let is : ended ≡ join_on p a.ways.continued a.on = e ∙ ap (λ (z : Ways S). join_on p z.continued f.on) k.ways
        ∙ ap (join_on p a.ways.continued) k.on in
        let i' = subst (λ z. CountsUpTo z mid.count n) (branch_is ended (join_on p a.ways.continued a.on) next is) i in
        let both = both_count 1 (a.log.count + (branch (join_on p a.ways.continued a.on) next).log.count) x.count
        t.count n h (both_count a.log.count (branch (join_on p a.ways.continued a.on) next).log.count t.count mid.count
        n (told_count a.log t mid k.log) i') in
        more_count (1 + (a.log.count + (branch (join_on p a.ways.continued a.on) next).log.count)) body_whole x.count n
        (each (join_on p a.ways.continued a.on)) both
      where
        each : (u : Option S) → 1 + (a.log.count + (branch u next).log.count) ≤ 1 + (go_on p u (record {
          broken = a.ways.broken;
          continued = None;
          returned = a.ways.returned;
        }) a.log (rowed p next)).log.count
        each None = omega arith
        each (Some s) = omega arith

  -- ---- the sides go different ways

  pub apart_none : (p : StateOps S) (l : ℕ) (a : Pass S) (go : S → Pass S) (x n : ℕ) → CountsUpTo a.log.count x n
      → CountsUpTo (parted p l a go).log.count x n
  apart_none p l a go x n i = more_count a.log.count (parted p l a go).log.count x n (sums a.log.count
      (branch a.on go).log.count (branch a.ways.broken go).log.count (branch a.ways.continued go).log.count
      (branch a.ways.returned go).log.count) i
    where
      sums : (k r1 r2 r3 r4 : ℕ) → k ≤ k + ((((r1 + 0) + (r2 + 0)) + (r3 + 0)) + (r4 + 0))
      sums k r1 r2 r3 r4 = omega arith

  module _ (p : StateOps S) (l : ℕ) (a : Pass S) (go : S → Pass S) (f : Flow S) (old one : Told S)
      (h : HasPassed a f old one) where
    abbrev apart_whole : ℕ
    apart_whole = (parted p l a go).log.count

    abbrev way : Option S → ℕ
    way u = (branch u go).log.count

    -- so far
    abbrev one_side : ℕ
    one_side = a.log.count + way a.on

    abbrev two_sides : ℕ
    two_sides = one_side + way a.ways.broken

    abbrev three_sides : ℕ
    three_sides = two_sides + way a.ways.continued

    abbrev four_sides : ℕ
    four_sides = three_sides + way a.ways.returned

    pub count_on : (n : ℕ) → CountsUpTo (branch f.on go).log.count one.count n → CountsUpTo one_side old.count n
    count_on n i =
        both_count a.log.count (way a.on) old.count one.count n (told_count a.log old one h.log)
        (subst (λ z. CountsUpTo (way z) one.count n) h.on i)

    module _ (m n : ℕ) where
      pub count_broken : CountsUpTo one_side old.count m
          → CountsUpTo (branch (ways_view f.ways).broken go).log.count m n → CountsUpTo two_sides old.count n
      count_broken k i =
          both_count one_side (way a.ways.broken) old.count m n k
          (subst (λ (z : Ways S). CountsUpTo (way z.broken) m n) h.ways i)

      pub count_continued : CountsUpTo two_sides old.count m
          → CountsUpTo (branch (ways_view f.ways).continued go).log.count m n → CountsUpTo three_sides old.count n
      count_continued k i =
          both_count two_sides (way a.ways.continued) old.count m n k
          (subst (λ (z : Ways S). CountsUpTo (way z.continued) m n) h.ways i)

      pub count_returned : CountsUpTo three_sides old.count m
          → CountsUpTo (branch (ways_view f.ways).returned go).log.count m n → CountsUpTo four_sides old.count n
      count_returned k i =
          both_count three_sides (way a.ways.returned) old.count m n k
          (subst (λ (z : Ways S). CountsUpTo (way z.returned) m n) h.ways i)

    sums : (k r1 r2 r3 r4 : ℕ)
        → (((k + r1) + r2) + r3) + r4 ≤ k + ((((r1 + 0) + (r2 + 0)) + (r3 + 0)) + (r4 + 0))
    sums k r1 r2 r3 r4 = omega arith

    module _ (n : ℕ) where
      pub apart_four : CountsUpTo four_sides old.count n → CountsUpTo apart_whole old.count n
      apart_four i = more_count four_sides apart_whole old.count n (sums a.log.count (way a.on) (way a.ways.broken)
          (way a.ways.continued) (way a.ways.returned)) i

      pub apart_three : CountsUpTo three_sides old.count n → CountsUpTo apart_whole old.count n
      apart_three i = apart_four (more_count three_sides four_sides old.count n (le-plus three_sides
          (way a.ways.returned)) i)

      pub apart_two : CountsUpTo two_sides old.count n → CountsUpTo apart_whole old.count n
      apart_two i = apart_three (more_count two_sides three_sides old.count n (le-plus two_sides
          (way a.ways.continued)) i)

      pub apart_one : CountsUpTo one_side old.count n → CountsUpTo apart_whole old.count n
      apart_one i = apart_two (more_count one_side two_sides old.count n (le-plus one_side (way a.ways.broken)) i)

-- ---- rows, turns and heads

module _ {S : Type 0} (ops : Program → (Side → Order) → StateOps S) (c : Plan) (here : ℕ) where
  pub rows_stop : (m : Mode) (ss : List Stmt) (i : ℕ) (s : Stmt) (at : S) (w : Ways S) (now start : Told S)
      (whole : Pass S) (n : ℕ) → i < length ss → s ≡ get_or ss i s
      → Leads (all ops c here (stmts_view (drop i ss)) m at w) now whole start
      → CountsUpTo (one ops c here (what_view s.what) m s.line at).log.count now.count n
      → CountsUpTo whole.log.count start.count n
  rows_stop m ss i s at w now start whole n lt is lead h =
      let q = one ops c here (what_view s.what) m s.line at in
      let rest = all ops c here (stmts_view (drop (i + 1) ss)) m in
      let k = subst (λ ts. CountsUpTo (all ops c here (stmts_view ts) m at w).log.count now.count n)
      (sym (drop_next ss i s lt is)) (then_stops (o ops c) q w rest now.count n h) in
      leads_count (all ops c here (stmts_view (drop i ss)) m at w) whole now start lead n k

  module _ (l : Loop) where
    pub begun_stops_at : (m : Mode) (k : ℕ) (s : S) (x n : ℕ) → CountsUpTo (turned ops c here l m s).log.count x n
        → CountsUpTo (begun_of ops c here l m k s).log.count x n
    begun_stops_at m k s x n h = then_stops (o ops c) (turned ops c here l m s) none (rounds_of ops c here l m k) x n h

    pub lone_stops : (m : Mode) (i : Side) (s : S) (x n : ℕ) → m ≡ Both
        → CountsUpTo (entered_of ops c here l i c.unroll s).log.count x n
        → CountsUpTo (alone_of ops c here l m i s).log.count x n
    lone_stops (One j) i s x n e h = absurd cc
    lone_stops Both i s x n e h =
        more_count (entered_of ops c here l i c.unroll s).log.count (alone_of ops c here l Both i s).log.count x n
        (le-plus (entered_of ops c here l i c.unroll s).log.count 0) h

    module _ (m : Mode) (first : Bool) (s : S) (x n : ℕ) where
      pub tests_stop : (w : Ways S) → first ≡ true → w ≡ none
          → CountsUpTo (rounds_of ops c here l m c.unroll s w).log.count x n
          → CountsUpTo (loop_pass_of ops c here l m first s).log.count x n
      tests_stop w e d h =
          let k = subst (λ z. CountsUpTo (rounds_of ops c here l m c.unroll s z).log.count x n) d h in
          subst (λ z. CountsUpTo (loop_pass_of ops c here l m z s).log.count x n) (sym e) (each m k)
        where
          each : (m : Mode) → CountsUpTo (rounds_of ops c here l m c.unroll s none).log.count x n
              → CountsUpTo (loop_pass_of ops c here l m true s).log.count x n
          each Both k =
              subst (λ p. CountsUpTo p.log.count x n)
              (sym (whiles (o ops c) c.unroll c.limit l.line l.test (body_at ops c here l) s)) k
          each (One j) k = k

      pub begun_stop : (u : ℕ) → first ≡ false → m ≡ Both → u ≡ c.unroll - 1
          → CountsUpTo (begun_of ops c here l m u s).log.count x n
          → CountsUpTo (loop_pass_of ops c here l m first s).log.count x n
      begun_stop u e d i h =
          let k = subst (λ z. CountsUpTo (begun_of ops c here l m z s).log.count x n) i h in
          subst (λ z. CountsUpTo (loop_pass_of ops c here l m z s).log.count x n) (sym e) (each m d k)
        where
          each : (m : Mode) → m ≡ Both → CountsUpTo (begun_of ops c here l m (c.unroll - 1) s).log.count x n
              → CountsUpTo (loop_pass_of ops c here l m false s).log.count x n
          each Both d k =
              subst (λ p. CountsUpTo p.log.count x n)
              (sym (dos (o ops c) c.unroll c.limit l.line l.test (body_at ops c here l) s)) k
          each (One j) d k = absurd cc

      pub entered_stop : (j : Side) → first ≡ false → m ≡ One j
          → CountsUpTo (entered_of ops c here l j c.unroll s).log.count x n
          → CountsUpTo (loop_pass_of ops c here l m first s).log.count x n
      entered_stop j e d h =
          subst (λ z. CountsUpTo (loop_pass_of ops c here l z first s).log.count x n) (sym d)
          (subst (λ z. CountsUpTo (loop_pass_of ops c here l (One j) z s).log.count x n) (sym e) h)

    -- ---- heads

    module _ (w : Ways S) where
      abbrev turn : S → Pass S
      turn h = turn_of ops c here l Both w h

      tried_less : (k : ℕ) (h : S) → (turn h).log.count ≤ (settled_of ops c here l w (suc k) h).log.count
      tried_less k h =
          by_test (is_stable (o ops c) h (turn h).on) (turn h)
          (settled_of ops c here l w k (next_head (o ops c) h (turn h).on))
        where
          by_test : (b : Bool) (p q : Pass S) → p.log.count ≤ (if b then from_head h p else dropped p q).log.count
          by_test true p q = omega arith
          by_test false p q = le-plus p.log.count q.log.count

      module _ (r : Rounds S) (h : S) (now start : Told S) (whole : Pass S) (g : GoesIn ops c here l w r h now start
          whole) (n : ℕ) where
        -- between the turns
        pub heads_stop : n ≡ now.count → CountsUpTo whole.log.count start.count n
        heads_stop e =
            let q = settled_of ops c here l w r.left h in
            leads_count q whole now start g.leads n (same_count q.log.count now.count n e)

        -- in a turn, whose count is added
        pub turn_stops : (v : Ways S) (s : S) (a b : ℕ) → 0 < r.left → v ≡ w → s ≡ h → a ≡ 0
            → CountsUpTo (turn_of ops c here l Both v s).log.count a b → capped n ≡ capped (now.count + 1 * b)
            → CountsUpTo whole.log.count start.count n
        turn_stops v s a b lt ev es ea i e =
            let j = subst (λ z. CountsUpTo (turn_of ops c here l Both w z).log.count a b) es
            (subst (λ z. CountsUpTo (turn_of ops c here l Both z s).log.count a b) ev i) in
            let d : suc (r.left - 1) ≡ r.left = omega (arith, lt) in
            let less = subst (λ k. (turn h).log.count ≤ (settled_of ops c here l w k h).log.count) d
            (tried_less (r.left - 1) h) in
            let q = settled_of ops c here l w r.left h in
            leads_count q whole now start g.leads n (more_count (turn h).log.count q.log.count now.count n less
            (added (turn h).log.count a b now.count ea j e))
          where
            added : (k a b x : ℕ) → a ≡ 0 → CountsUpTo k a b → capped n ≡ capped (x + 1 * b) → CountsUpTo k x n
            added k a b x z i e = let y = i.bound in record { bound = omega (arith, y, e, z) }

        -- in the turn from the last head
        pub last_stops : (v : Ways S) (s : S) (a b : ℕ) → r.left ≡ 0 → v ≡ w → s ≡ (o ops c).empty → a ≡ 0
            → CountsUpTo (turn_of ops c here l Both v s).log.count a b → capped n ≡ capped (now.count + 1 * b)
            → CountsUpTo whole.log.count start.count n
        last_stops v s a b z ev es ea i e =
            let j = subst (λ z. CountsUpTo (turn_of ops c here l Both w z).log.count a b) es
            (subst (λ z. CountsUpTo (turn_of ops c here l Both z s).log.count a b) ev i) in
            let t = turn (o ops c).empty in
            let k = subst (λ k. CountsUpTo (settled_of ops c here l w k h).log.count now.count n) (sym z) (added
            t.log.count a b now.count ea j e) in
            leads_count (settled_of ops c here l w r.left h) whole now start g.leads n k
          where
            added : (k a b x : ℕ) → a ≡ 0 → CountsUpTo k a b → capped n ≡ capped (x + 1 * b) → CountsUpTo (0 + k) x n
            added k a b x z i e = let y = i.bound in record { bound = omega (arith, y, e, z) }

module _ {S : Type 0} (p : StateOps S) (turn last : Ways S → S → Pass S) (U V : ℕ) (at : S) (w : Ways S)
    (now start : Told S) (whole : Pass S) (n : ℕ) where
  pub turns_stop : V < U → Leads (unrolled p turn last (U - V) at w) now whole start
      → CountsUpTo (turn w at).log.count now.count n → CountsUpTo whole.log.count start.count n
  turns_stop lt lead h =
      let d : U - V ≡ suc (U - (V + 1)) = omega arith in
      let q = turn w at in
      let k = more_count q.log.count (turn_then p q (unrolled p turn last (U - (V + 1)))).log.count now.count n
      (goes_count p q.on q.ways q.log (unrolled p turn last (U - (V + 1)))) h in
      leads_count (unrolled p turn last (U - V) at w) whole now start lead n
      (subst (λ k. CountsUpTo (unrolled p turn last k at w).log.count now.count n) (sym d) k)

  pub turns_stop_last : U ≤ V → Leads (unrolled p turn last (U - V) at w) now whole start
      → CountsUpTo (last w at).log.count now.count n → CountsUpTo whole.log.count start.count n
  turns_stop_last le lead h =
      let d : U - V ≡ 0 = omega arith in
      leads_count (unrolled p turn last (U - V) at w) whole now start lead n
      (subst (λ k. CountsUpTo (unrolled p turn last k at w).log.count now.count n) (sym d) h)
