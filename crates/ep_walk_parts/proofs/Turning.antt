-- Loops, branches and what follows a test, piece by piece.
use Rattle.std.proofs.Common.{◌≡◌, ℕ, suc, ◌-◌, Bool, true, false, [], ◌∷◌, sym, ◌∙◌, subst, Option, Some, None}
use Rattle.std.proofs.Common.{Result, Ok, Err}
use Rattle.ep_int.specs.declared.types.Memory.{Memory}
use Rattle.ep_int.specs.declared.types.Order.{Order}
use Rattle.ep_alarms.specs.declared.types.AlarmKind.TheVariants.{E4}
use Rattle.ep_core.specs.Exec.{broken}
use Rattle.ep_core.specs.Program.{Program}
use Rattle.ep_core.specs.Runs.{Side}
use Rattle.ep_pass.specs.States.{Mode, Both, One, StateOps}
use Rattle.ep_pass.specs.Pass.{Ways, none, alarm, logged, Pass, ends, branch, differ, plain_alarm, comes_after, leave_loop}
use Rattle.ep_pass.specs.Pass.{join_ways, then_pass}
use Rattle.ep_pass.proofs.Tried.{whiles, dos}
use Rattle.ep_flows.specs.View.{Told, Tells, HasPassed, Passes, ways_view, flow_view, Plan}
use Rattle.ep_flows.specs.declared.flow.Flow.{Flow}
use Rattle.ep_flows.proofs.Telling.{tells_nothing}
use Rattle.ep_flows.proofs.Combined.{goes_on, stops_there, leave_loop_passed, keeps_passed}
use Rattle.ep_flows.proofs.Counting.{both_count, leads_passes, told_count}
use Rattle.ep_walk_parts.specs.Pieces.{Loop, Followed, turns, cut, o, alone_of, begun_of, body_at, entered_of, followed}
use Rattle.ep_walk_parts.specs.Pieces.{last_of, loop_pass_of, rounds_of, settled_of, tested_of, turn_of}

module _ {S : Type 0} where
  -- nothing is reached, and nothing told
  pub ends_passed : (f : Flow S) (t : Told S) → f.on ≡ None → ways_view f.ways ≡ none → HasPassed (ends []) f t t
  ends_passed f t a b = record { on = a; ways = b; log = tells_nothing t }

  pub branch_none : (u : Option S) (go : S → Pass S) (f : Flow S) (t : Told S) → u ≡ None → f.on ≡ None
      → ways_view f.ways ≡ none → HasPassed (branch u go) f t t
  branch_none u go f t e a b = subst (λ z. HasPassed (branch z go) f t t) (sym e) (ends_passed f t a b)

  pub branch_ok : (u : Option S) (s : S) (go : S → Pass S) (x : Result (Flow S) Memory) (old new : Told S)
      → u ≡ Some s → Passes (go s) x old new → Passes (branch u go) x old new
  branch_ok u s go x old new e h = subst (λ z. Passes (branch z go) x old new) (sym e) h

  module _ (p : StateOps S) (a : Pass S) (go : S → Ways S → Pass S) (f : Flow S) (old mid : Told S)
      (h : HasPassed a f old mid) where
    -- what follows a pass whose ways out are the first
    pub begun_stops : (g : Flow S) → f.on ≡ None → g.on ≡ None → ways_view g.ways ≡ ways_view f.ways
        → HasPassed (then_pass p a none go) g old mid
    begun_stops g e u w = stops_there p a.on (join_ways p none a.ways) a.log go g old mid (sym h.on ∙ e) u (w
        ∙ h.ways) h.log

    pub begun_goes : (next : S) (x : Result (Flow S) Memory) (new : Told S) → f.on ≡ Some next
        → Passes (go next (ways_view f.ways)) x mid new
        → Passes (then_pass p a none go) x old new
    begun_goes next x new e k =
        leads_passes (go next (ways_view f.ways)) (then_pass p a none go) mid old
        (λ g n k. goes_on p a.on (join_ways p none a.ways) a.log go next (ways_view f.ways) g old mid n (sym h.on
        ∙ e) (sym h.ways) h.log k) x new k

module _ {S : Type 0} (ops : Program → (Side → Order) → StateOps S) (c : Plan) (here : ℕ) where
  -- ---- what follows a test

  pub follow_ok : (v w : Followed) (m : Mode) (a b i j : Bool) (s : S) (x : Result (Flow S) Memory) (old new : Told S)
      → w ≡ v → i ≡ a → j ≡ b → Passes (followed ops c here v m a b s) x old new
      → Passes (followed ops c here w m i j s) x old new
  follow_ok v w m a b i j s x old new e d g h = rw (e, d, g) h

  module _ (l : Loop) where
    -- ---- turns

    pub turn_ok : (m : Mode) (w : Ways S) (s : S) (x : Result (Flow S) Memory) (old new : Told S)
        → Passes (tested_of ops c here (turns l) m l.test l.line w s) x old new
        → Passes (turn_of ops c here l m w s) x old new
    turn_ok Both w s x old new h = h
    turn_ok (One k) w s x old new h = h

    pub last_alone : (m : Mode) (k : Side) (w : Ways S) (s : S) (x : Result (Flow S) Memory) (old new : Told S)
        → m ≡ One k → Passes (tested_of ops c here (cut l.line) m l.test l.line w s) x old new
        → Passes (last_of ops c here l m w s) x old new
    last_alone Both k w s x old new e h = absurd cc
    last_alone (One j) k w s x old new e h = h

    pub last_both : (m : Mode) (w : Ways S) (s head : S) (x : Result (Flow S) Memory) (old new : Told S) → m ≡ Both
        → head ≡ (o ops c).reshared s → Passes (settled_of ops c here l w (c.limit - 1) head) x old new → Passes (last_of ops c here l m w s) x old new
    last_both Both w s head x old new e d h = subst (λ z. Passes (settled_of ops c here l w
        (c.limit - 1) z) x old new) d h
    last_both (One j) w s head x old new e d h = absurd cc

    -- ---- one side's loop from its body on

    pub entered_none : (m : Side) (n : ℕ) (s : S) (f : Flow S) (old new : Told S) → n ≡ 0
        → Tells (logged (alarm (plain_alarm E4 l.line) ∷ []) 0 []) old new → f.on ≡ None → ways_view f.ways ≡ none
        → HasPassed (entered_of ops c here l m n s) f old new
    entered_none m n s f old new e t a b = subst (λ z. HasPassed (entered_of ops c here l m z s) f old new) (sym e)
        (record { on = a; ways = b; log = t })

    pub entered_goes : (m : Side) (n k : ℕ) (s : S) (x : Result (Flow S) Memory) (old new : Told S) → n ≡ suc k
        → Passes (begun_of ops c here l (One m) k s) x old new
        → Passes (entered_of ops c here l m n s) x old new
    entered_goes m n k s x old new e h = subst (λ z. Passes (entered_of ops c here l m z s) x old new) (sym e) h

    pub lone_ok : (m : Mode) (i : Side) (s : S) (f : Flow S) (x : Result (Flow S) Memory) (old mid new : Told S)
        → m ≡ Both → HasPassed (entered_of ops c here l i c.unroll s) f old mid
        → Passes (comes_after l.line (flow_view f)) x mid new
        → Passes (alone_of ops c here l m i s) x old new
    lone_ok (One j) i s f x old mid new e h k = absurd cc
    lone_ok Both i s f (Err y) old mid new e h k =
        both_count (entered_of ops c here l i c.unroll s).log.count 0 old.count mid.count new.count
        (told_count (entered_of ops c here l i c.unroll s).log old mid h.log) k
    lone_ok Both i s f (Ok g) old mid new e h k = keeps_passed broken (λ u w. w.broken)
        (λ u w. differ l.line w.returned) (entered_of ops c here l i c.unroll s) f g old mid new h k

    pub lone_none : (m : Mode) (j i : Side) (s : S) (f : Flow S) (t : Told S) → m ≡ One j → f.on ≡ None
        → ways_view f.ways ≡ none → HasPassed (alone_of ops c here l m i s) f t t
    lone_none Both j i s f t e a b = absurd cc
    lone_none (One k) j i s f t e a b = ends_passed f t a b

    -- ---- loops

    module _ (m : Mode) (first : Bool) (s : S) (f g : Flow S) (old new : Told S) (a : g.on ≡ (leave_loop
        (flow_view f)).on) (b : ways_view g.ways ≡ (leave_loop (flow_view f)).ways) where
      pub loop_tests : (w : Ways S) → first ≡ true → w ≡ none
          → HasPassed (rounds_of ops c here l m c.unroll s w) f old new
          → HasPassed (loop_pass_of ops c here l m first s) g old new
      loop_tests w e d h =
          let k : HasPassed (rounds_of ops c here l m c.unroll s none) f old new = subst (λ z. HasPassed
          (rounds_of ops c here l m c.unroll s z) f old new) d h in
          subst (λ z. HasPassed (loop_pass_of ops c here l m z s) g old new) (sym e) (each m (leave_loop_passed
          (rounds_of ops c here l m c.unroll s none) f g old new k a b))
        where
          each : (m : Mode) → HasPassed (leave_loop (rounds_of ops c here l m c.unroll s none)) g old new
              → HasPassed (loop_pass_of ops c here l m true s) g old new
          each Both k =
              subst (λ p. HasPassed p g old new)
              (sym (whiles (o ops c) c.unroll c.limit l.line l.test (body_at ops c here l) s)) k
          each (One j) k = k

      pub loop_both : (n : ℕ) → first ≡ false → m ≡ Both → n ≡ c.unroll - 1
          → HasPassed (begun_of ops c here l m n s) f old new
          → HasPassed (loop_pass_of ops c here l m first s) g old new
      loop_both n e d i h =
          let k : HasPassed (begun_of ops c here l m (c.unroll - 1) s) f old new = subst (λ z. HasPassed
          (begun_of ops c here l m z s) f old new) i h in
          subst (λ z. HasPassed (loop_pass_of ops c here l m z s) g old new) (sym e) (each m d (leave_loop_passed
          (begun_of ops c here l m (c.unroll - 1) s) f g old new k a b))
        where
          each : (m : Mode) → m ≡ Both → HasPassed (leave_loop (begun_of ops c here l m (c.unroll - 1) s)) g old new
              → HasPassed (loop_pass_of ops c here l m false s) g old new
          each Both d k =
              subst (λ p. HasPassed p g old new)
              (sym (dos (o ops c) c.unroll c.limit l.line l.test (body_at ops c here l) s)) k
          each (One j) d k = absurd cc

      pub loop_alone : (j : Side) → first ≡ false → m ≡ One j
          → HasPassed (entered_of ops c here l j c.unroll s) f old new
          → HasPassed (loop_pass_of ops c here l m first s) g old new
      loop_alone j e d h =
          let k = leave_loop_passed (entered_of ops c here l j c.unroll s) f g old new h a b in
          subst (λ z. HasPassed (loop_pass_of ops c here l z first s) g old new) (sym d) (subst (λ z. HasPassed
          (loop_pass_of ops c here l (One j) z s) g old new) (sym e) k)
