-- Where statements were gone through, piece by piece, as a pass says.
use Rattle.std.proofs.Common.{◌≡◌, ℕ, ◌+◌, List, [], fold, map, refl, sym, ap, ◌∙◌, subst, arith, Option, Some, None}
use Rattle.std.proofs.lemmas.List.{append-nil}
use Rattle.std.proofs.Common.{Result, Ok, Err, IfOk}
use Rattle.ep_int.specs.declared.types.Memory.{Memory}
use Rattle.ep_alarms.specs.Report.{added}
use Rattle.ep_core.specs.Exec.{Way, on, broken, continued, returned}
use Rattle.ep_pass.specs.States.{StateOps}
use Rattle.ep_pass.specs.Pass.{Ways, Event, alarm_of, Log, logged, both_logs, Pass, passed, after, branch, left_by, leave_loop}
use Rattle.ep_pass.specs.Pass.{join_on, join_ways, either_pass, go_on}
use Rattle.ep_flows.specs.View.{Told, Tells, HasPassed, Passes, CountsUpTo, ways_view, flow_view, capped, more_heads}
use Rattle.ep_flows.specs.declared.flow.Flow.{Flow}
use Rattle.ep_flows.proofs.Telling.{tells_both, tells_nothing}

-- alarms alone
pub tells_alarms : {S : Type 0} (fs : List Event) (old new : Told S)
    → new.alarms ≡ fold added old.alarms (map alarm_of fs)
    → new.count ≡ old.count → new.heads ≡ old.heads → Tells (logged fs 0 []) old new
tells_alarms fs old new a c h =
    let n = tells_nothing old in
    record { alarms = a; count = ap capped c ∙ n.count; heads = h ∙ n.heads }

pub tells_at : {S : Type 0} (fs : List Event) (old seen new : Told S) → old ≡ seen
    → new.alarms ≡ fold added seen.alarms (map alarm_of fs) → new.count ≡ seen.count → new.heads ≡ seen.heads
    → Tells (logged fs 0 []) old new
tells_at fs old seen new e a c h = subst (λ z. Tells (logged fs 0 []) z new) (sym e) (tells_alarms fs seen new a c h)

pub drop_nothing : {S : Type 0} (g : Log S) (old new : Told S) → Tells (both_logs (logged [] 0 []) g) old new
    → Tells g old new
drop_nothing g old new t = record {
  alarms = t.alarms;
  count = t.count
      ∙ ap capped (less old.count g.count);
  heads = t.heads;
}
  where
    less : (a b : ℕ) → a + (0 + b) ≡ a + b
    less a b = omega arith

pub put_nothing : {S : Type 0} (g : Log S) (old new : Told S) → Tells g old new
    → Tells (both_logs (logged [] 0 []) g) old new
put_nothing g old new t = record {
  alarms = t.alarms;
  count = t.count
      ∙ ap capped (less old.count g.count);
  heads = t.heads;
}
  where
    less : (a b : ℕ) → a + b ≡ a + (0 + b)
    less a b = omega arith

pub drop_last : {S : Type 0} (g : Log S) (old new : Told S) → Tells (both_logs g (logged [] 0 [])) old new
    → Tells g old new
drop_last g old new t = record {
  alarms = t.alarms ∙ ap (λ es. fold added old.alarms (map alarm_of es)) (append-nil g.faults);
  count = t.count ∙ ap capped (less old.count g.count);
  heads = t.heads ∙ ap (more_heads old.heads) (append-nil g.heads);
}
  where
    less : (a b : ℕ) → a + (b + 0) ≡ a + b
    less a b = omega arith

module _ {S : Type 0} where
  pub after_passed : (g : Log S) (p : Pass S) (f : Flow S) (old mid new : Told S) → Tells g old mid
      → HasPassed p f mid new → HasPassed (after g p) f old new
  after_passed g p f old mid new t h = record { on = h.on; ways = h.ways; log = tells_both g p.log old mid new t h.log }

  pub leave_loop_passed : (p : Pass S) (f h : Flow S) (old new : Told S) → HasPassed p f old new
      → h.on ≡ (leave_loop (flow_view f)).on → ways_view h.ways ≡ (leave_loop (flow_view f)).ways
      → HasPassed (leave_loop p) h old new
  leave_loop_passed p f h old new t a b = record {
    on = a ∙ ap (λ (w : Ways S). w.broken) t.ways;
    ways = b ∙ ap (λ (w : Ways S). (leave_loop (passed None w (logged [] 0 []))).ways) t.ways;
    log = t.log;
  }

  -- ---- one way out of a pass is kept, and of the others comes something

  module _ (k : Way) (pick : Option S → Ways S → Option S) (others : Option S → Ways S → List Event) where
    abbrev keeps : Pass S → Pass S
    keeps p = left_by k (pick p.on p.ways) (both_logs p.log (logged (others p.on p.ways) 0 []))

    left_on : (k : Way) (u : Option S) (g h : Log S) → (left_by k u g).on ≡ (left_by k u h).on
    left_on on u g h = refl
    left_on broken u g h = refl
    left_on continued u g h = refl
    left_on returned u g h = refl

    left_ways : (k : Way) (u : Option S) (g h : Log S) → (left_by k u g).ways ≡ (left_by k u h).ways
    left_ways on u g h = refl
    left_ways broken u g h = refl
    left_ways continued u g h = refl
    left_ways returned u g h = refl

    left_log : (k : Way) (u : Option S) (g : Log S) → (left_by k u g).log ≡ g
    left_log on u g = refl
    left_log broken u g = refl
    left_log continued u g = refl
    left_log returned u g = refl

    pub keeps_passed : (p : Pass S) (f h : Flow S) (old mid new : Told S) → HasPassed p f old mid
        → HasPassed (keeps (flow_view f)) h mid new → HasPassed (keeps p) h old new
    keeps_passed p f h old mid new a b =
        let us = left_log k (pick f.on (ways_view f.ways)) (both_logs (logged [] 0 []) (logged (others f.on
        (ways_view f.ways)) 0 [])) in
        let t : Tells (both_logs (logged [] 0 []) (logged (others f.on (ways_view f.ways)) 0 [])) mid new = subst
        (λ g. Tells g mid new) us b.log in
        let t' : Tells (logged (others p.on p.ways) 0 []) mid new = rw (a.on, a.ways) at (drop_nothing (logged
        (others f.on (ways_view f.ways)) 0 []) mid new t) in
        let same : pick f.on (ways_view f.ways) ≡ pick p.on p.ways = ap (λ z. pick z (ways_view f.ways)) a.on
        ∙ ap (pick p.on) a.ways in
        let g = both_logs p.log (logged (others p.on p.ways) 0 []) in
        record {
          on = b.on ∙ ap (λ z. (left_by k z (both_logs (logged [] 0 []) (logged (others f.on
              (ways_view f.ways)) 0 []))).on) same ∙ left_on k (pick p.on p.ways) _ g;
          ways = b.ways ∙ ap (λ z. (left_by k z (both_logs (logged [] 0 []) (logged (others f.on
              (ways_view f.ways)) 0 []))).ways) same ∙ left_ways k (pick p.on p.ways) _ g;
          log = subst (λ z. Tells z old new) (sym (left_log k (pick p.on p.ways) g)) (tells_both p.log (logged
              (others p.on p.ways) 0 []) old mid new a.log t');
        }

  module _ (o : StateOps S) where
    -- ---- joins

    -- what comes, joined to what came before
    pub either_passed : (p : Pass S) (before f h : Flow S) (old new : Told S) → HasPassed p f old new
        → h.on ≡ join_on o before.on f.on → ways_view h.ways ≡ join_ways o (ways_view before.ways)
        (ways_view f.ways) → HasPassed (either_pass o (flow_view before) p) h old new
    either_passed p before f h old new a u w = record {
      on = u ∙ ap (join_on o before.on) a.on;
      ways = w ∙ ap (join_ways o (ways_view before.ways)) a.ways;
      log = put_nothing p.log old new a.log;
    }

    pub then_either : (a p : Pass S) (f h : Flow S) (old mid new : Told S) → HasPassed a f old mid
        → HasPassed (either_pass o (flow_view f) p) h mid new → HasPassed (either_pass o a p) h old new
    then_either a p f h old mid new x y = record {
      on = y.on ∙ ap (λ z. join_on o z p.on) x.on;
      ways = y.ways ∙ ap (λ z. join_ways o z p.ways) x.ways;
      log = tells_both a.log p.log old mid new x.log (drop_nothing p.log mid new y.log);
    }

    -- two flows that were gone through one after the other
    pub both_passed : (a p : Pass S) (f g h : Flow S) (old mid new : Told S) → HasPassed a f old mid
        → HasPassed p g mid new → h.on ≡ join_on o f.on g.on → ways_view h.ways ≡ join_ways o (ways_view f.ways)
        (ways_view g.ways) → HasPassed (either_pass o a p) h old new
    both_passed a p f g h old mid new x y u w = then_either a p f h old mid new x (either_passed p f g h mid new y u w)

    -- what follows a pair of truths, where a state is reached
    pub step_passed : (a : Pass S) (u v : Option S) (go : S → Pass S) (f h : Flow S) (old mid new : Told S) → u ≡ v
        → HasPassed a f old mid → HasPassed (either_pass o (flow_view f) (branch u go)) h mid new
        → HasPassed (either_pass o a (branch v go)) h old new
    step_passed a u v go f h old mid new e x y = then_either a (branch v go) f h old mid new x (subst (λ z. HasPassed
        (either_pass o (flow_view f) (branch z go)) h mid new) e y)

    pub step_ok : (a : Pass S) (u v : Option S) (go : S → Pass S) (f : Flow S) (x : Result (Flow S) Memory)
        (old mid new : Told S) → u ≡ v → HasPassed a f old mid → Passes (either_pass o (flow_view f)
        (branch u go)) x mid new → Passes (either_pass o a (branch v go)) x old new
    step_ok a u v go f (Err y) old mid new e p q =
        subst (λ z. CountsUpTo (a.log.count + (branch z go).log.count) old.count new.count) e
        (counts a.log.count (branch u go).log.count old.count mid.count new.count p.log.count q)
      where
        counts : (k n a b d : ℕ) → capped b ≡ capped (a + k) → CountsUpTo (0 + n) b d → CountsUpTo (k + n) a d
        counts k n a b d e h = let x = h.bound in record { bound = omega (arith, e, x) }
    step_ok a u v go f (Ok h) old mid new e p q = step_passed a u v go f h old mid new e p q

    pub first_passed : (a : Pass S) (u v : Option S) (go : S → Pass S) (h : Flow S) (old new : Told S) → u ≡ v
        → HasPassed (either_pass o a (branch u go)) h old new → HasPassed (either_pass o a (branch v go)) h old new
    first_passed a u v go h old new e y = subst (λ z. HasPassed (either_pass o a (branch z go)) h old new) e y

    pub either_ok : (p : Pass S) (before f : Flow S) (x : Result (Flow S) Memory) (old new : Told S)
        → HasPassed p f old new → IfOk x (λ h. h.on ≡ join_on o before.on f.on)
        → IfOk x (λ h. ways_view h.ways ≡ join_ways o (ways_view before.ways) (ways_view f.ways))
        → Passes (either_pass o (flow_view before) p) x old new
    either_ok p before f (Err y) old new a u w = counts p.log.count old.count new.count a.log.count
      where
        counts : (n a b : ℕ) → capped b ≡ capped (a + n) → CountsUpTo (0 + n) a b
        counts n a b e = record { bound = omega (arith, e) }
    either_ok p before f (Ok h) old new a u w = either_passed p before f h old new a u w

    -- ---- what follows the end of a pass

    pub goes_on : (u : Option S) (w : Ways S) (g : Log S) (go : S → Ways S → Pass S) (next : S) (w' : Ways S)
        (f : Flow S) (old mid new : Told S) → u ≡ Some next → w ≡ w' → Tells g old mid
        → HasPassed (go next w') f mid new → HasPassed (go_on o u w g go) f old new
    goes_on u w g go next w' f old mid new e d t h =
        let k : HasPassed (go_on o (Some next) w' g go) f old new = after_passed g (go next w') f old mid new t h in
        subst (λ z. HasPassed (go_on o z w g go) f old new) (sym e) (subst (λ z. HasPassed (go_on o
        (Some next) z g go) f old new) (sym d) k)

    pub stops_there : (u : Option S) (w : Ways S) (g : Log S) (go : S → Ways S
        → Pass S) (f : Flow S) (old new : Told S) → u ≡ None → f.on ≡ None → ways_view f.ways ≡ w → Tells g old new
        → HasPassed (go_on o u w g go) f old new
    stops_there u w g go f old new e a b t =
        let k : HasPassed (go_on o None w g go) f old new = record { on = a; ways = b; log = t } in
        subst (λ z. HasPassed (go_on o z w g go) f old new) (sym e) k

  -- ---- what is left to do, q, from here, is p from the start
  abbrev pub Leads : Pass S → Told S → Pass S → Told S → Type 0
  Leads q now p start = (f : Flow S) (new : Told S) → HasPassed q f now new → HasPassed p f start new
