-- One statement, and what is kept of what leaves statements.
use Rattle.std.proofs.Common.{◌≡◌, ℕ, ◌+◌, Bool, true, false, List, [], ◌++◌, refl, sym, ap, ◌∙◌, subst, arith, Option}
use Rattle.std.proofs.Common.{Some, None, Result, Ok, Err, IsErrAnd, slice_get}
use Rattle.ep_int.specs.declared.types.Scalar.{Scalar}
use Rattle.ep_alarms.specs.declared.types.AlarmKind.TheVariants.{E3}
use Rattle.ep_core.specs.Program.{What, simple, call, if_else, loop, break_loop, continue_loop, by_order, scope}
use Rattle.ep_core.specs.Exec.{Way, on, broken, continued, returned, result_in}
use Rattle.ep_core.specs.WellFormed.{is_return}
use Rattle.ep_pass.specs.States.{Mode, Transfer}
use Rattle.ep_pass.specs.Pass.{Event, alarm, outside, plain_alarm, differ, logged, branch, found_at, left_by}
use Rattle.ep_pass.specs.Pass.{simple_pass, comes_after, way_if}
use Rattle.ep_flows.specs.View.{is_simple, simple_of, ways_view, flow_view}
use Rattle.ep_flows.specs.declared.flow.Flow.{Flow}
use Rattle.ep_certcheck_laws.specs.Checked.{least, with_least, outside_of}
use Rattle.ep_certcheck_walk.specs.declared.stop.Stop.{Stop}
use Rattle.ep_certcheck_walk.specs.Pieces.{one, only}
use Rattle.ep_certcheck_walk.specs.Stops.{Course, HasFound, Gives, IsStop}
use Rattle.ep_certcheck_walk.specs.declared.stop.Stop.TheVariants as stops

plus_zero : (n : ℕ) → n ≡ n + 0
plus_zero n = omega arith

module _ {S : Type 0} (k : Course S) where
  -- the exit of a stop
  pub err_gives : {T : Type 0} (es : List Event) (P : T → Type 0) (x : Result T Stop) (e : Stop)
      → IsErrAnd x (λ t. t ≡ e) → IsStop k es e → Gives k es P x
  err_gives es P (Ok v) e i h = absurd i
  err_gives es P (Err t) e i h = subst (IsStop k es) (sym i) h

  pub behind_gives : {T : Type 0} (es fs : List Event) (P : T → Type 0) (x : Result T Stop) → es ≡ []
      → Gives k fs P x → Gives k (es ++ fs) P x
  behind_gives es fs P x e h = subst (λ z. Gives k (z ++ fs) P x) (sym e) h

  pub differ_none : (l : ℕ) (u : Option S) → u ≡ None → differ l u ≡ []
  differ_none l u e = ap (differ l) e

  pub differ_some : (l : ℕ) (u : Option S) (s : S) → u ≡ Some s → IsStop k (differ l u) (stops.Fault l E3)
  differ_some l u s e =
      subst (λ z. IsStop k (differ l z) (stops.Fault l E3)) (sym e)
      (record { event = alarm (plain_alarm E3 l); rest = []; is = refl; shown = refl })

  -- ---- one way out is kept

  abbrev others : Way → ℕ → Flow S → List Event
  others on l f = differ l f.ways.broken ++ (differ l f.ways.continued ++ differ l f.ways.returned)
  others broken l f = differ l f.on ++ (differ l f.ways.continued ++ differ l f.ways.returned)
  others continued l f = differ l f.on ++ (differ l f.ways.broken ++ differ l f.ways.returned)
  others returned l f = differ l f.on ++ (differ l f.ways.broken ++ differ l f.ways.continued)

  abbrev picked : Way → Flow S → Option S
  picked on f = f.on
  picked broken f = f.ways.broken
  picked continued f = f.ways.continued
  picked returned f = f.ways.returned

  pub kept_stops : (w v : Way) (l : ℕ) (f : Flow S) (t : Stop) → w ≡ v → IsStop k (others v l f) t
      → IsStop k (only w l (flow_view f)).log.faults t
  kept_stops w v l f t e h = subst (λ z. IsStop k (only z l (flow_view f)).log.faults t) (sym e) (each v h)
    where
      each : (v : Way) → IsStop k (others v l f) t → IsStop k (only v l (flow_view f)).log.faults t
      each on h = h
      each broken h = h
      each continued h = h
      each returned h = h

  pub kept_found : (w v : Way) (l : ℕ) (f g : Flow S) (n : ℕ) → w ≡ v → others v l f ≡ []
      → g.on ≡ (left_by v (picked v f) (logged [] 0 [])).on
      → ways_view g.ways ≡ (left_by v (picked v f) (logged [] 0 [])).ways
      → HasFound k (only w l (flow_view f)) g n n
  kept_found w v l f g n e q a b = subst (λ z. HasFound k (only z l (flow_view f)) g n n) (sym e) (each v q a b)
    where
      each : (v : Way) → others v l f ≡ [] → g.on ≡ (left_by v (picked v f) (logged [] 0 [])).on
          → ways_view g.ways ≡ (left_by v (picked v f) (logged [] 0 [])).ways
          → HasFound k (only v l (flow_view f)) g n n
      each on q a b = record { on = a; ways = b; log = record { quiet = q; taken = plus_zero n; within = λ h. h } }
      each broken q a b = record { on = a; ways = b; log = record { quiet = q; taken = plus_zero n; within = λ h. h } }
      each continued q a b = record
          { on = a; ways = b; log = record { quiet = q; taken = plus_zero n; within = λ h. h } }
      each returned q a b = record {
        on = a;
        ways = b;
        log =
            record { quiet = q; taken = plus_zero n; within = λ h. h };
      }

  pub came_after : (l : ℕ) (f g : Flow S) (n : ℕ) → differ l f.ways.returned ≡ [] → g.on ≡ None
      → ways_view g.ways ≡ record { broken = f.ways.broken; continued = None; returned = None }
      → HasFound k (comes_after l (flow_view f)) g n n
  came_after l f g n q a b = record
      { on = a; ways = b; log = record { quiet = q; taken = plus_zero n; within = λ h. h } }

  -- ---- a statement without statements in it

  module _ (here n : ℕ) (m : Mode) (l : ℕ) (s : S) (r : Option (ℕ × Scalar))
      (er : r ≡ result_in (slice_get k.plan.program.functions here)) where
    abbrev step : What → Option (ℕ × Scalar) → Transfer S
    step v r = k.raw.simple m r (simple_of v) s

    pub simple_stops : (v : What) → is_simple v ≡ true → (t : Stop)
        → IsStop k (found_at l (least (step v r).faults)) t → IsStop k (one k here v n m l s).log.faults t
    simple_stops (simple w) e t h =
        each (is_return w) (subst (λ z. IsStop k (found_at l (least (step (simple w) z).faults)) t) er h)
      where
        each : (b : Bool) → IsStop k (found_at l (least (step (simple w) (result_in (slice_get
            k.plan.program.functions here))).faults)) t
            → IsStop k (simple_pass (way_if b) l (with_least (step (simple w) (result_in (slice_get
            k.plan.program.functions here))))).log.faults t
        each true h = h
        each false h = h
    simple_stops (call i es d) e t h = absurd cc
    simple_stops (if_else x a b) e t h = absurd cc
    simple_stops (loop first x a b) e t h = absurd cc
    simple_stops break_loop e t h = absurd cc
    simple_stops continue_loop e t h = absurd cc
    simple_stops (by_order o a b) e t h = absurd cc
    simple_stops (scope bs a) e t h = absurd cc

    pub simple_found : (v : What) → is_simple v ≡ true → (b : Bool) → b ≡ is_return (simple_of v) → (f : Flow S)
        → found_at l (least (step v r).faults) ≡ [] → (u : Option S) → u ≡ (step v r).next
        → f.on ≡ (left_by (way_if b) u (logged [] 0 [])).on
        → ways_view f.ways ≡ (left_by (way_if b) u (logged [] 0 [])).ways → HasFound k (one k here v n m l s) f n n
    simple_found (simple w) e b eb f q u eu a d =
        let g = step (simple w) (result_in (slice_get k.plan.program.functions here)) in
        let q' : found_at l (least g.faults) ≡ [] = subst (λ z. found_at l (least (step (simple w) z).faults) ≡ []) er q
        in
        let u' : u ≡ g.next = eu ∙ ap (λ z. (step (simple w) z).next) er in
        subst (λ z. HasFound k (simple_pass (way_if z) l (with_least g)) f n n) eb
        (each b q' (a ∙ ap (λ z. (left_by (way_if b) z (logged [] 0 [])).on) u')
        (d ∙ ap (λ z. (left_by (way_if b) z (logged [] 0 [])).ways) u'))
      where
        each : (b : Bool) → found_at l (least (step (simple w) (result_in (slice_get k.plan.program.functions
            here))).faults) ≡ [] → f.on ≡ (left_by (way_if b) (step (simple w) (result_in (slice_get
            k.plan.program.functions here))).next (logged [] 0 [])).on
            → ways_view f.ways ≡ (left_by (way_if b) (step (simple w) (result_in (slice_get k.plan.program.functions
            here))).next (logged [] 0 [])).ways
            → HasFound k (simple_pass (way_if b) l (with_least (step (simple w) (result_in (slice_get
            k.plan.program.functions here))))) f n n
        each true q a d = record { on = a; ways = d; log = record { quiet = q; taken = plus_zero n; within = λ h. h } }
        each false q a d = record { on = a; ways = d; log = record { quiet = q; taken = plus_zero n; within = λ h. h } }
    simple_found (call i es d) e b eb f q u eu a c = absurd cc
    simple_found (if_else x a b) e t eb f q u eu c d = absurd cc
    simple_found (loop first x a b) e t eb f q u eu c d = absurd cc
    simple_found break_loop e b eb f q u eu a d = absurd cc
    simple_found continue_loop e b eb f q u eu a d = absurd cc
    simple_found (by_order o a b) e t eb f q u eu c d = absurd cc
    simple_found (scope bs a) e t eb f q u eu c d = absurd cc

  -- ---- what comes of a call

  module _ (l n : ℕ) (go : S → Transfer S) (v : Option S) (s : S) (ev : v ≡ Some s) where
    pub result_stops : (t : Stop) → IsStop k (found_at l (go s).faults) t
        → IsStop k (branch v (λ s. simple_pass on l (go s))).log.faults t
    result_stops t h = subst (λ z. IsStop k (branch z (λ s. simple_pass on l (go s))).log.faults t) (sym ev) h

    pub result_found : (f : Flow S) (u : Option S) → found_at l (go s).faults ≡ [] → u ≡ (go s).next → f.on ≡ u
        → ways_view f.ways ≡ record { broken = None; continued = None; returned = None }
        → HasFound k (branch v (λ s. simple_pass on l (go s))) f n n
    result_found f u q e a b = subst (λ z. HasFound k (branch z (λ s. simple_pass on l (go s))) f n n) (sym ev)
        (record { on = a ∙ e; ways = b; log = record { quiet = q; taken = plus_zero n; within = λ h. h } })

  -- ---- states within a head

  module _ (n l : ℕ) (h s copy : S) (q : S × S) (ec : copy ≡ h) (eq : q ≡ k.raw.unified copy s) where
    second_is : q.1 ≡ (k.raw.unified h s).1
    second_is = ap (λ (z : S × S). z.1) (eq ∙ ap (λ z. k.raw.unified z s) ec)

    pub is_within : k.raw.leq q.1 h ≡ true → outside_of k.raw k.fails n l h (Some s) ≡ []
    is_within d = let i : k.raw.leq (k.raw.unified h s).1 h ≡ true = ap (λ z. k.raw.leq z h) (sym second_is) ∙ d in
        rw i refl

    pub is_outside : (cell : ℕ) → slice_get k.list n ≡ Some h → k.raw.leq q.1 h ≡ false → cell ≡ k.fails q.1 h
        → IsStop k (outside_of k.raw k.fails n l h (Some s)) (stops.Outside n cell)
    is_outside cell at d ec =
        let i : k.raw.leq (k.raw.unified h s).1 h ≡ false = ap (λ z. k.raw.leq z h) (sym second_is) ∙ d in
        let j : cell ≡ k.fails (k.raw.unified h s).1 h = ec ∙ ap (λ z. k.fails z h) second_is in (
          rw i (record {
            event = outside l n (k.fails (k.raw.unified h s).1 h);
            rest = [];
            is = refl;
            shown = ap (stops.Outside n) (sym j);
          }),
          record { head = h; is_there = at; state = s; fails = i; cell = j },
        )
