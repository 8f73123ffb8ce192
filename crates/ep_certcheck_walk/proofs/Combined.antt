-- What was found, piece by piece, as a pass says.
use Rattle.std.proofs.Common.{◌≡◌, ℕ, ◌+◌, List, [], ◌∷◌, ◌++◌, length, refl, sym, ap, ◌∙◌, subst, arith, Option, Some}
use Rattle.std.proofs.Common.{None, Result, Ok, Err}
use Rattle.std.proofs.lemmas.List.{append-nil}
use Rattle.ep_core.specs.Exec.{Way, on, broken, continued, returned}
use Rattle.ep_pass.specs.States.{Mode}
use Rattle.ep_pass.specs.Pass.{Ways, Event, Log, logged, both_logs, Pass, passed, after, branch, differ, ends, none}
use Rattle.ep_pass.specs.Pass.{leave_loop, comes_after, join_on, join_ways, leave_on, either_pass, go_on, then_pass}
use Rattle.ep_flows.specs.View.{ways_view, flow_view}
use Rattle.ep_flows.specs.declared.flow.Flow.{Flow}
use Rattle.ep_certcheck_walk.specs.declared.stop.Stop.{Stop}
use Rattle.ep_certcheck_walk.specs.declared.stop.Stop.TheVariants.{OutOfMemory, Fault, Outside, Missing}
use Rattle.ep_certcheck_walk.specs.Pieces.{only}
use Rattle.ep_certcheck_walk.specs.Stops.{Course, checking, Begins, IsStop, Counts, HasFound, Finds}

-- ---- what is counted

plus_zero : (n : ℕ) → n ≡ n + 0
plus_zero n = omega arith

pub length_both : {S : Type 0} (xs ys : List S) → length (xs ++ ys) ≡ length xs + length ys
length_both [] ys = omega arith
length_both (x ∷ xs) ys = let i = length_both xs ys in omega (arith, i)

module _ {S : Type 0} (k : Course S) where
  pub counts_events : (es : List Event) (n : ℕ) → es ≡ [] → Counts k (logged es 0 []) n n
  counts_events es n e = record { quiet = e; taken = plus_zero n; within = λ h. h }

  pub counts_none : (n : ℕ) → Counts k (logged [] 0 []) n n
  counts_none n = counts_events [] n refl

  pub counts_both : (g h : Log S) (old mid new : ℕ) → Counts k g old mid → Counts k h mid new
      → Counts k (both_logs g h) old new
  counts_both g h old mid new a b = record {
    quiet = ap (λ z. z ++ h.faults) a.quiet ∙ b.quiet;
    taken = sums old mid new (length g.heads) (length h.heads) a.taken b.taken
        ∙ ap (λ z. old + z) (sym (length_both g.heads h.heads));
    within = λ i. b.within (a.within i);
  }
    where
      sums : (a b c d e : ℕ) → b ≡ a + d → c ≡ b + e → c ≡ a + (d + e)
      sums a b c d e h i = omega (arith, h, i)

  pub drop_nothing : (g : Log S) (old new : ℕ) → Counts k (both_logs (logged [] 0 []) g) old new → Counts k g old new
  drop_nothing g old new t = record { quiet = t.quiet; taken = t.taken; within = t.within }

  pub put_nothing : (g : Log S) (old new : ℕ) → Counts k g old new → Counts k (both_logs (logged [] 0 []) g) old new
  put_nothing g old new t = record { quiet = t.quiet; taken = t.taken; within = t.within }

  pub drop_last : (g : Log S) (old new : ℕ) → Counts k (both_logs g (logged [] 0 [])) old new → Counts k g old new
  drop_last g old new t = record {
    quiet = sym (append-nil g.faults) ∙ t.quiet;
    taken = t.taken ∙ ap (λ z. old + length z) (append-nil g.heads);
    within = t.within;
  }

-- ---- stops

begins_front : (es fs : List Event) (s : Stop) → Begins es s → Begins (es ++ fs) s
begins_front es fs s b = record {
  event = b.event;
  rest = b.rest ++ fs;
  is = ap (λ z. z ++ fs) b.is;
  shown = b.shown;
}

module _ {S : Type 0} (k : Course S) where
  pub front : (es fs : List Event) (s : Stop) → IsStop k es s → IsStop k (es ++ fs) s
  front es fs OutOfMemory h = tt
  front es fs (Fault l a) h = begins_front es fs (Fault l a) h
  front es fs (Outside i n) h = (begins_front es fs (Outside i n) h.0, h.1)
  front es fs (Missing l) h = begins_front es fs (Missing l) h

  pub behind : (es fs : List Event) (s : Stop) → es ≡ [] → IsStop k fs s → IsStop k (es ++ fs) s
  behind es fs s e h = subst (λ z. IsStop k (z ++ fs) s) (sym e) h

  -- ---- what is left to do, q, from here, is p from the start
  abbrev pub Leads : Pass S → ℕ → Pass S → ℕ → Type 0
  Leads q now p start = (x : Result (Flow S) Stop) (new : ℕ) → Finds k q x now new → Finds k p x start new

  pub after_found : (g : Log S) (p : Pass S) (x : Result (Flow S) Stop) (old mid new : ℕ) → Counts k g old mid
      → Finds k p x mid new → Finds k (after g p) x old new
  after_found g p (Ok f) old mid new t h = record {
    on = h.on;
    ways = h.ways;
    log = counts_both k g p.log old mid new t h.log;
  }
  after_found g p (Err s) old mid new t h = behind g.faults p.log.faults s t.quiet h

  -- ---- one way out of a pass is kept

  only_each : (w : Way) (l : ℕ) (u : Option S) (v : Ways S) (g : Log S) (x : Result (Flow S) Stop) (old mid new : ℕ)
      → Counts k g old mid → Finds k (only w l (passed u v (logged [] 0 []))) x mid new
      → Finds k (only w l (passed u v g)) x old new
  only_each on l u v g (Ok h) old mid new t i = record {
    on = i.on;
    ways = i.ways;
    log = counts_both k g (logged
        (differ l v.broken ++ (differ l v.continued ++ differ l v.returned)) 0 []) old mid new t
        (drop_nothing k (logged (differ l v.broken ++
        (differ l v.continued ++ differ l v.returned)) 0 []) mid new i.log);
  }
  only_each broken l u v g (Ok h) old mid new t i = record {
    on = i.on;
    ways = i.ways;
    log = counts_both k g (logged (differ l u ++ (differ l v.continued ++ differ l v.returned)) 0 []) old mid new t
        (drop_nothing k (logged (differ l u ++ (differ l v.continued ++ differ l v.returned)) 0 []) mid new i.log);
  }
  only_each continued l u v g (Ok h) old mid new t i = record {
    on = i.on;
    ways = i.ways;
    log = counts_both k g (logged (differ l u ++ (differ l v.broken ++ differ l v.returned)) 0 []) old mid new t
        (drop_nothing k (logged (differ l u ++ (differ l v.broken ++ differ l v.returned)) 0 []) mid new i.log);
  }
  only_each returned l u v g (Ok h) old mid new t i = record {
    on = i.on;
    ways = i.ways;
    log = counts_both k g (logged (differ l u ++ (differ l v.broken ++ differ l v.continued)) 0 []) old mid new t
        (drop_nothing k (logged (differ l u ++ (differ l v.broken ++ differ l v.continued)) 0 []) mid new i.log);
  }
  only_each on l u v g (Err s) old mid new t i =
      behind g.faults (differ l v.broken ++ (differ l v.continued ++ differ l v.returned)) s t.quiet i
  only_each broken l u v g (Err s) old mid new t i =
      behind g.faults (differ l u ++ (differ l v.continued ++ differ l v.returned)) s t.quiet i
  only_each continued l u v g (Err s) old mid new t i =
      behind g.faults (differ l u ++ (differ l v.broken ++ differ l v.returned)) s t.quiet i
  only_each returned l u v g (Err s) old mid new t i =
      behind g.faults (differ l u ++ (differ l v.broken ++ differ l v.continued)) s t.quiet i

  -- the same pass, where its states are told by what came of it
  told_by : (p : Pass S) (f : Flow S) (old new : ℕ) → HasFound k p f old new → passed f.on (ways_view f.ways) p.log ≡ p
  told_by p f old new h = ap (λ z. passed z (ways_view f.ways) p.log) h.on ∙ ap (λ z. passed p.on z p.log) h.ways

  pub only_found : (w : Way) (l : ℕ) (p : Pass S) (f : Flow S) (x : Result (Flow S) Stop) (old mid new : ℕ)
      → HasFound k p f old mid → Finds k (only w l (flow_view f)) x mid new → Finds k (only w l p) x old new
  only_found w l p f x old mid new h i = subst (λ z. Finds k (only w l z) x old new) (told_by p f old mid h)
      (only_each w l f.on (ways_view f.ways) p.log x old mid new h.log i)

  pub only_front : (w : Way) (l : ℕ) (p : Pass S) (s : Stop) → IsStop k p.log.faults s
      → IsStop k (only w l p).log.faults s
  only_front on l p s h =
      front p.log.faults (differ l p.ways.broken ++ (differ l p.ways.continued ++ differ l p.ways.returned)) s h
  only_front broken l p s h =
      front p.log.faults (differ l p.on ++ (differ l p.ways.continued ++ differ l p.ways.returned)) s h
  only_front continued l p s h =
      front p.log.faults (differ l p.on ++ (differ l p.ways.broken ++ differ l p.ways.returned)) s h
  only_front returned l p s h =
      front p.log.faults (differ l p.on ++ (differ l p.ways.broken ++ differ l p.ways.continued)) s h

  after_each : (l : ℕ) (u : Option S) (v : Ways S) (g : Log S) (x : Result (Flow S) Stop) (old mid new : ℕ)
      → Counts k g old mid → Finds k (comes_after l (passed u v (logged [] 0 []))) x mid new
      → Finds k (comes_after l (passed u v g)) x old new
  after_each l u v g (Ok h) old mid new t i = record {
    on = i.on;
    ways = i.ways;
    log = counts_both k g (logged (differ l v.returned) 0 []) old mid new t
        (drop_nothing k (logged (differ l v.returned) 0 []) mid new i.log);
  }
  after_each l u v g (Err s) old mid new t i = behind g.faults (differ l v.returned) s t.quiet i

  pub comes_found : (l : ℕ) (p : Pass S) (f : Flow S) (x : Result (Flow S) Stop) (old mid new : ℕ)
      → HasFound k p f old mid → Finds k (comes_after l (flow_view f)) x mid new → Finds k (comes_after l p) x old new
  comes_found l p f x old mid new h i = subst (λ z. Finds k (comes_after l z) x old new) (told_by p f old mid h)
      (after_each l f.on (ways_view f.ways) p.log x old mid new h.log i)

  -- ---- joins: that of each statement the least fault alone is found changes nothing of them

  pub join_same : (u v : Option S) → join_on k.raw u v ≡ join_on (checking k) u v
  join_same None v = refl
  join_same (Some s) None = refl
  join_same (Some s) (Some t) = refl

  pub join_ways_same : (v w : Ways S) → join_ways k.raw v w ≡ join_ways (checking k) v w
  join_ways_same v w =
      ap (λ z. record {
        broken = z;
        continued = join_on k.raw v.continued w.continued;
        returned = join_on k.raw v.returned w.returned;
      }) (join_same v.broken w.broken)
      ∙ ap (λ z. record {
        broken = join_on (checking k) v.broken w.broken;
        continued = z;
        returned = join_on k.raw v.returned w.returned;
      }) (join_same v.continued w.continued)
      ∙ ap (λ z. record {
        broken = join_on (checking k) v.broken w.broken;
        continued = join_on (checking k) v.continued w.continued;
        returned = z;
      }) (join_same v.returned w.returned)

  pub leave_same : (m : Mode) (bs : List ℕ) (u : Option S) → leave_on k.raw m bs u ≡ leave_on (checking k) m bs u
  leave_same m bs None = refl
  leave_same m bs (Some s) = refl

  -- what comes, joined to what came before
  pub joined_found : (p : Pass S) (b f h : Flow S) (old new : ℕ) → HasFound k p f old new
      → h.on ≡ join_on k.raw b.on f.on → ways_view h.ways ≡ join_ways k.raw (ways_view b.ways) (ways_view f.ways)
      → HasFound k (either_pass (checking k) (flow_view b) p) h old new
  joined_found p b f h old new a u w = record {
    on = u ∙ join_same b.on f.on ∙ ap (join_on (checking k) b.on) a.on;
    ways = w ∙ join_ways_same (ways_view b.ways) (ways_view f.ways)
        ∙ ap (join_ways (checking k) (ways_view b.ways)) a.ways;
    log = put_nothing k p.log old new a.log;
  }

  pub then_either : (a p : Pass S) (f : Flow S) (x : Result (Flow S) Stop) (old mid new : ℕ) → HasFound k a f old mid
      → Finds k (either_pass (checking k) (flow_view f) p) x mid new → Finds k (either_pass (checking k) a p) x old new
  then_either a p f (Ok h) old mid new x y = record {
    on = y.on ∙ ap (λ z. join_on (checking k) z p.on) x.on;
    ways = y.ways ∙ ap (λ z. join_ways (checking k) z p.ways) x.ways;
    log = counts_both k a.log p.log old mid new x.log (drop_nothing k p.log mid new y.log);
  }
  then_either a p f (Err s) old mid new x y = behind a.log.faults p.log.faults s x.log.quiet y

  -- ---- what follows the end of a pass

  pub goes_on : (u : Option S) (w : Ways S) (g : Log S) (go : S → Ways S → Pass S) (next : S) (w' : Ways S)
      (x : Result (Flow S) Stop) (old mid new : ℕ) → u ≡ Some next → w ≡ w' → Counts k g old mid
      → Finds k (go next w') x mid new → Finds k (go_on (checking k) u w g go) x old new
  goes_on u w g go next w' x old mid new e d t h =
      let i : Finds k (go_on (checking k) (Some next) w' g go) x old new =
      after_found g (go next w') x old mid new t h in
      subst (λ z. Finds k (go_on (checking k) z w g go) x old new) (sym e)
      (subst (λ z. Finds k (go_on (checking k) (Some next) z g go) x old new) (sym d) i)

  pub stops_there : (u : Option S) (w : Ways S) (g : Log S) (go : S → Ways S → Pass S) (f : Flow S) (old new : ℕ)
      → u ≡ None → f.on ≡ None → ways_view f.ways ≡ w → Counts k g old new
      → HasFound k (go_on (checking k) u w g go) f old new
  stops_there u w g go f old new e a b t =
      let i : HasFound k (go_on (checking k) None w g go) f old new = record { on = a; ways = b; log = t } in
      subst (λ z. HasFound k (go_on (checking k) z w g go) f old new) (sym e) i

  pub go_front : (u : Option S) (w : Ways S) (g : Log S) (go : S → Ways S → Pass S) (s : Stop) → IsStop k g.faults s
      → IsStop k (go_on (checking k) u w g go).log.faults s
  go_front None w g go s h = h
  go_front (Some t) w g go s h = front g.faults (go t w).log.faults s h

  pub then_front : (a : Pass S) (w : Ways S) (go : S → Ways S → Pass S) (s : Stop) → IsStop k a.log.faults s
      → IsStop k (then_pass (checking k) a w go).log.faults s
  then_front a w go s h = go_front a.on (join_ways (checking k) w a.ways) a.log go s h

  -- ---- what leaves a loop

  pub leave_found : (p : Pass S) (f h : Flow S) (old new : ℕ) → HasFound k p f old new
      → h.on ≡ (leave_loop (flow_view f)).on → ways_view h.ways ≡ (leave_loop (flow_view f)).ways
      → HasFound k (leave_loop p) h old new
  leave_found p f h old new t a b = record {
    on = a ∙ ap (λ (w : Ways S). w.broken) t.ways;
    ways = b ∙ ap (λ (w : Ways S). (leave_loop (passed None w (logged [] 0 []))).ways) t.ways;
    log = t.log;
  }

  -- ---- states that are reached or not

  pub ends_found : (f : Flow S) (n : ℕ) → f.on ≡ None → ways_view f.ways ≡ none → HasFound k (ends []) f n n
  ends_found f n a b = record { on = a; ways = b; log = counts_none k n }

  pub branch_none : (u : Option S) (go : S → Pass S) (f : Flow S) (n : ℕ) → u ≡ None → f.on ≡ None
      → ways_view f.ways ≡ none → HasFound k (branch u go) f n n
  branch_none u go f n e a b = subst (λ z. HasFound k (branch z go) f n n) (sym e) (ends_found f n a b)

  pub branch_ok : (u : Option S) (s : S) (go : S → Pass S) (x : Result (Flow S) Stop) (old new : ℕ) → u ≡ Some s
      → Finds k (go s) x old new → Finds k (branch u go) x old new
  branch_ok u s go x old new e h = subst (λ z. Finds k (branch z go) x old new) (sym e) h
