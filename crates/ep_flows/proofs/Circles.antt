-- Heads, one after another, and circles of them.
use Rattle.std.proofs.Common.{◌≡◌, ◌^◌, ℕ, zero, suc, ◌+◌, ◌-◌, ◌*◌, ◌<◌, ◌≤◌, ◌⊎◌, inl, inr, Bool, true, false, List}
use Rattle.std.proofs.Common.{[], ◌∷◌, fold, map, refl, sym, ap, ◌∙◌, subst, arith, Option, Some, None, if◌then◌else◌}
use Rattle.std.specs.Option.{option_map}
use Rattle.std.proofs.Math.Nat.{suc-mul, zero-mul}
use Rattle.ep_alarms.specs.declared.types.Alarm.{Alarm}
use Rattle.ep_alarms.specs.Report.{added}
use Rattle.ep_pass.specs.States.{StateOps}
use Rattle.ep_pass.specs.Pass.{alarm_of, Log, logged, both_logs, Pass, from_head, dropped, settled, is_stable, next_head}
use Rattle.ep_pass.specs.Heads.{more_turns, IsTriedAgain, next_of, head_after, turns_at, NoneKept}
use Rattle.ep_pass.specs.ReportLaws.{HeadsGoRound}
use Rattle.ep_flows.specs.View.{Told, Tells, HasPassed, capped, more_heads, kept_heads, wider_of}
use Rattle.ep_flows.specs.declared.flow.Flow.{Flow}
use Rattle.ep_flows.specs.declared.heads.Rounds.{Rounds}
use Rattle.ep_flows.specs.Rounds.{ComesRound}
use Rattle.ep_flows.proofs.Gathering.{gathered_apart}
use Rattle.ep_flows.proofs.Telling.{tells_nothing}
use Rattle.ep_flows.proofs.Combined.{Leads, after_passed}

-- ---- what a fresh log was told

-- a log with nothing in it, beside one that is so far
pub record Fresh {S : Type 0} (now found : Told S) : Type 0 where
  pub alarms : found.alarms ≡ []
  pub count : found.count ≡ 0
  pub heads : found.heads ≡ option_map (λ (h : List S). []) now.heads

module _ {S : Type 0} where
  kept_all : (hs : Option (List S)) (h : S) (more : List S) → kept_heads hs h (more_heads (option_map
      (λ (h : List S). []) hs) more) ≡ more_heads hs (h ∷ more)
  kept_all None h more = refl
  kept_all (Some gs) h more = refl

  -- a turn that is kept, with its head
  pub head_tells : (g : Log S) (h : S) (now found done new : Told S) → Fresh now found → Tells g found done
      → new.alarms ≡ fold added now.alarms done.alarms → capped new.count ≡ capped (now.count + done.count)
      → new.heads ≡ kept_heads now.heads h done.heads
      → Tells (both_logs (logged [] 0 (h ∷ [])) g) now new
  head_tells g h now found done new fr t a c hs = record {
    alarms = a ∙ ap (fold added now.alarms) (t.alarms ∙ ap (λ l. fold added l (map alarm_of g.faults)) fr.alarms)
        ∙ gathered_apart now.alarms (map alarm_of g.faults);
    count = counts now.count found.count done.count new.count g.count fr.count t.count c;
    heads = hs ∙ ap (kept_heads now.heads h) (t.heads ∙ ap (λ l. more_heads l g.heads) fr.heads)
        ∙ kept_all now.heads h g.heads;
  }
    where
      counts : (a b c d e : ℕ) → b ≡ 0 → capped c ≡ capped (b + e) → capped d ≡ capped (a + c)
          → capped d ≡ capped (a + (0 + e))
      counts a b c d e h i j = omega (arith, h, i, j)

  -- a turn of which only the count is kept
  pub drop_tells : (g : Log S) (now found done new : Told S) → Fresh now found → Tells g found done
      → new.alarms ≡ now.alarms → capped new.count ≡ capped (now.count + 1 * done.count) → new.heads ≡ now.heads
      → Tells (logged [] g.count []) now new
  drop_tells g now found done new fr t a c hs = record {
    alarms = a;
    count = counts now.count found.count done.count new.count g.count fr.count t.count c;
    heads = hs ∙ (tells_nothing now).heads;
  }
    where
      counts : (a b c d e : ℕ) → b ≡ 0 → capped c ≡ capped (b + e) → capped d ≡ capped (a + 1 * c)
          → capped d ≡ capped (a + e)
      counts a b c d e h i j = omega (arith, h, i, j)

-- ---- counts up to a largest number

at_least : (k c : ℕ) → c ≤ suc k * c
at_least k c = let e : suc k * c ≡ k * c + c = suc-mul k c in omega (arith, e)

capped_times : (q a b : ℕ) → capped a ≡ capped b → capped (q * a) ≡ capped (q * b)
capped_times zero a b e = let i = zero-mul a in let j = zero-mul b in ap capped (i ∙ sym j)
capped_times (suc k) a b e = split (either a b e)
  where
    either : (a b : ℕ) → capped a ≡ capped b → (a ≡ b) ⊎ ((18446744073709551615 ≤ a) × (18446744073709551615 ≤ b))
    either a b e = grind arith

    split : (a ≡ b) ⊎ ((18446744073709551615 ≤ a) × (18446744073709551615 ≤ b)) → capped (suc k * a) ≡ capped
        (suc k * b)
    split (inl d) = ap (λ z. capped (suc k * z)) d
    split (inr d) = let i = at_least k a in let j = at_least k b in let x = d.0 in let y = d.1 in omega
        (arith, i, j, x, y)

-- ---- heads

module _ {S : Type 0} (o : StateOps S) (turn : S → Pass S) where
  abbrev tries : ℕ → S → Pass S
  tries k h = settled o turn k h

  abbrev wider : S → Option S → Option S
  wider = wider_of o

  stays : (h : S) (v : Option S) → wider h v ≡ None → is_stable o h v ≡ true
  stays h None k = refl
  stays h (Some s) k = by_test (o.leq (o.unified h s).1 h) k
    where
      by_test : (b : Bool) → (if b then None else Some (o.reshared (o.widened (o.unified h s).0
          (o.unified h s).1))) ≡ None → b ≡ true
      by_test true k = refl
      by_test false k = absurd cc

  pub record Widens (h : S) (v : Option S) (n : S) : Type 0 where
    pub tried : is_stable o h v ≡ false
    pub next : next_head o h v ≡ n

  pub widens : (h : S) (v : Option S) (n : S) → wider h v ≡ Some n → Widens h v n
  widens h None n k = absurd cc
  widens h (Some s) n k = let r = by_test (o.leq (o.unified h s).1 h) k in record { tried = r.0; next = r.1 }
    where
      by_test : (b : Bool) → (if b then None else Some (o.reshared (o.widened (o.unified h s).0
          (o.unified h s).1))) ≡ Some n → (b ≡ false) × (o.reshared (o.widened (o.unified h s).0
          (o.unified h s).1) ≡ n)
      by_test true k = absurd cc
      by_test false k = (refl, cc)

  kept_now : (k : ℕ) (h : S) → is_stable o h (turn h).on ≡ true → tries (suc k) h ≡ from_head h
      (turn h)
  kept_now k h s = ap (λ b. if b then from_head h (turn h) else dropped (turn h) (tries k
      (next_head o h (turn h).on))) s

  not_now : (k : ℕ) (h : S) → is_stable o h (turn h).on ≡ false → tries (suc k) h ≡ dropped (turn h)
      (tries k (next_head o h (turn h).on))
  not_now k h s = ap (λ b. if b then from_head h (turn h) else dropped (turn h) (tries k
      (next_head o h (turn h).on))) s

  -- what came of a turn from a head
  module _ (h : S) (f : Flow S) (now found done new start : Told S) (whole : Pass S) (fr : Fresh now found)
      (t : HasPassed (turn h) f found done) where
    from_kept : new.alarms ≡ fold added now.alarms done.alarms → capped new.count ≡ capped (now.count + done.count)
        → new.heads ≡ kept_heads now.heads h done.heads → HasPassed (from_head h (turn h)) f now new
    from_kept a c hs = record {
      on = t.on;
      ways = t.ways;
      log = head_tells (turn h).log h now found done new fr t.log
          a c hs;
    }

    pub head_kept : (left : ℕ) (w : Option S) → 0 < left → Leads (tries left h) now whole start → w ≡ wider h f.on
        → w ≡ None
        → new.alarms ≡ fold added now.alarms done.alarms → capped new.count ≡ capped (now.count + done.count)
        → new.heads ≡ kept_heads now.heads h done.heads → HasPassed whole f start new
    head_kept left w lt lead ew en a c hs =
        let n : left ≡ suc (left - 1) = omega arith in
        let s : is_stable o h (turn h).on ≡ true = stays h (turn h).on (ap (wider h) (sym t.on)
        ∙ sym ew ∙ en) in
        lead f new (subst (λ k. HasPassed (tries k h) f now new) (sym n) (subst (λ p. HasPassed p f now new)
        (sym (kept_now (left - 1) h s)) (from_kept a c hs)))

    pub head_next : (left : ℕ) (w : Option S) (next : S) → 0 < left → Leads (tries left h) now whole start
        → w ≡ wider h f.on → w ≡ Some next
        → new.alarms ≡ now.alarms → capped new.count ≡ capped (now.count + 1 * done.count) → new.heads ≡ now.heads
        → Leads (tries (left - 1) next) new whole start
    head_next left w next lt lead ew en a c hs g end k =
        let n : left ≡ suc (left - 1) = omega arith in
        let d = widens h (turn h).on next (ap (wider h) (sym t.on) ∙ sym ew ∙ en) in
        let k' = subst (λ z. HasPassed (tries (left - 1) z) g new end) (sym d.next) k in
        let q = tries (left - 1) (next_head o h (turn h).on) in
        let step : HasPassed (dropped (turn h) q) g now end = after_passed (logged [] (turn h).log.count []) q g now
        new end (drop_tells (turn h).log now found done new fr t.log a c hs) k' in
        lead g end (subst (λ k. HasPassed (tries k h) g now end) (sym n) (subst (λ p. HasPassed p g now end)
        (sym (not_now (left - 1) h d.tried)) step))

  -- the last head
  pub head_last : (left : ℕ) (at h : S) (f : Flow S) (now found done new start : Told S) (whole : Pass S)
      → Fresh now found → HasPassed (turn h) f found done → left ≡ 0 → h ≡ o.empty
      → Leads (tries left at) now whole start
      → new.alarms ≡ fold added now.alarms done.alarms → capped new.count ≡ capped (now.count + done.count)
      → new.heads ≡ kept_heads now.heads h done.heads → HasPassed whole f start new
  head_last left at h f now found done new start whole fr t en eh lead a c hs =
      let k : HasPassed (from_head h (turn h)) f now new = from_kept h f now found done new start whole fr t a c hs in
      lead f new (subst (λ n. HasPassed (tries n at) f now new) (sym en) (subst (λ z. HasPassed (from_head z
      (turn z)) f now new) eh k))

  -- ---- circles

  abbrev after_some : ℕ → S → S
  after_some = head_after o turn

  abbrev turns_of_some : ℕ → S → ℕ
  turns_of_some = turns_at o turn

  -- the head is the one after so many from a marked one, none of which is kept
  pub record Since (mark head : S) (since counted : ℕ) : Type 0 where
    pub tried : NoneKept o turn since mark
    pub at : after_some since mark ≡ head
    pub count : capped counted ≡ capped (turns_of_some since mark)

  pub since_none : (h : S) (n m : ℕ) → n ≡ 0 → m ≡ 0 → Since h h n m
  since_none h n m e d = subst (λ n. Since h h n m) (sym e) (record { tried = tt; at = refl; count = ap capped d })

  tried_more : (d : ℕ) (h : S) → NoneKept o turn d h → IsTriedAgain o turn
      (after_some d h) → NoneKept o turn (suc d) h
  tried_more zero h a b = (b, tt)
  tried_more (suc d) h a b = (a.0, tried_more d (next_of o turn h) a.1 b)

  after_more : (d : ℕ) (h : S) → after_some (suc d) h ≡ next_of o turn (after_some d h)
  after_more zero h = refl
  after_more (suc d) h = after_more d (next_of o turn h)

  turns_more : (d : ℕ) (h : S) → turns_of_some (suc d) h ≡ turns_of_some d h + (turn (after_some d h)).log.count
  turns_more zero h = omega arith
  turns_more (suc d) h = let i = turns_more d (next_of o turn h) in omega (arith, i)

  pub since_more : (mark h next : S) (since since' counted counted' : ℕ) (f : Flow S) (w : Option S)
      (found done : Told S) → Since mark h since counted → HasPassed (turn h) f found done → found.count ≡ 0
      → w ≡ wider h f.on → w ≡ Some next → since' ≡ since + 1 → capped counted' ≡ capped (counted + done.count)
      → Since mark next since' counted'
  since_more mark h next since since' counted counted' f w found done s t z ew en es ec =
      let d = widens h (turn h).on next (ap (wider h) (sym t.on) ∙ sym ew ∙ en) in
      let n : since' ≡ suc since = omega (arith, es) in
      let m = turns_more since mark in
      let k : (turn (after_some since mark)).log.count ≡ (turn h).log.count = ap (λ z. (turn z).log.count) s.at in
      let tried : IsTriedAgain o turn (after_some since mark) = subst
      (λ z. IsTriedAgain o turn z) (sym s.at) d.tried in
      subst (λ n. Since mark next n counted') (sym n) (record {
        tried = tried_more since mark s.tried tried;
        at = after_more since mark ∙ ap (next_of o turn) s.at ∙ d.next;
        count = counts counted counted' done.count found.count (turn h).log.count (turn
            (after_some since mark)).log.count (turns_of_some since mark) (turns_of_some
            (suc since) mark) z ec t.log.count s.count k m;
      })
    where
      counts : (a a' d f g g' x x' : ℕ) → f ≡ 0 → capped a' ≡ capped (a + d) → capped d ≡ capped (f + g)
          → capped a ≡ capped x → g' ≡ g → x' ≡ x + g' → capped a' ≡ capped x'
      counts a a' d f g g' x x' p q r s t u = omega (arith, p, q, r, s, t, u)

  -- where the marked head comes again, the rounds that are left are known
  pub head_again : HeadsGoRound S → (mark h : S) (since counted left rounds rest : ℕ) (now new start : Told S)
      (whole : Pass S) → Since mark h since counted → h ≡ mark → left ≡ rounds * since + rest
      → Leads (tries left h) now whole start
      → new.alarms ≡ now.alarms → capped new.count ≡ capped (now.count + rounds * counted) → new.heads ≡ now.heads
      → Leads (tries rest h) new whole start
  head_again law mark h since counted left rounds rest now new start whole s eh el lead a c hs g end k =
      let t = turns_of_some since mark in
      let ct = capped_times rounds counted t s.count in
      let tells : Tells (logged [] (rounds * t) []) now new = record {
        alarms = a;
        count = counts now.count new.count (rounds * counted) (rounds * t) c ct;
        heads = hs ∙ (tells_nothing now).heads;
      } in
      let k' = subst (λ z. HasPassed (tries rest z) g new end) eh k in
      let step : HasPassed (more_turns (rounds * t) (tries rest mark)) g now end = after_passed (logged []
      (rounds * t) []) (tries rest mark) g now new end tells k' in
      let known : tries left mark ≡ more_turns (rounds * t) (tries rest mark) = law o turn since mark
      s.tried (s.at ∙ eh) rounds rest left el in
      lead g end (subst (λ z. HasPassed (tries left z) g now end) (sym eh) (subst (λ p. HasPassed p g now end)
      (sym known) step))
    where
      counts : (a b x y : ℕ) → capped b ≡ capped (a + x) → capped x ≡ capped y → capped b ≡ capped (a + y)
      counts a b x y c d = omega (arith, c, d)

  -- ---- what a loop over heads keeps

  abbrev told : List Alarm → ℕ → Option (List S) → Told S
  told a c hs = record { alarms = a; count = c; heads = hs }

  same_told : (now new : Told S) → new.count ≡ now.count → new.alarms ≡ now.alarms → new.heads ≡ now.heads → new ≡ now
  same_told now new c a h = ap (λ z. told z new.count new.heads) a ∙ ap (λ z. told now.alarms z new.heads) c
      ∙ ap (told now.alarms now.count) h

  still : (r s : Rounds S) (h : S) (now new start : Told S) (whole : Pass S) → Leads (tries r.left h) now whole start
      → s.left ≡ r.left → new.count ≡ now.count → new.alarms ≡ now.alarms → new.heads ≡ now.heads
      → Leads (tries s.left h) new whole start
  still r s h now new start whole lead el c a hs =
      subst (λ n. Leads (tries n h) new whole start) (sym el) (subst (λ z. Leads (tries r.left h) z whole start)
      (sym (same_told now new c a hs)) lead)

  pub record Goes (r : Rounds S) (h : S) (now : Told S) (start : Told S) (whole : Pass S) : Type 0 where
    pub leads : Leads (tries r.left h) now whole start
    pub since : Since r.mark h r.since r.counted
    pub bound : r.since + r.left ≤ 2 ^ 128 - 1

  pub goes_first : (r : Rounds S) (h : S) (n : ℕ) (now : Told S) → n ≤ 2 ^ 128 - 1 → r.mark ≡ h → r.left ≡ n
      → r.since ≡ 0 → r.counted ≡ 0
      → Goes r h now now (tries n h)
  goes_first r h n now b em el es ec = record {
    leads = λ f new k. subst (λ m. HasPassed (tries m h) f now new) el k;
    since = subst (λ z. Since z h r.since r.counted) (sym em) (since_none h r.since r.counted es ec);
    bound = omega (arith, el, es, b);
  }

  -- a head is tried, and not kept
  pub goes_next : (r s : Rounds S) (h next : S) (f : Flow S) (w : Option S) (now found done new start : Told S)
      (whole : Pass S) → Goes r h now start whole → 0 < r.left
      → Fresh now found → HasPassed (turn h) f found done → w ≡ wider h f.on → w ≡ Some next
      → new.alarms ≡ now.alarms → capped new.count ≡ capped (now.count + 1 * done.count) → new.heads ≡ now.heads
      → s.mark ≡ r.mark → s.left ≡ r.left - 1 → s.since ≡ r.since + 1
      → capped s.counted ≡ capped (r.counted + done.count)
      → Goes s next new start whole
  goes_next r s h next f w now found done new start whole g lt fr t ew en a c hs em el es ec =
      let lead : Leads (tries (r.left - 1) next) new whole start = head_next h f now found done new start whole fr t
      r.left w next lt g.leads ew en a c hs in
      let b = g.bound in
      record {
        leads = subst (λ n. Leads (tries n next) new whole start) (sym el) lead;
        since = subst (λ z. Since z next s.since s.counted) (sym em) (since_more r.mark h next r.since s.since
            r.counted s.counted f w found done g.since t fr.count ew en es ec);
        bound = omega (arith, el, es, b, lt);
      }

  -- the marked head comes again, or another is marked
  pub goes_round : HeadsGoRound S → (r s : Rounds S) (h : S) (now new start : Told S) (whole : Pass S)
      → Goes r h now start whole → ComesRound r h s now.count new.count → new.alarms ≡ now.alarms
      → new.heads ≡ now.heads
      → Goes s h new start whole
  goes_round law r s h now new start whole g (inl k) a hs =
      let lead : Leads (tries s.left h) new whole start = head_again law r.mark h r.since r.counted r.left k.times
      s.left now new start whole g.since k.same k.left g.leads a k.count hs in
      let b = g.bound in
      let e = k.left in
      let z = k.marked.since in
      record {
        leads = lead;
        since = subst (λ z. Since z h s.since s.counted) (sym k.marked.mark)
            (since_none h s.since s.counted k.marked.since k.marked.counted);
        bound = omega (arith, b, e, z);
      }
  goes_round law r s h now new start whole g (inr (inl k)) a hs =
      let b = g.bound in
      let e = k.left in
      let z = k.marked.since in
      record {
        leads = still r s h now new start whole g.leads k.left k.count a hs;
        since = subst (λ z. Since z h s.since s.counted) (sym k.marked.mark)
            (since_none h s.since s.counted k.marked.since k.marked.counted);
        bound = omega (arith, b, e, z);
      }
  goes_round law r s h now new start whole g (inr (inr k)) a hs =
      let b = g.bound in
      let e = k.left in
      let z = k.since in
      record {
        leads = still r s h now new start whole g.leads k.left k.count a hs;
        since = rw (k.mark, k.since, k.counted) g.since;
        bound = omega (arith, b, e, z);
      }
