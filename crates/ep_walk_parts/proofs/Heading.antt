-- The heads of a joint loop.
use Rattle.std.proofs.Common.{◌≡◌, ◌^◌, ℕ, ◌+◌, ◌-◌, ◌*◌, ◌<◌, ◌≤◌, inl, inr, fold, ap, ◌∙◌, subst, arith, Option}
use Rattle.std.proofs.Common.{Some, None}
use Rattle.ep_int.specs.declared.types.Order.{Order}
use Rattle.ep_alarms.specs.Report.{added}
use Rattle.ep_core.specs.Program.{Program}
use Rattle.ep_core.specs.Runs.{Side}
use Rattle.ep_pass.specs.States.{Both, StateOps}
use Rattle.ep_pass.specs.Pass.{Ways, Pass}
use Rattle.ep_pass.specs.ReportLaws.{HeadsGoRound}
use Rattle.ep_flows.specs.View.{Told, HasPassed, Plan, capped, kept_heads, wider_of}
use Rattle.ep_flows.specs.Rounds.{ComesRound}
use Rattle.ep_flows.specs.declared.flow.Flow.{Flow}
use Rattle.ep_flows.specs.declared.heads.Rounds.{Rounds}
use Rattle.ep_flows.proofs.Circles.{Fresh, Goes, goes_first, goes_next, goes_round, head_kept, head_last}
use Rattle.ep_walk_parts.specs.Pieces.{Loop, o, settled_of, turn_of}

-- ---- a turn that is kept, whose passes were counted before
module _ {S : Type 0} (now one new seen done : Told S) (ed : seen ≡ done) where
  kept_alarms : one.alarms ≡ now.alarms → new.alarms ≡ fold added one.alarms seen.alarms
      → new.alarms ≡ fold added now.alarms done.alarms
  kept_alarms a k = k ∙ ap (λ z. fold added z seen.alarms) a ∙ ap (λ (z : Told S). fold added now.alarms z.alarms) ed

  kept_count : capped one.count ≡ capped (now.count + 1 * seen.count) → new.count ≡ one.count
      → capped new.count ≡ capped (now.count + done.count)
  kept_count n k =
      ap capped k ∙ n ∙ ap (λ (z : Told S). capped (now.count + 1 * z.count)) ed
      ∙ ap capped (times now.count done.count)
    where
      times : (a b : ℕ) → a + 1 * b ≡ a + b
      times a b = omega arith

  kept_told : (h : S) → one.heads ≡ now.heads → new.heads ≡ kept_heads one.heads h seen.heads
      → new.heads ≡ kept_heads now.heads h done.heads
  kept_told h hs k = k ∙ ap (λ z. kept_heads z h seen.heads) hs
      ∙ ap (λ (z : Told S). kept_heads now.heads h z.heads) ed

-- fewer heads are left
pub round_left : {S : Type 0} (r s : Rounds S) (h : S) (a b : ℕ) → ComesRound r h s a b → s.left ≤ r.left
round_left r s h a b (inl k) = let e = k.left in omega (arith, e)
round_left r s h a b (inr (inl k)) = let e = k.left in omega (arith, e)
round_left r s h a b (inr (inr k)) = let e = k.left in omega (arith, e)

module _ {S : Type 0} (ops : Program → (Side → Order) → StateOps S) (c : Plan) (here : ℕ) (l : Loop) (w : Ways S) where
  abbrev pub GoesIn : Rounds S → S → (now start : Told S) → Pass S → Type 0
  GoesIn r h now start whole = Goes (o ops c) (turn_of ops c here l Both w) r h now start whole

  pub heads_begin : (r : Rounds S) (h : S) (n : ℕ) (t : Told S) → n ≤ 2 ^ 128 - 1 → n ≡ c.limit - 1 → r.mark ≡ h
      → r.left ≡ n → r.since ≡ 0 → r.counted ≡ 0 → GoesIn r h t t (settled_of ops c here l w (c.limit - 1) h)
  heads_begin r h n t b d em el es ec =
      goes_first (o ops c) (turn_of ops c here l Both w) r h
      (c.limit - 1) t (subst (λ z. z ≤ 2 ^ 128 - 1) d b) em (el ∙ d) es ec

  turn_from : (v : Ways S) (s h : S) (f : Flow S) (found done : Told S) → v ≡ w → s ≡ h
      → HasPassed (turn_of ops c here l Both v s) f found done
      → HasPassed (turn_of ops c here l Both w h) f found done
  turn_from v s h f found done d e t = subst (λ z. HasPassed (turn_of ops c here l Both w z) f found done) e (subst
      (λ z. HasPassed (turn_of ops c here l Both z s) f found done) d t)

  module _ (r : Rounds S) (h : S) (f : Flow S) (now found done start : Told S) (whole : Pass S) (v : Ways S) (s : S)
      (u : Option S) (g : GoesIn r h now start whole) (lt : 0 < r.left) (fr : Fresh now found) (d : v ≡ w) (e : s ≡ h)
      (t : HasPassed (turn_of ops c here l Both v s) f found done) (k : u ≡ wider_of (o ops c) h f.on) where
    pub heads_kept : (one new seen : Told S) → u ≡ None → seen ≡ done → one.alarms ≡ now.alarms
        → capped one.count ≡ capped (now.count + 1 * seen.count) → one.heads ≡ now.heads
        → new.alarms ≡ fold added one.alarms seen.alarms → new.count ≡ one.count
        → new.heads ≡ kept_heads one.heads h seen.heads → HasPassed whole f start new
    heads_kept one new seen en ed a n hs ka kn kh =
        head_kept (o ops c) (turn_of ops c here l Both w) h f
        now found done new start whole fr (turn_from v s h f found done d e t) r.left u lt g.leads k en
        (kept_alarms now one new seen done ed a ka) (kept_count now one new seen done ed n kn)
        (kept_told now one new seen done ed h hs kh)

    pub heads_next : (next : S) (r1 r2 : Rounds S) (one two seen : Told S) → HeadsGoRound S → u ≡ Some next
        → seen ≡ done
        → one.alarms ≡ now.alarms → capped one.count ≡ capped (now.count + 1 * seen.count) → one.heads ≡ now.heads
        → r1.mark ≡ r.mark → r1.left ≡ r.left - 1 → r1.since ≡ r.since + 1
        → capped r1.counted ≡ capped (r.counted + seen.count)
        → ComesRound r1 next r2 one.count two.count → two.alarms ≡ one.alarms → two.heads ≡ one.heads
        → GoesIn r2 next two start whole
    heads_next next r1 r2 one two seen law en ed a n hs em el es ec round a2 hs2 =
        let n' : capped one.count ≡ capped (now.count + 1 * done.count) = n
        ∙ ap (λ (z : Told S). capped (now.count + 1 * z.count)) ed in
        let ec' : capped r1.counted ≡ capped (r.counted + done.count) = ec
        ∙ ap (λ (z : Told S). capped (r.counted + z.count)) ed in
        let first = goes_next (o ops c) (turn_of ops c here l Both w) r r1 h next f u now found done one start whole g lt fr
        (turn_from v s h f found done d e t) k en a n' hs em el es ec' in
        goes_round (o ops c) (turn_of ops c here l Both w) law
        r1 r2 next one two start whole first round a2 hs2

  pub heads_last : (r : Rounds S) (at h s : S) (f : Flow S) (now found done one new seen start : Told S)
      (whole : Pass S) (v : Ways S) → GoesIn r at now start whole → r.left ≡ 0 → Fresh now found → v ≡ w → s ≡ h
      → HasPassed (turn_of ops c here l Both v s) f found done → h ≡ (o ops c).empty → seen ≡ done
      → one.alarms ≡ now.alarms → capped one.count ≡ capped (now.count + 1 * seen.count) → one.heads ≡ now.heads
      → new.alarms ≡ fold added one.alarms seen.alarms → new.count ≡ one.count
      → new.heads ≡ kept_heads one.heads h seen.heads → HasPassed whole f start new
  heads_last r at h s f now found done one new seen start whole v g en fr d e t eh ed a n hs ka kn kh =
      head_last (o ops c) (turn_of ops c here l Both w) r.left
      at h f now found done new start whole fr (turn_from v s h f found done d e t) en eh g.leads
      (kept_alarms now one new seen done ed a ka) (kept_count now one new seen done ed n kn)
      (kept_told now one new seen done ed h hs kh)
