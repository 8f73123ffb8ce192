-- Rows of statements, and turns one by one.
use Rattle.std.proofs.Common.{◌≡◌, ℕ, zero, suc, ◌+◌, ◌-◌, ◌<◌, ◌≤◌, List, [], ◌∷◌, drop, get_or, length, refl, sym}
use Rattle.std.proofs.Common.{ap, ◌∙◌, subst, arith, Some, None}
use Rattle.ep_core.specs.declared.tree.Stmt.{Stmt}
use Rattle.ep_core.specs.Program.{Program}
use Rattle.ep_core.specs.Runs.{Side}
use Rattle.ep_int.specs.declared.types.Order.{Order}
use Rattle.ep_core.specs.View.{what_view, stmts_view}
use Rattle.ep_pass.specs.States.{Mode, StateOps}
use Rattle.ep_pass.specs.Pass.{Ways, Pass, join_ways, then_pass, turn_then, unrolled, last_pass}
use Rattle.ep_flows.specs.View.{Told, HasPassed, ways_view, Plan}
use Rattle.ep_walk_parts.specs.Pieces.{o, one, all}
use Rattle.ep_flows.specs.declared.flow.Flow.{Flow}
use Rattle.ep_flows.proofs.Telling.{tells_nothing}
use Rattle.ep_flows.proofs.Combined.{Leads, goes_on, stops_there}

drop_item : (ss : List Stmt) (i : ℕ) (s : Stmt) → i < length ss → s ≡ get_or ss i s → drop i ss ≡ s ∷ drop (suc i) ss
drop_item [] i s h e = absurd (omega arith)
drop_item (t ∷ ss) zero s h e = ap (λ z. z ∷ ss) (sym e)
drop_item (t ∷ ss) (suc i) s h e = drop_item ss i s (omega arith) e

pub drop_next : (ss : List Stmt) (i : ℕ) (s : Stmt) → i < length ss → s ≡ get_or ss i s → drop i ss ≡ s ∷ drop (i + 1) ss
drop_next ss i s h e = drop_item ss i s h e ∙ ap (λ k. s ∷ drop k ss) (plus i)
  where
    plus : (i : ℕ) → suc i ≡ i + 1
    plus i = omega arith

drop_all : (ss : List Stmt) (i : ℕ) → length ss ≤ i → drop i ss ≡ []
drop_all [] zero h = refl
drop_all [] (suc i) h = refl
drop_all (t ∷ ss) zero h = absurd (omega arith)
drop_all (t ∷ ss) (suc i) h = drop_all ss i (omega arith)

module _ {S : Type 0} (ops : Program → (Side → Order) → StateOps S) (c : Plan) (here : ℕ) (m : Mode) where
  abbrev p : StateOps S
  p = o ops c

  module _ (ss : List Stmt) (i : ℕ) (s : Stmt) (at : S) (w : Ways S) (f : Flow S) (now mid start : Told S)
      (w' : Ways S) (whole : Pass S) where
    pub rows_more : (next : S) → i < length ss → s ≡ get_or ss i s
        → Leads (all ops c here (stmts_view (drop i ss)) m at w) now whole start
        → HasPassed (one ops c here (what_view s.what) m s.line at) f now mid
        → w' ≡ join_ways p w (ways_view f.ways) → f.on ≡ Some next
        → Leads (all ops c here (stmts_view (drop (i + 1) ss)) m next w') mid whole start
    rows_more next lt is lead h ew en g new k =
        let q = one ops c here (what_view s.what) m s.line at in
        let rest = all ops c here (stmts_view (drop (i + 1) ss)) m in
        let e : join_ways p w q.ways ≡ w' = ap (join_ways p w) (sym h.ways) ∙ sym ew in
        let step : HasPassed (then_pass p q w rest) g now new = goes_on p q.on (join_ways p w q.ways) q.log rest next
        w' g now mid new (sym h.on ∙ en) e h.log k in
        lead g new (subst (λ ts. HasPassed (all ops c here (stmts_view ts) m at w) g now new)
        (sym (drop_next ss i s lt is)) step)

    pub rows_end : (g : Flow S) → i < length ss → s ≡ get_or ss i s
        → Leads (all ops c here (stmts_view (drop i ss)) m at w) now whole start
        → HasPassed (one ops c here (what_view s.what) m s.line at) f now mid
        → w' ≡ join_ways p w (ways_view f.ways) → f.on ≡ None
        → g.on ≡ None → ways_view g.ways ≡ w' → HasPassed whole g start mid
    rows_end g lt is lead h ew en a b =
        let q = one ops c here (what_view s.what) m s.line at in
        let rest = all ops c here (stmts_view (drop (i + 1) ss)) m in
        let e : ways_view g.ways ≡ join_ways p w q.ways = b ∙ ew ∙ ap (join_ways p w) h.ways in
        let step : HasPassed (then_pass p q w rest) g now mid = stops_there p q.on (join_ways p w q.ways) q.log rest g
        now mid (sym h.on ∙ en) a e h.log in
        lead g mid (subst (λ ts. HasPassed (all ops c here (stmts_view ts) m at w) g now mid)
        (sym (drop_next ss i s lt is)) step)

  pub rows_all : (ss : List Stmt) (i : ℕ) (at : S) (w : Ways S) (now start : Told S) (whole : Pass S) (g : Flow S)
      → length ss ≤ i → Leads (all ops c here (stmts_view (drop i ss)) m at w) now whole start
      → g.on ≡ Some at → ways_view g.ways ≡ w → HasPassed whole g start now
  rows_all ss i at w now start whole g le lead a b =
      let done : HasPassed (all ops c here (stmts_view []) m at w) g now now = record {
        on = a;
        ways = b;
        log =
            tells_nothing now;
      } in
      lead g now (subst (λ ts. HasPassed (all ops c here (stmts_view ts) m at w) g now now)
      (sym (drop_all ss i le)) done)

module _ {S : Type 0} (p : StateOps S) (turn last : Ways S → S → Pass S) (U V : ℕ) (at : S) (w : Ways S) (f : Flow S)
    (now mid start : Told S) (whole : Pass S) where
  pub turns_more : (next : S) (w' : Ways S) → V < U → Leads (unrolled p turn last (U - V) at w) now whole start
      → HasPassed (turn w at) f now mid → f.on ≡ Some next → w' ≡ ways_view f.ways
      → Leads (unrolled p turn last (U - (V + 1)) next w') mid whole start
  turns_more next w' lt lead h en ew g new k =
      let n : U - V ≡ suc (U - (V + 1)) = omega arith in
      let q = turn w at in
      let step : HasPassed (turn_then p q (unrolled p turn last (U - (V + 1)))) g now new = goes_on p q.on q.ways
      q.log (unrolled p turn last (U - (V + 1))) next w' g now mid new (sym h.on ∙ en) (sym h.ways
      ∙ sym ew) h.log k in
      lead g new (subst (λ k. HasPassed (unrolled p turn last k at w) g now new) (sym n) step)

  pub turns_end : (g : Flow S) → V < U → Leads (unrolled p turn last (U - V) at w) now whole start
      → HasPassed (turn w at) f now mid → f.on ≡ None → g.on ≡ None → ways_view g.ways ≡ ways_view f.ways
      → HasPassed whole g start mid
  turns_end g lt lead h en a b =
      let n : U - V ≡ suc (U - (V + 1)) = omega arith in
      let q = turn w at in
      let step : HasPassed (turn_then p q (unrolled p turn last (U - (V + 1)))) g now mid = stops_there p q.on q.ways
      q.log (unrolled p turn last (U - (V + 1))) g now mid (sym h.on ∙ en) a (b ∙ h.ways) h.log in
      lead g mid (subst (λ k. HasPassed (unrolled p turn last k at w) g now mid) (sym n) step)

  pub turns_all : (g : Flow S) → U ≤ V → Leads (unrolled p turn last (U - V) at w) now whole start
      → HasPassed (last w at) f now mid → g.on ≡ None → ways_view g.ways ≡ ways_view f.ways
      → HasPassed whole g start mid
  turns_all g le lead h a b =
      let n : U - V ≡ 0 = omega arith in
      let step : HasPassed (last_pass p (last w at)) g now mid = record { on = a; ways = b ∙ h.ways; log = h.log } in
      lead g mid (subst (λ k. HasPassed (unrolled p turn last k at w) g now mid) (sym n) step)
