-- Rows of statements, and turns one by one.
use Rattle.std.proofs.Common.{◌≡◌, ℕ, zero, suc, ◌+◌, ◌-◌, ◌<◌, ◌≤◌, List, [], ◌∷◌, drop, get_or, length, refl, sym, ap}
use Rattle.std.proofs.Common.{◌∙◌, subst, arith, Some, None, Result, Ok, Err}
use Rattle.ep_core.specs.declared.tree.Stmt.{Stmt}
use Rattle.ep_core.specs.View.{what_view, stmts_view}
use Rattle.ep_pass.specs.States.{Mode, Both, One}
use Rattle.ep_pass.specs.Pass.{Ways, Pass, join_ways, then_pass, turn_then, past}
use Rattle.ep_flows.specs.View.{ways_view}
use Rattle.ep_flows.specs.declared.flow.Flow.{Flow}
use Rattle.ep_walk_parts.specs.Pieces.{Loop}
use Rattle.ep_walk_parts.proofs.Rows.{drop_next}
use Rattle.ep_certcheck_walk.specs.declared.stop.Stop.{Stop}
use Rattle.ep_certcheck_walk.specs.Pieces.{heads, one, all, turn_of, last_of, rounds_of}
use Rattle.ep_certcheck_walk.specs.Stops.{Course, checking, HasFound, Finds, IsStop}
use Rattle.ep_certcheck_walk.proofs.Alone.{rounds_alone}
use Rattle.ep_certcheck_walk.proofs.Combined.{Leads, counts_none, goes_on, go_front, join_ways_same, stops_there}
use Rattle.ep_certcheck_walk.proofs.Combined.{then_front}

drop_all : (ss : List Stmt) (i : ℕ) → length ss ≤ i → drop i ss ≡ []
drop_all [] zero h = refl
drop_all [] (suc i) h = refl
drop_all (t ∷ ss) zero h = absurd (omega arith)
drop_all (t ∷ ss) (suc i) h = drop_all ss i (omega arith)

module _ {S : Type 0} (k : Course S) (here : ℕ) (m : Mode) where
  module _ (ss : List Stmt) (i : ℕ) (s : Stmt) (at : S) (w : Ways S) (now start : ℕ) (whole : Pass S)
      (lt : i < length ss) (is : s ≡ get_or ss i s)
      (lead : Leads k (all k here (stmts_view (drop i ss)) now m at w) now whole start) where
    abbrev q : Pass S
    q = one k here (what_view s.what) now m s.line at

    abbrev rest : ℕ → S → Ways S → Pass S
    rest n = all k here (stmts_view (drop (i + 1) ss)) n m

    abbrev after_it : ℕ
    after_it = past (heads k) now q

    led : (x : Result (Flow S) Stop) (new : ℕ) → Finds k (then_pass (checking k) q w (rest after_it)) x now new
        → Finds k whole x start new
    led x new h = lead x new (subst (λ ts. Finds k (all k here (stmts_view ts) now m at w) x now new)
        (sym (drop_next ss i s lt is)) h)

    pub rows_more : (f : Flow S) (mid : ℕ) (w' : Ways S) (next : S) → HasFound k q f now mid
        → w' ≡ join_ways k.raw w (ways_view f.ways) → f.on ≡ Some next → Leads k (rest mid next w') mid whole start
    rows_more f mid w' next h ew en x new j =
        let e : join_ways (checking k) w q.ways ≡ w' = ap (join_ways (checking k) w) (sym h.ways)
        ∙ sym (ew ∙ join_ways_same k w (ways_view f.ways)) in
        let j' : Finds k (rest after_it next w') x mid new = subst (λ z. Finds k (rest z next w') x mid new) h.log.taken
        j in
        led x new (goes_on k q.on (join_ways (checking k) w q.ways) q.log (rest after_it) next w' x now mid new
        (sym h.on
        ∙ en) e h.log j')

    pub rows_end : (f g : Flow S) (mid : ℕ) (w' : Ways S) → HasFound k q f now mid
        → w' ≡ join_ways k.raw w (ways_view f.ways) → f.on ≡ None → g.on ≡ None → ways_view g.ways ≡ w'
        → HasFound k whole g start mid
    rows_end f g mid w' h ew en a b =
        let e : ways_view g.ways ≡ join_ways (checking k) w q.ways = b ∙ (ew ∙ join_ways_same k w (ways_view f.ways))
        ∙ ap (join_ways (checking k) w) h.ways in
        led (Ok g) mid (stops_there k q.on (join_ways (checking k) w q.ways) q.log (rest after_it) g now mid (sym h.on
        ∙ en) a e h.log)

    pub rows_stop : (t : Stop) → IsStop k q.log.faults t → IsStop k whole.log.faults t
    rows_stop t h = led (Err t) now (then_front k q w (rest after_it) t h)

  pub rows_all : (ss : List Stmt) (i : ℕ) (at : S) (w : Ways S) (now start : ℕ) (whole : Pass S) (g : Flow S)
      → length ss ≤ i → Leads k (all k here (stmts_view (drop i ss)) now m at w) now whole start → g.on ≡ Some at
      → ways_view g.ways ≡ w → HasFound k whole g start now
  rows_all ss i at w now start whole g le lead a b =
      let done : HasFound k (all k here (stmts_view []) now m at w) g now now = record {
        on = a;
        ways = b;
        log = counts_none k now;
      } in
      lead (Ok g) now (subst (λ ts. HasFound k (all k here (stmts_view ts) now m at w) g now now)
      (sym (drop_all ss i le)) done)

module _ {S : Type 0} (k : Course S) (here : ℕ) (l : Loop) where
  rounds_step : (m : Mode) (j n : ℕ) (s : S) (w : Ways S) → rounds_of k here l m (suc j) n s w ≡ turn_then (checking k)
      (turn_of k here l n m w s) (rounds_of k here l m j (past (heads k) n (turn_of k here l n m w s)))
  rounds_step Both j n s w = refl
  rounds_step (One m) j n s w =
      let q = turn_of k here l n (One m) w s in
      ap (turn_then (checking k) q) (rounds_alone k here l n (past (heads k) n q) m j)

  rounds_end : (m : Mode) (n : ℕ) (s : S) (w : Ways S) → rounds_of k here l m 0 n s w ≡ last_of k here l n m w s
  rounds_end Both n s w = refl
  rounds_end (One m) n s w = refl

  module _ (m : Mode) (U V : ℕ) (at : S) (w : Ways S) (now start : ℕ) (whole : Pass S)
      (lead : Leads k (rounds_of k here l m (U - V) now at w) now whole start) where
    abbrev turn : Pass S
    turn = turn_of k here l now m w at

    abbrev later : S → Ways S → Pass S
    later = rounds_of k here l m (U - (V + 1)) (past (heads k) now turn)

    turned_so : V < U → (x : Result (Flow S) Stop) (new : ℕ) → Finds k (turn_then (checking k) turn later) x now new
        → Finds k whole x start new
    turned_so lt x new h =
        let n : suc (U - (V + 1)) ≡ U - V = omega arith in
        lead x new (subst (λ z. Finds k (rounds_of k here l m z now at w) x now new) n
        (subst (λ z. Finds k z x now new) (sym (rounds_step m (U - (V + 1)) now at w)) h))

    pub turns_more : V < U → (f : Flow S) (mid : ℕ) (next : S) (w' : Ways S) → HasFound k turn f now mid
        → f.on ≡ Some next → w' ≡ ways_view f.ways
        → Leads k (rounds_of k here l m (U - (V + 1)) mid next w') mid whole start
    turns_more lt f mid next w' h en ew x new j =
        let j' : Finds k (later next w') x mid new = subst (λ z. Finds k (rounds_of k here l m (U - (V + 1)) z next
        w') x mid new) h.log.taken j in
        turned_so lt x new (goes_on k turn.on turn.ways turn.log later next w' x now mid new (sym h.on
        ∙ en) (sym h.ways ∙ sym ew) h.log j')

    pub turns_end : V < U → (f g : Flow S) (mid : ℕ) → HasFound k turn f now mid → f.on ≡ None → g.on ≡ None
        → ways_view g.ways ≡ ways_view f.ways → HasFound k whole g start mid
    turns_end lt f g mid h en a b =
        turned_so lt (Ok g) mid (stops_there k turn.on turn.ways turn.log later g now mid (sym h.on ∙ en) a (b
        ∙ h.ways) h.log)

    pub turns_stop : V < U → (t : Stop) → IsStop k turn.log.faults t → IsStop k whole.log.faults t
    turns_stop lt t h = turned_so lt (Err t) now (go_front k turn.on turn.ways turn.log later t h)

    pub turns_last : U ≤ V → (x : Result (Flow S) Stop) (new : ℕ) → Finds k (last_of k here l now m w at) x now new
        → Finds k whole x start new
    turns_last le x new h =
        let n : 0 ≡ U - V = omega arith in
        lead x new (subst (λ z. Finds k (rounds_of k here l m z now at w) x now new) n
        (subst (λ z. Finds k z x now new) (sym (rounds_end m now at w)) h))
