use Rattle.std.proofs.Common.{◌≡◌, ◌||◌, ◌&&◌, None, drop, map}
use Rattle.ep_evaluation.specs.Accesses.{reads_of, joined_from, joined_reads, is_unset, is_mixed, are_shared}
use Rattle.ep_eval_loads.specs.Near.{AreOf}
use Rattle.ep_eval_loads.proofs.loads.many_reads.Given as goal

abbrev pub invariant-loop-i : goal.invariant-loop-i
invariant-loop-i g l = record {
  value : joined_from g.N.Num.ops l.sofar.side.value (reads_of g.N.Num.ops l.state l.side l.what (drop l.i l.spots))
      ≡ joined_reads g.N.Num.ops (reads_of g.N.Num.ops l.state l.side l.what l.spots);
  form : l.sofar.side.form ≡ None;
  unset : (l.sofar.unset || is_unset (reads_of g.N.Num.ops l.state l.side l.what (drop l.i l.spots)))
      ≡ is_unset (reads_of g.N.Num.ops l.state l.side l.what l.spots);
  mixed : (l.sofar.mixed || is_mixed (reads_of g.N.Num.ops l.state l.side l.what (drop l.i l.spots)))
      ≡ is_mixed (reads_of g.N.Num.ops l.state l.side l.what l.spots);
  near : AreOf (map (λ r. r.now) l.near.cells.items) l.state.cells;
  shared : (l.sofar.shared && are_shared l.state l.side l.what (drop l.i l.spots))
      ≡ are_shared l.state l.side l.what l.spots;
}
