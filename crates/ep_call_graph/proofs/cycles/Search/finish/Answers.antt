use Rattle.std.proofs.Common.{◌≡◌, ℕ, ◌<◌, ap, sym, ◌∙◌, subst, arith, length, get_or, set, Some, length-set}
use Rattle.ep_int.proofs.Basics.{slice_get-here}
use Rattle.std.specs.Prelude.{slice_get, vec_len}
use Rattle.std.specs.Global.{Vec}
use Rattle.std.proofs.lemmas.Option.{slice_get_within}
use Rattle.ep_call_graph.specs.declared.cycles.Mark.{Mark}
use Rattle.ep_call_graph.specs.declared.cycles.Mark.TheVariants.{New, Open, Done}
use Rattle.ep_call_graph.specs.Search.{mark_of, ArePlaced}
use Rattle.ep_call_graph.proofs.Lists.{len_is}
use Rattle.ep_call_graph.proofs.Marks.{mark_more, within, all_closed}
use Rattle.ep_call_graph.proofs.cycles.Search.finish.Goals as goal

place_is : (path now : Vec ℕ) (i n f : ℕ) → now ≡ path → n ≡ vec_len path → i < n → f ≡ get_or now.items i f
    → slice_get path.items i ≡ Some f
place_is path now i n f e q l h =
    let m : length path.items ≡ vec_len path = len_is path in
    slice_get-here path.items i f (omega arith) (subst (λ (v : Vec ℕ). f ≡ get_or v.items i f) e h)

inside_is : (old now : Vec Mark) (path : Vec ℕ) (i f : ℕ) → ArePlaced old.items path.items → length now.items ≡ length old.items
    → slice_get path.items i ≡ Some f → f < vec_len now
inside_is old now path i f p c h =
    let is : mark_of old.items f ≡ Open i = p.placed i f h in
    let a : f < length old.items = within old.items f (λ q. let z : Open i ≡ New = sym is ∙ q in cc) in
    let b : length now.items ≡ vec_len now = len_is now in omega arith

pub index_mut-requires : goal.index_mut-requires
index_mut-requires c =
    inside_is c.args.self.now.marks c.loop-place.self.marks c.args.self.now.path c.loop-place.place c.index-f.result.now c.requires
    c.loop-place.invariant.count
    (place_is c.args.self.now.path c.loop-place.self.path c.loop-place.place c.len-place-end.result c.index-f.result.now
    c.loop-place.invariant.path c.len-place-end.ensures c.loop-place-test.true c.index-f.ensures)

pub loop-place-preserved : goal.loop-place-preserved
loop-place-preserved c = record {
  marks = mark_more c.args.self.now.marks.items c.loop-place.self.marks.items _ c.args.self.now.path.items c.args.first
      c.loop-place.place c.args.self.now.done c.index-f.result.now c.requires c.loop-place.auto.place
      (place_is c.args.self.now.path c.loop-place.self.path c.loop-place.place c.len-place-end.result c.index-f.result.now
      c.loop-place.invariant.path c.len-place-end.ensures c.loop-place-test.true c.index-f.ensures)
      c.loop-place.invariant.count c.loop-place.invariant.marks
      (ap (λ (k : ℕ). set c.loop-place.self.marks.items c.index-f.result.now (Done k)) c.loop-place.invariant.done);
  count = length-set c.loop-place.self.marks.items c.index-f.result.now (Done c.loop-place.self.done) ∙ c.loop-place.invariant.count;
  path = c.loop-place.invariant.path;
  groups = c.loop-place.invariant.groups;
  pending = c.loop-place.invariant.pending;
  done = c.loop-place.invariant.done;
}

pub returns-clause-marks : goal.returns-clause-marks
returns-clause-marks c = λ f. c.loop-place.invariant.marks f
    ∙ all_closed c.args.first c.loop-place.place c.args.self.now.done (mark_of c.args.self.now.marks.items f)
    (λ i h. let a : i < length c.args.self.now.path.items = slice_get_within c.args.self.now.path.items i f (c.requires.opened f i h) in
    let b : length c.args.self.now.path.items ≡ vec_len c.args.self.now.path = len_is c.args.self.now.path in
    omega (arith, c.loop-place-test.false, c.len-place-end.ensures))
