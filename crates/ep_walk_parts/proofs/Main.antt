-- Main, and the report on a program.
use Rattle.std.proofs.Common.{◌≡◌, ℕ, ◌+◌, ◌≤◌, Bool, true, false, List, [], ◌++◌, fold, map, slice_get, refl, sym, ap}
use Rattle.std.proofs.lemmas.List.{append-nil}
use Rattle.std.proofs.Common.{◌∙◌, subst, arith, Option, Some, None, Result, Ok, Err, OnOk, OnErr, if◌then◌else◌}
use Rattle.ep_int.specs.declared.types.Order.{Order}
use Rattle.ep_alarms.specs.Report.{added}
use Rattle.ep_core.specs.Program.{Function, Program}
use Rattle.ep_core.specs.Runs.{Side}
use Rattle.ep_pass.specs.States.{Both, StateOps}
use Rattle.ep_pass.specs.Pass.{Ways, Event, alarm_of, logged, both_logs, Pass, found_at, alarms_at, join_on, tried}
use Rattle.ep_pass.specs.Pass.{main_pass, faults_at_end, report_of, turns_of, heads_of}
use Rattle.ep_flows.specs.View.{Told, Tells, HasPassed, CountsUpTo, ways_view, Plan, capped, more_heads}
use Rattle.ep_walk_parts.specs.Pieces.{o, function}
use Rattle.ep_flows.specs.declared.flow.Flow.{Flow}
use Rattle.ep_flows.proofs.Telling.{tells_both}
use Rattle.ep_flows.proofs.Combined.{tells_at}
use Rattle.ep_flows.proofs.Counting.{told_count}

module _ {S : Type 0} (ops : Program → (Side → Order) → StateOps S) (c : Plan) where
  abbrev main : Pass S
  main = main_pass (o ops c) c.unroll (tried (o ops c) c.limit) c.order c.program

  abbrev ends : Option S → List Event
  ends v = faults_at_end (o ops c) (slice_get c.program.functions c.program.main) v

  -- main is left, and its result compared
  pub end_some : {T E : Type 0} (x : Result T E) (f : Function) (u v : Option S) (s : S) (old seen new : Told S)
      → slice_get c.program.functions c.program.main ≡ Some f → u ≡ v → u ≡ Some s → old ≡ seen
      → OnOk x (new.alarms ≡ fold added seen.alarms (alarms_at f.line ((o ops c).ended f s))) → new.count ≡ seen.count
      → new.heads ≡ seen.heads → OnOk x (Tells (logged (ends v) 0 []) old new)
  end_some (Err y) f u v s old seen new e d i j a n h = tt
  end_some (Ok y) f u v s old seen new e d i j a n h =
      let is : found_at f.line ((o ops c).ended f s) ≡ ends v =
      ap (λ z. faults_at_end (o ops c) z (Some s)) (sym e) ∙ ap ends (sym i ∙ d) in
      subst (λ z. Tells (logged z 0 []) old new) is (tells_at (found_at f.line ((o ops c).ended f s)) old seen new j
      a n h)

  pub record Reported (keeps : Bool) (new : Told S) : Type 0 where
    pub report : new.alarms ≡ report_of (o ops c) c.unroll c.limit c.order c.program
    pub turns : capped new.count ≡ capped (turns_of (o ops c) c.unroll c.limit c.order c.program)
    pub heads : new.heads ≡ (if keeps then Some (heads_of (o ops c) c.unroll c.limit c.order c.program) else None)

  -- main, with its end
  pub main_told : {T E : Type 0} (x : Result T E) (s : S) (f : Flow S) (old one new : Told S) → s ≡ (o ops c).entry
      → HasPassed (function ops c c.program.main Both s) f old one
      → OnOk x (Tells (logged (ends (join_on (o ops c) (ways_view f.ways).returned f.on)) 0 []) one new)
      → OnOk x (Tells (both_logs main.log (logged (ends (join_on (o ops c) main.ways.returned main.on)) 0 [])) old new)
  main_told (Err y) s f old one new es h t = tt
  main_told (Ok y) s f old one new es h t =
      let h' : HasPassed main f old one = subst (λ z. HasPassed (function ops c c.program.main Both z) f old one) es h
      in
      let at : join_on (o ops c) (ways_view f.ways).returned f.on ≡ join_on (o ops c) main.ways.returned main.on = ap
      (λ (z : Ways S). join_on (o ops c) z.returned f.on) h'.ways
      ∙ ap (join_on (o ops c) main.ways.returned) h'.on in
      let t' : Tells (logged (ends (join_on (o ops c) main.ways.returned main.on)) 0 []) one new = subst (λ z. Tells
      (logged (ends z) 0 []) one new) at t in
      tells_both main.log (logged (ends (join_on (o ops c) main.ways.returned main.on)) 0 []) old one new h'.log t'

  -- memory runs out in main
  pub main_stops : (s : S) (old new : ℕ) → s ≡ (o ops c).entry
      → CountsUpTo (function ops c c.program.main Both s).log.count old new
      → CountsUpTo (turns_of (o ops c) c.unroll c.limit c.order c.program) old new
  main_stops s old new es h = subst (λ z. CountsUpTo (function ops c c.program.main Both z).log.count old new) es h

  -- and at its end
  pub main_ends : {T E : Type 0} (x : Result T E) (s : S) (f : Flow S) (old one new : Told S) → s ≡ (o ops c).entry
      → HasPassed (function ops c c.program.main Both s) f old one → new.count ≡ one.count
      → OnErr x (CountsUpTo (turns_of (o ops c) c.unroll c.limit c.order c.program) old.count new.count)
  main_ends (Ok y) s f old one new es h e = tt
  main_ends (Err y) s f old one new es h e =
      let q = function ops c c.program.main Both s in
      subst (λ z. CountsUpTo (turns_of (o ops c) c.unroll c.limit c.order c.program) old.count z) (sym e)
      (main_stops s old.count one.count es (told_count q.log old one h.log))

  -- what a log with nothing in it was told
  pub reported : (keeps : Bool) (old new : Told S) → old.alarms ≡ [] → old.count ≡ 0
      → old.heads ≡ (if keeps then Some [] else None)
      → Tells (both_logs main.log (logged (ends (join_on (o ops c) main.ways.returned main.on)) 0 [])) old new
      → Reported keeps new
  reported keeps old new ea ec eh all = record {
    report = all.alarms ∙ ap (λ z. fold added z (map alarm_of (main.log.faults ++ ends (join_on
        (o ops c) main.ways.returned main.on)))) ea;
    turns = counts new.count old.count main.log.count all.count ec;
    heads = all.heads ∙ ap (λ z. more_heads z (main.log.heads ++ [])) eh ∙ listed keeps main.log.heads;
  }
    where
      counts : (a b d : ℕ) → capped a ≡ capped (b + (d + 0)) → b ≡ 0 → capped a ≡ capped d
      counts a b d e z = omega (arith, e, z)

      listed : (keeps : Bool) (hs : List S) → more_heads (if keeps then Some [] else None)
          (hs ++ []) ≡ (if keeps then Some hs else None)
      listed true hs = ap (λ l. Some l) (append-nil hs)
      listed false hs = refl

-- passes that are added to those before
pub turns_added : (n old new more : ℕ) → new ≡ capped (old + more) → capped more ≡ capped n → new ≡ capped (old + n)
turns_added n old new more e h = omega (arith, e, h)

pub turns_within : (n old new more none : ℕ) → none ≡ 0 → new ≡ capped (old + more) → CountsUpTo n none more
    → new ≤ old + n
turns_within n old new more none z e h = let x = h.bound in omega (arith, e, x, z)
