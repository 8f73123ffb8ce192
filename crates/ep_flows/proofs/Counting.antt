-- How far a count may have gone where memory runs out.
use Rattle.std.proofs.Common.{◌≡◌, ℕ, ◌+◌, ◌≤◌, refl, arith, Result, Ok, Err, fold, map}
use Rattle.ep_int.specs.declared.types.Memory.{Memory}
use Rattle.ep_alarms.specs.Report.{added}
use Rattle.ep_pass.specs.Pass.{alarm_of, Log, Pass, after}
use Rattle.ep_flows.specs.View.{Told, Tells, HasPassed, Passes, CountsUpTo, capped, more_heads}
use Rattle.ep_flows.specs.declared.flow.Flow.{Flow}
use Rattle.ep_flows.proofs.Combined.{Leads, after_passed}

-- nothing was counted
pub same_count : (n a b : ℕ) → b ≡ a → CountsUpTo n a b
same_count n a b e = record { bound = omega (arith, e) }

pub more_count : (n m a b : ℕ) → n ≤ m → CountsUpTo n a b → CountsUpTo m a b
more_count n m a b l h = let x = h.bound in record { bound = omega (arith, l, x) }

pub told_count : {S : Type 0} (g : Log S) (old new : Told S) → Tells g old new
    → CountsUpTo g.count old.count new.count
told_count g old new t = let e = t.count in record { bound = omega (arith, e) }

-- one after the other
pub both_count : (k n a b d : ℕ) → CountsUpTo k a b → CountsUpTo n b d → CountsUpTo (k + n) a d
both_count k n a b d h i = let x = h.bound in let y = i.bound in record { bound = omega (arith, x, y) }

module _ {S : Type 0} where
  -- ---- where all goes on as a pass says

  abbrev pub told_by : Told S → Log S → Told S
  told_by t g = record {
    alarms = fold added t.alarms (map alarm_of g.faults);
    count = t.count + g.count;
    heads = more_heads t.heads g.heads;
  }

  abbrev pub left_as : Pass S → Flow S
  left_as p = record {
    on = p.on;
    ways = record { broken = p.ways.broken; continued = p.ways.continued; returned = p.ways.returned };
  }

  pub as_said : (p : Pass S) (t : Told S) → HasPassed p (left_as p) t (told_by t p.log)
  as_said p t = record { on = refl; ways = refl; log = record { alarms = refl; count = refl; heads = refl } }

  -- ---- what is left to do leads to the whole

  module _ (q p : Pass S) (now start : Told S) (lead : Leads q now p start) where
    pub leads_count : (n : ℕ) → CountsUpTo q.log.count now.count n → CountsUpTo p.log.count start.count n
    leads_count n h =
        counts n now.count start.count q.log.count p.log.count h
        (lead (left_as q) (told_by now q.log) (as_said q now)).log.count
      where
        counts : (n a b k m : ℕ) → CountsUpTo k a n → capped (a + k) ≡ capped (b + m) → CountsUpTo m b n
        counts n a b k m h e = let x = h.bound in record { bound = omega (arith, x, e) }

    pub leads_passes : (x : Result (Flow S) Memory) (new : Told S) → Passes q x now new → Passes p x start new
    leads_passes (Ok f) new h = lead f new h
    leads_passes (Err e) new h = leads_count new.count h

  -- after what was told
  pub after_passes : (g : Log S) (p : Pass S) (x : Result (Flow S) Memory) (old mid new : Told S) → Tells g old mid
      → Passes p x mid new → Passes (after g p) x old new
  after_passes g p (Ok f) old mid new t h = after_passed g p f old mid new t h
  after_passes g p (Err e) old mid new t h = both_count g.count p.log.count old.count mid.count new.count
      (told_count g old mid t) h
