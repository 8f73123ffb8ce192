-- What comes to a log, one after the other.
use Rattle.std.proofs.Common.{◌≡◌, ℕ, ◌+◌, List, [], ◌++◌, fold, map, refl, sym, ap, ◌∙◌, arith, Option, Some, None}
use Rattle.std.proofs.lemmas.List.{append-nil, map-append}
use Rattle.ep_int.proofs.Basics.{append-assoc}
use Rattle.std.proofs.lemmas.List.Sums.{fold-append}
use Rattle.ep_alarms.specs.Report.{added}
use Rattle.ep_pass.specs.Pass.{alarm_of, Log, logged, both_logs}
use Rattle.ep_flows.specs.View.{Told, Tells, capped, more_heads}

heads_again : {S : Type 0} (h : Option (List S)) (a b : List S) → more_heads (more_heads h a) b ≡ more_heads h (a ++ b)
heads_again None a b = refl
heads_again (Some gs) a b = ap (λ l. Some l) (append-assoc gs a b)

heads_none : {S : Type 0} (h : Option (List S)) → h ≡ more_heads h []
heads_none None = refl
heads_none (Some gs) = ap (λ l. Some l) (sym (append-nil gs))

capped_again : (a b c d e : ℕ) → capped b ≡ capped (a + d) → capped c ≡ capped (b + e) → capped c ≡ capped (a + (d + e))
capped_again a b c d e h i = omega (arith, h, i)

module _ {S : Type 0} where
  pub tells_nothing : (t : Told S) → Tells (logged [] 0 []) t t
  tells_nothing t = record { alarms = refl; count = ap capped (plus_zero t.count); heads = heads_none t.heads }
    where
      plus_zero : (n : ℕ) → n ≡ n + 0
      plus_zero n = omega arith

  pub tells_both : (g h : Log S) (old mid new : Told S) → Tells g old mid → Tells h mid new
      → Tells (both_logs g h) old new
  tells_both g h old mid new a b = record {
    alarms = b.alarms ∙ ap (λ l. fold added l (map alarm_of h.faults)) a.alarms
        ∙ sym (fold-append added old.alarms (map alarm_of g.faults) (map alarm_of h.faults))
        ∙ ap (fold added old.alarms) (sym (map-append alarm_of g.faults h.faults));
    count = capped_again old.count mid.count new.count g.count h.count a.count b.count;
    heads = b.heads ∙ ap (λ l. more_heads l h.heads) a.heads ∙ heads_again old.heads g.heads h.heads;
  }
