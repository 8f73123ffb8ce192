-- A report's numbers stay numbers of their types.
use Rattle.std.proofs.Common.{Bool, true, false, cond, List, [], ◌∷◌, All, ℤ, FitsSigned, int_lt, if◌then◌else◌}
use Rattle.std.specs.Int.{int_min, int_max, w128}
use Rattle.std.proofs.lemmas.List.Elements.{All-nil, All-cons, All-head, All-tail}
use Rattle.ep_alarms.specs.declared.types.Alarm.{Alarm}
use Rattle.ep_alarms.specs.Alarm.{FitsTypes, before, joined}
use Rattle.ep_alarms.specs.Report.{added}

one_of : (b : Bool) (x y : ℤ) → FitsSigned w128 x → FitsSigned w128 y → FitsSigned w128 (cond b x y)
one_of true x y p q = p
one_of false x y p q = q

least_fits : (x y : ℤ) → FitsSigned w128 x → FitsSigned w128 y → FitsSigned w128 (int_min x y)
least_fits x y p q = one_of (int_lt y x) y x q p

greatest_fits : (x y : ℤ) → FitsSigned w128 x → FitsSigned w128 y → FitsSigned w128 (int_max x y)
greatest_fits x y p q = one_of (int_lt y x) x y p q

joined_fits : (b a : Alarm) → FitsTypes b → FitsTypes a → FitsTypes (joined b a)
joined_fits b a p q = record {
  line = p.line;
  left_least = least_fits b.left.0 a.left.0 p.left_least q.left_least;
  left_greatest = greatest_fits b.left.1 a.left.1 p.left_greatest q.left_greatest;
  right_least = least_fits b.right.0 a.right.0 p.right_least q.right_least;
  right_greatest = greatest_fits b.right.1 a.right.1 p.right_greatest q.right_greatest;
}

all_either_way : (b : Bool) (xs ys : List Alarm) → All FitsTypes xs → All FitsTypes ys → All FitsTypes (if b then xs else ys)
all_either_way true xs ys p q = p
all_either_way false xs ys p q = q

pub FitsTypes-added : (alarms : List Alarm) (a : Alarm) → All FitsTypes alarms → FitsTypes a → All FitsTypes (added alarms a)
FitsTypes-added [] a h f = All-cons FitsTypes a [] f (All-nil FitsTypes)
FitsTypes-added (b ∷ bs) a h f =
    let head = All-head FitsTypes b bs h in
    let tail = All-tail FitsTypes b bs h in
    all_either_way (before b a) (b ∷ added bs a) _ (All-cons FitsTypes b (added bs a) head (FitsTypes-added bs a tail f))
    (all_either_way (before a b) (a ∷ b ∷ bs) (joined b a ∷ bs) (All-cons FitsTypes a (b ∷ bs) f h) (All-cons FitsTypes (joined b a) bs (joined_fits b a head f) tail))
