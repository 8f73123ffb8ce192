-- What is evaluated waits to be written on the running sides.
use Rattle.std.proofs.Common.{◌≡◌, Bool, true, false, ◌&&◌, [], Option, Some, None, refl, sym, ap, subst}
use Rattle.ep_evaluation.proofs.Tests.{runs_alone}
use Rattle.std.proofs.lemmas.Bool.{and_parts}
use Rattle.ep_int.specs.declared.types.Order.{Order}
use Rattle.ep_int.specs.declared.types.Scalar.{Scalar}
use Rattle.ep_int.specs.Memory.{Value as Datum, has}
use Rattle.ep_domain.specs.Domain.{Ops}
use Rattle.ep_cells.specs.declared.cell.Value.{Value}
use Rattle.ep_cells.specs.States.{Known}
use Rattle.ep_cells.specs.Meaning.{Memories, Allows, numbers_of}
use Rattle.ep_core.specs.Program.{Program}
use Rattle.ep_core.specs.Runs.{Side, left, right}
use Rattle.ep_equalities.specs.declared.pair.Mode.{Mode}
use Rattle.ep_equalities.specs.declared.pair.Mode.TheVariants.{Both}
use Rattle.ep_equalities.specs.Pairs.{SideIn}
use Rattle.ep_equalities.specs.Same.{is_same}
use Rattle.ep_equalities.proofs.Equal.{same_values}
use Rattle.ep_evaluation.specs.Given.{Given, on, alone, runs}
use Rattle.ep_evaluation.specs.Laws.{Machine, memory_of}
use Rattle.ep_evaluation.proofs.General.{reliable_none}
use Rattle.ep_transfers.specs.Writes.{Underway, underway, maybe_on, lacks, item_of, value_of_same}
use Rattle.ep_transfers.specs.Laws.{CellLaws}
use Rattle.ep_transfers.proofs.Sides.{same_allowed}
use Rattle.ep_transfers.proofs.Changes.{IsSide}
use Rattle.ep_transfers.proofs.Assigned.{side_of, sure_allowed}
use Rattle.ep_transfers.proofs.Evaluated.{Evaluated}
use Rattle.ep_transfers.proofs.RunSteps.{IsSame, Waits}

pub not_both : (s : Side) → alone s ≡ Both → ⊥
not_both left e = absurd (cc)
not_both right e = absurd (cc)

pub only_runs : (i s : Side) → runs (alone i) s ≡ true → i ≡ s
only_runs left left e = refl
only_runs left right e = absurd (cc)
only_runs right left e = absurd (cc)
only_runs right right e = refl

pub sure_lacks : {N : Type 0} (D : Ops N) (w : Scalar) (v : Option (Value N)) (d : Datum)
    → Allows D w v false (Some d) → lacks false v ≡ false
sure_lacks D w None d a = absurd (let q : Some d ≡ None = a in cc)
sure_lacks D w (Some v) d a = refl

module _ {N : Type 0} (D : Ops N) where
  -- one side waits by itself
  pub alone_waits : (to : Bool) (w : Scalar) (u : Underway N) (m : Memories) (x : Side → Option Datum) (s : Side)
      → Waits D Both to w u m x → Waits D (alone s) false w u m x
  alone_waits to w u m x s h = record {
    side = λ i r. h.side i (both_run i);
    both = λ e. absurd (not_both s e);
  }
    where
      both_run : (i : Side) → runs Both i ≡ true
      both_run left = refl
      both_run right = refl

  module _ (laws : CellLaws D) (p : Program) (ord : Side → Order) (k : Known N) (m : Memories) (mode : Mode)
      (to : Bool) (w : Scalar) (f : Side → Machine) (v : Given N) (e : Evaluated D p ord mode k m w f v)
      (none : v.faults ≡ []) (x : Side → Datum)
      (found : (s : Side) → runs mode s ≡ true → f s (memory_of s m) ≡ has (x s)) where
    held : (s : Side) → runs mode s ≡ true → SideIn D (numbers_of k.orders m) w (on v.pair s) (x s)
    held s r = e.holds.held (reliable_none mode v.faults none) s r (x s) (found s r)

    side_waits : (s : Side) → runs mode s ≡ true → IsSide D k m w (on v.pair s) false (Some (x s))
    side_waits s r = side_of D p ord k m w (on v.pair s) (x s) (e.fits s) (held s r)

    pub operand_waits : Waits D mode to w (underway k (item_of D v.pair)) m (λ s. Some (x s))
    operand_waits = record {
      side = λ s r. by_side s (side_waits s r);
      both = λ b t. both b t;
    }
      where
        by_side : (s : Side) → IsSide D k m w (on v.pair s) false (Some (x s))
            → IsSide D k m w (on (item_of D v.pair).pair s) (maybe_on (item_of D v.pair) s) (Some (x s))
        by_side left h = h
        by_side right h = h

        both_run : mode ≡ Both → (s : Side) → runs mode s ≡ true
        both_run b left = subst (λ z. runs z left ≡ true) (sym b) refl
        both_run b right = subst (λ z. runs z right ≡ true) (sym b) refl

        both : mode ≡ Both → (to && is_same D v.pair) ≡ true
            → IsSame D w (item_of D v.pair) (λ s. Some (x s))
        both b t =
            let l = held left (both_run b left) in
            let r = held right (both_run b right) in
            let one : x left ≡ x right = same_values D laws.domain v.pair (and_parts to (is_same D v.pair) t).1
            (numbers_of k.orders m) w (x left) (x right)
            (record {
              left = λ z. l;
              right = λ z. r;
              equal = λ z g. e.holds.same b none g (x left) (x right) (found left (both_run b left))
                  (found right (both_run b right));
            }) in
            record {
              equal = ap (λ (z : Datum). Some z) one;
              allowed = sure_allowed D w (value_of_same D v.pair.left.value v.pair.right.value) (x left)
                  (same_allowed D laws.splits laws.more_splits laws.writes laws.domain w v.pair.left.value
                  v.pair.right.value (x left) l.value
                  (subst (λ z. Allows D w v.pair.right.value false (Some z)) (sym one) r.value));
              sure = λ g. sure_lacks D w v.pair.left.value (x left) l.value;
            }
