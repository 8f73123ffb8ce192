-- A value goes to the place of its address, where each can be one alone: without a fault, and what is known after it
-- stands for the memories after it alone.
use Rattle.std.proofs.Common.{◌≡◌, ℕ, ◌^◌, ◌≤◌, true, false, [], Option, Some, None, refl, sym, ap, ◌∙◌, arith}
use Rattle.ep_int.specs.declared.types.Order.{Order}
use Rattle.ep_int.specs.declared.types.Scalar.{Scalar}
use Rattle.ep_int.specs.declared.types.Scalar.TheVariants.{Pointer}
use Rattle.ep_int.specs.Memory.{Memory, Value as Datum, pointer as into_block, has}
use Rattle.ep_domain.specs.Domain.{Ops, Lawful}
use Rattle.ep_cells.specs.States.{Known}
use Rattle.ep_cells.specs.Meaning.{Memories, numbers_of}
use Rattle.ep_cell_ranges.specs.Spots.{Spot}
use Rattle.ep_core.specs.Program.{Program}
use Rattle.ep_core.specs.Runs.{Side, left, right}
use Rattle.ep_core.specs.WellFormed.{blocks_fit}
use Rattle.ep_equalities.specs.declared.pair.Mode.{Mode}
use Rattle.ep_equalities.specs.declared.pair.Mode.TheVariants.{Both}
use Rattle.ep_equalities.specs.Same.{is_same}
use Rattle.ep_equalities.proofs.Equal.{same_values}
use Rattle.ep_evaluation.specs.Given.{Given, runs}
use Rattle.ep_evaluation.specs.Laws.{Machine, memory_of, sizes_of, IsState, Holds}
use Rattle.ep_evaluation.proofs.General.{reliable_none}
use Rattle.ep_transfers.specs.Transfers.{assigned}
use Rattle.ep_transfers.proofs.Evaluated.{Evaluated}
use Rattle.ep_closed_laws.specs.Exactly.{IsThere}
use Rattle.ep_singles.specs.Numbers.{KeepsSingles}
use Rattle.ep_singles.specs.Cells.{IsOne}
use Rattle.ep_single_narrowed.specs.Laws.{IsKeptOne}
use Rattle.ep_single_given.specs.Laws.{IsOneGiven}
use Rattle.ep_single_puts.specs.Laws.{IsPutAt}
use Rattle.ep_single_puts.proofs.Puts.{puts_keep_one}
use Rattle.ep_single_states.specs.Laws.{ConcretisesOne}
use Rattle.ep_single_runs.proofs.Steps.{StepIsExact}

pub under : (x size : ℕ) → x ≤ size → size ≤ 65536 → x ≤ 2 ^ 32
under x size h i = omega (arith, h, i)

-- what both machines find is the same, where it is known to be
pub same_found : {N : Type 0} (D : Ops N) → Lawful D → (p : Program) (ord : Side → Order) (w : Scalar)
    (f : Side → Machine) (k : Known N) (m : Memories) (x : Given N)
    → Holds D p ord w (λ s. f s (memory_of s m)) k m Both x → x.faults ≡ [] → is_same D x.pair ≡ true → (u v : Datum)
    → f left m.left ≡ has u → f right m.right ≡ has v → u ≡ v
same_found D law p ord w f k m x h e same u v a b =
    same_values D law x.pair same (numbers_of k.orders m) w u v
    (record {
      left = λ z. h.held (reliable_none Both x.faults e) left refl u a;
      right = λ z. h.held (reliable_none Both x.faults e) right refl v b;
      equal = λ z i. h.same refl e i u v a b;
    })

-- one pointer, one place
pub one_place : (q r : Spot) (u : Datum) → u ≡ into_block q.0 q.1 → u ≡ into_block r.0 r.1 → q ≡ r
one_place q r u a b =
    let e : into_block q.0 q.1 ≡ into_block r.0 r.1 = sym a ∙ b in
    let f : q.0 ≡ r.0 = cc in
    let g : q.1 ≡ r.1 = cc in
    ap (λ (x : ℕ). (x, q.1)) f ∙ ap (λ (x : ℕ). (r.0, x)) g

-- ---- a store

there_too : {S : Type 0} (P Q : S → Type 0) (o : Option S) → ((s : S) → P s → Q s) → IsThere P o → IsThere Q o
there_too P Q None more h = h
there_too P Q (Some s) more h = more s h

module _ {N : Type 0} (D : Ops N) (law : Lawful D) (keeps : KeepsSingles D) (p : Program) (ord : Side → Order)
    (fit : blocks_fit p.types p.blocks ≡ true) (w : Scalar) (k : Known N) (m o : Memories)
    (c : IsKeptOne D p ord k m) (f g : Side → Machine) (to v : Given N) where
  pub assigned_exact : (mode : Mode) → Evaluated D p ord mode k m Pointer f to → Evaluated D p ord mode k m w g v
      → IsOneGiven D mode to → IsOneGiven D mode v
      → ((s : Side) → runs mode s ≡ true
      → IsPutAt p (ord s) w (f s (memory_of s m)) (g s (memory_of s m)) (memory_of s m) (memory_of s o))
      → ((s : Side) → runs mode s ≡ false → memory_of s o ≡ memory_of s m)
      → StepIsExact D p ord (assigned D (sizes_of p.blocks) mode w to.pair v.pair k) o
  assigned_exact mode a b ea eb all still =
      let h = puts_keep_one D law keeps p ord fit k m o c mode w (λ s. f s (memory_of s m)) (λ s. g s (memory_of s m)) to v
      (record {
        address_holds = a.holds;
        value_holds = b.holds;
        fits = b.fits;
        one_address = ea;
        one_value = eb;
      })
      (record { puts = all; still = λ s r e j. ap (λ (z : Memory). z e j) (still s r) }) in
      record {
        faults = h.quiet;
        next = there_too (λ j. IsState D p ord j × IsOne D j o) (λ j. ConcretisesOne D p ord j o.left o.right)
            (assigned D (sizes_of p.blocks) mode w to.pair v.pair k).next (λ j z. record { state = z.0; one = z.1 })
            h.next;
      }
