-- Fills: a byte goes to each byte of a place.
use Rattle.std.proofs.Common.{◌≡◌, ℕ, ◌<◌, ℤ, true, ◌&&◌, nat_le, List, [], ◌++◌, Option, None, is_some, refl, sym}
use Rattle.ep_evaluation.proofs.Tests.{runs_alone}
use Rattle.std.proofs.Common.{ap, ◌∙◌, subst, arith}
use Rattle.std.proofs.lemmas.Bool.{and_from, and_parts, leb-true}
use Rattle.ep_int.specs.declared.types.IntType.TheVariants.{U8}
use Rattle.ep_int.specs.declared.types.Model.{Model}
use Rattle.ep_int.specs.declared.types.Order.{Order}
use Rattle.ep_int.specs.declared.types.Scalar.{Scalar}
use Rattle.ep_int.specs.declared.types.Scalar.TheVariants.{Int, Pointer}
use Rattle.ep_int.specs.Memory.{Memory, int, pointer, Found, has, range_fault}
use Rattle.ep_domain.specs.Domain.{Ops}
use Rattle.ep_cells.specs.States.{Known}
use Rattle.ep_cells.specs.Meaning.{Memories}
use Rattle.ep_cell_ranges.specs.Laws.{BlurLaws}
use Rattle.ep_core.specs.Program.{Expr, fill, Program}
use Rattle.ep_core.specs.Exec.{State, on, leaves, uncounted, value, does, remembers, size_at}
use Rattle.ep_core.specs.Runs.{Side, left, right}
use Rattle.ep_core.specs.WellFormed.{is_length, is_address, has_sort, integer, pointer_to, blocks_fit}
use Rattle.ep_core.proofs.Sorts.{pointer_where}
use Rattle.ep_pass.specs.Laws.{ConcretisesTyped, ConcretisesTypedBeside, Meets, meet, MeetsAlone, meet_alone}
use Rattle.ep_equalities.specs.declared.pair.Mode.{Mode}
use Rattle.ep_equalities.specs.declared.pair.Mode.TheVariants.{Both}
use Rattle.ep_equalities.specs.Same.{is_same}
use Rattle.ep_evaluation.specs.Given.{Given, alone, runs}
use Rattle.ep_evaluation.specs.Given.{on as on_side}
use Rattle.ep_evaluation.specs.Evaluation.{expression}
use Rattle.ep_cell_ranges.specs.Spots.{Spot}
use Rattle.ep_evaluation.specs.Laws.{Machine, memory_of, sizes_of, ExpressionsHold, PlacesHold}
use Rattle.ep_evaluation.proofs.General.{none_left, is_int, reliable_none}
use Rattle.ep_transfers.specs.Places.{range_faults, has_places, has_values}
use Rattle.ep_transfers.specs.Writes.{Underway, underway, item_of}
use Rattle.ep_transfers.specs.Transfers.{if_goes_on, fill_places, simple_step}
use Rattle.ep_transfers.specs.Laws.{memories, StandsFor, CellLaws}
use Rattle.ep_transfers.proofs.Changes.{Goes}
use Rattle.ep_transfers.proofs.Assigned.{on_all_by}
use Rattle.ep_transfers.proofs.Evaluated.{pair_of, kept_both, kept_beside, alike_beside, stands_beside}
use Rattle.ep_transfers.proofs.Evaluated.{goes_state, Evaluated}
use Rattle.ep_transfers.proofs.Outputs.{side_valued}
use Rattle.ep_transfers.proofs.Stored.{expr_is}
use Rattle.ep_transfers.proofs.RunPlaces.{no_range_fault, run_places, at, has_all}
use Rattle.ep_transfers.proofs.RunSteps.{all_blocks, spot_on}
use Rattle.ep_transfers.proofs.RunSpots.{both_spotted, alone_spotted}
use Rattle.ep_transfers.proofs.RunWaits.{only_runs, operand_waits}
use Rattle.ep_transfers.proofs.Filled.{fill_of, filled_on}
use Rattle.ep_transfers.proofs.FillGoes.{places_go}

does_fill : (o : Order) (p : Program) (r : Option (ℕ × Scalar)) (a e : Expr) (n l c : ℕ) (s : State) (b q : ℕ) (z : ℤ)
    → value o p a s.memory ≡ has (pointer b q) → value o p e s.memory ≡ has (int z)
    → range_fault (size_at o p b) q n ≡ None
    → does o p uncounted r (fill a e n) l c s ≡ leaves on c (remembers (fill_of p.types.model (b, q) n z s.memory) s)
does_fill o p r a e n l c s b q z f g h = rw (f, g, h) refl

pub some_length : (n : ℕ) → is_length n ≡ true → 0 < n
some_length n h =
    let l = leb-true 1 n (and_parts (nat_le 1 n) (nat_le n 65536) h).0 in omega (arith, l)

abbrev number_on : (left right : ℤ) → Side → ℤ
number_on l r left = l
number_on l r right = r

-- what one machine finds in the memories of both
pub own : (i : Side) (f : Side → Machine) (m n : Memory) (x : Found) → f i (memory_of i (pair_of i m n)) ≡ x → f i m ≡ x
own left f m n x e = e
own right f m n x e = e

pub fill_beside : (os : Order × Order) (d : Model) (q : Spot) (n : ℕ) (z : ℤ) (i : Side) (m o : Memory)
    → filled_on os d (λ s. q) n (λ s. z) (alone i) (pair_of i m o) ≡ pair_of i (fill_of d q n z m) o
fill_beside os d q n z left m o = refl
fill_beside os d q n z right m o = refl

module _ {N : Type 0} (D : Ops N) (laws : CellLaws D) (blur : BlurLaws D) (p : Program) (ord : Side → Order)
    (fit : blocks_fit p.types p.blocks ≡ true) (exprs : ExpressionsHold D p ord) (plcs : PlacesHold D p ord) where
  -- each running side has a place and a value
  goes_on : (mode : Mode) (k : Known N) (m : Memories) (n : ℕ) (w : Scalar) (f g : Side → Machine) (to v : Given N)
      (ea : Evaluated D p ord mode k m Pointer f to) (ev : Evaluated D p ord mode k m w g v) (na : to.faults ≡ [])
      (nv : v.faults ≡ []) (quiet : range_faults D (sizes_of p.blocks) mode n to.pair ≡ [])
      → (has_places mode (run_places D laws p ord fit k m n mode f to ea na quiet) && has_values mode v.pair) ≡ true
  goes_on mode k m n w f g to v ea ev na nv quiet =
      and_from (has_places mode (run_places D laws p ord fit k m n mode f to ea na quiet)) (has_values mode v.pair)
      (has_all D laws p ord fit k m n mode f to ea na quiet)
      (on_all_by mode (λ s. is_some (on_side v.pair s).value)
      (side_valued D p ord w (λ s. g s (memory_of s m)) k m mode v ev.holds nv))

  module _ (r : Option (ℕ × Scalar)) (a e : Expr) (n : ℕ) where
    pub fill_sound : (seen : List ℕ)
        → (is_length n && is_address p.types p.blocks seen a && has_sort p.types p.blocks seen e (integer U8)) ≡ true
        → (k : Known N) (x y : State) → ConcretisesTyped p (StandsFor D p ord) k x y
        → (simple_step D p Both r (fill a e n) k).faults ≡ [] → (l c d : ℕ)
        → Meets p (StandsFor D p ord) on (simple_step D p Both r (fill a e n) k).next c d
        (does (ord left) p uncounted r (fill a e n) l c x) (does (ord right) p uncounted r (fill a e n) l d y)
    fill_sound seen h k x y kept q l c d =
        let m = memories x.memory y.memory in
        let i = kept_both D p ord k x y kept in
        let t = and_parts (is_length n && is_address p.types p.blocks seen a)
        (has_sort p.types p.blocks seen e (integer U8)) h in
        let u = and_parts (is_length n) (is_address p.types p.blocks seen a) t.0 in
        let ty = pointer_where p.types p.blocks seen (has_sort p.types p.blocks seen a) u.1 in
        let to = (expression D (sizes_of p.blocks) a).gives Both k in
        let v = (expression D (sizes_of p.blocks) e).gives Both k in
        let f : Side → Machine = λ s. value (ord s) p a in
        let g : Side → Machine = λ s. value (ord s) p e in
        let ea = expr_is D laws p ord fit exprs plcs seen a (pointer_to ty.0) ty.1 Pointer refl k m i Both in
        let ev = expr_is D laws p ord fit exprs plcs seen e (integer U8) t.1 (Int U8) refl k m i Both in
        let z = none_left (to.faults ++ v.faults) _ q in
        let none = none_left to.faults v.faults z.0 in
        let quiet = z.1 in
        let places = run_places D laws p ord fit k m n Both f to ea none.0 quiet in
        let al = at D laws p ord fit k m n Both f to ea none.0 quiet left refl in
        let ar = at D laws p ord fit k m n Both f to ea none.0 quiet right refl in
        let yl = ev.holds.found none.1 left refl in
        let yr = ev.holds.found none.1 right refl in
        let il = is_int D U8 v.pair.left.value yl.0
        (ev.holds.held (reliable_none Both v.faults none.1) left refl yl.0 yl.1).value in
        let ir = is_int D U8 v.pair.right.value yr.0
        (ev.holds.held (reliable_none Both v.faults none.1) right refl yr.0 yr.1).value in
        let fl : value (ord left) p e x.memory ≡ has (int il.z) = yl.1 ∙ ap has il.datum in
        let fr : value (ord right) p e y.memory ≡ has (int ir.z) = yr.1 ∙ ap has ir.datum in
        let spots = spot_on (al.block, al.offset) (ar.block, ar.offset) in
        let u0 : Underway N = underway k (item_of D v.pair) in
        let u1 : Underway N = fill_places D (sizes_of p.blocks) Both n (is_same D to.pair) places u0 in
        let m1 = memories (fill_of p.types.model (al.block, al.offset) n il.z x.memory)
        (fill_of p.types.model (ar.block, ar.offset) n ir.z y.memory) in
        let goes : Goes D all_blocks u0 u1 m m1 = places_go D laws blur (ord left, ord right) p.types.model spots n
        (some_length n u.0) (number_on il.z ir.z) (sizes_of p.blocks) (is_same D to.pair) places Both
        (both_spotted D laws p ord fit k m n f to ea none.0 quiet) u0 m
        (record { cells = i.state.cells; holds = i.holds }) i.state.orders i.state.model
        (operand_waits D laws p ord k m Both (is_same D to.pair) (Int U8) g v ev none.1
        (λ s. int (number_on il.z ir.z s)) (found_on fl fr)) in
        subst (λ (o : Option (Known N)). Meets p (StandsFor D p ord) on o c d
        (does (ord left) p uncounted r (fill a e n) l c x) (does (ord right) p uncounted r (fill a e n) l d y))
        (sym (ap (λ t. if_goes_on t u1.known)
        (goes_on Both k m n (Int U8) f g to v ea ev none.0 none.1 quiet)))
        (rw (
          does_fill (ord left) p r a e n l c x al.block al.offset il.z al.address fl
              (no_range_fault (size_at (ord left) p al.block) al.offset n al.inside),
          does_fill (ord right) p r a e n l d y ar.block ar.offset ir.z ar.address fr
              (no_range_fault (size_at (ord right) p ar.block) ar.offset n ar.inside),
        )
        (meet (record {
          memories = record {
            state = goes_state D p ord all_blocks u0 u1 m m1 i.state goes;
            holds = goes.change.after.holds;
          };
          inputs = kept.stands.inputs;
          outputs = kept.stands.outputs;
        })))
      where
        found_on : {zl zr : ℤ} → value (ord left) p e x.memory ≡ has (int zl)
            → value (ord right) p e y.memory ≡ has (int zr) → (s : Side) → runs Both s ≡ true
            → value (ord s) p e (memory_of s (memories x.memory y.memory)) ≡ has (int (number_on zl zr s))
        found_on fl fr left z = fl
        found_on fl fr right z = fr

    pub fill_alone : (i : Side) (seen : List ℕ)
        → (is_length n && is_address p.types p.blocks seen a && has_sort p.types p.blocks seen e (integer U8)) ≡ true
        → (k : Known N) (x y : State) → ConcretisesTypedBeside p (StandsFor D p ord) i k x y
        → (simple_step D p (alone i) r (fill a e n) k).faults ≡ [] → (l c : ℕ)
        → MeetsAlone p (StandsFor D p ord) i on (simple_step D p (alone i) r (fill a e n) k).next c y
        (does (ord i) p uncounted r (fill a e n) l c x)
    fill_alone i seen h k x y kept q l c =
        let m = pair_of i x.memory y.memory in
        let j = kept_beside D p ord i k x y kept in
        let t = and_parts (is_length n && is_address p.types p.blocks seen a)
        (has_sort p.types p.blocks seen e (integer U8)) h in
        let u = and_parts (is_length n) (is_address p.types p.blocks seen a) t.0 in
        let ty = pointer_where p.types p.blocks seen (has_sort p.types p.blocks seen a) u.1 in
        let to = (expression D (sizes_of p.blocks) a).gives (alone i) k in
        let v = (expression D (sizes_of p.blocks) e).gives (alone i) k in
        let f : Side → Machine = λ s. value (ord s) p a in
        let g : Side → Machine = λ s. value (ord s) p e in
        let ea = expr_is D laws p ord fit exprs plcs seen a (pointer_to ty.0) ty.1 Pointer refl k m j (alone i) in
        let ev = expr_is D laws p ord fit exprs plcs seen e (integer U8) t.1 (Int U8) refl k m j (alone i) in
        let z = none_left (to.faults ++ v.faults) _ q in
        let none = none_left to.faults v.faults z.0 in
        let quiet = z.1 in
        let places = run_places D laws p ord fit k m n (alone i) f to ea none.0 quiet in
        let al = at D laws p ord fit k m n (alone i) f to ea none.0 quiet i (runs_alone i) in
        let yl = ev.holds.found none.1 i (runs_alone i) in
        let il = is_int D U8 (on_side v.pair i).value yl.0
        (ev.holds.held (reliable_none (alone i) v.faults none.1) i (runs_alone i) yl.0 yl.1).value in
        let fl : g i (memory_of i m) ≡ has (int il.z) = yl.1 ∙ ap has il.datum in
        let spot : Spot = (al.block, al.offset) in
        let u0 : Underway N = underway k (item_of D v.pair) in
        let u1 : Underway N = fill_places D (sizes_of p.blocks) (alone i) n (is_same D to.pair) places u0 in
        let new = fill_of p.types.model spot n il.z x.memory in
        let goes : Goes D all_blocks u0 u1 m (pair_of i new y.memory)
        = subst (λ o. Goes D all_blocks u0 u1 m o)
        (fill_beside (ord left, ord right) p.types.model spot n il.z i x.memory y.memory)
        (places_go D laws blur (ord left, ord right) p.types.model (λ s. spot) n
        (some_length n u.0) (λ s. il.z) (sizes_of p.blocks) (is_same D to.pair) places (alone i)
        (alone_spotted D laws p ord fit k m n f to i ea none.0 quiet (is_same D to.pair)) u0 m
        (record { cells = j.state.cells; holds = j.holds }) j.state.orders j.state.model
        (operand_waits D laws p ord k m (alone i) (is_same D to.pair) (Int U8) g v ev none.1 (λ s. int il.z)
        (λ s w. subst (λ b. g b (memory_of b m) ≡ has (int il.z)) (only_runs i s w) fl))) in
        subst (λ (o : Option (Known N)). MeetsAlone p (StandsFor D p ord) i on o c y
        (does (ord i) p uncounted r (fill a e n) l c x))
        (sym (ap (λ t. if_goes_on t u1.known)
        (goes_on (alone i) k m n (Int U8) f g to v ea ev none.0 none.1 quiet)))
        (rw (does_fill (ord i) p r a e n l c x al.block al.offset il.z
        (own i f x.memory y.memory (has (pointer al.block al.offset)) al.address)
        (own i g x.memory y.memory (has (int il.z)) fl)
        (no_range_fault (size_at (ord i) p al.block) al.offset n al.inside))
        (meet_alone (stands_beside D p ord i u1.known (remembers new x) y
        (record {
          inputs = (alike_beside D p ord i k x y kept).inputs;
          outputs = (alike_beside D p ord i k x y kept).outputs;
        })
        (goes_state D p ord all_blocks u0 u1 m (pair_of i new y.memory) j.state goes) goes.change.after.holds)))
