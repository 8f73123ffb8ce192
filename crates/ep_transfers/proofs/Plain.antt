-- Statements that store one value: assignments, inputs, what is returned.
use Rattle.std.proofs.Common.{◌≡◌, ℕ, true, [], None, refl, sym, subst}
use Rattle.ep_int.proofs.Basics.{size_positive}
use Rattle.ep_int.specs.declared.types.Order.{Order}
use Rattle.ep_int.specs.declared.types.Scalar.{Scalar}
use Rattle.ep_int.specs.declared.types.Scalar.TheVariants.{Pointer}
use Rattle.ep_int.specs.Memory.{Value as Datum, pointer, Found, has, stored, store_fault}
use Rattle.ep_domain.specs.Domain.{Ops}
use Rattle.ep_cells.specs.States.{Known}
use Rattle.ep_core.specs.Program.{Program}
use Rattle.ep_core.specs.Exec.{State, Way, Outcome, leaves, remembers, size_at, given, put_to}
use Rattle.ep_core.specs.Runs.{Side, left, right}
use Rattle.ep_core.specs.WellFormed.{blocks_fit}
use Rattle.ep_pass.specs.Laws.{ConcretisesStates, Meets, MeetsAlone}
use Rattle.ep_equalities.specs.declared.pair.Mode.TheVariants.{Both}
use Rattle.ep_evaluation.specs.Given.{Given, alone}
use Rattle.ep_evaluation.specs.Laws.{Machine, memory_of, sizes_of, IsKept}
use Rattle.ep_transfers.specs.Transfers.{assigned}
use Rattle.ep_transfers.specs.Laws.{memories, StandsFor, CellLaws}
use Rattle.ep_transfers.proofs.Rooms.{small}
use Rattle.ep_transfers.proofs.Assigned.{any_block, all_inside, at, next_is}
use Rattle.ep_transfers.proofs.Evaluated.{pair_of, Alike, Evaluated, known, operated, stores_there, both_meet}
use Rattle.ep_transfers.proofs.Evaluated.{runs_alone, alone_meet}

-- ---- machines

-- a value goes to its address, and the machine is left so
goes_to : (o : Order) (p : Program) (w : Scalar) (way : Way) (l n : ℕ) (s : State) (fa fv : Found) (b q : ℕ)
    (x : Datum) → fa ≡ has (pointer b q)
    → fv ≡ has x → store_fault p.types.model (size_at o p b) w q ≡ None
    → given fa l s (λ a. given fv l s (λ v. put_to o p w a v l s (leaves way n)))
    ≡ leaves way n (remembers (stored o p.types.model s.memory w b q x) s)
goes_to o p w way l n s fa fv b q x ea ev es = rw (ea, ev, es) refl

module _ {N : Type 0} (D : Ops N) (laws : CellLaws D) (p : Program) (ord : Side → Order)
    (fit : blocks_fit p.types p.blocks ≡ true) where
  -- what a machine does with a value and its address
  abbrev pub puts : Order → Scalar → Way → (l n : ℕ) → State → (fa fv : Found) → Outcome
  puts o w way l n s fa fv = given fa l s (λ a. given fv l s (λ v. put_to o p w a v l s (leaves way n)))

  -- where a machine has an address and a value, and stores it without a fault, it is left so
  abbrev pub Stores : Order → Scalar → Way → ℕ → State → (fa fv : Found) → Outcome → Type 0
  Stores o w way n s fa fv a =
      (b q : ℕ) (x : Datum) → fa ≡ has (pointer b q) → fv ≡ has x → store_fault p.types.model (size_at o p b) w q ≡ None
      → a ≡ leaves way n (remembers (stored o p.types.model s.memory w b q x) s)

  module _ (w : Scalar) (k : Known N) (f g : Side → Machine) (to v : Given N) (na : to.faults ≡ [])
      (nv : v.faults ≡ []) where
    pub both_store : (x y : State) → ConcretisesStates p (StandsFor D p ord) k x y → IsKept D p ord k (memories x.memory y.memory)
        → Evaluated D p ord Both k (memories x.memory y.memory) Pointer f to → Evaluated D p ord Both k
        (memories x.memory y.memory) w g v
        → (assigned D (sizes_of p.blocks) Both w to.pair v.pair k).faults ≡ [] → (way : Way) (n j : ℕ) (c d : Outcome)
        → Stores (ord left) w way n x (f left x.memory) (g left x.memory) c → Stores (ord right) w way j y
        (f right y.memory) (g right y.memory) d
        → Meets p (StandsFor D p ord) way (assigned D (sizes_of p.blocks) Both w to.pair v.pair k).next n j c d
    both_store x y stands kept a b quiet way n j c d hl hr =
        let m = memories x.memory y.memory in
        let kn = known D p ord any_block laws fit w k m kept in
        let z = operated D p ord any_block laws fit w k m kept Both f g to v a b na nv quiet (λ s. all_inside _) in
        let zl = (at D any_block laws p ord (sizes_of p.blocks) (small p fit) w k m kn (size_positive k.model w) Both
        z left refl).stored in
        let zr = (at D any_block laws p ord (sizes_of p.blocks) (small p fit) w k m kn (size_positive k.model w) Both
        z right refl).stored in
        subst (λ o. Meets p (StandsFor D p ord) way o n j c d)
        (sym (next_is D any_block laws p ord (sizes_of p.blocks) (small p fit) w k m kn (size_positive k.model w) Both
        z))
        (both_meet D p ord any_block laws fit w k x y stands kept z way n j c d
        (hl zl.block zl.offset zl.datum zl.address zl.value
        (stores_there D p ord any_block laws fit w k m kept (ord left) (z.fa left) (z.fv left) zl))
        (hr zr.block zr.offset zr.datum zr.address zr.value
        (stores_there D p ord any_block laws fit w k m kept (ord right) (z.fa right) (z.fv right) zr)))

    pub both_put : (x y : State) → ConcretisesStates p (StandsFor D p ord) k x y → IsKept D p ord k (memories x.memory y.memory)
        → Evaluated D p ord Both k (memories x.memory y.memory) Pointer f to → Evaluated D p ord Both k
        (memories x.memory y.memory) w g v
        → (assigned D (sizes_of p.blocks) Both w to.pair v.pair k).faults ≡ [] → (way : Way) (l n j : ℕ)
        → Meets p (StandsFor D p ord) way (assigned D (sizes_of p.blocks) Both w to.pair v.pair k).next n j
        (puts (ord left) w way l n x (f left x.memory) (g left x.memory))
        (puts (ord right) w way l j y (f right y.memory) (g right y.memory))
    both_put x y stands kept a b quiet way l n j =
        both_store x y stands kept a b quiet way n j _ _ (goes_to (ord left) p w way l n x (f left x.memory) (g left
        x.memory))
        (goes_to (ord right) p w way l j y (f right y.memory) (g right y.memory))

    pub alone_store : (i : Side) (x y : State) → Alike D p ord x y → IsKept D p ord k (pair_of i x.memory y.memory)
        → Evaluated D p ord (alone i) k (pair_of i x.memory y.memory) Pointer f to
        → Evaluated D p ord (alone i) k (pair_of i x.memory y.memory) w g v
        → (assigned D (sizes_of p.blocks) (alone i) w to.pair v.pair k).faults ≡ [] → (way : Way) (n : ℕ) (c : Outcome)
        → Stores (ord i) w way n x (f i x.memory) (g i x.memory) c
        → MeetsAlone p (StandsFor D p ord) i way (assigned D (sizes_of p.blocks) (alone i) w to.pair v.pair k).next n
        y c
    alone_store i x y alike kept a b quiet way n c h =
        let m = pair_of i x.memory y.memory in
        let kn = known D p ord any_block laws fit w k m kept in
        let z = operated D p ord any_block laws fit w k m kept (alone i) f g to v a b na nv quiet (λ s. all_inside _) in
        let zl = (at D any_block laws p ord (sizes_of p.blocks) (small p fit) w k m kn (size_positive k.model w)
        (alone i) z i
        (runs_alone D p ord any_block laws fit w k x y i)).stored in
        subst (λ o. MeetsAlone p (StandsFor D p ord) i way o n y c)
        (sym (next_is D any_block laws p ord (sizes_of p.blocks) (small p fit) w k m kn (size_positive k.model w)
        (alone i) z))
        (alone_meet D p ord any_block laws fit w k x y i alike kept z way n c
        (h zl.block zl.offset zl.datum (own i f zl.address) (own i g zl.value)
        (stores_there D p ord any_block laws fit w k m kept (ord i) (z.fa i) (z.fv i) zl)))
      where
        own : (i : Side) (h : Side → Machine) {d : Found} → h i (memory_of i (pair_of i x.memory y.memory)) ≡ d → h i
            x.memory ≡ d
        own left h e = e
        own right h e = e

    pub alone_put : (i : Side) (x y : State) → Alike D p ord x y → IsKept D p ord k (pair_of i x.memory y.memory)
        → Evaluated D p ord (alone i) k (pair_of i x.memory y.memory) Pointer f to
        → Evaluated D p ord (alone i) k (pair_of i x.memory y.memory) w g v
        → (assigned D (sizes_of p.blocks) (alone i) w to.pair v.pair k).faults ≡ [] → (way : Way) (l n : ℕ)
        → MeetsAlone p (StandsFor D p ord) i way (assigned D (sizes_of p.blocks) (alone i) w to.pair v.pair k).next n y
        (puts (ord i) w way l n x (f i x.memory) (g i x.memory))
    alone_put i x y alike kept a b quiet way l n =
        alone_store i x y alike kept a b quiet way n _ (goes_to (ord i) p w way l n x (f i x.memory) (g i x.memory))
