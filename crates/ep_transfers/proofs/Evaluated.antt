-- What is evaluated in a kept state, and how two machines go on from there.
use Rattle.std.proofs.Common.{◌≡◌, ℕ, zero, suc, true, List, [], ◌∷◌, map, slice_get, Some, None, refl, sym, ap, ◌∙◌}
use Rattle.ep_int.proofs.Basics.{size_positive}
use Rattle.std.proofs.Common.{subst}
use Rattle.ep_int.specs.declared.types.Order.{Order}
use Rattle.ep_int.specs.declared.types.Scalar.{Scalar}
use Rattle.ep_int.specs.declared.types.Scalar.TheVariants.{Pointer}
use Rattle.ep_int.specs.Types.{size_of}
use Rattle.ep_int.specs.Memory.{Memory, Found, stored, store_fault}
use Rattle.ep_domain.specs.Domain.{Ops}
use Rattle.ep_cells.specs.States.{Known, AreCells}
use Rattle.ep_cells.specs.Meaning.{Memories, In}
use Rattle.ep_core.specs.Program.{Expr, Block, Program}
use Rattle.ep_core.specs.Exec.{State, Way, Outcome, leaves, remembers, block_size, size_at}
use Rattle.ep_core.specs.Runs.{Side, left, right}
use Rattle.ep_core.specs.Typed.{MemoryFits}
use Rattle.ep_core.specs.WellFormed.{blocks_fit}
use Rattle.ep_pass.specs.Laws.{ConcretisesStates, ConcretisesTyped, ConcretisesTypedBeside, ReachesBeside, Meets, meet, MeetsAlone, meet_alone}
use Rattle.ep_equalities.specs.declared.pair.Mode.{Mode}
use Rattle.ep_equalities.specs.declared.pair.Mode.TheVariants.{Both, Left, Right}
use Rattle.ep_equalities.specs.declared.pair.Fault.{Fault}
use Rattle.ep_evaluation.specs.Given.{Given, on, alone, runs}
use Rattle.ep_evaluation.specs.Accesses.{spots}
use Rattle.ep_evaluation.specs.Evaluation.{targets_of}
use Rattle.ep_evaluation.specs.Evaluation.{pointer as pointer_of}
use Rattle.ep_evaluation.specs.Evaluation.{expression, told}
use Rattle.ep_evaluation.specs.Laws.{Machine, memory_of, sizes_of, IsState, IsKept, Holds, SideFits, Sound}
use Rattle.ep_evaluation.specs.Laws.{SoundPlace}
use Rattle.ep_transfers.specs.Places.{aligned_faults}
use Rattle.ep_transfers.specs.Writes.{Underway}
use Rattle.ep_transfers.specs.Laws.{memories, StandsFor, CellLaws}
use Rattle.ep_transfers.proofs.Changes.{Blocks, IsKnown, Goes}
use Rattle.ep_transfers.proofs.Puts.{order_on, memory_on}
use Rattle.ep_transfers.proofs.Rooms.{small}
use Rattle.ep_transfers.proofs.Assigned.{AreInside, IsStored, Operands, at, after, u, assigned_goes}

pub none_told : {N : Type 0} (D : Ops N) (fs : List Fault) → map (told D) fs ≡ [] → fs ≡ []
none_told D [] e = refl
none_told D (f ∷ fs) e = absurd (let q : told D f ∷ map (told D) fs ≡ [] = e in cc)

-- the memories of a machine and of the other one
abbrev pub pair_of : Side → Memory → Memory → Memories
pair_of left m n = memories m n
pair_of right m n = memories n m

module _ {N : Type 0} (D : Ops N) (p : Program) (ord : Side → Order) where
  -- ---- kept states

  pub kept_both : (k : Known N) (x y : State) → ConcretisesTyped p (StandsFor D p ord) k x y → IsKept D p ord k
      (memories x.memory y.memory)
  kept_both k x y h = record { state = h.stands.memories.state; holds = h.stands.memories.holds; fits = fits }
    where
      fits : (s : Side) → MemoryFits p (memory_of s (memories x.memory y.memory))
      fits left = h.left_fits.memory
      fits right = h.right_fits.memory

  pub kept_beside : (i : Side) (k : Known N) (x y : State) → ConcretisesTypedBeside p (StandsFor D p ord) i k x y
      → IsKept D p ord k (pair_of i x.memory y.memory)
  kept_beside left k x y h = kept_both k x y h
  kept_beside right k x y h = kept_both k y x h

  -- the machine that runs has the other's inputs and outputs
  pub record Alike (x y : State) : Type 0 where
    pub inputs : x.inputs ≡ y.inputs
    pub outputs : x.outputs ≡ y.outputs

  pub alike_beside : (i : Side) (k : Known N) (x y : State) → ConcretisesTypedBeside p (StandsFor D p ord) i k x y → Alike x y
  alike_beside left k x y h = record { inputs = h.stands.inputs; outputs = h.stands.outputs }
  alike_beside right k x y h = record { inputs = sym h.stands.inputs; outputs = sym h.stands.outputs }

  pub stands_beside : (i : Side) (k : Known N) (x y : State) → Alike x y → IsState D p ord k → In D k
      (pair_of i x.memory y.memory)
      → ReachesBeside p (StandsFor D p ord) i (Some k) x y
  stands_beside left k x y a s h = record {
    memories = record { state = s; holds = h };
    inputs = a.inputs;
    outputs =
        a.outputs;
  }
  stands_beside right k x y a s h =
      record { memories = record { state = s; holds = h }; inputs = sym a.inputs; outputs = sym a.outputs }

  -- what is known after a change is a state again
  pub state_after : (k j : Known N) (m n : Memories) → IsState D p ord k → k.orders ≡ (ord left, ord right) → j.orders
      ≡ k.orders → j.model ≡ k.model
      → AreCells j.model j.cells → IsState D p ord j
  state_after k j m n s e o d c = record { orders = o ∙ e; model = d ∙ s.model; cells = c }

  pub goes_state : (bs : Blocks) (u v : Underway N) (m n : Memories) → IsState D p ord u.known → Goes D bs u v m n →
      IsState D p ord v.known
  goes_state bs u v m n s g = state_after u.known v.known m n s s.orders g.change.orders g.change.model
      g.change.after.cells

  -- ---- what is evaluated

  pub record Evaluated (mode : Mode) (k : Known N) (m : Memories) (w : Scalar) (f : Side → Machine) (v : Given N) :
      Type 0 where
    pub holds : Holds D p ord w (λ s. f s (memory_of s m)) k m mode v
    pub fits : (s : Side) → SideFits D p ord k w (on v.pair s)

  pub sound_evaluated : (w : Scalar) (f : Side → Machine) (e : Expr) → Sound D p ord w f
      (expression D (sizes_of p.blocks) e) → (k : Known N)
      (m : Memories) → IsKept D p ord k m → (mode : Mode) → Evaluated mode k m w f
      ((expression D (sizes_of p.blocks) e).gives mode k)
  sound_evaluated w f e s k m kept mode = record { holds = s.gives k m kept mode; fits = s.fits k kept.state mode }

  pub place_evaluated : (f : Side → Machine) (a : Mode → Known N → Given N) → SoundPlace D p ord f a → (k : Known N)
      (m : Memories)
      → IsKept D p ord k m → (mode : Mode) → Evaluated mode k m Pointer f (a mode k)
  place_evaluated f a s k m kept mode = record { holds = s.gives k m kept mode; fits = s.fits k kept.state mode }

  -- ---- the state that a machine comes to

  pub block_sized : (bs : List Block) (o : Order) (i size : ℕ) → slice_get (sizes_of bs) i ≡ Some size → block_size o
      p (slice_get bs i) ≡ size
  block_sized [] o i size h = absurd (let q : None ≡ Some size = h in cc)
  block_sized (b ∷ bs) o zero size h = let q : Some b.size ≡ Some size = h in cc
  block_sized (b ∷ bs) o (suc i) size h = block_sized bs o i size h

  module _ (bs : Blocks) (laws : CellLaws D) (fit : blocks_fit p.types p.blocks ≡ true) (w : Scalar) (k : Known N)
      (m : Memories) (kept : IsKept D p ord k m) where
    abbrev pub known : IsKnown D k m
    known = record { cells = kept.state.cells; holds = kept.holds }

    abbrev pub Operated : Mode → Type 0
    Operated mode = Operands D bs laws p ord (sizes_of p.blocks) (small p fit) w k m known (size_positive k.model w)
        mode

    abbrev pub Stored : Found → Found → Type 0
    Stored fa fv = IsStored D bs laws p ord (sizes_of p.blocks) (small p fit) w k m known (size_positive k.model w) fa
        fv

    abbrev pub operated : (mode : Mode) (f g : Side → Machine) (to v : Given N) → Evaluated mode k m Pointer f to →
        Evaluated mode k m w g v
        → to.faults ≡ [] → v.faults ≡ [] → aligned_faults D (sizes_of p.blocks) mode (size_of k.model w) to.pair ≡ []
        → ((s : Side) → AreInside bs (spots D (sizes_of p.blocks) (size_of k.model w) (size_of k.model w)
        (targets_of D (sizes_of p.blocks) (pointer_of D (on to.pair s)))))
        → Operated mode
    operated mode f g to v a b na nv quiet inside = record {
      fa = λ s. f s (memory_of s m);
      fv = λ s. g s (memory_of s m);
      to = to;
      v = v;
      ha = a.holds;
      hv = b.holds;
      fits = b.fits;
      na = na;
      nv = nv;
      quiet = quiet;
      inside = inside;
    }

    -- where it stores, this is its memory
    abbrev pub memory_after : (o : Order) (fa fv : Found) → Stored fa fv → Memory → Memory
    memory_after o fa fv h z = stored o p.types.model z w h.block h.offset h.datum

    pub stores_there : (o : Order) (fa fv : Found) (h : Stored fa fv) → store_fault p.types.model
        (size_at o p h.block) w h.offset ≡ None
    stores_there o fa fv h =
        ap (λ t. store_fault p.types.model t w h.offset) (block_sized p.blocks o h.block h.size h.size_is)
        ∙ subst (λ d. store_fault d h.size w h.offset ≡ None) kept.state.model h.stores

    -- its memory is then as what is known after it says
    pub stored_so : (i : Side) (fa fv : Found) (h : Stored fa fv) → k.orders ≡ (ord left, ord right) → (b j : ℕ)
        → memory_after (ord i) fa fv h (memory_on i m) b j ≡ stored (order_on i k.orders) k.model (memory_on i m) w
        h.block h.offset h.datum b j
    stored_so left fa fv h e b j =
        ap (λ (os : Order × Order). stored os.0 p.types.model m.left w h.block h.offset h.datum b j) (sym e)
        ∙ ap (λ d. stored k.orders.0 d m.left w h.block h.offset h.datum b j) (sym kept.state.model)
    stored_so right fa fv h e b j =
        ap (λ (os : Order × Order). stored os.1 p.types.model m.right w h.block h.offset h.datum b j) (sym e)
        ∙ ap (λ d. stored k.orders.1 d m.right w h.block h.offset h.datum b j) (sym kept.state.model)

  module _ (bs : Blocks) (laws : CellLaws D) (fit : blocks_fit p.types p.blocks ≡ true) (w : Scalar) (k : Known N)
      (x y : State) where
    -- where both machines store, they meet again
    pub both_meet : (stands : ConcretisesStates p (StandsFor D p ord) k x y) (kept : IsKept D p ord k (memories x.memory y.memory))
        (z : Operated bs laws fit w k (memories x.memory y.memory) kept Both) (way : Way) (n j : ℕ) (a b : Outcome)
        → a ≡ leaves way n (remembers (memory_after bs laws fit w k (memories x.memory y.memory) kept (ord left)
        (z.fa left) (z.fv left)
        (at D bs laws p ord (sizes_of p.blocks) (small p fit) w k (memories x.memory y.memory)
        (known bs laws fit w k (memories x.memory y.memory) kept)
        (size_positive k.model w) Both z left refl).stored x.memory) x)
        → b ≡ leaves way j (remembers (memory_after bs laws fit w k (memories x.memory y.memory) kept (ord right)
        (z.fa right) (z.fv right)
        (at D bs laws p ord (sizes_of p.blocks) (small p fit) w k (memories x.memory y.memory)
        (known bs laws fit w k (memories x.memory y.memory) kept)
        (size_positive k.model w) Both z right refl).stored y.memory) y)
        → Meets p (StandsFor D p ord) way
        (Some (after D bs laws p ord (sizes_of p.blocks) (small p fit) w k (memories x.memory y.memory)
        (known bs laws fit w k (memories x.memory y.memory) kept)
        (size_positive k.model w) Both z).known) n j a b
    both_meet stands kept z way n j a b ea eb =
        let m = memories x.memory y.memory in
        let kn = known bs laws fit w k m kept in
        let l = (at D bs laws p ord (sizes_of p.blocks) (small p fit) w k m kn (size_positive k.model w) Both z left
        refl).stored in
        let r = (at D bs laws p ord (sizes_of p.blocks) (small p fit) w k m kn (size_positive k.model w) Both z right
        refl).stored in
        let n1 = memories (memory_after bs laws fit w k m kept (ord left) (z.fa left) (z.fv left) l x.memory)
        (memory_after bs laws fit w k m kept (ord right) (z.fa right) (z.fv right) r y.memory) in
        let v = after D bs laws p ord (sizes_of p.blocks) (small p fit) w k m kn (size_positive k.model w) Both z in
        let g = assigned_goes D bs laws p ord (sizes_of p.blocks) (small p fit) w k m kn (size_positive k.model w)
        Both z n1 (
          stored_so bs laws fit w k m kept left (z.fa left) (z.fv left) l kept.state.orders,
          stored_so bs laws fit w k m kept right (z.fa right) (z.fv right) r kept.state.orders,
        ) in
        rw (ea, eb)
        (meet (record {
          memories = record {
            state = goes_state bs (u D bs laws p ord (sizes_of p.blocks) (small p fit) w k m kn
                (size_positive k.model w) Both z) v m n1 kept.state g;
            holds = g.change.after.holds;
          };
          inputs = stands.inputs;
          outputs = stands.outputs;
        }))

  -- ---- one machine alone

  module _ (bs : Blocks) (laws : CellLaws D) (fit : blocks_fit p.types p.blocks ≡ true) (w : Scalar) (k : Known N)
      (x y : State) where
    abbrev pub runs_alone : (i : Side) → runs (alone i) i ≡ true
    runs_alone left = refl
    runs_alone right = refl

    pub alone_meet : (i : Side) → Alike x y → (kept : IsKept D p ord k (pair_of i x.memory y.memory))
        (z : Operated bs laws fit w k (pair_of i x.memory y.memory) kept (alone i)) (way : Way) (n : ℕ) (a : Outcome)
        → a ≡ leaves way n (remembers (memory_after bs laws fit w k (pair_of i x.memory y.memory) kept (ord i)
        (z.fa i) (z.fv i)
        (at D bs laws p ord (sizes_of p.blocks) (small p fit) w k (pair_of i x.memory y.memory)
        (known bs laws fit w k (pair_of i x.memory y.memory) kept)
        (size_positive k.model w) (alone i) z i (runs_alone i)).stored x.memory) x)
        → MeetsAlone p (StandsFor D p ord) i way
        (Some (after D bs laws p ord (sizes_of p.blocks) (small p fit) w k (pair_of i x.memory y.memory)
        (known bs laws fit w k (pair_of i x.memory y.memory) kept) (size_positive k.model w) (alone i) z).known) n y a
    alone_meet left alike kept z way n a ea =
        let m = memories x.memory y.memory in
        let kn = known bs laws fit w k m kept in
        let l = (at D bs laws p ord (sizes_of p.blocks) (small p fit) w k m kn (size_positive k.model w) Left z left
        refl).stored in
        let n1 = memories (memory_after bs laws fit w k m kept (ord left) (z.fa left) (z.fv left) l x.memory) y.memory
        in
        let v = after D bs laws p ord (sizes_of p.blocks) (small p fit) w k m kn (size_positive k.model w) Left z in
        let g = assigned_goes D bs laws p ord (sizes_of p.blocks) (small p fit) w k m kn (size_positive k.model w)
        Left z n1
        (stored_so bs laws fit w k m kept left (z.fa left) (z.fv left) l kept.state.orders, λ b j. refl) in
        let r = remembers (memory_after bs laws fit w k m kept (ord left) (z.fa left) (z.fv left) l x.memory) x in
        rw ea
        (meet_alone (stands_beside left v.known r y (record { inputs = alike.inputs; outputs = alike.outputs })
        (goes_state bs (u D bs laws p ord (sizes_of p.blocks) (small p fit) w k m kn (size_positive k.model w) Left z)
        v m n1 kept.state g)
        g.change.after.holds))
    alone_meet right alike kept z way n a ea =
        let m = memories y.memory x.memory in
        let kn = known bs laws fit w k m kept in
        let l = (at D bs laws p ord (sizes_of p.blocks) (small p fit) w k m kn (size_positive k.model w) Right z right
        refl).stored in
        let n1 = memories y.memory (memory_after bs laws fit w k m kept (ord right) (z.fa right) (z.fv right) l
        x.memory) in
        let v = after D bs laws p ord (sizes_of p.blocks) (small p fit) w k m kn (size_positive k.model w) Right z in
        let g = assigned_goes D bs laws p ord (sizes_of p.blocks) (small p fit) w k m kn (size_positive k.model w)
        Right z n1
        (stored_so bs laws fit w k m kept right (z.fa right) (z.fv right) l kept.state.orders, λ b j. refl) in
        let r = remembers (memory_after bs laws fit w k m kept (ord right) (z.fa right) (z.fv right) l x.memory) x in
        rw ea
        (meet_alone (stands_beside right v.known r y (record { inputs = alike.inputs; outputs = alike.outputs })
        (goes_state bs (u D bs laws p ord (sizes_of p.blocks) (small p fit) w k m kn (size_positive k.model w) Right
        z) v m n1 kept.state g)
        g.change.after.holds))
