-- A load gives one value, without a fault, where the machines find one.
use Rattle.std.proofs.Common.{◌≡◌, ℕ, ◌+◌, ◌%◌, ◌<◌, ◌≤◌, Bool, true, false, ◌&&◌, not, nat_lt, cond, []}
use Rattle.ep_evaluation.proofs.Basics.{faults_on-none}
use Rattle.ep_int.proofs.Basics.{size_positive}
use Rattle.std.proofs.Common.{◌++◌, slice_get, Option, Some, None, refl, sym, ap, ◌∙◌, subst, arith}
use Rattle.std.specs.List.{list_any}
use Rattle.std.specs.Option.{option_map}
use Rattle.std.proofs.lemmas.Bool.{eqb-true, ltb-false}
use Rattle.std.proofs.lemmas.Option.{slice_get-map}
use Rattle.ep_alarms.specs.declared.types.AlarmKind.TheVariants.{U4, U5, U6, U7, U10}
use Rattle.ep_int.specs.declared.types.Order.{Order}
use Rattle.ep_int.specs.declared.types.Model.{Model}
use Rattle.ep_int.specs.declared.types.Scalar.{Scalar}
use Rattle.ep_int.specs.Types.{size_of}
use Rattle.ep_int.specs.Memory.{Memory, Value as Datum, pointer as into_block, Found, has, faults, bounds}
use Rattle.ep_int.specs.Memory.{alignment, uninitialised}
use Rattle.ep_int.specs.Memory.{bytes_from, is_undefined, is_aligned, value_of_bytes, loaded}
use Rattle.ep_domain.specs.Domain.{Ops, Lawful}
use Rattle.ep_cells.specs.States.{Known}
use Rattle.ep_cells.specs.Meaning.{Memories}
use Rattle.ep_core.specs.Program.{Block, Program}
use Rattle.ep_core.specs.Exec.{block_size, size_at}
use Rattle.ep_core.specs.Runs.{Side}
use Rattle.ep_equalities.specs.declared.pair.Mode.{Mode}
use Rattle.ep_evaluation.specs.Given.{cells_of, runs, on, Shown, shown_if, faults_on}
use Rattle.ep_evaluation.specs.Accesses.{bounds_of, may_be_odd, is_unset, is_mixed}
use Rattle.ep_evaluation.specs.Evaluation.{Reaches, pointer, same, targets_of, is_null, reads_at, load_side, load_given}
use Rattle.ep_evaluation.specs.Evaluation.{load_faults, all_shared}
use Rattle.ep_evaluation.specs.Laws.{memory_of, Machine, SoundPlace, sizes_of}
use Rattle.ep_evaluation.proofs.General.{reliable_none}
use Rattle.ep_evaluation.proofs.Loads.{memory_at, order_at}
use Rattle.ep_evaluation.proofs.LoadSound.{place_found}
use Rattle.ep_reads.specs.Laws.{memory_on}
use Rattle.ep_singles.specs.Laws.{Finds, ReadsAreOne}
use Rattle.ep_single_narrowed.specs.Laws.{IsKeptOne}
use Rattle.ep_single_places.specs.Laws.{IsPlaceFor, IsOneInto, IsOneAccess, IsOneLoad}
use Rattle.ep_single_places.proofs.Places.{accesses_are_one}
use Rattle.ep_single_places.proofs.Loads.{loads_are_one}
use Rattle.ep_single_given.specs.Laws.{FindAll, load_at, IsOneGiven, GivesOne}
use Rattle.ep_single_given.proofs.Given.{no_faults, given_one}

-- ---- what a machine's load says

record IsLoad (o : Order) (d : Model) (size : ℕ) (m : Memory) (w : Scalar) (b q : ℕ) (v : Datum) : Type 0 where
  inside : q + size_of d w ≤ size
  aligned : q % size_of d w ≡ 0
  defined : list_any is_undefined (bytes_from m b q (size_of d w)) ≡ false
  found : value_of_bytes o w (bytes_from m b q (size_of d w)) ≡ has v

chain : (a b c : Bool) (x : Found) (v : Datum)
    → cond a (faults bounds) (cond (not b) (faults alignment) (cond c (faults uninitialised) x)) ≡ has v
    → ((a ≡ false) × (b ≡ true)) × ((c ≡ false) × (x ≡ has v))
chain true b c x v e = absurd (let q : faults bounds ≡ has v = e in cc)
chain false false c x v e = absurd (let q : faults alignment ≡ has v = e in cc)
chain false true true x v e = absurd (let q : faults uninitialised ≡ has v = e in cc)
chain false true false x v e = ((refl, refl), (refl, e))

is_load : (o : Order) (d : Model) (size : ℕ) (m : Memory) (w : Scalar) (b q : ℕ) (v : Datum)
    → loaded o d size m w b q ≡ has v → IsLoad o d size m w b q v
is_load o d size m w b q v e =
    let r = chain (nat_lt size (q + size_of d w)) (is_aligned d w q)
    (list_any is_undefined (bytes_from m b q (size_of d w)))
    (value_of_bytes o w (bytes_from m b q (size_of d w))) v e in
    record {
      inside = ltb-false size (q + size_of d w) r.0.0;
      aligned = eqb-true (q % size_of d w) 0 r.0.1;
      defined = r.1.0;
      found = r.1.1;
    }

-- a block that has bytes is there
pub block_there : (o : Order) (p : Program) (c : Option Block) (q n : ℕ) → q + n ≤ block_size o p c → 0 < n
    → option_map (λ (x : Block). x.size) c ≡ Some (block_size o p c)
block_there o p None q n h i = absurd (let z : ⊥ = omega (arith, h, i) in z)
block_there o p (Some x) q n h i = refl

module _ {N : Type 0} (D : Ops N) (law : Lawful D) (reads : ReadsAreOne D) (p : Program) (ord : Side → Order)
    (w : Scalar) (f : Side → Machine) (a : Reaches N) (sound : SoundPlace D p ord f a) (one : GivesOne D p ord f a)
  where
    module _ (k : Known N) (m : Memories) (s : IsKeptOne D p ord k m) (mode : Mode)
        (all : FindAll mode (load_at p ord w f) m) where
      first : IsOneGiven D mode (a mode k)
      first =
          one k m s mode
          (λ i r.
          let v = all i r in
          let z = place_found (f i (memory_of i m))
          (λ b q. loaded (ord i) p.types.model (size_at (ord i) p b) (memory_of i m) w b q) v.0 v.1 in
          (into_block z.0 z.1, z.2))

      -- on a running side
      record IsLoadOf (i : Side) : Type 0 where
        b : ℕ
        q : ℕ
        access : IsOneAccess D (sizes_of p.blocks) (size_of k.model w) (on (a mode k).pair i) b q
        v : Datum
        load : IsOneLoad D (sizes_of p.blocks) w k (on (a mode k).pair i) i v

      load_of : (i : Side) → runs mode i ≡ true → IsLoadOf i
      load_of i r =
          let v = all i r in
          let z = place_found (f i (memory_of i m))
          (λ b q. loaded (ord i) p.types.model (size_at (ord i) p b) (memory_of i m) w b q) v.0 v.1 in
          let l = is_load (ord i) p.types.model (size_at (ord i) p z.0) (memory_of i m) w z.0 z.1 v.0 z.3 in
          let model : k.model ≡ p.types.model = s.kept.state.model in
          let into : IsOneInto D (on (a mode k).pair i).value z.0 z.1 = record {
            one = first.each i r;
            allowed = ((sound.gives k m s.kept mode).held (reliable_none mode (a mode k).faults first.quiet) i r
                (into_block z.0 z.1) z.2).value;
          } in
          let at : IsPlaceFor (sizes_of p.blocks) z.0 z.1 (size_of k.model w) = record {
            size = size_at (ord i) p z.0;
            of_block = slice_get-map (λ (y : Block). y.size) p.blocks z.0
                ∙ block_there (ord i) p (slice_get p.blocks z.0) z.1 (size_of p.types.model w) l.inside
                (size_positive p.types.model w);
            inside = subst (λ d. z.1 + size_of d w ≤ size_at (ord i) p z.0) (sym model) l.inside;
            aligned = subst (λ d. z.1 % size_of d w ≡ 0) (sym model) l.aligned;
          } in
          let bytes : bytes_from (memory_on (cells_of i) m) z.0 z.1 (size_of k.model w)
          ≡ bytes_from (memory_of i m) z.0 z.1 (size_of p.types.model w)
          = ap (λ c. bytes_from c z.0 z.1 (size_of k.model w)) (memory_at i m)
          ∙ ap (λ d. bytes_from (memory_of i m) z.0 z.1 (size_of d w)) model in
          let finds : Finds k m (cells_of i) z.0 z.1 w v.0 = record {
            defined = ap (list_any is_undefined) bytes ∙ l.defined;
            value = ap (λ o. value_of_bytes o w (bytes_from (memory_on (cells_of i) m) z.0 z.1 (size_of k.model w)))
                (order_at i k.orders ord s.kept.state.orders)
                ∙ ap (value_of_bytes (ord i) w) bytes ∙ l.found;
          } in
          record {
            b = z.0;
            q = z.1;
            access = accesses_are_one D law (sizes_of p.blocks) (size_of k.model w) (on (a mode k).pair i) z.0 z.1 into
                (size_positive k.model w) at;
            v = v.0;
            load = loads_are_one D law reads k m s.one i w (sizes_of p.blocks) (on (a mode k).pair i) z.0 z.1 into at
                v.0 finds;
          }

      abbrev f6 : Side → Shown
      f6 i = shown_if (is_null D (sizes_of p.blocks) (pointer D (on (a mode k).pair i)))

      abbrev f5 : Side → Shown
      f5 i =
          bounds_of D (sizes_of p.blocks) (size_of k.model w)
          (targets_of D (sizes_of p.blocks) (pointer D (on (a mode k).pair i)))

      abbrev f7 : Side → Shown
      f7 i =
          shown_if (may_be_odd D (size_of k.model w)
          (targets_of D (sizes_of p.blocks) (pointer D (on (a mode k).pair i))))

      abbrev f4 : Side → Shown
      f4 i = shown_if (is_unset (reads_at D (sizes_of p.blocks) w k (on (a mode k).pair i) i))

      abbrev f10 : Side → Shown
      f10 i = shown_if (is_mixed (reads_at D (sizes_of p.blocks) w k (on (a mode k).pair i) i))

      quiet : load_faults D (sizes_of p.blocks) w mode k (a mode k).pair ≡ []
      quiet =
          no_faults (faults_on mode U6 f6)
          (faults_on mode U5 f5 ++ (faults_on mode U7 f7 ++ (faults_on mode U4 f4 ++ faults_on mode U10 f10)))
          (faults_on-none mode U6 f6 (λ i r. ap shown_if (load_of i r).access.not_null))
          (no_faults (faults_on mode U5 f5) (faults_on mode U7 f7 ++ (faults_on mode U4 f4 ++ faults_on mode U10 f10))
          (faults_on-none mode U5 f5 (λ i r. (load_of i r).access.inside))
          (no_faults (faults_on mode U7 f7) (faults_on mode U4 f4 ++ faults_on mode U10 f10)
          (faults_on-none mode U7 f7 (λ i r. ap shown_if (load_of i r).access.aligned))
          (no_faults (faults_on mode U4 f4) (faults_on mode U10 f10)
          (faults_on-none mode U4 f4 (λ i r. ap shown_if (load_of i r).load.set))
          (faults_on-none mode U10 f10 (λ i r. ap shown_if (load_of i r).load.unmixed)))))

      load_one : IsOneGiven D mode (load_given D (sizes_of p.blocks) w mode k (a mode k))
      load_one =
          given_one D mode (λ i. load_side D (sizes_of p.blocks) w k (on (a mode k).pair i) i)
          (same D (a mode k) && all_shared D (sizes_of p.blocks) mode w k (a mode k).pair)
          ((a mode k).faults ++ load_faults D (sizes_of p.blocks) w mode k (a mode k).pair)
          (no_faults (a mode k).faults (load_faults D (sizes_of p.blocks) w mode k (a mode k).pair) first.quiet quiet)
          (λ i r. (load_of i r).load.one)

pub loads_give_one : {N : Type 0} (D : Ops N) → Lawful D → ReadsAreOne D → (p : Program) (ord : Side → Order)
    (w : Scalar) (f : Side → Machine) (a : Reaches N) → SoundPlace D p ord f a → GivesOne D p ord f a
    → GivesOne D p ord (load_at p ord w f) (λ mode k. load_given D (sizes_of p.blocks) w mode k (a mode k))
loads_give_one D law reads p ord w f a sound one k m s mode all =
    load_one D law reads p ord w f a sound one k m s mode all
