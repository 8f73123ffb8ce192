-- A load of a mover: the bytes at its one place are read, without a fault.
use Rattle.std.proofs.Common.{◌≡◌, ℕ, ◌+◌, ◌%◌, ◌<◌, ◌≤◌, Bool, true, false, ◌&&◌, ◌||◌, not, cond, List, [], ◌∷◌, ◌++◌}
use Rattle.std.proofs.Common.{length, slice_get, Option, Some, None, Ok, refl, sym, ap, ◌∙◌, subst, arith}
use Rattle.std.specs.Option.{option_map, option_map_or}
use Rattle.std.proofs.lemmas.Option.{slice_get-map}
use Rattle.ep_int.specs.declared.types.IntType.{IntType}
use Rattle.ep_int.specs.declared.types.Order.{Order}
use Rattle.ep_int.specs.declared.types.Scalar.TheVariants.{Int}
use Rattle.ep_int.specs.Types.{bytes_of, size_of, is_signed}
use Rattle.ep_int.specs.Memory.{Value as Datum, has, loaded}
use Rattle.ep_int.proofs.Basics.{some-injective}
use Rattle.ep_int.proofs.Wrapping.{bytes_of_positive}
use Rattle.ep_alarms.specs.declared.types.AlarmKind.TheVariants.{U4, U5, U6, U7, U10}
use Rattle.ep_domain.specs.Domain.{Ops, Lawful, Holds}
use Rattle.ep_cells.specs.declared.cell.Cell.{Cell}
use Rattle.ep_cells.specs.declared.cell.Value.{Value}
use Rattle.ep_cells.specs.declared.cell.Value.TheVariants.{Num, Ptr}
use Rattle.ep_cells.specs.Look.{cell_at}
use Rattle.ep_cells.specs.States.{Known}
use Rattle.ep_cells.specs.Meaning.{Memories}
use Rattle.ep_reads.specs.declared.read.ReadValue.{ReadValue}
use Rattle.ep_reads.specs.Read.{is_exact, converted, whole_read, read_in_parts, bytes_there, sum_of, unsigned_of}
use Rattle.ep_reads.specs.Read.{read_with, read}
use Rattle.ep_reads.proofs.Gathered.{of_reads}
use Rattle.ep_core.specs.Program.{Block, Program}
use Rattle.ep_core.specs.Exec.{block_size, size_at}
use Rattle.ep_core.specs.Runs.{Side}
use Rattle.ep_equalities.specs.declared.pair.Mode.{Mode}
use Rattle.ep_equalities.specs.declared.pair.Fault.{Fault}
use Rattle.ep_equalities.specs.declared.pair.SideValue.{SideValue}
use Rattle.ep_evaluation.specs.Given.{Given, cells_of, runs, on, shown_if, faults_on}
use Rattle.ep_evaluation.specs.Accesses.{reads_of, joined_reads, form_of_reads, is_unset, is_mixed, lacks_value}
use Rattle.ep_evaluation.specs.Accesses.{bounds_of, may_be_odd}
use Rattle.ep_evaluation.specs.Evaluation.{pointer, targets_of, is_null, same, reads_at, load_side, all_shared}
use Rattle.ep_evaluation.specs.Evaluation.{load_given}
use Rattle.ep_evaluation.specs.Laws.{memory_of, sizes_of}
use Rattle.ep_evaluation.proofs.Basics.{faults_on-none}
use Rattle.ep_evaluation.proofs.General.{on_running, IsNum, is_int}
use Rattle.ep_evaluation.proofs.Loads.{loads}
use Rattle.ep_movers.specs.Symbols.{Symbol}
use Rattle.ep_movers.specs.Movers.{Machine, bytes_in, loaded_bytes}
use Rattle.ep_mover_bits.specs.Laws.{Inputs, HasBytes}
use Rattle.ep_mover_cells.specs.Laws.{IsReadAs}
use Rattle.ep_mover_cells.proofs.Loaded.{loaded_length}
use Rattle.ep_mover_cells.proofs.Bytewise.{reads_know}
use Rattle.ep_single_places.specs.Laws.{IsPlaceFor, IsOneAccess}
use Rattle.ep_single_places.proofs.Places.{accesses_are_one}
use Rattle.ep_mover_values.specs.Naturals.{IsNatural, KeepsNaturals}
use Rattle.ep_mover_values.specs.Laws.{IsOfBytes, GivesBytes, IsAt, IsMoving}
use Rattle.ep_mover_values.proofs.Places.{no_faults}

-- ---- numbers that are read are converted

module _ {N : Type 0} (D : Ops N) where
  record IsConverted (t : IntType) (n : N) : Type 0 where
    old : N
    is : n ≡ D.convert old t

  pub num_same : (a b : N) → ◌≡◌ {A = Option (Value N)} (Some (Num a)) (Some (Num b)) → a ≡ b
  num_same a b e = let f : Num a ≡ Num b = some-injective e in cc

  whole_converted : (t : IntType) (n : N) (o : Option (Value N)) → option_map (converted D (Int t)) o ≡ Some (Num n)
      → IsConverted t n
  whole_converted t n None e = absurd (cc)
  whole_converted t n (Some (Num a)) e = record { old = a; is = sym (num_same (D.convert a t) n e) }
  whole_converted t n (Some (Ptr p)) e = absurd (let f : Some (Ptr p) ≡ Some (Num n) = e in cc)

  sum_converted : (t : IntType) (n : N) (o : Option N) → option_map (λ n. Num (D.convert n t)) o ≡ Some (Num n)
      → IsConverted t n
  sum_converted t n None e = absurd (cc)
  sum_converted t n (Some a) e = record { old = a; is = sym (num_same (D.convert a t) n e) }

  module _ (k : Known N) (s : Side) (b q : ℕ) (t : IntType) (n : N) where
    parts_converted : (read_in_parts D k (cells_of s) b q (Int t)).value ≡ Some (Num n) → IsConverted t n
    parts_converted e =
        sum_converted t n (sum_of D (unsigned_of t) (bytes_there D k (cells_of s) b q (bytes_of t))) e

    exact_converted : (x : Cell N) (v : Bool)
        → (cond v (whole_read D (Int t) x) (read_in_parts D k (cells_of s) b q (Int t))).value ≡ Some (Num n)
        → IsConverted t n
    exact_converted x true e = whole_converted t n x.value e
    exact_converted x false e = parts_converted e

    with_converted : (o : Option (Cell N)) → (read_with D k (cells_of s) b q (Int t) o).value ≡ Some (Num n)
        → IsConverted t n
    with_converted None e = parts_converted e
    with_converted (Some x) e = exact_converted x (is_exact k.model (Int t) q x) e

    read_converted : (read D k (cells_of s) b q (Int t)).value ≡ Some (Num n) → IsConverted t n
    read_converted e = with_converted (cell_at k.model (cells_of s) b q k.cells) e

-- a block that has bytes is there
pub size_by : (o : Order) (p : Program) (c : Option Block) → 0 < block_size o p c
    → option_map (λ (x : Block). x.size) c ≡ Some (block_size o p c)
size_by o p None h = absurd (let z : ⊥ = omega (arith, h) in z)
size_by o p (Some x) h = refl

enough : (q n size : ℕ) → q + n ≤ size → 0 < n → 0 < size
enough q n size h i = omega (arith, h, i)

module _ {N : Type 0} (D : Ops N) (law : Lawful D) (keeps : KeepsNaturals D) (p : Program) (ord : Side → Order)
    (base : Inputs) (ms : Side → Machine) (k : Known N) (m : Memories) (h : IsMoving D p ord base ms k m) where
  module _ (t : IntType) (unsigned : is_signed t ≡ false) (b q : ℕ) where
    abbrev there : Side → ReadValue N
    there s = read D k (cells_of s) b q (Int t)

    -- what is read on a side
    record IsRead (s : Side) (xs : List Symbol) : Type 0 where
      n : N
      value : (there s).value ≡ Some (Num n)
      natural : IsNatural D t n
      form : HasBytes base (there s).form xs
      long : length xs ≡ bytes_of t
      set : is_unset (there s ∷ []) ≡ false
      unmixed : is_mixed (there s ∷ []) ≡ false

    unset_by : (r : ReadValue N) (n : N) → r.maybe ≡ false → r.value ≡ Some (Num n) → is_unset (r ∷ []) ≡ false
    unset_by r n e f =
        ap (λ z. (z || (option_map_or (λ v. false) r.value true && not r.mixed)) || false) e
        ∙ ap (λ v. (option_map_or (λ v. false) v true && not r.mixed) || false) f

    read_is : (s : Side) (xs : List Symbol)
        → loaded_bytes (ord s) (bytes_in (ms s).memory b) q (bytes_of t) 0 (bytes_of t) ≡ Ok xs → IsRead s xs
    read_is s xs e =
        let r = reads_know D p ord base ms k h.moved s b q t xs e in
        let f = (of_reads D law).holds k (cells_of s) b q (Int t) h.kept.state.cells m h.kept.holds r.sure r.unmixed in
        let i = is_int D t (there s).value f.datum f.allowed in
        let c = read_converted D k s b q t i.num.number i.num.is in
        record {
          n = i.num.number;
          value = i.num.is;
          natural = subst (IsNatural D t) (sym c.is)
              (keeps.converted t c.old i.z (subst (λ n. Holds D n i.z) c.is i.num.holds) unsigned);
          form = r.form;
          long = loaded_length (ord s) (bytes_in (ms s).memory b) q (bytes_of t) 0 (bytes_of t) xs e;
          set = unset_by (there s) i.num.number r.sure i.num.is;
          unmixed = ap (λ z. z || false) r.unmixed;
        }

    -- ---- at a place

    module _ (mode : Mode) (x : Given N) (at : IsAt D mode x b q) (xs : Side → List Symbol)
        (said : (s : Side) → runs mode s ≡ true
        → loaded_bytes (ord s) (bytes_in (ms s).memory b) q (bytes_of t) 0 (bytes_of t) ≡ Ok (xs s))
        (found : (s : Side) → runs mode s ≡ true → (v : Datum)
        × (loaded (ord s) p.types.model (size_at (ord s) p b) (memory_of s m) (Int t) b q ≡ has v)) where
      abbrev sizes : List ℕ
      sizes = sizes_of p.blocks

      access : (s : Side) → runs mode s ≡ true → IsOneAccess D sizes (bytes_of t) (on x.pair s) b q
      access s r =
          let v = found s r in
          let l = loads (ord s) p.types.model (size_at (ord s) p b) (memory_of s m) (Int t) b q v.0 v.1 in
          let for : IsPlaceFor sizes b q (bytes_of t) = record {
            size = size_at (ord s) p b;
            of_block = slice_get-map (λ (y : Block). y.size) p.blocks b
                ∙ size_by (ord s) p (slice_get p.blocks b)
                (enough q (bytes_of t) (size_at (ord s) p b) l.inside (bytes_of_positive t));
            inside = l.inside;
            aligned = l.aligned;
          } in
          accesses_are_one D law sizes (bytes_of t) (on x.pair s) b q (at.each s r) (bytes_of_positive t) for

      reads_are : (s : Side) → runs mode s ≡ true
          → reads_at D sizes (Int t) k (on x.pair s) s ≡ there s ∷ []
      reads_are s r = ap (λ qs. reads_of D k (cells_of s) (Int t) qs) (access s r).place

      abbrev f6 : List Fault
      f6 = faults_on mode U6 (λ s. shown_if (is_null D sizes (pointer D (on x.pair s))))

      abbrev f5 : List Fault
      f5 = faults_on mode U5 (λ s. bounds_of D sizes (bytes_of t) (targets_of D sizes (pointer D (on x.pair s))))

      abbrev f7 : List Fault
      f7 =
          faults_on mode U7
          (λ s. shown_if (may_be_odd D (bytes_of t) (targets_of D sizes (pointer D (on x.pair s)))))

      abbrev f4 : List Fault
      f4 = faults_on mode U4 (λ s. shown_if (is_unset (reads_at D sizes (Int t) k (on x.pair s) s)))

      abbrev f10 : List Fault
      f10 = faults_on mode U10 (λ s. shown_if (is_mixed (reads_at D sizes (Int t) k (on x.pair s) s)))

      load_quiet : (load_given D sizes (Int t) mode k x).faults ≡ []
      load_quiet =
          no_faults x.faults (f6 ++ (f5 ++ (f7 ++ (f4 ++ f10)))) at.quiet
          (no_faults f6 (f5 ++ (f7 ++ (f4 ++ f10)))
          (faults_on-none mode U6 (λ s. shown_if (is_null D sizes (pointer D (on x.pair s))))
          (λ s r. ap shown_if (access s r).not_null))
          (no_faults f5 (f7 ++ (f4 ++ f10))
          (faults_on-none mode U5
          (λ s. bounds_of D sizes (bytes_of t) (targets_of D sizes (pointer D (on x.pair s))))
          (λ s r. (access s r).inside))
          (no_faults f7 (f4 ++ f10)
          (faults_on-none mode U7
          (λ s. shown_if (may_be_odd D (bytes_of t) (targets_of D sizes (pointer D (on x.pair s)))))
          (λ s r. ap shown_if (access s r).aligned))
          (no_faults f4 f10
          (faults_on-none mode U4 (λ s. shown_if (is_unset (reads_at D sizes (Int t) k (on x.pair s) s)))
          (λ s r. ap (λ rs. shown_if (is_unset rs)) (reads_are s r)
          ∙ ap shown_if (read_is s (xs s) (said s r)).set))
          (faults_on-none mode U10 (λ s. shown_if (is_mixed (reads_at D sizes (Int t) k (on x.pair s) s)))
          (λ s r. ap (λ rs. shown_if (is_mixed rs)) (reads_are s r)
          ∙ ap shown_if (read_is s (xs s) (said s r)).unmixed))))))

      load_each : (s : Side) → runs mode s ≡ true
          → IsOfBytes D base t (load_side D sizes (Int t) k (on x.pair s) s) (xs s)
      load_each s r =
          let i = read_is s (xs s) (said s r) in
          record {
            n = i.n;
            value = ap (joined_reads D) (reads_are s r) ∙ i.value;
            natural = i.natural;
            form = subst (λ f. HasBytes base f (xs s)) (sym (ap form_of_reads (reads_are s r))) i.form;
            long = i.long;
          }

      pub load_gives : GivesBytes D base t mode (load_given D sizes (Int t) mode k x) xs
      load_gives = record {
        quiet = load_quiet;
        each = λ s r. subst (λ (y : SideValue N). IsOfBytes D base t y (xs s))
            (sym (on_running mode s (λ s. load_side D sizes (Int t) k (on x.pair s) s)
            (same D x && all_shared D sizes mode (Int t) k x.pair) r))
            (load_each s r);
      }
