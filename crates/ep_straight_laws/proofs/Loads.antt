-- What the load of a variable comes to.
use Rattle.std.proofs.Common.{◌≡◌, ◌≢◌, ℕ, ◌<◌, ◌⊎◌, inl, inr, ℤ, pos, Bool, true, false, ◌&&◌, cond, List, [], ◌∷◌}
use Rattle.ep_int.proofs.Wrapping.{bytes_of_positive}
use Rattle.std.proofs.Common.{◌++◌, map, refl, sym, ap, ◌∙◌, subst, Option, Some, None, option_map, arith}
use Rattle.std.specs.List.{filter}
use Rattle.std.proofs.lemmas.Int.{ints}
use Rattle.std.proofs.lemmas.Bool.{eq-eqb}
use Rattle.ep_int.specs.declared.types.IntType.{IntType}
use Rattle.ep_int.specs.declared.types.IntType.TheVariants.{I8, U8, I16, U16, I32, U32, I64, U64}
use Rattle.ep_int.specs.declared.types.Order.{Order}
use Rattle.ep_int.specs.declared.types.Scalar.TheVariants.{Int}
use Rattle.ep_int.specs.Types.{InRange, bytes_of, wrapped}
use Rattle.ep_int.specs.Arith.{IsOfSomeType}
use Rattle.ep_int.specs.Encoding.{encoded}
use Rattle.ep_int.specs.Memory.{Memory, undefined, number, int, Kind, uninitialised, Found, has, faults, loaded}
use Rattle.ep_int.proofs.Wrapping.{wrapped_same}
use Rattle.ep_int.proofs.Memories.{loaded_of, loaded_undefined}
use Rattle.ep_alarms.specs.declared.types.AlarmKind.TheVariants.{U4, U5, U6, U7, U10}
use Rattle.ep_domain.specs.Domain.{Ops, Lawful, Holds, IsSingle}
use Rattle.ep_pointers.specs.Value.{one_target}
use Rattle.ep_cells.specs.declared.cell.Value.{Value}
use Rattle.ep_cells.specs.declared.cell.Value.TheVariants.{Num}
use Rattle.ep_cells.specs.Cells.{is_same_side}
use Rattle.ep_cells.specs.Look.{cell_at}
use Rattle.ep_cells.specs.States.{Known, AreCells}
use Rattle.ep_bitslice.specs.declared.cell.Side.TheVariants.{Shared}
use Rattle.ep_reads.specs.declared.read.ReadValue.{ReadValue}
use Rattle.ep_reads.specs.Bytes.{form_of_cell}
use Rattle.ep_reads.specs.Read.{is_exact, whole_read, read_with, read_in_parts, converted, read}
use Rattle.ep_cell_ranges.specs.Shared.{is_shared_cell}
use Rattle.ep_core.specs.Program.{Program}
use Rattle.ep_core.specs.Exec.{model, block_size, size_at}
use Rattle.ep_core.specs.Runs.{Side, left, right}
use Rattle.ep_core.specs.WellFormed.{holds_scalar, is_well_formed}
use Rattle.ep_alarm_laws.proofs.OwnPlaces.{own_quiet}
use Rattle.ep_equalities.specs.declared.pair.Mode.TheVariants.{Both}
use Rattle.ep_equalities.specs.declared.pair.Fault.{Fault}
use Rattle.ep_evaluation.specs.Given.{Given, cells_of, on, shown_if, faults_on}
use Rattle.ep_evaluation.specs.Accesses.{offsets_in, held_spots, spots, reads_of, joined_reads, is_unset, is_mixed}
use Rattle.ep_evaluation.specs.Accesses.{are_shared, bounds_of, may_be_odd}
use Rattle.ep_evaluation.specs.Evaluation.{pointer_given, load_given, reads_at, targets_of, pointer, is_null}
use Rattle.ep_evaluation.specs.Evaluation.{load_shared}
use Rattle.ep_evaluation.proofs.General.{none_left}
use Rattle.ep_transfers.specs.Places.{range_faults}
use Rattle.ep_transfers.specs.Transfers.{sizes}
use Rattle.ep_straight_laws.proofs.Cells.{IsCellOf}
use Rattle.ep_straight_laws.proofs.Scalars.{integer_is}
use Rattle.ep_straight_laws.proofs.Values.{looked_up}

-- ---- what is known of a variable, and what the machines hold there

abbrev pub HasNumber : Order → Memory → (block : ℕ) → IntType → ℤ → Type 0
HasNumber o m b t z = (j : ℕ) → j < bytes_of t → m b j ≡ number (encoded o t z j)

abbrev pub HasNothing : Memory → (block : ℕ) → IntType → Type 0
HasNothing m b t = (j : ℕ) → j < bytes_of t → m b j ≡ undefined

offsets_whole : (t : IntType) → offsets_in (bytes_of t) (bytes_of t) (bytes_of t) ≡ 0 ∷ []
offsets_whole I8 = refl
offsets_whole U8 = refl
offsets_whole I16 = refl
offsets_whole U16 = refl
offsets_whole I32 = refl
offsets_whole U32 = refl
offsets_whole I64 = refl
offsets_whole U64 = refl

three_gone : (a b c rest : List Fault) → a ≡ [] → b ≡ [] → c ≡ [] → a ++ (b ++ (c ++ rest)) ≡ rest
three_gone a b c rest e f g = rw (e, f, g) refl

abbrev pub by_side : {A : Type 0} → A → A → Side → A
by_side a b left = a
by_side a b right = b

module _ {N : Type 0} (D : Ops N) where
  -- it is the one number that is known, or it is 1
  pub record Is (n : N) (z : ℤ) : Type 0 where
    pub held : Holds D n z
    pub exact : IsSingle D n z ⊎ (z ≡ pos 1)

  pub data Comes (t : IntType) (g : Given N) (u v : Found) : Type 0 where
    nothing : (i j : Kind) → g.faults ≢ [] → u ≡ faults i → v ≡ faults j → Comes t g u v
    found : (a b : N) (z : ℤ) → g.faults ≡ [] → g.pair.equal ≡ true → g.pair.left.value ≡ Some (Num a)
        → g.pair.right.value ≡ Some (Num b) → u ≡ has (int z) → v ≡ has (int z) → InRange t z → Is a z → Is b z
        → Comes t g u v

  module _ (ord : Side → Order) where
    -- it has a value
    pub record IsSet (k : Known N) (x y : Memory) (b : ℕ) (t : IntType) : Type 0 where
      pub known : N
      pub z : ℤ
      pub cell : IsCellOf k b t (Some (Num known)) false
      pub ranged : InRange t z
      pub is : Is known z
      pub on_left : HasNumber (ord left) x b t z
      pub on_right : HasNumber (ord right) y b t z

    pub data IsVariable (k : Known N) (x y : Memory) (b : ℕ) (t : IntType) : Type 0 where
      unset : IsCellOf k b t None true → HasNothing x b t → HasNothing y b t → IsVariable k x y b t
      set : IsSet k x y b t → IsVariable k x y b t

  pub one_wrapped : (t : IntType) → wrapped t (pos 1) ≡ pos 1
  one_wrapped I8 = refl
  one_wrapped U8 = refl
  one_wrapped I16 = refl
  one_wrapped U16 = refl
  one_wrapped I32 = refl
  one_wrapped U32 = refl
  one_wrapped I64 = refl
  one_wrapped U64 = refl

  pub convert_is : Lawful D → (n : N) (t : IntType) (z : ℤ) → Is n z → Is (D.convert n t) (wrapped t z)
  convert_is law n t z i = record {
    held = law.convert_holds n t z i.held;
    exact = elim i.exact [
      | inl e ↦ inl (law.convert_single n t z e)
      | inr e ↦ inr (ap (wrapped t) e ∙ one_wrapped t)
    ];
  }

  -- ---- its one place

  module _ (law : Lawful D) (p : Program) (formed : is_well_formed p ≡ true) (b : ℕ) (t : IntType)
      (integer : holds_scalar p.types p.blocks (b, Int t) ≡ true) where
    pub place_is : spots D (sizes D p) (bytes_of t) (bytes_of t) ((b, D.single (pos 0)) ∷ []) ≡ (b, 0) ∷ []
    place_is =
        ap (λ o. held_spots D (bytes_of t) (bytes_of t) (b, D.single (pos 0)) o ++ [])
        (integer_is p formed b t integer).sized
        ∙ ap (λ qs. map (λ (q : ℕ). (b, q)) (filter (λ q. D.holds (D.single (pos 0)) (pos q)) qs) ++ [])
        (offsets_whole t)
        ∙ ap (λ h. map (λ (q : ℕ). (b, q)) (cond h (0 ∷ []) []) ++ []) (law.single_holds (pos 0) zero_of)
      where
        zero_of : IsOfSomeType (pos 0)
        zero_of = record { low = omega (arith, ints); high = omega (arith, ints) }

    -- ---- what is read

    module _ (k : Known N) (cells : AreCells k.model k.cells) (told : k.model ≡ p.types.model) (v : Option (Value N))
        (maybe : Bool) (c : IsCellOf k b t v maybe) where
      abbrev pub here : Given N
      here = pointer_given D (one_target b (D.single (pos 0))) Both

      abbrev pub given : Given N
      given = load_given D (sizes D p) (Int t) Both k here

      look : (s : Side) → (j : ℕ) → j < bytes_of t → cell_at k.model (cells_of s) b j k.cells ≡ Some c.cell
      look s j l = looked_up k cells b t c.cell c.placed c.is_in s j l

      exact : is_exact k.model (Int t) 0 c.cell ≡ true
      exact = rw (c.placed.offset, c.placed.what, eq-eqb (bytes_of t) (bytes_of t) refl) refl

      read_is : (s : Side) → read D k (cells_of s) b 0 (Int t) ≡ whole_read D (Int t) c.cell
      read_is s =
          ap (λ o. read_with D k (cells_of s) b 0 (Int t) o) (look s 0 (bytes_of_positive t))
          ∙ ap (λ h. cond h (whole_read D (Int t) c.cell) (read_in_parts D k (cells_of s) b 0 (Int t))) exact

      reads_is : (s : Side) → reads_at D (sizes D p) (Int t) k (on here.pair s) s ≡ whole_read D (Int t) c.cell ∷ []
      reads_is left = ap (λ qs. reads_of D k (cells_of left) (Int t) qs) place_is ∙ ap (λ r. r ∷ []) (read_is left)
      reads_is right = ap (λ qs. reads_of D k (cells_of right) (Int t) qs) place_is ∙ ap (λ r. r ∷ []) (read_is right)

      -- the faults of one read that both sides make
      abbrev pub read_faults : List (ReadValue N) → List (ReadValue N) → List Fault
      read_faults a b =
          faults_on Both U4 (λ s. shown_if (is_unset (by_side a b s)))
          ++ faults_on Both U10 (λ s. shown_if (is_mixed (by_side a b s)))

      faults_are : given.faults
          ≡ read_faults (whole_read D (Int t) c.cell ∷ []) (whole_read D (Int t) c.cell ∷ [])
      faults_are =
          let q = own_quiet p formed D law (b, Int t) integer Both k told in
          let a = none_left (range_faults D (sizes D p) Both (bytes_of t) here.pair)
          (faults_on Both U7 (λ s. shown_if (may_be_odd D (bytes_of t) (targets_of D (sizes D p) (pointer D
          (on here.pair s)))))) q in
          let e = none_left (faults_on Both U6 (λ s. shown_if (is_null D (sizes D p) (pointer D (on here.pair s)))))
          (faults_on Both U5 (λ s. bounds_of D (sizes D p) (bytes_of t) (targets_of D (sizes D p) (pointer D
          (on here.pair s))))) a.0 in
          three_gone _ _ _ (read_faults (reads_at D (sizes D p) (Int t) k here.pair.left left)
          (reads_at D (sizes D p) (Int t) k here.pair.right right)) e.0 e.1 a.1
          ∙ ap (λ x. read_faults x (reads_at D (sizes D p) (Int t) k here.pair.right right)) (reads_is left)
          ∙ ap (λ x. read_faults (whole_read D (Int t) c.cell ∷ []) x) (reads_is right)

      pub value_is : (s : Side) → (on given.pair s).value ≡ option_map (converted D (Int t)) v
      value_is left =
          ap (λ rs. joined_reads D rs) (reads_is left) ∙ ap (λ u. option_map (converted D (Int t)) u) c.value
      value_is right =
          ap (λ rs. joined_reads D rs) (reads_is right) ∙ ap (λ u. option_map (converted D (Int t)) u) c.value

      one_shared : (s : Side) → are_shared k (cells_of s) (Int t) ((b, 0) ∷ []) ≡ true
      one_shared s =
          ap (λ o. is_shared_cell k (Int t) 0 o && true) (look s 0 (bytes_of_positive t))
          ∙ (let e : (is_exact k.model (Int t) 0 c.cell && is_same_side c.cell.side Shared) ≡ true
          = rw (exact, c.placed.side) refl in ap (λ z. z && true) e)

      shared_is : (s : Side) → load_shared D (sizes D p) (Int t) k (on here.pair s) s ≡ true
      shared_is left = ap (λ qs. are_shared k (cells_of left) (Int t) qs) place_is ∙ one_shared left
      shared_is right = ap (λ qs. are_shared k (cells_of right) (Int t) qs) place_is ∙ one_shared right

      pub equal_is : given.pair.equal ≡ true
      equal_is = rw (shared_is left, shared_is right) refl

      abbrev pub read_with_these : Bool → Option (Value N) → List (ReadValue N)
      read_with_these m w = record { value = w; maybe = m; mixed = false; form = form_of_cell c.cell } ∷ []

      pub faults_with : given.faults
          ≡ read_faults (read_with_these maybe (option_map (converted D (Int t)) v))
          (read_with_these maybe (option_map (converted D (Int t)) v))
      faults_with =
          faults_are
          ∙ ap (λ m. read_faults (read_with_these m (option_map (converted D (Int t)) c.cell.value))
          (read_with_these m (option_map (converted D (Int t)) c.cell.value))) c.sure
          ∙ ap (λ w. read_faults (read_with_these maybe (option_map (converted D (Int t)) w))
          (read_with_these maybe (option_map (converted D (Int t)) w))) c.value

    -- ---- what both machines find

    size_is : (o : Order) → size_at o p b ≡ bytes_of t
    size_is o = let i = integer_is p formed b t integer in ap (block_size o p) i.here ∙ i.size_is

    pub load_comes : (k : Known N) → AreCells k.model k.cells → k.model ≡ p.types.model → (ord : Side → Order)
        (x y : Memory)
        → IsVariable ord k x y b t
        → Comes t (load_given D (sizes D p) (Int t) Both k (pointer_given D (one_target b (D.single (pos 0))) Both))
        (loaded (ord left) (model (ord left) p) (size_at (ord left) p b) x (Int t) b 0)
        (loaded (ord right) (model (ord right) p) (size_at (ord right) p b) y (Int t) b 0)
    load_comes k cells told ord x y (unset c h g) =
        nothing uninitialised uninitialised
        (λ e. let z : read_faults k cells told None true c (read_with_these k cells told None true c true None)
        (read_with_these k cells told None true c true None) ≡ [] = sym (faults_with k cells told None true c)
        ∙ e in cc)
        (loaded_undefined (ord left) (model (ord left) p) (size_at (ord left) p b) x t b h
        (omega (arith, size_is (ord left))))
        (loaded_undefined (ord right) (model (ord right) p) (size_at (ord right) p b) y t b g
        (omega (arith, size_is (ord right))))
    load_comes k cells told ord x y (set q) =
        let n = q.known in
        let z = q.z in
        let c = q.cell in
        let ranged = q.ranged in
        let kept : Is (D.convert n t) z
        = subst (λ w. Is (D.convert n t) w) (wrapped_same t z ranged) (convert_is law n t z q.is) in
        found (D.convert n t) (D.convert n t) z (faults_with k cells told (Some (Num n)) false c)
        (equal_is k cells told (Some (Num n)) false c) (value_is k cells told (Some (Num n)) false c left)
        (value_is k cells told (Some (Num n)) false c right)
        (loaded_of (ord left) (model (ord left) p) (size_at (ord left) p b) x t b z ranged
        (omega (arith, size_is (ord left))) q.on_left)
        (loaded_of (ord right) (model (ord right) p) (size_at (ord right) p b) y t b z ranged
        (omega (arith, size_is (ord right))) q.on_right) ranged kept kept
