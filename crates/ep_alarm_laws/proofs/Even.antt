-- Where numbers keep strides, all offsets of a place that a declaration names, or of a part of one, also at an index,
-- are multiples of its alignment.
use Rattle.std.proofs.Common.{◌≡◌, ℕ, zero, suc, ◌*◌, ◌%◌, ◌/◌, ◌≤◌, ◌<◌, ℤ, pos, ◌+ℤ◌, Bool, true, false, ◌&&◌, not}
use Rattle.ep_evaluation.proofs.Basics.{faults_on-none}
use Rattle.std.proofs.lemmas.Bool.{or_from}
use Rattle.std.proofs.Common.{nat_eq, nat_le, if◌then◌else◌, IsTrue, List, [], ◌∷◌, slice_get, Option, Some, None}
use Rattle.std.proofs.Common.{option_map, option_and_then, IfSome, refl, sym, ap, ◌∙◌, subst, arith}
use Rattle.std.proofs.lemmas.Bool.{and_parts, leb-true, le-leb}
use Rattle.ep_int.specs.declared.types.Scalar.{Scalar}
use Rattle.ep_int.specs.Types.{size_of, residue}
use Rattle.ep_layout.specs.Layout.{Layout, scalar_layout}
use Rattle.ep_layout.specs.Table.{Table, IsBuilt, layout_of, size}
use Rattle.ep_layout.proofs.Options.{same_some}
use Rattle.ep_layout.proofs.Ordered.{IsPower}
use Rattle.ep_layout.proofs.Sizes.{layout_fits}
use Rattle.ep_alarms.specs.declared.types.AlarmKind.TheVariants.{U7}
use Rattle.ep_domain.specs.Domain.{Ops, IsSingle, IsStride, KeepsStrides, Lawful}
use Rattle.ep_pointers.specs.Value.{Pointers, one_target}
use Rattle.ep_pointers.specs.Sum.{move, moved_offset, moved_targets, bytes_of, offsets_and, cut_to, put, of_targets}
use Rattle.ep_pointers.proofs.Moving.{offset_of_some_type}
use Rattle.ep_cells.specs.States.{Known}
use Rattle.ep_cells.specs.declared.cell.Value.TheVariants.{Ptr}
use Rattle.ep_core.specs.Exec.{greatest_offset}
use Rattle.ep_core.specs.Program.{Place, block, deref, member, element, Expr, Program}
use Rattle.ep_core.specs.Runs.{Side}
use Rattle.ep_core.specs.WellFormed.{is_number, is_length, is_int, int_type_of, has_sort, is_named, block_has}
use Rattle.ep_core.specs.WellFormed.{has_member, has_scalar, is_array_of, has_bound, some_type, ty_at, place_has}
use Rattle.ep_core.specs.WellFormed.{is_well_formed}
use Rattle.ep_core.proofs.Sorts.{never, three, type_where}
use Rattle.ep_pass.specs.Places.{is_through}
use Rattle.ep_equalities.specs.declared.pair.Mode.{Mode}
use Rattle.ep_evaluation.specs.Given.{runs, on, shown_if}
use Rattle.ep_evaluation.specs.Accesses.{is_some_odd, holds_odd, may_be_odd, moved_by, element_of, element_targets}
use Rattle.ep_evaluation.specs.Accesses.{index_in}
use Rattle.ep_evaluation.specs.Evaluation.{pointer, number, targets_of, offset_number, formless, place, expression}
use Rattle.ep_transfers.specs.Transfers.{sizes}
use Rattle.ep_alarm_laws.specs.Laws.{ProductsKeepStrides}
use Rattle.ep_alarm_laws.proofs.Named.{odd_faults}
use Rattle.ep_alarm_laws.proofs.Tables.{by_power, whole, IsPart, member_part, elements, scalar_laid, zero_is_multiple}
use Rattle.ep_alarm_laws.proofs.Places.{on_running, pointer_of, object, size_laid}

-- ---- multiples

power_stride : (s : ℕ) → IsPower s → IsStride 0 s
power_stride = by_power (λ s. IsStride 0 s) (record { below = omega arith; small = omega arith })
    (record { below = omega arith; small = omega arith }) (record { below = omega arith; small = omega arith })
    (record { below = omega arith; small = omega arith })

abbrev Factor : ℕ → ℕ → Type 0
Factor s a = (k : ℕ) × (a ≡ s * k)

smaller_power : (s : ℕ) → IsPower s → (a : ℕ) → IsPower a → s ≤ a → Factor s a
smaller_power = by_power (λ s. (a : ℕ) → IsPower a → s ≤ a → Factor s a)
    (by_power (λ a. 1 ≤ a → Factor 1 a) (λ l. (1, refl)) (λ l. (2, refl)) (λ l. (4, refl)) (λ l. (8, refl)))
    (by_power (λ a. 2 ≤ a → Factor 2 a) (λ l. absurd (omega (arith, l))) (λ l. (1, refl)) (λ l. (2, refl))
    (λ l. (4, refl)))
    (by_power (λ a. 4 ≤ a → Factor 4 a) (λ l. absurd (omega (arith, l))) (λ l. absurd (omega (arith, l)))
    (λ l. (1, refl)) (λ l. (2, refl)))
    (by_power (λ a. 8 ≤ a → Factor 8 a) (λ l. absurd (omega (arith, l))) (λ l. absurd (omega (arith, l)))
    (λ l. absurd (omega (arith, l))) (λ l. (1, refl)))

factor : (s : ℕ) → IsPower s → (n : ℕ) → n % s ≡ 0 → Factor s n
factor = by_power (λ s. (n : ℕ) → n % s ≡ 0 → Factor s n) (λ n h. (n, omega arith)) (λ n h. (n / 2, omega (arith, h)))
    (λ n h. (n / 4, omega (arith, h))) (λ n h. (n / 8, omega (arith, h)))

-- ---- numbers and targets

module _ {N : Type 0} (D : Ops N) (law : Lawful D) (keeps : KeepsStrides D) (products : ProductsKeepStrides D) where
  abbrev pub IsEven : ℕ → N → Type 0
  IsEven s n = IsTrue (D.has_stride n 0 s)

  abbrev pub AreEven : ℕ → List (ℕ × N) → Type 0
  AreEven s [] = Unit {0}
  AreEven s (t ∷ ts) = IsEven s t.1 × AreEven s ts

  of_single : (s : ℕ) → IsPower s → (q : ℕ) → q ≤ 65536 → q % s ≡ 0 → IsEven s (D.single (pos q))
  of_single s w q n h =
      let i = power_stride s w in
      subst (λ r. IsTrue (D.has_stride (D.single (pos q)) r s)) h
      (keeps.single (pos q) s (offset_of_some_type q (omega (arith, n))) i.below i.small)

  module _ (s : ℕ) (w : IsPower s) where
    even_sum : (n bytes : N) → IsEven s n → IsEven s bytes → IfSome (offsets_and D false n (Some bytes)) (IsEven s)
    even_sum n bytes h k =
        subst (λ r. IfSome (offsets_and D false n (Some bytes)) (λ c. IsTrue (D.has_stride c r s)))
        (zero_is_multiple s w) (keeps.add n bytes 0 0 s (power_stride s w) (power_stride s w) h k)

    even_cut : (bytes : ℕ) (o : Option N) → IfSome o (IsEven s) → IfSome (cut_to D (Some bytes) o) (IsEven s)
    even_cut bytes None h = tt
    even_cut bytes (Some c) h = keeps.cut c (pos 0) (pos bytes) 0 s (power_stride s w) h

    even_offset : (z : Option ℕ) (n : N) (o : Option N) → IfSome o (IsEven s) → IsEven s n
        → IfSome (cut_to D z (offsets_and D false n o)) (IsEven s)
    even_offset None n o h k = tt
    even_offset (Some bytes) n None h k = tt
    even_offset (Some bytes) n (Some c) h k =
        even_cut bytes (offsets_and D false n (Some c)) (even_sum n c k h)

    even_put : (b : ℕ) (o : Option N) (ts : List (ℕ × N)) → IfSome o (IsEven s) → AreEven s ts
        → AreEven s (put b o ts)
    even_put b None ts h k = k
    even_put b (Some n) ts h k = (h, k)

    narrowed : (a : ℕ) → IsPower a → s ≤ a → (n : N) → IsEven a n → IsEven s n
    narrowed a v l n h =
        let f = smaller_power s w a v l in
        subst (λ r. IsTrue (D.has_stride n r s)) (zero_is_multiple s w)
        (law.stride_divides n 0 s f.0 (subst (IsStride 0) f.1 (power_stride a v))
        (subst (λ r. IsTrue (D.has_stride n 0 r)) f.1 h))

    -- a member
    even_moved : (a : ℕ) → IsPower a → s ≤ a → (blocks : List ℕ) (q : ℕ) → q ≤ 65536 → q % s ≡ 0
        → (ts : List (ℕ × N)) → AreEven a ts
        → AreEven s (moved_targets D (move (D.single (pos q)) 1 false) blocks ts)
    even_moved a v l blocks q n h [] k = tt
    even_moved a v l blocks q n h (t ∷ ts) k =
        let one : 1 < 4294967296 = omega arith in
        even_put t.0 (moved_offset D (move (D.single (pos q)) 1 false) (slice_get blocks t.0) t.1)
        (moved_targets D (move (D.single (pos q)) 1 false) blocks ts)
        (even_offset (slice_get blocks t.0) t.1 (bytes_of D (D.single (pos q)) 1)
        (products (D.single (pos q)) (D.single (pos 1)) 0 s (power_stride s w) (of_single s w q n h)
        (law.single_range (pos 1) (offset_of_some_type 1 one)))
        (narrowed a v l t.1 k.0))
        (even_moved a v l blocks q n h ts k.1)

    -- elements
    even_elements : (i : N) (unit : ℕ) → unit ≤ 65536 → unit % s ≡ 0 → (ts : List (ℕ × N)) → AreEven s ts
        → AreEven s (element_targets D (move i unit false) ts)
    even_elements i unit n h [] k = tt
    even_elements i unit n h (t ∷ ts) k =
        let f = factor s w unit h in
        even_put t.0 (moved_offset D (move i unit false) (Some greatest_offset) t.1)
        (element_targets D (move i unit false) ts)
        (even_offset (Some greatest_offset) t.1 (bytes_of D i unit)
        (keeps.mul i (D.single (pos unit)) s f.0 (power_stride s w)
        (subst (λ (z : ℕ). IsSingle D (D.single (pos unit)) (pos z)) f.1
        (law.single_range (pos unit) (offset_of_some_type unit (omega (arith, n)))))) k.0)
        (even_elements i unit n h ts k.1)

    -- ---- no fault

    one_even : (a : N) → IsEven s a → (z : ℤ) (t : Bool) → D.holds a z ≡ t → (t && not (nat_eq (residue s z) 0)) ≡ false
    one_even a h z true e =
        ap (λ r. not (nat_eq r 0)) (law.stride_holds a 0 s z (power_stride s w) h e)
    one_even a h z false e = refl

    some_even : (a : N) → IsEven s a → (z : ℤ) (count : ℕ) → is_some_odd D s a z count ≡ false
    some_even a h z zero = refl
    some_even a h z (suc n) =
        or_from (D.holds a z && not (nat_eq (residue s z) 0)) (is_some_odd D s a (z +ℤ pos 1) n)
        (one_even a h z (D.holds a z) refl) (some_even a h (z +ℤ pos 1) n)

    pub never_odd : (ts : List (ℕ × N)) → AreEven s ts → may_be_odd D s ts ≡ false
    never_odd [] h = refl
    never_odd (t ∷ ts) h =
        or_from (holds_odd D s t.1) (may_be_odd D s ts) (some_even t.1 h.0 _ _) (never_odd ts h.1)

  -- ---- addresses

  module _ (blocks : List ℕ) where
    of_list : (s : ℕ) (ts : List (ℕ × N)) → AreEven s ts → AreEven s (targets_of D blocks (of_targets ts))
    of_list s [] h = tt
    of_list s (t ∷ ts) h = h

    pub member_even : (s : ℕ) → IsPower s → (a : ℕ) → IsPower a → s ≤ a → (q : ℕ) → q ≤ 65536 → q % s ≡ 0
        → (p : Option (Pointers N)) → AreEven a (targets_of D blocks p)
        → AreEven s (targets_of D blocks (moved_by D blocks 1 false p (Some (D.single (pos q)))))
    member_even s w a v l q n h None k = tt
    member_even s w a v l q n h (Some p) k =
        of_list s (moved_targets D (move (D.single (pos q)) 1 false) blocks p.targets)
        (even_moved s w a v l blocks q n h p.targets k)

    element_in : (s : ℕ) → IsPower s → (unit : ℕ) → unit ≤ 65536 → unit % s ≡ 0 → (p : Pointers N) → AreEven s p.targets
        → (o : Option N)
        → AreEven s (targets_of D blocks
        (option_and_then (λ i. of_targets (element_targets D (move i unit false) p.targets)) o))
    element_in s w unit n h p k None = tt
    element_in s w unit n h p k (Some i) =
        of_list s (element_targets D (move i unit false) p.targets) (even_elements s w i unit n h p.targets k)

    pub element_even : (s : ℕ) → IsPower s → (bound unit : ℕ) → unit ≤ 65536 → unit % s ≡ 0 → (p : Option (Pointers N))
        → AreEven s (targets_of D blocks p) → (o : Option N)
        → AreEven s (targets_of D blocks (element_of D bound unit p o))
    element_even s w bound unit n h None k o = tt
    element_even s w bound unit n h (Some p) k None = tt
    element_even s w bound unit n h (Some p) k (Some i) = element_in s w unit n h p k (index_in D bound i)

    -- an address of an object of a type
    pub record IsEvenAt (t : Table) (ty : ℕ) (p : Option (Pointers N)) : Type 0 where
      pub layout : Layout
      pub laid : layout_of t ty ≡ Some layout
      pub even : AreEven layout.align (targets_of D blocks p)

-- ---- places

module _ {N : Type 0} (D : Ops N) (law : Lawful D) (keeps : KeepsStrides D) (products : ProductsKeepStrides D)
    (p : Program) (formed : is_well_formed p ≡ true) (built : IsBuilt p.types) (m : Mode) (k : Known N)
    (seen : List ℕ) where
  abbrev at : Place → Side → Option (Pointers N)
  at a s = pointer D (on (place D (sizes D p) a m k).pair s)

  abbrev index : Expr → Side → Option N
  index e s = number D (on ((expression D (sizes D p) e).gives m k).pair s)

  abbrev LiesEven : ℕ → Option (Pointers N) → Type 0
  LiesEven ty o = IsEvenAt D law keeps products (sizes D p) p.types ty o

  small_part : (u ty q : ℕ) (l : Layout) → layout_of p.types u ≡ Some l → IsPart p.types l q ty → q ≤ 65536
  small_part u ty q l e part =
      let a = (layout_fits p.types built u l e).size in
      let b = part.inside in omega (arith, a, b)

  offset_is : (q : ℕ) → q ≤ 65536 → offset_number D (sizes D p) q ≡ Some (D.single (pos q))
  offset_is q n =
      let h : q ≤ 4294967295 = omega (arith, n) in
      ap (λ (c : Bool). Some (D.single (pos (if c then q else greatest_offset)))) (le-leb q greatest_offset h)

  is_even : (a : Place) (ty : ℕ) → place_has p.types p.blocks seen a ty ≡ true → is_through a ≡ false
      → (s : Side) → runs m s ≡ true → LiesEven ty (at a s)
  is_even (block b) ty h th s r =
      let q = and_parts (is_named p.types p.blocks seen b)
      (block_has p.types p.blocks seen (slice_get p.blocks b) ty) h in
      let o = object p formed seen b ty q.1 in
      let w = (whole p.types ty o.layout o.laid).align in
      record {
        layout = o.layout;
        laid = o.laid;
        even = subst (λ z. AreEven D law keeps products o.layout.align (targets_of D (sizes D p) z))
            (sym (ap (pointer D)
            (on_running m (λ v. formless D (Some (Ptr (one_target b (D.single (pos 0)))))) true s r)))
            (of_single D law keeps products o.layout.align w 0 (omega arith) (zero_is_multiple o.layout.align w), tt);
      }
  is_even (deref e) ty h th s r = never (sym th)
  is_even (member a q) ty h th s r =
      let u = type_where p.types p.blocks seen (λ v. has_member p.types v q ty)
      (place_has p.types p.blocks seen a) h in
      let x = is_even a u.0 u.2 th s r in
      let part = member_part p.types built u.0 x.layout q ty x.laid u.1 in
      let n = small_part u.0 ty q x.layout x.laid part in
      record {
        layout = part.layout;
        laid = part.laid;
        even = subst (λ z. AreEven D law keeps products part.layout.align (targets_of D (sizes D p) z))
            (sym (ap (pointer D) (on_running m
            (λ w. formless D
            (option_map Ptr (moved_by D (sizes D p) 1 false (at a w) (offset_number D (sizes D p) q)))) _
            s r) ∙ pointer_of D (moved_by D (sizes D p) 1 false (at a s) (offset_number D (sizes D p) q))
            ∙ ap (moved_by D (sizes D p) 1 false (at a s)) (offset_is q n)))
            (member_even D law keeps products (sizes D p) part.layout.align
            (whole p.types ty part.layout part.laid).align x.layout.align (whole p.types u.0 x.layout x.laid).align
            part.align q n part.multiple (at a s) x.even);
      }
  is_even (element a bound unit i) ty h th s r =
      let q = three (is_length bound && is_length unit && is_number (size p.types ty) unit)
      (some_type p.types p.blocks seen (λ u. is_array_of u ty && has_bound u bound)
      (place_has p.types p.blocks seen a)) (is_int (int_type_of i) (has_sort p.types p.blocks seen i)) h in
      let f = three (is_length bound) (is_length unit) (is_number (size p.types ty) unit) q.0 in
      let u = type_where p.types p.blocks seen (λ v. is_array_of v ty && has_bound v bound)
      (place_has p.types p.blocks seen a) q.1 in
      let x = is_even a u.0 u.2 th s r in
      let e = elements p.types built u.0 x.layout ty bound x.laid u.1 in
      let l = size_laid p.types ty unit f.2 in
      let same : l.0 ≡ e.layout = same_some l.0 e.layout (layout_of p.types ty) l.1 e.laid in
      let w = whole p.types ty e.layout e.laid in
      let bytes : e.layout.size ≡ unit = sym (ap (λ (z : Layout). z.size) same) ∙ l.2 in
      let align : x.layout.align ≡ e.layout.align = ap (λ (z : Layout). z.align) e.is in
      record {
        layout = e.layout;
        laid = e.laid;
        even = subst (λ z. AreEven D law keeps products e.layout.align (targets_of D (sizes D p) z))
            (sym (ap (pointer D) (on_running m
            (λ v. formless D (option_map Ptr (element_of D bound unit (at a v) (index i v)))) _ s r)
            ∙ pointer_of D (element_of D bound unit (at a s) (index i s))))
            (element_even D law keeps products (sizes D p) e.layout.align w.align bound unit
            (leb-true unit 65536 (and_parts (nat_le 1 unit) (nat_le unit 65536) f.1).1)
            (subst (λ (z : ℕ). z % e.layout.align ≡ 0) bytes w.size) (at a s)
            (subst (λ (z : ℕ). AreEven D law keeps products z (targets_of D (sizes D p) (at a s))) align x.even)
            (index i s));
      }

  pub even_quiet : (a : Place) (ty : ℕ) → place_has p.types p.blocks seen a ty ≡ true → is_through a ≡ false
      → (w : Scalar) → has_scalar (ty_at p.types p.blocks seen ty) w ≡ true → k.model ≡ p.types.model
      → odd_faults D (sizes D p) m (size_of k.model w) (place D (sizes D p) a m k).pair ≡ []
  even_quiet a ty h th w i told =
      subst (λ d. odd_faults D (sizes D p) m (size_of d w) (place D (sizes D p) a m k).pair ≡ []) (sym told)
      (faults_on-none m U7 (λ s. shown_if (may_be_odd D (size_of p.types.model w) (targets_of D (sizes D p) (at a s))))
      (λ s r. let x = is_even a ty h th s r in
      let same : x.layout ≡ scalar_layout p.types.model w
      = same_some x.layout (scalar_layout p.types.model w) (layout_of p.types ty) x.laid
      (scalar_laid p.types built ty w i) in
      ap shown_if (subst (λ (z : ℕ). may_be_odd D z (targets_of D (sizes D p) (at a s)) ≡ false)
      (ap (λ (z : Layout). z.align) same)
      (never_odd D law keeps products x.layout.align (whole p.types ty x.layout x.laid).align
      (targets_of D (sizes D p) (at a s)) x.even))))
