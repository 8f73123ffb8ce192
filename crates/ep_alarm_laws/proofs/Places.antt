-- A place that a declaration names, or a part of one without an index, lies at one offset of its block, inside of it
-- and at a multiple of its alignment.
use Rattle.std.proofs.Common.{◌≡◌, ℕ, zero, suc, ◌+◌, ◌*◌, ◌%◌, ◌≤◌, ◌<◌, ℤ, pos, ◌-ℤ◌, Bool, true, false, ◌&&◌, ◌||◌}
use Rattle.ep_pointers.proofs.Moving.{settled_in}
use Rattle.ep_evaluation.proofs.Basics.{faults_on-none}
use Rattle.ep_int.proofs.Basics.{true_and_false}
use Rattle.std.proofs.lemmas.Bool.{or_from}
use Rattle.std.proofs.Common.{not, nat_eq, nat_le, int_lt, if◌then◌else◌, List, [], ◌∷◌, ◌++◌, map, slice_get}
use Rattle.std.proofs.Common.{unwrap_or, sum_by, Option, Some, None, option_map, IsSomeAnd}
use Rattle.std.proofs.Common.{refl, sym, ap, ◌∙◌, subst, arith}
use Rattle.std.specs.Prelude.{unsigned_abs}
use Rattle.std.specs.List.{list_all}
use Rattle.std.proofs.lemmas.Int.{ints}
use Rattle.std.proofs.lemmas.List.Sums.{sum_by-cons}
use Rattle.std.proofs.lemmas.Bool.{and_parts, eqb-true, false_from_ne_true, ltb-true, leb-true, le-leb}
use Rattle.ep_int.specs.declared.types.Scalar.{Scalar}
use Rattle.ep_int.specs.declared.types.IntType.TheVariants.{I64}
use Rattle.ep_int.specs.declared.types.BinOp.TheVariants.{Add, Mul}
use Rattle.ep_int.specs.Types.{size_of}
use Rattle.ep_layout.specs.Layout.{Layout, scalar_layout}
use Rattle.ep_layout.specs.Table.{Table, IsBuilt, layout_of, size}
use Rattle.ep_layout.proofs.Options.{same_some}
use Rattle.ep_alarms.specs.declared.types.AlarmKind.{AlarmKind}
use Rattle.ep_alarms.specs.declared.types.AlarmKind.TheVariants.{U5, U6, U7}
use Rattle.ep_domain.specs.Domain.{Ops, IsSingle, Lawful}
use Rattle.ep_pointers.specs.Value.{Pointers, one_target}
use Rattle.ep_pointers.specs.Sum.{move, moved_offset, bytes_of, offsets_and, cut_to, put, of_targets, exact_ends}
use Rattle.ep_pointers.specs.Sum.{exact_range, leaves, shown_of}
use Rattle.ep_pointers.proofs.Moving.{offset_in_range, offset_of_some_type}
use Rattle.ep_cells.specs.States.{Known}
use Rattle.ep_cells.specs.declared.cell.Value.TheVariants.{Ptr}
use Rattle.ep_core.specs.Exec.{greatest_offset}
use Rattle.ep_core.specs.Program.{Block, Place, block, deref, member, element, Program}
use Rattle.ep_core.specs.Runs.{Side, left, right}
use Rattle.ep_core.specs.WellFormed.{is_number, is_named, block_has, has_member, has_scalar, ty_at, place_has}
use Rattle.ep_core.specs.WellFormed.{block_fits, is_well_formed}
use Rattle.ep_core.proofs.Operands.{sizes as blocks_of}
use Rattle.ep_core.proofs.Sorts.{all_at, never, type_where}
use Rattle.ep_pass.specs.Places.{is_through, is_indexed}
use Rattle.ep_equalities.specs.declared.pair.Mode.{Mode}
use Rattle.ep_equalities.specs.declared.pair.Mode.TheVariants.{Both, Left, Right}
use Rattle.ep_equalities.specs.declared.pair.Fault.{Fault}
use Rattle.ep_equalities.specs.declared.pair.SideValue.{SideValue}
use Rattle.ep_evaluation.specs.Given.{runs, on, pair_on, Shown, fault_of, faults_on, shown_if, shows_if}
use Rattle.ep_evaluation.specs.Accesses.{leaves_block, bounds_of, is_some_odd, holds_odd, may_be_odd, moved_by}
use Rattle.ep_evaluation.specs.Accesses.{move_leaves, moves_null}
use Rattle.ep_evaluation.specs.Evaluation.{pointer, targets_of, is_null, offset_number, formless, place}
use Rattle.ep_transfers.specs.Places.{range_faults, aligned_faults}
use Rattle.ep_transfers.specs.Transfers.{sizes}
use Rattle.ep_alarm_laws.proofs.Named.{member_faults}
use Rattle.ep_alarm_laws.proofs.OwnPlaces.{sized}
use Rattle.ep_alarm_laws.proofs.Tables.{whole, IsPart, member_part, scalar_laid, zero_is_multiple, sum_is_multiple}

-- ---- sides that run

pub on_running : {N : Type 0} (m : Mode) (f : Side → SideValue N) (e : Bool) (s : Side) → runs m s ≡ true
    → on (pair_on m f e) s ≡ f s
on_running Both f e left h = refl
on_running Both f e right h = refl
on_running Left f e left h = refl
on_running Left f e right h = never h
on_running Right f e left h = never h
on_running Right f e right h = refl

no_fault : (k : AlarmKind) (a b : Shown) → a ≡ None → b ≡ None → fault_of k a b ≡ []
no_fault k a b e f = rw (e, f) refl

nothing_more : (xs ys : List Fault) → xs ≡ [] → ys ≡ [] → (xs ++ ys) ≡ []
nothing_more xs ys e f = rw (e, f) refl

pub pointer_of : {N : Type 0} (D : Ops N) (o : Option (Pointers N)) → pointer D (formless D (option_map Ptr o)) ≡ o
pointer_of D None = refl
pointer_of D (Some p) = refl

-- ---- numbers

some_is : {N : Type 0} (P : N → Type 0) (o : Option N) → IsSomeAnd o P → (c : N) × (o ≡ Some c) × P c
some_is P None h = absurd h
some_is P (Some c) h = (c, refl, h)

not_below : (n : ℕ) → int_lt (pos n) (pos 0) ≡ false
not_below n = false_from_ne_true (int_lt (pos n) (pos 0)) (λ e. absurd (let l = ltb-true n 0 e in omega (arith, l)))

not_over : (size n : ℕ) → n ≤ size → int_lt (pos size) (pos n) ≡ false
not_over size n h =
    false_from_ne_true (int_lt (pos size) (pos n)) (λ e. absurd (let l = ltb-true size n e in omega (arith, l, h)))

-- what a sum of single numbers leaves, and an access at one
inside_ends : (r s : ℤ × ℤ) (z : Option ℕ) (o q n : ℕ) → r ≡ (pos o, pos o) → s ≡ (pos q, pos q) → z ≡ Some n
    → o + q ≤ n → leaves z (exact_ends false 1 r s) ≡ false
inside_ends r s z o q n e f g h =
    ap (λ w. leaves w (exact_ends false 1 r s)) g
    ∙ ap (λ w. leaves (Some n) (exact_ends false 1 w s)) e
    ∙ ap (λ w. leaves (Some n) (exact_ends false 1 (pos o, pos o) w)) f
    ∙ or_from (int_lt (pos (o + q * 1)) (pos 0)) (int_lt (pos n) (pos (o + q * 1))) (not_below (o + q * 1))
    (not_over n (o + q * 1) (omega (arith, h)))

inside_block : (r : ℤ × ℤ) (z : Option ℕ) (o bytes n : ℕ) → r ≡ (pos o, pos o) → z ≡ Some n → o + bytes ≤ n
    → leaves_block z bytes r ≡ false
inside_block r z o bytes n e g h =
    ap (λ w. leaves_block w bytes r) g
    ∙ ap (λ w. leaves_block (Some n) bytes w) e
    ∙ or_from (int_lt (pos o) (pos 0)) (int_lt (pos n) (pos (o + bytes))) (not_below o) (not_over n (o + bytes) h)

-- ---- one number moved by another

module _ {N : Type 0} (D : Ops N) (law : Lawful D) where
  one_bytes : (q : ℕ) → q ≤ 65536
      → (c : N) × (bytes_of D (D.single (pos q)) 1 ≡ Some c) × IsSingle D c (pos q)
  one_bytes q h =
      let same : q * 1 ≡ q = omega arith in
      let fits : q < 4294967296 = omega (arith, h) in
      let product : q * 1 < 4294967296 = omega (arith, h) in
      let one : 1 < 4294967296 = omega arith in
      some_is (λ c. IsSingle D c (pos q)) (bytes_of D (D.single (pos q)) 1)
      (subst (λ (n : ℕ). IsSomeAnd (bytes_of D (D.single (pos q)) 1) (λ c. IsSingle D c (pos n))) same
      (settled_in (pos (q * 1)) (λ v. IsSomeAnd (bytes_of D (D.single (pos q)) 1) (λ c. IsSingle D c v))
      (bytes_of D (D.single (pos q)) 1 ≡ None) (offset_in_range (q * 1) product)
      (law.op_single Mul I64 (D.single (pos q)) (D.single (pos 1)) (pos q) (pos 1)
      (record { left = offset_in_range q fits; right = offset_in_range 1 one })
      (law.single_range (pos q) (offset_of_some_type q fits))
      (law.single_range (pos 1) (offset_of_some_type 1 one)))))

  one_sum : (n bytes : N) (o q : ℕ) → o + q ≤ 65536 → IsSingle D n (pos o) → IsSingle D bytes (pos q)
      → (c : N) × (offsets_and D false n (Some bytes) ≡ Some c) × IsSingle D c (pos (o + q))
  one_sum n bytes o q h i j =
      let first : o < 4294967296 = omega (arith, h) in
      let second : q < 4294967296 = omega (arith, h) in
      let sum : o + q < 4294967296 = omega (arith, h) in
      some_is (λ c. IsSingle D c (pos (o + q))) (offsets_and D false n (Some bytes))
      (settled_in (pos (o + q)) (λ v. IsSomeAnd (offsets_and D false n (Some bytes)) (λ c. IsSingle D c v))
      (offsets_and D false n (Some bytes) ≡ None) (offset_in_range (o + q) sum)
      (law.op_single Add I64 n bytes (pos o) (pos q)
      (record { left = offset_in_range o first; right = offset_in_range q second }) i j))

  one_moved : (n : N) (o q bytes : ℕ) → IsSingle D n (pos o) → o + q ≤ bytes → bytes ≤ 65536
      → (c : N) × (moved_offset D (move (D.single (pos q)) 1 false) (Some bytes) n ≡ Some c)
      × IsSingle D c (pos (o + q))
  one_moved n o q bytes s h k =
      let b = one_bytes q (omega (arith, h, k)) in
      let a = one_sum n b.0 o q (omega (arith, h, k)) s b.2 in
      let c = some_is (λ z. IsSingle D z (pos (o + q))) (D.cut a.0 (pos 0) (pos bytes))
      (law.cut_single a.0 (pos 0) (pos bytes) (pos (o + q)) a.2
      (record { low = omega (arith, ints); high = omega (arith, ints, h) })) in (
        c.0,
        ap (λ z. cut_to D (Some bytes) (offsets_and D false n z)) b.1 ∙ ap (cut_to D (Some bytes)) a.1 ∙ c.1,
        c.2,
      )

  -- ---- one place

  one_odd : (n : ℕ) (a : N) (o : ℕ) → IsSingle D a (pos o) → o % n ≡ 0 → holds_odd D n a ≡ false
  one_odd n a o s h =
      ap (λ (r : ℤ × ℤ). is_some_odd D n a r.0 (unsigned_abs (r.1 -ℤ r.0) + 1)) s
      ∙ ap (is_some_odd D n a (pos o)) (ap (λ z. unsigned_abs z + 1) (itself_less o))
      ∙ or_from (D.holds a (pos o) && not (nat_eq (o % n) 0)) false
      (ap (λ r. D.holds a (pos o) && not (nat_eq r 0)) h ∙ never_and (D.holds a (pos o))) refl
    where
      itself_less : (o : ℕ) → pos o -ℤ pos o ≡ pos 0
      itself_less o = omega (arith, ints)

      never_and : (b : Bool) → (b && false) ≡ false
      never_and true = refl
      never_and false = refl

  module _ (t : Table) (blocks : List ℕ) where
    -- an address of an object of a type
    pub record AtOffset (ty : ℕ) (p : Option (Pointers N)) : Type 0 where
      pub target : ℕ
      pub number : N
      pub offset : ℕ
      pub bytes : ℕ
      pub layout : Layout
      pub laid : layout_of t ty ≡ Some layout
      pub points : p ≡ Some (one_target target number)
      pub single : IsSingle D number (pos offset)
      pub of_block : slice_get blocks target ≡ Some bytes
      pub small : bytes ≤ 65536
      pub inside : offset + layout.size ≤ bytes
      pub multiple : offset % layout.align ≡ 0

    -- so many bytes further on is a part
    module _ (u ty q : ℕ) (p : Option (Pointers N)) (x : AtOffset u p) (part : IsPart t x.layout q ty) where
      fits : x.offset + q ≤ x.bytes
      fits = let a = x.inside in let b = part.inside in omega (arith, a, b)

      near : q ≤ 65536
      near = let a = fits in let b = x.small in omega (arith, a, b)

      number_is : offset_number D blocks q ≡ Some (D.single (pos q))
      number_is =
          let h : q ≤ 4294967295 = (let n = near in omega (arith, n)) in
          ap (λ (c : Bool). Some (D.single (pos (if c then q else greatest_offset)))) (le-leb q greatest_offset h)

      pub part_at : AtOffset ty (moved_by D blocks 1 false p (offset_number D blocks q))
      part_at =
          let m = one_moved x.number x.offset q x.bytes x.single fits x.small in
          let a = x.inside in
          let b = part.inside in
          record {
            target = x.target;
            number = m.0;
            offset = x.offset + q;
            bytes = x.bytes;
            layout = part.layout;
            laid = part.laid;
            points = ap (λ z. moved_by D blocks 1 false z (offset_number D blocks q)) x.points
                ∙ ap (moved_by D blocks 1 false (Some (one_target x.target x.number))) number_is
                ∙ ap (λ z. of_targets (put x.target (moved_offset D (move (D.single (pos q)) 1 false) z x.number) []))
                x.of_block
                ∙ ap (λ z. of_targets (put x.target z [])) m.1;
            single = m.2;
            of_block = x.of_block;
            small = x.small;
            inside = omega (arith, a, b);
            multiple = sum_is_multiple part.layout.align (whole t ty part.layout part.laid).align x.layout.align
                (whole t u x.layout x.laid).align x.offset q part.align x.multiple part.multiple;
          }

      pub no_leave : move_leaves D blocks 1 false p (offset_number D blocks q) ≡ None
      no_leave =
          let n : q < 4294967296 = (let z = near in omega (arith, z)) in
          ap (λ z. move_leaves D blocks 1 false z (offset_number D blocks q)) x.points
          ∙ ap (move_leaves D blocks 1 false (Some (one_target x.target x.number))) number_is
          ∙ ap (λ z. shows_if z (shown_of D (move (D.single (pos q)) 1 false) ((x.target, x.number) ∷ [])))
          (or_from (leaves (slice_get blocks x.target) (exact_range D (move (D.single (pos q)) 1 false) x.number)) false
          (inside_ends (D.range x.number) (D.range (D.single (pos q))) (slice_get blocks x.target) x.offset q x.bytes
          x.single (law.single_range (pos q) (offset_of_some_type q n)) x.of_block fits) refl)

      pub no_null : shown_if (moves_null p (offset_number D blocks q)) ≡ None
      no_null = ap (λ z. shown_if (moves_null z (offset_number D blocks q))) x.points

    -- ---- an access

    module _ (ty : ℕ) (p : Option (Pointers N)) (x : AtOffset ty p) where
      pub not_null : shown_if (is_null D blocks p) ≡ None
      not_null = ap (λ z. shown_if (is_null D blocks z)) x.points

      pub in_bounds : bounds_of D blocks x.layout.size (targets_of D blocks p) ≡ None
      in_bounds =
          ap (λ z. bounds_of D blocks x.layout.size (targets_of D blocks z)) x.points
          ∙ ap (λ z. shows_if z (D.range x.number))
          (or_from (leaves_block (slice_get blocks x.target) x.layout.size (D.range x.number)) false
          (inside_block (D.range x.number) (slice_get blocks x.target) x.offset x.layout.size x.bytes x.single
          x.of_block x.inside) refl)

      pub not_odd : shown_if (may_be_odd D x.layout.align (targets_of D blocks p)) ≡ None
      not_odd =
          ap (λ z. shown_if (may_be_odd D x.layout.align (targets_of D blocks z))) x.points
          ∙ ap shown_if (or_from (holds_odd D x.layout.align x.number) false
          (one_odd x.layout.align x.number x.offset x.single x.multiple) refl)

-- ---- blocks

pub among : (bs : List Block) (i n : ℕ) (x : Block) → sum_by (λ (b : Block). b.size) bs ≤ n → slice_get bs i ≡ Some x
    → x.size ≤ n
among [] i n x h e = absurd (let q : None ≡ Some x = e in cc)
among (b ∷ bs) zero n x h e =
    let q : b ≡ x = (let r : Some b ≡ Some x = e in cc) in
    let s = sum_by-cons (λ (y : Block). y.size) b bs in
    let same : b.size ≡ x.size = ap (λ (y : Block). y.size) q in omega (arith, s, h, same)
among (b ∷ bs) (suc i) n x h e =
    let s = sum_by-cons (λ (y : Block). y.size) b bs in among bs i n x (omega (arith, s, h)) e

pub size_laid : (t : Table) (n bytes : ℕ) → is_number (size t n) bytes ≡ true
    → (l : Layout) × (layout_of t n ≡ Some l) × (l.size ≡ bytes)
size_laid t n bytes h = by (layout_of t n) refl h
  where
    by : (o : Option Layout) → layout_of t n ≡ o → is_number (option_map (λ (l : Layout). l.size) o) bytes ≡ true
        → (l : Layout) × (layout_of t n ≡ Some l) × (l.size ≡ bytes)
    by None e i = never i
    by (Some l) e i = (l, e, eqb-true l.size bytes i)

-- an object that a declaration names
pub record IsObject (t : Table) (blocks : List ℕ) (b ty : ℕ) : Type 0 where
  pub layout : Layout
  pub laid : layout_of t ty ≡ Some layout
  pub of_block : slice_get blocks b ≡ Some layout.size
  pub small : layout.size ≤ 65536

module _ (p : Program) (formed : is_well_formed p ≡ true) where
  pub object : (seen : List ℕ) (b ty : ℕ) → block_has p.types p.blocks seen (slice_get p.blocks b) ty ≡ true
      → IsObject p.types (map (λ (x : Block). x.size) p.blocks) b ty
  object seen b ty h = by (slice_get p.blocks b) refl h
    where
      by : (o : Option Block) → slice_get p.blocks b ≡ o → block_has p.types p.blocks seen o ty ≡ true
          → IsObject p.types (map (λ (x : Block). x.size) p.blocks) b ty
      by None e i = never i
      by (Some x) e i =
          let fit = and_parts (list_all (block_fits p.types) p.blocks)
          (nat_le (sum_by (λ (y : Block). y.size) p.blocks) 65536) (blocks_of p formed) in
          let one = and_parts (is_number (size p.types x.ty) x.size) (nat_le 1 x.size)
          (all_at (block_fits p.types) p.blocks b x fit.0 e) in
          let l = size_laid p.types x.ty x.size one.0 in
          let small : x.size ≤ 65536 = among p.blocks b 65536 x
          (leb-true (sum_by (λ (y : Block). y.size) p.blocks) 65536 fit.1) e in
          let same = l.2 in
          record {
            layout = l.0;
            laid = subst (λ (n : ℕ). layout_of p.types n ≡ Some l.0) (eqb-true x.ty ty i) l.1;
            of_block = sized p.blocks b x e ∙ ap Some (sym same);
            small = omega (arith, small, same);
          }

-- ---- places

module _ {N : Type 0} (D : Ops N) (law : Lawful D) (p : Program) (formed : is_well_formed p ≡ true)
    (built : IsBuilt p.types) (m : Mode) (k : Known N) (seen : List ℕ) where
  abbrev pub IsAt : ℕ → Option (Pointers N) → Type 0
  IsAt ty o = AtOffset D law p.types (sizes D p) ty o

  abbrev pub address : Place → Side → Option (Pointers N)
  address a s = pointer D (on (place D (sizes D p) a m k).pair s)

  pub lies : (a : Place) (ty : ℕ) → place_has p.types p.blocks seen a ty ≡ true → is_through a ≡ false
      → is_indexed a ≡ false → (s : Side) → runs m s ≡ true → IsAt ty (address a s)
  lies (block b) ty h th ix s r =
      let q = and_parts (is_named p.types p.blocks seen b)
      (block_has p.types p.blocks seen (slice_get p.blocks b) ty) h in
      let o = object p formed seen b ty q.1 in
      let n : 0 < 4294967296 = omega arith in
      record {
        target = b;
        number = D.single (pos 0);
        offset = 0;
        bytes = o.layout.size;
        layout = o.layout;
        laid = o.laid;
        points = ap (pointer D)
            (on_running m (λ w. formless D (Some (Ptr (one_target b (D.single (pos 0)))))) true s r);
        single = law.single_range (pos 0) (offset_of_some_type 0 n);
        of_block = o.of_block;
        small = o.small;
        inside = omega arith;
        multiple = zero_is_multiple o.layout.align (whole p.types ty o.layout o.laid).align;
      }
  lies (deref e) ty h th ix s r = never (sym th)
  lies (element a bound unit i) ty h th ix s r = never (sym ix)
  lies (member a q) ty h th ix s r =
      let u = type_where p.types p.blocks seen (λ v. has_member p.types v q ty)
      (place_has p.types p.blocks seen a) h in
      let x = lies a u.0 u.2 th ix s r in
      subst (IsAt ty)
      (sym (ap (pointer D) (on_running m
      (λ w. formless D
      (option_map Ptr (moved_by D (sizes D p) 1 false (address a w) (offset_number D (sizes D p) q)))) _ s r)
      ∙ pointer_of D (moved_by D (sizes D p) 1 false (address a s) (offset_number D (sizes D p) q))))
      (part_at D law p.types (sizes D p) u.0 ty q (address a s) x
      (member_part p.types built u.0 x.layout q ty x.laid u.1))

  -- ---- no fault

  module _ (a : Place) (ty : ℕ) (has : place_has p.types p.blocks seen a ty ≡ true) (th : is_through a ≡ false)
      (ix : is_indexed a ≡ false) where
    range_by : (n : ℕ) → ((l : Layout) → layout_of p.types ty ≡ Some l → l.size ≡ n)
        → range_faults D (sizes D p) m n (place D (sizes D p) a m k).pair ≡ []
    range_by n same =
        nothing_more (faults_on m U6 (λ s. shown_if (is_null D (sizes D p) (address a s))))
        (faults_on m U5 (λ s. bounds_of D (sizes D p) n (targets_of D (sizes D p) (address a s))))
        (faults_on-none m U6 (λ s. shown_if (is_null D (sizes D p) (address a s)))
        (λ s r. not_null D law p.types (sizes D p) ty (address a s) (lies a ty has th ix s r)))
        (faults_on-none m U5 (λ s. bounds_of D (sizes D p) n (targets_of D (sizes D p) (address a s)))
        (λ s r. let x = lies a ty has th ix s r in
        subst (λ (z : ℕ). bounds_of D (sizes D p) z (targets_of D (sizes D p) (address a s)) ≡ None)
        (same x.layout x.laid) (in_bounds D law p.types (sizes D p) ty (address a s) x)))

    pub whole_quiet : range_faults D (sizes D p) m (unwrap_or (size p.types ty) 0) (place D (sizes D p) a m k).pair ≡ []
    whole_quiet =
        range_by (unwrap_or (size p.types ty) 0)
        (λ l e. sym (ap (λ (o : Option Layout). unwrap_or (option_map (λ (z : Layout). z.size) o) 0) e))

    pub aligned_quiet : (w : Scalar) → has_scalar (ty_at p.types p.blocks seen ty) w ≡ true
        → k.model ≡ p.types.model
        → aligned_faults D (sizes D p) m (size_of k.model w) (place D (sizes D p) a m k).pair ≡ []
    aligned_quiet w h told =
        subst (λ d. aligned_faults D (sizes D p) m (size_of d w) (place D (sizes D p) a m k).pair ≡ []) (sym told)
        (nothing_more (range_faults D (sizes D p) m (size_of p.types.model w) (place D (sizes D p) a m k).pair)
        (faults_on m U7 (λ s. shown_if (may_be_odd D (size_of p.types.model w)
        (targets_of D (sizes D p) (address a s)))))
        (range_by (size_of p.types.model w) (λ l e. ap (λ (z : Layout). z.size) (is_scalar l e)))
        (faults_on-none m U7 (λ s. shown_if (may_be_odd D (size_of p.types.model w) (targets_of D (sizes D p) (address a s))))
        (λ s r. let x = lies a ty has th ix s r in
        subst (λ (z : ℕ). shown_if (may_be_odd D z (targets_of D (sizes D p) (address a s))) ≡ None)
        (ap (λ (z : Layout). z.align) (is_scalar x.layout x.laid))
        (not_odd D law p.types (sizes D p) ty (address a s) x))))
      where
        is_scalar : (l : Layout) → layout_of p.types ty ≡ Some l → l ≡ scalar_layout p.types.model w
        is_scalar l e =
            same_some l (scalar_layout p.types.model w) (layout_of p.types ty) e (scalar_laid p.types built ty w h)

  pub member_quiet : (strides : Bool) (a : Place) (q ty : ℕ)
      → place_has p.types p.blocks seen (member a q) ty ≡ true → is_through a ≡ false → is_indexed a ≡ false
      → member_faults D p strides q m (place D (sizes D p) a m k) ≡ []
  member_quiet strides a q ty h th ix =
      let u = type_where p.types p.blocks seen (λ v. has_member p.types v q ty)
      (place_has p.types p.blocks seen a) h in
      nothing_more (faults_on m U6 (λ s. shown_if (moves_null (address a s) (offset_number D (sizes D p) q))))
      (faults_on m U5 (λ s. move_leaves D (sizes D p) 1 false (address a s) (offset_number D (sizes D p) q)))
      (faults_on-none m U6 (λ s. shown_if (moves_null (address a s) (offset_number D (sizes D p) q)))
      (λ s r. let x = lies a u.0 u.2 th ix s r in
      no_null D law p.types (sizes D p) u.0 ty q (address a s) x
      (member_part p.types built u.0 x.layout q ty x.laid u.1)))
      (faults_on-none m U5 (λ s. move_leaves D (sizes D p) 1 false (address a s) (offset_number D (sizes D p) q))
      (λ s r. let x = lies a u.0 u.2 th ix s r in
      no_leave D law p.types (sizes D p) u.0 ty q (address a s) x
      (member_part p.types built u.0 x.layout q ty x.laid u.1)))
