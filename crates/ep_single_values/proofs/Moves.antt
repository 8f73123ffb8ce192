-- Sums of a pointer and a number, members and elements, of operands that have one value each.
use Rattle.std.proofs.Common.{◌≡◌, ℕ, ◌*◌, ◌<◌, ◌≤◌, ◌^◌, ℤ, pos, ◌+ℤ◌, ◌*ℤ◌, Bool, true, false, cond, List, ◌++◌}
use Rattle.std.proofs.Common.{Some, None, refl, ap, ◌∙◌, arith}
use Rattle.std.proofs.lemmas.Int.{ints}
use Rattle.std.proofs.lemmas.Bool.{le-leb}
use Rattle.std.proofs.Math.IntN.{pos-*ℤ-pos}
use Rattle.ep_alarms.specs.declared.types.AlarmKind.TheVariants.{U5, U6}
use Rattle.ep_int.specs.declared.types.Order.{Order}
use Rattle.ep_int.specs.declared.types.IntType.{IntType}
use Rattle.ep_int.specs.declared.types.Scalar.TheVariants.{Int, Pointer}
use Rattle.ep_int.specs.Arith.{IsOfSomeType}
use Rattle.ep_int.specs.Memory.{Value as Datum, int, null, pointer, Found, has, faults, with_place}
use Rattle.ep_domain.specs.Domain.{Ops, Lawful}
use Rattle.ep_cells.specs.States.{Known}
use Rattle.ep_core.specs.Program.{Program}
use Rattle.ep_core.specs.Exec.{with, with_number, distance, place_in, size_at, greatest_offset, element_at}
use Rattle.ep_core.specs.Exec.{moved as machine_moved}
use Rattle.ep_core.specs.Runs.{Side, left}
use Rattle.ep_core.specs.Typed.{IsTarget, ValueFits}
use Rattle.ep_core.specs.WellFormed.{blocks_fit}
use Rattle.ep_core.proofs.Typing.{block_small}
use Rattle.ep_equalities.specs.declared.pair.Mode.{Mode}
use Rattle.ep_equalities.specs.declared.pair.SideValue.{SideValue}
use Rattle.ep_evaluation.specs.Given.{Given, on, shown_if, faults_on}
use Rattle.ep_evaluation.specs.Accesses.{move_leaves, moves_null, index_leaves, element_passes}
use Rattle.ep_evaluation.specs.Operators.{number_in}
use Rattle.ep_evaluation.specs.Evaluation.{number, pointer as pointer_of, move_side, sum_side, sum_given}
use Rattle.ep_evaluation.specs.Evaluation.{offset_number, member_given, element_side, element_given}
use Rattle.ep_evaluation.specs.Laws.{Machine, sizes_of}
use Rattle.ep_evaluation.proofs.Basics.{faults_on-none}
use Rattle.ep_evaluation.proofs.General.{both_found, number_found}
use Rattle.ep_evaluation.proofs.Generic.{Parts, Part}
use Rattle.ep_evaluation.proofs.Sums.{sizes_small, size_is, place_found}
use Rattle.ep_singles.specs.Cells.{IsOneValue}
use Rattle.ep_single_places.specs.Laws.{IsOneInto}
use Rattle.ep_single_places.specs.MoveLaws.{IsUnit, AreSizes, IsOneNumber, IsOneMove}
use Rattle.ep_single_places.proofs.Moves.{moves_are_one}
use Rattle.ep_single_places.proofs.Elements.{elements_are_one}
use Rattle.ep_single_sides.specs.Laws.{IsOneAs}
use Rattle.ep_single_sides.proofs.Numbers.{number_of}
use Rattle.ep_single_given.specs.Laws.{GivesOne}
use Rattle.ep_single_given.proofs.Given.{no_faults}
use Rattle.ep_single_values.proofs.Given.{OneGives, two_one, one_one}

-- what a machine found of a value and a number
pointer_parts : (go : Datum → ℤ → Found) (x y : Found) (z : Datum)
    → with x (λ u. with_number y (λ k. go u k)) ≡ has z → Parts x y (λ u v. with_number (has v) (go u)) z
pointer_parts go x y z e =
    let a = both_found x (λ u. with_number y (λ k. go u k)) z e in
    let b = number_found y (λ k. go a.0 k) z a.2 in
    record { u = a.0; v = int b.0; first = a.1; second = b.1; is = b.2 }

-- moved by bytes
by_bytes : (q n : ℕ) → pos q +ℤ distance 1 (pos n) false ≡ pos q +ℤ pos n
by_bytes q n = by (pos n *ℤ pos 1) (pos-*ℤ-pos n 1)
  where
    by : (z : ℤ) → z ≡ pos (n * 1) → pos q +ℤ z ≡ pos q +ℤ pos n
    by z e = omega (arith, ints, e)

pub unit_of : (unit : ℕ) → 1 ≤ unit → unit ≤ 65536 → IsUnit unit
unit_of unit positive small = record { positive = positive; small = omega (arith, small) }

near_offset : (q : ℕ) → q ≤ greatest_offset → q < 2 ^ 32
near_offset q h = omega (arith, h)

module _ {N : Type 0} (D : Ops N) (law : Lawful D) (p : Program) (ord : Side → Order)
    (fit : blocks_fit p.types p.blocks ≡ true) where
  abbrev sizes : List ℕ
  sizes = sizes_of p.blocks

  are_sizes : AreSizes sizes
  are_sizes i = let l = sizes_small p fit i in omega (arith, l)

  into_of : (x : SideValue N) (b q : ℕ) → IsOneAs D Pointer x (pointer b q) → IsOneInto D x.value b q
  into_of x b q i = record { one = i.one; allowed = i.allowed }

  index_of : (r : IntType) (y : SideValue N) (k : ℤ) → IsOneAs D (Int r) y (int k) → IsOneNumber D (number D y) k
  index_of r y k i =
      let n = number_of D law r y.value k i.one i.allowed in
      record { n = n.n; is = ap number_in n.is; single = n.single }

  -- ---- sums

  module _ (unit : ℕ) (u : IsUnit unit) (back : Bool) where
    move_at : (x : SideValue N) (b q : ℕ) → IsTarget p b q → IsOneAs D Pointer x (pointer b q) → (y : SideValue N)
        (k : ℤ) → IsOneNumber D (number D y) k → (w : Datum)
        → place_in (size_at (ord left) p b) b (pos q +ℤ distance unit k back) ≡ has w
        → IsOneMove D sizes unit back x (number D y)
    move_at x b q target i y k j w e =
        moves_are_one D law sizes are_sizes unit u back x b q (size_at (ord left) p b) (into_of x b q i)
        (near_offset q target.1) (size_is (ord left) p b target.0) (number D y) k j w e

    abbrev SumQuiet : SideValue N → SideValue N → Type 0
    SumQuiet x y =
        (moves_null (pointer_of D x) (number D y) ≡ false)
        × (move_leaves D sizes unit back (pointer_of D x) (number D y) ≡ None)

    abbrev sum_go : Datum → ℤ → Found
    sum_go u k = machine_moved (ord left) p (has u) (distance unit k back)

    sum_two : (r : IntType) (x y : SideValue N) (u v w : Datum) → ValueFits p Pointer u → IsOneAs D Pointer x u
        → IsOneAs D (Int r) y v → with_number (has v) (sum_go u) ≡ has w
        → SumQuiet x y × IsOneValue D (sum_side D sizes unit back x y).value
    sum_two r x y (int z) v w fu i j e = absurd fu
    sum_two r x y null (int k) w fu i j e = absurd (let q : faults _ ≡ has w = e in cc)
    sum_two r x y (pointer b q) (int k) w fu i j e =
        let m = move_at x b q fu i y k (index_of r y k j) w e in
        ((m.not_null, m.inside), m.one)
    sum_two r x y null null w fu i j e = absurd (let q : faults _ ≡ has w = e in cc)
    sum_two r x y null (pointer c t) w fu i j e = absurd (let q : faults _ ≡ has w = e in cc)
    sum_two r x y (pointer b q) null w fu i j e = absurd (let q : faults _ ≡ has w = e in cc)
    sum_two r x y (pointer b q) (pointer c t) w fu i j e = absurd (let q : faults _ ≡ has w = e in cc)

    pub sum_one : (r : IntType) (f h : Side → Machine) (x y : Mode → Known N → Given N)
        → OneGives D p ord Pointer f x → OneGives D p ord (Int r) h y
        → GivesOne D p ord (λ s m. with (f s m)
        (λ u. with_number (h s m) (λ k. machine_moved (ord s) p (has u) (distance unit k back))))
        (λ mode k. sum_given D sizes unit back mode (x mode k) (y mode k))
    sum_one r f h x y ox oy =
        two_one D p ord Pointer (Int r) (λ u v. with_number (has v) (sum_go u)) (sum_side D sizes unit back) SumQuiet
        (sum_two r) f h
        (λ s m. with (f s m)
        (λ u. with_number (h s m) (λ k. machine_moved (ord s) p (has u) (distance unit k back))))
        (λ s m z e. pointer_parts (λ u k. machine_moved (ord s) p (has u) (distance unit k back)) (f s m) (h s m) z e)
        x y ox oy
        (λ mode x y.
        x.faults ++ (y.faults
        ++ (faults_on mode U6 (λ s. shown_if (moves_null (pointer_of D (on x.pair s)) (number D (on y.pair s))))
        ++ faults_on mode U5 (λ s.
        move_leaves D sizes unit back (pointer_of D (on x.pair s)) (number D (on y.pair s))))))
        (λ mode x y ex ey q.
        (let null_faults = faults_on mode U6
        (λ s. shown_if (moves_null (pointer_of D (on x.pair s)) (number D (on y.pair s)))) in
        let out_faults = faults_on mode U5
        (λ s. move_leaves D sizes unit back (pointer_of D (on x.pair s)) (number D (on y.pair s))) in
        no_faults x.faults (y.faults ++ (null_faults ++ out_faults)) ex
        (no_faults y.faults (null_faults ++ out_faults) ey
        (no_faults null_faults out_faults
        (faults_on-none mode U6
        (λ s. shown_if (moves_null (pointer_of D (on x.pair s)) (number D (on y.pair s))))
        (λ s r. ap shown_if (q s r).0))
        (faults_on-none mode U5
        (λ s. move_leaves D sizes unit back (pointer_of D (on x.pair s)) (number D (on y.pair s)))
        (λ s r. (q s r).1))))))

  -- ---- members

  one_byte : IsUnit 1
  one_byte = record { positive = omega arith; small = omega arith }

  offset_type : (n : ℕ) → n ≤ greatest_offset → IsOfSomeType (pos n)
  offset_type n h = record { low = omega (arith, ints, h); high = omega (arith, ints, h) }

  inside_small : (q offset place size : ℕ) → pos q +ℤ pos offset ≡ pos place → place ≤ size → size ≤ 65536
      → offset ≤ greatest_offset
  inside_small q offset place size e l h = omega (arith, ints, e, l, h)

  module _ (offset : ℕ) where
    -- a member that a machine finds is in its block, so its offset is small
    member_at : (x : SideValue N) (b q : ℕ) → IsTarget p b q → IsOneAs D Pointer x (pointer b q) → (w : Datum)
        → place_in (size_at (ord left) p b) b (pos q +ℤ pos offset) ≡ has w
        → IsOneMove D sizes 1 false x (offset_number D sizes offset)
    member_at x b q target i w e =
        let t = place_found (size_at (ord left) p b) b (pos q +ℤ pos offset) w e in
        let l = inside_small q offset t.place (size_at (ord left) p b) t.is t.inside (block_small (ord left) p fit b) in
        let cut : offset_number D sizes offset ≡ Some (D.single (pos offset))
        = ap (λ c. Some (D.single (pos (cond c offset greatest_offset)))) (le-leb offset greatest_offset l) in
        moves_are_one D law sizes are_sizes 1 one_byte false x b q (size_at (ord left) p b) (into_of x b q i)
        (near_offset q target.1) (size_is (ord left) p b target.0) (offset_number D sizes offset) (pos offset)
        (record {
          n = D.single (pos offset);
          is = cut;
          single = law.single_range (pos offset) (offset_type offset l);
        })
        w (ap (place_in (size_at (ord left) p b) b) (by_bytes q offset) ∙ e)

    abbrev MemberQuiet : SideValue N → Type 0
    MemberQuiet x =
        (moves_null (pointer_of D x) (offset_number D sizes offset) ≡ false)
        × (move_leaves D sizes 1 false (pointer_of D x) (offset_number D sizes offset) ≡ None)

    abbrev member_side : SideValue N → SideValue N
    member_side x = move_side D sizes 1 false x (offset_number D sizes offset)

    member_of : (x : SideValue N) (u w : Datum) → ValueFits p Pointer u → IsOneAs D Pointer x u
        → machine_moved (ord left) p (has u) (pos offset) ≡ has w
        → MemberQuiet x × IsOneValue D (member_side x).value
    member_of x (int z) w fu i e = absurd fu
    member_of x null w fu i e = absurd (let q : faults _ ≡ has w = e in cc)
    member_of x (pointer b q) w fu i e =
        let m = member_at x b q fu i w e in ((m.not_null, m.inside), m.one)

    member_found : (s : Side) (x : Found) (w : Datum) → machine_moved (ord s) p x (pos offset) ≡ has w
        → Part x (λ u. machine_moved (ord left) p (has u) (pos offset)) w
    member_found s (has u) w e = record { u = u; first = refl; is = e }
    member_found s (faults k) w e = absurd (let q : faults k ≡ has w = e in cc)

    pub member_one : (f : Side → Machine) (x : Mode → Known N → Given N) → OneGives D p ord Pointer f x
        → GivesOne D p ord (λ s m. machine_moved (ord s) p (f s m) (pos offset))
        (λ mode k. member_given D sizes offset mode (x mode k))
    member_one f x ox =
        one_one D p ord Pointer (λ u. machine_moved (ord left) p (has u) (pos offset)) member_side MemberQuiet
        member_of f (λ s m. machine_moved (ord s) p (f s m) (pos offset)) (λ s m z e. member_found s (f s m) z e) x ox
        (λ mode x.
        x.faults
        ++ (faults_on mode U6
        (λ s. shown_if (moves_null (pointer_of D (on x.pair s)) (offset_number D sizes offset)))
        ++ faults_on mode U5
        (λ s. move_leaves D sizes 1 false (pointer_of D (on x.pair s)) (offset_number D sizes offset))))
        (λ mode x ex q.
        (let null_faults = faults_on mode U6
        (λ s. shown_if (moves_null (pointer_of D (on x.pair s)) (offset_number D sizes offset))) in
        let out_faults = faults_on mode U5
        (λ s. move_leaves D sizes 1 false (pointer_of D (on x.pair s)) (offset_number D sizes offset)) in
        no_faults x.faults (null_faults ++ out_faults) ex
        (no_faults null_faults out_faults
        (faults_on-none mode U6
        (λ s. shown_if (moves_null (pointer_of D (on x.pair s)) (offset_number D sizes offset)))
        (λ s r. ap shown_if (q s r).0))
        (faults_on-none mode U5
        (λ s. move_leaves D sizes 1 false (pointer_of D (on x.pair s)) (offset_number D sizes offset))
        (λ s r. (q s r).1)))))

  -- ---- elements

  module _ (bound unit : ℕ) (u : IsUnit unit) where
    abbrev ElementQuiet : SideValue N → SideValue N → Type 0
    ElementQuiet x y =
        (moves_null (pointer_of D x) (number D y) ≡ false)
        × (index_leaves D bound (pointer_of D x) (number D y) ≡ None)
        × (element_passes D bound unit (pointer_of D x) (number D y) ≡ None)

    abbrev element_go : Datum → ℤ → Found
    element_go u k = with_place (has u) (λ b q. element_at b q bound unit k)

    element_two : (r : IntType) (x y : SideValue N) (u v w : Datum) → ValueFits p Pointer u → IsOneAs D Pointer x u
        → IsOneAs D (Int r) y v → with_number (has v) (element_go u) ≡ has w
        → ElementQuiet x y × IsOneValue D (element_side D sizes bound unit x y).value
    element_two r x y (int z) v w fu i j e = absurd fu
    element_two r x y null (int k) w fu i j e = absurd (let q : faults _ ≡ has w = e in cc)
    element_two r x y (pointer b q) (int k) w fu i j e =
        let m = elements_are_one D law unit u bound x b q (into_of x b q i) (near_offset q fu.1) (number D y) k
        (index_of r y k j) w e in
        ((m.not_null, m.below, m.near), m.one)
    element_two r x y null null w fu i j e = absurd (let q : faults _ ≡ has w = e in cc)
    element_two r x y null (pointer c t) w fu i j e = absurd (let q : faults _ ≡ has w = e in cc)
    element_two r x y (pointer b q) null w fu i j e = absurd (let q : faults _ ≡ has w = e in cc)
    element_two r x y (pointer b q) (pointer c t) w fu i j e = absurd (let q : faults _ ≡ has w = e in cc)

    pub element_one : (r : IntType) (f h : Side → Machine) (x y : Mode → Known N → Given N)
        → OneGives D p ord Pointer f x → OneGives D p ord (Int r) h y
        → GivesOne D p ord (λ s m. with (f s m)
        (λ u. with_number (h s m) (λ k. with_place (has u) (λ b q. element_at b q bound unit k))))
        (λ mode k. element_given D sizes bound unit mode (x mode k) (y mode k))
    element_one r f h x y ox oy =
        two_one D p ord Pointer (Int r) (λ u v. with_number (has v) (element_go u)) (element_side D sizes bound unit)
        ElementQuiet (element_two r) f h
        (λ s m. with (f s m)
        (λ u. with_number (h s m) (λ k. with_place (has u) (λ b q. element_at b q bound unit k))))
        (λ s m z e. pointer_parts element_go (f s m) (h s m) z e) x y ox oy
        (λ mode x y.
        x.faults ++ (y.faults
        ++ (faults_on mode U6 (λ s. shown_if (moves_null (pointer_of D (on x.pair s)) (number D (on y.pair s))))
        ++ (faults_on mode U5 (λ s. index_leaves D bound (pointer_of D (on x.pair s)) (number D (on y.pair s)))
        ++ faults_on mode U5
        (λ s. element_passes D bound unit (pointer_of D (on x.pair s)) (number D (on y.pair s)))))))
        (λ mode x y ex ey q.
        (let null_faults = faults_on mode U6
        (λ s. shown_if (moves_null (pointer_of D (on x.pair s)) (number D (on y.pair s)))) in
        let index_faults = faults_on mode U5
        (λ s. index_leaves D bound (pointer_of D (on x.pair s)) (number D (on y.pair s))) in
        let pass_faults = faults_on mode U5
        (λ s. element_passes D bound unit (pointer_of D (on x.pair s)) (number D (on y.pair s))) in
        no_faults x.faults (y.faults ++ (null_faults ++ (index_faults ++ pass_faults))) ex
        (no_faults y.faults (null_faults ++ (index_faults ++ pass_faults)) ey
        (no_faults null_faults (index_faults ++ pass_faults)
        (faults_on-none mode U6
        (λ s. shown_if (moves_null (pointer_of D (on x.pair s)) (number D (on y.pair s))))
        (λ s r. ap shown_if (q s r).0))
        (no_faults index_faults pass_faults
        (faults_on-none mode U5
        (λ s. index_leaves D bound (pointer_of D (on x.pair s)) (number D (on y.pair s)))
        (λ s r. (q s r).1))
        (faults_on-none mode U5
        (λ s. element_passes D bound unit (pointer_of D (on x.pair s)) (number D (on y.pair s)))
        (λ s r. (q s r).2)))))))
