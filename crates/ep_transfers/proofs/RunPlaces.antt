-- The places of a run of bytes: where an access lists no fault, a machine's place is among them, and inside its block.
use Rattle.std.proofs.Common.{◌≡◌, ℕ, zero, suc, ◌+◌, ◌-◌, ◌/◌, ◌<◌, ◌≤◌, pos, Bool, true, false, nat_eq, nat_lt}
use Rattle.ep_int.proofs.Basics.{plus-zero}
use Rattle.ep_evaluation.proofs.Spots.{no_less}
use Rattle.std.proofs.Common.{cond, List, [], ◌∷◌, ◌++◌, map, slice_get, Option, Some, None, IsSomeAnd, refl, sym, ap}
use Rattle.std.proofs.Common.{◌∙◌, subst, arith}
use Rattle.std.specs.List.{filter}
use Rattle.std.proofs.lemmas.Bool.{eqb-true, le-leb, le-ltb}
use Rattle.ep_int.specs.declared.types.Order.{Order}
use Rattle.ep_int.specs.declared.types.Scalar.TheVariants.{Pointer}
use Rattle.ep_int.specs.Memory.{Value as Datum, int, null, pointer, Found, has, range_fault}
use Rattle.ep_alarms.specs.declared.types.AlarmKind.TheVariants.{U5, U6}
use Rattle.ep_domain.specs.Domain.{Ops, Lawful, Holds}
use Rattle.ep_pointers.specs.Value.{Target, offset_at}
use Rattle.ep_cells.specs.declared.cell.Value.{Value}
use Rattle.ep_cells.specs.declared.cell.Value.TheVariants.{Num, Ptr}
use Rattle.ep_cells.specs.States.{Known}
use Rattle.ep_cells.specs.Meaning.{Memories, Allows, numbers_of}
use Rattle.ep_core.specs.Program.{Program}
use Rattle.ep_core.specs.Exec.{State, Outcome, given, at_place, unless, size_at, ByteStep, uncounted, bytewise}
use Rattle.ep_core.specs.Exec.{bytewise_rest}
use Rattle.ep_core.specs.Runs.{Side, left, right}
use Rattle.ep_core.specs.WellFormed.{blocks_fit}
use Rattle.ep_equalities.specs.declared.pair.Mode.{Mode}
use Rattle.ep_equalities.specs.declared.pair.Mode.TheVariants.{Both}
use Rattle.ep_equalities.specs.Same.{is_same}
use Rattle.ep_equalities.proofs.Equal.{same_values}
use Rattle.ep_evaluation.specs.Given.{Given, on, runs, shown_if, faults_on}
use Rattle.ep_evaluation.specs.Operators.{pointer_in}
use Rattle.ep_evaluation.specs.Accesses.{multiples, offsets_in, held_spots, spots, bounds_of}
use Rattle.ep_evaluation.specs.Evaluation.{targets_of, is_null}
use Rattle.ep_evaluation.specs.Evaluation.{pointer as pointer_of}
use Rattle.ep_cell_ranges.specs.Spots.{Spot}
use Rattle.ep_evaluation.specs.Laws.{Machine, memory_of, sizes_of}
use Rattle.ep_evaluation.proofs.General.{none_left, not_shown, unmarked, reliable_none}
use Rattle.ep_evaluation.proofs.Spots.{Among, here, behind}
use Rattle.ep_evaluation.proofs.Access.{inside_there}
use Rattle.ep_transfers.specs.Places.{Places, at_side, is_some_place, has_places, places_of, moved_spot, moved_spots}
use Rattle.ep_transfers.specs.Places.{range_faults}
use Rattle.ep_transfers.specs.Laws.{CellLaws}
use Rattle.ep_transfers.proofs.Rooms.{EndBy, small, spots_end}
use Rattle.ep_transfers.proofs.Assigned.{is_one, some_place, on_all_by}
use Rattle.ep_transfers.proofs.Evaluated.{Evaluated, block_sized}

-- ---- lists

among_left : {A : Type 0} (x : A) (xs ys : List A) → Among x xs → Among x (xs ++ ys)
among_left x [] ys h = elim h [ ]
among_left x (_ ∷ xs) ys (here _) = here (xs ++ ys)
among_left x (y ∷ xs) ys (behind _ _ h) = behind y (xs ++ ys) (among_left x xs ys h)

among_right : {A : Type 0} (x : A) (xs ys : List A) → Among x ys → Among x (xs ++ ys)
among_right x [] ys h = h
among_right x (y ∷ xs) ys h = behind y (xs ++ ys) (among_right x xs ys h)

among_map : {A B : Type 0} (f : A → B) (x : A) (xs : List A) → Among x xs → Among (f x) (map f xs)
among_map f x [] h = elim h [ ]
among_map f x (_ ∷ xs) (here _) = here (map f xs)
among_map f x (y ∷ xs) (behind _ _ h) = behind (f y) (map f xs) (among_map f x xs h)

among_filter : {A : Type 0} (test : A → Bool) (x : A) (xs : List A) → test x ≡ true → Among x xs
    → Among x (filter test xs)
among_filter test x [] e h = elim h [ ]
among_filter test x (_ ∷ xs) e (here _) = rw e (here (filter test xs))
among_filter test x (y ∷ xs) e (behind _ _ h) = by_test (test y) (among_filter test x xs e h)
  where
    by_test : (b : Bool) → Among x (filter test xs) → Among x (cond b (y ∷ filter test xs) (filter test xs))
    by_test true k = behind y (filter test xs) k
    by_test false k = k

-- a place so many bytes on is one of the places so many bytes on
pub among_moved : (i : ℕ) (q : Spot) (qs : List Spot) → Among q qs → Among (moved_spot i q) (moved_spots i qs)
among_moved i q qs h = among_map (moved_spot i) q qs h

-- ---- offsets

one_after : (q n j : ℕ) → j < n → Among (q + j) (multiples 1 q n)
one_after q zero j h = absurd (let z : ⊥ = omega (arith, h) in z)
one_after q (suc n) zero h =
    let e : q ≡ q + 0 = omega arith in subst (λ x. Among x (multiples 1 q (suc n))) e (here (multiples 1 (q + 1) n))
one_after q (suc n) (suc j) h =
    let e : q + 1 + j ≡ q + suc j = omega arith in
    behind q (multiples 1 (q + 1) n)
    (subst (λ x. Among x (multiples 1 (q + 1) n)) e (one_after (q + 1) n j (omega (arith, h))))

in_count : (n q size : ℕ) → q + n ≤ size → q < (size - n) / 1 + 1
in_count n q size h = omega (arith, h)

any_offset : (size n q : ℕ) → q + n ≤ size → Among q (offsets_in size n 1)
any_offset size n q h =
    let e : 0 + q ≡ q = omega arith in
    rw (le-leb n size (no_less n q size h))
    (subst (λ x. Among x (multiples 1 0 ((size - n) / 1 + 1))) e
    (one_after 0 ((size - n) / 1 + 1) q (in_count n q size h)))

-- ---- the places of a value

module _ {N : Type 0} (D : Ops N) (sizes : List ℕ) (n : ℕ) where
  -- a place that the value holds, inside its block
  any_spot : (ts : List (Target N)) (b q size : ℕ) → IsSomeAnd (offset_at ts b) (λ m. Holds D m (pos q))
      → slice_get sizes b ≡ Some size → q + n ≤ size → Among (b, q) (spots D sizes n 1 ts)
  any_spot [] b q size h s i = absurd h
  any_spot (t ∷ ts) b q size h s i = by_block (nat_eq t.0 b) refl (λ k. any_spot ts b q size k s i) h
    where
      at_target : (c : ℕ) (m : N) → c ≡ b → Holds D m (pos q)
          → Among (b, q) (held_spots D n 1 (c, m) (slice_get sizes c))
      at_target c m f k =
          subst (λ x. Among (b, q) (held_spots D n 1 (x, m) (slice_get sizes x))) (sym f)
          (rw s (among_map (λ q. (b, q)) q (filter (λ q. D.holds m (pos q)) (offsets_in size n 1))
          (among_filter (λ q. D.holds m (pos q)) q (offsets_in size n 1) k (any_offset size n q i))))

      by_block : (c : Bool) → nat_eq t.0 b ≡ c
          → (IsSomeAnd (offset_at ts b) (λ m. Holds D m (pos q)) → Among (b, q) (spots D sizes n 1 ts))
          → IsSomeAnd (cond c (Some t.1) (offset_at ts b)) (λ m. Holds D m (pos q))
          → Among (b, q) (held_spots D n 1 t (slice_get sizes t.0) ++ spots D sizes n 1 ts)
      by_block true f more k =
          among_left (b, q) (held_spots D n 1 t (slice_get sizes t.0)) (spots D sizes n 1 ts)
          (at_target t.0 t.1 (eqb-true t.0 b f) k)
      by_block false f more k =
          among_right (b, q) (held_spots D n 1 t (slice_get sizes t.0)) (spots D sizes n 1 ts) (more k)

  record IsPlaced (ts : List (Target N)) (d : Datum) : Type 0 where
    block : ℕ
    offset : ℕ
    size : ℕ
    is : d ≡ pointer block offset
    size_is : slice_get sizes block ≡ Some size
    inside : offset + n ≤ size
    among : Among (block, offset) (spots D sizes n 1 ts)

  module _ (law : Lawful D) where
    at_offset : (ts : List (Target N)) (b q : ℕ) → IsSomeAnd (offset_at ts b) (λ a. Holds D a (pos q))
        → bounds_of D sizes n ts ≡ None → IsPlaced ts (pointer b q)
    at_offset ts b q h out =
        let i = inside_there D law n sizes ts b q out h in record {
          block = b;
          offset = q;
          size = i.0;
          is = refl;
          size_is = i.1;
          inside = i.2;
          among = any_spot ts b q i.0 h i.1 i.2;
        }

    placed : (v : Option (Value N)) (d : Datum) → Allows D Pointer v false (Some d)
        → is_null D sizes (pointer_in v) ≡ false → bounds_of D sizes n (targets_of D sizes (pointer_in v)) ≡ None
        → IsPlaced (targets_of D sizes (pointer_in v)) d
    placed None d a u out = absurd (let q : Some d ≡ None = a in cc)
    placed (Some (Num m)) (int z) a u out = absurd a
    placed (Some (Num m)) null a u out = absurd a
    placed (Some (Num m)) (pointer b q) a u out = absurd a
    placed (Some (Ptr p)) (int z) a u out = absurd a
    placed (Some (Ptr p)) null a u out = absurd (let q : p.null ≡ true = a in let r : p.null ≡ false = u in cc)
    placed (Some (Ptr p)) (pointer b q) a u out = at_offset p.targets b q a out

-- ---- the machines' places

outside_by : (size q n : ℕ) (t : Bool) → nat_lt size (q + n) ≡ t → t ≡ false → range_fault size q n ≡ None
outside_by size q n true e f = absurd (cc)
outside_by size q n false e f = rw e refl

pub no_range_fault : (size q n : ℕ) → q + n ≤ size → range_fault size q n ≡ None
no_range_fault size q n h = outside_by size q n (nat_lt size (q + n)) refl (le-ltb size (q + n) h)

-- the step for the first byte is taken, or isn't counted
pub rest_is : (one : ByteStep) (n h a : ℕ) (s : State)
    → bytewise_rest uncounted one n h a s ≡ bytewise uncounted one n h a s
rest_is one zero h a s = refl
rest_is one (suc n) h a s = refl

-- a machine goes on at its place
pub at_run_is : (fa : Found) (size : ℕ → ℕ) (l n b q : ℕ) (s : State) (go : ℕ → ℕ → Outcome) → fa ≡ has (pointer b q)
    → range_fault (size b) q n ≡ None
    → given fa l s (λ w. at_place w l s (λ b q. unless (range_fault (size b) q n) l s (go b q))) ≡ go b q
at_run_is fa size l n b q s go e f = rw (e, f) refl

module _ {N : Type 0} (D : Ops N) (laws : CellLaws D) (p : Program) (ord : Side → Order)
    (fit : blocks_fit p.types p.blocks ≡ true) (k : Known N) (m : Memories) (n : ℕ) (mode : Mode) (f : Side → Machine)
    (to : Given N) (e : Evaluated D p ord mode k m Pointer f to) (none : to.faults ≡ [])
    (quiet : range_faults D (sizes_of p.blocks) mode n to.pair ≡ []) where
  abbrev pub run_places : Places
  run_places = places_of D (sizes_of p.blocks) n 1 to.pair

  side_spots : (s : Side) → at_side run_places s
      ≡ spots D (sizes_of p.blocks) n 1 (targets_of D (sizes_of p.blocks) (pointer_of D (on to.pair s)))
  side_spots left = refl
  side_spots right = refl

  pub record At (s : Side) : Type 0 where
    pub block : ℕ
    pub offset : ℕ
    pub address : f s (memory_of s m) ≡ has (pointer block offset)
    pub inside : offset + n ≤ size_at (ord s) p block
    pub among : Among (block, offset) (at_side run_places s)
    pub ends : EndBy 65536 n (at_side run_places s)

  pub at : (s : Side) → runs mode s ≡ true → At s
  at s r =
      let zs = sizes_of p.blocks in
      let d = e.holds.found none s r in
      let x = none_left (faults_on mode U6 (λ s. shown_if (is_null D zs (pointer_of D (on to.pair s)))))
      (faults_on mode U5 (λ s. bounds_of D zs n (targets_of D zs (pointer_of D (on to.pair s))))) quiet in
      let h = placed D zs n laws.domain (on to.pair s).value d.0
      (e.holds.held (reliable_none mode to.faults none) s r d.0 d.1).value
      (not_shown (is_null D zs (pointer_of D (on to.pair s)))
      (unmarked mode U6 (λ s. shown_if (is_null D zs (pointer_of D (on to.pair s)))) s x.0 r))
      (unmarked mode U5 (λ s. bounds_of D zs n (targets_of D zs (pointer_of D (on to.pair s)))) s x.1 r) in
      let size = block_sized D p ord p.blocks (ord s) h.block h.size h.size_is in
      record {
        block = h.block;
        offset = h.offset;
        address = d.1 ∙ ap has h.is;
        inside = subst (λ z. h.offset + n ≤ z) (sym size) h.inside;
        among = subst (λ qs. Among (h.block, h.offset) qs) (sym (side_spots s)) h.among;
        ends = subst (λ qs. EndBy 65536 n qs) (sym (side_spots s))
            (spots_end D zs 65536 (small p fit) n 1 (targets_of D zs (pointer_of D (on to.pair s))));
      }

  pub has_all : has_places mode run_places ≡ true
  has_all =
      on_all_by mode (λ s. is_some_place (at_side run_places s))
      (λ s r. let a = at s r in
      some_place (a.block, a.offset) (at_side run_places s)
      (is_one (a.block, a.offset) (at_side run_places s) a.among))

pub places_alike : (b q c r : ℕ) → pointer b q ≡ pointer c r → ◌≡◌ {A = Spot} (b, q) (c, r)
places_alike b q c r e =
    let f : b ≡ c = cc in
    let g : q ≡ r = cc in
    ap (λ (x : ℕ). (x, q)) f ∙ ap (λ (x : ℕ). (c, x)) g

-- the same address on both sides
pub one_place : {N : Type 0} (D : Ops N) (law : Lawful D) (p : Program) (ord : Side → Order) (k : Known N)
    (m : Memories) (f : Side → Machine) (to : Given N) → Evaluated D p ord Both k m Pointer f to → to.faults ≡ []
    → is_same D to.pair ≡ true → (b q c r : ℕ) → f left m.left ≡ has (pointer b q) → f right m.right ≡ has (pointer c r)
    → ◌≡◌ {A = Spot} (b, q) (c, r)
one_place D law p ord k m f to e none s b q c r hl hr =
    places_alike b q c r
    (same_values D law to.pair s (numbers_of k.orders m) Pointer (pointer b q) (pointer c r)
    (record {
      left = λ z. e.holds.held (reliable_none Both to.faults none) left refl _ hl;
      right = λ z. e.holds.held (reliable_none Both to.faults none) right refl _ hr;
      equal = λ z h. e.holds.same refl none h _ _ hl hr;
    }))
