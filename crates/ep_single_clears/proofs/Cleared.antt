-- A place is cleared, its leaves and its other bytes one after the other, where a state stands for one pair of memories
-- alone.
use Rattle.std.proofs.Common.{◌≡◌, ℕ, zero, suc, ◌+◌, ◌%◌, ◌^◌, ◌<◌, ◌≤◌, pos, Bool, true, false, List, [], ◌∷◌}
use Rattle.std.proofs.Common.{Option, Some, None, ⊎_elim, add-zero, refl, sym, ap, ◌∙◌, subst, arith}
use Rattle.std.proofs.Math.Nat.{mod-eq_of_lt, mul-zero}
use Rattle.std.proofs.lemmas.Bool.{and_parts}
use Rattle.ep_int.specs.declared.types.IntType.{IntType}
use Rattle.ep_int.specs.declared.types.IntType.TheVariants.{U8}
use Rattle.ep_int.specs.declared.types.Model.{Model}
use Rattle.ep_int.specs.declared.types.Order.{Order}
use Rattle.ep_int.specs.declared.types.Scalar.{Scalar}
use Rattle.ep_int.specs.declared.types.Scalar.TheVariants.{Int, Pointer}
use Rattle.ep_int.specs.Types.{bits_of, size_of, representation}
use Rattle.ep_int.specs.Memory.{Memory, undefined, int, null, has}
use Rattle.ep_int.proofs.Arithmetic.{zero_in_range}
use Rattle.ep_int.proofs.Wrapping.{representation_below}
use Rattle.ep_layout.specs.declared.types.Leaf.{Leaf}
use Rattle.ep_domain.specs.Domain.{Ops, Lawful}
use Rattle.ep_pointers.specs.Value.{null_alone, only_null}
use Rattle.ep_cells.specs.declared.cell.Value.TheVariants.{Num, Ptr}
use Rattle.ep_cells.specs.Kill.{leaf_at, is_in_leaf, AreLeavesIn}
use Rattle.ep_cells.specs.States.{Known}
use Rattle.ep_cells.specs.Meaning.{Memories}
use Rattle.ep_cells.proofs.Entry.{leaf_inside}
use Rattle.ep_cell_ranges.specs.Spots.{Spot}
use Rattle.ep_core.specs.Program.{Program}
use Rattle.ep_core.specs.Runs.{Side, left, right}
use Rattle.ep_equalities.specs.declared.pair.Mode.{Mode}
use Rattle.ep_equalities.specs.declared.pair.Mode.TheVariants.{Both, Left, Right}
use Rattle.ep_equalities.specs.Pairs.{runs_left, runs_right}
use Rattle.ep_evaluation.specs.Given.{runs, on}
use Rattle.ep_evaluation.specs.Laws.{IsState}
use Rattle.ep_evaluation.specs.Operators.{constant_form}
use Rattle.ep_evaluation.proofs.Assuming.{zero_type}
use Rattle.ep_evaluation.proofs.Conversions.{constant_sound}
use Rattle.ep_transfers.specs.Places.{Places, at_side, moved_spots, moved_places}
use Rattle.ep_transfers.specs.Writes.{Item, item_of, write_now}
use Rattle.ep_transfers.specs.Laws.{memories}
use Rattle.ep_transfers.specs.Transfers.{undefined_item, zero_item, cleared_here, cleared_from}
use Rattle.ep_transfers.proofs.Alike.{IsOdd, IsAlike, AreAlike, alike_itself, in_like}
use Rattle.ep_transfers.proofs.Bound.{changed, unchanged}
use Rattle.ep_transfers.proofs.ClearGoes.{clear_of}
use Rattle.ep_transfers.proofs.ClearPatches.{zero_of, cleared_byte, clear_here, clear_patches}
use Rattle.ep_transfers.proofs.ClearPatches.{are_patches, cover_all, plain_byte}
use Rattle.ep_transfers.proofs.Gathered.{cell_laws}
use Rattle.ep_transfers.proofs.Patches.{Patch, patched, eased_memory, eased_alike, patched_alike}
use Rattle.ep_transfers.proofs.PieceWrites.{patched_both}
use Rattle.ep_transfers.proofs.RunSteps.{moved_at}
use Rattle.ep_singles.specs.Numbers.{KeepsSingles}
use Rattle.ep_singles.specs.Cells.{one_number, one_pointer, IsOne}
use Rattle.ep_single_states.specs.Laws.{ConcretisesOne}
use Rattle.ep_single_stores.specs.Laws.{IsStoredAt, IsOneToStore}
use Rattle.ep_single_stores.proofs.Writes.{writes_keep_one}
use Rattle.ep_single_assigned.proofs.Kept.{write_beside, state_beside}
use Rattle.ep_single_clears.proofs.Running.{left_runs, right_runs}
use Rattle.ep_single_clears.proofs.Undefined.{IsUnsetAt, unset_in}

-- ---- memories that differ in parts that no pointer has

module _ {N : Type 0} (D : Ops N) where
  empty_like : (d : Model) (m n : Memory) → IsAlike d m n → (b q : ℕ) → m b q ≡ undefined → n b q ≡ undefined
  empty_like d m n e b q u =
      ⊎_elim (λ s. sym s ∙ u) (λ (o : IsOdd d (m b q) × IsOdd d (n b q)). absurd (subst (IsOdd d) u o.0)) (e b q)

  one_like : (k : Known N) (m n : Memories) → AreAlike k.model m n → IsOne D k m → IsOne D k n
  one_like k m n e one = record {
    cells = one.cells;
    each = one.each;
    left_outside = λ b q h. empty_like k.model m.left n.left e.left b q (one.left_outside b q h);
    right_outside = λ b q h. empty_like k.model m.right n.right e.right b q (one.right_outside b q h);
    holds = in_like D k m n e one.holds;
  }

-- ---- what running machines do, one thing after another

then_both : (mode : Mode) (f g h : Side → Memory → Memory) (m : Memories) → ((s : Side) (z : Memory) → g s (f s z) ≡ h s z)
    → changed mode g (changed mode f m) ≡ changed mode h m
then_both Both f g h m e =
    ap (λ (x : Memory). memories x (g right (f right m.right))) (e left m.left)
    ∙ ap (λ (x : Memory). memories (h left m.left) x) (e right m.right)
then_both Left f g h m e = ap (λ (x : Memory). memories x m.right) (e left m.left)
then_both Right f g h m e = ap (λ (x : Memory). memories m.left x) (e right m.right)

changed_like : (d : Model) (mode : Mode) (f g : Side → Memory → Memory) (m : Memories)
    → ((s : Side) (z : Memory) → IsAlike d (f s z) (g s z)) → AreAlike d (changed mode f m) (changed mode g m)
changed_like d Both f g m h = record { left = h left m.left; right = h right m.right }
changed_like d Left f g m h = record { left = h left m.left; right = alike_itself d m.right }
changed_like d Right f g m h = record { left = alike_itself d m.left; right = h right m.right }

-- ---- what is written

-- at the one place of each running side
module _ {N : Type 0} (D : Ops N) (P : Known N → Type 0) (to : Bool) (w : Scalar) (i : Item N) (k : Known N) where
  pub at_places : (mode : Mode) (pl : Places) (q r : Spot) → (runs_left mode ≡ true → pl.left ≡ q ∷ [])
      → (runs_right mode ≡ true → pl.right ≡ r ∷ [])
      → P (write_now D mode to w (record { left = q ∷ []; right = r ∷ [] }) i k) → P (write_now D mode to w pl i k)
  at_places Both pl q r e f h =
      subst (λ rs. P (write_now D Both to w (record { left = pl.left; right = rs }) i k)) (sym (f refl))
      (subst (λ qs. P (write_now D Both to w (record { left = qs; right = r ∷ [] }) i k)) (sym (e refl)) h)
  at_places Left pl q r e f h =
      subst (λ qs. P (write_now D Left to w (record { left = qs; right = pl.right }) i k)) (sym (e refl)) h
  at_places Right pl q r e f h =
      subst (λ rs. P (write_now D Right to w (record { left = pl.left; right = rs }) i k)) (sym (f refl)) h

-- ---- the bytes of a place

module _ {N : Type 0} (D : Ops N) (law : Lawful D) (keeps : KeepsSingles D) (p : Program) (ord : Side → Order)
    (sizes : List ℕ) (leaves : List Leaf) (at : Side → Spot) (n : ℕ) (a : AreLeavesIn p.types.model 0 n leaves)
    (mode : Mode) (to : Bool) (pl : Places) (same : mode ≡ Both → to ≡ true → at left ≡ at right)
    (room : (s : Side) → runs mode s ≡ true → (at s).1 + n ≤ 2 ^ 32)
    (places : (s : Side) → runs mode s ≡ true → at_side pl s ≡ at s ∷ []) where
  -- a state of these machines, that stands for these memories alone
  abbrev StandsAlone : Known N → Memories → Type 0
  StandsAlone k m = ConcretisesOne D p ord k m.left m.right

  alike_alone : (k : Known N) (m j : Memories) → AreAlike p.types.model m j → StandsAlone k m → StandsAlone k j
  alike_alone k m j e h = record {
    state = h.state;
    one = one_like D k m j (subst (λ x. AreAlike x m j) (sym h.state.model) e) h.one;
  }

  moved_same : (i : ℕ) → mode ≡ Both → to ≡ true → moved_at i at left ≡ moved_at i at right
  moved_same i e t = ap (λ (q : Spot). (q.0, q.1 + i)) (same e t)

  place_left : (i : ℕ) → runs_left mode ≡ true → (moved_places i pl).left ≡ moved_at i at left ∷ []
  place_left i e = ap (moved_spots i) (places left (left_runs mode e))

  place_right : (i : ℕ) → runs_right mode ≡ true → (moved_places i pl).right ≡ moved_at i at right ∷ []
  place_right i e = ap (moved_spots i) (places right (right_runs mode e))

  within : (q i s : ℕ) → i + s ≤ n → q + n ≤ 2 ^ 32 → q + i + s ≤ 2 ^ 32
  within q i s h e = under (q + i + s) (q + n) (omega (arith, h)) e
    where
      under : (x y : ℕ) → x ≤ y → y ≤ 2 ^ 32 → x ≤ 2 ^ 32
      under x y h e = omega (arith, h, e)

  -- ---- a leaf

  abbrev leaf : (i : ℕ) → Scalar → Side → Memory → Memory
  leaf i w s z = patched p.types.model (at s).0 (at s).1 (clear_here (ord s) p.types.model leaves i (Some w) true) z

  left_leaf : (mode : Mode) (i : ℕ) (w : Scalar) (m : Memories)
      → IsStoredAt (ord left) p.types.model w (moved_at i at left) (zero_of w) (runs_left mode) m.left
      (changed mode (leaf i w) m).left
  left_leaf Both i w m = record { written = λ e b j. refl; stays = λ e. absurd (let z : true ≡ false = e in cc) }
  left_leaf Left i w m = record { written = λ e b j. refl; stays = λ e. absurd (let z : true ≡ false = e in cc) }
  left_leaf Right i w m = record { written = λ e. absurd (let z : false ≡ true = e in cc); stays = λ e b j. refl }

  right_leaf : (mode : Mode) (i : ℕ) (w : Scalar) (m : Memories)
      → IsStoredAt (ord right) p.types.model w (moved_at i at right) (zero_of w) (runs_right mode) m.right
      (changed mode (leaf i w) m).right
  right_leaf Both i w m = record { written = λ e b j. refl; stays = λ e. absurd (let z : true ≡ false = e in cc) }
  right_leaf Left i w m = record { written = λ e. absurd (let z : false ≡ true = e in cc); stays = λ e b j. refl }
  right_leaf Right i w m = record { written = λ e b j. refl; stays = λ e. absurd (let z : true ≡ false = e in cc) }

  zero_number : (k : Known N) (m : Memories) → IsState D p ord k → (q : Spot) (t : IntType)
      → q.1 + size_of k.model (Int t) ≤ 2 ^ 32
      → IsOneToStore D k m q (Int t) (Some (Num (D.single (pos 0)))) (constant_form t (pos 0)) (int (pos 0))
  zero_number k m i q t l = record {
    one = one_number (D.single (pos 0)) (pos 0) (law.single_range (pos 0) zero_type);
    sort = tt;
    rising = tt;
    last = l;
    allowed = (zero_in_range t, law.single_holds (pos 0) zero_type);
    form_fits = ((constant_sound D law p ord t (pos 0) (zero_in_range t) (λ s m. has (int (pos 0)))
        (λ s m. refl)).fits k i Both left).form;
    form_has = sym (ap (λ x. x % 2 ^ bits_of t)
        (ap (λ y. representation t (pos 0) + y) (mul-zero (2 ^ bits_of t)) ∙ add-zero (representation t (pos 0)))
        ∙ mod-eq_of_lt (representation_below t (pos 0)));
  }

  zero_pointer : (k : Known N) (m : Memories) (q : Spot) → q.1 + size_of k.model Pointer ≤ 2 ^ 32
      → IsOneToStore D k m q Pointer (Some (Ptr null_alone)) None null
  zero_pointer k m q l = record {
    one = one_pointer null_alone (only_null refl);
    sort = tt;
    rising = tt;
    last = l;
    allowed = refl;
    form_fits = tt;
    form_has = tt;
  }

  zero_side : (k : Known N) (m : Memories) → IsState D p ord k → (q : Spot) (w : Scalar) (s : Side)
      → q.1 + size_of k.model w ≤ 2 ^ 32
      → IsOneToStore D k m q w (on (zero_item D w).pair s).value (on (zero_item D w).pair s).form (zero_of w)
  zero_side k m i q (Int t) left l = zero_number k m i q t l
  zero_side k m i q (Int t) right l = zero_number k m i q t l
  zero_side k m i q Pointer left l = zero_pointer k m q l
  zero_side k m i q Pointer right l = zero_pointer k m q l

  zero_is : (w : Scalar) → item_of D (zero_item D w).pair ≡ zero_item D w
  zero_is (Int t) = refl
  zero_is Pointer = refl

  leaf_alone : (i : ℕ) (w : Scalar) → i + size_of p.types.model w ≤ n → (k : Known N) (m : Memories)
      → StandsAlone k m
      → StandsAlone (write_now D mode to w (moved_places i pl) (zero_item D w) k) (changed mode (leaf i w) m)
  leaf_alone i w l k m h =
      let q = moved_at i at left in
      let r = moved_at i at right in
      let o = changed mode (leaf i w) m in
      let size : i + size_of k.model w ≤ n = subst (λ x. i + size_of x w ≤ n) (sym h.state.model) l in
      let one : IsOne D (write_now D mode to w (record { left = q ∷ []; right = r ∷ [] }) (zero_item D w) k) o =
      subst (λ z. IsOne D (write_now D mode to w (record { left = q ∷ []; right = r ∷ [] }) z k) o) (zero_is w)
      (writes_keep_one D law keeps k m o h.one mode to w q r (zero_item D w).pair (zero_of w) (zero_of w)
      (λ e. zero_side k m h.state q w left (within (at left).1 i (size_of k.model w) size (room left (left_runs mode e))))
      (λ e. zero_side k m h.state r w right
      (within (at right).1 i (size_of k.model w) size (room right (right_runs mode e))))
      (subst (λ os. IsStoredAt os.0 k.model w q (zero_of w) (runs_left mode) m.left o.left) (sym h.state.orders)
      (subst (λ x. IsStoredAt (ord left) x w q (zero_of w) (runs_left mode) m.left o.left) (sym h.state.model)
      (left_leaf mode i w m)))
      (subst (λ os. IsStoredAt os.1 k.model w r (zero_of w) (runs_right mode) m.right o.right) (sym h.state.orders)
      (subst (λ x. IsStoredAt (ord right) x w r (zero_of w) (runs_right mode) m.right o.right) (sym h.state.model)
      (right_leaf mode i w m))) (λ e t z. (moved_same i e t, refl))) in
      at_places D (λ j. StandsAlone j o) to w (zero_item D w) k mode (moved_places i pl) q r (place_left i) (place_right i)
      (record {
        state = state_beside D p ord k (write_now D mode to w (record { left = q ∷ []; right = r ∷ [] }) (zero_item D w) k)
            h.state
            (write_beside D w q r (zero_item D w) k mode to (λ e t. moved_same i e (and_parts to (zero_item D w).same t).0))
            one.cells;
        one = one;
      })

  -- ---- a byte outside of all leaves

  abbrev hole : (i : ℕ) → Side → Memory → Memory
  hole i s z = patched p.types.model (at s).0 (at s).1 (clear_here (ord s) p.types.model leaves i None false) z

  left_hole : (mode : Mode) (i : ℕ) (m : Memories)
      → IsUnsetAt p.types.model (moved_at i at left) (runs_left mode) m.left (changed mode (hole i) m).left
  left_hole Both i m = record { unset = λ e b j. refl; stays = λ e. absurd (let z : true ≡ false = e in cc) }
  left_hole Left i m = record { unset = λ e b j. refl; stays = λ e. absurd (let z : true ≡ false = e in cc) }
  left_hole Right i m = record { unset = λ e. absurd (let z : false ≡ true = e in cc); stays = λ e b j. refl }

  right_hole : (mode : Mode) (i : ℕ) (m : Memories)
      → IsUnsetAt p.types.model (moved_at i at right) (runs_right mode) m.right (changed mode (hole i) m).right
  right_hole Both i m = record { unset = λ e b j. refl; stays = λ e. absurd (let z : true ≡ false = e in cc) }
  right_hole Left i m = record { unset = λ e. absurd (let z : false ≡ true = e in cc); stays = λ e b j. refl }
  right_hole Right i m = record { unset = λ e b j. refl; stays = λ e. absurd (let z : true ≡ false = e in cc) }

  hole_alone : (i : ℕ) → i + 1 ≤ n → (k : Known N) (m : Memories) → StandsAlone k m
      → StandsAlone (write_now D mode to (Int U8) (moved_places i pl) (undefined_item D) k) (changed mode (hole i) m)
  hole_alone i l k m h =
      let q = moved_at i at left in
      let r = moved_at i at right in
      let o = changed mode (hole i) m in
      let one : IsOne D (write_now D mode to (Int U8) (record { left = q ∷ []; right = r ∷ [] }) (undefined_item D) k) o =
      unset_in D law k m o h.one mode to q r (moved_same i)
      (λ e. within (at left).1 i 1 l (room left (left_runs mode e)))
      (λ e. within (at right).1 i 1 l (room right (right_runs mode e)))
      (subst (λ x. IsUnsetAt x q (runs_left mode) m.left o.left) (sym h.state.model) (left_hole mode i m))
      (subst (λ x. IsUnsetAt x r (runs_right mode) m.right o.right) (sym h.state.model) (right_hole mode i m)) in
      at_places D (λ j. StandsAlone j o) to (Int U8) (undefined_item D) k mode (moved_places i pl) q r (place_left i)
      (place_right i)
      (record {
        state = state_beside D p ord k
            (write_now D mode to (Int U8) (record { left = q ∷ []; right = r ∷ [] }) (undefined_item D) k) h.state
            (write_beside D (Int U8) q r (undefined_item D) k mode to
            (λ e t. moved_same i e (and_parts to true t).0)) one.cells;
        one = one;
      })

  -- ---- all of them

  one_room : (i c : ℕ) → i + suc c ≤ n → i + 1 ≤ n
  one_room i c h = omega (arith, h)

  next_room : (i c : ℕ) → i + suc c ≤ n → i + 1 + c ≤ n
  next_room i c h = omega (arith, h)

  abbrev writes : (Order → List Patch) → Side → Memory → Memory
  writes xs s z = patched p.types.model (at s).0 (at s).1 (xs (ord s)) z

  here_alone : (i c : ℕ) → i + suc c ≤ n → (v : Option Scalar) (t : Bool) → leaf_at leaves i ≡ v → (k : Known N)
      (m : Memories) → StandsAlone k m
      → StandsAlone (cleared_here D sizes mode n leaves to pl i v t k)
      (changed mode (writes (λ o. clear_here o p.types.model leaves i v t)) m)
  here_alone i c l (Some w) t e k m h = leaf_alone i w (leaf_inside p.types.model 0 n i leaves w a e) k m h
  here_alone i c l None true e k m h = subst (StandsAlone k) (sym (unchanged mode m)) h
  here_alone i c l None false e k m h = hole_alone i (one_room i c l) k m h

  all_alone : (c i : ℕ) → i + c ≤ n → (k : Known N) (m : Memories) → StandsAlone k m
      → StandsAlone (cleared_from D sizes mode n leaves to pl i c k)
      (changed mode (writes (λ o. clear_patches o p.types.model leaves i c)) m)
  all_alone zero i l k m h = subst (StandsAlone k) (sym (unchanged mode m)) h
  all_alone (suc c) i l k m h =
      let v = leaf_at leaves i in
      let t = is_in_leaf p.types.model leaves i in
      let j = changed mode (writes (λ o. clear_here o p.types.model leaves i v t)) m in
      let k1 = cleared_here D sizes mode n leaves to pl i v (is_in_leaf k.model leaves i) k in
      let s : StandsAlone k1 j = subst
      (λ z. StandsAlone (cleared_here D sizes mode n leaves to pl i v (is_in_leaf z leaves i) k) j) (sym h.state.model)
      (here_alone i c l v t refl k m h) in
      subst (StandsAlone (cleared_from D sizes mode n leaves to pl i (suc c) k))
      (then_both mode (writes (λ o. clear_here o p.types.model leaves i v t))
      (writes (λ o. clear_patches o p.types.model leaves (i + 1) c))
      (writes (λ o. clear_patches o p.types.model leaves i (suc c))) m
      (λ s z. sym (patched_both D (cell_laws D law) k pl pl leaves n p.types.model (at s).0 (at s).1
      (clear_here (ord s) p.types.model leaves i v t) (clear_patches (ord s) p.types.model leaves (i + 1) c) z)))
      (all_alone c (i + 1) (next_room i c l) k1 j s)

  pub cleared_alone : 0 < n → (k : Known N) (m : Memories) → StandsAlone k m
      → StandsAlone (cleared_from D sizes mode n leaves to pl 0 n k)
      (changed mode (λ s z. clear_of p.types.model leaves (at s) n z) m)
  cleared_alone some k m h =
      let ease : Side → Memory → Memory = λ s z. eased_memory p.types.model (at s).0 (at s).1 n z in
      let all : Side → Memory → Memory = writes (λ o. clear_patches o p.types.model leaves 0 n) in
      let e = changed mode ease m in
      let first : AreAlike p.types.model m e = subst (λ x. AreAlike p.types.model x e) (unchanged mode m)
      (changed_like p.types.model mode (λ s z. z) ease m (λ s z. eased_alike p.types.model (at s).0 (at s).1 n z)) in
      let done : StandsAlone (cleared_from D sizes mode n leaves to pl 0 n k) (changed mode all e) =
      all_alone n 0 (omega arith) k e (alike_alone k m e first h) in
      alike_alone (cleared_from D sizes mode n leaves to pl 0 n k) (changed mode (λ s z. all s (ease s z)) m)
      (changed mode (λ s z. clear_of p.types.model leaves (at s) n z) m)
      (changed_like p.types.model mode (λ s z. all s (ease s z)) (λ s z. clear_of p.types.model leaves (at s) n z) m
      (λ s z. patched_alike p.types.model (at s).0 (at s).1 n (cleared_byte p.types.model leaves)
      (clear_patches (ord s) p.types.model leaves 0 n)
      (are_patches (ord s) p.types.model leaves n a 0 n (omega arith)) some
      (cover_all (ord s) p.types.model leaves n a) (λ i l. plain_byte p.types.model leaves i) z))
      (subst (StandsAlone (cleared_from D sizes mode n leaves to pl 0 n k))
      (then_both mode ease all (λ s z. all s (ease s z)) m (λ s z. refl)) done)
