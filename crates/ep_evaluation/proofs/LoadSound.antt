-- Loads are sound.
use Rattle.std.proofs.Common.{◌≡◌, ℕ, ◌+◌, ◌%◌, ◌≤◌, Bool, true, false, ◌&&◌, List, [], ◌∷◌, ◌++◌, slice_get, Option}
use Rattle.ep_int.proofs.Basics.{size_positive}
use Rattle.std.proofs.Common.{Some, None, refl, sym, ap, ◌∙◌, subst}
use Rattle.std.specs.List.{list_any, list_all}
use Rattle.std.specs.Option.{option_map}
use Rattle.std.proofs.lemmas.Bool.{and_parts}
use Rattle.std.proofs.lemmas.Option.{slice_get-map}
use Rattle.ep_int.specs.declared.types.Order.{Order}
use Rattle.ep_int.specs.declared.types.Scalar.{Scalar}
use Rattle.ep_int.specs.declared.types.Scalar.TheVariants.{Pointer}
use Rattle.ep_int.specs.Types.{size_of}
use Rattle.ep_int.specs.Memory.{Memory, Value as Datum, int, null, pointer, Found, has, faults, null_pointer}
use Rattle.ep_int.specs.Memory.{bytes_from, is_undefined, value_of_bytes, loaded, with_place}
use Rattle.ep_int.proofs.Memories.{loaded_inside}
use Rattle.ep_alarms.specs.declared.types.AlarmKind.{AlarmKind}
use Rattle.ep_alarms.specs.declared.types.AlarmKind.TheVariants.{U4, U5, U6, U7, U10}
use Rattle.ep_domain.specs.Domain.{Ops, Lawful}
use Rattle.ep_cells.specs.declared.cell.Value.{Value}
use Rattle.ep_cells.specs.declared.cell.Value.TheVariants.{Num, Ptr}
use Rattle.ep_cells.specs.Look.{cell_at}
use Rattle.ep_cells.specs.States.{Known}
use Rattle.ep_cells.specs.Meaning.{Memories, Allows, numbers_of}
use Rattle.ep_reads.specs.Read.{read}
use Rattle.ep_reads.specs.Laws.{memory_on, ReadLaws}
use Rattle.ep_core.specs.Program.{Block, Program}
use Rattle.ep_core.specs.Exec.{block_size, size_at}
use Rattle.ep_core.specs.Runs.{Side, left, right}
use Rattle.ep_equalities.specs.declared.pair.Mode.{Mode}
use Rattle.ep_equalities.specs.declared.pair.Mode.TheVariants.{Both, Left, Right}
use Rattle.ep_equalities.specs.declared.pair.PairValue.{PairValue}
use Rattle.ep_equalities.specs.declared.pair.SideValue.{SideValue}
use Rattle.ep_equalities.specs.Pairs.{SideIn}
use Rattle.ep_evaluation.specs.Given.{Given, cells_of, runs, on, Shown, shown_if, fault_of, faults_on, are_sure}
use Rattle.ep_evaluation.specs.Given.{is_of_reading}
use Rattle.ep_evaluation.specs.Operators.{pointer_in}
use Rattle.ep_evaluation.specs.Accesses.{spots, bounds_of, may_be_odd, is_unset, is_mixed}
use Rattle.ep_cell_ranges.specs.Shared.{is_shared_cell}
use Rattle.ep_cell_ranges.specs.Spots.{Spot}
use Rattle.ep_evaluation.specs.Evaluation.{pointer as pointer_on, same, targets_of, is_null, places_at, reads_at}
use Rattle.ep_evaluation.specs.Evaluation.{load_side, load_shared, all_shared, load_faults, load_given}
use Rattle.ep_evaluation.specs.Laws.{memory_of, Machine, IsReliable, IsKept, Holds, sizes_of}
use Rattle.ep_evaluation.proofs.General.{none_left, reliable_parts, reliable_none, on_running, equal_is}
use Rattle.ep_evaluation.proofs.General.{unmarked, not_shown}
use Rattle.ep_evaluation.proofs.Generic.{same_found}
use Rattle.ep_evaluation.proofs.Spots.{Among, here, behind, spot_there, set_at, pure_at}
use Rattle.ep_evaluation.proofs.Loads.{loads, memory_at, order_at, sure_read, is_ptr, place_there}
use Rattle.ep_evaluation.proofs.Loads.{load_held}
use Rattle.ep_evaluation.proofs.Shareds.{shared_same}
use Rattle.ep_evaluation.proofs.Access.{even_there, inside_there}

pub place_found : (x : Found) (go : ℕ → ℕ → Found) (v : Datum) → with_place x go ≡ has v
    → (b : ℕ) × (q : ℕ) × (x ≡ has (pointer b q)) × (go b q ≡ has v)
place_found (has (int z)) go v e = absurd (let q : faults null_pointer ≡ has v = e in cc)
place_found (has null) go v e = absurd (let q : faults null_pointer ≡ has v = e in cc)
place_found (has (pointer b q)) go v e = (b, q, refl, e)
place_found (faults k) go v e = absurd (let q : faults k ≡ has v = e in cc)

sure_shown : (k : AlarmKind) (a b : Shown) → is_of_reading k ≡ true → are_sure (fault_of k a b) ≡ true
    → (a ≡ None) × (b ≡ None)
sure_shown k None None i e = (refl, refl)
sure_shown k (Some a) None i e = absurd (let z : false ≡ true = rw i at e in cc)
sure_shown k None (Some b) i e = absurd (let z : false ≡ true = rw i at e in cc)
sure_shown k (Some a) (Some b) i e = absurd (let z : false ≡ true = rw i at e in cc)

pub reliable_unmarked : (m : Mode) (k : AlarmKind) (f : Side → Shown) (s : Side) → is_of_reading k ≡ true
    → IsReliable m (faults_on m k f)
    → runs m s ≡ true → f s ≡ None
reliable_unmarked Both k f s i e r = unmarked Both k f s e r
reliable_unmarked Left k f left i e r = (sure_shown k (f left) None i e).0
reliable_unmarked Left k f right i e r = absurd cc
reliable_unmarked Right k f left i e r = absurd cc
reliable_unmarked Right k f right i e r = (sure_shown k None (f right) i e).1

pub all_at : {A : Type 0} (test : A → Bool) (x : A) (xs : List A) → Among x xs → list_all test xs ≡ true → test x ≡ true
all_at test x [] h e = elim h [ ]
all_at test x (_ ∷ xs) (here _) e = (and_parts (test x) (list_all test xs) e).0
all_at test x (y ∷ xs) (behind _ _ h) e = all_at test x xs h (and_parts (test y) (list_all test xs) e).1

size_is : (o : Order) (p : Program) (c : Option Block) (size : ℕ) → option_map (λ (x : Block). x.size) c ≡ Some size
    → block_size o p c ≡ size
size_is o p None size e = absurd (let z : None ≡ Some size = e in cc)
size_is o p (Some x) size e = let z : x.size ≡ size = cc in z

one_block : (b c q r : ℕ) → pointer b q ≡ pointer c r → b ≡ c
one_block b c q r e = cc

one_offset : (b c q r : ℕ) → pointer b q ≡ pointer c r → q ≡ r
one_offset b c q r e = cc

module _ {N : Type 0} (D : Ops N) (law : Lawful D) (reads : ReadLaws D) (p : Program) (ord : Side → Order)
    (w : Scalar) where
  abbrev pub loads_at : Side → Memory → ℕ → ℕ → Found
  loads_at s m b q = loaded (ord s) p.types.model (size_at (ord s) p b) m w b q

  abbrev pub load_machine : (Side → Machine) → Side → Machine
  load_machine f s m = with_place (f s m) (loads_at s m)

  module _ (k : Known N) (m : Memories) (kept : IsKept D p ord k m) where
    load_found : (s : Side) (x : SideValue N) (b q : ℕ) → Allows D Pointer x.value false (Some (pointer b q))
        → bounds_of D (sizes_of p.blocks) (size_of k.model w) (targets_of D (sizes_of p.blocks) (pointer_on D x)) ≡ None
        → may_be_odd D (size_of k.model w) (targets_of D (sizes_of p.blocks) (pointer_on D x)) ≡ false
        → is_unset (reads_at D (sizes_of p.blocks) w k x s) ≡ false
        → is_mixed (reads_at D (sizes_of p.blocks) w k x s) ≡ false
        → (v : Datum) × (loads_at s (memory_of s m) b q ≡ has v)
    load_found s x b q a inb even set pure =
        let zs = sizes_of p.blocks in
        let n = size_of k.model w in
        let i = is_ptr D law reads p ord x.value b q a in
        let ts : targets_of D zs (pointer_on D x) ≡ i.value.targets = ap (λ o. targets_of D zs (pointer_in o)) i.is in
        let inside = inside_there D law n zs i.value.targets b q
        (subst (λ t. bounds_of D zs n t ≡ None) ts inb) i.holds in
        let aligned : q % n ≡ 0 = even_there D law n i.value.targets b q
        (subst (λ t. may_be_odd D n t ≡ false) ts even) i.holds in
        let among0 = spot_there D zs n (size_positive k.model w) i.value.targets b q inside.0 i.holds inside.1 inside.2
        aligned in
        let among : Among (b, q) (places_at D zs w k x) = subst (λ t. Among (b, q) (spots D zs n n t))
        (sym ts) among0 in
        let here_set = set_at D law reads k kept.state.cells (cells_of s) w (b, q) (places_at D zs w k x) among set in
        let here_pure = pure_at D law reads k kept.state.cells (cells_of s) w (b, q)
        (places_at D zs w k x) among pure in
        let r = reads.holds k (cells_of s) b q w kept.state.cells m kept.holds
        (sure_read (read D k (cells_of s) b q w) here_set) here_pure in
        let size : size_at (ord s) p b ≡ inside.0 =
        size_is (ord s) p (slice_get p.blocks b) inside.0 (sym (slice_get-map (λ (y : Block). y.size) p.blocks b)
        ∙ inside.1) in
        let bytes : bytes_from (memory_on (cells_of s) m) b q n ≡ bytes_from (memory_of s m) b q
        (size_of p.types.model w) =
        ap (λ c. bytes_from c b q n) (memory_at s m)
        ∙ ap (λ d. bytes_from (memory_of s m) b q (size_of d w)) kept.state.model in
        let defined : list_any is_undefined (bytes_from (memory_of s m) b q (size_of p.types.model w)) ≡ false =
        sym (ap (list_any is_undefined) bytes) ∙ r.defined in
        let found : value_of_bytes (ord s) w (bytes_from (memory_of s m) b q (size_of p.types.model w)) ≡ has r.datum =
        sym (ap (λ o. value_of_bytes o w (bytes_from (memory_on (cells_of s) m) b q n))
        (order_at s k.orders ord kept.state.orders)
        ∙ ap (value_of_bytes (ord s) w) bytes) ∙ r.found in
        let same_size : size_of p.types.model w ≡ n = ap (λ d. size_of d w) (sym kept.state.model) in (
          r.datum,
          loaded_inside (ord s) p.types.model (size_at (ord s) p b) (memory_of s m) w b q
              (subst (λ t. q + t ≤ size_at (ord s) p b) (sym same_size) (subst (λ t. q + n ≤ t) (sym size) inside.2))
              (subst (λ t. q % t ≡ 0) (sym same_size) aligned)
              ∙ rw (defined) found,
        )

    -- what the five kinds show on a running side
    record Marks (mode : Mode) (x : PairValue N) (s : Side) : Type 0 where
      null_is : is_null D (sizes_of p.blocks) (pointer_on D (on x s)) ≡ false
      inb : bounds_of D (sizes_of p.blocks) (size_of k.model w)
          (targets_of D (sizes_of p.blocks) (pointer_on D (on x s))) ≡ None
      even : may_be_odd D (size_of k.model w) (targets_of D (sizes_of p.blocks) (pointer_on D (on x s))) ≡ false

    record Sure (x : PairValue N) (s : Side) : Type 0 where
      set : is_unset (reads_at D (sizes_of p.blocks) w k (on x s) s) ≡ false
      pure : is_mixed (reads_at D (sizes_of p.blocks) w k (on x s) s) ≡ false

    abbrev f6 : PairValue N → Side → Shown
    f6 x s = shown_if (is_null D (sizes_of p.blocks) (pointer_on D (on x s)))

    abbrev f5 : PairValue N → Side → Shown
    f5 x s = bounds_of D (sizes_of p.blocks) (size_of k.model w)
        (targets_of D (sizes_of p.blocks) (pointer_on D (on x s)))

    abbrev f7 : PairValue N → Side → Shown
    f7 x s = shown_if (may_be_odd D (size_of k.model w) (targets_of D (sizes_of p.blocks) (pointer_on D (on x s))))

    abbrev f4 : PairValue N → Side → Shown
    f4 x s = shown_if (is_unset (reads_at D (sizes_of p.blocks) w k (on x s) s))

    abbrev f10 : PairValue N → Side → Shown
    f10 x s = shown_if (is_mixed (reads_at D (sizes_of p.blocks) w k (on x s) s))

    sure_of : (mode : Mode) (x : PairValue N) → IsReliable mode (load_faults D (sizes_of p.blocks) w mode k x)
        → (s : Side) → runs mode s ≡ true → Sure x s
    sure_of mode x e s r =
        let a = reliable_parts mode (faults_on mode U6 (f6 x))
        (faults_on mode U5 (f5 x) ++ (faults_on mode U7
        (f7 x) ++ (faults_on mode U4 (f4 x) ++ faults_on mode U10 (f10 x)))) e in
        let b = reliable_parts mode (faults_on mode U5 (f5 x))
        (faults_on mode U7 (f7 x) ++ (faults_on mode U4 (f4 x) ++ faults_on mode U10 (f10 x))) a.1 in
        let c = reliable_parts mode (faults_on mode U7 (f7 x))
        (faults_on mode U4 (f4 x) ++ faults_on mode U10 (f10 x)) b.1 in
        let d = reliable_parts mode (faults_on mode U4 (f4 x)) (faults_on mode U10 (f10 x)) c.1 in
        record {
          set = not_shown (is_unset (reads_at D (sizes_of p.blocks) w k (on x s) s))
              (reliable_unmarked mode U4 (f4 x) s refl d.0 r);
          pure = not_shown (is_mixed (reads_at D (sizes_of p.blocks) w k (on x s) s))
              (reliable_unmarked mode U10 (f10 x) s refl d.1 r);
        }

    marks_of : (mode : Mode) (x : PairValue N) → load_faults D (sizes_of p.blocks) w mode k x ≡ [] → (s : Side)
        → runs mode s ≡ true → Marks mode x s
    marks_of mode x e s r =
        let a = none_left (faults_on mode U6 (f6 x))
        (faults_on mode U5 (f5 x) ++ (faults_on mode U7
        (f7 x) ++ (faults_on mode U4 (f4 x) ++ faults_on mode U10 (f10 x)))) e in
        let b = none_left (faults_on mode U5 (f5 x))
        (faults_on mode U7 (f7 x) ++ (faults_on mode U4 (f4 x) ++ faults_on mode U10 (f10 x))) a.1 in
        let c = none_left (faults_on mode U7 (f7 x)) (faults_on mode U4 (f4 x) ++ faults_on mode U10 (f10 x)) b.1 in
        record {
          null_is = not_shown (is_null D (sizes_of p.blocks) (pointer_on D (on x s))) (unmarked mode U6 (f6 x) s a.0 r);
          inb = unmarked mode U5 (f5 x) s b.0 r;
          even = not_shown (may_be_odd D (size_of k.model w)
              (targets_of D (sizes_of p.blocks) (pointer_on D (on x s)))) (unmarked mode U7 (f7 x) s c.0 r);
        }

    -- an address that can't be null is a place
    not_null : (o : Option (Value N)) (u : Datum) → Allows D Pointer o false (Some u)
        → is_null D (sizes_of p.blocks) (pointer_in o) ≡ false
        → (b : ℕ) × (q : ℕ) × (u ≡ pointer b q)
    not_null None u a e = absurd (let z : Some u ≡ None = a in cc)
    not_null (Some (Num n)) (int z) a e = absurd a
    not_null (Some (Num n)) null a e = absurd a
    not_null (Some (Num n)) (pointer b q) a e = absurd a
    not_null (Some (Ptr x)) (int z) a e = absurd a
    not_null (Some (Ptr x)) null a e = absurd (let z : true ≡ false = sym a ∙ e in cc)
    not_null (Some (Ptr x)) (pointer b q) a e = (b, q, refl)

    module _ (f : Side → Machine) (mode : Mode) (x : Given N)
        (hx : Holds D p ord Pointer (λ s. f s (memory_of s m)) k m mode x) where
      side_held : IsReliable mode x.faults → IsReliable mode (load_faults D (sizes_of p.blocks) w mode k x.pair)
          → (s : Side) → runs mode s ≡ true
          → (v : Datum) → load_machine f s (memory_of s m) ≡ has v
          → SideIn D (numbers_of k.orders m) w (load_side D (sizes_of p.blocks) w k (on x.pair s) s) v
      side_held rx rl s r v e =
          let t = place_found (f s (memory_of s m)) (loads_at s (memory_of s m)) v e in
          let u = sure_of mode x.pair rl s r in
          load_held D law reads p ord k m kept w s (on x.pair s) t.0 t.1 v
          (hx.held rx s r (pointer t.0 t.1) t.2).value t.3 u.set u.pure

      side_found : x.faults ≡ [] → load_faults D (sizes_of p.blocks) w mode k x.pair ≡ [] → (s : Side)
          → runs mode s ≡ true
          → (v : Datum) × (load_machine f s (memory_of s m) ≡ has v)
      side_found nx nl s r =
          let u = hx.found nx s r in
          let a = (hx.held (reliable_none mode x.faults nx) s r u.0 u.1).value in
          let g = marks_of mode x.pair nl s r in
          let c = sure_of mode x.pair (reliable_none mode (load_faults D (sizes_of p.blocks) w mode k x.pair) nl) s r in
          let at = not_null (on x.pair s).value u.0 a g.null_is in
          let l = load_found s (on x.pair s) at.0 at.1
          (subst (λ d. Allows D Pointer (on x.pair s).value false (Some d)) at.2 a) g.inb g.even c.set c.pure in
          (l.0, ap (λ d. with_place d (loads_at s (memory_of s m))) (u.1 ∙ ap has at.2) ∙ l.1)

      sides_same : mode ≡ Both → x.faults ≡ [] → load_faults D (sizes_of p.blocks) w mode k x.pair ≡ []
          → same D x ≡ true
          → load_shared D (sizes_of p.blocks) w k x.pair.left left ≡ true → (u v : Datum) → runs mode left ≡ true
          → load_machine f left (memory_of left m) ≡ has u → load_machine f right (memory_of right m) ≡ has v → u ≡ v
      sides_same bo nx nl e sh u v rl i j =
          let a = place_found (f left (memory_of left m)) (loads_at left (memory_of left m)) u i in
          let c = place_found (f right (memory_of right m)) (loads_at right (memory_of right m)) v j in
          let q = same_found D law p ord Pointer (λ s. f s (memory_of s m)) k m mode x hx bo nx e (pointer a.0 a.1)
          (pointer c.0 c.1) a.2 c.2 in
          let l = loads (ord left) p.types.model (size_at (ord left) p a.0) m.left w a.0 a.1 u a.3 in
          let h = loads (ord right) p.types.model (size_at (ord right) p c.0) m.right w c.0 c.1 v c.3 in
          let qs = places_at D (sizes_of p.blocks) w k x.pair.left in
          let among = place_there D law reads p ord k m kept w left x.pair.left a.0 a.1 u
          (hx.held (reliable_none mode x.faults nx) left rl (pointer a.0 a.1) a.2).value l in
          let shared = all_at (λ (z : Spot). is_shared_cell k w z.1 (cell_at k.model (cells_of left) z.0 z.1 k.cells))
          (a.0, a.1) qs among sh in
          let g = sure_of mode x.pair (reliable_none mode (load_faults D (sizes_of p.blocks) w mode k x.pair) nl) left
          rl in
          let set = set_at D law reads k kept.state.cells (cells_of left) w (a.0, a.1) qs among g.set in
          let hr : value_of_bytes (ord right) w (bytes_from m.right a.0 a.1 (size_of p.types.model w)) ≡ has v =
          subst (λ b. value_of_bytes (ord right) w (bytes_from m.right b a.1 (size_of p.types.model w)) ≡ has v)
          (sym (one_block a.0 c.0 a.1 c.1 q))
          (subst (λ o. value_of_bytes (ord right) w (bytes_from m.right c.0 o (size_of p.types.model w)) ≡ has v)
          (sym (one_offset a.0 c.0 a.1 c.1 q)) h.found) in
          shared_same D law p ord k m kept w a.0 a.1 shared (sure_read (read D k (cells_of left) a.0 a.1 w) set) u v
          (subst (λ d. value_of_bytes k.orders.0 w (bytes_from m.left a.0 a.1 (size_of d w)) ≡ has u)
          (sym kept.state.model)
          (subst (λ o. value_of_bytes o w (bytes_from m.left a.0 a.1 (size_of p.types.model w)) ≡ has u)
          (sym (order_at left k.orders ord kept.state.orders)) l.found))
          (subst (λ d. value_of_bytes k.orders.1 w (bytes_from m.right a.0 a.1 (size_of d w)) ≡ has v)
          (sym kept.state.model)
          (subst (λ o. value_of_bytes o w (bytes_from m.right a.0 a.1 (size_of p.types.model w)) ≡ has v)
          (sym (order_at right k.orders ord kept.state.orders)) hr))

      left_shared : (n : Mode) → n ≡ Both → all_shared D (sizes_of p.blocks) n w k x.pair ≡ true
          → load_shared D (sizes_of p.blocks) w k x.pair.left left ≡ true
      left_shared Both e h =
          (and_parts (load_shared D (sizes_of p.blocks) w k x.pair.left left)
          (load_shared D (sizes_of p.blocks) w k x.pair.right right) h).0
      left_shared Left e h = h
      left_shared Right e h = absurd cc

      runs_left_of : (n : Mode) → n ≡ Both → runs n left ≡ true
      runs_left_of Both e = refl
      runs_left_of Left e = refl
      runs_left_of Right e = absurd cc

      pub load_holds : Holds D p ord w (λ s. load_machine f s (memory_of s m)) k m mode
          (load_given D (sizes_of p.blocks) w mode k x)
      load_holds = record {
        held = λ rel s r v e.
            let q = reliable_parts mode x.faults (load_faults D (sizes_of p.blocks) w mode k x.pair) rel in
            subst (λ y. SideIn D (numbers_of k.orders m) w y v)
            (sym (on_running mode s (λ s. load_side D (sizes_of p.blocks) w k (on x.pair s) s)
            (same D x && all_shared D (sizes_of p.blocks) mode w k x.pair) r))
            (side_held q.0 q.1 s r v e);
        found = λ none s r.
            let q = none_left x.faults (load_faults D (sizes_of p.blocks) w mode k x.pair) none in
            side_found q.0 q.1 s r;
        same = λ bo none e u v i j.
            let q = none_left x.faults (load_faults D (sizes_of p.blocks) w mode k x.pair) none in
            let g = and_parts (same D x) (all_shared D (sizes_of p.blocks) mode w k x.pair)
            (sym (equal_is mode (λ s. load_side D (sizes_of p.blocks) w k (on x.pair s) s)
            (same D x && all_shared D (sizes_of p.blocks) mode w k x.pair)) ∙ e) in
            sides_same bo q.0 q.1 g.0 (left_shared mode bo g.1) u v (runs_left_of mode bo) i j;
      }
