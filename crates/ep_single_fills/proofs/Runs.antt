-- One byte is written at each byte of a place of each running side, in turn: a state stands for one pair of memories
-- still, those in which each machine has filled its own place.
use Rattle.std.proofs.Common.{◌≡◌, ℕ, zero, suc, ◌+◌, ◌^◌, ◌<◌, ◌≤◌, ℤ, Bool, true, false, ◌&&◌, List, [], ◌∷◌, Option}
use Rattle.std.proofs.Common.{Some, None, ⊎_elim, refl, sym, ap, ◌∙◌, subst, arith}
use Rattle.std.proofs.lemmas.Bool.{and_parts}
use Rattle.ep_int.specs.declared.types.IntType.TheVariants.{U8}
use Rattle.ep_int.specs.declared.types.Model.{Model}
use Rattle.ep_int.specs.declared.types.Order.{Order}
use Rattle.ep_int.specs.declared.types.Scalar.TheVariants.{Int}
use Rattle.ep_int.specs.Memory.{Byte, undefined, Memory, Value as Datum, int}
use Rattle.ep_domain.specs.Domain.{Ops, Lawful}
use Rattle.ep_cells.specs.declared.cell.Value.{Value}
use Rattle.ep_cells.specs.States.{Known}
use Rattle.ep_cells.specs.Meaning.{Memories, Allows}
use Rattle.ep_cell_ranges.specs.Spots.{Spot}
use Rattle.ep_core.specs.Runs.{Side, left, right}
use Rattle.ep_equalities.specs.declared.pair.Mode.{Mode}
use Rattle.ep_equalities.specs.declared.pair.Mode.TheVariants.{Both, Left, Right}
use Rattle.ep_equalities.specs.Pairs.{runs_left, runs_right}
use Rattle.ep_evaluation.specs.Given.{on, runs}
use Rattle.ep_evaluation.proofs.Spots.{Among, here}
use Rattle.ep_transfers.specs.Places.{Places, at_side, moved_spot, moved_spots, moved_places}
use Rattle.ep_transfers.specs.Writes.{Underway, lacks, formed, write_side, write_both, write, write_run}
use Rattle.ep_transfers.specs.Laws.{CellLaws}
use Rattle.ep_transfers.proofs.Alike.{IsOdd, IsLike, AreAlike, in_like, stays_like}
use Rattle.ep_transfers.proofs.Assigned.{some_is}
use Rattle.ep_transfers.proofs.Basics.{room_for_one, fewer}
use Rattle.ep_transfers.proofs.Changes.{IsKnown, Goes}
use Rattle.ep_transfers.proofs.Eased.{eased_on, eased_first}
use Rattle.ep_transfers.proofs.Filled.{fill_datum, filled_on, run_on, filled_last, one_changed, all_bytes}
use Rattle.ep_transfers.proofs.Rooms.{EndBy}
use Rattle.ep_transfers.proofs.RunSteps.{all_blocks, Waits, waits_after, step_goes, RunSpotted, moved_at, spotted_at}
use Rattle.ep_singles.specs.Numbers.{KeepsSingles}
use Rattle.ep_singles.specs.Cells.{IsOneValue, IsOne}
use Rattle.ep_single_stores.specs.Laws.{IsStoredAt, IsOneToStore}
use Rattle.ep_single_fills.proofs.Items.{item_written}

-- ---- memories that are alike but for parts that no pointer has

like_undefined : (d : Model) (x y : Byte) → IsLike d x y → x ≡ undefined → y ≡ undefined
like_undefined d x y h e =
    ⊎_elim (λ s. sym s ∙ e) (λ (o : IsOdd d x × IsOdd d y). absurd (subst (IsOdd d) e o.0)) h

pub one_alike : {N : Type 0} (D : Ops N) (k : Known N) (m n : Memories) → AreAlike k.model m n → IsOne D k m
    → IsOne D k n
one_alike D k m n e one = record {
  cells = one.cells;
  each = one.each;
  left_outside = λ b q h. like_undefined k.model (m.left b q) (n.left b q) (e.left b q) (one.left_outside b q h);
  right_outside = λ b q h. like_undefined k.model (m.right b q) (n.right b q) (e.right b q) (one.right_outside b q h);
  holds = in_like D k m n e one.holds;
}

-- ---- what waits

none_lacking : {N : Type 0} (D : Ops N) (b : Bool) (o : Option (Value N)) → b ≡ false → IsOneValue D o
    → lacks b o ≡ false
none_lacking D b None e i = elim i [ ]
none_lacking D true (Some v) e i = absurd (cc)
none_lacking D false (Some v) e i = refl

side_runs : (mode : Mode) → (runs_left mode ≡ true → runs mode left ≡ true)
    × (runs_right mode ≡ true → runs mode right ≡ true)
side_runs Both = (λ e. e, λ e. e)
side_runs Left = (λ e. e, λ e. e)
side_runs Right = (λ e. e, λ e. e)

last_byte : (q i n : ℕ) → i + 1 ≤ n → q + n ≤ 65536 → q + i + 1 ≤ 2 ^ 32
last_byte q i n h e = omega (arith, h, e)

module _ {N : Type 0} (D : Ops N) (law : Lawful D) (laws : CellLaws D) (keeps : KeepsSingles D) (os : Order × Order)
    (d : Model) (at : Side → Spot) (n : ℕ) (some : 0 < n) (z : Side → ℤ) where
  -- a state of these machines, that stands for these memories alone, in which one byte of each running side waits
  pub record Begins (mode : Mode) (to : Bool) (u : Underway N) (m : Memories) : Type 0 where
    pub one : IsOne D u.known m
    pub orders : u.known.orders ≡ os
    pub model : u.known.model ≡ d
    pub waits : Waits D mode to (Int U8) u m (fill_datum os d at n z)
    pub left_sure : u.item.left_maybe ≡ false
    pub right_sure : u.item.right_maybe ≡ false
    pub values : (s : Side) → runs mode s ≡ true → IsOneValue D (on u.item.pair s).value

  known : (u : Underway N) (m : Memories) → IsOne D u.known m → IsKnown D u.known m
  known u m one = record { cells = one.cells; holds = one.holds }

  begins_after : (mode : Mode) (to : Bool) (u v : Underway N) (m j : Memories) → Goes D all_blocks u v m j
      → IsOne D v.known j → Begins mode to u m → Begins mode to v j
  begins_after mode to u v m j g one b = record {
    one = one;
    orders = g.change.orders ∙ b.orders;
    model = g.change.model ∙ b.model;
    waits = waits_after D all_blocks mode to (Int U8) u v m j (fill_datum os d at n z) g b.waits;
    left_sure = ap (λ i. i.left_maybe) g.item ∙ b.left_sure;
    right_sure = ap (λ i. i.right_maybe) g.item ∙ b.right_sure;
    values = λ s r. subst (λ i. IsOneValue D (on i.pair s).value) (sym g.item) (by_side s (b.values s r));
  }
    where
      by_side : (s : Side) → IsOneValue D (on u.item.pair s).value
          → IsOneValue D (on (formed g.reform u.item).pair s).value
      by_side left i = i
      by_side right i = i

  -- ---- one byte of each

  -- what a machine stores, as the state says
  stored_left : (u : Underway N) (q : Spot) (x : Datum) (h : Bool) (m j : Memory) → u.known.orders ≡ os
      → u.known.model ≡ d → IsStoredAt os.0 d (Int U8) q x h m j
      → IsStoredAt u.known.orders.0 u.known.model (Int U8) q x h m j
  stored_left u q x h m j eo em s =
      subst (λ (o : Order × Order). IsStoredAt o.0 u.known.model (Int U8) q x h m j) (sym eo)
      (subst (λ c. IsStoredAt os.0 c (Int U8) q x h m j) (sym em) s)

  stored_right : (u : Underway N) (q : Spot) (x : Datum) (h : Bool) (m j : Memory) → u.known.orders ≡ os
      → u.known.model ≡ d → IsStoredAt os.1 d (Int U8) q x h m j
      → IsStoredAt u.known.orders.1 u.known.model (Int U8) q x h m j
  stored_right u q x h m j eo em s =
      subst (λ (o : Order × Order). IsStoredAt o.1 u.known.model (Int U8) q x h m j) (sym eo)
      (subst (λ c. IsStoredAt os.1 c (Int U8) q x h m j) (sym em) s)

  module _ (mode : Mode) (to : Bool) (ends : (s : Side) → runs mode s ≡ true → (at s).1 + n ≤ 65536)
      (same : mode ≡ Both → to ≡ true → at left ≡ at right) where
    module _ (i : ℕ) (inside : i + 1 ≤ n) (u : Underway N) (m : Memories) (b : Begins mode to u m) where
      to_store_left : runs_left mode ≡ true
          → IsOneToStore D u.known m (moved_at i at left) (Int U8) u.item.pair.left.value u.item.pair.left.form
          (int (z left))
      to_store_left r =
          let e = (side_runs mode).0 r in
          let w = b.waits.side left e in
          let v = b.values left e in
          let c = none_lacking D u.item.left_maybe u.item.pair.left.value b.left_sure v in
          record {
            one = v;
            sort = w.sort;
            rising = w.rising;
            last = last_byte (at left).1 i n inside (ends left e);
            allowed = subst (λ t. Allows D (Int U8) u.item.pair.left.value t (Some (int (z left)))) c w.allowed;
            form_fits = w.form;
            form_has = w.says (int (z left)) refl c;
          }

      to_store_right : runs_right mode ≡ true
          → IsOneToStore D u.known m (moved_at i at right) (Int U8) u.item.pair.right.value u.item.pair.right.form
          (int (z right))
      to_store_right r =
          let e = (side_runs mode).1 r in
          let w = b.waits.side right e in
          let v = b.values right e in
          let c = none_lacking D u.item.right_maybe u.item.pair.right.value b.right_sure v in
          record {
            one = v;
            sort = w.sort;
            rising = w.rising;
            last = last_byte (at right).1 i n inside (ends right e);
            allowed = subst (λ t. Allows D (Int U8) u.item.pair.right.value t (Some (int (z right)))) c w.allowed;
            form_fits = w.form;
            form_has = w.says (int (z right)) refl c;
          }

      equal : mode ≡ Both → (to && u.item.same) ≡ true
          → (moved_at i at left ≡ moved_at i at right) × (int (z left) ≡ int (z right))
      equal e t = (
        ap (moved_spot i) (same e (and_parts to u.item.same t).0),
        some_is (int (z left)) (int (z right)) (b.waits.both e t).equal,
      )

  -- each running machine has its one place
  abbrev pub ArePlaces : Mode → Places → Type 0
  ArePlaces mode pl = (s : Side) → runs mode s ≡ true → at_side pl s ≡ at s ∷ []

  stored : (mode : Mode) (i : ℕ) (u : Underway N) (m : Memories) → u.known.orders ≡ os → u.known.model ≡ d
      → IsStoredAt u.known.orders.0 u.known.model (Int U8) (moved_at i at left) (int (z left)) (runs_left mode) m.left
      (run_on os d at n z mode i 1 m).left
      × IsStoredAt u.known.orders.1 u.known.model (Int U8) (moved_at i at right) (int (z right))
      (runs_right mode) m.right
      (run_on os d at n z mode i 1 m).right
  stored Both i u m eo em = (
    stored_left u (moved_at i at left) (int (z left)) true m.left (run_on os d at n z Both i 1 m).left eo em
        (record { written = λ e b j. refl; stays = λ e. absurd (let f : true ≡ false = e in cc) }),
    stored_right u (moved_at i at right) (int (z right)) true m.right (run_on os d at n z Both i 1 m).right eo em
        (record { written = λ e b j. refl; stays = λ e. absurd (let f : true ≡ false = e in cc) }),
  )
  stored Left i u m eo em = (
    stored_left u (moved_at i at left) (int (z left)) true m.left (run_on os d at n z Left i 1 m).left eo em
        (record { written = λ e b j. refl; stays = λ e. absurd (let f : true ≡ false = e in cc) }),
    stored_right u (moved_at i at right) (int (z right)) false m.right (run_on os d at n z Left i 1 m).right eo em
        (record { written = λ e. absurd (let f : false ≡ true = e in cc); stays = λ e b j. refl }),
  )
  stored Right i u m eo em = (
    stored_left u (moved_at i at left) (int (z left)) false m.left (run_on os d at n z Right i 1 m).left eo em
        (record { written = λ e. absurd (let f : false ≡ true = e in cc); stays = λ e b j. refl }),
    stored_right u (moved_at i at right) (int (z right)) true m.right (run_on os d at n z Right i 1 m).right eo em
        (record { written = λ e b j. refl; stays = λ e. absurd (let f : true ≡ false = e in cc) }),
  )

  -- at places that are written out
  at_spots : (mode : Mode) (to : Bool) → ((s : Side) → runs mode s ≡ true → (at s).1 + n ≤ 65536)
      → (mode ≡ Both → to ≡ true → at left ≡ at right) → (i : ℕ) → i + 1 ≤ n → (u : Underway N) (m : Memories)
      → Begins mode to u m
      → IsOne D (write D mode to (Int U8)
      (record { left = moved_at i at left ∷ []; right = moved_at i at right ∷ [] }) u).known
      (run_on os d at n z mode i 1 m)
  at_spots mode to ends same i inside u m b =
      let s = stored mode i u m b.orders b.model in
      item_written D law keeps (Int U8) (moved_at i at left) (moved_at i at right) (int (z left)) (int (z right)) m
      (run_on os d at n z mode i 1 m) u b.one b.left_sure b.right_sure mode to
      (to_store_left mode to ends same i inside u m b) (to_store_right mode to ends same i inside u m b) s.0 s.1
      (equal mode to ends same i inside u m b)

  write_one : (mode : Mode) (to : Bool) (pl : Places) → ArePlaces mode pl
      → ((s : Side) → runs mode s ≡ true → (at s).1 + n ≤ 65536) → (mode ≡ Both → to ≡ true → at left ≡ at right)
      → (i : ℕ) → i + 1 ≤ n → (u : Underway N) (m : Memories) → Begins mode to u m
      → IsOne D (write D mode to (Int U8) (moved_places i pl) u).known (run_on os d at n z mode i 1 m)
  write_one Both to pl h ends same i inside u m b =
      subst (λ (l : List Spot). IsOne D (write_both D (to && u.item.same) (Int U8)
      (record { left = moved_spots i l; right = moved_spots i pl.right }) u).known (run_on os d at n z Both i 1 m))
      (sym (h left refl))
      (subst (λ (l : List Spot). IsOne D (write_both D (to && u.item.same) (Int U8)
      (record { left = moved_spots i (at left ∷ []); right = moved_spots i l }) u).known
      (run_on os d at n z Both i 1 m)) (sym (h right refl)) (at_spots Both to ends same i inside u m b))
  write_one Left to pl h ends same i inside u m b =
      subst (λ (l : List Spot). IsOne D (write_side D left (Int U8) (moved_spots i l) u).known
      (run_on os d at n z Left i 1 m)) (sym (h left refl)) (at_spots Left to ends same i inside u m b)
  write_one Right to pl h ends same i inside u m b =
      subst (λ (l : List Spot). IsOne D (write_side D right (Int U8) (moved_spots i l) u).known
      (run_on os d at n z Right i 1 m)) (sym (h right refl)) (at_spots Right to ends same i inside u m b)

  -- ---- all in turn

  none_run : (mode : Mode) (to : Bool) (i : ℕ) (u : Underway N) (m : Memories) → Begins mode to u m
      → Begins mode to u (run_on os d at n z mode i 0 m)
  none_run Both to i u m b = b
  none_run Left to i u m b = b
  none_run Right to i u m b = b

  next_run : (mode : Mode) (i c : ℕ) (m : Memories)
      → run_on os d at n z mode (i + 1) c (run_on os d at n z mode i 1 m) ≡ run_on os d at n z mode i (suc c) m
  next_run Both i c m = refl
  next_run Left i c m = refl
  next_run Right i c m = refl

  module _ (mode : Mode) (to : Bool) (pl : Places) (are : ArePlaces mode pl)
      (ends : (s : Side) → runs mode s ≡ true → (at s).1 + n ≤ 65536)
      (same : mode ≡ Both → to ≡ true → at left ≡ at right) where
    spotted : RunSpotted mode to n pl at
    spotted = record {
      among = λ s r. subst (λ qs. Among (at s) qs) (sym (are s r)) (here []);
      ends = λ s r. subst (λ qs. EndBy 65536 n qs) (sym (are s r)) (ends s r, tt);
      one = same;
    }

    run_one : (c i : ℕ) → i + c ≤ n → (u : Underway N) (m : Memories) → Begins mode to u m
        → Begins mode to (write_run D mode to (Int U8) pl i c u) (run_on os d at n z mode i c m)
    run_one zero i l u m b = none_run mode to i u m b
    run_one (suc c) i l u m b =
        let v = write D mode to (Int U8) (moved_places i pl) u in
        let j = run_on os d at n z mode i 1 m in
        let r = room_for_one i c n l in
        let g = step_goes D laws to os d (Int U8) (moved_places i pl) (moved_at i at) (fill_datum os d at n z) u m j
        (known u m b.one) b.orders b.model mode b.waits (spotted_at mode to n pl at spotted d (Int U8) i r)
        (one_changed os d at n z mode i m) in
        subst (λ o. Begins mode to (write_run D mode to (Int U8) pl i (suc c) u) o) (next_run mode i c m)
        (run_one c (i + 1) (fewer i c n l) v j
        (begins_after mode to u v m j g (write_one mode to pl are ends same i r u m b) b))

    pub filled_one : (u : Underway N) (m : Memories) → Begins mode to u m
        → Begins mode to (write_run D mode to (Int U8) pl 0 n u) (filled_on os d at n z mode m)
    filled_one u m b =
        let e = eased_on d at n mode m in
        let v = write_run D mode to (Int U8) pl 0 n u in
        let r = run_on os d at n z mode 0 n e in
        let first : AreAlike u.known.model m e =
        subst (λ x. AreAlike x m e) (sym b.model) (eased_first d at n mode m) in
        let c = begins_after mode to u u m e (stays_like D all_blocks u m e (known u m b.one) first)
        (one_alike D u.known m e first b.one) b in
        let h = run_one n 0 (all_bytes n) u e c in
        let last : AreAlike v.known.model r (filled_on os d at n z mode m)
        = subst (λ x. AreAlike x r (filled_on os d at n z mode m)) (sym h.model)
        (filled_last os d at n z mode m some) in
        begins_after mode to v v r (filled_on os d at n z mode m)
        (stays_like D all_blocks v r (filled_on os d at n z mode m) (known v r h.one) last)
        (one_alike D v.known r (filled_on os d at n z mode m) last h.one) h
