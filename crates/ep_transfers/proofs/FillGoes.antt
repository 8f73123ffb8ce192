-- What is known after a place is filled holds of the memories in which each running machine has filled its own.
use Rattle.std.proofs.Common.{◌≡◌, ℕ, zero, suc, ◌+◌, ◌<◌, ◌≤◌, ℤ, Bool, true, false, if◌then◌else◌, List, [], ◌∷◌}
use Rattle.ep_transfers.proofs.Filled.{all_bytes}
use Rattle.std.proofs.Common.{refl, sym, ◌∙◌, subst}
use Rattle.ep_int.specs.declared.types.IntType.TheVariants.{U8}
use Rattle.ep_int.specs.declared.types.Model.{Model}
use Rattle.ep_int.specs.declared.types.Order.{Order}
use Rattle.ep_int.specs.declared.types.Scalar.TheVariants.{Int}
use Rattle.ep_domain.specs.Domain.{Ops}
use Rattle.ep_cells.specs.Forms.{form_after}
use Rattle.ep_cells.specs.Weaken.{fate_by_weak_write}
use Rattle.ep_cells.specs.Meaning.{Memories}
use Rattle.ep_core.specs.Runs.{Side, left, right}
use Rattle.ep_equalities.specs.declared.pair.Mode.{Mode}
use Rattle.ep_equalities.specs.declared.pair.Mode.TheVariants.{Both, Left, Right}
use Rattle.ep_evaluation.specs.Given.{alone, cells_of, runs}
use Rattle.ep_cell_ranges.specs.Ranges.{blurred_at}
use Rattle.ep_cell_ranges.specs.Spots.{Spot}
use Rattle.ep_cell_ranges.specs.Moves.{place_at}
use Rattle.ep_cell_ranges.specs.Sound.{unchanged, changed, MayBothBeChanged}
use Rattle.ep_cell_ranges.specs.Laws.{BlurLaws}
use Rattle.ep_evaluation.proofs.Spots.{Among}
use Rattle.ep_transfers.specs.Places.{Places, at_side, is_one as has_one, on_all, moved_places}
use Rattle.ep_transfers.specs.Writes.{Underway, underway, formed, write, write_run, blurred_side}
use Rattle.ep_transfers.specs.Transfers.{fill_side, fill_sides, fill_places}
use Rattle.ep_transfers.specs.Laws.{CellLaws}
use Rattle.ep_transfers.proofs.Changes.{IsOne, here, there, IsKnown, Goes, stays, then_goes}
use Rattle.ep_transfers.proofs.Rooms.{EndBy}
use Rattle.ep_transfers.proofs.Assigned.{is_one}
use Rattle.ep_transfers.proofs.Alike.{AreAlike, stays_like}
use Rattle.ep_transfers.proofs.RunSteps.{all_blocks, Waits, waits_after, step_goes, RunSpotted, moved_at}
use Rattle.ep_transfers.proofs.RunSteps.{spotted_at}
use Rattle.ep_transfers.proofs.RunWaits.{alone_waits, not_both}
use Rattle.ep_transfers.proofs.Eased.{eased_on, eased_first}
use Rattle.ep_transfers.proofs.Basics.{room_for_one, fewer}
use Rattle.ep_transfers.proofs.Filled.{fill_broken, fill_bytes, filled_on, run_on, filled_last, fill_datum, one_changed}

module _ {N : Type 0} (D : Ops N) (laws : CellLaws D) (blur : BlurLaws D) (os : Order × Order) (d : Model)
    (at : Side → Spot) (n : ℕ) (some : 0 < n) (z : Side → ℤ) where
  -- a state of these machines, that holds of these memories, in which the bytes wait
  record Begins (mode : Mode) (to : Bool) (u : Underway N) (m : Memories) : Type 0 where
    known : IsKnown D u.known m
    orders : u.known.orders ≡ os
    model : u.known.model ≡ d
    waits : Waits D mode to (Int U8) u m (fill_datum os d at n z)

  begins_after : (mode : Mode) (to : Bool) (u v : Underway N) (m j : Memories) → Goes D all_blocks u v m j
      → Begins mode to u m → Begins mode to v j
  begins_after mode to u v m j g b = record {
    known = g.change.after;
    orders = g.change.orders ∙ b.orders;
    model = g.change.model ∙ b.model;
    waits = waits_after D all_blocks mode to (Int U8) u v m j (fill_datum os d at n z) g b.waits;
  }

  -- ---- in turn

  none_run : (mode : Mode) (i : ℕ) (u : Underway N) (m : Memories) → IsKnown D u.known m
      → Goes D all_blocks u u m (run_on os d at n z mode i 0 m)
  none_run Both i u m k = stays D all_blocks u m m k (record { left = λ b j. refl; right = λ b j. refl })
  none_run Left i u m k = stays D all_blocks u m m k (record { left = λ b j. refl; right = λ b j. refl })
  none_run Right i u m k = stays D all_blocks u m m k (record { left = λ b j. refl; right = λ b j. refl })

  next_run : (mode : Mode) (i c : ℕ) (m : Memories)
      → run_on os d at n z mode (i + 1) c (run_on os d at n z mode i 1 m) ≡ run_on os d at n z mode i (suc c) m
  next_run Both i c m = refl
  next_run Left i c m = refl
  next_run Right i c m = refl

  module _ (mode : Mode) (to : Bool) (pl : Places) (sp : RunSpotted mode to n pl at) where
    run_goes : (c i : ℕ) → i + c ≤ n → (u : Underway N) (m : Memories) → Begins mode to u m
        → Goes D all_blocks u (write_run D mode to (Int U8) pl i c u) m (run_on os d at n z mode i c m)
    run_goes zero i l u m b = none_run mode i u m b.known
    run_goes (suc c) i l u m b =
        let v = write D mode to (Int U8) (moved_places i pl) u in
        let j = run_on os d at n z mode i 1 m in
        let g = step_goes D laws to os d (Int U8) (moved_places i pl) (moved_at i at) (fill_datum os d at n z) u m j
        b.known b.orders b.model mode b.waits
        (spotted_at mode to n pl at sp d (Int U8) i (room_for_one i c n l)) (one_changed os d at n z mode i m) in
        subst (λ o. Goes D all_blocks u (write_run D mode to (Int U8) pl i (suc c) u) m o) (next_run mode i c m)
        (then_goes D all_blocks u v (write_run D mode to (Int U8) pl (i + 1) c v) m j
        (run_on os d at n z mode (i + 1) c j) g
        (run_goes c (i + 1) (fewer i c n l) v j (begins_after mode to u v m j g b)))

    -- with all pointers that lie partly in the place undefined at once
    whole_goes : (u : Underway N) (m : Memories) → Begins mode to u m
        → Goes D all_blocks u (write_run D mode to (Int U8) pl 0 n u) m (filled_on os d at n z mode m)
    whole_goes u m b =
        let e = eased_on d at n mode m in
        let v = write_run D mode to (Int U8) pl 0 n u in
        let r = run_on os d at n z mode 0 n e in
        let f = stays_like D all_blocks u m e b.known
        (subst (λ x. AreAlike x m e) (sym b.model) (eased_first d at n mode m)) in
        let g = run_goes n 0 (all_bytes n) u e (begins_after mode to u u m e f b) in
        let k = begins_after mode to u v e r g (begins_after mode to u u m e f b) in
        then_goes D all_blocks u v v m r (filled_on os d at n z mode m)
        (then_goes D all_blocks u u v m e r f g)
        (stays_like D all_blocks v r (filled_on os d at n z mode m) k.known
        (subst (λ x. AreAlike x r (filled_on os d at n z mode m)) (sym k.model) (filled_last os d at n z mode m some)))

  -- ---- at one of several

  may_fill : (s : Side) (m : Memories)
      → MayBothBeChanged d (place_at (cells_of s) (at s) n) m (filled_on os d at n z (alone s) m)
  may_fill left m = record {
    left = changed refl (fill_broken left d (at left) n (z left) m.left)
        (fill_bytes left d (at left) n (z left) m.left);
    right = unchanged (λ b q. refl);
  }
  may_fill right m = record {
    left = unchanged (λ b q. refl);
    right = changed refl (fill_broken right d (at right) n (z right) m.right)
        (fill_bytes right d (at right) n (z right) m.right);
  }

  may_stay : (s : Side) (q : Spot) (m : Memories) → MayBothBeChanged d (place_at (cells_of s) q n) m m
  may_stay s q m = record { left = unchanged (λ b q. refl); right = unchanged (λ b q. refl) }

  abbrev blurred : Side → Spot → Underway N → Underway N
  blurred s q u =
      underway (blurred_at D (place_at (cells_of s) q n) u.known)
      (formed (form_after (fate_by_weak_write (place_at (cells_of s) q n))) u.item)

  one_blurred : (s : Side) (q : Spot) (u : Underway N) (m j : Memories) → IsKnown D u.known m → u.known.model ≡ d
      → MayBothBeChanged d (place_at (cells_of s) q n) m j → Goes D all_blocks u (blurred s q u) m j
  one_blurred s q u m j k e c =
      let p = place_at (cells_of s) q n in
      let r : MayBothBeChanged u.known.model p m j = subst (λ x. MayBothBeChanged x p m j) (sym e) c in
      record {
        reform = form_after (fate_by_weak_write p);
        item = refl;
        change = record {
          orders = refl;
          model = refl;
          after = record {
            cells = blur.cells u.known p k.cells;
            holds = blur.holds u.known p k.cells m j k.holds r;
          };
          fits = λ w f h. blur.fits u.known p w f h;
          numbers = λ w x f h y. blur.numbers u.known p m j r w x f h y;
        };
        elsewhere = λ c off t. absurd (cc);
      }

  none_blurred : (s : Side) (qs : List Spot) (u : Underway N) (m : Memories) → IsKnown D u.known m
      → u.known.model ≡ d → Goes D all_blocks u (blurred_side D (cells_of s) n qs u) m m
  none_blurred s [] u m k e = stays D all_blocks u m m k (record { left = λ b j. refl; right = λ b j. refl })
  none_blurred s (q ∷ qs) u m k e =
      let v = blurred s q u in
      let g = one_blurred s q u m m k e (may_stay s q m) in
      then_goes D all_blocks u v (blurred_side D (cells_of s) n qs v) m m m g
      (none_blurred s qs v m g.change.after (g.change.model ∙ e))

  each_blurred : (s : Side) (qs : List Spot) → IsOne (at s) qs → (u : Underway N) (m : Memories)
      → IsKnown D u.known m → u.known.model ≡ d
      → Goes D all_blocks u (blurred_side D (cells_of s) n qs u) m (filled_on os d at n z (alone s) m)
  each_blurred s _ (here qs) u m k e =
      let v = blurred s (at s) u in
      let j = filled_on os d at n z (alone s) m in
      let g = one_blurred s (at s) u m j k e (may_fill s m) in
      then_goes D all_blocks u v (blurred_side D (cells_of s) n qs v) m j j g
      (none_blurred s qs v j g.change.after (g.change.model ∙ e))
  each_blurred s _ (there q qs one) u m k e =
      let v = blurred s q u in
      let g = one_blurred s q u m m k e (may_stay s q m) in
      then_goes D all_blocks u v (blurred_side D (cells_of s) n qs v) m m (filled_on os d at n z (alone s) m) g
      (each_blurred s qs one v m g.change.after (g.change.model ∙ e))

  -- ---- a side

  alone_spotted : (mode : Mode) (to : Bool) (pl : Places) (s : Side) → runs mode s ≡ true
      → RunSpotted mode to n pl at → RunSpotted (alone s) false n pl at
  alone_spotted mode to pl left r sp = record {
    among = λ i e. by_side i e;
    ends = λ i e. end_side i e;
    one = λ e. absurd (not_both left e);
  }
    where
      by_side : (i : Side) → runs (alone left) i ≡ true → Among (at i) (at_side pl i)
      by_side left e = sp.among left r
      by_side right e = absurd (cc)

      end_side : (i : Side) → runs (alone left) i ≡ true → EndBy 65536 n (at_side pl i)
      end_side left e = sp.ends left r
      end_side right e = absurd (cc)
  alone_spotted mode to pl right r sp = record {
    among = λ i e. by_side i e;
    ends = λ i e. end_side i e;
    one = λ e. absurd (not_both right e);
  }
    where
      by_side : (i : Side) → runs (alone right) i ≡ true → Among (at i) (at_side pl i)
      by_side left e = absurd (cc)
      by_side right e = sp.among right r

      end_side : (i : Side) → runs (alone right) i ≡ true → EndBy 65536 n (at_side pl i)
      end_side left e = absurd (cc)
      end_side right e = sp.ends right r

  module _ (sizes : List ℕ) (mode : Mode) (to : Bool) (pl : Places) (sp : RunSpotted mode to n pl at) where
    side_by : (s : Side) → runs mode s ≡ true → (u : Underway N) (m : Memories) → Begins (alone s) false u m
        → (t : Bool)
        → Goes D all_blocks u
        (if t then write_run D (alone s) false (Int U8) pl 0 n u else blurred_side D (cells_of s) n (at_side pl s) u)
        m (filled_on os d at n z (alone s) m)
    side_by s r u m b true = whole_goes (alone s) false pl (alone_spotted mode to pl s r sp) u m b
    side_by s r u m b false =
        each_blurred s (at_side pl s) (is_one (at s) (at_side pl s) (sp.among s r)) u m b.known b.model

    side_goes : (s : Side) → runs mode s ≡ true → (u : Underway N) (m : Memories) → Begins (alone s) false u m
        → Goes D all_blocks u (fill_side D sizes mode n s pl u) m (filled_on os d at n z (alone s) m)
    side_goes s r u m b = side_by s r u m b (has_one (at_side pl s))

  alone_begins : (to : Bool) (u : Underway N) (m : Memories) (s : Side) → Begins Both to u m
      → Begins (alone s) false u m
  alone_begins to u m s b = record {
    known = b.known;
    orders = b.orders;
    model = b.model;
    waits = alone_waits D to (Int U8) u m (fill_datum os d at n z) s b.waits;
  }

  less_begins : (to : Bool) (u : Underway N) (m : Memories) (s : Side) → Begins (alone s) to u m
      → Begins (alone s) false u m
  less_begins to u m s b = record {
    known = b.known;
    orders = b.orders;
    model = b.model;
    waits = record { side = b.waits.side; both = λ e. absurd (not_both s e) };
  }

  module _ (sizes : List ℕ) (to : Bool) (pl : Places) where
    sides_go : (mode : Mode) → RunSpotted mode to n pl at → (u : Underway N) (m : Memories) → Begins mode to u m
        → Goes D all_blocks u (fill_sides D sizes mode n mode pl u) m (filled_on os d at n z mode m)
    sides_go Both sp u m b =
        let v = fill_side D sizes Both n left pl u in
        let j = filled_on os d at n z Left m in
        let g = side_goes sizes Both to pl sp left refl u m (alone_begins to u m left b) in
        let c = begins_after Both to u v m j g b in
        then_goes D all_blocks u v (fill_side D sizes Both n right pl v) m j (filled_on os d at n z Both m) g
        (side_goes sizes Both to pl sp right refl v j (alone_begins to v j right c))
    sides_go Left sp u m b = side_goes sizes Left to pl sp left refl u m (less_begins to u m left b)
    sides_go Right sp u m b = side_goes sizes Right to pl sp right refl u m (less_begins to u m right b)

    places_by : (mode : Mode) → RunSpotted mode to n pl at → (u : Underway N) (m : Memories) → Begins mode to u m
        → (t : Bool)
        → Goes D all_blocks u
        (if t then write_run D mode to (Int U8) pl 0 n u else fill_sides D sizes mode n mode pl u) m
        (filled_on os d at n z mode m)
    places_by mode sp u m b true = whole_goes mode to pl sp u m b
    places_by mode sp u m b false = sides_go mode sp u m b

    pub places_go : (mode : Mode) → RunSpotted mode to n pl at → (u : Underway N) (m : Memories)
        → IsKnown D u.known m → u.known.orders ≡ os → u.known.model ≡ d
        → Waits D mode to (Int U8) u m (fill_datum os d at n z)
        → Goes D all_blocks u (fill_places D sizes mode n to pl u) m (filled_on os d at n z mode m)
    places_go mode sp u m k o e w =
        places_by mode sp u m (record { known = k; orders = o; model = e; waits = w })
        (on_all mode (λ s. has_one (at_side pl s)))
