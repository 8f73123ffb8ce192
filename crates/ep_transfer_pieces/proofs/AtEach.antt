-- What waits to be written at each of several places, and what it comes to.
use Rattle.std.proofs.Common.{◌≡◌, ℕ, ◌+◌, ◌≤◌, Bool, true, false, ◌&&◌, ◌||◌, nat_eq, nat_lt, cond, List}
use Rattle.std.proofs.Common.{[], ◌∷◌, ◌++◌, None, refl, sym, ap, ◌∙◌, subst, arith}
use Rattle.std.proofs.lemmas.Bool.Decides.{nat_tests}
use Rattle.ep_int.specs.declared.types.Model.{Model}
use Rattle.ep_int.specs.declared.types.Scalar.{Scalar}
use Rattle.ep_int.specs.Types.{size_of}
use Rattle.ep_bitslice.specs.declared.cell.Side.TheVariants.{Shared}
use Rattle.ep_domain.specs.Domain.{Ops}
use Rattle.ep_cells.specs.declared.cell.Cell.{Cell}
use Rattle.ep_cells.specs.Forms.{common_form}
use Rattle.ep_cells.specs.States.{Known, Each, IsCell}
use Rattle.ep_cell_ranges.specs.Moves.{weakened_each}
use Rattle.ep_cell_ranges.specs.Ranges.{Form}
use Rattle.ep_cell_ranges.specs.Spots.{Spot, is_same_spot, spot_before, put_spot, all_spots}
use Rattle.ep_equalities.specs.declared.pair.Mode.{Mode}
use Rattle.ep_equalities.specs.declared.pair.Mode.TheVariants.{Both, Left, Right}
use Rattle.ep_state_rows.specs.Rows.{further, each_weakened, IsRow, row_bytes, FitAt, AreSpaced}
use Rattle.ep_state_rows.proofs.Beyond.{spaced_less}
use Rattle.ep_transfers.specs.Places.{Places, moved_spots, moved_spot, moved_places}
use Rattle.ep_transfers.specs.Writes.{Item, Underway, underway, shared_cell, weakly, weakly_each, write_now}
use Rattle.ep_transfers.specs.Writes.{write_both, write_same, write_shared_each}
use Rattle.ep_transfer_places.specs.Room.{HaveRoom, BothHaveRoom}
use Rattle.ep_transfer_writes.proofs.Placing.{all_room}
use Rattle.ep_transfer_writes.specs.Running.{item_cell}
use Rattle.ep_transfer_writes.specs.Waiting.{item_view, CanStand}
use Rattle.ep_transfer_pieces.specs.declared.puts.Put.{Put}
use Rattle.ep_transfer_pieces.specs.declared.several.Weakly.{Weakly}
use Rattle.ep_transfer_pieces.specs.Puts.{after_put, FitsPut}
use Rattle.ep_transfer_pieces.specs.Several.{are_many, AreSeveral, is_together_by, is_together, StandsAt, reached}
use Rattle.ep_transfer_pieces.specs.Several.{IsReady, Goes, Follows}

and_none : (z : ℕ) → z + 0 ≡ z
and_none z = omega arith

-- ---- places further on

less_moved : (a b o : ℕ) → nat_lt (a + o) (b + o) ≡ nat_lt a b
less_moved a b o = grind (arith, nat_tests)

same_moved : (a b o : ℕ) → nat_eq (a + o) (b + o) ≡ nat_eq a b
same_moved a b o = grind (arith, nat_tests)

put_moved : (o : ℕ) (q : Spot) (xs : List Spot)
    → put_spot (moved_spot o q) (moved_spots o xs) ≡ moved_spots o (put_spot q xs)
put_moved o q [] = refl
put_moved o q (x ∷ xs) =
    ap (λ t. cond (nat_lt q.0 x.0 || (nat_eq q.0 x.0 && t)) (moved_spot o q ∷ moved_spots o (x ∷ xs))
    (cond (is_same_spot (moved_spot o q) (moved_spot o x)) (moved_spots o (x ∷ xs))
    (moved_spot o x ∷ put_spot (moved_spot o q) (moved_spots o xs)))) (less_moved q.1 x.1 o)
    ∙ ap (λ t. cond (spot_before q x) (moved_spot o q ∷ moved_spots o (x ∷ xs))
    (cond (nat_eq q.0 x.0 && t) (moved_spots o (x ∷ xs))
    (moved_spot o x ∷ put_spot (moved_spot o q) (moved_spots o xs)))) (same_moved q.1 x.1 o)
    ∙ ap (λ l. cond (spot_before q x) (moved_spots o (q ∷ x ∷ xs))
    (cond (is_same_spot q x) (moved_spots o (x ∷ xs)) (moved_spot o x ∷ l))) (put_moved o q xs)
    ∙ by (spot_before q x) (is_same_spot q x)
  where
    by : (s t : Bool) → cond s (moved_spots o (q ∷ x ∷ xs))
        (cond t (moved_spots o (x ∷ xs)) (moved_spots o (x ∷ put_spot q xs)))
        ≡ moved_spots o (cond s (q ∷ x ∷ xs) (cond t (x ∷ xs) (x ∷ put_spot q xs)))
    by true t = refl
    by false true = refl
    by false false = refl

all_moved : (o : ℕ) (qs rs : List Spot)
    → all_spots (moved_spots o qs) (moved_spots o rs) ≡ moved_spots o (all_spots qs rs)
all_moved o [] rs = refl
all_moved o (q ∷ qs) rs =
    ap (put_spot (moved_spot o q)) (all_moved o qs rs) ∙ put_moved o q (all_spots qs rs)

pub several_is : (joint : Bool) (to : Places) (n : ℕ) (qs : List Spot) → joint ≡ true → are_many to.left ≡ true
    → qs ≡ all_spots to.left to.right → AreSpaced n qs → BothHaveRoom n to → AreSeveral joint to n qs
several_is joint to n qs j m a s r = record {
  same_to = j;
  many = m;
  all = a;
  spaced = s;
  room = subst (HaveRoom n) (sym a) (all_room n to.left to.right r.left r.right);
}

-- ---- a write of both sides

module _ {N : Type 0} (D : Ops N) where
  known_is : (c : Spot → Cell N) (qs : List Spot) (u : Underway N)
      → (weakly_each D c true qs u).known ≡ weakened_each D c true qs u.known
  known_is c [] u = refl
  known_is c (q ∷ qs) u = known_is c qs (weakly D (c q) true u)

  further_is : (w : Scalar) (i : Item N) (f : Form) (o : ℕ) (qs : List Spot) (k : Known N)
      → weakened_each D (shared_cell D w i f) true (moved_spots o qs) k
      ≡ weakened_each D (further (shared_cell D w i f (0, o))) true qs k
  further_is w i f o [] k = refl
  further_is w i f o (q ∷ qs) k = further_is w i f o qs _

  many_is : (w : Scalar) (o : ℕ) (qs rs : List Spot) (u : Underway N) → are_many qs ≡ true
      → write_same D w (moved_spots o qs) (moved_spots o rs) u
      ≡ write_shared_each D w (all_spots (moved_spots o qs) (moved_spots o rs)) u
  many_is w o [] rs u h = absurd (let e : false ≡ true = h in cc)
  many_is w o (q ∷ []) rs u h = absurd (let e : false ≡ true = h in cc)
  many_is w o (q ∷ r ∷ qs) rs u h = refl

  -- the cell of it
  abbrev pub put_cell : Put N → Cell N
  put_cell p = item_cell D Shared p.what (item_view p.item) (0, p.offset)

  common_none : (f g : Form) → f ≡ None → common_form f g ≡ None
  common_none f g e = ap (λ z. common_form z g) e

  cell_is : (p : Put N) (d : Model) (n : ℕ) → FitsPut d n p
      → shared_cell D p.what (item_view p.item) None (0, p.offset) ≡ put_cell p
  cell_is p d n h =
      sym (ap (λ f. shared_cell D p.what (item_view p.item) f (0, p.offset))
      (common_none p.item.pair.left.form p.item.pair.right.form h.left_form))

  together_is : (m : Mode) (joint : Bool) (to : Places) (w : Scalar) (o : ℕ) (i : Item N) (qs : List Spot)
      (j : Known N) → joint ≡ true → are_many to.left ≡ true → qs ≡ all_spots to.left to.right
      → is_together_by m i.same ≡ true
      → write_now D m joint w (moved_places o to) i j
      ≡ weakened_each D (further (shared_cell D w i None (0, o))) true qs j
  together_is Left joint to w o i qs j e many all h = absurd (let f : false ≡ true = h in cc)
  together_is Right joint to w o i qs j e many all h = absurd (let f : false ≡ true = h in cc)
  together_is Both joint to w o i qs j e many all h =
      let u = underway j i in
      ap (λ t. (write_both D (t && i.same) w (moved_places o to) u).known) e
      ∙ ap (λ t. (write_both D t w (moved_places o to) u).known) h
      ∙ ap (λ (v : Underway N). v.known) (many_is w o to.left to.right u many)
      ∙ known_is (shared_cell D w i None) (all_spots (moved_spots o to.left) (moved_spots o to.right)) u
      ∙ ap (λ l. weakened_each D (shared_cell D w i None) true l j)
      (all_moved o to.left to.right ∙ sym (ap (moved_spots o) all))
      ∙ further_is w i None o qs j

  put_is : (joint : Bool) (to : Places) (n : ℕ) (qs : List Spot) (p : Put N) (d : Model) (j : Known N)
      → AreSeveral joint to n qs → is_together p ≡ true → FitsPut d n p
      → after_put D joint to p j ≡ weakened_each D (further (put_cell p)) true qs j
  put_is joint to n qs p d j s h f =
      together_is p.mode joint to p.what p.offset (item_view p.item) qs j s.same_to s.many s.all h
      ∙ ap (λ c. weakened_each D (further c) true qs j) (cell_is p d n f)

  -- ---- it stands there

  fit_further : (d : Model) (c : Cell N) (n : ℕ) (qs : List Spot) → IsCell d c → c.offset + size_of d c.what ≤ n
      → HaveRoom n qs → FitAt d (c ∷ []) qs
  fit_further d c n [] h l r = tt
  fit_further d c n (q ∷ qs) h l r = (
    (
      record {
        fits = record {
          sort = h.fits.sort;
          undefined = h.fits.undefined;
          last = let i = r.0 in omega (arith, i, l);
        };
        rising = h.rising;
      },
      tt,
    ),
    fit_further d c n qs h l r.1,
  )

  pub put_stands : (k : Known N) (joint : Bool) (to : Places) (n : ℕ) (qs : List Spot) (p : Put N) (c : Cell N)
      → AreSeveral joint to n qs → FitsPut k.model n p → c ≡ put_cell p → CanStand k c
      → StandsAt k.model n qs p.offset c
  put_stands k joint to n qs p c s f e h =
      let o : c.offset ≡ p.offset = ap (λ (z : Cell N). z.offset) e in
      let w : c.what ≡ p.what = ap (λ (z : Cell N). z.what) e in
      let l : p.offset + size_of k.model c.what ≤ n =
      subst (λ z. p.offset + size_of k.model z ≤ n) (sym w) f.room in
      record {
        side = ap (λ (z : Cell N). z.side) e;
        offset = o;
        within = l;
        fits = fit_further k.model c n qs h.cell
            (subst (λ z. z + size_of k.model c.what ≤ n) (sym o) l) s.room;
      }

  pub put_size : (d e : Model) (p : Put N) (c : Cell N) (z : ℕ) → c ≡ put_cell p → e ≡ d
      → z ≡ size_of e p.what → z ≡ size_of d c.what
  put_size d e p c z f m g =
      g ∙ ap (λ w. size_of w p.what) m ∙ sym (ap (size_of d) (ap (λ (x : Cell N). x.what) f))

  pub put_follows : (joint : Bool) (to : Places) (n : ℕ) (qs : List Spot) (p : Put N) (c : Cell N) (old new : Weakly N)
      → AreSeveral joint to n qs → is_together p ≡ true → FitsPut old.state.model n p → c ≡ put_cell p
      → Goes D n qs c old new → Follows D joint to n qs p old new
  put_follows joint to n qs p c old new s h f e g = record {
    value = g.value ∙ ap (λ x. weakened_each D (further x) true qs (reached D qs old)) e
        ∙ sym (put_is joint to n qs p old.state.model (reached D qs old) s h f);
    ready = g.ready;
    model = g.model;
  }

  pub all_follow : (joint : Bool) (to : Places) (n : ℕ) (qs : List Spot) (p : Put N) (old new : Weakly N)
      (before after : Known N) → before ≡ reached D qs old → before.model ≡ old.state.model
      → after ≡ after_put D joint to p before → after.model ≡ before.model → reached D qs new ≡ after
      → IsReady n qs new → new.state.model ≡ after.model → Follows D joint to n qs p old new
  all_follow joint to n qs p old new before after e m f g h r o = record {
    value = h ∙ f ∙ ap (after_put D joint to p) e;
    ready = r;
    model = o ∙ g ∙ m;
  }

  -- ---- a row

  fit_none : (d : Model) (qs : List Spot) → FitAt {N = N} d [] qs
  fit_none d [] = tt
  fit_none d (q ∷ qs) = (tt, fit_none d qs)

  each_more : (P : Cell N → Type 0) (cs : List (Cell N)) (c : Cell N) → Each P cs → P c → Each P (cs ++ c ∷ [])
  each_more P [] c h p = (p, tt)
  each_more P (x ∷ cs) c h p = (h.0, each_more P cs c h.1 p)

  fit_more : (d : Model) (cs : List (Cell N)) (c : Cell N) (qs : List Spot) → FitAt d cs qs → FitAt d (c ∷ []) qs
      → FitAt d (cs ++ c ∷ []) qs
  fit_more d cs c [] h f = tt
  fit_more d cs c (q ∷ qs) h f =
      (each_more (λ x. IsCell d (further x q)) cs c h.0 f.0.0, fit_more d cs c qs h.1 f.1)

  row_more : (d : Model) (a e : ℕ) (cs : List (Cell N)) (c : Cell N) → IsRow d a cs → e ≡ a + row_bytes d cs
      → c.side ≡ Shared → c.offset ≡ e → IsRow d a (cs ++ c ∷ [])
  row_more d a e [] c r h s o = (s, o ∙ h ∙ and_none a, tt)
  row_more d a e (x ∷ cs) c r h s o =
      (r.0, r.1, row_more d (a + size_of d x.what) e cs c r.2 (omega (arith, h)) s o)

  more_bytes : (d : Model) (cs : List (Cell N)) (c : Cell N)
      → row_bytes d (cs ++ c ∷ []) ≡ row_bytes d cs + size_of d c.what
  more_bytes d [] c = omega arith
  more_bytes d (x ∷ cs) c = let e = more_bytes d cs c in omega (arith, e)

  one_more : (qs : List Spot) (cs : List (Cell N)) (c : Cell N) (k : Known N)
      → each_weakened D qs (cs ++ c ∷ []) k ≡ weakened_each D (further c) true qs (each_weakened D qs cs k)
  one_more qs [] c k = refl
  one_more qs (x ∷ cs) c k = one_more qs cs c (weakened_each D (further x) true qs k)

  pub none_reached : (qs : List Spot) (cs : List (Cell N)) (k : Known N) → cs ≡ [] → each_weakened D qs cs k ≡ k
  none_reached qs cs k e = ap (λ xs. each_weakened D qs xs k) e

  pub none_ready : (n : ℕ) (qs : List Spot) (p : Weakly N) → p.start ≡ 0 → p.bytes ≡ 0 → p.cells.items ≡ []
      → IsReady n qs p
  none_ready n qs p a b e = record {
    row = subst (IsRow p.state.model p.start) (sym e) tt;
    bytes = b ∙ sym (ap (row_bytes p.state.model) e);
    within = omega (arith, a, b);
    fits = subst (λ cs. FitAt p.state.model cs qs) (sym e) (fit_none p.state.model qs);
  }

  pub less_spaced : (n a b : ℕ) (qs : List Spot) → a + b ≤ n → AreSpaced n qs → AreSpaced (a + b) qs
  less_spaced n a b qs l h = spaced_less n (a + b) qs l h

  -- ---- a cell more

  pub cell_goes : (n : ℕ) (qs : List Spot) (old new : Weakly N) (c : Cell N) → IsReady n qs old
      → StandsAt old.state.model n qs (old.start + old.bytes) c → new.state ≡ old.state → new.start ≡ old.start
      → new.bytes ≡ old.bytes + size_of old.state.model c.what → new.cells.items ≡ old.cells.items ++ c ∷ []
      → Goes D n qs c old new
  cell_goes n qs old new c r h e i j l =
      let d = old.state.model in
      let m : new.state.model ≡ d = ap (λ (z : Known N). z.model) e in
      let w = h.within in
      let row : IsRow d old.start (old.cells.items ++ c ∷ []) =
      row_more d old.start (old.start + old.bytes) old.cells.items c r.row
      (ap (λ z. old.start + z) r.bytes) h.side h.offset in
      record {
        value = ap (λ z. each_weakened D qs new.cells.items z) e
            ∙ ap (λ xs. each_weakened D qs xs old.state) l ∙ one_more qs old.cells.items c old.state;
        ready = record {
          row = subst (λ z. IsRow z new.start new.cells.items) (sym m)
              (subst (λ z. IsRow d z new.cells.items) (sym i) (subst (IsRow d old.start) (sym l) row));
          bytes = j ∙ ap (λ z. z + size_of d c.what) r.bytes ∙ sym (more_bytes d old.cells.items c)
              ∙ sym (ap (row_bytes d) l) ∙ sym (ap (λ z. row_bytes z new.cells.items) m);
          within = omega (arith, i, j, w);
          fits = subst (λ z. FitAt z new.cells.items qs) (sym m)
              (subst (λ cs. FitAt d cs qs) (sym l) (fit_more d old.cells.items c qs r.fits h.fits));
        };
        model = m;
      }

  pub first_goes : (n a : ℕ) (qs : List Spot) (old new : Weakly N) (c : Cell N) (k : Known N)
      → StandsAt old.state.model n qs a c → k ≡ reached D qs old → k.model ≡ old.state.model → new.state ≡ k
      → new.start ≡ a → new.bytes ≡ size_of old.state.model c.what → new.cells.items ≡ c ∷ []
      → Goes D n qs c old new
  first_goes n a qs old new c k h e m s i j l =
      let d = old.state.model in
      let t : new.state.model ≡ d = ap (λ (z : Known N). z.model) s ∙ m in
      let w = h.within in
      record {
        value = ap (λ z. each_weakened D qs new.cells.items z) (s ∙ e)
            ∙ ap (λ xs. each_weakened D qs xs (reached D qs old)) l;
        ready = record {
          row = subst (λ z. IsRow z new.start new.cells.items) (sym t)
              (subst (λ z. IsRow d z new.cells.items) (sym i)
              (subst (IsRow d a) (sym l) (h.side, h.offset, tt)));
          bytes = j ∙ sym (and_none (size_of d c.what)) ∙ sym (ap (row_bytes d) l) ∙ sym (ap (λ z. row_bytes z new.cells.items) t);
          within = omega (arith, i, j, w);
          fits = subst (λ z. FitAt z new.cells.items qs) (sym t)
              (subst (λ cs. FitAt d cs qs) (sym l) h.fits);
        };
        model = t;
      }
