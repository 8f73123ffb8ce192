-- What is the same on both sides is written at places that have cells.
use Rattle.std.proofs.Common.{◌≡◌, ◌+◌, ◌^◌, ◌≤◌, Bool, true, false, ◌||◌, cond, ◌⊎◌, inl, inr, List, [], ◌∷◌, ℕ}
use Rattle.std.proofs.Common.{Option, Some, None, refl, sym, ap, ◌∙◌, subst}
use Rattle.std.specs.Option.{option_map_or}
use Rattle.std.proofs.lemmas.Bool.{and_parts, both_ways}
use Rattle.ep_int.specs.Memory.{contains}
use Rattle.ep_int.specs.declared.types.Order.{Order}
use Rattle.ep_int.specs.declared.types.Scalar.{Scalar}
use Rattle.ep_int.specs.declared.types.Scalar.TheVariants.{Int as Number, Pointer}
use Rattle.ep_int.specs.Types.{size_of}
use Rattle.ep_bitslice.specs.declared.cell.Side.TheVariants.{Shared}
use Rattle.ep_domain.specs.Domain.{Ops, Lawful}
use Rattle.ep_cells.specs.declared.cell.Value.{Value}
use Rattle.ep_cells.specs.declared.cell.Value.TheVariants.{Num, Ptr}
use Rattle.ep_cells.specs.Cells.{is_same_side, is_same_place}
use Rattle.ep_cells.specs.Forms.{have_same_form, common_form}
use Rattle.ep_cells.specs.States.{Known, AreAlike, IsOfSort, HasRisingBlocks}
use Rattle.ep_cell_ranges.specs.Follow.{FormFits}
use Rattle.ep_cell_ranges.specs.Ranges.{Form}
use Rattle.ep_cell_ranges.specs.Spots.{Spot, is_same_spot, spot_before, put_spot, all_spots}
use Rattle.ep_core.specs.Program.{Program}
use Rattle.ep_core.specs.Runs.{Side}
use Rattle.ep_core.specs.WellFormed.{is_named}
use Rattle.ep_equalities.specs.declared.pair.Mode.TheVariants.{Both}
use Rattle.ep_transfers.specs.Places.{Places}
use Rattle.ep_transfers.specs.Writes.{Item, Underway, underway, lacks, new_cell, value_of_same, write_shared}
use Rattle.ep_transfers.specs.Writes.{write_shared_each, write_same, write_both, weakly, weakly_each, write_now}
use Rattle.ep_tame_laws.specs.Tamely.{is_result_of_main}
use Rattle.ep_tame_places.specs.Places.{PointsTo}
use Rattle.ep_tame_places.specs.Laws.{PlaceLaws}
use Rattle.ep_tame_accesses.specs.Laws.{EachSpot}
use Rattle.ep_tame_cells.specs.Shape.{HasCellAt}
use Rattle.ep_tame_cells.proofs.Over.{same_alike}
use Rattle.ep_tame_states.specs.States.{ValueHas, IsInBlock, IsSure, IsGood}
use Rattle.ep_tame_writes.specs.Laws.{CanStand}
use Rattle.ep_tame_writes.specs.Stands.{HasPlace, MayStand, IsOfCells, CanStay, AreSure}
use Rattle.ep_tame_writes.proofs.Written.{strong_good, weak_good}

-- ---- places of both sides

put_each : (P : Spot → Type 0) (q : Spot) (rs : List Spot) → P q → EachSpot P rs → EachSpot P (put_spot q rs)
put_each P q [] h k = (h, tt)
put_each P q (r ∷ rs) h k = at (spot_before q r) (is_same_spot q r) (put_each P q rs h k.1)
  where
    at : (a b : Bool) → EachSpot P (put_spot q rs)
        → EachSpot P (cond a (q ∷ r ∷ rs) (cond b (r ∷ rs) (r ∷ put_spot q rs)))
    at true b rest = (h, k)
    at false true rest = k
    at false false rest = (k.0, rest)

all_each : (P : Spot → Type 0) (qs rs : List Spot) → EachSpot P qs → EachSpot P rs → EachSpot P (all_spots qs rs)
all_each P [] rs h k = k
all_each P (q ∷ qs) rs h k = put_each P q (all_spots qs rs) h.0 (all_each P qs rs h.1 k)

pub each_spot_as : (P Q : Spot → Type 0) → ((q : Spot) → P q → Q q) → (qs : List Spot) → EachSpot P qs
    → EachSpot Q qs
each_spot_as P Q go [] h = tt
each_spot_as P Q go (q ∷ qs) h = (go q h.0, each_spot_as P Q go qs h.1)

module _ {N : Type 0} (D : Ops N) where
  -- ---- the value of both

  same_sort : (w : Scalar) (l r : Option (Value N)) → IsOfSort w l → IsOfSort w r → IsOfSort w (value_of_same D l r)
  same_sort w None r h k = k
  same_sort w (Some l) None h k = h
  same_sort (Number t) (Some (Num a)) (Some (Num b)) h k = met (D.meet a b)
    where
      met : (o : Option N) → IsOfSort (Number t) (option_map_or (λ c. Some (Num c)) o (Some (Num a)))
      met None = tt
      met (Some c) = tt
  same_sort Pointer (Some (Num a)) (Some v) h k = absurd h
  same_sort (Number t) (Some (Num a)) (Some (Ptr r)) h k = h
  same_sort (Number t) (Some (Ptr q)) (Some v) h k = absurd h
  same_sort Pointer (Some (Ptr q)) (Some v) h k = h

  -- what holds of values and of each number
  same_has : (P : Option (Value N) → Type 0) → ((n : N) → P (Some (Num n))) → (l r : Option (Value N)) → P l → P r
      → P (value_of_same D l r)
  same_has P numbers None r h k = k
  same_has P numbers (Some l) None h k = h
  same_has P numbers (Some (Num a)) (Some (Num b)) h k = met (D.meet a b)
    where
      met : (o : Option N) → P (option_map_or (λ c. Some (Num c)) o (Some (Num a)))
      met None = h
      met (Some c) = numbers c
  same_has P numbers (Some (Num a)) (Some (Ptr r)) h k = h
  same_has P numbers (Some (Ptr q)) (Some v) h k = h

  -- of two numbers it is one
  same_number : (l r : Option (Value N)) (a b : N) → l ≡ Some (Num a) → r ≡ Some (Num b)
      → (n : N) × (value_of_same D l r ≡ Some (Num n))
  same_number l r a b e f =
      let m = met (D.meet a b) in
      (m.0, ap (λ v. value_of_same D v r) e ∙ ap (value_of_same D (Some (Num a))) f ∙ m.1)
    where
      met : (o : Option N) → (n : N) × (option_map_or (λ c. Some (Num c)) o (Some (Num a)) ≡ Some (Num n))
      met None = (a, refl)
      met (Some c) = (c, refl)

  common_fits : (k : Known N) (w : Scalar) (f g : Form) → FormFits k.cells w f → FormFits k.cells w (common_form f g)
  common_fits k w f g h = at (have_same_form f g)
    where
      at : (b : Bool) → FormFits k.cells w (cond b f None)
      at true = h
      at false = tt

  module _ (p : Program) where
    same_of_cells : (w : Scalar) (l r : Option (Value N)) → IsOfCells D p w l → IsOfCells D p w r
        → IsOfCells D p w (value_of_same D l r)
    same_of_cells w l r a b = record {
      sort = same_sort w l r a.sort b.sort;
      rising = same_has HasRisingBlocks (λ n. tt) l r a.rising b.rising;
      inside = same_has (ValueHas (IsInBlock D p)) (λ n. tt) l r a.inside b.inside;
    }

    same_stands : (live : List ℕ) (q : Spot) (l r : Option (Value N)) → MayStand D p live l q → MayStand D p live r q
        → MayStand D p live (value_of_same D l r) q
    same_stands live q l r a b x there pt ty at target =
        same_has (ValueHas (PointsTo D p live ty)) (λ n. tt) l r (a x there pt ty at target) (b x there pt ty at target)

module _ {N : Type 0} (D : Ops N) (law : Lawful D) (p : Program) (places : PlaceLaws D p) (ord : Side → Order)
    (h : Known N) (live res : List ℕ) (w : Scalar) (Taken : Type 0) where
  abbrev Good : Known N → Type 0
  Good k = IsGood D p ord h live res k

  -- a place with a cell, where a value may stand
  abbrev pub Takes : Option (Value N) → Spot → Type 0
  Takes v q = HasPlace p live res Taken w q × MayStand D p live v q

  pub cell_at_place : (k : Known N) → Good k → (q : Spot) → HasPlace p live res Taken w q → HasCellAt p k.cells q.0 q.1 w
  cell_at_place k g q o = at o.held
    where
      at : (is_named p.types p.blocks live q.0 ≡ true)
          ⊎ ((contains q.0 res ≡ true) × (is_result_of_main p q.0 ≡ true → Taken)) → HasCellAt p k.cells q.0 q.1 w
      at (inl n) = g.named q.0 n o.of_block o.there q.1 o.inside w o.what
      at (inr n) = g.results q.0 n.0 o.of_block o.there q.1 o.inside w o.what

  module _ (v : Option (Value N)) (of_cells : IsOfCells D p w v) (maybe : Bool)
      (sure : Taken → (n : N) × (v ≡ Some (Num n)) × (maybe ≡ false)) where
    -- a number that is there, where the place is main's result
    main_takes : (k : Known N) → Good k → (q : Spot) → HasPlace p live res Taken w q → (f : Form)
        → is_result_of_main p q.0 ≡ true → IsSure (new_cell Shared q w v maybe f)
    main_takes k g q o f main = at o.held
      where
        at : (is_named p.types p.blocks live q.0 ≡ true)
            ⊎ ((contains q.0 res ≡ true) × (is_result_of_main p q.0 ≡ true → Taken))
            → IsSure (new_cell Shared q w v maybe f)
        at (inl n) = absurd (both_ways (is_named p.types p.blocks live q.0) (g.apart q.0 main) n)
        at (inr n) =
            let s = sure (n.1 main) in
            record { number = s.0; value = s.1; there = ap (lacks maybe) s.1 ∙ ap (λ b. b || false) s.2 }

    can_stand : (k : Known N) → Good k → (q : Spot) → Takes v q → (f : Form) → FormFits k.cells w f
        → CanStand D p live k q w v maybe f
    can_stand k g q o f form =
        let old = cell_at_place k g q o.0 in
        let alike : AreAlike (new_cell Shared q w v maybe f) old.cell = record {
          side = sym (g.shape.leaf old.cell old.is_in).side;
          block = sym old.block;
          offset = sym old.offset;
          what = sym old.what;
        } in
        record {
          sort = of_cells.sort;
          rising = of_cells.rising;
          last =
              subst (λ x. x + size_of k.model w ≤ 2 ^ 32) old.offset
              (subst (λ x. old.cell.offset + size_of k.model x ≤ 2 ^ 32) old.what
              (g.state.cells.each old.cell old.is_in).fits.last);
          form = form;
          over = record {
            shared = refl;
            old = old.cell;
            is_in = old.is_in;
            same = (and_parts (is_same_side Shared old.cell.side)
                (is_same_place (new_cell Shared q w v maybe f) old.cell)
                (same_alike (new_cell Shared q w v maybe f) old.cell alike)).1;
          };
          points = record {
            inside = of_cells.inside;
            along = λ x there pt ty at target. o.1 x there pt ty at target;
            sure = λ m. main_takes k g q o.0 f m;
          };
        }

    each_good : (qs : List Spot) (x : Underway N) → Good x.known → EachSpot (Takes v) qs
        → Good (weakly_each D (λ q. new_cell Shared q w v maybe None) true qs x).known
    each_good [] x g o = g
    each_good (q ∷ qs) x g o =
        each_good qs (weakly D (new_cell Shared q w v maybe None) true x)
        (weak_good D law p places ord h x.known live res q w v maybe None g
        (can_stand x.known g q o.0 None tt)) o.1

  module _ (k : Known N) (g : Good k) (i : Item N) (l : CanStay D p k w i.pair.left) (r : CanStay D p k w i.pair.right)
      (sure : Taken → AreSure i) where
    abbrev x : Option (Value N)
    x = value_of_same D i.pair.left.value i.pair.right.value

    of_cells_x : IsOfCells D p w x
    of_cells_x = same_of_cells D p w i.pair.left.value i.pair.right.value l.of_cells r.of_cells

    abbrev maybe : Bool
    maybe = i.left_maybe || i.right_maybe

    sure_x : Taken → (n : N) × (x ≡ Some (Num n)) × (maybe ≡ false)
    sure_x t =
        let s = sure t in
        let n = same_number D i.pair.left.value i.pair.right.value s.left s.right s.is_left s.is_right in
        (n.0, n.1, s.there)

    -- a place where both values may stand
    abbrev pub TakesBoth : Spot → Type 0
    TakesBoth q =
        HasPlace p live res Taken w q
        × (MayStand D p live i.pair.left.value q × MayStand D p live i.pair.right.value q)

    takes_x : (q : Spot) → TakesBoth q → Takes x q
    takes_x q o = (o.0, same_stands D p live q i.pair.left.value i.pair.right.value o.1.0 o.1.1)

    each_spot : (qs : List Spot) → EachSpot TakesBoth qs → Good (write_shared_each D w qs (underway k i)).known
    each_spot qs o =
        each_good x of_cells_x maybe sure_x qs (underway k i) g
        (each_spot_as TakesBoth (Takes x) takes_x qs o)

    one_spot : (q : Spot) → TakesBoth q → Good (write_shared D w q (underway k i)).known
    one_spot q o =
        strong_good D law p places ord h k live res q w x maybe
        (common_form i.pair.left.form i.pair.right.form) g
        (can_stand x of_cells_x maybe sure_x k g q (takes_x q o)
        (common_form i.pair.left.form i.pair.right.form)
        (common_fits D k w i.pair.left.form i.pair.right.form l.form))

    pub same_spots : (qs rs : List Spot) → EachSpot TakesBoth qs → EachSpot TakesBoth rs
        → Good (write_same D w qs rs (underway k i)).known
    same_spots (q ∷ []) (r ∷ []) o n = at (is_same_spot q r)
      where
        at : (b : Bool) → Good (cond b (write_shared D w q (underway k i))
            (write_shared_each D w (all_spots (q ∷ []) (r ∷ [])) (underway k i))).known
        at true = one_spot q o.0
        at false = each_spot (all_spots (q ∷ []) (r ∷ [])) (all_each TakesBoth (q ∷ []) (r ∷ []) o n)
    same_spots [] rs o n = each_spot (all_spots [] rs) (all_each TakesBoth [] rs o n)
    same_spots (q ∷ []) [] o n = each_spot (all_spots (q ∷ []) []) (all_each TakesBoth (q ∷ []) [] o n)
    same_spots (q ∷ []) (r ∷ s ∷ rs) o n =
        each_spot (all_spots (q ∷ []) (r ∷ s ∷ rs)) (all_each TakesBoth (q ∷ []) (r ∷ s ∷ rs) o n)
    same_spots (q ∷ s ∷ qs) rs o n =
        each_spot (all_spots (q ∷ s ∷ qs) rs) (all_each TakesBoth (q ∷ s ∷ qs) rs o n)

    pub written_good : (same_to : Bool) → same_to ≡ true → i.same ≡ true → (pl : Places) → EachSpot TakesBoth pl.left
        → EachSpot TakesBoth pl.right → Good (write_now D Both same_to w pl i k)
    written_good true e f pl o n =
        subst (λ b. Good (write_both D b w pl (underway k i)).known) (sym f) (same_spots pl.left pl.right o n)
    written_good false e f pl o n = absurd cc
