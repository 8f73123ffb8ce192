-- Inputs: both machines take the next one, and it goes to its place converted.
use Rattle.std.proofs.Common.{◌≡◌, ℕ, ◌+◌, ℤ, pos, Bool, true, ◌&&◌, not, List, [], ◌∷◌, Option, Some, None, refl}
use Rattle.std.proofs.Common.{sym, ◌∙◌, subst}
use Rattle.ep_int.specs.declared.types.IntType.{IntType}
use Rattle.ep_int.specs.declared.types.Order.{Order}
use Rattle.ep_int.specs.declared.types.Scalar.{Scalar}
use Rattle.ep_int.specs.declared.types.Scalar.TheVariants.{Int, Pointer}
use Rattle.ep_int.specs.Types.{wrapped}
use Rattle.ep_int.specs.Memory.{Value as Datum, int, has}
use Rattle.ep_int.proofs.Wrapping.{wrapped_in_range}
use Rattle.ep_domain.specs.Domain.{Ops}
use Rattle.ep_cells.specs.States.{Known}
use Rattle.ep_cells.specs.Meaning.{Memories, numbers_of}
use Rattle.ep_core.specs.Program.{Place, input, Dest, Program}
use Rattle.ep_core.specs.Exec.{State, on, uncounted, taken, address, put_dest, does}
use Rattle.ep_core.specs.Runs.{Side, left, right}
use Rattle.ep_core.specs.WellFormed.{has_scalar, ty_at, place_has, some_type, takes_input, blocks_fit}
use Rattle.ep_core.proofs.Sorts.{type_where, number_scalar}
use Rattle.ep_pass.specs.Laws.{ConcretisesStates, ConcretisesTyped, Meets, meet, meet_starved}
use Rattle.ep_equalities.specs.declared.pair.Mode.TheVariants.{Both, Left, Right}
use Rattle.ep_equalities.specs.Pairs.{SideIn}
use Rattle.ep_evaluation.specs.Given.{Given, alone}
use Rattle.ep_evaluation.specs.Given.{on as on_side}
use Rattle.ep_evaluation.specs.Evaluation.{place as place_means}
use Rattle.ep_evaluation.specs.Laws.{sizes_of, IsKept, SideFits, ExpressionsHold, PlacesHold}
use Rattle.ep_evaluation.proofs.General.{none_left}
use Rattle.ep_transfers.specs.Transfers.{alone_faults, input_pair, taken_in}
use Rattle.ep_transfers.specs.Laws.{memories, StandsFor, CellLaws}
use Rattle.ep_transfers.proofs.Evaluated.{kept_both, Evaluated}
use Rattle.ep_transfers.proofs.Plain.{both_put}
use Rattle.ep_transfers.proofs.Stored.{place_is}

module _ {N : Type 0} (D : Ops N) (laws : CellLaws D) (p : Program) (ord : Side → Order)
    (fit : blocks_fit p.types p.blocks ≡ true)
    (exprs : ExpressionsHold D p ord) (plcs : PlacesHold D p ord) where
  -- ---- one number of a type, the same on both sides

  abbrev pub given_input : IntType → IntType → Given N
  given_input t u = record { pair = input_pair D Both t (Int u); faults = [] }

  input_held : (k : Known N) (m : Memories) (t u : IntType) (z : ℤ) (s : Side) (x : Datum) → has
      (int (wrapped u (wrapped t z))) ≡ has x
      → SideIn D (numbers_of k.orders m) (Int u) (on_side (input_pair D Both t (Int u)) s) x
  input_held k m t u z left x e =
      subst (λ d. SideIn D (numbers_of k.orders m) (Int u) (input_pair D Both t (Int u)).left d)
      (let q : int (wrapped u (wrapped t z)) ≡ x = cc in q)
      (record {
        value = (
          wrapped_in_range u (wrapped t z),
          laws.domain.convert_holds (D.top t) u (wrapped t z)
              (laws.domain.top_holds t (wrapped t z) (wrapped_in_range t z)),
        );
        form = tt;
      })
  input_held k m t u z right x e =
      subst (λ d. SideIn D (numbers_of k.orders m) (Int u) (input_pair D Both t (Int u)).right d)
      (let q : int (wrapped u (wrapped t z)) ≡ x = cc in q)
      (record {
        value = (
          wrapped_in_range u (wrapped t z),
          laws.domain.convert_holds (D.top t) u (wrapped t z)
              (laws.domain.top_holds t (wrapped t z) (wrapped_in_range t z)),
        );
        form = tt;
      })

  input_fits : (k : Known N) (t u : IntType) (s : Side) → SideFits D p ord k (Int u)
      (on_side (input_pair D Both t (Int u)) s)
  input_fits k t u left = record { sort = tt; rising = tt; form = tt }
  input_fits k t u right = record { sort = tt; rising = tt; form = tt }

  pub input_is : (k : Known N) (m : Memories) (t u : IntType) (z : ℤ)
      → Evaluated D p ord Both k m (Int u) (λ s b. has (int (wrapped u (wrapped t z)))) (given_input t u)
  input_is k m t u z = record {
    holds = record {
      held = λ r s g x e. input_held k m t u z s x e;
      found = λ e s g. (int (wrapped u (wrapped t z)), refl);
      same = λ e f g a b h i. let q : has a ≡ has b = sym h ∙ i in cc;
    };
    fits = λ s. input_fits k t u s;
  }

  -- ---- the statement

  module _ (r : Option (ℕ × Scalar)) (t : IntType) where
    abbrev at : Scalar → Bool → Place → Dest
    at w c a = record { what = w; cast = c; place = a }

    abbrev Goes : Dest → Known N → (x y : State) → (v : ℕ) → (l n j : ℕ) → Type 0
    Goes d k x y v l n j =
        Meets p (StandsFor D p ord) on (taken_in D p Both t (Some d) k).next n j
        (put_dest (ord left) p (Some d) (int (wrapped t (pos v))) l n x)
        (put_dest (ord right) p (Some d) (int (wrapped t (pos v))) l j y)

    -- with what both machines take
    dest_goes : (u : IntType) (c : Bool) (a : Place) (seen : List ℕ) (ty : ℕ) → place_has p.types p.blocks seen a ty ≡
        true → (k : Known N)
        (x y : State) → ConcretisesStates p (StandsFor D p ord) k x y → IsKept D p ord k (memories x.memory y.memory) →
        (v l n j : ℕ)
        → (taken_in D p Both t (Some (at (Int u) c a)) k).faults ≡ [] → Goes (at (Int u) c a) k x y v l n j
    dest_goes u c a seen ty h k x y stands kept v l n j q =
        let m = memories x.memory y.memory in
        let to = place_means D (sizes_of p.blocks) a Both k in
        let g = none_left to.faults _ q in
        both_put D laws p ord fit (Int u) k (λ i. address (ord i) p a)
        (λ i b. has (int (wrapped u (wrapped t (pos v))))) to (given_input t u) g.0 refl x y
        stands kept (place_is D laws p ord fit exprs plcs seen a ty h k m kept Both) (input_is k m t u (pos v)) g.1 on
        l n j

    dest_sound : (d : Dest) (seen : List ℕ)
        → some_type p.types p.blocks seen (λ u. has_scalar u d.what && not (has_scalar u Pointer))
        (place_has p.types p.blocks seen d.place) ≡ true
        → (k : Known N) (x y : State) → ConcretisesStates p (StandsFor D p ord) k x y → IsKept D p ord k
        (memories x.memory y.memory) → (v l n j : ℕ)
        → (taken_in D p Both t (Some d) k).faults ≡ [] → Goes d k x y v l n j
    dest_sound d seen h k x y stands kept v l n j =
        let ty = type_where p.types p.blocks seen (λ u. has_scalar u d.what && not (has_scalar u Pointer))
        (place_has p.types p.blocks seen d.place) h in
        let u = number_scalar (ty_at p.types p.blocks seen ty.0) d.what ty.1 in
        subst
        (λ w. (taken_in D p Both t (Some (at w d.cast d.place)) k).faults ≡ [] → Goes (at w d.cast d.place) k x y v l
        n j) (sym u.1)
        (dest_goes u.0 d.cast d.place seen ty.0 ty.2 k x y stands kept v l n j)

    pub input_sound : (d : Option Dest) (seen : List ℕ) → takes_input p.types p.blocks seen d ≡ true → (k : Known N)
        (x y : State)
        → ConcretisesTyped p (StandsFor D p ord) k x y → (taken_in D p Both t d k).faults ≡ [] → (l n j : ℕ)
        → Meets p (StandsFor D p ord) on (taken_in D p Both t d k).next n j
        (does (ord left) p uncounted r (input t d) l n x)
        (does (ord right) p uncounted r (input t d) l j y)
    input_sound d seen h k x y kept q l n j = by_inputs d h q x.inputs y.inputs refl refl kept.stands.inputs
      where
        by_dest : (d : Option Dest) → takes_input p.types p.blocks seen d ≡ true → (taken_in D p Both t d k).faults ≡
            [] → (v : ℕ) (rest rest' : List ℕ)
            → rest ≡ rest'
            → Meets p (StandsFor D p ord) on (taken_in D p Both t d k).next n j
            (put_dest (ord left) p d (int (wrapped t (pos v))) l n (record x { inputs = rest; used = x.used + 1 }))
            (put_dest (ord right) p d (int (wrapped t (pos v))) l j (record y { inputs = rest'; used = y.used + 1 }))
        by_dest None h q v rest rest' e =
            meet (record { memories = kept.stands.memories; inputs = e; outputs = kept.stands.outputs })
        by_dest (Some d) h q v rest rest' e =
            dest_sound d seen h k (record x { inputs = rest; used = x.used + 1 })
            (record y { inputs = rest'; used = y.used + 1 })
            (record { memories = kept.stands.memories; inputs = e; outputs = kept.stands.outputs })
            (kept_both D p ord k x y kept) v l n j q

        by_inputs : (d : Option Dest) → takes_input p.types p.blocks seen d ≡ true → (taken_in D p Both t d k).faults
            ≡ [] → (xs ys : List ℕ)
            → x.inputs ≡ xs → y.inputs ≡ ys → x.inputs ≡ y.inputs
            → Meets p (StandsFor D p ord) on (taken_in D p Both t d k).next n j
            (taken x.inputs x (λ v s. put_dest (ord left) p d (int (wrapped t (pos v))) l n s))
            (taken y.inputs y (λ v s. put_dest (ord right) p d (int (wrapped t (pos v))) l j s))
        by_inputs d h q [] [] e f g = rw (e, f) (meet_starved kept.stands.outputs)
        by_inputs d h q [] (v ∷ ys) e f g = absurd (let z : [] ≡ v ∷ ys = sym e ∙ g ∙ f in cc)
        by_inputs d h q (v ∷ xs) [] e f g = absurd (let z : v ∷ xs ≡ [] = sym e ∙ g ∙ f in cc)
        by_inputs d h q (v ∷ xs) (w ∷ ys) e f g =
            let z : v ∷ xs ≡ w ∷ ys = sym e ∙ g ∙ f in
            let same : v ≡ w = cc in
            let rest : xs ≡ ys = cc in
            rw (e, f) (subst (λ c. Meets p (StandsFor D p ord) on (taken_in D p Both t d k).next n j
            (put_dest (ord left) p d (int (wrapped t (pos v))) l n (record x { inputs = xs; used = x.used + 1 }))
            (put_dest (ord right) p d (int (wrapped t (pos c))) l j
            (record y { inputs = ys; used = y.used + 1 }))) same
            (by_dest d h q v xs ys rest))

    pub input_alone : (i : Side) (d : Option Dest) (k : Known N) → (taken_in D p (alone i) t d k).faults ≡ [] → ⊥
    input_alone left None k q = absurd (let h : alone_faults Left ≡ [] = q in cc)
    input_alone right None k q = absurd (let h : alone_faults Right ≡ [] = q in cc)
    input_alone left (Some d) k q =
        let g = (none_left (place_means D (sizes_of p.blocks) d.place Left k).faults _ q).1 in
        absurd (let h : alone_faults Left ≡ [] = (none_left (alone_faults Left) _ g).0 in cc)
    input_alone right (Some d) k q =
        let g = (none_left (place_means D (sizes_of p.blocks) d.place Right k).faults _ q).1 in
        absurd (let h : alone_faults Right ≡ [] = (none_left (alone_faults Right) _ g).0 in cc)
