-- A number goes to a variable: what is known then, and the other variables.
use Rattle.std.proofs.Common.{◌≡◌, ℕ, ℤ, inl, inr, Bool, true, false, ◌&&◌, IfSome, IsSomeAnd, nat_eq, [], ◌∷◌, refl}
use Rattle.std.proofs.Common.{sym, ap, ◌∙◌, subst, Option, Some, None, option_and_then, slice_get}
use Rattle.std.specs.Option.{option_map_or}
use Rattle.std.proofs.lemmas.Bool.{eqb-true}
use Rattle.ep_int.specs.declared.types.IntType.{IntType}
use Rattle.ep_int.specs.declared.types.Order.{Order}
use Rattle.ep_int.specs.declared.types.Scalar.TheVariants.{Int}
use Rattle.ep_int.specs.Types.{InRange}
use Rattle.ep_int.specs.Memory.{Memory, int, stored}
use Rattle.ep_int.proofs.Memories.{stored_first, stored_elsewhere}
use Rattle.ep_layout.specs.declared.types.Ty.{Ty}
use Rattle.ep_layout.specs.declared.types.Ty.TheVariants as ty
use Rattle.ep_domain.specs.Domain.{Ops, Lawful, Holds, IsSingle}
use Rattle.ep_cells.specs.declared.cell.Cell.{Cell}
use Rattle.ep_cells.specs.declared.cell.Value.{Value}
use Rattle.ep_cells.specs.declared.cell.Value.TheVariants.{Num}
use Rattle.ep_bitslice.specs.declared.cell.Side.TheVariants.{Shared}
use Rattle.ep_cells.specs.Forms.{common_form}
use Rattle.ep_cells.specs.States.{Known, AreCells}
use Rattle.ep_cell_ranges.specs.Ranges.{replaced}
use Rattle.ep_cell_ranges.specs.Sound.{IsPlaced}
use Rattle.ep_core.specs.Program.{Program}
use Rattle.ep_core.specs.Exec.{model}
use Rattle.ep_core.specs.Runs.{Side, left, right}
use Rattle.ep_core.specs.WellFormed.{has_scalar, block_type, holds_scalar, is_well_formed}
use Rattle.ep_core.proofs.Sorts.{same_scalar}
use Rattle.ep_alarm_laws.proofs.OwnPlaces.{own_quiet}
use Rattle.ep_equalities.specs.declared.pair.Mode.TheVariants.{Both}
use Rattle.ep_equalities.specs.declared.pair.PairValue.{PairValue}
use Rattle.ep_equalities.specs.Same.{is_same}
use Rattle.ep_transfers.specs.Places.{Places, has_places, has_values}
use Rattle.ep_transfers.specs.Writes.{item_of, shared_cell, write_now, lacks, value_of_same}
use Rattle.ep_transfers.specs.Transfers.{Stepped, if_goes_on, sizes, to_block, assigned}
use Rattle.ep_straight_laws.specs.Laws.{MeetsKeepSingles}
use Rattle.ep_straight_laws.proofs.Cells.{whole, IsCellOf, new_there, other_there, written_is}
use Rattle.ep_straight_laws.proofs.Loads.{Is, IsSet, IsVariable, unset, set, place_is}

-- a block is of one type
one_by : (o : Option Ty) (t u : IntType) → has_scalar o (Int t) ≡ true → has_scalar o (Int u) ≡ true → t ≡ u
one_by (Some (ty.Int i)) t u h g =
    let e : Int t ≡ Int u = sym (same_scalar (Int i) (Int t) h) ∙ same_scalar (Int i) (Int u) g in cc
one_by (Some (ty.Ptr d)) t u h g = absurd (cc)
one_by (Some ty.Void) t u h g = absurd (cc)
one_by (Some (ty.Array d c)) t u h g = absurd (cc)
one_by (Some (ty.Aggregate a)) t u h g = absurd (cc)
one_by None t u h g = absurd (cc)

module _ {N : Type 0} (D : Ops N) (law : Lawful D) (meets : MeetsKeepSingles D) where
  -- what both numbers have in common
  pub record IsMet (a b : N) (z : ℤ) : Type 0 where
    pub known : N
    pub value : value_of_same D (Some (Num a)) (Some (Num b)) ≡ Some (Num known)
    pub is : Is D known z

  met_by : (a b : N) (z : ℤ) (o : Option N) → D.meet a b ≡ o → IsSomeAnd o (λ c. Holds D c z)
      → (IsSingle D a z → IsSingle D b z → IfSome o (λ c. IsSingle D c z)) → Is D a z → Is D b z → IsMet a b z
  met_by a b z None e h f i j = absurd h
  met_by a b z (Some c) e h f i j = record {
    known = c;
    value = ap (λ o. option_map_or (λ (c : N). Some (Num c)) o (Some (Num a))) e;
    is = record {
      held = h;
      exact = elim i.exact [
        | inl s ↦ elim j.exact [ inl r ↦ inl (f s r) | inr q ↦ inr q ]
        | inr q ↦ inr q
      ];
    };
  }

  pub met : (a b : N) (z : ℤ) → Is D a z → Is D b z → IsMet a b z
  met a b z i j =
      met_by a b z (D.meet a b) refl (law.meet_holds a b z i.held j.held) (λ s r. meets a b z s r) i j

  module _ (p : Program) (formed : is_well_formed p ≡ true) (ord : Side → Order) (k : Known N)
      (cells : AreCells k.model k.cells) (told : k.model ≡ p.types.model) (b : ℕ) (t : IntType)
      (integer : holds_scalar p.types p.blocks (b, Int t) ≡ true) (x y : Memory) (old : IsVariable D ord k x y b t)
      (v : PairValue N) (same : v.equal ≡ true) (a c : N) (z : ℤ) (on_left : v.left.value ≡ Some (Num a))
      (on_right : v.right.value ≡ Some (Num c)) (ranged : InRange t z) (i : Is D a z) (j : Is D c z) where
    abbrev pub stores : Stepped N
    stores = assigned D (sizes D p) Both (Int t) (to_block D Both b) v k

    abbrev new : Cell N
    new = shared_cell D (Int t) (item_of D v) (common_form v.left.form v.right.form) (b, 0)

    abbrev pub then_known : Known N
    then_known = replaced D (whole b t) (new ∷ []) k

    abbrev then_on : Side → Memory → Memory
    then_on s m = stored (ord s) (model (ord s) p) m (Int t) b 0 (int z)

    same_is : is_same D v ≡ true
    same_is = rw same refl

    abbrev at_places : Places → Option (Known N)
    at_places q =
        if_goes_on (has_places Both q && has_values Both v)
        (write_now D Both (is_same D (to_block D Both b)) (Int t) q (item_of D v) k)

    pub next_is : stores.next ≡ Some then_known
    next_is =
        ap (λ qs. at_places (record { left = qs; right = qs })) (place_is D law p formed b t integer)
        ∙ ap (λ h. if_goes_on h (write_now D Both true (Int t) (record { left = (b, 0) ∷ []; right = (b, 0) ∷ [] })
        (item_of D v) k)) (let e : has_values Both v ≡ true = rw (on_left, on_right) refl in e)
        ∙ ap Some (written_is D k b t (item_of D v) same_is)

    pub quiet : stores.faults ≡ []
    quiet = own_quiet p formed D law (b, Int t) integer Both k told

    placed : IsPlaced Shared b 0 (Int t) new
    placed = record { side = refl; block = refl; offset = refl; what = refl }

    abbrev common : IsMet a c z
    common = met a c z i j

    value_is : new.value ≡ Some (Num common.known)
    value_is = ap (λ u. value_of_same D u v.right.value) on_left ∙ ap (λ u. value_of_same D (Some
        (Num a)) u) on_right ∙ common.value

    sure_is : new.maybe ≡ false
    sure_is = ap (λ u. lacks false u) value_is

    module _ (w : Option (Value N)) (maybe : Bool) (was : IsCellOf k b t w maybe) where
      set_now : IsSet D ord then_known (then_on left x) (then_on right y) b t
      set_now = record {
        known = common.known;
        z = z;
        cell = subst (λ m. IsCellOf then_known b t (Some (Num common.known)) m) sure_is
            (subst (λ u. IsCellOf then_known b t u new.maybe) value_is
            (new_there D k cells b t w maybe was new placed));
        ranged = ranged;
        is = common.is;
        on_left = λ q l. stored_first (ord left) (model (ord left) p) x t b z q l;
        on_right = λ q l. stored_first (ord right) (model (ord right) p) y t b z q l;
      }

      other_set : (d : ℕ) (u : IntType) → nat_eq b d ≡ false → IsSet D ord k x y d u
          → IsSet D ord then_known (then_on left x) (then_on right y) d u
      other_set d u e s = record {
        known = s.known;
        z = s.z;
        cell = other_there D k cells b t w maybe was new placed d u (Some (Num s.known)) false e s.cell;
        ranged = s.ranged;
        is = s.is;
        on_left = λ q l. stored_elsewhere (ord left) (model (ord left) p) x (Int t) b 0 (int z) d q e ∙ s.on_left q l;
        on_right = λ q l. stored_elsewhere (ord right) (model (ord right) p) y (Int t) b 0 (int z) d q e
            ∙ s.on_right q l;
      }

      other_is : (d : ℕ) (u : IntType) → nat_eq b d ≡ false → IsVariable D ord k x y d u
          → IsVariable D ord then_known (then_on left x) (then_on right y) d u
      other_is d u e (unset r h g) =
          unset (other_there D k cells b t w maybe was new placed d u None true e r)
          (λ q l. stored_elsewhere (ord left) (model (ord left) p) x (Int t) b 0 (int z) d q e ∙ h q l)
          (λ q l. stored_elsewhere (ord right) (model (ord right) p) y (Int t) b 0 (int z) d q e ∙ g q l)
      other_is d u e (set s) = set (other_set d u e s)

    now_set : IsVariable D ord k x y b t → IsSet D ord then_known (then_on left x) (then_on right y) b t
    now_set (unset r h g) = set_now None true r
    now_set (set s) = set_now (Some (Num s.known)) false s.cell

    others_set : IsVariable D ord k x y b t → (d : ℕ) (u : IntType) → nat_eq b d ≡ false → IsSet D ord k x y d u
        → IsSet D ord then_known (then_on left x) (then_on right y) d u
    others_set (unset r h g) d u e s = other_set None true r d u e s
    others_set (set q) d u e s = other_set (Some (Num q.known)) false q.cell d u e s

    others_are : IsVariable D ord k x y b t → (d : ℕ) (u : IntType) → nat_eq b d ≡ false → IsVariable D ord k x y d u
        → IsVariable D ord then_known (then_on left x) (then_on right y) d u
    others_are (unset r h g) d u e s = other_is None true r d u e s
    others_are (set q) d u e s = other_is (Some (Num q.known)) false q.cell d u e s

    here_set : (d : ℕ) (u : IntType) → holds_scalar p.types p.blocks (d, Int u) ≡ true → nat_eq b d ≡ true
        → IsSet D ord then_known (then_on left x) (then_on right y) d u
    here_set d u h e =
        let at : b ≡ d = eqb-true b d e in
        let kind : t ≡ u = one_by (option_and_then (slice_get p.types.types) (block_type (slice_get p.blocks d))) t u
        (subst (λ n. holds_scalar p.types p.blocks (n, Int t) ≡ true) at integer) h in
        subst (λ n. IsSet D ord then_known (then_on left x) (then_on right y) n u) at
        (subst (λ w. IsSet D ord then_known (then_on left x) (then_on right y) b w) kind (now_set old))

    -- each variable is one still
    pub variable_then : (d : ℕ) (u : IntType) → holds_scalar p.types p.blocks (d, Int u) ≡ true
        → IsVariable D ord k x y d u → IsVariable D ord then_known (then_on left x) (then_on right y) d u
    variable_then d u h s = by (nat_eq b d) refl
      where
        by : (e : Bool) → nat_eq b d ≡ e → IsVariable D ord then_known (then_on left x) (then_on right y) d u
        by true e = set (here_set d u h e)
        by false e = others_are old d u e s

    -- and one that has a value has one
    pub set_then : (d : ℕ) (u : IntType) → holds_scalar p.types p.blocks (d, Int u) ≡ true
        → IsSet D ord k x y d u → IsSet D ord then_known (then_on left x) (then_on right y) d u
    set_then d u h s = by (nat_eq b d) refl
      where
        by : (e : Bool) → nat_eq b d ≡ e → IsSet D ord then_known (then_on left x) (then_on right y) d u
        by true e = here_set d u h e
        by false e = others_set old d u e s
