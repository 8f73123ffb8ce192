-- What a result gives to its place is one value, and the machine's.
use Rattle.std.proofs.Common.{◌≡◌, ℕ, pos, Bool, true, false, ◌&&◌, nat_eq, List, slice_get, Option, Some, None}
use Rattle.std.proofs.Common.{option_and_then, option_to_list, refl, subst, arith}
use Rattle.std.specs.List.{list_all}
use Rattle.std.proofs.lemmas.Bool.{and_parts}
use Rattle.ep_int.specs.declared.types.Order.{Order}
use Rattle.ep_int.specs.declared.types.Scalar.{Scalar}
use Rattle.ep_int.specs.declared.types.Scalar.TheVariants.{Int, Pointer}
use Rattle.ep_int.specs.Types.{wrapped}
use Rattle.ep_int.specs.Memory.{int, has, pointer}
use Rattle.ep_layout.specs.Table.{Table}
use Rattle.ep_layout.specs.declared.types.Ty.{Ty}
use Rattle.ep_layout.specs.declared.types.Ty.TheVariants as ty
use Rattle.ep_domain.specs.Domain.{Ops, Lawful}
use Rattle.ep_pointers.specs.Value.{one_target, only_place}
use Rattle.ep_pointers.proofs.Moving.{offset_of_some_type}
use Rattle.ep_cells.specs.States.{Known}
use Rattle.ep_cells.specs.Meaning.{Memories}
use Rattle.ep_core.specs.Program.{Dest, Block, Program}
use Rattle.ep_core.specs.Exec.{model, size_at}
use Rattle.ep_core.specs.Runs.{Side}
use Rattle.ep_core.specs.Typed.{ValueFits}
use Rattle.ep_core.specs.WellFormed.{has_scalar, ty_at, place_has, can_take, takes_result, holds_scalar, block_type}
use Rattle.ep_core.specs.WellFormed.{result_type}
use Rattle.ep_core.proofs.Bytes.{loaded_fits}
use Rattle.ep_core.proofs.Sorts.{type_where, same_scalar, never}
use Rattle.ep_equalities.specs.declared.pair.Mode.{Mode}
use Rattle.ep_evaluation.specs.Given.{Given, on}
use Rattle.ep_evaluation.specs.Evaluation.{pointer_given, load_means, convert_side, same}
use Rattle.ep_evaluation.specs.Laws.{memory_of, sizes_of, IsKept, Sound}
use Rattle.ep_evaluation.proofs.Conversions.{convert_sound}
use Rattle.ep_evaluation.proofs.Final.{if_has}
use Rattle.ep_evaluation.proofs.General.{number_found, reliable_none}
use Rattle.ep_evaluation.proofs.Leaves.{block_sound}
use Rattle.ep_evaluation.proofs.LoadWhole.{load_sound}
use Rattle.ep_transfers.specs.Calls.{loaded_result, received_as}
use Rattle.ep_transfers.specs.Taken.{AreTaken, numbers, pointers}
use Rattle.ep_transfers.proofs.Evaluated.{Evaluated}
use Rattle.ep_transfers.proofs.Gathered.{cell_laws}
use Rattle.ep_singles.proofs.Settled.{reads_are_one}
use Rattle.ep_single_given.specs.Laws.{IsOneGiven, FindAll}
use Rattle.ep_single_given.proofs.Given.{given_one, pointers_give_one}
use Rattle.ep_single_given.proofs.Loads.{loads_give_one}
use Rattle.ep_single_narrowed.specs.Laws.{IsKeptOne}
use Rattle.ep_single_sides.proofs.Numbers.{convert_one}
use Rattle.ep_single_calls.proofs.Machines.{read_of, read_as}

-- ---- what takes a result is of its sort

sort_taken : (t : Table) (bs : List Block) (seen : List ℕ) (any : Bool) (r u : Option Ty) (same : Bool) (v w : Scalar)
    → has_scalar r v ≡ true → has_scalar u w ≡ true → can_take t bs seen any r u same ≡ true → AreTaken v w
sort_taken t bs seen any (Some (ty.Int a)) (Some (ty.Int b)) same v w h i e =
    subst (λ z. AreTaken z w) (same_scalar (Int a) v h)
    (subst (λ z. AreTaken (Int a) z) (same_scalar (Int b) w i) (numbers a b))
sort_taken t bs seen any (Some (ty.Ptr a)) (Some (ty.Ptr b)) same v w h i e =
    subst (λ z. AreTaken z w) (same_scalar Pointer v h)
    (subst (λ z. AreTaken Pointer z) (same_scalar Pointer w i) pointers)
sort_taken t bs seen any (Some (ty.Int a)) (Some (ty.Ptr b)) same v w h i e = never e
sort_taken t bs seen any (Some (ty.Ptr a)) (Some (ty.Int b)) same v w h i e = never e
sort_taken t bs seen any (Some (ty.Int a)) None same v w h i e = never i
sort_taken t bs seen any (Some (ty.Int a)) (Some ty.Void) same v w h i e = never i
sort_taken t bs seen any (Some (ty.Int a)) (Some (ty.Array b c)) same v w h i e = never i
sort_taken t bs seen any (Some (ty.Int a)) (Some (ty.Aggregate b)) same v w h i e = never i
sort_taken t bs seen any (Some (ty.Ptr a)) None same v w h i e = never i
sort_taken t bs seen any (Some (ty.Ptr a)) (Some ty.Void) same v w h i e = never i
sort_taken t bs seen any (Some (ty.Ptr a)) (Some (ty.Array b c)) same v w h i e = never i
sort_taken t bs seen any (Some (ty.Ptr a)) (Some (ty.Aggregate b)) same v w h i e = never i
sort_taken t bs seen any None u same v w h i e = never h
sort_taken t bs seen any (Some ty.Void) u same v w h i e = never h
sort_taken t bs seen any (Some (ty.Array a b)) u same v w h i e = never h
sort_taken t bs seen any (Some (ty.Aggregate a)) u same v w h i e = never h

module _ (p : Program) where
  -- the sorts of what is given and of what takes it
  pub record TakesResult (r : ℕ × Scalar) (d : Dest) (seen : List ℕ) : Type 0 where
    pub place_type : ℕ
    pub placed : place_has p.types p.blocks seen d.place place_type ≡ true
    pub taken : AreTaken r.1 d.what

  takes_by : (r : ℕ × Scalar) → holds_scalar p.types p.blocks r ≡ true → (d : Dest) (seen : List ℕ) (o : Option ℕ)
      → block_type (slice_get p.blocks r.0) ≡ o → takes_result p.types p.blocks seen o (Some d) ≡ true
      → TakesResult r d seen
  takes_by r h d seen None e t = absurd (cc)
  takes_by r h d seen (Some ty) e t =
      let s = type_where p.types p.blocks seen (λ u. has_scalar u d.what)
      (λ u. can_take p.types p.blocks seen d.cast (ty_at p.types p.blocks seen ty)
      (ty_at p.types p.blocks seen u) (nat_eq ty u)
      && place_has p.types p.blocks seen d.place u) t in
      let q = and_parts (can_take p.types p.blocks seen d.cast (ty_at p.types p.blocks seen ty)
      (ty_at p.types p.blocks seen s.0) (nat_eq ty s.0))
      (place_has p.types p.blocks seen d.place s.0) s.2 in
      record {
        place_type = s.0;
        placed = q.1;
        taken = sort_taken p.types p.blocks seen d.cast (ty_at p.types p.blocks seen ty)
            (ty_at p.types p.blocks seen s.0) (nat_eq ty s.0) r.1 d.what
            (subst (λ z. has_scalar (option_and_then (slice_get p.types.types) z) r.1 ≡ true) e h) s.1 q.0;
      }

  pub takes : (r : ℕ × Scalar) → list_all (holds_scalar p.types p.blocks) (option_to_list (Some r)) ≡ true
      → (d : Dest) (seen : List ℕ)
      → takes_result p.types p.blocks seen (result_type p.blocks (Some r)) (Some d) ≡ true → TakesResult r d seen
  takes r holds d seen t =
      takes_by r (and_parts (holds_scalar p.types p.blocks r) true holds).0 d seen (block_type (slice_get p.blocks r.0))
      refl t

module _ {N : Type 0} (D : Ops N) (law : Lawful D) (p : Program) (ord : Side → Order) where
  -- ---- the result is read, and converted

  abbrev result_address : ℕ × Scalar → Mode → Known N → Given N
  result_address r mode k = pointer_given D (one_target r.0 (D.single (pos 0))) mode

  result_read : (r : ℕ × Scalar) → Sound D p ord r.1 (λ s. read_of (ord s) p r)
      (load_means D (sizes_of p.blocks) r.1 (result_address r))
  result_read r =
      load_sound D law (cell_laws D law).reads p ord r.1 (λ s m. has (pointer r.0 0)) (result_address r)
      (block_sound D law p ord r.0 (λ s m. has (pointer r.0 0)) (λ s m. refl))

  pub result_evaluated : (r : ℕ × Scalar) (k : Known N) (m : Memories) → IsKept D p ord k m → (mode : Mode)
      → Evaluated D p ord mode k m r.1 (λ s. read_of (ord s) p r) (loaded_result D p mode r k)
  result_evaluated r k m kept mode = record {
    holds = (result_read r).gives k m kept mode;
    fits = (result_read r).fits k kept.state mode;
  }

  pub received_evaluated : (b : ℕ) (v w : Scalar) → AreTaken v w → (k : Known N) (m : Memories) → IsKept D p ord k m
      → (mode : Mode)
      → Evaluated D p ord mode k m w (λ s. read_as (ord s) p (b, v) w)
      (received_as D p v w mode (loaded_result D p mode (b, v) k))
  received_evaluated b _ _ (numbers u t) k m kept mode =
      let s = convert_sound D law p ord u t (λ s. read_of (ord s) p (b, Int u))
      (load_means D (sizes_of p.blocks) (Int u) (result_address (b, Int u)))
      (λ s m fits v e. if_has (read_of (ord s) p (b, Int u) m) (ValueFits p (Int u)) v
      (loaded_fits p (ord s) (model (ord s) p) (size_at (ord s) p b) m (Int u) b 0 fits) e)
      (result_read (b, Int u)) in
      record { holds = s.gives k m kept mode; fits = s.fits k kept.state mode }
  received_evaluated b _ _ pointers k m kept mode = result_evaluated (b, Pointer) k m kept mode

  -- ---- it is one value

  pub result_one : (r : ℕ × Scalar) (k : Known N) (m : Memories) → IsKeptOne D p ord k m → (mode : Mode)
      → FindAll mode (λ s. read_of (ord s) p r) m → IsOneGiven D mode (loaded_result D p mode r k)
  result_one r k m kept mode all =
      loads_give_one D law (reads_are_one D law) p ord r.1 (λ s m. has (pointer r.0 0)) (result_address r)
      (block_sound D law p ord r.0 (λ s m. has (pointer r.0 0)) (λ s m. refl))
      (λ k m s mode f. pointers_give_one D (one_target r.0 (D.single (pos 0)))
      (only_place r.0 (D.single (pos 0)) (pos 0) refl
      (law.single_range (pos 0) (offset_of_some_type 0 (omega arith)))) mode) k m kept mode all

  pub received_one : (b : ℕ) (v w : Scalar) → AreTaken v w → (k : Known N) (m : Memories) → IsKeptOne D p ord k m
      → (mode : Mode) → FindAll mode (λ s. read_of (ord s) p (b, v)) m
      → FindAll mode (λ s. read_as (ord s) p (b, v) w) m
      → IsOneGiven D mode (received_as D p v w mode (loaded_result D p mode (b, v) k))
  received_one b _ _ (numbers u t) k m kept mode all found =
      let x = loaded_result D p mode (b, Int u) k in
      let one = result_one (b, Int u) k m kept mode all in
      given_one D mode (λ s. convert_side D (Some u) t (on x.pair s)) (same D x) x.faults one.quiet
      (λ s r.
      let f = found s r in
      let n = number_found (read_of (ord s) p (b, Int u) (memory_of s m)) (λ z. has (int (wrapped t z))) f.0 f.1 in
      convert_one D law u t (on x.pair s) n.0
      (record {
        one = one.each s r;
        allowed = ((result_evaluated (b, Int u) k m kept.kept mode).holds.held
            (reliable_none mode x.faults one.quiet) s r (int n.0) n.1).value;
      }))
  received_one b _ _ pointers k m kept mode all found = result_one (b, Pointer) k m kept mode all
