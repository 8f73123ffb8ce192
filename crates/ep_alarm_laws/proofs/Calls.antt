-- The faults of arguments and of results are of kinds that their text may have.
use Rattle.std.proofs.Common.{◌≡◌, ℕ, Bool, true, false, ◌&&◌, nat_eq, List, [], ◌∷◌, ◌++◌, slice_get, Option, Some}
use Rattle.std.proofs.Common.{None, IfSome, option_to_list, refl, ◌∙◌}
use Rattle.std.specs.Option.{option_map_or}
use Rattle.std.specs.List.{list_all}
use Rattle.std.proofs.lemmas.Bool.{and_parts, or_left, or_right}
use Rattle.ep_int.specs.declared.types.Scalar.{Scalar}
use Rattle.ep_int.specs.declared.types.Scalar.TheVariants.{Int, Pointer}
use Rattle.ep_int.specs.Types.{size_of}
use Rattle.ep_alarms.specs.declared.types.AlarmKind.{AlarmKind}
use Rattle.ep_alarms.specs.declared.types.AlarmKind.TheVariants.{U4, U10, E1}
use Rattle.ep_domain.specs.Domain.{Ops, Lawful}
use Rattle.ep_cells.specs.States.{Known}
use Rattle.ep_core.specs.Program.{Expr, Dest, Function, Program}
use Rattle.ep_core.specs.Exec.{first_of, frame_of}
use Rattle.ep_core.specs.WellFormed.{has_scalar, ty_at, has_type, place_has, can_take, takes_result, block_type}
use Rattle.ep_core.specs.WellFormed.{result_type, holds_scalar, arguments_fit}
use Rattle.ep_core.proofs.Sorts.{type_where}
use Rattle.ep_pass.specs.Places.{is_kind, is_one_of, read_kinds, expr_may, exprs_may, target_may, result_may}
use Rattle.ep_equalities.specs.declared.pair.Mode.{Mode}
use Rattle.ep_equalities.specs.declared.pair.Mode.TheVariants.{Both}
use Rattle.ep_equalities.specs.declared.pair.PairValue.{PairValue}
use Rattle.ep_evaluation.specs.Given.{Given}
use Rattle.ep_evaluation.specs.Evaluation.{place}
use Rattle.ep_transfers.specs.Places.{aligned_faults}
use Rattle.ep_transfers.specs.Transfers.{stepped, assigned, to_block, sizes, gives, entered, differ_faults}
use Rattle.ep_transfers.specs.Calls.{given_all, faults_of_all, bound, waiting, loaded_result, received_as}
use Rattle.ep_transfers.specs.Calls.{arguments_step, result_step}
use Rattle.ep_transfers.specs.Ends.{is_sure_result, ended_faults}
use Rattle.ep_alarm_laws.proofs.Named.{AreKinds}
use Rattle.ep_alarm_laws.proofs.Allowed.{AccessesAllowed}
use Rattle.ep_alarm_laws.proofs.FaultKinds.{both_kinds, wider_kinds, no_kinds}
use Rattle.ep_alarm_laws.proofs.OwnPlaces.{HaveOwnPlaces}
use Rattle.ep_alarm_laws.proofs.Expressions.{reading_kinds}
use Rattle.ep_alarm_laws.proofs.Statements.{typed_kinds, target_kinds}
use Rattle.ep_alarm_laws.proofs.Written.{assigned_model, entered_model}

module _ {N : Type 0} (D : Ops N) (law : Lawful D) (p : Program) (strides : Bool) (ok : AccessesAllowed D p strides)
    (own : HaveOwnPlaces D p) (m : Mode) where
  -- ---- arguments

  all_kinds : (seen : List ℕ) (bs : List (ℕ × Scalar)) (es : List Expr)
      → arguments_fit p.types p.blocks seen bs es ≡ true → (k : Known N) → k.model ≡ p.types.model
      → AreKinds (λ f. exprs_may strides f es) (faults_of_all D p (given_all D p es m k))
  all_kinds seen [] [] h k i = tt
  all_kinds seen [] (e ∷ es) h k i = absurd (cc)
  all_kinds seen (b ∷ bs) [] h k i = absurd (cc)
  all_kinds seen (b ∷ bs) (e ∷ es) h k i =
      let t = typed (block_type (slice_get p.blocks b.0)) refl in
      both_kinds (λ f. exprs_may strides f (e ∷ es)) (gives D p e m k).faults
      (faults_of_all D p (given_all D p es m k))
      (wider_kinds (λ f. expr_may strides f e) (λ f. exprs_may strides f (e ∷ es)) (gives D p e m k).faults
      (λ f g. or_left (expr_may strides f e) (exprs_may strides f es) g)
      (typed_kinds D law p strides ok own seen e t.0 t.1 m k i))
      (wider_kinds (λ f. exprs_may strides f es) (λ f. exprs_may strides f (e ∷ es))
      (faults_of_all D p (given_all D p es m k))
      (λ f g. or_right (expr_may strides f e) (exprs_may strides f es) g) (all_kinds seen bs es t.2 k i))
    where
      typed : (o : Option ℕ) → block_type (slice_get p.blocks b.0) ≡ o
          → (ty : ℕ) × (has_type p.types p.blocks seen e ty ≡ true)
          × (arguments_fit p.types p.blocks seen bs es ≡ true)
      typed None q = absurd (let g : (false && arguments_fit p.types p.blocks seen bs es) ≡ true = rw q at h in
          let f : false ≡ true = (and_parts false (arguments_fit p.types p.blocks seen bs es) g).0 in cc)
      typed (Some ty) q =
          let g = and_parts (has_type p.types p.blocks seen e ty) (arguments_fit p.types p.blocks seen bs es)
          (rw q at h) in
          (ty, g.0, g.1)

  bound_kinds : (test : AlarmKind → Bool) (bs : List (ℕ × Scalar)) (vs : List (PairValue N))
      → list_all (holds_scalar p.types p.blocks) bs ≡ true → (k : Known N) → k.model ≡ p.types.model
      → AreKinds test (bound D p m bs vs k).faults
  bound_kinds test [] vs h k i = tt
  bound_kinds test (b ∷ bs) [] h k i = tt
  bound_kinds test (b ∷ bs) (v ∷ vs) h k i =
      let s = and_parts (holds_scalar p.types p.blocks b) (list_all (holds_scalar p.types p.blocks) bs) h in
      let x = assigned D (sizes D p) m b.1 (to_block D m b.0) v k in
      both_kinds test x.faults (option_map_or (bound D p m bs vs) x.next (stepped [] None)).faults
      (no_kinds test x.faults (own b s.0 m k i))
      (rest x.next (assigned_model D (sizes D p) m b.1 (to_block D m b.0) v k)
      (λ l e. bound_kinds test bs vs s.1 l (e ∙ i)))
    where
      rest : (o : Option (Known N)) → IfSome o (λ l. l.model ≡ k.model)
          → ((l : Known N) → l.model ≡ k.model → AreKinds test (bound D p m bs vs l).faults)
          → AreKinds test (option_map_or (bound D p m bs vs) o (stepped [] None)).faults
      rest None e go = tt
      rest (Some l) e go = go l e

  pub arguments_kinds : (f : Function) → list_all (holds_scalar p.types p.blocks) f.params ≡ true → (es : List Expr)
      (seen : List ℕ) → arguments_fit p.types p.blocks seen f.params es ≡ true → (k : Known N)
      → k.model ≡ p.types.model → AreKinds (λ a. exprs_may strides a es) (arguments_step D p m f es k).faults
  arguments_kinds f holds es seen h k i =
      let j = entered D p m (first_of (option_to_list f.result)) k in
      let ij = entered_model D p m (first_of (option_to_list f.result)) k ∙ i in
      let xs = given_all D p es m j in
      both_kinds (λ a. exprs_may strides a es) (faults_of_all D p xs)
      (bound D p m f.params (waiting D p (frame_of f) xs) (entered D p m (frame_of f) j)).faults
      (all_kinds seen f.params es h j ij)
      (bound_kinds (λ a. exprs_may strides a es) f.params (waiting D p (frame_of f) xs) holds
      (entered D p m (frame_of f) j) (entered_model D p m (frame_of f) j ∙ ij))

  -- ---- results

  loaded_kinds : (test : AlarmKind → Bool) → test U4 ≡ true → test U10 ≡ true → (r : ℕ × Scalar)
      → holds_scalar p.types p.blocks r ≡ true → (k : Known N) → k.model ≡ p.types.model
      → AreKinds test (loaded_result D p m r k).faults
  loaded_kinds test h i r g k e =
      reading_kinds D (sizes D p) test h i r.1 m k (to_block D m r.0)
      (no_kinds test (aligned_faults D (sizes D p) m (size_of k.model r.1) (to_block D m r.0)) (own r g m k e))

  received_kinds : (test : AlarmKind → Bool) (v w : Scalar) (x : Given N) → AreKinds test x.faults
      → AreKinds test (received_as D p v w m x).faults
  received_kinds test (Int u) (Int t) x h = h
  received_kinds test Pointer (Int t) x h = h
  received_kinds test (Int u) Pointer x h = h
  received_kinds test Pointer Pointer x h = h

  module _ (f : Function) (holds : list_all (holds_scalar p.types p.blocks) (option_to_list f.result) ≡ true) where
    pub result_kinds : (d : Option Dest) (seen : List ℕ)
        → takes_result p.types p.blocks seen (result_type p.blocks f.result) d ≡ true → (k : Known N)
        → k.model ≡ p.types.model → AreKinds (λ a. result_may strides a d) (result_step D p m f d k).faults
    result_kinds None seen h k i = tt
    result_kinds (Some d) seen h k i = by_result f.result holds h
      where
        by_type : (r : ℕ × Scalar) → holds_scalar p.types p.blocks r ≡ true → (o : Option ℕ)
            → takes_result p.types p.blocks seen o (Some d) ≡ true
            → AreKinds (λ a. result_may strides a (Some d))
            (result_step D p m (record f { result = Some r }) (Some d) k).faults
        by_type r g None h = absurd (cc)
        by_type r g (Some ty) h =
            let s = type_where p.types p.blocks seen (λ u. has_scalar u d.what)
            (λ u. can_take p.types p.blocks seen d.cast (ty_at p.types p.blocks seen ty)
            (ty_at p.types p.blocks seen u) (nat_eq ty u)
            && place_has p.types p.blocks seen d.place u) h in
            let at = (and_parts (can_take p.types p.blocks seen d.cast (ty_at p.types p.blocks seen ty)
            (ty_at p.types p.blocks seen s.0) (nat_eq ty s.0)) (place_has p.types p.blocks seen d.place s.0) s.2).1 in
            let may : AlarmKind → Bool = λ a. result_may strides a (Some d) in
            let v = received_as D p r.1 d.what m (loaded_result D p m r k) in
            let to = place D (sizes D p) d.place m k in
            let last = (assigned D (sizes D p) m d.what to.pair v.pair k).faults in
            both_kinds may (v.faults ++ to.faults) last
            (both_kinds may v.faults to.faults
            (received_kinds may r.1 d.what (loaded_result D p m r k) (loaded_kinds may refl refl r g k i))
            (wider_kinds (λ a. target_may strides a d.place) may to.faults
            (λ a q. or_right (is_one_of read_kinds a) (target_may strides a d.place) q)
            (target_kinds D law p strides ok own seen d.place s.0 at m k i)))
            (wider_kinds (λ a. target_may strides a d.place) may last
            (λ a q. or_right (is_one_of read_kinds a) (target_may strides a d.place) q)
            (ok.aligned seen d.place s.0 at d.what s.1 m k i))

        by_result : (o : Option (ℕ × Scalar)) → list_all (holds_scalar p.types p.blocks) (option_to_list o) ≡ true
            → takes_result p.types p.blocks seen (result_type p.blocks o) (Some d) ≡ true
            → AreKinds (λ a. result_may strides a (Some d))
            (result_step D p m (record f { result = o }) (Some d) k).faults
        by_result None g h = tt
        by_result (Some r) g h =
            by_type r (and_parts (holds_scalar p.types p.blocks r) true g).0 (block_type (slice_get p.blocks r.0)) h

-- ---- main's result

module _ {N : Type 0} (D : Ops N) (p : Program) where
  differ_kind : (t : Bool) (v : PairValue N) → AreKinds (is_kind E1) (differ_faults D t v)
  differ_kind true v = tt
  differ_kind false v = (refl, tt)

  pub ended_kinds : (f : Function) (k : Known N) → AreKinds (is_kind E1) (ended_faults D p f k)
  ended_kinds f k = by_result f.result
    where
      by_result : (o : Option (ℕ × Scalar)) → AreKinds (is_kind E1) (ended_faults D p (record f { result = o }) k)
      by_result None = tt
      by_result (Some r) =
          differ_kind (is_sure_result D p (loaded_result D p Both r k)) (loaded_result D p Both r k).pair
