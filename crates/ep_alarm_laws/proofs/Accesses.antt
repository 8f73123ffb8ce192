-- What the text allows of an access: all through a pointer, and much at an index; so only places that a declaration
-- names have to be looked at.
use Rattle.std.proofs.Common.{◌≡◌, ℕ, Bool, true, false, ◌&&◌, ◌||◌, not, List, [], ◌∷◌, unwrap_or, refl}
use Rattle.std.proofs.lemmas.Bool.{or_left, or_right}
use Rattle.ep_int.specs.declared.types.Scalar.{Scalar}
use Rattle.ep_int.specs.Types.{size_of}
use Rattle.ep_layout.specs.Table.{size}
use Rattle.ep_alarms.specs.declared.types.AlarmKind.{AlarmKind}
use Rattle.ep_alarms.specs.declared.types.AlarmKind.TheVariants.{U5, U6, U7}
use Rattle.ep_domain.specs.Domain.{Ops}
use Rattle.ep_cells.specs.States.{Known}
use Rattle.ep_core.specs.Program.{Place, block, deref, member, element, Program}
use Rattle.ep_core.specs.WellFormed.{place_has, has_scalar, ty_at}
use Rattle.ep_pass.specs.Places.{is_through, is_indexed, is_one_of, address_kinds, access_kinds, kinds_if, place_may}
use Rattle.ep_pass.specs.Places.{expr_may, target_may}
use Rattle.ep_equalities.specs.declared.pair.Mode.{Mode}
use Rattle.ep_equalities.specs.declared.pair.PairValue.{PairValue}
use Rattle.ep_evaluation.specs.Given.{faults_on}
use Rattle.ep_evaluation.specs.Evaluation.{place}
use Rattle.ep_transfers.specs.Places.{range_faults, aligned_faults}
use Rattle.ep_transfers.specs.Transfers.{sizes}
use Rattle.ep_alarm_laws.proofs.Named.{AreKinds, NamedAreSafe, member_faults, odd_faults}
use Rattle.ep_alarm_laws.proofs.Allowed.{AccessesAllowed}
use Rattle.ep_alarm_laws.proofs.FaultKinds.{both_kinds, no_kinds, one_kind}

module _ (strides : Bool) where
  -- an index may leave its bound
  indexed_may : (a : Place) (f : AlarmKind) → is_indexed a ≡ true → is_one_of address_kinds f ≡ true
      → place_may strides f a ≡ true
  indexed_may (block b) f h i = absurd (cc)
  indexed_may (deref e) f h i = absurd (cc)
  indexed_may (member a offset) f h i =
      or_right (is_one_of (kinds_if (is_through a) address_kinds) f) (place_may strides f a) (indexed_may a f h i)
  indexed_may (element a bound unit e) f h i =
      or_left (is_one_of address_kinds f) (place_may strides f a || expr_may strides f e) i

  through_may : (a : Place) (f : AlarmKind) → is_through a ≡ true → is_one_of (U5 ∷ U6 ∷ U7 ∷ []) f ≡ true
      → (is_one_of (U5 ∷ U6 ∷ U7 ∷ kinds_if (not strides && is_indexed a) (U7 ∷ [])) f ≡ true)
      → target_may strides f a ≡ true
  through_may a f h i j = or_left (is_one_of (access_kinds strides f a) f) (place_may strides f a) (rw h j)

  target_indexed : (a : Place) (f : AlarmKind) → is_indexed a ≡ true → is_one_of address_kinds f ≡ true
      → target_may strides f a ≡ true
  target_indexed a f h i =
      or_right (is_one_of (access_kinds strides f a) f) (place_may strides f a) (indexed_may a f h i)

module _ {N : Type 0} (D : Ops N) (p : Program) (strides : Bool) (safe : NamedAreSafe D p strides) where
  range_by : (test : AlarmKind → Bool) → test U5 ≡ true → test U6 ≡ true → (m : Mode) (n : ℕ) (x : PairValue N)
      → AreKinds test (range_faults D (sizes D p) m n x)
  range_by test h i m n x =
      both_kinds test (faults_on m U6 _) (faults_on m U5 _) (one_kind test m U6 _ i) (one_kind test m U5 _ h)

  module _ (seen : List ℕ) (a : Place) (m : Mode) (k : Known N) (told : k.model ≡ p.types.model) where
    even_by : (ty : ℕ) → place_has p.types p.blocks seen a ty ≡ true → (w : Scalar)
        → has_scalar (ty_at p.types p.blocks seen ty) w ≡ true → is_through a ≡ false → is_indexed a ≡ true
        → (t : Bool) → strides ≡ t
        → AreKinds (λ f. target_may strides f a)
        (odd_faults D (sizes D p) m (size_of k.model w) (place D (sizes D p) a m k).pair)
    even_by ty h w s th ix true e =
        no_kinds (λ f. target_may strides f a)
        (odd_faults D (sizes D p) m (size_of k.model w) (place D (sizes D p) a m k).pair)
        (safe.even e seen a ty h th ix w s m k told)
    even_by ty h w s th ix false e =
        one_kind (λ f. target_may strides f a) m U7 _
        (or_left (is_one_of (access_kinds strides U7 a) U7) (place_may strides U7 a) (rw (th, ix, e) refl))

    aligned_by : (ty : ℕ) → place_has p.types p.blocks seen a ty ≡ true → (w : Scalar)
        → has_scalar (ty_at p.types p.blocks seen ty) w ≡ true → (t u : Bool) → is_through a ≡ t → is_indexed a ≡ u
        → AreKinds (λ f. target_may strides f a)
        (aligned_faults D (sizes D p) m (size_of k.model w) (place D (sizes D p) a m k).pair)
    aligned_by ty h w s true u th ix =
        let test : AlarmKind → Bool = λ f. target_may strides f a in
        let x = (place D (sizes D p) a m k).pair in
        both_kinds test (range_faults D (sizes D p) m (size_of k.model w) x)
        (odd_faults D (sizes D p) m (size_of k.model w) x)
        (range_by test (through_may strides a U5 th refl refl) (through_may strides a U6 th refl refl) m
        (size_of k.model w) x)
        (one_kind test m U7 _ (through_may strides a U7 th refl refl))
    aligned_by ty h w s false false th ix =
        no_kinds (λ f. target_may strides f a)
        (aligned_faults D (sizes D p) m (size_of k.model w) (place D (sizes D p) a m k).pair)
        (safe.aligned seen a ty h th ix w s m k told)
    aligned_by ty h w s false true th ix =
        let test : AlarmKind → Bool = λ f. target_may strides f a in
        let x = (place D (sizes D p) a m k).pair in
        both_kinds test (range_faults D (sizes D p) m (size_of k.model w) x)
        (odd_faults D (sizes D p) m (size_of k.model w) x)
        (range_by test (target_indexed strides a U5 ix refl) (target_indexed strides a U6 ix refl) m
        (size_of k.model w) x)
        (even_by ty h w s th ix strides refl)

    whole_by : (ty : ℕ) → place_has p.types p.blocks seen a ty ≡ true → (t u : Bool) → is_through a ≡ t
        → is_indexed a ≡ u
        → AreKinds (λ f. target_may strides f a)
        (range_faults D (sizes D p) m (unwrap_or (size p.types ty) 0) (place D (sizes D p) a m k).pair)
    whole_by ty h true u th ix =
        range_by (λ f. target_may strides f a) (through_may strides a U5 th refl refl)
        (through_may strides a U6 th refl refl) m (unwrap_or (size p.types ty) 0) (place D (sizes D p) a m k).pair
    whole_by ty h false false th ix =
        no_kinds (λ f. target_may strides f a)
        (range_faults D (sizes D p) m (unwrap_or (size p.types ty) 0) (place D (sizes D p) a m k).pair)
        (safe.whole seen a ty h th ix m k told)
    whole_by ty h false true th ix =
        range_by (λ f. target_may strides f a) (target_indexed strides a U5 ix refl)
        (target_indexed strides a U6 ix refl) m (unwrap_or (size p.types ty) 0) (place D (sizes D p) a m k).pair

    member_by : (offset ty : ℕ) → place_has p.types p.blocks seen (member a offset) ty ≡ true → (t u : Bool)
        → is_through a ≡ t → is_indexed a ≡ u
        → AreKinds (λ f. place_may strides f (member a offset))
        (member_faults D p strides offset m (place D (sizes D p) a m k))
    member_by offset ty h true u th ix =
        let test : AlarmKind → Bool = λ f. place_may strides f (member a offset) in
        both_kinds test (faults_on m U6 _) (faults_on m U5 _)
        (one_kind test m U6 _ (or_left (is_one_of (kinds_if (is_through a) address_kinds) U6) (place_may strides U6 a)
        (rw th refl)))
        (one_kind test m U5 _ (or_left (is_one_of (kinds_if (is_through a) address_kinds) U5) (place_may strides U5 a)
        (rw th refl)))
    member_by offset ty h false false th ix =
        no_kinds (λ f. place_may strides f (member a offset))
        (member_faults D p strides offset m (place D (sizes D p) a m k))
        (safe.member_taken seen a offset ty h th ix m k told)
    member_by offset ty h false true th ix =
        let test : AlarmKind → Bool = λ f. place_may strides f (member a offset) in
        both_kinds test (faults_on m U6 _) (faults_on m U5 _)
        (one_kind test m U6 _ (indexed_may strides (member a offset) U6 ix refl))
        (one_kind test m U5 _ (indexed_may strides (member a offset) U5 ix refl))

  pub accesses_allowed : AccessesAllowed D p strides
  accesses_allowed = record {
    aligned = λ seen a ty h w s m k told. aligned_by seen a m k told ty h w s (is_through a) (is_indexed a) refl refl;
    whole = λ seen a ty h m k told. whole_by seen a m k told ty h (is_through a) (is_indexed a) refl refl;
    member_taken = λ seen a offset ty h m k told. member_by seen a m k told offset ty h (is_through a) (is_indexed a)
        refl refl;
  }
