-- The faults of typed statements, of arguments and of results are of kinds that their text may have.
use Rattle.std.proofs.Common.{◌≡◌, ℕ, zero, suc, ◌+◌, Bool, true, false, ◌&&◌, ◌||◌, not, if◌then◌else◌, List, []}
use Rattle.std.proofs.Common.{◌∷◌, ◌++◌, slice_get, Option, Some, None, is_some, option_to_list, refl}
use Rattle.std.specs.List.{list_all}
use Rattle.std.proofs.lemmas.Bool.{and_parts, or_left, or_right}
use Rattle.ep_int.specs.declared.types.IntType.{IntType}
use Rattle.ep_int.specs.declared.types.IntType.TheVariants.{U8}
use Rattle.ep_int.specs.declared.types.Scalar.{Scalar}
use Rattle.ep_int.specs.declared.types.Scalar.TheVariants.{Pointer}
use Rattle.ep_int.specs.Types.{size_of}
use Rattle.ep_layout.specs.Table.{size, leaves}
use Rattle.ep_alarms.specs.declared.types.AlarmKind.{AlarmKind}
use Rattle.ep_alarms.specs.declared.types.AlarmKind.TheVariants.{U4, U5, U6, U9, U10, E1, E2}
use Rattle.ep_domain.specs.Domain.{Ops, Lawful}
use Rattle.ep_cells.specs.States.{Known}
use Rattle.ep_core.specs.Program.{Place, Expr, Dest, Simple, nothing, eval, assign, clear, copy_aggregate, copy_bytes}
use Rattle.ep_core.specs.Program.{fill, input, output, read_bytes, write_bytes, returns, Program}
use Rattle.ep_core.specs.WellFormed.{integer, pointer_to, has_scalar, ty_at, place_has, has_sort, has_type, is_tested}
use Rattle.ep_core.specs.WellFormed.{is_address, is_length, int_type_of, some_type, takes_input, result_type}
use Rattle.ep_core.specs.WellFormed.{block_type, holds_scalar, result_fits, simple_fits}
use Rattle.ep_core.proofs.Sorts.{three, type_where, pointer_where, tested_where, typed_where}
use Rattle.ep_pass.specs.States.{Mode as PassMode, Both as BothRun, One}
use Rattle.ep_pass.specs.Honest.{is_alone}
use Rattle.ep_pass.specs.Places.{is_one_of, read_kinds, address_kinds, access_kinds, expr_may, place_may, target_may}
use Rattle.ep_pass.specs.Places.{alone_kinds, simple_may}
use Rattle.ep_core.specs.Runs.{left, right}
use Rattle.ep_equalities.specs.declared.pair.Mode.{Mode}
use Rattle.ep_equalities.specs.declared.pair.Mode.TheVariants.{Both, Left, Right}
use Rattle.ep_equalities.specs.declared.pair.Fault.{Fault}
use Rattle.ep_equalities.specs.declared.pair.PairValue.{PairValue}
use Rattle.ep_equalities.specs.Same.{is_same}
use Rattle.ep_evaluation.specs.Given.{faults_on}
use Rattle.ep_evaluation.specs.Evaluation.{place}
use Rattle.ep_transfers.specs.Places.{Places, has_places, has_values, places_of, range_faults, aligned_faults}
use Rattle.ep_transfers.specs.Cells.{mode_of}
use Rattle.ep_transfers.specs.Copies.{Leaves, overlap_faults}
use Rattle.ep_transfers.specs.Transfers.{Stepped, stepped, alone_faults, differ_faults, differs, differs_if}
use Rattle.ep_transfers.specs.Transfers.{byte_pair, byte_faults, bytes_out, assigned, copy, written_out, to_block}
use Rattle.ep_transfers.specs.Transfers.{sizes, gives, bytes_of_type, input_pair, simple_step}
use Rattle.ep_alarm_laws.proofs.Named.{AreKinds}
use Rattle.ep_alarm_laws.proofs.Allowed.{AccessesAllowed}
use Rattle.ep_alarm_laws.proofs.FaultKinds.{both_kinds, wider_kinds, no_kinds, one_kind}
use Rattle.ep_alarm_laws.proofs.OwnPlaces.{HaveOwnPlaces}
use Rattle.ep_alarm_laws.proofs.Expressions.{expr_kinds, place_kinds}

-- ---- faults of runs of bytes, of inputs and of outputs

-- where both machines run, or the statement may stand where one does
alone_by : (m : PassMode) (test : AlarmKind → Bool) → (is_alone m ≡ true → test E2 ≡ true)
    → AreKinds test (alone_faults (mode_of m))
alone_by BothRun test h = tt
alone_by (One left) test h = (h refl, tt)
alone_by (One right) test h = (h refl, tt)

module _ {N : Type 0} (D : Ops N) (sizes : List ℕ) (test : AlarmKind → Bool) where
  range_kinds : test U5 ≡ true → test U6 ≡ true → (m : Mode) (n : ℕ) (a : PairValue N)
      → AreKinds test (range_faults D sizes m n a)
  range_kinds h i m n a =
      both_kinds test (faults_on m U6 _) (faults_on m U5 _) (one_kind test m U6 _ i) (one_kind test m U5 _ h)

  copy_kinds : test U5 ≡ true → test U6 ≡ true → test U9 ≡ true → (m : Mode) (n : ℕ) (ls : Leaves)
      (to from : PairValue N) (k : Known N) → AreKinds test (copy D sizes m n ls to from k).faults
  copy_kinds h i j m n ls to from k =
      both_kinds test (range_faults D sizes m n to) (range_faults D sizes m n from ++ overlap_faults D sizes m (is_some
      ls) n to from) (range_kinds h i m n to)
      (both_kinds test (range_faults D sizes m n from) (overlap_faults D sizes m (is_some ls) n to from)
      (range_kinds h i m n from) (one_kind test m U9 _ j))

  differ_kinds : test E1 ≡ true → (t : Bool) (v : PairValue N) → AreKinds test (differ_faults D t v)
  differ_kinds h true v = tt
  differ_kinds h false v = (h, tt)

  differs_kinds : test E1 ≡ true → (m : Mode) (v : PairValue N) → AreKinds test (differs D m v)
  differs_kinds h Both v = differ_kinds h (is_same D v) v
  differs_kinds h Left v = tt
  differs_kinds h Right v = tt

  differs_if_kinds : test E1 ≡ true → (t : Bool) (m : Mode) (v : PairValue N) → AreKinds test (differs_if D t m v)
  differs_if_kinds h true m v = differs_kinds h m v
  differs_if_kinds h false m v = tt

  if_kinds : (t : Bool) (a b : Stepped N) → AreKinds test a.faults → AreKinds test b.faults
      → AreKinds test (if t then a else b).faults
  if_kinds true a b h i = h
  if_kinds false a b h i = i

  bytes_kinds : test U4 ≡ true → test U10 ≡ true → test E1 ≡ true → (m : Mode) (same : Bool) (k : Known N) (p : Places)
      (i n : ℕ) → AreKinds test (bytes_out D m same k p i n).faults
  bytes_kinds h j e m same k p i zero = tt
  bytes_kinds h j e m same k p i (suc n) =
      let v = byte_pair D m same k p i in
      let rest = bytes_out D m same k p (i + 1) n in
      let last : Stepped N = stepped (differs D m v ++ rest.faults) rest.next in
      both_kinds test (byte_faults D m k p i) (if has_values m v then last else stepped [] None).faults
      (both_kinds test (faults_on m U4 _) (faults_on m U10 _) (one_kind test m U4 _ h) (one_kind test m U10 _ j))
      (if_kinds (has_values m v) last (stepped [] None)
      (both_kinds test (differs D m v) rest.faults (differs_kinds e m v)
      (bytes_kinds h j e m same k p (i + 1) n)) tt)

  out_kinds : test U4 ≡ true → test U5 ≡ true → test U6 ≡ true → test U10 ≡ true → test E1 ≡ true → (m : Mode) (n : ℕ)
      (from : PairValue N) (k : Known N) → AreKinds test (written_out D sizes m n from k).faults
  out_kinds a b c d e m n from k =
      let p = places_of D sizes n 1 from in
      let last = bytes_out D m (is_same D from) k p 0 n in
      both_kinds test (range_faults D sizes m n from) (if has_places m p then last else stepped [] None).faults
      (range_kinds b c m n from)
      (if_kinds (has_places m p) last (stepped [] None) (bytes_kinds a d e m (is_same D from) k p 0 n) tt)

module _ {N : Type 0} (D : Ops N) (law : Lawful D) (p : Program) (strides : Bool) (ok : AccessesAllowed D p strides)
    (own : HaveOwnPlaces D p) where
  -- ---- values and places

  pub typed_kinds : (seen : List ℕ) (e : Expr) (ty : ℕ) → has_type p.types p.blocks seen e ty ≡ true → (m : Mode)
      (k : Known N) → k.model ≡ p.types.model → AreKinds (λ f. expr_may strides f e) (gives D p e m k).faults
  typed_kinds seen e ty h m k i =
      let s = typed_where p.types p.blocks seen e ty h in expr_kinds D law p strides ok seen e s.0 s.2 m k i

  address_kind : (seen : List ℕ) (e : Expr) → is_address p.types p.blocks seen e ≡ true → (m : Mode)
      (k : Known N) → k.model ≡ p.types.model → AreKinds (λ f. expr_may strides f e) (gives D p e m k).faults
  address_kind seen e h m k i =
      let s = pointer_where p.types p.blocks seen (has_sort p.types p.blocks seen e) h in
      expr_kinds D law p strides ok seen e (pointer_to s.0) s.1 m k i

  pub tested_kinds : (seen : List ℕ) (e : Expr) → is_tested p.types p.blocks seen e ≡ true → (m : Mode)
      (k : Known N) → k.model ≡ p.types.model → AreKinds (λ f. expr_may strides f e) (gives D p e m k).faults
  tested_kinds seen e h m k i =
      let s = tested_where p.types p.blocks seen (int_type_of e) (has_sort p.types p.blocks seen e) h in
      expr_kinds D law p strides ok seen e s.0 s.1 m k i

  -- a place that is written, with the scalar or the whole that goes there
  pub target_kinds : (seen : List ℕ) (a : Place) (ty : ℕ) → place_has p.types p.blocks seen a ty ≡ true → (m : Mode)
      (k : Known N) → k.model ≡ p.types.model
      → AreKinds (λ f. target_may strides f a) (place D (sizes D p) a m k).faults
  target_kinds seen a ty h m k i =
      wider_kinds (λ f. place_may strides f a) (λ f. target_may strides f a) (place D (sizes D p) a m k).faults
      (λ f g. or_right (is_one_of (access_kinds strides f a) f) (place_may strides f a) g)
      (place_kinds D law p strides ok seen a ty h m k i)

  -- a value that goes to a place
  put_kinds : (seen : List ℕ) (a : Place) (ty : ℕ) → place_has p.types p.blocks seen a ty ≡ true → (w : Scalar)
      → has_scalar (ty_at p.types p.blocks seen ty) w ≡ true → (m : Mode) (k : Known N) → k.model ≡ p.types.model
      → (v : PairValue N)
      → AreKinds (λ f. target_may strides f a)
      (assigned D (sizes D p) m w (place D (sizes D p) a m k).pair v k).faults
  put_kinds seen a ty h w s m k i v = ok.aligned seen a ty h w s m k i

  -- ---- each statement
  module _ (m : PassMode) (k : Known N) (told : k.model ≡ p.types.model) (seen : List ℕ) where
    abbrev mode : Mode
    mode = mode_of m

    abbrev May : Simple → AlarmKind → Bool
    May w f = simple_may strides f (is_alone m) w

    -- of two places or values, with what comes behind
    behind_two : (test u v : AlarmKind → Bool) (xs ys rest : List Fault) → AreKinds u xs → AreKinds v ys
        → ((f : AlarmKind) → u f ≡ true → test f ≡ true) → ((f : AlarmKind) → v f ≡ true → test f ≡ true)
        → AreKinds test rest → AreKinds test ((xs ++ ys) ++ rest)
    behind_two test u v xs ys rest hx hy fu fv h =
        both_kinds test (xs ++ ys) rest
        (both_kinds test xs ys (wider_kinds u test xs fu hx) (wider_kinds v test ys fv hy)) h

    behind_one : (test u : AlarmKind → Bool) (xs rest : List Fault) → AreKinds u xs
        → ((f : AlarmKind) → u f ≡ true → test f ≡ true) → AreKinds test rest → AreKinds test (xs ++ rest)
    behind_one test u xs rest hx fu h = both_kinds test xs rest (wider_kinds u test xs fu hx) h

    second_of : (x a b : Bool) → a ≡ true → (x || (a || b)) ≡ true
    second_of x a b h = or_right x (a || b) (or_left a b h)

    third_of : (x a b : Bool) → b ≡ true → (x || (a || b)) ≡ true
    third_of x a b h = or_right x (a || b) (or_right a b h)

    eval_kinds : (r : Option (ℕ × Scalar)) (e : Expr) → is_tested p.types p.blocks seen e ≡ true
        → AreKinds (May (eval e)) (simple_step D p mode r (eval e) k).faults
    eval_kinds r e h =
        behind_one (May (eval e)) (λ f. expr_may strides f e) (gives D p e mode k).faults []
        (tested_kinds seen e h mode k told) (λ f g. g) tt

    assign_kinds : (r : Option (ℕ × Scalar)) (w : Scalar) (a : Place) (e : Expr)
        → some_type p.types p.blocks seen (λ u. has_scalar u w)
        (λ ty. place_has p.types p.blocks seen a ty && has_type p.types p.blocks seen e ty) ≡ true
        → AreKinds (May (assign w a e)) (simple_step D p mode r (assign w a e) k).faults
    assign_kinds r w a e h =
        let t = type_where p.types p.blocks seen (λ u. has_scalar u w)
        (λ ty. place_has p.types p.blocks seen a ty && has_type p.types p.blocks seen e ty) h in
        let s = and_parts (place_has p.types p.blocks seen a t.0) (has_type p.types p.blocks seen e t.0) t.2 in
        let to = place D (sizes D p) a mode k in
        let v = gives D p e mode k in
        behind_two (May (assign w a e)) (λ f. target_may strides f a) (λ f. expr_may strides f e) to.faults v.faults
        (assigned D (sizes D p) mode w to.pair v.pair k).faults (target_kinds seen a t.0 s.0 mode k told)
        (typed_kinds seen e t.0 s.1 mode k told) (λ f g. or_left (target_may strides f a) (expr_may strides f e) g)
        (λ f g. or_right (target_may strides f a) (expr_may strides f e) g)
        (wider_kinds (λ f. target_may strides f a) (May (assign w a e))
        (assigned D (sizes D p) mode w to.pair v.pair k).faults
        (λ f g. or_left (target_may strides f a) (expr_may strides f e) g)
        (put_kinds seen a t.0 s.0 w t.1 mode k told v.pair))

    clear_kinds : (r : Option (ℕ × Scalar)) (a : Place) (ty : ℕ) → place_has p.types p.blocks seen a ty ≡ true
        → AreKinds (May (clear a ty)) (simple_step D p mode r (clear a ty) k).faults
    clear_kinds r a ty h =
        let to = place D (sizes D p) a mode k in
        behind_one (May (clear a ty)) (λ f. target_may strides f a) to.faults
        (range_faults D (sizes D p) mode (bytes_of_type D p ty) to.pair) (target_kinds seen a ty h mode k told)
        (λ f g. g) (ok.whole seen a ty h mode k told)

    aggregate_kinds : (r : Option (ℕ × Scalar)) (a b : Place) (ty : ℕ) → place_has p.types p.blocks seen a ty ≡ true
        → place_has p.types p.blocks seen b ty ≡ true
        → AreKinds (May (copy_aggregate a b ty)) (simple_step D p mode r (copy_aggregate a b ty) k).faults
    aggregate_kinds r a b ty h i =
        let to = place D (sizes D p) a mode k in
        let from = place D (sizes D p) b mode k in
        behind_two (May (copy_aggregate a b ty)) (λ f. place_may strides f a) (λ f. place_may strides f b) to.faults
        from.faults
        (copy D (sizes D p) mode (bytes_of_type D p ty) (Some (leaves p.types ty)) to.pair from.pair k).faults
        (place_kinds D law p strides ok seen a ty h mode k told)
        (place_kinds D law p strides ok seen b ty i mode k told)
        (λ f g. second_of (is_one_of (U5 ∷ U6 ∷ U9 ∷ []) f) (place_may strides f a) (place_may strides f b) g)
        (λ f g. third_of (is_one_of (U5 ∷ U6 ∷ U9 ∷ []) f) (place_may strides f a) (place_may strides f b) g)
        (copy_kinds D (sizes D p) (May (copy_aggregate a b ty)) refl refl refl mode (bytes_of_type D p ty)
        (Some (leaves p.types ty)) to.pair from.pair k)

    copied_kinds : (r : Option (ℕ × Scalar)) (a b : Expr) (n : ℕ) → is_address p.types p.blocks seen a ≡ true
        → is_address p.types p.blocks seen b ≡ true
        → AreKinds (May (copy_bytes a b n)) (simple_step D p mode r (copy_bytes a b n) k).faults
    copied_kinds r a b n h i =
        let to = gives D p a mode k in
        let from = gives D p b mode k in
        behind_two (May (copy_bytes a b n)) (λ f. expr_may strides f a) (λ f. expr_may strides f b) to.faults
        from.faults (copy D (sizes D p) mode n None to.pair from.pair k).faults (address_kind seen a h mode k told)
        (address_kind seen b i mode k told)
        (λ f g. second_of (is_one_of (U5 ∷ U6 ∷ U9 ∷ []) f) (expr_may strides f a) (expr_may strides f b) g)
        (λ f g. third_of (is_one_of (U5 ∷ U6 ∷ U9 ∷ []) f) (expr_may strides f a) (expr_may strides f b) g)
        (copy_kinds D (sizes D p) (May (copy_bytes a b n)) refl refl refl mode n None to.pair from.pair k)

    fill_kinds : (r : Option (ℕ × Scalar)) (a e : Expr) (n : ℕ) → is_address p.types p.blocks seen a ≡ true
        → has_sort p.types p.blocks seen e (integer U8) ≡ true
        → AreKinds (May (fill a e n)) (simple_step D p mode r (fill a e n) k).faults
    fill_kinds r a e n h i =
        let to = gives D p a mode k in
        let v = gives D p e mode k in
        behind_two (May (fill a e n)) (λ f. expr_may strides f a) (λ f. expr_may strides f e) to.faults v.faults
        (range_faults D (sizes D p) mode n to.pair) (address_kind seen a h mode k told)
        (expr_kinds D law p strides ok seen e (integer U8) i mode k told)
        (λ f g. second_of (is_one_of address_kinds f) (expr_may strides f a) (expr_may strides f e) g)
        (λ f g. third_of (is_one_of address_kinds f) (expr_may strides f a) (expr_may strides f e) g)
        (range_kinds D (sizes D p) (May (fill a e n)) refl refl mode n to.pair)

    -- one machine may run alone
    alone_kind : (test : AlarmKind → Bool) → (is_alone m ≡ true → test E2 ≡ true) → AreKinds test (alone_faults mode)
    alone_kind test h = alone_by m test h

    input_kinds : (r : Option (ℕ × Scalar)) (t : IntType) (d : Option Dest)
        → takes_input p.types p.blocks seen d ≡ true
        → AreKinds (May (input t d)) (simple_step D p mode r (input t d) k).faults
    input_kinds r t None h = alone_kind (May (input t None)) (λ e. rw e refl)
    input_kinds r t (Some d) h =
        let s = type_where p.types p.blocks seen (λ u. has_scalar u d.what && not (has_scalar u Pointer))
        (place_has p.types p.blocks seen d.place) h in
        let i = (and_parts (has_scalar (ty_at p.types p.blocks seen s.0) d.what) (not (has_scalar (ty_at p.types
        p.blocks seen s.0) Pointer)) s.1).0 in
        let to = place D (sizes D p) d.place mode k in
        let last = (assigned D (sizes D p) mode d.what to.pair (input_pair D mode t d.what) k).faults in
        behind_one (May (input t (Some d))) (λ f. target_may strides f d.place) to.faults (alone_faults mode ++ last)
        (target_kinds seen d.place s.0 s.2 mode k told)
        (λ f g. or_right (is_one_of (alone_kinds strides f (is_alone m)) f) (target_may strides f d.place) g)
        (both_kinds (May (input t (Some d))) (alone_faults mode) last
        (alone_kind (May (input t (Some d))) (λ e. rw e refl))
        (wider_kinds (λ f. target_may strides f d.place) (May (input t (Some d))) last
        (λ f g. or_right (is_one_of (alone_kinds strides f (is_alone m)) f) (target_may strides f d.place) g)
        (put_kinds seen d.place s.0 s.2 d.what i mode k told (input_pair D mode t d.what))))

    output_kinds : (r : Option (ℕ × Scalar)) (t : IntType) (e : Expr)
        → has_sort p.types p.blocks seen e (integer t) ≡ true
        → AreKinds (May (output t e)) (simple_step D p mode r (output t e) k).faults
    output_kinds r t e h =
        let v = gives D p e mode k in
        let last = differs_if D (has_values mode v.pair) mode v.pair in
        behind_one (May (output t e)) (λ f. expr_may strides f e) v.faults (alone_faults mode ++ last)
        (expr_kinds D law p strides ok seen e (integer t) h mode k told)
        (λ f g. or_right (is_one_of (E1 ∷ alone_kinds strides f (is_alone m)) f) (expr_may strides f e) g)
        (both_kinds (May (output t e)) (alone_faults mode) last (alone_kind (May (output t e)) (λ q. rw q refl))
        (differs_if_kinds D (sizes D p) (May (output t e)) refl (has_values mode v.pair) mode v.pair))

    read_kind : (r : Option (ℕ × Scalar)) (e : Expr) (n : ℕ) → is_address p.types p.blocks seen e ≡ true
        → AreKinds (May (read_bytes e n)) (simple_step D p mode r (read_bytes e n) k).faults
    read_kind r e n h =
        let v = gives D p e mode k in
        let test = May (read_bytes e n) in
        behind_one test (λ f. expr_may strides f e) v.faults
        (alone_faults mode ++ range_faults D (sizes D p) mode n v.pair) (address_kind seen e h mode k told)
        (λ f g. third_of (is_one_of (alone_kinds strides f (is_alone m)) f) (is_one_of address_kinds f)
        (expr_may strides f e) g)
        (both_kinds test (alone_faults mode) (range_faults D (sizes D p) mode n v.pair)
        (alone_kind test (λ q. rw q refl))
        (range_kinds D (sizes D p) test
        (or_right (is_one_of (alone_kinds strides U5 (is_alone m)) U5) _ refl)
        (or_right (is_one_of (alone_kinds strides U6 (is_alone m)) U6) _ refl) mode n v.pair))

    write_kind : (r : Option (ℕ × Scalar)) (e : Expr) (n : ℕ) → is_address p.types p.blocks seen e ≡ true
        → AreKinds (May (write_bytes e n)) (simple_step D p mode r (write_bytes e n) k).faults
    write_kind r e n h =
        let v = gives D p e mode k in
        let test = May (write_bytes e n) in
        let first : AlarmKind → Bool = λ f. is_one_of (E1 ∷ alone_kinds strides f (is_alone m)) f in
        let last = (written_out D (sizes D p) mode n v.pair k).faults in
        behind_one test (λ f. expr_may strides f e) v.faults (alone_faults mode ++ last)
        (address_kind seen e h mode k told)
        (λ f g. or_right (first f) _ (third_of (is_one_of read_kinds f) (is_one_of address_kinds f) (expr_may strides f
        e) g))
        (both_kinds test (alone_faults mode) last (alone_kind test (λ q. rw q refl))
        (out_kinds D (sizes D p) test (or_right (first U4) _ refl) (or_right (first U5) _ refl)
        (or_right (first U6) _ refl) (or_right (first U10) _ refl) refl mode n v.pair k))

    -- what is returned
    return_by : (r : ℕ × Scalar) → holds_scalar p.types p.blocks r ≡ true → (e : Expr) (o : Option ℕ)
        → result_fits p.types p.blocks seen o (Some e) ≡ true
        → AreKinds (May (returns (Some e))) (simple_step D p mode (Some r) (returns (Some e)) k).faults
    return_by r g e None h = absurd (cc)
    return_by r g e (Some ty) h =
        let v = gives D p e mode k in
        behind_one (May (returns (Some e))) (λ f. expr_may strides f e) v.faults
        (assigned D (sizes D p) mode r.1 (to_block D mode r.0) v.pair k).faults (typed_kinds seen e ty h mode k told)
        (λ f q. q) (no_kinds (May (returns (Some e))) (aligned_faults D (sizes D p) mode (size_of k.model r.1)
        (to_block D mode r.0)) (own r g mode k told))

    return_kinds : (r : Option (ℕ × Scalar)) → list_all (holds_scalar p.types p.blocks) (option_to_list r) ≡ true
        → (e : Option Expr) → result_fits p.types p.blocks seen (result_type p.blocks r) e ≡ true
        → AreKinds (May (returns e)) (simple_step D p mode r (returns e) k).faults
    return_kinds r g None h = tt
    return_kinds None g (Some e) h = absurd (cc)
    return_kinds (Some r) g (Some e) h =
        return_by r (and_parts (holds_scalar p.types p.blocks r) true g).0 e (block_type (slice_get p.blocks r.0)) h

    pub simple_kinds : (here : ℕ) (r : Option (ℕ × Scalar))
        → list_all (holds_scalar p.types p.blocks) (option_to_list r) ≡ true → (w : Simple)
        → simple_fits p here (result_type p.blocks r) w seen ≡ true
        → AreKinds (May w) (simple_step D p mode r w k).faults
    simple_kinds here r g nothing h = tt
    simple_kinds here r g (eval e) h = eval_kinds r e h
    simple_kinds here r g (assign w a e) h = assign_kinds r w a e h
    simple_kinds here r g (clear a ty) h =
        clear_kinds r a ty (and_parts (place_has p.types p.blocks seen a ty) (is_some (size p.types ty)) h).0
    simple_kinds here r g (copy_aggregate a b ty) h =
        let s = three (place_has p.types p.blocks seen a ty) (place_has p.types p.blocks seen b ty)
        (is_some (size p.types ty)) h in
        aggregate_kinds r a b ty s.0 s.1
    simple_kinds here r g (copy_bytes a b n) h =
        let s = three (is_length n) (is_address p.types p.blocks seen a) (is_address p.types p.blocks seen b) h in
        copied_kinds r a b n s.1 s.2
    simple_kinds here r g (fill a e n) h =
        let s = three (is_length n) (is_address p.types p.blocks seen a)
        (has_sort p.types p.blocks seen e (integer U8)) h in
        fill_kinds r a e n s.1 s.2
    simple_kinds here r g (input t d) h = input_kinds r t d h
    simple_kinds here r g (output t e) h = output_kinds r t e h
    simple_kinds here r g (read_bytes e n) h =
        read_kind r e n (and_parts (is_length n) (is_address p.types p.blocks seen e) h).1
    simple_kinds here r g (write_bytes e n) h =
        write_kind r e n (and_parts (is_length n) (is_address p.types p.blocks seen e) h).1
    simple_kinds here r g (returns e) h = return_kinds r g e h
