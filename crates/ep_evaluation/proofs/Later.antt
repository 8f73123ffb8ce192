-- Operands that are evaluated later, where the first is of a truth.
use Rattle.std.proofs.Common.{◌≡◌, pos, Bool, true, false, ◌||◌, List, [], Option, Some, None, refl, sym, ◌∙◌, subst}
use Rattle.ep_int.proofs.Basics.{or-false}
use Rattle.ep_int.proofs.Basics.{or-true}
use Rattle.ep_int.specs.declared.types.Order.{Order}
use Rattle.ep_int.specs.declared.types.Scalar.{Scalar}
use Rattle.ep_int.specs.declared.types.Scalar.TheVariants.{Int, Pointer}
use Rattle.ep_int.specs.Memory.{Value as Datum, int, null, pointer, Found, has, faults}
use Rattle.ep_domain.specs.Domain.{Ops, Lawful}
use Rattle.ep_cells.specs.declared.cell.Value.{Value}
use Rattle.ep_cells.specs.declared.cell.Value.TheVariants.{Num, Ptr}
use Rattle.ep_cells.specs.States.{Known}
use Rattle.ep_cells.specs.Meaning.{Memories, Allows}
use Rattle.ep_core.specs.Program.{Program}
use Rattle.ep_core.specs.Exec.{is_true}
use Rattle.ep_core.specs.Runs.{Side, left, right}
use Rattle.ep_equalities.specs.declared.pair.Mode.{Mode}
use Rattle.ep_equalities.specs.declared.pair.Mode.TheVariants.{Both, Left, Right}
use Rattle.ep_equalities.specs.declared.pair.Fault.{Fault}
use Rattle.ep_evaluation.specs.Given.{Given, runs, on, mode_by}
use Rattle.ep_evaluation.specs.Operators.{may_be, test_of}
use Rattle.ep_evaluation.specs.Evaluation.{Means, same, assumed, given_in, given_where, later}
use Rattle.ep_evaluation.specs.Laws.{memory_of, Machine, IsReliable, IsKept, IfKept, Holds, Sound}
use Rattle.ep_evaluation.proofs.General.{reliable_none, runs_both}
use Rattle.ep_evaluation.proofs.Generic.{same_found}
use Rattle.ep_evaluation.proofs.Operators.{some_there}
use Rattle.ep_evaluation.proofs.Assuming.{zero_type, then_kept}
use Rattle.ep_evaluation.proofs.Tests.{compares_zero, some_target}

-- a machine finds a value of a truth
pub record IsOf (x : Found) (t : Bool) : Type 0 where
  pub u : Datum
  pub finds : x ≡ has u
  pub truth : is_true u ≡ t

module _ {N : Type 0} (D : Ops N) (law : Lawful D) (p : Program) (ord : Side → Order) where
  pub may_be_of : (w : Scalar) (o : Option (Value N)) (u : Datum) (t : Bool) → Allows D w o false (Some u)
      → is_true u ≡ t
      → may_be D o t ≡ true
  may_be_of (Int r) None u t a e = absurd (let q : Some u ≡ None = a in cc)
  may_be_of Pointer None u t a e = absurd (let q : Some u ≡ None = a in cc)
  may_be_of (Int r) (Some (Num n)) (int z) t a e =
      some_there _ _ (law.filter_holds (test_of t) n (D.single (pos 0)) z (pos 0) (compares_zero t z e) a.1
      (law.single_holds (pos 0) zero_type))
  may_be_of (Int r) (Some (Num n)) null t a e = absurd a
  may_be_of (Int r) (Some (Num n)) (pointer b q) t a e = absurd a
  may_be_of (Int r) (Some (Ptr x)) (int z) t a e = absurd a
  may_be_of (Int r) (Some (Ptr x)) null t a e = absurd a
  may_be_of (Int r) (Some (Ptr x)) (pointer b q) t a e = absurd a
  may_be_of Pointer (Some (Num n)) (int z) t a e = absurd a
  may_be_of Pointer (Some (Num n)) null t a e = absurd a
  may_be_of Pointer (Some (Num n)) (pointer b q) t a e = absurd a
  may_be_of Pointer (Some (Ptr x)) (int z) t a e = absurd a
  may_be_of Pointer (Some (Ptr x)) null true a e = absurd (let f : false ≡ true = e in cc)
  may_be_of Pointer (Some (Ptr x)) null false a e = a
  may_be_of Pointer (Some (Ptr x)) (pointer b q) true a e = some_target D x b q a
  may_be_of Pointer (Some (Ptr x)) (pointer b q) false a e = absurd (let f : true ≡ false = e in cc)

  -- ---- where and in which mode the later operand is evaluated

  pub record LaterIs (b : Means N) (y : Option (Given N)) (mode : Mode) (m : Memories) (takes : Side → Type 0) : Type 0
    where
      pub r : Mode
      pub j : Known N
      pub kept : IsKept D p ord j m
      pub is : y ≡ Some (b.gives r j)
      pub all : (s : Side) → runs mode s ≡ true → takes s → runs r s ≡ true
      pub reliable : (fs : List Fault) → IsReliable mode fs → IsReliable r fs

  record GivenIn (b : Means N) (r : Mode) (o : Option (Known N)) (m : Memories) : Type 0 where
    j : Known N
    kept : IsKept D p ord j m
    is : given_in D b r o ≡ Some (b.gives r j)

  given_kept : (b : Means N) (r : Mode) (o : Option (Known N)) (m : Memories) → IfKept D p ord o m → GivenIn b r o m
  given_kept b r None m h = absurd h
  given_kept b r (Some k) m h = record { j = k; kept = h; is = refl }

  module _ (w : Scalar) (f : Side → Machine) (a b : Means N) (sound : Sound D p ord w f a) (k : Known N) (m : Memories)
      (kept : IsKept D p ord k m) (t : Bool) where
    abbrev takes : Side → Type 0
    takes s = IsOf (f s (memory_of s m)) t

    abbrev may : Given N → Side → Bool
    may x s = may_be D (on x.pair s).value t

    -- one side's truth is assumed
    assumed_on : (s : Side) (j : Known N) → IsKept D p ord j m → takes s → IfKept D p ord (a.assumes s t j) m
    assumed_on s j i h = sound.assumes j m i s t h.u h.finds h.truth

    only_left : (x : Given N) → may x right ≡ false → ((s : Side) → takes s → may x s ≡ true) → (s : Side) → takes s
        → runs Left s ≡ true
    only_left x g h left c = refl
    only_left x g h right c = absurd (let z : true ≡ false = sym (h right c) ∙ g in cc)

    only_right : (x : Given N) → may x left ≡ false → ((s : Side) → takes s → may x s ≡ true) → (s : Side) → takes s
        → runs Right s ≡ true
    only_right x g h left c = absurd (let z : true ≡ false = sym (h left c) ∙ g in cc)
    only_right x g h right c = refl

    by_both : (al ar st : Bool) (x : Given N) → may x left ≡ al → may x right ≡ ar
        → ((s : Side) → takes s → may x s ≡ true)
        → (st ≡ true → (s i : Side) → takes s → takes i) → (s : Side) → takes s
        → LaterIs b (given_where D a b st t k (mode_by al ar)) Both m takes
    by_both true true true x e g h i s c =
        let l = i refl s left c in
        let r = i refl s right c in
        let o = given_kept b Both (assumed D a Both t k) m
        (then_kept D law p ord m (a.assumes left t k) (a.assumes right t) (assumed_on left k kept l)
        (λ j q. assumed_on right j q r)) in
        record {
          r = Both;
          j = o.j;
          kept = o.kept;
          is = o.is;
          all = λ q _ _. runs_both Both q refl;
          reliable = λ fs q.
              q;
        }
    by_both true true false x e g h i s c =
        record { r = Both; j = k; kept = kept; is = refl; all = λ q _ _. runs_both Both q refl; reliable = λ fs q. q }
    by_both true false true x e g h i left c =
        let o = given_kept b Left (assumed D a Left t k) m (assumed_on left k kept c) in
        record {
          r = Left;
          j = o.j;
          kept = o.kept;
          is = o.is;
          all = λ q _ z. only_left x g h q z;
          reliable = λ fs q.
              reliable_none Left fs q;
        }
    by_both true false false x e g h i left c =
        record {
          r = Left;
          j = k;
          kept = kept;
          is = refl;
          all = λ q _ z. only_left x g h q z;
          reliable = λ fs q.
              reliable_none Left fs q;
        }
    by_both true false st x e g h i right c = absurd (let z : true ≡ false = sym (h right c) ∙ g in cc)
    by_both false true true x e g h i right c =
        let o = given_kept b Right (assumed D a Right t k) m (assumed_on right k kept c) in
        record {
          r = Right;
          j = o.j;
          kept = o.kept;
          is = o.is;
          all = λ q _ z. only_right x e h q z;
          reliable = λ fs q.
              reliable_none Right fs q;
        }
    by_both false true false x e g h i right c =
        record {
          r = Right;
          j = k;
          kept = kept;
          is = refl;
          all = λ q _ z. only_right x e h q z;
          reliable = λ fs q.
              reliable_none Right fs q;
        }
    by_both false true st x e g h i left c = absurd (let z : true ≡ false = sym (h left c) ∙ e in cc)
    by_both false false st x e g h i left c = absurd (let z : true ≡ false = sym (h left c) ∙ e in cc)
    by_both false false st x e g h i right c = absurd (let z : true ≡ false = sym (h right c) ∙ g in cc)

    -- of a machine that takes it: it may have this truth
    takes_may : (mode : Mode) (x : Given N) → Holds D p ord w (λ s. f s (memory_of s m)) k m mode x
        → IsReliable mode x.faults
        → (s : Side) → runs mode s ≡ true → takes s → may x s ≡ true
    takes_may mode x h rel s r c = may_be_of w (on x.pair s).value c.u t (h.held rel s r c.u c.finds).value c.truth

    -- where both have the same, both take it
    takes_all : (x : Given N) → Holds D p ord w (λ s. f s (memory_of s m)) k m Both x → x.faults ≡ [] → same D x ≡ true
        → (s i : Side) → takes s → takes i
    takes_all x h none e left left c = c
    takes_all x h none e right right c = c
    takes_all x h none e left right c =
        let v = h.found none right refl in
        let q = same_found D law p ord w (λ s. f s (memory_of s m)) k m Both x h refl none e c.u v.0 c.finds v.1 in
        record { u = v.0; finds = v.1; truth = subst (λ z. is_true z ≡ t) q c.truth }
    takes_all x h none e right left c =
        let v = h.found none left refl in
        let q = same_found D law p ord w (λ s. f s (memory_of s m)) k m Both x h refl none e v.0 c.u v.1 c.finds in
        record { u = v.0; finds = v.1; truth = subst (λ z. is_true z ≡ t) (sym q) c.truth }

    by_left : (al st : Bool) (x : Given N) → may x left ≡ al → st ≡ true → (takes left → may x left ≡ true) → takes left
        → LaterIs b (given_where D a b st t k (mode_by al false)) Left m takes
    by_left true true x e q h c =
        let o = given_kept b Left (assumed D a Left t k) m (assumed_on left k kept c) in
        record { r = Left; j = o.j; kept = o.kept; is = o.is; all = λ i r _. r; reliable = λ fs q. q }
    by_left true false x e q h c = absurd (let z : false ≡ true = q in cc)
    by_left false st x e q h c = absurd (let z : true ≡ false = sym (h c) ∙ e in cc)

    by_right : (ar st : Bool) (x : Given N) → may x right ≡ ar → st ≡ true → (takes right → may x right ≡ true)
        → takes right
        → LaterIs b (given_where D a b st t k (mode_by false ar)) Right m takes
    by_right true true x e q h c =
        let o = given_kept b Right (assumed D a Right t k) m (assumed_on right k kept c) in
        record { r = Right; j = o.j; kept = o.kept; is = o.is; all = λ i r _. r; reliable = λ fs q. q }
    by_right true false x e q h c = absurd (let z : false ≡ true = q in cc)
    by_right false st x e q h c = absurd (let z : true ≡ false = sym (h c) ∙ e in cc)

    pub later_is : (mode : Mode) (x : Given N) → Holds D p ord w (λ s. f s (memory_of s m)) k m mode x
        → IsReliable mode x.faults
        → (s : Side) → runs mode s ≡ true → takes s → LaterIs b (later D a b mode t k x) mode m takes
    later_is Both x h rel s r c =
        by_both (may x left) (may x right) (same D x || false) x refl refl
        (λ i q. takes_may Both x h rel i (runs_both Both i refl) q)
        (λ e i j q. takes_all x h rel (sym (or-false (same D x)) ∙ e) i j q) s c
    later_is Left x h rel left r c =
        by_left (may x left) (same D x || true) x refl (or-true (same D x)) (λ q. takes_may Left x h rel left refl q) c
    later_is Left x h rel right r c = absurd (let z : false ≡ true = r in cc)
    later_is Right x h rel right r c =
        by_right (may x right) (same D x || true) x refl (or-true (same D x))
        (λ q. takes_may Right x h rel right refl q) c
    later_is Right x h rel left r c = absurd (let z : false ≡ true = r in cc)
