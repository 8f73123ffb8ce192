-- `&&` and `||`.
use Rattle.std.proofs.Common.{◌≡◌, pos, Bool, true, false, ◌&&◌, ◌||◌, not, cond, [], Option, Some, refl, sym, ap}
use Rattle.std.proofs.Common.{◌∙◌, subst}
use Rattle.std.proofs.lemmas.Bool.{and_parts, or_left, or_right}
use Rattle.ep_int.specs.declared.types.Order.{Order}
use Rattle.ep_int.specs.declared.types.IntType.TheVariants.{I32}
use Rattle.ep_int.specs.declared.types.Scalar.{Scalar}
use Rattle.ep_int.specs.declared.types.Scalar.TheVariants.{Int}
use Rattle.ep_int.specs.Memory.{Memory, Value as Datum, int, Found, has, faults}
use Rattle.ep_domain.specs.Domain.{Ops, Lawful}
use Rattle.ep_cells.specs.States.{Known}
use Rattle.ep_cells.specs.Meaning.{Memories, Allows, numbers_of}
use Rattle.ep_cells.specs.Laws.{JoinLaws}
use Rattle.ep_reads.specs.SplitLaws.{UnifyLaws}
use Rattle.ep_core.specs.Program.{Program}
use Rattle.ep_core.specs.Exec.{is_true, truth}
use Rattle.ep_core.specs.Runs.{Side, left, right}
use Rattle.ep_equalities.specs.declared.pair.Mode.{Mode}
use Rattle.ep_equalities.specs.declared.pair.Mode.TheVariants.{Both, Left, Right}
use Rattle.ep_equalities.specs.declared.pair.SideValue.{SideValue}
use Rattle.ep_equalities.specs.Pairs.{SideIn}
use Rattle.ep_evaluation.specs.Given.{Given, runs, on}
use Rattle.ep_evaluation.specs.Operators.{may_be}
use Rattle.ep_evaluation.specs.Narrowed.{then_with}
use Rattle.ep_evaluation.specs.Evaluation.{Means, same, later, later_side, later_faults, later_same, short_side}
use Rattle.ep_evaluation.specs.Evaluation.{short_in, short_assumed}
use Rattle.ep_evaluation.specs.Laws.{memory_of, Machine, IsReliable, IsState, IfState, IsKept, IfKept, Holds}
use Rattle.ep_evaluation.specs.Laws.{Sound}
use Rattle.ep_evaluation.proofs.General.{none_left, reliable_parts, reliable_none, on_running, equal_is, runs_both}
use Rattle.ep_evaluation.proofs.Generic.{same_found}
use Rattle.ep_evaluation.proofs.Operators.{truth_allowed}
use Rattle.ep_evaluation.proofs.Assuming.{then_kept, then_state, either_state, either_left, either_right}
use Rattle.ep_evaluation.proofs.Later.{IsOf, may_be_of, LaterIs, later_is}

-- what machines find of the whole: the truth of the second operand where the first is t, else what the first says
pub data ShortParts (t : Bool) (x y : Found) (z : Datum) : Type 0 where
  of_second : IsOf x t → (w : Datum) → y ≡ has w → z ≡ int (cond (is_true w) (pos 1) (pos 0)) → ShortParts t x y z
  of_first : IsOf x (not t) → z ≡ int (cond (not t) (pos 1) (pos 0)) → ShortParts t x y z

pub record IsShort (t : Bool) (f h both : Side → Machine) : Type 0 where
  pub parts : (s : Side) (m : Memory) (z : Datum) → both s m ≡ has z → ShortParts t (f s m) (h s m) z
  pub second : (s : Side) (m : Memory) (w : Datum) → IsOf (f s m) t → h s m ≡ has w → both s m ≡ truth (is_true w)
  pub first : (s : Side) (m : Memory) → IsOf (f s m) (not t) → both s m ≡ truth (not t)

-- a truth is t or not
pub data Truth (t b : Bool) : Type 0 where
  is : b ≡ t → Truth t b
  other : b ≡ not t → Truth t b

pub truth_of : (t b : Bool) → Truth t b
truth_of true true = is refl
truth_of true false = other refl
truth_of false true = other refl
truth_of false false = is refl

pub not_both : (t : Bool) → t ≡ not t → ⊥
not_both true e = cc
not_both false e = cc

both_run : (r : Mode) → runs r left ≡ true → runs r right ≡ true → r ≡ Both
both_run Both a b = refl
both_run Left a b = absurd (let e : false ≡ true = b in cc)
both_run Right a b = absurd (let e : false ≡ true = a in cc)

of_one : (u v a b : Datum) → a ≡ u → b ≡ v → u ≡ v → a ≡ b
of_one u v a b e f g = e ∙ (g ∙ sym f)

module _ {N : Type 0} (D : Ops N) (law : Lawful D) (p : Program) (ord : Side → Order) where
  -- ---- the later operand

  module _ (w : Scalar) (h : Side → Machine) (b : Means N) (sound : Sound D p ord w h b) (y : Option (Given N))
      (mode : Mode) (m : Memories)
      (takes : Side → Type 0) (i : LaterIs D law p ord b y mode m takes) where
    pub later_allowed : IsReliable mode (later_faults D y) → (s : Side) → runs mode s ≡ true → takes s → (v : Datum)
        → h s (memory_of s m) ≡ has v → Allows D w (later_side D y s).value false (Some v)
    later_allowed rel s r c v e =
        let hy = sound.gives i.j m i.kept i.r in
        let q = subst (λ z. IsReliable mode (later_faults D z)) i.is rel in
        subst (λ z. Allows D w (later_side D z s).value false (Some v)) (sym i.is)
        (hy.held (i.reliable (b.gives i.r i.j).faults q) s (i.all s r c) v e).value

    pub later_found : later_faults D y ≡ [] → (s : Side) → runs mode s ≡ true → takes s
        → (v : Datum) × (h s (memory_of s m) ≡ has v)
    later_found none s r c =
        let hy = sound.gives i.j m i.kept i.r in
        hy.found (subst (λ z. later_faults D z ≡ []) i.is none) s (i.all s r c)

    pub later_same_found : mode ≡ Both → later_faults D y ≡ [] → later_same D y ≡ true → takes left → takes right
        → (u v : Datum)
        → h left (memory_of left m) ≡ has u → h right (memory_of right m) ≡ has v → u ≡ v
    later_same_found bo none e cl cr u v eu ev =
        let hy = sound.gives i.j m i.kept i.r in
        same_found D law p ord w (λ s. h s (memory_of s m)) i.j m i.r (b.gives i.r i.j) hy
        (both_run i.r (i.all left (runs_both mode left bo) cl) (i.all right (runs_both mode right bo) cr))
        (subst (λ z. later_faults D z ≡ []) i.is none) (subst (λ z. later_same D z ≡ true) i.is e) u v eu ev

  -- ---- one side

  second_allowed : (t : Bool) (w : Scalar) (x y : SideValue N) (v : Datum) → Allows D w y.value false (Some v)
      → Allows D (Int I32) (short_side D t x y).value false (Some (int (cond (is_true v) (pos 1) (pos 0))))
  second_allowed t w x y v a =
      truth_allowed D law (may_be D y.value true || (not t && may_be D x.value true))
      (may_be D y.value false || (t && may_be D x.value false)) (is_true v)
      (λ e. or_left _ _ (may_be_of D law p ord w y.value v true a e))
      (λ e. or_left _ _ (may_be_of D law p ord w y.value v false a e))

  first_allowed : (t : Bool) (w : Scalar) (x y : SideValue N) (u : Datum) → Allows D w x.value false (Some u)
      → is_true u ≡ not t
      → Allows D (Int I32) (short_side D t x y).value false (Some (int (cond (not t) (pos 1) (pos 0))))
  first_allowed true w x y u a e =
      truth_allowed D law (may_be D y.value true || (false && may_be D x.value true))
      (may_be D y.value false || (true && may_be D x.value false)) false
      (λ q. absurd (let z : false ≡ true = q in cc))
      (λ q. or_right (may_be D y.value false) (may_be D x.value false)
      (may_be_of D law p ord w x.value u false a e))
  first_allowed false w x y u a e =
      truth_allowed D law (may_be D y.value true || (true && may_be D x.value true))
      (may_be D y.value false || (false && may_be D x.value false)) true
      (λ q. or_right (may_be D y.value true) (may_be D x.value true) (may_be_of D law p ord w x.value u true a e))
      (λ q. absurd (let z : true ≡ false = q in cc))

  -- ---- the whole

  module _ (t : Bool) (wf wh : Scalar) (f h both : Side → Machine) (is_short : IsShort t f h both) (a b : Means N)
      (sa : Sound D p ord wf f a)
      (sb : Sound D p ord wh h b) where
    module _ (k : Known N) (m : Memories) (kept : IsKept D p ord k m) (mode : Mode) where
      abbrev x : Given N
      x = a.gives mode k

      abbrev y : Option (Given N)
      y = later D a b mode t k x

      hx : Holds D p ord wf (λ s. f s (memory_of s m)) k m mode x
      hx = sa.gives k m kept mode

      li : IsReliable mode x.faults → (s : Side) → runs mode s ≡ true → IsOf (f s (memory_of s m)) t
          → LaterIs D law p ord b y mode m (λ s. IsOf (f s (memory_of s m)) t)
      li rel s r c = later_is D law p ord wf f a b sa k m kept t mode x hx rel s r c

      side_held : IsReliable mode x.faults → IsReliable mode (later_faults D y) → (s : Side) → runs mode s ≡ true
          → (z : Datum)
          → ShortParts t (f s (memory_of s m)) (h s (memory_of s m)) z
          → Allows D (Int I32) (short_side D t (on x.pair s) (later_side D y s)).value false (Some z)
      side_held rx ry s r z (of_second c w e q) =
          subst (λ v. Allows D (Int I32) (short_side D t (on x.pair s) (later_side D y s)).value false (Some v)) (sym q)
          (second_allowed t wh (on x.pair s) (later_side D y s) w
          (later_allowed wh h b sb y mode m (λ s. IsOf (f s (memory_of s m)) t) (li rx s r c) ry s r c w e))
      side_held rx ry s r z (of_first c q) =
          subst (λ v. Allows D (Int I32) (short_side D t (on x.pair s) (later_side D y s)).value false (Some v)) (sym q)
          (first_allowed t wf (on x.pair s) (later_side D y s) c.u (hx.held rx s r c.u c.finds).value c.truth)

      side_found : x.faults ≡ [] → later_faults D y ≡ [] → (s : Side) → runs mode s ≡ true → (u : Datum)
          → f s (memory_of s m) ≡ has u
          → Truth t (is_true u) → (z : Datum) × (both s (memory_of s m) ≡ has z)
      side_found nx ny s r u e (is q) =
          let c : IsOf (f s (memory_of s m)) t = record { u = u; finds = e; truth = q } in
          let v = later_found wh h b sb y mode m (λ s. IsOf (f s (memory_of s m)) t)
          (li (reliable_none mode x.faults nx) s r c) ny s r c in
          (int (cond (is_true v.0) (pos 1) (pos 0)), is_short.second s (memory_of s m) v.0 c v.1)
      side_found nx ny s r u e (other q) = (
        int (cond (not t) (pos 1) (pos 0)),
        is_short.first s (memory_of s m)
            (record { u = u; finds = e; truth = q }),
      )

      first_same : mode ≡ Both → x.faults ≡ [] → same D x ≡ true → (cl : IsOf (f left (memory_of left m)) t)
          → (cr : IsOf (f right (memory_of right m)) (not t)) → ⊥
      first_same bo nx e cl cr =
          let q = same_found D law p ord wf (λ s. f s (memory_of s m)) k m mode x hx bo nx e cl.u cr.u cl.finds
          cr.finds in
          not_both t (sym cl.truth ∙ (ap is_true q ∙ cr.truth))

      first_same_back : mode ≡ Both → x.faults ≡ [] → same D x ≡ true → (cl : IsOf (f left (memory_of left m)) (not t))
          → (cr : IsOf (f right (memory_of right m)) t) → ⊥
      first_same_back bo nx e cl cr =
          let q = same_found D law p ord wf (λ s. f s (memory_of s m)) k m mode x hx bo nx e cl.u cr.u cl.finds
          cr.finds in
          not_both t (sym cr.truth ∙ (sym (ap is_true q) ∙ cl.truth))

      sides_same : mode ≡ Both → x.faults ≡ [] → later_faults D y ≡ [] → same D x ≡ true → later_same D y ≡ true
          → (u v : Datum)
          → ShortParts t (f left (memory_of left m)) (h left (memory_of left m)) u
          → ShortParts t (f right (memory_of right m)) (h right (memory_of right m)) v → u ≡ v
      sides_same bo nx ny e g u v (of_second cl wl el ql) (of_second cr wr er qr) =
          let s = later_same_found wh h b sb y mode m (λ s. IsOf (f s (memory_of s m)) t)
          (li (reliable_none mode x.faults nx) left (runs_both mode left bo) cl) bo ny g cl cr wl wr el er in
          ql ∙ (ap (λ w. int (cond (is_true w) (pos 1) (pos 0))) s ∙ sym qr)
      sides_same bo nx ny e g u v (of_first cl ql) (of_first cr qr) = ql ∙ sym qr
      sides_same bo nx ny e g u v (of_second cl wl el ql) (of_first cr qr) = absurd (first_same bo nx e cl cr)
      sides_same bo nx ny e g u v (of_first cl ql) (of_second cr wr er qr) = absurd (first_same_back bo nx e cl cr)

      pub short_holds : Holds D p ord (Int I32) (λ s. both s (memory_of s m)) k m mode
          (short_in D t a b mode k (a.gives mode k))
      short_holds = record {
        held = λ rel s r z e.
            let q = reliable_parts mode x.faults (later_faults D y) rel in
            subst (λ v. SideIn D (numbers_of k.orders m) (Int I32) v z)
            (sym (on_running mode s (λ s. short_side D t (on x.pair s) (later_side D y s))
            (same D x && later_same D y) r))
            (record { value = side_held q.0 q.1 s r z (is_short.parts s (memory_of s m) z e); form = tt });
        found = λ none s r.
            let q = none_left x.faults (later_faults D y) none in
            let u = hx.found q.0 s r in
            side_found q.0 q.1 s r u.0 u.1 (truth_of t (is_true u.0));
        same = λ bo none e u v i j.
            let q = none_left x.faults (later_faults D y) none in
            let g = and_parts (same D x) (later_same D y)
            (sym (equal_is mode (λ s. short_side D t (on x.pair s) (later_side D y s)) (same D x && later_same D y))
            ∙ e) in
            sides_same bo q.0 q.1 g.0 g.1 u v (is_short.parts left (memory_of left m) u i)
            (is_short.parts right (memory_of right m) v j);
      }

    -- ---- assuming

    module _ (unify : UnifyLaws D) (join : JoinLaws D) where
      asked_state : (k : Known N) → IsState D p ord k → (s : Side) (r : Bool)
          → IfState D p ord (then_with (a.assumes s t k) (b.assumes s r))
      asked_state k i s r = then_state D law p ord (a.assumes s t k) (b.assumes s r) (sa.stays k i s t)
          (λ j q. sb.stays j q s r)

      pub short_stays : (k : Known N) → IsState D p ord k → (s : Side) (asks : Bool)
          → IfState D p ord (short_assumed D t a b s asks k)
      short_stays k i s true = asked_state k i s t
      short_stays k i s false =
          either_state D law p ord unify join (a.assumes s (not t) k)
          (then_with (a.assumes s t k) (b.assumes s (not t)))
          (sa.stays k i s (not t)) (asked_state k i s (not t))

      asked_kept : (k : Known N) (m : Memories) → IsKept D p ord k m → (s : Side) (r : Bool)
          → IsOf (f s (memory_of s m)) t → (w : Datum)
          → h s (memory_of s m) ≡ has w → is_true w ≡ r → IfKept D p ord (then_with (a.assumes s t k) (b.assumes s r)) m
      asked_kept k m kept s r c w e q =
          then_kept D law p ord m (a.assumes s t k) (b.assumes s r) (sa.assumes k m kept s t c.u c.finds c.truth)
          (λ j i. sb.assumes j m i s r w e q)

      -- all of it is t
      pub short_all_kept : (k : Known N) (m : Memories) → IsKept D p ord k m → (s : Side)
          → IsOf (f s (memory_of s m)) t → (w : Datum)
          → h s (memory_of s m) ≡ has w → is_true w ≡ t → IfKept D p ord (short_assumed D t a b s true k) m
      short_all_kept k m kept s c w e q = asked_kept k m kept s t c w e q

      pub short_first_kept : (k : Known N) (m : Memories) → IsKept D p ord k m → (s : Side)
          → IsOf (f s (memory_of s m)) (not t)
          → IfKept D p ord (short_assumed D t a b s false k) m
      short_first_kept k m kept s c =
          either_left D law p ord unify join m (a.assumes s (not t) k)
          (then_with (a.assumes s t k) (b.assumes s (not t)))
          (sa.assumes k m kept s (not t) c.u c.finds c.truth) (asked_state k kept.state s (not t))

      pub short_second_kept : (k : Known N) (m : Memories) → IsKept D p ord k m → (s : Side)
          → IsOf (f s (memory_of s m)) t → (w : Datum)
          → h s (memory_of s m) ≡ has w → is_true w ≡ not t → IfKept D p ord (short_assumed D t a b s false k) m
      short_second_kept k m kept s c w e q =
          either_right D law p ord unify join m (a.assumes s (not t) k)
          (then_with (a.assumes s t k) (b.assumes s (not t)))
          (sa.stays k kept.state s (not t)) (asked_kept k m kept s (not t) c w e q)
