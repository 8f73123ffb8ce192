-- `? :`.
use Rattle.std.proofs.Common.{◌≡◌, Bool, true, false, ◌&&◌, ◌||◌, not, [], ◌++◌, Option, Some, None, refl, sym, ap}
use Rattle.std.proofs.Common.{◌∙◌, subst}
use Rattle.std.proofs.lemmas.Bool.{and_parts}
use Rattle.ep_int.specs.declared.types.Order.{Order}
use Rattle.ep_int.specs.declared.types.Scalar.{Scalar}
use Rattle.ep_int.specs.declared.types.Scalar.TheVariants.{Int, Pointer}
use Rattle.ep_int.specs.Memory.{Value as Datum, Found, has, faults}
use Rattle.ep_domain.specs.Domain.{Ops, Lawful}
use Rattle.ep_cells.specs.declared.cell.Value.{Value}
use Rattle.ep_cells.specs.States.{Known, IsOfSort, HasRisingBlocks}
use Rattle.ep_cells.specs.Meaning.{Memories, Allows, numbers_of}
use Rattle.ep_cells.proofs.Both.{allowed_left, allowed_right, join_unites, sort_both, rising_both}
use Rattle.ep_core.specs.Program.{Program}
use Rattle.ep_core.specs.Exec.{is_true, with, where_true}
use Rattle.ep_core.specs.Runs.{Side, left, right}
use Rattle.ep_equalities.specs.declared.pair.Mode.{Mode}
use Rattle.ep_equalities.specs.declared.pair.Mode.TheVariants.{Both, Left, Right}
use Rattle.ep_equalities.specs.Pairs.{SideIn}
use Rattle.ep_evaluation.specs.Given.{Given, runs, on, is_both, mode_where}
use Rattle.ep_evaluation.specs.Operators.{may_be}
use Rattle.ep_evaluation.specs.Evaluation.{Means, same, assumed, state_for, given_in, given_where, later, later_side}
use Rattle.ep_evaluation.specs.Evaluation.{later_faults, later_same, chosen_side, chosen_in, conditional_means}
use Rattle.ep_evaluation.specs.Laws.{memory_of, Machine, IsReliable, IsState, IfState, IsKept, SideFits, Holds}
use Rattle.ep_evaluation.specs.Laws.{Sound}
use Rattle.ep_evaluation.proofs.General.{none_left, reliable_parts, reliable_none, on_running, equal_is}
use Rattle.ep_evaluation.proofs.General.{runs_both, both_found}
use Rattle.ep_evaluation.proofs.Generic.{same_found, pair_fits}
use Rattle.ep_evaluation.proofs.Assuming.{then_state}
use Rattle.ep_evaluation.proofs.Later.{IsOf, LaterIs, later_is}
use Rattle.ep_evaluation.proofs.Leaves.{plain_sound}
use Rattle.ep_evaluation.proofs.Short.{later_allowed, later_found, later_same_found, not_both}

-- what machines find of the whole: what they find of the operand that the first one's truth chooses
pub data ChosenParts (x y z : Found) (v : Datum) : Type 0 where
  of_true : IsOf x true → y ≡ has v → ChosenParts x y z v
  of_false : IsOf x false → z ≡ has v → ChosenParts x y z v

abbrev pub chosen : (f g h : Side → Machine) → Side → Machine
chosen f g h s m = with (f s m) (λ v. where_true (is_true v) (h s m) (g s m))

by_truth : (u v : Datum) (x y z : Found) (b : Bool) → x ≡ has u → is_true u ≡ b → where_true b z y ≡ has v
    → ChosenParts x y z v
by_truth u v x y z true e t q = of_true (record { u = u; finds = e; truth = t }) q
by_truth u v x y z false e t q = of_false (record { u = u; finds = e; truth = t }) q

chosen_parts : (x y z : Found) (v : Datum) → with x (λ v. where_true (is_true v) z y) ≡ has v → ChosenParts x y z v
chosen_parts x y z v e =
    let a = both_found x (λ v. where_true (is_true v) z y) v e in by_truth a.0 v x y z (is_true a.0) a.1 refl a.2

chosen_true : (x y z : Found) (u : Datum) → x ≡ has u → is_true u ≡ true → with x (λ v. where_true (is_true v) z y) ≡ y
chosen_true x y z u e t = ap (λ f. with f (λ v. where_true (is_true v) z y)) e ∙ ap (λ b. where_true b z y) t

chosen_false : (x y z : Found) (u : Datum) → x ≡ has u → is_true u ≡ false
    → with x (λ v. where_true (is_true v) z y) ≡ z
chosen_false x y z u e t = ap (λ f. with f (λ v. where_true (is_true v) z y)) e ∙ ap (λ b. where_true b z y) t

module _ {N : Type 0} (D : Ops N) (law : Lawful D) (p : Program) (ord : Side → Order) (wf w : Scalar) (f g h : Side
    → Machine) (a b c : Means N)
    (sa : Sound D p ord wf f a) (sb : Sound D p ord w g b) (sc : Sound D p ord w h c) where
  -- ---- what fits

  record ValueFits (o : Option (Value N)) : Type 0 where
    pub sort : IsOfSort w o
    pub rising : HasRisingBlocks o

  assumed_state : (k : Known N) → IsState D p ord k → (mode : Mode) (t : Bool) → IfState D p ord (assumed D a mode t k)
  assumed_state k i Both t = then_state D law p ord (a.assumes left t k) (a.assumes right t) (sa.stays k i left t)
      (λ j q. sa.stays j q right t)
  assumed_state k i Left t = sa.stays k i left t
  assumed_state k i Right t = sa.stays k i right t

  state_is : (k : Known N) → IsState D p ord k → (st : Bool) (mode : Mode) (t : Bool)
      → IfState D p ord (state_for D a st mode t k)
  state_is k i true mode t = assumed_state k i mode t
  state_is k i false mode t = i

  module _ (d : Means N) (m : Machine) (e : Side → Machine) (sd : Sound D p ord w e d) where
    nothing : ValueFits None
    nothing = record { sort = tt; rising = tt }

    given_fits : (mode : Mode) (o : Option (Known N)) → IfState D p ord o → (s : Side)
        → ValueFits (later_side D (given_in D d mode o) s).value
    given_fits mode None i s = nothing
    given_fits mode (Some k) i s = let q = sd.fits k i mode s in record { sort = q.sort; rising = q.rising }

    where_fits : (k : Known N) → IsState D p ord k → (st t : Bool) (r : Option Mode) → (s : Side)
        → ValueFits (later_side D (given_where D a d st t k r) s).value
    where_fits k i st t None s = nothing
    where_fits k i st t (Some r) s = given_fits r (state_for D a st r t k) (state_is k i st r t) s

    later_fits : (k : Known N) → IsState D p ord k → (mode : Mode) (t : Bool) (x : Given N) → (s : Side)
        → ValueFits (later_side D (later D a d mode t k x) s).value
    later_fits k i mode t x s =
        where_fits k i (same D x || not (is_both mode)) t (mode_where mode (λ s. may_be D (on x.pair s).value t)) s

  first_fits : (k : Known N) → IsState D p ord k → (mode : Mode) (x : Given N) → (s : Side)
      → ValueFits (later_side D (later D a b mode true k x) s).value
  first_fits k i mode x s = later_fits b (g left) g sb k i mode true x s

  second_fits : (k : Known N) → IsState D p ord k → (mode : Mode) (x : Given N) → (s : Side)
      → ValueFits (later_side D (later D a c mode false k x) s).value
  second_fits k i mode x s = later_fits c (h left) h sc k i mode false x s

  whole_fits : (k : Known N) → IsState D p ord k → (mode : Mode) → (s : Side)
      → SideFits D p ord k w (on (chosen_in D a b c mode k (a.gives mode k)).pair s)
  whole_fits k i mode s =
      let x = a.gives mode k in
      let y = later D a b mode true k x in
      let z = later D a c mode false k x in
      pair_fits D law p ord k w mode (λ s. chosen_side D (later_side D y s) (later_side D z s))
      (same D x && (later_same D y && later_same D z))
      (λ s.
      (let q = first_fits k i mode x s in
      let r = second_fits k i mode x s in record {
        sort = sort_both D.join w (later_side D y s).value (later_side D z s).value q.sort r.sort;
        rising = rising_both D D.join (join_unites D law) (later_side D y s).value
            (later_side D z s).value q.rising r.rising;
        form = tt;
      })) s

  -- ---- what holds

  some_value : (w : Scalar) (o : Option (Value N)) (v : Datum) → Allows D w o false (Some v) → o ≡ None → false ≡ true
  some_value w o v k e = absurd (none_allows w v (subst (λ x. Allows D w x false (Some v)) e k))
    where
      none_allows : (w : Scalar) (v : Datum) → Allows D w None false (Some v) → ⊥
      none_allows (Int t) v h = let z : Some v ≡ None = h in cc
      none_allows Pointer v h = let z : Some v ≡ None = h in cc

  module _ (k : Known N) (m : Memories) (kept : IsKept D p ord k m) (mode : Mode) where
    abbrev x : Given N
    x = a.gives mode k

    abbrev y : Option (Given N)
    y = later D a b mode true k x

    abbrev z : Option (Given N)
    z = later D a c mode false k x

    abbrev takes : Bool → Side → Type 0
    takes t s = IsOf (f s (memory_of s m)) t

    hx : Holds D p ord wf (λ s. f s (memory_of s m)) k m mode x
    hx = sa.gives k m kept mode

    first_is : IsReliable mode x.faults → (s : Side) → runs mode s ≡ true → takes true s
        → LaterIs D law p ord b y mode m (takes true)
    first_is rel s r i = later_is D law p ord wf f a b sa k m kept true mode x hx rel s r i

    second_is : IsReliable mode x.faults → (s : Side) → runs mode s ≡ true → takes false s
        → LaterIs D law p ord c z mode m (takes false)
    second_is rel s r i = later_is D law p ord wf f a c sa k m kept false mode x hx rel s r i

    side_held : IsReliable mode x.faults → IsReliable mode (later_faults D y) → IsReliable mode (later_faults D z)
        → (s : Side)
        → runs mode s ≡ true → (v : Datum)
        → ChosenParts (f s (memory_of s m)) (g s (memory_of s m)) (h s (memory_of s m)) v
        → Allows D w (chosen_side D (later_side D y s) (later_side D z s)).value false (Some v)
    side_held rx ry rz s r v (of_true i e) =
        let q = first_fits k kept.state mode x s in
        let t = second_fits k kept.state mode x s in
        let l = later_allowed D law p ord w g b sb y mode m (takes true) (first_is rx s r i) ry s r i v e in
        allowed_left D D.join (join_unites D law) w (later_side D y s).value (later_side D z s).value false false
        (Some v) q.sort t.sort
        q.rising t.rising (some_value w (later_side D y s).value v l) l
    side_held rx ry rz s r v (of_false i e) =
        let q = first_fits k kept.state mode x s in
        let t = second_fits k kept.state mode x s in
        let l = later_allowed D law p ord w h c sc z mode m (takes false) (second_is rx s r i) rz s r i v e in
        allowed_right D D.join (join_unites D law) w (later_side D y s).value (later_side D z s).value false false
        (Some v) q.sort t.sort
        q.rising t.rising (some_value w (later_side D z s).value v l) l

    side_found : x.faults ≡ [] → later_faults D y ≡ [] → later_faults D z ≡ [] → (s : Side) → runs mode s ≡ true
        → (u : Datum)
        → f s (memory_of s m) ≡ has u → (t : Bool) → is_true u ≡ t
        → (v : Datum) × (chosen f g h s (memory_of s m) ≡ has v)
    side_found nx ny nz s r u e true t =
        let i : takes true s = record { u = u; finds = e; truth = t } in
        let v = later_found D law p ord w g b sb y mode m (takes true)
        (first_is (reliable_none mode x.faults nx) s r i) ny s r i in
        (v.0, chosen_true (f s (memory_of s m)) (g s (memory_of s m)) (h s (memory_of s m)) u e t ∙ v.1)
    side_found nx ny nz s r u e false t =
        let i : takes false s = record { u = u; finds = e; truth = t } in
        let v = later_found D law p ord w h c sc z mode m (takes false)
        (second_is (reliable_none mode x.faults nx) s r i) nz s r i in
        (v.0, chosen_false (f s (memory_of s m)) (g s (memory_of s m)) (h s (memory_of s m)) u e t ∙ v.1)

    first_same : mode ≡ Both → x.faults ≡ [] → same D x ≡ true → (t : Bool) → takes t left → takes (not t) right → ⊥
    first_same bo nx e t cl cr =
        let q = same_found D law p ord wf (λ s. f s (memory_of s m)) k m mode x hx bo nx e cl.u cr.u cl.finds cr.finds
        in
        not_both t (sym cl.truth ∙ (ap is_true q ∙ cr.truth))

    sides_same : mode ≡ Both → x.faults ≡ [] → later_faults D y ≡ [] → later_faults D z ≡ [] → same D x ≡ true
        → later_same D y ≡ true
        → later_same D z ≡ true → (u v : Datum)
        → ChosenParts (f left (memory_of left m)) (g left (memory_of left m)) (h left (memory_of left m)) u
        → ChosenParts (f right (memory_of right m)) (g right (memory_of right m)) (h right (memory_of right m)) v
        → u ≡ v
    sides_same bo nx ny nz e ey ez u v (of_true cl el) (of_true cr er) =
        later_same_found D law p ord w g b sb y mode m (takes true)
        (first_is (reliable_none mode x.faults nx) left (runs_both mode left bo) cl) bo ny ey cl cr u v el er
    sides_same bo nx ny nz e ey ez u v (of_false cl el) (of_false cr er) =
        later_same_found D law p ord w h c sc z mode m (takes false)
        (second_is (reliable_none mode x.faults nx) left (runs_both mode left bo) cl) bo nz ez cl cr u v el er
    sides_same bo nx ny nz e ey ez u v (of_true cl el) (of_false cr er) = absurd (first_same bo nx e true cl cr)
    sides_same bo nx ny nz e ey ez u v (of_false cl el) (of_true cr er) = absurd (first_same bo nx e false cl cr)

    whole_holds : Holds D p ord w (λ s. chosen f g h s (memory_of s m)) k m mode
        (chosen_in D a b c mode k (a.gives mode k))
    whole_holds = record {
      held = λ rel s r v e.
          let q = reliable_parts mode x.faults (later_faults D y ++ later_faults D z) rel in
          let l = reliable_parts mode (later_faults D y) (later_faults D z) q.1 in
          subst (λ i. SideIn D (numbers_of k.orders m) w i v)
          (sym (on_running mode s (λ s. chosen_side D (later_side D y s) (later_side D z s))
          (same D x && (later_same D y && later_same D z)) r))
          (record {
            value = side_held q.0 l.0 l.1 s r v
                (chosen_parts (f s (memory_of s m)) (g s (memory_of s m)) (h s (memory_of s m)) v e);
            form = tt;
          });
      found = λ none s r.
          let q = none_left x.faults (later_faults D y ++ later_faults D z) none in
          let l = none_left (later_faults D y) (later_faults D z) q.1 in
          let u = hx.found q.0 s r in
          side_found q.0 l.0 l.1 s r u.0 u.1 (is_true u.0) refl;
      same = λ bo none e u v i j.
          let q = none_left x.faults (later_faults D y ++ later_faults D z) none in
          let l = none_left (later_faults D y) (later_faults D z) q.1 in
          let o = and_parts (same D x) (later_same D y && later_same D z)
          (sym (equal_is mode (λ s. chosen_side D (later_side D y s) (later_side D z s))
          (same D x && (later_same D y && later_same D z))) ∙ e) in
          let n = and_parts (later_same D y) (later_same D z) o.1 in
          sides_same bo q.0 l.0 l.1 o.0 n.0 n.1 u v
          (chosen_parts (f left (memory_of left m)) (g left (memory_of left m)) (h left (memory_of left m)) u i)
          (chosen_parts (f right (memory_of right m)) (g right (memory_of right m)) (h right (memory_of right m)) v j);
    }

  pub conditional_sound : Sound D p ord w (chosen f g h) (conditional_means D a b c)
  conditional_sound =
      plain_sound D law p ord w (chosen f g h) (λ m k. chosen_in D a b c m k (a.gives m k))
      (λ k m kept mode. whole_holds k m kept mode)
      (λ k i mode s. whole_fits k i mode s)
