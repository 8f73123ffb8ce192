-- `&&` and `||` of operands that have one value each where they are evaluated.
use Rattle.std.proofs.Common.{◌≡◌, pos, Bool, true, false, ◌&&◌, not, cond, ◌++◌, Option, Some, None, refl, sym, ap}
use Rattle.std.proofs.Common.{◌∙◌, subst}
use Rattle.ep_int.specs.declared.types.Order.{Order}
use Rattle.ep_int.specs.declared.types.Scalar.{Scalar}
use Rattle.ep_int.specs.Memory.{Value as Datum, int, Found, has}
use Rattle.ep_int.proofs.Basics.{not_not}
use Rattle.ep_domain.specs.Domain.{Ops, Lawful}
use Rattle.ep_cells.specs.States.{Known}
use Rattle.ep_cells.specs.Meaning.{Memories}
use Rattle.ep_cell_ranges.proofs.Shareds.{has_one}
use Rattle.ep_core.specs.Program.{Program}
use Rattle.ep_core.specs.Exec.{is_true, with, where_true, truth}
use Rattle.ep_core.specs.Runs.{Side}
use Rattle.ep_equalities.specs.declared.pair.Mode.{Mode}
use Rattle.ep_evaluation.specs.Given.{Given, runs, on, nothing}
use Rattle.ep_evaluation.specs.Narrowed.{then_with, either_of}
use Rattle.ep_evaluation.specs.Evaluation.{Means, same, later, later_side, later_faults, later_same, short_side}
use Rattle.ep_evaluation.specs.Evaluation.{short_in, short_assumed, and_means, or_means}
use Rattle.ep_evaluation.specs.Laws.{memory_of, Machine}
use Rattle.ep_evaluation.proofs.General.{both_found}
use Rattle.ep_evaluation.proofs.Later.{IsOf}
use Rattle.ep_evaluation.proofs.Short.{ShortParts, of_second, of_first, not_both}
use Rattle.ep_singles.specs.Cells.{IsOneValue}
use Rattle.ep_single_narrowed.specs.Laws.{IsKeptOne, IfKeptOne}
use Rattle.ep_single_narrowed.proofs.Cells.{then_one}
use Rattle.ep_single_places.specs.Laws.{is_of_truth}
use Rattle.ep_single_places.proofs.Truths.{truth_is}
use Rattle.ep_single_sides.specs.Laws.{IsOneAs, SidesAreOne}
use Rattle.ep_single_given.specs.Laws.{FindAll, IsOneGiven}
use Rattle.ep_single_given.proofs.Given.{no_faults, given_one}
use Rattle.ep_single_values.specs.Laws.{OneMeans}
use Rattle.ep_single_values.proofs.Given.{OneGives, one_at}
use Rattle.ep_single_values.proofs.Later.{LaterOne, later_one, only_one_truth}

-- ---- what machines find

-- `&&` where the first is to be true, `||` where it is to be false
abbrev pub short_found : Bool → Found → Found → Found
short_found true x y = with x (λ v. where_true (is_true v) (truth false) (with y (λ w. truth (is_true w))))
short_found false x y = with x (λ v. where_true (is_true v) (with y (λ w. truth (is_true w))) (truth true))

second_found : (t : Bool) (x y : Found) (z : Datum) → IsOf x t → with y (λ w. truth (is_true w)) ≡ has z
    → ShortParts t x y z
second_found t x y z i e =
    let r = both_found y (λ w. truth (is_true w)) z e in
    of_second i r.0 r.1 (sym (has_one (int (cond (is_true r.0) (pos 1) (pos 0))) z r.2))

first_found : (t : Bool) (x y : Found) (z : Datum) → IsOf x (not t) → truth (not t) ≡ has z → ShortParts t x y z
first_found t x y z i e = of_first i (sym (has_one (int (cond (not t) (pos 1) (pos 0))) z e))

and_found : (x y : Found) (u z : Datum) (b : Bool) → x ≡ has u → is_true u ≡ b
    → where_true b (truth false) (with y (λ w. truth (is_true w))) ≡ has z → ShortParts true x y z
and_found x y u z true i j e = second_found true x y z (record { u = u; finds = i; truth = j }) e
and_found x y u z false i j e = first_found true x y z (record { u = u; finds = i; truth = j }) e

or_found : (x y : Found) (u z : Datum) (b : Bool) → x ≡ has u → is_true u ≡ b
    → where_true b (with y (λ w. truth (is_true w))) (truth true) ≡ has z → ShortParts false x y z
or_found x y u z true i j e = first_found false x y z (record { u = u; finds = i; truth = j }) e
or_found x y u z false i j e = second_found false x y z (record { u = u; finds = i; truth = j }) e

short_parts : (t : Bool) (x y : Found) (z : Datum) → short_found t x y ≡ has z → ShortParts t x y z
short_parts true x y z e =
    let r = both_found x (λ v. where_true (is_true v) (truth false) (with y (λ w. truth (is_true w)))) z e in
    and_found x y r.0 z (is_true r.0) r.1 refl r.2
short_parts false x y z e =
    let r = both_found x (λ v. where_true (is_true v) (with y (λ w. truth (is_true w))) (truth true)) z e in
    or_found x y r.0 z (is_true r.0) r.1 refl r.2

of_and : (b : Bool) → is_of_truth true b ≡ b
of_and true = refl
of_and false = refl

of_or : (b : Bool) → is_of_truth false (not b) ≡ b
of_or true = refl
of_or false = refl

-- the truth of a whole that is the second's, or the first's
whole_truth : (b : Bool) (z : Datum) → z ≡ int (cond b (pos 1) (pos 0)) → is_true z ≡ b
whole_truth b z e = ap is_true e ∙ truth_is b

-- ---- states

either_second : {N : Type 0} (D : Ops N) (o l : Option (Known N)) → o ≡ None → either_of D o l ≡ l
either_second D o l e = ap (λ o. either_of D o l) e

either_first : {N : Type 0} (D : Ops N) (o l : Option (Known N)) → l ≡ None → either_of D o l ≡ o
either_first {N = N} D o l e = ap (either_of D o) e ∙ by o
  where
    by : (o : Option (Known N)) → either_of D o None ≡ o
    by None = refl
    by (Some k) = refl

-- of what can be assumed first, but nothing after it
pub none_then : {N : Type 0} (D : Ops N) (p : Program) (ord : Side → Order) (m : Memories) (o : Option (Known N))
    (g : Known N → Option (Known N)) → IfKeptOne D p ord o m
    → ((j : Known N) → IsKeptOne D p ord j m → g j ≡ None) → then_with o g ≡ None
none_then D p ord m None g h i = refl
none_then D p ord m (Some j) g h i = i j h

module _ {N : Type 0} (D : Ops N) (law : Lawful D) (sides : SidesAreOne D) (p : Program) (ord : Side → Order)
    (wf wh : Scalar) (f h : Side → Machine) (a b : Means N) (ga : OneGives D p ord wf f a.gives)
    (gb : OneGives D p ord wh h b.gives) (oa : OneMeans D p ord f a) (ob : OneMeans D p ord h b)
    (idle : (mode : Mode) (k : Known N) (s : Side) → runs mode s ≡ false → on (b.gives mode k).pair s ≡ nothing) where
  module _ (t : Bool) where
    abbrev short : Side → Machine
    short s m = short_found t (f s m) (h s m)

    abbrev Parts : (c : Side) (m : Memories) → Datum → Type 0
    Parts c m z = ShortParts t (f c (memory_of c m)) (h c (memory_of c m)) z

    -- ---- what it gives

    module _ (k : Known N) (m : Memories) (s : IsKeptOne D p ord k m) (mode : Mode) (all : FindAll mode short m) where
      parts_at : (c : Side) (r : runs mode c ≡ true) → Parts c m (all c r).0
      parts_at c r =
          let q = all c r in short_parts t (f c (memory_of c m)) (h c (memory_of c m)) q.0 q.1

      first_of : (c : Side) (z : Datum) → Parts c m z → (v : Datum) × (f c (memory_of c m) ≡ has v)
      first_of c z (of_second i w e q) = (i.u, i.finds)
      first_of c z (of_first i q) = (i.u, i.finds)

      second_of : (c : Side) (z : Datum) → Parts c m z → IsOf (f c (memory_of c m)) t
          → (v : Datum) × (h c (memory_of c m) ≡ has v)
      second_of c z (of_second i w e q) n = (w, e)
      second_of c z (of_first i q) n = absurd (only_one_truth f m t c n i)

      firsts : FindAll mode f m
      firsts c r = first_of c (all c r).0 (parts_at c r)

      abbrev x : Given N
      x = a.gives mode k

      abbrev y : Option (Given N)
      y = later D a b mode t k x

      first_one : IsOneGiven D mode x
      first_one = ga.one k m s mode firsts

      later_is : LaterOne D law p ord wf wh f h a b ga gb oa idle t k m s y mode
      later_is =
          later_one D law p ord wf wh f h a b ga gb oa idle t k m s mode
          (λ c r n. second_of c (all c r).0 (parts_at c r) n) firsts

      first_at : (c : Side) → runs mode c ≡ true → (i : Bool) (n : IsOf (f c (memory_of c m)) i)
          → IsOneAs D wf (on x.pair c) n.u
      first_at c r i n = one_at D p ord wf f a.gives ga k m s mode first_one c r n.u n.finds

      side_one : (c : Side) → runs mode c ≡ true → (z : Datum) → Parts c m z
          → IsOneValue D (short_side D t (on x.pair c) (later_side D y c)).value
      side_one c r z (of_second i w e q) =
          sides.short_second t wf wh (on x.pair c) (later_side D y c) i.u w (first_at c r t i)
          (later_is.taken c r i w e) i.truth
      side_one c r z (of_first i q) =
          subst (λ v. IsOneValue D (short_side D t (on x.pair c) v).value) (sym (later_is.left_out c r i))
          (sides.short_first t wf (on x.pair c) i.u (first_at c r (not t) i) i.truth)

      short_given_one : IsOneGiven D mode (short_in D t a b mode k x)
      short_given_one =
          given_one D mode (λ c. short_side D t (on x.pair c) (later_side D y c)) (same D x && later_same D y)
          (x.faults ++ later_faults D y) (no_faults x.faults (later_faults D y) first_one.quiet later_is.quiet)
          (λ c r. side_one c r (all c r).0 (parts_at c r))

    -- ---- assuming

    module _ (k : Known N) (m : Memories) (s : IsKeptOne D p ord k m) (c : Side) where
      first_kept : (r : Bool) → IsOf (f c (memory_of c m)) r → IfKeptOne D p ord (a.assumes c r k) m
      first_kept r i = oa.assumes k m s c r i.u i.finds i.truth

      first_refused : (r : Bool) → IsOf (f c (memory_of c m)) (not r) → a.assumes c r k ≡ None
      first_refused r i = oa.refuses k m s c r i.u i.finds i.truth

      other_refused : IsOf (f c (memory_of c m)) t → a.assumes c (not t) k ≡ None
      other_refused i = first_refused (not t) (record { u = i.u; finds = i.finds; truth = i.truth ∙ sym (not_not t) })

      asked_kept : (r : Bool) → IsOf (f c (memory_of c m)) t → (w : Datum) → h c (memory_of c m) ≡ has w
          → is_true w ≡ r → IfKeptOne D p ord (then_with (a.assumes c t k) (b.assumes c r)) m
      asked_kept r i w e q =
          then_one D law p ord m (a.assumes c t k) (b.assumes c r) (first_kept t i)
          (λ j kj. ob.assumes j m kj c r w e q)

      asked_refused : (r : Bool) → IsOf (f c (memory_of c m)) t → (w : Datum) → h c (memory_of c m) ≡ has w
          → is_true w ≡ not r → then_with (a.assumes c t k) (b.assumes c r) ≡ None
      asked_refused r i w e q =
          none_then D p ord m (a.assumes c t k) (b.assumes c r) (first_kept t i) (λ j kj. ob.refuses j m kj c r w e q)

      never_asked : (r : Bool) → IsOf (f c (memory_of c m)) (not t)
          → then_with (a.assumes c t k) (b.assumes c r) ≡ None
      never_asked r i = ap (λ o. then_with o (b.assumes c r)) (first_refused t i)

      -- the whole is of the truth that is assumed
      whole_kept : (asks : Bool) (z : Datum) → Parts c m z → is_true z ≡ is_of_truth t asks
          → IfKeptOne D p ord (short_assumed D t a b c asks k) m
      whole_kept true z (of_second i w e q) g =
          asked_kept t i w e (sym (whole_truth (is_true w) z q) ∙ g)
      whole_kept true z (of_first i q) g = absurd (not_both t (sym g ∙ whole_truth (not t) z q))
      whole_kept false z (of_second i w e q) g =
          subst (λ o. IfKeptOne D p ord o m)
          (sym (either_second D (a.assumes c (not t) k) (then_with (a.assumes c t k) (b.assumes c (not t)))
          (other_refused i)))
          (asked_kept (not t) i w e (sym (whole_truth (is_true w) z q) ∙ g))
      whole_kept false z (of_first i q) g =
          subst (λ o. IfKeptOne D p ord o m)
          (sym (either_first D (a.assumes c (not t) k) (then_with (a.assumes c t k) (b.assumes c (not t)))
          (never_asked (not t) i)))
          (first_kept (not t) i)

      -- the whole is of the other
      whole_refused : (asks : Bool) (z : Datum) → Parts c m z → is_true z ≡ not (is_of_truth t asks)
          → short_assumed D t a b c asks k ≡ None
      whole_refused true z (of_second i w e q) g = asked_refused t i w e (sym (whole_truth (is_true w) z q) ∙ g)
      whole_refused true z (of_first i q) g = never_asked t i
      whole_refused false z (of_second i w e q) g =
          either_second D (a.assumes c (not t) k) (then_with (a.assumes c t k) (b.assumes c (not t)))
          (other_refused i)
          ∙ asked_refused (not t) i w e (sym (whole_truth (is_true w) z q) ∙ g)
      whole_refused false z (of_first i q) g =
          absurd (not_both (not t) (sym (whole_truth (not t) z q) ∙ g))

  pub and_means_one : OneMeans D p ord (λ s m. short_found true (f s m) (h s m)) (and_means D a b)
  and_means_one = record {
    gives = λ k m s mode all. short_given_one true k m s mode all;
    assumes = λ k m s c r z e q.
        whole_kept true k m s c r z (short_parts true (f c (memory_of c m)) (h c (memory_of c m)) z e)
        (q ∙ sym (of_and r));
    refuses = λ k m s c r z e q.
        whole_refused true k m s c r z (short_parts true (f c (memory_of c m)) (h c (memory_of c m)) z e)
        (q ∙ ap not (sym (of_and r)));
  }

  pub or_means_one : OneMeans D p ord (λ s m. short_found false (f s m) (h s m)) (or_means D a b)
  or_means_one = record {
    gives = λ k m s mode all. short_given_one false k m s mode all;
    assumes = λ k m s c r z e q.
        whole_kept false k m s c (not r) z (short_parts false (f c (memory_of c m)) (h c (memory_of c m)) z e)
        (q ∙ sym (of_or r));
    refuses = λ k m s c r z e q.
        whole_refused false k m s c (not r) z (short_parts false (f c (memory_of c m)) (h c (memory_of c m)) z e)
        (q ∙ ap not (sym (of_or r)));
  }
