-- Operands that are evaluated later: on just the sides whose machine asks for them, with one value there.
use Rattle.std.proofs.Common.{◌≡◌, Bool, true, false, ◌||◌, not, [], Option, Some, None, refl, sym, ap, ◌∙◌, subst}
use Rattle.ep_int.specs.declared.types.Order.{Order}
use Rattle.ep_int.specs.declared.types.Scalar.{Scalar}
use Rattle.ep_int.specs.Memory.{Value as Datum, has}
use Rattle.ep_domain.specs.Domain.{Ops, Lawful}
use Rattle.ep_cells.specs.States.{Known}
use Rattle.ep_cells.specs.Meaning.{Memories}
use Rattle.ep_cell_ranges.proofs.Shareds.{has_one}
use Rattle.ep_core.specs.Program.{Program}
use Rattle.ep_core.specs.Exec.{is_true}
use Rattle.ep_core.specs.Runs.{Side, left, right}
use Rattle.ep_equalities.specs.declared.pair.Mode.{Mode}
use Rattle.ep_equalities.specs.declared.pair.Mode.TheVariants.{Both, Left, Right}
use Rattle.ep_evaluation.specs.Given.{Given, runs, on, nothing, is_both, mode_by, mode_where}
use Rattle.ep_evaluation.specs.Operators.{may_be}
use Rattle.ep_evaluation.specs.Evaluation.{Means, same, state_for, given_in, given_where, later, later_side}
use Rattle.ep_evaluation.specs.Evaluation.{later_faults}
use Rattle.ep_evaluation.specs.Laws.{memory_of, Machine}
use Rattle.ep_evaluation.proofs.Later.{IsOf}
use Rattle.ep_evaluation.proofs.Short.{not_both}
use Rattle.ep_single_narrowed.specs.Laws.{IsKeptOne, IfKeptOne}
use Rattle.ep_single_narrowed.proofs.Cells.{then_one}
use Rattle.ep_single_places.specs.Laws.{is_of_truth}
use Rattle.ep_single_places.proofs.Truths.{truths_are_one}
use Rattle.ep_single_sides.specs.Laws.{IsOneAs}
use Rattle.ep_single_given.specs.Laws.{FindAll}
use Rattle.ep_single_values.specs.Laws.{OneMeans}
use Rattle.ep_single_values.proofs.Given.{OneGives, one_at}

-- ---- the sides on which an operand is evaluated, if on any

abbrev runs_in : Option Mode → Side → Bool
runs_in None s = false
runs_in (Some r) s = runs r s

by_left : (a b : Bool) → runs_in (mode_by a b) left ≡ a
by_left true true = refl
by_left true false = refl
by_left false true = refl
by_left false false = refl

by_right : (a b : Bool) → runs_in (mode_by a b) right ≡ b
by_right true true = refl
by_right true false = refl
by_right false true = refl
by_right false false = refl

where_runs : (mode : Mode) (g : Side → Bool) (s : Side) → runs mode s ≡ true → runs_in (mode_where mode g) s ≡ g s
where_runs Both g left r = by_left (g left) (g right)
where_runs Both g right r = by_right (g left) (g right)
where_runs Left g left r = by_left (g left) false
where_runs Left g right r = absurd (let q : false ≡ true = r in cc)
where_runs Right g left r = absurd (let q : false ≡ true = r in cc)
where_runs Right g right r = by_right false (g right)

where_within : (mode : Mode) (g : Side → Bool) (s : Side) → runs_in (mode_where mode g) s ≡ true
    → runs mode s ≡ true
where_within Both g s r = refl
where_within Left g left r = refl
where_within Left g right r = absurd (let q : false ≡ true = sym (by_right (g left) false) ∙ r in cc)
where_within Right g left r = absurd (let q : false ≡ true = sym (by_left false (g right)) ∙ r in cc)
where_within Right g right r = refl

twice : (b t : Bool) → b ≡ is_of_truth t (is_of_truth b t)
twice true true = refl
twice true false = refl
twice false true = refl
twice false false = refl

-- a machine finds a value of one truth
pub only_one_truth : (f : Side → Machine) (m : Memories) (t : Bool) (s : Side)
    → IsOf (f s (memory_of s m)) t → IsOf (f s (memory_of s m)) (not t) → ⊥
only_one_truth f m t s i j =
    not_both t (sym i.truth ∙ (ap is_true (has_one i.u j.u (sym i.finds ∙ j.finds)) ∙ j.truth))

module _ {N : Type 0} (D : Ops N) (law : Lawful D) (p : Program) (ord : Side → Order) (wf wh : Scalar)
    (f h : Side → Machine) (a b : Means N) (ga : OneGives D p ord wf f a.gives) (gb : OneGives D p ord wh h b.gives)
    (oa : OneMeans D p ord f a)
    (idle : (mode : Mode) (k : Known N) (s : Side) → runs mode s ≡ false → on (b.gives mode k).pair s ≡ nothing)
    (t : Bool) (k : Known N) (m : Memories) (s : IsKeptOne D p ord k m) where
  abbrev takes : Bool → Side → Type 0
  takes r c = IsOf (f c (memory_of c m)) r

  pub record LaterOne (y : Option (Given N)) (mode : Mode) : Type 0 where
    pub quiet : later_faults D y ≡ []
    pub taken : (c : Side) → runs mode c ≡ true → takes t c → (v : Datum) → h c (memory_of c m) ≡ has v
        → IsOneAs D wh (later_side D y c) v
    pub left_out : (c : Side) → runs mode c ≡ true → takes (not t) c → later_side D y c ≡ nothing

  -- the state in which it is evaluated
  assumed_one : (c : Side) (j : Known N) → IsKeptOne D p ord j m → takes t c → IfKeptOne D p ord (a.assumes c t j) m
  assumed_one c j q i = oa.assumes j m q c t i.u i.finds i.truth

  state_one : (st : Bool) (r : Mode) → ((c : Side) → runs r c ≡ true → takes t c)
      → IfKeptOne D p ord (state_for D a st r t k) m
  state_one true Both i =
      then_one D law p ord m (a.assumes left t k) (a.assumes right t) (assumed_one left k s (i left refl))
      (λ j q. assumed_one right j q (i right refl))
  state_one true Left i = assumed_one left k s (i left refl)
  state_one true Right i = assumed_one right k s (i right refl)
  state_one false r i = s

  module _ (mode : Mode)
      (second : (c : Side) → runs mode c ≡ true → takes t c → (v : Datum) × (h c (memory_of c m) ≡ has v)) where
    module _ (r : Mode) (within : (c : Side) → runs r c ≡ true → runs mode c ≡ true)
        (asks : (c : Side) → runs r c ≡ true → takes t c)
        (others : (c : Side) → runs mode c ≡ true → runs r c ≡ false → takes (not t) c) where
      runs_so : (c : Side) → runs mode c ≡ true → takes t c → runs r c ≡ true
      runs_so c i n = by (runs r c) refl
        where
          by : (b : Bool) → runs r c ≡ b → b ≡ true
          by true e = refl
          by false e = absurd (only_one_truth f m t c n (others c i e))

      idle_so : (c : Side) → takes (not t) c → runs r c ≡ false
      idle_so c n = by (runs r c) refl
        where
          by : (b : Bool) → runs r c ≡ b → b ≡ false
          by true e = absurd (only_one_truth f m t c (asks c e) n)
          by false e = refl

      later_in : (o : Option (Known N)) → IfKeptOne D p ord o m → LaterOne (given_in D b r o) mode
      later_in None q = absurd q
      later_in (Some j) q =
          let one = gb.one j m q r (λ c i. second c (within c i) (asks c i)) in
          record {
            quiet = one.quiet;
            taken = λ c i n v e. one_at D p ord wh h b.gives gb j m q r one c (runs_so c i n) v e;
            left_out = λ c i n. idle r j c (idle_so c n);
          }

    later_where : (st : Bool) (o : Option Mode) → ((c : Side) → runs_in o c ≡ true → runs mode c ≡ true)
        → ((c : Side) → runs_in o c ≡ true → takes t c)
        → ((c : Side) → runs mode c ≡ true → runs_in o c ≡ false → takes (not t) c)
        → LaterOne (given_where D a b st t k o) mode
    later_where st None within asks others = record {
      quiet = refl;
      taken = λ c i n v e. absurd (only_one_truth f m t c n (others c i refl));
      left_out = λ c i n. refl;
    }
    later_where st (Some r) within asks others =
        later_in r within asks others (state_for D a st r t k) (state_one st r asks)

    module _ (all : FindAll mode f m) where
      abbrev x : Given N
      x = a.gives mode k

      abbrev may : Side → Bool
      may c = may_be D (on x.pair c).value t

      -- the first operand has the truth that it may have
      may_is : (c : Side) → runs mode c ≡ true → takes (is_of_truth t (may c)) c
      may_is c r =
          let u = all c r in
          let i = one_at D p ord wf f a.gives ga k m s mode (ga.one k m s mode all) c r u.0 u.1 in
          record {
            u = u.0;
            finds = u.1;
            truth = twice (is_true u.0) t
                ∙ ap (is_of_truth t) (sym (truths_are_one D law wf (on x.pair c).value u.0 i.one i.allowed t));
          }

      may_at : (c : Side) (b : Bool) → runs mode c ≡ true → may c ≡ b → takes (is_of_truth t b) c
      may_at c b r e = subst (λ b. takes (is_of_truth t b) c) e (may_is c r)

      pub later_one : LaterOne (later D a b mode t k x) mode
      later_one =
          later_where (same D x || not (is_both mode)) (mode_where mode (λ c. may_be D (on x.pair c).value t))
          (where_within mode may)
          (λ c e.
          may_at c true (where_within mode may c e) (sym (where_runs mode may c (where_within mode may c e)) ∙ e))
          (λ c i e. may_at c false i (sym (where_runs mode may c i) ∙ e))
