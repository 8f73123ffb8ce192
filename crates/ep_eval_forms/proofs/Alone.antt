-- What tests and operands have given on one side, by what their parts have given.
use Rattle.std.proofs.Common.{◌≡◌, ℕ, Bool, true, false, ◌||◌, not, List, ◌++◌, length, drop, Option, None, Some}
use Rattle.std.proofs.Common.{refl, sym, ap, ◌∙◌, subst, append-nil}
use Rattle.std.specs.Prelude.{IfSome}
use Rattle.ep_int.specs.declared.types.Cmp.{Cmp}
use Rattle.ep_int.specs.declared.types.IntType.{IntType}
use Rattle.ep_int.specs.declared.types.Scalar.{Scalar}
use Rattle.ep_domain.specs.Domain.{Ops}
use Rattle.ep_cells.specs.States.{Known, IsOfSort}
use Rattle.ep_core.specs.Runs.{Side}
use Rattle.ep_equalities.specs.declared.pair.Fault.{Fault}
use Rattle.ep_equalities.specs.declared.pair.Mode.{Mode}
use Rattle.ep_equalities.specs.declared.pair.Mode.TheVariants.{Both}
use Rattle.ep_equalities.specs.declared.pair.PairValue.{PairValue}
use Rattle.ep_evaluation.specs.Given.{alone, on, are_sure, is_both, mode_where}
use Rattle.ep_evaluation.specs.Narrowed.{then_with, again, when_not, either_of, cell_of, if_kept}
use Rattle.ep_evaluation.specs.Operators.{may_be}
use Rattle.ep_evaluation.specs.Evaluation.{Means, Reaches, number, pointer, same, with_cell, compare_given}
use Rattle.ep_evaluation.specs.Evaluation.{compare_means, pointers_given, pointers_means, not_given, not_means}
use Rattle.ep_evaluation.specs.Evaluation.{short_given, and_means, or_means, load_given, load_means, convert_given}
use Rattle.ep_evaluation.specs.Evaluation.{convert_means, places_at, cell_if}
use Rattle.ep_eval_sides.specs.Sides.{faultless, faultless_if}
use Rattle.ep_eval_parts.specs.After.{left_of}
use Rattle.ep_eval_loads.specs.declared.after.After.{After}
use Rattle.ep_eval_parts.specs.declared.left.Assumed.{Assumed}
use Rattle.ep_eval_parts.specs.declared.left.Second.{Second}
use Rattle.ep_eval_parts.specs.declared.left.Wants.{Wants}
use Rattle.ep_eval_parts.specs.declared.modes.First.{First}
use Rattle.ep_eval_parts.specs.declared.operands.Operand.{Operand}
use Rattle.ep_eval_parts.specs.Limits.{limits_if, number_limits, pointer_limits, value_limits, both_limited}
use Rattle.ep_eval_parts.specs.Steps.{state_where}
use Rattle.ep_eval_forms.specs.Results.{IsGiven, IsTested, IsOperand, IsFirst, IsSecond}
use Rattle.ep_eval_forms.proofs.Arms.{one_given, two_given, two_plain}
use Rattle.ep_eval_forms.proofs.Nexts.{leads_alone, leads_both, short_alone, short_alone_faults}
use Rattle.ep_eval_forms.proofs.Narrowings.{sure_since, sure_since_two, value_left, compare_left, pointers_left}

module _ {N : Type 0} where
  -- the value of an operand, or of a test, alone
  pub of_operand : {a : Means N} {s : Side} {k : Known N} {old new : List Fault} {x : Operand N}
      → IsOperand a s k old new x → IsGiven a.gives (alone s) k old new x.value
  of_operand i = record { value = i.value; faults = i.faults }

  pub of_first : {D : Ops N} {a : Means N} {m : Mode} {k : Known N} {w : Wants} {old new : List Fault} {x : First N}
      → IsFirst D a m k w old new x → IsGiven a.gives m k old new x.value
  of_first i = record { value = i.value; faults = i.faults }

  pub first_mode : (D : Ops N) {a : Means N} {m n : Mode} {k : Known N} {w : Wants} {old new : List Fault} {x : First N}
      → m ≡ n → IsFirst D a n k w old new x → IsFirst D a m k w old new x
  first_mode D {a = a} {k = k} {w = w} {old = old} {new = new} {x = x} e i =
      subst (λ m. IsFirst D a m k w old new x) (sym e) i

  -- what is left of the truth that was asked for
  pub left_is : {a : Means N} {s : Side} {k : Known N} {w : Wants} {old new : List Fault} {x : Assumed N} {r : After N}
      (t : Bool) → IsTested a s k w old new x → (t ≡ true → w.yes ≡ true) → (t ≡ false → w.no ≡ true)
      → (t ≡ true → r ≡ x.when_true) → (t ≡ false → r ≡ x.when_false) → left_of k r ≡ a.assumes s t k
  left_is {k = k} true i y n p q = ap (left_of k) (p refl) ∙ i.yes (y refl)
  left_is {k = k} false i y n p q = ap (left_of k) (q refl) ∙ i.no (n refl)

  module _ (D : Ops N) (s : Side) (k : Known N) where
    -- ---- `!`, `&&`, `||`

    pub not_tested : (a : Means N) {w v : Wants} {old new : List Fault} {x r : Assumed N} → IsTested a s k v old new x
        → (w.no ≡ true → v.yes ≡ true) → (w.yes ≡ true → v.no ≡ true)
        → r.value ≡ (not_given D (alone s) (faultless x.value)).pair → r.when_true ≡ x.when_false
        → r.when_false ≡ x.when_true → IsTested (not_means D a) s k w old new r
    not_tested a i y n v p q = record {
      value = v ∙ ap (λ x. (not_given D (alone s) (faultless x)).pair) i.value;
      faults = i.faults;
      yes = λ g. ap (left_of k) p ∙ i.no (n g);
      no = λ g. ap (left_of k) q ∙ i.yes (y g);
    }

    module _ (a b : Means N) (runs : Bool) {w v : Wants} {old one two : List Fault} {x r : Assumed N} {y : Second N} where
      pub and_tested : IsTested a s k v old one x → v.yes ≡ true → (w.no ≡ true → v.no ≡ true)
          → runs ≡ may_be D (on x.value s).value true → IsSecond D b s runs (left_of k x.when_true) k w one two y
          → r.value ≡ (short_given D true (alone s) (faultless x.value) (faultless_if y.value)).pair
          → r.when_true ≡ y.when_true
          → (w.no ≡ true → left_of k r.when_false ≡ either_of D (left_of k x.when_false) (left_of k y.when_false))
          → IsTested (and_means D a b) s k w old two r
      and_tested i f n j l v p q = record {
        value =
            short_alone D a b s true k x.value runs (left_of k x.when_true) y.value r.value i.value j (i.yes f)
            l.value v;
        faults =
            short_alone_faults D a b s true k x.value runs (left_of k x.when_true) old one two i.value j (i.yes f)
            i.faults l.faults;
        yes = λ g. ap (left_of k) p ∙ l.yes g ∙ ap (λ o. then_with o (b.assumes s true)) (i.yes f);
        no = λ g.
            q g ∙ ap (λ o. either_of D o (left_of k y.when_false)) (i.no (n g))
            ∙ ap (either_of D (a.assumes s false k)) (l.no g ∙ ap (λ o. then_with o (b.assumes s false)) (i.yes f));
      }

      pub or_tested : IsTested a s k v old one x → v.no ≡ true → (w.yes ≡ true → v.yes ≡ true)
          → runs ≡ may_be D (on x.value s).value false → IsSecond D b s runs (left_of k x.when_false) k w one two y
          → r.value ≡ (short_given D false (alone s) (faultless x.value) (faultless_if y.value)).pair
          → r.when_false ≡ y.when_false
          → (w.yes ≡ true → left_of k r.when_true ≡ either_of D (left_of k x.when_true) (left_of k y.when_true))
          → IsTested (or_means D a b) s k w old two r
      or_tested i f n j l v p q = record {
        value =
            short_alone D a b s false k x.value runs (left_of k x.when_false) y.value r.value i.value j (i.no f)
            l.value v;
        faults =
            short_alone_faults D a b s false k x.value runs (left_of k x.when_false) old one two i.value j (i.no f)
            i.faults l.faults;
        yes = λ g.
            q g ∙ ap (λ o. either_of D o (left_of k y.when_true)) (i.yes (n g))
            ∙ ap (either_of D (a.assumes s true k)) (l.yes g ∙ ap (λ o. then_with o (b.assumes s true)) (i.no f));
        no = λ g. ap (left_of k) p ∙ l.no g ∙ ap (λ o. then_with o (b.assumes s false)) (i.no f);
      }

    -- the second operand, where the first one leaves nothing
    none_left : (b : Means N) (runs : Bool) {w : Wants} {fs : List Fault} {r : Second N}
        → r.value ≡ None → left_of k r.when_true ≡ None → left_of k r.when_false ≡ None
        → IsSecond D b s runs None k w fs fs r
    none_left b true {fs = fs} v y n = record { value = v; faults = sym (append-nil fs); yes = λ g. y; no = λ g. n }
    none_left b false {fs = fs} v y n = record { value = v; faults = sym (append-nil fs); yes = λ g. y; no = λ g. n }

    module _ (b : Means N) (runs : Bool) {w : Wants} {r : Second N} where
      pub second_in : {o p : Option (Known N)} {old new : List Fault} → o ≡ p → IsSecond D b s runs p k w old new r
          → IsSecond D b s runs o k w old new r
      second_in {old = old} {new = new} e i = subst (λ o. IsSecond D b s runs o k w old new r) (sym e) i

      pub second_nothing : {o : Option (Known N)} {fs : List Fault} → o ≡ None → r.value ≡ None
          → left_of k r.when_true ≡ None → left_of k r.when_false ≡ None → IsSecond D b s runs o k w fs fs r
      second_nothing e v y n = second_in e (none_left b runs v y n)

      pub second_changed : {o : Option (Known N)} {old new : List Fault} {l : Known N} {x : Second N} → o ≡ Some l
          → IsSecond D b s runs (Some l) l w old new x → r.value ≡ x.value
          → left_of k r.when_true ≡ left_of l x.when_true → left_of k r.when_false ≡ left_of l x.when_false
          → IsSecond D b s runs o k w old new r
      second_changed {old = old} {new = new} {l = l} e i v y n =
          second_in e (record { value = v ∙ i.value; faults = i.faults; yes = λ g. y ∙ i.yes g; no = λ g. n ∙ i.no g })

      -- it is evaluated, or isn't
      pub second_runs : {old new : List Fault} {x : Assumed N} → runs ≡ true → IsTested b s k w old new x
          → r.value ≡ Some x.value → r.when_true ≡ x.when_true → r.when_false ≡ x.when_false
          → IsSecond D b s runs (Some k) k w old new r
      second_runs {old = old} {new = new} e i v y n =
          subst (λ u. IsSecond D b s u (Some k) k w old new r) (sym e)
          (record {
            value = v ∙ ap Some i.value;
            faults = i.faults;
            yes = λ g. ap (left_of k) y ∙ i.yes g;
            no = λ g. ap (left_of k) n ∙ i.no g;
          })

      pub second_unseen : {fs old new : List Fault} {x : Assumed N} → runs ≡ false → IsTested b s k w old new x
          → r.value ≡ None → r.when_true ≡ x.when_true → r.when_false ≡ x.when_false
          → IsSecond D b s runs (Some k) k w fs fs r
      second_unseen {fs = fs} e i v y n =
          subst (λ u. IsSecond D b s u (Some k) k w fs fs r) (sym e)
          (record {
            value = v;
            faults = sym (append-nil fs);
            yes = λ g. ap (left_of k) y ∙ i.yes g;
            no = λ g. ap (left_of k) n ∙ i.no g;
          })

    -- ---- comparisons, and values

    module _ (a b : Means N) (sure : Bool) (from : ℕ) {w : Wants} {old one two : List Fault} {x y : Operand N} {r : Assumed N} where
      pub compare_tested : (c : Cmp) → IsOperand a s k old one x → IsOperand b s k one two y → from ≡ length old
          → sure ≡ are_sure (drop from two)
          → r.value ≡ (compare_given D c (alone s) (faultless x.value) (faultless y.value)).pair
          → (w.yes ≡ true → left_of k r.when_true ≡ both_limited D (limits_if sure (number_limits D (when_not c true)
          (number D (on x.value s)) (number D (on y.value s)))) x.cell (again y.cell) k)
          → (w.no ≡ true → left_of k r.when_false ≡ both_limited D (limits_if sure (number_limits D (when_not c false)
          (number D (on x.value s)) (number D (on y.value s)))) x.cell (again y.cell) k)
          → IsTested (compare_means D c a b) s k w old two r
      compare_tested c i j e h v p q =
          let known : sure ≡ are_sure ((a.gives (alone s) k).faults ++ (b.gives (alone s) k).faults) =
          sure_since_two old (a.gives (alone s) k).faults (b.gives (alone s) k).faults one two from sure e i.faults
          j.faults h in
          let all : IsGiven (compare_means D c a b).gives (alone s) k old two r.value =
          two_plain (compare_given D c (alone s)) refl (λ u v. refl) (λ u v. refl) (of_operand i) (of_operand j) v in
          record {
            value = all.value;
            faults = all.faults;
            yes =
                compare_left D s k x.value x.cell sure w.yes (left_of k r.when_true) a b y.value _ c true i.value
                j.value i.cell known refl
                (λ g. p g ∙ ap (λ d. both_limited D (limits_if sure (number_limits D (when_not c true)
                (number D (on x.value s)) (number D (on y.value s)))) x.cell (again d) k) j.cell);
            no =
                compare_left D s k x.value x.cell sure w.no (left_of k r.when_false) a b y.value _ c false i.value
                j.value i.cell known refl
                (λ g. q g ∙ ap (λ d. both_limited D (limits_if sure (number_limits D (when_not c false)
                (number D (on x.value s)) (number D (on y.value s)))) x.cell (again d) k) j.cell);
          }

      pub pointers_tested : (c : Cmp) {all : List Fault} → IsOperand a s k old one x → IsOperand b s k one two y
          → from ≡ length old → sure ≡ are_sure (drop from two)
          → r.value ≡ (pointers_given D c (alone s) (faultless x.value) (faultless y.value)).pair
          → all ≡ two ++ (pointers_given D c (alone s) (faultless x.value) (faultless y.value)).faults
          → (w.yes ≡ true → left_of k r.when_true ≡ both_limited D (limits_if sure (pointer_limits D c true
          (pointer D (on x.value s)) (pointer D (on y.value s)))) x.cell (again y.cell) k)
          → (w.no ≡ true → left_of k r.when_false ≡ both_limited D (limits_if sure (pointer_limits D c false
          (pointer D (on x.value s)) (pointer D (on y.value s)))) x.cell (again y.cell) k)
          → IsTested (pointers_means D c a b) s k w old all r
      pointers_tested c {all = all} i j e h v f p q =
          let known : sure ≡ are_sure ((a.gives (alone s) k).faults ++ (b.gives (alone s) k).faults) =
          sure_since_two old (a.gives (alone s) k).faults (b.gives (alone s) k).faults one two from sure e i.faults
          j.faults h in
          let whole : IsGiven (pointers_means D c a b).gives (alone s) k old all r.value =
          two_given (pointers_given D c (alone s)) refl (λ u v. refl) (λ u v. refl) (of_operand i) (of_operand j) v f in
          record {
            value = whole.value;
            faults = whole.faults;
            yes =
                pointers_left D s k x.value x.cell sure w.yes (left_of k r.when_true) a b y.value _ c true i.value
                j.value i.cell known refl
                (λ g. p g ∙ ap (λ d. both_limited D (limits_if sure (pointer_limits D c true
                (pointer D (on x.value s)) (pointer D (on y.value s)))) x.cell (again d) k) j.cell);
            no =
                pointers_left D s k x.value x.cell sure w.no (left_of k r.when_false) a b y.value _ c false i.value
                j.value i.cell known refl
                (λ g. q g ∙ ap (λ d. both_limited D (limits_if sure (pointer_limits D c false
                (pointer D (on x.value s)) (pointer D (on y.value s)))) x.cell (again d) k) j.cell);
          }

    pub value_tested : (a : Means N) (sure : Bool) (from : ℕ) {w : Wants} {old new : List Fault} {x : Operand N}
        {r : Assumed N} → IsOperand a s k old new x → from ≡ length old → sure ≡ are_sure (drop from new)
        → r.value ≡ x.value
        → (w.yes ≡ true → left_of k r.when_true
        ≡ both_limited D (limits_if sure (value_limits D true (on x.value s).value)) x.cell (λ k. None) k)
        → (w.no ≡ true → left_of k r.when_false
        ≡ both_limited D (limits_if sure (value_limits D false (on x.value s).value)) x.cell (λ k. None) k)
        → IsTested (with_cell D a.gives a.cell) s k w old new r
    value_tested a sure from {w = w} {old = old} {new = new} {x = x} {r = r} i e h v p q =
        let known : sure ≡ are_sure (a.gives (alone s) k).faults =
        sure_since old (a.gives (alone s) k).faults new from sure e i.faults h in
        record {
          value = v ∙ i.value;
          faults = i.faults;
          yes = value_left D s k x.value x.cell sure w.yes (left_of k r.when_true) a true i.value i.cell known p;
          no = value_left D s k x.value x.cell sure w.no (left_of k r.when_false) a false i.value i.cell known q;
        }

    -- ---- operands with cells

    pub load_operand : (sizes : List ℕ) (f : Reaches N) (what : Scalar) (sure : Bool) (from : ℕ)
        {old one two : List Fault} {x : PairValue N} {r : Operand N} → IsGiven f (alone s) k old one x
        → from ≡ length old → sure ≡ are_sure (drop from one)
        → r.value ≡ (load_given D sizes what (alone s) k (faultless x)).pair
        → two ≡ one ++ (load_given D sizes what (alone s) k (faultless x)).faults
        → r.cell ≡ cell_if D sizes sure (cell_of k s what (places_at D sizes what k (on x s)))
        → IfSome r.cell (λ c. IsOfSort c.what c.value) → IsOperand (load_means D sizes what f) s k old two r
    load_operand sizes f what sure from {old = old} {one = one} {two = two} {x = x} {r = r} i e h v w c o =
        let known : sure ≡ are_sure (f (alone s) k).faults =
        sure_since old (f (alone s) k).faults one from sure e i.faults h in
        let all : IsGiven (load_means D sizes what f).gives (alone s) k old two r.value =
        one_given (load_given D sizes what (alone s) k) refl (λ g. refl) (λ g. refl) i v w in
        record {
          value = all.value;
          faults = all.faults;
          cell =
              c ∙ ap (λ x. cell_if D sizes sure (cell_of k s what (places_at D sizes what k (on x s)))) i.value
              ∙ ap (λ b. cell_if D sizes b
              (cell_of k s what (places_at D sizes what k (on (f (alone s) k).pair s)))) known;
          sort = o;
        }

    pub convert_operand : (a : Means N) (u : Option IntType) (t : IntType) {old new : List Fault} {x r : Operand N}
        → IsOperand a s k old new x → r.value ≡ (convert_given D u t (alone s) (faultless x.value)).pair
        → r.cell ≡ if_kept t x.cell → IfSome r.cell (λ c. IsOfSort c.what c.value)
        → IsOperand (convert_means D u t a) s k old new r
    convert_operand a u t i v c o = record {
      value = v ∙ ap (λ x. (convert_given D u t (alone s) (faultless x)).pair) i.value;
      faults = i.faults;
      cell = c ∙ ap (if_kept t) i.cell;
      sort = o;
    }

    -- ---- first operands

    pub first_alone : (a : Means N) {w : Wants} {old new : List Fault} {x : Assumed N} {r : First N}
        → IsTested a s k w old new x → r.value ≡ x.value
        → r.mode_true ≡ mode_where (alone s) (λ s. may_be D (on x.value s).value true)
        → r.mode_false ≡ mode_where (alone s) (λ s. may_be D (on x.value s).value false)
        → r.when_true ≡ x.when_true → r.when_false ≡ x.when_false → IsFirst D a (alone s) k w old new r
    first_alone a {x = x} {r = r} i v m n p q = record {
      value = v ∙ i.value;
      faults = i.faults;
      yes = λ g.
          leads_alone D a s true k x.value r.mode_true (left_of k r.when_true) i.value m
          (ap (left_of k) p ∙ i.yes g);
      no = λ g.
          leads_alone D a s false k x.value r.mode_false (left_of k r.when_false) i.value n
          (ap (left_of k) q ∙ i.no g);
    }

  pub first_both : (D : Ops N) (k : Known N) (a : Means N) (stable : Bool) {w : Wants} {old new : List Fault}
      {x : PairValue N} {r : First N} → IsGiven a.gives Both k old new x → r.value ≡ x
      → stable ≡ (same D (faultless x) || not (is_both Both))
      → r.mode_true ≡ mode_where Both (λ s. may_be D (on x s).value true)
      → r.mode_false ≡ mode_where Both (λ s. may_be D (on x s).value false)
      → (w.yes ≡ true → left_of k r.when_true ≡ state_where D a stable r.mode_true true k)
      → (w.no ≡ true → left_of k r.when_false ≡ state_where D a stable r.mode_false false k)
      → IsFirst D a Both k w old new r
  first_both D k a stable {x = x} {r = r} i v e m n p q = record {
    value = v ∙ i.value;
    faults = i.faults;
    yes = λ g. leads_both D a stable true k x r.mode_true (left_of k r.when_true) i.value e m (p g);
    no = λ g. leads_both D a stable false k x r.mode_false (left_of k r.when_false) i.value e n (q g);
  }
