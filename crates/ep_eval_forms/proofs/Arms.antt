-- What the forms of expressions and places give, by what their operands have given.
use Rattle.std.proofs.Common.{◌≡◌, Bool, true, false, List, [], ◌++◌, Option, None, Some, Result, Ok, Err, IfOk, refl}
use Rattle.std.proofs.Common.{sym, ap, ◌∙◌, subst, append_assoc, append-nil}
use Rattle.std.specs.Prelude.{OnOk}
use Rattle.ep_domain.specs.Domain.{Ops}
use Rattle.ep_cells.specs.States.{Known}
use Rattle.ep_equalities.specs.declared.pair.Fault.{Fault}
use Rattle.ep_equalities.specs.declared.pair.Mode.{Mode}
use Rattle.ep_equalities.specs.declared.pair.PairValue.{PairValue}
use Rattle.ep_evaluation.specs.Given.{Given}
use Rattle.ep_evaluation.specs.Evaluation.{Means, Reaches, short_given, chosen_given, later, later_faults, given_in}
use Rattle.ep_evaluation.specs.Evaluation.{short_in, chosen_in}
use Rattle.ep_eval_sides.specs.Sides.{faultless, faultless_if}
use Rattle.ep_eval_parts.specs.Steps.{LeadsOn, given_later, pair_if}
use Rattle.ep_eval_forms.specs.Results.{IsGiven, IsLater}

-- both clauses of a call as one
pub if_both : {T E P : Type 0} (r : Result T E) (Q R : T → Type 0) → ((x : T) → Q x → P → R x) → IfOk r Q → OnOk r P
    → IfOk r R
if_both (Ok x) Q R f q p = f x q p
if_both (Err e) Q R f q p = tt

-- and one as both
pub on_if : {T E P : Type 0} (r : Result T E) (Q : T → Type 0) → ((x : T) → Q x → P) → IfOk r Q → OnOk r P
on_if (Ok x) Q f q = f x q
on_if (Err e) Q f q = tt

-- three clauses, or four
pub if_three : {T E : Type 0} (r : Result T E) (P Q S R : T → Type 0) → ((x : T) → P x → Q x → S x → R x) → IfOk r P
    → IfOk r Q → IfOk r S → IfOk r R
if_three (Ok x) P Q S R f p q s = f x p q s
if_three (Err e) P Q S R f p q s = tt

pub if_four : {T E O : Type 0} (r : Result T E) (P Q S R : T → Type 0) → ((x : T) → P x → O → Q x → S x → R x) → IfOk r P
    → OnOk r O → IfOk r Q → IfOk r S → IfOk r R
if_four (Ok x) P Q S R f p o q s = f x p o q s
if_four (Err e) P Q S R f p o q s = tt

pub given_mode : {N : Type 0} {f : Reaches N} {m n : Mode} {k : Known N} {old new : List Fault} {r : PairValue N} → m ≡ n
    → IsGiven f m k old new r → IsGiven f n k old new r
given_mode {f = f} {k = k} {old = old} {new = new} {r = r} e i = subst (λ m. IsGiven f m k old new r) e i

-- forms without operands
pub none_given : {N : Type 0} {f : Reaches N} {m : Mode} {k : Known N} {old : List Fault} {r : PairValue N}
    → (f m k).faults ≡ [] → r ≡ (f m k).pair → IsGiven f m k old old r
none_given {old = old} e v = record {
  value = v;
  faults = sym (append-nil old) ∙ sym (ap (λ fs. old ++ fs) e);
}

-- forms of one operand, without faults of their own or with some
pub one_plain : {N : Type 0} {f h : Reaches N} {m : Mode} {k : Known N} {old one : List Fault} {x r : PairValue N}
    (F : Given N → Given N) → h m k ≡ F (f m k)
    → ((g : Given N) → (F g).pair ≡ (F (faultless g.pair)).pair) → ((g : Given N) → (F g).faults ≡ g.faults)
    → IsGiven f m k old one x → r ≡ (F (faultless x)).pair → IsGiven h m k old one r
one_plain {f = f} {m = m} {k = k} {old = old} F e p q i v = record {
  value = v ∙ ap (λ y. (F (faultless y)).pair) i.value ∙ sym (p (f m k)) ∙ sym (ap (λ g. g.pair) e);
  faults = i.faults ∙ ap (λ fs. old ++ fs) (sym (q (f m k)) ∙ sym (ap (λ g. g.faults) e));
}

pub one_given : {N : Type 0} {f h : Reaches N} {m : Mode} {k : Known N} {old one two : List Fault} {x r : PairValue N}
    (F : Given N → Given N) → h m k ≡ F (f m k)
    → ((g : Given N) → (F g).pair ≡ (F (faultless g.pair)).pair)
    → ((g : Given N) → (F g).faults ≡ g.faults ++ (F (faultless g.pair)).faults)
    → IsGiven f m k old one x → r ≡ (F (faultless x)).pair → two ≡ one ++ (F (faultless x)).faults
    → IsGiven h m k old two r
one_given {f = f} {m = m} {k = k} {old = old} {one = one} F e p q i v w = record {
  value = v ∙ ap (λ y. (F (faultless y)).pair) i.value ∙ sym (p (f m k)) ∙ sym (ap (λ g. g.pair) e);
  faults =
      w ∙ ap (λ y. one ++ (F (faultless y)).faults) i.value
      ∙ ap (λ fs. fs ++ (F (faultless (f m k).pair)).faults) i.faults
      ∙ append_assoc old (f m k).faults (F (faultless (f m k).pair)).faults
      ∙ ap (λ fs. old ++ fs) (sym (q (f m k)) ∙ sym (ap (λ g. g.faults) e));
}

-- forms of two operands
pub two_plain : {N : Type 0} {f g h : Reaches N} {m : Mode} {k : Known N} {old one two : List Fault} {x y r : PairValue N}
    (F : Given N → Given N → Given N) → h m k ≡ F (f m k) (g m k)
    → ((u v : Given N) → (F u v).pair ≡ (F (faultless u.pair) (faultless v.pair)).pair)
    → ((u v : Given N) → (F u v).faults ≡ u.faults ++ v.faults)
    → IsGiven f m k old one x → IsGiven g m k one two y → r ≡ (F (faultless x) (faultless y)).pair
    → IsGiven h m k old two r
two_plain {f = f} {g = g} {m = m} {k = k} {old = old} {x = x} {y = y} F e p q i j v = record {
  value =
      v ∙ ap (λ x. (F (faultless x) (faultless y)).pair) i.value
      ∙ ap (λ y. (F (faultless (f m k).pair) (faultless y)).pair) j.value
      ∙ sym (p (f m k) (g m k)) ∙ sym (ap (λ g. g.pair) e);
  faults =
      j.faults ∙ ap (λ fs. fs ++ (g m k).faults) i.faults ∙ append_assoc old (f m k).faults (g m k).faults
      ∙ ap (λ fs. old ++ fs) (sym (q (f m k) (g m k)) ∙ sym (ap (λ g. g.faults) e));
}

pub two_given : {N : Type 0} {f g h : Reaches N} {m : Mode} {k : Known N} {old one two all : List Fault}
    {x y r : PairValue N} (F : Given N → Given N → Given N) → h m k ≡ F (f m k) (g m k)
    → ((u v : Given N) → (F u v).pair ≡ (F (faultless u.pair) (faultless v.pair)).pair)
    → ((u v : Given N) → (F u v).faults ≡ u.faults ++ (v.faults ++ (F (faultless u.pair) (faultless v.pair)).faults))
    → IsGiven f m k old one x → IsGiven g m k one two y → r ≡ (F (faultless x) (faultless y)).pair
    → all ≡ two ++ (F (faultless x) (faultless y)).faults → IsGiven h m k old all r
two_given {f = f} {g = g} {m = m} {k = k} {old = old} {one = one} {two = two} {x = x} {y = y} F e p q i j v w = record {
  value =
      v ∙ ap (λ x. (F (faultless x) (faultless y)).pair) i.value
      ∙ ap (λ y. (F (faultless (f m k).pair) (faultless y)).pair) j.value
      ∙ sym (p (f m k) (g m k)) ∙ sym (ap (λ g. g.pair) e);
  faults =
      w ∙ ap (λ x. two ++ (F (faultless x) (faultless y)).faults) i.value
      ∙ ap (λ y. two ++ (F (faultless (f m k).pair) (faultless y)).faults) j.value
      ∙ ap (λ fs. fs ++ (F (faultless (f m k).pair) (faultless (g m k).pair)).faults)
      (j.faults ∙ ap (λ fs. fs ++ (g m k).faults) i.faults)
      ∙ append_assoc (old ++ (f m k).faults) (g m k).faults (F (faultless (f m k).pair) (faultless (g m k).pair)).faults
      ∙ append_assoc old (f m k).faults ((g m k).faults ++ (F (faultless (f m k).pair) (faultless (g m k).pair)).faults)
      ∙ ap (λ fs. old ++ fs) (sym (q (f m k) (g m k)) ∙ sym (ap (λ g. g.faults) e));
}

-- ---- operands that are evaluated later, if at all

module _ {N : Type 0} (D : Ops N) where
  pub short_pair : (t : Bool) (m : Mode) (x : Given N) (g : Option (Given N))
      → (short_given D t m (faultless x.pair) (faultless_if (pair_if g))).pair ≡ (short_given D t m x g).pair
  short_pair t m x None = refl
  short_pair t m x (Some y) = refl

  chosen_pair : (m : Mode) (x : Given N) (g h : Option (Given N))
      → (chosen_given D m (faultless x.pair) (faultless_if (pair_if g)) (faultless_if (pair_if h))).pair
      ≡ (chosen_given D m x g h).pair
  chosen_pair m x None None = refl
  chosen_pair m x None (Some z) = refl
  chosen_pair m x (Some y) None = refl
  chosen_pair m x (Some y) (Some z) = refl

  module _ (m : Mode) (k : Known N) (a b : Means N) (n : Option Mode) (o : Option (Known N)) where
    pub short_gives : (t : Bool) {h : Reaches N} {old one two : List Fault} {x : PairValue N}
        {y : Option (PairValue N)} {r : PairValue N} → h m k ≡ short_in D t a b m k (a.gives m k) → IsGiven a.gives m k old one x → LeadsOn D a m t k n o
        → IsLater D (given_later D b n o) one two y → r ≡ (short_given D t m (faultless x) (faultless_if y)).pair
        → IsGiven h m k old two r
    short_gives t {old = old} {one = one} {x = x} {y = y} e i l j v = record {
      value =
          v ∙ ap (λ y. (short_given D t m (faultless x) (faultless_if y)).pair) (j.value ∙ ap pair_if (l b))
          ∙ ap (λ x. (short_given D t m (faultless x)
          (faultless_if (pair_if (later D a b m t k (a.gives m k))))).pair) i.value
          ∙ short_pair t m (a.gives m k) (later D a b m t k (a.gives m k)) ∙ sym (ap (λ g. g.pair) e);
      faults =
          j.faults ∙ ap (λ g. one ++ later_faults D g) (l b)
          ∙ ap (λ fs. fs ++ later_faults D (later D a b m t k (a.gives m k))) i.faults
          ∙ append_assoc old (a.gives m k).faults (later_faults D (later D a b m t k (a.gives m k)))
          ∙ sym (ap (λ g. old ++ g.faults) e);
    }

    pub chosen_gives : (c : Means N) (p : Option Mode) (q : Option (Known N)) {h : Reaches N}
        {old one two all : List Fault} {x : PairValue N} {y z : Option (PairValue N)} {r : PairValue N} → h m k ≡ chosen_in D a b c m k (a.gives m k)
        → IsGiven a.gives m k old one x → LeadsOn D a m true k n o → LeadsOn D a m false k p q
        → IsLater D (given_later D b n o) one two y → IsLater D (given_later D c p q) two all z
        → r ≡ (chosen_given D m (faultless x) (faultless_if y) (faultless_if z)).pair → IsGiven h m k old all r
    chosen_gives c p q {old = old} {one = one} {two = two} {x = x} {y = y} {z = z} e i l u j w v =
        let g : Option (Given N) = later D a b m true k (a.gives m k) in
        let d : Option (Given N) = later D a c m false k (a.gives m k) in
        record {
          value =
              v ∙ ap (λ y. (chosen_given D m (faultless x) (faultless_if y) (faultless_if z)).pair)
              (j.value ∙ ap pair_if (l b))
              ∙ ap (λ z. (chosen_given D m (faultless x) (faultless_if (pair_if g)) (faultless_if z)).pair)
              (w.value ∙ ap pair_if (u c))
              ∙ ap (λ x. (chosen_given D m (faultless x) (faultless_if (pair_if g)) (faultless_if (pair_if d))).pair)
              i.value
              ∙ chosen_pair m (a.gives m k) g d ∙ sym (ap (λ g. g.pair) e);
          faults =
              w.faults ∙ ap (λ g. two ++ later_faults D g) (u c)
              ∙ ap (λ fs. fs ++ later_faults D d) (j.faults ∙ ap (λ g. one ++ later_faults D g) (l b)
              ∙ ap (λ fs. fs ++ later_faults D g) i.faults)
              ∙ append_assoc (old ++ (a.gives m k).faults) (later_faults D g) (later_faults D d)
              ∙ append_assoc old (a.gives m k).faults (later_faults D g ++ later_faults D d)
              ∙ sym (ap (λ g. old ++ g.faults) e);
        }

  -- where there is no mode, or nothing is left
  pub later_none : (b : Means N) (o : Option (Known N)) {m : Option Mode} {fs : List Fault} → m ≡ None
      → IsLater D (given_later D b m o) fs fs None
  later_none b o {fs = fs} e =
      subst (λ m. IsLater D (given_later D b m o) fs fs None) (sym e)
      (record { value = refl; faults = sym (append-nil fs) })

  pub later_some : (b : Means N) (o : Option (Known N)) {m : Option Mode} (n : Mode) {old new : List Fault}
      {r : Option (PairValue N)} → m ≡ Some n → IsLater D (given_in D b n o) old new r
      → IsLater D (given_later D b m o) old new r
  later_some b o n {old = old} {new = new} {r = r} e i =
      subst (λ m. IsLater D (given_later D b m o) old new r) (sym e) i

  pub later_nothing : (b : Means N) (n : Mode) {o : Option (Known N)} {fs : List Fault} → o ≡ None
      → IsLater D (given_in D b n o) fs fs None
  later_nothing b n {fs = fs} e =
      subst (λ o. IsLater D (given_in D b n o) fs fs None) (sym e) (record { value = refl; faults = sym (append-nil fs) })

  pub later_left : (b : Means N) (n : Mode) {o : Option (Known N)} {k : Known N} {old new : List Fault} {r : PairValue N}
      → o ≡ Some k → IsGiven b.gives n k old new r → IsLater D (given_in D b n o) old new (Some r)
  later_left b n {old = old} {new = new} {r = r} e i =
      subst (λ o. IsLater D (given_in D b n o) old new (Some r)) (sym e)
      (record { value = ap Some i.value; faults = i.faults })
