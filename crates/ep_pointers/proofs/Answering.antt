-- What a comparison may answer: each pair of pointers has its answer, and two values with one member have one.
use Rattle.std.proofs.Common.{◌≡◌, ℕ, ℤ, pos, Bool, true, false, ◌&&◌, ◌||◌, not, eqb, List, [], ◌∷◌, refl, ap, ◌∙◌}
use Rattle.std.proofs.lemmas.Bool.{and_from, or_left, or_right}
use Rattle.std.proofs.Common.{Option, Some, None, is_some, IsSomeAnd, arith}
use Rattle.std.specs.Prelude.{int_le, int_lt}
use Rattle.std.specs.List.{list_any}
use Rattle.std.proofs.lemmas.Int.{ints}
use Rattle.std.proofs.Math.Bool.{or-false}
use Rattle.ep_int.specs.declared.types.Cmp.{Cmp}
use Rattle.ep_int.specs.declared.types.Cmp.TheVariants.{Eq, Ne, Lt, Le, Gt, Ge}
use Rattle.ep_int.specs.Arith.{compares, int_eq}
use Rattle.ep_domain.specs.Domain.{Ops, Holds, IsSingle, Lawful}
use Rattle.ep_pointers.specs.Value.{Target, Pointers, Pointer, null_pointer, into, offset_at, HoldsPointer}
use Rattle.ep_pointers.specs.Value.{null_alone, one_target, HasOneMember, only_null, only_place}
use Rattle.ep_pointers.specs.Compare.{when_alike, when_apart, pointers_compare, opposite, gives, has_targets}
use Rattle.ep_pointers.specs.Compare.{in_two_blocks, may_be_alike, may_be_apart, elsewhere, allows, in_one_block}
use Rattle.ep_pointers.specs.Compare.{comparison_of, Answers, truths, IsOneAnswer, only_yes, only_no, only_mixed}
use Rattle.ep_pointers.proofs.Lists.{less, equals, more, order}
use Rattle.ep_pointers.proofs.Moving.{found}
use Rattle.ep_pointers.proofs.Leaving.{any_at}

gives_same : (r : Option Bool) → gives r r ≡ true
gives_same None = refl
gives_same (Some true) = refl
gives_same (Some false) = refl

pub not_le : (x y : ℤ) → int_le y x ≡ not (int_lt x y)
not_le x y = grind (arith, ints)

pub not_lt : (x y : ℤ) → int_lt y x ≡ not (int_le x y)
not_lt x y = grind (arith, ints)

pub not_not : (b : Bool) → b ≡ not (not b)
not_not true = refl
not_not false = refl

pub opposite_is : (c : Cmp) (x y : ℤ) → compares (opposite c) x y ≡ not (compares c x y)
opposite_is Eq x y = refl
opposite_is Ne x y = not_not (int_eq x y)
opposite_is Lt x y = not_le x y
opposite_is Le x y = not_lt x y
opposite_is Gt x y = not_le y x
opposite_is Ge x y = not_lt y x

module _ {N : Type 0} where
  elsewhere_alike : (c : Cmp) (p q : Pointers N) → may_be_alike p q ≡ true → elsewhere c (when_alike c) p q ≡ true
  elsewhere_alike c p q h = or_left _ _ (and_from _ _ h (gives_same (when_alike c)))

  elsewhere_apart : (c : Cmp) (p q : Pointers N) → may_be_apart p q ≡ true → elsewhere c (when_apart c) p q ≡ true
  elsewhere_apart c p q h = or_right _ _ (and_from _ _ h (gives_same (when_apart c)))

  targets_there : (ts : List (Target N)) (b : ℕ) (n : N) → offset_at ts b ≡ Some n → has_targets ts ≡ true
  targets_there [] b n e = absurd cc
  targets_there (t ∷ ts) b n e = refl

  two_there : (ts us : List (Target N)) (b c : ℕ) (n m : N) → offset_at ts b ≡ Some n → offset_at us c ≡ Some m
      → eqb b c ≡ false → in_two_blocks ts us ≡ true
  two_there ts us b c n m e f h = any_at (λ t. list_any (λ u. not (eqb t.0 u.0)) us) ts b n e
      (any_at (λ u. not (eqb b u.0)) us c m f (rw h refl))

module _ {N : Type 0} (d : Ops N) (law : Lawful d) where
  answered : (c : Cmp) (p q : Pointers N) (r : Option Bool) → elsewhere c r p q ≡ true
      → Answers r (comparison_of d c p q)
  answered c p q None h = h
  answered c p q (Some true) h = or_left _ _ h
  answered c p q (Some false) h = or_left _ _ h

  some_and : (o : Option (N × N)) (P : N × N → Type 0) → IsSomeAnd o P → is_some o ≡ true
  some_and None P h = absurd h
  some_and (Some x) P h = refl

  one_block : (c : Cmp) (ts us : List (Target N)) (b : ℕ) (n m : N) (x y : ℤ) → offset_at ts b ≡ Some n
      → offset_at us b ≡ Some m → Holds d n x → Holds d m y → compares c x y ≡ true → in_one_block d c ts us ≡ true
  one_block c ts us b n m x y e f h k w =
      any_at (λ t. allows d c t.1 (offset_at us t.0)) ts b n e (ap (allows d c n) f
      ∙ some_and (d.filter c n m) (λ p. Holds d p.0 x × Holds d p.1 y) (law.filter_holds c n m x y w h k))

  block_answers : (c : Cmp) (p q : Pointers N) (b : ℕ) (n m : N) (x y : ℤ) → offset_at p.targets b ≡ Some n
      → offset_at q.targets b ≡ Some m → Holds d n x → Holds d m y
      → Answers (Some (compares c x y)) (comparison_of d c p q)
  block_answers c p q b n m x y e f h k = by (compares c x y) refl
    where
      by : (r : Bool) → compares c x y ≡ r → Answers (Some r) (comparison_of d c p q)
      by true w = or_right _ _ (one_block c p.targets q.targets b n m x y e f h k w)
      by false w = or_right _ _ (one_block (opposite c) p.targets q.targets b n m x y e f h k (opposite_is c x y
          ∙ ap not w))

  pub pair_answers : (c : Cmp) (p q : Pointers N) (x y : Pointer) → HoldsPointer d p x → HoldsPointer d q y
      → Answers (pointers_compare c x y) (comparison_of d c p q)
  pair_answers c p q null_pointer null_pointer h k = answered c p q (when_alike c)
      (elsewhere_alike c p q (and_from _ _ h k))
  pair_answers c p q null_pointer (into b o) h k =
      let m = found (offset_at q.targets b) (λ n. Holds d n (pos o)) k in
      answered c p q (when_apart c) (elsewhere_apart c p q (or_left _ _
      (or_left _ _ (and_from _ _ h (targets_there q.targets b m.n m.is)))))
  pair_answers c p q (into b o) null_pointer h k =
      let n = found (offset_at p.targets b) (λ n. Holds d n (pos o)) h in
      answered c p q (when_apart c) (elsewhere_apart c p q (or_left _ _
      (or_right _ _ (and_from _ _ (targets_there p.targets b n.n n.is) k))))
  pair_answers c p q (into b o) (into b' o') h k =
      let n = found (offset_at p.targets b) (λ n. Holds d n (pos o)) h in
      let m = found (offset_at q.targets b') (λ n. Holds d n (pos o')) k in
      elim (order b b') [
        | less s ↦ rw (s.differs) (answered c p q (when_apart c) (elsewhere_apart c p q
            (or_right _ _ (two_there p.targets q.targets b b' n.n m.n n.is m.is s.differs))))
        | more s ↦ rw (s.differs') (answered c p q (when_apart c) (elsewhere_apart c p q
            (or_right _ _ (two_there p.targets q.targets b b' n.n m.n n.is m.is s.differs'))))
        | equals s ↦ rw (s.equal) (block_answers c p q b n.n m.n (pos o) (pos o') n.is (ap (offset_at q.targets) s.eq
            ∙ m.is) n.has m.has)
      ]

  -- ---- one member

  filter_is : (c : Cmp) (n m : N) (v w : ℤ) → IsSingle d n v → IsSingle d m w
      → is_some (d.filter c n m) ≡ compares c v w
  filter_is c n m v w s t = by (compares c v w) refl
    where
      by : (r : Bool) → compares c v w ≡ r → is_some (d.filter c n m) ≡ r
      by true e = some_and (d.filter c n m) (λ p. Holds d p.0 v × Holds d p.1 w)
          (law.filter_holds c n m v w e (law.range_single n v s) (law.range_single m w t))
      by false e = ap is_some (law.filter_single c n m v w e s t)

  one_of_null : (c : Cmp) → IsOneAnswer (comparison_of d c null_alone null_alone)
  one_of_null Eq = only_yes refl
  one_of_null Ne = only_no refl
  one_of_null Lt = only_mixed refl
  one_of_null Le = only_mixed refl
  one_of_null Gt = only_mixed refl
  one_of_null Ge = only_mixed refl

  one_null_left : (c : Cmp) (b : ℕ) (n : N) → IsOneAnswer (comparison_of d c null_alone (one_target b n))
  one_null_left Eq b n = only_no refl
  one_null_left Ne b n = only_yes refl
  one_null_left Lt b n = only_mixed refl
  one_null_left Le b n = only_mixed refl
  one_null_left Gt b n = only_mixed refl
  one_null_left Ge b n = only_mixed refl

  one_null_right : (c : Cmp) (b : ℕ) (n : N) → IsOneAnswer (comparison_of d c (one_target b n) null_alone)
  one_null_right Eq b n = only_no refl
  one_null_right Ne b n = only_yes refl
  one_null_right Lt b n = only_mixed refl
  one_null_right Le b n = only_mixed refl
  one_null_right Gt b n = only_mixed refl
  one_null_right Ge b n = only_mixed refl

  -- two blocks
  one_apart : (c : Cmp) (b b' : ℕ) (n m : N) → eqb b b' ≡ false → eqb b' b ≡ false
      → IsOneAnswer (comparison_of d c (one_target b n) (one_target b' m))
  one_apart Eq b b' n m e f = rw (e, f) (only_no refl)
  one_apart Ne b b' n m e f = rw (e, f) (only_yes refl)
  one_apart Lt b b' n m e f = rw (e, f) (only_mixed refl)
  one_apart Le b b' n m e f = rw (e, f) (only_mixed refl)
  one_apart Gt b b' n m e f = rw (e, f) (only_mixed refl)
  one_apart Ge b b' n m e f = rw (e, f) (only_mixed refl)

  -- one block
  in_block : (c : Cmp) (b b' : ℕ) (n m : N) → eqb b b' ≡ true → eqb b' b ≡ true
      → comparison_of d c (one_target b n) (one_target b' m) ≡ truths (is_some (d.filter c n m))
      (is_some (d.filter (opposite c) n m)) false
  in_block c b b' n m e f = rw (e, f) (simp or-false)

  one_in_block : (c : Cmp) (b b' : ℕ) (n m : N) (v w : ℤ) → eqb b b' ≡ true → eqb b' b ≡ true → IsSingle d n v
      → IsSingle d m w → IsOneAnswer (comparison_of d c (one_target b n) (one_target b' m))
  one_in_block c b b' n m v w e f s t = by (compares c v w) refl
    where
      by : (r : Bool) → compares c v w ≡ r → IsOneAnswer (comparison_of d c (one_target b n) (one_target b' m))
      by true k =
          let x : is_some (d.filter c n m) ≡ true = filter_is c n m v w s t ∙ k in
          let y : is_some (d.filter (opposite c) n m) ≡ false = filter_is (opposite c) n m v w s t ∙ opposite_is c v w
          ∙ ap not k in
          only_yes (in_block c b b' n m e f ∙ ap (λ z. truths z (is_some (d.filter (opposite c) n m)) false) x
          ∙ ap (λ z. truths true z false) y)
      by false k =
          let x : is_some (d.filter c n m) ≡ false = filter_is c n m v w s t ∙ k in
          let y : is_some (d.filter (opposite c) n m) ≡ true = filter_is (opposite c) n m v w s t ∙ opposite_is c v w
          ∙ ap not k in
          only_no (in_block c b b' n m e f ∙ ap (λ z. truths z (is_some (d.filter (opposite c) n m)) false) x
          ∙ ap (λ z. truths false z false) y)

  places : (c : Cmp) (b b' : ℕ) (n m : N) (v w : ℤ) → IsSingle d n v → IsSingle d m w
      → IsOneAnswer (comparison_of d c (one_target b n) (one_target b' m))
  places c b b' n m v w s t = elim (order b b') [
    | less o ↦ one_apart c b b' n m o.differs o.differs'
    | equals o ↦ one_in_block c b b' n m v w o.equal o.equal' s t
    | more o ↦ one_apart c b b' n m o.differs' o.differs
  ]

  pub one_answers : (c : Cmp) (p q : Pointers N) → HasOneMember d p → HasOneMember d q
      → IsOneAnswer (comparison_of d c p q)
  one_answers c p q (only_null e) (only_null f) = rw (e, f) (one_of_null c)
  one_answers c p q (only_null e) (only_place b m w f t) = rw (e, f) (one_null_left c b m)
  one_answers c p q (only_place b n v e s) (only_null f) = rw (e, f) (one_null_right c b n)
  one_answers c p q (only_place b n v e s) (only_place b' m w f t) = rw (e, f) (places c b b' n m v w s t)
