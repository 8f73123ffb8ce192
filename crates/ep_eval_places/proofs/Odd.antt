-- Whether some number is held that is no multiple of another.
use Rattle.std.proofs.Common.{◌≡◌, ℕ, zero, suc, ◌+◌, ◌-◌, ◌%◌, ◌<◌, ◌≤◌, ℤ, pos, negsuc, ◌+ℤ◌, ◌-ℤ◌, ◌<ℤ◌, ◌≤ℤ◌}
use Rattle.ep_int.proofs.Arithmetic.{sum_fits}
use Rattle.std.proofs.Common.{Bool, true, false, ◌&&◌, ◌||◌, not, nat_eq, ltb, ◌*◌, ◌/◌, unsigned_abs, None, Some}
use Rattle.std.proofs.Common.{refl, sym, ap, ◌∙◌, subst, arith}
use Rattle.std.proofs.lemmas.Bool.Decides.{nat_tests}
use Rattle.std.proofs.lemmas.Int.{ints}
use Rattle.std.proofs.lemmas.Nat.{mod-mul-add, div-add-mod'}
use Rattle.std.proofs.Math.Nat.{mod-lt}
use Rattle.std.specs.Prelude.{IfSome, IsSomeAnd, Option}
use Rattle.std.specs.Int.{w128}
use Rattle.std.proofs.Common.{FitsSigned}
use Rattle.std.specs.Option.{option_map}
use Rattle.ep_int.specs.Types.{residue}
use Rattle.ep_range_laws.specs.Ranges.{IsRange, LiesIn, Encloses}
use Rattle.ep_domain.specs.Domain.{Ops, Lawful}
use Rattle.ep_evaluation.specs.Accesses.{is_some_odd, holds_odd}

module _ {N : Type 0} (D : Ops N) (law : Lawful D) (n : ℕ) (a : N) where
  abbrev odd : ℤ → Bool
  odd z = not (nat_eq (residue n z) 0)

  -- among the numbers from one to another
  abbrev pub odd_between : (low high : ℤ) → Bool
  odd_between z high = is_some_odd D n a z (unsigned_abs ((high +ℤ pos 1) -ℤ z))

  steps : (z high : ℤ) → z ≤ℤ high
      → unsigned_abs ((high +ℤ pos 1) -ℤ z) ≡ suc (unsigned_abs ((high +ℤ pos 1) -ℤ (z +ℤ pos 1)))
  steps z high h = omega (arith, ints, h)

  pub odd_step : (z high : ℤ) → z ≤ℤ high
      → odd_between z high ≡ (D.holds a z && odd z) || odd_between (z +ℤ pos 1) high
  odd_step z high h = ap (is_some_odd D n a z) (steps z high h)

  pub odd_none : (z high : ℤ) → high <ℤ z → z ≤ℤ (high +ℤ pos 1) → odd_between z high ≡ false
  odd_none z high h i = ap (is_some_odd D n a z) (none_left z high h i)
    where
      none_left : (z high : ℤ) → high <ℤ z → z ≤ℤ (high +ℤ pos 1) → unsigned_abs ((high +ℤ pos 1) -ℤ z) ≡ 0
      none_left z high h i = omega (arith, ints, h, i)

  -- numbers of which none is held are passed over
  pub odd_past : (d : ℕ) (z high : ℤ) → (z +ℤ pos d) ≤ℤ (high +ℤ pos 1)
      → ((y : ℤ) → z ≤ℤ y → y <ℤ (z +ℤ pos d) → D.holds a y ≡ false) → odd_between z high ≡ odd_between (z +ℤ pos d) high
  odd_past zero z high h none = ap (λ y. odd_between y high) (omega (arith, ints))
  odd_past (suc d) z high h none =
      odd_step z high (omega (arith, ints, h))
      ∙ ap (λ t. (t && odd z) || odd_between (z +ℤ pos 1) high) (none z (omega (arith, ints)) (omega (arith, ints)))
      ∙ odd_past d (z +ℤ pos 1) high (omega (arith, ints, h))
      (λ y l m. none y (omega (arith, ints, l)) (omega (arith, ints, m)))
      ∙ ap (λ y. odd_between y high) (omega (arith, ints))

  -- none is held before the edges
  before_edges : (z high y : ℤ) (e : ℤ × ℤ) → D.edges a z high ≡ Some e → z ≤ℤ y → y ≤ℤ high → y <ℤ e.0 → D.holds a y ≡ false
  before_edges z high y e q l m b = split (D.holds a y) refl
    where
      split : (t : Bool) → D.holds a y ≡ t → t ≡ false
      split false i = refl
      split true i =
          let w : IsSomeAnd (Some e) (λ e. LiesIn e y)
          = subst (λ o. IsSomeAnd o (λ e. LiesIn e y)) q (law.edges_enclose a z high y i (record { low = l; high = m })) in
          absurd (omega (arith, ints, b, w.low))

  pub past_edges : (z high : ℤ) (e : ℤ × ℤ) → D.edges a z high ≡ Some e → odd_between z high ≡ odd_between e.0 high
  past_edges z high e q =
      let w : (e.0 ≤ℤ e.1) × Encloses (z, high) e
      = subst (λ o. IfSome o (λ e. (e.0 ≤ℤ e.1) × Encloses (z, high) e)) q (law.edges_inside a z high) in
      let s : z +ℤ pos (unsigned_abs (e.0 -ℤ z)) ≡ e.0 = back z e.0 w.1.low in
      odd_past (unsigned_abs (e.0 -ℤ z)) z high
      (subst (λ y. y ≤ℤ (high +ℤ pos 1)) (sym s) (last e.0 e.1 high w.0 w.1.high))
      (λ y l m. before_edges z high y e q l (inner y e.0 e.1 high (subst (λ x. y <ℤ x) s m) w.0 w.1.high)
      (subst (λ x. y <ℤ x) s m))
      ∙ ap (λ y. odd_between y high) s
    where
      back : (z x : ℤ) → z ≤ℤ x → z +ℤ pos (unsigned_abs (x -ℤ z)) ≡ x
      back z x h = omega (arith, ints, h)

      last : (x y high : ℤ) → x ≤ℤ y → y ≤ℤ high → x ≤ℤ (high +ℤ pos 1)
      last x y high h i = omega (arith, ints, h, i)

      inner : (v x y high : ℤ) → v <ℤ x → x ≤ℤ y → y ≤ℤ high → v ≤ℤ high
      inner v x y high h i j = omega (arith, ints, h, i, j)

  -- where there are no edges none is held
  pub no_edges : (d : ℕ) (z high : ℤ) → (z +ℤ pos d) ≡ (high +ℤ pos 1) → D.edges a z high ≡ None → odd_between z high ≡ false
  no_edges d z high h q =
      odd_past d z high (omega (arith, ints, h)) (λ y l m. not_held y l (omega (arith, ints, m, h)))
      ∙ ap (λ y. odd_between y high) h ∙ odd_none (high +ℤ pos 1) high (omega (arith, ints)) (omega (arith, ints))
    where
      not_held : (y : ℤ) → z ≤ℤ y → y ≤ℤ high → D.holds a y ≡ false
      not_held y l m = split (D.holds a y) refl
        where
          split : (t : Bool) → D.holds a y ≡ t → t ≡ false
          split false i = refl
          split true i = absurd (subst (λ o. IsSomeAnd o (λ e. LiesIn e y)) q (law.edges_enclose a z high y i (record {
            low = l;
            high = m;
          })))

  pub odd_whole : odd_between (D.range a).0 (D.range a).1 ≡ holds_odd D n a
  odd_whole = ap (is_some_odd D n a (D.range a).0) (counted (D.range a).0 (D.range a).1 (law.range_ends a).ordered)
    where
      counted : (low high : ℤ) → low ≤ℤ high → unsigned_abs ((high +ℤ pos 1) -ℤ low) ≡ unsigned_abs (high -ℤ low) + 1
      counted low high h = omega (arith, ints, h)

-- ---- the search, from a number on

module _ {N : Type 0} (D : Ops N) (law : Lawful D) (n : ℕ) (a : N) where
  pub record Searched (z high : ℤ) : Type 0 where
    pub same : odd_between D law n a z high ≡ holds_odd D n a
    pub above : (D.range a).0 ≤ℤ z
    pub before : z ≤ℤ (high +ℤ pos 1)
    pub high_is : high ≡ (D.range a).1

  pub begins : (z high : ℤ) → z ≡ (D.range a).0 → high ≡ (D.range a).1 → Searched z high
  begins z high e f =
      let o = (law.range_ends a).ordered in
      let whole : odd_between D law n a z high ≡ holds_odd D n a
      = ap (λ x. odd_between D law n a x high) e ∙ ap (odd_between D law n a (D.range a).0) f ∙ odd_whole D law n a in
      record { same = whole; above = omega (arith, ints, e); before = omega (arith, ints, e, f, o); high_is = f }

  pub ends : (z high : ℤ) → high <ℤ z → Searched z high → false ≡ holds_odd D n a
  ends z high h s = sym (odd_none D law n a z high h s.before) ∙ s.same

  first_of : (e : Option (ℤ × ℤ)) (x : ℤ) → option_map (λ e. e.0) e ≡ Some x → (f : ℤ × ℤ) × (e ≡ Some f) × (f.0 ≡ x)
  first_of None x q = absurd (let r : None ≡ Some x = q in cc)
  first_of (Some f) x q = (f, refl, (let r : Some f.0 ≡ Some x = q in cc))

  none_of : (e : Option (ℤ × ℤ)) → option_map (λ e. e.0) e ≡ None → e ≡ None
  none_of None q = refl
  none_of (Some f) q = absurd (let r : Some f.0 ≡ None = q in cc)

  pub nowhere : (z high : ℤ) → z ≤ℤ high → option_map (λ e. e.0) (D.edges a z high) ≡ None → Searched z high
      → false ≡ holds_odd D n a
  nowhere z high h q s =
      sym (no_edges D law n a (unsigned_abs ((high +ℤ pos 1) -ℤ z)) z high (back z (high +ℤ pos 1) s.before)
      (none_of (D.edges a z high) q)) ∙ s.same
    where
      back : (x y : ℤ) → x ≤ℤ y → x +ℤ pos (unsigned_abs (y -ℤ x)) ≡ y
      back x y h = omega (arith, ints, h)

  -- the next number that may be held
  pub record Next (z high x : ℤ) : Type 0 where
    pub same : odd_between D law n a x high ≡ holds_odd D n a
    pub low : z ≤ℤ x
    pub high_is : x ≤ℤ high

  pub next : (z high x : ℤ) → option_map (λ e. e.0) (D.edges a z high) ≡ Some x → Searched z high → Next z high x
  next z high x q s =
      let f = first_of (D.edges a z high) x q in
      let w : (f.0.0 ≤ℤ f.0.1) × Encloses (z, high) f.0
      = subst (λ o. IfSome o (λ e. (e.0 ≤ℤ e.1) × Encloses (z, high) e)) f.1 (law.edges_inside a z high) in
      record {
        same = ap (λ y. odd_between D law n a y high) (sym f.2) ∙ sym (past_edges D law n a z high f.0 f.1) ∙ s.same;
        low = subst (λ y. z ≤ℤ y) f.2 w.1.low;
        high_is = subst (λ y. y ≤ℤ high) f.2 (omega (arith, ints, w.0, w.1.high));
      }

  pub goes_on : (z high x y : ℤ) → y ≡ x +ℤ pos 1 → Next z high x → Searched z high
      → (D.holds a x && not (nat_eq (residue n x) 0)) ≡ false → Searched y high
  goes_on z high x y e m s f = record {
    same = ap (λ v. odd_between D law n a v high) e
        ∙ sym (odd_step D law n a x high m.high_is ∙ ap (λ t. t || odd_between D law n a (x +ℤ pos 1) high) f) ∙ m.same;
    above = omega (arith, ints, e, m.low, s.above);
    before = omega (arith, ints, e, m.high_is);
    high_is = s.high_is;
  }

  pub found : (z high x : ℤ) → Next z high x → (D.holds a x && not (nat_eq (residue n x) 0)) ≡ true
      → true ≡ holds_odd D n a
  found z high x m f =
      sym (odd_step D law n a x high m.high_is ∙ ap (λ t. t || odd_between D law n a (x +ℤ pos 1) high) f) ∙ m.same

  pub fits_more : (z high x : ℤ) → Next z high x → Searched z high → FitsSigned w128 (x +ℤ pos 1)
  fits_more z high x m s =
      let r = law.range_ends a in
      let p = r.above in let q = r.below in let u = s.above in let v = s.high_is in let w = m.low in let y = m.high_is in
      sum_fits x (pos 1) (record { low = omega (arith, ints); high = omega (arith, ints) })
      (record { low = omega (arith, ints); high = omega (arith, ints) })

  pub smaller : (z high x y : ℤ) → y ≡ x +ℤ pos 1 → Next z high x
      → unsigned_abs ((high +ℤ pos 1) -ℤ y) < unsigned_abs ((high +ℤ pos 1) -ℤ z)
  smaller z high x y e m = omega (arith, ints, e, m.low, m.high_is)

-- ---- remainders

same_rest : (n k r : ℕ) → k / n * n + k % n ≡ k → k % n ≡ r → suc r < n → nat_eq (suc k % n) 0 ≡ nat_eq (n - 1 - r) 0
same_rest n k r e f h =
    let q : k / n * n + suc r ≡ suc k = omega (arith, e, f) in
    let w : suc k % n ≡ suc r = sym (ap (λ x. x % n) q) ∙ mod-mul-add (k / n) n (suc r) h in
    ap (λ x. nat_eq x 0) w ∙ not_zero (suc r) (omega arith) ∙ sym (not_zero (n - 1 - r) (omega (arith, h)))
  where
    not_zero : (x : ℕ) → 0 < x → nat_eq x 0 ≡ false
    not_zero x p = grind (arith, nat_tests)

last_rest : (n k : ℕ) → k / n * n + k % n ≡ k → 0 < n → suc (k % n) ≡ n → nat_eq (suc k % n) 0 ≡ nat_eq (n - 1 - k % n) 0
last_rest n k e p h =
    let q : suc (k / n) * n + 0 ≡ suc k = whole (k / n) refl in
    let w : suc k % n ≡ 0 = sym (ap (λ x. x % n) q) ∙ mod-mul-add (suc (k / n)) n 0 p in
    ap (λ x. nat_eq x 0) w ∙ sym (ap (λ x. nat_eq x 0) (none_left (omega (arith, h))))
  where
    whole : (d : ℕ) → d ≡ k / n → suc d * n + 0 ≡ suc k
    whole d i = let f : suc d * n ≡ n + d * n = omega arith in let g : d * n ≡ k / n * n = ap (λ x. x * n) i in omega (arith, e, h, f, g)

    none_left : n - 1 - k % n ≡ 0 → n - 1 - k % n ≡ 0
    none_left i = i

pub odd_by : (n : ℕ) (z : ℤ) → 0 < n → nat_eq (unsigned_abs z % n) 0 ≡ nat_eq (residue n z) 0
odd_by n (pos k) p = refl
odd_by n (negsuc k) p = split (ltb (suc (k % n)) n) refl
  where
    split : (t : Bool) → ltb (suc (k % n)) n ≡ t → nat_eq (suc k % n) 0 ≡ nat_eq (n - 1 - k % n) 0
    split true e = same_rest n k (k % n) (div-add-mod' k n) refl (grind (arith, nat_tests, e))
    split false e = last_rest n k (div-add-mod' k n) p (ends (mod-lt k {m = n} p))
      where
        ends : k % n < n → suc (k % n) ≡ n
        ends l = grind (arith, nat_tests)
