-- Lists of targets: their order, and what stands at a block.
use Rattle.std.proofs.Common.{◌≡◌, ℕ, zero, suc, ◌<◌, ◌≤◌, Bool, true, false, eqb, ltb, List, [], ◌∷◌, drop, refl}
use Rattle.std.proofs.Common.{sym, ap, ◌∙◌, subst, Option, Some, None, arith}
use Rattle.std.proofs.lemmas.Bool.{lt-ltb, le-ltb, ltb-true, ltb-false, eq-eqb, ne_eqb}
use Rattle.ep_pointers.specs.Value.{Target, Pointers, AreAbove, IsRising, offset_at, with_target, together, either}
use Rattle.ep_pointers.specs.Parts.{from_block, offset_first}

-- ---- how two blocks stand

pub record Below (a b : ℕ) : Type 0 where
  pub lt : a < b
  pub is_less : ltb a b ≡ true
  pub is_not_more : ltb b a ≡ false
  pub differs : eqb a b ≡ false
  pub differs' : eqb b a ≡ false

pub below : (a b : ℕ) → a < b → Below a b
below a b h = record {
  lt = h;
  is_less = lt-ltb a b h;
  is_not_more = le-ltb b a (omega arith);
  differs = ne_eqb a b
      (λ e. omega arith);
  differs' = ne_eqb b a (λ e. omega arith);
}

pub record Same (a b : ℕ) : Type 0 where
  pub eq : a ≡ b
  pub is_not_less : ltb a b ≡ false
  pub is_not_more : ltb b a ≡ false
  pub equal : eqb a b ≡ true
  pub equal' : eqb b a ≡ true

pub same : (a b : ℕ) → a ≡ b → Same a b
same a b e = record {
  eq = e;
  is_not_less = le-ltb a b (omega arith);
  is_not_more = le-ltb b a (omega arith);
  equal =
      eq-eqb a b e;
  equal' = eq-eqb b a (sym e);
}

pub data Order (a b : ℕ) : Type 0 where
  less : Below a b → Order a b
  equals : Same a b → Order a b
  more : Below b a → Order a b

pub order : (a b : ℕ) → Order a b
order a b = by (ltb a b) (ltb b a) refl refl
  where
    by : (x y : Bool) → ltb a b ≡ x → ltb b a ≡ y → Order a b
    by true y p q = less (below a b (ltb-true a b p))
    by false true p q = more (below b a (ltb-true b a q))
    by false false p q = let h : b ≤ a = ltb-false a b p in let k : a ≤ b = ltb-false b a q in equals
        (same a b (omega arith))

module _ {N : Type 0} where
  -- ---- order

  pub above_lower : (a b : ℕ) (ts : List (Target N)) → a < b → AreAbove b ts → AreAbove a ts
  above_lower a b [] h k = tt
  above_lower a b (t ∷ ts) h k = let g : b < t.0 = k.0 in (omega arith, above_lower a b ts h k.1)

  pub rising_tail : (t : Target N) (ts : List (Target N)) → IsRising (t ∷ ts) → IsRising ts
  rising_tail t ts r = r.1

  pub rising_drop : (i : ℕ) (ts : List (Target N)) → IsRising ts → IsRising (drop i ts)
  rising_drop zero ts r = r
  rising_drop (suc i) [] r = tt
  rising_drop (suc i) (t ∷ ts) r = rising_drop i ts r.1

  pub none_above : (b : ℕ) (ts : List (Target N)) → AreAbove b ts → offset_at ts b ≡ None
  none_above b [] h = refl
  none_above b (t ∷ ts) h = rw ((below b t.0 h.0).differs') (none_above b ts h.1)

  -- ---- one target more, and many

  module _ (f : N → N → N) where
    pub above_with : (b : ℕ) (ts : List (Target N)) (u : Target N) → AreAbove b ts → b < u.0
        → AreAbove b (with_target f ts u)
    above_with b [] u h k = (k, tt)
    above_with b (t ∷ ts) u h k = elim (order u.0 t.0) [
      | less o ↦ rw (o.is_less) (k, h)
      | equals o ↦ rw (o.is_not_less, o.equal') h
      | more o ↦ rw (o.is_not_more, o.differs) (h.0, above_with b ts u h.1 k)
    ]

    pub rising_with : (ts : List (Target N)) (u : Target N) → IsRising ts → IsRising (with_target f ts u)
    rising_with [] u r = (tt, tt)
    rising_with (t ∷ ts) u r = elim (order u.0 t.0) [
      | less o ↦ rw (o.is_less) ((o.lt, above_lower u.0 t.0 ts o.lt r.0), r)
      | equals o ↦ rw (o.is_not_less, o.equal') r
      | more o ↦ rw (o.is_not_more, o.differs) (above_with t.0 ts u r.0 o.lt, rising_with ts u r.1)
    ]

    pub rising_together : (ts us : List (Target N)) → IsRising ts → IsRising (together f ts us)
    rising_together ts [] r = r
    rising_together ts (u ∷ us) r = rising_together (with_target f ts u) us (rising_with ts u r)

    -- a first target that is below all of the second list stays the first
    pub front_stays : (t : Target N) (ts us : List (Target N)) → AreAbove t.0 us
        → together f (t ∷ ts) us ≡ t ∷ together f ts us
    front_stays t ts [] h = refl
    front_stays t ts (u ∷ us) h = let o = below t.0 u.0 h.0 in rw (o.is_not_more, o.differs)
        (front_stays t (with_target f ts u) us h.1)

    pub none_together : (us : List (Target N)) → IsRising us → together f [] us ≡ us
    none_together [] r = refl
    none_together (u ∷ us) r = front_stays u [] us r.0 ∙ ap (λ vs. u ∷ vs) (none_together us r.1)

    either_none : (o : Option N) → either f o None ≡ o
    either_none None = refl
    either_none (Some n) = refl

    pub offset_with : (ts : List (Target N)) (u : Target N) (b : ℕ) → IsRising ts
        → offset_at (with_target f ts u) b ≡ either f (offset_at ts b) (offset_at (u ∷ []) b)
    offset_with [] u b r = refl
    offset_with (t ∷ ts) u b r = elim (order u.0 t.0) [
      | less o ↦ rw (o.is_less) (elim (order u.0 b) [
        | less p ↦ rw (p.differs) (sym (either_none _))
        | equals p ↦
            let q = below b t.0 (omega (arith, o.lt, p.eq)) in
            let none : offset_at ts b ≡ None = none_above b ts (above_lower b t.0 ts q.lt r.0) in
            rw (p.equal, q.differs', none)
        | more p ↦ rw (p.differs') (sym (either_none _))
      ])
      | equals o ↦ rw (o.is_not_less, o.equal') (elim (order t.0 b) [
        | less p ↦ let q = below u.0 b (omega (arith, p.lt, o.eq)) in rw (p.differs, q.differs) (sym (either_none _))
        | equals p ↦ let q = same u.0 b (o.eq ∙ p.eq) in rw (p.equal, q.equal)
        | more p ↦ let q = below b u.0 (omega (arith, p.lt, o.eq)) in rw (p.differs', q.differs') (sym (either_none _))
      ])
      | more o ↦ rw (o.is_not_more, o.differs) (elim (order t.0 b) [
        | less p ↦ rw (p.differs) (offset_with ts u b r.1)
        | equals p ↦ let q = below b u.0 (omega (arith, o.lt, p.eq)) in rw (p.equal, q.differs')
        | more p ↦ rw (p.differs') (offset_with ts u b r.1)
      ])
    ]

    either_apart : (o p : Option N) → either f (either f o None) p ≡ either f o p
    either_apart None p = refl
    either_apart (Some n) p = refl

    -- at each block what both lists have there
    pub offset_together : (ts us : List (Target N)) (b : ℕ) → IsRising ts → IsRising us
        → offset_at (together f ts us) b ≡ either f (offset_at ts b) (offset_at us b)
    offset_together ts [] b r s = sym (either_none _)
    offset_together ts (u ∷ us) b r s =
        offset_together (with_target f ts u) us b (rising_with ts u r) s.1
        ∙ ap (λ o. either f o (offset_at us b)) (offset_with ts u b r) ∙ at (order u.0 b)
      where
        at : Order u.0 b → either f (either f (offset_at ts b) (offset_at (u ∷ []) b)) (offset_at us b) ≡ either f
            (offset_at ts b) (offset_at (u ∷ us) b)
        at (less p) = rw (p.differs) (either_apart (offset_at ts b) (offset_at us b))
        at (equals p) =
            let none : offset_at us b ≡ None = none_above b us (subst (λ a. AreAbove a us) p.eq s.0) in
            rw (p.equal, none) (either_none (either f (offset_at ts b) (Some u.1)))
        at (more p) = rw (p.differs') (either_apart (offset_at ts b) (offset_at us b))

  -- the same of values whose targets these are
  pub offsets_together : (f : N → N → N) (p q : Pointers N) (vs : List (Target N)) → IsRising p.targets
      → IsRising q.targets → vs ≡ together f p.targets q.targets → (b : ℕ)
      → offset_at vs b ≡ either f (offset_at p.targets b) (offset_at q.targets b)
  offsets_together f p q vs r s e b = ap (λ us. offset_at us b) e ∙ offset_together f p.targets q.targets b r s

  -- ---- from a block on

  -- blocks from b on are found behind those below b
  pub offset_from : (a b : ℕ) (ts : List (Target N)) → a ≤ b → offset_at (from_block a ts) b ≡ offset_at ts b
  offset_from a b [] h = refl
  offset_from a b (t ∷ ts) h = elim (order t.0 a) [
    | less o ↦ let q = below t.0 b (omega (arith, o.lt)) in rw (o.is_less, q.differs) (offset_from a b ts h)
    | equals o ↦ rw (o.is_not_less)
    | more o ↦ rw (o.is_not_more)
  ]

  -- behind those below b, the block b is the first one
  pub offset_first_is : (b : ℕ) (ts : List (Target N)) → IsRising ts → offset_first (from_block b ts) b ≡ offset_at ts b
  offset_first_is b [] r = refl
  offset_first_is b (t ∷ ts) r = elim (order t.0 b) [
    | less o ↦ rw (o.is_less, o.differs) (offset_first_is b ts r.1)
    | equals o ↦ rw (o.is_not_less, o.equal)
    | more o ↦ rw (o.is_not_more, o.differs') (sym (none_above b ts (above_lower b t.0 ts o.lt r.0)))
  ]
