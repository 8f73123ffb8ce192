-- What values hold: inclusion, join and widening, ranks, and a block that is gone.
use Rattle.std.proofs.Common.{◌≡◌, ℕ, ◌<◌, ◌≤◌, ℤ, pos, Bool, true, false, ◌&&◌, ◌||◌, not, eqb, ltb, if◌then◌else◌}
use Rattle.std.proofs.Common.{IsTrue, List, [], ◌∷◌, refl, ap, subst, Option, Some, None, IsSomeAnd, ◌↔◌, arith}
use Rattle.std.specs.List.{filter}
use Rattle.std.proofs.lemmas.Bool.{and_parts, ltb-true, ltb-false, eqb-true, eqb-false}
use Rattle.std.proofs.lemmas.Bool.Decides.{nat_tests}
use Rattle.ep_domain.specs.Domain.{Ops, Holds, Lawful}
use Rattle.ep_pointers.specs.Value.{Target, Pointers, AreAbove, IsRising, offset_at, Pointer, null_pointer, into}
use Rattle.ep_pointers.specs.Value.{HoldsPointer, HoldsAllOf, is_offset_within, are_within, is_within, either}
use Rattle.ep_pointers.specs.Value.{HoldsBoth, HasOffsetsOf, Grows, new_null, new_block, rank_falls, KeepsRanks}
use Rattle.ep_pointers.specs.Value.{without, IsInto}
use Rattle.ep_pointers.proofs.Lists.{Order, less, equals, more, order, same, none_above}

some_is_none : {N : Type 0} {P : Type 0} (o : Option N) (n : N) → o ≡ Some n → o ≡ None → P
some_is_none o n e f = absurd cc

differ : (a b : Bool) → a ≡ true → a ≡ false → ⊥
differ a b e f = cc

module _ {N : Type 0} (d : Ops N) (law : Lawful d) where
  -- ---- inclusion

  HoldsAt : List (Target N) → ℕ → ℕ → Type 0
  HoldsAt ts b o = IsSomeAnd (offset_at ts b) (λ n. Holds d n (pos o))

  -- the offsets of one block
  within_at : (n : N) (o : Option N) (z : ℤ) → is_offset_within d n o ≡ true → Holds d n z
      → IsSomeAnd o (λ m. Holds d m z)
  within_at n None z e h = absurd cc
  within_at n (Some m) z e h = law.within_holds n m z e h

  within_list : (ts us : List (Target N)) (b : ℕ) (z : ℤ) → are_within d ts us ≡ true
      → IsSomeAnd (offset_at ts b) (λ n. Holds d n z) → IsSomeAnd (offset_at us b) (λ n. Holds d n z)
  within_list [] us b z e h = absurd h
  within_list (t ∷ ts) us b z e h =
      let parts = and_parts (is_offset_within d t.1 (offset_at us t.0)) (are_within d ts us) e in
      elim (order t.0 b) [
        | less o ↦ within_list ts us b z parts.1 (rw (o.differs) at h)
        | equals o ↦ subst (λ a. IsSomeAnd (offset_at us a) (λ n. Holds d n z)) o.eq
            (within_at t.1 (offset_at us t.0) z parts.0 (rw (o.equal) at h))
        | more o ↦ within_list ts us b z parts.1 (rw (o.differs') at h)
      ]

  null_within : (a b : Bool) → (not a || b) ≡ true → IsTrue a → IsTrue b
  null_within true b e h = e
  null_within false b e h = absurd cc

  pub within_holds : (p q : Pointers N) → IsTrue (is_within d p q) → HoldsAllOf d p q
  within_holds p q e null_pointer h = null_within p.null q.null (and_parts (not p.null || q.null)
      (are_within d p.targets q.targets) e).0 h
  within_holds p q e (into b o) h = within_list p.targets q.targets b (pos o)
      (and_parts (not p.null || q.null) (are_within d p.targets q.targets) e).1 h

  -- ---- join and widening

  or_left : (a b : Bool) → IsTrue a → IsTrue (a || b)
  or_left true b h = refl
  or_left false b h = absurd cc

  or_right : (a b : Bool) → IsTrue b → IsTrue (a || b)
  or_right true b h = refl
  or_right false b h = h

  pub record HoldsOperands (f : N → N → N) : Type 0 where
    pub left : (a b : N) (z : ℤ) → Holds d a z → Holds d (f a b) z
    pub right : (a b : N) (z : ℤ) → Holds d b z → Holds d (f a b) z

  pub join_operands : HoldsOperands d.join
  join_operands = record { left = law.join_left; right = law.join_right }

  pub widen_operands : HoldsOperands d.widen
  widen_operands = record { left = law.widen_left; right = law.widen_right }

  module _ (f : N → N → N) (k : HoldsOperands f) where
    either_left : (o p : Option N) (z : ℤ) → IsSomeAnd o (λ n. Holds d n z)
        → IsSomeAnd (either f o p) (λ n. Holds d n z)
    either_left None p z h = absurd h
    either_left (Some n) None z h = h
    either_left (Some n) (Some m) z h = k.left n m z h

    either_right : (o p : Option N) (z : ℤ) → IsSomeAnd p (λ n. Holds d n z)
        → IsSomeAnd (either f o p) (λ n. Holds d n z)
    either_right o None z h = absurd h
    either_right None (Some m) z h = h
    either_right (Some n) (Some m) z h = k.right n m z h

    pub both_held : (p q r : Pointers N) → r.null ≡ (p.null || q.null) → HasOffsetsOf f p q r → HoldsBoth d p q r
    both_held p q r e g = record { left = left; right = right }
      where
        left : HoldsAllOf d p r
        left null_pointer h = rw e (or_left p.null q.null h)
        left (into b o) h = rw (g b) (either_left (offset_at p.targets b) (offset_at q.targets b) (pos o) h)

        right : HoldsAllOf d q r
        right null_pointer h = rw e (or_right p.null q.null h)
        right (into b o) h = rw (g b) (either_right (offset_at p.targets b) (offset_at q.targets b) (pos o) h)

  -- ---- ranks

  module _ (high : d.height < 4294967295) where
    rank_at_most : (a b : N) → d.rank (d.widen a b) ≤ d.rank a
    rank_at_most a b = by (ltb (d.rank a) (d.rank (d.widen a b))) refl
      where
        by : (x : Bool) → ltb (d.rank a) (d.rank (d.widen a b)) ≡ x → d.rank (d.widen a b) ≤ d.rank a
        by false e = ltb-false (d.rank a) (d.rank (d.widen a b)) e
        by true e =
            let up : d.rank a < d.rank (d.widen a b) = ltb-true (d.rank a) (d.rank (d.widen a b)) e in
            let down : d.rank (d.widen a b) < d.rank a = law.widen_changes a b high
            (λ s. let same_rank : d.rank (d.widen a b) ≡ d.rank a = ap d.rank s in omega arith) in
            omega arith

    -- a block of the first list that the second has not, or not with all offsets
    pub record Missing (us ts : List (Target N)) : Type 0 where
      pub block : ℕ
      pub offsets : N
      pub there : offset_at us block ≡ Some offsets
      pub fails : is_offset_within d offsets (offset_at ts block) ≡ false

    missing : (us ts : List (Target N)) → IsRising us → are_within d us ts ≡ false → Missing us ts
    missing [] ts r e = absurd cc
    missing (u ∷ us) ts r e = by (is_offset_within d u.1 (offset_at ts u.0)) refl e (λ g. missing us ts r.1 g)
      where
        by : (x : Bool) → is_offset_within d u.1 (offset_at ts u.0) ≡ x → (x && are_within d us ts) ≡ false
            → (are_within d us ts ≡ false → Missing us ts) → Missing (u ∷ us) ts
        by false f g rest = record {
          block = u.0;
          offsets = u.1;
          there = rw ((same u.0 u.0 refl).equal) refl;
          fails =
              f;
        }
        by true f g rest = later (rest g)
          where
            later : Missing us ts → Missing (u ∷ us) ts
            later m = record { block = m.block; offsets = m.offsets; there = at (order u.0 m.block); fails = m.fails }
              where
                at : Order u.0 m.block → offset_at (u ∷ us) m.block ≡ Some m.offsets
                at (less o) = rw (o.differs) m.there
                at (equals o) = some_is_none (offset_at us m.block) m.offsets m.there
                    (none_above m.block us (subst (λ a. AreAbove a us) o.eq r.0))
                at (more o) = rw (o.differs') m.there

    grown : (p r : Pointers N) (us : List (Target N)) (m : Missing us p.targets) (o : Option N)
        → offset_at p.targets m.block ≡ o → offset_at r.targets m.block ≡ either d.widen (offset_at p.targets m.block)
        (offset_at us m.block) → Grows d p r
    grown p r us m None e g = new_block m.block m.offsets e (rw (e, m.there) at g)
    grown p r us m (Some n) e g = rank_falls m.block n (d.widen n m.offsets) e (rw (e, m.there) at g)
        (law.widen_falls n m.offsets high (rw e at m.fails))

    pub keeps_ranks : (p q r : Pointers N) → IsRising q.targets → r.null ≡ (p.null || q.null)
        → HasOffsetsOf d.widen p q r → KeepsRanks d p q r
    keeps_ranks p q r rise e g = record { null = λ h. rw e (or_left p.null q.null h); blocks = blocks; grows = grows }
      where
        blocks : (b : ℕ) (n : N) → offset_at p.targets b ≡ Some n
            → IsSomeAnd (offset_at r.targets b) (λ m. d.rank m ≤ d.rank n)
        blocks b n f = rw (g b, f) (at (offset_at q.targets b))
          where
            at : (o : Option N) → IsSomeAnd (either d.widen (Some n) o) (λ m. d.rank m ≤ d.rank n)
            at None = omega arith
            at (Some m) = rank_at_most n m

        grows : is_within d q p ≡ false → Grows d p r
        grows w = by q.null p.null refl refl w
          where
            by : (x y : Bool) → q.null ≡ x → p.null ≡ y → ((not x || y) && are_within d q.targets p.targets) ≡ false
                → Grows d p r
            by true false f h k = new_null h (rw (e, f, h) refl)
            by true true f h k = let m = missing q.targets p.targets rise k in grown p r q.targets m
                (offset_at p.targets m.block) refl (g m.block)
            by false y f h k = let m = missing q.targets p.targets rise k in grown p r q.targets m
                (offset_at p.targets m.block) refl (g m.block)

  -- ---- a block that is gone

  above_kept : (a b : ℕ) (ts : List (Target N)) → AreAbove a ts → AreAbove a (filter (λ t. not (eqb t.0 b)) ts)
  above_kept a b [] h = tt
  above_kept a b (t ∷ ts) h = elim (eqb t.0 b) as (λ x. AreAbove a (if not x then t ∷ filter (λ t. not (eqb t.0 b)) ts
      else filter (λ t. not (eqb t.0 b)) ts)) [ true ↦ above_kept a b ts h.1 | false ↦ (h.0, above_kept a b ts h.1) ]

  pub rising_kept : (b : ℕ) (ts : List (Target N)) → IsRising ts → IsRising (filter (λ t. not (eqb t.0 b)) ts)
  rising_kept b [] r = tt
  rising_kept b (t ∷ ts) r = elim (eqb t.0 b) as (λ x. IsRising (if not x then t ∷ filter (λ t. not (eqb t.0 b)) ts
      else filter (λ t. not (eqb t.0 b)) ts)) [
        | true ↦ rising_kept b ts r.1
        | false ↦
            (above_kept t.0 b ts r.0, rising_kept b ts r.1)
      ]

  offset_gone : (b c : ℕ) (ts : List (Target N)) → eqb c b ≡ true
      → offset_at (filter (λ t. not (eqb t.0 b)) ts) c ≡ None
  offset_gone b c [] e = refl
  offset_gone b c (t ∷ ts) e = by (eqb t.0 b) (eqb t.0 c) refl refl (offset_gone b c ts e)
    where
      by : (x y : Bool) → eqb t.0 b ≡ x → eqb t.0 c ≡ y → offset_at (filter (λ t. not (eqb t.0 b)) ts) c ≡ None
          → offset_at (if not x then t ∷ filter (λ t. not (eqb t.0 b)) ts else filter (λ t. not (eqb t.0 b)) ts) c ≡
          None
      by true y f h rest = rest
      by false false f h rest = rw h rest
      by false true f h rest = absurd (no_way t.0 b c f h e)
        where
          no_way : (a b c : ℕ) → eqb a b ≡ false → eqb a c ≡ true → eqb c b ≡ true → ⊥
          no_way a b c f h e = grind (arith, nat_tests)

  offset_kept : (b c : ℕ) (ts : List (Target N)) → eqb c b ≡ false
      → offset_at (filter (λ t. not (eqb t.0 b)) ts) c ≡ offset_at ts c
  offset_kept b c [] e = refl
  offset_kept b c (t ∷ ts) e = by (eqb t.0 b) (eqb t.0 c) refl refl (offset_kept b c ts e)
    where
      by : (x y : Bool) → eqb t.0 b ≡ x → eqb t.0 c ≡ y → offset_at (filter (λ t. not (eqb t.0 b)) ts) c ≡ offset_at
          ts c
          → offset_at (if not x then t ∷ filter (λ t. not (eqb t.0 b)) ts else filter (λ t. not (eqb t.0 b)) ts) c ≡
          offset_at (t ∷ ts) c
      by true false f h rest = rw h rest
      by false false f h rest = rw h rest
      by false true f h rest = rw h refl
      by true true f h rest = absurd (no_way t.0 b c f h e)
        where
          no_way : (a b c : ℕ) → eqb a b ≡ true → eqb a c ≡ true → eqb c b ≡ false → ⊥
          no_way a b c f h e = grind (arith, nat_tests)

  pub forgotten : (b : ℕ) (p : Pointers N) (x : Pointer) → HoldsPointer d (without b p) x ↔
      (HoldsPointer d p x × (IsInto b x → ⊥))
  forgotten b p null_pointer = (λ h. (h, λ i. i), λ h. h.0)
  forgotten b p (into c o) = by (eqb c b) refl
    where
      by : (x : Bool) → eqb c b ≡ x → HoldsPointer d (without b p) (into c o) ↔
          (HoldsPointer d p (into c o) × (c ≡ b → ⊥))
      by true e = (λ h. absurd (rw (offset_gone b c p.targets e) at h), λ h. absurd (h.1 (eqb-true c b e)))
      by false e = (
        λ h. (rw (offset_kept b c p.targets e) at h, λ i. eqb-false c b e i),
        λ h. rw
            (offset_kept b c p.targets e) h.0,
      )
