-- The laws of ranges, inclusion and widening of pairs.
use Rattle.std.specs.Prelude.{◌≡◌, ◌≢◌, ℕ, ◌+◌, ◌<◌, ◌≤◌, ℤ, ◌⊎◌, Bool, true, false, ◌&&◌, IsTrue, nat_lt, min, refl}
use Rattle.std.proofs.lemmas.Bool.{ltb-true, ltb-false}
use Rattle.std.proofs.Common.{arith, ap, subst, inl, inr}
use Rattle.std.proofs.lemmas.Bool.{and_parts, and_from}
use Rattle.ep_range_laws.specs.Ranges.{Encloses}
use Rattle.ep_domain.specs.Domain.{Ops, Lawful}
use Rattle.ep_domain.specs.Common.{may_pair, sum_of_ranks}
use Rattle.ep_domain.specs.declared.num.Num.{Ghosts}
use Rattle.ep_domain.specs.declared.pair.Pair.{Pair}
use Rattle.ep_domain.specs.Pairs.{holds_of, range_of, is_within, widening_of, rank_of}
use Rattle.ep_domain.specs.Laws.Shared.{common_encloses}
use Rattle.ep_domain.specs.Laws.Narrowed.{shared_prop}

pub le_or : (x y : ℕ) → (x ≤ y) ⊎ (y < x)
le_or x y = at (nat_lt y x) refl
  where
    at : (t : Bool) → nat_lt y x ≡ t → (x ≤ y) ⊎ (y < x)
    at true e = inr (ltb-true y x e)
    at false e = inl (ltb-false y x e)

-- ---- ranks of one domain

module _ {N : Type 0} (d : Ops N) (law : Lawful d) (small : d.height < 4294967295) where
  by_rank : {P : Type 0} (a b : N) → (d.rank (d.widen a b) < d.rank a → P) → (d.rank a ≤ d.rank (d.widen a b) → P) → P
  by_rank {P} a b falls stays = at (nat_lt (d.rank (d.widen a b)) (d.rank a)) refl
    where
      at : (t : Bool) → nat_lt (d.rank (d.widen a b)) (d.rank a) ≡ t → P
      at true e = falls (ltb-true (d.rank (d.widen a b)) (d.rank a) e)
      at false e = stays (ltb-false (d.rank (d.widen a b)) (d.rank a) e)

  -- a rank that does not fall stays
  stays_equal : (a b : N) → d.rank a ≤ d.rank (d.widen a b) → (d.widen a b ≢ a → ⊥)
  stays_equal a b h n = let k = law.widen_changes a b small n in absurd (omega arith)

  rank_stays : (a b : N) → d.rank (d.widen a b) ≤ d.rank a
  rank_stays a b = by_rank a b (λ h. omega arith) (λ h. of_equal (le_or (d.rank (d.widen a b)) (d.rank a)))
    where
      of_equal : (d.rank (d.widen a b) ≤ d.rank a) ⊎ (d.rank a < d.rank (d.widen a b)) → d.rank (d.widen a b) ≤ d.rank a
      of_equal (inl h) = h
      of_equal (inr h) =
          let k = law.widen_changes a b small (λ e. let i : d.rank (d.widen a b) ≡ d.rank a = ap d.rank e in
          absurd (omega arith)) in
          absurd (omega arith)

small_left : (a b m : ℕ) → min (a + b) 4294967295 ≡ m → m < 4294967295 → a < 4294967295
small_left a b m e h = omega arith

small_right : (a b m : ℕ) → min (a + b) 4294967295 ≡ m → m < 4294967295 → b < 4294967295
small_right a b m e h = omega arith

sum_small : (a b : ℕ) → min (a + b) 4294967295 < 4294967295 → a + b < 4294967295
sum_small a b h = omega arith

falls_left : (a b c d : ℕ) → c + d < 4294967295 → a < c → b ≤ d → min (a + b) 4294967295 < min (c + d) 4294967295
falls_left a b c d s p q = omega arith

falls_right : (a b c d : ℕ) → c + d < 4294967295 → a ≤ c → b < d → min (a + b) 4294967295 < min (c + d) 4294967295
falls_right a b c d s p q = omega arith

bounded : (a b c d : ℕ) → a ≤ c → b ≤ d → min (a + b) 4294967295 ≤ min (c + d) 4294967295
bounded a b c d p q = omega arith

total : (a b c d : ℕ) → a ≤ c → b ≤ d → c + d < 4294967295 → a + b < 4294967295
total a b c d p q s = omega arith

module _ {A B : Type 0} (f : Ghosts A) (g : Ghosts B) (law : Lawful f.ops) (too : Lawful g.ops) where
  -- pairs of the same parts are the same
  pub same_parts : (p q : Pair A B f g) → p.left ≡ q.left → p.right ≡ q.right → p ≡ q
  same_parts p q e h = at_right q.right h q.may_pair
    where
      at_left : (a : A) (e : p.left ≡ a) (k : Lawful f.ops → Lawful g.ops → may_pair f.ops g.ops a p.right ≡ true) → p
          ≡ record { left = a; right = p.right; may_pair = k }
      at_left a e = subst (λ a. (k : Lawful f.ops → Lawful g.ops → may_pair f.ops g.ops a p.right ≡ true) → p
          ≡ record { left = a; right = p.right; may_pair = k }) e
          (λ k. ap (λ (m : Lawful f.ops → Lawful g.ops → may_pair f.ops g.ops p.left p.right ≡ true).
          (let r : Pair A B f g = record { left = p.left; right = p.right; may_pair = m } in r))
          (shared_prop f g p.left p.right p.may_pair k))

      at_right : (b : B) (h : p.right ≡ b) (k : Lawful f.ops → Lawful g.ops → may_pair f.ops g.ops q.left b ≡ true) →
          p ≡ record { left = q.left; right = b; may_pair = k }
      at_right b h = subst (λ b. (k : Lawful f.ops → Lawful g.ops → may_pair f.ops g.ops q.left b ≡ true) → p
          ≡ record { left = q.left; right = b; may_pair = k }) h (at_left q.left e)

  pub widen_left : (p q : Pair A B f g) (z : ℤ) → IsTrue (holds_of p z) → IsTrue (holds_of (widening_of p q) z)
  widen_left p q z h = let k = and_parts _ _ h in and_from _ _ (law.widen_left _ _ z k.0) (too.widen_left _ _ z k.1)

  pub widen_right : (p q : Pair A B f g) (z : ℤ) → IsTrue (holds_of q z) → IsTrue (holds_of (widening_of p q) z)
  widen_right p q z h = let k = and_parts _ _ h in and_from _ _ (law.widen_right _ _ z k.0) (too.widen_right _ _ z k.1)

  pub widen_range_left : (p q : Pair A B f g) → Encloses (range_of (widening_of p q)) (range_of p)
  widen_range_left p q = common_encloses _ _ _ _ (law.widen_range_left p.left q.left)
      (too.widen_range_left p.right q.right)

  pub widen_range_right : (p q : Pair A B f g) → Encloses (range_of (widening_of p q)) (range_of q)
  widen_range_right p q = common_encloses _ _ _ _ (law.widen_range_right p.left q.left)
      (too.widen_range_right p.right q.right)

  -- ---- ranks

  pub rank_bound : (p : Pair A B f g) → rank_of p ≤ sum_of_ranks f.ops.height g.ops.height
  rank_bound p = bounded _ _ _ _ (law.rank_bound p.left) (too.rank_bound p.right)

  module _ (small : sum_of_ranks f.ops.height g.ops.height < 4294967295) where
    left_small : f.ops.height < 4294967295
    left_small = small_left f.ops.height g.ops.height _ refl small

    right_small : g.ops.height < 4294967295
    right_small = small_right f.ops.height g.ops.height _ refl small

    ranks_small : (p : Pair A B f g) → f.ops.rank p.left + g.ops.rank p.right < 4294967295
    ranks_small p = total _ _ _ _ (law.rank_bound p.left) (too.rank_bound p.right)
        (sum_small f.ops.height g.ops.height small)

    at_left : (p q : Pair A B f g) → f.ops.rank (f.ops.widen p.left q.left) < f.ops.rank p.left →
        rank_of (widening_of p q) < rank_of p
    at_left p q h = falls_left _ _ _ _ (ranks_small p) h (rank_stays g.ops too right_small p.right q.right)

    at_right : (p q : Pair A B f g) → g.ops.rank (g.ops.widen p.right q.right) < g.ops.rank p.right →
        rank_of (widening_of p q) < rank_of p
    at_right p q h = falls_right _ _ _ _ (ranks_small p) (rank_stays f.ops law left_small p.left q.left) h

    pub widen_changes : (p q : Pair A B f g) → widening_of p q ≢ p → rank_of (widening_of p q) < rank_of p
    widen_changes p q n =
        by_rank f.ops law left_small p.left q.left (at_left p q)
        (λ h. by_rank g.ops too right_small p.right q.right (at_right p q)
        (λ k. absurd (stays_equal f.ops law left_small p.left q.left h
        (λ e. stays_equal g.ops too right_small p.right q.right k (λ i. n (same_parts (widening_of p q) p e i))))))

    pub widen_falls : (p q : Pair A B f g) → is_within q p ≡ false → rank_of (widening_of p q) < rank_of p
    widen_falls p q e = by_test (f.ops.within q.left p.left) refl
      where
        second : (x y : Bool) → x ≡ true → (x && y) ≡ false → y ≡ false
        second true y h k = k
        second false y h k = absurd cc

        by_test : (t : Bool) → f.ops.within q.left p.left ≡ t → rank_of (widening_of p q) < rank_of p
        by_test false h = at_left p q (law.widen_falls p.left q.left left_small h)
        by_test true h = at_right p q
            (too.widen_falls p.right q.right right_small (second (f.ops.within q.left p.left) _ h e))
