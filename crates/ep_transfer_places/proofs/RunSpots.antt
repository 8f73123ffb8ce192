-- The places of a run of bytes, among all offsets: those of one byte in a block that is as much shorter.
use Rattle.std.proofs.Common.{◌≡◌, ℕ, suc, ◌+◌, ◌-◌, ◌*◌, ◌/◌, ◌≤◌, ℤ, pos, true, nat_le, cond, List, [], ◌∷◌, ◌++◌}
use Rattle.std.proofs.lemmas.Bool.{le-leb}
use Rattle.std.proofs.Common.{map, Some, min, sym, ap, ◌∙◌, subst, arith}
use Rattle.std.specs.List.{filter}
use Rattle.std.proofs.lemmas.Bool.Decides.{nat_tests}
use Rattle.std.proofs.lemmas.Int.{ints}
use Rattle.ep_domain.specs.Domain.{Ops, Lawful}
use Rattle.ep_cell_ranges.specs.Spots.{Spot}
use Rattle.ep_evaluation.specs.Accesses.{multiples, held_spots}
use Rattle.ep_eval_places.specs.Offsets.{nearest_offset}
use Rattle.ep_eval_places.proofs.Held.{held, held_begin, held_more, held_last}

by_one : (x : ℕ) → x / 1 ≡ x
by_one x = omega arith

nearest_min : (last : ℕ) (z : ℤ) → nearest_offset last z ≡ min (nearest_offset (suc last) z) last
nearest_min last z = grind (arith, ints, nat_tests)

module _ {N : Type 0} (D : Ops N) (law : Lawful D) (b : ℕ) (a : N) where
  abbrev pub upto : ℕ → List Spot
  upto k = held D law b a 1 k

  pub run_begin : (out : List Spot) (last u k : ℕ) → u ≡ nearest_offset last (D.range a).0 → k ≤ u
      → out ≡ out ++ upto k
  run_begin out last u k e h =
      held_begin D law b a 1 out last u k (omega arith) (e ∙ sym (by_one (nearest_offset last (D.range a).0))) h

  pub run_more : (out now new : List Spot) (k : ℕ) → now ≡ out ++ upto k
      → new ≡ now ++ cond (D.holds a (pos k)) ((b, k) ∷ []) [] → new ≡ out ++ upto (k + 1)
  run_more out now new k e q =
      let one : k ≡ k * 1 = omega arith in
      held_more D law b a 1 out now new k e
      (subst (λ j. new ≡ now ++ cond (D.holds a (pos j)) ((b, j) ∷ []) []) one q)

  abbrev all : List ℕ → List Spot
  all qs = map (λ q. (b, q)) (filter (λ q. D.holds a (pos q)) qs)

  -- an access of one byte in the shorter block
  shorter : (n size : ℕ) → n ≤ size → held_spots D 1 1 (b, a) (Some (suc (size - n))) ≡ held_spots D n 1 (b, a) (Some size)
  shorter n size h =
      let first : nat_le 1 (suc (size - n)) ≡ true = le-leb 1 (suc (size - n)) (omega arith) in
      let tested : nat_le n size ≡ true = le-leb n size h in
      let same : suc (size - n) - 1 ≡ size - n = omega arith in
      ap (λ t. all (cond t (multiples 1 0 ((suc (size - n) - 1) / 1 + 1)) [])) first
      ∙ ap (λ l. all (multiples 1 0 (l / 1 + 1))) same
      ∙ sym (ap (λ t. all (cond t (multiples 1 0 ((size - n) / 1 + 1)) [])) tested)

  stop_is : (last u stop : ℕ) → u ≡ nearest_offset last (D.range a).1 → stop ≡ u + 1
      → stop ≡ min (nearest_offset (suc last) (D.range a).1) ((suc last - 1) / 1) + 1
  stop_is last u stop e q =
      let one : (suc last - 1) / 1 ≡ last = by_one (suc last - 1) ∙ (omega arith) in
      q ∙ ap (λ x. x + 1) (e ∙ nearest_min last (D.range a).1
      ∙ sym (ap (min (nearest_offset (suc last) (D.range a).1)) one))

  pub run_last : (n size u stop : ℕ) → n ≤ size → u ≡ nearest_offset (size - n) (D.range a).1 → stop ≡ u + 1
      → upto stop ≡ held_spots D n 1 (b, a) (Some size)
  run_last n size u stop h e q =
      held_last D law b a 1 (suc (size - n)) (nearest_offset (suc (size - n)) (D.range a).1) stop (omega arith)
      (omega arith) (sym (by_one (nearest_offset (suc (size - n)) (D.range a).1))) (stop_is (size - n) u stop e q)
      ∙ shorter n size h
