-- The place of the first bytes of a variable, which has no fault.
use Rattle.std.proofs.Common.{◌≡◌, ℕ, zero, suc, ◌+◌, ◌-◌, ◌/◌, ◌<◌, ◌≤◌, pos, ◌+ℤ◌, Bool, true, false, ◌||◌, cond}
use Rattle.std.proofs.Common.{int_lt, [], ◌∷◌, ◌++◌, map, refl, ap, ◌∙◌, None, arith, slice_get}
use Rattle.std.specs.List.{filter}
use Rattle.std.proofs.lemmas.Int.{ints}
use Rattle.std.proofs.lemmas.Bool.{le-leb, false_from_ne_true, ltb-true}
use Rattle.ep_int.specs.declared.types.IntType.{IntType}
use Rattle.ep_int.specs.declared.types.Scalar.TheVariants.{Int}
use Rattle.ep_int.specs.Types.{bytes_of}
use Rattle.ep_int.specs.Arith.{IsOfSomeType}
use Rattle.ep_domain.specs.Domain.{Ops, Lawful}
use Rattle.ep_core.specs.Program.{Program}
use Rattle.ep_core.specs.WellFormed.{holds_scalar, is_well_formed}
use Rattle.ep_equalities.specs.declared.pair.Mode.TheVariants.{Both}
use Rattle.ep_evaluation.specs.Given.{shows_if}
use Rattle.ep_evaluation.specs.Accesses.{multiples, held_spots, spots, leaves_block, bounds_of}
use Rattle.ep_transfers.specs.Places.{range_faults}
use Rattle.ep_transfers.specs.Transfers.{sizes, to_block}
use Rattle.ep_straight_laws.proofs.Scalars.{integer_is}

zero_type : IsOfSomeType (pos 0)
zero_type = record { low = omega (arith, ints); high = omega (arith, ints) }

module _ {N : Type 0} (D : Ops N) (law : Lawful D) (p : Program) (formed : is_well_formed p ≡ true) (b : ℕ)
    (t : IntType)
    (integer : holds_scalar p.types p.blocks (b, Int t) ≡ true) (c : ℕ) (inside : c ≤ bytes_of t) where
  abbrev is_held : ℕ → Bool
  is_held q = D.holds (D.single (pos 0)) (pos q)

  not_held : (q : ℕ) → 0 < q → is_held q ≡ false
  not_held q h =
      false_from_ne_true (is_held q)
      (λ e. absurd (let z : pos q ≡ pos 0 = law.single_only (pos 0) (pos q) zero_type e in
      let n : q ≡ 0 = cc in omega (arith, n, h)))

  none_after : (m q : ℕ) → 0 < q → filter is_held (multiples 1 q m) ≡ []
  none_after zero q h = refl
  none_after (suc m) q h = rw (not_held q h) (none_after m (q + 1) (omega (arith, h)))

  first_alone : (m n : ℕ) → n ≡ suc m → filter is_held (multiples 1 0 n) ≡ 0 ∷ []
  first_alone m n e =
      ap (λ z. filter is_held (multiples 1 0 z)) e
      ∙ ap (λ h. cond h (0 ∷ filter is_held (multiples 1 (0 + 1) m)) (filter is_held (multiples 1 (0 + 1) m)))
      (law.single_holds (pos 0) zero_type)
      ∙ ap (λ r. 0 ∷ r) (none_after m (0 + 1) (omega arith))

  pub front_place : spots D (sizes D p) c 1 ((b, D.single (pos 0)) ∷ []) ≡ (b, 0) ∷ []
  front_place =
      ap (λ o. held_spots D c 1 (b, D.single (pos 0)) o ++ []) (integer_is p formed b t integer).sized
      ∙ ap (λ h. map (λ (q : ℕ). (b, q)) (filter is_held (cond h (multiples 1 0
      ((bytes_of t - c) / 1 + 1)) [])) ++ [])
      (le-leb c (bytes_of t) inside)
      ∙ ap (λ r. map (λ (q : ℕ). (b, q)) r ++ [])
      (first_alone ((bytes_of t - c) / 1) ((bytes_of t - c) / 1 + 1) (omega arith))

  not_over : int_lt (pos (bytes_of t)) (pos 0 +ℤ pos c) ≡ false
  not_over =
      false_from_ne_true (int_lt (pos (bytes_of t)) (pos (0 + c)))
      (λ e. absurd (let l = ltb-true (bytes_of t) (0 + c) e in omega (arith, l, inside)))

  at_start : bounds_of D (sizes D p) c ((b, D.single (pos 0)) ∷ []) ≡ None
  at_start =
      let e : (leaves_block (slice_get (sizes D p) b) c (D.range (D.single (pos 0))) || false) ≡ false
      = rw ((integer_is p formed b t integer).sized, law.single_range (pos 0) zero_type, not_over) refl in
      ap (λ t. shows_if t (D.range (D.single (pos 0)))) e

  pub front_quiet : range_faults D (sizes D p) Both c (to_block D Both b) ≡ []
  front_quiet = rw at_start refl
