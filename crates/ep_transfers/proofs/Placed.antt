-- Where an access lists no fault, a machine's place is among the places, and the machine has no fault there.
use Rattle.std.proofs.Common.{◌≡◌, ℕ, ◌+◌, ◌%◌, ◌<◌, ◌≤◌, pos, Bool, true, false, nat_lt, List, [], ◌∷◌, slice_get}
use Rattle.ep_evaluation.proofs.General.{not_shown}
use Rattle.std.proofs.Common.{Option, Some, None, IsSomeAnd, refl, arith}
use Rattle.std.proofs.lemmas.Bool.{eq-eqb, false_from_ne_true, ltb-true}
use Rattle.ep_int.specs.declared.types.Model.{Model}
use Rattle.ep_int.specs.declared.types.Scalar.{Scalar}
use Rattle.ep_int.specs.declared.types.Scalar.TheVariants.{Pointer}
use Rattle.ep_int.specs.Types.{size_of}
use Rattle.ep_int.specs.Memory.{Value as Datum, int, null, pointer, is_outside, is_aligned, store_fault}
use Rattle.ep_domain.specs.Domain.{Ops, Lawful, Holds}
use Rattle.ep_pointers.specs.Value.{Target, offset_at}
use Rattle.ep_cells.specs.declared.cell.Value.{Value}
use Rattle.ep_cells.specs.declared.cell.Value.TheVariants.{Num, Ptr}
use Rattle.ep_cells.specs.Meaning.{Allows}
use Rattle.ep_core.specs.Runs.{Side}
use Rattle.ep_equalities.specs.declared.pair.Mode.{Mode}
use Rattle.ep_equalities.specs.declared.pair.PairValue.{PairValue}
use Rattle.ep_alarms.specs.declared.types.AlarmKind.TheVariants.{U5, U6, U7}
use Rattle.ep_evaluation.specs.Given.{on, runs, shown_if, faults_on}
use Rattle.ep_evaluation.specs.Operators.{pointer_in}
use Rattle.ep_evaluation.specs.Accesses.{spots, bounds_of, may_be_odd}
use Rattle.ep_cell_ranges.specs.Spots.{Spot}
use Rattle.ep_evaluation.specs.Evaluation.{targets_of, is_null}
use Rattle.ep_evaluation.specs.Evaluation.{pointer as pointer_of}
use Rattle.ep_evaluation.proofs.General.{none_left, unmarked}
use Rattle.ep_evaluation.proofs.Spots.{Among, here, behind, spot_there}
use Rattle.ep_evaluation.proofs.Access.{even_there, inside_there}
use Rattle.ep_transfers.specs.Places.{range_faults, aligned_faults}

module _ {N : Type 0} (D : Ops N) (law : Lawful D) (sizes : List ℕ) (n : ℕ) (some : 0 < n) where
  pub record IsPlaced (ts : List (Target N)) (d : Datum) : Type 0 where
    pub block : ℕ
    pub offset : ℕ
    pub size : ℕ
    pub is : d ≡ pointer block offset
    pub size_is : slice_get sizes block ≡ Some size
    pub inside : offset + n ≤ size
    pub even : offset % n ≡ 0
    pub among : Among (block, offset) (spots D sizes n n ts)

  at_target : (ts : List (Target N)) (b q : ℕ) → IsSomeAnd (offset_at ts b) (λ a. Holds D a (pos q)) → bounds_of D
      sizes n ts ≡ None
      → may_be_odd D n ts ≡ false → IsPlaced ts (pointer b q)
  at_target ts b q h out odd =
      let i = inside_there D law n sizes ts b q out h in
      let e = even_there D law n ts b q odd h in record {
        block = b;
        offset = q;
        size = i.0;
        is = refl;
        size_is = i.1;
        inside = i.2;
        even = e;
        among = spot_there D sizes n some ts b q i.0 h i.1 i.2 e;
      }

  placed : (v : Option (Value N)) (d : Datum) → Allows D Pointer v false (Some d) → is_null D sizes (pointer_in v) ≡
      false
      → bounds_of D sizes n (targets_of D sizes (pointer_in v)) ≡ None → may_be_odd D n
      (targets_of D sizes (pointer_in v)) ≡ false
      → IsPlaced (targets_of D sizes (pointer_in v)) d
  placed None d a u out odd = absurd (let q : Some d ≡ None = a in cc)
  placed (Some (Num m)) (int z) a u out odd = absurd a
  placed (Some (Num m)) null a u out odd = absurd a
  placed (Some (Num m)) (pointer b q) a u out odd = absurd a
  placed (Some (Ptr p)) (int z) a u out odd = absurd a
  placed (Some (Ptr p)) null a u out odd = absurd (let q : p.null ≡ true = a in let r : p.null ≡ false = u in cc)
  placed (Some (Ptr p)) (pointer b q) a u out odd = at_target p.targets b q a out odd

  -- of a running side
  pub side_placed : (mode : Mode) (a : PairValue N) → aligned_faults D sizes mode n a ≡ [] → (s : Side) → runs mode s
      ≡ true → (d : Datum)
      → Allows D Pointer (on a s).value false (Some d) → IsPlaced (targets_of D sizes (pointer_of D (on a s))) d
  side_placed mode a e s r d h =
      let x = none_left (range_faults D sizes mode n a) (faults_on mode U7 (λ s. shown_if (may_be_odd D n (targets_of
      D sizes (pointer_of D (on a s)))))) e in
      let y = none_left (faults_on mode U6 (λ s. shown_if (is_null D sizes (pointer_of D (on a s)))))
      (faults_on mode U5 (λ s. bounds_of D sizes n (targets_of D sizes (pointer_of D (on a s))))) x.0 in
      placed (on a s).value d h
      (not_shown (is_null D sizes (pointer_of D (on a s)))
      (unmarked mode U6 (λ s. shown_if (is_null D sizes (pointer_of D (on a s)))) s y.0 r))
      (unmarked mode U5 (λ s. bounds_of D sizes n (targets_of D sizes (pointer_of D (on a s)))) s y.1 r)
      (not_shown (may_be_odd D n (targets_of D sizes (pointer_of D (on a s))))
      (unmarked mode U7 (λ s. shown_if (may_be_odd D n (targets_of D sizes (pointer_of D (on a s))))) s x.1 r))

-- one place is that of the machine
pub only_place : (b o : ℕ) (q : Spot) → Among (b, o) (q ∷ []) → q ≡ (b, o)
only_place b o _ (here _) = refl
only_place b o q (behind _ _ h) = elim h [ ]

-- and there the machine stores without a fault
not_outside : (size o n : ℕ) → o + n ≤ size → is_outside size o n ≡ false
not_outside size o n h = false_from_ne_true (nat_lt size (o + n))
    (λ e. absurd (let l = ltb-true size (o + n) e in omega (arith, l, h)))

no_fault : (d : Model) (size : ℕ) (w : Scalar) (o : ℕ) (t u : Bool) → is_outside size o (size_of d w) ≡ t → is_aligned
    d w o ≡ u → t ≡ false → u ≡ true
    → store_fault d size w o ≡ None
no_fault d size w o true u e f g h = absurd (cc)
no_fault d size w o false true e f g h = rw (e, f) refl
no_fault d size w o false false e f g h = absurd (cc)

pub stores : (d : Model) (size : ℕ) (w : Scalar) (o : ℕ) → o + size_of d w ≤ size → o % size_of d w ≡ 0 → store_fault
    d size w o ≡ None
stores d size w o h e =
    no_fault d size w o (is_outside size o (size_of d w)) (is_aligned d w o) refl refl
    (not_outside size o (size_of d w) h)
    (eq-eqb (o % size_of d w) 0 e)
