-- What is joined of the sources of a piece allows what stands at each of them.
use Rattle.std.proofs.Common.{◌≡◌, ℕ, Bool, true, false, ◌||◌, List, [], ◌∷◌, Option, Some, None, refl, subst}
use Rattle.ep_cells.proofs.Both.{bytes_weaker}
use Rattle.std.proofs.lemmas.Bool.{or_left, or_right}
use Rattle.ep_int.specs.declared.types.Order.{Order}
use Rattle.ep_int.specs.declared.types.Scalar.{Scalar}
use Rattle.ep_int.specs.declared.types.Scalar.TheVariants.{Int, Pointer}
use Rattle.ep_int.specs.Memory.{Memory, Value as Datum, int, null, pointer}
use Rattle.ep_domain.specs.Domain.{Ops, Lawful}
use Rattle.ep_cells.specs.declared.cell.Value.{Value}
use Rattle.ep_cells.specs.declared.cell.Value.TheVariants.{Num, Ptr}
use Rattle.ep_cells.specs.Both.{value_of_both}
use Rattle.ep_cells.specs.States.{IsOfSort, HasRisingBlocks}
use Rattle.ep_cells.specs.Meaning.{Allows, HasBytes}
use Rattle.ep_cells.proofs.Both.{allowed_left, allowed_right, join_unites, sort_both, rising_both}
use Rattle.ep_reads.specs.declared.read.ReadValue.{ReadValue}
use Rattle.ep_evaluation.specs.Accesses.{joined_from, joined_reads}
use Rattle.ep_evaluation.proofs.Spots.{Among, here, behind}
use Rattle.ep_transfers.specs.Writes.{lacks}
use Rattle.ep_transfers.specs.Copies.{some_maybe}

module _ {N : Type 0} (D : Ops N) (law : Lawful D) where
  pub some_any : (w : Scalar) (u : Option (Value N)) (a c : Bool) (z : Datum) → Allows D w u a (Some z)
      → Allows D w u c (Some z)
  some_any w None a c z h = h
  some_any (Int t) (Some (Num n)) a c (int z) h = h
  some_any (Int t) (Some (Num n)) a c null h = h
  some_any (Int t) (Some (Num n)) a c (pointer b q) h = h
  some_any (Int t) (Some (Ptr n)) a c (int z) h = h
  some_any (Int t) (Some (Ptr n)) a c null h = h
  some_any (Int t) (Some (Ptr n)) a c (pointer b q) h = h
  some_any Pointer (Some (Num n)) a c (int z) h = h
  some_any Pointer (Some (Num n)) a c null h = h
  some_any Pointer (Some (Num n)) a c (pointer b q) h = h
  some_any Pointer (Some (Ptr n)) a c (int z) h = h
  some_any Pointer (Some (Ptr n)) a c null h = h
  some_any Pointer (Some (Ptr n)) a c (pointer b q) h = h

  pub nothing_allowed : (w : Scalar) (u : Option (Value N)) (c : Bool) → c ≡ true → Allows D w u c None
  nothing_allowed w None c e = refl
  nothing_allowed w (Some x) c e = e

  pub lacks_more : (a : Bool) (u : Option (Value N)) → a ≡ true → lacks a u ≡ true
  lacks_more a u e = rw e refl

  -- ---- sources

  -- it may be the value of a cell, and says so where there is none
  pub record FitsSource (w : Scalar) (r : ReadValue N) : Type 0 where
    pub sort : IsOfSort w r.value
    pub rising : HasRisingBlocks r.value

  abbrev pub AllFit : Scalar → List (ReadValue N) → Type 0
  AllFit w [] = Unit {0}
  AllFit w (r ∷ rs) = FitsSource w r × AllFit w rs

  -- what stands at a place is allowed by it
  pub record IsSource (o : Order) (size : ℕ) (w : Scalar) (r : ReadValue N) (b q : ℕ) (m : Memory) : Type 0 where
    pub datum : Option Datum
    pub allowed : Allows D w r.value r.maybe datum
    pub stands : HasBytes o m size w r.maybe b q datum
    pub unset : r.value ≡ None → r.maybe ≡ true

  sort_from : (w : Scalar) (u : Option (Value N)) → IsOfSort w u → (rs : List (ReadValue N)) → AllFit w rs
      → IsOfSort w (joined_from D u rs)
  sort_from w u h [] a = h
  sort_from w u h (r ∷ rs) a =
      sort_from w (value_of_both D.join u r.value) (sort_both D.join w u r.value h a.0.sort) rs a.1

  rising_from : (w : Scalar) (u : Option (Value N)) → HasRisingBlocks u → (rs : List (ReadValue N)) → AllFit w rs
      → HasRisingBlocks (joined_from D u rs)
  rising_from w u h [] a = h
  rising_from w u h (r ∷ rs) a =
      rising_from w (value_of_both D.join u r.value)
      (rising_both D D.join (join_unites D law) u r.value h a.0.rising) rs a.1

  pub joined_sort : (w : Scalar) (rs : List (ReadValue N)) → AllFit w rs → IsOfSort w (joined_reads D rs)
  joined_sort w rs a = sort_from w None tt rs a

  pub joined_rising : (w : Scalar) (rs : List (ReadValue N)) → AllFit w rs → HasRisingBlocks (joined_reads D rs)
  joined_rising w rs a = rising_from w None tt rs a

  some_value : (w : Scalar) (u : Option (Value N)) (v : Datum) → Allows D w u false (Some v) → u ≡ None → false ≡ true
  some_value w u v h e = absurd (none_allows w v (subst (λ x. Allows D w x false (Some v)) e h))
    where
      none_allows : (w : Scalar) (v : Datum) → Allows D w None false (Some v) → ⊥
      none_allows (Int t) v h = let z : Some v ≡ None = h in cc
      none_allows Pointer v h = let z : Some v ≡ None = h in cc

  keeps : (w : Scalar) (u : Option (Value N)) (v : Datum) → IsOfSort w u → HasRisingBlocks u
      → Allows D w u false (Some v) → (rs : List (ReadValue N)) → AllFit w rs
      → Allows D w (joined_from D u rs) false (Some v)
  keeps w u v so ro h [] a = h
  keeps w u v so ro h (r ∷ rs) a =
      keeps w (value_of_both D.join u r.value) v (sort_both D.join w u r.value so a.0.sort)
      (rising_both D D.join (join_unites D law) u r.value ro a.0.rising)
      (allowed_left D D.join (join_unites D law) w u r.value false false (Some v) so a.0.sort ro a.0.rising
      (some_value w u v h) h) rs a.1

  from_one : (w : Scalar) (u : Option (Value N)) → IsOfSort w u → HasRisingBlocks u → (x : ReadValue N)
      (rs : List (ReadValue N)) (v : Datum) → AllFit w rs → Among x rs → Allows D w x.value false (Some v)
      → Allows D w (joined_from D u rs) false (Some v)
  from_one w u so ro x [] v a h e = elim h [ ]
  from_one w u so ro x (_ ∷ rs) v a (here _) e =
      keeps w (value_of_both D.join u x.value) v (sort_both D.join w u x.value so a.0.sort)
      (rising_both D D.join (join_unites D law) u x.value ro a.0.rising)
      (allowed_right D D.join (join_unites D law) w u x.value false false (Some v) so a.0.sort ro a.0.rising
      (some_value w x.value v e) e) rs a.1
  from_one w u so ro x (r ∷ rs) v a (behind _ _ h) e =
      from_one w (value_of_both D.join u r.value) (sort_both D.join w u r.value so a.0.sort)
      (rising_both D D.join (join_unites D law) u r.value ro a.0.rising) x rs v a.1 h e

  maybe_among : (x : ReadValue N) (rs : List (ReadValue N)) → Among x rs → x.maybe ≡ true → some_maybe D rs ≡ true
  maybe_among x [] h e = elim h [ ]
  maybe_among x (_ ∷ rs) (here _) e = or_left x.maybe (some_maybe D rs) e
  maybe_among x (r ∷ rs) (behind _ _ h) e = or_right r.maybe (some_maybe D rs) (maybe_among x rs h e)

  -- ---- all sources together

  pub record AreJoined (o : Order) (size : ℕ) (w : Scalar) (rs : List (ReadValue N)) (b q : ℕ) (m : Memory) : Type 0
    where
      pub datum : Option Datum
      pub allowed : Allows D w (joined_reads D rs) (lacks (some_maybe D rs) (joined_reads D rs)) datum
      pub stands : HasBytes o m size w (lacks (some_maybe D rs) (joined_reads D rs)) b q datum

  pub are_joined : (o : Order) (size : ℕ) (w : Scalar) (rs : List (ReadValue N)) (x : ReadValue N) (b q : ℕ)
      (m : Memory)
      → AllFit w rs → Among x rs → IsSource o size w x b q m → AreJoined o size w rs b q m
  are_joined o size w rs x b q m fits one s = by_datum s.datum s.allowed s.stands
    where
      up : x.maybe ≡ true → lacks (some_maybe D rs) (joined_reads D rs) ≡ true
      up e = lacks_more (some_maybe D rs) (joined_reads D rs) (maybe_among x rs one e)

      set : (u : Option (Value N)) → x.value ≡ u → Allows D w u x.maybe None → x.maybe ≡ true
      set None e h = s.unset e
      set (Some v) e h = h

      by_datum : (d : Option Datum) → Allows D w x.value x.maybe d → HasBytes o m size w x.maybe b q d
          → AreJoined o size w rs b q m
      by_datum None a h = record {
        datum = None;
        allowed = nothing_allowed w (joined_reads D rs) (lacks (some_maybe D rs) (joined_reads D rs))
            (up (set x.value refl a));
        stands = h;
      }
      by_datum (Some v) a h = record {
        datum = Some v;
        allowed = some_any w (joined_reads D rs) false (lacks (some_maybe D rs) (joined_reads D rs)) v
            (from_one w None tt tt x rs v fits one (some_any w x.value x.maybe false v a));
        stands = bytes_weaker o m size w x.maybe (lacks (some_maybe D rs) (joined_reads D rs)) b q (Some v) up h;
      }

  -- ---- the same of a datum that is given

  pub record SourceAs (o : Order) (size : ℕ) (w : Scalar) (r : ReadValue N) (b q : ℕ) (m : Memory)
      (d : Option Datum) : Type 0
    where
      pub allowed : Allows D w r.value r.maybe d
      pub stands : HasBytes o m size w r.maybe b q d
      pub unset : r.value ≡ None → r.maybe ≡ true

  pub record JoinedAs (o : Order) (size : ℕ) (w : Scalar) (rs : List (ReadValue N)) (b q : ℕ) (m : Memory)
      (d : Option Datum) : Type 0
    where
      pub allowed : Allows D w (joined_reads D rs) (lacks (some_maybe D rs) (joined_reads D rs)) d
      pub stands : HasBytes o m size w (lacks (some_maybe D rs) (joined_reads D rs)) b q d

  set_by : (w : Scalar) (r : ReadValue N) (u : Option (Value N)) → (r.value ≡ None → r.maybe ≡ true) → r.value ≡ u
      → Allows D w u r.maybe None → r.maybe ≡ true
  set_by w r None f e h = f e
  set_by w r (Some v) f e h = h

  pub joined_as : (o : Order) (size : ℕ) (w : Scalar) (rs : List (ReadValue N)) (x : ReadValue N) (b q : ℕ)
      (m : Memory) (d : Option Datum)
      → AllFit w rs → Among x rs → SourceAs o size w x b q m d → JoinedAs o size w rs b q m d
  joined_as o size w rs x b q m None fits one s = record {
    allowed = nothing_allowed w (joined_reads D rs) (lacks (some_maybe D rs) (joined_reads D rs))
        (lacks_more (some_maybe D rs) (joined_reads D rs)
        (maybe_among x rs one (set_by w x x.value s.unset refl s.allowed)));
    stands = s.stands;
  }
  joined_as o size w rs x b q m (Some v) fits one s = record {
    allowed = some_any w (joined_reads D rs) false (lacks (some_maybe D rs) (joined_reads D rs)) v
        (from_one w None tt tt x rs v fits one (some_any w x.value x.maybe false v s.allowed));
    stands = bytes_weaker o m size w x.maybe (lacks (some_maybe D rs) (joined_reads D rs)) b q (Some v)
        (λ e. lacks_more (some_maybe D rs) (joined_reads D rs) (maybe_among x rs one e)) s.stands;
  }
