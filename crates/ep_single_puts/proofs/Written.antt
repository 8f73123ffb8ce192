-- Where each running side has one place and one value, what is written leaves a state of one pair of memories.
use Rattle.std.proofs.Common.{◌≡◌, ℕ, ◌+◌, ◌%◌, ◌<◌, ◌≤◌, Bool, true, false, not, nat_lt, cond, [], ◌∷◌, slice_get}
use Rattle.ep_single_stores.proofs.Faults.{store_parts}
use Rattle.ep_single_given.proofs.Loads.{block_there}
use Rattle.std.proofs.Common.{List, Option, Some, None, refl, sym, ◌∙◌, subst, arith}
use Rattle.std.specs.Option.{option_map}
use Rattle.std.proofs.lemmas.Bool.{eqb-true, ltb-false}
use Rattle.std.proofs.lemmas.Option.{slice_get-map}
use Rattle.ep_int.proofs.Basics.{size_positive}
use Rattle.ep_int.specs.declared.types.Model.{Model}
use Rattle.ep_int.specs.declared.types.Order.{Order}
use Rattle.ep_int.specs.declared.types.Scalar.{Scalar}
use Rattle.ep_int.specs.Types.{size_of}
use Rattle.ep_int.specs.Memory.{Memory, Value as Datum, null, bounds, alignment, stored, is_aligned, store_fault}
use Rattle.ep_domain.specs.Domain.{Ops, Lawful}
use Rattle.ep_cells.specs.States.{Known}
use Rattle.ep_cells.specs.Meaning.{Memories}
use Rattle.ep_cell_ranges.specs.Spots.{Spot}
use Rattle.ep_core.specs.Program.{Block, Program}
use Rattle.ep_core.specs.Exec.{block_size, size_at}
use Rattle.ep_core.specs.Runs.{Side, left, right}
use Rattle.ep_equalities.specs.declared.pair.Mode.{Mode}
use Rattle.ep_equalities.specs.declared.pair.Mode.TheVariants.{Both, Left, Right}
use Rattle.ep_equalities.specs.declared.pair.PairValue.{PairValue}
use Rattle.ep_equalities.specs.Same.{is_same}
use Rattle.ep_evaluation.specs.Given.{on}
use Rattle.ep_evaluation.specs.Accesses.{spots}
use Rattle.ep_evaluation.specs.Evaluation.{pointer as pointer_of, targets_of}
use Rattle.ep_evaluation.specs.Laws.{memory_of, sizes_of}
use Rattle.ep_transfers.specs.Places.{Places, places_of}
use Rattle.ep_transfers.specs.Writes.{item_of, underway, write_now, write_side}
use Rattle.ep_transfers.proofs.Puts.{order_on}
use Rattle.ep_singles.specs.Numbers.{KeepsSingles}
use Rattle.ep_singles.specs.Cells.{IsOne}
use Rattle.ep_single_places.specs.Laws.{IsPlaceFor}
use Rattle.ep_single_stores.specs.Laws.{IsStoredAt, IsOneToStore}
use Rattle.ep_single_stores.proofs.Writes.{writes_keep_one}

-- ---- a place where a machine can store a scalar

pub place_for : (o : Order) (p : Program) (d : Model) (w : Scalar) (b q : ℕ)
    → store_fault d (size_at o p b) w q ≡ None → IsPlaceFor (sizes_of p.blocks) b q (size_of d w)
place_for o p d w b q e =
    let r = store_parts (nat_lt (size_at o p b) (q + size_of d w)) (is_aligned d w q) e in
    let inside = ltb-false (size_at o p b) (q + size_of d w) r.0 in
    record {
      size = size_at o p b;
      of_block = slice_get-map (λ (y : Block). y.size) p.blocks b
          ∙ block_there o p (slice_get p.blocks b) q (size_of d w) inside (size_positive d w);
      inside = inside;
      aligned = eqb-true (q % size_of d w) 0 r.1;
    }

-- ---- what is written

module _ {N : Type 0} (D : Ops N) (law : Lawful D) (keeps : KeepsSingles D) (k : Known N) (m n : Memories)
    (one : IsOne D k m) (w : Scalar) (sizes : List ℕ) (to v : PairValue N) where
  -- one place, one value, and the memory after it
  pub record IsSideOne (s : Side) : Type 0 where
    pub spot : Spot
    pub datum : Datum
    pub place : spots D sizes (size_of k.model w) (size_of k.model w) (targets_of D sizes (pointer_of D (on to s)))
        ≡ spot ∷ []
    pub to_store : IsOneToStore D k m spot w (on v s).value (on v s).form datum
    pub after : (b j : ℕ) → memory_of s n b j
        ≡ stored (order_on s k.orders) k.model (memory_of s m) w spot.0 spot.1 datum b j

  abbrev pub IsStillThere : Side → Type 0
  IsStillThere s = (b j : ℕ) → memory_of s n b j ≡ memory_of s m b j

  abbrev places : Places
  places = places_of D sizes (size_of k.model w) (size_of k.model w) to

  abbrev Writes : Mode → Places → Type 0
  Writes mode p = IsOne D (write_now D mode (is_same D to) w p (item_of D v) k) n

  is_stored : (o : Order) (q : Spot) (x : Datum) (y z : Memory) → ((b j : ℕ) → z b j ≡ stored o k.model y w q.0 q.1 x b j)
      → IsStoredAt o k.model w q x true y z
  is_stored o q x y z h = record { written = λ e. h; stays = λ e. absurd (let c : true ≡ false = e in cc) }

  not_stored : (o : Order) (q : Spot) (x : Datum) (y z : Memory) → ((b j : ℕ) → z b j ≡ y b j)
      → IsStoredAt o k.model w q x false y z
  not_stored o q x y z h = record { written = λ e. absurd (let c : false ≡ true = e in cc); stays = λ e. h }

  none_of : {A : Type 0} → false ≡ true → A
  none_of e = absurd cc

  pub both_written : (l : IsSideOne left) (r : IsSideOne right)
      → (is_same D to ≡ true → is_same D v ≡ true → (l.spot ≡ r.spot) × (l.datum ≡ r.datum)) → Writes Both places
  both_written l r same =
      subst (λ ps. Writes Both (record { left = ps; right = places.right })) (sym l.place)
      (subst (λ ps. Writes Both (record { left = l.spot ∷ []; right = ps })) (sym r.place)
      (writes_keep_one D law keeps k m n one Both (is_same D to) w l.spot r.spot v l.datum r.datum
      (λ e. l.to_store) (λ e. r.to_store) (is_stored k.orders.0 l.spot l.datum m.left n.left l.after)
      (is_stored k.orders.1 r.spot r.datum m.right n.right r.after) (λ e. same)))

  pub left_written : (l : IsSideOne left) → IsStillThere right → Writes Left places
  left_written l r =
      subst (λ ps. IsOne D (write_side D left w ps (underway k (item_of D v))).known n) (sym l.place)
      (writes_keep_one D law keeps k m n one Left (is_same D to) w l.spot l.spot v l.datum null
      (λ e. l.to_store) (λ e. none_of e) (is_stored k.orders.0 l.spot l.datum m.left n.left l.after)
      (not_stored k.orders.1 l.spot null m.right n.right r) (λ e. absurd (cc)))

  pub right_written : (r : IsSideOne right) → IsStillThere left → Writes Right places
  right_written r l =
      subst (λ ps. IsOne D (write_side D right w ps (underway k (item_of D v))).known n) (sym r.place)
      (writes_keep_one D law keeps k m n one Right (is_same D to) w r.spot r.spot v null r.datum
      (λ e. none_of e) (λ e. r.to_store) (not_stored k.orders.0 r.spot null m.left n.left l)
      (is_stored k.orders.1 r.spot r.datum m.right n.right r.after) (λ e. absurd (cc)))
