-- The statement that assigns a struct.
use Rattle.std.proofs.Common.{◌≡◌, ℕ, zero, suc, ◌<◌, Bool, true, false, ◌&&◌, ◌||◌, not, cond, List, [], ◌∷◌, map}
use Rattle.ep_int.proofs.Basics.{and-false}
use Rattle.ep_cell_ranges.proofs.Basics.{same_spot}
use Rattle.std.proofs.Common.{Option, Some, slice_get, refl, sym, ap, ◌∙◌, subst, arith}
use Rattle.std.specs.Prelude.{is_some, unwrap_or}
use Rattle.std.proofs.lemmas.Bool.{and_parts, and_from}
use Rattle.ep_int.specs.declared.types.Order.{Order}
use Rattle.ep_int.specs.declared.types.Scalar.{Scalar}
use Rattle.ep_layout.specs.declared.types.Leaf.{Leaf}
use Rattle.ep_layout.specs.Table.{IsBuilt, size, leaves}
use Rattle.ep_bitslice.specs.declared.cell.Side.TheVariants as cell_side
use Rattle.ep_domain.specs.Domain.{Ops, Lawful}
use Rattle.ep_cells.specs.States.{Known}
use Rattle.ep_cell_ranges.specs.Moves.{place_at, moved_to, taken_by_both, blurred_each}
use Rattle.ep_cell_ranges.specs.Ranges.{replaced}
use Rattle.ep_cell_ranges.specs.Spots.{Spot, is_same_spot}
use Rattle.ep_core.specs.Program.{Place, copy_aggregate, Program}
use Rattle.ep_core.specs.Runs.{Side, left, right}
use Rattle.ep_core.specs.WellFormed.{place_has, blocks_fit, is_well_formed, is_main}
use Rattle.ep_core.proofs.Sorts.{three}
use Rattle.ep_equalities.specs.Same.{is_same}
use Rattle.ep_equalities.specs.declared.pair.Mode.TheVariants as pair_mode
use Rattle.ep_equalities.specs.declared.pair.PairValue.{PairValue}
use Rattle.ep_equalities.specs.declared.pair.SideValue.{SideValue}
use Rattle.ep_evaluation.specs.Accesses.{spots}
use Rattle.ep_evaluation.specs.Given.{Given}
use Rattle.ep_evaluation.specs.Evaluation.{place, pointer, targets_of}
use Rattle.ep_evaluation.specs.Laws.{sizes_of}
use Rattle.ep_pass.specs.States.{Both}
use Rattle.ep_transfers.specs.Copies.{copy_moved, copy_pieces, copy_sides, copy_alone, copy_many, move_one, copied}
use Rattle.ep_transfers.specs.Copies.{copy_both, can_copy, is_one_to_one, write_alike, moved_both}
use Rattle.ep_transfers.specs.Places.{Places, places_of, is_one}
use Rattle.ep_transfers.specs.Transfers.{sizes, copy, if_goes_on, simple_step}
use Rattle.ep_transfers.specs.Cells.{when_known}
use Rattle.ep_alarm_laws.specs.Laws.{ProductsKeepStrides}
use Rattle.ep_alarm_laws.proofs.Safe.{plain_honest}
use Rattle.ep_kinds.specs.Tame.{are_tame_types, is_tame_place}
use Rattle.ep_tame_laws.specs.Tamely.{IfReached, AreAmong}
use Rattle.ep_tame_numbers.specs.Offsets.{KeepsOffsets}
use Rattle.ep_tame_places.specs.Places.{LiesAt}
use Rattle.ep_tame_places.specs.Laws.{PlaceLaws}
use Rattle.ep_tame_places.proofs.Steps.{place_laws_of}
use Rattle.ep_tame_accesses.specs.Laws.{HasObject, EachSpot}
use Rattle.ep_tame_accesses.proofs.Accesses.{accesses_of}
use Rattle.ep_tame_states.specs.States.{ValueHas, IsGood}
use Rattle.ep_tame_states.proofs.Gathered.{state_laws_of}
use Rattle.ep_tame_twins.specs.Twins.{IsTwin}
use Rattle.ep_tame_twins.specs.Laws.{TwinLaws}
use Rattle.ep_tame_twins.proofs.Alike.{same_of}
use Rattle.ep_tame_twins.proofs.Expressions.{twin_laws_of}
use Rattle.ep_tame_ops.proofs.GuardsPass.{told_pass}
use Rattle.ep_tame_stores.proofs.StatementKinds.{faults_of_simple}
use Rattle.ep_tame_clears.proofs.Empty.{IsUncut, blurs_good}
use Rattle.ep_tame_clears.proofs.Statements.{sized, objects_left, objects_right, edges_left, edges_right}
use Rattle.ep_tame_copies.specs.Laws.{CopiesKeepGood}
use Rattle.ep_tame_copies.proofs.Pieces.{pieces_good}
use Rattle.ep_tame_copies.proofs.Moves.{moved_good}
use Rattle.ep_tame_copies.proofs.EmptyMoves.{empty_moved_good}

-- ---- lists of places

alike_itself : {N : Type 0} (D : Ops N) (qs : List Spot) → write_alike D qs qs ≡ true
alike_itself D [] = refl
alike_itself D (q ∷ []) = same_spot q q refl
alike_itself D (q ∷ r ∷ qs) = refl

not_one : (a b : Bool) → a ≡ false → (a && b) ≡ false
not_one true b e = absurd cc
not_one false b e = refl

-- what a struct assignment needs of the places of each size: a move from one place to one, pieces, and no bytes
module _ {N : Type 0} (D : Ops N) (p : Program) (Good : Known N → Type 0) (k : Known N) (ls : List Leaf) (n : ℕ)
    (to from : Places) (same_to : to.left ≡ to.right) (same_from : from.left ≡ from.right)
    (keeps : Good k)
    (moves : (q r : Spot) → to.left ≡ (q ∷ []) → from.left ≡ (r ∷ [])
    → Good (replaced D (place_at cell_side.Shared q n) (map (moved_to r q) (taken_by_both D k r n)) k))
    (goes : is_one_to_one D to from left ≡ false → is_one_to_one D to from right ≡ false
    → Good (copy_pieces D (Some ls) true to from n k)) where
  moved_by : (q r : Spot) → to.left ≡ (q ∷ []) → from.left ≡ (r ∷ []) → Good (moved_both D true q r n k)
  moved_by q r e f = by_same (is_same_spot q r)
    where
      by_same : (b : Bool)
          → Good (cond b k (replaced D (place_at cell_side.Shared q n) (map (moved_to r q) (taken_by_both D k r n)) k))
      by_same true = keeps
      by_same false = moves q r e f

  pieces_by : (is_one to.left && is_one from.left) ≡ false
      → Good (copy_pieces D (Some ls)
      (not (is_one_to_one D to from left || is_one_to_one D to from right) && write_alike D to.left to.right) to from n k)
  pieces_by e =
      let f : is_one_to_one D to from right ≡ false =
      ap (λ qs. is_one qs && is_one from.right) (sym same_to) ∙ ap (λ ps. is_one to.left && is_one ps) (sym same_from)
      ∙ e in
      subst (λ b. Good (copy_pieces D (Some ls) b to from n k))
      (sym (ap (λ b. not (b || is_one_to_one D to from right) && write_alike D to.left to.right) e
      ∙ ap (λ b. not (false || b) && write_alike D to.left to.right) f
      ∙ ap (λ qs. write_alike D to.left qs) (sym same_to) ∙ alike_itself D to.left)) (goes e f)

  by_lists : (qs rs ps os : List Spot) → to.left ≡ qs → qs ≡ rs → from.left ≡ ps → ps ≡ os
      → Good (copy_moved D (Some ls) to from n qs rs ps os k)
  by_lists [] rs ps os a e b f =
      pieces_by (ap (λ qs. is_one qs && is_one from.left) a)
  by_lists (q ∷ s ∷ qs) rs ps os a e b f = pieces_by (ap (λ qs. is_one qs && is_one from.left) a)
  by_lists (q ∷ []) [] ps os a e b f = absurd cc
  by_lists (q ∷ []) (r ∷ s ∷ rs) ps os a e b f = absurd cc
  by_lists (q ∷ []) (r ∷ []) [] os a e b f =
      pieces_by (ap (λ ps. is_one to.left && is_one ps) b ∙ and-false (is_one to.left))
  by_lists (q ∷ []) (r ∷ []) (x ∷ y ∷ ps) os a e b f =
      pieces_by (ap (λ ps. is_one to.left && is_one ps) b ∙ and-false (is_one to.left))
  by_lists (q ∷ []) (r ∷ []) (x ∷ []) [] a e b f = absurd cc
  by_lists (q ∷ []) (r ∷ []) (x ∷ []) (y ∷ z ∷ os) a e b f = absurd cc
  by_lists (q ∷ []) (r ∷ []) (x ∷ []) (y ∷ []) a e b f =
      let g : q ≡ r = cc in
      let i : x ≡ y = cc in
      subst (λ t. Good (cond t (moved_both D true q x n k) (copy_sides D (Some ls) to from n k)))
      (sym (and_from (is_same_spot q r) (is_same_spot x y) (same_spot q r g) (same_spot x y i))) (moved_by q x a b)

  pub both_good : (joint : Bool) → joint ≡ true → Good (copy_both D joint (Some ls) to from n k)
  both_good true e = by_lists to.left to.right from.left from.right refl same_to refl same_from
  both_good false e = absurd cc

module _ {N : Type 0} (D : Ops N) (law : Lawful D) (p : Program) (built : IsBuilt p.types)
    (tame : are_tame_types p.types ≡ true) (fit : blocks_fit p.types p.blocks ≡ true) (places : PlaceLaws D p)
    (ord : Side → Order) (twins : TwinLaws D p ord) (seen live res : List ℕ) (among : AreAmong seen live)
    (h k : Known N) (g : IsGood D p ord h live res k) (a b : Place) (ty : ℕ)
    (typed_to : place_has p.types p.blocks seen a ty ≡ true) (own_to : is_tame_place p.types a ≡ true)
    (typed_from : place_has p.types p.blocks seen b ty ≡ true) (own_from : is_tame_place p.types b ≡ true) where
  abbrev Good : Known N → Type 0
  Good = IsGood D p ord h live res

  abbrev reach : Place → Given N
  reach a = place D (sizes_of p.blocks) a pair_mode.Both k

  abbrev to : PairValue N
  to = (reach a).pair

  abbrev from : PairValue N
  from = (reach b).pair

  abbrev ls : List Leaf
  ls = leaves p.types ty

  abbrev at : ℕ → PairValue N → Places
  at n x = places_of D (sizes D p) n 1 x

  twin_to : IsTwin (reach a)
  twin_to = (twins.places seen live res among a ty typed_to own_to h k g).twin

  twin_from : IsTwin (reach b)
  twin_from = (twins.places seen live res among b ty typed_from own_from h k g).twin

  lies_to : ValueHas (LiesAt D p live a ty) to.left.value
  lies_to = (twins.places seen live res among a ty typed_to own_to h k g).lies ty typed_to

  lies_from : ValueHas (LiesAt D p live b ty) from.left.value
  lies_from = (twins.places seen live res among b ty typed_from own_from h k g).lies ty typed_from

  goes_on : (t : Bool) (j : Known N) → Good j → IfReached Good (if_goes_on t j)
  goes_on true j i = i
  goes_on false j i = tt

  same_spots : (n : ℕ) (x : PairValue N) → x.left ≡ x.right → (at n x).left ≡ (at n x).right
  same_spots n x e =
      ap (λ (s : SideValue N). spots D (sizes D p) n 1 (targets_of D (sizes D p) (pointer D s))) e

  -- ---- with bytes, and without

  one_object : (n : ℕ) (q : Spot) (qs : List Spot) → qs ≡ (q ∷ []) → EachSpot (HasObject p live ty) qs
      → HasObject p live ty q
  one_object n q qs e o = (subst (EachSpot (HasObject p live ty)) e o).0

  one_edge : (q : Spot) (qs : List Spot) → qs ≡ (q ∷ []) → EachSpot (IsUncut p) qs → IsUncut p q
  one_edge q qs e o = (subst (EachSpot (IsUncut p)) e o).0

  bytes_good : (n : ℕ) → size p.types ty ≡ Some n → (joint : Bool) → joint ≡ true
      → Good (copy_both D joint (Some ls) (at n to) (at n from) n k)
  bytes_good zero sz joint e =
      let el = edges_left D law p built tame fit places live a ty to twin_to.alike lies_to sz in
      let er = edges_right D law p built tame fit places live a ty to twin_to.alike lies_to sz in
      let fl = edges_left D law p built tame fit places live b ty from twin_from.alike lies_from sz in
      both_good D p Good k ls 0 (at 0 to) (at 0 from) (same_spots 0 to twin_to.alike) (same_spots 0 from twin_from.alike)
      g
      (λ q r x y. empty_moved_good D law p places ord h live res k g q r (one_edge q (at 0 to).left x el)
      (one_edge r (at 0 from).left y fl))
      (λ x y. sides_good x y el er) joint e
    where
      sides_good : is_one_to_one D (at 0 to) (at 0 from) left ≡ false
          → is_one_to_one D (at 0 to) (at 0 from) right ≡ false → EachSpot (IsUncut p) (at 0 to).left
          → EachSpot (IsUncut p) (at 0 to).right → Good (copy_sides D (Some ls) (at 0 to) (at 0 from) 0 k)
      sides_good x y el er =
          let one = blurs_good D law p places ord h live res cell_side.Left (at 0 to).left el k g in
          let j = blurred_each D cell_side.Left 0 (at 0 to).left k in
          let two = blurs_good D law p places ord h live res cell_side.Right (at 0 to).right er j one in
          subst (λ t. Good (copy_alone D right (Some ls) (at 0 to) (at 0 from) 0
          (cond t (move_one D left true (at 0 to).left (at 0 from).left 0 k)
          (copy_many D left (Some ls) (at 0 to) (at 0 from) 0 k)))) (sym x)
          (subst (λ t. Good (cond t (move_one D right true (at 0 to).right (at 0 from).right 0 j)
          (copy_many D right (Some ls) (at 0 to) (at 0 from) 0 j))) (sym y) two)
  bytes_good (suc m) sz joint e =
      let some : 0 < suc m = omega arith in
      let n : ℕ = suc m in
      let tl = objects_left D law p built tame fit places live a ty to twin_to.alike lies_to (suc m) sz some in
      let tr = objects_right D law p built tame fit places live a ty to twin_to.alike lies_to (suc m) sz some in
      let fl = objects_left D law p built tame fit places live b ty from twin_from.alike lies_from (suc m) sz some in
      let fr = objects_right D law p built tame fit places live b ty from twin_from.alike lies_from (suc m) sz some in
      both_good D p Good k ls (suc m) (at (suc m) to) (at (suc m) from) (same_spots (suc m) to twin_to.alike)
      (same_spots (suc m) from twin_from.alike) g
      (λ q r x y. moved_good D law p built tame fit places ord h live res k g ty (suc m) sz q r
      (one_object (suc m) q (at (suc m) to).left x tl) (one_object (suc m) r (at (suc m) from).left y fl))
      (λ x y. pieces_good D law p built tame fit places ord h live res k g ty (suc m) sz (at (suc m) to)
      (at (suc m) from) tl tr fl fr 0 (suc m) (omega arith) k g) joint e

  copy_good : (n : ℕ) → size p.types ty ≡ Some n
      → IfReached Good (copy D (sizes D p) pair_mode.Both n (Some ls) to from k).next
  copy_good n sz =
      goes_on (can_copy D pair_mode.Both true n (at n to) (at n from))
      (copied D pair_mode.Both (is_same D to && is_same D from) (Some ls) (at n to) (at n from) n k)
      (bytes_good n sz (is_same D to && is_same D from)
      (and_from (is_same D to) (is_same D from) (same_of D (reach a) twin_to) (same_of D (reach b) twin_from)))

  pub copy_next : is_some (size p.types ty) ≡ true → (r : Option (ℕ × Scalar))
      → IfReached Good (simple_step D p pair_mode.Both r (copy_aggregate a b ty) k).next
  copy_next there r =
      let n = sized (size p.types ty) there in
      subst (λ m. IfReached Good (copy D (sizes D p) pair_mode.Both m (Some ls) to from k).next)
      (sym (ap (λ o. unwrap_or o 0) n.1)) (copy_good n.0 n.1)

pub copies_keep_good : {N : Type 0} (D : Ops N) → Lawful D → KeepsOffsets D → ProductsKeepStrides D → (p : Program)
    → is_well_formed p ≡ true → IsBuilt p.types → are_tame_types p.types ≡ true → (ord : Side → Order)
    → CopiesKeepGood D p ord
copies_keep_good D law keeps products p formed built tame ord here f at a b ty seen typed own h s live res among g =
    let four = and_parts _ (is_main (slice_get p.functions p.main)) formed in
    let most = and_parts _ _ four.0 in
    let two = and_parts _ _ most.0 in
    let fit = (and_parts (blocks_fit p.types p.blocks) _ two.0).0 in
    let places = place_laws_of D law keeps products p built tame fit in
    let states = state_laws_of D law p places ord fit in
    let twins = twin_laws_of D p ord built tame fit keeps places (accesses_of D p places) states in
    let q = three (place_has p.types p.blocks seen a ty) (place_has p.types p.blocks seen b ty)
    (is_some (size p.types ty)) typed in
    let r = and_parts (is_tame_place p.types a) (is_tame_place p.types b) own in
    record {
      faults =
          faults_of_simple false p.types (copy_aggregate a b ty) own refl _
          ((plain_honest D law p ord formed built).simple Both here f at (copy_aggregate a b ty) seen typed s);
      next =
          subst (λ t. IfReached (IsGood D p ord h live res)
          (when_known t (simple_step D p pair_mode.Both f.result (copy_aggregate a b ty) s)).next)
          (sym (told_pass D law p ord s g.state))
          (copy_next D law p built tame fit places ord twins seen live res among h s g a b ty q.0 r.0 q.1 r.1 q.2 f.result);
    }
