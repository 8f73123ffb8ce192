-- Bytes are copied from one place of each running side to one: a state stands for one pair of memories still, those in
-- which each machine has copied its own.
use Rattle.std.proofs.Common.{◌≡◌, ℕ, ◌+◌, ◌^◌, ◌≤◌, Bool, true, false, ◌&&◌, if◌then◌else◌, List, [], ◌∷◌, None, refl}
use Rattle.std.proofs.Common.{sym, ap, ◌∙◌, subst}
use Rattle.ep_cell_ranges.proofs.Basics.{same_spot}
use Rattle.ep_int.specs.declared.types.Model.{Model}
use Rattle.ep_int.specs.Memory.{Memory, copied as copied_bytes}
use Rattle.ep_domain.specs.Domain.{Ops, Lawful}
use Rattle.ep_cells.specs.States.{Known}
use Rattle.ep_cells.specs.Meaning.{Memories}
use Rattle.ep_cell_ranges.specs.Spots.{Spot, is_same_spot}
use Rattle.ep_core.specs.Runs.{Side, left, right}
use Rattle.ep_equalities.specs.declared.pair.Mode.{Mode}
use Rattle.ep_equalities.specs.declared.pair.Mode.TheVariants.{Both, Left, Right}
use Rattle.ep_evaluation.specs.Given.{runs}
use Rattle.ep_transfers.specs.Places.{Places, at_side, is_one}
use Rattle.ep_transfers.specs.Copies.{moved_alone, moved_both, move_one, copy_many, copy_alone, copy_sides, copy_moved}
use Rattle.ep_transfers.specs.Copies.{copy_both, copied}
use Rattle.ep_singles.specs.Cells.{IsOne}
use Rattle.ep_single_moves.specs.Laws.{IsCopiedAt}
use Rattle.ep_single_moves.proofs.Moves.{moves_keep_one}

-- the memories after the running machines have copied
abbrev pub copied_on : Model → (to from : Side → Spot) → (n : ℕ) → Mode → Memories → Memories
copied_on d to from n Both m = record {
  left = copied_bytes d m.left (to left).0 (to left).1 (from left).0 (from left).1 n;
  right = copied_bytes d m.right (to right).0 (to right).1 (from right).0 (from right).1 n;
}
copied_on d to from n Left m = record {
  left = copied_bytes d m.left (to left).0 (to left).1 (from left).0 (from left).1 n;
  right = m.right;
}
copied_on d to from n Right m = record {
  left = m.left;
  right = copied_bytes d m.right (to right).0 (to right).1 (from right).0 (from right).1 n;
}

copies : (d : Model) (q p : Spot) (n : ℕ) (m : Memory)
    → IsCopiedAt d false q p n true m (copied_bytes d m q.0 q.1 p.0 p.1 n)
copies d q p n m = record { copied = λ e b j. refl; stays = λ e. absurd (let z : true ≡ false = e in cc) }

stays : (d : Model) (q p : Spot) (n : ℕ) (m : Memory) → IsCopiedAt d false q p n false m m
stays d q p n m = record { copied = λ e. absurd (let z : false ≡ true = e in cc); stays = λ e b j. refl }

module _ {N : Type 0} (D : Ops N) (law : Lawful D) (n : ℕ) where
  -- from one state to one that stands for these memories alone
  pub record IsOneAfter (k j : Known N) (o : Memories) : Type 0 where
    pub one : IsOne D j o
    pub orders : j.orders ≡ k.orders
    pub model : j.model ≡ k.model

  -- ---- one side

  -- one place to one
  moves_one : (s : Side) (to from : Places) (q p : Spot) → at_side to s ≡ q ∷ [] → at_side from s ≡ p ∷ []
      → (k : Known N) → copy_alone D s None to from n k ≡ moved_alone D s false q p n k
  moves_one s to from q p e f k =
      ap (λ (l : List Spot). if is_one l && is_one (at_side from s) then move_one D s false l (at_side from s) n k
      else copy_many D s None to from n k) e
      ∙ ap (λ (l : List Spot). if is_one (q ∷ []) && is_one l then move_one D s false (q ∷ []) l n k
      else copy_many D s None to from n k) f

  left_copied : (to from : Places) (q p : Spot) → to.left ≡ q ∷ [] → from.left ≡ p ∷ [] → (k : Known N) (m : Memories)
      → IsOne D k m → q.1 + n ≤ 2 ^ 32
      → IsOneAfter k (copy_alone D left None to from n k)
      (record { left = copied_bytes k.model m.left q.0 q.1 p.0 p.1 n; right = m.right })
  left_copied to from q p e f k m one room =
      let o : Memories = record { left = copied_bytes k.model m.left q.0 q.1 p.0 p.1 n; right = m.right } in
      subst (λ j. IsOneAfter k j o) (sym (moves_one left to from q p e f k))
      (record {
        one = (moves_keep_one D law k m o one false q p n room).on_left (copies k.model q p n m.left)
            (stays k.model q p n m.right);
        orders = refl;
        model = refl;
      })

  right_copied : (to from : Places) (q p : Spot) → to.right ≡ q ∷ [] → from.right ≡ p ∷ [] → (k : Known N)
      (m : Memories) → IsOne D k m → q.1 + n ≤ 2 ^ 32
      → IsOneAfter k (copy_alone D right None to from n k)
      (record { left = m.left; right = copied_bytes k.model m.right q.0 q.1 p.0 p.1 n })
  right_copied to from q p e f k m one room =
      let o : Memories = record { left = m.left; right = copied_bytes k.model m.right q.0 q.1 p.0 p.1 n } in
      subst (λ j. IsOneAfter k j o) (sym (moves_one right to from q p e f k))
      (record {
        one = (moves_keep_one D law k m o one false q p n room).on_right (stays k.model q p n m.left)
            (copies k.model q p n m.right);
        orders = refl;
        model = refl;
      })

  -- ---- both sides

  module _ (to from : Places) (at fr : Side → Spot) (to_left : to.left ≡ at left ∷ [])
      (to_right : to.right ≡ at right ∷ [])
      (from_left : from.left ≡ fr left ∷ []) (from_right : from.right ≡ fr right ∷ []) (k : Known N) (m : Memories)
      (one : IsOne D k m) (left_room : (at left).1 + n ≤ 2 ^ 32) (right_room : (at right).1 + n ≤ 2 ^ 32) where
    abbrev o : Memories
    o = copied_on k.model at fr n Both m

    sides_copied : IsOneAfter k (copy_sides D None to from n k) o
    sides_copied =
        let h : Memories = record {
          left = copied_bytes k.model m.left (at left).0 (at left).1 (fr left).0 (fr left).1 n;
          right = m.right;
        } in
        let j = copy_alone D left None to from n k in
        let a : IsOneAfter k j h = left_copied to from (at left) (fr left) to_left from_left k m one left_room in
        let b = right_copied to from (at right) (fr right) to_right from_right j h a.one right_room in
        let c : IsOneAfter j (copy_alone D right None to from n j) o
        = subst (λ d. IsOneAfter j (copy_alone D right None to from n j) (record {
          left = h.left;
          right = copied_bytes d m.right (at right).0 (at right).1 (fr right).0 (fr right).1 n;
        })) a.model b in
        record { one = c.one; orders = c.orders ∙ a.orders; model = c.model ∙ a.model }

    moved_together : at left ≡ at right → fr left ≡ fr right
        → IsOneAfter k (moved_both D false (at left) (fr left) n k) o
    moved_together e f = record {
      one = (moves_keep_one D law k m o one false (at left) (fr left) n left_room).on_both
          (copies k.model (at left) (fr left) n m.left)
          (subst (λ (q : Spot). IsCopiedAt k.model false q (fr left) n true m.right o.right) (sym e)
          (subst (λ (p : Spot). IsCopiedAt k.model false (at right) p n true m.right o.right) (sym f)
          (copies k.model (at right) (fr right) n m.right)));
      orders = refl;
      model = refl;
    }

    -- where both are known to be the same
    abbrev moved_by : List Spot → List Spot → List Spot → List Spot → Known N
    moved_by l r u v = copy_moved D None to from n l r u v k

    joint_is : at left ≡ at right → fr left ≡ fr right
        → copy_moved D None to from n to.left to.right from.left from.right k
        ≡ moved_both D false (at left) (fr left) n k
    joint_is e f =
        ap (λ (l : List Spot). moved_by l to.right from.left from.right) to_left
        ∙ ap (λ (l : List Spot). moved_by (at left ∷ []) l from.left from.right) to_right
        ∙ ap (λ (l : List Spot). moved_by (at left ∷ []) (at right ∷ []) l from.right) from_left
        ∙ ap (λ (l : List Spot). moved_by (at left ∷ []) (at right ∷ []) (fr left ∷ []) l) from_right
        ∙ ap (λ t. if t && is_same_spot (fr left) (fr right) then moved_both D false (at left) (fr left) n k
        else copy_sides D None to from n k) (same_spot (at left) (at right) e)
        ∙ ap (λ t. if t then moved_both D false (at left) (fr left) n k else copy_sides D None to from n k)
        (same_spot (fr left) (fr right) f)

    both_copied : (joint : Bool) → (joint ≡ true → (at left ≡ at right) × (fr left ≡ fr right))
        → IsOneAfter k (copy_both D joint None to from n k) o
    both_copied true same =
        let s = same refl in
        subst (λ j. IsOneAfter k j o) (sym (joint_is s.0 s.1)) (moved_together s.0 s.1)
    both_copied false same = sides_copied

  pub copied_one : (mode : Mode) (joint : Bool) (to from : Places) (at fr : Side → Spot)
      → ((s : Side) → runs mode s ≡ true → at_side to s ≡ at s ∷ [])
      → ((s : Side) → runs mode s ≡ true → at_side from s ≡ fr s ∷ []) → (k : Known N) (m : Memories) → IsOne D k m
      → ((s : Side) → runs mode s ≡ true → (at s).1 + n ≤ 2 ^ 32)
      → (mode ≡ Both → joint ≡ true → (at left ≡ at right) × (fr left ≡ fr right))
      → IsOneAfter k (copied D mode joint None to from n k) (copied_on k.model at fr n mode m)
  copied_one Both joint to from at fr e f k m one room same =
      both_copied to from at fr (e left refl) (e right refl) (f left refl) (f right refl) k m one (room left refl)
      (room right refl) joint (same refl)
  copied_one Left joint to from at fr e f k m one room same =
      left_copied to from (at left) (fr left) (e left refl) (f left refl) k m one (room left refl)
  copied_one Right joint to from at fr e f k m one room same =
      right_copied to from (at right) (fr right) (e right refl) (f right refl) k m one (room right refl)
