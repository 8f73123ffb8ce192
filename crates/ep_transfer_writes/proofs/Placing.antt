-- Places of both sides.
use Rattle.std.proofs.Common.{◌≡◌, ℕ, ◌+◌, ◌^◌, ◌≤◌, Bool, true, false, if◌then◌else◌, List, [], ◌∷◌, Option}
use Rattle.ep_cell_ranges.proofs.Basics.{is_same_spot-equal}
use Rattle.std.proofs.Common.{Some, None, refl, sym, ap, ◌∙◌, subst}
use Rattle.ep_int.specs.declared.types.Scalar.{Scalar}
use Rattle.ep_domain.specs.Domain.{Ops}
use Rattle.ep_cell_ranges.specs.Spots.{Spot, spot_before, is_same_spot, put_spot, all_spots}
use Rattle.ep_bitslice.specs.declared.cell.Side.{Side as CellSide}
use Rattle.ep_equalities.specs.declared.pair.Mode.{Mode}
use Rattle.ep_equalities.specs.declared.pair.Mode.TheVariants.{Both, Left, Right}
use Rattle.ep_transfers.specs.Places.{Places}
use Rattle.ep_transfers.specs.Writes.{Item, Underway, write_shared, write_shared_each, write_same}
use Rattle.ep_transfer_places.specs.Room.{HaveRoom}
use Rattle.ep_transfer_writes.specs.Waiting.{one_spot}
use Rattle.ep_transfer_writes.specs.Running.{RunsAt}

room_if : (n : ℕ) (t : Bool) (qs rs : List Spot) → HaveRoom n qs → HaveRoom n rs → HaveRoom n (if t then qs else rs)
room_if n true qs rs a b = a
room_if n false qs rs a b = b

put_room : (n : ℕ) (q : Spot) (rs : List Spot) → q.1 + n ≤ 2 ^ 32 → HaveRoom n rs → HaveRoom n (put_spot q rs)
put_room n q [] a h = (a, tt)
put_room n q (r ∷ rs) a h =
    room_if n (spot_before q r) (q ∷ r ∷ rs) (if is_same_spot q r then r ∷ rs else r ∷ put_spot q rs) (a, h)
    (room_if n (is_same_spot q r) (r ∷ rs) (r ∷ put_spot q rs) h (h.0, put_room n q rs a h.1))

pub all_room : (n : ℕ) (qs rs : List Spot) → HaveRoom n qs → HaveRoom n rs → HaveRoom n (all_spots qs rs)
all_room n [] rs a b = b
all_room n (q ∷ qs) rs a b = put_room n q (all_spots qs rs) a.0 (all_room n qs rs a.1 b)

-- ---- the one place of both

one_by : (n : ℕ) (q p : Spot) (t : Bool) → (if t then Some q else None) ≡ Some p → q.1 + n ≤ 2 ^ 32 → p.1 + n ≤ 2 ^ 32
one_by n q p true e h = let same : q ≡ p = (let r : Some q ≡ Some p = e in cc) in subst (λ x. x.1 + n ≤ 2 ^ 32) same h
one_by n q p false e h = absurd (let r : None ≡ Some p = e in cc)

none_one : (P : Type 0) (p : Spot) → None ≡ Some p → P
none_one P p e = absurd (let r : None ≡ Some p = e in cc)

pub one_room : (n : ℕ) (qs rs : List Spot) (p : Spot) → one_spot qs rs ≡ Some p → HaveRoom n qs → p.1 + n ≤ 2 ^ 32
one_room n [] rs p e h = none_one _ p e
one_room n (q ∷ []) [] p e h = none_one _ p e
one_room n (q ∷ []) (r ∷ []) p e h = one_by n q p (is_same_spot q r) e h.0
one_room n (q ∷ []) (r ∷ s ∷ rs) p e h = none_one _ p e
one_room n (q ∷ q' ∷ qs) rs p e h = none_one _ p e

module _ {N : Type 0} (D : Ops N) (w : Scalar) where
  abbrev pub at_places : List Spot → List Spot → Option Spot → Underway N → Underway N
  at_places qs rs None u = write_shared_each D w (all_spots qs rs) u
  at_places qs rs (Some q) u = write_shared D w q u

  by_spot : (q r : Spot) (t : Bool) (u : Underway N)
      → (if t then write_shared D w q u else write_shared_each D w (all_spots (q ∷ []) (r ∷ [])) u)
      ≡ at_places (q ∷ []) (r ∷ []) (if t then Some q else None) u
  by_spot q r true u = refl
  by_spot q r false u = refl

  pub same_is : (qs rs : List Spot) (u : Underway N) → write_same D w qs rs u ≡ at_places qs rs (one_spot qs rs) u
  same_is [] rs u = refl
  same_is (q ∷ []) [] u = refl
  same_is (q ∷ []) (r ∷ []) u = by_spot q r (is_same_spot q r) u
  same_is (q ∷ []) (r ∷ s ∷ rs) u = refl
  same_is (q ∷ p ∷ qs) rs u = refl

-- ---- of a run

both_by : (q r p : Spot) (t : Bool) → is_same_spot q r ≡ t → (if t then Some q else None) ≡ Some p
    → let qs : List Spot = q ∷ [] in let rs : List Spot = r ∷ [] in (qs ≡ p ∷ []) × (rs ≡ p ∷ [])
both_by q r p true e h =
    let i : q ≡ p = (let j : Some q ≡ Some p = h in cc) in
    (ap (λ x. x ∷ []) i, ap (λ x. x ∷ []) (sym (is_same_spot-equal q r e) ∙ i))
both_by q r p false e h = none_one _ p h

pub one_both : (qs rs : List Spot) (p : Spot) → one_spot qs rs ≡ Some p → (qs ≡ p ∷ []) × (rs ≡ p ∷ [])
one_both [] rs p e = none_one _ p e
one_both (q ∷ []) [] p e = none_one _ p e
one_both (q ∷ []) (r ∷ []) p e = both_by q r p (is_same_spot q r) refl e
one_both (q ∷ []) (r ∷ s ∷ rs) p e = none_one _ p e
one_both (q ∷ q' ∷ qs) rs p e = none_one _ p e

head_room : (n : ℕ) (qs : List Spot) (q : Spot) → qs ≡ q ∷ [] → HaveRoom n qs → q.1 + n ≤ 2 ^ 32
head_room n qs q e h = (subst (HaveRoom n) e h).0

pub run_room : {N : Type 0} (mode : Mode) (to : Bool) (ps : Places) (i : Item N) (s : CellSide) (q : Spot) (n : ℕ)
    → RunsAt mode to ps i (s, q) → HaveRoom n ps.left → HaveRoom n ps.right → q.1 + n ≤ 2 ^ 32
run_room Both to ps i s q n h l r = head_room n ps.left q h.1 l
run_room Left to ps i s q n h l r = head_room n ps.left q h.1 l
run_room Right to ps i s q n h l r = head_room n ps.right q h.1 r

-- ---- from lists where they stand

pub all_are : {qs rs us vs all xs : List Spot} → us ≡ qs → vs ≡ rs → all ≡ all_spots us vs → xs ≡ all
    → xs ≡ all_spots qs rs
all_are {qs = qs} {vs = vs} e f h i = i ∙ h ∙ ap (λ z. all_spots z vs) e ∙ ap (all_spots qs) f

pub one_are : {qs rs us vs : List Spot} {o p : Option Spot} → us ≡ qs → vs ≡ rs → o ≡ one_spot us vs → o ≡ p
    → one_spot qs rs ≡ p
one_are {qs = qs} {vs = vs} e f h i = sym (h ∙ ap (λ z. one_spot z vs) e ∙ ap (one_spot qs) f) ∙ i
