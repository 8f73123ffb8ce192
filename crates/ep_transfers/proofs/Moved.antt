-- A copy in each mode: where one place of a side goes to one, its cells are moved; of other sides it is a premise what
-- becomes of them.
use Rattle.std.proofs.Common.{◌≡◌, ℕ, ◌+◌, ◌^◌, ◌≤◌, Bool, true, false, ◌&&◌, ◌||◌, not, if◌then◌else◌, List, [], ◌∷◌}
use Rattle.ep_cell_ranges.proofs.Basics.{is_same_spot-equal}
use Rattle.std.proofs.Common.{Some, None, is_some, refl, sym, ◌∙◌, subst, arith}
use Rattle.std.proofs.lemmas.Bool.{and_parts}
use Rattle.ep_int.specs.declared.types.Model.{Model}
use Rattle.ep_int.specs.Memory.{Memory}
use Rattle.ep_domain.specs.Domain.{Ops}
use Rattle.ep_cells.specs.Kill.{AreLeavesIn}
use Rattle.ep_cells.specs.States.{Known}
use Rattle.ep_cells.specs.Meaning.{Memories}
use Rattle.ep_core.specs.Runs.{Side, left, right}
use Rattle.ep_equalities.specs.declared.pair.Mode.{Mode}
use Rattle.ep_equalities.specs.declared.pair.Mode.TheVariants.{Both, Left, Right}
use Rattle.ep_cell_ranges.specs.Spots.{Spot, is_same_spot}
use Rattle.ep_cell_ranges.specs.Laws.{ReplaceLaws, TakenLaws, MoveLaws, BlurEachLaws}
use Rattle.ep_transfers.specs.Places.{Places, at_side, is_one}
use Rattle.ep_transfers.specs.Copies.{Leaves, moved_both, is_one_to_one, move_one, copy_many, copy_alone, copy_sides}
use Rattle.ep_transfers.specs.Copies.{write_alike, copy_pieces, copy_moved, copy_both, copied}
use Rattle.ep_transfers.proofs.Changes.{IsOne, here, there, IsKnown}
use Rattle.ep_transfers.proofs.Puts.{memory_on, IsStill}
use Rattle.ep_transfers.proofs.Rooms.{EndBy}
use Rattle.ep_transfers.proofs.Copied.{AreBelow, IsCopy, IsNext, then_next, moved_next, both_moved, blurred_next}

pub only_one : (q r : Spot) → IsOne q (r ∷ []) → q ≡ r
only_one q _ (here _) = refl
only_one q r (there _ _ none) = elim none [ ]

below_both : (a n : ℕ) → a + n ≤ 65536 → a + n ≤ 2 ^ 32
below_both a n h = omega (arith, h)

pub room_of : (n : ℕ) (q : Spot) (qs : List Spot) → IsOne q qs → EndBy 65536 n qs → q.1 + n ≤ 2 ^ 32
room_of n q _ (here qs) h = below_both q.1 n h.0
room_of n q _ (there r qs one) h = room_of n q qs one h.1

-- the leaves of an aggregate lie in its place
abbrev pub LeavesFit : Leaves → (n : ℕ) → Model → Type 0
LeavesFit None n d = Unit {0}
LeavesFit (Some ls) n d = AreLeavesIn d 0 n ls

-- A machine copies from one of these places to one of those, each of which ends in its block.
pub record MachineCopies (ls : Leaves) (n : ℕ) (d : Model) (qs ps : List Spot) (m o : Memory) : Type 0 where
  pub to : Spot
  pub from : Spot
  pub among_to : IsOne to qs
  pub among_from : IsOne from ps
  pub rooms : EndBy 65536 n qs
  pub from_rooms : EndBy 65536 n ps
  pub below : AreBelow m
  pub copy : IsCopy d (is_some ls) to from n m o
  pub leaves : LeavesFit ls n d

-- the laws of cells that copies rest on
pub record CopyLaws {N : Type 0} (D : Ops N) : Type 0 where
  pub replaces : ReplaceLaws D
  pub takes : TakenLaws D
  pub moves : MoveLaws D
  pub blurs : BlurEachLaws D

module _ {N : Type 0} (D : Ops N) (rules : CopyLaws D) where
  -- one place goes to one
  one_next : (s : Side) (agg : Bool) (qs ps : List Spot) (q p : Spot) → IsOne q qs → IsOne p ps → is_one qs ≡ true
      → is_one ps ≡ true → (n : ℕ) (k : Known N) (m o : Memories) → IsKnown D k m → q.1 + n ≤ 2 ^ 32
      → IsCopy k.model agg q p n (memory_on s m) (memory_on s o) → IsStill s m o
      → IsNext D k (move_one D s agg qs ps n k) m o
  one_next s agg _ _ q p (here []) (here []) a b n k m o i room h r =
      moved_next D rules.replaces rules.takes rules.moves s agg q p n k m o i room h r
  one_next s agg _ _ q p (here []) (here (x ∷ xs)) a b n k m o i room h r =
      absurd (let z : false ≡ true = b in cc)
  one_next s agg _ _ q p (here []) (there x [] none) a b n k m o i room h r = elim none [ ]
  one_next s agg _ _ q p (here []) (there x (y ∷ xs) none) a b n k m o i room h r =
      absurd (let z : false ≡ true = b in cc)
  one_next s agg _ ps q p (here (x ∷ xs)) one a b n k m o i room h r = absurd (let z : false ≡ true = a in cc)
  one_next s agg _ ps q p (there x [] none) one a b n k m o i room h r = elim none [ ]
  one_next s agg _ ps q p (there x (y ∷ xs) none) one a b n k m o i room h r =
      absurd (let z : false ≡ true = a in cc)

  module _ (ls : Leaves) (n : ℕ) where
    abbrev pub Copying : Side → (to from : Places) → Known N → Memories → Memories → Type 0
    Copying s to from k m o =
        MachineCopies ls n k.model (at_side to s) (at_side from s) (memory_on s m) (memory_on s o)

    -- what becomes of a side that isn't moved
    abbrev pub ManyNext : Type 0
    ManyNext = (s : Side) (to from : Places) (k : Known N) (m o : Memories) → IsKnown D k m → Copying s to from k m o
        → IsStill s m o → IsNext D k (copy_many D s ls to from n k) m o

    -- and of both sides where they write alike
    abbrev pub TogetherNext : Type 0
    TogetherNext = (to from : Places) (k : Known N) (m o : Memories) → IsKnown D k m
        → (a : Copying left to from k m o) (b : Copying right to from k m o) → a.to ≡ b.to → a.from ≡ b.from
        → write_alike D to.left to.right ≡ true → IsNext D k (copy_pieces D ls true to from n k) m o

    module _ (many : ManyNext) where
      pub alone_next : (s : Side) (to from : Places) (k : Known N) (m o : Memories) → IsKnown D k m
          → Copying s to from k m o → IsStill s m o → IsNext D k (copy_alone D s ls to from n k) m o
      alone_next s to from k m o i c r = by_test (is_one_to_one D to from s) refl
        where
          by_test : (t : Bool) → is_one_to_one D to from s ≡ t
              → IsNext D k
              (if t then move_one D s (is_some ls) (at_side to s)
              (at_side from s) n k else copy_many D s ls to from n k)
              m o
          by_test true e =
              let h = and_parts (is_one (at_side to s)) (is_one (at_side from s)) e in
              one_next s (is_some ls) (at_side to s) (at_side from s) c.to c.from c.among_to c.among_from h.0 h.1 n k m
              o i (room_of n c.to (at_side to s) c.among_to c.rooms) c.copy r
          by_test false e = many s to from k m o i c r

      pub sides_next : (to from : Places) (k : Known N) (m o : Memories) → IsKnown D k m → Copying left to from k m o
          → Copying right to from k m o → IsNext D k (copy_sides D ls to from n k) m o
      sides_next to from k m o i c e =
          let h : Memories = record { left = o.left; right = m.right } in
          let j = copy_alone D left ls to from n k in
          let a : IsNext D k j m h = alone_next left to from k m h i c (λ b q. refl) in
          then_next D k j (copy_alone D right ls to from n j) m h o a
          (alone_next right to from j h o a.after
          (subst (λ d. MachineCopies ls n d to.right from.right m.right o.right) (sym a.model) e)
          (λ b q. refl))

      module _ (together : TogetherNext) where
        pieces_next : (t : Bool) (to from : Places) (k : Known N) (m o : Memories) → IsKnown D k m
            → (a : Copying left to from k m o) (b : Copying right to from k m o) → a.to ≡ b.to → a.from ≡ b.from
            → (t ≡ true → write_alike D to.left to.right ≡ true) → IsNext D k (copy_pieces D ls t to from n k) m o
        pieces_next true to from k m o i a b e f w = together to from k m o i a b e f (w refl)
        pieces_next false to from k m o i a b e f w = by_leaves ls (sides_next to from k m o i a b)
          where
            by_leaves : (ls : Leaves) → IsNext D k (copy_sides D ls to from n k) m o
                → IsNext D k (copy_pieces D ls false to from n k) m o
            by_leaves (Some l) h = h
            by_leaves None h = h

        moved_by : (q r p v : Spot) (to from : Places) (k : Known N) (m o : Memories) → IsKnown D k m
            → MachineCopies ls n k.model (q ∷ []) (p ∷ []) m.left o.left
            → MachineCopies ls n k.model (r ∷ []) (v ∷ []) m.right o.right
            → IsNext D k (copy_sides D ls to from n k) m o
            → (t : Bool) → (is_same_spot q r && is_same_spot p v) ≡ t
            → IsNext D k (if t then moved_both D (is_some ls) q p n k else copy_sides D ls to from n k) m o
        moved_by q r p v to from k m o i a b h true e =
            let t = and_parts (is_same_spot q r) (is_same_spot p v) e in
            let qr = is_same_spot-equal q r t.0 in
            let pv = is_same_spot-equal p v t.1 in
            let l : IsCopy k.model (is_some ls) q p n m.left o.left =
            subst (λ x. IsCopy k.model (is_some ls) x p n m.left o.left) (only_one a.to q a.among_to)
            (subst (λ x. IsCopy k.model (is_some ls) a.to x n m.left o.left)
            (only_one a.from p a.among_from) a.copy) in
            let u : IsCopy k.model (is_some ls) q p n m.right o.right =
            subst (λ x. IsCopy k.model (is_some ls) x p n m.right o.right) (only_one b.to r b.among_to ∙ sym qr)
            (subst (λ x. IsCopy k.model (is_some ls) b.to x n m.right o.right) (only_one b.from v b.among_from
            ∙ sym pv)
            b.copy) in
            both_moved D rules.replaces rules.takes rules.moves (is_some ls) q p n k m o i
            (below_both q.1 n a.rooms.0) l u
        moved_by q r p v to from k m o i a b h false e = h

        -- of the same addresses: one place to one, or in pieces
        same_next : (to from : Places) (k : Known N) (m o : Memories) → IsKnown D k m → (qs rs ps vs : List Spot)
            → MachineCopies ls n k.model qs ps m.left o.left
            → MachineCopies ls n k.model rs vs m.right o.right
            → IsNext D k (copy_sides D ls to from n k) m o
            → IsNext D k
            (copy_pieces D ls
            (not (is_one_to_one D to from left || is_one_to_one D to from right) && write_alike D to.left to.right) to
            from n k) m o
            → IsNext D k (copy_moved D ls to from n qs rs ps vs k) m o
        same_next to from k m o i (q ∷ []) (r ∷ []) (p ∷ []) (v ∷ []) a b h g =
            moved_by q r p v to from k m o i a b h (is_same_spot q r && is_same_spot p v) refl
        same_next to from k m o i [] rs ps vs a b h g = g
        same_next to from k m o i (q ∷ q' ∷ qs) rs ps vs a b h g = g
        same_next to from k m o i (q ∷ []) [] ps vs a b h g = g
        same_next to from k m o i (q ∷ []) (r ∷ r' ∷ rs) ps vs a b h g = g
        same_next to from k m o i (q ∷ []) (r ∷ []) [] vs a b h g = g
        same_next to from k m o i (q ∷ []) (r ∷ []) (p ∷ p' ∷ ps) vs a b h g = g
        same_next to from k m o i (q ∷ []) (r ∷ []) (p ∷ []) [] a b h g = g
        same_next to from k m o i (q ∷ []) (r ∷ []) (p ∷ []) (v ∷ v' ∷ vs) a b h g = g

        both_next : (joint : Bool) (to from : Places) (k : Known N) (m o : Memories) → IsKnown D k m
            → (a : Copying left to from k m o) (b : Copying right to from k m o)
            → (joint ≡ true → (a.to ≡ b.to) × (a.from ≡ b.from)) → IsNext D k (copy_both D joint ls to from n k) m o
        both_next true to from k m o i a b same =
            let e = same refl in
            let t = not (is_one_to_one D to from left || is_one_to_one D to from right) in
            same_next to from k m o i to.left to.right from.left from.right a b (sides_next to from k m o i a b)
            (pieces_next (t && write_alike D to.left to.right) to from k m o i a b e.0 e.1
            (λ h. (and_parts t (write_alike D to.left to.right) h).1))
        both_next false to from k m o i a b same = sides_next to from k m o i a b

        -- what the running machines do
        abbrev pub RunningCopy : Mode → (joint : Bool) → (to from : Places) → Known N → Memories → Memories → Type 0
        RunningCopy Both joint to from k m o =
            (a : Copying left to from k m o) × (b : Copying right to from k m o)
            × (joint ≡ true → (a.to ≡ b.to) × (a.from ≡ b.from))
        RunningCopy Left joint to from k m o = Copying left to from k m o × IsStill left m o
        RunningCopy Right joint to from k m o = Copying right to from k m o × IsStill right m o

        pub copied_next : (mode : Mode) (joint : Bool) (to from : Places) (k : Known N) (m o : Memories)
            → IsKnown D k m
            → RunningCopy mode joint to from k m o → IsNext D k (copied D mode joint ls to from n k) m o
        copied_next Both joint to from k m o i c = both_next joint to from k m o i c.0 c.1 c.2
        copied_next Left joint to from k m o i c = alone_next left to from k m o i c.0 c.1
        copied_next Right joint to from k m o i c = alone_next right to from k m o i c.0 c.1

  -- ---- bytes have no leaves: a side that isn't moved may have been written in some way

  pub bytes_many : (n : ℕ) → ManyNext None n
  bytes_many n s to from k m o i c r =
      blurred_next D rules.blurs s c.to c.from n (at_side to s) c.among_to k m o i c.below c.copy r

  pub bytes_together : (n : ℕ) → TogetherNext None n
  bytes_together n to from k m o i a b e f w = sides_next None n (bytes_many n) to from k m o i a b
