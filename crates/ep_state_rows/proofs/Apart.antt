-- Weak writes of Shared cells at places apart commute.
use Rattle.std.proofs.Common.{◌≡◌, ℕ, ◌+◌, Bool, true, false, ◌&&◌, not, nat_eq, nat_lt, cond}
use Rattle.std.proofs.Common.{List, [], ◌∷◌, ◌++◌, map, Some, None, refl, sym, ap, ◌∙◌, subst, append-nil, arith}
use Rattle.std.proofs.lemmas.Bool.{and_parts, eqb-true}
use Rattle.std.proofs.lemmas.Bool.Decides.{nat_tests}
use Rattle.ep_int.specs.declared.types.Model.{Model}
use Rattle.ep_int.specs.declared.types.Scalar.{Scalar}
use Rattle.ep_int.specs.declared.types.Scalar.TheVariants.{Int, Pointer}
use Rattle.ep_int.specs.Types.{size_of}
use Rattle.ep_bitslice.specs.declared.cell.Side.{Side}
use Rattle.ep_bitslice.specs.declared.cell.Side.TheVariants.{Left, Right, Shared}
use Rattle.ep_bitslice.specs.declared.cell.CellName.{CellName}
use Rattle.ep_domain.specs.Domain.{Ops}
use Rattle.ep_cells.specs.declared.cell.Cell.{Cell}
use Rattle.ep_cells.specs.Cells.{place_of, place_of_name, touches, share_memory, is_same_place, is_same_scalar}
use Rattle.ep_cells.specs.Cells.{each_becomes, parts_on, parts_of, IsIn}
use Rattle.ep_cells.specs.Forms.{Fate, reformed}
use Rattle.ep_cells.specs.Weaken.{blurred, with_join, weak_cell, weak_part, left_by_weak_write, first_part}
use Rattle.ep_cells.specs.Weaken.{fate_by_weak_write, weakened}
use Rattle.ep_cells.proofs.Basics.{map-append}
use Rattle.ep_cells.proofs.Both.{scalar_same}
use Rattle.ep_cells.proofs.Places.{IsMadeFrom}
use Rattle.ep_cells.proofs.WeakCells.{after_weak, after_made, shared_all}
use Rattle.ep_reads.specs.Single.{changed_cells}
use Rattle.ep_reads.proofs.Composed.{gone_on, then_fate, changed_twice, each_same}

-- ---- places

pub shares : (s q : Side) → s ≡ Shared → share_memory s q ≡ true
shares s q e = subst (λ z. share_memory z q ≡ true) (sym e) (shared_all q)

-- what touches one of two places apart isn't just at the other one
miss_by : (b a n b2 a2 n2 c r k : ℕ) → (nat_eq b b2 && (nat_lt a (a2 + n2) && nat_lt a2 (a + n))) ≡ false
    → b ≡ c → a ≡ r → n ≡ k → (nat_eq b2 c && (nat_lt a2 (r + k) && nat_lt r (a2 + n2))) ≡ false
miss_by b a n b2 a2 n2 c r k h e f g = grind (arith, nat_tests)

turn_by : (b a n b2 a2 n2 : ℕ) → (nat_eq b b2 && (nat_lt a (a2 + n2) && nat_lt a2 (a + n))) ≡ false
    → (nat_eq b2 b && (nat_lt a2 (a + n) && nat_lt a (a2 + n2))) ≡ false
turn_by b a n b2 a2 n2 h = grind (arith, nat_tests)

module _ {N : Type 0} (D : Ops N) (d : Model) where
  -- ---- one write

  abbrev pub once : Cell N → List (Cell N) → List (Cell N)
  once w cs = weakened D d w true cs

  abbrev pub left_by : Cell N → Cell N → List (Cell N)
  left_by w x = left_by_weak_write D d w true x

  abbrev pub met_by : Cell N → Cell N → Bool
  met_by w x = touches (place_of d w) (place_of d x)

  -- a cell that is met and isn't the cell itself
  abbrev pub lost : Cell N → List (Cell N)
  lost x = each_becomes (λ (y : Cell N). blurred D y y.what) (parts_of x)

  part_lost : (w y : Cell N) → w.side ≡ Shared → is_same_place w y ≡ false → weak_part D w y ≡ blurred D y y.what
  part_lost w y s e =
      ap (λ b. cond b (weak_cell D w y) (y ∷ [])) (shares w.side y.side s)
      ∙ ap (λ b. cond b (with_join D w y ∷ []) (blurred D y y.what)) e

  parts_lost : (w x : Cell N) (q : Side) → w.side ≡ Shared → is_same_place w x ≡ false
      → each_becomes (weak_part D w) (parts_on x q)
      ≡ each_becomes (λ (y : Cell N). blurred D y y.what) (parts_on x q)
  parts_lost w x Left s e = ap (λ l. l ++ []) (part_lost w x s e)
  parts_lost w x Right s e = ap (λ l. l ++ []) (part_lost w x s e)
  parts_lost w x Shared s e =
      ap (λ l. l ++ (weak_part D w (record x { side = Right }) ++ [])) (part_lost w (record x { side = Left }) s e)
      ∙ ap (λ l. blurred D (record x { side = Left }) x.what ++ (l ++ []))
      (part_lost w (record x { side = Right }) s e)

  abbrev pub told : (t s : Bool) → Cell N → Cell N → List (Cell N)
  told t s w x = cond t (cond s (with_join D w x ∷ []) (lost x)) (x ∷ [])

  left_by_tests : (w x : Cell N) (t s : Bool) → w.side ≡ Shared → is_same_place w x ≡ s
      → cond (not t) (x ∷ []) (cond s (weak_cell D w x) (each_becomes (weak_part D w) (parts_of x))) ≡ told t s w x
  left_by_tests w x false s e f = refl
  left_by_tests w x true true e f = ap (λ b. cond b (with_join D w x ∷ []) (blurred D x x.what)) f
  left_by_tests w x true false e f = parts_lost w x x.side e f

  pub left_is : (w x : Cell N) (t s : Bool) → w.side ≡ Shared → met_by w x ≡ t → is_same_place w x ≡ s
      → left_by w x ≡ told t s w x
  left_is w x t s e f g =
      ap (λ b. cond (not b) (x ∷ []) (cond (is_same_place w x) (weak_cell D w x)
      (each_becomes (weak_part D w) (parts_of x)))) f
      ∙ ap (λ b. cond (not t) (x ∷ []) (cond b (weak_cell D w x) (each_becomes (weak_part D w) (parts_of x)))) g
      ∙ left_by_tests w x t s e g

  -- ---- where the cells that are left lie

  record Stays (x y : Cell N) : Type 0 where
    pub block : y.block ≡ x.block
    pub offset : y.offset ≡ x.offset
    pub what : y.what ≡ x.what

  made_stays : (x y : Cell N) → IsMadeFrom x y → Stays x y
  made_stays x y m = record {
    block = ap (λ (c : Cell N). c.block) m.is;
    offset = ap (λ (c : Cell N). c.offset) m.is;
    what = ap (λ (c : Cell N). c.what) m.is;
  }

  left_stays : (w x y : Cell N) → w.side ≡ Shared → IsIn y (left_by w x) → Stays x y
  left_stays w x y s i = made_stays x y (after_made D d w true x y (after_weak D d w x y true (λ e. s) i))

  met_stays : (w x y : Cell N) → Stays x y → met_by w y ≡ met_by w x
  met_stays w x y h =
      ap (λ z. nat_eq w.block z && (nat_lt w.offset (y.offset + size_of d y.what) && nat_lt y.offset
      (w.offset + size_of d w.what))) h.block
      ∙ ap (λ z. nat_eq w.block x.block && (nat_lt w.offset (z + size_of d y.what) && nat_lt z
      (w.offset + size_of d w.what))) h.offset
      ∙ ap (λ z. nat_eq w.block x.block && (nat_lt w.offset (x.offset + size_of d z) && nat_lt x.offset
      (w.offset + size_of d w.what))) h.what

  same_stays : (w x y : Cell N) → Stays x y → is_same_place w y ≡ is_same_place w x
  same_stays w x y h =
      ap (λ z. nat_eq w.block z && (nat_eq w.offset y.offset && is_same_scalar w.what y.what)) h.block
      ∙ ap (λ z. nat_eq w.block x.block && (nat_eq w.offset z && is_same_scalar w.what y.what)) h.offset
      ∙ ap (λ z. nat_eq w.block x.block && (nat_eq w.offset x.offset && is_same_scalar w.what z)) h.what

  each_alone : (cs : List (Cell N)) → each_becomes (λ (y : Cell N). y ∷ []) cs ≡ cs
  each_alone [] = refl
  each_alone (c ∷ cs) = ap (λ l. c ∷ l) (each_alone cs)

  -- ---- two writes

  -- a cell that the first write doesn't meet
  unmet : (v w x : Cell N) → w.side ≡ Shared → v.side ≡ Shared → met_by v x ≡ false
      → each_becomes (left_by v) (left_by w x) ≡ left_by w x
  unmet v w x sw sv e =
      each_same (left_by v) (λ (y : Cell N). y ∷ []) (left_by w x)
      (λ y i. left_is v y false (is_same_place v y) sv (met_stays v x y (left_stays w x y sw i) ∙ e) refl)
      ∙ each_alone (left_by w x)

  unmet_first : (v w x : Cell N) → v.side ≡ Shared → met_by v x ≡ false
      → each_becomes (left_by w) (left_by v x) ≡ left_by w x
  unmet_first v w x sv e =
      ap (each_becomes (left_by w)) (left_is v x false (is_same_place v x) sv e refl)
      ∙ append-nil (left_by w x)

  -- one that both meet is at the place of neither
  abbrev AreOff : Cell N → Cell N → Type 0
  AreOff v w = touches (place_of d v) (place_of d w) ≡ false

  off_there : (v w x : Cell N) → AreOff v w → is_same_place v x ≡ true → met_by w x ≡ false
  off_there v w x h e =
      let p = and_parts (nat_eq v.block x.block) (nat_eq v.offset x.offset && is_same_scalar v.what x.what) e in
      let q = and_parts (nat_eq v.offset x.offset) (is_same_scalar v.what x.what) p.1 in
      miss_by v.block v.offset (size_of d v.what) w.block w.offset (size_of d w.what) x.block x.offset
      (size_of d x.what) h (eqb-true v.block x.block p.0) (eqb-true v.offset x.offset q.0)
      (ap (size_of d) (scalar_same v.what x.what q.1))

  both_met : (v w x : Cell N) (s t : Bool) → v.side ≡ Shared → w.side ≡ Shared → AreOff v w → AreOff w v
      → met_by v x ≡ true → met_by w x ≡ true → is_same_place v x ≡ s → is_same_place w x ≡ t
      → each_becomes (left_by w) (left_by v x) ≡ each_becomes (left_by v) (left_by w x)
  both_met v w x true t sv sw a b e f g h =
      absurd (let q : true ≡ false = sym f ∙ off_there v w x a g in cc)
  both_met v w x false true sv sw a b e f g h =
      absurd (let q : true ≡ false = sym e ∙ off_there w v x b h in cc)
  both_met v w x false false sv sw a b e f g h =
      each_same (left_by w) lost (left_by v x) (λ y i.
      let z = left_stays v x y sv i in
      left_is w y true false sw (met_stays w x y z ∙ f) (same_stays w x y z ∙ h))
      ∙ ap (each_becomes lost) (left_is v x true false sv e g ∙ sym (left_is w x true false sw f h))
      ∙ sym (each_same (left_by v) lost (left_by w x) (λ y i.
      let z = left_stays w x y sw i in
      left_is v y true false sv (met_stays v x y z ∙ e) (same_stays v x y z ∙ g)))

  by_met : (v w x : Cell N) (s t : Bool) → v.side ≡ Shared → w.side ≡ Shared → AreOff v w → AreOff w v
      → met_by v x ≡ s → met_by w x ≡ t
      → each_becomes (left_by w) (left_by v x) ≡ each_becomes (left_by v) (left_by w x)
  by_met v w x false t sv sw a b e f = unmet_first v w x sv e ∙ sym (unmet v w x sw sv e)
  by_met v w x true false sv sw a b e f = unmet w v x sv sw f ∙ sym (unmet_first w v x sw f)
  by_met v w x true true sv sw a b e f =
      both_met v w x (is_same_place v x) (is_same_place w x) sv sw a b e f refl refl

  -- ---- forms

  blur_formed : (f : Fate) (y : Cell N) (w : Scalar) → blurred D (reformed f y) w ≡ map (reformed f) (blurred D y w)
  blur_formed f y (Int t) = refl
  blur_formed f y Pointer = refl

  abbrev lost_on : Cell N → Side → List (Cell N)
  lost_on x q = each_becomes (λ (y : Cell N). blurred D y y.what) (parts_on x q)

  parts_formed : (f : Fate) (x : Cell N) (q : Side) → lost_on (reformed f x) q ≡ map (reformed f) (lost_on x q)
  parts_formed f x Left =
      ap (λ l. l ++ []) (blur_formed f x x.what) ∙ sym (map-append (reformed f) (blurred D x x.what) [])
  parts_formed f x Right =
      ap (λ l. l ++ []) (blur_formed f x x.what) ∙ sym (map-append (reformed f) (blurred D x x.what) [])
  parts_formed f x Shared =
      let l : Cell N = record x { side = Left } in
      let r : Cell N = record x { side = Right } in
      ap (λ z. z ++ (blurred D (reformed f r) x.what ++ [])) (blur_formed f l x.what)
      ∙ ap (λ z. map (reformed f) (blurred D l x.what) ++ (z ++ [])) (blur_formed f r x.what)
      ∙ ap (λ z. map (reformed f) (blurred D l x.what) ++ z)
      (sym (map-append (reformed f) (blurred D r x.what) []))
      ∙ sym (map-append (reformed f) (blurred D l x.what) (blurred D r x.what ++ []))

  told_formed : (f : Fate) (t s : Bool) (w x : Cell N)
      → told t s w (reformed f x) ≡ map (reformed f) (told t s w x)
  told_formed f false s w x = refl
  told_formed f true true w x = refl
  told_formed f true false w x = parts_formed f x x.side

  left_formed : (f : Fate) (w x : Cell N) → w.side ≡ Shared
      → left_by w (reformed f x) ≡ map (reformed f) (left_by w x)
  left_formed f w x s =
      left_is w (reformed f x) (met_by w x) (is_same_place w x) s refl refl
      ∙ told_formed f (met_by w x) (is_same_place w x) w x
      ∙ sym (ap (map (reformed f)) (left_is w x (met_by w x) (is_same_place w x) s refl refl))

  -- ---- fates

  abbrev fate_of : Cell N → Fate
  fate_of w = fate_by_weak_write (place_of d w)

  abbrev names : Cell N → CellName → Bool
  names w m = touches (place_of d w) (place_of_name m)

  fate_is : (w : Cell N) (m : CellName) → w.side ≡ Shared → fate_of w m ≡ cond (names w m) None (Some m)
  fate_is w m s =
      ap (λ t. cond (names w m) (cond t None (Some (record m { side = first_part m.side }))) (Some m))
      (shares w.side (first_part m.side) s)

  two_fates : (v w : Cell N) (m : CellName) → v.side ≡ Shared → w.side ≡ Shared
      → then_fate (fate_of v) (fate_of w) m ≡ cond (names v m) None (cond (names w m) None (Some m))
  two_fates v w m sv sw = ap (gone_on (fate_of w)) (fate_is v m sv) ∙ by (names v m)
    where
      by : (t : Bool) → gone_on (fate_of w) (cond t None (Some m)) ≡ cond t None (cond (names w m) None (Some m))
      by true = refl
      by false = fate_is w m sw

  none_twice : (s t : Bool) (m : CellName) → cond s None (cond t None (Some m)) ≡ cond t None (cond s None (Some m))
  none_twice true true m = refl
  none_twice true false m = refl
  none_twice false true m = refl
  none_twice false false m = refl

  same_fate : (v w : Cell N) (m : CellName) → v.side ≡ Shared → w.side ≡ Shared
      → then_fate (fate_of v) (fate_of w) m ≡ then_fate (fate_of w) (fate_of v) m
  same_fate v w m sv sw =
      two_fates v w m sv sw ∙ none_twice (names v m) (names w m) m ∙ sym (two_fates w v m sw sv)

  -- ---- lists

  pub commute : (v w : Cell N) (cs : List (Cell N)) → v.side ≡ Shared → w.side ≡ Shared
      → touches (place_of d v) (place_of d w) ≡ false → once w (once v cs) ≡ once v (once w cs)
  commute v w cs sv sw a =
      let b = turn_by v.block v.offset (size_of d v.what) w.block w.offset (size_of d w.what) a in
      let cells : (λ (c : Cell N). each_becomes (left_by w) (left_by v c))
      ≡ (λ (c : Cell N). each_becomes (left_by v) (left_by w c)) =
      λ i c. by_met v w c (met_by v c) (met_by w c) sv sw a b refl refl i in
      let fates : then_fate (fate_of v) (fate_of w) ≡ then_fate (fate_of w) (fate_of v) =
      λ i m. same_fate v w m sv sw i in
      changed_twice (left_by v) (left_by w) (fate_of v) (fate_of w) cs (λ c. left_formed (fate_of v) w c sw)
      ∙ ap (λ g. changed_cells g (then_fate (fate_of v) (fate_of w)) cs) cells
      ∙ ap (λ f. changed_cells (λ (c : Cell N). each_becomes (left_by v) (left_by w c)) f cs) fates
      ∙ sym (changed_twice (left_by w) (left_by v) (fate_of w) (fate_of v) cs (λ c. left_formed (fate_of w) v c sv))
