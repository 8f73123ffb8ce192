-- What copies take: new cells of the place, which say what its bytes are.
use Rattle.std.proofs.Common.{◌≡◌, ℕ, Bool, true, false, ◌&&◌, cond, List, [], ⊎_elim, refl, sym, ap, ◌∙◌, subst}
use Rattle.std.proofs.lemmas.Bool.{and_parts, and_left, and_right, and_cases, false_from_ne_true, both_ways}
use Rattle.ep_int.specs.declared.types.Model.{Model}
use Rattle.ep_bitslice.specs.declared.cell.Side.{Side}
use Rattle.ep_bitslice.specs.declared.cell.Side.TheVariants.{Left, Right, Shared}
use Rattle.ep_domain.specs.Domain.{Ops, Lawful}
use Rattle.ep_cells.specs.declared.cell.Cell.{Cell}
use Rattle.ep_cells.specs.declared.place.ByteRange.{ByteRange}
use Rattle.ep_cells.specs.Cells.{on_left, on_right, share_memory, place_of, touches, encloses, is_same_side}
use Rattle.ep_cells.specs.Cells.{is_same_cell, IsIn, each_becomes}
use Rattle.ep_cells.specs.States.{Known, HasForm, EachPair, AreApart, IsCell, AreCells}
use Rattle.ep_cells.specs.Meaning.{Memories, In}
use Rattle.ep_cells.specs.Sound.{SaysNew}
use Rattle.ep_cells.proofs.Lists.{in_append, in_each, pairs_append, pairs_each}
use Rattle.ep_cells.proofs.Places.{share_sym, Within, within_itself}
use Rattle.ep_cells.proofs.Both.{alike_same, only_one}
use Rattle.ep_cells.proofs.WeakCells.{shared_all}
use Rattle.ep_reads.specs.SplitLaws.{AreBroken}
use Rattle.ep_reads.proofs.Sides.{one_within, side_same, others_apart}
use Rattle.ep_reads.proofs.Steps.{apart_misses}
use Rattle.ep_cell_ranges.specs.Spots.{Spot}
use Rattle.ep_cell_ranges.specs.Moves.{place_at, taken_if, taken, is_whole_shared, taken_left, taken_right}
use Rattle.ep_cell_ranges.specs.Moves.{taken_by_both}
use Rattle.ep_cell_ranges.specs.Sound.{IsInside, Misses, AreNew, SayNew}
use Rattle.ep_cell_ranges.specs.Laws.{TakenLaws}
use Rattle.ep_cell_ranges.proofs.Overwrites.{share_more}
use Rattle.ep_cell_ranges.proofs.TakenCells.{parts_miss, parts_apart, Taken, is_taken, taken_lies}
use Rattle.ep_cell_ranges.proofs.TakenCells.{taken_encloses, taken_side, taken_block, taken_is_cell}
use Rattle.ep_cell_ranges.proofs.TakenCells.{taken_has_form, own_taken}
use Rattle.ep_cell_ranges.proofs.TakenSays.{BrokenFor, taken_says}

-- two sides that have the memory of one side have it in common
share_one : (s a b : Side) → is_same_side s Shared ≡ false → share_memory s a ≡ true → share_memory s b ≡ true
    → share_memory a b ≡ true
share_one s a b e h i =
    let w = one_within s b e i in share_more a s b w.left w.right (share_sym a s ∙ h)

module _ {N : Type 0} (D : Ops N) where
  -- ---- a side

  abbrev from_one : Known N → ByteRange → Cell N → List (Cell N)
  from_one k p x = taken_if D k p p.side x

  pub ordered : (k : Known N) (p : ByteRange) → AreCells k.model k.cells → is_same_side p.side Shared ≡ false
      → EachPair (AreApart k.model) (taken D k p)
  ordered k p a e =
      pairs_each (AreApart k.model) (from_one k p) k.cells a.pairs (λ x i. own_taken D k p p.side x)
      (λ x z u v r i j.
      let t = is_taken D k p p.side x u i in
      let q = is_taken D k p p.side z v j in
      parts_apart k.model x z u v r (share_one p.side x.side z.side e t.share q.share)
      (taken_block D k p p.side x u t ∙ sym (taken_block D k p p.side z v q))
      (taken_lies D k p p.side x u t.is) (taken_lies D k p p.side z v q.is))

  pub one_new : (k : Known N) (p : ByteRange) → AreCells k.model k.cells → is_same_side p.side Shared ≡ false
      → AreNew k.model p k.cells (taken D k p)
  one_new k p a e = record {
    each = λ y h.
        let r = in_each (from_one k p) y k.cells h in
        taken_is_cell D k p p.side r.origin y (is_taken D k p p.side r.origin y r.becomes).is (a.each r.origin r.is_in);
    inside = λ y h.
        let r = in_each (from_one k p) y k.cells h in
        let t = is_taken D k p p.side r.origin y r.becomes in
        let same = taken_side D k p r.origin y t.is in record {
          left = λ i. sym (ap on_left same) ∙ i;
          right = λ i. sym (ap on_right same) ∙ i;
          block = taken_block D k p p.side r.origin y t;
          bytes = taken_encloses D k p p.side r.origin y t.is;
        };
    apart = apart_misses k.model (taken D k p) (ordered k p a e);
    forms = λ y h.
        let r = in_each (from_one k p) y k.cells h in
        taken_has_form D k p p.side r.origin y a r.is_in (is_taken D k p p.side r.origin y r.becomes).is;
  }

  broken_for : (d : Model) (p : ByteRange) (m n : Memories) → AreBroken d p m n → BrokenFor d p p.side m n
  broken_for d p m n r = record { left = λ e. r.left.here_broken e; right = λ e. r.right.here_broken e }

  pub one_says : (law : Lawful D) (k : Known N) (p : ByteRange) → AreCells k.model k.cells
      → is_same_side p.side Shared ≡ false
      → (m n : Memories) → In D k m → AreBroken k.model p m n → SayNew D k (taken D k p) m n
  one_says law k p a e m n i b = λ y h.
      let r = in_each (from_one k p) y k.cells h in
      let t = is_taken D k p p.side r.origin y r.becomes in
      let c = broken_for k.model p m n b in
      taken_says D law k p p.side r.origin y m n a i r.is_in e (one_within p.side r.origin.side e t.share) c c t.share
      t.touch t.is

  -- ---- both sides

  abbrev side_of : Known N → ByteRange → Cell N → Side
  side_of k p x = cond (is_whole_shared D k p x) Shared p.side

  side_within : (s : Side) (x : Cell N) (t b : Bool) → (is_same_side x.side Shared && t) ≡ b
      → is_same_side s Shared ≡ false
      → share_memory s x.side ≡ true → Within (cond b Shared s) x.side
  side_within s x t true e f h =
      subst (Within Shared) (sym (side_same x.side Shared (and_parts (is_same_side x.side Shared) t e).0))
      (within_itself Shared)
  side_within s x t false e f h = one_within s x.side f h

  right_by : (k : Known N) (p : ByteRange) (x y : Cell N) (b : Bool) → is_whole_shared D k p x ≡ b
      → IsIn y (cond b [] (taken_if D k p p.side x)) → Taken D k p p.side x y × (is_whole_shared D k p x ≡ false)
  right_by k p x y true e h = elim h [ ]
  right_by k p x y false e h = (is_taken D k p p.side x y h, e)

  right_taken : (k : Known N) (p : ByteRange) (x y : Cell N) → IsIn y (taken_right D k p x)
      → Taken D k p p.side x y × (is_whole_shared D k p x ≡ false)
  right_taken k p x y h = right_by k p x y (is_whole_shared D k p x) refl h

  own_right : (k : Known N) (p : ByteRange) (x : Cell N) (b : Bool)
      → EachPair (AreApart k.model) (cond b [] (taken_if D k p p.side x))
  own_right k p x true = tt
  own_right k p x false = own_taken D k p p.side x

  left_ordered : (k : Known N) (p : ByteRange) → AreCells k.model k.cells → is_same_side p.side Shared ≡ false
      → EachPair (AreApart k.model) (each_becomes (taken_left D k p) k.cells)
  left_ordered k p a e =
      pairs_each (AreApart k.model) (taken_left D k p) k.cells a.pairs (λ x i. own_taken D k p (side_of k p x) x)
      (λ x z u v r i j.
      let t = is_taken D k p (side_of k p x) x u i in
      let q = is_taken D k p (side_of k p z) z v j in
      parts_apart k.model x z u v r (share_one p.side x.side z.side e t.share q.share)
      (taken_block D k p (side_of k p x) x u t ∙ sym (taken_block D k p (side_of k p z) z v q))
      (taken_lies D k p (side_of k p x) x u t.is) (taken_lies D k p (side_of k p z) z v q.is))

  right_ordered : (k : Known N) (p : ByteRange) → AreCells k.model k.cells → is_same_side p.side Shared ≡ false
      → EachPair (AreApart k.model) (each_becomes (taken_right D k p) k.cells)
  right_ordered k p a e =
      pairs_each (AreApart k.model) (taken_right D k p) k.cells a.pairs
      (λ x i. own_right k p x (is_whole_shared D k p x))
      (λ x z u v r i j.
      let t = (right_taken k p x u i).0 in
      let q = (right_taken k p z v j).0 in
      parts_apart k.model x z u v r (share_one p.side x.side z.side e t.share q.share)
      (taken_block D k p p.side x u t ∙ sym (taken_block D k p p.side z v q))
      (taken_lies D k p p.side x u t.is) (taken_lies D k p p.side z v q.is))

  -- what the left takes misses what the right takes
  one_sided : (d : Model) (y z : Cell N) → y.side ≡ Left → z.side ≡ Right → Misses d y z
  one_sided d y z e f =
      and_left (share_memory y.side z.side) (touches (place_of d y) (place_of d z))
      (ap (λ (s : Side). share_memory s z.side) e ∙ ap (share_memory Left) f)

  cross_by : (k : Known N) (q : Spot) (bytes : ℕ) (x z y v : Cell N) (b : Bool) → AreCells k.model k.cells
      → IsIn x k.cells
      → IsIn z k.cells → is_whole_shared D k (place_at Left q bytes) x ≡ b
      → Taken D k (place_at Left q bytes) (cond b Shared Left) x y → Taken D k (place_at Right q bytes) Right z v
      → is_whole_shared D k (place_at Right q bytes) z ≡ false → Misses k.model y v
  cross_by k q bytes x z y v false a i j e t u f =
      one_sided k.model y v (taken_side D k (place_at Left q bytes) x y t.is)
      (taken_side D k (place_at Right q bytes) z v u.is)
  cross_by k q bytes x z y v true a i j e t u f =
      let d = k.model in
      let other : is_same_cell z x ≡ false = false_from_ne_true (is_same_cell z x) (λ g.
      let same : z ≡ x = only_one d z x k.cells a.pairs j i (alike_same z x g) in
      both_ways (is_whole_shared D k (place_at Left q bytes) x)
      (subst (λ c. is_whole_shared D k (place_at Right q bytes) c ≡ false) same f) e) in
      let apart = others_apart d x z k.cells a.pairs i j other in
      let shared = side_same x.side Shared
      (and_parts (is_same_side x.side Shared) (encloses (place_at Left q bytes) (place_of d x)) e).0 in
      let share : share_memory x.side z.side ≡ true = ap (λ (s : Side). share_memory s z.side) shared
      ∙ shared_all z.side in
      let far : touches (place_of d x) (place_of d z) ≡ false =
      ⊎_elim (λ g. absurd (both_ways (share_memory x.side z.side) g share)) (λ g. g)
      (and_cases (share_memory x.side z.side) (touches (place_of d x) (place_of d z)) apart) in
      and_right (share_memory y.side v.side) (touches (place_of d y) (place_of d v))
      (parts_miss d x z y v (taken_lies D k (place_at Left q bytes) Shared x y t.is)
      (taken_lies D k (place_at Right q bytes) Right z v u.is) far)

  -- what is taken comes of one cell, by the left or by the right
  by_one : (k : Known N) (q : Spot) (bytes : ℕ) (P : Cell N → Type 0)
      → ((x y : Cell N) → IsIn x k.cells → Taken D k (place_at Left q bytes) (side_of k (place_at Left q bytes) x) x y
      → P y)
      → ((x y : Cell N) → IsIn x k.cells → Taken D k (place_at Right q bytes) Right x y → P y)
      → (y : Cell N) → IsIn y (taken_by_both D k q bytes) → P y
  by_one k q bytes P l r y h =
      ⊎_elim
      (λ i.
      let o = in_each (taken_left D k (place_at Left q bytes)) y k.cells i in
      l o.origin y o.is_in (is_taken D k (place_at Left q bytes) (side_of k (place_at Left q bytes) o.origin) o.origin y
      o.becomes))
      (λ i.
      let o = in_each (taken_right D k (place_at Right q bytes)) y k.cells i in
      r o.origin y o.is_in (right_taken k (place_at Right q bytes) o.origin y o.becomes).0)
      (in_append y (each_becomes (taken_left D k (place_at Left q bytes)) k.cells)
      (each_becomes (taken_right D k (place_at Right q bytes)) k.cells) h)

  pub both_new : (k : Known N) (q : Spot) (bytes : ℕ) → AreCells k.model k.cells
      → AreNew k.model (place_at Shared q bytes) k.cells (taken_by_both D k q bytes)
  both_new k q bytes a =
      let pl = place_at Left q bytes in
      let pr = place_at Right q bytes in record {
        each = by_one k q bytes (IsCell k.model)
            (λ x y i t. taken_is_cell D k pl (side_of k pl x) x y t.is (a.each x i))
            (λ x y i t. taken_is_cell D k pr Right x y t.is (a.each x i));
        inside = by_one k q bytes (IsInside k.model (place_at Shared q bytes))
            (λ x y i t. record {
              left = λ e. refl;
              right = λ e. refl;
              block = taken_block D k pl (side_of k pl x) x y t;
              bytes = taken_encloses D k pl (side_of k pl x) x y t.is;
            })
            (λ x y i t. record {
              left = λ e. refl;
              right = λ e. refl;
              block = taken_block D k pr Right x y t;
              bytes = taken_encloses D k pr Right x y t.is;
            });
        apart = pairs_append (Misses k.model) (each_becomes (taken_left D k pl) k.cells)
            (each_becomes (taken_right D k pr) k.cells)
            (apart_misses k.model (each_becomes (taken_left D k pl) k.cells) (left_ordered k pl a refl))
            (apart_misses k.model (each_becomes (taken_right D k pr) k.cells) (right_ordered k pr a refl))
            (λ y v i j.
            let o = in_each (taken_left D k pl) y k.cells i in
            let u = in_each (taken_right D k pr) v k.cells j in
            let w = right_taken k pr u.origin v u.becomes in
            cross_by k q bytes o.origin u.origin y v (is_whole_shared D k pl o.origin) a o.is_in u.is_in refl
            (is_taken D k pl (side_of k pl o.origin) o.origin y o.becomes) w.0 w.1);
        forms = by_one k q bytes (HasForm k.cells)
            (λ x y i t. taken_has_form D k pl (side_of k pl x) x y a i t.is)
            (λ x y i t. taken_has_form D k pr Right x y a i t.is);
      }

  pub both_says : (law : Lawful D) (k : Known N) (q : Spot) (bytes : ℕ) → AreCells k.model k.cells → (m n : Memories)
      → In D k m
      → AreBroken k.model (place_at Shared q bytes) m n → SayNew D k (taken_by_both D k q bytes) m n
  both_says law k q bytes a m n i b =
      let pl = place_at Left q bytes in
      let pr = place_at Right q bytes in
      by_one k q bytes (λ y. SaysNew D k y m n)
      (λ x y j t. taken_says D law k pl (side_of k pl x) x y m n a i j refl
      (side_within Left x (encloses pl (place_of k.model x)) (is_whole_shared D k pl x) refl refl t.share)
      (record { left = λ e. b.left.here_broken refl; right = λ e. b.right.here_broken refl })
      (record { left = λ e. b.left.here_broken refl; right = λ e. b.right.here_broken refl }) t.share t.touch t.is)
      (λ x y j t. taken_says D law k pr Right x y m n a i j refl (one_within Right x.side refl t.share)
      (record { left = λ e. b.left.here_broken refl; right = λ e. b.right.here_broken refl })
      (record { left = λ e. b.left.here_broken refl; right = λ e. b.right.here_broken refl }) t.share t.touch t.is)

  pub of_takes : Lawful D → TakenLaws D
  of_takes law = record {
    new = one_new;
    ordered = ordered;
    says = λ k p a e m n i b. one_says law k p a e m n i b;
    both_new = both_new;
    both_says = λ k q bytes a m n i b. both_says law k q bytes a m n i b;
  }
