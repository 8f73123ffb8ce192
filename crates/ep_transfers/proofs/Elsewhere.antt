-- Cells that forms mention stay where other blocks are written.
use Rattle.std.proofs.Common.{◌≡◌, ℕ, Bool, true, false, ◌&&◌, nat_eq, cond, List, [], ◌∷◌, ◌++◌, Option, Some, None}
use Rattle.ep_reads.proofs.Members.{place_alike}
use Rattle.std.proofs.Common.{refl, sym, ap, ◌∙◌, subst}
use Rattle.std.specs.Option.{option_map, option_map_or}
use Rattle.std.proofs.lemmas.Bool.{and_parts, false_from_ne_true, both_ways, eqb-true, eq-eqb}
use Rattle.ep_int.specs.declared.types.Model.{Model}
use Rattle.ep_bitslice.specs.declared.cell.Side.{Side as CellSide}
use Rattle.ep_bitslice.specs.declared.cell.Side.TheVariants.{Left, Right, Shared}
use Rattle.ep_bitslice.specs.declared.cell.CellName.{CellName}
use Rattle.ep_domain.specs.Domain.{Ops}
use Rattle.ep_cells.specs.declared.cell.Cell.{Cell}
use Rattle.ep_cells.specs.declared.place.ByteRange.{ByteRange}
use Rattle.ep_cells.specs.Cells.{place_of, place_of_name, touches, share_memory, side_without, is_partly_in}
use Rattle.ep_cells.specs.Cells.{is_same_side, IsIn, first, later}
use Rattle.ep_cells.specs.Both.{cell_like}
use Rattle.ep_cells.specs.Write.{written, fate_by_write}
use Rattle.ep_cells.specs.Weaken.{weakened, fate_by_weak_write}
use Rattle.ep_cells.specs.States.{Known, IsThere, HasRisingBlocks, AreCells, CanWrite}
use Rattle.ep_cells.proofs.Changes.{there_reformed}
use Rattle.ep_cells.proofs.Lists.{in_right}
use Rattle.ep_cells.proofs.Write.{write_change}
use Rattle.ep_cells.proofs.Both.{alike_same}
use Rattle.ep_reads.specs.Split.{fate_by_split, left_by_split, split_cell, cut_cells, split_all, split}
use Rattle.ep_reads.specs.SplitLaws.{SplitLaws}
use Rattle.ep_reads.proofs.Steps.{step_change}
use Rattle.ep_reads.proofs.OneSplit.{rest_of, bytes_of_x, split_step, split_cell_cells}
use Rattle.ep_reads.proofs.Splits.{first_like, cut_shares, filter_tests}
use Rattle.ep_cell_ranges.specs.Ranges.{split_at, cut}
use Rattle.ep_cell_ranges.proofs.WeakHeld.{weak_leads}

-- of two numbers of which a test tells one
pub apart_by : (test : ℕ → Bool) (a b : ℕ) → test a ≡ true → test b ≡ false → nat_eq a b ≡ false
apart_by test a b e f =
    false_from_ne_true (nat_eq a b)
    (λ h. both_ways (test b) f (subst (λ x. test x ≡ true) (eqb-true a b h) e))

pub off_touch : (p q : ByteRange) → nat_eq p.block q.block ≡ false → touches p q ≡ false
off_touch p q e = rw e refl

pub write_fate : (p : ByteRange) (c : CellName) → nat_eq p.block c.block ≡ false → fate_by_write p c ≡ Some c
write_fate p c e = rw (off_touch p (place_of_name c) e) refl

weak_fate : (p : ByteRange) (c : CellName) → nat_eq p.block c.block ≡ false → fate_by_weak_write p c ≡ Some c
weak_fate p c e = rw (off_touch p (place_of_name c) e) refl

module _ {N : Type 0} (D : Ops N) where
  pub written_there : (d : Model) (c : Cell N) (cs : List (Cell N)) → AreCells d cs → CanWrite d c cs →
      HasRisingBlocks c.value → (e : CellName)
      → nat_eq c.block e.block ≡ false → IsThere e cs → IsThere e (written d c cs)
  written_there d c cs a w r e off t =
      there_reformed (fate_by_write (place_of d c)) e _ ((write_change d c cs a w r).fates e e t (write_fate (place_of
      d c) e off))

  pub weak_there : (d : Model) (c : Cell N) (stays : Bool) (cs : List (Cell N)) → (stays ≡ true → c.side ≡ Shared) →
      (e : CellName)
      → nat_eq c.block e.block ≡ false → IsThere e cs → IsThere e (weakened D d c stays cs)
  weak_there d c stays cs s e off t = weak_leads D d c stays cs s e e t (weak_fate (place_of d c) e off)

  -- ---- splits

  both_false : (a t r : Bool) → t ≡ false → (a && (t && r)) ≡ false
  both_false true true r e = absurd (cc)
  both_false true false r e = refl
  both_false false t r e = refl

  other_block : (a b c : ℕ) → nat_eq a b ≡ true → nat_eq a c ≡ false → nat_eq c b ≡ false
  other_block a b c e f =
      false_from_ne_true (nat_eq c b)
      (λ h. both_ways (nat_eq a c) f (subst (λ x. nat_eq a x ≡ true) (eqb-true a b e ∙ sym (eqb-true c b h)) (self a)))
    where
      self : (a : ℕ) → nat_eq a a ≡ true
      self a = eq-eqb a a refl

  split_fate : (s : CellSide) (x : Cell N) (c : CellName) → nat_eq c.block x.block ≡ false → fate_by_split s x c ≡
      Some c
  split_fate s x c e =
      ap (λ t. cond t (option_map (λ r. record c { side = r }) (side_without s x.side)) (Some c))
      (both_false (is_same_side c.side x.side) (nat_eq c.block x.block) _ e)

  more_there : (more cs : List (Cell N)) (n : CellName) → IsThere n cs → IsThere n (more ++ cs)
  more_there more cs n t = record {
    cell = t.cell;
    is_in = in_right t.cell more cs t.is_in;
    named = t.named;
    sure =
        t.sure;
  }

  one_there : (k : Known N) (s : CellSide) (x : Cell N) (cs : List (Cell N)) → AreCells k.model cs → IsIn x cs →
      is_same_side s Shared ≡ false
      → share_memory s x.side ≡ true → (c : CellName) → nat_eq c.block x.block ≡ false → IsThere c cs → IsThere c
      (split_cell D k s x cs)
  one_there k s x cs a i e h c off t =
      there_reformed (fate_by_split s x) c _
      ((step_change k.model (rest_of s x) cs (bytes_of_x D k s x) (left_by_split s x) (fate_by_split s x) a
      (split_step D k s x cs a i e h)).fates c c
      (more_there (rest_of s x) cs c t) (split_fate s x c off))

  in_block : (d : Model) (p : ByteRange) (y : Cell N) → is_partly_in p (place_of d y) ≡ true → nat_eq p.block y.block ≡ true
  in_block d p y h =
      let a = (and_parts _ _ h).0 in
      let t = (and_parts _ _ a).1 in
      (and_parts (nat_eq p.block y.block) _ t).0

  like_there : (k : Known N) (p : ByteRange) (x : Cell N) (xs cs : List (Cell N)) (o : Option (Cell N)) → cell_like x cs ≡
      o → AreCells k.model cs
      → is_same_side p.side Shared ≡ false → is_partly_in p (place_of k.model x) ≡ true → (c : CellName) → nat_eq
      p.block c.block ≡ false → IsThere c cs
      → ((l : List (Cell N)) → AreCells k.model l → IsThere c l → IsThere c (split_all D k p.side xs l))
      → IsThere c (split_all D k p.side xs (option_map_or (λ y. split_cell D k p.side y cs) o cs))
  like_there k p x xs cs None n a e h c off t more = more cs a t
  like_there k p x xs cs (Some y) n a e h c off t more =
      let f = first_like x cs y n in
      let cut : is_partly_in p (place_of k.model y) ≡ true = subst (λ q. is_partly_in p q ≡ true)
      (sym (place_alike k.model y x (alike_same y x f.same))) h in
      let share = cut_shares p (place_of k.model y) cut in
      more (split_cell D k p.side y cs) (split_cell_cells D k p.side y cs a f.is_in e share)
      (one_there k p.side y cs a f.is_in e share c (other_block p.block y.block c.block (in_block k.model p y cut)
      off) t)

  all_there : (k : Known N) (p : ByteRange) (xs cs : List (Cell N)) → AreCells k.model cs → is_same_side p.side Shared ≡
      false
      → ((x : Cell N) → IsIn x xs → is_partly_in p (place_of k.model x) ≡ true) → (c : CellName) → nat_eq p.block
      c.block ≡ false → IsThere c cs
      → IsThere c (split_all D k p.side xs cs)
  all_there k p [] cs a e cuts c off t = t
  all_there k p (x ∷ xs) cs a e cuts c off t =
      like_there k p x xs cs (cell_like x cs) refl a e (cuts x (first xs)) c off t
      (λ l b i. all_there k p xs l b e (λ y j. cuts y (later x xs j)) c off i)

  pub split_there : (k : Known N) (p : ByteRange) → AreCells k.model k.cells → is_same_side p.side Shared ≡ false →
      (c : CellName)
      → nat_eq p.block c.block ≡ false → IsThere c k.cells → IsThere c (split D k p)
  split_there k p a e c off t =
      all_there k p (cut_cells k.model p k.cells) k.cells a e
      (λ x i. filter_tests (λ (c : Cell N). is_partly_in p (place_of k.model c)) x k.cells i) c off t

  pub cut_there : (law : SplitLaws D) (s : CellSide) (b q n : ℕ) (k : Known N) → AreCells k.model k.cells →
      (c : CellName) → nat_eq b c.block ≡ false
      → IsThere c k.cells → IsThere c (cut D (record { side = s; block = b; offset = q; bytes = n }) k).cells
  cut_there law Left b q n k a c off t = split_there k (record { side = Left; block = b; offset = q; bytes = n }) a
      refl c off t
  cut_there law Right b q n k a c off t = split_there k (record { side = Right; block = b; offset = q; bytes = n }) a
      refl c off t
  cut_there law Shared b q n k a c off t =
      let l : ByteRange = record { side = Left; block = b; offset = q; bytes = n } in
      split_there (split_at D l k) (record { side = Right; block = b; offset = q; bytes = n }) (law.cells k l a refl)
      refl c off (split_there k l a refl c off t)
