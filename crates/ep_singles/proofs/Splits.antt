-- All cells that lie partly in a place are split, one after the other.
use Rattle.std.proofs.Common.{◌≡◌, ℕ, Bool, true, false, ◌&&◌, List, [], ◌∷◌, Option, Some, None, refl}
use Rattle.ep_reads.proofs.Members.{place_alike}
use Rattle.ep_cells.proofs.Beside.{nothing_stays}
use Rattle.std.proofs.Common.{sym, ◌∙◌, subst}
use Rattle.std.specs.Option.{option_map_or}
use Rattle.std.proofs.lemmas.Bool.{false_from_ne_true}
use Rattle.ep_int.specs.declared.types.Model.{Model}
use Rattle.ep_int.specs.Types.{size_of}
use Rattle.ep_int.specs.Memory.{Memory, undefined, broken}
use Rattle.ep_bitslice.specs.declared.cell.Side.TheVariants.{Shared}
use Rattle.ep_domain.specs.Domain.{Ops, Lawful}
use Rattle.ep_cells.specs.declared.cell.Cell.{Cell}
use Rattle.ep_cells.specs.declared.place.ByteRange.{ByteRange}
use Rattle.ep_cells.specs.Cells.{IsIn, first, later, place_of, is_partly_in, is_same_side, on_left, on_right}
use Rattle.ep_cells.specs.Both.{cell_like}
use Rattle.ep_cells.specs.States.{Known, AreCells}
use Rattle.ep_cells.specs.Meaning.{Memories, HasBytes}
use Rattle.ep_cells.proofs.Both.{alike_same}
use Rattle.ep_reads.specs.Split.{split_cell, cut_cells, split_all, split}
use Rattle.ep_reads.specs.SplitLaws.{IsBrokenAt, AreBroken}
use Rattle.ep_reads.proofs.Sides.{on_one, same_itself}
use Rattle.ep_reads.proofs.Broken.{whole_holds, between}
use Rattle.ep_reads.proofs.OneSplit.{split_cell_cells}
use Rattle.ep_reads.proofs.Splits.{Covers, IsFirstLike, first_like, none_like, other_like, no_like, cut_shares}
use Rattle.ep_reads.proofs.Splits.{covers_after, filter_keeps, filter_tests}
use Rattle.ep_singles.specs.Cells.{IsOne}
use Rattle.ep_singles.proofs.OneSplit.{one_split}

-- ---- where no cell lies partly in the place

broken_empty : (d : Model) (p : ByteRange) (here : Bool) (m n : Memory) → IsBrokenAt d p here m n → (b q : ℕ)
    → m b q ≡ undefined → n b q ≡ undefined
broken_empty d p true m n h b q e = h.here_broken refl b q ∙ nothing_stays d m p.block p.offset p.bytes b q e
broken_empty d p false m n h b q e = h.whole refl b q ∙ e

whole_one : {N : Type 0} (D : Ops N) (k : Known N) (p : ByteRange) (m n : Memories) → IsOne D k m
    → ((x : Cell N) → IsIn x k.cells → is_partly_in p (place_of k.model x) ≡ false) → AreBroken k.model p m n
    → IsOne D k n
whole_one D k p m n one none r = record {
  cells = one.cells;
  each = one.each;
  left_outside = λ b q e. broken_empty k.model p (on_left p.side) m.left n.left r.left b q (one.left_outside b q e);
  right_outside = λ b q e.
      broken_empty k.model p (on_right p.side) m.right n.right r.right b q (one.right_outside b q e);
  holds = whole_holds D k.orders k.model p k.cells m n one.cells none one.holds r;
}

-- ---- all of them

-- after the splits that are left
abbrev GoesOne : {N : Type 0} → Ops N → Known N → ByteRange → List (Cell N) → List (Cell N) → Type 0
GoesOne D k p cs after =
    (m n : Memories) → IsOne D (record k { cells = cs }) m → AreBroken k.model p m n
    → IsOne D (record k { cells = after }) n

one_goes : {N : Type 0} (D : Ops N) → Lawful D → (k : Known N) (p : ByteRange) (x y : Cell N) (xs cs : List (Cell N))
    → AreCells k.model cs → is_same_side p.side Shared ≡ false → is_partly_in p (place_of k.model x) ≡ true
    → IsFirstLike x cs y → Covers k.model p (x ∷ xs) cs
    → ((l : List (Cell N)) → AreCells k.model l → Covers k.model p xs l → GoesOne D k p l (split_all D k p.side xs l))
    → GoesOne D k p cs (split_all D k p.side xs (split_cell D k p.side y cs))
one_goes {N = N} D law k p x y xs cs a e h f cov more m n i r =
    let c : Known N = record k { cells = cs } in
    let cut : is_partly_in p (place_of k.model y) ≡ true = subst (λ q. is_partly_in p q ≡ true)
    (sym (place_alike k.model y x (alike_same y x f.same))) h in
    let share = cut_shares p (place_of k.model y) cut in
    let says = i.holds.cells y f.is_in in
    let bytes = on_one (λ o z. HasBytes o z (size_of k.model y.what) y.what y.maybe y.block y.offset says.datum)
    k.orders m p.side y.side e share says.stands.left says.stands.right in
    let b = between k.orders k.model p y y.what m n says.datum refl e cut r bytes in
    more (split_cell D k p.side y cs) (split_cell_cells D k p.side y cs a f.is_in e share)
    (covers_after D k p x y xs cs a f.is_in f.same cov) b.between n
    (one_split D law c p.side y m b.between i f.is_in e share b.loosened) b.broken

like_goes : {N : Type 0} (D : Ops N) → Lawful D → (k : Known N) (p : ByteRange) (x : Cell N) (xs cs : List (Cell N))
    (o : Option (Cell N)) → cell_like x cs ≡ o → AreCells k.model cs → is_same_side p.side Shared ≡ false
    → is_partly_in p (place_of k.model x) ≡ true → Covers k.model p (x ∷ xs) cs
    → ((l : List (Cell N)) → AreCells k.model l → Covers k.model p xs l → GoesOne D k p l (split_all D k p.side xs l))
    → GoesOne D k p cs (split_all D k p.side xs (option_map_or (λ y. split_cell D k p.side y cs) o cs))
like_goes D law k p x xs cs None n a e h cov more =
    more cs a (λ y i j. let l = cov y i j in other_like x y l.cell xs (none_like x cs y n i) l.is_in l.same)
like_goes D law k p x xs cs (Some y) n a e h cov more =
    one_goes D law k p x y xs cs a e h (first_like x cs y n) cov more

goes : {N : Type 0} (D : Ops N) → Lawful D → (k : Known N) (p : ByteRange) (xs cs : List (Cell N)) → AreCells k.model cs
    → is_same_side p.side Shared ≡ false
    → ((x : Cell N) → IsIn x xs → is_partly_in p (place_of k.model x) ≡ true) → Covers k.model p xs cs
    → GoesOne D k p cs (split_all D k p.side xs cs)
goes D law k p [] cs a e cuts cov = λ m n i r.
    whole_one D (record k { cells = cs }) p m n i
    (λ z j. false_from_ne_true (is_partly_in p (place_of k.model z)) (λ h. no_like z (cov z j h))) r
goes D law k p (x ∷ xs) cs a e cuts cov =
    like_goes D law k p x xs cs (cell_like x cs) refl a e (cuts x (first xs)) cov
    (λ l b c. goes D law k p xs l b e (λ y i. cuts y (later x xs i)) c)

pub splits_keep_one : {N : Type 0} (D : Ops N) → Lawful D → (k : Known N) (m n : Memories) → IsOne D k m → (p : ByteRange)
    → is_same_side p.side Shared ≡ false → AreBroken k.model p m n → IsOne D (record k { cells = split D k p }) n
splits_keep_one {N = N} D law k m n one p e r =
    let test : Cell N → Bool = λ x. is_partly_in p (place_of k.model x) in
    goes D law k p (cut_cells k.model p k.cells) k.cells one.cells e (λ x i. filter_tests test x k.cells i)
    (λ y i h. record { cell = y; is_in = filter_keeps test y k.cells i h; same = same_itself y }) m n one r
