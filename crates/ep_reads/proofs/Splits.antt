-- All cells that lie partly in a place are split, one after the other.
use Rattle.std.proofs.Common.{◌≡◌, ℕ, ◌+◌, Bool, true, false, ◌&&◌, not, nat_eq, nat_le, nat_lt, cond, List, [], ◌∷◌}
use Rattle.ep_int.proofs.Basics.{size_positive}
use Rattle.ep_reads.proofs.Members.{place_alike}
use Rattle.std.proofs.Common.{⊎_elim, Option, Some, None, refl, sym, ◌∙◌, ap, subst, arith}
use Rattle.std.specs.Option.{option_map_or}
use Rattle.std.specs.List.{filter, list_any}
use Rattle.std.proofs.lemmas.Bool.{and_parts, and_from, or_from, le-leb, ltb-true, not-true, false_from_ne_true}
use Rattle.std.proofs.lemmas.Bool.{both_ways}
use Rattle.ep_int.specs.declared.types.Model.{Model}
use Rattle.ep_int.specs.Types.{size_of}
use Rattle.ep_bitslice.specs.declared.cell.Side.{Side}
use Rattle.ep_bitslice.specs.declared.cell.Side.TheVariants.{Shared}
use Rattle.ep_domain.specs.Domain.{Ops, Lawful}
use Rattle.ep_cells.specs.declared.cell.Cell.{Cell}
use Rattle.ep_cells.specs.declared.place.ByteRange.{ByteRange}
use Rattle.ep_cells.specs.Cells.{share_memory, side_without, place_of, touches, meets, encloses, is_partly_in}
use Rattle.ep_cells.specs.Cells.{is_same_side, is_same_cell, IsIn, first, later, put_all, each_becomes}
use Rattle.ep_cells.specs.Forms.{reformed}
use Rattle.ep_cells.specs.Both.{cell_like}
use Rattle.ep_cells.specs.States.{Known, AreCells, AreAlike}
use Rattle.ep_cells.specs.Meaning.{Memories, HasBytes, In}
use Rattle.ep_cells.proofs.Lists.{in_map, in_each, in_put_all}
use Rattle.ep_cells.proofs.Places.{at, no_share, share_itself}
use Rattle.ep_cells.proofs.Both.{alike_same, alike_sym, only_one}
use Rattle.ep_reads.specs.Bytes.{order_on}
use Rattle.ep_reads.specs.Split.{form_beside, byte_of, byte_cells, fate_by_split, left_by_split, split_cell}
use Rattle.ep_reads.specs.Split.{cut_cells, split_all, split}
use Rattle.ep_reads.specs.SplitLaws.{AreBroken, SplitLaws}
use Rattle.ep_reads.proofs.Sides.{on_one, same_itself}
use Rattle.ep_reads.proofs.ByteCells.{byte_is, one_of}
use Rattle.ep_reads.proofs.OneSplit.{AfterSplit, rest, other, after_split, split_cell_cells, split_cell_holds}
use Rattle.ep_reads.proofs.Broken.{whole_holds, between}

-- ---- what isn't cut

pub byte_inside : (p : ByteRange) (b q : ℕ) → (nat_eq p.block b && (nat_lt p.offset (q + 1) && nat_lt q (p.offset + p.bytes))) ≡
    true → (nat_le p.offset q && nat_le (q + 1) (p.offset + p.bytes)) ≡ true
byte_inside p b q h =
    let x = and_parts (nat_eq p.block b) (nat_lt p.offset (q + 1) && nat_lt q (p.offset + p.bytes)) h in
    let y = and_parts (nat_lt p.offset (q + 1)) (nat_lt q (p.offset + p.bytes)) x.1 in
    let low = ltb-true p.offset (q + 1) y.0 in
    let high = ltb-true q (p.offset + p.bytes) y.1 in
    and_from (nat_le p.offset q) (nat_le (q + 1) (p.offset + p.bytes)) (le-leb p.offset q (omega (arith, low)))
    (le-leb (q
    + 1) (p.offset + p.bytes) (omega (arith, high)))

-- one byte doesn't lie partly in a place
pub byte_uncut : (p : ByteRange) (s : Side) (b q : ℕ) → is_partly_in p (at s b q 1) ≡ false
byte_uncut p s b q =
    false_from_ne_true (is_partly_in p (at s b q 1)) (λ h.
    let x = and_parts (meets p (at s b q 1)) (not (encloses p (at s b q 1))) h in
    let y = and_parts (share_memory p.side s) (touches p (at s b q 1)) x.0 in
    both_ways (encloses p (at s b q 1)) (not-true (encloses p (at s b q 1)) x.1) (byte_inside p b q y.1))

pub cut_shares : (p q : ByteRange) → is_partly_in p q ≡ true → share_memory p.side q.side ≡ true
cut_shares p q h =
    let x = and_parts (meets p q) (not (encloses p q)) h in
    (and_parts (share_memory p.side q.side) (touches p q) x.0).0

-- ---- cells like those of a list

pub record IsLike {N : Type 0} (xs : List (Cell N)) (y : Cell N) : Type 0 where
  pub cell : Cell N
  pub is_in : IsIn cell xs
  pub same : is_same_cell y cell ≡ true

-- each cell that lies partly in the place is like one of xs
abbrev pub Covers : {N : Type 0} → Model → ByteRange → List (Cell N) → List (Cell N) → Type 0
Covers {N = N} d p xs cs = (y : Cell N) → IsIn y cs → is_partly_in p (place_of d y) ≡ true → IsLike xs y

pub record IsFirstLike {N : Type 0} (x : Cell N) (cs : List (Cell N)) (y : Cell N) : Type 0 where
  pub is_in : IsIn y cs
  pub same : is_same_cell y x ≡ true

pub like_by : {N : Type 0} (x c y : Cell N) (cs : List (Cell N)) (t : Bool) → is_same_cell c x ≡ t
    → cond t (Some c) (cell_like x cs) ≡ Some y → (cell_like x cs ≡ Some y → IsFirstLike x cs y)
    → IsFirstLike x (c ∷ cs) y
like_by x c y cs true e h more =
    let is : c ≡ y = cc in
    subst (IsFirstLike x (c ∷ cs)) is (record { is_in = first cs; same = e })
like_by x c y cs false e h more = let r = more h in record { is_in = later c cs r.is_in; same = r.same }

pub first_like : {N : Type 0} (x : Cell N) (cs : List (Cell N)) (y : Cell N) → cell_like x cs ≡ Some y → IsFirstLike
    x cs y
first_like x [] y h = absurd (cc)
first_like x (c ∷ cs) y h = like_by x c y cs (is_same_cell c x) refl h (λ k. first_like x cs y k)

pub none_by : {N : Type 0} (x c y : Cell N) (cs : List (Cell N)) (t : Bool) → is_same_cell c x ≡ t
    → cond t (Some c) (cell_like x cs) ≡ None → (cell_like x cs ≡ None → IsIn y cs → is_same_cell y x ≡ false)
    → IsIn y (c ∷ cs) → is_same_cell y x ≡ false
none_by x c y cs true e h more i = absurd (cc)
none_by x c _ cs false e h more (first _) = e
none_by x c y cs false e h more (later _ _ i) = more h i

pub none_like : {N : Type 0} (x : Cell N) (cs : List (Cell N)) (y : Cell N) → cell_like x cs ≡ None → IsIn y cs
    → is_same_cell y x ≡ false
none_like x [] y h i = elim i [ ]
none_like x (c ∷ cs) y h i = none_by x c y cs (is_same_cell c x) refl h (λ k j. none_like x cs y k j) i

pub other_like : {N : Type 0} (x y c : Cell N) (xs : List (Cell N)) → is_same_cell y x ≡ false → IsIn c (x ∷ xs)
    → is_same_cell y c ≡ true → IsLike xs y
other_like x y _ xs e (first _) h = absurd (both_ways (is_same_cell y x) e h)
other_like x y c xs e (later _ _ i) h = record { cell = c; is_in = i; same = h }

-- ---- after one split

-- a cell that still lies partly in the place was there, and isn't the one that was split
pub record IsOther {N : Type 0} (d : Model) (cs : List (Cell N)) (x z : Cell N) : Type 0 where
  pub cell : Cell N
  pub is_in : IsIn cell cs
  pub apart : meets (place_of d x) (place_of d cell) ≡ false
  pub place : place_of d z ≡ place_of d cell
  pub same : (c : Cell N) → is_same_cell z c ≡ is_same_cell cell c

pub left_cut : {N : Type 0} (d : Model) (p : ByteRange) (cs : List (Cell N)) (x z y : Cell N) (g : Cell N) → IsIn z cs
    → place_of d g ≡ place_of d y → ((c : Cell N) → is_same_cell g c ≡ is_same_cell y c)
    → is_partly_in p (place_of d g) ≡ true → AfterSplit d p.side x z y → IsOther d cs x g
left_cut d p cs x z y g i pl sm h (rest t e is r) =
    let side : share_memory p.side y.side ≡ true = subst (λ q. share_memory p.side q.side ≡ true) pl (cut_shares p
    (place_of d g) h) in
    absurd (both_ways (share_memory p.side t) r.apart (subst (λ q. share_memory p.side q.side ≡ true) is side))
left_cut d p cs x z y g i pl sm h (other is e) = record {
  cell = z;
  is_in = i;
  apart = e;
  place = pl ∙ ap (place_of d) is;
  same = λ c. sm c ∙ ap (λ q. is_same_cell q c) is;
}

pub cut_after : {N : Type 0} (D : Ops N) (k : Known N) (p : ByteRange) (x z : Cell N) (cs : List (Cell N)) → AreCells k.model cs
    → IsIn x cs → IsIn z (split_cell D k p.side x cs) → is_partly_in p (place_of k.model z) ≡ true
    → IsOther k.model cs x z
cut_after {N = N} D k p x z cs a i h e =
    let d = k.model in
    let s = p.side in
    let o = order_on p.side k.orders in
    let f = form_beside x (side_without p.side x.side) in
    let g = byte_of D o s f x x.what x.value in
    let l = each_becomes (left_by_split s x) cs in
    let r = in_map (reformed (fate_by_split s x)) z (put_all (byte_cells D d o s f x) l) h in
    let cut : is_partly_in p (place_of k.model r.origin) ≡ true = subst (λ q. is_partly_in p (place_of k.model q) ≡
    true)
    r.is e in
    ⊎_elim
    (λ j.
    let q = one_of g 0 (size_of d x.what) r.origin j in
    let b = byte_is D o s f x x.what x.value q.place in
    absurd (both_ways (is_partly_in p (place_of d r.origin))
    (subst (λ c. is_partly_in p (place_of d c) ≡ false) (sym (q.is ∙ b.is)) (byte_uncut p s x.block (x.offset +
    q.place)))
    cut))
    (λ j.
    let q = in_each (left_by_split s x) r.origin cs j in
    left_cut d p cs x q.origin r.origin z q.is_in (ap (place_of d) r.is) (λ c. ap (λ b. is_same_cell b c) r.is) e
    (after_split d s x q.origin r.origin cs a.pairs i q.is_in q.becomes))
    (in_put_all (byte_cells D d o s f x) r.origin l r.is_in)

pub meets_itself : {N : Type 0} (d : Model) (x : Cell N) → meets (place_of d x) (place_of d x) ≡ false → ⊥
meets_itself d x e =
    let n = size_positive d x.what in
    both_ways (share_memory x.side x.side) (no_share x.side x.side x.block x.offset (size_of d x.what) (size_of d
    x.what) n
    n e) (share_itself x.side)

pub alike_trans : {N : Type 0} (x y z : Cell N) → AreAlike x y → AreAlike y z → AreAlike x z
alike_trans x y z a b = record {
  side = a.side ∙ b.side;
  block = a.block ∙ b.block;
  offset = a.offset ∙ b.offset;
  what = a.what ∙ b.what;
}

pub covers_after : {N : Type 0} (D : Ops N) (k : Known N) (p : ByteRange) (x y : Cell N) (xs cs : List (Cell N))
    → AreCells k.model cs → IsIn y cs → is_same_cell y x ≡ true → Covers k.model p (x ∷ xs) cs
    → Covers k.model p xs (split_cell D k p.side y cs)
covers_after D k p x y xs cs a i s cov = λ z j h.
    let o = cut_after D k p y z cs a i j h in
    let w = o.cell in
    let l = cov w o.is_in (subst (λ q. is_partly_in p q ≡ true) o.place h) in
    let no : is_same_cell w x ≡ false = false_from_ne_true (is_same_cell w x) (λ e.
    let alike = alike_trans w x y (alike_same w x e) (alike_sym y x (alike_same y x s)) in
    let one = only_one k.model w y cs a.pairs o.is_in i alike in
    meets_itself k.model y (subst (λ q. meets (place_of k.model y) (place_of k.model q) ≡ false) one o.apart)) in
    let r = other_like x w l.cell xs no l.is_in l.same in
    record { cell = r.cell; is_in = r.is_in; same = o.same r.cell ∙ r.same }

-- ---- all of them

-- what the splits leave of cs
pub record Goes {N : Type 0} (D : Ops N) (k : Known N) (p : ByteRange) (cs after : List (Cell N)) : Type 0 where
  pub cells : AreCells k.model after
  pub none : (z : Cell N) → IsIn z after → is_partly_in p (place_of k.model z) ≡ false
  pub holds : (m n : Memories) → In D (record k { cells = cs }) m → AreBroken k.model p m n
      → In D (record k { cells = after }) n

pub one_goes : {N : Type 0} (D : Ops N) → Lawful D → (k : Known N) (p : ByteRange) (x y : Cell N) (xs cs : List (Cell N))
    → AreCells k.model cs → is_same_side p.side Shared ≡ false → is_partly_in p (place_of k.model x) ≡ true
    → IsFirstLike x cs y → Covers k.model p (x ∷ xs) cs
    → ((l : List (Cell N)) → AreCells k.model l → Covers k.model p xs l → Goes D k p l (split_all D k p.side xs l))
    → Goes D k p cs (split_all D k p.side xs (split_cell D k p.side y cs))
one_goes D law k p x y xs cs a e h f cov more =
    let cut : is_partly_in p (place_of k.model y) ≡ true = subst (λ q. is_partly_in p q ≡ true) (sym (place_alike
    k.model
    y x (alike_same y x f.same))) h in
    let share = cut_shares p (place_of k.model y) cut in
    let after = split_cell_cells D k p.side y cs a f.is_in e share in
    let g = more (split_cell D k p.side y cs) after (covers_after D k p x y xs cs a f.is_in f.same cov) in
    record {
      cells = g.cells;
      none = g.none;
      holds = λ m n i r.
          let says = i.cells y f.is_in in
          let bytes = on_one (λ o z. HasBytes o z (size_of k.model y.what) y.what y.maybe y.block y.offset says.datum)
          k.orders m p.side y.side e share says.stands.left says.stands.right in
          let b = between k.orders k.model p y y.what m n says.datum refl e cut r bytes in
          g.holds b.between n (split_cell_holds D law k p.side y cs m b.between a f.is_in e share b.loosened i)
          b.broken;
    }

pub like_goes : {N : Type 0} (D : Ops N) → Lawful D → (k : Known N) (p : ByteRange) (x : Cell N) (xs cs : List (Cell N)) (o :
    Option (Cell N)) → cell_like x cs ≡ o → AreCells k.model cs → is_same_side p.side Shared ≡ false
    → is_partly_in p (place_of k.model x) ≡ true → Covers k.model p (x ∷ xs) cs
    → ((l : List (Cell N)) → AreCells k.model l → Covers k.model p xs l → Goes D k p l (split_all D k p.side xs l))
    → Goes D k p cs (split_all D k p.side xs (option_map_or (λ y. split_cell D k p.side y cs) o cs))
like_goes D law k p x xs cs None n a e h cov more =
    more cs a (λ y i j.
    let l = cov y i j in
    other_like x y l.cell xs (none_like x cs y n i) l.is_in l.same)
like_goes D law k p x xs cs (Some y) n a e h cov more =
    one_goes D law k p x y xs cs a e h (first_like x cs y n) cov more

pub no_like : {N : Type 0} (z : Cell N) → IsLike [] z → ⊥
no_like z l = elim l.is_in [ ]

pub goes : {N : Type 0} (D : Ops N) → Lawful D → (k : Known N) (p : ByteRange) (xs cs : List (Cell N)) → AreCells k.model cs
    → is_same_side p.side Shared ≡ false
    → ((x : Cell N) → IsIn x xs → is_partly_in p (place_of k.model x) ≡ true) → Covers k.model p xs cs
    → Goes D k p cs (split_all D k p.side xs cs)
goes {N = N} D law k p [] cs a e cuts cov =
    let none : (z : Cell N) → IsIn z cs → is_partly_in p (place_of k.model z) ≡ false = λ z i.
    false_from_ne_true (is_partly_in p (place_of k.model z)) (λ h. no_like z (cov z i h)) in
    record {
      cells = a;
      none = none;
      holds = λ m n i r. whole_holds D k.orders k.model p cs m n a none i r;
    }
goes {N = N} D law k p (x ∷ xs) cs a e cuts cov =
    like_goes D law k p x xs cs (cell_like x cs) refl a e (cuts x (first xs)) cov
    (λ l b c. goes D law k p xs l b e (λ y i. cuts y (later x xs i)) c)

-- ---- the cells that lie partly in the place

pub kept_by : {N : Type 0} (test : Cell N → Bool) (y c : Cell N) (cs : List (Cell N)) (t : Bool) → test c ≡ t
    → test y ≡ true → (IsIn y cs → IsIn y (filter test cs)) → IsIn y (c ∷ cs)
    → IsIn y (cond t (c ∷ filter test cs) (filter test cs))
kept_by test y _ cs true e h more (first _) = first (filter test cs)
kept_by test y c cs true e h more (later _ _ i) = later c (filter test cs) (more i)
kept_by test y _ cs false e h more (first _) = absurd (both_ways (test y) e h)
kept_by test y c cs false e h more (later _ _ i) = more i

pub filter_keeps : {N : Type 0} (test : Cell N → Bool) (y : Cell N) (cs : List (Cell N)) → IsIn y cs → test y ≡ true
    → IsIn y (filter test cs)
filter_keeps test y [] i h = elim i [ ]
filter_keeps test y (c ∷ cs) i h = kept_by test y c cs (test c) refl h (λ j. filter_keeps test y cs j h) i

pub tested_by : {N : Type 0} (test : Cell N → Bool) (y c : Cell N) (cs : List (Cell N)) (t : Bool) → test c ≡ t
    → (IsIn y (filter test cs) → test y ≡ true) → IsIn y (cond t (c ∷ filter test cs) (filter test cs))
    → test y ≡ true
tested_by test y _ cs true e more (first _) = e
tested_by test y c cs true e more (later _ _ i) = more i
tested_by test y c cs false e more i = more i

pub filter_tests : {N : Type 0} (test : Cell N → Bool) (y : Cell N) (cs : List (Cell N)) → IsIn y (filter test cs)
    → test y ≡ true
filter_tests test y [] i = elim i [ ]
filter_tests test y (c ∷ cs) i = tested_by test y c cs (test c) refl (λ j. filter_tests test y cs j) i

pub none_any : {N : Type 0} (test : Cell N → Bool) (cs : List (Cell N)) → ((z : Cell N) → IsIn z cs → test z ≡ false)
    → list_any test cs ≡ false
none_any test [] h = refl
none_any test (c ∷ cs) h =
    or_from (test c) (list_any test cs) (h c (first cs)) (none_any test cs (λ z i. h z (later c cs i)))

pub split_goes : {N : Type 0} (D : Ops N) → Lawful D → (k : Known N) (p : ByteRange) → AreCells k.model k.cells
    → is_same_side p.side Shared ≡ false → Goes D k p k.cells (split D k p)
split_goes {N = N} D law k p a e =
    let test : Cell N → Bool = λ x. is_partly_in p (place_of k.model x) in
    goes D law k p (cut_cells k.model p k.cells) k.cells a e (λ x i. filter_tests test x k.cells i)
    (λ y i h. record { cell = y; is_in = filter_keeps test y k.cells i h; same = same_itself y })

pub of_splits : {N : Type 0} (D : Ops N) → Lawful D → SplitLaws D
of_splits {N = N} D law = record {
  cells = λ k p a e. (split_goes D law k p a e).cells;
  none_cut = λ k p a e. none_any (λ (c : Cell N). is_partly_in p (place_of k.model c)) (split D k p) (split_goes D
      law k p
      a e).none;
  holds = λ k p a e. (split_goes D law k p a e).holds;
}
