-- Forms that wait follow splits and writes.
use Rattle.std.proofs.Common.{◌≡◌, ◌+◌, Bool, true, false, ◌&&◌, ◌||◌, not, List, [], ◌∷◌, ◌++◌, map, ⊎_elim, Option}
use Rattle.ep_reads.proofs.Members.{place_alike}
use Rattle.std.proofs.lemmas.Bool.{or_parts}
use Rattle.std.proofs.Common.{Some, None, refl, sym, ap, ◌∙◌, subst}
use Rattle.std.specs.Option.{option_map_or}
use Rattle.std.proofs.lemmas.Bool.{and_parts, and_from, false_from_ne_true, both_ways}
use Rattle.ep_int.specs.declared.types.Model.{Model}
use Rattle.ep_int.specs.declared.types.Order.{Order}
use Rattle.ep_int.specs.declared.types.Scalar.{Scalar}
use Rattle.ep_int.specs.Types.{size_of}
use Rattle.ep_int.specs.Memory.{Memory, Value as Datum, number_in}
use Rattle.ep_int.proofs.Encodings.{decoded_same}
use Rattle.ep_bitslice.specs.declared.cell.Side.{Side as CellSide}
use Rattle.ep_bitslice.specs.declared.cell.Side.TheVariants.{Left, Right, Shared}
use Rattle.ep_bitslice.specs.declared.cell.CellName.{CellName}
use Rattle.ep_domain.specs.Domain.{Ops, Lawful}
use Rattle.ep_cells.specs.declared.cell.Cell.{Cell}
use Rattle.ep_cells.specs.declared.place.ByteRange.{ByteRange}
use Rattle.ep_cells.specs.Cells.{on_left, on_right, share_memory, side_without, place_of, touches, encloses}
use Rattle.ep_cells.specs.Cells.{is_partly_in, is_same_side, IsIn, first, later, put, put_all, each_becomes}
use Rattle.ep_cells.specs.Both.{cell_like}
use Rattle.ep_cells.specs.Forms.{Fate, form_after, reformed}
use Rattle.ep_cells.specs.Look.{is_some_partly_in}
use Rattle.ep_cells.specs.Write.{left_by_write, fate_by_write}
use Rattle.ep_cells.specs.States.{Known, IsThere, AreCells}
use Rattle.ep_cells.specs.Meaning.{Memories, HasBytes, number_at, number_on, numbers_of, In}
use Rattle.ep_cells.proofs.Lists.{in_map, in_each, in_put_all, in_right}
use Rattle.ep_cells.proofs.Changes.{IsChange, there_reformed}
use Rattle.ep_cells.proofs.Write.{write_change, write_keeps}
use Rattle.ep_cells.proofs.Both.{alike_same}
use Rattle.ep_reads.specs.Bytes.{order_on}
use Rattle.ep_reads.specs.Split.{form_beside, byte_of, byte_cells, fate_by_split, left_by_split, split_cell}
use Rattle.ep_reads.specs.Split.{cut_cells, split_all, split}
use Rattle.ep_reads.specs.SplitLaws.{IsBrokenAt, AreBroken}
use Rattle.ep_reads.proofs.Sides.{on_one, one_within}
use Rattle.ep_reads.proofs.ByteCells.{byte_is, one_of}
use Rattle.ep_reads.proofs.Steps.{step_change}
use Rattle.ep_reads.proofs.OneSplit.{AfterSplit, rest, other, after_split, rest_of, bytes_of_x, split_step}
use Rattle.ep_reads.proofs.OneSplit.{split_cell_cells, split_cell_holds, keeps_of, old}
use Rattle.ep_reads.proofs.Splits.{byte_uncut, IsFirstLike, first_like, cut_shares, filter_tests}
use Rattle.ep_reads.proofs.Splits.{none_any}
use Rattle.ep_reads.proofs.Broken.{between}
use Rattle.ep_cell_ranges.specs.Ranges.{Form, form_by_splits, form_by_split}
use Rattle.ep_cell_ranges.specs.Follow.{FormFits, FormHas}
use Rattle.ep_cell_ranges.specs.Laws.{MoreSplitLaws, MoreWriteLaws}
use Rattle.ep_cell_ranges.proofs.Same.{number_same}
use Rattle.ep_cell_ranges.proofs.Held.{held_fits, says_by, held_numbers, byte_broken}
use Rattle.ep_cell_ranges.proofs.Overwrites.{share_more}

module _ {N : Type 0} (D : Ops N) where
  -- ---- one change

  fits_after : (d : Model) (cs l : List (Cell N)) (f : Fate) → IsChange d cs l f → (w : Scalar) (g : Form)
      → FormFits cs w g → FormFits (map (reformed f) l) w (form_after f g)
  fits_after d cs l f c w g h =
      held_fits cs (map (reformed f) l) f (λ b e t i. there_reformed f e l (c.fates b e t i)) w g h

  -- ---- writes

  pub of_writes : MoreWriteLaws D
  of_writes = record {
    fits = λ k c a w r u f h. fits_after k.model k.cells
        (put c (each_becomes (left_by_write k.model (place_of k.model c)) k.cells))
        (fate_by_write (place_of k.model c)) (write_change k.model c k.cells a w r) u f h;
    numbers = λ k c a m n i r u v f h s. held_numbers k.orders m n k.cells (fate_by_write (place_of k.model c))
        (λ b e t j. write_keeps D k.orders k.model m n c k.cells b e a i.cells r t j) u v f h s;
  }

  -- ---- one split

  abbrev more_there : (more cs : List (Cell N)) (n : CellName) → IsThere n cs → IsThere n (more ++ cs)
  more_there more cs n t = record {
    cell = t.cell;
    is_in = in_right t.cell more cs t.is_in;
    named = t.named;
    sure = t.sure;
  }

  more_fits : (more cs : List (Cell N)) (w : Scalar) (f : Form) → FormFits cs w f → FormFits (more ++ cs) w f
  more_fits more cs w None h = tt
  more_fits more cs w (Some ss) h = record {
    sure = h.sure;
    wide = h.wide;
    form = h.form;
    mentioned = λ n e. more_there
        more cs n (h.mentioned n e);
  }

  cell_fits : (k : Known N) (s : CellSide) (x : Cell N) (cs : List (Cell N)) → AreCells k.model cs → IsIn x cs
      → is_same_side s Shared ≡ false
      → share_memory s x.side ≡ true → (w : Scalar) (f : Form) → FormFits cs w f
      → FormFits (split_cell D k s x cs) w (form_after (fate_by_split s x) f)
  cell_fits k s x cs a i e h w f g =
      fits_after k.model (rest_of s x ++ cs) (put_all (bytes_of_x D k s x) (each_becomes (left_by_split s x) cs))
      (fate_by_split s x)
      (step_change k.model (rest_of s x) cs (bytes_of_x D k s x) (left_by_split s x) (fate_by_split s x) a
      (split_step D k s x cs a i e h)) w f
      (more_fits (rest_of s x) cs w f g)

  abbrev NoneIn : Model → ByteRange → List (Cell N) → Type 0
  NoneIn d q cs = (z : Cell N) → IsIn z cs → is_partly_in q (place_of d z) ≡ false

  rest_cut : (d : Model) (q : ByteRange) (x : Cell N) (t : CellSide) → (on_left t ≡ true → on_left x.side ≡ true)
      → (on_right t ≡ true → on_right x.side ≡ true)
      → is_partly_in q (place_of d (record x { side = t })) ≡ true → is_partly_in q (place_of d x) ≡ true
  rest_cut d q x t l r h =
      let p = place_of d x in
      let y = and_parts (share_memory q.side t && touches q p) (not (encloses q p)) h in
      let z = and_parts (share_memory q.side t) (touches q p) y.0 in
      and_from (share_memory q.side x.side && touches q p) (not (encloses q p))
      (and_from (share_memory q.side x.side) (touches q p) (share_more q.side t x.side l r z.0) z.1) y.1

  left_uncut : (d : Model) (q : ByteRange) (s : CellSide) (x z y : Cell N) → AfterSplit d s x z y
      → is_partly_in q (place_of d z) ≡ false
      → is_partly_in q (place_of d y) ≡ false
  left_uncut d q s x z y (rest t e is r) h =
      subst (λ c. is_partly_in q (place_of d c) ≡ false) (sym is)
      (false_from_ne_true (is_partly_in q (place_of d (record z { side = t })))
      (λ j. both_ways (is_partly_in q (place_of d z)) h (rest_cut d q z t r.within.left r.within.right j)))
  left_uncut d q s x z y (other is e) h = subst (λ c. is_partly_in q (place_of d c) ≡ false) (sym is) h

  cell_uncut : (k : Known N) (q : ByteRange) (s : CellSide) (x : Cell N) (cs : List (Cell N)) → AreCells k.model cs
      → IsIn x cs → NoneIn k.model q cs
      → NoneIn k.model q (split_cell D k s x cs)
  cell_uncut k q s x cs a i none z h =
      let d = k.model in
      let o = order_on s k.orders in
      let f = form_beside x (side_without s x.side) in
      let g = byte_of D o s f x x.what x.value in
      let l = each_becomes (left_by_split s x) cs in
      let r = in_map (reformed (fate_by_split s x)) z (put_all (byte_cells D d o s f x) l) h in
      subst (λ c. is_partly_in q (place_of d c) ≡ false) (sym r.is)
      (⊎_elim
      (λ j.
      let u = one_of g 0 (size_of d x.what) r.origin j in
      let b = byte_is D o s f x x.what x.value u.place in
      subst (λ c. is_partly_in q (place_of d c) ≡ false) (sym (u.is ∙ b.is))
      (byte_uncut q s x.block (x.offset + u.place)))
      (λ j.
      let u = in_each (left_by_split s x) r.origin cs j in
      left_uncut d q s x u.origin r.origin (after_split d s x u.origin r.origin cs a.pairs i u.is_in u.becomes)
      (none u.origin u.is_in))
      (in_put_all (byte_cells D d o s f x) r.origin l r.is_in))

  -- ---- numbers of memories in which pointers are broken

  memory_broken : (o : Order) (d : Model) (p : ByteRange) (t : Bool) (m n : Memory) → IsBrokenAt d p t m n → (c : CellName)
      → number_at o n c ≡ number_at o m c
  memory_broken o d p true m n h c =
      decoded_same o c.t (λ j. number_in (n c.block (c.offset + j))) (λ j. number_in (m c.block (c.offset + j)))
      (λ j l. ap number_in (h.here_broken refl c.block (c.offset + j)) ∙ byte_broken d p.block p.offset p.bytes c.block
      (c.offset + j) (m c.block (c.offset + j)))
  memory_broken o d p false m n h c =
      decoded_same o c.t (λ j. number_in (n c.block (c.offset + j))) (λ j. number_in (m c.block (c.offset + j)))
      (λ j l. ap number_in (h.whole refl c.block (c.offset + j)))

  on_broken : (s : CellSide) (os : Order × Order) (d : Model) (p : ByteRange) (m n : Memories) (c : CellName)
      → AreBroken d p m n
      → number_on s os n c ≡ number_on s os m c
  on_broken Left os d p m n c h = memory_broken os.0 d p (on_left p.side) m.left n.left h.left c
  on_broken Right os d p m n c h = memory_broken os.1 d p (on_right p.side) m.right n.right h.right c
  on_broken Shared os d p m n c h = memory_broken os.0 d p (on_left p.side) m.left n.left h.left c

  still : (os : Order × Order) (d : Model) (p : ByteRange) (m n : Memories) (w : Scalar) (v : Datum) (f : Form)
      → AreBroken d p m n → FormHas os m w v f
      → FormHas os n w v f
  still os d p m n w v None r h = tt
  still os d p m n w v (Some ss) r h =
      says_by os m n w v ss ss (number_same (numbers_of os n) (numbers_of os m) ss
      (λ c. on_broken c.side os d p m n c r)) h

  none_of : (d : Model) (p : ByteRange) (cs : List (Cell N)) (x : Cell N) → is_some_partly_in d p cs ≡ false → IsIn x cs
      → is_partly_in p (place_of d x) ≡ false
  none_of d p [] x h i = elim i [ ]
  none_of d p (c ∷ cs) x h (first _) = (or_parts (is_partly_in p (place_of d x)) (is_some_partly_in d p cs) h).0
  none_of d p (c ∷ cs) x h (later _ _ i) = none_of d p cs x (or_parts (is_partly_in p (place_of d c))
      (is_some_partly_in d p cs) h).1 i

  -- ---- all of them

  record Waited (k : Known N) (p : ByteRange) (cs after : List (Cell N)) (g : Form → Form) : Type 0 where
    fits : (w : Scalar) (f : Form) → FormFits cs w f → FormFits after w (g f)
    uncut : (q : ByteRange) → NoneIn k.model q cs → NoneIn k.model q after
    numbers : (m n : Memories) → In D (record k { cells = cs }) m → AreBroken k.model p m n
        → (w : Scalar) (v : Datum) (f : Form) → FormFits cs w f
        → FormHas k.orders m w v f → FormHas k.orders n w v (g f)

  module _ (law : Lawful D) where
    cell_waited : (k : Known N) (p : ByteRange) (x y : Cell N) (xs cs : List (Cell N)) → AreCells k.model cs
        → is_same_side p.side Shared ≡ false
        → is_partly_in p (place_of k.model x) ≡ true → IsFirstLike x cs y
        → Waited k p (split_cell D k p.side y cs) (split_all D k p.side xs (split_cell D k p.side y cs))
        (form_by_splits D k p.side xs (split_cell D k p.side y cs))
        → Waited k p cs (split_all D k p.side xs (split_cell D k p.side y cs))
        (λ f. form_by_splits D k p.side xs (split_cell D k p.side y cs) (form_after (fate_by_split p.side y) f))
    cell_waited k p x y xs cs a e h f more =
        let cut : is_partly_in p (place_of k.model y) ≡ true = subst (λ q. is_partly_in p q ≡ true)
        (sym (place_alike k.model y x (alike_same y x f.same))) h in
        let share = cut_shares p (place_of k.model y) cut in
        record {
          fits = λ w g i. more.fits w (form_after (fate_by_split p.side y) g)
              (cell_fits k p.side y cs a f.is_in e share w g i);
          uncut = λ q none. more.uncut q (cell_uncut k q p.side y cs a f.is_in none);
          numbers = λ m n i r w v g j s.
              let says = i.cells y f.is_in in
              let bytes = on_one (λ o z. HasBytes o z (size_of k.model y.what) y.what y.maybe y.block y.offset
              says.datum)
              k.orders m p.side y.side e share says.stands.left says.stands.right in
              let b = between k.orders k.model p y y.what m n says.datum refl e cut r bytes in
              more.numbers b.between n (split_cell_holds D law k p.side y cs m b.between a f.is_in e share b.loosened i)
              b.broken w v
              (form_after (fate_by_split p.side y) g) (cell_fits k p.side y cs a f.is_in e share w g j)
              (held_numbers k.orders m b.between cs (fate_by_split p.side y)
              (λ c d t q. keeps_of D k.orders k.model m b.between p.side y cs c d (more_there (rest_of p.side y) cs c t)
              a f.is_in share
              (one_within p.side y.side e share) b.loosened.rewritten i.cells q (old t.is_in))
              w v g j s);
        }

    like_waited : (k : Known N) (p : ByteRange) (x : Cell N) (xs cs : List (Cell N)) (o : Option (Cell N))
        → cell_like x cs ≡ o → AreCells k.model cs
        → is_same_side p.side Shared ≡ false → is_partly_in p (place_of k.model x) ≡ true
        → ((l : List (Cell N)) → AreCells k.model l
        → Waited k p l (split_all D k p.side xs l) (form_by_splits D k p.side xs l))
        → Waited k p cs (split_all D k p.side xs (option_map_or (λ y. split_cell D k p.side y cs) o cs))
        (λ f. form_by_splits D k p.side xs (option_map_or (λ y. split_cell D k p.side y cs) o cs)
        (option_map_or (λ y. form_after (fate_by_split p.side y) f) o f))
    like_waited k p x xs cs None n a e h more = more cs a
    like_waited k p x xs cs (Some y) n a e h more =
        let f = first_like x cs y n in
        let cut : is_partly_in p (place_of k.model y) ≡ true = subst (λ q. is_partly_in p q ≡ true)
        (sym (place_alike k.model y x (alike_same y x f.same))) h in
        cell_waited k p x y xs cs a e h f
        (more (split_cell D k p.side y cs) (split_cell_cells D k p.side y cs a f.is_in e
        (cut_shares p (place_of k.model y) cut)))

    waited : (k : Known N) (p : ByteRange) (xs cs : List (Cell N)) → AreCells k.model cs
        → is_same_side p.side Shared ≡ false
        → ((x : Cell N) → IsIn x xs → is_partly_in p (place_of k.model x) ≡ true)
        → Waited k p cs (split_all D k p.side xs cs) (form_by_splits D k p.side xs cs)
    waited k p [] cs a e cuts = record {
      fits = λ w f h. h;
      uncut = λ q none. none;
      numbers = λ m n i r w v f h s. still k.orders k.model p m n w v f r s;
    }
    waited k p (x ∷ xs) cs a e cuts =
        like_waited k p x xs cs (cell_like x cs) refl a e (cuts x (first xs))
        (λ l b. waited k p xs l b e (λ y i. cuts y (later x xs i)))

    split_waited : (k : Known N) (p : ByteRange) → AreCells k.model k.cells → is_same_side p.side Shared ≡ false
        → Waited k p k.cells (split D k p) (form_by_split D p k)
    split_waited k p a e =
        waited k p (cut_cells k.model p k.cells) k.cells a e
        (λ x i. filter_tests (λ (c : Cell N). is_partly_in p (place_of k.model c)) x k.cells i)

    pub of_splits : MoreSplitLaws D
    of_splits = record {
      uncut = λ k p q a e h. none_any (λ (c : Cell N). is_partly_in q (place_of k.model c)) (split D k p)
          ((split_waited k p a e).uncut q (λ z i. none_of k.model q k.cells z h i));
      fits = λ k p a e w f h. (split_waited k p a e).fits w f h;
      numbers = λ k p a e m n i r w v f h s. (split_waited k p a e).numbers m n i r w v f h s;
    }
