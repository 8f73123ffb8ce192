-- A place of n bytes may have been written: what is left is a state, and holds.
use Rattle.std.proofs.Common.{◌≡◌, ℕ, ◌+◌, ◌<◌, Bool, true, false, ◌&&◌, nat_eq, cond, List, []}
use Rattle.ep_cells.proofs.Beside.{not_in, nothing_stays, number_stays, others_by, part_kept}
use Rattle.std.proofs.Common.{◌∷◌, ⊎_elim, Option, Some, None, IfSome, refl, sym, ap, ◌∙◌, subst}
use Rattle.std.proofs.lemmas.Bool.{and_from, both_ways}
use Rattle.std.proofs.lemmas.Bool.{cases_Bool}
use Rattle.ep_int.specs.declared.types.Model.{Model}
use Rattle.ep_int.specs.declared.types.Order.{Order}
use Rattle.ep_int.specs.declared.types.IntType.{IntType}
use Rattle.ep_int.specs.declared.types.Scalar.{Scalar}
use Rattle.ep_int.specs.declared.types.Scalar.TheVariants.{Int, Pointer}
use Rattle.ep_int.specs.Types.{size_of, pointer_bytes}
use Rattle.ep_int.specs.Memory.{undefined, Memory, Value as Datum, int, pointer}
use Rattle.ep_int.specs.Memory.{lies_partly, broken}
use Rattle.ep_bitslice.specs.declared.cell.Side.{Side}
use Rattle.ep_bitslice.specs.declared.cell.Side.TheVariants.{Left, Right, Shared}
use Rattle.ep_bitslice.specs.declared.cell.CellName.{CellName}
use Rattle.ep_bitslice.specs.declared.segment.Segment.{Segment}
use Rattle.ep_bitslice.specs.Segments.{number as form_number}
use Rattle.ep_domain.specs.Domain.{Ops, Lawful}
use Rattle.ep_cells.specs.declared.cell.Cell.{Cell}
use Rattle.ep_cells.specs.declared.cell.Value.{Value}
use Rattle.ep_cells.specs.declared.cell.Value.TheVariants.{Num, Ptr}
use Rattle.ep_cells.specs.declared.place.ByteRange.{ByteRange}
use Rattle.ep_cells.specs.Cells.{on_left, on_right, place_of, touches, IsIn, each_becomes}
use Rattle.ep_cells.specs.Weaken.{fate_by_weak_write}
use Rattle.ep_cells.specs.States.{Known, IsFormOf, HasForm, AreApart, IsCell, IsThere, AreCells}
use Rattle.ep_cells.specs.Meaning.{Memories, Allows, HasBytes, Says, HasNumber, FormSays, numbers_of, In}
use Rattle.ep_cells.specs.Memories.{is_byte_of}
use Rattle.ep_cells.proofs.Lists.{in_each, each_in, pairs_each}
use Rattle.ep_cells.proofs.Kept.{KeepsByte, byte_same, KeepsBytes, bytes_kept}
use Rattle.ep_cells.proofs.Bytes.{SameBytes, bytes_same}
use Rattle.ep_cells.proofs.Places.{at, Within, within_itself, IsRest, apart_made}
use Rattle.ep_cells.proofs.Changes.{IsKept, kept_says, IsChange, there_reformed, change_cells, change_holds}
use Rattle.ep_cells.proofs.Write.{numbers_kept}
use Rattle.ep_cells.proofs.Beside.{PointerWide}
use Rattle.ep_cells.proofs.WeakCells.{IsSmall, small_bytes, small_broken, number_here, some_number, some_in_range}
use Rattle.ep_cell_ranges.specs.Spots.{Spot}
use Rattle.ep_cell_ranges.specs.Ranges.{left_by_blur, blurred_at}
use Rattle.ep_cell_ranges.specs.Moves.{place_at, blurred_each}
use Rattle.ep_cell_ranges.specs.Sound.{MayBeChanged, unchanged, changed, MayBothBeChanged, IsAmong, at_first}
use Rattle.ep_cell_ranges.specs.Sound.{behind}
use Rattle.ep_cell_ranges.specs.Laws.{BlurLaws, BlurEachLaws}
use Rattle.ep_cell_ranges.proofs.Held.{Leads, held_fits, held_numbers, KeepsBeside, KeepBeside, same_keeps}
use Rattle.ep_cell_ranges.proofs.Held.{broken_keeps, weak_names}
use Rattle.ep_cell_ranges.proofs.BlurCells.{any_of, AfterBlur, beside, other, blurry, after_blur, after_made}
use Rattle.ep_cell_ranges.proofs.BlurCells.{own_pairs, after_cell, follows_blur}

-- ---- bytes of cells that the place doesn't touch

byte_broken : (d : Model) (m : Memory) (p : ByteRange) (s : Side) (b q size j : ℕ) (v : Option Datum)
    → touches p (at s b q size) ≡ false → PointerWide d size v
    → KeepsByte v j (m b (q + j)) (broken d m p.block p.offset p.bytes b (q + j))
byte_broken d m p s b q size j v t w = record {
  numbers = λ k h. number_stays d m p.block p.offset p.bytes b (q + j) k h;
  nothing = λ h. nothing_stays d m p.block p.offset p.bytes b (q + j) h;
  others = λ h. others_by (nat_eq p.block b && lies_partly d p.offset p.bytes (m b (q + j)) (q + j)) (m b (q + j)) h;
  parts = λ c o e h.
      ap (λ z. cond z undefined (m b (q + j)))
      (part_kept d m p s b q j c o (subst (λ (k : ℕ). touches p (at s b q k) ≡ false) (w.wide c o e) t) h)
      ∙ h;
}

bytes_beside : (d : Model) (p : ByteRange) (here : Bool) (m n : Memory) (s : Side) (b q size : ℕ) (v : Option Datum)
    → MayBeChanged d p here m n → touches p (at s b q size) ≡ false → PointerWide d size v → KeepsBytes v m n b q size
bytes_beside d p here m n s b q size v (unchanged e) t w = record {
  at = λ j l. byte_same v j (m b (q + j)) (n b (q + j)) (e b (q + j));
}
bytes_beside d p here m n s b q size v (changed f r i) t w = record {
  at = λ j l. subst (KeepsByte v j (m b (q + j))) (sym (r.beside b (q + j) (not_in p s b q size j t l)))
      (byte_broken d m p s b q size j v t w);
}

unwritten : (d : Model) (p : ByteRange) (here : Bool) (m n : Memory) (b q size : ℕ) → MayBeChanged d p here m n
    → here ≡ false → SameBytes m n b q size
unwritten d p here m n b q size (unchanged e) w = record { same = λ j l. e b (q + j) }
unwritten d p here m n b q size (changed f r i) w = absurd (both_ways here w f)

small_after : (d : Model) (p : ByteRange) (here : Bool) (m n : Memory) (b q : ℕ) → MayBeChanged d p here m n
    → IsSmall (m b q) → IsSmall (n b q)
small_after d p here m n b q (unchanged e) h = subst IsSmall (sym (e b q)) h
small_after d p here m n b q (changed f r i) h =
    ⊎_elim (λ e. record { small = λ k g. i.below b q k e g })
    (λ e. subst IsSmall (sym (r.beside b q e))
    (small_broken (nat_eq p.block b && lies_partly d p.offset p.bytes (m b q) q) (m b q) h))
    (cases_Bool (is_byte_of p b q))

changed_keeps : (d : Model) (p : ByteRange) (here : Bool) (m n : Memory) → MayBeChanged d p here m n
    → KeepsBeside p here m n
changed_keeps d p here m n (unchanged e) = same_keeps p here m n e
changed_keeps d p here m n (changed f r i) = broken_keeps d p here m n f r

module _ {N : Type 0} (D : Ops N) where
  wide_by : (d : Model) (w : Scalar) (u : Option (Value N)) (maybe : Bool) (c o : ℕ)
      → Allows D w u maybe (Some (pointer c o)) → size_of d w ≡ pointer_bytes d
  wide_by d w None maybe c o a = absurd (let e : Some (pointer c o) ≡ None = a in cc)
  wide_by d (Int t) (Some (Num n)) maybe c o a = absurd a
  wide_by d (Int t) (Some (Ptr n)) maybe c o a = absurd a
  wide_by d Pointer (Some u) maybe c o a = refl

  pub wide_of : (d : Model) (w : Scalar) (u : Option (Value N)) (maybe : Bool) (v : Option Datum)
      → Allows D w u maybe v → PointerWide d (size_of d w) v
  wide_of d w u maybe v a = record { wide = λ c o e. wide_by d w u maybe c o (subst (Allows D w u maybe) e a) }

  kept_beside : (os : Order × Order) (d : Model) (p : ByteRange) (x : Cell N) (m n : Memories) → MayBothBeChanged d p m n
      → touches p (place_of d x) ≡ false → IsKept D os d m n x x
  kept_beside os d p x m n s t = record {
    side = x.side;
    is = refl;
    within = within_itself x.side;
    stands = λ v a h. record {
      left = λ e. bytes_kept os.0 m.left n.left (size_of d x.what) x.what x.maybe x.block x.offset v
          (bytes_beside d p (on_left p.side) m.left n.left x.side x.block x.offset (size_of d x.what) v s.left t
          (wide_of d x.what x.value x.maybe v a)) (h.left e);
      right = λ e. bytes_kept os.1 m.right n.right (size_of d x.what) x.what x.maybe x.block x.offset v
          (bytes_beside d p (on_right p.side) m.right n.right x.side x.block x.offset (size_of d x.what) v s.right t
          (wide_of d x.what x.value x.maybe v a)) (h.right e);
    };
  }

  kept_other : (os : Order × Order) (d : Model) (p : ByteRange) (x : Cell N) (m n : Memories) (t : Side)
      → MayBothBeChanged d p m n → IsRest p.side x.side t → IsKept D os d m n x (record x { side = t })
  kept_other os d p x m n t s i = record {
    side = t;
    is = refl;
    within = i.within;
    stands = λ v a h. record {
      left = λ e. bytes_same os.0 m.left n.left (size_of d x.what) x.what x.maybe x.block x.offset v
          (unwritten d p (on_left p.side) m.left n.left x.block x.offset (size_of d x.what) s.left (i.left e))
          (h.left (i.within.left e));
      right = λ e. bytes_same os.1 m.right n.right (size_of d x.what) x.what x.maybe x.block x.offset v
          (unwritten d p (on_right p.side) m.right n.right x.block x.offset (size_of d x.what) s.right (i.right e))
          (h.right (i.within.right e));
    };
  }

  -- ---- a cell that may have any value

  module _ (law : Lawful D) where
    any_bytes : (o : Order) (d : Model) (n : Memory) (w : Scalar) (t : IntType) (b q : ℕ) → w ≡ Int t
        → ((j : ℕ) → j < size_of d w → IsSmall (n b (q + j)))
        → HasBytes o n (size_of d w) w true b q (Some (int (number_here o t n b q)))
    any_bytes o d n w t b q e h =
        subst (λ (z : Scalar). HasBytes o n (size_of d z) z true b q (Some (int (number_here o t n b q)))) (sym e)
        (some_number o t n b q (subst (λ (z : Scalar). (j : ℕ) → j < size_of d z → IsSmall (n b (q + j))) e h))

    any_allowed : (o : Order) (d : Model) (n : Memory) (w : Scalar) (t : IntType) (b q : ℕ) → w ≡ Int t
        → ((j : ℕ) → j < size_of d w → IsSmall (n b (q + j)))
        → Allows D w (Some (Num (D.top t))) true (Some (int (number_here o t n b q)))
    any_allowed o d n w t b q e h =
        let r = some_in_range o t n b q (subst (λ (z : Scalar). (j : ℕ) → j < size_of d z → IsSmall (n b (q + j))) e h)
        in
        subst (λ (z : Scalar). Allows D z (Some (Num (D.top t))) true (Some (int (number_here o t n b q)))) (sym e)
        (r, law.top_holds t (number_here o t n b q) r)

    any_left : (os : Order × Order) (d : Model) (p : ByteRange) (m n : Memories) (x : Cell N) (s : Side) (t : IntType)
        → x.what ≡ Int t → Within s x.side → on_left s ≡ true → (on_right s ≡ true → ⊥)
        → MayBeChanged d p (on_left p.side) m.left n.left → Says D os d m x → Says D os d n (any_of D s t x)
    any_left os d p m n x s t e w on off h says =
        let small : (j : ℕ) → j < size_of d x.what → IsSmall (n.left x.block (x.offset + j)) = λ j l.
        small_after d p (on_left p.side) m.left n.left x.block (x.offset + j) h
        (small_bytes os.0 m.left (size_of d x.what) x.what x.maybe x.block x.offset says.datum
        (says.stands.left (w.left on)) j l) in
        record {
          datum = Some (int (number_here os.0 t n.left x.block x.offset));
          allowed = any_allowed os.0 d n.left x.what t x.block x.offset e small;
          stands = record {
            left = λ g. any_bytes os.0 d n.left x.what t x.block x.offset e small;
            right = λ g. absurd (off g);
          };
        }

    any_right : (os : Order × Order) (d : Model) (p : ByteRange) (m n : Memories) (x : Cell N) (s : Side) (t : IntType)
        → x.what ≡ Int t → Within s x.side → on_right s ≡ true → (on_left s ≡ true → ⊥)
        → MayBeChanged d p (on_right p.side) m.right n.right → Says D os d m x → Says D os d n (any_of D s t x)
    any_right os d p m n x s t e w on off h says =
        let small : (j : ℕ) → j < size_of d x.what → IsSmall (n.right x.block (x.offset + j)) = λ j l.
        small_after d p (on_right p.side) m.right n.right x.block (x.offset + j) h
        (small_bytes os.1 m.right (size_of d x.what) x.what x.maybe x.block x.offset says.datum
        (says.stands.right (w.right on)) j l) in
        record {
          datum = Some (int (number_here os.1 t n.right x.block x.offset));
          allowed = any_allowed os.1 d n.right x.what t x.block x.offset e small;
          stands = record {
            left = λ g. absurd (off g);
            right = λ g. any_bytes os.1 d n.right x.what t x.block x.offset e small;
          };
        }

    some_memory : (s : Side) → on_left s ≡ false → on_right s ≡ true
    some_memory Left e = absurd (cc)
    some_memory Right e = refl
    some_memory Shared e = absurd (cc)

    any_says : (os : Order × Order) (d : Model) (p : ByteRange) (m n : Memories) (x : Cell N) (s : Side) (t : IntType)
        → x.what ≡ Int t → Within s x.side → (on_left s && on_right s) ≡ false → MayBothBeChanged d p m n
        → Says D os d m x → Says D os d n (any_of D s t x)
    any_says os d p m n x s t e w one h says =
        ⊎_elim
        (λ on. any_left os d p m n x s t e w on (λ g. both_ways (on_left s && on_right s) one (and_from (on_left s)
        (on_right s) on g)) h.left says)
        (λ off. any_right os d p m n x s t e w (some_memory s off) (λ g. both_ways (on_left s) off g) h.right says)
        (cases_Bool (on_left s))

    after_says : (os : Order × Order) (d : Model) (p : ByteRange) (m n : Memories) (x y : Cell N) → MayBothBeChanged d p m n
        → AfterBlur D d p x y → Says D os d m x → Says D os d n y
    after_says os d p m n x y c (beside e t) says =
        subst (Says D os d n) (sym e) (kept_says D os d m n x x (kept_beside os d p x m n c t) says)
    after_says os d p m n x y c (other t e i) says =
        subst (Says D os d n) (sym e) (kept_says D os d m n x (record x { side = t }) (kept_other os d p x m n t c i)
        says)
    after_says os d p m n x y c (blurry i) says =
        subst (Says D os d n) (sym i.is) (any_says os d p m n x i.side i.t i.what i.within i.one c says)

    after_number : (os : Order × Order) (d : Model) (p : ByteRange) (m n : Memories) (cs : List (Cell N)) (x y : Cell N)
        → AreCells d cs → IsIn x cs → MayBothBeChanged d p m n → AfterBlur D d p x y → Says D os d m x
        → IfSome x.form (FormSays os m x)
        → IfSome y.form (λ ss. HasNumber os n y y.what (form_number (numbers_of os m) ss))
    after_number os d p m n cs x y a j c (beside e t) says f =
        numbers_kept D os d m n cs x y x.side e (subst (IsKept D os d m n x) (sym e) (kept_beside os d p x m n c t))
        (a.each x j).fits says (a.forms x j) f
    after_number os d p m n cs x y a j c (other t e i) says f =
        numbers_kept D os d m n cs x y t e (subst (IsKept D os d m n x) (sym e) (kept_other os d p x m n t c i))
        (a.each x j).fits says (a.forms x j) f
    after_number os d p m n cs x y a j c (blurry i) says f =
        subst (λ (z : Cell N). IfSome z.form (λ ss. HasNumber os n z z.what (form_number (numbers_of os m) ss)))
        (sym i.is) tt

  form_on : (cs : List (Cell N)) (x : Cell N) (s : Side) (o : Option (List Segment)) → IfSome o (IsFormOf cs x)
      → IfSome o (IsFormOf cs (record x { side = s }))
  form_on cs x s None h = tt
  form_on cs x s (Some ss) h = record { sure = h.sure; wide = h.wide; form = h.form; mentioned = h.mentioned }

  after_form : (d : Model) (p : ByteRange) (cs : List (Cell N)) (x y : Cell N) → AfterBlur D d p x y → HasForm cs x
      → HasForm cs y
  after_form d p cs x y (beside e t) h = subst (HasForm cs) (sym e) h
  after_form d p cs x y (other t e i) h = subst (HasForm cs) (sym e) (form_on cs x t x.form h)
  after_form d p cs x y (blurry i) h = subst (HasForm cs) (sym i.is) tt

  -- ---- the law

  abbrev all_left : Model → ByteRange → List (Cell N) → List (Cell N)
  all_left d p cs = each_becomes (left_by_blur D d p) cs

  by_origin : (d : Model) (p : ByteRange) (cs : List (Cell N)) (P : Cell N → Type 0)
      → ((x y : Cell N) → IsIn x cs → AfterBlur D d p x y → P y) → (y : Cell N) → IsIn y (all_left d p cs) → P y
  by_origin d p cs P old y h =
      let r = in_each (left_by_blur D d p) y cs h in old r.origin y r.is_in (after_blur D d p r.origin y r.becomes)

  there_left : (d : Model) (p : ByteRange) (cs : List (Cell N)) (c e : CellName) → IsThere c cs
      → fate_by_weak_write p c ≡ Some e
      → IsThere e (all_left d p cs)
  there_left d p cs c e t h =
      let f = follows_blur D d p t.cell c e t.named h in record {
        cell = record t.cell { side = f.side };
        is_in = each_in (left_by_blur D d p) t.cell (record t.cell { side = f.side }) cs t.is_in f.is_in;
        named = f.named;
        sure = t.sure;
      }

  blur_change : (d : Model) (p : ByteRange) (cs : List (Cell N)) → AreCells d cs
      → IsChange d cs (all_left d p cs) (fate_by_weak_write p)
  blur_change d p cs a = record {
    each = by_origin d p cs (IsCell d) (λ x y i w. after_cell D d p x y w (a.each x i));
    pairs = pairs_each (AreApart d) (left_by_blur D d p) cs a.pairs (λ x i. own_pairs D d p x)
        (λ x y u v r i j. apart_made d x y u v r (after_made D d p x u (after_blur D d p x u i))
        (after_made D d p y v (after_blur D d p y v j)));
    forms = by_origin d p cs (HasForm cs) (λ x y i w. after_form d p cs x y w (a.forms x i));
    fates = λ c e t h. there_left d p cs c e t h;
  }

  blur_keep : (d : Model) (p : ByteRange) (m n : Memories) → MayBothBeChanged d p m n → KeepBeside p m n
  blur_keep d p m n c = record {
    left = changed_keeps d p (on_left p.side) m.left n.left c.left;
    right = changed_keeps d p (on_right p.side) m.right n.right c.right;
  }

  blur_leads : (k : Known N) (p : ByteRange) → Leads k.cells (blurred_at D p k).cells (fate_by_weak_write p)
  blur_leads k p = λ c e t h. there_reformed (fate_by_weak_write p) e (all_left k.model p k.cells)
      (there_left k.model p k.cells c e t h)

  pub blur_cells : (k : Known N) (p : ByteRange) → AreCells k.model k.cells → AreCells k.model (blurred_at D p k).cells
  blur_cells k p a = change_cells k.model k.cells (all_left k.model p k.cells) (fate_by_weak_write p)
      (blur_change k.model p k.cells a)

  module _ (law : Lawful D) where
    pub blur_holds : (k : Known N) (p : ByteRange) → AreCells k.model k.cells → (m n : Memories) → In D k m
        → MayBothBeChanged k.model p m n → In D (blurred_at D p k) n
    blur_holds k p a m n i c =
        change_holds D k.orders k.model m n k.cells (all_left k.model p k.cells) (fate_by_weak_write p)
        (blur_change k.model p k.cells a)
        (record {
          says = by_origin k.model p k.cells (Says D k.orders k.model n)
              (λ x y j w. after_says law k.orders k.model p m n x y c w (i.cells x j));
          numbers = by_origin k.model p k.cells
              (λ y. IfSome y.form (λ ss. HasNumber k.orders n y y.what (form_number (numbers_of k.orders m) ss)))
              (λ x y j w. after_number law k.orders k.model p m n k.cells x y a j c w (i.cells x j) (i.forms x j));
          keeps = weak_names k.orders p m n k.cells (blur_keep k.model p m n c);
        })

    pub of_blurs : BlurLaws D
    of_blurs = record {
      cells = blur_cells;
      holds = blur_holds;
      fits = λ k p w f h. held_fits k.cells (blurred_at D p k).cells (fate_by_weak_write p) (blur_leads k p) w f h;
      numbers = λ k p m n c w v f h s.
          held_numbers k.orders m n k.cells (fate_by_weak_write p)
          (weak_names k.orders p m n k.cells (blur_keep k.model p m n c)) w v f h s;
    }

    -- ---- one of several places

    each_cells : (k : Known N) (s : Side) (bytes : ℕ) (qs : List Spot) → AreCells k.model k.cells
        → AreCells k.model (blurred_each D s bytes qs k).cells
    each_cells k s bytes [] a = a
    each_cells k s bytes (q ∷ qs) a = each_cells (blurred_at D (place_at s q bytes) k) s bytes qs
        (blur_cells k (place_at s q bytes) a)

    as_it_is : (d : Model) (p : ByteRange) (m : Memories) → MayBothBeChanged d p m m
    as_it_is d p m = record { left = unchanged (λ b q. refl); right = unchanged (λ b q. refl) }

    none_holds : (k : Known N) (s : Side) (bytes : ℕ) (qs : List Spot) → AreCells k.model k.cells → (m : Memories)
        → In D k m
        → In D (blurred_each D s bytes qs k) m
    none_holds k s bytes [] a m i = i
    none_holds k s bytes (q ∷ qs) a m i =
        none_holds (blurred_at D (place_at s q bytes) k) s bytes qs (blur_cells k (place_at s q bytes) a) m
        (blur_holds k (place_at s q bytes) a m m i (as_it_is k.model (place_at s q bytes) m))

    one_holds : (q : Spot) (k : Known N) (s : Side) (bytes : ℕ) (qs : List Spot) → IsAmong q qs
        → AreCells k.model k.cells
        → (m n : Memories) → In D k m → MayBothBeChanged k.model (place_at s q bytes) m n
        → In D (blurred_each D s bytes qs k) n
    one_holds q k s bytes _ (at_first qs) a m n i c =
        none_holds (blurred_at D (place_at s q bytes) k) s bytes qs (blur_cells k (place_at s q bytes) a) n
        (blur_holds k (place_at s q bytes) a m n i c)
    one_holds q k s bytes _ (behind r qs j) a m n i c =
        one_holds q (blurred_at D (place_at s r bytes) k) s bytes qs j (blur_cells k (place_at s r bytes) a) m n
        (blur_holds k (place_at s r bytes) a m m i (as_it_is k.model (place_at s r bytes) m)) c

    pub of_blurs_each : BlurEachLaws D
    of_blurs_each = record {
      cells = each_cells;
      holds = λ k s bytes qs q a j m n i c. one_holds q k s bytes qs j a m n i c;
    }
