-- Where a place is written, the cells that have bytes of it are split or go, and all others stay.
use Rattle.std.proofs.Common.{◌≡◌, ℕ, suc, ◌+◌, ◌<◌, ◌≤◌, Bool, true, false, ◌&&◌, not, cond, nat_eq, nat_lt, List, []}
use Rattle.std.proofs.Common.{◌∷◌, ◌⊎◌, inl, inr, Option, Some, None, refl, sym, ap, ◌∙◌, subst, arith}
use Rattle.std.specs.Option.{option_map, option_map_or}
use Rattle.std.proofs.lemmas.Bool.{and_parts, both_ways, eqb-true}
use Rattle.ep_int.specs.declared.types.Model.{Model}
use Rattle.ep_int.specs.declared.types.Scalar.TheVariants.{Int}
use Rattle.ep_int.specs.Types.{bytes_of, size_of}
use Rattle.ep_bitslice.specs.declared.cell.Side.{Side}
use Rattle.ep_bitslice.specs.declared.cell.Side.TheVariants.{Left, Right, Shared}
use Rattle.ep_bitslice.specs.declared.cell.CellName.{CellName}
use Rattle.ep_domain.specs.Domain.{Ops}
use Rattle.ep_cells.specs.declared.cell.Cell.{Cell}
use Rattle.ep_cells.specs.declared.place.ByteRange.{ByteRange}
use Rattle.ep_cells.specs.Cells.{IsIn, first, later, place_of, place_of_name, touches, meets, encloses, is_partly_in}
use Rattle.ep_cells.specs.Cells.{share_memory, side_without, with_side, is_same_side, is_same_scalar, is_same_cell}
use Rattle.ep_cells.specs.Cells.{put_all, each_becomes}
use Rattle.ep_cells.specs.Both.{cell_like}
use Rattle.ep_cells.specs.Forms.{Fate, form_after, reformed}
use Rattle.ep_cells.specs.States.{Known}
use Rattle.ep_cells.specs.Write.{left_by_write, fate_by_write}
use Rattle.ep_cells.proofs.Both.{scalar_same, alike_same}
use Rattle.ep_cells.proofs.Lists.{in_each, in_map, map_in, in_put, in_put_all, put_there}
use Rattle.ep_reads.specs.Bytes.{order_on}
use Rattle.ep_reads.specs.Split.{form_beside, byte_of, byte_cells, is_name_of, fate_by_split, left_by_split, split_cell}
use Rattle.ep_reads.specs.Split.{cut_cells, split_like, split_all}
use Rattle.ep_reads.proofs.ByteCells.{byte_is, one_of}
use Rattle.ep_reads.proofs.Members.{place_alike}
use Rattle.ep_reads.proofs.Splits.{first_like, filter_tests}
use Rattle.ep_cell_ranges.specs.Ranges.{Form, Reform, on_cell_side, with_form, form_by_splits, form_by_split}
use Rattle.ep_cell_ranges.specs.Ranges.{split_at, cut, form_by_cut, replaced, form_by_replace}
use Rattle.ep_movers.specs.Symbols.{Symbol, unset, fixed_byte, input_byte}
use Rattle.ep_mover_bits.specs.Laws.{Inputs, HasBytes}
use Rattle.ep_mover_writes.specs.Laws.{AreTaken}
use Rattle.ep_mover_writes.proofs.Kept.{Stays, AllStay, form_kept}
use Rattle.ep_singles.proofs.Covers.{kept_in}

-- ---- forms

module _ (base : Inputs) (count : ℕ) where
  -- What becomes of forms: none stays none, and those of bytes of inputs that were taken stay.
  pub record KeepsForms (g : Reform) : Type 0 where
    pub none : g None ≡ None
    pub bytes : (f : Form) (xs : List Symbol) → HasBytes base f xs → AreTaken count xs → g f ≡ f

  module _ (f : Fate) (h : (i : ℕ) → i < count → f (base i) ≡ Some (base i)) where
    symbol_stays : (x : Symbol) → ((i m : ℕ) → x ≡ input_byte i m → i < count) → Stays base f x
    symbol_stays unset t = tt
    symbol_stays (fixed_byte v) t = tt
    symbol_stays (input_byte i m) t = h i (t i m refl)

    list_stays : (xs : List Symbol) → AreTaken count xs → AllStay base f xs
    list_stays [] t = tt
    list_stays (x ∷ xs) t = (symbol_stays x (λ i m e. t 0 i m (ap Some e)), list_stays xs (λ j i m e. t (suc j) i m e))

    fate_keeps : KeepsForms (form_after f)
    fate_keeps = record { none = refl; bytes = λ g xs b t. form_kept base f g xs b (list_stays xs t) }

  both_keep : (f g : Reform) → KeepsForms f → KeepsForms g → KeepsForms (λ x. g (f x))
  both_keep f g a b = record {
    none = ap g a.none ∙ b.none;
    bytes = λ x xs h t. ap g (a.bytes x xs h t) ∙ b.bytes x xs h t;
  }

  -- a cell is still there, but for its form
  pub record StillThere {N : Type 0} (ds : List (Cell N)) (x : Cell N) : Type 0 where
    pub reform : Reform
    pub keeps : KeepsForms reform
    pub is_in : IsIn (with_form reform x) ds

-- ---- cells

-- a cell lies in one of these
pub record LiesIn {N : Type 0} (d : Model) (cs : List (Cell N)) (y : Cell N) : Type 0 where
  pub cell : Cell N
  pub is_in : IsIn cell cs
  pub block : y.block ≡ cell.block
  pub low : cell.offset ≤ y.offset
  pub high : y.offset + size_of d y.what ≤ cell.offset + size_of d cell.what

-- a cell, or the same one of another side
left_of : {N : Type 0} (z u : Cell N) (b : Bool) (o : Option Side) → IsIn z (cond b (with_side u o) (u ∷ []))
    → (r : Side) × (z ≡ record u { side = r })
left_of _ u false o (first _) = (u.side, refl)
left_of z u false o (later _ _ h) = elim h [ ]
left_of z u true None h = elim h [ ]
left_of _ u true (Some r) (first _) = (r, refl)
left_of z u true (Some r) (later _ _ h) = elim h [ ]

other_side : {N : Type 0} (d : Model) (f : Fate) (cs : List (Cell N)) (z u : Cell N) (r : Side)
    → z ≡ record u { side = r } → LiesIn d cs u → LiesIn d cs (reformed f z)
other_side d f cs z u r e l =
    subst (λ z. LiesIn d cs (reformed f z)) (sym e)
    (record { cell = l.cell; is_in = l.is_in; block = l.block; low = l.low; high = l.high })

cut_touches : (p q : ByteRange) → is_partly_in p q ≡ true → touches p q ≡ true
cut_touches p q h =
    let x = and_parts (meets p q) (not (encloses p q)) h in
    (and_parts (share_memory p.side q.side) (touches p q) x.0).1

module _ {N : Type 0} (d : Model) (P : ByteRange) (base : Inputs) (count : ℕ) where
  -- Cells with no byte in the place stay, and what is there then lies in what was there.
  record Leaves (cs ds : List (Cell N)) : Type 0 where
    stays : (x : Cell N) → IsIn x cs → touches P (place_of d x) ≡ false → StillThere base count ds x
    lies : (y : Cell N) → IsIn y ds → LiesIn d cs y

  -- and there is a new cell
  pub record IsReplaced (cs ds : List (Cell N)) (c : Cell N) : Type 0 where
    pub new : IsIn c ds
    pub stays : (x : Cell N) → IsIn x cs → touches P (place_of d x) ≡ false → StillThere base count ds x
    pub lies : (y : Cell N) → IsIn y ds → (y ≡ c) ⊎ LiesIn d cs y

  leaves_all : (cs : List (Cell N)) → Leaves cs cs
  leaves_all cs = record {
    stays = λ x i e. record {
      reform = λ f. f;
      keeps = record { none = refl; bytes = λ f xs h t. refl };
      is_in = i;
    };
    lies = λ y i. record { cell = y; is_in = i; block = refl; low = omega arith; high = omega arith };
  }

  leaves_then : (cs ds es : List (Cell N)) → Leaves cs ds → Leaves ds es → Leaves cs es
  leaves_then cs ds es l m = record {
    stays = λ x i e. (let a = l.stays x i e in let b = m.stays (with_form a.reform x) a.is_in e in record {
      reform = λ f. b.reform (a.reform f);
      keeps = both_keep base count a.reform b.reform a.keeps b.keeps;
      is_in = b.is_in;
    });
    lies = λ y i. (let b = m.lies y i in let a = l.lies b.cell b.is_in in record {
      cell = a.cell;
      is_in = a.is_in;
      block = b.block ∙ a.block;
      low = omega (arith, a.low, b.low);
      high = omega (arith, a.high, b.high);
    });
  }

-- ---- splits

module _ {N : Type 0} (D : Ops N) (k : Known N) (P : ByteRange) (base : Inputs) (count : ℕ)
    (clear : (i : ℕ) → i < count → touches P (place_of_name (base i)) ≡ false) where
  abbrev d : Model
  d = k.model

  abbrev Leave : List (Cell N) → List (Cell N) → Type 0
  Leave cs ds = Leaves d P base count cs ds

  named_touches : (n : CellName) (x : Cell N) → is_name_of n x ≡ true → touches P (place_of d x) ≡ true
      → touches P (place_of_name n) ≡ true
  named_touches n x e t =
      let a = and_parts (is_same_side n.side x.side)
      (nat_eq n.block x.block && (nat_eq n.offset x.offset && is_same_scalar (Int n.t) x.what)) e in
      let b = and_parts (nat_eq n.block x.block) (nat_eq n.offset x.offset && is_same_scalar (Int n.t) x.what) a.1 in
      let c = and_parts (nat_eq n.offset x.offset) (is_same_scalar (Int n.t) x.what) b.1 in
      let size : bytes_of n.t ≡ size_of d x.what = ap (size_of d) (scalar_same (Int n.t) x.what c.1) in
      ap (λ v. nat_eq P.block v
      && (nat_lt P.offset (n.offset + bytes_of n.t) && nat_lt n.offset (P.offset + P.bytes)))
      (eqb-true n.block x.block b.0)
      ∙ ap (λ v. nat_eq P.block x.block && (nat_lt P.offset (v + bytes_of n.t) && nat_lt v (P.offset + P.bytes)))
      (eqb-true n.offset x.offset c.0)
      ∙ ap (λ v. nat_eq P.block x.block && (nat_lt P.offset (x.offset + v) && nat_lt x.offset (P.offset + P.bytes)))
      size ∙ t

  split_name : (s : Side) (x : Cell N) → touches P (place_of d x) ≡ true → (i : ℕ) → i < count
      → fate_by_split s x (base i) ≡ Some (base i)
  split_name s x t i l = by (is_name_of (base i) x) refl
    where
      by : (b : Bool) → is_name_of (base i) x ≡ b
          → cond b (option_map (λ r. record (base i) { side = r }) (side_without s x.side)) (Some (base i))
          ≡ Some (base i)
      by false e = refl
      by true e = absurd (both_ways (touches P (place_of_name (base i))) (clear i l) (named_touches (base i) x e t))

  same_touches : (x y : Cell N) → is_same_cell y x ≡ true → touches P (place_of d x) ≡ true
      → touches P (place_of d y) ≡ true
  same_touches x y e t = subst (λ r. touches P r ≡ true) (sym (place_alike d y x (alike_same y x e))) t

  module _ (s : Side) (x : Cell N) (t : touches P (place_of d x) ≡ true) where
    abbrev f : Fate
    f = fate_by_split s x

    abbrev form : Form
    form = form_beside x (side_without s x.side)

    abbrev parts : List (Cell N)
    parts = byte_cells D d (order_on s k.orders) s form x

    beside : (z : Cell N) → touches P (place_of d z) ≡ false → IsIn z (left_by_split s x z)
    beside z e = by (is_same_cell z x) refl
      where
        by : (b : Bool) → is_same_cell z x ≡ b → IsIn z (cond b (with_side z (side_without s z.side)) (z ∷ []))
        by false g = first []
        by true g = absurd (both_ways (touches P (place_of d z)) e (same_touches x z g t))

    part_lies : (cs : List (Cell N)) → IsIn x cs → (z : Cell N) → IsIn z parts → LiesIn d cs (reformed f z)
    part_lies cs i z j =
        let o = one_of (byte_of D (order_on s k.orders) s form x x.what x.value) 0 (size_of d x.what) z j in
        let b = byte_is D (order_on s k.orders) s form x x.what x.value o.place in
        subst (λ z. LiesIn d cs (reformed f z)) (sym (o.is ∙ b.is)) (record {
          cell = x;
          is_in = i;
          block = refl;
          low = omega arith;
          high = omega (arith, o.high);
        })

    rest_lies : (cs : List (Cell N)) (z : Cell N) → IsIn z (each_becomes (left_by_split s x) cs)
        → LiesIn d cs (reformed f z)
    rest_lies cs z j =
        let v = in_each (left_by_split s x) z cs j in
        let u = left_of z v.origin (is_same_cell v.origin x) (side_without s v.origin.side) v.becomes in
        other_side d f cs z v.origin u.0 u.1 (record {
          cell = v.origin;
          is_in = v.is_in;
          block = refl;
          low = omega arith;
          high = omega arith;
        })

    split_leaves : (cs : List (Cell N)) → IsIn x cs → Leave cs (split_cell D k s x cs)
    split_leaves cs i = record {
      stays = λ z j e. record {
        reform = form_after f;
        keeps = fate_keeps base count f (split_name s x t);
        is_in = kept_in f parts (left_by_split s x) cs z z j (beside z e);
      };
      lies = λ y j. (let r = in_map (reformed f) y (put_all parts (each_becomes (left_by_split s x) cs)) j in
          subst (LiesIn d cs) (sym r.is)
          (from r.origin (in_put_all parts r.origin (each_becomes (left_by_split s x) cs) r.is_in)));
    }
      where
        from : (z : Cell N) → IsIn z parts ⊎ IsIn z (each_becomes (left_by_split s x) cs) → LiesIn d cs (reformed f z)
        from z (inl j) = part_lies cs i z j
        from z (inr j) = rest_lies cs z j

  like_leaves : (s : Side) (x : Cell N) (cs : List (Cell N)) → touches P (place_of d x) ≡ true
      → Leave cs (split_like D k s x cs)
  like_leaves s x cs t = by (cell_like x cs) refl
    where
      by : (o : Option (Cell N)) → cell_like x cs ≡ o → Leave cs (option_map_or (λ y. split_cell D k s y cs) o cs)
      by None e = leaves_all d P base count cs
      by (Some y) e = let l = first_like x cs y e in split_leaves s y (same_touches x y l.same t) cs l.is_in

  all_leave : (s : Side) (xs cs : List (Cell N)) → ((x : Cell N) → IsIn x xs → touches P (place_of d x) ≡ true)
      → Leave cs (split_all D k s xs cs)
  all_leave s [] cs h = leaves_all d P base count cs
  all_leave s (x ∷ xs) cs h =
      leaves_then d P base count cs (split_like D k s x cs) (split_all D k s xs (split_like D k s x cs))
      (like_leaves s x cs (h x (first xs))) (all_leave s xs (split_like D k s x cs) (λ y i. h y (later x xs i)))

  -- the place may be named with another side
  split_at_leaves : (s : Side) → Leave k.cells (split_at D (on_cell_side s P) k).cells
  split_at_leaves s =
      all_leave s (cut_cells d (on_cell_side s P) k.cells) k.cells
      (λ x i. cut_touches (on_cell_side s P) (place_of d x)
      (filter_tests (λ x. is_partly_in (on_cell_side s P) (place_of d x)) x k.cells i))

-- a form that isn't there stays none
none_splits : {N : Type 0} (D : Ops N) (k : Known N) (s : Side) (xs cs : List (Cell N))
    → form_by_splits D k s xs cs None ≡ None
none_splits D k s [] cs = refl
none_splits {N = N} D k s (x ∷ xs) cs =
    ap (form_by_splits D k s xs (split_like D k s x cs)) (by (cell_like x cs))
    ∙ none_splits D k s xs (split_like D k s x cs)
  where
    by : (o : Option (Cell N)) → option_map_or (λ y. form_after (fate_by_split s y) None) o None ≡ None
    by None = refl
    by (Some y) = refl

-- ---- a new cell

module _ {N : Type 0} (D : Ops N) (k : Known N) (b q n : ℕ) (base : Inputs) (count : ℕ)
    (clear : (i : ℕ) → i < count
    → touches (record { side = Shared; block = b; offset = q; bytes = n }) (place_of_name (base i)) ≡ false) where
  abbrev Q : ByteRange
  Q = record { side = Shared; block = b; offset = q; bytes = n }

  abbrev g : Fate
  g = fate_by_write Q

  abbrev one : Known N
  one = split_at D (on_cell_side Left Q) k

  abbrev ds : List (Cell N)
  ds = (cut D Q k).cells

  cut_leaves : Leaves k.model Q base count k.cells ds
  cut_leaves =
      leaves_then k.model Q base count k.cells one.cells ds (split_at_leaves D k Q base count clear Left)
      (split_at_leaves D one Q base count clear Right)

  none_cut : form_by_cut D Q k None ≡ None
  none_cut =
      ap (form_by_split D (on_cell_side Right Q) one)
      (none_splits D k Left (cut_cells k.model (on_cell_side Left Q) k.cells) k.cells)
      ∙ none_splits D one Right (cut_cells k.model (on_cell_side Right Q) one.cells) one.cells

  pub none_replaced : form_by_replace D Q k None ≡ None
  none_replaced = ap (form_after g) none_cut

  g_keeps : KeepsForms base count (form_after g)
  g_keeps =
      fate_keeps base count g
      (λ i l. ap (λ v. cond v (option_map (λ r. record (base i) { side = r }) (side_without Shared (base i).side))
      (Some (base i))) (clear i l))

  module _ (c : Cell N) (formless : c.form ≡ None) where
    abbrev new : Cell N
    new = with_form (form_by_cut D Q k) c

    abbrev rest : List (Cell N)
    rest = each_becomes (left_by_write k.model Q) ds

    new_same : reformed g new ≡ c
    new_same =
        ap (λ f. record c { form = form_after g (form_by_cut D Q k f) }) formless
        ∙ ap (λ f. record c { form = form_after g f }) none_cut ∙ ap (λ f. record c { form = f }) (sym formless)

    apart : (z : Cell N) → touches Q (place_of k.model z) ≡ false → IsIn z (left_by_write k.model Q z)
    apart z e =
        subst (λ v. IsIn z (cond v (with_side z (side_without Shared z.side)) (z ∷ []))) (sym e) (first [])

    from : (z : Cell N) → (z ≡ new) ⊎ IsIn z rest → (reformed g z ≡ c) ⊎ LiesIn k.model k.cells (reformed g z)
    from z (inl e) = inl (ap (reformed g) e ∙ new_same)
    from z (inr j) =
        let v = in_each (left_by_write k.model Q) z ds j in
        let u = left_of z v.origin (touches Q (place_of k.model v.origin)) (side_without Shared v.origin.side)
        v.becomes in
        inr (other_side k.model g k.cells z v.origin u.0 u.1 (cut_leaves.lies v.origin v.is_in))

    pub replaced_keeps : IsReplaced k.model Q base count k.cells (replaced D Q (c ∷ []) k).cells c
    replaced_keeps = record {
      new = subst (λ z. IsIn z (replaced D Q (c ∷ []) k).cells) new_same
          (map_in (reformed g) new (put_all (new ∷ []) rest) (put_there new rest));
      stays = λ x i e. (let a = cut_leaves.stays x i e in record {
        reform = λ f. form_after g (a.reform f);
        keeps = both_keep base count a.reform (form_after g) a.keeps g_keeps;
        is_in = kept_in g (new ∷ []) (left_by_write k.model Q) ds (with_form a.reform x) (with_form a.reform x) a.is_in
            (apart (with_form a.reform x) e);
      });
      lies = λ y i. (let r = in_map (reformed g) y (put_all (new ∷ []) rest) i in
          subst (λ z. (z ≡ c) ⊎ LiesIn k.model k.cells z) (sym r.is)
          (from r.origin (in_put new r.origin rest r.is_in)));
    }
