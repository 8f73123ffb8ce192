-- What is split in a place that is then written is gone: a split before the write changes nothing.
use Rattle.std.proofs.Common.{◌≡◌, ℕ, ◌+◌, ◌<◌, Bool, true, false, cond, List, [], ◌∷◌, ◌++◌, map, Option, Some, None}
use Rattle.ep_cells.proofs.Basics.{map-append}
use Rattle.std.proofs.Common.{refl, sym, ap, ◌∙◌, subst, append_assoc, arith}
use Rattle.std.specs.Option.{option_map_or}
use Rattle.ep_int.specs.declared.types.Model.{Model}
use Rattle.ep_int.specs.declared.types.IntType.TheVariants.{U8}
use Rattle.ep_int.specs.declared.types.Scalar.TheVariants.{Int, Pointer}
use Rattle.ep_int.specs.Types.{size_of}
use Rattle.ep_bitslice.specs.declared.cell.Side.{Side}
use Rattle.ep_bitslice.specs.declared.cell.Side.TheVariants.{Left}
use Rattle.ep_bitslice.specs.declared.cell.CellName.{CellName}
use Rattle.ep_domain.specs.Domain.{Ops}
use Rattle.ep_cells.specs.declared.cell.Cell.{Cell}
use Rattle.ep_cells.specs.declared.place.ByteRange.{ByteRange}
use Rattle.ep_cells.specs.Cells.{place_of, touches, side_without, with_side, comes_before, is_same_cell, put, put_all}
use Rattle.ep_cells.specs.Cells.{each_becomes, IsIn, first, later}
use Rattle.ep_cells.specs.declared.cell.Value.{Value}
use Rattle.ep_cells.specs.Forms.{Fate, form_after, reformed}
use Rattle.ep_cells.specs.Both.{cell_like}
use Rattle.ep_cells.specs.Write.{left_by_write, fate_by_write}
use Rattle.ep_cells.specs.States.{Known}
use Rattle.ep_reads.specs.Split.{byte_of, byte_cells, form_beside, is_name_of, fate_by_split, left_by_split}
use Rattle.ep_reads.specs.Split.{split_cell, split_like, split_all}
use Rattle.ep_reads.specs.Bytes.{order_on}
use Rattle.ep_cell_ranges.specs.Ranges.{Form, form_by_like, form_by_splits}
use Rattle.ep_cells.proofs.Both.{alike_same}
use Rattle.ep_cells.proofs.Places.{at}
use Rattle.ep_reads.proofs.Bytes.{cell_of}
use Rattle.ep_reads.proofs.ByteCells.{byte_is, one_of}
use Rattle.ep_reads.proofs.Splits.{first_like}
use Rattle.ep_reads.proofs.Members.{place_alike}
use Rattle.ep_reads.proofs.Composed.{gone_on, then_fate, reformed_twice}
use Rattle.ep_transfer_writes.proofs.Joined.{name_on, name_taken_before, append_none, cell_taken_before}

-- ---- lists

module _ {N : Type 0} where
  each_append : (g : Cell N → List (Cell N)) (xs ys : List (Cell N))
      → each_becomes g (xs ++ ys) ≡ each_becomes g xs ++ each_becomes g ys
  each_append g [] ys = refl
  each_append g (x ∷ xs) ys =
      ap (λ zs. g x ++ zs) (each_append g xs ys) ∙ sym (append_assoc (g x) (each_becomes g xs) (each_becomes g ys))

  pub each_of_map : (m : Cell N → List (Cell N)) (r : Cell N → Cell N) (cs : List (Cell N))
      → ((c : Cell N) → m (r c) ≡ map r (m c)) → each_becomes m (map r cs) ≡ map r (each_becomes m cs)
  each_of_map m r [] h = refl
  each_of_map m r (c ∷ cs) h =
      ap (λ zs. zs ++ each_becomes m (map r cs)) (h c) ∙ ap (λ zs. map r (m c) ++ zs) (each_of_map m r cs h)
      ∙ sym (map-append r (m c) (each_becomes m cs))

  pub each_of_each : (m l n : Cell N → List (Cell N)) (cs : List (Cell N))
      → ((c : Cell N) → each_becomes m (l c) ≡ n c) → each_becomes m (each_becomes l cs) ≡ each_becomes n cs
  each_of_each m l n [] h = refl
  each_of_each m l n (c ∷ cs) h =
      each_append m (l c) (each_becomes l cs)
      ∙ ap (λ zs. zs ++ each_becomes m (each_becomes l cs)) (h c) ∙ ap (λ zs. n c ++ zs) (each_of_each m l n cs h)

  -- cells that go leave nothing, wherever they are put
  gone_by : (m : Cell N → List (Cell N)) (c x : Cell N) (cs rest : List (Cell N)) (t : Bool) → m c ≡ []
      → each_becomes m rest ≡ each_becomes m cs
      → each_becomes m (cond t (c ∷ x ∷ cs) (x ∷ rest)) ≡ m x ++ each_becomes m cs
  gone_by m c x cs rest true e h = ap (λ zs. zs ++ (m x ++ each_becomes m cs)) e
  gone_by m c x cs rest false e h = ap (λ zs. m x ++ zs) h

  gone_put : (m : Cell N → List (Cell N)) (c : Cell N) (cs : List (Cell N)) → m c ≡ []
      → each_becomes m (put c cs) ≡ each_becomes m cs
  gone_put m c [] e = ap (λ zs. zs ++ []) e
  gone_put m c (x ∷ cs) e = gone_by m c x cs (put c cs) (comes_before c x) e (gone_put m c cs e)

  gone_all : (m : Cell N → List (Cell N)) (new cs : List (Cell N)) → ((c : Cell N) → IsIn c new → m c ≡ [])
      → each_becomes m (put_all new cs) ≡ each_becomes m cs
  gone_all m [] cs h = refl
  gone_all m (c ∷ new) cs h =
      gone_put m c (put_all new cs) (h c (first new)) ∙ gone_all m new cs (λ x i. h x (later c new i))

  -- new names of all cells are new names of those that are put and of the others
  put_by : (f : Fate) (c x : Cell N) (cs rest : List (Cell N)) (t : Bool)
      → map (reformed f) rest ≡ put (reformed f c) (map (reformed f) cs)
      → map (reformed f) (cond t (c ∷ x ∷ cs) (x ∷ rest))
      ≡ cond t (reformed f c ∷ map (reformed f) (x ∷ cs)) (reformed f x ∷ put (reformed f c) (map (reformed f) cs))
  put_by f c x cs rest true h = refl
  put_by f c x cs rest false h = ap (λ zs. reformed f x ∷ zs) h

  put_reformed : (f : Fate) (c : Cell N) (cs : List (Cell N))
      → map (reformed f) (put c cs) ≡ put (reformed f c) (map (reformed f) cs)
  put_reformed f c [] = refl
  put_reformed f c (x ∷ cs) = put_by f c x cs (put c cs) (comes_before c x) (put_reformed f c cs)

  pub all_reformed : (f : Fate) (new cs : List (Cell N))
      → map (reformed f) (put_all new cs) ≡ put_all (map (reformed f) new) (map (reformed f) cs)
  all_reformed f [] cs = refl
  all_reformed f (c ∷ new) cs =
      put_reformed f c (put_all new cs) ∙ ap (put (reformed f c)) (all_reformed f new cs)

-- ---- names that are taken along

module _ (g f : Fate) (same : (n : CellName) → then_fate f g n ≡ g n) where
  fates : then_fate f g ≡ g
  fates = λ i n. same n i

  pub reformed_once : {N : Type 0} (c : Cell N) → reformed g (reformed f c) ≡ reformed g c
  reformed_once c = reformed_twice f g c ∙ ap (λ h. reformed h c) fates

  pub form_once : (o : Form) → form_after g (form_after f o) ≡ form_after g o
  form_once o = ap (λ (x : Cell ℕ). x.form) (reformed_once (record {
    side = Left;
    block = 0;
    offset = 0;
    what = Pointer;
    value = None;
    maybe = true;
    form = o;
  }))

  pub map_once : {N : Type 0} (cs : List (Cell N)) → map (reformed g) (map (reformed f) cs) ≡ map (reformed g) cs
  map_once [] = refl
  map_once (c ∷ cs) =
      ap (λ z. z ∷ map (reformed g) (map (reformed f) cs)) (reformed_once c)
      ∙ ap (λ zs. reformed g c ∷ zs) (map_once cs)

-- ---- a cell that is split in the place

-- The whole cell lies in the place, and the place takes the side on which it is split.
pub record IsTaken {N : Type 0} (d : Model) (p : ByteRange) (s : Side) (x : Cell N) : Type 0 where
  pub side : side_without p.side s ≡ None
  pub met : touches p (place_of d x) ≡ true
  pub bytes : (i : ℕ) → i < size_of d x.what → touches p (at s x.block (x.offset + i) 1) ≡ true

module _ {N : Type 0} (D : Ops N) (k : Known N) (p : ByteRange) (s : Side) where
  abbrev d : Model
  d = k.model

  like_met : (x y : Cell N) → is_same_cell y x ≡ true → touches p (place_of d x) ≡ true
      → touches p (place_of d y) ≡ true
  like_met x y e h = subst (λ q. touches p q ≡ true) (sym (place_alike d y x (alike_same y x e))) h

  like_taken : (x y : Cell N) → is_same_cell y x ≡ true → IsTaken d p s x → IsTaken d p s y
  like_taken x y e h =
      let a = alike_same y x e in
      record {
        side = h.side;
        met = like_met x y e h.met;
        bytes = λ i l.
            subst (λ b. touches p (at s b (y.offset + i) 1) ≡ true) (sym a.block)
            (subst (λ q. touches p (at s x.block (q + i) 1) ≡ true) (sym a.offset)
            (h.bytes i (subst (λ w. i < size_of d w) a.what l)));
      }

  -- mentions of it
  name_by : (x : Cell N) (n : CellName) (t : Bool) → is_name_of n x ≡ t → IsTaken d p s x
      → gone_on (fate_by_write p) (cond t (name_on n (side_without s x.side)) (Some n)) ≡ fate_by_write p n
  name_by x n false e h = refl
  name_by x n true e h =
      let named : Cell N = record x { side = n.side; block = n.block; offset = n.offset; what = Int n.t } in
      let a = alike_same named x e in
      ap (λ q. gone_on (fate_by_write p) (name_on n (side_without s q))) (sym a.side)
      ∙ name_taken_before s p n (like_met x named e h.met) h.side

  pub split_fates : (x : Cell N) → IsTaken d p s x → (n : CellName)
      → then_fate (fate_by_split s x) (fate_by_write p) n ≡ fate_by_write p n
  split_fates x h n = name_by x n (is_name_of n x) refl h

  -- what is left of cells
  left_by : (x y : Cell N) (t : Bool) → is_same_cell y x ≡ t → IsTaken d p s x
      → each_becomes (left_by_write d p) (cond t (with_side y (side_without s y.side)) (y ∷ [])) ≡ left_by_write d p y
  left_by x y false e h = append_none (left_by_write d p y)
  left_by x y true e h = cell_taken_before d s p y (like_met x y e h.met) h.side

  byte_gone : (x y : Cell N) → IsTaken d p s x → (f : Form)
      → IsIn y (byte_cells D d (order_on s k.orders) s f x) → left_by_write d p y ≡ []
  byte_gone x y h f i =
      let r = one_of (byte_of D (order_on s k.orders) s f x x.what x.value) 0 (size_of d x.what) y i in
      let b = byte_is D (order_on s k.orders) s f x x.what x.value r.place in
      gone_by_place y (r.is ∙ b.is) (h.bytes r.place (low r.place (size_of d x.what) r.high))
    where
      low : (j n : ℕ) → j < 0 + n → j < n
      low j n l = omega (arith, l)

      gone_by_place : {q : ℕ} {v : Option (Value N)} {b : Bool} {g : Form} (y : Cell N)
          → y ≡ cell_of s x.block q (Int U8) v b g → touches p (at s x.block q 1) ≡ true → left_by_write d p y ≡ []
      gone_by_place {q = q} {v = v} {b = b} {g = g} y e t =
          let c : Cell N = cell_of s x.block q (Int U8) v b g in
          ap (left_by_write d p) e ∙ ap (λ z. cond z (with_side c (side_without p.side s)) (c ∷ [])) t
          ∙ ap (with_side c) h.side

  -- ---- what the write makes of cells

  abbrev pub wrote : List (Cell N) → List (Cell N) → List (Cell N)
  wrote new cs = map (reformed (fate_by_write p)) (put_all new (each_becomes (left_by_write d p) cs))

  pub wrote_is : (new cs : List (Cell N)) → wrote new cs ≡ put_all (map (reformed (fate_by_write p)) new)
      (map (reformed (fate_by_write p)) (each_becomes (left_by_write d p) cs))
  wrote_is new cs = all_reformed (fate_by_write p) new (each_becomes (left_by_write d p) cs)

  blind : (f : Fate) (c : Cell N) → left_by_write d p (reformed f c) ≡ map (reformed f) (left_by_write d p c)
  blind f c = by (touches p (place_of d c)) (side_without p.side c.side)
    where
      by : (t : Bool) (o : Option Side) → cond t (with_side (reformed f c) o) (reformed f c ∷ [])
          ≡ map (reformed f) (cond t (with_side c o) (c ∷ []))
      by true None = refl
      by true (Some r) = refl
      by false o = refl

  pub one_split : (x : Cell N) (new cs : List (Cell N)) → IsTaken d p s x
      → wrote new (split_cell D k s x cs) ≡ wrote new cs
  one_split x new cs h =
      let f = fate_by_split s x in
      let bytes = byte_cells D d (order_on s k.orders) s (form_beside x (side_without s x.side)) x in
      let E = each_becomes (left_by_write d p) in
      let R = reformed (fate_by_write p) in
      wrote_is new (split_cell D k s x cs)
      ∙ ap (λ zs. put_all (map R new) (map R zs))
      (each_of_map (left_by_write d p) (reformed f) (put_all bytes (each_becomes (left_by_split s x) cs)) (blind f)
      ∙ ap (map (reformed f)) (gone_all (left_by_write d p) bytes (each_becomes (left_by_split s x) cs)
      (λ y i. byte_gone x y h (form_beside x (side_without s x.side)) i)
      ∙ each_of_each (left_by_write d p) (left_by_split s x) (left_by_write d p) cs
      (λ y. left_by x y (is_same_cell y x) refl h)))
      ∙ ap (put_all (map R new)) (map_once (fate_by_write p) f (split_fates x h) (E cs))
      ∙ sym (wrote_is new cs)

  -- ---- one cell after the other

  abbrev pub AllTaken : List (Cell N) → Type 0
  AllTaken xs = (x : Cell N) → IsIn x xs → IsTaken d p s x

  like_split : (x : Cell N) (new cs : List (Cell N)) → IsTaken d p s x → (o : Option (Cell N)) → cell_like x cs ≡ o
      → wrote new (option_map_or (λ y. split_cell D k s y cs) o cs) ≡ wrote new cs
  like_split x new cs h None e = refl
  like_split x new cs h (Some y) e = one_split y new cs (like_taken x y (first_like x cs y e).same h)

  pub all_split : (xs new cs : List (Cell N)) → AllTaken xs → wrote new (split_all D k s xs cs) ≡ wrote new cs
  all_split [] new cs h = refl
  all_split (x ∷ xs) new cs h =
      all_split xs new (split_like D k s x cs) (λ y i. h y (later x xs i))
      ∙ like_split x new cs (h x (first xs)) (cell_like x cs) refl

  like_form : (x : Cell N) (cs : List (Cell N)) (f : Form) → IsTaken d p s x → (o : Option (Cell N))
      → cell_like x cs ≡ o
      → form_after (fate_by_write p) (option_map_or (λ y. form_after (fate_by_split s y) f) o f)
      ≡ form_after (fate_by_write p) f
  like_form x cs f h None e = refl
  like_form x cs f h (Some y) e =
      form_once (fate_by_write p) (fate_by_split s y)
      (split_fates y (like_taken x y (first_like x cs y e).same h)) f

  pub form_split : (xs cs : List (Cell N)) (f : Form) → AllTaken xs
      → form_after (fate_by_write p) (form_by_splits D k s xs cs f) ≡ form_after (fate_by_write p) f
  form_split [] cs f h = refl
  form_split (x ∷ xs) cs f h =
      form_split xs (split_like D k s x cs) (form_by_like D s x cs f) (λ y i. h y (later x xs i))
      ∙ like_form x cs f (h x (first xs)) (cell_like x cs) refl
