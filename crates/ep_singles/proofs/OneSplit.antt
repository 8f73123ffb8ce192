-- One cell of one value is split on one side: its bytes are of one value, and they have all that it had there.
use Rattle.std.proofs.Common.{◌≡◌, ◌⊎◌, inl, inr, ℕ, zero, suc, ◌+◌, ◌-◌, ◌<◌, ◌≤◌, ℤ, pos, Bool, true, false, ◌&&◌}
use Rattle.std.proofs.Common.{◌||◌, nat_eq, nat_le, nat_lt, cond, List, [], ◌∷◌, Option, Some, None, refl, sym, ◌∙◌}
use Rattle.std.proofs.Common.{ap, subst, arith}
use Rattle.std.specs.Option.{option_map}
use Rattle.std.proofs.lemmas.Bool.{and_parts, and_from, eqb-true, leb-true, ltb-true}
use Rattle.ep_int.specs.declared.types.Order.{Order}
use Rattle.ep_int.specs.declared.types.Model.{Model}
use Rattle.ep_int.specs.declared.types.Scalar.{Scalar}
use Rattle.ep_int.specs.declared.types.Scalar.TheVariants.{Int, Pointer}
use Rattle.ep_int.specs.Types.{bytes_of, size_of}
use Rattle.ep_int.specs.Memory.{Memory, Value as Datum}
use Rattle.ep_int.proofs.Places.{width_of, place_below}
use Rattle.ep_bitslice.specs.declared.cell.Side.{Side}
use Rattle.ep_bitslice.specs.declared.cell.Side.TheVariants.{Left, Right, Shared}
use Rattle.ep_bitslice.specs.declared.segment.Segment.{Segment}
use Rattle.ep_domain.specs.Domain.{Ops, IsSingle, Lawful}
use Rattle.ep_pointers.specs.Value.{Pointers, only_null, only_place}
use Rattle.ep_cells.specs.declared.cell.Cell.{Cell}
use Rattle.ep_cells.specs.declared.cell.Value.{Value}
use Rattle.ep_cells.specs.declared.cell.Value.TheVariants.{Num, Ptr}
use Rattle.ep_cells.specs.Cells.{IsIn, first, later, share_memory, side_without, is_same_side, is_same_cell, on_left}
use Rattle.ep_cells.specs.Cells.{on_right, with_side, put_all, each_becomes}
use Rattle.ep_cells.specs.Forms.{reformed}
use Rattle.ep_cells.specs.Look.{covers}
use Rattle.ep_cells.specs.States.{Known, IsOfSort}
use Rattle.ep_cells.specs.Meaning.{Memories, Allows}
use Rattle.ep_cells.specs.Memories.{is_byte_of, IsRewritten}
use Rattle.ep_cells.proofs.Lists.{in_each, in_map, map_in, in_put_all, put_there, put_keeps}
use Rattle.ep_cells.proofs.Places.{at}
use Rattle.ep_cells.proofs.Both.{alike_same}
use Rattle.ep_reads.specs.Bytes.{order_on, byte_at, byte_form, byte_value, has_targets}
use Rattle.ep_reads.specs.Split.{form_beside, byte_with, byte_of_pointer, byte_of, bytes_of_cell, byte_cells}
use Rattle.ep_reads.specs.Split.{fate_by_split, left_by_split, split_cell}
use Rattle.ep_reads.proofs.Numbers.{small_number}
use Rattle.ep_reads.proofs.ByteCells.{IsByteCell, byte_is, one_of}
use Rattle.ep_reads.proofs.OneSplit.{IsLoosened, AfterSplit, rest, other, after_split, split_cell_cells}
use Rattle.ep_reads.proofs.OneSplit.{split_cell_holds}
use Rattle.ep_singles.specs.Cells.{IsOneValue, one_number, one_pointer, IsOneCell, no_value, one_value, IsOne}
use Rattle.ep_singles.specs.Laws.{IsMachine}
use Rattle.ep_singles.proofs.Sums.{byte_single}
use Rattle.ep_singles.proofs.Bytes.{in_range}
use Rattle.ep_singles.proofs.Covers.{has_side, share_left, share_right, keeps_side, side_covers, kept_in}
use Rattle.ep_singles.proofs.Covers.{IsByteAfter, covered, stays, empty_after, one_side, one_form}

-- ---- each byte is of one value

abbrev IsOneWith : {N : Type 0} → Ops N → (maybe : Bool) → Option (Value N) → Type 0
IsOneWith D maybe v = (v ≡ None) ⊎ ((maybe ≡ false) × IsOneValue D v)

module _ {N : Type 0} (D : Ops N) (law : Lawful D) where
  with_number : (s : Side) (x : Cell N) (p : ℕ) (o : Option N) (maybe : Bool) (f : Option (List Segment)) (n : N)
      (z : ℤ)
      → o ≡ Some n → IsSingle D n z → maybe ≡ false → IsOneCell D (byte_with s x p o maybe f)
  with_number s x p o maybe f n z e i t =
      subst (λ o. IsOneCell D (byte_with s x p o maybe f)) (sym e) (one_value t (one_number n z i))

  nothing : (s : Side) (x : Cell N) (p : ℕ) (maybe : Bool) (f : Option (List Segment))
      → IsOneCell D (byte_with s x p None maybe f)
  nothing s x p maybe f = no_value refl

  pointer_byte : (s : Side) (x : Cell N) (p : ℕ) (v : Pointers N) → x.maybe ≡ false → IsOneValue D (Some (Ptr v))
      → IsOneCell D (byte_with s x p (byte_of_pointer D v) (x.maybe || has_targets v) None)
  pointer_byte s x p v t (one_pointer _ (only_null e)) =
      subst (λ v. IsOneCell D (byte_with s x p (byte_of_pointer D v) (x.maybe || has_targets v) None)) (sym e)
      (one_value (ap (λ b. b || false) t)
      (one_number (D.single (pos 0)) (pos 0)
      (law.single_range (pos 0) (small_number 0 (omega arith)))))
  pointer_byte s x p v t (one_pointer _ (only_place c n z e i)) =
      subst (λ v. IsOneCell D (byte_with s x p (byte_of_pointer D v) (x.maybe || has_targets v) None)) (sym e)
      (nothing s x p (x.maybe || true) None)

  byte_one : (d : Model) (o : Order) (s : Side) (f : Option (List Segment)) (x : Cell N) (w : Scalar)
      (u : Option (Value N)) (j : ℕ) (v : Option Datum) → IsOneWith D x.maybe u → IsOfSort w u → j < size_of d w
      → Allows D w u x.maybe v → IsOneCell D (byte_of D o s f x w u j)
  byte_one d o s f x (Int t) None j v i e l a = no_value refl
  byte_one d o s f x Pointer None j v i e l a = no_value refl
  byte_one d o s f x w (Some u) j v (inl i) e l a = absurd cc
  byte_one d o s f x (Int t) (Some (Num n)) j v (inr i) e l a = by_value i.1
    where
      by_value : IsOneValue D (Some (Num n)) → IsOneCell D (byte_of D o s f x (Int t) (Some (Num n)) j)
      by_value (one_number _ z h) =
          let g = byte_single D law t (byte_at o t j) n z (place_below o (bytes_of t) j (width_of t) l)
          (in_range D law {t = t} n z x.maybe v i.0 h a) h in
          with_number s x j (byte_value D t (byte_at o t j) n) x.maybe (option_map (byte_form
          (byte_at o t j)) f) g.one _ g.is
          g.holds i.0
  byte_one d o s f x Pointer (Some (Ptr p)) j v (inr i) e l a = pointer_byte s x j p i.0 i.1
  byte_one d o s f x (Int t) (Some (Ptr p)) j v (inr i) e l a = absurd e
  byte_one d o s f x Pointer (Some (Num n)) j v (inr i) e l a = absurd e

  with_cell : (x : Cell N) → IsOneCell D x → IsOneWith D x.maybe x.value
  with_cell x (no_value e) = inl e
  with_cell x (one_value t v) = inr (t, v)

-- ---- the bytes have what it had

has_own : (s q : Side) → is_same_side s Shared ≡ false → IsMachine q → share_memory s q ≡ true → has_side s q ≡ true
has_own Left Left e i h = refl
has_own Left Right e i h = absurd (let d : false ≡ true = h in cc)
has_own Left Shared e i h = absurd i
has_own Right Left e i h = absurd (let d : false ≡ true = h in cc)
has_own Right Right e i h = refl
has_own Right Shared e i h = absurd i
has_own Shared q e i h = absurd (let d : true ≡ false = e in cc)

byte_in : {N : Type 0} (g : ℕ → Cell N) (p n j : ℕ) → p ≤ j → j < p + n → IsIn (g j) (bytes_of_cell g p n)
byte_in g p zero j l u = absurd (omega (arith, l, u))
byte_in g p (suc n) j l u = by_first (nat_eq p j) refl (byte_in g (p + 1) n j)
  where
    less : nat_eq p j ≡ false → p + 1 ≤ j
    less e = grind (arith, l, e)

    by_first : (t : Bool) → nat_eq p j ≡ t → (p + 1 ≤ j → j < p + 1 + n → IsIn (g j) (bytes_of_cell g (p + 1) n))
        → IsIn (g j) (g p ∷ bytes_of_cell g (p + 1) n)
    by_first true e f =
        subst (λ i. IsIn (g i) (g p ∷ bytes_of_cell g (p + 1) n)) (eqb-true p j e) (first (bytes_of_cell g (p + 1) n))
    by_first false e f = later (g p) (bytes_of_cell g (p + 1) n) (f (less e) (omega (arith, u)))

byte_covers : {N : Type 0} (d : Model) (s q : Side) (b o j c p : ℕ) (y : Cell N) → IsByteCell s b (o + j) y
    → has_side s q ≡ true → b ≡ c → o + j ≡ p → covers d q c p y ≡ true
byte_covers d s q b o j c p y h e f g =
    subst (λ z. covers d q c p z ≡ true) (sym h.is)
    (and_from (has_side s q) (nat_eq b c && (nat_le (o + j) p && nat_lt p (o + j + 1))) e
    (and_from (nat_eq b c) (nat_le (o + j) p && nat_lt p (o + j + 1)) (grind (arith, f))
    (and_from (nat_le (o + j) p) (nat_lt p (o + j + 1)) (grind (arith, g)) (grind (arith, g)))))

split_covers : {N : Type 0} (d : Model) (s q : Side) (x z : Cell N) (c p : ℕ) → IsMachine q
    → (share_memory s q && is_byte_of (at s x.block x.offset (size_of d x.what)) c p) ≡ false → covers d q c p z ≡ true
    → (y : Cell N) × IsIn y (left_by_split s x z) × (covers d q c p y ≡ true)
split_covers {N = N} d s q x z c p i out h = by_same (is_same_cell z x) refl
  where
    all : (has_side z.side q ≡ true)
        × ((nat_eq z.block c && (nat_le z.offset p && nat_lt p (z.offset + size_of d z.what))) ≡ true)
    all = and_parts (has_side z.side q)
        (nat_eq z.block c && (nat_le z.offset p && nat_lt p (z.offset + size_of d z.what))) h

    by_rest : (o : Option Side) → side_without s z.side ≡ o
        → (r : Side) × (side_without s z.side ≡ Some r) × (has_side r q ≡ true)
        → (y : Cell N) × IsIn y (with_side z o) × (covers d q c p y ≡ true)
    by_rest None e r = absurd (let g : None ≡ Some r.0 = sym e ∙ r.1 in cc)
    by_rest (Some t) e r = (
      record z { side = t },
      first [],
      side_covers d q c p z t h
          (subst (λ t. has_side t q ≡ true) (same r.0 t (sym r.1 ∙ e)) r.2),
    )
      where
        same : (a b : Side) → Some a ≡ Some b → a ≡ b
        same a b g = cc

    inside : is_same_cell z x ≡ true → is_byte_of (at s x.block x.offset (size_of d x.what)) c p ≡ true
    inside e =
        let a = alike_same z x e in
        subst (λ w. (nat_eq x.block c && (nat_le x.offset p && nat_lt p (x.offset + size_of d w))) ≡ true) a.what
        (subst (λ o. (nat_eq x.block c && (nat_le o p && nat_lt p (o + size_of d z.what))) ≡ true) a.offset
        (subst (λ b. (nat_eq b c && (nat_le z.offset p && nat_lt p
        (z.offset + size_of d z.what))) ≡ true) a.block all.1))

    not_both : (A : Type 0) (t : Bool) → t ≡ true → t ≡ false → A
    not_both A t e f = absurd (let g : true ≡ false = sym e ∙ f in cc)

    by_share : (u : Bool) → share_memory s q ≡ u → is_same_cell z x ≡ true
        → (y : Cell N) × IsIn y (with_side z (side_without s z.side)) × (covers d q c p y ≡ true)
    by_share false f e = by_rest (side_without s z.side) refl (keeps_side s z.side q i all.0 f)
    by_share true f e =
        not_both _ (share_memory s q && is_byte_of (at s x.block x.offset (size_of d x.what)) c p)
        (and_from (share_memory s q) (is_byte_of (at s x.block x.offset (size_of d x.what)) c p) f (inside e)) out

    by_same : (t : Bool) → is_same_cell z x ≡ t → (y : Cell N)
        × IsIn y (cond t (with_side z (side_without s z.side)) (z ∷ [])) × (covers d q c p y ≡ true)
    by_same true e = by_share (share_memory s q) refl e
    by_same false e = (z, first [], h)

pub new_in : {N : Type 0} (new cs : List (Cell N)) (y : Cell N) → IsIn y new → IsIn y (put_all new cs)
new_in [] cs y i = elim i [ ]
new_in (c ∷ new) cs _ (first _) = put_there c (put_all new cs)
new_in (c ∷ new) cs y (later _ _ i) = put_keeps c y (put_all new cs) (new_in new cs y i)

module _ {N : Type 0} (D : Ops N) (k : Known N) (s q : Side) (x : Cell N) (cs : List (Cell N)) (m n : Memory)
    (one : is_same_side s Shared ≡ false) (i : IsMachine q) (here : Bool) (same : share_memory s q ≡ here)
    (w : IsRewritten (at s x.block x.offset (size_of k.model x.what)) here m n) where
  abbrev d : Model
  d = k.model

  abbrev g : ℕ → Cell N
  g = byte_of D (order_on s k.orders) s (form_beside x (side_without s x.side)) x x.what x.value

  pub split_byte : (c p : ℕ) → IsByteAfter k.model q cs (split_cell D k s x cs) m n c p
  split_byte c p = by_byte (here && is_byte_of (at s x.block x.offset (size_of k.model x.what)) c p) refl
    where
      by_byte : (t : Bool) → (here && is_byte_of (at s x.block x.offset (size_of k.model x.what)) c p) ≡ t
          → IsByteAfter k.model q cs (split_cell D k s x cs) m n c p
      by_byte true e =
          let a = and_parts here (is_byte_of (at s x.block x.offset (size_of k.model x.what)) c p) e in
          let b = and_parts (nat_eq x.block c)
          (nat_le x.offset p && nat_lt p (x.offset + size_of k.model x.what)) a.1 in
          let r = and_parts (nat_le x.offset p) (nat_lt p (x.offset + size_of k.model x.what)) b.1 in
          let low = leb-true x.offset p r.0 in
          let high = ltb-true p (x.offset + size_of k.model x.what) r.1 in
          let at_byte : x.offset + (p - x.offset) ≡ p = omega (arith, low) in
          covered (reformed (fate_by_split s x) (g (p - x.offset)))
          (map_in (reformed (fate_by_split s x)) (g (p - x.offset)) (put_all (byte_cells D k.model
          (order_on s k.orders) s (form_beside x (side_without s x.side)) x) (each_becomes (left_by_split s x) cs))
          (new_in (byte_cells D k.model (order_on s k.orders) s (form_beside x (side_without s x.side)) x)
          (each_becomes (left_by_split s x) cs) (g (p - x.offset))
          (byte_in g 0 (size_of k.model x.what) (p - x.offset) (omega arith) (omega (arith, low, high)))))
          (byte_covers k.model s q x.block x.offset (p - x.offset) c p (g (p - x.offset))
          (byte_is D (order_on s k.orders) s (form_beside x (side_without s x.side)) x x.what x.value (p - x.offset))
          (has_own s q one i (same ∙ a.0)) (eqb-true x.block c b.0) at_byte)
      by_byte false e =
          stays (λ h. w.elsewhere c p e ∙ h)
          (λ z j h. let y = split_covers k.model s q x z c p i
          (ap (λ t. t && is_byte_of (at s x.block x.offset (size_of k.model x.what)) c p) same ∙ e) h in (
            reformed (fate_by_split s x) y.0,
            kept_in (fate_by_split s x) (byte_cells D k.model (order_on s k.orders) s
                (form_beside x (side_without s x.side)) x) (left_by_split s x) cs z y.0 j y.1,
            y.2,
          ))

-- ---- the whole

pub one_split : {N : Type 0} (D : Ops N) → Lawful D → (k : Known N) (s : Side) (x : Cell N) (m n : Memories)
    → IsOne D k m → IsIn x k.cells → is_same_side s Shared ≡ false → share_memory s x.side ≡ true
    → IsLoosened k.model s x m n → IsOne D (record k { cells = split_cell D k s x k.cells }) n
one_split {N = N} D law k s x m n one i e h l = record {
  cells = split_cell_cells D k s x k.cells one.cells i e h;
  each = λ y j.
      let z = in_map (reformed (fate_by_split s x)) y
      (put_all (byte_cells D k.model (order_on s k.orders) s (form_beside x (side_without s x.side)) x) (each_becomes
      (left_by_split s x) k.cells)) j in
      subst (IsOneCell D) (sym z.is) (one_form D (fate_by_split s x) z.origin (by_origin z.origin z.is_in));
  left_outside = empty_after k.model Left k.cells (split_cell D k s x k.cells) m.left n.left one.left_outside
      (split_byte D k s Left x k.cells m.left n.left e tt (on_left s) (share_left s) l.rewritten.left);
  right_outside = empty_after k.model Right k.cells (split_cell D k s x k.cells) m.right n.right one.right_outside
      (split_byte D k s Right x k.cells m.right n.right e tt (on_right s) (share_right s) l.rewritten.right);
  holds = split_cell_holds D law k s x k.cells m n one.cells i e h l one.holds;
}
  where
    bytes : List (Cell N)
    bytes = byte_cells D k.model (order_on s k.orders) s (form_beside x (side_without s x.side)) x

    of_rest : (z y : Cell N) → IsOneCell D z → AfterSplit k.model s x z y → IsOneCell D y
    of_rest z y f (rest t a b r) = subst (IsOneCell D) (sym b) (one_side D z t f)
    of_rest z y f (other a b) = subst (IsOneCell D) (sym a) f

    by_origin : (z : Cell N) → IsIn z (put_all bytes (each_becomes (left_by_split s x) k.cells)) → IsOneCell D z
    by_origin z j = from (in_put_all bytes z (each_becomes (left_by_split s x) k.cells) j)
      where
        from : IsIn z bytes ⊎ IsIn z (each_becomes (left_by_split s x) k.cells) → IsOneCell D z
        from (inl f) =
            let r = one_of (byte_of D (order_on s k.orders) s (form_beside x
            (side_without s x.side)) x x.what x.value) 0
            (size_of k.model x.what) z f in
            let says = one.holds.cells x i in
            subst (IsOneCell D) (sym r.is)
            (byte_one D law k.model (order_on s k.orders) s (form_beside x (side_without s x.side)) x x.what x.value
            r.place says.datum (with_cell D law x (one.each x i)) (one.cells.each x i).fits.sort
            (omega (arith, r.high)) says.allowed)
        from (inr f) =
            let o = in_each (left_by_split s x) z k.cells f in
            of_rest o.origin z (one.each o.origin o.is_in)
            (after_split k.model s x o.origin z k.cells one.cells.pairs i o.is_in o.becomes)
