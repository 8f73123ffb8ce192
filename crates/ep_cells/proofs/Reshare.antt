-- Resharing: a Left and a Right cell that surely hold one number are one Shared cell.
use Rattle.std.proofs.Common.{◌≡◌, ℕ, ◌+◌, ◌%◌, ◌^◌, ℤ, Bool, true, false, ◌&&◌, ◌||◌, nat_eq, nat_lt, cond, List, []}
use Rattle.ep_bitslice.proofs.Joining.{side_back}
use Rattle.ep_int.proofs.Basics.{size_positive}
use Rattle.std.proofs.Common.{◌∷◌, map, ◌⊎◌, inl, inr, ⊎_elim, Option, Some, None, IfSome, IsSomeAnd, refl, sym, ◌∙◌}
use Rattle.std.proofs.Common.{ap, subst, arith}
use Rattle.std.specs.Option.{option_map_or}
use Rattle.std.specs.Ordering.{int_eq}
use Rattle.std.proofs.lemmas.Bool.{and_parts, and_from, and_right, and_cases, or_left, or_right, or_from, or_parts}
use Rattle.std.proofs.lemmas.Bool.{or_cases, eqb-true, eq-eqb, lt-ltb, both_ways}
use Rattle.std.proofs.lemmas.Bool.Decides.{Decides-int_eq}
use Rattle.std.proofs.lemmas.Int.{ints}
use Rattle.ep_int.specs.declared.types.Order.{Order}
use Rattle.ep_int.specs.declared.types.Model.{Model}
use Rattle.ep_int.specs.declared.types.IntType.{IntType}
use Rattle.ep_int.specs.declared.types.Scalar.{Scalar}
use Rattle.ep_int.specs.declared.types.Scalar.TheVariants.{Int, Pointer}
use Rattle.ep_int.specs.Types.{bits_of, size_of, residue, represented, InRange}
use Rattle.ep_int.specs.Memory.{Memory, Value as Datum, int, null, pointer, is_number}
use Rattle.ep_int.proofs.Wrapping.{represented_representation}
use Rattle.ep_bitslice.specs.declared.cell.Side.{Side}
use Rattle.ep_bitslice.specs.declared.cell.Side.TheVariants.{Left, Right, Shared}
use Rattle.ep_bitslice.specs.declared.cell.CellName.{CellName}
use Rattle.ep_bitslice.specs.declared.segment.Segment.{Segment}
use Rattle.ep_bitslice.specs.Bits.{side_number}
use Rattle.ep_bitslice.specs.Segments.{number}
use Rattle.ep_domain.specs.Domain.{Ops, Lawful, Holds as HoldsNumber}
use Rattle.ep_range_laws.specs.Ranges.{LiesIn}
use Rattle.ep_cells.specs.declared.cell.Cell.{Cell}
use Rattle.ep_cells.specs.declared.cell.Value.{Value}
use Rattle.ep_cells.specs.declared.cell.Value.TheVariants.{Num, Ptr}
use Rattle.ep_cells.specs.Cells.{on_left, on_right, share_memory, place_of, touches, meets, is_same_side}
use Rattle.ep_cells.specs.Cells.{is_same_scalar, IsNamed, IsIn, first, later, put, each_becomes}
use Rattle.ep_cells.specs.Forms.{reformed, have_same_form, common_form}
use Rattle.ep_cells.specs.States.{IsOfSort, HasRisingBlocks, IsThere, IsFormOf, HasForm, EachPair, AreApart, IsCell}
use Rattle.ep_cells.specs.States.{AreCells}
use Rattle.ep_cells.specs.Meaning.{Memories, Allows, HasBytes, StandsAt, Says, numbers_of, name_of, number_on}
use Rattle.ep_cells.specs.Meaning.{HasNumber, FormSays, In}
use Rattle.ep_cells.specs.Reshare.{is_single, are_one_number, is_integer, are_same, met_value, reshared_cell}
use Rattle.ep_cells.specs.Reshare.{left_by_reshare, fate_by_side, fate_by_reshare, cell_from, reshared_pair}
use Rattle.ep_cells.specs.Reshare.{reshared_at, reshared_each, places, reshared}
use Rattle.ep_cells.proofs.Lists.{in_each, each_in, in_put, put_there, put_keeps, pairs_each, pairs_put}
use Rattle.ep_cells.proofs.Bytes.{number_of_cell}
use Rattle.ep_cells.proofs.Places.{at, before_rest, put_before_cell, put_after_cell}
use Rattle.ep_cells.proofs.Places.{meets_sym}
use Rattle.ep_cells.proofs.Changes.{datum_of, IsChange, change_cells, change_holds, name_is}
use Rattle.ep_cells.proofs.Both.{scalar_same, BothHave, common_is, same_forms, bytes_weaker, one, left_first}
use Rattle.ep_cells.proofs.Both.{right_first, one_order, form_at}

-- a Left and a Right integer cell of one place and type, among these cells
pub record IsPair {N : Type 0} (cs : List (Cell N)) (l r : Cell N) : Type 0 where
  pub in_left : IsIn l cs
  pub in_right : IsIn r cs
  pub left : l.side ≡ Left
  pub right : r.side ≡ Right
  pub block : r.block ≡ l.block
  pub offset : r.offset ≡ l.offset
  pub what : l.what ≡ r.what
  pub t : IntType
  pub integer : l.what ≡ Int t

-- ---- what is at the place

pub touches_here : {N : Type 0} (d : Model) (x y : Cell N) → x.block ≡ y.block → x.offset ≡ y.offset
    → touches (place_of d x) (place_of d y) ≡ true
touches_here d x y e f =
    let a = size_positive d x.what in
    let b = size_positive d y.what in
    and_from (nat_eq x.block y.block) (nat_lt x.offset (y.offset + size_of d y.what) && nat_lt y.offset (x.offset +
    size_of d x.what)) (eq-eqb x.block y.block e)
    (and_from (nat_lt x.offset (y.offset + size_of d y.what)) (nat_lt y.offset (x.offset + size_of d x.what))
    (lt-ltb x.offset (y.offset + size_of d y.what) (omega arith)) (lt-ltb y.offset (x.offset + size_of d x.what)
    (omega arith)))

meets_same : {N : Type 0} (d : Model) (x y : Cell N) → AreApart d x y → meets (place_of d y) (place_of d x) ≡ false
meets_same d x y a = meets_sym x.side y.side x.block x.offset (size_of d x.what) y.block y.offset (size_of d y.what)
    a.apart

-- two cells of a state are one, or don't meet
one_or_apart : {N : Type 0} (d : Model) (x y : Cell N) (cs : List (Cell N)) → EachPair (AreApart d) cs → IsIn x cs
    → IsIn y cs → (x ≡ y) ⊎ (meets (place_of d x) (place_of d y) ≡ false)
one_or_apart d x y cs p h k =
    elim (one_order (AreApart d) x y cs p h k) [
      | one e ↦ inl e
      | left_first r ↦ inr r.apart
      | right_first r ↦ inr (meets_same d y x r)
    ]

-- cells of one place that share a memory are one
pub one_here : {N : Type 0} (d : Model) (x y : Cell N) (cs : List (Cell N)) → EachPair (AreApart d) cs → IsIn x cs
    → IsIn y cs → x.block ≡ y.block → x.offset ≡ y.offset → share_memory x.side y.side ≡ true → x ≡ y
one_here d x y cs p h k e f g =
    ⊎_elim (λ i. i)
    (λ i. absurd (both_ways (meets (place_of d x) (place_of d y)) i (and_from (share_memory x.side y.side) (touches
    (place_of d x) (place_of d y)) g (touches_here d x y e f))))
    (one_or_apart d x y cs p h k)

-- another cell of the state doesn't touch the place
apart_left : {N : Type 0} (d : Model) (x y : Cell N) (cs : List (Cell N)) → EachPair (AreApart d) cs → IsIn x cs
    → IsIn y cs → (x ≡ y → ⊥) → share_memory x.side y.side ≡ true → touches (place_of d x) (place_of d y) ≡ false
apart_left d x y cs p h k ne s =
    ⊎_elim (λ i. absurd (ne i))
    (λ i. ⊎_elim (λ f. absurd (both_ways (share_memory x.side y.side) f s)) (λ f. f) (and_cases (share_memory x.side
    y.side) (touches (place_of d x) (place_of d y)) i))
    (one_or_apart d x y cs p h k)

pub left_or_right : (s : Side) → (share_memory Left s ≡ true) ⊎ (share_memory Right s ≡ true)
left_or_right Left = inl refl
left_or_right Right = inr refl
left_or_right Shared = inl refl

pub same_touch : {N : Type 0} (d : Model) (l r y : Cell N) → r.block ≡ l.block → r.offset ≡ l.offset → l.what ≡ r.what
    → touches (place_of d r) (place_of d y) ≡ false → touches (place_of d l) (place_of d y) ≡ false
same_touch d l r y e f g h =
    subst (λ (b : ℕ). touches (at l.side b l.offset (size_of d l.what)) (place_of d y) ≡ false) e
    (subst (λ (q : ℕ). touches (at l.side r.block q (size_of d l.what)) (place_of d y) ≡ false) f
    (subst (λ (w : Scalar). touches (at l.side r.block r.offset (size_of d w)) (place_of d y) ≡ false) (sym g) h))

away : {N : Type 0} (d : Model) (cs : List (Cell N)) (l r y : Cell N) → EachPair (AreApart d) cs → IsPair cs l r
    → IsIn y cs → (nat_eq y.block l.block && nat_eq y.offset l.offset) ≡ false
    → touches (place_of d l) (place_of d y) ≡ false
away d cs l r y p q k e =
    let far : (y.block ≡ l.block) → (y.offset ≡ l.offset) → ⊥ = λ f g.
    both_ways (nat_eq y.block l.block && nat_eq y.offset l.offset) e (and_from (nat_eq y.block l.block) (nat_eq
    y.offset l.offset) (eq-eqb y.block l.block f) (eq-eqb y.offset l.offset g)) in
    ⊎_elim
    (λ s. apart_left d l y cs p q.in_left k (λ f. far (ap (λ z. z.block) (sym f)) (ap (λ z. z.offset) (sym f)))
    (subst (λ (z : Side). share_memory z y.side ≡ true) (sym q.left) s))
    (λ s. same_touch d l r y q.block q.offset q.what
    (apart_left d r y cs p q.in_right k (λ f. far (ap (λ z. z.block) (sym f) ∙ q.block) (ap (λ z. z.offset) (sym f) ∙
    q.offset)) (subst (λ (z : Side). share_memory z y.side ≡ true) (sym q.right) s)))
    (left_or_right y.side)

-- ---- what is left

record IsElsewhere {N : Type 0} (l x y : Cell N) : Type 0 where
  is : y ≡ x
  elsewhere : (nat_eq x.block l.block && nat_eq x.offset l.offset) ≡ false

left_by : {N : Type 0} (l x y : Cell N) (b : Bool) → (nat_eq x.block l.block && nat_eq x.offset l.offset) ≡ b
    → IsIn y (cond b [] (x ∷ [])) → IsElsewhere l x y
left_by l x y true e h = elim h [ ]
left_by l x _ false e (first _) = record { is = refl; elsewhere = e }
left_by l x y false e (later _ _ h) = elim h [ ]

left_is : {N : Type 0} (l x y : Cell N) → IsIn y (left_by_reshare l x) → IsElsewhere l x y
left_is l x y h = left_by l x y (nat_eq x.block l.block && nat_eq x.offset l.offset) refl h

pub own_by : {N : Type 0} (d : Model) (x : Cell N) (b : Bool) → EachPair (AreApart d) (cond b [] (x ∷ []))
own_by d x true = tt
own_by d x false = (tt, tt)

stays_by : {N : Type 0} (x : Cell N) (b : Bool) → b ≡ false → IsIn x (cond b [] (x ∷ []))
stays_by x true e = absurd (cc)
stays_by x false e = first []

abbrev rest_of : {N : Type 0} → Cell N → List (Cell N) → List (Cell N)
rest_of l cs = each_becomes (left_by_reshare l) cs

by_origin : {N : Type 0} (D : Ops N) (l r : Cell N) (cs : List (Cell N)) (P : Cell N → Type 0)
    → P (reshared_cell D l r)
    → ((x : Cell N) → IsIn x cs → (nat_eq x.block l.block && nat_eq x.offset l.offset) ≡ false → P x)
    → (y : Cell N) → IsIn y (put (reshared_cell D l r) (rest_of l cs)) → P y
by_origin D l r cs P new old y h =
    ⊎_elim
    (λ e. subst P (sym e) new)
    (λ k. let q = in_each (left_by_reshare l) y cs k in let e = left_is l q.origin y q.becomes in subst P (sym e.is)
    (old q.origin q.is_in e.elsewhere))
    (in_put (reshared_cell D l r) y (rest_of l cs) h)

reshared_away : {N : Type 0} (D : Ops N) (d : Model) (cs : List (Cell N)) (l r y : Cell N)
    → EachPair (AreApart d) cs → IsPair cs l r → IsIn y (rest_of l cs)
    → meets (place_of d (reshared_cell D l r)) (place_of d y) ≡ false
reshared_away D d cs l r y p q k =
    let f = in_each (left_by_reshare l) y cs k in
    let e = left_is l f.origin y f.becomes in
    let far = away d cs l r f.origin p q f.is_in e.elsewhere in
    subst (λ z. meets (place_of d (reshared_cell D l r)) (place_of d z) ≡ false) (sym e.is)
    (and_right (share_memory Shared f.origin.side) (touches (place_of d l) (place_of d f.origin)) far)

reshare_pairs : {N : Type 0} (D : Ops N) (d : Model) (cs : List (Cell N)) (l r : Cell N) → EachPair (AreApart d) cs
    → IsPair cs l r → EachPair (AreApart d) (put (reshared_cell D l r) (rest_of l cs))
reshare_pairs D d cs l r p q =
    pairs_put (AreApart d) (reshared_cell D l r) (rest_of l cs)
    (pairs_each (AreApart d) (left_by_reshare l) cs p (λ x k. own_by d x (nat_eq x.block l.block && nat_eq x.offset
    l.offset))
    (λ x y a b s i j. subst (λ z. AreApart d z b) (sym (left_is l x a i).is) (subst (AreApart d x) (sym (left_is l y
    b j).is) s)))
    (λ y k e. put_before_cell d (reshared_cell D l r) y (reshared_away D d cs l r y p q k) e)
    (λ y k e. put_after_cell d (reshared_cell D l r) y (reshared_away D d cs l r y p q k) e)
    (λ x y a e. before_rest d (reshared_cell D l r) x y a e)

-- ---- the Shared cell

sort_meet : {N : Type 0} (w : Scalar) (a : N) (o : Option N) → IsOfSort w (Some (Num a))
    → IsOfSort w (option_map_or (λ c. Some (Num c)) o (Some (Num a)))
sort_meet (Int t) a None h = h
sort_meet (Int t) a (Some c) h = tt
sort_meet Pointer a o h = absurd h

sort_met : {N : Type 0} (D : Ops N) (w : Scalar) (u v : Option (Value N)) → IsOfSort w u → IsOfSort w (met_value D u v)
sort_met D w None v h = h
sort_met D w (Some (Ptr p)) v h = h
sort_met D w (Some (Num a)) None h = h
sort_met D w (Some (Num a)) (Some (Ptr q)) h = h
sort_met D w (Some (Num a)) (Some (Num b)) h = sort_meet w a (D.meet a b) h

rising_meet : {N : Type 0} (a : N) (o : Option N)
    → HasRisingBlocks (option_map_or (λ c. Some (Num c)) o (Some (Num a)))
rising_meet a None = tt
rising_meet a (Some c) = tt

rising_met : {N : Type 0} (D : Ops N) (u v : Option (Value N)) → HasRisingBlocks u → HasRisingBlocks (met_value D u v)
rising_met D None v h = h
rising_met D (Some (Ptr p)) v h = h
rising_met D (Some (Num a)) None h = h
rising_met D (Some (Num a)) (Some (Ptr q)) h = h
rising_met D (Some (Num a)) (Some (Num b)) h = rising_meet a (D.meet a b)

some_meet : {N : Type 0} (a : N) (o : Option N) → option_map_or {T = N} (λ c. Some (Num c)) o (Some (Num a)) ≡ None → ⊥
some_meet a None e = cc
some_meet a (Some c) e = cc

undefined_met : {N : Type 0} (D : Ops N) (u v : Option (Value N)) (a b : Bool) → (u ≡ None → a ≡ true)
    → met_value D u v ≡ None → (a || b) ≡ true
undefined_met D None v a b h e = or_left a b (h refl)
undefined_met D (Some (Ptr p)) v a b h e = absurd (cc)
undefined_met D (Some (Num x)) None a b h e = absurd (cc)
undefined_met D (Some (Num x)) (Some (Ptr q)) a b h e = absurd (cc)
undefined_met D (Some (Num x)) (Some (Num y)) a b h e = absurd (some_meet x (D.meet x y) e)

pub reshared_is : {N : Type 0} (D : Ops N) (d : Model) (l r : Cell N) → IsCell d l → IsCell d (reshared_cell D l r)
reshared_is D d l r c = record {
  fits = record {
    sort = sort_met D l.what l.value r.value c.fits.sort;
    undefined = undefined_met D l.value r.value l.maybe r.maybe c.fits.undefined;
    last = c.fits.last;
  };
  rising = rising_met D l.value r.value c.rising;
}

-- ---- the number of both

-- the values of both are these, and what stands at them is the same number, or nothing
pub data Agreed {N : Type 0} (D : Ops N) (t : IntType) (u v : Option (Value N)) (a b : Bool) (x y : Option Datum) :
    Type 0 where
  both_numbers : (z : ℤ) → x ≡ Some (int z) → y ≡ Some (int z)
      → Allows D (Int t) (met_value D u v) (a || b) (Some (int z)) → Agreed D t u v a b x y
  left_number : (z : ℤ) → x ≡ Some (int z) → y ≡ None → b ≡ true
      → Allows D (Int t) (met_value D u v) (a || b) (Some (int z)) → Agreed D t u v a b x y
  right_number : (z : ℤ) → x ≡ None → y ≡ Some (int z) → a ≡ true
      → Allows D (Int t) (met_value D u v) (a || b) (Some (int z)) → Agreed D t u v a b x y
  none : x ≡ None → y ≡ None → Allows D (Int t) (met_value D u v) (a || b) None → Agreed D t u v a b x y

met_by : {N : Type 0} (D : Ops N) (t : IntType) (a : N) (o : Option N) (maybe : Bool) (z : ℤ) → InRange t z
    → HoldsNumber D a z → IsSomeAnd o (λ c. HoldsNumber D c z)
    → Allows D (Int t) (option_map_or (λ c. Some (Num c)) o (Some (Num a))) maybe (Some (int z))
met_by D t a None maybe z r h k = absurd k
met_by D t a (Some c) maybe z r h k = (r, k)

met_allowed : {N : Type 0} (D : Ops N) → Lawful D → (t : IntType) (a b : N) (maybe : Bool) (z : ℤ) → InRange t z
    → HoldsNumber D a z → HoldsNumber D b z
    → Allows D (Int t) (met_value D (Some (Num a)) (Some (Num b))) maybe (Some (int z))
met_allowed D law t a b maybe z r h k = met_by D t a (D.meet a b) maybe z r h (law.meet_holds a b z h k)

met_none : {N : Type 0} (D : Ops N) (t : IntType) (a : N) (o : Option N) (maybe : Bool) → maybe ≡ true
    → Allows D (Int t) (option_map_or (λ c. Some (Num c)) o (Some (Num a))) maybe None
met_none D t a None maybe e = e
met_none D t a (Some c) maybe e = e

-- a number in a range of one number is that number
lies_single : (v z : ℤ) → LiesIn (v, v) z → z ≡ v
lies_single v z h = omega (arith, ints, h.low, h.high)

one_number : {N : Type 0} (D : Ops N) → Lawful D → (a : N) (v z : ℤ) → D.range a ≡ (v, v) → HoldsNumber D a z → z ≡ v
one_number D law a v z e h = lies_single v z (subst (λ r. LiesIn r z) e (law.range_encloses a z h))

single_is : (r : ℤ × ℤ) → is_single r ≡ true → r ≡ (r.0, r.0)
single_is r h =
    let e : r.0 ≡ r.1 = (Decides-int_eq r.0 r.1).0 h in
    ap (λ (z : ℤ). let p : ℤ × ℤ = (r.0, z) in p) (sym e)

agreed_single : {N : Type 0} (D : Ops N) → Lawful D
    → (t : IntType) (p q : N) (a b : Bool) (x y : Option Datum) (v : ℤ) → D.range p ≡ (v, v) → D.range q ≡ (v, v)
    → Allows D (Int t) (Some (Num p)) a x → Allows D (Int t) (Some (Num q)) b y → Agreed D t (Some (Num p)) (Some
    (Num q)) a b x y
agreed_single D law t p q a b None None v e f h k = none refl refl (met_none D t p (D.meet p q) (a || b) (or_left a b
    h))
agreed_single D law t p q a b (Some (int z)) None v e f h k =
    let same = one_number D law p v z e h.1 in
    left_number z refl refl k (met_allowed D law t p q (a || b) z h.0 h.1 (subst (HoldsNumber D q) (sym same)
    (law.range_single q v f)))
agreed_single D law t p q a b None (Some (int z)) v e f h k =
    let same = one_number D law q v z f k.1 in
    right_number z refl refl h (met_allowed D law t p q (a || b) z k.0 (subst (HoldsNumber D p) (sym same)
    (law.range_single p v e)) k.1)
agreed_single D law t p q a b (Some (int z)) (Some (int w)) v e f h k =
    let same : w ≡ z = one_number D law q v w f k.1 ∙ sym (one_number D law p v z e h.1) in
    both_numbers z refl (ap (λ n. Some (int n)) same) (met_allowed D law t p q (a || b) z h.0 h.1 (subst (HoldsNumber
    D q) same k.1))
agreed_single D law t p q a b (Some null) y v e f h k = absurd h
agreed_single D law t p q a b (Some (pointer c o)) y v e f h k = absurd h
agreed_single D law t p q a b None (Some null) v e f h k = absurd k
agreed_single D law t p q a b None (Some (pointer c o)) v e f h k = absurd k
agreed_single D law t p q a b (Some (int z)) (Some null) v e f h k = absurd k
agreed_single D law t p q a b (Some (int z)) (Some (pointer c o)) v e f h k = absurd k

agreed_one : {N : Type 0} (D : Ops N) → Lawful D
    → (t : IntType) (u v : Option (Value N)) (a b : Bool) (x y : Option Datum) → are_one_number D u v ≡ true
    → Allows D (Int t) u a x → Allows D (Int t) v b y → Agreed D t u v a b x y
agreed_one D law t None v a b x y e h k = absurd (cc)
agreed_one D law t (Some (Ptr p)) v a b x y e h k = absurd (cc)
agreed_one D law t (Some (Num p)) None a b x y e h k = absurd (cc)
agreed_one D law t (Some (Num p)) (Some (Ptr q)) a b x y e h k = absurd (cc)
agreed_one D law t (Some (Num p)) (Some (Num q)) a b x y e h k =
    let i = and_parts (is_single (D.range p)) (is_single (D.range q) && int_eq (D.range p).0 (D.range q).0) e in
    let j = and_parts (is_single (D.range q)) (int_eq (D.range p).0 (D.range q).0) i.1 in
    let same : (D.range p).0 ≡ (D.range q).0 = (Decides-int_eq (D.range p).0 (D.range q).0).0 j.1 in
    agreed_single D law t p q a b x y (D.range p).0 (single_is (D.range p) i.0)
    (single_is (D.range q) j.0 ∙ ap (λ (z : ℤ). let r : ℤ × ℤ = (z, z) in r) (sym same)) h k

-- numbers of a type that are equal modulo 2 to the power of its width are equal
pub same_residue : (t : IntType) (x y : ℤ) → InRange t x → InRange t y
    → residue (2 ^ bits_of t) x ≡ residue (2 ^ bits_of t) y → x ≡ y
same_residue t x y h k e = sym (represented_representation t x h) ∙ ap (represented t) e ∙ represented_representation
    t y k

agreed_numbers : {N : Type 0} (D : Ops N) → Lawful D → (t : IntType) (u v : Option (Value N)) (a b : Bool) (z : ℤ)
    → Allows D (Int t) u a (Some (int z)) → Allows D (Int t) v b (Some (int z))
    → Allows D (Int t) (met_value D u v) (a || b) (Some (int z))
agreed_numbers D law t None v a b z h k = absurd (let e : Some (int z) ≡ None = h in cc)
agreed_numbers D law t (Some (Ptr p)) v a b z h k = absurd h
agreed_numbers D law t (Some (Num p)) None a b z h k = h
agreed_numbers D law t (Some (Num p)) (Some (Ptr q)) a b z h k = h
agreed_numbers D law t (Some (Num p)) (Some (Num q)) a b z h k = met_allowed D law t p q (a || b) z h.0 h.1 k.1

-- ---- one form on both

have_both : (f g : Option (List Segment)) → have_same_form f g ≡ true → (ss : List Segment) × BothHave f g ss
have_both None g h = absurd (cc)
have_both (Some a) None h = absurd (cc)
have_both (Some a) (Some b) h = (a, same_forms (Some a) (Some b) a refl h)

-- the number that a form gives a sure cell
pub record HasResidue {N : Type 0} (d : Model) (os : Order × Order) (m : Memories) (c : Cell N) (t : IntType) (v :
    Option Datum) (k : ℕ) : Type 0 where
  pub number : ℤ
  pub is : v ≡ Some (int number)
  pub in_range : InRange t number
  pub residue_is : residue (2 ^ bits_of t) number ≡ k % 2 ^ bits_of t

form_residue : {N : Type 0} (D : Ops N) (os : Order × Order) (d : Model) (m : Memories) (cs : List (Cell N)) (c :
    Cell N) (t : IntType) (ss : List Segment) → IsCell d c → c.what ≡ Int t
    → IsFormOf cs c ss → FormSays os m c ss → (says : Says D os d m c) → HasResidue d os m c t says.datum (number
    (numbers_of os m) ss)
form_residue D os d m cs c t ss cell w f h says =
    let q = datum_of D d c t says.datum cell.fits w f.sure says.allowed in
    let n = number_of_cell os d m c t q.number w f.sure q.in_range (subst (StandsAt os d m c) q.is says.stands) in
    let k : HasNumber os m c (Int t) (number (numbers_of os m) ss) = subst (λ (z : Scalar). HasNumber os m c z
    (number (numbers_of os m) ss)) w h in
    record {
      number = q.number;
      is = q.is;
      in_range = q.in_range;
      residue_is = ap (residue (2 ^ bits_of t)) (sym n) ∙
          k;
    }

allowed_at : {N : Type 0} (D : Ops N) (w : Scalar) (t : IntType) (u : Option (Value N)) (a : Bool) (v : Option Datum)
    → w ≡ Int t → Allows D w u a v → Allows D (Int t) u a v
allowed_at D w t u a v e h = subst (λ (z : Scalar). Allows D z u a v) e h

agreed_form : {N : Type 0} (D : Ops N) → Lawful D
    → (os : Order × Order) (d : Model) (m : Memories) (cs : List (Cell N)) (l r : Cell N) (ss : List Segment)
    → AreCells d cs → (q : IsPair cs l r)
    → BothHave l.form r.form ss → IfSome l.form (FormSays os m l) → IfSome r.form (FormSays os m r) → (x : Says D os
    d m l) (y : Says D os d m r)
    → Agreed D q.t l.value r.value l.maybe r.maybe x.datum y.datum
agreed_form D law os d m cs l r ss cells q b fl fr x y =
    let wr : r.what ≡ Int q.t = sym q.what ∙ q.integer in
    let i = form_residue D os d m cs l q.t ss (cells.each l q.in_left) q.integer (form_at cs l ss (cells.forms l
    q.in_left) b.left) (subst (λ o. IfSome o (FormSays os m l)) b.left fl) x in
    let j = form_residue D os d m cs r q.t ss (cells.each r q.in_right) wr (form_at cs r ss (cells.forms r
    q.in_right) b.right) (subst (λ o. IfSome o (FormSays os m r)) b.right fr) y in
    let same : j.number ≡ i.number = same_residue q.t j.number i.number j.in_range i.in_range (j.residue_is ∙ sym
    i.residue_is) in
    let is : y.datum ≡ Some (int i.number) = j.is ∙ ap (λ z. Some (int z)) same in
    both_numbers i.number i.is is
    (agreed_numbers D law q.t l.value r.value l.maybe r.maybe i.number
    (subst (Allows D (Int q.t) l.value l.maybe) i.is (allowed_at D l.what q.t l.value l.maybe x.datum q.integer
    x.allowed))
    (subst (Allows D (Int q.t) r.value r.maybe) is (allowed_at D r.what q.t r.value r.maybe y.datum wr y.allowed)))

agreed : {N : Type 0} (D : Ops N) → Lawful D
    → (os : Order × Order) (d : Model) (m : Memories) (cs : List (Cell N)) (l r : Cell N) → AreCells d cs
    → (q : IsPair cs l r) → (have_same_form l.form r.form || are_one_number D l.value r.value) ≡ true
    → IfSome l.form (FormSays os m l) → IfSome r.form (FormSays os m r) → (x : Says D os d m l) (y : Says D os d m r)
    → Agreed D q.t l.value r.value l.maybe r.maybe x.datum y.datum
agreed D law os d m cs l r cells q h fl fr x y =
    ⊎_elim
    (λ e. let b = have_both l.form r.form e in agreed_form D law os d m cs l r b.0 cells q b.1 fl fr x y)
    (λ e. agreed_one D law q.t l.value r.value l.maybe r.maybe x.datum y.datum e
    (allowed_at D l.what q.t l.value l.maybe x.datum q.integer x.allowed)
    (allowed_at D r.what q.t r.value r.maybe y.datum (sym q.what ∙ q.integer) y.allowed))
    (or_cases (have_same_form l.form r.form) (are_one_number D l.value r.value) h)

-- ---- what the Shared cell says

bytes_at : {N : Type 0} (o : Order) (d : Model) (n : Memory) (l r : Cell N) (v : Option Datum) → r.block ≡ l.block
    → r.offset ≡ l.offset → l.what ≡ r.what
    → HasBytes o n (size_of d r.what) r.what r.maybe r.block r.offset v → HasBytes o n (size_of d l.what) l.what
    r.maybe l.block l.offset v
bytes_at o d n l r v b q w h =
    subst (λ (z : ℕ). HasBytes o n (size_of d l.what) l.what r.maybe l.block z v) q
    (subst (λ (z : ℕ). HasBytes o n (size_of d l.what) l.what r.maybe z r.offset v) b
    (subst (λ (z : Scalar). HasBytes o n (size_of d z) z r.maybe r.block r.offset v) (sym w) h))

no_numbers : (o : Order) (n : Memory) (size : ℕ) (w : Scalar) (t : IntType) (maybe : Bool) (b q : ℕ) (z : ℤ)
    → w ≡ Int t → maybe ≡ true → HasBytes o n size w maybe b q None → HasBytes o n size w maybe b q (Some (int z))
no_numbers o n size w t maybe b q z e f h =
    subst (λ (y : Bool). HasBytes o n size w y b q (Some (int z))) (sym f)
    (subst (λ (y : Scalar). HasBytes o n size y true b q (Some (int z))) (sym e) (λ j l. inr (ap is_number (h j l))))

shared_stands : {N : Type 0} (D : Ops N) (os : Order × Order) (d : Model) (m : Memories) (l r : Cell N) (v : Option
    Datum)
    → HasBytes os.0 m.left (size_of d l.what) l.what (l.maybe || r.maybe) l.block l.offset v → HasBytes os.1 m.right
    (size_of d l.what) l.what (l.maybe || r.maybe) l.block l.offset v
    → StandsAt os d m (reshared_cell D l r) v
shared_stands D os d m l r v a b = record { left = λ e. a; right = λ e. b }

shared_says : {N : Type 0} (D : Ops N) (os : Order × Order) (d : Model) (m : Memories) (cs : List (Cell N)) (l r :
    Cell N) → (q : IsPair cs l r) → (x y : Option Datum)
    → StandsAt os d m l x → StandsAt os d m r y → Agreed D q.t l.value r.value l.maybe r.maybe x y → Says D os d m
    (reshared_cell D l r)
shared_says {N = N} D os d m cs l r q x y hx hy (both_numbers z e f a) = record {
  datum = Some (int z);
  allowed = subst (λ (w : Scalar). Allows D w (met_value D l.value r.value) (l.maybe || r.maybe) (Some (int z))) (sym
      q.integer) a;
  stands = shared_stands D os d m l r (Some (int z))
      (bytes_weaker os.0 m.left (size_of d l.what) l.what l.maybe (l.maybe || r.maybe) l.block l.offset (Some (int
      z)) (λ g. or_left l.maybe r.maybe g)
      (subst (HasBytes os.0 m.left (size_of d l.what) l.what l.maybe l.block l.offset) e (hx.left (ap on_left
      q.left))))
      (bytes_weaker os.1 m.right (size_of d l.what) l.what r.maybe (l.maybe || r.maybe) l.block l.offset (Some (int
      z)) (λ g. or_right l.maybe r.maybe g)
      (bytes_at os.1 d m.right l r (Some (int z)) q.block q.offset q.what (subst (HasBytes os.1 m.right (size_of d
      r.what) r.what r.maybe r.block r.offset) f (hy.right (ap on_right q.right)))));
}
shared_says D os d m cs l r q x y hx hy (left_number z e f g a) = record {
  datum = Some (int z);
  allowed = subst (λ (w : Scalar). Allows D w (met_value D l.value r.value) (l.maybe || r.maybe) (Some (int z))) (sym
      q.integer) a;
  stands = shared_stands D os d m l r (Some (int z))
      (bytes_weaker os.0 m.left (size_of d l.what) l.what l.maybe (l.maybe || r.maybe) l.block l.offset (Some (int
      z)) (λ i. or_left l.maybe r.maybe i)
      (subst (HasBytes os.0 m.left (size_of d l.what) l.what l.maybe l.block l.offset) e (hx.left (ap on_left
      q.left))))
      (no_numbers os.1 m.right (size_of d l.what) l.what q.t (l.maybe || r.maybe) l.block l.offset z q.integer
      (or_right l.maybe r.maybe g)
      (bytes_weaker os.1 m.right (size_of d l.what) l.what r.maybe (l.maybe || r.maybe) l.block l.offset None (λ i.
      or_right l.maybe r.maybe i)
      (bytes_at os.1 d m.right l r None q.block q.offset q.what (subst (HasBytes os.1 m.right (size_of d r.what)
      r.what r.maybe r.block r.offset) f (hy.right (ap on_right q.right))))));
}
shared_says D os d m cs l r q x y hx hy (right_number z e f g a) = record {
  datum = Some (int z);
  allowed = subst (λ (w : Scalar). Allows D w (met_value D l.value r.value) (l.maybe || r.maybe) (Some (int z))) (sym
      q.integer) a;
  stands = shared_stands D os d m l r (Some (int z))
      (no_numbers os.0 m.left (size_of d l.what) l.what q.t (l.maybe || r.maybe) l.block l.offset z q.integer
      (or_left l.maybe r.maybe g)
      (bytes_weaker os.0 m.left (size_of d l.what) l.what l.maybe (l.maybe || r.maybe) l.block l.offset None (λ i.
      or_left l.maybe r.maybe i)
      (subst (HasBytes os.0 m.left (size_of d l.what) l.what l.maybe l.block l.offset) e (hx.left (ap on_left
      q.left)))))
      (bytes_weaker os.1 m.right (size_of d l.what) l.what r.maybe (l.maybe || r.maybe) l.block l.offset (Some (int
      z)) (λ i. or_right l.maybe r.maybe i)
      (bytes_at os.1 d m.right l r (Some (int z)) q.block q.offset q.what (subst (HasBytes os.1 m.right (size_of d
      r.what) r.what r.maybe r.block r.offset) f (hy.right (ap on_right q.right)))));
}
shared_says D os d m cs l r q x y hx hy (none e f a) = record {
  datum = None;
  allowed = subst (λ (w : Scalar). Allows D w (met_value D l.value r.value) (l.maybe || r.maybe) None) (sym
      q.integer) a;
  stands = shared_stands D os d m l r None
      (bytes_weaker os.0 m.left (size_of d l.what) l.what l.maybe (l.maybe || r.maybe) l.block l.offset None (λ i.
      or_left l.maybe r.maybe i)
      (subst (HasBytes os.0 m.left (size_of d l.what) l.what l.maybe l.block l.offset) e (hx.left (ap on_left
      q.left))))
      (bytes_weaker os.1 m.right (size_of d l.what) l.what r.maybe (l.maybe || r.maybe) l.block l.offset None (λ i.
      or_right l.maybe r.maybe i)
      (bytes_at os.1 d m.right l r None q.block q.offset q.what (subst (HasBytes os.1 m.right (size_of d r.what)
      r.what r.maybe r.block r.offset) f (hy.right (ap on_right q.right)))));
}

-- ---- its form

pub shared_form : {N : Type 0} (D : Ops N) (cs : List (Cell N)) (l r : Cell N) → HasForm cs l → HasForm cs r
    → (o : Option (List Segment)) → common_form l.form r.form ≡ o → IfSome o (IsFormOf cs (reshared_cell D l r))
shared_form D cs l r h k None e = tt
shared_form D cs l r h k (Some ss) e =
    let b = common_is l.form r.form ss e in
    let f = form_at cs l ss h b.left in
    let g = form_at cs r ss k b.right in
    record { sure = or_from l.maybe r.maybe f.sure g.sure; wide = f.wide; form = f.form; mentioned = f.mentioned }

-- the number at the left of the place
left_is_shared : {N : Type 0} (D : Ops N) (os : Order × Order) (m : Memories) (l r : Cell N) (t : IntType)
    → l.side ≡ Left → numbers_of os m (name_of (reshared_cell D l r) t) ≡ numbers_of os m (name_of l t)
left_is_shared D os m l r t e = ap (λ (s : Side). number_on s os m (name_of l t)) (sym e)

shared_number : {N : Type 0} (D : Ops N) (os : Order × Order) (m : Memories) (l r : Cell N) (w : Scalar) (k : ℕ)
    → l.side ≡ Left → HasNumber os m l w k → HasNumber os m (reshared_cell D l r) w k
shared_number D os m l r (Int t) k e h = ap (residue (2 ^ bits_of t)) (left_is_shared D os m l r t e) ∙ h
shared_number D os m l r Pointer k e h = h

shared_holds : {N : Type 0} (D : Ops N) (os : Order × Order) (m : Memories) (l r : Cell N) → l.side ≡ Left
    → IfSome l.form (FormSays os m l)
    → (o : Option (List Segment)) → common_form l.form r.form ≡ o → IfSome o (λ ss. HasNumber os m (reshared_cell D l
    r) l.what (number (numbers_of os m) ss))
shared_holds D os m l r e h None f = tt
shared_holds D os m l r e h (Some ss) f =
    let b = common_is l.form r.form ss f in
    shared_number D os m l r l.what (number (numbers_of os m) ss) e (subst (λ o. IfSome o (FormSays os m l)) b.left h)

-- ---- names

-- a cell of the place is the Left one or the Right one
pub data IsOneOf {N : Type 0} (l r x : Cell N) : Type 0 where
  the_left : x ≡ l → IsOneOf l r x
  the_right : x ≡ r → IsOneOf l r x

one_of : {N : Type 0} (d : Model) (cs : List (Cell N)) (l r x : Cell N) → EachPair (AreApart d) cs → IsPair cs l r
    → IsIn x cs → x.block ≡ l.block → x.offset ≡ l.offset → IsOneOf l r x
one_of d cs l r x p q k e f =
    ⊎_elim
    (λ s. the_left (sym (one_here d l x cs p q.in_left k (sym e) (sym f) (subst (λ (z : Side). share_memory z x.side
    ≡ true) (sym q.left) s))))
    (λ s. the_right (sym (one_here d r x cs p q.in_right k (q.block ∙ sym e) (q.offset ∙ sym f) (subst (λ (z : Side).
    share_memory z x.side ≡ true) (sym q.right) s))))
    (left_or_right x.side)

-- a mention of either goes on as one of the Shared cell
pub record GoesOn (maybe : Bool) (a e : CellName) : Type 0 where
  pub is : e ≡ record a { side = Shared }
  pub sure : maybe ≡ false

goes_by : (maybe : Bool) (a e : CellName) (s : Side) → (s ≡ Shared → ⊥) → fate_by_side maybe a s ≡ Some e
    → GoesOn maybe a e
goes_by maybe a e Shared n h = absurd (n refl)
goes_by true a e Left n h = absurd (cc)
goes_by true a e Right n h = absurd (cc)
goes_by false a e Left n h = record { is = let i : e ≡ record a { side = Shared } = cc in i; sure = refl }
goes_by false a e Right n h = record { is = let i : e ≡ record a { side = Shared } = cc in i; sure = refl }

one_side : {N : Type 0} (cs : List (Cell N)) (l r x : Cell N) → IsPair cs l r → IsOneOf l r x → x.side ≡ Shared → ⊥
one_side cs l r x q (the_left e) h = absurd (let i : Left ≡ Shared = sym q.left ∙ ap (λ z. z.side) (sym e) ∙ h in cc)
one_side cs l r x q (the_right e) h = absurd (let i : Right ≡ Shared = sym q.right ∙ ap (λ z. z.side) (sym e) ∙ h in
    cc)

what_is : {N : Type 0} (cs : List (Cell N)) (l r x : Cell N) → IsPair cs l r → IsOneOf l r x → l.what ≡ x.what
what_is cs l r x q (the_left e) = ap (λ z. z.what) (sym e)
what_is cs l r x q (the_right e) = q.what ∙ ap (λ z. z.what) (sym e)

place_is : {N : Type 0} (l x : Cell N) (a : CellName) → IsNamed a x
    → (nat_eq a.block l.block && nat_eq a.offset l.offset) ≡ true → (x.block ≡ l.block) × (x.offset ≡ l.offset)
place_is l x a i h =
    let p = and_parts (nat_eq a.block l.block) (nat_eq a.offset l.offset) h in
    (i.block ∙ eqb-true a.block l.block p.0, i.offset ∙ eqb-true a.offset l.offset p.1)

there_by : {N : Type 0} (D : Ops N) (d : Model) (cs : List (Cell N)) (l r : Cell N) (a e : CellName) (b : Bool)
    → EachPair (AreApart d) cs → IsPair cs l r → IsThere a cs
    → (nat_eq a.block l.block && nat_eq a.offset l.offset) ≡ b → cond b (fate_by_side (l.maybe || r.maybe) a a.side)
    (Some a) ≡ Some e → IsThere e (put (reshared_cell D l r) (rest_of l cs))
there_by D d cs l r a e true p q t f h =
    let at = place_is l t.cell a t.named f in
    let o = one_of d cs l r t.cell p q t.is_in at.0 at.1 in
    let g = goes_by (l.maybe || r.maybe) a e a.side (λ s. one_side cs l r t.cell q o (t.named.side ∙ s)) h in
    record {
      cell = reshared_cell D l r;
      is_in = put_there (reshared_cell D l r) (rest_of l cs);
      named = subst (λ z. IsNamed z (reshared_cell D l r)) (sym g.is)
          (record {
            side = refl;
            block = sym at.0 ∙ t.named.block;
            offset = sym at.1 ∙ t.named.offset;
            what = what_is
                cs l r t.cell q o ∙ t.named.what;
          });
      sure = g.sure;
    }
there_by D d cs l r a e false p q t f h =
    let is : a ≡ e = cc in
    let far : (nat_eq t.cell.block l.block && nat_eq t.cell.offset l.offset) ≡ false =
    subst (λ (z : ℕ). (nat_eq z l.block && nat_eq t.cell.offset l.offset) ≡ false) (sym t.named.block) (subst (λ (z :
    ℕ). (nat_eq a.block l.block && nat_eq z l.offset) ≡ false) (sym t.named.offset) f) in
    record {
      cell = t.cell;
      is_in = put_keeps (reshared_cell D l r) t.cell (rest_of l cs) (each_in (left_by_reshare l) t.cell t.cell cs
          t.is_in (stays_by t.cell (nat_eq t.cell.block l.block && nat_eq t.cell.offset l.offset) far));
      named = subst (λ z. IsNamed z t.cell) is t.named;
      sure = t.sure;
    }

same_by : {N : Type 0} (D : Ops N) (t : IntType) (u v : Option (Value N)) (a b : Bool) (x y : Option Datum) (i j : ℤ)
    → x ≡ Some (int i) → y ≡ Some (int j) → Agreed D t u v a b x y → i ≡ j
same_by D t u v a b x y i j e f (both_numbers z g h k) = let p : Some (int i) ≡ Some (int z) = sym e ∙ g in let q :
    Some (int j) ≡ Some (int z) = sym f ∙ h in cc
same_by D t u v a b x y i j e f (left_number z g h n k) = absurd (let p : Some (int j) ≡ None = sym f ∙ h in cc)
same_by D t u v a b x y i j e f (right_number z g h n k) = absurd (let p : Some (int i) ≡ None = sym e ∙ g in cc)
same_by D t u v a b x y i j e f (none g h k) = absurd (let p : Some (int i) ≡ None = sym e ∙ g in cc)

-- both cells have one number, where both are sure
pair_by : {N : Type 0} (D : Ops N) (os : Order × Order) (d : Model) (m : Memories) (cs : List (Cell N)) (l r : Cell
    N) → AreCells d cs → (q : IsPair cs l r) → (x : Says D os d m l) (y : Says D os d m r)
    → l.maybe ≡ false → r.maybe ≡ false → Agreed D q.t l.value r.value l.maybe r.maybe x.datum y.datum → numbers_of
    os m (name_of l q.t) ≡ numbers_of os m (name_of r q.t)
pair_by D os d m cs l r cells q x y sl sr g =
    let wr : r.what ≡ Int q.t = sym q.what ∙ q.integer in
    let i = datum_of D d l q.t x.datum (cells.each l q.in_left).fits q.integer sl x.allowed in
    let j = datum_of D d r q.t y.datum (cells.each r q.in_right).fits wr sr y.allowed in
    let nl = number_of_cell os d m l q.t i.number q.integer sl i.in_range (subst (StandsAt os d m l) i.is x.stands) in
    let nr = number_of_cell os d m r q.t j.number wr sr j.in_range (subst (StandsAt os d m r) j.is y.stands) in
    nl ∙ same_by D q.t l.value r.value l.maybe r.maybe x.datum y.datum i.number j.number i.is j.is g ∙ sym nr

one_number_of : {N : Type 0} (os : Order × Order) (m : Memories) (l r x : Cell N) (t : IntType)
    → numbers_of os m (name_of l t) ≡ numbers_of os m (name_of r t) → IsOneOf l r x
    → numbers_of os m (name_of l t) ≡ numbers_of os m (name_of x t)
one_number_of os m l r x t h (the_left e) = ap (λ z. numbers_of os m (name_of z t)) (sym e)
one_number_of os m l r x t h (the_right e) = h ∙ ap (λ z. numbers_of os m (name_of z t)) (sym e)

keeps_by : {N : Type 0} (D : Ops N) (os : Order × Order) (d : Model) (m : Memories) (cs : List (Cell N)) (l r : Cell
    N) (a e : CellName) (b : Bool) → EachPair (AreApart d) cs → (q : IsPair cs l r) → IsThere a cs
    → ((l.maybe || r.maybe) ≡ false → numbers_of os m (name_of l q.t) ≡ numbers_of os m (name_of r q.t))
    → (nat_eq a.block l.block && nat_eq a.offset l.offset) ≡ b → cond b (fate_by_side (l.maybe || r.maybe) a a.side)
    (Some a) ≡ Some e → numbers_of os m e ≡ numbers_of os m a
keeps_by D os d m cs l r a e true p q t n f h =
    let at = place_is l t.cell a t.named f in
    let o = one_of d cs l r t.cell p q t.is_in at.0 at.1 in
    let g = goes_by (l.maybe || r.maybe) a e a.side (λ s. one_side cs l r t.cell q o (t.named.side ∙ s)) h in
    let what : l.what ≡ Int a.t = what_is cs l r t.cell q o ∙ t.named.what in
    let types : q.t ≡ a.t = let i : Int q.t ≡ Int a.t = sym q.integer ∙ what in cc in
    let named : IsNamed (record a { side = Shared }) (reshared_cell D l r) = record {
      side = refl;
      block = sym at.0 ∙
          t.named.block;
      offset = sym at.1 ∙ t.named.offset;
      what = what;
    } in
    ap (numbers_of os m) (g.is ∙ sym (name_is (record a { side = Shared }) (reshared_cell D l r) named))
    ∙ left_is_shared D os m l r a.t q.left
    ∙ ap (λ (z : IntType). numbers_of os m (name_of l z)) (sym types)
    ∙ one_number_of os m l r t.cell q.t (n g.sure) o
    ∙ ap (λ (z : IntType). numbers_of os m (name_of t.cell z)) types
    ∙ ap (numbers_of os m) (name_is a t.cell t.named)
keeps_by D os d m cs l r a e false p q t n f h = let is : a ≡ e = cc in ap (numbers_of os m) (sym is)

-- ---- one pair

pair_change : {N : Type 0} (D : Ops N) (d : Model) (cs : List (Cell N)) (l r : Cell N) → AreCells d cs
    → IsPair cs l r → IsChange d cs (put (reshared_cell D l r) (rest_of l cs)) (fate_by_reshare l r)
pair_change D d cs l r a q = record {
  each = by_origin D l r cs (IsCell d) (reshared_is D d l r (a.each l q.in_left)) (λ x k e. a.each x k);
  pairs = reshare_pairs D d cs l r a.pairs q;
  forms = by_origin D l r cs (HasForm cs) (shared_form D cs l r (a.forms l q.in_left) (a.forms r q.in_right)
      (common_form l.form r.form) refl) (λ x k e. a.forms x k);
  fates = λ c e t h. there_by D d cs l r c e (nat_eq c.block l.block && nat_eq c.offset l.offset) a.pairs q t refl h;
}

pair_holds : {N : Type 0} (D : Ops N) → Lawful D
    → (os : Order × Order) (d : Model) (m : Memories) (cs : List (Cell N)) (l r : Cell N) → AreCells d cs
    → IsPair cs l r → (have_same_form l.form r.form || are_one_number D l.value r.value) ≡ true → In D (record {
      orders = os;
      model =
          d;
      cells = cs;
    }) m
    → In D (record {
      orders = os;
      model = d;
      cells = map (reformed (fate_by_reshare l r)) (put (reshared_cell D l r)
          (rest_of l cs));
    }) m
pair_holds D law os d m cs l r a q h i =
    let x = i.cells l q.in_left in
    let y = i.cells r q.in_right in
    let g = agreed D law os d m cs l r a q h (i.forms l q.in_left) (i.forms r q.in_right) x y in
    change_holds D os d m m cs (put (reshared_cell D l r) (rest_of l cs)) (fate_by_reshare l r) (pair_change D d cs l
    r a q)
    (record {
      says = by_origin D l r cs (Says D os d m) (shared_says D os d m cs l r q x.datum y.datum x.stands y.stands g)
          (λ z k e. i.cells z k);
      numbers = by_origin D l r cs (λ z. IfSome z.form (λ ss. HasNumber os m z z.what (number (numbers_of os m) ss)))
          (shared_holds D os m l r q.left (i.forms l q.in_left) (common_form l.form r.form) refl) (λ z k e. i.forms z
          k);
      keeps = λ c e t f. keeps_by D os d m cs l r c e (nat_eq c.block l.block && nat_eq c.offset l.offset) a.pairs q t
          (λ s. let p = or_parts l.maybe r.maybe s in pair_by D os d m cs l r a q x y p.0 p.1 g) refl f;
    })

-- ---- all places

record IsFound {N : Type 0} (s : Side) (b q : ℕ) (cs : List (Cell N)) (c : Cell N) : Type 0 where
  is_in : IsIn c cs
  side : c.side ≡ s
  block : c.block ≡ b
  offset : c.offset ≡ q

found_by : {N : Type 0} (s : Side) (b q : ℕ) (c x : Cell N) (cs : List (Cell N)) (t : Bool)
    → (is_same_side x.side s && (nat_eq x.block b && nat_eq x.offset q)) ≡ t
    → (cell_from s b q cs ≡ Some c → IsFound s b q cs c) → cond t (Some x) (cell_from s b q cs) ≡ Some c → IsFound s
    b q (x ∷ cs) c
found_by s b q c x cs true e rest h =
    let p = and_parts (is_same_side x.side s) (nat_eq x.block b && nat_eq x.offset q) e in
    let r = and_parts (nat_eq x.block b) (nat_eq x.offset q) p.1 in
    let same : x ≡ c = cc in
    subst (IsFound s b q (x ∷ cs)) same
    (record {
      is_in = first cs;
      side = side_back x.side s (eqb-true (side_number x.side) (side_number s) p.0);
      block
          = eqb-true x.block b r.0;
      offset = eqb-true x.offset q r.1;
    })
found_by s b q c x cs false e rest h = let r = rest h in record {
  is_in = later x cs r.is_in;
  side = r.side;
  block =
      r.block;
  offset = r.offset;
}

found : {N : Type 0} (s : Side) (b q : ℕ) (cs : List (Cell N)) (c : Cell N) → cell_from s b q cs ≡ Some c
    → IsFound s b q cs c
found s b q [] c h = absurd (cc)
found s b q (x ∷ cs) c h = found_by s b q c x cs (is_same_side x.side s && (nat_eq x.block b && nat_eq x.offset q))
    refl (found s b q cs c) h

pub integer_is : (w : Scalar) → is_integer w ≡ true → (t : IntType) × (w ≡ Int t)
integer_is (Int t) h = (t, refl)
integer_is Pointer h = absurd (cc)

pair_is : {N : Type 0} (b q : ℕ) (cs : List (Cell N)) (l r : Cell N) → IsFound Left b q cs l
    → IsFound Right b q cs r → (is_integer l.what && is_same_scalar l.what r.what) ≡ true → IsPair cs l r
pair_is b q cs l r f g h =
    let p = and_parts (is_integer l.what) (is_same_scalar l.what r.what) h in
    let t = integer_is l.what p.0 in
    record {
      in_left = f.is_in;
      in_right = g.is_in;
      left = f.side;
      right = g.side;
      block = g.block ∙ sym f.block;
      offset = g.offset ∙ sym f.offset;
      what = scalar_same l.what r.what p.1;
      t = t.0;
      integer = t.1;
    }

-- cells that are in order and apart stay so, and what they say goes on to hold
pub record GoesOnHolding {N : Type 0} (D : Ops N) (d : Model) (cs after : List (Cell N)) : Type 0 where
  pub cells : AreCells d after
  pub holds : (os : Order × Order) (m : Memories) → In D (record { orders = os; model = d; cells = cs }) m
      → In D (record { orders = os; model = d; cells = after }) m

same_pair : {N : Type 0} (D : Ops N) → Lawful D
    → (d : Model) (b q : ℕ) (cs : List (Cell N)) (l r : Cell N) (t : Bool) → are_same D l r ≡ t
    → IsFound Left b q cs l → IsFound Right b q cs r → AreCells d cs
    → GoesOnHolding D d cs (cond t (map (reformed (fate_by_reshare l r)) (put (reshared_cell D l r) (rest_of l cs)))
    cs)
same_pair D law d b q cs l r true e f g a =
    let p = and_parts (is_integer l.what && is_same_scalar l.what r.what) (have_same_form l.form r.form ||
    are_one_number D l.value r.value) e in
    let k = pair_is b q cs l r f g p.0 in
    record {
      cells = change_cells d cs (put (reshared_cell D l r) (rest_of l cs)) (fate_by_reshare l r) (pair_change D d cs
          l r a k);
      holds = λ os m i. pair_holds D law os d m cs l r a k p.1 i;
    }
same_pair D law d b q cs l r false e f g a = record { cells = a; holds = λ os m i. i }

pair_at : {N : Type 0} (D : Ops N) → Lawful D → (d : Model) (b q : ℕ) (cs : List (Cell N)) (x y : Option (Cell N))
    → cell_from Left b q cs ≡ x → cell_from Right b q cs ≡ y → AreCells d cs
    → GoesOnHolding D d cs (reshared_pair D x y cs)
pair_at D law d b q cs None y e f a = record { cells = a; holds = λ os m i. i }
pair_at D law d b q cs (Some l) None e f a = record { cells = a; holds = λ os m i. i }
pair_at D law d b q cs (Some l) (Some r) e f a = same_pair D law d b q cs l r (are_same D l r) refl (found Left b q
    cs l e) (found Right b q cs r f) a

each_place : {N : Type 0} (D : Ops N) → Lawful D → (d : Model) (ps : List (ℕ × ℕ)) (cs : List (Cell N))
    → AreCells d cs → GoesOnHolding D d cs (reshared_each D ps cs)
each_place D law d [] cs a = record { cells = a; holds = λ os m i. i }
each_place D law d (p ∷ ps) cs a =
    let one = pair_at D law d p.0 p.1 cs (cell_from Left p.0 p.1 cs) (cell_from Right p.0 p.1 cs) refl refl a in
    let more = each_place D law d ps (reshared_at D p.0 p.1 cs) one.cells in
    record { cells = more.cells; holds = λ os m i. more.holds os m (one.holds os m i) }

pub reshared_goes_on : {N : Type 0} (D : Ops N) → Lawful D → (d : Model) (cs : List (Cell N)) → AreCells d cs
    → GoesOnHolding D d cs (reshared D cs)
reshared_goes_on D law d cs a = each_place D law d (places cs) cs a
