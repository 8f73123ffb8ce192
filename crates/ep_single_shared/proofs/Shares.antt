-- Where cells of both sides become one, a state stands for one pair of memories still.
use Rattle.std.proofs.Common.{◌≡◌, ℕ, ◌+◌, ℤ, Bool, true, false, ◌&&◌, ◌||◌, nat_eq, nat_le, nat_lt, cond, List, []}
use Rattle.ep_bitslice.proofs.Joining.{side_back}
use Rattle.ep_int.proofs.Basics.{size_positive}
use Rattle.ep_cells.proofs.Reshare.{integer_is, one_here}
use Rattle.std.proofs.Common.{◌∷◌, map}
use Rattle.std.proofs.Common.{◌⊎◌, inl, inr, Option, Some, None, IfSome, refl, sym, ◌∙◌, ap, subst}
use Rattle.std.specs.Option.{option_map_or}
use Rattle.std.proofs.lemmas.Bool.{and_parts, and_from, or_cases, eqb-true}
use Rattle.ep_int.specs.declared.types.Model.{Model}
use Rattle.ep_int.specs.declared.types.IntType.{IntType}
use Rattle.ep_int.specs.declared.types.Scalar.{Scalar}
use Rattle.ep_int.specs.declared.types.Scalar.TheVariants.{Int}
use Rattle.ep_int.specs.Types.{size_of}
use Rattle.ep_int.specs.Memory.{int}
use Rattle.ep_bitslice.specs.declared.cell.Side.{Side}
use Rattle.ep_bitslice.specs.declared.cell.Side.TheVariants.{Left, Right, Shared}
use Rattle.ep_bitslice.specs.declared.segment.Segment.{Segment}
use Rattle.ep_bitslice.specs.Bits.{side_number}
use Rattle.ep_domain.specs.Domain.{Ops, Lawful, IsSingle}
use Rattle.ep_cells.specs.declared.cell.Cell.{Cell}
use Rattle.ep_cells.specs.declared.cell.Value.{Value}
use Rattle.ep_cells.specs.declared.cell.Value.TheVariants.{Num, Ptr}
use Rattle.ep_cells.specs.Cells.{IsIn, first, later, share_memory, is_same_side}
use Rattle.ep_cells.specs.Cells.{is_same_scalar, on_left, on_right, put, each_becomes}
use Rattle.ep_cells.specs.Forms.{Fate, reformed, form_after, have_same_form, common_form}
use Rattle.ep_cells.specs.Look.{covers}
use Rattle.ep_cells.specs.States.{Known, IsOfSort, Fits, IsFormOf, HasForm}
use Rattle.ep_cells.specs.Meaning.{Memories, Allows, StandsAt, Says, numbers_of, name_of, In}
use Rattle.ep_cells.specs.Reshare.{are_one_number, is_integer, are_same, met_value, reshared_cell, left_by_reshare}
use Rattle.ep_cells.specs.Reshare.{fate_by_reshare, cell_from, reshared_pair, reshared_at, reshared_each, places}
use Rattle.ep_cells.specs.Reshare.{reshared}
use Rattle.ep_cells.proofs.Lists.{in_each, each_in, in_map, map_in, in_put, put_there, put_keeps}
use Rattle.ep_cells.proofs.Bytes.{IsNumber, number_of_cell}
use Rattle.ep_cells.proofs.Places.{at}
use Rattle.ep_cells.proofs.Changes.{datum_of}
use Rattle.ep_cells.proofs.Both.{scalar_same, one}
use Rattle.ep_cells.proofs.Reshare.{GoesOnHolding, reshared_goes_on}
use Rattle.ep_singles.specs.Numbers.{KeepsSingles}
use Rattle.ep_singles.specs.Cells.{IsOneValue, one_number, IsOneCell, no_value, one_value, IsOne}
use Rattle.ep_singles.proofs.Bytes.{held_single}
use Rattle.ep_singles.proofs.Covers.{stays, empty_after}

-- ---- cells of one place

-- ---- the cells of a place that are looked up

record IsFound {N : Type 0} (s : Side) (b q : ℕ) (cs : List (Cell N)) (c : Cell N) : Type 0 where
  is_in : IsIn c cs
  side : c.side ≡ s
  block : c.block ≡ b
  offset : c.offset ≡ q

found : {N : Type 0} (s : Side) (b q : ℕ) (cs : List (Cell N)) (c : Cell N) → cell_from s b q cs ≡ Some c
    → IsFound s b q cs c
found s b q [] c h = absurd cc
found {N = N} s b q (x ∷ cs) c h =
    by_first (is_same_side x.side s && (nat_eq x.block b && nat_eq x.offset q)) refl h (found s b q cs c)
  where
    by_first : (t : Bool) → (is_same_side x.side s && (nat_eq x.block b && nat_eq x.offset q)) ≡ t
        → cond t (Some x) (cell_from s b q cs) ≡ Some c → (cell_from s b q cs ≡ Some c → IsFound s b q cs c)
        → IsFound s b q (x ∷ cs) c
    by_first true e k rest =
        let p = and_parts (is_same_side x.side s) (nat_eq x.block b && nat_eq x.offset q) e in
        let r = and_parts (nat_eq x.block b) (nat_eq x.offset q) p.1 in
        let same : x ≡ c = cc in
        subst (IsFound s b q (x ∷ cs)) same (record {
          is_in = first cs;
          side = side_back x.side s (eqb-true (side_number x.side) (side_number s) p.0);
          block = eqb-true x.block b r.0;
          offset = eqb-true x.offset q r.1;
        })
    by_first false e k rest =
        let r = rest k in
        record { is_in = later x cs r.is_in; side = r.side; block = r.block; offset = r.offset }

-- a cell of another place stays
left_is : {N : Type 0} (l x y : Cell N) → IsIn y (left_by_reshare l x) → y ≡ x
left_is {N = N} l x y h = by (nat_eq x.block l.block && nat_eq x.offset l.offset) y h
  where
    by : (t : Bool) (y : Cell N) → IsIn y (cond t [] (x ∷ [])) → y ≡ x
    by true y h = elim h [ ]
    by false _ (first _) = refl
    by false y (later _ _ h) = elim h [ ]

stays_left : {N : Type 0} (l x : Cell N) → (nat_eq x.block l.block && nat_eq x.offset l.offset) ≡ false
    → IsIn x (left_by_reshare l x)
stays_left l x e = subst (λ t. IsIn x (cond t [] (x ∷ []))) (sym e) (first [])

-- a cell of both sides has what one of its place and type has
new_covers : (d : Model) (s : Side) (c p : ℕ) (side : Side) (b q : ℕ) (w : Scalar) (b' q' : ℕ) (w' : Scalar) → b ≡ b'
    → q ≡ q' → w ≡ w'
    → ((is_same_side side s || is_same_side side Shared) && (nat_eq b c && (nat_le q p && nat_lt p (q + size_of d w))))
    ≡ true
    → ((is_same_side Shared s || true) && (nat_eq b' c && (nat_le q' p && nat_lt p (q' + size_of d w')))) ≡ true
new_covers d s c p side b q w b' q' w' e f g h =
    let a = and_parts (is_same_side side s || is_same_side side Shared)
    (nat_eq b c && (nat_le q p && nat_lt p (q + size_of d w))) h in
    and_from (is_same_side Shared s || true) (nat_eq b' c && (nat_le q' p && nat_lt p (q' + size_of d w'))) (always s)
    (subst (λ b. (nat_eq b c && (nat_le q' p && nat_lt p (q' + size_of d w'))) ≡ true) e
    (subst (λ q. (nat_eq b c && (nat_le q p && nat_lt p (q + size_of d w'))) ≡ true) f
    (subst (λ w. (nat_eq b c && (nat_le q p && nat_lt p (q + size_of d w))) ≡ true) g a.1)))
  where
    always : (s : Side) → (is_same_side Shared s || true) ≡ true
    always Left = refl
    always Right = refl
    always Shared = refl

-- ---- forms

two_forms : (f g : Option (List Segment)) → have_same_form f g ≡ true
    → ((a : List Segment) × (f ≡ Some a)) × ((b : List Segment) × (g ≡ Some b))
two_forms None g h = absurd (let e : false ≡ true = h in cc)
two_forms (Some a) None h = absurd (let e : false ≡ true = h in cc)
two_forms (Some a) (Some b) h = ((a, refl), (b, refl))

-- what has a form is surely defined
abbrev IsSureForm : Option (List Segment) → Bool → Type 0
IsSureForm f b = IfSome f (λ a. b ≡ false)

sure_at : (f : Option (List Segment)) (b : Bool) (a : List Segment) → f ≡ Some a → IsSureForm f b → b ≡ false
sure_at f b a e h = subst (λ g. IsSureForm g b) e h

sure_after : (g : Fate) (f : Option (List Segment)) (b : Bool) → IsSureForm f b → IsSureForm (form_after g f) b
sure_after g f b h = by (form_after g f) refl
  where
    from : (f : Option (List Segment)) → IsSureForm f b → (a : List Segment) → form_after g f ≡ Some a → b ≡ false
    from None h a e = absurd cc
    from (Some ss) h a e = h

    by : (o : Option (List Segment)) → form_after g f ≡ o → IsSureForm o b
    by None e = tt
    by (Some a) e = from f h a e

-- ---- numbers of two cells

module _ {N : Type 0} (D : Ops N) where
  sure_one : (d : Model) (x : Cell N) → Fits d x → IsOneCell D x → x.maybe ≡ false
      → IsOneValue D x.value
  sure_one d x f (one_value t v) s = v
  sure_one d x f (no_value n) s = absurd (let e : true ≡ false = sym (f.undefined n) ∙ s in cc)

  valued_one : (x : Cell N) (n : N) → x.value ≡ Some (Num n) → IsOneCell D x → x.maybe ≡ false
  valued_one x n e (one_value t v) = t
  valued_one x n e (no_value i) = absurd (let c : Some (Num n) ≡ None = sym e ∙ i in cc)

  two_numbers : (u v : Option (Value N)) → are_one_number D u v ≡ true
      → ((a : N) × (u ≡ Some (Num a))) × ((b : N) × (v ≡ Some (Num b)))
  two_numbers None v h = absurd (let e : false ≡ true = h in cc)
  two_numbers (Some (Ptr p)) v h = absurd (let e : false ≡ true = h in cc)
  two_numbers (Some (Num a)) None h = absurd (let e : false ≡ true = h in cc)
  two_numbers (Some (Num a)) (Some (Ptr q)) h = absurd (let e : false ≡ true = h in cc)
  two_numbers (Some (Num a)) (Some (Num b)) h = ((a, refl), (b, refl))

  -- a single number
  record IsNumbered (v : Option (Value N)) : Type 0 where
    n : N
    z : ℤ
    is : v ≡ Some (Num n)
    single : IsSingle D n z

  numbered : (t : IntType) (v : Option (Value N)) → IsOfSort (Int t) v → IsOneValue D v → IsNumbered v
  numbered t None s h = elim h [ ]
  numbered t (Some (Num n)) s (one_number _ z e) = record { n = n; z = z; is = refl; single = e }
  numbered t (Some (Ptr p)) s h = absurd s

  -- what a number that is held leaves of the meet with itself
  met_one : KeepsSingles D → (a b : N) (z : ℤ) → IsSingle D a z → IsSingle D b z
      → IsOneValue D (met_value D (Some (Num a)) (Some (Num b)))
  met_one keeps a b z s r = by (D.meet a b) (keeps.meet a b z s r)
    where
      by : (o : Option N) → IfSome o (λ c. IsSingle D c z)
          → IsOneValue D (option_map_or (λ c. Some (Num c)) o (Some (Num a)))
      by None h = one_number a z s
      by (Some c) h = one_number c z h

  held_at : Lawful D → (w : Scalar) (t : IntType) (o : Option (Value N)) (maybe : Bool) (n : N) (z y : ℤ)
      → w ≡ Int t → o ≡ Some (Num n) → IsSingle D n z → Allows D w o maybe (Some (int y)) → y ≡ z
  held_at law w t o maybe n z y e f s h =
      held_single D law n z y s
      (subst (λ (o : Option (Value N)). Allows D (Int t) o maybe (Some (int y))) f
      (subst (λ w. Allows D w o maybe (Some (int y))) e h)).1

-- ---- what the cells of a state become

module _ {N : Type 0} (D : Ops N) (law : Lawful D) (k : Known N) (m : Memories) (o : IsOne D k m) where
  -- an integer cell of a side, of a single number
  record IsHalf (y x : Cell N) (s : Side) (t : IntType) : Type 0 where
    is_in : IsIn x k.cells
    side : x.side ≡ s
    block : y.block ≡ x.block
    offset : y.offset ≡ x.offset
    what : x.what ≡ Int t
    sure : x.maybe ≡ false
    number : IsNumbered D x.value

  -- one of two such cells of one place
  record IsOfTwo (y : Cell N) : Type 0 where
    l : Cell N
    r : Cell N
    t : IntType
    left : IsHalf y l Left t
    right : IsHalf y r Right t
    side : y.side ≡ Shared
    what : y.what ≡ Int t
    sure : y.maybe ≡ false
    value : y.value ≡ met_value D l.value r.value

  data Comes (y : Cell N) : Type 0 where
    same_cell : (x : Cell N) → IsIn x k.cells → (f : Option (List Segment)) → y ≡ record x { form = f } → Comes y
    of_two : IsOfTwo y → Comes y

  reformed_comes : (g : Fate) (y : Cell N) → Comes y → Comes (reformed g y)
  reformed_comes g y (same_cell x i f e) = same_cell x i (form_after g y.form) (ap (reformed g) e ∙ again)
    where
      again : reformed g (record x { form = f }) ≡ record x { form = form_after g y.form }
      again = ap (λ h. record x { form = form_after g h }) (sym (ap (λ (z : Cell N). z.form) e))
  reformed_comes g y (of_two p) = of_two (record {
    l = p.l;
    r = p.r;
    t = p.t;
    left = of_half p.l Left p.left;
    right = of_half p.r Right p.right;
    side = p.side;
    what = p.what;
    sure = p.sure;
    value = p.value;
  })
    where
      of_half : (x : Cell N) (s : Side) → IsHalf y x s p.t → IsHalf (reformed g y) x s p.t
      of_half x s h = record {
        is_in = h.is_in;
        side = h.side;
        block = h.block;
        offset = h.offset;
        what = h.what;
        sure = h.sure;
        number = h.number;
      }

  record Stage (cs : List (Cell N)) : Type 0 where
    comes : (y : Cell N) → IsIn y cs → Comes y
    sure : (y : Cell N) → IsIn y cs → IsSureForm y.form y.maybe
    covered : (s : Side) (b p : ℕ) (x : Cell N) → IsIn x k.cells → covers k.model s b p x ≡ true
        → (y : Cell N) × IsIn y cs × (covers k.model s b p y ≡ true)

  -- the cell of one side that is found
  record IsOfSide (c : Cell N) : Type 0 where
    x : Cell N
    is_in : IsIn x k.cells
    form : Option (List Segment)
    is : c ≡ record x { form = form }

  of_side : (c : Cell N) (s : Side) → c.side ≡ s → (s ≡ Shared → ⊥) → Comes c → IsOfSide c
  of_side c s e not (same_cell x i f h) = record { x = x; is_in = i; form = f; is = h }
  of_side c s e not (of_two p) = absurd (not (sym e ∙ p.side))

  half : (c y : Cell N) (s : Side) (t : IntType) → (h : IsOfSide c) → c.side ≡ s → y.block ≡ c.block
      → y.offset ≡ c.offset → c.what ≡ Int t → c.maybe ≡ false → IsHalf y h.x s t
  half c y s t h e b q w sure =
      let side : h.x.side ≡ s = ap (λ (z : Cell N). z.side) (sym h.is) ∙ e in
      let maybe : h.x.maybe ≡ false = ap (λ (z : Cell N). z.maybe) (sym h.is) ∙ sure in
      let what : h.x.what ≡ Int t = ap (λ (z : Cell N). z.what) (sym h.is) ∙ w in
      let cell = (o.cells.each h.x h.is_in).fits in
      record {
        is_in = h.is_in;
        side = side;
        block = b ∙ ap (λ (z : Cell N). z.block) h.is;
        offset = q ∙ ap (λ (z : Cell N). z.offset) h.is;
        what = what;
        sure = maybe;
        number = numbered D t h.x.value (subst (λ w. IsOfSort w h.x.value) what cell.sort)
            (sure_one D k.model h.x cell (o.each h.x h.is_in) maybe);
      }

  number_sure : (c : Cell N) (n : N) → (h : IsOfSide c) → c.value ≡ Some (Num n) → c.maybe ≡ false
  number_sure c n h e =
      ap (λ (z : Cell N). z.maybe) h.is
      ∙ valued_one D h.x n (ap (λ (z : Cell N). z.value) (sym h.is) ∙ e) (o.each h.x h.is_in)

  -- ---- one pair

  module _ (cs : List (Cell N)) (g : Stage cs) (b q : ℕ) (l r : Cell N) (fl : IsFound Left b q cs l)
      (fr : IsFound Right b q cs r) (same : are_same D l r ≡ true) where
    hl : IsOfSide l
    hl = of_side l Left fl.side (λ e. cc) (g.comes l fl.is_in)

    hr : IsOfSide r
    hr = of_side r Right fr.side (λ e. cc) (g.comes r fr.is_in)

    both : (is_integer l.what && is_same_scalar l.what r.what) ≡ true
        × ((have_same_form l.form r.form || are_one_number D l.value r.value) ≡ true)
    both = and_parts (is_integer l.what && is_same_scalar l.what r.what)
        (have_same_form l.form r.form || are_one_number D l.value r.value) same

    types : (is_integer l.what ≡ true) × (is_same_scalar l.what r.what ≡ true)
    types = and_parts (is_integer l.what) (is_same_scalar l.what r.what) both.0

    type_of : (t : IntType) × (l.what ≡ Int t)
    type_of = integer_is l.what types.0

    sures : (l.maybe ≡ false) × (r.maybe ≡ false)
    sures = by (or_cases (have_same_form l.form r.form) (are_one_number D l.value r.value) both.1)
      where
        by : (have_same_form l.form r.form ≡ true) ⊎ (are_one_number D l.value r.value ≡ true)
            → (l.maybe ≡ false) × (r.maybe ≡ false)
        by (inl h) =
            let f = two_forms l.form r.form h in (
              sure_at l.form l.maybe f.0.0 f.0.1 (g.sure l fl.is_in),
              sure_at r.form r.maybe f.1.0 f.1.1 (g.sure r fr.is_in),
            )
        by (inr h) =
            let n = two_numbers D l.value r.value h in
            (number_sure l n.0.0 hl n.0.1, number_sure r n.1.0 hr n.1.1)

    what_right : r.what ≡ Int type_of.0
    what_right = sym (scalar_same l.what r.what types.1) ∙ type_of.1

    new_comes : Comes (reshared_cell D l r)
    new_comes = of_two (record {
      l = hl.x;
      r = hr.x;
      t = type_of.0;
      left = half l (reshared_cell D l r) Left type_of.0 hl fl.side refl refl type_of.1 sures.0;
      right = half r (reshared_cell D l r) Right type_of.0 hr fr.side (fl.block ∙ sym fr.block)
          (fl.offset ∙ sym fr.offset) what_right sures.1;
      side = refl;
      what = type_of.1;
      sure = ap (λ t. t || r.maybe) sures.0 ∙ sures.1;
      value = ap (λ u. met_value D u r.value) (ap (λ (z : Cell N). z.value) hl.is)
          ∙ ap (λ u. met_value D hl.x.value u) (ap (λ (z : Cell N). z.value) hr.is);
    })

    new_sure : IsSureForm (common_form l.form r.form) (l.maybe || r.maybe)
    new_sure = by (common_form l.form r.form)
      where
        by : (f : Option (List Segment)) → IsSureForm f (l.maybe || r.maybe)
        by None = tt
        by (Some a) = ap (λ t. t || r.maybe) sures.0 ∙ sures.1

    -- a cell of this place has the same type
    here_what : (x : Cell N) → Comes x → x.block ≡ l.block → x.offset ≡ l.offset → x.what ≡ l.what
    here_what x (same_cell z i f e) eb eq = by_side z.side refl
      where
        what_is : z.what ≡ x.what
        what_is = ap (λ (z : Cell N). z.what) (sym e)

        block_is : z.block ≡ l.block
        block_is = ap (λ (z : Cell N). z.block) (sym e) ∙ eb

        offset_is : z.offset ≡ l.offset
        offset_is = ap (λ (z : Cell N). z.offset) (sym e) ∙ eq

        as_left : share_memory z.side Left ≡ true → x.what ≡ l.what
        as_left h =
            let p = one_here k.model z hl.x k.cells o.cells.pairs i hl.is_in
            (block_is ∙ ap (λ (z : Cell N). z.block) hl.is) (offset_is ∙ ap (λ (z : Cell N). z.offset) hl.is)
            (subst (λ s. share_memory z.side s ≡ true) (sym fl.side ∙ ap (λ (z : Cell N). z.side) hl.is) h) in
            sym what_is ∙ ap (λ (z : Cell N). z.what) p ∙ ap (λ (z : Cell N). z.what) (sym hl.is)

        as_right : share_memory z.side Right ≡ true → x.what ≡ l.what
        as_right h =
            let p = one_here k.model z hr.x k.cells o.cells.pairs i hr.is_in
            (block_is ∙ fl.block ∙ sym fr.block ∙ ap (λ (z : Cell N). z.block) hr.is)
            (offset_is ∙ fl.offset ∙ sym fr.offset ∙ ap (λ (z : Cell N). z.offset) hr.is)
            (subst (λ s. share_memory z.side s ≡ true) (sym fr.side ∙ ap (λ (z : Cell N). z.side) hr.is) h) in
            sym what_is ∙ ap (λ (z : Cell N). z.what) p ∙ ap (λ (z : Cell N). z.what) (sym hr.is) ∙ what_right
            ∙ sym type_of.1

        by_side : (s : Side) → z.side ≡ s → x.what ≡ l.what
        by_side Left e = as_left (ap (λ s. share_memory s Left) e)
        by_side Right e = as_right (ap (λ s. share_memory s Right) e)
        by_side Shared e = as_left (ap (λ s. share_memory s Left) e)
    here_what x (of_two p) eb eq =
        let h = p.left in
        let z = one_here k.model p.l hl.x k.cells o.cells.pairs h.is_in hl.is_in
        (sym h.block ∙ eb ∙ ap (λ (z : Cell N). z.block) hl.is)
        (sym h.offset ∙ eq ∙ ap (λ (z : Cell N). z.offset) hl.is)
        (subst (λ s. share_memory s hl.x.side ≡ true) (sym h.side)
        (subst (λ s. share_memory Left s ≡ true) (sym fl.side ∙ ap (λ (z : Cell N). z.side) hl.is) refl)) in
        p.what ∙ sym h.what ∙ ap (λ (z : Cell N). z.what) z ∙ ap (λ (z : Cell N). z.what) (sym hl.is)

    from_origin : (P : Cell N → Type 0) → P (reshared_cell D l r) → ((x : Cell N) → IsIn x cs → P x)
        → (y : Cell N) → IsIn y (put (reshared_cell D l r) (each_becomes (left_by_reshare l) cs)) → P y
    from_origin P n old y h = by (in_put (reshared_cell D l r) y (each_becomes (left_by_reshare l) cs) h)
      where
        by : (y ≡ reshared_cell D l r) ⊎ IsIn y (each_becomes (left_by_reshare l) cs) → P y
        by (inl e) = subst P (sym e) n
        by (inr j) =
            let f = in_each (left_by_reshare l) y cs j in
            subst P (sym (left_is l f.origin y f.becomes)) (old f.origin f.is_in)

    -- a byte that a cell has
    covers_after : (s : Side) (c p : ℕ) (x : Cell N) → IsIn x cs → covers k.model s c p x ≡ true
        → (y : Cell N) × IsIn y (put (reshared_cell D l r) (each_becomes (left_by_reshare l) cs))
        × (covers k.model s c p y ≡ true)
    covers_after s c p x i h = by (nat_eq x.block l.block && nat_eq x.offset l.offset) refl
      where
        by : (t : Bool) → (nat_eq x.block l.block && nat_eq x.offset l.offset) ≡ t
            → (y : Cell N) × IsIn y (put (reshared_cell D l r) (each_becomes (left_by_reshare l) cs))
            × (covers k.model s c p y ≡ true)
        by false e = (
          x,
          put_keeps (reshared_cell D l r) x (each_becomes (left_by_reshare l) cs)
              (each_in (left_by_reshare l) x x cs i (stays_left l x e)),
          h,
        )
        by true e =
            let a = and_parts (nat_eq x.block l.block) (nat_eq x.offset l.offset) e in
            let block : x.block ≡ l.block = eqb-true x.block l.block a.0 in
            let offset : x.offset ≡ l.offset = eqb-true x.offset l.offset a.1 in
            let what = here_what x (g.comes x i) block offset in (
              reshared_cell D l r,
              put_there (reshared_cell D l r) (each_becomes (left_by_reshare l) cs),
              new_covers k.model s c p x.side x.block x.offset x.what l.block l.offset l.what block offset what h,
            )

    after_stage : Stage (map (reformed (fate_by_reshare l r)) (put (reshared_cell D l r)
        (each_becomes (left_by_reshare l) cs)))
    after_stage = record {
      comes = λ y i.
          let f = in_map (reformed (fate_by_reshare l r)) y _ i in
          subst Comes (sym f.is) (reformed_comes (fate_by_reshare l r) f.origin
          (from_origin Comes new_comes g.comes f.origin f.is_in));
      sure = λ y i.
          let f = in_map (reformed (fate_by_reshare l r)) y _ i in
          subst (λ (z : Cell N). IsSureForm z.form z.maybe) (sym f.is)
          (sure_after (fate_by_reshare l r) f.origin.form f.origin.maybe
          (from_origin (λ (z : Cell N). IsSureForm z.form z.maybe) new_sure g.sure f.origin f.is_in));
      covered = λ s c p x i h.
          let y = g.covered s c p x i h in
          let z = covers_after s c p y.0 y.1 y.2 in
          (reformed (fate_by_reshare l r) z.0, map_in (reformed (fate_by_reshare l r)) z.0 _ z.1, z.2);
    }

  -- ---- all places

  one_pair : (cs : List (Cell N)) → Stage cs → (b q : ℕ) (l r : Cell N) → IsFound Left b q cs l → IsFound Right b q cs r
      → (t : Bool) → are_same D l r ≡ t
      → Stage (cond t (map (reformed (fate_by_reshare l r)) (put (reshared_cell D l r) (each_becomes (left_by_reshare l)
      cs))) cs)
  one_pair cs g b q l r fl fr true e = after_stage cs g b q l r fl fr e
  one_pair cs g b q l r fl fr false e = g

  one_place : (cs : List (Cell N)) → Stage cs → (b q : ℕ) (u v : Option (Cell N)) → cell_from Left b q cs ≡ u
      → cell_from Right b q cs ≡ v → Stage (reshared_pair D u v cs)
  one_place cs g b q None v e f = g
  one_place cs g b q (Some l) None e f = g
  one_place cs g b q (Some l) (Some r) e f =
      one_pair cs g b q l r (found Left b q cs l e) (found Right b q cs r f) (are_same D l r) refl

  all_places : (ps : List (ℕ × ℕ)) (cs : List (Cell N)) → Stage cs → Stage (reshared_each D ps cs)
  all_places [] cs g = g
  all_places (p ∷ ps) cs g =
      all_places ps (reshared_at D p.0 p.1 cs)
      (one_place cs g p.0 p.1 (cell_from Left p.0 p.1 cs) (cell_from Right p.0 p.1 cs) refl refl)

  begins : Stage k.cells
  begins = record {
    comes = λ y i. same_cell y i y.form refl;
    sure = λ y i. own_form y.form y.maybe y refl refl (o.cells.forms y i);
    covered = λ s b p x i h. (x, i, h);
  }
    where
      own_form : (f : Option (List Segment)) (t : Bool) (y : Cell N) → y.form ≡ f → y.maybe ≡ t
          → HasForm k.cells y → IsSureForm f t
      own_form None t y e s h = tt
      own_form (Some a) t y e s h =
          let g : IsFormOf k.cells y a = subst (λ f. IfSome f (IsFormOf k.cells y)) e h in sym s ∙ g.sure

  ends : Stage (reshared D k.cells)
  ends = all_places (places k.cells) k.cells begins

  goes_on : GoesOnHolding D k.model k.cells (reshared D k.cells)
  goes_on = reshared_goes_on D law k.model k.cells o.cells

  holds : In D (record k { cells = reshared D k.cells }) m
  holds = goes_on.holds k.orders m o.holds

  -- ---- both of two cells have one number

  module _ (y : Cell N) (i : IsIn y (reshared D k.cells)) (p : IsOfTwo y) where
    says : Says D k.orders k.model m y
    says = holds.cells y i

    datum : IsNumber p.t says.datum
    datum =
        datum_of D k.model y p.t says.datum (goes_on.cells.each y i).fits p.what p.sure says.allowed

    stands : StandsAt k.orders k.model m y (Some (int datum.number))
    stands = subst (StandsAt k.orders k.model m y) datum.is says.stands

    -- of a cell of one side
    module _ (x : Cell N) (s : Side) (h : IsHalf y x s p.t) where
      half_says : Says D k.orders k.model m x
      half_says = o.holds.cells x h.is_in

      half_datum : IsNumber p.t half_says.datum
      half_datum =
          datum_of D k.model x p.t half_says.datum (o.cells.each x h.is_in).fits h.what h.sure half_says.allowed

      half_is : half_datum.number ≡ h.number.z
      half_is =
          held_at D law x.what p.t x.value x.maybe h.number.n h.number.z half_datum.number h.what h.number.is
          h.number.single (subst (Allows D x.what x.value x.maybe) half_datum.is half_says.allowed)

      half_number : numbers_of k.orders m (name_of x p.t) ≡ h.number.z
      half_number =
          number_of_cell k.orders k.model m x p.t half_datum.number h.what h.sure half_datum.in_range
          (subst (StandsAt k.orders k.model m x) half_datum.is half_says.stands)
          ∙ half_is

      same_name : numbers_of k.orders m (name_of (record y { side = s }) p.t) ≡ numbers_of k.orders m (name_of x p.t)
      same_name =
          ap (λ (b : ℕ). numbers_of k.orders m (record { side = s; block = b; offset = y.offset; t = p.t })) h.block
          ∙ ap (λ (q : ℕ). numbers_of k.orders m (record { side = s; block = x.block; offset = q; t = p.t })) h.offset
          ∙ ap (λ (z : Side). numbers_of k.orders m (record { side = z; block = x.block; offset = x.offset; t = p.t }))
          (sym h.side)

      half_same : StandsAt k.orders k.model m (record y { side = s }) (Some (int datum.number))
          → datum.number ≡ h.number.z
      half_same at =
          sym (number_of_cell k.orders k.model m (record y { side = s }) p.t datum.number p.what p.sure datum.in_range
          at)
          ∙ same_name ∙ half_number

    on_sides : ((on_left y.side ≡ true) × (on_right y.side ≡ true))
    on_sides = (ap on_left p.side, ap on_right p.side)

    left_is_z : datum.number ≡ p.left.number.z
    left_is_z =
        half_same p.l Left p.left (record { left = λ e. stands.left on_sides.0; right = λ e. absurd cc })

    right_is_z : datum.number ≡ p.right.number.z
    right_is_z =
        half_same p.r Right p.right (record { left = λ e. absurd cc; right = λ e. stands.right on_sides.1 })

    two_one : KeepsSingles D → IsOneCell D y
    two_one keeps =
        one_value p.sure
        (subst (IsOneValue D) (sym value)
        (met_one D keeps p.left.number.n p.right.number.n datum.number
        (subst (IsSingle D p.left.number.n) (sym left_is_z) p.left.number.single)
        (subst (IsSingle D p.right.number.n) (sym right_is_z) p.right.number.single)))
      where
        value : y.value ≡ met_value D (Some (Num p.left.number.n)) (Some (Num p.right.number.n))
        value =
            p.value ∙ ap (λ u. met_value D u p.r.value) p.left.number.is
            ∙ ap (met_value D (Some (Num p.left.number.n))) p.right.number.is

  other_form : (x : Cell N) (f : Option (List Segment)) → IsOneCell D x → IsOneCell D (record x { form = f })
  other_form x f (no_value e) = no_value e
  other_form x f (one_value t v) = one_value t v

  each_one : KeepsSingles D → (y : Cell N) → IsIn y (reshared D k.cells) → Comes y → IsOneCell D y
  each_one keeps y i (same_cell x j f e) = subst (IsOneCell D) (sym e) (other_form x f (o.each x j))
  each_one keeps y i (of_two p) = two_one y i p keeps

pub reshares_keep_one : {N : Type 0} (D : Ops N) → Lawful D → KeepsSingles D → (k : Known N) (m : Memories)
    → IsOne D k m → IsOne D (record k { cells = reshared D k.cells }) m
reshares_keep_one D law keeps k m o = record {
  cells = (goes_on D law k m o).cells;
  each = λ y i. each_one D law k m o keeps y i ((ends D law k m o).comes y i);
  left_outside = empty_after k.model Left k.cells (reshared D k.cells) m.left m.left o.left_outside
      (λ b q. stays (λ h. h) (λ x i h. (ends D law k m o).covered Left b q x i h));
  right_outside = empty_after k.model Right k.cells (reshared D k.cells) m.right m.right o.right_outside
      (λ b q. stays (λ h. h) (λ x i h. (ends D law k m o).covered Right b q x i h));
  holds = holds D law k m o;
}
