-- A Left and a Right cell of one place that become a Shared one, as a step.
use Rattle.std.proofs.Common.{◌≡◌, ℕ, ◌+◌, Bool, true, false, ◌&&◌, ◌||◌, nat_eq, cond, List, [], ◌∷◌, map}
use Rattle.ep_int.proofs.Basics.{size_positive, and_false-right}
use Rattle.ep_cells.proofs.Reshare.{left_or_right, own_by, reshared_is, same_touch, shared_form, touches_here}
use Rattle.std.proofs.Common.{◌⊎◌, inl, inr, ⊎_elim, Option, Some, None, refl, sym, ◌∙◌, ap, subst}
use Rattle.std.specs.Option.{option_map_or}
use Rattle.std.proofs.lemmas.Bool.{and_parts, and_from, and_right, eqb-true}
use Rattle.std.proofs.lemmas.Bool.{both_ways}
use Rattle.ep_int.specs.declared.types.Model.{Model}
use Rattle.ep_int.specs.declared.types.Scalar.{Scalar}
use Rattle.ep_int.specs.declared.types.Scalar.TheVariants.{Int, Pointer}
use Rattle.ep_bitslice.specs.declared.cell.Side.{Side}
use Rattle.ep_bitslice.specs.declared.cell.Side.TheVariants.{Left, Right, Shared}
use Rattle.ep_bitslice.specs.declared.cell.CellName.{CellName}
use Rattle.ep_domain.specs.Domain.{Ops}
use Rattle.ep_cells.specs.declared.cell.Cell.{Cell}
use Rattle.ep_cells.specs.declared.cell.Value.{Value}
use Rattle.ep_cells.specs.declared.cell.Value.TheVariants.{Num, Ptr}
use Rattle.ep_cells.specs.Cells.{share_memory, place_of, touches, meets, is_same_side, is_same_scalar, is_same_cell}
use Rattle.ep_cells.specs.Cells.{IsNamed, IsIn, first, later, put, each_becomes}
use Rattle.ep_cells.specs.Forms.{reformed, have_same_form, common_form}
use Rattle.ep_cells.specs.States.{IsOfSort, HasRisingBlocks, IsThere, HasForm, EachPair, AreApart, IsCell}
use Rattle.ep_cells.specs.States.{AreCells}
use Rattle.ep_cells.specs.Reshare.{are_one_number, is_integer, are_same, met_value, reshared_cell, left_by_reshare}
use Rattle.ep_cells.specs.Reshare.{fate_by_side, fate_by_reshare, cell_from}
use Rattle.ep_cells.proofs.Lists.{each_in, put_there, put_keeps}
use Rattle.ep_cells.proofs.Places.{at, within_itself}
use Rattle.ep_cells.proofs.Both.{scalar_same, alike_same, only_one}
use Rattle.ep_reads.proofs.Sides.{side_same, others_apart}
use Rattle.ep_reads.proofs.Steps.{IsStep, step_cells}

-- a Left and a Right cell of one place and type, among these cells
record IsPair {N : Type 0} (cs : List (Cell N)) (l r : Cell N) : Type 0 where
  in_left : IsIn l cs
  in_right : IsIn r cs
  left : l.side ≡ Left
  right : r.side ≡ Right
  block : r.block ≡ l.block
  offset : r.offset ≡ l.offset
  what : l.what ≡ r.what

-- ---- the Shared cell

record IsMet {N : Type 0} (w : Scalar) (o : Option (Value N)) (maybe : Bool) : Type 0 where
  sort : IsOfSort w o
  rising : HasRisingBlocks o
  undefined : o ≡ None → maybe ≡ true

met_by : {N : Type 0} (w : Scalar) (a : N) (o : Option N) (maybe : Bool) → IsOfSort w (Some (Num a))
    → IsMet {N = N} w (option_map_or (λ c. Some (Num c)) o (Some (Num a))) maybe
met_by (Int t) a None maybe h = record { sort = tt; rising = tt; undefined = λ e. absurd (cc) }
met_by (Int t) a (Some c) maybe h = record { sort = tt; rising = tt; undefined = λ e. absurd (cc) }
met_by Pointer a o maybe h = absurd h

met_is : {N : Type 0} (D : Ops N) (w : Scalar) (u v : Option (Value N)) (maybe : Bool) → IsMet w u maybe
    → IsMet w (met_value D u v) maybe
met_is D w None v maybe h = h
met_is D w (Some (Ptr p)) v maybe h = h
met_is D w (Some (Num a)) None maybe h = h
met_is D w (Some (Num a)) (Some (Ptr q)) maybe h = h
met_is D w (Some (Num a)) (Some (Num b)) maybe h = met_by w a (D.meet a b) maybe h.sort

-- ---- what is at the place

-- cells of one place that share a memory are one
one_here : {N : Type 0} (d : Model) (x y : Cell N) (cs : List (Cell N)) → EachPair (AreApart d) cs → IsIn x cs
    → IsIn y cs → x.block ≡ y.block → x.offset ≡ y.offset → share_memory x.side y.side ≡ true → y ≡ x
one_here d x y cs p i j e f g = by (is_same_cell y x) refl
  where
    by : (t : Bool) → is_same_cell y x ≡ t → y ≡ x
    by true s = only_one d y x cs p j i (alike_same y x s)
    by false s =
        absurd (both_ways (meets (place_of d x) (place_of d y)) (others_apart d x y cs p i j s)
        (and_from (share_memory x.side y.side) (touches (place_of d x) (place_of d y)) g (touches_here d x y e f)))

-- a cell at the place is the Left one or the Right one
one_of : {N : Type 0} (d : Model) (cs : List (Cell N)) (l r x : Cell N) → EachPair (AreApart d) cs → IsPair cs l r
    → IsIn x cs → x.block ≡ l.block → x.offset ≡ l.offset → (x ≡ l) ⊎ (x ≡ r)
one_of d cs l r x p q k e f =
    ⊎_elim
    (λ s. inl (one_here d l x cs p q.in_left k (sym e) (sym f)
    (subst (λ (z : Side). share_memory z x.side ≡ true) (sym q.left) s)))
    (λ s. inr (one_here d r x cs p q.in_right k (q.block ∙ sym e) (q.offset ∙ sym f)
    (subst (λ (z : Side). share_memory z x.side ≡ true) (sym q.right) s)))
    (left_or_right x.side)

-- ---- what is elsewhere

abbrev is_here : {N : Type 0} → Cell N → Cell N → Bool
is_here l x = nat_eq x.block l.block && nat_eq x.offset l.offset

other_place : (s b q w : Bool) → (b && q) ≡ false → (s && (b && (q && w))) ≡ false
other_place false b q w h = refl
other_place true false q w h = refl
other_place true true false w h = refl
other_place true true true w h = absurd (let e : true ≡ false = h in cc)

away : {N : Type 0} (d : Model) (cs : List (Cell N)) (l r y : Cell N) → EachPair (AreApart d) cs → IsPair cs l r
    → IsIn y cs → is_here l y ≡ false → touches (place_of d l) (place_of d y) ≡ false
away d cs l r y p q k e =
    ⊎_elim
    (λ s. and_false-right (share_memory l.side y.side) (touches (place_of d l) (place_of d y))
    (others_apart d l y cs p q.in_left k (other_place (is_same_side y.side l.side) (nat_eq y.block l.block)
    (nat_eq y.offset l.offset) (is_same_scalar y.what l.what) e))
    (subst (λ (z : Side). share_memory z y.side ≡ true) (sym q.left) s))
    (λ s. same_touch d l r y q.block q.offset q.what
    (and_false-right (share_memory r.side y.side) (touches (place_of d r) (place_of d y))
    (others_apart d r y cs p q.in_right k (other_place (is_same_side y.side r.side) (nat_eq y.block r.block)
    (nat_eq y.offset r.offset) (is_same_scalar y.what r.what) (sym (ap (λ (b : ℕ). nat_eq y.block b && nat_eq y.offset
    l.offset) (sym q.block) ∙ ap (λ (o : ℕ). nat_eq y.block r.block && nat_eq y.offset o) (sym q.offset)) ∙ e)))
    (subst (λ (z : Side). share_memory z y.side ≡ true) (sym q.right) s)))
    (left_or_right y.side)

record IsElsewhere {N : Type 0} (l x y : Cell N) : Type 0 where
  is : y ≡ x
  elsewhere : is_here l x ≡ false

left_by : {N : Type 0} (l x y : Cell N) (t : Bool) → is_here l x ≡ t → IsIn y (cond t [] (x ∷ [])) → IsElsewhere l x y
left_by l x y true e h = elim h [ ]
left_by l x _ false e (first _) = record { is = refl; elsewhere = e }
left_by l x y false e (later _ _ h) = elim h [ ]

-- ---- names

-- a mention of either goes on as one of the Shared cell
record GoesOn (maybe : Bool) (a e : CellName) : Type 0 where
  is : e ≡ record a { side = Shared }
  sure : maybe ≡ false

goes_by : (maybe : Bool) (a e : CellName) (s : Side) → (s ≡ Shared → ⊥) → fate_by_side maybe a s ≡ Some e
    → GoesOn maybe a e
goes_by maybe a e Shared n h = absurd (n refl)
goes_by true a e Left n h = absurd (cc)
goes_by true a e Right n h = absurd (cc)
goes_by false a e Left n h = record { is = let i : e ≡ record a { side = Shared } = cc in i; sure = refl }
goes_by false a e Right n h = record { is = let i : e ≡ record a { side = Shared } = cc in i; sure = refl }

-- what the cells of the pair are
record IsHalf {N : Type 0} (l x : Cell N) : Type 0 where
  one : x.side ≡ Shared → ⊥
  what : l.what ≡ x.what

half : {N : Type 0} (cs : List (Cell N)) (l r x : Cell N) → IsPair cs l r → (x ≡ l) ⊎ (x ≡ r) → IsHalf l x
half cs l r x q o =
    ⊎_elim
    (λ e. record {
      one = λ h. let i : Left ≡ Shared = sym q.left ∙ ap (λ z. z.side) (sym e) ∙ h in cc;
      what = ap (λ z. z.what) (sym e);
    })
    (λ e. record {
      one = λ h. let i : Right ≡ Shared = sym q.right ∙ ap (λ z. z.side) (sym e) ∙ h in cc;
      what = q.what ∙ ap (λ z. z.what) (sym e);
    })
    o

there_by : {N : Type 0} (D : Ops N) (d : Model) (cs : List (Cell N)) (l r : Cell N) (a e : CellName) (b : Bool)
    → EachPair (AreApart d) cs → IsPair cs l r → IsThere a cs → (nat_eq a.block l.block && nat_eq a.offset l.offset) ≡ b
    → cond b (fate_by_side (l.maybe || r.maybe) a a.side) (Some a) ≡ Some e
    → IsThere e (put (reshared_cell D l r) (each_becomes (left_by_reshare l) cs))
there_by D d cs l r a e true p q t f h =
    let n = and_parts (nat_eq a.block l.block) (nat_eq a.offset l.offset) f in
    let block : t.cell.block ≡ l.block = t.named.block ∙ eqb-true a.block l.block n.0 in
    let offset : t.cell.offset ≡ l.offset = t.named.offset ∙ eqb-true a.offset l.offset n.1 in
    let k = half cs l r t.cell q (one_of d cs l r t.cell p q t.is_in block offset) in
    let g = goes_by (l.maybe || r.maybe) a e a.side (λ s. k.one (t.named.side ∙ s)) h in
    record {
      cell = reshared_cell D l r;
      is_in = put_there (reshared_cell D l r) (each_becomes (left_by_reshare l) cs);
      named = subst (λ z. IsNamed z (reshared_cell D l r)) (sym g.is)
          (record {
            side = refl;
            block = sym block ∙ t.named.block;
            offset = sym offset ∙ t.named.offset;
            what = k.what ∙ t.named.what;
          });
      sure = g.sure;
    }
there_by D d cs l r a e false p q t f h =
    let is : a ≡ e = cc in
    let far : is_here l t.cell ≡ false =
    ap (λ (b : ℕ). nat_eq b l.block && nat_eq t.cell.offset l.offset) t.named.block
    ∙ ap (λ (o : ℕ). nat_eq a.block l.block && nat_eq o l.offset) t.named.offset
    ∙ f in
    record {
      cell = t.cell;
      is_in = put_keeps (reshared_cell D l r) t.cell (each_becomes (left_by_reshare l) cs)
          (each_in (left_by_reshare l) t.cell t.cell cs t.is_in
          (subst (λ b. IsIn t.cell (cond b [] (t.cell ∷ []))) (sym far) (first [])));
      named = subst (λ z. IsNamed z t.cell) is t.named;
      sure = t.sure;
    }

-- ---- the step

pair_step : {N : Type 0} (D : Ops N) (d : Model) (cs : List (Cell N)) (l r : Cell N) → AreCells d cs → IsPair cs l r
    → IsStep d [] cs (reshared_cell D l r ∷ []) (left_by_reshare l) (fate_by_reshare l r)
pair_step {N = N} D d cs l r a q = record {
  each = each;
  pairs = (tt, tt);
  forms = forms;
  sided = λ x y i h.
      record { side = x.side; is = (left_by l x y (is_here l x) refl h).is; within = within_itself x.side };
  own = λ x i. own_by d x (is_here l x);
  away = λ c x y i k h. apart c x y i k (left_by l x y (is_here l x) refl h);
  fates = λ c e t h.
      there_by D d cs l r c e (nat_eq c.block l.block && nat_eq c.offset l.offset) a.pairs q t refl h;
}
  where
    each : (y : Cell N) → IsIn y (reshared_cell D l r ∷ []) → IsCell d y
    each _ (first _) = reshared_is D d l r (a.each l q.in_left)
    each y (later _ _ h) = elim h [ ]

    forms : (y : Cell N) → IsIn y (reshared_cell D l r ∷ []) → HasForm cs y
    forms _ (first _) =
        shared_form D cs l r (a.forms l q.in_left) (a.forms r q.in_right) (common_form l.form r.form) refl
    forms y (later _ _ h) = elim h [ ]

    apart : (c x y : Cell N) → IsIn c (reshared_cell D l r ∷ []) → IsIn x cs → IsElsewhere l x y
        → meets (place_of d c) (place_of d y) ≡ false
    apart _ x y (first _) k e =
        subst (λ z. meets (place_of d (reshared_cell D l r)) (place_of d z) ≡ false) (sym e.is)
        (and_right (share_memory Shared x.side) (touches (place_of d l) (place_of d x))
        (away d cs l r x a.pairs q k e.elsewhere))
    apart c x y (later _ _ h) k e = elim h [ ]

-- ---- where they are

abbrev is_from : {N : Type 0} → Side → (b q : ℕ) → Cell N → Bool
is_from s b q x = is_same_side x.side s && (nat_eq x.block b && nat_eq x.offset q)

record IsFound {N : Type 0} (s : Side) (b q : ℕ) (cs : List (Cell N)) (c : Cell N) : Type 0 where
  is_in : IsIn c cs
  side : c.side ≡ s
  block : c.block ≡ b
  offset : c.offset ≡ q

found_by : {N : Type 0} (s : Side) (b q : ℕ) (c x : Cell N) (cs : List (Cell N)) (t : Bool) → is_from s b q x ≡ t
    → (cell_from s b q cs ≡ Some c → IsFound s b q cs c) → cond t (Some x) (cell_from s b q cs) ≡ Some c
    → IsFound s b q (x ∷ cs) c
found_by s b q c x cs true e rest h =
    let p = and_parts (is_same_side x.side s) (nat_eq x.block b && nat_eq x.offset q) e in
    let r = and_parts (nat_eq x.block b) (nat_eq x.offset q) p.1 in
    let same : x ≡ c = cc in
    subst (IsFound s b q (x ∷ cs)) same
    (record {
      is_in = first cs;
      side = side_same x.side s p.0;
      block = eqb-true x.block b r.0;
      offset = eqb-true x.offset q r.1;
    })
found_by s b q c x cs false e rest h =
    let r = rest h in record { is_in = later x cs r.is_in; side = r.side; block = r.block; offset = r.offset }

found : {N : Type 0} (s : Side) (b q : ℕ) (cs : List (Cell N)) (c : Cell N) → cell_from s b q cs ≡ Some c
    → IsFound s b q cs c
found s b q [] c h = absurd (cc)
found s b q (x ∷ cs) c h = found_by s b q c x cs (is_from s b q x) refl (found s b q cs c) h

pair_is : {N : Type 0} (b q : ℕ) (cs : List (Cell N)) (l r : Cell N) → IsFound Left b q cs l → IsFound Right b q cs r
    → is_same_scalar l.what r.what ≡ true → IsPair cs l r
pair_is b q cs l r f g h = record {
  in_left = f.is_in;
  in_right = g.is_in;
  left = f.side;
  right = g.side;
  block = g.block ∙ sym f.block;
  offset = g.offset ∙ sym f.offset;
  what = scalar_same l.what r.what h;
}

-- the cells that are surely the same at a place become one, and what comes of it is a state
pub reshared_cells : {N : Type 0} (D : Ops N) (d : Model) (b q : ℕ) (cs : List (Cell N)) (l r : Cell N) → AreCells d cs
    → cell_from Left b q cs ≡ Some l → cell_from Right b q cs ≡ Some r → are_same D l r ≡ true
    → AreCells d (map (reformed (fate_by_reshare l r)) (put (reshared_cell D l r) (each_becomes (left_by_reshare l)
    cs)))
reshared_cells D d b q cs l r a e f h =
    let p = and_parts (is_integer l.what && is_same_scalar l.what r.what)
    (have_same_form l.form r.form || are_one_number D l.value r.value) h in
    let t = and_parts (is_integer l.what) (is_same_scalar l.what r.what) p.0 in
    step_cells d [] cs (reshared_cell D l r ∷ []) (left_by_reshare l) (fate_by_reshare l r) a
    (pair_step D d cs l r a (pair_is b q cs l r (found Left b q cs l e) (found Right b q cs r f) t.1))
