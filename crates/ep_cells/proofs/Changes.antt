-- An operation that makes cells of cells: what it leaves is in order and apart, and holds.
use Rattle.std.proofs.Common.{◌≡◌, ℕ, ◌^◌, true, false, List, map, Option, Some, None, IfSome, refl, sym, ◌∙◌, ap}
use Rattle.std.proofs.Common.{subst}
use Rattle.std.specs.Option.{option_map}
use Rattle.ep_int.specs.declared.types.Order.{Order}
use Rattle.ep_int.specs.declared.types.Model.{Model}
use Rattle.ep_int.specs.declared.types.IntType.{IntType}
use Rattle.ep_int.specs.declared.types.Scalar.{Scalar}
use Rattle.ep_int.specs.declared.types.Scalar.TheVariants.{Int, Pointer}
use Rattle.ep_int.specs.Types.{bits_of, residue}
use Rattle.ep_int.specs.Memory.{Value as Datum, int}
use Rattle.ep_bitslice.specs.declared.cell.Side.{Side}
use Rattle.ep_bitslice.specs.declared.cell.CellName.{CellName}
use Rattle.ep_bitslice.specs.declared.segment.Segment.{Segment}
use Rattle.ep_bitslice.specs.Bits.{Bit, number_of_bits, mentions}
use Rattle.ep_bitslice.specs.Segments.{bits, number, normal}
use Rattle.ep_bitslice.proofs.Joining.{cell_at}
use Rattle.ep_bitslice.proofs.Appending.{bits-normal}
use Rattle.ep_bitslice.proofs.Numbers.{number-bits}
use Rattle.ep_domain.specs.Domain.{Ops}
use Rattle.ep_cells.specs.declared.cell.Cell.{Cell}
use Rattle.ep_cells.specs.Cells.{IsNamed, IsIn}
use Rattle.ep_cells.specs.Forms.{Fate, bits_after, form_after, reformed}
use Rattle.ep_cells.specs.States.{IsOfSort, Fits, IsThere, HasWidth, IsFormOf, HasForm, EachPair, AreApart, IsCell}
use Rattle.ep_cells.specs.States.{AreCells}
use Rattle.ep_cells.specs.Meaning.{Memories, Allows, StandsAt, Says, numbers_of, name_of, HasNumber, FormSays, In}
use Rattle.ep_cells.proofs.Lists.{in_map, map_in, pairs_map}
use Rattle.ep_cells.proofs.Forms.{KeepsNumbers, number_after, mentioned_after, form_after_is, width_after}
use Rattle.ep_cells.proofs.Bytes.{IsNumber, sure_number, number_of_cell}
use Rattle.ep_cells.proofs.Places.{Within, IsMadeFrom}

-- ---- cells that are kept

-- y is x on some of its sides, and what stood at x in the one pair of memories stands at y in the other
pub record IsKept {N : Type 0} (D : Ops N) (os : Order × Order) (d : Model) (m n : Memories) (x y : Cell N) : Type 0
  where
    pub side : Side
    pub is : y ≡ record x { side = side }
    pub within : Within side x.side
    pub stands : (v : Option Datum) → Allows D x.what x.value x.maybe v → StandsAt os d m x v
        → StandsAt os d n (record x { side = side }) v

pub kept_made : {N : Type 0} (D : Ops N) (os : Order × Order) (d : Model) (m n : Memories) (x y : Cell N)
    → IsKept D os d m n x y → IsMadeFrom x y
kept_made D os d m n x y k = record {
  side = k.side;
  value = x.value;
  maybe = x.maybe;
  form = x.form;
  is = k.is;
  within = k.within;
}

pub kept_says : {N : Type 0} (D : Ops N) (os : Order × Order) (d : Model) (m n : Memories) (x y : Cell N)
    → IsKept D os d m n x y → Says D os d m x → Says D os d n y
kept_says D os d m n x y k s =
    subst (Says D os d n) (sym k.is) (let r : Says D os d n (record x { side = k.side }) = record {
      datum = s.datum;
      allowed = s.allowed;
      stands = k.stands s.datum s.allowed s.stands;
    } in r)

pub kept_cell : {N : Type 0} (D : Ops N) (os : Order × Order) (d : Model) (m n : Memories) (x y : Cell N)
    → IsKept D os d m n x y → IsCell d x → IsCell d y
kept_cell D os d m n x y k c =
    subst (IsCell d) (sym k.is)
    (let r : IsCell d (record x { side = k.side }) = record {
      fits = record { sort = c.fits.sort; undefined = c.fits.undefined; last = c.fits.last };
      rising = c.rising;
    } in r)

pub form_on : {N : Type 0} (cs : List (Cell N)) (x : Cell N) (s : Side) (o : Option (List Segment))
    → IfSome o (IsFormOf cs x) → IfSome o (IsFormOf cs (record x { side = s }))
form_on cs x s None h = tt
form_on cs x s (Some ss) h = record { sure = h.sure; wide = h.wide; form = h.form; mentioned = h.mentioned }

pub kept_form : {N : Type 0} (D : Ops N) (os : Order × Order) (d : Model) (m n : Memories) (cs : List (Cell N)) (x y
    : Cell N)
    → IsKept D os d m n x y → HasForm cs x → HasForm cs y
kept_form D os d m n cs x y k h = subst (HasForm cs) (sym k.is) (form_on cs x k.side x.form h)

-- ---- their numbers

-- what is known of a sure integer cell
pub datum_of : {N : Type 0} (D : Ops N) (d : Model) (x : Cell N) (t : IntType) (v : Option Datum) → Fits d x
    → x.what ≡ Int t → x.maybe ≡ false
    → Allows D x.what x.value x.maybe v → IsNumber t v
datum_of D d x t v f w s a =
    sure_number D t x.value v (subst (λ z. IsOfSort z x.value) w f.sort)
    (λ e. sym s ∙ f.undefined e)
    (subst (λ z. Allows D (Int t) x.value z v) s (subst (λ z. Allows D z x.value x.maybe v) w a))

pub kept_number : {N : Type 0} (D : Ops N) (os : Order × Order) (d : Model) (m n : Memories) (x y : Cell N) (t :
    IntType)
    → IsKept D os d m n x y → Fits d x → x.what ≡ Int t → x.maybe ≡ false → Says D os d m x
    → numbers_of os n (name_of y t) ≡ numbers_of os m (name_of x t)
kept_number D os d m n x y t k f w s says =
    let q = datum_of D d x t says.datum f w s says.allowed in
    let here = subst (StandsAt os d m x) q.is says.stands in
    let there = k.stands (Some (int q.number)) (subst (Allows D x.what x.value x.maybe) q.is says.allowed) here in
    ap (λ z. numbers_of os n (name_of z t)) k.is
    ∙ number_of_cell os d n (record x { side = k.side }) t q.number w s q.in_range there
    ∙ sym (number_of_cell os d m x t q.number w s q.in_range here)

pub name_is : {N : Type 0} (e : CellName) (y : Cell N) → IsNamed e y → name_of y e.t ≡ e
name_is e y h =
    ap (λ (s : Side). cell_at s y.block y.offset e.t) h.side
    ∙ ap (λ (b : ℕ). cell_at e.side b y.offset e.t) h.block
    ∙ ap (λ (q : ℕ). cell_at e.side e.block q e.t) h.offset

-- a form's number is that of a kept cell
pub number_on_kept : {N : Type 0} (os : Order × Order) (m n : Memories) (x y : Cell N) (w : Scalar) (k : ℕ)
    → ((t : IntType) → w ≡ Int t → numbers_of os n (name_of y t) ≡ numbers_of os m (name_of x t))
    → HasNumber os m x w k → HasNumber os n y w k
number_on_kept os m n x y (Int t) k e h = ap (residue (2 ^ bits_of t)) (e t refl) ∙ h
number_on_kept os m n x y Pointer k e h = h

-- ---- the cells that are left

-- The cells of l come of those of cs, of which forms speak, and f tells by which names mentions go on.
pub record IsChange {N : Type 0} (d : Model) (cs l : List (Cell N)) (f : Fate) : Type 0 where
  pub each : (y : Cell N) → IsIn y l → IsCell d y
  pub pairs : EachPair (AreApart d) l
  pub forms : (y : Cell N) → IsIn y l → HasForm cs y
  pub fates : (c e : CellName) → IsThere c cs → f c ≡ Some e → IsThere e l

pub there_reformed : {N : Type 0} (f : Fate) (e : CellName) (l : List (Cell N)) → IsThere e l
    → IsThere e (map (reformed f) l)
there_reformed f e l t = record {
  cell = reformed f t.cell;
  is_in = map_in (reformed f) t.cell l t.is_in;
  named = record { side = t.named.side; block = t.named.block; offset = t.named.offset; what = t.named.what };
  sure = t.sure;
}

form_left : {N : Type 0} (d : Model) (cs l : List (Cell N)) (f : Fate) (x : Cell N) (ss : List Segment) (g : Option
    (List Segment)) → IsChange d cs l f
    → IsFormOf cs x ss → (o : Option (List Bit)) → bits_after f (bits ss) ≡ o
    → IfSome (option_map normal o) (IsFormOf (map (reformed f) l) (record x { form = g }))
form_left d cs l f x ss g c h None e = tt
form_left d cs l f x ss g c h (Some bs) e = record {
  sure = h.sure;
  wide = subst (HasWidth x.what) (sym (width_after f ss bs e)) h.wide;
  form = form_after_is f ss bs h.form e;
  mentioned = λ n k.
      let r = mentioned_after f (bits ss) bs n e (subst (λ z. mentions n z ≡ true) (bits-normal bs) k) in
      there_reformed f n l (c.fates r.name n (h.mentioned r.name r.mentioned) r.fate);
}

pub form_by : {N : Type 0} (d : Model) (cs l : List (Cell N)) (f : Fate) (x : Cell N) (g : Option (List Segment))
    → IsChange d cs l f
    → (o : Option (List Segment)) → IfSome o (IsFormOf cs x) → IfSome (form_after f o) (IsFormOf (map (reformed f) l)
    (record x { form = g }))
form_by d cs l f x g c None h = tt
form_by d cs l f x g c (Some ss) h = form_left d cs l f x ss g c h (bits_after f (bits ss)) refl

pub change_cells : {N : Type 0} (d : Model) (cs l : List (Cell N)) (f : Fate) → IsChange d cs l f
    → AreCells d (map (reformed f) l)
change_cells d cs l f c = record {
  each = λ y h.
      let r = in_map (reformed f) y l h in
      let e = c.each r.origin r.is_in in
      subst (IsCell d) (sym r.is)
      (let k : IsCell d (reformed f r.origin) = record {
        fits = record { sort = e.fits.sort; undefined = e.fits.undefined; last = e.fits.last };
        rising = e.rising;
      } in k);
  pairs = pairs_map (AreApart d) (reformed f) l c.pairs (λ x y a. record { ordered = a.ordered; apart = a.apart });
  forms = λ y h.
      let r = in_map (reformed f) y l h in
      subst (HasForm (map (reformed f) l)) (sym r.is)
      (form_by d cs l f r.origin (form_after f r.origin.form) c r.origin.form (c.forms r.origin r.is_in));
}

-- ---- and that they hold

-- What the cells of l say holds of n, and their forms have in m the numbers that the cells have in n. Names by which
-- mentions go on are of cells with the same number.
pub record Holds {N : Type 0} (D : Ops N) (os : Order × Order) (d : Model) (m n : Memories) (cs l : List (Cell N)) (f
    : Fate) : Type 0 where
  pub says : (y : Cell N) → IsIn y l → Says D os d n y
  pub numbers : (y : Cell N) → IsIn y l → IfSome y.form (λ ss. HasNumber os n y y.what (number (numbers_of os m) ss))
  pub keeps : (c e : CellName) → IsThere c cs → f c ≡ Some e → numbers_of os n e ≡ numbers_of os m c

number_left : {N : Type 0} (d : Model) (os : Order × Order) (m n : Memories) (cs : List (Cell N)) (f : Fate) (x :
    Cell N) (ss : List Segment) (g : Option (List Segment))
    → ((c e : CellName) → IsThere c cs → f c ≡ Some e → numbers_of os n e ≡ numbers_of os m c)
    → IsFormOf cs x ss → HasNumber os n x x.what (number (numbers_of os m) ss)
    → (o : Option (List Bit)) → bits_after f (bits ss) ≡ o
    → IfSome (option_map normal o) (FormSays os n (record x { form = g }))
number_left d os m n cs f x ss g k h s None e = tt
number_left d os m n cs f x ss g k h s (Some bs) e =
    let keeps : KeepsNumbers f (numbers_of os m) (numbers_of os n) (bits ss) = record {
      keeps = λ c e' i j. k c e'
          (h.mentioned c i) j;
    } in
    let same : number (numbers_of os n) (normal bs) ≡ number (numbers_of os m) ss =
    number-bits (numbers_of os n) (normal bs) (form_after_is f ss bs h.form e).segments
    ∙ ap (number_of_bits (numbers_of os n)) (bits-normal bs)
    ∙ number_after f (numbers_of os m) (numbers_of os n) (bits ss) bs keeps e
    ∙ sym (number-bits (numbers_of os m) ss h.form.segments) in
    subst (HasNumber os n x x.what) (sym same) s

number_by : {N : Type 0} (d : Model) (os : Order × Order) (m n : Memories) (cs : List (Cell N)) (f : Fate) (x : Cell
    N) (g : Option (List Segment))
    → ((c e : CellName) → IsThere c cs → f c ≡ Some e → numbers_of os n e ≡ numbers_of os m c)
    → (o : Option (List Segment)) → IfSome o (IsFormOf cs x) → IfSome o (λ ss. HasNumber os n x x.what (number
    (numbers_of os m) ss))
    → IfSome (form_after f o) (FormSays os n (record x { form = g }))
number_by d os m n cs f x g k None h s = tt
number_by d os m n cs f x g k (Some ss) h s = number_left d os m n cs f x ss g k h s (bits_after f (bits ss)) refl

pub change_holds : {N : Type 0} (D : Ops N) (os : Order × Order) (d : Model) (m n : Memories) (cs l : List (Cell N))
    (f : Fate)
    → IsChange d cs l f → Holds D os d m n cs l f → In D (record {
      orders = os;
      model = d;
      cells = map (reformed f) l;
    }) n
change_holds D os d m n cs l f c h = record {
  cells = λ y i.
      let r = in_map (reformed f) y l i in
      let s = h.says r.origin r.is_in in
      subst (Says D os d n) (sym r.is)
      (let k : Says D os d n (reformed f r.origin) = record {
        datum = s.datum;
        allowed = s.allowed;
        stands = record { left = s.stands.left; right = s.stands.right };
      } in k);
  forms = λ y i.
      let r = in_map (reformed f) y l i in
      subst (λ z. IfSome z.form (FormSays os n z)) (sym r.is)
      (number_by d os m n cs f r.origin (form_after f r.origin.form) h.keeps r.origin.form (c.forms r.origin r.is_in)
      (h.numbers r.origin r.is_in));
}
