-- Forms where one cell comes apart or goes.
use Rattle.std.proofs.Common.{◌≡◌, ℕ, Bool, true, false, ◌&&◌, ◌||◌, not, nat_eq, cond, List, [], ◌∷◌, ◌++◌, map}
use Rattle.std.proofs.Common.{Option, Some, None, refl, sym, ◌∙◌, ap}
use Rattle.std.specs.Option.{option_map}
use Rattle.std.proofs.lemmas.Bool.{and_parts, and_right}
use Rattle.ep_int.specs.declared.types.IntType.{IntType}
use Rattle.ep_int.specs.declared.types.IntType.TheVariants.{I8, U8, I16, U16, I32, U32, I64, U64}
use Rattle.ep_int.specs.declared.types.Scalar.{Scalar}
use Rattle.ep_int.specs.declared.types.Scalar.TheVariants.{Int, Pointer}
use Rattle.ep_bitslice.specs.declared.cell.Side.{Side}
use Rattle.ep_bitslice.specs.declared.cell.Side.TheVariants.{Left, Right, Shared}
use Rattle.ep_bitslice.specs.declared.cell.CellName.{CellName}
use Rattle.ep_bitslice.specs.declared.segment.Segment.{Segment}
use Rattle.ep_bitslice.specs.Bits.{Bit, fixed, cell_bit, side_number, type_number, is_same_cell, renamed, mentions}
use Rattle.ep_bitslice.specs.Segments.{bits, normal}
use Rattle.ep_bitslice.proofs.Joining.{same_cell}
use Rattle.ep_cells.specs.declared.cell.Cell.{Cell}
use Rattle.ep_cells.specs.Cells.{is_same_side, is_same_scalar, is_same_cell as are_one, side_without, with_side}
use Rattle.ep_cells.specs.Forms.{Fate, put_bit, bits_after, form_after, reformed}
use Rattle.ep_cells.specs.Meaning.{name_of}
use Rattle.ep_cells.specs.Weaken.{first_part}
use Rattle.ep_reads.specs.Split.{is_name_of, left_by_split, fate_by_split}
use Rattle.ep_reads.specs.Unify.{is_of_one_side, is_byte, fate_by_crossing}
use Rattle.ep_bicells.specs.Steps.{fate_to}

-- ---- bits

bits_kept : (f : Fate) (bs : List Bit) → ((c : CellName) → f c ≡ Some c) → bits_after f bs ≡ Some bs
bits_kept f [] h = refl
bits_kept f (fixed b ∷ bs) h = ap (put_bit (Some (fixed b))) (bits_kept f bs h)
bits_kept f (cell_bit c k ∷ bs) h =
    ap (λ o. put_bit (option_map (λ z. cell_bit z k) o) (bits_after f bs)) (h c)
    ∙ ap (put_bit (Some (cell_bit c k))) (bits_kept f bs h)

bits_moved : (f : Fate) (n m : CellName) (bs : List Bit) → ((c : CellName) → f c ≡ Some (cond (is_same_cell c n) m c))
    → bits_after f bs ≡ Some (renamed n m bs)
bits_moved f n m [] h = refl
bits_moved f n m (fixed b ∷ bs) h = ap (put_bit (Some (fixed b))) (bits_moved f n m bs h)
bits_moved f n m (cell_bit c k ∷ bs) h =
    ap (λ o. put_bit (option_map (λ z. cell_bit z k) o) (bits_after f bs)) (h c)
    ∙ ap (put_bit (Some (cell_bit (cond (is_same_cell c n) m c) k))) (bits_moved f n m bs h)

gone_by : (f : Fate) (c : CellName) (k : ℕ) (bs : List Bit) (b d : Bool) → f c ≡ cond b None (Some c)
    → bits_after f bs ≡ cond d None (Some bs)
    → put_bit (option_map (λ z. cell_bit z k) (f c)) (bits_after f bs) ≡ cond (b || d) None (Some (cell_bit c k ∷ bs))
gone_by f c k bs true d h rest = ap (λ o. put_bit (option_map (λ z. cell_bit z k) o) (bits_after f bs)) h
gone_by f c k bs false true h rest =
    ap (λ o. put_bit (option_map (λ z. cell_bit z k) o) (bits_after f bs)) h ∙ ap (put_bit (Some (cell_bit c k))) rest
gone_by f c k bs false false h rest =
    ap (λ o. put_bit (option_map (λ z. cell_bit z k) o) (bits_after f bs)) h ∙ ap (put_bit (Some (cell_bit c k))) rest

fixed_by : (f : Fate) (b d : Bool) (bs : List Bit) → bits_after f bs ≡ cond d None (Some bs)
    → put_bit (Some (fixed b)) (bits_after f bs) ≡ cond d None (Some (fixed b ∷ bs))
fixed_by f b true bs e = ap (put_bit (Some (fixed b))) e
fixed_by f b false bs e = ap (put_bit (Some (fixed b))) e

bits_gone : (f : Fate) (n : CellName) (bs : List Bit) → ((c : CellName) → f c ≡ cond (is_same_cell c n) None (Some c))
    → bits_after f bs ≡ cond (mentions n bs) None (Some bs)
bits_gone f n [] h = refl
bits_gone f n (fixed b ∷ bs) h = fixed_by f b (mentions n bs) bs (bits_gone f n bs h)
bits_gone f n (cell_bit c k ∷ bs) h =
    gone_by f c k bs (is_same_cell c n) (mentions n bs) (h c) (bits_gone f n bs h)

-- ---- names

and_assoc : (a b c d : Bool) → (a && (b && (c && d))) ≡ ((a && (b && c)) && d)
and_assoc false b c d = refl
and_assoc true false c d = refl
and_assoc true true false d = refl
and_assoc true true true d = refl

name_same : {N : Type 0} (c : CellName) (x : Cell N) (t : IntType) → x.what ≡ Int t
    → is_name_of c x ≡ is_same_cell c (name_of x t)
name_same c x t e =
    ap (λ (w : Scalar). is_same_side c.side x.side && (nat_eq c.block x.block && (nat_eq c.offset x.offset &&
    is_same_scalar (Int c.t) w))) e
    ∙ and_assoc (nat_eq (side_number c.side) (side_number x.side)) (nat_eq c.block x.block) (nat_eq c.offset x.offset)
    (nat_eq (type_number c.t) (type_number t))

no_type : (t : IntType) → nat_eq (type_number t) 8 ≡ false
no_type I8 = refl
no_type U8 = refl
no_type I16 = refl
no_type U16 = refl
no_type I32 = refl
no_type U32 = refl
no_type I64 = refl
no_type U64 = refl

-- a pointer cell has no name
no_name : {N : Type 0} (c : CellName) (x : Cell N) → x.what ≡ Pointer → is_name_of c x ≡ false
no_name c x e =
    and_right (is_same_side c.side x.side) (nat_eq c.block x.block && (nat_eq c.offset x.offset && is_same_scalar (Int
    c.t) x.what))
    (and_right (nat_eq c.block x.block) (nat_eq c.offset x.offset && is_same_scalar (Int c.t) x.what)
    (and_right (nat_eq c.offset x.offset) (is_same_scalar (Int c.t) x.what) (ap (λ (w : Scalar). is_same_scalar (Int
    c.t) w) e ∙ no_type c.t)))

abbrev name_on : {N : Type 0} → Cell N → IntType → Side → CellName
name_on x t s = record { side = s; block = x.block; offset = x.offset; t = t }

abbrev fate_by : CellName → Bool → Option Side → Option CellName
fate_by c b o = cond b (option_map (λ r. record c { side = r }) o) (Some c)

moved_by : {N : Type 0} (c : CellName) (x : Cell N) (t : IntType) (r : Side) (b : Bool)
    → is_same_cell c (name_of x t) ≡ b → fate_by c b (Some r) ≡ Some (cond b (name_on x t r) c)
moved_by c x t r true e =
    ap (λ z. let y : CellName = record z { side = r } in Some y) (same_cell c (name_of x t) e)
moved_by c x t r false e = refl

gone_from : (c : CellName) (b : Bool) → fate_by c b None ≡ cond b None (Some c)
gone_from c true = refl
gone_from c false = refl

-- ---- forms

pub form_moved : {N : Type 0} (x : Cell N) (t : IntType) (o : Option Side) (r : Side) (ss f : List Segment) (n m :
    CellName) → x.what ≡ Int t → o ≡ Some r → n ≡ name_of x t → m ≡ name_on x t r → f ≡ normal (renamed n m (bits ss))
    → Some f ≡ form_after (fate_to o x) (Some ss)
form_moved x t o r ss f n m e h i j is =
    ap Some (is ∙ ap (λ z. normal (renamed z m (bits ss))) i ∙ ap (λ z. normal (renamed (name_of x t) z (bits ss))) j)
    ∙ sym (ap (option_map normal) (bits_moved (fate_to o x) (name_of x t) (name_on x t r) (bits ss)
    (λ c. ap (λ b. fate_by c b o) (name_same c x t e) ∙ ap (fate_by c (is_same_cell c (name_of x t))) h
    ∙ moved_by c x t r (is_same_cell c (name_of x t)) refl)))

normal_by : (ss : List Segment) (b : Bool) → normal (bits ss) ≡ ss
    → cond b None (Some ss) ≡ option_map normal (cond b None (Some (bits ss)))
normal_by ss true h = refl
normal_by ss false h = ap Some (sym h)

pub form_gone : {N : Type 0} (x : Cell N) (t : IntType) (o : Option Side) (ss : List Segment) (n : CellName) (f : Option
    (List Segment)) → x.what ≡ Int t → o ≡ None → n ≡ name_of x t → normal (bits ss) ≡ ss
    → f ≡ cond (mentions n (bits ss)) None (Some ss) → f ≡ form_after (fate_to o x) (Some ss)
form_gone x t o ss n f e h i own is =
    is
    ∙ ap (λ z. cond (mentions z (bits ss)) None (Some ss)) i
    ∙ normal_by ss (mentions (name_of x t) (bits ss)) own
    ∙ sym (ap (option_map normal) (bits_gone (fate_to o x) (name_of x t) (bits ss)
    (λ c. ap (λ b. fate_by c b o) (name_same c x t e) ∙ ap (fate_by c (is_same_cell c (name_of x t))) h
    ∙ gone_from c (is_same_cell c (name_of x t)))))

pub form_kept : {N : Type 0} (x : Cell N) (o : Option Side) (ss f : List Segment) → x.what ≡ Pointer
    → normal (bits ss) ≡ ss → f ≡ ss → Some f ≡ form_after (fate_to o x) (Some ss)
form_kept x o ss f e own is =
    ap Some (is ∙ sym own)
    ∙ sym (ap (option_map normal) (bits_kept (fate_to o x) (bits ss)
    (λ c. ap (λ b. fate_by c b o) (no_name c x e))))

-- ---- a cell that is split

pub split_part : {N : Type 0} (s : Side) (x y : Cell N) (t o : Option Side) (out now : List (Cell N))
    → t ≡ side_without s x.side → o ≡ side_without s y.side → are_one y x ≡ true
    → now ≡ out ++ map (reformed (fate_to t x)) (with_side y o)
    → now ≡ out ++ map (reformed (fate_by_split s x)) (left_by_split s x y)
split_part s x y t o out now e i h k =
    k
    ∙ ap (λ z. out ++ map (reformed (fate_to z x)) (with_side y o)) e
    ∙ ap (λ z. out ++ map (reformed (fate_by_split s x)) (with_side y z)) i
    ∙ sym (ap (λ b. out ++ map (reformed (fate_by_split s x)) (cond b (with_side y (side_without s y.side)) (y ∷ []))) h)

pub split_same : {N : Type 0} (s : Side) (x y : Cell N) (t : Option Side) (out now : List (Cell N))
    → t ≡ side_without s x.side → are_one y x ≡ false
    → now ≡ out ++ map (reformed (fate_to t x)) (with_side y (Some y.side))
    → now ≡ out ++ map (reformed (fate_by_split s x)) (left_by_split s x y)
split_same s x y t out now e h k =
    k
    ∙ ap (λ z. out ++ map (reformed (fate_to z x)) (with_side y (Some y.side))) e
    ∙ sym (ap (λ b. out ++ map (reformed (fate_by_split s x)) (cond b (with_side y (side_without s y.side)) (y ∷ []))) h)

-- ---- a cell that is crossed

bits_alike : (f g : Fate) (bs : List Bit) → ((c : CellName) → f c ≡ g c) → bits_after f bs ≡ bits_after g bs
bits_alike f g [] h = refl
bits_alike f g (fixed b ∷ bs) h = ap (put_bit (Some (fixed b))) (bits_alike f g bs h)
bits_alike f g (cell_bit c k ∷ bs) h =
    ap (λ o. put_bit (option_map (λ z. cell_bit z k) o) (bits_after f bs)) (h c)
    ∙ ap (put_bit (option_map (λ z. cell_bit z k) (g c))) (bits_alike f g bs h)

form_alike : (f g : Fate) (o : Option (List Segment)) → ((c : CellName) → f c ≡ g c) → form_after f o ≡ form_after g o
form_alike f g None h = refl
form_alike f g (Some ss) h = ap (option_map normal) (bits_alike f g (bits ss) h)

cells_alike : {N : Type 0} (f g : Fate) (cs : List (Cell N)) → ((c : CellName) → f c ≡ g c)
    → map (reformed f) cs ≡ map (reformed g) cs
cells_alike f g [] h = refl
cells_alike {N = N} f g (c ∷ cs) h =
    ap (λ o. let y : Cell N = record c { form = o } in y ∷ map (reformed f) cs) (form_alike f g c.form h)
    ∙ ap (λ zs. reformed g c ∷ zs) (cells_alike f g cs h)

abbrev left_name : CellName → CellName
left_name c = record c { side = Left }

abbrev name_with : CellName → Side → CellName
name_with c s = record c { side = s }

-- the cell of a name of that side
part_by : (c : CellName) (s q : Side) → c.side ≡ s → is_same_side s q ≡ true
    → Some (name_with c (first_part q)) ≡ Some (cond (not (is_same_side q Shared)) c (left_name c))
part_by c Left Left e h = ap (λ (z : Side). Some (name_with c z)) (sym e)
part_by c Left Right e h = absurd (cc)
part_by c Left Shared e h = absurd (cc)
part_by c Right Left e h = absurd (cc)
part_by c Right Right e h = ap (λ (z : Side). Some (name_with c z)) (sym e)
part_by c Right Shared e h = absurd (cc)
part_by c Shared Left e h = absurd (cc)
part_by c Shared Right e h = absurd (cc)
part_by c Shared Shared e h = refl

abbrev crossed_fate : {N : Type 0} → CellName → Cell N → (named byte : Bool) → Option CellName
crossed_fate c x b t = cond b (cond t (Some (cond (is_of_one_side x) c (left_name c))) None) (Some c)

crossed_by : {N : Type 0} (c : CellName) (x : Cell N) (b t : Bool) → is_name_of c x ≡ b
    → fate_by c b (cond t (Some (first_part x.side)) None) ≡ crossed_fate c x b t
crossed_by c x true true e =
    part_by c c.side x.side refl (and_parts (is_same_side c.side x.side) (nat_eq c.block x.block && (nat_eq c.offset
    x.offset && is_same_scalar (Int c.t) x.what)) e).0
crossed_by c x true false e = refl
crossed_by c x false t e = refl

pub crossed_alike : {N : Type 0} (x : Cell N) (o : Option Side) (cs : List (Cell N))
    → o ≡ cond (is_byte x.what) (Some (first_part x.side)) None
    → map (reformed (fate_to o x)) cs ≡ map (reformed (fate_by_crossing x)) cs
crossed_alike x o cs e = cells_alike (fate_to o x) (fate_by_crossing x) cs (λ c. ap (fate_by c (is_name_of c x)) e
    ∙ crossed_by c x (is_name_of c x) (is_byte x.what) refl)
