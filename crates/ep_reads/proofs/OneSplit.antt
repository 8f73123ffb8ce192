-- One cell is split on one side: what is left is a state, and holds.
use Rattle.std.proofs.Common.{◌≡◌, ℕ, ◌+◌, ◌^◌, ◌%◌, ◌<◌, ℤ, Bool, true, false, ◌&&◌, nat_eq, if◌then◌else◌, cond}
use Rattle.ep_cells.proofs.Write.{own_rest}
use Rattle.std.proofs.Common.{IfSome, List, [], ◌∷◌, ◌++◌, ⊎_elim, Option, Some, None, refl, sym, ◌∙◌, ap, subst}
use Rattle.std.proofs.Common.{arith}
use Rattle.std.specs.Option.{option_map}
use Rattle.std.proofs.lemmas.Bool.{and_parts, and_left, and_cases, false_from_ne_true, both_ways, cases_Bool}
use Rattle.ep_int.specs.declared.types.IntType.{IntType}
use Rattle.ep_int.specs.declared.types.Order.{Order}
use Rattle.ep_int.specs.declared.types.Model.{Model}
use Rattle.ep_int.specs.declared.types.Scalar.{Scalar}
use Rattle.ep_int.specs.declared.types.Scalar.TheVariants.{Int, Pointer}
use Rattle.ep_int.specs.Types.{bits_of, size_of, residue, InRange}
use Rattle.ep_int.specs.Memory.{Value as Datum, int}
use Rattle.ep_bitslice.specs.declared.cell.Side.{Side}
use Rattle.ep_bitslice.specs.declared.cell.Side.TheVariants.{Shared}
use Rattle.ep_bitslice.specs.declared.cell.CellName.{CellName}
use Rattle.ep_bitslice.specs.declared.segment.Segment.{Segment}
use Rattle.ep_bitslice.specs.Segments.{number as form_number}
use Rattle.ep_domain.specs.Domain.{Ops, Lawful}
use Rattle.ep_cells.specs.declared.cell.Cell.{Cell}
use Rattle.ep_cells.specs.declared.cell.Value.{Value}
use Rattle.ep_cells.specs.declared.cell.Value.TheVariants.{Num, Ptr}
use Rattle.ep_cells.specs.Cells.{share_memory, side_without, place_of, touches, meets, is_same_side, is_same_scalar}
use Rattle.ep_cells.specs.Cells.{is_same_cell, IsNamed, IsIn, first, later, put_all, each_becomes, with_side}
use Rattle.ep_cells.specs.States.{Known, IsThere, IsFormOf, HasForm, EachPair, AreApart, IsCell, AreCells}
use Rattle.ep_cells.specs.Meaning.{Memories, Allows, HasBytes, StandsAt, Says, numbers_of, name_of, HasNumber}
use Rattle.ep_cells.specs.Meaning.{FormSays, In}
use Rattle.ep_cells.specs.Memories.{AreRewritten}
use Rattle.ep_cells.proofs.Lists.{each_in, put_all_keeps}
use Rattle.ep_cells.proofs.Bytes.{number_of_cell}
use Rattle.ep_cells.proofs.Places.{at, Within, within_itself, apart_within, IsRest, rest_is}
use Rattle.ep_cells.proofs.Parts.{rest_of_unshared}
use Rattle.ep_cells.proofs.Changes.{IsKept, kept_says}
use Rattle.ep_cells.proofs.Write.{kept_beside, kept_rest, keeps_kept, Follows, follows_by}
use Rattle.ep_cells.proofs.Both.{alike_same, only_one}
use Rattle.ep_reads.specs.Bytes.{order_on, form_or, own_form}
use Rattle.ep_reads.specs.Split.{form_beside, byte_of, byte_cells, is_name_of, fate_by_split, left_by_split, split_cell}
use Rattle.ep_reads.specs.Laws.{memory_on}
use Rattle.ep_reads.proofs.Bytes.{own_is_form, form_says_by}
use Rattle.ep_reads.proofs.Steps.{form_more, apart_misses, IsSided, IsStep, step_cells, step_holds}
use Rattle.ep_reads.proofs.Sides.{one_within, on_one, side_same, inside_apart, same_itself, others_apart}
use Rattle.ep_reads.proofs.Sides.{named_same}
use Rattle.ep_reads.proofs.ByteCells.{IsByteCell, byte_is, byte_cell, IsLoose, byte_says, says_on_side}
use Rattle.ep_reads.proofs.ByteCells.{byte_has_form, SaysBeside, byte_numbers, one_of, bytes_pairs}

-- ---- what becomes of a cell

pub data AfterSplit {N : Type 0} (d : Model) (s : Side) (x z y : Cell N) : Type 0 where
  rest : (t : Side) → z ≡ x → y ≡ record z { side = t } → IsRest s z.side t → AfterSplit d s x z y
  other : y ≡ z → meets (place_of d x) (place_of d z) ≡ false → AfterSplit d s x z y

pub rest_by : {N : Type 0} (d : Model) (s : Side) (x z y : Cell N) (o : Option Side) → z ≡ x → IfSome o (IsRest s z.side)
    → IsIn y (with_side z o) → AfterSplit d s x z y
rest_by d s x z y None e r h = elim h [ ]
rest_by d s x z _ (Some t) e r (first _) = rest t e refl r
rest_by d s x z y (Some t) e r (later _ _ h) = elim h [ ]

pub other_by : {N : Type 0} (d : Model) (s : Side) (x z y : Cell N) → meets (place_of d x) (place_of d z) ≡ false
    → IsIn y (z ∷ []) → AfterSplit d s x z y
other_by d s x z _ e (first _) = other refl e
other_by d s x z y e (later _ _ h) = elim h [ ]

pub after_by : {N : Type 0} (d : Model) (s : Side) (x z y : Cell N) (cs : List (Cell N)) (t : Bool)
    → EachPair (AreApart d) cs → IsIn x cs → IsIn z cs → is_same_cell z x ≡ t
    → IsIn y (cond t (with_side z (side_without s z.side)) (z ∷ [])) → AfterSplit d s x z y
after_by d s x z y cs true p i j e h =
    rest_by d s x z y (side_without s z.side) (only_one d z x cs p j i (alike_same z x e)) (rest_is s z.side) h
after_by d s x z y cs false p i j e h = other_by d s x z y (others_apart d x z cs p i j e) h

pub after_split : {N : Type 0} (d : Model) (s : Side) (x z y : Cell N) (cs : List (Cell N)) → EachPair (AreApart d) cs
    → IsIn x cs → IsIn z cs → IsIn y (left_by_split s x z) → AfterSplit d s x z y
after_split d s x z y cs p i j h = after_by d s x z y cs (is_same_cell z x) p i j refl h

pub after_sided : {N : Type 0} (d : Model) (s : Side) (x z y : Cell N) → AfterSplit d s x z y → IsSided z y
after_sided d s x z y (rest t e i r) = record { side = t; is = i; within = r.within }
after_sided d s x z y (other i e) = record { side = z.side; is = i; within = within_itself z.side }

pub own_by : {N : Type 0} (d : Model) (s : Side) (z : Cell N) (t : Bool)
    → EachPair (AreApart d) (cond t (with_side z (side_without s z.side)) (z ∷ []))
own_by d s z true = own_rest d z (side_without s z.side)
own_by d s z false = (tt, tt)

-- a byte of x doesn't meet what is left
pub byte_away : {N : Type 0} (d : Model) (s : Side) (x z y : Cell N) (c : Cell N) (j : ℕ) → Within s x.side
    → j < size_of d x.what → IsByteCell s x.block (x.offset + j) c → AfterSplit d s x z y
    → meets (place_of d c) (place_of d y) ≡ false
byte_away d s x z y c j w l b (rest t e i r) =
    subst (λ q. meets (place_of d q) (place_of d y) ≡ false) (sym b.is)
    (subst (λ q. meets (at s x.block (x.offset + j) 1) (place_of d q) ≡ false) (sym i)
    (and_left (share_memory s t) (touches (at s x.block (x.offset + j) 1) (place_of d (record z { side = t })))
    r.apart))
byte_away d s x z y c j w l b (other i e) =
    subst (λ q. meets (place_of d q) (place_of d y) ≡ false) (sym b.is)
    (subst (λ q. meets (at s x.block (x.offset + j) 1) (place_of d q) ≡ false) (sym i)
    (inside_apart s z.side x.side x.block x.offset (size_of d x.what) z.block z.offset (size_of d z.what) j w l e))

-- ---- the memories

-- What a split leaves of two memories: bytes elsewhere are as they were, and those of the cell keep what they say.
pub record IsLoosened {N : Type 0} (d : Model) (s : Side) (x : Cell N) (m n : Memories) : Type 0 where
  pub rewritten : AreRewritten (at s x.block x.offset (size_of d x.what)) m n
  pub bytes : (j : ℕ) → j < size_of d x.what
      → IsLoose x.what (memory_on s m x.block (x.offset + j)) (memory_on s n x.block (x.offset + j))

pub kept_other : {N : Type 0} (D : Ops N) (os : Order × Order) (d : Model) (s : Side) (x z : Cell N) (m n : Memories)
    → Within s x.side → AreRewritten (at s x.block x.offset (size_of d x.what)) m n
    → meets (place_of d x) (place_of d z) ≡ false → IsKept D os d m n z z
kept_other D os d s x z m n w r e =
    ⊎_elim
    (λ f. kept_rest D os d m n (at s x.block x.offset (size_of d x.what)) z z.side r (rest_of_unshared s z.side z.side
    (apart_within s z.side x.side z.side w (within_itself z.side) f) (within_itself z.side)))
    (λ f. kept_beside D os d m n (at s x.block x.offset (size_of d x.what)) z r f)
    (and_cases (share_memory x.side z.side) (touches (place_of d x) (place_of d z)) e)

pub after_kept : {N : Type 0} (D : Ops N) (os : Order × Order) (d : Model) (s : Side) (x z y : Cell N) (m n : Memories)
    → Within s x.side → AreRewritten (at s x.block x.offset (size_of d x.what)) m n → AfterSplit d s x z y
    → IsKept D os d m n z y
after_kept D os d s x z y m n w r (rest t e i q) =
    subst (IsKept D os d m n z) (sym i) (kept_rest D os d m n (at s x.block x.offset (size_of d x.what)) z t r q)
after_kept D os d s x z y m n w r (other i e) =
    subst (IsKept D os d m n z) (sym i) (kept_other D os d s x z m n w r e)

-- ---- names

pub follows_true : {N : Type 0} (s : Side) (x z : Cell N) (c e : CellName) → IsNamed c z → is_name_of c x ≡ true
    → cond (is_name_of c x) (option_map (λ r. record c { side = r }) (side_without s x.side)) (Some c) ≡ Some e
    → Follows z (left_by_split s x z) e
follows_true s x z c e i t h =
    let same : is_same_cell z x ≡ true = named_same c z x i ∙ t in
    let a = alike_same z x same in
    let g : option_map (λ r. record c { side = r }) (side_without s x.side) ≡ Some e = subst (λ b. cond b
    (option_map (λ r.
    record c { side = r }) (side_without s x.side)) (Some c) ≡ Some e) t h in
    let k : option_map (λ r. record c { side = r }) (side_without s z.side) ≡ Some e = subst (λ (q : Side).
    option_map (λ
    r. record c { side = r }) (side_without s q) ≡ Some e) (sym a.side) g in
    subst (λ b. Follows z (cond b (with_side z (side_without s z.side)) (z ∷ [])) e) (sym same)
    (follows_by z c e (side_without s z.side) true i k)

pub follows_false : {N : Type 0} (s : Side) (x z : Cell N) (c e : CellName) → IsNamed c z → is_name_of c x ≡ false
    → cond (is_name_of c x) (option_map (λ r. record c { side = r }) (side_without s x.side)) (Some c) ≡ Some e
    → Follows z (left_by_split s x z) e
follows_false s x z c e i t h =
    let g : Some c ≡ Some e = subst (λ b. cond b (option_map (λ r. record c { side = r }) (side_without s x.side)) (Some
    c) ≡ Some e) t h in
    subst (λ b. Follows z (cond b (with_side z (side_without s z.side)) (z ∷ [])) e) (sym (named_same c z x i ∙ t))
    (follows_by z c e (side_without s z.side) false i g)

pub follows_split : {N : Type 0} (s : Side) (x z : Cell N) (c e : CellName) → IsNamed c z → fate_by_split s x c ≡ Some e
    → Follows z (left_by_split s x z) e
follows_split s x z c e i h =
    ⊎_elim (λ t. follows_true s x z c e i t h) (λ t. follows_false s x z c e i t h) (cases_Bool (is_name_of c x))

-- the name of what stays of x goes on as it is
pub rest_stays : {N : Type 0} (s t : Side) (x : Cell N) (c e : CellName) → share_memory s x.side ≡ true
    → IsRest s x.side t → IsNamed c (record x { side = t }) → fate_by_split s x c ≡ Some e → c ≡ e
rest_stays s t x c e h r i f =
    let no : is_name_of c x ≡ false = false_from_ne_true (is_name_of c x) (λ k.
    let p = and_parts (is_same_side c.side x.side) (nat_eq c.block x.block && (nat_eq c.offset x.offset &&
    is_same_scalar
    (Int c.t) x.what)) k in
    let same : t ≡ x.side = i.side ∙ side_same c.side x.side p.0 in
    both_ways (share_memory s t) r.apart (subst (λ (q : Side). share_memory s q ≡ true) (sym same) h)) in
    let g : Some c ≡ Some e = subst (λ b. cond b (option_map (λ r. record c { side = r }) (side_without s x.side)) (Some
    c) ≡ Some e) no f in
    cc

-- a cell of the old list, or what stays of x
pub data IsOldOrRest {N : Type 0} (s : Side) (x : Cell N) (cs : List (Cell N)) (z : Cell N) : Type 0 where
  old : IsIn z cs → IsOldOrRest s x cs z
  stays : (t : Side) → z ≡ record x { side = t } → side_without s x.side ≡ Some t → IsRest s x.side t
      → IsOldOrRest s x cs z

pub old_by : {N : Type 0} (s : Side) (x : Cell N) (cs : List (Cell N)) (z : Cell N) (o : Option Side)
    → side_without s x.side ≡ o → IfSome o (IsRest s x.side) → IsIn z (with_side x o ++ cs) → IsOldOrRest s x cs z
old_by s x cs z None e r h = old h
old_by s x cs _ (Some t) e r (first _) = stays t refl e r
old_by s x cs z (Some t) e r (later _ _ h) = old h

pub old_or_rest : {N : Type 0} (s : Side) (x : Cell N) (cs : List (Cell N)) (z : Cell N)
    → IsIn z (with_side x (side_without s x.side) ++ cs) → IsOldOrRest s x cs z
old_or_rest s x cs z h = old_by s x cs z (side_without s x.side) refl (rest_is s x.side) h

-- what stays of x is left
pub rest_left : {N : Type 0} (s t : Side) (x : Cell N) (b : Bool) → is_same_cell x x ≡ b → side_without s x.side ≡ Some t
    → IsIn (record x { side = t }) (cond b (with_side x (side_without s x.side)) (x ∷ []))
rest_left s t x true e h = subst (λ o. IsIn (record x { side = t }) (with_side x o)) (sym h) (first [])
rest_left s t x false e h = absurd (both_ways (is_same_cell x x) e (same_itself x))

-- ---- the form beside

pub own_beside : {N : Type 0} (cs : List (Cell N)) (x : Cell N) (t : Side) (w : Scalar) (maybe : Bool) → x.what ≡ w
    → x.maybe ≡ maybe
    → IfSome (cond maybe None (own_form (record x { side = t }) w)) (IsFormOf (record x { side = t } ∷ cs) x)
own_beside cs x t w true e s = tt
own_beside {N = N} cs x t (Int i) false e s =
    let z : Cell N = record x { side = t } in
    let f = own_is_form (record x { side = t } ∷ cs) z i (first cs) e s in
    record { sure = f.sure; wide = f.wide; form = f.form; mentioned = f.mentioned }
own_beside cs x t Pointer false e s = tt

pub form_with : {N : Type 0} (more cs : List (Cell N)) (x : Cell N) (g h : Option (List Segment)) → IfSome g (IsFormOf cs x)
    → IfSome h (IsFormOf (more ++ cs) x) → IfSome (form_or g h) (IsFormOf (more ++ cs) x)
form_with more cs x None h i j = j
form_with more cs x (Some ss) h i j = form_more more cs x x.side (Some ss) i

pub beside_fits : {N : Type 0} (cs : List (Cell N)) (x : Cell N) (o : Option Side) → HasForm cs x
    → IfSome (form_beside x o) (IsFormOf (with_side x o ++ cs) x)
beside_fits cs x None h = h
beside_fits cs x (Some t) h =
    form_with (record x { side = t } ∷ []) cs x x.form (if x.maybe then None else own_form (record x { side = t })
    x.what)
    h (own_beside cs x t x.what x.maybe refl refl)

-- the number of a sure cell, by a side that it has
pub number_on_side : {N : Type 0} (os : Order × Order) (d : Model) (m : Memories) (x : Cell N) (t : Side) (i : IntType) (z :
    ℤ) (v : Option Datum) → Within t x.side → x.what ≡ Int i → x.maybe ≡ false → InRange i z → v ≡ Some (int z)
    → StandsAt os d m x v → numbers_of os m (name_of (record x { side = t }) i) ≡ z
number_on_side {N = N} os d m x t i z v w e s r g h =
    let y : Cell N = record x { side = t } in
    let k = subst (StandsAt os d m x) g h in
    number_of_cell os d m y i z e s r (record { left = λ q. k.left (w.left q); right = λ q. k.right (w.right q) })

pub stored_says : {N : Type 0} (os : Order × Order) (d : Model) (m : Memories) (cs : List (Cell N)) (x : Cell N) (v
    : Option
    Datum) (i : IntType) (z : ℤ) (g : Option (List Segment)) → x.what ≡ Int i → InRange i z → v ≡ Some (int z)
    → StandsAt os d m x v → IfSome g (IsFormOf cs x) → IfSome g (FormSays os m x)
    → IfSome g (λ ss. residue (2 ^ bits_of i) z ≡ form_number (numbers_of os m) ss % 2 ^ bits_of i)
stored_says os d m cs x v i z None w r e h f g = tt
stored_says os d m cs x v i z (Some ss) w r e h f g =
    let is = number_on_side os d m x x.side i z v (within_itself x.side) w f.sure r e h in
    sym (ap (residue (2 ^ bits_of i)) is)
    ∙ subst (λ y. HasNumber os m x y (form_number (numbers_of os m) ss)) w g

pub own_says : {N : Type 0} (os : Order × Order) (d : Model) (m : Memories) (x : Cell N) (v : Option Datum) (t : Side) (i :
    IntType) (z : ℤ) (maybe : Bool) → Within t x.side → x.what ≡ Int i → x.maybe ≡ maybe → InRange i z
    → v ≡ Some (int z) → StandsAt os d m x v
    → IfSome (cond maybe None (own_form (record x { side = t }) (Int i))) (λ ss. residue (2 ^ bits_of i) z ≡ form_number
    (numbers_of os m) ss % 2 ^ bits_of i)
own_says os d m x v t i z true w e s r g h = tt
own_says {N = N} os d m x v t i z false w e s r g h =
    let y : Cell N = record x { side = t } in
    let is = number_on_side os d m x t i z v w e s r g h in
    let f = form_says_by os m y None (Int i) false tt in
    sym (ap (residue (2 ^ bits_of i)) is) ∙ f

pub says_with : (n : List Segment → ℕ) (i : IntType) (z : ℤ) (g h : Option (List Segment))
    → IfSome g (λ ss. residue (2 ^ bits_of i) z ≡ n ss % 2 ^ bits_of i)
    → IfSome h (λ ss. residue (2 ^ bits_of i) z ≡ n ss % 2 ^ bits_of i)
    → IfSome (form_or g h) (λ ss. residue (2 ^ bits_of i) z ≡ n ss % 2 ^ bits_of i)
says_with n i z None h p q = q
says_with n i z (Some f) h p q = p

pub in_range_by : {N : Type 0} (D : Ops N) (w : Scalar) (u : Option (Value N)) (maybe : Bool) (i : IntType) (z : ℤ)
    → w ≡ Int i → Allows D w u maybe (Some (int z)) → InRange i z
in_range_by D w None maybe i z e a = absurd (let c : Some (int z) ≡ None = a in cc)
in_range_by D (Int t) (Some (Num n)) maybe i z e a = let same : t ≡ i = cc in subst (λ y. InRange y z) same a.0
in_range_by D Pointer (Some (Num n)) maybe i z e a = absurd a
in_range_by D (Int t) (Some (Ptr p)) maybe i z e a = absurd a
in_range_by D Pointer (Some (Ptr p)) maybe i z e a = absurd a

pub beside_by : {N : Type 0} (os : Order × Order) (d : Model) (m : Memories) (cs : List (Cell N)) (x : Cell N) (o : Option
    Side) (v : Option Datum) (i : IntType) (z : ℤ) → IfSome o (λ t. Within t x.side) → x.what ≡ Int i → InRange i z
    → v ≡ Some (int z) → StandsAt os d m x v → HasForm cs x → IfSome x.form (FormSays os m x)
    → IfSome (form_beside x o) (λ ss. residue (2 ^ bits_of i) z ≡ form_number (numbers_of os m) ss % 2 ^ bits_of i)
beside_by os d m cs x None v i z w e r g h f s = stored_says os d m cs x v i z x.form e r g h f s
beside_by os d m cs x (Some t) v i z w e r g h f s =
    says_with (form_number (numbers_of os m)) i z x.form (if x.maybe then None else own_form (record x { side = t })
    x.what) (stored_says os d m cs x v i z x.form e r g h f s)
    (subst (λ y. IfSome (cond x.maybe None (own_form (record x { side = t }) y)) (λ ss. residue (2 ^ bits_of i) z ≡
    form_number (numbers_of os m) ss % 2 ^ bits_of i)) (sym e) (own_says os d m x v t i z x.maybe w e refl r g h))

pub rest_within : (s q : Side) (o : Option Side) → IfSome o (IsRest s q) → IfSome o (λ t. Within t q)
rest_within s q None h = tt
rest_within s q (Some t) h = h.within

pub beside_says : {N : Type 0} (D : Ops N) (os : Order × Order) (d : Model) (m : Memories) (cs : List (Cell N)) (s :
    Side) (x
    : Cell N) (v : Option Datum) → Allows D x.what x.value x.maybe v → StandsAt os d m x v → HasForm cs x
    → IfSome x.form (FormSays os m x)
    → SaysBeside x.what v (form_number (numbers_of os m)) (form_beside x (side_without s x.side))
beside_says D os d m cs s x v a h f g = λ i z e q.
    beside_by os d m cs x (side_without s x.side) v i z (rest_within s x.side (side_without s x.side) (rest_is s
    x.side))
    e (in_range_by D x.what x.value x.maybe i z e (subst (Allows D x.what x.value x.maybe) q a)) q h f g

-- ---- the step

abbrev pub rest_of : {N : Type 0} → Side → Cell N → List (Cell N)
rest_of s x = with_side x (side_without s x.side)

abbrev pub bytes_of_x : {N : Type 0} → Ops N → Known N → Side → Cell N → List (Cell N)
bytes_of_x D k s x = byte_cells D k.model (order_on s k.orders) s (form_beside x (side_without s x.side)) x

pub there_of : {N : Type 0} (s : Side) (x : Cell N) (cs new : List (Cell N)) (c e : CellName) (t : IsThere c (rest_of s x ++
    cs)) → share_memory s x.side ≡ true → IsIn x cs → fate_by_split s x c ≡ Some e → IsOldOrRest s x cs t.cell
    → IsThere e (put_all new (each_becomes (left_by_split s x) cs))
there_of s x cs new c e t h i f (old j) =
    let g = follows_split s x t.cell c e t.named f in
    record {
      cell = record t.cell { side = g.side };
      is_in = put_all_keeps new (record t.cell { side = g.side }) (each_becomes (left_by_split s x) cs)
          (each_in (left_by_split s x) t.cell (record t.cell { side = g.side }) cs j g.is_in);
      named = g.named;
      sure = t.sure;
    }
there_of s x cs new c e t h i f (stays q is o r) =
    let named : IsNamed c (record x { side = q }) = subst (IsNamed c) is t.named in
    let same = rest_stays s q x c e h r named f in
    record {
      cell = record x { side = q };
      is_in = put_all_keeps new (record x { side = q }) (each_becomes (left_by_split s x) cs)
          (each_in (left_by_split s x) x (record x { side = q }) cs i (rest_left s q x (is_same_cell x x) refl o));
      named = subst (λ a. IsNamed a (record x { side = q })) same named;
      sure = sym (ap (λ y. y.maybe) is) ∙ t.sure;
    }

pub split_step : {N : Type 0} (D : Ops N) (k : Known N) (s : Side) (x : Cell N) (cs : List (Cell N)) → AreCells k.model cs
    → IsIn x cs → is_same_side s Shared ≡ false → share_memory s x.side ≡ true
    → IsStep k.model (rest_of s x) cs (bytes_of_x D k s x) (left_by_split s x) (fate_by_split s x)
split_step D k s x cs a i e h =
    let o = order_on s k.orders in
    let f = form_beside x (side_without s x.side) in
    let g = byte_of D o s f x x.what x.value in
    let w = one_within s x.side e h in
    let last = (a.each x i).fits.last in
    record {
      each = λ y j.
          let r = one_of g 0 (size_of k.model x.what) y j in
          subst (IsCell k.model) (sym r.is) (byte_cell k.model s x.block (x.offset + r.place) (g r.place) (byte_is D
          o s f
          x x.what x.value r.place) (omega (arith, last, r.high)));
      pairs = apart_misses k.model (bytes_of_x D k s x) (bytes_pairs k.model s x.block x.offset g 0 (size_of k.model
          x.what) (λ j. byte_is D o s f x x.what x.value j));
      forms = λ y j.
          let r = one_of g 0 (size_of k.model x.what) y j in
          subst (HasForm (rest_of s x ++ cs)) (sym r.is) (byte_has_form D k.model o (rest_of s x ++ cs) s f x x x.what
          x.value r.place refl refl (omega (arith, r.high)) (beside_fits cs x (side_without s x.side) (a.forms x i)));
      sided = λ z y j q. after_sided k.model s x z y (after_split k.model s x z y cs a.pairs i j q);
      own = λ z j. own_by k.model s z (is_same_cell z x);
      away = λ c z y j l q.
          let r = one_of g 0 (size_of k.model x.what) c j in
          byte_away k.model s x z y c r.place w (omega (arith, r.high)) (subst (IsByteCell s x.block (x.offset +
          r.place))
          (sym r.is) (byte_is D o s f x x.what x.value r.place)) (after_split k.model s x z y cs a.pairs i l q);
      fates = λ c d t q. there_of s x cs (bytes_of_x D k s x) c d t h i q (old_or_rest s x cs t.cell t.is_in);
    }

pub split_cell_cells : {N : Type 0} (D : Ops N) (k : Known N) (s : Side) (x : Cell N) (cs : List (Cell N))
    → AreCells k.model cs → IsIn x cs → is_same_side s Shared ≡ false → share_memory s x.side ≡ true
    → AreCells k.model (split_cell D k s x cs)
split_cell_cells D k s x cs a i e h =
    step_cells k.model (rest_of s x) cs (bytes_of_x D k s x) (left_by_split s x) (fate_by_split s x) a (split_step D
    k s x
    cs a i e h)

-- ---- and that it holds

pub keeps_of : {N : Type 0} (D : Ops N) (os : Order × Order) (d : Model) (m n : Memories) (s : Side) (x : Cell N) (cs : List
    (Cell N)) (c e : CellName) (t : IsThere c (rest_of s x ++ cs)) → AreCells d cs → IsIn x cs
    → share_memory s x.side ≡ true → Within s x.side → AreRewritten (at s x.block x.offset (size_of d x.what)) m n
    → ((y : Cell N) → IsIn y cs → Says D os d m y) → fate_by_split s x c ≡ Some e → IsOldOrRest s x cs t.cell
    → numbers_of os n e ≡ numbers_of os m c
keeps_of D os d m n s x cs c e t a i h w r says f (old j) =
    let g = follows_split s x t.cell c e t.named f in
    let y = record t.cell { side = g.side } in
    let k = after_kept D os d s x t.cell y m n w r (after_split d s x t.cell y cs a.pairs i j g.is_in) in
    keeps_kept D os d m n t.cell y c e k (a.each t.cell j).fits t.sure (says t.cell j) refl t.named g.named
keeps_of {N = N} D os d m n s x cs c e t a i h w r says f (stays q is o l) =
    let y : Cell N = record x { side = q } in
    let named : IsNamed c (record x { side = q }) = subst (IsNamed c) is t.named in
    let same = rest_stays s q x c e h l named f in
    let p = at s x.block x.offset (size_of d x.what) in
    let sure : x.maybe ≡ false = sym (ap (λ z. z.maybe) is) ∙ t.sure in
    let here : IsRest s q q = record { left = l.left; right = l.right; within = within_itself q; apart = l.apart } in
    let k : IsKept D os d m n y y = kept_rest D os d m n p y q r here in
    let same_memories : AreRewritten p m m = record {
      left = record { elsewhere = λ b j g. refl };
      right = record { elsewhere = λ b j g. refl };
    } in
    let old_says : Says D os d m y = kept_says D os d m m x y (kept_rest D os d m m p x q same_memories l) (says x i) in
    let fits = (a.each x i).fits in
    keeps_kept D os d m n y y c e k (record { sort = fits.sort; undefined = fits.undefined; last = fits.last }) sure
    old_says refl named (subst (λ b. IsNamed b (record x { side = q })) same named)

pub split_cell_holds : {N : Type 0} (D : Ops N) → Lawful D → (k : Known N) (s : Side) (x : Cell N) (cs : List (Cell
    N)) (m
    n : Memories) → AreCells k.model cs → IsIn x cs → is_same_side s Shared ≡ false → share_memory s x.side ≡ true
    → IsLoosened k.model s x m n → In D (record k { cells = cs }) m
    → In D (record k { cells = split_cell D k s x cs }) n
split_cell_holds D law k s x cs m n a i e h l q =
    let d = k.model in
    let os = k.orders in
    let o = order_on s k.orders in
    let f = form_beside x (side_without s x.side) in
    let g = byte_of D o s f x x.what x.value in
    let w = one_within s x.side e h in
    let says = q.cells x i in
    let form = a.forms x i in
    let bytes = on_one (λ p y. HasBytes p y (size_of k.model x.what) x.what x.maybe x.block x.offset says.datum) os m s
    x.side e h says.stands.left says.stands.right in
    step_holds D os d m n (rest_of s x) cs (bytes_of_x D k s x) (left_by_split s x) (fate_by_split s x) a
    (split_step D k
    s x cs a i e h) q
    (record {
      says = λ y j.
          let r = one_of g 0 (size_of k.model x.what) y j in
          subst (Says D os d n) (sym r.is)
          (says_on_side D os d n s (g r.place) e (ap (λ z. z.side) (byte_is D o s f x x.what x.value r.place).is)
          (byte_says D law d o (memory_on s m) (memory_on s n) s f x x.what x.value says.datum r.place says.allowed
          bytes
          (omega (arith, r.high)) (l.bytes r.place (omega (arith, r.high)))));
      numbers = λ y j.
          let r = one_of g 0 (size_of k.model x.what) y j in
          subst (λ z. IfSome z.form (λ ss. HasNumber os n z z.what (form_number (numbers_of os m) ss))) (sym r.is)
          (byte_numbers D d os m n (rest_of s x ++ cs) s f x x x.what x.value says.datum r.place e refl refl
          says.allowed
          bytes (omega (arith, r.high)) (l.bytes r.place (omega (arith, r.high))) (beside_fits cs x (side_without s
          x.side) form) (beside_says D os d m cs s x says.datum says.allowed says.stands form (q.forms x i)));
      kept = λ z y j b. after_kept D os d s x z y m n w l.rewritten (after_split d s x z y cs a.pairs i j b);
      keeps = λ c b t y. keeps_of D os d m n s x cs c b t a i h w l.rewritten q.cells y (old_or_rest s x cs t.cell
          t.is_in);
    })
