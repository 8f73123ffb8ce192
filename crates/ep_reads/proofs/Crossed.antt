-- Cells that overlap others and aren't alike are split on their sides, or are gone.
use Rattle.std.proofs.Common.{◌≡◌, ℕ, ◌+◌, ◌<◌, Bool, true, false, not, if◌then◌else◌, cond, List, [], ◌∷◌, ⊎_elim}
use Rattle.ep_cells.proofs.Reshare.{own_by}
use Rattle.std.proofs.Common.{Option, Some, None, IfSome, refl, sym, ◌∙◌, ap, subst, arith}
use Rattle.std.specs.Option.{option_map_or}
use Rattle.std.specs.List.{filter}
use Rattle.std.proofs.lemmas.Bool.{and_left, and_right, and_cases}
use Rattle.ep_int.specs.declared.types.IntType.{IntType}
use Rattle.ep_int.specs.declared.types.IntType.TheVariants.{I8, U8, I16, U16, I32, U32, I64, U64}
use Rattle.ep_int.specs.declared.types.Model.{Model}
use Rattle.ep_int.specs.declared.types.Scalar.{Scalar}
use Rattle.ep_int.specs.declared.types.Scalar.TheVariants.{Int, Pointer}
use Rattle.ep_int.specs.Types.{size_of}
use Rattle.ep_bitslice.specs.declared.cell.Side.{Side}
use Rattle.ep_bitslice.specs.declared.cell.Side.TheVariants.{Left, Right, Shared}
use Rattle.ep_bitslice.specs.declared.cell.CellName.{CellName}
use Rattle.ep_bitslice.specs.Segments.{number}
use Rattle.ep_domain.specs.Domain.{Ops, Lawful}
use Rattle.ep_cells.specs.declared.cell.Cell.{Cell}
use Rattle.ep_cells.specs.Cells.{share_memory, place_of, touches, meets, is_same_side, is_same_cell, IsNamed, IsIn}
use Rattle.ep_cells.specs.Cells.{first, later, put_all, each_becomes, parts_on, parts_of}
use Rattle.ep_cells.specs.Both.{cell_like}
use Rattle.ep_cells.specs.States.{Known, HasForm, EachPair, IsCell, AreCells}
use Rattle.ep_cells.specs.Meaning.{Memories, Allows, HasBytes, Says, numbers_of, HasNumber, FormSays}
use Rattle.ep_cells.proofs.Lists.{in_each, each_in, put_there, put_keeps, put_all_keeps, each_at, pairs_append}
use Rattle.ep_cells.proofs.Places.{within_itself, apart_within, share_itself, meets_sym}
use Rattle.ep_cells.proofs.Changes.{kept_says}
use Rattle.ep_cells.proofs.Write.{numbers_kept}
use Rattle.ep_cells.proofs.Both.{alike_same, only_one}
use Rattle.ep_reads.specs.Bytes.{order_on}
use Rattle.ep_reads.specs.Split.{byte_of, is_name_of}
use Rattle.ep_reads.specs.Unify.{is_of_one_side, is_byte, bytes_on, crossed_parts, left_by_crossing, fate_by_crossing}
use Rattle.ep_reads.specs.Unify.{crossed_cell, crossed_like, crossed_all, is_crossed, uncrossed}
use Rattle.ep_reads.specs.Laws.{memory_on}
use Rattle.ep_reads.proofs.Sides.{on_one, inside_apart, others_apart, named_same}
use Rattle.ep_reads.proofs.Steps.{IsSided, sided_cell, form_more, Misses, apart_misses}
use Rattle.ep_reads.proofs.ByteCells.{IsByteCell, byte_is, byte_cell, IsLoose, integer_loose, byte_says}
use Rattle.ep_reads.proofs.ByteCells.{says_on_side, byte_has_form, byte_numbers, one_of, bytes_pairs}
use Rattle.ep_reads.proofs.OneSplit.{stored_says, in_range_by}
use Rattle.ep_reads.proofs.Splits.{first_like}
use Rattle.ep_reads.proofs.Same.{Keeps, keeps_same, keeps_trans, sided_kept, GoesTo, IsSameStep, same_step_keeps}
use Rattle.ep_reads.proofs.Parted.{parts_sided, parts_pairs, on_left_side, parts_go, stays_to}

-- ---- what takes the place of a cell

-- one of its parts, which is of one side
pub record IsOnePart {N : Type 0} (x z : Cell N) : Type 0 where
  pub sided : IsSided x z
  pub one : is_same_side z.side Shared ≡ false

one_part_on : {N : Type 0} (x z : Cell N) (q : Side) → x.side ≡ q → IsIn z (parts_on x q)
    → is_same_side z.side Shared ≡ false
one_part_on x _ Left e (first _) = ap (λ (s : Side). is_same_side s Shared) e
one_part_on x z Left e (later _ _ h) = elim h [ ]
one_part_on x _ Right e (first _) = ap (λ (s : Side). is_same_side s Shared) e
one_part_on x z Right e (later _ _ h) = elim h [ ]
one_part_on x _ Shared e (first _) = refl
one_part_on x _ Shared e (later _ _ (first _)) = refl
one_part_on x z Shared e (later _ _ (later _ _ h)) = elim h [ ]

one_part : {N : Type 0} (x z : Cell N) → IsIn z (parts_of x) → IsOnePart x z
one_part x z h = record { sided = parts_sided x z h; one = one_part_on x z x.side refl h }

-- a part of a byte, or a byte of a part
pub data Replaces {N : Type 0} (D : Ops N) (k : Known N) (x y : Cell N) : Type 0 where
  part : IsSided x y → Replaces D k x y
  byte : (z : Cell N) (t : IntType) (j : ℕ) → x.what ≡ Int t → IsOnePart x z → j < size_of k.model z.what
      → y ≡ byte_of D (order_on z.side k.orders) z.side z.form z z.what z.value j → Replaces D k x y

replaces_by : {N : Type 0} (D : Ops N) (k : Known N) (x y : Cell N) (t : IntType) (b : Bool) → x.what ≡ Int t
    → IsIn y (cond b (parts_of x) (each_becomes (bytes_on D k) (parts_of x))) → Replaces D k x y
replaces_by D k x y t true w h = part (parts_sided x y h)
replaces_by D k x y t false w h =
    let r = in_each (bytes_on D k) y (parts_of x) h in
    let z = r.origin in
    let o = one_of (byte_of D (order_on z.side k.orders) z.side z.form z z.what z.value) 0 (size_of k.model z.what) y
    r.becomes in
    byte z t o.place w (one_part x z r.is_in) (omega (arith, o.high)) o.is

pub replaces : {N : Type 0} (D : Ops N) (k : Known N) (x y : Cell N) (w : Scalar) → x.what ≡ w
    → IsIn y (crossed_parts D k x w) → Replaces D k x y
replaces D k x y Pointer e h = elim h [ ]
replaces D k x y (Int t) e h = replaces_by D k x y t (is_byte (Int t)) e h

-- ---- they are cells

replaced_cell : {N : Type 0} (D : Ops N) (k : Known N) (x y : Cell N) → Replaces D k x y → IsCell k.model x
    → IsCell k.model y
replaced_cell D k x y (part s) c = sided_cell k.model x y s c
replaced_cell D k x y (byte z t j w p l e) c =
    let last = (sided_cell k.model x z p.sided c).fits.last in
    subst (IsCell k.model) (sym e)
    (byte_cell k.model z.side z.block (z.offset + j) (byte_of D (order_on z.side k.orders) z.side z.form z z.what
    z.value
    j) (byte_is D (order_on z.side k.orders) z.side z.form z z.what z.value j) (omega (arith, last, l)))

sided_form_of : {N : Type 0} (cs : List (Cell N)) (x y : Cell N) → IsSided x y → HasForm cs x → HasForm cs y
sided_form_of cs x y s h = subst (HasForm cs) (sym s.is) (form_more [] cs x s.side x.form h)

replaced_form : {N : Type 0} (D : Ops N) (k : Known N) (cs : List (Cell N)) (x y : Cell N) → Replaces D k x y
    → HasForm cs x → HasForm cs y
replaced_form D k cs x y (part s) h = sided_form_of cs x y s h
replaced_form D k cs x y (byte z t j w p l e) h =
    subst (HasForm cs) (sym e)
    (byte_has_form D k.model (order_on z.side k.orders) cs z.side z.form z z z.what z.value j refl refl l (sided_form_of
    cs x z p.sided h))

-- ---- and miss all others

sided_misses : {N : Type 0} (d : Model) (x y z : Cell N) → IsSided x y → meets (place_of d x) (place_of d z) ≡ false
    → meets (place_of d y) (place_of d z) ≡ false
sided_misses d x y z s e =
    subst (λ q. meets (place_of d q) (place_of d z) ≡ false) (sym s.is)
    (⊎_elim
    (λ f. and_left (share_memory s.side z.side) (touches (place_of d x) (place_of d z)) (apart_within s.side z.side
    x.side
    z.side s.within (within_itself z.side) f))
    (λ f. and_right (share_memory s.side z.side) (touches (place_of d x) (place_of d z)) f)
    (and_cases (share_memory x.side z.side) (touches (place_of d x) (place_of d z)) e))

byte_misses : {N : Type 0} (d : Model) (x y z : Cell N) (j : ℕ) → j < size_of d x.what
    → IsByteCell x.side x.block (x.offset + j) y → meets (place_of d x) (place_of d z) ≡ false
    → meets (place_of d y) (place_of d z) ≡ false
byte_misses d x y z j l b e =
    subst (λ q. meets (place_of d q) (place_of d z) ≡ false) (sym b.is)
    (inside_apart x.side z.side x.side x.block x.offset (size_of d x.what) z.block z.offset (size_of d z.what) j
    (within_itself x.side) l e)

replaced_misses : {N : Type 0} (D : Ops N) (k : Known N) (x y z : Cell N) → Replaces D k x y
    → meets (place_of k.model x) (place_of k.model z) ≡ false → meets (place_of k.model y) (place_of k.model z) ≡ false
replaced_misses D k x y z (part s) e = sided_misses k.model x y z s e
replaced_misses D k x y z (byte a t j w p l i) e =
    byte_misses k.model a y z j l
    (subst (IsByteCell a.side a.block (a.offset + j)) (sym i) (byte_is D (order_on a.side k.orders) a.side a.form a
    a.what
    a.value j)) (sided_misses k.model x a z p.sided e)

misses_sym : {N : Type 0} (d : Model) (x y : Cell N) → Misses d x y → Misses d y x
misses_sym d x y e =
    meets_sym x.side y.side x.block x.offset (size_of d x.what) y.block y.offset (size_of d y.what) e

-- bytes of two parts miss one another
bytes_miss : {N : Type 0} (D : Ops N) (k : Known N) (x z y c : Cell N) → Misses k.model x z → IsIn y (bytes_on D k x)
    → IsIn c (bytes_on D k z) → Misses k.model y c
bytes_miss D k x z y c e h i =
    let d = k.model in
    let g = byte_of D (order_on x.side k.orders) x.side x.form x x.what x.value in
    let f = byte_of D (order_on z.side k.orders) z.side z.form z z.what z.value in
    let o = one_of g 0 (size_of d x.what) y h in
    let q = one_of f 0 (size_of d z.what) c i in
    let b = subst (IsByteCell x.side x.block (x.offset + o.place)) (sym o.is) (byte_is D (order_on x.side k.orders)
    x.side
    x.form x x.what x.value o.place) in
    let a = subst (IsByteCell z.side z.block (z.offset + q.place)) (sym q.is) (byte_is D (order_on z.side k.orders)
    z.side
    z.form z z.what z.value q.place) in
    misses_sym d c y (byte_misses d z c y q.place (omega (arith, q.high)) a (misses_sym d y z (byte_misses d x y z
    o.place
    (omega (arith, o.high)) b e)))

own_bytes : {N : Type 0} (D : Ops N) (k : Known N) (z : Cell N) → EachPair (Misses k.model) (bytes_on D k z)
own_bytes D k z =
    let o = order_on z.side k.orders in
    let g = byte_of D o z.side z.form z z.what z.value in
    apart_misses k.model (bytes_on D k z) (bytes_pairs k.model z.side z.block z.offset g 0 (size_of k.model z.what)
    (λ j.
    byte_is D o z.side z.form z z.what z.value j))

bytes_of_parts : {N : Type 0} (D : Ops N) (k : Known N) (zs : List (Cell N)) → EachPair (Misses k.model) zs
    → EachPair (Misses k.model) (each_becomes (bytes_on D k) zs)
bytes_of_parts D k [] h = tt
bytes_of_parts D k (z ∷ zs) h =
    pairs_append (Misses k.model) (bytes_on D k z) (each_becomes (bytes_on D k) zs) (own_bytes D k z)
    (bytes_of_parts D k
    zs h.1)
    (λ y c i j.
    let r = in_each (bytes_on D k) c zs j in
    bytes_miss D k z r.origin y c (each_at (Misses k.model z) r.origin zs h.0 r.is_in) i r.becomes)

new_by : {N : Type 0} (D : Ops N) (k : Known N) (x : Cell N) (b : Bool)
    → EachPair (Misses k.model) (cond b (parts_of x) (each_becomes (bytes_on D k) (parts_of x)))
new_by D k x true = apart_misses k.model (parts_of x) (parts_pairs k.model x)
new_by D k x false = bytes_of_parts D k (parts_of x) (apart_misses k.model (parts_of x) (parts_pairs k.model x))

new_pairs : {N : Type 0} (D : Ops N) (k : Known N) (x : Cell N) (w : Scalar)
    → EachPair (Misses k.model) (crossed_parts D k x w)
new_pairs D k x Pointer = tt
new_pairs D k x (Int t) = new_by D k x (is_byte (Int t))

-- ---- what is left of other cells

record IsStill {N : Type 0} (x z y : Cell N) : Type 0 where
  is : y ≡ z
  other : is_same_cell z x ≡ false

still_by : {N : Type 0} (x z y : Cell N) (t : Bool) → is_same_cell z x ≡ t → IsIn y (cond t [] (z ∷ []))
    → IsStill x z y
still_by x z y true e h = elim h [ ]
still_by x z _ false e (first _) = record { is = refl; other = e }
still_by x z y false e (later _ _ h) = elim h [ ]

-- ---- names

byte_is_u8 : (w : Scalar) → is_byte w ≡ true → w ≡ Int U8
byte_is_u8 (Int I8) h = absurd (let c : false ≡ true = h in cc)
byte_is_u8 (Int U8) h = refl
byte_is_u8 (Int I16) h = absurd (let c : false ≡ true = h in cc)
byte_is_u8 (Int U16) h = absurd (let c : false ≡ true = h in cc)
byte_is_u8 (Int I32) h = absurd (let c : false ≡ true = h in cc)
byte_is_u8 (Int U32) h = absurd (let c : false ≡ true = h in cc)
byte_is_u8 (Int I64) h = absurd (let c : false ≡ true = h in cc)
byte_is_u8 (Int U64) h = absurd (let c : false ≡ true = h in cc)
byte_is_u8 Pointer h = absurd (let c : false ≡ true = h in cc)

-- parts of a byte take its place
parts_there : {N : Type 0} (D : Ops N) (k : Known N) (x y : Cell N) → is_byte x.what ≡ true → IsIn y (parts_of x)
    → IsIn y (crossed_parts D k x x.what)
parts_there D k x y h i =
    subst (λ w. IsIn y (crossed_parts D k x w)) (sym (byte_is_u8 x.what h)) i

byte_goes_by : {N : Type 0} (x : Cell N) (c e : CellName) (l : List (Cell N)) (q : Side) → x.side ≡ q → IsNamed c x
    → ((y : Cell N) → IsIn y (parts_on x q) → IsIn y l)
    → Some (cond (not (is_same_side q Shared)) c (on_left_side c)) ≡ Some e → GoesTo x l e
byte_goes_by x c e l Left s n h f = stays_to x c e l n (let i : Some c ≡ Some e = f in cc) (h x (first []))
byte_goes_by x c e l Right s n h f = stays_to x c e l n (let i : Some c ≡ Some e = f in cc) (h x (first []))
byte_goes_by {N = N} x c e l Shared s n h f =
    let is : on_left_side c ≡ e = let i : Some (on_left_side c) ≡ Some e = f in cc in
    subst (GoesTo x l) is (parts_go x c l n s (λ y i. h y (subst (λ (q : Side). IsIn y (parts_on x q)) s i)))

put_all_has : {N : Type 0} (more : List (Cell N)) (y : Cell N) (cs : List (Cell N)) → IsIn y more
    → IsIn y (put_all more cs)
put_all_has [] y cs h = elim h [ ]
put_all_has (_ ∷ more) y cs (first _) = put_there y (put_all more cs)
put_all_has (c ∷ more) y cs (later _ _ h) = put_keeps c y (put_all more cs) (put_all_has more y cs h)

abbrev after_crossing : {N : Type 0} → Ops N → Known N → Cell N → List (Cell N) → List (Cell N)
after_crossing D k x cs = put_all (crossed_parts D k x x.what) (each_becomes (left_by_crossing x) cs)

own_goes : {N : Type 0} (D : Ops N) (k : Known N) (x : Cell N) (cs : List (Cell N)) (c e : CellName) (t : Bool)
    → is_byte x.what ≡ t → IsNamed c x
    → cond t (Some (if is_of_one_side x then c else on_left_side c)) None ≡ Some e
    → GoesTo x (after_crossing D k x cs) e
own_goes D k x cs c e true b n f =
    byte_goes_by x c e (after_crossing D k x cs) x.side refl n
    (λ y i. put_all_has (crossed_parts D k x x.what) y (each_becomes (left_by_crossing x) cs) (parts_there D k x y b
    i)) f
own_goes D k x cs c e false b n f = absurd (cc)

crossing_goes : {N : Type 0} (D : Ops N) (k : Known N) (x z : Cell N) (cs : List (Cell N)) (c e : CellName) (t : Bool)
    → AreCells k.model cs → IsIn x cs → IsIn z cs → IsNamed c z → is_name_of c x ≡ t
    → cond t (if is_byte x.what then Some (if is_of_one_side x then c else on_left_side c) else None) (Some c) ≡ Some e
    → GoesTo z (after_crossing D k x cs) e
crossing_goes D k x z cs c e true a i j n h f =
    let one : z ≡ x = only_one k.model z x cs a.pairs j i (alike_same z x (named_same c z x n ∙ h)) in
    subst (λ y. GoesTo y (after_crossing D k x cs) e) (sym one)
    (own_goes D k x cs c e (is_byte x.what) refl (subst (IsNamed c) one n) f)
crossing_goes D k x z cs c e false a i j n h f =
    let is : c ≡ e = let q : Some c ≡ Some e = f in cc in
    let same : is_same_cell z x ≡ false = named_same c z x n ∙ h in
    stays_to z c e (after_crossing D k x cs) n is
    (put_all_keeps (crossed_parts D k x x.what) z (each_becomes (left_by_crossing x) cs)
    (each_in (left_by_crossing x) z z cs j (subst (λ b. IsIn z (cond b [] (z ∷ []))) (sym same) (first []))))

-- ---- the step

crossing_step : {N : Type 0} (D : Ops N) (k : Known N) (x : Cell N) (cs : List (Cell N)) → AreCells k.model cs
    → IsIn x cs → IsSameStep k.model cs (crossed_parts D k x x.what) (left_by_crossing x) (fate_by_crossing x)
crossing_step D k x cs a i = record {
  each = λ y j. replaced_cell D k x y (replaces D k x y x.what refl j) (a.each x i);
  pairs = new_pairs D k x x.what;
  forms = λ y j. replaced_form D k cs x y (replaces D k x y x.what refl j) (a.forms x i);
  sided = λ z y j h.
      let s = still_by x z y (is_same_cell z x) refl h in
      record { side = z.side; is = s.is; within = within_itself z.side };
  own = λ z j. own_by k.model z (is_same_cell z x);
  away = λ c z y j l h.
      let s = still_by x z y (is_same_cell z x) refl h in
      subst (λ q. meets (place_of k.model c) (place_of k.model q) ≡ false) (sym s.is)
      (replaced_misses D k x c z (replaces D k x c x.what refl j) (others_apart k.model x z cs a.pairs i l s.other));
  goes = λ z c e j n f. crossing_goes D k x z cs c e (is_name_of c x) a i j n refl f;
}

part_loose : {N : Type 0} (k : Known N) (x z : Cell N) (t : IntType) (m : Memories) (j : ℕ) → IsSided x z
    → x.what ≡ Int t
    → IsLoose z.what (memory_on z.side m z.block (z.offset + j)) (memory_on z.side m z.block (z.offset + j))
part_loose k x z t m j s w =
    let y = memory_on z.side m z.block (z.offset + j) in
    let is : z.what ≡ Int t = ap (λ c. c.what) s.is ∙ w in
    subst (λ q. IsLoose q (memory_on z.side m z.block (z.offset + j)) (memory_on z.side m z.block (z.offset + j))) (sym
    is) (integer_loose t y y refl)

replaced_says : {N : Type 0} (D : Ops N) → Lawful D → (k : Known N) (m : Memories) (x y : Cell N) → Replaces D k x y
    → Says D k.orders k.model m x → Says D k.orders k.model m y
replaced_says D law k m x y (part s) says =
    kept_says D k.orders k.model m m x y (sided_kept D k.orders k.model m x y s) says
replaced_says D law k m x y (byte z t j w p l e) says =
    let os = k.orders in
    let d = k.model in
    let o = order_on z.side k.orders in
    let q = kept_says D os d m m x z (sided_kept D os d m x z p.sided) says in
    let bytes = on_one (λ r n. HasBytes r n (size_of k.model z.what) z.what z.maybe z.block z.offset q.datum) os m
    z.side
    z.side p.one (share_itself z.side) q.stands.left q.stands.right in
    let b = byte_is D o z.side z.form z z.what z.value j in
    subst (Says D os d m) (sym e)
    (says_on_side D os d m z.side (byte_of D o z.side z.form z z.what z.value j) p.one (ap (λ c. c.side) b.is)
    (byte_says D law d o (memory_on z.side m) (memory_on z.side m) z.side z.form z z.what z.value q.datum j q.allowed
    bytes l (part_loose k x z t m j p.sided w)))

replaced_numbers : {N : Type 0} (D : Ops N) (k : Known N) (m : Memories) (cs : List (Cell N)) (x y : Cell N)
    → Replaces D k x y → IsCell k.model x → Says D k.orders k.model m x → HasForm cs x
    → IfSome x.form (FormSays k.orders m x)
    → IfSome y.form (λ ss. HasNumber k.orders m y y.what (number (numbers_of k.orders m) ss))
replaced_numbers D k m cs x y (part s) c says h f =
    numbers_kept D k.orders k.model m m cs x y s.side s.is (sided_kept D k.orders k.model m x y s) c.fits says h f
replaced_numbers D k m cs x y (byte z t j w p l e) c says h f =
    let os = k.orders in
    let d = k.model in
    let o = order_on z.side k.orders in
    let kept = sided_kept D os d m x z p.sided in
    let q = kept_says D os d m m x z kept says in
    let bytes = on_one (λ r n. HasBytes r n (size_of k.model z.what) z.what z.maybe z.block z.offset q.datum) os m
    z.side
    z.side p.one (share_itself z.side) q.stands.left q.stands.right in
    let form = sided_form_of cs x z p.sided h in
    let holds = numbers_kept D os d m m cs x z p.sided.side p.sided.is kept c.fits says h f in
    subst (λ b. IfSome b.form (λ ss. HasNumber os m b b.what (number (numbers_of os m) ss))) (sym e)
    (byte_numbers D d os m m cs z.side z.form z z z.what z.value q.datum j p.one refl refl q.allowed bytes l
    (part_loose k
    x z t m j p.sided w) form
    (λ i v is g. stored_says os d m cs z q.datum i v z.form is (in_range_by D z.what z.value z.maybe i v is (subst
    (Allows
    D z.what z.value z.maybe) g q.allowed)) g q.stands form holds))

pub crossed_keeps : {N : Type 0} (D : Ops N) → Lawful D → (k : Known N) (x : Cell N) (cs : List (Cell N))
    → AreCells k.model cs → IsIn x cs → Keeps D k cs (crossed_cell D k x cs)
crossed_keeps D law k x cs a i =
    same_step_keeps D k cs (crossed_parts D k x x.what) (left_by_crossing x) (fate_by_crossing x) a (crossing_step D k x
    cs a i)
    (λ m h y j. replaced_says D law k m x y (replaces D k x y x.what refl j) (h.cells x i))
    (λ m h y j. replaced_numbers D k m cs x y (replaces D k x y x.what refl j) (a.each x i) (h.cells x i) (a.forms x i)
    (h.forms x i))

-- ---- all of them

like_keeps : {N : Type 0} (D : Ops N) → Lawful D → (k : Known N) (x : Cell N) (cs : List (Cell N)) (o : Option (Cell N))
    → cell_like x cs ≡ o → AreCells k.model cs
    → Keeps D k cs (option_map_or (λ y. crossed_cell D k y cs) o cs)
like_keeps D law k x cs None e a = keeps_same D k cs a
like_keeps D law k x cs (Some y) e a = crossed_keeps D law k y cs a (first_like x cs y e).is_in

pub all_keep : {N : Type 0} (D : Ops N) → Lawful D → (k : Known N) (xs cs : List (Cell N)) → AreCells k.model cs
    → Keeps D k cs (crossed_all D k xs cs)
all_keep D law k [] cs a = keeps_same D k cs a
all_keep D law k (x ∷ xs) cs a =
    let p = like_keeps D law k x cs (cell_like x cs) refl a in
    keeps_trans D k cs (crossed_like D k x cs) (crossed_all D k (x ∷ xs) cs) p
    (all_keep D law k xs (crossed_like D k x cs) p.cells)

pub uncrossed_keeps : {N : Type 0} (D : Ops N) → Lawful D → (k : Known N) (ys cs : List (Cell N)) → AreCells k.model cs
    → Keeps D k cs (uncrossed D k ys cs)
uncrossed_keeps D law k ys cs a = all_keep D law k (filter (is_crossed k.model ys) cs) cs a
