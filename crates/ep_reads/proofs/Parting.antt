-- Shared cells are parted where a test holds.
use Rattle.std.proofs.Common.{◌≡◌, ℕ, Bool, true, false, ◌&&◌, ◌||◌, cond, List, [], ◌∷◌, ◌++◌, map, Option, Some}
use Rattle.ep_reads.proofs.Parted.{facing_pairs_by, facing_sided_by}
use Rattle.std.proofs.Common.{refl, sym, ◌∙◌, ap, subst}
use Rattle.std.specs.List.{list_any}
use Rattle.ep_int.specs.declared.types.Model.{Model}
use Rattle.ep_int.specs.declared.types.Scalar.{Scalar}
use Rattle.ep_int.specs.declared.types.Scalar.TheVariants.{Int}
use Rattle.ep_int.specs.Types.{size_of}
use Rattle.ep_bitslice.specs.declared.cell.CellName.{CellName}
use Rattle.ep_bitslice.specs.declared.cell.Side.{Side}
use Rattle.ep_bitslice.specs.declared.cell.Side.TheVariants.{Left, Right, Shared}
use Rattle.ep_cells.specs.declared.cell.Cell.{Cell}
use Rattle.ep_cells.specs.declared.place.ByteRange.{ByteRange}
use Rattle.ep_cells.specs.Cells.{place_of, meets, is_same_side, IsNamed, IsIn, first, later, put_all, each_becomes}
use Rattle.ep_cells.specs.Cells.{parts_on, parts_of}
use Rattle.ep_cells.specs.Forms.{reformed}
use Rattle.ep_cells.specs.States.{IsThere, EachPair, AreApart, AreCells}
use Rattle.ep_cells.proofs.Lists.{each_in}
use Rattle.ep_reads.specs.Unify.{is_of_one_side, left_by_facing, fate_by_facing, parted}
use Rattle.ep_reads.proofs.Steps.{left_pairs}
use Rattle.ep_reads.proofs.Same.{GoesTo, IsSameStep}
use Rattle.ep_reads.proofs.Parted.{put_sorted, parts_go, stays_to}
use Rattle.ep_reads.specs.StepLaws.{Agree}
use Rattle.ep_reads.specs.Single.{changed_cells, Spots, parts_where, left_where, name_where, fate_where}
use Rattle.ep_reads.specs.Single.{parted_where, facing, either}
use Rattle.ep_reads.proofs.Composed.{then_fate, changed_twice, same_changes, reformed_same, same_step_cells}

-- ---- one after the other

left_twice : {N : Type 0} (P Q : Spots) (x : Cell N) (s : Side) → x.side ≡ s
    → each_becomes (left_where Q) (parts_where P x s) ≡ parts_where (either P Q) x s
left_twice P Q x Left e = ap (λ t. parts_where Q x t ++ []) e
left_twice P Q x Right e = ap (λ t. parts_where Q x t ++ []) e
left_twice {N = N} P Q x Shared e = by (P x.block x.offset x.what) (Q x.block x.offset x.what) refl
  where
    parts : List (Cell N)
    parts = record x { side = Left } ∷ record x { side = Right } ∷ []

    by : (p q : Bool) → Q x.block x.offset x.what ≡ q
        → each_becomes (left_where Q) (cond p parts (x ∷ [])) ≡ cond (p || q) parts (x ∷ [])
    by true q f = refl
    by false true f = ap (λ t. parts_where Q x t ++ []) e ∙ ap (λ b. cond b parts (x ∷ []) ++ []) f
    by false false f = ap (λ t. parts_where Q x t ++ []) e ∙ ap (λ b. cond b parts (x ∷ []) ++ []) f

name_twice : (P Q : Spots) (n : CellName) (s : Side) → n.side ≡ s
    → fate_where Q (name_where P n s) ≡ Some (name_where (either P Q) n s)
name_twice P Q n Left e = ap (λ t. Some (name_where Q n t)) e
name_twice P Q n Right e = ap (λ t. Some (name_where Q n t)) e
name_twice P Q n Shared e = by (P n.block n.offset (Int n.t)) (Q n.block n.offset (Int n.t)) refl
  where
    l : CellName
    l = record n { side = Left }

    by : (p q : Bool) → Q n.block n.offset (Int n.t) ≡ q
        → fate_where Q (cond p l n) ≡ Some (cond (p || q) l n)
    by true q f = refl
    by false true f = ap (λ t. Some (name_where Q n t)) e ∙ ap (λ b. Some (cond b l n)) f
    by false false f = ap (λ t. Some (name_where Q n t)) e ∙ ap (λ b. Some (cond b l n)) f

blind : {N : Type 0} (Q : Spots) (f : CellName → Option CellName) (c : Cell N) (s : Side)
    → parts_where Q (reformed f c) s ≡ map (reformed f) (parts_where Q c s)
blind Q f c Left = refl
blind Q f c Right = refl
blind {N = N} Q f c Shared = by (Q c.block c.offset c.what)
  where
    by : (b : Bool) → (let l : List (Cell N) = record (reformed f c) { side = Left } ∷ record (reformed f c) {
      side = Right;
    } ∷ [] in cond b l (reformed f c ∷ [])) ≡ map (reformed f) (cond b (record c { side = Left } ∷ record c {
      side = Right;
    } ∷ []) (c ∷ []))
    by true = refl
    by false = refl

pub parted_twice : {N : Type 0} (P Q : Spots) (cs : List (Cell N))
    → parted_where Q (parted_where P cs) ≡ parted_where (either P Q) cs
parted_twice P Q cs =
    changed_twice (left_where P) (left_where Q) (fate_where P) (fate_where Q) cs (λ c. blind Q (fate_where P) c c.side)
    ∙ same_changes (λ c. each_becomes (left_where Q) (left_where P c)) (left_where (either P Q))
    (then_fate (fate_where P) (fate_where Q)) (fate_where (either P Q)) cs (λ x i. left_twice P Q x x.side refl)
    (λ x y i j. ap (λ f. reformed f y) (λ m n. name_twice P Q n n.side refl m))

-- ---- the same where tests say the same of Shared cells that are there

part_form : {N : Type 0} (P : Spots) (x y : Cell N) (s : Side) → IsIn y (parts_where P x s) → y.form ≡ x.form
part_form P x _ Left (first _) = refl
part_form P x y Left (later _ _ h) = elim h [ ]
part_form P x _ Right (first _) = refl
part_form P x y Right (later _ _ h) = elim h [ ]
part_form {N = N} P x y Shared h = by (P x.block x.offset x.what) y h
  where
    by : (b : Bool) (z : Cell N) → IsIn z (cond b (record x { side = Left } ∷ record x { side = Right } ∷ []) (x ∷ []))
        → z.form ≡ x.form
    by true _ (first _) = refl
    by true _ (later _ _ (first _)) = refl
    by true z (later _ _ (later _ _ k)) = elim k [ ]
    by false _ (first _) = refl
    by false z (later _ _ k) = elim k [ ]

-- tests that agree
parts_agree : {N : Type 0} (P Q : Spots) (x : Cell N) (s : Side) → x.side ≡ s
    → (x.side ≡ Shared → P x.block x.offset x.what ≡ Q x.block x.offset x.what)
    → parts_where P x s ≡ parts_where Q x s
parts_agree P Q x Left e h = refl
parts_agree P Q x Right e h = refl
parts_agree P Q x Shared e h = ap (λ b. cond b (record x { side = Left } ∷ record x { side = Right } ∷ []) (x ∷ []))
    (h e)

names_agree : {N : Type 0} (P Q : Spots) (cs : List (Cell N)) (n : CellName) (s : Side) → n.side ≡ s
    → Agree P Q cs → IsThere n cs → name_where P n s ≡ name_where Q n s
names_agree P Q cs n Left e h t = refl
names_agree P Q cs n Right e h t = refl
names_agree P Q cs n Shared e h t =
    ap (λ b. cond b (record n { side = Left }) n)
    (sym (at P) ∙ h t.cell t.is_in (t.named.side ∙ e) ∙ at Q)
  where
    at : (R : Spots) → R t.cell.block t.cell.offset t.cell.what ≡ R n.block n.offset (Int n.t)
    at R =
        ap (λ (b : ℕ). R b t.cell.offset t.cell.what) t.named.block
        ∙ ap (λ (q : ℕ). R n.block q t.cell.what) t.named.offset
        ∙ ap (λ (w : Scalar). R n.block n.offset w) t.named.what

pub parted_same : {N : Type 0} (d : Model) (P Q : Spots) (cs : List (Cell N)) → AreCells d cs → Agree P Q cs
    → parted_where P cs ≡ parted_where Q cs
parted_same d P Q cs a h =
    same_changes (left_where P) (left_where Q) (fate_where P) (fate_where Q) cs
    (λ x i. parts_agree P Q x x.side refl (h x i))
    (λ x y i j. reformed_same (fate_where P) (fate_where Q) cs x y (a.forms x i) (part_form Q x y x.side j)
    (λ n t. ap Some (names_agree P Q cs n n.side refl h t)))

-- ---- what is left is a state's

parts_are : {N : Type 0} (P : Spots) (x : Cell N) (s : Side) → x.side ≡ s → (b : Bool)
    → cond (is_same_side s Shared && P x.block x.offset x.what) true false ≡ b
    → parts_where P x s ≡ cond b (parts_of x) (x ∷ [])
parts_are P x Left e true h = absurd (let c : false ≡ true = h in cc)
parts_are P x Left e false h = refl
parts_are P x Right e true h = absurd (let c : false ≡ true = h in cc)
parts_are P x Right e false h = refl
parts_are {N = N} P x Shared e b h = by (P x.block x.offset x.what) b h ∙ ap (λ t. cond b (parts_on x t) (x ∷ []))
    (sym e)
  where
    by : (p c : Bool) → cond p true false ≡ c → cond p (record x { side = Left } ∷ record x { side = Right } ∷ []) (x ∷
        []) ≡ cond c (parts_on x Shared) (x ∷ [])
    by true true f = refl
    by true false f = absurd (let c : true ≡ false = f in cc)
    by false true f = absurd (let c : false ≡ true = f in cc)
    by false false f = refl

abbrev is_at : {N : Type 0} → Spots → Cell N → Bool
is_at P x = cond (is_same_side x.side Shared && P x.block x.offset x.what) true false

part_is : {N : Type 0} (P : Spots) (x : Cell N) → left_where P x ≡ cond (is_at P x) (parts_of x) (x ∷ [])
part_is P x = parts_are P x x.side refl (is_at P x) refl

name_goes : {N : Type 0} (P : Spots) (z : Cell N) (c e : CellName) (l : List (Cell N)) (s : Side) → c.side ≡ s
    → IsNamed c z → ((y : Cell N) → IsIn y (parts_where P z s) → IsIn y l) → Some (name_where P c s) ≡ Some e
    → GoesTo z l e
name_goes P z c e l Left f n h g = stays_to z c e l n (let i : Some c ≡ Some e = g in cc) (h z (first []))
name_goes P z c e l Right f n h g = stays_to z c e l n (let i : Some c ≡ Some e = g in cc) (h z (first []))
name_goes {N = N} P z c e l Shared f n h g =
    by (P z.block z.offset z.what) refl (ap (λ b. Some (cond b (record c { side = Left }) c)) at ∙ g)
  where
    at : P z.block z.offset z.what ≡ P c.block c.offset (Int c.t)
    at =
        ap (λ (b : ℕ). P b z.offset z.what) n.block
        ∙ ap (λ (q : ℕ). P c.block q z.what) n.offset
        ∙ ap (λ (w : Scalar). P c.block c.offset w) n.what

    parts : Bool → List (Cell N)
    parts b = cond b (record z { side = Left } ∷ record z { side = Right } ∷ []) (z ∷ [])

    by : (b : Bool) → P z.block z.offset z.what ≡ b → Some (cond b (record c { side = Left }) c) ≡ Some e → GoesTo z l e
    by true q i =
        let is : record c { side = Left } ≡ e = let j : Some (record c { side = Left }) ≡ Some e = i in cc in
        let shared : z.side ≡ Shared = n.side ∙ f in
        subst (GoesTo z l) is
        (parts_go z c l n shared (λ y j. h y (subst (λ t. IsIn y (parts t)) (sym q) (subst (λ (t : Side). IsIn y
        (parts_on z t)) shared j))))
    by false q i =
        stays_to z c e l n (let j : Some c ≡ Some e = i in cc)
        (h z (subst (λ t. IsIn z (parts t)) (sym q) (first [])))

where_step : {N : Type 0} (d : Model) (P : Spots) (cs : List (Cell N))
    → IsSameStep d cs [] (left_where P) (fate_where P)
where_step d P cs = record {
  each = λ y h. elim h [ ];
  pairs = tt;
  forms = λ y h. elim h [ ];
  sided = λ x y i h. facing_sided_by x y (is_at P x) (subst (IsIn y) (part_is P x) h);
  own = λ x i. subst (EachPair (AreApart d)) (sym (part_is P x)) (facing_pairs_by d x (is_at P x));
  away = λ c x y h i j. elim h [ ];
  goes = λ z c e i n f. name_goes P z c e (each_becomes (left_where P) cs) c.side refl n
      (λ y j. each_in (left_where P) z y cs i (subst (λ (t : Side). IsIn y (parts_where P z t)) (sym n.side) j)) f;
}

pub where_cells : {N : Type 0} (d : Model) (P : Spots) (cs : List (Cell N)) → AreCells d cs
    → AreCells d (parted_where P cs)
where_cells d P cs a =
    same_step_cells d cs (left_where P) (fate_where P) a (where_step d P cs)

-- ---- what faces cells of one side

facing_left : {N : Type 0} (d : Model) (ys : List (Cell N)) (x : Cell N) (s : Side)
    → cond (is_same_side s Shared && list_any (λ (y : Cell N). is_of_one_side y && meets (let p : ByteRange = record {
      side = s;
      block = x.block;
      offset = x.offset;
      bytes = size_of d x.what;
    } in p) (place_of d y)) ys) (parts_on x s) (x ∷ []) ≡ parts_where (facing d ys) x s
facing_left d ys x Left = refl
facing_left d ys x Right = refl
facing_left d ys x Shared = refl

facing_name : {N : Type 0} (d : Model) (ys : List (Cell N)) (n : CellName) (s : Side)
    → cond (is_same_side s Shared && list_any (λ (y : Cell N). is_of_one_side y && meets (let p : ByteRange = record {
      side = s;
      block = n.block;
      offset = n.offset;
      bytes = size_of d (Int n.t);
    } in p) (place_of d y)) ys) (record n { side = Left }) n ≡ name_where (facing d ys) n s
facing_name d ys n Left = refl
facing_name d ys n Right = refl
facing_name d ys n Shared = refl

facing_changes : {N : Type 0} (d : Model) (ys cs : List (Cell N))
    → changed_cells (left_by_facing d ys) (fate_by_facing d ys) cs ≡ parted_where (facing d ys) cs
facing_changes d ys cs =
    same_changes (left_by_facing d ys) (left_where (facing d ys)) (fate_by_facing d ys) (fate_where (facing d ys)) cs
    (λ x i. facing_left d ys x x.side)
    (λ x y i j. ap (λ f. reformed f y) (λ m n. Some (facing_name d ys n n.side m)))

pub parted_is : {N : Type 0} (d : Model) (ys cs : List (Cell N)) → AreCells d cs
    → parted d ys cs ≡ parted_where (facing d ys) cs
parted_is d ys cs a =
    ap (map (reformed (fate_by_facing d ys)))
    (ap (λ l. put_all l []) same
    ∙ put_sorted d (each_becomes (left_where (facing d ys)) cs) (left_pairs d (left_where
    (facing d ys)) cs a.pairs s.own
    s.sided)
    ∙ sym same)
    ∙ facing_changes d ys cs
  where
    s : IsSameStep d cs [] (left_where (facing d ys)) (fate_where (facing d ys))
    s = where_step d (facing d ys) cs

    same : each_becomes (left_by_facing d ys) cs ≡ each_becomes (left_where (facing d ys)) cs
    same = ap (λ g. each_becomes g cs) (λ m x. facing_left d ys x x.side m)
