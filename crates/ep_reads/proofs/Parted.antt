-- Shared cells that face cells of one side are parted.
use Rattle.std.proofs.Common.{◌≡◌, ℕ, zero, suc, Bool, true, false, ◌&&◌, cond, List, [], ◌∷◌, map, Some, refl, sym}
use Rattle.ep_cells.proofs.Weaken.{parts_pairs as parts_pairs_on}
use Rattle.std.proofs.Common.{◌∙◌, ap, subst}
use Rattle.std.specs.List.{list_any}
use Rattle.std.proofs.lemmas.Bool.{and_parts}
use Rattle.ep_int.specs.declared.types.Model.{Model}
use Rattle.ep_bitslice.specs.declared.cell.Side.{Side}
use Rattle.ep_bitslice.specs.declared.cell.Side.TheVariants.{Left, Right, Shared}
use Rattle.ep_bitslice.specs.declared.cell.CellName.{CellName}
use Rattle.ep_domain.specs.Domain.{Ops}
use Rattle.ep_cells.specs.declared.cell.Cell.{Cell}
use Rattle.ep_cells.specs.Cells.{place_of, place_of_name, meets, is_same_side, IsNamed, IsIn, first, later, put}
use Rattle.ep_cells.specs.Cells.{put_all, each_becomes, parts_on, parts_of}
use Rattle.ep_cells.specs.Forms.{reformed}
use Rattle.ep_cells.specs.States.{Known, Each, EachPair, AreApart, AreCells}
use Rattle.ep_cells.proofs.Lists.{each_in}
use Rattle.ep_cells.proofs.Places.{Within, within_itself, within_shared}
use Rattle.ep_cells.proofs.Parts.{part_is}
use Rattle.ep_cells.proofs.Write.{place_named}
use Rattle.ep_reads.specs.Unify.{is_of_one_side, faces, left_by_facing, fate_by_facing, parted, parted_times}
use Rattle.ep_reads.proofs.Sides.{side_same}
use Rattle.ep_reads.proofs.Steps.{IsSided, left_pairs}
use Rattle.ep_reads.proofs.Same.{Keeps, keeps_same, keeps_trans, GoesTo, IsSameStep, same_step_keeps}

-- ---- cells that are in order already

put_first : {N : Type 0} (d : Model) (c : Cell N) (cs : List (Cell N)) → Each (AreApart d c) cs → put c cs ≡ c ∷ cs
put_first d c [] h = refl
put_first d c (x ∷ cs) h = ap (λ t. cond t (c ∷ x ∷ cs) (x ∷ put c cs)) h.0.ordered

pub put_sorted : {N : Type 0} (d : Model) (cs : List (Cell N)) → EachPair (AreApart d) cs → put_all cs [] ≡ cs
put_sorted d [] h = refl
put_sorted d (c ∷ cs) h = ap (put c) (put_sorted d cs h.1) ∙ put_first d c cs h.0

-- ---- the parts of a cell

pub parts_sided : {N : Type 0} (x y : Cell N) → IsIn y (parts_of x) → IsSided x y
parts_sided x y h = let p = part_is x y h in record { side = p.side; is = p.is; within = p.within }

pub parts_pairs : {N : Type 0} (d : Model) (x : Cell N) → EachPair (AreApart d) (parts_of x)
parts_pairs d x = parts_pairs_on d x x.side

pub facing_sided_by : {N : Type 0} (x y : Cell N) (t : Bool) → IsIn y (cond t (parts_of x) (x ∷ [])) → IsSided x y
facing_sided_by x y true h = parts_sided x y h
facing_sided_by x _ false (first _) = record { side = x.side; is = refl; within = within_itself x.side }
facing_sided_by x y false (later _ _ h) = elim h [ ]

pub facing_pairs_by : {N : Type 0} (d : Model) (x : Cell N) (t : Bool) → EachPair (AreApart d) (cond t (parts_of x) (x ∷
    []))
facing_pairs_by d x true = parts_pairs d x
facing_pairs_by d x false = (tt, tt)

-- ---- names

abbrev pub on_left_side : CellName → CellName
on_left_side c = record c { side = Left }

-- a mention of a Shared cell goes on with its Left part
pub parts_go : {N : Type 0} (z : Cell N) (c : CellName) (l : List (Cell N)) → IsNamed c z → z.side ≡ Shared
    → ((y : Cell N) → IsIn y (parts_of z) → IsIn y l) → GoesTo z l (on_left_side c)
parts_go z c l n s h = record {
  side = Left;
  within = subst (Within Left) (sym s) (within_shared Left);
  is_in = h (record z { side = Left }) (subst (λ (q : Side). IsIn (record z { side = Left }) (parts_on z q)) (sym s)
      (first (record z { side = Right } ∷ [])));
  named = record { side = refl; block = n.block; offset = n.offset; what = n.what };
}

pub stays_to : {N : Type 0} (z : Cell N) (c e : CellName) (l : List (Cell N)) → IsNamed c z → c ≡ e → IsIn z l
    → GoesTo z l e
stays_to z c e l n is i = record {
  side = z.side;
  within = within_itself z.side;
  is_in = i;
  named = subst (λ b. IsNamed b z) is n;
}

facing_goes : {N : Type 0} (d : Model) (ys cs : List (Cell N)) (z : Cell N) (c e : CellName) (t : Bool)
    → faces d ys (place_of_name c) ≡ t → IsIn z cs → IsNamed c z → Some (cond t (on_left_side c) c) ≡ Some e
    → GoesTo z (each_becomes (left_by_facing d ys) cs) e
facing_goes d ys cs z c e true h i n f =
    let at : faces d ys (place_of d z) ≡ true = ap (faces d ys) (place_named d c z n) ∙ h in
    let shared : z.side ≡ Shared = side_same z.side Shared (and_parts (is_same_side z.side Shared) (list_any (λ y.
    is_of_one_side y && meets (place_of d z) (place_of d y)) ys) at).0 in
    let is : on_left_side c ≡ e = cc in
    subst (GoesTo z (each_becomes (left_by_facing d ys) cs)) is
    (parts_go z c (each_becomes (left_by_facing d ys) cs) n shared (λ y j. each_in (left_by_facing d ys) z y cs i (subst
    (λ b. IsIn y (cond b (parts_of z) (z ∷ []))) (sym at) j)))
facing_goes d ys cs z c e false h i n f =
    let at : faces d ys (place_of d z) ≡ false = ap (faces d ys) (place_named d c z n) ∙ h in
    let is : c ≡ e = cc in
    stays_to z c e (each_becomes (left_by_facing d ys) cs) n is (each_in (left_by_facing d ys) z z cs i (subst (λ b.
    IsIn
    z (cond b (parts_of z) (z ∷ []))) (sym at) (first [])))

-- ---- all of them

parted_step : {N : Type 0} (d : Model) (ys cs : List (Cell N))
    → IsSameStep d cs [] (left_by_facing d ys) (fate_by_facing d ys)
parted_step d ys cs = record {
  each = λ y h. elim h [ ];
  pairs = tt;
  forms = λ y h. elim h [ ];
  sided = λ x y i h. facing_sided_by x y (faces d ys (place_of d x)) h;
  own = λ x i. facing_pairs_by d x (faces d ys (place_of d x));
  away = λ c x y h i j. elim h [ ];
  goes = λ z c e i n f. facing_goes d ys cs z c e (faces d ys (place_of_name c)) refl i n f;
}

pub parted_keeps : {N : Type 0} (D : Ops N) (k : Known N) (ys cs : List (Cell N)) → AreCells k.model cs
    → Keeps D k cs (parted k.model ys cs)
parted_keeps D k ys cs a =
    let s = parted_step k.model ys cs in
    let l = each_becomes (left_by_facing k.model ys) cs in
    subst (λ l'. Keeps D k cs (map (reformed (fate_by_facing k.model ys)) l')) (sym (put_sorted k.model l (left_pairs
    k.model (left_by_facing k.model ys) cs a.pairs s.own s.sided)))
    (same_step_keeps D k cs [] (left_by_facing k.model ys) (fate_by_facing k.model ys) a s (λ m i y h. elim h [ ])
    (λ m i
    y h. elim h [ ]))

-- two states after an operation on both
pub record BothKeep {N : Type 0} (D : Ops N) (k : Known N) (p q : List (Cell N) × List (Cell N)) : Type 0 where
  pub left : Keeps D k p.0 q.0
  pub right : Keeps D k p.1 q.1

pub both_trans : {N : Type 0} (D : Ops N) (k : Known N) (p q r : List (Cell N) × List (Cell N)) → BothKeep D k p q
    → BothKeep D k q r → BothKeep D k p r
both_trans D k p q r a b = record {
  left = keeps_trans D k p.0 q.0 r.0 a.left b.left;
  right = keeps_trans D k p.1 q.1 r.1 a.right b.right;
}

pub times_keep : {N : Type 0} (D : Ops N) (k : Known N) (n : ℕ) (p : List (Cell N) × List (Cell N))
    → AreCells k.model p.0 → AreCells k.model p.1 → BothKeep D k p (parted_times k.model n p)
times_keep D k zero p a b = record { left = keeps_same D k p.0 a; right = keeps_same D k p.1 b }
times_keep {N = N} D k (suc n) p a b =
    let l = parted_keeps D k p.1 p.0 a in
    let r = parted_keeps D k (parted k.model p.1 p.0) p.1 b in
    let q : List (Cell N) × List (Cell N) = (parted k.model p.1 p.0, parted k.model (parted k.model p.1 p.0) p.1) in
    both_trans D k p q (parted_times k.model n q) (record { left = l; right = r }) (times_keep D k n q l.cells r.cells)
