-- Cells that the other state lacks are gone; what is left of both has the same sides, places and types.
use Rattle.std.proofs.Common.{◌≡◌, Bool, true, false, cond, List, [], ◌∷◌, map, ⊎_elim, Option, Some, None}
use Rattle.ep_reads.proofs.Members.{same_alike}
use Rattle.std.proofs.Common.{is_some, refl, sym, ◌∙◌, ap, subst, arith}
use Rattle.std.specs.List.{list_any}
use Rattle.std.proofs.lemmas.Bool.{or_cases, both_ways}
use Rattle.ep_int.specs.declared.types.Model.{Model}
use Rattle.ep_bitslice.specs.declared.cell.CellName.{CellName}
use Rattle.ep_bitslice.specs.Bits.{side_number}
use Rattle.ep_domain.specs.Domain.{Ops}
use Rattle.ep_cells.specs.declared.cell.Cell.{Cell}
use Rattle.ep_cells.specs.Cells.{is_same_cell, key_of, IsNamed, IsIn, first, later, each_becomes}
use Rattle.ep_cells.specs.Forms.{Fate, reformed}
use Rattle.ep_cells.specs.Both.{cell_like}
use Rattle.ep_cells.specs.States.{Known, Each, EachPair, AreApart, AreCells, AreAlike, HaveCellsAlike}
use Rattle.ep_cells.proofs.Lists.{in_each, each_in, each_at}
use Rattle.ep_cells.proofs.Places.{Before, before_true, not_both, within_itself}
use Rattle.ep_cells.proofs.Both.{alike_same, alike_sym}
use Rattle.ep_reads.specs.Split.{is_name_of}
use Rattle.ep_reads.specs.Unify.{left_by_lack, fate_by_lack, had_by_both}
use Rattle.ep_reads.proofs.Sides.{named_same}
use Rattle.ep_reads.proofs.Steps.{IsSided, left_pairs}
use Rattle.ep_reads.proofs.Splits.{first_like, none_like, alike_trans}
use Rattle.ep_reads.proofs.Same.{Keeps, IsSameStep, same_step_keeps, GoesTo}
use Rattle.ep_reads.proofs.Parted.{stays_to}

-- ---- cells that are had

-- a cell like x is there
record IsHad {N : Type 0} (x : Cell N) (ys : List (Cell N)) : Type 0 where
  cell : Cell N
  is_in : IsIn cell ys
  alike : AreAlike cell x

had_by : {N : Type 0} (x : Cell N) (ys : List (Cell N)) (o : Option (Cell N)) → cell_like x ys ≡ o → is_some o ≡ true
    → IsHad x ys
had_by x ys None e h = absurd (let c : false ≡ true = h in cc)
had_by x ys (Some y) e h =
    let f = first_like x ys y e in
    record { cell = y; is_in = f.is_in; alike = alike_same y x f.same }

had : {N : Type 0} (x : Cell N) (ys : List (Cell N)) → is_some (cell_like x ys) ≡ true → IsHad x ys
had x ys h = had_by x ys (cell_like x ys) refl h

some_by : {N : Type 0} (x y : Cell N) (ys : List (Cell N)) (o : Option (Cell N)) → cell_like x ys ≡ o → IsIn y ys
    → is_same_cell y x ≡ true → is_some o ≡ true
some_by x y ys None e i h = absurd (both_ways (is_same_cell y x) (none_like x ys y e i) h)
some_by x y ys (Some z) e i h = refl

some_like : {N : Type 0} (x y : Cell N) (ys : List (Cell N)) → IsIn y ys → AreAlike y x
    → is_some (cell_like x ys) ≡ true
some_like x y ys i a = some_by x y ys (cell_like x ys) refl i (same_alike y x a)

-- ---- the step

lack_sided : {N : Type 0} (x y : Cell N) (t : Bool) → IsIn y (cond t (x ∷ []) []) → IsSided x y
lack_sided x _ true (first _) = record { side = x.side; is = refl; within = within_itself x.side }
lack_sided x y true (later _ _ h) = elim h [ ]
lack_sided x y false h = elim h [ ]

lack_pairs : {N : Type 0} (d : Model) (x : Cell N) (t : Bool) → EachPair (AreApart d) (cond t (x ∷ []) [])
lack_pairs d x true = (tt, tt)
lack_pairs d x false = tt

-- a name that is one of these cells'
named_had : {N : Type 0} (c : CellName) (z : Cell N) (ys : List (Cell N)) → IsNamed c z
    → list_any (is_name_of c) ys ≡ true → IsHad z ys
named_had c z [] n h = absurd (let e : false ≡ true = h in cc)
named_had c z (y ∷ ys) n h =
    ⊎_elim
    (λ e. record {
      cell = y;
      is_in = first ys;
      alike = alike_sym z y (alike_same z y (named_same c z y n ∙ e));
    })
    (λ e. let r = named_had c z ys n e in record { cell = r.cell; is_in = later y ys r.is_in; alike = r.alike })
    (or_cases (is_name_of c y) (list_any (is_name_of c) ys) h)

lack_goes : {N : Type 0} (ys cs : List (Cell N)) (z : Cell N) (c e : CellName) (t : Bool)
    → list_any (is_name_of c) ys ≡ t → IsIn z cs → IsNamed c z → cond t (Some c) None ≡ Some e
    → GoesTo z (each_becomes (left_by_lack ys) cs) e
lack_goes ys cs z c e true h i n f =
    let is : c ≡ e = let q : Some c ≡ Some e = f in cc in
    let a = named_had c z ys n h in
    let there = some_like z a.cell ys a.is_in a.alike in
    stays_to z c e (each_becomes (left_by_lack ys) cs) n is
    (each_in (left_by_lack ys) z z cs i (subst (λ b. IsIn z (cond b (z ∷ []) [])) (sym there) (first [])))
lack_goes ys cs z c e false h i n f = absurd (cc)

lack_step : {N : Type 0} (d : Model) (ys cs : List (Cell N)) → IsSameStep d cs [] (left_by_lack ys) (fate_by_lack ys)
lack_step d ys cs = record {
  each = λ y h. elim h [ ];
  pairs = tt;
  forms = λ y h. elim h [ ];
  sided = λ x y i h. lack_sided x y (is_some (cell_like x ys)) h;
  own = λ x i. lack_pairs d x (is_some (cell_like x ys));
  away = λ c x y h i j. elim h [ ];
  goes = λ z c e i n f. lack_goes ys cs z c e (list_any (is_name_of c) ys) refl i n f;
}

pub lack_keeps : {N : Type 0} (D : Ops N) (k : Known N) (ys cs : List (Cell N)) → AreCells k.model cs
    → Keeps D k cs (had_by_both ys cs)
lack_keeps D k ys cs a =
    same_step_keeps D k cs [] (left_by_lack ys) (fate_by_lack ys) a (lack_step k.model ys cs) (λ m i y h. elim h [
    ]) (λ m
    i y h. elim h [ ])

-- ---- two lists in order of cells alike

-- the order of cells alike
alike_before : {N : Type 0} (d : Model) (x y a b : Cell N) → AreApart d x y → AreAlike x a → AreAlike y b
    → Before a.block (key_of a) b.block (key_of b)
alike_before d x y a b h p q =
    let keys : key_of x ≡ key_of a = let e : side_number x.side ≡ side_number a.side = ap side_number p.side in omega
    (arith, e, p.offset) in
    let other : key_of y ≡ key_of b = let e : side_number y.side ≡ side_number b.side = ap side_number q.side in omega
    (arith, e, q.offset) in
    subst (λ j. Before a.block (key_of a) b.block j) other
    (subst (λ j. Before a.block (key_of a) j (key_of y)) q.block
    (subst (λ j. Before a.block j y.block (key_of y)) keys
    (subst (λ j. Before j (key_of x) y.block (key_of y)) p.block (before_true x.block (key_of x) y.block (key_of y)
    h.ordered))))

not_crossed : {N : Type 0} (d : Model) (x y a b : Cell N) → AreApart d x y → AreApart d b a → AreAlike x a →
    AreAlike y b
    → ⊥
not_crossed d x y a b h g p q =
    not_both a.block (key_of a) b.block (key_of b) (alike_before d x y a b h p q)
    (before_true b.block (key_of b) a.block (key_of a) g.ordered)

-- the first cells are alike
heads_by : {N : Type 0} (d : Model) (x y c e : Cell N) (xs ys : List (Cell N)) → Each (AreApart d x) xs
    → Each (AreApart d y) ys → IsIn c (y ∷ ys) → AreAlike c x → IsIn e (x ∷ xs) → AreAlike e y → AreAlike x y
heads_by d x y _ e xs ys p q (first _) a j b = alike_sym y x a
heads_by d x y c _ xs ys p q (later _ _ i) a (first _) b = b
heads_by d x y c e xs ys p q (later _ _ i) a (later _ _ j) b =
    absurd (not_crossed d x e c y (each_at (AreApart d x) e xs p j) (each_at (AreApart d y) c ys q i) (alike_sym c x
    a) b)

-- and each cell behind one has a cell like it behind the other
behind_by : {N : Type 0} (d : Model) (x y z c : Cell N) (ys : List (Cell N)) → AreApart d x z → AreAlike x y
    → IsIn c (y ∷ ys) → AreAlike c z → IsHad z ys
behind_by d x y z _ ys h a (first _) b =
    let same = alike_trans x y z a b in
    absurd (not_crossed d x z z x h h same (alike_sym x z same))
behind_by d x y z c ys h a (later _ _ i) b = record { cell = c; is_in = i; alike = b }

lists_alike : {N : Type 0} (d : Model) (xs ys : List (Cell N)) → EachPair (AreApart d) xs → EachPair (AreApart d) ys
    → ((x : Cell N) → IsIn x xs → IsHad x ys) → ((y : Cell N) → IsIn y ys → IsHad y xs) → HaveCellsAlike xs ys
lists_alike d [] [] p q f g = tt
lists_alike d [] (y ∷ ys) p q f g = let h = g y (first ys) in elim h.is_in [ ]
lists_alike d (x ∷ xs) [] p q f g = let h = f x (first xs) in elim h.is_in [ ]
lists_alike d (x ∷ xs) (y ∷ ys) p q f g =
    let h = f x (first xs) in
    let k = g y (first ys) in
    let a = heads_by d x y h.cell k.cell xs ys p.0 q.0 h.is_in h.alike k.is_in k.alike in (
      a,
      lists_alike d xs ys p.1 q.1
          (λ z i. let r = f z (later x xs i) in behind_by d x y z r.cell ys (each_at (AreApart d x) z xs p.0 i) a
          r.is_in
          r.alike)
          (λ z i. let r = g z (later y ys i) in behind_by d y x z r.cell xs (each_at (AreApart d y) z ys q.0 i)
          (alike_sym
          x y a) r.is_in r.alike),
    )

-- forms don't matter
reformed_alike : {N : Type 0} (f g : Fate) (xs ys : List (Cell N)) → HaveCellsAlike xs ys
    → HaveCellsAlike (map (reformed f) xs) (map (reformed g) ys)
reformed_alike f g [] [] h = tt
reformed_alike f g [] (y ∷ ys) h = h
reformed_alike f g (x ∷ xs) [] h = h
reformed_alike f g (x ∷ xs) (y ∷ ys) h = (
  record { side = h.0.side; block = h.0.block; offset = h.0.offset; what = h.0.what },
  reformed_alike f g xs ys h.1,
)

-- ---- what both have

record IsLeftHad {N : Type 0} (xs ys : List (Cell N)) (z : Cell N) : Type 0 where
  is_in : IsIn z xs
  had : IsHad z ys

left_had_by : {N : Type 0} (xs ys : List (Cell N)) (x z : Cell N) (t : Bool) → is_some (cell_like x ys) ≡ t → IsIn x xs
    → IsIn z (cond t (x ∷ []) []) → IsLeftHad xs ys z
left_had_by xs ys x _ true e i (first _) = record { is_in = i; had = had x ys e }
left_had_by xs ys x z true e i (later _ _ h) = elim h [ ]
left_had_by xs ys x z false e i h = elim h [ ]

left_had : {N : Type 0} (xs ys : List (Cell N)) (z : Cell N) → IsIn z (each_becomes (left_by_lack ys) xs)
    → IsLeftHad xs ys z
left_had xs ys z h =
    let r = in_each (left_by_lack ys) z xs h in
    left_had_by xs ys r.origin z (is_some (cell_like r.origin ys)) refl r.is_in r.becomes

had_there : {N : Type 0} (xs ys : List (Cell N)) (x : Cell N) → IsIn x (each_becomes (left_by_lack ys) xs)
    → IsHad x (each_becomes (left_by_lack xs) ys)
had_there xs ys x h =
    let r = left_had xs ys x h in
    let y = r.had.cell in
    let there = some_like y x xs r.is_in (alike_sym y x r.had.alike) in
    record {
      cell = y;
      is_in = each_in (left_by_lack xs) y y ys r.had.is_in (subst (λ b. IsIn y (cond b (y ∷ []) [])) (sym there) (first
          []));
      alike = r.had.alike;
    }

lack_sorted : {N : Type 0} (d : Model) (xs ys : List (Cell N)) → AreCells d xs
    → EachPair (AreApart d) (each_becomes (left_by_lack ys) xs)
lack_sorted d xs ys a =
    let s = lack_step d ys xs in
    left_pairs d (left_by_lack ys) xs a.pairs s.own s.sided

pub had_alike : {N : Type 0} (d : Model) (xs ys : List (Cell N)) → AreCells d xs → AreCells d ys
    → HaveCellsAlike (had_by_both ys xs) (had_by_both xs ys)
had_alike d xs ys a b =
    reformed_alike (fate_by_lack ys) (fate_by_lack xs) (each_becomes (left_by_lack ys) xs) (each_becomes
    (left_by_lack xs)
    ys)
    (lists_alike d (each_becomes (left_by_lack ys) xs) (each_becomes (left_by_lack xs) ys) (lack_sorted d xs ys a)
    (lack_sorted d ys xs b) (λ x i. had_there xs ys x i) (λ y i. had_there ys xs y i))
