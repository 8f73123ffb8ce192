-- A step that leaves cells of a list on some of their sides, puts new ones among them and rewrites mentions: what it
-- leaves is a state, and holds.
use Rattle.std.proofs.Common.{◌≡◌, false, List, [], ◌∷◌, ◌++◌, map, ⊎_elim, Option, Some, None, IfSome, sym, subst}
use Rattle.ep_int.specs.declared.types.Order.{Order}
use Rattle.ep_int.specs.declared.types.Model.{Model}
use Rattle.ep_bitslice.specs.declared.cell.Side.{Side}
use Rattle.ep_bitslice.specs.declared.cell.CellName.{CellName}
use Rattle.ep_bitslice.specs.declared.segment.Segment.{Segment}
use Rattle.ep_bitslice.specs.Segments.{number}
use Rattle.ep_domain.specs.Domain.{Ops}
use Rattle.ep_cells.specs.declared.cell.Cell.{Cell}
use Rattle.ep_cells.specs.Cells.{place_of, meets, IsIn, first, later, put_all, each_becomes}
use Rattle.ep_cells.specs.Forms.{Fate, reformed}
use Rattle.ep_cells.specs.States.{IsThere, IsFormOf, HasForm, Each, EachPair, AreApart, IsCell, AreCells}
use Rattle.ep_cells.specs.Meaning.{Memories, Says, numbers_of, HasNumber, In}
use Rattle.ep_cells.proofs.Lists.{in_each, in_put_all, in_right, each_at, pairs_append, pairs_put}
use Rattle.ep_cells.proofs.Places.{Within, IsMadeFrom, apart_made, before_rest, put_before_cell, put_after_cell}
use Rattle.ep_cells.proofs.Changes.{IsKept, kept_says, IsChange, change_cells, change_holds}
use Rattle.ep_cells.proofs.Write.{numbers_kept}

-- ---- cells on some of their sides

pub record IsSided {N : Type 0} (x y : Cell N) : Type 0 where
  pub side : Side
  pub is : y ≡ record x { side = side }
  pub within : Within side x.side

sided_made : {N : Type 0} (x y : Cell N) → IsSided x y → IsMadeFrom x y
sided_made x y s = record {
  side = s.side;
  value = x.value;
  maybe = x.maybe;
  form = x.form;
  is = s.is;
  within = s.within;
}

pub sided_cell : {N : Type 0} (d : Model) (x y : Cell N) → IsSided x y → IsCell d x → IsCell d y
sided_cell d x y s c =
    subst (IsCell d) (sym s.is)
    (let r : IsCell d (record x { side = s.side }) = record {
      fits = record { sort = c.fits.sort; undefined = c.fits.undefined; last = c.fits.last };
      rising = c.rising;
    } in r)

there_more : {N : Type 0} (more cs : List (Cell N)) (n : CellName) → IsThere n cs → IsThere n (more ++ cs)
there_more more cs n t = record {
  cell = t.cell;
  is_in = in_right t.cell more cs t.is_in;
  named = t.named;
  sure = t.sure;
}

pub form_more : {N : Type 0} (more cs : List (Cell N)) (x : Cell N) (s : Side) (o : Option (List Segment))
    → IfSome o (IsFormOf cs x) → IfSome o (IsFormOf (more ++ cs) (record x { side = s }))
form_more more cs x s None h = tt
form_more more cs x s (Some ss) h = record {
  sure = h.sure;
  wide = h.wide;
  form = h.form;
  mentioned = λ n e. there_more more cs n (h.mentioned n e);
}

sided_form : {N : Type 0} (more cs : List (Cell N)) (x y : Cell N) → IsSided x y → HasForm cs x
    → HasForm (more ++ cs) y
sided_form more cs x y s h = subst (HasForm (more ++ cs)) (sym s.is) (form_more more cs x s.side x.form h)

-- ---- a step

-- no byte is in both
abbrev pub Misses : {N : Type 0} → Model → Cell N → Cell N → Type 0
Misses d x y = meets (place_of d x) (place_of d y) ≡ false

apart_each : {N : Type 0} (d : Model) (x : Cell N) (cs : List (Cell N)) → Each (AreApart d x) cs → Each (Misses d x) cs
apart_each d x [] h = tt
apart_each d x (c ∷ cs) h = (h.0.apart, apart_each d x cs h.1)

pub apart_misses : {N : Type 0} (d : Model) (cs : List (Cell N)) → EachPair (AreApart d) cs → EachPair (Misses d) cs
apart_misses d [] h = tt
apart_misses d (c ∷ cs) h = (apart_each d c cs h.0, apart_misses d cs h.1)

put_misses : {N : Type 0} (d : Model) (c y : Cell N) (more rest : List (Cell N)) → Each (Misses d c) more
    → ((z : Cell N) → IsIn z rest → Misses d c z) → IsIn y (put_all more rest) → Misses d c y
put_misses d c y more rest p h k =
    ⊎_elim (λ i. each_at (Misses d c) y more p i) (λ i. h y i) (in_put_all more y rest k)

-- cells that are put among others are in order and apart
put_pairs : {N : Type 0} (d : Model) (more rest : List (Cell N)) → EachPair (Misses d) more
    → EachPair (AreApart d) rest → ((c y : Cell N) → IsIn c more → IsIn y rest → Misses d c y)
    → EachPair (AreApart d) (put_all more rest)
put_pairs d [] rest p q h = q
put_pairs d (c ∷ more) rest p q h =
    pairs_put (AreApart d) c (put_all more rest)
    (put_pairs d more rest p.1 q (λ a y i j. h a y (later c more i) j))
    (λ y k e. put_before_cell d c y (put_misses d c y more rest p.0 (λ z i. h c z (first more) i) k) e)
    (λ y k e. put_after_cell d c y (put_misses d c y more rest p.0 (λ z i. h c z (first more) i) k) e)
    (λ x y a e. before_rest d c x y a e)

-- the cells of a step: forms of new ones may mention those of more too
pub record IsStep {N : Type 0} (d : Model) (more cs new : List (Cell N)) (left : Cell N → List (Cell N)) (f : Fate) :
    Type 0 where
  pub each : (y : Cell N) → IsIn y new → IsCell d y
  pub pairs : EachPair (Misses d) new
  pub forms : (y : Cell N) → IsIn y new → HasForm (more ++ cs) y
  pub sided : (x y : Cell N) → IsIn x cs → IsIn y (left x) → IsSided x y
  pub own : (x : Cell N) → IsIn x cs → EachPair (AreApart d) (left x)
  pub away : (c x y : Cell N) → IsIn c new → IsIn x cs → IsIn y (left x) → meets (place_of d c) (place_of d y) ≡ false
  pub fates : (c e : CellName) → IsThere c (more ++ cs) → f c ≡ Some e
      → IsThere e (put_all new (each_becomes left cs))

-- each cell of a step is a new one, or one that is left
by_origin : {N : Type 0} (cs new : List (Cell N)) (left : Cell N → List (Cell N)) (P : Cell N → Type 0)
    → ((y : Cell N) → IsIn y new → P y) → ((x y : Cell N) → IsIn x cs → IsIn y (left x) → P y) → (y : Cell N)
    → IsIn y (put_all new (each_becomes left cs)) → P y
by_origin cs new left P fresh old y h =
    ⊎_elim (λ k. fresh y k) (λ k. let r = in_each left y cs k in old r.origin y r.is_in r.becomes)
    (in_put_all new y (each_becomes left cs) h)

-- a list of which each cell is in order with those behind it, and the cells of which are there
pub left_pairs : {N : Type 0} (d : Model) (left : Cell N → List (Cell N)) (cs : List (Cell N)) → EachPair (AreApart
    d) cs
    → ((x : Cell N) → IsIn x cs → EachPair (AreApart d) (left x))
    → ((x y : Cell N) → IsIn x cs → IsIn y (left x) → IsSided x y) → EachPair (AreApart d) (each_becomes left cs)
left_pairs d left [] p own sided = tt
left_pairs d left (x ∷ cs) p own sided =
    pairs_append (AreApart d) (left x) (each_becomes left cs) (own x (first cs))
    (left_pairs d left cs p.1 (λ y k. own y (later x cs k)) (λ y z k. sided y z (later x cs k)))
    (λ a b i j.
    let r = in_each left b cs j in
    apart_made d x r.origin a b (each_at (AreApart d x) r.origin cs p.0 r.is_in) (sided_made x a (sided x a (first
    cs) i))
    (sided_made r.origin b (sided r.origin b (later x cs r.is_in) r.becomes)))

pub step_change : {N : Type 0} (d : Model) (more cs new : List (Cell N)) (left : Cell N → List (Cell N)) (f : Fate)
    → AreCells d cs → IsStep d more cs new left f
    → IsChange d (more ++ cs) (put_all new (each_becomes left cs)) f
step_change d more cs new left f a s = record {
  each = by_origin cs new left (IsCell d) s.each (λ x y i j. sided_cell d x y (s.sided x y i j) (a.each x i));
  pairs = put_pairs d new (each_becomes left cs) s.pairs (left_pairs d left cs a.pairs s.own s.sided)
      (λ c y i j. let r = in_each left y cs j in s.away c r.origin y i r.is_in r.becomes);
  forms = by_origin cs new left (HasForm (more ++ cs)) s.forms
      (λ x y i j. sided_form more cs x y (s.sided x y i j) (a.forms x i));
  fates = s.fates;
}

pub step_cells : {N : Type 0} (d : Model) (more cs new : List (Cell N)) (left : Cell N → List (Cell N)) (f : Fate)
    → AreCells d cs → IsStep d more cs new left f → AreCells d (map (reformed f) (put_all new (each_becomes left cs)))
step_cells d more cs new left f a s =
    change_cells d (more ++ cs) (put_all new (each_becomes left cs)) f (step_change d more cs new left f a s)

-- ---- and that it holds

-- in n, where the old cells hold of m
pub record StepHolds {N : Type 0} (D : Ops N) (os : Order × Order) (d : Model) (m n : Memories) (more cs new : List
    (Cell
    N)) (left : Cell N → List (Cell N)) (f : Fate) : Type 0 where
  pub says : (y : Cell N) → IsIn y new → Says D os d n y
  pub numbers : (y : Cell N) → IsIn y new
      → IfSome y.form (λ ss. HasNumber os n y y.what (number (numbers_of os m) ss))
  pub kept : (x y : Cell N) → IsIn x cs → IsIn y (left x) → IsKept D os d m n x y
  pub keeps : (c e : CellName) → IsThere c (more ++ cs) → f c ≡ Some e → numbers_of os n e ≡ numbers_of os m c

pub step_holds : {N : Type 0} (D : Ops N) (os : Order × Order) (d : Model) (m n : Memories) (more cs new : List (Cell
    N)) (left : Cell N → List (Cell N)) (f : Fate)
    → AreCells d cs → IsStep d more cs new left f → In D (record { orders = os; model = d; cells = cs }) m
    → StepHolds D os d m n more cs new left f
    → In D (record { orders = os; model = d; cells = map (reformed f) (put_all new (each_becomes left cs)) }) n
step_holds D os d m n more cs new left f a s i h =
    change_holds D os d m n (more ++ cs) (put_all new (each_becomes left cs)) f (step_change d more cs new left f a s)
    (record {
      says = by_origin cs new left (Says D os d n) h.says
          (λ x y j k. kept_says D os d m n x y (h.kept x y j k) (i.cells x j));
      numbers = by_origin cs new left (λ y. IfSome y.form (λ ss. HasNumber os n y y.what (number (numbers_of os m) ss)))
          h.numbers
          (λ x y j k.
          let q = h.kept x y j k in
          numbers_kept D os d m n cs x y q.side q.is q (a.each x j).fits (i.cells x j) (a.forms x j) (i.forms x j));
      keeps = h.keeps;
    })
