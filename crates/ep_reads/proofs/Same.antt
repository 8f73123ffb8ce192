-- Steps under which two memories stay as they are.
use Rattle.std.proofs.Common.{◌≡◌, List, [], map, Some, IfSome, refl}
use Rattle.ep_int.specs.declared.types.Order.{Order}
use Rattle.ep_int.specs.declared.types.Model.{Model}
use Rattle.ep_bitslice.specs.declared.cell.Side.{Side}
use Rattle.ep_bitslice.specs.declared.cell.CellName.{CellName}
use Rattle.ep_bitslice.specs.Segments.{number}
use Rattle.ep_domain.specs.Domain.{Ops}
use Rattle.ep_cells.specs.declared.cell.Cell.{Cell}
use Rattle.ep_cells.specs.Cells.{IsNamed, IsIn, put_all, each_becomes}
use Rattle.ep_cells.specs.Forms.{Fate, reformed}
use Rattle.ep_cells.specs.States.{Known, HasForm, EachPair, AreApart, IsCell, AreCells}
use Rattle.ep_cells.specs.Meaning.{Memories, Says, numbers_of, HasNumber, In}
use Rattle.ep_cells.proofs.Places.{Within}
use Rattle.ep_cells.proofs.Changes.{IsKept}
use Rattle.ep_cells.proofs.Write.{keeps_kept}
use Rattle.ep_reads.proofs.Steps.{IsSided, Misses, IsStep, step_cells, step_holds}

-- what is left of a state is one, and holds of the same memories
pub record Keeps {N : Type 0} (D : Ops N) (k : Known N) (cs after : List (Cell N)) : Type 0 where
  pub cells : AreCells k.model after
  pub holds : (m : Memories) → In D (record k { cells = cs }) m → In D (record k { cells = after }) m

pub keeps_same : {N : Type 0} (D : Ops N) (k : Known N) (cs : List (Cell N)) → AreCells k.model cs → Keeps D k cs cs
keeps_same D k cs a = record { cells = a; holds = λ m i. i }

pub keeps_trans : {N : Type 0} (D : Ops N) (k : Known N) (cs ds es : List (Cell N)) → Keeps D k cs ds
    → Keeps D k ds es → Keeps D k cs es
keeps_trans D k cs ds es p q = record { cells = q.cells; holds = λ m i. q.holds m (p.holds m i) }

pub sided_kept : {N : Type 0} (D : Ops N) (os : Order × Order) (d : Model) (m : Memories) (x y : Cell N) → IsSided x y
    → IsKept D os d m m x y
sided_kept D os d m x y s = record {
  side = s.side;
  is = s.is;
  within = s.within;
  stands = λ v a h. record { left = λ e. h.left (s.within.left e); right = λ e. h.right (s.within.right e) };
}

-- the cell of the name by which a mention of z goes on
pub record GoesTo {N : Type 0} (z : Cell N) (l : List (Cell N)) (e : CellName) : Type 0 where
  pub side : Side
  pub within : Within side z.side
  pub is_in : IsIn (record z { side = side }) l
  pub named : IsNamed e (record z { side = side })

-- a step of which each mention goes on with the cell that it is of
pub record IsSameStep {N : Type 0} (d : Model) (cs new : List (Cell N)) (left : Cell N → List (Cell N)) (f : Fate) :
    Type
    0 where
  pub each : (y : Cell N) → IsIn y new → IsCell d y
  pub pairs : EachPair (Misses d) new
  pub forms : (y : Cell N) → IsIn y new → HasForm cs y
  pub sided : (x y : Cell N) → IsIn x cs → IsIn y (left x) → IsSided x y
  pub own : (x : Cell N) → IsIn x cs → EachPair (AreApart d) (left x)
  pub away : (c x y : Cell N) → IsIn c new → IsIn x cs → IsIn y (left x) → Misses d c y
  pub goes : (z : Cell N) (c e : CellName) → IsIn z cs → IsNamed c z → f c ≡ Some e
      → GoesTo z (put_all new (each_becomes left cs)) e

same_is_step : {N : Type 0} (d : Model) (cs new : List (Cell N)) (left : Cell N → List (Cell N)) (f : Fate)
    → IsSameStep d cs new left f → IsStep d [] cs new left f
same_is_step d cs new left f s = record {
  each = s.each;
  pairs = s.pairs;
  forms = s.forms;
  sided = s.sided;
  own = s.own;
  away = s.away;
  fates = λ c e t h.
      let g = s.goes t.cell c e t.is_in t.named h in
      record { cell = record t.cell { side = g.side }; is_in = g.is_in; named = g.named; sure = t.sure };
}

pub same_step_keeps : {N : Type 0} (D : Ops N) (k : Known N) (cs new : List (Cell N)) (left : Cell N → List (Cell
    N)) (f :
    Fate) → AreCells k.model cs → IsSameStep k.model cs new left f
    → ((m : Memories) → In D (record k { cells = cs }) m → (y : Cell N) → IsIn y new → Says D k.orders k.model m y)
    → ((m : Memories) → In D (record k { cells = cs }) m → (y : Cell N) → IsIn y new
    → IfSome y.form (λ ss. HasNumber k.orders m y y.what (number (numbers_of k.orders m) ss)))
    → Keeps D k cs (map (reformed f) (put_all new (each_becomes left cs)))
same_step_keeps {N = N} D k cs new left f a s says numbers =
    let step = same_is_step k.model cs new left f s in
    record {
      cells = step_cells k.model [] cs new left f a step;
      holds = λ m i. step_holds D k.orders k.model m m [] cs new left f a step i
          (record {
            says = says m i;
            numbers = numbers m i;
            kept = λ x y j h. sided_kept D k.orders k.model m x y (s.sided x y j h);
            keeps = λ c e t h.
                let g = s.goes t.cell c e t.is_in t.named h in
                let y : Cell N = record t.cell { side = g.side } in
                let kept : IsKept D k.orders k.model m m t.cell y = sided_kept D k.orders k.model m t.cell y (record {
                  side = g.side;
                  is = refl;
                  within = g.within;
                }) in
                keeps_kept D k.orders k.model m m t.cell y c e kept (a.each t.cell t.is_in).fits t.sure (i.cells t.cell
                t.is_in) refl t.named g.named;
          });
    }
