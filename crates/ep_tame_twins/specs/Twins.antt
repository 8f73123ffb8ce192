-- What evaluation gives on both machines alike (this project's rule).
use Rattle.std.specs.Prelude.{◌≡◌, ℕ, true, List}
use Rattle.ep_domain.specs.Domain.{Ops}
use Rattle.ep_cells.specs.States.{Known}
use Rattle.ep_core.specs.Program.{Expr, Place, Program}
use Rattle.ep_core.specs.WellFormed.{pointer_to, has_sort, place_has}
use Rattle.ep_equalities.specs.declared.pair.Mode.TheVariants.{Both}
use Rattle.ep_evaluation.specs.Given.{Given}
use Rattle.ep_evaluation.specs.Evaluation.{expression, place}
use Rattle.ep_evaluation.specs.Laws.{sizes_of}
use Rattle.ep_tame_places.specs.Places.{PointsTo, LiesAt}
use Rattle.ep_tame_states.specs.States.{ValueHas}

-- both sides have one value and one form, and are known to be equal
pub record IsTwin {N : Type 0} (g : Given N) : Type 0 where
  pub equal : g.pair.equal ≡ true
  pub alike : g.pair.left ≡ g.pair.right

-- where these blocks can be named, and by the text those
module _ {N : Type 0} (D : Ops N) (p : Program) (seen live : List ℕ) where
  -- and a pointer points along objects of its type
  pub record TwinPoints (e : Expr) (g : Given N) : Type 0 where
    pub twin : IsTwin g
    pub points : (ty : ℕ) → has_sort p.types p.blocks seen e (pointer_to ty) ≡ true
        → ValueHas (PointsTo D p live ty) g.pair.left.value

  -- and an address is on rows of objects of the place's type
  pub record TwinLies (a : Place) (g : Given N) : Type 0 where
    pub twin : IsTwin g
    pub lies : (ty : ℕ) → place_has p.types p.blocks seen a ty ≡ true
        → ValueHas (LiesAt D p live a ty) g.pair.left.value

  abbrev pub ExprTwin : Expr → Known N → Type 0
  ExprTwin e k = TwinPoints e ((expression D (sizes_of p.blocks) e).gives Both k)

  abbrev pub PlaceTwin : Place → Known N → Type 0
  PlaceTwin a k = TwinLies a (place D (sizes_of p.blocks) a Both k)
