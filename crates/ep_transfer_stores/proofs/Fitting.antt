-- What is evaluated may be stored.
use Rattle.std.proofs.Common.{◌≡◌, true, refl, subst, sym}
use Rattle.ep_int.specs.declared.types.IntType.{IntType}
use Rattle.ep_int.specs.declared.types.Order.{Order}
use Rattle.ep_int.specs.declared.types.Scalar.{Scalar}
use Rattle.ep_int.specs.declared.types.Scalar.TheVariants.{Int}
use Rattle.ep_domain.specs.Domain.{Ops}
use Rattle.ep_cells.specs.States.{Known, AreCells}
use Rattle.ep_core.specs.Program.{Expr, Place, Program}
use Rattle.ep_core.specs.Runs.{Side, left, right}
use Rattle.ep_core.specs.Typed.{scalar_of}
use Rattle.ep_core.specs.WellFormed.{is_well_formed}
use Rattle.ep_core.proofs.Operands.{sizes as blocks_of}
use Rattle.ep_equalities.specs.declared.pair.Mode.{Mode}
use Rattle.ep_equalities.specs.declared.pair.Mode.TheVariants.{Both, Left, Right}
use Rattle.ep_equalities.specs.declared.pair.PairValue.{PairValue}
use Rattle.ep_equalities.specs.declared.pair.SideValue.{SideValue}
use Rattle.ep_evaluation.specs.Given.{on}
use Rattle.ep_evaluation.specs.Laws as laws
use Rattle.ep_evaluation.specs.Laws.{EvaluationLaws, IsState}
use Rattle.ep_eval_fits.specs.Fitting.{ExprIsFit, PlaceIsFit}
use Rattle.ep_eval_fits.proofs.Fitting.{expr_is_fit, place_is_fit}
use Rattle.ep_transfers.specs.Transfers.{gives, input_pair}
use Rattle.ep_transfer_fills.specs.Waiting.{SideFits}
use Rattle.ep_transfer_stores.specs.Typed.{IsExpr, IsPlace, IsNumber}

pub expr_fit : (p : Program) (w : Scalar) (e : Expr) → IsExpr p w e → ExprIsFit e
expr_fit p w e h = expr_is_fit p.types p.blocks h.seen e h.sort h.has

pub place_fit : (p : Program) (a : Place) → IsPlace p a → PlaceIsFit a
place_fit p a h = place_is_fit p.types p.blocks h.seen a h.ty h.has

abbrev order_of : Order × Order → Side → Order
order_of os left = os.0
order_of os right = os.1

module _ {N : Type 0} (D : Ops N) (p : Program) where
  side_fits : (ord : Side → Order) (k : Known N) (w : Scalar) (x : SideValue N) → laws.SideFits D p ord k w x → SideFits k w x
  side_fits ord k w x h = record { sort = h.sort; form = h.form }

  pub value_fits : EvaluationLaws D → is_well_formed p ≡ true → (w : Scalar) (e : Expr) → IsExpr p w e → (k : Known N)
      → k.model ≡ p.types.model → AreCells k.model k.cells → (mode : Mode) (s : Side) (v : PairValue N)
      → v ≡ (gives D p e mode k).pair → SideFits k w (on v s)
  value_fits l formed w e h k m c mode s v q =
      let ord = order_of k.orders in
      let i : IsState D p ord k = record { orders = refl; model = m; cells = c } in
      subst (λ (z : PairValue N). SideFits k w (on z s)) (sym q)
      (subst (λ u. SideFits k u (on (gives D p e mode k).pair s)) (sym h.scalar)
      (side_fits ord k (scalar_of h.sort) (on (gives D p e mode k).pair s)
      ((l.expressions p ord (blocks_of p formed) h.seen e h.sort h.has).fits k i mode s)))

-- an input that goes to a number
input_by : {N : Type 0} (D : Ops N) (mode : Mode) (t u : IntType) (k : Known N) (s : Side)
    → SideFits k (Int u) (on (input_pair D mode t (Int u)) s)
input_by D Both t u k left = record { sort = tt; form = tt }
input_by D Both t u k right = record { sort = tt; form = tt }
input_by D Left t u k left = record { sort = tt; form = tt }
input_by D Left t u k right = record { sort = tt; form = tt }
input_by D Right t u k left = record { sort = tt; form = tt }
input_by D Right t u k right = record { sort = tt; form = tt }

pub input_fits : {N : Type 0} (D : Ops N) (mode : Mode) (t : IntType) (w : Scalar) → IsNumber w → (k : Known N) (s : Side)
    → (v : PairValue N) → v ≡ input_pair D mode t w → SideFits k w (on v s)
input_fits D mode t w h k s v e =
    subst (λ (z : PairValue _). SideFits k w (on z s)) (sym e)
    (subst (λ z. SideFits k z (on (input_pair D mode t z) s)) (sym h.is) (input_by D mode t h.t k s))
