-- What the arguments of a call give may be written to its parameters, once its frame has come.
use Rattle.std.proofs.Common.{◌≡◌, ℕ, true, nat_eq, List, [], ◌∷◌, ◌++◌, map, slice_get, refl, sym, ap, ◌∙◌, subst}
use Rattle.std.proofs.lemmas.Bool.{eq-eqb, or_left, or_right}
use Rattle.ep_int.specs.declared.types.Order.{Order}
use Rattle.ep_int.specs.declared.types.Scalar.{Scalar}
use Rattle.ep_int.specs.Memory.{contains}
use Rattle.ep_bitslice.specs.declared.cell.Side.{Side as CellSide}
use Rattle.ep_domain.specs.Domain.{Ops}
use Rattle.ep_cells.specs.States.{Known, AreCells}
use Rattle.ep_core.specs.Exec.{first_of}
use Rattle.ep_core.specs.Program.{Expr, Program}
use Rattle.ep_core.specs.Runs.{Side, left, right}
use Rattle.ep_core.specs.WellFormed.{is_well_formed}
use Rattle.ep_core.proofs.Operands.{sizes as blocks_of}
use Rattle.ep_equalities.specs.declared.pair.Mode.{Mode}
use Rattle.ep_equalities.specs.declared.pair.PairValue.{PairValue}
use Rattle.ep_evaluation.specs.Given.{Given, on}
use Rattle.ep_evaluation.specs.Laws.{EvaluationLaws, IsState, SideFits}
use Rattle.ep_transfers.specs.Calls.{given_all}
use Rattle.ep_transfers.specs.Transfers.{gives, killed_block, killed_blocks, cells_of_mode, entered}
use Rattle.ep_transfers.specs.Statements.{Each}
use Rattle.ep_transfer_calls.specs.Typed.{AreTyped}
use Rattle.ep_transfer_calls.specs.Waiting.{AreFound, AllWait}
use Rattle.ep_transfer_stores.specs.Typed.{IsExpr}
use Rattle.ep_transfers.specs.WaitingLaws.{OthersThere, WaitingHolds}

abbrev pub order_of : Order × Order → Side → Order
order_of os left = os.0
order_of os right = os.1

-- ---- the parameters are in the frame

abbrev AreInside : (frame : List ℕ) → List (ℕ × Scalar) → Type 0
AreInside frame [] = Unit {0}
AreInside frame (b ∷ bs) = (contains b.0 frame ≡ true) × AreInside frame bs

inside_more : (c : ℕ) (frame : List ℕ) (bs : List (ℕ × Scalar)) → AreInside frame bs → AreInside (c ∷ frame) bs
inside_more c frame [] h = tt
inside_more c frame (b ∷ bs) h =
    (or_right (nat_eq b.0 c) (contains b.0 frame) h.0, inside_more c frame bs h.1)

all_inside : (bs : List (ℕ × Scalar)) (locals : List ℕ) → AreInside (first_of bs ++ locals) bs
all_inside [] locals = tt
all_inside (b ∷ bs) locals = (
  or_left (nat_eq b.0 b.0) (contains b.0 (first_of bs ++ locals)) (eq-eqb b.0 b.0 refl),
  inside_more b.0 (first_of bs ++ locals) bs (all_inside bs locals),
)

inside_as : (frame blocks : List ℕ) → ((b : ℕ) → contains b frame ≡ contains b blocks) → (bs : List (ℕ × Scalar))
    → AreInside blocks bs → AreInside frame bs
inside_as frame blocks same [] h = tt
inside_as frame blocks same (b ∷ bs) h = (same b.0 ∙ h.0, inside_as frame blocks same bs h.1)

module _ {N : Type 0} (D : Ops N) (p : Program) where
  -- ---- the model stays

  killed_model : (s : CellSide) (bs : List ℕ) (k : Known N) → (killed_blocks D p s bs k).model ≡ k.model
  killed_model s [] k = refl
  killed_model s (b ∷ bs) k = killed_model s bs (killed_block D p s b (slice_get p.blocks b) k)

  pub entered_model : (m : Mode) (bs : List ℕ) (k j : Known N) → j ≡ entered D p m bs k → k.model ≡ p.types.model
      → j.model ≡ p.types.model
  entered_model m bs k j e h = ap (λ (i : Known N). i.model) e ∙ killed_model (cells_of_mode m) bs k ∙ h

  -- ---- what the arguments give

  module _ (laws : EvaluationLaws D) (formed : is_well_formed p ≡ true) (mode : Mode) (j : Known N)
      (model : j.model ≡ p.types.model) (cells : AreCells j.model j.cells) where
    abbrev ord : Side → Order
    ord = order_of j.orders

    state : IsState D p ord j
    state = record { orders = refl; model = model; cells = cells }

    argument_fits : (w : Scalar) (e : Expr) → IsExpr p w e → (s : Side)
        → SideFits D p ord j w (on (gives D p e mode j).pair s)
    argument_fits w e h s =
        subst (λ z. SideFits D p ord j z (on (gives D p e mode j).pair s)) (sym h.scalar)
        ((laws.expressions p ord (blocks_of p formed) h.seen e h.sort h.has).fits j state mode s)

    all_found : (frame : List ℕ) (bs : List (ℕ × Scalar)) (es : List Expr) → AreInside frame bs → AreTyped p bs es
        → AreFound D p ord frame j bs (map (λ (x : Given N). x.pair) (given_all D p es mode j))
    all_found frame [] [] i t = tt
    all_found frame [] (e ∷ es) i t = tt
    all_found frame (b ∷ bs) [] i t = tt
    all_found frame (b ∷ bs) (e ∷ es) i t =
        (record { inside = i.0; fits = argument_fits b.1 e t.0 }, all_found frame bs es i.1 t.1)

    -- they wait where the frame has come
    pub all_wait : Each (WaitingHolds D) → (bs : List (ℕ × Scalar)) (locals blocks frame : List ℕ)
        → blocks ≡ first_of bs ++ locals → ((b : ℕ) → contains b frame ≡ contains b blocks) → (es : List Expr)
        → AreTyped p bs es → (vs : List (PairValue N))
        → vs ≡ map (λ (x : Given N). x.pair) (given_all D p es mode j) → (k : Known N)
        → k ≡ entered D p mode blocks j → AllWait D p frame bs vs k
    all_wait waiting bs locals blocks frame f same es t vs v k e = record {
      ord = ord;
      was = j;
      there = subst (OthersThere frame j) (sym e)
          (λ c off i. (waiting p ord formed).comes mode blocks j state c (sym (same c.block) ∙ off) i);
      found = subst (AreFound D p ord frame j bs) (sym v)
          (all_found frame bs es
          (inside_as frame blocks same bs (subst (λ fr. AreInside fr bs) (sym f) (all_inside bs locals))) t);
    }
