-- Cells that are surely the same become one, place after place.
use Rattle.std.proofs.Common.{◌≡◌, ℕ, ◌+◌, ◌≤◌, Bool, true, false, cond, List, [], ◌∷◌, map, length, drop, Option}
use Rattle.std.proofs.Common.{Some, None, refl, sym, ◌∙◌, ap, subst}
use Rattle.std.proofs.lemmas.List.{drop_all}
use Rattle.ep_int.specs.declared.types.Model.{Model}
use Rattle.ep_bitslice.specs.declared.cell.Side.TheVariants.{Left, Right}
use Rattle.ep_domain.specs.Domain.{Ops}
use Rattle.ep_cells.specs.declared.cell.Cell.{Cell}
use Rattle.ep_cells.specs.Cells.{put, each_becomes}
use Rattle.ep_cells.specs.Forms.{reformed}
use Rattle.ep_cells.specs.Reshare.{are_same, reshared_cell, left_by_reshare, fate_by_reshare, cell_from}
use Rattle.ep_cells.specs.Reshare.{reshared_pair, reshared_at, places, reshared}
use Rattle.ep_cells.specs.States.{Known, AreCells}
use Rattle.ep_bicells.specs.Steps.{changed_by}
use Rattle.ep_bicells.specs.declared.changes.Step.TheVariants.{Reshare}
use Rattle.ep_reads.proofs.Resharing.{reshared_cells}
use Rattle.ep_state_looks.specs.declared.twins.Twins.{Twins}
use Rattle.ep_state_looks.specs.Looks.{same_twins, twins_at}
use Rattle.ep_state_steps.specs.Ones.{reshared_from}

-- ---- one pair

record AreTwins {N : Type 0} (D : Ops N) (u v : Option (Cell N)) (t : Twins N) : Type 0 where
  left : u ≡ Some t.left
  right : v ≡ Some t.right
  same : are_same D t.left t.right ≡ true

twins_by : {N : Type 0} (D : Ops N) (l r : Cell N) (t : Twins N) (b : Bool) → are_same D l r ≡ b
    → cond b (Some (record { left = l; right = r })) None ≡ Some t → AreTwins D (Some l) (Some r) t
twins_by {N = N} D l r t true e h =
    let same : ◌≡◌ {A = Twins N} (record { left = l; right = r }) t = cc in
    subst (AreTwins D (Some l) (Some r)) same (record { left = refl; right = refl; same = e })
twins_by D l r t false e h = absurd (cc)

twins_are : {N : Type 0} (D : Ops N) (u v : Option (Cell N)) (t : Twins N) → same_twins D u v ≡ Some t
    → AreTwins D u v t
twins_are D None v t h = absurd (cc)
twins_are D (Some l) None t h = absurd (cc)
twins_are D (Some l) (Some r) t h = twins_by D l r t (are_same D l r) refl h

pair_is : {N : Type 0} (D : Ops N) (l r : Cell N) (u v : Option (Cell N)) (cs : List (Cell N)) → u ≡ Some l
    → v ≡ Some r → are_same D l r ≡ true
    → map (reformed (fate_by_reshare l r)) (put (reshared_cell D l r) (each_becomes (left_by_reshare l) cs))
    ≡ reshared_pair D u v cs
pair_is D l r u v cs e f h =
    sym (ap (λ o. reshared_pair D o v cs) e
    ∙ ap (λ o. reshared_pair D (Some l) o cs) f
    ∙ ap (λ b. cond b (map (reformed (fate_by_reshare l r)) (put (reshared_cell D l r) (each_becomes (left_by_reshare l)
    cs))) cs) h)

pub twins_cells : {N : Type 0} (D : Ops N) (d : Model) (b q : ℕ) (cs new : List (Cell N)) (t : Twins N) → AreCells d cs
    → Some t ≡ twins_at D b q cs → new ≡ reshared_cell D t.left t.right ∷ []
    → AreCells d (changed_by D d (Reshare t.left t.right) new cs)
twins_cells D d b q cs new t a e f =
    let p = twins_are D (cell_from Left b q cs) (cell_from Right b q cs) t (sym e) in
    subst (λ l. AreCells d (changed_by D d (Reshare t.left t.right) l cs)) (sym f)
    (reshared_cells D d b q cs t.left t.right a p.left p.right p.same)

pub twins_reshared : {N : Type 0} (D : Ops N) (k after : Known N) (b q : ℕ) (new : List (Cell N)) (t : Twins N)
    → Some t ≡ twins_at D b q k.cells → new ≡ reshared_cell D t.left t.right ∷ []
    → after ≡ record k { cells = changed_by D k.model (Reshare t.left t.right) new k.cells }
    → after ≡ record k { cells = reshared_at D b q k.cells }
twins_reshared D k after b q new t e f h =
    let p = twins_are D (cell_from Left b q k.cells) (cell_from Right b q k.cells) t (sym e) in
    h
    ∙ ap (λ l. record k { cells = changed_by D k.model (Reshare t.left t.right) l k.cells }) f
    ∙ ap (λ l. record k { cells = l })
    (pair_is D t.left t.right (cell_from Left b q k.cells) (cell_from Right b q k.cells) k.cells p.left p.right p.same)

-- ---- none

none_by : {N : Type 0} (D : Ops N) (l r : Cell N) (cs after : List (Cell N)) (b : Bool) → are_same D l r ≡ b
    → None ≡ cond b (Some (let t : Twins N = record { left = l; right = r } in t)) None
    → cs ≡ cond (are_same D l r) after cs
none_by D l r cs after true e h = absurd (cc)
none_by D l r cs after false e h = sym (ap (λ b. cond b after cs) e)

none_are : {N : Type 0} (D : Ops N) (u v : Option (Cell N)) (cs : List (Cell N)) → None ≡ same_twins D u v
    → cs ≡ reshared_pair D u v cs
none_are D None v cs h = refl
none_are D (Some l) None cs h = refl
none_are D (Some l) (Some r) cs h =
    none_by D l r cs (map (reformed (fate_by_reshare l r)) (put (reshared_cell D l r) (each_becomes (left_by_reshare l)
    cs))) (are_same D l r) refl h

pub none_reshared : {N : Type 0} (D : Ops N) (k : Known N) (b q : ℕ) → None ≡ twins_at D b q k.cells
    → k ≡ record k { cells = reshared_at D b q k.cells }
none_reshared D k b q h =
    ap (λ l. record k { cells = l }) (none_are D (cell_from Left b q k.cells) (cell_from Right b q k.cells) k.cells h)

-- ---- one place after another

pub reshare_next : {N : Type 0} (D : Ops N) (p : ℕ × ℕ) (ps : List (ℕ × ℕ)) (i : ℕ) (now after all : Known N)
    → drop i ps ≡ p ∷ drop (i + 1) ps → after ≡ record now { cells = reshared_at D p.0 p.1 now.cells }
    → reshared_from D (drop i ps) now ≡ all → reshared_from D (drop (i + 1) ps) after ≡ all
reshare_next D p ps i now after all e f h =
    ap (reshared_from D (drop (i + 1) ps)) f ∙ sym (ap (λ l. reshared_from D l now) e) ∙ h

pub reshare_last : {N : Type 0} (D : Ops N) (ps : List (ℕ × ℕ)) (i : ℕ) (now all : Known N) → length ps ≤ i
    → reshared_from D (drop i ps) now ≡ all → now ≡ all
reshare_last D ps i now all l h = sym (ap (λ q. reshared_from D q now) (drop_all i ps l)) ∙ h

pub all_reshared : {N : Type 0} (D : Ops N) (k after : Known N) (ps slice : List (ℕ × ℕ)) → slice ≡ ps
    → ps ≡ places k.cells → after ≡ reshared_from D slice k → after ≡ record k { cells = reshared D k.cells }
all_reshared D k after ps slice f e h = h ∙ ap (λ l. reshared_from D l k) (f ∙ e)
