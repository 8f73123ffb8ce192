-- Joins and heads of tame programs, from what holds of cells of both memories and of their places.
use Rattle.std.proofs.Common.{◌≡◌, ℕ, ◌<◌, Bool, true, false, cond, List, [], ◌∷◌, ◌++◌, map, length, sym, ap, ◌∙◌}
use Rattle.std.proofs.Common.{subst}
use Rattle.std.specs.Prelude.{is_some}
use Rattle.ep_int.specs.declared.types.Order.{Order}
use Rattle.ep_domain.specs.Domain.{Ops, Lawful}
use Rattle.ep_cells.specs.declared.cell.Cell.{Cell}
use Rattle.ep_cells.specs.Forms.{Fate, reformed}
use Rattle.ep_cells.specs.Cells.{each_becomes}
use Rattle.ep_cells.specs.Both.{joined, widened, are_within, cell_like}
use Rattle.ep_cells.specs.Reshare.{reshared}
use Rattle.ep_cells.specs.States.{HaveCellsAlike}
use Rattle.ep_cells.proofs.Gathered.{of_joins}
use Rattle.ep_reads.specs.Unify.{left_by_lack, fate_by_lack, had_by_both}
use Rattle.ep_reads.proofs.Unified.{of_unification}
use Rattle.ep_core.specs.Program.{Program}
use Rattle.ep_tame_cells.specs.Shared.{AreHad}
use Rattle.ep_tame_cells.proofs.Unparted.{reshared_shared, unified_shared, had_stays}
use Rattle.ep_tame_cells.proofs.Over.{both_alike}
use Rattle.ep_tame_cells.specs.Rank.{rank, HaveTargetsBelow}
use Rattle.ep_tame_cells.proofs.Falls.{rank_laws_of}
use Rattle.ep_tame_cells.specs.Shape.{IsCovered, HasShape}
use Rattle.ep_tame_cells.specs.Laws.{ShapeLaws}
use Rattle.ep_tame_cells.proofs.Shapes.{shape_laws_of}
use Rattle.ep_tame_cells.specs.HeadLaws.{known, together, join, widening, HeadLaws}

-- values stay where cells go
below_kept : {N : Type 0} (B : ℕ) (f : Fate) (xs ys : List (Cell N)) → HaveTargetsBelow B ys
    → HaveTargetsBelow B (map (reformed f) (each_becomes (left_by_lack xs) ys))
below_kept B f xs [] h = tt
below_kept {N = N} B f xs (y ∷ ys) h = by_test (is_some (cell_like y xs)) (below_kept B f xs ys h.1)
  where
    by_test : (t : Bool) → HaveTargetsBelow B (map (reformed f) (each_becomes (left_by_lack xs) ys))
        → HaveTargetsBelow B (map (reformed f) (cond t (y ∷ []) [] ++ each_becomes (left_by_lack xs) ys))
    by_test true rest = (h.0, rest)
    by_test false rest = rest

module _ {N : Type 0} (D : Ops N) (law : Lawful D) (p : Program) (os : Order × Order) (xs ys : List (Cell N))
    (a : HasShape p xs) (b : HasShape p ys) where
  shapes : ShapeLaws D
  shapes = shape_laws_of D

  abbrev Lists : Type 0
  Lists = List (Cell N) × List (Cell N)

  abbrev both : Lists
  both = (had_by_both ys xs, had_by_both xs ys)

  pub is_both : ◌≡◌ {A = Lists} (together D p os xs ys) both
  is_both =
      unified_shared D (known p os xs) ys (shapes.shared p xs a) (shapes.shared p ys b) (shapes.uncrossed p xs ys a b)
      (shapes.uncrossed p ys xs b a)

  pub alike : HaveCellsAlike (had_by_both ys xs) (had_by_both xs ys)
  alike =
      subst (λ (q : Lists). HaveCellsAlike q.0 q.1) is_both
      ((of_unification D law).alike (known p os xs) ys a.cells b.cells)

  left : HasShape p (had_by_both ys xs)
  left = shapes.both p xs ys a b

  right : HasShape p (had_by_both xs ys)
  right = shapes.both p ys xs b a

  join_shape : HasShape p (join D p os xs ys)
  join_shape =
      subst (λ (q : Lists). HasShape p (joined D q.0 q.1)) (sym is_both)
      (shapes.alike p (had_by_both ys xs) (joined D (had_by_both ys xs) (had_by_both xs ys)) left
      ((of_joins D law).join_cells p.types.model (had_by_both ys xs) (had_by_both xs ys) left.cells right.cells alike)
      (both_alike D.join (had_by_both ys xs) (had_by_both xs ys) alike))

  join_covers : (c : ℕ) → IsCovered p xs c → IsCovered p ys c → IsCovered p (join D p os xs ys) c
  join_covers c h k =
      subst (λ (q : Lists). IsCovered p (joined D q.0 q.1) c) (sym is_both)
      (shapes.alike_covers p (had_by_both ys xs) (joined D (had_by_both ys xs) (had_by_both xs ys)) c
      (both_alike D.join (had_by_both ys xs) (had_by_both xs ys) alike) (shapes.both_cover p xs ys c a b h k))

  widening_shape : HasShape p (widening D p os xs ys)
  widening_shape =
      subst (λ (q : Lists). HasShape p (widened D q.0 q.1)) (sym is_both)
      (shapes.alike p (had_by_both ys xs) (widened D (had_by_both ys xs) (had_by_both xs ys)) left
      ((of_joins D law).widen_cells p.types.model (had_by_both ys xs) (had_by_both xs ys) left.cells right.cells alike)
      (both_alike D.widen (had_by_both ys xs) (had_by_both xs ys) alike))

  widening_covers : (c : ℕ) → IsCovered p xs c → IsCovered p ys c → IsCovered p (widening D p os xs ys) c
  widening_covers c h k =
      subst (λ (q : Lists). IsCovered p (widened D q.0 q.1) c) (sym is_both)
      (shapes.alike_covers p (had_by_both ys xs) (widened D (had_by_both ys xs) (had_by_both xs ys)) c
      (both_alike D.widen (had_by_both ys xs) (had_by_both xs ys) alike) (shapes.both_cover p xs ys c a b h k))

  widening_stays : reshared D (widening D p os xs ys) ≡ widening D p os xs ys
  widening_stays =
      reshared_shared D (widening D p os xs ys) (shapes.shared p (widening D p os xs ys) widening_shape).shared

  module _ (had : AreHad xs ys) where
    stays : had_by_both ys xs ≡ xs
    stays = had_stays p.types.model xs ys (shapes.shared p xs a) had

    head_stays : (together D p os xs ys).0 ≡ xs
    head_stays = ap (λ (q : Lists). q.0) is_both ∙ stays

    head_falls : D.height < 4294967295 → 0 < length p.blocks → HaveTargetsBelow (length p.blocks) xs
        → HaveTargetsBelow (length p.blocks) ys → are_within D (together D p os xs ys).1 xs ≡ false
        → rank D (length p.blocks) (widening D p os xs ys) < rank D (length p.blocks) xs
    head_falls small some below_xs below_ys w =
        subst (λ (q : Lists). rank D (length p.blocks) (widened D q.0 q.1) < rank D (length p.blocks) xs) (sym is_both)
        (subst (λ zs. rank D (length p.blocks) (widened D zs (had_by_both xs ys)) < rank D (length p.blocks) xs)
        (sym stays)
        ((rank_laws_of D law).falls (length p.blocks) some small p.types.model xs (had_by_both xs ys) a.cells
        right.cells
        (subst (λ zs. HaveCellsAlike zs (had_by_both xs ys)) stays alike) below_xs
        (below_kept (length p.blocks) (fate_by_lack xs) xs ys below_ys)
        (sym (ap (λ (q : Lists). are_within D q.1 xs) is_both) ∙ w)))

pub head_laws_of : {N : Type 0} (D : Ops N) → Lawful D → HeadLaws D
head_laws_of D law = record {
  join_shape = λ p os xs ys a b. join_shape D law p os xs ys a b;
  join_covers = λ p os xs ys c a b h k. join_covers D law p os xs ys a b c h k;
  widening_shape = λ p os xs ys a b. widening_shape D law p os xs ys a b;
  widening_covers = λ p os xs ys c a b h k. widening_covers D law p os xs ys a b c h k;
  widening_stays = λ p os xs ys a b. widening_stays D law p os xs ys a b;
  head_stays = λ p os xs ys a b had. head_stays D law p os xs ys a b had;
  head_falls = λ p os xs ys small some a b had h k w. head_falls D law p os xs ys a b had small some h k w;
}
