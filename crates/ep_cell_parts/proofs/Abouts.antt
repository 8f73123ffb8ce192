-- The cells of the parts that a place may touch.
use Rattle.std.proofs.Common.{◌≡◌, ℕ, suc, List, ◌++◌, sym, ◌∙◌, ap, subst, arith}
use Rattle.ep_int.specs.declared.types.Model.{Model}
use Rattle.ep_cells.specs.declared.cell.Cell.{Cell}
use Rattle.ep_cells.specs.declared.place.ByteRange.{ByteRange}
use Rattle.ep_cells.specs.Cells.{IsIn}
use Rattle.ep_cells.specs.States.{IsCell, AreCells}
use Rattle.ep_cells.proofs.Lists.{in_left, in_right}
use Rattle.ep_shared_parts.specs.declared.parts.Part.{Part}
use Rattle.ep_shared_parts.specs.Spread.{all_items, IsWindow}
use Rattle.ep_shared_parts.specs.Mentions.{number_of}
use Rattle.ep_bicells.proofs.Looking.{Reaches, split_items}
use Rattle.ep_cell_parts.specs.About.{IsAbout}
use Rattle.ep_cell_steps.proofs.Local.{from_at, below_at}
use Rattle.ep_cell_steps.proofs.Writing.{apart_in}

pub about_of : {N : Type 0} (d : Model) (p : ByteRange) (from last : ℕ) (ps window : List (Part (Cell N)))
    (cs : List (Cell N)) → Reaches p from last → AreCells d (all_items ps) → IsWindow number_of from last ps window
    → cs ≡ all_items window → IsAbout d p (all_items ps) cs
about_of {N = N} d p from last ps window cs r a w e =
    let whole = split_items w.before window w.behind ps w.whole in
    let each : (c : Cell N) → IsIn c (all_items w.before ++ (all_items window ++ all_items w.behind)) → IsCell d c =
    subst (λ zs. (c : Cell N) → IsIn c zs → IsCell d c) whole a.each in
    record {
      before = all_items w.before;
      behind = all_items w.behind;
      whole = whole ∙ ap (λ zs. all_items w.before ++ (zs ++ all_items w.behind)) (sym e);
      below = λ x k. apart_in d p x from last r (each x (in_left x (all_items w.before) (all_items window ++ all_items
          w.behind) k)) (λ l m. let n = below_at from x (all_items w.before) w.below k in absurd (omega (arith, n, l)));
      above = λ x k. apart_in d p x from last r (each x (in_right x (all_items w.before) (all_items window ++ all_items
          w.behind) (in_right x (all_items window) (all_items w.behind) k)))
          (λ l m. let n = from_at (suc last) x (all_items w.behind) w.above k in absurd (omega (arith, n, m)));
    }
