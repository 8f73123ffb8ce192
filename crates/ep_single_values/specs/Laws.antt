-- Expressions and places where a state stands for one pair of memories alone: without a fault each has one value on
-- each running machine that finds one, and only what is so can be assumed.
use Rattle.std.specs.Prelude.{◌≡◌, ℕ, Bool, true, not, List, None}
use Rattle.ep_int.specs.declared.types.Order.{Order}
use Rattle.ep_int.specs.Memory.{Value as Datum, has}
use Rattle.ep_domain.specs.Domain.{Ops}
use Rattle.ep_cells.specs.States.{Known}
use Rattle.ep_cells.specs.Meaning.{Memories}
use Rattle.ep_core.specs.Program.{Expr, Place, Program}
use Rattle.ep_core.specs.Exec.{is_true, value, address}
use Rattle.ep_core.specs.Runs.{Side}
use Rattle.ep_core.specs.WellFormed.{Sort, has_sort, place_has, blocks_fit}
use Rattle.ep_evaluation.specs.Evaluation.{Means, expression, place}
use Rattle.ep_evaluation.specs.Laws.{memory_of, Machine, sizes_of}
use Rattle.ep_singles.specs.Numbers.{KeepsSingles}
use Rattle.ep_single_narrowed.specs.Laws.{IsKeptOne, IfKeptOne}
use Rattle.ep_single_given.specs.Laws.{GivesOne}

module _ {N : Type 0} (D : Ops N) where
  module _ (p : Program) (ord : Side → Order) where
    pub record OneMeans (f : Side → Machine) (a : Means N) : Type 0 where
      pub gives : GivesOne D p ord f a.gives
      pub assumes : (k : Known N) (m : Memories) → IsKeptOne D p ord k m → (s : Side) (t : Bool) (v : Datum)
          → f s (memory_of s m) ≡ has v → is_true v ≡ t → IfKeptOne D p ord (a.assumes s t k) m
      pub refuses : (k : Known N) (m : Memories) → IsKeptOne D p ord k m → (s : Side) (t : Bool) (v : Datum)
          → f s (memory_of s m) ≡ has v → is_true v ≡ not t → a.assumes s t k ≡ None

    abbrev pub ValuesAreOne : Type 0
    ValuesAreOne =
        KeepsSingles D → blocks_fit p.types p.blocks ≡ true → (seen : List ℕ) (e : Expr) (x : Sort)
        → has_sort p.types p.blocks seen e x ≡ true
        → OneMeans (λ s. value (ord s) p e) (expression D (sizes_of p.blocks) e)

    abbrev pub PlacesAreOne : Type 0
    PlacesAreOne =
        KeepsSingles D → blocks_fit p.types p.blocks ≡ true → (seen : List ℕ) (a : Place) (ty : ℕ)
        → place_has p.types p.blocks seen a ty ≡ true
        → GivesOne D p ord (λ s. address (ord s) p a) (place D (sizes_of p.blocks) a)
