-- What assuming a truth leaves of what is known (this project's rules).
use Rattle.std.specs.Prelude.{Bool, true, false, ◌&&◌, not, nat_eq, if◌then◌else◌, int_le, List, [], ◌∷◌, Option}
use Rattle.std.specs.Prelude.{Some, None}
use Rattle.std.specs.Option.{option_map}
use Rattle.ep_int.specs.declared.types.IntType.{IntType}
use Rattle.ep_int.specs.declared.types.Scalar.{Scalar}
use Rattle.ep_int.specs.declared.types.Scalar.TheVariants.{Int, Pointer}
use Rattle.ep_int.specs.declared.types.Cmp.{Cmp}
use Rattle.ep_int.specs.declared.types.Cmp.TheVariants.{Eq, Ne, Lt, Le, Gt, Ge}
use Rattle.ep_int.specs.Types.{least_of, greatest_of}
use Rattle.ep_domain.specs.Domain.{Ops}
use Rattle.ep_pointers.specs.declared.compare.Truths.{Truths}
use Rattle.ep_pointers.specs.Value.{Pointers, null_alone, pointers}
use Rattle.ep_pointers.specs.Compare.{opposite, comparison_of, has_targets}
use Rattle.ep_cells.specs.declared.cell.Cell.{Cell}
use Rattle.ep_cells.specs.declared.cell.Value.{Value}
use Rattle.ep_cells.specs.declared.cell.Value.TheVariants.{Num, Ptr}
use Rattle.ep_cells.specs.Cells.{is_same_scalar}
use Rattle.ep_cells.specs.Both.{joined}
use Rattle.ep_cells.specs.Look.{cell_at}
use Rattle.ep_cells.specs.States.{Known}
use Rattle.ep_reads.specs.Bytes.{is_null_alone}
use Rattle.ep_reads.specs.Unify.{unified}
use Rattle.ep_core.specs.Runs.{Side}
use Rattle.ep_evaluation.specs.Given.{cells_of}
use Rattle.ep_cell_ranges.specs.Spots.{Spot}
use Rattle.ep_cell_ranges.specs.Narrow.{with_value}

-- ---- states that are or aren't there

abbrev pub then_with : {N : Type 0} → Option (Known N) → (Known N → Option (Known N)) → Option (Known N)
then_with None f = None
then_with (Some k) f = f k

-- what two states both say
abbrev pub both : {N : Type 0} → Ops N → Known N → Known N → Known N
both D k l = record k { cells = joined D (unified D k l).0 (unified D k l).1 }

abbrev pub either_of : {N : Type 0} → Ops N → Option (Known N) → Option (Known N) → Option (Known N)
either_of D None l = l
either_of D (Some k) None = Some k
either_of D (Some k) (Some l) = Some (both D k l)

-- ---- the cell of an operand

-- the cell of exactly this type that lies at a place and surely has a value
abbrev pub sure_cell : {N : Type 0} → Scalar → Spot → Option (Cell N) → Option (Cell N)
sure_cell w q None = None
sure_cell w q (Some x) =
    if nat_eq x.offset q.1 && (is_same_scalar x.what w && not x.maybe) then Some x else None

-- the cell of a load at one place
abbrev pub cell_of : {N : Type 0} → Known N → Side → Scalar → List Spot → Option (Cell N)
cell_of k s w [] = None
cell_of k s w (q ∷ []) = sure_cell w q (cell_at k.model (cells_of s) q.0 q.1 k.cells)
cell_of k s w (q ∷ r ∷ qs) = None

-- the cell of the same type and place in another state, if it is there and surely has a value
abbrev pub again : {N : Type 0} → Option (Cell N) → Known N → Option (Cell N)
again None k = None
again (Some c) k = sure_cell c.what (c.block, c.offset) (cell_at k.model c.side c.block c.offset k.cells)

-- a type has every number of another
abbrev pub has_range : IntType → Scalar → Bool
has_range t (Int u) = int_le (least_of t) (least_of u) && int_le (greatest_of u) (greatest_of t)
has_range t Pointer = false

abbrev pub if_kept : {N : Type 0} → IntType → Option (Cell N) → Option (Cell N)
if_kept t None = None
if_kept t (Some c) = if has_range t c.what then Some c else None

-- ---- a cell gets another value

-- the numbers that both have
abbrev pub met : {N : Type 0} → Ops N → Cell N → Option (Value N) → N → Known N → Option (Known N)
met D c None n k = Some k
met D c (Some (Num m)) n k = option_map (λ v. with_value c (Num v) k) (D.meet m n)
met D c (Some (Ptr p)) n k = Some k

abbrev pub refined : {N : Type 0} → Ops N → Option (Cell N) → N → Known N → Option (Known N)
refined D None n k = Some k
refined D (Some c) n k = met D c c.value n k

-- null alone, or all but null
abbrev pub null_taken : {N : Type 0} → Cell N → (null : Bool) → Pointers N → Known N → Option (Known N)
null_taken c true p k = Some (with_value c (Ptr null_alone) k)
null_taken c false p k = if has_targets p.targets then Some (with_value c (Ptr (pointers false p.targets)) k) else None

abbrev pub null_met : {N : Type 0} → Cell N → Bool → Option (Value N) → Known N → Option (Known N)
null_met c b None k = Some k
null_met c b (Some (Num m)) k = Some k
null_met c b (Some (Ptr p)) k = null_taken c b p k

abbrev pub null_refined : {N : Type 0} → Option (Cell N) → (null : Bool) → Known N → Option (Known N)
null_refined None b k = Some k
null_refined (Some c) b k = null_met c b c.value k

-- ---- comparisons

abbrev pub when_not : Cmp → Bool → Cmp
when_not c true = c
when_not c false = opposite c

-- What the operands may be where they compare so; the second gets what it may be in the state that the first leaves.
abbrev pub narrowed_by : {N : Type 0} → Ops N → Option (N × N) → (first second : Known N → Option (Cell N)) → Known N
    → Option (Known N)
narrowed_by D None a b k = None
narrowed_by D (Some r) a b k = then_with (refined D (a k) r.0 k) (λ k. refined D (b k) r.1 k)

abbrev pub numbers_narrowed : {N : Type 0} → Ops N → Cmp → Option N → Option N
    → (first second : Known N → Option (Cell N)) → Known N → Option (Known N)
numbers_narrowed D c None y a b k = Some k
numbers_narrowed D c (Some x) None a b k = Some k
numbers_narrowed D c (Some x) (Some y) a b k = narrowed_by D (D.filter c x y) a b k

-- whether a comparison of this truth says that both are one pointer, if it says so of either
abbrev pub says_alike : Cmp → Bool → Option Bool
says_alike Eq t = Some t
says_alike Ne t = Some (not t)
says_alike Lt t = None
says_alike Le t = None
says_alike Gt t = None
says_alike Ge t = None

abbrev pub null_side : {N : Type 0} → (other : Pointers N) → Option Bool → (Known N → Option (Cell N)) → Known N
    → Option (Known N)
null_side q None a k = Some k
null_side q (Some b) a k = if is_null_alone q then null_refined (a k) b k else Some k

abbrev pub answer : Truths → Bool → Bool
answer r true = r.yes
answer r false = r.no

abbrev pub pointers_narrowed : {N : Type 0} → Ops N → Cmp → Bool → Option (Pointers N) → Option (Pointers N)
    → (first second : Known N → Option (Cell N)) → Known N → Option (Known N)
pointers_narrowed D c t None q a b k = Some k
pointers_narrowed D c t (Some p) None a b k = Some k
pointers_narrowed D c t (Some p) (Some q) a b k =
    if answer (comparison_of D c p q) t
    then then_with (null_side q (says_alike c t) a k) (λ k. null_side p (says_alike c t) b k) else None
