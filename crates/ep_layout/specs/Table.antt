-- A table of types: types by number, the aggregates that they name, and the layout of each type by recursion on the
-- type.
use Rattle.std.specs.Prelude.{◌≡◌, ℕ, zero, suc, ◌+◌, ◌*◌, ◌≤◌, Bool, true, false, ◌&&◌, ◌==◌, nat_lt, if◌then◌else◌}
use Rattle.std.specs.Prelude.{IsTrue, List, [], ◌∷◌, ◌++◌, length, map, find, position, slice_get, slice_set, Option}
use Rattle.std.specs.Prelude.{Some, None, option_map, option_and_then, is_some, unwrap_or, bytes_eq}
use Rattle.std.specs.List.{list_any, list_all}
use Rattle.std.specs.Int.{next_multiple_of}
use Rattle.ep_int.specs.declared.types.Model.{Model}
use Rattle.ep_int.specs.declared.types.Scalar.{Scalar}
use Rattle.ep_int.specs.declared.types.Scalar.TheVariants.{Int as Number, Pointer}
use Rattle.ep_layout.specs.declared.types.Ty.{Ty}
use Rattle.ep_layout.specs.declared.types.Ty.TheVariants.{Void, Int, Ptr, Array, Aggregate}
use Rattle.ep_layout.specs.declared.types.Leaf.{Leaf}
use Rattle.ep_layout.specs.declared.types.LayoutStop.{LayoutStop}
use Rattle.ep_layout.specs.declared.types.LayoutStop.TheVariants.{Incomplete, TooLarge}
use Rattle.ep_layout.specs.SameTypes.{is_same_type}
use Rattle.ep_layout.specs.Layout.{Layout, AreLeavesFrom, scalar_layout, array_layout, struct_layout, union_layout}
use Rattle.ep_layout.specs.Layout.{most_bytes}

-- a member of an aggregate: its name, its type, and where it lies in the aggregate
pub record MemberRow : Type 0 where
  pub name : List ℕ
  pub ty : ℕ
  pub offset : ℕ

-- a struct or union: its tag, which is empty where there is none, and its members in their order, once it is completed
pub record AggregateRow : Type 0 where
  pub tag : List ℕ
  pub is_union : Bool
  pub members : Option (List MemberRow)

-- The types by number, the aggregates by number, and the numbers of the completed aggregates in the order of their
-- completion.
pub record Table : Type 0 where
  pub model : Model
  pub types : List Ty
  pub aggregates : List AggregateRow
  pub completed : List ℕ

---- recursion on a type

-- what something is of each sort of type, given what it is of the parts: of the elements, of the members in their order
pub record TypeRules (A : Type 0) : Type 0 where
  pub scalar : Scalar → A
  pub array : ℕ → A → A
  pub struct : List A → A
  pub union : List A → A

-- the values at all of these types, where each has one
abbrev pub at_each : {A : Type 0} → (ℕ → Option A) → List ℕ → Option (List A)
at_each at [] = Some []
at_each at (n ∷ more) = option_and_then (λ x. option_map (λ xs. x ∷ xs) (at_each at more)) (at n)

-- a struct or a union with members of these types, given the values at types; none where a member has none
abbrev pub at_whole : {A : Type 0} → TypeRules A → (ℕ → Option A) → Bool → List ℕ → Option A
at_whole r at is_union types = option_map (if is_union then r.union else r.struct) (at_each at types)

-- an aggregate, given the values at types: none until it is completed
abbrev pub at_aggregate : {A : Type 0} → TypeRules A → (ℕ → Option A) → AggregateRow → Option A
at_aggregate r at g = option_and_then (λ ms. at_whole r at g.is_union (map (λ (m : MemberRow). m.ty) ms)) g.members

-- a type, given the values at its parts; void has none
abbrev pub at_type : {A : Type 0} → TypeRules A → Table → (ℕ → Option A) → Ty → Option A
at_type r t at Void = None
at_type r t at (Int i) = Some (r.scalar (Number i))
at_type r t at (Ptr e) = Some (r.scalar Pointer)
at_type r t at (Array e n) = option_map (r.array n) (at e)
at_type r t at (Aggregate a) = option_and_then (at_aggregate r at) (slice_get t.aggregates a)

-- a type whose parts lie at most so deep
unfoldable pub at_depth : {A : Type 0} → TypeRules A → Table → ℕ → ℕ → Option A
at_depth r t zero n = None
at_depth r t (suc k) n = option_and_then (at_type r t (at_depth r t k)) (slice_get t.types n)

-- A type's value by recursion on the type. Each array and each aggregate stands on what was there before it, so no type
-- is deeper than this.
abbrev pub by_type : {A : Type 0} → TypeRules A → Table → ℕ → Option A
by_type r t n = at_depth r t (length t.types + length t.completed) n

---- layout

abbrev pub layout_rules : Model → TypeRules Layout
layout_rules m = record { scalar = scalar_layout m; array = array_layout; struct = struct_layout; union = union_layout }

-- the layout of a type; none where it is void or incomplete
abbrev pub layout_of : Table → ℕ → Option Layout
layout_of t n = by_type (layout_rules t.model) t n

abbrev pub size : Table → ℕ → Option ℕ
size t n = option_map (λ (l : Layout). l.size) (layout_of t n)

abbrev pub align : Table → ℕ → Option ℕ
align t n = option_map (λ (l : Layout). l.align) (layout_of t n)

-- the leaves of a type; none where it is void or incomplete
abbrev pub leaves : Table → ℕ → List Leaf
leaves t n = unwrap_or (option_map (λ (l : Layout). l.leaves) (layout_of t n)) []

-- leaves as an object of a type has them, from its begin to its end; of nothing there are none
abbrev pub AreLeavesOf : Table → ℕ → List Leaf → Type 0
AreLeavesOf t n leaves = AreLeavesFrom t.model 0 (unwrap_or (size t n) 0) leaves

-- the layout of an aggregate; none until it is completed
abbrev pub aggregate_layout : Table → ℕ → Option Layout
aggregate_layout t a = option_and_then (at_aggregate (layout_rules t.model) (layout_of t)) (slice_get t.aggregates a)

---- what a table shows

abbrev pub is_type : Table → ℕ → Bool
is_type t n = nat_lt n (length t.types)

abbrev pub is_aggregate : Table → ℕ → Bool
is_aggregate t a = nat_lt a (length t.aggregates)

-- the number of a type
abbrev pub number_of : Table → Ty → Option ℕ
number_of t ty = position (is_same_type ty) t.types

-- the scalar that a type is
abbrev pub scalar_of : Table → ℕ → Option Scalar
scalar_of t n = option_and_then scalar_of_ty (slice_get t.types n) where
  scalar_of_ty : Ty → Option Scalar
  scalar_of_ty (Int i) = Some (Number i)
  scalar_of_ty (Ptr e) = Some Pointer
  scalar_of_ty ty = None

-- what a pointer type points to
abbrev pub target_of : Table → ℕ → Option ℕ
target_of t n = option_and_then target_of_ty (slice_get t.types n) where
  target_of_ty : Ty → Option ℕ
  target_of_ty (Ptr e) = Some e
  target_of_ty ty = None

-- the elements of an array type, and how many there are
abbrev pub elements_of : Table → ℕ → Option (ℕ × ℕ)
elements_of t n = option_and_then elements_of_ty (slice_get t.types n) where
  elements_of_ty : Ty → Option (ℕ × ℕ)
  elements_of_ty (Array e c) = Some (e, c)
  elements_of_ty ty = None

-- the aggregate that a type is
abbrev pub aggregate_of : Table → ℕ → Option ℕ
aggregate_of t n = option_and_then aggregate_of_ty (slice_get t.types n) where
  aggregate_of_ty : Ty → Option ℕ
  aggregate_of_ty (Aggregate a) = Some a
  aggregate_of_ty ty = None

abbrev pub is_union : Table → ℕ → Bool
is_union t a = unwrap_or (option_map (λ (g : AggregateRow). g.is_union) (slice_get t.aggregates a)) false

abbrev pub is_completed : Table → ℕ → Bool
is_completed t a = is_some (option_and_then (λ (g : AggregateRow). g.members) (slice_get t.aggregates a))

-- the members of an aggregate in their order; none until it is completed
abbrev pub members_of : Table → ℕ → List MemberRow
members_of t a = unwrap_or (option_and_then (λ (g : AggregateRow). g.members) (slice_get t.aggregates a)) []

-- the member of a name, the first one where several have it
abbrev pub member_named : Table → ℕ → List ℕ → Option MemberRow
member_named t a name = find (λ (m : MemberRow). bytes_eq name m.name) (members_of t a)

-- an aggregate has a member of this type at this offset
abbrev pub has_member_at : Table → ℕ → ℕ → ℕ → Bool
has_member_at t a offset ty = list_any (λ (m : MemberRow). m.offset == offset && m.ty == ty) (members_of t a)

---- how a table grows

abbrev pub empty : Model → Table
empty m = record { model = m; types = []; aggregates = []; completed = [] }

-- the types that a type names are there
abbrev pub names_known : Table → Ty → Bool
names_known t Void = true
names_known t (Int i) = true
names_known t (Ptr e) = is_type t e
names_known t (Array e n) = is_type t e
names_known t (Aggregate a) = is_aggregate t a

-- why a size isn't one of a type
abbrev pub stop_at_size : ℕ → Option LayoutStop
stop_at_size n = if nat_lt most_bytes n then Some TooLarge else None

-- why a type can't be made
abbrev pub type_stop : Table → Ty → Option LayoutStop
type_stop t (Array e n) = size_stop (size t e) where
  size_stop : Option ℕ → Option LayoutStop
  size_stop None = Some Incomplete
  size_stop (Some s) = stop_at_size (n * s)
type_stop t ty = None

-- a type that isn't there takes the next number
abbrev pub with_type : Table → Ty → Table
with_type t ty = record t { types = t.types ++ ty ∷ [] }

-- An equal type keeps its number.
abbrev pub type_added : Table → Ty → Table
type_added t ty = added (number_of t ty) where
  added : Option ℕ → Table
  added None = with_type t ty
  added (Some n) = t

-- a struct or union without members so far takes the next number
abbrev pub declared : Table → List ℕ → Bool → Table
declared t tag is_union =
    record t { aggregates = t.aggregates ++ (record { tag = tag; is_union = is_union; members = None }) ∷ [] }

-- the layout of a type that has one
abbrev pub known_layout : Table → ℕ → Layout
known_layout t n = unwrap_or (layout_of t n) (record { size = 0; align = 1; leaves = [] })

-- Members of a struct, each at the next multiple of its alignment behind the one before, when those before end at e.
abbrev pub struct_members : Table → ℕ → List (List ℕ × ℕ) → List MemberRow
struct_members t e [] = []
struct_members t e (m ∷ more) =
    let l = known_layout t m.1 in
    let offset = next_multiple_of e l.align in
    (record { name = m.0; ty = m.1; offset = offset }) ∷ struct_members t (offset + l.size) more

-- members of a union lie at 0
abbrev pub union_members : List (List ℕ × ℕ) → List MemberRow
union_members members = map (λ m. record { name = m.0; ty = m.1; offset = 0 }) members

-- members with their offsets
abbrev pub laid_out : Table → Bool → List (List ℕ × ℕ) → List MemberRow
laid_out t is_union members = if is_union then union_members members else struct_members t 0 members

-- the layout that an aggregate of these members has; none where a member has none
abbrev pub layout_with : Table → Bool → List (List ℕ × ℕ) → Option Layout
layout_with t is_union members = at_whole (layout_rules t.model) (layout_of t) is_union (map (λ m. m.1) members)

-- Why an aggregate can't be completed with these members. It has a size only where each member has one.
abbrev pub members_stop : Table → Bool → List (List ℕ × ℕ) → Option LayoutStop
members_stop t is_union members = layout_stop (layout_with t is_union members) where
  layout_stop : Option Layout → Option LayoutStop
  layout_stop None = Some Incomplete
  layout_stop (Some l) = stop_at_size l.size

-- an aggregate completed with its members, and last in the order of completion
abbrev pub completed_with : Table → ℕ → List (List ℕ × ℕ) → Table
completed_with t a members = completed (slice_get t.aggregates a) where
  completed : Option AggregateRow → Table
  completed None = t
  completed (Some g) = record t {
    aggregates = slice_set t.aggregates a (record g { members = Some (laid_out t g.is_union members) });
    completed = t.completed ++ a ∷ [];
  }

-- A table that was built: from the empty one by types that are new, whose parts are there, and whose size, if they are
-- arrays, is a size; by declarations; and by completions, each once.
pub data IsBuilt : Table → Type 0 where
  start : (m : Model) → IsBuilt (empty m)
  type_more : (t : Table) (ty : Ty) → IsBuilt t → IsTrue (names_known t ty) → number_of t ty ≡ None
      → type_stop t ty ≡ None
      → IsBuilt (with_type t ty)
  aggregate_more : (t : Table) (tag : List ℕ) (is_union : Bool) → IsBuilt t → IsBuilt (declared t tag is_union)
  members_more : (t : Table) (a : ℕ) (g : AggregateRow) (members : List (List ℕ × ℕ)) → IsBuilt t
      → slice_get t.aggregates a ≡ Some g → g.members ≡ None
      → IsTrue (list_all (λ m. is_type t m.1) members)
      → members_stop t g.is_union members ≡ None
      → IsBuilt (completed_with t a members)

-- a table that came from another by growing keeps its types, and its aggregates with their members
pub record Grows (t u : Table) : Type 0 where
  pub model : u.model ≡ t.model
  pub types : (n : ℕ) (ty : Ty) → slice_get t.types n ≡ Some ty → slice_get u.types n ≡ Some ty
  pub aggregates : (a : ℕ) (g : AggregateRow) → slice_get t.aggregates a ≡ Some g
      → (h : AggregateRow) × (slice_get u.aggregates a ≡ Some h) × (h.is_union ≡ g.is_union)
      × ((ms : List MemberRow) → g.members ≡ Some ms → h.members ≡ Some ms)
  pub deeper : length t.types + length t.completed ≤ length u.types + length u.completed
