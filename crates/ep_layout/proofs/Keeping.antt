-- What is kept beside the types stays right when the table grows.
use Rattle.std.proofs.Common.{◌≡◌, ℕ, ◌*◌, ◌<◌, true, List, [], length, map, slice_get, Option, Some}
use Rattle.ep_layout.proofs.PlacingLemmas.{within_limit}
use Rattle.std.proofs.Common.{None, option_map, option_and_then, IfSome, refl, sym, ◌∙◌, ap, subst, arith, nat_lt}
use Rattle.std.proofs.lemmas.Bool.Decides.{nat_tests}
use Rattle.std.proofs.lemmas.Option.{slice_get-map}
use Rattle.std.proofs.lemmas.List.{length-map}
use Rattle.ep_layout.specs.declared.extent.Extent.{Extent}
use Rattle.ep_layout.specs.declared.table.AggregateEntry.{AggregateEntry}
use Rattle.ep_layout.specs.declared.table.Types.TheInside.{Inside}
use Rattle.ep_layout.specs.declared.types.Ty.{Ty}
use Rattle.ep_layout.specs.declared.types.Ty.TheVariants.{Void, Int, Ptr, Array, Aggregate}
use Rattle.ep_layout.specs.Layout.{Layout}
use Rattle.ep_layout.specs.Table.{Table, AggregateRow, IsBuilt, at_type, at_aggregate, aggregate_layout, layout_rules}
use Rattle.ep_layout.specs.Table.{layout_of, type_stop, empty}
use Rattle.ep_layout.specs.Table.IsBuilt.{start}
use Rattle.ep_layout.specs.Extents.{IsExtent, extent_of, kept_extent}
use Rattle.ep_layout.specs.TableInvariant.{IsKept, table_of, entry_view, entry_extent}
use Rattle.ep_layout.proofs.Laid.{by_type_is}
use Rattle.ep_layout.proofs.Sizes.{known, small, element_laid, layout_fits}

-- the extent of a type
abbrev pub type_extent : Table → ℕ → Option Extent
type_extent t n = option_map extent_of (layout_of t n)

pub type_extent_is : (t : Table) → IsBuilt t → (n : ℕ) (ty : Ty) → slice_get t.types n ≡ Some ty → type_extent t n ≡ option_map extent_of (at_type (layout_rules t.model) t (layout_of t) ty)
type_extent_is t b n ty h = ap (option_map extent_of) (by_type_is (layout_rules t.model) t b n ∙ ap (option_and_then (at_type (layout_rules t.model) t (layout_of t))) h)

pub row_there : (s : Inside) → IsKept s → (n a : ℕ) → slice_get s.types n ≡ Some (Aggregate a) → a < length s.aggregates.items
row_there s k n a h =
    let p : nat_lt a (length (map entry_view s.aggregates.items)) ≡ true = known (table_of s) k.built n (Aggregate a) h in
    let e : length (map entry_view s.aggregates.items) ≡ length s.aggregates.items = simp length-map in
    grind (arith, nat_tests)

pub aggregate_extent_is : (s : Inside) → IsKept s → (n a : ℕ) (g : AggregateEntry) → slice_get s.types n ≡ Some (Aggregate a) → slice_get s.aggregates.items a ≡ Some g → entry_extent g ≡ type_extent (table_of s) n
aggregate_extent_is s k n a g h q =
    let row : slice_get (map entry_view s.aggregates.items) a ≡ Some (entry_view g) = slice_get-map entry_view s.aggregates.items a ∙ ap (option_map entry_view) q in
    k.aggregates a g q ∙ sym (type_extent_is (table_of s) k.built n (Aggregate a) h ∙ ap (λ (o : Option AggregateRow). option_map extent_of (option_and_then (at_aggregate (layout_rules s.model) (layout_of (table_of s))) o)) row)

kept_is : (t : Table) (ty : Ty) → ((a : ℕ) → ty ≡ Aggregate a → ⊥) → kept_extent t ty ≡ option_map extent_of (at_type (layout_rules t.model) t (layout_of t) ty)
kept_is t Void f = refl
kept_is t (Int i) f = refl
kept_is t (Ptr e) f = refl
kept_is t (Array e n) f = refl
kept_is t (Aggregate a) f = absurd (f a refl)

pub other_extent_is : (s : Inside) → IsKept s → (n : ℕ) (ty : Ty) (x : Option Extent) → slice_get s.types n ≡ Some ty → ((a : ℕ) → ty ≡ Aggregate a → ⊥) → slice_get s.extents.items n ≡ Some x → x ≡ type_extent (table_of s) n
other_extent_is s k n ty x h f q =
    let e : Some x ≡ Some (kept_extent (table_of s) ty) = sym q ∙ k.types n ty h in
    let same : x ≡ kept_extent (table_of s) ty = cc in
    same ∙ kept_is (table_of s) ty f ∙ sym (type_extent_is (table_of s) k.built n ty h)

some_fits : (t : Table) → IsBuilt t → (n : ℕ) (o : Option Layout) → layout_of t n ≡ o → IfSome (option_map extent_of o) IsExtent
some_fits t b n None h = tt
some_fits t b n (Some l) h = layout_fits t b n l h

pub extent_fits : (t : Table) → IsBuilt t → (n : ℕ) (x : Option Extent) → x ≡ type_extent t n → IfSome x IsExtent
extent_fits t b n x e = subst (λ (o : Option Extent). IfSome o IsExtent) (sym e) (some_fits t b n (layout_of t n) refl)

---- a type that is there could be made again

pub fits_again : (t : Table) → IsBuilt t → (n : ℕ) (ty : Ty) → slice_get t.types n ≡ Some ty → type_stop t ty ≡ None
fits_again t b n Void h = refl
fits_again t b n (Int i) h = refl
fits_again t b n (Ptr e) h = refl
fits_again t b n (Array e c) h = let l = element_laid t b n e c h in rw l.1 (within_limit (c * l.0.size) ((small t b).arrays n e c l.0 h l.1))
fits_again t b n (Aggregate a) h = refl

---- the start

pub kept_start : (s : Inside) → s.types ≡ [] → s.extents.items ≡ [] → s.aggregates.items ≡ [] → s.completed.items ≡ [] → IsKept s
kept_start s types extents aggregates completed =
    let nothing : empty s.model ≡ table_of s = same_table s types aggregates completed in
    record {
      built = subst IsBuilt nothing (start s.model);
      few_types = rw types (omega arith);
      few_aggregates = rw aggregates (omega arith);
      count = rw (types, extents) refl;
      types = λ n ty h. absurd (no_type n ty (subst (λ (l : List Ty). slice_get l n ≡ Some ty) types h));
      aggregates = λ a g h. absurd (no_row a g (subst (λ (l : List AggregateEntry). slice_get l a ≡ Some g) aggregates h));
    }
  where
    no_type : (n : ℕ) (ty : Ty) → slice_get [] n ≡ Some ty → ⊥
    no_type n ty h = cc

    no_row : (a : ℕ) (g : AggregateEntry) → slice_get [] a ≡ Some g → ⊥
    no_row a g h = cc

    same_table : (s : Inside) → s.types ≡ [] → s.aggregates.items ≡ [] → s.completed.items ≡ [] → empty s.model ≡ table_of s
    same_table s p q r = rw (p, q, r) refl

-- the size of an aggregate is that of its entry
pub entry_size_is : (s : Inside) → IsKept s → (a : ℕ) (g : AggregateEntry) (o : Option Extent) → slice_get s.aggregates.items a ≡ Some g
    → o ≡ entry_extent g → option_map (λ (e : Extent). e.size) o ≡ option_map (λ (l : Layout). l.size) (aggregate_layout (table_of s) a)
entry_size_is s k a g o h e =
    let row : slice_get (map entry_view s.aggregates.items) a ≡ Some (entry_view g) = slice_get-map entry_view s.aggregates.items a ∙ ap (option_map entry_view) h in
    ap (option_map (λ (x : Extent). x.size)) (e ∙ k.aggregates a g h) ∙ twice (at_aggregate (layout_rules s.model) (layout_of (table_of s)) (entry_view g))
    ∙ sym (ap (λ (r : Option AggregateRow). option_map (λ (l : Layout). l.size) (option_and_then (at_aggregate (layout_rules s.model) (layout_of (table_of s))) r)) row)
  where
    twice : (o : Option Layout) → option_map (λ (x : Extent). x.size) (option_map extent_of o) ≡ option_map (λ (l : Layout). l.size) o
    twice None = refl
    twice (Some l) = refl
