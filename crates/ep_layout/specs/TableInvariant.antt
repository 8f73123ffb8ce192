-- What the code keeps of a table beside the types: sizes and alignments.
use Rattle.std.specs.Prelude.{◌≡◌, ℕ, ◌^◌, ◌≤◌, map, length, slice_get, Option, Some, option_map}
use Rattle.ep_layout.specs.declared.extent.Extent.{Extent}
use Rattle.ep_layout.specs.declared.table.Body.{Body}
use Rattle.ep_layout.specs.declared.table.AggregateEntry.{AggregateEntry}
use Rattle.ep_layout.specs.declared.table.Types.TheInside.{Inside}
use Rattle.ep_layout.specs.declared.types.Ty.{Ty}
use Rattle.ep_layout.specs.Extents.{extent_of, kept_extent}
use Rattle.ep_layout.specs.Table.{Table, AggregateRow, IsBuilt, at_aggregate, layout_rules, layout_of}

abbrev pub entry_view : AggregateEntry → AggregateRow
entry_view g = record {
  tag = g.tag.items;
  is_union = g.is_union;
  members = option_map (λ (b : Body). b.members) g.body;
}

abbrev pub table_of : Inside → Table
table_of s = record {
  model = s.model;
  types = s.types;
  aggregates = map entry_view s.aggregates.items;
  completed = s.completed.items;
}

abbrev pub entry_extent : AggregateEntry → Option Extent
entry_extent g = option_map (λ (b : Body). b.extent) g.body

pub record IsKept (s : Inside) : Type 0 where
  pub built : IsBuilt (table_of s)
  pub few_types : length s.types ≤ 2 ^ 31
  pub few_aggregates : length s.aggregates.items ≤ 2 ^ 31
  pub count : length s.extents.items ≡ length s.types
  pub types : (n : ℕ) (ty : Ty) → slice_get s.types n ≡ Some ty
      → slice_get s.extents.items n ≡ Some (kept_extent (table_of s) ty)
  pub aggregates : (a : ℕ) (g : AggregateEntry) → slice_get s.aggregates.items a ≡ Some g
      → entry_extent g
      ≡ option_map extent_of (at_aggregate (layout_rules s.model) (layout_of (table_of s)) (entry_view g))
