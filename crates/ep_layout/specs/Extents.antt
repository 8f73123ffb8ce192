-- The size and the alignment of a layout.
use Rattle.std.specs.Prelude.{◌<◌, ◌≤◌, Option, None, option_map}
use Rattle.ep_layout.specs.declared.extent.Extent.{Extent}
use Rattle.ep_layout.specs.declared.types.Ty.{Ty}
use Rattle.ep_layout.specs.declared.types.Ty.TheVariants.{Aggregate}
use Rattle.ep_layout.specs.Layout.{Layout, most_bytes}
use Rattle.ep_layout.specs.Table.{Table, at_type, layout_rules, layout_of}

abbrev pub extent_of : Layout → Extent
extent_of l = record { size = l.size; align = l.align }

-- an extent of a type
pub record IsExtent (e : Extent) : Type 0 where
  pub size : e.size ≤ most_bytes
  pub positive : 0 < e.align
  pub align : e.align ≤ 8

-- what is kept with a type: those of an aggregate are kept with the aggregate
abbrev pub kept_extent : Table → Ty → Option Extent
kept_extent t (Aggregate a) = None
kept_extent t ty = option_map extent_of (at_type (layout_rules t.model) t (layout_of t) ty)
