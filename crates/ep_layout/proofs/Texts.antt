-- The text of one aggregate, from what is kept of it.
use Rattle.std.proofs.Common.{◌≡◌, ◌∙◌, ℕ, List, ◌++◌, map, slice_get, Option, Some, option_map, option_and_then, ap}
use Rattle.std.proofs.Common.{sym}
use Rattle.std.proofs.lemmas.Option.{slice_get-map}
use Rattle.ep_layout.specs.declared.table.Body.{Body}
use Rattle.ep_layout.specs.declared.table.AggregateEntry.{AggregateEntry}
use Rattle.ep_layout.specs.declared.table.Types.TheInside.{Inside}
use Rattle.ep_layout.specs.declared.extent.Extent.{Extent}
use Rattle.ep_layout.specs.Layout.{Layout}
use Rattle.ep_layout.specs.Table.{Table, AggregateRow, MemberRow, at_aggregate, layout_rules, layout_of}
use Rattle.ep_layout.specs.Table.{aggregate_layout}
use Rattle.ep_layout.specs.Extents.{extent_of}
use Rattle.ep_layout.specs.TableInvariant.{IsKept, table_of, entry_view}
use Rattle.ep_layout.specs.Text.{head_line, members_text, aggregate_text, text_with}
use Rattle.ep_layout.proofs.Options.{map_some}

with_row : (t : Table) (o : Option AggregateRow) (g : AggregateRow) (p : Option Layout) (l : Layout) (ms : List MemberRow) (x : Extent) → o ≡ Some g → p ≡ Some l → g.members ≡ Some ms → extent_of l ≡ x
    → text_with t o p ≡ head_line g.tag g.is_union x.size x.align ++ members_text t ms
with_row t o g p l ms x e f m q = rw (e, f, m) (ap (λ (y : Extent). head_line g.tag g.is_union y.size y.align ++ members_text t ms) q)

pub aggregate_text_is : (s : Inside) → IsKept s → (a : ℕ) (g : AggregateEntry) (b : Body) → slice_get s.aggregates.items a ≡ Some g → g.body ≡ Some b
    → aggregate_text (table_of s) a ≡ head_line g.tag.items g.is_union b.extent.size b.extent.align ++ members_text (table_of s) b.members
aggregate_text_is s k a g b here body =
    let row : slice_get (map entry_view s.aggregates.items) a ≡ Some (entry_view g) = slice_get-map entry_view s.aggregates.items a ∙ ap (option_map entry_view) here in
    let l = map_some extent_of (at_aggregate (layout_rules s.model) (layout_of (table_of s)) (entry_view g)) b.extent (sym (k.aggregates a g here) ∙ ap (option_map (λ (c : Body). c.extent)) body) in
    let layout : aggregate_layout (table_of s) a ≡ Some l.0 = ap (option_and_then (at_aggregate (layout_rules s.model) (layout_of (table_of s)))) row ∙ l.1 in
    with_row (table_of s) (slice_get (map entry_view s.aggregates.items) a) (entry_view g) (aggregate_layout (table_of s) a) l.0 b.members b.extent row layout (ap (option_map (λ (c : Body). c.members)) body) l.2
