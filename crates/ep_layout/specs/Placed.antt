-- Members that are placed one by one.
use Rattle.std.specs.Prelude.{◌≡◌, ℕ, ◌+◌, ◌<◌, ◌≤◌, max, Bool, List, map, if◌then◌else◌}
use Rattle.std.specs.Int.{next_multiple_of}
use Rattle.ep_layout.specs.declared.extent.Extent.{Extent}
use Rattle.ep_layout.specs.declared.table.bodies.Placing.{Placing}
use Rattle.ep_layout.specs.Layout.{Layout, most_bytes, end_of, greatest_size, greatest_align}
use Rattle.ep_layout.specs.Table.{Table, MemberRow, known_layout, laid_out}
use Rattle.ep_layout.specs.Views.{members_view}

-- where the next member lies, and where it ends, when those before end at e
abbrev pub next_offset : Bool → ℕ → Extent → ℕ
next_offset is_union e x = if is_union then 0 else next_multiple_of e x.align

abbrev pub next_end : Bool → ℕ → Extent → ℕ
next_end is_union e x = if is_union then max e x.size else next_multiple_of e x.align + x.size

abbrev pub row : List ℕ → ℕ → ℕ → MemberRow
row name ty offset = record { name = name; ty = ty; offset = offset }

-- where members end
abbrev pub end_of_all : Bool → List Layout → ℕ
end_of_all is_union ls = if is_union then greatest_size ls else end_of 0 ls

abbrev pub layouts_of : Table → List (List ℕ × ℕ) → List Layout
layouts_of t members = map (λ m. known_layout t m.1) members

-- these members are placed
pub record IsPlaced (t : Table) (is_union : Bool) (members : List (List ℕ × ℕ)) (p : Placing) : Type 0 where
  pub rows : members_view p.members.items ≡ laid_out t is_union members
  pub end : p.end ≡ end_of_all is_union (layouts_of t members)
  pub align : p.align ≡ greatest_align (layouts_of t members)
  pub end_fits : p.end ≤ most_bytes
  pub positive : 0 < p.align
  pub align_fits : p.align ≤ 8
